-- What a whole run has done.
use Rattle.std.specs.Prelude.{◌≡◌, ℕ, Bool, true, false, List, ◌++◌, [], None}
use Rattle.bd_base.specs.declared.script.Script.{Script}
use Rattle.bd_base.specs.declared.volume.Volume.{Volume}
use Rattle.bd_entry.specs.declared.entry.Entry.{Entry}
use Rattle.bd_entry.specs.History.{InOrder, Legal}
use Rattle.bd_entry.specs.Store.{Store, start_store, volume_in}
use Rattle.bd_entry.specs.Texts.{journal_text}
use Rattle.bd_image.specs.Rules.{Accepted}
use Rattle.bd_image.specs.Volumes.{image_of}
use Rattle.bd_outside.specs.Around.{Reading}
use Rattle.bd_report.specs.Counts.{cache_line}
use Rattle.bd_report.specs.Reports.{report_text}
use Rattle.bd_top.specs.Inputs.{IsImageRead, IsScriptRead, first_unbuilt}
use Rattle.bd_turns.specs.declared.turn.Event.{Event}
use Rattle.bd_turns.specs.Course.{IsCourse, visible}
use Rattle.bd_turns.specs.State.{State, boot_state}

-- the journal as it is printed after a report, or nothing
abbrev pub printed : Bool → List Entry → List ℕ
printed true journal = journal_text journal
printed false journal = []

-- the text of a run: the report, the line of the cache, and the journal where it is printed
abbrev pub run_text : Script → Bool → List Entry → List Event → List ℕ
run_text script print journal trace = report_text script journal ++ cache_line trace ++ printed print journal

-- a whole run of the script over the volume: its journal is one legal history, from the volume's store to the store
-- whose image is left; the trace is that of the course and shows the journal; the text tells of both
pub record IsRun
    (v : Volume) (script : Script) (print : Bool) (journal : List Entry) (trace : List Event) (text left : List ℕ) :
    Type 0 where
  pub store : Store
  pub legal : Legal script (start_store v script) journal store
  pub in_order : InOrder script journal
  pub state : State
  pub course : IsCourse (start_store v script) script trace state
  pub journal_is : state.journal ≡ journal
  pub store_is : state.store ≡ store
  pub shown : visible (boot_state (start_store v script) script) trace ≡ journal
  pub image_is : left ≡ image_of (volume_in store)
  pub accepted : Accepted left
  pub text_is : text ≡ run_text script print journal trace

-- a whole run of the script that was read over the volume of the image that was read; all its calls are built
pub record IsReplay
    (image script_read : Reading) (print : Bool) (journal : List Entry) (trace : List Event) (text left : List ℕ) :
    Type 0 where
  pub volume : Volume
  pub script : Script
  pub image_is : IsImageRead image volume
  pub script_is : IsScriptRead script_read script
  pub built : first_unbuilt script ≡ None
  pub run : IsRun volume script print journal trace text left
