-- The turns of processors leave the calls sound.
use Rattle.std.proofs.Common.{◌≡◌, ℕ, Bool, ◌+◌, ◌<◌, true, false, ◌||◌, ◌&&◌, List, [], ◌∷◌, ◌++◌, length, Option, None, Some, refl, sym, ap, subst, arith, ⊎_elim}
use Rattle.std.specs.Prelude.{nat_eq, All}
use Rattle.std.specs.Option.{option_map_or}
use Rattle.std.specs.List.{list_any}
use Rattle.std.proofs.lemmas.Bool.{and_parts, cond-true, false≢true, or_parts}
use Rattle.std.proofs.lemmas.List.Elements.{All-nil}
use Rattle.std.proofs.lemmas.Option.{same_Some}
use Rattle.bd_base.specs.declared.journal.At.{At}
use Rattle.bd_base.specs.declared.key.Key.{Key}
use Rattle.bd_base.specs.declared.script.Call.{Call}
use Rattle.bd_base.specs.declared.script.Call.TheVariants.{Enter, Create, Truncate, Close}
use Rattle.bd_base.specs.declared.script.How.TheVariants as hows
use Rattle.bd_base.specs.declared.volume.Volume.{Volume}
use Rattle.bd_base.proofs.Ranges.{find-range_lowest}
use Rattle.bd_entry.specs.declared.entry.Entry.{Entry}
use Rattle.bd_entry.specs.declared.entry.Entry.TheVariants as entries
use Rattle.bd_entry.specs.Actions.{is_for_device, is_untouched}
use Rattle.bd_entry.specs.Calls.{Place, has_missed, is_answered, is_made_by, pieces_of_call}
use Rattle.bd_entry.specs.Laws.{IsHistory}
use Rattle.bd_entry.specs.Refusals.{file_of}
use Rattle.bd_entry.specs.Store.{Descriptor, Store, descriptor_at}
use Rattle.bd_entry.proofs.Accesses.{of_call-in_store}
use Rattle.bd_entry.proofs.NextOpens.{not-true}
use Rattle.bd_tables.specs.State.{TableState}
use Rattle.bd_turns.proofs.AddedByActs.{processor_adds, processor_submits}
use Rattle.bd_turns.proofs.ClosingCalls.{leaves_cleared}
use Rattle.bd_turns.proofs.CommandSteps.{polled, polled_all, polled_commands, submitted_all, submitted_commands, with_submitted}
use Rattle.bd_turns.proofs.DoneTurns.{IsDone, grown}
use Rattle.bd_turns.proofs.CommandsOfSteps.{at_none}
use Rattle.bd_turns.proofs.KeptCommands.{no_commands}
use Rattle.bd_turns.proofs.LegalActs.{none_as_added, none_without_pieces, pieces_outstanding}
use Rattle.bd_turns.proofs.NextRevocations.{next_submits}
use Rattle.bd_turns.proofs.StayingDescriptors.{LeavesOpen}
use Rattle.bd_turns.proofs.TurnsDone.{LeavesCalls, before_none, calls_sound, commands_now, device_now, held_before, none_leaves, set_done}
use Rattle.bd_turns.specs.Added.{IsAdded}
use Rattle.bd_turns.specs.declared.turn.Row.{Row}
use Rattle.bd_turns.specs.declared.turn.Row.TheVariants as rows
use Rattle.bd_turns.specs.Processors as processors
use Rattle.bd_turns.specs.Processors.{next_action, running_of}
use Rattle.bd_turns.specs.Reached.{IsReached}
use Rattle.bd_turns.specs.Sound.{AreCallsSound, AreCommands, is_clear_at, is_told}
use Rattle.bd_turns.specs.State.{Posted, Progress, State, holder_of, outstanding, progress_of, running, with_progress}
use Rattle.bd_turns.specs.Turns.{after_adding, after_posting, after_polling, after_submitting, attached_tables, holds_after, holds_throughout, tables_after, with_entry, with_hold}

-- ---- entries

-- an entry changes no walk
entry_walks : (s : Store) (tables : TableState) (e : Entry) → (tables_after s tables e).walks ≡ tables.walks
entry_walks s tables (entries.Attached at fd part) = by (descriptor_at s at.process fd)
  where
    by : (slot : Option Descriptor) → (option_map_or (attached_tables s tables at.process fd part) slot tables).walks ≡ tables.walks
    by None = refl
    by (Some d) = refl
entry_walks s tables (entries.Cleared at owner fd part) = refl
entry_walks s tables (entries.Extended at file to None) = refl
entry_walks s tables (entries.Extended at file to (Some block)) = refl
entry_walks s tables e = refl

-- a call that clears rights has no pieces
cleared_without : (call : Call) (at : At) (owner fd part : ℕ) → is_made_by call (entries.Cleared at owner fd part) ≡ true →
    pieces_of_call call ≡ []
cleared_without (Enter name mode hows.Plain) at owner fd part made = refl
cleared_without (Truncate named size) at owner fd part made = refl
cleared_without (Close named) at owner fd part made = refl
cleared_without (Enter name mode hows.Direct) at owner fd part made = refl
cleared_without (Create name perms) at owner fd part made = refl
cleared_without call at owner fd part made = absurd (false≢true made)

-- nothing is outstanding as a processor adds an entry
pub none_as_processor_adds : (v : Volume) (m : State) (p : Place) (row : Row) (e : Entry) → IsReached v m → running m p.at.process ≡ Some p →
    next_action m p ≡ Some (processors.Adds row e) → IsAdded v m p e → outstanding (progress_of m p.at.process) ≡ []
none_as_processor_adds v m p row e reached is acting added =
    let all = pieces_outstanding v m p reached is in
    let made = (of_call-in_store v m.script m.journal m.store p.call e added.next).kind in
    ⊎_elim
    (λ of_act. none_as_added m.store (holder_of m) (running_of m p) of_act.act e all of_act.next of_act.adds)
    (λ clear.
    let key : Key = clear.clears.key in
    none_without_pieces p.call (outstanding (progress_of m p.at.process)) all
    (cleared_without p.call p.at key.process key.fd key.part
    (subst (λ (x : Entry). is_made_by p.call x ≡ true) (sym clear.clears.entry) made)))
    (processor_adds m p row e acting)

holds_row : (call : Call) (row : Row) → holds_throughout call ≡ true → holds_after call row ≡ true
holds_row call rows.Extend holds = refl
holds_row call row holds = holds

-- a process that holds its file now
with_hold-held : (call : Call) (row : Row) (file : Option ℕ) (progress : Progress) → holds_throughout call ≡ true →
    (with_hold call row file progress).held ≡ file
with_hold-held call row file progress holds = cond-true (holds_after call row) file None (holds_row call row holds)

-- its commands stay
with_hold-commands : (q : Place) (call : Call) (row : Row) (file : Option ℕ) (progress : Progress) → AreCommands q progress →
    AreCommands q (with_hold call row file progress)
with_hold-commands q call row file progress are = record {
  differ = are.differ;
  pieces = are.pieces;
  submitted = are.submitted;
  in_hand = are.in_hand;
  completed = are.completed;
}

abbrev SoundAfter : Volume → State → Type 0
SoundAfter v next = IsHistory v next.script next.journal next.store → AreCallsSound next

pub adds_sound : (v : Volume) (m : State) (p : Place) (row : Row) (e : Entry) → IsReached v m → running m p.at.process ≡ Some p →
    next_action m p ≡ Some (processors.Adds row e) → IsAdded v m p e → SoundAfter v (after_adding m p row e)
adds_sound v m p row e reached is acting added history =
    let now = progress_of m p.at.process in
    let next = with_entry m p.call e p.at in
    let base : State = record next { tables = tables_after next.store m.tables e } in
    let progress = with_hold p.call row (file_of m.store p) now in
    let none : outstanding progress ≡ [] = none_as_processor_adds v m p row e reached is acting added in
    let is_done : IsDone v m (with_progress base p.at.process progress) p (Some e) progress =
    set_done v m p reached is base (Some e) progress refl refl refl refl (ap (λ (walks : List _). length walks) (entry_walks next.store m.tables e))
    (λ x same. subst (IsAdded v m p) (same_Some e x same) added) refl in
    let leaves : LeavesCalls m p (Some e) progress =
    record {
      commands = no_commands (grown p (Some e)) progress none;
      for_device = λ goes.
          subst (All (λ piece. is_for_device m.store p piece ≡ true)) (sym none)
          (All-nil (λ piece. is_for_device m.store p piece ≡ true));
      whole = λ x same whole. none;
      held = λ holds key some. with_hold-held p.call row (file_of m.store p) now holds;
      leaves = λ other q key differ runs_m some x same.
          subst (λ (y : Entry). LeavesOpen y key.process key.fd) (same_Some e x same)
          (leaves_cleared v m p row e reached is acting added other q key differ runs_m some);
    } in
    calls_sound v m (with_progress base p.at.process progress) p (Some e) progress reached is_done leaves history

-- ---- posts

pub posts_sound : (v : Volume) (m : State) (p : Place) (post : Posted) → IsReached v m → running m p.at.process ≡ Some p →
    SoundAfter v (after_posting m p post)
posts_sound v m p post reached is history =
    let now = progress_of m p.at.process in
    let base : State = record m { posted = m.posted ++ post ∷ [] } in
    let progress = with_hold p.call rows.Post (file_of m.store p) now in
    let is_done : IsDone v m (with_progress base p.at.process progress) p None progress =
    set_done v m p reached is base None progress refl refl refl refl refl (λ x none. none_leaves x none) refl in
    let leaves : LeavesCalls m p None progress =
    record {
      commands = at_none p progress (with_hold-commands p p.call rows.Post (file_of m.store p) now (commands_now v m p reached is));
      for_device = device_now v m p reached is;
      whole = λ x none. none_leaves x none;
      held = λ holds key some. with_hold-held p.call rows.Post (file_of m.store p) now holds;
      leaves = λ other q key differ runs_m some x none. none_leaves x none;
    } in
    calls_sound v m (with_progress base p.at.process progress) p None progress reached is_done leaves history

-- ---- submissions and polls

-- what is known of a piece that is submitted
pub record IsFresh (m : State) (p : Place) (piece : ℕ) : Type 0 where
  pub within : piece < length (pieces_of_call p.call)
  pub untold : is_told p piece ≡ false
  pub fresh : list_any (nat_eq piece) (outstanding (progress_of m p.at.process)) ≡ false
  pub device : is_for_device m.store p piece ≡ true

pub is_fresh : (m : State) (p : Place) (piece : ℕ) → next_action m p ≡ Some (processors.Submits piece) → IsFresh m p piece
is_fresh m p piece acting =
    let r = running_of m p in
    let submits = next_submits m.store (holder_of m) r piece (processor_submits m p piece acting) in
    let test : ℕ → Bool = λ number. is_for_device m.store p number && is_untouched r number in
    let lowest = find-range_lowest test 0 (length (pieces_of_call p.call)) piece submits.found in
    let both = and_parts (is_for_device m.store p piece) (is_untouched r piece) lowest.passes in
    let held = list_any (nat_eq piece) (outstanding (progress_of m p.at.process)) in
    let touched = not-true (is_answered piece p.before || has_missed piece p.before || held) both.1 in
    let parts = or_parts (is_answered piece p.before || has_missed piece p.before) held touched in
    let to : piece < 0 + length (pieces_of_call p.call) = lowest.to in
    record { within = omega (to, arith); untold = parts.0; fresh = parts.1; device = both.0 }

pub submits_sound : (v : Volume) (m : State) (p : Place) (piece : ℕ) → IsReached v m → running m p.at.process ≡ Some p →
    next_action m p ≡ Some (processors.Submits piece) → SoundAfter v (after_submitting m p piece)
submits_sound v m p piece reached is acting history =
    let now = progress_of m p.at.process in
    let progress = with_submitted now piece in
    let facts = is_fresh m p piece acting in
    let is_done : IsDone v m (with_progress m p.at.process progress) p None progress =
    set_done v m p reached is m None progress refl refl refl refl refl (λ x none. none_leaves x none) refl in
    let leaves : LeavesCalls m p None progress =
    record {
      commands = at_none p progress (submitted_commands p now piece (commands_now v m p reached is) facts.within facts.untold facts.fresh);
      for_device = λ goes. submitted_all (λ piece. is_for_device m.store p piece ≡ true) now piece facts.device (device_now v m p reached is goes);
      whole = λ x none. none_leaves x none;
      held = λ holds key some. held_before v m p reached is key (before_none p (is_clear_at key) some);
      leaves = λ other q key differ runs_m some x none. none_leaves x none;
    } in
    calls_sound v m (with_progress m p.at.process progress) p None progress reached is_done leaves history

pub polls_sound : (v : Volume) (m : State) (p : Place) → IsReached v m → running m p.at.process ≡ Some p → SoundAfter v (after_polling m p)
polls_sound v m p reached is history =
    let now = progress_of m p.at.process in
    let progress = polled now in
    let is_done : IsDone v m (with_progress m p.at.process progress) p None progress =
    set_done v m p reached is m None progress refl refl refl refl refl (λ x none. none_leaves x none) refl in
    let leaves : LeavesCalls m p None progress =
    record {
      commands = at_none p progress (polled_commands p now (commands_now v m p reached is));
      for_device = λ goes. polled_all (λ piece. is_for_device m.store p piece ≡ true) now (device_now v m p reached is goes);
      whole = λ x none. none_leaves x none;
      held = λ holds key some. held_before v m p reached is key (before_none p (is_clear_at key) some);
      leaves = λ other q key differ runs_m some x none. none_leaves x none;
    } in
    calls_sound v m (with_progress m p.at.process progress) p None progress reached is_done leaves history
