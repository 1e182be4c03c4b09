-- What each command that words may ask for promises, on the sources and sinks that all commands are given.
use Rattle.std.specs.Prelude.{ℕ, Bool, Option, None, Some}
use Rattle.bd_outside.specs.Around.{ReadNothing, Reading, Writing, WroteNothing}
use Rattle.bd_top.specs.declared.status.Outcome.{Outcome}
use Rattle.bd_top.specs.Ends.{Checks, Makes, NoRun, ReplayAround, Replays}
use Rattle.bd_top.specs.Verify.{Verifies}
use Rattle.bd_top.specs.Words.{Request, check_of, make_of, replay_of, verify_of}

-- the sources and sinks of a command around the call
pub record Around : Type 0 where
  pub image : Reading
  pub script : Reading
  pub journal : Reading
  pub out : Writing
  pub disk : Writing

-- those of a replay among them
abbrev pub for_replay : Around → ReplayAround
for_replay around =
    record { image = around.image; script = around.script; out = around.out; disk = around.disk }

-- a replay that prints the journal or not, and reads none
pub record OnlyReplays (print : Bool) (around : Around) (outcome : Outcome) : Type 0 where
  pub replays : Replays print (for_replay around) outcome
  pub journal_same : ReadNothing around.journal

-- nothing went to disk, and there is no run
pub record OnlyVerifies (around : Around) (outcome : Outcome) : Type 0 where
  pub verifies : Verifies around.image around.script around.journal around.out outcome.status
  pub disk_same : WroteNothing around.disk
  pub no_run : NoRun outcome

-- no script and no journal was read, nothing went to disk, and there is no run
pub record OnlyChecks (around : Around) (outcome : Outcome) : Type 0 where
  pub checks : Checks around.image around.out outcome.status
  pub script_same : ReadNothing around.script
  pub journal_same : ReadNothing around.journal
  pub disk_same : WroteNothing around.disk
  pub no_run : NoRun outcome

-- nothing was read, and there is no run
pub record OnlyMakes (n : ℕ) (around : Around) (outcome : Outcome) : Type 0 where
  pub makes : Makes n around.out around.disk outcome.status
  pub image_same : ReadNothing around.image
  pub script_same : ReadNothing around.script
  pub journal_same : ReadNothing around.journal
  pub no_run : NoRun outcome

-- nothing was read, written or run
pub record DoesNothing (around : Around) (outcome : Outcome) : Type 0 where
  pub image_same : ReadNothing around.image
  pub script_same : ReadNothing around.script
  pub journal_same : ReadNothing around.journal
  pub out_same : WroteNothing around.out
  pub disk_same : WroteNothing around.disk
  pub no_run : NoRun outcome

-- what was asked for was done, as that command promises it; where nothing was asked for, nothing was done
abbrev pub Does : Option Request → Around → Outcome → Type 0
Does None around outcome = DoesNothing around outcome
Does (Some (replay_of image script out journal)) around outcome = OnlyReplays journal around outcome
Does (Some (verify_of image script journal)) around outcome = OnlyVerifies around outcome
Does (Some (check_of image)) around outcome = OnlyChecks around outcome
Does (Some (make_of n image script)) around outcome = OnlyMakes n around outcome
