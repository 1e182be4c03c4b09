-- What holds of the parts of a machine that show a state to which it can come.
use Rattle.std.proofs.Common.{◌≡◌, ℕ, [], All, length, sym, ap, ◌∙◌, subst}
use Rattle.bd_base.specs.declared.script.Script.{Script}
use Rattle.bd_base.specs.declared.volume.Volume.{Volume}
use Rattle.bd_base.specs.Scripts.{IsWithinLimits}
use Rattle.bd_base.specs.Volumes.{IsSoundVolume}
use Rattle.bd_entry.specs.Store.{start_store}
use Rattle.bd_kernel.specs.Disks.{unused_disk}
use Rattle.bd_machine.specs.declared.parts.Parts.{Parts}
use Rattle.bd_machine.specs.Booted.{AreNew, IsBooted, IsNew}
use Rattle.bd_machine.specs.Kept.{IsKept, state_shown}
use Rattle.bd_machine.specs.Logs.{LogState}
use Rattle.bd_machine.specs.Machine.{InItsStates, PlainWhole, booted, shown, state_of}
use Rattle.bd_machine.specs.Shows.{PlainParts, Shows, plain_sides}
use Rattle.bd_machine.specs.Whole.{Whole}
use Rattle.bd_machine.specs.Turns.{AreBuilt, IsAt}
use Rattle.bd_machine.proofs.ShowingBoot.{boot_shows}
use Rattle.bd_machine.proofs.ShowingStates.{is_shown}
use Rattle.bd_turns.proofs.Booting.{boot_is_reached}
use Rattle.bd_turns.specs.State.{State, boot_state}
use Rattle.bd_tables.specs.declared.sides.Tables as sides

-- over tables for one thread a machine shows one state
pub state_is : {M : Type 0} (script : Script) (x : PlainParts M) (m : State) → IsAt plain_sides script x m →
    m ≡ state_shown script x
state_is script x m at = is_shown script x m at.shows at.reached

-- and it always shows that
pub at_kept : {M : Type 0} (script : Script) (x : PlainParts M) → IsKept plain_sides script x →
    IsAt plain_sides script x (state_shown script x)
at_kept script x kept = subst (IsAt plain_sides script x) (state_is script x kept.0 kept.1) kept.1

-- what holds of each state that it shows holds of that
pub of_state : {M : Type 0} (x : PlainWhole M) (Holds : State → Type 0) → InItsStates plain_sides x Holds → Holds (state_of x)
of_state x Holds holds =
    subst Holds (state_is x.script x.parts holds.some.0 holds.some.1) (holds.each holds.some.0 holds.some.1)

-- what holds of each state that a machine shows, where this is what contracts see of it
pub in_its_states : {T M P : Type 0} {K : sides.Ghosts T P} (script : Script) (x : Parts T M P) (y : Whole T M P)
    (Holds : State → Type 0) → record { script = script; parts = x } ≡ y → IsKept K script x →
    ((m : State) → IsAt K script x m → Holds m) → InItsStates K y Holds
in_its_states {T} {M} {P} {K} script x y Holds is kept each =
    subst (λ (w : Whole T M P). InItsStates K w Holds) is (record { some = kept; each = each })

-- before the first turn
pub boot_at : {T M P : Type 0} {K : sides.Ghosts T P} (v : Volume) (script : Script) (x : Parts T M P) →
    IsSoundVolume v → IsWithinLimits script → AreBuilt script →
    IsBooted K v script x → IsAt K script x (boot_state (start_store v script) script)
boot_at v script x sound limits built booted =
    record {
      shows = boot_shows v script x booted;
      reached = (v, boot_is_reached v script sound limits);
      built = built;
    }

-- so it is kept
pub boot_kept : {T M P : Type 0} {K : sides.Ghosts T P} (v : Volume) (script : Script) (x : Parts T M P) →
    IsSoundVolume v → IsWithinLimits script → AreBuilt script → IsBooted K v script x → IsKept K script x
boot_kept v script x sound limits built booted =
    (boot_state (start_store v script) script, boot_at v script x sound limits built booted)

-- and over tables for one thread it shows the state before the first turn
pub boot_shown : {M : Type 0} (v : Volume) (script : Script) (x : PlainWhole M) → IsSoundVolume v → IsWithinLimits script →
    AreBuilt script → x.script ≡ script → IsBooted plain_sides v script x.parts → shown x ≡ booted v script
boot_shown v script x sound limits built script_is is =
    λ i. record { state = state i; trace = is.events i; turns = is.turns i }
  where
    state : state_of x ≡ boot_state (start_store v script) script
    state =
        ap (λ (s : Script). state_shown s x.parts) script_is
        ∙ sym (state_is script x.parts (boot_state (start_store v script) script) (boot_at v script x.parts sound limits built is))

-- how many turns were taken, and what they did, shows in no state
pub told_shows : {T M P : Type 0} {K : sides.Ghosts T P} (script : Script) (x y : Parts T M P) (m : State) (log : LogState) →
    log.entries ≡ x.log.entries → Shows K script x m → y ≡ record x { log = log } → Shows K script y m
told_shows {T} {M} {P} {K} script x y m log entries shows is =
    subst (λ (z : Parts T M P). Shows K script z m) (sym is)
    (record {
      script_is = shows.script_is;
      disk = shows.disk;
      users = shows.users;
      holders = shows.holders;
      journal = shows.journal ∙ sym entries;
      tables = shows.tables;
      posted = shows.posted;
      count = shows.count;
      progresses = shows.progresses;
      each = shows.each;
    })

-- the parts of a machine that was made for a volume
pub made_booted : {T M P : Type 0} {K : sides.Ghosts T P} (v : Volume) (script : Script) (x : Parts T M P) (count : ℕ) →
    count ≡ length script.processes → x.disk ≡ unused_disk v.total v.inodes v.bytes count → AreNew K script x.tables →
    length x.processes.items ≡ count → All IsNew x.processes.items → x.log.entries ≡ [] → x.log.events ≡ [] →
    x.log.turns ≡ 0 → IsBooted K v script x
made_booted v script x count count_is disk tables processes new entries events turns =
    record {
      disk = disk ∙ ap (unused_disk v.total v.inodes v.bytes) count_is;
      tables = tables;
      count = processes ∙ count_is;
      new = new;
      entries = entries;
      events = events;
      turns = turns;
    }
