-- The two laws of progress: some actor acts as long as a call has not ended, and each effective turn leaves fewer. Each
-- is the contract of a function of src/progress_laws.rt.
use Rattle.std.specs.Prelude.{◌≡◌, ℕ, false}
use Rattle.bd_base.specs.declared.volume.Volume.{Volume}
use Rattle.bd_turns.specs.Reached.{IsActor, IsReached}
use Rattle.bd_turns.specs.State.{State}
use Rattle.bd_turns.specs.Turns.{LowersRest, SomeActorActs, after_turn, all_ended, answer_of}

-- as long as a call has not ended, some actor's turn has an effect
abbrev pub NeverStuck : Type 0
NeverStuck = (v : Volume) (m : State) → IsReached v m → all_ended m ≡ false → SomeActorActs m

-- each effective turn of any actor lowers the rest, and another changes nothing
abbrev pub RestFalls : Type 0
RestFalls =
    (v : Volume) (m : State) (actor : ℕ) → IsReached v m → IsActor m actor →
    LowersRest (answer_of m actor) m (after_turn m actor)
