-- What entries a processor adds: none while an engine has a command of its call in hand, and no Detached.
use Rattle.std.proofs.Common.{◌≡◌, ℕ, ◌<◌, Bool, true, false, ◌&&◌, not, cond, length, Option, None, Some, refl, subst, arith}
use Rattle.std.specs.Option.{option_map, option_or}
use Rattle.std.specs.List.{find}
use Rattle.std.proofs.lemmas.Bool.{both_ways}
use Rattle.std.proofs.lemmas.Option.{same_Some}
use Rattle.bd_base.specs.declared.script.Call.{Call}
use Rattle.bd_base.specs.declared.script.Call.TheVariants.{Read, Write, RawRead, RawWrite}
use Rattle.bd_entry.specs.declared.act.Act.{Act}
use Rattle.bd_entry.specs.declared.act.Act.TheVariants as acts
use Rattle.bd_entry.specs.Actions.{Holders, Running, before_beginning, is_none_of, is_untouched, is_for_device, kernel_part, keys_to_revoke, next_act, own_act, piece_numbers, revoke, submit_or_poll}
use Rattle.bd_entry.specs.Calls.{Place, pieces_of_call}
use Rattle.bd_entry.specs.Refusals.{first_refusal}
use Rattle.bd_entry.specs.Store.{Store}
use Rattle.bd_entry.proofs.NextActs.{then_from}
use Rattle.bd_turns.specs.declared.turn.Wait.TheVariants as waits
use Rattle.bd_turns.specs.Processors as processors
use Rattle.bd_turns.specs.Processors.{Action, action_for, add_entry, clear, is_on, next_action, poll, post, revocation, row_of_entry, running_of, uncleared, unposted}
use Rattle.bd_turns.specs.State.{InHand, Progress, State, holder_of, outstanding, progress_of}
use Rattle.bd_turns.proofs.HandFrames.{hand_outstanding}

-- ---- while an engine has a command in hand

-- the action is one on the commands of the call
abbrev IsForEngine : Act → Type 0
IsForEngine (acts.Submit piece) = Unit {0}
IsForEngine acts.Poll = Unit {0}
IsForEngine act = ⊥

-- the call has pieces
abbrev HasPieces : Call → Type 0
HasPieces call = 0 < length (pieces_of_call call)

polls : (s : Store) (r : Running) (act : Act) (later : Option Act) → is_none_of r.outstanding ≡ false →
    option_or (submit_or_poll s r) later ≡ Some act → IsForEngine act
polls s r act later some is =
    by (find (λ number. is_for_device s r.place number && is_untouched r number) (piece_numbers r.place.call))
    (is_none_of r.outstanding) some is
  where
    by : (found : Option ℕ) (b : Bool) → b ≡ false →
        option_or (option_or (option_map acts.Submit found) (cond b None (Some acts.Poll))) later ≡ Some act → IsForEngine act
    by (Some number) b some is = subst IsForEngine (same_Some (acts.Submit number) act is) tt
    by None true some is = absurd (both_ways true some refl)
    by None false some is = subst IsForEngine (same_Some acts.Poll act is) tt

-- a call with pieces that has commands outstanding submits or polls
acts_on_commands : (s : Store) (holders : Holders) (r : Running) (call : Call) (act : Act) → HasPieces call → is_none_of r.outstanding ≡ false →
    option_or (revoke (keys_to_revoke s r.place call)) (own_act s holders r call) ≡ Some act → IsForEngine act
acts_on_commands s holders r (Read fd off len) act pieces some is = polls s r act (kernel_part s holders r.place) some is
acts_on_commands s holders r (Write fd off bytes) act pieces some is = polls s r act (kernel_part s holders r.place) some is
acts_on_commands s holders r (RawRead address range) act pieces some is =
    polls s r act None some (by (submit_or_poll s r) is)
  where
    by : (o : Option Act) → o ≡ Some act → option_or o None ≡ Some act
    by None is = is
    by (Some x) is = is
acts_on_commands s holders r (RawWrite address lo bytes) act pieces some is =
    polls s r act None some (by (submit_or_poll s r) is)
  where
    by : (o : Option Act) → o ≡ Some act → option_or o None ≡ Some act
    by None is = is
    by (Some x) is = is
acts_on_commands s holders r call act pieces some is = absurd (let none : 0 < 0 = pieces in omega arith)

-- such an action neither adds an entry nor posts a key
abbrev pub IsQuiet : Action → Type 0
IsQuiet (processors.Adds row entry) = ⊥
IsQuiet (processors.Posts key) = ⊥
IsQuiet action = Unit {0}

quiet_poll : (progress : Progress) → IsQuiet (poll progress)
quiet_poll progress = by (is_none_of progress.completed)
  where
    by : (b : Bool) → IsQuiet (cond b (processors.WaitsFor (waits.Completion (processors.least_outstanding (outstanding progress)))) processors.Polls)
    by true = tt
    by false = tt

quiet_action : (m : State) (p : Place) (act : Act) (action : Action) → IsForEngine act → action_for m p act ≡ Some action → IsQuiet action
quiet_action m p (acts.Submit piece) action for is = subst IsQuiet (same_Some (processors.Submits piece) action is) tt
quiet_action m p acts.Poll action for is =
    subst IsQuiet (same_Some (poll (progress_of m p.at.process)) action is) (quiet_poll (progress_of m p.at.process))
quiet_action m p act action for is = absurd for

-- while an engine has a command of its call in hand a processor adds no entry and posts nothing
pub quiet_with_hand : (m : State) (p : Place) (hand : InHand) (action : Action) → (progress_of m p.at.process).hand ≡ Some hand →
    0 < length (pieces_of_call p.call) → next_action m p ≡ Some action → IsQuiet action
quiet_with_hand m p hand action is pieces acting =
    let r = running_of m p in
    let some : is_none_of r.outstanding ≡ false = hand_outstanding (progress_of m p.at.process) hand is in
    let found = then_from (action_for m p) (next_act m.store (holder_of m) r) action acting in
    let first = before_beginning m.store (holder_of m) p (first_refusal m.store p.at.process p.call) in
    let own = option_or (revoke (keys_to_revoke m.store p p.call)) (own_act m.store (holder_of m) r p.call) in
    quiet_action m p found.0 action
    (acts_on_commands m.store (holder_of m) r p.call found.0 pieces some
    (begun (is_none_of p.before) (is_none_of r.outstanding) some first own found.0 found.1))
    found.2
  where
    begun : (a b : Bool) → b ≡ false → (first own : Option Act) (act : Act) → option_or (cond (not (a && b)) None first) own ≡ Some act →
        own ≡ Some act
    begun true true some first own act is = absurd (both_ways true some refl)
    begun true false some first own act is = is
    begun false b some first own act is = is
