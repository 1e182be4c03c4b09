-- The entries that processors add for acts of their calls are legal.
use Rattle.std.proofs.Common.{◌≡◌, ℕ, ◌<◌, Bool, true, false, ◌&&◌, cond, List, [], ◌∷◌, length, Option, None, Some, refl, sym, ap, ◌∙◌, subst, arith, ⊎_elim}
use Rattle.std.specs.Prelude.{All}
use Rattle.std.specs.Option.{option_map, option_or}
use Rattle.std.proofs.lemmas.Bool.{false≢true}
use Rattle.std.proofs.lemmas.List.Elements.{All-head}
use Rattle.std.proofs.lemmas.Option.{none-some, same_Some}
use Rattle.bd_base.specs.declared.key.Key.{Key}
use Rattle.bd_base.specs.declared.script.Call.{Call}
use Rattle.bd_base.specs.declared.script.Call.TheVariants.{Read, Write, RawRead, RawWrite}
use Rattle.bd_base.specs.declared.volume.Volume.{Volume}
use Rattle.bd_entry.specs.declared.act.Act.{Act}
use Rattle.bd_entry.specs.declared.act.Act.TheVariants as acts
use Rattle.bd_entry.specs.declared.entry.Entry.{Entry}
use Rattle.bd_entry.specs.Actions.{Holders, Running, entry_of_act, is_none_of, keys_to_revoke, kernel_part, next_act, own_act, revoke, submit_or_poll}
use Rattle.bd_entry.specs.Calls.{Place, is_ended_by, pieces_of_call}
use Rattle.bd_entry.specs.NextEntries.{IsLegalAt}
use Rattle.bd_entry.specs.Store.{Store}
use Rattle.bd_entry.proofs.NextActs.{or_from_either, or_none}
use Rattle.bd_entry.proofs.NextEntries.{next_entries_are_legal}
use Rattle.bd_entry.proofs.NextPieces.{submitted_adds_none}
use Rattle.bd_turns.proofs.AddedByActs.{IsOfAct}
use Rattle.bd_turns.proofs.NextRevocations.{next_act-cases}
use Rattle.bd_turns.proofs.RunningPlaces.{legal_is_added, ready}
use Rattle.bd_turns.specs.Added.{IsAdded}
use Rattle.bd_turns.specs.Processors.{running_of}
use Rattle.bd_turns.specs.Reached.{IsReached}
use Rattle.bd_turns.specs.Sound.{AreUnended}
use Rattle.bd_turns.specs.State.{State, holder_of, outstanding, progress_of, running}

-- ---- what is outstanding as an entry is added

-- a list of numbers below 0 is empty
none_below_zero : (xs : List ℕ) → All (λ x. x < 0) xs → xs ≡ []
none_below_zero [] all = refl
none_below_zero (x ∷ xs) all = let below : x < 0 = All-head (λ n. n < 0) x xs all in absurd (omega arith)

-- a call without pieces has no command outstanding
pub none_without_pieces : (call : Call) (pieces : List ℕ) → All (λ piece. piece < length (pieces_of_call call)) pieces →
    pieces_of_call call ≡ [] → pieces ≡ []
none_without_pieces call pieces all none =
    none_below_zero pieces (subst (λ (ps : List _). All (λ piece. piece < length ps) pieces) none all)

-- where nothing is to be polled, nothing is outstanding
nothing_outstanding : (pieces : List ℕ) → cond (is_none_of pieces) None (Some acts.Poll) ≡ None → pieces ≡ []
nothing_outstanding [] none = refl
nothing_outstanding (number ∷ numbers) none = absurd (none-some acts.Poll (sym none))

-- a call that submits, polls or goes on by itself adds an entry only where nothing is outstanding
moved_after : (s : Store) (r : Running) (rest : Option Act) (act : Act) (e : Entry) →
    option_or (submit_or_poll s r) rest ≡ Some act → entry_of_act s r.place act ≡ Some e → r.outstanding ≡ []
moved_after s r rest act e is adds =
    ⊎_elim
    (λ submits. absurd (none-some e (sym (submitted_adds_none s r act submits) ∙ adds)))
    (λ later.
    nothing_outstanding r.outstanding
    (or_none (option_map acts.Submit _) (cond (is_none_of r.outstanding) None (Some acts.Poll)) later.0).1)
    (or_from_either (submit_or_poll s r) rest act is)

-- so does each call by its own act
own_after : (s : Store) (holders : Holders) (r : Running) (call : Call) (act : Act) (e : Entry) →
    All (λ piece. piece < length (pieces_of_call call)) r.outstanding → own_act s holders r call ≡ Some act →
    entry_of_act s r.place act ≡ Some e → r.outstanding ≡ []
own_after s holders r (Read fd off len) act e all own adds = moved_after s r (kernel_part s holders r.place) act e own adds
own_after s holders r (Write fd off bytes) act e all own adds = moved_after s r (kernel_part s holders r.place) act e own adds
own_after s holders r (RawRead address range) act e all own adds =
    absurd (none-some e (sym (submitted_adds_none s r act own) ∙ adds))
own_after s holders r (RawWrite address lo bytes) act e all own adds =
    absurd (none-some e (sym (submitted_adds_none s r act own) ∙ adds))
own_after s holders r call act e all own adds = none_below_zero r.outstanding all

revokes_adds_none : (s : Store) (p : Place) (keys : List Key) (own : Option Act) (act : Act) (e : Entry) →
    option_or (revoke keys) own ≡ Some act → entry_of_act s p act ≡ Some e → own ≡ Some act
revokes_adds_none s p [] own act e is adds = is
revokes_adds_none s p (key ∷ keys) own act e is adds =
    absurd (none-some e (ap (entry_of_act s p) (same_Some (acts.Revoke (key ∷ keys)) act is) ∙ adds))

-- nothing is outstanding as a processor adds the entry of an act
pub none_as_added : (s : Store) (holders : Holders) (r : Running) (act : Act) (e : Entry) →
    All (λ piece. piece < length (pieces_of_call r.place.call)) r.outstanding → next_act s holders r ≡ Some act →
    entry_of_act s r.place act ≡ Some e → r.outstanding ≡ []
none_as_added s holders r act e all is adds =
    ⊎_elim
    (λ kept. kept.no_command)
    (λ goes_on.
    own_after s holders r r.place.call act e all
    (revokes_adds_none s r.place (keys_to_revoke s r.place r.place.call) (own_act s holders r r.place.call) act e goes_on.act_is
    adds)
    adds)
    (next_act-cases s holders r act is)

-- ---- calls without commands

-- a running call of which no command is outstanding is not ended by its entries
pub unfinished_without : (m : State) (p : Place) → AreUnended m → running m p.at.process ≡ Some p →
    outstanding (progress_of m p.at.process) ≡ [] → is_ended_by p.call p.before ≡ false
unfinished_without m p unended is none =
    by (is_ended_by p.call p.before)
    (sym (ap (λ (pieces : List ℕ). is_ended_by p.call p.before && is_none_of pieces) none) ∙ unended p.at.process p is)
  where
    by : (b : Bool) → (b && true) ≡ false → b ≡ false
    by true ended = absurd (false≢true (sym ended))
    by false ended = refl

-- what holds of the commands of a running call
pub pieces_outstanding : (v : Volume) (m : State) (p : Place) → IsReached v m → running m p.at.process ≡ Some p →
    All (λ piece. piece < length (pieces_of_call p.call)) (outstanding (progress_of m p.at.process))
pieces_outstanding v m p reached is = (reached.sound.calls.commands.of_running p.at.process p is).pieces

-- ---- legal entries

-- the entry of an act is the next one of the journal
pub acts_add_legally : (v : Volume) (m : State) (p : Place) (e : Entry) → IsReached v m → running m p.at.process ≡ Some p →
    IsOfAct m p e → IsAdded v m p e
acts_add_legally v m p e reached is of_act =
    let none = none_as_added m.store (holder_of m) (running_of m p) of_act.act e (pieces_outstanding v m p reached is) of_act.next
    of_act.adds in
    let unfinished = unfinished_without m p reached.sound.calls.unended is none in
    let legal : IsLegalAt m.store p e =
    next_entries_are_legal p.call m.store (holder_of m) p.at p.before (outstanding (progress_of m p.at.process)) of_act.act e
    (ready v m p reached is unfinished) of_act.next of_act.adds in
    legal_is_added v m p e reached is unfinished legal
