-- The running calls of all processes after an effective turn: they stay, but for the one in whose name the turn was, which
-- goes on or ends.
use Rattle.std.proofs.Common.{◌≡◌, ◌≢◌, ◌⊎◌, inl, inr, ℕ, ◌+◌, ◌<◌, Bool, true, false, cond, List, [], ◌∷◌, ◌++◌, length, Option, None, Some, refl, sym, ap, ◌∙◌, subst, arith, ⊎_elim}
use Rattle.std.specs.Prelude.{nat_eq}
use Rattle.std.specs.Option.{option_map, option_to_list}
use Rattle.std.proofs.lemmas.Bool.{and_parts, and_right, both_ways, cases_Bool, ne_eqb}
use Rattle.std.proofs.lemmas.List.{append-nil, get_or-set_other, get_or-set_same}
use Rattle.bd_base.specs.declared.journal.At.{At}
use Rattle.bd_base.specs.declared.script.Call.{Call}
use Rattle.bd_base.specs.declared.script.Script.{Script}
use Rattle.bd_entry.specs.declared.entry.Entry.{Entry}
use Rattle.bd_entry.specs.Actions.{is_none_of}
use Rattle.bd_entry.specs.Calls.{Place, at_of, call_at, entries_of, is_ended_by, same_call}
use Rattle.bd_entry.proofs.CallOrder.{entries_of-joined, entries_of-other, other_process, same_self}
use Rattle.bd_entry.proofs.HistoryLaws.{process_there}
use Rattle.bd_turns.proofs.Cases.{running_process}
use Rattle.bd_turns.proofs.RunningPlaces.{RunsAt, runs_at}
use Rattle.bd_turns.specs.Sound.{AreCallsSound, HasProcesses}
use Rattle.bd_turns.specs.State.{Progress, State, has_ended, outstanding, place_of, progress_of, running, running_at, with_progress}
use Rattle.bd_turns.specs.Turns.{after_effect, with_call_ended, with_turn_used}

-- ---- the place of a running call

-- the process is one of the machine
pub runs_within : (m : State) (process : ℕ) (p : Place) → HasProcesses m → running m process ≡ Some p → process < length m.processes
runs_within m process p has is =
    let at = runs_at m process p is in
    let there : p.at.process < length m.script.processes = process_there m.script p.at p.call at.called in
    let same : p.at.process ≡ process = running_process m process p is in
    let count : length m.processes ≡ length m.script.processes = has.progress in
    omega arith

-- ---- from one state to the next

-- the journal of the other state has this entry more, if any, of the call at the place; it has the other processes'
-- progress, and the process of the place is at the same call
pub record Prepares (m n : State) (p : Place) (entry : Option Entry) : Type 0 where
  pub script : n.script ≡ m.script
  pub journal : n.journal ≡ m.journal ++ option_to_list entry
  pub of_call : (e : Entry) → entry ≡ Some e → at_of e ≡ p.at
  pub count : length n.processes ≡ length m.processes
  pub others : (q : ℕ) → q ≢ p.at.process → progress_of n q ≡ progress_of m q
  pub ended : (progress_of n p.at.process).ended ≡ (progress_of m p.at.process).ended

-- the call goes on, with these entries more
pub record GoesOn (next : State) (p : Place) (added : List Entry) (g : Progress) : Type 0 where
  pub running_is : running next p.at.process ≡ Some (record p { before = p.before ++ added })
  pub progress_is : progress_of next p.at.process ≡ with_turn_used g
  pub unended : has_ended p.call (p.before ++ added) g ≡ false

-- the call has ended by these entries, and its process's next call, if any, has none
pub record Ends (next : State) (p : Place) (added : List Entry) (g : Progress) : Type 0 where
  pub ended : is_ended_by p.call (p.before ++ added) ≡ true
  pub none_left : outstanding g ≡ []
  pub progress_is : progress_of next p.at.process ≡ with_call_ended g
  pub fresh : (q : Place) → running next p.at.process ≡ Some q → q.before ≡ []

-- what a turn in the name of the call at a place leaves of the running calls, where the process was so far before its end
-- was looked at
pub record Follows (m next : State) (p : Place) (added : List Entry) (g : Progress) : Type 0 where
  pub others : (q : ℕ) → q ≢ p.at.process → progress_of next q ≡ progress_of m q
  pub other_running : (q : ℕ) → q ≢ p.at.process → running next q ≡ running m q
  pub own : GoesOn next p added g ⊎ Ends next p added g

-- nothing in the list
none_of-nil : {X : Type 0} (xs : List X) → is_none_of xs ≡ true → xs ≡ []
none_of-nil [] is = refl
none_of-nil (x ∷ xs) is = absurd (both_ways (is_none_of (x ∷ xs)) refl is)

-- the entries of a call of which none was added
other_entries : (journal : List Entry) (entry : Option Entry) (at : At) → ((e : Entry) → entry ≡ Some e → same_call (at_of e) at ≡ false) →
    entries_of at (journal ++ option_to_list entry) ≡ entries_of at journal
other_entries journal None at other = ap (entries_of at) (append-nil journal)
other_entries journal (Some e) at other = entries_of-other journal e at (other e refl)

-- and of one of which they were
own_entries : (journal : List Entry) (entry : Option Entry) (at : At) → ((e : Entry) → entry ≡ Some e → at_of e ≡ at) →
    entries_of at (journal ++ option_to_list entry) ≡ entries_of at journal ++ option_to_list entry
own_entries journal None at own = ap (entries_of at) (append-nil journal) ∙ sym (append-nil (entries_of at journal))
own_entries journal (Some e) at own =
    entries_of-joined journal e at (subst (λ (a : At). same_call a at ≡ true) (sym (own e refl)) (same_self at))

-- the running call of a process that is as far as before, in a journal that has the same entries of it
same_running : (m next : State) (q : ℕ) → next.script ≡ m.script → (progress_of next q).ended ≡ (progress_of m q).ended →
    entries_of (running_at m q) next.journal ≡ entries_of (running_at m q) m.journal → running next q ≡ running m q
same_running m next q script ended entries =
    let at : running_at next q ≡ running_at m q = ap (λ (n : ℕ). record { process = q; call = n }) ended in
    ap (λ (a : At). option_map (place_of next a) (call_at next.script a)) at
    ∙ ap (λ (s : Script). option_map (place_of next (running_at m q)) (call_at s (running_at m q))) script
    ∙ ap (λ (es : List Entry). option_map (λ (c : Call). record { call = c; at = running_at m q; before = es }) (call_at m.script (running_at m q))) entries

module _ (m n : State) (p : Place) (entry : Option Entry) (runs : running m p.at.process ≡ Some p) (sound : AreCallsSound m)
    (prepares : Prepares m n p entry) where
  abbrev process : ℕ
  process = p.at.process

  abbrev g : Progress
  g = progress_of n process

  abbrev at_place : RunsAt m process p
  at_place = runs_at m process p runs

  within : process < length n.processes
  within = subst (λ (k : ℕ). process < k) (sym prepares.count) (runs_within m process p sound.processes runs)

  -- the state after the turn, where the call has ended or not
  abbrev after : Bool → State
  after ended = with_progress n process (cond ended (with_call_ended g) (with_turn_used g))

  other_progress : (b : Bool) (q : ℕ) → q ≢ process → progress_of (after b) q ≡ progress_of m q
  other_progress b q differ =
      get_or-set_other n.processes process q (cond b (with_call_ended g) (with_turn_used g)) _ differ ∙ prepares.others q differ

  own_progress : (b : Bool) → progress_of (after b) process ≡ cond b (with_call_ended g) (with_turn_used g)
  own_progress b = get_or-set_same n.processes process (cond b (with_call_ended g) (with_turn_used g)) _ within

  journal_of : (b : Bool) (at : At) → ((e : Entry) → entry ≡ Some e → same_call (at_of e) at ≡ false) →
      entries_of at (after b).journal ≡ entries_of at m.journal
  journal_of b at other = ap (entries_of at) prepares.journal ∙ other_entries m.journal entry at other

  other_run : (b : Bool) (q : ℕ) → q ≢ process → running (after b) q ≡ running m q
  other_run b q differ =
      same_running m (after b) q prepares.script (ap (λ (x : Progress). x.ended) (other_progress b q differ))
      (journal_of b (running_at m q)
      (λ e is. other_process (at_of e) (running_at m q) (λ same. differ (same ∙ ap (λ (a : At). a.process) (prepares.of_call e is)))))

  entries_are : entries_of p.at n.journal ≡ p.before ++ option_to_list entry
  entries_are =
      ap (entries_of p.at) prepares.journal ∙ own_entries m.journal entry p.at prepares.of_call
      ∙ ap (λ (es : List Entry). es ++ option_to_list entry) (sym at_place.before_is)

  goes_on : has_ended p.call (p.before ++ option_to_list entry) g ≡ false → GoesOn (after false) p (option_to_list entry) g
  goes_on unended =
      let at : running_at (after false) process ≡ p.at =
      ap (λ (k : ℕ). record { process = process; call = k }) (ap (λ (x : Progress). x.ended) (own_progress false) ∙ prepares.ended)
      ∙ sym at_place.at_is in
      record {
        running_is =
            ap (λ (a : At). option_map (place_of (after false) a) (call_at n.script a)) at
            ∙ ap (λ (s : Script). option_map (place_of (after false) p.at) (call_at s p.at)) prepares.script
            ∙ ap (option_map (place_of (after false) p.at)) at_place.called
            ∙ ap (λ (es : List Entry). Some (record p { before = es })) entries_are;
        progress_is = own_progress false;
        unended = unended;
      }

  ends : has_ended p.call (p.before ++ option_to_list entry) g ≡ true → Ends (after true) p (option_to_list entry) g
  ends ended =
      let parts = and_parts (is_ended_by p.call (p.before ++ option_to_list entry)) (is_none_of (outstanding g)) ended in
      let number : ℕ = (progress_of m process).ended in
      let later : running_at (after true) process ≡ record { process = process; call = number + 1 } =
      ap (λ (k : ℕ). record { process = process; call = k }) (ap (λ (x : Progress). x.ended) (own_progress true) ∙ ap (λ (k : ℕ). k + 1) prepares.ended) in
      let other : (e : Entry) → entry ≡ Some e → same_call (at_of e) (record { process = process; call = number + 1 }) ≡ false =
      λ e is.
      ap (λ (a : At). same_call a (record { process = process; call = number + 1 })) (prepares.of_call e is ∙ at_place.at_is)
      ∙ and_right (nat_eq process process) (nat_eq number (number + 1)) (ne_eqb number (number + 1) (λ same. omega arith)) in
      record {
        ended = parts.0;
        none_left = none_of-nil (outstanding g) parts.1;
        progress_is = own_progress true;
        fresh = λ q is.
            let there = runs_at (after true) process q is in
            there.before_is ∙ ap (λ (a : At). entries_of a (after true).journal) (there.at_is ∙ later)
            ∙ journal_of true (record { process = process; call = number + 1 }) other
            ∙ sound.in_turn.later process (number + 1) (omega arith);
      }

  -- a turn in the name of a call leaves the calls of the other processes, and its own goes on or ends
  pub follows : Follows m (after_effect n p) p (option_to_list entry) g
  follows =
      let ended : Bool = has_ended p.call (entries_of p.at n.journal) g in
      let same : ended ≡ has_ended p.call (p.before ++ option_to_list entry) g = ap (λ (es : List Entry). has_ended p.call es g) entries_are in
      ⊎_elim
      (λ is.
      subst (λ (b : Bool). Follows m (after b) p (option_to_list entry) g) (sym is)
      (record { others = other_progress true; other_running = other_run true; own = inr (ends (sym same ∙ is)) }))
      (λ is.
      subst (λ (b : Bool). Follows m (after b) p (option_to_list entry) g) (sym is)
      (record { others = other_progress false; other_running = other_run false; own = inl (goes_on (sym same ∙ is)) }))
      (cases_Bool ended)
