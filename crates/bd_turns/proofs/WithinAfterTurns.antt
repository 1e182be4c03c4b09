-- After a turn that leaves its own call fewer turns, and no other more, each call is within the turns that it may take.
use Rattle.std.proofs.Common.{◌≡◌, ◌≢◌, ◌⊎◌, inl, inr, ℕ, ◌+◌, ◌≤◌, true, false, not, ◌&&◌, List, [], ◌∷◌, ◌++◌, Option, None, Some, refl, sym, ap, ◌∙◌, subst, arith, ⊎_elim}
use Rattle.std.specs.Option.{option_to_list}
use Rattle.std.proofs.lemmas.Bool.{both_ways, cases_Bool, cases_eq, false≢true}
use Rattle.std.proofs.lemmas.Option.{none-some, same_Some}
use Rattle.bd_base.specs.declared.volume.Volume.{Volume}
use Rattle.bd_entry.specs.declared.entry.Entry.{Entry}
use Rattle.bd_entry.specs.Actions.{has_begun, is_none_of}
use Rattle.bd_entry.specs.Calls.{Place}
use Rattle.bd_turns.specs.Processors.{running_of}
use Rattle.bd_turns.specs.Reached.{IsReached}
use Rattle.bd_turns.specs.Rest.{AreWithinTurns, turns_for, turns_left}
use Rattle.bd_turns.specs.State.{Progress, State, outstanding, progress_of, running}
use Rattle.bd_turns.proofs.CallsAfterTurns.{Ends, GoesOn}
use Rattle.bd_turns.proofs.EffectiveTurns.{Turned}
use Rattle.bd_turns.proofs.OtherTurns.{LeavesRights, others_not}
use Rattle.bd_turns.proofs.PieceTurns.{after}
use Rattle.bd_turns.proofs.Cases.{running_process}

-- ---- what a turn does to its own call

-- the call has fewer turns left on this file, which is the one that its process holds once it has begun; and if it has
-- not, so few as any call takes
pub record FallsOn (m next : State) (p : Place) (added : List Entry) (g : Progress) : Type 0 where
  pub file : Option ℕ
  pub falls : turns_for next (after p added) p.call g.held + 1 ≤ turns_for m p p.call file
  pub same : has_begun (running_of m p) ≡ true → file ≡ (progress_of m p.at.process).held
  pub few : has_begun (running_of m p) ≡ false → turns_for m p p.call file ≤ 24577

-- what is known of an effective turn
pub record Takes (v : Volume) (m next : State) (p : Place) (entry : Option Entry) (g : Progress) : Type 0 where
  pub turned : Turned v m next p entry g
  pub used : g.used ≡ (progress_of m p.at.process).used
  pub begun : not (is_none_of (p.before ++ option_to_list entry) && is_none_of (outstanding g)) ≡ true
  pub own : GoesOn next p (option_to_list entry) g → FallsOn m next p (option_to_list entry) g
  pub leaves : LeavesRights m next p entry

-- a call that has not begun has nothing outstanding
pub unbegun-nothing : (before : List Entry) (outs : List ℕ) → not (is_none_of before && is_none_of outs) ≡ false → outs ≡ []
unbegun-nothing before [] unbegun = refl
unbegun-nothing [] (x ∷ xs) unbegun = absurd (false≢true (sym unbegun))
unbegun-nothing (e ∷ before) (x ∷ xs) unbegun = absurd (false≢true (sym unbegun))

nothing-unbegun : (before : List Entry) (outs : List ℕ) → before ≡ [] → outs ≡ [] → not (is_none_of before && is_none_of outs) ≡ false
nothing-unbegun before outs empty none =
    ap (λ (l : List Entry). not (is_none_of l && is_none_of outs)) empty ∙ ap (λ (l : List ℕ). not (is_none_of l)) none

within_more : (used left new_left after_used : ℕ) → after_used ≡ used + 1 → new_left + 1 ≤ left → used + left ≤ 24577 → after_used + new_left ≤ 24577
within_more used left new_left after_used is less within = omega arith

within_first : (used left new_left after_used : ℕ) → after_used ≡ used + 1 → used ≡ 0 → new_left + 1 ≤ left → left ≤ 24577 → after_used + new_left ≤ 24577
within_first used left new_left after_used is none less few = omega arith

less_left : (used old_left new_left : ℕ) → new_left ≤ old_left → used + old_left ≤ 24577 → used + new_left ≤ 24577
less_left used old_left new_left less within = omega arith

module _ (v : Volume) (m next : State) (p : Place) (entry : Option Entry) (g : Progress) (reached : IsReached v m) (within : AreWithinTurns m)
    (takes : Takes v m next p entry g) where
  abbrev process : ℕ
  process = p.at.process

  abbrev added : List Entry
  added = option_to_list entry

  -- the call of the turn, where it goes on
  own_within : GoesOn next p added g → (progress_of next process).used + turns_left next (after p added) ≤ 24577
  own_within goes =
      let falls = takes.own goes in
      let left : turns_left next (after p added) ≡ turns_for next (after p added) p.call g.held =
      ap (λ (x : Progress). turns_for next (after p added) p.call x.held) goes.progress_is in
      let used : (progress_of next process).used ≡ (progress_of m process).used + 1 =
      ap (λ (x : Progress). x.used) goes.progress_is ∙ ap (λ (n : ℕ). n + 1) takes.used in
      subst (λ (n : ℕ). (progress_of next process).used + n ≤ 24577) (sym left)
      (⊎_elim
      (λ begun.
      within_more (progress_of m process).used (turns_for m p p.call falls.file) (turns_for next (after p added) p.call g.held)
      (progress_of next process).used used falls.falls
      (subst (λ (o : Option ℕ). (progress_of m process).used + turns_for m p p.call o ≤ 24577) (sym (falls.same begun))
      (within.within process p takes.turned.runs begun)))
      (λ fresh.
      within_first (progress_of m process).used (turns_for m p p.call falls.file) (turns_for next (after p added) p.call g.held)
      (progress_of next process).used used (within.new process p takes.turned.runs fresh).0 falls.falls (falls.few fresh))
      (cases_Bool (has_begun (running_of m p))))

  own_begun : GoesOn next p added g → has_begun (running_of next (after p added)) ≡ true
  own_begun goes =
      ap (λ (x : Progress). not (is_none_of (p.before ++ added) && is_none_of (outstanding x))) goes.progress_is ∙ takes.begun

  -- its process's next call, where it ends
  ended_fresh : Ends next p added g → (x : Place) → running next process ≡ Some x → has_begun (running_of next x) ≡ false
  ended_fresh ended x is =
      nothing-unbegun x.before (outstanding (progress_of next x.at.process)) (ended.fresh x is)
      (ap (λ (n : ℕ). outstanding (progress_of next n)) (running_process next process x is)
      ∙ ap (λ (y : Progress). outstanding y) ended.progress_is ∙ ended.none_left)

  -- the calls of other processes
  other_running : (q : ℕ) → q ≢ process → (x : Place) → has_begun (running_of next x) ≡ has_begun (running_of m x) ⊎ (x.at.process ≢ q)
  other_running q differ x =
      ⊎_elim
      (λ same.
      inl
      (ap (λ (y : Progress). not (is_none_of x.before && is_none_of (outstanding y)))
      (ap (progress_of next) same ∙ takes.turned.follows.others q differ ∙ ap (progress_of m) (sym same))))
      (λ other. inr other)
      (cases_eq x.at.process q)

  other_begun : (q : ℕ) → q ≢ process → (x : Place) → running m q ≡ Some x → has_begun (running_of next x) ≡ has_begun (running_of m x)
  other_begun q differ x is =
      ⊎_elim (λ same. same) (λ other. absurd (other (running_process m q x is))) (other_running q differ x)

  pub kept_within : AreWithinTurns next
  kept_within = record {
    none = λ q is.
        ⊎_elim
        (λ mine.
        subst (λ (n : ℕ). (progress_of next n).used ≡ 0) (sym mine)
        (⊎_elim
        (λ goes. absurd (none-some (after p added) (sym is ∙ ap (running next) mine ∙ goes.running_is)))
        (λ ended. ap (λ (x : Progress). x.used) ended.progress_is)
        takes.turned.follows.own))
        (λ differ. ap (λ (x : Progress). x.used) (takes.turned.follows.others q differ)
        ∙ within.none q (sym (takes.turned.follows.other_running q differ) ∙ is))
        (cases_eq q process);
    new = λ q x is fresh.
        ⊎_elim
        (λ mine.
        subst (λ (n : ℕ). ((progress_of next n).used ≡ 0) × ((progress_of next n).held ≡ None)) (sym mine)
        (⊎_elim
        (λ goes.
        let same : after p added ≡ x = same_Some (after p added) x (sym goes.running_is ∙ ap (running next) (sym mine) ∙ is) in
        absurd
        (both_ways (has_begun (running_of next x)) fresh (subst (λ (y : Place). has_begun (running_of next y) ≡ true) same (own_begun goes))))
        (λ ended. (ap (λ (y : Progress). y.used) ended.progress_is, ap (λ (y : Progress). y.held) ended.progress_is))
        takes.turned.follows.own))
        (λ differ.
        let was : running m q ≡ Some x = sym (takes.turned.follows.other_running q differ) ∙ is in
        let old = within.new q x was (sym (other_begun q differ x was) ∙ fresh) in (
          ap (λ (y : Progress). y.used) (takes.turned.follows.others q differ) ∙ old.0,
          ap (λ (y : Progress). y.held) (takes.turned.follows.others q differ) ∙ old.1,
        ))
        (cases_eq q process);
    within = λ q x is begun.
        ⊎_elim
        (λ mine.
        let here : running next process ≡ Some x = ap (running next) (sym mine) ∙ is in
        subst (λ (n : ℕ). (progress_of next n).used + turns_left next x ≤ 24577) (sym mine)
        (⊎_elim
        (λ goes.
        let same : after p added ≡ x = same_Some (after p added) x (sym goes.running_is ∙ here) in
        subst (λ (y : Place). (progress_of next process).used + turns_left next y ≤ 24577) same (own_within goes))
        (λ ended. absurd (both_ways (has_begun (running_of next x)) (ended_fresh ended x here) begun))
        takes.turned.follows.own))
        (λ differ.
        let was : running m q ≡ Some x = sym (takes.turned.follows.other_running q differ) ∙ is in
        let had : has_begun (running_of m x) ≡ true = sym (other_begun q differ x was) ∙ begun in
        let used : (progress_of next q).used ≡ (progress_of m q).used = ap (λ (y : Progress). y.used) (takes.turned.follows.others q differ) in
        subst (λ (n : ℕ). n + turns_left next x ≤ 24577) (sym used)
        (less_left (progress_of m q).used (turns_left m x) (turns_left next x)
        (others_not v m next p entry g reached takes.turned takes.leaves q x differ was had) (within.within q x was had)))
        (cases_eq q process);
  }
