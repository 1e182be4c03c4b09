-- After an effective turn no file is held twice, the holds are of running calls, and calls that have begun hold their files.
use Rattle.std.proofs.Common.{◌≡◌, ◌≢◌, ℕ, Bool, true, false, List, [], ◌∷◌, ◌++◌, Option, None, Some, refl, sym, ap, ◌∙◌, subst, ⊎_elim}
use Rattle.std.specs.Option.{option_to_list}
use Rattle.std.proofs.lemmas.Bool.{both_ways, cases_eq, false≢true}
use Rattle.std.proofs.lemmas.List.{append-nil}
use Rattle.std.proofs.lemmas.Option.{none-some, same_Some}
use Rattle.bd_base.specs.declared.journal.At.{At}
use Rattle.bd_base.specs.declared.script.Call.{Call}
use Rattle.bd_base.specs.declared.script.Call.TheVariants.{Enter, Unlink, Close}
use Rattle.bd_base.specs.declared.script.How.TheVariants as hows
use Rattle.bd_base.specs.declared.volume.Volume.{Volume}
use Rattle.bd_entry.specs.declared.entry.Entry.{Entry}
use Rattle.bd_entry.specs.declared.entry.Entry.TheVariants as entries
use Rattle.bd_entry.specs.Calls.{Place, at_of, is_end_of, is_made_by, is_opened, pieces_of_call}
use Rattle.bd_entry.specs.NextEntries.{goes_by_name}
use Rattle.bd_entry.specs.Refusals.{file_of}
use Rattle.bd_entry.specs.Rules.{RightFile}
use Rattle.bd_entry.specs.Store.{Store}
use Rattle.bd_entry.proofs.DescriptorSteps.{is_close}
use Rattle.bd_entry.proofs.StayingFiles.{LeavesThere}
use Rattle.bd_turns.specs.Reached.{IsReached}
use Rattle.bd_turns.specs.Sound.{AreBegunHolding, AreHoldsOfCalls, IsHeldOnce}
use Rattle.bd_turns.specs.State.{Progress, State, has_ended, progress_of, running}
use Rattle.bd_turns.specs.Turns.{holds_throughout}
use Rattle.bd_turns.proofs.ActionsOfCalls.{held_from, holding}
use Rattle.bd_turns.proofs.Cases.{running_process}
use Rattle.bd_turns.proofs.CallsAfterTurns.{GoesOn}
use Rattle.bd_turns.proofs.EffectiveTurns.{IsGoing, IsHeldFor, Turned, has_ended-by_end, store_with}
use Rattle.bd_turns.proofs.EntriesOfCalls.{added_made, added_place}
use Rattle.bd_turns.proofs.FilesOfCalls.{file_of_kept, store_after}

-- ---- entries that a call that goes on does not add

-- whether the entry closes a descriptor, or removes a file
abbrev pub gives_up : Entry → Bool
gives_up (entries.Closed at fd) = true
gives_up (entries.Unlinked at file) = true
gives_up e = false

-- whether the entry ends the call, which has no pieces
record EndsAlone (call : Call) (e : Entry) : Type 0 where
  ends : is_end_of call e ≡ true
  pieces : pieces_of_call call ≡ []

closed_ends : (call : Call) (at : At) (fd : ℕ) → is_made_by call (entries.Closed at fd) ≡ true → EndsAlone call (entries.Closed at fd)
closed_ends (Close fd) at by made = record { ends = refl; pieces = refl }
closed_ends (Enter name mode hows.Plain) at by made = absurd (false≢true made)
closed_ends (Enter name mode hows.Direct) at by made = absurd (false≢true made)
closed_ends call at by made = absurd (false≢true made)

unlinked_ends : (call : Call) (at : At) (file : ℕ) → is_made_by call (entries.Unlinked at file) ≡ true → EndsAlone call (entries.Unlinked at file)
unlinked_ends (Unlink name) at file made = record { ends = refl; pieces = refl }
unlinked_ends (Enter name mode hows.Plain) at by made = absurd (false≢true made)
unlinked_ends (Enter name mode hows.Direct) at by made = absurd (false≢true made)
unlinked_ends call at file made = absurd (false≢true made)

giving_up_ends : (call : Call) (e : Entry) → is_made_by call e ≡ true → gives_up e ≡ true → EndsAlone call e
giving_up_ends call (entries.Closed at fd) made gives = closed_ends call at fd made
giving_up_ends call (entries.Unlinked at file) made gives = unlinked_ends call at file made
giving_up_ends call e made gives = absurd (false≢true gives)

-- a call that goes by its name again ends as it opens
opened_ends : (call : Call) (e : Entry) → is_made_by call e ≡ true → goes_by_name call ≡ true → is_opened e ≡ true → EndsAlone call e
opened_ends (Enter name mode hows.Plain) (entries.Opened at file fd m h) made by_name opens = record { ends = refl; pieces = refl }
opened_ends (Unlink name) (entries.Opened at file fd m h) made by_name opens = absurd (false≢true made)
opened_ends (Enter name mode hows.Direct) (entries.Opened at file fd m h) made by_name opens = absurd (false≢true by_name)
opened_ends call (entries.Opened at file fd m h) made by_name opens = absurd (false≢true by_name)
opened_ends call e made by_name opens = absurd (false≢true opens)

pub close_gives_up : (e : Entry) → is_close e ≡ true → gives_up e ≡ true
close_gives_up (entries.Closed at fd) is = refl
close_gives_up e is = absurd (false≢true is)

pub leaves-there : (file : ℕ) (e : Entry) → (gives_up e ≡ true → ⊥) → LeavesThere file e
leaves-there file (entries.Unlinked at other) not_given = absurd (not_given refl)
leaves-there file e not_given = tt

module _ (v : Volume) (m next : State) (p : Place) (entry : Option Entry) (g : Progress) (reached : IsReached v m) (t : Turned v m next p entry g) where
  abbrev process : ℕ
  process = p.at.process

  abbrev added : List Entry
  added = option_to_list entry

  -- ---- the call of the turn, where it goes on

  pub is_going : GoesOn next p added g → IsGoing m p entry g
  is_going goes = t.going goes.unended

  -- an entry that ends a call without pieces is not one of a call that goes on
  not_ended_alone : GoesOn next p added g → (e : Entry) → entry ≡ Some e → EndsAlone p.call e → ⊥
  not_ended_alone goes e is ends =
      both_ways (has_ended p.call (p.before ++ added) g) goes.unended
      (ap (λ (o : Option Entry). has_ended p.call (p.before ++ option_to_list o) g) is
      ∙ has_ended-by_end p.call p.before e g ends.ends (t.commands e is ends.pieces))

  pub own_gives_not : GoesOn next p added g → (e : Entry) → entry ≡ Some e → gives_up e ≡ true → ⊥
  own_gives_not goes e is gives = not_ended_alone goes e is (giving_up_ends p.call e (added_made v m p e (t.added e is)) gives)

  pub own_opens_not : GoesOn next p added g → (e : Entry) → entry ≡ Some e → goes_by_name p.call ≡ true → is_opened e ≡ true → ⊥
  own_opens_not goes e is by_name opens = not_ended_alone goes e is (opened_ends p.call e (added_made v m p e (t.added e is)) by_name opens)

  -- ---- files of calls

  -- the entry is of the process of the place
  pub at_process : (e : Entry) → entry ≡ Some e → (at_of e).process ≡ process
  at_process e is = ap (λ (at : At). at.process) (t.added e is).at_is

  -- no other process that holds a file sees it removed
  pub other_leaves : (q file : ℕ) → q ≢ process → (progress_of m q).held ≡ Some file → (e : Entry) → entry ≡ Some e → LeavesThere file e
  other_leaves q file differ held (entries.Unlinked at gone) is =
      λ same.
      differ
      (t.alone (entries.Unlinked at gone) is refl file q
      (subst (λ (x : Place). file_of m.store x ≡ Some file) (added_place v m p (entries.Unlinked at gone) (t.added (entries.Unlinked at gone) is))
      ((t.added (entries.Unlinked at gone) is).next.keeps RightFile ∙ ap Some same)) held)
  other_leaves q file differ held e is = tt

  -- the file of another process's call stays as long as that holds it
  pub other_file : (q file : ℕ) (place : Place) → q ≢ process → place.at.process ≡ q → (progress_of m q).held ≡ Some file →
      file_of m.store place ≡ Some file → file_of next.store place ≡ Some file
  other_file q file place differ of_q held of =
      subst (λ (s : Store). file_of s place ≡ Some file) (sym t.store) (by entry refl)
    where
      by : (o : Option Entry) → entry ≡ o → file_of (store_with m.store p.call o) place ≡ Some file
      by None is = of
      by (Some e) is =
          subst (λ (es : List Entry). file_of (store_after m.store p.call e) (record place { before = es }) ≡ Some file) (append-nil place.before)
          (file_of_kept v m.script m.journal m.store p.call e (t.added e is).next place file
          (λ closes same. differ (sym of_q ∙ same ∙ at_process e is))
          (other_leaves q file differ held e is) of [])

  -- so does that of the call of the turn, where it goes on
  pub own_file : GoesOn next p added g → (file : ℕ) → file_of m.store p ≡ Some file →
      file_of next.store (record p { before = p.before ++ added }) ≡ Some file
  own_file goes file of =
      subst (λ (s : Store). file_of s (record p { before = p.before ++ added }) ≡ Some file) (sym t.store) (by entry refl)
    where
      by : (o : Option Entry) → entry ≡ o → file_of (store_with m.store p.call o) (record p { before = p.before ++ option_to_list o }) ≡ Some file
      by None is =
          subst (λ (es : List Entry). file_of m.store (record p { before = es }) ≡ Some file) (sym (append-nil p.before)) of
      by (Some e) is =
          file_of_kept v m.script m.journal m.store p.call e (t.added e is).next p file
          (λ closes. absurd (own_gives_not goes e is (close_gives_up e closes)))
          (leaves-there file e (own_gives_not goes e is)) of (e ∷ [])

  -- ---- holds

  -- who holds a file that the process of the place may hold is that process
  other_holding : (q file : ℕ) → IsHeldFor m p file → (progress_of m q).held ≡ Some file → q ≡ process
  other_holding q file for_call held =
      ⊎_elim
      (λ mine.
      reached.sound.holds_are.held_once file q process (holding file (progress_of m q) held) (holding file (progress_of m process) mine))
      (λ alone. alone.1 file q alone.0 held)
      for_call

  -- what is held after the turn was held by the process, if it is another, or may be held by that of the place
  data HeldNext (q file : ℕ) : Type 0 where
    by_other : q ≢ process → (progress_of m q).held ≡ Some file → HeldNext q file
    by_own : q ≡ process → GoesOn next p added g → IsHeldFor m p file → HeldNext q file

  held_next : (q file : ℕ) → (progress_of next q).held ≡ Some file → HeldNext q file
  held_next q file held =
      ⊎_elim
      (λ same.
      let own : (progress_of next process).held ≡ Some file = ap (λ (k : ℕ). (progress_of next k).held) (sym same) ∙ held in
      ⊎_elim
      (λ goes. by_own same goes ((is_going goes).held file (sym (ap (λ (x : Progress). x.held) goes.progress_is) ∙ own)))
      (λ ends. absurd (none-some file (sym (ap (λ (x : Progress). x.held) ends.progress_is) ∙ own)))
      t.follows.own)
      (λ differ. by_other differ (sym (ap (λ (x : Progress). x.held) (t.follows.others q differ)) ∙ held))
      (cases_eq q process)

  pub held_once_next : IsHeldOnce next
  held_once_next file first second a b =
      both (held_next first file (held_from file (progress_of next first) a)) (held_next second file (held_from file (progress_of next second) b))
    where
      both : HeldNext first file → HeldNext second file → first ≡ second
      both (by_other differ held) (by_other differs holds) =
          reached.sound.holds_are.held_once file first second (holding file (progress_of m first) held) (holding file (progress_of m second) holds)
      both (by_other differ held) (by_own same goes for_call) = absurd (differ (other_holding first file for_call held))
      both (by_own same goes for_call) (by_other differs holds) = absurd (differs (other_holding second file for_call holds))
      both (by_own same goes for_call) (by_own also goes_on for_it) = same ∙ sym also

  -- the file that the process of the place may hold is that of its call
  held_file : (file : ℕ) → IsHeldFor m p file → file_of m.store p ≡ Some file
  held_file file for_call =
      ⊎_elim
      (λ mine.
      let holds = reached.sound.holds_are.holds process file mine in
      subst (λ (x : Place). file_of m.store x ≡ Some file) (same_Some holds.0 p (sym holds.1 ∙ t.runs)) holds.2)
      (λ alone. alone.0)
      for_call

  pub holds_next : AreHoldsOfCalls next
  holds_next q file held = by (held_next q file held)
    where
      by : HeldNext q file → (x : Place) × (running next q ≡ Some x) × (file_of next.store x ≡ Some file)
      by (by_other differ was) =
          let holds = reached.sound.holds_are.holds q file was in (
            holds.0,
            t.follows.other_running q differ ∙ holds.1,
            other_file q file holds.0 differ (running_process m q holds.0 holds.1) was holds.2,
          )
      by (by_own same goes for_call) =
          (record p { before = p.before ++ added }, ap (running next) same ∙ goes.running_is, own_file goes file (held_file file for_call))

  -- ---- calls that have begun

  -- the place of a running call of another process is that before
  pub other_place : (q : ℕ) (x : Place) → q ≢ process → running next q ≡ Some x → running m q ≡ Some x
  other_place q x differ is = sym (t.follows.other_running q differ) ∙ is

  -- that of the process is the one of the turn with the entry more, if it has entries
  pub own_place : (x : Place) → running next process ≡ Some x → x.before ≢ [] →
      GoesOn next p added g × (x ≡ record p { before = p.before ++ added })
  own_place x is some =
      ⊎_elim
      (λ goes. (goes, same_Some x (record p { before = p.before ++ added }) (sym is ∙ goes.running_is)))
      (λ ends. absurd (some (ends.fresh x is)))
      t.follows.own

  pub begun_holding_next : AreBegunHolding next
  begun_holding_next q x is through some =
      ⊎_elim
      (λ same.
      let mine = own_place x (ap (running next) (sym same) ∙ is) some in
      let goes = mine.0 in
      let holds =
      (is_going goes).through (subst (λ (y : Place). holds_throughout y.call ≡ true) mine.1 through)
      (subst (λ (y : Place). y.before ≢ []) mine.1 some) in (
        holds.0,
        subst (λ (y : Place). file_of next.store y ≡ Some holds.0) (sym mine.1) (own_file goes holds.0 holds.1),
        ap (λ (k : ℕ). (progress_of next k).held) same ∙ ap (λ (y : Progress). y.held) goes.progress_is ∙ holds.2,
      ))
      (λ differ.
      let was = other_place q x differ is in
      let holds = reached.sound.holds_are.begun_holding q x was through some in (
        holds.0,
        other_file q holds.0 x differ (running_process m q x was) holds.2 holds.1,
        ap (λ (y : Progress). y.held) (t.follows.others q differ) ∙ holds.2,
      ))
      (cases_eq q process)
