-- After an effective turn no refusal came to hold of a call that has begun, and opens have their files still.
use Rattle.std.proofs.Common.{◌≡◌, ◌≢◌, ℕ, true, not, ◌&&◌, List, [], ◌∷◌, ◌++◌, Option, None, Some, refl, sym, ap, ◌∙◌, subst, ⊎_elim}
use Rattle.std.specs.Option.{option_or, option_to_list}
use Rattle.std.proofs.lemmas.Bool.{both_ways, cases_eq, false≢true}
use Rattle.std.proofs.lemmas.Option.{none-some, same_Some}
use Rattle.bd_base.specs.declared.journal.At.{At}
use Rattle.bd_base.specs.declared.script.Call.{Call}
use Rattle.bd_base.specs.declared.script.Call.TheVariants.{Enter, Unlink}
use Rattle.bd_base.specs.declared.script.How.TheVariants as hows
use Rattle.bd_base.specs.declared.volume.Volume.{Volume}
use Rattle.bd_entry.specs.declared.entry.Entry.{Entry}
use Rattle.bd_entry.specs.declared.entry.Entry.TheVariants as entries
use Rattle.bd_entry.specs.Actions.{has_begun, is_none_of}
use Rattle.bd_entry.specs.Calls.{Place, at_of, is_opened, opened_fd}
use Rattle.bd_entry.specs.NextEntries.{goes_by_name}
use Rattle.bd_entry.specs.Refusals.{file_of, file_of_call, first_refusal}
use Rattle.bd_entry.specs.Rules.{IsOpen, RightFile}
use Rattle.bd_entry.specs.RulesOfRights.{TheDescriptor}
use Rattle.bd_entry.specs.Store.{Descriptor, Store, descriptor_at}
use Rattle.bd_entry.proofs.DescriptorSteps.{is_close}
use Rattle.bd_entry.proofs.StayingFiles.{LeavesThere}
use Rattle.bd_turns.specs.Processors.{running_of}
use Rattle.bd_turns.specs.Reached.{IsReached}
use Rattle.bd_turns.specs.Sound.{AreAllowed, AreOpensOfFiles, is_open, keeps_allowed}
use Rattle.bd_turns.specs.State.{Progress, State, outstanding, progress_of, running}
use Rattle.bd_turns.specs.Turns.{holds_throughout}
use Rattle.bd_turns.proofs.ActionsOfCalls.{empty-unbegun, no_commands, throughout-no_pieces}
use Rattle.bd_turns.proofs.Cases.{running_process}
use Rattle.bd_turns.proofs.CallsAfterTurns.{GoesOn}
use Rattle.bd_turns.proofs.EffectiveTurns.{Turned, store_with}
use Rattle.bd_turns.proofs.EntriesOfCalls.{added_place}
use Rattle.bd_turns.proofs.FilesOfCalls.{descriptor_kept, opened_there, store_after}
use Rattle.bd_turns.proofs.HoldsAfterTurns as holds
use Rattle.bd_turns.proofs.HoldsAfterTurns.{close_gives_up, leaves-there}
use Rattle.bd_turns.proofs.RefusalsStayAway.{LeavesUnopened, refusal_kept}

-- ---- calls by a name

-- a call that has a file without a descriptor has it by its name, and holds it throughout
record GoesByName (s : Store) (call : Call) (file : ℕ) : Type 0 where
  through : holds_throughout call ≡ true
  of_any : (d : Option Descriptor) → file_of_call s call d ≡ Some file

by_its_name : (s : Store) (call : Call) (file : ℕ) → file_of_call s call None ≡ Some file → GoesByName s call file
by_its_name s (Enter name mode how) file is = record { through = refl; of_any = λ d. is }
by_its_name s (Unlink name) file is = record { through = refl; of_any = λ d. is }
by_its_name s call file is = absurd (none-some file is)

-- such a call whose refusals stay away finds its file by its name again
by_name_again : (s : Store) (call : Call) (file : ℕ) → keeps_allowed call ≡ true → file_of_call s call None ≡ Some file → goes_by_name call ≡ true
by_name_again s (Enter name mode hows.Plain) file keeps is = refl
by_name_again s (Enter name mode hows.Direct) file keeps is = absurd (false≢true keeps)
by_name_again s (Unlink name) file keeps is = refl
by_name_again s call file keeps is = absurd (none-some file is)

unopened : (file : ℕ) (e : Entry) → (is_opened e ≡ true → ⊥) → LeavesUnopened file e
unopened file (entries.Opened at other fd mode how) not_opened = absurd (not_opened refl)
unopened file e not_opened = tt

-- ---- descriptors that were opened

-- the descriptor that was opened first stays the one as entries join
opened-append : (xs ys : List Entry) → opened_fd (xs ++ ys) ≡ option_or (opened_fd xs) (opened_fd ys)
opened-append [] ys = refl
opened-append (entries.Opened at file fd mode how ∷ xs) ys = refl
opened-append (e ∷ xs) ys = opened-append xs ys

-- an open is of a call that holds its file throughout
opens_through : (call : Call) → is_open call ≡ true → holds_throughout call ≡ true
opens_through (Enter name mode how) opens = refl
opens_through call opens = absurd (false≢true opens)

some_of : {fd : ℕ} (entries : List Entry) → opened_fd entries ≡ Some fd → entries ≢ []
some_of {fd = fd} entries is none = none-some fd (sym (ap opened_fd none) ∙ is)

module _ (v : Volume) (m next : State) (p : Place) (entry : Option Entry) (g : Progress) (reached : IsReached v m) (t : Turned v m next p entry g) where
  abbrev process : ℕ
  process = p.at.process

  abbrev added : List Entry
  added = option_to_list entry

  -- ---- refusals

  -- no other process that holds a file sees it opened
  other_unopened : (q file : ℕ) → q ≢ process → (progress_of m q).held ≡ Some file → (e : Entry) → entry ≡ Some e → LeavesUnopened file e
  other_unopened q file differ held (entries.Opened at opened fd mode how) is =
      let e : Entry = entries.Opened at opened fd mode how in
      λ same.
      differ
      (t.alone e is refl file q
      (subst (λ (x : Place). file_of m.store x ≡ Some file) (added_place v m p e (t.added e is))
      ((t.added e is).next.keeps RightFile ∙ ap Some same)) held)
  other_unopened q file differ held e is = tt

  -- the call of another process
  other_allowed : (q : ℕ) (x : Place) → q ≢ process → running m q ≡ Some x → keeps_allowed x.call ≡ true → has_begun (running_of m x) ≡ true →
      first_refusal next.store q x.call ≡ None
  other_allowed q x differ was keeps begun =
      subst (λ (s : Store). first_refusal s q x.call ≡ None) (sym t.store) (by entry refl)
    where
      of_q : x.at.process ≡ q
      of_q = running_process m q x was

      before_some : holds_throughout x.call ≡ true → x.before ≢ []
      before_some through empty =
          both_ways (has_begun (running_of m x))
          (empty-unbegun m x empty
          (no_commands m x reached.sound.calls (ap (running m) (running_process m q x was) ∙ was) (throughout-no_pieces x.call through))) begun

      spares : (e : Entry) → entry ≡ Some e → (file : ℕ) → file_of_call m.store x.call None ≡ Some file → LeavesThere file e × LeavesUnopened file e
      spares e is file of =
          let by_name = by_its_name m.store x.call file of in
          let held = reached.sound.holds_are.begun_holding q x was by_name.through (before_some by_name.through) in
          let same : held.0 ≡ file = same_Some held.0 file (sym held.1 ∙ by_name.of_any _) in
          let holding : (progress_of m q).held ≡ Some file = held.2 ∙ ap Some same in
          (holds.other_leaves v m next p entry g reached t q file differ holding e is, other_unopened q file differ holding e is)

      by : (o : Option Entry) → entry ≡ o → first_refusal (store_with m.store p.call o) q x.call ≡ None
      by None is = reached.sound.holds_are.allowed q x was keeps begun
      by (Some e) is =
          let at_is = holds.at_process v m next p entry g reached t e is in
          refusal_kept v m.script m.journal m.store p.call e (t.added e is).next q x.call keeps
          (λ closes same. differ (same ∙ at_is))
          (λ by_name opens same. differ (same ∙ at_is))
          (spares e is) (reached.sound.holds_are.allowed q x was keeps begun)

  -- that of the turn
  own_allowed : GoesOn next p added g → keeps_allowed p.call ≡ true → first_refusal next.store process p.call ≡ None
  own_allowed goes keeps =
      subst (λ (s : Store). first_refusal s process p.call ≡ None) (sym t.store) (by entry refl)
    where
      none : first_refusal m.store p.at.process p.call ≡ None
      none = (t.going goes.unended).allowed keeps

      by : (o : Option Entry) → entry ≡ o → first_refusal (store_with m.store p.call o) p.at.process p.call ≡ None
      by None is = (t.going goes.unended).allowed keeps
      by (Some e) is =
          let gives_not = holds.own_gives_not v m next p entry g reached t goes e is in
          let opens_not = holds.own_opens_not v m next p entry g reached t goes e is in
          refusal_kept v m.script m.journal m.store p.call e (t.added e is).next p.at.process p.call keeps
          (λ closes. absurd (gives_not (close_gives_up e closes)))
          (λ by_name opens. absurd (opens_not by_name opens))
          (λ file of. (leaves-there file e gives_not, unopened file e (opens_not (by_name_again m.store p.call file keeps of))))
          ((t.going goes.unended).allowed keeps)

  pub allowed_next : AreAllowed next
  allowed_next q x is keeps begun =
      ⊎_elim
      (λ same.
      let mine : running next process ≡ Some x = ap (running next) (sym same) ∙ is in
      let of_q : x.at.process ≡ process = running_process next process x mine in
      ⊎_elim
      (λ goes.
      let place : x ≡ record p { before = p.before ++ added } = same_Some x (record p { before = p.before ++ added }) (sym mine ∙ goes.running_is) in
      let call : x.call ≡ p.call = ap (λ (y : Place). y.call) place in
      ap (λ (k : ℕ). first_refusal next.store k x.call) same ∙ ap (first_refusal next.store process) call
      ∙ own_allowed goes (subst (λ (c : Call). keeps_allowed c ≡ true) call keeps))
      (λ ends.
      let nothing : outstanding (progress_of next x.at.process) ≡ [] =
      ap (λ (k : ℕ). outstanding (progress_of next k)) of_q ∙ ap outstanding ends.progress_is ∙ ends.none_left in
      absurd (both_ways (has_begun (running_of next x)) (empty-unbegun next x (ends.fresh x mine) nothing) begun))
      t.follows.own)
      (λ differ.
      let was : running m q ≡ Some x = sym (t.follows.other_running q differ) ∙ is in
      let stays : progress_of next x.at.process ≡ progress_of m x.at.process =
      t.follows.others x.at.process (λ same. differ (sym (running_process m q x was) ∙ same)) in
      other_allowed q x differ was keeps
      (sym (ap (λ (y : Progress). not (is_none_of x.before && is_none_of (outstanding y))) stays) ∙ begun))
      (cases_eq q process)

  -- ---- opens

  -- a descriptor of this file that is not closed is there after the turn
  descriptor_next : (q fd file : ℕ) → ((e : Entry) → entry ≡ Some e → is_close e ≡ true → q ≢ (at_of e).process) →
      TheDescriptor (descriptor_at m.store q fd) (λ d. d.file ≡ file) → TheDescriptor (descriptor_at next.store q fd) (λ d. d.file ≡ file)
  descriptor_next q fd file stays_open has =
      subst (λ (s : Store). TheDescriptor (descriptor_at s q fd) (λ d. d.file ≡ file)) (sym t.store) (by entry refl)
    where
      by : (o : Option Entry) → entry ≡ o → TheDescriptor (descriptor_at (store_with m.store p.call o) q fd) (λ d. d.file ≡ file)
      by None is = has
      by (Some e) is =
          let fits = (t.added e is).next.keeps IsOpen in
          descriptor_kept (λ d. d.file ≡ file) (λ d new same mode was. same ∙ was) m.store p.call e fits q fd (stays_open e is) has

  -- the open of another process
  other_opened : (q fd : ℕ) (x : Place) → q ≢ process → running m q ≡ Some x → is_open x.call ≡ true → opened_fd x.before ≡ Some fd →
      TheDescriptor (descriptor_at next.store q fd) (λ d. file_of next.store x ≡ Some d.file)
  other_opened q fd x differ was opens of =
      let there = reached.sound.holds_are.opened q fd x was opens of in
      let held = reached.sound.holds_are.begun_holding q x was (opens_through x.call opens) (some_of x.before of) in
      let same : held.0 ≡ there.0.file = same_Some held.0 there.0.file (sym held.1 ∙ there.2) in
      let after =
      descriptor_next q fd there.0.file (λ e is closes mine. differ (mine ∙ holds.at_process v m next p entry g reached t e is)) (there.0, there.1, refl) in
      let file = holds.other_file v m next p entry g reached t q there.0.file x differ (running_process m q x was) (held.2 ∙ ap Some same) there.2 in
      (after.0, after.1, file ∙ ap Some (sym after.2))

  -- a descriptor that the turn opened is of the file of its call
  just_opened : (fd : ℕ) → opened_fd added ≡ Some fd →
      TheDescriptor (descriptor_at next.store process fd) (λ d. file_of m.store p ≡ Some d.file)
  just_opened fd of =
      subst (λ (s : Store). TheDescriptor (descriptor_at s process fd) (λ d. file_of m.store p ≡ Some d.file)) (sym t.store) (by entry refl of)
    where
      by_entry : (e : Entry) → entry ≡ Some e → opened_fd (e ∷ []) ≡ Some fd →
          TheDescriptor (descriptor_at (store_after m.store p.call e) p.at.process fd) (λ d. file_of m.store p ≡ Some d.file)
      by_entry (entries.Opened at file number mode how) is of =
          let e : Entry = entries.Opened at file number mode how in
          let a = t.added e is in
          let same : number ≡ fd = same_Some number fd of in
          let mine : at.process ≡ p.at.process = ap (λ (x : At). x.process) a.at_is in
          let there = opened_there m.store p.call at file number mode how (a.next.keeps IsOpen) in
          let of_p : file_of m.store p ≡ Some file = subst (λ (x : Place). file_of m.store x ≡ Some file) (added_place v m p e a) (a.next.keeps RightFile) in (
            there.0,
            ap (λ (k : ℕ). descriptor_at (store_after m.store p.call e) k fd) (sym mine)
                ∙ ap (descriptor_at (store_after m.store p.call e) at.process) (sym same) ∙ there.1,
            of_p ∙ ap Some (sym there.2),
          )
      by_entry e is of = absurd (none-some fd of)

      by : (o : Option Entry) → entry ≡ o → opened_fd (option_to_list o) ≡ Some fd →
          TheDescriptor (descriptor_at (store_with m.store p.call o) p.at.process fd) (λ d. file_of m.store p ≡ Some d.file)
      by None is of = absurd (none-some fd of)
      by (Some e) is of = by_entry e is of

  -- the open of the turn
  own_opened : GoesOn next p added g → (fd : ℕ) → is_open p.call ≡ true → opened_fd (p.before ++ added) ≡ Some fd →
      TheDescriptor (descriptor_at next.store process fd) (λ d. file_of next.store (record p { before = p.before ++ added }) ≡ Some d.file)
  own_opened goes fd opens of = by (opened_fd p.before) refl (sym (opened-append p.before added) ∙ of)
    where
      finish : TheDescriptor (descriptor_at next.store p.at.process fd) (λ d. file_of m.store p ≡ Some d.file) →
          TheDescriptor (descriptor_at next.store p.at.process fd)
          (λ d. file_of next.store (record p { before = p.before ++ option_to_list entry }) ≡ Some d.file)
      finish there = (there.0, there.1, holds.own_file v m next p entry g reached t goes there.0.file there.2)

      by : (o : Option ℕ) → opened_fd p.before ≡ o → option_or o (opened_fd (option_to_list entry)) ≡ Some fd →
          TheDescriptor (descriptor_at next.store p.at.process fd)
          (λ d. file_of next.store (record p { before = p.before ++ option_to_list entry }) ≡ Some d.file)
      by (Some other) was is =
          let there = reached.sound.holds_are.opened p.at.process fd p t.runs opens (was ∙ is) in
          let after =
          descriptor_next p.at.process fd there.0.file
          (λ e is_e closes. absurd (holds.own_gives_not v m next p entry g reached t goes e is_e (close_gives_up e closes))) (there.0, there.1, refl) in
          finish (after.0, after.1, there.2 ∙ ap Some (sym after.2))
      by None none is = finish (just_opened fd is)

  pub opened_next : AreOpensOfFiles next
  opened_next q fd x is opens of =
      ⊎_elim
      (λ same.
      let mine = holds.own_place v m next p entry g reached t x (ap (running next) (sym same) ∙ is) (some_of x.before of) in
      let there =
      own_opened mine.0 fd (subst (λ (y : Place). is_open y.call ≡ true) mine.1 opens) (subst (λ (y : Place). opened_fd y.before ≡ Some fd) mine.1 of) in (
        there.0,
        ap (λ (k : ℕ). descriptor_at next.store k fd) same ∙ there.1,
        subst (λ (y : Place). file_of next.store y ≡ Some there.0.file) (sym mine.1) there.2,
      ))
      (λ differ. other_opened q fd x differ (sym (t.follows.other_running q differ) ∙ is) opens of)
      (cases_eq q process)
