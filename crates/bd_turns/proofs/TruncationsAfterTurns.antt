-- After an effective turn each running truncation has no rights left once it has released a block, and lowers the size until
-- then.
use Rattle.std.proofs.Common.{◌≡◌, ◌≢◌, ◌⊎◌, inl, inr, ℕ, ◌<◌, Bool, true, false, List, [], ◌∷◌, ◌++◌, Option, None, Some, refl, sym, ap, ◌∙◌, subst, arith, ⊎_elim}
use Rattle.std.specs.Prelude.{nat_lt}
use Rattle.std.specs.Option.{option_and_then, option_map, option_to_list}
use Rattle.std.specs.List.{list_any}
use Rattle.std.proofs.lemmas.Bool.{both_ways, cases_eq, false≢true, ltb-true, or_cases, or_parts}
use Rattle.std.proofs.lemmas.List.{append-nil}
use Rattle.std.proofs.lemmas.List.Folds.{list_any-append}
use Rattle.std.proofs.lemmas.Option.{none-some, same_Some}
use Rattle.bd_base.specs.declared.journal.At.{At}
use Rattle.bd_base.specs.declared.script.Call.{Call}
use Rattle.bd_base.specs.declared.script.Call.TheVariants.{Enter, Truncate, Map}
use Rattle.bd_base.specs.declared.script.How.TheVariants as hows
use Rattle.bd_base.specs.declared.volume.Inode.{Inode}
use Rattle.bd_base.specs.declared.volume.Volume.{Volume}
use Rattle.bd_entry.specs.declared.entry.Entry.{Entry}
use Rattle.bd_entry.specs.declared.entry.Entry.TheVariants as entries
use Rattle.bd_entry.specs.Actions.{keys_on}
use Rattle.bd_entry.specs.Calls.{Place, at_of, fd_of_call, is_end_of, is_made_by, pieces_of_call}
use Rattle.bd_entry.specs.Refusals.{file_of, file_of_call, goal_of_call, kernel_piece, next_size}
use Rattle.bd_entry.specs.Rules.{RightFile, Rights, WithinLimit, place_in}
use Rattle.bd_entry.specs.RulesOfRights.{HasNoRights, LowersWhereTruncates}
use Rattle.bd_entry.specs.Store.{Descriptor, Store, Valid, descriptor_at, file_in, size_in}
use Rattle.bd_entry.proofs.Accesses.{of_call-in_store}
use Rattle.bd_entry.proofs.NextCloses.{keys_on-none}
use Rattle.bd_entry.proofs.NextFiles.{cond_from}
use Rattle.bd_entry.proofs.Slots.{some_of}
use Rattle.bd_turns.specs.Reached.{IsReached}
use Rattle.bd_turns.specs.Sound.{AreTruncating, IsTruncating, is_clear, is_open, is_release}
use Rattle.bd_turns.specs.State.{Progress, State, has_ended, progress_of, running}
use Rattle.bd_turns.specs.Turns.{holds_throughout}
use Rattle.bd_turns.proofs.Cases.{running_process}
use Rattle.bd_turns.proofs.CallsAfterTurns.{GoesOn}
use Rattle.bd_turns.proofs.EffectiveTurns.{Turned, has_ended-by_end, store_with}
use Rattle.bd_turns.proofs.EntriesOfCalls.{added_made, added_place, needs_hold}
use Rattle.bd_turns.proofs.FilesOfCalls.{store_after}
use Rattle.bd_turns.proofs.HoldsAfterTurns as holds
use Rattle.bd_turns.proofs.RightsOnFiles.{LeavesSize, LeavesUnattached, no_keys, no_rights_kept, size_kept}

-- a list of which some element passes is not empty
some_any : {X : Type 0} (test : X → Bool) (xs : List X) → list_any test xs ≡ true → xs ≢ []
some_any test xs some none = false≢true (sym (ap (list_any test) none) ∙ some)

-- ---- the descriptor of a truncation

record OfDescriptor (s : Store) (process fd file : ℕ) : Type 0 where
  d : Descriptor
  is : descriptor_at s process fd ≡ Some d
  same : d.file ≡ file

of_slot : (s : Store) (process fd file : ℕ) (slot : Option Descriptor) → descriptor_at s process fd ≡ slot →
    option_map (λ (d : Descriptor). d.file) slot ≡ Some file → OfDescriptor s process fd file
of_slot s process fd file None none of = absurd (none-some file of)
of_slot s process fd file (Some d) is of = record { d = d; is = is; same = same_Some d.file file of }

truncation_descriptor : (s : Store) (x : Place) (fd size file : ℕ) → x.call ≡ Truncate fd size → file_of s x ≡ Some file →
    OfDescriptor s x.at.process fd file
truncation_descriptor s x fd size file call of =
    of_slot s x.at.process fd file (descriptor_at s x.at.process fd) refl
    (subst (λ (c : Call). file_of_call s c (option_and_then (descriptor_at s x.at.process) (fd_of_call c x.before)) ≡ Some file) call of)

-- so its file is there
truncation_file : (s : Store) (x : Place) (fd size file : ℕ) → Valid s → x.call ≡ Truncate fd size → file_of s x ≡ Some file →
    (f : Inode) × (file_in s file ≡ Some f)
truncation_file s x fd size file valid call of =
    let by = truncation_descriptor s x fd size file call of in
    let f = some_of (file_in s by.d.file) (valid.descriptors x.at.process fd by.d by.is).of_file in
    (f.0, ap (file_in s) (sym by.same) ∙ f.1)

module _ (v : Volume) (m next : State) (p : Place) (entry : Option Entry) (g : Progress) (reached : IsReached v m) (t : Turned v m next p entry g) where
  abbrev process : ℕ
  process = p.at.process

  abbrev added : List Entry
  added = option_to_list entry

  -- the descriptor of the call of the turn is of its file
  descriptor_file : (call : Call) (fd : ℕ) (d : Descriptor) → p.call ≡ call →
      (is_open call ≡ true) ⊎ ((s : Store) (slot : Option Descriptor) → file_of_call s call slot ≡ option_map (λ (d : Descriptor). d.file) slot) →
      fd_of_call call p.before ≡ Some fd → descriptor_at m.store process fd ≡ Some d → file_of m.store p ≡ Some d.file
  descriptor_file call fd d is kind of there =
      ⊎_elim
      (λ opens. by_open call is opens of)
      (λ by.
      ap (λ (c : Call). file_of_call m.store c (option_and_then (descriptor_at m.store p.at.process) (fd_of_call c p.before))) is
      ∙ by m.store (option_and_then (descriptor_at m.store p.at.process) (fd_of_call call p.before))
      ∙ ap (λ (o : Option ℕ). option_map (λ (d : Descriptor). d.file) (option_and_then (descriptor_at m.store p.at.process) o)) of
      ∙ ap (option_map (λ (d : Descriptor). d.file)) there)
      kind
    where
      by_open : (call : Call) → p.call ≡ call → is_open call ≡ true → fd_of_call call p.before ≡ Some fd → file_of m.store p ≡ Some d.file
      by_open (Enter name mode how) is opens of =
          let opened = reached.sound.holds_are.opened p.at.process fd p t.runs (ap is_open is) of in
          opened.2 ∙ ap (λ (x : Descriptor). Some x.file) (same_Some opened.0 d (sym opened.1 ∙ there))
      by_open call is opens of = absurd (let no : false ≡ true = opens in false≢true no)

  -- the fields of the entry are those of the call, at its place
  mine : (e : Entry) → entry ≡ Some e → (at_of e).process ≡ process
  mine e is = holds.at_process v m next p entry g reached t e is

  -- a right is attached on the file of the call
  pub attached_file : (at : At) (fd part : ℕ) (d : Descriptor) → entry ≡ Some (entries.Attached at fd part) → descriptor_at m.store at.process fd ≡ Some d →
      file_of m.store p ≡ Some d.file
  attached_file at fd part d is there =
      let e : Entry = entries.Attached at fd part in
      let a = t.added e is in
      let of : fd_of_call p.call p.before ≡ Some fd =
      subst (λ (x : Place). fd_of_call x.call x.before ≡ Some fd) (added_place v m p e a)
      (of_call-in_store v m.script m.journal m.store p.call e a.next).fields in
      let here : descriptor_at m.store p.at.process fd ≡ Some d = ap (λ (k : ℕ). descriptor_at m.store k fd) (sym (mine e is)) ∙ there in
      by p.call refl (added_made v m p e a) of here
    where
      by : (call : Call) → p.call ≡ call → is_made_by call (entries.Attached at fd part) ≡ true → fd_of_call call p.before ≡ Some fd →
          descriptor_at m.store p.at.process fd ≡ Some d → file_of m.store p ≡ Some d.file
      by (Enter name mode how) call made of here = descriptor_file (Enter name mode how) fd d call (inl refl) of here
      by (Map named) call made of here = descriptor_file (Map named) fd d call (inr (λ s slot. refl)) of here
      by call other made of here = absurd (false≢true made)

  -- a size is set of the file of the call
  pub sized_file : (at : At) (fd size : ℕ) (d : Descriptor) → entry ≡ Some (entries.Sized at fd size) → descriptor_at m.store at.process fd ≡ Some d →
      file_of m.store p ≡ Some d.file
  sized_file at fd size d is there =
      let e : Entry = entries.Sized at fd size in
      let a = t.added e is in
      let of : fd_of_call p.call p.before ≡ Some fd =
      subst (λ (x : Place). fd_of_call x.call x.before ≡ Some fd) (added_place v m p e a)
      (of_call-in_store v m.script m.journal m.store p.call e a.next).fields in
      let here : descriptor_at m.store p.at.process fd ≡ Some d = ap (λ (k : ℕ). descriptor_at m.store k fd) (sym (mine e is)) ∙ there in
      by p.call refl (added_made v m p e a) of here
    where
      by : (call : Call) → p.call ≡ call → is_made_by call (entries.Sized at fd size) ≡ true → fd_of_call call p.before ≡ Some fd →
          descriptor_at m.store p.at.process fd ≡ Some d → file_of m.store p ≡ Some d.file
      by (Truncate named to) call made of here = descriptor_file (Truncate named to) fd d call (inr (λ s slot. refl)) of here
      by (Enter name mode hows.Plain) call made of here = absurd (false≢true made)
      by (Enter name mode hows.Direct) call made of here = absurd (false≢true made)
      by call other made of here = absurd (false≢true made)

  -- ---- the truncation of another process

  -- the file of the call of the turn is not one that another process holds
  pub other_than : (q file : ℕ) → q ≢ process → (progress_of m q).held ≡ Some file → (e : Entry) → entry ≡ Some e →
      needs_hold e ≡ true → (other : ℕ) → file_of m.store p ≡ Some other → file ≢ other
  other_than q file differ held e is needs other of same =
      differ (t.alone e is needs file q (of ∙ ap Some (sym same)) held)

  -- what the rule of the file says of the entry
  right_file : (e : Entry) (file : ℕ) → entry ≡ Some e → file_of m.store (place_in m.store p.call (at_of e)) ≡ Some file → file_of m.store p ≡ Some file
  right_file e file is of = subst (λ (x : Place). file_of m.store x ≡ Some file) (added_place v m p e (t.added e is)) of

  other_unattached : (q file : ℕ) → q ≢ process → (progress_of m q).held ≡ Some file → (e : Entry) → entry ≡ Some e → LeavesUnattached m.store file e
  other_unattached q file differ held (entries.Attached at fd part) is =
      λ d there same.
      other_than q file differ held (entries.Attached at fd part) is refl d.file (attached_file at fd part d is there) (sym same)
  other_unattached q file differ held e is = tt

  pub other_size : (q file : ℕ) → q ≢ process → (progress_of m q).held ≡ Some file → (e : Entry) → entry ≡ Some e → LeavesSize m.store file e
  other_size q file differ held (entries.Extended at other to block) is =
      let e : Entry = entries.Extended at other to block in
      other_than q file differ held e is refl other (right_file e other is ((t.added e is).next.keeps RightFile))
  other_size q file differ held (entries.Released at other index block) is =
      let e : Entry = entries.Released at other index block in
      other_than q file differ held e is refl other (right_file e other is ((t.added e is).next.keeps RightFile))
  other_size q file differ held (entries.Sized at fd size) is =
      λ d there. other_than q file differ held (entries.Sized at fd size) is refl d.file (sized_file at fd size d is there)
  other_size q file differ held (entries.Unlinked at other) is =
      let e : Entry = entries.Unlinked at other in
      other_than q file differ held e is refl other (right_file e other is ((t.added e is).next.keeps RightFile))
  other_size q file differ held e is = tt

  -- what stays of the file that another process holds
  other_no_rights : (q file : ℕ) → q ≢ process → (progress_of m q).held ≡ Some file → HasNoRights m.store file → HasNoRights next.store file
  other_no_rights q file differ held none = subst (λ (s : Store). HasNoRights s file) (sym t.store) (by entry refl)
    where
      by : (o : Option Entry) → entry ≡ o → HasNoRights (store_with m.store p.call o) file
      by None is = none
      by (Some e) is = no_rights_kept m.store p.call e file (other_unattached q file differ held e is) none

  other_same_size : (q file : ℕ) (f : Inode) → q ≢ process → (progress_of m q).held ≡ Some file → file_in m.store file ≡ Some f →
      size_in next.store file ≡ size_in m.store file
  other_same_size q file f differ held there = ap (λ (s : Store). size_in s file) t.store ∙ by entry refl
    where
      by : (o : Option Entry) → entry ≡ o → size_in (store_with m.store p.call o) file ≡ size_in m.store file
      by None is = refl
      by (Some e) is = size_kept m.store p.call e file f (t.added e is).next.keeps there (other_size q file differ held e is)

  other_truncating : (q fd size : ℕ) (x : Place) → q ≢ process → running m q ≡ Some x → x.call ≡ Truncate fd size → IsTruncating next.store x size
  other_truncating q fd size x differ was call =
      let old : IsTruncating m.store x size = reached.sound.holds_are.truncating q x fd size was call in
      let held = λ (some : x.before ≢ []). reached.sound.holds_are.begun_holding q x was (ap holds_throughout call) some in
      let same = λ (some : x.before ≢ []) (file : ℕ) (of : file_of next.store x ≡ Some file).
      same_Some (held some).0 file
      (sym (holds.other_file v m next p entry g reached t q (held some).0 x differ (running_process m q x was) (held some).2 (held some).1) ∙ of) in
      record {
        without_rights = λ released file of.
            let some = some_any is_release x.before released in
            let none : HasNoRights m.store (held some).0 = keys_on-none m.store (held some).0 (old.without_rights released (held some).0 (held some).1) in
            subst (λ (k : ℕ). keys_on next.store k ≡ []) (same some file of)
            (no_keys next.store (held some).0 (other_no_rights q (held some).0 differ (held some).2 none));
        lowers = λ cleared unreleased file of.
            let some = some_any is_clear x.before cleared in
            let f = truncation_file m.store x fd size (held some).0 reached.sound.calls.valid call (held some).1 in
            subst (λ (k : ℕ). size < size_in next.store k) (same some file of)
            (subst (λ (n : ℕ). size < n) (sym (other_same_size q (held some).0 f.0 differ (held some).2 f.1))
            (old.lowers cleared unreleased (held some).0 (held some).1));
      }

  -- ---- the truncation of the turn

  -- what an entry of a truncation that goes on does to its file
  record Truncates (size file : ℕ) (e : Entry) : Type 0 where
    unattached : LeavesUnattached m.store file e
    released : is_release e ≡ true → HasNoRights m.store file
    cleared : is_clear e ≡ true → size < size_in m.store file
    size_stays : is_release e ≡ false → size < size_in m.store file → LeavesSize m.store file e

  -- an entry that ends it is not added as it goes on
  ends_not : GoesOn next p added g → (fd size : ℕ) → p.call ≡ Truncate fd size → (e : Entry) → entry ≡ Some e → is_end_of p.call e ≡ true → ⊥
  ends_not goes fd size call e is ends =
      both_ways (has_ended p.call (p.before ++ added) g) goes.unended
      (ap (λ (o : Option Entry). has_ended p.call (p.before ++ option_to_list o) g) is
      ∙ has_ended-by_end p.call p.before e g ends (t.commands e is (ap pieces_of_call call)))

  growing-not : (size old to : ℕ) → next_size old size ≡ Some to → size < old → ⊥
  growing-not size old to is lower =
      ⊎_elim
      (λ below. let larger : old < size = ltb-true old size below.0 in omega arith)
      (λ there. none-some to there.1)
      (cond_from (nat_lt old size) _ None (Some to) is)

  truncates : GoesOn next p added g → (fd size file : ℕ) → p.call ≡ Truncate fd size → file_of m.store p ≡ Some file → (e : Entry) → entry ≡ Some e →
      Truncates size file e
  truncates goes fd size file call of e is =
      by e is (subst (λ (c : Call). is_made_by c e ≡ true) call (added_made v m p e (t.added e is))) (ends_not goes fd size call e is)
    where
      the_file : (x : Entry) (other : ℕ) → entry ≡ Some x → file_of m.store (place_in m.store p.call (at_of x)) ≡ Some other → other ≡ file
      the_file x other is_x of_x = same_Some other file (sym (right_file x other is_x of_x) ∙ of)

      by : (x : Entry) → entry ≡ Some x → is_made_by (Truncate fd size) x ≡ true → (is_end_of p.call x ≡ true → ⊥) → Truncates size file x
      by (entries.Cleared at owner number part) is_x made ends_it =
          let x : Entry = entries.Cleared at owner number part in
          let keeps = (t.added x is_x).next.keeps in
          let right = keeps Rights in
          let of_d = keeps RightFile in
          let same : right.0 ≡ of_d.0 = same_Some right.0 of_d.0 (sym right.1 ∙ of_d.1) in
          let is_file : right.0.file ≡ file = ap (λ (d : Descriptor). d.file) same ∙ the_file x of_d.0.file is_x of_d.2 in
          record {
            unattached = tt;
            released = λ no. absurd (false≢true no);
            cleared = λ yes.
                subst (λ (k : ℕ). size < size_in m.store k) is_file
                (subst (λ (c : Call). LowersWhereTruncates m.store c right.0.file) call right.2.1);
            size_stays = λ no lower. tt;
          }
      by (entries.Detached at owner number part) is_x made ends_it = record {
        unattached = tt;
        released = λ no. absurd (false≢true no);
        cleared = λ no. absurd (false≢true no);
        size_stays = λ no lower. tt;
      }
      by (entries.Released at other index block) is_x made ends_it =
          let x : Entry = entries.Released at other index block in
          let keeps = (t.added x is_x).next.keeps in
          record {
            unattached = tt;
            released = λ yes. subst (HasNoRights m.store) (the_file x other is_x (keeps RightFile)) (keeps Rights);
            cleared = λ no. absurd (false≢true no);
            size_stays = λ no lower. absurd (false≢true (sym no));
          }
      by (entries.Extended at other to block) is_x made ends_it =
          let x : Entry = entries.Extended at other to block in
          let keeps = (t.added x is_x).next.keeps in
          let is_file = the_file x other is_x (keeps RightFile) in
          let grows : next_size (size_in m.store other) size ≡ Some to =
          subst
          (λ (c : Call). option_and_then (next_size (size_in m.store other)) (goal_of_call c (kernel_piece m.store (place_in m.store p.call at))) ≡ Some to)
          call (keeps WithinLimit) in
          record {
            unattached = tt;
            released = λ no. absurd (false≢true no);
            cleared = λ no. absurd (false≢true no);
            size_stays = λ no lower.
                absurd (growing-not size (size_in m.store other) to grows (subst (λ (k : ℕ). size < size_in m.store k) (sym is_file) lower));
          }
      by (entries.Sized at number to) is_x made ends_it = absurd (ends_it (ap (λ (c : Call). is_end_of c (entries.Sized at number to)) call))
      by (entries.Refused at None reason) is_x made ends_it = absurd (ends_it refl)
      by x is_x made ends_it = absurd (false≢true made)

  own_truncating : GoesOn next p added g → (fd size : ℕ) → p.call ≡ Truncate fd size →
      IsTruncating next.store (record p { before = p.before ++ added }) size
  own_truncating goes fd size call =
      subst (λ (s : Store). IsTruncating s (record p { before = p.before ++ added }) size) (sym t.store) (by entry refl)
    where
      old : IsTruncating m.store p size
      old = reached.sound.holds_are.truncating p.at.process p fd size t.runs call

      by : (o : Option Entry) → entry ≡ o → IsTruncating (store_with m.store p.call o) (record p { before = p.before ++ option_to_list o }) size
      by None is =
          subst (λ (es : List Entry). IsTruncating m.store (record p { before = es }) size) (sym (append-nil p.before))
          (reached.sound.holds_are.truncating p.at.process p fd size t.runs call)
      by (Some e) is =
          let old : IsTruncating m.store p size = reached.sound.holds_are.truncating p.at.process p fd size t.runs call in
          let s : Store = store_after m.store p.call e in
          let place : Place = record p { before = p.before ++ e ∷ [] } in
          let through = (t.going goes.unended).through (ap holds_throughout call) (some_added e is) in
          let file : ℕ = through.0 in
          let step = truncates goes fd size file call through.1 e is in
          let after : file_of s place ≡ Some file =
          subst (λ (x : Store). file_of x place ≡ Some file) (t.store ∙ ap (store_with m.store p.call) is)
          (subst (λ (o : Option Entry). file_of next.store (record p { before = p.before ++ option_to_list o }) ≡ Some file) is
          (holds.own_file v m next p entry g reached t goes file through.1)) in
          let f = truncation_file m.store p fd size file reached.sound.calls.valid call through.1 in
          record {
            without_rights = λ released other of.
                let same : file ≡ other = same_Some file other (sym after ∙ of) in
                let none : HasNoRights m.store file =
                ⊎_elim
                (λ before. keys_on-none m.store file (old.without_rights before file through.1))
                (λ now. ⊎_elim (λ here. step.released here) (λ no. absurd (false≢true no)) (or_cases (is_release e) false now))
                (or_cases (list_any is_release p.before) (list_any is_release (e ∷ [])) (sym (list_any-append is_release p.before (e ∷ [])) ∙ released)) in
                subst (λ (k : ℕ). keys_on s k ≡ []) same (no_keys s file (no_rights_kept m.store p.call e file step.unattached none));
            lowers = λ cleared unreleased other of.
                let same : file ≡ other = same_Some file other (sym after ∙ of) in
                let parts = or_parts (list_any is_release p.before) (list_any is_release (e ∷ []))
                (sym (list_any-append is_release p.before (e ∷ [])) ∙ unreleased) in
                let not_now : is_release e ≡ false = (or_parts (is_release e) false parts.1).0 in
                let lower : size < size_in m.store file =
                ⊎_elim
                (λ before. old.lowers before parts.0 file through.1)
                (λ now. ⊎_elim (λ here. step.cleared here) (λ no. absurd (false≢true no)) (or_cases (is_clear e) false now))
                (or_cases (list_any is_clear p.before) (list_any is_clear (e ∷ [])) (sym (list_any-append is_clear p.before (e ∷ [])) ∙ cleared)) in
                subst (λ (k : ℕ). size < size_in s k) same
                (subst (λ (n : ℕ). size < n)
                (sym (size_kept m.store p.call e file f.0 (t.added e is).next.keeps f.1 (step.size_stays not_now lower))) lower);
          }
        where
          some_end : (xs : List Entry) (e : Entry) → xs ++ e ∷ [] ≢ []
          some_end [] e none = let no : e ∷ [] ≡ [] = none in cc
          some_end (x ∷ xs) e none = let no : x ∷ (xs ++ e ∷ []) ≡ [] = none in cc

          some_added : (e : Entry) → entry ≡ Some e → p.before ++ option_to_list entry ≢ []
          some_added e is = subst (λ (o : Option Entry). p.before ++ option_to_list o ≢ []) (sym is) (some_end p.before e)

  pub truncating_next : AreTruncating next
  truncating_next q x fd size is call =
      ⊎_elim
      (λ same.
      let own : running next process ≡ Some x = ap (running next) (sym same) ∙ is in
      ⊎_elim
      (λ goes.
      let place : x ≡ record p { before = p.before ++ added } = same_Some x (record p { before = p.before ++ added }) (sym own ∙ goes.running_is) in
      subst (λ (y : Place). IsTruncating next.store y size) (sym place)
      (own_truncating goes fd size (ap (λ (y : Place). y.call) (sym place) ∙ call)))
      (λ ends.
      let empty : x.before ≡ [] = ends.fresh x own in
      record {
        without_rights = λ released file of. absurd (some_any is_release x.before released empty);
        lowers = λ cleared unreleased file of. absurd (some_any is_clear x.before cleared empty);
      })
      t.follows.own)
      (λ differ. other_truncating q fd size x differ (sym (t.follows.other_running q differ) ∙ is) call)
      (cases_eq q process)
