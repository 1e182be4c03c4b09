-- What is kept after an entry's own change, the size that it tells and the end of its call, and the store that it then stands for.
use Rattle.std.proofs.Common.{◌≡◌, ◌≢◌, ℕ, ◌<◌, Bool, true, false, List, [], ◌∷◌, ◌++◌, length, zero, suc, Option, None, Some, arith, refl, sym, ap, ◌∙◌, inl, inr, subst}
use Rattle.std.specs.Prelude.{slice_index_or, slice_set}
use Rattle.std.specs.Option.{option_map_or}
use Rattle.std.proofs.lemmas.Bool.{cases_eq}
use Rattle.std.proofs.lemmas.List.{get_or-set_other, get_or-set_same}
use Rattle.bd_base.specs.declared.script.Call.{Call}
use Rattle.bd_base.specs.Scripts.{IsCall}
use Rattle.bd_entry.specs.declared.entry.Entry.{Entry}
use Rattle.bd_entry.specs.declared.entry.Entry.TheVariants.{Access, Sized}
use Rattle.bd_entry.specs.Calls.{at_of, fd_of, fd_of_call, is_ended_by}
use Rattle.bd_entry.specs.Effects.{after_access, after_call, after_change, after_telling, effect_of, tells_size, with_descriptor_of_call, with_known_size, with_size}
use Rattle.bd_entry.specs.Rules.{place_in}
use Rattle.bd_entry.specs.Store.{Descriptor, Store, Valid, descriptor_at, with_work, work_of}
use Rattle.bd_entry.proofs.StoreLaws.{step_keeps_valid}
use Rattle.bd_store.specs.Kept.{AreMarked, AtPlace, Kept, Represents, bare, marks_at, no_marks, store_of}
use Rattle.bd_kernel.specs.Marks.{AreMarksOf, HasKeyOf, HasRoom, Marks, noted}
use Rattle.bd_store.specs.Steps.{IsReady, kept_as, with_noted}
use Rattle.bd_kernel.proofs.MarkLemmas.{noted-marks}
use Rattle.bd_store.proofs.ReadyChanges.{has_piece}

-- ---- an entry's changes do not look at the entries of running calls

sized-kept : (k : Kept) (work : List (List Entry)) (size : ℕ) (slot : Option Descriptor) →
    option_map_or (λ (d : Descriptor). with_size (store_of k work) d.file size) slot (store_of k work)
    ≡ store_of (kept_as k (option_map_or (λ (d : Descriptor). with_size (bare k) d.file size) slot (bare k))) work
sized-kept k work size None = refl
sized-kept k work size (Some d) = refl

access-kept : (k : Kept) (work : List (List Entry)) (wrote : Bool) (block : Option ℕ) (lo : ℕ) (bytes : List ℕ) →
    after_access (store_of k work) wrote block lo bytes ≡ store_of (kept_as k (after_access (bare k) wrote block lo bytes)) work
access-kept k work true block lo bytes = refl
access-kept k work false block lo bytes = refl

after_change-kept : (k : Kept) (work : List (List Entry)) (e : Entry) →
    after_change (store_of k work) e ≡ store_of (kept_as k (after_change (bare k) e)) work
after_change-kept k work (Access at piece fd file index block range wrote way bytes) = access-kept k work wrote block range.lo bytes
after_change-kept k work (Sized at fd size) = sized-kept k work size (descriptor_at (bare k) at.process fd)
after_change-kept k work e = refl

after_telling-kept : (tells : Bool) (k : Kept) (work : List (List Entry)) (p : ℕ) (of : Option ℕ) →
    after_telling tells (store_of k work) p of ≡ store_of (kept_as k (after_telling tells (store_of k work) p of)) work
after_telling-kept true k work p None = refl
after_telling-kept true k work p (Some fd) = refl
after_telling-kept false k work p of = refl

telling-anywhere : (tells : Bool) (k : Kept) (work other : List (List Entry)) (p : ℕ) (of : Option ℕ) →
    kept_as k (after_telling tells (store_of k work) p of) ≡ kept_as k (after_telling tells (store_of k other) p of)
telling-anywhere true k work other p None = refl
telling-anywhere true k work other p (Some fd) = refl
telling-anywhere false k work other p of = refl

known-kept : (k : Kept) (work other : List (List Entry)) (p : ℕ) (of : Option ℕ) →
    with_descriptor_of_call (store_of k work) p of with_known_size
    ≡ store_of (kept_as k (with_descriptor_of_call (store_of k other) p of with_known_size)) work
known-kept k work other p None = refl
known-kept k work other p (Some fd) = refl

-- users stay
sized-uids : (s : Store) (size : ℕ) (slot : Option Descriptor) → (option_map_or (λ (d : Descriptor). with_size s d.file size) slot s).uids ≡ s.uids
sized-uids s size None = refl
sized-uids s size (Some d) = refl

access-uids : (s : Store) (wrote : Bool) (block : Option ℕ) (lo : ℕ) (bytes : List ℕ) → (after_access s wrote block lo bytes).uids ≡ s.uids
access-uids s true block lo bytes = refl
access-uids s false block lo bytes = refl

after_change-uids : (s : Store) (e : Entry) → (after_change s e).uids ≡ s.uids
after_change-uids s (Access at piece fd file index block range wrote way bytes) = access-uids s wrote block range.lo bytes
after_change-uids s (Sized at fd size) = sized-uids s size (descriptor_at s at.process fd)
after_change-uids s e = refl

after_telling-uids : (tells : Bool) (s : Store) (p : ℕ) (of : Option ℕ) → (after_telling tells s p of).uids ≡ s.uids
after_telling-uids true s p None = refl
after_telling-uids true s p (Some fd) = refl
after_telling-uids false s p of = refl

-- ---- a step

-- marks with room are those of a process
has_row : (marks : List Marks) (p : ℕ) → HasRoom (slice_index_or marks p no_marks) → p < length marks
has_row [] p room = absurd (omega (arith, room.answered))
has_row (m ∷ marks) zero room = omega arith
has_row (m ∷ marks) (suc p) room = let within : p < length marks = has_row marks p room in omega arith

-- what is kept before an entry, after its own change, once it is noted, and once its process is told
pub record IsTold (k : Kept) (s : Store) (call : Call) (e : Entry) (new noting told : Kept) : Type 0 where
  pub before : Represents k s
  pub is_call : IsCall call
  pub process : (at_of e).process < length k.uids
  pub ready : IsReady s call e
  pub changed : new ≡ kept_as k (after_change (bare k) e)
  pub noted : noting ≡ with_noted new e
  pub key : HasKeyOf e
  pub room : HasRoom (marks_at new (at_of e).process)
  pub telling : AtPlace noting call (at_of e) (λ s p. told ≡ kept_as noting (after_telling (tells_size e) s p.at.process (fd_of p)))

module _ (k : Kept) (s : Store) (call : Call) (e : Entry) (new noting told : Kept) (is : IsTold k s call e new noting told) where
  abbrev p : ℕ
  p = (at_of e).process

  abbrev entries : List Entry
  entries = work_of s p ++ e ∷ []

  abbrev work : List (List Entry)
  work = slice_set s.work p entries

  abbrev of : Option ℕ
  of = fd_of_call call entries

  row_there : p < length s.work
  row_there =
      let uids : length s.uids ≡ length k.uids = ap (λ (t : Store). length t.uids) is.before.store in
      let rows = is.before.valid.rows in
      omega (arith, is.process, uids, rows.uids, rows.work)

  work_here : slice_index_or work p [] ≡ entries
  work_here = get_or-set_same s.work p entries [] row_there

  marked_then : AreMarked new s.work
  marked_then q =
      subst (λ (marks : List Marks). AreMarksOf (slice_index_or marks q no_marks) (slice_index_or s.work q []))
      (sym (ap (λ (k : Kept). k.marks) is.changed)) (is.before.marked q)

  noted_here : AreMarksOf (noted e (marks_at new p)) entries
  noted_here = noted-marks (marks_at new p) (work_of s p) e is.room (has_piece s call e is.is_call is.ready) is.key (marked_then p)

  marked_noted : AreMarked noting work
  marked_noted q =
      subst (λ (k : Kept). AreMarksOf (marks_at k q) (slice_index_or work q [])) (sym is.noted)
      (elim (cases_eq q p) [
        | inl same ↦
            subst (λ (q : ℕ). AreMarksOf (slice_index_or (slice_set new.marks p (noted e (marks_at new p))) q no_marks) (slice_index_or work q []))
            (sym same)
            (subst (λ (m : Marks). AreMarksOf m (slice_index_or work p []))
            (sym (get_or-set_same new.marks p (noted e (marks_at new p)) no_marks (has_row new.marks p is.room)))
            (subst (λ (es : List Entry). AreMarksOf (noted e (marks_at new p)) es) (sym work_here) noted_here))
        | inr differ ↦
            subst (λ (m : Marks). AreMarksOf m (slice_index_or work q []))
            (sym (get_or-set_other new.marks p q (noted e (marks_at new p)) no_marks differ))
            (subst (λ (es : List Entry). AreMarksOf (marks_at new q) es) (sym (get_or-set_other s.work p q entries [] differ)) (marked_then q))
      ])

  told_is : told ≡ kept_as noting (after_telling (tells_size e) (store_of noting s.work) p of)
  told_is =
      is.telling work marked_noted
      ∙ ap (λ (es : List Entry). kept_as noting (after_telling (tells_size e) (store_of noting work) p (fd_of_call call es))) work_here
      ∙ telling-anywhere (tells_size e) noting work s.work p of

  marked_told : AreMarked told work
  marked_told q =
      subst (λ (marks : List Marks). AreMarksOf (slice_index_or marks q no_marks) (slice_index_or work q []))
      (sym (ap (λ (k : Kept). k.marks) told_is)) (marked_noted q)

  told_store : after_telling (tells_size e) (after_change s e) p of ≡ store_of told s.work
  told_store =
      ap (λ (t : Store). after_telling (tells_size e) t p of)
      (ap (λ (t : Store). after_change t e) is.before.store ∙ after_change-kept k s.work e
      ∙ ap (λ (k : Kept). store_of k s.work) (sym is.changed)
      ∙ ap (λ (k : Kept). store_of k s.work) (sym is.noted))
      ∙ after_telling-kept (tells_size e) noting s.work p of
      ∙ ap (λ (k : Kept). store_of k s.work) (sym told_is)

  valid_then : Valid (effect_of s (place_in s call (at_of e)) e)
  valid_then =
      step_keeps_valid s call e (effect_of s (place_in s call (at_of e)) e) is.before.valid is.is_call is.ready.next
      (record { keeps = is.ready.keeps; after = refl })

  -- its process is there
  pub still_there : p < length told.uids
  still_there =
      let telling : told.uids ≡ noting.uids =
      ap (λ (k : Kept). k.uids) told_is ∙ after_telling-uids (tells_size e) (store_of noting s.work) p of in
      let noted : noting.uids ≡ new.uids = ap (λ (k : Kept). k.uids) is.noted in
      let changed : new.uids ≡ k.uids = ap (λ (k : Kept). k.uids) is.changed ∙ after_change-uids (bare k) e in
      subst (λ (uids : List ℕ). p < length uids) (sym (telling ∙ noted ∙ changed)) is.process

  -- the marks are those of the entries with this one
  pub marked_here : AreMarksOf (marks_at told p) entries
  marked_here = subst (λ (es : List Entry). AreMarksOf (marks_at told p) es) work_here (marked_told p)

  -- a call that goes on
  pub goes_on : is_ended_by call entries ≡ false → Represents told (effect_of s (place_in s call (at_of e)) e)
  goes_on running =
      let effect : effect_of s (place_in s call (at_of e)) e ≡ store_of told work =
      ap (λ (b : Bool). after_call b (after_telling (tells_size e) (after_change s e) p of) p of entries) running
      ∙ ap (λ (t : Store). with_work t p entries) told_store in
      let same : (effect_of s (place_in s call (at_of e)) e).work ≡ work = ap (λ (t : Store). t.work) effect in
      record {
        store = effect ∙ ap (store_of told) (sym same);
        marked = subst (AreMarked told) (sym same) marked_told;
        valid = valid_then;
      }

  -- a call that ends
  pub ends : (last : Kept) → is_ended_by call entries ≡ true →
      AtPlace told call (at_of e)
      (λ s p. bare last ≡ bare (kept_as told (with_descriptor_of_call s p.at.process (fd_of p) with_known_size))) →
      AreMarksOf (marks_at last p) [] → ((q : ℕ) → q ≢ p → marks_at last q ≡ marks_at told q) →
      Represents last (effect_of s (place_in s call (at_of e)) e)
  ends last ended rights here others =
      let none : List (List Entry) = slice_set s.work p [] in
      let effect : effect_of s (place_in s call (at_of e)) e ≡ store_of last none =
      ap (λ (b : Bool). after_call b (after_telling (tells_size e) (after_change s e) p of) p of entries) ended
      ∙ ap (λ (t : Store). with_descriptor_of_call (with_work t p []) p of with_known_size) told_store
      ∙ known-kept told none work p of
      ∙ ap (λ (es : List Entry).
      store_of (kept_as told (with_descriptor_of_call (store_of told work) p (fd_of_call call es) with_known_size)) none) (sym work_here)
      ∙ ap (λ (t : Store). record t { work = none }) (sym (rights work marked_told)) in
      let same : (effect_of s (place_in s call (at_of e)) e).work ≡ none = ap (λ (t : Store). t.work) effect in
      record {
        store = effect ∙ ap (store_of last) (sym same);
        marked = subst (AreMarked last) (sym same) (marked_last last here others);
        valid = valid_then;
      }
    where
      marked_last : (last : Kept) → AreMarksOf (marks_at last p) [] → ((q : ℕ) → q ≢ p → marks_at last q ≡ marks_at told q) →
          AreMarked last (slice_set s.work p [])
      marked_last last here others q =
          elim (cases_eq q p) [
            | inl same ↦
                subst (λ (q : ℕ). AreMarksOf (marks_at last q) (slice_index_or (slice_set s.work p []) q [])) (sym same)
                (subst (λ (es : List Entry). AreMarksOf (marks_at last p) es) (sym (get_or-set_same s.work p [] [] row_there)) here)
            | inr differ ↦
                subst (λ (m : Marks). AreMarksOf m (slice_index_or (slice_set s.work p []) q [])) (sym (others q differ))
                (subst (λ (es : List Entry). AreMarksOf (marks_at told q) es)
                (get_or-set_other s.work p q entries [] differ ∙ sym (get_or-set_other s.work p q [] [] differ)) (marked_told q))
          ]
