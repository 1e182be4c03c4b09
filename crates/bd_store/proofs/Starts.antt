-- The store that begins with a sound volume and these users, and what is kept of it.
use Rattle.std.proofs.Common.{◌≡◌, ℕ, ◌<◌, ◌≤◌, List, [], ◌∷◌, map, length, replicate, zero, suc, Option, None, arith, refl, sym, ap, ◌∙◌, inl, inr, subst}
use Rattle.std.specs.Prelude.{slice_index_or, All}
use Rattle.std.proofs.lemmas.Bool.{cases_lt}
use Rattle.std.proofs.lemmas.List.{get_or_past, length-map}
use Rattle.std.proofs.lemmas.List.Elements.{All-map, All-nil}
use Rattle.bd_base.specs.declared.limits.TheConstants.{DESCRIPTORS, PROCESSES, USERS}
use Rattle.bd_base.specs.declared.script.Process.{Process}
use Rattle.bd_base.specs.declared.volume.Inode.{Inode}
use Rattle.bd_base.specs.declared.volume.Volume.{Volume}
use Rattle.bd_base.specs.Scripts.{IsCall, IsProcess, IsSchedule, IsWithinLimits}
use Rattle.bd_base.specs.Volumes.{IsSoundVolume}
use Rattle.bd_entry.specs.declared.entry.Entry.{Entry}
use Rattle.bd_entry.specs.Store.{Descriptor}
use Rattle.bd_entry.proofs.StoreLaws.{start_is_valid}
use Rattle.bd_store.specs.Kept.{AreIdle, IsKept, Kept, Represents, idle_script, no_marks, start_of, store_of}
use Rattle.bd_kernel.specs.Marks.{AreMarksOf, Marks}

-- a process that calls nothing
abbrev idle : ℕ → Process
idle uid = record { uid = uid; calls = [] }

same_users : (uids : List ℕ) → map (λ (p : Process). p.uid) (map idle uids) ≡ uids
same_users [] = refl
same_users (uid ∷ uids) = ap (λ (more : List ℕ). uid ∷ more) (same_users uids)

same_rows : {X : Type 0} (row : X) (uids : List ℕ) → map (λ (p : Process). row) (map idle uids) ≡ replicate (length uids) row
same_rows row [] = refl
same_rows row (uid ∷ uids) = ap (λ (rows : List _). row ∷ rows) (same_rows row uids)

abbrev no_work : List ℕ → List (List Entry)
no_work uids = map (λ (p : Process). []) (map idle uids)

none_running : (uids : List ℕ) (q : ℕ) → slice_index_or (no_work uids) q [] ≡ []
none_running [] q = refl
none_running (uid ∷ uids) zero = refl
none_running (uid ∷ uids) (suc q) = none_running uids q

no_marks-are : AreMarksOf no_marks []
no_marks-are = record {
  begun = refl;
  opened = refl;
  answered = λ piece. refl;
  missed = λ piece. refl;
  cleared = λ p f k is. refl;
}

idle_marks : (marks : List Marks) → All (λ (m : Marks). AreMarksOf m []) marks → (q : ℕ) → AreMarksOf (slice_index_or marks q no_marks) []
idle_marks marks all q =
    elim (cases_lt q (length marks)) [
      | inl inside ↦ all q no_marks inside
      | inr past ↦ subst (λ (m : Marks). AreMarksOf m []) (sym (get_or_past marks q no_marks past)) no_marks-are
    ]

idle-limits : (uids : List ℕ) → length uids ≤ PROCESSES → All (λ uid. uid < USERS) uids → IsWithinLimits (idle_script uids)
idle-limits uids few users = record {
  process_count = let count : length (map idle uids) ≡ length uids = length-map uids idle in omega arith;
  processes = All-map IsProcess idle uids (λ k d within. record { uid = users k d within; count = omega arith; calls = All-nil IsCall });
  schedule_count = omega arith;
  schedule = All-nil (IsSchedule (length (map idle uids)));
  turns = omega arith;
}

-- no descriptor of so many processes
abbrev pub empty_rows : ℕ → List (List (Option Descriptor))
empty_rows count = replicate count (replicate DESCRIPTORS None)

module _ (v : Volume) (uids : List ℕ) (sound : IsSoundVolume v) (few : length uids ≤ PROCESSES) (users : All (λ uid. uid < USERS) uids) where
  abbrev pub kept : List Marks → Kept
  kept marks =
      record { total = v.total; uids = uids; files = v.inodes; bytes = v.bytes; opens = empty_rows (length uids); marks = marks }

  started-with : (marks : List Marks) → AreIdle (length uids) marks → Represents (kept marks) (start_of v uids)
  started-with marks idle_are = record {
    store =
        ap (λ (us : List ℕ). record (start_of v uids) { uids = us }) (same_users uids)
        ∙ ap (λ (rows : List (List (Option Descriptor))). record (store_of (kept marks) (no_work uids)) { opens = rows })
        (same_rows (replicate DESCRIPTORS None) uids);
    marked = λ q.
        subst (λ (es : List Entry). AreMarksOf (slice_index_or marks q no_marks) es) (sym (none_running uids q)) (idle_marks marks idle_are.idle q);
    valid = start_is_valid v (idle_script uids) sound (idle-limits uids few users);
  }

  -- each process has its marks
  pub started-parts : (k : Kept) → k.uids ≡ uids → AreIdle (length uids) k.marks → IsKept k
  started-parts k same idle_are = record { marks = idle_are.count ∙ sym (ap (λ (xs : List ℕ). length xs) same) }

  -- what is kept of each part is what there is at the start
  pub started : (k : Kept) → k.total ≡ v.total → k.uids ≡ uids → k.files ≡ v.inodes → k.bytes ≡ v.bytes → k.opens ≡ empty_rows (length uids) →
      AreIdle (length uids) k.marks → Represents k (start_of v uids)
  started k total same files bytes opens idle_are =
      let is : k ≡ kept k.marks =
      ap (λ (x : ℕ). record k { total = x }) total
      ∙ ap (λ (x : List ℕ). record k { total = v.total; uids = x }) same
      ∙ ap (λ (x : List (Option Inode)). record k { total = v.total; uids = uids; files = x }) files
      ∙ ap (λ (x : List ℕ). record k { total = v.total; uids = uids; files = v.inodes; bytes = x }) bytes
      ∙ ap (λ (x : List (List (Option Descriptor))). record k { total = v.total; uids = uids; files = v.inodes; bytes = v.bytes; opens = x }) opens in
      subst (λ (k : Kept). Represents k (start_of v uids)) (sym is) (started-with k.marks idle_are)
