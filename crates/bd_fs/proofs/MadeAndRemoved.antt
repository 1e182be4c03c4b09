-- What a file system keeps, after a file was made or taken away.
use Rattle.std.proofs.Common.{◌≡◌, ℕ, ◌<◌, cond, ◌&&◌, nat_eq, List, [], length, slice_set, Option, None, Some}
use Rattle.std.proofs.Common.{is_some, refl, sym, ap, ◌∙◌, inl, inr}
use Rattle.std.specs.Str.{bytes_eq}
use Rattle.std.proofs.lemmas.Bool.{cases_eq}
use Rattle.std.proofs.lemmas.List.{length-set}
use Rattle.bd_base.specs.declared.volume.Inode.{Inode}
use Rattle.bd_base.specs.Allocation.{is_data_block}
use Rattle.bd_base.specs.Extents.{extents_of}
use Rattle.bd_base.specs.Inodes.{AreValidFiles, blocks_of_slot, free_id, id_of, inode_at}
use Rattle.bd_base.proofs.FileLists.{id_of-set_made, id_of-set_removed, inode_at-set_other, inode_at-set_same, inode_at-within}
use Rattle.bd_base.proofs.ValidFiles.{AreValidFiles-made, AreValidFiles-removed, free_id-free, times-no_blocks}
use Rattle.bd_fs.specs.Kept.{IsKept, Parts}

-- ---- a change of a file that has no block before and after

module _ (p : Parts) (id : ℕ) (o : Option Inode) (kept : IsKept p) (inside : id < length p.files)
    (no_blocks : blocks_of_slot o ≡ []) (had_none : blocks_of_slot (inode_at p.files id) ≡ []) where
  pub IsKept-no_blocks : (new_id_by_name : List ℕ → Option ℕ) → AreValidFiles p.total (slice_set p.files id o)
      → ((name : List ℕ) → new_id_by_name name ≡ id_of name (slice_set p.files id o))
      → IsKept (record p { files = slice_set p.files id o; id_by_name = new_id_by_name })
  IsKept-no_blocks new_id_by_name valid named = record {
    valid = valid;
    all_counted = kept.all_counted ∙ sym (length-set p.files id o);
    counted = λ k. kept.counted k ∙ elim (cases_eq k id) [
      | inl same ↦
          ap (λ j. length (extents_of (blocks_of_slot (inode_at p.files j)))) same
          ∙ ap (λ bs. length (extents_of bs)) had_none
          ∙ sym (ap (λ j. length (extents_of (blocks_of_slot (inode_at (slice_set p.files id o) j)))) same
          ∙ ap (λ slot. length (extents_of (blocks_of_slot slot))) (inode_at-set_same p.files id o inside)
          ∙ ap (λ bs. length (extents_of bs)) no_blocks)
      | inr other ↦ sym (ap (λ slot. length (extents_of (blocks_of_slot slot))) (inode_at-set_other p.files id k o other))
    ];
    same_total = kept.same_total;
    free_blocks = λ b. kept.free_blocks b
        ∙ (λ i. is_data_block p.total (sym (length-set p.files id o) i) b
        && nat_eq (sym (times-no_blocks p.total p.files id o inside no_blocks had_none b) i) 0);
    named = named;
  }

-- ---- a file that is made

pub IsKept-made : (p : Parts) (new_id_by_name : List ℕ → Option ℕ) (id : ℕ) (name : List ℕ) (owner perms : ℕ)
    → IsKept p → free_id p.files ≡ Some id → id_of name p.files ≡ None
    → ((other : List ℕ) → new_id_by_name other ≡ cond (bytes_eq name other) (Some id) (p.id_by_name other))
    → IsKept (record p {
      files =
          slice_set p.files id (Some (record { name = name; owner = owner; perms = perms; size = 0; blocks = [] }));
      id_by_name = new_id_by_name;
    })
IsKept-made p new_id_by_name id name owner perms kept lowest unused found =
    let made : Inode = record { name = name; owner = owner; perms = perms; size = 0; blocks = [] } in
    let free = free_id-free p.files id lowest in
    IsKept-no_blocks p id (Some made) kept free.0 refl (ap blocks_of_slot free.1) new_id_by_name
    (AreValidFiles-made p.total p.files id made lowest refl refl unused kept.valid)
    (λ other. found other ∙ ap (cond (bytes_eq name other) (Some id)) (kept.named other) ∙ sym (id_of-set_made p.files id made free.0 free.1 unused other))

-- ---- a file that is taken away

pub IsKept-removed : (p : Parts) (new_id_by_name : List ℕ → Option ℕ) (id : ℕ) (file : Inode) → IsKept p
    → inode_at p.files id ≡ Some file → file.blocks ≡ []
    → ((other : List ℕ) → new_id_by_name other ≡ cond (bytes_eq file.name other) None (p.id_by_name other))
    → IsKept (record p { files = slice_set p.files id None; id_by_name = new_id_by_name })
IsKept-removed p new_id_by_name id file kept there empty found =
    IsKept-no_blocks p id None kept (inode_at-within p.files id (ap is_some there)) refl (ap blocks_of_slot there ∙ empty) new_id_by_name
    (AreValidFiles-removed p.total p.files id file kept.valid there empty)
    (λ other. found other ∙ ap (cond (bytes_eq file.name other) None) (kept.named other)
    ∙ sym (id_of-set_removed p.total p.files id file kept.valid there other))
