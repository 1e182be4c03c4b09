-- A volume without files.
use Rattle.std.proofs.Common.{◌≡◌, ℕ, zero, suc, ◌≤◌, [], None, replicate, nat_eq, count_by, refl, sym, ◌∙◌, inl, inr, arith}
use Rattle.std.proofs.lemmas.Bool.{cases_lt}
use Rattle.std.proofs.lemmas.List.{get_or-replicate, get_or_past, length-replicate}
use Rattle.std.proofs.lemmas.List.Sums.{sum_by-cons}
use Rattle.std.proofs.lemmas.Option.{none-some}
use Rattle.bd_base.specs.declared.limits.TheConstants.{BLOCKS, FILES}
use Rattle.bd_base.specs.Allocation.{times_listed}
use Rattle.bd_base.specs.Inodes.{AreValidFiles, block_lists, inode_at}

-- no id has a file
nothing_there : (n id : ℕ) → inode_at (replicate n None) id ≡ None
nothing_there n id =
    elim (cases_lt id n) [
      | inl inside ↦ get_or-replicate n id None None inside
      | inr past ↦ get_or_past (replicate n None) id None (rw length-replicate past)
    ]

-- no file has a block
nothing_listed : (n b : ℕ) → times_listed (block_lists (replicate n None)) b ≡ 0
nothing_listed zero b = refl
nothing_listed (suc n) b = sum_by-cons (λ blocks. count_by (nat_eq b) blocks) [] (block_lists (replicate n None)) ∙ omega (arith, nothing_listed n b)

-- it is valid
pub AreValidFiles-none : (total n : ℕ) → total ≤ BLOCKS → n ≤ FILES → AreValidFiles total (replicate n None)
AreValidFiles-none total n few_blocks few_files = record {
  few_blocks = few_blocks;
  few_files = rw length-replicate few_files;
  each = λ id file there. absurd (none-some file (sym (nothing_there n id) ∙ there));
  owned_once = λ b. omega (arith, nothing_listed n b);
  names_differ = λ i j file other there _ _. absurd (none-some file (sym (nothing_there n i) ∙ there));
}
