use Rattle.std.proofs.Common.{◌≡◌, ◌+◌, ◌*◌, ◌∷◌, [], ℕ, List, sym, ap, ◌∙◌}
use Rattle.bd_base.specs.declared.volume.Extent.{Extent}
use Rattle.bd_base.specs.declared.volume.Inode.{Inode}
use Rattle.bd_base.specs.Extents.{blocks_of}
use Rattle.bd_gen.specs.Volume.{file_extent, file_name, made_file}
use Rattle.bd_gen.proofs.volume.made_file.Goals as goal

same-extent : (file start : ℕ) → start ≡ 3 → (let e : Extent = record { start = start + 2000 * file; length = 2000 } in e ≡ file_extent file)
unfolding file_extent
same-extent file start first = ap (λ (s : ℕ). let e : Extent = record { start = s + 2000 * file; length = 2000 } in e) first

same-fields : (size : ℕ) (name name' owned owned' : List ℕ) → size ≡ 8192000 → name ≡ name' → owned ≡ owned'
    → (let f : Inode = record { name = name; owner = 1000; perms = 15; size = size; blocks = owned } in
    let g : Inode = record { name = name'; owner = 1000; perms = 15; size = 8192000; blocks = owned' } in f ≡ g)
same-fields size name name' owned owned' sized named same = cc

same-file : (file size : ℕ) (name owned : List ℕ) → size ≡ 8192000 → name ≡ file_name file → owned ≡ blocks_of (file_extent file ∷ [])
    → (let f : Inode = record { name = name; owner = 1000; perms = 15; size = size; blocks = owned } in f ≡ made_file file)
unfolding made_file
same-file file size name owned sized named same =
    same-fields size name (file_name file) owned (blocks_of (file_extent file ∷ [])) sized named same

pub returns : goal.returns
returns c =
    same-file c.args.file (4096 * c.from.result) c.in_ok-file_name.field-0 c.in_ok-blocks_of.field-0
    (ap (λ (n : ℕ). 4096 * n) c.from.ensures) c.in_ok-file_name.ensures
    (c.in_ok-blocks_of.ensures ∙ ap (λ (e : Extent). blocks_of (e ∷ [])) (same-extent c.args.file c.data_start.result c.data_start.ensures))
