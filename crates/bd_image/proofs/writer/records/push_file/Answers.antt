-- The appends make up the record of the file, whose extents are those of its blocks.
use Rattle.std.proofs.Common.{◌≡◌, ◌+◌, ◌-◌, ◌*◌, ◌++◌, ◌∷◌, ℕ, List, length, replicate, ap, ◌∙◌, arith}
use Rattle.std.proofs.lemmas.Result.{on_ok_weaker}
use Rattle.std.specs.List.{flat_map}
use Rattle.byteorder.specs.Endian.{little_bytes}
use Rattle.bd_base.specs.declared.volume.Extent.{Extent}
use Rattle.bd_base.specs.declared.volume.Inode.{Inode}
use Rattle.bd_base.specs.Extents.{extents_of}
use Rattle.bd_image.proofs.Parts.{appends-record}
use Rattle.bd_image.specs.Volumes.{extent_bytes, file_bytes}
use Rattle.bd_image.proofs.writer.records.push_file.Goals as goal

pub returns : goal.returns
unfolding file_bytes
returns c =
    let file : Inode = c.args.file.now in
    let l : List ℕ = c.args.out.now.items in
    let es : List Extent = c.in_ok-extents.extents in
    let whole : List Extent → List ℕ =
    λ es. l ++ (1 ∷ file.perms ∷ little_bytes 2 (length es) ++ little_bytes 4 file.owner ++ little_bytes 8 file.size
    ++ file.name ++ replicate (32 - length file.name) 0
    ++ flat_map extent_bytes es ++ replicate (8 * (24 - length es) + 16) 0) in
    let same : es ≡ extents_of file.blocks = c.in_ok-extents.ensures ∙ ap extents_of c.as_slice.ensures in
    let count : c.len.result ≡ length es = omega arith in
    let count' : c.len-2.result ≡ length es = omega arith in
    on_ok_weaker c.push_zeros.result
    (λ h.
    appends-record l c.push.new.self.items c.push-2.new.self.items c.push_u16.new.out.items c.push_u32.new.out.items c.push_u64.new.out.items
    c.push_name.new.out.items c.push_extents.new.out.items c.push_zeros.new.out.items 1 file.perms (little_bytes 2 (length es))
    (little_bytes 4 file.owner) (little_bytes 8 file.size) file.name (replicate (32 - length file.name) 0) (flat_map extent_bytes es)
    (replicate (8 * (24 - length es) + 16) 0)
    c.in_ok-push.ensures.items c.in_ok-push-2.ensures.items
    (c.in_ok-push_u16.ensures ∙ ap (λ (k : ℕ). c.push-2.new.self.items ++ little_bytes 2 k) count)
    c.in_ok-push_u32.ensures c.in_ok-push_u64.ensures
    (c.in_ok-push_name.ensures ∙ ap (λ (name : List ℕ). c.push_u64.new.out.items ++ name ++ replicate (32 - length name) 0) c.as_slice-2.ensures)
    (c.in_ok-push_extents.ensures ∙ ap (λ (xs : List Extent). c.push_name.new.out.items ++ flat_map extent_bytes xs) c.as_slice-3.ensures)
    (h ∙ ap (λ (k : ℕ). c.push_extents.new.out.items ++ replicate (8 * (24 - k) + 16) 0) count')
    ∙ ap whole same)
    c.push_zeros.ensures
