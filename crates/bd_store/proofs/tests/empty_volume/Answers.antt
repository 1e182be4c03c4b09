use Rattle.std.proofs.Common.{◌≡◌, ℕ, ◌<◌, List, Option, None, Some, replicate, refl, sym, ap, subst, ◌∙◌, arith}
use Rattle.std.proofs.lemmas.List.{length-replicate, take-replicate}
use Rattle.std.proofs.lemmas.List.Elements.{All-replicate}
use Rattle.std.proofs.lemmas.Option.{none-some}
use Rattle.bd_base.specs.declared.volume.Inode.{Inode}
use Rattle.bd_base.specs.Inodes.{inode_at}
use Rattle.bd_base.specs.Volumes.{IsSoundVolume}
use Rattle.bd_fs.proofs.NoFiles.{AreValidFiles-none}
use Rattle.bd_store.proofs.StartStores.{replicate_at}
use Rattle.bd_store.proofs.tests.empty_volume.Goals as goal

abbrev no_files : ℕ → List (Option Inode)
no_files n = replicate n None

none_there : {P : Type 0} (n id : ℕ) (f : Inode) → inode_at (no_files n) id ≡ Some f → P
none_there n id f is = absurd (none-some f (sym (replicate_at None n id) ∙ is))

empty_is_sound : (size : ℕ) → size ≡ 81920 → IsSoundVolume (record { total = 20; inodes = no_files 16; bytes = replicate size 0 })
empty_is_sound size same = record {
  files = record {
    valid = AreValidFiles-none 20 16 (omega arith) (omega arith);
    enough_blocks = omega arith;
    some_room = omega arith;
    whole_blocks = refl;
    names = λ id f is. none_there 16 id f is;
    perms = λ id f is. none_there 16 id f is;
  };
  owners = λ id f is. none_there 16 id f is;
  are_bytes = All-replicate (λ byte. byte < 256) size 0 (omega arith);
  all_bytes = length-replicate size 0 ∙ same;
  metadata = take-replicate 12288 size 0 (omega arith);
  tails = λ id f is. none_there 16 id f is;
}

of_zeros : (size count : ℕ) (inodes : List (Option Inode)) (bytes : List ℕ) → size ≡ 81920 → count ≡ 16 → inodes ≡ no_files count → bytes ≡ replicate size 0 →
    IsSoundVolume (record { total = 20; inodes = inodes; bytes = bytes })
of_zeros size count inodes bytes same all none zeros =
    let files : no_files 16 ≡ inodes = ap no_files (sym all) ∙ sym none in
    subst (λ (b : List ℕ). IsSoundVolume (record { total = 20; inodes = inodes; bytes = b })) (sym zeros)
    (subst (λ (files : List (Option Inode)). IsSoundVolume (record { total = 20; inodes = files; bytes = replicate size 0 })) files (empty_is_sound size same))

pub returns : goal.returns
returns c =
    of_zeros 81920 c.loop-id._id c.loop-id.inodes c.from_vec.result refl (omega arith) c.loop-id.invariant
    (c.from_vec.ensures ∙ c.in_ok-bytes.ensures.items_if_clones_equal (λ y same. same))
