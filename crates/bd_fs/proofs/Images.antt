-- The files of an accepted image stay such files.
use Rattle.std.proofs.Common.{◌≡◌, ℕ, ◌<◌, length, List, Option, None, Some, is_some, slice_set, sym, ap, ◌∙◌, inl, inr, subst}
use Rattle.std.proofs.lemmas.Bool.{cases_eq}
use Rattle.std.proofs.lemmas.List.{length-set}
use Rattle.std.proofs.lemmas.Option.{none-some, same_Some}
use Rattle.bd_base.specs.declared.limits.TheConstants.{PERMS}
use Rattle.bd_base.specs.declared.volume.Inode.{Inode}
use Rattle.bd_base.specs.Inodes.{AreFiles, AreValidFiles, empty_file, free_id, inode_at}
use Rattle.bd_base.specs.Names.{IsName}
use Rattle.bd_base.proofs.FileLists.{inode_at-set_other, inode_at-set_same, inode_at-within}
use Rattle.bd_base.proofs.ValidFiles.{free_id-free}

-- any file in the place of an id: the new files are valid, and the file, if any, has a name and perms of an image
pub AreFiles-set : (total : ℕ) (files : List (Option Inode)) (id : ℕ) (o : Option Inode) → AreFiles total files
    → id < length files → AreValidFiles total (slice_set files id o)
    → ((file : Inode) → o ≡ Some file → IsName file.name)
    → ((file : Inode) → o ≡ Some file → file.perms < PERMS) → AreFiles total (slice_set files id o)
AreFiles-set total files id o image inside valid named permitted = record {
  valid = valid;
  enough_blocks = image.enough_blocks;
  some_room = rw length-set image.some_room;
  whole_blocks = rw length-set image.whole_blocks;
  names = λ k f at. elim (cases_eq k id) [
    | inl same ↦ named f (here k f same at)
    | inr other ↦ image.names k f (sym (inode_at-set_other files id k o other) ∙ at)
  ];
  perms = λ k f at. elim (cases_eq k id) [
    | inl same ↦ permitted f (here k f same at)
    | inr other ↦ image.perms k f (sym (inode_at-set_other files id k o other) ∙ at)
  ];
}
  where
    here : (k : ℕ) (f : Inode) → k ≡ id → inode_at (slice_set files id o) k ≡ Some f → o ≡ Some f
    here k f same at = sym (inode_at-set_same files id o inside) ∙ subst (λ j. inode_at (slice_set files id o) j ≡ Some f) same at

-- a file that keeps its name and perms
pub AreFiles-changed : (total : ℕ) (files : List (Option Inode)) (id : ℕ) (file changed : Inode)
    → AreFiles total files → inode_at files id ≡ Some file → changed.name ≡ file.name
    → changed.perms ≡ file.perms → AreValidFiles total (slice_set files id (Some changed))
    → AreFiles total (slice_set files id (Some changed))
AreFiles-changed total files id file changed image there same_name same_perms valid =
    AreFiles-set total files id (Some changed) image (inode_at-within files id (ap is_some there)) valid
    (λ f is. subst IsName (sym same_name ∙ ap (λ (g : Inode). g.name) (same_Some changed f is)) (image.names id file there))
    (λ f is. subst (λ p. p < PERMS) (sym same_perms ∙ ap (λ (g : Inode). g.perms) (same_Some changed f is)) (image.perms id file there))

-- a file that is made
pub AreFiles-made : (total : ℕ) (files : List (Option Inode)) (id : ℕ) (name : List ℕ) (owner perms : ℕ)
    → AreFiles total files → free_id files ≡ Some id → IsName name → perms < PERMS
    → AreValidFiles total (slice_set files id (Some (empty_file name owner perms)))
    → AreFiles total (slice_set files id (Some (empty_file name owner perms)))
AreFiles-made total files id name owner perms image lowest named permitted valid =
    AreFiles-set total files id (Some (empty_file name owner perms)) image (free_id-free files id lowest).0 valid
    (λ f is. subst IsName (ap (λ (g : Inode). g.name) (same_Some (empty_file name owner perms) f is)) named)
    (λ f is. subst (λ p. p < PERMS) (ap (λ (g : Inode). g.perms) (same_Some (empty_file name owner perms) f is)) permitted)

-- a file that is taken away
pub AreFiles-removed : (total : ℕ) (files : List (Option Inode)) (id : ℕ) (file : Inode) → AreFiles total files
    → inode_at files id ≡ Some file → AreValidFiles total (slice_set files id None)
    → AreFiles total (slice_set files id None)
AreFiles-removed total files id file image there valid =
    AreFiles-set total files id None image (inode_at-within files id (ap is_some there)) valid
    (λ f is. absurd (none-some f is)) (λ f is. absurd (none-some f is))
