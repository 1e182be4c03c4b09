-- What is kept once the disk has changed.
use Rattle.std.proofs.Common.{◌≡◌, ℕ, List, Option, refl, sym, ap, ◌∙◌}
use Rattle.bd_base.specs.declared.volume.Inode.{Inode}
use Rattle.bd_entry.specs.Store.{Descriptor, Store}
use Rattle.bd_kernel.specs.Disks.{DiskState, IsDiskOf}
use Rattle.bd_store.specs.Kept.{Kept, bare, disk_of}
use Rattle.bd_store.specs.Steps.{kept_after, kept_as}

-- what is kept, with this disk in the place of its own
abbrev pub kept_on : Kept → DiskState → Kept
kept_on k d = record k { total = d.total; files = d.files; bytes = d.bytes; opens = d.rows }

kept_on-as : (k : Kept) (d : DiskState) (s : Store) → IsDiskOf d s → s.uids ≡ k.uids → kept_on k d ≡ kept_as k s
kept_on-as k d s is users =
    ap (λ (x : ℕ). record (kept_on k d) { total = x }) (sym is.total)
    ∙ ap (λ (x : List ℕ). record (kept_on k d) { total = s.total; uids = x }) (sym users)
    ∙ ap (λ (x : List (Option Inode)). record (kept_on k d) { total = s.total; uids = s.uids; files = x }) (sym is.files)
    ∙ ap (λ (x : List ℕ). record (kept_on k d) { total = s.total; uids = s.uids; files = s.files; bytes = x }) (sym is.bytes)
    ∙ ap (λ (x : List (List (Option Descriptor))).
    record (kept_on k d) { total = s.total; uids = s.uids; files = s.files; bytes = s.bytes; opens = x }) (sym is.opens)

-- a change of the disk that is one of each of its stores is that of what is kept, where it leaves the users
pub kept_on-after : (old k : Kept) (held : List (Option ℕ)) (d : DiskState) (change : Store → Store) → k ≡ old →
    ((s : Store) → IsDiskOf (disk_of k held) s → IsDiskOf d (change s)) → (change (bare k)).uids ≡ k.uids → kept_on k d ≡ kept_after old change
kept_on-after old k held d change same changes users =
    kept_on-as k d (change (bare k)) (changes (bare k) (record { total = refl; files = refl; bytes = refl; opens = refl })) users
    ∙ ap (λ (k : Kept). kept_after k change) same
