use Rattle.std.proofs.Common.{◌≡◌, ℕ, List, take}
use Rattle.std.specs.Str.{bytes_eq}
use Rattle.indexmap.specs.IndexMap.{get_by}
use Rattle.bd_base.specs.Inodes.{id_of}
use Rattle.bd_fs.proofs.fs.load.names_of.Given as goal

-- the ids of the files so far, by name
abbrev pub invariant-loop-id : goal.invariant-loop-id
invariant-loop-id l = (name : List ℕ) → get_by (λ key. bytes_eq name key.items) l.names ≡ id_of name (take l.id l.files)
