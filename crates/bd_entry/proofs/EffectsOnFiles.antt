-- What an entry changes of files and bytes is its own change alone.
use Rattle.std.proofs.Common.{◌≡◌, ℕ, Bool, true, false, List, ◌∷◌, [], ◌++◌, Option, None, Some, refl, ◌∙◌}
use Rattle.bd_entry.specs.declared.entry.Entry.{Entry}
use Rattle.bd_entry.specs.Calls.{Place, fd_of_call, is_ended_by}
use Rattle.bd_entry.specs.Effects.{after_call, after_change, after_telling, effect_of, tells_size, with_descriptor_of_call}
use Rattle.bd_entry.specs.Store.{Descriptor, Store, with_work}

-- both stores have the same files and the same bytes
pub record HasFilesOf (s t : Store) : Type 0 where
  pub files : t.files ≡ s.files
  pub bytes : t.bytes ≡ s.bytes

of_call-files : (s : Store) (p : ℕ) (of : Option ℕ) (change : Descriptor → Descriptor) → HasFilesOf s (with_descriptor_of_call s p of change)
of_call-files s p None change = record { files = refl; bytes = refl }
of_call-files s p (Some fd) change = record { files = refl; bytes = refl }

telling-files : (tells : Bool) (s : Store) (p : ℕ) (of : Option ℕ) → HasFilesOf s (after_telling tells s p of)
telling-files true s p of = of_call-files s p of _
telling-files false s p of = record { files = refl; bytes = refl }

after_call-files : (ends : Bool) (s : Store) (p : ℕ) (of : Option ℕ) (entries : List Entry) → HasFilesOf s (after_call ends s p of entries)
after_call-files true s p of entries =
    let same = of_call-files (with_work s p []) p of _ in record { files = same.files; bytes = same.bytes }
after_call-files false s p of entries = record { files = refl; bytes = refl }

pub effect_of-files : (s : Store) (p : Place) (e : Entry) → HasFilesOf (after_change s e) (effect_of s p e)
effect_of-files s p e =
    let entries = p.before ++ e ∷ [] in
    let of = fd_of_call p.call entries in
    let told = after_telling (tells_size e) (after_change s e) p.at.process of in
    let first = telling-files (tells_size e) (after_change s e) p.at.process of in
    let second = after_call-files (is_ended_by p.call entries) told p.at.process of entries in
    record { files = second.files ∙ first.files; bytes = second.bytes ∙ first.bytes }
