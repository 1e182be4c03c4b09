-- The entries of running calls after an entry.
use Rattle.std.proofs.Common.{◌≡◌, ℕ, Bool, true, false, cond, List, [], ◌∷◌, ◌++◌, Option, None, Some, refl, ap, ◌∙◌}
use Rattle.std.specs.Prelude.{slice_set}
use Rattle.std.specs.Option.{option_map_or}
use Rattle.bd_base.specs.declared.script.Call.{Call}
use Rattle.bd_entry.specs.declared.entry.Entry.{Entry}
use Rattle.bd_entry.specs.declared.entry.Entry.TheVariants.{Access, Sized}
use Rattle.bd_entry.specs.Calls.{at_of, fd_of_call, is_ended_by}
use Rattle.bd_entry.specs.Effects.{after_access, after_call, after_change, after_telling, effect_of, tells_size, with_descriptor_of_call, with_size}
use Rattle.bd_entry.specs.Rules.{place_in}
use Rattle.bd_entry.specs.Store.{Descriptor, Store, descriptor_at, with_work, work_of}

of_call-work : (s : Store) (p : ℕ) (of : Option ℕ) (change : Descriptor → Descriptor) → (with_descriptor_of_call s p of change).work ≡ s.work
of_call-work s p None change = refl
of_call-work s p (Some fd) change = refl

-- telling the size changes none
pub after_telling-work : (tells : Bool) (s : Store) (p : ℕ) (of : Option ℕ) → (after_telling tells s p of).work ≡ s.work
after_telling-work true s p of = of_call-work s p of _
after_telling-work false s p of = refl

sized_work : (s : Store) (size : ℕ) (slot : Option Descriptor) → (option_map_or (λ (d : Descriptor). with_size s d.file size) slot s).work ≡ s.work
sized_work s size None = refl
sized_work s size (Some d) = refl

access_work : (s : Store) (wrote : Bool) (block : Option ℕ) (lo : ℕ) (bytes : List ℕ) → (after_access s wrote block lo bytes).work ≡ s.work
access_work s true block lo bytes = refl
access_work s false block lo bytes = refl

-- nor does an entry's own change
pub after_change-work : (s : Store) (e : Entry) → (after_change s e).work ≡ s.work
after_change-work s (Access at piece fd file index block range wrote way bytes) = access_work s wrote block range.lo bytes
after_change-work s (Sized at fd size) = sized_work s size (descriptor_at s at.process fd)
after_change-work s e = refl

-- a call that goes on keeps its entries, and one that has ended leaves none
after_call-work : (ends : Bool) (s : Store) (p : ℕ) (of : Option ℕ) (entries : List Entry) →
    (after_call ends s p of entries).work ≡ slice_set s.work p (cond ends [] entries)
after_call-work true s p of entries = of_call-work (with_work s p []) p of _
after_call-work false s p of entries = refl

-- an entry joins those of its call, which become none as the call ends
pub effect_of-work : (s : Store) (call : Call) (e : Entry) →
    let entries = work_of s (at_of e).process ++ e ∷ [] in
    (effect_of s (place_in s call (at_of e)) e).work ≡ slice_set s.work (at_of e).process (cond (is_ended_by call entries) [] entries)
effect_of-work s call e =
    let process = (at_of e).process in
    let entries = work_of s process ++ e ∷ [] in
    let ends = is_ended_by call entries in
    after_call-work ends (after_telling (tells_size e) (after_change s e) process (fd_of_call call entries)) process (fd_of_call call entries) entries
    ∙ ap (λ (work : List (List Entry)). slice_set work process (cond ends [] entries))
    (after_telling-work (tells_size e) (after_change s e) process (fd_of_call call entries) ∙ after_change-work s e)
