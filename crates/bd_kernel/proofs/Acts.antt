-- What the actions of calls come to.
use Rattle.std.proofs.Common.{◌≡◌, ℕ, Bool, true, false, cond, Option, None, Some, refl, sym, ap, ◌∙◌}
use Rattle.std.specs.Prelude.{find, is_some}
use Rattle.std.specs.Option.{option_and_then, option_map, option_map_or, option_or}
use Rattle.std.proofs.lemmas.Bool.{false≢true}
use Rattle.std.proofs.lemmas.Option.{none-some, same_Some}
use Rattle.bd_base.specs.declared.script.Call.{Call}
use Rattle.bd_base.specs.declared.script.Call.TheVariants.{Enter, Unlink}
use Rattle.bd_entry.specs.declared.act.Act.{Act}
use Rattle.bd_entry.specs.declared.act.Act.TheVariants as acts
use Rattle.bd_base.specs.Pieces.{Piece}
use Rattle.bd_entry.specs.Actions.{Holders, busy, is_to_shrink, kernel_part, move_piece, piece_numbers, truncate_to}
use Rattle.bd_entry.specs.Calls.{Place, does_write, piece_of_call}
use Rattle.bd_entry.specs.Refusals.{descriptor_of, file_of, file_of_call, growth_reason, is_next_for_kernel, next_size}
use Rattle.bd_entry.specs.Store.{Descriptor, Store, size_in}

-- what a function gives of something, with this in place of nothing
pub some-or : (o : Option ℕ) (f : ℕ → Act) (act none : Act) → option_map f o ≡ Some act → act ≡ option_map_or f o none
some-or None f act none is = absurd (none-some act is)
some-or (Some x) f act none is = same_Some act (f x) (sym is)

-- the file of a call that writes is that of its descriptor
pub written_file : (s : Store) (call : Call) (d : Option Descriptor) → does_write call ≡ true →
    file_of_call s call d ≡ option_map (λ (d : Descriptor). d.file) d
written_file s (Enter name mode how) d writes = absurd (false≢true writes)
written_file s (Unlink name) d writes = absurd (false≢true writes)
written_file s call d writes = refl

-- a truncation that does not shrink its file grows it, or is refused
pub truncation-grows : (s : Store) (p : Place) (size file : ℕ) (act : Act) → file_of s p ≡ Some file → is_to_shrink s file size ≡ false →
    option_map (λ to. option_map_or (acts.Refuse None) (growth_reason s file size) (acts.Extend file to)) (next_size (size_in s file) size) ≡ Some act →
    act ≡ truncate_to s p size file
truncation-grows s p size file act of stays grows =
    rw (stays, of)
    (some-or (next_size (size_in s file) size) (λ to. option_map_or (acts.Refuse None) (growth_reason s file size) (acts.Extend file to)) act
    (acts.Sized size) grows)

-- one that nobody keeps from beginning goes on
none_there : (o : Option Act) → is_some o ≡ false → o ≡ None
none_there None none = refl
none_there (Some act) none = absurd (false≢true (sym none))

-- the kernel moves the first piece that is left for it
pub kernel_part-moves : (s : Store) (holders : Holders) (p : Place) (number : ℕ) (piece : Piece) (d : Descriptor) (act : Act) →
    find (is_next_for_kernel s p) (piece_numbers p.call) ≡ Some number → is_some (busy s holders p) ≡ false →
    piece_of_call p.call number ≡ Some piece → descriptor_of s p ≡ Some d → act ≡ move_piece s p number piece d →
    Some act ≡ kernel_part s holders p
kernel_part-moves s holders p number piece d act found free at of moves =
    let rest : ℕ → Option Act = λ number. option_or (busy s holders p)
    (option_and_then (λ piece. option_map (move_piece s p number piece) (descriptor_of s p)) (piece_of_call p.call number)) in
    ap (λ (a : Act). Some a) moves ∙ sym (ap (option_map (move_piece s p number piece)) of)
    ∙ sym (ap (option_and_then (λ piece. option_map (move_piece s p number piece) (descriptor_of s p))) at)
    ∙ sym
    (ap (option_and_then rest) found
    ∙ ap
    (λ (b : Option Act). option_or b
    (option_and_then (λ piece. option_map (move_piece s p number piece) (descriptor_of s p)) (piece_of_call p.call number)))
    (none_there (busy s holders p) free))

-- what is there comes before all else, and what is not gives way to it
pub or-first : (o rest : Option Act) → is_some o ≡ true → o ≡ option_or o rest
or-first None rest some = absurd (false≢true some)
or-first (Some act) rest some = refl

pub or-rest : (o rest : Option Act) → is_some o ≡ false → rest ≡ option_or o rest
or-rest None rest none = refl
or-rest (Some act) rest none = absurd (false≢true (sym none))
