-- Whether an entry is the first of its kind, told by marks of the entries before it.
use Rattle.std.proofs.Common.{◌≡◌, Bool, true, false, not, List, [], ◌∷◌, ◌↔◌, refl, sym, ap, ◌∙◌}
use Rattle.std.specs.Prelude.{is_some}
use Rattle.std.specs.List.{list_any}
use Rattle.std.proofs.lemmas.Bool.{not-true}
use Rattle.bd_entry.specs.declared.entry.Entry.{Entry}
use Rattle.bd_entry.specs.declared.entry.Entry.TheVariants.{Access, Attached, Cleared, Closed, Created, Detached, Extended, Mapped, Missed, Opened, Refused, Released, SizeRead, Sized, Unlinked}
use Rattle.bd_entry.specs.Calls.{is_opened, opened_fd}

-- there is a first Opened where there is any
pub some_opened : (entries : List Entry) → is_some (opened_fd entries) ≡ list_any is_opened entries
some_opened [] = refl
some_opened (Opened at file fd mode how ∷ entries) = refl
some_opened (Created at file name perms ∷ entries) = some_opened entries
some_opened (Attached at fd part ∷ entries) = some_opened entries
some_opened (Mapped at fd count ∷ entries) = some_opened entries
some_opened (Cleared at owner fd part ∷ entries) = some_opened entries
some_opened (Detached at owner fd part ∷ entries) = some_opened entries
some_opened (Access at piece fd file index block range wrote way bytes ∷ entries) = some_opened entries
some_opened (Missed at piece found ∷ entries) = some_opened entries
some_opened (Extended at file to block ∷ entries) = some_opened entries
some_opened (Released at file index block ∷ entries) = some_opened entries
some_opened (Sized at fd size ∷ entries) = some_opened entries
some_opened (SizeRead at fd size ∷ entries) = some_opened entries
some_opened (Closed at fd ∷ entries) = some_opened entries
some_opened (Unlinked at file ∷ entries) = some_opened entries
some_opened (Refused at piece reason ∷ entries) = some_opened entries

-- what is denied does not hold
pub not-true_iff : (x y : Bool) → x ≡ y → (not x ≡ true) ↔ (y ≡ false)
not-true_iff x y same = (λ yes. sym same ∙ not-true x yes, λ no. ap not (same ∙ no))
