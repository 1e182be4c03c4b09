-- A call that cleared a right may take it away, holds its file throughout, and has no commands.
use Rattle.std.proofs.Common.{◌≡◌, ℕ, Bool, true, ◌&&◌, List, [], ◌∷◌, ◌++◌, refl, sym, ap, subst, ⊎_elim}
use Rattle.std.specs.Prelude.{nat_eq}
use Rattle.std.specs.List.{list_any}
use Rattle.std.proofs.lemmas.Bool.{and_from, eq-eqb, false≢true, or_cases, or_left, or_right}
use Rattle.bd_base.specs.declared.journal.At.{At}
use Rattle.bd_base.specs.declared.key.Key.{Key}
use Rattle.bd_base.specs.declared.script.Call.{Call}
use Rattle.bd_base.specs.declared.script.Call.TheVariants.{Enter, Truncate, Close}
use Rattle.bd_base.specs.declared.script.How.TheVariants as hows
use Rattle.bd_base.specs.Keys.{same_key-is}
use Rattle.bd_entry.specs.declared.entry.Entry.{Entry}
use Rattle.bd_entry.specs.declared.entry.Entry.TheVariants.{Cleared, Detached}
use Rattle.bd_entry.specs.Calls.{Place, has_cleared, is_clear_of, is_made_by, pieces_of_call}
use Rattle.bd_entry.specs.Laws.{AreOfCall}
use Rattle.bd_entry.specs.RulesOfCalls.{IsOfCall, MayClear}
use Rattle.bd_turns.specs.Sound.{is_clear_at}
use Rattle.bd_turns.specs.Turns.{holds_throughout}

-- what is known of a call that cleared the right of this key
pub record ClearsKey (call : Call) (process : ℕ) (key : Key) : Type 0 where
  pub detaches : (at : At) (owner fd part : ℕ) → is_made_by call (Detached at owner fd part) ≡ true
  pub may_clear : MayClear call process key.process key.fd
  pub holds : holds_throughout call ≡ true
  pub no_pieces : pieces_of_call call ≡ []

-- calls that clear rights
may_take : (call : Call) (process : ℕ) (key : Key) (at : At) (owner fd part : ℕ) → is_made_by call (Cleared at owner fd part) ≡ true →
    MayClear call process key.process key.fd → ClearsKey call process key
may_take (Enter name mode hows.Plain) process key at owner fd part made may =
    record { detaches = λ at owner fd part. refl; may_clear = may; holds = refl; no_pieces = refl }
may_take (Truncate named size) process key at owner fd part made may =
    record { detaches = λ at owner fd part. refl; may_clear = may; holds = refl; no_pieces = refl }
may_take (Close named) process key at owner fd part made may =
    record { detaches = λ at owner fd part. refl; may_clear = may; holds = refl; no_pieces = refl }
may_take (Enter name mode hows.Direct) process key at owner fd part made may = absurd (false≢true made)
may_take call process key at owner fd part made may = absurd (false≢true made)

-- an entry that clears the right of a key is of such a call
clear_of_call : (p : Place) (key : Key) (e : Entry) → IsOfCall p e → is_clear_at key e ≡ true → ClearsKey p.call p.at.process key
clear_of_call p key (Cleared at owner fd part) of is =
    let same : key ≡ record { process = owner; fd = fd; part = part } =
    same_key-is key (record { process = owner; fd = fd; part = part }) is in
    may_take p.call p.at.process key at owner fd part of.kind
    (subst (λ (k : Key). MayClear p.call p.at.process k.process k.fd) (sym same) of.fields)
clear_of_call p key e of is = absurd (false≢true is)

-- so is a call with such an entry
pub clears_key : (p : Place) (key : Key) (entries : List Entry) → AreOfCall p entries → list_any (is_clear_at key) entries ≡ true →
    ClearsKey p.call p.at.process key
clears_key p key [] all some = absurd (false≢true some)
clears_key p key (e ∷ entries) all some =
    ⊎_elim
    (λ here. clear_of_call p key e all.0 here)
    (λ later. clears_key (record p { before = p.before ++ e ∷ [] }) key entries all.2 later)
    (or_cases (is_clear_at key e) (list_any (is_clear_at key) entries) some)

-- ---- the two ways to say that a right was cleared

is_clear_at-of : (key : Key) (e : Entry) → is_clear_at key e ≡ true → is_clear_of key.process key.fd key.part e ≡ true
is_clear_at-of key (Cleared at owner fd part) is =
    let same : key ≡ record { process = owner; fd = fd; part = part } =
    same_key-is key (record { process = owner; fd = fd; part = part }) is in
    and_from (nat_eq owner key.process && nat_eq fd key.fd) (nat_eq part key.part)
    (and_from (nat_eq owner key.process) (nat_eq fd key.fd)
    (eq-eqb owner key.process (sym (ap (λ (k : Key). k.process) same)))
    (eq-eqb fd key.fd (sym (ap (λ (k : Key). k.fd) same))))
    (eq-eqb part key.part (sym (ap (λ (k : Key). k.part) same)))
is_clear_at-of key e is = absurd (false≢true is)

-- where an element passes a test, one passes a weaker one
pub any-weaker : {X : Type 0} (test weaker : X → Bool) (xs : List X) → ((x : X) → test x ≡ true → weaker x ≡ true) →
    list_any test xs ≡ true → list_any weaker xs ≡ true
any-weaker test weaker [] passes some = absurd (false≢true some)
any-weaker test weaker (x ∷ xs) passes some =
    ⊎_elim
    (λ here. or_left (weaker x) (list_any weaker xs) (passes x here))
    (λ later. or_right (weaker x) (list_any weaker xs) (any-weaker test weaker xs passes later))
    (or_cases (test x) (list_any test xs) some)

pub cleared_there : (key : Key) (entries : List Entry) → list_any (is_clear_at key) entries ≡ true →
    has_cleared key.process key.fd key.part entries ≡ true
cleared_there key entries some =
    any-weaker (is_clear_at key) (is_clear_of key.process key.fd key.part) entries (is_clear_at-of key) some
