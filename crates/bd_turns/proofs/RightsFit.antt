-- The rights of the tables key by key: each fits what the store has of its descriptor.
use Rattle.std.proofs.Common.{◌≡◌, ◌≢◌, inl, inr, ℕ, Bool, true, false, ◌||◌, not, cond, nat_eq, List, [], ◌∷◌, Option, None, Some, is_some, refl, sym, ap, ◌∙◌, subst, ⊎_elim}
use Rattle.std.specs.Prelude.{nat_lt, IsSome}
use Rattle.std.specs.Option.{option_map}
use Rattle.std.specs.FinMap as fin
use Rattle.std.proofs.lemmas.Bool.{both_ways, cases_Bool, cases_eq, cond_both, eq-eqb, false≢true, ne_eqb}
use Rattle.std.proofs.lemmas.Map.Views.{any-filter_same}
use Rattle.std.proofs.lemmas.Option.{none-some, same_Some}
use Rattle.bd_base.specs.declared.key.Key.{Key}
use Rattle.bd_base.specs.Keys.{same_key, same_key-is}
use Rattle.bd_entry.specs.Store.{Descriptor, Store, descriptor_at, has_part, with_descriptor, with_part, without_part}
use Rattle.bd_entry.proofs.DescriptorSteps.{change-here, slot-set_cases}
use Rattle.bd_entry.proofs.PartSets.{has_part-without_part}
use Rattle.bd_tables.specs.declared.state.Right.{Right}
use Rattle.bd_tables.specs.Effects.{change}
use Rattle.bd_tables.specs.State.{Rights}
use Rattle.bd_turns.specs.Sound.{AreRightsOf, IsRightOf}
use Rattle.bd_turns.specs.State.{State}
use Rattle.bd_turns.specs.Turns.{may_write}

-- ---- one key

-- the right of a key fits the descriptor of the key, if any
abbrev pub Fits : Key → Option Right → Option Descriptor → Type 0
Fits key None None = Unit {0}
Fits key None (Some d) = has_part key.part d.attached ≡ false
Fits key (Some right) None = ⊥
Fits key (Some right) (Some d) = IsRightOf key right d

-- each right fits its descriptor
abbrev pub AllFit : Rights → Store → Type 0
AllFit rights s = (key : Key) → Fits key (fin.get rights key) (descriptor_at s key.process key.fd)

pub all_fit : (m : State) → AreRightsOf m → AllFit m.tables.rights m.store
all_fit m sound key = by (fin.get m.tables.rights key) refl (descriptor_at m.store key.process key.fd) refl
  where
    unattached : (d : Descriptor) → (b : Bool) → has_part key.part d.attached ≡ b → fin.get m.tables.rights key ≡ None →
        descriptor_at m.store key.process key.fd ≡ Some d → has_part key.part d.attached ≡ false
    unattached d false is none there = is
    unattached d true is none there = absurd (false≢true (sym (ap is_some none) ∙ sound.all key d there is))

    fits : (right : Right) (d : Descriptor) → descriptor_at m.store key.process key.fd ≡ Some d →
        ((other : Descriptor) × (descriptor_at m.store key.process key.fd ≡ Some other) × IsRightOf key right other) → IsRightOf key right d
    fits right d there found = subst (IsRightOf key right) (same_Some found.0 d (sym found.1 ∙ there)) found.2

    by : (r : Option Right) → fin.get m.tables.rights key ≡ r → (slot : Option Descriptor) → descriptor_at m.store key.process key.fd ≡ slot →
        Fits key r slot
    by None none None closed = tt
    by None none (Some d) there = unattached d (has_part key.part d.attached) refl none there
    by (Some right) is None closed = let found = sound.told key right is in absurd (none-some found.0 (sym closed ∙ found.1))
    by (Some right) is (Some d) there = fits right d there (sound.told key right is)

pub rights_of_fit : (m : State) → AllFit m.tables.rights m.store → AreRightsOf m
rights_of_fit m all = record {
  told = λ key right is. told key right (descriptor_at m.store key.process key.fd) refl
      (subst (λ (r : Option Right). Fits key r (descriptor_at m.store key.process key.fd)) is (all key));
  all = λ key d there attached.
      some key d (fin.get m.tables.rights key) attached
      (subst (Fits key (fin.get m.tables.rights key)) there (all key));
}
  where
    told : (key : Key) (right : Right) (slot : Option Descriptor) → descriptor_at m.store key.process key.fd ≡ slot → Fits key (Some right) slot →
        (d : Descriptor) × (descriptor_at m.store key.process key.fd ≡ Some d) × IsRightOf key right d
    told key right None is fits = absurd fits
    told key right (Some d) is fits = (d, is, fits)

    some : (key : Key) (d : Descriptor) (r : Option Right) → has_part key.part d.attached ≡ true → Fits key r (Some d) → IsSome r
    some key d None attached fits = absurd (both_ways (has_part key.part d.attached) fits attached)
    some key d (Some right) attached fits = refl

-- ---- descriptors that are alike for a part

-- both descriptors are of one file and mode, and say the same of the right on the part
pub record IsAlike (part : ℕ) (d new : Descriptor) : Type 0 where
  pub file : new.file ≡ d.file
  pub mode : new.mode ≡ d.mode
  pub attached : has_part part new.attached ≡ has_part part d.attached
  pub cleared : has_part part new.cleared ≡ has_part part d.cleared

-- so do both slots
abbrev pub AreAlike : ℕ → Option Descriptor → Option Descriptor → Type 0
AreAlike part None None = Unit {0}
AreAlike part None (Some new) = ⊥
AreAlike part (Some d) None = ⊥
AreAlike part (Some d) (Some new) = IsAlike part d new

pub alike_itself : (part : ℕ) (slot : Option Descriptor) → AreAlike part slot slot
alike_itself part None = tt
alike_itself part (Some d) = record { file = refl; mode = refl; attached = refl; cleared = refl }

pub alike_changed : (part : ℕ) (change : Descriptor → Descriptor) → ((d : Descriptor) → IsAlike part d (change d)) → (slot : Option Descriptor) →
    AreAlike part slot (option_map change slot)
alike_changed part change alike None = tt
alike_changed part change alike (Some d) = alike d

pub alike_then : (part : ℕ) (a b c : Option Descriptor) → AreAlike part a b → AreAlike part b c → AreAlike part a c
alike_then part None None None first second = tt
alike_then part None None (Some z) first second = absurd second
alike_then part None (Some y) c first second = absurd first
alike_then part (Some x) None c first second = absurd first
alike_then part (Some x) (Some y) None first second = absurd second
alike_then part (Some x) (Some y) (Some z) first second = record {
  file = second.file ∙ first.file;
  mode = second.mode ∙ first.mode;
  attached = second.attached ∙ first.attached;
  cleared = second.cleared ∙ first.cleared;
}

-- a right that fits one fits the other
pub fits_alike : (key : Key) (right : Option Right) (slot new : Option Descriptor) → AreAlike key.part slot new → Fits key right slot →
    Fits key right new
fits_alike key None None None alike fits = tt
fits_alike key (Some right) None None alike fits = fits
fits_alike key right None (Some new) alike fits = absurd alike
fits_alike key right (Some d) None alike fits = absurd alike
fits_alike key None (Some d) (Some new) alike fits = alike.attached ∙ fits
fits_alike key (Some right) (Some d) (Some new) alike fits = record {
  file = fits.file ∙ sym alike.file;
  write = fits.write ∙ ap may_write (sym alike.mode);
  attached = alike.attached ∙ fits.attached;
  cleared = alike.cleared ∙ fits.cleared;
}

-- ---- parts that join and leave

-- the part that joined is among them
pub joined_here : (part : ℕ) (xs : List ℕ) → has_part part (with_part part xs) ≡ true
joined_here part [] = ap (λ (b : Bool). b || false) (eq-eqb part part refl)
joined_here part (x ∷ xs) =
    cond_both (nat_lt part x) (part ∷ x ∷ xs) (cond (nat_eq part x) (x ∷ xs) (x ∷ with_part part xs)) (λ ys. has_part part ys ≡ true)
    (λ first. ap (λ (b : Bool). b || has_part part (x ∷ xs)) (eq-eqb part part refl))
    (λ later.
    cond_both (nat_eq part x) (x ∷ xs) (x ∷ with_part part xs) (λ ys. has_part part ys ≡ true)
    (λ same. ap (λ (b : Bool). b || has_part part xs) same)
    (λ other. ap (λ (b : Bool). b || has_part part (with_part part xs)) other ∙ joined_here part xs))

-- another part is among them as before
pub joined_other : (q part : ℕ) (xs : List ℕ) → q ≢ part → has_part q (with_part part xs) ≡ has_part q xs
joined_other q part [] other = ap (λ (b : Bool). b || false) (ne_eqb q part other)
joined_other q part (x ∷ xs) other =
    cond_both (nat_lt part x) (part ∷ x ∷ xs) (cond (nat_eq part x) (x ∷ xs) (x ∷ with_part part xs)) (λ ys. has_part q ys ≡ has_part q (x ∷ xs))
    (λ first. ap (λ (b : Bool). b || has_part q (x ∷ xs)) (ne_eqb q part other))
    (λ later.
    cond_both (nat_eq part x) (x ∷ xs) (x ∷ with_part part xs) (λ ys. has_part q ys ≡ has_part q (x ∷ xs))
    (λ same. refl)
    (λ differs. ap (λ (b : Bool). nat_eq q x || b) (joined_other q part xs other)))

-- the part that left is not among them
pub left_here : (part : ℕ) (xs : List ℕ) → has_part part (without_part part xs) ≡ false
left_here part xs =
    any-filter_same (nat_eq part) (λ x. not (nat_eq part x)) false (λ x is. ap not is) xs

-- another part is among them as before
pub left_other : (q part : ℕ) (xs : List ℕ) → q ≢ part → has_part q (without_part part xs) ≡ has_part q xs
left_other q part xs other = has_part-without_part q part xs (ne_eqb part q (λ same. other (sym same)))

-- ---- one descriptor of many

-- a changed descriptor, and each other
pub data SlotAfter (s : Store) (owner fd : ℕ) (change : Descriptor → Descriptor) (process number : ℕ) : Type 0 where
  here : process ≡ owner → number ≡ fd →
      descriptor_at (with_descriptor s owner fd change) process number ≡ option_map change (descriptor_at s process number) →
      SlotAfter s owner fd change process number
  apart : ¬ ((process ≡ owner) × (number ≡ fd)) →
      descriptor_at (with_descriptor s owner fd change) process number ≡ descriptor_at s process number →
      SlotAfter s owner fd change process number

pub slot_after : (s : Store) (owner fd : ℕ) (change : Descriptor → Descriptor) (process number : ℕ) → SlotAfter s owner fd change process number
slot_after s owner fd change process number =
    elim (cases_eq process owner) [
      | inl of_owner ↦
          elim (cases_eq number fd) [
            | inl at_fd ↦
                let t = with_descriptor s owner fd change in
                here of_owner at_fd
                (subst (λ (p : ℕ). descriptor_at t p number ≡ option_map change (descriptor_at s p number)) (sym of_owner)
                (subst (λ (f : ℕ). descriptor_at t owner f ≡ option_map change (descriptor_at s owner f)) (sym at_fd)
                (change-here s owner fd change)))
            | inr other ↦ apart (λ both. other both.1) (rest (λ both. other both.1))
          ]
      | inr other ↦ apart (λ both. other both.0) (rest (λ both. other both.0))
    ]
  where
    rest : ¬ ((process ≡ owner) × (number ≡ fd)) →
        descriptor_at (with_descriptor s owner fd change) process number ≡ descriptor_at s process number
    rest differs =
        ⊎_elim (λ same. same) (λ new. absurd (differs (new.0, new.1)))
        (slot-set_cases s owner fd (option_map change (descriptor_at s owner fd)) process number)

-- ---- the rights that change

-- the key of a part of a descriptor
abbrev pub key_at : ℕ → ℕ → ℕ → Key
key_at process fd part = record { process = process; fd = fd; part = part }

-- a key of another descriptor or part
pub other_than : (q : Key) (process fd part : ℕ) → ¬ ((q.process ≡ process) × (q.fd ≡ fd) × (q.part ≡ part)) →
    same_key q (key_at process fd part) ≡ false
other_than q process fd part differs = elim (cases_Bool (same_key q (key_at process fd part))) [
  | inl same ↦
      let is = same_key-is q (key_at process fd part) same in
      absurd (differs (ap (λ (k : Key). k.process) is, ap (λ (k : Key). k.fd) is, ap (λ (k : Key). k.part) is))
  | inr other ↦ other
]

-- the key of that descriptor and part
pub is_that : (q : Key) (process fd part : ℕ) → q.process ≡ process → q.fd ≡ fd → q.part ≡ part → q ≡ key_at process fd part
is_that q process fd part p f k = λ i. record { process = p i; fd = f i; part = k i }
