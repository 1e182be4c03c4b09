-- The keys of rights in the order of processes, descriptors and parts.
use Rattle.std.proofs.Common.{◌≡◌, ℕ, zero, suc, ◌+◌, ◌<◌, ◌≤◌, Bool, true, false, ◌&&◌, cond, Option, None, Some, List, [], ◌∷◌, ◌++◌, length, map, filter, take, get_or, refl, sym, ap, ◌∙◌, arith, eq-eqb, ne_eqb}
use Rattle.std.specs.Prelude.{nat_eq}
use Rattle.std.specs.List.{enumerate_from, flat_map}
use Rattle.std.specs.Option.{option_map}
use Rattle.std.proofs.lemmas.Option.{none-some, same_Some}
use Rattle.std.proofs.lemmas.Bool.{and_from, and_left, and_right}
use Rattle.std.proofs.lemmas.List.{append-nil, append_assoc, get_or_default, map-append}
use Rattle.std.proofs.lemmas.List.Elements.{filter-append}
use Rattle.bd_base.specs.declared.key.Key.{Key}
use Rattle.bd_entry.specs.Actions.{keys_by, keys_of_slot}
use Rattle.bd_entry.specs.Store.{Descriptor, in_slot}
use Rattle.bd_kernel.specs.Changes.{Rows, slot_at}
use Rattle.bd_kernel.specs.PartMarks.{marked_from}
use Rattle.bd_kernel.specs.Sights.{bare, no_files}

marked-suc : (n : ℕ) (marks : List Bool) (k : ℕ) → k < length marks →
    marked_from n (take (suc k) marks) ≡ marked_from n (take k marks) ++ cond (get_or marks k false) ((n + k) ∷ []) []
marked-suc n [] k below = absurd (omega arith)
marked-suc n (true ∷ marks) zero below = ap (λ (m : ℕ). m ∷ []) (omega arith)
marked-suc n (false ∷ marks) zero below = refl
marked-suc n (true ∷ marks) (suc k) below =
    ap (λ (ms : List ℕ). n ∷ ms)
    (marked-suc (n + 1) marks k (omega arith)
    ∙ ap (λ (m : ℕ). marked_from (n + 1) (take k marks) ++ cond (get_or marks k false) (m ∷ []) []) (omega arith))
marked-suc n (false ∷ marks) (suc k) below =
    marked-suc (n + 1) marks k (omega arith)
    ∙ ap (λ (m : ℕ). marked_from (n + 1) (take k marks) ++ cond (get_or marks k false) (m ∷ []) []) (omega arith)

-- one more mark
marked-push : (marks : List Bool) (k : ℕ) → k < length marks →
    marked_from 0 (take (k + 1) marks) ≡ marked_from 0 (take k marks) ++ cond (get_or marks k false) (k ∷ []) []
marked-push marks k below =
    let next : k + 1 ≡ suc k = omega arith in
    let at : 0 + k ≡ k = omega arith in
    ap (λ (m : ℕ). marked_from 0 (take m marks)) next ∙ marked-suc 0 marks k below
    ∙ ap (λ (m : ℕ). marked_from 0 (take k marks) ++ cond (get_or marks k false) (m ∷ []) []) at

enumerate-suc : {X A : Type 0} (f : ℕ × X → List A) (n : ℕ) (xs : List X) (k : ℕ) (none : X) → k < length xs →
    flat_map f (enumerate_from n (take (suc k) xs)) ≡ flat_map f (enumerate_from n (take k xs)) ++ f (n + k, get_or xs k none)
enumerate-suc f n [] k none below = absurd (omega arith)
enumerate-suc {X} {A} f n (x ∷ xs) zero none below =
    let at : n ≡ n + 0 = omega arith in append-nil (f (n, x)) ∙ ap (λ (m : ℕ). f (m, x)) at
enumerate-suc {X} {A} f n (x ∷ xs) (suc k) none below =
    let at : n + 1 + k ≡ n + suc k = omega arith in
    let before = flat_map f (enumerate_from (n + 1) (take k xs)) in
    ap (λ (ys : List A). f (n, x) ++ ys)
    (enumerate-suc f (n + 1) xs k none (omega arith) ∙ ap (λ (m : ℕ). before ++ f (m, get_or xs k none)) at)
    ∙ sym (append_assoc (f (n, x)) before (f (n + suc k, get_or xs k none)))

-- one more element, with its place
enumerate-push : {X A : Type 0} (f : ℕ × X → List A) (xs : List X) (k : ℕ) (none : X) → k < length xs →
    flat_map f (enumerate_from 0 (take (k + 1) xs)) ≡ flat_map f (enumerate_from 0 (take k xs)) ++ f (k, get_or xs k none)
enumerate-push f xs k none below =
    let next : k + 1 ≡ suc k = omega arith in
    let at : 0 + k ≡ k = omega arith in
    ap (λ (m : ℕ). flat_map f (enumerate_from 0 (take m xs))) next ∙ enumerate-suc f 0 xs k none below
    ∙ ap (λ (m : ℕ). flat_map f (enumerate_from 0 (take k xs)) ++ f (m, get_or xs k none)) at

-- the keys so far, and those of one more mark
pub marked_keys-step : (f : ℕ → Key) (start keys next : List Key) (marks : List Bool) (k : ℕ) (mark : Bool) → k < length marks →
    mark ≡ get_or marks k mark → keys ≡ start ++ map f (marked_from 0 (take k marks)) → next ≡ keys ++ map f (cond mark (k ∷ []) []) →
    next ≡ start ++ map f (marked_from 0 (take (k + 1) marks))
marked_keys-step f start keys next marks k mark below is so_far more =
    let before = marked_from 0 (take k marks) in
    let here : cond mark (k ∷ []) [] ≡ cond (get_or marks k false) (k ∷ []) [] =
    ap (λ (b : Bool). cond b (k ∷ []) []) (is ∙ get_or_default marks k mark false below) in
    more ∙ ap (λ (ks : List Key). ks ++ map f (cond mark (k ∷ []) [])) so_far
    ∙ append_assoc start (map f before) (map f (cond mark (k ∷ []) []))
    ∙ ap (λ (ks : List Key). start ++ ks)
    (sym (map-append f before (cond mark (k ∷ []) [])) ∙ ap (λ (ns : List ℕ). map f (before ++ ns)) here ∙ ap (map f) (sym (marked-push marks k below)))

-- the keys so far, and those of one more element
pub flat_keys-step : {X : Type 0} (f : ℕ × X → List Key) (start keys next : List Key) (xs : List X) (k : ℕ) (x none : X) → k < length xs →
    x ≡ get_or xs k x → keys ≡ start ++ flat_map f (enumerate_from 0 (take k xs)) → next ≡ keys ++ f (k, x) →
    next ≡ start ++ flat_map f (enumerate_from 0 (take (k + 1) xs))
flat_keys-step {X} f start keys next xs k x none below is so_far more =
    let before = flat_map f (enumerate_from 0 (take k xs)) in
    more ∙ ap (λ (ks : List Key). ks ++ f (k, x)) so_far ∙ append_assoc start before (f (k, x))
    ∙ ap (λ (ks : List Key). start ++ ks)
    (ap (λ (y : X). before ++ f (k, y)) (is ∙ get_or_default xs k x none below) ∙ sym (enumerate-push f xs k none below))

-- ---- the keys of one descriptor

-- whether the key is of this descriptor
abbrev is_of : ℕ → ℕ → Key → Bool
is_of p fd key = nat_eq key.process p && nat_eq key.fd fd

-- the keys of the rights of a descriptor in a slot
abbrev all_of : ℕ → ℕ × Option Descriptor → List Key
all_of q slot = keys_of_slot (λ d. true) q slot.0 slot.1

-- the same of the slots of a process
abbrev all_in : ℕ × List (Option Descriptor) → List Key
all_in row = flat_map (all_of row.0) (enumerate_from 0 row.1)

module _ (p fd : ℕ) where
  others : (q f : ℕ) (parts : List ℕ) → nat_eq q p && nat_eq f fd ≡ false →
      filter (is_of p fd) (map (λ part. record { process = q; fd = f; part = part }) parts) ≡ []
  others q f [] other = refl
  others q f (part ∷ parts) other = rw other (others q f parts other)

  own : (parts : List ℕ) → nat_eq p p && nat_eq fd fd ≡ true →
      filter (is_of p fd) (map (λ part. record { process = p; fd = fd; part = part }) parts)
      ≡ map (λ part. record { process = p; fd = fd; part = part }) parts
  own [] same = refl
  own (part ∷ parts) same = rw same (ap (λ (keys : List Key). record { process = p; fd = fd; part = part } ∷ keys) (own parts same))

  slot_other : (q f : ℕ) (slot : Option Descriptor) → nat_eq q p && nat_eq f fd ≡ false → filter (is_of p fd) (all_of q (f, slot)) ≡ []
  slot_other q f None other = refl
  slot_other q f (Some d) other = others q f d.attached other

  slot_own : (slot : Option Descriptor) → filter (is_of p fd) (all_of p (fd, slot)) ≡ all_of p (fd, slot)
  slot_own None = refl
  slot_own (Some d) = own d.attached (and_from (nat_eq p p) (nat_eq fd fd) (eq-eqb p p refl) (eq-eqb fd fd refl))

  -- a slot is first, and those behind it follow
  slot_first : (q n : ℕ) (slot : Option Descriptor) (slots : List (Option Descriptor)) (first later : List Key) →
      filter (is_of p fd) (all_of q (n, slot)) ≡ first → filter (is_of p fd) (flat_map (all_of q) (enumerate_from (n + 1) slots)) ≡ later →
      filter (is_of p fd) (flat_map (all_of q) (enumerate_from n (slot ∷ slots))) ≡ first ++ later
  slot_first q n slot slots first later is_first is_later =
      let rest = flat_map (all_of q) (enumerate_from (n + 1) slots) in
      filter-append (is_of p fd) (all_of q (n, slot)) rest
      ∙ ap (λ (keys : List Key). keys ++ filter (is_of p fd) rest) is_first ∙ ap (λ (keys : List Key). first ++ keys) is_later

  row_other : (q n : ℕ) (slots : List (Option Descriptor)) → nat_eq q p ≡ false →
      filter (is_of p fd) (flat_map (all_of q) (enumerate_from n slots)) ≡ []
  row_other q n [] other = refl
  row_other q n (slot ∷ slots) other =
      slot_first q n slot slots [] [] (slot_other q n slot (and_left (nat_eq q p) (nat_eq n fd) other)) (row_other q (n + 1) slots other)

  row_past : (n : ℕ) (slots : List (Option Descriptor)) → fd < n → filter (is_of p fd) (flat_map (all_of p) (enumerate_from n slots)) ≡ []
  row_past n [] below = refl
  row_past n (slot ∷ slots) below =
      let other : nat_eq n fd ≡ false = ne_eqb n fd (λ same. omega arith) in
      slot_first p n slot slots [] [] (slot_other p n slot (and_right (nat_eq p p) (nat_eq n fd) other)) (row_past (n + 1) slots (omega arith))

  row_own : (n k : ℕ) (slots : List (Option Descriptor)) → n + k ≡ fd →
      filter (is_of p fd) (flat_map (all_of p) (enumerate_from n slots)) ≡ all_of p (fd, in_slot slots k)
  row_own n k [] at = refl
  row_own n zero (slot ∷ slots) at =
      let here : n ≡ fd = omega arith in
      slot_first p n slot slots (all_of p (fd, slot)) []
      (ap (λ (m : ℕ). filter (is_of p fd) (all_of p (m, slot))) here ∙ slot_own slot) (row_past (n + 1) slots (omega arith))
      ∙ append-nil (all_of p (fd, slot))
  row_own n (suc k) (slot ∷ slots) at =
      let other : nat_eq n fd ≡ false = ne_eqb n fd (λ same. omega arith) in
      slot_first p n slot slots [] (all_of p (fd, in_slot slots k)) (slot_other p n slot (and_right (nat_eq p p) (nat_eq n fd) other))
      (row_own (n + 1) k slots (omega arith))

  -- a row is first, and those behind it follow
  row_first : (n : ℕ) (row : List (Option Descriptor)) (rows : Rows) (first later : List Key) →
      filter (is_of p fd) (all_in (n, row)) ≡ first → filter (is_of p fd) (flat_map all_in (enumerate_from (n + 1) rows)) ≡ later →
      filter (is_of p fd) (flat_map all_in (enumerate_from n (row ∷ rows))) ≡ first ++ later
  row_first n row rows first later is_first is_later =
      let rest = flat_map all_in (enumerate_from (n + 1) rows) in
      filter-append (is_of p fd) (all_in (n, row)) rest
      ∙ ap (λ (keys : List Key). keys ++ filter (is_of p fd) rest) is_first ∙ ap (λ (keys : List Key). first ++ keys) is_later

  rows_past : (n : ℕ) (rows : Rows) → p < n → filter (is_of p fd) (flat_map all_in (enumerate_from n rows)) ≡ []
  rows_past n [] below = refl
  rows_past n (row ∷ rows) below =
      row_first n row rows [] [] (row_other n 0 row (ne_eqb n p (λ same. omega arith))) (rows_past (n + 1) rows (omega arith))

  rows_own : (n k : ℕ) (rows : Rows) → n + k ≡ p →
      filter (is_of p fd) (flat_map all_in (enumerate_from n rows)) ≡ all_of p (fd, slot_at rows k fd)
  rows_own n k [] at = refl
  rows_own n zero (row ∷ rows) at =
      let here : n ≡ p = omega arith in
      row_first n row rows (all_of p (fd, in_slot row fd)) []
      (ap (λ (m : ℕ). filter (is_of p fd) (all_in (m, row))) here ∙ row_own 0 fd row (omega arith)) (rows_past (n + 1) rows (omega arith))
      ∙ append-nil (all_of p (fd, in_slot row fd))
  rows_own n (suc k) (row ∷ rows) at =
      row_first n row rows [] (all_of p (fd, slot_at rows k fd)) (row_other n 0 row (ne_eqb n p (λ same. omega arith)))
      (rows_own (n + 1) k rows (omega arith))

  -- the keys of a descriptor among all keys
  pub keys_by-slot : (rows : Rows) → keys_by (bare no_files rows) p fd ≡ keys_of_slot (λ d. true) p fd (slot_at rows p fd)
  keys_by-slot rows = rows_own 0 p rows (omega arith)

-- a descriptor that is not open has no key
pub no_keys : (rows : Rows) (p fd : ℕ) → slot_at rows p fd ≡ None → [] ≡ keys_by (bare no_files rows) p fd
no_keys rows p fd none =
    sym (keys_by-slot p fd rows ∙ ap (keys_of_slot (λ d. true) p fd) none)

-- the number under which a descriptor is open is its own
pub same_number : (p number fd : ℕ) (slot : Option Descriptor) → Some number ≡ option_map (λ _. fd) slot →
    keys_of_slot (λ d. true) p number slot ≡ keys_of_slot (λ d. true) p fd slot
same_number p number fd None is = refl
same_number p number fd (Some d) is = ap (λ (n : ℕ). keys_of_slot (λ d. true) p n (Some d)) (same_Some number fd is)

-- what stands in a slot stands within the list
pub slot-within : {X : Type 0} (slots : List (Option X)) (i : ℕ) (x : X) → in_slot slots i ≡ Some x → i < length slots
slot-within [] i x is = absurd (none-some x is)
slot-within (slot ∷ slots) zero x is = omega arith
slot-within (slot ∷ slots) (suc i) x is = omega (arith, slot-within slots i x is)

-- what is found nothing for is nothing
pub not_open : {X Y : Type 0} (o : Option X) (y : Y) → option_map (λ _. y) o ≡ None → o ≡ None
not_open None y none = refl
not_open (Some x) y none = absurd (none-some y (sym none))
