-- The parts of a pool through its changes.
use Rattle.std.proofs.Common.{◌≡◌, ℕ, zero, suc, ◌+◌, ◌-◌, ◌*◌, ◌<◌, ◌≤◌, ◌≢◌, true, false, cond, Option, None, Some, List, [], ◌∷◌, length, map, is_some, IfSome, refl, sym, ap, ◌∙◌, subst, inl, inr, arith, set, get_or}
use Rattle.std.specs.List.{count_by}
use Rattle.std.proofs.lemmas.Bool.{cases_eq, cond-true, true≢false}
use Rattle.std.proofs.lemmas.List.{get_or-set_same, set-get_or, get_or-set_other, get_or-map, same_lists, length-map, length-set}
use Rattle.std.proofs.lemmas.List.Sums.{count_by-le-length, sum_by-cons, sum_by-set}
use Rattle.std.proofs.lemmas.Option.{none-some, same_Some}
use Rattle.std.specs.FinMap as fin
use Rattle.std.specs.Option.{option_map}
use Rattle.bd_base.specs.declared.limits.TheConstants.{FILES, FRAGMENTS, PARTS, PART_BLOCKS}
use Rattle.bd_base.specs.Keys.{Pair, pair_cmp, pair_number, pair_of, pair_cmp_total, pair_cmp-IsAntisymmetric, pairs_apart, pair_of-pair_number, pair_number-pair_of}
use Rattle.bd_base.specs.Slots.{get-slots_map, slots_map, slots_map-clear, slots_map-fill, slot_of-get}
use Rattle.bd_file_table.specs.declared.pool.Owner.{Owner}
use Rattle.bd_file_table.specs.declared.pool.Slot.{Slot}
use Rattle.bd_file_table.specs.Fragments.{Book, Fragment, HasNumber, IsLowestUnused, IsUnused, number_of}
use Rattle.bd_file_table.specs.Kept.{IsPool, book_of, fragment_at, fragments, owner_of}
use Rattle.bd_file_table.specs.Slots.{is_owned, no_slot, slot_at}

-- ---- what a pair and a place know of each other

in_list : {X : Type 0} (xs : List (Option X)) (i : ℕ) (x : X) → get_or xs i None ≡ Some x → i < length xs
in_list [] i x is = absurd (none-some x is)
in_list (y ∷ xs) zero x is = omega arith
in_list (y ∷ xs) (suc i) x is = let rest = in_list xs i x is in omega arith

number_at : List (Option ℕ) → ℕ → Option ℕ
number_at numbers pair = get_or numbers pair None

-- the fragment of a pair lies in the place of its number
pub record IsFragmentOf (slots : List Slot) (numbers : List (Option ℕ)) (pair : Pair) (fragment : Fragment) : Type 0 where
  pub place : ℕ
  pub within : place < length numbers
  pub pair_is : pair ≡ pair_of place
  pub number : get_or numbers place None ≡ Some fragment.number
  pub cells : fragment.cells ≡ (slot_at slots fragment.number).cells

in_place : (slots : List Slot) (numbers : List (Option ℕ)) (pair : Pair) (fragment : Fragment) (place : ℕ) → place < length numbers →
    pair ≡ pair_of place →
    (n : Option ℕ) → get_or numbers place None ≡ n → fragment_at slots n ≡ Some fragment → IsFragmentOf slots numbers pair fragment
in_place slots numbers pair fragment place within pair_is None at is = absurd (none-some fragment is)
in_place slots numbers pair fragment place within pair_is (Some number) at is =
    let same : record { number = number; cells = (slot_at slots number).cells } ≡ fragment = same_Some _ _ is in
    let its : number ≡ fragment.number = ap (λ (f : Fragment). f.number) same in
    record {
      place = place;
      within = within;
      pair_is = pair_is;
      number = at ∙ ap Some its;
      cells = sym (ap (λ (f : Fragment). f.cells) same) ∙ ap (λ n. (slot_at slots n).cells) its;
    }

pub fragment_of-get : (slots : List Slot) (numbers : List (Option ℕ)) (pair : Pair) (fragment : Fragment) →
    fin.get (book_of slots numbers) pair ≡ Some fragment →
    IsFragmentOf slots numbers pair fragment
fragment_of-get slots numbers pair fragment found =
    let s = slot_of-get pair_cmp pair_of pair_cmp_total pairs_apart pair_cmp-IsAntisymmetric (fragments slots numbers) pair fragment found in
    let within : s.number < length numbers = omega (arith, s.within, length-map numbers (fragment_at slots)) in
    in_place slots numbers pair fragment s.number within s.key _ refl (sym (get_or-map (fragment_at slots) numbers s.number None None within) ∙ s.value)

pub get-book_of : (slots : List Slot) (numbers : List (Option ℕ)) (pair : Pair) → pair.part < PARTS → pair_number pair < length numbers →
    fin.get (book_of slots numbers) pair ≡ fragment_at slots (get_or numbers (pair_number pair) None)
get-book_of slots numbers pair part within =
    ap (fin.get (book_of slots numbers)) (sym (pair_of-pair_number pair part))
    ∙ get-slots_map pair_cmp pair_of pair_cmp_total pairs_apart (fragments slots numbers) (pair_number pair)
    (omega (arith, length-map numbers (fragment_at slots)))
    ∙ get_or-map (fragment_at slots) numbers (pair_number pair) None None within

number_of-fragment_at : (slots : List Slot) (n : Option ℕ) → option_map number_of (fragment_at slots n) ≡ n
number_of-fragment_at slots None = refl
number_of-fragment_at slots (Some n) = refl

pub number-get : (slots : List Slot) (numbers : List (Option ℕ)) (pair : Pair) → pair.part < PARTS → pair_number pair < length numbers →
    get_or numbers (pair_number pair) None ≡ option_map number_of (fin.get (book_of slots numbers) pair)
number-get slots numbers pair part within =
    sym (number_of-fragment_at slots _) ∙ ap (option_map number_of) (sym (get-book_of slots numbers pair part within))

-- a pair that has a number has a fragment of that number
pub record HasFragment (book : Book) (pair : Pair) (number : ℕ) : Type 0 where
  pub fragment : Fragment
  pub found : fin.get book pair ≡ Some fragment
  pub is : fragment.number ≡ number

has_fragment : (book : Book) (pair : Pair) (number : ℕ) (f : Option Fragment) → fin.get book pair ≡ f → option_map number_of f ≡ Some number →
    HasFragment book pair number
has_fragment book pair number None at is = absurd (none-some number is)
has_fragment book pair number (Some f) at is = record { fragment = f; found = at; is = same_Some _ _ is }

pub fragment-HasNumber : (book : Book) (pair : Pair) (number : ℕ) → HasNumber book pair number → HasFragment book pair number
fragment-HasNumber book pair number has = has_fragment book pair number _ refl has

pub owner-HasNumber : (slots : List Slot) (numbers : List (Option ℕ)) (used : ℕ) → IsPool slots numbers used → (pair : Pair) (number : ℕ) →
    HasNumber (book_of slots numbers) pair number → (slot_at slots number).owner ≡ Some (record { file = pair.file; part = pair.part })
owner-HasNumber slots numbers used pool pair number has =
    let f = fragment-HasNumber (book_of slots numbers) pair number has in
    let its = fragment_of-get slots numbers pair f.fragment f.found in
    let owner = pool.owner its.place number (its.number ∙ ap Some f.is) in
    owner ∙ ap (λ (p : Pair). Some (record { file = p.file; part = p.part })) (sym its.pair_is)

-- a place that nobody owns has no pair
pub unused-none : (slots : List Slot) (numbers : List (Option ℕ)) (used : ℕ) → IsPool slots numbers used → (number : ℕ) →
    (slot_at slots number).owner ≡ None → IsUnused (book_of slots numbers) number
unused-none slots numbers used pool number none pair has = none-some _ (sym none ∙ owner-HasNumber slots numbers used pool pair number has)

-- a place that somebody owns has a pair
pub used-some : (slots : List Slot) (numbers : List (Option ℕ)) (used : ℕ) → IsPool slots numbers used → (number : ℕ) (owner : Owner) →
    (slot_at slots number).owner ≡ Some owner → ¬ (IsUnused (book_of slots numbers) number)
used-some slots numbers used pool number owner is unused =
    let place : ℕ = owner.file * PARTS + owner.part in
    let mine : pair_number (pair_of place) ≡ place = pair_number-pair_of place in
    let has = pool.known number owner is in
    let within : place < length numbers = in_list numbers place number has in
    unused (pair_of place)
    (sym (number-get slots numbers (pair_of place) (omega arith) (omega arith)) ∙ ap (λ k. get_or numbers k None) mine ∙ has)

-- the owner of a fragment in use
pub record IsOwned (slots : List Slot) (number : ℕ) : Type 0 where
  pub owner : Owner
  pub is : (slot_at slots number).owner ≡ Some owner

owned_by : (slots : List Slot) (number : ℕ) (o : Option Owner) → (slot_at slots number).owner ≡ o → ¬ (o ≡ None) → IsOwned slots number
owned_by slots number None is some = absurd (some refl)
owned_by slots number (Some owner) is some = record { owner = owner; is = is }

pub owned-in_use : (slots : List Slot) (numbers : List (Option ℕ)) (used : ℕ) → IsPool slots numbers used → (number : ℕ) →
    ¬ (IsUnused (book_of slots numbers) number) → IsOwned slots number
owned-in_use slots numbers used pool number in_use =
    owned_by slots number _ refl (λ none. in_use (unused-none slots numbers used pool number none))

-- ---- a change of one pair and one place

-- no other pair has the place, and no other place is the pair's
pub record AreApart (slots : List Slot) (numbers : List (Option ℕ)) (place number : ℕ) : Type 0 where
  pub pairs : (other n : ℕ) → other ≢ place → get_or numbers other None ≡ Some n → n ≢ number
  pub places : (n : ℕ) (owner : Owner) → n ≢ number → (slot_at slots n).owner ≡ Some owner → owner.file * PARTS + owner.part ≢ place

pub apart-new : (slots : List Slot) (numbers : List (Option ℕ)) (used : ℕ) → IsPool slots numbers used → (place number : ℕ) →
    get_or numbers place None ≡ None → (slot_at slots number).owner ≡ None → AreApart slots numbers place number
apart-new slots numbers used pool place number none free = record {
  pairs = λ other n differs is same.
      none-some _ (sym free ∙ ap (λ k. (slot_at slots k).owner) (sym same) ∙ pool.owner other n is);
  places = λ n owner differs is same.
      none-some n (sym none ∙ ap (λ k. get_or numbers k None) (sym same) ∙ pool.known n owner is);
}

pub apart-own : (slots : List Slot) (numbers : List (Option ℕ)) (used : ℕ) → IsPool slots numbers used → (place number : ℕ) →
    get_or numbers place None ≡ Some number → AreApart slots numbers place number
apart-own slots numbers used pool place number has = record {
  pairs = λ other n differs is same.
      let owners = sym (pool.owner other n is) ∙ ap (λ k. (slot_at slots k).owner) same ∙ pool.owner place number has in
      let o : owner_of other ≡ owner_of place = same_Some _ _ owners in
      let n : pair_number (pair_of other) ≡ pair_number (pair_of place) = ap (λ (w : Owner). w.file * PARTS + w.part) o in
      differs (sym (pair_number-pair_of other) ∙ n ∙ pair_number-pair_of place);
  places = λ n owner differs is same.
      differs (same_Some _ _ (sym (pool.known n owner is) ∙ ap (λ k. get_or numbers k None) same ∙ has));
}

same_fragment : (slots : List Slot) (number : ℕ) (slot : Slot) (n : Option ℕ) → ((m : ℕ) → n ≡ Some m → m ≢ number) →
    fragment_at (set slots number slot) n ≡ fragment_at slots n
same_fragment slots number slot None other = refl
same_fragment slots number slot (Some m) other =
    ap (λ (s : Slot). Some (record { number = m; cells = s.cells })) (get_or-set_other slots number m slot no_slot (other m refl))

pub fragments-set : (slots : List Slot) (numbers : List (Option ℕ)) (place number : ℕ) (slot : Slot) (v : Option ℕ) →
    AreApart slots numbers place number → place < length numbers →
    fragments (set slots number slot) (set numbers place v) ≡ set (fragments slots numbers) place (fragment_at (set slots number slot) v)
fragments-set slots numbers place number slot v apart within =
    let before = fragments slots numbers in
    let after = set numbers place v in
    let long : length (map (fragment_at (set slots number slot)) after) ≡ length numbers =
    length-map after (fragment_at (set slots number slot)) ∙ length-set {A = Option ℕ} numbers place v in
    let place_within : place < length before = omega (arith, length-map numbers (fragment_at slots)) in
    same_lists _ _
    (long ∙ sym (length-set {A = Option Fragment} before place (fragment_at (set slots number slot) v) ∙ length-map numbers (fragment_at slots)))
    (λ k d below.
    let k_in : k < length numbers = omega (arith, below, long) in
    let k_after : k < length after = omega (arith, length-set {A = Option ℕ} numbers place v) in
    get_or-map (fragment_at (set slots number slot)) after k None d k_after
    ∙ elim (cases_eq k place) [
      | inl same ↦
          rw same
          (ap (fragment_at (set slots number slot)) (get_or-set_same numbers place v None within)
          ∙ sym (get_or-set_same before place (fragment_at (set slots number slot) v) d place_within))
      | inr differs ↦
          ap (fragment_at (set slots number slot)) (get_or-set_other numbers place k v None differs)
          ∙ same_fragment slots number slot (get_or numbers k None) (λ m is. apart.pairs k m differs is)
          ∙ sym (get_or-map (fragment_at slots) numbers k None d k_in)
          ∙ sym (get_or-set_other before place k (fragment_at (set slots number slot) v) d differs)
    ])

pub book_of-fill : (slots : List Slot) (numbers : List (Option ℕ)) (pair : Pair) (number : ℕ) (slot : Slot) →
    pair.part < PARTS → pair_number pair < length numbers → number < length slots → AreApart slots numbers (pair_number pair) number →
    book_of (set slots number slot) (set numbers (pair_number pair) (Some number)) ≡ fin.insert (book_of slots numbers) pair
    (record { number = number; cells = slot.cells })
book_of-fill slots numbers pair number slot part within below apart =
    let place : ℕ = pair_number pair in
    let new : fragment_at (set slots number slot) (Some number) ≡ Some (record { number = number; cells = slot.cells }) =
    ap (λ (s : Slot). Some (record { number = number; cells = s.cells })) (get_or-set_same slots number slot no_slot below) in
    ap (slots_map pair_cmp pair_of) (fragments-set slots numbers place number slot (Some number) apart within ∙ ap (set (fragments slots numbers) place) new)
    ∙ slots_map-fill pair_cmp pair_of pair_cmp_total pairs_apart pair_cmp-IsAntisymmetric (fragments slots numbers) place
    (record { number = number; cells = slot.cells })
    (omega (arith, length-map numbers (fragment_at slots)))
    ∙ ap (λ p. fin.insert (book_of slots numbers) p (record { number = number; cells = slot.cells })) (pair_of-pair_number pair part)

pub book_of-drop : (slots : List Slot) (numbers : List (Option ℕ)) (pair : Pair) (number : ℕ) (slot : Slot) →
    pair.part < PARTS → pair_number pair < length numbers → AreApart slots numbers (pair_number pair) number →
    book_of (set slots number slot) (set numbers (pair_number pair) None) ≡ fin.remove (book_of slots numbers) pair
book_of-drop slots numbers pair number slot part within apart =
    let place : ℕ = pair_number pair in
    ap (slots_map pair_cmp pair_of) (fragments-set slots numbers place number slot None apart within)
    ∙ slots_map-clear pair_cmp pair_of pair_cmp_total pairs_apart pair_cmp-IsAntisymmetric (fragments slots numbers) place
    (omega (arith, length-map numbers (fragment_at slots)))
    ∙ ap (fin.remove (book_of slots numbers)) (pair_of-pair_number pair part)

-- the pair and the place name each other, or neither names anything
pub record AreMates (place number : ℕ) (v : Option ℕ) (o : Option Owner) : Type 0 where
  pub by_number : (n : ℕ) → v ≡ Some n → (n ≡ number) × (o ≡ Some (owner_of place))
  pub by_owner : (w : Owner) → o ≡ Some w → (w.file * PARTS + w.part ≡ place) × (v ≡ Some number)

pub IsPool-set : (slots : List Slot) (numbers : List (Option ℕ)) (used more : ℕ) → IsPool slots numbers used →
    (place number : ℕ) (slot : Slot) (v : Option ℕ) →
    AreApart slots numbers place number → place < length numbers → number < length slots → AreMates place number v slot.owner →
    length slot.cells ≡ PART_BLOCKS →
    more ≡ count_by is_owned (set slots number slot) → more ≡ fin.len (book_of (set slots number slot) (set numbers place v)) →
    IsPool (set slots number slot) (set numbers place v) more
IsPool-set slots numbers used more pool place number slot v apart within below mates wide count total =
    let here : get_or (set numbers place v) place None ≡ v = get_or-set_same numbers place v None within in
    let there : slot_at (set slots number slot) number ≡ slot = get_or-set_same slots number slot no_slot below in
    record {
      places = length-set {A = Slot} slots number slot ∙ pool.places;
      pairs = length-set {A = Option ℕ} numbers place v ∙ pool.pairs;
      owned = λ other n is. elim (cases_eq other place) [
        | inl same ↦
            let at : v ≡ Some n = sym here ∙ ap (λ k. get_or (set numbers place v) k None) (sym same) ∙ is in
            omega (arith, (mates.by_number n at).0, pool.places)
        | inr differs ↦ pool.owned other n (sym (get_or-set_other numbers place other v None differs) ∙ is)
      ];
      owner = λ other n is. elim (cases_eq other place) [
        | inl same ↦
            let at : v ≡ Some n = sym here ∙ ap (λ k. get_or (set numbers place v) k None) (sym same) ∙ is in
            let m = mates.by_number n at in
            ap (λ k. (slot_at (set slots number slot) k).owner) m.0 ∙ ap (λ (s : Slot). s.owner) there ∙ m.1 ∙ ap (λ k. Some (owner_of k)) (sym same)
        | inr differs ↦
            let was : get_or numbers other None ≡ Some n = sym (get_or-set_other numbers place other v None differs) ∙ is in
            ap (λ (s : Slot). s.owner) (get_or-set_other slots number n slot no_slot (apart.pairs other n differs was)) ∙ pool.owner other n was
      ];
      known = λ n w is. elim (cases_eq n number) [
        | inl same ↦
            let at : slot.owner ≡ Some w = sym (ap (λ (s : Slot). s.owner) there) ∙ ap (λ k. (slot_at (set slots number slot) k).owner) (sym same)
            ∙ is in
            let m = mates.by_owner w at in
            ap (λ k. get_or (set numbers place v) k None) m.0 ∙ here ∙ m.1 ∙ ap Some (sym same)
        | inr differs ↦
            let was : (slot_at slots n).owner ≡ Some w = sym (ap (λ (s : Slot). s.owner) (get_or-set_other slots number n slot no_slot differs)) ∙ is in
            get_or-set_other numbers place (w.file * PARTS + w.part) v None (apart.places n w differs was) ∙ pool.known n w was
      ];
      wide = λ n n_below. elim (cases_eq n number) [
        | inl same ↦ ap (λ k. length (slot_at (set slots number slot) k).cells) same ∙ ap (λ (s : Slot). length s.cells) there ∙ wide
        | inr differs ↦ ap (λ (s : Slot). length s.cells) (get_or-set_other slots number n slot no_slot differs) ∙ pool.wide n n_below
      ];
      count = count;
      total = total;
    }

-- ---- counts of owned places

-- 1 for an owner, 0 for none
abbrev mark_of : Option Owner → ℕ
mark_of o = cond (is_some o) 1 0

abbrev mark : Slot → ℕ
mark slot = mark_of slot.owner

pub count-all : (slots : List Slot) → ((n : ℕ) → n < length slots → is_owned (slot_at slots n) ≡ true) → count_by is_owned slots ≡ length slots
count-all [] all = refl
count-all (slot ∷ slots) all =
    let first : mark slot ≡ 1 = cond-true _ _ _ (all 0 (omega arith)) in
    let rest = count-all slots (λ n below. all (suc n) (omega arith)) in
    sum_by-cons mark slot slots ∙ omega arith

-- one place more, or fewer, is owned
pub count-set : (slots : List Slot) (n : ℕ) (slot : Slot) → n < length slots →
    count_by is_owned (set slots n slot) + mark (slot_at slots n) ≡ count_by is_owned slots + mark slot
count-set slots n slot within = sum_by-set mark slots n slot no_slot within

pub count-one : (slots : List Slot) (n : ℕ) (owner : Owner) → n < length slots → (slot_at slots n).owner ≡ Some owner → 0 < count_by is_owned slots
count-one slots n owner within is =
    let here : mark (slot_at slots n) ≡ 1 = cond-true _ _ _ (ap (λ (o : Option Owner). is_some o) is) in
    omega (arith, here, count-set slots n no_slot within)

pub owner_none : (slot : Slot) → is_owned slot ≡ false → slot.owner ≡ None
owner_none slot e = go slot.owner e
  where
    go : (o : Option Owner) → is_some o ≡ false → o ≡ None
    go None e = refl
    go (Some o) e = absurd (true≢false e)

-- ---- the calls

pub in_use-within : (slots : List Slot) (numbers : List (Option ℕ)) (used : ℕ) → IsPool slots numbers used → (number : ℕ) →
    ¬ (IsUnused (book_of slots numbers) number) → number < FRAGMENTS
in_use-within slots numbers used pool number in_use =
    let o = owned-in_use slots numbers used pool number in_use in
    pool.owned (o.owner.file * PARTS + o.owner.part) number (pool.known number o.owner o.is)

pub number-within : (slots : List Slot) (numbers : List (Option ℕ)) (used : ℕ) → IsPool slots numbers used → (place : ℕ) (o : Option ℕ) →
    get_or numbers place None ≡ o → IfSome o (λ n. n < FRAGMENTS)
number-within slots numbers used pool place None is = tt
number-within slots numbers used pool place (Some n) is = pool.owned place n is

-- what is kept as a place in use gets other cells, and what that does to the map
pub record Refills (slots : List Slot) (numbers : List (Option ℕ)) (used number : ℕ) (slot : Slot) : Type 0 where
  pub pool : IsPool (set slots number slot) numbers used
  pub book : (pair : Pair) (its : Fragment) → fin.get (book_of slots numbers) pair ≡ Some its → its.number ≡ number →
      book_of (set slots number slot) numbers ≡ fin.insert (book_of slots numbers) pair (record { number = number; cells = slot.cells })

mates-own : (slots : List Slot) (numbers : List (Option ℕ)) (used : ℕ) → IsPool slots numbers used → (place number : ℕ) → (o : Option Owner) →
    get_or numbers place None ≡ Some number → o ≡ (slot_at slots number).owner → AreMates place number (Some number) o
mates-own slots numbers used pool place number o has same =
    let owner : o ≡ Some (owner_of place) = same ∙ pool.owner place number has in
    record {
      by_number = λ n is. (sym (same_Some _ _ is), owner);
      by_owner = λ w is.
          let its : owner_of place ≡ w = same_Some _ _ (sym owner ∙ is) in
          (sym (ap (λ (x : Owner). x.file * PARTS + x.part) its) ∙ pair_number-pair_of place, refl);
    }

refills-at : (slots : List Slot) (numbers : List (Option ℕ)) (used number : ℕ) (slot : Slot) → IsPool slots numbers used → number < length slots →
    slot.owner ≡ (slot_at slots number).owner → length slot.cells ≡ PART_BLOCKS →
    (pair : Pair) → pair.part < PARTS → pair_number pair < length numbers → get_or numbers (pair_number pair) None ≡ Some number →
    (IsPool (set slots number slot) numbers used) ×
    (book_of (set slots number slot) numbers ≡ fin.insert (book_of slots numbers) pair (record { number = number; cells = slot.cells }))
refills-at slots numbers used number slot pool below owner wide pair part within has =
    let place : ℕ = pair_number pair in
    let same : set numbers place (Some number) ≡ numbers = ap (set numbers place) (sym has) ∙ set-get_or numbers place None in
    let apart = apart-own slots numbers used pool place number has in
    let book = book_of-fill slots numbers pair number slot part within below apart in
    let known : fin.get (book_of slots numbers) pair ≡ Some (record { number = number; cells = (slot_at slots number).cells }) =
    get-book_of slots numbers pair part within ∙ ap (fragment_at slots) has in
    let marks : mark slot ≡ mark (slot_at slots number) = ap mark_of owner in
    let p = IsPool-set slots numbers used used pool place number slot (Some number) apart within below
    (mates-own slots numbers used pool place number slot.owner has owner) wide
    (omega (arith, count-set slots number slot below, marks, pool.count))
    (sym (ap fin.len book ∙ fin.len-insert pair_cmp_total (book_of slots numbers) pair _ ∙ cond-true _ _ _ (ap is_some known) ∙ sym pool.total)) in
    (subst (λ ns. IsPool (set slots number slot) ns used) same p, ap (book_of (set slots number slot)) (sym same) ∙ book)

-- the number of the pair of a fragment in use
pub record IsPlace (numbers : List (Option ℕ)) (number : ℕ) : Type 0 where
  pub place : ℕ
  pub within : place < length numbers
  pub has : get_or numbers place None ≡ Some number

pub place-in_use : (slots : List Slot) (numbers : List (Option ℕ)) (used : ℕ) → IsPool slots numbers used → (number : ℕ) →
    ¬ (IsUnused (book_of slots numbers) number) → IsPlace numbers number
place-in_use slots numbers used pool number in_use =
    let o = owned-in_use slots numbers used pool number in_use in
    let place : ℕ = o.owner.file * PARTS + o.owner.part in
    let has = pool.known number o.owner o.is in
    record { place = place; within = in_list numbers place number has; has = has }

pub refills : (slots : List Slot) (numbers : List (Option ℕ)) (used number : ℕ) (slot : Slot) → IsPool slots numbers used →
    ¬ (IsUnused (book_of slots numbers) number) →
    slot.owner ≡ (slot_at slots number).owner → length slot.cells ≡ PART_BLOCKS → Refills slots numbers used number slot
refills slots numbers used number slot pool in_use owner wide =
    let p = place-in_use slots numbers used pool number in_use in
    let below : number < length slots = omega (arith, in_use-within slots numbers used pool number in_use, pool.places) in
    let at = λ (place : ℕ) (within : place < length numbers) (has : get_or numbers place None ≡ Some number).
    refills-at slots numbers used number slot pool below owner wide (pair_of place) (omega arith) (omega (arith, pair_number-pair_of place))
    (ap (λ k. get_or numbers k None) (pair_number-pair_of place) ∙ has) in
    record {
      pool = (at p.place p.within p.has).0;
      book = λ pair its found same.
          let f = fragment_of-get slots numbers pair its found in
          (at f.place f.within (f.number ∙ ap Some same)).1
          ∙ ap (λ k. fin.insert (book_of slots numbers) k (record { number = number; cells = slot.cells })) (sym f.pair_is);
    }

-- a fragment in use is taken from its pair
pub record Drops (slots : List Slot) (numbers : List (Option ℕ)) (used number place : ℕ) (slot : Slot) : Type 0 where
  pub some : 0 < used
  pub pool : IsPool (set slots number slot) (set numbers place None) (used - 1)
  pub book : (pair : Pair) → HasNumber (book_of slots numbers) pair number →
      book_of (set slots number slot) (set numbers place None) ≡ fin.remove (book_of slots numbers) pair

pub drops : (slots : List Slot) (numbers : List (Option ℕ)) (used number : ℕ) (slot : Slot) (w : Owner) → IsPool slots numbers used →
    (slot_at slots number).owner ≡ Some w → slot.owner ≡ None → length slot.cells ≡ PART_BLOCKS →
    Drops slots numbers used number (w.file * PARTS + w.part) slot
drops slots numbers used number slot w pool is none wide =
    let place : ℕ = w.file * PARTS + w.part in
    let has = pool.known number w is in
    let within : place < length numbers = in_list numbers place number has in
    let below : number < length slots = omega (arith, pool.owned place number has, pool.places) in
    let apart = apart-own slots numbers used pool place number has in
    let mine : pair_number (pair_of place) ≡ place = pair_number-pair_of place in
    let apart_mine : AreApart slots numbers (pair_number (pair_of place)) number = subst (λ k. AreApart slots numbers k number) (sym mine) apart in
    let book_mine = book_of-drop slots numbers (pair_of place) number slot (omega arith) (omega arith) apart_mine in
    let book : book_of (set slots number slot) (set numbers place None) ≡ fin.remove (book_of slots numbers) (pair_of place) =
    ap (λ k. book_of (set slots number slot) (set numbers k None)) (sym mine) ∙ book_mine in
    let known : fin.get (book_of slots numbers) (pair_of place) ≡ Some (record { number = number; cells = (slot_at slots number).cells }) =
    get-book_of slots numbers (pair_of place) (omega arith) (omega arith)
    ∙ ap (λ k. fragment_at slots (get_or numbers k None)) mine ∙ ap (fragment_at slots) has in
    let some : 0 < used = omega (arith, count-one slots number w below is, pool.count) in
    let owned : mark (slot_at slots number) ≡ 1 = cond-true _ _ _ (ap (λ (o : Option Owner). is_some o) is) in
    let free : mark slot ≡ 0 = ap mark_of none in
    let fewer : fin.len (fin.remove (book_of slots numbers) (pair_of place)) ≡ fin.len (book_of slots numbers) - 1 =
    fin.len-remove pair_cmp_total (book_of slots numbers) (pair_of place) ∙ cond-true _ _ _ (ap is_some known) in
    record {
      some = some;
      pool = IsPool-set slots numbers used (used - 1) pool place number slot None apart within below
          (record { by_number = λ n e. absurd (none-some n e); by_owner = λ o e. absurd (none-some o (sym none ∙ e)) }) wide
          (omega (arith, count-set slots number slot below, owned, free, pool.count))
          (ap (λ k. k - 1) pool.total ∙ sym fewer ∙ sym (ap fin.len book));
      book = λ pair its.
          let owners = sym is ∙ owner-HasNumber slots numbers used pool pair number its in
          let o : w ≡ record { file = pair.file; part = pair.part } = same_Some _ _ owners in
          let f = fragment-HasNumber (book_of slots numbers) pair number its in
          let g = fragment_of-get slots numbers pair f.fragment f.found in
          let there : pair_number pair ≡ place = ap (λ (x : Owner). x.file * PARTS + x.part) (sym o) in
          let same : pair_of place ≡ pair =
          ap pair_of (sym there) ∙ ap (λ (x : Pair). pair_of (pair_number x)) g.pair_is ∙ ap pair_of (pair_number-pair_of g.place) ∙ sym g.pair_is in
          book ∙ ap (fin.remove (book_of slots numbers)) same;
    }

-- a pair gets a place that nobody owns
pub record Fills (slots : List Slot) (numbers : List (Option ℕ)) (used number : ℕ) (pair : Pair) (slot : Slot) : Type 0 where
  pub not_full : ¬ (fin.len (book_of slots numbers) ≡ FRAGMENTS)
  pub few : used < FRAGMENTS
  pub pool : IsPool (set slots number slot) (set numbers (pair_number pair) (Some number)) (used + 1)
  pub book : book_of (set slots number slot) (set numbers (pair_number pair) (Some number)) ≡ fin.insert (book_of slots numbers) pair
      (record { number = number; cells = slot.cells })
  pub lowest : IsLowestUnused (book_of slots numbers) number

number-none : (slots : List Slot) (n : Option ℕ) → fragment_at slots n ≡ None → n ≡ None
number-none slots None e = refl
number-none slots (Some n) e = absurd (none-some _ (sym e))

owned-some : (slot : Slot) → is_owned slot ≡ true → ¬ (slot.owner ≡ None)
owned-some slot owned none = true≢false (sym owned ∙ ap (λ (o : Option Owner). is_some o) none)

pub fills : (slots : List Slot) (numbers : List (Option ℕ)) (used number : ℕ) (pair : Pair) (slot : Slot) → IsPool slots numbers used →
    pair.part < PARTS → pair_number pair < FILES * PARTS → fin.get (book_of slots numbers) pair ≡ None →
    number < length slots → is_owned (slot_at slots number) ≡ false → ((k : ℕ) → k < number → is_owned (slot_at slots k) ≡ true) →
    slot.owner ≡ Some (record { file = pair.file; part = pair.part }) → length slot.cells ≡ PART_BLOCKS → Fills slots numbers used number pair slot
fills slots numbers used number pair slot pool part within_pairs new below free first owner wide =
    let place : ℕ = pair_number pair in
    let within : place < length numbers = omega (arith, pool.pairs) in
    let none : get_or numbers place None ≡ None = number-none slots _ (sym (get-book_of slots numbers pair part within) ∙ new) in
    let nobody : (slot_at slots number).owner ≡ None = owner_none (slot_at slots number) free in
    let apart = apart-new slots numbers used pool place number none nobody in
    let book = book_of-fill slots numbers pair number slot part within below apart in
    let zero_mark : mark (slot_at slots number) ≡ 0 = ap mark_of nobody in
    let one_mark : mark slot ≡ 1 = ap mark_of owner in
    let more = count-set slots number slot below in
    let most : count_by is_owned (set slots number slot) ≤ length (set slots number slot) = count_by-le-length is_owned (set slots number slot) in
    let few : used < FRAGMENTS = omega (arith, more, most, zero_mark, one_mark, pool.count, pool.places, length-set {A = Slot} slots number slot) in
    let pair_same : pair_of place ≡ pair = pair_of-pair_number pair part in
    record {
      not_full = λ full. absurd (omega (arith, few, full, pool.total));
      few = few;
      pool = IsPool-set slots numbers used (used + 1) pool place number slot (Some number) apart within below
          (record {
            by_number = λ n e. (sym (same_Some _ _ e), owner ∙ ap (λ (p : Pair). Some (record { file = p.file; part = p.part })) (sym pair_same));
            by_owner = λ w e. (sym (ap (λ (x : Owner). x.file * PARTS + x.part) (same_Some _ _ (sym owner ∙ e))), refl);
          }) wide
          (omega (arith, more, zero_mark, one_mark, pool.count))
          (ap (λ k. k + 1) pool.total
          ∙ sym (ap fin.len book ∙ fin.len-insert pair_cmp_total (book_of slots numbers) pair _
          ∙ ap (λ (f : Option Fragment). cond (is_some f) (fin.len (book_of slots numbers)) (fin.len (book_of slots numbers) + 1)) new));
      book = book;
      lowest = record {
        below = omega (arith, pool.places);
        unused = unused-none slots numbers used pool number nobody;
        lowest = λ lower less unused.
            let o = owned_by slots lower _ refl (owned-some (slot_at slots lower) (first lower less)) in
            used-some slots numbers used pool lower o.owner o.is unused;
      };
    }

pub full-all : (slots : List Slot) (numbers : List (Option ℕ)) (used : ℕ) → IsPool slots numbers used →
    ((n : ℕ) → n < length slots → is_owned (slot_at slots n) ≡ true) → fin.len (book_of slots numbers) ≡ FRAGMENTS
full-all slots numbers used pool all = sym pool.total ∙ pool.count ∙ count-all slots all ∙ pool.places
