-- The directory and the book of plain tables, through the changes of rights, fragments and passes.
use Rattle.std.proofs.Common.{◌≡◌, ℕ, zero, suc, ◌<◌, ◌≤◌, Bool, true, false, not, nat_eq, Option, None, Some, List, length, is_some, refl, sym, ap, ◌∙◌, subst, inl, inr, arith, get_or}
use Rattle.std.specs.FinMap as fin
use Rattle.std.specs.Option.{option_map}
use Rattle.std.specs.Ordering.{is_eq}
use Rattle.std.specs.Cmp.{tied_itself}
use Rattle.std.proofs.lemmas.Bool.{cases_Bool, cases_eq, false≢true, ne_eqb, true≢false}
use Rattle.std.proofs.lemmas.List.{get_or-set_other, get_or-set_same}
use Rattle.std.proofs.lemmas.Option.{none-some}
use Rattle.bd_base.specs.declared.key.Cell.{Cell}
use Rattle.bd_base.specs.declared.key.Key.{Key}
use Rattle.bd_base.specs.declared.key_list.TheConstants.{MOST_KEYS}
use Rattle.bd_base.specs.declared.limits.TheConstants.{PARTS}
use Rattle.bd_base.specs.Keys.{Pair, key_cmp_total, key_number, key_number-key_of, key_of, key_of-key_number, pair_cmp_total, same_key, same_key-is, same_pair, same_pair-is}
use Rattle.bd_directory.specs.declared.directory.Entry.{Entry}
use Rattle.bd_directory.specs.Entries.{EntryList, blank, entry_at, with_entry}
use Rattle.bd_file_table.specs.Fragments.{Book, Fragment, number_of}
use Rattle.bd_tables.specs.declared.state.Right.{Right}
use Rattle.bd_tables.specs.Effects.{new_right}
use Rattle.bd_tables.specs.Kept.{AreInUse, AreMirrored, IsMirrored, fragment_of, grant_in, grant_of}
use Rattle.bd_tables.specs.Kernel.{SharesOrBuilds}
use Rattle.bd_tables.specs.Plain.{Places}
use Rattle.bd_tables.specs.Sound.{IsKey}
use Rattle.bd_tables.specs.State.{Rights, pair_for, pair_under, users}
use Rattle.bd_tables.proofs.Maps.{other_key, same_key-insert}
use Rattle.bd_tables.proofs.Users.{mark, mark-false, some_user, user-counts, users-changed, uses, uses-none, uses-other}

-- ---- keys and their entries

number-within : (key : Key) → IsKey key → key_number key < MOST_KEYS
number-within key is = omega (arith, is.process, is.fd, is.part)

pub mirror-at : (rights : Rights) (book : Book) (places : Places) (directory : EntryList) → AreMirrored rights book places directory → (key : Key) →
    IsKey key →
    IsMirrored rights book places key (entry_at directory key)
mirror-at rights book places directory mirrored key is =
    subst (λ k. IsMirrored rights book places k (entry_at directory key)) (key_of-key_number key is.fd is.part)
    (mirrored (key_number key) (number-within key is))

-- one entry is changed
pub mirror-set : (rights : Rights) (book : Book) (places : Places) (after_rights : Rights) (after_book : Book) (after_places : Places)
    (directory : EntryList) →
    length directory ≡ MOST_KEYS → AreMirrored rights book places directory → (key : Key) → IsKey key → (entry : Entry) →
    IsMirrored after_rights after_book after_places key entry →
    ((q : Key) (e : Entry) → same_key q key ≡ false → IsMirrored rights book places q e → IsMirrored after_rights after_book after_places q e) →
    AreMirrored after_rights after_book after_places (with_entry directory key entry)
mirror-set rights book places r b p directory long mirrored key is entry new rest =
    λ n below.
    let after = with_entry directory key entry in
    elim (cases_eq n (key_number key)) as (λ _. IsMirrored r b p (key_of n) (get_or after n blank)) [
      | inl same ↦
          let here : get_or after n blank ≡ entry =
          ap (λ m. get_or after m blank) same
          ∙ get_or-set_same directory (key_number key) entry blank (omega (arith, long, number-within key is)) in
          let k : key_of n ≡ key = ap key_of same ∙ key_of-key_number key is.fd is.part in
          subst (λ (e : Entry). IsMirrored r b p (key_of n) e) (sym here) (subst (λ q. IsMirrored r b p q entry) (sym k) new)
      | inr differs ↦
          let there : get_or after n blank ≡ get_or directory n blank = get_or-set_other directory (key_number key) n entry blank differs in
          let apart : same_key (key_of n) key ≡ false = elim (cases_Bool (same_key (key_of n) key)) [
            | inl also ↦ absurd (differs (sym (key_number-key_of n) ∙ ap key_number (same_key-is _ _ also)))
            | inr other ↦ other
          ] in
          subst (λ (e : Entry). IsMirrored r b p (key_of n) e) (sym there) (rest (key_of n) _ apart (mirrored n below))
    ]

-- ---- what a right shows

pub same_fragment : (old new : Book) (key : Key) (right : Option Right) →
    ((r : Right) → right ≡ Some r → fragment_of new (pair_under key r) ≡ fragment_of old (pair_under key r)) →
    grant_of new key right ≡ grant_of old key right
same_fragment old new key None same = refl
same_fragment old new key (Some r) same = ap (λ f. grant_in r.state f r.write) (same r refl)

-- an entry that shows a right as before
pub shows : (rights after_rights : Rights) (book after_book : Book) (places : Places) (key : Key) (entry : Entry) →
    grant_of after_book key (fin.get after_rights key) ≡ grant_of book key (fin.get rights key) → IsMirrored rights book places key entry →
    IsMirrored after_rights after_book places key entry
shows rights after_rights book after_book places key entry same old = record { grant = old.grant ∙ sym same; count = old.count }

pub is_used : (n : ℕ) → 0 < n → not (nat_eq n 0) ≡ true
is_used n some = ap not (ne_eqb n 0 (λ none. omega arith))

pub used-contains : (rights : Rights) (book : Book) → AreInUse rights book → (q : Key) (r : Right) → fin.get rights q ≡ Some r → IsKey q →
    fin.contains_key book (pair_under q r) ≡ true
used-contains rights book in_use q r has is =
    in_use (pair_under q r) ∙ is_used (users rights (pair_under q r)) (user-counts rights q r has is)

-- the fragment of an attached right
pub record HasShared (book : Book) (pair : Pair) : Type 0 where
  pub fragment : Fragment
  pub is : fin.get book pair ≡ Some fragment

pub has_shared : (book : Book) (pair : Pair) (v : Option Fragment) → fin.get book pair ≡ v → is_some v ≡ true → HasShared book pair
has_shared book pair None is some = absurd (false≢true some)
has_shared book pair (Some fragment) is some = record { fragment = fragment; is = is }

pub shared_by : (rights : Rights) (book : Book) → AreInUse rights book → (q : Key) (r : Right) → fin.get rights q ≡ Some r → IsKey q →
    HasShared book (pair_under q r)
shared_by rights book in_use q r has is = has_shared book (pair_under q r) _ refl (used-contains rights book in_use q r has is)

pub positive : (n : ℕ) → nat_eq n 0 ≡ false → 0 < n
positive zero some = absurd (true≢false some)
positive (suc n) some = omega arith

-- a part that no file has is not in use
pub no_part : (rights : Rights) (book : Book) → AreInUse rights book → ((key : Key) (right : Right) → fin.get rights key ≡ Some right → IsKey key) →
    (pair : Pair) → PARTS ≤ pair.part → fin.get book pair ≡ None
no_part rights book in_use keys pair past = none_of (fin.get book pair) refl
  where
    none_of : (v : Option Fragment) → fin.get book pair ≡ v → v ≡ None
    none_of None is = refl
    none_of (Some fragment) is =
        let here : is_some (fin.get book pair) ≡ true = ap is_some is in
        let used : not (nat_eq (users rights pair) 0) ≡ true = sym (in_use pair) ∙ here in
        elim (cases_Bool (nat_eq (users rights pair) 0)) [
          | inl none ↦ absurd (false≢true (sym (ap not none) ∙ used))
          | inr some ↦
              let user = some_user rights pair (positive (users rights pair) some) in
              let key = keys user.key user.right user.has in
              absurd (omega (arith, key.part, user.part, past))
        ]

-- ---- an attached right

some_number : (v : Option Fragment) (n : ℕ) → option_map number_of v ≡ Some n → is_some v ≡ true
some_number None n is = absurd (none-some n is)
some_number (Some fragment) n is = refl

shared-other : (old : Book) (pair : Pair) (cells : List Cell) (new : Book) → SharesOrBuilds old pair cells new → (q : Pair) →
    same_pair q pair ≡ false →
    fin.get new q ≡ fin.get old q
shared-other old pair cells new step q other = go (fin.get old pair) refl
  where
    go : (v : Option Fragment) → fin.get old pair ≡ v → fin.get new q ≡ fin.get old q
    go None is = let built = step.builds is in ap (λ book. fin.get book q) built.built ∙ other_key pair_cmp_total old pair _ q other
    go (Some fragment) is = ap (λ (book : Book). fin.get book q) (step.shares fragment is)

shared-fragment : (old : Book) (pair : Pair) (cells : List Cell) (new : Book) → SharesOrBuilds old pair cells new → (q : Pair) →
    fin.contains_key old q ≡ true → fragment_of new q ≡ fragment_of old q
shared-fragment old pair cells new step q has = elim (cases_Bool (same_pair q pair)) [
  | inl same ↦
      let h = has_shared old q _ refl has in
      let there : fin.get old pair ≡ Some h.fragment = ap (fin.get old) (sym (same_pair-is q pair same)) ∙ h.is in
      ap (λ (book : Book). fragment_of book q) (step.shares h.fragment there)
  | inr differs ↦ ap (option_map number_of) (shared-other old pair cells new step q differs)
]

module _ (rights : Rights) (book : Book) (places : Places) (directory : EntryList) (keys : (key : Key) (right : Right) →
    fin.get rights key ≡ Some right → IsKey key)
    (in_use : AreInUse rights book) where
  module _ (key : Key) (is_key : IsKey key) (file : ℕ) (write : Bool) (none : fin.get rights key ≡ None) (cells : List Cell) (new : Book)
      (step : SharesOrBuilds book (pair_for file key) cells new) (fragment : ℕ) (number : fragment_of new (pair_for file key) ≡ Some fragment) where
    pub mirrored-attach : length directory ≡ MOST_KEYS → AreMirrored rights book places directory →
        AreMirrored (fin.insert rights key (new_right file write)) new places
        (with_entry directory key (record (entry_at directory key) { grant = Some (record { fragment = fragment; write = write }) }))
    mirrored-attach long mirrored =
        let after : Rights = fin.insert rights key (new_right file write) in
        mirror-set rights book places after new places directory long mirrored key is_key _
        (record {
          grant = sym (ap (grant_of new key) (same_key-insert key_cmp_total rights key (new_right file write))
              ∙ ap (option_map (λ (n : ℕ). record { fragment = n; write = write })) number);
          count = (mirror-at rights book places directory mirrored key is_key).count;
        })
        (λ q e other old.
        let rest : fin.get after q ≡ fin.get rights q = other_key key_cmp_total rights key (new_right file write) q other in
        shows rights after book new places q e
        (ap (grant_of new q) rest
        ∙ same_fragment book new q (fin.get rights q)
        (λ r has. shared-fragment book (pair_for file key) cells new step (pair_under q r) (used-contains rights book in_use q r has (keys q r has))))
        old)

    pub in_use-attach : AreInUse (fin.insert rights key (new_right file write)) new
    in_use-attach pair =
        let after : Rights = fin.insert rights key (new_right file write) in
        let own : fin.get after key ≡ Some (new_right file write) = same_key-insert key_cmp_total rights key (new_right file write) in
        elim (cases_Bool (same_pair pair (pair_for file key))) as (λ _. fin.contains_key new pair ≡ not (nat_eq (users after pair) 0)) [
          | inl same ↦
              let there : fin.contains_key new (pair_for file key) ≡ true = some_number _ fragment number in
              let some : not (nat_eq (users after (pair_for file key)) 0) ≡ true =
              is_used (users after (pair_for file key)) (user-counts after key (new_right file write) own is_key) in
              subst (λ p. fin.contains_key new p ≡ not (nat_eq (users after p) 0)) (sym (same_pair-is _ _ same)) (there ∙ sym some)
          | inr differs ↦
              let change = users-changed rights after key is_key (λ q other. other_key key_cmp_total rights key (new_right file write) q other) pair in
              let was : mark (uses pair key (fin.get rights key)) ≡ 0 = ap (λ r. mark (uses pair key r)) none ∙ mark-false _ (uses-none pair key) in
              let now : mark (uses pair key (fin.get after key)) ≡ 0 =
              ap (λ r. mark (uses pair key r)) own
              ∙ mark-false _ (uses-other pair key (new_right file write) (λ there.
              true≢false (sym (ap (same_pair pair) (sym there) ∙ ap is_eq (tied_itself pair_cmp_total pair)) ∙ differs))) in
              let same : users after pair ≡ users rights pair = omega (arith, change, was, now) in
              ap is_some (shared-other book (pair_for file key) cells new step pair differs) ∙ in_use pair
              ∙ ap (λ n. not (nat_eq n 0)) (sym same)
        ]
