-- The directory and the book of plain tables, through revocations and changes of entries.
use Rattle.std.proofs.Common.{◌≡◌, ℕ, ◌<◌, Bool, true, false, not, cond, nat_eq, Option, None, Some, length, is_some, refl, sym, ap, ◌∙◌, inl, inr, arith, get_or}
use Rattle.std.specs.FinMap as fin
use Rattle.std.specs.Option.{option_map}
use Rattle.std.specs.Ordering.{is_eq}
use Rattle.std.specs.Cmp.{tied_itself}
use Rattle.std.proofs.lemmas.Bool.{cases_Bool, cond-true, eqb-true, true≢false}
use Rattle.bd_base.specs.declared.key.Key.{Key}
use Rattle.bd_base.specs.declared.key_list.TheConstants.{MOST_KEYS}
use Rattle.bd_base.specs.Keys.{Pair, key_cmp_total, key_of, pair_cmp_total, same_key, same_key-is, same_pair, same_pair-is}
use Rattle.bd_directory.specs.Entries.{EntryList, blank, entry_at, with_entry}
use Rattle.bd_file_table.specs.Fragments.{Book, Cells, number_of}
use Rattle.bd_tables.specs.declared.state.Right.{Right}
use Rattle.bd_tables.specs.declared.state.RightState.{RightState}
use Rattle.bd_tables.specs.declared.state.RightState.TheVariants.{On, Cleared, Drained}
use Rattle.bd_tables.specs.Effects.{change, drop_unused, none_swept, sweep_state}
use Rattle.bd_tables.specs.Kept.{AreInUse, AreMirrored, fragment_of, grant_in, grant_of}
use Rattle.bd_tables.specs.Kernel.{IsAttachedIn, IsCleared, IsDrained, IsSweptWhole, with_cells}
use Rattle.bd_tables.specs.Plain.{Places}
use Rattle.bd_tables.specs.Sound.{IsKey}
use Rattle.bd_tables.specs.State.{Rights, pair_under, users}
use Rattle.bd_tables.proofs.Kept.{is_used, mirror-at, mirror-set, positive, same_fragment, shows}
use Rattle.bd_tables.proofs.Maps.{get-change, other_key-change, other_key-remove, same_key-change, same_key-remove}
use Rattle.bd_tables.proofs.Users.{mark, mark-false, mark-true, user-counts, users-changed, uses, uses-none, uses-other, uses-own, uses-same}

-- ---- a right in another state

-- the right with its state changed
abbrev pub to_states : (RightState → RightState) → Right → Right
to_states f right = record right { state = f right.state }

module _ (rights : Rights) (book : Book) (places : Places) (key : Key) (is_key : IsKey key) (f : RightState → RightState) where
  users-states : (pair : Pair) → users (change rights key (to_states f)) pair ≡ users rights pair
  users-states pair =
      let after : Rights = change rights key (to_states f) in
      let changed = users-changed rights after key is_key (λ q other. other_key-change key_cmp_total rights key (to_states f) q other) pair in
      let same : mark (uses pair key (fin.get after key)) ≡ mark (uses pair key (fin.get rights key)) =
      ap (λ r. mark (uses pair key r)) (same_key-change key_cmp_total rights key (to_states f))
      ∙ ap mark (uses-same pair key (to_states f) (λ r. refl) (fin.get rights key)) in
      omega (arith, changed, same)

  pub in_use-states : AreInUse rights book → AreInUse (change rights key (to_states f)) book
  in_use-states in_use pair = in_use pair ∙ ap (λ n. not (nat_eq n 0)) (sym (users-states pair))

  -- neither before nor after it shows in the directory
  pub mirrored-states : (directory : EntryList) →
      grant_of book key (option_map (to_states f) (fin.get rights key)) ≡ grant_of book key (fin.get rights key) →
      AreMirrored rights book places directory → AreMirrored (change rights key (to_states f)) book places directory
  mirrored-states directory same mirrored n below =
      let after : Rights = change rights key (to_states f) in
      shows rights after book book places (key_of n) (get_or directory n blank)
      (elim (cases_Bool (same_key (key_of n) key)) [
        | inl here ↦
            let k : key_of n ≡ key = same_key-is _ _ here in
            ap (λ q. grant_of book q (fin.get after q)) k ∙ ap (grant_of book key) (same_key-change key_cmp_total rights key (to_states f)) ∙ same
            ∙ sym (ap (λ q. grant_of book q (fin.get rights q)) k)
        | inr differs ↦ ap (grant_of book (key_of n)) (other_key-change key_cmp_total rights key (to_states f) (key_of n) differs)
      ])
      (mirrored n below)

  -- it does not show in the directory any more
  pub mirrored-dark : (directory : EntryList) → length directory ≡ MOST_KEYS →
      grant_of book key (option_map (to_states f) (fin.get rights key)) ≡ None → AreMirrored rights book places directory →
      AreMirrored (change rights key (to_states f)) book places (with_entry directory key (record (entry_at directory key) { grant = None }))
  mirrored-dark directory long dark mirrored =
      let after : Rights = change rights key (to_states f) in
      mirror-set rights book places after book places directory long mirrored key is_key _
      (record {
        grant = sym (ap (grant_of book key) (same_key-change key_cmp_total rights key (to_states f)) ∙ dark);
        count = (mirror-at rights book places directory mirrored key is_key).count;
      })
      (λ q e other old.
      shows rights after book book places q e (ap (grant_of book q) (other_key-change key_cmp_total rights key (to_states f) q other)) old)

pub cleared-dark : (book : Book) (key : Key) (right : Option Right) → grant_of book key (option_map (to_states (λ s. Cleared)) right) ≡ None
cleared-dark book key None = refl
cleared-dark book key (Some right) = refl

under_clear : (state : RightState) (fragment : Option ℕ) (write : Bool) → IsCleared state → grant_in state fragment write ≡ None
under_clear On fragment write is = absurd is
under_clear Cleared fragment write is = refl
under_clear (Drained swept) fragment write is = refl

pub drained-dark : (book : Book) (key : Key) (right : Option Right) → IsAttachedIn IsCleared right →
    grant_of book key (option_map (to_states (λ s. Drained none_swept)) right) ≡ grant_of book key right
drained-dark book key None is = absurd is
drained-dark book key (Some right) is = sym (under_clear right.state _ right.write is)

under_sweep : (c : ℕ) (state : RightState) (fragment : Option ℕ) (write : Bool) → IsDrained state →
    grant_in (sweep_state c state) fragment write ≡ grant_in state fragment write
under_sweep c On fragment write is = absurd is
under_sweep c Cleared fragment write is = absurd is
under_sweep c (Drained swept) fragment write is = refl

pub swept-dark : (c : ℕ) (book : Book) (key : Key) (right : Option Right) → IsAttachedIn IsDrained right →
    grant_of book key (option_map (to_states (sweep_state c)) right) ≡ grant_of book key right
swept-dark c book key None is = absurd is
swept-dark c book key (Some right) is = under_sweep c right.state _ right.write is

-- ---- a right that goes

dark_whole : (state : RightState) (fragment : Option ℕ) (write : Bool) → IsSweptWhole state → grant_in state fragment write ≡ None
dark_whole state fragment write is = ap (λ s. grant_in s fragment write) is

module _ (rights : Rights) (book : Book) (places : Places) (keys : (key : Key) (right : Right) → fin.get rights key ≡ Some right → IsKey key)
    (in_use : AreInUse rights book) (key : Key) (right : Right) (has : fin.get rights key ≡ Some right) where
  get-dropped : (pair : Pair) → (same_pair pair (pair_under key right) ≡ true → 0 < users (fin.remove rights key) pair) →
      fin.get (drop_unused (fin.remove rights key) (pair_under key right) book) pair ≡ fin.get book pair
  get-dropped pair used = go (nat_eq (users (fin.remove rights key) (pair_under key right)) 0) refl
    where
      go : (b : Bool) → nat_eq (users (fin.remove rights key) (pair_under key right)) 0 ≡ b →
          fin.get (cond b (fin.remove book (pair_under key right)) book) pair ≡ fin.get book pair
      go false some = refl
      go true none = elim (cases_Bool (same_pair pair (pair_under key right))) [
        | inl same ↦
            let zero_users : users (fin.remove rights key) (pair_under key right) ≡ 0 = eqb-true _ _ none in
            let there : users (fin.remove rights key) pair ≡ 0 = ap (users (fin.remove rights key)) (same_pair-is _ _ same) ∙ zero_users in
            absurd (omega (arith, used same, there))
        | inr differs ↦ other_key-remove pair_cmp_total book (pair_under key right) pair differs
      ]

  pub mirrored-detach : (directory : EntryList) → IsSweptWhole right.state → AreMirrored rights book places directory →
      AreMirrored (fin.remove rights key) (drop_unused (fin.remove rights key) (pair_under key right) book) places directory
  mirrored-detach directory whole mirrored n below =
      let after : Rights = fin.remove rights key in
      shows rights after book (drop_unused (fin.remove rights key) (pair_under key right) book) places (key_of n) (get_or directory n blank)
      (elim (cases_Bool (same_key (key_of n) key)) [
        | inl here ↦
            let k : key_of n ≡ key = same_key-is _ _ here in
            ap (λ q. grant_of (drop_unused (fin.remove rights key) (pair_under key right) book) q (fin.get after q)) k
            ∙ ap (grant_of (drop_unused (fin.remove rights key) (pair_under key right) book) key) (same_key-remove key_cmp_total rights key)
            ∙ sym (ap (λ q. grant_of book q (fin.get rights q)) k ∙ ap (grant_of book key) has ∙ dark_whole right.state _ right.write whole)
        | inr differs ↦
            let rest : fin.get after (key_of n) ≡ fin.get rights (key_of n) = other_key-remove key_cmp_total rights key (key_of n) differs in
            ap (grant_of (drop_unused (fin.remove rights key) (pair_under key right) book) (key_of n)) rest
            ∙ same_fragment book (drop_unused (fin.remove rights key) (pair_under key right) book) (key_of n) (fin.get rights (key_of n)) (λ r is.
            ap (option_map number_of)
            (get-dropped (pair_under (key_of n) r) (λ same. user-counts after (key_of n) r (rest ∙ is) (keys (key_of n) r is))))
      ])
      (mirrored n below)

  pub in_use-detach : AreInUse (fin.remove rights key) (drop_unused (fin.remove rights key) (pair_under key right) book)
  in_use-detach pair =
      let after : Rights = fin.remove rights key in
      let own : Pair = pair_under key right in
      let changed = users-changed rights after key (keys key right has) (λ q other. other_key-remove key_cmp_total rights key q other) pair in
      let now : mark (uses pair key (fin.get after key)) ≡ 0 =
      ap (λ r. mark (uses pair key r)) (same_key-remove key_cmp_total rights key) ∙ mark-false _ (uses-none pair key) in
      let was : mark (uses pair key (fin.get rights key)) ≡ mark (uses pair key (Some right)) = ap (λ r. mark (uses pair key r)) has in
      elim (cases_Bool (same_pair pair own)) as (λ _. fin.contains_key (drop_unused (fin.remove rights key) (pair_under key right) book) pair
      ≡ not (nat_eq (users after pair) 0)) [
        | inl same ↦
            let one : mark (uses pair key (Some right)) ≡ 1 = mark-true _ (ap (λ p. uses p key (Some right)) (same_pair-is _ _ same)
            ∙ uses-own key right) in
            own_pair pair same (omega (arith, changed, now, was, one)) _ refl
        | inr differs ↦
            let zero_mark : mark (uses pair key (Some right)) ≡ 0 = mark-false _ (uses-other pair key right (λ there.
            true≢false (sym (ap (same_pair pair) (sym there) ∙ ap is_eq (tied_itself pair_cmp_total pair)) ∙ differs))) in
            let same : users after pair ≡ users rights pair = omega (arith, changed, now, was, zero_mark) in
            ap is_some (get-dropped pair (λ also. absurd (true≢false (sym also ∙ differs)))) ∙ in_use pair ∙ ap (λ n. not (nat_eq n 0)) (sym same)
      ]
    where
      own_pair : (pair : Pair) → same_pair pair (pair_under key right) ≡ true → 0 < users rights pair → (b : Bool) →
          nat_eq (users (fin.remove rights key) pair) 0 ≡ b →
          fin.contains_key (drop_unused (fin.remove rights key) (pair_under key right) book) pair ≡ not b
      own_pair pair same some true none =
          let gone : nat_eq (users (fin.remove rights key) (pair_under key right)) 0 ≡ true =
          ap (λ p. nat_eq (users (fin.remove rights key) p) 0) (sym (same_pair-is _ _ same)) ∙ none in
          ap is_some (ap (λ (m : Book). fin.get m pair) (cond-true _ (fin.remove book (pair_under key right)) book gone)
          ∙ ap (fin.get (fin.remove book (pair_under key right))) (same_pair-is _ _ same) ∙ same_key-remove pair_cmp_total book (pair_under key right))
      own_pair pair same some false used =
          ap is_some (get-dropped pair (λ also. positive _ used)) ∙ in_use pair ∙ is_used (users rights pair) some

-- ---- an entry that is filled or raised

module _ (rights : Rights) (book : Book) (places : Places) (pair : Pair) (f : Cells → Cells) where
  fragment_of-change : (q : Pair) → fragment_of (change book pair (with_cells f)) q ≡ fragment_of book q
  fragment_of-change q =
      get-change pair_cmp_total book pair (with_cells f) q (λ v. option_map number_of v ≡ fragment_of book q)
      (λ other. refl)
      (λ fragment is same. sym (ap (λ p. fragment_of book p) (same_pair-is q pair same) ∙ ap (option_map number_of) is))
      (λ none. refl)

  pub in_use-change : AreInUse rights book → AreInUse rights (change book pair (with_cells f))
  in_use-change in_use q =
      get-change pair_cmp_total book pair (with_cells f) q (λ v. is_some v ≡ not (nat_eq (users rights q) 0))
      (λ other. in_use q)
      (λ fragment is same. sym (ap (λ p. fin.contains_key book p) (same_pair-is q pair same) ∙ ap is_some is) ∙ in_use q)
      (λ none. in_use q)

  pub mirrored-change : (directory : EntryList) → AreMirrored rights book places directory →
      AreMirrored rights (change book pair (with_cells f)) places directory
  mirrored-change directory mirrored n below =
      shows rights rights book (change book pair (with_cells f)) places (key_of n) (get_or directory n blank)
      (same_fragment book (change book pair (with_cells f)) (key_of n) (fin.get rights (key_of n)) (λ r is. fragment_of-change (pair_under (key_of n) r)))
      (mirrored n below)
