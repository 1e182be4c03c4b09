-- The directory and the passes of plain tables, through the turns of engines.
use Rattle.std.proofs.Common.{◌≡◌, ℕ, ◌+◌, ◌-◌, ◌<◌, ◌≤◌, true, false, cond, Option, None, Some, length, refl, sym, ap, ◌∙◌, subst, inl, inr, arith, set}
use Rattle.std.specs.Ordering.{is_eq}
use Rattle.std.specs.Cmp.{tied_itself}
use Rattle.std.proofs.lemmas.Bool.{cases_Bool, cases_eq, true≢false}
use Rattle.std.proofs.lemmas.List.{get_or-set_other, get_or-set_same, length-map, length-set}
use Rattle.std.proofs.lemmas.List.Sums.{count_by-le-length, sum_by-set}
use Rattle.bd_base.specs.declared.key.Key.{Key}
use Rattle.bd_base.specs.declared.key_list.TheConstants.{MOST_KEYS}
use Rattle.bd_base.specs.declared.limits.TheConstants.{PROCESSES}
use Rattle.bd_base.specs.Keys.{key_cmp_total, key_of, same_key, same_key-is}
use Rattle.bd_directory.specs.declared.directory.Entry.{Entry}
use Rattle.bd_directory.specs.Entries.{EntryList, entry_at, risen, with_count}
use Rattle.bd_file_table.specs.Fragments.{Book}
use Rattle.bd_tables.specs.declared.request.Request.{Request}
use Rattle.bd_tables.specs.declared.state.Walk.{Walk}
use Rattle.bd_tables.specs.declared.state.Walk.TheVariants.{Idle}
use Rattle.bd_tables.specs.Kept.{AreMirrored, AreOwn, IsMirrored, IsOwnOf}
use Rattle.bd_tables.specs.Plain.{Places, place_at, walk_of, walks_of}
use Rattle.bd_tables.specs.Sound.{IsKey}
use Rattle.bd_tables.specs.State.{Rights, engines_in, is_in, is_under, request_of, walk_at}
use Rattle.bd_tables.proofs.Kept.{mirror-at, mirror-set}
use Rattle.bd_tables.proofs.Places.{place-within, walk_at-places, walks_of-set}
use Rattle.bd_tables.proofs.Users.{mark, mark-false, mark-true}

-- ---- how many engines are in a key

engines-moved : (places : Places) (process : ℕ) (old new : Walk) → place_at places process ≡ Some old → (key : Key) →
    engines_in (walks_of (set places process (Some new))) key + mark (is_in key old) ≡ engines_in (walks_of places) key + mark (is_in key new)
unfolding mark
engines-moved places process old new at key =
    let walks = walks_of places in
    let within : process < length walks = omega (arith, place-within places process old at, length-map places walk_of) in
    let there : walk_at walks process ≡ old = walk_at-places places process ∙ ap walk_of at in
    ap (λ ws. engines_in ws key + mark (is_in key old)) (walks_of-set places process (Some new))
    ∙ ap (λ (w : Walk). engines_in (set walks process new) key + mark (is_in key w)) (sym there)
    ∙ sum_by-set (λ (w : Walk). cond (is_in key w) 1 0) walks process new Idle within

engines-few : (places : Places) (key : Key) → engines_in (walks_of places) key ≤ length places
engines-few places key = omega (arith, count_by-le-length (is_in key) (walks_of places), length-map places walk_of)

in_own : (key : Key) (walk : Walk) (request : Request) → request_of walk ≡ Some request → request.key ≡ key → is_in key walk ≡ true
in_own key walk request is own =
    ap (is_under key) is ∙ ap (λ k. same_key k key) own ∙ ap is_eq (tied_itself key_cmp_total key)

in_other : (key q : Key) (walk : Walk) (request : Request) → request_of walk ≡ Some request → request.key ≡ key → same_key q key ≡ false →
    is_in q walk ≡ false
in_other key q walk request is own other =
    ap (is_under q) is ∙ ap (λ k. same_key k q) own
    ∙ elim (cases_Bool (same_key key q)) [
      | inl also ↦
          let same : key ≡ q = same_key-is key q also in
          absurd (true≢false (sym (ap (λ k. same_key k key) (sym same) ∙ ap is_eq (tied_itself key_cmp_total key)) ∙ other))
      | inr differs ↦ differs
    ]

-- a count as before
counted : (rights : Rights) (book : Book) (places after : Places) (key : Key) (entry : Entry) →
    engines_in (walks_of after) key ≡ engines_in (walks_of places) key → IsMirrored rights book places key entry → IsMirrored rights book after key entry
counted rights book places after key entry same old = record { grant = old.grant; count = old.count ∙ sym same }

module _ (rights : Rights) (book : Book) (places : Places) (directory : EntryList) (long : length directory ≡ MOST_KEYS) (few : length places ≤ PROCESSES)
    (mirrored : AreMirrored rights book places directory) (process : ℕ) where
  -- an engine enters a key
  pub mirrored-enter : place_at places process ≡ Some Idle → (key : Key) → IsKey key → (request : Request) → request.key ≡ key → (walk : Walk) →
      request_of walk ≡ Some request →
      AreMirrored rights book (set places process (Some walk)) (with_count directory key (risen (entry_at directory key).count))
  mirrored-enter at key is_key request own walk is =
      let after = set places process (Some walk) in
      let old = mirror-at rights book places directory mirrored key is_key in
      mirror-set rights book places rights book after directory long mirrored key is_key _
      (record {
        grant = old.grant;
        count =
            let one = mark-true _ (in_own key walk request is own) in
            let none = mark-false (is_in key Idle) refl in
            let rest = engines-moved places process Idle walk at key in
            omega (arith, one, none, rest, old.count, engines-few places key, few);
      })
      (λ q e other same.
      let none = mark-false (is_in q Idle) refl in
      let also = mark-false _ (in_other key q walk request is own other) in
      counted rights book places after q e (omega (arith, engines-moved places process Idle walk at q, none, also)) same)

  -- an engine in a key leaves it
  pub left-some : (walk : Walk) → place_at places process ≡ Some walk → (key : Key) → IsKey key → (request : Request) → request.key ≡ key →
      request_of walk ≡ Some request → 0 < (entry_at directory key).count
  left-some walk at key is_key request own is =
      let old = mirror-at rights book places directory mirrored key is_key in
      let one = mark-true _ (in_own key walk request is own) in
      let none = mark-false (is_in key Idle) refl in
      omega (arith, engines-moved places process walk Idle at key, one, none, old.count)

  pub mirrored-retire : (walk : Walk) → place_at places process ≡ Some walk → (key : Key) → IsKey key → (request : Request) →
      request.key ≡ key →
      request_of walk ≡ Some request →
      AreMirrored rights book (set places process (Some Idle)) (with_count directory key ((entry_at directory key).count - 1))
  mirrored-retire walk at key is_key request own is =
      let after = set places process (Some Idle) in
      let old = mirror-at rights book places directory mirrored key is_key in
      mirror-set rights book places rights book after directory long mirrored key is_key _
      (record {
        grant = old.grant;
        count =
            let one = mark-true _ (in_own key walk request is own) in
            let none = mark-false (is_in key Idle) refl in
            omega (arith, engines-moved places process walk Idle at key, one, none, old.count);
      })
      (λ q e other same.
      let none = mark-false (is_in q Idle) refl in
      let also = mark-false _ (in_other key q walk request is own other) in
      counted rights book places after q e (omega (arith, engines-moved places process walk Idle at q, none, also)) same)

  -- an engine stays in its key
  pub mirrored-stay : (old new : Walk) → place_at places process ≡ Some old → request_of new ≡ request_of old →
      AreMirrored rights book (set places process (Some new)) directory
  mirrored-stay old new at same =
      λ n below.
      let here = ap (λ r. mark (is_under (key_of n) r)) same in
      counted rights book places (set places process (Some new)) (key_of n) _ (omega (arith, engines-moved places process old new at (key_of n), here))
      (mirrored n below)

-- ---- engines are in keys of their own processes

pub own-set : (places : Places) → AreOwn places → (process : ℕ) → process < length places → (place : Option Walk) →
    ((request : Request) → request_of (walk_of place) ≡ Some request → IsOwnOf process request) → AreOwn (set places process place)
own-set places is process within place new = record {
  few = omega (arith, is.few, length-set places process place);
  own = λ q request at.
      let there = sym (walk_at-places (set places process place) q) in
      elim (cases_eq q process) [
        | inl same ↦
            let here : place_at (set places process place) q ≡ place =
            ap (place_at (set places process place)) same ∙ get_or-set_same places process place None within in
            subst (λ p. IsOwnOf p request) (sym same)
            (new request (ap (λ p. request_of (walk_of p)) (sym here) ∙ ap request_of there ∙ at))
        | inr differs ↦
            let here : place_at (set places process place) q ≡ place_at places q = get_or-set_other places process q place None differs in
            is.own q request (ap request_of (walk_at-places places q) ∙ ap (λ p. request_of (walk_of p)) (sym here) ∙ ap request_of there ∙ at)
      ];
}
