-- How rights and descriptors change together: by an attach, a clear, a detach, an open and a close.
use Rattle.std.proofs.Common.{◌≡◌, ◌≢◌, inl, inr, ℕ, Bool, true, false, List, [], ◌∷◌, ◌++◌, Option, None, Some, refl, sym, ap, ◌∙◌, subst, ⊎_elim}
use Rattle.std.specs.Option.{option_map}
use Rattle.std.specs.FinMap as fin
use Rattle.std.proofs.lemmas.Bool.{both_ways, cases_eq}
use Rattle.bd_base.specs.declared.key.Key.{Key}
use Rattle.bd_base.specs.Keys.{key_cmp_total, same_key-is}
use Rattle.bd_entry.specs.declared.entry.Entry.{Entry}
use Rattle.bd_entry.specs.declared.entry.Entry.TheVariants.{Access, Attached, Cleared, Closed, Detached, Opened, Sized}
use Rattle.bd_entry.specs.Calls.{Place, fd_of_call, is_ended_by}
use Rattle.bd_entry.specs.Effects as effects
use Rattle.bd_entry.specs.Effects.{after_call, after_change, after_telling, effect_of, tells_size, with_known_size, with_told_size}
use Rattle.bd_entry.specs.Store.{Descriptor, Store, descriptor_at, has_part, in_slot, slots_of, with_descriptor, with_slot}
use Rattle.bd_entry.proofs.DescriptorSteps.{access_opens, after_call-cases, after_telling-cases, sized_opens, slot-set_cases}
use Rattle.bd_tables.specs.declared.state.Right.{Right}
use Rattle.bd_tables.specs.declared.state.RightState.{RightState}
use Rattle.bd_tables.specs.declared.state.RightState.TheVariants as states
use Rattle.bd_tables.specs.Effects.{attach_right, change, new_right, with_state}
use Rattle.bd_tables.specs.State.{Rights}
use Rattle.bd_tables.proofs.Maps.{get-change, other_key, other_key-change, other_key-remove, same_key-change, same_key-insert, same_key-remove}
use Rattle.bd_turns.specs.Sound.{is_revoked}
use Rattle.bd_turns.specs.Turns.{may_write}
use Rattle.bd_turns.proofs.RightsFit.{AllFit, AreAlike, Fits, SlotAfter, here, apart, alike_changed, alike_itself, alike_then, fits_alike, is_that, joined_here, joined_other, key_at, left_here, left_other, other_than, slot_after}

-- ---- what is told and known

-- the sizes that a descriptor was told and knows are no part of a right
pub after_change-alike : (s : Store) (p : Place) (e : Entry) (part process fd : ℕ) →
    AreAlike part (descriptor_at (after_change s e) process fd) (descriptor_at (effect_of s p e) process fd)
after_change-alike s p e part process fd =
    let entries = p.before ++ e ∷ [] in
    let of = fd_of_call p.call entries in
    let changed = after_change s e in
    let told = after_telling (tells_size e) changed p.at.process of in
    let first : AreAlike part (descriptor_at changed process fd) (descriptor_at told process fd) =
    ⊎_elim
    (λ same. subst (AreAlike part (descriptor_at changed process fd)) (sym same) (alike_itself part (descriptor_at changed process fd)))
    (λ new.
    subst (AreAlike part (descriptor_at changed process fd)) (sym new.2)
    (alike_changed part (with_told_size changed) (λ d. record { file = refl; mode = refl; attached = refl; cleared = refl })
    (descriptor_at changed process fd)))
    (after_telling-cases (tells_size e) changed p.at.process of process fd) in
    let second : AreAlike part (descriptor_at told process fd) (descriptor_at (effect_of s p e) process fd) =
    ⊎_elim
    (λ same. subst (AreAlike part (descriptor_at told process fd)) (sym same) (alike_itself part (descriptor_at told process fd)))
    (λ new.
    subst (AreAlike part (descriptor_at told process fd)) (sym new.3)
    (alike_changed part with_known_size (λ d. record { file = refl; mode = refl; attached = refl; cleared = refl })
    (descriptor_at told process fd)))
    (after_call-cases (is_ended_by p.call entries) told p.at.process of entries process fd) in
    alike_then part _ _ _ first second

-- so rights that fit after an entry's own change fit after the entry
pub all_fit_after : (rights : Rights) (s : Store) (p : Place) (e : Entry) → AllFit rights (after_change s e) → AllFit rights (effect_of s p e)
all_fit_after rights s p e all key =
    fits_alike key (fin.get rights key) (descriptor_at (after_change s e) key.process key.fd) (descriptor_at (effect_of s p e) key.process key.fd)
    (after_change-alike s p e key.part key.process key.fd) (all key)

-- ---- entries that leave all rights

-- whether the entry may change a right or a descriptor beside its sizes
abbrev pub touches_rights : Entry → Bool
touches_rights (Opened at file fd mode how) = true
touches_rights (Attached at fd part) = true
touches_rights (Cleared at owner fd part) = true
touches_rights (Detached at owner fd part) = true
touches_rights (Closed at fd) = true
touches_rights e = false

-- another entry changes no descriptor
pub untouched_opens : (s : Store) (e : Entry) → touches_rights e ≡ false → (after_change s e).opens ≡ s.opens
untouched_opens s (Opened at file fd mode how) untouched = absurd (both_ways true untouched refl)
untouched_opens s (Attached at fd part) untouched = absurd (both_ways true untouched refl)
untouched_opens s (Cleared at owner fd part) untouched = absurd (both_ways true untouched refl)
untouched_opens s (Detached at owner fd part) untouched = absurd (both_ways true untouched refl)
untouched_opens s (Closed at fd) untouched = absurd (both_ways true untouched refl)
untouched_opens s (Access at piece fd file index block range wrote way bytes) untouched = access_opens s wrote block range.lo bytes
untouched_opens s (Sized at fd size) untouched = sized_opens s size (descriptor_at s at.process fd)
untouched_opens s e untouched = refl

pub all_fit_untouched : (rights : Rights) (s : Store) (e : Entry) → touches_rights e ≡ false → AllFit rights s → AllFit rights (after_change s e)
all_fit_untouched rights s e untouched all key =
    let same : descriptor_at (after_change s e) key.process key.fd ≡ descriptor_at s key.process key.fd =
    ap (λ (opens : List (List (Option Descriptor))). in_slot (slots_of (record s { opens = opens }) key.process) key.fd) (untouched_opens s e untouched) in
    subst (Fits key (fin.get rights key)) (sym same) (all key)

-- ---- an attach

fits_attached : (q : Key) (right : Option Right) (slot : Option Descriptor) (part : ℕ) → q.part ≢ part → Fits q right slot →
    Fits q right (option_map (effects.attach part) slot)
fits_attached q right slot part other =
    fits_alike q right slot (option_map (effects.attach part) slot)
    (alike_changed q.part (effects.attach part) (λ d. record {
      file = refl;
      mode = refl;
      attached = joined_other q.part part d.attached other;
      cleared = left_other q.part part d.cleared other;
    }) slot)

pub all_fit_attach : (rights : Rights) (s : Store) (process fd part : ℕ) (d : Descriptor) → descriptor_at s process fd ≡ Some d → AllFit rights s →
    AllFit (attach_right rights (key_at process fd part) d.file (may_write d.mode)) (with_descriptor s process fd (effects.attach part))
all_fit_attach rights s process fd part d there all q = by (slot_after s process fd (effects.attach part) q.process q.fd)
  where
    key : Key
    key = key_at process fd part

    new : Right
    new = new_right d.file (may_write d.mode)

    after : Option Descriptor
    after = descriptor_at (with_descriptor s process fd (effects.attach part)) q.process q.fd

    rest : ¬ ((q.process ≡ process) × (q.fd ≡ fd) × (q.part ≡ part)) → fin.get rights q ≡ fin.get (fin.insert rights key new) q
    rest differs = sym (other_key key_cmp_total rights key new q (other_than q process fd part differs))

    own : q.part ≡ part → Fits q (Some new) (Some (effects.attach part d))
    own same = record {
      file = refl;
      write = refl;
      attached = ap (λ (n : ℕ). has_part n (effects.attach part d).attached) same ∙ joined_here part d.attached;
      cleared = ap (λ (n : ℕ). has_part n (effects.attach part d).cleared) same ∙ left_here part d.cleared;
    }

    by : SlotAfter s process fd (effects.attach part) q.process q.fd →
        Fits q (fin.get (fin.insert rights key new) q) after
    by (apart differs same) =
        subst (Fits q (fin.get (fin.insert rights key new) q)) (sym same)
        (subst (λ (r : Option Right). Fits q r (descriptor_at s q.process q.fd)) (rest (λ both. differs (both.0, both.1))) (all q))
    by (here of_process at_fd changed) =
        let is : descriptor_at s q.process q.fd ≡ Some d =
        ap (λ (n : ℕ). descriptor_at s n q.fd) of_process ∙ ap (descriptor_at s process) at_fd ∙ there in
        elim (cases_eq q.part part) [
          | inl same ↦
              let at : q ≡ key = is_that q process fd part of_process at_fd same in
              let right_is : fin.get (fin.insert rights key new) q ≡ Some new =
              ap (fin.get (fin.insert rights key new)) at ∙ same_key-insert key_cmp_total rights key new in
              let slot_is : after ≡ Some (effects.attach part d) = changed ∙ ap (option_map (effects.attach part)) is in
              subst (λ (r : Option Right). Fits q r after) (sym right_is) (subst (Fits q (Some new)) (sym slot_is) (own same))
          | inr other ↦
              subst (Fits q (fin.get (fin.insert rights key new) q)) (sym changed)
              (subst (λ (r : Option Right). Fits q r (option_map (effects.attach part) (descriptor_at s q.process q.fd)))
              (rest (λ both. other both.2))
              (fits_attached q (fin.get rights q) (descriptor_at s q.process q.fd) part other (all q)))
        ]

-- ---- a change of state

-- a right whose state changes without its coming to be revoked, or from revoked to revoked, fits still
pub all_fit_states : (rights : Rights) (s : Store) (key : Key) (f : RightState → RightState) →
    ((right : Right) → fin.get rights key ≡ Some right → is_revoked (f right.state) ≡ is_revoked right.state) → AllFit rights s →
    AllFit (change rights key (λ right. record right { state = f right.state })) s
all_fit_states rights s key f same all q =
    get-change key_cmp_total rights key (λ right. record right { state = f right.state }) q
    (λ r. Fits q r (descriptor_at s q.process q.fd))
    (λ other. all q)
    (λ right is this. changed right is (same_key-is q key this))
    (λ none. all q)
  where
    with_new : (right : Right) (slot : Option Descriptor) → is_revoked (f right.state) ≡ is_revoked right.state → Fits q (Some right) slot →
        Fits q (Some (record right { state = f right.state })) slot
    with_new right None alike fits = fits
    with_new right (Some d) alike fits = record {
      file = fits.file;
      write = fits.write;
      attached = fits.attached;
      cleared = fits.cleared ∙ sym alike;
    }

    changed : (right : Right) → fin.get rights key ≡ Some right → q ≡ key →
        Fits q (Some (record right { state = f right.state })) (descriptor_at s q.process q.fd)
    changed right is at =
        with_new right (descriptor_at s q.process q.fd) (same right is)
        (subst (λ (r : Option Right). Fits q r (descriptor_at s q.process q.fd)) (ap (fin.get rights) at ∙ is) (all q))

-- ---- a clear

fits_cleared : (q : Key) (right : Option Right) (slot : Option Descriptor) (part : ℕ) → q.part ≢ part → Fits q right slot →
    Fits q right (option_map (effects.clear part) slot)
fits_cleared q right slot part other =
    fits_alike q right slot (option_map (effects.clear part) slot)
    (alike_changed q.part (effects.clear part) (λ d. record {
      file = refl;
      mode = refl;
      attached = refl;
      cleared = joined_other q.part part d.cleared other;
    }) slot)

pub all_fit_clear : (rights : Rights) (s : Store) (owner fd part : ℕ) → AllFit rights s →
    AllFit (with_state rights (key_at owner fd part) states.Cleared) (with_descriptor s owner fd (effects.clear part))
all_fit_clear rights s owner fd part all q = by (slot_after s owner fd (effects.clear part) q.process q.fd)
  where
    key : Key
    key = key_at owner fd part

    rights_after : Rights
    rights_after = with_state rights key states.Cleared

    after : Option Descriptor
    after = descriptor_at (with_descriptor s owner fd (effects.clear part)) q.process q.fd

    rest : ¬ ((q.process ≡ owner) × (q.fd ≡ fd) × (q.part ≡ part)) → fin.get rights q ≡ fin.get rights_after q
    rest differs = sym (other_key-change key_cmp_total rights key (λ right. record right { state = states.Cleared }) q (other_than q owner fd part differs))

    own : (right : Option Right) (slot : Option Descriptor) → q.part ≡ part → Fits q right slot →
        Fits q (option_map (λ (right : Right). record right { state = states.Cleared }) right) (option_map (effects.clear part) slot)
    own None None same fits = tt
    own None (Some d) same fits = fits
    own (Some right) None same fits = fits
    own (Some right) (Some d) same fits = record {
      file = fits.file;
      write = fits.write;
      attached = fits.attached;
      cleared = ap (λ (n : ℕ). has_part n (effects.clear part d).cleared) same ∙ joined_here part d.cleared;
    }

    by : SlotAfter s owner fd (effects.clear part) q.process q.fd → Fits q (fin.get rights_after q) after
    by (apart differs same) =
        subst (Fits q (fin.get rights_after q)) (sym same)
        (subst (λ (r : Option Right). Fits q r (descriptor_at s q.process q.fd)) (rest (λ both. differs (both.0, both.1))) (all q))
    by (here of_owner at_fd changed) =
        elim (cases_eq q.part part) [
          | inl same ↦
              let at : q ≡ key = is_that q owner fd part of_owner at_fd same in
              let right_is : fin.get rights_after q ≡ option_map (λ (right : Right). record right { state = states.Cleared }) (fin.get rights q) =
              ap (fin.get rights_after) at ∙ same_key-change key_cmp_total rights key (λ right. record right { state = states.Cleared })
              ∙ ap (λ (k : Key). option_map (λ (right : Right). record right { state = states.Cleared }) (fin.get rights k)) (sym at) in
              subst (λ (r : Option Right). Fits q r after) (sym right_is)
              (subst (Fits q (option_map (λ (right : Right). record right { state = states.Cleared }) (fin.get rights q))) (sym changed)
              (own (fin.get rights q) (descriptor_at s q.process q.fd) same (all q)))
          | inr other ↦
              subst (Fits q (fin.get rights_after q)) (sym changed)
              (subst (λ (r : Option Right). Fits q r (option_map (effects.clear part) (descriptor_at s q.process q.fd)))
              (rest (λ both. other both.2))
              (fits_cleared q (fin.get rights q) (descriptor_at s q.process q.fd) part other (all q)))
        ]

-- ---- a detach

fits_detached : (q : Key) (right : Option Right) (slot : Option Descriptor) (part : ℕ) → q.part ≢ part → Fits q right slot →
    Fits q right (option_map (effects.detach part) slot)
fits_detached q right slot part other =
    fits_alike q right slot (option_map (effects.detach part) slot)
    (alike_changed q.part (effects.detach part) (λ d. record {
      file = refl;
      mode = refl;
      attached = left_other q.part part d.attached other;
      cleared = left_other q.part part d.cleared other;
    }) slot)

pub all_fit_detach : (rights : Rights) (s : Store) (owner fd part : ℕ) → AllFit rights s →
    AllFit (fin.remove rights (key_at owner fd part)) (with_descriptor s owner fd (effects.detach part))
all_fit_detach rights s owner fd part all q = by (slot_after s owner fd (effects.detach part) q.process q.fd)
  where
    key : Key
    key = key_at owner fd part

    rights_after : Rights
    rights_after = fin.remove rights key

    after : Option Descriptor
    after = descriptor_at (with_descriptor s owner fd (effects.detach part)) q.process q.fd

    rest : ¬ ((q.process ≡ owner) × (q.fd ≡ fd) × (q.part ≡ part)) → fin.get rights q ≡ fin.get rights_after q
    rest differs = sym (other_key-remove key_cmp_total rights key q (other_than q owner fd part differs))

    own : (slot : Option Descriptor) → q.part ≡ part → Fits q None (option_map (effects.detach part) slot)
    own None same = tt
    own (Some d) same = ap (λ (n : ℕ). has_part n (effects.detach part d).attached) same ∙ left_here part d.attached

    by : SlotAfter s owner fd (effects.detach part) q.process q.fd → Fits q (fin.get rights_after q) after
    by (apart differs same) =
        subst (Fits q (fin.get rights_after q)) (sym same)
        (subst (λ (r : Option Right). Fits q r (descriptor_at s q.process q.fd)) (rest (λ both. differs (both.0, both.1))) (all q))
    by (here of_owner at_fd changed) =
        elim (cases_eq q.part part) [
          | inl same ↦
              let at : q ≡ key = is_that q owner fd part of_owner at_fd same in
              let right_is : fin.get rights_after q ≡ None =
              ap (fin.get rights_after) at ∙ same_key-remove key_cmp_total rights key in
              subst (λ (r : Option Right). Fits q r after) (sym right_is)
              (subst (Fits q None) (sym changed) (own (descriptor_at s q.process q.fd) same))
          | inr other ↦
              subst (Fits q (fin.get rights_after q)) (sym changed)
              (subst (λ (r : Option Right). Fits q r (option_map (effects.detach part) (descriptor_at s q.process q.fd)))
              (rest (λ both. other both.2))
              (fits_detached q (fin.get rights q) (descriptor_at s q.process q.fd) part other (all q)))
        ]

-- ---- descriptors that come and go

-- a key without a right fits a slot that is empty
fits_empty : (q : Key) (right : Option Right) → Fits q right None → right ≡ None
fits_empty q None fits = refl
fits_empty q (Some right) fits = absurd fits

-- nor has a descriptor without rights one
fits_bare : (q : Key) (right : Option Right) (d : Descriptor) → d.attached ≡ [] → Fits q right (Some d) → right ≡ None
fits_bare q None d bare fits = refl
fits_bare q (Some right) d bare fits =
    absurd (both_ways (has_part q.part d.attached) (ap (has_part q.part) bare) fits.attached)

-- a slot without rights is filled with a descriptor without rights, or emptied
pub all_fit_slot : (rights : Rights) (s : Store) (process fd : ℕ) (slot : Option Descriptor) → AllFit rights s →
    ((part : ℕ) → fin.get rights (key_at process fd part) ≡ None) → ((d : Descriptor) → slot ≡ Some d → d.attached ≡ []) →
    AllFit rights (with_slot s process fd slot)
all_fit_slot rights s process fd slot all none bare q =
    ⊎_elim
    (λ same. subst (Fits q (fin.get rights q)) (sym same) (all q))
    (λ new.
    let at : q ≡ key_at process fd q.part = is_that q process fd q.part new.0 new.1 refl in
    let right_is : fin.get rights q ≡ None = ap (fin.get rights) at ∙ none q.part in
    subst (λ (r : Option Right). Fits q r (descriptor_at (with_slot s process fd slot) q.process q.fd)) (sym right_is)
    (subst (Fits q None) (sym new.2) (empty slot refl)))
    (slot-set_cases s process fd slot q.process q.fd)
  where
    empty : (o : Option Descriptor) → slot ≡ o → Fits q None o
    empty None is = tt
    empty (Some d) is = ap (has_part q.part) (bare d is)

-- a closed slot has no rights
pub none_of_empty : (rights : Rights) (s : Store) (process fd : ℕ) → AllFit rights s → descriptor_at s process fd ≡ None → (part : ℕ) →
    fin.get rights (key_at process fd part) ≡ None
none_of_empty rights s process fd all closed part =
    fits_empty (key_at process fd part) (fin.get rights (key_at process fd part))
    (subst (Fits (key_at process fd part) (fin.get rights (key_at process fd part))) closed (all (key_at process fd part)))

-- nor has a descriptor that has none attached
pub none_of_bare : (rights : Rights) (s : Store) (process fd : ℕ) (d : Descriptor) → AllFit rights s → descriptor_at s process fd ≡ Some d →
    d.attached ≡ [] → (part : ℕ) → fin.get rights (key_at process fd part) ≡ None
none_of_bare rights s process fd d all there bare part =
    fits_bare (key_at process fd part) (fin.get rights (key_at process fd part)) d bare
    (subst (Fits (key_at process fd part) (fin.get rights (key_at process fd part))) there (all (key_at process fd part)))
