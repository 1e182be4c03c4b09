-- Every turn keeps the rights of the tables and the attached rights of the store alike.
use Rattle.std.proofs.Common.{◌≡◌, ℕ, true, false, Option, None, Some, refl, sym, ap, ◌∙◌, subst}
use Rattle.std.specs.Option.{option_map, option_map_or}
use Rattle.std.specs.FinMap as fin
use Rattle.std.proofs.lemmas.Bool.{both_ways}
use Rattle.std.proofs.lemmas.Option.{none-some, same_Some}
use Rattle.bd_base.specs.declared.journal.At.{At}
use Rattle.bd_base.specs.declared.script.Mode.{Mode}
use Rattle.bd_base.specs.declared.volume.Volume.{Volume}
use Rattle.bd_entry.specs.declared.entry.Entry.{Entry}
use Rattle.bd_entry.specs.declared.entry.Entry.TheVariants.{Attached, Cleared, Closed, Detached, Extended, Opened}
use Rattle.bd_entry.specs.Calls.{Place}
use Rattle.bd_entry.specs.Effects as entry_effects
use Rattle.bd_entry.specs.Effects.{after_change, effect_of, new_descriptor}
use Rattle.bd_entry.specs.Rules.{IsOpen, Rights as RightsRule, place_in}
use Rattle.bd_entry.specs.Store.{Descriptor, Store, descriptor_at}
use Rattle.bd_entry.proofs.DescriptorSteps.{change-here, lowest_fd-free}
use Rattle.bd_tables.specs.declared.state.Right.{Right}
use Rattle.bd_tables.specs.declared.state.RightState.{RightState}
use Rattle.bd_tables.specs.declared.state.RightState.TheVariants as states
use Rattle.bd_tables.specs.Effects as effects
use Rattle.bd_tables.specs.Effects.{attach_right, none_swept, sweep_state}
use Rattle.bd_tables.specs.State.{Rights, TableState}
use Rattle.bd_turns.specs.declared.turn.Row.{Row}
use Rattle.bd_turns.specs.Added.{IsAdded}
use Rattle.bd_turns.specs.Processors as processors
use Rattle.bd_turns.specs.Processors.{next_action}
use Rattle.bd_turns.specs.Sound.{is_revoked}
use Rattle.bd_turns.specs.State.{State}
use Rattle.bd_turns.specs.Turns.{attached_tables, grown_tables, may_write, tables_after}
use Rattle.bd_turns.proofs.AddedEntries.{added_keeps, adds_from, is_detach, processors_detach_nothing}
use Rattle.bd_turns.proofs.EngineSteps.{IsChange, IsEnd, drains, sweeps}
use Rattle.bd_turns.proofs.RightsFit.{AllFit, AreAlike, IsAlike, key_at}
use Rattle.bd_turns.proofs.RightsSteps.{after_change-alike, all_fit_after, all_fit_attach, all_fit_clear, all_fit_detach, all_fit_slot, all_fit_states, all_fit_untouched, none_of_bare, none_of_empty, touches_rights}

-- ---- an entry of a processor

-- a slot that is alike one with a descriptor has one too
pub alike_there : (part : ℕ) (d : Descriptor) (slot : Option Descriptor) → AreAlike part (Some d) slot →
    (new : Descriptor) × (slot ≡ Some new) × IsAlike part d new
alike_there part d None alike = absurd alike
alike_there part d (Some new) alike = (new, refl, alike)

-- the descriptor after an attach is open, of the file and the mode that it was
pub attached_there : (s : Store) (p : Place) (at : At) (fd part : ℕ) (d : Descriptor) → descriptor_at s at.process fd ≡ Some d →
    (new : Descriptor) × (descriptor_at (effect_of s p (Attached at fd part)) at.process fd ≡ Some new)
    × IsAlike part (entry_effects.attach part d) new
attached_there s p at fd part d there =
    let here : descriptor_at (after_change s (Attached at fd part)) at.process fd ≡ Some (entry_effects.attach part d) =
    change-here s at.process fd (entry_effects.attach part) ∙ ap (option_map (entry_effects.attach part)) there in
    alike_there part (entry_effects.attach part d) (descriptor_at (effect_of s p (Attached at fd part)) at.process fd)
    (subst (λ (o : Option Descriptor). AreAlike part o (descriptor_at (effect_of s p (Attached at fd part)) at.process fd)) here
    (after_change-alike s p (Attached at fd part) part at.process fd))

rights_attach : (s : Store) (p : Place) (tables : TableState) (at : At) (fd part : ℕ) (d : Descriptor) → descriptor_at s at.process fd ≡ Some d →
    AllFit tables.rights s → let t = effect_of s p (Attached at fd part) in AllFit (tables_after t tables (Attached at fd part)).rights t
rights_attach s p tables at fd part d there all =
    let e = Attached at fd part in
    let t = effect_of s p e in
    let new = attached_there s p at fd part d there in
    let fits : AllFit (attach_right tables.rights (key_at at.process fd part) d.file (may_write d.mode)) t =
    all_fit_after (attach_right tables.rights (key_at at.process fd part) d.file (may_write d.mode)) s p e
    (all_fit_attach tables.rights s at.process fd part d there all) in
    let key = key_at at.process fd part in
    let same : (tables_after t tables e).rights ≡ attach_right tables.rights key d.file (may_write d.mode) =
    ap (λ (o : Option Descriptor). (option_map_or (attached_tables t tables at.process fd part) o tables).rights) new.1
    ∙ ap (λ (file : ℕ). attach_right tables.rights key file (may_write new.0.mode)) new.2.file
    ∙ ap (λ (mode : Mode). attach_right tables.rights key d.file (may_write mode)) new.2.mode in
    subst (λ (r : Rights). AllFit r t) (sym same) fits

grown_rights : (t : Store) (tables : TableState) (file to : ℕ) (block : Option ℕ) → (grown_tables t tables file to block).rights ≡ tables.rights
grown_rights t tables file to None = refl
grown_rights t tables file to (Some block) = refl

-- an entry that changes no right of the store changes none of the tables
untouched_rights : (t : Store) (tables : TableState) (e : Entry) → touches_rights e ≡ false → (tables_after t tables e).rights ≡ tables.rights
untouched_rights t tables (Attached at fd part) untouched = absurd (both_ways true untouched refl)
untouched_rights t tables (Cleared at owner fd part) untouched = absurd (both_ways true untouched refl)
untouched_rights t tables (Extended at file to block) untouched = grown_rights t tables file to block
untouched_rights t tables e untouched = refl

rights_untouched : (s : Store) (p : Place) (tables : TableState) (e : Entry) → touches_rights e ≡ false → AllFit tables.rights s →
    AllFit (tables_after (effect_of s p e) tables e).rights (effect_of s p e)
rights_untouched s p tables e untouched all =
    subst (λ (r : Rights). AllFit r (effect_of s p e)) (sym (untouched_rights (effect_of s p e) tables e untouched))
    (all_fit_after tables.rights s p e (all_fit_untouched tables.rights s e untouched all))

-- an entry that a processor adds keeps rights alike
rights_added : (v : Volume) (m : State) (p : Place) (e : Entry) → IsAdded v m p e → is_detach e ≡ false → AllFit m.tables.rights m.store →
    let t = effect_of m.store (place_in m.store p.call p.at) e in AllFit (tables_after t m.tables e).rights t
rights_added v m p (Attached at fd part) added detaches all =
    let rights = added_keeps v m p (Attached at fd part) added RightsRule in
    let there : descriptor_at m.store at.process fd ≡ Some rights.0 = ap (λ (a : At). descriptor_at m.store a.process fd) added.at_is ∙ rights.1 in
    rights_attach m.store (place_in m.store p.call p.at) m.tables at fd part rights.0 there all
rights_added v m p (Cleared at owner fd part) added detaches all =
    let place = place_in m.store p.call p.at in
    all_fit_after (effects.clear m.tables (key_at owner fd part)).rights m.store place (Cleared at owner fd part)
    (all_fit_clear m.tables.rights m.store owner fd part all)
rights_added v m p (Detached at owner fd part) added detaches all = absurd (both_ways true detaches refl)
rights_added v m p (Opened at file fd mode how) added detaches all =
    let e = Opened at file fd mode how in
    let lowest = added_keeps v m p e added IsOpen in
    let closed : descriptor_at m.store at.process fd ≡ None =
    ap (λ (a : At). descriptor_at m.store a.process fd) added.at_is ∙ lowest_fd-free m.store p.at.process fd lowest in
    all_fit_after m.tables.rights m.store (place_in m.store p.call p.at) e
    (all_fit_slot m.tables.rights m.store at.process fd (new_descriptor e) all
    (none_of_empty m.tables.rights m.store at.process fd all closed)
    (λ d is. sym (ap (λ (x : Descriptor). x.attached) (same_Some _ d is))))
rights_added v m p (Closed at fd) added detaches all =
    let e = Closed at fd in
    let bare = added_keeps v m p e added RightsRule in
    let there : descriptor_at m.store at.process fd ≡ Some bare.0 = ap (λ (a : At). descriptor_at m.store a.process fd) added.at_is ∙ bare.1 in
    all_fit_after m.tables.rights m.store (place_in m.store p.call p.at) e
    (all_fit_slot m.tables.rights m.store at.process fd None all
    (none_of_bare m.tables.rights m.store at.process fd bare.0 all there bare.2)
    (λ d is. absurd (none-some d is)))
rights_added v m p e added detaches all = rights_untouched m.store (place_in m.store p.call p.at) m.tables e refl all

pub rights_after_adding : (v : Volume) (m : State) (p : Place) (row : Row) (e : Entry) → IsAdded v m p e →
    next_action m p ≡ Some (processors.Adds row e) → AllFit m.tables.rights m.store →
    let t = effect_of m.store (place_in m.store p.call p.at) e in AllFit (tables_after t m.tables e).rights t
rights_after_adding v m p row e added acting all =
    rights_added v m p e added (processors_detach_nothing m p e (adds_from m p row e acting)) all

-- ---- the invalidation engine

pub rights_after_change : (m : State) (after : TableState) → IsChange m.tables m.posted after → AllFit m.tables.rights m.store →
    AllFit after.rights m.store
rights_after_change m after (drains post rest right posted attached cleared nobody is) all =
    subst (λ (x : TableState). AllFit x.rights m.store) (sym is)
    (all_fit_states m.tables.rights m.store post.key (λ state. states.Drained none_swept)
    (λ other at. sym (ap is_revoked (ap (λ (x : Right). x.state) (same_Some other right (sym at ∙ attached)) ∙ cleared))) all)
rights_after_change m after (sweeps post rest right swept line posted attached drained next is) all =
    subst (λ (x : TableState). AllFit x.rights m.store) (sym is)
    (all_fit_states m.tables.rights m.store post.key (sweep_state line) (λ other at. still line other.state) all)
  where
    still : (c : ℕ) (state : RightState) → is_revoked (sweep_state c state) ≡ is_revoked state
    still c states.On = refl
    still c states.Cleared = refl
    still c (states.Drained swept) = refl

pub rights_after_ending : (m : State) (p : Place) (e : Entry) (after : TableState) → IsEnd m.tables m.posted e after →
    AllFit m.tables.rights m.store → AllFit after.rights (effect_of m.store p e)
rights_after_ending m p e after ends all =
    let key = ends.post.key in
    let entry = Detached ends.post.by key.process key.fd key.part in
    subst (λ (x : TableState). AllFit x.rights (effect_of m.store p e)) (sym ends.after_is)
    (subst (λ (x : Entry). AllFit (fin.remove m.tables.rights key) (effect_of m.store p x)) (sym ends.entry_is)
    (all_fit_after (fin.remove m.tables.rights key) m.store p entry
    (all_fit_detach m.tables.rights m.store key.process key.fd key.part all)))
