-- The rights that processors clear for their calls may be cleared there.
use Rattle.std.proofs.Common.{◌≡◌, true, false, [], Option, None, Some, refl, sym, ◌∙◌, subst}
use Rattle.std.specs.Prelude.{All}
use Rattle.std.specs.FinMap as fin
use Rattle.std.proofs.lemmas.Bool.{false≢true}
use Rattle.std.proofs.lemmas.Option.{same_Some}
use Rattle.bd_base.specs.declared.key.Key.{Key}
use Rattle.bd_base.specs.declared.volume.Volume.{Volume}
use Rattle.bd_entry.specs.declared.entry.Entry.{Entry}
use Rattle.bd_entry.specs.declared.entry.Entry.TheVariants as entries
use Rattle.bd_entry.specs.Calls.{Place}
use Rattle.bd_entry.specs.NextEntries.{IsLegalAt}
use Rattle.bd_entry.specs.Rules.{EntryRule, FitsStore, IsOpen, NotRefused, RightFile, Rights}
use Rattle.bd_entry.specs.RulesOfContents.{MayBegin}
use Rattle.bd_entry.specs.RulesOfRights.{Stands}
use Rattle.bd_entry.specs.Store.{Descriptor, Store, descriptor_at}
use Rattle.bd_entry.proofs.NextActs.{is_there}
use Rattle.bd_tables.specs.declared.state.Right.{Right}
use Rattle.bd_tables.specs.declared.state.RightState.{RightState}
use Rattle.bd_tables.specs.declared.state.RightState.TheVariants as states
use Rattle.bd_turns.proofs.AddedByActs.{IsClear}
use Rattle.bd_turns.proofs.FoundElements.{find-element}
use Rattle.bd_turns.proofs.KeysToRevoke.{MayRevoke, revocable}
use Rattle.bd_turns.proofs.LegalActs.{none_without_pieces, pieces_outstanding, unfinished_without}
use Rattle.bd_turns.proofs.NextRevocations.{next_revokes}
use Rattle.bd_turns.proofs.RunningPlaces.{legal_is_added}
use Rattle.bd_turns.specs.Added.{IsAdded}
use Rattle.bd_turns.specs.Processors.{is_on, is_on_state, running_of}
use Rattle.bd_turns.specs.Reached.{IsReached}
use Rattle.bd_turns.specs.Sound.{AreRightsOf, is_revoked}
use Rattle.bd_turns.specs.State.{State, holder_of, outstanding, progress_of, running}

-- a right that is not revoked stands in the store
on_stands : (m : State) (key : Key) (d : Descriptor) → AreRightsOf m → descriptor_at m.store key.process key.fd ≡ Some d →
    is_on (fin.get m.tables.rights key) ≡ true → Stands key.part d
on_stands m key d rights is_open on = by (fin.get m.tables.rights key) refl on
  where
    not_revoked : (state : RightState) → is_on_state state ≡ true → is_revoked state ≡ false
    not_revoked states.On is = refl
    not_revoked states.Cleared is = absurd (false≢true is)
    not_revoked (states.Drained swept) is = absurd (false≢true is)

    by : (o : Option Right) → fin.get m.tables.rights key ≡ o → is_on o ≡ true → Stands key.part d
    by None there is = absurd (false≢true is)
    by (Some right) there is =
        let told = rights.told key right there in
        let same : told.0 ≡ d = same_Some told.0 d (sym told.1 ∙ is_open) in
        subst (Stands key.part) same
        (record { attached = told.2.attached; not_cleared = told.2.cleared ∙ not_revoked right.state is })

-- a call clears a right that it may clear, and that stands
clear-keeps : (s : Store) (p : Place) (key : Key) → (may : MayRevoke s p p.call key) → Stands key.part may.d → MayBegin s p →
    (rule : EntryRule) → FitsStore s p (entries.Cleared p.at key.process key.fd key.part) rule
clear-keeps s p key may stands begin IsOpen = is_there (descriptor_at s key.process key.fd) may.d may.is_open
clear-keeps s p key may stands begin RightFile = (may.d, may.is_open, may.of_file)
clear-keeps s p key may stands begin Rights = (may.d, may.is_open, (stands, may.lowers))
clear-keeps s p key may stands begin NotRefused = begin
clear-keeps s p key may stands begin rule = tt

-- the clear of a key is the next entry of the journal
pub clears_add_legally : (v : Volume) (m : State) (p : Place) (e : Entry) → IsReached v m → running m p.at.process ≡ Some p →
    IsClear m p e → IsAdded v m p e
clears_add_legally v m p e reached is clear =
    let held = outstanding (progress_of m p.at.process) in
    let revokes = next_revokes m.store (holder_of m) (running_of m p) clear.keys clear.next in
    let key : Key = clear.clears.key in
    let all : All (MayRevoke m.store p p.call) clear.keys =
    subst (All (MayRevoke m.store p p.call)) revokes.keys_are (revocable m.store p.call p.at p.before) in
    let found = find-element (MayRevoke m.store p p.call) (λ key. is_on (fin.get m.tables.rights key)) clear.keys key all
    clear.clears.next in
    let may : MayRevoke m.store p p.call key = found.1 in
    let none : held ≡ [] = none_without_pieces p.call held (pieces_outstanding v m p reached is) may.no_pieces in
    let stands : Stands key.part may.d = on_stands m key may.d reached.sound.tables_are.rights may.is_open found.0 in
    let legal : IsLegalAt m.store p (entries.Cleared p.at key.process key.fd key.part) =
    record {
      of_place = refl;
      of_call = record { kind = may.clears; fields = may.may_clear };
      once = tt;
      keeps = clear-keeps m.store p key may stands (revokes.goes_on.may_begin none);
    } in
    legal_is_added v m p e reached is (unfinished_without m p reached.sound.calls.unended is none)
    (subst (IsLegalAt m.store p) clear.clears.entry legal)
