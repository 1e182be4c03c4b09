-- Each translation that is held is current, in each state that a machine has come to.
use Rattle.std.proofs.Common.{◌≡◌, ℕ, ◌/◌, ◌≤◌, slice_get, Option, None, Some, refl, sym, ap, ◌∙◌, subst, ⊎_elim}
use Rattle.std.specs.FinMap as fin
use Rattle.std.proofs.lemmas.Option.{none-some, same_Some}
use Rattle.bd_base.specs.declared.key.Cell.{Cell}
use Rattle.bd_base.specs.declared.key.Key.{Key}
use Rattle.bd_base.specs.declared.limits.TheConstants.{PART_BLOCKS}
use Rattle.bd_base.specs.declared.volume.Volume.{Volume}
use Rattle.bd_entry.specs.Calls.{Place}
use Rattle.bd_entry.specs.Store.{Store, blocks_in, limit_in}
use Rattle.bd_tables.specs.declared.request.Request.{Request}
use Rattle.bd_tables.specs.declared.state.Right.{Right}
use Rattle.bd_tables.specs.Sound.{IsOfEntry}
use Rattle.bd_tables.specs.State.{TableState, cell_of, lookup, lookup_under, request_of, walk_at}
use Rattle.bd_turns.specs.Names.{HeldTranslationsAreCurrent, IsCurrent, by_engine, by_line}
use Rattle.bd_turns.specs.Reached.{IsReached}
use Rattle.bd_turns.specs.Sound.{IsWalkAt}
use Rattle.bd_turns.specs.State.{InHand, Phase, Looking, Reading, Filling, Moving, Missing, Retiring, Completing, State, progress_of, running}
use Rattle.bd_turns.proofs.Cases.{running_process}
use Rattle.bd_turns.proofs.CellsOfGrowth.{cell_if, cell_of_block-is}
use Rattle.bd_turns.proofs.LinesKept.{request_of_part}
use Rattle.bd_turns.proofs.StepsLeave.{hand_outstanding}

-- ---- the requests of engines

-- a walk that is not over is for the request of the command in hand
same_request : (phase : Phase) (request : Request) (tables : TableState) (process : ℕ) (other : Request) → IsWalkAt phase request tables process →
    request_of (walk_at tables.walks process) ≡ Some other → request ≡ other
same_request Looking request tables process other at is = same_Some request other (sym (ap request_of at) ∙ is)
same_request Reading request tables process other at is = same_Some request other (sym (ap request_of at) ∙ is)
same_request Filling request tables process other at is = same_Some request other (sym (ap request_of at.1) ∙ is)
same_request Moving request tables process other at is = same_Some request other (sym (ap request_of at.1) ∙ is)
same_request Missing request tables process other at is = same_Some request other (sym (ap request_of at.1) ∙ is)
same_request Retiring request tables process other at is =
    ⊎_elim
    (λ translated. same_Some request other (sym (ap request_of translated.1) ∙ is))
    (λ refused. same_Some request other (sym (ap request_of refused.1) ∙ is))
    at
same_request Completing request tables process other at is = absurd (none-some other (sym (ap request_of at) ∙ is))

-- an engine in a key walks for a block of that key's part
walks_in_part : (v : Volume) (m : State) (process : ℕ) (request : Request) → IsReached v m → request_of (walk_at m.tables.walks process) ≡ Some request →
    request.index / PART_BLOCKS ≡ request.key.part
walks_in_part v m process request reached is = by (progress_of m process).hand refl (running m process) refl
  where
    by : (slot : Option InHand) → (progress_of m process).hand ≡ slot → (place : Option Place) → running m process ≡ place →
        request.index / PART_BLOCKS ≡ request.key.part
    by None none place running_is =
        absurd (none-some request (sym (ap request_of (reached.sound.tables_are.idle process none)) ∙ is))
    by (Some hand) in_hand None none =
        absurd (hand_outstanding (progress_of m process) hand in_hand (reached.sound.calls.commands.none process none))
    by (Some hand) in_hand (Some p) running_is =
        let walks = reached.sound.tables_are.hands process p hand running_is in_hand in
        let here : request_of (walk_at m.tables.walks p.at.process) ≡ Some request =
        ap (λ (q : ℕ). request_of (walk_at m.tables.walks q)) (running_process m process p running_is) ∙ is in
        let same = same_request hand.phase walks.request m.tables p.at.process request walks.walk here in
        request_of_part p hand.piece request (walks.of_piece ∙ ap Some same)

-- ---- translations

-- an entry of the tables that is a block's cell is of that block
record IsOfBlock (s : Store) (file index : ℕ) (cell : Cell) : Type 0 where
  of_index : slice_get (blocks_in s file) index ≡ Some cell.block
  inside : cell.limit ≤ limit_in s file index

of_block : (s : Store) (file index : ℕ) (cell : Cell) (block : Option ℕ) → slice_get (blocks_in s file) index ≡ block →
    IsOfEntry cell (cell_if s file index block) → IsOfBlock s file index cell
of_block s file index cell None is within = absurd within
of_block s file index cell (Some block) is within = record { of_index = is ∙ ap Some (sym within.block); inside = within.limit }

-- what an attached right says is what its descriptor's file has
current : (v : Volume) (m : State) (key : Key) (index : ℕ) (cell : Cell) (slot : Option Right) → IsReached v m → index / PART_BLOCKS ≡ key.part →
    fin.get m.tables.rights key ≡ slot → IsOfEntry cell (lookup m.tables key index) → IsCurrent m.store key index cell
current v m key index cell None reached of_part none entry =
    absurd (subst (λ (o : Option Right). IsOfEntry cell (lookup_under m.tables.cells key index o)) none entry)
current v m key index cell (Some right) reached of_part is entry =
    let are = reached.sound.tables_are in
    let told = are.rights.told key right is in
    let of = of_block m.store right.file index cell (slice_get (blocks_in m.store right.file) index) refl
    (subst (IsOfEntry cell) (are.lookups key right index is of_part ∙ cell_of_block-is m.store right.file index) entry) in
    let here : IsOfBlock m.store told.0.file index cell = subst (λ (file : ℕ). IsOfBlock m.store file index cell) told.2.file of in
    record {
      descriptor = told.0;
      is_open = told.1;
      attached = told.2.attached;
      of_part = of_part;
      of_index = here.of_index;
      inside = here.inside;
    }

pub held_translations_are_current : HeldTranslationsAreCurrent
held_translations_are_current v m _ _ _ reached (by_engine process request completion is) =
    current v m request.key request.index (cell_of completion) (fin.get m.tables.rights request.key) reached
    (walks_in_part v m process request reached (ap request_of is)) refl
    (reached.sound.tables_are.tables.held process request completion is).entry
held_translations_are_current v m _ _ _ reached (by_line c line is) =
    current v m line.key line.index line.cell (fin.get m.tables.rights line.key) reached (reached.sound.tables_are.lines c line is) refl
    (reached.sound.tables_are.tables.cached c line is).entry
