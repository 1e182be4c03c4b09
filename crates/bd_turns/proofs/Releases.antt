-- A block that is released is one that no held translation names.
use Rattle.std.proofs.Common.{◌≡◌, ℕ, ◌-◌, cond, Bool, true, false, not, nat_eq, List, [], ◌∷◌, length, position, slice_get, Option, None, Some, arith, refl, sym, ap, ◌∙◌, subst}
use Rattle.std.specs.FinMap as fin
use Rattle.std.specs.Option.{option_and_then, option_map_or}
use Rattle.std.proofs.lemmas.Bool.{both_ways, false≢true}
use Rattle.std.proofs.lemmas.Option.{get_or_from_slice_get, none-some, slice_get_within}
use Rattle.bd_base.specs.declared.journal.At.{At}
use Rattle.bd_base.specs.declared.volume.Inode.{Inode}
use Rattle.bd_base.specs.declared.volume.Volume.{Volume}
use Rattle.bd_base.specs.Inodes.{blocks_of_slot}
use Rattle.bd_base.proofs.Owners.{StandsAt, one_owner}
use Rattle.bd_entry.specs.declared.entry.Entry.{Entry}
use Rattle.bd_entry.specs.declared.entry.Entry.TheVariants as entries
use Rattle.bd_entry.specs.Calls.{Place}
use Rattle.bd_entry.specs.Rules.{FitsStore, RightBlock, Rights}
use Rattle.bd_entry.specs.Store.{Store, Valid, blocks_in, file_in, has_part, has_rights_on}
use Rattle.bd_entry.proofs.Descriptors.{rights-on}
use Rattle.bd_tables.specs.declared.state.Right.{Right}
use Rattle.bd_tables.specs.declared.state.RightState.{RightState}
use Rattle.bd_tables.specs.declared.state.RightState.TheVariants as states
use Rattle.bd_tables.specs.Effects as effects
use Rattle.bd_tables.specs.State.{TableState, engines_in}
use Rattle.bd_turns.specs.declared.turn.Row.{Row}
use Rattle.bd_turns.specs.declared.turn.Row.TheVariants as rows
use Rattle.bd_turns.specs.declared.turn.Turn.{Turn}
use Rattle.bd_turns.specs.declared.turn.Turn.TheVariants.{Did}
use Rattle.bd_turns.specs.declared.turn.Wait.TheVariants as waits
use Rattle.bd_turns.specs.Added.{IsAdded, by_processor}
use Rattle.bd_turns.specs.Engines as engines
use Rattle.bd_turns.specs.Engines.{Invalidation, Step, detach, engine_step, invalidate, invalidation_of}
use Rattle.bd_turns.specs.Names.{IsUnnamed, ReleasedBlocksAreUnnamed, ReleasesUnnamed}
use Rattle.bd_turns.specs.Processors as processors
use Rattle.bd_turns.specs.Processors.{Action, next_action, row_of_entry}
use Rattle.bd_turns.specs.Reached.{IsReached}
use Rattle.bd_turns.specs.State.{Posted, State, running}
use Rattle.bd_turns.specs.Turns.{Outcome, Nothing, Acting, after_adding, answer_in, entries_added, outcome_of, outcome_of_action, outcome_of_invalidation, state_after}
use Rattle.bd_turns.proofs.AddedEntries.{added_keeps}
use Rattle.bd_turns.proofs.Cases.{each_outcome}
use Rattle.bd_turns.proofs.EngineSteps.{IsStep, completes, engine_steps, enters, fills, looks, misses, moves, reads, retires}
use Rattle.bd_turns.proofs.HeldTranslations.{held_translations_are_current}
use Rattle.bd_turns.proofs.LegalTurns.{turns_add_legally}
use Rattle.bd_turns.proofs.RightsAfterTurns.{row_is}

-- ---- which turns release

-- whether the row is that of a release
is_release_row : Row → Bool
is_release_row rows.Release = true
is_release_row row = false

-- the row of an answer
row_in : Turn → Row → Row
row_in (Did row) other = row
row_in answer other = other

does_release : Turn → Bool
does_release (Did row) = is_release_row row
does_release answer = false

-- a turn with this outcome releases: it is one of a processor that adds an entry
record Releases (m : State) (o : Outcome) : Type 0 where
  p : Place
  entry : Entry
  running_is : running m p.at.process ≡ Some p
  acting : next_action m p ≡ Some (processors.Adds rows.Release entry)
  outcome_is : o ≡ Acting rows.Release (after_adding m p rows.Release entry) (entry ∷ [])

-- it does where it answers that it did
MayRelease : State → Outcome → Type 0
MayRelease m o = answer_in o ≡ Did rows.Release → Releases m o

never : (m : State) (o : Outcome) → does_release (answer_in o) ≡ false → MayRelease m o
unfolding MayRelease is_release_row does_release
never m o not_so is = absurd (false≢true (sym not_so ∙ ap does_release is))

of_action : (m : State) (p : Place) → running m p.at.process ≡ Some p → (action : Action) → next_action m p ≡ Some action →
    MayRelease m (outcome_of_action m p action)
unfolding MayRelease is_release_row row_in does_release
of_action m p is (processors.Adds row entry) acting = λ answers.
    let same : row ≡ rows.Release = ap (λ (t : Turn). row_in t row) answers in
    record {
      p = p;
      entry = entry;
      running_is = is;
      acting = subst (λ (r : Row). next_action m p ≡ Some (processors.Adds r entry)) same acting;
      outcome_is = ap (λ (r : Row). Acting r (after_adding m p r entry) (entry ∷ [])) same;
    }
of_action m p is (processors.Posts key) acting = never m _ refl
of_action m p is (processors.Submits piece) acting = never m _ refl
of_action m p is processors.Polls acting = never m _ refl
of_action m p is (processors.WaitsFor wait) acting = never m _ refl

-- no step of a device engine releases
steps_release_nothing : (m : State) (p : Place) (step : Step) → IsStep m p step → is_release_row step.row ≡ false
unfolding is_release_row
steps_release_nothing m p step (enters number rest request none waiting of_piece is) = ap (λ (x : Step). is_release_row x.row) is
steps_release_nothing m p step (looks hand request in_hand phase of_piece is) = ap (λ (x : Step). is_release_row x.row) is
steps_release_nothing m p step (reads hand request in_hand phase of_piece is) = ap (λ (x : Step). is_release_row x.row) is
steps_release_nothing m p step (fills hand request completion in_hand phase of_piece told is) = ap (λ (x : Step). is_release_row x.row) is
steps_release_nothing m p step (moves hand completion entry in_hand phase told entry_is is) = ap (λ (x : Step). is_release_row x.row) is
steps_release_nothing m p step (misses hand found in_hand phase found_is is) = ap (λ (x : Step). is_release_row x.row) is
steps_release_nothing m p step (retires hand in_hand phase is) = ap (λ (x : Step). is_release_row x.row) is
steps_release_nothing m p step (completes hand in_hand phase is) = ap (λ (x : Step). is_release_row x.row) is

-- nor does the invalidation engine
is_release_by : Option Invalidation → Bool
is_release_by (Some (engines.Changes row tables)) = is_release_row row
is_release_by o = false

invalidations_release_nothing : (tables : TableState) (posted : List Posted) → is_release_by (invalidation_of tables posted) ≡ false
unfolding is_release_row is_release_by
invalidations_release_nothing tables [] = refl
invalidations_release_nothing tables (post ∷ rest) = by (fin.get tables.rights post.key)
  where
    drained : (count : ℕ) (b : Bool) →
        is_release_by (Some (cond b (engines.Changes rows.Drain (effects.drain tables post.key)) (engines.WaitsFor (waits.InFlight post.key count)))) ≡ false
    drained count true = refl
    drained count false = refl

    swept : (next : Option ℕ) →
        is_release_by
        (Some (option_map_or (λ line. engines.Changes (rows.Sweep line) (effects.sweep tables line post.key)) next (detach tables post))) ≡ false
    swept None = refl
    swept (Some line) = refl

    in_state : (state : RightState) → is_release_by (invalidate tables post state) ≡ false
    in_state states.On = refl
    in_state states.Cleared = let count = engines_in tables.walks post.key in drained count (nat_eq count 0)
    in_state (states.Drained marks) = swept (position not marks)

    by : (slot : Option Right) →
        is_release_by (option_and_then (λ (right : Right). invalidate tables post right.state) slot) ≡ false
    by None = refl
    by (Some right) = in_state right.state

of_invalidation : (m : State) (p : Place) (invalidation : Invalidation) → invalidation_of m.tables m.posted ≡ Some invalidation →
    MayRelease m (outcome_of_invalidation m p invalidation)
unfolding is_release_row does_release is_release_by
of_invalidation m p (engines.Changes row tables) is =
    never m _ (sym (ap is_release_by is) ∙ invalidations_release_nothing m.tables m.posted)
of_invalidation m p (engines.Ends entry tables) is = never m _ refl
of_invalidation m p (engines.WaitsFor wait) is = never m _ refl

turn_releases : (m : State) (actor : ℕ) → MayRelease m (outcome_of m actor)
unfolding is_release_row does_release
turn_releases m =
    each_outcome m (MayRelease m)
    (record {
      nothing = never m Nothing refl;
      action = of_action m;
      step = λ p is step acting. never m _ (steps_release_nothing m p step (engine_steps m p step acting));
      invalidation = λ p is. of_invalidation m p;
    })

-- ---- what a release is

-- the entry of that row is a release
record IsRelease (e : Entry) : Type 0 where
  at : At
  file : ℕ
  index : ℕ
  block : ℕ
  entry_is : e ≡ entries.Released at file index block

release_is : (e : Entry) → is_release_row (row_of_entry e) ≡ true → IsRelease e
unfolding is_release_row
release_is (entries.Released at file index block) is = record { at = at; file = file; index = index; block = block; entry_is = refl }
release_is e is = absurd (false≢true is)

-- the block that it releases is the last of the file
block_of : (s : Store) (p : Place) (at : At) (file index block : ℕ) → FitsStore s p (entries.Released at file index block) RightBlock →
    slice_get (blocks_in s file) index ≡ Some block
block_of s p at file index block fits =
    let f = fits.0 in
    let last : length f.blocks - 1 ≡ index = omega (arith, fits.2.index_is) in
    ap (λ (slot : Option Inode). slice_get (blocks_of_slot slot) index) fits.1
    ∙ sym (ap (slice_get f.blocks) last) ∙ fits.2.block_is

-- ---- whose block it is

-- a block of a file stands in it
record HasBlock (s : Store) (file index block : ℕ) : Type 0 where
  f : Inode
  there : file_in s file ≡ Some f
  at : StandsAt f.blocks index block

has_block : (s : Store) (file index block : ℕ) → slice_get (blocks_in s file) index ≡ Some block → HasBlock s file index block
has_block s file index block is = by (file_in s file) refl is
  where
    by : (slot : Option Inode) → file_in s file ≡ slot → slice_get (blocks_of_slot slot) index ≡ Some block → HasBlock s file index block
    by None none is = absurd (none-some block is)
    by (Some f) there is = record {
      f = f;
      there = there;
      at = record { inside = slice_get_within f.blocks index block is; is = get_or_from_slice_get f.blocks index block 0 is };
    }

-- a block is one of one file
one_file : (s : Store) (one other i j block : ℕ) → Valid s → slice_get (blocks_in s one) i ≡ Some block → slice_get (blocks_in s other) j ≡ Some block →
    one ≡ other
one_file s one other i j block valid first second =
    let a = has_block s one i block first in
    let b = has_block s other j block second in
    (one_owner s.total s.files one other a.f b.f i j block valid.volume.files.valid a.there b.there a.at b.at).0

-- no translation names a block of a file without rights
unnamed : (v : Volume) (m : State) (file index block : ℕ) → IsReached v m → slice_get (blocks_in m.store file) index ≡ Some block →
    has_rights_on m.store file ≡ false → IsUnnamed m.tables block
unnamed v m file index block reached of_file none key i cell held same =
    let current = held_translations_are_current v m key i cell reached held in
    let d = current.descriptor in
    let one : d.file ≡ file = one_file m.store d.file file i index block reached.sound.calls.valid (current.of_index ∙ ap Some same) of_file in
    let some = rights-on m.store key.process key.fd d current.is_open
    (λ bare. both_ways (has_part key.part d.attached) (ap (has_part key.part) bare) current.attached) in
    both_ways (has_rights_on m.store file) none (subst (λ (id : ℕ). has_rights_on m.store id ≡ true) one some)

-- ---- the law

releases_unnamed : (v : Volume) (m : State) (actor : ℕ) → IsReached v m → (turn : Releases m (outcome_of m actor)) → IsRelease turn.entry →
    ReleasesUnnamed m actor
releases_unnamed v m actor reached turn release =
    let e = entries.Released release.at release.file release.index release.block in
    let acting = subst (λ (x : Entry). next_action m turn.p ≡ Some (processors.Adds rows.Release x)) release.entry_is turn.acting in
    let outcome : outcome_of m actor ≡ Acting rows.Release (after_adding m turn.p rows.Release e) (e ∷ []) =
    turn.outcome_is ∙ ap (λ (x : Entry). Acting rows.Release (after_adding m turn.p rows.Release x) (x ∷ [])) release.entry_is in
    let added : IsAdded v m turn.p e = turns_add_legally v m reached turn.p e (by_processor rows.Release turn.running_is acting) in
    let keeps = added_keeps v m turn.p e added in
    let of_file = block_of m.store turn.p release.at release.file release.index release.block (keeps RightBlock) in
    let before = unnamed v m release.file release.index release.block reached of_file (keeps Rights) in
    record {
      at = release.at;
      file = release.file;
      index = release.index;
      block = release.block;
      added = ap entries_added outcome;
      of_file = of_file;
      before = before;
      after = subst (λ (o : Outcome). IsUnnamed (state_after m o).tables release.block) (sym outcome) before;
    }

pub released_blocks_are_unnamed : ReleasedBlocksAreUnnamed
unfolding MayRelease is_release_row
released_blocks_are_unnamed v m actor reached answers =
    let turn = turn_releases m actor answers in
    releases_unnamed v m actor reached turn
    (release_is turn.entry (ap is_release_row (row_is m turn.p rows.Release turn.entry turn.acting)))
