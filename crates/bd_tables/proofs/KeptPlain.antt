-- What always holds of plain tables, through each call.
use Rattle.std.proofs.Common.{◌≡◌, ℕ, ◌-◌, ◌<◌, ◌≤◌, ◌/◌, ◌%◌, Bool, true, false, cond, Option, None, Some, List, length, refl, sym, ap, ◌∙◌, subst, arith, set, IfSome}
use Rattle.std.specs.FinMap as fin
use Rattle.std.specs.Option.{option_map}
use Rattle.std.proofs.lemmas.List.{length-set}
use Rattle.std.proofs.lemmas.Option.{none-some, same_Some}
use Rattle.bd_base.specs.declared.journal.Found.{Found}
use Rattle.bd_base.specs.declared.journal.Found.TheVariants.{Beyond}
use Rattle.bd_base.specs.declared.key.Cell.{Cell}
use Rattle.bd_base.specs.declared.key.Key.{Key}
use Rattle.bd_base.specs.declared.key_list.TheConstants.{MOST_KEYS}
use Rattle.bd_base.specs.declared.limits.TheConstants.{PARTS, PART_BLOCKS}
use Rattle.bd_base.specs.Keys.{Pair, key_number, key_of}
use Rattle.bd_directory.specs.declared.directory.Entry.{Entry}
use Rattle.bd_directory.specs.Entries.{EntryList, entry_at, risen, with_count, with_grant}
use Rattle.bd_file_table.specs.Fragments.{Book, Cells, Fragment, cell_at, with_cell}
use Rattle.bd_lines.specs.declared.lines.TheConstants.{LINES}
use Rattle.bd_lines.specs.Lines.{filled, hit, swept}
use Rattle.bd_tables.specs.declared.request.Completion.{Completion}
use Rattle.bd_tables.specs.declared.request.Request.{Request}
use Rattle.bd_tables.specs.declared.state.Right.{Right}
use Rattle.bd_tables.specs.declared.state.RightState.TheVariants.{Cleared, Drained}
use Rattle.bd_tables.specs.declared.state.Walk.{Walk}
use Rattle.bd_tables.specs.declared.state.Walk.TheVariants.{Idle, Entered, Refused, Translated}
use Rattle.bd_tables.specs.Effects.{after_detach, attach, attach_right, change, detach, drop_unused, enter, entered_walk, look, looked_walk, none_swept, put_entry, raise_limit, read_entry, read_walk, retire, sweep_right, sweep_state, with_limit, with_state, with_walk}
use Rattle.bd_tables.specs.Kept.{AreMirrored, IsKept, IsOwnOf, fragment_of}
use Rattle.bd_tables.specs.Kernel.{IsAttachedIn, IsCleared, IsDrained, IsEmptyEntry, IsEntryUpTo, IsOn, IsSweptWhole, ReachesUpTo, SharesOrBuilds, with_cells}
use Rattle.bd_tables.specs.Plain.{Places, PlainState, cells_of, its_cells, place_at, tables_of, walk_of, walks_of}
use Rattle.bd_tables.specs.Sound.{IsKey, IsSound}
use Rattle.bd_tables.specs.State.{block_pair, cell_of, engines_in, found_entering, lookup, pair_for, pair_under, request_of, walk_at}
use Rattle.bd_tables.proofs.Kept.{in_use-attach, mirrored-attach, no_part}
use Rattle.bd_tables.proofs.KeptRights.{cleared-dark, drained-dark, in_use-change, in_use-detach, in_use-states, mirrored-change, mirrored-dark, mirrored-detach, mirrored-states, swept-dark}
use Rattle.bd_tables.proofs.KeptWalks.{left-some, mirrored-enter, mirrored-retire, mirrored-stay, own-set}
use Rattle.bd_tables.proofs.KernelSound.{attach_keeps, clear_keeps, detach_keeps, drain_keeps, put_keeps, raise_keeps, sweep_keeps}
use Rattle.bd_tables.proofs.Places.{cells_of-change, cells_of-detach, cells_of-shared, get-cells_of, place-within, walk_at-places, walks_of-set}
use Rattle.bd_tables.proofs.Sound.{enter_keeps, fill_keeps, look_keeps, read_keeps, retire_keeps}

-- ---- by the kernel

module _ (plain : PlainState) (directory : EntryList) (kept : IsKept plain directory) where
  long-with : (key : Key) (entry : Entry) → length (set directory (key_number key) entry) ≡ MOST_KEYS
  long-with key entry = length-set directory (key_number key) entry ∙ kept.entries

  pub tables-attach : (key : Key) (file : ℕ) (write : Bool) (cells : List Cell) (new : Book) → SharesOrBuilds plain.book (pair_for file key) cells new →
      tables_of (record plain { rights = attach_right plain.rights key file write; book = new }) ≡ attach (tables_of plain) key file write cells
  tables-attach key file write cells new step = λ i. record {
    rights = attach_right plain.rights key file write;
    cells = cells_of-shared plain.book (pair_for file key) cells new step i;
    lines = plain.lines;
    walks = walks_of plain.places;
  }

  pub kept-attach : (key : Key) → IsKey key → (file : ℕ) (write : Bool) → fin.get plain.rights key ≡ None → (cells : List Cell) (new : Book) →
      SharesOrBuilds plain.book (pair_for file key) cells new → (fragment : ℕ) → fragment_of new (pair_for file key) ≡ Some fragment →
      IsKept (record plain { rights = attach_right plain.rights key file write; book = new })
      (with_grant directory key (Some (record { fragment = fragment; write = write })))
  kept-attach key is_key file write none cells new step fragment number = record {
    entries = long-with key _;
    passes = kept.passes;
    mirrored = mirrored-attach plain.rights plain.book plain.places directory kept.sound.keys kept.in_use key is_key file write none cells new step
        fragment number kept.entries kept.mirrored;
    in_use = in_use-attach plain.rights plain.book plain.places directory kept.sound.keys kept.in_use key is_key file write none cells new step
        fragment number;
    sound = subst IsSound (sym (tables-attach key file write cells new step))
        (attach_keeps (tables_of plain) kept.sound key file write cells is_key none);
  }

  pub kept-clear : (key : Key) → IsKey key → IsAttachedIn IsOn (fin.get plain.rights key) →
      IsKept (record plain { rights = with_state plain.rights key Cleared }) (with_grant directory key None)
  kept-clear key is_key on = record {
    entries = long-with key _;
    passes = kept.passes;
    mirrored = mirrored-dark plain.rights plain.book plain.places key is_key (λ s. Cleared) directory kept.entries
        (cleared-dark plain.book key (fin.get plain.rights key)) kept.mirrored;
    in_use = in_use-states plain.rights plain.book plain.places key is_key (λ s. Cleared) kept.in_use;
    sound = clear_keeps (tables_of plain) kept.sound key on;
  }

  pub kept-drain : (key : Key) → IsKey key → IsAttachedIn IsCleared (fin.get plain.rights key) → engines_in (walks_of plain.places) key ≡ 0 →
      IsKept (record plain { rights = with_state plain.rights key (Drained none_swept) }) directory
  kept-drain key is_key cleared nobody = record {
    entries = kept.entries;
    passes = kept.passes;
    mirrored = mirrored-states plain.rights plain.book plain.places key is_key (λ s. Drained none_swept) directory
        (drained-dark plain.book key (fin.get plain.rights key) cleared) kept.mirrored;
    in_use = in_use-states plain.rights plain.book plain.places key is_key (λ s. Drained none_swept) kept.in_use;
    sound = drain_keeps (tables_of plain) kept.sound key nobody;
  }

  pub kept-sweep : (key : Key) → IsKey key → (c : ℕ) → c < LINES → IsAttachedIn IsDrained (fin.get plain.rights key) →
      IsKept (record plain { rights = sweep_right plain.rights c key; lines = swept plain.lines c key }) directory
  kept-sweep key is_key c below drained = record {
    entries = kept.entries;
    passes = kept.passes;
    mirrored = mirrored-states plain.rights plain.book plain.places key is_key (sweep_state c) directory
        (swept-dark c plain.book key (fin.get plain.rights key) drained) kept.mirrored;
    in_use = in_use-states plain.rights plain.book plain.places key is_key (sweep_state c) kept.in_use;
    sound = sweep_keeps (tables_of plain) kept.sound c key below drained;
  }

  pub tables-detach : (key : Key) (right : Right) → fin.get plain.rights key ≡ Some right →
      tables_of (record plain {
        rights = fin.remove plain.rights key;
        book = drop_unused (fin.remove plain.rights key) (pair_under key right) plain.book;
      }) ≡ detach (tables_of plain) key
  tables-detach key right has =
      let rights = fin.remove plain.rights key in
      let cells = cells_of-detach rights key (Some right) plain.book ∙ ap (λ v. after_detach rights key v (cells_of plain.book)) (sym has) in
      λ i. record { rights = rights; cells = cells i; lines = plain.lines; walks = walks_of plain.places }

  pub kept-detach : (key : Key) (right : Right) → fin.get plain.rights key ≡ Some right → IsSweptWhole right.state →
      IsKept (record plain {
        rights = fin.remove plain.rights key;
        book = drop_unused (fin.remove plain.rights key) (pair_under key right) plain.book;
      }) directory
  kept-detach key right has whole = record {
    entries = kept.entries;
    passes = kept.passes;
    mirrored = mirrored-detach plain.rights plain.book plain.places kept.sound.keys kept.in_use key right has directory whole kept.mirrored;
    in_use = in_use-detach plain.rights plain.book plain.places kept.sound.keys kept.in_use key right has;
    sound = subst IsSound (sym (tables-detach key right has))
        (detach_keeps (tables_of plain) kept.sound key (subst (IsAttachedIn IsSweptWhole) (sym has) whole));
  }

  tables-entry : (pair : Pair) (f : Cells → Cells) →
      tables_of (record plain { book = change plain.book pair (with_cells f) }) ≡ record (tables_of plain) { cells = change (cells_of plain.book) pair f }
  tables-entry pair f = λ i. record {
    rights = plain.rights;
    cells = cells_of-change plain.book pair f i;
    lines = plain.lines;
    walks = walks_of plain.places;
  }

  kept-entry : (pair : Pair) (f : Cells → Cells) → IsSound (record (tables_of plain) { cells = change (cells_of plain.book) pair f }) →
      IsKept (record plain { book = change plain.book pair (with_cells f) }) directory
  kept-entry pair f sound = record {
    entries = kept.entries;
    passes = kept.passes;
    mirrored = mirrored-change plain.rights plain.book plain.places pair f directory kept.mirrored;
    in_use = in_use-change plain.rights plain.book plain.places pair f kept.in_use;
    sound = subst IsSound (sym (tables-entry pair f)) sound;
  }

  -- what is said of the cells of a fragment is said of the cells
  of_cells : (pair : Pair) (P : Cells → Type 0) → IfSome (fin.get plain.book pair) (λ fragment. P fragment.cells) →
      IfSome (fin.get (cells_of plain.book) pair) P
  of_cells pair P is = subst (λ v. IfSome v P) (sym (get-cells_of plain.book pair)) (go (fin.get plain.book pair) is)
    where
      go : (v : Option Fragment) → IfSome v (λ fragment. P fragment.cells) → IfSome (option_map its_cells v) P
      go None is = tt
      go (Some fragment) is = is

  pub tables-put : (file index : ℕ) (cell : Cell) →
      tables_of (record plain { book = change plain.book (block_pair file index) (with_cells (with_cell (index % PART_BLOCKS) cell)) })
      ≡ put_entry (tables_of plain) file index cell
  tables-put file index cell = tables-entry (block_pair file index) (with_cell (index % PART_BLOCKS) cell)

  pub kept-put : (file index : ℕ) (cell : Cell) → IsEmptyEntry plain.book file index →
      IsKept (record plain { book = change plain.book (block_pair file index) (with_cells (with_cell (index % PART_BLOCKS) cell)) }) directory
  kept-put file index cell empty =
      kept-entry (block_pair file index) (with_cell (index % PART_BLOCKS) cell)
      (put_keeps (tables_of plain) kept.sound file index cell (of_cells (block_pair file index) (λ cells. cell_at cells (index % PART_BLOCKS) ≡ None) empty))

  pub tables-raise : (file index limit : ℕ) →
      tables_of (record plain { book = change plain.book (block_pair file index) (with_cells (with_limit (index % PART_BLOCKS) limit)) })
      ≡ raise_limit (tables_of plain) file index limit
  tables-raise file index limit = tables-entry (block_pair file index) (with_limit (index % PART_BLOCKS) limit)

  pub kept-raise : (file index limit : ℕ) → IsEntryUpTo plain.book file index limit →
      IsKept (record plain { book = change plain.book (block_pair file index) (with_cells (with_limit (index % PART_BLOCKS) limit)) }) directory
  kept-raise file index limit up =
      kept-entry (block_pair file index) (with_limit (index % PART_BLOCKS) limit)
      (raise_keeps (tables_of plain) kept.sound file index limit
      (of_cells (block_pair file index) (λ cells. ReachesUpTo limit (cell_at cells (index % PART_BLOCKS))) up))

  pub past-none : (file index : ℕ) → PARTS ≤ index / PART_BLOCKS → fin.get plain.book (block_pair file index) ≡ None
  past-none file index past = no_part plain.rights plain.book kept.in_use kept.sound.keys (block_pair file index) past

-- ---- by engines

tables-walk : (plain : PlainState) (process : ℕ) (place : Option Walk) →
    tables_of (record plain { places = set plain.places process place }) ≡ with_walk (tables_of plain) process (walk_of place)
tables-walk plain process place = λ i. record {
  rights = plain.rights;
  cells = cells_of plain.book;
  lines = plain.lines;
  walks = walks_of-set plain.places process place i;
}

entered-request : (request : Request) (found : Option Found) → request_of (entered_walk request found) ≡ Some request
entered-request request None = refl
entered-request request (Some found) = refl

looked-request : (request : Request) (cell : Option Cell) → request_of (looked_walk request cell) ≡ Some request
looked-request request None = refl
looked-request request (Some cell) = refl

read_far-request : (request : Request) (cell : Cell) (completion : Completion) (b : Bool) →
    request_of (cond b (Translated request completion) (Refused request (Beyond cell.limit))) ≡ Some request
read_far-request request cell completion true = refl
read_far-request request cell completion false = refl

read-request : (request : Request) (cell : Option Cell) → request_of (read_walk request cell) ≡ Some request
read-request request None = refl
read-request request (Some cell) = read_far-request request cell _ _

module _ (plain : PlainState) (directory : EntryList) (kept : IsKept plain directory) (process : ℕ) (walk : Walk)
    (at : place_at plain.places process ≡ Some walk) where
  within : process < length plain.places
  within = place-within plain.places process walk at

  pub walk-there : walk_at (walks_of plain.places) process ≡ walk
  walk-there = walk_at-places plain.places process ∙ ap walk_of at

  pub own-request : (request : Request) → request_of walk ≡ Some request → IsOwnOf process request
  own-request request is = kept.passes.own process request (ap request_of walk-there ∙ is)

  -- the engine comes to a place of its walk
  kept-walk : (new : Walk) (after : EntryList) → length after ≡ MOST_KEYS →
      AreMirrored plain.rights plain.book (set plain.places process (Some new)) after →
      ((request : Request) → request_of new ≡ Some request → IsOwnOf process request) → IsSound (with_walk (tables_of plain) process new) →
      IsKept (record plain { places = set plain.places process (Some new) }) after
  kept-walk new after long mirrored own sound = record {
    entries = long;
    passes = own-set plain.places kept.passes process within (Some new) own;
    mirrored = mirrored;
    in_use = kept.in_use;
    sound = subst IsSound (sym (tables-walk plain process (Some new))) sound;
  }

  -- the engine stays in its key
  kept-stay : (request : Request) → request_of walk ≡ Some request → (new : Walk) → request_of new ≡ Some request →
      IsSound (with_walk (tables_of plain) request.key.process new) →
      IsKept (record plain { places = set plain.places process (Some new) }) directory
  kept-stay request is new now sound =
      let own = own-request request is in
      kept-walk new directory kept.entries
      (mirrored-stay plain.rights plain.book plain.places directory kept.entries kept.passes.few kept.mirrored process walk new at (now ∙ sym is))
      (λ other there. subst (IsOwnOf process) (same_Some _ _ (sym now ∙ there)) own)
      (subst (λ p. IsSound (with_walk (tables_of plain) p new)) own.process sound)

  tables-stay : (request : Request) → request_of walk ≡ Some request → (new : Walk) →
      tables_of (record plain { places = set plain.places process (Some new) }) ≡ with_walk (tables_of plain) request.key.process new
  tables-stay request is new =
      tables-walk plain process (Some new) ∙ ap (λ p. with_walk (tables_of plain) p new) (sym (own-request request is).process)

  there-own : (request : Request) → request_of walk ≡ Some request → walk_at (walks_of plain.places) request.key.process ≡ walk
  there-own request is = ap (walk_at (walks_of plain.places)) (own-request request is).process ∙ walk-there

  pub kept-look : (request : Request) → walk ≡ Entered request →
      IsKept (record plain { places = set plain.places process (Some (looked_walk request (hit plain.lines request.key request.index request.hi))) }) directory
  kept-look request is =
      kept-stay request (ap request_of is) _ (looked-request request _)
      (look_keeps (tables_of plain) kept.sound request (there-own request (ap request_of is) ∙ is))

  pub tables-look : (request : Request) → walk ≡ Entered request →
      tables_of (record plain { places = set plain.places process (Some (looked_walk request (hit plain.lines request.key request.index request.hi))) })
      ≡ look (tables_of plain) request
  tables-look request is = tables-stay request (ap request_of is) _

  pub kept-read : (request : Request) → walk ≡ Entered request →
      IsKept (record plain { places = set plain.places process (Some (read_walk request (lookup (tables_of plain) request.key request.index))) }) directory
  kept-read request is =
      kept-stay request (ap request_of is) _ (read-request request _)
      (read_keeps (tables_of plain) kept.sound request (there-own request (ap request_of is) ∙ is))

  pub tables-read : (request : Request) → walk ≡ Entered request →
      tables_of (record plain { places = set plain.places process (Some (read_walk request (lookup (tables_of plain) request.key request.index))) })
      ≡ read_entry (tables_of plain) request
  tables-read request is = tables-stay request (ap request_of is) _

  pub kept-fill : (request : Request) (completion : Completion) → walk ≡ Translated request completion →
      IsKept (record plain { lines = filled plain.lines request.key request.index (cell_of completion) }) directory
  kept-fill request completion is = record {
    entries = kept.entries;
    passes = kept.passes;
    mirrored = kept.mirrored;
    in_use = kept.in_use;
    sound = fill_keeps (tables_of plain) kept.sound process request completion (walk-there ∙ is);
  }

  pub some-inside : (request : Request) → request_of walk ≡ Some request → 0 < (entry_at directory request.key).count
  some-inside request is =
      left-some plain.rights plain.book plain.places directory kept.entries kept.passes.few kept.mirrored process walk at request.key
      (own-request request is).key request refl is

  pub kept-retire : (request : Request) → request_of walk ≡ Some request →
      IsKept (record plain { places = set plain.places process (Some Idle) })
      (with_count directory request.key ((entry_at directory request.key).count - 1))
  kept-retire request is =
      kept-walk Idle _ (length-set directory (key_number request.key) _ ∙ kept.entries)
      (mirrored-retire plain.rights plain.book plain.places directory kept.entries kept.passes.few kept.mirrored process walk at request.key
      (own-request request is).key request refl is)
      (λ other there. absurd (none-some other there))
      (retire_keeps (tables_of plain) kept.sound process)

  pub tables-retire : tables_of (record plain { places = set plain.places process (Some Idle) }) ≡ retire (tables_of plain) process
  tables-retire = tables-walk plain process (Some Idle)

-- the walk after an enter of these tables
abbrev pub walk_entered : PlainState → Request → Walk
walk_entered plain request = entered_walk request (found_entering (fin.get plain.rights request.key) request.write)

module _ (plain : PlainState) (directory : EntryList) (kept : IsKept plain directory) (process : ℕ) (at : place_at plain.places process ≡ Some Idle)
    (request : Request) (own : process ≡ request.key.process) where
  pub kept-enter : IsKey request.key →
      IsKept (record plain { places = set plain.places process (Some (walk_entered plain request)) })
      (with_count directory request.key (risen (entry_at directory request.key).count))
  kept-enter is_key =
      let found : Option Found = found_entering (fin.get plain.rights request.key) request.write in
      kept-walk plain directory kept process Idle at (entered_walk request found) _ (length-set directory (key_number request.key) _ ∙ kept.entries)
      (mirrored-enter plain.rights plain.book plain.places directory kept.entries kept.passes.few kept.mirrored process at request.key is_key request refl
      (entered_walk request found) (entered-request request found))
      (λ other there.
      subst (IsOwnOf process) (same_Some _ _ (sym (entered-request request found) ∙ there)) (record { process = sym own; key = is_key }))
      (subst (λ p. IsSound (with_walk (tables_of plain) p (entered_walk request found))) (sym own) (enter_keeps (tables_of plain) kept.sound request))

  pub tables-enter : tables_of (record plain { places = set plain.places process (Some (walk_entered plain request)) }) ≡ enter (tables_of plain) request
  tables-enter =
      let new : Walk = entered_walk request (found_entering (fin.get plain.rights request.key) request.write) in
      tables-walk plain process (Some new) ∙ ap (λ p. with_walk (tables_of plain) p new) own

-- a pass is lent or taken back
pub kept-lent : (plain : PlainState) (directory : EntryList) → IsKept plain directory → (after : Places) → walks_of after ≡ walks_of plain.places →
    length after ≡ length plain.places → IsKept (record plain { places = after }) directory
kept-lent plain directory kept after same long = record {
  entries = kept.entries;
  passes = record {
    few = omega (arith, kept.passes.few, long);
    own = λ process request is. kept.passes.own process request (ap (λ ws. request_of (walk_at ws process)) (sym same) ∙ is);
  };
  mirrored = λ n below.
      let old = kept.mirrored n below in
      record { grant = old.grant; count = old.count ∙ ap (λ ws. engines_in ws (key_of n)) (sym same) };
  in_use = kept.in_use;
  sound = subst (λ ws. IsSound (record (tables_of plain) { walks = ws })) (sym same) kept.sound;
}
