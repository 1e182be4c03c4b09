-- Each turn in the name of a call on a file, without pieces, leaves it fewer turns.
use Rattle.std.proofs.Common.{◌≡◌, ◌≢◌, ℕ, ◌+◌, ◌-◌, ◌*◌, ◌/◌, ◌<◌, ◌≤◌, Bool, true, false, List, [], ◌∷◌, ◌++◌, length, Option, None, Some, refl, sym, ap, ◌∙◌, subst, arith}
use Rattle.std.specs.Option.{option_and_then, option_map_or}
use Rattle.std.specs.List.{list_any}
use Rattle.std.specs.FinMap as fin
use Rattle.std.proofs.lemmas.Bool.{both_ways, false≢true, or_parts}
use Rattle.std.proofs.lemmas.List.FromFn.{length-map-range_with_len}
use Rattle.std.proofs.lemmas.Option.{same_Some}
use Rattle.bd_base.specs.declared.journal.At.{At}
use Rattle.bd_base.specs.declared.limits.TheConstants.{BLOCK_SIZE}
use Rattle.bd_base.specs.declared.script.Call.{Call}
use Rattle.bd_base.specs.declared.script.Call.TheVariants.{Enter, Create, Read, Write, Truncate, Unlink, Size, Map, Close, RawRead, RawWrite}
use Rattle.bd_base.specs.declared.script.How.{How}
use Rattle.bd_base.specs.declared.script.How.TheVariants as hows
use Rattle.bd_base.specs.declared.script.Mode.{Mode}
use Rattle.bd_base.specs.declared.volume.Inode.{Inode}
use Rattle.bd_base.specs.declared.volume.Volume.{Volume}
use Rattle.bd_base.specs.Files.{blocks_for}
use Rattle.bd_base.specs.Pieces.{Piece, piece_at, pieces}
use Rattle.bd_base.specs.Scripts.{IsCall}
use Rattle.bd_entry.specs.declared.entry.Entry.{Entry}
use Rattle.bd_entry.specs.declared.entry.Entry.TheVariants as entries
use Rattle.bd_entry.specs.Calls.{Place, at_of, fd_of, fd_of_call, is_end_of, is_made_by, is_opened, opened_fd, pieces_of_call}
use Rattle.bd_entry.specs.Effects.{after_change, effect_of}
use Rattle.bd_entry.specs.Refusals.{file_of, goal_of, goal_of_call, kernel_piece, next_size}
use Rattle.bd_entry.specs.Rules.{Once, RightBlock, RightFile, Rights, WithinLimit, place_in}
use Rattle.bd_entry.specs.RulesOfCalls.{HasFieldsOf, IsFirstOfKind}
use Rattle.bd_entry.specs.RulesOfContents.{NeedsNoLastBlock}
use Rattle.bd_entry.specs.Store.{Store, blocks_in, descriptor_at, file_in, size_at, size_in, work_of}
use Rattle.bd_entry.proofs.Accesses.{of_call-in_store, work-is_of_call}
use Rattle.bd_entry.proofs.CallEntries.{fd_of_call-append}
use Rattle.bd_entry.proofs.EffectsOnFiles.{effect_of-files}
use Rattle.bd_entry.proofs.HistoryLaws.{is_call}
use Rattle.bd_tables.specs.declared.state.RightState.TheVariants as states
use Rattle.bd_tables.specs.Effects as effects
use Rattle.bd_tables.specs.State as tables
use Rattle.bd_turns.specs.declared.turn.Row.{Row}
use Rattle.bd_turns.specs.Added.{IsAdded}
use Rattle.bd_turns.specs.Processors as processors
use Rattle.bd_turns.specs.Processors.{next_action}
use Rattle.bd_turns.specs.Reached.{IsReached}
use Rattle.bd_turns.specs.Rest.{attach_turns, is_by, is_on_file, part_turns, revocation_turns, size_turns, turns_for}
use Rattle.bd_turns.specs.State.{Progress, State, has_ended, progress_of, running}
use Rattle.bd_turns.specs.Turns.{after_adding, grown_tables, tables_after, with_hold}
use Rattle.bd_turns.proofs.ActionsOfCalls.{no_commands}
use Rattle.bd_turns.proofs.AddedEntries.{is_detach}
use Rattle.bd_turns.proofs.AttachTurns.{attach_falls, part_bound}
use Rattle.bd_turns.proofs.EffectiveTurns.{has_ended-by_end}
use Rattle.bd_turns.proofs.EntriesOfCalls.{added_made}
use Rattle.bd_turns.proofs.FilesOfCalls.{store_after, valid_after}
use Rattle.bd_turns.proofs.GrowthTurns.{size_grows, size_shrinks}
use Rattle.bd_turns.proofs.OwnRevocations.{Falls, by-passes, clear_falls, on_file-passes}
use Rattle.bd_turns.proofs.PieceTurns.{after}
use Rattle.bd_turns.proofs.RevocationTurns.{revocation_rises_not, stay_rises_not}
use Rattle.bd_turns.proofs.SizesAfter.{extended_size, released_blocks, released_size}
use Rattle.bd_turns.proofs.RunningPlaces.{runs_at}

-- the call has fewer turns left after these entries, on its file
abbrev pub OwnFalls : State → State → Place → List Entry → Option ℕ → Type 0
OwnFalls m next p added file = turns_for next (after p added) p.call file + 1 ≤ turns_for m p p.call file

-- ---- sums

one_more : (a b : ℕ) → a + 1 ≤ b → a + 1 + 1 ≤ b + 1
one_more a b less = omega arith

with_rights : (a b s t : ℕ) → a + 1 ≤ b → s ≡ t → a + s + 1 + 1 ≤ b + t + 1
with_rights a b s t less same = omega arith

with_sizes : (a b s t : ℕ) → a ≤ b → s + 1 ≤ t → a + s + 1 + 1 ≤ b + t + 1
with_sizes a b s t same less = omega arith

-- ---- calls with pieces

-- whether the call reads or writes by pieces
abbrev pub has_pieces : Call → Bool
has_pieces (Read fd off len) = true
has_pieces (Write fd off bytes) = true
has_pieces (RawRead address range) = true
has_pieces (RawWrite address lo bytes) = true
has_pieces call = false

some_of_range : (off len : ℕ) → 1 ≤ len → pieces off len ≢ []
some_of_range off len some none =
    let first = off / BLOCK_SIZE in
    let count = (off + len - 1) / BLOCK_SIZE + 1 - first in
    let size : length (pieces off len) ≡ count = length-map-range_with_len (piece_at off len) first count in
    let empty : length (pieces off len) ≡ 0 = ap (λ (l : List Piece). length l) none in
    omega (arith, size, empty, some)

-- such a call has some
pub some_pieces : (call : Call) → IsCall call → has_pieces call ≡ true → pieces_of_call call ≢ []
some_pieces (Read fd off len) within has none = some_of_range off len within.2 none
some_pieces (Write fd off bytes) within has none = some_of_range off (length bytes) within.2.1 none
some_pieces (RawRead address range) within has none =
    let empty : length (pieces_of_call (RawRead address range)) ≡ 0 = ap (λ (l : List Piece). length l) none in omega arith
some_pieces (RawWrite address lo bytes) within has none =
    let empty : length (pieces_of_call (RawWrite address lo bytes)) ≡ 0 = ap (λ (l : List Piece). length l) none in omega arith
some_pieces call within has none = false≢true has

-- another has none
pub no_pieces_of : (call : Call) → has_pieces call ≡ false → pieces_of_call call ≡ []
no_pieces_of (Read fd off len) none = absurd (false≢true (sym none))
no_pieces_of (Write fd off bytes) none = absurd (false≢true (sym none))
no_pieces_of (RawRead address range) none = absurd (false≢true (sym none))
no_pieces_of (RawWrite address lo bytes) none = absurd (false≢true (sym none))
no_pieces_of call none = refl

-- ---- revocation

-- where the rights of its file, and those of the descriptor of a close, take fewer turns, so does a call that revokes
pub revoking_falls : (m next : State) (p : Place) (added : List Entry) (file : ℕ) (at : At) (owner fd part : ℕ) →
    is_made_by p.call (entries.Cleared at owner fd part) ≡ true → Falls m next (is_on_file (Some file)) →
    ((number : ℕ) → p.call ≡ Close number → Falls m next (is_by p.at.process number)) → size_in next.store file ≡ size_in m.store file →
    OwnFalls m next p added (Some file)
revoking_falls m next p added file at owner fd part made on_file by_fd size = of p.call refl made
  where
    of : (call : Call) → p.call ≡ call → is_made_by call (entries.Cleared at owner fd part) ≡ true →
        turns_for next (after p added) call (Some file) + 1 ≤ turns_for m p call (Some file)
    of (Enter name mode hows.Plain) is made = one_more _ _ on_file
    of (Truncate number goal) is made =
        let same : size_turns (size_in next.store file) goal ≡ size_turns (size_in m.store file) goal =
        ap (λ (n : ℕ). size_turns n goal) size in
        with_rights _ _ _ _ on_file same
    of (Close number) is made = one_more _ _ (by_fd number is)
    of (Enter name mode hows.Direct) is made = absurd (false≢true made)
    of call is made = absurd (false≢true made)

-- ---- entries

-- the entry changes no file
abbrev pub keeps_files : Entry → Bool
keeps_files (entries.Cleared at owner fd part) = true
keeps_files (entries.Detached at owner fd part) = true
keeps_files e = false

pub kept_size : (s : Store) (call : Call) (e : Entry) (file : ℕ) → keeps_files e ≡ true → size_in (store_after s call e) file ≡ size_in s file
kept_size s call e file is =
    ap (λ (files : List (Option Inode)). size_at files file) ((effect_of-files s (place_in s call (at_of e)) e).files ∙ by e is)
  where
    by : (x : Entry) → keeps_files x ≡ true → (after_change s x).files ≡ s.files
    by (entries.Cleared at owner fd part) is = refl
    by (entries.Detached at owner fd part) is = refl
    by x is = absurd (false≢true is)

-- the first Opened of entries without one before it
opened-none : (entries : List Entry) → list_any is_opened entries ≡ false → opened_fd entries ≡ None
opened-none [] none = refl
opened-none (entries.Opened at file fd mode how ∷ list) none = absurd (false≢true (sym none))
opened-none (e ∷ list) none = opened-none list (or_parts (is_opened e) (list_any is_opened list) none).1

opened-some : (list : List Entry) (at : At) (file fd : ℕ) (mode : Mode) (how : _) →
    (number : ℕ) × (opened_fd (list ++ entries.Opened at file fd mode how ∷ []) ≡ Some number)
opened-some [] at file fd mode how = (fd, refl)
opened-some (entries.Opened by other number m h ∷ list) at file fd mode how = (number, refl)
opened-some (e ∷ list) at file fd mode how = opened-some list at file fd mode how

module _ (v : Volume) (m : State) (reached : IsReached v m) (p : Place) (runs : running m p.at.process ≡ Some p) (row : Row) (e : Entry)
    (added : IsAdded v m p e) (acting : next_action m p ≡ Some (processors.Adds row e)) (without : pieces_of_call p.call ≡ [])
    (detaches_not : is_detach e ≡ false) where
  abbrev next : State
  next = after_adding m p row e

  abbrev g : Progress
  g = with_hold p.call row (file_of m.store p) (progress_of m p.at.process)

  -- an entry that ends the call alone ends it
  goes_on-not_end : has_ended p.call (p.before ++ e ∷ []) g ≡ false → is_end_of p.call e ≡ true → ⊥
  goes_on-not_end unended ends =
      both_ways (has_ended p.call (p.before ++ e ∷ []) g) unended
      (has_ended-by_end p.call p.before e g ends (no_commands m p reached.sound.calls runs without))

  place_of_entry : place_in m.store p.call p.at ≡ p
  place_of_entry = ap (λ (before : List Entry). record p { before = before }) added.work_is

  store : next.store ≡ store_after m.store p.call e
  store = ap (λ (at : At). store_with_at at) (sym added.at_is)
    where
      store_with_at : At → Store
      store_with_at at = effect_of m.store (place_in m.store p.call at) e

  -- what is known of the entry as it is
  legal : (x : Entry) → e ≡ x → IsAdded v m p x
  legal x is = subst (IsAdded v m p) is added

  rights_at : (x : Entry) → e ≡ x → next.tables.rights ≡ (tables_after next.store m.tables x).rights
  rights_at x is = ap (λ (y : Entry). (tables_after next.store m.tables y).rights) is

  store_at : (x : Entry) → e ≡ x → next.store ≡ store_after m.store p.call x
  store_at x is = store ∙ ap (store_after m.store p.call) is

  place_at : (x : Entry) → e ≡ x → place_in m.store p.call (at_of x) ≡ p
  place_at x is = ap (place_in m.store p.call) (legal x is).at_is ∙ place_of_entry

  fields_at : (x : Entry) → e ≡ x → HasFieldsOf p x
  fields_at x is =
      subst (λ (q : Place). HasFieldsOf q x) (place_at x is)
      (of_call-in_store v m.script m.journal m.store p.call x (legal x is).next).fields

  first_at : (x : Entry) → e ≡ x → IsFirstOfKind p.before x
  first_at x is =
      let a = legal x is in
      subst (λ (before : List Entry). IsFirstOfKind before x)
      (sym (work-is_of_call v m.script m.journal m.store p.call x a.next) ∙ ap (work_of m.store) (ap (λ (at : At). at.process) a.at_is) ∙ a.work_is)
      (a.next.fits Once)

  -- ---- each entry

  module _ (file : ℕ) (of : file_of m.store p ≡ Some file) where
    cleared : (at : At) (owner fd part : ℕ) → e ≡ entries.Cleared at owner fd part → OwnFalls m next p (e ∷ []) (Some file)
    cleared at owner fd part is =
        let x : Entry = entries.Cleared at owner fd part in
        let a = legal x is in
        let here : IsAdded v m p (entries.Cleared p.at owner fd part) =
        subst (λ (w : At). IsAdded v m p (entries.Cleared w owner fd part)) a.at_is a in
        let tables : next.tables.rights ≡ effects.with_state m.tables.rights (record { process = owner; fd = fd; part = part }) states.Cleared =
        rights_at x is in
        revoking_falls m next p (e ∷ []) file at owner fd part (added_made v m p x a)
        (clear_falls v m next p reached runs (is_on_file (Some file)) (λ key right state. refl) (on_file-passes m p file of) owner fd part here tables refl)
        (λ number call.
        clear_falls v m next p reached runs (is_by p.at.process number) (λ key right state. refl) (by-passes m p number call) owner fd part here tables refl)
        (ap (λ (s : Store). size_in s file) (store_at x is) ∙ kept_size m.store p.call x file refl)

    -- an entry that leaves the rights
    same_rights : (x : Entry) → e ≡ x → (tables_after next.store m.tables x).rights ≡ m.tables.rights →
        revocation_turns next.tables.rights next.posted (is_on_file (Some file)) ≤ revocation_turns m.tables.rights m.posted (is_on_file (Some file))
    same_rights x is stays =
        revocation_rises_not m.tables.rights next.tables.rights m.posted m.posted (is_on_file (Some file))
        (stay_rises_not m.tables.rights next.tables.rights m.posted (is_on_file (Some file))
        (λ key. ap (λ (rights : tables.Rights). fin.get rights key) (rights_at x is ∙ stays)))

    -- the file of an entry that names it
    named_file : (x : Entry) (other : ℕ) → e ≡ x → file_of m.store (place_in m.store p.call (at_of x)) ≡ Some other → other ≡ file
    named_file x other is there = same_Some other file (sym there ∙ ap (file_of m.store) (place_at x is) ∙ of)

    released : (number goal : ℕ) (at : At) (other index block : ℕ) → p.call ≡ Truncate number goal → e ≡ entries.Released at other index block →
        turns_for next (after p (e ∷ [])) (Truncate number goal) (Some file) + 1 ≤ turns_for m p (Truncate number goal) (Some file)
    released number goal at other index block call is =
        let x : Entry = entries.Released at other index block in
        let a = legal x is in
        let same : other ≡ file = named_file x other is (a.next.keeps RightFile) in
        let f = a.next.keeps RightBlock in
        let limit = a.next.keeps WithinLimit in
        let there : file_in m.store file ≡ Some f.0 = ap (file_in m.store) (sym same) ∙ f.1 in
        let mine : limit.0 ≡ f.0 = same_Some limit.0 f.0 (sym limit.1 ∙ f.1) in
        let more : blocks_for goal < length f.0.blocks =
        subst (λ (i : Inode). blocks_for goal < length i.blocks) mine (subst (λ (c : Call). NeedsNoLastBlock c limit.0) call limit.2) in
        let enough : length f.0.blocks ≡ blocks_for f.0.size = (reached.sound.calls.valid.volume.files.valid.each file f.0 there).enough_blocks in
        let now : size_in m.store file ≡ f.0.size = ap (λ (slot : Option Inode). option_map_or (λ (i : Inode). i.size) slot 0) there in
        let size : size_in next.store file ≡ 4096 * (length f.0.blocks - 1) =
        ap (λ (s : Store). size_in s file) (store_at x is)
        ∙ subst (λ (n : ℕ). size_in (store_after m.store p.call x) n ≡ 4096 * (length f.0.blocks - 1)) same
        (released_size m.store p.call at other index block f.0 f.1) in
        with_sizes _ _ _ _ (same_rights x is refl)
        (size_shrinks (size_in m.store file) goal (length f.0.blocks) (size_in next.store file) (enough ∙ sym (ap blocks_for now)) more size)

    extended : (number goal : ℕ) (at : At) (other to : ℕ) (block : Option ℕ) → p.call ≡ Truncate number goal → e ≡ entries.Extended at other to block →
        turns_for next (after p (e ∷ [])) (Truncate number goal) (Some file) + 1 ≤ turns_for m p (Truncate number goal) (Some file)
    extended number goal at other to block call is =
        let x : Entry = entries.Extended at other to block in
        let a = legal x is in
        let same : other ≡ file = named_file x other is (a.next.keeps RightFile) in
        let f = a.next.keeps RightBlock in
        let here : Place = place_in m.store p.call at in
        let goal_is : goal_of m.store here ≡ Some goal = ap (λ (c : Call). goal_of_call c (kernel_piece m.store here)) call in
        let next_is : next_size (size_in m.store other) goal ≡ Some to =
        sym (ap (option_and_then (next_size (size_in m.store other))) goal_is) ∙ a.next.keeps WithinLimit in
        let size : size_in next.store file ≡ to =
        ap (λ (s : Store). size_in s file) (store_at x is)
        ∙ subst (λ (n : ℕ). size_in (store_after m.store p.call x) n ≡ to) same (extended_size m.store p.call at other to block f.0 f.1) in
        let grows : size_turns to goal + 1 ≤ size_turns (size_in m.store file) goal =
        subst (λ (n : ℕ). size_turns to goal + 1 ≤ size_turns (size_in m.store n) goal) same (size_grows (size_in m.store other) goal to next_is) in
        with_sizes _ _ _ _ (same_rights x is (grown next.store m.tables other to block))
        (subst (λ (n : ℕ). size_turns n goal + 1 ≤ size_turns (size_in m.store file) goal) (sym size) grows)
      where
        grown : (s : Store) (t : tables.TableState) (file to : ℕ) (block : Option ℕ) → (grown_tables s t file to block).rights ≡ t.rights
        grown s t file to None = refl
        grown s t file to (Some block) = refl

    removed : (at : At) (other index block : ℕ) → e ≡ entries.Released at other index block →
        length (blocks_in next.store file) + 1 + 1 ≤ length (blocks_in m.store file) + 1
    removed at other index block is =
        let x : Entry = entries.Released at other index block in
        let a = legal x is in
        let same : other ≡ file = named_file x other is (a.next.keeps RightFile) in
        let f = a.next.keeps RightBlock in
        let last : length f.0.blocks ≡ index + 1 = f.2.index_is in
        let fewer : length (blocks_in (store_after m.store p.call x) other) + 1 ≡ length (blocks_in m.store other) =
        released_blocks m.store p.call at other index block f.0 f.1 (omega (arith, last)) in
        let here : length (blocks_in (store_after m.store p.call x) file) + 1 ≡ length (blocks_in m.store file) =
        subst (λ (n : ℕ). length (blocks_in (store_after m.store p.call x) n) + 1 ≡ length (blocks_in m.store n)) same fewer in
        let after_is : length (blocks_in next.store file) ≡ length (blocks_in (store_after m.store p.call x) file) =
        ap (λ (s : Store). length (blocks_in s file)) (store_at x is) in
        omega (arith, here, after_is)

    opened : (name : List ℕ) (mode : Mode) (at : At) (other fd : ℕ) (m2 : Mode) (how : How) → p.call ≡ Enter name mode hows.Direct →
        e ≡ entries.Opened at other fd m2 how →
        attach_turns next.store p.at.process (opened_fd (p.before ++ e ∷ [])) + 1 ≤ attach_turns m.store p.at.process (opened_fd p.before)
    opened name mode at other fd m2 how call is =
        let x : Entry = entries.Opened at other fd m2 how in
        let none : opened_fd p.before ≡ None = opened-none p.before (first_at x is) in
        let some = opened-some p.before at other fd m2 how in
        let now : opened_fd (p.before ++ e ∷ []) ≡ Some some.0 = ap (λ (y : Entry). opened_fd (p.before ++ y ∷ [])) is ∙ some.1 in
        let old : attach_turns m.store p.at.process (opened_fd p.before) ≡ 10 = ap (attach_turns m.store p.at.process) none in
        let new : attach_turns next.store p.at.process (opened_fd (p.before ++ e ∷ [])) ≡ part_turns (descriptor_at next.store p.at.process some.0) =
        ap (attach_turns next.store p.at.process) now in
        let few = part_bound (descriptor_at next.store p.at.process some.0) in
        omega (arith, old, new, few)

    attached : (at : At) (fd part : ℕ) → e ≡ entries.Attached at fd part → fd_of p ≡ Some fd → fd_of (after p (e ∷ [])) ≡ Some fd →
        attach_turns next.store p.at.process (fd_of (after p (e ∷ []))) + 1 ≤ attach_turns m.store p.at.process (fd_of p)
    attached at fd part is before_fd after_fd =
        let x : Entry = entries.Attached at fd part in
        let a = legal x is in
        let right = a.next.keeps Rights in
        let process : at.process ≡ p.at.process = ap (λ (w : At). w.process) a.at_is in
        let falls = attach_falls m.store p.call at fd part right.0 right.1 right.2.0 (valid_after v m.script m.journal m.store p.call x a.next) in
        let mine : part_turns (descriptor_at (store_after m.store p.call x) p.at.process fd) + 1 ≤ part_turns (descriptor_at m.store p.at.process fd) =
        subst (λ (q : ℕ). part_turns (descriptor_at (store_after m.store p.call x) q fd) + 1 ≤ part_turns (descriptor_at m.store q fd)) process falls in
        let old : attach_turns m.store p.at.process (fd_of p) ≡ part_turns (descriptor_at m.store p.at.process fd) =
        ap (attach_turns m.store p.at.process) before_fd in
        let new : attach_turns next.store p.at.process (fd_of (after p (e ∷ []))) ≡ part_turns (descriptor_at (store_after m.store p.call x) p.at.process fd) =
        ap (attach_turns next.store p.at.process) after_fd
        ∙ ap (λ (s : Store). part_turns (descriptor_at s p.at.process fd)) (store_at x is) in
        omega (arith, old, new, mine)

  -- ---- all of them

  made_at : (call : Call) → p.call ≡ call → (x : Entry) → e ≡ x → is_made_by call x ≡ true
  made_at call call_is x is = subst (λ (c : Call). is_made_by c x ≡ true) call_is (added_made v m p x (legal x is))

  -- an entry of a call that goes on leaves it fewer turns
  pub entries_fall : (file : ℕ) → file_of m.store p ≡ Some file → has_ended p.call (p.before ++ e ∷ []) g ≡ false → OwnFalls m next p (e ∷ []) (Some file)
  entries_fall file of unended = of_call p.call refl e refl (made_at p.call refl e refl)
    where
      no_pieces : (call : Call) → p.call ≡ call → has_pieces call ≡ true → ⊥
      no_pieces call call_is has =
          some_pieces call
          (subst IsCall call_is (is_call m.script p.at p.call reached.sound.calls.limits (runs_at m p.at.process p runs).called)) has
          (ap pieces_of_call (sym call_is) ∙ without)

      ending : {A : Type 0} (call : Call) → p.call ≡ call → (x : Entry) → e ≡ x → is_end_of call x ≡ true → A
      ending call call_is x is ends =
          absurd (goes_on-not_end unended (ap (λ (c : Call). is_end_of c e) call_is ∙ ap (is_end_of call) is ∙ ends))

      detaching : {A : Type 0} (x : Entry) → e ≡ x → is_detach x ≡ true → A
      detaching x is detaches = absurd (both_ways (is_detach e) detaches_not (ap is_detach is ∙ detaches))

      of_clear : (call : Call) → p.call ≡ call → (at : At) (owner fd part : ℕ) → e ≡ entries.Cleared at owner fd part →
          turns_for next (after p (e ∷ [])) call (Some file) + 1 ≤ turns_for m p call (Some file)
      of_clear call call_is at owner fd part is =
          subst (λ (c : Call). turns_for next (after p (e ∷ [])) c (Some file) + 1 ≤ turns_for m p c (Some file)) call_is
          (cleared file of at owner fd part is)

      by_fd : (call : Call) → p.call ≡ call → (before : List Entry) → fd_of (record p { before = before }) ≡ fd_of_call call before
      by_fd call call_is before = ap (λ (c : Call). fd_of_call c before) call_is

      of_attach : (call : Call) → p.call ≡ call → (at : At) (fd part : ℕ) → e ≡ entries.Attached at fd part →
          attach_turns next.store p.at.process (fd_of (after p (e ∷ []))) + 1 ≤ attach_turns m.store p.at.process (fd_of p)
      of_attach call call_is at fd part is =
          let before_fd : fd_of p ≡ Some fd = fields_at (entries.Attached at fd part) is in
          attached file of at fd part is before_fd (fd_of_call-append p.call p.before (e ∷ []) fd before_fd)

      of_call : (call : Call) → p.call ≡ call → (x : Entry) → e ≡ x → is_made_by call x ≡ true →
          turns_for next (after p (e ∷ [])) call (Some file) + 1 ≤ turns_for m p call (Some file)
      of_call (Enter name mode hows.Plain) call_is (entries.Cleared at owner fd part) is made =
          of_clear (Enter name mode hows.Plain) call_is at owner fd part is
      of_call (Truncate number goal) call_is (entries.Cleared at owner fd part) is made = of_clear (Truncate number goal) call_is at owner fd part is
      of_call (Close number) call_is (entries.Cleared at owner fd part) is made = of_clear (Close number) call_is at owner fd part is
      of_call (Enter name mode hows.Plain) call_is (entries.Opened at other fd m2 how) is made =
          ending (Enter name mode hows.Plain) call_is (entries.Opened at other fd m2 how) is refl
      of_call (Enter name mode hows.Direct) call_is (entries.Opened at other fd m2 how) is made =
          subst
          (λ (before_fd : Option ℕ). attach_turns next.store p.at.process (fd_of (after p (e ∷ []))) + 1 ≤ attach_turns m.store p.at.process before_fd)
          (sym (by_fd (Enter name mode hows.Direct) call_is p.before))
          (subst
          (λ (after_fd : Option ℕ). attach_turns next.store p.at.process after_fd + 1 ≤ attach_turns m.store p.at.process (opened_fd p.before))
          (sym (by_fd (Enter name mode hows.Direct) call_is (p.before ++ e ∷ []))) (opened file of name mode at other fd m2 how call_is is))
      of_call (Enter name mode hows.Direct) call_is (entries.Attached at fd part) is made = of_attach (Enter name mode hows.Direct) call_is at fd part is
      of_call (Map number) call_is (entries.Attached at fd part) is made = of_attach (Map number) call_is at fd part is
      of_call (Enter name mode hows.Direct) call_is (entries.Mapped at fd count) is made =
          ending (Enter name mode hows.Direct) call_is (entries.Mapped at fd count) is refl
      of_call (Map number) call_is (entries.Mapped at fd count) is made = ending (Map number) call_is (entries.Mapped at fd count) is refl
      of_call (Truncate number goal) call_is (entries.Released at other index block) is made = released file of number goal at other index block call_is is
      of_call (Truncate number goal) call_is (entries.Extended at other to block) is made = extended file of number goal at other to block call_is is
      of_call (Truncate number goal) call_is (entries.Sized at fd size) is made = ending (Truncate number goal) call_is (entries.Sized at fd size) is refl
      of_call (Unlink name) call_is (entries.Released at other index block) is made = removed file of at other index block is
      of_call (Unlink name) call_is (entries.Unlinked at other) is made = ending (Unlink name) call_is (entries.Unlinked at other) is refl
      of_call (Close number) call_is (entries.Closed at fd) is made = ending (Close number) call_is (entries.Closed at fd) is refl
      of_call (Create name perms) call_is (entries.Created at other n q) is made = ending (Create name perms) call_is (entries.Created at other n q) is refl
      of_call (Size number) call_is (entries.SizeRead at fd size) is made = ending (Size number) call_is (entries.SizeRead at fd size) is refl
      of_call call call_is (entries.Refused at None reason) is made = ending call call_is (entries.Refused at None reason) is refl
      of_call call call_is (entries.Detached at owner fd part) is made = detaching (entries.Detached at owner fd part) is refl
      of_call (Read fd off len) call_is x is made = absurd (no_pieces (Read fd off len) call_is refl)
      of_call (Write fd off bytes) call_is x is made = absurd (no_pieces (Write fd off bytes) call_is refl)
      of_call (RawRead address range) call_is x is made = absurd (no_pieces (RawRead address range) call_is refl)
      of_call (RawWrite address lo bytes) call_is x is made = absurd (no_pieces (RawWrite address lo bytes) call_is refl)
      of_call (Enter name mode hows.Plain) call_is x is made = absurd (false≢true made)
      of_call (Enter name mode hows.Direct) call_is x is made = absurd (false≢true made)
      of_call call call_is x is made = absurd (false≢true made)
