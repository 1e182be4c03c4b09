-- Which entries come only from calls whose file no other process holds, and which calls clear rights.
use Rattle.std.proofs.Common.{◌≡◌, ◌⊎◌, inl, inr, ℕ, Bool, true, false, not, List, [], ◌∷◌, ◌++◌, Option, None, Some, refl, sym, ap, ◌∙◌, subst, ⊎_elim}
use Rattle.std.specs.Prelude.{is_some}
use Rattle.std.specs.Option.{option_and_then, option_map, option_map_or, option_or}
use Rattle.std.specs.List.{find, list_any}
use Rattle.std.proofs.lemmas.Bool.{false≢true, or_cases}
use Rattle.std.proofs.lemmas.Option.{none-some}
use Rattle.bd_base.specs.declared.journal.At.{At}
use Rattle.bd_base.specs.declared.key.Key.{Key}
use Rattle.bd_base.specs.declared.reason.Reason.{Reason}
use Rattle.bd_base.specs.declared.reason.Reason.TheVariants as reasons
use Rattle.bd_base.specs.declared.script.Call.{Call}
use Rattle.bd_base.specs.declared.script.Call.TheVariants.{Enter, Create, Read, Write, Truncate, Unlink, Size, Map, Close, RawRead, RawWrite}
use Rattle.bd_base.specs.declared.volume.Volume.{Volume}
use Rattle.bd_base.specs.Inodes.{id_of}
use Rattle.bd_base.specs.Keys.{same_key-is}
use Rattle.bd_entry.specs.declared.act.Act.{Act}
use Rattle.bd_entry.specs.declared.entry.Entry.{Entry}
use Rattle.bd_entry.specs.declared.entry.Entry.TheVariants as entries
use Rattle.bd_entry.specs.Actions.{busy, entry_of_act, kernel_part, keys_to_revoke, move_piece, own_act, piece_numbers, revoke, submit_or_poll}
use Rattle.bd_entry.specs.Calls.{Place, at_of, fd_of_call, is_made_by, piece_of_call}
use Rattle.bd_entry.specs.Laws.{AreOfCall, IsHistory}
use Rattle.bd_entry.specs.Promises.{is_whole_refusal}
use Rattle.bd_entry.specs.Refusals.{denial, descriptor_of, file_of, file_of_call, first_refusal, is_next_for_kernel, map_refusal, reason_if, truncate_refusal, unlink_denial_of}
use Rattle.bd_entry.specs.Rules.{place_in}
use Rattle.bd_entry.specs.RulesOfCalls.{IsOfCall, MayClear}
use Rattle.bd_entry.specs.Store.{Descriptor, Holder, Store, descriptor_at, first_open, lowest_fd}
use Rattle.bd_entry.proofs.Accesses.{of_call-in_store}
use Rattle.bd_entry.proofs.CallOrder.{start_of}
use Rattle.bd_entry.proofs.HistoryLaws.{history_leads}
use Rattle.bd_entry.proofs.NextActs.{busy_adds_none, map_or_from, open_descriptor, or_from_either, then_from}
use Rattle.bd_entry.proofs.NextPieces.{submitted_adds_none}
use Rattle.bd_turns.specs.declared.turn.Row.{Row}
use Rattle.bd_turns.specs.Added.{IsAdded}
use Rattle.bd_turns.specs.Processors as processors
use Rattle.bd_turns.specs.Processors.{action_for, next_action, running_of}
use Rattle.bd_turns.specs.Sound.{AreBegunHolding, AreCallsSound, AreHoldsSound, is_clear_at}
use Rattle.bd_turns.specs.State.{State, holder_of, running}
use Rattle.bd_turns.specs.Turns.{holds_throughout}
use Rattle.bd_turns.proofs.ActionsOfCalls.{Ahead, AloneOn, IsPassed, adds_for, ahead, alone_tested, empty-unbegun, no_commands, passed-alone, throughout-no_pieces, unbegun_passed}
use Rattle.bd_turns.proofs.Revocations.{revokes-adds}
use Rattle.bd_turns.proofs.RunningPlaces.{runs_at}

-- ---- entries of calls that hold their file

-- whether the entry changes a file, its rights or who has it open, so that its call has to hold the file
abbrev pub needs_hold : Entry → Bool
needs_hold (entries.Opened at file fd mode how) = true
needs_hold (entries.Attached at fd part) = true
needs_hold (entries.Cleared at owner fd part) = true
needs_hold (entries.Extended at file to block) = true
needs_hold (entries.Released at file index block) = true
needs_hold (entries.Sized at fd size) = true
needs_hold (entries.Closed at fd) = true
needs_hold (entries.Unlinked at file) = true
needs_hold e = false

-- such an entry is of a call that holds its file throughout, or of a write
abbrev IsHolding : Call → Type 0
IsHolding call = (holds_throughout call ≡ true) ⊎ ((fd : ℕ) × (off : ℕ) × (bytes : List ℕ) × (call ≡ Write fd off bytes))

by_create : (name : List ℕ) (perms : ℕ) (e : Entry) → is_made_by (Create name perms) e ≡ true → needs_hold e ≡ true → ⊥
by_create name perms (entries.Created at file n p) made needs = false≢true needs
by_create name perms (entries.Refused at None reason) made needs = false≢true needs
by_create name perms e made needs = false≢true made

by_read : (fd off len : ℕ) (e : Entry) → is_made_by (Read fd off len) e ≡ true → needs_hold e ≡ true → ⊥
by_read fd off len (entries.Missed at piece found) made needs = false≢true needs
by_read fd off len (entries.Access at piece f file index block range wrote way bytes) made needs = false≢true needs
by_read fd off len (entries.Refused at None reason) made needs = false≢true needs
by_read fd off len e made needs = false≢true made

by_size : (fd : ℕ) (e : Entry) → is_made_by (Size fd) e ≡ true → needs_hold e ≡ true → ⊥
by_size fd (entries.SizeRead at f size) made needs = false≢true needs
by_size fd (entries.Refused at None reason) made needs = false≢true needs
by_size fd e made needs = false≢true made

by_raw_read : (address : ℕ) (range : _) (e : Entry) → is_made_by (RawRead address range) e ≡ true → needs_hold e ≡ true → ⊥
by_raw_read address range (entries.Missed at piece found) made needs = false≢true needs
by_raw_read address range (entries.Access at piece f file index block r wrote way bytes) made needs = false≢true needs
by_raw_read address range (entries.Refused at None reason) made needs = false≢true needs
by_raw_read address range e made needs = false≢true made

by_raw_write : (address lo : ℕ) (bytes : List ℕ) (e : Entry) → is_made_by (RawWrite address lo bytes) e ≡ true → needs_hold e ≡ true → ⊥
by_raw_write address lo b (entries.Missed at piece found) made needs = false≢true needs
by_raw_write address lo b (entries.Access at piece f file index block r wrote way bytes) made needs = false≢true needs
by_raw_write address lo b (entries.Refused at None reason) made needs = false≢true needs
by_raw_write address lo b e made needs = false≢true made

pub is_holding : (call : Call) (e : Entry) → is_made_by call e ≡ true → needs_hold e ≡ true → IsHolding call
is_holding (Enter name mode how) e made needs = inl refl
is_holding (Create name perms) e made needs = absurd (by_create name perms e made needs)
is_holding (Read fd off len) e made needs = absurd (by_read fd off len e made needs)
is_holding (Write fd off bytes) e made needs = inr (fd, off, bytes, refl)
is_holding (Truncate fd size) e made needs = inl refl
is_holding (Unlink name) e made needs = inl refl
is_holding (Size fd) e made needs = absurd (by_size fd e made needs)
is_holding (Map fd) e made needs = inl refl
is_holding (Close fd) e made needs = inl refl
is_holding (RawRead address range) e made needs = absurd (by_raw_read address range e made needs)
is_holding (RawWrite address lo bytes) e made needs = absurd (by_raw_write address lo bytes e made needs)

pub needs-not_whole : (e : Entry) → needs_hold e ≡ true → is_whole_refusal e ≡ false
needs-not_whole (entries.Refused at None reason) needs = absurd (false≢true needs)
needs-not_whole e needs = refl

-- a write that adds an entry of its own act need not wait for a holder
write_free : (m : State) (p : Place) (act : Act) (e : Entry) (fd off : ℕ) (bytes : List ℕ) →
    option_or (revoke (keys_to_revoke m.store p p.call)) (own_act m.store (holder_of m) (running_of m p) p.call) ≡ Some act →
    entry_of_act m.store p act ≡ Some e → p.call ≡ Write fd off bytes → busy m.store (holder_of m) p ≡ None
write_free m p act e fd off bytes later adds is =
    let s = m.store in
    let own : own_act s (holder_of m) (running_of m p) (Write fd off bytes) ≡ Some act =
    subst (λ (c : Call). option_or (revoke (keys_to_revoke s p c)) (own_act s (holder_of m) (running_of m p) c) ≡ Some act) is later in
    ⊎_elim
    (λ submits. absurd (none-some e (sym (submitted_adds_none s (running_of m p) act submits) ∙ adds)))
    (λ kernel.
    let move : ℕ → Option Act =
    λ number. option_and_then (λ piece. option_map (move_piece s p number piece) (descriptor_of s p)) (piece_of_call p.call number) in
    let number =
    then_from (λ number. option_or (busy s (holder_of m) p) (move number)) (find (is_next_for_kernel s p) (piece_numbers p.call)) act kernel.1 in
    ⊎_elim
    (λ waits. absurd (none-some e (sym (busy_adds_none s (holder_of m) p act waits) ∙ adds)))
    (λ free. free.0)
    (or_from_either (busy s (holder_of m) p) (move number.0) act number.2))
    (or_from_either (submit_or_poll s (running_of m p)) (kernel_part s (holder_of m) p) act own)

-- no write clears a right
write_clears_not : (call : Call) (fd off : ℕ) (bytes : List ℕ) (at : At) (owner number part : ℕ) → call ≡ Write fd off bytes →
    is_made_by call (entries.Cleared at owner number part) ≡ true → ⊥
write_clears_not call fd off bytes at owner number part is made =
    false≢true (subst (λ (c : Call). is_made_by c (entries.Cleared at owner number part) ≡ true) is made)

-- the entry that a turn of a processor adds is of its call
pub added_made : (v : Volume) (m : State) (p : Place) (e : Entry) → IsAdded v m p e → is_made_by p.call e ≡ true
added_made v m p e added = (of_call-in_store v m.script m.journal m.store p.call e added.next).kind

-- the place of the turn is that of the entry in the store
pub added_place : (v : Volume) (m : State) (p : Place) (e : Entry) → IsAdded v m p e → place_in m.store p.call (at_of e) ≡ p
added_place v m p e added =
    ap (λ (at : At). place_in m.store p.call at) added.at_is ∙ ap (λ (es : List Entry). record p { before = es }) added.work_is

-- no other process holds the file of a call that adds such an entry
pub alone_adding : (v : Volume) (m : State) (p : Place) (row : Row) (e : Entry) → AreCallsSound m → AreHoldsSound m → running m p.at.process ≡ Some p →
    IsAdded v m p e → next_action m p ≡ Some (processors.Adds row e) → needs_hold e ≡ true → AloneOn m p
alone_adding v m p row e calls holds runs added acting needs =
    let made = added_made v m p e added in
    let goes : Ahead m p (processors.Adds row e) =
    ahead m p (processors.Adds row e) acting (ap not (needs-not_whole e needs)) in
    ⊎_elim
    (λ through. passed-alone m p calls holds.held_once holds.begun_holding runs goes.passes through)
    (λ writes.
    ⊎_elim
    (λ own. alone_tested m p holds.held_once (write_free m p goes.act e writes.0 writes.1 writes.2 goes.later own.0 writes.3))
    (λ revoking.
    let clears = revokes-adds m p revoking.0 row e revoking.2 in
    absurd (write_clears_not p.call writes.0 writes.1 writes.2 p.at _ _ _ writes.3 (subst (λ (x : Entry). is_made_by p.call x ≡ true) clears.entry_is made)))
    (adds_for m p goes.act row e goes.for_act))
    (is_holding p.call e made needs)

-- ---- the file of a call that holds it

by_fd : (s : Store) (process fd : ℕ) (further : Descriptor → Option Reason) →
    option_map_or further (descriptor_at s process fd) (Some reasons.BadFd) ≡ None →
    (file : ℕ) × (option_map (λ (d : Descriptor). d.file) (descriptor_at s process fd) ≡ Some file)
by_fd s process fd further none =
    let found = open_descriptor s process fd further none in
    (found.0.file, ap (option_map (λ (d : Descriptor). d.file)) found.1)

-- such a call that is not refused has a file
file_there : (s : Store) (p : Place) (call : Call) → holds_throughout call ≡ true → first_refusal s p.at.process call ≡ None →
    (file : ℕ) × (file_of_call s call (option_and_then (descriptor_at s p.at.process) (fd_of_call call p.before)) ≡ Some file)
file_there s p (Enter name mode how) through none =
    ⊎_elim
    (λ found. (found.0, found.1))
    (λ gone. absurd (none-some reasons.NoFile (sym gone.1)))
    (map_or_from (λ file. option_or (denial s p.at.process mode file) (reason_if (not (is_some (lowest_fd s p.at.process))) reasons.FdsFull))
    (id_of name s.files) (Some reasons.NoFile) None none)
file_there s p (Truncate fd size) through none = by_fd s p.at.process fd (truncate_refusal size) none
file_there s p (Unlink name) through none =
    let by : Holder → Reason = λ h. reasons.OpenBy h.process h.fd in
    ⊎_elim
    (λ found. (found.0, found.1))
    (λ gone. absurd (none-some reasons.NoFile (sym gone.1)))
    (map_or_from (λ file. option_or (unlink_denial_of s p.at.process file) (option_map by (first_open s file))) (id_of name s.files) (Some reasons.NoFile) None
    none)
file_there s p (Map fd) through none = by_fd s p.at.process fd (map_refusal s) none
file_there s p (Close fd) through none = by_fd s p.at.process fd (λ d. None) none
file_there s p call through none = absurd (false≢true through)

-- so has each that goes ahead
pub passed-file : (m : State) (p : Place) → AreCallsSound m → AreBegunHolding m → running m p.at.process ≡ Some p → IsPassed m p →
    holds_throughout p.call ≡ true → (file : ℕ) × (file_of m.store p ≡ Some file)
passed-file m p calls begun runs passes through = by p.before refl
  where
    by : (before : List Entry) → p.before ≡ before → (file : ℕ) × (file_of m.store p ≡ Some file)
    by [] empty =
        let none = no_commands m p calls runs (throughout-no_pieces p.call through) in
        file_there m.store p p.call through (unbegun_passed m p passes (empty-unbegun m p empty none)).0
    by (e ∷ before) some =
        let holds = begun p.at.process p runs through (λ none. let no : e ∷ before ≡ [] = sym some ∙ none in cc) in
        (holds.0, holds.1)

-- ---- calls that clear rights

-- an element that passes, of entries that are all of one call
entry_passing : (q : Place) (entries : List Entry) (test : Entry → Bool) → AreOfCall q entries → list_any test entries ≡ true →
    (e : Entry) × (before : List Entry) × IsOfCall (record q { before = before }) e × (test e ≡ true)
entry_passing q [] test all some = absurd (false≢true some)
entry_passing q (e ∷ entries) test all some =
    ⊎_elim
    (λ here. (e, q.before, all.0, here))
    (λ later. entry_passing (record q { before = q.before ++ e ∷ [] }) entries test all.2 later)
    (or_cases (test e) (list_any test entries) some)

-- the call clears rights, those of its own descriptor if it closes it, and this key is of one
pub record ClearsKey (call : Call) (process : ℕ) (key : Key) : Type 0 where
  pub at : At
  pub made : is_made_by call (entries.Cleared at key.process key.fd key.part) ≡ true
  pub may : MayClear call process key.process key.fd

clears_key : (q : Place) (key : Key) (e : Entry) → IsOfCall q e → is_clear_at key e ≡ true → ClearsKey q.call q.at.process key
clears_key q key (entries.Cleared at owner fd part) of is =
    let same : key ≡ record { process = owner; fd = fd; part = part } = same_key-is key (record { process = owner; fd = fd; part = part }) is in
    subst (ClearsKey q.call q.at.process) (sym same) (record { at = at; made = of.kind; may = of.fields })
clears_key q key e of is = absurd (false≢true is)

-- a running call that cleared a key may do so
pub cleared_by : (v : Volume) (m : State) (p : Place) (key : Key) → IsHistory v m.script m.journal m.store → running m p.at.process ≡ Some p →
    list_any (is_clear_at key) p.before ≡ true → ClearsKey p.call p.at.process key
cleared_by v m p key history runs some =
    let at = runs_at m p.at.process p runs in
    let all : AreOfCall (start_of p.call p.at) p.before =
    subst (AreOfCall (start_of p.call p.at)) (sym at.before_is) ((history_leads v m.script m.journal m.store history).ordered.of_call p.at p.call at.called) in
    let found = entry_passing (start_of p.call p.at) p.before (is_clear_at key) all some in
    clears_key (record (start_of p.call p.at) { before = found.1 }) key found.0 found.2 found.3

-- a call that clears rights holds its file throughout
pub clears-throughout : (call : Call) (at : At) (owner fd part : ℕ) → is_made_by call (entries.Cleared at owner fd part) ≡ true → holds_throughout call ≡ true
clears-throughout (Enter name mode how) at owner fd part made = refl
clears-throughout (Truncate fd size) at owner number part made = refl
clears-throughout (Unlink name) at owner fd part made = refl
clears-throughout (Map fd) at owner number part made = refl
clears-throughout (Close fd) at owner number part made = refl
clears-throughout call at owner fd part made = absurd (false≢true made)
