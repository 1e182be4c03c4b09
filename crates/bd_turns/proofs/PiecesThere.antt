-- The own action of a read, a write or a raw command that goes on is there.
use Rattle.std.proofs.Common.{◌≡◌, ◌⊎◌, inl, inr, ℕ, zero, suc, ◌+◌, ◌<◌, ◌≤◌, Bool, true, false, not, ◌&&◌, ◌||◌, cond, List, [], ◌∷◌, ◌++◌, length, Option, None, Some, refl, sym, ap, ◌∙◌, arith, get_or, ⊎_elim}
use Rattle.std.specs.Prelude.{nat_eq}
use Rattle.std.specs.Option.{option_and_then, option_map, option_map_or, option_or}
use Rattle.std.specs.List.{find, list_all, list_any, range_with_len}
use Rattle.std.proofs.lemmas.Bool.{and_cases, and_from, both_ways, cases_Bool, false_from_ne_true, false≢true, or_from, or_left, or_parts, or_right}
use Rattle.std.proofs.lemmas.Option.{slice_get-get_or}
use Rattle.bd_base.specs.declared.reason.Reason.{Reason}
use Rattle.bd_base.specs.declared.reason.Reason.TheVariants as reasons
use Rattle.bd_base.specs.declared.script.Call.{Call}
use Rattle.bd_base.specs.declared.script.Call.TheVariants.{Read, Write, RawRead, RawWrite}
use Rattle.bd_base.specs.declared.volume.Inode.{Inode}
use Rattle.bd_base.specs.declared.journal.At.{At}
use Rattle.bd_base.specs.Bounds.{Bounds}
use Rattle.bd_base.specs.Inodes.{growth_block}
use Rattle.bd_base.specs.Pieces.{Piece}
use Rattle.bd_base.proofs.Ranges.{find-range_fails, find-range_lowest}
use Rattle.bd_entry.specs.declared.act.Act.{Act}
use Rattle.bd_entry.specs.declared.act.Act.TheVariants as acts
use Rattle.bd_entry.specs.declared.entry.Entry.{Entry}
use Rattle.bd_entry.specs.declared.entry.Entry.TheVariants as entries
use Rattle.bd_entry.specs.Actions.{Holders, Running, access_piece, busy, is_for_device, is_none_of, is_untouched, kernel_entry, kernel_part, kernel_way, move_piece, piece_numbers, submit_or_poll, write_piece}
use Rattle.bd_entry.specs.Calls.{Place, are_all_answered, does_write, fd_of, has_missed, is_answered, is_end_of, is_made_by, is_miss_of, is_answer_of, is_raw, piece_end, piece_of_call, pieces_of_call}
use Rattle.bd_entry.specs.Laws.{AreOfCall}
use Rattle.bd_entry.specs.NextEntries.{IsReadyPlace, running}
use Rattle.bd_entry.specs.Refusals.{descriptor_of, first_refusal, goes_direct, growth_reason_of, is_for_kernel, is_next_for_kernel, is_read_only, next_size, reason_if}
use Rattle.bd_entry.specs.Store.{Descriptor, Store, Valid, descriptor_at, file_in, size_in}
use Rattle.bd_entry.proofs.NextActs.{open_descriptor}
use Rattle.bd_entry.proofs.Slots.{some_of}
use Rattle.bd_turns.proofs.NextActsThere.{HasOwn, IsDoable, IsDone, adds, polls, submits}

-- ---- entries of a call that goes on

-- a test that only entries that end the call pass is passed by none of a call that goes on
pub any_of_call : (test : Entry → Bool) (p : Place) (entries : List Entry) → AreOfCall p entries →
    ((e : Entry) → is_made_by p.call e ≡ true → test e ≡ true → is_end_of p.call e ≡ true) → list_any (is_end_of p.call) entries ≡ false →
    list_any test entries ≡ false
any_of_call test p [] of ends unfinished = refl
any_of_call test p (e ∷ entries) of ends unfinished =
    let parts = or_parts (is_end_of p.call e) (list_any (is_end_of p.call) entries) unfinished in
    or_from (test e) (list_any test entries)
    (false_from_ne_true (test e) (λ passes. both_ways (is_end_of p.call e) parts.0 (ends e of.0.kind passes)))
    (any_of_call test (record p { before = p.before ++ e ∷ [] }) entries of.2 ends parts.1)

-- ---- submissions and completions

-- a piece is submitted or a completion taken, or neither is there
pub submitted : (s : Store) (r : Running) →
    IsDone s r (submit_or_poll s r)
    ⊎ ((submit_or_poll s r ≡ None) × (is_none_of r.outstanding ≡ true)
    × (find (λ number. is_for_device s r.place number && is_untouched r number) (piece_numbers r.place.call) ≡ None))
submitted s r = by (find (λ number. is_for_device s r.place number && is_untouched r number) (piece_numbers r.place.call)) refl
  where
    none : (b : Bool) → is_none_of r.outstanding ≡ b →
        IsDone s r (cond b None (Some acts.Poll)) ⊎ ((cond b None (Some acts.Poll) ≡ None) × (b ≡ true))
    none true is = inr (refl, refl)
    none false is = inl (acts.Poll, refl, polls is)

    by : (o : Option ℕ) → find (λ number. is_for_device s r.place number && is_untouched r number) (piece_numbers r.place.call) ≡ o →
        IsDone s r (option_or (option_map acts.Submit o) (cond (is_none_of r.outstanding) None (Some acts.Poll)))
        ⊎ ((option_or (option_map acts.Submit o) (cond (is_none_of r.outstanding) None (Some acts.Poll)) ≡ None) × (is_none_of r.outstanding ≡ true)
        × (o ≡ None))
    by (Some number) is = inl (acts.Submit number, refl, submits number)
    by None is =
        ⊎_elim (λ done. inl done) (λ left. inr (left.0, left.1, refl)) (none (is_none_of r.outstanding) refl)

-- a piece that is neither answered nor missed is untouched where nothing is outstanding
untouched : (r : Running) (number : ℕ) → is_none_of r.outstanding ≡ true → is_answered number r.place.before ≡ false →
    has_missed number r.place.before ≡ false → is_untouched r number ≡ true
untouched r number none unanswered unmissed =
    ap not
    (or_from (is_answered number r.place.before || has_missed number r.place.before) (list_any (nat_eq number) r.outstanding)
    (or_from (is_answered number r.place.before) (has_missed number r.place.before) unanswered unmissed) (by r.outstanding none))
  where
    by : (list : List ℕ) → is_none_of list ≡ true → list_any (nat_eq number) list ≡ false
    by [] none = refl
    by (x ∷ xs) none = absurd (false≢true none)

-- ---- raw commands

raw_there : (s : Store) (r : Running) → is_raw r.place.call ≡ true → 0 < length (pieces_of_call r.place.call) →
    is_answered 0 r.place.before ≡ false → has_missed 0 r.place.before ≡ false → IsDone s r (submit_or_poll s r)
raw_there s r raw some unanswered unmissed =
    ⊎_elim
    (λ done. done)
    (λ left.
    let test : ℕ → Bool = λ number. is_for_device s r.place number && is_untouched r number in
    let fails : test 0 ≡ false = find-range_fails test 0 (length (pieces_of_call r.place.call)) left.2 0 (omega arith) (omega arith) in
    let passes : test 0 ≡ true =
    and_from (is_for_device s r.place 0) (is_untouched r 0) (or_left (is_raw r.place.call) _ raw) (untouched r 0 left.1 unanswered unmissed) in
    absurd (both_ways (test 0) fails passes))
    (submitted s r)

raw_read_ends : (address : ℕ) (range : Bounds) (e : Entry) → is_made_by (RawRead address range) e ≡ true →
    (is_answer_of 0 e || is_miss_of 0 e) ≡ true → is_end_of (RawRead address range) e ≡ true
raw_read_ends address range (entries.Access at piece fd file index block b wrote way bytes) made told = refl
raw_read_ends address range (entries.Missed at piece found) made told = refl
raw_read_ends address range (entries.Refused at None reason) made told = refl
raw_read_ends address range (entries.Refused at (Some piece) reason) made told = absurd (false≢true made)
raw_read_ends address range e made told = absurd (false≢true made)

raw_write_ends : (address lo : ℕ) (content : List ℕ) (e : Entry) → is_made_by (RawWrite address lo content) e ≡ true →
    (is_answer_of 0 e || is_miss_of 0 e) ≡ true → is_end_of (RawWrite address lo content) e ≡ true
raw_write_ends address lo content (entries.Access at piece fd file index block b wrote way bytes) made told = refl
raw_write_ends address lo content (entries.Missed at piece found) made told = refl
raw_write_ends address lo content (entries.Refused at None reason) made told = refl
raw_write_ends address lo content (entries.Refused at (Some piece) reason) made told = absurd (false≢true made)
raw_write_ends address lo content e made told = absurd (false≢true made)

module _ (s : Store) (holders : Holders) (at : At) (before : List Entry) (outstanding : List ℕ) where
  -- nothing tells yet of the piece of a raw command that goes on
  raw_untold : (call : Call) → AreOfCall (record { call = call; at = at; before = [] }) before →
      ((e : Entry) → is_made_by call e ≡ true → (is_answer_of 0 e || is_miss_of 0 e) ≡ true → is_end_of call e ≡ true) →
      list_any (is_end_of call) before ≡ false → (is_answered 0 before ≡ false) × (has_missed 0 before ≡ false)
  raw_untold call of ends unfinished =
      let start : Place = record { call = call; at = at; before = [] } in (
        any_of_call (is_answer_of 0) start before of (λ e made told. ends e made (or_left (is_answer_of 0 e) (is_miss_of 0 e) told)) unfinished,
        any_of_call (is_miss_of 0) start before of (λ e made told. ends e made (or_right (is_answer_of 0 e) (is_miss_of 0 e) told)) unfinished,
      )

  pub raw_read_there : (address : ℕ) (range : Bounds) → IsReadyPlace s (running (RawRead address range) at before outstanding) →
      HasOwn s holders (running (RawRead address range) at before outstanding)
  raw_read_there address range ready =
      let untold = raw_untold (RawRead address range) ready.of_call (raw_read_ends address range) ready.unfinished in
      raw_there s (running (RawRead address range) at before outstanding) refl (omega arith) untold.0 untold.1

  pub raw_write_there : (address lo : ℕ) (bytes : List ℕ) → IsReadyPlace s (running (RawWrite address lo bytes) at before outstanding) →
      HasOwn s holders (running (RawWrite address lo bytes) at before outstanding)
  raw_write_there address lo bytes ready =
      let untold = raw_untold (RawWrite address lo bytes) ready.of_call (raw_write_ends address lo bytes) ready.unfinished in
      raw_there s (running (RawWrite address lo bytes) at before outstanding) refl (omega arith) untold.0 untold.1

-- ---- pieces for the kernel

-- where not all pass, one does not
pub not_all : (test : ℕ → Bool) (a n : ℕ) → list_all test (range_with_len a n) ≡ false → (k : ℕ) × (a ≤ k) × (k < a + n) × (test k ≡ false)
not_all test a zero fails = absurd (false≢true (sym fails))
not_all test a (suc n) fails =
    ⊎_elim
    (λ here. (a, omega arith, omega arith, here))
    (λ later.
    let found = not_all test (a + 1) n later in
    let from : a + 1 ≤ found.0 = found.1 in
    let to : found.0 < a + 1 + n = found.2 in
    (found.0, omega arith, omega arith, found.3))
    (and_cases (test a) (list_all test (range_with_len (a + 1) n)) fails)

-- the kernel's access or growth for a piece has an entry
move_doable : (s : Store) (r : Running) (number : ℕ) (fd : ℕ) (piece : Piece) (d : Descriptor) → Valid s → fd_of r.place ≡ Some fd →
    piece_of_call r.place.call number ≡ Some piece → descriptor_of s r.place ≡ Some d → IsDoable s r (move_piece s r.place number piece d)
move_doable s r number fd piece d valid named piece_is of = writes (does_write r.place.call)
  where
    access : IsDoable s r (access_piece r.place number d)
    access =
        let p : Place = r.place in
        let way = kernel_way d.how (has_missed number p.before) in
        let by_descriptor : ℕ → Piece → Option Entry = λ fd piece. option_map (kernel_entry s p number way fd piece) (descriptor_of s p) in
        let by_piece : ℕ → Option Entry = λ fd. option_and_then (by_descriptor fd) (piece_of_call p.call number) in
        adds (acts.Access number way) (kernel_entry s p number way fd piece d)
        (ap (option_and_then by_piece) named ∙ ap (option_and_then (by_descriptor fd)) piece_is
        ∙ ap (option_map (kernel_entry s p number way fd piece)) of)

    opened : descriptor_at s r.place.at.process fd ≡ Some d
    opened = sym (ap (option_and_then (descriptor_at s r.place.at.process)) named) ∙ of

    grow : (to : ℕ) (o : Option Reason) → IsDoable s r (option_map_or (acts.Refuse (Some number)) o (acts.Extend d.file to))
    grow to None =
        let f = some_of (file_in s d.file) (valid.descriptors r.place.at.process fd d opened).of_file in
        let entry : Inode → Entry = λ f. entries.Extended r.place.at d.file to (growth_block s.total s.files f) in
        adds (acts.Extend d.file to) (entry f.0) (ap (option_map entry) f.1)
    grow to (Some reason) = adds (acts.Refuse (Some number) reason) (entries.Refused r.place.at (Some number) reason) refl

    grows : (o : Option ℕ) →
        IsDoable s r
        (option_map_or
        (λ to. option_map_or (acts.Refuse (Some number)) (growth_reason_of s r.place (piece_end piece)) (acts.Extend d.file to))
        o (access_piece r.place number d))
    grows None = access
    grows (Some to) = grow to (growth_reason_of s r.place (piece_end piece))

    writes : (b : Bool) → IsDoable s r (cond b (write_piece s r.place number piece d) (access_piece r.place number d))
    writes true = grows (next_size (size_in s d.file) (piece_end piece))
    writes false = access

-- the next piece for the kernel is there, and its action has an effect
kernel_there : (s : Store) (holders : Holders) (r : Running) (fd : ℕ) (d : Descriptor) → busy s holders r.place ≡ None → Valid s →
    fd_of r.place ≡ Some fd → descriptor_of s r.place ≡ Some d →
    ((k : ℕ) × (k < length (pieces_of_call r.place.call)) × (is_next_for_kernel s r.place k ≡ true)) → IsDone s r (kernel_part s holders r.place)
kernel_there s holders r fd d free valid named of next = by (find (is_next_for_kernel s r.place) (piece_numbers r.place.call)) refl
  where
    by : (o : Option ℕ) → find (is_next_for_kernel s r.place) (piece_numbers r.place.call) ≡ o →
        IsDone s r
        (option_and_then
        (λ number. option_or (busy s holders r.place)
        (option_and_then (λ piece. option_map (move_piece s r.place number piece) (descriptor_of s r.place)) (piece_of_call r.place.call number)))
        o)
    by None none =
        absurd
        (both_ways (is_next_for_kernel s r.place next.0)
        (find-range_fails (is_next_for_kernel s r.place) 0 (length (pieces_of_call r.place.call)) none next.0 (omega arith)
        (let within : next.0 < length (pieces_of_call r.place.call) = next.1 in omega arith))
        next.2)
    by (Some number) found =
        let lowest = find-range_lowest (is_next_for_kernel s r.place) 0 (length (pieces_of_call r.place.call)) number found in
        let within : number < 0 + length (pieces_of_call r.place.call) = lowest.to in
        let none : Piece = record { index = 0; range = record { lo = 0; hi = 0 } } in
        let piece : Piece = get_or (pieces_of_call r.place.call) number none in
        let piece_is : piece_of_call r.place.call number ≡ Some piece =
        slice_get-get_or (pieces_of_call r.place.call) number none (omega arith) in (
          move_piece s r.place number piece d,
          ap
              (λ (o : Option Act). option_or o
              (option_and_then (λ piece. option_map (move_piece s r.place number piece) (descriptor_of s r.place)) (piece_of_call r.place.call number)))
              free
              ∙ ap (option_and_then (λ piece. option_map (move_piece s r.place number piece) (descriptor_of s r.place))) piece_is
              ∙ ap (option_map (move_piece s r.place number piece)) of,
          move_doable s r number fd piece d valid named piece_is of,
        )

-- a piece that is not answered and does not go to the device is for the kernel
next_for_kernel : (s : Store) (r : Running) (d : Descriptor) (k : ℕ) → descriptor_of s r.place ≡ Some d → k < length (pieces_of_call r.place.call) →
    is_answered k r.place.before ≡ false → is_none_of r.outstanding ≡ true →
    (is_for_device s r.place k && is_untouched r k) ≡ false → is_next_for_kernel s r.place k ≡ true
next_for_kernel s r d k of within unanswered none not_submitted =
    let p : Place = r.place in
    let empty : Piece = record { index = 0; range = record { lo = 0; hi = 0 } } in
    let piece : Piece = get_or (pieces_of_call p.call) k empty in
    let piece_is : piece_of_call p.call k ≡ Some piece = slice_get-get_or (pieces_of_call p.call) k empty within in
    let goes : Descriptor → Bool = λ d. goes_direct d piece in
    let for_kernel : is_for_kernel s p k piece ≡ true =
    ⊎_elim
    (λ missed. or_left (has_missed k p.before) _ missed)
    (λ unmissed.
    or_right (has_missed k p.before) (not (option_map_or goes (descriptor_of s p) false))
    (⊎_elim
    (λ direct.
    let device : is_for_device s p k ≡ true =
    or_right (is_raw p.call) _
    (ap (λ (slot : Option Descriptor). option_map_or (λ d. option_map_or (goes_direct d) (piece_of_call p.call k) false) slot false) of
    ∙ ap (λ (o : Option Piece). option_map_or (goes_direct d) o false) piece_is ∙ direct) in
    absurd
    (both_ways (is_for_device s p k && is_untouched r k) not_submitted
    (and_from (is_for_device s p k) (is_untouched r k) device (untouched r k none unanswered unmissed))))
    (λ indirect. ap not (ap (λ (slot : Option Descriptor). option_map_or goes slot false) of ∙ indirect))
    (cases_Bool (goes_direct d piece))))
    (cases_Bool (has_missed k p.before)) in
    and_from (not (is_answered k p.before)) (option_map_or (is_for_kernel s p k) (piece_of_call p.call k) false) (ap not unanswered)
    (ap (λ (o : Option Piece). option_map_or (is_for_kernel s p k) o false) piece_is ∙ for_kernel)

-- a read or a write that goes on submits a piece, takes a completion, or has the kernel do a piece
pieces_there : (s : Store) (holders : Holders) (r : Running) (fd : ℕ) (d : Descriptor) → busy s holders r.place ≡ None → Valid s →
    fd_of r.place ≡ Some fd → descriptor_of s r.place ≡ Some d →
    list_all (λ number. is_answered number r.place.before) (range_with_len 0 (length (pieces_of_call r.place.call))) ≡ false →
    IsDone s r (option_or (submit_or_poll s r) (kernel_part s holders r.place))
pieces_there s holders r fd d free valid named of unfinished =
    let rest : Option Act = kernel_part s holders r.place in
    ⊎_elim
    (λ done. (done.0, ap (λ (o : Option Act). option_or o rest) done.1, done.2))
    (λ left.
    let open_piece = not_all (λ number. is_answered number r.place.before) 0 (length (pieces_of_call r.place.call)) unfinished in
    let k : ℕ = open_piece.0 in
    let within : k < 0 + length (pieces_of_call r.place.call) = open_piece.2 in
    let test : ℕ → Bool = λ number. is_for_device s r.place number && is_untouched r number in
    let fails : test k ≡ false = find-range_fails test 0 (length (pieces_of_call r.place.call)) left.2 k (omega arith) within in
    let lower : k < length (pieces_of_call r.place.call) = omega arith in
    let done = kernel_there s holders r fd d free valid named of (k, lower, next_for_kernel s r d k of lower open_piece.3 left.1 fails) in
    (done.0, ap (λ (o : Option Act). option_or o rest) left.0 ∙ done.1, done.2))
    (submitted s r)

module _ (s : Store) (holders : Holders) (at : At) (before : List Entry) (outstanding : List ℕ) where
  pub read_there : (fd off len : ℕ) → busy s holders (running (Read fd off len) at before outstanding).place ≡ None →
      IsReadyPlace s (running (Read fd off len) at before outstanding) → first_refusal s at.process (Read fd off len) ≡ None →
      HasOwn s holders (running (Read fd off len) at before outstanding)
  read_there fd off len free ready allowed =
      let call = Read fd off len in
      let d = open_descriptor s at.process fd (λ d. None) allowed in
      pieces_there s holders (running call at before outstanding) fd d.0 free ready.valid refl d.1
      (or_parts (list_any (is_end_of call) before) (are_all_answered call before) ready.unfinished).1

  pub write_there : (fd off : ℕ) (bytes : List ℕ) → busy s holders (running (Write fd off bytes) at before outstanding).place ≡ None →
      IsReadyPlace s (running (Write fd off bytes) at before outstanding) → first_refusal s at.process (Write fd off bytes) ≡ None →
      HasOwn s holders (running (Write fd off bytes) at before outstanding)
  write_there fd off bytes free ready allowed =
      let call = Write fd off bytes in
      let d = open_descriptor s at.process fd (λ d. reason_if (is_read_only d.mode) reasons.ReadOnly) allowed in
      pieces_there s holders (running call at before outstanding) fd d.0 free ready.valid refl d.1
      (or_parts (list_any (is_end_of call) before) (are_all_answered call before) ready.unfinished).1
