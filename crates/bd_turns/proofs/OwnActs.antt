-- Own acts of calls revoke nothing, and add no entry that clears a right: only a revocation does.
use Rattle.std.proofs.Common.{◌≡◌, ℕ, Bool, true, false, cond, List, [], length, Option, None, Some, refl, sym, ap, ◌∙◌, ⊎_elim}
use Rattle.std.specs.Prelude.{slice_get}
use Rattle.std.specs.Option.{option_and_then, option_map, option_map_or, option_or}
use Rattle.std.proofs.lemmas.Bool.{both_ways}
use Rattle.bd_base.specs.declared.journal.Way.{Way}
use Rattle.bd_base.specs.declared.key.Key.{Key}
use Rattle.bd_base.specs.declared.script.Call.{Call}
use Rattle.bd_base.specs.declared.script.Call.TheVariants.{Enter, Create, Read, Write, Truncate, Unlink, Size, Map, Close, RawRead, RawWrite}
use Rattle.bd_base.specs.declared.script.How.TheVariants as hows
use Rattle.bd_base.specs.declared.volume.Inode.{Inode}
use Rattle.bd_base.specs.Inodes.{free_id, growth_block}
use Rattle.bd_base.specs.Pieces.{Piece}
use Rattle.bd_entry.specs.declared.act.Act.{Act}
use Rattle.bd_entry.specs.declared.act.Act.TheVariants as acts
use Rattle.bd_entry.specs.declared.entry.Entry.{Entry}
use Rattle.bd_entry.specs.declared.entry.Entry.TheVariants as entries
use Rattle.bd_entry.specs.Actions.{Holders, Running, access_entry, access_piece, attach_by, attach_or_map, busy, created_entry, entry_of_act, is_none_of, is_to_shrink, kernel_entry, kernel_part, move_piece, open_file, opened_entry, own_act, remove_file, revoke, submit_or_poll, truncate_to, wait_for, write_piece}
use Rattle.bd_entry.specs.Calls.{Place, does_write, fd_of, piece_end, piece_of_call}
use Rattle.bd_entry.specs.Refusals.{descriptor_of, file_of, growth_reason_of, next_size}
use Rattle.bd_entry.specs.Store.{Descriptor, Store, blocks_in, descriptor_at, file_in, lowest_fd, next_part, size_in}
use Rattle.bd_turns.specs.Sound.{is_clear}
use Rattle.bd_turns.proofs.ActionsOfCalls.{own_or_revoke}

-- ---- what is there does not pass a test

-- nothing is there, or it fails the test
abbrev pub Fails : {X : Type 0} → (X → Bool) → Option X → Type 0
Fails test o = option_map_or test o false ≡ false

pub fails-map : {X Y : Type 0} (test : Y → Bool) (f : X → Y) (o : Option X) → ((x : X) → test (f x) ≡ false) → Fails test (option_map f o)
fails-map test f None each = refl
fails-map test f (Some x) each = each x

pub fails-then : {X Y : Type 0} (test : Y → Bool) (f : X → Option Y) (o : Option X) → ((x : X) → Fails test (f x)) → Fails test (option_and_then f o)
fails-then test f None each = refl
fails-then test f (Some x) each = each x

fails-or : {X : Type 0} (test : X → Bool) (a b : Option X) → Fails test a → Fails test b → Fails test (option_or a b)
fails-or test None b first second = second
fails-or test (Some x) b first second = first

-- one of two, or what is made of something in place of another
of-map_or : {X Y : Type 0} (test : Y → Bool) (f : X → Y) (o : Option X) (none : Y) → ((x : X) → test (f x) ≡ false) → test none ≡ false →
    test (option_map_or f o none) ≡ false
of-map_or test f None none each empty = empty
of-map_or test f (Some x) none each empty = each x

of-cond : {Y : Type 0} (test : Y → Bool) (b : Bool) (x y : Y) → test x ≡ false → test y ≡ false → test (cond b x y) ≡ false
of-cond test true x y first second = first
of-cond test false x y first second = second

-- what is there and fails
pub fails-some : {X : Type 0} (test : X → Bool) (o : Option X) (x : X) → Fails test o → o ≡ Some x → test x ≡ false
fails-some test o x fails is = ap (λ (o : Option _). option_map_or test o false) (sym is) ∙ fails

-- ---- own acts revoke nothing

abbrev is_revoking : Act → Bool
is_revoking (acts.Revoke keys) = true
is_revoking act = false

-- a test of what may be there
abbrev revoking : Option Act → Bool
revoking o = option_map_or is_revoking o false

attaching : (s : Store) (d : Descriptor) → is_revoking (attach_or_map s d) ≡ false
attaching s d = of-map_or is_revoking acts.Attach (next_part s d) (acts.Mapped (length d.attached)) (λ part. refl) refl

attaching_by : (s : Store) (p : Place) (fd : ℕ) → Fails is_revoking (attach_by s p fd)
attaching_by s p fd = fails-map is_revoking (attach_or_map s) (descriptor_at s p.at.process fd) (attaching s)

opening : (s : Store) (p : Place) → Fails is_revoking (open_file s p)
opening s p =
    fails-then is_revoking (λ file. option_map (acts.Opened file) (lowest_fd s p.at.process)) (file_of s p)
    (λ file. fails-map is_revoking (acts.Opened file) (lowest_fd s p.at.process) (λ fd. refl))

submitting : (s : Store) (r : Running) → Fails is_revoking (submit_or_poll s r)
submitting s r =
    fails-or is_revoking (option_map acts.Submit _) (cond (is_none_of r.outstanding) None (Some acts.Poll))
    (fails-map is_revoking acts.Submit _ (λ number. refl))
    (of-cond revoking (is_none_of r.outstanding) None (Some acts.Poll) refl refl)

waiting : (process file : ℕ) (o : Option ℕ) → Fails is_revoking (wait_for process file o)
waiting process file None = refl
waiting process file (Some holder) = of-cond revoking _ None (Some (acts.Busy file holder)) refl refl

writing : (s : Store) (p : Place) (number : ℕ) (piece : Piece) (d : Descriptor) → is_revoking (write_piece s p number piece d) ≡ false
writing s p number piece d =
    of-map_or is_revoking (λ to. option_map_or (acts.Refuse (Some number)) (growth_reason_of s p (piece_end piece)) (acts.Extend d.file to))
    (next_size (size_in s d.file) (piece_end piece)) (access_piece p number d)
    (λ to. of-map_or is_revoking (acts.Refuse (Some number)) (growth_reason_of s p (piece_end piece)) (acts.Extend d.file to) (λ reason. refl) refl) refl

moving : (s : Store) (holders : Holders) (p : Place) → Fails is_revoking (kernel_part s holders p)
moving s holders p =
    let piece_act : ℕ → Option Act =
    λ number. option_and_then (λ piece. option_map (move_piece s p number piece) (descriptor_of s p)) (piece_of_call p.call number) in
    fails-then is_revoking (λ number. option_or (busy s holders p) (piece_act number)) _
    (λ number.
    fails-or is_revoking (busy s holders p) (piece_act number)
    (fails-then is_revoking (λ file. wait_for p.at.process file (holders file)) (file_of s p) (λ file. waiting p.at.process file (holders file)))
    (fails-then is_revoking (λ piece. option_map (move_piece s p number piece) (descriptor_of s p)) (piece_of_call p.call number)
    (λ piece.
    fails-map is_revoking (move_piece s p number piece) (descriptor_of s p)
    (λ d. of-cond is_revoking (does_write p.call) (write_piece s p number piece d) (access_piece p number d) (writing s p number piece d) refl))))

truncating : (s : Store) (p : Place) (size file : ℕ) → is_revoking (truncate_to s p size file) ≡ false
truncating s p size file =
    let grow : ℕ → Act = λ to. option_map_or (acts.Refuse None) (growth_reason_of s p size) (acts.Extend file to) in
    of-cond is_revoking (is_to_shrink s file size) (acts.Release file) (option_map_or grow (next_size (size_in s file) size) (acts.Sized size)) refl
    (of-map_or is_revoking grow (next_size (size_in s file) size) (acts.Sized size)
    (λ to. of-map_or is_revoking (acts.Refuse None) (growth_reason_of s p size) (acts.Extend file to) (λ reason. refl) refl) refl)

own_revokes_not : (s : Store) (holders : Holders) (r : Running) (call : Call) → Fails is_revoking (own_act s holders r call)
own_revokes_not s holders r (Enter name mode hows.Direct) =
    of-map_or revoking (attach_by s r.place) (fd_of r.place) (open_file s r.place) (attaching_by s r.place) (opening s r.place)
own_revokes_not s holders r (Enter name mode hows.Plain) = opening s r.place
own_revokes_not s holders r (Create name perms) = refl
own_revokes_not s holders r (Read fd off len) =
    fails-or is_revoking (submit_or_poll s r) (kernel_part s holders r.place) (submitting s r) (moving s holders r.place)
own_revokes_not s holders r (Write fd off bytes) =
    fails-or is_revoking (submit_or_poll s r) (kernel_part s holders r.place) (submitting s r) (moving s holders r.place)
own_revokes_not s holders r (Truncate fd size) = fails-map is_revoking (truncate_to s r.place size) (file_of s r.place) (truncating s r.place size)
own_revokes_not s holders r (Unlink name) =
    fails-map is_revoking (remove_file s) (file_of s r.place)
    (λ file. of-cond is_revoking (is_none_of (blocks_in s file)) acts.Unlinked (acts.Release file) refl refl)
own_revokes_not s holders r (Size fd) = fails-map is_revoking (λ file. acts.SizeRead (size_in s file)) (file_of s r.place) (λ file. refl)
own_revokes_not s holders r (Map fd) = attaching_by s r.place fd
own_revokes_not s holders r (Close fd) = refl
own_revokes_not s holders r (RawRead address range) = submitting s r
own_revokes_not s holders r (RawWrite address lo bytes) = submitting s r

-- the keys of an act
abbrev keys_in : Act → List Key
keys_in (acts.Revoke keys) = keys
keys_in act = []

-- a call revokes just the keys that it has to
pub revokes_just : (s : Store) (holders : Holders) (r : Running) (call : Call) (all keys : List Key) →
    option_or (revoke all) (own_act s holders r call) ≡ Some (acts.Revoke keys) → keys ≡ all
revokes_just s holders r call all keys is =
    ⊎_elim
    (λ own.
    absurd (both_ways (is_revoking (acts.Revoke keys))
    (fails-some is_revoking (own_act s holders r call) (acts.Revoke keys) (own_revokes_not s holders r call) own.1) refl))
    (λ revoking. ap keys_in revoking)
    (own_or_revoke all (own_act s holders r call) (acts.Revoke keys) is)

-- ---- the entry of an own act

-- whether no act of a call adds the entry: it clears or detaches a right, or notes what a walk found
abbrev pub is_by_no_act : Entry → Bool
is_by_no_act (entries.Cleared at owner fd part) = true
is_by_no_act (entries.Detached at owner fd part) = true
is_by_no_act (entries.Missed at piece found) = true
is_by_no_act e = false

opened_by_act : (p : Place) (call : Call) (file fd : ℕ) → Fails is_by_no_act (opened_entry p call file fd)
opened_by_act p (Enter name mode how) file fd = refl
opened_by_act p call file fd = refl

created_by_act : (s : Store) (p : Place) (call : Call) → Fails is_by_no_act (created_entry s p call)
created_by_act s p (Create name perms) =
    fails-map is_by_no_act (λ file. entries.Created p.at file name perms) (free_id s.files) (λ file. refl)
created_by_act s p call = refl

accessing : (s : Store) (p : Place) (number : ℕ) (way : Way) → Fails is_by_no_act (access_entry s p number way)
accessing s p number way =
    let by_fd : ℕ → Option Entry =
    λ fd. option_and_then (λ piece. option_map (kernel_entry s p number way fd piece) (descriptor_of s p)) (piece_of_call p.call number) in
    fails-then is_by_no_act by_fd (fd_of p)
    (λ fd.
    fails-then is_by_no_act (λ piece. option_map (kernel_entry s p number way fd piece) (descriptor_of s p)) (piece_of_call p.call number)
    (λ piece. fails-map is_by_no_act (kernel_entry s p number way fd piece) (descriptor_of s p) (λ d. refl)))

act_adds : (s : Store) (p : Place) (act : Act) → Fails is_by_no_act (entry_of_act s p act)
act_adds s p (acts.Busy file holder) = refl
act_adds s p (acts.Refuse piece reason) = refl
act_adds s p (acts.Opened file fd) = opened_by_act p p.call file fd
act_adds s p acts.Created = created_by_act s p p.call
act_adds s p (acts.Attach part) = fails-map is_by_no_act (λ fd. entries.Attached p.at fd part) (fd_of p) (λ fd. refl)
act_adds s p (acts.Mapped count) = fails-map is_by_no_act (λ fd. entries.Mapped p.at fd count) (fd_of p) (λ fd. refl)
act_adds s p (acts.Revoke keys) = refl
act_adds s p (acts.Extend file to) =
    fails-map is_by_no_act (λ (f : Inode). entries.Extended p.at file to (growth_block s.total s.files f)) (file_in s file) (λ f. refl)
act_adds s p (acts.Release file) = fails-map is_by_no_act _ (slice_get (blocks_in s file) _) (λ block. refl)
act_adds s p (acts.Submit piece) = refl
act_adds s p acts.Poll = refl
act_adds s p (acts.Access number way) = accessing s p number way
act_adds s p (acts.Sized size) = fails-map is_by_no_act (λ fd. entries.Sized p.at fd size) (fd_of p) (λ fd. refl)
act_adds s p (acts.SizeRead size) = fails-map is_by_no_act (λ fd. entries.SizeRead p.at fd size) (fd_of p) (λ fd. refl)
act_adds s p acts.Closed = fails-map is_by_no_act (entries.Closed p.at) (fd_of p) (λ fd. refl)
act_adds s p acts.Unlinked = fails-map is_by_no_act (entries.Unlinked p.at) (file_of s p) (λ file. refl)

pub adds_by_act : (s : Store) (p : Place) (act : Act) (e : Entry) → entry_of_act s p act ≡ Some e → is_by_no_act e ≡ false
adds_by_act s p act e is = fails-some is_by_no_act (entry_of_act s p act) e (act_adds s p act) is

-- so it clears no right
pub clears_not : (s : Store) (p : Place) (act : Act) (e : Entry) → entry_of_act s p act ≡ Some e → is_clear e ≡ false
clears_not s p act e is = by e (adds_by_act s p act e is)
  where
    by : (x : Entry) → is_by_no_act x ≡ false → is_clear x ≡ false
    by (entries.Cleared at owner fd part) not_so = not_so
    by x not_so = refl
