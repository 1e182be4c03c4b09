-- A running call whose file nobody else holds goes on: its next action is there and has an effect.
use Rattle.std.proofs.Common.{◌≡◌, ◌≢◌, ℕ, ◌<◌, Bool, true, false, not, ◌&&◌, cond, List, [], ◌∷◌, length, Option, None, Some, refl, sym, ap, ◌∙◌, arith, ⊎_elim}
use Rattle.std.specs.Option.{option_or}
use Rattle.std.specs.List.{list_any}
use Rattle.std.proofs.lemmas.Bool.{both_ways, cases_Bool, false≢true}
use Rattle.std.proofs.lemmas.Option.{none-some}
use Rattle.bd_base.specs.declared.script.Call.{Call}
use Rattle.bd_base.specs.declared.script.Call.TheVariants.{Enter, Create, Read, Write, Truncate, Unlink, Size, Map, Close, RawRead, RawWrite}
use Rattle.bd_base.specs.declared.script.How.TheVariants as hows
use Rattle.bd_base.specs.declared.journal.At.{At}
use Rattle.bd_entry.specs.declared.act.Act.{Act}
use Rattle.bd_entry.specs.declared.entry.Entry.{Entry}
use Rattle.bd_entry.specs.declared.entry.Entry.TheVariants as entries
use Rattle.bd_entry.specs.Actions.{Holders, Running, busy, has_begun, is_none_of, kernel_part, next_act, submit_or_poll}
use Rattle.bd_entry.specs.Calls.{fd_of_call, is_end_of, is_made_by, opened_fd, pieces_of_call}
use Rattle.bd_entry.specs.Laws.{AreOfCall}
use Rattle.bd_entry.specs.NextEntries.{IsReadyPlace, running}
use Rattle.bd_entry.specs.Refusals.{first_refusal, map_refusal}
use Rattle.bd_entry.specs.Store.{Store, descriptor_at}
use Rattle.bd_entry.proofs.NextActs.{open_descriptor}
use Rattle.bd_entry.proofs.NextOpens.{unopened}
use Rattle.bd_turns.specs.Sound.{keeps_allowed}
use Rattle.bd_turns.proofs.BusyEngines.{There}
use Rattle.bd_turns.proofs.NextActsThere.{HasOwn, IsDone, next_from_own}
use Rattle.bd_turns.proofs.OpenDescriptors.{attaches}
use Rattle.bd_turns.proofs.OwnActsThere.{close_there, create_there, direct_open_there, map_there, plain_open_there, removal_there, size_there, truncation_there}
use Rattle.bd_turns.proofs.PiecesThere.{any_of_call, raw_read_there, raw_write_there, read_there, submitted, write_there}

-- ---- calls with commands outstanding

-- where commands are outstanding one is submitted or a completion taken
outstanding_done : (s : Store) (r : Running) → is_none_of r.outstanding ≡ false → IsDone s r (submit_or_poll s r)
outstanding_done s r some =
    ⊎_elim (λ done. done) (λ left. absurd (false≢true (sym some ∙ left.1))) (submitted s r)

begun_with : (r : Running) → is_none_of r.outstanding ≡ false → has_begun r ≡ true
begun_with r some = by (is_none_of r.place.before) (is_none_of r.outstanding) some
  where
    by : (a b : Bool) → b ≡ false → not (a && b) ≡ true
    by true true some = absurd (false≢true (sym some))
    by true false some = refl
    by false b some = refl

-- a call that goes on at once with its own action
goes_on : (s : Store) (holders : Holders) (r : Running) (first own : Option Act) → has_begun r ≡ true → IsDone s r own →
    IsDone s r (option_or (cond (has_begun r) None first) own)
goes_on s holders r first own begun done = (
  done.0,
  ap (λ (b : Bool). option_or (cond b None first) own) begun ∙ done.1,
  done.2,
)

with_rest : (s : Store) (r : Running) (first rest : Option Act) → IsDone s r first → IsDone s r (option_or first rest)
with_rest s r first rest done = (done.0, ap (λ (o : Option Act). option_or o rest) done.1, done.2)

-- so does each call with commands outstanding
pub with_commands : (s : Store) (holders : Holders) (call : Call) (at : At) (before : List Entry) (outstanding : List ℕ) →
    is_none_of outstanding ≡ false → 0 < length (pieces_of_call call) →
    let r = running call at before outstanding in IsDone s r (next_act s holders r)
with_commands s holders (Read fd off len) at before outstanding some pieces =
    let r = running (Read fd off len) at before outstanding in
    goes_on s holders r _ _ (begun_with r some) (with_rest s r (submit_or_poll s r) (kernel_part s holders r.place) (outstanding_done s r some))
with_commands s holders (Write fd off bytes) at before outstanding some pieces =
    let r = running (Write fd off bytes) at before outstanding in
    goes_on s holders r _ _ (begun_with r some) (with_rest s r (submit_or_poll s r) (kernel_part s holders r.place) (outstanding_done s r some))
with_commands s holders (RawRead address range) at before outstanding some pieces =
    let r = running (RawRead address range) at before outstanding in
    goes_on s holders r _ _ (begun_with r some) (outstanding_done s r some)
with_commands s holders (RawWrite address lo bytes) at before outstanding some pieces =
    let r = running (RawWrite address lo bytes) at before outstanding in
    goes_on s holders r _ _ (begun_with r some) (outstanding_done s r some)
with_commands s holders call at before outstanding some pieces = absurd (omega arith)

-- ---- calls without

fresh : (before : List Entry) (outstanding : List ℕ) → is_none_of outstanding ≡ true → before ≡ [] →
    not (is_none_of before && is_none_of outstanding) ≡ false
fresh before outstanding none empty =
    ap (λ (l : List Entry). not (is_none_of l && is_none_of outstanding)) empty ∙ ap not none

not_fresh : (before : List Entry) (outstanding : List ℕ) → is_none_of outstanding ≡ true →
    not (is_none_of before && is_none_of outstanding) ≡ true → before ≢ []
not_fresh before outstanding none begun empty =
    both_ways (not (is_none_of before && is_none_of outstanding)) (fresh before outstanding none empty) begun

-- a call whose every entry ends it has none as it goes on
none_before : (call : Call) (at : At) (before : List Entry) → AreOfCall (record { call = call; at = at; before = [] }) before →
    ((e : Entry) → is_made_by call e ≡ true → is_end_of call e ≡ true) → list_any (is_end_of call) before ≡ false → before ≡ []
none_before call at before of ends unfinished =
    by before
    (any_of_call (λ (e : Entry). true) (record { call = call; at = at; before = [] }) before of (λ e made any. ends e made) unfinished)
  where
    by : (list : List Entry) → list_any (λ (e : Entry). true) list ≡ false → list ≡ []
    by [] none = refl
    by (e ∷ list) none = absurd (false≢true (sym none))

pub create_ends : (name : List ℕ) (perms : ℕ) (e : Entry) → is_made_by (Create name perms) e ≡ true → is_end_of (Create name perms) e ≡ true
create_ends name perms (entries.Created at file n q) made = refl
create_ends name perms (entries.Refused at None reason) made = refl
create_ends name perms e made = absurd (false≢true made)

pub size_ends : (fd : ℕ) (e : Entry) → is_made_by (Size fd) e ≡ true → is_end_of (Size fd) e ≡ true
size_ends fd (entries.SizeRead at f size) made = refl
size_ends fd (entries.Refused at None reason) made = refl
size_ends fd e made = absurd (false≢true made)

-- what is known of a call that goes on without commands, and whose file nobody else holds
pub record MayGoOn (s : Store) (holders : Holders) (call : Call) (at : At) (before : List Entry) (outstanding : List ℕ) : Type 0 where
  pub none : is_none_of outstanding ≡ true
  pub free : busy s holders (running call at before outstanding).place ≡ None
  pub ready : IsReadyPlace s (running call at before outstanding)
  pub allowed : keeps_allowed call ≡ true → has_begun (running call at before outstanding) ≡ true → first_refusal s at.process call ≡ None
  pub opened : attaches call ≡ true → before ≢ [] → (fd : ℕ) → fd_of_call call before ≡ Some fd → There (descriptor_at s at.process fd)

module _ (s : Store) (holders : Holders) (at : At) (before : List Entry) (outstanding : List ℕ) where
  -- a call of the kind that stays allowed is allowed
  kept : (call : Call) → MayGoOn s holders call at before outstanding → keeps_allowed call ≡ true →
      (has_begun (running call at before outstanding) ≡ false → first_refusal s at.process call ≡ None) → first_refusal s at.process call ≡ None
  kept call may keeps new =
      ⊎_elim (may.allowed keeps) new (cases_Bool (has_begun (running call at before outstanding)))

  -- the call's own action is there, where it may begin
  own_there : (call : Call) → MayGoOn s holders call at before outstanding →
      (has_begun (running call at before outstanding) ≡ false → first_refusal s at.process call ≡ None) →
      HasOwn s holders (running call at before outstanding)
  own_there (Enter name mode hows.Plain) may new =
      plain_open_there s holders at before outstanding name mode (kept (Enter name mode hows.Plain) may refl new)
  own_there (Enter name mode hows.Direct) may new =
      direct_open_there s holders at before outstanding name mode
      (λ fd named.
      may.opened refl (λ empty. none-some fd (sym (ap opened_fd empty) ∙ named)) fd named)
      (λ none.
      new (fresh before outstanding may.none (unopened name mode at before may.ready.of_call may.ready.unfinished none)))
  own_there (Create name perms) may new =
      create_there s holders at before outstanding name perms
      (new
      (fresh before outstanding may.none
      (none_before (Create name perms) at before may.ready.of_call (create_ends name perms) may.ready.unfinished)))
  own_there (Read fd off len) may new =
      read_there s holders at before outstanding fd off len may.free may.ready (kept (Read fd off len) may refl new)
  own_there (Write fd off bytes) may new =
      write_there s holders at before outstanding fd off bytes may.free may.ready (kept (Write fd off bytes) may refl new)
  own_there (Truncate fd size) may new =
      truncation_there s holders at before outstanding fd size may.ready.valid (kept (Truncate fd size) may refl new)
  own_there (Unlink name) may new = removal_there s holders at before outstanding name (kept (Unlink name) may refl new)
  own_there (Size fd) may new =
      size_there s holders at before outstanding fd
      (new (fresh before outstanding may.none (none_before (Size fd) at before may.ready.of_call (size_ends fd) may.ready.unfinished)))
  own_there (Map fd) may new =
      map_there s holders at before outstanding fd
      (⊎_elim
      (λ begun. may.opened refl (not_fresh before outstanding may.none begun) fd refl)
      (λ begins. let d = open_descriptor s at.process fd (map_refusal s) (new begins) in (d.0, d.1))
      (cases_Bool (has_begun (running (Map fd) at before outstanding))))
  own_there (Close fd) may new = close_there s holders at before outstanding fd
  own_there (RawRead address range) may new = raw_read_there s holders at before outstanding address range may.ready
  own_there (RawWrite address lo bytes) may new = raw_write_there s holders at before outstanding address lo bytes may.ready

  pub next_there : (call : Call) → MayGoOn s holders call at before outstanding →
      let r = running call at before outstanding in IsDone s r (next_act s holders r)
  next_there call may =
      next_from_own s holders (running call at before outstanding) may.free (λ new no_keys. own_there call may new)
