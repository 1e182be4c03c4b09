-- What a process waits for.
use Rattle.std.proofs.Common.{◌≡◌, ◌≢◌, ℕ, zero, suc, ◌<◌, ◌≤◌, Bool, true, false, cond, List, [], ◌∷◌, length, map, Option, None, Some, refl, sym, ap, ◌∙◌, subst, arith}
use Rattle.std.specs.Prelude.{min, slice_index_or, All, Contains}
use Rattle.std.specs.Option.{option_and_then, option_map, option_map_or}
use Rattle.std.proofs.lemmas.Bool.{false≢true}
use Rattle.std.proofs.lemmas.List.Elements.{All-head, All-tail}
use Rattle.std.proofs.lemmas.Option.{none-some, same_Some}
use Rattle.bd_base.specs.declared.key.Key.{Key}
use Rattle.bd_base.specs.declared.script.Call.{Call}
use Rattle.bd_base.specs.declared.script.Script.{Script}
use Rattle.bd_entry.specs.declared.act.Act.{Act}
use Rattle.bd_entry.specs.declared.act.Act.TheVariants as acts
use Rattle.bd_entry.specs.declared.entry.Entry.{Entry}
use Rattle.bd_entry.specs.Actions.{Holders, Running, entry_of_act, is_none_of, next_act}
use Rattle.bd_entry.specs.Calls.{Place}
use Rattle.bd_entry.specs.Store.{Store, user_of}
use Rattle.bd_fs.specs.Files.{Files}
use Rattle.bd_kernel.specs.declared.blocker.Blocker.{Blocker}
use Rattle.bd_kernel.specs.declared.blocker.Blocker.TheVariants as blockers
use Rattle.bd_kernel.specs.Blockers.{blocker_in}
use Rattle.bd_kernel.specs.Disks.{files_on, table_on}
use Rattle.bd_kernel.specs.Holders.{Table, holder_in}
use Rattle.bd_kernel.specs.Sights.{place_of, store_of}
use Rattle.bd_kernel.specs.Turns as kernel
use Rattle.bd_machine.specs.declared.parts.Parts.{Parts}
use Rattle.bd_machine.specs.declared.process.Process.{Process}
use Rattle.bd_machine.specs.Shows.{IsCallAt, IsNotBegun, Shows, completed_of}
use Rattle.bd_machine.specs.Turns.{HasCompletion, IsAt, IsNextAct, IsNextBlocker, process_in, wait_in, wait_of}
use Rattle.bd_machine.proofs.ProcessorCommands.{outstanding_kept}
use Rattle.bd_machine.proofs.ProcessorFacts.{outcome_at}
use Rattle.bd_machine.proofs.ProcessorHolds.{holder_shown}
use Rattle.bd_machine.proofs.ProcessorKinds.{built_here, polls_some, revokes_nothing}
use Rattle.bd_machine.proofs.ProcessorNext.{store_shown}
use Rattle.bd_queue_pair.specs.declared.command.Done.{Done}
use Rattle.bd_turns.specs.declared.turn.Wait.{Wait}
use Rattle.bd_turns.specs.declared.turn.Wait.TheVariants as waits
use Rattle.bd_turns.specs.Processors as processors
use Rattle.bd_turns.specs.Processors.{action_for, least_of, least_outstanding, row_of_entry, running_of}
use Rattle.bd_turns.specs.State.{Completed, Progress, State, holder_of, outstanding, progress_of, running}
use Rattle.bd_turns.specs.Turns.{Nothing, Outcome, Waiting, outcome_of, outcome_of_action}
use Rattle.bd_turns.proofs.Cases.{running_process}
use Rattle.bd_tables.specs.declared.sides.Tables as sides

-- ---- the act of a call that waits

abbrev file_held : Blocker → ℕ
file_held (blockers.Holder file holder) = file
file_held blockers.Completion = 0

abbrev holder_held : Blocker → ℕ
holder_held (blockers.Holder file holder) = holder
holder_held blockers.Completion = 0

abbrev is_completion : Blocker → Bool
is_completion (blockers.Holder file holder) = false
is_completion blockers.Completion = true

-- that of one that waits for a holder
busy_waits : (file holder : ℕ) (o : Option Act) → blocker_in o ≡ Some (blockers.Holder file holder) → o ≡ Some (acts.Busy file holder)
busy_waits file holder None is = absurd (none-some (blockers.Holder file holder) is)
busy_waits file holder (Some (acts.Busy f h)) is =
    let same : blockers.Holder f h ≡ blockers.Holder file holder = same_Some (blockers.Holder f h) (blockers.Holder file holder) is in
    λ i. Some (acts.Busy (file_held (same i)) (holder_held (same i)))
busy_waits file holder (Some acts.Poll) is =
    absurd (false≢true (sym (ap is_completion (same_Some blockers.Completion (blockers.Holder file holder) is))))
busy_waits file holder (Some act) is = absurd (none-some (blockers.Holder file holder) is)

-- that of one that waits for a completion
polling_waits : (o : Option Act) → blocker_in o ≡ Some blockers.Completion → o ≡ Some acts.Poll
polling_waits None is = absurd (none-some blockers.Completion is)
polling_waits (Some (acts.Busy f h)) is =
    absurd (false≢true (ap is_completion (same_Some (blockers.Holder f h) blockers.Completion is)))
polling_waits (Some acts.Poll) is = refl
polling_waits (Some act) is = absurd (none-some blockers.Completion is)

-- ---- what an act waits for

-- what a turn with this act waits for
abbrev wait_with : State → Place → Option Act → Option Wait
wait_with m p o = wait_in (option_map_or (outcome_of_action m p) (option_and_then (action_for m p) o) Nothing)

-- an entry waits for nothing
adding : (m : State) (p : Place) (o : Option Entry) →
    wait_in (option_map_or (outcome_of_action m p) (option_map (λ entry. processors.Adds (row_of_entry entry) entry) o) Nothing) ≡ None
adding m p None = refl
adding m p (Some entry) = refl

-- nor does a call with no blocker, where it revokes nothing
unblocked : (m : State) (p : Place) (o : Option Act) → blocker_in o ≡ None → ((keys : List Key) → o ≡ Some (acts.Revoke keys) → ⊥) →
    wait_with m p o ≡ None
unblocked m p None free none = refl
unblocked m p (Some (acts.Busy file holder)) free none = absurd (none-some (blockers.Holder file holder) (sym free))
unblocked m p (Some (acts.Revoke keys)) free none = absurd (none keys refl)
unblocked m p (Some (acts.Submit piece)) free none = refl
unblocked m p (Some acts.Poll) free none = absurd (none-some blockers.Completion (sym free))
unblocked m p (Some act) free none = adding m p (entry_of_act m.store p act)

-- a poll waits where no completion has come
abbrev completion_awaited : State → Place → Wait
completion_awaited m p = waits.Completion (least_outstanding (outstanding (progress_of m p.at.process)))

polling : (m : State) (p : Place) (come : List Completed) → (progress_of m p.at.process).completed ≡ come →
    wait_with m p (Some acts.Poll) ≡ cond (is_none_of come) (Some (completion_awaited m p)) None
polling m p come is =
    ap (λ (l : List Completed). wait_in (outcome_of_action m p (cond (is_none_of l) (processors.WaitsFor (completion_awaited m p)) processors.Polls))) is
    ∙ by come
  where
    by : (l : List Completed) →
        wait_in (outcome_of_action m p (cond (is_none_of l) (processors.WaitsFor (completion_awaited m p)) processors.Polls))
        ≡ cond (is_none_of l) (Some (completion_awaited m p)) None
    by [] = refl
    by (first ∷ rest) = refl

-- ---- what a process waits for

-- that which the next act of its running call waits for
wait_at : (m : State) (process : ℕ) (p : Place) → running m process ≡ Some p →
    wait_of m process ≡ wait_with m p (next_act m.store (holder_of m) (running_of m p))
wait_at m process p runs = ap wait_in (outcome_at m process p runs)

-- the holder of a file, where that is its blocker
pub wait_held : (m : State) (process file holder : ℕ) → IsNextBlocker m process (Some (blockers.Holder file holder)) →
    Some (waits.Busy file holder) ≡ wait_of m process
wait_held m process file holder next =
    let p = next.place in
    let act = next_act m.store (holder_of m) (running_of m p) in
    sym (wait_at m process p next.running_is ∙ ap (λ (o : Option Act). wait_with m p o) (busy_waits file holder act (sym next.blocker_is)))

-- a completion, where that is its blocker and none has come
wait_polled : (m : State) (process : ℕ) (come : List Completed) → (progress_of m process).completed ≡ come →
    (next : IsNextBlocker m process (Some blockers.Completion)) →
    wait_of m process ≡ cond (is_none_of come) (Some (completion_awaited m next.place)) None
wait_polled m process come has next =
    let p = next.place in
    let act = next_act m.store (holder_of m) (running_of m p) in
    wait_at m process p next.running_is ∙ ap (λ (o : Option Act). wait_with m p o) (polling_waits act (sym next.blocker_is))
    ∙ polling m p come (ap (λ (n : ℕ). (progress_of m n).completed) (running_process m process p next.running_is) ∙ has)

-- nothing, where it has no blocker
pub wait_free : {T M P : Type 0} {K : sides.Ghosts T P} (script : Script) (x : Parts T M P) (m : State) (process : ℕ) → IsAt K script x m →
    IsNextBlocker m process None → None ≡ wait_of m process
wait_free script x m process is next =
    let p = next.place in
    let built = built_here script x m process p is next.running_is in
    sym
    (wait_at m process p next.running_is
    ∙ unblocked m p (next_act m.store (holder_of m) (running_of m p)) (sym next.blocker_is)
    (λ keys revokes. revokes_nothing m.store (holder_of m) (running_of m p) keys built revokes))

-- the outcome of a turn that waits
pub waits_of : (m : State) (process : ℕ) (wait : Wait) → wait_of m process ≡ Some wait → outcome_of m process ≡ Waiting wait
waits_of m process wait is = by (outcome_of m process) is
  where
    by : (o : Outcome) → wait_in o ≡ Some wait → o ≡ Waiting wait
    by (Waiting other) is = ap (λ (w : Wait). Waiting w) (same_Some other wait is)
    by o is = absurd (none-some wait is)

-- what is nothing in particular is nothing
pub not_some : {X : Type 0} (o : Option X) → ((x : X) → o ≡ Some x → ⊥) → o ≡ None
not_some None none = refl
not_some (Some x) none = absurd (none x refl)

-- a process that does not wait is not kept by the holder of a file
pub is_not_held : (m : State) (process file holder : ℕ) → IsNextAct m process (acts.Busy file holder) → wait_of m process ≡ None → ⊥
is_not_held m process file holder next free =
    none-some (waits.Busy file holder)
    (sym free ∙ wait_at m process next.place next.running_is ∙ ap (λ (o : Option Act). wait_with m next.place o) next.next)

-- the least of a list is the one that the abstract machine tells
least_below : (least : ℕ) (xs : List ℕ) (low : ℕ) → low ≤ least → All (λ x. low ≤ x) xs → low ≤ least_of least xs
least_below least [] low below all = below
least_below least (x ∷ xs) low below all =
    let head : low ≤ x = All-head (λ x. low ≤ x) x xs all in
    least_below (min least x) xs low (omega arith) (All-tail (λ x. low ≤ x) x xs all)

least_most : (least : ℕ) (xs : List ℕ) → least_of least xs ≤ least
least_most least [] = omega arith
least_most least (x ∷ xs) = let rest = least_most (min least x) xs in omega (arith, rest)

least_at : (least : ℕ) (xs : List ℕ) (k x : ℕ) → k < length xs → slice_index_or xs k x ≡ x → least_of least xs ≤ x
least_at least [] k x below is = absurd (omega arith)
least_at least (y ∷ xs) zero x below is = let rest = least_most (min least y) xs in omega (arith, rest, is)
least_at least (y ∷ xs) (suc k) x below is = least_at (min least y) xs k x (omega arith) is

least_is : (xs : List ℕ) (least : ℕ) → Contains xs least → All (λ x. least ≤ x) xs → least ≡ least_outstanding xs
least_is [] least among low = absurd (omega (arith, among.1))
least_is (x ∷ xs) least among low =
    let above = least_below x xs least (All-head (λ x. least ≤ x) x xs low) (All-tail (λ x. least ≤ x) x xs low) in
    let below = by among.0 among.1 among.2 in
    omega (arith, above, below)
  where
    by : (k : ℕ) → k < length (x ∷ xs) → slice_index_or (x ∷ xs) k least ≡ least → least_of x xs ≤ least
    by zero within is = let most = least_most x xs in omega (arith, most, is)
    by (suc k) within is = least_at x xs k least (omega arith) is

-- ---- what the parts tell of it

module _ {T M P : Type 0} {K : sides.Ghosts T P} (script : Script) (x : Parts T M P) (m : State) (process : ℕ) where
  -- the completions that have come
  come_kept : (y : Process P) → Shows K script x m → process_in x process ≡ Some y →
      (progress_of m process).completed ≡ map completed_of y.queue.completed
  come_kept y shows there = ap (λ (g : Progress). g.completed) (shows.each process y there).progress

  -- a process that polls and does not wait has one
  pub has_come : Shows K script x m → IsNextAct m process acts.Poll → wait_of m process ≡ None → HasCompletion x process
  has_come shows next free y there none =
      let blocked : IsNextBlocker m process (Some blockers.Completion) =
      record { place = next.place; running_is = next.running_is; blocker_is = sym (ap blocker_in next.next) } in
      none-some (completion_awaited m next.place)
      (sym free ∙ wait_polled m process [] (come_kept y shows there ∙ ap (λ (l : List Done). map completed_of l) none) blocked)

  module _ (y : Process P) (is : IsAt K script x m) (there : process_in x process ≡ Some y)
      (blocked : IsNextBlocker m process (Some blockers.Completion)) where
    -- where one has come, it does not wait
    pub wait_over : y.queue.completed ≢ [] → None ≡ wait_of m process
    wait_over some = by y.queue.completed refl
      where
        by : (come : List Done) → y.queue.completed ≡ come → None ≡ wait_of m process
        by [] none = absurd (some none)
        by (first ∷ rest) is-come =
            sym
            (wait_polled m process (completed_of first ∷ map completed_of rest)
            (come_kept y is.shows there ∙ ap (λ (l : List Done). map completed_of l) is-come) blocked)

    module _ (c : kernel.Progress) (begun : y.call ≡ Some c) where
      number : blocked.place.at.process ≡ process
      number = running_process m process blocked.place blocked.running_is

      kept_outstanding : c.outstanding ≡ outstanding (progress_of m blocked.place.at.process)
      kept_outstanding =
          outstanding_kept script x m blocked.place y c
          (record {
            shows = is.shows;
            runs = ap (running m) number ∙ blocked.running_is;
            there = ap (process_in x) number ∙ there;
            call_is = begun;
          })

      -- a command is outstanding
      pub awaits_some : 0 < length c.outstanding
      awaits_some =
          let p = blocked.place in
          let some = polls_some m.store (holder_of m) (running_of m p) (built_here script x m process p is blocked.running_is)
          (polling_waits (next_act m.store (holder_of m) (running_of m p)) (sym blocked.blocker_is)) in
          let same : length c.outstanding ≡ length (running_of m p).outstanding = ap (λ (l : List ℕ). length l) kept_outstanding in
          omega (arith, some, same)

      -- where none has come, it waits for that of the least piece
      pub wait_for_least : (least : ℕ) → y.queue.completed ≡ [] → Contains c.outstanding least → All (λ piece. least ≤ piece) c.outstanding →
          Some (waits.Completion least) ≡ wait_of m process
      wait_for_least least none among low =
          ap (λ (n : ℕ). Some (waits.Completion n))
          (least_is c.outstanding least among low ∙ ap (λ (l : List ℕ). least_outstanding l) kept_outstanding)
          ∙ sym (wait_polled m process [] (come_kept y is.shows there ∙ ap (λ (l : List Done). map completed_of l) none) blocked)

-- ---- a call that is not begun

module _ {T M P : Type 0} {K : sides.Ghosts T P} (script : Script) (x : Parts T M P) (m : State) (process : ℕ) (p : Place) (y : Process P)
    (shows : Shows K script x m)
    (runs : running m process ≡ Some p) (there : process_in x process ≡ Some y) (none : y.call ≡ None) where
  -- what it waits for as its parts say is what it waits for in the state that they show
  first_shown : (call : Call) (uid : ℕ) (fs : Files) (table : Table) (answer : Option Blocker) → call ≡ p.call → user_of m.store process ≡ uid →
      fs ≡ files_on x.disk → table ≡ table_on x.disk → kernel.IsFirstBlocker fs table call process uid answer →
      answer ≡ blocker_in (next_act m.store (holder_of m) (running_of m p))
  first_shown call uid fs table answer called user files rows is =
      let s : Store = store_of (files_on x.disk) x.disk.rows m.store.uids m.store.bytes m.store.work in
      let first : kernel.IsFirstBlocker (files_on x.disk) (table_on x.disk) call process uid answer =
      subst (λ (t : Table). kernel.IsFirstBlocker (files_on x.disk) t call process uid answer) rows
      (subst (λ (f : Files). kernel.IsFirstBlocker f table call process uid answer) files is) in
      let unbegun : IsNotBegun m p = subst (IsCallAt m p) none ((shows.each process y there).call p runs) in
      let number : process ≡ p.at.process = sym (running_process m process p runs) in
      let store : s ≡ m.store = store_shown x.disk m.store shows.disk in
      let holders : holder_in x.disk.held ≡ holder_of m = sym (holder_shown script x m shows) in
      let fresh : Running = record { place = place_of call process p.at.call []; outstanding = [] } in
      let run : fresh ≡ running_of m p =
      λ i. record {
        place = record { call = called i; at = record { process = number i; call = p.at.call }; before = sym unbegun.entries i };
        outstanding = sym unbegun.outstanding i;
      } in
      first m.store.uids m.store.bytes m.store.work user p.at.call
      ∙ ap (λ (t : Store). blocker_in (next_act t (holder_in x.disk.held) fresh)) store
      ∙ ap (λ (h : Holders). blocker_in (next_act m.store h fresh)) holders
      ∙ ap (λ (r : Running). blocker_in (next_act m.store (holder_of m) r)) run

  pub blocker_first : (call : Call) (uid : ℕ) (fs : Files) (table : Table) (answer : Option Blocker) → call ≡ p.call → user_of m.store process ≡ uid →
      fs ≡ files_on x.disk → table ≡ table_on x.disk → kernel.IsFirstBlocker fs table call process uid answer → IsNextBlocker m process answer
  blocker_first call uid fs table answer called user files rows is =
      record { place = p; running_is = runs; blocker_is = first_shown call uid fs table answer called user files rows is }
