-- Some actor acts as long as a call has not ended.
use Rattle.std.proofs.Common.{◌≡◌, ◌≢◌, ◌⊎◌, inl, inr, ℕ, ◌<◌, ◌≤◌, Bool, true, false, not, ◌&&◌, ◌||◌, cond, List, [], ◌∷◌, ◌++◌, length, map, Option, None, Some, refl, sym, ap, ◌∙◌, subst, arith, ⊎_elim}
use Rattle.std.specs.Prelude.{All, is_some, nat_eq, nat_lt}
use Rattle.std.specs.Option.{option_and_then, option_map, option_map_or}
use Rattle.std.specs.List.{find, list_any, range_with_len}
use Rattle.std.specs.FinMap as fin
use Rattle.std.proofs.Math.ListN.{get_or-eq_default}
use Rattle.std.proofs.lemmas.Bool.{and_cases, or_cases, both_ways, cases_Bool, cases_lt, cond-true, eq-eqb, false≢true}
use Rattle.std.proofs.lemmas.List.Elements.{All-head}
use Rattle.std.proofs.lemmas.List.Quantifiers.{position-Some}
use Rattle.std.proofs.lemmas.Option.{none-some, same_Some, slice_get_cases, slice_get_within}
use Rattle.bd_base.specs.declared.key.Key.{Key}
use Rattle.bd_base.specs.declared.limits.TheConstants.{POSTS}
use Rattle.bd_base.specs.declared.script.Call.{Call}
use Rattle.bd_base.specs.declared.script.Call.TheVariants.{Enter, Unlink}
use Rattle.bd_base.specs.declared.script.How.TheVariants as hows
use Rattle.bd_base.specs.declared.volume.Volume.{Volume}
use Rattle.bd_base.proofs.Ranges.{find-range_fails, find-range_lowest}
use Rattle.bd_entry.specs.declared.act.Act.{Act}
use Rattle.bd_entry.specs.declared.act.Act.TheVariants as acts
use Rattle.bd_entry.specs.declared.entry.Entry.{Entry}
use Rattle.bd_entry.specs.Actions.{busy, entry_of_act, has_begun, is_none_of, next_act, wait_for}
use Rattle.bd_entry.specs.Calls.{Place, call_at, calls_of, fd_of_call, is_ended_by, pieces_of_call}
use Rattle.bd_entry.specs.NextEntries.{IsReadyPlace, goes_by_name}
use Rattle.bd_entry.specs.NextEntries.{running as next_running}
use Rattle.bd_entry.specs.Refusals.{file_of, first_refusal}
use Rattle.bd_entry.specs.RulesOfCalls.{IsNextCall}
use Rattle.bd_entry.specs.Store.{work_of}
use Rattle.bd_entry.proofs.CallOrder.{is_finished-called}
use Rattle.bd_entry.proofs.HistoryLaws.{work_is_of_running_call}
use Rattle.bd_entry.proofs.NextActs.{map_from}
use Rattle.bd_entry.proofs.NextFiles.{cond_from}
use Rattle.bd_entry.proofs.NextReady.{running_calls_are_ready}
use Rattle.bd_entry.proofs.Slots.{some_of}
use Rattle.bd_turns.specs.declared.turn.Row.TheVariants as rows
use Rattle.bd_turns.specs.declared.turn.Wait.TheVariants as waits
use Rattle.bd_turns.specs.Processors as processors
use Rattle.bd_turns.specs.Processors.{Action, action_for, add_entry, clear, is_on, is_posted, least_outstanding, next_action, poll, post, revocation, row_of_entry, running_of, uncleared, unposted}
use Rattle.bd_turns.specs.Progress.{NeverStuck}
use Rattle.bd_turns.specs.Reached.{IsReached}
use Rattle.bd_turns.specs.Sound.{keeps_allowed}
use Rattle.bd_turns.specs.State.{Completed, Posted, Progress, State, does_hold, holder_of, new_progress, outstanding, pieces_in_hand, place_of, progress_of, running, running_at}
use Rattle.bd_turns.specs.Turns.{SomeActorActs, all_ended, outcome_of_action, process_count}
use Rattle.bd_turns.proofs.Acting.{DoesAct, processor_acts}
use Rattle.bd_turns.proofs.BusyEngines.{There, commands_act, has_command}
use Rattle.bd_turns.proofs.CallsGoOn.{MayGoOn, next_there, with_commands}
use Rattle.bd_turns.proofs.NextActsThere.{IsDoable, IsDone, adds, polls, revokes, submits}
use Rattle.bd_turns.proofs.OpenDescriptors.{descriptors_are_open}
use Rattle.bd_turns.proofs.OwnActsThere.{not_false}
use Rattle.bd_turns.proofs.PiecesThere.{not_all}
use Rattle.bd_turns.proofs.PostedRights.{IsQuiet, posted_acts}

-- ---- the action of a processor

uncleared_there : (m : State) (keys : List Key) → m.posted ≡ [] → is_none_of keys ≡ false → unposted m keys ≡ None → There (uncleared m keys)
uncleared_there m [] none some left = absurd (false≢true (sym some))
uncleared_there m (key ∷ keys) none some left =
    let on : Bool = is_on (fin.get m.tables.rights key) in
    ⊎_elim
    (λ unposted_here. absurd (none-some key (sym unposted_here.1)))
    (λ posted_here.
    let test : Bool = on || is_posted m.posted key in
    let either : test ≡ true = not_false test posted_here.0 in
    ⊎_elim
    (λ is. (key, cond-true on (Some key) (uncleared m keys) is))
    (λ posted. absurd (false≢true (sym (ap (λ (l : List Posted). is_posted l key) none) ∙ posted)))
    (or_cases on (is_posted m.posted key) either))
    (cond_from (not (on || is_posted m.posted key)) (Some key) (unposted m keys) None left)

-- where nothing is posted, a revocation posts or clears
revokes_on : (m : State) (p : Place) (keys : List Key) → m.posted ≡ [] → is_none_of keys ≡ false →
    (action : Action) × (revocation m p keys ≡ action) × DoesAct (outcome_of_action m p action)
revokes_on m p keys none some = by (unposted m keys) refl
  where
    by : (o : Option Key) → unposted m keys ≡ o → (action : Action) × (revocation m p keys ≡ action) × DoesAct (outcome_of_action m p action)
    by (Some key) is =
        let room : nat_lt (length m.posted) POSTS ≡ true = ap (λ (l : List Posted). nat_lt (length l) POSTS) none in
        let posts : post m key ≡ processors.Posts key =
        cond-true (nat_lt (length m.posted) POSTS) (processors.Posts key) (processors.WaitsFor (waits.QueueFull POSTS)) room in
        let same : revocation m p keys ≡ post m key = rw is refl in
        (processors.Posts key, same ∙ posts, (rows.Post, refl))
    by None is =
        let next = uncleared_there m keys none some is in
        let same : revocation m p keys ≡ clear p next.0 = rw (is, next.1) refl in
        (clear p next.0, same, (rows.Clear, refl))

adds_on : (m : State) (p : Place) (act : Act) (e : Entry) → entry_of_act m.store p act ≡ Some e →
    (action : Action) × (action_for m p act ≡ Some action) × DoesAct (outcome_of_action m p action)
adds_on m p (acts.Busy file holder) e is = absurd (none-some e is)
adds_on m p (acts.Revoke keys) e is = absurd (none-some e is)
adds_on m p (acts.Submit piece) e is = absurd (none-some e is)
adds_on m p acts.Poll e is = absurd (none-some e is)
adds_on m p act e is =
    let entry : Entry → Action = λ entry. processors.Adds (row_of_entry entry) entry in
    (entry e, ap (option_map entry) is, (row_of_entry e, refl))

polls_on : (m : State) (p : Place) (progress : Progress) → has_command progress ≡ false → is_none_of (outstanding progress) ≡ false →
    (action : Action) × (poll progress ≡ action) × DoesAct (outcome_of_action m p action)
polls_on m p progress quiet some = by progress.completed refl
  where
    by : (done : List Completed) → progress.completed ≡ done →
        (action : Action) × (poll progress ≡ action) × DoesAct (outcome_of_action m p action)
    by [] is =
        let left : is_none_of (pieces_in_hand progress.hand ++ progress.submitted) ≡ false =
        ap (λ (l : List Completed). is_none_of (map (λ (c : Completed). c.piece) l ++ pieces_in_hand progress.hand ++ progress.submitted)) (sym is) ∙ some in
        absurd (false≢true (sym quiet ∙ ap not left))
    by (c ∷ done) is = (
      processors.Polls,
      ap
          (λ (l : List Completed). cond (is_none_of l) (processors.WaitsFor (waits.Completion (least_outstanding (outstanding progress)))) processors.Polls)
          is,
      (rows.Poll, refl),
    )

-- an action with an effect is no wait
acts_on : (m : State) (p : Place) (act : Act) → m.posted ≡ [] → has_command (progress_of m p.at.process) ≡ false → IsDoable m.store (running_of m p) act →
    (action : Action) × (action_for m p act ≡ Some action) × DoesAct (outcome_of_action m p action)
acts_on m p act none quiet (adds _ e is) = adds_on m p act e is
acts_on m p act none quiet (revokes key keys) =
    let on = revokes_on m p (key ∷ keys) none refl in (on.0, ap Some on.1, on.2)
acts_on m p act none quiet (submits piece) = (processors.Submits piece, refl, (rows.Submit, refl))
acts_on m p act none quiet (polls some) =
    let on = polls_on m p (progress_of m p.at.process) quiet some in (on.0, ap Some on.1, on.2)

-- ---- a running call whose file nobody else holds

kept_name : (call : Call) → goes_by_name call ≡ true → keeps_allowed call ≡ true
kept_name (Enter name mode hows.Plain) is = refl
kept_name (Unlink name) is = refl
kept_name (Enter name mode hows.Direct) is = absurd (false≢true is)
kept_name call is = absurd (false≢true is)

some_piece : (n : ℕ) (list : List ℕ) → is_none_of list ≡ false → All (λ piece. piece < n) list → 0 < n
some_piece n [] some all = absurd (false≢true (sym some))
some_piece n (piece ∷ pieces) some all =
    let below : piece < n = All-head (λ piece. piece < n) piece pieces all in omega arith

begun_from : (before : List Entry) (outs : List ℕ) → before ≢ [] → not (is_none_of before && is_none_of outs) ≡ true
begun_from [] outs some = absurd (some refl)
begun_from (e ∷ before) outs some = refl

none_among : (outs : List ℕ) → is_none_of outs ≡ true → (number : ℕ) → list_any (nat_eq number) outs ≡ false
none_among [] none number = refl
none_among (x ∷ xs) none number = absurd (false≢true none)

module _ (v : Volume) (m : State) (reached : IsReached v m) (q : ℕ) (call : Call) (called : call_at m.script (running_at m q) ≡ Some call) where
  -- the place of the running call of the process
  abbrev here : Place
  here = place_of m (running_at m q) call

  abbrev outs : List ℕ
  outs = outstanding (progress_of m q)

  is_running : running m q ≡ Some here
  is_running = ap (option_map (place_of m (running_at m q))) called

  next_call : is_none_of outs ≡ true → IsNextCall m.script m.journal (running_at m q)
  next_call none = record {
    in_script = slice_get_within (calls_of m.script q) (running_at m q).call call called;
    unfinished =
        is_finished-called m.script m.journal (running_at m q) call called
        ∙ ⊎_elim (λ goes. goes) (λ some. absurd (both_ways (is_none_of outs) some none))
        (and_cases (is_ended_by call here.before) (is_none_of outs) (reached.sound.calls.unended q here is_running));
    earlier = λ number below. reached.sound.calls.in_turn.finished q number below;
  }

  work : is_none_of outs ≡ true → work_of m.store q ≡ here.before
  work none = work_is_of_running_call v m.script m.journal m.store (running_at m q) reached.history (next_call none)

  kept_allowed : keeps_allowed call ≡ true → has_begun (running_of m here) ≡ true → first_refusal m.store q call ≡ None
  kept_allowed keeps begun = reached.sound.holds_are.allowed q here is_running keeps begun

  is_ready : is_none_of outs ≡ true → IsReadyPlace m.store (running_of m here)
  is_ready none =
      subst (λ (entries : List Entry). IsReadyPlace m.store (next_running call (running_at m q) entries outs)) (work none)
      (running_calls_are_ready v m.script m.journal m.store call (running_at m q) outs
      (record {
        history = reached.history;
        called = called;
        next = next_call none;
        of_pieces = λ number among. absurd (false≢true (sym (none_among outs none number) ∙ among));
        file_stays = λ by_name some.
            kept_allowed (kept_name call by_name) (begun_from here.before outs (λ empty. some (work none ∙ empty)));
      }))

  may_go_on : is_none_of outs ≡ true → busy m.store (holder_of m) here ≡ None → MayGoOn m.store (holder_of m) call (running_at m q) here.before outs
  may_go_on none free = record {
    none = none;
    free = free;
    ready = is_ready none;
    allowed = kept_allowed;
    opened = λ does some fd named.
        descriptors_are_open v m.script m.journal m.store reached.history (running_at m q) call fd called (next_call none) does
        (λ empty. some (sym (work none) ∙ empty)) (ap (fd_of_call call) (work none) ∙ named);
  }

  -- it does something next
  is_done : busy m.store (holder_of m) here ≡ None → IsDone m.store (running_of m here) (next_act m.store (holder_of m) (running_of m here))
  is_done free =
      ⊎_elim
      (λ none. next_there m.store (holder_of m) (running_at m q) here.before outs call (may_go_on none free))
      (λ some.
      with_commands m.store (holder_of m) call (running_at m q) here.before outs some
      (some_piece (length (pieces_of_call call)) outs some (reached.sound.calls.commands.of_running q here is_running).pieces))
      (cases_Bool (is_none_of outs))

  -- so its processor acts
  call_acts : m.posted ≡ [] → IsQuiet m → busy m.store (holder_of m) here ≡ None → SomeActorActs m
  call_acts none quiet free =
      let done = is_done free in
      let on = acts_on m here done.0 none (quiet q) done.2 in
      processor_acts m q here on.0 is_running (ap (option_and_then (action_for m here)) done.1 ∙ on.1) on.2

-- ---- which call goes on

-- a test that passes for some number below a bound, or for none
cases_below : (test : ℕ → Bool) (n : ℕ) → ((i : ℕ) × (test i ≡ true)) ⊎ ((i : ℕ) → i < n → test i ≡ false)
cases_below test n = by (find test (range_with_len 0 n)) refl
  where
    by : (o : Option ℕ) → find test (range_with_len 0 n) ≡ o → ((i : ℕ) × (test i ≡ true)) ⊎ ((i : ℕ) → i < n → test i ≡ false)
    by None none = inr (λ i below. find-range_fails test 0 n none i (omega arith) (omega arith))
    by (Some i) found = inl (i, (find-range_lowest test 0 n i found).passes)

-- what holds of the progress of no process of the script holds of none
none_passes : (m : State) (test : Progress → Bool) → test new_progress ≡ false →
    ((i : ℕ) → i < length m.processes → test (progress_of m i) ≡ false) → (i : ℕ) → test (progress_of m i) ≡ false
none_passes m test new each i =
    ⊎_elim (each i) (λ past. ap test (get_or-eq_default m.processes new_progress past) ∙ new) (cases_lt i (length m.processes))

any_process : (m : State) (test : Progress → Bool) → test new_progress ≡ false →
    ((i : ℕ) × (test (progress_of m i) ≡ true)) ⊎ ((i : ℕ) → test (progress_of m i) ≡ false)
any_process m test new =
    ⊎_elim (λ some. inl some) (λ none. inr (none_passes m test new none)) (cases_below (λ i. test (progress_of m i)) (length m.processes))

-- who holds a file does so
holder_holds : (m : State) (file h : ℕ) → holder_of m file ≡ Some h → does_hold file (progress_of m h) ≡ true
holder_holds m file h is = (position-Some (does_hold file) m.processes h new_progress is).1

wait-none : (process file : ℕ) (o : Option ℕ) → ((h : ℕ) → o ≡ Some h → h ≡ process) → wait_for process file o ≡ None
wait-none process file None same = refl
wait-none process file (Some h) same = cond-true (nat_eq h process) None (Some (acts.Busy file h)) (eq-eqb h process (same h refl))

-- a call waits for nobody where nobody but its process holds its file
not_busy : (m : State) (p : Place) → ((file h : ℕ) → file_of m.store p ≡ Some file → holder_of m file ≡ Some h → h ≡ p.at.process) →
    busy m.store (holder_of m) p ≡ None
not_busy m p alone = by (file_of m.store p) refl
  where
    by : (o : Option ℕ) → file_of m.store p ≡ o → option_and_then (λ file. wait_for p.at.process file (holder_of m file)) o ≡ None
    by None is = refl
    by (Some file) is = wait-none p.at.process file (holder_of m file) (λ h held. alone file h is held)

-- a process whose calls have not all ended has a running one
running_call : (v : Volume) (m : State) → IsReached v m → (q : ℕ) → nat_eq (progress_of m q).ended (length (calls_of m.script q)) ≡ false →
    There (call_at m.script (running_at m q))
running_call v m reached q goes =
    let ended : ℕ = (progress_of m q).ended in
    let count : ℕ = length (calls_of m.script q) in
    let most : ended ≤ count = reached.sound.calls.processes.ended q in
    let differ : ended ≢ count = λ same. both_ways (nat_eq ended count) goes (eq-eqb ended count same) in
    ⊎_elim
    (λ there. (there.0, there.2))
    (λ past. let least : count ≤ ended = past.0 in absurd (omega arith))
    (slice_get_cases (calls_of m.script q) ended).1

-- the running call of a process that holds a file goes on
holder_acts : (v : Volume) (m : State) → IsReached v m → m.posted ≡ [] → IsQuiet m → (q file : ℕ) → (progress_of m q).held ≡ Some file → SomeActorActs m
holder_acts v m reached none quiet q file held =
    let holds = reached.sound.holds_are.holds q file held in
    let call = map_from (place_of m (running_at m q)) (call_at m.script (running_at m q)) holds.0 holds.1 in
    let p : Place = place_of m (running_at m q) call.0 in
    let of : file_of m.store p ≡ Some file = ap (file_of m.store) call.2 ∙ holds.2 in
    call_acts v m reached q call.0 call.1 none quiet
    (not_busy m p
    (λ other h is held_by.
    let same : file ≡ other = same_Some file other (sym of ∙ is) in
    let mine : does_hold other (progress_of m q) ≡ true =
    ap (λ (o : Option ℕ). option_map_or (nat_eq other) o false) held ∙ eq-eqb other file (sym same) in
    reached.sound.holds_are.held_once other h q (holder_holds m other h held_by) mine))

-- where nobody holds a file, any running call goes on
free_acts : (v : Volume) (m : State) → IsReached v m → m.posted ≡ [] → IsQuiet m → ((q : ℕ) → is_some (progress_of m q).held ≡ false) →
    all_ended m ≡ false → SomeActorActs m
free_acts v m reached none quiet free going =
    let unended = not_all (λ q. nat_eq (progress_of m q).ended (length (calls_of m.script q))) 0 (process_count m) going in
    let q : ℕ = unended.0 in
    let call = running_call v m reached q unended.3 in
    let p : Place = place_of m (running_at m q) call.0 in
    call_acts v m reached q call.0 call.1 none quiet
    (not_busy m p
    (λ file h is held_by.
    absurd
    (both_ways (does_hold file (progress_of m h)) (holds_none file (progress_of m h).held (free h)) (holder_holds m file h held_by))))
  where
    holds_none : (file : ℕ) (o : Option ℕ) → is_some o ≡ false → option_map_or (nat_eq file) o false ≡ false
    holds_none file None none = refl
    holds_none file (Some held) none = absurd (false≢true (sym none))

quiet_acts : (v : Volume) (m : State) → IsReached v m → IsQuiet m → all_ended m ≡ false → SomeActorActs m
quiet_acts v m reached quiet going = by m.posted refl
  where
    by : (posted : List Posted) → m.posted ≡ posted → SomeActorActs m
    by (post ∷ rest) is = posted_acts v m reached quiet post rest is
    by [] none =
        ⊎_elim
        (λ some.
        let file = some_of (progress_of m some.0).held some.1 in
        holder_acts v m reached none quiet some.0 file.0 file.1)
        (λ free. free_acts v m reached none quiet free going)
        (any_process m (λ progress. is_some progress.held) refl)

pub never_stuck : NeverStuck
never_stuck v m reached going =
    ⊎_elim
    (λ some. commands_act v m reached some.0 some.1)
    (λ quiet. quiet_acts v m reached quiet going)
    (any_process m has_command refl)
