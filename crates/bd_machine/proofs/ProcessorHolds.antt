-- The files that processes hold, as the parts of a machine show them, and that nobody else holds one that is taken.
use Rattle.std.proofs.Common.{◌≡◌, inl, inr, ℕ, ◌+◌, ◌<◌, Bool, true, false, cond, List, [], ◌∷◌, length, map, Option, None, Some, refl, sym, ap, ◌∙◌, subst, arith, get_or, ⊎_elim}
use Rattle.std.specs.Prelude.{position, slice_index_or, slice_get, not, is_some}
use Rattle.std.specs.Option.{option_map, option_map_or, option_or}
use Rattle.std.specs.List.{position_from}
use Rattle.std.proofs.lemmas.Bool.{cases_Bool, false≢true}
use Rattle.std.proofs.lemmas.Iterator.Adapters.{position_from-zero}
use Rattle.std.proofs.lemmas.List.{get_or-map, get_or_default, length-map, same_lists}
use Rattle.std.proofs.lemmas.List.Quantifiers.{position-Some}
use Rattle.std.proofs.lemmas.Option.{none-some, same_Some}
use Rattle.std.proofs.Math.ListN.{get_or-map as get_or_of-map}
use Rattle.bd_base.specs.declared.reason.Reason.{Reason}
use Rattle.bd_base.specs.declared.reason.Reason.TheVariants as reasons
use Rattle.bd_base.specs.declared.script.Call.{Call}
use Rattle.bd_base.specs.declared.script.Call.TheVariants.{Enter, Create, Read, Write, Size}
use Rattle.bd_base.specs.declared.script.How.{How}
use Rattle.bd_base.specs.declared.script.Mode.{Mode}
use Rattle.bd_base.specs.declared.script.Script.{Script}
use Rattle.bd_base.specs.declared.volume.Inode.{Inode}
use Rattle.bd_base.specs.declared.volume.Volume.{Volume}
use Rattle.bd_base.specs.Inodes.{id_of}
use Rattle.bd_base.specs.Policy.{open_denial}
use Rattle.bd_entry.specs.declared.act.Act.{Act}
use Rattle.bd_entry.specs.declared.act.Act.TheVariants as acts
use Rattle.bd_entry.specs.declared.entry.Entry.{Entry}
use Rattle.bd_entry.specs.declared.entry.Entry.TheVariants as entries
use Rattle.bd_entry.specs.Actions.{Holders, before_beginning, busy, busy_at_first, comes_before_holder, entry_of_act, has_begun, keys_to_revoke, next_act, own_act, revoke, tests_for_holder}
use Rattle.bd_entry.specs.Calls.{Place}
use Rattle.bd_entry.specs.Refusals.{denial, descriptor_of, file_of, file_of_call, first_refusal, open_refusal, reason_if}
use Rattle.bd_entry.specs.Store.{Store, file_in, lowest_fd, user_of}
use Rattle.bd_entry.proofs.NextActs.{busy_adds_none, map_from, or_from_either, then_from}
use Rattle.bd_entry.proofs.NextFiles.{cond_from}
use Rattle.bd_entry.proofs.Slots.{some_of}
use Rattle.bd_kernel.specs.Holders as kernel
use Rattle.bd_kernel.specs.Holders.{holder_in}
use Rattle.bd_machine.specs.declared.parts.Parts.{Parts}
use Rattle.bd_machine.specs.Shows.{Shows}
use Rattle.bd_machine.specs.Turns.{MayHold, is_built}
use Rattle.bd_turns.specs.Added.{IsAdded}
use Rattle.bd_turns.specs.Processors as processors
use Rattle.bd_turns.specs.Processors.{next_action, row_of_entry, running_of}
use Rattle.bd_turns.specs.Reached.{IsReached}
use Rattle.bd_turns.specs.State.{Progress, State, does_hold, holder_of, new_progress, progress_of, running}
use Rattle.bd_turns.specs.Turns.{holds_after, holds_throughout}
use Rattle.bd_turns.proofs.ActionsOfCalls.{AloneOn, alone_tested, held_from, passed-alone}
use Rattle.bd_turns.proofs.EntriesOfCalls.{alone_adding, needs_hold}
use Rattle.bd_turns.proofs.FoundElements.{slice_get-there}
use Rattle.bd_tables.specs.declared.sides.Tables as sides

-- ---- who holds a file

-- the files that processes hold
abbrev holds_of : List Progress → List (Option ℕ)
holds_of processes = map (λ (q : Progress). q.held) processes

positions : (file n : ℕ) (xs : List Progress) →
    position_from (does_hold file) n xs ≡ position_from (kernel.does_hold file) n (holds_of xs)
positions file n [] = refl
positions file n (x ∷ xs) = ap (λ (o : Option ℕ). cond (does_hold file x) (Some n) o) (positions file (n + 1) xs)

-- who holds a file is read off those files
holder-of_list : (file : ℕ) (xs : List Progress) → position (does_hold file) xs ≡ holder_in (holds_of xs) file
holder-of_list file xs =
    position_from-zero (does_hold file) xs ∙ positions file 0 xs ∙ sym (position_from-zero (kernel.does_hold file) (holds_of xs))

-- the parts keep them
holds_shown : {T M P : Type 0} {K : sides.Ghosts T P} (script : Script) (x : Parts T M P) (m : State) → Shows K script x m → holds_of m.processes ≡ x.disk.held
holds_shown script x m shows =
    same_lists (holds_of m.processes) x.disk.held (length-map m.processes (λ (q : Progress). q.held) ∙ shows.progresses ∙ sym shows.holders)
    (λ k d below.
    let count : length (holds_of m.processes) ≡ length m.processes = length-map m.processes (λ (q : Progress). q.held) in
    let within : k < length m.processes = omega (arith, below, count) in
    let held : k < length x.disk.held = omega (arith, within, shows.progresses, shows.holders) in
    let there : k < length x.processes.items = omega (arith, within, shows.progresses, shows.count) in
    let y = some_of (slice_get x.processes.items k) (slice_get-there x.processes.items k there) in
    get_or-map (λ (q : Progress). q.held) m.processes k new_progress d within
    ∙ ap (λ (q : Progress). q.held) (shows.each k y.0 y.1).progress ∙ get_or_default x.disk.held k None d held)

pub holder_shown : {T M P : Type 0} {K : sides.Ghosts T P} (script : Script) (x : Parts T M P) (m : State) → Shows K script x m →
    holder_of m ≡ holder_in x.disk.held
holder_shown script x m shows =
    let same : (file : ℕ) → holder_of m file ≡ holder_in x.disk.held file =
    λ file. holder-of_list file m.processes ∙ ap (λ (held : List (Option ℕ)). holder_in held file) (holds_shown script x m shows) in
    λ i file. same file i

pub held_shown : {T M P : Type 0} {K : sides.Ghosts T P} (script : Script) (x : Parts T M P) (m : State) (process : ℕ) → Shows K script x m →
    (progress_of m process).held ≡ slice_index_or x.disk.held process None
held_shown script x m process shows =
    sym (get_or_of-map (λ (q : Progress). q.held) m.processes process new_progress)
    ∙ ap (λ (held : List (Option ℕ)). get_or held process None) (holds_shown script x m shows)

-- ---- a file that is taken

-- a process may hold the file of its call that nobody else holds
may_hold : {T M P : Type 0} {K : sides.Ghosts T P} (script : Script) (x : Parts T M P) (m : State) (p : Place) (file : ℕ) → Shows K script x m → AloneOn m p →
    file_of m.store p ≡ Some file → MayHold x.disk.held p.at.process (Some file)
may_hold script x m p file shows alone of = by (holder_in x.disk.held file) refl
  where
    by : (o : Option ℕ) → holder_in x.disk.held file ≡ o → MayHold x.disk.held p.at.process (Some file)
    by None none = inl none
    by (Some holder) is =
        let same : holder_of m file ≡ Some holder = ap (λ (h : Holders). h file) (holder_shown script x m shows) ∙ is in
        let holds = held_from file (progress_of m holder) (position-Some (does_hold file) m.processes holder new_progress same).1 in
        let mine : holder ≡ p.at.process = alone file holder of holds in
        inr (sym (held_shown script x m p.at.process shows) ∙ ap (λ (q : ℕ). (progress_of m q).held) (sym mine) ∙ holds)

-- so it may where it holds one after its turn
pub may_hold_if : {T M P : Type 0} {K : sides.Ghosts T P} (script : Script) (x : Parts T M P) (m : State) (p : Place) (holds : Bool) → Shows K script x m →
    (holds ≡ true → AloneOn m p) → MayHold x.disk.held p.at.process (cond holds (file_of m.store p) None)
may_hold_if script x m p false shows alone = tt
may_hold_if script x m p true shows alone = by (file_of m.store p) refl
  where
    by : (o : Option ℕ) → file_of m.store p ≡ o → MayHold x.disk.held p.at.process o
    by None none = tt
    by (Some file) of = may_hold script x m p file shows (alone refl) of

-- ---- nobody else holds it

-- a call that takes no file from its first turn on takes one as it lets it grow
needs : (call : Call) (e : Entry) → holds_throughout call ≡ false → holds_after call (row_of_entry e) ≡ true → needs_hold e ≡ true
needs call (entries.Extended at file to block) not_so after = refl
needs call e not_so after = absurd (false≢true (sym not_so ∙ after))

-- an open of a file that is there is refused only after its holder was looked for
late_reason : (s : Store) (process : ℕ) (name : List ℕ) (mode : Mode) (file : ℕ) (reason : Reason) → id_of name s.files ≡ Some file →
    open_refusal s process name mode ≡ Some reason → comes_before_holder reason ≡ false
late_reason s process name mode file reason of refused =
    ⊎_elim
    (λ denied.
    let f = then_from (λ (f : Inode). option_map reasons.Denied (open_denial mode (user_of s process) f.owner f.perms)) (file_in s file) reason denied in
    let rule = map_from reasons.Denied (open_denial mode (user_of s process) f.0.owner f.0.perms) reason f.2 in
    ap comes_before_holder (sym rule.2))
    (λ full.
    ⊎_elim
    (λ is. ap comes_before_holder (sym (same_Some reasons.FdsFull reason is.1)))
    (λ none. absurd (none-some reason none.1))
    (cond_from (not (is_some (lowest_fd s process))) (Some reasons.FdsFull) None (Some reason) full.1))
    (or_from_either (denial s process mode file) (reason_if (not (is_some (lowest_fd s process))) reasons.FdsFull) reason there)
  where
    there : option_or (denial s process mode file) (reason_if (not (is_some (lowest_fd s process))) reasons.FdsFull) ≡ Some reason
    there =
        sym
        (ap
        (λ (o : Option ℕ). option_map_or
        (λ (file : ℕ). option_or (denial s process mode file) (reason_if (not (is_some (lowest_fd s process))) reasons.FdsFull)) o
        (Some reasons.NoFile))
        of)
        ∙ refused

-- so an open that is refused need not wait for a holder
refused_free : (s : Store) (holders : Holders) (p : Place) (name : List ℕ) (mode : Mode) (how : How) (act : Act) (e : Entry) (file : ℕ) →
    p.call ≡ Enter name mode how → before_beginning s holders p (open_refusal s p.at.process name mode) ≡ Some act →
    entry_of_act s p act ≡ Some e → id_of name s.files ≡ Some file → busy s holders p ≡ None
refused_free s holders p name mode how act e file is first adds of = by (open_refusal s p.at.process name mode) refl first
  where
    tests : busy_at_first s holders p ≡ busy s holders p
    tests = ap (λ (call : Call). cond (tests_for_holder call) (busy s holders p) None) is

    by : (o : Option Reason) → open_refusal s p.at.process name mode ≡ o → before_beginning s holders p o ≡ Some act → busy s holders p ≡ None
    by None none waits = absurd (none-some e (sym (busy_adds_none s holders p act (sym tests ∙ waits)) ∙ adds))
    by (Some reason) refused begins =
        let late = late_reason s p.at.process name mode file reason of refused in
        let after : option_or (busy_at_first s holders p) (Some (acts.Refuse None reason)) ≡ Some act =
        subst
        (λ (b : Bool). cond b (Some (acts.Refuse None reason)) (option_or (busy_at_first s holders p) (Some (acts.Refuse None reason))) ≡ Some act)
        late begins in
        ⊎_elim
        (λ waits. absurd (none-some e (sym (busy_adds_none s holders p act (sym tests ∙ waits)) ∙ adds)))
        (λ refuses. sym tests ∙ refuses.0)
        (or_from_either (busy_at_first s holders p) (Some (acts.Refuse None reason)) act after)

-- nobody else holds the file of an open that adds an entry
opens_alone : (m : State) (p : Place) (act : Act) (e : Entry) (v : Volume) → IsReached v m → running m p.at.process ≡ Some p →
    next_act m.store (holder_of m) (running_of m p) ≡ Some act → entry_of_act m.store p act ≡ Some e →
    is_built p.call ≡ true → holds_throughout p.call ≡ true → AloneOn m p
opens_alone m p act e v reached runs next adds built through =
    ⊎_elim (λ first. by p.call refl built through first)
    (λ later.
    passed-alone m p reached.sound.calls reached.sound.holds_are.held_once reached.sound.holds_are.begun_holding runs
    (record { passed = later.0 }) through)
    (or_from_either (cond (has_begun (running_of m p)) None (before_beginning m.store (holder_of m) p (first_refusal m.store p.at.process p.call)))
    (option_or (revoke (keys_to_revoke m.store p p.call)) (own_act m.store (holder_of m) (running_of m p) p.call)) act next)
  where
    begins : (b : Bool) (o : Option Act) → cond b None o ≡ Some act → o ≡ Some act
    begins true o none = absurd (none-some act none)
    begins false o is = is

    by : (call : Call) → p.call ≡ call → is_built call ≡ true → holds_throughout call ≡ true →
        cond (has_begun (running_of m p)) None (before_beginning m.store (holder_of m) p (first_refusal m.store p.at.process call)) ≡ Some act →
        AloneOn m p
    by (Enter name mode how) is of holds first =
        λ file q mine held.
        let named : id_of name m.store.files ≡ Some file = sym (ap (λ (c : Call). file_of_call m.store c (descriptor_of m.store p)) is) ∙ mine in
        let free = refused_free m.store (holder_of m) p name mode how act e file is
        (begins (has_begun (running_of m p)) (before_beginning m.store (holder_of m) p (open_refusal m.store p.at.process name mode)) first) adds named in
        alone_tested m p reached.sound.holds_are.held_once free file q mine held
    by (Create name perms) is of holds first = absurd (false≢true holds)
    by (Read fd off len) is of holds first = absurd (false≢true holds)
    by (Write fd off bytes) is of holds first = absurd (false≢true holds)
    by (Size fd) is of holds first = absurd (false≢true holds)
    by call is of holds first = absurd (false≢true of)

-- nobody else holds the file that a process takes as it adds an entry
pub taken_alone : (v : Volume) (m : State) (p : Place) (act : Act) (e : Entry) → IsReached v m → running m p.at.process ≡ Some p →
    next_act m.store (holder_of m) (running_of m p) ≡ Some act → entry_of_act m.store p act ≡ Some e →
    next_action m p ≡ Some (processors.Adds (row_of_entry e) e) → IsAdded v m p e → is_built p.call ≡ true →
    holds_after p.call (row_of_entry e) ≡ true → AloneOn m p
taken_alone v m p act e reached runs next adds acting added built after =
    ⊎_elim
    (λ through. opens_alone m p act e v reached runs next adds built through)
    (λ not_so.
    alone_adding v m p (row_of_entry e) e reached.sound.calls reached.sound.holds_are runs added acting (needs p.call e not_so after))
    (cases_Bool (holds_throughout p.call))
