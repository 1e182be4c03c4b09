-- No call closes a descriptor of a file that another process holds.
use Rattle.std.proofs.Common.{◌≡◌, ◌≢◌, ℕ, zero, suc, Bool, true, false, cond, List, [], ◌∷◌, Option, None, Some, refl, sym, ap, ◌∙◌, subst, ⊎_elim}
use Rattle.std.specs.Prelude.{nat_eq, slice_index_or}
use Rattle.std.specs.Option.{option_and_then, option_map, option_map_or, option_or}
use Rattle.std.specs.List.{list_any}
use Rattle.std.proofs.lemmas.Bool.{both_ways, cases_Bool, cond-false, eq-eqb, eqb-true, false≢true, or_left, or_right}
use Rattle.std.proofs.lemmas.List.Quantifiers.{position-Some}
use Rattle.std.proofs.lemmas.Option.{none-some, same_Some}
use Rattle.bd_base.specs.declared.journal.At.{At}
use Rattle.bd_base.specs.declared.key.Key.{Key}
use Rattle.bd_base.specs.declared.reason.Reason.{Reason}
use Rattle.bd_base.specs.declared.script.Call.{Call}
use Rattle.bd_base.specs.declared.script.Call.TheVariants.{Enter, Close}
use Rattle.bd_base.specs.declared.script.How.TheVariants as hows
use Rattle.bd_base.specs.declared.volume.Volume.{Volume}
use Rattle.bd_entry.specs.declared.act.Act.{Act}
use Rattle.bd_entry.specs.declared.act.Act.TheVariants as acts
use Rattle.bd_entry.specs.declared.entry.Entry.{Entry}
use Rattle.bd_entry.specs.declared.entry.Entry.TheVariants.{Cleared, Closed}
use Rattle.bd_entry.specs.Actions.{Holders, before_beginning, busy, busy_at_first, comes_before_holder, entry_of_act, tests_for_holder, wait_for}
use Rattle.bd_entry.specs.Calls.{Place, at_of, is_made_by}
use Rattle.bd_entry.specs.Promises.{is_whole_refusal}
use Rattle.bd_entry.specs.Refusals.{descriptor_of, file_of, file_of_call, first_refusal}
use Rattle.bd_entry.specs.Rules.{place_in}
use Rattle.bd_entry.specs.RulesOfCalls.{HasFieldsOf}
use Rattle.bd_entry.specs.Store.{Descriptor, Store, descriptor_at}
use Rattle.bd_entry.proofs.Accesses.{of_call-in_store}
use Rattle.bd_entry.proofs.DescriptorSteps.{is_close}
use Rattle.bd_entry.proofs.Holders.{is_some-position}
use Rattle.bd_entry.proofs.NextActs.{busy_adds_none}
use Rattle.bd_entry.proofs.Slots.{some_of}
use Rattle.bd_entry.proofs.WriteModes.{cases_nil}
use Rattle.bd_turns.proofs.AddedByActs.{processor_adds}
use Rattle.bd_turns.proofs.LegalActs.{none_as_added, pieces_outstanding}
use Rattle.bd_turns.proofs.NextRevocations.{GoesOn, next_act-cases}
use Rattle.bd_turns.proofs.StayingDescriptors.{LeavesOpen}
use Rattle.bd_turns.specs.Added.{IsAdded}
use Rattle.bd_turns.specs.declared.turn.Row.{Row}
use Rattle.bd_turns.specs.Processors as processors
use Rattle.bd_turns.specs.Processors.{next_action, running_of}
use Rattle.bd_turns.specs.Reached.{IsReached}
use Rattle.bd_turns.specs.Sound.{IsHeldOnce, is_clear_at}
use Rattle.bd_turns.specs.State.{State, does_hold, holder_of, new_progress, outstanding, progress_of, running}
use Rattle.bd_turns.specs.Turns.{holds_throughout}

-- ---- holders

-- where the element at an index passes a test, one does
any_at : {X : Type 0} (test : X → Bool) (xs : List X) (i : ℕ) (none : X) → test none ≡ false → test (slice_index_or xs i none) ≡ true →
    list_any test xs ≡ true
any_at test [] i none fails passes = absurd (both_ways (test none) fails passes)
any_at test (x ∷ xs) zero none fails passes = or_left (test x) (list_any test xs) passes
any_at test (x ∷ xs) (suc i) none fails passes = or_right (test x) (list_any test xs) (any_at test xs i none fails passes)

-- the process holds the file
holds_it : (m : State) (process file : ℕ) → (progress_of m process).held ≡ Some file → does_hold file (progress_of m process) ≡ true
holds_it m process file is = ap (λ (o : Option ℕ). option_map_or (nat_eq file) o false) is ∙ eq-eqb file file refl

-- a process that holds a file is its holder
pub holder_is : (m : State) (process file : ℕ) → IsHeldOnce m → (progress_of m process).held ≡ Some file → holder_of m file ≡ Some process
holder_is m process file once is =
    let here = holds_it m process file is in
    let found = some_of (holder_of m file)
    (is_some-position (does_hold file) m.processes ∙ any_at (does_hold file) m.processes process new_progress refl here) in
    let there = (position-Some (does_hold file) m.processes found.0 new_progress found.1).1 in
    found.1 ∙ ap Some (once file found.0 process there here)

-- ---- calls that close

-- a call that closes a descriptor waits for the holder of its file, and holds it
record Closes (call : Call) : Type 0 where
  tests : tests_for_holder call ≡ true
  holds : holds_throughout call ≡ true
  file_is : (s : Store) (slot : Option Descriptor) → file_of_call s call slot ≡ option_map (λ (d : Descriptor). d.file) slot

closes : (call : Call) (at : At) (fd : ℕ) → is_made_by call (Closed at fd) ≡ true → Closes call
closes (Close named) at fd made = record { tests = refl; holds = refl; file_is = λ s slot. refl }
closes (Enter name mode hows.Plain) at fd made = absurd (false≢true made)
closes (Enter name mode hows.Direct) at fd made = absurd (false≢true made)
closes call at fd made = absurd (false≢true made)

busy_at_first_adds_none : (s : Store) (holders : Holders) (p : Place) (act : Act) → busy_at_first s holders p ≡ Some act →
    entry_of_act s p act ≡ None
busy_at_first_adds_none s holders p act is = by (tests_for_holder p.call) is
  where
    by : (b : Bool) → cond b (busy s holders p) None ≡ Some act → entry_of_act s p act ≡ None
    by true is = busy_adds_none s holders p act is
    by false is = absurd (none-some act is)

-- what keeps a call from beginning adds a refusal of it as a whole, or nothing
beginning_adds : (s : Store) (holders : Holders) (p : Place) (o : Option Reason) (act : Act) (e : Entry) →
    before_beginning s holders p o ≡ Some act → entry_of_act s p act ≡ Some e → is_whole_refusal e ≡ true
beginning_adds s holders p None act e is adds = absurd (none-some e (sym (busy_at_first_adds_none s holders p act is) ∙ adds))
beginning_adds s holders p (Some reason) act e is adds = by (comes_before_holder reason) is
  where
    refused : Some (acts.Refuse None reason) ≡ Some act → is_whole_refusal e ≡ true
    refused same =
        let entry : Entry = Rattle.bd_entry.specs.declared.entry.Entry.TheVariants.Refused p.at None reason in
        ap is_whole_refusal (sym (same_Some entry e (ap (entry_of_act s p) (same_Some (acts.Refuse None reason) act same) ∙ adds)))

    later : (o : Option Act) → option_or o (Some (acts.Refuse None reason)) ≡ Some act → (o ≡ Some act → entry_of_act s p act ≡ None) →
        is_whole_refusal e ≡ true
    later None same quiet = refused same
    later (Some other) same quiet = absurd (none-some e (sym (quiet same) ∙ adds))

    by : (b : Bool) →
        cond b (Some (acts.Refuse None reason)) (option_or (busy_at_first s holders p) (Some (acts.Refuse None reason))) ≡ Some act →
        is_whole_refusal e ≡ true
    by true same = refused same
    by false same = later (busy_at_first s holders p) same (busy_at_first_adds_none s holders p act)

-- a call that nothing keeps from beginning, and that waits for the holder of its file, meets no other holder
none_busy : (s : Store) (holders : Holders) (p : Place) (file holder : ℕ) → tests_for_holder p.call ≡ true → file_of s p ≡ Some file →
    holders file ≡ Some holder → busy_at_first s holders p ≡ None → holder ≡ p.at.process
none_busy s holders p file holder tests of held none =
    let waits : busy_at_first s holders p ≡ cond (nat_eq holder p.at.process) None (Some (acts.Busy file holder)) =
    ap (λ (b : Bool). cond b (busy s holders p) None) tests
    ∙ ap (option_and_then (λ file. wait_for p.at.process file (holders file))) of ∙ ap (wait_for p.at.process file) held in
    ⊎_elim {C = holder ≡ p.at.process}
    (λ same. eqb-true holder p.at.process same)
    (λ differ.
    absurd
    (none-some (acts.Busy file holder)
    (sym none ∙ waits ∙ cond-false (nat_eq holder p.at.process) None (Some (acts.Busy file holder)) differ)))
    (cases_Bool (nat_eq holder p.at.process))

module _ (v : Volume) (m : State) (p : Place) (row : Row) (e : Entry) (reached : IsReached v m) (is : running m p.at.process ≡ Some p)
    (acting : next_action m p ≡ Some (processors.Adds row e)) (added : IsAdded v m p e) where
  abbrev process : ℕ
  process = p.at.process

  place_is : place_in m.store p.call (at_of e) ≡ p
  place_is =
      ap (place_in m.store p.call) added.at_is
      ∙ ap (λ (before : List Entry). record { call = p.call; at = p.at; before = before }) added.work_is

  -- the call goes on, and nothing is outstanding of it
  goes_on : (at : At) (by : ℕ) → e ≡ Closed at by →
      (outstanding (progress_of m process) ≡ []) × ((act : Act) × GoesOn m.store (holder_of m) (running_of m p) act)
  goes_on at by closed =
      ⊎_elim
      (λ of_act. (
        none_as_added m.store (holder_of m) (running_of m p) of_act.act e (pieces_outstanding v m p reached is) of_act.next of_act.adds,
        ⊎_elim
            (λ kept.
            absurd
            (false≢true
            (sym (ap is_whole_refusal closed)
            ∙ beginning_adds m.store (holder_of m) p (first_refusal m.store process p.call) of_act.act e kept.act_is of_act.adds)))
            (λ goes. (of_act.act, goes))
            (next_act-cases m.store (holder_of m) (running_of m p) of_act.act of_act.next),
      ))
      (λ clear.
      absurd (false≢true (ap is_close (clear.clears.entry ∙ closed))))
      (processor_adds m p row e acting)

  -- the holder of the file of a descriptor that is closed is the process that closes it
  closes_own : (at : At) (by : ℕ) → e ≡ Closed at by → (d : Descriptor) → descriptor_at m.store process by ≡ Some d → (other : ℕ) →
      (progress_of m other).held ≡ Some d.file → other ≡ process
  closes_own at by closed d there other held =
      let of = of_call-in_store v m.script m.journal m.store p.call e added.next in
      let call = closes p.call at by (subst (λ (x : Entry). is_made_by p.call x ≡ true) closed of.kind) in
      let fields : HasFieldsOf p (Closed at by) =
      subst (λ (x : Entry). HasFieldsOf p x) closed (subst (λ (q : Place). HasFieldsOf q e) place_is of.fields) in
      let slot : descriptor_of m.store p ≡ Some d = ap (option_and_then (descriptor_at m.store process)) fields ∙ there in
      let of_file : file_of m.store p ≡ Some d.file =
      call.file_is m.store (descriptor_of m.store p) ∙ ap (option_map (λ (d : Descriptor). d.file)) slot in
      let goes = goes_on at by closed in
      let sound = reached.sound.holds_are in
      ⊎_elim {C = other ≡ process}
      (λ first.
      let allowed = goes.1.1.may_begin goes.0 first in
      let free = goes.1.1.free goes.0 first in
      let none : busy_at_first m.store (holder_of m) p ≡ None =
      sym (ap (before_beginning m.store (holder_of m) p) allowed) ∙ free in
      none_busy m.store (holder_of m) p d.file other call.tests of_file (holder_is m other d.file sound.held_once held) none)
      (λ begun.
      let own = sound.begun_holding process p is call.holds begun in
      let same : own.0 ≡ d.file = same_Some own.0 d.file (sym own.1 ∙ of_file) in
      sound.held_once d.file other process (holds_it m other d.file held)
      (holds_it m process d.file (own.2 ∙ ap Some same)))
      (cases_nil p.before)

  -- a processor closes no descriptor of a right that another call cleared
  pub leaves_cleared : (other : ℕ) (q : Place) (key : Key) → other ≢ process → running m other ≡ Some q →
      list_any (is_clear_at key) q.before ≡ true → LeavesOpen e key.process key.fd
  leaves_cleared other q key differ runs_m some at by closed process_is fd_is =
      let held = reached.sound.calls.clears_held other q key runs_m some in
      let here : at ≡ p.at = ap at_of (sym closed) ∙ added.at_is in
      let owner : key.process ≡ process = process_is ∙ ap (λ (a : At). a.process) here in
      let there : descriptor_at m.store process by ≡ Some held.0 =
      ap (λ (n : ℕ). descriptor_at m.store n by) (sym owner) ∙ ap (descriptor_at m.store key.process) (sym fd_is) ∙ held.1 in
      differ (closes_own at by closed held.0 there other held.2)
