-- The entry that a processor adds for what its running call does next.
use Rattle.std.proofs.Common.{◌≡◌, ℕ, Bool, true, false, cond, Option, None, Some, refl, sym, ap, ◌∙◌, subst}
use Rattle.std.specs.Option.{option_and_then, option_map, option_or}
use Rattle.std.specs.List.{find}
use Rattle.std.proofs.lemmas.Bool.{both_ways, false≢true}
use Rattle.std.proofs.lemmas.Option.{none-some, same_Some}
use Rattle.bd_base.specs.declared.reason.Reason.{Reason}
use Rattle.bd_base.specs.declared.script.Call.{Call}
use Rattle.bd_base.specs.declared.script.Call.TheVariants.{Enter, Read, Write}
use Rattle.bd_base.specs.declared.script.How.TheVariants as hows
use Rattle.bd_base.specs.declared.volume.Volume.{Volume}
use Rattle.bd_entry.specs.declared.act.Act.{Act}
use Rattle.bd_entry.specs.declared.act.Act.TheVariants as acts
use Rattle.bd_entry.specs.declared.entry.Entry.{Entry}
use Rattle.bd_entry.specs.Actions.{Holders, Running, before_beginning, busy, busy_at_first, comes_before_holder, entry_of_act, has_begun, kernel_part, keys_to_revoke, move_piece, next_act, own_act, piece_numbers, revoke, submit_or_poll, tests_for_holder, wait_for}
use Rattle.bd_entry.specs.Calls.{Place, piece_of_call}
use Rattle.bd_entry.specs.NextEntries.{IsLegalAt}
use Rattle.bd_entry.specs.Refusals.{descriptor_of, file_of, first_refusal, is_next_for_kernel}
use Rattle.bd_entry.specs.Store.{Store}
use Rattle.bd_entry.proofs.NextEntries.{next_entries_are_legal}
use Rattle.bd_machine.specs.Turns.{adds_entry}
use Rattle.bd_machine.proofs.ProcessorActs.{free, goes_on, nobody}
use Rattle.bd_turns.specs.Added.{IsAdded, by_processor}
use Rattle.bd_turns.specs.Processors as processors
use Rattle.bd_turns.specs.Processors.{action_for, add_entry, next_action, row_of_entry, running_of}
use Rattle.bd_turns.specs.Reached.{IsReached}
use Rattle.bd_turns.specs.State.{State, holder_of, outstanding, progress_of, running}
use Rattle.bd_turns.proofs.LegalTurns.{turns_add_legally}
use Rattle.bd_turns.proofs.NextActsThere.{IsDoable, adds, polls, revokes, submits}
use Rattle.bd_turns.proofs.RunningPlaces.{ready}

-- ---- what a call does that waits for nobody

-- whether the act waits for a holder
abbrev is_busy : Act → Bool
is_busy (acts.Busy file holder) = true
is_busy act = false

-- what is there but for a wait is there where nobody holds a file
record Frees (a c : Option Act) : Type 0 where
  same : (act : Act) → a ≡ Some act → is_busy act ≡ false → c ≡ Some act
  none : a ≡ None → c ≡ None

frees_same : (a : Option Act) → Frees a a
frees_same a = record { same = λ act is other. is; none = λ none. none }

frees_or : (a b c d : Option Act) → Frees a c → Frees b d → Frees (option_or a b) (option_or c d)
frees_or None b c d first second = record {
  same = λ act is other. ap (λ (o : Option Act). option_or o d) (first.none refl) ∙ second.same act is other;
  none = λ none. ap (λ (o : Option Act). option_or o d) (first.none refl) ∙ second.none none;
}
frees_or (Some x) b c d first second = record {
  same = λ act is other.
      ap (λ (o : Option Act). option_or o d) (first.same x refl (ap is_busy (same_Some x act is) ∙ other)) ∙ is;
  none = λ none. absurd (none-some x (sym none));
}

module _ (s : Store) (holders : Holders) where
  -- a call waits for a holder by a wait
  waits_busy : (p : Place) (act : Act) → busy s holders p ≡ Some act → is_busy act ≡ true
  waits_busy p act is = by (file_of s p) is
    where
      of : (file holder : ℕ) (b : Bool) → cond b None (Some (acts.Busy file holder)) ≡ Some act → is_busy act ≡ true
      of file holder true none = absurd (none-some act none)
      of file holder false waits = ap is_busy (sym (same_Some (acts.Busy file holder) act waits))

      held : (file : ℕ) (o : Option ℕ) → wait_for p.at.process file o ≡ Some act → is_busy act ≡ true
      held file None none = absurd (none-some act none)
      held file (Some holder) waits = of file holder _ waits

      by : (o : Option ℕ) → option_and_then (λ file. wait_for p.at.process file (holders file)) o ≡ Some act → is_busy act ≡ true
      by None none = absurd (none-some act none)
      by (Some file) waits = held file (holders file) waits

  frees_busy : (p : Place) → Frees (busy s holders p) (busy s nobody p)
  frees_busy p = record {
    same = λ act is other. absurd (both_ways (is_busy act) other (waits_busy p act is));
    none = λ none. free s p;
  }

  frees_first : (p : Place) → Frees (busy_at_first s holders p) (busy_at_first s nobody p)
  frees_first p = by (tests_for_holder p.call)
    where
      by : (b : Bool) → Frees (cond b (busy s holders p) None) (cond b (busy s nobody p) None)
      by true = frees_busy p
      by false = frees_same None

  frees_beginning : (p : Place) (o : Option Reason) → Frees (before_beginning s holders p o) (before_beginning s nobody p o)
  frees_beginning p None = frees_first p
  frees_beginning p (Some reason) = by (comes_before_holder reason)
    where
      by : (b : Bool) →
          Frees (cond b (Some (acts.Refuse None reason)) (option_or (busy_at_first s holders p) (Some (acts.Refuse None reason))))
          (cond b (Some (acts.Refuse None reason)) (option_or (busy_at_first s nobody p) (Some (acts.Refuse None reason))))
      by true = frees_same (Some (acts.Refuse None reason))
      by false =
          frees_or (busy_at_first s holders p) (Some (acts.Refuse None reason)) (busy_at_first s nobody p) (Some (acts.Refuse None reason))
          (frees_first p) (frees_same (Some (acts.Refuse None reason)))

  frees_kernel : (p : Place) → Frees (kernel_part s holders p) (kernel_part s nobody p)
  frees_kernel p = by (find (is_next_for_kernel s p) (piece_numbers p.call))
    where
      move : ℕ → Option Act
      move number = option_and_then (λ piece. option_map (move_piece s p number piece) (descriptor_of s p)) (piece_of_call p.call number)

      by : (o : Option ℕ) →
          Frees (option_and_then (λ number. option_or (busy s holders p) (move number)) o)
          (option_and_then (λ number. option_or (busy s nobody p) (move number)) o)
      by None = frees_same None
      by (Some number) = frees_or (busy s holders p) (move number) (busy s nobody p) (move number) (frees_busy p) (frees_same (move number))

  frees_own : (r : Running) (call : Call) → Frees (own_act s holders r call) (own_act s nobody r call)
  frees_own r (Read fd off len) =
      frees_or (submit_or_poll s r) (kernel_part s holders r.place) (submit_or_poll s r) (kernel_part s nobody r.place)
      (frees_same (submit_or_poll s r)) (frees_kernel r.place)
  frees_own r (Write fd off bytes) =
      frees_or (submit_or_poll s r) (kernel_part s holders r.place) (submit_or_poll s r) (kernel_part s nobody r.place)
      (frees_same (submit_or_poll s r)) (frees_kernel r.place)
  frees_own r (Enter name mode hows.Direct) = frees_same (own_act s holders r (Enter name mode hows.Direct))
  frees_own r (Enter name mode hows.Plain) = frees_same (own_act s holders r (Enter name mode hows.Plain))
  frees_own r call = frees_same (own_act s holders r call)

  frees_next : (r : Running) → Frees (next_act s holders r) (next_act s nobody r)
  frees_next r =
      let p = r.place in
      let reason = first_refusal s p.at.process p.call in
      let keys = revoke (keys_to_revoke s p p.call) in
      frees_or (cond (has_begun r) None (before_beginning s holders p reason)) (option_or keys (own_act s holders r p.call))
      (cond (has_begun r) None (before_beginning s nobody p reason)) (option_or keys (own_act s nobody r p.call)) (by (has_begun r))
      (frees_or keys (own_act s holders r p.call) keys (own_act s nobody r p.call) (frees_same keys) (frees_own r p.call))
    where
      by : (b : Bool) →
          Frees (cond b None (before_beginning s holders r.place (first_refusal s r.place.at.process r.place.call)))
          (cond b None (before_beginning s nobody r.place (first_refusal s r.place.at.process r.place.call)))
      by true = frees_same None
      by false = frees_beginning r.place (first_refusal s r.place.at.process r.place.call)

-- ---- an act that adds an entry

not_busy : (act : Act) → adds_entry act ≡ true → is_busy act ≡ false
not_busy (acts.Busy file holder) does = absurd (false≢true does)
not_busy act does = refl

doable-adds : (s : Store) (r : Running) (act : Act) → IsDoable s r act → adds_entry act ≡ true → (e : Entry) × (entry_of_act s r.place act ≡ Some e)
doable-adds s r act (adds _ e is) does = (e, is)
doable-adds s r act (revokes key keys) does = absurd (false≢true does)
doable-adds s r act (submits piece) does = absurd (false≢true does)
doable-adds s r act (polls some) does = absurd (false≢true does)

-- there is an entry that it adds
pub entry_there : (v : Volume) (m : State) (p : Place) (act : Act) → IsReached v m → running m p.at.process ≡ Some p →
    next_act m.store (holder_of m) (running_of m p) ≡ Some act → adds_entry act ≡ true → (e : Entry) × (entry_of_act m.store p act ≡ Some e)
entry_there v m p act reached runs next does =
    let done = goes_on v m p reached runs in
    let same : next_act m.store nobody (running_of m p) ≡ Some act =
    (frees_next m.store (holder_of m) (running_of m p)).same act next (not_busy act does) in
    let is : done.0 ≡ act = same_Some done.0 act (sym done.1 ∙ same) in
    doable-adds m.store (running_of m p) act (subst (IsDoable m.store (running_of m p)) is done.2) does

-- the turn adds that entry
pub action_adds : (m : State) (p : Place) (act : Act) (e : Entry) → next_act m.store (holder_of m) (running_of m p) ≡ Some act →
    entry_of_act m.store p act ≡ Some e → next_action m p ≡ Some (processors.Adds (row_of_entry e) e)
action_adds m p act e next is =
    ap (option_and_then (action_for m p)) next ∙ by act is
  where
    by : (act : Act) → entry_of_act m.store p act ≡ Some e → action_for m p act ≡ Some (processors.Adds (row_of_entry e) e)
    by (acts.Busy file holder) none = absurd (none-some e none)
    by (acts.Revoke keys) none = absurd (none-some e none)
    by (acts.Submit piece) none = absurd (none-some e none)
    by acts.Poll none = absurd (none-some e none)
    by act found = ap (option_map (λ (entry : Entry). processors.Adds (row_of_entry entry) entry)) found

-- what is known of the entry that an act of the running call adds
pub record AddsHere (v : Volume) (m : State) (p : Place) (act : Act) (e : Entry) : Type 0 where
  pub adds : entry_of_act m.store p act ≡ Some e
  pub acting : next_action m p ≡ Some (processors.Adds (row_of_entry e) e)
  pub added : IsAdded v m p e
  pub legal : IsLegalAt m.store p e

pub adds_here : (v : Volume) (m : State) (p : Place) (act : Act) (e : Entry) → IsReached v m → running m p.at.process ≡ Some p →
    next_act m.store (holder_of m) (running_of m p) ≡ Some act → entry_of_act m.store p act ≡ Some e → AddsHere v m p act e
adds_here v m p act e reached runs next is =
    let acting = action_adds m p act e next is in
    let added = turns_add_legally v m reached p e (by_processor (row_of_entry e) runs acting) in
    record {
      adds = is;
      acting = acting;
      added = added;
      legal =
          next_entries_are_legal p.call m.store (holder_of m) p.at p.before (outstanding (progress_of m p.at.process)) act e
          (ready v m p reached runs added.unfinished) next is;
    }
