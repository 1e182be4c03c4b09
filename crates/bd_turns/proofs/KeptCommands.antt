-- What a turn leaves of commands and of cleared rights.
use Rattle.std.proofs.Common.{◌≡◌, ◌≢◌, ℕ, ◌<◌, ◌≤◌, true, false, List, [], ◌∷◌, ◌++◌, map, length, Option, None, Some, refl, sym, ap, ◌∙◌, subst, arith, ⊎_elim}
use Rattle.std.specs.Prelude.{nat_eq, All, count_by}
use Rattle.std.specs.Option.{option_to_list}
use Rattle.std.specs.List.{list_any}
use Rattle.std.proofs.lemmas.Bool.{both_ways, false≢true, or_cases}
use Rattle.std.proofs.lemmas.List.{append-nil}
use Rattle.std.proofs.lemmas.List.Elements.{All-nil, All-weaker}
use Rattle.std.proofs.lemmas.List.Folds.{list_any-append}
use Rattle.std.proofs.lemmas.Option.{none-some, same_Some}
use Rattle.bd_base.specs.declared.journal.At.{At}
use Rattle.bd_base.specs.declared.key.Key.{Key}
use Rattle.bd_base.specs.declared.script.Script.{Script}
use Rattle.bd_base.specs.declared.volume.Volume.{Volume}
use Rattle.bd_base.specs.Keys.{same_key-is}
use Rattle.bd_entry.specs.declared.entry.Entry.{Entry}
use Rattle.bd_entry.specs.declared.entry.Entry.TheVariants.{Cleared}
use Rattle.bd_entry.specs.Actions.{is_for_device}
use Rattle.bd_entry.specs.Calls.{Place, at_of, call_at, has_missed, is_ended_by, pieces_of_call}
use Rattle.bd_entry.specs.Effects.{effect_of}
use Rattle.bd_entry.specs.Laws.{AreOfCall, IsHistory}
use Rattle.bd_entry.specs.Refusals.{file_of}
use Rattle.bd_entry.specs.Rules.{IsOpen, RightFile, place_in}
use Rattle.bd_entry.specs.RulesOfRights.{HasRightFile, TheDescriptor}
use Rattle.bd_entry.specs.Store.{Descriptor, Store, descriptor_at, work_of}
use Rattle.bd_entry.proofs.Accesses.{of_call-in_store}
use Rattle.bd_entry.proofs.CallOrder.{start_of}
use Rattle.bd_entry.proofs.DescriptorSteps.{is_close}
use Rattle.bd_entry.proofs.HistoryLaws.{history_leads}
use Rattle.bd_entry.proofs.NextReady.{closes_end, ended_by_end}
use Rattle.bd_turns.proofs.Cases.{running_process}
use Rattle.bd_turns.proofs.ClearingCalls.{clears_key}
use Rattle.bd_turns.proofs.DoneTurns.{IsDone, NoneRunsAfter, RunsAfter, grown, none_runs_after, own_entries, runs_after}
use Rattle.bd_turns.proofs.KeptCalls.{ended_parts, unended_by_entries}
use Rattle.bd_turns.proofs.LegalActs.{none_without_pieces}
use Rattle.bd_turns.proofs.RunningPlaces.{runs_at}
use Rattle.bd_turns.proofs.StayingDescriptors.{LeavesOpen, file_stays, for_device-later, for_device-stays}
use Rattle.bd_turns.specs.Added.{IsAdded}
use Rattle.bd_turns.specs.Reached.{IsReached}
use Rattle.bd_turns.specs.Sound.{AreClearsHeld, AreCommands, AreCommandsOfCalls, AreForDevice, is_clear_at, is_told}
use Rattle.bd_turns.specs.State.{Completed, InHand, Progress, State, has_ended, outstanding, pieces_in_hand, progress_of, running}
use Rattle.bd_turns.specs.Turns.{after_effect, holds_throughout, with_entry, with_entry_if_any, with_turn_used}

-- ---- commands

-- where nothing is outstanding, nothing is submitted, in a hand or completed
record HasNone (progress : Progress) : Type 0 where
  done : progress.completed ≡ []
  hand : progress.hand ≡ None
  submitted : progress.submitted ≡ []

has_none : (progress : Progress) → outstanding progress ≡ [] → HasNone progress
has_none progress none = by progress.completed refl progress.hand refl progress.submitted refl
  where
    with_completed : List Completed → List ℕ
    with_completed done = map (λ (c : Completed). c.piece) done ++ pieces_in_hand progress.hand ++ progress.submitted

    by : (done : List Completed) → progress.completed ≡ done → (hand : Option InHand) → progress.hand ≡ hand →
        (submitted : List ℕ) → progress.submitted ≡ submitted → HasNone progress
    by [] d None h [] s = record { done = d; hand = h; submitted = s }
    by (c ∷ done) d hand h submitted s =
        let rest : List ℕ = map (λ (c : Completed). c.piece) done ++ pieces_in_hand progress.hand ++ progress.submitted in
        let is : outstanding progress ≡ c.piece ∷ rest = ap with_completed d in
        absurd (let no : c.piece ∷ rest ≡ [] = sym is ∙ none in cc)
    by [] d (Some hand) h submitted s =
        let is : outstanding progress ≡ hand.piece ∷ progress.submitted =
        ap with_completed d
        ∙ ap (λ (x : Option InHand). pieces_in_hand x ++ progress.submitted) h in
        absurd (let no : hand.piece ∷ progress.submitted ≡ [] = sym is ∙ none in cc)
    by [] d None h (piece ∷ submitted) s =
        let is : outstanding progress ≡ piece ∷ submitted =
        ap with_completed d
        ∙ ap (λ (x : Option InHand). pieces_in_hand x ++ progress.submitted) h ∙ s in
        absurd (let no : piece ∷ submitted ≡ [] = sym is ∙ none in cc)

-- the journal tells nothing yet of a submitted piece
abbrev pub TellsNone : Place → ℕ → Type 0
TellsNone q piece = is_told q piece ≡ false

-- it has told what became of a completed one
abbrev pub TellsOf : Place → Completed → Type 0
TellsOf q done = (is_told q done.piece ≡ true) × (done.missed ≡ has_missed done.piece q.before)

-- a process without commands
pub no_commands : (q : Place) (progress : Progress) → outstanding progress ≡ [] → AreCommands q progress
no_commands q progress none =
    let parts = has_none progress none in
    record {
      differ = λ piece. subst (λ (pieces : List ℕ). count_by (nat_eq piece) pieces ≤ 1) (sym none) (omega arith);
      pieces = subst (All (λ piece. piece < length (pieces_of_call q.call))) (sym none) (All-nil (λ piece. piece < length (pieces_of_call q.call)));
      submitted = subst (All (TellsNone q)) (sym parts.submitted) (All-nil (TellsNone q));
      in_hand = λ hand is. absurd (none-some hand (sym parts.hand ∙ is));
      completed = subst (All (TellsOf q)) (sym parts.done) (All-nil (TellsOf q));
    }

-- a count of turns does not matter
used_commands : (q : Place) (progress : Progress) → AreCommands q progress → AreCommands q (with_turn_used progress)
used_commands q progress are = record {
  differ = are.differ;
  pieces = are.pieces;
  submitted = are.submitted;
  in_hand = are.in_hand;
  completed = are.completed;
}

module _ (v : Volume) (m done : State) (p : Place) (o : Option Entry) (progress : Progress) (reached : IsReached v m)
    (is : IsDone v m done p o progress) where
  abbrev process : ℕ
  process = p.at.process

  abbrev next : State
  next = after_effect done p

  abbrev after : Place
  after = grown p o

  abbrev sound : Rattle.bd_turns.specs.Sound.AreCallsSound m
  sound = reached.sound.calls

  pub commands_kept : AreCommands after progress → AreCommandsOfCalls next
  commands_kept are = record {
    of_running = λ other q runs_next. by other q (runs_after v m done p o progress sound is other q runs_next);
    none = λ other none. by_none other (none_runs_after v m done p o progress sound is other none);
  }
    where
      by : (other : ℕ) (q : Place) → RunsAfter v m done p o progress sound is other q → AreCommands q (progress_of next other)
      by other q (RunsAfter.of_other differ runs_m same) =
          subst (AreCommands q) (sym same) (sound.commands.of_running other q runs_m)
      by other q (RunsAfter.goes_on here place same unended) =
          subst (λ (n : ℕ). AreCommands q (progress_of next n)) (sym here)
          (subst (AreCommands q) (sym same)
          (subst (λ (x : Place). AreCommands x (with_turn_used progress)) (sym place) (used_commands after progress are)))
      by other q (RunsAfter.begins here empty called same ended) =
          no_commands q (progress_of next other)
          (ap (λ (n : ℕ). outstanding (progress_of next n)) here ∙ ap outstanding same
          ∙ (ended_parts p.call after.before progress ended).1)

      by_none : (other : ℕ) → NoneRunsAfter v m done p o progress sound is other → outstanding (progress_of next other) ≡ []
      by_none other (NoneRunsAfter.none_of_other differ none_m same) = ap outstanding same ∙ sound.commands.none other none_m
      by_none other (NoneRunsAfter.none_begins here same ended) =
          ap (λ (n : ℕ). outstanding (progress_of next n)) here ∙ ap outstanding same
          ∙ (ended_parts p.call after.before progress ended).1

  -- ---- pieces for the device

  unfinished_in : (o : Option Entry) → ((e : Entry) → o ≡ Some e → IsAdded v m p e) →
      is_ended_by p.call (p.before ++ option_to_list o) ≡ false → is_ended_by p.call p.before ≡ false
  unfinished_in None added goes = sym (ap (is_ended_by p.call) (append-nil p.before)) ∙ goes
  unfinished_in (Some e) added goes = (added e refl).unfinished

  -- an entry of a call that goes on closes no descriptor
  closes_none : (e : Entry) → o ≡ Some e → is_ended_by p.call after.before ≡ false → is_close e ≡ true → ⊥
  closes_none e adds goes closes =
      let added = is.added e adds in
      let kind = (of_call-in_store v m.script m.journal m.store p.call e added.next).kind in
      let ends : is_ended_by p.call after.before ≡ true =
      ap (λ (x : Option Entry). is_ended_by p.call (p.before ++ option_to_list x)) adds
      ∙ ended_by_end p.call p.before e (closes_end p.call e kind closes) in
      both_ways (is_ended_by p.call after.before) goes ends

  -- the store after an entry
  added_store : (e : Entry) → IsAdded v m p e → (with_entry m p.call e p.at).store ≡ effect_of m.store (place_in m.store p.call (at_of e)) e
  added_store e added = ap (λ (at : At). effect_of m.store (place_in m.store p.call at) e) (sym added.at_is)

  device_in : (o : Option Entry) → ((e : Entry) → o ≡ Some e → IsAdded v m p e) → (q : Place) (before : List Entry) (number : ℕ) →
      ((e : Entry) → o ≡ Some e → is_close e ≡ true → q.at.process ≢ (at_of e).process) →
      ((e : Entry) → o ≡ Some e → is_ended_by p.call (work_of m.store (at_of e).process ++ e ∷ []) ≡ true → q.at.process ≢ (at_of e).process) →
      is_for_device m.store q number ≡ true →
      is_for_device (with_entry_if_any m p o).store (record { call = q.call; at = q.at; before = before }) number ≡ true
  device_in None added q before number leaves goes device = for_device-later m.store q.call q.at q.before before number device
  device_in (Some e) added q before number leaves goes device =
      let is_added = added e refl in
      subst (λ (s : Store). is_for_device s (record { call = q.call; at = q.at; before = before }) number ≡ true) (sym (added_store e is_added))
      (for_device-stays m.store p.call q.call e (is_added.next.keeps IsOpen) q.at q.before before number (leaves e refl) (goes e refl) device)

  -- the pieces outstanding of another process are still for the device
  device_other : (q : Place) (pieces : List ℕ) → q.at.process ≢ process → All (λ piece. is_for_device m.store q piece ≡ true) pieces →
      All (λ piece. is_for_device next.store q piece ≡ true) pieces
  device_other q pieces differ all =
      All-weaker (λ piece. is_for_device m.store q piece ≡ true) (λ piece. is_for_device next.store q piece ≡ true)
      (λ piece device.
      subst (λ (s : Store). is_for_device s q piece ≡ true) (sym is.store)
      (device_in o is.added q q.before piece
      (λ e adds closes same. differ (same ∙ ap (λ (at : At). at.process) (is.added e adds).at_is))
      (λ e adds ends same. differ (same ∙ ap (λ (at : At). at.process) (is.added e adds).at_is))
      device))
      pieces all

  -- so are those of the call, as it goes on
  device_own : (pieces : List ℕ) → is_ended_by p.call after.before ≡ false → All (λ piece. is_for_device m.store p piece ≡ true) pieces →
      All (λ piece. is_for_device next.store after piece ≡ true) pieces
  device_own pieces goes all =
      All-weaker (λ piece. is_for_device m.store p piece ≡ true) (λ piece. is_for_device next.store after piece ≡ true)
      (λ piece device.
      subst (λ (s : Store). is_for_device s after piece ≡ true) (sym is.store)
      (device_in o is.added p after.before piece
      (λ e adds closes same. closes_none e adds goes closes)
      (λ e adds ends same.
      let added = is.added e adds in
      let work : work_of m.store (at_of e).process ≡ p.before =
      ap (λ (at : At). work_of m.store at.process) added.at_is ∙ added.work_is in
      both_ways (is_ended_by p.call after.before) goes
      (ap (λ (x : Option Entry). is_ended_by p.call (p.before ++ option_to_list x)) adds
      ∙ ap (λ (before : List Entry). is_ended_by p.call (before ++ e ∷ [])) (sym work) ∙ ends))
      device))
      pieces all

  pub device_kept : (is_ended_by p.call p.before ≡ false → All (λ piece. is_for_device m.store p piece ≡ true) (outstanding progress)) →
      AreForDevice next
  device_kept for_device other q runs_next = by (runs_after v m done p o progress sound is other q runs_next)
    where
      by : RunsAfter v m done p o progress sound is other q → is_ended_by q.call q.before ≡ false →
          All (λ piece. is_for_device next.store q piece ≡ true) (outstanding (progress_of next other))
      by (RunsAfter.of_other differ runs_m same) goes =
          let there : q.at.process ≡ other = running_process m other q runs_m in
          subst (λ (x : Progress). All (λ piece. is_for_device next.store q piece ≡ true) (outstanding x)) (sym same)
          (device_other q (outstanding (progress_of m other)) (λ here. differ (sym there ∙ here)) (sound.for_device other q runs_m goes))
      by (RunsAfter.goes_on here place same unended) goes =
          let goes_on : is_ended_by p.call after.before ≡ false = ap (λ (x : Place). is_ended_by x.call x.before) (sym place) ∙ goes in
          subst (λ (n : ℕ). All (λ piece. is_for_device next.store q piece ≡ true) (outstanding (progress_of next n))) (sym here)
          (subst (λ (x : Progress). All (λ piece. is_for_device next.store q piece ≡ true) (outstanding x)) (sym same)
          (subst (λ (x : Place). All (λ piece. is_for_device next.store x piece ≡ true) (outstanding progress)) (sym place)
          (device_own (outstanding progress) goes_on (for_device (unfinished_in o is.added goes_on)))))
      by (RunsAfter.begins here empty called same ended) goes =
          let none : outstanding (progress_of next other) ≡ [] =
          ap (λ (n : ℕ). outstanding (progress_of next n)) here ∙ ap outstanding same ∙ (ended_parts p.call after.before progress ended).1 in
          subst (All (λ piece. is_for_device next.store q piece ≡ true)) (sym none) (All-nil (λ piece. is_for_device next.store q piece ≡ true))

  -- ---- cleared rights

  -- the file of an open descriptor after what the turn added
  file_in : (o : Option Entry) → ((e : Entry) → o ≡ Some e → IsAdded v m p e) → (key : Key) (file : ℕ) →
      ((e : Entry) → o ≡ Some e → LeavesOpen e key.process key.fd) →
      TheDescriptor (descriptor_at m.store key.process key.fd) (λ d. d.file ≡ file) →
      TheDescriptor (descriptor_at (with_entry_if_any m p o).store key.process key.fd) (λ d. d.file ≡ file)
  file_in None added key file leaves has = has
  file_in (Some e) added key file leaves has =
      let is_added = added e refl in
      subst (λ (s : Store). TheDescriptor (descriptor_at s key.process key.fd) (λ d. d.file ≡ file)) (sym (added_store e is_added))
      (file_stays m.store p.call e (is_added.next.keeps IsOpen) key.process key.fd file (leaves e refl) has)

  file_after : (key : Key) (file : ℕ) → ((e : Entry) → o ≡ Some e → LeavesOpen e key.process key.fd) →
      TheDescriptor (descriptor_at m.store key.process key.fd) (λ d. d.file ≡ file) →
      TheDescriptor (descriptor_at next.store key.process key.fd) (λ d. d.file ≡ file)
  file_after key file leaves has =
      subst (λ (s : Store). TheDescriptor (descriptor_at s key.process key.fd) (λ d. d.file ≡ file)) (sym is.store)
      (file_in o is.added key file leaves has)

  -- the descriptor of a right that the call cleared before is of its file
  cleared_before : (key : Key) → list_any (is_clear_at key) p.before ≡ true →
      TheDescriptor (descriptor_at m.store key.process key.fd) (λ d. file_of m.store p ≡ Some d.file)
  cleared_before key some =
      let held = sound.clears_held process p key is.running_is some in
      let holder = reached.sound.holds_are.holds process held.0.file held.2 in
      let here : holder.0 ≡ p = same_Some holder.0 p (sym holder.1 ∙ is.running_is) in
      (held.0, held.1, subst (λ (x : Place). file_of m.store x ≡ Some held.0.file) here holder.2)

  -- so is that of a right that it clears now
  cleared_now : (key : Key) (e : Entry) → IsAdded v m p e → is_clear_at key e ≡ true →
      TheDescriptor (descriptor_at m.store key.process key.fd) (λ d. file_of m.store p ≡ Some d.file)
  cleared_now key e added clears = by e clears (added.next.keeps RightFile)
    where
      place_is : place_in m.store p.call (at_of e) ≡ p
      place_is =
          ap (place_in m.store p.call) added.at_is
          ∙ ap (λ (before : List Entry). record { call = p.call; at = p.at; before = before }) added.work_is

      by : (x : Entry) → is_clear_at key x ≡ true → HasRightFile m.store (place_in m.store p.call (at_of e)) x →
          TheDescriptor (descriptor_at m.store key.process key.fd) (λ d. file_of m.store p ≡ Some d.file)
      by (Cleared at owner fd part) clears right =
          let same : key ≡ record { process = owner; fd = fd; part = part } =
          same_key-is key (record { process = owner; fd = fd; part = part }) clears in
          subst (λ (k : Key). TheDescriptor (descriptor_at m.store k.process k.fd) (λ d. file_of m.store p ≡ Some d.file)) (sym same)
          (right.0, right.1, subst (λ (x : Place). file_of m.store x ≡ Some right.0.file) place_is right.2)
      by x clears right = absurd (false≢true clears)

  cleared_in : (o : Option Entry) → ((e : Entry) → o ≡ Some e → IsAdded v m p e) → (key : Key) →
      list_any (is_clear_at key) (p.before ++ option_to_list o) ≡ true →
      TheDescriptor (descriptor_at m.store key.process key.fd) (λ d. file_of m.store p ≡ Some d.file)
  cleared_in None added key some = cleared_before key (sym (ap (list_any (is_clear_at key)) (append-nil p.before)) ∙ some)
  cleared_in (Some e) added key some =
      ⊎_elim
      (λ before. cleared_before key before)
      (λ now.
      ⊎_elim (λ here. cleared_now key e (added e refl) here) (λ none. absurd (false≢true none))
      (or_cases (is_clear_at key e) false now))
      (or_cases (list_any (is_clear_at key) p.before) (list_any (is_clear_at key) (e ∷ []))
      (sym (list_any-append (is_clear_at key) p.before (e ∷ [])) ∙ some))

  pub clears_kept : IsHistory v next.script next.journal next.store → AreCommands after progress →
      (holds_throughout p.call ≡ true → (key : Key) → list_any (is_clear_at key) after.before ≡ true → progress.held ≡ file_of m.store p) →
      ((other : ℕ) (q : Place) (key : Key) → other ≢ process → running m other ≡ Some q → list_any (is_clear_at key) q.before ≡ true →
      (e : Entry) → o ≡ Some e → LeavesOpen e key.process key.fd) →
      AreClearsHeld next
  clears_kept history are held leaves other q key runs_next some = by (runs_after v m done p o progress sound is other q runs_next)
    where
      own : list_any (is_clear_at key) after.before ≡ true → has_ended p.call after.before progress ≡ false →
          (d : Descriptor) × (descriptor_at next.store key.process key.fd ≡ Some d) × (progress.held ≡ Some d.file)
      own cleared unended =
          let called : call_at next.script p.at ≡ Some p.call =
          ap (λ (s : Script). call_at s p.at) is.script ∙ (runs_at m process p is.running_is).called in
          let of_call : AreOfCall (start_of p.call p.at) after.before =
          subst (AreOfCall (start_of p.call p.at)) (own_entries v m done p o progress sound is)
          ((history_leads v next.script next.journal next.store history).ordered.of_call p.at p.call called) in
          let clears = clears_key (start_of p.call p.at) key after.before of_call cleared in
          let none = none_without_pieces p.call (outstanding progress) are.pieces clears.no_pieces in
          let goes = unended_by_entries p.call after.before progress unended none in
          let found = cleared_in o is.added key cleared in
          let stays = file_after key found.0.file
          (λ e adds at by closed process_is fd_is. closes_none e adds goes (ap is_close closed))
          (found.0, found.1, refl) in
          (stays.0, stays.1, held clears.holds key cleared ∙ found.2 ∙ ap Some (sym stays.2))

      by : RunsAfter v m done p o progress sound is other q →
          (d : Descriptor) × (descriptor_at next.store key.process key.fd ≡ Some d) × ((progress_of next other).held ≡ Some d.file)
      by (RunsAfter.of_other differ runs_m same) =
          let was = sound.clears_held other q key runs_m some in
          let stays = file_after key was.0.file (leaves other q key differ runs_m some) (was.0, was.1, refl) in
          (stays.0, stays.1, ap (λ (x : Progress). x.held) same ∙ was.2 ∙ ap Some (sym stays.2))
      by (RunsAfter.goes_on here place same unended) =
          let found = own (ap (λ (x : Place). list_any (is_clear_at key) x.before) (sym place) ∙ some) unended in
          (found.0, found.1, ap (λ (n : ℕ). (progress_of next n).held) here ∙ ap (λ (x : Progress). x.held) same ∙ found.2)
      by (RunsAfter.begins here empty called same ended) =
          absurd (false≢true (sym (ap (list_any (is_clear_at key)) empty) ∙ some))
