-- An entry of a running call is added: what the parts of a machine show then.
use Rattle.std.proofs.Common.{◌≡◌, ℕ, true, false, List, [], ◌∷◌, ◌++◌, length, Option, None, Some, refl, sym, ap, ◌∙◌, subst}
use Rattle.std.specs.Prelude.{slice_index_or, All}
use Rattle.std.specs.Option.{option_map}
use Rattle.std.proofs.lemmas.List.Elements.{All-weaker}
use Rattle.std.proofs.lemmas.Bool.{false≢true}
use Rattle.std.proofs.lemmas.Option.{none-some, same_Some}
use Rattle.bd_base.specs.declared.journal.At.{At}
use Rattle.bd_base.specs.declared.script.Call.{Call}
use Rattle.bd_base.specs.declared.script.Script.{Script}
use Rattle.bd_entry.specs.declared.entry.Entry.{Entry}
use Rattle.bd_entry.specs.Calls.{Place, at_of, call_at, entries_of, is_ended_by, is_miss_of, same_call}
use Rattle.bd_entry.specs.Effects.{after_change}
use Rattle.bd_entry.specs.Rules.{place_in}
use Rattle.bd_entry.specs.Store.{work_of}
use Rattle.bd_entry.proofs.CallOrder.{entries_of-joined, entries_of-other, other_process, same_self}
use Rattle.bd_entry.proofs.Slots.{some_of}
use Rattle.bd_kernel.specs.Disks.{DiskState, IsDiskOf}
use Rattle.bd_kernel.specs.Turns.{IsSameCall, Takes}
use Rattle.bd_kernel.specs.Turns as kernel
use Rattle.bd_machine.specs.declared.parts.Parts.{Parts}
use Rattle.bd_machine.specs.declared.process.Hand.{Hand}
use Rattle.bd_machine.specs.declared.process.Process.{Process}
use Rattle.bd_machine.specs.Shows.{IsCallAt, IsCallKept, IsCommandOf, IsHandOf, IsProcessAt, Shows, hand_shown, in_hand_of, progress_shown, tells}
use Rattle.bd_machine.specs.Turns.{HasBegun, NotesEntry, after_noting, process_in}
use Rattle.bd_machine.proofs.ShowingEntries.{command_more, hand_more, with_one_more}
use Rattle.bd_machine.proofs.ShowingKept.{engine_kept, engine_of_same}
use Rattle.bd_machine.proofs.ShowingSteps.{one_steps}
use Rattle.bd_turns.proofs.RefusalsStayAway.{effect_of-uids}
use Rattle.bd_turns.proofs.RunningPlaces.{runs_at}
use Rattle.bd_turns.specs.Sound.{has_told}
use Rattle.bd_turns.specs.State.{InHand, Phase, Progress, State, place_of, progress_of, running}
use Rattle.bd_turns.specs.Turns.{with_entry}
use Rattle.bd_tables.specs.declared.sides.Tables as sides

-- the entry was added by the running call at this place: its own change was made, the call took note of it, and it
-- stands in the journal
pub record AddsEntry {T M P : Type 0} (x y : Parts T M P) (p : Place) (m : State) (e : Entry) : Type 0 where
  pub changed : DiskState
  pub changed_is : IsDiskOf changed (after_change m.store e)
  pub held : changed.held ≡ x.disk.held
  pub noted : NotesEntry (record x { disk = changed }) (record y { log = x.log }) p.at.process e
  pub entries : y.log.entries ≡ x.log.entries ++ e ∷ []

-- what the entry may be: no miss of a command of which the engine has told what became of it
pub record IsOf (m : State) (p : Place) (e : Entry) : Type 0 where
  pub running_is : running m p.at.process ≡ Some p
  pub at_is : at_of e ≡ p.at
  pub work_is : work_of m.store p.at.process ≡ p.before
  pub unfinished : is_ended_by p.call p.before ≡ false
  pub told : (hand : InHand) → (progress_of m p.at.process).hand ≡ Some hand → has_told hand.phase ≡ true →
      is_miss_of hand.piece e ≡ false

pub entry_running : (m : State) (p : Place) (e : Entry) → IsOf m p e →
    running (with_entry m p.call e p.at) p.at.process ≡ Some (with_one_more p e)
entry_running m p e of_place =
    let runs = runs_at m p.at.process p of_place.running_is in
    let same : same_call (at_of e) p.at ≡ true =
    subst (λ (at : At). same_call at p.at ≡ true) (sym of_place.at_is) (same_self p.at) in
    let joined : entries_of p.at (m.journal ++ e ∷ []) ≡ p.before ++ e ∷ [] =
    entries_of-joined m.journal e p.at same ∙ ap (λ (before : List Entry). before ++ e ∷ []) (sym runs.before_is) in
    ap (λ (at : At). option_map (place_of (with_entry m p.call e p.at) at) (call_at m.script at)) (sym runs.at_is)
    ∙ ap (option_map (place_of (with_entry m p.call e p.at) p.at)) runs.called
    ∙ ap (λ (before : List Entry). Some (record { call = p.call; at = p.at; before = before })) joined

module _ {T M P : Type 0} {K : sides.Ghosts T P} (script : Script) (x y : Parts T M P) (m : State) (p : Place) (e : Entry)
    (shows : Shows K script x m) (begun : HasBegun x p.at.process) (of_place : IsOf m p e) (adds : AddsEntry x y p m e) where
  abbrev process : ℕ
  process = p.at.process

  abbrev n : State
  n = with_entry m p.call e p.at

  same_holds : y.disk.held ≡ x.disk.held
  same_holds = adds.noted.held ∙ adds.held

  abbrev it : Process P
  it = begun.it

  at_it : IsProcessAt K m (slice_index_or x.disk.held process None) x.tables process it
  at_it = shows.each process it begun.there

  -- what was kept of the call before
  abbrev had : (c : kernel.Progress) × (it.call ≡ Some c)
  had = some_of it.call begun.begun

  abbrev c : kernel.Progress
  c = had.0

  kept : IsCallKept m p c
  kept = subst (IsCallAt m p) had.1 (at_it.call p of_place.running_is)

  unfinished : is_ended_by c.call p.before ≡ false
  unfinished = ap (λ (call : Call). is_ended_by call p.before) kept.call ∙ of_place.unfinished

  disk : IsDiskOf y.disk n.store
  disk =
      let noted : IsDiskOf y.disk (after_noting (after_change m.store e) c.call process p.before e) =
      adds.noted.disk it c p.before (after_change m.store e) begun.there had.1 kept.entries unfinished adds.changed_is in
      subst (λ (before : List Entry). IsDiskOf y.disk (after_noting (after_change m.store e) p.call process before e))
      (sym of_place.work_is)
      (subst (λ (call : Call). IsDiskOf y.disk (after_noting (after_change m.store e) call process p.before e)) kept.call
      noted)

  -- and after it
  abbrev noted : (d : kernel.Progress) × (process_in y process ≡ Some (record it { call = Some d })) × IsSameCall c d
      × (d.outstanding ≡ c.outstanding) × Takes c e d
  noted = adds.noted.mine it c begun.there had.1

  abbrev d : kernel.Progress
  d = noted.0

  runs_on : (q : Place) → running n process ≡ Some q → with_one_more p e ≡ q
  runs_on q runs = same_Some (with_one_more p e) q (sym (entry_running m p e of_place) ∙ runs)

  told : (h : Hand) → it.hand ≡ Some h → (phase : Option Phase) → at_it.phase ≡ phase → tells phase ≡ true →
      is_miss_of h.command.piece e ≡ false
  told h there None is is_told = absurd (false≢true is_told)
  told h there (Some phase) is is_told =
      of_place.told (in_hand_of h phase)
      (ap (λ (g : Progress). g.hand) at_it.progress
      ∙ ap (λ (o : Option Hand). hand_shown at_it.phase o) there ∙ ap (λ (o : Option Phase). hand_shown o (Some h)) is)
      is_told

  kept_on : IsCallKept n (with_one_more p e) d
  kept_on =
      record {
        call = noted.2.call ∙ kept.call;
        process = noted.2.process ∙ kept.process;
        uid =
            noted.2.uid ∙ kept.uid
            ∙ ap (λ (uids : List ℕ). slice_index_or uids process 0)
            (sym (effect_of-uids m.store (place_in m.store p.call p.at) e));
        entries = noted.4 p.before kept.entries unfinished;
        outstanding = noted.3 ∙ kept.outstanding;
      }

  here : IsProcessAt K n (slice_index_or y.disk.held process None) y.tables process (record it { call = Some d })
  here =
      record {
        phase = at_it.phase;
        progress =
            at_it.progress
            ∙ ap (λ (held : List (Option ℕ)). progress_shown (slice_index_or held process None) at_it.phase it) (sym same_holds);
        call = λ q runs. subst (λ (r : Place). IsCallKept n r d) (runs_on q runs) kept_on;
        none = λ none. absurd (none-some (with_one_more p e) (sym none ∙ entry_running m p e of_place));
        submitted = λ q runs.
            subst (λ (r : Place). All (IsCommandOf r) it.queue.submitted) (runs_on q runs)
            (All-weaker (IsCommandOf p) (IsCommandOf (with_one_more p e)) (command_more p e) it.queue.submitted
            (at_it.submitted p of_place.running_is));
        taken = at_it.taken;
        hand = λ q h runs there.
            subst (λ (r : Place). IsHandOf r at_it.phase h) (runs_on q runs)
            (hand_more p e at_it.phase h (told h there at_it.phase refl) (at_it.hand p h of_place.running_is there));
        engine =
            engine_of_same {K = K} y.tables process at_it.phase it (record it { call = Some d }) refl refl refl
            (engine_kept {K = K} x.tables y.tables process at_it.phase it
            (record {
              lent = λ pass of lent. subst (λ (t : T). K.is_of t pass) (sym adds.noted.tables) lent;
              here = λ lies. subst (λ (t : T). K.lies t process) (sym adds.noted.tables) lies;
              going = λ apart. subst K.apart (sym adds.noted.tables) apart;
            })
            at_it.engine);
      }

  mine : (z : Process P) → process_in y process ≡ Some z →
      IsProcessAt K n (slice_index_or y.disk.held process None) y.tables process z
  mine z is =
      subst (IsProcessAt K n (slice_index_or y.disk.held process None) y.tables process)
      (same_Some (record it { call = Some d }) z (sym noted.1 ∙ is)) here

  pub entry_step : Shows K script y (with_entry m p.call e p.at)
  entry_step =
      one_steps script x y m n process shows
      (record {
        state = record {
          script = refl;
          uids = effect_of-uids m.store (place_in m.store p.call p.at) e;
          posted = refl;
          count = refl;
          progress = λ other differ. refl;
          entries = λ at differ.
              entries_of-other m.journal e at
              (other_process (at_of e) at (λ same. differ (same ∙ ap (λ (a : At). a.process) of_place.at_is)));
        };
        parts = record { count = adds.noted.others.count; others = adds.noted.others.others };
        passes = record {
          lent = λ pass other lent. subst (λ (t : T). K.is_of t pass) (sym adds.noted.tables) lent;
          here = λ other differ here. subst (λ (t : T). K.lies t other) (sym adds.noted.tables) here;
          going = λ apart. subst K.apart (sym adds.noted.tables) apart;
        };
        holds = record {
          count = ap (λ (held : List (Option ℕ)). length held) same_holds;
          others = λ other differ. ap (λ (held : List (Option ℕ)). slice_index_or held other None) same_holds;
        };
        disk = disk;
        journal = ap (λ (all : List Entry). all ++ e ∷ []) shows.journal ∙ sym adds.entries;
        tables = subst (λ (t : T). K.shows t m.tables) (sym adds.noted.tables) shows.tables;
        mine = mine;
      })

pub entry_begun : {T M P : Type 0} (x y : Parts T M P) (m : State) (p : Place) (e : Entry) →
    HasBegun x p.at.process → AddsEntry x y p m e → HasBegun y p.at.process
entry_begun x y m p e begun adds =
    let had = some_of begun.it.call begun.begun in
    let noted = adds.noted.mine begun.it had.0 begun.there had.1 in
    record { it = record begun.it { call = Some noted.0 }; there = noted.1; begun = refl }
