-- A command goes into the hand of an engine, or there is none: the state that is shown stays.
use Rattle.std.proofs.Common.{◌≡◌, ◌⊎◌, inl, inr, ⊎_elim, ℕ, Bool, true, false, List, [], ◌∷◌, ◌++◌, length, Option, None, Some, refl, sym, ap, ◌∙◌, subst}
use Rattle.std.specs.Prelude.{slice_index_or, All, is_none}
use Rattle.std.specs.Option.{option_map, option_map_or, option_to_list}
use Rattle.std.proofs.lemmas.Bool.{false≢true}
use Rattle.std.proofs.lemmas.List.Elements.{All-head, All-tail}
use Rattle.std.proofs.lemmas.Option.{same_Some}
use Rattle.bd_base.specs.declared.journal.At.{At}
use Rattle.bd_entry.specs.Calls.{Place}
use Rattle.bd_kernel.specs.Disks.{DiskState, IsDiskOf}
use Rattle.bd_machine.specs.declared.parts.Parts.{Parts}
use Rattle.bd_machine.specs.declared.process.Hand.{Hand}
use Rattle.bd_machine.specs.declared.process.Phase.TheVariants as phases
use Rattle.bd_machine.specs.declared.process.Process.{Process}
use Rattle.bd_machine.specs.Engines.{Becomes, IsFree, IsWorking, TakesCommand, TakesStep, with_command}
use Rattle.bd_machine.specs.Logs.{HasRoom, LogState}
use Rattle.bd_machine.specs.Shows.{IsCommandOf, IsEngineHere, IsHandOf, IsPassWhere, IsProcessAt, Shows, does_walk, hand_shown, pieces_of_commands, progress_shown, taken_shown}
use Rattle.bd_machine.specs.Turns.{IsAt, Sight, StaysAt, process_in}
use Rattle.bd_machine.proofs.EnginePhases.{same_passes}
use Rattle.bd_machine.proofs.ShowingSteps.{KeepsPasses, one_steps}
use Rattle.bd_queue_pair.specs.declared.command.Command.{Command}
use Rattle.bd_tables.specs.declared.sides.Tables as sides
use Rattle.bd_tables.specs.declared.request.Request.{Request}
use Rattle.bd_turns.specs.declared.turn.Row.{Row}
use Rattle.bd_turns.specs.Engines.{Step, engine_step, engine_with, take_command}
use Rattle.bd_turns.specs.State.{Phase, Progress, State, progress_of, running}
use Rattle.bd_turns.specs.Turns.{Acting, Nothing, Outcome, after_step, engine_outcome}
use Rattle.bd_turns.proofs.RunningPlaces.{runs_at}

-- where nothing is in hand nothing was taken
no_taken : (phase : Option Phase) → taken_shown phase None ≡ []
no_taken None = refl
no_taken (Some phase) = refl

-- the process of the parts is another one now, which is where the state has it
becomes_at : {T M P : Type 0} {K : sides.Ghosts T P} (g : Sight) (x y : Parts T M P) (q : ℕ) (z : Process P) → Shows K g.script x g.state →
    Becomes x y q x.tables z → IsProcessAt K g.state (slice_index_or x.disk.held q None) x.tables q z → StaysAt K g.script x y g.state
becomes_at {T} {M} {P} {K} g x y q z shows b is =
    let m : State = g.state in
    record {
      shows =
          one_steps g.script x y m m q shows
          (record {
            state = record { script = refl; uids = refl; posted = refl; count = refl; progress = λ other differ. refl; entries = λ at differ. refl };
            parts = b.others;
            passes = subst (λ (new : T). KeepsPasses K x.tables new q) (sym b.tables_are) (same_passes x.tables q);
            holds = record {
              count = ap (λ (d : DiskState). length d.held) b.disk;
              others = λ other differ. ap (λ (d : DiskState). slice_index_or d.held other None) b.disk;
            };
            disk = subst (λ (d : DiskState). IsDiskOf d m.store) (sym b.disk) shows.disk;
            journal = shows.journal ∙ ap (λ (l : LogState). l.entries) (sym b.log);
            tables = subst (λ (new : T). K.shows new m.tables) (sym b.tables_are) shows.tables;
            mine = λ k there.
                subst (λ (d : DiskState). IsProcessAt K m (slice_index_or d.held q None) y.tables q k) (sym b.disk)
                (subst (λ (new : T). IsProcessAt K m (slice_index_or x.disk.held q None) new q k) (sym b.tables_are)
                (subst (IsProcessAt K m (slice_index_or x.disk.held q None) x.tables q) (same_Some z k (sym b.mine ∙ there)) is));
          });
      events = ap (λ (l : LogState). l.events) b.log;
      turns = ap (λ (l : LogState). l.turns) b.log;
    }

module _ {T M P : Type 0} {K : sides.Ghosts T P} (g : Sight) (x : Parts T M P) (q : ℕ) (it : Process P) (at : IsAt K g.script x g.state)
    (there : process_in x q ≡ Some it) (free : it.hand ≡ None) where
  at_is : IsProcessAt K g.state (slice_index_or x.disk.held q None) x.tables q it
  at_is = at.shows.each q it there

  -- nothing is in hand
  no_hand : (progress_of g.state q).hand ≡ None
  no_hand = ap (λ (n : Progress). n.hand) at_is.progress ∙ ap (hand_shown at_is.phase) free

  submitted_is : (progress_of g.state q).submitted ≡ pieces_of_commands it.queue.submitted
  submitted_is =
      ap (λ (n : Progress). n.submitted) at_is.progress
      ∙ ap (λ (h : Option Hand). taken_shown at_is.phase h ++ pieces_of_commands it.queue.submitted) free
      ∙ ap (λ (l : List ℕ). l ++ pieces_of_commands it.queue.submitted) (no_taken at_is.phase)

  -- what the turn of the engine is
  goes_for : (p : Place) → p.at.process ≡ q → it.queue.submitted ≡ [] → engine_step g.state p ≡ None
  goes_for p same none =
      let progress : Progress = progress_of g.state p.at.process in
      ap (engine_with g.state p progress) (ap (λ (n : ℕ). (progress_of g.state n).hand) same ∙ no_hand)
      ∙ ap (take_command g.state.tables p progress)
      (ap (λ (n : ℕ). (progress_of g.state n).submitted) same ∙ submitted_is ∙ ap pieces_of_commands none)

  -- an engine without a command submitted has nothing to do
  pub nothing_to_do : it.queue.submitted ≡ [] → engine_outcome g.state q ≡ Nothing
  nothing_to_do none = by (running g.state q) refl
    where
      of_step : Place → Option Step → Outcome
      of_step p o = option_map_or (λ (step : Step). Acting step.row (after_step g.state p step) (option_to_list step.entry)) o Nothing

      of_place : Option Place → Outcome
      of_place o = option_map_or (λ p. of_step p (engine_step g.state p)) o Nothing

      by : (o : Option Place) → running g.state q ≡ o → of_place o ≡ Nothing
      by None is = refl
      by (Some p) is = ap (of_step p) (goes_for p (ap (λ (at : At). at.process) (runs_at g.state q p is).at_is) none)

  -- and stays so
  pub takes_nothing : (y : Parts T M P) → Becomes x y q x.tables it → StaysAt K g.script x y g.state
  takes_nothing y b = becomes_at g x y q it at.shows b at_is

  module _ (c : Command) (rest : List Command) (submitted : it.queue.submitted ≡ c ∷ rest) where
    abbrev held : Option ℕ
    held = slice_index_or x.disk.held q None

    abbrev z : Process P
    z = with_command it c rest

    all_commands : (p : Place) → running g.state q ≡ Some p → All (IsCommandOf p) (c ∷ rest)
    all_commands p runs = subst (All (IsCommandOf p)) submitted (at_is.submitted p runs)

    progress_is : progress_of g.state q ≡ progress_shown held None z
    progress_is =
        at_is.progress
        ∙ ap (λ (h : Option Hand). record (progress_shown held at_is.phase it) {
          submitted = taken_shown at_is.phase h ++ pieces_of_commands it.queue.submitted;
          hand = hand_shown at_is.phase h;
        }) free
        ∙ ap (λ (l : List ℕ). record (progress_shown held at_is.phase it) { submitted = l ++ pieces_of_commands it.queue.submitted; hand = None })
        (no_taken at_is.phase)
        ∙ ap (λ (l : List Command). record (progress_shown held at_is.phase it) { submitted = pieces_of_commands l; hand = None }) submitted

    hand_is : (p : Place) (h : Hand) → running g.state q ≡ Some p → Some (record { command = c; outcome = None }) ≡ Some h → IsHandOf p None h
    hand_is p h runs is =
        subst (IsHandOf p None) (same_Some (record { command = c; outcome = None }) h is)
        (record { command = All-head (IsCommandOf p) c rest (all_commands p runs); outcome = tt })

    engine_is : K.apart x.tables ⊎ IsEngineHere K x.tables q None z
    engine_is =
        ⊎_elim {C = K.apart x.tables ⊎ IsEngineHere K x.tables q None z}
        (λ apart. inl apart)
        (λ here. inr (record {
          phase_is = refl;
          pass = subst (λ (b : Bool). IsPassWhere K b x.tables q it.pass) (ap (does_walk it.phase) free) here.pass;
        }))
        at_is.engine

    taken_at : IsProcessAt K g.state held x.tables q z
    taken_at = record {
      phase = None;
      progress = progress_is;
      call = at_is.call;
      none = at_is.none;
      submitted = λ p runs. All-tail (IsCommandOf p) c rest (all_commands p runs);
      taken =
          ap (λ (l : List Command). l ++ c ∷ [])
          (at_is.taken ∙ ap (λ (h : Option Hand). option_to_list (option_map (λ (h : Hand). h.command) h)) free);
      hand = hand_is;
      engine = engine_is;
    }

    -- the oldest command was taken in hand
    pub takes_command : (y : Parts T M P) → Becomes x y q x.tables z → StaysAt K g.script x y g.state
    takes_command y b = becomes_at g x y q z at.shows b taken_at

-- ---- in one turn with what comes next

-- nothing was taken where the answer is None
pub none_taken : {T M P : Type 0} {K : sides.Ghosts T P} (g : Sight) (x y : Parts T M P) (q : ℕ) (w : IsFree K g x q) (o : Option Request) →
    TakesCommand x y q w.it o → is_none o ≡ true → (engine_outcome g.state q ≡ Nothing) × StaysAt K g.script x y g.state
none_taken g x y q w None taken is =
    (nothing_to_do g x q w.it w.at w.there w.free taken.0, takes_nothing g x q w.it w.at w.there w.free y taken.1)
none_taken g x y q w (Some request) taken is = absurd (false≢true is)

-- the engine enters next where a command was taken
pub taken_working : {T M P : Type 0} {K : sides.Ghosts T P} (g : Sight) (x y : Parts T M P) (q : ℕ) (w : IsFree K g x q) (o : Option Request) →
    TakesCommand x y q w.it o → is_none o ≡ false → HasRoom x.log → IsWorking K g y q phases.Taken
taken_working g x y q w None taken is room = absurd (false≢true (sym is))
taken_working g x y q w (Some request) taken is room =
    let stays = takes_command g x q w.it w.at w.there w.free taken.command taken.rest taken.submitted y taken.becomes in
    record {
      at = record { shows = stays.shows; reached = w.at.reached; built = w.at.built };
      it = with_command w.it taken.command taken.rest;
      there = taken.becomes.mine;
      hand = record { command = taken.command; outcome = None };
      in_hand = refl;
      phase_is = refl;
      room = subst HasRoom (sym taken.becomes.log) room;
    }

-- the log is as it was
pub same_log : {T M P : Type 0} (x y : Parts T M P) (q : ℕ) (it : Process P) (o : Option Request) → TakesCommand x y q it o → y.log ≡ x.log
same_log x y q it None taken = taken.1.log
same_log x y q it (Some request) taken = taken.becomes.log

-- so a step that comes next is one from the beginning
pub step_after : {T M P : Type 0} {K : sides.Ghosts T P} (g : Sight) (x y z : Parts T M P) (q : ℕ) (row : Row) → y.log ≡ x.log →
    TakesStep K g y z q row → TakesStep K g x z q row
step_after g x y z q row same t =
    record {
      place = t.place;
      running_is = t.running_is;
      step = t.step;
      stepping = t.stepping;
      row_is = t.row_is;
      shows = t.shows;
      before = t.before;
      still = t.still;
      later = t.later;
      begun = t.begun;
      few = t.few;
      events = t.events ∙ ap (λ (l : LogState). l.events) same;
      turns = t.turns ∙ ap (λ (l : LogState). l.turns) same;
      room = λ room. t.room (subst HasRoom (sym same) room);
    }
