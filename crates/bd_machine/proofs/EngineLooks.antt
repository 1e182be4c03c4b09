-- The steps of an engine that walks: a look, a read of an entry, a fill, and the end of the walk.
use Rattle.std.proofs.Common.{◌≡◌, ◌⊎◌, inr, ℕ, ◌<◌, arith, length, set, Bool, true, false, Option, None, Some, refl, sym, ap, ◌∙◌, subst, ⊎_elim}
use Rattle.std.specs.Prelude.{IsSome, slice_index_or}
use Rattle.std.specs.Option.{option_and_then, option_map}
use Rattle.std.proofs.lemmas.List.{get_or-set_same, length-set}
use Rattle.std.proofs.lemmas.Option.{same_Some}
use Rattle.bd_base.specs.declared.journal.Found.{Found}
use Rattle.bd_base.specs.declared.key.Cell.{Cell}
use Rattle.bd_machine.specs.declared.process.Hand.{Hand}
use Rattle.bd_machine.specs.declared.process.Phase.{Phase}
use Rattle.bd_machine.specs.declared.process.Phase.TheVariants as phases
use Rattle.bd_machine.specs.declared.process.Process.{Process}
use Rattle.bd_machine.specs.Engines.{Becomes, IsInPhase, IsWorking, KeepsPass, TakesStep}
use Rattle.bd_machine.specs.Shows.{IsEngineHere, IsPassKept, IsPassWhere, IsProcessAt, PlainParts, does_walk, hand_shown, has_pass, phase_of, plain_sides}
use Rattle.bd_machine.specs.Turns.{Sight}
use Rattle.bd_machine.proofs.EnginePhases.{has_pass_is, walks_with}
use Rattle.bd_machine.proofs.EnginePasses.{keeps_all_passes, keeps_passes, lent_walk, then_passes}
use Rattle.bd_machine.proofs.EngineWalks.{facts, goes, walk_for, walking, walks_on}
use Rattle.bd_machine.proofs.Showing.{KeepsPasses}
use Rattle.bd_tables.specs.declared.plain.PlainPass.{PlainPass}
use Rattle.bd_tables.specs.declared.request.Completion.{Completion}
use Rattle.bd_tables.specs.declared.request.Looked.{Looked}
use Rattle.bd_tables.specs.declared.request.Request.{Request}
use Rattle.bd_tables.specs.declared.request.Walked.{Walked}
use Rattle.bd_tables.specs.declared.state.Walk.TheVariants.{Idle, Entered, Translated}
use Rattle.bd_tables.specs.Answers.{IsAnswered, IsEntered, IsTranslated}
use Rattle.bd_tables.specs.Effects as effects
use Rattle.bd_tables.specs.Passes.{IsLent, goes_apart}
use Rattle.bd_tables.specs.Plain.{LiesHere, Places, PlainState, looked_of, place_at, tables_of, walked_of}
use Rattle.bd_tables.proofs.Places.{place-within}
use Rattle.bd_tables.specs.State.{TableState, found_reading, lookup, told_of, walk_at}
use Rattle.bd_turns.specs.declared.turn.Row.TheVariants as rows
use Rattle.bd_turns.specs.Engines as engines
use Rattle.bd_turns.specs.Engines.{Step, looked, phase_after, phase_looked, request_of_piece, walks}
use Rattle.bd_turns.specs.Sound.{has_told}
use Rattle.bd_turns.specs.State.{Progress, State, progress_of}
use Rattle.bd_turns.specs.State as turns

-- ---- the pass

-- the pass that was kept
pub record IsPass {M : Type 0} (x : PlainParts M) (q : ℕ) (pass : PlainPass) : Type 0 where
  pub process_is : pass.process ≡ q
  pub lent : IsLent x.tables pass

-- over plain tables no engine goes its own way
pub plain_here : (t : PlainState) (q : ℕ) (phase : Option turns.Phase) (y : Process PlainPass) →
    goes_apart t ⊎ IsEngineHere plain_sides t q phase y → IsEngineHere plain_sides t q phase y
plain_here t q phase y is = ⊎_elim {C = IsEngineHere plain_sides t q phase y} (λ no. absurd no) (λ here. here) is

module _ {M : Type 0} (g : Sight) (x : PlainParts M) (q : ℕ) (mark : Phase) (w : IsWorking plain_sides g x q mark) where
  pub at_is : IsProcessAt plain_sides g.state (slice_index_or x.disk.held q None) x.tables q w.it
  at_is = w.at.shows.each q w.it w.there

  pub here : IsEngineHere plain_sides x.tables q at_is.phase w.it
  here = plain_here x.tables q at_is.phase w.it at_is.engine

  -- the phase of the process is the one in which it is shown
  abbrev pub in_phase : (phase : turns.Phase) → phase_of mark ≡ Some phase → IsInPhase plain_sides g x q phase
  in_phase phase is =
      record {
        at = w.at;
        it = w.it;
        there = w.there;
        hand = w.hand;
        in_hand = w.in_hand;
        entered =
            ap (λ (n : Progress). n.hand) at_is.progress ∙ ap (hand_shown at_is.phase) w.in_hand
            ∙ ap (λ (f : Option turns.Phase). hand_shown f (Some w.hand)) (here.phase_is ∙ ap phase_of w.phase_is ∙ is);
      }

  -- an engine in a phase of a walk keeps its pass
  pub kept_pass : has_pass mark ≡ true → (pass : PlainPass) × (w.it.pass ≡ Some pass) × IsPass x q pass
  kept_pass walking_is = by w.it.pass refl kept
    where
      kept : IsPassKept plain_sides x.tables q w.it.pass
      kept =
          subst (λ (b : Bool). IsPassWhere plain_sides b x.tables q w.it.pass)
          (ap (does_walk w.it.phase) w.in_hand ∙ ap has_pass w.phase_is ∙ walking_is) here.pass

      by : (o : Option PlainPass) → w.it.pass ≡ o → IsPassKept plain_sides x.tables q o →
          (pass : PlainPass) × (w.it.pass ≡ Some pass) × IsPass x q pass
      by None is kept = absurd kept
      by (Some pass) is kept = (pass, is, record { process_is = kept.0; lent = kept.1 })

  -- the pass that was taken is lent, and shows where the state has the engine
  pub taken_pass : has_pass mark ≡ true → (pass : PlainPass) → Some pass ≡ w.it.pass →
      IsPass x q pass × ((n : ℕ) → n ≡ q → walk_at g.state.tables.walks n ≡ pass.walk)
  taken_pass walking_is pass is =
      let kept = kept_pass walking_is in
      let same : kept.0 ≡ pass = same_Some kept.0 pass (sym kept.1 ∙ sym is) in
      let kept_here : IsPass x q pass = subst (IsPass x q) same kept.2 in
      let walk : walk_at (tables_of x.tables).walks q ≡ pass.walk = lent_walk x.tables q pass kept_here.process_is kept_here.lent in (
        kept_here,
        λ n same_process. ap (λ (n : ℕ). walk_at g.state.tables.walks n) same_process
            ∙ ap (λ (t : TableState). walk_at t.walks q) w.at.shows.tables ∙ walk,
      )

-- an engine that walks on has its pass
pub engine_there : (t : PlainState) (q : ℕ) (it : Process PlainPass) (hand : Hand) (mark : Phase) (phase : turns.Phase) (back : PlainPass) →
    it.hand ≡ Some hand → phase_of mark ≡ Some phase → walks_with (Some phase) ≡ true → back.process ≡ q → IsLent t back →
    IsEngineHere plain_sides t q (Some phase) (walking it mark (Some back))
engine_there t q it hand mark phase back in_hand is walks process_is lent =
    record {
      phase_is = sym is;
      pass =
          subst (λ (b : Bool). IsPassWhere plain_sides b t q (Some back))
          (sym (ap (does_walk mark) in_hand ∙ has_pass_is mark ∙ ap walks_with is ∙ walks)) (process_is, lent);
    }

-- the pass that is kept is lent
pub lent_kept : {M : Type 0} (g : Sight) (x : PlainParts M) (q : ℕ) (phase : Phase) (w : IsWorking plain_sides g x q phase) → has_pass phase ≡ true →
    (pass : PlainPass) →
    w.it.pass ≡ Some pass → IsLent x.tables pass
lent_kept g x q phase w walking_is pass is = (taken_pass g x q phase w walking_is pass (sym is)).0.lent

-- what the steps ask for
pub keeps_pass : {M : Type 0} (g : Sight) (x : PlainParts M) (q : ℕ) (phase : Phase) (w : IsWorking plain_sides g x q phase) → has_pass phase ≡ true →
    KeepsPass x q
keeps_pass g x q phase w walking_is =
    let kept = kept_pass g x q phase w walking_is in
    record { it = w.it; there = w.there; some = subst IsSome (sym kept.1) refl }

-- the pass that was put aside is lent still
pub lent_aside : {M : Type 0} (g : Sight) (x x1 : PlainParts M) (q : ℕ) (phase : Phase) (w : IsWorking plain_sides g x q phase) →
    has_pass phase ≡ true → (pass : PlainPass) →
    (Some pass ≡ w.it.pass) × Becomes x x1 q x.tables (record w.it { pass = None }) → IsLent x1.tables pass
lent_aside g x x1 q phase w walking_is pass aside =
    subst (λ (t : PlainState). IsLent t pass) (sym aside.1.tables_are) (taken_pass g x q phase w walking_is pass aside.0).0.lent

-- the pass of an engine that looks is in its key
pub looking_entered : {M : Type 0} (g : Sight) (x x1 : PlainParts M) (q : ℕ) (w : IsWorking plain_sides g x q phases.Looking) (pass : PlainPass) →
    (Some pass ≡ w.it.pass) × Becomes x x1 q x.tables (record w.it { pass = None }) → IsEntered pass.walk
looking_entered g x x1 q w pass aside =
    subst IsEntered (sym (walk_for g x q turns.Looking (in_phase g x q phases.Looking w turns.Looking refl)).walk ∙
    ((taken_pass g x q phases.Looking w refl pass aside.0).1 _
    (facts g x q turns.Looking (in_phase g x q phases.Looking w turns.Looking refl)).process_is)) tt

-- so is that of one that reads an entry
pub reading_entered : {M : Type 0} (g : Sight) (x x1 : PlainParts M) (q : ℕ) (w : IsWorking plain_sides g x q phases.Reading) (pass : PlainPass) →
    (Some pass ≡ w.it.pass) × Becomes x x1 q x.tables (record w.it { pass = None }) → IsEntered pass.walk
reading_entered g x x1 q w pass aside =
    subst IsEntered (sym (walk_for g x q turns.Reading (in_phase g x q phases.Reading w turns.Reading refl)).walk ∙
    ((taken_pass g x q phases.Reading w refl pass aside.0).1 _
    (facts g x q turns.Reading (in_phase g x q phases.Reading w turns.Reading refl)).process_is)) tt

-- that of one that fills holds a translation
pub filling_translated : {M : Type 0} (g : Sight) (x x1 : PlainParts M) (q : ℕ) (w : IsWorking plain_sides g x q phases.Filling) (pass : PlainPass) →
    (Some pass ≡ w.it.pass) × Becomes x x1 q x.tables (record w.it { pass = None }) → IsTranslated pass.walk
filling_translated g x x1 q w pass aside =
    subst IsTranslated (sym (walk_for g x q turns.Filling (in_phase g x q phases.Filling w turns.Filling refl)).walk.1 ∙
    ((taken_pass g x q phases.Filling w refl pass aside.0).1 _
    (facts g x q turns.Filling (in_phase g x q phases.Filling w turns.Filling refl)).process_is)) tt

-- and the walk of one that retires has come to its end
pub retiring_answered : {M : Type 0} (g : Sight) (x x1 : PlainParts M) (q : ℕ) (w : IsWorking plain_sides g x q phases.Retiring) (pass : PlainPass) →
    (Some pass ≡ w.it.pass) × Becomes x x1 q x.tables (record w.it { pass = None }) → IsAnswered pass.walk
retiring_answered g x x1 q w pass aside =
    let same = (taken_pass g x q phases.Retiring w refl pass aside.0).1 _
    (facts g x q turns.Retiring (in_phase g x q phases.Retiring w turns.Retiring refl)).process_is in
    ⊎_elim {C = IsAnswered pass.walk}
    (λ told. subst IsAnswered (sym told.1 ∙ same) tt)
    (λ found. subst IsAnswered (sym found.1 ∙ same) tt)
    (walk_for g x q turns.Retiring (in_phase g x q phases.Retiring w turns.Retiring refl)).walk

-- ---- a change of the pass between two of the process

-- the process put its pass aside, the tables changed, and it took another pass and phase
pub record GoesOn {M : Type 0} (x x1 y : PlainParts M) (q : ℕ) (it : Process PlainPass) (t : PlainState) (pass : Option PlainPass)
    (next : Phase) : Type 0 where
  pub aside : Becomes x x1 q x.tables (record it { pass = None })
  pub again : Becomes (record x1 { tables = t }) y q t (walking it next pass)

-- so the process has the other pass and phase
pub went_on : {M : Type 0} (x x1 y : PlainParts M) (q : ℕ) (it : Process PlainPass) (t : PlainState) (pass : Option PlainPass) (next : Phase) →
    GoesOn x x1 y q it t pass next → Becomes x y q t (walking it next pass)
went_on x x1 y q it t pass next s = record {
  tables_are = s.again.tables_are;
  disk = s.again.disk ∙ s.aside.disk;
  log = s.again.log ∙ s.aside.log;
  others = record {
    count = s.again.others.count ∙ s.aside.others.count;
    others = λ other differ. s.again.others.others other differ ∙ s.aside.others.others other differ;
  };
  mine = s.again.mine;
}

-- ---- looks

-- both sides have the same words for what a look finds
looked_same : (cell : Option Cell) → looked cell ≡ looked_of cell
looked_same None = refl
looked_same (Some cell) = refl

-- an engine walks with its pass after a look
looked_walks : (cell : Option Cell) → walks_with (Some (phase_looked cell)) ≡ true
looked_walks None = refl
looked_walks (Some cell) = refl

-- and has told nothing
looked_told : (cell : Option Cell) → has_told (phase_looked cell) ≡ false
looked_told None = refl
looked_told (Some cell) = refl

-- what a look leaves that finds such cells for requests
pub record Looks {M : Type 0} (x x1 y : PlainParts M) (q : ℕ) (it : Process PlainPass) (pass back : PlainPass) (answer : Looked) (next : Phase)
    (t : PlainState)
    (cell : Request → Option Cell) : Type 0 where
  pub pass_was : Some pass ≡ it.pass
  pub aside : Becomes x x1 q x.tables (record it { pass = None })
  pub answer_is : (request : Request) → pass.walk ≡ Entered request → answer ≡ looked_of (cell request)
  pub look_is : (progress : Progress) (number : ℕ) (request : Request) →
      engines.look (tables_of x1.tables) progress number request
      ≡ walks (rows.Look (looked (cell request))) progress number (phase_looked (cell request)) (effects.look (tables_of x1.tables) request)
  pub tables_are : (request : Request) → pass.walk ≡ Entered request → tables_of t ≡ effects.look (tables_of x1.tables) request
  pub places : t.places ≡ set x1.tables.places pass.process (Some back.walk)
  pub process_is : back.process ≡ pass.process
  pub lent : IsLent t back
  pub phase_is : (cell : Option Cell) → answer ≡ looked_of cell → phase_of next ≡ Some (phase_looked cell)
  pub again : Becomes (record x1 { tables = t }) y q t (walking it next (Some back))

-- a look is the step of an engine that looks
pub looks_on : {M : Type 0} (g : Sight) (x x1 y : PlainParts M) (q : ℕ) (w : IsWorking plain_sides g x q phases.Looking) (pass back : PlainPass)
    (answer : Looked) (next : Phase)
    (t : PlainState) (cell : Request → Option Cell) → Looks x x1 y q w.it pass back answer next t cell → TakesStep plain_sides g x y q (rows.Look answer)
looks_on g x x1 y q w pass back answer next t cell s =
    let known = facts g x q turns.Looking (in_phase g x q phases.Looking w turns.Looking refl) in
    let p = known.place in
    let m : State = g.state in
    let walk_is = walk_for g x q turns.Looking (in_phase g x q phases.Looking w turns.Looking refl) in
    let request : Request = walk_is.request in
    let taken = taken_pass g x q phases.Looking w refl pass s.pass_was in
    let entered : pass.walk ≡ Entered request = sym (taken.1 p.at.process known.process_is) ∙ walk_is.walk in
    let same : tables_of x1.tables ≡ m.tables = ap tables_of s.aside.tables_are ∙ sym w.at.shows.tables in
    let answer_is : answer ≡ looked_of (cell request) = s.answer_is request entered in
    let phase_is : phase_of next ≡ Some (phase_looked (cell request)) = s.phase_is (cell request) answer_is in
    let row_is : looked (cell request) ≡ answer = looked_same (cell request) ∙ sym answer_is in
    let progress : Progress = progress_of m p.at.process in
    let number : ℕ = w.hand.command.piece in
    let tables : TableState = effects.look (tables_of x1.tables) request in
    walks_on g x q turns.Looking (in_phase g x q phases.Looking w turns.Looking refl) y (rows.Look answer)
    (phase_looked (cell request)) next t tables (Some back)
    (record {
      stepping =
          goes g x q turns.Looking (in_phase g x q phases.Looking w turns.Looking refl) ∙ ap
          (option_map (engines.look m.tables progress number)) walk_is.of_piece
          ∙ ap (λ (t : TableState). Some (engines.look t progress number request)) (sym same)
          ∙ ap (λ (step : Step). Some step) (s.look_is progress number request)
          ∙ ap (λ (l : Looked). Some (walks (rows.Look l) progress number (phase_looked (cell request)) tables)) row_is;
      becomes = went_on x x1 y q w.it t (Some back) next (record { aside = s.aside; again = s.again });
      tables_are = sym (s.tables_are request entered);
      passes =
          keeps_passes x.tables t q (Some back.walk)
          (s.places ∙ ap (λ (n : ℕ). set x1.tables.places n (Some back.walk)) taken.0.process_is
          ∙ ap (λ (t : PlainState). set t.places q (Some back.walk)) s.aside.tables_are);
      engine =
          inr (engine_there t q w.it w.hand next (phase_looked (cell request)) back w.in_hand phase_is (looked_walks (cell request))
          (s.process_is ∙ taken.0.process_is) s.lent);
      told = sym (looked_told (cell request));
    })

-- ---- reads of entries

-- the same answer tells of the same that was found
pub walked_same : (found other : Option Found) → walked_of found ≡ walked_of other → found ≡ other
walked_same None None is = refl
walked_same None (Some other) is = absurd cc
walked_same (Some found) None is = absurd cc
walked_same (Some found) (Some other) is = cc

-- an engine has its pass after a step that found this
pub after_walks : (found : Option Found) (usual : turns.Phase) → walks_with (Some usual) ≡ true → walks_with (Some (phase_after found usual)) ≡ true
after_walks None usual walks = walks
after_walks (Some found) usual walks = refl

-- an engine has told nothing after a step that found this
pub after_told : (found : Option Found) (usual : turns.Phase) → has_told usual ≡ false → has_told (phase_after found usual) ≡ false
after_told None usual none = none
after_told (Some found) usual none = refl

-- what a read of an entry leaves
pub record Reads {M : Type 0} (x x1 y : PlainParts M) (q : ℕ) (it : Process PlainPass) (pass back : PlainPass) (answer : Walked)
    (found : Option Found) (next : Phase)
    (t : PlainState) : Type 0 where
  pub pass_was : Some pass ≡ it.pass
  pub aside : Becomes x x1 q x.tables (record it { pass = None })
  pub answer_is : (request : Request) → pass.walk ≡ Entered request →
      answer ≡ walked_of (found_reading request.hi (lookup (tables_of x1.tables) request.key request.index))
  pub tables_are : (request : Request) → pass.walk ≡ Entered request → tables_of t ≡ effects.read_entry (tables_of x1.tables) request
  pub places : t.places ≡ set x1.tables.places pass.process (Some back.walk)
  pub process_is : back.process ≡ pass.process
  pub lent : IsLent t back
  pub found_is : answer ≡ walked_of found
  pub phase_is : phase_of next ≡ Some (phase_after found turns.Filling)
  pub again : Becomes (record x1 { tables = t }) y q t (walking it next (Some back))

-- a read of an entry is the step of an engine that reads
pub reads_on : {M : Type 0} (g : Sight) (x x1 y : PlainParts M) (q : ℕ) (w : IsWorking plain_sides g x q phases.Reading) (pass back : PlainPass)
    (answer : Walked) (found : Option Found)
    (next : Phase) (t : PlainState) → Reads x x1 y q w.it pass back answer found next t → TakesStep plain_sides g x y q (rows.ReadEntry found)
reads_on g x x1 y q w pass back answer found next t s =
    let known = facts g x q turns.Reading (in_phase g x q phases.Reading w turns.Reading refl) in
    let p = known.place in
    let m : State = g.state in
    let walk_is = walk_for g x q turns.Reading (in_phase g x q phases.Reading w turns.Reading refl) in
    let request : Request = walk_is.request in
    let taken = taken_pass g x q phases.Reading w refl pass s.pass_was in
    let entered : pass.walk ≡ Entered request = sym (taken.1 p.at.process known.process_is) ∙ walk_is.walk in
    let same : tables_of x1.tables ≡ m.tables = ap tables_of s.aside.tables_are ∙ sym w.at.shows.tables in
    let what : Option Found = found_reading request.hi (lookup m.tables request.key request.index) in
    let found_is : what ≡ found =
    walked_same what found
    (ap (λ (t : TableState). walked_of (found_reading request.hi (lookup t request.key request.index))) (sym same)
    ∙ sym (s.answer_is request entered) ∙ s.found_is) in
    let progress : Progress = progress_of m p.at.process in
    let number : ℕ = w.hand.command.piece in
    walks_on g x q turns.Reading (in_phase g x q phases.Reading w turns.Reading refl) y (rows.ReadEntry found)
    (phase_after found turns.Filling) next t (effects.read_entry m.tables request) (Some back)
    (record {
      stepping =
          goes g x q turns.Reading (in_phase g x q phases.Reading w turns.Reading refl) ∙ ap
          (option_map (engines.read_entry m.tables progress number)) walk_is.of_piece
          ∙ ap (λ (o : Option Found).
          Some (walks (rows.ReadEntry o) progress number (phase_after o turns.Filling) (effects.read_entry m.tables request))) found_is;
      becomes = went_on x x1 y q w.it t (Some back) next (record { aside = s.aside; again = s.again });
      tables_are = ap (λ (t : TableState). effects.read_entry t request) (sym same) ∙ sym (s.tables_are request entered);
      passes =
          keeps_passes x.tables t q (Some back.walk)
          (s.places ∙ ap (λ (n : ℕ). set x1.tables.places n (Some back.walk)) taken.0.process_is
          ∙ ap (λ (t : PlainState). set t.places q (Some back.walk)) s.aside.tables_are);
      engine =
          inr (engine_there t q w.it w.hand next (phase_after found turns.Filling) back w.in_hand s.phase_is (after_walks found turns.Filling refl)
          (s.process_is ∙ taken.0.process_is) s.lent);
      told = sym (after_told found turns.Filling refl);
    })

-- ---- fills

-- what a fill leaves
pub record Fills {M : Type 0} (x x1 y : PlainParts M) (q : ℕ) (it : Process PlainPass) (pass back : PlainPass) (t : PlainState) : Type 0 where
  pub pass_was : Some pass ≡ it.pass
  pub aside : Becomes x x1 q x.tables (record it { pass = None })
  pub tables_are : (request : Request) (completion : Completion) → pass.walk ≡ Translated request completion →
      tables_of t ≡ effects.fill (tables_of x1.tables) request completion
  pub places : t.places ≡ x1.tables.places
  pub process_is : back.process ≡ pass.process
  pub lent : IsLent t back
  pub again : Becomes (record x1 { tables = t }) y q t (walking it phases.Moving (Some back))

-- a fill is the step of an engine that fills
pub fills_on : {M : Type 0} (g : Sight) (x x1 y : PlainParts M) (q : ℕ) (w : IsWorking plain_sides g x q phases.Filling) (pass back : PlainPass)
    (t : PlainState) →
    Fills x x1 y q w.it pass back t → TakesStep plain_sides g x y q rows.Fill
fills_on g x x1 y q w pass back t s =
    let known = facts g x q turns.Filling (in_phase g x q phases.Filling w turns.Filling refl) in
    let p = known.place in
    let m : State = g.state in
    let walk_is = walk_for g x q turns.Filling (in_phase g x q phases.Filling w turns.Filling refl) in
    let request : Request = walk_is.request in
    let completion : Completion = walk_is.walk.0 in
    let taken = taken_pass g x q phases.Filling w refl pass s.pass_was in
    let translated : pass.walk ≡ Translated request completion = sym (taken.1 p.at.process known.process_is) ∙ walk_is.walk.1 in
    let told : told_of (walk_at m.tables.walks p.at.process) ≡ Some completion = ap told_of walk_is.walk.1 in
    let same : tables_of x1.tables ≡ m.tables = ap tables_of s.aside.tables_are ∙ sym w.at.shows.tables in
    let progress : Progress = progress_of m p.at.process in
    let number : ℕ = w.hand.command.piece in
    walks_on g x q turns.Filling (in_phase g x q phases.Filling w turns.Filling refl) y rows.Fill turns.Moving phases.Moving t
    (effects.fill m.tables request completion) (Some back)
    (record {
      stepping =
          goes g x q turns.Filling (in_phase g x q phases.Filling w turns.Filling refl)
          ∙ ap (option_and_then (λ (r : Request).
          option_map (engines.fill m.tables progress number r) (told_of (walk_at m.tables.walks p.at.process)))) walk_is.of_piece
          ∙ ap (option_map (engines.fill m.tables progress number request)) told;
      becomes = went_on x x1 y q w.it t (Some back) phases.Moving (record { aside = s.aside; again = s.again });
      tables_are = ap (λ (t : TableState). effects.fill t request completion) (sym same) ∙ sym (s.tables_are request completion translated);
      passes = keeps_all_passes x.tables t q (s.places ∙ ap (λ (t : PlainState). t.places) s.aside.tables_are);
      engine =
          inr (engine_there t q w.it w.hand phases.Moving turns.Moving back w.in_hand refl refl (s.process_is ∙ taken.0.process_is) s.lent);
      told = refl;
    })

-- ---- the end of a walk

-- what it leaves
pub record Retires {M : Type 0} (x x1 y : PlainParts M) (q : ℕ) (it : Process PlainPass) (pass : PlainPass) (t : PlainState) : Type 0 where
  pub pass_was : Some pass ≡ it.pass
  pub aside : Becomes x x1 q x.tables (record it { pass = None })
  pub tables_are : tables_of t ≡ effects.retire (tables_of x1.tables) pass.process
  pub passes : KeepsPasses plain_sides x1.tables t q
  pub here : LiesHere t.places q
  pub again : Becomes (record x1 { tables = t }) y q t (record it { pass = None; phase = phases.Completing })

-- the pass at the end of a walk, and the places of the passes
pub record PassIsBack {M : Type 0} (x x1 : PlainParts M) (q : ℕ) (it : Process PlainPass) (pass back : PlainPass) (t1 t : PlainState) : Type 0 where
  pub pass_was : (Some pass ≡ it.pass) × Becomes x x1 q x.tables (record it { pass = None })
  pub process_is : back.process ≡ pass.process
  pub places : t1.places ≡ set x1.tables.places pass.process (Some Idle)
  pub back_is : t.places ≡ set t1.places back.process None

-- it lies in the tables again, and the others stay where they are
pub retired : {M : Type 0} (g : Sight) (x x1 : PlainParts M) (q : ℕ) (w : IsWorking plain_sides g x q phases.Retiring) (pass back : PlainPass)
    (t1 t : PlainState) →
    PassIsBack x x1 q w.it pass back t1 t → KeepsPasses plain_sides x1.tables t q × LiesHere t.places q
retired g x x1 q w pass back t1 t s =
    let taken = (taken_pass g x q phases.Retiring w refl pass s.pass_was.0).0 in
    let lent : IsLent x1.tables pass = lent_aside g x x1 q phases.Retiring w refl pass s.pass_was in
    let first : t1.places ≡ set x1.tables.places q (Some Idle) =
    s.places ∙ ap (λ (n : ℕ). set x1.tables.places n (Some Idle)) taken.process_is in
    let last : t.places ≡ set t1.places q None =
    s.back_is ∙ ap (λ (n : ℕ). set t1.places n None) (s.process_is ∙ taken.process_is) in
    let inside : q < length x1.tables.places =
    subst (λ (n : ℕ). n < length x1.tables.places) taken.process_is (place-within x1.tables.places pass.process pass.walk lent) in
    let count : length t1.places ≡ length x1.tables.places = ap (λ (ps : Places). length ps) first ∙ length-set x1.tables.places q (Some Idle) in
    let count_now : length t.places ≡ length t1.places = ap (λ (ps : Places). length ps) last ∙ length-set t1.places q None in
    let within : q < length t1.places = omega (arith, inside, count) in (
      then_passes x1.tables t1 t q (keeps_passes x1.tables t1 q (Some Idle) first) (keeps_passes t1 t q None last),
      record {
        within = omega (arith, inside, count, count_now);
        here = ap (λ (ps : Places). place_at ps q) last ∙ get_or-set_same t1.places q None None within;
      },
    )

-- the end of a walk is the step of an engine that retires
pub retires_on : {M : Type 0} (g : Sight) (x x1 y : PlainParts M) (q : ℕ) (w : IsWorking plain_sides g x q phases.Retiring) (pass : PlainPass)
    (t : PlainState) →
    Retires x x1 y q w.it pass t → TakesStep plain_sides g x y q rows.Retire
retires_on g x x1 y q w pass t s =
    let known = facts g x q turns.Retiring (in_phase g x q phases.Retiring w turns.Retiring refl) in
    let p = known.place in
    let m : State = g.state in
    let taken = taken_pass g x q phases.Retiring w refl pass s.pass_was in
    let same : tables_of x1.tables ≡ m.tables = ap tables_of s.aside.tables_are ∙ sym w.at.shows.tables in
    walks_on g x q turns.Retiring (in_phase g x q phases.Retiring w turns.Retiring refl) y rows.Retire turns.Completing phases.Completing t
    (effects.retire m.tables p.at.process) None
    (record {
      stepping = goes g x q turns.Retiring (in_phase g x q phases.Retiring w turns.Retiring refl);
      becomes = went_on x x1 y q w.it t None phases.Completing (record { aside = s.aside; again = s.again });
      tables_are =
          ap (λ (n : ℕ). effects.retire m.tables n) (known.process_is ∙ sym taken.0.process_is)
          ∙ ap (λ (t : TableState). effects.retire t pass.process) (sym same) ∙ sym s.tables_are;
      passes = subst (λ (t0 : PlainState). KeepsPasses plain_sides t0 t q) s.aside.tables_are s.passes;
      engine = inr (record {
        phase_is = refl;
        pass =
            subst (λ (b : Bool). IsPassWhere plain_sides b t q None) (sym (ap (does_walk phases.Completing) w.in_hand)) (s.here, refl);
      });
      told = refl;
    })
