-- The end of an effective turn: what the parts of a machine show then.
use Rattle.std.proofs.Common.{◌≡◌, ℕ, ◌+◌, ◌<◌, Bool, true, false, ◌&&◌, cond, List, [], length, Option, None, Some, refl, sym, ap, ◌∙◌, subst}
use Rattle.std.specs.Prelude.{nat_eq, slice_index_or, slice_set, All}
use Rattle.std.proofs.lemmas.Bool.{cond-false, cond-true}
use Rattle.std.proofs.lemmas.List.{get_or-set_other, get_or-set_same, length-set}
use Rattle.std.proofs.lemmas.List.Elements.{All-nil}
use Rattle.std.proofs.lemmas.Option.{none-some, same_Some, slice_get_within}
use Rattle.bd_base.specs.declared.journal.At.{At}
use Rattle.bd_base.specs.declared.script.Call.{Call}
use Rattle.bd_base.specs.declared.script.Script.{Script}
use Rattle.bd_entry.specs.declared.entry.Entry.{Entry}
use Rattle.bd_entry.specs.Actions.{is_none_of}
use Rattle.bd_entry.specs.Calls.{Place, entries_of, is_ended_by}
use Rattle.bd_entry.proofs.Slots.{some_of}
use Rattle.bd_kernel.specs.Disks.{DiskState}
use Rattle.bd_kernel.specs.Turns as kernel
use Rattle.bd_machine.specs.declared.parts.Parts.{Parts}
use Rattle.bd_machine.specs.declared.process.Process.{Process}
use Rattle.bd_machine.specs.Shows.{IsCallAt, IsCallKept, IsCommandOf, IsProcessAt, Shows, progress_shown}
use Rattle.bd_machine.specs.Turns.{EndsTurn, HasBegun, counted, held_after, process_in}
use Rattle.bd_machine.proofs.ShowingCommands.{none_is_empty, nothing_left}
use Rattle.bd_machine.proofs.ShowingKept.{KeepsPass, engine_kept, engine_of_same, process_kept, running_kept}
use Rattle.bd_machine.proofs.ShowingSteps.{KeepsHolds, one_steps}
use Rattle.bd_turns.specs.declared.turn.Row.{Row}
use Rattle.bd_turns.proofs.Cases.{running_process}
use Rattle.bd_turns.proofs.DoneTurns.{progress_of-other, progress_of-set}
use Rattle.bd_turns.proofs.KeptCalls.{ended_parts}
use Rattle.bd_turns.proofs.RunningPlaces.{RunsAt, runs_at}
use Rattle.bd_turns.specs.State.{Progress, State, has_ended, outstanding, progress_of, running}
use Rattle.bd_turns.specs.Turns.{after_effect, with_call_ended, with_turn_used}
use Rattle.bd_tables.specs.declared.sides.Tables as sides

-- an effective turn was counted in the name of the running call, and the call ends where that was its last
module _ {T M P : Type 0} {K : sides.Ghosts T P} (script : Script) (x y : Parts T M P) (m : State) (p : Place) (before : List Entry) (actor : ℕ) (row : Row)
    (shows : Shows K script x m) (at_place : running m p.at.process ≡ Some (record p { before = before })) (begun : HasBegun x p.at.process)
    (no_later : entries_of (record { process = p.at.process; call = p.at.call + 1 }) m.journal ≡ [])
    (ends : EndsTurn x y p.at.process actor row) where
  abbrev process : ℕ
  process = p.at.process

  abbrev at_end : Place
  at_end = record p { before = before }

  abbrev g : Progress
  g = progress_of m process

  abbrev ended : Bool
  ended = has_ended p.call (entries_of p.at m.journal) g

  abbrev after : Progress
  after = cond ended (with_call_ended g) (with_turn_used g)

  abbrev n : State
  n = after_effect m p

  runs : RunsAt m process at_end
  runs = runs_at m process at_end at_place

  abbrev it : Process P
  it = begun.it

  at_it : IsProcessAt K m (slice_index_or x.disk.held process None) x.tables process it
  at_it = shows.each process it begun.there

  abbrev had : (c : kernel.Progress) × (it.call ≡ Some c)
  had = some_of it.call begun.begun

  abbrev c : kernel.Progress
  c = had.0

  kept : IsCallKept m at_end c
  kept = subst (IsCallAt m at_end) had.1 (at_it.call at_end at_place)

  within : process < length script.processes
  within = subst (λ (k : ℕ). process < k) shows.count (slice_get_within x.processes.items process it begun.there)

  now : progress_of n process ≡ after
  now = progress_of-set m process after (subst (λ (k : ℕ). process < k) (sym shows.progresses) within)

  abbrev last : Bool
  last = c.finished && nat_eq (length c.outstanding) 0

  -- the call ends in the machine exactly where it does so in the state
  same_end : last ≡ ended
  same_end =
      ap (λ (b : Bool). b && nat_eq (length c.outstanding) 0)
      (kept.entries.finished ∙ ap (λ (call : Call). is_ended_by call before) kept.call
      ∙ ap (is_ended_by p.call) runs.before_is)
      ∙ ap (λ (b : Bool). is_ended_by p.call (entries_of p.at m.journal) && b)
      (none_is_empty c.outstanding ∙ ap is_none_of kept.outstanding)

  disk_is : y.disk ≡ record x.disk { held = held_after x.disk.held process c }
  disk_is = ends.disk it c begun.there had.1

  held_is : y.disk.held ≡ held_after x.disk.held process c
  held_is = ap (λ (k : DiskState). k.held) disk_is

  abbrev emptied : List (Option ℕ)
  emptied = slice_set x.disk.held process None

  held_at : (b : Bool) → last ≡ b → y.disk.held ≡ cond b emptied x.disk.held
  held_at b is = held_is ∙ ap (λ (w : Bool). cond w emptied x.disk.held) is

  holds : (b : Bool) → last ≡ b → KeepsHolds x.disk.held y.disk.held process
  holds true is =
      subst (λ (held : List (Option ℕ)). KeepsHolds x.disk.held held process) (sym (held_at true is))
      (record {
        count = length-set x.disk.held process None;
        others = λ other differ. get_or-set_other x.disk.held process other None None differ;
      })
  holds false is =
      subst (λ (held : List (Option ℕ)). KeepsHolds x.disk.held held process) (sym (held_at false is))
      (record { count = refl; others = λ other differ. refl })

  passes : KeepsPass K x.tables y.tables process
  passes =
      record {
        lent = λ pass of lent. subst (λ (t : T). K.is_of t pass) (sym ends.tables) lent;
        here = λ lies. subst (λ (t : T). K.lies t process) (sym ends.tables) lies;
        going = λ apart. subst K.apart (sym ends.tables) apart;
      }

  -- the call goes on
  goes_on : last ≡ false →
      IsProcessAt K n (slice_index_or y.disk.held process None) y.tables process (record it { used = it.used + 1 })
  goes_on is =
      let same : progress_of n process ≡ with_turn_used g =
      now ∙ cond-false ended (with_call_ended g) (with_turn_used g) (sym same_end ∙ is) in
      process_kept m n process
      (record {
        running_is = running_kept m n process refl (ap (λ (w : Progress). w.ended) same) refl;
        uids = refl;
        outstanding_is = ap outstanding same;
      })
      x.tables y.tables (slice_index_or x.disk.held process None) (slice_index_or y.disk.held process None) it
      (it.used + 1) at_it
      (same ∙ ap with_turn_used at_it.progress
      ∙ ap (λ (held : List (Option ℕ)). progress_shown (slice_index_or held process None) at_it.phase (record it { used = it.used + 1 }))
      (sym (held_at false is)))
      passes

  abbrev over : Process P
  over = record it { ended = it.ended + 1; used = 0; call = None }

  -- the call has ended
  has_gone : last ≡ true → IsProcessAt K n (slice_index_or y.disk.held process None) y.tables process over
  has_gone is =
      let same : progress_of n process ≡ with_call_ended g =
      now ∙ cond-true ended (with_call_ended g) (with_turn_used g) (sym same_end ∙ is) in
      let none_held : slice_index_or y.disk.held process None ≡ None =
      ap (λ (held : List (Option ℕ)). slice_index_or held process None) (held_at true is)
      ∙ get_or-set_same x.disk.held process None None (subst (λ (k : ℕ). process < k) (sym shows.holders) within) in
      let nothing : outstanding g ≡ [] =
      (ended_parts p.call (entries_of p.at m.journal) g (sym same_end ∙ is)).1 in
      let empty = nothing_left (slice_index_or x.disk.held process None) at_it.phase it (sym (ap outstanding at_it.progress) ∙ nothing) in
      record {
        phase = at_it.phase;
        progress =
            same ∙ ap with_call_ended at_it.progress ∙ ap (λ (h : Option ℕ). progress_shown h at_it.phase over) (sym none_held);
        call = λ q running_is.
            let next = runs_at n process q running_is in
            let here : q.at.process ≡ process = running_process n process q running_is in
            let at_next : q.at ≡ record { process = process; call = p.at.call + 1 } =
            next.at_is
            ∙ ap (λ (k : ℕ). record { process = process; call = k })
            (ap (λ (w : Progress). w.ended) same ∙ ap (λ (at : At). at.call + 1) (sym runs.at_is)) in
            record {
              entries = next.before_is ∙ ap (λ (at : At). entries_of at m.journal) at_next ∙ no_later;
              outstanding =
                  ap (λ (k : ℕ). outstanding (progress_of n k)) here ∙ ap outstanding same ∙ nothing;
            };
        none = λ none. refl;
        submitted = λ q running_is. subst (All (IsCommandOf q)) (sym empty.submitted) (All-nil (IsCommandOf q));
        taken = at_it.taken;
        hand = λ q h running_is there. absurd (none-some h (sym empty.hand ∙ there));
        engine =
            engine_of_same {K = K} y.tables process at_it.phase it over refl refl refl
            (engine_kept {K = K} x.tables y.tables process at_it.phase it passes at_it.engine);
      }

  mine : (z : Process P) → process_in y process ≡ Some z →
      IsProcessAt K n (slice_index_or y.disk.held process None) y.tables process z
  mine z there =
      subst (IsProcessAt K n (slice_index_or y.disk.held process None) y.tables process)
      (same_Some (counted it c) z (sym (ends.mine it c begun.there had.1) ∙ there)) (by last refl)
    where
      by : (b : Bool) → last ≡ b → IsProcessAt K n (slice_index_or y.disk.held process None) y.tables process (cond b over (record it { used = it.used + 1 }))
      by true is = has_gone is
      by false is = goes_on is

  pub end_step : Shows K script y (after_effect m p)
  end_step =
      one_steps script x y m n process shows
      (record {
        state = record {
          script = refl;
          uids = refl;
          posted = refl;
          count = length-set m.processes process after;
          progress = λ other differ. progress_of-other m process after other differ;
          entries = λ at differ. refl;
        };
        parts = ends.others;
        passes = record {
          lent = λ pass other lent. subst (λ (t : T). K.is_of t pass) (sym ends.tables) lent;
          here = λ other differ lies. subst (λ (t : T). K.lies t other) (sym ends.tables) lies;
          going = λ apart. subst K.apart (sym ends.tables) apart;
        };
        holds = holds (c.finished && nat_eq (length c.outstanding) 0) refl;
        disk = record {
          total = shows.disk.total ∙ ap (λ (k : DiskState). k.total) (sym disk_is);
          files = shows.disk.files ∙ ap (λ (k : DiskState). k.files) (sym disk_is);
          bytes = shows.disk.bytes ∙ ap (λ (k : DiskState). k.bytes) (sym disk_is);
          opens = shows.disk.opens ∙ ap (λ (k : DiskState). k.rows) (sym disk_is);
        };
        journal = shows.journal ∙ sym ends.log.entries;
        tables = subst (λ (t : T). K.shows t m.tables) (sym ends.tables) shows.tables;
        mine = mine;
      })
