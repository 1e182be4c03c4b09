-- The parts of a machine before its first turn show the state of the abstract machine before its first turn.
use Rattle.std.proofs.Common.{◌≡◌, ◌⊎◌, inl, inr, ⊎_elim, ℕ, zero, suc, ◌<◌, List, [], ◌∷◌, ◌++◌, map, length, replicate, Option, None, Some, refl, sym, ap, ◌∙◌, subst}
use Rattle.std.specs.Prelude.{All, slice_get, slice_index_or}
use Rattle.std.specs.Option.{option_map, option_to_list}
use Rattle.std.specs.FinMap as fin
use Rattle.std.proofs.lemmas.List.{get_or-replicate, length-map, length-replicate}
use Rattle.std.proofs.lemmas.List.Elements.{All-nil}
use Rattle.std.proofs.lemmas.Option.{none-some, slice_get_within}
use Rattle.bd_base.specs.declared.limits.TheConstants.{DESCRIPTORS}
use Rattle.bd_base.specs.declared.script.Process.{Process as ScriptProcess}
use Rattle.bd_base.specs.declared.script.Script.{Script}
use Rattle.bd_base.specs.declared.volume.Volume.{Volume}
use Rattle.bd_entry.specs.Store.{start_store}
use Rattle.bd_entry.proofs.CallPieces.{All-slice_get}
use Rattle.bd_kernel.specs.Disks.{DiskState}
use Rattle.bd_machine.specs.declared.parts.Parts.{Parts}
use Rattle.bd_machine.specs.declared.process.Hand.{Hand}
use Rattle.bd_machine.specs.declared.process.Process.{Process}
use Rattle.bd_machine.specs.Booted.{AreNew, IsBooted, IsNew}
use Rattle.bd_machine.specs.Shows.{IsCallAt, IsCommandOf, IsEngineHere, IsPassWhere, IsProcessAt, Shows, completed_of, does_walk, hand_shown, phase_of, pieces_of_commands, plain_sides, taken_shown}
use Rattle.bd_queue_pair.specs.Queues.{Queues}
use Rattle.bd_tables.specs.declared.state.Walk.{Walk}
use Rattle.bd_tables.specs.declared.state.Walk.TheVariants as walks
use Rattle.bd_tables.specs.Plain.{LiesHere, PlainState, cells_of, new_plain, tables_of, walk_of}
use Rattle.bd_tables.proofs.Places.{cells_of-empty}
use Rattle.bd_turns.proofs.RunningPlaces.{runs_at}
use Rattle.bd_turns.specs.State.{Phase, State, boot_state, new_progress, new_tables, outstanding, progress_of}
use Rattle.bd_tables.specs.declared.sides.Tables as sides

-- the same of each element
all_same : {X Y : Type 0} (y : Y) (xs : List X) → map (λ (x : X). y) xs ≡ replicate (length xs) y
all_same y [] = refl
all_same {Y = Y} y (x ∷ xs) = ap (λ (ys : List Y). y ∷ ys) (all_same y xs)

same_at : {X Y : Type 0} (y : Y) (xs : List X) (i : ℕ) → slice_index_or (map (λ (x : X). y) xs) i y ≡ y
same_at y [] i = refl
same_at y (x ∷ xs) zero = refl
same_at y (x ∷ xs) (suc i) = same_at y xs i

same_of : {Y : Type 0} (y : Y) (n i : ℕ) → slice_index_or (replicate n y) i y ≡ y
same_of y zero i = refl
same_of y (suc n) zero = refl
same_of y (suc n) (suc i) = same_of y n i

-- walks of passes that lie in the tables
idle_walks : (n : ℕ) → map walk_of (replicate n None) ≡ replicate n walks.Idle
idle_walks zero = refl
idle_walks (suc n) = ap (λ (ws : List Walk). walks.Idle ∷ ws) (idle_walks n)

-- tables for one thread as they are made
module _ (script : Script) (x : PlainState) (is : x ≡ new_plain (length script.processes)) where
  tables_are : new_tables script ≡ tables_of x
  tables_are = λ i. record {
    rights = rights i;
    cells = cells i;
    lines = lines i;
    walks = walks_are i;
  }
    where
      rights : fin.empty ≡ x.rights
      rights = ap (λ (t : PlainState). t.rights) (sym is)

      cells : fin.empty ≡ cells_of x.book
      cells = sym cells_of-empty ∙ ap (λ (t : PlainState). cells_of t.book) (sym is)

      lines : (new_tables script).lines ≡ x.lines
      lines = ap (λ (t : PlainState). t.lines) (sym is)

      walks_are : (new_tables script).walks ≡ map walk_of x.places
      walks_are =
          all_same walks.Idle script.processes ∙ sym (idle_walks (length script.processes))
          ∙ ap (λ (t : PlainState). map walk_of t.places) (sym is)

  lies : (i : ℕ) → i < length script.processes → LiesHere x.places i
  lies i within =
      subst (λ (t : PlainState). LiesHere t.places i) (sym is)
      (record {
        within = subst (λ (k : ℕ). i < k) (sym (length-replicate (length script.processes) None)) within;
        here = get_or-replicate (length script.processes) i None None within;
      })

  pub plain_are_new : AreNew plain_sides script x
  plain_are_new = record { shows = tables_are; passes = λ i within. inr (lies i within) }

-- nothing was taken
taken_none : (phase : Option Phase) → taken_shown phase None ≡ []
taken_none None = refl
taken_none (Some phase) = refl

module _ {T M P : Type 0} {K : sides.Ghosts T P} (v : Volume) (script : Script) (x : Parts T M P) (booted : IsBooted K v script x) where
  abbrev m : State
  m = boot_state (start_store v script) script

  abbrev count : ℕ
  count = length script.processes

  new_at : (i : ℕ) → progress_of m i ≡ new_progress
  new_at i = same_at new_progress script.processes i

  held_at : (i : ℕ) → slice_index_or x.disk.held i None ≡ None
  held_at i = ap (λ (d : DiskState). slice_index_or d.held i None) booted.disk ∙ same_of None count i

  each : (i : ℕ) (z : Process P) → slice_get x.processes.items i ≡ Some z →
      IsProcessAt K m (slice_index_or x.disk.held i None) x.tables i z
  each i z there =
      record {
        phase = phase_of z.phase;
        progress =
            new_at i
            ∙ (λ k. record {
              ended = sym new.ended k;
              used = sym new.used k;
              held = sym (held_at i) k;
              submitted = none_submitted k;
              hand = hand_shown (phase_of z.phase) (sym new.hand k);
              completed = map completed_of ((sym new.queue k).completed);
            });
        call = λ p runs.
            subst (IsCallAt m p) (sym new.call)
            (record {
              entries = (runs_at m i p runs).before_is;
              outstanding = ap outstanding (new_at p.at.process);
            });
        none = λ none. new.call;
        submitted = λ p runs. subst (λ (q : Queues). All (IsCommandOf p) q.submitted) (sym new.queue) (All-nil (IsCommandOf p));
        taken =
            ap (λ (q : Queues). q.in_hand) new.queue
            ∙ ap (λ (h : Option Hand). option_to_list (option_map (λ (hand : Hand). hand.command) h)) (sym new.hand);
        hand = λ p h runs is. absurd (none-some h (sym new.hand ∙ is));
        engine =
            ⊎_elim {C = K.apart x.tables ⊎ IsEngineHere K x.tables i (phase_of z.phase) z}
            (λ apart. inl apart)
            (λ lies.
            inr (record {
              phase_is = refl;
              pass =
                  subst (λ (h : Option Hand). IsPassWhere K (does_walk z.phase h) x.tables i z.pass) (sym new.hand)
                  (lies, new.pass);
            }))
            (booted.tables.passes i within);
      }
    where
      new : IsNew z
      new = All-slice_get IsNew x.processes.items i z booted.new there

      within : i < count
      within = subst (λ (k : ℕ). i < k) booted.count (slice_get_within x.processes.items i z there)

      none_submitted : [] ≡ taken_shown (phase_of z.phase) z.hand ++ pieces_of_commands z.queue.submitted
      none_submitted =
          ap (λ (front : List ℕ). front ++ []) (sym (taken_none (phase_of z.phase)))
          ∙ ap (λ (h : Option Hand). taken_shown (phase_of z.phase) h ++ []) (sym new.hand)
          ∙ ap (λ (q : Queues). taken_shown (phase_of z.phase) z.hand ++ pieces_of_commands q.submitted) (sym new.queue)

  pub boot_shows : Shows K script x (boot_state (start_store v script) script)
  boot_shows =
      record {
        script_is = refl;
        disk = record {
          total = ap (λ (d : DiskState). d.total) (sym booted.disk);
          files = ap (λ (d : DiskState). d.files) (sym booted.disk);
          bytes = ap (λ (d : DiskState). d.bytes) (sym booted.disk);
          opens = all_same (replicate DESCRIPTORS None) script.processes ∙ ap (λ (d : DiskState). d.rows) (sym booted.disk);
        };
        users = refl;
        holders = ap (λ (d : DiskState). length d.held) booted.disk ∙ length-replicate count None;
        journal = sym booted.entries;
        tables = booted.tables.shows;
        posted = refl;
        count = booted.count;
        progresses = length-map script.processes (λ (p : ScriptProcess). new_progress);
        each = each;
      }
