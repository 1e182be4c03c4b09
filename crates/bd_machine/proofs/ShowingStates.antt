-- A state that the parts of a machine show, and to which a machine can come, is the one that they show.
use Rattle.std.proofs.Common.{◌≡◌, ⊎_elim, ℕ, zero, suc, ◌+◌, ◌<◌, List, [], ◌∷◌, map, length, Option, None, Some, sym, ap, ◌∙◌, subst, arith}
use Rattle.std.specs.Prelude.{get_or, slice_get, slice_index_or}
use Rattle.std.specs.List.{enumerate_from}
use Rattle.std.proofs.lemmas.List.{ext_get_or, length-map}
use Rattle.std.proofs.lemmas.List.FromFn.{length-enumerate_from}
use Rattle.std.proofs.lemmas.Option.{none-some, same_Some}
use Rattle.bd_base.specs.declared.script.Process.{Process as ScriptProcess}
use Rattle.bd_base.specs.declared.script.Script.{Script}
use Rattle.bd_entry.specs.declared.entry.Entry.{Entry}
use Rattle.bd_entry.specs.Store.{work_of}
use Rattle.bd_entry.proofs.HistoryLaws.{history_leads}
use Rattle.bd_entry.proofs.Slots.{some_of}
use Rattle.bd_machine.specs.declared.process.Process.{Process}
use Rattle.bd_machine.specs.Kept.{state_shown, work_shown}
use Rattle.bd_machine.specs.Shows.{PlainParts, Reached, Shows, phase_of, plain_sides, progress_shown}
use Rattle.bd_machine.proofs.ShowingWork.{work_is}
use Rattle.bd_turns.proofs.FoundElements.{slice_get-there}
use Rattle.bd_tables.specs.declared.plain.PlainPass.{PlainPass}
use Rattle.bd_turns.specs.State.{Phase, Progress, State, new_progress, progress_of}

-- what is made of each element of a list with its place
mapped_at : {X Y : Type 0} (f : ℕ × X → Y) (n : ℕ) (xs : List X) (i : ℕ) (x : X) (d : Y) → slice_get xs i ≡ Some x →
    get_or (map f (enumerate_from n xs)) i d ≡ f (n + i, x)
mapped_at f n [] i x d is = absurd (none-some x is)
mapped_at f n (y ∷ xs) zero x d is =
    let place : n ≡ n + 0 = omega arith in
    ap (λ (k : ℕ). f (k, y)) place ∙ ap (λ z. f (n + 0, z)) (same_Some y x is)
mapped_at f n (y ∷ xs) (suc i) x d is =
    let place : n + 1 + i ≡ n + suc i = omega arith in
    mapped_at f (n + 1) xs i x d is ∙ ap (λ (k : ℕ). f (k, x)) place

mapped_first : {X Y : Type 0} (f : ℕ × X → Y) (xs : List X) (i : ℕ) (x : X) (d : Y) → slice_get xs i ≡ Some x →
    get_or (map f (enumerate_from 0 xs)) i d ≡ f (i, x)
mapped_first f xs i x d is =
    let place : 0 + i ≡ i = omega arith in
    mapped_at f 0 xs i x d is ∙ ap (λ (k : ℕ). f (k, x)) place

module _ {M : Type 0} (script : Script) (x : PlainParts M) (m : State) (shows : Shows plain_sides script x m) (reached : Reached m) where
  abbrev processes : List (Process PlainPass)
  processes = x.processes.items

  abbrev work : List (List Entry)
  work = map (λ (y : ℕ × Process PlainPass). work_shown script x.log.entries y.0 y.1.ended) (enumerate_from 0 processes)

  abbrev progresses : List Progress
  progresses =
      map (λ (y : ℕ × Process PlainPass). progress_shown (slice_index_or x.disk.held y.0 None) (phase_of y.1.phase) y.1)
      (enumerate_from 0 processes)

  -- the process of a number within
  there : (i : ℕ) → i < length script.processes → (z : Process PlainPass) × (slice_get processes i ≡ Some z)
  there i within =
      some_of (slice_get processes i)
      (slice_get-there processes i (subst (λ (k : ℕ). i < k) (sym shows.count) within))

  -- no engine of such tables goes its own way, so the machine knows its phase
  phase_there : (i : ℕ) (z : Process PlainPass) (is : slice_get processes i ≡ Some z) →
      (shows.each i z is).phase ≡ phase_of z.phase
  phase_there i z is =
      ⊎_elim {C = (shows.each i z is).phase ≡ phase_of z.phase} (λ apart. absurd apart) (λ here. here.phase_is)
      (shows.each i z is).engine

  progress_there : (i : ℕ) (z : Process PlainPass) → slice_get processes i ≡ Some z →
      progress_of m i ≡ progress_shown (slice_index_or x.disk.held i None) (phase_of z.phase) z
  progress_there i z is =
      (shows.each i z is).progress
      ∙ ap (λ (phase : Option Phase). progress_shown (slice_index_or x.disk.held i None) phase z) (phase_there i z is)

  same_progresses : m.processes ≡ progresses
  same_progresses =
      ext_get_or new_progress m.processes progresses
      (shows.progresses ∙ sym shows.count ∙ sym (length-enumerate_from 0 processes)
      ∙ sym (length-map (enumerate_from 0 processes) _))
      (λ i within.
      let z = there i (subst (λ (k : ℕ). i < k) shows.progresses within) in
      progress_there i z.0 z.1 ∙ sym (mapped_first _ processes i z.0 new_progress z.1))

  work_at : (i : ℕ) (z : Process PlainPass) → slice_get processes i ≡ Some z →
      work_of m.store i ≡ work_shown script x.log.entries i z.ended
  work_at i z is =
      work_is reached.0 m reached.1.history reached.1.sound.calls.in_turn i
      ∙ ap (λ (n : ℕ). work_shown m.script m.journal i n) (ap (λ (g : Progress). g.ended) (shows.each i z is).progress)
      ∙ ap (λ (s : Script). work_shown s m.journal i z.ended) shows.script_is
      ∙ ap (λ (journal : List Entry). work_shown script journal i z.ended) shows.journal

  same_work : m.store.work ≡ work
  same_work =
      let rows = (history_leads reached.0 m.script m.journal m.store reached.1.history).rows in
      let count : length m.store.work ≡ length script.processes =
      rows ∙ ap (λ (s : Script). length s.processes) shows.script_is in
      ext_get_or [] m.store.work work
      (count ∙ sym shows.count ∙ sym (length-enumerate_from 0 processes) ∙ sym (length-map (enumerate_from 0 processes) _))
      (λ i within.
      let z = there i (subst (λ (k : ℕ). i < k) count within) in
      work_at i z.0 z.1 ∙ sym (mapped_first _ processes i z.0 [] z.1))

  -- the state is just what the parts show
  pub is_shown : m ≡ state_shown script x
  is_shown = λ i. record {
    script = shows.script_is i;
    store = record {
      total = shows.disk.total i;
      uids = users i;
      files = shows.disk.files i;
      bytes = shows.disk.bytes i;
      opens = shows.disk.opens i;
      work = same_work i;
    };
    journal = shows.journal i;
    tables = shows.tables i;
    processes = same_progresses i;
    posted = shows.posted i;
  }
    where
      users : m.store.uids ≡ map (λ (p : ScriptProcess). p.uid) script.processes
      users = shows.users
