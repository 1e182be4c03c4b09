-- The tables and the engines are sound before the first turn.
use Rattle.std.proofs.Common.{◌≡◌, ℕ, zero, suc, List, [], ◌∷◌, map, replicate, is_some, Option, None, refl, sym, ap, ◌∙◌}
use Rattle.std.specs.Prelude.{slice_index_or}
use Rattle.std.specs.FinMap.{get-empty}
use Rattle.std.proofs.lemmas.Bool.{false≢true}
use Rattle.std.proofs.lemmas.List.{length-replicate}
use Rattle.std.proofs.lemmas.Option.{none-some}
use Rattle.bd_base.specs.declared.script.Process.{Process}
use Rattle.bd_base.specs.declared.script.Script.{Script}
use Rattle.bd_base.specs.declared.volume.Volume.{Volume}
use Rattle.bd_base.specs.Keys.{key_cmp, pair_cmp}
use Rattle.bd_entry.specs.Store.{start_store}
use Rattle.bd_entry.proofs.KnownSizes.{none_open_at_start}
use Rattle.bd_lines.specs.declared.lines.Line.{Line}
use Rattle.bd_lines.specs.declared.lines.TheConstants.{LINES}
use Rattle.bd_lines.specs.Lines.{line_at}
use Rattle.bd_tables.specs.declared.state.Walk.{Walk}
use Rattle.bd_tables.specs.declared.state.Walk.TheVariants.{Idle}
use Rattle.bd_tables.specs.Sound.{IsSound, granted_of}
use Rattle.bd_tables.specs.State.{walk_at}
use Rattle.bd_turns.specs.Sound.{AreTablesSound}
use Rattle.bd_turns.specs.State.{Progress, boot_state, new_progress, new_tables}
use Rattle.bd_turns.proofs.HoldsAtBoot.{all_new}
use Rattle.bd_turns.proofs.TablesOfEngines.{is_refused}

-- each engine is idle
walks_at_boot : (processes : List Process) (process : ℕ) → let idle : Process → Walk = λ p. Idle in walk_at (map idle processes) process ≡ Idle
walks_at_boot [] process = refl
walks_at_boot (p ∷ processes) zero = refl
walks_at_boot (p ∷ processes) (suc process) = walks_at_boot processes process

-- and has no command in hand
hands_at_boot : (processes : List Process) (process : ℕ) → let none : Process → Progress = λ p. new_progress in
    (slice_index_or (map none processes) process new_progress).hand ≡ None
hands_at_boot processes process = ap (λ (x : Progress). x.hand) (all_new processes process)

-- no line is filled
lines_at_boot : (n c : ℕ) → line_at (replicate n None) c ≡ None
lines_at_boot zero c = refl
lines_at_boot (suc n) zero = refl
lines_at_boot (suc n) (suc c) = lines_at_boot n c

new_tables_sound : (script : Script) → IsSound (new_tables script)
new_tables_sound script = record {
  sixteen = length-replicate {A = Option Line} LINES None;
  keys = λ key right is. absurd (none-some right (sym (get-empty key_cmp key) ∙ is));
  granted = λ process request is.
      absurd (none-some request (sym (ap granted_of (walks_at_boot script.processes process)) ∙ is));
  held = λ process request completion is.
      absurd (none-some request (sym (ap granted_of (walks_at_boot script.processes process)) ∙ ap granted_of is));
  cached = λ c line is. absurd (none-some line (sym (lines_at_boot LINES c) ∙ is));
}

-- before the first turn the tables and the engines are sound
pub tables_at_boot : (v : Volume) (script : Script) → AreTablesSound (boot_state (start_store v script) script)
tables_at_boot v script = record {
  rights = record {
    told = λ key right is. absurd (none-some right (sym (get-empty key_cmp key) ∙ is));
    all = λ key d there attached. absurd (none-some d (sym (none_open_at_start v script key.process key.fd) ∙ there));
  };
  lookups = λ key right index is of_part. absurd (none-some right (sym (get-empty key_cmp key) ∙ is));
  whole = λ key right is. absurd (none-some right (sym (get-empty key_cmp key) ∙ is));
  used = λ pair in_use. absurd (false≢true (sym (ap is_some (get-empty pair_cmp pair)) ∙ in_use));
  lines = λ c line is. absurd (none-some line (sym (lines_at_boot LINES c) ∙ is));
  marked = λ key right swept is drained. absurd (none-some right (sym (get-empty key_cmp key) ∙ is));
  tables = new_tables_sound script;
  hands = λ process p hand running in_hand. absurd (none-some hand (sym (hands_at_boot script.processes process) ∙ in_hand));
  idle = λ process none. walks_at_boot script.processes process;
  notable = λ p hand request found running in_hand missing refused.
      absurd (none-some hand (sym (hands_at_boot script.processes p.at.process) ∙ in_hand));
  open_keys = λ process request found refused other.
      absurd (false≢true (sym (ap is_refused (walks_at_boot script.processes process)) ∙ ap is_refused refused));
}
