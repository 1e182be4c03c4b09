-- The passes of tables for one thread.
use Rattle.std.specs.Prelude.{◌≡◌, ℕ, Some, length}
use Rattle.std.proofs.Common.{sym, ap, ◌∙◌}
use Rattle.std.proofs.lemmas.List.{length-map}
use Rattle.bd_tables.specs.declared.plain.PlainPass.{PlainPass}
use Rattle.bd_tables.specs.declared.state.Walk.{Walk}
use Rattle.bd_tables.specs.Plain.{LiesHere, PlainState, kernel_of, place_at, tables_of, walk_of}
use Rattle.bd_tables.specs.Seen.{IsKernelOf}
use Rattle.bd_tables.specs.State.{TableState}

-- the pass is lent, and shows where its engine is
abbrev pub IsLent : PlainState → PlainPass → Type 0
IsLent plain pass = place_at plain.places pass.process ≡ Some pass.walk

abbrev pub walk_of_pass : PlainPass → Walk
walk_of_pass pass = pass.walk

abbrev pub process_of_pass : PlainPass → ℕ
process_of_pass pass = pass.process

-- the pass of the process lies in the tables
abbrev pub lies_in : PlainState → ℕ → Type 0
lies_in plain process = LiesHere plain.places process

-- no engine of such tables goes its own way
abbrev pub goes_apart : PlainState → Type 0
goes_apart plain = ⊥

-- they show all of their state
abbrev pub shows_whole : PlainState → TableState → Type 0
shows_whole plain t = t ≡ tables_of plain

-- and what the kernel's side sees is what they show
pub plain_kernel : (plain : PlainState) (t : TableState) → shows_whole plain t → IsKernelOf (kernel_of plain) t
plain_kernel plain t is =
    record {
      processes = sym (ap (λ (s : TableState). length s.walks) is ∙ length-map plain.places walk_of);
      rights = ap (λ (s : TableState). s.rights) (sym is);
      cells = ap (λ (s : TableState). s.cells) (sym is);
    }
