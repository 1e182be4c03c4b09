-- In new tables nothing is attached and each pass lies.
use Rattle.std.proofs.Common.{◌≡◌, ℕ, None, Some, Option, [], ◌∷◌, length, ap, sym, ◌∙◌, subst, refl, false, arith, IfSome}
use Rattle.std.specs.FinMap as fin
use Rattle.std.proofs.lemmas.List.{length-replicate}
use Rattle.bd_base.specs.Keys.{Pair, key_cmp, key_cmp_total, pair_cmp}
use Rattle.std.proofs.lemmas.List.FromFn.{get_or-map-range_with_len}
use Rattle.std.specs.List.{slice_get}
use Rattle.bd_file_table.specs.Fragments.{Fragment, cell_at, fragment_with, padded}
use Rattle.bd_tables.specs.declared.state.Walk.{Walk}
use Rattle.bd_tables.specs.Effects.{new_right}
use Rattle.bd_tables.specs.Kernel.{IsAttachedIn, IsOn, KernelState, ReachesUpTo}
use Rattle.bd_tables.specs.Plain.{PlainState, place_at}
use Rattle.bd_tables.specs.State.{Rights}
use Rattle.bd_tables.proofs.Bare.{built-get}
use Rattle.bd_tables.proofs.Maps.{same_key-insert}
use Rattle.bd_tables.proofs.KeptNew.{none_there}
use Rattle.bd_tables.proofs.tests.start.Goals as goal

pub attach-requires-clause-not_attached : goal.attach-requires-clause-not_attached
attach-requires-clause-not_attached c =
    ap (λ (plain : PlainState). fin.get plain.rights c.args.key.now) c.in_ok-tables.ensures ∙ fin.get-empty key_cmp c.args.key.now

pub attach-requires-clause-agree : goal.attach-requires-clause-agree
attach-requires-clause-agree c =
    let pair : Pair = record { file = c.in_ok-file.file; part = c.args.key.now.part } in
    let none : fin.get c.in_ok-tables.tables.book pair ≡ None =
    ap (λ (plain : PlainState). fin.get plain.book pair) c.in_ok-tables.ensures ∙ fin.get-empty pair_cmp pair in
    subst (λ (v : Option Fragment). IfSome v (λ fragment. fragment.cells ≡ padded (c.in_ok-cell.field-0 ∷ c.in_ok-cell-2.field-0 ∷ []))) (sym none) tt

pub lend-pass-requires : goal.lend-pass-requires
lend-pass-requires c =
    let places = c.attach.ensures.places ∙ ap (λ (plain : PlainState). plain.places) c.in_ok-tables.ensures in
    record {
      within = omega (arith, ap length places, length-replicate {A = Option Walk} 16 None, c.requires.process);
      here = ap (λ ps. place_at ps c.args.key.now.process) places ∙ none_there 16 c.args.key.now.process;
    }

pub returns-clause-on : goal.returns-clause-on
returns-clause-on c =
    let there =
    ap (λ (kernel : KernelState). fin.get kernel.rights c.args.key.now) c.lend-pass.ensures.kernel
    ∙ ap (λ (rights : Rights). fin.get rights c.args.key.now) c.in_ok-attach.ensures.ok.rights
    ∙ same_key-insert key_cmp_total c.in_ok-tables.tables.rights c.args.key.now (new_right c.in_ok-file.file false) in
    subst (IsAttachedIn IsOn) (sym there) refl

-- the fragment of part 0 of the file has these two cells
built : (c : goal.After-lend-pass) → (number : ℕ) × (fin.get c.lend-pass.new.self.book (record { file = 255; part = 0 })
    ≡ Some (fragment_with number (padded (c.in_ok-cell.field-0 ∷ c.in_ok-cell-2.field-0 ∷ []))))
built c =
    let pair : Pair = record { file = c.in_ok-file.file; part = c.args.key.now.part } in
    let none : fin.get c.in_ok-tables.tables.book pair ≡ None =
    ap (λ (plain : PlainState). fin.get plain.book pair) c.in_ok-tables.ensures ∙ fin.get-empty pair_cmp pair in
    let got = built-get c.in_ok-tables.tables.book c.attach.new.self.book pair
    (c.in_ok-cell.field-0 ∷ c.in_ok-cell-2.field-0 ∷ []) none c.in_ok-attach.ensures.ok.book in
    let same : record { file = 255; part = 0 } ≡ pair = λ i. record { file = sym c.in_ok-file.ensures i; part = sym c.requires.part i } in (
      got.0,
      ap (λ (kernel : KernelState). fin.get kernel.book (record { file = 255; part = 0 })) c.lend-pass.ensures.kernel
          ∙ ap (fin.get c.attach.new.self.book) same ∙ got.1,
    )

pub returns-clause-empty : goal.returns-clause-empty
returns-clause-empty c =
    let b = built c in
    let cells = c.in_ok-cell.field-0 ∷ c.in_ok-cell-2.field-0 ∷ [] in
    subst (λ (v : Option Fragment). IfSome v (λ fragment. cell_at fragment.cells 2 ≡ None)) (sym b.1)
    (get_or-map-range_with_len (slice_get cells) 0 512 2 2 None (omega arith) refl)

pub returns-clause-filled : goal.returns-clause-filled
returns-clause-filled c =
    let b = built c in
    let cells = c.in_ok-cell.field-0 ∷ c.in_ok-cell-2.field-0 ∷ [] in
    subst (λ (v : Option Fragment). IfSome v (λ fragment. ReachesUpTo 200 (cell_at fragment.cells 1))) (sym b.1)
    (subst (ReachesUpTo 200) (sym (get_or-map-range_with_len (slice_get cells) 0 512 1 1 None (omega arith) refl))
    (omega (arith, c.in_ok-cell-2.ensures)))
