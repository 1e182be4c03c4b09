-- The pair gets the first place that nobody owns.
use Rattle.std.proofs.Common.{◌≡◌, ℕ, ◌<◌, ◌+◌, Some, true, set, length, arith, ap, sym, ◌∙◌, subst, refl}
use Rattle.std.specs.FinMap as fin
use Rattle.std.proofs.lemmas.Bool.{false≢true}
use Rattle.std.proofs.lemmas.List.FromFn.{length-map-range_with_len}
use Rattle.std.specs.List.{slice_get}
use Rattle.bd_base.specs.Keys.{Pair}
use Rattle.bd_file_table.specs.declared.pool.Slot.{Slot}
use Rattle.bd_file_table.specs.Fragments.{Book, Cells, IsLowestUnused}
use Rattle.bd_file_table.specs.Kept.{IsPool, book_of}
use Rattle.bd_file_table.specs.Slots.{is_owned, slot_at}
use Rattle.bd_file_table.proofs.Pools.{Fills, fills, full-all}
use Rattle.bd_file_table.proofs.pool.Pool.build.Goals as goal

pub returns-in_default-clause-full : goal.returns-in_default-clause-full
returns-in_default-clause-full c =
    let all = subst (λ (slots : _). (n : ℕ) → n < length slots → is_owned (slot_at slots n) ≡ true) c.deref.ensures.value c.in_default.ensures.none in
    let full = full-all c.self.inside.slots.items c.self.inside.numbers.items c.self.inside.used c.self.invariant all in
    (λ yes. sym (ap (λ (book : Book). fin.len book) c.self.view_is) ∙ full, λ is. refl)

filled : (c : goal.After-self-3-1) → Fills c.self.inside.slots.items c.self.inside.numbers.items c.self.inside.used c.in-Some.free
    (record { file = c.args.file; part = c.args.part }) (record { owner = Some (record { file = c.args.file; part = c.args.part }); cells = c.fill_up.result })
filled c =
    let slots = c.self.inside.slots.items in
    let free = c.in-Some.free in
    fills slots c.self.inside.numbers.items c.self.inside.used free (record { file = c.args.file; part = c.args.part }) _ c.self.invariant
    c.pair_number-pair.ensures.part (omega (arith, c.pair_number-pair.ensures.number, c.pair_number-pair.ensures.within))
    (ap (λ (book : Book). fin.get book (record { file = c.args.file; part = c.args.part })) c.self.view_is ∙ c.requires.new)
    (omega (arith, c.in-Some.ensures.within, ap length c.deref.ensures.value))
    (ap (λ ss. is_owned (slot_at ss free)) (sym c.deref.ensures.value) ∙ c.in-Some.ensures.free)
    (λ k below. ap (λ ss. is_owned (slot_at ss k)) (sym c.deref.ensures.value) ∙ c.in-Some.ensures.first k below)
    refl
    (ap (λ (cs : Cells). length cs) c.fill_up.ensures ∙ length-map-range_with_len (slice_get c.args.cells.now) 0 512)

pub invariant_of-self : goal.invariant_of-self
invariant_of-self c =
    subst (λ n. IsPool (set c.self.inside.slots.items c.in-Some.free
    (record { owner = Some (record { file = c.args.file; part = c.args.part }); cells = c.fill_up.result }))
    (set c.self.inside.numbers.items n (Some c.in-Some.free)) (c.self.inside.used + 1))
    (sym c.pair_number-pair.ensures.number) (filled c).pool

pub returns-clause-full : goal.returns-clause-full
returns-clause-full c =
    (λ no. absurd (false≢true no), λ full. absurd ((filled c).not_full (ap (λ (book : Book). fin.len book) c.self.view_is ∙ full)))

pub returns-clause-lowest : goal.returns-clause-lowest
returns-clause-lowest c = subst (λ (book : Book). IsLowestUnused book c.in-Some.free) c.self.view_is (filled c).lowest

pub returns-clause-built : goal.returns-clause-built
returns-clause-built c =
    let pair : Pair = record { file = c.args.file; part = c.args.part } in
    let slot : Slot = record { owner = Some (record { file = c.args.file; part = c.args.part }); cells = c.fill_up.result } in
    ap (λ n. book_of (set c.self.inside.slots.items c.in-Some.free slot) (set c.self.inside.numbers.items n
    (Some c.in-Some.free))) c.pair_number-pair.ensures.number
    ∙ (filled c).book
    ∙ ap (λ (book : Book). fin.insert book pair (record { number = c.in-Some.free; cells = c.fill_up.result })) c.self.view_is
    ∙ ap (λ (cs : Cells). fin.insert c.args.self.now pair (record { number = c.in-Some.free; cells = cs })) c.fill_up.ensures
