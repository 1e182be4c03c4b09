use Rattle.std.proofs.Common.{◌≡◌, ℕ, ◌+◌, true, false, Err, List, [], ◌∷◌, ◌++◌, take, refl, sym, ap, ◌∙◌, subst, arith}
use Rattle.std.specs.Prelude.{slice_index, slice_set}
use Rattle.std.specs.Option.{option_copied}
use Rattle.std.proofs.lemmas.Result.{err_from_is_err_and}
use Rattle.bd_base.specs.declared.journal.At.{At}
use Rattle.bd_base.specs.declared.script.Script.{Script}
use Rattle.bd_entry.specs.declared.entry.Entry.{Entry}
use Rattle.bd_entry.specs.Calls.{at_of, call_at}
use Rattle.bd_entry.specs.Rules.{BreaksRule}
use Rattle.bd_entry.specs.Store.{Store}
use Rattle.bd_store.specs.Kept.{marks_at}
use Rattle.bd_store.specs.Verdicts.{AreFinished, IsTaken}
use Rattle.bd_store.proofs.JournalWork.{take-push}
use Rattle.bd_store.proofs.TakenEntries.{IsSoFar, breaks_fields, breaks_first_of_kind, breaks_in_store, breaks_none, breaks_other, call_within, called-from, counts-ended, counts-running, counts_on, is_next, is_taken, process_counted, read-at, read-finished, read-there, user_kept, user_stays}
use Rattle.bd_store.proofs.check.take_entry.Goals as goal

-- a rule that is broken is told as that of the entry of the number
told-of : (script : Script) (before : List Entry) (s : Store) (e entry : Entry) (n rule : ℕ) → e ≡ entry → n ≡ rule → BreaksRule script before s e n →
    BreaksRule script before s entry rule
told-of script before s e entry n rule mine tells breaks =
    subst (λ (x : Entry). BreaksRule script before s x rule) mine (subst (BreaksRule script before s e) tells breaks)

pub returns-in_default-clause-broken : goal.returns-in_default-clause-broken
returns-in_default-clause-broken g c rule entry is there_is =
    let script = c.args.script.now in
    let before = take c.args.number c.args.entries.now in
    let k = c.args.progress.now.store in
    let finished = c.args.progress.now.finished.items in
    let e = c.index-entries-number.result in
    let so : IsSoFar script before g.s k finished =
    record { limits = c.requires.1.0; history = c.requires.1.1.0; kept = c.requires.1.1.1.0; counts = c.requires.1.1.1.1 } in
    let mine = read-at c.args.entries.now c.args.number e entry c.index-entries-number.is there_is in
    let tells : 1 ≡ rule = cc in
    told-of script before g.s e entry 1 rule mine tells
    (breaks_none script before g.s k finished e so
    (ap (call_at script) (sym c.at_of-at.ensures) ∙ sym c.call_at.ensures ∙ ap option_copied c.in_default.is))

pub index-requires : goal.index-requires
index-requires g c =
    let script = c.args.script.now in
    let before = take c.args.number c.args.entries.now in
    let k = c.args.progress.now.store in
    let finished = c.args.progress.now.finished.items in
    let e = c.index-entries-number.result in
    let so : IsSoFar script before g.s k finished =
    record { limits = c.requires.1.0; history = c.requires.1.1.0; kept = c.requires.1.1.1.0; counts = c.requires.1.1.1.1 } in
    let called = called-from script c.at_of-at.result (at_of e) c.call_at.result c.in-Some.call c.at_of-at.ensures c.call_at.ensures c.in-Some.is in
    let call = c.in-Some.call.now in
    let process : c.at_of-at.result.process ≡ (at_of e).process = ap (λ (a : At). a.process) c.at_of-at.ensures in
    omega (arith, process_counted script before g.s k finished e so call called, c.get-index.ensures.value)

pub returns-then-at-index-clause-broken : goal.returns-then-at-index-clause-broken
returns-then-at-index-clause-broken g c rule entry is there_is =
    let script = c.args.script.now in
    let before = take c.args.number c.args.entries.now in
    let k = c.args.progress.now.store in
    let finished = c.args.progress.now.finished.items in
    let e = c.index-entries-number.result in
    let so : IsSoFar script before g.s k finished =
    record { limits = c.requires.1.0; history = c.requires.1.1.0; kept = c.requires.1.1.1.0; counts = c.requires.1.1.1.1 } in
    let mine = read-at c.args.entries.now c.args.number e entry c.index-entries-number.is there_is in
    let tells : 1 ≡ rule = cc in
    let called = called-from script c.at_of-at.result (at_of e) c.call_at.result c.in-Some.call c.at_of-at.ensures c.call_at.ensures c.in-Some.is in
    let call = c.in-Some.call.now in
    let there = process_counted script before g.s k finished e so call called in
    let value =
    read-finished finished c.at_of-at.result (at_of e) c.get-index.result c.index.result.now c.at_of-at.ensures c.get-index.ensures.value there
    c.index.ensures in
    let number = ap (λ (a : At). a.call) c.at_of-at.ensures in
    told-of script before g.s e entry 1 rule mine tells
    (breaks_other script before g.s k finished e so call called (λ equal. c.if-at-index.true (number ∙ equal ∙ sym value)))

pub running-running-requires : goal.running-running-requires
running-running-requires g c =
    let script = c.args.script.now in
    let before = take c.args.number c.args.entries.now in
    let k = c.args.progress.now.store in
    let finished = c.args.progress.now.finished.items in
    let e = c.index-entries-number.result in
    let so : IsSoFar script before g.s k finished =
    record { limits = c.requires.1.0; history = c.requires.1.1.0; kept = c.requires.1.1.1.0; counts = c.requires.1.1.1.1 } in
    let called = called-from script c.at_of-at.result (at_of e) c.call_at.result c.in-Some.call c.at_of-at.ensures c.call_at.ensures c.in-Some.is in
    let call = c.in-Some.call.now in
    let process : c.at_of-at.result.process ≡ (at_of e).process = ap (λ (a : At). a.process) c.at_of-at.ensures in
    omega (arith, user_kept script before g.s k finished e so call called)

pub fits_call-requires : goal.fits_call-requires
fits_call-requires g c =
    let script = c.args.script.now in
    let before = take c.args.number c.args.entries.now in
    let k = c.args.progress.now.store in
    let finished = c.args.progress.now.finished.items in
    let e = c.index-entries-number.result in
    let so : IsSoFar script before g.s k finished =
    record { limits = c.requires.1.0; history = c.requires.1.1.0; kept = c.requires.1.1.1.0; counts = c.requires.1.1.1.1 } in
    let called = called-from script c.at_of-at.result (at_of e) c.call_at.result c.in-Some.call c.at_of-at.ensures c.call_at.ensures c.in-Some.is in
    let call = c.in-Some.call.now in
    call_within script before g.s k finished e so call called

pub returns-then-not-fits_call-clause-broken : goal.returns-then-not-fits_call-clause-broken
returns-then-not-fits_call-clause-broken g c rule entry is there_is =
    let script = c.args.script.now in
    let before = take c.args.number c.args.entries.now in
    let k = c.args.progress.now.store in
    let finished = c.args.progress.now.finished.items in
    let e = c.index-entries-number.result in
    let so : IsSoFar script before g.s k finished =
    record { limits = c.requires.1.0; history = c.requires.1.1.0; kept = c.requires.1.1.1.0; counts = c.requires.1.1.1.1 } in
    let mine = read-at c.args.entries.now c.args.number e entry c.index-entries-number.is there_is in
    let tells : 2 ≡ rule = cc in
    let called = called-from script c.at_of-at.result (at_of e) c.call_at.result c.in-Some.call c.at_of-at.ensures c.call_at.ensures c.in-Some.is in
    let call = c.in-Some.call.now in
    let there = process_counted script before g.s k finished e so call called in
    let value =
    read-finished finished c.at_of-at.result (at_of e) c.get-index.result c.index.result.now c.at_of-at.ensures c.get-index.ensures.value there
    c.index.ensures in
    let number = ap (λ (a : At). a.call) c.at_of-at.ensures in
    let same : (at_of e).call ≡ slice_index finished (at_of e).process = sym number ∙ c.if-at-index.false ∙ value in
    let process = ap (λ (a : At). a.process) c.at_of-at.ensures in
    let marks : c.running-running.result.now ≡ marks_at k (at_of e).process = c.running-running.ensures ∙ ap (marks_at k) process in
    told-of script before g.s e entry 2 rule mine tells
    (breaks_fields script before g.s k finished e so call called same c.running-running.result.now marks
    c.fits_call.result c.fits_call.ensures c.if-not-fits_call.true)

pub returns-then-not-is_first_of_kind-clause-broken : goal.returns-then-not-is_first_of_kind-clause-broken
returns-then-not-is_first_of_kind-clause-broken g c rule entry is there_is =
    let script = c.args.script.now in
    let before = take c.args.number c.args.entries.now in
    let k = c.args.progress.now.store in
    let finished = c.args.progress.now.finished.items in
    let e = c.index-entries-number.result in
    let so : IsSoFar script before g.s k finished =
    record { limits = c.requires.1.0; history = c.requires.1.1.0; kept = c.requires.1.1.1.0; counts = c.requires.1.1.1.1 } in
    let mine = read-at c.args.entries.now c.args.number e entry c.index-entries-number.is there_is in
    let tells : 3 ≡ rule = cc in
    let called = called-from script c.at_of-at.result (at_of e) c.call_at.result c.in-Some.call c.at_of-at.ensures c.call_at.ensures c.in-Some.is in
    let call = c.in-Some.call.now in
    let there = process_counted script before g.s k finished e so call called in
    let value =
    read-finished finished c.at_of-at.result (at_of e) c.get-index.result c.index.result.now c.at_of-at.ensures c.get-index.ensures.value there
    c.index.ensures in
    let number = ap (λ (a : At). a.call) c.at_of-at.ensures in
    let same : (at_of e).call ≡ slice_index finished (at_of e).process = sym number ∙ c.if-at-index.false ∙ value in
    let process = ap (λ (a : At). a.process) c.at_of-at.ensures in
    let marks : c.running-running.result.now ≡ marks_at k (at_of e).process = c.running-running.ensures ∙ ap (marks_at k) process in
    told-of script before g.s e entry 3 rule mine tells
    (breaks_first_of_kind script before g.s k finished e so call called same c.running-running.result.now marks
    c.fits_call.result c.fits_call.ensures c.if-not-fits_call.false
    c.is_first_of_kind.result c.is_first_of_kind.ensures c.if-not-is_first_of_kind.true)

pub apply-requires : goal.apply-requires
apply-requires g c =
    let script = c.args.script.now in
    let before = take c.args.number c.args.entries.now in
    let k = c.args.progress.now.store in
    let finished = c.args.progress.now.finished.items in
    let e = c.index-entries-number.result in
    let so : IsSoFar script before g.s k finished =
    record { limits = c.requires.1.0; history = c.requires.1.1.0; kept = c.requires.1.1.1.0; counts = c.requires.1.1.1.1 } in
    let called = called-from script c.at_of-at.result (at_of e) c.call_at.result c.in-Some.call c.at_of-at.ensures c.call_at.ensures c.in-Some.is in
    let call = c.in-Some.call.now in
    let there = process_counted script before g.s k finished e so call called in
    let value =
    read-finished finished c.at_of-at.result (at_of e) c.get-index.result c.index.result.now c.at_of-at.ensures c.get-index.ensures.value there
    c.index.ensures in
    let number = ap (λ (a : At). a.call) c.at_of-at.ensures in
    let same : (at_of e).call ≡ slice_index finished (at_of e).process = sym number ∙ c.if-at-index.false ∙ value in
    let process = ap (λ (a : At). a.process) c.at_of-at.ensures in
    let marks : c.running-running.result.now ≡ marks_at k (at_of e).process = c.running-running.ensures ∙ ap (marks_at k) process in
    let within = call_within script before g.s k finished e so call called in
    let user = user_kept script before g.s k finished e so call called in (
      so.kept,
      (
        within,
        (
          user,
          is_next script before g.s k finished e so call called same c.running-running.result.now marks
              c.fits_call.result c.fits_call.ensures c.if-not-fits_call.false c.is_first_of_kind.result c.is_first_of_kind.ensures
              c.if-not-is_first_of_kind.false,
        ),
      ),
    )

pub returns-in_err-apply-clause-broken : goal.returns-in_err-apply-clause-broken
returns-in_err-apply-clause-broken g c rule entry is there_is =
    let script = c.args.script.now in
    let before = take c.args.number c.args.entries.now in
    let k = c.args.progress.now.store in
    let finished = c.args.progress.now.finished.items in
    let e = c.index-entries-number.result in
    let so : IsSoFar script before g.s k finished =
    record { limits = c.requires.1.0; history = c.requires.1.1.0; kept = c.requires.1.1.1.0; counts = c.requires.1.1.1.1 } in
    let mine = read-at c.args.entries.now c.args.number e entry c.index-entries-number.is there_is in
    let called = called-from script c.at_of-at.result (at_of e) c.call_at.result c.in-Some.call c.at_of-at.ensures c.call_at.ensures c.in-Some.is in
    let call = c.in-Some.call.now in
    let there = process_counted script before g.s k finished e so call called in
    let value =
    read-finished finished c.at_of-at.result (at_of e) c.get-index.result c.index.result.now c.at_of-at.ensures c.get-index.ensures.value there
    c.index.ensures in
    let number = ap (λ (a : At). a.call) c.at_of-at.ensures in
    let same : (at_of e).call ≡ slice_index finished (at_of e).process = sym number ∙ c.if-at-index.false ∙ value in
    let process = ap (λ (a : At). a.process) c.at_of-at.ensures in
    let marks : c.running-running.result.now ≡ marks_at k (at_of e).process = c.running-running.ensures ∙ ap (marks_at k) process in
    let p = err_from_is_err_and c.from_residual.result c.from_residual.ensures.1 in
    let told = (c.in_err-apply.ensures.broken rule).0 (ap Err (sym p.2) ∙ sym p.1 ∙ is) in
    told-of script before g.s e entry rule rule mine refl
    (breaks_in_store script before g.s k finished e so call called same c.running-running.result.now marks
    c.fits_call.result c.fits_call.ensures c.if-not-fits_call.false c.is_first_of_kind.result c.is_first_of_kind.ensures
    c.if-not-is_first_of_kind.false rule told)

pub is_running-requires : goal.is_running-requires
is_running-requires g c =
    let script = c.args.script.now in
    let before = take c.args.number c.args.entries.now in
    let k = c.args.progress.now.store in
    let finished = c.args.progress.now.finished.items in
    let e = c.index-entries-number.result in
    let so : IsSoFar script before g.s k finished =
    record { limits = c.requires.1.0; history = c.requires.1.1.0; kept = c.requires.1.1.1.0; counts = c.requires.1.1.1.1 } in
    let called = called-from script c.at_of-at.result (at_of e) c.call_at.result c.in-Some.call c.at_of-at.ensures c.call_at.ensures c.in-Some.is in
    let call = c.in-Some.call.now in
    let there = process_counted script before g.s k finished e so call called in
    let value =
    read-finished finished c.at_of-at.result (at_of e) c.get-index.result c.index.result.now c.at_of-at.ensures c.get-index.ensures.value there
    c.index.ensures in
    let number = ap (λ (a : At). a.call) c.at_of-at.ensures in
    let same : (at_of e).call ≡ slice_index finished (at_of e).process = sym number ∙ c.if-at-index.false ∙ value in
    let process = ap (λ (a : At). a.process) c.at_of-at.ensures in
    let marks : c.running-running.result.now ≡ marks_at k (at_of e).process = c.running-running.ensures ∙ ap (marks_at k) process in
    let stays = user_stays script before g.s k finished e so call called same c.running-running.result.now marks
    c.fits_call.result c.fits_call.ensures c.if-not-fits_call.false c.is_first_of_kind.result c.is_first_of_kind.ensures
    c.if-not-is_first_of_kind.false
    c.apply.new.self c.in_ok-apply.ensures.keeps c.in_ok-apply.ensures.effect in
    let same_process : c.at_of-at.result.process ≡ (at_of e).process = process in
    omega (arith, stays)

pub index_mut-requires : goal.index_mut-requires
index_mut-requires g c =
    let script = c.args.script.now in
    let before = take c.args.number c.args.entries.now in
    let k = c.args.progress.now.store in
    let finished = c.args.progress.now.finished.items in
    let e = c.index-entries-number.result in
    let so : IsSoFar script before g.s k finished =
    record { limits = c.requires.1.0; history = c.requires.1.1.0; kept = c.requires.1.1.1.0; counts = c.requires.1.1.1.1 } in
    let called = called-from script c.at_of-at.result (at_of e) c.call_at.result c.in-Some.call c.at_of-at.ensures c.call_at.ensures c.in-Some.is in
    let call = c.in-Some.call.now in
    let process : c.at_of-at.result.process ≡ (at_of e).process = ap (λ (a : At). a.process) c.at_of-at.ensures in
    omega (arith, process_counted script before g.s k finished e so call called, c.get-index.ensures.value)

pub overflow_add-index_mut : goal.overflow_add-index_mut
overflow_add-index_mut g c =
    let script = c.args.script.now in
    let before = take c.args.number c.args.entries.now in
    let k = c.args.progress.now.store in
    let finished = c.args.progress.now.finished.items in
    let e = c.index-entries-number.result in
    let so : IsSoFar script before g.s k finished =
    record { limits = c.requires.1.0; history = c.requires.1.1.0; kept = c.requires.1.1.1.0; counts = c.requires.1.1.1.1 } in
    let called = called-from script c.at_of-at.result (at_of e) c.call_at.result c.in-Some.call c.at_of-at.ensures c.call_at.ensures c.in-Some.is in
    let call = c.in-Some.call.now in
    let there = process_counted script before g.s k finished e so call called in
    let value =
    read-finished finished c.at_of-at.result (at_of e) c.get-index.result c.index.result.now c.at_of-at.ensures c.get-index.ensures.value there
    c.index.ensures in
    let number = ap (λ (a : At). a.call) c.at_of-at.ensures in
    let same : (at_of e).call ≡ slice_index finished (at_of e).process = sym number ∙ c.if-at-index.false ∙ value in
    let most = counts_on script before g.s k finished e so call called same in
    let counted =
    read-finished finished c.at_of-at.result (at_of e) c.get-index.result c.index_mut.result.now c.at_of-at.ensures c.get-index.ensures.value there
    c.index_mut.ensures.value in
    omega (arith, most, counted)

pub returns-then-not-is_running-clause-taken : goal.returns-then-not-is_running-clause-taken
returns-then-not-is_running-clause-taken g c entry there_is =
    let script = c.args.script.now in
    let before = take c.args.number c.args.entries.now in
    let k = c.args.progress.now.store in
    let finished = c.args.progress.now.finished.items in
    let e = c.index-entries-number.result in
    let so : IsSoFar script before g.s k finished =
    record { limits = c.requires.1.0; history = c.requires.1.1.0; kept = c.requires.1.1.1.0; counts = c.requires.1.1.1.1 } in
    let mine = read-at c.args.entries.now c.args.number e entry c.index-entries-number.is there_is in
    let called = called-from script c.at_of-at.result (at_of e) c.call_at.result c.in-Some.call c.at_of-at.ensures c.call_at.ensures c.in-Some.is in
    let call = c.in-Some.call.now in
    let there = process_counted script before g.s k finished e so call called in
    let value =
    read-finished finished c.at_of-at.result (at_of e) c.get-index.result c.index.result.now c.at_of-at.ensures c.get-index.ensures.value there
    c.index.ensures in
    let number = ap (λ (a : At). a.call) c.at_of-at.ensures in
    let same : (at_of e).call ≡ slice_index finished (at_of e).process = sym number ∙ c.if-at-index.false ∙ value in
    let process = ap (λ (a : At). a.process) c.at_of-at.ensures in
    let marks : c.running-running.result.now ≡ marks_at k (at_of e).process = c.running-running.ensures ∙ ap (marks_at k) process in
    let next = c.apply.new.self in
    subst (λ (x : Entry). IsTaken script before g.s x next) mine
    (is_taken script before g.s k finished e so call called same c.running-running.result.now marks
    c.fits_call.result c.fits_call.ensures c.if-not-fits_call.false c.is_first_of_kind.result c.is_first_of_kind.ensures
    c.if-not-is_first_of_kind.false
    next c.in_ok-apply.ensures.keeps c.in_ok-apply.ensures.effect)

pub returns-then-not-is_running-clause-finished : goal.returns-then-not-is_running-clause-finished
returns-then-not-is_running-clause-finished g c =
    let script = c.args.script.now in
    let before = take c.args.number c.args.entries.now in
    let k = c.args.progress.now.store in
    let finished = c.args.progress.now.finished.items in
    let e = c.index-entries-number.result in
    let so : IsSoFar script before g.s k finished =
    record { limits = c.requires.1.0; history = c.requires.1.1.0; kept = c.requires.1.1.1.0; counts = c.requires.1.1.1.1 } in
    let called = called-from script c.at_of-at.result (at_of e) c.call_at.result c.in-Some.call c.at_of-at.ensures c.call_at.ensures c.in-Some.is in
    let call = c.in-Some.call.now in
    let there = process_counted script before g.s k finished e so call called in
    let value =
    read-finished finished c.at_of-at.result (at_of e) c.get-index.result c.index.result.now c.at_of-at.ensures c.get-index.ensures.value there
    c.index.ensures in
    let number = ap (λ (a : At). a.call) c.at_of-at.ensures in
    let same : (at_of e).call ≡ slice_index finished (at_of e).process = sym number ∙ c.if-at-index.false ∙ value in
    let process = ap (λ (a : At). a.process) c.at_of-at.ensures in
    let marks : c.running-running.result.now ≡ marks_at k (at_of e).process = c.running-running.ensures ∙ ap (marks_at k) process in
    let next = c.apply.new.self in
    let told : (marks_at next (at_of e).process).begun ≡ false =
    ap (λ (p : ℕ). (marks_at next p).begun) (sym process) ∙ sym c.is_running.ensures ∙ c.if-not-is_running.true in
    let counts = counts-ended script before g.s k finished e so call called same c.running-running.result.now marks
    c.fits_call.result c.fits_call.ensures c.if-not-fits_call.false c.is_first_of_kind.result c.is_first_of_kind.ensures
    c.if-not-is_first_of_kind.false
    next c.in_ok-apply.ensures.keeps c.in_ok-apply.ensures.effect told in
    let counted =
    read-finished finished c.at_of-at.result (at_of e) c.get-index.result c.index_mut.result.now c.at_of-at.ensures c.get-index.ensures.value there
    c.index_mut.ensures.value in
    let index : c.get-index.result ≡ (at_of e).process = c.get-index.ensures.value ∙ process in
    let one_more : slice_set finished (at_of e).process (slice_index finished (at_of e).process + 1)
    ≡ slice_set finished c.get-index.result (c.index_mut.result.now + 1) =
    ap (λ (i : ℕ). slice_set finished i (slice_index finished (at_of e).process + 1)) (sym index)
    ∙ ap (λ (n : ℕ). slice_set finished c.get-index.result (n + 1)) (sym counted) in
    let there_is = read-there c.args.entries.now c.args.number e c.requires.0 c.index-entries-number.is in
    subst (λ (journal : List Entry). AreFinished script journal (slice_set finished c.get-index.result (c.index_mut.result.now + 1)))
    (sym (take-push c.args.entries.now c.args.number e there_is)) (subst (AreFinished script (before ++ e ∷ [])) one_more counts)

pub returns-else-not-is_running-clause-taken : goal.returns-else-not-is_running-clause-taken
returns-else-not-is_running-clause-taken g c entry there_is =
    let script = c.args.script.now in
    let before = take c.args.number c.args.entries.now in
    let k = c.args.progress.now.store in
    let finished = c.args.progress.now.finished.items in
    let e = c.index-entries-number.result in
    let so : IsSoFar script before g.s k finished =
    record { limits = c.requires.1.0; history = c.requires.1.1.0; kept = c.requires.1.1.1.0; counts = c.requires.1.1.1.1 } in
    let mine = read-at c.args.entries.now c.args.number e entry c.index-entries-number.is there_is in
    let called = called-from script c.at_of-at.result (at_of e) c.call_at.result c.in-Some.call c.at_of-at.ensures c.call_at.ensures c.in-Some.is in
    let call = c.in-Some.call.now in
    let there = process_counted script before g.s k finished e so call called in
    let value =
    read-finished finished c.at_of-at.result (at_of e) c.get-index.result c.index.result.now c.at_of-at.ensures c.get-index.ensures.value there
    c.index.ensures in
    let number = ap (λ (a : At). a.call) c.at_of-at.ensures in
    let same : (at_of e).call ≡ slice_index finished (at_of e).process = sym number ∙ c.if-at-index.false ∙ value in
    let process = ap (λ (a : At). a.process) c.at_of-at.ensures in
    let marks : c.running-running.result.now ≡ marks_at k (at_of e).process = c.running-running.ensures ∙ ap (marks_at k) process in
    let next = c.apply.new.self in
    subst (λ (x : Entry). IsTaken script before g.s x next) mine
    (is_taken script before g.s k finished e so call called same c.running-running.result.now marks
    c.fits_call.result c.fits_call.ensures c.if-not-fits_call.false c.is_first_of_kind.result c.is_first_of_kind.ensures
    c.if-not-is_first_of_kind.false
    next c.in_ok-apply.ensures.keeps c.in_ok-apply.ensures.effect)

pub returns-else-not-is_running-clause-finished : goal.returns-else-not-is_running-clause-finished
returns-else-not-is_running-clause-finished g c =
    let script = c.args.script.now in
    let before = take c.args.number c.args.entries.now in
    let k = c.args.progress.now.store in
    let finished = c.args.progress.now.finished.items in
    let e = c.index-entries-number.result in
    let so : IsSoFar script before g.s k finished =
    record { limits = c.requires.1.0; history = c.requires.1.1.0; kept = c.requires.1.1.1.0; counts = c.requires.1.1.1.1 } in
    let called = called-from script c.at_of-at.result (at_of e) c.call_at.result c.in-Some.call c.at_of-at.ensures c.call_at.ensures c.in-Some.is in
    let call = c.in-Some.call.now in
    let there = process_counted script before g.s k finished e so call called in
    let value =
    read-finished finished c.at_of-at.result (at_of e) c.get-index.result c.index.result.now c.at_of-at.ensures c.get-index.ensures.value there
    c.index.ensures in
    let number = ap (λ (a : At). a.call) c.at_of-at.ensures in
    let same : (at_of e).call ≡ slice_index finished (at_of e).process = sym number ∙ c.if-at-index.false ∙ value in
    let process = ap (λ (a : At). a.process) c.at_of-at.ensures in
    let marks : c.running-running.result.now ≡ marks_at k (at_of e).process = c.running-running.ensures ∙ ap (marks_at k) process in
    let next = c.apply.new.self in
    let told : (marks_at next (at_of e).process).begun ≡ true =
    ap (λ (p : ℕ). (marks_at next p).begun) (sym process) ∙ sym c.is_running.ensures ∙ c.if-not-is_running.false in
    let counts = counts-running script before g.s k finished e so call called same c.running-running.result.now marks
    c.fits_call.result c.fits_call.ensures c.if-not-fits_call.false c.is_first_of_kind.result c.is_first_of_kind.ensures
    c.if-not-is_first_of_kind.false
    next c.in_ok-apply.ensures.keeps c.in_ok-apply.ensures.effect told in
    let there_is = read-there c.args.entries.now c.args.number e c.requires.0 c.index-entries-number.is in
    subst (λ (journal : List Entry). AreFinished script journal finished) (sym (take-push c.args.entries.now c.args.number e there_is)) counts
