use Rattle.std.proofs.Common.{◌≡◌, ◌↔◌, ℕ, Err, List, Some, None, subst, sym, ap, arith}
use Rattle.std.proofs.lemmas.List.{take_all}
use Rattle.bd_entry.specs.declared.entry.Entry.{Entry}
use Rattle.bd_store.specs.declared.check.Verdict.TheVariants.{Legal, NotLegal, Unfinished}
use Rattle.bd_store.specs.Verdicts.{BreaksFirst, IsFirstLess, IsLegalInOrder, LacksEndOf}
use Rattle.bd_store.proofs.JournalWork.{IsFollowed, followed_on, some_at}
use Rattle.bd_store.proofs.OneVerdict.{IsVerdict, all_finished, breaks_first, lacks_end, told_broken, told_legal, told_unfinished}
use Rattle.bd_store.proofs.check.check_journal.Goals as goal
use Rattle.bd_store.proofs.check.check_journal.Goals.{in-None, in-Some}

pub returns-in-Err-Broken-clause-legal : goal.returns-in-Err-Broken-clause-legal
returns-in-Err-Broken-clause-legal c =
    let it = some_at c.args.entries.now c.loop-number.number c.loop-number-test.true in
    let breaks : IsVerdict c.args.volume c.args.script.now c.args.entries.now (NotLegal c.loop-number.number c.in-Err-Broken.rule) =
    breaks_first c.args.volume c.args.script.now c.args.entries.now c.loop-number.number c.in-Err-Broken.rule it.0 c.loop-number.progress.store
    c.loop-number.progress.finished.items it.1 c.loop-number.invariant
    (c.in-Err-Broken.ensures.broken c.in-Err-Broken.rule it.0 (ap Err c.in-Err-Broken.field-0-is) it.1) in
    subst (λ (told : ℕ). (NotLegal c.loop-number.number told ≡ Legal) ↔ IsLegalInOrder c.args.volume c.args.script.now c.args.entries.now)
    (sym c.in-Err-Broken.rule-is)
    (told_legal c.args.volume c.args.script.now c.args.entries.now (NotLegal c.loop-number.number c.in-Err-Broken.rule) breaks)

pub returns-in-Err-Broken-clause-broken : goal.returns-in-Err-Broken-clause-broken
returns-in-Err-Broken-clause-broken c entry rule =
    let it = some_at c.args.entries.now c.loop-number.number c.loop-number-test.true in
    let breaks : IsVerdict c.args.volume c.args.script.now c.args.entries.now (NotLegal c.loop-number.number c.in-Err-Broken.rule) =
    breaks_first c.args.volume c.args.script.now c.args.entries.now c.loop-number.number c.in-Err-Broken.rule it.0 c.loop-number.progress.store
    c.loop-number.progress.finished.items it.1 c.loop-number.invariant
    (c.in-Err-Broken.ensures.broken c.in-Err-Broken.rule it.0 (ap Err c.in-Err-Broken.field-0-is) it.1) in
    subst (λ (told : ℕ). (NotLegal c.loop-number.number told ≡ NotLegal entry rule) ↔ BreaksFirst c.args.volume c.args.script.now c.args.entries.now entry rule)
    (sym c.in-Err-Broken.rule-is)
    (told_broken c.args.volume c.args.script.now c.args.entries.now (NotLegal c.loop-number.number c.in-Err-Broken.rule) breaks entry rule)

pub returns-in-Err-Broken-clause-unfinished : goal.returns-in-Err-Broken-clause-unfinished
returns-in-Err-Broken-clause-unfinished c process call =
    let it = some_at c.args.entries.now c.loop-number.number c.loop-number-test.true in
    let breaks : IsVerdict c.args.volume c.args.script.now c.args.entries.now (NotLegal c.loop-number.number c.in-Err-Broken.rule) =
    breaks_first c.args.volume c.args.script.now c.args.entries.now c.loop-number.number c.in-Err-Broken.rule it.0 c.loop-number.progress.store
    c.loop-number.progress.finished.items it.1 c.loop-number.invariant
    (c.in-Err-Broken.ensures.broken c.in-Err-Broken.rule it.0 (ap Err c.in-Err-Broken.field-0-is) it.1) in
    subst
    (λ (told : ℕ).
    (NotLegal c.loop-number.number told ≡ Unfinished process call) ↔ LacksEndOf c.args.volume c.args.script.now c.args.entries.now process call)
    (sym c.in-Err-Broken.rule-is)
    (told_unfinished c.args.volume c.args.script.now c.args.entries.now (NotLegal c.loop-number.number c.in-Err-Broken.rule) breaks process call)

pub loop-number-preserved : goal.loop-number-preserved
loop-number-preserved c =
    followed_on c.args.volume c.args.script.now c.args.entries.now c.loop-number.number c.loop-number.progress.store c.take_entry.new.progress.store
    c.loop-number.progress.finished.items c.take_entry.new.progress.finished.items (omega arith) c.loop-number.invariant c.in-Ok.ensures.taken
    c.in-Ok.ensures.finished

pub returns-clause-legal : goal.returns-clause-legal
returns-clause-legal c =
    let followed : IsFollowed c.args.volume c.args.script.now c.args.entries.now c.loop-number.progress.store c.loop-number.progress.finished.items =
    subst (λ (journal : List Entry). IsFollowed c.args.volume c.args.script.now journal c.loop-number.progress.store c.loop-number.progress.finished.items)
    (take_all c.loop-number.number c.args.entries.now c.loop-number-test.false) c.loop-number.invariant in
    let verdict : IsVerdict c.args.volume c.args.script.now c.args.entries.now c.match-first_unfinished.result =
    elim c.match-first_unfinished.branch [
      | in-Some w ↦
          subst (IsVerdict c.args.volume c.args.script.now c.args.entries.now) (sym w.result-is)
          (lacks_end c.args.volume c.args.script.now c.args.entries.now c.loop-number.progress.store c.loop-number.progress.finished.items w.in-Some.at followed
          (subst (λ (finished : List ℕ). IsFirstLess finished c.args.script.now (Some w.in-Some.at)) c.deref.ensures.value w.in-Some.ensures))
      | in-None w ↦
          subst (IsVerdict c.args.volume c.args.script.now c.args.entries.now) (sym w.result-is)
          (all_finished c.args.volume c.args.script.now c.args.entries.now c.loop-number.progress.store c.loop-number.progress.finished.items followed
          (subst (λ (finished : List ℕ). IsFirstLess finished c.args.script.now None) c.deref.ensures.value w.in-None.ensures))
    ] in
    told_legal c.args.volume c.args.script.now c.args.entries.now c.match-first_unfinished.result verdict

pub returns-clause-broken : goal.returns-clause-broken
returns-clause-broken c entry rule =
    let followed : IsFollowed c.args.volume c.args.script.now c.args.entries.now c.loop-number.progress.store c.loop-number.progress.finished.items =
    subst (λ (journal : List Entry). IsFollowed c.args.volume c.args.script.now journal c.loop-number.progress.store c.loop-number.progress.finished.items)
    (take_all c.loop-number.number c.args.entries.now c.loop-number-test.false) c.loop-number.invariant in
    let verdict : IsVerdict c.args.volume c.args.script.now c.args.entries.now c.match-first_unfinished.result =
    elim c.match-first_unfinished.branch [
      | in-Some w ↦
          subst (IsVerdict c.args.volume c.args.script.now c.args.entries.now) (sym w.result-is)
          (lacks_end c.args.volume c.args.script.now c.args.entries.now c.loop-number.progress.store c.loop-number.progress.finished.items w.in-Some.at followed
          (subst (λ (finished : List ℕ). IsFirstLess finished c.args.script.now (Some w.in-Some.at)) c.deref.ensures.value w.in-Some.ensures))
      | in-None w ↦
          subst (IsVerdict c.args.volume c.args.script.now c.args.entries.now) (sym w.result-is)
          (all_finished c.args.volume c.args.script.now c.args.entries.now c.loop-number.progress.store c.loop-number.progress.finished.items followed
          (subst (λ (finished : List ℕ). IsFirstLess finished c.args.script.now None) c.deref.ensures.value w.in-None.ensures))
    ] in
    told_broken c.args.volume c.args.script.now c.args.entries.now c.match-first_unfinished.result verdict entry rule

pub returns-clause-unfinished : goal.returns-clause-unfinished
returns-clause-unfinished c process call =
    let followed : IsFollowed c.args.volume c.args.script.now c.args.entries.now c.loop-number.progress.store c.loop-number.progress.finished.items =
    subst (λ (journal : List Entry). IsFollowed c.args.volume c.args.script.now journal c.loop-number.progress.store c.loop-number.progress.finished.items)
    (take_all c.loop-number.number c.args.entries.now c.loop-number-test.false) c.loop-number.invariant in
    let verdict : IsVerdict c.args.volume c.args.script.now c.args.entries.now c.match-first_unfinished.result =
    elim c.match-first_unfinished.branch [
      | in-Some w ↦
          subst (IsVerdict c.args.volume c.args.script.now c.args.entries.now) (sym w.result-is)
          (lacks_end c.args.volume c.args.script.now c.args.entries.now c.loop-number.progress.store c.loop-number.progress.finished.items w.in-Some.at followed
          (subst (λ (finished : List ℕ). IsFirstLess finished c.args.script.now (Some w.in-Some.at)) c.deref.ensures.value w.in-Some.ensures))
      | in-None w ↦
          subst (IsVerdict c.args.volume c.args.script.now c.args.entries.now) (sym w.result-is)
          (all_finished c.args.volume c.args.script.now c.args.entries.now c.loop-number.progress.store c.loop-number.progress.finished.items followed
          (subst (λ (finished : List ℕ). IsFirstLess finished c.args.script.now None) c.deref.ensures.value w.in-None.ensures))
    ] in
    told_unfinished c.args.volume c.args.script.now c.args.entries.now c.match-first_unfinished.result verdict process call
