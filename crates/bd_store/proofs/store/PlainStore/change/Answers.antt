use Rattle.std.proofs.Common.{◌≡◌, ◌≢◌, ℕ, ◌<◌, true, [], ◌∷◌, ◌++◌, length, sym, ◌∙◌, subst}
use Rattle.bd_base.specs.declared.journal.At.{At}
use Rattle.bd_entry.specs.Calls.{at_of, fd_of, is_ended_by}
use Rattle.bd_entry.specs.Effects.{with_descriptor_of_call, with_known_size}
use Rattle.bd_entry.specs.Store.{work_of}
use Rattle.bd_store.specs.Kept.{AtPlace, Kept, bare, marks_at}
use Rattle.bd_kernel.specs.Marks.{AreMarksOf}
use Rattle.bd_store.specs.Steps.{kept_as}
use Rattle.bd_store.proofs.KeptSteps.{IsTold, ends, goes_on, marked_here, still_there}
use Rattle.bd_store.proofs.ReadyChanges.{can_change, has_piece}
use Rattle.bd_store.proofs.store.PlainStore.change.Goals as goal

pub change_by-requires-clause-fit : goal.change_by-requires-clause-fit
change_by-requires-clause-fit g c =
    λ held. can_change c.args.self.now g.s c.args.call.now c.args.entry.now held c.requires.0 c.requires.1.0 c.requires.1.1.1

pub note-requires-clause-piece : goal.note-requires-clause-piece
note-requires-clause-piece g c = has_piece g.s c.args.call.now c.args.entry.now c.requires.1.0 c.requires.1.1.1

pub is_ended-requires-clause-process : goal.is_ended-requires-clause-process
is_ended-requires-clause-process g c =
    still_there c.args.self.now g.s c.args.call.now c.args.entry.now c.change_by.new.self c.note.new.self c.tell_by.new.self
    (record {
      before = c.requires.0;
      is_call = c.requires.1.0;
      process = c.requires.1.1.0;
      ready = c.requires.1.1.1;
      changed = c.in_ok-change_by.ensures.change;
      noted = c.note.ensures.noted;
      key = c.note.ensures.key;
      room = c.note.ensures.room;
      telling = c.tell_by.ensures;
    })

pub end-requires : goal.end-requires
end-requires g c =
    subst (λ (at : At). at.process < length c.tell_by.new.self.uids) (sym c.at_of.ensures)
    (still_there c.args.self.now g.s c.args.call.now c.args.entry.now c.change_by.new.self c.note.new.self c.tell_by.new.self
    (record {
      before = c.requires.0;
      is_call = c.requires.1.0;
      process = c.requires.1.1.0;
      ready = c.requires.1.1.1;
      changed = c.in_ok-change_by.ensures.change;
      noted = c.note.ensures.noted;
      key = c.note.ensures.key;
      room = c.note.ensures.room;
      telling = c.tell_by.ensures;
    }))

pub returns-then-is_ended-clause-effect : goal.returns-then-is_ended-clause-effect
returns-then-is_ended-clause-effect g c =
    let k = c.args.self.now in
    let call = c.args.call.now in
    let e = c.args.entry.now in
    let told : Kept = c.tell_by.new.self in
    let last : Kept = c.end.new.self in
    let is : IsTold k g.s call e c.change_by.new.self c.note.new.self told =
    record {
      before = c.requires.0;
      is_call = c.requires.1.0;
      process = c.requires.1.1.0;
      ready = c.requires.1.1.1;
      changed = c.in_ok-change_by.ensures.change;
      noted = c.note.ensures.noted;
      key = c.note.ensures.key;
      room = c.note.ensures.room;
      telling = c.tell_by.ensures;
    } in
    let mine = marked_here k g.s call e c.change_by.new.self c.note.new.self told is in
    let ended : is_ended_by call (work_of g.s (at_of e).process ++ e ∷ []) ≡ true =
    sym (c.is_ended.ensures (work_of g.s (at_of e).process) mine c.requires.1.1.1.next.unfinished) ∙ c.if-is_ended.true in
    ends k g.s call e c.change_by.new.self c.note.new.self told is last ended
    (subst (λ (at : At). AtPlace told call at (λ s p. bare last ≡ bare (kept_as told (with_descriptor_of_call s p.at.process (fd_of p) with_known_size))))
    c.at_of.ensures c.end.ensures.rights)
    (subst (λ (at : At). AreMarksOf (marks_at last at.process) []) c.at_of.ensures c.end.ensures.here)
    (subst (λ (at : At). (q : ℕ) → q ≢ at.process → marks_at last q ≡ marks_at told q) c.at_of.ensures c.end.ensures.others)

pub returns-else-is_ended-clause-effect : goal.returns-else-is_ended-clause-effect
returns-else-is_ended-clause-effect g c =
    let k = c.args.self.now in
    let call = c.args.call.now in
    let e = c.args.entry.now in
    let told : Kept = c.tell_by.new.self in
    let is : IsTold k g.s call e c.change_by.new.self c.note.new.self told =
    record {
      before = c.requires.0;
      is_call = c.requires.1.0;
      process = c.requires.1.1.0;
      ready = c.requires.1.1.1;
      changed = c.in_ok-change_by.ensures.change;
      noted = c.note.ensures.noted;
      key = c.note.ensures.key;
      room = c.note.ensures.room;
      telling = c.tell_by.ensures;
    } in
    let mine = marked_here k g.s call e c.change_by.new.self c.note.new.self told is in
    goes_on k g.s call e c.change_by.new.self c.note.new.self told is
    (sym (c.is_ended.ensures (work_of g.s (at_of e).process) mine c.requires.1.1.1.next.unfinished) ∙ c.if-is_ended.false)
