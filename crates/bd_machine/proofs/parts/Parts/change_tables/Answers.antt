use Rattle.std.proofs.Common.{◌≡◌, ◌≤◌, Bor, Option, None, Some, refl, sym, ap, ◌∙◌, arith, subst}
use Rattle.std.specs.Prelude.{IsSome}
use Rattle.std.specs.Option.{option_copied}
use Rattle.std.proofs.lemmas.Option.{none-some}
use Rattle.bd_base.specs.declared.limits.TheConstants.{FILE_SIZE}
use Rattle.bd_entry.specs.Store.{Descriptor}
use Rattle.bd_kernel.specs.Changes.{slot_at}
use Rattle.bd_kernel.specs.Holders.{Table}
use Rattle.bd_turns.specs.Turns.{may_write}
use Rattle.bd_machine.proofs.TableChanges.{act_clears_none, tables_stay}
use Rattle.bd_machine.proofs.TableChangesOfAttach.{AttachingTo, attach_open, attaching_to}
use Rattle.bd_machine.proofs.TableChangesOfGrowth.{grown_by_block, grown_in_block, growing_of}
use Rattle.bd_machine.proofs.parts.Parts.change_tables.Goals as goal

-- ---- an attach

there : {X : Type 0} (o : Option (Bor X)) (x : X) → option_copied o ≡ Some x → IsSome o
there None x is = absurd (none-some x is)
there (Some y) x is = refl

pub unwrap-descriptor-requires : goal.unwrap-descriptor-requires
unwrap-descriptor-requires g c =
    let it = attach_open _ _ _ _ _ _ _ _ (g.met.T.KernelSide.shown_kernel _ _ c.requires.1.1.1.tables) c.requires.1.1.1 c.in-Attached.is in
    there c.get-in-Attached.result it.0
    (c.get-in-Attached.ensures ∙ ap (λ (t : Table). slot_at t.rows c.in-Attached.at.process c.get.result) c.descriptors.ensures
    ∙ ap (slot_at c.args.self.now.disk.rows c.in-Attached.at.process) c.get.ensures.value ∙ it.1)

asked : (g : _) (c : goal.After-attach-arg-in-Attached-1 g) →
    AttachingTo (g.T.KernelSide.kernel c.args.self.now.tables) g.g c.args.entry.now c.in-Attached.at c.in-Attached.fd c.in-Attached.part
    c.descriptor.inside.file
    c.may_write-write.result c.args.cells.now
asked g c =
    let opened : slot_at c.args.self.now.disk.rows c.in-Attached.at.process c.in-Attached.fd ≡ Some c.unwrap-descriptor.result.now =
    ap (slot_at c.args.self.now.disk.rows c.in-Attached.at.process) (sym c.get.ensures.value)
    ∙ ap (λ (t : Table). slot_at t.rows c.in-Attached.at.process c.get.result) (sym c.descriptors.ensures)
    ∙ sym c.get-in-Attached.ensures ∙ ap option_copied c.unwrap-descriptor.ensures in
    attaching_to _ _ _ _ _ _ _ _ c.unwrap-descriptor.result.now c.descriptor.inside.file c.may_write-write.result
    (g.met.T.KernelSide.shown_kernel _ _ c.requires.1.1.1.tables) c.requires.1.1.1 c.in-Attached.is opened
    (ap (λ (d : Descriptor). d.file) c.descriptor.view_is) (c.may_write-write.ensures ∙ ap (λ (d : Descriptor). may_write d.mode) c.descriptor.view_is)

pub attach-requires-clause-not_attached : goal.attach-requires-clause-not_attached
attach-requires-clause-not_attached g c = (asked g c).not_attached

pub attach-requires-clause-room : goal.attach-requires-clause-room
attach-requires-clause-room g c = (asked g c).room

pub attach-requires-clause-limits : goal.attach-requires-clause-limits
attach-requires-clause-limits g c = (asked g c).limits

pub attach-requires-clause-agree : goal.attach-requires-clause-agree
attach-requires-clause-agree g c = (asked g c).agree

refused : (g : _) (c : goal.In-Err g) →
    AttachingTo (g.T.KernelSide.kernel c.args.self.now.tables) g.g c.args.entry.now c.in-Attached.at c.in-Attached.fd c.in-Attached.part
    c.descriptor.inside.file
    c.may_write-write.result c.args.cells.now
refused g c =
    let opened : slot_at c.args.self.now.disk.rows c.in-Attached.at.process c.in-Attached.fd ≡ Some c.unwrap-descriptor.result.now =
    ap (slot_at c.args.self.now.disk.rows c.in-Attached.at.process) (sym c.get.ensures.value)
    ∙ ap (λ (t : Table). slot_at t.rows c.in-Attached.at.process c.get.result) (sym c.descriptors.ensures)
    ∙ sym c.get-in-Attached.ensures ∙ ap option_copied c.unwrap-descriptor.ensures in
    attaching_to _ _ _ _ _ _ _ _ c.unwrap-descriptor.result.now c.descriptor.inside.file c.may_write-write.result
    (g.met.T.KernelSide.shown_kernel _ _ c.requires.1.1.1.tables) c.requires.1.1.1 c.in-Attached.is opened
    (ap (λ (d : Descriptor). d.file) c.descriptor.view_is) (c.may_write-write.ensures ∙ ap (λ (d : Descriptor). may_write d.mode) c.descriptor.view_is)

pub unreachable-requires : goal.unreachable-requires
unreachable-requires g c = let full = c.in-Err.ensures.full in (refused g c).not_full (full.0 refl)

done : (g : _) (c : goal.In-Ok g) →
    AttachingTo (g.T.KernelSide.kernel c.args.self.now.tables) g.g c.args.entry.now c.in-Attached.at c.in-Attached.fd c.in-Attached.part
    c.descriptor.inside.file
    c.may_write-write.result c.args.cells.now
done g c =
    let opened : slot_at c.args.self.now.disk.rows c.in-Attached.at.process c.in-Attached.fd ≡ Some c.unwrap-descriptor.result.now =
    ap (slot_at c.args.self.now.disk.rows c.in-Attached.at.process) (sym c.get.ensures.value)
    ∙ ap (λ (t : Table). slot_at t.rows c.in-Attached.at.process c.get.result) (sym c.descriptors.ensures)
    ∙ sym c.get-in-Attached.ensures ∙ ap option_copied c.unwrap-descriptor.ensures in
    attaching_to _ _ _ _ _ _ _ _ c.unwrap-descriptor.result.now c.descriptor.inside.file c.may_write-write.result
    (g.met.T.KernelSide.shown_kernel _ _ c.requires.1.1.1.tables) c.requires.1.1.1 c.in-Attached.is opened
    (ap (λ (d : Descriptor). d.file) c.descriptor.view_is) (c.may_write-write.ensures ∙ ap (λ (d : Descriptor). may_write d.mode) c.descriptor.view_is)

pub returns-in-Ok-clause-shown : goal.returns-in-Ok-clause-shown
returns-in-Ok-clause-shown g c = λ t shows.
    subst (g.T.Tables.shows c.attach.new.self) ((done g c).after t) (c.in-Ok.ensures.shown t shows)

-- ---- a growth

pub overflow_sub-index : goal.overflow_sub-index
overflow_sub-index g c = (growing_of _ _ _ _ _ _ _ _ _ (g.met.T.KernelSide.shown_kernel _ _ c.requires.1.1.1.tables) c.requires.1.1.1 c.in-Extended.is).some

pub overflow_cast-index : goal.overflow_cast-index
overflow_cast-index g c =
    let few : c.in-Extended.to ≤ FILE_SIZE =
    (growing_of _ _ _ _ _ _ _ _ _ (g.met.T.KernelSide.shown_kernel _ _ c.requires.1.1.1.tables) c.requires.1.1.1 c.in-Extended.is).few in record
    { fits = omega arith }

pub put_entry-requires-clause-empty : goal.put_entry-requires-clause-empty
put_entry-requires-clause-empty g c =
    (growing_of _ _ _ _ _ _ _ _ _ (g.met.T.KernelSide.shown_kernel _ _ c.requires.1.1.1.tables) c.requires.1.1.1 c.in-Extended.is).empty
    c.in-Some.block c.in-Some.is

pub put_entry-requires-clause-limit : goal.put_entry-requires-clause-limit
put_entry-requires-clause-limit g c =
    let some : 1 ≤ c.in-Extended.to =
    (growing_of _ _ _ _ _ _ _ _ _ (g.met.T.KernelSide.shown_kernel _ _ c.requires.1.1.1.tables) c.requires.1.1.1 c.in-Extended.is).some in
    (omega arith, omega arith)

pub overflow_cast-index-in-None : goal.overflow_cast-index-in-None
overflow_cast-index-in-None g c =
    let few : c.in-Extended.to ≤ FILE_SIZE =
    (growing_of _ _ _ _ _ _ _ _ _ (g.met.T.KernelSide.shown_kernel _ _ c.requires.1.1.1.tables) c.requires.1.1.1 c.in-Extended.is).few in record
    { fits = omega arith }

pub raise_limit-requires-clause-filled : goal.raise_limit-requires-clause-filled
raise_limit-requires-clause-filled g c =
    (growing_of _ _ _ _ _ _ _ _ _ (g.met.T.KernelSide.shown_kernel _ _ c.requires.1.1.1.tables) c.requires.1.1.1 c.in-Extended.is).filled c.in-None.is

pub returns-in-Some-clause-shown : goal.returns-in-Some-clause-shown
returns-in-Some-clause-shown g c = λ t shows.
    subst (g.T.Tables.shows c.put_entry.new.self)
    (grown_by_block _ _ _ _ _ _ _ c.in-Some.block
    (growing_of _ _ _ _ _ _ _ _ _ (g.met.T.KernelSide.shown_kernel _ _ c.requires.1.1.1.tables) c.requires.1.1.1 c.in-Extended.is)
    c.in-Extended.is c.in-Some.is t)
    (c.put_entry.ensures.shown t shows)

pub returns-in-None-clause-shown : goal.returns-in-None-clause-shown
returns-in-None-clause-shown g c = λ t shows.
    subst (g.T.Tables.shows c.raise_limit.new.self)
    (grown_in_block _ _ _ _ _ _ _
    (growing_of _ _ _ _ _ _ _ _ _ (g.met.T.KernelSide.shown_kernel _ _ c.requires.1.1.1.tables) c.requires.1.1.1 c.in-Extended.is)
    c.in-Extended.is c.in-None.is t)
    (c.raise_limit.ensures.shown t shows)

-- ---- another entry

pub returns-in_default : goal.returns-in_default
returns-in_default g c = record {
  shown = λ t shows. subst (g.T.Tables.shows c.args.self.now.tables)
      (sym (tables_stay g.g.after t c.args.entry.now
      (act_clears_none g.g.before.store c.requires.1.1.1.place c.requires.1.1.1.act c.args.entry.now c.requires.1.1.1.of_act)
      c.in_default.not-Attached c.in_default.not-Extended)) shows;
  same = refl;
  passes = record { lent = λ pass lent. lent; engines = record { lying = λ pass lies. lies; going = λ apart. apart } };
}
