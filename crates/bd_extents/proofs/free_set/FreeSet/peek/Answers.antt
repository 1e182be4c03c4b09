use Rattle.std.proofs.Common.{Some}
use Rattle.bd_extents.proofs.Marks.{Allocates-next, Allocates-lowest, GivesNext}
use Rattle.bd_extents.proofs.free_set.FreeSet.peek.Goals as goal

pub returns-in-Some : goal.returns-in-Some
returns-in-Some c =
    let next : GivesNext c.args.self.now c.args.after (Some c.in-Some.block) =
    record {
      value = c.in-Some.ensures.value;
      free = c.in-Some.ensures.free;
      below_total =
          c.in-Some.ensures.below_total;
    } in
    let allocates = Allocates-next c.args.self.now c.args.after c.in-Some.block next in
    record {
      block = allocates.block;
      next = allocates.next;
      lowest = allocates.lowest;
      none = allocates.none;
      free = allocates.free;
      below_total = allocates.below_total;
    }

pub returns-in-None : goal.returns-in-None
returns-in-None c =
    let allocates = Allocates-lowest c.args.self.now c.args.after c.lowest.result
    (record { value = c.in-None.ensures.value; free = c.in-None.ensures.free; below_total = c.in-None.ensures.below_total })
    (record { value = c.lowest.ensures.value; none = c.lowest.ensures.none }) in
    record {
      block = allocates.block;
      next = allocates.next;
      lowest = allocates.lowest;
      none = allocates.none;
      free = allocates.free;
      below_total = allocates.below_total;
    }
