use Rattle.bd_entry.proofs.EntryKinds.{created-no_name, created-no_perms}
use Rattle.bd_entry.proofs.read.kinds.read_created.Goals as goal

pub returns-in_default-front_name : goal.returns-in_default-front_name
returns-in_default-front_name c =
    created-no_name c.in-Some.file c.args.text.now c.in-Some.rest.now c.in-Some.ensures.some c.in_default-front_name.ensures.none

pub returns-in_default-one_number : goal.returns-in_default-one_number
returns-in_default-one_number c =
    created-no_perms c.in-Some.file c.in-Some-front_name.name.now c.args.text.now c.in-Some.rest.now c.in-Some-front_name.rest.now
    c.in-Some.ensures.some c.in-Some-front_name.ensures.some c.in_default-one_number.ensures
