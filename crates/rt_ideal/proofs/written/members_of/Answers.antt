use Rattle.rt_ideal.proofs.Members.{members_in_object}
use Rattle.rt_ideal.proofs.written.members_of.Goals as goal

pub returns-in-Some-Object : goal.returns-in-Some-Object
returns-in-Some-Object c =
    rw c.in-Some-Object.members-is (members_in_object c.args.value c.in-Some-Object.field-0 c.in-Some-Object.members c.in-Some-Object.is c.in-Some-Object.field-0-is)
