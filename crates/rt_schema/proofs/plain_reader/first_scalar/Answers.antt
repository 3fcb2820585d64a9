use Rattle.rt_schema.proofs.Plain.{integer_at}
use Rattle.rt_schema.proofs.plain_reader.first_scalar.Goals as goal

pub returns-in-Some : goal.returns-in-Some
returns-in-Some c =
    let known = c.in-Some.ensures {u = tt} in
    integer_at c.args.text.now c.in-Some.rest.now c.in-Some.number c.from.result known.fits known.text c.from.ensures
