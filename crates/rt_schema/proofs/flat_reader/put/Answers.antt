use Rattle.json.specs.Reads.{token_of}
use Rattle.rt_schema.specs.Flat.{scalar_of}
use Rattle.rt_schema.proofs.Flat.{puts_at}
use Rattle.rt_schema.proofs.flat_reader.put.Goals as goal

pub returns-in-Some-2 : goal.returns-in-Some-2
returns-in-Some-2 c put = puts_at c.args.place c.in-Some.i c.in_ok-json.field-0 c.in-Some-2.json (scalar_of (token_of c.args.token)) c.args.found.now c.in-Some.is c.in-Some-2.is (c.in_ok-json.ensures {u = tt})
