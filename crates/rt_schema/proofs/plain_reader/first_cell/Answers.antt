use Rattle.std.proofs.Common.{sym, ◌∙◌}
use Rattle.rt_schema.proofs.Plain.{long_at, text_at, time_at}
use Rattle.rt_schema.proofs.plain_reader.first_cell.Goals as goal

pub returns-in-Some : goal.returns-in-Some
returns-in-Some c =
    let known = c.in-Some.ensures {u = tt} in
    text_at c.args.column.now c.args.text.now c.in-Some.string.now c.of.result c.in-Some.rest.now (sym c.in-Text.is) known.text known.utf8 (c.of.ensures ∙ c.in_ok-string-in-Text.ensures {u = tt})

pub returns-in-Some-plain_long : goal.returns-in-Some-plain_long
returns-in-Some-plain_long c =
    let known = c.in-Some-plain_long.ensures {u = tt} in
    long_at c.args.column.now c.args.text.now c.in-Some-plain_long.rest.now c.in-Some-plain_long.number c.long_value.result (sym c.in-Long.is) known.fits known.text c.long_value.ensures

pub returns-in-Some-plain_long-2 : goal.returns-in-Some-plain_long-2
returns-in-Some-plain_long-2 c =
    let known = c.in-Some-plain_long-2.ensures {u = tt} in
    time_at c.args.column.now c.args.text.now c.in-Some-plain_long-2.rest.now c.in-Some-plain_long-2.millis c.time_value.result (sym c.in-Time.is) known.fits known.text c.time_value.ensures
