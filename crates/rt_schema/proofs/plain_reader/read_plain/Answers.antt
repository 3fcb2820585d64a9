use Rattle.std.proofs.Common.{IfSome, subst}
use Rattle.rt_schema.specs.Plain.{ArePlain}
use Rattle.rt_schema.proofs.Plain.{plain_row, plain_utf8}
use Rattle.rt_schema.proofs.plain_reader.read_plain.Goals as goal

pub returns-in-Some-2 : goal.returns-in-Some-2
returns-in-Some-2 c =
    let columns = c.args.columns.now in
    let message = c.args.message.now in
    let text = c.in-Some.rest.now in
    let values = c.read_columns.new.values in
    let rest = c.in-Some-2.rest.now in
    let are : ArePlain columns text values rest = subst (λ o. IfSome o (λ left. ArePlain columns text values left.now)) c.in-Some-2.is (c.in_ok-rest.ensures {u = tt}) in
    let ends = c.is_end.ensures c.if-is_end.true in
    record {
      row = plain_row columns message text values rest c.requires c.in-Some.ensures are ends;
      text = plain_utf8 columns message text values rest c.in-Some.ensures are ends;
    }
