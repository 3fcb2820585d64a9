use Rattle.std.proofs.Common.{length, max, sym, subst, Option, IfSome}
use Rattle.std.proofs.lemmas.Result.{IfOk-weaker}
use Rattle.rt_schema.specs.Row.{AreTextsWithin, IsRowOf}
use Rattle.rt_schema.specs.declared.row.Row.{Row}
use Rattle.rt_schema.proofs.RowTexts.{row_of_short}
use Rattle.rt_schema.proofs.Rows.{row_of_kinds}
use Rattle.rt_schema.proofs.row_reader.RowReader.read.Goals as goal

pub returns : goal.returns
returns c = record {
  row = c.read_message.ensures;
  kinds = IfOk-weaker c.read_message.result _ _ (λ row h. subst (λ (o : Option Row). IfSome o (IsRowOf c.args.schema.now)) (sym h) (row_of_kinds c.args.schema.now c.args.message.now)) c.read_message.ensures;
  texts = IfOk-weaker c.read_message.result _ _ (λ row h. subst (λ (o : Option Row). IfSome o (AreTextsWithin (max 4 (length c.args.message.now)))) (sym h) (row_of_short c.args.schema.now c.args.message.now)) c.read_message.ensures;
}
