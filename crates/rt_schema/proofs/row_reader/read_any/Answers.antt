use Rattle.std.proofs.Common.{◌∙◌}
use Rattle.std.proofs.lemmas.Result.{IfOk-weaker}
use Rattle.std.proofs.lemmas.Bool.{false≢true}
use Rattle.serde_json.specs.View.{view}
use Rattle.rt_schema.proofs.Decoding.{row_of_text, no_row}
use Rattle.rt_schema.proofs.row_reader.read_any.Goals as goal

pub returns-in-Ok : goal.returns-in-Ok
returns-in-Ok c =
    let is = row_of_text c.args.schema.now c.as_slice.result.now c.args.message.now (view c.in-Ok.json) c.as_slice.ensures c.in-Ok.ensures.ok.0 c.in-Ok.ensures.ok.1 in
    IfOk-weaker c.row_in.result _ _ (λ row h. h ∙ is) c.row_in.ensures

pub returns-else-is_memory : goal.returns-else-is_memory
returns-else-is_memory c = no_row c.args.schema.now c.args.message.now (λ utf8. c.in-Err.ensures.err (λ memory. false≢true (c.if-is_memory.ensures.1 memory)) utf8)
