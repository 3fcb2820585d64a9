use Rattle.std.proofs.Common.{◌∙◌, sym}
use Rattle.serde_json.specs.View.{view}
use Rattle.rt_hybrid.specs.Batch.{array_in}
use Rattle.rt_hybrid.proofs.Arrays.{array_is, few_are, none_are}
use Rattle.rt_hybrid.proofs.reading.few_items.Goals as goal

pub returns-then-are_few : goal.returns-then-are_few
returns-then-are_few c =
    let is = array_is (view c.args.json.now) c.in_ok-as_array.field-0.now.items (c.in_ok-as_array.ensures {u = tt}) in
    few_are (array_in (view c.args.json.now)) _ c.as_slice-items.result.now is c.as_slice-items.ensures.value (sym c.are_few.ensures ∙ c.if-are_few.true)

pub returns-else-are_few : goal.returns-else-are_few
returns-else-are_few c =
    let is = array_is (view c.args.json.now) c.in_ok-as_array.field-0.now.items (c.in_ok-as_array.ensures {u = tt}) in
    none_are (array_in (view c.args.json.now)) _ c.as_slice-items.result.now is c.as_slice-items.ensures.value (sym c.are_few.ensures ∙ c.if-are_few.false)
