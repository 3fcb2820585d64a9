use Rattle.std.proofs.Common.{◌∙◌, ap, Vec, Global}
use Rattle.std.proofs.lemmas.Result.{IfOk-weaker}
use Rattle.serde_json.specs.declared.value.Value.{Value}
use Rattle.rt_schema.proofs.Fields.{fields_after_array}
use Rattle.rt_schema.proofs.field_reader.fields_after.Goals as goal

pub returns-in-Some-Array : goal.returns-in-Some-Array
returns-in-Some-Array c =
    let items = c.deref.ensures.value ∙ ap (λ (v : Vec Value Global). v.items) c.in-Some-Array.items-is in
    let is = fields_after_array c.args.role _ c.in-Some-Array.field-0.now c.in-Some-Array.items c.deref.result.now c.args.before c.in-Some-Array.ensures c.in-Some-Array.field-0-is items in
    IfOk-weaker c.add_fields.result _ _ (λ fields h. h ∙ is) c.add_fields.ensures
