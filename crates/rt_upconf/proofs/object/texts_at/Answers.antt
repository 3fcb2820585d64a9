use Rattle.std.proofs.Common.{◌∙◌, sym}
use Rattle.std.proofs.lemmas.Result.{IfOk-weaker}
use Rattle.rt_schema.proofs.Fields.{texts_at_array}
use Rattle.rt_upconf.proofs.object.texts_at.Goals as goal

pub returns-in-Some : goal.returns-in-Some
returns-in-Some c =
    let is = texts_at_array _ c.in-Some.items.now.items c.deref.result.now (sym c.if-not-is_given.ensures) c.in-Some.ensures c.deref.ensures.value in
    IfOk-weaker c.texts_of.result _ _ (λ texts h. h ∙ is) c.texts_of.ensures
