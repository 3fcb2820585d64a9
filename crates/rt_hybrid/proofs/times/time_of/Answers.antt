use Rattle.std.proofs.Common.{◌∙◌, ap, sym}
use Rattle.std.specs.Prelude.{false, unwrap_or}
use Rattle.std.proofs.lemmas.Option.{unwrap_or-slice_get}
use Rattle.rt_schema.specs.declared.value.Value.TheVariants.{Bool as Truth}
use Rattle.rt_model.specs.Values.{number_of}
use Rattle.rt_hybrid.proofs.times.time_of.Goals as goal

pub returns-in-None : goal.returns-in-None
returns-in-None c =
    ap number_of (ap (λ o. unwrap_or o (Truth false)) (sym c.in-None.ensures.none) ∙ unwrap_or-slice_get c.args.row.now.values c.args.place (Truth false))
