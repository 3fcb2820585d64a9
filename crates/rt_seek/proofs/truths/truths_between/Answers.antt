use Rattle.std.proofs.Common.{◌∙◌, sym}
use Rattle.rt_seek.proofs.Sets.{ok_then}
use Rattle.rt_seek.proofs.Keys.{between_by}
use Rattle.rt_seek.proofs.truths.truths_between.Goals as goal

pub returns-in-Some-to : goal.returns-in-Some-to
returns-in-Some-to g c =
    ok_then c.truths_within.result _ _ c.truths_within.ensures (λ truths e.
    e ∙ between_by g.K.Comparable.against g.K.Key.below c.args.dict.now c.args.low.now c.args.high.now c.in-Some.from c.in-Some-to.to
    (g.met.K.Comparable.stands c.args.low.now c.in-Some.from (sym (c.in_ok-from.ensures {u = tt}) ∙ c.in-Some.is))
    (g.met.K.Comparable.stands c.args.high.now c.in-Some-to.to (sym (c.in_ok-to.ensures {u = tt}) ∙ c.in-Some-to.is)))
