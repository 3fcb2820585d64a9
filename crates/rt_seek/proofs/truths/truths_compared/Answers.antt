use Rattle.std.proofs.Common.{◌∙◌, sym}
use Rattle.rt_seek.proofs.Sets.{ok_then}
use Rattle.rt_seek.proofs.Keys.{compared_by}
use Rattle.rt_seek.proofs.truths.truths_compared.Goals as goal

pub returns-in-Some : goal.returns-in-Some
returns-in-Some g c =
    ok_then c.truths_beside.result _ _ c.truths_beside.ensures (λ truths e.
    e ∙ compared_by g.K.Comparable.against g.K.Key.below c.args.dict.now c.args.comparison c.args.literal.now c.in-Some.key
    (g.met.K.Comparable.stands c.args.literal.now c.in-Some.key (sym (c.in_ok-key_of.ensures {u = tt}) ∙ c.in-Some.is)))
