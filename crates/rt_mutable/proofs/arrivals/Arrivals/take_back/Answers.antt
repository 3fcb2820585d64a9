use Rattle.std.proofs.Common.{◌-◌, length, take, ap, ◌∙◌}
use Rattle.rt_mutable.specs.Arrivals.{unless_used}
use Rattle.rt_mutable.proofs.Arriving.{hold_pop}
use Rattle.rt_mutable.proofs.arrivals.Arrivals.take_back.Goals as goal

pub invariant_of-self-2 : goal.invariant_of-self-2
invariant_of-self-2 g c =
    let left = c.forget_unless_used.ensures ∙ ap (λ ids. unless_used c.self.inside.keys.keys c.in-Some.id ids) c.deref.ensures.value in
    (hold_pop g.met.K.Eq.laws g.met.K.ColumnKey.exact c.self.inside.keys.keys _ c.self.inside.ids.items _ c.in-Some.id c.self.invariant (c.in-Some.ensures.items) left).arrivals

pub returns : goal.returns
returns g c =
    let left = c.forget_unless_used.ensures ∙ ap (λ ids. unless_used c.self.inside.keys.keys c.in-Some.id ids) c.deref.ensures.value in
    (hold_pop g.met.K.Eq.laws g.met.K.ColumnKey.exact c.self.inside.keys.keys _ c.self.inside.ids.items _ c.in-Some.id c.self.invariant (c.in-Some.ensures.items) left).values
    ∙ ap (λ vs. take (length vs - 1) vs) c.self.view_is
