use Rattle.std.proofs.Common.{arith}
use Rattle.rt_mutable.proofs.Arriving.{few_keys}
use Rattle.rt_mutable.proofs.arrivals.Arrivals.id_of.Goals as goal

pub overflow_cast-result : goal.overflow_cast-result
overflow_cast-result g c =
    let few = few_keys g.met.K.Eq.laws g.met.K.ColumnKey.exact c.self.inside.keys.keys c.self.inside.ids.items c.self.invariant in
    omega (arith, few, c.in-Some.ensures.within)
