use Rattle.rt_live_broker.proofs.Acts.{ends}
use Rattle.rt_live_broker.proofs.acting.Acting.into_ended.Goals as goal

pub returns : goal.returns
returns g c = ends _ _ _ c.self.invariant
