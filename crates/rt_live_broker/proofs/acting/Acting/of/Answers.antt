use Rattle.rt_live_broker.proofs.Acts.{starts}
use Rattle.rt_live_broker.proofs.acting.Acting.of.Goals as goal

pub invariant_of-result : goal.invariant_of-result
invariant_of-result g c = starts _ _ _ _ c.args.asks _ _ _ c.requires.cluster c.requires.quiet c.requires.unseen c.requires.feeds c.new.ensures c.new-2.ensures c.in_ok-new.ensures
