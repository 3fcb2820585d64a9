use Rattle.rt_ground.proofs.Promises.{length_shared}
use Rattle.rt_ground.proofs.shared_stream.SharedStreamFeed.length.Goals as goal

pub returns-clause-feed : goal.returns-clause-feed
returns-clause-feed g c =
    length_shared g.J.Naming.starting.partitions _ _ _ _ _ c.args.partition _ c.self.view_is c.length.ensures.looks c.length.ensures.answer
