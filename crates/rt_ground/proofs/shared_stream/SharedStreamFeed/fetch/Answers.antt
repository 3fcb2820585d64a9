use Rattle.rt_ground.proofs.Promises.{fetch_shared}
use Rattle.rt_ground.proofs.shared_stream.SharedStreamFeed.fetch.Goals as goal

pub returns-clause-feed : goal.returns-clause-feed
returns-clause-feed g c =
    fetch_shared g.J.Naming.starting.partitions _ _ _ _ _ c.args.partition c.args.from c.args.max _ c.self.view_is c.fetch.ensures.looks c.fetch.ensures.answer
