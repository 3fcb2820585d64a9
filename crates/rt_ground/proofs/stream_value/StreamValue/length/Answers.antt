use Rattle.rt_ground.proofs.Streams.{look_closed}
use Rattle.rt_ground.proofs.stream_value.StreamValue.length.Goals as goal

pub returns-clause-looks : goal.returns-clause-looks
returns-clause-looks g c = look_closed g.J.Naming.starting.partitions c.args.self.now _ _ _ _ c.self.view_is c.tell.ensures.log c.tell.ensures.told
