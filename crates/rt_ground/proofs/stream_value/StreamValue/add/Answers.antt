use Rattle.rt_ground.proofs.Streams.{append_closed}
use Rattle.rt_ground.proofs.stream_value.StreamValue.add.Goals as goal

pub returns-clause-stream : goal.returns-clause-stream
returns-clause-stream g c =
    (append_closed g.J.Naming.starting.partitions c.args.self.now _ _ _ _ _ c.args.appended.now _ _ _ _ _ c.self.view_is c.self.invariant.1 c.reserve.ensures.same.1 c.as_slice-message.ensures.bytes c.append-answer.ensures c.settle.ensures.settled c.settle.ensures.same).says
