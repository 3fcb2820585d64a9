use Rattle.rt_nodes.proofs.Upkeeping.{node_whole}
use Rattle.rt_nodes.proofs.controller_node.ControllerNode.keep.Goals as goal

pub step-requires-clause-ready : goal.step-requires-clause-ready
step-requires-clause-ready c = c.requires.ready c.at_mut-upkeep.result.now c.at_mut-upkeep.ensures.item

pub returns-clause-err : goal.returns-clause-err
returns-clause-err c =
    node_whole c.args.self.now c.args.store.now c.args.partition c.at_mut-upkeep.result.now c.step.new.self c.step.new.store c.step.result
    c.at_mut-upkeep.ensures.item c.step.ensures.err
