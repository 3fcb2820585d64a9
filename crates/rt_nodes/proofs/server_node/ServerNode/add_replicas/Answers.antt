use Rattle.std.proofs.Common.{length, take, ap, ◌∙◌}
use Rattle.rt_nodes.proofs.SeenReplicas.{earlier_kept, one_seen, still_longer}
use Rattle.rt_nodes.proofs.server_node.ServerNode.add_replicas.Goals as goal

pub loop-segment-preserved : goal.loop-segment-preserved
loop-segment-preserved c = (
  one_seen c.args.instance c.args.self.now.server.table c.loop-segment.seen c.add_replica.new.seen _ c.as_slice-segment-items.result.now c.loop-segment.segment-index _
      c.loop-segment-test.true c.loop-segment.invariant.0 c.in-Ok.ensures.ok,
  still_longer c.args.seen.now c.loop-segment.seen c.add_replica.new.seen _ c.loop-segment.invariant.1 c.in-Ok.ensures.ok,
)

pub returns-in-Err-clause-err : goal.returns-in-Err-clause-err
returns-in-Err-clause-err c =
    c.truncate.ensures ∙ ap (λ n. take n c.add_replica.new.seen) c.len-before.ensures ∙ ap (λ xs. take (length c.args.seen.now) xs) c.in-Err.ensures.err
    ∙ earlier_kept c.args.seen.now c.loop-segment.seen _ _ c.loop-segment.invariant.1 c.loop-segment.invariant.0
