use Rattle.std.proofs.Common.{sym, ◌∙◌}
use Rattle.rt_state.proofs.Going.{server_asks}
use Rattle.rt_state.specs.Requests.{NodeAsksFor}
use Rattle.rt_world.proofs.steps.requests.extend.Goals as goal

pub returns : goal.returns
returns c = (
  c.in_ok-cost.cost,
  sym c.extend_due.ensures ∙ c.in_ok-cost.was,
  server_asks c.args.state.now c.args.instance c.in_ok-cost.cost c.at_mut-node.result.now _ c.at_mut-node.ensures.item
      (NodeAsksFor c.args.partition c.args.sequence c.args.millis) c.in_ok-request.request _ c.in_ok-outcome.outcome _
      c.in_ok-request.ensures.ok (c.in_ok-outcome.ensures {u = tt}) c.spend.ensures,
)
