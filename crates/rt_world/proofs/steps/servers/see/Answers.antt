use Rattle.std.proofs.Common.{sym, ◌∙◌}
use Rattle.rt_state.proofs.Going.{server_calls}
use Rattle.rt_world.proofs.steps.servers.see.Goals as goal

pub returns : goal.returns
returns c = (
  c.in_ok-cost.cost,
  sym c.see_due.ensures ∙ c.in_ok-cost.was,
  server_calls c.args.state.now c.args.instance c.in_ok-cost.cost c.at_mut-node.result.now _ c.at_mut-node.ensures.item
      _ _ c.in_ok-outcome.outcome _ c.in_ok-outcome.ensures.ok c.spend.ensures,
)
