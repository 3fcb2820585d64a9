use Rattle.std.proofs.Common.{sym, ◌∙◌}
use Rattle.rt_state.proofs.Going.{server_fetches}
use Rattle.rt_state.proofs.NeedsServers.{consume_needs}
use Rattle.rt_world.proofs.steps.replicas.consume.Goals as goal

pub consume-requires-clause-messages : goal.consume-requires-clause-messages
consume-requires-clause-messages c =
    let needs = consume_needs c.args.state.now c.args.instance c.args.partition c.args.sequence c.args.max c.in_ok-cost.cost c.requires (sym c.consume_due.ensures ∙ c.in_ok-cost.was) in
    (needs.2 c.at_mut-node.result.now c.at_mut-node.ensures.item).0

pub returns : goal.returns
returns c = (
  c.in_ok-cost.cost,
  sym c.consume_due.ensures ∙ c.in_ok-cost.was,
  server_fetches c.args.state.now c.args.instance c.in_ok-cost.cost c.at_mut-node.result.now _ c.at_mut-node.ensures.item
      _ _ c.in_ok-outcome.outcome _ c.in_ok-outcome.ensures.ok c.spend.ensures,
)
