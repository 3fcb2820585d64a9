use Rattle.std.proofs.Common.{sym, ◌∙◌}
use Rattle.rt_state.proofs.Asking.{query_answered}
use Rattle.rt_state.proofs.NeedsQueries.{answer_needs}
use Rattle.rt_world.proofs.steps.queries.answer.Goals as goal

pub returns : goal.returns
returns c =
    let w = c.args.state.now in
    let q = c.args.query in
    let cost = c.in_ok-cost.cost in
    let due = sym c.answer_due.ensures ∙ c.in_ok-cost.was in
    let needs = answer_needs w q cost c.requires due in
    let answer = c.in_ok-answer.ensures needs.0.0 needs.0.1 in
    (cost, due, query_answered w q cost needs.0.0 c.in_ok-answer.answer _ _ _ needs.0.1 answer c.take.ensures.after c.close_query.ensures c.spend.ensures)
