use Rattle.std.proofs.Common.{Some, sym, ap, ◌∙◌}
use Rattle.rt_state.proofs.Asking.{piece_noted}
use Rattle.rt_state.proofs.NeedsQueries.{piece_needs}
use Rattle.rt_world.proofs.steps.queries.piece.Goals as goal

pub note_answer-requires-clause-fits : goal.note_answer-requires-clause-fits
note_answer-requires-clause-fits c =
    let needs = piece_needs c.args.state.now c.args.query c.args.partition c.args.sequence c.args.instance c.in_ok-cost.cost c.requires
    (sym c.piece_due.ensures ∙ c.in_ok-cost.was) in
    needs.0.fits c.in_ok-piece.piece c.in_ok-piece.got (c.in_ok-piece.ensures {u = tt})

pub note_answer-requires-clause-due : goal.note_answer-requires-clause-due
note_answer-requires-clause-due c =
    let needs = piece_needs c.args.state.now c.args.query c.args.partition c.args.sequence c.args.instance c.in_ok-cost.cost c.requires
    (sym c.piece_due.ensures ∙ c.in_ok-cost.was) in
    needs.0.due c.in-Some.asked c.in_ok-piece.piece c.in_ok-piece.got (c.at_mut.ensures.item ∙ ap (λ o. Some o) c.in-Some.is) (c.in_ok-piece.ensures {u = tt})

pub returns-in-Ok : goal.returns-in-Ok
returns-in-Ok c = (
  c.in_ok-cost.cost,
  sym c.piece_due.ensures ∙ c.in_ok-cost.was,
  piece_noted c.args.state.now c.args.query c.args.partition c.args.sequence c.args.instance c.in_ok-cost.cost c.in-Some.asked _ c.in_ok-piece.piece c.in_ok-piece.got
      (c.at_mut.ensures.item ∙ ap (λ o. Some o) c.in-Some.is) (c.in_ok-piece.ensures {u = tt}) c.in-Ok.ensures.ok
      _ _ c.piece_outcome-outcome.ensures c.spend.ensures,
)
