use Rattle.std.proofs.Common.{ℕ, ◌+◌, ◌<◌, ◌^◌, length, sym, ap, subst, ◌∙◌}
use Rattle.rt_state.proofs.Leading.{node_kept}
use Rattle.rt_state.proofs.NeedsNodes.{chore_needs}
use Rattle.rt_state.specs.Room.{with_set}
use Rattle.rt_state.specs.declared.counts.Counts.{Counts}
use Rattle.rt_world.proofs.KeepsJobs.{set_counted}
use Rattle.rt_world.proofs.steps.repairs.keep.Goals as goal

pub keep-requires-clause-ready : goal.keep-requires-clause-ready
keep-requires-clause-ready c =
    let needs = chore_needs c.args.state.now c.args.controller c.args.partition c.args.chore c.in_ok-cost.cost c.requires (sym c.chore_due.ensures ∙ c.in_ok-cost.was) in
    (needs.4 c.at_mut-node.result.now c.at_mut-node.ensures.item).1

pub note_set-requires : goal.note_set-requires
note_set-requires c =
    (chore_needs c.args.state.now c.args.controller c.args.partition c.args.chore c.in_ok-cost.cost c.requires (sym c.chore_due.ensures ∙ c.in_ok-cost.was)).5.3

pub spend-requires-clause-uploads : goal.spend-requires-clause-uploads
spend-requires-clause-uploads c =
    let w = c.args.state.now in
    let cost = c.in_ok-cost.cost in
    let needs = chore_needs w c.args.controller c.args.partition c.args.chore cost c.requires (sym c.chore_due.ensures ∙ c.in_ok-cost.was) in
    let set = set_counted w.counts cost (length c.history-before.result.now) (length c.history.result.now) in
    subst (λ (n : ℕ). n + cost.uploads < 2 ^ 64) (sym (ap (λ (k : Counts). k.uploads) c.note_set.ensures ∙ set.uploads)) needs.5.1

pub spend-requires-clause-queries : goal.spend-requires-clause-queries
spend-requires-clause-queries c =
    let w = c.args.state.now in
    let cost = c.in_ok-cost.cost in
    let needs = chore_needs w c.args.controller c.args.partition c.args.chore cost c.requires (sym c.chore_due.ensures ∙ c.in_ok-cost.was) in
    let set = set_counted w.counts cost (length c.history-before.result.now) (length c.history.result.now) in
    subst (λ (n : ℕ). n + cost.queries < 2 ^ 64) (sym (ap (λ (k : Counts). k.unanswered) c.note_set.ensures ∙ set.unanswered)) needs.5.2

pub returns : goal.returns
returns c =
    let w = c.args.state.now in
    let cost = c.in_ok-cost.cost in
    let notes =
    c.note_set.ensures ∙ ap (λ writes. with_set w.counts cost (length writes) (length c.history.result.now)) c.history-before.ensures
    ∙ ap (λ writes. with_set w.counts cost (length w.store.writes) (length writes)) c.history.ensures in (
      cost,
      sym c.chore_due.ensures ∙ c.in_ok-cost.was,
      node_kept w c.args.controller c.args.partition c.args.chore cost c.at_mut-node.result.now _ _ c.in_ok-outcome.outcome _ _
          c.at_mut-node.ensures.item c.in_ok-outcome.ensures.ok notes c.spend.ensures,
    )
