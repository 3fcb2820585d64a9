use Rattle.std.proofs.Common.{Option, sym, subst}
use Rattle.std.specs.declared.ops.Bound.TheVariants.{Included}
use Rattle.rt_base.specs.declared.numbers.Sequence.{Sequence}
use Rattle.rt_model.specs.declared.node.Key.TheVariants.{Meta}
use Rattle.rt_store.specs.Index.{IsNext}
use Rattle.rt_store.proofs.Nodes.{zeroth, starts_first, next_some}
use Rattle.rt_store.proofs.index.Index.first_node.Goals as goal

pub returns-in-Some : goal.returns-in-Some
returns-in-Some c =
    subst (λ (o : Option Sequence). IsNext c.args.self.now.present c.args.partition 0 o) (sym c.sequence_in.ensures.sequence)
    (next_some c.args.self.now.present c.args.partition (Included (Meta c.args.partition zeroth)) c.past_nodes.result 0 c.range.result _ c.in-Some.key.now
    (starts_first c.args.partition) c.past_nodes.ensures (c.range.ensures.in_range tt) c.in-Some.ensures.steps c.sequence_in.ensures.small)
