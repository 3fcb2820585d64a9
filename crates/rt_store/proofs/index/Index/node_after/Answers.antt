use Rattle.std.proofs.Common.{◌+◌, Option, sym, subst}
use Rattle.std.specs.declared.ops.Bound.TheVariants.{Excluded}
use Rattle.rt_base.specs.declared.numbers.Sequence.{Sequence}
use Rattle.rt_model.specs.declared.node.Key.TheVariants.{Meta}
use Rattle.rt_store.specs.Index.{IsNext}
use Rattle.rt_store.proofs.Nodes.{starts_after, next_some}
use Rattle.rt_store.proofs.index.Index.node_after.Goals as goal

pub returns-in-Some : goal.returns-in-Some
returns-in-Some c =
    subst (λ (o : Option Sequence). IsNext c.args.self.now.present c.args.partition (c.args.sequence.0 + 1) o) (sym c.sequence_in.ensures.sequence)
    (next_some c.args.self.now.present c.args.partition (Excluded (Meta c.args.partition c.args.sequence)) c.past_nodes.result (c.args.sequence.0 + 1) c.range.result _ c.in-Some.key.now
    (starts_after c.args.partition c.args.sequence) c.past_nodes.ensures (c.range.ensures.in_range tt) c.in-Some.ensures.steps c.sequence_in.ensures.small)
