use Rattle.std.proofs.Common.{rules}
use Rattle.std.specs.Prelude.{not}
use Rattle.std.proofs.lemmas.List.Sorted.{IsPartitionPoint-from_clause}
use Rattle.std.proofs.lemmas.Bool.{not-true, not-false}
use Rattle.rt_dict.proofs.Ascending.{partitioned_up_to}
use Rattle.rt_dict.proofs.dict.count_up_to.Goals as goal

pub returns-clause-split : goal.returns-clause-split
returns-clause-split g c =
    let split = IsPartitionPoint-from_clause (λ x. not (g.K.Key.below c.args.key.now x)) _ _ c.partition_point.ensures.partitioned
    (partitioned_up_to g.met.K.Key.order _ c.requires c.args.key.now)
    (λ a r f' k. search rules) in
    (λ k d low high. not-true _ (split.0 k d low high), λ k d low high. not-false _ (split.1 k d low high))
