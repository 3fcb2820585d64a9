use Rattle.std.proofs.Common.{rules}
use Rattle.std.proofs.lemmas.List.Sorted.{IsPartitionPoint-from_clause}
use Rattle.rt_dict.proofs.Ascending.{partitioned_below}
use Rattle.rt_dict.proofs.dict.count_below.Goals as goal

pub returns-clause-split : goal.returns-clause-split
returns-clause-split g c =
    IsPartitionPoint-from_clause (λ x. g.K.Key.below x c.args.key.now) _ _ c.partition_point.ensures.partitioned
    (partitioned_below g.met.K.Key.order _ c.requires c.args.key.now)
    (λ a r f' k. search rules)
