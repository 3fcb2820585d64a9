use Rattle.std.proofs.Common.{rules, nat_lt}
use Rattle.std.proofs.lemmas.List.Sorted.{IsPartitionPoint-from_clause}
use Rattle.rt_mutable.proofs.Below.{partitioned}
use Rattle.rt_mutable.proofs.mutable_segment.count_below.Goals as goal

pub returns-clause-split : goal.returns-clause-split
returns-clause-split c =
    IsPartitionPoint-from_clause (λ held. nat_lt held.0 c.args.offset.0) c.args.offsets.now _ c.partition_point.ensures.partitioned
    (partitioned c.args.offsets.now c.args.offset c.requires)
    (λ a r f' k. search rules)
