-- How far a partition is committed, as a history of the store tells it: up to the greatest end of its Done writes.
use Rattle.std.specs.Prelude.{ℕ, max, fold, List, map, if◌then◌else◌}
use Rattle.std.specs.List.{range_with_len}
use Rattle.rt_base.specs.declared.numbers.Offset.{Offset}
use Rattle.rt_base.specs.declared.numbers.Partition.{Partition}
use Rattle.rt_model.specs.Chain.{is_node_of}
use Rattle.rt_model.specs.declared.node.Node.{Node}
use Rattle.rt_model.specs.declared.node.Node.TheVariants as node
use Rattle.rt_model.specs.declared.node.Seen.{Seen}
use Rattle.rt_model.specs.declared.status.Status.{Status}
use Rattle.rt_model.specs.declared.status.Status.TheVariants.{InProgress, Done, Abandoned}

-- the end of a commit; 0 where none was
abbrev pub status_end : Status → ℕ
status_end InProgress = 0
status_end (Done commit) = commit.end.0
status_end Abandoned = 0

abbrev pub node_end : Node → ℕ
node_end (node.Meta m) = status_end m.status
node_end (node.Ideal i) = 0
node_end node.Boot = 0
node_end node.Gone = 0

abbrev pub end_by : Partition → Seen → ℕ
end_by p w = if is_node_of p w.key then node_end w.node else 0

-- one write further
abbrev pub end_after : Partition → ℕ → Seen → ℕ
end_after p end w = max end (end_by p w)

abbrev pub committed_end : List Seen → Partition → ℕ
committed_end h p = fold (end_after p) 0 h

abbrev pub end_in : List Seen → ℕ → Offset
end_in h p = record { 0 = committed_end h (record { 0 = p }) }

-- and so of each partition
abbrev pub ends_in : ℕ → List Seen → List Offset
ends_in partitions h = map (end_in h) (range_with_len 0 partitions)
