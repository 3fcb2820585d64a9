-- What is kept of a partition's metadata list.
use Rattle.std.specs.Prelude.{Bool, true, false, ◌+◌, ◌==◌, ◌&&◌, ◌||◌, List, [], ◌∷◌, Option, Some, None}
use Rattle.rt_base.specs.declared.numbers.Partition.{Partition}
use Rattle.rt_base.specs.declared.numbers.Sequence.{Sequence}
use Rattle.rt_model.specs.declared.node.Listed.{Listed}
use Rattle.rt_model.specs.declared.status.Status.{Status}
use Rattle.rt_model.specs.declared.status.Status.TheVariants.{InProgress, Done, Abandoned}
use Rattle.rt_model.specs.Metadata.{listed_by, listed_write}
use Rattle.rt_model.specs.Repair.{last_listed}
use Rattle.rt_repair.specs.declared.read_node.ReadNode.{ReadNode}

-- a listed node as the write that it is
abbrev pub read_node : Partition → Listed → ReadNode
read_node p l = record { sequence = l.sequence; seen = listed_write p l }

abbrev pub read_by : Partition → Option Listed → Option ReadNode
read_by p None = None
read_by p (Some l) = Some (read_node p l)

-- and back
abbrev pub listed_again : Option ReadNode → Option Listed
listed_again None = None
listed_again (Some n) = listed_by n.sequence.0 n.seen.version n.seen.node

-- the last node
abbrev pub last_node : Partition → List Listed → Option ReadNode
last_node p nodes = read_by p (last_listed nodes)

abbrev pub is_done : Status → Bool
is_done InProgress = false
is_done (Done commit) = true
is_done Abandoned = false

-- whether the segment before this one is Done
abbrev pub follows_done : List Listed → Sequence → Bool
follows_done [] s = false
follows_done (l ∷ ls) s = ((l.sequence.0 + 1 == s.0) && is_done l.seen.meta.status) || follows_done ls s

abbrev pub follows_by : List Listed → Option Listed → Bool
follows_by nodes None = false
follows_by nodes (Some l) = follows_done nodes l.sequence

-- whether the segment before the last one is Done
abbrev pub last_follows : List Listed → Bool
last_follows nodes = follows_by nodes (last_listed nodes)

-- the first node, where it isn't the last
abbrev pub lowest_listed : List Listed → Option Listed
lowest_listed [] = None
lowest_listed (l ∷ []) = None
lowest_listed (l ∷ m ∷ ls) = Some l

abbrev pub lowest_node : Partition → List Listed → Option ReadNode
lowest_node p nodes = read_by p (lowest_listed nodes)
