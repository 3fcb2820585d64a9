-- What a query asks of a partition: a piece for each committed segment, and one for the segment in progress.
use Rattle.std.specs.Prelude.{List, [], ◌∷◌, Option, Some, None}
use Rattle.rt_base.specs.declared.numbers.Offset.{Offset}
use Rattle.rt_base.specs.declared.numbers.Partition.{Partition}
use Rattle.rt_model.specs.declared.node.Listed.{Listed}
use Rattle.rt_model.specs.declared.piece.Piece.{Piece}
use Rattle.rt_model.specs.declared.status.Status.{Status}
use Rattle.rt_model.specs.declared.status.Status.TheVariants.{InProgress, Done, Abandoned}

abbrev pub piece_of : Partition → Listed → Option Offset → Piece
piece_of partition node end =
    record { partition = partition; sequence = node.sequence; start = node.seen.meta.start; end = end }

abbrev pub planned : Partition → Listed → Status → List Piece → List Piece
planned partition node InProgress rest = piece_of partition node None ∷ []
planned partition node (Done commit) rest = piece_of partition node (Some commit.end) ∷ rest
planned partition node Abandoned rest = rest

-- the plan over the partition's metadata, by sequence: up to the first segment in progress, abandoned ones left out
abbrev pub plan_of : Partition → List Listed → List Piece
plan_of partition [] = []
plan_of partition (node ∷ nodes) = planned partition node node.seen.meta.status (plan_of partition nodes)
