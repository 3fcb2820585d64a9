-- When an answer is right: it names what was served and what wasn't, and aggregates each row of the ranges that it names once.
use Rattle.std.specs.Prelude.{◌≡◌, ◌≤◌, ℕ, List, [], ◌∷◌, ◌++◌, length, map, All, Option, Some, None, option_to_list, ◌==◌, if◌then◌else◌, slice_index_or}
use Rattle.std.specs.List.{range_with_len}
use Rattle.rt_base.specs.declared.numbers.Partition.{Partition}
use Rattle.rt_base.specs.declared.numbers.Sequence.{Sequence}
use Rattle.rt_base.specs.declared.range.Range.{Range}
use Rattle.rt_schema.specs.declared.row.Row.{Row}
use Rattle.rt_schema.specs.declared.schema.Schema.{Schema}
use Rattle.rt_schema.specs.Row.{rows_between}
use Rattle.rt_model.specs.declared.answer.Answer.{Answer}
use Rattle.rt_model.specs.declared.piece.Piece.{Piece}
use Rattle.rt_model.specs.declared.query.Query.{Query}
use Rattle.rt_model.specs.Aggregate.{aggregate}

-- a piece of a plan that was asked for, and the range over which it was served, if it was
pub record AskedPiece : Type 0 where
  pub piece : Piece
  pub served : Option Range

-- a partition, and the pieces of its plan, if it could be routed
pub record Routed : Type 0 where
  pub partition : Partition
  pub pieces : Option (List AskedPiece)

abbrev pub pieces_of : Option (List AskedPiece) → List AskedPiece
pieces_of None = []
pieces_of (Some pieces) = pieces

abbrev pub served_ranges : List AskedPiece → List Range
served_ranges [] = []
served_ranges (a ∷ rest) = option_to_list a.served ++ served_ranges rest

-- a range before others that are merged already: it grows into the one that begins where it ends
abbrev pub joined : Range → List Range → List Range
joined r [] = r ∷ []
joined r (s ∷ rest) =
    if r.end.0 == s.start.0 then record { start = r.start; end = s.end } ∷ rest else r ∷ (s ∷ rest)

-- ranges in order as maximal ones, empty ones dropped
abbrev pub merged : List Range → List Range
merged [] = []
merged (r ∷ rest) = if r.start.0 == r.end.0 then merged rest else joined r (merged rest)

abbrev pub named_in : Routed → List (Partition × Range)
named_in routed = map (λ r. (routed.partition, r)) (merged (served_ranges (pieces_of routed.pieces)))

-- the ranges that an answer names
abbrev pub named_ranges : List Routed → List (Partition × Range)
named_ranges [] = []
named_ranges (routed ∷ rest) = named_in routed ++ named_ranges rest

abbrev pub missing_if : Partition → Piece → Option Range → List (Partition × Option Sequence)
missing_if partition piece None = (partition, Some piece.sequence) ∷ []
missing_if partition piece (Some range) = []

abbrev pub unserved : Partition → List AskedPiece → List (Partition × Option Sequence)
unserved partition [] = []
unserved partition (a ∷ rest) = missing_if partition a.piece a.served ++ unserved partition rest

abbrev pub missing_in : Partition → Option (List AskedPiece) → List (Partition × Option Sequence)
missing_in partition None = (partition, None) ∷ []
missing_in partition (Some pieces) = unserved partition pieces

-- each piece that isn't served, and each partition that couldn't be routed
abbrev pub missing_of : List Routed → List (Partition × Option Sequence)
missing_of [] = []
missing_of (routed ∷ rest) = missing_in routed.partition routed.pieces ++ missing_of rest

-- served ranges come in order, so that no offset lies in two
abbrev pub AreInOrder : ℕ → List Range → Type 0
AreInOrder from [] = Unit {0}
AreInOrder from (r ∷ rest) = (from ≤ r.start.0) × (r.start.0 ≤ r.end.0) × AreInOrder r.end.0 rest

-- a partition's served ranges are in order, within its messages
pub record IsServed (log : List (List (List ℕ))) (routed : Routed) : Type 0 where
  pub in_order : AreInOrder 0 (served_ranges (pieces_of routed.pieces))
  pub within : All (λ r. r.end.0 ≤ length (slice_index_or log routed.partition.0 [])) (served_ranges (pieces_of routed.pieces))

-- the rows of named ranges, by partition and start
abbrev pub rows_of : Schema → List (List (List ℕ)) → List (Partition × Range) → List Row
rows_of schema log [] = []
rows_of schema log (r ∷ rest) = rows_between schema log r.0.0 r.1.start.0 r.1.end.0 ++ rows_of schema log rest

-- an answer to a query is right for what came of each partition, over a log. The partitions are all those of the log,
-- each once and in order, so that no offset is named or counted twice
pub record IsRightAnswer (schema : Schema) (log : List (List (List ℕ))) (query : Query) (routed : List Routed) (answer : Answer) : Type 0 where
  pub partitions : map (λ r. r.partition.0) routed ≡ range_with_len 0 (length log)
  pub served : All (IsServed log) routed
  pub ranges : answer.ranges ≡ named_ranges routed
  pub missing : answer.missing ≡ missing_of routed
  pub rows : answer.rows ≡ aggregate query (rows_of schema log answer.ranges)
