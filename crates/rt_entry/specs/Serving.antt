-- What is served of an entry for a piece of a plan.
use Rattle.std.specs.Prelude.{◌≡◌, ◌==◌, nat_le, List, if◌then◌else◌, Option, Some, None, Result, Ok, Err, IfSome}
use Rattle.rt_base.specs.declared.numbers.Offset.{Offset}
use Rattle.rt_base.specs.declared.range.Range.{Range}
use Rattle.rt_schema.specs.declared.row.Row.{Row}
use Rattle.rt_mutable.specs.Consuming.{Consuming}
use Rattle.rt_segment.specs.Segment.{SealedSegment, rows_of}
use Rattle.rt_model.specs.declared.piece.Piece.{Piece}
use Rattle.rt_model.specs.declared.query.Query.{Query}
use Rattle.rt_model.specs.Aggregate.{taken}
use Rattle.rt_agg.specs.declared.served.Served.{Served}
use Rattle.rt_agg.specs.Grouped.{Holds}
use Rattle.rt_scan.specs.Scanned.{rows_before, FitsConsuming, FitsSealed}
use Rattle.rt_consumer.specs.declared.phase.Phase.{Phase}
use Rattle.rt_consumer.specs.declared.phase.Phase.TheVariants as phase
use Rattle.rt_entry.specs.declared.entry.Entry.{Entry}
use Rattle.rt_entry.specs.declared.entry.Entry.TheVariants.{Replica, Committed}
use Rattle.rt_entry.specs.declared.refused.ServeRefused.{ServeRefused}
use Rattle.rt_entry.specs.declared.refused.ServeRefused.TheVariants.{NotServed, Memory}
use Rattle.rt_entry.specs.declared.served_rows.ServedRows.{ServedRows}

-- ---- the range that is served

-- a piece whose start isn't the held start isn't served
abbrev pub range_to : Piece → Offset → Offset → Option Offset → Result Range ServeRefused
range_to piece start reached None = Err (NotServed (Some reached))
range_to piece start reached (Some end) =
    if piece.start.0 == start.0 then Ok (record { start = piece.start; end = end }) else Err (NotServed (Some reached))

-- rows by column are served up to the piece's end, where they reach it, or as far as they go
abbrev pub rows_end : Consuming → Option Offset → Option Offset
rows_end rows None = Some rows.end
rows_end rows (Some end) = if nat_le end.0 rows.end.0 then Some end else None

-- sealed rows are served whole
abbrev pub file_end : SealedSegment → Option Offset → Option Offset
file_end file None = Some file.range.end
file_end file (Some end) = if end.0 == file.range.end.0 then Some end else None

abbrev pub rows_range : Piece → Consuming → Result Range ServeRefused
rows_range piece rows = range_to piece rows.start rows.end (rows_end rows piece.end)

abbrev pub file_range : Piece → SealedSegment → Result Range ServeRefused
file_range piece file = range_to piece file.range.start file.range.end (file_end file piece.end)

-- ---- with its rows

abbrev pub served_over : Result Range ServeRefused → (Offset → List Row) → Result ServedRows ServeRefused
served_over (Ok range) rows = Ok (record { range = range; rows = rows range.end })
served_over (Err e) rows = Err e

-- only rows below the end count
abbrev pub serve_rows : Piece → Consuming → Result ServedRows ServeRefused
serve_rows piece rows = served_over (rows_range piece rows) (λ end. rows_before end rows)

abbrev pub serve_file : Piece → SealedSegment → Result ServedRows ServeRefused
serve_file piece file = served_over (file_range piece file) (λ end. rows_of file)

abbrev pub serve_phase : Piece → Phase → Result ServedRows ServeRefused
serve_phase piece (phase.Unsealed o) = serve_rows piece o.rows
serve_phase piece (phase.Retained kept) = serve_file piece kept.file
serve_phase piece (phase.Committed kept) = serve_file piece kept.file
serve_phase piece (phase.Discarded d) = Err (NotServed None)

abbrev pub serve_loaded : Piece → Option SealedSegment → Result ServedRows ServeRefused
serve_loaded piece None = Err (NotServed None)
serve_loaded piece (Some file) = serve_file piece file

abbrev pub serve_entry : Piece → Entry → Result ServedRows ServeRefused
serve_entry piece (Replica r) = serve_phase piece r.phase
serve_entry piece (Committed c) = serve_loaded piece c.file

-- ---- the calls, but that memory may run out

abbrev pub AnswersRows : Result ServedRows ServeRefused → Result ServedRows ServeRefused → Type 0
AnswersRows wanted (Ok answer) = wanted ≡ Ok answer
AnswersRows wanted (Err (NotServed reached)) = wanted ≡ Err (NotServed reached)
AnswersRows wanted (Err Memory) = Unit {0}

-- the range, and the groups of the rows that a query takes
abbrev pub AnswersGroups : Query → Result ServedRows ServeRefused → Result Served ServeRefused → Type 0
AnswersGroups query wanted (Ok answer) =
    (rows : ServedRows) × (wanted ≡ Ok rows) × (answer.range ≡ rows.range) × Holds query (taken query rows.rows) answer.groups
AnswersGroups query wanted (Err (NotServed reached)) = wanted ≡ Err (NotServed reached)
AnswersGroups query wanted (Err Memory) = Unit {0}

-- ---- queries that it can be scanned for

abbrev pub FitsPhase : Query → Phase → Type 0
FitsPhase query (phase.Unsealed o) = FitsConsuming query o.rows
FitsPhase query (phase.Retained kept) = FitsSealed query kept.file
FitsPhase query (phase.Committed kept) = FitsSealed query kept.file
FitsPhase query (phase.Discarded d) = Unit {0}

abbrev pub FitsEntry : Query → Entry → Type 0
FitsEntry query (Replica r) = FitsPhase query r.phase
FitsEntry query (Committed c) = IfSome c.file (FitsSealed query)
