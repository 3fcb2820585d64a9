-- What a view is over the stream, and when an answer over its latest rows is right.
use Rattle.std.specs.Prelude.{◌≡◌, ℕ, List, [], ◌∷◌, ◌++◌, length, map, All, IfSome, Option, Some, None}
use Rattle.std.specs.List.{range_with_len}
use Rattle.rt_base.specs.declared.numbers.Partition.{Partition}
use Rattle.rt_base.specs.declared.range.Range.{Range}
use Rattle.rt_model.specs.Aggregate.{aggregate}
use Rattle.rt_model.specs.RightAnswer.{AskedPiece, IsServed, Routed, missing_of, named_ranges, pieces_of}
use Rattle.rt_model.specs.declared.answer.Answer.{Answer}
use Rattle.rt_model.specs.declared.query.Query.{Query}
use Rattle.rt_schema.specs.Row.{rows_in as rows_of_range}
use Rattle.rt_schema.specs.declared.row.Row.{Row}
use Rattle.rt_schema.specs.declared.schema.Schema.{Schema}
use Rattle.rt_server.specs.LastingRows.{AreRightRows}
use Rattle.rt_stream.specs.Log.{Log, messages_of}
use Rattle.rt_upconf.specs.declared.upsert_config.UpsertConfig.{UpsertConfig}
use Rattle.rt_upsert.specs.Latest.{latest_of, rows_in, start_of}
use Rattle.rt_upsert.specs.Placed.{PlacedRows}
use Rattle.rt_views.specs.Placing.{put_from}
use Rattle.rt_views.specs.Plans.{pieces_now}
use Rattle.rt_views.specs.declared.found.Found.{Found}
use Rattle.rt_views.specs.declared.view.View.{View}
use Rattle.rt_state.specs.declared.state.State.{State}

-- ---- what is found

-- what was found of a piece of a partition, if anything, are the stream's rows: from its start on, and up to its end where it has one
abbrev pub IsStreamed : State → Partition → Found → Type 0
IsStreamed w p f = IfSome f.rows (AreRightRows w.setup.schema (messages_of w.log p) f.piece)

-- each piece of the partition's present plan stands in the view once and in order, and what was found of it is the stream's
pub record IsViewOf (w : State) (v : View) : Type 0 where
  pub pieces : map (λ f. f.piece) v.found ≡ pieces_now w v.partition
  pub streamed : All (IsStreamed w v.partition) v.found

-- ---- the latest rows

-- the stream's rows in the range over which a piece was served; none where it wasn't
abbrev pub streamed : Schema → List (List ℕ) → Option Range → List Row
streamed schema messages None = []
streamed schema messages (Some range) = rows_of_range schema messages range.start.0 range.end.0

-- these rows of all pieces, each at its segment's sequence and its number there
abbrev pub put_streamed : Schema → List (List ℕ) → PlacedRows → List AskedPiece → PlacedRows
put_streamed schema messages held [] = held
put_streamed schema messages held (a ∷ rest) = put_streamed schema messages (put_from a.piece.sequence 0 held (streamed schema messages a.served)) rest

-- the latest of a partition's
abbrev pub latest_streamed : Schema → UpsertConfig → List (List ℕ) → List AskedPiece → List Row
latest_streamed schema config messages pieces = rows_in (latest_of (put_streamed schema messages (start_of schema config) pieces))

-- the latest of each partition's: one key in two partitions is in each
abbrev pub latest_routed : Schema → UpsertConfig → Log → List Routed → List Row
latest_routed schema config log [] = []
latest_routed schema config log (routed ∷ rest) =
    latest_streamed schema config (messages_of log routed.partition) (pieces_of routed.pieces) ++ latest_routed schema config log rest

-- an answer to a query over the latest rows is right for what came of each partition, over a log: it names what was served and
-- what wasn't, and aggregates, partition by partition, the latest rows of the stream in the ranges that were served
pub record IsLatestAnswer (schema : Schema) (config : UpsertConfig) (log : Log) (query : Query) (routed : List Routed) (answer : Answer) : Type 0 where
  pub partitions : map (λ r. r.partition.0) routed ≡ range_with_len 0 (length log)
  pub served : All (IsServed log) routed
  pub ranges : answer.ranges ≡ named_ranges routed
  pub missing : answer.missing ≡ missing_of routed
  pub rows : answer.rows ≡ aggregate query (latest_routed schema config log routed)
