-- A generated run: `gen SEED PARTITIONS ROWS`. Rows are produced, the cluster settles, and a query is asked; then it is told how
-- far each partition is committed, and the answer.
use Rattle.std.specs.Prelude.{◌≡◌, ◌⊎◌, ℕ, zero, suc, ◌+◌, ◌*◌, ◌/◌, ◌%◌, ◌^◌, false, List, [], ◌∷◌, ◌++◌, Option, None, Some, Result, Ok, Err, codes, decimal, nat_le, ◌&&◌, if◌then◌else◌}
use Rattle.rt_base.specs.declared.limits.TheConstants.{MOST_PARTITIONS, MOST_ROWS}
use Rattle.rt_base.specs.declared.which.Which.TheVariants.{Partitions, Rows}
use Rattle.rt_base.specs.Sink.{SinkMeaning}
use Rattle.rt_events.specs.declared.event.Event.TheVariants.{Produce}
use Rattle.rt_events.specs.declared.refusal.Refusal.{Refusal}
use Rattle.rt_events.specs.declared.refusal.Refusal.TheVariants.{NothingToDo}
use Rattle.rt_lines.specs.Header.{NumberedLine, header_of}
use Rattle.rt_lines.specs.Lines.{script_lines}
use Rattle.rt_lines.specs.declared.play_fault.PlayFault.{PlayFault}
use Rattle.rt_lines.specs.declared.play_fault.PlayFault.TheVariants.{Limit}
use Rattle.rt_macros.specs.Doing.{Act, EachFrom, Gives, Passed, Reached, Refuses, Then}
use Rattle.rt_macros.specs.Querying.{QueryTold}
use Rattle.rt_macros.specs.Settling.{Settles}
use Rattle.rt_macros.specs.declared.settling.TheConstants.{MOST_ROUNDS}
use Rattle.rt_model.specs.declared.query.Query.{Query}
use Rattle.rt_model.specs.declared.setup.Setup.{Setup}
use Rattle.rt_play.specs.Plays.{Tells}
use Rattle.rt_play.specs.Report.{Report, fault_at, stopped}
use Rattle.rt_play.specs.declared.generating.Generated.{Generated}
use Rattle.rt_play.specs.declared.play_end.PlayEnd.{PlayEnd}
use Rattle.rt_report.specs.MacroTexts.{end_text}
use Rattle.rt_script.specs.Line.{line_in}
use Rattle.rt_script.specs.declared.line.Line.{Line}
use Rattle.rt_script.specs.declared.line.Line.TheVariants as line
use Rattle.rt_script.specs.declared.line.Macro.TheVariants as macro
use Rattle.rt_world.specs.Reading.{end_in}
use Rattle.rt_state.specs.Start.{start}
use Rattle.rt_state.specs.declared.state.State.{State}

-- ---- the cluster

abbrev pub schema_line : List ℕ
schema_line = codes "schema {\"schemaName\":\"t\",\"dimensionFieldSpecs\":[{\"name\":\"k\",\"dataType\":\"STRING\"}],\"metricFieldSpecs\":[{\"name\":\"v\",\"dataType\":\"LONG\"}]}\n"

abbrev pub table_line : List ℕ
table_line = codes "table {\"tableName\":\"t\",\"tableType\":\"REALTIME\",\"segmentsConfig\":{\"replication\":\"2\"},\"tableIndexConfig\":{\"invertedIndexColumns\":[\"k\"],\"streamConfigs\":{\"realtime.segment.flush.threshold.rows\":\"1000\",\"realtime.segment.flush.threshold.time\":\"1h\"}}}\n"

abbrev pub cluster_line : ℕ → List ℕ
cluster_line partitions = codes "cluster servers=3 controllers=2 partitions=" ++ (decimal partitions ++ codes " start=1700000000000 grace=0\n")

-- the header of a generated run
abbrev pub header_text : ℕ → List ℕ
header_text partitions = (schema_line ++ table_line) ++ cluster_line partitions

abbrev pub setup_read : Result (Setup × List NumberedLine) PlayFault → Result Setup PlayFault
setup_read (Ok x) = Ok x.0
setup_read (Err why) = Err why

-- the cluster, or the first limit that is passed
abbrev pub generated_setup : Generated → Result Setup PlayFault
generated_setup asked =
    if nat_le 1 asked.partitions && nat_le asked.partitions MOST_PARTITIONS
    then (if nat_le asked.rows MOST_ROWS then setup_read (header_of (script_lines (header_text asked.partitions))) else Err (Limit Rows))
    else Err (Limit Partitions)

-- ---- the rows

-- the generator
abbrev pub next_number : ℕ → ℕ
next_number x = (x * 6364136223846793005 + 1442695040888963407) % 2 ^ 64

-- the row of a number: of its upper bits, the last four choose the key, and those above them the value
abbrev pub row_of_top : ℕ → List ℕ
row_of_top top = codes "{\"k\":\"k" ++ (decimal (top % 16) ++ (codes "\",\"v\":" ++ (decimal (top / 16 % 1000) ++ codes "}")))

abbrev pub row_text : ℕ → List ℕ
row_text x = row_of_top (x / 8589934592)

-- a row comes to the partition of its place, and its number is noted
abbrev pub ProducesRow : ℕ → ℕ → ℕ → Act ℕ
ProducesRow partitions at x w =
    Then (Passed (Produce (record { 0 = at % partitions }) (row_text (next_number x)))) (λ done. Gives (next_number x)) w

abbrev pub ProducesRows : Generated → Act ℕ
ProducesRows asked w = EachFrom (ProducesRow asked.partitions) 0 asked.rows asked.seed w

-- ---- the query

abbrev pub generated_query : List ℕ
generated_query = codes "query SELECT k, COUNT(*), SUM(v) FROM t GROUP BY k LIMIT 16"

abbrev pub query_said : Option Line → Option Query
query_said None = None
query_said (Some (line.Macro (macro.Query query))) = Some query
query_said (Some other) = None

abbrev pub AsksQuery : Option Query → Act (List ℕ)
AsksQuery (Some query) w = QueryTold query w
AsksQuery None w = Refuses NothingToDo w

abbrev pub Asks : Act (List ℕ)
Asks w = AsksQuery (query_said (line_in w.setup generated_query)) w

-- ---- the run

abbrev pub SettlesAndAsks : Act (List ℕ)
SettlesAndAsks w = Then (Settles false MOST_ROUNDS) (λ quiet. Asks) w

-- the rows are produced, the cluster settles, and the line of the query's answer is told
abbrev pub RunsGenerated : Generated → Act (List ℕ)
RunsGenerated asked w = Then (ProducesRows asked) (λ x. SettlesAndAsks) w

-- ---- the report

-- how far so many partitions are committed, from one on
abbrev pub end_texts : State → ℕ → ℕ → List (List ℕ)
end_texts w at zero = []
end_texts w at (suc count) = end_text (record { 0 = at }) (end_in w (record { 0 = at })) ∷ end_texts w (at + 1) count

abbrev pub report_texts : ℕ → State → List ℕ → List (List ℕ)
report_texts partitions w answer = end_texts w 0 partitions ++ answer ∷ []

abbrev pub report_by : ℕ → State → Result (List ℕ) Refusal → Report
report_by partitions w (Ok answer) = record { texts = report_texts partitions w answer; stop = None }
report_by partitions w (Err refusal) = stopped (fault_at 0 refusal)

pub record IsGeneratedFrom (asked : Generated) (setup : Setup) (report : Report) : Type 0 where
  pub last : Reached
  pub told : Result (List ℕ) Refusal
  pub run : RunsGenerated asked (start setup) last told
  pub same : report ≡ report_by asked.partitions last.world told

abbrev pub IsGeneratedBy : Generated → Result Setup PlayFault → Report → Type 0
IsGeneratedBy asked (Ok setup) report = IsGeneratedFrom asked setup report
IsGeneratedBy asked (Err why) report = report ≡ stopped why

-- the report of a generated run
abbrev pub IsGenerated : Generated → Report → Type 0
IsGenerated asked report = IsGeneratedBy asked (generated_setup asked) report

-- the first lines of a report
pub record Begins (Is : Report → Type 0) (texts : List (List ℕ)) : Type 0 where
  pub report : Report
  pub rest : List (List ℕ)
  pub is : Is report
  pub whole : report.texts ≡ texts ++ rest

-- or none of them, where memory ran out before the run's end
abbrev pub FrontBy : (Report → Type 0) → List (List ℕ) → Type 0
FrontBy Is texts = (texts ≡ []) ⊎ Begins Is texts

-- what a generated run writes, by its answer
abbrev pub TellsGenerated : Generated → SinkMeaning → SinkMeaning → Result PlayEnd PlayFault → Type 0
TellsGenerated asked old new result = Tells (IsGenerated asked) (FrontBy (IsGenerated asked)) old new result
