-- How a script begins: its cluster and its desk, by its header.
use Rattle.std.specs.Prelude.{ℕ, List, Option, None, Some, Result, Ok, Err}
use Rattle.rt_desk.specs.IsDesk.{first_desk}
use Rattle.rt_desk.specs.declared.desk.Desk.{Desk}
use Rattle.rt_hybrid.specs.Table.{OfflineTable, start_of}
use Rattle.rt_lines.specs.Header.{NumberedLine, TableSaid, numbered_fault, setup_in, tables_of, then_ok}
use Rattle.rt_lines.specs.Lines.{ScriptLines}
use Rattle.rt_lines.specs.declared.line_reason.LineReason.TheVariants as reason
use Rattle.rt_lines.specs.declared.play_fault.PlayFault.{PlayFault}
use Rattle.rt_model.specs.declared.setup.Setup.{Setup}
use Rattle.rt_play.specs.Going.{Going}
use Rattle.rt_play.specs.declared.beginning.Beginning.{Beginning}
use Rattle.rt_schema.specs.declared.schema.Schema.{Schema}
use Rattle.rt_upconf.specs.Refused.{number_of}
use Rattle.rt_upconf.specs.Upsert.{time_column_of, upsert_of}
use Rattle.rt_upconf.specs.declared.upsert_config.UpsertConfig.{UpsertConfig}
use Rattle.rt_upconf.specs.declared.upsert_refused.UpsertRefused.{UpsertRefused}
use Rattle.rt_state.specs.Start.{start}

-- the hybrid table of the settings' time column, where it fits
abbrev pub hybrid_by : Schema → Option (List ℕ) → Option OfflineTable
hybrid_by schema None = None
hybrid_by schema (Some name) = start_of schema name

-- upsert settings are refused at the table line
abbrev pub desk_by : TableSaid → Result (Option UpsertConfig) UpsertRefused → Result Desk PlayFault
desk_by said (Ok upsert) = Ok (first_desk upsert (hybrid_by said.schema (time_column_of said.table_text)))
desk_by said (Err why) = Err (numbered_fault reason.Upsert said.line (number_of why))

abbrev pub desk_of : TableSaid → Result Desk PlayFault
desk_of said = desk_by said (upsert_of said.schema said.schema_text said.table_text)

abbrev pub with_desk : Desk → Result (Setup × List NumberedLine) PlayFault → Result (Beginning × List NumberedLine) PlayFault
with_desk desk (Ok x) = Ok (record { setup = x.0; desk = desk }, x.1)
with_desk desk (Err why) = Err why

-- behind what the first two lines say
abbrev pub beginning_behind : TableSaid → ScriptLines → Result (Beginning × List NumberedLine) PlayFault
beginning_behind said script = then_ok (desk_of said) (λ desk. with_desk desk (setup_in said script))

-- the cluster and the desk of a script, with the lines behind its header; or why it is refused
abbrev pub beginning_of : ScriptLines → Result (Beginning × List NumberedLine) PlayFault
beginning_of script = then_ok (tables_of script) (λ said. beginning_behind said.0 (record { lines = said.1; after = script.after }))

-- the first world, and the desk beside it
abbrev pub going_from : Beginning → Going
going_from x = record { world = start x.setup; desk = x.desk }
