-- The header of a script: its schema line, its table line and its cluster line.
use Rattle.std.specs.Prelude.{◌≡◌, ℕ, List, [], ◌∷◌, Option, None, Some, Result, Ok, Err, codes, if◌then◌else◌}
use Rattle.std.specs.Str.{is_utf8}
use Rattle.rt_base.specs.declared.which.Which.{Which}
use Rattle.rt_schema.specs.declared.schema.Schema.{Schema}
use Rattle.rt_schema.specs.declared.table.Table.{Table}
use Rattle.rt_schema.specs.declared.schema_refused.SchemaRefused.{SchemaRefused}
use Rattle.rt_schema.specs.Refused.{number_of}
use Rattle.rt_schema.specs.Schema.{IsSchema}
use Rattle.rt_schema.specs.SchemaText.{schema_of}
use Rattle.rt_schema.specs.TableText.{table_of, IsTable}
use Rattle.rt_model.specs.declared.setup.Setup.{Setup}
use Rattle.rt_lines.specs.declared.cluster.Cluster.{Cluster}
use Rattle.rt_lines.specs.declared.line_reason.LineReason.{LineReason}
use Rattle.rt_lines.specs.declared.line_reason.LineReason.TheVariants.{BadLine, Schema as BadSchema, Table as BadTable}
use Rattle.rt_lines.specs.declared.play_fault.PlayFault.{PlayFault}
use Rattle.rt_lines.specs.declared.play_fault.PlayFault.TheVariants.{Usage, Refused, ReadFault, WriteFault, Memory, Limit}
use Rattle.rt_lines.specs.Cluster.{cluster_of, cluster_fault}
use Rattle.rt_lines.specs.Lines.{ScriptLines}
use Rattle.rt_lines.specs.Words.{then_some, after_prefix}

-- a line with its number
abbrev pub NumberedLine : Type 0
NumberedLine = ℕ × List ℕ

abbrev pub then_ok : {A B : Type 0} → Result A PlayFault → (A → Result B PlayFault) → Result B PlayFault
then_ok (Ok x) f = f x
then_ok (Err fault) f = Err fault

-- a refusal by its number, or want of memory, which has none
abbrev pub numbered_fault : (ℕ → LineReason) → ℕ → Option ℕ → PlayFault
numbered_fault reason line (Some number) = Refused line (reason number)
numbered_fault reason line None = Memory

-- the fault of a text that its reader refuses
abbrev pub refused_by : (ℕ → LineReason) → ℕ → SchemaRefused → PlayFault
refused_by reason line why = numbered_fault reason line (number_of why)

abbrev pub if_taken : {A : Type 0} → (ℕ → LineReason) → ℕ → Result A SchemaRefused → Result A PlayFault
if_taken reason line (Ok x) = Ok x
if_taken reason line (Err why) = Err (refused_by reason line why)

-- the text behind a line's first word, in UTF-8
abbrev pub text_behind : List ℕ → List ℕ → Option (List ℕ)
text_behind word line = then_some (after_prefix word line) (λ text. if is_utf8 text then Some text else None)

abbrev pub if_well_formed : {A B : Type 0} → ℕ → Option A → (A → Result B PlayFault) → Result B PlayFault
if_well_formed line None f = Err (Refused line BadLine)
if_well_formed line (Some x) f = f x

-- what a schema line says, with its text
pub record SchemaSaid : Type 0 where
  pub schema : Schema
  pub text : List ℕ

abbrev pub schema_said : List ℕ → Result Schema SchemaRefused → Result SchemaSaid SchemaRefused
schema_said text (Ok schema) = Ok (record { schema = schema; text = text })
schema_said text (Err why) = Err why

-- `schema TEXT`
abbrev pub schema_at : NumberedLine → Result SchemaSaid PlayFault
schema_at line = if_well_formed line.0 (text_behind (codes "schema ") line.1) (λ text. if_taken BadSchema line.0 (schema_said text (schema_of text)))

-- what the schema line and the table line say, with their texts and the number of the table line
pub record TableSaid : Type 0 where
  pub schema : Schema
  pub table : Table
  pub schema_text : List ℕ
  pub table_text : List ℕ
  pub line : ℕ

abbrev pub table_said : SchemaSaid → ℕ → List ℕ → Result Table SchemaRefused → Result TableSaid SchemaRefused
table_said said line text (Ok table) = Ok (record {
  schema = said.schema;
  table = table;
  schema_text = said.text;
  table_text = text;
  line = line;
})
table_said said line text (Err why) = Err why

-- `table TEXT`
abbrev pub table_at : SchemaSaid → NumberedLine → Result TableSaid PlayFault
table_at said line =
    if_well_formed line.0 (text_behind (codes "table ") line.1) (λ text. if_taken BadTable line.0 (table_said said line.0 text (table_of said.schema text)))

abbrev pub setup_of : Schema → Table → Cluster → Setup
setup_of schema table c = record {
  schema = schema;
  table = table;
  servers = c.servers;
  controllers = c.controllers;
  partitions = c.partitions;
  start = record { 0 = c.start };
  grace = c.grace;
  retention = c.options.retention;
  format = c.options.format;
}

-- a cluster beyond no limit
abbrev pub setup_with : Schema → Table → ℕ → Cluster → Option Which → Result Setup PlayFault
setup_with schema table line c (Some which) = Err (Limit which)
setup_with schema table line c None = Ok (setup_of schema table c)

abbrev pub setup_at : Schema → Table → NumberedLine → Result Setup PlayFault
setup_at schema table line = if_well_formed line.0 (cluster_of line.1) (λ c. setup_with schema table line.0 c (cluster_fault c table.replication))

abbrev pub with_rest : {A : Type 0} → List NumberedLine → Result A PlayFault → Result (A × List NumberedLine) PlayFault
with_rest lines (Ok x) = Ok (x, lines)
with_rest lines (Err fault) = Err fault

-- what the next line says, and the lines behind it; a line that is missing has the number after the last line
abbrev pub next_line : {A : Type 0} → (NumberedLine → Result A PlayFault) → ℕ → List NumberedLine → Result (A × List NumberedLine) PlayFault
next_line says after [] = Err (Refused after BadLine)
next_line says after (line ∷ lines) = with_rest lines (says line)

-- what the first two lines of a header say, with the lines behind them; or why one of them is refused
abbrev pub tables_of : ScriptLines → Result (TableSaid × List NumberedLine) PlayFault
tables_of script =
    then_ok (next_line schema_at script.after script.lines) (λ schema.
    next_line (table_at schema.0) script.after schema.1)

-- what the third line says, behind two that said this
abbrev pub setup_in : TableSaid → ScriptLines → Result (Setup × List NumberedLine) PlayFault
setup_in said script = next_line (setup_at said.schema said.table) script.after script.lines

-- what the header of a script says, with the lines behind it; or why it is refused
abbrev pub header_of : ScriptLines → Result (Setup × List NumberedLine) PlayFault
header_of script = then_ok (tables_of script) (λ said. setup_in said.0 (record { lines = said.1; after = script.after }))

-- what lines say that are taken: a schema and a table over it, which are those of their texts
pub record IsTableSaid (said : TableSaid) : Type 0 where
  pub schema : IsSchema said.schema
  pub table : IsTable said.schema said.table
  pub schema_read : schema_of said.schema_text ≡ Ok said.schema
  pub table_read : table_of said.schema said.table_text ≡ Ok said.table

-- a line says this; want of memory is free, and no fault comes but a refusal and a limit
abbrev pub Says : {A : Type 0} → Result A PlayFault → Result A PlayFault → Type 0
Says wanted (Ok x) = wanted ≡ Ok x
Says wanted (Err Memory) = Unit {0}
Says wanted (Err (Refused line reason)) = wanted ≡ Err (Refused line reason)
Says wanted (Err (Limit which)) = wanted ≡ Err (Limit which)
Says wanted (Err Usage) = ⊥
Says wanted (Err ReadFault) = ⊥
Says wanted (Err WriteFault) = ⊥

-- some lines were read and say this, and those behind them are left; or they are refused for their reason
abbrev pub Reads : {A : Type 0} → Result (A × List NumberedLine) PlayFault → ScriptLines → ScriptLines → Result A PlayFault → Type 0
Reads wanted old new (Ok x) = (wanted ≡ Ok (x, new.lines)) × (new.after ≡ old.after)
Reads wanted old new (Err Memory) = Unit {0}
Reads wanted old new (Err (Refused line reason)) = wanted ≡ Err (Refused line reason)
Reads wanted old new (Err (Limit which)) = wanted ≡ Err (Limit which)
Reads wanted old new (Err Usage) = ⊥
Reads wanted old new (Err ReadFault) = ⊥
Reads wanted old new (Err WriteFault) = ⊥

-- the header was read, or refused for its reason
abbrev pub ReadsHeader : ScriptLines → ScriptLines → Result Setup PlayFault → Type 0
ReadsHeader old new result = Reads (header_of old) old new result
