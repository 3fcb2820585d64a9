-- No header is refused by the limit of the input.
use Rattle.std.proofs.Common.{◌≡◌, ℕ, Bool, true, false, List, [], ◌∷◌, Option, Some, None, Result, Ok, Err, cond, ap}
use Rattle.std.specs.Prelude.{codes, nat_le, not, ◌&&◌}
use Rattle.rt_base.specs.declared.limits.TheConstants.{LAST_MOMENT, MOST_CONTROLLERS, MOST_PARTITIONS, MOST_REPLICATION, MOST_SERVERS}
use Rattle.rt_base.specs.declared.which.Which.{Which}
use Rattle.rt_base.specs.declared.which.Which.TheVariants.{Controllers, Input, Moment, Partitions, Replication, Servers}
use Rattle.rt_lines.specs.Cluster.{cluster_fault, cluster_of, is_within}
use Rattle.rt_lines.specs.Header.{NumberedLine, SchemaSaid, TableSaid, header_of, if_taken, if_well_formed, next_line, numbered_fault, schema_at, schema_said, setup_at, setup_in, setup_with, table_at, table_said, tables_of, text_behind, then_ok, with_rest}
use Rattle.rt_lines.specs.Lines.{ScriptLines}
use Rattle.rt_lines.specs.declared.line_reason.LineReason.{LineReason}
use Rattle.rt_lines.specs.declared.line_reason.LineReason.TheVariants.{BadLine, Schema as BadSchema, Table as BadTable}
use Rattle.rt_lines.specs.declared.play_fault.PlayFault.{PlayFault}
use Rattle.rt_lines.specs.declared.play_fault.PlayFault.TheVariants.{Limit, Memory, Refused}
use Rattle.rt_model.specs.declared.setup.Setup.{Setup}
use Rattle.rt_schema.specs.SchemaText.{schema_of}
use Rattle.rt_schema.specs.TableText.{table_of}
use Rattle.rt_schema.specs.declared.schema.Schema.{Schema}
use Rattle.rt_schema.specs.declared.schema_refused.SchemaRefused.{SchemaRefused}
use Rattle.rt_schema.specs.declared.table.Table.{Table}
use Rattle.rt_schema.specs.Refused.{number_of}

-- this isn't refused so
abbrev pub IsWithin : {A : Type 0} → Result A PlayFault → Type 0
IsWithin read = read ≡ Err (Limit Input) → ⊥

abbrev pub stopped_by : {A : Type 0} → PlayFault → Result A PlayFault
stopped_by why = Err why

abbrev pub read_as : {A : Type 0} → A → Result A PlayFault
read_as x = Ok x

pub same_fault : {A : Type 0} (a b : PlayFault) → stopped_by {A = A} a ≡ stopped_by b → a ≡ b
same_fault a b e = cc

not_read : {A : Type 0} (x : A) (why : PlayFault) → read_as x ≡ stopped_by why → ⊥
not_read x why e = cc

pub read_within : {A : Type 0} (x : A) → IsWithin (read_as x)
read_within x e = not_read x (Limit Input) e

-- a fault that isn't this one
abbrev pub IsOther : PlayFault → Type 0
IsOther why = why ≡ Limit Input → ⊥

pub stopped_within : {A : Type 0} (why : PlayFault) → IsOther why → IsWithin {A = A} (stopped_by why)
stopped_within why other e = other (same_fault why (Limit Input) e)

pub is_other : {A : Type 0} (why : PlayFault) → IsWithin {A = A} (stopped_by why) → IsOther why
is_other {A} why f e = f (ap (stopped_by {A = A}) e)

refused_other : (line : ℕ) (reason : LineReason) → IsOther (Refused line reason)
refused_other line reason e = cc

memory_other : IsOther Memory
memory_other e = cc

pub numbered_other : (reason : ℕ → LineReason) (line : ℕ) (number : Option ℕ) → IsOther (numbered_fault reason line number)
numbered_other reason line (Some number) = refused_other line (reason number)
numbered_other reason line None = memory_other

-- ---- how a header is put together

taken_within : {A : Type 0} (reason : ℕ → LineReason) (line : ℕ) (r : Result A SchemaRefused) → IsWithin (if_taken reason line r)
taken_within reason line (Ok x) = read_within x
taken_within reason line (Err why) = stopped_within _ (numbered_other reason line (number_of why))

formed_within : {A B : Type 0} (line : ℕ) (o : Option A) (f : A → Result B PlayFault) → ((x : A) → IsWithin (f x)) → IsWithin (if_well_formed line o f)
formed_within line None f each = stopped_within (Refused line BadLine) (refused_other line BadLine)
formed_within line (Some x) f each = each x

rest_within : {A : Type 0} (lines : List NumberedLine) (r : Result A PlayFault) → IsWithin r → IsWithin (with_rest lines r)
rest_within lines (Ok x) f = read_within (x, lines)
rest_within lines (Err why) f = stopped_within why (is_other why f)

next_within : {A : Type 0} (says : NumberedLine → Result A PlayFault) (after : ℕ) (lines : List NumberedLine) → ((line : NumberedLine) → IsWithin (says line)) → IsWithin (next_line says after lines)
next_within says after [] each = stopped_within (Refused after BadLine) (refused_other after BadLine)
next_within says after (line ∷ lines) each = rest_within lines (says line) (each line)

pub then_within : {A B : Type 0} (r : Result A PlayFault) (f : A → Result B PlayFault) → IsWithin r → ((x : A) → IsWithin (f x)) → IsWithin (then_ok r f)
then_within (Ok x) f first each = each x
then_within (Err why) f first each = stopped_within why (is_other why first)

-- ---- its lines

schema_within : (line : NumberedLine) → IsWithin (schema_at line)
schema_within line =
    formed_within line.0 (text_behind (codes "schema ") line.1) (λ text. if_taken BadSchema line.0 (schema_said text (schema_of text)))
    (λ text. taken_within BadSchema line.0 (schema_said text (schema_of text)))

table_within : (said : SchemaSaid) (line : NumberedLine) → IsWithin (table_at said line)
table_within said line =
    formed_within line.0 (text_behind (codes "table ") line.1) (λ text. if_taken BadTable line.0 (table_said said line.0 text (table_of said.schema text)))
    (λ text. taken_within BadTable line.0 (table_said said line.0 text (table_of said.schema text)))

pub tables_within : (script : ScriptLines) → IsWithin (tables_of script)
tables_within script =
    then_within (next_line schema_at script.after script.lines) (λ schema. next_line (table_at schema.0) script.after schema.1)
    (next_within schema_at script.after script.lines schema_within)
    (λ schema. next_within (table_at schema.0) script.after schema.1 (table_within schema.0))

-- none of a cluster's limits is this one
abbrev IsOwn : Option Which → Type 0
IsOwn o = o ≡ Some Input → ⊥

abbrev some : Which → Option Which
some which = Some which

abbrev none : Option Which
none = None

servers_own : IsOwn (some Servers)
servers_own e = cc

controllers_own : IsOwn (some Controllers)
controllers_own e = cc

partitions_own : IsOwn (some Partitions)
partitions_own e = cc

replication_own : IsOwn (some Replication)
replication_own e = cc

moment_own : IsOwn (some Moment)
moment_own e = cc

none_own : IsOwn none
none_own e = cc

choice_own : (b : Bool) (o rest : Option Which) → IsOwn o → IsOwn rest → IsOwn (cond b o rest)
choice_own true o rest f g = f
choice_own false o rest f g = g

same_limit : (a b : Which) → Limit a ≡ Limit b → a ≡ b
same_limit a b e = cc

with_within : (f : Option Which → Result Setup PlayFault) → IsWithin (f None) → ((which : Which) → IsOwn (Some which) → IsWithin (f (Some which))) → (o : Option Which) → IsOwn o
    → IsWithin (f o)
with_within f fits passes None own = fits
with_within f fits passes (Some which) own = passes which own

limit_within : (which : Which) → IsOwn (Some which) → IsWithin {A = Setup} (Err (Limit which))
limit_within which own = stopped_within (Limit which) (λ e. own (ap some (same_limit which Input e)))

setup_within : (schema : Schema) (table : Table) (line : NumberedLine) → IsWithin (setup_at schema table line)
setup_within schema table line =
    formed_within line.0 (cluster_of line.1) (λ c. setup_with schema table line.0 c (cluster_fault c table.replication))
    (λ c. with_within (λ o. setup_with schema table line.0 c o) (read_within _) limit_within (cluster_fault c table.replication)
    (choice_own (not (is_within 1 MOST_SERVERS c.servers)) (Some Servers) _ servers_own
    (choice_own (not (is_within 1 MOST_CONTROLLERS c.controllers)) (Some Controllers) _ controllers_own
    (choice_own (not (is_within 1 MOST_PARTITIONS c.partitions)) (Some Partitions) _ partitions_own
    (choice_own (not (nat_le table.replication MOST_REPLICATION && nat_le table.replication c.servers)) (Some Replication) _ replication_own
    (choice_own (not (nat_le c.start LAST_MOMENT)) (Some Moment) None moment_own none_own))))))

pub cluster_within : (said : TableSaid) (script : ScriptLines) → IsWithin (setup_in said script)
cluster_within said script = next_within (setup_at said.schema said.table) script.after script.lines (setup_within said.schema said.table)

pub header_within : (script : ScriptLines) → IsWithin (header_of script)
header_within script =
    then_within (tables_of script) (λ said. setup_in said.0 (record { lines = said.1; after = script.after })) (tables_within script)
    (λ said. cluster_within said.0 (record { lines = said.1; after = script.after }))
