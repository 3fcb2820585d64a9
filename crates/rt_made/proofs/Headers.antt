-- The names of the columns of a script's schema are UTF-8.
use Rattle.std.proofs.Common.{◌≡◌, ℕ, cond, List, [], ◌∷◌, Option, Some, None, Result, Ok, Err, IsUtf8, codes, refl, subst}
use Rattle.std.specs.Prelude.{IfOk, IfSome}
use Rattle.std.specs.Str.{is_utf8}
use Rattle.std.proofs.lemmas.Str.{IsUtf8-from_is_utf8}
use Rattle.rt_base.specs.declared.which.Which.{Which}
use Rattle.rt_lines.specs.Cluster.{cluster_fault, cluster_of}
use Rattle.rt_lines.specs.Header.{NumberedLine, SchemaSaid, header_of, if_taken, if_well_formed, next_line, schema_at, schema_said, setup_at, setup_with, setup_of, table_at, table_said, tables_of, text_behind, then_ok, with_rest}
use Rattle.rt_lines.specs.Lines.{ScriptLines}
use Rattle.rt_lines.specs.Words.{after_prefix, then_some}
use Rattle.rt_lines.specs.declared.line_reason.LineReason.TheVariants.{Schema as BadSchema, Table as BadTable}
use Rattle.rt_lines.specs.declared.play_fault.PlayFault.{PlayFault}
use Rattle.rt_model.specs.declared.setup.Setup.{Setup}
use Rattle.rt_schema.specs.SchemaText.{schema_of}
use Rattle.rt_schema.specs.TableText.{table_of}
use Rattle.rt_schema.specs.declared.schema.Schema.{Schema}
use Rattle.rt_schema.specs.declared.schema_refused.SchemaRefused.{SchemaRefused}
use Rattle.rt_schema.specs.declared.table.Table.{Table}
use Rattle.rt_made.proofs.Contents.{if_so}
use Rattle.rt_made.proofs.Names.{domain, schema_named}
use Rattle.rt_made.specs.Named.{HasTextNames}

-- ---- a line

text_utf8 : (word line : List ℕ) → IfSome (text_behind word line) IsUtf8
text_utf8 word line = by (after_prefix word line)
  where
    by : (o : Option (List ℕ)) → IfSome (then_some o (λ text. cond (is_utf8 text) (Some text) None)) IsUtf8
    by None = tt
    by (Some text) = if_so (λ o. IfSome o IsUtf8) (is_utf8 text) (Some text) None (λ e. IsUtf8-from_is_utf8 text e) (λ _. tt)

schema_names : (line : NumberedLine) → IfOk (schema_at line) (λ said. HasTextNames said.schema)
schema_names line = by_text (text_behind (codes "schema ") line.1) (text_utf8 (codes "schema ") line.1)
  where
    by_schema : (text : List ℕ) → IsUtf8 text → (r : Result Schema SchemaRefused) → schema_of text ≡ r
        → IfOk (if_taken BadSchema line.0 (schema_said text r)) (λ said. HasTextNames said.schema)
    by_schema text u (Ok schema) e = schema_named text schema u e
    by_schema text u (Err why) e = tt

    by_text : (o : Option (List ℕ)) → IfSome o IsUtf8
        → IfOk (if_well_formed line.0 o (λ text. if_taken BadSchema line.0 (schema_said text (schema_of text)))) (λ said. HasTextNames said.schema)
    by_text None u = tt
    by_text (Some text) u = by_schema text u (schema_of text) refl

table_names : (said : SchemaSaid) → HasTextNames said.schema → (line : NumberedLine) → IfOk (table_at said line) (λ table. HasTextNames table.schema)
table_names said h line = by_text (text_behind (codes "table ") line.1)
  where
    by_table : (text : List ℕ) (r : Result Table SchemaRefused) → IfOk (if_taken BadTable line.0 (table_said said line.0 text r)) (λ table. HasTextNames table.schema)
    by_table text (Ok table) = h
    by_table text (Err why) = tt

    by_text : (o : Option (List ℕ))
        → IfOk (if_well_formed line.0 o (λ text. if_taken BadTable line.0 (table_said said line.0 text (table_of said.schema text)))) (λ table. HasTextNames table.schema)
    by_text None = tt
    by_text (Some text) = by_table text (table_of said.schema text)

setup_names : (schema : Schema) (table : Table) → HasTextNames schema → (line : NumberedLine) → IfOk (setup_at schema table line) (λ setup. HasTextNames setup.schema)
setup_names schema table h line = by_cluster (cluster_of line.1)
  where
    by_fault : (c : domain (setup_of schema table)) (o : Option Which) → IfOk (setup_with schema table line.0 c o) (λ setup. HasTextNames setup.schema)
    by_fault c (Some which) = tt
    by_fault c None = h

    by_cluster : (o : Option (domain (setup_of schema table)))
        → IfOk (if_well_formed line.0 o (λ c. setup_with schema table line.0 c (cluster_fault c table.replication))) (λ setup. HasTextNames setup.schema)
    by_cluster None = tt
    by_cluster (Some c) = by_fault c (cluster_fault c table.replication)

-- ---- the header

next_names : {A : Type 0} (P : A → Type 0) (says : NumberedLine → Result A PlayFault) (after : ℕ) (lines : List NumberedLine) → ((line : NumberedLine) → IfOk (says line) P)
    → IfOk (next_line says after lines) (λ x. P x.0)
next_names P says after [] h = tt
next_names {A} P says after (line ∷ lines) h = by (says line) (h line)
  where
    by : (r : Result A PlayFault) → IfOk r P → IfOk (with_rest lines r) (λ x. P x.0)
    by (Ok x) k = k
    by (Err fault) k = tt

behind_names : {A B : Type 0} (P : A → Type 0) (Q : B → Type 0) (r : Result A PlayFault) (f : A → Result B PlayFault) → ((x : A) → P x → IfOk (f x) Q) → IfOk r P → IfOk (then_ok r f) Q
behind_names P Q (Ok x) f k h = k x h
behind_names P Q (Err fault) f k h = tt

tables_names : (script : ScriptLines) → IfOk (tables_of script) (λ x. HasTextNames x.0.schema)
tables_names script =
    behind_names (λ x. HasTextNames x.0.schema) (λ x. HasTextNames x.0.schema) (next_line schema_at script.after script.lines) _
    (λ x h. next_names (λ table. HasTextNames table.schema) (table_at x.0) script.after x.1 (table_names x.0 h))
    (next_names (λ said. HasTextNames said.schema) schema_at script.after script.lines schema_names)

header_names : (script : ScriptLines) → IfOk (header_of script) (λ x. HasTextNames x.0.schema)
header_names script =
    behind_names (λ x. HasTextNames x.0.schema) (λ x. HasTextNames x.0.schema) (tables_of script) _
    (λ x h. next_names (λ setup. HasTextNames setup.schema) (setup_at x.0.schema x.0.table) script.after x.1 (setup_names x.0.schema x.0.table h)) (tables_names script)

pub header_named : (script : ScriptLines) (setup : Setup) (lines : List NumberedLine) → header_of script ≡ Ok (setup, lines) → HasTextNames setup.schema
header_named script setup lines e = subst (λ r. IfOk r (λ x. HasTextNames x.0.schema)) e (header_names script)
