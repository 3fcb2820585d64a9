use Rattle.std.proofs.Common.{◌≡◌, ℕ, Bool, true, false, List, [], ◌∷◌, Option, Some, None, Result, Ok, Err, refl, ap, sym, ◌∙◌, subst}
use Rattle.std.specs.Prelude.{IfOk, IfSome, cond, codes}
use Rattle.std.specs.Str.{IsUtf8, is_utf8}
use Rattle.std.proofs.lemmas.Str.{IsUtf8-from_is_utf8, is_utf8-from_IsUtf8}
use Rattle.rt_base.specs.declared.which.Which.{Which}
use Rattle.rt_schema.specs.declared.schema.Schema.{Schema}
use Rattle.rt_schema.specs.declared.table.Table.{Table}
use Rattle.rt_schema.specs.declared.schema_refused.SchemaRefused.{SchemaRefused}
use Rattle.rt_schema.specs.declared.schema_refused.SchemaRefused.TheVariants as refused
use Rattle.rt_schema.specs.Schema.{IsSchema}
use Rattle.rt_schema.specs.SchemaText.{schema_of, Answers}
use Rattle.rt_schema.specs.TableText.{table_of, IsTable}
use Rattle.rt_schema.proofs.Schemas.{answered_is_schema}
use Rattle.rt_schema.proofs.Tables.{answered_is_table}
use Rattle.rt_model.specs.declared.setup.Setup.{Setup}
use Rattle.rt_model.specs.Setup.{IsSetup}
use Rattle.rt_lines.proofs.Clusters.{HasFormat, IsBounded, bounded, cluster_has}
use Rattle.rt_lines.specs.declared.cluster.Cluster.{Cluster}
use Rattle.rt_lines.specs.declared.line_reason.LineReason.{LineReason}
use Rattle.rt_lines.specs.declared.line_reason.LineReason.TheVariants.{Schema as BadSchema, Table as BadTable}
use Rattle.rt_lines.specs.declared.play_fault.PlayFault.{PlayFault}
use Rattle.rt_lines.specs.declared.play_fault.PlayFault.TheVariants.{Usage, Refused, ReadFault, WriteFault, Memory, Limit}
use Rattle.rt_lines.specs.Cluster.{cluster_of, cluster_fault}
use Rattle.rt_lines.specs.Lines.{ScriptLines}
use Rattle.rt_lines.specs.Words.{then_some, after_prefix}
use Rattle.rt_lines.specs.Header.{NumberedLine, then_ok, refused_by, if_taken, text_behind, if_well_formed, SchemaSaid, schema_said, schema_at, TableSaid, table_said, table_at, setup_of, setup_with, setup_at, with_rest, next_line, tables_of, setup_in, header_of, IsTableSaid, Says, Reads}

-- a text in UTF-8, or not
pub is_text : (word line text : List ℕ) → after_prefix word line ≡ Some text → IsUtf8 text → text_behind word line ≡ Some text
is_text word line text e utf8 = ap (λ o. then_some o (λ t. cond (is_utf8 t) (Some t) None)) e ∙ ap (λ b. cond b (Some text) None) (is_utf8-from_IsUtf8 text utf8)

no_text_at : (text : List ℕ) (b : Bool) → is_utf8 text ≡ b → (IsUtf8 text → ⊥) → cond b (Some text) None ≡ None
no_text_at text true e bad = absurd (bad (IsUtf8-from_is_utf8 text e))
no_text_at text false e bad = refl

pub is_no_text : (word line text : List ℕ) → after_prefix word line ≡ Some text → (IsUtf8 text → ⊥) → text_behind word line ≡ None
is_no_text word line text e bad = ap (λ o. then_some o (λ t. cond (is_utf8 t) (Some t) None)) e ∙ no_text_at text (is_utf8 text) refl bad

-- a table line whose text is refused
stopped : (said : SchemaSaid) (number : ℕ) (text : List ℕ) (why : SchemaRefused) → Answers (table_of said.schema text) (Err why) →
    Says (if_taken BadTable number (table_said said number text (table_of said.schema text))) (Err (refused_by BadTable number why))
stopped said number text refused.NotJson a = ap (λ r. if_taken BadTable number (table_said said number text r)) (sym a)
stopped said number text refused.MissingField a = ap (λ r. if_taken BadTable number (table_said said number text r)) (sym a)
stopped said number text refused.UnknownType a = ap (λ r. if_taken BadTable number (table_said said number text r)) (sym a)
stopped said number text refused.DuplicateColumn a = ap (λ r. if_taken BadTable number (table_said said number text r)) (sym a)
stopped said number text refused.Limit a = ap (λ r. if_taken BadTable number (table_said said number text r)) (sym a)
stopped said number text refused.Memory a = tt

pub table_refused : (said : SchemaSaid) (number : ℕ) (line text : List ℕ) (why : SchemaRefused) (fault : PlayFault) → text_behind (codes "table ") line ≡ Some text →
    Answers (table_of said.schema text) (Err why) → fault ≡ refused_by BadTable number why → Says (table_at said (number, line)) (Err fault)
table_refused said number line text why fault e a is =
    subst (λ f. Says (table_at said (number, line)) (Err f)) (sym is)
    (subst (λ w. Says w (Err (refused_by BadTable number why))) (sym (ap (λ o. if_well_formed number o (λ t. if_taken BadTable number (table_said said number t (table_of said.schema t)))) e))
    (stopped said number text why a))

-- a line that was read says what the next line is to say
pub line_reads : {A : Type 0} (says : NumberedLine → Result A PlayFault) (old new : ScriptLines) (line : NumberedLine) (result : Result A PlayFault) → old.lines ≡ line ∷ new.lines → new.after ≡ old.after →
    Says (says line) result → Reads (next_line says old.after old.lines) old new result
line_reads says old new line (Ok x) e after h = (ap (next_line says old.after) e ∙ ap (with_rest new.lines) h, after)
line_reads says old new line (Err (Refused number reason)) e after h = ap (next_line says old.after) e ∙ ap (with_rest new.lines) h
line_reads says old new line (Err (Limit which)) e after h = ap (next_line says old.after) e ∙ ap (with_rest new.lines) h
line_reads says old new line (Err Memory) e after h = tt
line_reads says old new line (Err Usage) e after h = h
line_reads says old new line (Err ReadFault) e after h = h
line_reads says old new line (Err WriteFault) e after h = h

-- one reading behind another
reads_ok : {A B : Type 0} (wanted : Result (A × List NumberedLine) PlayFault) (f : A × List NumberedLine → Result (B × List NumberedLine) PlayFault) (old mid new : ScriptLines) (x : A) (result : Result B PlayFault) →
    Reads wanted old mid (Ok x) → Reads (f (x, mid.lines)) mid new result → Reads (then_ok wanted f) old new result
reads_ok wanted f old mid new x (Ok y) h k = (ap (λ w. then_ok w f) h.0 ∙ k.0, k.1 ∙ h.1)
reads_ok wanted f old mid new x (Err (Refused number reason)) h k = ap (λ w. then_ok w f) h.0 ∙ k
reads_ok wanted f old mid new x (Err (Limit which)) h k = ap (λ w. then_ok w f) h.0 ∙ k
reads_ok wanted f old mid new x (Err Memory) h k = tt
reads_ok wanted f old mid new x (Err Usage) h k = k
reads_ok wanted f old mid new x (Err ReadFault) h k = k
reads_ok wanted f old mid new x (Err WriteFault) h k = k

-- what stands behind the schema line, and behind both lines
abbrev behind_schema : ℕ → SchemaSaid × List NumberedLine → Result (TableSaid × List NumberedLine) PlayFault
behind_schema after schema = next_line (table_at schema.0) after schema.1

abbrev behind_tables : ℕ → TableSaid × List NumberedLine → Result (Setup × List NumberedLine) PlayFault
behind_tables after said = setup_in said.0 (record { lines = said.1; after = after })

pub tables_read : (old first new : ScriptLines) (schema : SchemaSaid) (result : Result TableSaid PlayFault) →
    Reads (next_line schema_at old.after old.lines) old first (Ok schema) → Reads (next_line (table_at schema) first.after first.lines) first new result → Reads (tables_of old) old new result
tables_read old first new schema result a b =
    reads_ok (next_line schema_at old.after old.lines) (behind_schema old.after) old first new schema result a
    (subst (λ n. Reads (behind_schema n (schema, first.lines)) first new result) a.1 b)

-- what a header that is taken has
answers_itself : {A : Type 0} (wanted : Result A SchemaRefused) → Answers wanted wanted
answers_itself (Ok x) = refl
answers_itself (Err refused.NotJson) = refl
answers_itself (Err refused.MissingField) = refl
answers_itself (Err refused.UnknownType) = refl
answers_itself (Err refused.DuplicateColumn) = refl
answers_itself (Err refused.Limit) = refl
answers_itself (Err refused.Memory) = tt

if_taken_has : {A : Type 0} (P : A → Type 0) (reason : ℕ → LineReason) (line : ℕ) (r : Result A SchemaRefused) → IfOk r P → IfOk (if_taken reason line r) P
if_taken_has P reason line (Ok x) h = h
if_taken_has P reason line (Err why) h = tt

well_formed_has : {A B : Type 0} (P : B → Type 0) (line : ℕ) (o : Option A) (f : A → Result B PlayFault) → ((x : A) → IfOk (f x) P) → IfOk (if_well_formed line o f) P
well_formed_has P line None f h = tt
well_formed_has P line (Some x) f h = h x

rest_has : {A : Type 0} (P : A → Type 0) (lines : List NumberedLine) (r : Result A PlayFault) → IfOk r P → IfOk (with_rest lines r) (λ x. P x.0)
rest_has P lines (Ok x) h = h
rest_has P lines (Err fault) h = tt

next_has : {A : Type 0} (P : A → Type 0) (says : NumberedLine → Result A PlayFault) (after : ℕ) (lines : List NumberedLine) → ((line : NumberedLine) → IfOk (says line) P) → IfOk (next_line says after lines) (λ x. P x.0)
next_has P says after [] h = tt
next_has P says after (line ∷ lines) h = rest_has P lines (says line) (h line)

then_has : {A B : Type 0} (P : B → Type 0) (Q : A → Type 0) (r : Result A PlayFault) (f : A → Result B PlayFault) → IfOk r Q → ((x : A) → Q x → IfOk (f x) P) → IfOk (then_ok r f) P
then_has P Q (Ok x) f h k = k x h
then_has P Q (Err fault) f h k = tt

-- a schema line that is taken: its schema is that of its text
record IsSchemaSaid (said : SchemaSaid) : Type 0 where
  schema : IsSchema said.schema
  read : schema_of said.text ≡ Ok said.schema

schema_said_has : (text : List ℕ) (r : Result Schema SchemaRefused) → schema_of text ≡ r → IfOk r IsSchema → IfOk (schema_said text r) IsSchemaSaid
schema_said_has text (Ok schema) e is = record { schema = is; read = e }
schema_said_has text (Err why) e is = tt

schema_has : (line : NumberedLine) → IfOk (schema_at line) IsSchemaSaid
schema_has line =
    well_formed_has IsSchemaSaid line.0 (text_behind (codes "schema ") line.1) (λ text. if_taken BadSchema line.0 (schema_said text (schema_of text)))
    (λ text. if_taken_has IsSchemaSaid BadSchema line.0 (schema_said text (schema_of text))
    (schema_said_has text (schema_of text) refl (answered_is_schema text (schema_of text) (answers_itself (schema_of text)))))

table_said_has : (said : SchemaSaid) (line : ℕ) (text : List ℕ) (r : Result Table SchemaRefused) → IsSchemaSaid said → table_of said.schema text ≡ r → IfOk r (IsTable said.schema) →
    IfOk (table_said said line text r) IsTableSaid
table_said_has said line text (Ok table) is e has = record { schema = is.schema; table = has; schema_read = is.read; table_read = e }
table_said_has said line text (Err why) is e has = tt

table_has : (said : SchemaSaid) → IsSchemaSaid said → (line : NumberedLine) → IfOk (table_at said line) IsTableSaid
table_has said is line =
    well_formed_has IsTableSaid line.0 (text_behind (codes "table ") line.1) (λ text. if_taken BadTable line.0 (table_said said line.0 text (table_of said.schema text)))
    (λ text. if_taken_has IsTableSaid BadTable line.0 (table_said said line.0 text (table_of said.schema text))
    (table_said_has said line.0 text (table_of said.schema text) is refl (answered_is_table said.schema text (table_of said.schema text) (answers_itself (table_of said.schema text)))))

-- one whose line says something has what it has of all that such a line can say
well_formed_given : {A B : Type 0} (P : B → Type 0) (Q : A → Type 0) (line : ℕ) (o : Option A) (f : A → Result B PlayFault) → IfSome o Q → ((x : A) → Q x → IfOk (f x) P) → IfOk (if_well_formed line o f) P
well_formed_given P Q line None f h k = tt
well_formed_given P Q line (Some x) f h k = k x h

setup_taken : (schema : Schema) (table : Table) (c : Cluster) → IsSchema schema → IsTable schema table → HasFormat c → IsBounded c table.replication → IsSetup (setup_of schema table c)
setup_taken schema table c is has format within = record {
  schema = is;
  table = has;
  some_servers = within.servers.0;
  few_servers = within.servers.1;
  some_controllers = within.controllers.0;
  few_controllers = within.controllers.1;
  some_partitions = within.partitions.0;
  few_partitions = within.partitions.1;
  some_replicas = has.replicated.0;
  few_replicas = within.few;
  enough_servers = within.enough;
  start = within.start;
  first_format = format.0;
  last_format = format.1;
}

with_has : (schema : Schema) (table : Table) (line : ℕ) (c : Cluster) (o : Option Which) → cluster_fault c table.replication ≡ o → IsSchema schema → IsTable schema table → HasFormat c →
    IfOk (setup_with schema table line c o) IsSetup
with_has schema table line c (Some which) e is has format = tt
with_has schema table line c None e is has format =
    setup_taken schema table c is has format (bounded c table.replication e)

setup_has : (schema : Schema) (table : Table) → IsSchema schema → IsTable schema table → (line : NumberedLine) → IfOk (setup_at schema table line) IsSetup
setup_has schema table is has line =
    well_formed_given IsSetup HasFormat line.0 (cluster_of line.1) (λ c. setup_with schema table line.0 c (cluster_fault c table.replication)) (cluster_has line.1)
    (λ c format. with_has schema table line.0 c (cluster_fault c table.replication) refl is has format)

tables_has : (script : ScriptLines) → IfOk (tables_of script) (λ x. IsTableSaid x.0)
tables_has script =
    then_has (λ x. IsTableSaid x.0) (λ x. IsSchemaSaid x.0) (next_line schema_at script.after script.lines) (behind_schema script.after) (next_has IsSchemaSaid schema_at script.after script.lines schema_has)
    (λ schema is. next_has IsTableSaid (table_at schema.0) script.after schema.1 (table_has schema.0 is))

cluster_line_has : (said : TableSaid) (script : ScriptLines) → IsTableSaid said → IfOk (setup_in said script) (λ x. IsSetup x.0)
cluster_line_has said script is = next_has IsSetup (setup_at said.schema said.table) script.after script.lines (setup_has said.schema said.table is.schema is.table)

header_has : (script : ScriptLines) → IfOk (header_of script) (λ x. IsSetup x.0)
header_has script =
    then_has (λ x. IsSetup x.0) (λ x. IsTableSaid x.0) (tables_of script) (behind_tables script.after) (tables_has script)
    (λ said is. cluster_line_has said.0 (record { lines = said.1; after = script.after }) is)

-- a setup that a header says is one that is taken
pub header_taken : (script : ScriptLines) (setup : Setup) (lines : List NumberedLine) → header_of script ≡ Ok (setup, lines) → IsSetup setup
header_taken script setup lines e = subst (λ r. IfOk r (λ x. IsSetup x.0)) e (header_has script)

-- what is read has what all has that such lines can say
reads_have : {A : Type 0} (P : A → Type 0) (wanted : Result (A × List NumberedLine) PlayFault) (old new : ScriptLines) (result : Result A PlayFault) → IfOk wanted (λ x. P x.0) → Reads wanted old new result → IfOk result P
reads_have P wanted old new (Ok x) h e = subst (λ r. IfOk r (λ y. P y.0)) e.0 h
reads_have P wanted old new (Err fault) h e = tt

pub tables_taken : (old new : ScriptLines) (result : Result TableSaid PlayFault) → Reads (tables_of old) old new result → IfOk result IsTableSaid
tables_taken old new result e = reads_have IsTableSaid (tables_of old) old new result (tables_has old) e

pub cluster_taken : (schema : Schema) (table : Table) (line : NumberedLine) (result : Result Setup PlayFault) → IsSchema schema → IsTable schema table → Says (setup_at schema table line) result → IfOk result IsSetup
cluster_taken schema table line (Ok setup) is has e = subst (λ r. IfOk r IsSetup) e (setup_has schema table is has line)
cluster_taken schema table line (Err fault) is has e = tt
