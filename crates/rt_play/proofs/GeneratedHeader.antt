-- The header of a generated run is read as its cluster, and its query as one over the table.
use Rattle.std.proofs.Common.{◌≡◌, ◌+◌, ◌-◌, ◌<◌, ◌≤◌, ◌==◌, ◌&&◌, ◌⊎◌, inl, inr, ℕ, zero, suc, Bool, true, false, cond, List, [], ◌∷◌, ◌++◌, length, map, take, Some, None, Result, Ok, not, nat_le, refl, sym, ◌∙◌, ap, subst, arith, append_assoc, get_or}
use Rattle.std.specs.Prelude.{codes, decimal}
use Rattle.std.specs.List.{list_all, range_with_len}
use Rattle.std.specs.Fmt.{digits}
use Rattle.std.specs.Str.{chars, is_utf8}
use Rattle.std.specs.Str.Lines.{strip_carriage_return}
use Rattle.std.proofs.lemmas.Bool.{and_parts, cases_lt, le-leb}
use Rattle.std.proofs.lemmas.Fmt.{decimal_is_IsNumeral}
use lib.Utf8.{encode}
use Rattle.json.specs.Json.{value}
use Rattle.json.specs.Lex.{lex, punctuate}
use Rattle.json.specs.Text.{content}
use Rattle.rt_base.specs.declared.which.Which.TheVariants.{Partitions}
use Rattle.rt_lines.proofs.ClusterLines.{lines_spelled}
use Rattle.rt_lines.proofs.PartsOfLines.{lacks, lacks_joined, numeral_lacks}
use Rattle.rt_lines.specs.Cluster.{cluster_fault, cluster_of}
use Rattle.rt_lines.specs.ClusterLine.{Spells}
use Rattle.rt_lines.specs.Header.{NumberedLine, header_of, if_well_formed, setup_at, setup_with, with_rest}
use Rattle.rt_lines.specs.Lines.{ScriptLines, lines_of, numbered, parts_of, script_lines, with_front}
use Rattle.rt_lines.specs.Words.{is_numeral}
use Rattle.rt_lines.specs.declared.play_fault.PlayFault.{PlayFault}
use Rattle.rt_model.specs.declared.query.Query.{Query}
use Rattle.rt_model.specs.declared.setup.Setup.{Setup}
use Rattle.rt_play.specs.Generating.{generated_query, header_text, query_said}
use Rattle.rt_schema.specs.declared.column.Kind.TheVariants.{Long, Text}
use Rattle.rt_schema.specs.declared.column.Role.TheVariants.{Dimension, Metric}
use Rattle.rt_schema.specs.declared.schema.Schema.{Schema}
use Rattle.rt_schema.specs.declared.table.Table.{Table}
use Rattle.rt_script.specs.Line.{line_in}

-- ---- what it says

abbrev pub the_schema : Schema
the_schema = record {
  name = codes "t";
  columns = record { name = codes "k"; kind = Text; role = Dimension } ∷ record { name = codes "v"; kind = Long; role = Metric } ∷ [];
}

abbrev pub the_table : Table
the_table = record { name = codes "t"; replication = 2; indexed = codes "k" ∷ []; rows = 1000; millis = 3600000 }

abbrev pub the_setup : ℕ → Setup
the_setup n = record {
  schema = the_schema;
  table = the_table;
  servers = 3;
  controllers = 2;
  partitions = n;
  start = record { 0 = 1700000000000 };
  grace = 0;
  retention = None;
  format = 2;
}

-- ---- its lines

abbrev schema_said : List ℕ
schema_said = codes "schema {\"schemaName\":\"t\",\"dimensionFieldSpecs\":[{\"name\":\"k\",\"dataType\":\"STRING\"}],\"metricFieldSpecs\":[{\"name\":\"v\",\"dataType\":\"LONG\"}]}"

abbrev table_said : List ℕ
table_said = codes "table {\"tableName\":\"t\",\"tableType\":\"REALTIME\",\"segmentsConfig\":{\"replication\":\"2\"},\"tableIndexConfig\":{\"invertedIndexColumns\":[\"k\"],\"streamConfigs\":{\"realtime.segment.flush.threshold.rows\":\"1000\",\"realtime.segment.flush.threshold.time\":\"1h\"}}}"

abbrev cluster_said : ℕ → List ℕ
cluster_said n = codes "cluster servers=3 controllers=2 partitions=" ++ (decimal n ++ codes " start=1700000000000 grace=0")

header_is : (n : ℕ) → header_text n ≡ schema_said ++ 10 ∷ (table_said ++ 10 ∷ (cluster_said n ++ 10 ∷ []))
header_is n =
    ap (λ rest. schema_said ++ 10 ∷ (table_said ++ 10 ∷ (codes "cluster servers=3 controllers=2 partitions=" ++ rest)))
    (sym (append_assoc (decimal n) (codes " start=1700000000000 grace=0") (10 ∷ [])))

part_first : (line rest : List ℕ) → lacks 10 line ≡ true → parts_of (line ++ 10 ∷ rest) ≡ line ∷ parts_of rest
part_first [] rest h = refl
part_first (b ∷ line) rest h = by_test (b == 10) h (part_first line rest)
  where
    by_test : (t : Bool) → cond t false (lacks 10 line) ≡ true → (lacks 10 line ≡ true → parts_of (line ++ 10 ∷ rest) ≡ line ∷ parts_of rest)
        → cond t ([] ∷ parts_of (line ++ 10 ∷ rest)) (with_front b (parts_of (line ++ 10 ∷ rest))) ≡ (b ∷ line) ∷ parts_of rest
    by_test true h further = absurd (cc)
    by_test false h further = ap (with_front b) (further h)

at_lacks : (byte : ℕ) (line : List ℕ) (i : ℕ) → lacks byte line ≡ true → i < length line → (get_or line i 0 == byte) ≡ false
at_lacks byte [] i h lt = absurd (omega (arith, lt))
at_lacks byte (b ∷ line) i h lt = by_test (b == byte) refl h i lt (at_lacks byte line)
  where
    by_test : (t : Bool) → (b == byte) ≡ t → cond t false (lacks byte line) ≡ true → (i : ℕ) → i < length (b ∷ line)
        → ((i : ℕ) → lacks byte line ≡ true → i < length line → (get_or line i 0 == byte) ≡ false) → (get_or (b ∷ line) i 0 == byte) ≡ false
    by_test true is h i lt further = absurd (cc)
    by_test false is h zero lt further = is
    by_test false is h (suc i) lt further = further i h (omega (arith, lt))

unstripped : (line : List ℕ) → 0 < length line → lacks 13 line ≡ true → strip_carriage_return line ≡ line
unstripped line some h = ap (λ t. cond t (take (length line - 1) line) line) (at_lacks 13 line (length line - 1) h (omega (arith, some)))

-- ---- the number of partitions

all_numbers : (f : ℕ → Bool) (a n : ℕ) → list_all f (range_with_len a n) ≡ true → (j : ℕ) → a ≤ j → j < a + n → f j ≡ true
all_numbers f a zero h j le lt = absurd (omega (arith, le, lt))
all_numbers f a (suc n) h j le lt =
    let parts = and_parts (f a) (list_all f (range_with_len (a + 1) n)) h in
    by_place parts.0 (λ less. all_numbers f (a + 1) n parts.1 j (omega (arith, less)) (omega (arith, lt))) (cases_lt a j)
  where
    by_place : f a ≡ true → (a < j → f j ≡ true) → (a < j) ⊎ (j ≤ a) → f j ≡ true
    by_place here later (inl less) = later less
    by_place here later (inr ge) = let same : a ≡ j = omega (arith, le, ge) in subst (λ m. f m ≡ true) same here

numeral : (n : ℕ) → 1 ≤ n → n ≤ 64 → is_numeral (decimal n) ≡ true
unfolding digits
numeral n some few = all_numbers (λ m. is_numeral (decimal m)) 1 64 refl n some (omega (arith, few))

spells : (n : ℕ) → 1 ≤ n → n ≤ 64 → Spells (decimal n) n
spells n some few = record {
  numeral = numeral n some few;
  value = sym (decimal_is_IsNumeral n (omega (arith, few))).1;
  fits = omega (arith, few);
}

cluster_lacks : (byte n : ℕ) → 1 ≤ n → n ≤ 64 → lacks byte (codes "cluster servers=3 controllers=2 partitions=") ≡ true → lacks byte (codes " start=1700000000000 grace=0") ≡ true
    → lacks byte (decimal n) ≡ true → lacks byte (cluster_said n) ≡ true
cluster_lacks byte n some few before behind number =
    lacks_joined byte (codes "cluster servers=3 controllers=2 partitions=") (decimal n ++ codes " start=1700000000000 grace=0") before
    (lacks_joined byte (decimal n) (codes " start=1700000000000 grace=0") number behind)

abbrev the_lines : ℕ → ScriptLines
the_lines n = record { lines = (1, schema_said) ∷ (2, table_said) ∷ (3, cluster_said n) ∷ []; after = 4 }

parts_are : (n : ℕ) → 1 ≤ n → n ≤ 64 → parts_of (header_text n) ≡ schema_said ∷ table_said ∷ cluster_said n ∷ []
parts_are n some few =
    ap parts_of (header_is n) ∙ part_first schema_said (table_said ++ 10 ∷ (cluster_said n ++ 10 ∷ [])) refl
    ∙ ap (λ parts. schema_said ∷ parts) (part_first table_said (cluster_said n ++ 10 ∷ []) refl)
    ∙ ap (λ parts. schema_said ∷ table_said ∷ parts)
    (part_first (cluster_said n) [] (cluster_lacks 10 n some few refl refl (numeral_lacks 10 (decimal n) refl (numeral n some few))))

lines_are : (n : ℕ) → 1 ≤ n → n ≤ 64 → lines_of (header_text n) ≡ schema_said ∷ table_said ∷ cluster_said n ∷ []
lines_are n some few =
    ap (map strip_carriage_return) (parts_are n some few)
    ∙ ap (λ line. schema_said ∷ table_said ∷ line ∷ [])
    (unstripped (cluster_said n) (omega arith) (cluster_lacks 13 n some few refl refl (numeral_lacks 13 (decimal n) refl (numeral n some few))))

script_is : (n : ℕ) → 1 ≤ n → n ≤ 64 → script_lines (header_text n) ≡ the_lines n
script_is n some few = ap made (lines_are n some few)
  where
    made : List (List ℕ) → ScriptLines
    made lines = record { lines = numbered 1 lines; after = 1 + length lines }

-- ---- they are read

cluster_read : (n : ℕ) → 1 ≤ n → n ≤ 64 → cluster_of (cluster_said n) ≡ Some (record { servers = 3; controllers = 2; partitions = n; start = 1700000000000; grace = 0; options = record { retention = None; format = 2 } })
cluster_read n some few =
    (lines_spelled (cluster_said n) (record { servers = 3; controllers = 2; partitions = n; start = 1700000000000; grace = 0; options = record { retention = None; format = 2 } })).1
    (record {
      servers = codes "3";
      controllers = codes "2";
      partitions = decimal n;
      start = codes "1700000000000";
      grace = codes "0";
      retention = [];
      format = [];
      whole = refl;
      says_servers = record { numeral = refl; value = refl; fits = omega arith };
      says_controllers = record { numeral = refl; value = refl; fits = omega arith };
      says_partitions = spells n some few;
      says_start = record { numeral = refl; value = refl; fits = omega arith };
      says_grace = record { numeral = refl; value = refl; fits = omega arith };
      says_retention = refl;
      says_format = inl (refl, refl);
    })

no_fault : (n : ℕ) → 1 ≤ n → n ≤ 64 → cluster_fault (record { servers = 3; controllers = 2; partitions = n; start = 1700000000000; grace = 0; options = record { retention = None; format = 2 } }) 2 ≡ None
no_fault n some few =
    ap (λ b. cond (not b) (Some Partitions) None) (ap (λ b. b && nat_le n 64) (le-leb 1 n some) ∙ le-leb n 64 few)

abbrev only : Result Setup PlayFault → Result (Setup × List NumberedLine) PlayFault
only r = with_rest [] r

-- the schema and the table are read, whatever stands behind them
tables_read : (n : ℕ) → header_of (the_lines n) ≡ only (setup_at the_schema the_table (3, cluster_said n))
unfolding value lex punctuate content is_utf8 chars encode
tables_read n = refl

pub header_read : (n : ℕ) → 1 ≤ n → n ≤ 64 → header_of (script_lines (header_text n)) ≡ only (Ok (the_setup n))
header_read n some few =
    ap header_of (script_is n some few) ∙ tables_read n
    ∙ ap (λ o. only (if_well_formed 3 o (λ c. setup_with the_schema the_table 3 c (cluster_fault c 2)))) (cluster_read n some few)
    ∙ ap (λ f. only (setup_with the_schema the_table 3 (record { servers = 3; controllers = 2; partitions = n; start = 1700000000000; grace = 0; options = record { retention = None; format = 2 } }) f)) (no_fault n some few)

-- ---- the query

pub query_read : (n : ℕ) → (query : Query) × (query_said (line_in (the_setup n) generated_query) ≡ Some query)
unfolding is_utf8 chars encode
query_read n = (_, refl)
