use Rattle.std.proofs.Common.{◌≡◌, ℕ, List, true, take}
use Rattle.rt_schema.specs.Schema.{names_of, is_among, are_distinct}
use Rattle.rt_schema.proofs.Names.{has_key}
use Rattle.rt_schema.proofs.schema_reader.are_distinct.Given as goal

abbrev pub invariant-loop-column : goal.invariant-loop-column
invariant-loop-column l = record {
  came : (q : List ℕ) → has_key l.names.keys q ≡ is_among q (names_of (take l.column-index l.columns));
  distinct : are_distinct (names_of (take l.column-index l.columns)) ≡ true;
}
