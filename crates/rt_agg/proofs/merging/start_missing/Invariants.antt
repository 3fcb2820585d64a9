use Rattle.std.proofs.Common.{◌≡◌, ◌≤◌, List, [], length, map, take}
use Rattle.std.specs.Prelude.{is_some}
use Rattle.std.specs.Map.{lookup, keys_of}
use Rattle.rt_schema.specs.declared.value.Value.{Value}
use Rattle.rt_agg.specs.Accumulators.{known_of}
use Rattle.rt_agg.specs.Grouped.{same_key}
use Rattle.rt_agg.specs.GroupTable.{IsOfSame}
use Rattle.rt_agg.specs.Merging.{AreAt, started_at}
use Rattle.rt_agg.proofs.merging.start_missing.Given as goal

abbrev pub invariant-loop-i : goal.invariant-loop-i
invariant-loop-i l = record {
  known : (q : List Value) → lookup (same_key q) l.table.entries ≡ started_at (map (known_of l.initial.table.columns q []) l.initial.table.items) (lookup (same_key q) l.initial.table.entries) (is_some (lookup (same_key q) (take l.i l.others.entries)));
  kept : take (length l.initial.table.entries) l.table.entries ≡ l.initial.table.entries;
  grown : length l.initial.table.entries ≤ length l.table.entries;
  places : AreAt (keys_of l.table.entries) l.places.items (keys_of (take l.i l.others.entries));
  same : IsOfSame l.initial.table l.table;
}
