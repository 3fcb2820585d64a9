use Rattle.std.proofs.Common.{◌≡◌, List, length, take}
use Rattle.std.specs.Map.{lookup, keys_of}
use Rattle.rt_schema.specs.declared.value.Value.{Value}
use Rattle.rt_agg.specs.Grouped.{same_key}
use Rattle.rt_agg.specs.GroupTable.{IsOfSame}
use Rattle.rt_agg.specs.Merging.{merged_at}
use Rattle.rt_agg.proofs.merging.merge_each.Given as goal

abbrev pub invariant-loop-i : goal.invariant-loop-i
invariant-loop-i l = record {
  known : l.initial.table.items ≡ l.others.items → (q : List Value) → lookup (same_key q) l.table.entries ≡ merged_at (lookup (same_key q) l.initial.table.entries) (lookup (same_key q) (take l.i l.others.entries));
  keys : keys_of l.table.entries ≡ keys_of l.initial.table.entries;
  long : length l.places ≡ length l.others.entries;
  same : IsOfSame l.initial.table l.table;
}
