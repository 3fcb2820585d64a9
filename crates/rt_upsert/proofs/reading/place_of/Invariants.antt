use Rattle.std.proofs.Common.{◌≡◌, ◌+◌, drop}
use Rattle.rt_upsert.specs.Latest.{place_of}
use Rattle.rt_upsert.proofs.reading.place_of.Given as goal

abbrev pub invariant-loop-column : goal.invariant-loop-column
invariant-loop-column l = record {
  at : l.place ≡ l.column-index;
  rest : l.place + place_of l.name (drop l.column-index l.columns) ≡ place_of l.name l.columns;
}
