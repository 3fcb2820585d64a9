use Rattle.std.proofs.Common.{◌≡◌, ◌+◌, drop, option_map}
use Rattle.rt_hybrid.specs.Table.{place_of}
use Rattle.rt_hybrid.proofs.times.place_of.Given as goal

abbrev pub invariant-loop-column : goal.invariant-loop-column
invariant-loop-column l = record {
  place : l.place ≡ l.column-index;
  rest : place_of l.name l.columns ≡ option_map (λ later. l.place + later) (place_of l.name (drop l.column-index l.columns));
}
