use Rattle.std.proofs.Common.{◌≡◌, length, take}
use Rattle.rt_seek.proofs.Sought.{found_with, all_found}
use Rattle.rt_seek.proofs.seeking.rows_of_one.Given as goal

-- what is found, and then what the literals from this place on find, is what all of them find
abbrev pub invariant-loop-literal : goal.invariant-loop-literal
invariant-loop-literal l = record {
  found : found_with l.column.values l.rows l.literals l.literal-index l.set ≡ all_found l.column.values l.rows l.literals;
  size : length l.set ≡ length (take l.rows l.column.values);
}
