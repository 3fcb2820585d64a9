use Rattle.std.proofs.Common.{◌≡◌, take}
use Rattle.serde_json.specs.Data.{no_members}
use Rattle.rt_schema.specs.Flat.{data_of, found_in}
use Rattle.rt_schema.proofs.row_reader.blank.Given as goal

abbrev pub invariant-loop-i : goal.invariant-loop-i
invariant-loop-i l = data_of l.found.items ≡ found_in (take l._i l.columns) no_members
