use Rattle.std.proofs.Common.{◌≡◌, ◌++◌, take}
use Rattle.std.specs.List.{flat_map}
use Rattle.rt_segment.proofs.dictionary_writer.write_values.Given as goal

abbrev pub invariant-loop-id : goal.invariant-loop-id
invariant-loop-id g l = l.out.items ≡ l.initial.out.items ++ flat_map g.K.Stored.spelled (take l.id l.dict)
