use Rattle.std.proofs.Common.{◌≡◌, All, length, take}
use Rattle.std.specs.List.{flat_map}
use Rattle.rt_segment.specs.Spelling.{capped}
use Rattle.rt_segment.proofs.dictionary.size_of.Given as goal

abbrev pub invariant-loop-id : goal.invariant-loop-id
invariant-loop-id g l = record {
  fits : All g.K.Stored.fits (take l.id l.dict);
  size : l.size ≡ capped (length (flat_map g.K.Stored.spelled (take l.id l.dict)));
}
