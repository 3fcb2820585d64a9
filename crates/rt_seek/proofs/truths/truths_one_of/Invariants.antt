use Rattle.std.proofs.Common.{◌≡◌, map, drop, length}
use Rattle.rt_postings.specs.DocSet.{either}
use Rattle.rt_seek.specs.Keys.{equals_one}
use Rattle.rt_seek.proofs.truths.truths_one_of.Given as goal

-- what is marked, and then what the literals from this place on mark, is what all of them mark
abbrev pub invariant-loop-literal : goal.invariant-loop-literal
invariant-loop-literal g l = record {
  marked : either l.truths.items (map (λ v. equals_one g.K.Comparable.against v (drop l.literal-index l.literals)) l.dict) ≡ map (λ v. equals_one g.K.Comparable.against v l.literals) l.dict;
  count : length l.truths.items ≡ length l.dict;
}
