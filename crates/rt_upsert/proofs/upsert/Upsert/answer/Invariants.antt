use Rattle.std.proofs.Common.{map}
use Rattle.std.specs.Map.Iter.{deref_pair}
use Rattle.rt_agg.specs.Grouped.{Holds}
use Rattle.rt_upsert.proofs.Answering.{answered}
use Rattle.rt_upsert.proofs.upsert.Upsert.answer.Given as goal

abbrev pub invariant-loop-place : goal.invariant-loop-place
invariant-loop-place l = Holds l.query (answered l.self l.query (map deref_pair l.yielded)) l.groups
