use Rattle.std.proofs.lemmas.Option.{slice_get_within}
use Rattle.rt_live_broker.proofs.Wholes.{counted_none, counted_some}
use Rattle.rt_live_broker.proofs.whole.count.Goals as goal

pub returns-in_default : goal.returns-in_default
returns-in_default c = counted_none c.args.lengths.now c.args.partition c.in_default.ensures.none

pub at_mut-requires : goal.at_mut-requires
at_mut-requires c = slice_get_within c.args.lengths.now c.args.partition.0 c.in-Some.length.now c.in-Some.ensures.some

pub returns : goal.returns
returns c = counted_some c.args.lengths.now c.args.partition c.in-Some.length.now c.in-Some-checked_add.more c.in-Some.ensures.some c.in-Some-checked_add.ensures.1
