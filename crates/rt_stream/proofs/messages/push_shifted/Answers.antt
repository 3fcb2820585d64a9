use Rattle.std.proofs.Common.{arith}
use Rattle.rt_stream.proofs.Ranges.{end_within}
use Rattle.rt_stream.proofs.messages.push_shifted.Goals as goal

pub overflow_sub-place : goal.overflow_sub-place
overflow_sub-place c =
    (end_within c.args.start c.args.more.now c.args.end c.loop-place.place-index 0 c.requires.ends
    c.loop-place-test.true).0

pub overflow_add-place : goal.overflow_add-place
overflow_add-place c =
    let facts = end_within c.args.start c.args.more.now c.args.end c.loop-place.place-index 0
    c.requires.ends c.loop-place-test.true in
    omega (arith, c.requires.fit)
