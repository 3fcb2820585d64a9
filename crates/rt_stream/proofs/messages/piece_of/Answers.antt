use Rattle.std.proofs.Common.{◌-◌, length, drop, arith}
use Rattle.std.proofs.lemmas.List.{length-take}
use Rattle.rt_stream.proofs.Cuts.{cut-get, AreEnds-get}
use Rattle.rt_stream.proofs.messages.piece_of.Goals as goal

pub slice_bounds-result-count : goal.slice_bounds-result-count
slice_bounds-result-count c =
    let facts =
    AreEnds-get 0 c.args.ends.now
    (length c.args.bytes.now) c.args.place c.requires.ends c.requires.place in
    omega arith

pub slice_bounds-result-end : goal.slice_bounds-result-end
slice_bounds-result-end c =
    let facts =
    AreEnds-get 0 c.args.ends.now
    (length c.args.bytes.now) c.args.place c.requires.ends c.requires.place in
    omega arith

pub returns-clause-message : goal.returns-clause-message
returns-clause-message c = rw (c.bounds_of-start.ensures.start, c.bounds_of-start.ensures.end)
    (cut-get 0 c.args.ends.now c.args.bytes.now c.args.place c.requires.place)

pub returns-clause-short : goal.returns-clause-short
returns-clause-short c =
    let facts =
    AreEnds-get 0 c.args.ends.now
    (length c.args.bytes.now) c.args.place c.requires.ends c.requires.place in
    let size = length-take (c.bounds_of-start.result.1 - c.bounds_of-start.result.0)
    (drop c.bounds_of-start.result.0 c.args.bytes.now) in
    omega arith

pub slice_bounds-result-start : goal.slice_bounds-result-start
slice_bounds-result-start c =
    let facts =
    AreEnds-get 0 c.args.ends.now
    (length c.args.bytes.now) c.args.place c.requires.ends c.requires.place in
    omega arith
