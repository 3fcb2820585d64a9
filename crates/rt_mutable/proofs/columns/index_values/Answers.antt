use Rattle.std.proofs.Common.{sym, arith}
use Rattle.rt_mutable.proofs.Rows.{with_none}
use Rattle.rt_mutable.proofs.Steps.{room_at, kind_at, next_at, some_at, back_at, same_count}
use Rattle.rt_mutable.proofs.columns.index_values.Goals as goal

pub loop-place-init : goal.loop-place-init
loop-place-init c = sym (with_none c.args.columns.now)

pub index-requires-clause-kind : goal.index-requires-clause-kind
index-requires-clause-kind c =
    let count = same_count c.args.columns.now c.args.values.now c.requires.kinds in
    kind_at c.args.columns.now c.loop-place.columns c.args.values.now c.loop-place.place c.index-columns-place.result c.loop-place.invariant (omega arith) c.index-columns-place.is
    c.index-values-place.result c.index-values-place.is (omega (arith, count)) c.requires.kinds

pub index-requires-clause-room : goal.index-requires-clause-room
index-requires-clause-room c =
    room_at c.args.columns.now c.loop-place.columns c.args.values.now c.loop-place.place c.index-columns-place.result c.loop-place.invariant (omega arith) c.index-columns-place.is 1000000 c.requires.room

pub take_back_all-requires : goal.take_back_all-requires
take_back_all-requires c =
    let count = same_count c.args.columns.now c.args.values.now c.requires.kinds in
    some_at c.args.columns.now c.loop-place.columns c.args.values.now c.loop-place.place c.index-columns-place.result c.loop-place.invariant (omega arith) c.index-columns-place.is (omega (arith, count)) c.index.new.self

pub returns-in-Err-clause-err : goal.returns-in-Err-clause-err
returns-in-Err-clause-err c =
    let count = same_count c.args.columns.now c.args.values.now c.requires.kinds in
    back_at c.args.columns.now c.loop-place.columns c.args.values.now c.loop-place.place c.index-columns-place.result c.loop-place.invariant (omega arith) c.index-columns-place.is (omega (arith, count)) c.index.new.self c.take_back_all.new.columns c.in-Err.ensures.err c.take_back_all.ensures

pub loop-place-preserved : goal.loop-place-preserved
loop-place-preserved c =
    let count = same_count c.args.columns.now c.args.values.now c.requires.kinds in
    next_at c.args.columns.now c.loop-place.columns c.args.values.now c.loop-place.place c.index-columns-place.result c.loop-place.invariant (omega arith) c.index-columns-place.is
    c.index-values-place.result c.index-values-place.is (omega (arith, count)) c.index.new.self c.in-Ok.ensures.ok
