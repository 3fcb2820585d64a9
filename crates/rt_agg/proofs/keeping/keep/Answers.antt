use Rattle.std.proofs.Common.{arith}
use Rattle.rt_agg.proofs.Kept.{kept_last, kept_next}
use Rattle.rt_agg.proofs.keeping.keep.Goals as goal

pub loop-i-preserved : goal.loop-i-preserved
loop-i-preserved g c =
    kept_next c.args.marks.now c.args.list.now c.loop-i.items c.push_marked.new.items c.loop-i.i c.index-list-i.result c.is_marked.result
    (omega arith) c.index-list-i.is c.is_marked.ensures c.in_ok-push_marked.ensures c.loop-i.invariant

pub returns : goal.returns
returns g c = kept_last c.args.marks.now c.args.list.now c.loop-i.items c.loop-i.i (omega arith) c.loop-i.invariant
