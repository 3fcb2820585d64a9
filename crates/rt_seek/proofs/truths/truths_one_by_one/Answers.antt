use Rattle.rt_seek.specs.Keys.{key_passes}
use Rattle.rt_seek.proofs.Keys.{one_more}
use Rattle.rt_seek.proofs.truths.truths_one_by_one.Goals as goal

pub loop-id-preserved : goal.loop-id-preserved
loop-id-preserved g c =
    one_more (key_passes g.K.Comparable.against c.args.test.now) c.args.dict.now c.loop-id.id c.value.result.now c.loop-id.truths.items c.push.new.self.items c.key_passes.result
    c.value.ensures c.loop-id.invariant c.key_passes.ensures c.in_ok-push.ensures.items
