use Rattle.std.proofs.Common.{◌+◌, ◌∙◌, ap, map, subst, sym}
use Rattle.rt_agg.specs.ResultHolder.{item_of}
use Rattle.rt_agg.specs.Sharing.{AreHeld}
use Rattle.rt_agg.proofs.Spreading.{held_more, items_more}
use Rattle.rt_agg.proofs.sharing.hold_all.Goals as goal

pub loop-i-preserved : goal.loop-i-preserved
loop-i-preserved c =
    subst (AreHeld c.args.items.now c.args.places.now (c.loop-i.i + 1)) (sym (ap (map item_of) c.in_ok-push.ensures.items ∙ items_more c.loop-i.held.items c.in_ok-hold_one.field-0))
    (held_more c.args.items.now c.args.places.now c.loop-i.i (map item_of c.loop-i.held.items) (item_of c.in_ok-hold_one.field-0) c.loop-i.invariant c.in_ok-hold_one.ensures)
