use Rattle.std.proofs.Common.{◌∙◌, arith, subst, sym}
use Rattle.rt_agg.specs.Sharing.{AreFirsts}
use Rattle.rt_agg.proofs.Spreading.{firsts_more}
use Rattle.rt_agg.proofs.sharing.places_of.Goals as goal

pub loop-i-preserved : goal.loop-i-preserved
loop-i-preserved c =
    let more = firsts_more c.args.items.now c.loop-i.places.items c.push.new.self.items c.loop-i.i c.first_place.result
    c.loop-i.invariant.long c.loop-i.invariant.each c.first_place.ensures c.in_ok-push.ensures.items in
    record { long = more.long; each = more.each }

pub returns : goal.returns
returns c =
    subst (AreFirsts c.args.items.now) (sym c.of.ensures)
    (record { long = c.loop-i.invariant.long ∙ omega arith; each = c.loop-i.invariant.each })
