use Rattle.std.proofs.Common.{ap, arith, length, refl, sym, subst, map}
use Rattle.std.specs.Vec.Iter.{into_iter_items}
use Rattle.std.proofs.lemmas.List.{nil_from_length}
use Rattle.rt_live_join.specs.Left.{fronts_by}
use Rattle.rt_live_join.specs.Meeting.{MeetsAll}
use Rattle.rt_live_join.proofs.Meets.{meets_further}
use Rattle.rt_live_join.proofs.meeting.meet_all.Goals as goal

pub loop-other-preserved : goal.loop-other-preserved
loop-other-preserved g c =
    let at = c.loop-other in
    let steps = c.in-Some.ensures.steps.0 in
    record {
      left = omega (arith, at.invariant.left, c.in-Some.ensures.steps.1, ap length steps);
      meets = λ new h. at.invariant.meets new
          (meets_further at.caller c.meet_one-caller.result c.in-Some.other (into_iter_items at.other-iterator)
          (into_iter_items c.next.new.self) steps c.meet_one-caller.ensures new h);
    }

pub returns : goal.returns
returns g c =
    let at = c.loop-other in
    let none =
    nil_from_length (into_iter_items at.other-iterator)
    (omega (arith, c.in-None.ensures.steps.0, at.invariant.left)) in
    at.invariant.meets (fronts_by at.caller)
    (subst (λ l. MeetsAll (fronts_by at.caller) (map fronts_by l) (fronts_by at.caller)) (sym none) refl)
