use Rattle.std.proofs.Common.{arith, subst}
use Rattle.rt_upsert.specs.Changes.{IsNext}
use Rattle.rt_upsert.proofs.TakingOut.{left_more, count_more, shorter_more, count_fits, left_all}
use Rattle.rt_upsert.proofs.upsert.Upsert.take_out.Goals as goal

pub overflow_add-count : goal.overflow_add-count
overflow_add-count c =
    let next = subst (IsNext c.loop-next.self.rows c.args.sequence c.args.from) c.in-Some.is c.loop-next.invariant.next in
    let fits = count_fits c.args.sequence c.args.from c.loop-next.self c.in-Some.place c.loop-next.count _ next c.loop-next.invariant.counted c.loop-next.invariant.few in
    omega (arith, fits)

pub loop-next-smaller : goal.loop-next-smaller
loop-next-smaller c =
    let next = subst (IsNext c.loop-next.self.rows c.args.sequence c.args.from) c.in-Some.is c.loop-next.invariant.next in
    shorter_more c.args.sequence c.args.from c.args.self.now c.loop-next.self c.take.new.self c.in-Some.place next c.take.ensures

pub loop-next-preserved : goal.loop-next-preserved
loop-next-preserved c =
    let next = subst (IsNext c.loop-next.self.rows c.args.sequence c.args.from) c.in-Some.is c.loop-next.invariant.next in
    record {
      kept = left_more c.args.sequence c.args.from c.args.self.now c.loop-next.self c.take.new.self c.in-Some.place next c.take.ensures c.loop-next.invariant.kept;
      next = c.first_from-next-in-Some.ensures.next;
      counted = count_more c.args.sequence c.args.from c.args.self.now c.loop-next.self c.take.new.self c.in-Some.place next c.take.ensures c.loop-next.count c.loop-next.invariant.counted;
      few = c.loop-next.invariant.few;
    }

pub returns-clause-rows : goal.returns-clause-rows
returns-clause-rows c =
    left_all c.args.sequence c.args.from c.args.self.now c.loop-next.self
    (subst (IsNext c.loop-next.self.rows c.args.sequence c.args.from) c.in_default.is c.loop-next.invariant.next) c.loop-next.invariant.kept
