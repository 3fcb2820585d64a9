use Rattle.std.proofs.Common.{◌≡◌, ◌+◌, ◌++◌, ◌∙◌, List, Some, ap, arith, drop, map, slice_get, slice_set, subst, suc, take}
use Rattle.rt_agg.specs.ResultHolder.{started_in}
use Rattle.rt_agg.specs.declared.result_holder.ResultHolder.{ResultHolder}
use Rattle.rt_agg.proofs.Holders.{set_read, start_step}
use Rattle.rt_agg.proofs.all_holders.start_all.Goals as goal

pub returns-in_err-start-clause-some : goal.returns-in_err-start-clause-some
returns-in_err-start-clause-some c =
    (c.loop-i.i, ap (slice_set c.loop-i.holders c.loop-i.i) c.in_err-start.ensures.err ∙ set_read c.loop-i.holders c.loop-i.i c.at_mut.result.now c.at_mut.ensures.item ∙ c.loop-i.invariant)

pub loop-i-preserved : goal.loop-i-preserved
loop-i-preserved c =
    let i = c.loop-i.i in
    let all = c.args.holders.now in
    let next : suc i ≡ i + 1 = omega arith in
    (λ j. slice_set (c.loop-i.invariant j) i (c.in_ok-start.ensures.ok j))
    ∙ start_step c.args.group i all c.at_mut.result.now (subst (λ (hs : List ResultHolder). slice_get hs i ≡ Some c.at_mut.result.now) c.loop-i.invariant c.at_mut.ensures.item)
    ∙ ap (λ n. map (started_in c.args.group) (take n all) ++ drop n all) next
