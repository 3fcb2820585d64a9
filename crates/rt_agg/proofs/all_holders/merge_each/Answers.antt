use Rattle.std.proofs.Common.{arith, sym, ap, refl, ◌∙◌, ◌≡◌, ◌+◌, ◌++◌, take, drop, slice_set, subst}
use Rattle.std.proofs.lemmas.Option.{slice_get_read}
use Rattle.rt_agg.specs.GroupTable.{all_merged_in}
use Rattle.rt_agg.proofs.Walks.{merged_end, merged_next, merged_skip}
use Rattle.rt_agg.proofs.all_holders.merge_each.Goals as goal
use Rattle.rt_agg.proofs.all_holders.merge_each.Goals.{then-i-len, else-i-len}

pub loop-i-preserved : goal.loop-i-preserved
loop-i-preserved c =
    let all = all_merged_in c.args.group c.args.from in
    let wanted = all c.args.holders.now c.args.others.now in
    elim c.if-i-len.branch [
      | then-i-len w ↦
          subst (λ xs. take (c.loop-i.i + 1) xs ++ all (drop (c.loop-i.i + 1) xs) (drop (c.loop-i.i + 1) c.args.others.now) ≡ wanted) (sym (w.holders-is ∙ ap (slice_set c.loop-i.holders c.loop-i.i) w.merge.ensures))
          (merged_next c.args.group c.args.from c.loop-i.holders c.args.others.now wanted c.loop-i.i w.at_mut.result.now w.index-others-i.result
          w.at_mut.ensures.item
          (slice_get_read c.args.others.now _ c.loop-i.i w.index-others-i.result refl (omega arith) w.index-others-i.is)
          c.loop-i.invariant)
      | else-i-len w ↦
          subst (λ xs. take (c.loop-i.i + 1) xs ++ all (drop (c.loop-i.i + 1) xs) (drop (c.loop-i.i + 1) c.args.others.now) ≡ wanted) (sym w.holders-is)
          (merged_skip c.args.group c.args.from c.loop-i.holders c.args.others.now wanted c.loop-i.i (omega arith) c.loop-i.invariant)
    ]

pub returns : goal.returns
returns c = sym (merged_end c.args.group c.args.from c.loop-i.holders c.args.others.now c.loop-i.i (omega arith)) ∙ c.loop-i.invariant
