use Rattle.std.proofs.Common.{◌+◌, ◌∙◌, ap, arith, sym}
use Rattle.std.proofs.lemmas.List.Sums.{count_by_more_no, count_by_more_yes}
use Rattle.rt_dryrun.specs.Rehearsing.{is_new}
use Rattle.rt_dryrun.proofs.planning.count_new.Goals as goal
use Rattle.rt_dryrun.proofs.planning.count_new.Goals.{else-is_new, then-is_new}

pub loop-entry-preserved : goal.loop-entry-preserved
loop-entry-preserved c = elim c.if-is_new.branch [
  | then-is_new w ↦ record {
    counted = w.count-is ∙ ap (λ n. n + 1) c.loop-entry.invariant.counted
        ∙ sym (count_by_more_yes (is_new c.args.had.now) c.args.entries.now c.loop-entry.entry-index _ (omega (arith, c.loop-entry-test.true)) (sym c.is_new.ensures ∙ w.if-is_new.true));
    few = omega (arith, w.count-is, c.loop-entry.invariant.few);
  }
  | else-is_new w ↦ record {
    counted = w.count-is ∙ c.loop-entry.invariant.counted
        ∙ sym (count_by_more_no (is_new c.args.had.now) c.args.entries.now c.loop-entry.entry-index _ (omega (arith, c.loop-entry-test.true)) (sym c.is_new.ensures ∙ w.if-is_new.false));
    few = omega (arith, w.count-is, c.loop-entry.invariant.few);
  }
]
