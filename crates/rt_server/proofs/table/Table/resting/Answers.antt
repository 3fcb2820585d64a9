use Rattle.std.proofs.Common.{◌∙◌, sym, subst, arith}
use Rattle.std.proofs.lemmas.List.Sums.{prefix_len-drop_yes, prefix_len-drop_no}
use Rattle.std.specs.declared.ops.Bound.TheVariants.{Included, Unbounded}
use Rattle.rt_server.specs.Resting.{IsWalk, rests_at}
use Rattle.rt_server.proofs.Walks.{range_walks}
use Rattle.rt_server.proofs.table.Table.resting.Goals as goal

pub loop-passed-init : goal.loop-passed-init
loop-passed-init c = record {
  walks =
      subst (λ t. IsWalk t c.range-walk.result) c.self.view_is
      (range_walks c.self.inside.modes.entries c.self.inside.entries (Included c.in-Some.first.now) Unbounded c.range-walk.result (c.range-walk.ensures.in_range tt));
  rested = omega arith;
}

pub returns-then-not-next_rests : goal.returns-then-not-next_rests
returns-then-not-next_rests c =
    let stops = prefix_len-drop_no (rests_at c.args.self.now) c.args.segments.now c.loop-passed.passed _ c.loop-passed-test.true (sym c.next_rests.ensures.rests ∙ c.if-not-next_rests.true) in
    omega (arith, stops, c.loop-passed.invariant.rested)

pub loop-passed-preserved : goal.loop-passed-preserved
loop-passed-preserved c = record {
  walks = c.next_rests.ensures.walk;
  rested =
      let more = prefix_len-drop_yes (rests_at c.args.self.now) c.args.segments.now c.loop-passed.passed _ c.loop-passed-test.true (sym c.next_rests.ensures.rests ∙ c.if-not-next_rests.false) in
      omega (arith, more, c.loop-passed.invariant.rested);
}
