use Rattle.std.proofs.Common.{◌≡◌, ◌∙◌, ◌+◌, drop, ap, arith}
use Rattle.std.proofs.lemmas.List.{take_rest}
use Rattle.std.specs.List.{prefix_len}
use Rattle.rt_macros.proofs.Doing.{list_ends, list_goes_on, list_stops}
use Rattle.rt_macros.proofs.Passed.{list_passes, list_starts, pass_within, rest_within}
use Rattle.rt_macros.specs.Doing.{Each}
use Rattle.rt_macros.specs.Resting.{rests_at}
use Rattle.rt_macros.specs.Settling.{ReplicaTurn}
use Rattle.rt_macros.proofs.settling.turn_all.Goals as goal

pub loop-at-init : goal.loop-at-init
loop-at-init c = record {
  unspent = c.requires;
  within = pass_within c.args.world.now.state c.args.instance c.args.segments.now c.resting-at.result c.resting-at.ensures;
  same = list_starts c.args.pause.now c.args.instance c.args.segments.now c.resting-at.result c.args.noted c.args.world.now.state c.resting-at.ensures;
}

pub overflow_add-at-in-loop-at : goal.overflow_add-at-in-loop-at
overflow_add-at-in-loop-at c =
    let w = c.replica_turn.new.world.state in
    let xs = c.args.segments.now in
    let at = c.loop-at.at + 1 in
    let passed : c.resting-at-in-loop-at.result ≡ prefix_len (rests_at w c.args.instance) (drop at xs) =
    c.resting-at-in-loop-at.ensures ∙ ap (prefix_len (rests_at w c.args.instance)) (take_rest xs at) in
    omega (arith, rest_within w c.args.instance xs at c.resting-at-in-loop-at.result passed (omega (arith, c.loop-at-test.true)))

pub loop-at-preserved : goal.loop-at-preserved
loop-at-preserved c =
    let w = c.replica_turn.new.world.state in
    let xs = c.args.segments.now in
    let at = c.loop-at.at + 1 in
    let all = Each (ReplicaTurn c.args.pause.now c.args.instance) xs c.args.noted c.args.world.now.state in
    let passed : c.resting-at-in-loop-at.result ≡ prefix_len (rests_at w c.args.instance) (drop at xs) =
    c.resting-at-in-loop-at.ensures ∙ ap (prefix_len (rests_at w c.args.instance)) (take_rest xs at) in
    let on =
    list_goes_on (ReplicaTurn c.args.pause.now c.args.instance) xs c.loop-at.at _ c.loop-at.busy c.in-Ok.now c.loop-at.world.state c.replica_turn.new.world all
    c.loop-at.invariant.same c.loop-at-test.true c.in-Ok.ensures in
    record {
      unspent = c.in-Ok.ensures.0;
      within = rest_within w c.args.instance xs at c.resting-at-in-loop-at.result passed (omega (arith, c.loop-at-test.true));
      same = list_passes c.args.pause.now c.args.instance xs at c.resting-at-in-loop-at.result c.in-Ok.now w all on passed;
    }

pub returns-in-Err : goal.returns-in-Err
returns-in-Err c =
    list_stops (ReplicaTurn c.args.pause.now c.args.instance) c.args.segments.now c.loop-at.at _ c.loop-at.busy c.loop-at.world.state c.replica_turn.new.world c.in-Err.refusal
    (Each (ReplicaTurn c.args.pause.now c.args.instance) c.args.segments.now c.args.noted c.args.world.now.state) c.loop-at.invariant.same c.loop-at-test.true c.in-Err.ensures

pub returns : goal.returns
returns c = (
  c.loop-at.invariant.unspent,
  list_ends (ReplicaTurn c.args.pause.now c.args.instance) c.args.segments.now c.loop-at.at c.loop-at.busy c.loop-at.world.state
      (Each (ReplicaTurn c.args.pause.now c.args.instance) c.args.segments.now c.args.noted c.args.world.now.state) c.loop-at.invariant.same
      (omega (arith, c.loop-at-test.false)),
)
