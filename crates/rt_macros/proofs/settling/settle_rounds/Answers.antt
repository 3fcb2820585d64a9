use Rattle.std.proofs.Common.{◌-◌, Ok, arith, subst}
use Rattle.rt_macros.specs.Doing.{Does}
use Rattle.rt_macros.proofs.Turns.{rounds_end, rounds_go_on, rounds_over, rounds_stop}
use Rattle.rt_macros.specs.Settling.{Round, SettlesIn}
use Rattle.rt_macros.proofs.settling.settle_rounds.Goals as goal

pub loop-left-preserved : goal.loop-left-preserved
loop-left-preserved c = record {
  unspent = c.in-Ok-true.ensures.0;
  same = rounds_go_on c.args.pause.now c.loop-left.left (c.loop-left.left - 1) c.loop-left.world.state c.round.new.world (SettlesIn c.args.pause.now c.args.rounds c.args.world.now.state) c.loop-left.invariant.same (omega (arith, c.loop-left-test.true)) (subst (λ b. Does (Round c.args.pause.now) c.loop-left.world.state c.round.new.world (Ok b)) c.in-Ok-true.field-0-test c.in-Ok-true.ensures);
}

pub returns-in-Ok-false : goal.returns-in-Ok-false
returns-in-Ok-false c =
    rounds_end c.args.pause.now c.loop-left.left (c.loop-left.left - 1) c.loop-left.world.state c.round.new.world (SettlesIn c.args.pause.now c.args.rounds c.args.world.now.state) c.loop-left.invariant.same (omega (arith, c.loop-left-test.true)) (subst (λ b. Does (Round c.args.pause.now) c.loop-left.world.state c.round.new.world (Ok b)) c.in-Ok-false.field-0-test c.in-Ok-false.ensures)

pub returns-in-Err : goal.returns-in-Err
returns-in-Err c =
    rounds_stop c.args.pause.now c.loop-left.left (c.loop-left.left - 1) c.loop-left.world.state c.round.new.world c.in-Err.refusal (SettlesIn c.args.pause.now c.args.rounds c.args.world.now.state) c.loop-left.invariant.same (omega (arith, c.loop-left-test.true)) c.in-Err.ensures

pub returns : goal.returns
returns c = (
  c.loop-left.invariant.unspent,
  rounds_over c.args.pause.now c.loop-left.left c.loop-left.world.state (SettlesIn c.args.pause.now c.args.rounds c.args.world.now.state)
      c.loop-left.invariant.same (omega (arith, c.loop-left-test.false)),
)
