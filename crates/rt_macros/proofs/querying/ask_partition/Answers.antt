use Rattle.std.proofs.Common.{arith}
use Rattle.rt_macros.proofs.Doing.{list_ends, list_goes_on, list_stops}
use Rattle.rt_macros.specs.Querying.{AsksPartition, AsksPiece}
use Rattle.rt_macros.proofs.querying.ask_partition.Goals as goal

pub loop-piece-preserved : goal.loop-piece-preserved
loop-piece-preserved c = record {
  unspent = c.in-Ok.ensures.0;
  same = list_goes_on (AsksPiece c.args.number) c.as_slice-piece-items.result.now c.loop-piece.piece-index _ tt tt c.loop-piece.world.state c.ask_piece.new.world (AsksPartition c.args.number c.args.partition.0 tt c.args.world.now.state) c.loop-piece.invariant.same c.loop-piece-test.true c.in-Ok.ensures;
}

pub returns-in-Err : goal.returns-in-Err
returns-in-Err c = list_stops (AsksPiece c.args.number) c.as_slice-piece-items.result.now c.loop-piece.piece-index _ tt c.loop-piece.world.state c.ask_piece.new.world c.in-Err.refusal (AsksPartition c.args.number c.args.partition.0 tt c.args.world.now.state) c.loop-piece.invariant.same c.loop-piece-test.true c.in-Err.ensures

pub returns : goal.returns
returns c = (
  c.loop-piece.invariant.unspent,
  list_ends (AsksPiece c.args.number) c.as_slice-piece-items.result.now c.loop-piece.piece-index tt c.loop-piece.world.state (AsksPartition c.args.number c.args.partition.0 tt c.args.world.now.state)
      c.loop-piece.invariant.same (omega (arith, c.loop-piece-test.false)),
)
