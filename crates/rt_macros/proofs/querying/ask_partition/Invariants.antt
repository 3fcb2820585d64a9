use Rattle.std.proofs.Common.{◌≡◌, false, drop}
use Rattle.rt_macros.specs.Doing.{Each}
use Rattle.rt_macros.proofs.Doing.{Leads}
use Rattle.rt_macros.specs.Querying.{AsksPartition, AsksPiece}
use Rattle.rt_macros.proofs.querying.ask_partition.Given as goal

abbrev pub invariant-loop-piece : goal.invariant-loop-piece
invariant-loop-piece l = record {
  unspent : l.world.spent ≡ false;
  same : Leads (Each (AsksPiece l.number) (drop l.piece-index l.piece-items) tt l.world.state) (AsksPartition l.number l.fn.partition.0 tt l.initial.world.state) l.initial.world.state l.world.state;
}
