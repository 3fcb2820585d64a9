use Rattle.std.proofs.Common.{arith}
use Rattle.rt_broker.proofs.Gaining.{gain_next_piece, gain_end_pieces}
use Rattle.rt_broker.proofs.answering.gain_pieces.Goals as goal

pub loop-piece-preserved : goal.loop-piece-preserved
loop-piece-preserved c =
    gain_next_piece c.args.asked.now c.loop-piece.piece-index c.piece-item.result c.args.groups.now c.loop-piece.groups c.gain_piece.new.groups
    c.loop-piece-test.true c.piece-item.is c.in_ok-gain_piece.ensures c.loop-piece.invariant

pub returns : goal.returns
returns c =
    gain_end_pieces c.args.asked.now c.loop-piece.piece-index c.args.groups.now c.loop-piece.groups (omega (arith, c.loop-piece-test.false))
    c.loop-piece.invariant
