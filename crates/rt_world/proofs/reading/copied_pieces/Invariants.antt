use Rattle.std.proofs.Common.{◌≡◌, take}
use Rattle.rt_world.proofs.reading.copied_pieces.Given as goal

-- those so far
abbrev pub invariant-loop-piece : goal.invariant-loop-piece
invariant-loop-piece l = l.copies ≡ take l.piece-index l.pieces
