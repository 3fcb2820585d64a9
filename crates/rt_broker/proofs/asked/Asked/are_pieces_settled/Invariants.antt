use Rattle.std.proofs.Common.{◌≡◌, drop}
use Rattle.std.specs.List.{list_all}
use Rattle.rt_broker.specs.Asking.{is_settled, assigned_at}
use Rattle.rt_broker.proofs.asked.Asked.are_pieces_settled.Given as goal

-- those so far are settled
abbrev pub invariant-loop-piece : goal.invariant-loop-piece
invariant-loop-piece l =
    list_all (is_settled (assigned_at l.self l.partition)) (drop l.piece-index l.pieces)
    ≡ list_all (is_settled (assigned_at l.self l.partition)) l.pieces
