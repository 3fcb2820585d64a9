-- What is noted of the pieces that servers were asked for.
use Rattle.std.specs.Prelude.{◌≡◌, ◌≤◌, true, Option, Some, None, Result, Ok, Err}
use Rattle.rt_base.specs.declared.numbers.Instance.{Instance}
use Rattle.rt_base.specs.declared.numbers.Offset.{Offset}
use Rattle.rt_base.specs.declared.range.Range.{Range}
use Rattle.rt_model.specs.declared.piece.Piece.{Piece}
use Rattle.rt_broker.specs.declared.piece_got.PieceGot.{PieceGot}
use Rattle.rt_broker.specs.declared.piece_got.PieceGot.TheVariants as got
use Rattle.rt_broker.specs.declared.refused.BrokerRefused.{BrokerRefused}
use Rattle.rt_broker.specs.declared.refused.BrokerRefused.TheVariants.{NotDue, StoreFault, Memory}
use Rattle.rt_broker.specs.declared.route.Route.TheVariants.{Planned}
use Rattle.rt_broker.specs.Asking.{Asking, piece_at, plan_at, is_piece_due, with_answer, with_route}

abbrev pub IsEnd : Option Offset → Offset → Type 0
IsEnd None at = Unit {0}
IsEnd (Some end) at = at ≡ end

-- the piece from its start to its end, or to some offset where it has no end
pub record IsRangeOf (piece : Piece) (range : Range) : Type 0 where
  pub start : range.start ≡ piece.start
  pub end : IsEnd piece.end range.end
  pub order : range.start.0 ≤ range.end.0

-- what was served, if it was, is the piece
abbrev pub FitsPiece : Piece → PieceGot → Type 0
FitsPiece piece (got.Served served) = IsRangeOf piece served.range
FitsPiece piece got.NotServed = Unit {0}
FitsPiece piece got.Down = Unit {0}

-- the plan has this very piece, and the server is to be asked for it
abbrev pub IsNoteDue : Asking → Piece → Instance → Type 0
IsNoteDue a piece from =
    (piece_at a piece.partition piece.sequence ≡ Some piece) × (is_piece_due a piece.partition piece.sequence from ≡ true)

abbrev pub noted : Asking → Piece → Instance → PieceGot → Asking
noted a piece from what =
    with_route a piece.partition
    (Planned (with_answer piece.sequence (record { from = from; got = what }) (plan_at a piece.partition)))

abbrev pub Notes : Asking → Piece → Instance → PieceGot → Asking → Result (Unit {0}) BrokerRefused → Type 0
Notes a piece from what b (Ok done) = IsNoteDue a piece from × (b ≡ noted a piece from what)
Notes a piece from what b (Err NotDue) = (IsNoteDue a piece from → ⊥) × (b ≡ a)
Notes a piece from what b (Err StoreFault) = ⊥
Notes a piece from what b (Err Memory) = IsNoteDue a piece from × (b ≡ a)
