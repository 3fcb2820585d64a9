-- Groups that hold the same rows, however they lie.
use Rattle.std.specs.Prelude.{◌≡◌}
use Rattle.rt_broker.specs.Answering.{AreHeld, RowsOf, rows_held, served_of}
use Rattle.rt_broker.specs.Asking.{Asking}

-- what was served of two queries holds the same rows, one after the other
pub record HoldTheSame (a b : Asking) : Type 0 where
  pub rows : RowsOf
  pub left : AreHeld a.query rows (served_of a)
  pub right : AreHeld b.query rows (served_of b)
  pub same : rows_held rows (served_of a) ≡ rows_held rows (served_of b)
