-- The parts of a diary.
use Rattle.std.specs.Prelude.{◌≡◌}
use Rattle.atomic_table.specs.Seated.{TableId}
use Rattle.rt_front.specs.Histories.{History, Known, known}

-- the keeper and its one front are of this chronicle, and the front has seen all
pub record IsDiary {T : Type 0} (chronicle : TableId) (kept : History T) (seen : Known T) : Type 0 where
  pub keeper : kept.chronicle ≡ chronicle
  pub front : seen ≡ known chronicle kept.log seen.numbers
