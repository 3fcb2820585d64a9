-- The fronts by which a broker knows what each server was asked and gave.
use Rattle.std.specs.Prelude.{◌≡◌, ℕ, List, Some, slice_get}
use Rattle.rt_broker.specs.declared.piece_given.PieceGiven.{PieceGiven}
use Rattle.rt_front.specs.Histories.{Known}
use Rattle.rt_live_names.specs.Names.{Names}

-- each is of its server's history
abbrev pub AreFeeds : Names → List (Known PieceGiven) → Type 0
AreFeeds n fed =
    (i : ℕ) (front : Known PieceGiven) → slice_get fed i ≡ Some front → front.chronicle ≡ n.asked i
