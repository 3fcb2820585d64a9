-- The fronts by which a broker knows what each server gave, beside the histories of the servers.
use Rattle.std.specs.Prelude.{◌≡◌, List, [], ◌∷◌}
use Rattle.rt_broker.specs.declared.piece_given.PieceGiven.{PieceGiven}
use Rattle.rt_front.specs.Histories.{History, Known}
use Rattle.rt_lists.specs.Members.{IsFront}

-- each front is of the history at its place
abbrev pub AreOfOneHistory : List (History PieceGiven) → List (Known PieceGiven) → Type 0
AreOfOneHistory pieces [] = Unit {0}
AreOfOneHistory [] (feed ∷ feeds) = Unit {0}
AreOfOneHistory (of_server ∷ pieces) (feed ∷ feeds) =
    (feed.chronicle ≡ of_server.chronicle) × AreOfOneHistory pieces feeds

-- what each front showed was given by the server of its place
abbrev pub WereGiven : List (History PieceGiven) → List (Known PieceGiven) → Type 0
WereGiven pieces [] = Unit {0}
WereGiven [] (feed ∷ feeds) = ⊥
WereGiven (of_server ∷ pieces) (feed ∷ feeds) = IsFront feed.seen of_server.log × WereGiven pieces feeds
