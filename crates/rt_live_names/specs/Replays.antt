-- The replay of what a node did: each thing that it did is a step from what it was to what it became.
use Rattle.std.specs.Prelude.{◌≡◌, List, [], ◌∷◌}

module _ {D N : Type 0} where
  abbrev pub Replays : (N → D → N → Type 0) → N → List D → N → Type 0
  Replays step a [] b = b ≡ a
  Replays step a (d ∷ ds) b = (m : N) × step a d m × Replays step m ds b
