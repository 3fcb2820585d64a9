-- The ranges that an answer names of a partition, beside the range of a segment.
use Rattle.std.specs.Prelude.{◌≤◌, ◌⊎◌, ℕ, List, [], ◌∷◌, ◌==◌, if◌then◌else◌}
use Rattle.rt_base.specs.declared.numbers.Partition.{Partition}
use Rattle.rt_base.specs.declared.range.Range.{Range}

-- those of a partition, in their order
abbrev pub ranges_at : Partition → List (Partition × Range) → List Range
ranges_at p [] = []
ranges_at p (x ∷ xs) = if x.0.0 == p.0 then x.1 ∷ ranges_at p xs else ranges_at p xs

-- so it is of each
abbrev pub Each : (Range → Type 0) → List Range → Type 0
Each P [] = Unit {0}
Each P (r ∷ rs) = P r × Each P rs

-- a range lies before another one or behind it, or has the whole of it
abbrev pub Spares : Range → Range → Type 0
Spares r s = (s.end.0 ≤ r.start.0) ⊎ (r.end.0 ≤ s.start.0) ⊎ ((s.start.0 ≤ r.start.0) × (r.end.0 ≤ s.end.0))

-- all from one offset up to another, as one range; none where there is no offset between them
abbrev pub span : ℕ → ℕ → List Range
span from to = if from == to then [] else record { start = record { 0 = from }; end = record { 0 = to } } ∷ []
