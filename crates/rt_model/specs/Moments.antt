-- Moments.
use Rattle.std.specs.Prelude.{ℕ, ◌+◌, min}
use Rattle.rt_base.specs.declared.numbers.Moment.{Moment}

-- a moment so many milliseconds later, or the last one that there is
abbrev pub later : Moment → ℕ → Moment
later now millis = record { 0 = min (now.0 + millis) 18446744073709551615 }

abbrev pub earlier_of : Moment → Moment → Moment
earlier_of a b = record { 0 = min a.0 b.0 }
