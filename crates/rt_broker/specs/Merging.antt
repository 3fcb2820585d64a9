-- How ranges are merged one by one: each meets the last one of those that are merged already.
use Rattle.std.specs.Prelude.{List, [], ◌∷◌, ◌==◌, if◌then◌else◌}
use Rattle.rt_base.specs.declared.range.Range.{Range}

-- two ranges, or one where they meet
abbrev pub both : Range → Range → List Range
both last range =
    if last.end.0 == range.start.0 then record { start = last.start; end = range.end } ∷ [] else last ∷ range ∷ []

-- a range behind merged ones
abbrev pub behind : Range → List Range → List Range
behind range [] = range ∷ []
behind range (s ∷ []) = both s range
behind range (s ∷ t ∷ ts) = s ∷ behind range (t ∷ ts)

-- the same, an empty one dropped
abbrev pub pushed : Range → List Range → List Range
pushed range merged = if range.start.0 == range.end.0 then merged else behind range merged

-- all of these, one by one
abbrev pub pushed_all : List Range → List Range → List Range
pushed_all merged [] = merged
pushed_all merged (range ∷ ranges) = pushed_all (pushed range merged) ranges
