-- Ranges of keys between two edges.
use Rattle.std.specs.Prelude.{Bool, true, not, IsTrue}
use Rattle.rt_dict.specs.declared.edge.Edge.{Edge}
use Rattle.rt_dict.specs.declared.edge.Edge.TheVariants.{Open, At, Past}

-- Whether a value lies on the upper side of the low edge.
abbrev pub starts_by : {K : Type 0} → (K → K → Bool) → Edge K → K → Bool
starts_by below Open value = true
starts_by below (At key) value = not (below value key)
starts_by below (Past key) value = below key value

-- Whether a value lies on the lower side of the high edge.
abbrev pub ends_after : {K : Type 0} → (K → K → Bool) → Edge K → K → Bool
ends_after below Open value = true
ends_after below (At key) value = not (below key value)
ends_after below (Past key) value = below value key

-- The value lies within both edges.
abbrev pub IsWithin : {K : Type 0} → (K → K → Bool) → Edge K → Edge K → K → Type 0
IsWithin below low high value = IsTrue (starts_by below low value) × IsTrue (ends_after below high value)
