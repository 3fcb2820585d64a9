-- What stands in the text of a state, which is an object of objects.
use Rattle.std.specs.Prelude.{◌≡◌, ℕ, ◌<◌, ◌^◌, List, [], ◌∷◌, Option, Some}
use Rattle.std.specs.Ordering.{nat_cmp}
use Rattle.std.specs.declared.cmp.Ordering.TheVariants.{Less}
use Rattle.std.specs.Cmp.Lexicographic.{slice_cmp}
use Rattle.serde_json.specs.Data.{Data, Members, no_members, member}
use Rattle.serde_json.specs.Find.{get_member}
use Rattle.rt_model.specs.declared.ideal_state.IdealEntry.{IdealEntry}
use Rattle.rt_ideal.specs.Text.{members_in}

-- what stands at a segment's key and an instance's key
abbrev pub shown_at : List ℕ → List ℕ → Members → Option Data
shown_at segment instance ms = get_member instance (members_in (get_member segment ms))

-- the numbers of these entries fit 32 bits
abbrev pub AreWords : List IdealEntry → Type 0
AreWords [] = Unit {0}
AreWords (e ∷ es) =
    (e.partition.0 < 2 ^ 32) × (e.sequence.0 < 2 ^ 32) × (e.instance.0 < 2 ^ 32) × AreWords es

-- a key is below all keys of an object
abbrev pub IsBelow : List ℕ → Members → Type 0
IsBelow k no_members = Unit {0}
IsBelow k (member l d ms) = (slice_cmp nat_cmp k l ≡ Less) × IsBelow k ms

-- the keys of an object ascend, so that none comes twice
abbrev pub IsInOrder : Members → Type 0
IsInOrder no_members = Unit {0}
IsInOrder (member k d ms) = IsBelow k ms × IsInOrder ms

-- the keys of an object's objects ascend
abbrev pub AreInOrder : Members → Type 0
AreInOrder no_members = Unit {0}
AreInOrder (member k d ms) = IsInOrder (members_in (Some d)) × AreInOrder ms
