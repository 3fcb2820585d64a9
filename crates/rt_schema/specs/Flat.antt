-- Flat messages: what was found at the names of the columns, a member after the other. No public clause speaks of it.
use Rattle.std.specs.Prelude.{◌≡◌, ℕ, List, [], ◌∷◌, length, map, slice_get, slice_set, false, Option, Some, None, option_map, option_and_then}
use Rattle.json.specs.Token.{Token}
use Rattle.json.specs.Json.{value, members}
use Rattle.serde_json.specs.Data.{Data, null, boolean, number, string, Members, no_members}
use Rattle.serde_json.specs.Find.{get_member}
use Rattle.serde_json.specs.Read.{number_of, of_members, converted}
use Rattle.serde_json.specs.View.{view}
use Rattle.serde_json.specs.declared.value.Value.{Value as Json}
use Rattle.rt_schema.specs.Schema.{is_among, names_of}
use Rattle.rt_schema.specs.Value.{cell_of}
use Rattle.rt_schema.specs.declared.column.Column.{Column}
use Rattle.rt_schema.specs.declared.value.Value.{Value}

-- the value that one token is; an object and an array are of more, and no number is beyond the greatest float
abbrev pub scalar_of : Token → Option Data
scalar_of Token.begin_object = None
scalar_of Token.end_object = None
scalar_of Token.begin_array = None
scalar_of Token.end_array = None
scalar_of (Token.key s) = None
scalar_of (Token.string s) = Some (string s)
scalar_of (Token.number s) = option_map number (number_of s)
scalar_of (Token.boolean b) = Some (boolean b)
scalar_of Token.null = Some null
scalar_of Token.bad = None

-- what stands in an object at the name of each column
abbrev pub found_in : List Column → Members → List (Option Data)
found_in columns ms = map (λ column. get_member column.name ms) columns

abbrev pub data_of : List (Option Json) → List (Option Data)
data_of found = map (option_map view) found

-- the place of the column of a name, where there is one
abbrev pub IsPlaceOf : List Column → List ℕ → Option ℕ → Type 0
IsPlaceOf columns name None = is_among name (names_of columns) ≡ false
IsPlaceOf columns name (Some i) = slice_get (names_of columns) i ≡ Some name

-- a value was put at a place, or passed over where there is none
abbrev pub Puts : Option ℕ → Option Data → List (Option Data) → List (Option Data) → Type 0
Puts place None old new = ⊥
Puts None (Some d) old new = new ≡ old
Puts (Some i) (Some d) old new = new ≡ slice_set old i (Some d)

-- how deep the values of an object may nest
abbrev pub depth_within : ℕ
depth_within = 126

-- up to the end of an object were its members read, and `found` is what they have for the columns
abbrev pub IsRead : List Column → List Token → List Token → List (Option Json) → Type 0
IsRead columns before after found =
    (ms : Members) × (converted (λ js. of_members js no_members) (members (value depth_within) (length before) before) ≡ Some (ms, after)) × (data_of found ≡ found_in columns ms)

-- the values of the columns of what was found for each
abbrev pub cells_from : List Column → List (Option Data) → Option (List Value)
cells_from [] ds = Some []
cells_from (column ∷ columns) [] = None
cells_from (column ∷ columns) (d ∷ ds) = option_and_then (λ v. option_map (λ vs. v ∷ vs) (cells_from columns ds)) (cell_of column d)
