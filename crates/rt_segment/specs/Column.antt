-- A column of a sealed segment.
use Rattle.std.specs.Prelude.{ℕ, ◌<◌, ◌≤◌, ◌^◌, FitsSigned, int_lt, Bool, false, List, length, map, slice_index_or}
use Rattle.std.specs.List.{All, Contains}
use Rattle.std.specs.Int.{w32, w64}
use Rattle.std.specs.Str.{IsUtf8}
use Rattle.rt_dict.specs.Order.{bool_below, text_below}
use Rattle.rt_dict.specs.Values.{IsAscending}
use Rattle.rt_schema.specs.declared.column.Kind.{Kind}
use Rattle.rt_schema.specs.declared.value.Value.{Value}
use Rattle.rt_schema.specs.declared.value.Value.TheVariants as value
use Rattle.rt_segment.specs.declared.dictionary.Dictionary.{Dictionary}
use Rattle.rt_segment.specs.declared.dictionary.Dictionary.TheVariants.{Int, Long, Text, Bool as Truth, Time}

-- a name, the distinct values, and for each row the place of its value among them
pub record SealedColumn : Type 0 where
  pub name : List ℕ
  pub dictionary : Dictionary
  pub ids : List ℕ
  pub indexed : Bool

abbrev pub kind_in : Dictionary → Kind
kind_in (Int zs) = Kind.Int
kind_in (Long zs) = Kind.Long
kind_in (Text ts) = Kind.Text
kind_in (Truth bs) = Kind.Bool
kind_in (Time zs) = Kind.Time

-- the distinct values, ascending
abbrev pub values_in : Dictionary → List Value
values_in (Int zs) = map value.Int zs
values_in (Long zs) = map value.Long zs
values_in (Text ts) = map value.Text ts
values_in (Truth bs) = map value.Bool bs
values_in (Time zs) = map value.Time zs

abbrev pub count_in : Dictionary → ℕ
count_in (Int zs) = length zs
count_in (Long zs) = length zs
count_in (Text ts) = length ts
count_in (Truth bs) = length bs
count_in (Time zs) = length zs

-- the value of each row
abbrev pub values_of : SealedColumn → List Value
values_of column = map (λ id. slice_index_or (values_in column.dictionary) id (value.Bool false)) column.ids

-- ascending values that their kind holds
abbrev pub AreValues : {K : Type 0} → (K → K → Bool) → (K → Type 0) → List K → Type 0
AreValues below fits values = (length values < 2 ^ 32) × IsAscending below values × All fits values

abbrev pub IsDictionary : Dictionary → Type 0
IsDictionary (Int zs) = AreValues int_lt (FitsSigned w32) zs
IsDictionary (Long zs) = AreValues int_lt (FitsSigned w64) zs
IsDictionary (Text ts) = AreValues text_below IsUtf8 ts
IsDictionary (Truth bs) = AreValues bool_below (λ b. Unit {0}) bs
IsDictionary (Time zs) = AreValues int_lt (FitsSigned w64) zs

-- each row has a value, and each value is that of a row
pub record IsColumn (column : SealedColumn) : Type 0 where
  pub dictionary : IsDictionary column.dictionary
  pub name : IsUtf8 column.name
  pub rows : length column.ids < 2 ^ 32
  pub known : All (λ id. id < count_in column.dictionary) column.ids
  pub used : (id : ℕ) → id < count_in column.dictionary → Contains column.ids id

-- a text of a file has at most 65,536 bytes
abbrev pub AreShort : Dictionary → Type 0
AreShort (Int zs) = Unit {0}
AreShort (Long zs) = Unit {0}
AreShort (Text ts) = All (λ t. length t ≤ 65536) ts
AreShort (Truth bs) = Unit {0}
AreShort (Time zs) = Unit {0}
