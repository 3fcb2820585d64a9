-- When upsert settings are there and when each refusal is answered, in terms of what stands in the JSON of schema and table.
use Rattle.std.specs.Prelude.{◌≡◌, ◌≤◌, ℕ, ◌⊎◌, List, [], ◌∷◌, length, map, codes, Option, Some, None, Result, Ok, Err}
use Rattle.serde_json.specs.Data.{Data, null, string, array, object, Items, Members}
use Rattle.rt_lists.specs.Members.{Has}
use Rattle.rt_schema.specs.Json.{items_of}
use Rattle.rt_schema.specs.TableText.{inside}
use Rattle.rt_schema.specs.declared.column.Column.{Column}
use Rattle.rt_schema.specs.declared.column.Kind.TheVariants.{Int, Long, Text, Bool as Truth, Time}
use Rattle.rt_upconf.specs.declared.upsert_config.UpsertConfig.{UpsertConfig}
use Rattle.rt_upconf.specs.declared.upsert_refused.UpsertRefused.{UpsertRefused}
use Rattle.rt_upconf.specs.declared.upsert_refused.UpsertRefused.TheVariants.{NotObject, Mode, NoKeys, Comparison, NoColumn, WrongType, Memory}

-- What stands in JSON

abbrev pub IsAbsent : Option Data → Type 0
IsAbsent found = (found ≡ None) ⊎ (found ≡ Some null)

abbrev pub IsObject : Option Data → Type 0
IsObject found = (ms : Members) × (found ≡ Some (object ms))

abbrev pub IsString : Option Data → List ℕ → Type 0
IsString found text = found ≡ Some (string text)

-- an array of these strings
abbrev pub AreStrings : Option Data → List (List ℕ) → Type 0
AreStrings found texts = (ds : Items) × (found ≡ Some (array ds)) × (items_of ds ≡ map string texts)

-- What the settings say

abbrev pub config_at : Option Data → Option Data
config_at table = inside (codes "upsertConfig") table

abbrev pub mode_at : Option Data → Option Data
mode_at table = inside (codes "mode") (config_at table)

-- an object of mode FULL
pub record IsFull (table : Option Data) : Type 0 where
  pub object : IsObject (config_at table)
  pub mode : IsString (mode_at table) (codes "FULL")

-- these are the keys, at least one
pub record AreKeys (keyed : Option Data) (keys : List (List ℕ)) : Type 0 where
  pub some : 1 ≤ length keys
  pub strings : AreStrings (inside (codes "primaryKeyColumns") keyed) keys

abbrev pub columns_at : Option Data → Option Data
columns_at table = inside (codes "comparisonColumns") (config_at table)

abbrev pub single_at : Option Data → Option Data
single_at table = inside (codes "comparisonColumn") (config_at table)

abbrev pub time_at : Option Data → Option Data
time_at table = inside (codes "timeColumnName") (inside (codes "segmentsConfig") table)

-- the array of comparison columns names none
abbrev pub HasNoneListed : Option Data → Type 0
HasNoneListed table = IsAbsent (columns_at table) ⊎ AreStrings (columns_at table) []

-- the one listed; else the single one; else the time column
abbrev pub Compares : Option Data → List ℕ → Type 0
Compares table name =
    AreStrings (columns_at table) (name ∷ [])
    ⊎ ((HasNoneListed table × IsString (single_at table) name)
    ⊎ (HasNoneListed table × IsAbsent (single_at table) × IsString (time_at table) name))

-- a column of this name
abbrev pub IsColumn : List Column → List ℕ → Type 0
IsColumn columns name = (column : Column) × Has columns column × (column.name ≡ name)

-- a column of this name has none of the kinds by which rows are compared
abbrev pub IsOther : List Column → List ℕ → Type 0
IsOther columns name = (column : Column) × Has columns column × (column.name ≡ name) × ((column.kind ≡ Text) ⊎ (column.kind ≡ Truth))

-- a column of this name has whole numbers or moments
abbrev pub IsComparable : List Column → List ℕ → Type 0
IsComparable columns name = (column : Column) × Has columns column × (column.name ≡ name) × ((column.kind ≡ Int) ⊎ ((column.kind ≡ Long) ⊎ (column.kind ≡ Time)))

-- The answers

abbrev pub IsNotObject : Option Data → Type 0
IsNotObject table = (IsAbsent (config_at table) → ⊥) × (IsObject (config_at table) → ⊥)

abbrev pub IsNoMode : Option Data → Type 0
IsNoMode table = IsObject (config_at table) × (IsString (mode_at table) (codes "FULL") → ⊥) × (IsString (mode_at table) (codes "NONE") → ⊥)

abbrev pub HasNoKeys : Option Data → Option Data → Type 0
HasNoKeys keyed table = IsFull table × ((keys : List (List ℕ)) → AreKeys keyed keys → ⊥)

-- mode FULL and keys
abbrev pub HasKeys : Option Data → Option Data → List (List ℕ) → Type 0
HasKeys keyed table keys = IsFull table × AreKeys keyed keys

-- more than one column is listed, or what is listed are no columns; or none is listed, and the single one is no string
abbrev pub IsMisnamed : Option Data → Type 0
IsMisnamed table =
    ((IsAbsent (columns_at table) → ⊥) × ((names : List (List ℕ)) → length names ≤ 1 → AreStrings (columns_at table) names → ⊥))
    ⊎ (HasNoneListed table × (IsAbsent (single_at table) → ⊥) × ((name : List ℕ) → IsString (single_at table) name → ⊥))

-- a key or the comparison column is no column, or no string names a comparison column
abbrev pub IsUnknown : List Column → Option Data → List (List ℕ) → Type 0
IsUnknown columns table keys =
    (HasNoneListed table × IsAbsent (single_at table) × ((name : List ℕ) → IsString (time_at table) name → ⊥))
    ⊎ ((name : List ℕ) × Compares table name × (((key : List ℕ) × Has keys key × (IsColumn columns key → ⊥)) ⊎ (IsColumn columns name → ⊥)))

-- what is answered holds of the settings; want of memory tells nothing
abbrev pub IsTold : List Column → Option Data → Option Data → Result (Option UpsertConfig) UpsertRefused → Type 0
IsTold columns keyed table (Ok None) = IsAbsent (config_at table) ⊎ (IsObject (config_at table) × IsString (mode_at table) (codes "NONE"))
IsTold columns keyed table (Ok (Some config)) =
    HasKeys keyed table config.keys × ((key : List ℕ) → Has config.keys key → IsColumn columns key) × Compares table config.compare × IsComparable columns config.compare
IsTold columns keyed table (Err NotObject) = IsNotObject table
IsTold columns keyed table (Err Mode) = IsNoMode table
IsTold columns keyed table (Err NoKeys) = HasNoKeys keyed table
IsTold columns keyed table (Err Comparison) = (keys : List (List ℕ)) × HasKeys keyed table keys × IsMisnamed table
IsTold columns keyed table (Err NoColumn) = (keys : List (List ℕ)) × HasKeys keyed table keys × IsUnknown columns table keys
IsTold columns keyed table (Err WrongType) = (keys : List (List ℕ)) × HasKeys keyed table keys × ((key : List ℕ) → Has keys key → IsColumn columns key)
    × ((name : List ℕ) × Compares table name × IsOther columns name)
IsTold columns keyed table (Err Memory) = Unit {0}
