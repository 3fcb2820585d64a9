-- Which columns a pushed file has, told from its objects.
use Rattle.std.specs.Prelude.{◌≡◌, List, [], ◌∷◌, take, Some, ◌⊎◌}
use Rattle.serde_json.specs.Data.{Data}
use Rattle.serde_json.specs.Find.{get}
use Rattle.rt_lists.specs.Members.{Has}
use Rattle.rt_schema.specs.declared.column.Column.{Column}

-- some object has the column's key, with whatever value
abbrev pub IsNamed : List Data → Column → Type 0
IsNamed items column = (item : Data) × Has items item × ((value : Data) × (get column.name item ≡ Some value))

-- some object has the key of some column
abbrev pub IsSomeNamed : List Column → List Data → Type 0
IsSomeNamed columns items = (column : Column) × Has columns column × IsNamed items column

-- these columns without some of them, in their order
abbrev pub IsPart : List Column → List Column → Type 0
IsPart [] columns = Unit {0}
IsPart (kept ∷ more) [] = ⊥
IsPart (kept ∷ more) (column ∷ columns) = ((kept ≡ column) × IsPart more columns) ⊎ IsPart (kept ∷ more) columns

-- a column is kept exactly where some object has it, in the order of the schema; where none has any it is the first alone
pub record AreKept (columns : List Column) (items : List Data) (kept : List Column) : Type 0 where
  pub part : IsPart kept columns
  pub named : IsSomeNamed columns items → (column : Column) → Has kept column → IsNamed items column
  pub all : (column : Column) → Has columns column → IsNamed items column → Has kept column
  pub first : (IsSomeNamed columns items → ⊥) → kept ≡ take 1 columns
