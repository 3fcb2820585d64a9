-- Names of segments and their texts.
use Rattle.std.specs.Prelude.{◌≡◌, ◌≢◌, ℕ, ◌^◌, ◌<◌, List, ◌++◌, codes, Result, Ok, Err}
use Rattle.std.specs.Fmt.{decimal}
use Rattle.rt_names.specs.declared.name.SegmentName.{SegmentName}
use Rattle.rt_names.specs.declared.name.NameRefused.{NameRefused}
use Rattle.rt_names.specs.declared.name.NameRefused.TheVariants.{Shape, Memory}
use Rattle.rt_names.specs.Table.{IsTableName}
use Rattle.rt_names.specs.Minute.{IsMinute}

-- The text of a name: `table__partition__sequence__minute`.
abbrev pub name_text : SegmentName → List ℕ
name_text name = name.table ++ codes "__" ++ decimal name.partition ++ codes "__" ++ decimal name.sequence ++ codes "__" ++ name.minute

-- A segment can have this name.
pub record IsSegmentName (name : SegmentName) : Type 0 where
  pub table : IsTableName name.table
  pub partition : name.partition < 2 ^ 32
  pub sequence : name.sequence < 2 ^ 32
  pub minute : IsMinute name.minute

-- What a text is read as: the name that has it, or no name where none has it.
abbrev pub IsRead : List ℕ → Result SegmentName NameRefused → Type 0
IsRead text (Ok name) = IsSegmentName name × (name_text name ≡ text)
IsRead text (Err Shape) = (name : SegmentName) → IsSegmentName name → name_text name ≢ text
IsRead text (Err Memory) = Unit {0}

-- A text that a name has is read as that name, unless memory was refused.
abbrev pub IsOnlyRead : SegmentName → Result SegmentName NameRefused → Type 0
IsOnlyRead name (Ok read) = read ≡ name
IsOnlyRead name (Err Shape) = ⊥
IsOnlyRead name (Err Memory) = Unit {0}

-- A name of its parts.
abbrev pub name_of : List ℕ → ℕ → ℕ → List ℕ → SegmentName
name_of table partition sequence minute = record { table = table; partition = partition; sequence = sequence; minute = minute }
