-- What the text of an answer tells.
use Rattle.std.specs.Prelude.{IfSome, ◌<◌, ◌^◌, ℕ, Bool, List, map, All}
use Rattle.std.specs.Fmt.{signed_decimal}
use Rattle.rt_model.specs.declared.answer.Answer.{Answer}
use Rattle.rt_model.specs.declared.answer.Cell.{Cell}
use Rattle.rt_model.specs.declared.answer.Cell.TheVariants as cell
use Rattle.rt_model.specs.declared.answer.ResultRow.{ResultRow}
use Rattle.rt_schema.specs.declared.value.Value.{Value}
use Rattle.rt_schema.specs.declared.value.Value.TheVariants as value

-- ---- numbers

abbrev pub IsWord : ℕ → Type 0
IsWord n = n < 2 ^ 64

-- each number of its ranges, and of what it misses, fits a word of 64 bits
pub record AreWords (answer : Answer) : Type 0 where
  pub ranges : All (λ r. IsWord r.0.0 × IsWord r.1.start.0 × IsWord r.1.end.0) answer.ranges
  pub missing : All (λ m. IsWord m.0.0 × IfSome m.1 (λ s. IsWord s.0)) answer.missing

-- ---- cells

-- what the text of a cell tells: the digits of a number, whatever its type is; a string; a truth; or nothing
pub data CellTold : Type 0 where
  number : List ℕ → CellTold
  string : List ℕ → CellTold
  truth : Bool → CellTold
  nothing : CellTold

abbrev pub value_told : Value → CellTold
value_told (value.Int n) = number (signed_decimal n)
value_told (value.Long n) = number (signed_decimal n)
value_told (value.Text s) = string s
value_told (value.Bool b) = truth b
value_told (value.Time millis) = number (signed_decimal millis)

abbrev pub cell_told : Cell → CellTold
cell_told (cell.Value v) = value_told v
cell_told (cell.Whole n) = number (signed_decimal n)
cell_told cell.Null = nothing

abbrev pub row_told : ResultRow → List CellTold
row_told row = map cell_told row.cells
