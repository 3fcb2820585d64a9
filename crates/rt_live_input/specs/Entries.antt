-- How a line behind the header is read.
use Rattle.std.specs.Prelude.{ℕ, List, length, Option, None, Some, Result, Ok, Err, codes, nat_le, nat_lt, if◌then◌else◌}
use Rattle.rt_base.specs.declared.which.Which.TheVariants.{Message}
use Rattle.rt_ground.specs.declared.appended.Appended.{Appended}
use Rattle.rt_lines.specs.Header.{NumberedLine, if_well_formed}
use Rattle.rt_lines.specs.Words.{after_prefix, number_up_to, parted_at, then_some}
use Rattle.rt_lines.specs.declared.line_reason.LineReason.TheVariants as reason
use Rattle.rt_lines.specs.declared.play_fault.PlayFault.{PlayFault}
use Rattle.rt_lines.specs.declared.play_fault.PlayFault.TheVariants.{Limit, Refused}
use Rattle.rt_live_input.specs.declared.entry.Entry.{Entry}
use Rattle.rt_live_input.specs.declared.entry.Entry.TheVariants as entry
use Rattle.rt_model.specs.declared.setup.Setup.{Setup}
use Rattle.rt_script.specs.QueryTexts.{text_of}
use Rattle.rt_script.specs.declared.query_text.QueryText.{QueryText}
use Rattle.rt_script.specs.declared.query_text.QueryText.TheVariants as text

-- a partition's number, and what follows the space behind it
abbrev pub row_parts : List ℕ → Option (ℕ × List ℕ)
row_parts text =
    then_some (parted_at 32 text) (λ parts.
    then_some (number_up_to 4294967294 parts.0) (λ partition.
    Some (partition, parts.1)))

abbrev pub row_of : ℕ → List ℕ → Appended
row_of partition message = record { partition = record { 0 = partition }; message = message }

-- a message of a partition, where there is such a one and the message isn't too long
abbrev pub placed_row : ℕ → ℕ → ℕ × List ℕ → Result Entry PlayFault
placed_row partitions number parts =
    if nat_lt parts.0 partitions then
    (if nat_le (length parts.1) 65536 then Ok (entry.Row (row_of parts.0 parts.1)) else Err (Limit Message))
    else Err (Refused number reason.NoSuchNode)

-- `P TEXT`
abbrev pub row_at : Setup → ℕ → List ℕ → Result Entry PlayFault
row_at setup number text = if_well_formed number (row_parts text) (placed_row setup.partitions number)

abbrev pub asked_at : ℕ → QueryText → Result Entry PlayFault
asked_at number (text.Query query) = Ok (entry.Query query)
asked_at number (text.Refused why) = Err (Refused number (reason.Query why))

-- the query of a text
abbrev pub query_at : Setup → ℕ → List ℕ → Result Entry PlayFault
query_at setup number text = if_well_formed number (text_of setup.schema setup.table.name text) (asked_at number)

abbrev pub entry_by : Setup → ℕ → Option (List ℕ) → Option (List ℕ) → Result Entry PlayFault
entry_by setup number (Some row) query = row_at setup number row
entry_by setup number None (Some query) = query_at setup number query
entry_by setup number None None = Err (Refused number reason.BadLine)

-- what a line gives, `row P TEXT` or `query TEXT`
abbrev pub entry_at : Setup → NumberedLine → Result Entry PlayFault
entry_at setup line = entry_by setup line.0 (after_prefix (codes "row ") line.1) (after_prefix (codes "query ") line.1)
