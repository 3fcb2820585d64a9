-- What the lines behind a header give together, one after the other.
use Rattle.std.specs.Prelude.{◌≡◌, ℕ, List, [], ◌∷◌, ◌++◌, Option, None, Some, Result, Ok, Err, codes}
use Rattle.rt_lines.specs.Header.{NumberedLine, Says, then_ok}
use Rattle.rt_lines.specs.Words.{after_prefix}
use Rattle.rt_lines.specs.declared.play_fault.PlayFault.{PlayFault}
use Rattle.rt_live_input.specs.ChaosWords.{chaos_at}
use Rattle.rt_live_input.specs.Entries.{entry_at}
use Rattle.rt_live_input.specs.Input.{calm}
use Rattle.rt_live_input.specs.declared.chaos.Chaos.{Chaos}
use Rattle.rt_live_input.specs.declared.entry.Entry.{Entry}
use Rattle.rt_live_input.specs.declared.entry.Entry.TheVariants as entry
use Rattle.rt_live_input.specs.declared.input.Input.{Input}
use Rattle.rt_model.specs.declared.setup.Setup.{Setup}

abbrev pub with_entry : Input → Entry → Input
with_entry input (entry.Row row) = record input { rows = input.rows ++ row ∷ [] }
with_entry input (entry.Query query) = record input { queries = input.queries ++ query ∷ [] }

abbrev pub added : Input → Result Entry PlayFault → Result Input PlayFault
added input (Ok found) = Ok (with_entry input found)
added input (Err fault) = Err fault

-- what a line adds; want of memory is free
abbrev pub AddsLine : Input → Input → NumberedLine → Result Unit PlayFault → Type 0
AddsLine old new line (Ok done) = added old (entry_at old.setup line) ≡ Ok new
AddsLine old new line (Err fault) = Says (added old (entry_at old.setup line)) (Err fault)

-- an input with what these lines add
abbrev pub gathered : Input → List NumberedLine → Result Input PlayFault
gathered input [] = Ok input
gathered input (line ∷ lines) = then_ok (added input (entry_at input.setup line)) (λ more. gathered more lines)

abbrev pub empty : Setup → Chaos → Input
empty setup chaos = record { setup = setup; chaos = chaos; rows = []; queries = [] }

-- the first line may be a chaos line
abbrev pub behind_first : Input → NumberedLine → List NumberedLine → Option (List ℕ) → Result Input PlayFault
behind_first input line lines (Some text) = then_ok (chaos_at input.setup line.0 text) (λ chaos. gathered (record input { chaos = chaos }) lines)
behind_first input line lines None = gathered input (line ∷ lines)

abbrev pub behind_from : Input → List NumberedLine → Result Input PlayFault
behind_from input [] = Ok input
behind_from input (line ∷ lines) = behind_first input line lines (after_prefix (codes "chaos ") line.1)

-- what stands behind a header
abbrev pub behind_of : Setup → List NumberedLine → Result Input PlayFault
behind_of setup lines = behind_from (empty setup calm) lines
