-- What the report of a script tells of segments' nodes, by the script and the report alone: one that is shown DONE or abandoned stays as it
-- is, until it is gone; and one that is gone stays so.
use Rattle.std.specs.Prelude.{◌≡◌, ℕ, List, [], ◌∷◌, Option, None, Some}
use Rattle.rt_base.specs.declared.numbers.Partition.{Partition}
use Rattle.rt_base.specs.declared.numbers.Sequence.{Sequence}
use Rattle.rt_events.specs.declared.event.Event.TheVariants.{ShowMeta}
use Rattle.rt_lines.specs.Header.{NumberedLine}
use Rattle.rt_model.specs.Metadata.{IsFinal}
use Rattle.rt_model.specs.declared.node.Seen.{Seen}
use Rattle.rt_model.specs.declared.setup.Setup.{Setup}
use Rattle.rt_report.specs.BrokerTexts.{shown_text}
use Rattle.rt_script.specs.Line.{line_in}
use Rattle.rt_script.specs.declared.line.Line.{Line}
use Rattle.rt_script.specs.declared.line.Line.TheVariants as line

-- the line `show meta P/Q`
abbrev pub shows : Partition → Sequence → Option Line
shows partition sequence = Some (line.Event (ShowMeta partition sequence))

-- its text is that of a node, or of none
abbrev pub IsShown : Option Line → List ℕ → Option Seen → Type 0
IsShown (Some (line.Event (ShowMeta partition sequence))) text seen = text ≡ shown_text (ShowMeta partition sequence) seen
IsShown other text seen = Unit {0}

-- each of these lines that shows the segment's node shows none
abbrev pub StayGone : Setup → Partition → Sequence → List NumberedLine → List (Option Seen) → Type 0
StayGone setup partition sequence lines [] = Unit {0}
StayGone setup partition sequence [] (seen ∷ later) = ⊥
StayGone setup partition sequence (line ∷ lines) (seen ∷ later) =
    (line_in setup line.1 ≡ shows partition sequence → seen ≡ None) × StayGone setup partition sequence lines later

-- behind a node a node is shown, the very one if that was DONE or abandoned; or none, and then it is gone
abbrev pub ShowsLater : Seen → Option Seen → Type 0 → Type 0
ShowsLater node None gone = gone
ShowsLater node (Some next) gone = IsFinal node.node → next ≡ node

-- so it is of each of these lines that shows the segment's node
abbrev pub StayShown : Setup → Partition → Sequence → Seen → List NumberedLine → List (Option Seen) → Type 0
StayShown setup partition sequence node lines [] = Unit {0}
StayShown setup partition sequence node [] (seen ∷ later) = ⊥
StayShown setup partition sequence node (line ∷ lines) (seen ∷ later) =
    (line_in setup line.1 ≡ shows partition sequence → ShowsLater node seen (StayGone setup partition sequence lines later))
    × StayShown setup partition sequence node lines later

-- and so behind a line that shows one
abbrev pub KeepsShown : Setup → NumberedLine → Option Seen → List NumberedLine → List (Option Seen) → Type 0
KeepsShown setup line seen lines later =
    (partition : Partition) (sequence : Sequence) (node : Seen) → line_in setup line.1 ≡ shows partition sequence → seen ≡ Some node
    → StayShown setup partition sequence node lines later

-- so it is of all lines, with what each of them shows
abbrev pub AllShown : Setup → List NumberedLine → List (List ℕ) → List (Option Seen) → Type 0
AllShown setup lines [] [] = Unit {0}
AllShown setup lines [] (seen ∷ later) = ⊥
AllShown setup lines (text ∷ texts) [] = ⊥
AllShown setup [] (text ∷ texts) (seen ∷ later) = ⊥
AllShown setup (line ∷ lines) (text ∷ texts) (seen ∷ later) =
    IsShown (line_in setup line.1) text seen × KeepsShown setup line seen lines later × AllShown setup lines texts later

-- the texts of lines are those of nodes, of which this is true
pub record EndedStays (setup : Setup) (lines : List NumberedLine) (texts : List (List ℕ)) : Type 0 where
  pub shown : List (Option Seen)
  pub all : AllShown setup lines texts shown
