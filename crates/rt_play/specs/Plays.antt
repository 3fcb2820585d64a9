-- What a run does to its source and its sink, and what it answers.
use Rattle.std.specs.Prelude.{◌≡◌, ℕ, ◌<◌, ◌≤◌, List, length, false, Option, None, Some, Result, Ok, Err}
use Rattle.std.specs.List.{concat}
use Rattle.rt_base.specs.declared.which.Which.TheVariants.{Input, Partitions, Servers, Controllers, Replication, Message, Events, Sent, Queries, Stored, Moment, Rows}
use Rattle.rt_base.specs.Sink.{SinkMeaning}
use Rattle.rt_base.specs.Source.{SourceMeaning}
use Rattle.rt_lines.specs.declared.play_fault.PlayFault.{PlayFault}
use Rattle.rt_lines.specs.declared.play_fault.PlayFault.TheVariants.{Usage, Refused, ReadFault, WriteFault, Memory, Limit}
use Rattle.rt_play.specs.declared.play_end.PlayEnd.{PlayEnd}
use Rattle.rt_desk.specs.declared.desk.Desk.{Desk}
use Rattle.rt_world.specs.Kept.{Kept}
use Rattle.rt_lines.specs.Header.{NumberedLine}
use Rattle.rt_lines.specs.Reading.{FailsToRead, IsTooLong, ReadsInput, Takes, input_limit}
use Rattle.rt_macros.specs.Doing.{Reached}
use Rattle.rt_play.specs.Going.{Going}
use Rattle.rt_play.specs.Report.{FrontRuns, IsFrontOfReport, IsReport, IsReportFrom, Report, Runs, Stops}
use Rattle.rt_safety.specs.Runs.{Turn}
use Rattle.rt_script.specs.Line.{line_in}
use Rattle.rt_script.specs.declared.line.Line.{Line}
use Rattle.rt_writing.specs.Writing.{FailsWithin, Puts}

-- the whole report of some input was written, and this is why it stops
pub record TellsAll (Is : Report → Type 0) (old new : SinkMeaning) (why : Option PlayFault) : Type 0 where
  pub report : Report
  pub is : Is report
  pub stop : report.stop ≡ why
  pub puts : Puts old new (concat report.texts)

-- a front of the texts of some first lines was written, and the sink failed
pub record TellsSome (Is : List (List ℕ) → Type 0) (old new : SinkMeaning) : Type 0 where
  pub texts : List (List ℕ)
  pub is : Is texts
  pub fails : FailsWithin (concat texts) old new

-- the texts of some first lines were written, whole
pub record TellsFront (Is : List (List ℕ) → Type 0) (old new : SinkMeaning) : Type 0 where
  pub texts : List (List ℕ)
  pub is : Is texts
  pub puts : Puts old new (concat texts)

-- a report was written: up to its end, to where it stops, to where the sink failed or to where memory ran out
abbrev pub Tells : (Report → Type 0) → (List (List ℕ) → Type 0) → SinkMeaning → SinkMeaning → Result PlayEnd PlayFault → Type 0
Tells IsAll IsFront old new (Ok end) = (all : TellsAll IsAll old new None) × (end.lines ≡ length all.report.texts)
Tells IsAll IsFront old new (Err (Refused line reason)) = TellsAll IsAll old new (Some (Refused line reason))
Tells IsAll IsFront old new (Err (Limit which)) = TellsAll IsAll old new (Some (Limit which))
Tells IsAll IsFront old new (Err WriteFault) = TellsSome IsFront old new
Tells IsAll IsFront old new (Err Memory) = TellsFront IsFront old new
Tells IsAll IsFront old new (Err Usage) = ⊥
Tells IsAll IsFront old new (Err ReadFault) = ⊥

abbrev pub TellsInput : List ℕ → SinkMeaning → SinkMeaning → Result PlayEnd PlayFault → Type 0
TellsInput input old new result = Tells (IsReport input) (IsFrontOfReport input) old new result

abbrev pub TellsFrom : List NumberedLine → Going → SinkMeaning → SinkMeaning → Result PlayEnd PlayFault → Type 0
TellsFrom lines g old new result = Tells (IsReportFrom lines g) (FrontRuns lines g) old new result

-- the input was read to its end, and its report written
pub record PlaysAllBy (All : List ℕ → Report → Type 0) (Front : List ℕ → List (List ℕ) → Type 0) (from to : SourceMeaning) (old new : SinkMeaning) (result : Result PlayEnd PlayFault) : Type 0 where
  pub input : List ℕ
  pub reads : ReadsInput from to input
  pub tells : Tells (All input) (Front input) old new result

-- memory ran out: nothing was written before the whole input was read, and else the first lines of its report
pub record RunsOutBy (Front : List ℕ → List (List ℕ) → Type 0) (from to : SourceMeaning) (old new : SinkMeaning) : Type 0 where
  pub input : List ℕ
  pub taken : Takes from to input
  pub lines : TellsFront (Front input) old new
  pub ended : 0 < length lines.texts → ReadsInput from to input

abbrev pub RunsOut : SourceMeaning → SourceMeaning → SinkMeaning → SinkMeaning → Type 0
RunsOut from to old new = RunsOutBy IsFrontOfReport from to old new

-- what a run does, by its answer, where this is meant by a report and by its first lines
abbrev pub PlaysBy : (List ℕ → Report → Type 0) → (List ℕ → List (List ℕ) → Type 0) → SourceMeaning → SourceMeaning → SinkMeaning → SinkMeaning → Result PlayEnd PlayFault → Type 0
PlaysBy All Front from to old new (Err Usage) = ⊥
PlaysBy All Front from to old new (Err ReadFault) = FailsToRead from to old new
PlaysBy All Front from to old new (Err Memory) = RunsOutBy Front from to old new
PlaysBy All Front from to old new (Err (Limit Input)) = IsTooLong from to old new
PlaysBy All Front from to old new (Err (Limit Partitions)) = PlaysAllBy All Front from to old new (Err (Limit Partitions))
PlaysBy All Front from to old new (Err (Limit Servers)) = PlaysAllBy All Front from to old new (Err (Limit Servers))
PlaysBy All Front from to old new (Err (Limit Controllers)) = PlaysAllBy All Front from to old new (Err (Limit Controllers))
PlaysBy All Front from to old new (Err (Limit Replication)) = PlaysAllBy All Front from to old new (Err (Limit Replication))
PlaysBy All Front from to old new (Err (Limit Message)) = PlaysAllBy All Front from to old new (Err (Limit Message))
PlaysBy All Front from to old new (Err (Limit Events)) = PlaysAllBy All Front from to old new (Err (Limit Events))
PlaysBy All Front from to old new (Err (Limit Sent)) = PlaysAllBy All Front from to old new (Err (Limit Sent))
PlaysBy All Front from to old new (Err (Limit Queries)) = PlaysAllBy All Front from to old new (Err (Limit Queries))
PlaysBy All Front from to old new (Err (Limit Stored)) = PlaysAllBy All Front from to old new (Err (Limit Stored))
PlaysBy All Front from to old new (Err (Limit Moment)) = PlaysAllBy All Front from to old new (Err (Limit Moment))
PlaysBy All Front from to old new (Err (Limit Rows)) = PlaysAllBy All Front from to old new (Err (Limit Rows))
PlaysBy All Front from to old new (Err WriteFault) = PlaysAllBy All Front from to old new (Err WriteFault)
PlaysBy All Front from to old new (Err (Refused line reason)) = PlaysAllBy All Front from to old new (Err (Refused line reason))
PlaysBy All Front from to old new (Ok end) = PlaysAllBy All Front from to old new (Ok end)

-- what a run does, by its answer
abbrev pub PlaysInput : SourceMeaning → SourceMeaning → SinkMeaning → SinkMeaning → Result PlayEnd PlayFault → Type 0
PlaysInput from to old new result = PlaysBy IsReport IsFrontOfReport from to old new result

-- the answer of a report
abbrev pub answer_by : Report → Option PlayFault → Result PlayEnd PlayFault
answer_by report None = Ok (record { lines = length report.texts })
answer_by report (Some fault) = Err fault

-- an answer that a script has by itself, where nothing outside fails
pub record IsAnswer (input : List ℕ) (result : Result PlayEnd PlayFault) : Type 0 where
  pub within : length input ≤ input_limit
  pub report : Report
  pub is : IsReport input report
  pub same : result ≡ answer_by report report.stop

-- the answer is one of an input's own, or want of memory
abbrev pub Meets : List ℕ → Result PlayEnd PlayFault → Type 0
Meets input (Ok end) = IsAnswer input (Ok end)
Meets input (Err Memory) = Unit {0}
Meets input (Err Usage) = ⊥
Meets input (Err ReadFault) = ⊥
Meets input (Err WriteFault) = ⊥
Meets input (Err (Refused line reason)) = IsAnswer input (Err (Refused line reason))
Meets input (Err (Limit Input)) = input_limit < length input
Meets input (Err (Limit Partitions)) = IsAnswer input (Err (Limit Partitions))
Meets input (Err (Limit Servers)) = IsAnswer input (Err (Limit Servers))
Meets input (Err (Limit Controllers)) = IsAnswer input (Err (Limit Controllers))
Meets input (Err (Limit Replication)) = IsAnswer input (Err (Limit Replication))
Meets input (Err (Limit Message)) = IsAnswer input (Err (Limit Message))
Meets input (Err (Limit Events)) = IsAnswer input (Err (Limit Events))
Meets input (Err (Limit Sent)) = IsAnswer input (Err (Limit Sent))
Meets input (Err (Limit Queries)) = IsAnswer input (Err (Limit Queries))
Meets input (Err (Limit Stored)) = IsAnswer input (Err (Limit Stored))
Meets input (Err (Limit Moment)) = IsAnswer input (Err (Limit Moment))
Meets input (Err (Limit Rows)) = IsAnswer input (Err (Limit Rows))

-- a world that isn't spent, and the desk beside it
abbrev pub going : Kept → Desk → Going
going kept desk = record { world = kept.state; desk = desk }

-- what a line says was run, by some turns
pub record HasRun (said : Option Line) (g h : Going) (text : List ℕ) : Type 0 where
  pub turns : List Turn
  pub runs : Runs said g turns h text

-- it stops the run, behind some turns
pub record HasStopped (number : ℕ) (said : Option Line) (g : Going) (why : PlayFault) : Type 0 where
  pub behind : Reached
  pub stops : Stops number said g behind why

-- what a line says was run, or it stops the run
abbrev pub PlaysSaid : ℕ → Option Line → Kept → Desk → Kept → Desk → List ℕ → Result Unit PlayFault → Type 0
PlaysSaid number said old before new after text (Ok done) = (new.spent ≡ false) × HasRun said (going old before) (going new after) text
PlaysSaid number said old before new after text (Err Memory) = Unit {0}
PlaysSaid number said old before new after text (Err (Refused at reason)) = HasStopped number said (going old before) (Refused at reason)
PlaysSaid number said old before new after text (Err (Limit which)) = HasStopped number said (going old before) (Limit which)
PlaysSaid number said old before new after text (Err Usage) = ⊥
PlaysSaid number said old before new after text (Err ReadFault) = ⊥
PlaysSaid number said old before new after text (Err WriteFault) = ⊥

abbrev pub PlaysLine : ℕ → List ℕ → Kept → Desk → Kept → Desk → List ℕ → Result Unit PlayFault → Type 0
PlaysLine number line old before new after text result = PlaysSaid number (line_in old.state.setup line) old before new after text result
