-- What a run does to its source and its sink, and what it answers.
use Rattle.std.specs.Prelude.{◌≡◌, ◌⊎◌, ℕ, ◌<◌, ◌≤◌, Bool, List, length, Result, Ok, Err}
use Rattle.rt_base.specs.Sink.{SinkMeaning}
use Rattle.rt_base.specs.Source.{SourceMeaning}
use Rattle.rt_base.specs.declared.numbers.Offset.{Offset}
use Rattle.rt_base.specs.declared.which.Which.{Which}
use Rattle.rt_base.specs.declared.which.Which.TheVariants.{Input as InputLimit}
use Rattle.rt_lines.specs.Reading.{FailsToRead, IsTooLong, ReadsInput, TakesSome, input_limit}
use Rattle.rt_lines.specs.declared.play_fault.PlayFault.{PlayFault}
use Rattle.rt_lines.specs.declared.play_fault.PlayFault.TheVariants.{Usage, Refused, ReadFault, WriteFault, Memory, Limit}
use Rattle.rt_live_input.specs.Input.{IsInput, IsRead, IsRefused}
use Rattle.rt_live_input.specs.declared.input.Input.{Input}
use Rattle.rt_writing.specs.Writing.{FailsWithin, Puts}
use Rattle.rt_live.specs.Run.{HasToldRun}
use Rattle.rt_live.specs.declared.live_end.LiveEnd.{LiveEnd}

-- a text is the input of a cluster, whose nodes ran over it; this is what is to be written of the run
pub record HasRunOver (journal : Bool) (text : List ℕ) (ends : List Offset) (written : List ℕ) : Type 0 where
  pub input : Input
  pub read : IsRead text input
  pub is : IsInput input
  pub run : HasToldRun input journal ends written

-- and it was written whole
pub record TellsAll (journal : Bool) (text : List ℕ) (old new : SinkMeaning) (ends : List Offset) : Type 0 where
  pub written : List ℕ
  pub ran : HasRunOver journal text ends written
  pub puts : Puts old new written

-- or up to where the sink failed
pub record TellsSome (journal : Bool) (text : List ℕ) (old new : SinkMeaning) : Type 0 where
  pub ends : List Offset
  pub written : List ℕ
  pub ran : HasRunOver journal text ends written
  pub fails : FailsWithin written old new

-- a text is refused by its own words, and nothing is written
pub record RefusesText (text : List ℕ) (old new : SinkMeaning) (fault : PlayFault) : Type 0 where
  pub refused : IsRefused text fault
  pub nothing : new ≡ old

-- what is written of a text, by the answer
abbrev pub LivesText : Bool → List ℕ → SinkMeaning → SinkMeaning → Result LiveEnd PlayFault → Type 0
LivesText journal text old new (Ok end) = TellsAll journal text old new end.ends.items
LivesText journal text old new (Err Usage) = ⊥
LivesText journal text old new (Err (Refused line reason)) = RefusesText text old new (Refused line reason)
LivesText journal text old new (Err ReadFault) = ⊥
LivesText journal text old new (Err WriteFault) = TellsSome journal text old new
LivesText journal text old new (Err Memory) = new ≡ old
LivesText journal text old new (Err (Limit which)) = RefusesText text old new (Limit which)

-- the source was read to its end, and this is what became of its text
pub record LivesWhole (journal : Bool) (from to : SourceMeaning) (old new : SinkMeaning) (result : Result LiveEnd PlayFault) : Type 0 where
  pub text : List ℕ
  pub reads : ReadsInput from to text
  pub lives : LivesText journal text old new result

-- memory ran out, and nothing was written
pub record RunsOut (from to : SourceMeaning) (old new : SinkMeaning) : Type 0 where
  pub some : TakesSome from to
  pub nothing : new ≡ old

-- something passes its limit: the input as a whole, or what a line of it says
abbrev pub PassesLimit : Bool → SourceMeaning → SourceMeaning → SinkMeaning → SinkMeaning → Which → Type 0
PassesLimit journal from to old new which =
    ((which ≡ InputLimit) × IsTooLong from to old new) ⊎ LivesWhole journal from to old new (Err (Limit which))

-- what is read and written, by the answer
abbrev pub LivesInput : Bool → SourceMeaning → SourceMeaning → SinkMeaning → SinkMeaning → Result LiveEnd PlayFault → Type 0
LivesInput journal from to old new (Ok end) = LivesWhole journal from to old new (Ok end)
LivesInput journal from to old new (Err Usage) = ⊥
LivesInput journal from to old new (Err (Refused line reason)) = LivesWhole journal from to old new (Err (Refused line reason))
LivesInput journal from to old new (Err ReadFault) = FailsToRead from to old new
LivesInput journal from to old new (Err WriteFault) = LivesWhole journal from to old new (Err WriteFault)
LivesInput journal from to old new (Err Memory) = RunsOut from to old new
LivesInput journal from to old new (Err (Limit which)) = PassesLimit journal from to old new which

-- a text that is an input of a cluster, within its limits
pub record IsAnInput (text : List ℕ) : Type 0 where
  pub within : length text ≤ input_limit
  pub input : Input
  pub read : IsRead text input

-- the answer is one of an input's own, or want of memory
abbrev pub Meets : List ℕ → Result LiveEnd PlayFault → Type 0
Meets text (Ok end) = IsAnInput text
Meets text (Err Usage) = ⊥
Meets text (Err (Refused line reason)) = IsRefused text (Refused line reason)
Meets text (Err ReadFault) = ⊥
Meets text (Err WriteFault) = ⊥
Meets text (Err Memory) = Unit {0}
Meets text (Err (Limit which)) = ((which ≡ InputLimit) × (input_limit < length text)) ⊎ IsRefused text (Limit which)

-- what is to be written was written whole, or up to where the sink failed
abbrev pub Writes : SinkMeaning → SinkMeaning → List Offset → List ℕ → Result LiveEnd PlayFault → Type 0
Writes old new ends written (Ok end) = (end.ends.items ≡ ends) × Puts old new written
Writes old new ends written (Err Usage) = ⊥
Writes old new ends written (Err (Refused line reason)) = ⊥
Writes old new ends written (Err ReadFault) = ⊥
Writes old new ends written (Err WriteFault) = FailsWithin written old new
Writes old new ends written (Err Memory) = ⊥
Writes old new ends written (Err (Limit which)) = ⊥
