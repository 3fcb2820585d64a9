-- What reading a whole input takes from its source.
use Rattle.std.specs.Prelude.{◌≡◌, ℕ, ◌+◌, ◌<◌, ◌≤◌, List, length, Result, Ok, Err}
use Rattle.rt_base.specs.Sink.{SinkMeaning}
use Rattle.rt_base.specs.Source.{SourceMeaning, Rises, IsEnd, put_back}
use Rattle.rt_base.specs.declared.limits.TheConstants.{MOST_INPUT}
use Rattle.rt_lines.specs.declared.reading.ReadStop.{ReadStop}
use Rattle.rt_lines.specs.declared.reading.ReadStop.TheVariants as stop

-- the most bytes of an input
abbrev pub input_limit : ℕ
input_limit = MOST_INPUT

-- this was read, and nothing more
pub record Takes (old new : SourceMeaning) (input : List ℕ) : Type 0 where
  pub left : old.left ≡ put_back input new.left
  pub few : length input ≤ input_limit + 1
  pub counts : old.faults ≤ new.faults

-- the source was read to its end, and this is what it gave
pub record ReadsInput (old new : SourceMeaning) (input : List ℕ) : Type 0 where
  pub taken : Takes old new input
  pub ended : IsEnd new.left
  pub within : length input ≤ input_limit

-- an input was read to its end, or some of it
pub record TakesSome (from to : SourceMeaning) : Type 0 where
  pub input : List ℕ
  pub taken : Takes from to input

-- what was read, by the answer: an input whole, or why its end wasn't reached
abbrev pub ReadsAll : SourceMeaning → SourceMeaning → Result (List ℕ) ReadStop → Type 0
ReadsAll from to (Ok input) = ReadsInput from to input
ReadsAll from to (Err stop.Failed) = TakesSome from to × Rises from.faults to.faults
ReadsAll from to (Err stop.TooLong) = (some : TakesSome from to) × (input_limit < length some.input)
ReadsAll from to (Err stop.Memory) = TakesSome from to

-- the source failed
pub record FailsToRead (from to : SourceMeaning) (old new : SinkMeaning) : Type 0 where
  pub input : List ℕ
  pub taken : Takes from to input
  pub counts : Rises from.faults to.faults
  pub nothing : new ≡ old

-- the source gives more than is taken: one byte more was read, and nothing written
pub record IsTooLong (from to : SourceMeaning) (old new : SinkMeaning) : Type 0 where
  pub input : List ℕ
  pub taken : Takes from to input
  pub long : input_limit < length input
  pub nothing : new ≡ old
