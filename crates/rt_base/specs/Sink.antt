use Rattle.std.specs.Prelude.{◌≡◌, ℕ, ◌<◌, ◌≤◌, List, ◌++◌, length, take, Option, Result, Ok, Err}
use Rattle.std.specs.Option.{option_map}
use Rattle.rt_base.specs.declared.failed.Failed.{Failed}
use Rattle.rt_base.specs.Source.{Rises}

-- what a sink means: what was taken, where that is told, and how many faults were met
pub record SinkMeaning : Type 0 where
  pub taken : Option (List ℕ)
  pub faults : ℕ

-- what is taken once a piece more was
abbrev pub added : Option (List ℕ) → List ℕ → Option (List ℕ)
added taken piece = option_map (λ bytes. bytes ++ piece) taken

-- the front of a piece was taken: at least a byte of one that isn't empty
pub record Took (old new : SinkMeaning) (piece : List ℕ) (count : ℕ) : Type 0 where
  pub fits : count ≤ length piece
  pub some : 0 < length piece → 0 < count
  pub taken : new.taken ≡ added old.taken (take count piece)
  pub counts : old.faults ≤ new.faults

-- the outside failed: nothing was taken, and the count rose
pub record FailsToWrite (old new : SinkMeaning) : Type 0 where
  pub taken : new.taken ≡ old.taken
  pub counts : Rises old.faults new.faults

-- what a write does
abbrev pub Writes : SinkMeaning → SinkMeaning → List ℕ → Result ℕ Failed → Type 0
Writes old new piece (Ok count) = Took old new piece count
Writes old new piece (Err _) = FailsToWrite old new
