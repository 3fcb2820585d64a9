-- What a sink has taken of a piece that was to be written whole.
use Rattle.std.specs.Prelude.{◌≡◌, ◌≤◌, ℕ, List, ◌++◌, Result, Ok, Err}
use Rattle.rt_base.specs.Sink.{SinkMeaning, added}
use Rattle.rt_base.specs.Source.{Rises}
use Rattle.rt_base.specs.declared.failed.Failed.{Failed}

-- this was written, and nothing else
pub record Puts (old new : SinkMeaning) (text : List ℕ) : Type 0 where
  pub taken : new.taken ≡ added old.taken text
  pub counts : old.faults ≤ new.faults

-- a front of a text was written, and the sink failed
pub record FailsWithin (text : List ℕ) (old new : SinkMeaning) : Type 0 where
  pub front : List ℕ
  pub rest : List ℕ
  pub whole : text ≡ front ++ rest
  pub taken : new.taken ≡ added old.taken front
  pub counts : Rises old.faults new.faults

-- a piece was written whole, or up to where the sink failed
abbrev pub WritesAll : SinkMeaning → SinkMeaning → List ℕ → Result Unit Failed → Type 0
WritesAll old new piece (Ok done) = Puts old new piece
WritesAll old new piece (Err failed) = FailsWithin piece old new
