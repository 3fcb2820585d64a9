use Rattle.std.specs.Prelude.{ℕ, None}
use Rattle.rt_base.specs.Sink.{SinkMeaning}

-- a writer, and how often it failed, at most the last number of 64 bits
pub record Writing (W : Type 0) : Type 0 where
  pub inner : W
  pub faults : ℕ

-- no bytes are told
abbrev pub writing_meaning : ℕ → SinkMeaning
writing_meaning faults = record { taken = None; faults = faults }
