use Rattle.std.specs.Prelude.{ℕ, None}
use Rattle.rt_base.specs.Source.{SourceMeaning}

-- a reader, and how often it failed, at most the last number of 64 bits
pub record Reading (R : Type 0) : Type 0 where
  pub inner : R
  pub faults : ℕ

-- no bytes are told
abbrev pub reading_meaning : ℕ → SourceMeaning
reading_meaning faults = record { left = None; faults = faults }
