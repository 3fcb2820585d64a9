-- What a deep store means.
use Rattle.std.specs.Prelude.{ℕ, List, Option}
use Rattle.rt_base.specs.Faults.{Planned}
use Rattle.rt_deep.specs.declared.deep_put.DeepPut.{DeepPut}

-- all files in the order in which they were put, and the faults that are planned
pub record Told : Type 0 where
  pub files : List DeepPut
  pub faults : Planned

-- a caller who is told apart from others: the numbers of its front, and its own files, in order
pub record Own : Type 0 where
  pub numbers : List ℕ
  pub files : List DeepPut

pub record Meaning : Type 0 where
  -- everything, where it is told
  pub told : Option Told
  -- the files that the caller has seen
  pub seen : List DeepPut
  -- the caller's own, where callers are told apart
  pub own : Option Own
  -- the count of faults
  pub faults : ℕ
