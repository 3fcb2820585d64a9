-- What a store means.
use Rattle.std.specs.Prelude.{ℕ, List, Option}
use Rattle.rt_base.specs.Faults.{Planned}
use Rattle.rt_model.specs.declared.node.Seen.{Seen}

-- all writes, and the faults that are planned
pub record Told : Type 0 where
  pub writes : List Seen
  pub faults : Planned

-- a caller who is told apart from others: the numbers of its front, and its own writes, in order
pub record Own : Type 0 where
  pub numbers : List ℕ
  pub writes : List Seen

pub record Meaning : Type 0 where
  -- everything, where it is told
  pub told : Option Told
  -- the writes that the caller has seen
  pub seen : List Seen
  -- the caller's own, where callers are told apart
  pub own : Option Own
  -- the count of faults
  pub faults : ℕ
