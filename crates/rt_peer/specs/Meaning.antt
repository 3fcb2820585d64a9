-- What a peer means.
use Rattle.std.specs.Prelude.{ℕ, List, Option}
use Rattle.rt_base.specs.declared.numbers.Partition.{Partition}
use Rattle.rt_base.specs.declared.numbers.Sequence.{Sequence}

-- the file that a peer holds of a segment, if it holds one
abbrev pub Held : Type 0
Held = Partition → Sequence → Option (List ℕ)

pub record Meaning : Type 0 where
  -- what it holds, where that is told
  pub told : Option Held
  -- the count of faults
  pub faults : ℕ
