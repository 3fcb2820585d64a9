use Rattle.std.specs.Prelude.{
  ℕ,
  List,
  ◌++◌,
  length,
  take,
  drop,
  min,
  Some,
  Result,
  Ok,
  Err,
  if◌then◌else◌,
}
use Rattle.rt_base.specs.declared.failed.Failed.{Failed}
use Rattle.rt_base.specs.FaultPlan.{Plan, fails_now, after_call, faults_of}
use Rattle.rt_base.specs.Source.{SourceMeaning}

-- the bytes that are left, and the calls that fail
pub record SourceTold : Type 0 where
  pub left : List ℕ
  pub plan : Plan

-- everything is told
abbrev pub source_meaning : SourceTold → SourceMeaning
source_meaning told = record { left = Some told.left; faults = faults_of told.plan }

-- how many bytes the next read gives to a piece of this length
abbrev pub given : SourceTold → ℕ → ℕ
given told room = if fails_now told.plan then 0 else min room (length told.left)

-- a planned call fails, and any other gives what fits
abbrev pub read_answer : SourceTold → ℕ → Result ℕ Failed
read_answer told room = if fails_now told.plan then Err (record {}) else Ok (given told room)

-- the bytes given are no longer left, and the call counts
abbrev pub after_read : SourceTold → ℕ → SourceTold
after_read told room =
    record { left = drop (given told room) told.left; plan = after_call told.plan }

-- the piece after the read: the bytes given, and then what stood there
abbrev pub filled : SourceTold → List ℕ → List ℕ
filled told piece =
    let count = given told (length piece) in
    take count told.left ++ drop count piece
