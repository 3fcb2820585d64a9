use Rattle.std.specs.Prelude.{
  ℕ,
  ◌+◌,
  ◌-◌,
  List,
  ◌++◌,
  length,
  take,
  min,
  Some,
  Result,
  Ok,
  Err,
  if◌then◌else◌,
  ◌&&◌,
  ◌||◌,
  nat_lt,
  nat_le,
  Bool,
  false,
}
use Rattle.rt_base.specs.declared.failed.Failed.{Failed}
use Rattle.rt_base.specs.FaultPlan.{Plan, fails_now, after_call, faults_of}
use Rattle.rt_base.specs.Source.{one_more}
use Rattle.rt_base.specs.Sink.{SinkMeaning}

-- the bytes that were taken, how many may be taken in all, the calls that fail, and how often the sink
-- was full
pub record SinkTold : Type 0 where
  pub taken : List ℕ
  pub room : ℕ
  pub plan : Plan
  pub full : ℕ

-- how many bytes the next write takes of a piece of this size
abbrev pub fitting : SinkTold → ℕ → ℕ
fitting told size = if fails_now told.plan then 0 else min size (told.room - length told.taken)

-- the next write finds no room for a piece of this size that isn't empty
abbrev pub is_full_for : SinkTold → ℕ → Bool
is_full_for told size =
    if fails_now told.plan then false else (nat_lt 0 size && nat_le told.room (length told.taken))

-- a planned call fails, and one that finds no room; any other takes what still fits
abbrev pub write_answer : SinkTold → ℕ → Result ℕ Failed
write_answer told size =
    if fails_now told.plan || is_full_for told size then Err (record {}) else Ok (fitting told size)

-- what fits is taken, the call counts, and so does a full sink
abbrev pub after_write : SinkTold → List ℕ → SinkTold
after_write told piece = record {
  taken = told.taken ++ take (fitting told (length piece)) piece;
  room = told.room;
  plan = after_call told.plan;
  full = if is_full_for told (length piece) then one_more told.full else told.full;
}

-- everything is told
abbrev pub sink_meaning : SinkTold → SinkMeaning
sink_meaning told = record { taken = Some told.taken; faults = faults_of told.plan + told.full }
