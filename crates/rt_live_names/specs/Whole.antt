-- What an answer names that leaves nothing of the input out.
use Rattle.std.specs.Prelude.{◌≡◌, ℕ, ◌+◌, ◌==◌, List, [], ◌∷◌, ◌++◌, map, if◌then◌else◌}
use Rattle.rt_base.specs.declared.numbers.Offset.{Offset}
use Rattle.rt_base.specs.declared.numbers.Partition.{Partition}
use Rattle.rt_base.specs.declared.range.Range.{Range}
use Rattle.rt_ground.specs.StreamCalls.{log_of}
use Rattle.rt_ground.specs.declared.appended.Appended.{Appended}
use Rattle.rt_live_names.specs.Names.{Names}
use Rattle.rt_model.specs.declared.answer.Answer.{Answer}
use Rattle.rt_stream.specs.Log.{end_of}

abbrev pub no_offset : Offset
no_offset = record { 0 = 0 }

-- how many messages each partition has, where these are all messages
abbrev pub lengths_in : ℕ → List Appended → List Offset
lengths_in partitions rows = map end_of (log_of partitions rows)

-- the range of all messages of a partition, where it has some
abbrev pub whole_in : Partition → Offset → List (Partition × Range)
whole_in p length = if length.0 == 0 then [] else (p, record { start = no_offset; end = length }) ∷ []

-- those of the partitions from this one on
abbrev pub whole_from : ℕ → List Offset → List (Partition × Range)
whole_from p [] = []
whole_from p (length ∷ lengths) = whole_in (record { 0 = p }) length ++ whole_from (p + 1) lengths

-- the ranges of the whole input of a cluster
abbrev pub whole_ranges : Names → List (Partition × Range)
whole_ranges n = whole_from 0 (lengths_in n.setup.partitions n.rows)

-- an answer misses nothing, and names these ranges
pub record IsWhole (whole : List (Partition × Range)) (answer : Answer) : Type 0 where
  pub missing : answer.missing ≡ []
  pub ranges : answer.ranges ≡ whole
