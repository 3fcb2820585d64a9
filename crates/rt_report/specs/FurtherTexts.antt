-- What a report tells of the lines that stand beside the events.
use Rattle.std.specs.Prelude.{ℕ, ℤ, Bool, true, false, List, ◌++◌, map, Option, None, Some, codes, decimal}
use Rattle.std.specs.Fmt.{signed_decimal}
use Rattle.rt_base.specs.declared.numbers.Instance.{Instance}
use Rattle.rt_base.specs.declared.numbers.Partition.{Partition}
use Rattle.rt_base.specs.declared.numbers.Sequence.{Sequence}
use Rattle.rt_lines.specs.Answer.{answer_bytes, array_of}
use Rattle.rt_model.specs.declared.answer.Answer.{Answer}
use Rattle.rt_report.specs.Subject.{replica_text}

-- the answer from the latest row of each key
abbrev pub latest_text : Answer → List ℕ
latest_text answer = codes "latest " ++ (answer_bytes answer ++ codes "\n")

-- how many rows were pushed
abbrev pub offline_text : ℕ → List ℕ
offline_text rows = codes "offline " ++ (decimal rows ++ codes "\n")

-- why none were, by the number of the refusal
abbrev pub nooffline_text : ℕ → List ℕ
nooffline_text number = codes "nooffline " ++ (decimal number ++ codes "\n")

-- the boundary between offline and realtime rows, in milliseconds
abbrev pub boundary_text : Option ℤ → List ℕ
boundary_text None = codes "none"
boundary_text (Some boundary) = signed_decimal boundary

-- the answer from offline and realtime rows
abbrev pub hybrid_text : Option ℤ → Answer → List ℕ
hybrid_text boundary answer = codes "hybrid " ++ (boundary_text boundary ++ (codes " " ++ (answer_bytes answer ++ codes "\n")))

-- how many replicas a pause forced
abbrev pub paused_text : ℕ → List ℕ
paused_text forced = codes "paused " ++ (decimal forced ++ codes "\n")

abbrev pub resumed_text : List ℕ
resumed_text = codes "resumed\n"

-- a force job, and how many segments it has
abbrev pub forced_text : ℕ → ℕ → List ℕ
forced_text job count = codes "force f" ++ (decimal job ++ (codes " " ++ (decimal count ++ codes "\n")))

-- a segment as a pair of its partition and its sequence
abbrev pub pair_text : Partition × Sequence → List ℕ
pair_text (partition, sequence) = codes "[" ++ (decimal partition.0 ++ (codes "," ++ (decimal sequence.0 ++ codes "]")))

-- the segments of a force job that aren't committed
abbrev pub pending_text : ℕ → List (Partition × Sequence) → List ℕ
pending_text job segments = codes "force f" ++ (decimal job ++ (codes " pending=" ++ (array_of (map pair_text segments) ++ codes "\n")))

-- a replica that doesn't begin to consume while the run is paused
abbrev pub held_text : Instance → Partition → Sequence → List ℕ
held_text instance partition sequence = codes "paused " ++ (replica_text instance partition sequence ++ codes "\n")

-- from which server a segment's file was fetched, and its rows
abbrev pub peer_text : Instance → Partition → Sequence → Instance → ℕ → List ℕ
peer_text instance partition sequence from rows =
    codes "peer " ++ (replica_text instance partition sequence ++ (codes " from s" ++ (decimal from.0 ++ (codes " rows=" ++ (decimal rows ++ codes "\n")))))

abbrev pub nopeer_text : Instance → Partition → Sequence → List ℕ
nopeer_text instance partition sequence = codes "nopeer " ++ (replica_text instance partition sequence ++ codes "\n")

-- the steps of a plan, and how many replicas it adds
abbrev pub plan_text : ℕ → ℕ → List ℕ
plan_text steps moves = codes "plan " ++ (decimal steps ++ (codes " " ++ (decimal moves ++ codes "\n")))

-- why there is no plan, or no step of it, by the number of the refusal
abbrev pub noplan_text : ℕ → List ℕ
noplan_text number = codes "noplan " ++ (decimal number ++ codes "\n")

-- whether the plan's present state has the replica that was loaded
abbrev pub rehearsed_text : Bool → List ℕ
rehearsed_text true = codes "rehearsed\n"
rehearsed_text false = codes "notplanned\n"

-- the state that a plan is at, of its steps
abbrev pub at_text : ℕ → ℕ → List ℕ
at_text state steps = codes "at " ++ (decimal state ++ (codes "/" ++ (decimal steps ++ codes "\n")))
