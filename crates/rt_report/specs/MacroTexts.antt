-- What a report tells of macros, and of a generated run.
use Rattle.std.specs.Prelude.{ℕ, Bool, true, false, List, ◌++◌, codes, decimal}
use Rattle.rt_base.specs.declared.numbers.Offset.{Offset}
use Rattle.rt_base.specs.declared.numbers.Partition.{Partition}
use Rattle.rt_model.specs.declared.replica_state.ReplicaState.{ReplicaState}
use Rattle.rt_model.specs.declared.reply.ReplyStatus.{ReplyStatus}
use Rattle.rt_msgs.specs.StatusText.{status_text}
use Rattle.rt_report.specs.States.{state_text}

abbrev pub filled_text : Partition → Offset → List ℕ
filled_text partition length = codes "filled " ++ (decimal partition.0 ++ (codes " " ++ (decimal length.0 ++ codes "\n")))

-- the numbers of a request and of its answer
abbrev pub numbers_text : ℕ → ℕ → List ℕ
numbers_text request reply = codes "exchanged m" ++ (decimal request ++ (codes " m" ++ (decimal reply ++ codes " ")))

-- then what is answered, and the replica's state behind it
abbrev pub exchanged_text : ℕ → ℕ → ReplyStatus → ReplicaState → List ℕ
exchanged_text request reply status state = numbers_text request reply ++ (status_text status ++ (codes " " ++ (state_text state ++ codes "\n")))

abbrev pub settled_text : Bool → List ℕ
settled_text true = codes "settled\n"
settled_text false = codes "unsettled\n"

-- how far a partition is committed
abbrev pub end_text : Partition → Offset → List ℕ
end_text partition end = codes "end " ++ (decimal partition.0 ++ (codes " " ++ (decimal end.0 ++ codes "\n")))
