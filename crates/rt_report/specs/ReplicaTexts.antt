-- What a report tells of a replica.
use Rattle.std.specs.Prelude.{ℕ, List, ◌++◌, codes, decimal}
use Rattle.rt_base.specs.declared.numbers.Offset.{Offset}
use Rattle.rt_events.specs.declared.event.Event.{Event}
use Rattle.rt_model.specs.declared.replica_state.ReplicaState.{ReplicaState}
use Rattle.rt_report.specs.Heads.{told_of}
use Rattle.rt_report.specs.States.{state_text}

-- how far it is, the rows that it holds, and its state
abbrev pub consumed_text : Event → Offset → ℕ → ReplicaState → List ℕ
consumed_text event cur rows state =
    told_of event (codes " cur=" ++ (decimal cur.0 ++ (codes " rows=" ++ (decimal rows ++ (codes " " ++ (state_text state ++ codes "\n"))))))

abbrev pub stands_text : Event → ReplicaState → List ℕ
stands_text event state = told_of event (codes " " ++ (state_text state ++ codes "\n"))

abbrev pub built_text : Event → ℕ → ReplicaState → List ℕ
built_text event rows state = told_of event (codes " rows=" ++ (decimal rows ++ (codes " " ++ (state_text state ++ codes "\n"))))

abbrev pub loaded_text : Event → ℕ → List ℕ
loaded_text event rows = told_of event (codes " rows=" ++ (decimal rows ++ codes "\n"))
