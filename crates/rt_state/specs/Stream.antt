-- A message comes to the end of a partition.
use Rattle.std.specs.Prelude.{ℕ, List, Result, Ok, Err, length}
use Rattle.rt_base.specs.declared.numbers.Offset.{Offset}
use Rattle.rt_base.specs.declared.numbers.Partition.{Partition}
use Rattle.rt_events.specs.declared.outcome.Outcome.{Outcome}
use Rattle.rt_events.specs.declared.refusal.Refusal.{Refusal}
use Rattle.rt_stream.specs.Log.{messages_of, with_message, end_of}
use Rattle.rt_state.specs.Applying.{Next}
use Rattle.rt_state.specs.Finding.{partition_tests}
use Rattle.rt_state.specs.Room.{Due, message_cost, priced, counted}
use Rattle.rt_state.specs.Tests.{met}
use Rattle.rt_state.specs.declared.cost.Cost.{Cost}
use Rattle.rt_state.specs.declared.state.State.{State}
use Rattle.rt_events.specs.declared.outcome.Outcome.TheVariants as told

abbrev pub produce_due : State → Partition → List ℕ → Due
produce_due w p message = met (partition_tests w p) (priced w (message_cost (length message)))

abbrev pub produced : State → Partition → List ℕ → Cost → Next
produced w p message cost =
    (counted (record w { log = with_message w.log p message }) cost, told.Produced (end_of (messages_of w.log p)))

-- the outcome that says a message's offset
abbrev pub offset_told : Result Offset Refusal → Result Outcome Refusal
offset_told (Ok offset) = Ok (told.Produced offset)
offset_told (Err refusal) = Err refusal
