-- The line that is reported of an event that happened.
use Rattle.std.specs.Prelude.{ℕ, List, ◌++◌, codes, decimal}
use Rattle.rt_events.specs.declared.event.Event.{Event}
use Rattle.rt_events.specs.declared.outcome.Outcome.{Outcome}
use Rattle.rt_events.specs.declared.outcome.Outcome.TheVariants.{
  Produced,
  Now,
  Noted,
  Consumed,
  Stands,
  Built,
  Sent,
  Replied,
  Started,
  Stepped,
  Took,
  Ignored,
  Down,
  Up,
  SawIdeal,
  Loaded,
  Failed,
  Repaired,
  Retired,
  Asked,
  Routed,
  Served,
  NotServed,
  NodeDown,
  Answered,
  Shown,
}
use Rattle.rt_base.specs.declared.numbers.Moment.{Moment}
use Rattle.rt_base.specs.declared.numbers.Offset.{Offset}
use Rattle.rt_report.specs.BrokerTexts.{answer_line, asked_text, node_down_text, routed_text, served_text, shown_text, unserved_text}
use Rattle.rt_report.specs.Heads.{told_of}
use Rattle.rt_report.specs.MessageTexts.{ignored_text, replied_text, sent_text, started_text, stepped_text, took_text}
use Rattle.rt_report.specs.NodeTexts.{bare_text, failed_text, repaired_text, retired_text, saw_text, up_text}
use Rattle.rt_report.specs.ReplicaTexts.{built_text, consumed_text, loaded_text, stands_text}

abbrev pub produced_text : Event → Offset → List ℕ
produced_text event offset = told_of event (codes "@" ++ (decimal offset.0 ++ codes "\n"))

abbrev pub now_text : Event → Moment → List ℕ
now_text event moment = told_of event (decimal moment.0 ++ codes "\n")

abbrev pub outcome_text : Event → Outcome → List ℕ
outcome_text event (Produced offset) = produced_text event offset
outcome_text event (Now moment) = now_text event moment
outcome_text event Noted = bare_text event
outcome_text event (Consumed cur rows state) = consumed_text event cur rows state
outcome_text event (Stands state) = stands_text event state
outcome_text event (Built rows state) = built_text event rows state
outcome_text event (Sent message request) = sent_text event message request
outcome_text event (Replied message reply) = replied_text message reply
outcome_text event (Started job) = started_text event job
outcome_text event (Stepped step message) = stepped_text event step message
outcome_text event (Took instance partition sequence state) = took_text event instance partition sequence state
outcome_text event Ignored = ignored_text event
outcome_text event Down = bare_text event
outcome_text event (Up incarnation) = up_text event incarnation
outcome_text event (SawIdeal version) = saw_text event version
outcome_text event (Loaded rows) = loaded_text event rows
outcome_text event Failed = failed_text event
outcome_text event (Repaired step) = repaired_text event step
outcome_text event (Retired step) = retired_text event step
outcome_text event (Asked query) = asked_text event query
outcome_text event (Routed pieces) = routed_text event pieces
outcome_text event (Served range) = served_text event range
outcome_text event NotServed = unserved_text event
outcome_text event NodeDown = node_down_text event
outcome_text event (Answered answer) = answer_line answer
outcome_text event (Shown seen) = shown_text event seen
