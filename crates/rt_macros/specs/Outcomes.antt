-- What a macro goes on with, of the outcomes of its events.
use Rattle.std.specs.Prelude.{ℕ, Bool, true, false, Option, None, Some}
use Rattle.rt_events.specs.declared.outcome.Outcome.{Outcome}
use Rattle.rt_events.specs.declared.outcome.Outcome.TheVariants as outcome
use Rattle.rt_model.specs.declared.answer.Answer.{Answer}
use Rattle.rt_model.specs.declared.replica_state.ReplicaState.{ReplicaState}
use Rattle.rt_model.specs.declared.reply.Reply.{Reply}
use Rattle.rt_macros.specs.declared.outcomes.Delivered.{Delivered}
use Rattle.rt_macros.specs.declared.outcomes.Delivered.TheVariants as delivered
use Rattle.rt_macros.specs.declared.outcomes.Replied.{Replied}

-- the number of the message that was sent
abbrev pub sent_in : Outcome → Option ℕ
sent_in (outcome.Sent message request) = Some message
sent_in other = None

abbrev pub replied : ℕ → Reply → Replied
replied message reply = record { message = message; status = reply.status }

-- what a controller did with a request
abbrev pub delivered_in : Outcome → Delivered
delivered_in (outcome.Replied message reply) = delivered.Replied (replied message reply)
delivered_in (outcome.Started job) = delivered.Started job
delivered_in other = delivered.Neither

abbrev pub ending : Option ℕ → Option Reply → Option Replied
ending (Some message) (Some reply) = Some (replied message reply)
ending (Some message) None = None
ending None reply = None

-- the answer of a job, where it ended
abbrev pub ended_in : Outcome → Option Replied
ended_in (outcome.Stepped step message) = ending message step.reply
ended_in other = None

-- the state of the replica that took an answer
abbrev pub state_in : Outcome → Option ReplicaState
state_in (outcome.Took instance partition sequence state) = Some state
state_in other = None

-- the number of a query that was asked
abbrev pub asked_in : Outcome → Option ℕ
asked_in (outcome.Asked query) = Some query
asked_in other = None

-- whether a piece was served
abbrev pub is_served : Outcome → Bool
is_served (outcome.Served range) = true
is_served other = false

-- the answer of a query
abbrev pub answer_in : Outcome → Option Answer
answer_in (outcome.Answered answer) = Some answer
answer_in other = None
