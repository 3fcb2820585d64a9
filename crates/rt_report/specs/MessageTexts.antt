-- What a report tells of messages and jobs.
use Rattle.std.specs.Prelude.{ℕ, List, [], ◌++◌, Option, None, Some, codes, decimal}
use Rattle.rt_base.specs.declared.numbers.Instance.{Instance}
use Rattle.rt_base.specs.declared.numbers.Partition.{Partition}
use Rattle.rt_base.specs.declared.numbers.Sequence.{Sequence}
use Rattle.rt_events.specs.declared.event.Event.{Event}
use Rattle.rt_model.specs.declared.job_step.JobStep.{JobStep}
use Rattle.rt_model.specs.declared.job_step.StepName.{StepName}
use Rattle.rt_model.specs.declared.job_step.StepName.TheVariants as step
use Rattle.rt_model.specs.declared.job_step.StepOutcome.{StepOutcome}
use Rattle.rt_model.specs.declared.job_step.StepOutcome.TheVariants as outcome
use Rattle.rt_model.specs.declared.replica_state.ReplicaState.{ReplicaState}
use Rattle.rt_model.specs.declared.reply.Reply.{Reply}
use Rattle.rt_model.specs.declared.request.Request.{Request}
use Rattle.rt_msgs.specs.RequestText.{request_text}
use Rattle.rt_msgs.specs.StatusText.{status_text}
use Rattle.rt_report.specs.Heads.{told_of, worded_text}
use Rattle.rt_report.specs.States.{state_text}
use Rattle.rt_report.specs.Subject.{replica_text}

abbrev pub sent_text : Event → ℕ → Request → List ℕ
sent_text event message request =
    told_of event (codes "m" ++ (decimal message ++ (codes " " ++ (request_text request ++ codes "\n"))))

-- an answer, with the number of its message
abbrev pub answered_text : ℕ → Reply → List ℕ
answered_text message reply = codes "reply m" ++ (decimal message ++ (codes " " ++ status_text reply.status))

abbrev pub replied_text : ℕ → Reply → List ℕ
replied_text message reply = answered_text message reply ++ codes "\n"

abbrev pub started_text : Event → ℕ → List ℕ
started_text event job = worded_text (codes "job") event (codes " j" ++ (decimal job ++ codes "\n"))

abbrev pub step_text : StepName → List ℕ
step_text step.Check = codes "check"
step_text step.Done = codes "done"
step_text step.Next = codes "next"
step_text step.IdealRead = codes "idealRead"
step_text step.IdealSet = codes "idealSet"

abbrev pub changed_text : ℕ → ℕ → List ℕ
changed_text expected found = codes "changed " ++ (decimal expected ++ (codes " " ++ decimal found))

abbrev pub came_text : StepOutcome → List ℕ
came_text outcome.Fine = codes "ok"
came_text outcome.Exists = codes "exists"
came_text (outcome.Changed expected found) = changed_text expected found
came_text outcome.NoNode = codes "nonode"
came_text outcome.Bad = codes "bad"
came_text outcome.Same = codes "same"
came_text outcome.Gone = codes "gone"
came_text outcome.Failed = codes "failed"

-- the answer of a job that ended
abbrev pub ending_text : Option ℕ → Option Reply → List ℕ
ending_text None reply = []
ending_text (Some message) None = []
ending_text (Some message) (Some reply) = codes " " ++ answered_text message reply

abbrev pub stepped_text : Event → JobStep → Option ℕ → List ℕ
stepped_text event step message =
    told_of event (codes " " ++ (step_text step.step ++ (codes " " ++ (came_text step.outcome ++ (ending_text message step.reply ++ codes "\n")))))

abbrev pub took_text : Event → Instance → Partition → Sequence → ReplicaState → List ℕ
took_text event instance partition sequence state =
    told_of event (codes " " ++ (replica_text instance partition sequence ++ (codes " " ++ (state_text state ++ codes "\n"))))

abbrev pub ignored_text : Event → List ℕ
ignored_text event = worded_text (codes "ignored") event (codes "\n")
