-- What a controller did, as lists: what it took, what it handled, what it answered, and what its journal keeps of it.
use Rattle.std.specs.Prelude.{ℕ, ◌==◌, Bool, List, [], ◌∷◌, ◌++◌, map, slice_get, Result, Ok, Err}
use Rattle.std.specs.Prelude.{Option, Some, None, option_map}
use Rattle.std.specs.List.{position}
use Rattle.rt_controller.specs.declared.handled.Handled.{Handled}
use Rattle.rt_controller.specs.declared.handled.Handled.TheVariants as handled
use Rattle.rt_controller.specs.declared.handled.JobRefused.{JobRefused}
use Rattle.rt_link.specs.declared.envelope.Envelope.{Envelope}
use Rattle.rt_link.specs.declared.envelope.Envelope.TheVariants.{Asks}
use Rattle.rt_live_output.specs.declared.journal.Heard.{Heard as Line}
use Rattle.rt_model.specs.declared.job_step.JobStep.{JobStep}
use Rattle.rt_model.specs.declared.reply.Reply.{Reply}
use Rattle.rt_model.specs.declared.reply.ReplyStatus.{ReplyStatus}
use Rattle.rt_model.specs.declared.request.Request.{Request}
use Rattle.rt_msgs.specs.RequestText.{request_text}
use Rattle.rt_live_controller.specs.declared.controller_did.ControllerDid.{ControllerDid}
use Rattle.rt_live_controller.specs.declared.controller_did.ControllerDid.TheVariants.{Believed, Heard, Passed, Worked}
use Rattle.rt_live_controller.specs.declared.heard_journal.EndedJob.{EndedJob}
use Rattle.rt_live_controller.specs.declared.heard_request.HeardAnswer.{HeardAnswer}
use Rattle.rt_live_controller.specs.declared.heard_request.HeardAnswer.TheVariants as answer
use Rattle.rt_live_controller.specs.declared.heard_request.HeardRequest.{HeardRequest}

-- what is told of each, one after the other
abbrev pub all_in : {D X : Type 0} → (D → List X) → List D → List X
all_in f [] = []
all_in f (d ∷ ds) = f d ++ all_in f ds

abbrev pub listed : {X : Type 0} → Option X → List X
listed None = []
listed (Some x) = x ∷ []

-- ---- what it took

abbrev pub envelopes_in : ControllerDid → List Envelope
envelopes_in Believed = []
envelopes_in (Heard request now result told deep_told) = Asks request ∷ []
envelopes_in (Passed envelope) = envelope ∷ []
envelopes_in (Worked job now result told deep_told) = []

abbrev pub envelopes_of : List ControllerDid → List Envelope
envelopes_of did = all_in envelopes_in did

-- ---- the requests of its cluster's partitions, of these

abbrev pub requests_in : ControllerDid → List Request
requests_in Believed = []
requests_in (Heard request now result told deep_told) = request ∷ []
requests_in (Passed envelope) = []
requests_in (Worked job now result told deep_told) = []

abbrev pub requests_of : List ControllerDid → List Request
requests_of did = all_in requests_in did

-- ---- what it answered, at once or with the last step of a job

abbrev pub reply_at_once : {E : Type 0} → Result Handled E → Option Reply
reply_at_once (Ok (handled.Reply reply)) = Some reply
reply_at_once (Ok (handled.Job job)) = None
reply_at_once (Err e) = None

abbrev pub reply_of_job : Result JobStep JobRefused → Option Reply
reply_of_job (Ok step) = step.reply
reply_of_job (Err e) = None

abbrev pub reply_in : ControllerDid → Option Reply
reply_in Believed = None
reply_in (Heard request now result told deep_told) = reply_at_once result
reply_in (Passed envelope) = None
reply_in (Worked job now result told deep_told) = reply_of_job result

abbrev pub replies_in : ControllerDid → List Reply
replies_in did = listed (reply_in did)

abbrev pub replies_of : List ControllerDid → List Reply
replies_of did = all_in replies_in did

-- ---- what its journal keeps: each request that was handled, and each job that ended

abbrev pub answer_by : Handled → HeardAnswer
answer_by (handled.Reply reply) = answer.Status reply.status
answer_by (handled.Job job) = answer.Job job

abbrev pub heard_as : {E : Type 0} → Request → Result Handled E → List HeardRequest
heard_as request (Ok how) = record { request = request_text request; answer = answer_by how } ∷ []
heard_as request (Err e) = []

abbrev pub heard_in : ControllerDid → List HeardRequest
heard_in Believed = []
heard_in (Heard request now result told deep_told) = heard_as request result
heard_in (Passed envelope) = []
heard_in (Worked job now result told deep_told) = []

abbrev pub ended_with : ℕ → Option Reply → List EndedJob
ended_with job None = []
ended_with job (Some reply) = record { job = job; status = reply.status } ∷ []

abbrev pub ended_in : ControllerDid → List EndedJob
ended_in Believed = []
ended_in (Heard request now result told deep_told) = []
ended_in (Passed envelope) = []
ended_in (Worked job now result told deep_told) = ended_with job (reply_of_job result)

-- ---- the lines of a journal

abbrev pub is_of_job : ℕ → EndedJob → Bool
is_of_job job one = one.job == job

abbrev pub status_at : List EndedJob → Option ℕ → Option ReplyStatus
status_at ended None = None
status_at ended (Some place) = option_map (λ (one : EndedJob). one.status) (slice_get ended place)

-- the answer of the job of this number, where it has ended
abbrev pub answer_from : ℕ → List EndedJob → Option ReplyStatus
answer_from job ended = status_at ended (position (is_of_job job) ended)

abbrev pub status_from : List EndedJob → HeardAnswer → Option ReplyStatus
status_from ended (answer.Status status) = Some status
status_from ended (answer.Job job) = answer_from job ended

abbrev pub line_from : List EndedJob → HeardRequest → Line
line_from ended heard = record { request = heard.request; status = status_from ended heard.answer }

-- each request that was handled, with the answer that it was given at once, or that of the job which it started: none
-- where that hasn't ended
abbrev pub lines_of : List ControllerDid → List Line
lines_of did = map (line_from (all_in ended_in did)) (all_in heard_in did)
