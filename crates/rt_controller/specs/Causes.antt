-- The causes of what a controller answers.
use Rattle.std.specs.Prelude.{◌≡◌}
use Rattle.rt_model.specs.declared.job_step.JobStep.{JobStep}
use Rattle.rt_model.specs.declared.job_step.StepOutcome.TheVariants as outcome
use Rattle.rt_model.specs.declared.reply.FailCause.TheVariants as cause
use Rattle.rt_model.specs.declared.reply.ReplyStatus.TheVariants as status
use Rattle.rt_controller.specs.declared.handled.Handled.TheVariants as handled
use Rattle.rt_controller.specs.declared.handled.Handled.{Handled}

-- a request failed for a fault of a store
abbrev pub IsFault : Handled → Type 0
IsFault (handled.Reply reply) = reply.status ≡ status.Failed cause.StoreFault
IsFault (handled.Job number) = ⊥

-- a step failed for a fault of a store
abbrev pub HasFailed : JobStep → Type 0
HasFailed step = step.outcome ≡ outcome.Failed
