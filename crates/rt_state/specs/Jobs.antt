-- The jobs of controllers, step by step.
use Rattle.std.specs.Prelude.{◌≡◌, ℕ, Bool, false, length, slice_get, Option, Some, None, Ok}
use Rattle.rt_base.specs.declared.numbers.ControllerId.{ControllerId}
use Rattle.rt_controller.specs.Working.{is_open, sets_next}
use Rattle.rt_controller.specs.Controller.{Controlling}
use Rattle.rt_controller.specs.Steps.{Works}
use Rattle.rt_deep.specs.Meaning.{Told as ToldDeep}
use Rattle.rt_deep.specs.Memory.{means as deep_means}
use Rattle.rt_model.specs.declared.job_step.JobStep.{JobStep}
use Rattle.rt_model.specs.declared.reply.Reply.{Reply}
use Rattle.rt_store.specs.Meaning.{Told}
use Rattle.rt_store.specs.Memory.{means}
use Rattle.rt_state.specs.Applying.{Next}
use Rattle.rt_state.specs.Finding.{has_controller, is_controller_up}
use Rattle.rt_state.specs.Messages.{with_reply, after_step}
use Rattle.rt_state.specs.Room.{Due, set_cost, priced, with_set, counted}
use Rattle.rt_state.specs.Tests.{Tests, met}
use Rattle.rt_state.specs.Tests as test
use Rattle.rt_nodes.specs.declared.controller_node.ControllerNode.{ControllerNode}
use Rattle.rt_state.specs.declared.cost.Cost.{Cost}
use Rattle.rt_state.specs.declared.state.State.{State}
use Rattle.rt_events.specs.declared.outcome.Outcome.TheVariants as told

abbrev pub has_job_in : Option ControllerNode → ℕ → Bool
has_job_in None j = false
has_job_in (Some n) j = is_open n.controller j

abbrev pub has_job : State → ControllerId → ℕ → Bool
has_job w c j = has_job_in (slice_get w.controllers c.0) j

abbrev pub sets_in : Option ControllerNode → ℕ → Option ℕ
sets_in None j = None
sets_in (Some n) j = sets_next n.controller j

abbrev pub sets_of_job : State → ControllerId → ℕ → Option ℕ
sets_of_job w c j = sets_in (slice_get w.controllers c.0) j

abbrev pub job_tests : State → ControllerId → ℕ → Tests
job_tests w c j = test.there (has_controller w c) (test.known (has_job w c j) (test.up (is_controller_up w c) test.none))

abbrev pub job_due : State → ControllerId → ℕ → Due
job_due w c j = met (job_tests w c j) (priced w (set_cost (sets_of_job w c j)))

-- what was set is counted, where the history has grown
abbrev pub noted_set : State → Cost → ℕ → State
noted_set w cost before = record w { counts = with_set w.counts cost before (length w.store.writes) }

-- the reply with which a job ended is sent
abbrev pub stepped_by : State → Cost → JobStep → Option Reply → Next
stepped_by w cost step None = (counted w cost, told.Stepped step None)
stepped_by w cost step (Some r) = (counted (with_reply w r) cost, told.Stepped step (Some (length w.sent)))

abbrev pub stepped : State → Cost → JobStep → Next
stepped w cost step = stepped_by w cost step step.reply

abbrev pub JobStepsAt : Option ControllerNode → State → ControllerId → ℕ → Cost → Next → Type 0
JobStepsAt None w c j cost x = ⊥
JobStepsAt (Some node) w c j cost x =
    (controller : Controlling) × (step : JobStep) × (store : Told) × (deep : ToldDeep)
    × Works (means w.store) (means store) (deep_means w.deep) (deep_means deep) node.controller j w.moment controller (Ok step)
    × (x ≡ stepped (noted_set (after_step w c node controller store deep) cost (length w.store.writes)) cost step)

abbrev pub JobSteps : State → ControllerId → ℕ → Cost → Next → Type 0
JobSteps w c j cost x = JobStepsAt (slice_get w.controllers c.0) w c j cost x

-- the state and the outcome, but for the count
abbrev pub job_told_by : State → JobStep → Option Reply → Next
job_told_by w step None = (w, told.Stepped step None)
job_told_by w step (Some r) = (with_reply w r, told.Stepped step (Some (length w.sent)))

abbrev pub job_told : State → JobStep → Next
job_told w step = job_told_by w step step.reply
