-- A commit job along the turns of a run, from its start to the reply with which it ends.
use Rattle.std.specs.Prelude.{◌≡◌, ◌⊎◌, ℕ, ◌+◌, ◌≤◌, ◌==◌, ◌&&◌, Bool, true, false, if◌then◌else◌, List, [], ◌∷◌, ◌++◌, length, Option, Some, None, slice_get}
use Rattle.rt_base.specs.declared.numbers.ControllerId.{ControllerId}
use Rattle.rt_base.specs.declared.numbers.Offset.{Offset}
use Rattle.rt_commit.specs.declared.job.Job.{Job}
use Rattle.rt_commit.specs.Lasting.{commit_end}
use Rattle.rt_commit.specs.Laws.{steps_left}
use Rattle.rt_commit.specs.Right.{HasChanged, MetFault, StatusSo}
use Rattle.rt_controller.specs.Right.{job_of}
use Rattle.rt_events.specs.declared.event.Event.TheVariants as event
use Rattle.rt_events.specs.declared.outcome.Outcome.{Outcome}
use Rattle.rt_events.specs.declared.outcome.Outcome.TheVariants as told
use Rattle.rt_model.specs.declared.asked.Asked.{Asked}
use Rattle.rt_model.specs.declared.commit.Commit.{Commit}
use Rattle.rt_model.specs.declared.job_step.JobStep.{JobStep}
use Rattle.rt_model.specs.declared.reply.FailCause.TheVariants as cause
use Rattle.rt_model.specs.declared.reply.Reply.{Reply}
use Rattle.rt_model.specs.declared.reply.ReplyStatus.TheVariants as status
use Rattle.rt_model.specs.declared.seg_meta.SeenMeta.{SeenMeta}
use Rattle.rt_model.specs.declared.sent.Sent.TheVariants as sent
use Rattle.rt_model.specs.declared.status.Status.TheVariants.{Done}
use Rattle.rt_safety.specs.Runs.{Turn, happens, TurnsTo}
use Rattle.rt_nodes.specs.declared.controller_node.ControllerNode.{ControllerNode}
use Rattle.rt_state.specs.declared.state.State.{State}

-- ---- the job of a number, at a controller

abbrev pub job_in : Option ControllerNode → ℕ → Option Job
job_in None n = None
job_in (Some node) n = job_of node.controller n

abbrev pub open_job : State → ControllerId → ℕ → Option Job
open_job w c n = job_in (slice_get w.controllers c.0) n

-- it is open, commits its segment up to this offset, answers this request, and has so many steps left at most
pub record IsOpen (w : State) (c : ControllerId) (n : ℕ) (a : Asked) (end : Offset) (left : ℕ) : Type 0 where
  pub job : Job
  pub there : open_job w c n ≡ Some job
  pub asked : job.asked ≡ a
  pub ends_at : commit_end job.stage ≡ Some end
  pub few : steps_left job.stage ≤ left

-- a request that was delivered opened it: that the job of this number was started is what was told of it
pub record Opens (y : State) (c : ControllerId) (n : ℕ) (a : Asked) (end : Offset) (outcome : Outcome) : Type 0 where
  pub told_so : outcome ≡ told.Started n
  pub opened : IsOpen y c n a end 23

-- a Done write ends its segment at this offset
abbrev pub EndsAt : SeenMeta → Offset → Type 0
EndsAt seen end = (commit : Commit) × (seen.meta.status ≡ Done commit) × (commit.end ≡ end)

-- the turn is a step of it, with which it ends: the reply that is told of the step is the one that is sent, for that request, and is one
-- of those with which a commit ends: a COMMIT_SUCCESS with a Done write up to the job's offset. Where it fails since the segment's node
-- has another version, the node had that version before the step, which therefore isn't one that the step wrote. And the job is gone, so
-- that it ends once
pub record EndsIn (w : State) (c : ControllerId) (n : ℕ) (a : Asked) (end : Offset) (turn : Turn) (y : State) : Type 0 where
  pub step : JobStep
  pub reply : Reply
  pub own : turn ≡ happens (event.Job c n) (told.Stepped step (Some (length w.sent)))
  pub told_so : step.reply ≡ Some reply
  pub was_sent : y.sent ≡ w.sent ++ sent.Reply reply ∷ []
  pub number : reply.number ≡ a.number
  pub partition : reply.partition ≡ a.partition
  pub sequence : reply.sequence ≡ a.sequence
  pub so : StatusSo y.store.writes a.partition a.sequence (MetFault w.store y.store w.deep y.deep) true step.step reply.status
  pub success : (seen : SeenMeta) → reply.status ≡ status.CommitSuccess seen → EndsAt seen end
  pub changed_before :
      (expected found : ℕ) → reply.status ≡ status.Failed (cause.VersionChanged expected found)
      → HasChanged w.store.writes a.partition a.sequence expected found
  pub gone : open_job y c n ≡ None

-- ---- turns, one after the other

-- a turn that is a step of the job
abbrev pub is_step : ControllerId → ℕ → Turn → Bool
is_step c n (happens (event.Job d m) outcome) = (d.0 == c.0) && (m == n)
is_step c n _ = false

abbrev pub steps_in : ControllerId → ℕ → Turn → ℕ
steps_in c n turn = if is_step c n turn then 1 else 0

-- a turn that is a crash of the controller
abbrev pub is_crash : ControllerId → Turn → Bool
is_crash c (happens (event.CrashController d) outcome) = d.0 == c.0
is_crash c _ = false

-- turns that lead on, none of which is a crash of the controller
abbrev pub GoesWithoutCrash : ControllerId → State → List Turn → State → Type 0
GoesWithoutCrash c w [] x = w ≡ x
GoesWithoutCrash c w (turn ∷ turns) x = (y : State) × TurnsTo w turn y × (is_crash c turn ≡ false) × GoesWithoutCrash c y turns x

-- along them the job stays open, with one step less left at each of its own, until it ends so
abbrev pub GoesSo : (c : ControllerId) → ℕ → Asked → Offset → ℕ → (w : State) → (turns : List Turn) → (x : State) → GoesWithoutCrash c w turns x → Type 0
GoesSo c n a end left w [] x r = IsOpen w c n a end left
GoesSo c n a end left w (turn ∷ turns) x r =
    EndsIn w c n a end turn r.0
    ⊎ ((k : ℕ) × (k + steps_in c n turn ≤ left) × GoesSo c n a end k r.0 turns x r.3)
