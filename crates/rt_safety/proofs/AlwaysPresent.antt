-- Without a retention each segment's node that was created stands, so that FAILED 4 never comes.
use Rattle.std.proofs.Common.{◌≡◌, ℕ, ◌<◌, Bool, true, false, List, nat_lt, Option, Some, None, Ok, refl, subst, arith, slice_get}
use Rattle.std.specs.Prelude.{IsSome}
use Rattle.std.proofs.lemmas.Bool.{false≢true, ltb-false, ltb-true}
use Rattle.rt_base.specs.declared.numbers.ControllerId.{ControllerId}
use Rattle.rt_base.specs.declared.numbers.Partition.{Partition}
use Rattle.rt_base.specs.declared.numbers.Sequence.{Sequence}
use Rattle.rt_controller.specs.Working.{job_place}
use Rattle.rt_commit.specs.IsJob.{IsAt}
use Rattle.rt_controller.specs.Right.{job_of}
use Rattle.rt_commit.specs.declared.job.Job.{Job}
use Rattle.rt_commit.specs.declared.job.JobStage.{JobStage}
use Rattle.rt_commit.specs.declared.job.JobStage.TheVariants as stage
use Rattle.rt_events.specs.declared.event.Event.TheVariants as event
use Rattle.rt_events.specs.declared.outcome.Outcome.{Outcome}
use Rattle.rt_events.specs.declared.outcome.Outcome.TheVariants as told
use Rattle.rt_lists.specs.Members.{Has}
use Rattle.rt_model.specs.Chain.{IsPresent}
use Rattle.rt_model.specs.Metadata.{node_key, sequences_of}
use Rattle.rt_model.specs.Setup.{IsSetup}
use Rattle.rt_model.specs.declared.asked.Asked.{Asked}
use Rattle.rt_model.specs.declared.job_step.JobStep.{JobStep}
use Rattle.rt_model.specs.declared.node.Seen.{Seen}
use Rattle.rt_model.specs.declared.request.Request.{Request}
use Rattle.rt_model.specs.declared.setup.Setup.{Setup}
use Rattle.rt_model.proofs.Chains.{InOrder-chain}
use Rattle.rt_model.proofs.Lawful.{nodes_are_in_order}
use Rattle.rt_store.specs.Contents.{starting_of}
use Rattle.rt_state.specs.Finding.{request_at}
use Rattle.rt_state.specs.IsSafeWorld.{IsSafeWorld}
use Rattle.rt_world.specs.Step.{Steps}
use Rattle.rt_nodes.specs.declared.controller_node.ControllerNode.{ControllerNode}
use Rattle.rt_state.specs.declared.state.State.{State}
use Rattle.rt_world.proofs.KeepsMessages.{request_sent}
use Rattle.rt_safety.specs.Absent.{EndsNoSegment, FindsNone, RepliesNoSegment, SetsDone}
use Rattle.rt_safety.specs.Runs.{Turn, Runs}
use Rattle.rt_safety.specs.Unretired.{IsUnretired}
use Rattle.rt_safety.proofs.AbsentNodes.{delivers_none, job_over, jobs_none}
use Rattle.rt_safety.proofs.Later.{runs_are_safe}
use Rattle.rt_safety.proofs.Marks.{no_deletions, runs_retire_none}

module _ (w : State) (s : IsSafeWorld w) (k : IsUnretired w) where
  pub stands : (p : Partition) (q : ℕ) (v : Seen) → p.0 < w.setup.partitions → Has w.store.writes v → v.key ≡ node_key p q → IsPresent w.store.writes p q
  stands p q v within has of =
      let chain = InOrder-chain w.store.writes p (nodes_are_in_order (starting_of w.setup) w.store.writes s.safe.past.lawful p within) in
      (chain.present q).1 (omega (arith, no_deletions w.store.writes p k.all), below (nat_lt q (sequences_of w.store.writes p)) refl)
    where
      below : (b : Bool) → nat_lt q (sequences_of w.store.writes p) ≡ b → q < sequences_of w.store.writes p
      below true e = ltb-true q (sequences_of w.store.writes p) e
      below false e =
          let chain = InOrder-chain w.store.writes p (nodes_are_in_order (starting_of w.setup) w.store.writes s.safe.past.lawful p within) in
          absurd (chain.uncreated q v (ltb-false q (sequences_of w.store.writes p) e) has of)

  not_none : (p : Partition) (q : Sequence) (v : Seen) → p.0 < w.setup.partitions → Has w.store.writes v → v.key ≡ node_key p q.0 → FindsNone w.store p q → ⊥
  not_none p q v within has of finds = false≢true (subst IsSome finds.none (stands p q.0 v within has of))

  request_stands : (m : ℕ) (c : ControllerId) (q : Request) (n : ControllerNode) (y : State) (o : Outcome) → request_at w m ≡ Some q
      → slice_get w.controllers c.0 ≡ Some n → Steps w (event.Deliver m c) y (Ok o) → RepliesNoSegment o → ⊥
  request_stands m c q n y o asks at h other =
      let right = s.safe.past.requests q (request_sent w m q asks) in
      let found = (delivers_none w m c q n y o s asks at h).0 other in
      not_none q.partition q.sequence right.begun.0 right.partition right.begun.1 right.begun.2 found.1

  -- the write from which a segment is to become Done
  from_there : (a : Asked) (st : JobStage) → IsAt w.store.writes a st → SetsDone st → a.partition.0 < w.setup.partitions → FindsNone w.store a.partition a.sequence → ⊥
  from_there a (stage.Check from end path) at sets within finds = sets
  from_there a (stage.Done from commit) at sets within finds = not_none a.partition a.sequence from within at.read.has at.read.of finds
  from_there a (stage.Next done) at sets within finds = sets
  from_there a (stage.IdealRead work found) at sets within finds = sets
  from_there a (stage.IdealSet work found ideal) at sets within finds = sets
  from_there a stage.Ended at sets within finds = sets

  job_stands : (c : ControllerId) (j : ℕ) (n : ControllerNode) (job : Job) (y : State) (step : JobStep) (reply : Option ℕ) → slice_get w.controllers c.0 ≡ Some n
      → job_of n.controller j ≡ Some job → Steps w (event.Job c j) y (Ok (told.Stepped step reply)) → EndsNoSegment step → ⊥
  job_stands c j n job y step reply at there h other =
      let over = job_over w n.controller job (s.safe.controllers c.0 n at).over (job_place n.controller.jobs j) there in
      let found = (jobs_none w c j n job y step reply s at there h).0 other in
      from_there job.asked job.stage over.job.at found.0 over.job.within found.1

pub node_present : (setup : Setup) (turns : List Turn) (w : State) (p : Partition) (q : ℕ) (v : Seen) → IsSetup setup → setup.retention ≡ None → Runs setup turns w
    → p.0 < w.setup.partitions → Has w.store.writes v → v.key ≡ node_key p q → IsPresent w.store.writes p q
node_present setup turns w p q v is none r within has of =
    stands w (runs_are_safe setup turns w is r) (runs_retire_none setup turns w none r) p q v within has of

pub request_finds : (setup : Setup) (turns : List Turn) (w : State) (m : ℕ) (c : ControllerId) (q : Request) (n : ControllerNode) (y : State) (o : Outcome)
    → IsSetup setup → setup.retention ≡ None → Runs setup turns w → request_at w m ≡ Some q → slice_get w.controllers c.0 ≡ Some n
    → Steps w (event.Deliver m c) y (Ok o) → RepliesNoSegment o → ⊥
request_finds setup turns w m c q n y o is none r asks at h other =
    request_stands w (runs_are_safe setup turns w is r) (runs_retire_none setup turns w none r) m c q n y o asks at h other

pub job_finds : (setup : Setup) (turns : List Turn) (w : State) (c : ControllerId) (j : ℕ) (n : ControllerNode) (job : Job) (y : State) (step : JobStep)
    (reply : Option ℕ) → IsSetup setup → setup.retention ≡ None → Runs setup turns w → slice_get w.controllers c.0 ≡ Some n → job_of n.controller j ≡ Some job
    → Steps w (event.Job c j) y (Ok (told.Stepped step reply)) → EndsNoSegment step → ⊥
job_finds setup turns w c j n job y step reply is none r at there h other =
    job_stands w (runs_are_safe setup turns w is r) (runs_retire_none setup turns w none r) c j n job y step reply at there h other
