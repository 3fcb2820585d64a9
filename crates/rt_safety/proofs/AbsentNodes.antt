-- Which events of a safe world answer FAILED 4.
use Rattle.std.proofs.Common.{◌≡◌, ℕ, ◌↔◌, Option, Some, None, Ok, refl, sym, ◌∙◌, ap, subst, length}
use Rattle.std.specs.Prelude.{slice_get}
use Rattle.std.proofs.lemmas.Option.{none-some}
use Rattle.rt_base.specs.declared.numbers.ControllerId.{ControllerId}
use Rattle.rt_controller.specs.Answers.{Handling}
use Rattle.rt_controller.specs.Working.{Working, job_place}
use Rattle.rt_controller.specs.Controller.{Controlling}
use Rattle.rt_commit.specs.IsJob.{IsAt}
use Rattle.rt_commit.specs.Lasting.{IsJobOver}
use Rattle.rt_controller.specs.Lasting.{IsControllerOver}
use Rattle.rt_controller.specs.Right.{job_at, job_of}
use Rattle.rt_controller.specs.declared.handled.Handled.{Handled}
use Rattle.rt_controller.specs.declared.handled.Handled.TheVariants as handled
use Rattle.rt_commit.specs.declared.job.Job.{Job}
use Rattle.rt_commit.specs.declared.job.JobStage.{JobStage}
use Rattle.rt_commit.specs.declared.job.JobStage.TheVariants as stage
use Rattle.rt_controller.proofs.Telling.{told_request, told_work}
use Rattle.rt_events.specs.declared.event.Event.TheVariants as event
use Rattle.rt_events.specs.declared.outcome.Outcome.{Outcome}
use Rattle.rt_events.specs.declared.outcome.Outcome.TheVariants as told
use Rattle.rt_lists.specs.Members.{Has}
use Rattle.rt_lists.proofs.Lists.{All-found}
use Rattle.rt_model.specs.History.{value_of}
use Rattle.rt_model.specs.Metadata.{life_of}
use Rattle.rt_model.specs.declared.job_step.JobStep.{JobStep}
use Rattle.rt_model.specs.declared.reply.Reply.{Reply}
use Rattle.rt_model.specs.declared.request.Request.{Request}
use Rattle.rt_model.specs.declared.sent.Sent.TheVariants as sent
use Rattle.rt_model.proofs.Lawful.{nodes_are_in_order}
use Rattle.rt_store.specs.Contents.{starting_of}
use Rattle.rt_state.specs.Applying.{Next}
use Rattle.rt_state.specs.Finding.{request_at}
use Rattle.rt_state.specs.IsSafe.{past_of}
use Rattle.rt_state.specs.IsSafeWorld.{IsSafeWorld}
use Rattle.rt_state.specs.Jobs.{JobStepsAt, noted_set, stepped_by}
use Rattle.rt_state.specs.Messages.{DeliversAt, after_step, tells}
use Rattle.rt_world.specs.Step.{Steps}
use Rattle.rt_nodes.specs.declared.controller_node.ControllerNode.{ControllerNode}
use Rattle.rt_state.specs.declared.cost.Cost.{Cost}
use Rattle.rt_state.specs.declared.state.State.{State}
use Rattle.rt_world.proofs.KeepsMessages.{request_sent}
use Rattle.rt_safety.specs.Absent.{EndsNoSegment, FindsNone, ReadsNode, RepliesNoSegment, SetsDone}
use Rattle.rt_safety.proofs.Absent.{HasMeta, IsNone, handled_none, life_is_meta, none_handled}
use Rattle.rt_safety.proofs.AbsentJobs.{DoneFindsNone, none_worked, worked_none}

-- ---- a request

-- what stands of the segment of a request is metadata
meta_stands : (w : State) (q : Request) → IsSafeWorld w → Has w.sent (sent.Request q) → HasMeta w.store q
meta_stands w q s has v e =
    let within = (s.safe.past.requests q has).partition in
    let order = nodes_are_in_order (starting_of w.setup) w.store.writes s.safe.past.lawful q.partition within in
    life_is_meta (life_of w.store.writes q.partition q.sequence.0) v (order.lives q.sequence.0) e

same_reply : (m n : ℕ) (r t : Reply) → told.Replied m r ≡ told.Replied n t → t ≡ r
same_reply m n r t e = cc

-- what was handed out, by what is told of it
tells_none : (w : State) (what : Handled) (o : Outcome) → o ≡ (tells w what).1 → RepliesNoSegment o → IsNone what
tells_none w (handled.Reply r) o e (n, t, is, other) =
    ap (λ (z : Reply). z.status) (sym (same_reply (length w.sent) n r t (sym e ∙ is))) ∙ other
tells_none w (handled.Job j) o e (n, t, is, other) = not_started n t (sym e ∙ is)
  where
    not_started : (n : ℕ) (t : Reply) → told.Started j ≡ told.Replied n t → ⊥
    not_started n t f = cc

module _ (w : State) (c : ControllerId) (q : Request) (n : ControllerNode) (s : IsSafeWorld w) (has : Has w.sent (sent.Request q)) (cost : Cost) (y : State) (o : Outcome) where
  deliver_none : DeliversAt (Some q) (Some n) w c cost (y, o) → RepliesNoSegment o ↔ (ReadsNode n.controller q × FindsNone w.store q.partition q.sequence)
  deliver_none (new, what, store, deep, handles, is) = (to, from)
    where
      x : Handling
      x = record { controller = new; handled = what }

      v : State
      v = after_step w c n new store deep

      said : o ≡ (tells v what).1
      said = ap (λ (z : Next). z.1) is

      to : RepliesNoSegment o → ReadsNode n.controller q × FindsNone w.store q.partition q.sequence
      to other =
          let left = told_request w.store store w.deep deep n.controller q w.moment x handles in
          handled_none w.store w.deep n.controller q w.moment x (meta_stands w q s has) left.made (tells_none v what o said other)

      from : ReadsNode n.controller q × FindsNone w.store q.partition q.sequence → RepliesNoSegment o
      from (reads, finds) =
          let left = told_request w.store store w.deep deep n.controller q w.moment x handles in
          let fails = none_handled w.store w.deep n.controller q w.moment x reads finds left.made in
          (_, _, said ∙ ap (λ (z : Handling). (tells v z.handled).1) fails, refl)

pub delivers_none : (w : State) (m : ℕ) (c : ControllerId) (q : Request) (node : ControllerNode) (y : State) (o : Outcome) → IsSafeWorld w → request_at w m ≡ Some q
    → slice_get w.controllers c.0 ≡ Some node → Steps w (event.Deliver m c) y (Ok o)
    → RepliesNoSegment o ↔ (ReadsNode node.controller q × FindsNone w.store q.partition q.sequence)
delivers_none w m c q node y o s asks at h =
    deliver_none w c q node s (request_sent w m q asks) h.0 y o
    (subst (λ (r : Option Request). DeliversAt r (Some node) w c h.0 (y, o)) asks
    (subst (λ (n : Option ControllerNode). DeliversAt (request_at w m) n w c h.0 (y, o)) at h.2))

-- ---- a step of a job

-- what it is to make Done is its segment's node
done_finds : (w : State) (j : Job) (st : JobStage) → IsAt w.store.writes j.asked st → DoneFindsNone w.store st
    → SetsDone st × FindsNone w.store j.asked.partition j.asked.sequence
done_finds w j (stage.Check from end path) at k = absurd k
done_finds w j (stage.Done from commit) at (faultless, none) =
    (tt, record { faultless = faultless; none = ap (value_of w.store.writes) (sym at.read.of) ∙ none })
done_finds w j (stage.Next done) at k = absurd k
done_finds w j (stage.IdealRead work found) at k = absurd k
done_finds w j (stage.IdealSet work found ideal) at k = absurd k
done_finds w j stage.Ended at k = absurd k

finds_done : (w : State) (j : Job) (st : JobStage) → IsAt w.store.writes j.asked st → SetsDone st → FindsNone w.store j.asked.partition j.asked.sequence
    → DoneFindsNone w.store st
finds_done w j (stage.Check from end path) at sets k = absurd sets
finds_done w j (stage.Done from commit) at sets k = (k.faultless, ap (value_of w.store.writes) at.read.of ∙ k.none)
finds_done w j (stage.Next done) at sets k = absurd sets
finds_done w j (stage.IdealRead work found) at sets k = absurd sets
finds_done w j (stage.IdealSet work found ideal) at sets k = absurd sets
finds_done w j stage.Ended at sets k = absurd sets

pub job_over : (w : State) (c : Controlling) (j : Job) → IsControllerOver w.setup (past_of w) c → (o : Option ℕ) → job_at c.jobs o ≡ Some j → IsJobOver w.setup (past_of w) j
job_over w c j k None at = absurd (none-some j at)
job_over w c j k (Some place) at = All-found (IsJobOver w.setup (past_of w)) c.jobs place j k.jobs at

same_step : (a b : JobStep) (m n : Option ℕ) → told.Stepped a m ≡ told.Stepped b n → a ≡ b
same_step a b m n e = cc

stepped_tells : (w : State) (cost : Cost) (a b : JobStep) (n : Option ℕ) (r : Option Reply) → told.Stepped a n ≡ (stepped_by w cost b r).1 → a ≡ b
stepped_tells w cost a b n None e = same_step a b n None e
stepped_tells w cost a b n (Some r) e = same_step a b n (Some (length w.sent)) e

module _ (w : State) (c : ControllerId) (n : ℕ) (node : ControllerNode) (j : Job) (s : IsSafeWorld w) (at : slice_get w.controllers c.0 ≡ Some node)
    (there : job_of node.controller n ≡ Some j) (cost : Cost) (y : State) (step : JobStep) (reply : Option ℕ) where
  over : IsAt w.store.writes j.asked j.stage
  over = (job_over w node.controller j (s.safe.controllers c.0 node at).over (job_place node.controller.jobs n) there).job.at

  job_none : JobStepsAt (Some node) w c n cost (y, told.Stepped step reply) → EndsNoSegment step ↔ (SetsDone j.stage × FindsNone w.store j.asked.partition j.asked.sequence)
  job_none (new, did, store, deep, works, is) = (to, from)
    where
      x : Working
      x = record { controller = new; step = did }

      same : step ≡ did
      same = stepped_tells (noted_set (after_step w c node new store deep) cost (length w.store.writes)) cost step did reply did.reply (ap (λ (z : Next). z.1) is)

      to : EndsNoSegment step → SetsDone j.stage × FindsNone w.store j.asked.partition j.asked.sequence
      to other =
          let left = told_work w.store store w.deep deep node.controller n w.moment x works in
          done_finds w j j.stage over (worked_none w.store w.deep node.controller n w.moment j x there left.made (subst EndsNoSegment same other))

      from : SetsDone j.stage × FindsNone w.store j.asked.partition j.asked.sequence → EndsNoSegment step
      from (sets, finds) =
          let left = told_work w.store store w.deep deep node.controller n w.moment x works in
          subst EndsNoSegment (sym same)
          (none_worked w.store w.deep node.controller n w.moment j x there left.made (finds_done w j j.stage over sets finds))

pub jobs_none : (w : State) (c : ControllerId) (n : ℕ) (node : ControllerNode) (j : Job) (y : State) (step : JobStep) (reply : Option ℕ) → IsSafeWorld w
    → slice_get w.controllers c.0 ≡ Some node → job_of node.controller n ≡ Some j → Steps w (event.Job c n) y (Ok (told.Stepped step reply))
    → EndsNoSegment step ↔ (SetsDone j.stage × FindsNone w.store j.asked.partition j.asked.sequence)
jobs_none w c n node j y step reply s at there h =
    job_none w c n node j s at there h.0 y step reply
    (subst (λ (o : Option ControllerNode). JobStepsAt o w c n h.0 (y, told.Stepped step reply)) at h.2)
