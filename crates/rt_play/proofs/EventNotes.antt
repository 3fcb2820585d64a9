-- What is noted of an event holds behind it, and what it tells agrees with the ranges.
use Rattle.std.proofs.Common.{◌≡◌, ◌<◌, ◌≤◌, ◌==◌, ◌&&◌, ◌||◌, ℕ, Bool, true, false, cond, not, is_none, List, [], ◌∷◌, ◌++◌, length, Option, Some, None, Ok, refl, sym, ◌∙◌, ap, subst, slice_get, ⊎_elim, inl, inr, arith}
use Rattle.std.specs.List.{filter}
use Rattle.std.specs.Prelude.{IfSome}
use Rattle.std.proofs.lemmas.Bool.{and_parts, eq-eqb, eqb-true, false≢true, ltb-true, ne_eqb}
use Rattle.rt_base.specs.declared.numbers.ControllerId.{ControllerId}
use Rattle.rt_base.specs.declared.numbers.Instance.{Instance}
use Rattle.rt_base.specs.declared.numbers.Offset.{Offset}
use Rattle.rt_base.specs.declared.numbers.Partition.{Partition}
use Rattle.rt_base.specs.declared.numbers.Sequence.{Sequence}
use Rattle.rt_base.specs.declared.range.Range.{Range}
use Rattle.rt_commit.specs.Lasting.{commit_end}
use Rattle.rt_controller.proofs.StartsAlone.{starts_at_machine}
use Rattle.rt_controller.specs.Controller.{Controlling}
use Rattle.rt_controller.specs.Steps.{Handles}
use Rattle.rt_controller.specs.declared.handled.Handled.{Handled}
use Rattle.rt_controller.specs.declared.handled.Handled.TheVariants as handled
use Rattle.rt_deep.specs.Meaning.{Told as ToldDeep}
use Rattle.rt_deep.specs.Memory.{means as deep_means}
use Rattle.rt_events.specs.Fits.{Fits}
use Rattle.rt_events.specs.declared.event.Event.{Event}
use Rattle.rt_events.specs.declared.event.Event.TheVariants as event
use Rattle.rt_events.specs.declared.outcome.Outcome.{Outcome}
use Rattle.rt_events.specs.declared.outcome.Outcome.TheVariants as came
use Rattle.rt_events.specs.declared.refusal.Refusal.TheVariants.{NoSuchNode}
use Rattle.rt_lists.proofs.Members.{Has-append_cases, Has-filter, Has-front, Has-map}
use Rattle.rt_lists.specs.Members.{Has}
use Rattle.rt_model.proofs.Histories.{value_of-last}
use Rattle.rt_model.proofs.Kept.{last_write-Has}
use Rattle.rt_model.specs.History.{value_of}
use Rattle.rt_model.specs.Messages.{asked_of}
use Rattle.rt_model.specs.Metadata.{IsDeleted, IsDone, IsDoneStatus, IsFinal, IsFinalStatus, node_key}
use Rattle.rt_model.specs.Tiled.{mark_of}
use Rattle.rt_model.specs.declared.node.Node.{Node}
use Rattle.rt_model.specs.declared.node.Node.TheVariants as node
use Rattle.rt_model.specs.declared.node.Seen.{Seen}
use Rattle.rt_model.specs.declared.replica_state.ReplicaState.{ReplicaState}
use Rattle.rt_model.specs.declared.reply.Reply.{Reply}
use Rattle.rt_model.specs.declared.reply.ReplyStatus.{ReplyStatus}
use Rattle.rt_model.specs.declared.reply.ReplyStatus.TheVariants as status
use Rattle.rt_model.specs.declared.request.Request.{Request}
use Rattle.rt_model.specs.declared.request.RequestKind.{RequestKind}
use Rattle.rt_model.specs.declared.request.RequestKind.TheVariants as kind
use Rattle.rt_model.specs.declared.seg_meta.SeenMeta.{SeenMeta}
use Rattle.rt_model.specs.declared.setup.Setup.{Setup}
use Rattle.rt_model.specs.declared.status.Status.{Status}
use Rattle.rt_model.specs.declared.status.Status.TheVariants.{Abandoned, Done, InProgress}
use Rattle.rt_nodes.specs.declared.controller_node.ControllerNode.{ControllerNode}
use Rattle.rt_play.proofs.Deleted.{was_deleted}
use Rattle.rt_play.proofs.JobLines.{IsDoneTo, goes_on, sets_done, succeeds}
use Rattle.rt_play.proofs.Known.{IsKnown, known_committed, taken_knows}
use Rattle.rt_play.proofs.Noted.{Holds, IsAtWork, IsEnding, IsPosted, WasCommitted, committed_stays, deleted_stays, its_range, job_stays, posted_stays, stands_from, stays_and_deleted, stays_and_more, stays_but_jobs, stays_with_jobs, still_works}
use Rattle.rt_play.proofs.Ranged.{AreRanged, node_range}
use Rattle.rt_play.proofs.Retired.{gone_below, there_above}
use Rattle.rt_play.proofs.ShownStays.{node_of, stays_or_gone}
use Rattle.rt_play.specs.Ledger.{IsDoneOver, Notes, Posted, Ranges, SaysDone, Segment, ShowsDone, StandFrom, TellsSo, Working, committed_if, event_noted, is_commit_end, is_done_node, is_done_status, is_done_step, is_job, is_success, is_success_status, knows_commit, left_open, opens, segments_of, shows_done, tells_commit}
use Rattle.rt_repair.specs.declared.retiring.RetireStep.{RetireStep}
use Rattle.rt_repair.specs.declared.retiring.RetireStep.TheVariants as step
use Rattle.rt_safety.proofs.CommitOpens.{commit_opens}
use Rattle.rt_safety.proofs.Runs.{leads_safe}
use Rattle.rt_safety.specs.CommitRun.{IsOpen}
use Rattle.rt_safety.specs.GoesOn.{GoesOn}
use Rattle.rt_safety.specs.Runs.{happens}
use Rattle.rt_state.proofs.Possible.{only_passed}
use Rattle.rt_state.specs.Applying.{Next}
use Rattle.rt_state.specs.Finding.{has_partition, request_at}
use Rattle.rt_state.specs.IsSafeWorld.{IsSafeWorld}
use Rattle.rt_state.specs.Messages.{DeliversAt, after_step, handed}
use Rattle.rt_state.specs.Room.{no_cost, priced}
use Rattle.rt_state.specs.declared.state.State.{State}
use Rattle.rt_store.specs.Contents.{starting_of}
use Rattle.rt_store.specs.Meaning.{Told}
use Rattle.rt_store.specs.Memory.{means}
use Rattle.rt_unrefused.proofs.Answered.{delivers}
use Rattle.rt_unrefused.proofs.JobSteps.{OwnStep, own_step}
use Rattle.rt_unrefused.proofs.Requested.{IsRequested, requested}
use Rattle.rt_unrefused.proofs.StartedJobs.{commit_started}
use Rattle.rt_world.proofs.KeepsMessages.{request_sent}
use Rattle.rt_world.specs.Step.{Steps}
use Rattle.rt_znodes.specs.Znodes.{end_by, end_in}

-- the segment of a request
abbrev segment_of : Request → Segment
segment_of q = record { partition = q.partition; sequence = q.sequence }

-- ---- jobs by their number

job_number : (c : ControllerId) (j : ℕ) (x : Working) → is_job c j x ≡ true → (x.controller ≡ c) × (x.job ≡ j)
job_number c j x e =
    let parts = and_parts (x.controller.0 == c.0) (x.job == j) e in
    let id : ℕ → ControllerId = λ n. record { 0 = n } in
    (ap id (eqb-true x.controller.0 c.0 parts.0), eqb-true x.job j parts.1)

other_number : (c : ControllerId) (j : ℕ) (x : Working) → is_job c j x ≡ false → event.Job c j ≡ event.Job x.controller x.job → ⊥
other_number c j x e f = false≢true (sym e ∙ its (same_controller c j x.controller x.job f) (same_job c j x.controller x.job f))
  where
    same_controller : (a : ControllerId) (n : ℕ) (b : ControllerId) (m : ℕ) → event.Job a n ≡ event.Job b m → b.0 ≡ a.0
    same_controller a n b m g = cc

    same_job : (a : ControllerId) (n : ℕ) (b : ControllerId) (m : ℕ) → event.Job a n ≡ event.Job b m → m ≡ n
    same_job a n b m g = cc

    its : x.controller.0 ≡ c.0 → x.job ≡ j → is_job c j x ≡ true
    its a b = ap (λ t. t && (x.job == j)) (eq-eqb x.controller.0 c.0 a) ∙ eq-eqb x.job j b

no_more : (a b : Bool) → (a || (b && false)) ≡ true → a ≡ true
no_more true b e = refl
no_more false true e = absurd (false≢true e)
no_more false false e = absurd (false≢true e)

not_true : (b : Bool) → not b ≡ true → b ≡ false
not_true true e = absurd (false≢true e)
not_true false e = refl

-- a job of this number, with the rest of another one
abbrev working : ControllerId → ℕ → Segment → Option Offset → Working
working c j segment end = record { controller = c; job = j; segment = segment; end = end }

working_is : (c : ControllerId) (j : ℕ) (x : Working) → is_job c j x ≡ true → x ≡ working c j x.segment x.end
working_is c j x e =
    let same = job_number c j x e in
    let one : ControllerId → Working = λ d. working d x.job x.segment x.end in
    ap one same.0 ∙ ap (λ n. working c n x.segment x.end) same.1

-- ---- commits

says_done : (n : Node) → is_done_node n ≡ true → IsDone n
says_done (node.Meta m) e = by_status m.status e
  where
    by_status : (s : Status) → is_done_status s ≡ true → IsDoneStatus s
    by_status InProgress e = absurd (false≢true e)
    by_status (Done commit) e = tt
    by_status Abandoned e = absurd (false≢true e)
says_done (node.Ideal i) e = absurd (false≢true e)
says_done node.Boot e = absurd (false≢true e)
says_done node.Gone e = absurd (false≢true e)

-- the end of a node that says DONE is that of its range
range_ends : (r : Range) (n : Node) → SaysDone r n → r.end ≡ end_in n
range_ends r (node.Meta m) k = by_status m.status k
  where
    by_status : (s : Status) → IsDoneOver r m s → r.end ≡ end_by s
    by_status InProgress k = absurd k
    by_status (Done commit) k = k.1
    by_status Abandoned k = absurd k
range_ends r (node.Ideal i) k = absurd k
range_ends r node.Boot k = absurd k
range_ends r node.Gone k = absurd k

-- and where a job ends there, its range does
ends_there : (r : Range) (n : Node) (own end : Option Offset) → SaysDone r n → ((x : Offset) → own ≡ Some x → end_in n ≡ x) → IfSome end (λ x. own ≡ Some x)
    → IfSome end (λ x. r.end ≡ x)
ends_there r n own None says ends same = tt
ends_there r n own (Some x) says ends same = range_ends r n says ∙ ends x same

success_of : (r : ReplyStatus) → is_success_status r ≡ true → (seen : SeenMeta) × (r ≡ status.CommitSuccess seen)
success_of (status.CommitSuccess seen) e = (seen, refl)
success_of other e = absurd (false≢true e)

-- what is told of a job that was started is no reply
started_only : (j n : ℕ) (r : Reply) → came.Started j ≡ came.Replied n r → ⊥
started_only j n r e = cc

ends_commit : (q : RequestKind) → is_commit_end q ≡ true → (path : List ℕ) × (q ≡ kind.CommitEnd path)
ends_commit (kind.CommitEnd path) e = (path, refl)
ends_commit other e = absurd (false≢true e)

module _ (ranges : Ranges) (w v : State) (notes : Notes) (safe : IsSafeWorld w) (goes : GoesOn w v) (ranged : AreRanged (starting_of v.setup) v.store.writes ranges)
    (k : Holds ranges w notes) where
  -- a Done write of a segment of the cluster
  committed_by : (s : Segment) (write : Seen) → s.partition.0 < v.setup.partitions → Has v.store.writes write → write.key ≡ node_key s.partition s.sequence.0 → IsDone write.node
      → WasCommitted ranges v s
  committed_by s write within has of done =
      record { within = within; write = write; has = has; of = of; done = ranged s.partition s.sequence write within has of done }

  -- ---- a request

  report_noted : (i : Instance) (p : Partition) (q : Sequence) (o : Outcome) → Steps w (event.Report i p q) v (Ok o)
      → ((x : Working) → Has notes.jobs x → IsAtWork v x) → Holds ranges v (event_noted (event.Report i p q) o notes)
  report_noted i p q o steps jobs =
      let its = requested w v i p q o safe steps in
      subst (λ (x : Outcome). Holds ranges v (event_noted (event.Report i p q) x notes)) (sym its.told)
      (record {
        requests = by_kind its (is_commit_end its.request.kind) refl;
        jobs = jobs;
        committed = λ s has. committed_stays ranges w v s goes (k.committed s has);
        deleted = λ s has. deleted_stays w v s goes (k.deleted s has);
      })
    where
      -- what was noted before
      old_posted : (x : Posted) → Has notes.requests x → IsPosted v x
      old_posted x has = posted_stays w v x goes (k.requests x has)

      by_kind : (its : IsRequested w v i p q o) (b : Bool) → is_commit_end its.request.kind ≡ b → (x : Posted)
          → Has (cond b (record { message = length w.sent; segment = record { partition = p; sequence = q }; end = Some its.request.offset } ∷ notes.requests) notes.requests) x
          → IsPosted v x
      by_kind its false e x has = old_posted x has
      by_kind its true e x (inr has) = old_posted x has
      by_kind its true e x (inl is) =
          let named = ends_commit its.request.kind e in
          let one : Partition → Segment = λ t. record { partition = t; sequence = its.request.sequence } in
          let other : Sequence → Segment = λ t. record { partition = p; sequence = t } in
          subst (IsPosted v) is
          (record {
            request = its.request;
            there = its.there;
            segment = ap one its.segment.0 ∙ ap other its.segment.1;
            end = (named.0, named.1, refl);
          })

  -- ---- a delivery

  record IsOpened (m : ℕ) (c : ControllerId) (j : ℕ) (x : Working) : Type 0 where
    posted : Posted
    has : Has notes.requests posted
    message : posted.message ≡ m
    same : x ≡ working c j posted.segment posted.end

  opened : (m : ℕ) (c : ControllerId) (j : ℕ) (x : Working) → Has (opens m c j notes.requests) x → IsOpened m c j x
  opened m c j x has =
      let made = Has-map (λ (y : Posted). working c j y.segment y.end) (filter (λ (y : Posted). y.message == m) notes.requests) x has in
      let kept = Has-filter (λ (y : Posted). y.message == m) notes.requests made.0 made.1 in
      record { posted = made.0; has = kept.0; message = eqb-true made.0.message m kept.1; same = sym made.2 }

  same_started : (i j : ℕ) → came.Started i ≡ came.Started j → i ≡ j
  same_started i j e = cc

  own_partition : (m : ℕ) (q : Request) → request_at w m ≡ Some q → q.partition.0 < v.setup.partitions
  own_partition m q asks =
      subst (λ (s : Setup). q.partition.0 < s.partitions) (sym goes.setup) (safe.safe.past.requests q (request_sent w m q asks)).partition

  -- the job that is started is open, for the request
  starts_job : (m : ℕ) (c : ControllerId) (j : ℕ) (q : Request) → request_at w m ≡ Some q → Steps w (event.Deliver m c) v (Ok (came.Started j))
      → IsAtWork v (working c j (segment_of q) None)
  starts_job m c j q asks steps =
      record { request = q; segment = refl; within = own_partition m q asks; its = delivers w v m c q (came.Started j) safe asks steps; end = tt }

  -- for a commitEnd it commits up to its offset
  starts_work : (m : ℕ) (c : ControllerId) (j : ℕ) (q : Request) (path : List ℕ) → request_at w m ≡ Some q → q.kind ≡ kind.CommitEnd path
      → Steps w (event.Deliver m c) v (Ok (came.Started j)) → IsAtWork v (working c j (segment_of q) (Some q.offset))
  starts_work m c j q path asks names steps =
      by_node (slice_get w.controllers c.0) refl
      (subst (λ (r : Option Request). DeliversAt r (slice_get w.controllers c.0) w c steps.0 (v, came.Started j)) asks steps.2)
    where
      by_what : (n : ControllerNode) (new : Controlling) (store : Told) (deep : ToldDeep) (what : Handled) → slice_get w.controllers c.0 ≡ Some n
          → Handles {E = Unit {0}} (means w.store) (means store) (deep_means w.deep) (deep_means deep) n.controller q w.moment new (Ok what)
          → (v, came.Started j) ≡ handed (after_step w c n new store deep) steps.0 what → IsAtWork v (working c j (segment_of q) (Some q.offset))
      by_what n new store deep (handled.Reply r) at h is = absurd (started_only j _ r (ap (λ (x : Next). x.1) is))
      by_what n new store deep (handled.Job i) at h is =
          let starts = starts_at_machine (means w.store) (means store) (deep_means w.deep) (deep_means deep) n.controller new q w.moment (handled.Job i) h
          (commit_started n.controller q w.moment path names (means w.store) (means store) (deep_means w.deep) (deep_means deep) new i h) in
          let opens = commit_opens w m c q n starts.path starts.place starts.machine v (came.Started j) safe asks at starts.timely steps in
          let number : j ≡ n.controller.started = same_started j n.controller.started opens.told_so in
          let its = subst (λ n. IsOpen v c n (asked_of q) q.offset 23) (sym number) opens.opened in
          record {
            request = q;
            segment = refl;
            within = own_partition m q asks;
            its = record { job = its.job; there = its.there; asked = its.asked };
            end = its.ends_at;
          }

      by_node : (n : Option ControllerNode) → slice_get w.controllers c.0 ≡ n → DeliversAt (Some q) n w c steps.0 (v, came.Started j)
          → IsAtWork v (working c j (segment_of q) (Some q.offset))
      by_node None at h = absurd h
      by_node (Some n) at (new, what, store, deep, h, is) = by_what n new store deep what at h is

  deliver_noted : (m : ℕ) (c : ControllerId) (o : Outcome) → Steps w (event.Deliver m c) v (Ok o) → ((x : Working) → Has notes.jobs x → IsAtWork v x)
      → Holds ranges v (event_noted (event.Deliver m c) o notes)
  deliver_noted m c (came.Started j) steps jobs =
      stays_but_jobs ranges w v notes (opens m c j notes.requests ++ notes.jobs) goes k
      (λ x has. ⊎_elim (by_open x) (jobs x) (Has-append_cases (opens m c j notes.requests) notes.jobs x has))
    where
      by_open : (x : Working) → Has (opens m c j notes.requests) x → IsAtWork v x
      by_open x has =
          let a = opened m c j x has in
          let p = k.requests a.posted a.has in
          let one : Segment → Working = λ s. working c j s a.posted.end in
          subst (IsAtWork v) (ap one p.segment ∙ sym a.same) (by_end p.request (ap (request_at w) (sym a.message) ∙ p.there) a.posted.end p.end)
        where
          by_end : (q : Request) → request_at w m ≡ Some q → (end : Option Offset) → IfSome end (IsEnding q) → IsAtWork v (working c j (segment_of q) end)
          by_end q asks None none = starts_job m c j q asks steps
          by_end q asks (Some end) ends =
              let one : Offset → Working = λ x. working c j (segment_of q) (Some x) in
              subst (IsAtWork v) (ap one ends.2) (starts_work m c j q ends.0 asks ends.1 steps)
  deliver_noted m c other steps jobs = stays_but_jobs ranges w v notes notes.jobs goes k jobs

  -- ---- a step of a job

  module _ (c : ControllerId) (j : ℕ) (o : Outcome) (steps : Steps w (event.Job c j) v (Ok o)) where
    did : OwnStep w v c j o
    did = own_step w v c j o steps

    -- another job
    other_stays : (x : Working) → is_job c j x ≡ false → IsAtWork w x → IsAtWork v x
    other_stays x e at = job_stays w v x (event.Job c j) o safe goes steps refl (other_number c j x e) at

    own_stays : (x : Working) → is_job c j x ≡ true → did.did.reply ≡ None → IsAtWork w x → IsAtWork v x
    own_stays x e none at =
        let same = working_is c j x e in
        let there = subst (IsAtWork w) same at in
        let next = goes_on w v c j o safe did there.request there.its none in
        subst (IsAtWork v) (sym same) (still_works w v (working c j x.segment x.end) goes there next.0 next.1)

    any_stays : (x : Working) → did.did.reply ≡ None → IsAtWork w x → IsAtWork v x
    any_stays x none at = by_test (is_job c j x) refl
      where
        by_test : (b : Bool) → is_job c j x ≡ b → IsAtWork v x
        by_test true e = own_stays x e none at
        by_test false e = other_stays x e at

    jobs_left : (r : Option Reply) → did.did.reply ≡ r → (x : Working) → Has (left_open c j r notes.jobs) x → IsAtWork v x
    jobs_left None e x has = any_stays x e (k.jobs x has)
    jobs_left (Some reply) e x has =
        let f = Has-filter (λ (y : Working). not (is_job c j y)) notes.jobs x has in
        other_stays x (not_true (is_job c j x) f.1) (k.jobs x f.0)

    at_work : (x : Working) → Has notes.jobs x → is_job c j x ≡ true → IsAtWork w (working c j x.segment x.end)
    at_work x has e = subst (IsAtWork w) (working_is c j x e) (k.jobs x has)

    -- one that tells it has committed
    done_to : (x : Working) (at : IsAtWork w (working c j x.segment x.end)) → tells_commit did.did ≡ true
        → IsDoneTo v x.segment.partition x.segment.sequence (commit_end at.its.job.stage)
    done_to x at tells = by_reply did.did.reply refl tells
      where
        its_own : IsDoneTo v at.request.partition at.request.sequence (commit_end at.its.job.stage)
            → IsDoneTo v x.segment.partition x.segment.sequence (commit_end at.its.job.stage)
        its_own d = subst (λ (s : Segment). IsDoneTo v s.partition s.sequence (commit_end at.its.job.stage)) at.segment d

        by_reply : (r : Option Reply) → did.did.reply ≡ r → (is_success r || (is_done_step did.did.step && is_none r)) ≡ true
            → IsDoneTo v x.segment.partition x.segment.sequence (commit_end at.its.job.stage)
        by_reply None f t = its_own (sets_done w v c j o safe did at.request at.its f (and_parts (is_done_step did.did.step) true t).0)
        by_reply (Some reply) f t =
            let success = success_of reply.status (no_more (is_success_status reply.status) (is_done_step did.did.step) t) in
            its_own (succeeds w v c j o safe did at.request at.its reply success.0 f success.1)

    commits : (x : Working) → Has notes.jobs x → is_job c j x ≡ true → tells_commit did.did ≡ true → WasCommitted ranges v x.segment
    commits x has e tells =
        let at = at_work x has e in
        let d = done_to x at tells in
        let within = subst (λ (s : Segment). s.partition.0 < w.setup.partitions) at.segment at.within in
        committed_by x.segment d.write (subst (λ (s : Setup). x.segment.partition.0 < s.partitions) (sym goes.setup) within) d.has d.of d.done

    all_commit : (s : Segment) → Has (segments_of c j notes.jobs) s → tells_commit did.did ≡ true → WasCommitted ranges v s
    all_commit s has tells =
        let m = Has-map (λ (x : Working). x.segment) (filter (is_job c j) notes.jobs) s has in
        let f = Has-filter (is_job c j) notes.jobs m.0 m.1 in
        subst (WasCommitted ranges v) m.2 (commits m.0 f.0 f.1 tells)

    abbrev now : Notes
    now = record notes { jobs = left_open c j did.did.reply notes.jobs }

    job_noted : Holds ranges v (event_noted (event.Job c j) o notes)
    job_noted =
        subst (λ (x : Outcome). Holds ranges v (event_noted (event.Job c j) x notes)) (sym did.told.1)
        (by_test (tells_commit did.did) refl (stays_but_jobs ranges w v notes (left_open c j did.did.reply notes.jobs) goes k (jobs_left did.did.reply refl)))
      where
        by_test : (b : Bool) → tells_commit did.did ≡ b → Holds ranges v now
            → Holds ranges v (record now { committed = cond b (segments_of c j notes.jobs ++ notes.committed) notes.committed })
        by_test true e holds = stays_and_more ranges v now (segments_of c j notes.jobs) holds (λ s has. all_commit s has e)
        by_test false e holds = holds

    job_tells : TellsSo ranges (mark_of w.store.writes) notes (event.Job c j) o
    unfolding at_work done_to commits did committed_by
    job_tells =
        subst (λ (x : Outcome). TellsSo ranges (mark_of w.store.writes) notes (event.Job c j) x) (sym did.told.1)
        (λ x tells has e.
        let at = at_work x has e in
        let d = done_to x at tells in
        ends_there (ranges x.segment.partition x.segment.sequence) d.write.node (commit_end at.its.job.stage) x.end (commits x has e tells).done d.ends at.end)

  -- ---- a replica that takes a reply

  reply_noted : (m : ℕ) (o : Outcome) → IsSafeWorld v → Steps w (event.Reply m) v (Ok o) → ((x : Working) → Has notes.jobs x → IsAtWork v x)
      → Holds ranges v (event_noted (event.Reply m) o notes)
  reply_noted m o later steps jobs = by_told o (λ i p q stands is. taken_knows w v m o i p q stands later steps is)
    where
      stays : Holds ranges v notes
      stays = stays_but_jobs ranges w v notes notes.jobs goes k jobs

      by_stand : (b : Bool) (p : Partition) (q : Sequence) → (b ≡ true → IsKnown v p q) → Holds ranges v (committed_if b p q notes)
      by_stand false p q known = stays
      by_stand true p q known =
          stays_and_more ranges v notes (record { partition = p; sequence = q } ∷ []) stays
          (λ s has. ⊎_elim (λ same. subst (WasCommitted ranges v) same (known_committed ranges v p q ranged (known refl))) (λ none. absurd none) has)

      by_told : (x : Outcome) → ((i : Instance) (p : Partition) (q : Sequence) (stands : ReplicaState) → x ≡ came.Took i p q stands → knows_commit stands ≡ true → IsKnown v p q)
          → Holds ranges v (event_noted (event.Reply m) x notes)
      by_told (came.Took i p q stands) knows = by_stand (knows_commit stands) p q (knows i p q stands refl)
      by_told other knows = stays

  -- ---- a node that is shown

  shown_done : (p : Partition) (q : Sequence) (seen : Option Seen) → p.0 < w.setup.partitions → seen ≡ value_of w.store.writes (node_key p q.0) → shows_done seen ≡ true
      → WasCommitted ranges v (record { partition = p; sequence = q })
  shown_done p q None within at e = absurd (false≢true e)
  shown_done p q (Some seen) within at e =
      let has = last_write-Has w.store.writes (node_key p q.0) seen (value_of-last w.store.writes (node_key p q.0) seen (sym at)).0 in
      committed_by (record { partition = p; sequence = q }) seen (subst (λ (s : Setup). p.0 < s.partitions) (sym goes.setup) within)
      (Has-front w.store.writes v.store.writes seen goes.past.history has.0) has.1 (says_done seen.node e)

  says_final : (r : Range) (n : Node) → SaysDone r n → IsFinal n
  says_final r (node.Meta m) says = by_status m.status says
    where
      by_status : (s : Status) → IsDoneOver r m s → IsFinalStatus s
      by_status InProgress h = absurd h
      by_status (Done commit) h = tt
      by_status Abandoned h = absurd h
  says_final r (node.Ideal i) says = absurd says
  says_final r node.Boot says = absurd says
  says_final r node.Gone says = absurd says

  abbrev ShownDone : Partition → Sequence → Option Seen → Type 0
  ShownDone p q seen = ShowsDone (ranges p q) (mark_of w.store.writes p) seen

  -- a DONE node lies above the mark
  done_above : (p : Partition) (q : Sequence) (seen : Seen) → p.0 < w.setup.partitions → node_of w p q ≡ Some seen → Has w.store.writes seen → seen.key ≡ node_key p q.0
      → SaysDone (ranges p q) seen.node → mark_of w.store.writes p ≤ (ranges p q).start.0
  done_above p q seen within there has of says =
      there_above (starting_of w.setup) w.store.writes p safe.safe.past.lawful within q.0 q.0 seen seen (ranges p q) there (omega arith) has of
      (node_range (ranges p q) seen.node says)

  -- a segment that was committed is shown so, above the mark, or gone, below it
  shows_committed : (p : Partition) (q : Sequence) → WasCommitted ranges w (record { partition = p; sequence = q }) → ShownDone p q (node_of w p q)
  shows_committed p q c =
      ⊎_elim (λ is. subst (ShownDone p q) (sym is) (c.done, done_above p q c.write c.within is c.has c.of c.done))
      (λ none. subst (ShownDone p q) (sym none)
      (gone_below (starting_of w.setup) w.store.writes p safe.safe.past.lawful c.within q.0 c.write (ranges p q) none c.has c.of
      (its_range ranges w (record { partition = p; sequence = q }) c)))
      (stays_or_gone w p q c.write safe
      (record { within = c.within; ending = record { has = c.has; is_of = c.of; final = says_final (ranges p q) c.write.node c.done } }))

  -- and so is one that is DONE
  shows_itself : (p : Partition) (q : Sequence) (seen : Option Seen) → p.0 < w.setup.partitions → seen ≡ node_of w p q → shows_done seen ≡ true → ShownDone p q seen
  shows_itself p q None within at e = absurd (false≢true e)
  shows_itself p q (Some seen) within at e =
      let has = last_write-Has w.store.writes (node_key p q.0) seen (value_of-last w.store.writes (node_key p q.0) seen (sym at)).0 in
      let says = ranged p q seen (subst (λ (s : Setup). p.0 < s.partitions) (sym goes.setup) within)
      (Has-front w.store.writes v.store.writes seen goes.past.history has.0) has.1 (says_done seen.node e) in
      (says, done_above p q seen within (sym at) has.0 has.1 says)

  -- where a node is shown, no later segment is gone
  shows_later : (p : Partition) (q : Sequence) (seen : Option Seen) → seen ≡ node_of w p q → IfSome seen (λ node. StandFrom ranges (mark_of w.store.writes) notes p q)
  shows_later p q None at = tt
  shows_later p q (Some seen) at = stands_from ranges w notes p q seen safe k (sym at)

  module _ (p : Partition) (q : Sequence) (o : Outcome) (steps : Steps w (event.ShowMeta p q) v (Ok o)) where
    shown : o ≡ came.Shown (node_of w p q)
    shown = ap (λ (x : Next). x.1) steps.2

    in_cluster : p.0 < w.setup.partitions
    in_cluster = ltb-true p.0 w.setup.partitions (only_passed (has_partition w p) NoSuchNode (priced w no_cost) steps.0 steps.1).0

    show_tells : TellsSo ranges (mark_of w.store.writes) notes (event.ShowMeta p q) o
    show_tells =
        subst (λ (x : Outcome). TellsSo ranges (mark_of w.store.writes) notes (event.ShowMeta p q) x) (sym shown) (
          λ has. shows_committed p q (k.committed (record { partition = p; sequence = q }) has),
          shows_itself p q (node_of w p q) in_cluster refl,
          shows_later p q (node_of w p q) refl,
        )

    show_noted : ((x : Working) → Has notes.jobs x → IsAtWork v x) → Holds ranges v (event_noted (event.ShowMeta p q) o notes)
    show_noted jobs =
        subst (λ (x : Outcome). Holds ranges v (event_noted (event.ShowMeta p q) x notes)) (sym shown)
        (by_test (shows_done (node_of w p q)) refl (stays_but_jobs ranges w v notes notes.jobs goes k jobs))
      where
        by_test : (b : Bool) → shows_done (node_of w p q) ≡ b → Holds ranges v notes → Holds ranges v (committed_if b p q notes)
        by_test false e holds = holds
        by_test true e holds =
            stays_and_more ranges v notes (record { partition = p; sequence = q } ∷ []) holds
            (λ s has. ⊎_elim (λ same. subst (WasCommitted ranges v) same (shown_done p q (node_of w p q) in_cluster refl e)) (λ none. absurd none) has)

  -- ---- a segment that is deleted

  retain_noted : (c : ControllerId) (p : Partition) (o : Outcome) → Steps w (event.Retain c p) v (Ok o) → ((x : Working) → Has notes.jobs x → IsAtWork w x → IsAtWork v x)
      → Holds ranges v (event_noted (event.Retain c p) o notes)
  retain_noted c p o steps jobs = by_told o (λ q is. was_deleted w v c p o q safe steps is)
    where
      stays : Holds ranges v notes
      stays = stays_with_jobs ranges w v notes goes jobs k

      by_step : (x : RetireStep) → ((q : Sequence) → came.Retired x ≡ came.Retired (step.Deleted q) → IsDeleted v.store.writes p q.0)
          → Holds ranges v (event_noted (event.Retain c p) (came.Retired x) notes)
      by_step (step.Deleted q) gone = stays_and_deleted ranges v notes (record { partition = p; sequence = q }) stays (gone q refl)
      by_step other gone = stays

      by_told : (x : Outcome) → ((q : Sequence) → x ≡ came.Retired (step.Deleted q) → IsDeleted v.store.writes p q.0) → Holds ranges v (event_noted (event.Retain c p) x notes)
      by_told (came.Retired x) gone = by_step x gone
      by_told other gone = stays

  -- ---- any event

  crash_noted : (c : ControllerId) (o : Outcome) → Steps w (event.CrashController c) v (Ok o)
      → Holds ranges v (record notes { jobs = filter (λ (x : Working). not (x.controller.0 == c.0)) notes.jobs })
  crash_noted c o steps =
      stays_but_jobs ranges w v notes (filter (λ (x : Working). not (x.controller.0 == c.0)) notes.jobs) goes k
      (λ x has.
      let f = Has-filter (λ (y : Working). not (y.controller.0 == c.0)) notes.jobs x has in
      job_stays w v x (event.CrashController c) o safe goes steps (turned x.controller.0 c.0 (not_true (x.controller.0 == c.0) f.1)) (λ e. cc) (k.jobs x f.0))
    where
      turned : (a b : ℕ) → (a == b) ≡ false → (b == a) ≡ false
      turned a b e = ne_eqb b a (λ same. false≢true (sym e ∙ eq-eqb a b (sym same)))

  pub noted : (e : Event) (o : Outcome) → Fits w.setup.schema e → Steps w e v (Ok o) → Holds ranges v (event_noted e o notes)
  noted (event.Report i p q) o fits steps =
      report_noted i p q o steps (λ x has. job_stays w v x (event.Report i p q) o safe goes steps refl (λ e. cc) (k.jobs x has))
  noted (event.Deliver m c) o fits steps =
      deliver_noted m c o steps (λ x has. job_stays w v x (event.Deliver m c) o safe goes steps refl (λ e. cc) (k.jobs x has))
  noted (event.Job c j) o fits steps = job_noted c j o steps
  noted (event.Reply m) o fits steps =
      reply_noted m o (leads_safe w (happens (event.Reply m) o ∷ []) v safe (v, (fits, steps), refl)) steps
      (λ x has. job_stays w v x (event.Reply m) o safe goes steps refl (λ e. cc) (k.jobs x has))
  noted (event.CrashController c) o fits steps = crash_noted c o steps
  noted (event.ShowMeta p q) o fits steps =
      show_noted p q o steps (λ x has. job_stays w v x (event.ShowMeta p q) o safe goes steps refl (λ e. cc) (k.jobs x has))
  noted (event.Retain c p) o fits steps =
      retain_noted c p o steps (λ x has at. job_stays w v x (event.Retain c p) o safe goes steps refl (λ f. cc) at)
  noted e o fits steps =
      stays_with_jobs ranges w v notes goes (λ x has at. job_stays w v x e o safe goes steps refl (λ f. cc) at) k

  pub tells : (e : Event) (o : Outcome) → Steps w e v (Ok o) → TellsSo ranges (mark_of w.store.writes) notes e o
  tells (event.Job c j) o steps = job_tells c j o steps
  tells (event.ShowMeta p q) o steps = show_tells p q o steps
  tells e o steps = tt
