-- The job of an exchange, step by step: what it answers fits its request, and what it has written is paid for.
use Rattle.std.proofs.Common.{◌≡◌, ◌⊎◌, inl, inr, ℕ, ◌<◌, ◌≤◌, Bool, true, false, List, [], length, Option, Some, None, Ok, refl, sym, ◌∙◌, ap, subst, slice_get}
use Rattle.std.proofs.lemmas.Bool.{eq-eqb, true≢false}
use Rattle.std.proofs.lemmas.Option.{none-some}
use Rattle.rt_base.specs.declared.numbers.ControllerId.{ControllerId}
use Rattle.rt_base.specs.declared.numbers.Offset.{Offset}
use Rattle.rt_base.specs.declared.numbers.Partition.{Partition}
use Rattle.rt_base.specs.declared.numbers.Sequence.{Sequence}
use Rattle.rt_commit.specs.Job.{commits}
use Rattle.rt_commit.specs.Lasting.{commit_end, work_end}
use Rattle.rt_commit.specs.Right.{EndsSo, MetFault, StatusSo}
use Rattle.rt_commit.specs.Told.{IsExact}
use Rattle.rt_commit.specs.declared.job.Job.{Job}
use Rattle.rt_commit.specs.declared.job.JobStage.{JobStage}
use Rattle.rt_commit.specs.declared.job.JobStage.TheVariants as stage
use Rattle.rt_commit.specs.declared.work.Work.{Work}
use Rattle.rt_commit.specs.declared.work.Work.TheVariants as work
use Rattle.rt_consumer.specs.Consumer.{end_in, ends_at, is_at}
use Rattle.rt_controller.specs.Lasting.{HaveOneMachine, IsControllerOver}
use Rattle.rt_controller.specs.Right.{job_of, LeavesJob, WorksOver}
use Rattle.rt_controller.specs.Told.{worked_on}
use Rattle.rt_controller.specs.Working.{work_call}
use Rattle.rt_controller.specs.declared.segment_machine.SegmentMachine.{SegmentMachine}
use Rattle.rt_controller.proofs.Telling.{told_work}
use Rattle.rt_deep.specs.Memory.{means as deep_means}
use Rattle.rt_events.specs.declared.event.Event.TheVariants as event
use Rattle.rt_events.specs.declared.outcome.Outcome.{Outcome}
use Rattle.rt_macros.specs.Outcomes.{ended_in, ending, replied}
use Rattle.rt_macros.specs.declared.outcomes.Replied.{Replied}
use Rattle.rt_model.specs.Messages.{asked_of}
use Rattle.rt_model.specs.Metadata.{IsDoneStatus}
use Rattle.rt_model.specs.declared.asked.Asked.{Asked}
use Rattle.rt_model.specs.declared.job_step.StepName.{StepName}
use Rattle.rt_model.specs.declared.node.Seen.{Seen}
use Rattle.rt_model.specs.declared.reply.FailCause.{FailCause}
use Rattle.rt_model.specs.declared.reply.Reply.{Reply}
use Rattle.rt_model.specs.declared.reply.ReplyStatus.{ReplyStatus}
use Rattle.rt_model.specs.declared.reply.ReplyStatus.TheVariants as status
use Rattle.rt_model.specs.declared.request.Request.{Request}
use Rattle.rt_model.specs.declared.request.RequestKind.{RequestKind}
use Rattle.rt_model.specs.declared.request.RequestKind.TheVariants as kind
use Rattle.rt_model.specs.declared.seg_meta.SeenMeta.{SeenMeta}
use Rattle.rt_model.specs.declared.setup.Setup.{Setup}
use Rattle.rt_model.specs.declared.status.Status.{Status}
use Rattle.rt_model.proofs.Lawful.{versions_count_writes}
use Rattle.rt_nodes.specs.declared.controller_node.ControllerNode.{ControllerNode}
use Rattle.rt_past.specs.IsPast.{IsPast}
use Rattle.rt_safety.specs.CommitRun.{open_job}
use Rattle.rt_safety.proofs.JobsOn.{own_slot}
use Rattle.rt_safety.proofs.SuccessEnds.{success_ends}
use Rattle.rt_state.specs.IsSafe.{past_of}
use Rattle.rt_state.specs.IsSafeWorld.{IsSafeWorld}
use Rattle.rt_state.specs.declared.state.State.{State}
use Rattle.rt_store.specs.Contents.{starting_of}
use Rattle.rt_store.specs.Meaning.{Told}
use Rattle.rt_store.specs.Memory.{means}
use Rattle.rt_stream.specs.Log.{messages_of, Log}
use Rattle.rt_unrefused.proofs.Answered.{job_steps, Behind as AnswersBehind, IsAnswer}
use Rattle.rt_unrefused.proofs.JobSteps.{is_open_job, over, own_step, there_then, OwnStep, SendsIts}
use Rattle.rt_world.specs.Step.{Steps}
use Rattle.rt_calm.specs.Again.{machines_in}
use Rattle.rt_calm.specs.Commits.{commits_of}
use Rattle.rt_calm.specs.Off.{IsSuccess}
use Rattle.rt_calm.specs.Spent.{Spends}
use Rattle.rt_calm.proofs.Commits.{commits_within}
use Rattle.rt_calm.proofs.Delivered.{HasStarted, IsMoved, IsOwn, IsOwnBy}
use Rattle.rt_calm.proofs.Fitting.{Fits, Starts}
use Rattle.rt_calm.proofs.Keeping.{KeepsOn}
use Rattle.rt_calm.proofs.Leading.{machines_after, worked_machines}
use Rattle.rt_calm.proofs.Moving.{commit_moves, machines_at, never_met, stop_moves, IsPlain}
use Rattle.rt_calm.proofs.Paying.{job_pays, AfterPays, Pays, StatusPaid}

-- ---- a job

-- a job that is open for a request
pub record IsOpenFor (z : State) (c : ControllerId) (j : ℕ) (q : Request) : Type 0 where
  pub job : Job
  pub there : open_job z c j ≡ Some job
  pub asked : job.asked ≡ asked_of q
  pub starts : Starts q.offset q.kind job.stage

starts_on : (x : Offset) (k : RequestKind) (s t : JobStage) → commit_end t ≡ commit_end s → Starts x k s → Starts x k t
starts_on x (kind.CommitEnd path) s t same starts = same ∙ starts
starts_on x kind.Stopped s t same starts = same ∙ starts
starts_on x (kind.Extend millis) s t same starts = tt
starts_on x (kind.Consumed reason) s t same starts = absurd starts
starts_on x kind.CommitStart s t same starts = absurd starts
starts_on x (kind.Upload path bytes) s t same starts = absurd starts

-- a job commits where it has an end
work_commits : (w : Work) (x : Offset) → work_end w ≡ Some x → commits (stage.IdealRead w []) ≡ true
work_commits (work.Commit done) x e = refl
work_commits work.Offline x e = absurd (none-some x e)

pub does_commit : (s : JobStage) (x : Offset) → commit_end s ≡ Some x → commits s ≡ true
does_commit (stage.Check from end path) x e = refl
does_commit (stage.Done from commit) x e = refl
does_commit (stage.Next done) x e = refl
does_commit (stage.IdealRead w found) x e = work_commits w x e
does_commit (stage.IdealSet w found ideal) x e = work_commits w x e
does_commit stage.Ended x e = absurd (none-some x e)

work_offline : (w : Work) → work_end w ≡ None → commits (stage.IdealRead w []) ≡ false
work_offline (work.Commit done) e = absurd (none-some _ (sym e))
work_offline work.Offline e = refl

does_not : (s : JobStage) → commit_end s ≡ None → commits s ≡ false
does_not (stage.Check from end path) e = absurd (none-some end (sym e))
does_not (stage.Done from commit) e = absurd (none-some commit.end (sym e))
does_not (stage.Next done) e = absurd (none-some _ (sym e))
does_not (stage.IdealRead w found) e = work_offline w e
does_not (stage.IdealSet w found ideal) e = work_offline w e
does_not stage.Ended e = refl

-- what a job answers fits its request
job_fits : (h : List Seen) (p : Partition) (t : Sequence) (rose : Type 0) (n : StepName) (x : Offset) (k : RequestKind) (from : JobStage) (s : ReplyStatus)
    → Starts x k from → StatusSo h p t rose (commits from) n s
    → ((seen : SeenMeta) → commit_end from ≡ Some x → s ≡ status.CommitSuccess seen → ends_at x seen ≡ true) → Fits x k s
job_fits h p t rose n x (kind.CommitEnd path) from s starts so success = by_status s so success
  where
    by_status : (s : ReplyStatus) → StatusSo h p t rose (commits from) n s
        → ((seen : SeenMeta) → commit_end from ≡ Some x → s ≡ status.CommitSuccess seen → ends_at x seen ≡ true) → Fits x (kind.CommitEnd path) s
    by_status (status.CommitSuccess seen) so success = success seen starts refl
    by_status (status.Failed cause) so success = tt
    by_status status.Processed so success = absurd (true≢false (sym (does_commit from x starts) ∙ so))
    by_status (status.Keep seen) so success = absurd so
    by_status (status.UploadSuccess shown) so success = absurd so
    by_status status.Hold so success = absurd so
    by_status (status.CatchUp o) so success = absurd so
    by_status status.Discard so success = absurd so
    by_status (status.Commit o) so success = absurd so
    by_status status.NotLeader so success = absurd so
    by_status status.CommitContinue so success = absurd so
job_fits h p t rose n x kind.Stopped from s starts so success = by_status s so
  where
    by_status : (s : ReplyStatus) → StatusSo h p t rose (commits from) n s → Fits x kind.Stopped s
    by_status (status.CommitSuccess seen) so = absurd (true≢false (sym so.0 ∙ does_not from starts))
    by_status (status.Failed cause) so = tt
    by_status status.Processed so = tt
    by_status (status.Keep seen) so = absurd so
    by_status (status.UploadSuccess shown) so = absurd so
    by_status status.Hold so = absurd so
    by_status (status.CatchUp o) so = absurd so
    by_status status.Discard so = absurd so
    by_status (status.Commit o) so = absurd so
    by_status status.NotLeader so = absurd so
    by_status status.CommitContinue so = absurd so
job_fits h p t rose n x (kind.Extend millis) from s starts so success = tt
job_fits h p t rose n x (kind.Consumed reason) from s starts so success = absurd starts
job_fits h p t rose n x kind.CommitStart from s starts so success = absurd starts
job_fits h p t rose n x (kind.Upload path bytes) from s starts so success = absurd starts

-- a job answers FAILED, or a success
abbrev pub FailedOrSuccess : ReplyStatus → Type 0
FailedOrSuccess s = ((cause : FailCause) × (s ≡ status.Failed cause)) ⊎ IsSuccess s

job_status : (h : List Seen) (p : Partition) (t : Sequence) (rose : Type 0) (b : Bool) (n : StepName) (s : ReplyStatus) → StatusSo h p t rose b n s → FailedOrSuccess s
job_status h p t rose b n (status.CommitSuccess seen) so = inr tt
job_status h p t rose b n status.Processed so = inr tt
job_status h p t rose b n (status.Failed cause) so = inl (cause, refl)
job_status h p t rose b n (status.Keep seen) so = absurd so
job_status h p t rose b n (status.UploadSuccess shown) so = absurd so
job_status h p t rose b n status.Hold so = absurd so
job_status h p t rose b n (status.CatchUp o) so = absurd so
job_status h p t rose b n status.Discard so = absurd so
job_status h p t rose b n (status.Commit o) so = absurd so
job_status h p t rose b n status.NotLeader so = absurd so
job_status h p t rose b n status.CommitContinue so = absurd so

-- behind a step it goes on, or it has answered so
abbrev pub Behind : State → ControllerId → ℕ → Request → Option Replied → Type 0
Behind y c j q None = IsOpenFor y c j q
Behind y c j q (Some r) = IsAnswer y (asked_of q) r × Fits q.offset q.kind r.status × FailedOrSuccess r.status

pub no_ending : (message : Option ℕ) → ending message None ≡ None
no_ending None = refl
no_ending (Some m) = refl

pub step_behind : (z y : State) (c : ControllerId) (j : ℕ) (q : Request) (o : Outcome) → IsSafeWorld z → IsOpenFor z c j q → Steps z (event.Job c j) y (Ok o)
    → Behind y c j q (ended_in o)
step_behind z y c j q o safe is steps =
    subst (λ (x : Outcome). Behind y c j q (ended_in x)) (sym did.told.1)
    (by_reply did.did.reply refl did.sends its.leaves its.ends
    (subst (λ (x : Outcome). AnswersBehind y c j (asked_of q) (ended_in x)) did.told.1
    (job_steps z y c j (asked_of q) o safe (record { job = is.job; there = is.there; asked = is.asked }) steps)))
  where
    did : OwnStep z y c j o
    did = own_step z y c j o steps

    its : WorksOver z.setup (past_of z) z.store did.store z.deep did.deep did.node.controller did.new j did.did
    its = over z y c j o safe did

    own : its.job ≡ is.job
    own = is_open_job z y c j o safe did is.job is.there

    starts : Starts q.offset q.kind its.job.stage
    starts = subst (λ (x : Job). Starts q.offset q.kind x.stage) (sym own) is.starts

    Rose : Type 0
    Rose = MetFault z.store did.store z.deep did.deep

    success : (reply : Reply) → did.did.reply ≡ Some reply → (seen : SeenMeta) → IsDoneStatus seen.meta.status → commit_end its.job.stage ≡ Some q.offset
        → reply.status ≡ status.CommitSuccess seen → ends_at q.offset seen ≡ true
    success reply replies seen done ends told =
        let at : job_of did.node.controller j ≡ Some its.job = its.open_job in
        let e = success_ends z.setup (past_of z) (means z.store) (means did.store) (deep_means z.deep) (deep_means did.deep) did.node.controller j z.moment
        (record { controller = did.new; step = did.did }) its.job q.offset reply seen (safe.safe.controllers c.0 did.node did.at).over did.works at ends replies told done in
        ap (λ (s : Status). is_at q.offset (end_in s)) e.1 ∙ eq-eqb e.0.end.0 q.offset.0 (ap (λ (x : Offset). x.0) e.2)

    done_so : (h : List Seen) (p : Partition) (t : Sequence) (n : StepName) (b : Bool) (s : ReplyStatus) (seen : SeenMeta) → StatusSo h p t Rose b n s
        → s ≡ status.CommitSuccess seen → IsDoneStatus seen.meta.status
    done_so h p t n b s seen so e = (subst (StatusSo h p t Rose b n) e so).1.1

    by_reply : (r : Option Reply) → did.did.reply ≡ r → SendsIts z.sent y did.told.0 r → LeavesJob its.job r (job_of did.new j)
        → EndsSo did.store.writes its.job.asked.partition its.job.asked.sequence Rose (commits its.job.stage) did.did.step r
        → AnswersBehind y c j (asked_of q) (ending did.told.0 r) → Behind y c j q (ending did.told.0 r)
    by_reply None replies sends leaves so behind =
        subst (Behind y c j q) (sym (no_ending did.told.0))
        (record {
          job = leaves.0;
          there = there_then z y c j o safe did ∙ leaves.1;
          asked = leaves.3 ∙ ap (λ (x : Job). x.asked) own ∙ is.asked;
          starts = starts_on q.offset q.kind its.job.stage leaves.0.stage leaves.4 starts;
        })
    by_reply (Some reply) replies sends leaves so behind =
        let at : ending did.told.0 (Some reply) ≡ Some (replied (length z.sent) reply) = ap (λ (m : Option ℕ). ending m (Some reply)) sends.0 in
        subst (Behind y c j q) (sym at) (
          subst (AnswersBehind y c j (asked_of q)) at behind,
          job_fits did.store.writes its.job.asked.partition its.job.asked.sequence Rose did.did.step q.offset q.kind its.job.stage reply.status starts so
              (λ seen ends told.
              success reply replies seen
              (done_so did.store.writes its.job.asked.partition its.job.asked.sequence did.did.step (commits its.job.stage) reply.status seen so told) ends told),
          job_status did.store.writes its.job.asked.partition its.job.asked.sequence Rose (commits its.job.stage) did.did.step reply.status so,
        )

-- ---- the machines behind a step

module _ (z y : State) (c : ControllerId) (j : ℕ) (o : Outcome) (safe : IsSafeWorld z) (did : OwnStep z y c j o) where
  abbrev worked : WorksOver z.setup (past_of z) z.store did.store z.deep did.deep did.node.controller did.new j did.did
  worked = over z y c j o safe did

  pub step_machines : machines_at y c ≡ machines_after (machines_at z c) worked.job.asked (commits worked.job.stage) did.did.reply
  step_machines =
      ap (λ (cs : List ControllerNode). machines_in (slice_get cs c.0)) did.controllers
      ∙ ap machines_in (own_slot z.controllers c.0 did.node (record did.node { controller = did.new }) did.at)
      ∙ worked_machines z.store did.store z.deep did.deep did.node.controller did.new j z.moment did.did did.works worked.job worked.open_job
      ∙ ap (λ (ms : List SegmentMachine). machines_after ms worked.job.asked (commits worked.job.stage) did.did.reply) (sym (ap machines_in did.at))

-- ---- what a job pays

-- a job that is open, and has paid for what it has written since; and the segment's machine as it started
pub record IsPaying (u z : State) (c : ControllerId) (j : ℕ) (q : Request) : Type 0 where
  pub job : Job
  pub there : open_job z c j ≡ Some job
  pub pays : Pays u.setup u.log u.store.writes job.asked z.store.writes job.stage
  pub started : IsPlain u q → HasStarted u.store.writes (machines_at u c) (machines_at z c) q

-- behind it fewer writes are left, or nothing was written and the segment's machine has moved
abbrev pub PaysBehind : State → State → ControllerId → ℕ → Request → Option Replied → Type 0
PaysBehind u y c j q None = IsPaying u y c j q
PaysBehind u y c j q (Some r) =
    Spends u.setup u.log u.store.writes y.store.writes
    × (IsPlain u q → y.store.writes ≡ u.store.writes → IsMoved u.store.writes (machines_at u c) (machines_at y c) q r.status)

module _ (u z y : State) (c : ControllerId) (j : ℕ) (q : Request) (o : Outcome) (before : KeepsOn u z) (behind : KeepsOn u y) (opened : IsOpenFor z c j q)
    (is : IsPaying u z c j q) (steps : Steps z (event.Job c j) y (Ok o)) where
  safe_before : IsSafeWorld z
  safe_before = before.going.safe

  did : OwnStep z y c j o
  did = own_step z y c j o steps

  abbrev its : WorksOver z.setup (past_of z) z.store did.store z.deep did.deep did.node.controller did.new j did.did
  its = over z y c j o safe_before did

  writes : y.store.writes ≡ did.store.writes
  writes = ap (λ (t : Told). t.writes) did.written

  few : (p : Partition) → p.0 < u.setup.partitions → commits_of did.store.writes p ≤ length (messages_of u.log p)
  few p inside =
      subst (λ (h : List Seen). commits_of h p ≤ length (messages_of u.log p)) writes
      (subst (λ (l : Log). commits_of y.store.writes p ≤ length (messages_of l p)) behind.log
      (commits_within y p behind.going.safe (subst (λ (s : Setup). p.0 < s.partitions) (sym behind.setup) inside)))

  paid : AfterPays u.setup u.log u.store.writes its.job.asked (commits its.job.stage) did.store.writes (job_of did.new j) did.did.reply
  paid =
      job_pays u.setup (past_of z) u.log u.store.writes z.store did.store z.deep did.deep did.node.controller did.new j its.job z.moment did.did refl
      (subst (λ (s : Setup). IsControllerOver s (past_of z) did.node.controller) before.setup (safe_before.safe.controllers c.0 did.node did.at).over)
      (versions_count_writes (starting_of z.setup) z.store.writes safe_before.safe.past.lawful) did.works its.open_job few
      (subst (λ (k : Job). Pays u.setup u.log u.store.writes k.asked z.store.writes k.stage) (sym (is_open_job z y c j o safe_before did is.job is.there)) is.pays)

  -- ---- the machines

  machines_before : machines_at z c ≡ did.node.controller.machines
  machines_before = ap machines_in did.at

  machines_behind : machines_at y c ≡ machines_after (machines_at z c) its.job.asked (commits its.job.stage) did.did.reply
  machines_behind = step_machines z y c j o safe_before did

  own_asked : its.job.asked ≡ asked_of q
  own_asked = ap (λ (k : Job). k.asked) (is_open_job z y c j o safe_before did opened.job opened.there) ∙ opened.asked

  module _ (plain : IsPlain u q) (same : y.store.writes ≡ u.store.writes) (reply : Reply) where
    exact : IsExact z.store did.store z.deep did.deep (work_call did.node.controller j z.moment)
        (worked_on z.store z.deep did.node.controller j z.moment) (record { controller = did.new; step = did.did })
    exact = told_work z.store did.store z.deep did.deep did.node.controller j z.moment (record { controller = did.new; step = did.did }) did.works

    unmet : MetFault z.store did.store z.deep did.deep → ⊥
    unmet =
        never_met z.store did.store z.deep did.deep (work_call did.node.controller j z.moment) exact.store exact.deep (before.unplanned plain.readable.unplanned)
        (before.fetches plain.readable.fetches)

    one : HaveOneMachine (machines_at z c)
    one = subst HaveOneMachine (sym machines_before) (safe_before.safe.controllers c.0 did.node did.at).over.one

    right : IsPast u.setup (past_of y)
    right = subst (λ (s : Setup). IsPast s (past_of y)) behind.setup behind.going.safe.safe.past

    abbrev StatusAt : Bool → Type 0
    StatusAt commit =
        StatusSo u.store.writes q.partition q.sequence (MetFault z.store did.store z.deep did.deep) commit did.did.step reply.status

    status_at : StatusSo did.store.writes its.job.asked.partition its.job.asked.sequence (MetFault z.store did.store z.deep did.deep) (commits its.job.stage) did.did.step reply.status
        → StatusAt (commits its.job.stage)
    status_at so =
        subst (λ (h : List Seen). StatusSo h q.partition q.sequence (MetFault z.store did.store z.deep did.deep) (commits its.job.stage) did.did.step reply.status) (sym writes ∙ same)
        (subst (λ (a : Asked). StatusSo did.store.writes a.partition a.sequence (MetFault z.store did.store z.deep did.deep) (commits its.job.stage) did.did.step reply.status) own_asked so)

    abbrev PaidAt : Bool → Type 0
    PaidAt commit = StatusPaid u.setup u.log u.store.writes commit u.store.writes reply.status

    paid_at : StatusPaid u.setup u.log u.store.writes (commits its.job.stage) did.store.writes reply.status → PaidAt (commits its.job.stage)
    paid_at k = subst (λ (h : List Seen). StatusPaid u.setup u.log u.store.writes (commits its.job.stage) h reply.status) (sym writes ∙ same) k

    started : HasStarted u.store.writes (machines_at u c) (machines_at z c) q
    started = is.started plain

    by_commit : (commit : Bool) → (commit ≡ true → IsOwn u.store.writes q started.moved.machine) → PaidAt commit → StatusAt commit
        → IsMoved u.store.writes (machines_at u c) (machines_after (machines_at z c) its.job.asked commit (Some reply)) q reply.status
    by_commit true own k so =
        commit_moves u.setup u.log u (past_of y) right q plain.within same plain (machines_at u c) (machines_at z c) its.job.asked one started
        (ap (λ (a : Asked). a.partition) own_asked) (ap (λ (a : Asked). a.sequence) own_asked) (MetFault z.store did.store z.deep did.deep) did.did.step reply.status
        unmet (own refl) k so
    by_commit false own k so =
        stop_moves u.setup u.log u (past_of y) right q plain.within same plain (machines_at u c) (machines_at z c) its.job.asked one started
        (ap (λ (a : Asked). a.partition) own_asked) (ap (λ (a : Asked). a.sequence) own_asked) (MetFault z.store did.store z.deep did.deep) did.did.step reply.status
        unmet k so

    -- a commit's request was a CommitEnd
    own_machine : commits its.job.stage ≡ true → IsOwn u.store.writes q started.moved.machine
    own_machine commit = by_kind q.kind refl started.own starts
      where
        starts : Starts q.offset q.kind its.job.stage
        starts = subst (λ (k : Job). Starts q.offset q.kind k.stage) (sym (is_open_job z y c j o safe_before did opened.job opened.there)) opened.starts

        by_kind : (k : RequestKind) → q.kind ≡ k → IsOwnBy u.store.writes q started.moved.machine k → Starts q.offset k its.job.stage
            → IsOwn u.store.writes q started.moved.machine
        by_kind (kind.CommitEnd path) at own begins = own
        by_kind kind.Stopped at own begins = absurd (true≢false (sym commit ∙ does_not its.job.stage begins))
        by_kind (kind.Extend millis) at own begins = absurd (plain.unextended millis at)
        by_kind (kind.Consumed reason) at own begins = absurd begins
        by_kind kind.CommitStart at own begins = absurd begins
        by_kind (kind.Upload path bytes) at own begins = absurd begins

    ended_moves : StatusPaid u.setup u.log u.store.writes (commits its.job.stage) did.store.writes reply.status
        → StatusSo did.store.writes its.job.asked.partition its.job.asked.sequence (MetFault z.store did.store z.deep did.deep) (commits its.job.stage) did.did.step reply.status
        → IsMoved u.store.writes (machines_at u c) (machines_after (machines_at z c) its.job.asked (commits its.job.stage) (Some reply)) q reply.status
    ended_moves k so = by_commit (commits its.job.stage) own_machine (paid_at k) (status_at so)

  pub step_pays : PaysBehind u y c j q (ended_in o)
  step_pays =
      subst (λ (x : Outcome). PaysBehind u y c j q (ended_in x)) (sym did.told.1) (by_reply did.did.reply did.sends paid its.ends machines_behind)
    where
      by_reply : (r : Option Reply) → SendsIts z.sent y did.told.0 r
          → AfterPays u.setup u.log u.store.writes its.job.asked (commits its.job.stage) did.store.writes (job_of did.new j) r
          → EndsSo did.store.writes its.job.asked.partition its.job.asked.sequence (MetFault z.store did.store z.deep did.deep) (commits its.job.stage) did.did.step r
          → machines_at y c ≡ machines_after (machines_at z c) its.job.asked (commits its.job.stage) r → PaysBehind u y c j q (ending did.told.0 r)
      by_reply None sends (k, there, own, pays) so machines =
          subst (PaysBehind u y c j q) (sym (no_ending did.told.0))
          (record {
            job = k;
            there = there_then z y c j o safe_before did ∙ there;
            pays =
                subst (λ (a : Asked). Pays u.setup u.log u.store.writes a y.store.writes k.stage) (sym own)
                (subst (λ (h : List Seen). Pays u.setup u.log u.store.writes its.job.asked h k.stage) (sym writes) pays);
            started =
                λ plain. subst (λ (ms : List SegmentMachine). HasStarted u.store.writes (machines_at u c) ms q) (sym machines) (is.started plain);
          })
      by_reply (Some reply) sends ends so machines =
          let at : ending did.told.0 (Some reply) ≡ Some (replied (length z.sent) reply) = ap (λ (m : Option ℕ). ending m (Some reply)) sends.0 in
          subst (PaysBehind u y c j q) (sym at) (
            subst (λ (h : List Seen). Spends u.setup u.log u.store.writes h) (sym writes) ends.0,
            λ plain same.
                subst (λ (ms : List SegmentMachine). IsMoved u.store.writes (machines_at u c) ms q reply.status) (sym machines) (ended_moves plain same reply ends.1 so),
          )
