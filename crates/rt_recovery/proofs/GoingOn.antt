-- Each exchange of `settle` leaves all partitions going on, where no replica stops: what it writes is a commit, step by step up to its end.
use Rattle.std.proofs.Common.{◌≡◌, inl, inr, ℕ, zero, suc, ◌<◌, ◌≤◌, Bool, true, List, [], length, Option, Some, None, Ok, refl, sym, ◌∙◌, ap, subst, slice_get, cond}
use Rattle.std.proofs.lemmas.Option.{none-some, same_Some}
use Rattle.rt_base.specs.declared.numbers.ControllerId.{ControllerId}
use Rattle.rt_base.specs.declared.numbers.Instance.{Instance}
use Rattle.rt_base.specs.declared.numbers.Moment.{Moment}
use Rattle.rt_base.specs.declared.numbers.Offset.{Offset}
use Rattle.rt_base.specs.declared.numbers.Partition.{Partition}
use Rattle.rt_base.specs.declared.numbers.Sequence.{Sequence}
use Rattle.rt_base.specs.declared.which.Which.TheVariants.{Events}
use Rattle.rt_commit.specs.Assignment.{Assigned}
use Rattle.rt_commit.specs.IsJob.{IsAt}
use Rattle.rt_commit.specs.Job.{call_at, commits, step_at, Stepping}
use Rattle.rt_commit.specs.Lasting.{IsJobOver}
use Rattle.rt_commit.specs.Told.{answer_to, store_after, ToldDeep}
use Rattle.rt_commit.specs.declared.job.Job.{Job}
use Rattle.rt_commit.specs.declared.job.JobStage.{JobStage}
use Rattle.rt_consumer.specs.Requests.{kind_at, kind_in}
use Rattle.rt_consumer.specs.declared.consumer.Consumer.{Consumer}
use Rattle.rt_consumer.specs.declared.phase.Phase.{Phase}
use Rattle.rt_consumer.specs.declared.phase.Phase.TheVariants as phase
use Rattle.rt_consumer.specs.declared.stage.Stage.{Stage}
use Rattle.rt_consumer.specs.declared.stage.Stage.TheVariants.{Building, CatchingUp, ConsumingToOnline, Ending, Holding, InitialConsuming, Retaining, Starting, Uploading}
use Rattle.rt_controller.specs.Controller.{Controlling}
use Rattle.rt_controller.specs.Lasting.{IsControllerOver}
use Rattle.rt_controller.specs.Right.{job_at, job_of, WorksOver}
use Rattle.rt_controller.specs.Steps.{Works}
use Rattle.rt_controller.specs.Working.{job_place, settled, with_stage, work_call, work_call_at, work_call_on, Working}
use Rattle.rt_controller.proofs.JobOf.{job_goes}
use Rattle.rt_controller.proofs.Telling.{told_work}
use Rattle.rt_deep.specs.Memory.{means as deep_means}
use Rattle.rt_entry.specs.declared.entry.Entry.TheVariants.{Replica}
use Rattle.rt_events.specs.declared.event.Event.TheVariants as event
use Rattle.rt_events.specs.declared.event.Event.TheVariants.{Report}
use Rattle.rt_events.specs.declared.outcome.Outcome.{Outcome}
use Rattle.rt_events.specs.declared.refusal.Refusal.TheVariants.{Limit, NothingToDo}
use Rattle.rt_lists.specs.Members.{Has}
use Rattle.rt_lists.proofs.Lists.{All-found}
use Rattle.rt_macros.specs.Doing.{after, Gives, Happens, Reached}
use Rattle.rt_macros.specs.Exchanging.{AfterDelivery, AfterStep, EndsJob, Handles, MakesStep}
use Rattle.rt_macros.specs.Outcomes.{delivered_in, ended_in, ending, replied}
use Rattle.rt_macros.specs.Settling.{ExchangeTurn, SegmentAt}
use Rattle.rt_macros.specs.declared.outcomes.Delivered.{Delivered}
use Rattle.rt_macros.specs.declared.outcomes.Delivered.TheVariants as delivered
use Rattle.rt_macros.specs.declared.outcomes.Replied.{Replied}
use Rattle.rt_model.specs.Lawful.{IsLawfulHistory}
use Rattle.rt_model.specs.Setup.{IsSetup}
use Rattle.rt_model.specs.declared.asked.Asked.{Asked}
use Rattle.rt_model.specs.declared.job_step.JobStep.{JobStep}
use Rattle.rt_model.specs.declared.node.Seen.{Seen}
use Rattle.rt_model.specs.declared.reply.Reply.{Reply}
use Rattle.rt_model.specs.declared.reply.ReplyStatus.{ReplyStatus}
use Rattle.rt_model.specs.declared.request.Request.{Request}
use Rattle.rt_model.specs.declared.request.RequestKind.{RequestKind}
use Rattle.rt_model.specs.declared.request.RequestKind.TheVariants as kind
use Rattle.rt_model.specs.declared.request.RequestNumber.{RequestNumber}
use Rattle.rt_model.specs.declared.setup.Setup.{Setup}
use Rattle.rt_msgs.specs.Numbered.{upload_path}
use Rattle.rt_past.specs.Past.{Past}
use Rattle.rt_safety.specs.CommitRun.{open_job}
use Rattle.rt_safety.proofs.SuccessEnds.{step_of}
use Rattle.rt_segment.specs.Spelling.{file_of}
use Rattle.rt_server.specs.Table.{entry_of, segment_cmp}
use Rattle.rt_server.proofs.Kept.{replica_found}
use Rattle.rt_server.proofs.LastingTables.{at, lookup-Has, segment_exact}
use Rattle.rt_state.specs.Finding.{request_at}
use Rattle.rt_state.specs.IsSafe.{past_of}
use Rattle.rt_state.specs.IsSafeWorld.{IsSafeWorld}
use Rattle.rt_state.specs.declared.state.State.{State}
use Rattle.rt_store.specs.Contents.{starting_of}
use Rattle.rt_store.specs.Meaning.{Told}
use Rattle.rt_store.specs.Memory.{means}
use Rattle.rt_unrefused.proofs.Answered.{delivery_leaves, job_leaves}
use Rattle.rt_unrefused.proofs.JobSteps.{is_open_job, over, own_step, there_then, OwnStep, SendsIts}
use Rattle.rt_world.specs.Reading.{events_left_in}
use Rattle.rt_world.specs.Step.{Steps}
use Rattle.rt_heal.specs.Mended.{NeedsNoRepair}
use Rattle.rt_heal.specs.Turned.{NoneHalfRetired}
use Rattle.rt_heal.proofs.Quiet.{then_parts, told_not, told_same, IsThen}
use Rattle.rt_heal.proofs.Wholes.{unneeding_goes_on}
use Rattle.rt_calm.specs.Again.{IsLeading}
use Rattle.rt_calm.proofs.Controlled.{asking_on, delivery_fetches, delivery_leads, delivery_log, delivery_plan, delivery_writes, job_fetches, job_keeps_leads, job_log, job_plan, IsAsking}
use Rattle.rt_calm.proofs.Ending.{does_commit, no_ending}
use Rattle.rt_calm.proofs.Exchanged.{delivery_so, DeliversSo, HasFinished}
use Rattle.rt_calm.proofs.Fitting.{Starts}
use Rattle.rt_calm.proofs.Keeping.{goes_on, keeps_still, IsGoing}
use Rattle.rt_calm.proofs.Rounds.{exchange_requests, HasRequested}
use Rattle.rt_recovery.specs.ByRows.{IsByRows, IsByRowsAt}
use Rattle.rt_recovery.specs.GoingOn.{AllGoOn}
use Rattle.rt_recovery.proofs.Continuing.{first_goes, stage_goes, AllOn, GoesAt, StepGoes}

-- the same partitions over the same history
pub same_goes_on : (w v : State) → v.setup ≡ w.setup → v.store.writes ≡ w.store.writes → AllGoOn w → AllGoOn v
same_goes_on w v setup writes on =
    subst (λ (x : Setup). AllOn (starting_of x) v.store.writes) (sym setup) (subst (AllOn (starting_of w.setup)) (sym writes) on)

-- where nothing is to be mended, and none is half retired
pub mended_goes_on : (w : State) → IsSafeWorld w
    → ((p : Partition) → p.0 < w.setup.partitions → NeedsNoRepair w.setup w.store.writes w.moment p)
    → ((p : Partition) → p.0 < w.setup.partitions → NoneHalfRetired w.store.writes p) → AllGoOn w
mended_goes_on w safe mended retired p within = (unneeding_goes_on w p safe within (mended p within), retired p within)

-- ---- a controller's job

-- behind a step its job goes on so, or all partitions do
abbrev AfterOn : Setup → Asked → List Seen → Option Job → Option Reply → Type 0
AfterOn setup q h o None = (k : Job) × (o ≡ Some k) × (k.asked ≡ q) × GoesAt (starting_of setup) q h k.stage
AfterOn setup q h o (Some r) = AllOn (starting_of setup) h

job_on : (setup : Setup) (past : Past) (t v : Told) (d e : ToldDeep) (c new : Controlling) (j : ℕ) (job : Job) (now : Moment) (did : JobStep) → IsSetup setup
    → past.history ≡ t.writes → IsControllerOver setup past c → t.faults.plan ≡ [] → IsLawfulHistory (starting_of setup) t.writes
    → IsLawfulHistory (starting_of setup) v.writes → Works (means t) (means v) (deep_means d) (deep_means e) c j now new (Ok did) → job_of c j ≡ Some job
    → GoesAt (starting_of setup) job.asked t.writes job.stage → AfterOn setup job.asked v.writes (job_of new j) did.reply
job_on setup past t v d e c new j job now did right same over none lawful after works opened goes =
    let w : Working = record { controller = new; step = did } in
    let left = told_work t v d e c j now w works in
    let k = step_of c j now (answer_to t d (work_call c j now)) w left.made in
    let lasts = All-found (IsJobOver setup past) c.jobs k.place k.job over.jobs k.there in
    let is : k.job ≡ job = same_Some k.job job (sym (ap (job_at c.jobs) k.found ∙ k.there) ∙ opened) in
    let call : work_call c j now ≡ call_at c.assigned k.job.asked now k.job.stage =
    ap (work_call_on c now) k.found ∙ ap (work_call_at c now) k.there in
    let at = subst (λ (h : List Seen). IsAt h k.job.asked k.job.stage) same lasts.job.at in
    let written : v.writes ≡ (store_after t (call_at c.assigned k.job.asked now k.job.stage)).writes =
    ap (λ (z : Told). z.writes) left.store ∙ ap (λ z. (store_after t z).writes) call in
    let some = subst (λ (a : Assigned). 1 ≤ a.replication) (sym over.assigned) right.some_replicas in
    let goes_there = subst (λ (z : Job). GoesAt (starting_of setup) z.asked t.writes z.stage) (sym is) goes in
    let step =
    stage_goes (starting_of setup) k.job.asked k.x t none lawful lasts.job.within c.assigned some now d k.job.stage at goes_there
    (subst (IsLawfulHistory (starting_of setup)) written after)
    (ap (λ z. step_at k.job.asked now k.job.stage (answer_to t d z)) (sym call) ∙ k.made) in
    subst (λ (z : Job). AfterOn setup z.asked v.writes (job_of new j) did.reply) is
    (subst (λ (z : Working). AfterOn setup k.job.asked v.writes (job_of z.controller j) z.step.reply) (sym k.same)
    (by_status k.place k.job k.x k.found k.there k.x.did.status
    (subst (λ (h : List Seen). StepGoes (starting_of setup) k.job.asked h k.x.stage k.x.did.status) (sym written) step)))
  where
    by_status : (place : ℕ) (g : Job) (x : Stepping) → job_place c.jobs j ≡ Some place → slice_get c.jobs place ≡ Some g → (o : Option ReplyStatus)
        → StepGoes (starting_of setup) g.asked v.writes x.stage o
        → AfterOn setup g.asked v.writes (job_of (settled (with_stage c place g x.stage) place g.asked (commits g.stage) x.did o).controller j)
        (settled (with_stage c place g x.stage) place g.asked (commits g.stage) x.did o).step.reply
    by_status place g x found there None goes = (_, job_goes c.jobs j place g found there x.stage, refl, goes)
    by_status place g x found there (Some s) on = on

-- a job that is open, and goes on so
record IsOnward (z : State) (c : ControllerId) (j : ℕ) : Type 0 where
  job : Job
  there : open_job z c j ≡ Some job
  goes : GoesAt (starting_of z.setup) job.asked z.store.writes job.stage

-- behind a step it goes on, or all partitions do
abbrev OnwardBehind : State → ControllerId → ℕ → Option Replied → Type 0
OnwardBehind y c j None = IsOnward y c j
OnwardBehind y c j (Some r) = AllGoOn y

step_on : (z y : State) (c : ControllerId) (j : ℕ) (o : Outcome) → IsSafeWorld z → y.setup ≡ z.setup → z.store.faults.plan ≡ [] → IsOnward z c j
    → Steps z (event.Job c j) y (Ok o) → OnwardBehind y c j (ended_in o)
step_on z y c j o safe same none is steps =
    subst (λ (x : Outcome). OnwardBehind y c j (ended_in x)) (sym did.told.1) (by_reply did.did.reply did.sends on)
  where
    did : OwnStep z y c j o
    did = own_step z y c j o steps

    its : WorksOver z.setup (past_of z) z.store did.store z.deep did.deep did.node.controller did.new j did.did
    its = over z y c j o safe did

    writes : y.store.writes ≡ did.store.writes
    writes = ap (λ (t : Told). t.writes) did.written

    on : AfterOn z.setup its.job.asked did.store.writes (job_of did.new j) did.did.reply
    on =
        job_on z.setup (past_of z) z.store did.store z.deep did.deep did.node.controller did.new j its.job z.moment did.did safe.safe.setup refl
        (safe.safe.controllers c.0 did.node did.at).over none safe.safe.past.lawful its.right.lawful did.works its.open_job
        (subst (λ (k : Job). GoesAt (starting_of z.setup) k.asked z.store.writes k.stage) (sym (is_open_job z y c j o safe did is.job is.there)) is.goes)

    by_reply : (r : Option Reply) → SendsIts z.sent y did.told.0 r → AfterOn z.setup its.job.asked did.store.writes (job_of did.new j) r
        → OnwardBehind y c j (ending did.told.0 r)
    by_reply None sends (k, there, own, goes) =
        subst (OnwardBehind y c j) (sym (no_ending did.told.0))
        (record {
          job = k;
          there = there_then z y c j o safe did ∙ there;
          goes =
              subst (λ (x : Setup). GoesAt (starting_of x) k.asked y.store.writes k.stage) (sym same)
              (subst (λ (h : List Seen). GoesAt (starting_of z.setup) k.asked h k.stage) (sym writes)
              (subst (λ (a : Asked). GoesAt (starting_of z.setup) a did.store.writes k.stage) (sym own) goes));
        })
    by_reply (Some reply) sends all =
        let at : ending did.told.0 (Some reply) ≡ Some (replied (length z.sent) reply) = ap (λ (m : Option ℕ). ending m (Some reply)) sends.0 in
        subst (OnwardBehind y c j) (sym at)
        (subst (λ (x : Setup). AllOn (starting_of x) y.store.writes) (sym same) (subst (AllOn (starting_of z.setup)) (sym writes) all))

-- ---- requests

-- at a request of this kind no job starts but a commit
abbrev StartsCommits : RequestKind → Type 0
StartsCommits (kind.Consumed reason) = Unit {0}
StartsCommits kind.CommitStart = Unit {0}
StartsCommits (kind.Upload path bytes) = Unit {0}
StartsCommits (kind.CommitEnd path) = Unit {0}
StartsCommits kind.Stopped = ⊥
StartsCommits (kind.Extend millis) = ⊥

starts_commit : (x : Offset) (k : RequestKind) (s : JobStage) → StartsCommits k → Starts x k s → commits s ≡ true
starts_commit x (kind.CommitEnd path) s only starts = does_commit s x starts
starts_commit x kind.Stopped s only starts = absurd only
starts_commit x (kind.Extend millis) s only starts = absurd only
starts_commit x (kind.Consumed reason) s only starts = absurd starts
starts_commit x kind.CommitStart s only starts = absurd starts
starts_commit x (kind.Upload path bytes) s only starts = absurd starts

only_as : (k l : RequestKind) → Some k ≡ Some l → StartsCommits k → StartsCommits l
only_as k l same only = subst StartsCommits (same_Some k l same) only

stage_asks : (name : List ℕ) (number : RequestNumber) (stage : Stage) (k : RequestKind) → kind_at name number stage ≡ Some k → StartsCommits k
stage_asks name number (Holding reason) k asks = only_as (kind.Consumed reason) k asks tt
stage_asks name number (Starting reason built) k asks = only_as kind.CommitStart k asks tt
stage_asks name number (Uploading reason built) k asks = only_as (kind.Upload (upload_path name number) (file_of built)) k asks tt
stage_asks name number (Ending reason built path) k asks = only_as (kind.CommitEnd path) k asks tt
stage_asks name number InitialConsuming k asks = absurd (none-some k asks)
stage_asks name number (CatchingUp target reason) k asks = absurd (none-some k asks)
stage_asks name number (ConsumingToOnline end done) k asks = absurd (none-some k asks)
stage_asks name number (Retaining done) k asks = absurd (none-some k asks)
stage_asks name number (Building reason) k asks = absurd (none-some k asks)

-- nobody asks that has stopped
phase_asks : (w : State) (i : ℕ) (p : Partition) (q : Sequence) (r : Consumer) (name : List ℕ) (number : RequestNumber) (ph : Phase) (k : RequestKind)
    → IsByRowsAt w i (p, q) r ph → kind_in name number ph ≡ Some k → StartsCommits k
phase_asks w i p q r name number (phase.Unsealed o) k stands asks = stage_asks name number o.stage k asks
phase_asks w i p q r name number (phase.Discarded d) k stands asks =
    absurd (none-some k (sym (ap (λ (b : Bool). cond b (Some kind.Stopped) None) stands) ∙ asks))
phase_asks w i p q r name number (phase.Retained kept) k stands asks = absurd (none-some k asks)
phase_asks w i p q r name number (phase.Committed kept) k stands asks = absurd (none-some k asks)

-- ---- a controller answers

module _ (u : State) (c : ControllerId) (none : u.store.faults.plan ≡ []) where
  ends_job : (j left : ℕ) (z : State) (v : Reached) (r : Replied) → IsAsking u z → IsOnward z c j → EndsJob c j left z v (Ok r) → AllGoOn v.world
  ends_job j zero z v r k is h = absurd (told_not r (Limit Events) h.1)
  ends_job j (suc left) z v r k is h =
      by_step t.told t.last
      (step_on z s.between.world c j s.told k.keeps.going.safe (on_step.keeps.setup ∙ sym k.keeps.setup) (k.keeps.unplanned none) is s.came.by.0) made t.further
      t.whole (λ l onward further. ends_job j left t.between.world l r (subst (IsAsking u) (sym at) on_step) onward further)
    where
      t : IsThen (MakesStep c j) (AfterStep (EndsJob c j left)) z v r
      t = then_parts (MakesStep c j) (AfterStep (EndsJob c j left)) z v r h

      s : IsThen (Happens (event.Job c j)) (λ outcome. Gives (ended_in outcome)) z t.between t.told
      s = then_parts (Happens (event.Job c j)) (λ outcome. Gives (ended_in outcome)) z t.between t.told t.came

      made : t.told ≡ ended_in s.told
      made = told_same t.told (ended_in s.told) s.further.1

      at : t.between.world ≡ s.between.world
      at = ap (λ (x : Reached). x.world) s.whole ∙ ap (λ (x : Reached). x.world) s.further.0

      on_step : IsAsking u s.between.world
      on_step =
          asking_on u z s.between.world (event.Job c j) s.told k tt s.came.by.0 (job_leaves z s.between.world c j s.told s.came.by.0).servers
          (job_log z s.between.world c j s.told s.came.by.0) (job_keeps_leads z s.between.world c j s.told s.came.by.0) (λ free. job_plan z s.between.world c j s.told s.came.by.0 free)
          (λ free. job_fetches z s.between.world c j s.told s.came.by.0 free)

      by_step : (o : Option Replied) (l : Reached) → OnwardBehind s.between.world c j (ended_in s.told) → o ≡ ended_in s.told
          → AfterStep (EndsJob c j left) o t.between.world l (Ok r) → v ≡ after t.between.turns l
          → ((l : Reached) → IsOnward t.between.world c j → EndsJob c j left t.between.world l (Ok r) → AllGoOn l.world) → AllGoOn v.world
      by_step None l behind same further whole more =
          subst AllGoOn (sym (ap (λ (x : Reached). x.world) whole))
          (more l (subst (λ (x : State). IsOnward x c j) (sym at) (subst (OnwardBehind s.between.world c j) (sym same) behind)) further)
      by_step (Some x) l behind same further whole more =
          let end : v.world ≡ t.between.world = ap (λ (y : Reached). y.world) whole ∙ ap (λ (y : Reached). y.world) further.0 in
          subst AllGoOn (sym (end ∙ at)) (subst (OnwardBehind s.between.world c j) (sym same) behind)

  handles_on : (q : Request) (m : ℕ) (v : Reached) (r : Replied) → IsGoing u → request_at u m ≡ Some q → StartsCommits q.kind → AllGoOn u
      → Handles c m u v (Ok r) → AllGoOn v.world
  handles_on q m v r going asks only all h =
      by_delivered (delivered_in t.told) (delivery_so u t.between.world m c q t.told going.safe asks t.came.by.0) t.last t.further t.whole
    where
      t : IsThen (Happens (event.Deliver m c)) (λ outcome. AfterDelivery c (delivered_in outcome)) u v r
      t = then_parts (Happens (event.Deliver m c)) (λ outcome. AfterDelivery c (delivered_in outcome)) u v r h

      asking : IsAsking u t.between.world
      asking =
          asking_on u u t.between.world (event.Deliver m c) t.told
          (record { keeps = keeps_still u going; servers = refl }) tt t.came.by.0
          (delivery_leaves u t.between.world m c t.told t.came.by.0).servers (delivery_log u t.between.world m c t.told t.came.by.0)
          (delivery_leads u t.between.world m c t.told t.came.by.0)
          (λ free. delivery_plan u t.between.world m c t.told t.came.by.0 free) (λ free. delivery_fetches u t.between.world m c t.told t.came.by.0 free)

      still : AllGoOn t.between.world
      still = same_goes_on u t.between.world asking.keeps.setup (delivery_writes u t.between.world m c t.told t.came.by.0) all

      by_delivered : (d : Delivered) → DeliversSo t.between.world c q d → (l : Reached) → AfterDelivery c d t.between.world l (Ok r)
          → v ≡ after t.between.turns l → AllGoOn v.world
      by_delivered (delivered.Replied x) so l further whole =
          subst AllGoOn (sym (ap (λ (y : Reached). y.world) whole ∙ ap (λ (y : Reached). y.world) further.0)) still
      by_delivered (delivered.Started j) so l further whole =
          subst AllGoOn (sym (ap (λ (y : Reached). y.world) whole))
          (ends_job j (events_left_in t.between.world) t.between.world l r asking
          (record {
            job = so.0.job;
            there = so.0.there;
            goes =
                first_goes (starting_of t.between.world.setup) so.0.job.asked t.between.world.store.writes so.0.job.stage so.1
                (starts_commit q.offset q.kind so.0.job.stage only so.0.starts) still;
          }) further)
      by_delivered delivered.Neither so l further whole = absurd (told_not r NothingToDo further.1)

-- ---- an exchange

-- a request was sent and answered
finished_on : (w u : State) (i : Instance) (p : Partition) (q : Sequence) (c : ControllerId) (o : Outcome) (v : Reached) → IsGoing w → IsByRows w
    → w.store.faults.plan ≡ [] → AllGoOn w → Steps w (Report i p q) u (Ok o) → HasFinished w u i p q c o v → AllGoOn v.world
finished_on w u i p q c o v going by_rows none on steps f =
    same_goes_on f.between.world v.world (f.taken.exchanged.on.setup ∙ sym (f.answered.asking.keeps.setup ∙ f.asked.setup))
    (ap (λ (t : Told). t.writes) f.taken.taken.store)
    (handles_on u c (ap (λ (t : Told). t.faults.plan) f.asked.store ∙ none) f.its.request (length w.sent) f.between f.answer
    (goes_on w u (Report i p q) o going tt steps) f.its.there only (same_goes_on w u f.asked.setup (ap (λ (t : Told). t.writes) f.asked.store) on) f.came)
  where
    has : Has f.asked.old.server.table.entries (at (p, q) (Replica f.asked.replica))
    has =
        lookup-Has segment_cmp segment_exact f.asked.old.server.table.entries (p, q) (Replica f.asked.replica)
        (replica_found (entry_of f.asked.old.server.table p q) f.asked.replica f.asked.found)

    only : StartsCommits f.its.request.kind
    only =
        phase_asks w i.0 p q f.asked.replica f.asked.replica.name f.its.request.number f.asked.replica.phase f.its.request.kind
        (by_rows.replicas i.0 f.asked.old f.asked.at (p, q) f.asked.replica has) f.asked.kind

pub exchange_goes_on : (i : Instance) (s : SegmentAt) (busy : Bool) (w : State) (v : Reached) (told : Bool) → IsGoing w → IsByRows w → IsLeading w
    → w.store.faults.plan ≡ [] → AllGoOn w → ExchangeTurn i s busy w v (Ok told) → AllGoOn v.world
exchange_goes_on i s busy w v told going by_rows leading none on h = by_way (exchange_requests i s busy w v told going leading h)
  where
    by_way : HasRequested w i s busy v told → AllGoOn v.world
    by_way (inl same) = subst AllGoOn (sym same.0) on
    by_way (inr m) =
        subst AllGoOn (sym m.world) (finished_on w m.sent i s.0 s.1 m.controller m.outcome m.last going by_rows none on m.steps m.fin)
