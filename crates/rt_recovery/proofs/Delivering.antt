-- What comes of a request's delivery to a controller that leads, where no fault is planned: the machine of its segment reacts, and a commit's
-- job runs to its end.
use Rattle.std.proofs.Common.{◌≡◌, ◌⊎◌, inl, inr, ℕ, zero, suc, ◌<◌, ◌≤◌, ◌==◌, Bool, true, false, cond, List, [], ◌∷◌, Option, Some, None, Result, Ok, Err, length, refl, sym, ◌∙◌, ap, subst, arith, slice_get}
use Rattle.std.specs.List.{Contains}
use Rattle.std.proofs.lemmas.Bool.{and_parts, cases_lt, eqb-true, ne_eqb}
use Rattle.std.proofs.lemmas.Option.{none-some, same_Some}
use Rattle.rt_assign.specs.Placement.{replicas_of}
use Rattle.rt_base.specs.declared.limits.TheConstants.{LAST_NUMBER}
use Rattle.rt_base.specs.declared.numbers.ControllerId.{ControllerId}
use Rattle.rt_base.specs.declared.numbers.Instance.{Instance}
use Rattle.rt_base.specs.declared.numbers.Offset.{Offset}
use Rattle.rt_base.specs.declared.numbers.Partition.{Partition}
use Rattle.rt_base.specs.declared.numbers.Sequence.{Sequence}
use Rattle.rt_base.specs.declared.which.Which.TheVariants.{Events}
use Rattle.rt_commit.specs.Assignment.{replicas_in, Assigned}
use Rattle.rt_commit.specs.IsJob.{IsRead}
use Rattle.rt_commit.specs.Job.{commits}
use Rattle.rt_commit.specs.declared.job.Job.{Job}
use Rattle.rt_commit.specs.declared.job.JobStage.{JobStage}
use Rattle.rt_commit.specs.declared.job.JobStage.TheVariants as stage
use Rattle.rt_controller.specs.Answers.{ask_in, commit_stage, leads_to, named_file, named_in, read_write, status_of}
use Rattle.rt_controller.specs.Controller.{has_ended, is_of, without_machine, Controlling}
use Rattle.rt_controller.specs.IsController.{machine_write}
use Rattle.rt_controller.specs.Lasting.{HaveOneMachine, IsControllerOver, IsMachineOver}
use Rattle.rt_controller.specs.Right.{IsPossiblyHandled, WorksOver}
use Rattle.rt_controller.specs.Steps.{Handles as HandlesIt}
use Rattle.rt_controller.specs.declared.handled.Handled.{Handled}
use Rattle.rt_controller.specs.declared.handled.Handled.TheVariants as handled
use Rattle.rt_controller.specs.declared.segment_machine.SegmentMachine.{SegmentMachine}
use Rattle.rt_controller.proofs.CallsOver.{handles_over}
use Rattle.rt_controller.proofs.KeepsRequests.{has_at}
use Rattle.rt_deep.specs.Meaning.{Told as ToldDeep}
use Rattle.rt_deep.specs.Memory.{means as deep_means}
use Rattle.rt_events.specs.declared.event.Event.TheVariants as event
use Rattle.rt_events.specs.declared.outcome.Outcome.{Outcome}
use Rattle.rt_events.specs.declared.refusal.Refusal.TheVariants.{Limit}
use Rattle.rt_lists.specs.Members.{Has}
use Rattle.rt_lists.proofs.Lists.{contains_found, All-found}
use Rattle.rt_lists.proofs.Members.{Has-place}
use Rattle.rt_macros.specs.Doing.{after, Gives, Happens, Reached}
use Rattle.rt_macros.specs.Exchanging.{AfterDelivery, AfterStep, EndsJob, Handles, MakesStep}
use Rattle.rt_macros.specs.Outcomes.{delivered_in, ended_in, ending, replied}
use Rattle.rt_macros.specs.declared.outcomes.Delivered.{Delivered}
use Rattle.rt_macros.specs.declared.outcomes.Delivered.TheVariants as delivered
use Rattle.rt_macros.specs.declared.outcomes.Replied.{Replied}
use Rattle.rt_model.specs.Completion.{asked_offset, goes, is_late, react, Completion}
use Rattle.rt_model.specs.History.{value_of}
use Rattle.rt_model.specs.Messages.{asked_of}
use Rattle.rt_model.specs.Metadata.{sequences_of, IsInProgress}
use Rattle.rt_model.specs.declared.asked.Asked.{Asked}
use Rattle.rt_model.specs.declared.completion.Ask.{Ask}
use Rattle.rt_model.specs.declared.completion.Ask.TheVariants as ask
use Rattle.rt_model.specs.declared.completion.Reaction.{Reaction}
use Rattle.rt_model.specs.declared.completion.Reaction.TheVariants as reaction
use Rattle.rt_model.specs.declared.completion.Said.{Said}
use Rattle.rt_model.specs.declared.completion.Said.TheVariants as said
use Rattle.rt_model.specs.declared.machine_state.MachineState.{MachineState}
use Rattle.rt_model.specs.declared.machine_state.MachineState.TheVariants as machine
use Rattle.rt_model.specs.declared.node.Key.TheVariants as key
use Rattle.rt_model.specs.declared.node.Node.{Node}
use Rattle.rt_model.specs.declared.node.Node.TheVariants as node
use Rattle.rt_model.specs.declared.node.Seen.{Seen}
use Rattle.rt_model.specs.declared.reply.Reply.{Reply}
use Rattle.rt_model.specs.declared.reply.ReplyStatus.{ReplyStatus}
use Rattle.rt_model.specs.declared.reply.ReplyStatus.TheVariants as status
use Rattle.rt_model.specs.declared.request.Reason.{Reason}
use Rattle.rt_model.specs.declared.request.Reason.TheVariants.{RowLimit}
use Rattle.rt_model.specs.declared.request.Request.{Request}
use Rattle.rt_model.specs.declared.request.RequestKind.{RequestKind}
use Rattle.rt_model.specs.declared.request.RequestKind.TheVariants as kind
use Rattle.rt_model.specs.declared.seg_meta.SeenMeta.{SeenMeta}
use Rattle.rt_model.specs.declared.seg_meta.SegMeta.{SegMeta}
use Rattle.rt_model.specs.declared.sent.Sent.{Sent}
use Rattle.rt_model.specs.declared.status.Status.TheVariants.{InProgress}
use Rattle.rt_model.proofs.Histories.{same_partition, same_sequence, Has-writes_of}
use Rattle.rt_model.proofs.Lawful.{nodes_are_in_order, versions_count_writes}
use Rattle.rt_nodes.specs.declared.controller_node.ControllerNode.{ControllerNode}
use Rattle.rt_past.specs.Requests.{IsRequest}
use Rattle.rt_safety.proofs.JobsOn.{handed_same, own_slot}
use Rattle.rt_state.specs.Applying.{Next}
use Rattle.rt_state.specs.Finding.{request_at}
use Rattle.rt_state.specs.IsSafe.{past_of}
use Rattle.rt_state.specs.IsSafeWorld.{IsSafeWorld}
use Rattle.rt_state.specs.Messages.{after_step, handed, DeliversAt}
use Rattle.rt_state.specs.declared.state.State.{State}
use Rattle.rt_state.proofs.Bounds.{few_sequences, few_writes}
use Rattle.rt_store.specs.Contents.{starting_of}
use Rattle.rt_store.specs.Meaning.{Told}
use Rattle.rt_store.specs.Memory.{means}
use Rattle.rt_store.proofs.Listing.{value_has}
use Rattle.rt_unrefused.proofs.Answered.{delivery_leaves, job_leaves}
use Rattle.rt_unrefused.proofs.JobSteps.{is_open_job, over, own_step, OwnStep, SendsIts}
use Rattle.rt_world.specs.Reading.{events_left_in}
use Rattle.rt_world.specs.Step.{Steps}
use Rattle.rt_world.proofs.KeepsMessages.{request_sent}
use Rattle.rt_heal.proofs.Quiet.{then_parts, told_not, told_same, IsThen}
use Rattle.rt_calm.specs.Again.{machine_of, machines_in}
use Rattle.rt_calm.specs.Waiting.{WaitsFor}
use Rattle.rt_calm.proofs.Awaited.{unless_ended}
use Rattle.rt_calm.proofs.Controlled.{asking_on, delivery_fetches, delivery_leads, delivery_log, delivery_moment, delivery_plan, delivery_writes, job_fetches, job_keeps_leads, job_log, job_moment, job_plan, IsAsking}
use Rattle.rt_calm.proofs.Delivered.{IsBeyond}
use Rattle.rt_calm.proofs.Ending.{does_commit, no_ending, step_behind, step_machines, Behind, FailedOrSuccess, IsOpenFor}
use Rattle.rt_calm.proofs.Exchanged.{delivery_so, DeliversSo}
use Rattle.rt_calm.proofs.Fitting.{Starts}
use Rattle.rt_calm.proofs.Keeping.{keeps_still, IsGoing}
use Rattle.rt_calm.proofs.Leading.{leads_in, machines_after}
use Rattle.rt_calm.proofs.Machines.{then_turned, without_turned, IsTurned}
use Rattle.rt_calm.proofs.Moving.{machines_at, request_beyond}
use Rattle.rt_recovery.proofs.Committing.{job_commits, HasCommitted}
use Rattle.rt_recovery.proofs.Handling.{machine_reacts, report_begins, upload_puts, FinishedSo, GivesBy, HasBegun, HasReacted, IsFinishedTold, UploadedSo}
use Rattle.rt_recovery.proofs.Reacting.{chosen, chosen_early, chosen_offset, chosen_winner, first_commits, level_holds, made, own_ends, own_starts}

-- ---- what is given, as it is told

abbrev delivered_by : ℕ → Handled → Delivered
delivered_by n (handled.Reply y) = delivered.Replied (replied n y)
delivered_by n (handled.Job j) = delivered.Started j

abbrev GivesTo : Result JobStage ReplyStatus → Delivered → Type 0
GivesTo (Err s) (delivered.Replied x) = x.status ≡ s
GivesTo (Ok s) (delivered.Started j) = Unit {0}
GivesTo (Err s) (delivered.Started j) = ⊥
GivesTo (Ok s) (delivered.Replied x) = ⊥
GivesTo (Err s) delivered.Neither = ⊥
GivesTo (Ok s) delivered.Neither = ⊥

gives_to : (n : ℕ) (led : Result JobStage ReplyStatus) (given : Handled) → GivesBy led given → GivesTo led (delivered_by n given)
gives_to n (Err s) (handled.Reply y) so = so
gives_to n (Ok s) (handled.Job j) so = tt
gives_to n (Err s) (handled.Job j) so = absurd so
gives_to n (Ok s) (handled.Reply y) so = absurd so

finished_to : (n : ℕ) (given : Handled) → FinishedSo given → (s : ReplyStatus) × IsFinishedTold s × GivesTo (Err s) (delivered_by n given)
finished_to n (handled.Reply y) so = (y.status, so, refl)
finished_to n (handled.Job j) so = absurd so

uploaded_to : (n : ℕ) (given : Handled) → UploadedSo given → (path : List ℕ) × GivesTo (Err (status.UploadSuccess path)) (delivered_by n given)
uploaded_to n (handled.Reply y) so = (so.0, so.1)
uploaded_to n (handled.Job j) so = absurd so

-- ---- machines

found_machine : (ms : List SegmentMachine) (p : Partition) (q : Sequence) (m : Completion) → machine_of ms p q ≡ Some m
    → (g : SegmentMachine) × Has ms g × (is_of p q g ≡ true) × (g.machine ≡ m)
found_machine [] p q m e = absurd (none-some m e)
found_machine (x ∷ ms) p q m e = by_test (is_of p q x) refl e (found_machine ms p q m)
  where
    by_test : (b : Bool) → is_of p q x ≡ b → cond b (Some x.machine) (machine_of ms p q) ≡ Some m
        → (machine_of ms p q ≡ Some m → (g : SegmentMachine) × Has ms g × (is_of p q g ≡ true) × (g.machine ≡ m))
        → (g : SegmentMachine) × Has (x ∷ ms) g × (is_of p q g ≡ true) × (g.machine ≡ m)
    by_test true is f further = (x, inl refl, is, same_Some x.machine m f)
    by_test false is f further = let k = further f in (k.0, inr k.1, k.2, k.3)

waiting_goes : (s : MachineState) → WaitsFor s → has_ended s ≡ false
waiting_goes machine.CommitterNotified waits = refl
waiting_goes machine.CommitterUploading waits = refl
waiting_goes machine.Committing waits = refl
waiting_goes machine.PartialConsuming waits = absurd waits
waiting_goes machine.Holding waits = absurd waits
waiting_goes machine.CommitterDecided waits = absurd waits
waiting_goes machine.Committed waits = absurd waits
waiting_goes machine.Aborted waits = absurd waits

-- ---- a request's delivery and its answer

-- a request of a replica has a number below the last
pub few_numbers : (w : State) (q : Request) → IsSafeWorld w → IsRequest w.setup (past_of w) q → q.sequence.0 < LAST_NUMBER
few_numbers w q safe right = by_order (cases_lt q.sequence.0 (sequences_of w.store.writes q.partition))
  where
    by_order : (q.sequence.0 < sequences_of w.store.writes q.partition) ⊎ (sequences_of w.store.writes q.partition ≤ q.sequence.0) → q.sequence.0 < LAST_NUMBER
    by_order (inl lt) =
        omega (arith, lt, few_sequences w q.partition safe right.partition)
    by_order (inr le) =
        let begun = right.begun in
        let order = nodes_are_in_order (starting_of w.setup) w.store.writes safe.safe.past.lawful q.partition right.partition in
        let life = Has-writes_of w.store.writes begun.0 (key.Meta q.partition (record { 0 = q.sequence.0 })) begun.1 begun.2 in
        absurd (subst (λ (ws : List Seen). Has ws begun.0) (order.ahead q.sequence.0 le) life)

-- a request was delivered to a controller that leads, while no fault is planned, and answered so
pub record IsHandled (u : State) (c : ControllerId) (q : Request) (b : Reached) (r : Replied) : Type 0 where
  pub message : ℕ
  pub going : IsGoing u
  pub asks : request_at u message ≡ Some q
  pub leads : leads_in (slice_get u.controllers c.0) ≡ true
  pub unplanned : u.store.faults.plan ≡ []
  pub fetches : u.deep.faults.plan ≡ []
  pub came : Handles c message u b (Ok r)

-- ---- what comes of it

module _ (u : State) (c : ControllerId) (q : Request) (b : Reached) (r : Replied) where
  abbrev pub Turns : State → Option Completion → Option Completion → Type 0
  Turns z from left = IsTurned (machines_at u c) (machines_at z c) q.partition q.sequence from left

  -- it is answered so, and nothing was written; the machine was this before, and is that
  pub record IsAnsweredBy (from left : Option Completion) (s : ReplyStatus) : Type 0 where
    pub status : r.status ≡ s
    pub turned : Turns b.world from left
    pub moment : b.world.moment ≡ u.moment
    pub written : b.world.store.writes ≡ u.store.writes

  -- a machine is made that waits for the sender, which is told to commit
  pub record IsPicked : Type 0 where
    pub made : Completion
    pub answered : IsAnsweredBy None (Some made) (status.Commit q.offset)
    pub state : made.state ≡ machine.CommitterNotified
    pub winner : made.winner ≡ q.number.instance
    pub offset : made.offset ≡ q.offset
    pub early : is_late made u.moment ≡ false
    pub write : Seen
    pub there : value_of u.store.writes (key.Meta q.partition q.sequence) ≡ Some write
    pub meta : SegMeta
    pub is : write.node ≡ node.Meta meta
    pub opened : meta.status ≡ InProgress

  -- the segment isn't in progress
  abbrev pub IsOver : Type 0
  IsOver = (s : ReplyStatus) × IsFinishedTold s × IsAnsweredBy None None s

  -- a commit's job has ended, and its machine is gone
  pub record IsEndedBy (from : Option Completion) (z : State) : Type 0 where
    pub status : FailedOrSuccess r.status
    pub turned : Turns z from None
    pub moment : z.moment ≡ u.moment
    pub committed : HasCommitted u.store.writes z.store.writes q.partition q.sequence

  -- it is under way
  record IsUnderWay (from : Option Completion) (z : State) (j : ℕ) : Type 0 where
    asking : IsAsking u z
    job : IsOpenFor z c j q
    left : Option Completion
    turned : Turns z from left
    moment : z.moment ≡ u.moment
    committed : HasCommitted u.store.writes z.store.writes q.partition q.sequence

-- ---- how it comes

module _ (u : State) (c : ControllerId) (q : Request) (b : Reached) (r : Replied) (k : IsHandled u c q b r) where
  abbrev Turned : State → Option Completion → Option Completion → Type 0
  Turned z from left = Turns u c q b r z from left

  abbrev Answered : Option Completion → Option Completion → ReplyStatus → Type 0
  Answered from left s = IsAnsweredBy u c q b r from left s

  abbrev Ended : Option Completion → State → Type 0
  Ended from z = IsEndedBy u c q b r from z

  abbrev UnderWay : Option Completion → State → ℕ → Type 0
  UnderWay from z j = IsUnderWay u c q b r from z j

  abbrev h : List Seen
  h = u.store.writes

  abbrev i : Instance
  i = q.number.instance

  safe : IsSafeWorld u
  safe = k.going.safe

  right : IsRequest u.setup (past_of u) q
  right = safe.safe.past.requests q (request_sent u k.message q k.asks)

  abbrev t : IsThen (Happens (event.Deliver k.message c)) (λ outcome. AfterDelivery c (delivered_in outcome)) u b r
  t = then_parts (Happens (event.Deliver k.message c)) (λ outcome. AfterDelivery c (delivered_in outcome)) u b r k.came

  abbrev d : State
  d = t.between.world

  steps : Steps u (event.Deliver k.message c) d (Ok t.told)
  steps = t.came.by.0

  -- ---- the delivery

  record HasDelivered : Type 0 where
    node : ControllerNode
    at : slice_get u.controllers c.0 ≡ Some node
    new : Controlling
    given : Handled
    store : Told
    deep : ToldDeep
    handles : HandlesIt {E = Unit {0}} (means u.store) (means store) (deep_means u.deep) (deep_means deep) node.controller q u.moment new (Ok given)
    told : delivered_in t.told ≡ delivered_by (length u.sent) given
    machines : machines_at d c ≡ new.machines

  did : HasDelivered
  did =
      by_node (slice_get u.controllers c.0) refl
      (subst (λ (x : Option Request). DeliversAt x (slice_get u.controllers c.0) u c steps.0 (d, t.told)) k.asks steps.2)
    where
      told_by : (z : State) (given : Handled) → z.sent ≡ u.sent → (d, t.told) ≡ handed z steps.0 given
          → delivered_in t.told ≡ delivered_by (length u.sent) given
      told_by z (handled.Reply y) same is =
          ap (λ (x : Next). delivered_in x.1) is ∙ ap (λ (ms : List Sent). delivered.Replied (replied (length ms) y)) same
      told_by z (handled.Job j) same is = ap (λ (x : Next). delivered_in x.1) is

      by_node : (n : Option ControllerNode) → slice_get u.controllers c.0 ≡ n → DeliversAt (Some q) n u c steps.0 (d, t.told) → HasDelivered
      by_node None at g = absurd g
      by_node (Some n) at (new, given, store, deep, handles, is) =
          record {
            node = n;
            at = at;
            new = new;
            given = given;
            store = store;
            deep = deep;
            handles = handles;
            told = told_by (after_step u c n new store deep) given refl is;
            machines =
                ap (λ (x : Next). machines_in (slice_get x.0.controllers c.0)) is
                ∙ ap (λ (cs : List ControllerNode). machines_in (slice_get cs c.0)) (handed_same (after_step u c n new store deep) steps.0 given)
                ∙ ap machines_in (own_slot u.controllers c.0 n (record n { controller = new }) at);
          }

  over_before : IsControllerOver u.setup (past_of u) did.node.controller
  over_before = (safe.safe.controllers c.0 did.node did.at).over

  it_leads : did.node.controller.leads ≡ true
  it_leads = sym (ap leads_in did.at) ∙ k.leads

  possible : IsPossiblyHandled did.given
  possible =
      (handles_over u.setup (past_of u) u.store did.store u.deep did.deep did.node.controller did.new q u.moment did.given safe.safe.setup safe.safe.past (few_writes u safe) refl refl
      (request_sent u k.message q k.asks) over_before did.handles).possible

  before : machines_at u c ≡ did.node.controller.machines
  before = ap machines_in did.at

  turned_so : (m n : Option Completion) → IsTurned did.node.controller.machines did.new.machines q.partition q.sequence m n
      → Turned d m n
  turned_so m n is =
      subst (λ (ms : List SegmentMachine). IsTurned ms (machines_at d c) q.partition q.sequence m n) (sym before)
      (subst (λ (ns : List SegmentMachine). IsTurned did.node.controller.machines ns q.partition q.sequence m n) (sym did.machines) is)

  told_so : (led : Result JobStage ReplyStatus) → GivesTo led (delivered_by (length u.sent) did.given) → GivesTo led (delivered_in t.told)
  told_so led so = subst (GivesTo led) (sym did.told) so

  -- ---- past the segment's start

  read_beyond : (w : Seen) (what : Ask) → IsRead h q.partition q.sequence w → ask_in q.offset q.kind ≡ Some what → IsBeyond w.node (asked_offset what)
  read_beyond = request_beyond u.setup (past_of u) q safe.safe.past right

  machine_beyond : (g : Completion) (what : Ask) → machine_of (machines_at u c) q.partition q.sequence ≡ Some g → ask_in q.offset q.kind ≡ Some what
      → IsBeyond (node.Meta g.seen.meta) (asked_offset what)
  machine_beyond g what has asked =
      let x = found_machine did.node.controller.machines q.partition q.sequence g (ap (λ (ms : List SegmentMachine). machine_of ms q.partition q.sequence) (sym before) ∙ has) in
      let parts = and_parts (x.0.partition.0 == q.partition.0) (x.0.sequence.0 == q.sequence.0) x.2 in
      let of_p = same_partition x.0.partition q.partition (eqb-true x.0.partition.0 q.partition.0 parts.0) in
      let of_q = same_sequence x.0.sequence q.sequence (eqb-true x.0.sequence.0 q.sequence.0 parts.1) in
      let place = Has-place did.node.controller.machines x.0 x.1 in
      let reads : IsRead h x.0.partition x.0.sequence (machine_write x.0) =
      (All-found (IsMachineOver u.setup (past_of u)) did.node.controller.machines place.0 x.0 over_before.machines place.1).machine.read in
      let own =
      subst (λ (s : Sequence). IsRead h q.partition s (record { key = key.Meta q.partition s; version = x.0.machine.seen.version; node = node.Meta x.0.machine.seen.meta })) of_q
      (subst (λ (p : Partition). IsRead h p x.0.sequence (record { key = key.Meta p x.0.sequence; version = x.0.machine.seen.version; node = node.Meta x.0.machine.seen.meta })) of_p reads) in
      subst (λ (z : Completion). IsBeyond (node.Meta z.seen.meta) (asked_offset what)) x.3
      (read_beyond (record { key = key.Meta q.partition q.sequence; version = x.0.machine.seen.version; node = node.Meta x.0.machine.seen.meta }) what own asked)

  -- ---- a reaction

  -- a machine has reacted
  record HasReactedTo (what : Ask) (from : Option Completion) (g : Completion) : Type 0 where
    turned : Turned d from (unless_ended (react g i what u.moment).1)
    gives : GivesTo (leads_to (named_file q g.seen) (react g i what u.moment).0) (delivered_in t.told)

  reacted_to : (what : Ask) (from : Option Completion) (g : Completion) → HasReacted did.node.controller.machines did.new.machines q u.moment what from g did.given
      → HasReactedTo what from g
  reacted_to what from g x =
      let led = leads_to (named_file q g.seen) (react g i what u.moment).0 in
      record {
        turned = turned_so from (unless_ended (react g i what u.moment).1) x.turned;
        gives = told_so led (gives_to (length u.sent) led did.given x.gives);
      }

  its_machine_reacts : (g : Completion) (what : Ask) → machine_of (machines_at u c) q.partition q.sequence ≡ Some g → ask_in q.offset q.kind ≡ Some what
      → HasReactedTo what (Some g) g
  its_machine_reacts g what has asked =
      reacted_to what (Some g) g
      (machine_reacts u.store u.deep did.node.controller q u.moment it_leads (few_numbers u q safe right) over_before.one did.store did.deep did.new did.given did.handles possible g
      (ap (λ (ms : List SegmentMachine). machine_of ms q.partition q.sequence) (sym before) ∙ has) what asked)

  -- ---- an answer at once

  answered_at_once : (from left : Option Completion) (s : ReplyStatus) → Turned d from left
      → GivesTo (Err s) (delivered_in t.told) → Answered from left s
  answered_at_once from left s turned gives = by_delivered (delivered_in t.told) gives t.further
    where
      by_delivered : (x : Delivered) → GivesTo (Err s) x → AfterDelivery c x d t.last (Ok r) → Answered from left s
      by_delivered (delivered.Replied y) so further =
          let end : b.world ≡ d = ap (λ (z : Reached). z.world) t.whole ∙ ap (λ (z : Reached). z.world) further.0 in
          record {
            status = ap (λ (z : Replied). z.status) (told_same r y further.1) ∙ so;
            turned = subst (λ (z : State). Turned z from left) (sym end) turned;
            moment = ap (λ (z : State). z.moment) end ∙ delivery_moment u d k.message c t.told steps;
            written = ap (λ (z : State). z.store.writes) end ∙ delivery_writes u d k.message c t.told steps;
          }
      by_delivered (delivered.Started j) so further = absurd so
      by_delivered delivered.Neither so further = absurd so

  -- so by a reaction of a machine that goes on
  answered_reaction : (what : Ask) (from : Option Completion) (g n : Completion) (told : Said) → HasReactedTo what from g
      → react g i what u.moment ≡ (reaction.Answer told, n) → has_ended n.state ≡ false → Answered from (Some n) (status_of told)
  answered_reaction what from g n told x is goes_on =
      answered_at_once from (Some n) (status_of told)
      (subst (Turned d from)
      (ap (λ (y : Reaction × Completion). unless_ended y.1) is ∙ ap (λ (b : Bool). cond b None (Some n)) goes_on) x.turned)
      (subst (λ (y : Reaction × Completion). GivesTo (leads_to (named_file q g.seen) y.0) (delivered_in t.told)) is x.gives)

  pub is_held : (g : Completion) (reason : Reason) → machine_of (machines_at u c) q.partition q.sequence ≡ Some g → q.kind ≡ kind.Consumed reason
      → WaitsFor g.state → is_late g u.moment ≡ false → (i.0 ≡ g.winner.0 → ⊥) → g.offset.0 ≡ q.offset.0 → Answered (Some g) (Some g) status.Hold
  is_held g reason has is waits early apart level =
      let asked : ask_in q.offset q.kind ≡ Some (ask.Consumed q.offset reason) = ap (ask_in q.offset) is in
      answered_reaction (ask.Consumed q.offset reason) (Some g) g g said.Hold (its_machine_reacts g (ask.Consumed q.offset reason) has asked)
      (level_holds g i q.offset u.moment early (machine_beyond g (ask.Consumed q.offset reason) has asked) reason (ne_eqb i.0 g.winner.0 apart) level waits)
      (waiting_goes g.state waits)

  pub is_continued : (g : Completion) → machine_of (machines_at u c) q.partition q.sequence ≡ Some g → q.kind ≡ kind.CommitStart
      → g.state ≡ machine.CommitterNotified → is_late g u.moment ≡ false → g.winner.0 ≡ i.0 → g.offset.0 ≡ q.offset.0
      → Answered (Some g) (Some (goes g machine.CommitterUploading)) status.CommitContinue
  is_continued g has is notified early own level =
      let asked : ask_in q.offset q.kind ≡ Some (ask.CommitStart q.offset) = ap (ask_in q.offset) is in
      answered_reaction (ask.CommitStart q.offset) (Some g) g (goes g machine.CommitterUploading) said.CommitContinue
      (its_machine_reacts g (ask.CommitStart q.offset) has asked)
      (own_starts g i q.offset u.moment early (machine_beyond g (ask.CommitStart q.offset) has asked) own level notified) refl

  same_turned : (o : Option Completion) → did.new.machines ≡ did.node.controller.machines → machine_of (machines_at u c) q.partition q.sequence ≡ o
      → Turned d o o
  same_turned o same is =
      let now : machines_at d c ≡ machines_at u c = did.machines ∙ same ∙ sym before in
      record {
        before = is;
        behind = ap (λ (ms : List SegmentMachine). machine_of ms q.partition q.sequence) now ∙ is;
        others = λ p s apart. ap (λ (ms : List SegmentMachine). machine_of ms p s) now;
      }

  pub is_uploaded : (path bytes : List ℕ) (o : Option Completion) → machine_of (machines_at u c) q.partition q.sequence ≡ o → q.kind ≡ kind.Upload path bytes
      → (shown : List ℕ) × Answered o o (status.UploadSuccess shown)
  is_uploaded path bytes o has is =
      let put = upload_puts u.store u.deep did.node.controller q u.moment it_leads (few_numbers u q safe right) over_before.one did.store did.deep did.new did.given did.handles possible k.fetches path bytes is in
      let shown = uploaded_to (length u.sent) did.given put.1 in
      (shown.0, answered_at_once o o (status.UploadSuccess shown.0) (same_turned o put.0 has) (told_so (Err (status.UploadSuccess shown.0)) shown.1))

  -- ---- the first report

  listed : Contains (replicas_in did.node.controller.assigned q.partition) i
  listed =
      let rs = replicas_of q.partition u.setup.table.replication u.setup.servers in
      let place = Has-place rs i right.assigned in
      subst (λ (is : List Instance). Contains is i) (sym (ap (λ (x : Assigned). replicas_in x q.partition) over_before.assigned)) (contains_found rs place.0 i place.1)

  begun_picks : q.kind ≡ kind.Consumed RowLimit
      → HasBegun h did.node.controller.machines did.new.machines q (replicas_in did.node.controller.assigned q.partition) u.moment (ask.Consumed q.offset RowLimit) did.given → IsPicked u c q b r
  begun_picks is x =
      let has = value_has h (key.Meta q.partition q.sequence) x.write x.there in
      let read : IsRead h q.partition q.sequence (record { key = key.Meta q.partition q.sequence; version = x.write.version; node = node.Meta x.meta }) =
      record {
        has =
            subst (λ (n : Node). Has h (record { key = key.Meta q.partition q.sequence; version = x.write.version; node = n })) x.is
            (has_at h q x.write has.0 has.1);
        of = refl;
        consuming = subst IsInProgress (sym x.opened) tt;
      } in
      let past = read_beyond (record { key = key.Meta q.partition q.sequence; version = x.write.version; node = node.Meta x.meta }) (ask.Consumed q.offset RowLimit) read (ap (ask_in q.offset) is) in
      let answered =
      answered_reaction (ask.Consumed q.offset RowLimit) None (made i q.offset rs listed (seen x) u.moment) (goes (one x) machine.CommitterNotified) (said.Commit (one x).offset)
      (reacted_to (ask.Consumed q.offset RowLimit) None (made i q.offset rs listed (seen x) u.moment) x.reacted) (first_commits i q.offset rs listed (seen x) u.moment past) refl in
      record {
        made = goes (one x) machine.CommitterNotified;
        answered =
            subst (λ (z : Offset). Answered None (Some (goes (one x) machine.CommitterNotified)) (status.Commit z))
            (chosen_offset i q.offset rs listed (seen x) u.moment) answered;
        state = refl;
        winner = chosen_winner i q.offset rs listed (seen x) u.moment;
        offset = chosen_offset i q.offset rs listed (seen x) u.moment;
        early = chosen_early i q.offset rs listed (seen x) u.moment (omega (arith, safe.few.moment));
        write = x.write;
        there = x.there;
        meta = x.meta;
        is = x.is;
        opened = x.opened;
      }
    where
      rs : List Instance
      rs = replicas_in did.node.controller.assigned q.partition

      seen : HasBegun h did.node.controller.machines did.new.machines q rs u.moment (ask.Consumed q.offset RowLimit) did.given → SeenMeta
      seen y = record { version = y.write.version; meta = y.meta }

      one : HasBegun h did.node.controller.machines did.new.machines q rs u.moment (ask.Consumed q.offset RowLimit) did.given → Completion
      one y = chosen i q.offset rs listed (seen y) u.moment

  pub is_reported : machine_of (machines_at u c) q.partition q.sequence ≡ None → q.kind ≡ kind.Consumed RowLimit → IsPicked u c q b r ⊎ IsOver u c q b r
  is_reported none is =
      by_begun (report_begins u.store u.deep did.node.controller q u.moment it_leads (few_numbers u q safe right) over_before.one did.store did.deep did.new did.given did.handles possible
      (ap (λ (ms : List SegmentMachine). machine_of ms q.partition q.sequence) (sym before) ∙ none) k.unplanned RowLimit is)
    where
      by_begun : HasBegun h did.node.controller.machines did.new.machines q (replicas_in did.node.controller.assigned q.partition) u.moment (ask.Consumed q.offset RowLimit) did.given
          ⊎ ((did.new.machines ≡ did.node.controller.machines) × FinishedSo did.given) → IsPicked u c q b r ⊎ IsOver u c q b r
      by_begun (inl x) = inl (begun_picks is x)
      by_begun (inr (same, finished)) =
          let so = finished_to (length u.sent) did.given finished in
          inr (so.0, so.1, answered_at_once None None so.0 (same_turned None same none) (told_so (Err so.0) so.2))

  -- ---- a commit's job

  module _ (path : List ℕ) (is : q.kind ≡ kind.CommitEnd path) (from : Option Completion) where
    module _ (z y : State) (j : ℕ) (o : Outcome) (way : UnderWay from z j) (works : Steps z (event.Job c j) y (Ok o)) where
      safe_then : IsSafeWorld z
      safe_then = way.asking.keeps.going.safe

      step : OwnStep z y c j o
      step = own_step z y c j o works

      abbrev its : WorksOver z.setup (past_of z) z.store step.store z.deep step.deep step.node.controller step.new j step.did
      its = over z y c j o safe_then step

      own_job : its.job ≡ way.job.job
      own_job = is_open_job z y c j o safe_then step way.job.job way.job.there

      asked : its.job.asked ≡ asked_of q
      asked = ap (λ (x : Job). x.asked) own_job ∙ way.job.asked

      commit : commits its.job.stage ≡ true
      commit =
          ap (λ (x : Job). commits x.stage) own_job
          ∙ does_commit way.job.job.stage q.offset (subst (λ (x : RequestKind). Starts q.offset x way.job.job.stage) is way.job.starts)

      abbrev Committed : List Seen → Type 0
      Committed g = HasCommitted h g q.partition q.sequence

      abbrev CommittedAt : Asked → List Seen → Type 0
      CommittedAt a g = HasCommitted h g a.partition a.sequence

      committed_then : Committed y.store.writes
      committed_then =
          subst Committed (sym (ap (λ (x : Told). x.writes) step.written))
          (subst (λ (a : Asked). CommittedAt a step.store.writes) asked
          (job_commits z.setup (past_of z) h z.store step.store z.deep step.deep step.node.controller step.new j its.job z.moment step.did refl
          (safe_then.safe.controllers c.0 step.node step.at).over (versions_count_writes (starting_of z.setup) z.store.writes safe_then.safe.past.lawful) step.works its.open_job commit
          (subst (λ (a : Asked). CommittedAt a z.store.writes) (sym asked) way.committed)))

      moment_then : y.moment ≡ u.moment
      moment_then = job_moment z y c j o works ∙ way.moment

      machines_then : machines_at y c ≡ machines_after (machines_at z c) (asked_of q) true step.did.reply
      machines_then =
          step_machines z y c j o safe_then step
          ∙ ap (λ (a : Asked). machines_after (machines_at z c) a (commits its.job.stage) step.did.reply) asked
          ∙ ap (λ (x : Bool). machines_after (machines_at z c) (asked_of q) x step.did.reply) commit

      one : HaveOneMachine (machines_at z c)
      one = subst HaveOneMachine (sym (ap machines_in step.at)) (safe_then.safe.controllers c.0 step.node step.at).over.one

      asking_then : IsAsking u y
      asking_then =
          asking_on u z y (event.Job c j) o way.asking tt works (job_leaves z y c j o works).servers (job_log z y c j o works) (job_keeps_leads z y c j o works)
          (λ none. job_plan z y c j o works none) (λ none. job_fetches z y c j o works none)

      -- behind a step it goes on, or has ended
      abbrev WayBehind : Option Replied → Type 0
      WayBehind None = UnderWay from y j
      WayBehind (Some x) = FailedOrSuccess x.status → x ≡ r → Ended from y

      step_goes : (reply : Option Reply) → step.did.reply ≡ reply → SendsIts z.sent y step.told.0 reply → Behind y c j q (ending step.told.0 reply)
          → WayBehind (ending step.told.0 reply)
      step_goes None replies sends behind =
          let at : ending step.told.0 None ≡ None = no_ending step.told.0 in
          subst WayBehind (sym at)
          (record {
            asking = asking_then;
            job = subst (Behind y c j q) at behind;
            left = way.left;
            turned =
                subst (λ (ms : List SegmentMachine). IsTurned (machines_at u c) ms q.partition q.sequence from way.left)
                (sym (machines_then ∙ ap (machines_after (machines_at z c) (asked_of q) true) replies)) way.turned;
            moment = moment_then;
            committed = committed_then;
          })
      step_goes (Some reply) replies sends behind =
          let at : ending step.told.0 (Some reply) ≡ Some (replied (length z.sent) reply) = ap (λ (x : Option ℕ). ending x (Some reply)) sends.0 in
          subst WayBehind (sym at)
          (λ status own. record {
            status = subst (λ (x : Replied). FailedOrSuccess x.status) own status;
            turned =
                subst (λ (ms : List SegmentMachine). IsTurned (machines_at u c) ms q.partition q.sequence from None)
                (sym (machines_then ∙ ap (machines_after (machines_at z c) (asked_of q) true) replies))
                (then_turned (machines_at u c) (machines_at z c) (without_machine (machines_at z c) (asked_of q) true) q.partition q.sequence from way.left
                (machine_of (machines_at z c) q.partition q.sequence) None way.turned (without_turned (machines_at z c) (asked_of q) one));
            moment = moment_then;
            committed = committed_then;
          })

      way_behind : WayBehind (ended_in o)
      way_behind =
          subst (λ (x : Outcome). WayBehind (ended_in x)) (sym step.told.1)
          (step_goes step.did.reply refl step.sends
          (subst (λ (x : Outcome). Behind y c j q (ended_in x)) step.told.1 (step_behind z y c j q o safe_then way.job works)))

    ends_job : (j left : ℕ) (z : State) (l : Reached) → UnderWay from z j → EndsJob c j left z l (Ok r) → Ended from l.world
    ends_job j zero z l way g = absurd (told_not r (Limit Events) g.1)
    ends_job j (suc left) z l way g =
        by_step x.told x.last made (step_behind z s.between.world c j q s.told way.asking.keeps.going.safe way.job s.came.by.0)
        (way_behind z s.between.world j s.told way s.came.by.0) x.further x.whole (λ last goes_on further. ends_job j left x.between.world last goes_on further)
      where
        x : IsThen (MakesStep c j) (AfterStep (EndsJob c j left)) z l r
        x = then_parts (MakesStep c j) (AfterStep (EndsJob c j left)) z l r g

        s : IsThen (Happens (event.Job c j)) (λ outcome. Gives (ended_in outcome)) z x.between x.told
        s = then_parts (Happens (event.Job c j)) (λ outcome. Gives (ended_in outcome)) z x.between x.told x.came

        made : x.told ≡ ended_in s.told
        made = told_same x.told (ended_in s.told) s.further.1

        at : x.between.world ≡ s.between.world
        at = ap (λ (y : Reached). y.world) s.whole ∙ ap (λ (y : Reached). y.world) s.further.0

        Goes : Option Replied → Type 0
        Goes o = WayBehind z s.between.world j s.told way s.came.by.0 o

        by_step : (o : Option Replied) (last : Reached) → o ≡ ended_in s.told → Behind s.between.world c j q (ended_in s.told) → Goes (ended_in s.told)
            → AfterStep (EndsJob c j left) o x.between.world last (Ok r) → l ≡ after x.between.turns last
            → ((last : Reached) → UnderWay from x.between.world j → EndsJob c j left x.between.world last (Ok r) → Ended from last.world)
            → Ended from l.world
        by_step None last same behind so further whole more =
            subst (Ended from) (sym (ap (λ (y : Reached). y.world) whole))
            (more last (subst (λ (y : State). UnderWay from y j) (sym at) (subst Goes (sym same) so)) further)
        by_step (Some y) last same behind so further whole more =
            subst (Ended from)
            (sym (ap (λ (n : Reached). n.world) whole ∙ ap (λ (n : Reached). n.world) further.0 ∙ at))
            ((subst Goes (sym same) so) (subst (Behind s.between.world c j q) (sym same) behind).2 (sym (told_same r y further.1)))

    -- ---- from its beginning on

    delivered_asking : IsAsking u d
    delivered_asking =
        asking_on u u d (event.Deliver k.message c) t.told (record { keeps = keeps_still u k.going; servers = refl }) tt steps (delivery_leaves u d k.message c t.told steps).servers
        (delivery_log u d k.message c t.told steps) (delivery_leads u d k.message c t.told steps) (λ none. delivery_plan u d k.message c t.told steps none)
        (λ none. delivery_fetches u d k.message c t.told steps none)

    started_ends : (s : JobStage) (left : Option Completion) → Turned d from left
        → GivesTo (Ok s) (delivered_in t.told) → Ended from b.world
    started_ends s left turned gives =
        by_delivered (delivered_in t.told) (delivery_so u d k.message c q t.told safe k.asks steps) gives t.further
      where
        by_delivered : (x : Delivered) → DeliversSo d c q x → GivesTo (Ok s) x → AfterDelivery c x d t.last (Ok r) → Ended from b.world
        by_delivered (delivered.Started j) so g further =
            subst (Ended from) (sym (ap (λ (z : Reached). z.world) t.whole))
            (ends_job j (events_left_in d) d t.last
            (record {
              asking = delivered_asking;
              job = so.0;
              left = left;
              turned = turned;
              moment = delivery_moment u d k.message c t.told steps;
              committed = inl (delivery_writes u d k.message c t.told steps);
            }) further)
        by_delivered (delivered.Replied x) so g further = absurd g
        by_delivered delivered.Neither so g further = absurd g

  pub is_ended : (g : Completion) (path : List ℕ) → machine_of (machines_at u c) q.partition q.sequence ≡ Some g → q.kind ≡ kind.CommitEnd path
      → g.state ≡ machine.CommitterUploading → is_late g u.moment ≡ false → g.winner.0 ≡ i.0 → g.offset.0 ≡ q.offset.0 → Ended (Some g) b.world
  is_ended g path has is uploading early own level =
      let asked : ask_in q.offset q.kind ≡ Some (ask.CommitEnd q.offset) = ap (ask_in q.offset) is in
      let x = its_machine_reacts g (ask.CommitEnd q.offset) has asked in
      let reacts = own_ends g i q.offset u.moment early (machine_beyond g (ask.CommitEnd q.offset) has asked) own level uploading in
      let gives = subst (λ (y : Reaction × Completion). GivesTo (leads_to (named_file q g.seen) y.0) (delivered_in t.told)) reacts x.gives in
      started_ends path is (Some g) (stage.Check (read_write q g.seen) g.offset path) (unless_ended (react g i (ask.CommitEnd q.offset) u.moment).1) x.turned
      (subst (λ (y : RequestKind). GivesTo (commit_stage g.offset (named_in q g.seen y)) (delivered_in t.told)) is gives)
