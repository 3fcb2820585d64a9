-- What an exchange makes of the machine of its segment, from the delivery of the request on: at once, or by a job.
use Rattle.std.proofs.Common.{◌≡◌, ◌⊎◌, inl, inr, ℕ, ◌<◌, ◌==◌, ◌||◌, not, Bool, true, false, List, [], Option, Some, None, Ok, refl, sym, ◌∙◌, ap, subst, arith, slice_get}
use Rattle.std.proofs.lemmas.Bool.{eqb-true, false_from_ne_true, false≢true}
use Rattle.std.proofs.lemmas.Option.{none-some, same_Some}
use Rattle.rt_base.specs.Faults.{fault_of, met_by, met_fault, Planned}
use Rattle.rt_base.specs.declared.numbers.ControllerId.{ControllerId}
use Rattle.rt_base.specs.declared.numbers.Offset.{Offset}
use Rattle.rt_base.specs.declared.numbers.Partition.{Partition}
use Rattle.rt_base.specs.declared.numbers.Sequence.{Sequence}
use Rattle.rt_commit.specs.Calls.{calls_nothing, creates, gets, puts, reads, sets, Call}
use Rattle.rt_commit.specs.IsJob.{IsRead}
use Rattle.rt_commit.specs.Right.{FailsSo, HasChanged, MetFault, StatusSo}
use Rattle.rt_commit.specs.Told.{deep_after, store_after, ToldDeep}
use Rattle.rt_controller.specs.Answers.{ask_in}
use Rattle.rt_controller.specs.Controller.{has_ended, without_machine, Controlling}
use Rattle.rt_controller.specs.IsController.{machine_write}
use Rattle.rt_controller.specs.Lasting.{HaveOneMachine, IsControllerOver, IsMachineOver}
use Rattle.rt_controller.specs.Steps.{Handles as HandlesIt}
use Rattle.rt_controller.specs.declared.handled.Handled.{Handled}
use Rattle.rt_controller.specs.declared.handled.Handled.TheVariants as handled
use Rattle.rt_controller.specs.declared.segment_machine.SegmentMachine.{SegmentMachine}
use Rattle.rt_controller.proofs.CallsOver.{handles_over}
use Rattle.rt_deep.specs.Memory.{means as deep_means}
use Rattle.rt_events.specs.declared.event.Event.TheVariants as event
use Rattle.rt_events.specs.declared.outcome.Outcome.{Outcome}
use Rattle.rt_lists.specs.Members.{Has}
use Rattle.rt_lists.proofs.Lists.{All-found}
use Rattle.rt_lists.proofs.Members.{Has-place}
use Rattle.rt_macros.specs.Outcomes.{delivered_in}
use Rattle.rt_macros.specs.declared.outcomes.Delivered.{Delivered}
use Rattle.rt_macros.specs.declared.outcomes.Delivered.TheVariants as delivered
use Rattle.rt_model.specs.Chain.{start_by}
use Rattle.rt_model.specs.Completion.{asked_offset, Completion}
use Rattle.rt_model.specs.History.{value_of}
use Rattle.rt_model.specs.declared.asked.Asked.{Asked}
use Rattle.rt_model.specs.declared.completion.Ask.{Ask}
use Rattle.rt_model.specs.declared.completion.Ask.TheVariants as ask
use Rattle.rt_model.specs.declared.job_step.StepName.{StepName}
use Rattle.rt_model.specs.declared.node.Key.TheVariants as key
use Rattle.rt_model.specs.declared.node.Seen.{Seen}
use Rattle.rt_model.specs.declared.reply.FailCause.{FailCause}
use Rattle.rt_model.specs.declared.reply.FailCause.TheVariants as cause
use Rattle.rt_model.specs.declared.reply.ReplyStatus.{ReplyStatus}
use Rattle.rt_model.specs.declared.reply.ReplyStatus.TheVariants as status
use Rattle.rt_model.specs.declared.request.Request.{Request}
use Rattle.rt_model.specs.declared.request.RequestKind.{RequestKind}
use Rattle.rt_model.specs.declared.request.RequestKind.TheVariants as kind
use Rattle.rt_model.specs.declared.setup.Setup.{Setup}
use Rattle.rt_model.proofs.Lawful.{has_chains}
use Rattle.rt_nodes.specs.declared.controller_node.ControllerNode.{ControllerNode}
use Rattle.rt_past.specs.IsPast.{IsPast}
use Rattle.rt_past.specs.Past.{Past}
use Rattle.rt_past.specs.Requests.{IsKind, IsRequest}
use Rattle.rt_past.specs.Segments.{IsBegun}
use Rattle.rt_safety.proofs.JobsOn.{handed_same, own_slot}
use Rattle.rt_state.specs.Applying.{Next}
use Rattle.rt_state.specs.Finding.{request_at}
use Rattle.rt_state.specs.IsSafe.{past_of}
use Rattle.rt_state.specs.IsSafeWorld.{IsSafeWorld}
use Rattle.rt_state.specs.Messages.{after_step, handed, DeliversAt}
use Rattle.rt_state.specs.declared.state.State.{State}
use Rattle.rt_state.proofs.Bounds.{few_writes}
use Rattle.rt_store.specs.Contents.{starting_of}
use Rattle.rt_store.specs.Meaning.{Told}
use Rattle.rt_store.specs.Memory.{means}
use Rattle.rt_stream.specs.Log.{Log}
use Rattle.rt_world.specs.Step.{Steps}
use Rattle.rt_world.proofs.KeepsMessages.{request_sent}
use Rattle.rt_calm.specs.Again.{is_version, machine_of, machines_in, spent_again, steps_if}
use Rattle.rt_calm.proofs.Awaited.{waits_for_one, WaitsOn}
use Rattle.rt_calm.proofs.Delivered.{handled_so, HandledSo, HasStarted, IsBeyond, IsMoved, IsOwn, IsReadable, StatusTells}
use Rattle.rt_calm.proofs.Leading.{leads_in}
use Rattle.rt_calm.proofs.Machines.{then_turned, without_turned, IsTurned}
use Rattle.rt_calm.proofs.Paying.{StatusPaid}

-- ---- a request lies beyond its segment's start

-- a segment has one start
one_start : (setup : Setup) (past : Past) (p : Partition) (q : Sequence) (start : Offset) (w : Seen) → IsPast setup past → p.0 < setup.partitions
    → IsBegun past.history p q start → IsRead past.history p q w → start_by w.node ≡ start.0
one_start setup past p q start w right within (v, has, of, opens) read =
    let chain = has_chains (starting_of setup) past.history right.lawful p within in
    let same : v ≡ w =
    chain.once q.0 v w (record { has = has; is_of = of; starts = opens.0 }) (record { has = read.has; is_of = read.of; starts = read.consuming }) in
    ap (λ (z : Seen). start_by z.node) (sym same) ∙ opens.1

pub request_beyond : (setup : Setup) (past : Past) (r : Request) → IsPast setup past → IsRequest setup past r → (w : Seen) (what : Ask)
    → IsRead past.history r.partition r.sequence w → ask_in r.offset r.kind ≡ Some what → IsBeyond w.node (asked_offset what)
request_beyond setup past r right k w what read = by_kind r.kind k.kind
  where
    start : start_by w.node ≡ k.start.0
    start = one_start setup past r.partition r.sequence k.start w right k.partition k.begun read

    past_it : k.start.0 < r.offset.0 → start_by w.node < r.offset.0
    past_it lt = omega (arith, lt, start)

    asked_so : (a : Ask) → Some a ≡ Some what → IsBeyond w.node (asked_offset a) → IsBeyond w.node (asked_offset what)
    asked_so a e beyond = subst (λ (b : Ask). IsBeyond w.node (asked_offset b)) (same_Some a what e) beyond

    by_kind : (kind : RequestKind) → IsKind setup past r k.start kind → ask_in r.offset kind ≡ Some what → IsBeyond w.node (asked_offset what)
    by_kind (kind.Consumed reason) own e = asked_so (ask.Consumed r.offset reason) e (past_it own)
    by_kind kind.Stopped own e = asked_so ask.Stopped e tt
    by_kind kind.CommitStart own e = asked_so (ask.CommitStart r.offset) e (past_it own)
    by_kind (kind.CommitEnd path) own e = asked_so (ask.CommitEnd r.offset) e (past_it own.2.file.within.0)
    by_kind (kind.Extend millis) own e = asked_so (ask.Extend millis) e tt
    by_kind (kind.Upload path bytes) own e = absurd (none-some what e)

-- ---- a controller's machines

abbrev pub machines_at : State → ControllerId → List SegmentMachine
machines_at w c = machines_in (slice_get w.controllers c.0)

-- HOLD is answered, or NOT_LEADER by one that doesn't lead; or the segment's machine has moved so
abbrev pub MovedSo : State → State → ControllerId → Request → ReplyStatus → Type 0
MovedSo u v c q s =
    (s ≡ status.Hold) ⊎ ((s ≡ status.NotLeader) × (leads_in (slice_get u.controllers c.0) ≡ false))
    ⊎ IsMoved u.store.writes (machines_at u c) (machines_at v c) q s

-- where no fault is planned, a request is made to a segment whose node is there, and asks for no more time
pub record IsPlain (u : State) (q : Request) : Type 0 where
  pub within : q.partition.0 < u.setup.partitions
  pub readable : IsReadable u.store u.deep q.partition q.sequence
  pub unextended : (millis : ℕ) → q.kind ≡ kind.Extend millis → ⊥

-- ---- a delivery

abbrev pub DeliveryMoves : State → State → ControllerId → Request → Delivered → Type 0
DeliveryMoves u v c q (delivered.Replied r) = MovedSo u v c q r.status
DeliveryMoves u v c q (delivered.Started j) = HasStarted u.store.writes (machines_at u c) (machines_at v c) q
DeliveryMoves u v c q delivered.Neither = Unit {0}

module _ (u v : State) (m : ℕ) (c : ControllerId) (q : Request) (o : Outcome) (safe : IsSafeWorld u) (asks : request_at u m ≡ Some q)
    (steps : Steps u (event.Deliver m c) v (Ok o)) (plain : IsPlain u q) where
  module _ (n : ControllerNode) (new : Controlling) (store : Told) (deep : ToldDeep) (what : Handled) (at : slice_get u.controllers c.0 ≡ Some n)
      (h : HandlesIt {E = Unit {0}} (means u.store) (means store) (deep_means u.deep) (deep_means deep) n.controller q u.moment new (Ok what))
      (is : (v, o) ≡ handed (after_step u c n new store deep) steps.0 what) where
    over : IsControllerOver u.setup (past_of u) n.controller
    over = (safe.safe.controllers c.0 n at).over

    reads_own : (g : SegmentMachine) → Has n.controller.machines g → IsRead u.store.writes g.partition g.sequence (machine_write g)
    reads_own g has =
        let place = Has-place n.controller.machines g has in
        (All-found (IsMachineOver u.setup (past_of u)) n.controller.machines place.0 g over.machines place.1).machine.read

    handled_right : HandledSo u.store.writes n.controller.leads n.controller.machines new.machines q what
    handled_right =
        let sent = request_sent u m q asks in
        handled_so u.store u.deep n.controller q u.moment plain.unextended over.one plain.readable reads_own
        (request_beyond u.setup (past_of u) q safe.safe.past (safe.safe.past.requests q sent)) store deep new what h
        (handles_over u.setup (past_of u) u.store store u.deep deep n.controller new q u.moment what safe.safe.setup safe.safe.past (few_writes u safe) refl refl sent over h).possible

    before : machines_at u c ≡ n.controller.machines
    before = ap machines_in at

    behind : machines_at v c ≡ new.machines
    behind =
        ap (λ (x : Next). machines_in (slice_get x.0.controllers c.0)) is
        ∙ ap (λ (cs : List ControllerNode). machines_in (slice_get cs c.0)) (handed_same (after_step u c n new store deep) steps.0 what)
        ∙ ap machines_in (own_slot u.controllers c.0 n (record n { controller = new }) at)

    moved : (s : ReplyStatus)
        → (s ≡ status.Hold) ⊎ ((s ≡ status.NotLeader) × (n.controller.leads ≡ false)) ⊎ IsMoved u.store.writes n.controller.machines new.machines q s
        → MovedSo u v c q s
    moved s (inl hold) = inl hold
    moved s (inr (inl (not, apart))) = inr (inl (not, ap leads_in at ∙ apart))
    moved s (inr (inr k)) =
        inr (inr (subst (λ (ms : List SegmentMachine). IsMoved u.store.writes ms (machines_at v c) q s) (sym before)
        (subst (λ (ns : List SegmentMachine). IsMoved u.store.writes n.controller.machines ns q s) (sym behind) k)))

  delivery_by : (n : ControllerNode) (new : Controlling) (store : Told) (deep : ToldDeep) (what : Handled) → slice_get u.controllers c.0 ≡ Some n
      → HandlesIt {E = Unit {0}} (means u.store) (means store) (deep_means u.deep) (deep_means deep) n.controller q u.moment new (Ok what)
      → (v, o) ≡ handed (after_step u c n new store deep) steps.0 what → DeliveryMoves u v c q (delivered_in o)
  delivery_by n new store deep (handled.Reply y) at h is =
      subst (λ (x : Outcome). DeliveryMoves u v c q (delivered_in x)) (sym (ap (λ (x : Next). x.1) is))
      (moved n new store deep (handled.Reply y) at h is y.status (handled_right n new store deep (handled.Reply y) at h is))
  delivery_by n new store deep (handled.Job j) at h is =
      subst (λ (x : Outcome). DeliveryMoves u v c q (delivered_in x)) (sym (ap (λ (x : Next). x.1) is))
      (subst (λ (ms : List SegmentMachine). HasStarted u.store.writes ms (machines_at v c) q) (sym (before n new store deep (handled.Job j) at h is))
      (subst (λ (ns : List SegmentMachine). HasStarted u.store.writes n.controller.machines ns q) (sym (behind n new store deep (handled.Job j) at h is))
      (handled_right n new store deep (handled.Job j) at h is)))

  pub delivery_moves : DeliveryMoves u v c q (delivered_in o)
  delivery_moves =
      by_node (slice_get u.controllers c.0) refl
      (subst (λ (r : Option Request). DeliversAt r (slice_get u.controllers c.0) u c steps.0 (v, o)) asks steps.2)
    where
      by_node : (n : Option ControllerNode) → slice_get u.controllers c.0 ≡ n → DeliversAt (Some q) n u c steps.0 (v, o) → DeliveryMoves u v c q (delivered_in o)
      by_node None at h = absurd h
      by_node (Some n) at (new, what, store, deep, h, is) = delivery_by n new store deep what at h is

-- ---- a job

met_none : (f : Planned) → f.plan ≡ [] → (met_fault f).met ≡ f.met
met_none f none = ap (λ (ps : List Bool). (met_by (fault_of ps) f).met) none

store_met : (t : Told) (call : Call) → t.faults.plan ≡ [] → (store_after t call).faults.met ≡ t.faults.met
store_met t calls_nothing none = refl
store_met t (puts path bytes) none = refl
store_met t (gets path) none = refl
store_met t (reads k) none = met_none t.faults none
store_met t (sets from n) none = met_none t.faults none
store_met t (creates k n prior) none = met_none t.faults none

deep_met : (d : ToldDeep) (call : Call) → d.faults.plan ≡ [] → (deep_after d call).faults.met ≡ d.faults.met
deep_met d calls_nothing none = refl
deep_met d (puts path bytes) none = met_none d.faults none
deep_met d (gets path) none = met_none d.faults none
deep_met d (reads k) none = refl
deep_met d (sets from n) none = refl
deep_met d (creates k n prior) none = refl

pub never_met : (t u : Told) (d e : ToldDeep) (call : Call) → u ≡ store_after t call → e ≡ deep_after d call → t.faults.plan ≡ [] → d.faults.plan ≡ []
    → MetFault t u d e → ⊥
never_met t u d e call store deep planned fetches (inl rose) = omega (arith, rose, ap (λ (x : Told). x.faults.met) store, store_met t call planned)
never_met t u d e call store deep planned fetches (inr rose) = omega (arith, rose, ap (λ (x : ToldDeep). x.faults.met) deep, deep_met d call fetches)

-- a machine that has read another version than the present one is spent
other_version : (h : List Seen) (p : Partition) (q : Sequence) (m : Completion) → is_version (value_of h (key.Meta p q)) m.seen.version ≡ false
    → spent_again h p q (Some m) ≡ 6
other_version h p q m other = by_end (has_ended m.state) (ap not other)
  where
    by_end : (a : Bool) → not (is_version (value_of h (key.Meta p q)) m.seen.version) ≡ true
        → steps_if (a || not (is_version (value_of h (key.Meta p q)) m.seen.version)) ≡ 6
    by_end true e = refl
    by_end false e = ap steps_if e

module _ (setup : Setup) (log : Log) (u : State) (past : Past) (right : IsPast setup past) (q : Request) (within : q.partition.0 < setup.partitions)
    (same : past.history ≡ u.store.writes) (plain : IsPlain u q) where
  abbrev h : List Seen
  h = u.store.writes

  -- the machine's write is the one that was changed
  changed_other : (m : Completion) (write : Seen) → IsRead h q.partition q.sequence write → write.version ≡ m.seen.version → (expected found : ℕ)
      → HasChanged h q.partition q.sequence expected found → is_version (value_of h (key.Meta q.partition q.sequence)) m.seen.version ≡ false
  changed_other m write read version expected found k =
      let chain = has_chains (starting_of setup) past.history right.lawful q.partition within in
      let once = subst (λ (g : List Seen). (v w : Seen) → IsRead g q.partition q.sequence v → IsRead g q.partition q.sequence w → v ≡ w) same
      (λ v w a b. chain.once q.sequence.0 v w (record { has = a.has; is_of = a.of; starts = a.consuming }) (record { has = b.has; is_of = b.of; starts = b.consuming })) in
      let own : k.read ≡ write = once k.read write k.was_read read in
      let at : expected ≡ m.seen.version = sym k.is_expected ∙ ap (λ (w : Seen). w.version) own ∙ version in
      ap (λ (o : Option Seen). is_version o m.seen.version) k.present
      ∙ false_from_ne_true (k.there.version == m.seen.version)
      (λ e. omega (arith, eqb-true k.there.version m.seen.version e, k.is_found, k.later, at))

  fails_spent : (m : Completion) (write : Seen) (rose : Type 0) (n : StepName) (because : FailCause) → IsRead h q.partition q.sequence write
      → write.version ≡ m.seen.version → (rose → ⊥) → (commit : Bool) → StatusPaid setup log h commit h (status.Failed because)
      → FailsSo h q.partition q.sequence rose n because → spent_again h q.partition q.sequence (Some m) ≡ 6
  fails_spent m write rose n cause.NoSegment read version unmet commit paid so = absurd (none-some plain.readable.write (sym so.1 ∙ plain.readable.there))
  fails_spent m write rose n (cause.VersionChanged expected found) read version unmet commit paid so =
      other_version h q.partition q.sequence m (changed_other m write read version expected found so.1)
  fails_spent m write rose n (cause.IdealChanged versions) read version unmet commit paid so = absurd (paid refl)
  fails_spent m write rose n cause.StoreFault read version unmet commit paid so = absurd (unmet so)
  fails_spent m write rose n (cause.BadUpload wanted found) read version unmet commit paid so = absurd so
  fails_spent m write rose n (cause.WrongState state) read version unmet commit paid so = absurd so
  fails_spent m write rose n (cause.WrongOffset x o) read version unmet commit paid so = absurd so
  fails_spent m write rose n (cause.NotCommitter i) read version unmet commit paid so = absurd so
  fails_spent m write rose n cause.NotReplica read version unmet commit paid so = absurd so

  -- a stop doesn't fail
  stop_fails : (rose : Type 0) (n : StepName) (because : FailCause) → (rose → ⊥) → StatusPaid setup log h false h (status.Failed because)
      → FailsSo h q.partition q.sequence rose n because → ⊥
  stop_fails rose n cause.NoSegment unmet paid so = none-some plain.readable.write (sym so.1 ∙ plain.readable.there)
  stop_fails rose n (cause.VersionChanged expected found) unmet paid so = false≢true paid
  stop_fails rose n (cause.IdealChanged versions) unmet paid so = paid refl
  stop_fails rose n cause.StoreFault unmet paid so = unmet so
  stop_fails rose n (cause.BadUpload wanted found) unmet paid so = so
  stop_fails rose n (cause.WrongState state) unmet paid so = so
  stop_fails rose n (cause.WrongOffset x o) unmet paid so = so
  stop_fails rose n (cause.NotCommitter i) unmet paid so = so
  stop_fails rose n cause.NotReplica unmet paid so = so

  -- a commit job has ended, and its machine is gone
  commit_tells : (m : Completion) (write : Seen) (rose : Type 0) (n : StepName) (s : ReplyStatus) → IsRead h q.partition q.sequence write
      → write.version ≡ m.seen.version → (rose → ⊥) → StatusPaid setup log h true h s → StatusSo h q.partition q.sequence rose true n s
      → StatusTells h q (Some m) None s
  commit_tells m write rose n (status.Failed because) read version unmet paid so = inl (fails_spent m write rose n because read version unmet true paid so, refl)
  commit_tells m write rose n (status.CommitSuccess seen) read version unmet paid so = tt
  commit_tells m write rose n status.Processed read version unmet paid so = tt
  commit_tells m write rose n (status.Keep seen) read version unmet paid so = tt
  commit_tells m write rose n (status.UploadSuccess path) read version unmet paid so = absurd so
  commit_tells m write rose n status.Hold read version unmet paid so = tt
  commit_tells m write rose n (status.CatchUp x) read version unmet paid so = tt
  commit_tells m write rose n status.Discard read version unmet paid so = tt
  commit_tells m write rose n (status.Commit x) read version unmet paid so = absurd so
  commit_tells m write rose n status.NotLeader read version unmet paid so = absurd so
  commit_tells m write rose n status.CommitContinue read version unmet paid so = absurd so

  stop_tells : (m k : Option Completion) (rose : Type 0) (n : StepName) (s : ReplyStatus) → (rose → ⊥) → StatusPaid setup log h false h s
      → StatusSo h q.partition q.sequence rose false n s → StatusTells h q m k s
  stop_tells m k rose n (status.Failed because) unmet paid so = absurd (stop_fails rose n because unmet paid so)
  stop_tells m k rose n (status.CommitSuccess seen) unmet paid so = tt
  stop_tells m k rose n status.Processed unmet paid so = tt
  stop_tells m k rose n (status.Keep seen) unmet paid so = tt
  stop_tells m k rose n (status.UploadSuccess path) unmet paid so = absurd so
  stop_tells m k rose n status.Hold unmet paid so = tt
  stop_tells m k rose n (status.CatchUp x) unmet paid so = tt
  stop_tells m k rose n status.Discard unmet paid so = tt
  stop_tells m k rose n (status.Commit x) unmet paid so = absurd so
  stop_tells m k rose n status.NotLeader unmet paid so = absurd so
  stop_tells m k rose n status.CommitContinue unmet paid so = absurd so

  -- ---- the machines behind a job that has ended

  module _ (ms ns : List SegmentMachine) (a : Asked) (one : HaveOneMachine ns) (started : HasStarted h ms ns q) (of_p : a.partition ≡ q.partition) (of_q : a.sequence ≡ q.sequence)
      (rose : Type 0) (n : StepName) (s : ReplyStatus) (unmet : rose → ⊥) where
    without : IsTurned ns (without_machine ns a true) q.partition q.sequence (machine_of ns q.partition q.sequence) None
    without =
        subst (λ (y : Sequence). IsTurned ns (without_machine ns a true) q.partition y (machine_of ns q.partition y) None) of_q
        (subst (λ (x : Partition). IsTurned ns (without_machine ns a true) x a.sequence (machine_of ns x a.sequence) None) of_p (without_turned ns a one))

    pub commit_moves : IsOwn h q started.moved.machine → StatusPaid setup log h true h s → StatusSo h q.partition q.sequence rose true n s
        → IsMoved h ms (without_machine ns a true) q s
    commit_moves own paid so =
        record {
          moved = record {
            machine = started.moved.machine;
            left = None;
            turned =
                then_turned ms ns (without_machine ns a true) q.partition q.sequence started.moved.machine started.moved.left
                (machine_of ns q.partition q.sequence) None started.moved.turned without;
            waits =
                subst (λ (m : Option Completion). WaitsOn q.number.instance m None) (sym own.is)
                (waits_for_one own.machine q.number.instance None own.winner);
            spent = omega arith;
          };
          tells =
              subst (λ (m : Option Completion). StatusTells h q m None s) (sym own.is)
              (commit_tells own.machine own.write rose n s own.read own.version unmet paid so);
        }

    pub stop_moves : StatusPaid setup log h false h s → StatusSo h q.partition q.sequence rose false n s → IsMoved h ms ns q s
    stop_moves paid so =
        record { moved = started.moved; tells = stop_tells started.moved.machine started.moved.left rose n s unmet paid so }
