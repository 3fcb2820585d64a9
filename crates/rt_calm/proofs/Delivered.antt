-- What a request's delivery makes of the machine of its segment, and what its answer tells of that. FAILED is told to a committer for which
-- the machine doesn't wait, or by a machine that has ended.
use Rattle.std.proofs.Common.{◌≡◌, ◌⊎◌, inl, inr, ℕ, ◌<◌, ◌≤◌, ◌==◌, ◌&&◌, ◌||◌, not, nat_le, Bool, true, false, cond, List, [], Option, Some, None, Result, Ok, Err, refl, sym, ◌∙◌, ap, subst, arith, slice_get, unwrap_or, bytes_eq}
use Rattle.std.proofs.lemmas.Bool.{cond_both, eq-eqb, false≢true}
use Rattle.std.proofs.lemmas.Option.{none-some, same_Some}
use Rattle.rt_base.specs.Faults.{answer_under, fault_of}
use Rattle.rt_base.specs.declared.limits.TheConstants.{LAST_NUMBER}
use Rattle.rt_base.specs.declared.numbers.Instance.{Instance}
use Rattle.rt_base.specs.declared.numbers.Moment.{Moment}
use Rattle.rt_base.specs.declared.numbers.Offset.{Offset}
use Rattle.rt_base.specs.declared.numbers.Partition.{Partition}
use Rattle.rt_base.specs.declared.numbers.Sequence.{Sequence}
use Rattle.rt_commit.specs.Assignment.{is_replica, replicas_in}
use Rattle.rt_commit.specs.IsJob.{IsRead}
use Rattle.rt_commit.specs.Told.{answer_to, ToldDeep}
use Rattle.rt_commit.specs.declared.job.JobStage.{JobStage}
use Rattle.rt_consumer.specs.declared.stage.Stage.TheVariants.{Ending, Starting}
use Rattle.rt_controller.specs.Answers.{after_put, ask_in, follows, follows_by, leads_to, named_file, named_in, Handling}
use Rattle.rt_controller.specs.Controller.{added, has_ended, machine_place, replaced, with_machine, Controlling}
use Rattle.rt_controller.specs.IsController.{machine_write}
use Rattle.rt_controller.specs.Lasting.{HaveOneMachine}
use Rattle.rt_controller.specs.Requests.{after_read, asked_turn, at_machine, by_node, by_place, by_status, call_of, first_state, handled_at, has_machine, has_none, kind_turn, not_assigned, not_leading, past_last, turn_of, uploads, Turn as Rule}
use Rattle.rt_controller.specs.Right.{IsPossiblyHandled}
use Rattle.rt_controller.specs.Steps.{Handles}
use Rattle.rt_controller.specs.declared.handled.Handled.{Handled}
use Rattle.rt_controller.specs.declared.handled.Handled.TheVariants as handled
use Rattle.rt_controller.specs.declared.segment_machine.SegmentMachine.{SegmentMachine}
use Rattle.rt_controller.specs.declared.starting.NamedFile.{NamedFile}
use Rattle.rt_controller.proofs.KeepsRequests.{has_at, its_machine}
use Rattle.rt_controller.proofs.Reacting.{owned}
use Rattle.rt_controller.proofs.Telling.{told_request}
use Rattle.rt_controller.proofs.Turns.{told_turn, Tells}
use Rattle.rt_deep.specs.Answers.{compared_in, putting}
use Rattle.rt_deep.specs.Calls.{answer_on as deep_answer}
use Rattle.rt_deep.specs.Files.{file_of}
use Rattle.rt_deep.specs.Memory.{means as deep_means}
use Rattle.rt_deep.specs.declared.deep_put.DeepPut.{DeepPut}
use Rattle.rt_deep.specs.declared.refused.DeepRefused.{DeepRefused}
use Rattle.rt_deep.specs.declared.refused.DeepRefused.TheVariants as deep
use Rattle.rt_fsm.proofs.Table.{by_test, IsPastStart}
use Rattle.rt_lists.specs.Members.{Has}
use Rattle.rt_lists.proofs.Members.{place-Has}
use Rattle.rt_model.specs.Chain.{start_by}
use Rattle.rt_model.specs.Completion.{asked_offset, first, react, Completion}
use Rattle.rt_model.specs.Finished.{abandoned_row, committed_row}
use Rattle.rt_model.specs.History.{value_of}
use Rattle.rt_model.specs.Metadata.{IsInProgress}
use Rattle.rt_model.specs.declared.completion.Ask.{Ask}
use Rattle.rt_model.specs.declared.completion.Ask.TheVariants as ask
use Rattle.rt_model.specs.declared.completion.Reaction.{Reaction}
use Rattle.rt_model.specs.declared.completion.Reaction.TheVariants as reaction
use Rattle.rt_model.specs.declared.completion.Said.TheVariants as said
use Rattle.rt_model.specs.declared.machine_state.MachineState.{MachineState}
use Rattle.rt_model.specs.declared.machine_state.MachineState.TheVariants as machine
use Rattle.rt_model.specs.declared.node.Key.TheVariants as key
use Rattle.rt_model.specs.declared.node.Node.{Node}
use Rattle.rt_model.specs.declared.node.Node.TheVariants as node
use Rattle.rt_model.specs.declared.node.Seen.{Seen}
use Rattle.rt_model.specs.declared.reply.ReplyStatus.{ReplyStatus}
use Rattle.rt_model.specs.declared.reply.ReplyStatus.TheVariants as status
use Rattle.rt_model.specs.declared.request.Reason.{Reason}
use Rattle.rt_model.specs.declared.request.Request.{Request}
use Rattle.rt_model.specs.declared.request.RequestKind.{RequestKind}
use Rattle.rt_model.specs.declared.request.RequestKind.TheVariants as kind
use Rattle.rt_model.specs.declared.seg_meta.SeenMeta.{SeenMeta}
use Rattle.rt_model.specs.declared.seg_meta.SegMeta.{SegMeta}
use Rattle.rt_model.specs.declared.status.Status.{Status}
use Rattle.rt_model.specs.declared.status.Status.TheVariants.{Abandoned, Done, InProgress}
use Rattle.rt_segment.specs.Segment.{SealedSegment}
use Rattle.rt_store.specs.Answers.{found_in, reading}
use Rattle.rt_store.specs.Calls.{answer_on}
use Rattle.rt_store.specs.Meaning.{Told}
use Rattle.rt_store.specs.Memory.{means}
use Rattle.rt_store.specs.declared.refused.StoreRefused.TheVariants.{Failed}
use Rattle.rt_store.proofs.Listing.{value_has}
use Rattle.rt_calm.specs.Again.{awaits, is_notified, is_uploading, is_version, machine_of, spent_again, steps_if}
use Rattle.rt_calm.proofs.Awaited.{ended_still, is_its, react_so, react_waits, unless_ended, AskedSo, ConsumedSo, EndSo, HasEnded, StartSo, StopSo, WaitsOn}
use Rattle.rt_calm.proofs.Machines.{added_turned, replaced_turned, still_turned, HasMoved, IsTurned}

-- ---- what an answer tells

-- the machine, which answered no commit any more, is gone
abbrev pub IsSpentOut : List Seen → Partition → Sequence → Option Completion → Option Completion → Type 0
IsSpentOut h p q m n = (spent_again h p q m ≡ 6) × (n ≡ None)

-- the machine doesn't wait for what is asked
abbrev pub IsMissed : RequestKind → Offset → Instance → Option Completion → Type 0
IsMissed kind.CommitStart x i m = (reason : Reason) (built : SealedSegment) → awaits m i.0 (Starting reason built) x ≡ false
IsMissed (kind.CommitEnd path) x i m = (reason : Reason) (built : SealedSegment) (shown : List ℕ) → awaits m i.0 (Ending reason built shown) x ≡ false
IsMissed (kind.Consumed reason) x i m = ⊥
IsMissed (kind.Upload path bytes) x i m = ⊥
IsMissed kind.Stopped x i m = ⊥
IsMissed (kind.Extend millis) x i m = Unit {0}

-- the machine waits in this state for the sender, at this offset
pub record IsLeft (s : MachineState) (i : Instance) (x : Offset) (n : Option Completion) : Type 0 where
  pub machine : Completion
  pub is : n ≡ Some machine
  pub state : machine.state ≡ s
  pub winner : machine.winner ≡ i
  pub offset : machine.offset ≡ x

-- by the machine before it, and the one that is left
abbrev pub StatusTells : List Seen → Request → Option Completion → Option Completion → ReplyStatus → Type 0
StatusTells h r m n (status.Failed cause) = IsSpentOut h r.partition r.sequence m n ⊎ IsMissed r.kind r.offset r.number.instance m
StatusTells h r m n (status.Commit x) = IsLeft machine.CommitterNotified r.number.instance x n
StatusTells h r m n status.CommitContinue = IsLeft machine.CommitterUploading r.number.instance r.offset n
StatusTells h r m n (status.UploadSuccess path) = n ≡ m
StatusTells h r m n status.Hold = Unit {0}
StatusTells h r m n status.NotLeader = ⊥
StatusTells h r m n (status.CatchUp x) = Unit {0}
StatusTells h r m n (status.Keep seen) = Unit {0}
StatusTells h r m n status.Discard = Unit {0}
StatusTells h r m n (status.CommitSuccess seen) = Unit {0}
StatusTells h r m n status.Processed = Unit {0}

-- the segment's machine after the answer to a request
pub record IsMoved (h : List Seen) (ms ns : List SegmentMachine) (r : Request) (s : ReplyStatus) : Type 0 where
  pub moved : HasMoved h ms ns r.number.instance r.partition r.sequence
  pub tells : StatusTells h r moved.machine moved.left s

-- a commit job's machine waited for its sender, and has read a write of the segment's node in progress
pub record IsOwn (h : List Seen) (r : Request) (m : Option Completion) : Type 0 where
  pub machine : Completion
  pub is : m ≡ Some machine
  pub winner : r.number.instance.0 ≡ machine.winner.0
  pub write : Seen
  pub read : IsRead h r.partition r.sequence write
  pub version : write.version ≡ machine.seen.version

abbrev pub IsOwnBy : List Seen → Request → Option Completion → RequestKind → Type 0
IsOwnBy h r m (kind.CommitEnd path) = IsOwn h r m
IsOwnBy h r m (kind.Consumed reason) = Unit {0}
IsOwnBy h r m kind.CommitStart = Unit {0}
IsOwnBy h r m (kind.Upload path bytes) = Unit {0}
IsOwnBy h r m kind.Stopped = Unit {0}
IsOwnBy h r m (kind.Extend millis) = Unit {0}

-- the segment's machine as a job begins
pub record HasStarted (h : List Seen) (ms ns : List SegmentMachine) (r : Request) : Type 0 where
  pub moved : HasMoved h ms ns r.number.instance r.partition r.sequence
  pub own : IsOwnBy h r moved.machine r.kind

-- ---- a store that tells what it is asked

-- no fault is planned, and the segment's node is there
pub record IsReadable (t : Told) (d : ToldDeep) (p : Partition) (q : Sequence) : Type 0 where
  pub unplanned : t.faults.plan ≡ []
  pub fetches : d.faults.plan ≡ []
  pub write : Seen
  pub there : value_of t.writes (key.Meta p q) ≡ Some write
  pub meta : SegMeta
  pub is : write.node ≡ node.Meta meta

-- a node's start lies below what is asked of
abbrev pub IsBeyond : Node → Option Offset → Type 0
IsBeyond n None = Unit {0}
IsBeyond n (Some x) = start_by n < x.0

beyond_start : (m : Completion) (o : Option Offset) → IsBeyond (node.Meta m.seen.meta) o → IsPastStart m o
beyond_start m None beyond = tt
beyond_start m (Some x) beyond = beyond

pub unfaulted : {X E : Type 0} (failed : E) (plan : List Bool) (answer : Result X E) → plan ≡ [] → answer_under failed (fault_of plan) answer ≡ answer
unfaulted failed plan answer none = ap (λ (p : List Bool). answer_under failed (fault_of p) answer) none

-- ---- machines that are spent

steps_or : (a b : Bool) → steps_if b ≤ steps_if (a || b)
steps_or true true = omega arith
steps_or true false = omega arith
steps_or false b = omega arith

left_spent : (h : List Seen) (p : Partition) (q : Sequence) (n : Completion) (most : ℕ) → steps_if (not (is_version (value_of h (key.Meta p q)) n.seen.version)) ≤ most
    → spent_again h p q (unless_ended n) ≤ most
left_spent h p q n most le = by_end (has_ended n.state) refl
  where
    by_end : (b : Bool) → has_ended n.state ≡ b → spent_again h p q (cond b None (Some n)) ≤ most
    by_end true e = omega arith
    by_end false e =
        omega (arith, le, ap (λ (b : Bool). steps_if (b || not (is_version (value_of h (key.Meta p q)) n.seen.version))) e)

ended_spent : (h : List Seen) (p : Partition) (q : Sequence) (m : Completion) → has_ended m.state ≡ true → spent_again h p q (Some m) ≡ 6
ended_spent h p q m e = ap (λ (b : Bool). steps_if (b || not (is_version (value_of h (key.Meta p q)) m.seen.version))) e

going_left : (n : Completion) (s : MachineState) → n.state ≡ s → has_ended s ≡ false → unless_ended n ≡ Some n
going_left n s is going = ap (λ (b : Bool). cond b None (Some n)) (ap has_ended is ∙ going)

-- ---- a machine's reaction

-- what a reaction leads to
abbrev LedSo : List Seen → Request → RequestKind → Option Completion → Option Completion → Result JobStage ReplyStatus → Type 0
LedSo h r k m n (Ok s) = IsOwnBy h r m k
LedSo h r k m n (Err s) = StatusTells h r m n s

module _ (h : List Seen) (r : Request) (now : Moment) (unextended : (millis : ℕ) → r.kind ≡ kind.Extend millis → ⊥) where
  -- a machine that reacts, where this one was before it
  module _ (m : Completion) (before : Option Completion) (what : Ask) (asks : ask_in r.offset r.kind ≡ Some what) (beyond : IsPastStart m (asked_offset what))
      (ended : has_ended m.state ≡ true → spent_again h r.partition r.sequence before ≡ 6)
      (start : (reason : Reason) (built : SealedSegment) → (is_notified m.state && is_its m r.number.instance r.offset) ≡ false → awaits before r.number.instance.0 (Starting reason built) r.offset ≡ false)
      (end : (reason : Reason) (built : SealedSegment) (path : List ℕ) → (is_uploading m.state && is_its m r.number.instance r.offset) ≡ false → awaits before r.number.instance.0 (Ending reason built path) r.offset ≡ false)
      (own : (path : List ℕ) → r.kind ≡ kind.CommitEnd path → is_uploading m.state ≡ true → r.number.instance.0 ≡ m.winner.0 → IsOwn h r before) where
    abbrev n : Completion
    n = (react m r.number.instance what now).1

    spent_out : HasEnded m r.number.instance m.state → IsSpentOut h r.partition r.sequence before (unless_ended n)
    spent_out e = (
      ended e,
      ap unless_ended (ended_still m r.number.instance now what e) ∙ ap (λ (b : Bool). cond b None (Some m)) e,
    )

    abbrev KindLed : RequestKind → Result JobStage ReplyStatus → Type 0
    KindLed k o = LedSo h r k before (unless_ended n) o

    failed_start : r.kind ≡ kind.CommitStart → HasEnded m r.number.instance m.state ⊎ ((is_notified m.state && is_its m r.number.instance r.offset) ≡ false)
        → IsSpentOut h r.partition r.sequence before (unless_ended n) ⊎ IsMissed r.kind r.offset r.number.instance before
    failed_start is (inl e) = inl (spent_out e)
    failed_start is (inr missed) =
        inr (subst (λ (k : RequestKind). IsMissed k r.offset r.number.instance before) (sym is) (λ reason built. start reason built missed))

    failed_end : (path : List ℕ) → r.kind ≡ kind.CommitEnd path → HasEnded m r.number.instance m.state ⊎ ((is_uploading m.state && is_its m r.number.instance r.offset) ≡ false)
        → IsSpentOut h r.partition r.sequence before (unless_ended n) ⊎ IsMissed r.kind r.offset r.number.instance before
    failed_end path is (inl e) = inl (spent_out e)
    failed_end path is (inr missed) =
        inr (subst (λ (k : RequestKind). IsMissed k r.offset r.number.instance before) (sym is) (λ reason built shown. end reason built shown missed))

    consumed_led : (reason : Reason) (y : Reaction) → ConsumedSo m r.number.instance m.state y n → KindLed (kind.Consumed reason) (leads_to None y)
    consumed_led reason (reaction.Answer (said.Commit x)) so =
        record { machine = n; is = going_left n machine.CommitterNotified so.0 refl; state = so.0; winner = so.1; offset = so.2 }
    consumed_led reason (reaction.Answer (said.Failed cause)) so = inl (spent_out so)
    consumed_led reason (reaction.Answer (said.CatchUp t)) so = tt
    consumed_led reason (reaction.Answer said.Hold) so = tt
    consumed_led reason (reaction.Answer said.CommitContinue) so = absurd so
    consumed_led reason (reaction.Answer said.Processed) so = absurd so
    consumed_led reason (reaction.StartCommit x) so = absurd so
    consumed_led reason reaction.StartOffline so = absurd so

    start_led : r.kind ≡ kind.CommitStart → (y : Reaction) → StartSo m r.number.instance r.offset m.state y n → KindLed kind.CommitStart (leads_to None y)
    start_led is (reaction.Answer said.CommitContinue) so =
        record { machine = n; is = going_left n machine.CommitterUploading so.0 refl; state = so.0; winner = so.1; offset = so.2 }
    start_led is (reaction.Answer (said.Failed cause)) so = failed_start is so
    start_led is (reaction.Answer said.Hold) so = tt
    start_led is (reaction.Answer (said.Commit x)) so = absurd so
    start_led is (reaction.Answer (said.CatchUp t)) so = absurd so
    start_led is (reaction.Answer said.Processed) so = absurd so
    start_led is (reaction.StartCommit x) so = absurd so
    start_led is reaction.StartOffline so = absurd so

    end_led : (path : List ℕ) → r.kind ≡ kind.CommitEnd path → (file : NamedFile) (y : Reaction) → EndSo m r.number.instance r.offset m.state y n
        → KindLed (kind.CommitEnd path) (leads_to (Some file) y)
    end_led path is file (reaction.StartCommit x) so = own path is so.1 so.0
    end_led path is file (reaction.Answer (said.Failed cause)) so = failed_end path is so
    end_led path is file (reaction.Answer said.Hold) so = tt
    end_led path is file (reaction.Answer (said.Commit x)) so = absurd so
    end_led path is file (reaction.Answer (said.CatchUp t)) so = absurd so
    end_led path is file (reaction.Answer said.CommitContinue) so = absurd so
    end_led path is file (reaction.Answer said.Processed) so = absurd so
    end_led path is file reaction.StartOffline so = absurd so

    stop_led : (y : Reaction) → StopSo m r.number.instance m.state y n → KindLed kind.Stopped (leads_to None y)
    stop_led reaction.StartOffline so = tt
    stop_led (reaction.Answer (said.Failed cause)) so = inl (spent_out so)
    stop_led (reaction.Answer said.Hold) so = tt
    stop_led (reaction.Answer (said.Commit x)) so = absurd so
    stop_led (reaction.Answer (said.CatchUp t)) so = absurd so
    stop_led (reaction.Answer said.CommitContinue) so = absurd so
    stop_led (reaction.Answer said.Processed) so = absurd so
    stop_led (reaction.StartCommit x) so = absurd so

    -- what is asked of it leads to that
    kind_led : (k : RequestKind) (y : Reaction) → r.kind ≡ k → ask_in r.offset k ≡ Some what → AskedSo m r.number.instance what m.state (y, n)
        → KindLed k (leads_to (named_in r m.seen k) y)
    kind_led (kind.Consumed reason) y is of so =
        consumed_led reason y (subst (λ (a : Ask). AskedSo m r.number.instance a m.state (y, n)) (sym (same_Some (ask.Consumed r.offset reason) what of)) so)
    kind_led kind.CommitStart y is of so =
        start_led is y (subst (λ (a : Ask). AskedSo m r.number.instance a m.state (y, n)) (sym (same_Some (ask.CommitStart r.offset) what of)) so)
    kind_led (kind.CommitEnd path) y is of so =
        end_led path is _ y (subst (λ (a : Ask). AskedSo m r.number.instance a m.state (y, n)) (sym (same_Some (ask.CommitEnd r.offset) what of)) so)
    kind_led kind.Stopped y is of so =
        stop_led y (subst (λ (a : Ask). AskedSo m r.number.instance a m.state (y, n)) (sym (same_Some ask.Stopped what of)) so)
    kind_led (kind.Upload path bytes) y is of so = absurd (none-some what of)
    kind_led (kind.Extend millis) y is of so = absurd (unextended millis is)

-- ---- who leads

module _ (c : Controlling) (r : Request) where
  place_leads : (o : Option ℕ) (what : Ask) → by_place o what ≡ not_leading → ⊥
  place_leads None what e = cc
  place_leads (Some place) what e = cc

  asked_leads : (what : Ask) → asked_turn c r what ≡ not_leading → ⊥
  asked_leads what =
      by_test (λ (rule : Rule). rule ≡ not_leading → ⊥) (not (is_replica c.assigned r.partition r.number.instance)) not_assigned _ (λ other e. cc)
      (λ own. by_test (λ (rule : Rule). rule ≡ not_leading → ⊥) (nat_le LAST_NUMBER r.sequence.0) past_last _ (λ last e. cc)
      (λ early. place_leads (machine_place c.machines r.partition r.sequence) what))

  kind_leads : (k : RequestKind) → kind_turn c r k ≡ not_leading → ⊥
  kind_leads (kind.Upload path bytes) e = cc
  kind_leads (kind.Consumed reason) e = asked_leads (ask.Consumed r.offset reason) e
  kind_leads kind.Stopped e = asked_leads ask.Stopped e
  kind_leads kind.CommitStart e = asked_leads (ask.CommitStart r.offset) e
  kind_leads (kind.CommitEnd path) e = asked_leads (ask.CommitEnd r.offset) e
  kind_leads (kind.Extend millis) e = asked_leads (ask.Extend millis) e

  pub not_led : turn_of c r ≡ not_leading → c.leads ≡ false
  not_led e = by_leads c.leads e
    where
      by_leads : (b : Bool) → cond b (kind_turn c r r.kind) not_leading ≡ not_leading → b ≡ false
      by_leads true f = absurd (kind_leads r.kind f)
      by_leads false f = refl

-- ---- a request

-- HOLD is answered, or NOT_LEADER by one that doesn't lead; or the machine moved so, or a job has started
abbrev pub HandledSo : List Seen → Bool → List SegmentMachine → List SegmentMachine → Request → Handled → Type 0
HandledSo h leads ms ns r (handled.Reply y) = (y.status ≡ status.Hold) ⊎ ((y.status ≡ status.NotLeader) × (leads ≡ false)) ⊎ IsMoved h ms ns r y.status
HandledSo h leads ms ns r (handled.Job j) = HasStarted h ms ns r

abbrev handling : Handling → Option Handling
handling x = Some x

module _ (t : Told) (d : ToldDeep) (c : Controlling) (r : Request) (now : Moment) (unextended : (millis : ℕ) → r.kind ≡ kind.Extend millis → ⊥)
    (one : HaveOneMachine c.machines) (readable : IsReadable t d r.partition r.sequence)
    (reads : (m : SegmentMachine) → Has c.machines m → IsRead t.writes m.partition m.sequence (machine_write m))
    (beyond : (w : Seen) (what : Ask) → IsRead t.writes r.partition r.sequence w → ask_in r.offset r.kind ≡ Some what → IsBeyond w.node (asked_offset what)) where
  abbrev h : List Seen
  h = t.writes

  abbrev p : Partition
  p = r.partition

  abbrev q : Sequence
  q = r.sequence

  abbrev i : Instance
  i = r.number.instance

  abbrev IsRight : Handling → Type 0
  IsRight x = HandledSo h c.leads c.machines x.controller.machines r x.handled

  made : (y x : Handling) → handling y ≡ handling x → IsRight y → IsRight x
  made y x e k = subst IsRight (same_Some y x e) k

  -- the machines stay
  stays : (s : ReplyStatus) → StatusTells h r (machine_of c.machines p q) (machine_of c.machines p q) s → IsMoved h c.machines c.machines r s
  stays s tells =
      record {
        moved = record {
          machine = machine_of c.machines p q;
          left = machine_of c.machines p q;
          turned = still_turned c.machines p q;
          waits = λ j stage x other is. is;
          spent = omega arith;
        };
        tells = tells;
      }

  -- ---- a machine reacts

  module _ (m : Completion) (before : Option Completion) (what : Ask) (ns : List SegmentMachine) (turned : IsTurned c.machines ns p q before (unless_ended (react m i what now).1))
      (spent : spent_again h p q (unless_ended (react m i what now).1) ≤ spent_again h p q before)
      (waits : ((react m i what now).0 ≡ reaction.Answer said.Hold) ⊎ WaitsOn i before (unless_ended (react m i what now).1)) where
    abbrev moves : WaitsOn i before (unless_ended (react m i what now).1) → HasMoved h c.machines ns i p q
    moves on = record { machine = before; left = unless_ended (react m i what now).1; turned = turned; waits = on; spent = spent }

    follows_right : (o : Result JobStage ReplyStatus) → WaitsOn i before (unless_ended (react m i what now).1)
        → LedSo h r r.kind before (unless_ended (react m i what now).1) o → IsRight (follows_by (record c { machines = ns }) r o)
    follows_right (Ok s) on led = record { moved = moves on; own = led }
    follows_right (Err s) on led = inr (inr (record { moved = moves on; tells = led }))

    reacts_right : (seen : SeenMeta) → LedSo h r r.kind before (unless_ended (react m i what now).1) (leads_to (named_file r seen) (react m i what now).0)
        → IsRight (follows (record c { machines = ns }) r seen (react m i what now).0)
    reacts_right seen led = by_waits waits
      where
        by_waits : ((react m i what now).0 ≡ reaction.Answer said.Hold) ⊎ WaitsOn i before (unless_ended (react m i what now).1)
            → IsRight (follows (record c { machines = ns }) r seen (react m i what now).0)
        by_waits (inl hold) = subst (λ (y : Reaction). IsRight (follows (record c { machines = ns }) r seen y)) (sym hold) (inl refl)
        by_waits (inr on) = follows_right (leads_to (named_file r seen) (react m i what now).0) on led

  -- the machine of the segment
  module _ (place : ℕ) (m : SegmentMachine) (what : Ask) (there : machine_place c.machines p q ≡ Some place) (at : slice_get c.machines place ≡ Some m)
      (asks : ask_in r.offset r.kind ≡ Some what) where
    abbrev y : Reaction × Completion
    y = react m.machine i what now

    own_read : IsRead h p q (record { key = key.Meta p q; version = m.machine.seen.version; node = node.Meta m.machine.seen.meta })
    own_read =
        let own = its_machine c.machines p q place m there at in
        subst (λ (x : Sequence). IsRead h p x (record { key = key.Meta p x; version = m.machine.seen.version; node = node.Meta m.machine.seen.meta })) own.1
        (subst (λ (x : Partition). IsRead h x m.sequence (record { key = key.Meta x m.sequence; version = m.machine.seen.version; node = node.Meta m.machine.seen.meta })) own.0
        (reads m (place-Has c.machines place m at)))

    past : IsPastStart m.machine (asked_offset what)
    past =
        beyond_start m.machine (asked_offset what)
        (beyond (record { key = key.Meta p q; version = m.machine.seen.version; node = node.Meta m.machine.seen.meta }) what own_read asks)

    place_right : IsRight (follows (record c { machines = replaced c.machines place (with_machine m y.1) }) r m.machine.seen y.0)
    place_right =
        reacts_right m.machine (Some m.machine) what (replaced c.machines place (with_machine m y.1)) (replaced_turned c.machines p q place m y.1 one there at)
        (left_spent h p q y.1 (spent_again h p q (Some m.machine))
        (omega (
          arith,
          steps_or (has_ended m.machine.state) (not (is_version (value_of h (key.Meta p q)) m.machine.seen.version)),
          ap (λ (s : SeenMeta). steps_if (not (is_version (value_of h (key.Meta p q)) s.version))) (owned m.machine i what now).seen,
        )))
        (react_waits m.machine i what now) m.machine.seen
        (kind_led h r now unextended m.machine (Some m.machine) what asks past (ended_spent h p q m.machine) (λ reason built missed. missed)
        (λ reason built path missed. missed)
        (λ path is uploading winner.
        record {
          machine = m.machine;
          is = refl;
          winner = winner;
          write = record { key = key.Meta p q; version = m.machine.seen.version; node = node.Meta m.machine.seen.meta };
          read = own_read;
          version = refl;
        })
        r.kind y.0 refl asks (react_so m.machine i what now past))

  machine_right : (place : ℕ) (what : Ask) (o : Option SegmentMachine) (x : Handling) → machine_place c.machines p q ≡ Some place → slice_get c.machines place ≡ o
      → ask_in r.offset r.kind ≡ Some what → at_machine c r now place what o ≡ Some x → IsRight x
  machine_right place what None x there at asks is = absurd (none-some x is)
  machine_right place what (Some m) x there at asks is = made _ x is (place_right place m what there at asks)

  -- ---- a segment without a machine

  begins_going : (what : Ask) → has_ended (first_state what) ≡ false
  begins_going (ask.Consumed x reason) = refl
  begins_going (ask.CommitStart x) = refl
  begins_going (ask.CommitEnd x) = refl
  begins_going ask.Stopped = refl
  begins_going (ask.Extend millis) = refl

  begins_waiting : (what : Ask) → is_uploading (first_state what) ≡ false
  begins_waiting (ask.Consumed x reason) = refl
  begins_waiting (ask.CommitStart x) = refl
  begins_waiting (ask.CommitEnd x) = refl
  begins_waiting ask.Stopped = refl
  begins_waiting (ask.Extend millis) = refl

  extends : (k : RequestKind) (millis : ℕ) → r.kind ≡ k → ask_in r.offset k ≡ Some (ask.Extend millis) → ⊥
  extends (kind.Extend asked) millis is e = unextended asked is
  extends (kind.Consumed reason) millis is e = cc
  extends kind.Stopped millis is e = cc
  extends kind.CommitStart millis is e = cc
  extends (kind.CommitEnd path) millis is e = cc
  extends (kind.Upload path bytes) millis is e = cc

  row_tells : (m k : Option Completion) (seen : SeenMeta) (end : Offset) (what : Ask) → ask_in r.offset r.kind ≡ Some what
      → StatusTells h r m k (committed_row seen end what)
  row_tells m k seen end (ask.Consumed x reason) asks = cond_both (x.0 == end.0) (status.Keep seen) status.Discard (StatusTells h r m k) (λ e. tt) (λ e. tt)
  row_tells m k seen end (ask.CommitStart x) asks = cond_both (x.0 == end.0) (status.Keep seen) status.Discard (StatusTells h r m k) (λ e. tt) (λ e. tt)
  row_tells m k seen end (ask.CommitEnd x) asks = cond_both (x.0 == end.0) (status.Keep seen) status.Discard (StatusTells h r m k) (λ e. tt) (λ e. tt)
  row_tells m k seen end ask.Stopped asks = tt
  row_tells m k seen end (ask.Extend millis) asks = absurd (extends r.kind millis refl asks)

  abandoned_tells : (m k : Option Completion) (what : Ask) → ask_in r.offset r.kind ≡ Some what → StatusTells h r m k (abandoned_row what)
  abandoned_tells m k (ask.Consumed x reason) asks = tt
  abandoned_tells m k (ask.CommitStart x) asks = tt
  abandoned_tells m k (ask.CommitEnd x) asks = tt
  abandoned_tells m k ask.Stopped asks = tt
  abandoned_tells m k (ask.Extend millis) asks = absurd (extends r.kind millis refl asks)

  module _ (what : Ask) (none : machine_place c.machines p q ≡ None) (asks : ask_in r.offset r.kind ≡ Some what) where
    status_right : (seen : SeenMeta) (s : Status) → seen.meta.status ≡ s
        → IsRead h p q (record { key = key.Meta p q; version = seen.version; node = node.Meta seen.meta }) ⊎ (s ≡ InProgress → ⊥)
        → is_version (value_of h (key.Meta p q)) seen.version ≡ true → IsRight (by_status c r now what seen s)
    status_right seen InProgress e (inr ended) present = absurd (ended refl)
    status_right seen InProgress e (inl read) present =
        let m = first seen (replicas_in c.assigned p) (first_state what) now in
        let y = react m i what now in
        let past : IsPastStart m (asked_offset what) =
        beyond_start m (asked_offset what) (beyond (record { key = key.Meta p q; version = seen.version; node = node.Meta seen.meta }) what read asks) in
        let version : not (is_version (value_of h (key.Meta p q)) y.1.seen.version) ≡ false =
        ap (λ (s : SeenMeta). not (is_version (value_of h (key.Meta p q)) s.version)) (owned m i what now).seen ∙ ap not present in
        reacts_right m None what (added c.machines (record { partition = p; sequence = q; machine = y.1 }))
        (added_turned c.machines (record { partition = p; sequence = q; machine = y.1 }) none)
        (left_spent h p q y.1 0 (omega (arith, ap steps_if version))) (inr (λ j stage x other is. absurd (false≢true is))) seen
        (kind_led h r now unextended m None what asks past (λ e. absurd (false≢true (sym (begins_going what) ∙ e))) (λ reason built missed. refl)
        (λ reason built path missed. refl) (λ path is uploading winner. absurd (false≢true (sym (begins_waiting what) ∙ uploading))) r.kind y.0 refl asks
        (react_so m i what now past))
    status_right seen (Done commit) e read present = inr (inr (stays _ (row_tells _ _ seen commit.end what asks)))
    status_right seen Abandoned e read present = inr (inr (stays _ (abandoned_tells _ _ what asks)))

    read_or_ended : (write : Seen) (meta : SegMeta) (s : Status) → value_of h (key.Meta p q) ≡ Some write → write.node ≡ node.Meta meta → meta.status ≡ s
        → IsRead h p q (record { key = key.Meta p q; version = write.version; node = node.Meta meta }) ⊎ (s ≡ InProgress → ⊥)
    read_or_ended write meta InProgress there is e =
        let has = value_has h (key.Meta p q) write there in
        inl (record {
          has =
              subst (λ (n : Node). Has h (record { key = key.Meta p q; version = write.version; node = n })) is (has_at h r write has.0 has.1);
          of = refl;
          consuming = subst IsInProgress (sym e) tt;
        })
    read_or_ended write meta (Done commit) there is e = inr (λ f. absurd (cc))
    read_or_ended write meta Abandoned there is e = inr (λ f. absurd (cc))

    node_right : IsRight (by_node c r now what readable.write.version (node.Meta readable.meta))
    node_right =
        status_right (record { version = readable.write.version; meta = readable.meta }) readable.meta.status refl
        (read_or_ended readable.write readable.meta readable.meta.status readable.there readable.is refl)
        (ap (λ (o : Option Seen). is_version o readable.write.version) readable.there ∙ eq-eqb readable.write.version readable.write.version refl)

    read_right : (x : Handling) → after_read c r now what (answer_on t (reading (key.Meta p q))) ≡ Some x → IsRight x
    read_right x is =
        let found : answer_on t (reading (key.Meta p q)) ≡ Ok readable.write =
        unfaulted Failed t.faults.plan (reading (key.Meta p q) h) readable.unplanned ∙ ap found_in readable.there in
        made (by_node c r now what readable.write.version readable.write.node) x (sym (ap (after_read c r now what) found) ∙ is)
        (subst (λ (n : Node). IsRight (by_node c r now what readable.write.version n)) (sym readable.is) node_right)

  -- ---- an upload

  module _ (path bytes : List ℕ) (x : Handling) (possible : IsPossiblyHandled x.handled) where
    abbrev put : DeepPut
    put = record { path = path; bytes = bytes }

    abbrev IsPut : Result (Unit {0}) DeepRefused → Type 0
    IsPut answer = after_put c r path answer ≡ Some x → IsRight x

    compared_right : (kept offered : List ℕ) (b : Bool) → IsPut (cond b (Ok tt) (Err (deep.OtherBytes kept offered)))
    compared_right kept offered true e = made _ x e (inr (inr (stays (status.UploadSuccess path) refl)))
    compared_right kept offered false e = absurd (subst (λ (z : Handling). IsPossiblyHandled z.handled) (sym (same_Some _ x e)) possible)

    file_right : (o : Option DeepPut) → IsPut (unwrap_or (compared_in o bytes) (Ok tt))
    file_right None e = made _ x e (inr (inr (stays (status.UploadSuccess path) refl)))
    file_right (Some file) e = compared_right _ _ (bytes_eq file.bytes bytes) e

    put_right : IsPut (deep_answer d (putting put))
    put_right is =
        file_right (file_of d.files path) (sym (ap (after_put c r path) (unfaulted deep.Failed d.faults.plan (putting put d.files) readable.fetches)) ∙ is)

  rule_right : (rule : Rule) (x : Handling) → turn_of c r ≡ rule → Tells c r rule → handled_at c r now rule (answer_to t d (call_of r rule)) ≡ Some x
      → IsPossiblyHandled x.handled → IsRight x
  rule_right not_leading x is told e possible = made _ x e (inr (inl (refl, not_led c r is)))
  rule_right (uploads path bytes) x is told e possible = put_right path bytes x possible e
  rule_right not_assigned x is told e possible = absurd (subst (λ (z : Handling). IsPossiblyHandled z.handled) (sym (same_Some _ x e)) possible)
  rule_right past_last x is told e possible = made _ x e (inl refl)
  rule_right (has_machine place what) x is told e possible = machine_right place what (slice_get c.machines place) x told.1 refl told.2 e
  rule_right (has_none what) x is told e possible = read_right what told.1 told.2 x e

  pub handled_so : (u : Told) (e : ToldDeep) (new : Controlling) (given : Handled)
      → Handles {E = Unit {0}} (means t) (means u) (deep_means d) (deep_means e) c r now new (Ok given) → IsPossiblyHandled given
      → HandledSo h c.leads c.machines new.machines r given
  handled_so u e new given handles possible =
      let x : Handling = record { controller = new; handled = given } in
      let exact = told_request t u d e c r now x handles in
      rule_right (turn_of c r) x refl (told_turn c r) exact.made possible
