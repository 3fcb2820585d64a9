-- What a controller remembers stays so, through each request.
use Rattle.std.proofs.Common.{◌≡◌, ℕ, ◌<◌, ◌==◌, Bool, true, false, cond, List, [], ◌∷◌, ◌++◌, Option, Some, None, Result, Ok, Err, refl, sym, subst}
use Rattle.std.specs.Prelude.{slice_get, slice_set, All}
use Rattle.std.specs.List.{remove}
use Rattle.std.proofs.lemmas.Bool.{and_parts, eqb-true}
use Rattle.std.proofs.lemmas.Option.{get_or_from_slice_get}
use Rattle.std.proofs.lemmas.List.Elements.{All-set, All-push}
use Rattle.std.proofs.lemmas.List.Quantifiers.{position-Some}
use Rattle.rt_base.specs.declared.limits.TheConstants.{LAST_NUMBER}
use Rattle.rt_base.specs.declared.numbers.Moment.{Moment}
use Rattle.rt_base.specs.declared.numbers.Offset.{Offset}
use Rattle.rt_base.specs.declared.numbers.Partition.{Partition}
use Rattle.rt_base.specs.declared.numbers.Sequence.{Sequence}
use Rattle.rt_lists.specs.Members.{Has}
use Rattle.rt_lists.proofs.Lists.{All-found}
use Rattle.rt_model.specs.declared.completion.Ask.{Ask}
use Rattle.rt_model.specs.declared.completion.Reaction.{Reaction}
use Rattle.rt_model.specs.declared.completion.Reaction.TheVariants as reaction
use Rattle.rt_model.specs.declared.node.Key.{Key}
use Rattle.rt_model.specs.declared.node.Key.TheVariants as key
use Rattle.rt_model.specs.declared.node.Node.{Node}
use Rattle.rt_model.specs.declared.node.Node.TheVariants as node
use Rattle.rt_model.specs.declared.node.Seen.{Seen}
use Rattle.rt_model.specs.declared.reply.ReplyStatus.{ReplyStatus}
use Rattle.rt_model.specs.declared.request.Request.{Request}
use Rattle.rt_model.specs.declared.request.RequestKind.{RequestKind}
use Rattle.rt_model.specs.declared.request.RequestKind.TheVariants as kind
use Rattle.rt_model.specs.declared.seg_meta.SeenMeta.{SeenMeta}
use Rattle.rt_model.specs.declared.status.Status.{Status}
use Rattle.rt_model.specs.declared.status.Status.TheVariants.{InProgress, Done, Abandoned}
use Rattle.rt_model.specs.Completion.{Completion, first, react}
use Rattle.rt_model.specs.Messages.{asked_of}
use Rattle.rt_model.specs.Metadata.{IsInProgress}
use Rattle.rt_model.specs.Starting.{Starting}
use Rattle.rt_model.proofs.Histories.{same_partition, same_sequence}
use Rattle.rt_deep.specs.declared.refused.DeepRefused.{DeepRefused}
use Rattle.rt_deep.specs.declared.refused.DeepRefused.TheVariants as deep
use Rattle.rt_store.specs.declared.refused.StoreRefused.{StoreRefused}
use Rattle.rt_store.specs.declared.refused.StoreRefused.TheVariants.{NoNode, Exists, VersionChanged, Failed, Memory}
use Rattle.rt_store.specs.Calls.{Reads}
use Rattle.rt_store.specs.Meaning.{Meaning}
use Rattle.rt_store.proofs.Seeing.{read_seen}
use Rattle.rt_store.proofs.GoingOn.{goes_same, goes_read}
use Rattle.rt_commit.specs.declared.job.JobStage.{JobStage}
use Rattle.rt_commit.specs.Assignment.{replicas_in}
use Rattle.rt_commit.specs.Calls.{Makes, DeepMeaning}
use Rattle.rt_commit.specs.IsJob.{IsRead, IsCommitting, IsAt, IsJob}
use Rattle.rt_commit.proofs.Going.{goes_idle}
use Rattle.rt_controller.specs.declared.handled.Handled.{Handled}
use Rattle.rt_controller.specs.declared.segment_machine.SegmentMachine.{SegmentMachine}
use Rattle.rt_controller.specs.Answers.{Handling, after_put, follows, follows_by, leads_to, commit_stage, named_file, named_in, read_write}
use Rattle.rt_controller.specs.Controller.{Controlling, is_of, machine_place, replaced, added, with_machine, has_ended}
use Rattle.rt_controller.specs.IsController.{IsMachine, IsController, machine_write}
use Rattle.rt_controller.specs.Requests.{Turn, not_leading, uploads, not_assigned, past_last, has_machine, has_none, turn_of, call_of, handled_at, at_machine, after_read, by_node, by_status, opens, first_state}
use Rattle.rt_controller.specs.Steps.{Handles}
use Rattle.rt_controller.proofs.Keeps.{All-remove, controller_on, unchanged}
use Rattle.rt_controller.proofs.Reacting.{IsOwn, owned}
use Rattle.rt_controller.proofs.Turns.{Tells, told_turn}

-- ---- what follows of a reaction

-- the stage from which a job starts is right
abbrev IsStart : List Seen → Request → Result JobStage ReplyStatus → Type 0
IsStart seen r (Ok s) = IsAt seen (asked_of r) s
IsStart seen r (Err reply) = Unit {0}

keeps_follow_by : (st : Starting) (seen : List Seen) (c : Controlling) (r : Request) (o : Result JobStage ReplyStatus)
    → r.partition.0 < st.partitions → r.sequence.0 < LAST_NUMBER → IsController st seen c → IsStart seen r o
    → IsController st seen (follows_by c r o).controller
keeps_follow_by st seen c r (Ok s) within small k at =
    record {
      assigned = k.assigned;
      lawful = k.lawful;
      machines = k.machines;
      jobs =
          All-push (IsJob st seen) c.jobs (record { number = c.started; asked = asked_of r; stage = s }) k.jobs
          (record { within = within; small = small; at = at });
    }
keeps_follow_by st seen c r (Err reply) within small k at = k

is_commit_start : (seen : List Seen) (r : Request) (m : SeenMeta) (end : Offset) (k : RequestKind)
    → IsCommitting seen (asked_of r) (read_write r m) end.0 → IsStart seen r (commit_stage end (named_in r m k))
is_commit_start seen r m end (kind.Consumed reason) is = tt
is_commit_start seen r m end kind.Stopped is = tt
is_commit_start seen r m end kind.CommitStart is = tt
is_commit_start seen r m end (kind.Upload path bytes) is = tt
is_commit_start seen r m end (kind.CommitEnd path) is = is
is_commit_start seen r m end (kind.Extend millis) is = tt

is_start : (seen : List Seen) (r : Request) (n : Completion) (x : Reaction) → IsOwn n x
    → IsRead seen r.partition r.sequence (read_write r n.seen) → IsStart seen r (leads_to (named_file r n.seen) x)
is_start seen r n (reaction.Answer what) own read = tt
is_start seen r n (reaction.StartCommit end) own read =
    is_commit_start seen r n.seen end r.kind (record { read = read; past = own })
is_start seen r n reaction.StartOffline own read = tt

-- ---- the machine reacts

-- a machine that has reacted was made of what it was made of
still_machine : (st : Starting) (seen : List Seen) (m : SegmentMachine) (n : Completion) → n.seen ≡ m.machine.seen
    → IsMachine st seen m → IsMachine st seen (with_machine m n)
still_machine st seen m n e k =
    let P : SeenMeta → Type 0 = λ x. IsRead seen m.partition m.sequence
    (record { key = key.Meta m.partition m.sequence; version = x.version; node = node.Meta x.meta }) in
    record { within = k.within; small = k.small; read = subst P (sym e) k.read }

pub All-replaced : (P : SegmentMachine → Type 0) (ms : List SegmentMachine) (place : ℕ) (m : SegmentMachine)
    → All P ms → P m → All P (replaced ms place m)
All-replaced P ms place m k is = by_end (has_ended m.machine.state)
  where
    put : All P (slice_set ms place m)
    put = All-set P ms place m is k

    by_end : (b : Bool) → All P (cond b (remove (slice_set ms place m) place) (slice_set ms place m))
    by_end true = All-remove P (slice_set ms place m) place put
    by_end false = put

-- the machine at a place is the segment's
pub its_machine : (ms : List SegmentMachine) (p : Partition) (s : Sequence) (place : ℕ) (m : SegmentMachine)
    → machine_place ms p s ≡ Some place → slice_get ms place ≡ Some m → (m.partition ≡ p) × (m.sequence ≡ s)
its_machine ms p s place m e at =
    let found = position-Some (is_of p s) ms place m e in
    let is : is_of p s m ≡ true = subst (λ (x : SegmentMachine). is_of p s x ≡ true) (get_or_from_slice_get ms place m m at) found.1 in
    let parts = and_parts (m.partition.0 == p.0) (m.sequence.0 == s.0) is in
    (same_partition m.partition p (eqb-true m.partition.0 p.0 parts.0), same_sequence m.sequence s (eqb-true m.sequence.0 s.0 parts.1))

read_by : (seen : List Seen) (r : Request) (m : SegmentMachine) → m.partition ≡ r.partition → m.sequence ≡ r.sequence
    → IsRead seen m.partition m.sequence (machine_write m) → IsRead seen r.partition r.sequence (read_write r m.machine.seen)
read_by seen r m p q k =
    let P : Partition → Type 0 = λ x. IsRead seen x m.sequence (record { key = key.Meta x m.sequence; version = m.machine.seen.version; node = node.Meta m.machine.seen.meta }) in
    let Q : Sequence → Type 0 = λ y. IsRead seen r.partition y (record { key = key.Meta r.partition y; version = m.machine.seen.version; node = node.Meta m.machine.seen.meta }) in
    subst Q q (subst P p k)

keeps_machine : (st : Starting) (seen : List Seen) (c : Controlling) (r : Request) (now : Moment) (place : ℕ) (what : Ask) (m : SegmentMachine)
    → r.partition.0 < st.partitions → r.sequence.0 < LAST_NUMBER → IsController st seen c
    → machine_place c.machines r.partition r.sequence ≡ Some place → slice_get c.machines place ≡ Some m
    → IsController st seen
    (follows (record c { machines = replaced c.machines place (with_machine m (react m.machine r.number.instance what now).1) })
    r m.machine.seen (react m.machine r.number.instance what now).0).controller
keeps_machine st seen c r now place what m within small k found at =
    let x = react m.machine r.number.instance what now in
    let own = owned m.machine r.number.instance what now in
    let is = All-found (IsMachine st seen) c.machines place m k.machines at in
    let its = its_machine c.machines r.partition r.sequence place m found at in
    let ms = replaced c.machines place (with_machine m x.1) in
    keeps_follow_by st seen (record c { machines = ms }) r (leads_to (named_file r m.machine.seen) x.0) within small
    (record {
      assigned = k.assigned;
      lawful = k.lawful;
      machines = All-replaced (IsMachine st seen) c.machines place (with_machine m x.1) k.machines (still_machine st seen m x.1 own.seen is);
      jobs = k.jobs;
    })
    (is_start seen r m.machine x.0 own.own (read_by seen r m its.0 its.1 is.read))

abbrev handling : Handling → Option Handling
handling x = Some x

same_handling : (x y : Handling) → handling x ≡ handling y → x.controller ≡ y.controller
same_handling x y e = cc

no_handling : (x : Handling) → handling x ≡ None → ⊥
no_handling x e = absurd (cc)

keeps_slot : (st : Starting) (seen : List Seen) (c : Controlling) (r : Request) (now : Moment) (place : ℕ) (what : Ask) (o : Option SegmentMachine) (x : Handling)
    → r.partition.0 < st.partitions → r.sequence.0 < LAST_NUMBER → IsController st seen c
    → machine_place c.machines r.partition r.sequence ≡ Some place → slice_get c.machines place ≡ o
    → at_machine c r now place what o ≡ Some x → IsController st seen x.controller
keeps_slot st seen c r now place what None x within small k found at e = absurd (no_handling x (sym e))
keeps_slot st seen c r now place what (Some m) x within small k found at e =
    let P : Controlling → Type 0 = IsController st seen in
    subst P (same_handling _ x e) (keeps_machine st seen c r now place what m within small k found at)

-- ---- a segment without a machine

pub All-added : (P : SegmentMachine → Type 0) (ms : List SegmentMachine) (m : SegmentMachine) → All P ms → P m → All P (added ms m)
All-added P ms m k is = by_end (has_ended m.machine.state)
  where
    by_end : (b : Bool) → All P (cond b ms (ms ++ m ∷ []))
    by_end true = k
    by_end false = All-push P ms m k is

abbrev pub made : Request → Completion → SegmentMachine
made r n = record { partition = r.partition; sequence = r.sequence; machine = n }

is_made : (st : Starting) (seen : List Seen) (r : Request) (m : SeenMeta) (n : Completion)
    → r.partition.0 < st.partitions → r.sequence.0 < LAST_NUMBER → n.seen ≡ m
    → IsRead seen r.partition r.sequence (read_write r m) → IsMachine st seen (made r n)
is_made st seen r m n within small e k =
    let P : SeenMeta → Type 0 = λ x. IsRead seen r.partition r.sequence (read_write r x) in
    record { within = within; small = small; read = subst P (sym e) k }

keeps_opens : (st : Starting) (seen : List Seen) (c : Controlling) (r : Request) (now : Moment) (what : Ask) (m : SeenMeta)
    → r.partition.0 < st.partitions → r.sequence.0 < LAST_NUMBER → IsController st seen c
    → IsRead seen r.partition r.sequence (read_write r m) → IsController st seen (opens c r now what m).controller
keeps_opens st seen c r now what m within small k read =
    let n = first m (replicas_in c.assigned r.partition) (first_state what) now in
    let x = react n r.number.instance what now in
    let own = owned n r.number.instance what now in
    keeps_follow_by st seen (record c { machines = added c.machines (made r x.1) }) r (leads_to (named_file r m) x.0) within small
    (record {
      assigned = k.assigned;
      lawful = k.lawful;
      machines = All-added (IsMachine st seen) c.machines (made r x.1) k.machines (is_made st seen r m x.1 within small own.seen read);
      jobs = k.jobs;
    })
    (is_start seen r n x.0 own.own read)

keeps_status : (st : Starting) (seen : List Seen) (c : Controlling) (r : Request) (now : Moment) (what : Ask) (m : SeenMeta) (status : Status)
    → r.partition.0 < st.partitions → r.sequence.0 < LAST_NUMBER → IsController st seen c
    → Has seen (read_write r m) → m.meta.status ≡ status → IsController st seen (by_status c r now what m status).controller
keeps_status st seen c r now what m InProgress within small k has e =
    keeps_opens st seen c r now what m within small k
    (record { has = has; of = refl; consuming = subst IsInProgress (sym e) tt })
keeps_status st seen c r now what m (Done commit) within small k has e = k
keeps_status st seen c r now what m Abandoned within small k has e = k

abbrev write_at : Request → ℕ → Node → Seen
write_at r version n = record { key = key.Meta r.partition r.sequence; version = version; node = n }

keeps_node : (st : Starting) (seen : List Seen) (c : Controlling) (r : Request) (now : Moment) (what : Ask) (version : ℕ) (n : Node)
    → r.partition.0 < st.partitions → r.sequence.0 < LAST_NUMBER → IsController st seen c
    → Has seen (write_at r version n) → IsController st seen (by_node c r now what version n).controller
keeps_node st seen c r now what version (node.Meta meta) within small k has =
    keeps_status st seen c r now what (record { version = version; meta = meta }) meta.status within small k has refl
keeps_node st seen c r now what version (node.Ideal i) within small k has = k
keeps_node st seen c r now what version node.Boot within small k has = k
keeps_node st seen c r now what version node.Gone within small k has = k

pub has_at : (seen : List Seen) (r : Request) (w : Seen) → Has seen w → w.key ≡ key.Meta r.partition r.sequence → Has seen (write_at r w.version w.node)
has_at seen r w has e =
    let P : Key → Type 0 = λ k. Has seen (record { key = k; version = w.version; node = w.node }) in
    subst P e has

keeps_read : (st : Starting) (s t : Meaning) (c : Controlling) (r : Request) (now : Moment) (what : Ask) (answer : Result Seen StoreRefused) (x : Handling)
    → r.partition.0 < st.partitions → r.sequence.0 < LAST_NUMBER → IsController st t.seen c
    → Reads s t (key.Meta r.partition r.sequence) answer → after_read c r now what answer ≡ Some x → IsController st t.seen x.controller
keeps_read st s t c r now what (Ok w) x within small k m e =
    let has = read_seen s t (key.Meta r.partition r.sequence) w m in
    let P : Controlling → Type 0 = IsController st t.seen in
    subst P (same_handling _ x e) (keeps_node st t.seen c r now what w.version w.node within small k (has_at t.seen r w has.0 has.1))
keeps_read st s t c r now what (Err NoNode) x within small k m e = subst (IsController st t.seen) (same_handling _ x e) k
keeps_read st s t c r now what (Err (Exists found)) x within small k m e = subst (IsController st t.seen) (same_handling _ x e) k
keeps_read st s t c r now what (Err (VersionChanged expected found)) x within small k m e =
    subst (IsController st t.seen) (same_handling _ x e) k
keeps_read st s t c r now what (Err Failed) x within small k m e = subst (IsController st t.seen) (same_handling _ x e) k
keeps_read st s t c r now what (Err Memory) x within small k m e = absurd (no_handling x (sym e))

keeps_put : (st : Starting) (seen : List Seen) (c : Controlling) (r : Request) (path : List ℕ) (answer : Result (Unit {0}) DeepRefused) (x : Handling)
    → IsController st seen c → after_put c r path answer ≡ Some x → IsController st seen x.controller
keeps_put st seen c r path (Ok u) x k e = subst (IsController st seen) (same_handling _ x e) k
keeps_put st seen c r path (Err deep.Absent) x k e = subst (IsController st seen) (same_handling _ x e) k
keeps_put st seen c r path (Err (deep.OtherBytes kept offered)) x k e = subst (IsController st seen) (same_handling _ x e) k
keeps_put st seen c r path (Err deep.Failed) x k e = subst (IsController st seen) (same_handling _ x e) k
keeps_put st seen c r path (Err deep.Memory) x k e = absurd (no_handling x (sym e))

-- ---- a request

keeps_turn : (st : Starting) (s t : Meaning) (d e : DeepMeaning) (c : Controlling) (r : Request) (now : Moment) (turn : Turn) (x : Handling)
    → r.partition.0 < st.partitions → IsController st s.seen c → Tells c r turn
    → Makes s t d e (call_of r turn) (λ a. handled_at c r now turn a ≡ Some x) → IsController st t.seen x.controller
keeps_turn st s t d e c r now not_leading x within k told m =
    unchanged st s t c x.controller (goes_same st s t k.lawful m.0) k (sym (same_handling _ x m.2))
keeps_turn st s t d e c r now (uploads path bytes) x within k told (answer, put, same, is) =
    keeps_put st t.seen c r path answer x (controller_on st s t c (goes_same st s t k.lawful same) k) is
keeps_turn st s t d e c r now not_assigned x within k told m =
    unchanged st s t c x.controller (goes_same st s t k.lawful m.0) k (sym (same_handling _ x m.2))
keeps_turn st s t d e c r now past_last x within k told m =
    unchanged st s t c x.controller (goes_same st s t k.lawful m.0) k (sym (same_handling _ x m.2))
keeps_turn st s t d e c r now (has_machine place what) x within k told m =
    keeps_slot st t.seen c r now place what (slice_get c.machines place) x within told.0
    (controller_on st s t c (goes_same st s t k.lawful m.0) k) told.1 refl m.2
keeps_turn st s t d e c r now (has_none what) x within k told (answer, read, same, is) =
    keeps_read st s t c r now what answer x within told.0
    (controller_on st s t c (goes_read st s t (key.Meta r.partition r.sequence) answer k.lawful read) k) read is

pub keeps_request :
    {E : Type 0} (st : Starting) (s t : Meaning) (d e : DeepMeaning) (c : Controlling) (r : Request) (now : Moment) (after : Controlling)
    (result : Result Handled E) → r.partition.0 < st.partitions → IsController st s.seen c
    → Handles s t d e c r now after result → IsController st t.seen after
keeps_request st s t d e c r now after (Ok what) within k m =
    keeps_turn st s t d e c r now (turn_of c r) (record { controller = after; handled = what }) within k (told_turn c r) m
keeps_request st s t d e c r now after (Err refused) within k m =
    unchanged st s t c after (goes_idle st s t k.lawful m.1.0) k m.0
