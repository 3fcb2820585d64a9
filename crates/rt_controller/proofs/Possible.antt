-- What a controller never answers to a request that was sent: neither that its upload is bad, nor that its sender isn't assigned.
use Rattle.std.proofs.Common.{◌≡◌, ℕ, ◌<◌, ◌^◌, ◌==◌, Bool, true, false, cond, List, length, bytes_eq, Option, Some, None, unwrap_or, Result, Ok, Err, refl, sym, ◌∙◌, ap, subst, get_or}
use Rattle.std.specs.Prelude.{slice_get}
use Rattle.std.specs.List.{list_any}
use Rattle.std.proofs.lemmas.Bool.{cond_both, eq-eqb, false≢true}
use Rattle.std.proofs.lemmas.List.Folds.{list_any_at}
use Rattle.std.proofs.lemmas.Option.{get_or_from_slice_get, same_Some, slice_get_within}
use Rattle.std.proofs.lemmas.Slice.Eq.{bytes_eq-Decides}
use Rattle.rt_base.proofs.Planned.{without_fault}
use Rattle.rt_base.specs.declared.numbers.Instance.{Instance}
use Rattle.rt_base.specs.declared.numbers.Moment.{Moment}
use Rattle.rt_base.specs.declared.numbers.Offset.{Offset}
use Rattle.rt_lists.specs.Members.{Has}
use Rattle.rt_lists.proofs.Members.{Has-place}
use Rattle.rt_model.specs.declared.completion.Ask.{Ask}
use Rattle.rt_model.specs.declared.completion.Ask.TheVariants as ask
use Rattle.rt_model.specs.declared.completion.Reaction.{Reaction}
use Rattle.rt_model.specs.declared.completion.Reaction.TheVariants as reaction
use Rattle.rt_model.specs.declared.completion.Said.{Said}
use Rattle.rt_model.specs.declared.completion.Said.TheVariants as said
use Rattle.rt_model.specs.declared.node.Node.{Node}
use Rattle.rt_model.specs.declared.node.Node.TheVariants as node
use Rattle.rt_model.specs.declared.node.Seen.{Seen}
use Rattle.rt_model.specs.declared.reply.FailCause.{FailCause}
use Rattle.rt_model.specs.declared.reply.FailCause.TheVariants as cause
use Rattle.rt_model.specs.declared.reply.ReplyStatus.TheVariants as status
use Rattle.rt_model.specs.declared.request.Request.{Request}
use Rattle.rt_model.specs.declared.request.RequestKind.TheVariants as kind
use Rattle.rt_model.specs.declared.seg_meta.SeenMeta.{SeenMeta}
use Rattle.rt_model.specs.declared.sent.Sent.TheVariants as sent
use Rattle.rt_model.specs.declared.setup.Setup.{Setup}
use Rattle.rt_model.specs.declared.status.Status.{Status}
use Rattle.rt_model.specs.declared.status.Status.TheVariants.{InProgress, Done, Abandoned}
use Rattle.rt_model.specs.Completion.{Completion, first, react}
use Rattle.rt_model.specs.Finished.{keeps, committed_row, abandoned_row}
use Rattle.rt_model.specs.Setup.{IsSetup}
use Rattle.rt_assign.specs.Placement.{replicas_of}
use Rattle.rt_deep.specs.declared.deep_put.DeepPut.{DeepPut}
use Rattle.rt_deep.specs.declared.refused.DeepRefused.{DeepRefused}
use Rattle.rt_deep.specs.declared.refused.DeepRefused.TheVariants as deep
use Rattle.rt_deep.specs.Answers.{compared, compared_in, putting}
use Rattle.rt_deep.specs.Answers as of_deep
use Rattle.rt_deep.specs.Calls.{Puts}
use Rattle.rt_deep.specs.Files.{file_of}
use Rattle.rt_deep.specs.Memory as deep_memory
use Rattle.rt_store.specs.declared.refused.StoreRefused.{StoreRefused}
use Rattle.rt_store.specs.declared.refused.StoreRefused.TheVariants.{NoNode, Exists, VersionChanged, Failed, Memory}
use Rattle.rt_store.specs.Meaning.{Meaning}
use Rattle.rt_past.specs.IsPast.{IsPast}
use Rattle.rt_past.specs.Past.{Past}
use Rattle.rt_past.specs.Requests.{IsRequest}
use Rattle.rt_past.proofs.Uploads.{own_bytes}
use Rattle.rt_commit.specs.Assignment.{Assigned, assigned_by, is_replica, replicas_in}
use Rattle.rt_commit.specs.Calls.{Makes}
use Rattle.rt_commit.specs.Told.{ToldDeep}
use Rattle.rt_controller.specs.declared.segment_machine.SegmentMachine.{SegmentMachine}
use Rattle.rt_controller.specs.declared.starting.NamedFile.{NamedFile}
use Rattle.rt_controller.specs.Answers.{Handling, follows, commit_stage, named_file, status_of, fails, follows_by, after_put}
use Rattle.rt_controller.specs.Controller.{Controlling}
use Rattle.rt_controller.specs.Requests.{Turn, not_leading, uploads, not_assigned, past_last, has_machine, has_none, turn_of, call_of, handled_at, at_machine, after_read, by_node, by_status, first_state}
use Rattle.rt_controller.specs.Right.{IsPossible, IsPossibleStatus, IsPossiblyHandled}
use Rattle.rt_controller.proofs.Reacting.{IsOwn, IsOwnCause, IsOwnSaid, owned}
use Rattle.rt_controller.proofs.Turns.{Tells, told_turn}

abbrev Possible : Handling → Type 0
Possible x = IsPossiblyHandled x.handled

-- ---- the machine's own answers

own_cause : (because : FailCause) → IsOwnCause because → IsPossible because
own_cause (cause.WrongState s) own = tt
own_cause (cause.WrongOffset x o) own = tt
own_cause (cause.NotCommitter i) own = tt
own_cause cause.NoSegment own = tt
own_cause (cause.VersionChanged expected found) own = tt
own_cause cause.StoreFault own = tt
own_cause (cause.BadUpload wanted found) own = absurd own
own_cause (cause.IdealChanged versions) own = tt
own_cause cause.NotReplica own = absurd own

own_said : (what : Said) → IsOwnSaid what → IsPossibleStatus (status_of what)
own_said said.Hold own = tt
own_said (said.CatchUp x) own = tt
own_said (said.Commit x) own = tt
own_said said.CommitContinue own = tt
own_said said.Processed own = tt
own_said (said.Failed because) own = own_cause because own

started_possible : (c : Controlling) (r : Request) (end : Offset) (file : Option NamedFile) → Possible (follows_by c r (commit_stage end file))
started_possible c r end None = tt
started_possible c r end (Some file) = tt

follows_possible : (c : Controlling) (r : Request) (seen : SeenMeta) (m : Completion) (y : Reaction) → IsOwn m y → Possible (follows c r seen y)
follows_possible c r seen m (reaction.Answer what) own = own_said what own
follows_possible c r seen m (reaction.StartCommit end) own = started_possible c r end (named_file r seen)
follows_possible c r seen m reaction.StartOffline own = tt

-- ---- a segment without a machine

keeps_possible : (seen : SeenMeta) (end x : Offset) → IsPossibleStatus (keeps seen end x)
keeps_possible seen end x = cond_both (x.0 == end.0) (status.Keep seen) status.Discard IsPossibleStatus (λ e. tt) (λ e. tt)

row_possible : (seen : SeenMeta) (end : Offset) (what : Ask) → IsPossibleStatus (committed_row seen end what)
row_possible seen end (ask.Consumed x reason) = keeps_possible seen end x
row_possible seen end (ask.CommitStart x) = keeps_possible seen end x
row_possible seen end (ask.CommitEnd x) = keeps_possible seen end x
row_possible seen end ask.Stopped = tt
row_possible seen end (ask.Extend millis) = tt

abandoned_possible : (what : Ask) → IsPossibleStatus (abandoned_row what)
abandoned_possible (ask.Consumed x reason) = tt
abandoned_possible (ask.CommitStart x) = tt
abandoned_possible (ask.CommitEnd x) = tt
abandoned_possible ask.Stopped = tt
abandoned_possible (ask.Extend millis) = tt

status_possible : (c : Controlling) (r : Request) (now : Moment) (what : Ask) (m : SeenMeta) (s : Status) → Possible (by_status c r now what m s)
status_possible c r now what m InProgress =
    let n = first m (replicas_in c.assigned r.partition) (first_state what) now in
    let y = react n r.number.instance what now in
    follows_possible _ r m n y.0 (owned n r.number.instance what now).own
status_possible c r now what m (Done commit) = row_possible m commit.end what
status_possible c r now what m Abandoned = abandoned_possible what

node_possible : (c : Controlling) (r : Request) (now : Moment) (what : Ask) (version : ℕ) (n : Node) → Possible (by_node c r now what version n)
node_possible c r now what version (node.Meta meta) = status_possible c r now what (record { version = version; meta = meta }) meta.status
node_possible c r now what version (node.Ideal i) = tt
node_possible c r now what version node.Boot = tt
node_possible c r now what version node.Gone = tt

given : (x y : Handling) (o : Option Handling) → o ≡ Some x → o ≡ Some y → Possible x → Possible y
given x y o e f k = subst Possible (same_Some x y (sym e ∙ f)) k

read_possible : (c : Controlling) (r : Request) (now : Moment) (what : Ask) (answer : Result Seen StoreRefused) (x : Handling)
    → after_read c r now what answer ≡ Some x → Possible x
read_possible c r now what (Ok w) x e = given (by_node c r now what w.version w.node) x (after_read c r now what (Ok w)) refl e (node_possible c r now what w.version w.node)
read_possible c r now what (Err NoNode) x e = given (fails c r cause.NoSegment) x (after_read c r now what (Err NoNode)) refl e tt
read_possible c r now what (Err (Exists found)) x e = given (fails c r cause.StoreFault) x (after_read c r now what (Err (Exists found))) refl e tt
read_possible c r now what (Err (VersionChanged expected found)) x e =
    given (fails c r cause.StoreFault) x (after_read c r now what (Err (VersionChanged expected found))) refl e tt
read_possible c r now what (Err Failed) x e = given (fails c r cause.StoreFault) x (after_read c r now what (Err Failed)) refl e tt
read_possible c r now what (Err Memory) x e = absurd (cc)

slot_possible : (c : Controlling) (r : Request) (now : Moment) (place : ℕ) (what : Ask) (o : Option SegmentMachine) (x : Handling)
    → at_machine c r now place what o ≡ Some x → Possible x
slot_possible c r now place what None x e = absurd (cc)
slot_possible c r now place what (Some m) x e =
    let y = react m.machine r.number.instance what now in
    given _ x (at_machine c r now place what (Some m)) refl e (follows_possible _ r m.machine.seen m.machine y.0 (owned m.machine r.number.instance what now).own)

-- ---- an upload

abbrev refused_as : DeepRefused → Result (Unit {0}) DeepRefused
refused_as e = Err e

never : (kept offered : List ℕ) (b : Bool) (o : Result (Unit {0}) DeepRefused) → b ≡ true
    → refused_as (deep.OtherBytes kept offered) ≡ cond b (Ok tt) o → ⊥
never kept offered true o is e = cc
never kept offered false o is e = false≢true is

other_bytes : (kept offered stands put : List ℕ) → stands ≡ put → refused_as (deep.OtherBytes kept offered) ≡ compared stands put → ⊥
other_bytes kept offered stands put same e = never kept offered (bytes_eq stands put) _ ((bytes_eq-Decides stands put).1 same) e

put_other : (kept offered bytes : List ℕ) (o : Option DeepPut) → ((f : DeepPut) → o ≡ Some f → f.bytes ≡ bytes)
    → refused_as (deep.OtherBytes kept offered) ≡ unwrap_or (compared_in o bytes) (Ok tt) → ⊥
put_other kept offered bytes None same e = cc
put_other kept offered bytes (Some f) same e = other_bytes kept offered f.bytes bytes (same f refl) e

-- ---- the sender

pub is_assigned : (setup : Setup) (past : Past) (c : Controlling) (r : Request) → c.assigned ≡ assigned_by setup → IsRequest setup past r
    → is_replica c.assigned r.partition r.number.instance ≡ true
is_assigned setup past c r assigned q =
    let i = r.number.instance in
    let listed = replicas_of r.partition setup.table.replication setup.servers in
    let at = Has-place listed i q.assigned in
    let same = get_or_from_slice_get listed at.0 i i at.1 in
    let here : list_any (λ (j : Instance). j.0 == i.0) listed ≡ true =
    list_any_at (λ (j : Instance). j.0 == i.0) listed at.0 i (slice_get_within listed at.0 i at.1)
    (eq-eqb (get_or listed at.0 i).0 i.0 (ap (λ (j : Instance). j.0) same)) in
    subst (λ (a : Assigned). is_replica a r.partition i ≡ true) (sym assigned) here

-- ---- a request

module _ (setup : Setup) (past : Past) (k : IsPast setup past) (s : IsSetup setup) (small : length past.history < 2 ^ 64) (c : Controlling) (r : Request)
    (has : Has past.sent (sent.Request r)) (now : Moment) (assigned : c.assigned ≡ assigned_by setup) where
  put_possible : (d e : ToldDeep) (path bytes : List ℕ) (answer : Result (Unit {0}) DeepRefused) (x : Handling) → past.files ≡ d.files
      → r.kind ≡ kind.Upload path bytes → Puts (deep_memory.means d) (deep_memory.means e) path bytes answer
      → after_put c r path answer ≡ Some x → Possible x
  put_possible d e path bytes (Ok u) x same is m f = given _ x (after_put c r path (Ok u)) refl f tt
  put_possible d e path bytes (Err deep.Absent) x same is m f = given _ x (after_put c r path (Err deep.Absent)) refl f tt
  put_possible d e path bytes (Err (deep.OtherBytes kept offered)) x same is m f =
      let put : DeepPut = record { path = path; bytes = bytes } in
      let told = without_fault deep.Failed m.fault (putting put m.base) (refused_as (deep.OtherBytes kept offered)) m.base (of_deep.after_put put m.base)
      (deep_memory.means e).seen (λ g. cc) m.goes.answered m.goes.seen in
      let files : m.base ≡ past.files = m.sees.all ∙ sym same in
      absurd
      (put_other kept offered bytes (file_of m.base path)
      (λ file at. own_bytes setup past r path bytes file s small k has is (ap (λ (fs : List DeepPut). file_of fs path) (sym files) ∙ at)) told.0)
  put_possible d e path bytes (Err deep.Failed) x same is m f = given _ x (after_put c r path (Err deep.Failed)) refl f tt
  put_possible d e path bytes (Err deep.Memory) x same is m f = absurd (cc)

  turn_possible : (u v : Meaning) (d e : ToldDeep) (turn : Turn) (x : Handling) → past.files ≡ d.files → Tells c r turn
      → Makes u v (deep_memory.means d) (deep_memory.means e) (call_of r turn) (λ a. handled_at c r now turn a ≡ Some x) → Possible x
  turn_possible u v d e not_leading x same told m = given _ x _ refl m.2 tt
  turn_possible u v d e (uploads path bytes) x same told (answer, put, still, is) = put_possible d e path bytes answer x same told put is
  turn_possible u v d e not_assigned x same told m = absurd (false≢true (sym told ∙ is_assigned setup past c r assigned (k.requests r has)))
  turn_possible u v d e past_last x same told m = given _ x _ refl m.2 tt
  turn_possible u v d e (has_machine place what) x same told m = slot_possible c r now place what (slice_get c.machines place) x m.2
  turn_possible u v d e (has_none what) x same told (answer, read, still, is) = read_possible c r now what answer x is

  pub request_possible : (u v : Meaning) (d e : ToldDeep) (x : Handling) → past.files ≡ d.files
      → Makes u v (deep_memory.means d) (deep_memory.means e) (call_of r (turn_of c r)) (λ a. handled_at c r now (turn_of c r) a ≡ Some x) → Possible x
  request_possible u v d e x same m = turn_possible u v d e (turn_of c r) x same (told_turn c r) m
