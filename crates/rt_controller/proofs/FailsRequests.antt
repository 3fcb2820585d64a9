-- A request fails for a fault only by a fault of a store.
use Rattle.std.proofs.Common.{◌≡◌, ℕ, ◌==◌, inl, inr, Bool, true, false, cond, List, Option, Some, None, Result, Ok, Err, sym, subst}
use Rattle.std.specs.Prelude.{slice_get, unwrap_or, IfOk}
use Rattle.std.specs.Str.{bytes_eq}
use Rattle.rt_base.proofs.Planned.{without_fault}
use Rattle.rt_base.specs.declared.numbers.Moment.{Moment}
use Rattle.rt_base.specs.declared.numbers.Offset.{Offset}
use Rattle.rt_model.specs.declared.completion.Ask.{Ask}
use Rattle.rt_model.specs.declared.completion.Ask.TheVariants as ask
use Rattle.rt_model.specs.declared.completion.Reaction.{Reaction}
use Rattle.rt_model.specs.declared.completion.Reaction.TheVariants as reaction
use Rattle.rt_model.specs.declared.completion.Said.{Said}
use Rattle.rt_model.specs.declared.completion.Said.TheVariants as said
use Rattle.rt_model.specs.declared.node.Key.TheVariants as key
use Rattle.rt_model.specs.declared.node.Node.{Node}
use Rattle.rt_model.specs.declared.node.Node.TheVariants as node
use Rattle.rt_model.specs.declared.node.Seen.{Seen}
use Rattle.rt_model.specs.declared.reply.FailCause.{FailCause}
use Rattle.rt_model.specs.declared.reply.FailCause.TheVariants as cause
use Rattle.rt_model.specs.declared.reply.ReplyStatus.{ReplyStatus}
use Rattle.rt_model.specs.declared.reply.ReplyStatus.TheVariants as status
use Rattle.rt_model.specs.declared.request.Request.{Request}
use Rattle.rt_model.specs.declared.seg_meta.SeenMeta.{SeenMeta}
use Rattle.rt_model.specs.declared.status.Status.{Status}
use Rattle.rt_model.specs.declared.status.Status.TheVariants.{InProgress, Done, Abandoned}
use Rattle.rt_model.specs.Completion.{Completion, first, react}
use Rattle.rt_model.specs.Finished.{keeps, committed_row, abandoned_row}
use Rattle.rt_deep.specs.declared.deep_put.DeepPut.{DeepPut}
use Rattle.rt_deep.specs.declared.refused.DeepRefused.{DeepRefused}
use Rattle.rt_deep.specs.declared.refused.DeepRefused.TheVariants as deep
use Rattle.rt_deep.specs.Answers as of_answers
use Rattle.rt_deep.specs.Calls as of_deep
use Rattle.rt_deep.specs.Files.{file_of}
use Rattle.rt_deep.proofs.Told.{put_rose}
use Rattle.rt_store.specs.declared.refused.StoreRefused.{StoreRefused}
use Rattle.rt_store.specs.declared.refused.StoreRefused.TheVariants.{NoNode, Exists, VersionChanged, Failed, Memory}
use Rattle.rt_store.specs.Calls.{Reads}
use Rattle.rt_store.specs.Meaning.{Meaning}
use Rattle.rt_store.proofs.Told.{read_rose}
use Rattle.rt_store.proofs.Refusals.{read_exists, read_changed}
use Rattle.rt_commit.specs.declared.job.JobStage.{JobStage}
use Rattle.rt_commit.specs.Assignment.{replicas_in}
use Rattle.rt_commit.specs.Calls.{Makes, DeepMeaning}
use Rattle.rt_commit.specs.Causes.{Rose}
use Rattle.rt_controller.specs.declared.handled.Handled.{Handled}
use Rattle.rt_controller.specs.declared.segment_machine.SegmentMachine.{SegmentMachine}
use Rattle.rt_controller.specs.declared.starting.NamedFile.{NamedFile}
use Rattle.rt_controller.specs.Answers.{Handling, after_put, follows_by, leads_to, commit_stage, named_file, status_of}
use Rattle.rt_controller.specs.Causes.{IsFault}
use Rattle.rt_controller.specs.Controller.{Controlling}
use Rattle.rt_controller.specs.Requests.{Turn, not_leading, uploads, not_assigned, past_last, has_machine, has_none, turn_of, call_of, handled_at, at_machine, after_read, by_node, by_status, opens, first_state}
use Rattle.rt_controller.specs.Steps.{Handles}
use Rattle.rt_controller.proofs.Reacting.{IsOwnCause, IsOwnSaid, IsOwn, owned}

abbrev fault : ReplyStatus
fault = status.Failed cause.StoreFault

abbrev handling : Handling → Option Handling
handling x = Some x

same_handling : (x y : Handling) → handling x ≡ handling y → x ≡ y
same_handling x y e = cc

-- what was handled so
of_handled : (y x : Handling) → handling y ≡ handling x → IsFault x.handled → IsFault y.handled
of_handled y x e f = subst (λ (z : Handling). IsFault z.handled) (sym (same_handling y x e)) f

no_handling : (x : Handling) → handling x ≡ None → ⊥
no_handling x e = absurd (cc)

-- ---- an upload

abbrev absent : Result (Unit {0}) DeepRefused
absent = Err deep.Absent

abbrev put_there : Option DeepPut → List ℕ → Result (Unit {0}) DeepRefused
put_there o offered = unwrap_or (of_answers.compared_in o offered) (Ok tt)

put_found : (o : Option DeepPut) (offered : List ℕ) → absent ≡ put_there o offered → ⊥
put_found None offered e = cc
put_found (Some file) offered e = by_test (bytes_eq file.bytes offered) _ _ e
  where
    by_test : (b : Bool) (x y : List ℕ) → absent ≡ cond b (Ok tt) (Err (deep.OtherBytes x y)) → ⊥
    by_test true x y f = cc
    by_test false x y f = cc

put_absent : (d e : DeepMeaning) (path bytes : List ℕ) → of_deep.Puts d e path bytes absent → ⊥
put_absent d e path bytes c =
    let file : DeepPut = record { path = path; bytes = bytes } in
    let told = without_fault deep.Failed c.fault (of_answers.putting file c.base) absent c.base (of_answers.after_put file c.base) e.seen
    (λ is. cc) c.goes.answered c.goes.seen in
    put_found (file_of c.base path) bytes told.0

fails_put : (s t : Meaning) (d e : DeepMeaning) (c : Controlling) (r : Request) (path bytes : List ℕ) (answer : Result (Unit {0}) DeepRefused) (x : Handling)
    → of_deep.Puts d e path bytes answer → after_put c r path answer ≡ Some x → IsFault x.handled → Rose s t d e
fails_put s t d e c r path bytes (Ok u) x p is f = let g = of_handled _ x is f in absurd (cc)
fails_put s t d e c r path bytes (Err deep.Absent) x p is f = absurd (put_absent d e path bytes p)
fails_put s t d e c r path bytes (Err (deep.OtherBytes kept offered)) x p is f = let g = of_handled _ x is f in absurd (cc)
fails_put s t d e c r path bytes (Err deep.Failed) x p is f = inr (put_rose d e (record { path = path; bytes = bytes }) p)
fails_put s t d e c r path bytes (Err deep.Memory) x p is f = absurd (no_handling x (sym is))

-- ---- a machine

own_cause : (because : FailCause) → IsOwnCause because → because ≡ cause.StoreFault → ⊥
own_cause because own e = subst IsOwnCause e own

fault_cause : (because : FailCause) → status.Failed because ≡ fault → because ≡ cause.StoreFault
fault_cause because e = cc

own_said : (what : Said) → IsOwnSaid what → status_of what ≡ fault → ⊥
own_said said.Hold own e = cc
own_said (said.CatchUp x) own e = cc
own_said (said.Commit x) own e = cc
own_said said.CommitContinue own e = cc
own_said said.Processed own e = cc
own_said (said.Failed because) own e = own_cause because own (fault_cause because e)

-- what follows of it is no fault
abbrev IsNone : Result JobStage ReplyStatus → Type 0
IsNone (Ok s) = Unit {0}
IsNone (Err r) = r ≡ fault → ⊥

no_commit : (end : Offset) (o : Option NamedFile) → IsNone (commit_stage end o)
no_commit end None = λ e. cc
no_commit end (Some file) = tt

no_lead : (file : Option NamedFile) (m : Completion) (x : Reaction) → IsOwn m x → IsNone (leads_to file x)
no_lead file m (reaction.Answer what) own = own_said what own
no_lead file m (reaction.StartCommit end) own = no_commit end file
no_lead file m reaction.StartOffline own = tt

no_follow : (c : Controlling) (r : Request) (o : Result JobStage ReplyStatus) → IsNone o → IsFault (follows_by c r o).handled → ⊥
no_follow c r (Ok s) none f = f
no_follow c r (Err reply) none f = none f

no_fault_at : (c : Controlling) (r : Request) (now : Moment) (place : ℕ) (what : Ask) (o : Option SegmentMachine) (x : Handling)
    → at_machine c r now place what o ≡ Some x → IsFault x.handled → ⊥
no_fault_at c r now place what None x e f = no_handling x (sym e)
no_fault_at c r now place what (Some m) x e f =
    let y = react m.machine r.number.instance what now in
    no_follow _ r (leads_to (named_file r m.machine.seen) y.0)
    (no_lead (named_file r m.machine.seen) m.machine y.0 (owned m.machine r.number.instance what now).own)
    (of_handled _ x e f)

-- ---- a segment without a machine

no_keeps : (m : SeenMeta) (end x : Offset) → keeps m end x ≡ fault → ⊥
no_keeps m end x e = by_test (x.0 == end.0) e
  where
    by_test : (b : Bool) → cond b (status.Keep m) status.Discard ≡ fault → ⊥
    by_test true f = cc
    by_test false f = cc

no_committed : (m : SeenMeta) (end : Offset) (what : Ask) → committed_row m end what ≡ fault → ⊥
no_committed m end (ask.Consumed x reason) e = no_keeps m end x e
no_committed m end (ask.CommitStart x) e = no_keeps m end x e
no_committed m end (ask.CommitEnd x) e = no_keeps m end x e
no_committed m end ask.Stopped e = cc
no_committed m end (ask.Extend millis) e = cc

no_abandoned : (what : Ask) → abandoned_row what ≡ fault → ⊥
no_abandoned (ask.Consumed x reason) e = cc
no_abandoned (ask.CommitStart x) e = cc
no_abandoned (ask.CommitEnd x) e = cc
no_abandoned ask.Stopped e = cc
no_abandoned (ask.Extend millis) e = cc

no_opens : (c : Controlling) (r : Request) (now : Moment) (what : Ask) (m : SeenMeta) → IsFault (opens c r now what m).handled → ⊥
no_opens c r now what m f =
    let n = first m (replicas_in c.assigned r.partition) (first_state what) now in
    let y = react n r.number.instance what now in
    no_follow _ r (leads_to (named_file r m) y.0)
    (no_lead (named_file r m) n y.0 (owned n r.number.instance what now).own) f

no_status : (c : Controlling) (r : Request) (now : Moment) (what : Ask) (m : SeenMeta) (status : Status) → IsFault (by_status c r now what m status).handled → ⊥
no_status c r now what m InProgress f = no_opens c r now what m f
no_status c r now what m (Done commit) f = no_committed m commit.end what f
no_status c r now what m Abandoned f = no_abandoned what f

no_node : (c : Controlling) (r : Request) (now : Moment) (what : Ask) (version : ℕ) (n : Node) → IsFault (by_node c r now what version n).handled → ⊥
no_node c r now what version (node.Meta meta) f = no_status c r now what (record { version = version; meta = meta }) meta.status f
no_node c r now what version (node.Ideal i) f = absurd (cc)
no_node c r now what version node.Boot f = absurd (cc)
no_node c r now what version node.Gone f = absurd (cc)

fails_read : (s t : Meaning) (d e : DeepMeaning) (c : Controlling) (r : Request) (now : Moment) (what : Ask) (answer : Result Seen StoreRefused) (x : Handling)
    → Reads s t (key.Meta r.partition r.sequence) answer → after_read c r now what answer ≡ Some x → IsFault x.handled → Rose s t d e
fails_read s t d e c r now what (Ok w) x m is f = absurd (no_node c r now what w.version w.node (of_handled _ x is f))
fails_read s t d e c r now what (Err NoNode) x m is f = let g = of_handled _ x is f in absurd (cc)
fails_read s t d e c r now what (Err (Exists found)) x m is f =
    absurd (read_exists s t (key.Meta r.partition r.sequence) found m)
fails_read s t d e c r now what (Err (VersionChanged expected found)) x m is f =
    absurd (read_changed s t (key.Meta r.partition r.sequence) expected found m)
fails_read s t d e c r now what (Err Failed) x m is f = inl (read_rose s t (key.Meta r.partition r.sequence) m)
fails_read s t d e c r now what (Err Memory) x m is f = absurd (no_handling x (sym is))

-- ---- a request

fails_turn : (s t : Meaning) (d e : DeepMeaning) (c : Controlling) (r : Request) (now : Moment) (turn : Turn) (x : Handling)
    → Makes s t d e (call_of r turn) (λ a. handled_at c r now turn a ≡ Some x) → IsFault x.handled → Rose s t d e
fails_turn s t d e c r now not_leading x m f = let g = of_handled _ x m.2 f in absurd (cc)
fails_turn s t d e c r now (uploads path bytes) x (answer, p, same, is) f = fails_put s t d e c r path bytes answer x p is f
fails_turn s t d e c r now not_assigned x m f = let g = of_handled _ x m.2 f in absurd (cc)
fails_turn s t d e c r now past_last x m f = let g = of_handled _ x m.2 f in absurd (cc)
fails_turn s t d e c r now (has_machine place what) x m f = absurd (no_fault_at c r now place what (slice_get c.machines place) x m.2 f)
fails_turn s t d e c r now (has_none what) x (answer, p, same, is) f = fails_read s t d e c r now what answer x p is f

pub fails_request :
    {E : Type 0} (s t : Meaning) (d e : DeepMeaning) (c : Controlling) (r : Request) (now : Moment) (after : Controlling)
    (result : Result Handled E) → Handles s t d e c r now after result → IfOk result (λ what. IsFault what → Rose s t d e)
fails_request s t d e c r now after (Ok what) m =
    λ f. fails_turn s t d e c r now (turn_of c r) (record { controller = after; handled = what }) m f
fails_request s t d e c r now after (Err refused) m = tt
