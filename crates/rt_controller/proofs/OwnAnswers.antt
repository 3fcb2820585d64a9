-- What a controller answers it saw.
use Rattle.std.proofs.Common.{◌≡◌, ℕ, List, Option, Some, None, Result, Ok, Err, refl, sym, ap, subst}
use Rattle.std.specs.Prelude.{slice_get}
use Rattle.std.proofs.lemmas.Option.{none-some, same_Some}
use Rattle.rt_base.specs.declared.numbers.Moment.{Moment}
use Rattle.rt_base.specs.declared.numbers.Offset.{Offset}
use Rattle.rt_base.specs.declared.numbers.Partition.{Partition}
use Rattle.rt_base.specs.declared.numbers.Sequence.{Sequence}
use Rattle.rt_lists.specs.Members.{Has}
use Rattle.rt_lists.proofs.Lists.{All-found}
use Rattle.rt_model.specs.declared.asked.Asked.{Asked}
use Rattle.rt_model.specs.declared.completion.Ask.{Ask}
use Rattle.rt_model.specs.declared.completion.Reaction.{Reaction}
use Rattle.rt_model.specs.declared.completion.Reaction.TheVariants as reaction
use Rattle.rt_model.specs.declared.job_step.JobStep.{JobStep}
use Rattle.rt_model.specs.declared.node.Key.TheVariants as key
use Rattle.rt_model.specs.declared.node.Node.{Node}
use Rattle.rt_model.specs.declared.node.Node.TheVariants as node
use Rattle.rt_model.specs.declared.node.Seen.{Seen}
use Rattle.rt_model.specs.declared.reply.ReplyStatus.{ReplyStatus}
use Rattle.rt_model.specs.declared.reply.ReplyStatus.TheVariants as status
use Rattle.rt_model.specs.declared.request.Request.{Request}
use Rattle.rt_model.specs.declared.request.RequestKind.TheVariants as kind
use Rattle.rt_model.specs.declared.seg_meta.SeenMeta.{SeenMeta}
use Rattle.rt_model.specs.declared.sent.Sent.TheVariants as sent
use Rattle.rt_model.specs.declared.status.Status.{Status}
use Rattle.rt_model.specs.declared.status.Status.TheVariants.{InProgress, Done, Abandoned}
use Rattle.rt_model.specs.Completion.{first, react}
use Rattle.rt_model.specs.Finished.{committed_row, abandoned_row}
use Rattle.rt_model.specs.Metadata.{IsDoneStatus}
use Rattle.rt_model.specs.Starting.{Starting}
use Rattle.rt_deep.specs.declared.deep_put.DeepPut.{DeepPut}
use Rattle.rt_deep.specs.declared.refused.DeepRefused.{DeepRefused}
use Rattle.rt_deep.specs.declared.refused.DeepRefused.TheVariants as deep
use Rattle.rt_deep.specs.Calls as of_deep
use Rattle.rt_deep.proofs.Seeing.{put_seen}
use Rattle.rt_store.specs.declared.refused.StoreRefused.{StoreRefused}
use Rattle.rt_store.specs.declared.refused.StoreRefused.TheVariants.{NoNode, Exists, VersionChanged, Failed, Memory}
use Rattle.rt_store.specs.Calls.{Reads}
use Rattle.rt_store.specs.Meaning.{Meaning}
use Rattle.rt_store.proofs.Seeing.{read_seen}
use Rattle.rt_past.specs.Files.{Stands}
use Rattle.rt_past.specs.Past.{Past}
use Rattle.rt_past.specs.Replies.{IsStatus}
use Rattle.rt_past.specs.Segments.{WasDone}
use Rattle.rt_commit.specs.declared.job.Job.{Job}
use Rattle.rt_commit.specs.Assignment.{replicas_in}
use Rattle.rt_commit.specs.Calls.{Makes, DeepMeaning}
use Rattle.rt_commit.specs.IsJob.{IsJob}
use Rattle.rt_commit.specs.Job.{Stepping, commits, job_call, job_step}
use Rattle.rt_commit.specs.Lasting.{WasSent}
use Rattle.rt_commit.specs.Own.{IsOwnAnswer, IsOwnReply}
use Rattle.rt_commit.proofs.Making.{makes_some}
use Rattle.rt_commit.proofs.Owns.{told_stage}
use Rattle.rt_controller.specs.declared.handled.Handled.{Handled}
use Rattle.rt_controller.specs.declared.segment_machine.SegmentMachine.{SegmentMachine}
use Rattle.rt_controller.specs.declared.starting.NamedFile.{NamedFile}
use Rattle.rt_controller.specs.Answers.{Handling, after_put, commit_stage, follows, follows_by, named_file, read_write, replies, status_of}
use Rattle.rt_controller.specs.Controller.{Controlling, added, replaced, with_machine}
use Rattle.rt_controller.specs.IsController.{IsController}
use Rattle.rt_controller.specs.Own.{AreTaken, IsViewOf}
use Rattle.rt_controller.specs.Requests.{Turn, not_leading, uploads, not_assigned, past_last, has_machine, has_none, after_read, at_machine, by_node, by_status, call_of, first_state, handled_at, turn_of}
use Rattle.rt_controller.specs.Right.{IsHandled, IsReplied}
use Rattle.rt_controller.specs.Steps.{Handles, Works}
use Rattle.rt_controller.specs.Working.{Working, job_place, settled, with_stage, work_at, work_call_at, work_call_on, work_on, worked}
use Rattle.rt_controller.proofs.KeepsRequests.{has_at}
use Rattle.rt_controller.proofs.RightStatuses.{abandoned_right, own_said, row_right}
use Rattle.rt_controller.proofs.Turns.{Tells, told_turn}

-- ---- a request

module _ (view : Past) (r : Request) (has : Has view.sent (sent.Request r)) where
  abbrev Right : Handling → Type 0
  Right x = IsHandled view x.handled

  -- an answer that is given at once
  at_once : (c : Controlling) (s : ReplyStatus) → IsStatus view r s → Right (replies c r s)
  at_once c s k = record { request = r; was_sent = has; answers = refl; status = k }

  commits_right : (c : Controlling) (end : Offset) (o : Option NamedFile) → Right (follows_by c r (commit_stage end o))
  commits_right c end (Some file) = tt
  commits_right c end None = at_once c status.Hold tt

  follows_right : (c : Controlling) (seen : SeenMeta) (y : Reaction) → Right (follows c r seen y)
  follows_right c seen (reaction.Answer said) = at_once c (status_of said) (own_said view r said)
  follows_right c seen (reaction.StartCommit end) = commits_right c end (named_file r seen)
  follows_right c seen reaction.StartOffline = tt

  status_answers : (c : Controlling) (now : Moment) (what : Ask) (m : SeenMeta) (s : Status) → Has view.history (read_write r m) → m.meta.status ≡ s
      → Right (by_status c r now what m s)
  status_answers c now what m InProgress there e =
      let y = react (first m (replicas_in c.assigned r.partition) (first_state what) now) r.number.instance what now in
      let kept : SegmentMachine = record { partition = r.partition; sequence = r.sequence; machine = y.1 } in
      follows_right (record c { machines = added c.machines kept }) m y.0
  status_answers c now what m (Done commit) there e =
      at_once c (committed_row m commit.end what) (row_right view r m commit.end what (there, subst IsDoneStatus (sym e) tt))
  status_answers c now what m Abandoned there e = at_once c (abandoned_row what) (abandoned_right view r what)

  abbrev write_at : ℕ → Node → Seen
  write_at version n = record { key = key.Meta r.partition r.sequence; version = version; node = n }

  node_answers : (c : Controlling) (now : Moment) (what : Ask) (version : ℕ) (n : Node) → Has view.history (write_at version n)
      → Right (by_node c r now what version n)
  node_answers c now what version (node.Meta meta) there = status_answers c now what (record { version = version; meta = meta }) meta.status there refl
  node_answers c now what version (node.Ideal i) there = at_once c _ tt
  node_answers c now what version node.Boot there = at_once c _ tt
  node_answers c now what version node.Gone there = at_once c _ tt

  abbrev some_handling : Handling → Option Handling
  some_handling x = Some x

  same_right : (x y : Handling) → some_handling x ≡ some_handling y → Right x → Right y
  same_right x y e k = subst (λ (h : Handling). IsHandled view h.handled) (same_Some x y e) k

  read_answers : (s t : Meaning) (c : Controlling) (now : Moment) (what : Ask) (answer : Result Seen StoreRefused) (x : Handling)
      → view.history ≡ t.seen → Reads s t (key.Meta r.partition r.sequence) answer → after_read c r now what answer ≡ Some x → Right x
  read_answers s t c now what (Ok w) x same m e =
      let seen = read_seen s t (key.Meta r.partition r.sequence) w m in
      let there : Has view.history w = subst (λ (h : List Seen). Has h w) (sym same) seen.0 in
      same_right _ x e (node_answers c now what w.version w.node (has_at view.history r w there seen.1))
  read_answers s t c now what (Err NoNode) x same m e = same_right _ x e (at_once c _ tt)
  read_answers s t c now what (Err (Exists found)) x same m e = same_right _ x e (at_once c _ tt)
  read_answers s t c now what (Err (VersionChanged expected found)) x same m e = same_right _ x e (at_once c _ tt)
  read_answers s t c now what (Err Failed) x same m e = same_right _ x e (at_once c _ tt)
  read_answers s t c now what (Err Memory) x same m e = absurd (cc)

  put_answers : (d e : DeepMeaning) (c : Controlling) (path bytes : List ℕ) (answer : Result (Unit {0}) DeepRefused) (x : Handling)
      → r.kind ≡ kind.Upload path bytes → view.files ≡ e.seen → of_deep.Puts d e path bytes answer → after_put c r path answer ≡ Some x → Right x
  put_answers d e c path bytes (Ok u) x is same m f =
      same_right _ x f
      (at_once c (status.UploadSuccess path)
      (bytes, is, subst (λ (fs : List DeepPut). Stands fs path bytes) (sym same) (put_seen d e path bytes m)))
  put_answers d e c path bytes (Err deep.Absent) x is same m f = same_right _ x f (at_once c _ tt)
  put_answers d e c path bytes (Err (deep.OtherBytes kept offered)) x is same m f = same_right _ x f (at_once c _ tt)
  put_answers d e c path bytes (Err deep.Failed) x is same m f = same_right _ x f (at_once c _ tt)
  put_answers d e c path bytes (Err deep.Memory) x is same m f = absurd (cc)

  slot_answers : (c : Controlling) (now : Moment) (place : ℕ) (what : Ask) (o : Option SegmentMachine) (x : Handling)
      → at_machine c r now place what o ≡ Some x → Right x
  slot_answers c now place what None x e = absurd (cc)
  slot_answers c now place what (Some m) x e =
      let y = react m.machine r.number.instance what now in
      same_right _ x e (follows_right (record c { machines = replaced c.machines place (with_machine m y.1) }) m.machine.seen y.0)

  turn_answers : (s t : Meaning) (d e : DeepMeaning) (c : Controlling) (now : Moment) (turn : Turn) (x : Handling) → IsViewOf view t e
      → Tells c r turn → Makes s t d e (call_of r turn) (λ a. handled_at c r now turn a ≡ Some x) → Right x
  turn_answers s t d e c now not_leading x v told m = same_right _ x m.2 (at_once c status.NotLeader tt)
  turn_answers s t d e c now (uploads path bytes) x v told (answer, put, same, is) = put_answers d e c path bytes answer x told v.files put is
  turn_answers s t d e c now not_assigned x v told m = same_right _ x m.2 (at_once c _ tt)
  turn_answers s t d e c now past_last x v told m = same_right _ x m.2 (at_once c status.Hold tt)
  turn_answers s t d e c now (has_machine place what) x v told m = slot_answers c now place what (slice_get c.machines place) x m.2
  turn_answers s t d e c now (has_none what) x v told (answer, read, same, is) = read_answers s t c now what answer x v.history read is

pub request_answers : (view : Past) (s t : Meaning) (d e : DeepMeaning) (c new : Controlling) (r : Request) (now : Moment) (what : Handled)
    → IsViewOf view t e → Has view.sent (sent.Request r) → Handles {E = Unit {0}} s t d e c r now new (Ok what) → IsHandled view what
request_answers view s t d e c new r now what v has h =
    turn_answers view r has s t d e c now (turn_of c r) (record { controller = new; handled = what }) v (told_turn c r) h

-- ---- a step of a job

-- an answer with which a job ends is to the request that it answers
own_status : (view : Past) (a : Asked) (w : WasSent view a) (r : ReplyStatus) → IsOwnReply view.history a.partition a.sequence r
    → IsStatus view w.request r
own_status view a w (status.CommitSuccess seen) k =
    let q = w.request in
    let first : q.partition ≡ a.partition = ap (λ (x : Asked). x.partition) w.answers in
    let second : q.sequence ≡ a.sequence = ap (λ (x : Asked). x.sequence) w.answers in
    subst (λ (t : Sequence). WasDone view.history q.partition t seen) (sym second)
    (subst (λ (o : Partition). WasDone view.history o a.sequence seen) (sym first) k)
own_status view a w status.Processed k = tt
own_status view a w (status.Failed because) k = tt
own_status view a w (status.Keep seen) k = absurd k
own_status view a w (status.UploadSuccess path) k = absurd k
own_status view a w status.Hold k = absurd k
own_status view a w (status.CatchUp offset) k = absurd k
own_status view a w status.Discard k = absurd k
own_status view a w (status.Commit offset) k = absurd k
own_status view a w status.NotLeader k = absurd k
own_status view a w status.CommitContinue k = absurd k

module _ (view : Past) (st : Starting) (s t : Meaning) (d e : DeepMeaning) (c : Controlling) (now : Moment) (v : IsViewOf view t e)
    (taken : AreTaken view c.jobs) (k : IsController st s.seen c) where
  abbrev Replied : Working → Type 0
  Replied w = IsReplied view w.step.reply

  ended_right : (place : ℕ) (j : Job) (x : Stepping) (o : Option ReplyStatus) → WasSent view j.asked
      → IsOwnAnswer view.history j.asked.partition j.asked.sequence o
      → Replied (settled (with_stage c place j x.stage) place j.asked (commits j.stage) x.did o)
  ended_right place j x None sent own = tt
  ended_right place j x (Some r) sent own =
      record { request = sent.request; was_sent = sent.was_sent; answers = sent.answers; status = own_status view j.asked sent r own }

  abbrev some_working : Working → Option Working
  some_working w = Some w

  same_replied : (x y : Working) → some_working x ≡ some_working y → Replied x → Replied y
  same_replied x y f p = subst (λ (w : Working). IsReplied view w.step.reply) (same_Some x y f) p

  work_answers : (place : ℕ) (j : Job) (w : Working) → slice_get c.jobs place ≡ Some j
      → Makes s t d e (job_call c.assigned j now) (λ a. worked c place j (job_step j now a) ≡ Some w) → Replied w
  work_answers place j w at m =
      let sent = All-found (λ (i : Job). WasSent view i.asked) c.jobs place j taken at in
      let job = All-found (IsJob st s.seen) c.jobs place j k.jobs at in
      let x = makes_some s t d e (job_call c.assigned j now) (job_step j now) (λ o. worked c place j o ≡ Some w) (λ f. none-some w f) m in
      let told = told_stage s t d e c.assigned j.asked now j.stage x.0 job.at x.1 in
      let H : List Seen → Type 0 = λ h. IsOwnAnswer h j.asked.partition j.asked.sequence x.0.did.status in
      same_replied _ w x.2 (ended_right place j x.0 x.0.did.status sent (subst H (sym v.history) told))

  slot_replies : (place : ℕ) (o : Option Job) (w : Working) → slice_get c.jobs place ≡ o
      → Makes s t d e (work_call_at c now o) (λ a. work_at c now a place o ≡ Some w) → Replied w
  slot_replies place None w at m = absurd (none-some w m.2)
  slot_replies place (Some j) w at m = work_answers place j w at m

  place_replies : (o : Option ℕ) (w : Working) → Makes s t d e (work_call_on c now o) (λ a. work_on c now a o ≡ Some w) → Replied w
  place_replies None w m = absurd (none-some w m.2)
  place_replies (Some place) w m = slot_replies place (slice_get c.jobs place) w refl m

pub step_answers : (view : Past) (st : Starting) (s t : Meaning) (d e : DeepMeaning) (c new : Controlling) (n : ℕ) (now : Moment) (step : JobStep)
    → IsViewOf view t e → AreTaken view c.jobs → IsController st s.seen c → Works s t d e c n now new (Ok step) → IsReplied view step.reply
step_answers view st s t d e c new n now step v taken k h =
    place_replies view st s t d e c now v taken k (job_place c.jobs n) (record { controller = new; step = step }) h
