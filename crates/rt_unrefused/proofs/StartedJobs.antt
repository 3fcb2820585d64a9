-- A job that a controller starts is for the request that it took, and for a commitEnd it commits its segment.
use Rattle.std.proofs.Common.{◌≡◌, ◌==◌, ℕ, true, List, [], ◌∷◌, ◌++◌, Option, Some, None, Result, Ok, Err, refl, sym, ◌∙◌, ap, subst, slice_get}
use Rattle.std.proofs.lemmas.Option.{same_Some}
use Rattle.rt_base.specs.declared.numbers.Instance.{Instance}
use Rattle.rt_base.specs.declared.numbers.Moment.{Moment}
use Rattle.rt_base.specs.declared.numbers.Offset.{Offset}
use Rattle.rt_commit.specs.Assignment.{replicas_in}
use Rattle.rt_commit.specs.Calls.{DeepMeaning, Makes}
use Rattle.rt_commit.specs.Job.{commits}
use Rattle.rt_commit.specs.declared.job.Job.{Job}
use Rattle.rt_commit.specs.declared.job.JobStage.{JobStage}
use Rattle.rt_commit.specs.declared.job.JobStage.TheVariants as stage
use Rattle.rt_commit.specs.declared.work.Work.TheVariants as work
use Rattle.rt_controller.proofs.Turns.{Tells, told_turn}
use Rattle.rt_controller.specs.Answers.{Handling, after_put, ask_in, commit_stage, follows, follows_by, named_file}
use Rattle.rt_controller.specs.Controller.{Controlling, added, replaced, with_machine}
use Rattle.rt_controller.specs.Own.{StartsCommit}
use Rattle.rt_controller.specs.Requests.{Turn, not_leading, uploads, not_assigned, past_last, has_machine, has_none, after_read, at_machine, by_node, by_status, call_of, first_state, handled_at, turn_of}
use Rattle.rt_controller.specs.Steps.{Handles}
use Rattle.rt_controller.specs.declared.handled.Handled.TheVariants as handled
use Rattle.rt_controller.specs.declared.segment_machine.SegmentMachine.{SegmentMachine}
use Rattle.rt_controller.specs.declared.starting.NamedFile.{NamedFile}
use Rattle.rt_deep.specs.declared.refused.DeepRefused.{DeepRefused}
use Rattle.rt_deep.specs.declared.refused.DeepRefused.TheVariants as deep
use Rattle.rt_fsm.proofs.Table.{by_react, by_test}
use Rattle.rt_model.specs.Completion.{Completion, commit_end_in, first, react}
use Rattle.rt_model.specs.Messages.{asked_of}
use Rattle.rt_model.specs.declared.completion.Ask.{Ask}
use Rattle.rt_model.specs.declared.completion.Ask.TheVariants as ask
use Rattle.rt_model.specs.declared.completion.Reaction.{Reaction}
use Rattle.rt_model.specs.declared.completion.Reaction.TheVariants as reaction
use Rattle.rt_model.specs.declared.machine_state.MachineState.{MachineState}
use Rattle.rt_model.specs.declared.machine_state.MachineState.TheVariants.{PartialConsuming, Holding, CommitterDecided, CommitterNotified, CommitterUploading, Committing, Committed, Aborted}
use Rattle.rt_model.specs.declared.node.Node.{Node}
use Rattle.rt_model.specs.declared.node.Node.TheVariants as node
use Rattle.rt_model.specs.declared.node.Seen.{Seen}
use Rattle.rt_model.specs.declared.request.Request.{Request}
use Rattle.rt_model.specs.declared.reply.Reply.{Reply}
use Rattle.rt_model.specs.declared.request.RequestKind.{RequestKind}
use Rattle.rt_model.specs.declared.request.RequestKind.TheVariants as kind
use Rattle.rt_model.specs.declared.seg_meta.SeenMeta.{SeenMeta}
use Rattle.rt_model.specs.declared.status.Status.{Status}
use Rattle.rt_model.specs.declared.status.Status.TheVariants.{Abandoned, Done, InProgress}
use Rattle.rt_store.specs.Meaning.{Meaning}
use Rattle.rt_store.specs.declared.refused.StoreRefused.{StoreRefused}
use Rattle.rt_store.specs.declared.refused.StoreRefused.TheVariants.{Exists, Failed, Memory, NoNode, VersionChanged}

-- ---- no commitEnd turns an instance OFFLINE

abbrev Stays : Reaction × Completion → Type 0
Stays y = y.0 ≡ reaction.StartOffline → ⊥

in_state : (s : MachineState) (m : Completion) (i : Instance) (x : Offset) → Stays (commit_end_in s m i x)
in_state PartialConsuming m i x = λ e. cc
in_state Holding m i x = λ e. cc
in_state CommitterDecided m i x = λ e. cc
in_state CommitterNotified m i x = λ e. cc
in_state CommitterUploading m i x = by_test Stays (i.0 == m.winner.0) _ _ (λ a. by_test Stays (x.0 == m.offset.0) _ _ (λ b e. cc) (λ b e. cc)) (λ a e. cc)
in_state Committing m i x = λ e. cc
in_state Committed m i x = λ e. cc
in_state Aborted m i x = λ e. cc

commit_stays : (m : Completion) (i : Instance) (x : Offset) (now : Moment) → Stays (react m i (ask.CommitEnd x) now)
commit_stays m i x now = by_react Stays m i (ask.CommitEnd x) now (λ late e. cc) (λ a kept e. cc) (λ late past. in_state m.state m i x)

-- ---- what starts a job

module _ (c : Controlling) (r : Request) (now : Moment) where
  -- a machine's reaction to what the request asks
  record IsReaction (x : Handling) : Type 0 where
    machines : List SegmentMachine
    seen : SeenMeta
    machine : Completion
    what : Ask
    asks : ask_in r.offset r.kind ≡ Some what
    is : follows (record c { machines = machines }) r seen (react machine r.number.instance what now).0 ≡ x

  -- a job that is started follows from one
  abbrev Reacts : Handling → Type 0
  Reacts x = (j : ℕ) → x.handled ≡ handled.Job j → IsReaction x

  abbrev some_handling : Handling → Option Handling
  some_handling x = Some x

  made : (y x : Handling) → Reacts y → some_handling y ≡ some_handling x → Reacts x
  made y x k e = subst Reacts (same_Some y x e) k

  at_its : (place : ℕ) (what : Ask) (o : Option SegmentMachine) (x : Handling) → ask_in r.offset r.kind ≡ Some what → at_machine c r now place what o ≡ Some x → Reacts x
  at_its place what None x asks e = absurd (cc)
  at_its place what (Some m) x asks e =
      λ j told. record {
        machines = replaced c.machines place (with_machine m (react m.machine r.number.instance what now).1);
        seen = m.machine.seen;
        machine = m.machine;
        what = what;
        asks = asks;
        is = same_Some _ x e;
      }

  by_its_status : (what : Ask) (seen : SeenMeta) (s : Status) → ask_in r.offset r.kind ≡ Some what → Reacts (by_status c r now what seen s)
  by_its_status what seen InProgress asks =
      let n = first seen (replicas_in c.assigned r.partition) (first_state what) now in
      λ j told. record {
        machines = added c.machines (record { partition = r.partition; sequence = r.sequence; machine = (react n r.number.instance what now).1 });
        seen = seen;
        machine = n;
        what = what;
        asks = asks;
        is = refl;
      }
  by_its_status what seen (Done commit) asks = λ j e. absurd (cc)
  by_its_status what seen Abandoned asks = λ j e. absurd (cc)

  by_its_node : (what : Ask) (version : ℕ) (n : Node) → ask_in r.offset r.kind ≡ Some what → Reacts (by_node c r now what version n)
  by_its_node what version (node.Meta m) asks = by_its_status what (record { version = version; meta = m }) m.status asks
  by_its_node what version (node.Ideal i) asks = λ j e. absurd (cc)
  by_its_node what version node.Boot asks = λ j e. absurd (cc)
  by_its_node what version node.Gone asks = λ j e. absurd (cc)

  read_its : (what : Ask) (answer : Result Seen StoreRefused) (x : Handling) → ask_in r.offset r.kind ≡ Some what → after_read c r now what answer ≡ Some x → Reacts x
  read_its what (Ok w) x asks e = made _ x (by_its_node what w.version w.node asks) e
  read_its what (Err NoNode) x asks e = made _ x (λ j f. absurd (cc)) e
  read_its what (Err (Exists found)) x asks e = made _ x (λ j f. absurd (cc)) e
  read_its what (Err (VersionChanged expected found)) x asks e = made _ x (λ j f. absurd (cc)) e
  read_its what (Err Failed) x asks e = made _ x (λ j f. absurd (cc)) e
  read_its what (Err Memory) x asks e = absurd (cc)

  put_its : (path : List ℕ) (answer : Result (Unit {0}) DeepRefused) (x : Handling) → after_put c r path answer ≡ Some x → Reacts x
  put_its path (Ok u) x e = made _ x (λ j f. absurd (cc)) e
  put_its path (Err deep.Absent) x e = made _ x (λ j f. absurd (cc)) e
  put_its path (Err (deep.OtherBytes kept offered)) x e = made _ x (λ j f. absurd (cc)) e
  put_its path (Err deep.Failed) x e = made _ x (λ j f. absurd (cc)) e
  put_its path (Err deep.Memory) x e = absurd (cc)

  by_turn : (s t : Meaning) (d e : DeepMeaning) (turn : Turn) (x : Handling) → Tells c r turn
      → Makes s t d e (call_of r turn) (λ a. handled_at c r now turn a ≡ Some x) → Reacts x
  by_turn s t d e not_leading x told m = made _ x (λ j f. absurd (cc)) m.2
  by_turn s t d e (uploads path bytes) x told (answer, put, same, f) = put_its path answer x f
  by_turn s t d e not_assigned x told m = made _ x (λ j f. absurd (cc)) m.2
  by_turn s t d e past_last x told m = made _ x (λ j f. absurd (cc)) m.2
  by_turn s t d e (has_machine place what) x told m = at_its place what (slice_get c.machines place) x told.2 m.2
  by_turn s t d e (has_none what) x told (answer, read, same, f) = read_its what answer x told.2 f

  -- ---- the job

  -- it gets the next number, and answers the request; where that is a commitEnd it commits
  pub record IsStarted (new : Controlling) (j : ℕ) : Type 0 where
    pub job : Job
    pub jobs : new.jobs ≡ c.jobs ++ job ∷ []
    pub number : job.number ≡ j
    pub asked : job.asked ≡ asked_of r
    pub commit : (path : List ℕ) → r.kind ≡ kind.CommitEnd path → commits job.stage ≡ true

  same_job : (i j : ℕ) → handled.Job i ≡ handled.Job j → i ≡ j
  same_job i j e = cc

  started : (ns : List SegmentMachine) (s : JobStage) (x : Handling) (j : ℕ) → ((path : List ℕ) → r.kind ≡ kind.CommitEnd path → commits s ≡ true)
      → follows_by (record c { machines = ns }) r (Ok s) ≡ x → x.handled ≡ handled.Job j → IsStarted x.controller j
  started ns s x j commit is told = record {
    job = record { number = c.started; asked = asked_of r; stage = s };
    jobs = sym (ap (λ (h : Handling). h.controller.jobs) is);
    number = same_job c.started j (ap (λ (h : Handling). h.handled) is ∙ told);
    asked = refl;
    commit = commit;
  }

  answered : (reply : Reply) (x : Handling) (j : ℕ) → handled.Reply reply ≡ x.handled → x.handled ≡ handled.Job j → ⊥
  answered reply x j is told = apart (is ∙ told)
    where
      apart : handled.Reply reply ≡ handled.Job j → ⊥
      apart e = cc

  by_file : (ns : List SegmentMachine) (end : Offset) (o : Option NamedFile) (x : Handling) (j : ℕ) → follows_by (record c { machines = ns }) r (commit_stage end o) ≡ x
      → x.handled ≡ handled.Job j → IsStarted x.controller j
  by_file ns end None x j is told = absurd (answered _ x j (ap (λ (h : Handling). h.handled) is) told)
  by_file ns end (Some file) x j is told = started ns (stage.Check file.read end file.path) x j (λ path names. refl) is told

  by_reaction : (ns : List SegmentMachine) (seen : SeenMeta) (y : Reaction) (x : Handling) (j : ℕ)
      → ((path : List ℕ) → r.kind ≡ kind.CommitEnd path → y ≡ reaction.StartOffline → ⊥) → follows (record c { machines = ns }) r seen y ≡ x
      → x.handled ≡ handled.Job j → IsStarted x.controller j
  by_reaction ns seen (reaction.Answer said) x j stays is told = absurd (answered _ x j (ap (λ (h : Handling). h.handled) is) told)
  by_reaction ns seen (reaction.StartCommit end) x j stays is told = by_file ns end (named_file r seen) x j is told
  by_reaction ns seen reaction.StartOffline x j stays is told =
      started ns (stage.IdealRead work.Offline []) x j (λ path names. absurd (stays path names refl)) is told

  abbrev some_ask : Ask → Option Ask
  some_ask a = Some a

  its_ask : (path : List ℕ) (what : Ask) → r.kind ≡ kind.CommitEnd path → ask_in r.offset r.kind ≡ Some what → ask.CommitEnd r.offset ≡ what
  its_ask path what names e = same_Some (ask.CommitEnd r.offset) what (sym (ap (λ (k : RequestKind). ask_in r.offset k) names) ∙ e)

  pub job_started : (s t : Meaning) (d e : DeepMeaning) (new : Controlling) (j : ℕ) → Handles {E = Unit {0}} s t d e c r now new (Ok (handled.Job j)) → IsStarted new j
  job_started s t d e new j h =
      let x : Handling = record { controller = new; handled = handled.Job j } in
      let k = by_turn s t d e (turn_of c r) x (told_turn c r) h j refl in
      by_reaction k.machines k.seen (react k.machine r.number.instance k.what now).0 x j
      (λ path names.
      subst (λ (a : Ask). Stays (react k.machine r.number.instance a now)) (its_ask path k.what names k.asks)
      (commit_stays k.machine r.number.instance r.offset now))
      k.is refl

pub commit_started : (c : Controlling) (r : Request) (now : Moment) (path : List ℕ) → r.kind ≡ kind.CommitEnd path → (s t : Meaning) (d e : DeepMeaning)
    (new : Controlling) (j : ℕ) → Handles {E = Unit {0}} s t d e c r now new (Ok (handled.Job j)) → StartsCommit c new
commit_started c r now path names s t d e new j h =
    let k = job_started c r now s t d e new j h in record { job = k.job; jobs = k.jobs; committing = k.commit path names }
