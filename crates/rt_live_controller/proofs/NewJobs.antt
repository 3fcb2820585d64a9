-- What a request adds to a controller's jobs: none, or one that has made no step.
use Rattle.std.proofs.Common.{◌≡◌, ◌⊎◌, inl, inr, ℕ, List, [], ◌∷◌, ◌++◌, Option, Some, None, Result, Ok, Err, refl, subst}
use Rattle.std.specs.Prelude.{slice_get}
use Rattle.std.proofs.lemmas.Option.{same_Some}
use Rattle.rt_base.specs.declared.numbers.Moment.{Moment}
use Rattle.rt_base.specs.declared.numbers.Offset.{Offset}
use Rattle.rt_commit.specs.Assignment.{replicas_in}
use Rattle.rt_commit.specs.Calls.{DeepMeaning, Makes}
use Rattle.rt_commit.specs.declared.job.Job.{Job}
use Rattle.rt_commit.specs.declared.job.JobStage.{JobStage}
use Rattle.rt_commit.specs.declared.job.JobStage.TheVariants as stage
use Rattle.rt_controller.specs.Answers.{Handling, after_put, commit_stage, follows, follows_by, named_file}
use Rattle.rt_controller.specs.Controller.{Controlling, added, replaced, with_machine}
use Rattle.rt_controller.specs.Requests.{Turn, after_read, at_machine, by_node, by_status, call_of, first_state, handled_at, has_machine, has_none, not_assigned, not_leading, past_last, turn_of, uploads}
use Rattle.rt_controller.specs.Steps.{Handles}
use Rattle.rt_controller.specs.declared.handled.Handled.{Handled}
use Rattle.rt_controller.specs.declared.segment_machine.SegmentMachine.{SegmentMachine}
use Rattle.rt_controller.specs.declared.starting.NamedFile.{NamedFile}
use Rattle.rt_deep.specs.declared.refused.DeepRefused.{DeepRefused}
use Rattle.rt_deep.specs.declared.refused.DeepRefused.TheVariants as deep
use Rattle.rt_model.specs.Completion.{first, react}
use Rattle.rt_model.specs.Messages.{asked_of}
use Rattle.rt_model.specs.declared.completion.Ask.{Ask}
use Rattle.rt_model.specs.declared.completion.Reaction.{Reaction}
use Rattle.rt_model.specs.declared.completion.Reaction.TheVariants as reaction
use Rattle.rt_model.specs.declared.node.Node.{Node}
use Rattle.rt_model.specs.declared.node.Node.TheVariants as node
use Rattle.rt_model.specs.declared.node.Seen.{Seen}
use Rattle.rt_model.specs.declared.request.Request.{Request}
use Rattle.rt_model.specs.declared.seg_meta.SeenMeta.{SeenMeta}
use Rattle.rt_model.specs.declared.status.Status.{Status}
use Rattle.rt_model.specs.declared.status.Status.TheVariants.{Abandoned, Done, InProgress}
use Rattle.rt_store.specs.Meaning.{Meaning}
use Rattle.rt_store.specs.declared.refused.StoreRefused.{StoreRefused}
use Rattle.rt_store.specs.declared.refused.StoreRefused.TheVariants.{Exists, Failed, Memory, NoNode, VersionChanged}

-- a job's first stage
abbrev pub IsFirst : JobStage → Type 0
IsFirst (stage.Check from end path) = Unit {0}
IsFirst (stage.IdealRead w found) = Unit {0}
IsFirst (stage.Done from commit) = ⊥
IsFirst (stage.Next done) = ⊥
IsFirst (stage.IdealSet w found ideal) = ⊥
IsFirst stage.Ended = ⊥

pub record NewJob (c : Controlling) (r : Request) (new : Controlling) : Type 0 where
  pub job : Job
  pub jobs : new.jobs ≡ c.jobs ++ job ∷ []
  pub asked : job.asked ≡ asked_of r
  pub first : IsFirst job.stage

module _ (c : Controlling) (r : Request) (now : Moment) where
  abbrev Adds : Handling → Type 0
  Adds x = (x.controller.jobs ≡ c.jobs) ⊎ NewJob c r x.controller

  abbrev some : Handling → Option Handling
  some x = Some x

  -- what is given is this
  given : (x y : Handling) → some x ≡ some y → Adds x → Adds y
  given x y e adds = subst Adds (same_Some x y e) adds

  starts : (ns : List SegmentMachine) (s : JobStage) → IsFirst s → Adds (follows_by (record c { machines = ns }) r (Ok s))
  starts ns s is = inr (record { job = record { number = c.started; asked = asked_of r; stage = s }; jobs = refl; asked = refl; first = is })

  commits : (ns : List SegmentMachine) (end : Offset) (o : Option NamedFile) → Adds (follows_by (record c { machines = ns }) r (commit_stage end o))
  commits ns end None = inl refl
  commits ns end (Some file) = starts ns (stage.Check file.read end file.path) tt

  reacts : (ns : List SegmentMachine) (seen : SeenMeta) (y : Reaction) → Adds (follows (record c { machines = ns }) r seen y)
  reacts ns seen (reaction.Answer what) = inl refl
  reacts ns seen (reaction.StartCommit end) = commits ns end (named_file r seen)
  reacts ns seen reaction.StartOffline = starts ns _ tt

  slot_adds : (place : ℕ) (what : Ask) (o : Option SegmentMachine) (x : Handling) → at_machine c r now place what o ≡ Some x → Adds x
  slot_adds place what None x e = absurd (cc)
  slot_adds place what (Some m) x e =
      let y = react m.machine r.number.instance what now in
      given _ x e (reacts (replaced c.machines place (with_machine m y.1)) m.machine.seen y.0)

  status_adds : (what : Ask) (seen : SeenMeta) (s : Status) → Adds (by_status c r now what seen s)
  status_adds what seen InProgress =
      let y = react (first seen (replicas_in c.assigned r.partition) (first_state what) now) r.number.instance what now in
      reacts (added c.machines (record { partition = r.partition; sequence = r.sequence; machine = y.1 })) seen y.0
  status_adds what seen (Done commit) = inl refl
  status_adds what seen Abandoned = inl refl

  node_adds : (what : Ask) (version : ℕ) (n : Node) → Adds (by_node c r now what version n)
  node_adds what version (node.Meta m) = status_adds what (record { version = version; meta = m }) m.status
  node_adds what version (node.Ideal i) = inl refl
  node_adds what version node.Boot = inl refl
  node_adds what version node.Gone = inl refl

  read_adds : (what : Ask) (answer : Result Seen StoreRefused) (x : Handling) → after_read c r now what answer ≡ Some x → Adds x
  read_adds what (Ok w) x e = given _ x e (node_adds what w.version w.node)
  read_adds what (Err NoNode) x e = given _ x e (inl refl)
  read_adds what (Err (Exists found)) x e = given _ x e (inl refl)
  read_adds what (Err (VersionChanged expected found)) x e = given _ x e (inl refl)
  read_adds what (Err Failed) x e = given _ x e (inl refl)
  read_adds what (Err Memory) x e = absurd (cc)

  put_adds : (path : List ℕ) (answer : Result (Unit {0}) DeepRefused) (x : Handling) → after_put c r path answer ≡ Some x → Adds x
  put_adds path (Ok u) x e = given _ x e (inl refl)
  put_adds path (Err deep.Absent) x e = given _ x e (inl refl)
  put_adds path (Err (deep.OtherBytes kept offered)) x e = given _ x e (inl refl)
  put_adds path (Err deep.Failed) x e = given _ x e (inl refl)
  put_adds path (Err deep.Memory) x e = absurd (cc)

  turn_adds : (s t : Meaning) (d e : DeepMeaning) (turn : Turn) (x : Handling)
      → Makes s t d e (call_of r turn) (λ a. handled_at c r now turn a ≡ Some x) → Adds x
  turn_adds s t d e not_leading x m = given _ x m.2 (inl refl)
  turn_adds s t d e (uploads path bytes) x (answer, put, same, f) = put_adds path answer x f
  turn_adds s t d e not_assigned x m = given _ x m.2 (inl refl)
  turn_adds s t d e past_last x m = given _ x m.2 (inl refl)
  turn_adds s t d e (has_machine place what) x m = slot_adds place what (slice_get c.machines place) x m.2
  turn_adds s t d e (has_none what) x (answer, read, same, f) = read_adds what answer x f

  pub request_adds : (s t : Meaning) (d e : DeepMeaning) (new : Controlling) (what : Handled)
      → Handles {E = Unit {0}} s t d e c r now new (Ok what) → (new.jobs ≡ c.jobs) ⊎ NewJob c r new
  request_adds s t d e new what h = turn_adds s t d e (turn_of c r) (record { controller = new; handled = what }) h
