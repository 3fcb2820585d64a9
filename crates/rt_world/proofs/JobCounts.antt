-- A controller starts one job at most as it takes a request, and none as a job of its own steps.
use Rattle.std.proofs.Common.{◌≡◌, ◌+◌, ◌≤◌, ℕ, List, Option, Some, None, Result, Ok, Err, refl, subst, arith, slice_get}
use Rattle.std.proofs.lemmas.Option.{same_Some, none-some}
use Rattle.rt_base.specs.declared.numbers.Moment.{Moment}
use Rattle.rt_commit.specs.Calls.{Answer, Call, DeepMeaning, Makes, calls_nothing, created, creates, got, gets, nothing, put, puts, read, reads, set, sets}
use Rattle.rt_controller.specs.Answers.{Handling, after_put, follows_by}
use Rattle.rt_controller.specs.Requests.{Turn, after_read, at_machine, by_node, by_status, call_of, handled_at, has_machine, has_none, not_assigned, not_leading, past_last, turn_of, uploads}
use Rattle.rt_controller.specs.Working.{Working, job_place, settled, with_stage, work, work_at, work_call, work_on, worked}
use Rattle.rt_controller.specs.Controller.{Controlling}
use Rattle.rt_commit.specs.Job.{Stepping, commits, job_step}
use Rattle.rt_controller.specs.Steps.{Handles, Works}
use Rattle.rt_controller.specs.declared.handled.Handled.{Handled}
use Rattle.rt_commit.specs.declared.job.Job.{Job}
use Rattle.rt_commit.specs.declared.job.JobStage.{JobStage}
use Rattle.rt_controller.specs.declared.segment_machine.SegmentMachine.{SegmentMachine}
use Rattle.rt_deep.specs.declared.refused.DeepRefused.{DeepRefused}
use Rattle.rt_deep.specs.declared.refused.DeepRefused.TheVariants as deep
use Rattle.rt_model.specs.declared.completion.Ask.{Ask}
use Rattle.rt_model.specs.declared.job_step.JobStep.{JobStep}
use Rattle.rt_model.specs.declared.node.Node.{Node}
use Rattle.rt_model.specs.declared.node.Node.TheVariants as node
use Rattle.rt_model.specs.declared.node.Seen.{Seen}
use Rattle.rt_model.specs.declared.reply.ReplyStatus.{ReplyStatus}
use Rattle.rt_model.specs.declared.request.Request.{Request}
use Rattle.rt_model.specs.declared.seg_meta.SeenMeta.{SeenMeta}
use Rattle.rt_model.specs.declared.status.Status.{Status}
use Rattle.rt_model.specs.declared.status.Status.TheVariants.{InProgress, Done, Abandoned}
use Rattle.rt_store.specs.Meaning.{Meaning}
use Rattle.rt_store.specs.declared.refused.StoreRefused.{StoreRefused}
use Rattle.rt_store.specs.declared.refused.StoreRefused.TheVariants as store

-- ---- a request is taken

-- one job more was started at most
abbrev One : Controlling → Handling → Type 0
One c x = x.controller.started ≤ c.started + 1

abbrev some_handling : Handling → Option Handling
some_handling x = Some x

that_one : (c : Controlling) (x y : Handling) → some_handling x ≡ some_handling y → One c x → One c y
that_one c x y e k = subst (One c) (same_Some x y e) k

module _ (r : Request) (now : Moment) where
  follows_one : (c : Controlling) (o : Result JobStage ReplyStatus) → One c (follows_by c r o)
  follows_one c (Ok s) = omega arith
  follows_one c (Err s) = omega arith

  -- the machines of a controller are no part of its count
  follows_with : (c : Controlling) (ms : List SegmentMachine) (o : Result JobStage ReplyStatus) → One c (follows_by (record c { machines = ms }) r o)
  follows_with c ms o = follows_one (record c { machines = ms }) o

  status_one : (c : Controlling) (what : Ask) (seen : SeenMeta) (s : Status) → One c (by_status c r now what seen s)
  status_one c what seen InProgress = follows_with c _ _
  status_one c what seen (Done commit) = omega arith
  status_one c what seen Abandoned = omega arith

  node_one : (c : Controlling) (what : Ask) (version : ℕ) (n : Node) → One c (by_node c r now what version n)
  node_one c what version (node.Meta meta) = status_one c what (record { version = version; meta = meta }) meta.status
  node_one c what version (node.Ideal i) = omega arith
  node_one c what version node.Boot = omega arith
  node_one c what version node.Gone = omega arith

  read_one : (c : Controlling) (what : Ask) (answer : Result Seen StoreRefused) (x : Handling) → after_read c r now what answer ≡ Some x → One c x
  read_one c what (Ok w) x e = that_one c _ x e (node_one c what w.version w.node)
  read_one c what (Err store.NoNode) x e = that_one c _ x e (omega arith)
  read_one c what (Err (store.Exists found)) x e = that_one c _ x e (omega arith)
  read_one c what (Err (store.VersionChanged expected found)) x e = that_one c _ x e (omega arith)
  read_one c what (Err store.Failed) x e = that_one c _ x e (omega arith)
  read_one c what (Err store.Memory) x e = absurd (none-some x e)

  put_one : (c : Controlling) (path : List ℕ) (answer : Result (Unit {0}) DeepRefused) (x : Handling) → after_put c r path answer ≡ Some x → One c x
  put_one c path (Ok u) x e = that_one c _ x e (omega arith)
  put_one c path (Err deep.Absent) x e = that_one c _ x e (omega arith)
  put_one c path (Err (deep.OtherBytes kept offered)) x e = that_one c _ x e (omega arith)
  put_one c path (Err deep.Failed) x e = that_one c _ x e (omega arith)
  put_one c path (Err deep.Memory) x e = absurd (none-some x e)

  slot_one : (c : Controlling) (place : ℕ) (what : Ask) (o : Option SegmentMachine) (x : Handling) → at_machine c r now place what o ≡ Some x → One c x
  slot_one c place what None x e = absurd (none-some x e)
  slot_one c place what (Some m) x e = that_one c _ x e (follows_with c _ _)

  turn_one : (s t : Meaning) (d e : DeepMeaning) (c : Controlling) (turn : Turn) (x : Handling)
      → Makes s t d e (call_of r turn) (λ a. handled_at c r now turn a ≡ Some x) → One c x
  turn_one s t d e c not_leading x m = that_one c _ x m.2 (omega arith)
  turn_one s t d e c (uploads path bytes) x (answer, made, same, is) = put_one c path answer x is
  turn_one s t d e c not_assigned x m = that_one c _ x m.2 (omega arith)
  turn_one s t d e c past_last x m = that_one c _ x m.2 (omega arith)
  turn_one s t d e c (has_machine place what) x m = slot_one c place what (slice_get c.machines place) x m.2
  turn_one s t d e c (has_none what) x (answer, made, same, is) = read_one c what answer x is

pub handles_started : (s t : Meaning) (d e : DeepMeaning) (c : Controlling) (r : Request) (now : Moment) (new : Controlling) (what : Handled)
    → Handles {E = Unit {0}} s t d e c r now new (Ok what) → new.started ≤ c.started + 1
handles_started s t d e c r now new what h = turn_one r now s t d e c (turn_of c r) (record { controller = new; handled = what }) h

-- ---- a job steps

abbrev Same : Controlling → Option Working → Type 0
Same c None = Unit {0}
Same c (Some w) = w.controller.started ≡ c.started

settled_same : (c : Controlling) (place : ℕ) (j : Job) (x : Stepping) (o : Option ReplyStatus)
    → Same c (Some (settled (with_stage c place j x.stage) place j.asked (commits j.stage) x.did o))
settled_same c place j x None = refl
settled_same c place j x (Some s) = refl

worked_same : (c : Controlling) (place : ℕ) (j : Job) (o : Option Stepping) → Same c (worked c place j o)
worked_same c place j None = tt
worked_same c place j (Some x) = settled_same c place j x x.did.status

at_same : (c : Controlling) (now : Moment) (a : Answer) (place : ℕ) (o : Option Job) → Same c (work_at c now a place o)
at_same c now a place None = tt
at_same c now a place (Some j) = worked_same c place j (job_step j now a)

on_same : (c : Controlling) (now : Moment) (a : Answer) (o : Option ℕ) → Same c (work_on c now a o)
on_same c now a None = tt
on_same c now a (Some place) = at_same c now a place (slice_get c.jobs place)

-- what is true whatever a call answers
pub whatever : (s t : Meaning) (d e : DeepMeaning) (call : Call) (P : Answer → Type 0) (Q : Type 0) → ((a : Answer) → P a → Q) → Makes s t d e call P → Q
whatever s t d e calls_nothing P Q f m = f nothing m.2
whatever s t d e (puts path bytes) P Q f (answer, made, same, p) = f (put answer) p
whatever s t d e (gets path) P Q f (answer, made, same, p) = f (got answer) p
whatever s t d e (reads k) P Q f (answer, made, same, p) = f (read answer) p
whatever s t d e (sets from n) P Q f (answer, made, same, p) = f (set answer) p
whatever s t d e (creates k n prior) P Q f (answer, made, same, p) = f (created answer) p

pub works_started : (s t : Meaning) (d e : DeepMeaning) (c new : Controlling) (n : ℕ) (now : Moment) (step : JobStep) → Works s t d e c n now new (Ok step)
    → new.started ≡ c.started
works_started s t d e c new n now step h =
    whatever s t d e (work_call c n now) (λ a. work c n now a ≡ Some (record { controller = new; step = step })) (new.started ≡ c.started)
    (λ a is. subst (Same c) is (on_same c now a (job_place c.jobs n))) h
