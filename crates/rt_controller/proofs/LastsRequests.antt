-- What lasts of a controller is kept by each request that was sent.
use Rattle.std.proofs.Common.{◌≡◌, ℕ, List, [], Option, Some, None, Result, Ok, Err, refl, sym, ◌∙◌, subst, arith}
use Rattle.std.specs.Prelude.{slice_get, All}
use Rattle.std.proofs.lemmas.List.Elements.{All-push}
use Rattle.std.proofs.lemmas.Option.{same_Some}
use Rattle.rt_base.specs.declared.numbers.Moment.{Moment}
use Rattle.rt_base.specs.declared.numbers.Offset.{Offset}
use Rattle.rt_lists.specs.Members.{Has}
use Rattle.rt_lists.proofs.Lists.{All-found}
use Rattle.rt_lists.proofs.Members.{front_push, front_same}
use Rattle.rt_model.specs.declared.completion.Ask.{Ask}
use Rattle.rt_model.specs.declared.completion.Ask.TheVariants as ask
use Rattle.rt_model.specs.declared.completion.Reaction.{Reaction}
use Rattle.rt_model.specs.declared.completion.Reaction.TheVariants as reaction
use Rattle.rt_model.specs.declared.node.Node.{Node}
use Rattle.rt_model.specs.declared.node.Node.TheVariants as node
use Rattle.rt_model.specs.declared.node.Seen.{Seen}
use Rattle.rt_model.specs.declared.request.Request.{Request}
use Rattle.rt_model.specs.declared.request.RequestKind.{RequestKind}
use Rattle.rt_model.specs.declared.request.RequestKind.TheVariants as kind
use Rattle.rt_model.specs.declared.seg_meta.SeenMeta.{SeenMeta}
use Rattle.rt_model.specs.declared.sent.Sent.TheVariants as sent
use Rattle.rt_model.specs.declared.setup.Setup.{Setup}
use Rattle.rt_model.specs.declared.status.Status.{Status}
use Rattle.rt_model.specs.declared.status.Status.TheVariants.{InProgress, Done, Abandoned}
use Rattle.rt_model.specs.Completion.{Completion, first, react}
use Rattle.rt_model.specs.Messages.{asked_of}
use Rattle.rt_deep.specs.declared.refused.DeepRefused.{DeepRefused}
use Rattle.rt_deep.specs.declared.refused.DeepRefused.TheVariants as deep
use Rattle.rt_store.specs.declared.refused.StoreRefused.{StoreRefused}
use Rattle.rt_store.specs.declared.refused.StoreRefused.TheVariants.{NoNode, Exists, VersionChanged, Failed, Memory}
use Rattle.rt_store.specs.Meaning.{Meaning}
use Rattle.rt_past.specs.Past.{Past}
use Rattle.rt_past.specs.Requests.{IsRequest}
use Rattle.rt_commit.specs.declared.job.Job.{Job}
use Rattle.rt_commit.specs.declared.job.JobStage.TheVariants as stage
use Rattle.rt_commit.specs.declared.job.JobStage.{JobStage}
use Rattle.rt_commit.specs.declared.work.Work.TheVariants as work
use Rattle.rt_commit.specs.Assignment.{replicas_in}
use Rattle.rt_commit.specs.Calls.{Makes, DeepMeaning}
use Rattle.rt_commit.specs.Lasting.{WasSent, IsBacked}
use Rattle.rt_commit.specs.Laws.{IsTrying}
use Rattle.rt_commit.proofs.Changed.{no_tries}
use Rattle.rt_commit.proofs.Lasts.{JobLasts}
use Rattle.rt_controller.specs.declared.segment_machine.SegmentMachine.{SegmentMachine}
use Rattle.rt_controller.specs.Answers.{Handling, after_put, follows, follows_by, commit_stage, named_in, read_write, ask_in}
use Rattle.rt_controller.specs.Controller.{Controlling, replaced, added, with_machine, machine_place}
use Rattle.rt_controller.specs.Lasting.{HaveOneMachine, machine_end}
use Rattle.rt_controller.specs.Requests.{Turn, not_leading, uploads, not_assigned, past_last, has_machine, has_none, turn_of, call_of, handled_at, at_machine, after_read, by_node, by_status, opens, first_state}
use Rattle.rt_controller.proofs.KeepsRequests.{All-replaced, All-added, its_machine, made}
use Rattle.rt_controller.proofs.LastsMachines.{no_first_end, MachineLasts, reacts_lasts, first_lasts}
use Rattle.rt_controller.proofs.LastsParts.{Lasts, Stays}
use Rattle.rt_controller.proofs.Numbered.{start_numbered}
use Rattle.rt_controller.proofs.Paired.{Moves, moves_at, replaced_moves, added_moves, replaced_one, added_one}
use Rattle.rt_controller.proofs.PairedJobs.{PairedIn, follows_paired}
use Rattle.rt_controller.proofs.Turning.{TurnsTo, turned}
use Rattle.rt_controller.proofs.Turns.{Tells, told_turn}

module _ (setup : Setup) (past : Past) (r : Request) (has : Has past.sent (sent.Request r)) (q : IsRequest setup past r) where
  abbrev Kept : Controlling → Handling → Type 0
  Kept c x = Stays setup past c x.controller

  asked_now : WasSent past (asked_of r)
  asked_now = record { request = r; was_sent = has; answers = refl }

  -- an answer that is given at once
  answered : (c : Controlling) → Lasts setup past c → Stays setup past c c
  answered c k = record { lasts = k; id = refl; jobs = front_same c.jobs }

  abbrev new_job : Controlling → JobStage → Job
  new_job c s = record { number = c.started; asked = asked_of r; stage = s }

  -- a job starts
  started : (c : Controlling) (ns : List SegmentMachine) (s : JobStage) → Lasts setup past c → All (MachineLasts setup past) ns → HaveOneMachine ns
      → IsBacked setup past (asked_of r) s → IsTrying s → PairedIn (follows_by (record c { machines = ns }) r (Ok s)).controller
      → Kept c (follows_by (record c { machines = ns }) r (Ok s))
  started c ns s k machines one backed trying paired =
      record {
        lasts = record {
          assigned = k.assigned;
          machines = machines;
          jobs = All-push (JobLasts setup past) c.jobs (new_job c s) k.jobs (record { asked = asked_now; backed = backed; trying = trying });
          one = one;
          paired = paired;
          numbered = start_numbered c.jobs c.started (new_job c s) refl k.numbered;
        };
        id = refl;
        jobs = front_push c.jobs (new_job c s);
      }

  -- a machine answers
  said_only : (c : Controlling) (ns : List SegmentMachine) → Lasts setup past c → All (MachineLasts setup past) ns → HaveOneMachine ns
      → PairedIn (record c { machines = ns }) → Stays setup past c (record c { machines = ns })
  said_only c ns k machines one paired =
      record {
        lasts = record {
          assigned = k.assigned;
          machines = machines;
          jobs = k.jobs;
          one = one;
          paired = paired;
          numbered = k.numbered;
        };
        id = refl;
        jobs = front_same c.jobs;
      }

  abbrev some_ask : Ask → Option Ask
  some_ask a = Some a

  same_ask : (a b : Ask) → some_ask a ≡ some_ask b → a ≡ b
  same_ask a b e = cc

  same_end : (x end : Offset) → ask.CommitEnd x ≡ ask.CommitEnd end → x ≡ end
  same_end x end e = cc

  commit_starts : (c : Controlling) (ns : List SegmentMachine) (seen : SeenMeta) (what : Ask) (end : Offset) (k : RequestKind) → r.kind ≡ k
      → ask_in r.offset k ≡ Some what → what ≡ ask.CommitEnd end → Lasts setup past c → All (MachineLasts setup past) ns → HaveOneMachine ns
      → PairedIn (follows_by (record c { machines = ns }) r (commit_stage end (named_in r seen k))).controller
      → Kept c (follows_by (record c { machines = ns }) r (commit_stage end (named_in r seen k)))
  commit_starts c ns seen what end (kind.Consumed reason) e asks is k ms one paired = said_only c ns k ms one paired
  commit_starts c ns seen what end kind.Stopped e asks is k ms one paired = said_only c ns k ms one paired
  commit_starts c ns seen what end kind.CommitStart e asks is k ms one paired = said_only c ns k ms one paired
  commit_starts c ns seen what end (kind.Upload path bytes) e asks is k ms one paired = said_only c ns k ms one paired
  commit_starts c ns seen what end (kind.CommitEnd path) e asks is k ms one paired =
      started c ns (stage.Check (read_write r seen) end path) k ms one
      (record {
        request = r;
        was_sent = has;
        answers = refl;
        offset = same_end r.offset end (same_ask (ask.CommitEnd r.offset) what asks ∙ is);
        names = e;
      })
      tt paired
  commit_starts c ns seen what end (kind.Extend millis) e asks is k ms one paired = said_only c ns k ms one paired

  -- what a machine's reaction leads to
  reacted : (c : Controlling) (ns : List SegmentMachine) (seen : SeenMeta) (m n : Completion) (what : Ask) (y : Reaction)
      → ask_in r.offset r.kind ≡ Some what → TurnsTo m what n y → Lasts setup past c → All (MachineLasts setup past) ns → HaveOneMachine ns
      → PairedIn (follows (record c { machines = ns }) r seen y).controller → Kept c (follows (record c { machines = ns }) r seen y)
  reacted c ns seen m n what (reaction.Answer answer) asks t k ms one paired = said_only c ns k ms one paired
  reacted c ns seen m n what (reaction.StartCommit end) asks t k ms one paired = commit_starts c ns seen what end r.kind refl asks t.2 k ms one paired
  reacted c ns seen m n what reaction.StartOffline asks t k ms one paired =
      started c ns (stage.IdealRead work.Offline []) k ms one (no_tries past.history) (omega arith) paired

  -- the segment's machine reacts
  machine_reacts : (c : Controlling) (now : Moment) (place : ℕ) (what : Ask) (m : SegmentMachine) → ask_in r.offset r.kind ≡ Some what
      → machine_place c.machines r.partition r.sequence ≡ Some place → slice_get c.machines place ≡ Some m → Lasts setup past c
      → Kept c
      (follows (record c { machines = replaced c.machines place (with_machine m (react m.machine r.number.instance what now).1) })
      r m.machine.seen (react m.machine r.number.instance what now).0)
  machine_reacts c now place what m asks found at k =
      let y = react m.machine r.number.instance what now in
      let ns = replaced c.machines place (with_machine m y.1) in
      let its = its_machine c.machines r.partition r.sequence place m found at in
      let turns = (turned m.machine r.number.instance what now).turns in
      let here = All-found (MachineLasts setup past) c.machines place m k.machines at in
      reacted c ns m.machine.seen m.machine y.1 what y.0 asks turns k
      (All-replaced (MachineLasts setup past) c.machines place (with_machine m y.1) k.machines (reacts_lasts setup past r q what now asks m its.0 here))
      (replaced_one c.machines place m y.1 at k.one)
      (follows_paired c r ns m.machine.seen m.machine y.1 what y.0 asks
      (moves_at c.machines ns m.partition m.sequence r.partition r.sequence (machine_end m.machine) (machine_end y.1) its.0 its.1
      (replaced_moves c.machines place m y.1 at)) turns k.paired)

  -- a machine is made, and reacts
  machine_opens : (c : Controlling) (now : Moment) (what : Ask) (seen : SeenMeta) → ask_in r.offset r.kind ≡ Some what
      → machine_place c.machines r.partition r.sequence ≡ None → Lasts setup past c → Kept c (opens c r now what seen)
  machine_opens c now what seen asks none k =
      let n = first seen (replicas_in c.assigned r.partition) (first_state what) now in
      let y = react n r.number.instance what now in
      let m = made r y.1 in
      let ns = added c.machines m in
      let turns = (turned n r.number.instance what now).turns in
      let M : Option Offset → Type 0 = λ o. Moves c.machines ns r.partition r.sequence o (machine_end y.1) in
      reacted c ns seen n y.1 what y.0 asks turns k
      (All-added (MachineLasts setup past) c.machines m k.machines
      (reacts_lasts setup past r q what now asks (made r n) refl (first_lasts setup past r q what now asks c.assigned seen k.assigned)))
      (added_one c.machines m none k.one)
      (follows_paired c r ns seen n y.1 what y.0 asks (subst M (sym (no_first_end what seen (replicas_in c.assigned r.partition) now)) (added_moves c.machines m)) turns k.paired)

  -- ---- a segment without a machine

  status_lasts : (c : Controlling) (now : Moment) (what : Ask) (m : SeenMeta) (s : Status) → ask_in r.offset r.kind ≡ Some what
      → machine_place c.machines r.partition r.sequence ≡ None → Lasts setup past c → Kept c (by_status c r now what m s)
  status_lasts c now what m InProgress asks none k = machine_opens c now what m asks none k
  status_lasts c now what m (Done commit) asks none k = answered c k
  status_lasts c now what m Abandoned asks none k = answered c k

  node_lasts : (c : Controlling) (now : Moment) (what : Ask) (version : ℕ) (n : Node) → ask_in r.offset r.kind ≡ Some what
      → machine_place c.machines r.partition r.sequence ≡ None → Lasts setup past c → Kept c (by_node c r now what version n)
  node_lasts c now what version (node.Meta meta) asks none k =
      status_lasts c now what (record { version = version; meta = meta }) meta.status asks none k
  node_lasts c now what version (node.Ideal i) asks none k = answered c k
  node_lasts c now what version node.Boot asks none k = answered c k
  node_lasts c now what version node.Gone asks none k = answered c k

  abbrev some_handling : Handling → Option Handling
  some_handling x = Some x

  same_handling : (c : Controlling) (x y : Handling) → some_handling x ≡ some_handling y → Kept c x → Kept c y
  same_handling c x y e k = subst (Kept c) (same_Some x y e) k

  read_lasts : (c : Controlling) (now : Moment) (what : Ask) (answer : Result Seen StoreRefused) (x : Handling) → ask_in r.offset r.kind ≡ Some what
      → machine_place c.machines r.partition r.sequence ≡ None → Lasts setup past c → after_read c r now what answer ≡ Some x → Kept c x
  read_lasts c now what (Ok w) x asks none k e = same_handling c _ x e (node_lasts c now what w.version w.node asks none k)
  read_lasts c now what (Err NoNode) x asks none k e = same_handling c _ x e (answered c k)
  read_lasts c now what (Err (Exists found)) x asks none k e = same_handling c _ x e (answered c k)
  read_lasts c now what (Err (VersionChanged expected found)) x asks none k e = same_handling c _ x e (answered c k)
  read_lasts c now what (Err Failed) x asks none k e = same_handling c _ x e (answered c k)
  read_lasts c now what (Err Memory) x asks none k e = absurd (cc)

  -- ---- an upload

  put_lasts : (c : Controlling) (path : List ℕ) (answer : Result (Unit {0}) DeepRefused) (x : Handling) → Lasts setup past c
      → after_put c r path answer ≡ Some x → Kept c x
  put_lasts c path (Ok u) x k e = same_handling c _ x e (answered c k)
  put_lasts c path (Err deep.Absent) x k e = same_handling c _ x e (answered c k)
  put_lasts c path (Err (deep.OtherBytes kept offered)) x k e = same_handling c _ x e (answered c k)
  put_lasts c path (Err deep.Failed) x k e = same_handling c _ x e (answered c k)
  put_lasts c path (Err deep.Memory) x k e = absurd (cc)

  -- ---- the first rule that applies

  slot_lasts : (c : Controlling) (now : Moment) (place : ℕ) (what : Ask) (o : Option SegmentMachine) (x : Handling) → ask_in r.offset r.kind ≡ Some what
      → machine_place c.machines r.partition r.sequence ≡ Some place → slice_get c.machines place ≡ o → Lasts setup past c
      → at_machine c r now place what o ≡ Some x → Kept c x
  slot_lasts c now place what None x asks found at k e = absurd (cc)
  slot_lasts c now place what (Some m) x asks found at k e = same_handling c _ x e (machine_reacts c now place what m asks found at k)

  turn_lasts : (s t : Meaning) (d e : DeepMeaning) (c : Controlling) (now : Moment) (turn : Turn) (x : Handling) → Lasts setup past c → Tells c r turn
      → Makes s t d e (call_of r turn) (λ a. handled_at c r now turn a ≡ Some x) → Kept c x
  turn_lasts s t d e c now not_leading x k told m = same_handling c _ x m.2 (answered c k)
  turn_lasts s t d e c now (uploads path bytes) x k told (answer, put, same, is) = put_lasts c path answer x k is
  turn_lasts s t d e c now not_assigned x k told m = same_handling c _ x m.2 (answered c k)
  turn_lasts s t d e c now past_last x k told m = same_handling c _ x m.2 (answered c k)
  turn_lasts s t d e c now (has_machine place what) x k told m = slot_lasts c now place what (slice_get c.machines place) x told.2 told.1 refl k m.2
  turn_lasts s t d e c now (has_none what) x k told (answer, read, same, is) = read_lasts c now what answer x told.2 told.1 k is

  pub request_lasts : (s t : Meaning) (d e : DeepMeaning) (c : Controlling) (now : Moment) (x : Handling) → Lasts setup past c
      → Makes s t d e (call_of r (turn_of c r)) (λ a. handled_at c r now (turn_of c r) a ≡ Some x) → Kept c x
  request_lasts s t d e c now x k m = turn_lasts s t d e c now (turn_of c r) x k (told_turn c r) m
