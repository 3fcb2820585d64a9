-- A replica of a segment can come to each offset that the segment's machine keeps: so it stays as the machine reacts to requests, and as
-- a controller's job takes a step.
use Rattle.std.proofs.Common.{◌≡◌, ℕ, List, Option, Some, None, Ok, refl, sym, ◌∙◌, ap, subst, slice_get}
use Rattle.std.specs.Prelude.{All}
use Rattle.std.specs.List.{Contains}
use Rattle.std.proofs.lemmas.List.Elements.{All-weaker}
use Rattle.std.proofs.lemmas.Option.{none-some, same_Some}
use Rattle.rt_base.specs.declared.numbers.Instance.{Instance}
use Rattle.rt_base.specs.declared.numbers.Moment.{Moment}
use Rattle.rt_base.specs.declared.numbers.Offset.{Offset}
use Rattle.rt_base.specs.declared.numbers.Partition.{Partition}
use Rattle.rt_base.specs.declared.numbers.Sequence.{Sequence}
use Rattle.rt_assign.specs.Placement.{replicas_of}
use Rattle.rt_commit.specs.Assignment.{assigned_by, replicas_in, Assigned}
use Rattle.rt_commit.specs.Calls.{DeepMeaning, Makes}
use Rattle.rt_commit.specs.Job.{commits, job_call, job_step, Stepping}
use Rattle.rt_commit.specs.declared.job.Job.{Job}
use Rattle.rt_commit.proofs.Making.{makes_some}
use Rattle.rt_controller.specs.Answers.{ask_in}
use Rattle.rt_controller.specs.Controller.{with_machine, Controlling}
use Rattle.rt_controller.specs.Requests.{first_state}
use Rattle.rt_controller.specs.Steps.{Works}
use Rattle.rt_controller.specs.Working.{job_place, settled, with_stage, work_at, work_call_at, work_call_on, work_on, worked, Working}
use Rattle.rt_controller.specs.declared.segment_machine.SegmentMachine.{SegmentMachine}
use Rattle.rt_controller.proofs.Keeps.{without}
use Rattle.rt_controller.proofs.KeepsRequests.{made}
use Rattle.rt_fsm.proofs.Offsets.{kept, keeps_first, Keeps, NoteHas}
use Rattle.rt_lists.proofs.Lists.{contains_found}
use Rattle.rt_lists.proofs.Members.{Has-place}
use Rattle.rt_model.specs.Completion.{first, react, IsBeforePick}
use Rattle.rt_model.specs.declared.completion.Ask.{Ask}
use Rattle.rt_model.specs.declared.completion.Ask.TheVariants as ask
use Rattle.rt_model.specs.declared.job_step.JobStep.{JobStep}
use Rattle.rt_model.specs.declared.reporter.Reporter.{Reporter}
use Rattle.rt_model.specs.declared.reply.ReplyStatus.{ReplyStatus}
use Rattle.rt_model.specs.declared.request.Reason.{Reason}
use Rattle.rt_model.specs.declared.request.Request.{Request}
use Rattle.rt_model.specs.declared.request.RequestKind.{RequestKind}
use Rattle.rt_model.specs.declared.request.RequestKind.TheVariants as kind
use Rattle.rt_model.specs.declared.seg_meta.SeenMeta.{SeenMeta}
use Rattle.rt_model.specs.declared.setup.Setup.{Setup}
use Rattle.rt_past.specs.Past.{Grows, Past}
use Rattle.rt_past.specs.Requests.{IsRequest}
use Rattle.rt_past.specs.Segments.{IsAssignedTo}
use Rattle.rt_store.specs.Meaning.{Meaning}
use Rattle.rt_heal.specs.Reachable.{ComesTo}
use Rattle.rt_heal.proofs.Reaching.{comes_grows}

-- ---- a machine

-- a replica of its segment can come to what it keeps
abbrev pub MachineReaches : Setup → Past → SegmentMachine → Type 0
MachineReaches setup past m =
    Keeps (ComesTo setup past m.partition m.sequence) m.machine.seen (replicas_of m.partition setup.table.replication setup.servers) m.machine

-- ---- a past that grows

note_weaker : (P Q : Offset → Type 0) (o : Option Offset) → ((x : Offset) → P x → Q x) → NoteHas P o → NoteHas Q o
note_weaker P Q None f has = tt
note_weaker P Q (Some x) f has = f x has

pub machine_grows : (setup : Setup) (a b : Past) (m : SegmentMachine) → Grows a b → MachineReaches setup a m → MachineReaches setup b m
machine_grows setup a b m g k =
    let on : (x : Offset) → ComesTo setup a m.partition m.sequence x → ComesTo setup b m.partition m.sequence x =
    λ x. comes_grows setup a b m.partition m.sequence x g in
    record {
      notes =
          All-weaker (λ (r : Reporter). NoteHas (ComesTo setup a m.partition m.sequence) r.note)
          (λ (r : Reporter). NoteHas (ComesTo setup b m.partition m.sequence) r.note)
          (λ r. note_weaker (ComesTo setup a m.partition m.sequence) (ComesTo setup b m.partition m.sequence) r.note on) m.machine.reporters k.notes;
      offset = λ picked. on m.machine.offset (k.offset picked);
      segment = refl;
      replicas = k.replicas;
    }

-- ---- a request

-- what it reports is its own offset
same_report : (o x : Offset) (reason why : Reason) → ask.Consumed o reason ≡ ask.Consumed x why → o ≡ x
same_report o x reason why e = cc

reported : (o : Offset) (k : RequestKind) (what : Ask) (x : Offset) (why : Reason) → ask_in o k ≡ Some what → what ≡ ask.Consumed x why → o ≡ x
reported o (kind.Consumed reason) what x why asks is = same_report o x reason why (same_Some (ask.Consumed o reason) what asks ∙ is)
reported o kind.Stopped what x why asks is = absurd (let e = same_Some ask.Stopped what asks ∙ is in cc)
reported o kind.CommitStart what x why asks is = absurd (let e = same_Some (ask.CommitStart o) what asks ∙ is in cc)
reported o (kind.Upload path bytes) what x why asks is = absurd (none-some what asks)
reported o (kind.CommitEnd path) what x why asks is = absurd (let e = same_Some (ask.CommitEnd o) what asks ∙ is in cc)
reported o (kind.Extend millis) what x why asks is = absurd (let e = same_Some (ask.Extend millis) what asks ∙ is in cc)

before_pick : (a : Ask) → IsBeforePick (first_state a)
before_pick (ask.Consumed x reason) = tt
before_pick (ask.CommitStart x) = tt
before_pick (ask.CommitEnd x) = tt
before_pick ask.Stopped = tt
before_pick (ask.Extend millis) = tt

module _ (setup : Setup) (past : Past) (r : Request) (q : IsRequest setup past r) (comes : ComesTo setup past r.partition r.sequence r.offset) (what : Ask)
    (now : Moment) (asks : ask_in r.offset r.kind ≡ Some what) where
  -- the sender is one of the segment's replicas
  sender_there : (p : Partition) → p ≡ r.partition → Contains (replicas_of p setup.table.replication setup.servers) r.number.instance
  sender_there p e =
      let has = subst (λ (x : Partition). IsAssignedTo setup x r.number.instance) (sym e) q.assigned in
      let place = Has-place (replicas_of p setup.table.replication setup.servers) r.number.instance has in
      contains_found (replicas_of p setup.table.replication setup.servers) place.0 r.number.instance place.1

  pub reacts_reach : (m : SegmentMachine) → m.partition ≡ r.partition → m.sequence ≡ r.sequence → MachineReaches setup past m
      → MachineReaches setup past (with_machine m (react m.machine r.number.instance what now).1)
  reacts_reach m at_p at_q k =
      let replicas = replicas_of m.partition setup.table.replication setup.servers in
      let own : ComesTo setup past m.partition m.sequence r.offset =
      subst (λ (p : Partition). ComesTo setup past p m.sequence r.offset) (sym at_p)
      (subst (λ (s : Sequence). ComesTo setup past r.partition s r.offset) (sym at_q) comes) in
      let n = kept (ComesTo setup past m.partition m.sequence) m.machine.seen replicas m.machine r.number.instance what now
      (λ x why is past_start. subst (ComesTo setup past m.partition m.sequence) (reported r.offset r.kind what x why asks is) own)
      (sender_there m.partition at_p) k in
      record { notes = n.notes; offset = n.offset; segment = refl; replicas = n.replicas }

  -- a machine that is made
  pub first_reaches : (a : Assigned) (seen : SeenMeta) → a ≡ assigned_by setup
      → MachineReaches setup past (made r (first seen (replicas_in a r.partition) (first_state what) now))
  first_reaches a seen e =
      let replicas = replicas_in a r.partition in
      let same : replicas ≡ replicas_of r.partition setup.table.replication setup.servers = ap (λ (x : Assigned). replicas_in x r.partition) e in
      subst (λ (is : List Instance). Keeps (ComesTo setup past r.partition r.sequence) seen is (first seen replicas (first_state what) now)) same
      (keeps_first (ComesTo setup past r.partition r.sequence) seen replicas (first_state what) now (before_pick what))

-- ---- a job's step

module _ (M : SegmentMachine → Type 0) (s t : Meaning) (d e : DeepMeaning) (c : Controlling) (now : Moment) (all : All M c.machines) where
  abbrev Left : Working → Type 0
  Left w = All M w.controller.machines

  settled_left : (place : ℕ) (j : Job) (x : Stepping) (o : Option ReplyStatus) → Left (settled (with_stage c place j x.stage) place j.asked (commits j.stage) x.did o)
  settled_left place j x None = all
  settled_left place j x (Some r) = without M c.machines j.asked (commits j.stage) all

  slot_left : (place : ℕ) (o : Option Job) (w : Working) → Makes s t d e (work_call_at c now o) (λ a. work_at c now a place o ≡ Some w) → Left w
  slot_left place None w m = absurd (none-some w m.2)
  slot_left place (Some j) w m =
      let x = makes_some s t d e (job_call c.assigned j now) (job_step j now) (λ o. worked c place j o ≡ Some w) (λ f. none-some w f) m in
      subst Left (same_Some _ w x.2) (settled_left place j x.0 x.0.did.status)

  place_left : (o : Option ℕ) (w : Working) → Makes s t d e (work_call_on c now o) (λ a. work_on c now a o ≡ Some w) → Left w
  place_left None w m = absurd (none-some w m.2)
  place_left (Some place) w m = slot_left place (slice_get c.jobs place) w m

  -- the machines that it leaves were there
  pub works_left : (n : ℕ) (after : Controlling) (step : JobStep) → Works s t d e c n now after (Ok step) → All M after.machines
  works_left n after step m = place_left (job_place c.jobs n) (record { controller = after; step = step }) m
