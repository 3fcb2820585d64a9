-- What an exchange leaves where segments end by the row limit alone: one replica has gone on by the answer that it was given, and so has the machine
-- of its segment.
use Rattle.std.proofs.Common.{◌≡◌, ℕ, zero, suc, Bool, true, false, cond, List, [], ◌∷◌, length, Option, Some, Ok, refl, sym, ◌∙◌, ap, subst, slice_get}
use Rattle.std.specs.Map.{set_value}
use Rattle.std.specs.Prelude.{slice_set}
use Rattle.std.proofs.lemmas.Bool.{true≢false}
use Rattle.rt_base.specs.declared.numbers.ControllerId.{ControllerId}
use Rattle.rt_base.specs.declared.numbers.Instance.{Instance}
use Rattle.rt_base.specs.declared.numbers.Offset.{Offset}
use Rattle.rt_base.specs.declared.numbers.Partition.{Partition}
use Rattle.rt_base.specs.declared.numbers.Sequence.{Sequence}
use Rattle.rt_commit.specs.Told.{ToldDeep}
use Rattle.rt_consumer.specs.Consumer.{at}
use Rattle.rt_consumer.specs.Replies.{answered, replied as answered_by, turned}
use Rattle.rt_consumer.specs.declared.consumer.Consumer.{Consumer}
use Rattle.rt_consumer.specs.declared.replies.Turn.{Turn}
use Rattle.rt_consumer.specs.declared.replies.Turn.TheVariants.{Goes, Stays}
use Rattle.rt_consumer.specs.declared.stage.Stage.{Stage}
use Rattle.rt_consumer.specs.declared.stage.Stage.TheVariants.{Holding}
use Rattle.rt_consumer.specs.declared.unsealed.Unsealed.{Unsealed}
use Rattle.rt_consumer.specs.declared.waited.Waited.TheVariants.{Step}
use Rattle.rt_controller.specs.declared.segment_machine.SegmentMachine.{SegmentMachine}
use Rattle.rt_entry.specs.declared.entry.Entry.{Entry}
use Rattle.rt_entry.specs.declared.entry.Entry.TheVariants.{Replica}
use Rattle.rt_events.specs.declared.event.Event.TheVariants as event
use Rattle.rt_events.specs.declared.outcome.Outcome.{Outcome}
use Rattle.rt_lists.specs.Members.{Has}
use Rattle.rt_macros.specs.Doing.{Reached}
use Rattle.rt_model.specs.Completion.{is_late, Completion}
use Rattle.rt_model.specs.declared.reply.Reply.{Reply}
use Rattle.rt_model.specs.declared.reply.ReplyStatus.{ReplyStatus}
use Rattle.rt_model.specs.declared.request.Reason.{Reason}
use Rattle.rt_model.specs.declared.request.Request.{Request}
use Rattle.rt_mutable.specs.Consuming.{Consuming as Rows}
use Rattle.rt_nodes.specs.declared.controller_node.ControllerNode.{ControllerNode}
use Rattle.rt_nodes.specs.declared.server_node.ServerNode.{ServerNode}
use Rattle.rt_server.specs.Table.{entry_of, is_segment, put_back, segment_cmp, Segment, Segments}
use Rattle.rt_server.proofs.Kept.{replica_found}
use Rattle.rt_server.proofs.LastingTables.{at as segment_at, lookup-Has, segment_exact}
use Rattle.rt_server.proofs.Merge.{it_is}
use Rattle.rt_state.specs.IsSafeWorld.{IsSafeWorld}
use Rattle.rt_state.specs.declared.state.State.{State}
use Rattle.rt_store.specs.Meaning.{Told}
use Rattle.rt_world.specs.Reading.{leader_in}
use Rattle.rt_world.specs.Step.{Steps}
use Rattle.rt_calm.specs.Again.{asked_machines, awaits, machine_of, machines_by, machines_in, IsLeading}
use Rattle.rt_calm.proofs.Answering.{phase_of}
use Rattle.rt_calm.proofs.Awaited.{WaitsOn}
use Rattle.rt_calm.proofs.Exchanged.{turns_so, HasAsked, HasFinished, HasTaken}
use Rattle.rt_calm.proofs.Keeping.{goes_on, IsGoing, KeepsOn}
use Rattle.rt_calm.proofs.Leading.{leader_leads, leads_in}
use Rattle.rt_calm.proofs.Machines.{at_segment, IsTurned}
use Rattle.rt_calm.proofs.Moving.{machines_at}
use Rattle.rt_recovery.specs.ByRows.{CommitsFor, IsByRows, IsByRowsAt, IsMachineByRows, IsOpen, IsToConsume, Reports}
use Rattle.rt_recovery.proofs.Delivering.{IsAnsweredBy, IsHandled, Turns}
use Rattle.rt_recovery.proofs.Opening.{consumes_same, open_same}
use Rattle.rt_recovery.proofs.Still.{later_still, IsLater, IsStill}
use Rattle.rt_recovery.proofs.Turning.{apart_segments, own_committer, reports_on, turned_by_rows, GoesOn, HasTurned}

-- ---- puts in the same place

set_twice : {X : Type 0} (xs : List X) (i : ℕ) (a b : X) → slice_set (slice_set xs i a) i b ≡ slice_set xs i b
set_twice [] i a b = refl
set_twice (x ∷ xs) zero a b = refl
set_twice (x ∷ xs) (suc i) a b = ap (λ ys. x ∷ ys) (set_twice xs i a b)

value_twice : (f : Segment → Bool) (es : List (Segment × Entry)) (a b : Entry) → set_value f (set_value f es a) b ≡ set_value f es b
value_twice f [] a b = refl
value_twice f (e ∷ es) a b = by_key (f e.0) refl (value_twice f es a b)
  where
    by_key : (c : Bool) → f e.0 ≡ c → set_value f (set_value f es a) b ≡ set_value f es b
        → set_value f (cond c ((e.0, a) ∷ es) (e ∷ set_value f es a)) b ≡ cond c ((e.0, b) ∷ es) (e ∷ set_value f es b)
    by_key true is more = ap (λ (c : Bool). cond c ((e.0, b) ∷ es) ((e.0, a) ∷ set_value f es b)) is
    by_key false is more =
        ap (λ (c : Bool). cond c ((e.0, b) ∷ set_value f es a) (e ∷ set_value f (set_value f es a) b)) is ∙ ap (λ (xs : List (Segment × Entry)). e ∷ xs) more

put_twice : (t : Segments) (p : Partition) (q : Sequence) (a b : Entry) → put_back (put_back t p q a) p q b ≡ put_back t p q b
put_twice t p q a b = ap (λ (es : List (Segment × Entry)). record t { entries = es }) (value_twice (is_segment p q) t.entries a b)

-- ---- a request and its answer

-- a request that was sent, answered and taken, in a world in which segments end by the row limit alone, one leads, and no fault is planned
pub record Exchange : Type 0 where
  pub from : State
  pub sent : State
  pub instance : Instance
  pub partition : Partition
  pub sequence : Sequence
  pub controller : ControllerId
  pub outcome : Outcome
  pub to : Reached
  pub led : leader_in from ≡ Some controller
  pub steps : Steps from (event.Report instance partition sequence) sent (Ok outcome)
  pub fin : HasFinished from sent instance partition sequence controller outcome to
  pub going : IsGoing from
  pub by_rows : IsByRows from
  pub leading : IsLeading from
  pub unplanned : from.store.faults.plan ≡ []
  pub fetches : from.deep.faults.plan ≡ []

module _ (it : Exchange) where
  abbrev w : State
  w = it.from

  abbrev u : State
  u = it.sent

  abbrev i : Instance
  i = it.instance

  abbrev p : Partition
  p = it.partition

  abbrev q : Sequence
  q = it.sequence

  abbrev c : ControllerId
  c = it.controller

  abbrev v : State
  v = it.to.world

  abbrev request : Request
  request = it.fin.its.request

  abbrev asked : HasAsked w u i p q request
  asked = it.fin.asked

  abbrev n : ServerNode
  n = asked.old

  abbrev r : Consumer
  r = asked.replica

  abbrev waiting : Consumer
  waiting = record r { waited = Some (Step request.number) }

  abbrev b : Reached
  b = it.fin.between

  abbrev reply : Reply
  reply = it.fin.answered.answer.reply

  abbrev next : Consumer
  next = answered_by waiting reply

  abbrev taken : HasTaken b.world v i p q asked.new waiting reply
  taken = it.fin.taken.taken

  abbrev new : ServerNode
  new = taken.new

  pub on : KeepsOn w v
  on = it.fin.taken.exchanged.on

  pub safe_then : IsSafeWorld v
  safe_then = on.going.safe

  going_then : IsGoing u
  going_then = goes_on w u (event.Report i p q) it.outcome it.going tt it.steps

  leads_then : leads_in (slice_get u.controllers c.0) ≡ true
  leads_then = ap (λ (cs : List ControllerNode). leads_in (slice_get cs c.0)) asked.controllers ∙ leader_leads w it.leading c it.led

  unplanned_then : u.store.faults.plan ≡ []
  unplanned_then = ap (λ (t : Told). t.faults.plan) asked.store ∙ it.unplanned

  fetches_then : u.deep.faults.plan ≡ []
  fetches_then = ap (λ (d : ToldDeep). d.faults.plan) asked.deep ∙ it.fetches

  pub handled : IsHandled u c request b it.fin.answer
  handled =
      record {
        message = length w.sent;
        going = going_then;
        asks = it.fin.its.there;
        leads = leads_then;
        unplanned = unplanned_then;
        fetches = fetches_then;
        came = it.fin.came;
      }

  machines_before : machines_at u c ≡ asked_machines w
  machines_before =
      ap (λ (cs : List ControllerNode). machines_in (slice_get cs c.0)) asked.controllers ∙ sym (ap (machines_by w.controllers) it.led)

  machines_behind : machines_at b.world c ≡ asked_machines v
  machines_behind =
      sym (ap (machines_by v.controllers) (on.leads.leader ∙ it.led)
      ∙ ap (λ (cs : List ControllerNode). machines_in (slice_get cs c.0)) taken.controllers)

  pub machine_then : (m : Option Completion) → machine_of (asked_machines w) p q ≡ m → machine_of (machines_at u c) request.partition request.sequence ≡ m
  machine_then m e =
      ap (λ (ms : List SegmentMachine). machine_of ms request.partition request.sequence) machines_before
      ∙ ap (λ (x : Partition). machine_of (asked_machines w) x request.sequence) it.fin.its.segment.0
      ∙ ap (λ (x : Sequence). machine_of (asked_machines w) p x) it.fin.its.segment.1 ∙ e

  turned_then : (m l : Option Completion) → Turns u c request b it.fin.answer b.world m l
      → IsTurned (asked_machines w) (asked_machines v) p q m l
  turned_then m l is =
      at_segment (asked_machines w) (asked_machines v) request.partition p request.sequence q m l it.fin.its.segment.0 it.fin.its.segment.1
      (subst (λ (ms : List SegmentMachine). IsTurned ms (asked_machines v) request.partition request.sequence m l) machines_before
      (subst (λ (ns : List SegmentMachine). IsTurned (machines_at u c) ns request.partition request.sequence m l) machines_behind is))

  pub has : Has n.server.table.entries (segment_at (p, q) (Replica r))
  has =
      lookup-Has segment_cmp segment_exact n.server.table.entries (p, q) (Replica r)
      (replica_found (entry_of n.server.table p q) r asked.found)

  pub stood : IsByRowsAt w i.0 (p, q) r r.phase
  stood = it.by_rows.replicas i.0 n asked.at (p, q) r has

  abbrev Turned : Option Completion → Option Completion → Type 0
  Turned m l = HasTurned w v i.0 n new p q r next m l

  pub turned_world : (m l : Option Completion) → b.world.moment ≡ u.moment → Turns u c request b it.fin.answer b.world m l
      → Turned m l
  turned_world m l same is =
      record {
        there = asked.at;
        found = asked.found;
        servers =
            taken.servers ∙ ap (λ (ns : List ServerNode). slice_set ns i.0 new) (it.fin.answered.asking.servers ∙ asked.servers)
            ∙ set_twice w.servers i.0 asked.new new;
        table =
            taken.table ∙ ap (λ (t : Segments). put_back t p q (Replica next)) asked.table
            ∙ put_twice n.server.table p q (Replica waiting) (Replica next);
        setup = on.setup;
        log = on.log;
        moment = taken.moment ∙ same ∙ asked.moment;
        turned = turned_then m l is;
      }

  -- ---- the replica with its answer

  turn_so : (s : ReplyStatus) → reply.status ≡ s → next ≡ turned waiting (answered r.phase s)
  turn_so s e =
      turns_so w u i p q request asked it.fin.its.segment it.fin.its.instance c it.led it.going it.fin.within b it.fin.answer it.fin.answered
      ∙ ap (λ (x : ReplyStatus). turned waiting (answered r.phase x)) e

  turned_phase : (t : Turn) → (turned waiting t).phase ≡ phase_of t
  turned_phase (Stays ph) = refl
  turned_phase (Goes ph) = refl

  later : (t : Turn) → IsLater r (turned waiting t)
  later (Stays ph) = record { partition = refl; start = refl; started = refl }
  later (Goes ph) = record { partition = refl; start = refl; started = refl }

  pub stands_then : (s : ReplyStatus) (t : Turn) → reply.status ≡ s → answered r.phase s ≡ t → IsByRowsAt v i.0 (p, q) r (phase_of t)
      → IsByRowsAt v i.0 (p, q) next next.phase
  stands_then s t e f h =
      let still : IsStill v v (p, q) = record { setup = refl; log = refl; moment = refl; writes = refl; machine = refl } in
      subst (λ (x : Consumer). IsByRowsAt v i.0 (p, q) x x.phase) (sym (turn_so s e ∙ ap (turned waiting) f))
      (subst (IsByRowsAt v i.0 (p, q) (turned waiting t)) (sym (turned_phase t))
      (later_still v v (p, q) still r (turned waiting t) (later t) i.0 (phase_of t) h))

  pub phase_then : (s : ReplyStatus) (t : Turn) → reply.status ≡ s → answered r.phase s ≡ t → next.phase ≡ phase_of t
  phase_then s t e f = ap (λ (x : Consumer). x.phase) (turn_so s e ∙ ap (turned waiting) f) ∙ turned_phase t

  -- ---- nothing was written

  abbrev Answered : Option Completion → Option Completion → ReplyStatus → Type 0
  Answered m l s = IsAnsweredBy u c request b it.fin.answer m l s

  module _ (m l : Option Completion) (s : ReplyStatus)
      (answer : Answered m l s) where
    pub told_then : reply.status ≡ s
    told_then = sym it.fin.answered.answer.status ∙ answer.status

    pub unwritten : v.store.writes ≡ w.store.writes
    unwritten = ap (λ (t : Told). t.writes) taken.store ∙ answer.written ∙ ap (λ (t : Told). t.writes) asked.store

    pub world_then : Turned m l
    world_then = turned_world m l answer.moment answer.turned

    asked_on : (j : ℕ) (x : Segment) → (IsOpen w x → IsToConsume w j x) → IsOpen v x → IsToConsume v j x
    asked_on j x consumes opened = consumes_same w v unwritten j x (consumes (open_same v w (sym unwritten) x opened))

    -- others go on, as far as the machine waits for them
    others_go : WaitsOn i m l → (j : ℕ) (z : ServerNode) → slice_get w.servers j ≡ Some z → (x : Segment) (y : Consumer)
        → Has z.server.table.entries (segment_at x (Replica y)) → (j ≡ i.0 → is_segment p q x ≡ false) → GoesOn w v j x
    others_go waits j z there x y held apart =
        record {
          setup = on.setup;
          log = on.log;
          moment = world_then.moment;
          consumes = asked_on j x;
          commits = λ stage end awaited opened consumes. (
            by_segment stage end (is_segment p q x) refl awaited,
            open_same w v unwritten x opened,
            consumes_same w v unwritten j x consumes,
          );
        }
      where
        by_segment : (stage : Stage) (end : Offset) (k : Bool) → is_segment p q x ≡ k → awaits (machine_of (asked_machines w) x.0 x.1) j stage end ≡ true
            → awaits (machine_of (asked_machines v) x.0 x.1) j stage end ≡ true
        by_segment stage end false other awaited =
            ap (λ (g : Option Completion). awaits g j stage end) (world_then.turned.others x.0 x.1 (apart_segments p q x other)) ∙ awaited
        by_segment stage end true is awaited =
            let same : (p, q) ≡ x = it_is (p, q) x is in
            let was = subst (λ (y : Segment). awaits (machine_of (asked_machines w) y.0 y.1) j stage end ≡ true) (sym same) awaited in
            subst (λ (y : Segment). awaits (machine_of (asked_machines v) y.0 y.1) j stage end ≡ true) same
            (ap (λ (g : Option Completion). awaits g j stage end) world_then.turned.behind
            ∙ waits j stage end (λ own. true≢false (sym is ∙ apart own)) (ap (λ (g : Option Completion). awaits g j stage end) (sym world_then.turned.before) ∙ was))

    pub by_rows_then : WaitsOn i m l → (t : Turn) → answered r.phase s ≡ t → IsByRowsAt v i.0 (p, q) r (phase_of t)
        → ((g : Completion) → l ≡ Some g → IsMachineByRows v (p, q) g) → IsByRows v
    by_rows_then waits t f h machines =
        turned_by_rows w v i.0 n new p q r next m l world_then safe_then it.by_rows (others_go waits) (stands_then s t told_then f h) machines

    -- the sender waits on, or commits further
    pub holds_on : (held : Unsealed) (reason : Reason) → Reports w r held.rows.end reason → (IsOpen w (p, q) → IsToConsume w i.0 (p, q))
        → IsByRowsAt v i.0 (p, q) r (at held.rows (Holding reason))
    holds_on held reason reports consumes =
        (reports_on w v on.setup on.log r held.rows.end reason reports, asked_on i.0 (p, q) consumes)

    pub commits_at : (held : Unsealed) (reason : Reason) (g : Completion) (stage : Stage) → Reports w r held.rows.end reason → IsOpen w (p, q) → IsToConsume w i.0 (p, q)
        → l ≡ Some g → awaits (Some g) i.0 stage held.rows.end ≡ true → CommitsFor v i.0 (p, q) r (record { rows = held.rows; stage = stage }) reason
    commits_at held reason g stage reports opened consumes is awaited =
        record {
          reports = reports_on w v on.setup on.log r held.rows.end reason reports;
          awaited = ap (λ (k : Option Completion). awaits k i.0 stage held.rows.end) (world_then.turned.behind ∙ is) ∙ awaited;
          opened = open_same w v unwritten (p, q) opened;
          consumes = consumes_same w v unwritten i.0 (p, q) consumes;
        }

    pub committer_then : (rows : Rows) (stage : Stage) (t : Turn) (g : Completion) → answered r.phase s ≡ t → phase_of t ≡ at rows stage → g.winner.0 ≡ i.0
        → is_late g w.moment ≡ false → awaits (Some g) i.0 stage rows.end ≡ true → IsMachineByRows v (p, q) g
    committer_then rows stage t g f is winner early awaited =
        own_committer w v i.0 n new p q r next m l world_then safe_then g (record { rows = rows; stage = stage }) (phase_then s t told_then f ∙ is) winner
        (ap (is_late g) world_then.moment ∙ early) awaited
