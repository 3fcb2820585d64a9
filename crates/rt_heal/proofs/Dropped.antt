-- In each world of a run a replica can come to where it is and to its target, and the segment of one that has dropped its rows has ended,
-- or its instance has nothing of it to consume.
use Rattle.std.proofs.Common.{◌≡◌, ◌≤◌, ◌⊎◌, ℕ, zero, suc, inl, inr, Bool, true, false, cond, List, [], ◌∷◌, length, Option, Some, None, refl, sym, ◌∙◌, ap, subst, arith, slice_get}
use Rattle.std.specs.Prelude.{◌==◌, All}
use Rattle.std.proofs.lemmas.List.Elements.{All-nil}
use Rattle.rt_base.specs.declared.limits.TheConstants.{MOST_ROWS}
use Rattle.rt_base.specs.declared.numbers.Instance.{Instance}
use Rattle.rt_base.specs.declared.numbers.Offset.{Offset}
use Rattle.rt_base.specs.declared.numbers.Partition.{Partition}
use Rattle.rt_base.specs.declared.numbers.Sequence.{Sequence}
use Rattle.rt_consumer.specs.Batch.{filled, messages_from, row_limit}
use Rattle.rt_consumer.specs.Consumer.{cur, cur_in, number_of}
use Rattle.rt_consumer.specs.Replies.{replied_to, turn_by, turned}
use Rattle.rt_consumer.specs.declared.consumer.Consumer.{Consumer}
use Rattle.rt_consumer.specs.declared.phase.Phase.{Phase}
use Rattle.rt_consumer.specs.declared.phase.Phase.TheVariants as phase
use Rattle.rt_consumer.specs.declared.settings.Settings.{Settings}
use Rattle.rt_consumer.specs.declared.stage.Stage.{Stage}
use Rattle.rt_consumer.specs.declared.stage.Stage.TheVariants.{InitialConsuming, CatchingUp, Holding, ConsumingToOnline, Retaining, Building, Starting, Uploading, Ending}
use Rattle.rt_consumer.specs.declared.unsealed.Unsealed.{Unsealed}
use Rattle.rt_consumer.specs.declared.waited.Waited.{Waited}
use Rattle.rt_consumer.specs.declared.waited.Waited.TheVariants.{Step, Extend}
use Rattle.rt_controller.specs.Controller.{beginning, believing}
use Rattle.rt_entry.specs.declared.entry.Entry.{Entry}
use Rattle.rt_entry.specs.declared.entry.Entry.TheVariants.{Replica, Committed}
use Rattle.rt_lists.specs.Members.{Has}
use Rattle.rt_model.specs.Messages.{same_number}
use Rattle.rt_model.specs.Metadata.{BecameFinal}
use Rattle.rt_model.specs.Setup.{IsSetup}
use Rattle.rt_model.specs.declared.asked.Asked.{Asked}
use Rattle.rt_model.specs.declared.reply.Reply.{Reply}
use Rattle.rt_model.specs.declared.reply.ReplyStatus.TheVariants as status
use Rattle.rt_model.specs.declared.request.Request.{Request}
use Rattle.rt_model.specs.declared.request.RequestKind.{RequestKind}
use Rattle.rt_model.specs.declared.request.RequestKind.TheVariants as kind
use Rattle.rt_model.specs.declared.request.RequestNumber.{RequestNumber}
use Rattle.rt_model.specs.declared.sent.Sent.TheVariants as sent
use Rattle.rt_model.specs.declared.setup.Setup.{Setup}
use Rattle.rt_model.proofs.Histories.{same_instance}
use Rattle.rt_model.proofs.Messages.{same_number_true}
use Rattle.rt_mutable.specs.Consuming.{Consuming}
use Rattle.rt_nodes.specs.declared.server_node.ServerNode.{ServerNode}
use Rattle.rt_past.specs.IsPast.{IsPast}
use Rattle.rt_past.specs.Past.{Grows, Past}
use Rattle.rt_past.specs.Segments.{HadEntry, IsBegun}
use Rattle.rt_replica.specs.Held.{HoldsIn, HoldsRows}
use Rattle.rt_replica.specs.Lasting.{IsReplica, IsAskedIn, WaitsFor, WasAsked}
use Rattle.rt_safety.proofs.Later.{runs_are_safe}
use Rattle.rt_safety.proofs.Runs.{leads_add, leads_safe}
use Rattle.rt_safety.specs.Runs.{Leads, Runs, Turn, TurnsTo}
use Rattle.rt_server.proofs.EachEntry.{add_each, Each}
use Rattle.rt_server.proofs.Kept.{replica_found}
use Rattle.rt_server.proofs.LastingTables.{at, lookup-Has, segment_exact}
use Rattle.rt_server.specs.Fresh.{first_replica, first_segments, first_sequence, is_assigned, with_first}
use Rattle.rt_server.specs.Table.{entry_of, Segment, segment_cmp, segment_of}
use Rattle.rt_state.specs.IsSafe.{past_of}
use Rattle.rt_state.specs.IsSafeWorld.{IsSafeWorld}
use Rattle.rt_state.specs.Places.{AreAt}
use Rattle.rt_state.specs.Start.{fresh_controller, fresh_controllers, fresh_server, fresh_servers, start}
use Rattle.rt_state.specs.declared.state.State.{State}
use Rattle.rt_stream.specs.Log.{messages_of}
use Rattle.rt_world.proofs.Places.{at_none, at_push}
use Rattle.rt_heal.specs.Dropped.{AreDroppedOut, AreToldSo, GoesWith, IsOut, IsToldSo}
use Rattle.rt_heal.specs.Reachable.{ComesTo, IsReachable}
use Rattle.rt_heal.proofs.Answered.{goes_weaker}
use Rattle.rt_heal.proofs.AskedRuns.{instance, turn_asked, AllIn, EntryIn, PhaseIn, ServerIn}
use Rattle.rt_heal.proofs.MachineRuns.{nodes_grow, turn_reach, AllNodesReach, AreAskedSo, NodeReaches}
use Rattle.rt_heal.proofs.Machines.{MachineReaches}
use Rattle.rt_heal.proofs.Reaching.{comes_grows, filled_reaches}
use Rattle.rt_heal.proofs.Phases.{answered_so, extended_so, filed_so, forced_so, learned_so, phase_out, phase_weaker, PhaseSo, stopped_so, taken_so, turned_so, TurnSo}
use Rattle.rt_heal.proofs.ReplicaRuns.{CameServer, turn_came}
use Rattle.rt_heal.proofs.ReplicaSteps.{asks, builds, Came, CameEntry, consumes, extends, forces, Goes, learns, starts, stays, steps, stops, takes}
use Rattle.rt_heal.proofs.ToldRuns.{out_grows, turn_told}

-- ---- a replica's step

-- a batch ends where there is room for rows, at most as many as a segment has
limit_most : (settings : Settings) (stage : Stage) → settings.rows ≤ MOST_ROWS → row_limit settings stage ≤ MOST_ROWS
limit_most settings InitialConsuming few = few
limit_most settings (CatchingUp target reason) few = omega arith
limit_most settings (ConsumingToOnline end done) few = omega arith
limit_most settings (Holding reason) few = omega arith
limit_most settings (Retaining done) few = omega arith
limit_most settings (Building reason) few = omega arith
limit_most settings (Starting reason built) few = omega arith
limit_most settings (Uploading reason built) few = omega arith
limit_most settings (Ending reason built path) few = omega arith

-- an offset at which a replica starts is one that it can come to
starts_there : (setup : Setup) (past : Past) (i : Instance) (incarnation : ℕ) (s : Segment) (r : Consumer) (x : Offset) → segment_of r ≡ s
    → IsReplica setup past i incarnation r → x ≡ r.start → ComesTo setup past s.0 s.1 x
starts_there setup past i incarnation s r x own is here =
    record {
      start = r.start;
      begun = subst (λ (y : Segment). IsBegun past.history y.0 y.1 r.start) own is.begun;
      reaches = λ beyond. absurd (omega (arith, beyond, ap (λ (y : Offset). y.0) here));
    }

module _ (setup : Setup) (past : Past) (few : setup.table.rows ≤ MOST_ROWS) (all : AreToldSo setup past) (i : Instance) (incarnation : ℕ) (s : Segment)
    (r : Consumer) (own : segment_of r ≡ s) (is : IsReplica setup past i incarnation r) (had : PhaseIn setup past i s r.phase) where
  abbrev Within : Offset → Type 0
  Within = ComesTo setup past s.0 s.1

  abbrev Out : Type 0
  Out = IsOut past.history s.0 s.1 i

  -- what goes with an answer to a request of the replica
  module _ (y : Reply) (was_sent : Has past.sent (sent.Reply y)) (waited : Waited) (wanted : RequestKind)
      (asked : WasAsked past i incarnation r.partition r.sequence (cur r) (number_of waited) wanted) (same : same_number (number_of waited) y.number ≡ true) where
    at_p : asked.request.partition ≡ s.0
    at_p = asked.segment.0 ∙ ap (λ (x : Segment). x.0) own

    at_q : asked.request.sequence ≡ s.1
    at_q = asked.segment.1 ∙ ap (λ (x : Segment). x.1) own

    at_i : asked.request.number.instance ≡ i
    at_i = ap (λ (n : RequestNumber). n.instance) asked.numbered ∙ asked.own.0

    out_here : IsOut past.history asked.request.partition asked.request.sequence asked.request.number.instance → Out
    out_here out =
        subst (λ (p : Partition). IsOut past.history p s.1 i) at_p
        (subst (λ (q : Sequence). IsOut past.history asked.request.partition q i) at_q
        (subst (λ (j : Instance). IsOut past.history asked.request.partition asked.request.sequence j) at_i out))

    told : GoesWith Within Out (wanted ≡ kind.Stopped → Out) y.status
    told =
        goes_weaker (ComesTo setup past asked.request.partition asked.request.sequence) (BecameFinal past.history asked.request.partition asked.request.sequence.0)
        (asked.request.kind ≡ kind.Stopped → IsOut past.history asked.request.partition asked.request.sequence asked.request.number.instance)
        Within Out (wanted ≡ kind.Stopped → Out) y.status
        (λ x comes.
        subst (λ (p : Partition). ComesTo setup past p s.1 x) at_p (subst (λ (q : Sequence). ComesTo setup past asked.request.partition q x) at_q comes))
        (λ final. out_here (inl final))
        (λ out stop. out_here (out (asked.kind ∙ stop)))
        (all asked.request y asked.was_sent was_sent (asked.numbered ∙ same_number_true (number_of waited) y.number same))

  answer_in : (y : Reply) → Has past.sent (sent.Reply y) → (waited : Waited) → WaitsFor past i incarnation r.partition r.sequence r.name r.phase (Some waited)
      → same_number (number_of waited) y.number ≡ true → TurnSo Within Out (turn_by r.phase waited y.status)
  answer_in y was_sent (Step number) (wanted, asked, step) same =
      answered_so Within Out (wanted ≡ kind.Stopped → Out) r.phase y.status (told y was_sent (Step number) wanted asked same)
      (λ d at out. out (subst (λ (ph : Phase). IsAskedIn r.name ph (Step number) wanted) at step)) had
  answer_in y was_sent (Extend number) (wanted, asked, step) same = extended_so Within Out r.phase y.status had

  reply_in : (y : Reply) → Has past.sent (sent.Reply y) → (o : Option Waited) → r.waited ≡ o → PhaseIn setup past i s (replied_to r o y).phase
  reply_in y was_sent None waits = had
  reply_in y was_sent (Some waited) waits = by_test (same_number (number_of waited) y.number) refl
    where
      by_test : (b : Bool) → same_number (number_of waited) y.number ≡ b → PhaseIn setup past i s (cond b (turned r (turn_by r.phase waited y.status)) r).phase
      by_test true same =
          turned_so Within Out r (turn_by r.phase waited y.status)
          (answer_in y was_sent waited (subst (WaitsFor past i incarnation r.partition r.sequence r.name r.phase) waits is.waited) same)
      by_test false same = had

  -- a batch leads to where a replica can come
  fills : (o : Unsealed) (count : ℕ) → r.phase ≡ phase.Unsealed o → Within o.rows.end
      → Within (filled r.settings.schema (row_limit r.settings o.stage) o.rows (messages_from past.log r.partition (cur r) count)).end
  fills o count at_o here = by_end (filled_reaches r.settings.schema limit count ms r.start o.rows most held)
    where
      limit : ℕ
      limit = row_limit r.settings o.stage

      ms : List (List ℕ)
      ms = messages_of past.log r.partition

      most : limit ≤ MOST_ROWS
      most = limit_most r.settings o.stage (subst (λ (x : Settings). x.rows ≤ MOST_ROWS) (sym is.settings) few)

      held : HoldsRows r.settings.schema ms r.start o.rows
      held = subst (HoldsIn r.settings.schema ms r.start) at_o is.held

      new : Offset → Consuming
      new x = filled r.settings.schema limit o.rows (messages_from past.log r.partition x count)

      at_end : cur r ≡ o.rows.end
      at_end = ap cur_in at_o

      by_end : ((new o.rows.end).end ≡ o.rows.end) ⊎ IsReachable r.settings.schema ms r.start (new o.rows.end).end → Within (new (cur r)).end
      by_end (inl same) = subst (λ (x : Offset). Within (new x).end) (sym at_end) (subst Within (sym same) here)
      by_end (inr k) =
          subst (λ (x : Offset). Within (new x).end) (sym at_end)
          (record {
            start = r.start;
            begun = subst (λ (y : Segment). IsBegun past.history y.0 y.1 r.start) own is.begun;
            reaches =
                λ beyond.
                subst (λ (y : Segment). IsReachable setup.schema (messages_of past.log y.0) r.start (new o.rows.end).end) own
                (subst (λ (x : Settings). IsReachable x.schema ms r.start (new o.rows.end).end) is.settings k);
          })

  step_in : (next : Consumer) → Goes past.sent past.log s r next → PhaseIn setup past i s next.phase
  step_in next (consumes max now h) = taken_so Within Out r next r.phase max now (messages_from past.log r.partition (cur r)) fills h had
  step_in next (forces h) = forced_so Within Out r.phase next.phase h.0 had
  step_in next (stops h) = stopped_so Within Out r.phase next.phase h.0 had
  step_in next (builds h) = subst (λ (x : Consumer). PhaseIn setup past i s x.phase) (sym h.1.2) (filed_so Within Out r.phase h.1.0 had)
  step_in next (asks before after request h) = subst (λ (x : Consumer). PhaseIn setup past i s x.phase) (sym h.2) had
  step_in next (extends before after millis request h) = subst (λ (x : Consumer). PhaseIn setup past i s x.phase) (sym h.2) had
  step_in next (takes y was_sent of_p of_q h) = subst (λ (x : Consumer). PhaseIn setup past i s x.phase) (sym h) (reply_in y was_sent r.waited refl)
  step_in next (learns done end h) =
      subst (λ (x : Consumer). PhaseIn setup past i s x.phase) (sym h) (learned_so Within Out r r.phase done end had had)

-- ---- a turn

module _ (w v : State) (turn : Turn) (s : IsSafeWorld w) (after : IsSafeWorld v) (setup : v.setup ≡ w.setup) (grows : Grows (past_of w) (past_of v))
    (told : AreToldSo w.setup (past_of w)) (all : AllIn w) (t : TurnsTo w turn v) where
  right : IsPast w.setup (past_of v)
  right = subst (λ (z : Setup). IsPast z (past_of v)) setup after.safe.past

  module _ (i : ℕ) (k : ServerNode) (there : slice_get w.servers i ≡ Some k) (x : Segment) where
    over : (r : Consumer) → Has k.server.table.entries (at x (Replica r))
        → (segment_of r ≡ x) × IsReplica w.setup (past_of w) (instance i) k.server.numbers.incarnation r
    over r has =
        let is = s.safe.servers i k there in
        let e = is.over.entries (at x (Replica r)) has in (
          e.0,
          subst (λ (j : Instance). IsReplica w.setup (past_of w) j k.server.numbers.incarnation r)
              (same_instance k.server.numbers.instance (instance i) is.placed) e.1,
        )

    later_in : (r : Consumer) → Has k.server.table.entries (at x (Replica r)) → (ph : Phase) → PhaseIn w.setup (past_of w) (instance i) x ph
        → PhaseIn w.setup (past_of v) (instance i) x ph
    later_in r has ph so =
        let e = over r has in
        phase_weaker (ComesTo w.setup (past_of w) x.0 x.1) (IsOut w.store.writes x.0 x.1 (instance i)) (ComesTo w.setup (past_of v) x.0 x.1)
        (IsOut v.store.writes x.0 x.1 (instance i)) ph
        (λ o. comes_grows w.setup (past_of w) (past_of v) x.0 x.1 o grows)
        (out_grows w.setup (past_of w) (past_of v) s.safe.past right grows x.0 x.1 (instance i)
        (subst (λ (y : Segment). HadEntry w.store.writes y.0 y.1) e.0 e.1.entered)) so

    -- one that was started is where it starts
    started_in : (n : ServerNode) (next : Consumer) → slice_get v.servers i ≡ Some n → Has n.server.table.entries (at x (Replica next))
        → PhaseSo (λ (o : Offset). o ≡ next.start) (IsOut v.store.writes x.0 x.1 (instance i)) next.phase
        → PhaseIn w.setup (past_of v) (instance i) x next.phase
    started_in n next new has so =
        let is = (after.safe.servers i n new).over in
        let e = is.entries (at x (Replica next)) has in
        phase_weaker (λ (o : Offset). o ≡ next.start) (IsOut v.store.writes x.0 x.1 (instance i)) (ComesTo w.setup (past_of v) x.0 x.1)
        (IsOut v.store.writes x.0 x.1 (instance i)) next.phase
        (λ o here.
        subst (λ (z : Setup). ComesTo z (past_of v) x.0 x.1 o) setup
        (starts_there v.setup (past_of v) n.server.numbers.instance n.server.numbers.incarnation x next o e.0 e.1 here))
        (λ out. out) so

    came_in : (n : ServerNode) (next : Consumer) → slice_get v.servers i ≡ Some n → Has n.server.table.entries (at x (Replica next))
        → Came w.sent w.log k.server.table x next → PhaseIn w.setup (past_of v) (instance i) x next.phase
    came_in n next new here (stays has) = later_in next has next.phase (all i k there (at x (Replica next)) has)
    came_in n next new here (steps r has goes) =
        let e = over r has in
        later_in r has next.phase
        (step_in w.setup (past_of w) s.safe.setup.table.rows.1 told (instance i) k.server.numbers.incarnation x r e.0 e.1 (all i k there (at x (Replica r)) has) next
        goes)
    came_in n next new here (starts from meta now is) =
        started_in n next new here
        (subst (λ (r : Consumer). PhaseSo (λ (o : Offset). o ≡ r.start) (IsOut v.store.writes x.0 x.1 (instance i)) r.phase) (sym is) (refl, tt))

  turn_in : AreAt (ServerIn w.setup (past_of v)) v.servers
  turn_in i n at_i = let k = turn_came w turn v t i n at_i in λ x has. by_entry k x.0 x.1 has (k.came x has)
    where
      by_entry : (k : CameServer w i n) (x : Segment) (e : Entry) → Has n.server.table.entries (at x e) → CameEntry w.sent w.log k.old.server.table x e
          → EntryIn w.setup (past_of v) (instance i) x e
      by_entry k x (Replica next) has came = came_in i k.old k.there x n next at_i has came
      by_entry k x (Committed c) has came = tt

-- ---- a run

-- what was told is so, and so are the replicas; each can come to where it asked, and to what machines keep
pub record IsToldRightly (w : State) : Type 0 where
  pub told : AreToldSo w.setup (past_of w)
  pub replicas : AllIn w
  pub asked : AreAskedSo w.setup (past_of w)
  pub machines : AllNodesReach w.setup (past_of w) w.controllers

pub leads_told : (from : State) (turns : List Turn) (to : State) → IsSafeWorld from → IsToldRightly from → Leads from turns to → IsToldRightly to
leads_told from [] to s k e = subst IsToldRightly (sym e) k
leads_told from (turn ∷ turns) to s k (next, t, rest) =
    let one : Leads from (turn ∷ []) next = (next, t, refl) in
    let goes = (leads_add from (turn ∷ []) next s one).goes in
    let after = leads_safe from (turn ∷ []) next s one in
    let told = turn_told from turn next s after goes.setup goes.past k.told k.asked k.machines t in
    let replicas = turn_in from next turn s after goes.setup goes.past k.told k.replicas t in
    let asked : AreAskedSo from.setup (past_of next) =
    λ q has.
    comes_grows from.setup (past_of from) (past_of next) q.partition q.sequence q.offset goes.past
    (turn_asked from s k.replicas k.asked turn next t q has) in
    let machines = nodes_grow from.setup (past_of from) (past_of next) next.controllers goes.past (turn_reach from turn next s k.asked k.machines t) in
    leads_told next turns to after
    (record {
      told = subst (λ (z : Setup). AreToldSo z (past_of next)) (sym goes.setup) told;
      replicas = subst (λ (z : Setup). AreAt (ServerIn z (past_of next)) next.servers) (sym goes.setup) replicas;
      asked = subst (λ (z : Setup). AreAskedSo z (past_of next)) (sym goes.setup) asked;
      machines = subst (λ (z : Setup). AllNodesReach z (past_of next) next.controllers) (sym goes.setup) machines;
    }) rest

-- replicas begin where their segments do, with their rows
abbrev EntryBegins : Segment → Entry → Type 0
EntryBegins s (Replica r) = PhaseSo (λ (x : Offset). x ≡ r.start) ⊥ r.phase
EntryBegins s (Committed c) = Unit {0}

first_begins : (setup : Setup) (i : Instance) (p : ℕ) → Each EntryBegins (first_segments setup i p).entries
first_begins setup i zero = λ x has. absurd has
first_begins setup i (suc p) = by_test (is_assigned setup (record { 0 = p }) i) (first_begins setup i p)
  where
    by_test : (b : Bool) → Each EntryBegins (first_segments setup i p).entries
        → Each EntryBegins (cond b (with_first setup (record { 0 = p }) (first_segments setup i p)) (first_segments setup i p)).entries
    by_test true k =
        add_each EntryBegins (first_segments setup i p).entries (record { 0 = p }) first_sequence (Replica (first_replica setup (record { 0 = p }))) k (refl, tt)
    by_test false k = k

fresh_begins : (setup : Setup) (n : ℕ) → AreAt (λ i m. Each EntryBegins m.server.table.entries) (fresh_servers setup n)
fresh_begins setup zero = at_none (λ i m. Each EntryBegins m.server.table.entries)
fresh_begins setup (suc n) =
    at_push (λ i m. Each EntryBegins m.server.table.entries) (fresh_servers setup n) (fresh_server setup n) (first_begins setup (instance n) setup.partitions)
    (fresh_begins setup n)

begins_in : (w : State) (s : IsSafeWorld w) → AreAt (λ i m. Each EntryBegins m.server.table.entries) w.servers → AllIn w
begins_in w s all i n there x has = by_entry x.0 x.1 has (all i n there x has)
  where
    by_entry : (y : Segment) (e : Entry) → Has n.server.table.entries (at y e) → EntryBegins y e → EntryIn w.setup (past_of w) (instance i) y e
    by_entry y (Replica r) here so =
        let e = (s.safe.servers i n there).over.entries (at y (Replica r)) here in
        phase_weaker (λ (o : Offset). o ≡ r.start) ⊥ (ComesTo w.setup (past_of w) y.0 y.1) (IsOut w.store.writes y.0 y.1 (instance i)) r.phase
        (λ o is. starts_there w.setup (past_of w) n.server.numbers.instance n.server.numbers.incarnation y r o e.0 e.1 is) (λ none. absurd none) so
    by_entry y (Committed c) here so = tt

-- controllers begin with no machine
fresh_reaches : (setup : Setup) (a : Past) (k n : ℕ) → NodeReaches setup a k (fresh_controller setup n)
fresh_reaches setup a k n = by_test (n == 0)
  where
    by_test : (b : Bool) → All (MachineReaches setup a) (cond b (believing (beginning (record { 0 = n }) setup) true) (beginning (record { 0 = n }) setup)).machines
    by_test true = All-nil (MachineReaches setup a)
    by_test false = All-nil (MachineReaches setup a)

fresh_reach : (setup : Setup) (a : Past) (n : ℕ) → AllNodesReach setup a (fresh_controllers setup n)
fresh_reach setup a zero = at_none (NodeReaches setup a)
fresh_reach setup a (suc n) =
    at_push (NodeReaches setup a) (fresh_controllers setup n) (fresh_controller setup n)
    (fresh_reaches setup a (length (fresh_controllers setup n)) n) (fresh_reach setup a n)

start_told : (setup : Setup) → IsSafeWorld (start setup) → IsToldRightly (start setup)
start_told setup s =
    record {
      told = λ q r asked has. absurd has;
      replicas = begins_in (start setup) s (fresh_begins setup setup.servers);
      asked = λ q has. absurd has;
      machines = fresh_reach setup (past_of (start setup)) setup.controllers;
    }

pub runs_told : (setup : Setup) (turns : List Turn) (w : State) → IsSetup setup → Runs setup turns w → IsToldRightly w
runs_told setup turns w is run =
    let s = runs_are_safe setup [] (start setup) is refl in leads_told (start setup) turns w s (start_told setup s) run

-- ---- as laws say it

pub dropped_out : (w : State) → IsToldRightly w → AreDroppedOut w
dropped_out w k i n there p q r found dropped =
    phase_out (ComesTo w.setup (past_of w) p q) (IsOut w.store.writes p q i) r.phase
    (k.replicas i.0 n there (at (p, q) (Replica r))
    (lookup-Has segment_cmp segment_exact n.server.table.entries (p, q) (Replica r) (replica_found (entry_of n.server.table p q) r found))) dropped

-- DISCARD is told of a segment that has ended
pub discards_end : (setup : Setup) (turns : List Turn) (w : State) (r : Reply) → IsSetup setup → Runs setup turns w → Has w.sent (sent.Reply r)
    → r.status ≡ status.Discard → BecameFinal w.store.writes r.partition r.sequence.0
discards_end setup turns w r is run has discard =
    let y = (runs_are_safe setup turns w is run).safe.past.replies r has in
    let so = (runs_told setup turns w is run).told y.request r y.was_sent has (ap (λ (a : Asked). a.number) y.answers) in
    subst (λ (a : Asked). BecameFinal w.store.writes a.partition a.sequence.0) y.answers (subst (IsToldSo w.setup (past_of w) y.request) discard so)

-- PROCESSED is told to a stop whose sender is out
pub stops_out : (setup : Setup) (turns : List Turn) (w : State) (q : Request) (r : Reply) → IsSetup setup → Runs setup turns w → Has w.sent (sent.Request q)
    → Has w.sent (sent.Reply r) → q.number ≡ r.number → q.kind ≡ kind.Stopped → r.status ≡ status.Processed
    → IsOut w.store.writes q.partition q.sequence q.number.instance
stops_out setup turns w q r is run asked has same stop processed =
    subst (IsToldSo w.setup (past_of w) q) processed ((runs_told setup turns w is run).told q r asked has same) stop

-- an instance that is out stays so in a run
pub stays_out : (setup : Setup) (turns : List Turn) (w : State) (more : List Turn) (v : State) → IsSetup setup → Runs setup turns w → Leads w more v
    → (p : Partition) (q : Sequence) (i : Instance) → HadEntry w.store.writes p q → IsOut w.store.writes p q i → IsOut v.store.writes p q i
stays_out setup turns w more v is run further p q i had out =
    let s = runs_are_safe setup turns w is run in
    let goes = (leads_add w more v s further).goes in
    let right = subst (λ (z : Setup). IsPast z (past_of v)) goes.setup (leads_safe w more v s further).safe.past in
    out_grows w.setup (past_of w) (past_of v) s.safe.past right goes.past p q i had out
