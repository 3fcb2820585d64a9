-- A replica of a segment can come to the offset of each request about it, turn by turn: it was asked by a replica that had come there.
use Rattle.std.proofs.Common.{◌≡◌, ◌⊎◌, inl, inr, ℕ, List, [], ◌∷◌, ◌++◌, Option, Some, None, Result, Ok, Err, refl, sym, ◌∙◌, ap, subst, slice_get, length}
use Rattle.std.proofs.lemmas.Option.{none-some}
use Rattle.rt_base.specs.declared.numbers.Instance.{Instance}
use Rattle.rt_base.specs.declared.numbers.Offset.{Offset}
use Rattle.rt_base.specs.declared.numbers.Partition.{Partition}
use Rattle.rt_base.specs.declared.numbers.Sequence.{Sequence}
use Rattle.rt_broker.specs.Asking.{Asking, piece_at}
use Rattle.rt_consumer.specs.Consumer.{cur, cur_in}
use Rattle.rt_consumer.specs.Requests.{kind_in, more_time, Extends, Requests}
use Rattle.rt_consumer.specs.declared.consumer.Consumer.{Consumer}
use Rattle.rt_consumer.specs.declared.phase.Phase.{Phase}
use Rattle.rt_consumer.specs.declared.phase.Phase.TheVariants as phase
use Rattle.rt_consumer.specs.declared.refused.ReplicaRefused.{ReplicaRefused}
use Rattle.rt_controller.specs.declared.handled.Handled.{Handled}
use Rattle.rt_controller.specs.declared.handled.Handled.TheVariants as handled
use Rattle.rt_entry.specs.Calls.{answered_as, ReplicaCall}
use Rattle.rt_entry.specs.declared.entry.Entry.{Entry}
use Rattle.rt_entry.specs.declared.entry.Entry.TheVariants.{Replica, Committed}
use Rattle.rt_entry.specs.declared.refused.ServerRefused.{ServerRefused}
use Rattle.rt_events.specs.declared.event.Event.{Event}
use Rattle.rt_events.specs.declared.event.Event.TheVariants as event
use Rattle.rt_lists.specs.Members.{Has}
use Rattle.rt_lists.proofs.Members.{Has-push_cases}
use Rattle.rt_model.specs.declared.job_step.JobStep.{JobStep}
use Rattle.rt_model.specs.declared.piece.Piece.{Piece}
use Rattle.rt_model.specs.declared.reply.Reply.{Reply}
use Rattle.rt_model.specs.declared.request.Request.{Request}
use Rattle.rt_model.specs.declared.request.RequestKind.{RequestKind}
use Rattle.rt_model.specs.declared.request.RequestNumber.{RequestNumber}
use Rattle.rt_model.specs.declared.sent.Sent.{Sent}
use Rattle.rt_model.specs.declared.sent.Sent.TheVariants as sent
use Rattle.rt_model.specs.declared.setup.Setup.{Setup}
use Rattle.rt_nodes.specs.declared.controller_node.ControllerNode.{ControllerNode}
use Rattle.rt_nodes.specs.declared.server_node.ServerNode.{ServerNode}
use Rattle.rt_nodes.specs.declared.upkeep.Upkeep.{Upkeep}
use Rattle.rt_past.proofs.Ways.{no_request, one_request}
use Rattle.rt_past.specs.Past.{Past}
use Rattle.rt_safety.proofs.Ways.{leaving, Leaving}
use Rattle.rt_safety.specs.Runs.{happens, passes, Turn, TurnsTo}
use Rattle.rt_server.proofs.EachEntry.{Each}
use Rattle.rt_server.proofs.Kept.{replica_found}
use Rattle.rt_server.proofs.LastingTables.{at, lookup-Has, segment_exact}
use Rattle.rt_server.specs.Calls.{Through, ThroughAt}
use Rattle.rt_server.specs.Table.{entry_of, replica_of, Segment, segment_cmp, segment_of, Segments}
use Rattle.rt_state.specs.Applying.{Next}
use Rattle.rt_state.specs.Finding.{query_at, reply_at, request_at}
use Rattle.rt_state.specs.IsSafe.{past_of}
use Rattle.rt_state.specs.IsSafeWorld.{IsSafeWorld}
use Rattle.rt_state.specs.Jobs.{noted_set, stepped_by, JobStepsAt}
use Rattle.rt_state.specs.Messages.{after_step, handed, node_took, DeliversAt, RepliesAt}
use Rattle.rt_state.specs.Nodes.{ControllerDoesAt, ServerCallsAt, ServerDoesAt, ServerFetchesAt, ServerGetsAt}
use Rattle.rt_state.specs.Places.{AreAt}
use Rattle.rt_state.specs.Queries.{AnswersAt, PiecesAt, PiecesOf, RoutesAt}
use Rattle.rt_state.specs.Repairs.{upkeep_at, KeepsAt}
use Rattle.rt_state.specs.Requests.{AskStep, NodeAsks, NodeAsksFor, SendsAt}
use Rattle.rt_state.specs.declared.cost.Cost.{Cost}
use Rattle.rt_state.specs.declared.state.State.{State}
use Rattle.rt_world.specs.Step.{way_of}
use Rattle.rt_world.specs.Way.{Goes, Way}
use Rattle.rt_world.specs.Way as way
use Rattle.rt_heal.specs.Dropped.{IsOut}
use Rattle.rt_heal.specs.Reachable.{ComesTo}
use Rattle.rt_heal.proofs.MachineRuns.{AreAskedSo}
use Rattle.rt_heal.proofs.Phases.{PhaseSo}

abbrev pub instance : ℕ → Instance
instance i = record { 0 = i }

-- a replica can come to where it is and to its target, and where it has dropped its rows for good it is out
abbrev pub PhaseIn : Setup → Past → Instance → Segment → Phase → Type 0
PhaseIn setup a i s ph = PhaseSo (ComesTo setup a s.0 s.1) (IsOut a.history s.0 s.1 i) ph

abbrev pub EntryIn : Setup → Past → Instance → Segment → Entry → Type 0
EntryIn setup a i s (Replica r) = PhaseIn setup a i s r.phase
EntryIn setup a i s (Committed c) = Unit {0}

abbrev pub ServerIn : Setup → Past → ℕ → ServerNode → Type 0
ServerIn setup a i n = Each (EntryIn setup a (instance i)) n.server.table.entries

-- so it is of each server
abbrev pub AllIn : State → Type 0
AllIn w = AreAt (ServerIn w.setup (past_of w)) w.servers

-- ---- a replica asks

-- one that asks can come to where it is
module _ (W : Offset → Type 0) (O : Type 0) where
  asks_so : (name : List ℕ) (number : RequestNumber) (ph : Phase) (k : RequestKind) → PhaseSo W O ph → kind_in name number ph ≡ Some k → W (cur_in ph)
  asks_so name number (phase.Unsealed o) k so e = so.0
  asks_so name number (phase.Discarded d) k so e = so.0
  asks_so name number (phase.Retained kept) k so e = absurd (none-some k e)
  asks_so name number (phase.Committed kept) k so e = absurd (none-some k e)

  extends_so : (millis : ℕ) (ph : Phase) (k : RequestKind) → PhaseSo W O ph → more_time ph millis ≡ Some k → W (cur_in ph)
  extends_so millis (phase.Unsealed o) k so e = so.0
  extends_so millis (phase.Discarded d) k so e = so.0
  extends_so millis (phase.Retained kept) k so e = absurd (none-some k e)
  extends_so millis (phase.Committed kept) k so e = absurd (none-some k e)

-- the replica that a request was asked by
record IsAsked (call : Consumer → Consumer → Result Request ReplicaRefused → Type 0) (t : Segments) (p : Partition) (q : Sequence) (request : Request) : Type 0 where
  replica : Consumer
  next : Consumer
  has : Has t.entries (at (p, q) (Replica replica))
  asks : call replica next (Ok request)

abbrev asking : Request → Result Request ServerRefused
asking r = Ok r

not_asking : (r : Request) (e : ServerRefused) → asking r ≡ Err e → ⊥
not_asking r e is = cc

same_asking : (r s : Request) → asking r ≡ asking s → s ≡ r
same_asking r s is = cc

asked_by : (quiet : Type 0) (call : ReplicaCall Request) (old new : Segments) (p : Partition) (q : Sequence) (request : Request)
    → Through quiet call old new p q (asking request) → IsAsked call old p q request
asked_by quiet call old new p q request h = by_replica (replica_of old p q) refl h
  where
    by_answer : (r next : Consumer) (a : Result Request ReplicaRefused) → call r next a → asking request ≡ answered_as a → call r next (Ok request)
    by_answer r next (Ok y) does told = subst (λ (z : Request). call r next (Ok z)) (same_asking request y told) does
    by_answer r next (Err e) does told = absurd (not_asking request _ told)

    by_replica : (o : Option Consumer) → replica_of old p q ≡ o → ThroughAt o quiet call old new p q (asking request) → IsAsked call old p q request
    by_replica None found (still, told, same) = absurd (not_asking request _ told)
    by_replica (Some r) found (next, answer, does, told, put) =
        record {
          replica = r;
          next = next;
          has = lookup-Has segment_cmp segment_exact old.entries (p, q) (Replica r) (replica_found (entry_of old p q) r found);
          asks = by_answer r next answer does told;
        }

-- ---- worlds

module _ (w : State) (s : IsSafeWorld w) (all : AllIn w) (asked : AreAskedSo w.setup (past_of w)) where
  abbrev pub Comes : Request → Type 0
  Comes q = ComesTo w.setup (past_of w) q.partition q.sequence q.offset

  abbrev pub AreSo : List Sent → Type 0
  AreSo ms = (q : Request) → Has ms (sent.Request q) → Comes q

  -- what a replica asks, at the offset where it is
  asked_comes : (i : ℕ) (n : ServerNode) (p : Partition) (q : Sequence) (r : Consumer) (request : Request) → slice_get w.servers i ≡ Some n
      → Has n.server.table.entries (at (p, q) (Replica r)) → request.partition ≡ r.partition → request.sequence ≡ r.sequence → request.offset ≡ cur r
      → ComesTo w.setup (past_of w) p q (cur r) → Comes request
  asked_comes i n p q r request there has of_p of_q here comes =
      let own : segment_of r ≡ (p, q) = ((s.safe.servers i n there).over.entries (at (p, q) (Replica r)) has).0 in
      let at_p : request.partition ≡ p = of_p ∙ ap (λ (x : Segment). x.0) own in
      let at_q : request.sequence ≡ q = of_q ∙ ap (λ (x : Segment). x.1) own in
      subst (λ (x : Partition). ComesTo w.setup (past_of w) x request.sequence request.offset) (sym at_p)
      (subst (λ (y : Sequence). ComesTo w.setup (past_of w) p y request.offset) (sym at_q)
      (subst (λ (o : Offset). ComesTo w.setup (past_of w) p q o) (sym here) comes))

  -- a step that makes a request
  abbrev AsksSo : Instance → AskStep → Type 0
  AsksSo i asks = (old new : ServerNode) (request : Request) → slice_get w.servers i.0 ≡ Some old → asks old new request → Comes request

  reports_so : (i : Instance) (p : Partition) (q : Sequence) → AsksSo i (NodeAsks p q)
  reports_so i p q old new request there step =
      let k = asked_by (new.server.numbers ≡ old.server.numbers) (λ r next answer. Requests r next old.server.numbers new.server.numbers answer)
      old.server.table new.server.table p q request step.0 in
      let so : PhaseIn w.setup (past_of w) (instance i.0) (p, q) k.replica.phase = all i.0 old there (at (p, q) (Replica k.replica)) k.has in
      asked_comes i.0 old p q k.replica request there k.has (ap (λ (x : Request). x.partition) k.asks.1) (ap (λ (x : Request). x.sequence) k.asks.1)
      (ap (λ (x : Request). x.offset) k.asks.1)
      (asks_so (ComesTo w.setup (past_of w) p q) (IsOut w.store.writes p q (instance i.0)) k.replica.name _ k.replica.phase request.kind so k.asks.0)

  extends_more : (i : Instance) (p : Partition) (q : Sequence) (millis : ℕ) → AsksSo i (NodeAsksFor p q millis)
  extends_more i p q millis old new request there step =
      let k = asked_by (new.server.numbers ≡ old.server.numbers) (λ r next answer. Extends r next old.server.numbers new.server.numbers millis answer)
      old.server.table new.server.table p q request step.0 in
      let so : PhaseIn w.setup (past_of w) (instance i.0) (p, q) k.replica.phase = all i.0 old there (at (p, q) (Replica k.replica)) k.has in
      asked_comes i.0 old p q k.replica request there k.has (ap (λ (x : Request). x.partition) k.asks.1) (ap (λ (x : Request). x.sequence) k.asks.1)
      (ap (λ (x : Request). x.offset) k.asks.1)
      (extends_so (ComesTo w.setup (past_of w) p q) (IsOut w.store.writes p q (instance i.0)) millis k.replica.phase request.kind so k.asks.0)

  -- ---- ways

  abbrev SendsSo : Way → Type 0
  SendsSo (way.sends i asks) = AsksSo i asks
  SendsSo other = Unit {0}

  module _ (x : Next) (cost : Cost) where
    none_asked : x.0.sent ≡ w.sent → AreSo x.0.sent
    none_asked e q has = asked q (subst (λ (ms : List Sent). Has ms (sent.Request q)) e has)

    one_asked : (y : Request) → x.0.sent ≡ w.sent ++ sent.Request y ∷ [] → Comes y → AreSo x.0.sent
    one_asked y more own q has =
        by_place (Has-push_cases w.sent (sent.Request y) (sent.Request q) (subst (λ (ms : List Sent). Has ms (sent.Request q)) more has))
      where
        by_place : Has w.sent (sent.Request q) ⊎ (sent.Request y ≡ sent.Request q) → Comes q
        by_place (inl old) = asked q old
        by_place (inr is) = subst Comes (one_request y q is) own

    one_replied : (y : Reply) → x.0.sent ≡ w.sent ++ sent.Reply y ∷ [] → AreSo x.0.sent
    one_replied y more q has =
        asked q
        (no_request w.sent y q (Has-push_cases w.sent (sent.Reply y) (sent.Request q) (subst (λ (ms : List Sent). Has ms (sent.Request q)) more has)))

    goes_asked : (y : Way) → SendsSo y → Leaving w cost y → Goes w y cost x → AreSo x.0.sent
    goes_asked (way.alone i does) so left h = by_node (slice_get w.servers i.0) h
      where
        by_node : (n : Option ServerNode) → ServerDoesAt n w i does cost x → AreSo x.0.sent
        by_node None h = absurd h
        by_node (Some old) (new, step, is) = none_asked (ap (λ (z : State). z.sent) is)
    goes_asked (way.looks i does) so left h = by_node (slice_get w.servers i.0) h
      where
        by_node : (n : Option ServerNode) → ServerFetchesAt n w i does cost x → AreSo x.0.sent
        by_node None h = absurd h
        by_node (Some old) (new, log, step, is) = none_asked (ap (λ (z : State). z.sent) is)
    goes_asked (way.calls i does) so left h = by_node (slice_get w.servers i.0) h
      where
        by_node : (n : Option ServerNode) → ServerCallsAt n w i does cost x → AreSo x.0.sent
        by_node None h = absurd h
        by_node (Some old) (new, store, step, is) = none_asked (ap (λ (z : State). z.sent) is)
    goes_asked (way.gets i does) so left h = by_node (slice_get w.servers i.0) h
      where
        by_node : (n : Option ServerNode) → ServerGetsAt n w i does cost x → AreSo x.0.sent
        by_node None h = absurd h
        by_node (Some old) (new, deep, step, is) = none_asked (ap (λ (z : State). z.sent) is)
    goes_asked (way.sends i asks) so left h = by_node (slice_get w.servers i.0) refl h
      where
        by_node : (n : Option ServerNode) → slice_get w.servers i.0 ≡ n → SendsAt n w i asks cost x → AreSo x.0.sent
        by_node None at_i h = absurd h
        by_node (Some old) at_i (new, request, step, is) = one_asked request (ap (λ (z : Next). z.0.sent) is) (so old new request at_i step)
    goes_asked (way.takes m) so left h = by_found (reply_at w m) h
      where
        by_node : (r : Reply) (n : Option ServerNode) → ServerDoesAt n w r.number.instance (λ old new outcome. (outcome, new) ≡ node_took old r) cost x → AreSo x.0.sent
        by_node r None h = absurd h
        by_node r (Some old) (new, step, is) = none_asked (ap (λ (z : State). z.sent) is)

        by_found : (o : Option Reply) → RepliesAt o w cost x → AreSo x.0.sent
        by_found None h = absurd h
        by_found (Some r) h = by_node r (slice_get w.servers r.number.instance.0) h
    goes_asked (way.turns c does told) so left h = by_node (slice_get w.controllers c.0) h
      where
        by_node : (n : Option ControllerNode) → ControllerDoesAt n w c does told cost x → AreSo x.0.sent
        by_node None h = absurd h
        by_node (Some n) is = none_asked (ap (λ (z : Next). z.0.sent) is)
    goes_asked (way.handles m c) so left h = by_found (request_at w m) (slice_get w.controllers c.0) h
      where
        by_answer : (z : State) (what : Handled) → z.sent ≡ w.sent → x ≡ handed z cost what → AreSo x.0.sent
        by_answer z (handled.Reply y) same is =
            one_replied y (ap (λ (n : Next). n.0.sent) is ∙ ap (λ (ms : List Sent). ms ++ sent.Reply y ∷ []) same)
        by_answer z (handled.Job j) same is = none_asked (ap (λ (n : Next). n.0.sent) is ∙ same)

        by_found : (o : Option Request) (n : Option ControllerNode) → DeliversAt o n w c cost x → AreSo x.0.sent
        by_found None n h = absurd h
        by_found (Some r) None h = absurd h
        by_found (Some r) (Some n) (new, what, store, deep, handles, is) = by_answer (after_step w c n new store deep) what refl is
    goes_asked (way.works c j) so left h = by_node (slice_get w.controllers c.0) h
      where
        by_reply : (z : State) (step : JobStep) (o : Option Reply) → z.sent ≡ w.sent → x ≡ stepped_by z cost step o → AreSo x.0.sent
        by_reply z step None same is = none_asked (ap (λ (n : Next). n.0.sent) is ∙ same)
        by_reply z step (Some y) same is =
            one_replied y (ap (λ (n : Next). n.0.sent) is ∙ ap (λ (ms : List Sent). ms ++ sent.Reply y ∷ []) same)

        by_node : (n : Option ControllerNode) → JobStepsAt n w c j cost x → AreSo x.0.sent
        by_node None h = absurd h
        by_node (Some n) (new, step, store, deep, works, is) =
            by_reply (noted_set (after_step w c n new store deep) cost (length w.store.writes)) step step.reply refl is
    goes_asked (way.keeps c p chore) so left h = by_found (slice_get w.controllers c.0) (upkeep_at w c p) h
      where
        by_found : (n : Option ControllerNode) (u : Option Upkeep) → KeepsAt n u w c p chore cost x → AreSo x.0.sent
        by_found None u h = absurd h
        by_found (Some n) None h = absurd h
        by_found (Some n) (Some old) (new, store, steps, is) = none_asked (ap (λ (z : State). z.sent) is)
    goes_asked (way.routes q p) so left h = by_query (query_at w q) h
      where
        by_query : (o : Option Asking) → RoutesAt o w q p cost x → AreSo x.0.sent
        by_query None h = absurd h
        by_query (Some a) (new, store, answer, routes, told, is) = none_asked (ap (λ (z : State). z.sent) is)
    goes_asked (way.serves q p t i) so left h = by_query (query_at w q) h
      where
        by_piece : (a : Asking) (o : Option Piece) (n : Option ServerNode) → PiecesOf o n a w q i cost x → AreSo x.0.sent
        by_piece a None n h = absurd h
        by_piece a (Some piece) None h = absurd h
        by_piece a (Some piece) (Some n) (new, what, gives, notes, is) = none_asked (ap (λ (z : Next). z.0.sent) is)

        by_query : (o : Option Asking) → PiecesAt o w q p t i cost x → AreSo x.0.sent
        by_query None h = absurd h
        by_query (Some a) h = by_piece a (piece_at a p t) (slice_get w.servers i.0) h
    goes_asked (way.closes q) so left h = by_query (query_at w q) h
      where
        by_query : (o : Option Asking) → AnswersAt o w q cost x → AreSo x.0.sent
        by_query None h = absurd h
        by_query (Some a) (answer, right, is) = none_asked (ap (λ (z : Next). z.0.sent) is)
    goes_asked (way.outside next) so left h = none_asked (ap (λ (z : Next). z.0.sent) h ∙ left.sent)

  -- ---- a turn

  event_sends : (e : Event) → SendsSo (way_of w e)
  event_sends (event.Report i p q) = reports_so i p q
  event_sends (event.Extend i p q millis) = extends_more i p q millis
  event_sends e = tt

  pub turn_asked : (turn : Turn) (new : State) → TurnsTo w turn new → AreSo new.sent
  turn_asked (happens e o) new (fits, (cost, due, h)) = goes_asked (new, o) cost (way_of w e) (event_sends e) (leaving w e cost due) h
  turn_asked passes new (cost, due, is) =
      λ q has. asked q (subst (λ (ms : List Sent). Has ms (sent.Request q)) (ap (λ (x : State). x.sent) is) has)
