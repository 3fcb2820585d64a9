-- What is asked, routed, served and answered of a query keeps a world safe.
use Rattle.std.proofs.Common.{◌≡◌, ℕ, ◌+◌, List, [], ◌∷◌, ◌++◌, Result, Ok, Err, Option, Some, None, refl, sym, ◌∙◌, ap, subst, slice_get, arith, length-append}
use Rattle.std.specs.Prelude.{slice_set, is_some}
use Rattle.std.proofs.lemmas.List.{length-set}
use Rattle.std.proofs.lemmas.Option.{none-some}
use Rattle.rt_base.specs.declared.numbers.Instance.{Instance}
use Rattle.rt_base.specs.declared.numbers.Partition.{Partition}
use Rattle.rt_base.specs.declared.numbers.Sequence.{Sequence}
use Rattle.rt_broker.specs.declared.refused.BrokerRefused.{BrokerRefused}
use Rattle.rt_broker.specs.declared.refused.BrokerRefused.TheVariants as broker
use Rattle.rt_broker.specs.Asking.{Asking, asking, piece_at}
use Rattle.rt_broker.specs.Routing.{Routes as broker_routes}
use Rattle.rt_broker.proofs.Lasting.{asked_begins, route_kept, note_kept}
use Rattle.rt_controller.proofs.Paired.{one_if, count_push, count_set}
use Rattle.rt_events.specs.declared.outcome.Outcome.{Outcome}
use Rattle.rt_model.specs.Checked.{IsQuery}
use Rattle.rt_model.specs.declared.node.Seen.{Seen}
use Rattle.rt_model.specs.declared.piece.Piece.{Piece}
use Rattle.rt_model.specs.declared.query.Query.{Query}
use Rattle.rt_lists.specs.Members.{IsFront}
use Rattle.rt_lists.proofs.Members.{front_same}
use Rattle.rt_past.specs.Past.{with_history}
use Rattle.rt_store.specs.Meaning.{Meaning, Told}
use Rattle.rt_store.specs.Memory.{means}
use Rattle.rt_state.specs.Applying.{Next}
use Rattle.rt_state.specs.Finding.{query_in, query_at}
use Rattle.rt_state.specs.IsSafe.{IsQueryAsked, IsSafeOver, IsSafe, past_of}
use Rattle.rt_state.specs.IsSafeWorld.{open_in, IsFewOver, IsFew, IsSafeWorld}
use Rattle.rt_state.specs.Queries.{asked, routed_by, RoutesAt, Routes, PiecesOf, PiecesAt, Pieces, closed, AnswersAt, Answers}
use Rattle.rt_state.specs.Room.{no_cost, query_cost, priced, spent, counted}
use Rattle.rt_state.specs.declared.cost.Cost.{Cost}
use Rattle.rt_nodes.proofs.Looks.{reads_look, unwritten}
use Rattle.rt_nodes.specs.declared.server_node.ServerNode.{ServerNode}
use Rattle.rt_state.specs.declared.state.State.{State}
use Rattle.rt_world.proofs.Few.{GrowsFew, few_after, none_started}
use Rattle.rt_state.proofs.Pieces.{given_right, open_closed, piece_order}
use Rattle.rt_state.proofs.Possible.{HasRoom, priced_room}
use Rattle.rt_world.proofs.Sets.{query_set, query_added}

-- ---- how many are open

open_push : (qs : List (Option Asking)) (x : Option Asking) → open_in (qs ++ x ∷ []) ≡ open_in qs + one_if (is_some x)
open_push qs x = count_push is_some qs x

-- one that is open is put at its place
open_kept : (qs : List (Option Asking)) (q : ℕ) (a b : Asking) → slice_get qs q ≡ Some (Some a) → open_in (slice_set qs q (Some b)) ≡ open_in qs
open_kept qs q a b e = omega (arith, count_set is_some qs q (Some a) (Some b) e)

-- a query that is open stands at its place
pub query_there : (w : State) (q : ℕ) (a : Asking) → query_at w q ≡ Some a → slice_get w.queries q ≡ Some (Some a)
query_there w q a e = by_place (slice_get w.queries q) refl e
  where
    by_place : (o : Option (Option Asking)) → slice_get w.queries q ≡ o → query_in o ≡ Some a → slice_get w.queries q ≡ Some (Some a)
    by_place None at f = absurd (none-some a f)
    by_place (Some x) at f = at ∙ ap (λ (y : Option Asking). Some y) f

pub asked_there : (w : State) (q : ℕ) (a : Asking) → IsSafe w → query_at w q ≡ Some a → IsQueryAsked w.setup (past_of w) a
asked_there w q a s e = s.queries q (Some a) (query_there w q a e)

-- ---- ask

pub ask_keeps : (w : State) (query : Query) (cost : Cost) → IsSafeWorld w → IsQuery w.setup.schema query → priced w query_cost ≡ Ok cost → IsSafeWorld (asked w query cost).0
ask_keeps w query cost s checked possible =
    let room = priced_room w query_cost cost possible in
    let a : Option Asking = Some (asking query w.setup) in
    let costs : 1 ≡ cost.queries = ap (λ (c : Cost). c.queries) room.0 in
    record {
      safe =
          query_added w.setup (past_of w) w.servers w.controllers w.queries a s.safe
          (record { query = checked; over = asked_begins w.setup (past_of w) query });
      few =
          few_after w (asked w query cost).0 cost (subst (HasRoom w) room.0 room.1)
          (record {
            setup = refl;
            events = refl;
            written = omega arith;
            sent = omega arith;
            appended = omega arith;
            asked = omega (arith, length-append w.queries (a ∷ []));
            started = none_started w s.few;
            unanswered = omega (arith, s.few.unanswered, costs, open_push w.queries a);
            few_unanswered = omega arith;
            uploads = refl;
            stored = omega arith;
            moment = omega arith;
          })
          s.few;
    }

-- ---- what is noted of a query

-- a query is put back, and nothing else changes
query_few : (w : State) (q : ℕ) (a b : Asking) (cost : Cost) → IsFew w → slice_get w.queries q ≡ Some (Some a) → no_cost ≡ cost
    → GrowsFew w (counted (record w { queries = slice_set w.queries q (Some b) }) cost) cost
query_few w q a b cost f at free =
    record {
      setup = refl;
      events = refl;
      written = omega arith;
      sent = omega arith;
      appended = omega arith;
      asked = omega (arith, length-set w.queries q (Some b));
      started = none_started w f;
      unanswered = omega (arith, f.unanswered, open_kept w.queries q a b at, ap (λ (c : Cost). c.queries) free);
      few_unanswered = omega arith;
      uploads = refl;
      stored = omega arith;
      moment = omega arith;
    }

pub query_put : (w : State) (q : ℕ) (a b : Asking) (cost : Cost) → IsSafeWorld w → query_at w q ≡ Some a → priced w no_cost ≡ Ok cost → IsQueryAsked w.setup (past_of w) b
    → IsSafeWorld (counted (record w { queries = slice_set w.queries q (Some b) }) cost)
query_put w q a b cost s at possible k =
    let room = priced_room w no_cost cost possible in
    record {
      safe = query_set w.setup (past_of w) w.servers w.controllers w.queries q (Some b) s.safe k;
      few =
          few_after w (counted (record w { queries = slice_set w.queries q (Some b) }) cost) cost (subst (HasRoom w) room.0 room.1)
          (query_few w q a b cost s.few (query_there w q a at) room.0) s.few;
    }

-- ---- route

pub routed_reads : (w : State) (store : Told) (a b : Asking) (p : Partition) (answer : Result ℕ BrokerRefused) (o : Outcome)
    → broker_routes (means w.store) (means store) a p b answer → routed_by answer ≡ Some o → store.writes ≡ w.store.writes
routed_reads w store a b p (Ok count) o r e = unwritten w.store store (reads_look w.store store _ _ r.1.listed)
routed_reads w store a b p (Err broker.NotDue) o r e = absurd (none-some o e)
routed_reads w store a b p (Err broker.StoreFault) o r e = unwritten w.store store (reads_look w.store store _ _ r.1)
routed_reads w store a b p (Err broker.Memory) o r e = absurd (none-some o e)

pub routed_query : (old new : Meaning) (a b : Asking) (p : Partition) (answer : Result ℕ BrokerRefused) → broker_routes old new a p b answer → b.query ≡ a.query
routed_query old new a b p (Ok count) r = ap (λ (x : Asking). x.query) r.1.noted
routed_query old new a b p (Err broker.NotDue) r = ap (λ (x : Asking). x.query) r.1
routed_query old new a b p (Err broker.StoreFault) r = ap (λ (x : Asking). x.query) r.2
routed_query old new a b p (Err broker.Memory) r = ap (λ (x : Asking). x.query) r.1

pub route_keeps : (w : State) (q : ℕ) (p : Partition) (cost : Cost) (x : Next) → IsSafeWorld w → priced w no_cost ≡ Ok cost → Routes w q p cost x → IsSafeWorld x.0
route_keeps w q p cost x s free h = by_query (query_at w q) refl h
  where
    by_query : (o : Option Asking) → query_at w q ≡ o → RoutesAt o w q p cost x → IsSafeWorld x.0
    by_query None at h = absurd h
    by_query (Some a) at (b, store, answer, routes, told, is) =
        let past = past_of w in
        let k = asked_there w q a s.safe at in
        let same : store.writes ≡ w.store.writes = routed_reads w store a b p answer x.1 routes told in
        let front : IsFront store.writes past.history = subst (λ (h : List Seen). IsFront h past.history) (sym same) (front_same past.history) in
        let over = route_kept (means w.store) (means store) a p b answer routes w.setup past (s.safe.past.lawful.later, s.safe.past.lawful.whole) front k.over in
        let query = subst (IsQuery w.setup.schema) (sym (routed_query (means w.store) (means store) a b p answer routes)) k.query in
        let safe = query_put w q a b cost s at free (record { query = query; over = over }) in
        subst IsSafeWorld (sym is)
        (record {
          safe = subst (λ (h : List Seen). IsSafeOver w.setup (with_history past h) w.servers w.controllers (slice_set w.queries q (Some b))) (sym same) safe.safe;
          few = subst (λ (h : List Seen). IsFewOver w.setup (with_history past h) w.controllers (slice_set w.queries q (Some b)) (spent w.counts cost) w.moment) (sym same) safe.few;
        })

-- ---- piece

pub piece_keeps : (w : State) (q : ℕ) (p : Partition) (s : Sequence) (i : Instance) (cost : Cost) (x : Next) → IsSafeWorld w → priced w no_cost ≡ Ok cost
    → Pieces w q p s i cost x → IsSafeWorld x.0
piece_keeps w q p s i cost x safe free h = by_query (query_at w q) refl h
  where
    by_piece : (a : Asking) → query_at w q ≡ Some a → (o : Option Piece) → piece_at a p s ≡ o
        → (n : Option ServerNode) → slice_get w.servers i.0 ≡ n → PiecesOf o n a w q i cost x → IsSafeWorld x.0
    by_piece a at None found n there h = absurd h
    by_piece a at (Some piece) found None there h = absurd h
    by_piece a at (Some piece) found (Some n) there (b, what, gives, notes, is) =
        let past = past_of w in
        let k = asked_there w q a safe.safe at in
        let order = piece_order w.setup past a p s piece safe.safe.past k.over found in
        let right = given_right w.setup past n piece a.query what (safe.safe.servers i.0 n there).over order gives in
        let over = note_kept a piece i what b (Ok tt) notes w.setup past right k.over in
        let query = subst (IsQuery w.setup.schema) (sym (ap (λ (y : Asking). y.query) notes.1)) k.query in
        subst (λ (y : Next). IsSafeWorld y.0) (sym is) (query_put w q a b cost safe at free (record { query = query; over = over }))

    by_query : (o : Option Asking) → query_at w q ≡ o → PiecesAt o w q p s i cost x → IsSafeWorld x.0
    by_query None at h = absurd h
    by_query (Some a) at h = by_piece a at (piece_at a p s) refl (slice_get w.servers i.0) refl h

-- ---- answer

closed_few : (w : State) (q : ℕ) (a : Asking) (cost : Cost) → IsFew w → slice_get w.queries q ≡ Some (Some a) → no_cost ≡ cost → GrowsFew w (closed w q cost) cost
closed_few w q a cost f at free =
    record {
      setup = refl;
      events = refl;
      written = omega arith;
      sent = omega arith;
      appended = omega arith;
      asked = omega (arith, length-set w.queries q None);
      started = none_started w f;
      unanswered = omega (arith, f.unanswered, open_closed w.queries q a at, ap (λ (c : Cost). c.queries) free);
      few_unanswered = omega arith;
      uploads = refl;
      stored = omega arith;
      moment = omega arith;
    }

pub answer_keeps : (w : State) (q : ℕ) (cost : Cost) (x : Next) → IsSafeWorld w → priced w no_cost ≡ Ok cost → Answers w q cost x → IsSafeWorld x.0
answer_keeps w q cost x s free h = by_query (query_at w q) refl h
  where
    by_query : (o : Option Asking) → query_at w q ≡ o → AnswersAt o w q cost x → IsSafeWorld x.0
    by_query None at h = absurd h
    by_query (Some a) at (answer, right, is) =
        let room = priced_room w no_cost cost free in
        subst (λ (y : Next). IsSafeWorld y.0) (sym is)
        (record {
          safe = query_set w.setup (past_of w) w.servers w.controllers w.queries q None s.safe tt;
          few = few_after w (closed w q cost) cost (subst (HasRoom w) room.0 room.1) (closed_few w q a cost s.few (query_there w q a at) room.0) s.few;
        })
