-- A server that sends a request keeps a world safe: the request is right and has a fresh number, which is then drawn.
use Rattle.std.proofs.Common.{◌≡◌, ◌⊎◌, inl, inr, ℕ, zero, suc, true, List, [], ◌∷◌, slice_get, Option, Some, None, Ok, refl, sym, ap, subst, ◌∙◌, arith}
use Rattle.std.specs.Prelude.{slice_set}
use Rattle.std.proofs.lemmas.List.{length-append, length-set}
use Rattle.rt_base.specs.declared.numbers.Instance.{Instance}
use Rattle.rt_base.specs.declared.numbers.Partition.{Partition}
use Rattle.rt_base.specs.declared.numbers.Sequence.{Sequence}
use Rattle.rt_model.specs.declared.request.Request.{Request}
use Rattle.rt_model.specs.declared.request.RequestNumber.{RequestNumber}
use Rattle.rt_model.specs.declared.sent.Sent.TheVariants as sent
use Rattle.rt_past.proofs.Numbers.{drawn_other}
use Rattle.rt_past.specs.Past.{with_request}
use Rattle.rt_server.proofs.LastingTold.{asks_for_right, asks_right}
use Rattle.rt_server.specs.Lasting.{SendsRight}
use Rattle.rt_state.proofs.Bounds.{few_sent}
use Rattle.rt_state.proofs.Dues.{replica_due_is, server_there}
use Rattle.rt_world.proofs.Few.{few_after, none_started}
use Rattle.rt_world.proofs.KeepsServers.{not_down, up_there}
use Rattle.rt_world.proofs.Owing.{StepKeeps}
use Rattle.rt_world.proofs.Places.{at_set}
use Rattle.rt_state.proofs.Possible.{HasRoom, priced_room, then_passed}
use Rattle.rt_world.proofs.Topics.{controllers_grow, queries_grow, servers_grow}
use Rattle.rt_state.specs.Applying.{Next}
use Rattle.rt_state.specs.Finding.{find_server, replica_at}
use Rattle.rt_state.specs.IsSafe.{HasDrawn, IsSafe, IsServerAt, past_of}
use Rattle.rt_state.specs.IsSafeWorld.{IsSafeWorld}
use Rattle.rt_state.specs.Nodes.{with_server}
use Rattle.rt_state.specs.Places.{AreAt}
use Rattle.rt_state.specs.Requests.{AskStep, NodeAsks, NodeAsksFor, SendsAt, SendsRequest, extend_due, extends_now, report_by, report_due, sends}
use Rattle.rt_state.specs.Room.{counted, priced, upload_cost}
use Rattle.rt_state.specs.declared.cost.Cost.{Cost}
use Rattle.rt_nodes.specs.declared.server_node.ServerNode.{ServerNode}
use Rattle.rt_state.specs.declared.state.State.{State}
use Rattle.rt_world.specs.Way as way

-- ---- one item is put, and all others have something else

put_cases : {X : Type 0} (xs : List X) (i j : ℕ) (x y : X) → slice_get (slice_set xs i x) j ≡ Some y
    → ((j ≡ i) × (y ≡ x)) ⊎ ((j ≡ i → ⊥) × (slice_get xs j ≡ Some y))
put_cases [] i j x y e = absurd (cc)
put_cases (z ∷ xs) zero zero x y e = inl (refl, cc)
put_cases (z ∷ xs) zero (suc j) x y e = inr (λ same. omega (arith, same), e)
put_cases (z ∷ xs) (suc i) zero x y e = inr (λ same. omega (arith, same), e)
put_cases (z ∷ xs) (suc i) (suc j) x y e = by_rest (put_cases xs i j x y e)
  where
    by_rest : ((j ≡ i) × (y ≡ x)) ⊎ ((j ≡ i → ⊥) × (slice_get xs j ≡ Some y))
        → ((suc j ≡ suc i) × (y ≡ x)) ⊎ ((suc j ≡ suc i → ⊥) × (slice_get xs j ≡ Some y))
    by_rest (inl same) = inl (ap suc same.0, same.1)
    by_rest (inr other) = inr (λ same. other.0 (omega (arith, same)), other.1)

put_others : {X : Type 0} (P : ℕ → X → Type 0) (xs : List X) (i : ℕ) (x : X) → P i x
    → ((j : ℕ) (y : X) → (j ≡ i → ⊥) → slice_get xs j ≡ Some y → P j y) → AreAt P (slice_set xs i x)
put_others {X} P xs i x p others j y e = by_place (put_cases xs i j x y e)
  where
    by_place : ((j ≡ i) × (y ≡ x)) ⊎ ((j ≡ i → ⊥) × (slice_get xs j ≡ Some y)) → P j y
    by_place (inl same) = subst (λ z. P j z) (sym same.1) (subst (λ k. P k x) (sym same.0) p)
    by_place (inr other) = others j y other.0 other.1

-- ---- the request is sent

module _ (w : State) (i : Instance) (p : Partition) (q : Sequence) (n new : ServerNode) (request : Request) (s : IsSafe w) (found : slice_get w.servers i.0 ≡ Some n)
    (up : n.up ≡ true) (stays : new.up ≡ n.up) (sends_right : SendsRight w.setup (past_of w) n.server new.server p q request) where
  -- the sender stands at its place
  from_here : request.number.instance.0 ≡ i.0
  from_here = ap (λ (m : RequestNumber). m.instance.0) sends_right.asked.number ∙ (s.servers i.0 n found).placed

  others_drawn : (j : ℕ) (m : ServerNode) → (j ≡ i.0 → ⊥) → slice_get w.servers j ≡ Some m → HasDrawn (with_request (past_of w) request) j m
  others_drawn j m other there =
      drawn_other w.sent m.server.numbers request (s.drawn j m there)
      (λ same. other (sym ((s.servers j m there).placed) ∙ ap (λ (x : Instance). x.0) (sym same) ∙ from_here))

  pub asked_safe : (cost : Cost) → IsSafe (counted (sends (with_server w i new) request).0 cost)
  asked_safe cost =
      let a = past_of w in
      let b = with_request a request in
      record {
        setup = s.setup;
        past = sends_right.right;
        all_servers = length-set w.servers i.0 new ∙ s.all_servers;
        servers =
            at_set (IsServerAt w.setup b) w.servers i.0 new
            (record { over = sends_right.asked.server; placed = ap (λ (j : Instance). j.0) sends_right.same ∙ (s.servers i.0 n found).placed; down = λ e. absurd (not_down n.up new.up stays up e) })
            (servers_grow w.setup a b w.servers sends_right.grows s.servers);
        drawn = put_others (HasDrawn b) w.servers i.0 new sends_right.drawn others_drawn;
        all_controllers = s.all_controllers;
        controllers = controllers_grow w.setup a b w.controllers sends_right.grows s.controllers;
        queries = queries_grow w.setup a b w.queries sends_right.grows s.queries;
      }

-- an event that costs an upload at most
sent_keeps : (w : State) (i : Instance) (n : ServerNode) (request : Request) (cost : Cost) (bytes : ℕ) → IsSafeWorld w → priced w (upload_cost bytes) ≡ Ok cost
    → IsSafe (counted (sends (with_server w i n) request).0 cost) → IsSafeWorld (counted (sends (with_server w i n) request).0 cost)
sent_keeps w i n request cost bytes s possible safe =
    let room = priced_room w (upload_cost bytes) cost possible in
    let f = s.few in
    record {
      safe = safe;
      few =
          few_after w (counted (sends (with_server w i n) request).0 cost) cost (subst (HasRoom w) room.0 room.1)
          (record {
            setup = refl;
            events = refl;
            written = omega arith;
            sent = omega (arith, length-append w.sent (sent.Request request ∷ []));
            appended = omega arith;
            asked = omega arith;
            started = none_started w f;
            unanswered = omega (arith, f.unanswered, ap (λ (c : Cost). c.queries) room.0);
            few_unanswered = omega arith;
            uploads = refl;
            stored = omega arith;
            moment = omega arith;
          })
          f;
    }

pub server_sends_keeps : (w : State) (i : Instance) (asks : AskStep) (cost : Cost) (x : Next) (bytes : ℕ) → IsSafeWorld w → priced w (upload_cost bytes) ≡ Ok cost
    → StepKeeps w (way.sends i asks) → SendsRequest w i asks cost x → IsSafeWorld x.0
server_sends_keeps w i asks cost x bytes s possible keeps h = by_node (slice_get w.servers i.0) refl h
  where
    by_node : (n : Option ServerNode) → slice_get w.servers i.0 ≡ n → SendsAt n w i asks cost x → IsSafeWorld x.0
    by_node None found h = absurd h
    by_node (Some old) found (new, request, does, is) =
        let k = keeps old new request found does in
        subst (λ (y : Next). IsSafeWorld y.0) (sym is)
        (sent_keeps w i new request cost bytes s possible (asked_safe w i k.2 k.3 old new request s.safe found k.0 k.1 k.4 cost))

-- ---- report and extend

module _ (w : State) (i : Instance) (p : Partition) (q : Sequence) (cost : Cost) (s : IsSafeWorld w) where
  pub report_keeps : report_due w i p q ≡ Ok cost → StepKeeps w (way.sends i (NodeAsks p q))
  report_keeps due =
      let there = then_passed (find_server w i p) (report_by w (replica_at w i p q)) cost due in
      λ old new request found does. (
        up_there w i old (server_there w i p there.0).up found,
        does.2,
        p,
        q,
        asks_right w.setup (past_of w) old.server new.server p q request s.safe.past (s.safe.servers i.0 old found).over (s.safe.drawn i.0 old found) (few_sent w s) does.1 does.0,
      )

  pub extend_keeps : (millis : ℕ) → extend_due w i p q ≡ Ok cost → StepKeeps w (way.sends i (NodeAsksFor p q millis))
  extend_keeps millis due =
      let d = replica_due_is w i p q extends_now cost due in
      λ old new request found does. (
        up_there w i old d.there.up found,
        does.2,
        p,
        q,
        asks_for_right w.setup (past_of w) old.server new.server p q request s.safe.past (s.safe.servers i.0 old found).over (s.safe.drawn i.0 old found) (few_sent w s) does.1
            millis does.0,
      )
