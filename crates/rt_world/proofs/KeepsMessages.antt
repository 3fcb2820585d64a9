-- A message that is taken keeps a world safe, and what is answered is right.
use Rattle.std.proofs.Common.{◌≡◌, ℕ, ◌+◌, ◌≤◌, List, [], ◌∷◌, Ok, Option, Some, None, refl, sym, ◌∙◌, ap, subst, slice_get, length, arith, length-append}
use Rattle.std.specs.Prelude.{slice_set}
use Rattle.rt_base.specs.declared.numbers.ControllerId.{ControllerId}
use Rattle.rt_controller.specs.Controller.{Controlling}
use Rattle.rt_controller.specs.Right.{HandlesOver, IsHandled}
use Rattle.rt_controller.specs.Lasting.{IsControllerOver}
use Rattle.rt_controller.specs.declared.handled.Handled.{Handled}
use Rattle.rt_controller.specs.declared.handled.Handled.TheVariants as handled
use Rattle.rt_controller.proofs.CallsOver.{handles_over}
use Rattle.rt_deep.specs.Meaning.{Told as ToldDeep}
use Rattle.rt_deep.specs.Memory.{means as deep_means}
use Rattle.rt_events.specs.declared.outcome.Outcome.{Outcome}
use Rattle.rt_lists.specs.Members.{Has}
use Rattle.rt_lists.proofs.Members.{place-Has}
use Rattle.rt_model.specs.declared.reply.Reply.{Reply}
use Rattle.rt_model.specs.declared.request.Request.{Request}
use Rattle.rt_model.specs.declared.sent.Sent.{Sent}
use Rattle.rt_model.specs.declared.sent.Sent.TheVariants as sent
use Rattle.rt_past.specs.Past.{Past, Grows, with_files, with_history, with_reply as past_with_reply}
use Rattle.rt_past.specs.Replies.{IsReply}
use Rattle.rt_past.proofs.Ways.{past_replies}
use Rattle.rt_model.specs.declared.node.Seen.{Seen}
use Rattle.rt_server.specs.Calls.{replied_in}
use Rattle.rt_server.specs.Lasting.{IsEmpty}
use Rattle.rt_server.proofs.LastingCalls.{replies_over}
use Rattle.rt_store.specs.Meaning.{Told}
use Rattle.rt_store.specs.Memory.{means}
use Rattle.rt_state.specs.Applying.{Next}
use Rattle.rt_state.specs.Finding.{request_in, request_at, reply_in, reply_at}
use Rattle.rt_state.specs.IsSafe.{IsControllerAt, IsSafeOver, IsSafe, past_of}
use Rattle.rt_state.specs.IsSafeWorld.{IsFew, IsSafeWorld}
use Rattle.rt_state.specs.Messages.{handed, after_step, DeliversAt, Delivers, node_took, RepliesAt, Replies}
use Rattle.rt_state.specs.Room.{no_cost, priced}
use Rattle.rt_nodes.specs.declared.controller_node.ControllerNode.{ControllerNode}
use Rattle.rt_state.specs.declared.cost.Cost.{Cost}
use Rattle.rt_nodes.specs.declared.server_node.ServerNode.{ServerNode}
use Rattle.rt_state.specs.declared.state.State.{State}
use Rattle.rt_world.proofs.Does.{server_does_keeps}
use Rattle.rt_world.proofs.Owing.{IsServerOf}
use Rattle.rt_state.proofs.Bounds.{few_writes}
use Rattle.rt_world.proofs.JobCounts.{handles_started}
use Rattle.rt_world.proofs.Few.{GrowsFew, few_after, one_started}
use Rattle.rt_state.proofs.Possible.{HasRoom, priced_room}
use Rattle.rt_world.proofs.Sets.{drawn_same, drawn_replied, safe_grows, controller_set}
use Rattle.rt_world.proofs.Topics.{controller_at_grows}

-- ---- what was sent

pub request_sent : (w : State) (m : ℕ) (q : Request) → request_at w m ≡ Some q → Has w.sent (sent.Request q)
request_sent w m q e = by_place (slice_get w.sent m) refl e
  where
    by_place : (o : Option Sent) → slice_get w.sent m ≡ o → request_in o ≡ Some q → Has w.sent (sent.Request q)
    by_place None at f = absurd (cc)
    by_place (Some (sent.Request r)) at f = place-Has w.sent m (sent.Request q) (at ∙ (cc))
    by_place (Some (sent.Reply r)) at f = absurd (cc)

pub reply_sent : (w : State) (m : ℕ) (r : Reply) → reply_at w m ≡ Some r → Has w.sent (sent.Reply r)
reply_sent w m r e = by_place (slice_get w.sent m) refl e
  where
    by_place : (o : Option Sent) → slice_get w.sent m ≡ o → reply_in o ≡ Some r → Has w.sent (sent.Reply r)
    by_place None at f = absurd (cc)
    by_place (Some (sent.Reply q)) at f = place-Has w.sent m (sent.Reply r) (at ∙ (cc))
    by_place (Some (sent.Request q)) at f = absurd (cc)

-- ---- a reply is sent

-- a right reply may be sent
pub reply_grows : (w : State) (a : Past) (cs : List ControllerNode) (r : Reply) → IsSafeOver w.setup a w.servers cs w.queries → IsReply a r
    → IsSafeOver w.setup (past_with_reply a r) w.servers cs w.queries
reply_grows w a cs r s right =
    let g = past_replies w.setup a r right s.past in
    safe_grows w.setup a (past_with_reply a r) w.servers cs w.queries s g.0 g.1 (drawn_replied a r w.servers s.drawn)

-- ---- deliver

-- a controller with what is under way, after a step over what there is now
pub stepped_at : (w : State) (a b : Past) (c : ℕ) (n : ControllerNode) (new : Controlling) → Grows a b → IsControllerAt w.setup a c n → IsControllerOver w.setup b new
    → new.id ≡ n.controller.id → IsControllerAt w.setup b c (record n { controller = new })
stepped_at w a b c n new g k over same =
    let on = controller_at_grows w.setup a b g c n k in
    record { over = over; placed = ap (λ (i : ControllerId). i.0) same ∙ k.placed; partitions = on.partitions; upkeep = on.upkeep }

-- what is handed back goes over what there is now
deliver_safe : (w : State) (c : ControllerId) (n : ControllerNode) (new : Controlling) (store : Told) (deep : ToldDeep) (cost : Cost) (what : Handled) → IsSafe w
    → IsControllerAt w.setup (past_of w) c.0 n → HandlesOver w.setup (past_of w) store deep n.controller new what
    → IsSafe (handed (after_step w c n new store deep) cost what).0
deliver_safe w c n new store deep cost what s at k = by_answer what k.answer
  where
    b : Past
    b = with_files (past_of w) deep.files

    cs : List ControllerNode
    cs = slice_set w.controllers c.0 (record n { controller = new })

    put : IsSafeOver w.setup b w.servers cs w.queries
    put =
        controller_set w.setup b w.servers w.controllers w.queries c.0 (record n { controller = new })
        (safe_grows w.setup (past_of w) b w.servers w.controllers w.queries s k.grows k.right (drawn_same (past_of w) b w.servers refl s.drawn))
        (stepped_at w (past_of w) b c.0 n new k.grows at k.over k.id)

    by_answer : (x : Handled) → IsHandled b x → IsSafe (handed (after_step w c n new store deep) cost x).0
    by_answer (handled.Reply r) right =
        subst (λ h. IsSafeOver w.setup (past_with_reply (with_history b h) r) w.servers cs w.queries) (sym k.written) (reply_grows w b cs r put right)
    by_answer (handled.Job j) right = subst (λ h. IsSafeOver w.setup (with_history b h) w.servers cs w.queries) (sym k.written) put

deliver_few : (w : State) (c : ControllerId) (n : ControllerNode) (new : Controlling) (store : Told) (deep : ToldDeep) (cost : Cost) (what : Handled) → IsFew w
    → store.writes ≡ w.store.writes → no_cost ≡ cost → new.started ≤ w.counts.events + 1 → GrowsFew w (handed (after_step w c n new store deep) cost what).0 cost
deliver_few w c n new store deep cost (handled.Reply r) f written free started =
    record {
      setup = refl;
      events = refl;
      written = omega (arith, ap (λ (h : List Seen). length h) written);
      sent = omega (arith, length-append w.sent (sent.Reply r ∷ []));
      appended = omega arith;
      asked = omega arith;
      started = one_started w c.0 (record n { controller = new }) f started;
      unanswered = omega (arith, f.unanswered, ap (λ (k : Cost). k.queries) free);
      few_unanswered = omega arith;
      uploads = refl;
      stored = omega arith;
      moment = omega arith;
    }
deliver_few w c n new store deep cost (handled.Job j) f written free started =
    record {
      setup = refl;
      events = refl;
      written = omega (arith, ap (λ (h : List Seen). length h) written);
      sent = omega arith;
      appended = omega arith;
      asked = omega arith;
      started = one_started w c.0 (record n { controller = new }) f started;
      unanswered = omega (arith, f.unanswered, ap (λ (k : Cost). k.queries) free);
      few_unanswered = omega arith;
      uploads = refl;
      stored = omega arith;
      moment = omega arith;
    }

pub deliver_keeps : (w : State) (m : ℕ) (c : ControllerId) (cost : Cost) (x : Next) → IsSafeWorld w → priced w no_cost ≡ Ok cost → Delivers w m c cost x → IsSafeWorld x.0
deliver_keeps w m c cost x s free h = by_found (request_at w m) refl (slice_get w.controllers c.0) refl h
  where
    by_found : (o : Option Request) → request_at w m ≡ o → (n : Option ControllerNode) → slice_get w.controllers c.0 ≡ n → DeliversAt o n w c cost x → IsSafeWorld x.0
    by_found None at n there h = absurd h
    by_found (Some q) at None there h = absurd h
    by_found (Some q) at (Some n) there (new, what, store, deep, handles, is) =
        let a = past_of w in
        let room = priced_room w no_cost cost free in
        let node = s.safe.controllers c.0 n there in
        let k = handles_over w.setup a w.store store w.deep deep n.controller new q w.moment what s.safe.setup s.safe.past (few_writes w s) refl refl
        (request_sent w m q at) node.over handles in
        subst (λ (y : Next). IsSafeWorld y.0) (sym is)
        (record {
          safe = deliver_safe w c n new store deep cost what s.safe node k;
          few = few_after w (handed (after_step w c n new store deep) cost what).0 cost (subst (HasRoom w) room.0 room.1) (deliver_few w c n new store deep cost what s.few k.written room.0
              (omega (arith, handles_started (means w.store) (means store) (deep_means w.deep) (deep_means deep) n.controller q w.moment new what handles, s.few.started c.0 n there)))
              s.few;
        })

-- ---- a reply is taken

node_took_keeps : (w : State) (r : Reply) (n : ServerNode) → IsSafe w → Has w.sent (sent.Reply r) → IsServerOf w (past_of w) r.number.instance.0 n
    → IsServerOf w (past_of w) r.number.instance.0 (node_took n r).1
node_took_keeps w r n s has k =
    let answer = replied_in n.server.table r in
    let new = (node_took n r).1.server in
    record {
      at =
          record {
            over = replies_over w.setup (past_of w) s.past n.server k.at.over new (refl, refl) r answer.0 has refl;
            placed = k.at.placed;
            down = λ e. still_empty (k.at.down e);
          };
      drawn = k.drawn;
    }
  where
    still_empty : IsEmpty n.server → IsEmpty (node_took n r).1.server
    still_empty e = ap (λ t. (replied_in t r).1) e

pub reply_keeps : (w : State) (m : ℕ) (cost : Cost) (x : Next) → IsSafeWorld w → priced w no_cost ≡ Ok cost → Replies w m cost x → IsSafeWorld x.0
reply_keeps w m cost x s room h = by_found (reply_at w m) refl h
  where
    by_found : (o : Option Reply) → reply_at w m ≡ o → RepliesAt o w cost x → IsSafeWorld x.0
    by_found None at h = absurd h
    by_found (Some r) at h =
        server_does_keeps w r.number.instance (λ old new outcome. (outcome, new) ≡ node_took old r) cost x s room
        (λ old new o e k step.
        subst (IsServerOf w (past_of w) r.number.instance.0) (sym (ap (λ (y : Outcome × ServerNode). y.1) step))
        (node_took_keeps w r old s.safe (reply_sent w m r at) k))
        h
