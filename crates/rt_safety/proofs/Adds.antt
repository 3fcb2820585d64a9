-- What one step of a node adds to a world: all that was there stays, and of replies it sends a possible one at most.
use Rattle.std.proofs.Common.{◌≡◌, ◌⊎◌, inl, inr, List, [], ◌∷◌, ◌++◌, Option, Some, None, refl, sym, subst, slice_get}
use Rattle.rt_base.specs.declared.numbers.ControllerId.{ControllerId}
use Rattle.rt_controller.specs.Right.{IsPossibleStatus}
use Rattle.rt_deep.specs.declared.deep_put.DeepPut.{DeepPut}
use Rattle.rt_events.specs.declared.outcome.Outcome.{Outcome}
use Rattle.rt_lists.specs.Members.{Has, IsFront}
use Rattle.rt_lists.proofs.Members.{front_same, front_push, Has-push_cases}
use Rattle.rt_model.specs.declared.node.Seen.{Seen}
use Rattle.rt_model.specs.declared.reply.Reply.{Reply}
use Rattle.rt_model.specs.declared.request.Request.{Request}
use Rattle.rt_model.specs.declared.sent.Sent.{Sent}
use Rattle.rt_model.specs.declared.sent.Sent.TheVariants as sent
use Rattle.rt_past.specs.Past.{Past, Grows, with_history, with_files, with_log, with_sent}
use Rattle.rt_past.proofs.Growth.{grows_same}
use Rattle.rt_past.proofs.Ways.{no_reply, one_reply}
use Rattle.rt_stream.specs.Log.{Log}
use Rattle.rt_state.specs.Applying.{Next}
use Rattle.rt_safety.specs.GoesOn.{GoesOn}
use Rattle.rt_state.specs.IsSafe.{past_of}
use Rattle.rt_state.specs.Nodes.{with_controller, ControllerDoesAt, ControllerDoes}
use Rattle.rt_state.specs.Room.{counted}
use Rattle.rt_nodes.specs.declared.controller_node.ControllerNode.{ControllerNode}
use Rattle.rt_state.specs.declared.cost.Cost.{Cost}
use Rattle.rt_state.specs.declared.state.State.{State}

-- a world goes on to another one, and each reply that was sent meanwhile has a possible status
pub record Adds (old new : State) : Type 0 where
  pub goes : GoesOn old new
  pub replies : (r : Reply) → Has new.sent (sent.Reply r) → Has old.sent (sent.Reply r) ⊎ IsPossibleStatus r.status

-- ---- what grows

pub grows_history : (a : Past) (h : List Seen) → IsFront a.history h → Grows a (with_history a h)
grows_history a h front = record { log = (grows_same a).log; history = front; files = front_same a.files; sent = front_same a.sent }

pub grows_sent : (a : Past) (m : Sent) → Grows a (with_sent a m)
grows_sent a m = record { log = (grows_same a).log; history = front_same a.history; files = front_same a.files; sent = front_push a.sent m }

pub same_files : (a : Past) (files : List DeepPut) → files ≡ a.files → Grows a (with_files a files)
same_files a files e = subst (λ (fs : List DeepPut). Grows a (with_files a fs)) (sym e) (grows_same a)

pub same_log : (a : Past) (log : Log) → log ≡ a.log → Grows a (with_log a log)
same_log a log e = subst (λ (l : Log). Grows a (with_log a l)) (sym e) (grows_same a)

-- ---- nothing is sent

pub adds_quietly : (old new : State) → new.setup ≡ old.setup → new.sent ≡ old.sent → Grows (past_of old) (past_of new) → Adds old new
adds_quietly old new setup quiet past =
    record {
      goes = record { setup = setup; past = past };
      replies = λ r has. inl (subst (λ (ms : List Sent). Has ms (sent.Reply r)) quiet has);
    }

-- ---- a message is sent

pub adds_request : (old new : State) (q : Request) → new.setup ≡ old.setup → new.sent ≡ old.sent ++ sent.Request q ∷ [] → Grows (past_of old) (past_of new) → Adds old new
adds_request old new q setup more past =
    record {
      goes = record { setup = setup; past = past };
      replies =
          λ r has. inl (no_reply old.sent q r (Has-push_cases old.sent (sent.Request q) (sent.Reply r) (subst (λ (ms : List Sent). Has ms (sent.Reply r)) more has)));
    }

pub adds_reply : (old new : State) (y : Reply) → new.setup ≡ old.setup → new.sent ≡ old.sent ++ sent.Reply y ∷ [] → Grows (past_of old) (past_of new)
    → IsPossibleStatus y.status → Adds old new
adds_reply old new y setup more past possible =
    record {
      goes = record { setup = setup; past = past };
      replies =
          λ r has. by_place r (Has-push_cases old.sent (sent.Reply y) (sent.Reply r) (subst (λ (ms : List Sent). Has ms (sent.Reply r)) more has));
    }
  where
    by_place : (r : Reply) → Has old.sent (sent.Reply r) ⊎ (sent.Reply y ≡ sent.Reply r) → Has old.sent (sent.Reply r) ⊎ IsPossibleStatus r.status
    by_place r (inl has) = inl has
    by_place r (inr same) = inr (subst (λ (z : Reply). IsPossibleStatus z.status) (one_reply y r same) possible)

-- ---- a controller's own step

pub controller_does_adds : (w : State) (c : ControllerId) (does : ControllerNode → ControllerNode) (o : Outcome) (cost : Cost) (x : Next) → ControllerDoes w c does o cost x
    → Adds w x.0
controller_does_adds w c does o cost x h = by_node (slice_get w.controllers c.0) h
  where
    by_node : (n : Option ControllerNode) → ControllerDoesAt n w c does o cost x → Adds w x.0
    by_node None h = absurd h
    by_node (Some n) h =
        subst (λ (y : Next). Adds w y.0) (sym h)
        (adds_quietly w (counted (with_controller w c (does n)) cost) refl refl (grows_same (past_of w)))
