-- A server that is up stays so through its own events.
use Rattle.std.proofs.Common.{◌≡◌, ℕ, true, Option, Some, None, Ok, refl, sym, ◌∙◌, ap, length, slice_get, slice_set}
use Rattle.std.proofs.lemmas.Bool.{lt-ltb, true≢false}
use Rattle.std.proofs.lemmas.Option.{slice_get_within}
use Rattle.rt_base.specs.declared.numbers.ControllerId.{ControllerId}
use Rattle.rt_base.specs.declared.numbers.Instance.{Instance}
use Rattle.rt_events.specs.declared.event.Event.TheVariants as event
use Rattle.rt_events.specs.declared.outcome.Outcome.{Outcome}
use Rattle.rt_macros.specs.Settling.{SegmentAt}
use Rattle.rt_nodes.specs.declared.controller_node.ControllerNode.{ControllerNode}
use Rattle.rt_nodes.specs.declared.server_node.ServerNode.{ServerNode}
use Rattle.rt_safety.proofs.JobsOn.{own_slot}
use Rattle.rt_state.specs.Finding.{has_controller, has_server, is_controller_up, is_server_up, is_up, is_up_controller}
use Rattle.rt_state.specs.Nodes.{ServerCallsAt, ServerDoesAt, ServerFetchesAt, ServerGetsAt}
use Rattle.rt_state.specs.Replicas.{NodeBuilds, NodeConsumes}
use Rattle.rt_state.specs.Servers.{NodeLoads, NodeMoves, NodeSees}
use Rattle.rt_state.specs.declared.state.State.{State}
use Rattle.rt_world.specs.Step.{Steps}

-- ---- one that is up is there

pub server_is : (w : State) (i : Instance) → is_server_up w i ≡ true → has_server w i ≡ true
server_is w i up = by_slot (slice_get w.servers i.0) refl up
  where
    by_slot : (o : Option ServerNode) → slice_get w.servers i.0 ≡ o → is_up o ≡ true → has_server w i ≡ true
    by_slot None at e = absurd (true≢false (sym e))
    by_slot (Some n) at e = lt-ltb i.0 (length w.servers) (slice_get_within w.servers i.0 n at)

pub controller_is : (w : State) (c : ControllerId) → is_controller_up w c ≡ true → has_controller w c ≡ true
controller_is w c up = by_slot (slice_get w.controllers c.0) refl up
  where
    by_slot : (o : Option ControllerNode) → slice_get w.controllers c.0 ≡ o → is_up_controller o ≡ true → has_controller w c ≡ true
    by_slot None at e = absurd (true≢false (sym e))
    by_slot (Some n) at e = lt-ltb c.0 (length w.controllers) (slice_get_within w.controllers c.0 n at)

-- ---- a server in its place

slot_up : (w v : State) (i : Instance) (old new : ServerNode) → slice_get w.servers i.0 ≡ Some old → v.servers ≡ slice_set w.servers i.0 new → new.up ≡ old.up
    → is_server_up w i ≡ true → is_server_up v i ≡ true
slot_up w v i old new at same stays up =
    ap (λ ns. is_up (slice_get ns i.0)) same ∙ ap is_up (own_slot w.servers i.0 old new at) ∙ stays ∙ ap is_up (sym at) ∙ up

-- ---- its events

pub see_up : (w v : State) (i : Instance) (o : Outcome) → Steps w (event.See i) v (Ok o) → is_server_up w i ≡ true → is_server_up v i ≡ true
see_up w v i o (cost, due, h) = by_node (slice_get w.servers i.0) refl h
  where
    by_node : (n : Option ServerNode) → slice_get w.servers i.0 ≡ n → ServerCallsAt n w i NodeSees cost (v, o) → is_server_up w i ≡ true → is_server_up v i ≡ true
    by_node None at h = absurd h
    by_node (Some old) at (new, store, does, is) = slot_up w v i old new at (ap (λ (x : State). x.servers) is) does.3

pub transit_up : (w v : State) (i : Instance) (s : SegmentAt) (o : Outcome) → Steps w (event.Transit i s.0 s.1) v (Ok o) → is_server_up w i ≡ true
    → is_server_up v i ≡ true
transit_up w v i s o (cost, due, h) = by_node (slice_get w.servers i.0) refl h
  where
    by_node : (n : Option ServerNode) → slice_get w.servers i.0 ≡ n → ServerCallsAt n w i (NodeMoves s.0 s.1 w.moment) cost (v, o) → is_server_up w i ≡ true
        → is_server_up v i ≡ true
    by_node None at h = absurd h
    by_node (Some old) at (new, store, does, is) = slot_up w v i old new at (ap (λ (x : State). x.servers) is) does.3

pub download_up : (w v : State) (i : Instance) (s : SegmentAt) (o : Outcome) → Steps w (event.Download i s.0 s.1) v (Ok o) → is_server_up w i ≡ true
    → is_server_up v i ≡ true
download_up w v i s o (cost, due, h) = by_node (slice_get w.servers i.0) refl h
  where
    by_node : (n : Option ServerNode) → slice_get w.servers i.0 ≡ n → ServerGetsAt n w i (NodeLoads s.0 s.1) cost (v, o) → is_server_up w i ≡ true → is_server_up v i ≡ true
    by_node None at h = absurd h
    by_node (Some old) at (new, deep, does, is) = slot_up w v i old new at (ap (λ (x : State). x.servers) is) does.4

pub consume_up : (w v : State) (i : Instance) (s : SegmentAt) (max : ℕ) (o : Outcome) → Steps w (event.Consume i s.0 s.1 max) v (Ok o) → is_server_up w i ≡ true
    → is_server_up v i ≡ true
consume_up w v i s max o (cost, due, h) = by_node (slice_get w.servers i.0) refl h
  where
    by_node : (n : Option ServerNode) → slice_get w.servers i.0 ≡ n → ServerFetchesAt n w i (NodeConsumes s.0 s.1 max w.moment) cost (v, o) → is_server_up w i ≡ true
        → is_server_up v i ≡ true
    by_node None at h = absurd h
    by_node (Some old) at (new, log, does, is) = slot_up w v i old new at (ap (λ (x : State). x.servers) is) does.2

pub build_up : (w v : State) (i : Instance) (s : SegmentAt) (o : Outcome) → Steps w (event.Build i s.0 s.1) v (Ok o) → is_server_up w i ≡ true
    → is_server_up v i ≡ true
build_up w v i s o (cost, due, h) = by_node (slice_get w.servers i.0) refl h
  where
    by_node : (n : Option ServerNode) → slice_get w.servers i.0 ≡ n → ServerDoesAt n w i (NodeBuilds s.0 s.1) cost (v, o) → is_server_up w i ≡ true → is_server_up v i ≡ true
    by_node None at h = absurd h
    by_node (Some old) at (new, does, is) = slot_up w v i old new at (ap (λ (x : State). x.servers) is) does.2
