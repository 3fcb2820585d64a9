-- What the step of a server keeps that looks at the stream, at a store or at a file, and a replica's own.
use Rattle.std.proofs.Common.{◌≡◌, ℕ, Bool, true, false, slice_get, Some, Ok, refl, sym, ap, subst, ◌∙◌}
use Rattle.rt_base.specs.declared.numbers.Instance.{Instance}
use Rattle.rt_base.specs.declared.numbers.Partition.{Partition}
use Rattle.rt_base.specs.declared.numbers.Sequence.{Sequence}
use Rattle.rt_deep.specs.Memory.{means as deep_means}
use Rattle.rt_events.specs.declared.refusal.Refusal.TheVariants.{NoSuchNode, NodeDown, NothingToDo}
use Rattle.rt_msgs.specs.Numbered.{Numbered}
use Rattle.rt_past.specs.IsPast.{IsPast}
use Rattle.rt_past.specs.Past.{Past, with_history}
use Rattle.rt_past.specs.Requests.{AreDrawn}
use Rattle.rt_server.specs.Lasting.{IsServerOver}
use Rattle.rt_server.proofs.LastingCalls.{downloads_over, forces_over, seals_over, sees_keep, stops_over, takes_over, transits_keep}
use Rattle.rt_server.proofs.LastingEntries.{Keeps}
use Rattle.rt_store.specs.Meaning.{Told}
use Rattle.rt_store.specs.Memory.{means}
use Rattle.rt_stream.specs.Feed.{log_meaning}
use Rattle.rt_state.specs.Finding.{find_server, has_server, is_server_up, is_up}
use Rattle.rt_state.specs.IsSafe.{past_of}
use Rattle.rt_state.specs.IsSafeWorld.{IsSafeWorld}
use Rattle.rt_state.specs.Replicas.{NodeBuilds, NodeConsumes, NodeForces, NodeStops, build_due, builds_now, consume_due, force_due, forces_now, stop_due, stops_now, takes_now}
use Rattle.rt_state.specs.Room.{no_cost, only_if, priced}
use Rattle.rt_state.specs.Servers.{NodeLoads, NodeMoves, NodeSees, download_due, moves_at, see_due, transit_due, wants_at}
use Rattle.rt_state.specs.declared.cost.Cost.{Cost}
use Rattle.rt_nodes.proofs.Looks.{downloads_looks, sees_looks, takes_looks, transits_looks, unput, unwritten}
use Rattle.rt_nodes.specs.declared.server_node.ServerNode.{ServerNode}
use Rattle.rt_state.specs.declared.state.State.{State}
use Rattle.rt_state.proofs.Dues.{replica_due_is, server_there}
use Rattle.rt_world.proofs.Owing.{IsServerOf, ServerWrites, StepKeeps}
use Rattle.rt_state.proofs.Possible.{only_passed, then_passed}
use Rattle.rt_world.proofs.Stores.{writes_same}
use Rattle.rt_world.proofs.Topics.{server_at_grows}
use Rattle.rt_world.specs.Way as way

-- ---- the server that took the step

pub not_down : (b c : Bool) → c ≡ b → b ≡ true → c ≡ false → ⊥
not_down b c same up down = cc

-- it stands at its place as before, with its own numbers
pub stays_at : (w : State) (a : Past) (i : ℕ) (old new : ServerNode) → IsServerOf w a i old → old.up ≡ true → new.up ≡ old.up
    → new.server.numbers ≡ old.server.numbers → IsServerOver w.setup a new.server → IsServerOf w a i new
stays_at w a i old new k up stays numbers over =
    record {
      at =
          record {
            over = over;
            placed = ap (λ (n : Numbered). n.instance.0) numbers ∙ k.at.placed;
            down = λ e. absurd (not_down old.up new.up stays up e);
          };
      drawn = subst (λ (n : Numbered). AreDrawn a.sent n) (sym numbers) k.drawn;
    }

pub up_there : (w : State) (i : Instance) (n : ServerNode) → is_server_up w i ≡ true → slice_get w.servers i.0 ≡ Some n → n.up ≡ true
up_there w i n up found = subst (λ o. is_up o ≡ true) found up

-- ---- replicas

module _ (w : State) (i : Instance) (p : Partition) (q : Sequence) (cost : Cost) (s : IsSafeWorld w) where
  pub consume_keeps : (max : ℕ) → consume_due w i p q max ≡ Ok cost → StepKeeps w (way.looks i (NodeConsumes p q max w.moment))
  consume_keeps max due =
      let d = replica_due_is w i p q (takes_now max) cost due in
      λ old new log o e k step.
      let same = takes_looks w.log log old.server.table new.server.table p q max w.moment (Ok tt) step.0 in (
        same,
        stays_at w (past_of w) i.0 old new k (up_there w i old d.there.up e) step.2 step.1.1
            (takes_over w.setup (past_of w) s.safe.past old.server k.at.over new.server step.1 p q (Ok tt) (log_meaning w.log) (log_meaning log) max w.moment (sym same) step.0),
      )

  pub force_keeps : force_due w i p q ≡ Ok cost → StepKeeps w (way.alone i (NodeForces p q))
  force_keeps due =
      let d = replica_due_is w i p q forces_now cost due in
      λ old new o e k step.
      stays_at w (past_of w) i.0 old new k (up_there w i old d.there.up e) step.2 step.1.1
      (forces_over w.setup (past_of w) s.safe.past old.server k.at.over new.server step.1 p q (Ok tt) step.0)

  pub stop_keeps : stop_due w i p q ≡ Ok cost → StepKeeps w (way.alone i (NodeStops p q))
  stop_keeps due =
      let d = replica_due_is w i p q stops_now cost due in
      λ old new o e k step.
      stays_at w (past_of w) i.0 old new k (up_there w i old d.there.up e) step.2 step.1.1
      (stops_over w.setup (past_of w) s.safe.past old.server k.at.over new.server step.1 p q (Ok tt) step.0)

  pub build_keeps : build_due w i p q ≡ Ok cost → StepKeeps w (way.alone i (NodeBuilds p q))
  build_keeps due =
      let d = replica_due_is w i p q builds_now cost due in
      λ old new o e k step.
      stays_at w (past_of w) i.0 old new k (up_there w i old d.there.up e) step.2 step.1.1
      (seals_over w.setup (past_of w) s.safe.past old.server k.at.over new.server step.1 p q (Ok tt) step.0)

-- ---- servers

-- what a look at the store leaves
looks_on : (w : State) (i : ℕ) (old new : ServerNode) (store : Told) → IsSafeWorld w → store.writes ≡ w.store.writes → IsServerOf w (past_of w) i old
    → old.up ≡ true → new.up ≡ old.up
    → (IsServerOver w.setup (with_history (past_of w) store.writes) old.server → IsPast w.setup (with_history (past_of w) store.writes)
    → Keeps w.setup (with_history (past_of w) store.writes) old.server new.server)
    → ServerWrites w i new store
looks_on w i old new store s same k up stays keeps =
    let a = past_of w in
    let b = with_history a store.writes in
    let past = writes_same w.setup a store.writes s.safe.past same in
    let at = server_at_grows w.setup a b past.grows i old k.at in
    let kept = keeps at.over past.right in
    record {
      past = past;
      server = stays_at w b i old new (record { at = at; drawn = k.drawn }) up stays kept.1 kept.0;
    }

module _ (w : State) (i : Instance) (cost : Cost) (s : IsSafeWorld w) where
  pub see_keeps : see_due w i ≡ Ok cost → StepKeeps w (way.calls i NodeSees)
  see_keeps due =
      let there = only_passed (has_server w i) NoSuchNode (only_if (is_server_up w i) NodeDown (priced w no_cost)) cost due in
      let up = only_passed (is_server_up w i) NodeDown (priced w no_cost) cost there.1 in
      λ old new store o e k step.
      looks_on w i.0 old new store s (unwritten w.store store (sees_looks w.store store old.server new.server step.0 step.1)) k (up_there w i old up.0 e) step.3
      (λ over right. sees_keep w.setup (with_history (past_of w) store.writes) right old.server over (means w.store) (means store) new.server refl step.0 step.1)

  pub transit_keeps : (p : Partition) (q : Sequence) → transit_due w i p q ≡ Ok cost → StepKeeps w (way.calls i (NodeMoves p q w.moment))
  transit_keeps p q due =
      let there = then_passed (find_server w i p) (only_if (moves_at w i p q) NothingToDo (priced w no_cost)) cost due in
      λ old new store o e k step.
      looks_on w i.0 old new store s (unwritten w.store store (transits_looks w.store store old.server new.server p q w.moment step.0 step.1)) k
      (up_there w i old (server_there w i p there.0).up e) step.3
      (λ over right.
      transits_keep w.setup (with_history (past_of w) store.writes) right old.server over (means w.store) (means store) new.server refl p q w.moment step.0 step.1)

  pub download_keeps : (p : Partition) (q : Sequence) → download_due w i p q ≡ Ok cost → StepKeeps w (way.gets i (NodeLoads p q))
  download_keeps p q due =
      let there = then_passed (find_server w i p) (only_if (wants_at w i p q) NothingToDo (priced w no_cost)) cost due in
      λ old new deep o e k step.
      let same = unput w.deep deep (downloads_looks w.deep deep old.server.setup.schema old.server.table new.server.table p q step.0 step.1) in (
        same,
        stays_at w (past_of w) i.0 old new k (up_there w i old (server_there w i p there.0).up e) step.4 step.2.1
            (downloads_over w.setup (past_of w) s.safe.past old.server k.at.over (deep_means w.deep) (deep_means deep) new.server p q (sym same) step.0 step.1 step.2),
      )
