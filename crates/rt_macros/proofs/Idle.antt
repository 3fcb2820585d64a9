-- A replica at rest has nothing to do next; so its turn comes to nothing.
use Rattle.std.proofs.Common.{◌≡◌, ◌&&◌, Bool, true, false, Option, Some, None, Ok, length, slice_get, if◌then◌else◌, refl, ◌∙◌, ap}
use Rattle.std.proofs.lemmas.Bool.{lt-ltb}
use Rattle.std.proofs.lemmas.Option.{slice_get_within}
use Rattle.rt_base.specs.declared.numbers.Instance.{Instance}
use Rattle.rt_base.specs.declared.numbers.Partition.{Partition}
use Rattle.rt_base.specs.declared.numbers.Sequence.{Sequence}
use Rattle.rt_consumer.specs.Consumer.{state_at, state_of}
use Rattle.rt_consumer.specs.Next.{takes_in}
use Rattle.rt_consumer.specs.Requests.{asks_now, builds_in, is_ready}
use Rattle.rt_consumer.specs.declared.consumer.Consumer.{Consumer}
use Rattle.rt_consumer.specs.declared.phase.Phase.{Phase}
use Rattle.rt_consumer.specs.declared.phase.Phase.TheVariants as phase
use Rattle.rt_consumer.specs.declared.stage.Stage.{Stage}
use Rattle.rt_consumer.specs.declared.stage.Stage.TheVariants.{InitialConsuming, CatchingUp, Holding, ConsumingToOnline, Retaining, Building, Starting, Uploading, Ending}
use Rattle.rt_events.specs.declared.refusal.Refusal.TheVariants.{NoSuchNode, NodeDown}
use Rattle.rt_macros.proofs.Next.{IsIdle, found_it, is_next, next_with, turn_passed}
use Rattle.rt_macros.specs.Doing.{stays}
use Rattle.rt_macros.specs.Resting.{rests_at, rests_in, stands_so}
use Rattle.rt_macros.specs.Settling.{ReplicaTurn}
use Rattle.rt_model.specs.declared.replica_state.ReplicaState.{ReplicaState}
use Rattle.rt_model.specs.declared.replica_state.ReplicaState.TheVariants as state
use Rattle.rt_nodes.specs.Reading.{replica_up, stage_of}
use Rattle.rt_nodes.specs.declared.server_node.ServerNode.{ServerNode}
use Rattle.rt_server.specs.Table.{replica_of}
use Rattle.rt_state.specs.Finding.{find_server, has_partition, has_server, is_server_up, is_up, replica_at, replica_in}
use Rattle.rt_state.specs.Room.{only_if}
use Rattle.rt_state.specs.declared.state.State.{State}
use Rattle.rt_world.specs.Reading.{length_of, next_at, next_by, next_found, next_in, stage_at}

-- ---- who stands there

record IsStanding (o : Option ServerNode) (p : Partition) (q : Sequence) (s : ReplicaState) : Type 0 where
  node : ServerNode
  there : o ≡ Some node
  up : is_up o ≡ true
  replica : Consumer
  stands : replica_in o p q ≡ Some replica
  so : state_of replica.phase ≡ s

of_replica : (r : Option Consumer) (s : ReplicaState) → stage_of r ≡ Some s → (c : Consumer) × (r ≡ Some c) × (state_of c.phase ≡ s)
of_replica None s e = absurd (cc)
of_replica (Some c) s e = (c, refl, cc)

of_up : (up : Bool) (r : Option Consumer) (s : ReplicaState) → stage_of (if up then r else None) ≡ Some s → (up ≡ true) × (stage_of r ≡ Some s)
of_up true r s e = (refl, e)
of_up false r s e = absurd (cc)

standing : (o : Option ServerNode) (p : Partition) (q : Sequence) (s : ReplicaState) → stage_of (replica_up o p q) ≡ Some s → IsStanding o p q s
standing None p q s e = absurd (cc)
standing (Some n) p q s e =
    let a = of_up n.up (replica_of n.server.table p q) s e in
    let b = of_replica (replica_of n.server.table p q) s a.1 in
    record { node = n; there = refl; up = a.0; replica = b.0; stands = b.1; so = b.2 }

found_so : (a b c : Bool) → a ≡ true → b ≡ true → c ≡ true → only_if (a && b) NoSuchNode (only_if c NodeDown found_it) ≡ found_it
found_so true true true e f g = refl
found_so true true false e f g = absurd (cc)
found_so true false c e f g = absurd (cc)
found_so false b c e f g = absurd (cc)

-- the replica of a segment, which is at rest, at a server that events find
record IsResting (w : State) (i : Instance) (p : Partition) (q : Sequence) : Type 0 where
  found : find_server w i p ≡ found_it
  replica : Consumer
  stands : replica_at w i p q ≡ Some replica
  rests : rests_in (state_of replica.phase) ≡ true

resting_so : (known : Bool) (o : Option ReplicaState) → stands_so rests_in (if known then o else None) ≡ true
    → (s : ReplicaState) × (known ≡ true) × (o ≡ Some s) × (rests_in s ≡ true)
resting_so true (Some s) h = (s, refl, refl, h)
resting_so true None h = absurd (cc)
resting_so false o h = absurd (cc)

resting_at : (w : State) (i : Instance) (p : Partition) (q : Sequence) → rests_at w i (p, q) ≡ true → IsResting w i p q
resting_at w i p q h =
    let s = resting_so (has_partition w p) (stage_at w i p q) h in
    let a = standing (slice_get w.servers i.0) p q s.0 s.2 in
    let within = lt-ltb i.0 (length w.servers) (slice_get_within w.servers i.0 a.node a.there) in
    record {
      found = found_so (has_server w i) (has_partition w p) (is_server_up w i) within s.1 a.up;
      replica = a.replica;
      stands = a.stands;
      rests = ap rests_in a.so ∙ s.3;
    }

-- ---- what it does

rests_takes_nothing : (s : ReplicaState) → rests_in s ≡ true → takes_in s ≡ false
rests_takes_nothing state.Retained h = refl
rests_takes_nothing state.Committed h = refl
rests_takes_nothing state.InitialConsuming h = absurd (cc)
rests_takes_nothing state.CatchingUp h = absurd (cc)
rests_takes_nothing state.Holding h = absurd (cc)
rests_takes_nothing state.ConsumingToOnline h = absurd (cc)
rests_takes_nothing state.Retaining h = absurd (cc)
rests_takes_nothing state.Committing h = absurd (cc)
rests_takes_nothing state.Discarded h = absurd (cc)

rests_idle_at : (s : Stage) → rests_in (state_at s) ≡ true → ⊥
rests_idle_at InitialConsuming h = cc
rests_idle_at (CatchingUp target reason) h = cc
rests_idle_at (Holding reason) h = cc
rests_idle_at (ConsumingToOnline end done) h = cc
rests_idle_at (Retaining done) h = cc
rests_idle_at (Building reason) h = cc
rests_idle_at (Starting reason built) h = cc
rests_idle_at (Uploading reason built) h = cc
rests_idle_at (Ending reason built path) h = cc

rests_idle : (p : Phase) → rests_in (state_of p) ≡ true → IsIdle p
rests_idle (phase.Unsealed o) h = absurd (rests_idle_at o.stage h)
rests_idle (phase.Retained kept) h = (refl, refl)
rests_idle (phase.Committed kept) h = (refl, refl)
rests_idle (phase.Discarded d) h = absurd (cc)

-- ---- so nothing is next

none_with : (t y b a : Bool) → t ≡ false → b ≡ false → a ≡ false → next_with t y b a ≡ None
none_with t y b a takes builds asks = rw (takes, builds, asks) refl

none_by : (w : State) (p : Partition) (r : Consumer) → rests_in (state_of r.phase) ≡ true → next_by w p (Some r) ≡ None
none_by w p r h =
    let idle = rests_idle r.phase h in
    none_with (takes_in (state_of r.phase)) (is_ready r (length_of w p) w.moment) (builds_in r.phase) (asks_now r.phase)
    (rests_takes_nothing (state_of r.phase) h) idle.0 idle.1

none_next : (w : State) (i : Instance) (p : Partition) (q : Sequence) → rests_at w i (p, q) ≡ true → next_at w i p q ≡ Ok None
none_next w i p q h =
    let a = resting_at w i p q h in
    ap (λ found. next_found found (next_in w i p q)) a.found ∙ ap is_next (ap (next_by w p) a.stands ∙ none_by w p a.replica a.rests)

pub rests_turn : (i : Instance) (p : Partition) (q : Sequence) (busy : Bool) (w : State) (paused : Bool) → rests_at w i (p, q) ≡ true
    → ReplicaTurn paused i (p, q) busy w (stays w) (Ok busy)
rests_turn i p q busy w paused h = turn_passed i p q busy w paused (none_next w i p q h)
