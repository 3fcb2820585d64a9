-- Who is there where an event is found to be possible, and that its cost can be counted.
use Rattle.std.proofs.Common.{◌≡◌, ◌+◌, ◌<◌, ◌^◌, ◌&&◌, Bool, true, false, length, slice_get, Some, Ok, refl, subst, arith}
use Rattle.std.proofs.lemmas.Bool.{ltb-true}
use Rattle.rt_base.specs.declared.numbers.ControllerId.{ControllerId}
use Rattle.rt_base.specs.declared.numbers.Instance.{Instance}
use Rattle.rt_base.specs.declared.numbers.Partition.{Partition}
use Rattle.rt_base.specs.declared.numbers.Sequence.{Sequence}
use Rattle.rt_events.specs.declared.refusal.Refusal.TheVariants.{NoSuchNode, NodeDown, NothingToDo}
use Rattle.rt_consumer.specs.declared.consumer.Consumer.{Consumer}
use Rattle.rt_server.specs.Table.{replica_of}
use Rattle.rt_state.specs.Finding.{find_controller, find_server, has_controller, has_partition, has_server, is_controller_up, is_server_up, passes, replica_at, replica_in}
use Rattle.rt_state.specs.Replicas.{replica_due}
use Rattle.rt_state.specs.Room.{no_cost, only_if, priced}
use Rattle.rt_state.specs.Tests.{Tests, met}
use Rattle.rt_state.specs.declared.cost.Cost.{Cost}
use Rattle.rt_nodes.specs.declared.server_node.ServerNode.{ServerNode}
use Rattle.rt_state.specs.declared.state.State.{State}
use Rattle.rt_state.proofs.Possible.{HasRoom, met_price, only_passed, priced_room, then_passed}

pub both : (a b : Bool) → (a && b) ≡ true → (a ≡ true) × (b ≡ true)
both true b h = (refl, h)
both false b h = absurd (cc)

-- ---- who is there

-- a server and a partition that are there, the server being up
pub record IsThere (w : State) (i : Instance) (p : Partition) : Type 0 where
  pub server : i.0 < length w.servers
  pub partition : p.0 < w.setup.partitions
  pub up : is_server_up w i ≡ true

pub server_there : (w : State) (i : Instance) (p : Partition) → find_server w i p ≡ Ok tt → IsThere w i p
server_there w i p h =
    let a = only_passed (has_server w i && has_partition w p) NoSuchNode _ tt h in
    let has = both (has_server w i) (has_partition w p) a.0 in
    let b = only_passed (is_server_up w i) NodeDown _ tt a.1 in
    record { server = ltb-true _ _ has.0; partition = ltb-true _ _ has.1; up = b.0 }

pub record IsControllerThere (w : State) (c : ControllerId) : Type 0 where
  pub controller : c.0 < length w.controllers
  pub up : is_controller_up w c ≡ true

pub controller_there : (w : State) (c : ControllerId) → find_controller w c ≡ Ok tt → IsControllerThere w c
controller_there w c h =
    let a = only_passed (has_controller w c) NoSuchNode _ tt h in
    let b = only_passed (is_controller_up w c) NodeDown _ tt a.1 in
    record { controller = ltb-true _ _ a.0; up = b.0 }

-- ---- room

-- counting the cost fits
abbrev pub Spends : State → Cost → Type 0
Spends w cost =
    (w.counts.events + 1 < 2 ^ 64) × (w.counts.uploads + cost.uploads < 2 ^ 64) × (w.counts.unanswered + cost.queries < 2 ^ 64)
    × (w.counts.stored + cost.stored < 2 ^ 64)

pub room_spends : (w : State) (cost : Cost) → HasRoom w cost → Spends w cost
room_spends w cost r = (omega (arith, r.events), omega (arith, r.sent), omega (arith, r.queries), omega (arith, r.stored))

pub priced_spends : (w : State) (c cost : Cost) → priced w c ≡ Ok cost → Spends w cost
priced_spends w c cost h = let room = priced_room w c cost h in subst (Spends w) room.0 (room_spends w c room.1)

-- behind tests too
pub met_spends : (w : State) (t : Tests) (c cost : Cost) → met t (priced w c) ≡ Ok cost → Spends w cost
met_spends w t c cost h = priced_spends w c cost (met_price t (priced w c) (Ok cost) tt h)

-- ---- a replica's call

-- the replica of the segment, at a server that is up, passes a test
pub record IsReplicaDue (w : State) (i : Instance) (p : Partition) (q : Sequence) (test : Consumer → Bool) (cost : Cost) : Type 0 where
  pub there : IsThere w i p
  pub passes : passes test (replica_at w i p q) ≡ true
  pub priced : priced w no_cost ≡ Ok cost

pub replica_due_is : (w : State) (i : Instance) (p : Partition) (q : Sequence) (test : Consumer → Bool) (cost : Cost)
    → replica_due w i p q test ≡ Ok cost → IsReplicaDue w i p q test cost
replica_due_is w i p q test cost h =
    let a = then_passed (find_server w i p) (only_if (passes test (replica_at w i p q)) NothingToDo (priced w no_cost)) cost h in
    let b = only_passed (passes test (replica_at w i p q)) NothingToDo (priced w no_cost) cost a.1 in
    record { there = server_there w i p a.0; passes = b.0; priced = b.1 }

-- it is the replica of the server that stands there
pub passes_there : (w : State) (i : Instance) (p : Partition) (q : Sequence) (test : Consumer → Bool) (n : ServerNode)
    → passes test (replica_at w i p q) ≡ true → slice_get w.servers i.0 ≡ Some n → passes test (replica_of n.server.table p q) ≡ true
passes_there w i p q test n due found = subst (λ o. passes test (replica_in o p q) ≡ true) found due
