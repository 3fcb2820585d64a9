-- What the events of servers need, and find in a safe world.
use Rattle.std.proofs.Common.{◌≡◌, ◌<◌, ◌^◌, ℕ, Bool, true, length, slice_get, Option, Some, None, Ok, refl, subst}
use Rattle.std.proofs.lemmas.Bool.{ltb-true}
use Rattle.rt_base.specs.declared.numbers.Instance.{Instance}
use Rattle.rt_base.specs.declared.numbers.Partition.{Partition}
use Rattle.rt_base.specs.declared.numbers.Sequence.{Sequence}
use Rattle.rt_events.specs.declared.refusal.Refusal.TheVariants.{NoSuchNode, NodeDown, NothingToDo}
use Rattle.rt_consumer.specs.declared.consumer.Consumer.{Consumer}
use Rattle.rt_consumer.specs.Requests.{size_in}
use Rattle.rt_server.proofs.LastingNeeds.{history_needed, messages_needed, numbers_needed, start_needed}
use Rattle.rt_server.proofs.LastingTold.{download_finds}
use Rattle.rt_server.specs.Logs.{HasMessages}
use Rattle.rt_server.specs.Past.{HasHistory, StartsWithItsNode}
use Rattle.rt_server.specs.Table.{entry_of, replica_of, wants_at as entry_wants}
use Rattle.rt_server.specs.Transition.{transit_due as server_moves}
use Rattle.rt_store.specs.Memory.{means}
use Rattle.rt_state.proofs.Bounds.{few_sent}
use Rattle.rt_state.proofs.Dues.{Spends, passes_there, priced_spends, replica_due_is, server_there}
use Rattle.rt_state.proofs.Possible.{only_passed, then_passed}
use Rattle.rt_state.specs.Finding.{find_server, has_server, is_server_up, passes, replica_at}
use Rattle.rt_state.specs.IsSafe.{IsServerAt, past_of}
use Rattle.rt_state.specs.IsSafeWorld.{IsSafeWorld}
use Rattle.rt_state.specs.Replicas.{build_due, builds_now, consume_due, force_due, forces_now, replica_due, stop_due, stops_now, takes_now}
use Rattle.rt_state.specs.Requests.{asks_due, extend_due, extends_now, report_by, report_due}
use Rattle.rt_state.specs.Room.{no_cost, only_if, priced, upload_cost}
use Rattle.rt_state.specs.Servers.{FindsItsFile, download_due, moves_at, moves_in, see_due, transit_due, wants_at, wants_in}
use Rattle.rt_state.specs.declared.cost.Cost.{Cost}
use Rattle.rt_nodes.specs.declared.server_node.ServerNode.{ServerNode}
use Rattle.rt_state.specs.declared.state.State.{State}

server_at : (w : State) (i : Instance) (n : ServerNode) → IsSafeWorld w → slice_get w.servers i.0 ≡ Some n → IsServerAt w.setup (past_of w) i.0 n
server_at w i n s found = s.safe.servers i.0 n found

-- numbers don't run out
few_made : (w : State) (i : Instance) (n : ServerNode) → IsSafeWorld w → slice_get w.servers i.0 ≡ Some n → n.server.numbers.made < 2 ^ 63
few_made w i n s found =
    numbers_needed w.setup (past_of w) n.server (server_at w i n s found).over (few_sent w s)

-- ---- replicas

replica_needs : (w : State) (i : Instance) (p : Partition) (q : Sequence) (test : Consumer → Bool) (cost : Cost) → replica_due w i p q test ≡ Ok cost
    → (i.0 < length w.servers) × Spends w cost
    × ((n : ServerNode) → slice_get w.servers i.0 ≡ Some n → passes test (replica_of n.server.table p q) ≡ true)
replica_needs w i p q test cost h =
    let due = replica_due_is w i p q test cost h in
    (due.there.server, priced_spends w no_cost cost due.priced, λ n found. passes_there w i p q test n due.passes found)

pub consume_needs : (w : State) (i : Instance) (p : Partition) (q : Sequence) (max : ℕ) (cost : Cost) → IsSafeWorld w → consume_due w i p q max ≡ Ok cost
    → (i.0 < length w.servers) × Spends w cost
    × ((n : ServerNode) → slice_get w.servers i.0 ≡ Some n
    → HasMessages w.log n.server.table p q × (passes (takes_now max) (replica_of n.server.table p q) ≡ true))
consume_needs w i p q max cost s h =
    let due = replica_needs w i p q (takes_now max) cost h in
    (due.0, due.1, λ n found. (messages_needed w.setup (past_of w) n.server s.safe.past (server_at w i n s found).over p q, due.2 n found))

pub force_needs : (w : State) (i : Instance) (p : Partition) (q : Sequence) (cost : Cost) → force_due w i p q ≡ Ok cost
    → (i.0 < length w.servers) × Spends w cost
    × ((n : ServerNode) → slice_get w.servers i.0 ≡ Some n → passes forces_now (replica_of n.server.table p q) ≡ true)
force_needs w i p q cost h = replica_needs w i p q forces_now cost h

pub stop_needs : (w : State) (i : Instance) (p : Partition) (q : Sequence) (cost : Cost) → stop_due w i p q ≡ Ok cost
    → (i.0 < length w.servers) × Spends w cost
    × ((n : ServerNode) → slice_get w.servers i.0 ≡ Some n → passes stops_now (replica_of n.server.table p q) ≡ true)
stop_needs w i p q cost h = replica_needs w i p q stops_now cost h

pub build_needs : (w : State) (i : Instance) (p : Partition) (q : Sequence) (cost : Cost) → build_due w i p q ≡ Ok cost
    → (i.0 < length w.servers) × Spends w cost
    × ((n : ServerNode) → slice_get w.servers i.0 ≡ Some n → passes builds_now (replica_of n.server.table p q) ≡ true)
build_needs w i p q cost h = replica_needs w i p q builds_now cost h

-- ---- requests

reports : (w : State) (o : Option Consumer) (cost : Cost) → report_by w o ≡ Ok cost → (passes asks_due o ≡ true) × Spends w cost
reports w None cost h = absurd (cc)
reports w (Some r) cost h =
    let due = only_passed (asks_due r) NothingToDo (priced w (upload_cost (size_in r.phase))) cost h in
    (due.0, priced_spends w (upload_cost (size_in r.phase)) cost due.1)

pub report_needs : (w : State) (i : Instance) (p : Partition) (q : Sequence) (cost : Cost) → IsSafeWorld w → report_due w i p q ≡ Ok cost
    → (i.0 < length w.servers) × Spends w cost
    × ((n : ServerNode) → slice_get w.servers i.0 ≡ Some n
    → (n.server.numbers.made < 2 ^ 63) × (passes asks_due (replica_of n.server.table p q) ≡ true))
report_needs w i p q cost s h =
    let found = then_passed (find_server w i p) (report_by w (replica_at w i p q)) cost h in
    let due = reports w (replica_at w i p q) cost found.1 in (
      (server_there w i p found.0).server,
      due.1,
      λ n there. (few_made w i n s there, passes_there w i p q asks_due n due.0 there),
    )

pub extend_needs : (w : State) (i : Instance) (p : Partition) (q : Sequence) (cost : Cost) → IsSafeWorld w → extend_due w i p q ≡ Ok cost
    → (i.0 < length w.servers) × Spends w cost
    × ((n : ServerNode) → slice_get w.servers i.0 ≡ Some n
    → (n.server.numbers.made < 2 ^ 63) × (passes extends_now (replica_of n.server.table p q) ≡ true))
extend_needs w i p q cost s h =
    let due = replica_needs w i p q extends_now cost h in
    (due.0, due.1, λ n there. (few_made w i n s there, due.2 n there))

-- ---- servers

pub see_needs : (w : State) (i : Instance) (cost : Cost) → IsSafeWorld w → see_due w i ≡ Ok cost
    → (i.0 < length w.servers) × Spends w cost
    × ((n : ServerNode) → slice_get w.servers i.0 ≡ Some n → HasHistory n.server (means w.store))
see_needs w i cost s h =
    let there = only_passed (has_server w i) NoSuchNode _ cost h in
    let up = only_passed (is_server_up w i) NodeDown _ cost there.1 in (
      ltb-true _ _ there.0,
      priced_spends w no_cost cost up.1,
      λ n found. history_needed w.setup (past_of w) n.server s.safe.past (server_at w i n s found).over (means w.store) refl,
    )

pub transit_needs : (w : State) (i : Instance) (p : Partition) (q : Sequence) (cost : Cost) → IsSafeWorld w → transit_due w i p q ≡ Ok cost
    → (i.0 < length w.servers) × Spends w cost
    × ((n : ServerNode) → slice_get w.servers i.0 ≡ Some n
    → HasHistory n.server (means w.store) × StartsWithItsNode n.server (means w.store) p q × (server_moves n.server.table p q ≡ true))
transit_needs w i p q cost s h =
    let found = then_passed (find_server w i p) (only_if (moves_at w i p q) NothingToDo (priced w no_cost)) cost h in
    let due = only_passed (moves_at w i p q) NothingToDo (priced w no_cost) cost found.1 in (
      (server_there w i p found.0).server,
      priced_spends w no_cost cost due.1,
      λ n there.
          let over = (server_at w i n s there).over in (
            history_needed w.setup (past_of w) n.server s.safe.past over (means w.store) refl,
            start_needed w.setup (past_of w) n.server s.safe.past over (means w.store) p q refl,
            subst (λ o. moves_in o p q ≡ true) there due.0,
          ),
    )

-- no file but the wanted one is found
pub finds_its_file : (w : State) (i : Instance) (p : Partition) (q : Sequence) (n : ServerNode) → IsSafeWorld w → slice_get w.servers i.0 ≡ Some n
    → FindsItsFile w.deep n.server p q
finds_its_file w i p q n s found after t wanted met h =
    download_finds w.setup (past_of w) w.deep after n.server t p q wanted met s.safe.past (server_at w i n s found).over refl h

pub download_needs : (w : State) (i : Instance) (p : Partition) (q : Sequence) (cost : Cost) → IsSafeWorld w → download_due w i p q ≡ Ok cost
    → (i.0 < length w.servers) × Spends w cost
    × ((n : ServerNode) → slice_get w.servers i.0 ≡ Some n
    → (entry_wants (entry_of n.server.table p q) ≡ true) × FindsItsFile w.deep n.server p q)
download_needs w i p q cost s h =
    let found = then_passed (find_server w i p) (only_if (wants_at w i p q) NothingToDo (priced w no_cost)) cost h in
    let due = only_passed (wants_at w i p q) NothingToDo (priced w no_cost) cost found.1 in (
      (server_there w i p found.0).server,
      priced_spends w no_cost cost due.1,
      λ n there. (subst (λ o. wants_in o p q ≡ true) there due.0, finds_its_file w i p q n s there),
    )
