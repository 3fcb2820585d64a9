use Rattle.std.proofs.Common.{◌∙◌, arith}
use Rattle.rt_ground.specs.Callers.{new_caller}
use Rattle.rt_live_nodes.specs.Founding.{IsCaller}
use Rattle.rt_live_nodes.proofs.Placing.{first_is, made_from, rest_at, same_items}
use Rattle.rt_live_nodes.proofs.founding.found_cluster.Goals as goal

pub seat_all-requires-clause-producer : goal.seat_all-requires-clause-producer
seat_all-requires-clause-producer g c =
    let names = g.J.Naming.names in
    first_is (IsCaller names) 0 _ _ _
    (same_items (IsCaller names) 0 _ _ (c.of-callers.ensures ∙ c.in_ok-ground.ensures.callers)
    (made_from (new_caller names) 0 c.callers_of-count.result))
    c.next_caller-producer.ensures

pub seat_all-requires-clause-callers : goal.seat_all-requires-clause-callers
seat_all-requires-clause-callers g c =
    let names = g.J.Naming.names in
    rest_at (IsCaller names) 0 1 _ _ _ (omega arith)
    (same_items (IsCaller names) 0 _ _ (c.of-callers.ensures ∙ c.in_ok-ground.ensures.callers)
    (made_from (new_caller names) 0 c.callers_of-count.result))
    c.next_caller-producer.ensures
