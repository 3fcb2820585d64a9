use Rattle.std.proofs.Common.{◌≡◌, ◌∙◌, ap, arith, sym, ℕ, ◌+◌}
use Rattle.rt_live_names.specs.Fronts.{controller_caller}
use Rattle.rt_model.specs.declared.setup.Setup.{Setup}
use Rattle.rt_live_nodes.specs.Founding.{IsCaller, IsControllerPlace}
use Rattle.rt_live_nodes.proofs.Placing.{at_number, first_is, rest_at, same_items}
use Rattle.rt_live_nodes.proofs.seating.seat_controllers.Goals as goal

pub loop-number-init : goal.loop-number-init
loop-number-init g c = record {
  callers = c.requires.callers;
  links = same_items (IsControllerPlace g.K.Cluster.names) 0 c.args.links.items _ c.of-links.ensures
      c.requires.links;
}

pub seat_controller-requires-clause-caller : goal.seat_controller-requires-clause-caller
seat_controller-requires-clause-caller g c =
    let at = c.loop-number in
    first_is (IsCaller g.J.Naming.names) (controller_caller g.K.Cluster.names.setup at.number) at.callers _ _
    at.invariant.callers c.next_caller-caller.ensures

pub seat_controller-requires-clause-node : goal.seat_controller-requires-clause-node
seat_controller-requires-clause-node g c =
    let at = c.loop-number in
    first_is (IsControllerPlace g.K.Cluster.names) at.number at.links _ _ at.invariant.links c.next_links-node.ensures

pub loop-number-preserved : goal.loop-number-preserved
loop-number-preserved g c =
    let n = g.K.Cluster.names in
    let at = c.loop-number in
    record {
      callers = rest_at (IsCaller g.J.Naming.names) (controller_caller n.setup at.number) _ at.callers _ _
          (omega arith) at.invariant.callers c.next_caller-caller.ensures;
      links = rest_at (IsControllerPlace n) at.number _ at.links _ _ (omega arith) at.invariant.links
          c.next_links-node.ensures;
    }

pub returns : goal.returns
returns g c =
    let n = g.K.Cluster.names in
    let at = c.loop-number in
    let all : at.number ≡ c.args.setup.now.controllers =
    omega (arith, c.loop-number-test.false, at.auto.number-end) in
    record {
      callers = at_number (IsCaller g.J.Naming.names) (controller_caller n.setup at.number) _ at.callers
          (ap (λ (k : ℕ). 1 + n.setup.servers + k)
          (sym (all ∙ ap (λ (s : Setup). s.controllers) c.requires.cluster.same)))
          at.invariant.callers;
    }
