use Rattle.std.proofs.Common.{◌≡◌, ◌∙◌, ap, arith, sym, ℕ, ◌+◌, [], length}
use Rattle.atomic_table.specs.Seated.{TableId}
use Rattle.rt_front.specs.Histories.{history}
use Rattle.rt_live_names.specs.Fronts.{server_caller}
use Rattle.rt_model.specs.declared.setup.Setup.{Setup}
use Rattle.rt_live_nodes.specs.Founding.{IsAsked, IsCaller, IsServerPlace}
use Rattle.rt_live_nodes.proofs.Placing.{at_number, feeds_more, first_is, no_feeds, pushed_length, rest_at}
use Rattle.rt_live_nodes.proofs.Placing.{same_items}
use Rattle.rt_live_nodes.proofs.seating.seat_servers.Goals as goal

pub loop-number-init : goal.loop-number-init
loop-number-init g c =
    let n = g.K.Cluster.names in
    record {
      callers = c.requires.callers;
      links = same_items (IsServerPlace n) 0 c.args.links.items _ c.of-links.ensures c.requires.links;
      asked = same_items (IsAsked n) 0 c.args.asked.items _ c.of-asked.ensures c.requires.asked;
      feeds = no_feeds n _ c.requires.feeds;
      fed = ap length c.requires.feeds;
    }

pub seat_server-requires-clause-caller : goal.seat_server-requires-clause-caller
seat_server-requires-clause-caller g c =
    let at = c.loop-number in
    first_is (IsCaller g.J.Naming.names) (server_caller at.number) at.callers _ _ at.invariant.callers
    c.next_caller-caller.ensures

pub seat_server-requires-clause-node : goal.seat_server-requires-clause-node
seat_server-requires-clause-node g c =
    let at = c.loop-number in
    first_is (IsServerPlace g.K.Cluster.names) at.number at.links _ _ at.invariant.links c.next_links-node.ensures

pub seat_server-requires-clause-pieces : goal.seat_server-requires-clause-pieces
seat_server-requires-clause-pieces g c =
    let n = g.K.Cluster.names in
    let at = c.loop-number in
    let named : IsAsked n at.number c.next_blank-blank.result =
    first_is (IsAsked n) at.number at.asked _ _ at.invariant.asked c.next_blank-blank.ensures in
    c.in_ok-pieces.ensures.keeper ∙ ap (λ (name : TableId). history name [] 1) named

pub loop-number-preserved : goal.loop-number-preserved
loop-number-preserved g c =
    let n = g.K.Cluster.names in
    let at = c.loop-number in
    let named : IsAsked n at.number c.next_blank-blank.result =
    first_is (IsAsked n) at.number at.asked _ _ at.invariant.asked c.next_blank-blank.ensures in
    record {
      callers = rest_at (IsCaller g.J.Naming.names) (server_caller at.number) _ at.callers _ _ (omega arith)
          at.invariant.callers c.next_caller-caller.ensures;
      links = rest_at (IsServerPlace n) at.number _ at.links _ _ (omega arith) at.invariant.links
          c.next_links-node.ensures;
      asked = rest_at (IsAsked n) at.number _ at.asked _ _ (omega arith) at.invariant.asked
          c.next_blank-blank.ensures;
      feeds = feeds_more n at.feeds.items _ at.number c.in_ok-pieces.feed at.invariant.feeds at.invariant.fed
          (ap (λ k. k.chronicle) c.in_ok-pieces.ensures.front ∙ named) c.in_ok-push.ensures.items;
      fed = pushed_length at.feeds.items _ _ at.number c.in_ok-push.ensures.items at.invariant.fed;
    }

pub returns-clause-callers : goal.returns-clause-callers
returns-clause-callers g c =
    let at = c.loop-number in
    let all : at.number ≡ c.args.setup.now.servers =
    omega (arith, c.loop-number-test.false, at.auto.number-end) in
    at_number (IsCaller g.J.Naming.names) (server_caller at.number) _ at.callers
    (ap (λ (k : ℕ). 1 + k + 0) (sym (all ∙ ap (λ (s : Setup). s.servers) c.requires.cluster.same)) ∙ omega arith)
    at.invariant.callers
