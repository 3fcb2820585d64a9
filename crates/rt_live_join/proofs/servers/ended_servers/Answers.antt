use Rattle.std.proofs.Common.{◌≡◌, ◌∙◌, arith, ap, length, refl, rules, subst}
use Rattle.std.proofs.lemmas.List.{length_push}
use Rattle.rt_live_join.specs.Left.{IsServerLeft}
use Rattle.rt_live_join.specs.Parted.{links_of_server, server_had, server_left}
use Rattle.rt_live_join.proofs.Parting.{left_more, none_left}
use Rattle.rt_live_join.proofs.servers.ended_servers.Goals as goal

pub loop-seat-init : goal.loop-seat-init
loop-seat-init g c =
    let none = c.in_ok-parts.ensures {u = tt} in
    let given = c.into_iter-seat-iterator.ensures.into_iter_gives in
    record {
      left = search rules;
      count = omega (arith, ap length none.links, ap length given.0);
      each = none_left (IsServerLeft g.K.Cluster.names g.J.Naming.starting) server_had c.in_ok-parts.parts none;
    }

pub loop-seat-preserved : goal.loop-seat-preserved
loop-seat-preserved g c =
    let at = c.loop-seat in
    let steps = c.in-Some.ensures.steps.0 in
    let is = IsServerLeft g.K.Cluster.names g.J.Naming.starting in
    let server = c.ended_server-server.result in
    let adds = c.in_ok-add_server.ensures {u = tt} in
    let place : c.len-in-loop-seat.result ≡ length at.parts.links.items =
    omega (arith, c.len-in-loop-seat.ensures, at.parts.links.ok.0) in
    record {
      left = omega (arith, at.invariant.left, c.in-Some.ensures.steps.1, ap length steps);
      count = omega (
        arith,
        at.invariant.count,
        ap length steps,
        ap length adds.links ∙ length_push at.parts.links.items (links_of_server server),
      );
      each =
          left_more is server_had at.parts c.add_server.new.parts server.caller (links_of_server server) server.pieces
          (server_left server) at.invariant.each adds
          (subst (λ m. is m (server_left server)) place c.ended_server-server.ensures)
          (record { fronts = refl; inbox = refl; posts = refl; own = refl });
    }
