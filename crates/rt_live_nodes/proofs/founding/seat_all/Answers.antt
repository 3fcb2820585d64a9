use Rattle.std.proofs.Common.{sym, subst}
use Rattle.rt_live_names.specs.Names.{Names}
use Rattle.rt_live_nodes.specs.Founding.{AreFrom, IsAsked, IsControllerPlace, IsServerPlace}
use Rattle.rt_live_nodes.proofs.Placing.{asked_are, controllers_placed, servers_placed}
use Rattle.rt_live_nodes.proofs.founding.seat_all.Goals as goal

pub seat_others-requires-clause-servers : goal.seat_others-requires-clause-servers
seat_others-requires-clause-servers g c =
    let a = c.args in
    subst (λ (n : Names). AreFrom (IsServerPlace n) 0 a.links.servers.items) (sym c.requires.names)
    (servers_placed a.input a.links a.asked.items c.requires.servers.0 c.requires.controllers.0 c.requires.servers.1)

pub seat_others-requires-clause-asked : goal.seat_others-requires-clause-asked
seat_others-requires-clause-asked g c =
    let a = c.args in
    subst (λ (n : Names). AreFrom (IsAsked n) 0 a.asked.items) (sym c.requires.names)
    (asked_are a.input a.links a.asked.items)

pub seat_others-requires-clause-controllers : goal.seat_others-requires-clause-controllers
seat_others-requires-clause-controllers g c =
    let a = c.args in
    subst (λ (n : Names). AreFrom (IsControllerPlace n) 0 a.links.controllers.items) (sym c.requires.names)
    (controllers_placed a.input a.links a.asked.items c.requires.servers.0 c.requires.controllers.0
    c.requires.controllers.1)
