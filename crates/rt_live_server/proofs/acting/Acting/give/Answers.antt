use Rattle.rt_broker.specs.declared.piece_given.PieceGiven.{PieceGiven}
use Rattle.rt_live_server.proofs.Doing.{gave}
use Rattle.rt_live_server.proofs.Gives.{gives_in}
use Rattle.rt_live_server.proofs.acting.Acting.give.Goals as goal

pub invariant_of-self : goal.invariant_of-self
invariant_of-self g c =
    let is = c.self.invariant in
    let given : PieceGiven = record { query = c.args.at; asking = c.args.asking; piece = c.args.piece; got = c.in_ok-got.got } in
    (is.0, gave _ _ _ is.1 _ given c.args.query.now c.note.ensures c.requires.query c.requires.piece (gives_in _ _ c.args.query.now c.args.piece c.in_ok-got.got c.self.view_is c.in_ok-got.ensures))
