use Rattle.std.proofs.Common.{refl}
use Rattle.rt_live_server.proofs.Gives.{few_pieces, told_it}
use Rattle.rt_live_server.proofs.giver.ServerSeatGiver.give.Goals as goal

pub note-requires-clause-room : goal.note-requires-clause-room
note-requires-clause-room g c = few_pieces c.self.inside.pieces.log c.self.inside.acting.did _ c.self.invariant.gave (c.if-not-has_room.ensures refl)

pub returns-clause-given : goal.returns-clause-given
returns-clause-given g c =
    let given = c.in_ok-given.ensures in
    let noted = c.note.ensures in
    told_it c.note.new.self.log c.args.front.now c.note.new.front _ c.in_ok-given.given c.args.at c.args.asking c.args.piece noted.front noted.given given.1 given.2 given.3
