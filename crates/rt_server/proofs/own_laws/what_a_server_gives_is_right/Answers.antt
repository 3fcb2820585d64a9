use Rattle.rt_server.proofs.Giving.{given_is_right, gives_right}
use Rattle.rt_server.proofs.OwnGrows.{given_grows}
use Rattle.rt_server.proofs.own_laws.what_a_server_gives_is_right.Goals as goal

pub returns-clause-gives : goal.returns-clause-gives
returns-clause-gives c = gives_right

pub returns-clause-grows : goal.returns-clause-grows
returns-clause-grows c = λ setup a b query piece served g k. given_grows setup a b g query piece served k

pub returns-clause-sound : goal.returns-clause-sound
returns-clause-sound c = given_is_right
