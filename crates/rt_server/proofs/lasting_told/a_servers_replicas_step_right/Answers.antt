use Rattle.rt_server.proofs.LastingTold.{forces_right, replies_right, seals_right, stops_right, takes_right}
use Rattle.rt_server.proofs.lasting_told.a_servers_replicas_step_right.Goals as goal

pub returns-clause-takes : goal.returns-clause-takes
returns-clause-takes c = takes_right

pub returns-clause-forces : goal.returns-clause-forces
returns-clause-forces c = λ setup past old new p q result right k only h. forces_right setup past old new right k only p q result h

pub returns-clause-stops : goal.returns-clause-stops
returns-clause-stops c = λ setup past old new p q result right k only h. stops_right setup past old new right k only p q result h

pub returns-clause-seals : goal.returns-clause-seals
returns-clause-seals c = λ setup past old new p q result right k only h. seals_right setup past old new right k only p q result h

pub returns-clause-replies : goal.returns-clause-replies
returns-clause-replies c = λ setup past old new reply result right k only y h. replies_right setup past old new right k only reply result y h
