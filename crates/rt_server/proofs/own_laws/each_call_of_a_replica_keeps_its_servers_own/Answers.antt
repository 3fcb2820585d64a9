use Rattle.rt_server.proofs.OwnCalls.{forces_kept, replies_kept, seals_kept, stops_kept, takes_own}
use Rattle.rt_server.proofs.own_laws.each_call_of_a_replica_keeps_its_servers_own.Goals as goal

pub returns-clause-takes : goal.returns-clause-takes
returns-clause-takes c = λ setup view before after old new p q max now result shown k h only. takes_own setup view old new p q only k before after max now result shown h

pub returns-clause-forces : goal.returns-clause-forces
returns-clause-forces c = λ setup view old new p q result k h only. forces_kept setup view old new p q only k result h

pub returns-clause-stops : goal.returns-clause-stops
returns-clause-stops c = λ setup view old new p q result k h only. stops_kept setup view old new p q only k result h

pub returns-clause-seals : goal.returns-clause-seals
returns-clause-seals c = λ setup view old new p q result k h only. seals_kept setup view old new p q only k result h

pub returns-clause-replies : goal.returns-clause-replies
returns-clause-replies c = λ setup view old new reply result k taken h only. replies_kept setup view old new reply result only k taken h
