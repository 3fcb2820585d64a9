use Rattle.rt_server.proofs.LastingCalls.{forces_over, replies_over, seals_over, stops_over, takes_over}
use Rattle.rt_server.proofs.lasting.each_call_of_a_replica_keeps_what_lasts.Goals as goal

pub returns-clause-takes : goal.returns-clause-takes
returns-clause-takes c = λ setup past before after old new p q max now result shown right k h only. takes_over setup past right old k new only p q result before after max now shown h

pub returns-clause-forces : goal.returns-clause-forces
returns-clause-forces c = λ setup past old new p q result right k h only. forces_over setup past right old k new only p q result h

pub returns-clause-stops : goal.returns-clause-stops
returns-clause-stops c = λ setup past old new p q result right k h only. stops_over setup past right old k new only p q result h

pub returns-clause-seals : goal.returns-clause-seals
returns-clause-seals c = λ setup past old new p q result right k h only. seals_over setup past right old k new only p q result h

pub returns-clause-replies : goal.returns-clause-replies
returns-clause-replies c = λ setup past old new reply result right was_sent k h only. replies_over setup past right old k new only reply result was_sent h
