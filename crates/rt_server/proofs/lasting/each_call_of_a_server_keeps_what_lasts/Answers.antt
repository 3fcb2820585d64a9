use Rattle.std.proofs.Common.{refl}
use Rattle.rt_server.proofs.LastingCalls.{crashed_over, downloads_over, restarts_over, sees_keep, transits_keep}
use Rattle.rt_server.proofs.lasting.each_call_of_a_server_keeps_what_lasts.Goals as goal

pub returns-clause-sees : goal.returns-clause-sees
returns-clause-sees c = λ setup past before after old new result shown right k h. sees_keep setup past right old k before after new shown result h

pub returns-clause-transits : goal.returns-clause-transits
returns-clause-transits c = λ setup past before after old new p q now result shown right k h. transits_keep setup past right old k before after new shown p q now result h

pub returns-clause-downloads : goal.returns-clause-downloads
returns-clause-downloads c = λ setup past before after old new p q result shown right k h only. downloads_over setup past right old k before after new p q shown result h only

pub returns-clause-crashes : goal.returns-clause-crashes
returns-clause-crashes c = λ setup past s right k. (crashed_over setup past right s k, refl)

pub returns-clause-restarts : goal.returns-clause-restarts
returns-clause-restarts c = λ setup past before after old new result shown right empty k h. restarts_over setup past right old k before after new shown result empty h
