use Rattle.rt_server.proofs.OwnCalls.{crashed_own, restarts_own, sees_own}
use Rattle.rt_server.proofs.OwnDownloads.{downloads_own}
use Rattle.rt_server.proofs.OwnTransits.{transits_own}
use Rattle.rt_server.proofs.own_laws.each_call_of_a_server_keeps_its_own.Goals as goal

pub returns-clause-sees : goal.returns-clause-sees
returns-clause-sees c = sees_own

pub returns-clause-transits : goal.returns-clause-transits
returns-clause-transits c = λ setup view before after old new p q now result shown is within k h. transits_own setup view before after old new p q now result shown is (λ mode target. within) k h

pub returns-clause-downloads : goal.returns-clause-downloads
returns-clause-downloads c = λ setup view before after old new p q result shown k h only. downloads_own setup view before after old new p q shown k result h only

pub returns-clause-crashes : goal.returns-clause-crashes
returns-clause-crashes c = crashed_own

pub returns-clause-restarts : goal.returns-clause-restarts
returns-clause-restarts c = restarts_own
