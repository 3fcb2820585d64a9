use Rattle.rt_server.proofs.SeesLawfully.{sees_keeps, transits_keeps}
use Rattle.rt_server.proofs.own_laws.a_servers_reads_see_lawfully.Goals as goal

pub returns-clause-sees : goal.returns-clause-sees
returns-clause-sees c = sees_keeps

pub returns-clause-transits : goal.returns-clause-transits
returns-clause-transits c = λ s before after old new p q now result h. transits_keeps s before after old new p q now result h
