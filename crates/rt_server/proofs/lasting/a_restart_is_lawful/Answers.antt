use Rattle.rt_server.proofs.LastingNeeds.{bump_grows, restarts_drawn}
use Rattle.rt_server.proofs.lasting.a_restart_is_lawful.Goals as goal

pub returns-clause-past : goal.returns-clause-past
returns-clause-past c = bump_grows

pub returns-clause-drawn : goal.returns-clause-drawn
returns-clause-drawn c = λ setup past before after old new ms result k shown drawn h. restarts_drawn setup past before after old new ms k shown drawn result h
