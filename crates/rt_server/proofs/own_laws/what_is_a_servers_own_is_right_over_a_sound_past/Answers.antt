use Rattle.rt_server.proofs.LastingCommits.{commits_sound}
use Rattle.rt_server.proofs.LastingServes.{serves_sound}
use Rattle.rt_server.proofs.OwnPuts.{replica_own}
use Rattle.rt_server.proofs.Trues.{own_held}
use Rattle.rt_server.proofs.own_laws.what_is_a_servers_own_is_right_over_a_sound_past.Goals as goal

pub returns-clause-commits : goal.returns-clause-commits
returns-clause-commits c = commits_sound

pub returns-clause-serves : goal.returns-clause-serves
returns-clause-serves c = λ setup past s piece served sound k order h. serves_sound setup past s sound k piece served order h

pub returns-clause-holds : goal.returns-clause-holds
returns-clause-holds c = λ setup past s p q r sound k found. own_held setup past sound s.numbers.instance s.numbers.incarnation r (replica_own setup past s k p q r found).2
