use Rattle.rt_server.proofs.LastingCommits.{commits_right, told_right}
use Rattle.rt_server.proofs.LastingCopies.{copies_right, loaded_right}
use Rattle.rt_server.proofs.LastingEntries.{replica_held}
use Rattle.rt_server.proofs.LastingServes.{serves_right}
use Rattle.rt_server.proofs.lasting.what_a_server_has_is_right.Goals as goal

pub returns-clause-serves : goal.returns-clause-serves
returns-clause-serves c = λ setup past s piece served k order h. serves_right setup past s k piece served order h

pub returns-clause-commits : goal.returns-clause-commits
returns-clause-commits c = commits_right

pub returns-clause-told : goal.returns-clause-told
returns-clause-told c = told_right

pub returns-clause-replicas : goal.returns-clause-replicas
returns-clause-replicas c = λ setup past s p q r k found. replica_held setup past s k p q r found

pub returns-clause-copies : goal.returns-clause-copies
returns-clause-copies c = λ setup past s p q file right k e. copies_right setup past s p q file right k e

pub returns-clause-loaded : goal.returns-clause-loaded
returns-clause-loaded c = loaded_right
