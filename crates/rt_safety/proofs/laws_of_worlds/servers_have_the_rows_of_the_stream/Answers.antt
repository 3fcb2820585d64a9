use Rattle.rt_safety.proofs.Worlds.{commit_is_right, served_is_right}
use Rattle.rt_safety.proofs.laws_of_worlds.servers_have_the_rows_of_the_stream.Goals as goal

pub returns-clause-commits : goal.returns-clause-commits
returns-clause-commits c = λ w i n s there p q e x found rows. commit_is_right w i n s there p q e x found rows

pub returns-clause-serves : goal.returns-clause-serves
returns-clause-serves c = λ w i n s there piece served order e. served_is_right w i n s there piece served order e
