use Rattle.rt_heal.proofs.Following.{catches_comes, catches_within, follows}
use Rattle.rt_heal.proofs.laws.each_replica_can_come_to_its_target.Goals as goal

pub returns-clause-catches : goal.returns-clause-catches
returns-clause-catches c = catches_within

pub returns-clause-comes : goal.returns-clause-comes
returns-clause-comes c = catches_comes

pub returns-clause-follows : goal.returns-clause-follows
returns-clause-follows c = follows
