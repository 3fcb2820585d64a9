use Rattle.rt_recovery.proofs.Coming.{retirements_always_come, retirements_come}
use Rattle.rt_recovery.proofs.Retiring.{retired}
use Rattle.rt_recovery.proofs.laws.retirements_up_to_nothing_leave_none_half_done.Goals as goal

pub returns-clause-leaves : goal.returns-clause-leaves
returns-clause-leaves c = λ setup turns w v at times is run none h. retired setup turns w v at times is run none h

pub returns-clause-comes : goal.returns-clause-comes
returns-clause-comes c = λ setup turns w v at times told is run none enough h. retirements_come setup turns w v at times told is run none enough h

pub returns-clause-always : goal.returns-clause-always
returns-clause-always c = λ setup turns w v at times told is run none many h. retirements_always_come setup turns w v at times told is run none many h
