use Rattle.rt_rebalance.proofs.Availability.{waiting_in_order, all_before_a_step, after_a_taken_step, after_a_load}
use Rattle.rt_rebalance.proofs.Once.{plan_once}
use Rattle.rt_rebalance.proofs.laws.instances_are_available_once_they_have_loaded.Goals as goal

pub returns-clause-before : goal.returns-clause-before
returns-clause-before c = all_before_a_step

pub returns-clause-stepped : goal.returns-clause-stepped
returns-clause-stepped c = after_a_taken_step

pub returns-clause-loaded : goal.returns-clause-loaded
returns-clause-loaded c = after_a_load

pub returns-clause-waiting : goal.returns-clause-waiting
returns-clause-waiting c = waiting_in_order

pub returns-clause-plan : goal.returns-clause-plan
returns-clause-plan c = plan_once
