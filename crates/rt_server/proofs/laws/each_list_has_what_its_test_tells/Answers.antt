use Rattle.rt_entry.specs.Entry.{is_replica, is_wanting}
use Rattle.rt_server.proofs.Listed.{due_has, held_has, wanted_has, where_ascends}
use Rattle.rt_server.proofs.Merge.{due_ascends}
use Rattle.rt_server.proofs.laws.each_list_has_what_its_test_tells.Goals as goal

pub returns-clause-due : goal.returns-clause-due
returns-clause-due c = due_has

pub returns-clause-due_ascend : goal.returns-clause-due_ascend
returns-clause-due_ascend c = due_ascends

pub returns-clause-wanted : goal.returns-clause-wanted
returns-clause-wanted c = λ setup t p q s. wanted_has t p q s.ascending

pub returns-clause-wanted_ascend : goal.returns-clause-wanted_ascend
returns-clause-wanted_ascend c = λ setup t s. where_ascends is_wanting t.entries s.ascending

pub returns-clause-held : goal.returns-clause-held
returns-clause-held c = λ setup t p q s. held_has t p q s.ascending

pub returns-clause-held_ascend : goal.returns-clause-held_ascend
returns-clause-held_ascend c = λ setup t s. where_ascends is_replica t.entries s.ascending
