use Rattle.rt_call_queries.proofs.trees.+write_predicate.Given as goal

abbrev pub decreases-write_predicate : goal.decreases-write_predicate
decreases-write_predicate l = goal.size-write_predicate l
