use Rattle.std.proofs.Common.{◌≡◌, ◌++◌}
use Rattle.rt_model.specs.Starting.{starting_boots, starting_metas}
use Rattle.rt_store.specs.Contents.{starting_of}
use Rattle.rt_store.proofs.contents.add_first_nodes.Given as goal

-- the first segments so far, after the boot nodes
abbrev pub invariant-loop-partition : goal.invariant-loop-partition
invariant-loop-partition l =
    l.store
    ≡ record l.initial.store { writes = starting_boots l.setup.servers ++ starting_metas (starting_of l.setup) l.partition }
