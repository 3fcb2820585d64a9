use Rattle.std.proofs.Common.{◌≡◌}
use Rattle.rt_model.specs.Starting.{starting_entries}
use Rattle.rt_store.specs.Contents.{starting_of}
use Rattle.rt_store.proofs.contents.first_state.Given as goal

-- the entries of the partitions so far
abbrev pub invariant-loop-number : goal.invariant-loop-number
invariant-loop-number l = l.entries.items ≡ starting_entries (starting_of l.setup) l.number
