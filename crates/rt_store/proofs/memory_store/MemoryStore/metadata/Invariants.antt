use Rattle.std.proofs.Common.{ℕ, ◌-◌, Option, Some, None}
use Rattle.rt_base.specs.declared.numbers.Sequence.{Sequence}
use Rattle.rt_store.proofs.Listing.{ListedTo}
use Rattle.rt_store.proofs.memory_store.MemoryStore.metadata.Given as goal

-- the sequences that may be left
abbrev left_from : Option Sequence → ℕ
left_from None = 0
left_from (Some next) = 4294967296 - next.0

-- the nodes so far are those below the next one
abbrev pub invariant-loop-next : goal.invariant-loop-next
invariant-loop-next l = ListedTo l.self.writes l.partition l.nodes l.next

abbrev pub decreases-loop-next : goal.decreases-loop-next
decreases-loop-next l = left_from l.next
