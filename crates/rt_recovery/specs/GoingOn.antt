-- Partitions that all go on, and are whole.
use Rattle.std.specs.Prelude.{◌<◌, List}
use Rattle.rt_base.specs.declared.numbers.Partition.{Partition}
use Rattle.rt_model.specs.declared.node.Seen.{Seen}
use Rattle.rt_state.specs.declared.state.State.{State}
use Rattle.rt_heal.specs.Mended.{GoesOn}
use Rattle.rt_heal.specs.Turned.{NoneHalfRetired}

-- a partition goes on, and none of its committed segments is between the two steps of its retirement
abbrev pub GoesOnWhole : List Seen → Partition → Type 0
GoesOnWhole h p = GoesOn h p × NoneHalfRetired h p

-- so does each
abbrev pub AllGoOn : State → Type 0
AllGoOn w = (p : Partition) → p.0 < w.setup.partitions → GoesOnWhole w.store.writes p
