-- Nodes of the store are looked at, which is no call of it.
use Rattle.rt_base.specs.declared.numbers.Partition.{Partition}
use Rattle.rt_base.specs.declared.numbers.Sequence.{Sequence}
use Rattle.rt_model.specs.History.{value_of}
use Rattle.rt_state.specs.Applying.{Next}
use Rattle.rt_state.specs.Finding.{partition_tests}
use Rattle.rt_state.specs.Room.{Due, no_cost, priced, counted}
use Rattle.rt_state.specs.Tests.{met}
use Rattle.rt_state.specs.declared.cost.Cost.{Cost}
use Rattle.rt_state.specs.declared.state.State.{State}
use Rattle.rt_events.specs.declared.outcome.Outcome.TheVariants as told
use Rattle.rt_model.specs.declared.node.Key.TheVariants as key

abbrev pub show_meta_due : State → Partition → Due
show_meta_due w p = met (partition_tests w p) (priced w no_cost)

abbrev pub meta_shown : State → Partition → Sequence → Cost → Next
meta_shown w p q cost = (counted w cost, told.Shown (value_of w.store.writes (key.Meta p q)))

abbrev pub show_ideal_due : State → Due
show_ideal_due w = priced w no_cost

abbrev pub ideal_shown : State → Cost → Next
ideal_shown w cost = (counted w cost, told.Shown (value_of w.store.writes key.Ideal))
