use Rattle.std.proofs.Common.{drop}
use Rattle.rt_agg.specs.Grouped.{Grouped}
use Rattle.rt_broker.specs.Answering.{Gains, served_from}
use Rattle.rt_broker.proofs.answering.gain_all.Given as goal

-- with what is left, all is merged
abbrev pub invariant-loop-route : goal.invariant-loop-route
invariant-loop-route l =
    (k : Grouped) → Gains (served_from l.route-index (drop l.route-index l.routes)) l.groups k
    → Gains (served_from 0 l.routes) l.initial.groups k
