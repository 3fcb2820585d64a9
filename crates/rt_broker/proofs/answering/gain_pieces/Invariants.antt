use Rattle.std.proofs.Common.{drop}
use Rattle.rt_base.specs.declared.numbers.Partition.{Partition}
use Rattle.rt_agg.specs.Grouped.{Grouped}
use Rattle.rt_broker.specs.Answering.{Gains, served_pieces}
use Rattle.rt_broker.proofs.answering.gain_pieces.Given as goal

-- with what is left, all is merged
abbrev pub invariant-loop-piece : goal.invariant-loop-piece
invariant-loop-piece l =
    (p : Partition) (k : Grouped) → Gains (served_pieces p (drop l.piece-index l.asked)) l.groups k
    → Gains (served_pieces p l.asked) l.initial.groups k
