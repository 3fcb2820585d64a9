-- The end of a segment's node, where that is there and Done.
use Rattle.std.specs.Prelude.{Option, Some, None}
use Rattle.rt_base.specs.declared.numbers.Offset.{Offset}
use Rattle.rt_model.specs.declared.node.Node.{Node}
use Rattle.rt_model.specs.declared.node.Node.TheVariants as node
use Rattle.rt_model.specs.declared.node.Seen.{Seen}
use Rattle.rt_model.specs.declared.status.Status.{Status}
use Rattle.rt_model.specs.declared.status.Status.TheVariants.{InProgress, Done, Abandoned}

abbrev pub done_end : Status → Option Offset
done_end InProgress = None
done_end (Done commit) = Some commit.end
done_end Abandoned = None

abbrev pub done_by : Node → Option Offset
done_by (node.Meta m) = done_end m.status
done_by (node.Ideal i) = None
done_by node.Boot = None
done_by node.Gone = None

abbrev pub done_in : Option Seen → Option Offset
done_in None = None
done_in (Some w) = done_by w.node
