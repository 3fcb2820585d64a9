use Rattle.rt_mutable.specs.Column.{values_in}
use Rattle.rt_mutable.proofs.Indexed.{index_push}
use Rattle.rt_mutable.proofs.mutable_column.MutableColumn.index.Goals as goal

pub invariant_of-self-in-Ok : goal.invariant_of-self-in-Ok
invariant_of-self-in-Ok c =
    index_push c.self.inside.docs _ (values_in c.self.inside.values) _ c.args.value.now c.in_ok-id.id c.rows-row.result
    c.self.invariant c.in_ok-id.ensures.values c.in_ok-id.ensures.id c.rows-row.ensures c.in-Ok.ensures.ok
