use Rattle.std.proofs.Common.{◌-◌, length, get_or, ap, arith}
use Rattle.rt_mutable.specs.Column.{values_in}
use Rattle.rt_mutable.proofs.Indexed.{index_pop, enough_lists}
use Rattle.rt_mutable.proofs.mutable_column.MutableColumn.take_back.Goals as goal

pub forget_row-requires : goal.forget_row-requires
forget_row-requires c =
    enough_lists c.self.inside.docs (values_in c.self.inside.values) _ c.len.result c.self.invariant
    (omega (arith, c.requires, ap (λ f. length f.values) c.self.view_is)) c.take_back.ensures.values c.len.ensures

pub invariant_of-self : goal.invariant_of-self
invariant_of-self c =
    index_pop c.self.inside.docs _ (values_in c.self.inside.values) _ (get_or c.ids-ids.result.now (length c.ids-ids.result.now - 1) 0) c.len.result c.self.invariant
    (omega (arith, c.requires, ap (λ f. length f.values) c.self.view_is)) c.take_back.ensures.values
    (ap (λ l. get_or l (length l - 1) 0) c.ids-ids.ensures) c.len.ensures c.forget_row.ensures
