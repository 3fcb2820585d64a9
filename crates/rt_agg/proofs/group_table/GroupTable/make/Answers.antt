use Rattle.std.proofs.Common.{List, subst, sym}
use Rattle.rt_schema.specs.declared.value.Value.{Value}
use Rattle.rt_agg.specs.GroupTable.{IsTable}
use Rattle.rt_agg.proofs.Apart.{none_apart}
use Rattle.rt_agg.proofs.Holders.{none_started}
use Rattle.rt_agg.proofs.group_table.GroupTable.make.Goals as goal

pub invariant_of-result : goal.invariant_of-result
invariant_of-result c =
    subst (λ (ks : List (List Value)). IsTable c.in_ok-holders.holders ks) (sym c.new.ensures)
    (record { apart = none_apart; started = none_started c.in_ok-holders.holders })
