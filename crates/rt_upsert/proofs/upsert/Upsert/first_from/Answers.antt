use Rattle.std.proofs.Common.{◌≤◌, length, filter, subst}
use Rattle.rt_upsert.specs.Changes.{IsNext}
use Rattle.rt_upsert.specs.Placed.{PlacedRows, is_out}
use Rattle.rt_upsert.proofs.Counting.{next_is, few_out}
use Rattle.rt_upsert.proofs.Hiding.{small_row}
use Rattle.rt_upsert.proofs.upsert.Upsert.first_from.Goals as goal

pub returns-clause-next : goal.returns-clause-next
returns-clause-next c =
    subst (λ (held : PlacedRows). IsNext held.rows c.args.sequence c.args.from c.first_from.result) c.self.view_is
    (next_is c.args.sequence c.args.from c.self.inside.held.rows c.first_from.result c.self.invariant.ordered c.first_from.ensures)

pub returns-clause-few : goal.returns-clause-few
returns-clause-few c =
    subst (λ (held : PlacedRows). length (filter (is_out c.args.sequence c.args.from) held.rows) ≤ 4294967295) c.self.view_is
    (few_out c.args.sequence c.args.from c.self.inside.held.rows c.self.invariant.ordered
    (small_row c.self.inside.kinds c.self.inside.keys c.self.inside.compare c.self.inside.numbers.keys c.self.inside.held.rows c.self.inside.held.ranks c.self.invariant))
