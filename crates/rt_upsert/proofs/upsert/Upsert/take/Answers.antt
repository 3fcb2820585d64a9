use Rattle.std.proofs.Common.{ap, ◌∙◌}
use Rattle.rt_upsert.specs.Changes.{without_row}
use Rattle.rt_upsert.proofs.Changing.{shown_take}
use Rattle.rt_upsert.proofs.Indexing.{take}
use Rattle.rt_upsert.proofs.upsert.Upsert.take.Goals as goal

pub invariant_of-self : goal.invariant_of-self
invariant_of-self c =
    take c.self.inside.kinds c.self.inside.keys c.self.inside.compare c.self.inside.numbers.keys c.self.inside.held c.take.new.self c.self.invariant c.args.place c.take.ensures

pub returns : goal.returns
returns c =
    shown_take c.self.inside.kinds c.self.inside.keys c.self.inside.compare c.self.inside.held.rows.entries c.take.new.self.rows.entries c.args.place c.take.ensures.rows
    ∙ ap (without_row c.args.place) c.self.view_is
