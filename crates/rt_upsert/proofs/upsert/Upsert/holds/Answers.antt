use Rattle.rt_upsert.proofs.Adding.{holds_is}
use Rattle.rt_upsert.proofs.upsert.Upsert.holds.Goals as goal

pub returns : goal.returns
returns c = holds_is c.self.inside.kinds c.self.inside.keys c.self.inside.compare c.args.self.now c.self.inside.held.rows.entries c.self.view_is c.args.place c.contains_key.result c.contains_key.ensures
