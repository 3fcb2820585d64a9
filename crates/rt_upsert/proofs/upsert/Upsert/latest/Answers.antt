use Rattle.std.proofs.Common.{sym}
use Rattle.rt_upsert.proofs.Hiding.{shows_latest, shows_none}
use Rattle.rt_upsert.proofs.upsert.Upsert.latest.Goals as goal

pub returns-in-Some : goal.returns-in-Some
returns-in-Some c =
    shows_latest c.self.inside.kinds c.self.inside.keys c.self.inside.compare c.self.inside.numbers.keys c.self.inside.held.rows c.self.inside.held.ranks c.self.invariant c.args.self.now c.self.view_is
    c.args.place c.in-Some.held.now (sym c.in-Some.ensures.value) c.is_latest.result c.is_latest.ensures

pub returns-in-None : goal.returns-in-None
returns-in-None c =
    shows_none c.self.inside.kinds c.self.inside.keys c.self.inside.compare c.self.inside.numbers.keys c.self.inside.held.rows c.self.inside.held.ranks c.self.invariant c.args.self.now c.self.view_is
    c.args.place (sym c.in-None.ensures.value)
