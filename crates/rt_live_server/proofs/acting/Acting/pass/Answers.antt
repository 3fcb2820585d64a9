use Rattle.std.proofs.Common.{subst, sym}
use Rattle.rt_live_server.specs.Acting.{ActingNow}
use Rattle.rt_live_server.specs.Steps.{PassesBy}
use Rattle.rt_live_server.proofs.Doing.{passed}
use Rattle.rt_live_server.proofs.acting.Acting.pass.Goals as goal

pub invariant_of-self : goal.invariant_of-self
invariant_of-self g c =
    let is = c.self.invariant in
    let by = subst (λ (a : ActingNow). PassesBy a.up c.args.envelope) (sym c.self.view_is) c.requires.passes in
    (is.0, passed _ _ _ is.1 _ c.args.envelope by c.note.ensures)
