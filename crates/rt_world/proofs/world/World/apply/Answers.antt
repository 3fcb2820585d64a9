use Rattle.std.proofs.Common.{subst, sym}
use Rattle.rt_world.proofs.SafeSteps.{steps_keep}
use Rattle.rt_events.specs.Fits.{Fits}
use Rattle.rt_world.specs.Kept.{Kept}
use Rattle.rt_world.proofs.world.World.apply.Goals as goal

pub invariant_of-self-else-ran_out : goal.invariant_of-self-else-ran_out
invariant_of-self-else-ran_out c = λ unspent.
    let fits = subst (λ (k : Kept). Fits k.state.setup.schema c.args.event.now) (sym c.self.view_is) c.requires.fits in
    steps_keep c.self.inside.state c.args.event.now c.apply-came.new.state c.apply-came.result (c.ran_out.ensures.no c.if-ran_out.false) fits (c.self.invariant unspent) c.apply-came.ensures
