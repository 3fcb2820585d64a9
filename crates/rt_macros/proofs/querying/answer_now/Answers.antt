use Rattle.std.proofs.Common.{Ok, refl, sym, subst, ◌∙◌}
use Rattle.rt_events.specs.declared.event.Event.TheVariants.{Answer as GiveAnswer}
use Rattle.rt_macros.proofs.Doing.{comes_told}
use Rattle.rt_macros.specs.Doing.{Happens, stays}
use Rattle.rt_macros.specs.Outcomes.{answer_in}
use Rattle.rt_macros.specs.Querying.{GivesAnswer}
use Rattle.rt_macros.proofs.querying.answer_now.Goals as goal

pub returns-in-Some : goal.returns-in-Some
returns-in-Some c =
    let v = c.act.new.world.state in (
      c.in_ok-outcome.ensures.0,
      comes_told (Happens (GiveAnswer c.args.number)) (λ outcome. GivesAnswer (answer_in outcome)) c.args.world.now.state v c.in_ok-outcome.outcome
          (Ok c.in-Some.answer) c.in_ok-outcome.ensures.1
          (subst (λ s. GivesAnswer s v (stays v) (Ok c.in-Some.answer)) (sym c.in-Some.is ∙ c.answer.ensures) (refl, refl)),
    )
