use Rattle.std.proofs.Common.{Ok, Err, refl, sym, subst, ◌∙◌}
use Rattle.rt_events.specs.declared.event.Event.TheVariants.{Reply}
use Rattle.rt_events.specs.declared.refusal.Refusal.TheVariants.{NothingToDo}
use Rattle.rt_macros.proofs.Doing.{comes_told}
use Rattle.rt_macros.specs.Doing.{Happens, stays}
use Rattle.rt_macros.specs.Exchanging.{AfterReply}
use Rattle.rt_macros.specs.Outcomes.{state_in}
use Rattle.rt_macros.proofs.exchanging.take_answer.Goals as goal

pub returns-in-Some : goal.returns-in-Some
returns-in-Some c =
    let v = c.act.new.world.state in
    let it = Ok (record { request = c.args.request; reply = c.args.replied.message; status = c.args.replied.status; state = c.in-Some.state }) in (
      c.in_ok-outcome.ensures.0,
      comes_told (Happens (Reply c.args.replied.message)) (λ outcome. AfterReply c.args.request c.args.replied (state_in outcome)) c.args.world.now.state v
          c.in_ok-outcome.outcome it c.in_ok-outcome.ensures.1
          (subst (λ s. AfterReply c.args.request c.args.replied s v (stays v) it) (sym c.in-Some.is ∙ c.state.ensures) (refl, refl)),
    )

pub returns-in-None : goal.returns-in-None
returns-in-None c =
    let v = c.act.new.world.state in (
      c.in_ok-outcome.ensures.0,
      comes_told (Happens (Reply c.args.replied.message)) (λ outcome. AfterReply c.args.request c.args.replied (state_in outcome)) c.args.world.now.state v
          c.in_ok-outcome.outcome (Err NothingToDo) c.in_ok-outcome.ensures.1
          (subst (λ s. AfterReply c.args.request c.args.replied s v (stays v) (Err NothingToDo)) (sym c.in-None.is ∙ c.state.ensures) (refl, refl)),
    )
