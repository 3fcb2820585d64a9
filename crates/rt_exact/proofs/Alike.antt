-- Alike worlds stay alike.
use Rattle.std.proofs.Common.{◌≡◌, Result, Ok, ap, subst}
use Rattle.rt_events.specs.Fits.{Fits}
use Rattle.rt_events.specs.declared.event.Event.{Event}
use Rattle.rt_events.specs.declared.outcome.Outcome.{Outcome}
use Rattle.rt_events.specs.declared.refusal.Refusal.{Refusal}
use Rattle.rt_events.specs.declared.refusal.Refusal.TheVariants.{Memory}
use Rattle.rt_model.specs.declared.setup.Setup.{Setup}
use Rattle.rt_world.specs.Step.{Steps}
use Rattle.rt_state.specs.declared.state.State.{State}
use Rattle.rt_world.proofs.Few.{refused}
use Rattle.rt_world.proofs.SafeSteps.{steps_keep}
use Rattle.rt_exact.specs.Alike.{AreAlike}
use Rattle.rt_exact.proofs.Steps.{steps_alike}

abbrev answer : Outcome → Result Outcome Refusal
answer a = Ok a

has_memory : (a : Outcome) → answer a ≡ refused Memory → ⊥
has_memory a e = cc

pub stay_alike : (w v : State) (e : Event) (x y : State) (a b : Outcome) → AreAlike w v → Fits w.setup.schema e → Steps w e x (Ok a) → Steps v e y (Ok b)
    → (a ≡ b) × AreAlike x y
stay_alike w v e x y a b k fits h g =
    let z = steps_alike w v e x y a b k.left k.right k.same h g in
    let setup : w.setup ≡ v.setup = ap (λ (u : State). u.setup) k.same in (
      z.0,
      record {
        left = steps_keep w e x (Ok a) (has_memory a) fits k.left h;
        right = steps_keep v e y (Ok b) (has_memory b) (subst (λ (s : Setup). Fits s.schema e) setup fits) k.right g;
        same = z.1;
      },
    )
