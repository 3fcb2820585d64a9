-- A world after an event: as it came, or spent.
use Rattle.std.proofs.Common.{◌≡◌, true, false, Result, Ok, Err, refl, sym, ap, subst}
use Rattle.rt_events.specs.declared.event.Event.{Event}
use Rattle.rt_events.specs.declared.outcome.Outcome.{Outcome}
use Rattle.rt_events.specs.declared.refusal.Refusal.{Refusal}
use Rattle.rt_events.specs.declared.refusal.Refusal.TheVariants.{Memory}
use Rattle.rt_world.proofs.Refusing.{kept_refused}
use Rattle.rt_world.specs.Kept.{Kept}
use Rattle.rt_world.specs.Step.{Steps, StepsKept}
use Rattle.rt_state.specs.declared.state.State.{State}

abbrev refused : Refusal → Result Outcome Refusal
refused e = Err e

-- memory didn't run out
pub kept_came : (old : Kept) (what : Event) (new : State) (came : Result Outcome Refusal) → old.spent ≡ false → (came ≡ Err Memory → ⊥)
    → Steps old.state what new came → StepsKept old what (record { state = new; spent = old.spent }) came
kept_came old what new (Ok outcome) unspent other h = (unspent, unspent, h)
kept_came old what new (Err e) unspent other h = kept_refused old what new e unspent (λ m. other (ap refused m)) h

-- memory ran out
pub kept_spent : (old : Kept) (what : Event) (new : State) (came : Result Outcome Refusal) → came ≡ Err Memory
    → StepsKept old what (record { state = new; spent = true }) came
kept_spent old what new came e = subst (StepsKept old what (record { state = new; spent = true })) (sym e) refl
