-- An event is refused or happens, and never both.
use Rattle.std.proofs.Common.{◌≡◌, Ok, Err, refl, sym, ◌∙◌, ap}
use Rattle.rt_events.specs.declared.event.Event.{Event}
use Rattle.rt_events.specs.declared.outcome.Outcome.{Outcome}
use Rattle.rt_events.specs.declared.refusal.Refusal.{Refusal}
use Rattle.rt_events.specs.declared.refusal.Refusal.TheVariants.{Memory}
use Rattle.rt_world.specs.Kept.{Kept}
use Rattle.rt_state.specs.Room.{Due, Found, dropped}
use Rattle.rt_world.specs.Step.{Steps, StepsKept, due_at, due_of}
use Rattle.rt_state.specs.declared.cost.Cost.{Cost}
use Rattle.rt_state.specs.declared.state.State.{State}

abbrev found : Found
found = Ok tt

abbrev refuse : Refusal → Found
refuse refusal = Err refusal

never_found : (refusal : Refusal) → found ≡ refuse refusal → ⊥
never_found refusal e = cc

-- an event that has a cost isn't refused
pub priced_never : (due : Due) (cost : Cost) (refusal : Refusal) → due ≡ Ok cost → dropped due ≡ Err refusal → ⊥
priced_never due cost refusal e f = never_found refusal (sym (ap (λ d. dropped d) e) ∙ f)

pub refused_never : (w : State) (e : Event) (x : State) (a : Outcome) (refusal : Refusal) → due_of w e ≡ Err refusal → Steps w e x (Ok a) → ⊥
refused_never w e x a refusal r h = priced_never (due_at w e) h.0 refusal h.1 r

-- ---- the same of a call: what came of it came of it alone, but that memory may run out

pub kept_never : (old : Kept) (e : Event) (x y : Kept) (a : Outcome) (refusal : Refusal) → StepsKept old e x (Ok a) → StepsKept old e y (Err refusal) → refusal ≡ Memory
kept_never old e x y a Memory h k = refl
kept_never old e x y a refusal h k = absurd (refused_never old.state e x.state a refusal k.1 h.2)
