-- Runs with the same events are one.
use Rattle.std.proofs.Common.{◌≡◌, List, [], ◌∷◌, Option, Ok, refl, sym, subst}
use Rattle.std.proofs.lemmas.Option.{none-some, same_Some}
use Rattle.rt_events.specs.declared.event.Event.{Event}
use Rattle.rt_model.specs.Setup.{IsSetup}
use Rattle.rt_model.specs.declared.setup.Setup.{Setup}
use Rattle.rt_state.specs.Start.{start}
use Rattle.rt_world.specs.Step.{Steps}
use Rattle.rt_state.specs.declared.state.State.{State}
use Rattle.rt_world.proofs.StartSafe.{start_safe}
use Rattle.rt_safety.specs.Runs.{Turn, happens, passes, TurnsTo, Leads, Runs}
use Rattle.rt_exact.specs.Alike.{AreAlike}
use Rattle.rt_exact.specs.Asked.{event_of, events_of}
use Rattle.rt_exact.proofs.Acts.{passed_alike}
use Rattle.rt_exact.proofs.Alike.{stay_alike}

abbrev join : Option Event → List (Option Event) → List (Option Event)
join o os = o ∷ os

same_join : (a b : Option Event) (xs ys : List (Option Event)) → join a xs ≡ join b ys → (a ≡ b) × (xs ≡ ys)
same_join a b xs ys e = (cc, cc)

never_joined : (a : Option Event) (xs : List (Option Event)) → [] ≡ join a xs → ⊥
never_joined a xs e = cc

-- a turn by the same event is the same turn
turn_one : (s t : Turn) (w v x y : State) → AreAlike w v → event_of s ≡ event_of t → TurnsTo w s x → TurnsTo v t y → (s ≡ t) × AreAlike x y
turn_one (happens e a) (happens f b) w v x y k same (fits, h) (fits', g) =
    let one : e ≡ f = same_Some e f same in
    let z = stay_alike w v e x y a b k fits h (subst (λ (d : Event). Steps v d y (Ok b)) (sym one) g) in
    ((λ i. happens (one i) (z.0 i)), z.1)
turn_one (happens e a) passes w v x y k same h g = absurd (none-some e (sym same))
turn_one passes (happens f b) w v x y k same h g = absurd (none-some f same)
turn_one passes passes w v x y k same h g = (refl, passed_alike w v x y k h g)

pub leads_one : (s t : List Turn) (w v x y : State) → AreAlike w v → events_of s ≡ events_of t → Leads w s x → Leads v t y → (s ≡ t) × AreAlike x y
leads_one [] [] w v x y k same h g = (refl, subst (λ z. AreAlike z y) (sym h) (subst (λ z. AreAlike w z) (sym g) k))
leads_one [] (b ∷ t) w v x y k same h g = absurd (never_joined (event_of b) (events_of t) same)
leads_one (a ∷ s) [] w v x y k same h g = absurd (never_joined (event_of a) (events_of s) (sym same))
leads_one (a ∷ s) (b ∷ t) w v x y k same (u, h, hs) (z, g, gs) =
    let both = same_join (event_of a) (event_of b) (events_of s) (events_of t) same in
    let first = turn_one a b w v u z k both.0 h g in
    let others = leads_one s t u z x y first.1 both.1 hs gs in
    ((λ i. first.0 i ∷ others.0 i), others.1)

pub runs_one : (setup : Setup) (s t : List Turn) (x y : State) → IsSetup setup → Runs setup s x → Runs setup t y → events_of s ≡ events_of t
    → (s ≡ t) × AreAlike x y
runs_one setup s t x y is h g same =
    let safe = start_safe setup is in
    leads_one s t (start setup) (start setup) x y (record { left = safe; right = safe; same = refl }) same h g
