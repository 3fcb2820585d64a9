-- What happens in a world is shown, and has one outcome.
use Rattle.std.proofs.Common.{◌≡◌, true, false, Ok, refl, sym, ◌∙◌, subst}
use Rattle.rt_events.specs.declared.event.Event.{Event}
use Rattle.rt_events.specs.declared.event.Event.TheVariants as event
use Rattle.rt_events.specs.declared.outcome.Outcome.{Outcome}
use Rattle.rt_state.specs.Clock.{deep_faulted, store_faulted, ticked}
use Rattle.rt_state.specs.IsSafeWorld.{IsSafeWorld}
use Rattle.rt_state.specs.Queries.{Answers, asked}
use Rattle.rt_state.specs.Shows.{ideal_shown, meta_shown}
use Rattle.rt_state.specs.Stream.{produced}
use Rattle.rt_state.specs.declared.state.State.{State}
use Rattle.rt_world.specs.Step.{due_at, Steps, way_of}
use Rattle.rt_world.specs.Way.{Goes, Way}
use Rattle.rt_world.specs.Way as way
use Rattle.rt_exact.specs.Alike.{is_piece}
use Rattle.rt_exact.specs.Shown.{shown}
use Rattle.rt_exact.proofs.Answers.{answered_world, answers_shown}
use Rattle.rt_exact.proofs.Dues.{due_at_shown}
use Rattle.rt_exact.proofs.Ones.{same_price}
use Rattle.rt_exact.proofs.Pieces.{pieces_shown}
use Rattle.rt_exact.proofs.Routing.{routes_shown}
use Rattle.rt_exact.proofs.Shows.{GoesShown, Shows, shows_one}
use Rattle.rt_exact.proofs.Showing.{applied_shown, asked_shown, chores_shown, comes_shown, Commutes, controller_does_shown, delivers_shown, jobs_shown, replies_shown, server_asks_shown, server_calls_shown, server_does_shown, server_fetches_shown, server_gets_shown}

-- ---- in a safe world

-- a node takes the step
abbrev IsNodes : Way → Type 0
IsNodes (way.outside next) = ⊥
IsNodes y = Unit {0}

way_shown : (w : State) (y : Way) → IsNodes y → IsSafeWorld w → Commutes (Goes w y) (GoesShown (shown w) y)
way_shown w (way.alone i does) node safe = server_does_shown w i does
way_shown w (way.looks i does) node safe = server_fetches_shown w i does
way_shown w (way.calls i does) node safe = server_calls_shown w i does
way_shown w (way.gets i does) node safe = server_gets_shown w i does
way_shown w (way.sends i asks) node safe = server_asks_shown w i asks
way_shown w (way.takes m) node safe = replies_shown w m
way_shown w (way.turns c does outcome) node safe = controller_does_shown w c does outcome
way_shown w (way.handles m c) node safe = delivers_shown w m c
way_shown w (way.works c j) node safe = jobs_shown w c j
way_shown w (way.keeps c p chore) node safe = chores_shown w c p chore
way_shown w (way.routes q p) node safe = routes_shown w q p
way_shown w (way.serves q p s i) node safe = pieces_shown w q p s i
way_shown w (way.closes q) node safe = answers_shown w q safe
way_shown w (way.outside next) node safe = absurd node

event_shown : (w : State) (e : Event) → IsSafeWorld w → Commutes (Goes w (way_of w e)) (GoesShown (shown w) (way_of (shown w) e))
event_shown w (event.Produce p message) safe = comes_shown (produced w p message) (produced (shown w) p message) (λ cost. refl)
event_shown w (event.Tick millis) safe = comes_shown (ticked w millis) (ticked (shown w) millis) (λ cost. refl)
event_shown w (event.FaultStore kept) safe = comes_shown (store_faulted w kept) (store_faulted (shown w) kept) (λ cost. refl)
event_shown w (event.FaultDeep kept) safe = comes_shown (deep_faulted w kept) (deep_faulted (shown w) kept) (λ cost. refl)
event_shown w (event.Ask query) safe = comes_shown (asked w query) (asked (shown w) query) (asked_shown w query)
event_shown w (event.ShowMeta p q) safe = comes_shown (meta_shown w p q) (meta_shown (shown w) p q) (λ cost. refl)
event_shown w event.ShowIdeal safe = comes_shown (ideal_shown w) (ideal_shown (shown w)) (λ cost. refl)
event_shown w e safe = way_shown w (way_of w e) tt safe

pub step_shown : (w : State) (e : Event) (x : State) (a : Outcome) → IsSafeWorld w → Steps w e x (Ok a) → Shows (shown w) e (shown x) a
step_shown w e x a safe h =
    applied_shown w x (due_at w e) (due_at (shown w) e) (Goes w (way_of w e)) (GoesShown (shown w) (way_of (shown w) e)) a (due_at_shown w e) (event_shown w e safe) h

-- ---- of two safe worlds that show the same

pub steps_alike : (w v : State) (e : Event) (x y : State) (a b : Outcome) → IsSafeWorld w → IsSafeWorld v → shown w ≡ shown v
    → Steps w e x (Ok a) → Steps v e y (Ok b) → (a ≡ b) × (shown x ≡ shown y)
steps_alike w v e x y a b s t same h k =
    shows_one (shown v) e (shown x) (shown y) a b (subst (λ u. Shows u e (shown x) a) same (step_shown w e x a s h)) (step_shown v e y b t k)

pub one_outcome : (w : State) (e : Event) (x y : State) (a b : Outcome) → IsSafeWorld w → Steps w e x (Ok a) → Steps w e y (Ok b) → (a ≡ b) × (shown x ≡ shown y)
one_outcome w e x y a b s h k = steps_alike w w e x y a b s s refl h k

-- ---- the very same world, but for the groups of a piece

true_or_false : true ≡ false → ⊥
true_or_false e = cc

pub one_world : (w : State) (e : Event) (x y : State) (a b : Outcome) → is_piece e ≡ false → Steps w e x (Ok a) → Steps w e y (Ok b) → x ≡ y
one_world w (event.Piece q p s i) x y a b other h k = absurd (true_or_false other)
one_world w (event.Answer q) x y a b other (c, d, g) (e, f, h) =
    let one_cost = same_price c e (sym d ∙ f) in
    answered_world w q e (x, a) (y, b) (subst (λ z. Answers w q z (x, a)) one_cost g) h
one_world w e x y a b other h k = (shows_one w e x y a b h k).1
