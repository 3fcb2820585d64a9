-- A refused event changes nothing, and is refused as its line of the table says.
use Rattle.std.proofs.Common.{◌≡◌, ◌+◌, nat_lt, nat_le, Bool, true, false, refl, ap, Result, Ok, Err}
use Rattle.rt_base.specs.declared.limits.TheConstants.{LONGEST_MESSAGE, MOST_EVENTS, MOST_SENT, MOST_QUERIES, MOST_STORED, LAST_MOMENT}
use Rattle.rt_base.specs.declared.which.Which.{Which}
use Rattle.rt_base.specs.declared.which.Which.TheVariants as which
use Rattle.rt_events.specs.declared.event.Event.{Event}
use Rattle.rt_events.specs.declared.refusal.Refusal.{Refusal}
use Rattle.rt_events.specs.declared.refusal.Refusal.TheVariants.{Limit, Memory}
use Rattle.rt_state.specs.Applying.{Applies, Next}
use Rattle.rt_state.specs.Clock.{Passes}
use Rattle.rt_state.specs.declared.cost.Cost.{Cost}
use Rattle.rt_state.specs.declared.state.State.{State}
use Rattle.rt_world.specs.Kept.{Kept}
use Rattle.rt_state.specs.Room.{Due, dropped, no_cost, only_if, priced}
use Rattle.rt_world.specs.Step.{PassesKept, Steps, StepsKept, due_at, due_of, way_of}
use Rattle.rt_world.specs.Way.{Goes}

applied_refused : (old : State) (due : Due) (goes : Cost → Next → Type 0) (new : State) (e : Refusal) → (e ≡ Memory → ⊥)
    → Applies old due goes new (Err e) → (dropped due ≡ Err e) × (new ≡ old)
applied_refused old due goes new Memory other h = absurd (other refl)
applied_refused old due goes new e other h = (ap dropped h.0, h.1)

refused_so : (w : State) (what : Event) (new : State) (e : Refusal) → (e ≡ Memory → ⊥) → Steps w what new (Err e) → (due_of w what ≡ Err e) × (new ≡ w)
refused_so w what new e other h = applied_refused w (due_at w what) (Goes w (way_of w what)) new e other h

-- the world with another state
abbrev with_state : Kept → State → Kept
with_state old new = record { state = new; spent = old.spent }

pub kept_refused : (old : Kept) (what : Event) (new : State) (e : Refusal) → old.spent ≡ false → (e ≡ Memory → ⊥)
    → Steps old.state what new (Err e) → StepsKept old what (record { state = new; spent = old.spent }) (Err e)
kept_refused old what new Memory unspent other h = absurd (other refl)
kept_refused old what new e unspent other h = let r = refused_so old.state what new e other h in (unspent, r.0, ap (with_state old) r.1)

-- an event that is refused leaves the state as it was
pub state_stays : (w : State) (what : Event) (new : State) (e : Refusal) → (e ≡ Memory → ⊥) → Steps w what new (Err e) → new ≡ w
state_stays w what new e other h = (refused_so w what new e other h).1

-- ---- a line that is no event

abbrev out_of_memory : Due
out_of_memory = Err Memory

abbrev at_cost : Cost → Due
at_cost c = Ok c

abbrev the_refusal : Refusal → Due
the_refusal e = Err e

limited : (k : Which) → Limit k ≡ Memory → ⊥
limited k h = cc

costs : (c : Cost) → at_cost c ≡ out_of_memory → ⊥
costs c h = cc

same_refusal : (a b : Refusal) → the_refusal a ≡ the_refusal b → a ≡ b
same_refusal a b e = cc

only_named : (b : Bool) (k : Which) (rest : Due) → (rest ≡ out_of_memory → ⊥) → only_if b (Limit k) rest ≡ out_of_memory → ⊥
only_named true k rest later h = later h
only_named false k rest later h = limited k (same_refusal (Limit k) Memory h)

-- an event is priced without memory
priced_named : (w : State) (c : Cost) → priced w c ≡ out_of_memory → ⊥
priced_named w c =
    only_named (nat_le c.message LONGEST_MESSAGE) which.Message _
    (only_named (nat_lt w.counts.events MOST_EVENTS) which.Events _
    (only_named (nat_le (w.counts.uploads + c.uploads) MOST_SENT) which.Sent _
    (only_named (nat_le (w.counts.unanswered + c.queries) MOST_QUERIES) which.Queries _
    (only_named (nat_le (w.counts.stored + c.stored) MOST_STORED) which.Stored _
    (only_named (nat_le (w.moment.0 + c.millis) LAST_MOMENT) which.Moment (at_cost c) (costs c))))))

pub kept_passed : (old : Kept) (new : State) (result : Result (Unit {0}) Refusal) → old.spent ≡ false → Passes old.state new result
    → PassesKept old (record { state = new; spent = old.spent }) result
kept_passed old new (Ok u) unspent h = (unspent, unspent, h)
kept_passed old new (Err Memory) unspent h = absurd (priced_named old.state no_cost h.0)
kept_passed old new (Err e) unspent h = (unspent, ap dropped h.0, ap (with_state old) h.1)
