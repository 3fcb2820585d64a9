-- Each event is refused by its own limits alone, and each of these is passed then.
use Rattle.std.proofs.Common.{◌≡◌, ℕ, ◌+◌, ◌<◌, ◌≤◌, ◌⊎◌, inl, inr, Bool, true, false, Option, Result, Ok, Err, refl, subst, nat_le, nat_lt, arith}
use Rattle.std.proofs.lemmas.Bool.{leb-false, ltb-false}
use Rattle.rt_base.specs.declared.limits.TheConstants.{LAST_MOMENT, LONGEST_MESSAGE, MOST_EVENTS, MOST_QUERIES, MOST_SENT, MOST_STORED}
use Rattle.rt_base.specs.declared.which.Which.{Which}
use Rattle.rt_base.specs.declared.which.Which.TheVariants as limit
use Rattle.rt_events.specs.declared.event.Event.{Event}
use Rattle.rt_events.specs.declared.event.Event.TheVariants as event
use Rattle.rt_events.specs.declared.refusal.Refusal.{Refusal}
use Rattle.rt_events.specs.declared.refusal.Refusal.TheVariants.{Limit}
use Rattle.rt_state.proofs.Possible.{HasRoom, met_price, priced_room}
use Rattle.rt_state.specs.IsSafeWorld.{IsSafeWorld}
use Rattle.rt_state.specs.Jobs.{sets_of_job}
use Rattle.rt_state.specs.Repairs.{repair_in, retirement_in, upkeep_at}
use Rattle.rt_state.specs.Room.{Due, dropped, no_cost, only_if, priced, set_cost}
use Rattle.rt_state.specs.declared.cost.Cost.{Cost}
use Rattle.rt_state.specs.declared.state.State.{State}
use Rattle.rt_world.proofs.Costs.{due_priced}
use Rattle.rt_world.specs.Step.{due_at, due_of, set_by_repair, set_by_retirement, tests_at}
use Rattle.rt_safety.specs.Limits.{IsPassed, appends, asks, can_pass, cost_of, reports, steps_upkeep, ticks}

-- ---- the limit that a price passes

abbrev by_limit : {X : Type 0} → Which → Result X Refusal
by_limit which = Err (Limit which)

abbrev by : {X : Type 0} → Refusal → Result X Refusal
by e = Err e

abbrev fine : {X : Type 0} → X → Result X Refusal
fine x = Ok x

same_limit : {X : Type 0} (a b : Which) → by_limit {X = X} a ≡ by_limit b → a ≡ b
same_limit a b e = cc

-- a test that isn't met, and its limit; or what comes behind it
limited : {X : Type 0} (b : Bool) (own which : Which) (rest : Result X Refusal) → only_if b (Limit own) rest ≡ by_limit which
    → ((b ≡ false) × (own ≡ which)) ⊎ (rest ≡ by_limit which)
limited true own which rest h = inr h
limited false own which rest h = inl (refl, same_limit own which h)

not_priced : (c : Cost) (which : Which) → fine c ≡ by_limit which → ⊥
not_priced c which e = cc

passes_limit : (w : State) (c : Cost) (which : Which) → priced w c ≡ by_limit which → IsPassed w c which
passes_limit w c which h = by_message (limited (nat_le c.message LONGEST_MESSAGE) limit.Message which _ h)
  where
    moment : Due
    moment = only_if (nat_le (w.moment.0 + c.millis) LAST_MOMENT) (Limit limit.Moment) (fine c)

    stored : Due
    stored = only_if (nat_le (w.counts.stored + c.stored) MOST_STORED) (Limit limit.Stored) moment

    queries : Due
    queries = only_if (nat_le (w.counts.unanswered + c.queries) MOST_QUERIES) (Limit limit.Queries) stored

    sent : Due
    sent = only_if (nat_le (w.counts.uploads + c.uploads) MOST_SENT) (Limit limit.Sent) queries

    events : Due
    events = only_if (nat_lt w.counts.events MOST_EVENTS) (Limit limit.Events) sent

    by_moment : ((nat_le (w.moment.0 + c.millis) LAST_MOMENT ≡ false) × (limit.Moment ≡ which)) ⊎ (fine c ≡ by_limit which) → IsPassed w c which
    by_moment (inl x) = subst (IsPassed w c) x.1 (leb-false (w.moment.0 + c.millis) LAST_MOMENT x.0)
    by_moment (inr e) = absurd (not_priced c which e)

    by_stored : ((nat_le (w.counts.stored + c.stored) MOST_STORED ≡ false) × (limit.Stored ≡ which)) ⊎ (moment ≡ by_limit which) → IsPassed w c which
    by_stored (inl x) = subst (IsPassed w c) x.1 (leb-false (w.counts.stored + c.stored) MOST_STORED x.0)
    by_stored (inr e) = by_moment (limited (nat_le (w.moment.0 + c.millis) LAST_MOMENT) limit.Moment which (fine c) e)

    by_queries : ((nat_le (w.counts.unanswered + c.queries) MOST_QUERIES ≡ false) × (limit.Queries ≡ which)) ⊎ (stored ≡ by_limit which) → IsPassed w c which
    by_queries (inl x) = subst (IsPassed w c) x.1 (leb-false (w.counts.unanswered + c.queries) MOST_QUERIES x.0)
    by_queries (inr e) = by_stored (limited (nat_le (w.counts.stored + c.stored) MOST_STORED) limit.Stored which moment e)

    by_sent : ((nat_le (w.counts.uploads + c.uploads) MOST_SENT ≡ false) × (limit.Sent ≡ which)) ⊎ (queries ≡ by_limit which) → IsPassed w c which
    by_sent (inl x) = subst (IsPassed w c) x.1 (leb-false (w.counts.uploads + c.uploads) MOST_SENT x.0)
    by_sent (inr e) = by_queries (limited (nat_le (w.counts.unanswered + c.queries) MOST_QUERIES) limit.Queries which stored e)

    by_events : ((nat_lt w.counts.events MOST_EVENTS ≡ false) × (limit.Events ≡ which)) ⊎ (sent ≡ by_limit which) → IsPassed w c which
    by_events (inl x) = subst (IsPassed w c) x.1 (omega (arith, ltb-false w.counts.events MOST_EVENTS x.0))
    by_events (inr e) = by_sent (limited (nat_le (w.counts.uploads + c.uploads) MOST_SENT) limit.Sent which queries e)

    by_message : ((nat_le c.message LONGEST_MESSAGE ≡ false) × (limit.Message ≡ which)) ⊎ (events ≡ by_limit which) → IsPassed w c which
    by_message (inl x) = subst (IsPassed w c) x.1 (leb-false c.message LONGEST_MESSAGE x.0)
    by_message (inr e) = by_events (limited (nat_lt w.counts.events MOST_EVENTS) limit.Events which sent e)

none_passed : (w : State) (c : Cost) → HasRoom w c → (which : Which) → IsPassed w c which → ⊥
none_passed w c room limit.Message over = omega (arith, room.message, over)
none_passed w c room limit.Events over = omega (arith, room.events, over)
none_passed w c room limit.Sent over = omega (arith, room.sent, over)
none_passed w c room limit.Queries over = omega (arith, room.queries, over)
none_passed w c room limit.Stored over = omega (arith, room.stored, over)
none_passed w c room limit.Moment over = omega (arith, room.moment, over)
none_passed w c room limit.Input over = over
none_passed w c room limit.Partitions over = over
none_passed w c room limit.Servers over = over
none_passed w c room limit.Controllers over = over
none_passed w c room limit.Replication over = over
none_passed w c room limit.Rows over = over

-- ---- the laws

dropped_limit : (due : Due) (which : Which) → dropped due ≡ by_limit which → due ≡ by_limit which
dropped_limit (Ok c) which e = absurd (cc)
dropped_limit (Err f) which e = as_due (Limit which) f e
  where
    as_due : (g f : Refusal) → by {X = Unit {0}} f ≡ by g → by {X = Cost} f ≡ by g
    as_due g f e = cc

dropped_fine : (due : Due) → dropped due ≡ fine tt → (c : Cost) × (due ≡ fine c)
dropped_fine (Ok c) e = (c, refl)
dropped_fine (Err f) e = absurd (cc)

pub limit_passed : (w : State) (e : Event) (which : Which) → due_of w e ≡ Err (Limit which) → IsPassed w (cost_of w e) which
limit_passed w e which h =
    passes_limit w (cost_of w e) which
    (met_price (tests_at w e) (priced w (cost_of w e)) (by_limit which) tt (dropped_limit (due_at w e) which h))

pub room_left : (w : State) (e : Event) (which : Which) → due_of w e ≡ Ok tt → IsPassed w (cost_of w e) which → ⊥
room_left w e which h over =
    let due = dropped_fine (due_at w e) h in
    let room = priced_room w (cost_of w e) due.0 (due_priced w e due.0 due.1) in
    none_passed w (cost_of w e) room.1 which over

-- ---- whose limits they are

-- what an event costs of each kind, unless the limit is its own, is nothing
record Own (c : Cost) (e : Event) : Type 0 where
  pub message : (appends e ≡ true) ⊎ (c.message ≡ 0)
  pub uploads : (reports e ≡ true) ⊎ (c.uploads ≡ 0)
  pub queries : (asks e ≡ true) ⊎ (c.queries ≡ 0)
  pub stored : (steps_upkeep e ≡ true) ⊎ (c.stored ≡ 0)
  pub millis : (ticks e ≡ true) ⊎ (c.millis ≡ 0)

free : (e : Event) → Own no_cost e
free e = record { message = inr refl; uploads = inr refl; queries = inr refl; stored = inr refl; millis = inr refl }

sets : (e : Event) (entries : Option ℕ) → steps_upkeep e ≡ true → Own (set_cost entries) e
sets e entries own = record { message = inr refl; uploads = inr refl; queries = inr refl; stored = inl own; millis = inr refl }

owns : (w : State) (e : Event) → Own (cost_of w e) e
owns w (event.Produce p message) = record { message = inl refl; uploads = inr refl; queries = inr refl; stored = inr refl; millis = inr refl }
owns w (event.Tick millis) = record { message = inr refl; uploads = inr refl; queries = inr refl; stored = inr refl; millis = inl refl }
owns w (event.Report i p q) = record { message = inr refl; uploads = inl refl; queries = inr refl; stored = inr refl; millis = inr refl }
owns w (event.Job c j) = sets (event.Job c j) (sets_of_job w c j) refl
owns w (event.Repair c p) = sets (event.Repair c p) (set_by_repair (repair_in (upkeep_at w c p)) w.moment) refl
owns w (event.Retain c p) = sets (event.Retain c p) (set_by_retirement (retirement_in (upkeep_at w c p)) w.moment) refl
owns w (event.Ask query) = record { message = inr refl; uploads = inr refl; queries = inl refl; stored = inr refl; millis = inr refl }
owns w e = free _

-- nothing more than what there is passes no limit
own_or : (b : Bool) (n count limit : ℕ) → (b ≡ true) ⊎ (n ≡ 0) → count ≤ limit → limit < count + n → b ≡ true
own_or b n count limit (inl own) few over = own
own_or b n count limit (inr none) few over = absurd (omega (arith, none, few, over))

passes_own : (w : State) (c : Cost) (e : Event) (which : Which) → IsSafeWorld w → Own c e → IsPassed w c which → can_pass e which ≡ true
passes_own w c e limit.Message s own over = own_or (appends e) c.message 0 LONGEST_MESSAGE own.message (omega arith) (omega (arith, over))
passes_own w c e limit.Events s own over = refl
passes_own w c e limit.Sent s own over = own_or (reports e) c.uploads w.counts.uploads MOST_SENT own.uploads s.few.uploads over
passes_own w c e limit.Queries s own over = own_or (asks e) c.queries w.counts.unanswered MOST_QUERIES own.queries s.few.few_unanswered over
passes_own w c e limit.Stored s own over = own_or (steps_upkeep e) c.stored w.counts.stored MOST_STORED own.stored s.few.stored over
passes_own w c e limit.Moment s own over = own_or (ticks e) c.millis w.moment.0 LAST_MOMENT own.millis s.few.moment over
passes_own w c e limit.Input s own over = absurd over
passes_own w c e limit.Partitions s own over = absurd over
passes_own w c e limit.Servers s own over = absurd over
passes_own w c e limit.Controllers s own over = absurd over
passes_own w c e limit.Replication s own over = absurd over
passes_own w c e limit.Rows s own over = absurd over

pub limit_owned : (w : State) (e : Event) (which : Which) → IsSafeWorld w → due_of w e ≡ Err (Limit which) → can_pass e which ≡ true
limit_owned w e which s h = passes_own w (cost_of w e) e which s (owns w e) (limit_passed w e which h)
