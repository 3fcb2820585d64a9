-- What a run has room for: the cost of an event, and the limits that it may pass, in their order.
use Rattle.std.specs.Prelude.{◌+◌, ◌-◌, if◌then◌else◌, nat_lt, nat_le, ℕ, Bool, Option, unwrap_or, Result, Ok, Err}
use Rattle.rt_base.specs.declared.limits.TheConstants.{LONGEST_MESSAGE, MOST_EVENTS, MOST_SENT, MOST_QUERIES, MOST_STORED, LAST_MOMENT}
use Rattle.rt_events.specs.declared.refusal.Refusal.{Refusal}
use Rattle.rt_events.specs.declared.refusal.Refusal.TheVariants.{Limit}
use Rattle.rt_state.specs.declared.cost.Cost.{Cost}
use Rattle.rt_state.specs.declared.counts.Counts.{Counts}
use Rattle.rt_state.specs.declared.state.State.{State}
use Rattle.rt_base.specs.declared.which.Which.TheVariants as which

-- a test, and the refusal where it isn't met
abbrev pub only_if : {X : Type 0} → Bool → Refusal → Result X Refusal → Result X Refusal
only_if b e rest = if b then rest else Err e

-- whether what is looked for was found
abbrev pub Found : Type 0
Found = Result (Unit {0}) Refusal

-- what an event that can happen costs, or why it can't
abbrev pub Due : Type 0
Due = Result Cost Refusal

abbrev pub then_due : {X : Type 0} → Found → Result X Refusal → Result X Refusal
then_due (Ok u) rest = rest
then_due (Err e) rest = Err e

-- ---- costs

abbrev pub no_cost : Cost
no_cost = record { message = 0; uploads = 0; queries = 0; stored = 0; millis = 0 }

abbrev pub message_cost : ℕ → Cost
message_cost bytes = record no_cost { message = bytes }

abbrev pub upload_cost : ℕ → Cost
upload_cost bytes = record no_cost { uploads = bytes }

abbrev pub query_cost : Cost
query_cost = record no_cost { queries = 1 }

abbrev pub set_cost : Option ℕ → Cost
set_cost entries = record no_cost { stored = unwrap_or entries 0 }

abbrev pub time_cost : ℕ → Cost
time_cost millis = record no_cost { millis = millis }

-- ---- the limits

-- the cost of an event for which there is room; else the first limit that it would pass
abbrev pub priced : State → Cost → Due
priced w c =
    only_if (nat_le c.message LONGEST_MESSAGE) (Limit which.Message)
    (only_if (nat_lt w.counts.events MOST_EVENTS) (Limit which.Events)
    (only_if (nat_le (w.counts.uploads + c.uploads) MOST_SENT) (Limit which.Sent)
    (only_if (nat_le (w.counts.unanswered + c.queries) MOST_QUERIES) (Limit which.Queries)
    (only_if (nat_le (w.counts.stored + c.stored) MOST_STORED) (Limit which.Stored)
    (only_if (nat_le (w.moment.0 + c.millis) LAST_MOMENT) (Limit which.Moment)
    (Ok c))))))

-- ---- what an event takes

-- one event more, with its uploads and queries
abbrev pub spent : Counts → Cost → Counts
spent k c = record k { events = k.events + 1; uploads = k.uploads + c.uploads; unanswered = k.unanswered + c.queries }

-- the entries of the ideal state that a step set, where the history has grown by it
abbrev pub with_set : Counts → Cost → ℕ → ℕ → Counts
with_set k c before now = if nat_lt before now then record k { stored = k.stored + c.stored } else k

abbrev pub with_query_closed : Counts → Counts
with_query_closed k = record k { unanswered = k.unanswered - 1 }

-- the event counts
abbrev pub counted : State → Cost → State
counted w c = record w { counts = spent w.counts c }

-- whether an event can happen, and not what it costs
abbrev pub dropped : Due → Found
dropped (Ok cost) = Ok tt
dropped (Err e) = Err e
