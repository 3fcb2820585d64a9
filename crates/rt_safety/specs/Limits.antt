-- Which limits of a run an event can pass, and when it passes one.
use Rattle.std.specs.Prelude.{◌+◌, ◌<◌, Bool, true, false}
use Rattle.rt_base.specs.declared.limits.TheConstants.{LAST_MOMENT, LONGEST_MESSAGE, MOST_EVENTS, MOST_QUERIES, MOST_SENT, MOST_STORED}
use Rattle.rt_base.specs.declared.which.Which.{Which}
use Rattle.rt_base.specs.declared.which.Which.TheVariants as which
use Rattle.rt_events.specs.declared.event.Event.{Event}
use Rattle.rt_events.specs.declared.event.Event.TheVariants as event
use Rattle.rt_state.specs.declared.cost.Cost.{Cost}
use Rattle.rt_state.specs.declared.state.State.{State}
pub use Rattle.rt_world.specs.Step.{cost_of}

-- a cost passes a limit: the count that there would be is past it
abbrev pub IsPassed : State → Cost → Which → Type 0
IsPassed w c which.Message = LONGEST_MESSAGE < c.message
IsPassed w c which.Events = MOST_EVENTS < w.counts.events + 1
IsPassed w c which.Sent = MOST_SENT < w.counts.uploads + c.uploads
IsPassed w c which.Queries = MOST_QUERIES < w.counts.unanswered + c.queries
IsPassed w c which.Stored = MOST_STORED < w.counts.stored + c.stored
IsPassed w c which.Moment = LAST_MOMENT < w.moment.0 + c.millis
IsPassed w c which.Input = ⊥
IsPassed w c which.Partitions = ⊥
IsPassed w c which.Servers = ⊥
IsPassed w c which.Controllers = ⊥
IsPassed w c which.Replication = ⊥
IsPassed w c which.Rows = ⊥

abbrev pub appends : Event → Bool
appends (event.Produce p message) = true
appends _ = false

abbrev pub reports : Event → Bool
reports (event.Report i p q) = true
reports _ = false

abbrev pub asks : Event → Bool
asks (event.Ask query) = true
asks _ = false

abbrev pub steps_upkeep : Event → Bool
steps_upkeep (event.Job c j) = true
steps_upkeep (event.Repair c p) = true
steps_upkeep (event.Retain c p) = true
steps_upkeep _ = false

abbrev pub ticks : Event → Bool
ticks (event.Tick millis) = true
ticks _ = false

-- the limits that an event can pass: that of events is each one's
abbrev pub can_pass : Event → Which → Bool
can_pass e which.Message = appends e
can_pass e which.Events = true
can_pass e which.Sent = reports e
can_pass e which.Queries = asks e
can_pass e which.Stored = steps_upkeep e
can_pass e which.Moment = ticks e
can_pass e which.Input = false
can_pass e which.Partitions = false
can_pass e which.Servers = false
can_pass e which.Controllers = false
can_pass e which.Replication = false
can_pass e which.Rows = false
