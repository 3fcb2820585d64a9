-- What is known of a state where an event is found to be possible.
use Rattle.std.proofs.Common.{◌≡◌, ◌+◌, ◌<◌, ◌≤◌, Bool, true, false, nat_lt, nat_le, Result, Ok, Err, refl, sym, subst}
use Rattle.std.proofs.lemmas.Bool.{ltb-true, leb-true}
use Rattle.rt_base.specs.declared.limits.TheConstants.{LONGEST_MESSAGE, MOST_EVENTS, MOST_SENT, MOST_QUERIES, MOST_STORED, LAST_MOMENT}
use Rattle.rt_base.specs.declared.which.Which.TheVariants as which
use Rattle.rt_events.specs.declared.refusal.Refusal.{Refusal}
use Rattle.rt_events.specs.declared.refusal.Refusal.TheVariants.{Limit}
use Rattle.rt_state.specs.Room.{only_if, Found, Due, then_due, priced}
use Rattle.rt_state.specs.Tests.{Tests, met}
use Rattle.rt_state.specs.Tests as test
use Rattle.rt_state.specs.declared.cost.Cost.{Cost}
use Rattle.rt_state.specs.declared.state.State.{State}

abbrev pub came : {X : Type 0} → X → Result X Refusal
came x = Ok x

-- a test was passed
pub only_passed : {X : Type 0} (b : Bool) (e : Refusal) (rest : Result X Refusal) (x : X) → only_if b e rest ≡ came x → (b ≡ true) × (rest ≡ came x)
only_passed true e rest x h = (refl, h)
only_passed false e rest x h = absurd (cc)

pub then_passed : (found : Found) (due : Due) (cost : Cost) → then_due found due ≡ came cost → (found ≡ came tt) × (due ≡ came cost)
then_passed (Ok u) due cost h = (refl, h)
then_passed (Err e) due cost h = absurd (cc)

-- ---- what comes behind tests

abbrev pub IsLimit : Refusal → Type 0
IsLimit (Limit which) = Unit {0}
IsLimit e = ⊥

-- a cost, or a limit
abbrev pub IsPrice : {X : Type 0} → Result X Refusal → Type 0
IsPrice (Ok x) = Unit {0}
IsPrice (Err e) = IsLimit e

abbrev reached : Found
reached = Ok tt

not_reached : (e : Refusal) → reached ≡ Err e → ⊥
not_reached e h = cc

-- no test refuses by a limit
pub met_price : {X : Type 0} (t : Tests) (rest price : Result X Refusal) → IsPrice price → met t rest ≡ price → rest ≡ price
met_price test.none rest price is h = h
met_price (test.there true more) rest price is h = met_price more rest price is h
met_price (test.there false more) rest price is h = absurd (subst IsPrice (sym h) is)
met_price (test.known true more) rest price is h = met_price more rest price is h
met_price (test.known false more) rest price is h = absurd (subst IsPrice (sym h) is)
met_price (test.up true more) rest price is h = met_price more rest price is h
met_price (test.up false more) rest price is h = absurd (subst IsPrice (sym h) is)
met_price (test.due true more) rest price is h = met_price more rest price is h
met_price (test.due false more) rest price is h = absurd (subst IsPrice (sym h) is)
met_price (test.behind first more) rest price is h =
    by_first (met first reached) refl h (λ k. met_price more rest price is k) (λ f limit e. met_price first reached (Err f) limit e)
  where
    by_first : (found : Found) → met first reached ≡ found → then_due found (met more rest) ≡ price → (met more rest ≡ price → rest ≡ price)
        → ((f : Refusal) → IsLimit f → met first reached ≡ Err f → reached ≡ Err f) → rest ≡ price
    by_first (Ok u) e k behind never = behind k
    by_first (Err f) e k behind never = absurd (not_reached f (never f (subst IsPrice (sym k) is) e))

-- there is room for what an event costs
pub record HasRoom (w : State) (c : Cost) : Type 0 where
  pub message : c.message ≤ LONGEST_MESSAGE
  pub events : w.counts.events < MOST_EVENTS
  pub sent : w.counts.uploads + c.uploads ≤ MOST_SENT
  pub queries : w.counts.unanswered + c.queries ≤ MOST_QUERIES
  pub stored : w.counts.stored + c.stored ≤ MOST_STORED
  pub moment : w.moment.0 + c.millis ≤ LAST_MOMENT

same_cost : (c d : Cost) → came c ≡ came d → c ≡ d
same_cost c d e = cc

pub priced_room : (w : State) (c cost : Cost) → priced w c ≡ came cost → (c ≡ cost) × HasRoom w c
priced_room w c cost h =
    let message = only_passed (nat_le c.message LONGEST_MESSAGE) (Limit which.Message) _ cost h in
    let events = only_passed (nat_lt w.counts.events MOST_EVENTS) (Limit which.Events) _ cost message.1 in
    let sent = only_passed (nat_le (w.counts.uploads + c.uploads) MOST_SENT) (Limit which.Sent) _ cost events.1 in
    let queries = only_passed (nat_le (w.counts.unanswered + c.queries) MOST_QUERIES) (Limit which.Queries) _ cost sent.1 in
    let stored = only_passed (nat_le (w.counts.stored + c.stored) MOST_STORED) (Limit which.Stored) _ cost queries.1 in
    let moment = only_passed (nat_le (w.moment.0 + c.millis) LAST_MOMENT) (Limit which.Moment) _ cost stored.1 in (
      same_cost c cost moment.1,
      record {
        message = leb-true c.message LONGEST_MESSAGE message.0;
        events = ltb-true w.counts.events MOST_EVENTS events.0;
        sent = leb-true (w.counts.uploads + c.uploads) MOST_SENT sent.0;
        queries = leb-true (w.counts.unanswered + c.queries) MOST_QUERIES queries.0;
        stored = leb-true (w.counts.stored + c.stored) MOST_STORED stored.0;
        moment = leb-true (w.moment.0 + c.millis) LAST_MOMENT moment.0;
      },
    )
