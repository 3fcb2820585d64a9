-- For what an event is refused at most.
use Rattle.std.proofs.Common.{◌≡◌, ◌+◌, Bool, true, false, Result, Ok, Err, nat_le, nat_lt, refl, sym, ◌∙◌, subst, true≢false}
use Rattle.rt_base.specs.declared.limits.TheConstants.{LAST_MOMENT, LONGEST_MESSAGE, MOST_EVENTS, MOST_QUERIES, MOST_SENT, MOST_STORED}
use Rattle.rt_base.specs.declared.which.Which.TheVariants as which
use Rattle.rt_events.specs.declared.refusal.Refusal.{Refusal}
use Rattle.rt_events.specs.declared.refusal.Refusal.TheVariants.{NoSuchMessage, NoSuchNode, NodeDown, NothingToDo, Limit, Memory}
use Rattle.rt_state.specs.Room.{Due, Found, dropped, only_if, priced, then_due}
use Rattle.rt_state.specs.declared.cost.Cost.{Cost}
use Rattle.rt_state.specs.declared.state.State.{State}
use Rattle.rt_unrefused.specs.Refused.{IsLimit}

abbrev pub refused : {X : Type 0} → Refusal → Result X Refusal
refused e = Err e

abbrev pub given : {X : Type 0} → X → Result X Refusal
given x = Ok x

pub same_refusal : {X : Type 0} (a b : Refusal) → refused {X = X} a ≡ refused b → a ≡ b
same_refusal a b e = cc

pub not_given : {X : Type 0} (x : X) (e : Refusal) → given x ≡ refused e → ⊥
not_given x e h = cc

-- a limit, or that there is nothing to do
abbrev pub IsQuiet : Refusal → Type 0
IsQuiet (Limit which) = Unit {0}
IsQuiet NothingToDo = Unit {0}
IsQuiet NoSuchMessage = ⊥
IsQuiet NoSuchNode = ⊥
IsQuiet NodeDown = ⊥
IsQuiet Memory = ⊥

pub limit_quiet : (e : Refusal) → IsLimit e → IsQuiet e
limit_quiet (Limit which) k = tt
limit_quiet NothingToDo k = absurd k
limit_quiet NoSuchMessage k = absurd k
limit_quiet NoSuchNode k = absurd k
limit_quiet NodeDown k = absurd k
limit_quiet Memory k = absurd k

-- what is found is refused so at most
abbrev pub Only : {X : Type 0} → (Refusal → Type 0) → Result X Refusal → Type 0
Only {X} L found = (e : Refusal) → found ≡ refused e → L e

pub only_given : {X : Type 0} (L : Refusal → Type 0) (x : X) → Only L (given x)
only_given L x e h = absurd (not_given x e h)

pub only_refused : {X : Type 0} (L : Refusal → Type 0) (e : Refusal) → L e → Only L (refused {X = X} e)
only_refused {X} L e k f same = subst L (same_refusal {X = X} e f same) k

-- a test, where what is refused for it is allowed or the test is met
pub only_test : {X : Type 0} (L : Refusal → Type 0) (b : Bool) (e : Refusal) (rest : Result X Refusal) → (b ≡ false → L e) → Only L rest
    → Only L (only_if b e rest)
only_test L true e rest f g = g
only_test L false e rest f g = only_refused L e (f refl)

pub only_met : {X : Type 0} (L : Refusal → Type 0) (b : Bool) (e : Refusal) (rest : Result X Refusal) → b ≡ true → Only L rest → Only L (only_if b e rest)
only_met L b e rest met g = only_test L b e rest (λ no. absurd (true≢false (sym met ∙ no))) g

pub only_then : (L : Refusal → Type 0) (found : Found) (due : Due) → found ≡ given tt → Only L due → Only L (then_due found due)
only_then L (Ok u) due is g = g
only_then L (Err e) due is g = absurd (not_given tt e (sym is))

pub only_dropped : (L : Refusal → Type 0) (due : Due) → Only L due → Only L (dropped due)
only_dropped L (Ok cost) g = only_given L tt
only_dropped L (Err e) g = only_refused L e (g e refl)

pub only_priced : (w : State) (c : Cost) → Only IsLimit (priced w c)
only_priced w c = by_message
  where
    moment : Due
    moment = only_if (nat_le (w.moment.0 + c.millis) LAST_MOMENT) (Limit which.Moment) (given c)

    stored : Due
    stored = only_if (nat_le (w.counts.stored + c.stored) MOST_STORED) (Limit which.Stored) moment

    queries : Due
    queries = only_if (nat_le (w.counts.unanswered + c.queries) MOST_QUERIES) (Limit which.Queries) stored

    uploads : Due
    uploads = only_if (nat_le (w.counts.uploads + c.uploads) MOST_SENT) (Limit which.Sent) queries

    events : Due
    events = only_if (nat_lt w.counts.events MOST_EVENTS) (Limit which.Events) uploads

    by_moment : Only IsLimit moment
    by_moment = only_test IsLimit (nat_le (w.moment.0 + c.millis) LAST_MOMENT) (Limit which.Moment) (given c) (λ no. tt) (only_given IsLimit c)

    by_stored : Only IsLimit stored
    by_stored = only_test IsLimit (nat_le (w.counts.stored + c.stored) MOST_STORED) (Limit which.Stored) moment (λ no. tt) by_moment

    by_queries : Only IsLimit queries
    by_queries = only_test IsLimit (nat_le (w.counts.unanswered + c.queries) MOST_QUERIES) (Limit which.Queries) stored (λ no. tt) by_stored

    by_uploads : Only IsLimit uploads
    by_uploads = only_test IsLimit (nat_le (w.counts.uploads + c.uploads) MOST_SENT) (Limit which.Sent) queries (λ no. tt) by_queries

    by_events : Only IsLimit events
    by_events = only_test IsLimit (nat_lt w.counts.events MOST_EVENTS) (Limit which.Events) uploads (λ no. tt) by_uploads

    by_message : Only IsLimit (priced w c)
    by_message = only_test IsLimit (nat_le c.message LONGEST_MESSAGE) (Limit which.Message) events (λ no. tt) by_events

pub quiet_priced : (w : State) (c : Cost) → Only IsQuiet (priced w c)
quiet_priced w c e h = limit_quiet e (only_priced w c e h)
