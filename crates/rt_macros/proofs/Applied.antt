-- An event of a world, as what comes of one thing.
use Rattle.std.proofs.Common.{◌≡◌, ℕ, Bool, true, false, List, [], ◌∷◌, Result, Ok, Err, refl, ap, ◌∙◌}
use Rattle.rt_base.specs.declared.numbers.Offset.{Offset}
use Rattle.rt_base.specs.declared.numbers.Partition.{Partition}
use Rattle.rt_events.specs.Fits.{Fits}
use Rattle.rt_events.specs.declared.event.Event.{Event}
use Rattle.rt_events.specs.declared.outcome.Outcome.{Outcome}
use Rattle.rt_events.specs.declared.outcome.Outcome.TheVariants as told
use Rattle.rt_events.specs.declared.refusal.Refusal.{Refusal}
use Rattle.rt_events.specs.declared.refusal.Refusal.TheVariants.{NoSuchMessage, NoSuchNode, NodeDown, NothingToDo, Limit, Memory}
use Rattle.rt_events.specs.declared.event.Event.TheVariants.{Produce}
use Rattle.rt_macros.specs.Doing.{Comes, Does, Gives, Happens, HappensBy, Passed, PassesBy, PassesOver, stays}
use Rattle.rt_macros.proofs.Doing.{does_refused, does_told}
use Rattle.rt_state.specs.Stream.{offset_told}
use Rattle.rt_world.specs.Kept.{Kept}
use Rattle.rt_safety.specs.Runs.{happens, passes}
use Rattle.rt_world.specs.Step.{PassesKept, StepsKept}

never_both : (spent : Bool) → spent ≡ true → spent ≡ false → ⊥
never_both spent is isnt = cc

-- ---- an event

-- one that is refused for this leaves the world as it was
event_refused : (old new : Kept) (event : Event) (refusal : Refusal) → HappensBy event old.state (stays new.state) (Err refusal) → new ≡ old
    → Comes (Happens event old.state) old.state new.state (Err refusal)
event_refused old new event refusal by same = record { turns = []; came = record { by = by }; led = ap (λ k. k.state) same }

pub event_happens : (old new : Kept) (event : Event) (result : Result Outcome Refusal) → Fits old.state.setup.schema event → StepsKept old event new result
    → Does (Happens event) old.state new result
event_happens old new event (Ok outcome) fits came =
    (came.1, record { turns = happens event outcome ∷ []; came = record { by = (came.2, refl) }; led = (new.state, (fits, came.2), refl) })
event_happens old new event (Err Memory) fits came = λ unspent. absurd (never_both new.spent came unspent)
event_happens old new event (Err NoSuchMessage) fits came =
    (ap (λ k. k.spent) came.2 ∙ came.0, event_refused old new event NoSuchMessage (came.1, ap (λ k. stays k.state) came.2) came.2)
event_happens old new event (Err NoSuchNode) fits came =
    (ap (λ k. k.spent) came.2 ∙ came.0, event_refused old new event NoSuchNode (came.1, ap (λ k. stays k.state) came.2) came.2)
event_happens old new event (Err NodeDown) fits came =
    (ap (λ k. k.spent) came.2 ∙ came.0, event_refused old new event NodeDown (came.1, ap (λ k. stays k.state) came.2) came.2)
event_happens old new event (Err NothingToDo) fits came =
    (ap (λ k. k.spent) came.2 ∙ came.0, event_refused old new event NothingToDo (came.1, ap (λ k. stays k.state) came.2) came.2)
event_happens old new event (Err (Limit which)) fits came =
    (ap (λ k. k.spent) came.2 ∙ came.0, event_refused old new event (Limit which) (came.1, ap (λ k. stays k.state) came.2) came.2)

-- a message that came
pub message_comes : (old new : Kept) (partition : Partition) (message : List ℕ) (offset : Offset) → StepsKept old (Produce partition message) new (offset_told (Ok offset))
    → Does (Passed (Produce partition message)) old.state new (Ok tt)
message_comes old new partition message offset came =
    does_told (Happens (Produce partition message)) (λ outcome. tt) old.state new (told.Produced offset)
    (event_happens old new (Produce partition message) (offset_told (Ok offset)) tt came)

-- one that didn't
pub message_refused : (old new : Kept) (partition : Partition) (message : List ℕ) (refusal : Refusal) → StepsKept old (Produce partition message) new (offset_told (Err refusal))
    → Does (Passed (Produce partition message)) old.state new (Err refusal)
message_refused old new partition message refusal came =
    does_refused (Happens (Produce partition message)) (λ outcome. Gives tt) old.state new refusal
    (event_happens old new (Produce partition message) (offset_told (Err refusal)) tt came)

-- ---- a line that is no event

line_refused : (old new : Kept) (refusal : Refusal) → PassesBy old.state (stays new.state) (Err refusal) → new ≡ old
    → Comes (PassesOver old.state) old.state new.state (Err refusal)
line_refused old new refusal by same = record { turns = []; came = record { by = by }; led = ap (λ k. k.state) same }

pub line_passes : (old new : Kept) (result : Result (Unit {0}) Refusal) → PassesKept old new result → Does PassesOver old.state new result
line_passes old new (Ok done) came = (came.1, record { turns = passes ∷ []; came = record { by = (came.2, refl) }; led = (new.state, came.2, refl) })
line_passes old new (Err Memory) came = λ unspent. absurd (never_both new.spent (ap (λ k. k.spent) came.1 ∙ came.0) unspent)
line_passes old new (Err NoSuchMessage) came =
    (ap (λ k. k.spent) came.2 ∙ came.0, line_refused old new NoSuchMessage (came.1, ap (λ k. stays k.state) came.2) came.2)
line_passes old new (Err NoSuchNode) came =
    (ap (λ k. k.spent) came.2 ∙ came.0, line_refused old new NoSuchNode (came.1, ap (λ k. stays k.state) came.2) came.2)
line_passes old new (Err NodeDown) came =
    (ap (λ k. k.spent) came.2 ∙ came.0, line_refused old new NodeDown (came.1, ap (λ k. stays k.state) came.2) came.2)
line_passes old new (Err NothingToDo) came =
    (ap (λ k. k.spent) came.2 ∙ came.0, line_refused old new NothingToDo (came.1, ap (λ k. stays k.state) came.2) came.2)
line_passes old new (Err (Limit which)) came =
    (ap (λ k. k.spent) came.2 ∙ came.0, line_refused old new (Limit which) (came.1, ap (λ k. stays k.state) came.2) came.2)
