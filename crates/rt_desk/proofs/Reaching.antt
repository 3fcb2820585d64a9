-- What is put together of events is reached by its turns, each of which is allowed where each of its events is.
use Rattle.std.proofs.Common.{◌≡◌, ◌+◌, ℕ, zero, suc, Bool, true, false, List, [], ◌∷◌, ◌++◌, Result, Ok, Err, refl, sym, subst}
use Rattle.rt_desk.specs.Paused.{Allowed, LeadsBy}
use Rattle.rt_events.specs.Fits.{Fits}
use Rattle.rt_events.specs.declared.event.Event.{Event}
use Rattle.rt_events.specs.declared.event.Event.TheVariants.{Ask, Consume, Produce}
use Rattle.rt_events.specs.declared.outcome.Outcome.{Outcome}
use Rattle.rt_events.specs.declared.refusal.Refusal.{Refusal}
use Rattle.rt_events.specs.declared.refusal.Refusal.TheVariants.{NoSuchMessage, NoSuchNode, NodeDown, NothingToDo, Limit, Memory}
use Rattle.rt_macros.specs.Doing.{Act, Attempted, AttemptedBy, Choose, Coming, Each, EachFrom, Further, Gives, Happens, HappensBy, Passed, PassesBy, PassesOver, Reached, Refuses, Then, Tries, after, stays}
use Rattle.rt_safety.specs.Runs.{Turn, happens, passes, Leads}
use Rattle.rt_state.specs.declared.state.State.{State}

-- ---- what is allowed

-- an event that neither appends, asks nor consumes
abbrev pub IsCalm : Event → Type 0
IsCalm (Produce partition message) = ⊥
IsCalm (Ask query) = ⊥
IsCalm (Consume instance partition sequence max) = ⊥
IsCalm event = Unit {0}

-- turns that are allowed: a calm event always is, and so is a line that is no event
pub record Allowance : Type 1 where
  pub turn : State → Turn → Type 0
  pub calm : (w : State) (e : Event) (outcome : Outcome) → IsCalm e → turn w (happens e outcome)
  pub line : (w : State) → turn w passes

pub calm_begins : (paused : Bool) (w : State) (e : Event) (outcome : Outcome) → IsCalm e → Allowed paused w (happens e outcome)
calm_begins paused w (Consume i p q max) outcome calm = absurd calm
calm_begins paused w e outcome calm = λ on begins. begins

-- no replica of a paused run begins to consume
abbrev pub pausing : Bool → Allowance
pausing paused = record { turn = Allowed paused; calm = calm_begins paused; line = λ w on begins. begins }

-- wherever it ends, its turns lead there
abbrev pub Goes : {A : Type 0} → Allowance → State → Coming A → Type 0
Goes {A = A} k w act = (v : Reached) (r : Result A Refusal) → act v r → LeadsBy k.turn w v.turns v.world

-- an event that is allowed
abbrev pub MayCome : Allowance → State → Event → Type 0
MayCome k w event = (outcome : Outcome) → k.turn w (happens event outcome)

-- ---- turns

pub leads_by : (allowed : State → Turn → Type 0) (turns : List Turn) (w v : State) → LeadsBy allowed w turns v → Leads w turns v
leads_by allowed [] w v same = same
leads_by allowed (turn ∷ turns) w v (next, t, may, further) = (next, t, leads_by allowed turns next v further)

pub leads_then : (allowed : State → Turn → Type 0) (turns more : List Turn) (w u v : State) → LeadsBy allowed w turns u → LeadsBy allowed u more v
    → LeadsBy allowed w (turns ++ more) v
leads_then allowed [] more w u v same rest = subst (λ x. LeadsBy allowed x more v) same rest
leads_then allowed (turn ∷ turns) more w u v (next, t, may, further) rest = (next, t, may, leads_then allowed turns more next u v further rest)

pub stay_by : (k : Allowance) (w : State) (v : Reached) → v ≡ stays w → LeadsBy k.turn w v.turns v.world
stay_by k w v e = subst (λ (x : Reached). LeadsBy k.turn w x.turns x.world) (sym e) refl

-- by the turns of one thing, and then by those of what comes behind it
pub goes_then : (k : Allowance) (w : State) (between last v : Reached) → v ≡ after between.turns last → LeadsBy k.turn w between.turns between.world
    → LeadsBy k.turn between.world last.turns last.world → LeadsBy k.turn w v.turns v.world
goes_then k w between last v e first rest =
    subst (λ (x : Reached). LeadsBy k.turn w x.turns x.world) (sym e) (leads_then k.turn between.turns last.turns w between.world last.world first rest)

-- ---- one thing

pub gives_goes : {A : Type 0} (k : Allowance) (x : A) (w : State) → Goes k w (Gives x w)
gives_goes k x w v r h = stay_by k w v h.0

pub refuses_goes : {A : Type 0} (k : Allowance) (refusal : Refusal) (w : State) → Goes {A = A} k w (Refuses refusal w)
refuses_goes k refusal w v r h = stay_by k w v h.0

-- a turn that is taken
one_turn : (k : Allowance) (w : State) (turn : Turn) (v : Reached) → LeadsBy k.turn w (turn ∷ []) v.world → v.turns ≡ turn ∷ [] → LeadsBy k.turn w v.turns v.world
one_turn k w turn v led e = subst (λ (turns : List Turn). LeadsBy k.turn w turns v.world) (sym e) led

pub event_goes_so : (k : Allowance) (event : Event) (w : State) (v : Reached) (r : Result Outcome Refusal) → Fits w.setup.schema event
    → ((outcome : Outcome) → r ≡ Ok outcome → k.turn w (happens event outcome)) → Happens event w v r → LeadsBy k.turn w v.turns v.world
event_goes_so k event w v r fits may came = by_told r may came.by
  where
    by_told : (told : Result Outcome Refusal) → ((outcome : Outcome) → told ≡ Ok outcome → k.turn w (happens event outcome)) → HappensBy event w v told
        → LeadsBy k.turn w v.turns v.world
    by_told (Ok outcome) may (steps, e) = one_turn k w (happens event outcome) v (v.world, (fits, steps), may outcome refl, refl) e
    by_told (Err refusal) may (due, e) = stay_by k w v e

pub event_goes : (k : Allowance) (event : Event) (w : State) → Fits w.setup.schema event → MayCome k w event → Goes k w (Happens event w)
event_goes k event w fits may v r came = event_goes_so k event w v r fits (λ outcome e. may outcome) came

pub line_passes : (k : Allowance) (w : State) → Goes k w (PassesOver w)
line_passes k w v r came = by_told r came.by
  where
    by_told : (told : Result (Unit {0}) Refusal) → PassesBy w v told → LeadsBy k.turn w v.turns v.world
    by_told (Ok done) (steps, e) = one_turn k w passes v (v.world, steps, k.line w, refl) e
    by_told (Err refusal) (due, e) = stay_by k w v e

-- ---- several things

pub choose_goes : {A : Type 0} (k : Allowance) (b : Bool) (act other : Coming A) (w : State) → Goes k w act → Goes k w other → Goes k w (Choose b act other)
choose_goes k true act other w f g v r h = f v r h
choose_goes k false act other w f g v r h = g v r h

-- the test is known where its side is taken
pub choose_goes_if : {A : Type 0} (k : Allowance) (b : Bool) (act other : Coming A) (w : State) → (b ≡ true → Goes k w act) → Goes k w other
    → Goes k w (Choose b act other)
choose_goes_if k true act other w f g v r h = f refl v r h
choose_goes_if k false act other w f g v r h = g v r h

pub then_goes : {A B : Type 0} (k : Allowance) (first : Act A) (behind : A → Act B) (w : State) → Goes k w (first w) → ((x : A) (u : State) → Goes k u (behind x u))
    → Goes k w (Then first behind w)
then_goes {A} {B} k first behind w f g v r t = goes_then k w t.between t.last v t.whole (f t.between t.told t.came) (by_told t.told t.further)
  where
    by_told : (told : Result A Refusal) → Further behind t.between.world t.last told r → LeadsBy k.turn t.between.world t.last.turns t.last.world
    by_told (Ok x) further = g x t.between.world t.last r further
    by_told (Err refusal) h = refuses_goes {A = B} k refusal t.between.world t.last r h

pub tries_goes : {A B : Type 0} (k : Allowance) (first : Act A) (behind : Result A Refusal → Act B) (w : State) → Goes k w (first w)
    → ((told : Result A Refusal) (u : State) → Goes k u (behind told u)) → Goes k w (Tries first behind w)
tries_goes k first behind w f g v r t =
    goes_then k w t.between t.last v t.whole (f t.between t.told t.came) (g t.told t.between.world t.last r t.further)

pub passed_goes : (k : Allowance) (event : Event) (w : State) → Fits w.setup.schema event → MayCome k w event → Goes k w (Passed event w)
passed_goes k event w fits may = then_goes k (Happens event) (λ outcome. Gives tt) w (event_goes k event w fits may) (λ x u. gives_goes k tt u)

attempted_by_goes : (k : Allowance) (busy : Bool) (told : Result Outcome Refusal) (w : State) → Goes k w (AttemptedBy busy told w)
attempted_by_goes k busy (Ok outcome) w = gives_goes k true w
attempted_by_goes k busy (Err NothingToDo) w = gives_goes k busy w
attempted_by_goes k busy (Err NoSuchMessage) w = refuses_goes k NoSuchMessage w
attempted_by_goes k busy (Err NoSuchNode) w = refuses_goes k NoSuchNode w
attempted_by_goes k busy (Err NodeDown) w = refuses_goes k NodeDown w
attempted_by_goes k busy (Err (Limit which)) w = refuses_goes k (Limit which) w
attempted_by_goes k busy (Err Memory) w = refuses_goes k Memory w

pub attempted_goes : (k : Allowance) (event : Event) (busy : Bool) (w : State) → Fits w.setup.schema event → MayCome k w event → Goes k w (Attempted event busy w)
attempted_goes k event busy w fits may =
    tries_goes k (Happens event) (AttemptedBy busy) w (event_goes k event w fits may) (λ told u. attempted_by_goes k busy told u)

pub each_goes : {A S : Type 0} (k : Allowance) (act : A → S → Act S) (xs : List A) (noted : S) (w : State) → ((x : A) (s : S) (u : State) → Goes k u (act x s u))
    → Goes k w (Each act xs noted w)
each_goes k act [] noted w f = gives_goes k noted w
each_goes k act (x ∷ xs) noted w f = then_goes k (act x noted) (Each act xs) w (f x noted w) (λ s u. each_goes k act xs s u f)

pub each_from_goes : {S : Type 0} (k : Allowance) (act : ℕ → S → Act S) (first count : ℕ) (noted : S) (w : State) → ((n : ℕ) (s : S) (u : State) → Goes k u (act n s u))
    → Goes k w (EachFrom act first count noted w)
each_from_goes k act first zero noted w f = gives_goes k noted w
each_from_goes k act first (suc count) noted w f =
    then_goes k (act first noted) (EachFrom act (first + 1) count) w (f first noted w) (λ s u. each_from_goes k act (first + 1) count s u f)
