-- Nothing that is put together of events is refused by the limit of the input.
use Rattle.std.proofs.Common.{◌≡◌, ◌+◌, ℕ, zero, suc, Bool, true, false, List, [], ◌∷◌, Result, Ok, Err, ap, sym, subst}
use Rattle.rt_base.specs.declared.which.Which.TheVariants.{Events, Input}
use Rattle.rt_desk.proofs.DueLimits.{due_never, pass_due_never}
use Rattle.rt_events.specs.declared.event.Event.{Event}
use Rattle.rt_events.specs.declared.outcome.Outcome.{Outcome}
use Rattle.rt_events.specs.declared.refusal.Refusal.{Refusal}
use Rattle.rt_events.specs.declared.refusal.Refusal.TheVariants.{NoSuchMessage, NoSuchNode, NodeDown, NothingToDo, Limit, Memory}
use Rattle.rt_macros.specs.Doing.{Act, Attempted, AttemptedBy, Choose, Coming, Each, EachFrom, Further, Gives, Happens, Passed, PassesOver, Reached, Refuses, Then, Tries}
use Rattle.rt_state.specs.declared.state.State.{State}

-- this isn't refused so
abbrev pub Never : {A : Type 0} → Coming A → Type 0
Never act = (v : Reached) → act v (Err (Limit Input)) → ⊥

-- a refusal that isn't this one
abbrev pub IsOther : Refusal → Type 0
IsOther refusal = refusal ≡ Limit Input → ⊥

abbrev pub refused : {A : Type 0} → Refusal → Result A Refusal
refused refusal = Err refusal

abbrev answered : {A : Type 0} → A → Result A Refusal
answered x = Ok x

pub same_refusal : {A : Type 0} (a b : Refusal) → refused {A = A} a ≡ refused b → b ≡ a
same_refusal a b e = cc

not_told : {A : Type 0} (x : A) (refusal : Refusal) → refused refusal ≡ answered x → ⊥
not_told x refusal e = cc

pub no_message_other : IsOther NoSuchMessage
no_message_other e = cc

pub no_node_other : IsOther NoSuchNode
no_node_other e = cc

pub down_other : IsOther NodeDown
down_other e = cc

pub nothing_other : IsOther NothingToDo
nothing_other e = cc

pub memory_other : IsOther Memory
memory_other e = cc

pub events_other : IsOther (Limit Events)
events_other e = cc

-- ---- what is found

-- it isn't refused so
abbrev pub Unlimited : {A : Type 0} → Result A Refusal → Type 0
Unlimited found = found ≡ Err (Limit Input) → ⊥

pub found_so : {A : Type 0} (x : A) → Unlimited (answered x)
found_so x e = not_told x (Limit Input) (sym e)

pub refused_so : {A : Type 0} (refusal : Refusal) → IsOther refusal → Unlimited {A = A} (refused refusal)
refused_so refusal other e = other (sym (same_refusal refusal (Limit Input) e))

pub is_other : {A : Type 0} (refusal : Refusal) → Unlimited {A = A} (refused refusal) → IsOther refusal
is_other {A} refusal f e = f (ap (refused {A = A}) e)

-- ---- one thing

pub gives_never : {A : Type 0} (x : A) (w : State) → Never (Gives x w)
gives_never x w v h = not_told x (Limit Input) h.1

pub refuses_never : {A : Type 0} (refusal : Refusal) (w : State) → IsOther refusal → Never {A = A} (Refuses refusal w)
refuses_never refusal w other v h = other (same_refusal (Limit Input) refusal h.1)

pub event_never : (event : Event) (w : State) → Never (Happens event w)
event_never event w v came = due_never w event came.by.0

pub passes_never : (w : State) → Never (PassesOver w)
passes_never w v came = pass_due_never w came.by.0

-- ---- several things

pub choose_never : {A : Type 0} (b : Bool) (act other : Coming A) → Never act → Never other → Never (Choose b act other)
choose_never true act other f g v h = f v h
choose_never false act other f g v h = g v h

pub then_never : {A B : Type 0} (first : Act A) (behind : A → Act B) (w : State) → Never (first w) → ((x : A) (u : State) → Never (behind x u)) → Never (Then first behind w)
then_never {A} {B} first behind w f g v t = by_told t.told t.came t.further
  where
    by_told : (told : Result A Refusal) → first w t.between told → Further behind t.between.world t.last told (Err (Limit Input)) → ⊥
    by_told (Ok x) came further = g x t.between.world t.last further
    by_told (Err refusal) came h = f t.between (subst (λ r. first w t.between (Err r)) (same_refusal (Limit Input) refusal h.1) came)

pub tries_never : {A B : Type 0} (first : Act A) (behind : Result A Refusal → Act B) (w : State)
    → ((told : Result A Refusal) (u : Reached) → first w u told → Never (behind told u.world)) → Never (Tries first behind w)
tries_never first behind w g v t = g t.told t.between t.came t.last t.further

pub passed_never : (event : Event) (w : State) → Never (Passed event w)
passed_never event w = then_never (Happens event) (λ outcome. Gives tt) w (event_never event w) (λ x u. gives_never tt u)

pub limit_other : {A : Type 0} (refusal : Refusal) (act : Act A) (w : State) (u : Reached) → Never (act w) → act w u (Err refusal) → IsOther refusal
limit_other refusal act w u f came e = f u (subst (λ r. act w u (Err r)) e came)

pub attempted_never : (event : Event) (busy : Bool) (w : State) → Never (Attempted event busy w)
attempted_never event busy w = tries_never (Happens event) (AttemptedBy busy) w by_told
  where
    by_told : (told : Result Outcome Refusal) (u : Reached) → Happens event w u told → Never (AttemptedBy busy told u.world)
    by_told (Ok outcome) u came = gives_never true u.world
    by_told (Err NothingToDo) u came = gives_never busy u.world
    by_told (Err NoSuchMessage) u came = refuses_never NoSuchMessage u.world no_message_other
    by_told (Err NoSuchNode) u came = refuses_never NoSuchNode u.world no_node_other
    by_told (Err NodeDown) u came = refuses_never NodeDown u.world down_other
    by_told (Err (Limit which)) u came = refuses_never (Limit which) u.world (limit_other (Limit which) (Happens event) w u (event_never event w) came)
    by_told (Err Memory) u came = refuses_never Memory u.world memory_other

pub each_never : {A S : Type 0} (act : A → S → Act S) (xs : List A) (noted : S) (w : State) → ((x : A) (s : S) (u : State) → Never (act x s u)) → Never (Each act xs noted w)
each_never act [] noted w f = gives_never noted w
each_never act (x ∷ xs) noted w f = then_never (act x noted) (Each act xs) w (f x noted w) (λ s u. each_never act xs s u f)

pub each_from_never : {S : Type 0} (act : ℕ → S → Act S) (first count : ℕ) (noted : S) (w : State) → ((n : ℕ) (s : S) (u : State) → Never (act n s u)) → Never (EachFrom act first count noted w)
each_from_never act first zero noted w f = gives_never noted w
each_from_never act first (suc count) noted w f = then_never (act first noted) (EachFrom act (first + 1) count) w (f first noted w) (λ s u. each_from_never act (first + 1) count s u f)
