-- What is true of a world stays true of those to which several things lead, where each event keeps it.
use Rattle.std.proofs.Common.{◌≡◌, ◌+◌, ℕ, zero, suc, Bool, true, false, List, [], ◌∷◌, Result, Ok, Err, sym, subst}
use Rattle.rt_events.specs.declared.event.Event.{Event}
use Rattle.rt_events.specs.declared.outcome.Outcome.{Outcome}
use Rattle.rt_events.specs.declared.refusal.Refusal.{Refusal}
use Rattle.rt_events.specs.declared.refusal.Refusal.TheVariants.{Limit, Memory, NoSuchMessage, NoSuchNode, NodeDown, NothingToDo}
use Rattle.rt_macros.specs.Doing.{Act, Attempted, AttemptedBy, Choose, Coming, Each, EachFrom, Further, Gives, Happens, HappensBy, Passed, Reached, Then, Tries, stays}
use Rattle.rt_state.specs.declared.state.State.{State}
use Rattle.rt_world.specs.Step.{Steps}

-- wherever something leads from a world of which this is true, it is true there
abbrev pub Keeps : (State → Type 0) → {A : Type 0} → Act A → Type 0
Keeps P {A = A} act = (w : State) (v : Reached) (r : Result A Refusal) → P w → act w v r → P v.world

pub stay_keeps : (P : State → Type 0) (w : State) (v : Reached) → P w → v ≡ stays w → P v.world
stay_keeps P w v k e = subst (λ (x : Reached). P x.world) (sym e) k

pub happens_keeps : (P : State → Type 0) (e : Event) → ((w v : State) (o : Outcome) → P w → Steps w e v (Ok o) → P v) → Keeps P (Happens e)
happens_keeps P e f w v r k h = by_told r h.by
  where
    by_told : (told : Result Outcome Refusal) → HappensBy e w v told → P v.world
    by_told (Ok o) (steps, is) = f w v.world o k steps
    by_told (Err refusal) (due, is) = stay_keeps P w v k is

pub then_keeps : {A B : Type 0} (P : State → Type 0) (first : Act A) (behind : A → Act B) → Keeps P first → ((x : A) → Keeps P (behind x)) → Keeps P (Then first behind)
then_keeps {A} {B} P first behind f g w v r k t =
    subst (λ (x : Reached). P x.world) (sym t.whole) (by_told t.told (f w t.between t.told k t.came) t.further)
  where
    by_told : (told : Result A Refusal) → P t.between.world → Further behind t.between.world t.last told r → P t.last.world
    by_told (Ok x) here h = g x t.between.world t.last r here h
    by_told (Err refusal) here h = stay_keeps P t.between.world t.last here h.0

pub each_keeps : {A S : Type 0} (P : State → Type 0) (act : A → S → Act S) (xs : List A) (noted : S) → ((x : A) (s : S) → Keeps P (act x s)) → Keeps P (Each act xs noted)
each_keeps P act [] noted f w v r k h = stay_keeps P w v k h.0
each_keeps P act (x ∷ xs) noted f w v r k h =
    then_keeps P (act x noted) (Each act xs) (f x noted) (λ s. each_keeps P act xs s f) w v r k h

pub each_from_keeps : {S : Type 0} (P : State → Type 0) (act : ℕ → S → Act S) (first count : ℕ) (noted : S) → ((n : ℕ) (s : S) → Keeps P (act n s))
    → Keeps P (EachFrom act first count noted)
each_from_keeps P act first zero noted f w v r k h = stay_keeps P w v k h.0
each_from_keeps P act first (suc count) noted f w v r k h =
    then_keeps P (act first noted) (EachFrom act (first + 1) count) (f first noted) (λ s. each_from_keeps P act (first + 1) count s f) w v r k h

pub passed_keeps : (P : State → Type 0) (e : Event) → ((w v : State) (o : Outcome) → P w → Steps w e v (Ok o) → P v) → Keeps P (Passed e)
passed_keeps P e f = then_keeps P (Happens e) (λ o. Gives tt) (happens_keeps P e f) (λ o w v r k h. stay_keeps P w v k h.0)

-- the one or the other
pub choose_keeps : {A : Type 0} (P : State → Type 0) (w : State) (b : Bool) (act other : Coming A) → ((v : Reached) (r : Result A Refusal) → act v r → P v.world)
    → ((v : Reached) (r : Result A Refusal) → other v r → P v.world) → (v : Reached) (r : Result A Refusal) → Choose b act other v r → P v.world
choose_keeps P w true act other f g v r h = f v r h
choose_keeps P w false act other f g v r h = g v r h

pub tries_keeps : {A B : Type 0} (P : State → Type 0) (first : Act A) (behind : Result A Refusal → Act B) → Keeps P first
    → ((told : Result A Refusal) → Keeps P (behind told)) → Keeps P (Tries first behind)
tries_keeps P first behind f g w v r k t =
    subst (λ (x : Reached). P x.world) (sym t.whole) (g t.told t.between.world t.last r (f w t.between t.told k t.came) t.further)

attempt_keeps : (P : State → Type 0) (busy : Bool) (told : Result Outcome Refusal) → Keeps P (AttemptedBy busy told)
attempt_keeps P busy (Ok outcome) w v r k h = stay_keeps P w v k h.0
attempt_keeps P busy (Err NothingToDo) w v r k h = stay_keeps P w v k h.0
attempt_keeps P busy (Err NoSuchMessage) w v r k h = stay_keeps P w v k h.0
attempt_keeps P busy (Err NoSuchNode) w v r k h = stay_keeps P w v k h.0
attempt_keeps P busy (Err NodeDown) w v r k h = stay_keeps P w v k h.0
attempt_keeps P busy (Err (Limit which)) w v r k h = stay_keeps P w v k h.0
attempt_keeps P busy (Err Memory) w v r k h = stay_keeps P w v k h.0

pub attempted_keeps : (P : State → Type 0) (e : Event) (busy : Bool) → ((w v : State) (o : Outcome) → P w → Steps w e v (Ok o) → P v) → Keeps P (Attempted e busy)
attempted_keeps P e busy f = tries_keeps P (Happens e) (AttemptedBy busy) (happens_keeps P e f) (λ told. attempt_keeps P busy told)
