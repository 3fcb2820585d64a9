-- An event that happened, and turns for so many numbers, one after the other.
use Rattle.std.proofs.Common.{◌≡◌, ℕ, zero, suc, ◌+◌, Ok, sym, ◌∙◌, ap, subst, arith}
use Rattle.rt_events.specs.declared.event.Event.{Event}
use Rattle.rt_events.specs.declared.outcome.Outcome.{Outcome}
use Rattle.rt_macros.specs.Doing.{Act, EachFrom, Gives, Happens, Passed, Reached}
use Rattle.rt_state.specs.declared.state.State.{State}
use Rattle.rt_world.specs.Step.{Steps}
use Rattle.rt_heal.proofs.Quiet.{then_parts, told_same}

-- an event that happened
pub record HasPassed (e : Event) (w v : State) : Type 0 where
  pub outcome : Outcome
  pub steps : Steps w e v (Ok outcome)

pub passed : (e : Event) (w : State) (v : Reached) (done : Unit {0}) → Passed e w v (Ok done) → HasPassed e w v.world
passed e w v done h =
    let t = then_parts (Happens e) (λ outcome. Gives tt) w v done h in
    let end : v.world ≡ t.between.world = ap (λ (z : Reached). z.world) t.whole ∙ ap (λ (z : Reached). z.world) t.further.0 in
    record { outcome = t.told; steps = subst (λ (x : State). Steps w e x (Ok t.told)) (sym end) t.came.by.0 }

-- what each turn of a number takes on to the next one, with what is noted
pub from_notes : {S : Type 0} (act : ℕ → S → Act S) (I : ℕ → S → State → Type 0)
    → ((i : ℕ) (noted told : S) (w : State) (v : Reached) → I i noted w → act i noted w v (Ok told) → I (i + 1) told v.world)
    → (first count : ℕ) (noted told : S) (w : State) (v : Reached) → I first noted w → EachFrom act first count noted w v (Ok told)
    → I (first + count) told v.world
from_notes {S} act I step first zero noted told w v k h =
    let same : first ≡ first + 0 = omega arith in
    let own : noted ≡ told = sym (told_same told noted h.1) in
    subst (λ n. I n told v.world) same
    (subst (λ (x : S). I first x v.world) own (subst (I first noted) (sym (ap (λ (z : Reached). z.world) h.0)) k))
from_notes act I step first (suc count) noted told w v k h =
    let t = then_parts (act first noted) (EachFrom act (first + 1) count) w v told h in
    let same : (first + 1) + count ≡ first + suc count = omega arith in
    subst (λ n. I n told v.world) same
    (subst (I ((first + 1) + count) told) (sym (ap (λ (z : Reached). z.world) t.whole))
    (from_notes act I step (first + 1) count t.told told t.between.world t.last (step first noted t.told w t.between k t.came) t.further))

-- the same of turns that tell nothing
pub from_leads : (act : ℕ → Unit {0} → Act (Unit {0})) (I : ℕ → State → Type 0)
    → ((i : ℕ) (done told : Unit {0}) (w : State) (v : Reached) → I i w → act i done w v (Ok told) → I (i + 1) v.world)
    → (first count : ℕ) (done told : Unit {0}) (w : State) (v : Reached) → I first w → EachFrom act first count done w v (Ok told) → I (first + count) v.world
from_leads act I step first count done told w v k h =
    from_notes act (λ i noted u. I i u) (λ i noted more u x. step i noted more u x) first count done told w v k h
