-- Ways to put things together, each of which has one outcome where its parts have.
use Rattle.std.proofs.Common.{◌≡◌, ◌+◌, ℕ, zero, suc, Bool, true, false, List, [], ◌∷◌, ◌++◌, Result, Ok, Err, refl, sym, ◌∙◌, ap, subst}
use Rattle.rt_events.specs.Fits.{Fits}
use Rattle.rt_events.specs.declared.event.Event.{Event}
use Rattle.rt_events.specs.declared.outcome.Outcome.{Outcome}
use Rattle.rt_events.specs.declared.refusal.Refusal.{Refusal}
use Rattle.rt_events.specs.declared.refusal.Refusal.TheVariants.{NoSuchMessage, NoSuchNode, NodeDown, NothingToDo, Limit, Memory}
use Rattle.rt_macros.specs.Doing.{Act, Attempted, AttemptedBy, Choose, Coming, Each, EachFrom, Further, Gives, Happens, HappensBy, Passed, PassesBy, PassesOver, Reached, Refuses, Then, Tries, after, stays}
use Rattle.rt_state.specs.Clock.{Passes, pass_due}
use Rattle.rt_state.specs.Room.{Found, counted, dropped}
use Rattle.rt_state.specs.declared.state.State.{State}
use Rattle.rt_safety.proofs.Runs.{leads_safe}
use Rattle.rt_safety.specs.Runs.{happens, passes}
use Rattle.rt_exact.specs.Acts.{AreOne, ReachedAlike}
use Rattle.rt_exact.specs.Alike.{AreAlike}
use Rattle.rt_exact.specs.Shown.{shown}
use Rattle.rt_exact.proofs.Alike.{stay_alike}
use Rattle.rt_exact.proofs.Dues.{due_alike}
use Rattle.rt_exact.proofs.Ones.{same_price}
use Rattle.rt_exact.proofs.Refusals.{priced_never, refused_never}

-- alike worlds stay alike where they stay
pub stay : (w v : State) (x y : Reached) → AreAlike w v → x ≡ stays w → y ≡ stays v → ReachedAlike x y
stay w v x y k e f = record {
  turns = ap (λ (z : Reached). z.turns) e ∙ sym (ap (λ (z : Reached). z.turns) f);
  worlds =
      subst (λ z. AreAlike z y.world) (sym (ap (λ (z : Reached). z.world) e)) (subst (λ z. AreAlike w z) (sym (ap (λ (z : Reached). z.world) f)) k);
}

-- and where they go on from alike ones to alike ones
pub go_on : (a b c d x y : Reached) → ReachedAlike a b → ReachedAlike c d → x ≡ after a.turns c → y ≡ after b.turns d → ReachedAlike x y
go_on a b c d x y first later e f = record {
  turns = ap (λ (z : Reached). z.turns) e ∙ (λ t. first.turns t ++ later.turns t) ∙ sym (ap (λ (z : Reached). z.turns) f);
  worlds =
      subst (λ z. AreAlike z y.world) (sym (ap (λ (z : Reached). z.world) e))
      (subst (λ z. AreAlike c.world z) (sym (ap (λ (z : Reached). z.world) f)) later.worlds);
}

pub gives_one : {A : Type 0} (a b : A) (w v : State) → AreAlike w v → a ≡ b → AreOne (Gives a w) (Gives b v)
gives_one a b w v k same x y r s h g = (h.1 ∙ (λ t. Ok (same t)) ∙ sym g.1, stay w v x y k h.0 g.0)

pub refuses_one : {A : Type 0} (refusal : Refusal) (w v : State) → AreAlike w v → AreOne {A = A} (Refuses refusal w) (Refuses refusal v)
refuses_one refusal w v k x y r s h g = (h.1 ∙ sym g.1, stay w v x y k h.0 g.0)

-- ---- one behind the other, and by a test

pub then_one : {A B : Type 0} (first other : Act A) (behind further : A → Act B) (w v : State) → AreOne (first w) (other v)
    → ((a : A) (u t : State) → AreAlike u t → AreOne (behind a u) (further a t)) → AreOne (Then first behind w) (Then other further v)
then_one {A} {B} first other behind further w v f g x y r s h k =
    (last.0, go_on h.between k.between h.last k.last x y z.1 last.1 h.whole k.whole)
  where
    z : (h.told ≡ k.told) × ReachedAlike h.between k.between
    z = f h.between k.between h.told k.told h.came k.came

    by_told : (told : Result A Refusal) → Further behind h.between.world h.last told r → Further further k.between.world k.last told s
        → (r ≡ s) × ReachedAlike h.last k.last
    by_told (Ok a) p q = g a h.between.world k.between.world z.1.worlds h.last k.last r s p q
    by_told (Err refusal) p q = refuses_one refusal h.between.world k.between.world z.1.worlds h.last k.last r s p q

    last : (r ≡ s) × ReachedAlike h.last k.last
    last = by_told h.told h.further (subst (λ t. Further further k.between.world k.last t s) (sym z.0) k.further)

pub tries_one : {A B : Type 0} (first other : Act A) (behind further : Result A Refusal → Act B) (w v : State) → AreOne (first w) (other v)
    → ((told : Result A Refusal) (u t : State) → AreAlike u t → AreOne (behind told u) (further told t)) → AreOne (Tries first behind w) (Tries other further v)
tries_one first other behind further w v f g x y r s h k =
    let z = f h.between k.between h.told k.told h.came k.came in
    let last =
    g h.told h.between.world k.between.world z.1.worlds h.last k.last r s h.further
    (subst (λ t. further t k.between.world k.last s) (sym z.0) k.further) in
    (last.0, go_on h.between k.between h.last k.last x y z.1 last.1 h.whole k.whole)

pub choose_one : {A : Type 0} (b c : Bool) (act other : Coming A) (act' other' : Coming A) → b ≡ c → AreOne act act' → AreOne other other'
    → AreOne (Choose b act other) (Choose c act' other')
choose_one {A} b c act other act' other' same f g x y r s h k = by_test c (subst (λ t. Choose t act other x r) same h) k
  where
    by_test : (t : Bool) → Choose t act other x r → Choose t act' other' y s → (r ≡ s) × ReachedAlike x y
    by_test true p q = f x y r s p q
    by_test false p q = g x y r s p q

-- ---- for each item, and for each number

pub each_one : {A S : Type 0} (act other : A → S → Act S) (xs ys : List A) (noted : S) (w v : State) → AreAlike w v → xs ≡ ys
    → ((x : A) (n : S) (u t : State) → AreAlike u t → AreOne (act x n u) (other x n t)) → AreOne (Each act xs noted w) (Each other ys noted v)
each_one {A} {S} act other xs ys noted w v k same f x y r s h g = all ys noted w v k x y r s (subst (λ zs. Each act zs noted w x r) same h) g
  where
    all : (zs : List A) (n : S) (w v : State) → AreAlike w v → AreOne (Each act zs n w) (Each other zs n v)
    all [] n w v k = gives_one n n w v k refl
    all (z ∷ zs) n w v k = then_one (act z n) (other z n) (Each act zs) (Each other zs) w v (f z n w v k) (λ m u t l. all zs m u t l)

pub each_from_one : {S : Type 0} (act other : ℕ → S → Act S) (first count most : ℕ) (noted : S) (w v : State) → AreAlike w v → count ≡ most
    → ((n : ℕ) (m : S) (u t : State) → AreAlike u t → AreOne (act n m u) (other n m t)) → AreOne (EachFrom act first count noted w) (EachFrom other first most noted v)
each_from_one {S} act other first count most noted w v k same f x y r s h g =
    all most first noted w v k x y r s (subst (λ c. EachFrom act first c noted w x r) same h) g
  where
    all : (left at : ℕ) (n : S) (w v : State) → AreAlike w v → AreOne (EachFrom act at left n w) (EachFrom other at left n v)
    all zero at n w v k = gives_one n n w v k refl
    all (suc left) at n w v k =
        then_one (act at n) (other at n) (EachFrom act (at + 1) left) (EachFrom other (at + 1) left) w v (f at n w v k) (λ m u t l. all left (at + 1) m u t l)

-- ---- an event

abbrev answer : Outcome → Result Outcome Refusal
answer outcome = Ok outcome

abbrev refuse : Refusal → Found
refuse refusal = Err refusal

same_refusal : (a b : Refusal) → refuse a ≡ refuse b → a ≡ b
same_refusal a b e = cc

by_one : (e : Event) (w v : State) → AreAlike w v → Fits w.setup.schema e → AreOne (HappensBy e w) (HappensBy e v)
by_one e w v k fits x y (Ok a) (Ok b) h g =
    let z = stay_alike w v e x.world y.world a b k fits h.0 g.0 in
    (λ t. answer (z.0 t), record { turns = h.1 ∙ (λ t. happens e (z.0 t) ∷ []) ∙ sym g.1; worlds = z.1 })
by_one e w v k fits x y (Ok a) (Err refusal) h g = absurd (refused_never w e x.world a refusal (due_alike w v e k.same ∙ g.0) h.0)
by_one e w v k fits x y (Err refusal) (Ok b) h g = absurd (refused_never v e y.world b refusal (sym (due_alike w v e k.same) ∙ h.0) g.0)
by_one e w v k fits x y (Err a) (Err b) h g =
    let same = same_refusal a b (sym h.0 ∙ due_alike w v e k.same ∙ g.0) in
    ((λ t. Err (same t)), stay w v x y k h.1 g.1)

pub happens_one : (e : Event) (w v : State) → AreAlike w v → Fits w.setup.schema e → AreOne (Happens e w) (Happens e v)
happens_one e w v k fits x y r s h g = by_one e w v k fits x y r s h.by g.by

pub passed_one : (e : Event) (w v : State) → AreAlike w v → Fits w.setup.schema e → AreOne (Passed e w) (Passed e v)
passed_one e w v k fits =
    then_one (Happens e) (Happens e) (λ outcome. Gives tt) (λ outcome. Gives tt) w v (happens_one e w v k fits) (λ a u t l. gives_one tt tt u t l refl)

attempted_by_one : (busy : Bool) (told : Result Outcome Refusal) (w v : State) → AreAlike w v → AreOne (AttemptedBy busy told w) (AttemptedBy busy told v)
attempted_by_one busy (Ok outcome) w v k = gives_one true true w v k refl
attempted_by_one busy (Err NothingToDo) w v k = gives_one busy busy w v k refl
attempted_by_one busy (Err NoSuchMessage) w v k = refuses_one NoSuchMessage w v k
attempted_by_one busy (Err NoSuchNode) w v k = refuses_one NoSuchNode w v k
attempted_by_one busy (Err NodeDown) w v k = refuses_one NodeDown w v k
attempted_by_one busy (Err (Limit which)) w v k = refuses_one (Limit which) w v k
attempted_by_one busy (Err Memory) w v k = refuses_one Memory w v k

pub attempted_one : (e : Event) (busy : Bool) (w v : State) → AreAlike w v → Fits w.setup.schema e → AreOne (Attempted e busy w) (Attempted e busy v)
attempted_one e busy w v k fits =
    tries_one (Happens e) (Happens e) (AttemptedBy busy) (AttemptedBy busy) w v (happens_one e w v k fits) (λ told u t l. attempted_by_one busy told u t l)

-- ---- a line that is no event

pub passed_alike : (w v x y : State) → AreAlike w v → Passes w x (Ok tt) → Passes v y (Ok tt) → AreAlike x y
passed_alike w v x y k (c, d, e) (c', d', e') =
    let cost : c ≡ c' = same_price c c' (sym d ∙ ap (λ u. pass_due u) k.same ∙ d') in
    record {
      left = leads_safe w (passes ∷ []) x k.left (x, (c, d, e), refl);
      right = leads_safe v (passes ∷ []) y k.right (y, (c', d', e'), refl);
      same = ap (λ z. shown z) e ∙ (λ t. counted (k.same t) (cost t)) ∙ sym (ap (λ z. shown z) e');
    }

pass_alike : (w v : State) → AreAlike w v → pass_due w ≡ pass_due v
pass_alike w v k = ap (λ u. pass_due u) k.same

passes_by_one : (w v : State) → AreAlike w v → AreOne (PassesBy w) (PassesBy v)
passes_by_one w v k x y (Ok a) (Ok b) h g = (refl, record { turns = h.1 ∙ sym g.1; worlds = passed_alike w v x.world y.world k h.0 g.0 })
passes_by_one w v k x y (Ok a) (Err refusal) h g = absurd (priced_never (pass_due w) h.0.0 refusal h.0.1 (ap (λ d. dropped d) (pass_alike w v k) ∙ g.0))
passes_by_one w v k x y (Err refusal) (Ok b) h g =
    absurd (priced_never (pass_due v) g.0.0 refusal g.0.1 (ap (λ d. dropped d) (sym (pass_alike w v k)) ∙ h.0))
passes_by_one w v k x y (Err a) (Err b) h g =
    let same = same_refusal a b (sym h.0 ∙ ap (λ d. dropped d) (pass_alike w v k) ∙ g.0) in
    ((λ t. Err (same t)), stay w v x y k h.1 g.1)

pub passes_over_one : (w v : State) → AreAlike w v → AreOne (PassesOver w) (PassesOver v)
passes_over_one w v k x y r s h g = passes_by_one w v k x y r s h.by g.by
