-- What several things come to: a world of some kind, or a refusal for want of room.
use Rattle.std.proofs.Common.{◌≡◌, ◌+◌, ◌<◌, inl, inr, ℕ, zero, suc, Bool, true, false, List, [], ◌∷◌, Result, Ok, Err, refl, sym, subst, arith}
use Rattle.rt_events.specs.declared.event.Event.{Event}
use Rattle.rt_events.specs.declared.outcome.Outcome.{Outcome}
use Rattle.rt_events.specs.declared.refusal.Refusal.{Refusal}
use Rattle.rt_events.specs.declared.refusal.Refusal.TheVariants.{NoSuchMessage, NoSuchNode, NodeDown, NothingToDo, Limit, Memory}
use Rattle.rt_lists.specs.Members.{Has}
use Rattle.rt_macros.specs.Doing.{Act, Attempted, AttemptedBy, Choose, Coming, Each, EachFrom, Further, Gives, Happens, HappensBy, Passed, Reached, Refuses, Then}
use Rattle.rt_state.specs.declared.state.State.{State}
use Rattle.rt_unrefused.proofs.Only.{IsQuiet, Only}
use Rattle.rt_unrefused.specs.Refused.{IsLimit}
use Rattle.rt_world.specs.Step.{Steps, due_of}

abbrev pub Ends : {A : Type 0} → (A → State → Type 0) → State → Result A Refusal → Type 0
Ends Q u (Ok x) = Q x u
Ends Q u (Err refusal) = IsLimit refusal

abbrev pub GoesTo : {A : Type 0} → (A → State → Type 0) → Coming A → Type 0
GoesTo {A} Q act = (v : Reached) (r : Result A Refusal) → act v r → Ends Q v.world r

-- ---- one thing

pub gives_to : {A : Type 0} (Q : A → State → Type 0) (x : A) (w : State) → Q x w → GoesTo Q (Gives x w)
gives_to Q x w k v r h = subst (λ (z : Reached). Ends Q z.world r) (sym h.0) (subst (Ends Q w) (sym h.1) k)

pub refuses_to : {A : Type 0} (Q : A → State → Type 0) (refusal : Refusal) (w : State) → IsLimit refusal → GoesTo Q (Refuses refusal w)
refuses_to Q refusal w k v r h = subst (λ (z : Reached). Ends Q z.world r) (sym h.0) (subst (Ends Q w) (sym h.1) k)

pub happens_to : (Q : Outcome → State → Type 0) (e : Event) (w : State) → Only IsLimit (due_of w e) → ((v : State) (o : Outcome) → Steps w e v (Ok o) → Q o v)
    → GoesTo Q (Happens e w)
happens_to Q e w due f v r h = by_told r h.by
  where
    by_told : (told : Result Outcome Refusal) → HappensBy e w v told → Ends Q v.world told
    by_told (Ok o) (steps, is) = f v.world o steps
    by_told (Err refusal) (denied, is) = due refusal denied

-- ---- several things

pub then_to : {A B : Type 0} (P : A → State → Type 0) (Q : B → State → Type 0) (first : Act A) (behind : A → Act B) (w : State) → GoesTo P (first w)
    → ((x : A) (u : State) → P x u → GoesTo Q (behind x u)) → GoesTo Q (Then first behind w)
then_to {A} {B} P Q first behind w f g v r t =
    subst (λ (z : Reached). Ends Q z.world r) (sym t.whole) (by_told t.told (f t.between t.told t.came) t.further)
  where
    by_told : (told : Result A Refusal) → Ends P t.between.world told → Further behind t.between.world t.last told r → Ends Q t.last.world r
    by_told (Ok x) k h = g x t.between.world k t.last r h
    by_told (Err refusal) limit h = refuses_to Q refusal t.between.world limit t.last r h

pub passed_to : (Q : State → Type 0) (e : Event) (w : State) → Only IsLimit (due_of w e) → ((v : State) (o : Outcome) → Steps w e v (Ok o) → Q v)
    → GoesTo (λ done. Q) (Passed e w)
passed_to Q e w due f =
    then_to (λ o. Q) (λ done. Q) (Happens e) (λ outcome. Gives tt) w (happens_to (λ o. Q) e w due f) (λ o u k. gives_to (λ done. Q) tt u k)

pub choose_to : {A : Type 0} (Q : A → State → Type 0) (b : Bool) (act other : Coming A) → (b ≡ true → GoesTo Q act) → (b ≡ false → GoesTo Q other)
    → GoesTo Q (Choose b act other)
choose_to Q true act other f g v r h = f refl v r h
choose_to Q false act other f g v r h = g refl v r h

-- an event that happens where there is something to do
pub attempted_to : (Q : State → Type 0) (e : Event) (busy : Bool) (w : State) → Q w → Only IsQuiet (due_of w e)
    → ((v : State) (o : Outcome) → Steps w e v (Ok o) → Q v) → GoesTo (λ b. Q) (Attempted e busy w)
attempted_to Q e busy w k due f v r t =
    subst (λ (z : Reached). Ends (λ b. Q) z.world r) (sym t.whole) (by_told t.told t.came.by t.further)
  where
    by_told : (told : Result Outcome Refusal) → HappensBy e w t.between told → AttemptedBy busy told t.between.world t.last r → Ends (λ b. Q) t.last.world r
    by_told (Ok o) (steps, is) h = gives_to (λ b. Q) true t.between.world (f t.between.world o steps) t.last r h
    by_told (Err NothingToDo) (denied, is) h =
        gives_to (λ b. Q) busy t.between.world (subst (λ (z : Reached). Q z.world) (sym is) k) t.last r h
    by_told (Err NoSuchMessage) (denied, is) h = absurd (due NoSuchMessage denied)
    by_told (Err NoSuchNode) (denied, is) h = absurd (due NoSuchNode denied)
    by_told (Err NodeDown) (denied, is) h = absurd (due NodeDown denied)
    by_told (Err (Limit which)) (denied, is) h = refuses_to (λ b. Q) (Limit which) t.between.world tt t.last r h
    by_told (Err Memory) (denied, is) h = absurd (due Memory denied)

-- something for each of some items, where each keeps what is true
pub each_to : {A S : Type 0} (P : State → Type 0) (E : A → Type 0) (act : A → S → Act S) (xs : List A) (noted : S) (w : State) → P w
    → ((x : A) → Has xs x → E x) → ((x : A) (s : S) (u : State) → E x → P u → GoesTo (λ t. P) (act x s u)) → GoesTo (λ t. P) (Each act xs noted w)
each_to P E act [] noted w k all f = gives_to (λ t. P) noted w k
each_to P E act (x ∷ xs) noted w k all f =
    then_to (λ t. P) (λ t. P) (act x noted) (Each act xs) w (f x noted w (all x (inl refl)) k)
    (λ s u l. each_to P E act xs s u l (λ y has. all y (inr has)) f)

-- something for each number up to a last one
pub each_from_to : {S : Type 0} (P : ℕ → S → State → Type 0) (act : ℕ → S → Act S) (first count : ℕ) (noted : S) (last : ℕ) (w : State)
    → first + count ≡ last → P first noted w → ((n : ℕ) (s : S) (u : State) → n < last → P n s u → GoesTo (P (n + 1)) (act n s u))
    → GoesTo (P last) (EachFrom act first count noted w)
each_from_to P act first zero noted last w e k f =
    gives_to (P last) noted w (let same : first ≡ last = omega (arith, e) in subst (λ n. P n noted w) same k)
each_from_to P act first (suc count) noted last w e k f =
    then_to (P (first + 1)) (P last) (act first noted) (EachFrom act (first + 1) count) w (f first noted w (omega (arith, e)) k)
    (λ s u l. each_from_to P act (first + 1) count s last u (omega (arith, e)) l f)

-- something for each item, where what is true speaks of the items that are left
pub each_left_to : {A S : Type 0} (P : List A → State → Type 0) (act : A → S → Act S) (xs : List A) (noted : S) (w : State) → P xs w
    → ((x : A) (rest : List A) (s : S) (u : State) → P (x ∷ rest) u → GoesTo (λ t. P rest) (act x s u)) → GoesTo (λ t. P []) (Each act xs noted w)
each_left_to P act [] noted w k f = gives_to (λ t. P []) noted w k
each_left_to P act (x ∷ xs) noted w k f =
    then_to (λ t. P xs) (λ t. P []) (act x noted) (Each act xs) w (f x xs noted w k) (λ s u l. each_left_to P act xs s u l f)
