-- A call of a store that tells everything, and what a server makes of its answer, are one.
use Rattle.std.proofs.Common.{◌≡◌, inl, inr, List, Option, Some, None, Result, Ok, Err, sym, ◌∙◌, ap}
use Rattle.std.proofs.lemmas.Option.{none-some, same_Some}
use Rattle.rt_deep.specs.declared.deep_put.DeepPut.{DeepPut}
use Rattle.rt_deep.specs.declared.refused.DeepRefused.{DeepRefused}
use Rattle.rt_deep.specs.declared.refused.DeepRefused.TheVariants as deep
use Rattle.rt_deep.specs.Calls as of_deep
use Rattle.rt_deep.specs.Meaning.{Told as ToldDeep}
use Rattle.rt_deep.specs.Memory as deep_memory
use Rattle.rt_deep.proofs.Seeing as deep_seeing
use Rattle.rt_entry.specs.Calls.{Comes, Step}
use Rattle.rt_entry.specs.declared.refused.ServerRefused.{ServerRefused}
use Rattle.rt_entry.specs.declared.refused.ServerRefused.TheVariants.{NotDue, StoreFault, BadFile, Memory}
use Rattle.rt_events.specs.declared.outcome.Outcome.{Outcome}
use Rattle.rt_model.specs.declared.node.Seen.{Seen}
use Rattle.rt_store.specs.declared.refused.StoreRefused.{StoreRefused}
use Rattle.rt_store.specs.declared.refused.StoreRefused.TheVariants as store
use Rattle.rt_store.specs.Calls as of_store
use Rattle.rt_store.specs.Meaning.{Told}
use Rattle.rt_store.specs.Memory.{means}
use Rattle.rt_store.proofs.Seeing.{told_exact}
use Rattle.rt_nodes.specs.Refused.{outcome_by}

-- a call that didn't run out of memory
abbrev pub HasRoom : {X : Type 0} → Result X ServerRefused → Type 0
HasRoom (Ok x) = Unit {0}
HasRoom (Err NotDue) = Unit {0}
HasRoom (Err StoreFault) = Unit {0}
HasRoom (Err (BadFile wanted found)) = Unit {0}
HasRoom (Err Memory) = ⊥

-- a call that has an outcome is such a one
pub has_room : {X : Type 0} (tell : X → Outcome) (result : Result X ServerRefused) (outcome : Outcome) → outcome_by tell result ≡ Some outcome → HasRoom result
has_room tell (Ok x) outcome e = tt
has_room tell (Err NotDue) outcome e = tt
has_room tell (Err StoreFault) outcome e = tt
has_room tell (Err (BadFile wanted found)) outcome e = tt
has_room tell (Err Memory) outcome e = absurd (none-some outcome e)

-- what a call leaves, and what it answers
abbrev pub Left : Type 0 → Type 0 → Type 0
Left S X = Option (S × Result X ServerRefused)

abbrev pub left_by : {S X : Type 0} → S → Step S X → Left S X
left_by old (Ok x) = Some (x.1, Ok x.0)
left_by old (Err NotDue) = Some (old, Err NotDue)
left_by old (Err StoreFault) = Some (old, Err StoreFault)
left_by old (Err (BadFile wanted found)) = Some (old, Err (BadFile wanted found))
left_by old (Err Memory) = None

abbrev kept : {S X : Type 0} → S → Result X ServerRefused → Left S X
kept s result = Some (s, result)

left_old : {S X : Type 0} (old new : S) (result : Result X ServerRefused) → new ≡ old → kept old result ≡ kept new result
left_old old new result e = ap (λ s. kept s result) (sym e)

-- a call that comes to a step leaves what the step leaves
pub comes_left : {S X : Type 0} (step : Step S X) (old new : S) (result : Result X ServerRefused) → HasRoom result → Comes step old new result
    → left_by old step ≡ Some (new, result)
comes_left step old new (Ok x) room e = ap (left_by old) e
comes_left step old new (Err NotDue) room e = ap (left_by old) e.0 ∙ left_old old new (Err NotDue) e.1
comes_left step old new (Err StoreFault) room e = ap (left_by old) e.0 ∙ left_old old new (Err StoreFault) e.1
comes_left step old new (Err (BadFile wanted found)) room e = ap (left_by old) e.0 ∙ left_old old new (Err (BadFile wanted found)) e.1
comes_left step old new (Err Memory) room e = absurd room

-- ---- with one call of the store

-- what is left of the store, and of the call
pub record IsLeft {S X Y : Type 0} (t u : Told) (answer : List Seen → Result X StoreRefused) (after : List Seen → List Seen)
    (go : Result X StoreRefused → Step S Y) (old new : S) (result : Result Y ServerRefused) : Type 0 where
  pub store : u ≡ of_store.told_on t after
  pub left : left_by old (go (of_store.answer_on t answer)) ≡ Some (new, result)

pub told_left :
    {S X Y : Type 0} (t u : Told) (answer : List Seen → Result X StoreRefused) (after : List Seen → List Seen)
    (go : Result X StoreRefused → Step S Y) (old new : S) (given : Result X StoreRefused) (result : Result Y ServerRefused)
    → go (Err store.Memory) ≡ Err Memory → HasRoom result → of_store.Calls (means t) (means u) answer after given → Comes (go given) old new result
    → IsLeft t u answer after go old new result
told_left {S} {X} {Y} t u answer after go old new given result out room c comes = by_cases (told_exact t u answer after given c)
  where
    whole : S × Result Y ServerRefused
    whole = (new, result)

    here : left_by old (go given) ≡ Some (new, result)
    here = comes_left (go given) old new result room comes

    by_cases : of_store.IsExact t u answer after given → IsLeft t u answer after go old new result
    by_cases (inl x) = absurd (none-some whole (sym (ap (left_by old) (ap go x.0 ∙ out)) ∙ here))
    by_cases (inr x) = record { store = x.1; left = ap (λ g. left_by old (go g)) (sym x.0) ∙ here }

-- two calls left the same
pub record AreOne {T S Y : Type 0} (s u : T) (m n : S) (a b : Result Y ServerRefused) : Type 0 where
  pub outside : s ≡ u
  pub node : m ≡ n
  pub answer : a ≡ b

abbrev pair : {S Y : Type 0} → S → Y → Option (S × Y)
pair m a = Some (m, a)

pub same_pair : {S Y : Type 0} (m n : S) (a b : Y) → pair m a ≡ pair n b → (m ≡ n) × (a ≡ b)
same_pair {S} {Y} m n a b e =
    let x : S × Y = (m, a) in
    let y : S × Y = (n, b) in
    let z = same_Some x y e in
    (ap (λ (w : S × Y). w.0) z, ap (λ (w : S × Y). w.1) z)

pub told_ones :
    {S X Y : Type 0} (t s u : Told) (answer : List Seen → Result X StoreRefused) (after : List Seen → List Seen)
    (go : Result X StoreRefused → Step S Y) (old m n : S) (a b : Result Y ServerRefused)
    → IsLeft t s answer after go old m a → IsLeft t u answer after go old n b → AreOne s u m n a b
told_ones t s u answer after go old m n a b h k =
    let z = same_pair m n a b (sym h.left ∙ k.left) in
    record { outside = h.store ∙ sym k.store; node = z.0; answer = z.1 }

-- ---- with one call of the deep store

pub record IsDeepLeft {S X Y : Type 0} (t u : ToldDeep) (answer : List DeepPut → Result X DeepRefused) (after : List DeepPut → List DeepPut)
    (go : Result X DeepRefused → Step S Y) (old new : S) (result : Result Y ServerRefused) : Type 0 where
  pub store : u ≡ of_deep.told_on t after
  pub left : left_by old (go (of_deep.answer_on t answer)) ≡ Some (new, result)

pub deep_left :
    {S X Y : Type 0} (t u : ToldDeep) (answer : List DeepPut → Result X DeepRefused) (after : List DeepPut → List DeepPut)
    (go : Result X DeepRefused → Step S Y) (old new : S) (given : Result X DeepRefused) (result : Result Y ServerRefused)
    → go (Err deep.Memory) ≡ Err Memory → HasRoom result → of_deep.Calls (deep_memory.means t) (deep_memory.means u) answer after given
    → Comes (go given) old new result → IsDeepLeft t u answer after go old new result
deep_left {S} {X} {Y} t u answer after go old new given result out room c comes = by_cases (deep_seeing.told_exact t u answer after given c)
  where
    whole : S × Result Y ServerRefused
    whole = (new, result)

    here : left_by old (go given) ≡ Some (new, result)
    here = comes_left (go given) old new result room comes

    by_cases : of_deep.IsExact t u answer after given → IsDeepLeft t u answer after go old new result
    by_cases (inl x) = absurd (none-some whole (sym (ap (left_by old) (ap go x.0 ∙ out)) ∙ here))
    by_cases (inr x) = record { store = x.1; left = ap (λ g. left_by old (go g)) (sym x.0) ∙ here }

pub deep_ones :
    {S X Y : Type 0} (t s u : ToldDeep) (answer : List DeepPut → Result X DeepRefused) (after : List DeepPut → List DeepPut)
    (go : Result X DeepRefused → Step S Y) (old m n : S) (a b : Result Y ServerRefused)
    → IsDeepLeft t s answer after go old m a → IsDeepLeft t u answer after go old n b → AreOne s u m n a b
deep_ones t s u answer after go old m n a b h k =
    let z = same_pair m n a b (sym h.left ∙ k.left) in
    record { outside = h.store ∙ sym k.store; node = z.0; answer = z.1 }
