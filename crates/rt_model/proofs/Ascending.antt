-- The steps keep the entries ascending.
use Rattle.std.proofs.Common.{◌≡◌, ℕ, zero, suc, Bool, true, false, cond, ◌&&◌, ◌||◌, not, eqb, ltb, true≢false, List, [], ◌∷◌, map, Some, slice_get, refl, sym, ◌∙◌, ap, subst, arith}
use Rattle.std.proofs.lemmas.Option.{same_Some, none-some}
use Rattle.std.proofs.lemmas.Bool.Decides.{nat_tests}
use Rattle.std.proofs.lemmas.Bool.{eqb-true}
use Rattle.std.specs.List.{filter}
use Rattle.rt_base.specs.declared.numbers.Partition.{Partition}
use Rattle.rt_base.specs.declared.numbers.Sequence.{Sequence}
use Rattle.rt_base.specs.declared.numbers.Instance.{Instance}
use Rattle.rt_model.specs.declared.ideal_state.IdealEntry.{IdealEntry}
use Rattle.rt_model.specs.declared.ideal_state.Mode.TheVariants.{Online}
use Rattle.rt_model.specs.Ideal.{next_sequence, is_of, is_of_instance, has_entry, is_before, with_entry, consuming, with_consuming, turned_online, turned_offline, offline_mode, goes_on, commit_step_of, add_consuming_of, set_offline_of, remove_segment_of}
use Rattle.rt_model.proofs.Histories.{same_instance}
use Rattle.rt_model.specs.Order.{IsBeforeAll, IsAscending, NamesOnce, IsNoneOf, AreDistinct}

-- ---- the order

before : ℕ → ℕ → ℕ → ℕ → ℕ → ℕ → Bool
before p s i q t j = cond (eqb p q) (cond (eqb s t) (ltb i j) (ltb s t)) (ltb p q)

before_trans : (p s i q t j r u k : ℕ) → before p s i q t j ≡ true → before q t j r u k ≡ true → before p s i r u k ≡ true
unfolding before
before_trans p s i q t j r u k a b = grind (arith, nat_tests)

-- one of two entries comes before the other, unless they are of one instance and one segment
before_or_after : (p s i q t j : ℕ) → ((eqb q p && eqb t s) && eqb j i) ≡ false → before p s i q t j ≡ false → before q t j p s i ≡ true
unfolding before
before_or_after p s i q t j a b = grind (arith, nat_tests)

-- nothing comes before itself
before_other : (p s i q t j : ℕ) → p ≡ q → s ≡ t → i ≡ j → before p s i q t j ≡ true → ⊥
unfolding before
before_other p s i q t j a b c h = grind (arith, nat_tests)

entry_trans : (a b c : IdealEntry) → is_before a b ≡ true → is_before b c ≡ true → is_before a c ≡ true
unfolding before
entry_trans a b c h k = before_trans a.partition.0 a.sequence.0 a.instance.0 b.partition.0 b.sequence.0 b.instance.0 c.partition.0 c.sequence.0 c.instance.0 h k

-- the entry is of the same instance and segment
abbrev is_tied : IdealEntry → IdealEntry → Bool
is_tied x e = is_of_instance x.partition x.sequence x.instance e

entry_after : (x e : IdealEntry) → is_tied x e ≡ false → is_before x e ≡ false → is_before e x ≡ true
unfolding before
entry_after x e h k = before_or_after x.partition.0 x.sequence.0 x.instance.0 e.partition.0 e.sequence.0 e.instance.0 h k

all_after : (x e : IdealEntry) (es : List IdealEntry) → is_before x e ≡ true → IsBeforeAll e es → IsBeforeAll x es
all_after x e [] h a = tt
all_after x e (f ∷ es) h a = (entry_trans x e f h a.0, all_after x e es h a.1)

-- no entry is of the same instance and segment
abbrev IsApart : IdealEntry → List IdealEntry → Type 0
IsApart x [] = Unit {0}
IsApart x (e ∷ es) = (is_tied x e ≡ false) × IsApart x es

-- ---- one entry more

before_added : (e x : IdealEntry) (es : List IdealEntry) → is_before e x ≡ true → IsBeforeAll e es → IsBeforeAll e (with_entry x es)
before_added e x [] h a = (h, tt)
before_added e x (f ∷ es) h a = by_place (is_before x f) (before_added e x es h a.1)
  where
    by_place : (b : Bool) → IsBeforeAll e (with_entry x es) → IsBeforeAll e (cond b (x ∷ f ∷ es) (f ∷ with_entry x es))
    by_place true later = (h, a)
    by_place false later = (a.0, later)

added_ascends : (x : IdealEntry) (es : List IdealEntry) → IsAscending es → IsApart x es → IsAscending (with_entry x es)
added_ascends x [] a n = (tt, tt)
added_ascends x (e ∷ es) a n = by_place (is_before x e) refl (added_ascends x es a.1 n.1)
  where
    by_place : (b : Bool) → is_before x e ≡ b → IsAscending (with_entry x es) → IsAscending (cond b (x ∷ e ∷ es) (e ∷ with_entry x es))
    by_place true h later = ((h, all_after x e es h a.0), a)
    by_place false h later = (before_added e x es (entry_after x e n.0 h) a.0, later)

apart_added : (x y : IdealEntry) (es : List IdealEntry) → is_tied x y ≡ false → IsApart x es → IsApart x (with_entry y es)
apart_added x y [] h n = (h, tt)
apart_added x y (f ∷ es) h n = by_place (is_before y f) (apart_added x y es h n.1)
  where
    by_place : (b : Bool) → IsApart x (with_entry y es) → IsApart x (cond b (y ∷ f ∷ es) (f ∷ with_entry y es))
    by_place true later = (h, n)
    by_place false later = (n.0, later)

-- ---- a segment's entries

or_false : (a b : Bool) → (a || b) ≡ false → (a ≡ false) × (b ≡ false)
or_false true b e = absurd (true≢false e)
or_false false b e = (refl, e)

and_false : (a b : Bool) → b ≡ false → (a && b) ≡ false
and_false true b e = e
and_false false b e = refl

false_and : (a b : Bool) → a ≡ false → (a && b) ≡ false
false_and true b e = absurd (true≢false e)
false_and false b e = refl

apart_without : (es : List IdealEntry) (p : Partition) (s : Sequence) (i : Instance) → has_entry es p s ≡ false → IsApart (consuming p s i) es
apart_without [] p s i h = tt
apart_without (e ∷ es) p s i h =
    let both = or_false (is_of p s e) (has_entry es p s) h in
    (false_and (is_of p s e) (eqb e.instance.0 i.0) both.0, apart_without es p s i both.1)

other_instance : (i j : Instance) → (i ≡ j → ⊥) → eqb j.0 i.0 ≡ false
other_instance i j ne = by_test (eqb j.0 i.0) refl
  where
    by_test : (b : Bool) → eqb j.0 i.0 ≡ b → b ≡ false
    by_test true e = absurd (ne (same_instance i j (sym (eqb-true j.0 i.0 e))))
    by_test false e = refl

apart_consuming : (es : List IdealEntry) (p : Partition) (s : Sequence) (is : List Instance) (i : Instance) → has_entry es p s ≡ false → IsNoneOf i is → IsApart (consuming p s i) (with_consuming es p s is)
apart_consuming es p s [] i h n = apart_without es p s i h
apart_consuming es p s (j ∷ is) i h n =
    apart_added (consuming p s i) (consuming p s j) (with_consuming es p s is)
    (and_false (is_of p s (consuming p s j)) (eqb j.0 i.0) (other_instance i j n.0))
    (apart_consuming es p s is i h n.1)

pub consuming_ascends : (es : List IdealEntry) (p : Partition) (s : Sequence) (is : List Instance) → IsAscending es → has_entry es p s ≡ false → AreDistinct is → IsAscending (with_consuming es p s is)
consuming_ascends es p s [] a h d = a
consuming_ascends es p s (i ∷ is) a h d =
    added_ascends (consuming p s i) (with_consuming es p s is) (consuming_ascends es p s is a h d.1) (apart_consuming es p s is i h d.0)

-- ---- entries that are turned, or removed

mapped_after : (f : IdealEntry → IdealEntry) → ((a b : IdealEntry) → is_before (f a) (f b) ≡ is_before a b) → (e : IdealEntry) (es : List IdealEntry) → IsBeforeAll e es → IsBeforeAll (f e) (map f es)
mapped_after f same e [] a = tt
mapped_after f same e (g ∷ es) a = (same e g ∙ a.0, mapped_after f same e es a.1)

mapped_ascends : (f : IdealEntry → IdealEntry) → ((a b : IdealEntry) → is_before (f a) (f b) ≡ is_before a b) → (es : List IdealEntry) → IsAscending es → IsAscending (map f es)
mapped_ascends f same [] a = tt
mapped_ascends f same (e ∷ es) a = (mapped_after f same e es a.0, mapped_ascends f same es a.1)

turned_order : (x y : Bool) (a b : IdealEntry) → is_before (cond x (record a { mode = Online }) a) (cond y (record b { mode = Online }) b) ≡ is_before a b
turned_order true true a b = refl
turned_order true false a b = refl
turned_order false true a b = refl
turned_order false false a b = refl

stopped_order : (x y : Bool) (a b : IdealEntry) → is_before (cond x (record a { mode = offline_mode a.mode }) a) (cond y (record b { mode = offline_mode b.mode }) b) ≡ is_before a b
stopped_order true true a b = refl
stopped_order true false a b = refl
stopped_order false true a b = refl
stopped_order false false a b = refl

turned_segment : (x : Bool) (a : IdealEntry) (p : Partition) (s : Sequence) → is_of p s (cond x (record a { mode = Online }) a) ≡ is_of p s a
turned_segment true a p s = refl
turned_segment false a p s = refl

turned_has : (es : List IdealEntry) (p q : Partition) (s t : Sequence) → has_entry (map (turned_online p s) es) q t ≡ has_entry es q t
turned_has [] p q s t = refl
turned_has (e ∷ es) p q s t = rw (turned_segment (is_of p s e) e q t, turned_has es p q s t)

filtered_after : (test : IdealEntry → Bool) (e : IdealEntry) (es : List IdealEntry) → IsBeforeAll e es → IsBeforeAll e (filter test es)
filtered_after test e [] a = tt
filtered_after test e (f ∷ es) a = by_test (test f) (filtered_after test e es a.1)
  where
    by_test : (b : Bool) → IsBeforeAll e (filter test es) → IsBeforeAll e (cond b (f ∷ filter test es) (filter test es))
    by_test true later = (a.0, later)
    by_test false later = later

filtered_ascends : (test : IdealEntry → Bool) (es : List IdealEntry) → IsAscending es → IsAscending (filter test es)
filtered_ascends test [] a = tt
filtered_ascends test (e ∷ es) a = by_test (test e) (filtered_ascends test es a.1)
  where
    by_test : (b : Bool) → IsAscending (filter test es) → IsAscending (cond b (e ∷ filter test es) (filter test es))
    by_test true later = (filtered_after test e es a.0, later)
    by_test false later = later

-- ---- the steps

pub commit_ascends : (es : List IdealEntry) (p : Partition) (s : Sequence) (next : List Instance) → IsAscending es → AreDistinct next → IsAscending (commit_step_of es p s next)
commit_ascends es p s next a d = by_tests (has_entry es p s) (has_entry es p (next_sequence s)) refl
  where
    turned : IsAscending (map (turned_online p s) es)
    turned = mapped_ascends (turned_online p s) (λ x y. turned_order (is_of p s x) (is_of p s y) x y) es a

    by_tests : (b c : Bool) → has_entry es p (next_sequence s) ≡ c → IsAscending (cond b (cond c (map (turned_online p s) es) (with_consuming (map (turned_online p s) es) p (next_sequence s) next)) es)
    by_tests true true h = turned
    by_tests true false h = consuming_ascends (map (turned_online p s) es) p (next_sequence s) next turned (turned_has es p p s (next_sequence s) ∙ h) d
    by_tests false c h = a

pub add_ascends : (es : List IdealEntry) (p : Partition) (s : Sequence) (is : List Instance) → IsAscending es → AreDistinct is → IsAscending (add_consuming_of es p s is)
add_ascends es p s is a d = by_tests (has_entry es p s) (goes_on es p s.0) refl
  where
    by_tests : (b c : Bool) → has_entry es p s ≡ b → IsAscending (cond b es (cond c (with_consuming es p s is) es))
    by_tests true c h = a
    by_tests false true h = consuming_ascends es p s is a h d
    by_tests false false h = a

pub offline_ascends : (es : List IdealEntry) (p : Partition) (s : Sequence) (i : Instance) → IsAscending es → IsAscending (set_offline_of es p s i)
offline_ascends es p s i a = mapped_ascends (turned_offline p s i) (λ x y. stopped_order (is_of_instance p s i x) (is_of_instance p s i y) x y) es a

pub remove_ascends : (es : List IdealEntry) (p : Partition) (s : Sequence) → IsAscending es → IsAscending (remove_segment_of es p s)
remove_ascends es p s a = filtered_ascends (λ e. not (is_of p s e)) es a

-- ---- no instance is named twice

not_before : (a b : IdealEntry) → a.partition ≡ b.partition → a.sequence ≡ b.sequence → a.instance ≡ b.instance → is_before a b ≡ true → ⊥
unfolding before
not_before a b p s i h =
    before_other a.partition.0 a.sequence.0 a.instance.0 b.partition.0 b.sequence.0 b.instance.0
    (ap (λ (x : Partition). x.0) p) (ap (λ (x : Sequence). x.0) s) (ap (λ (x : Instance). x.0) i) h

before_at : (a b : IdealEntry) (es : List IdealEntry) (i : ℕ) → IsBeforeAll a es → slice_get es i ≡ Some b → is_before a b ≡ true
before_at a b [] i h e = absurd (none-some b e)
before_at a b (c ∷ es) zero h e = subst (λ x. is_before a x ≡ true) (same_Some c b e) h.0
before_at a b (c ∷ es) (suc i) h e = before_at a b es i h.1 e

pub ascending_once : (es : List IdealEntry) → IsAscending es → NamesOnce es
ascending_once [] h i j a b at_a at_b p s n = absurd (none-some a at_a)
ascending_once (e ∷ es) h zero zero a b at_a at_b p s n = refl
ascending_once (e ∷ es) h zero (suc j) a b at_a at_b p s n =
    absurd (not_before a b p s n (subst (λ x. is_before x b ≡ true) (same_Some e a at_a) (before_at e b es j h.0 at_b)))
ascending_once (e ∷ es) h (suc i) zero a b at_a at_b p s n =
    absurd (not_before b a (sym p) (sym s) (sym n) (subst (λ x. is_before x a ≡ true) (same_Some e b at_b) (before_at e a es i h.0 at_a)))
ascending_once (e ∷ es) h (suc i) (suc j) a b at_a at_b p s n =
    ap suc (ascending_once es h.1 i j a b at_a at_b p s n)
