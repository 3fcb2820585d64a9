-- Key values are equal where they are the same, and each has one number.
use Rattle.std.proofs.Common.{◌≡◌, ℕ, ◌<◌, Bool, true, false, List, get_or, Some, true≢false, Ordering, Less, Equal, Greater, nat_cmp, refl, sym, ap, ◌∙◌, subst, slice_get}
use Rattle.std.specs.Ordering.{MatchOrdering}
use Rattle.std.specs.List.{IsDistinct}
use Rattle.std.specs.Cmp.Lexicographic.{pointwise_decides, bytes_decides}
use Rattle.std.proofs.lemmas.Bool.Decides.{Decides-int_eq}
use Rattle.std.proofs.lemmas.Cmp.{ranked}
use Rattle.std.proofs.lemmas.Map.Keys.{apart_from_distinct}
use Rattle.std.proofs.lemmas.Option.{slice_get_within, get_or_from_slice_get}
use Rattle.rt_schema.specs.declared.value.Value.{Value}
use Rattle.rt_schema.specs.declared.value.Value.TheVariants.{Int, Long, Text, Bool as Truth, Time}
use Rattle.rt_schema.specs.contracts.value.ValuePartialEq.TheImpl as value_eq
use Rattle.rt_upsert.specs.Latest.{same_key}

abbrev same_value : Value → Value → Bool
same_value = value_eq.eq-value.it

value_is : (v w : Value) → same_value v w ≡ true → v ≡ w
value_is (Int a) (Int b) h = ap Int ((Decides-int_eq a b).0 h)
value_is (Int a) (Long b) h = absurd (true≢false (sym h))
value_is (Int a) (Text b) h = absurd (true≢false (sym h))
value_is (Int a) (Truth b) h = absurd (true≢false (sym h))
value_is (Int a) (Time b) h = absurd (true≢false (sym h))
value_is (Long a) (Int b) h = absurd (true≢false (sym h))
value_is (Long a) (Long b) h = ap Long ((Decides-int_eq a b).0 h)
value_is (Long a) (Text b) h = absurd (true≢false (sym h))
value_is (Long a) (Truth b) h = absurd (true≢false (sym h))
value_is (Long a) (Time b) h = absurd (true≢false (sym h))
value_is (Text a) (Int b) h = absurd (true≢false (sym h))
value_is (Text a) (Long b) h = absurd (true≢false (sym h))
value_is (Text a) (Text b) h = ap Text ((bytes_decides a b).0 h)
value_is (Text a) (Truth b) h = absurd (true≢false (sym h))
value_is (Text a) (Time b) h = absurd (true≢false (sym h))
value_is (Truth a) (Int b) h = absurd (true≢false (sym h))
value_is (Truth a) (Long b) h = absurd (true≢false (sym h))
value_is (Truth a) (Text b) h = absurd (true≢false (sym h))
value_is (Truth true) (Truth true) h = refl
value_is (Truth true) (Truth false) h = absurd (true≢false (sym h))
value_is (Truth false) (Truth true) h = absurd (true≢false (sym h))
value_is (Truth false) (Truth false) h = refl
value_is (Truth a) (Time b) h = absurd (true≢false (sym h))
value_is (Time a) (Int b) h = absurd (true≢false (sym h))
value_is (Time a) (Long b) h = absurd (true≢false (sym h))
value_is (Time a) (Text b) h = absurd (true≢false (sym h))
value_is (Time a) (Truth b) h = absurd (true≢false (sym h))
value_is (Time a) (Time b) h = ap Time ((Decides-int_eq a b).0 h)

value_self : (v : Value) → same_value v v ≡ true
value_self (Int a) = (Decides-int_eq a a).1 refl
value_self (Long a) = (Decides-int_eq a a).1 refl
value_self (Text a) = (bytes_decides a a).1 refl
value_self (Truth true) = refl
value_self (Truth false) = refl
value_self (Time a) = (Decides-int_eq a a).1 refl

value_decides : (v w : Value) → (same_value v w ≡ true → v ≡ w) × (v ≡ w → same_value v w ≡ true)
value_decides v w = (value_is v w, λ e. subst (λ x. same_value v x ≡ true) e (value_self v))

pub key_is : (k l : List Value) → same_key k l ≡ true → k ≡ l
key_is k l = (pointwise_decides value_decides k l).0

pub key_same : (k l : List Value) → k ≡ l → same_key k l ≡ true
key_same k l = (pointwise_decides value_decides k l).1

-- one key has one number
pub number_is : (numbers : List (List Value)) (i j : ℕ) (k : List Value) → IsDistinct same_key numbers → slice_get numbers i ≡ Some k → slice_get numbers j ≡ Some k → i ≡ j
number_is numbers i j k apart at there = by_order (nat_cmp i j) (ranked i j (nat_cmp i j) refl)
  where
    clash : (m n : ℕ) → slice_get numbers m ≡ Some k → slice_get numbers n ≡ Some k → m < n → ⊥
    clash m n here other less =
        true≢false
        (sym (key_same (get_or numbers m k) (get_or numbers n k) (get_or_from_slice_get numbers m k k here ∙ sym (get_or_from_slice_get numbers n k k other)))
        ∙ apart_from_distinct same_key numbers m n k apart less (slice_get_within numbers n k other))

    by_order : (o : Ordering) → MatchOrdering o (i < j) (i ≡ j) (j < i) → i ≡ j
    by_order Less m = absurd (clash i j at there m)
    by_order Equal m = m
    by_order Greater m = absurd (clash j i there at m)
