-- Keys in a set: they are compared as the orders of values say.
use Rattle.std.proofs.Common.{◌≡◌, Bool, true, false, cond, List, [], ◌∷◌, ◌++◌, Some, refl, sym, ap, ◌∙◌, true≢false}
use Rattle.std.specs.Cmp.Lexicographic.{lists_ties, pointwise}
use Rattle.std.specs.List.{find, list_any}
use Rattle.std.specs.Prelude.{unwrap_or, is_some, if◌then◌else◌}
use Rattle.std.specs.Ordering.{is_eq}
use Rattle.std.proofs.lemmas.Map.Text.{is_eq-slice_cmp}
use Rattle.indexmap.specs.IndexSet.{insert_key}
use Rattle.rt_schema.specs.declared.value.Value.{Value}
use Rattle.rt_schema.specs.declared.value.Value.TheVariants.{Int, Long, Text, Bool as Truth, Time}
use Rattle.rt_schema.specs.contracts.value.ValuePartialEq.TheImpl as impl
use Rattle.rt_model.specs.Values.{value_cmp}
use Rattle.rt_agg.specs.Grouped.{same_key}
use Rattle.rt_agg.proofs.Holding.{same_is}

abbrev same_value : Value → Value → Bool
same_value = impl.eq-value.it

-- ---- the derived test of values

value_ties : (v w : Value) → same_value v w ≡ is_eq (value_cmp v w)
value_ties (Int a) (Int b) = refl
value_ties (Int a) (Long b) = refl
value_ties (Int a) (Text b) = refl
value_ties (Int a) (Truth b) = refl
value_ties (Int a) (Time b) = refl
value_ties (Long a) (Int b) = refl
value_ties (Long a) (Long b) = refl
value_ties (Long a) (Text b) = refl
value_ties (Long a) (Truth b) = refl
value_ties (Long a) (Time b) = refl
value_ties (Text a) (Int b) = refl
value_ties (Text a) (Long b) = refl
value_ties (Text a) (Text b) = sym (is_eq-slice_cmp a b)
value_ties (Text a) (Truth b) = refl
value_ties (Text a) (Time b) = refl
value_ties (Truth a) (Int b) = refl
value_ties (Truth a) (Long b) = refl
value_ties (Truth a) (Text b) = refl
value_ties (Truth true) (Truth true) = refl
value_ties (Truth true) (Truth false) = refl
value_ties (Truth false) (Truth true) = refl
value_ties (Truth false) (Truth false) = refl
value_ties (Truth a) (Time b) = refl
value_ties (Time a) (Int b) = refl
value_ties (Time a) (Long b) = refl
value_ties (Time a) (Text b) = refl
value_ties (Time a) (Truth b) = refl
value_ties (Time a) (Time b) = refl

abbrev pub eq_keys : List Value → List Value → Bool
eq_keys = pointwise same_value

pub eq_same : (k l : List Value) → eq_keys k l ≡ same_key k l
eq_same = lists_ties value_cmp value_ties

found_test : {X : Type 0} (test : X → Bool) (xs : List X) (x : X) → find test xs ≡ Some x → test x ≡ true
found_test test [] x e = absurd (true≢false (sym (ap is_some e)))
found_test test (y ∷ xs) x e = by (test y) refl e (found_test test xs x)
  where
    by : (b : Bool) → test y ≡ b → cond b (Some y) (find test xs) ≡ Some x → (find test xs ≡ Some x → test x ≡ true) → test x ≡ true
    by true t h rest = ap test (sym (ap (λ o. unwrap_or o x) h)) ∙ t
    by false t h rest = rest h

-- the key that is found is the key that was asked for
pub found_same : (q : List Value) (ks : List (List Value)) (k : List Value) → find (eq_keys q) ks ≡ Some k → k ≡ q
found_same q ks k e = sym (same_is q k (sym (eq_same q k) ∙ found_test (eq_keys q) ks k e))

pub any_same : (q : List Value) (ks : List (List Value)) → list_any (eq_keys q) ks ≡ list_any (same_key q) ks
any_same q ks = λ i. list_any (λ k. eq_same q k i) ks

-- the keys after one that isn't there
pub keys_last : (ks : List (List Value)) (k : List Value) → list_any (same_key k) ks ≡ false → insert_key eq_keys ks k ≡ ks ++ k ∷ []
keys_last ks k none = ap (λ b. if b then ks else ks ++ k ∷ []) (any_same k ks ∙ none)
