-- The rows that equal literals, by the rows of the values that the literals are.
use Rattle.std.proofs.Common.{◌≡◌, ℕ, zero, suc, ◌+◌, ◌<◌, ◌≤◌, Bool, false, List, [], ◌∷◌, length, map, take, drop, replicate, get_or, Option, Some, None, refl, ap, sym, ◌∙◌, arith}
use Rattle.std.specs.Prelude.{◌||◌, option_map}
use Rattle.std.specs.List.{take-map}
use Rattle.std.specs.declared.cmp.Ordering.{Ordering}
use Rattle.std.proofs.lemmas.List.{length-map, length-take, get_or_default, get_or-take, take_min, drop_more, drop_all, same_lists}
use Rattle.std.proofs.lemmas.Option.{same_Some, none-some}
use Rattle.rt_schema.specs.declared.column.Kind.{Kind}
use Rattle.rt_schema.specs.declared.value.Value.{Value}
use Rattle.rt_schema.specs.declared.value.Value.TheVariants.{Int, Long, Text, Bool as Truth, Time}
use Rattle.rt_schema.specs.Value.{kind_of}
use Rattle.rt_dict.specs.Order.{IsStrictOrder, int_order, text_order, bool_order}
use Rattle.rt_model.specs.declared.query_parts.Comparison.TheVariants.{Equal}
use Rattle.rt_model.specs.declared.query_parts.Literal.{Literal}
use Rattle.rt_model.specs.Match.{accepted, compares, is_one_of}
use Rattle.rt_model.specs.Values.{against, number_against, text_against, truth_against}
use Rattle.rt_mutable.specs.Column.{same_value, values_in, kind_in}
use Rattle.rt_mutable.specs.declared.column_values.ColumnValues.{ColumnValues}
use Rattle.rt_mutable.specs.declared.column_values.ColumnValues.TheVariants.{Int as Ints, Long as Longs, Text as Texts, Bool as Truths, Time as Times}
use Rattle.rt_mutable.specs.RowLists.{numbers_from, numbers_where}
use Rattle.rt_mutable.proofs.Same.{same_laws, same_exact}
use Rattle.rt_postings.specs.DocSet.{either}
use Rattle.rt_seek.specs.KeyLaws.{int_stands, long_stands, text_stands, truth_stands}
use Rattle.rt_seek.specs.Keys.{StandsTo, same_key, int_of, long_of, text_of, truth_of}
use Rattle.rt_seek.specs.RowSets.{with_rows}
use Rattle.rt_seek.specs.Sought.{value_sought}
use Rattle.rt_seek.proofs.Keys.{bool_same, accepted_by, same_itself, same_is}
use Rattle.rt_seek.proofs.Posted.{among, kept_below, kept_first, kept_later, length_with_rows, get_with_rows}
use Rattle.rt_seek.proofs.Sets.{map_agree, map_map, length_either, get_or_either, either_assoc, either_maps, either_none, none_either}

-- a row is among those that pass where its value does
module _ {X : Type 0} (t : X → Bool) where
  among_before : (n r : ℕ) (xs : List X) → r < n → among r (numbers_from t n xs) ≡ false
  among_before n r [] h = refl
  among_before n r (x ∷ xs) h = kept_below (t x) n (numbers_from t (n + 1) xs) r h (among_before (n + 1) r xs (omega (arith, h)))

  among_from : (n k : ℕ) (xs : List X) → k < length xs → among (n + k) (numbers_from t n xs) ≡ get_or (map t xs) k false
  among_from n k [] h = absurd (omega (arith, h))
  among_from n zero (x ∷ xs) h = kept_first (λ r. t x) (t x) n (numbers_from t (n + 1) xs) (n + 0) refl (omega arith) (among_before (n + 1) (n + 0) xs (omega arith))
  among_from n (suc k) (x ∷ xs) h =
      let moved : n + suc k ≡ (n + 1) + k = omega arith in
      kept_later (λ r. get_or (map t xs) k false) (t x) n (numbers_from t (n + 1) xs) (n + suc k) (λ e. omega (arith, e))
      (ap (λ r. among r (numbers_from t (n + 1) xs)) moved ∙ among_from (n + 1) k xs (omega (arith, h)))

  among_here : (k : ℕ) (xs : List X) → k < length xs → among k (numbers_where t xs) ≡ get_or (map t xs) k false
  among_here k xs h = let same : k ≡ 0 + k = omega arith in ap (λ r. among r (numbers_where t xs)) same ∙ among_from 0 k xs h

  -- with the rows that pass, a set has the first rows that pass
  with_passing : (s : List Bool) (xs : List X) → length s ≤ length xs → with_rows s (numbers_where t xs) ≡ either s (map t (take (length s) xs))
  with_passing s xs fits =
      let first = map t (take (length s) xs) in
      let size : length s ≡ length first = omega (arith, fits, length-map (take (length s) xs) t, length-take (length s) xs) in
      same_lists _ _ (length_with_rows s (numbers_where t xs) ∙ sym (length_either s first size)) (λ r d h.
      let inside : r < length s = omega (arith, h, length_with_rows s (numbers_where t xs)) in
      get_or_default (with_rows s (numbers_where t xs)) r d false h
      ∙ get_with_rows s (numbers_where t xs) r inside
      ∙ ap (λ b. get_or s r false || b) (among_here r xs (omega (arith, inside, fits)) ∙ sym (get_or-take (length s) (map t xs) r false inside) ∙ ap (λ ts. get_or ts r false) (take-map t (length s) xs))
      ∙ sym (get_or_either s first r false size inside)
      ∙ get_or_default (either s first) r false d (omega (arith, inside, length_either s first size)))

-- values that are the same one as a literal's compare as equal with the literal
module _ {K : Type 0} {below : K → K → Bool} (order : IsStrictOrder below) (f : K → Value) (inj : (a b : K) → f a ≡ f b → a ≡ b) (ag : K → Literal → Option Ordering) (key_of : Literal → Option K) (stands : (l : Literal) (key : K) → key_of l ≡ Some key → (v : K) → StandsTo below v key (ag v l)) (alike : (z : K) (l : Literal) → ag z l ≡ against (f z) l) where
  same_as_key : (key x : K) → same_value (f key) (f x) ≡ same_key below x key
  same_as_key key x = bool_same _ _
      (λ t. ap (λ k. same_key below x k) (inj key x (same_exact _ _ t)) ∙ same_itself order x)
      (λ t. ap (λ k. same_value (f key) (f k)) (same_is order key x t) ∙ same_laws.refl (f key))

  equal_to : (l : Literal) (key : K) → key_of l ≡ Some key → (x : K) → same_value (f key) (f x) ≡ compares Equal (f x) l
  equal_to l key e x = same_as_key key x ∙ sym (accepted_by below x key Equal (ag x l) (stands l key e x)) ∙ ap (accepted Equal) (alike x l)

  equal_by : (l : Literal) (v : Value) (n : ℕ) (zs : List K) (o : Option K) → key_of l ≡ o → option_map f o ≡ Some v → map (same_value v) (take n (map f zs)) ≡ map (λ x. compares Equal x l) (take n (map f zs))
  equal_by l v n zs None is e = absurd (none-some _ e)
  equal_by l v n zs (Some key) is e =
      ap (λ w. map (same_value w) (take n (map f zs))) (sym (same_Some _ _ e))
      ∙ ap (map (same_value (f key))) (take-map f n zs)
      ∙ map_map (same_value (f key)) f (take n zs)
      ∙ map_agree _ _ (equal_to l key is) (take n zs)
      ∙ sym (map_map (λ x. compares Equal x l) f (take n zs))
      ∙ ap (map (λ x. compares Equal x l)) (sym (take-map f n zs))

pub equal_in : (vs : ColumnValues) (l : Literal) (v : Value) (n : ℕ) → value_sought (kind_in vs) l ≡ Some v → map (same_value v) (take n (values_in vs)) ≡ map (λ x. compares Equal x l) (take n (values_in vs))
equal_in (Ints zs) l v n e = equal_by int_order Int (λ a b h. cc) number_against int_of int_stands (λ z m. refl) l v n zs (int_of l) refl e
equal_in (Longs zs) l v n e = equal_by int_order Long (λ a b h. cc) number_against long_of long_stands (λ z m. refl) l v n zs (long_of l) refl e
equal_in (Texts zs) l v n e = equal_by text_order Text (λ a b h. cc) text_against text_of text_stands (λ z m. refl) l v n zs (text_of l) refl e
equal_in (Truths zs) l v n e = equal_by bool_order Truth (λ a b h. cc) truth_against truth_of truth_stands (λ z m. refl) l v n zs (truth_of l) refl e
equal_in (Times zs) l v n e = equal_by int_order Time (λ a b h. cc) number_against long_of long_stands (λ z m. refl) l v n zs (long_of l) refl e

kind_mapped : {K : Type 0} (f : K → Value) (kind : Kind) → ((x : K) → kind_of (f x) ≡ kind) → (o : Option K) (v : Value) → option_map f o ≡ Some v → kind_of v ≡ kind
kind_mapped f kind is None v e = absurd (none-some _ e)
kind_mapped f kind is (Some x) v e = ap kind_of (sym (same_Some _ _ e)) ∙ is x

pub kind_sought : (kind : Kind) (l : Literal) (v : Value) → value_sought kind l ≡ Some v → kind_of v ≡ kind
kind_sought Kind.Int l v e = kind_mapped Int Kind.Int (λ x. refl) (int_of l) v e
kind_sought Kind.Long l v e = kind_mapped Long Kind.Long (λ x. refl) (long_of l) v e
kind_sought Kind.Text l v e = kind_mapped Text Kind.Text (λ x. refl) (text_of l) v e
kind_sought Kind.Bool l v e = kind_mapped Truth Kind.Bool (λ x. refl) (truth_of l) v e
kind_sought Kind.Time l v e = kind_mapped Time Kind.Time (λ x. refl) (long_of l) v e

-- what a loop over literals has found among the first rows
module _ (xs : List Value) (rows : ℕ) (ls : List Literal) where
  -- what is found, and then what the literals from a place on find
  abbrev pub found_with : ℕ → List Bool → List Bool
  found_with i s = either s (map (λ v. is_one_of v (drop i ls)) (take rows xs))

  abbrev pub all_found : List Bool
  all_found = map (λ v. is_one_of v ls) (take rows xs)

  pub found_start : (n : ℕ) → n ≡ length (take rows xs) → found_with 0 (replicate n false) ≡ all_found
  found_start n e = ap (λ m. found_with 0 (replicate m false)) e ∙ none_either (λ v. is_one_of v ls) (take rows xs)

  pub found_more : (s : List Bool) (i : ℕ) (l : Literal) (v : Value) → length s ≡ length (take rows xs) → i < length ls → l ≡ get_or ls i l →
      map (same_value v) (take rows xs) ≡ map (λ x. compares Equal x l) (take rows xs) →
      found_with (i + 1) (with_rows s (numbers_where (same_value v) xs)) ≡ found_with i s
  found_more s i l v size h here equal =
      let first = take rows xs in
      let later = map (λ x. is_one_of x (drop (i + 1) ls)) first in
      let whole : take (length s) xs ≡ first = ap (λ n. take n xs) (size ∙ length-take rows xs) ∙ take_min rows xs in
      ap (λ bs. either bs later) (with_passing (same_value v) s xs (omega (arith, size, length-take rows xs)) ∙ ap (λ ys. either s (map (same_value v) ys)) whole ∙ ap (either s) equal)
      ∙ either_assoc s (map (λ x. compares Equal x l) first) later
      ∙ ap (either s) (either_maps (λ x. compares Equal x l) (λ x. is_one_of x (drop (i + 1) ls)) first)
      ∙ ap (λ ms. either s (map (λ x. is_one_of x ms) first)) (ap (λ m. m ∷ drop (i + 1) ls) here ∙ sym (drop_more ls i l h))

  pub found_end : (s : List Bool) (i : ℕ) → length s ≡ length (take rows xs) → length ls ≤ i → found_with i s ≡ all_found → s ≡ all_found
  found_end s i size past e =
      sym (ap (λ ms. either s (map (λ v. is_one_of v ms) (take rows xs))) (drop_all i ls past) ∙ either_none s (take rows xs) size) ∙ e
