-- How a value stands to a literal, beside how the least and the greatest value do.
use Rattle.std.proofs.Common.{◌≡◌, ℕ, ℤ, ◌-◌, ◌<◌, ◌≤◌, Bool, true, false, List, [], ◌∷◌, length, map, get_or, slice_get, Option, Some, None, refl, sym, ap, subst, ◌∙◌, inl, inr, arith}
use Rattle.std.specs.Prelude.{int_lt, cond, option_map, not}
use Rattle.std.specs.declared.cmp.Ordering.{Ordering}
use Rattle.std.specs.declared.cmp.Ordering.TheVariants.{Less, Equal, Greater}
use Rattle.std.specs.Ordering.{is_lt, is_le, is_gt, is_ge, nat_cmp, int_cmp, bool_cmp, ordering_reverse}
use Rattle.std.specs.Cmp.{IsTotalOrder, int_cmp_total, bool_cmp_total}
use Rattle.std.specs.Cmp.Lexicographic.{slice_cmp}
use Rattle.std.specs.BTreeMap.Comparable.{le_lt_trans}
use Rattle.std.proofs.lemmas.Bool.{cases_eq, false≢true, and_from}
use Rattle.std.proofs.lemmas.Cmp.{nat_list_cmp_total, tied_itself, tied_back}
use Rattle.std.proofs.lemmas.Option.{slice_get-get_or, slice_get-map, slice_get_within, same_Some}
use Rattle.rt_dict.specs.Order.{IsStrictOrder, bool_below, text_below, int_order, bool_order, text_order}
use Rattle.rt_dict.specs.Values.{IsAscending}
use Rattle.rt_dict.proofs.Ascending.{ascends}
use Rattle.rt_schema.specs.declared.value.Value.{Value}
use Rattle.rt_schema.specs.declared.value.Value.TheVariants as value
use Rattle.rt_model.specs.declared.query_parts.Comparison.{Comparison}
use Rattle.rt_model.specs.declared.query_parts.Comparison.TheVariants as comparison
use Rattle.rt_model.specs.declared.query_parts.Literal.{Literal}
use Rattle.rt_model.specs.declared.query_parts.Literal.TheVariants as literal
use Rattle.rt_model.specs.Match.{accepts, accepted, compares}
use Rattle.rt_model.specs.Values.{against, number_against, text_against, truth_against}
use Rattle.rt_segment.specs.declared.dictionary.Dictionary.{Dictionary}
use Rattle.rt_segment.specs.declared.dictionary.Dictionary.TheVariants.{Int, Long, Text, Bool as Truth, Time}
use Rattle.rt_segment.specs.Column.{IsDictionary, count_in, values_in}
use Rattle.rt_seek.specs.Table.{item_at}
use Rattle.rt_seek.proofs.Keys.{mapped_at}
use Rattle.rt_scan.specs.declared.standing.Standing.{Standing}
use Rattle.rt_scan.specs.Skips.{against_if, standing_by, standing_in, reaches, can_compare, can_lie, is_above}

-- what stands so to a literal can come before what stands so
abbrev pub up : Ordering → Ordering → Bool
up Less x = true
up Equal Less = false
up Equal Equal = true
up Equal Greater = true
up Greater Less = false
up Greater Equal = false
up Greater Greater = true

lt_back : (a x : Ordering) → up a x ≡ true → is_lt x ≡ true → is_lt a ≡ true
lt_back Less x u e = refl
lt_back Equal Less u e = u
lt_back Equal Equal u e = e
lt_back Equal Greater u e = e
lt_back Greater Less u e = u
lt_back Greater Equal u e = e
lt_back Greater Greater u e = e

le_back : (a x : Ordering) → up a x ≡ true → is_le x ≡ true → is_le a ≡ true
le_back Less x u e = refl
le_back Equal x u e = refl
le_back Greater Less u e = u
le_back Greater Equal u e = u
le_back Greater Greater u e = e

ge_on : (x b : Ordering) → up x b ≡ true → is_ge x ≡ true → is_ge b ≡ true
ge_on Less b u e = absurd (false≢true e)
ge_on Equal Less u e = u
ge_on Equal Equal u e = refl
ge_on Equal Greater u e = refl
ge_on Greater Less u e = u
ge_on Greater Equal u e = refl
ge_on Greater Greater u e = refl

gt_on : (x b : Ordering) → up x b ≡ true → is_gt x ≡ true → is_gt b ≡ true
gt_on Less b u e = absurd (false≢true e)
gt_on Equal b u e = absurd (false≢true e)
gt_on Greater Less u e = u
gt_on Greater Equal u e = u
gt_on Greater Greater u e = refl

-- one of two that is less or greater is not equal
lt_apart : (a b : Ordering) → is_lt a ≡ true → reaches comparison.NotEqual (record { least = a; greatest = b }) ≡ true
lt_apart Less b e = refl
lt_apart Equal b e = absurd (false≢true e)
lt_apart Greater b e = absurd (false≢true e)

gt_apart : (a b : Ordering) → is_gt b ≡ true → reaches comparison.NotEqual (record { least = a; greatest = b }) ≡ true
gt_apart Less b e = refl
gt_apart Greater b e = refl
gt_apart Equal Less e = refl
gt_apart Equal Equal e = absurd (false≢true e)
gt_apart Equal Greater e = refl

apart_reached : (a x b : Ordering) → up a x ≡ true → up x b ≡ true → accepts comparison.NotEqual x ≡ true → reaches comparison.NotEqual (record { least = a; greatest = b }) ≡ true
apart_reached a Less b u w e = lt_apart a b (lt_back a Less u refl)
apart_reached a Equal b u w e = absurd (false≢true e)
apart_reached a Greater b u w e = gt_apart a b (gt_on Greater b w refl)

same_reached : (a x b : Ordering) → up a x ≡ true → up x b ≡ true → accepts comparison.Equal x ≡ true → reaches comparison.Equal (record { least = a; greatest = b }) ≡ true
same_reached a Less b u w e = absurd (false≢true e)
same_reached a Equal b u w e = and_from _ _ (le_back a Equal u refl) (ge_on Equal b w refl)
same_reached a Greater b u w e = absurd (false≢true e)

-- what a value between two meets, they reach
reached : (c : Comparison) (a x b : Ordering) → up a x ≡ true → up x b ≡ true → accepts c x ≡ true → reaches c (record { least = a; greatest = b }) ≡ true
reached comparison.Equal a x b u w e = same_reached a x b u w e
reached comparison.NotEqual a x b u w e = apart_reached a x b u w e
reached comparison.Less a x b u w e = lt_back a x u e
reached comparison.AtMost a x b u w e = le_back a x u e
reached comparison.Greater a x b u w e = gt_on x b w e
reached comparison.AtLeast a x b u w e = ge_on x b w e

-- a value stands to a literal between the least and the greatest, where those stand to it
abbrev pub Framed : Option Standing → Option Ordering → Type 0
Framed None o = Unit {0}
Framed (Some s) o = (x : Ordering) × (o ≡ Some x) × (up s.least x ≡ true) × (up x s.greatest ≡ true)

reached_by : (c : Comparison) (s : Standing) (o : Option Ordering) → Framed (Some s) o → accepted c o ≡ true → reaches c s ≡ true
reached_by c s o f e = reached c s.least f.0 s.greatest f.2 f.3 (sym (ap (accepted c) f.1) ∙ e)

pub compared : (c : Comparison) (s : Option Standing) (o : Option Ordering) → Framed s o → accepted c o ≡ true → can_compare c s ≡ true
compared c None o f e = refl
compared c (Some s) o f e = reached_by c s o f e

pub lain : (s t : Option Standing) (o p : Option Ordering) (above : Bool) → Framed s o → Framed t p → accepted comparison.AtLeast o ≡ true → accepted comparison.AtMost p ≡ true → above ≡ false → can_lie s t above ≡ true
lain None t o p above f g d e n = refl
lain (Some s) None o p above f g d e n = refl
lain (Some s) (Some t) o p above f g d e n = and_from _ _ (ap not n) (and_from _ _ (reached_by comparison.AtLeast s o f d) (reached_by comparison.AtMost t p g e))

le_to_equal : (a : Ordering) → is_le a ≡ true → up a Equal ≡ true
le_to_equal Less e = refl
le_to_equal Equal e = refl
le_to_equal Greater e = e

up_to_greater : (a : Ordering) → up a Greater ≡ true
up_to_greater Less = refl
up_to_greater Equal = refl
up_to_greater Greater = refl

module _ {K : Type 0} {cmp : K → K → Ordering} (total : IsTotalOrder cmp) where
  -- of two values the smaller stands no higher
  rises : (x v l : K) → is_le (cmp x v) ≡ true → up (cmp x l) (cmp v l) ≡ true
  rises x v l le = by (cmp v l) refl
    where
      by : (o : Ordering) → cmp v l ≡ o → up (cmp x l) o ≡ true
      by Less e = ap (λ a. up a Less) (le_lt_trans total x v l le e)
      by Equal e = le_to_equal (cmp x l) (ap is_le (total.antisymm x l ∙ ap ordering_reverse (total.congr l v x (tied_back total v l e)) ∙ sym (total.antisymm x v)) ∙ le)
      by Greater e = up_to_greater (cmp x l)

  -- where a value lies between two, the low one is not above the high one
  ends_meet : (v low high : K) → is_ge (cmp v low) ≡ true → is_le (cmp v high) ≡ true → is_gt (cmp low high) ≡ false
  ends_meet v low high p q = by (cmp low high) refl
    where
      by : (o : Ordering) → cmp low high ≡ o → is_gt (cmp low high) ≡ false
      by Less e = ap is_gt e
      by Equal e = ap is_gt e
      by Greater e = absurd (false≢true (sym (ap is_ge (le_lt_trans total v high low q (total.antisymm high low ∙ ap ordering_reverse e))) ∙ p))

  module _ {below : K → K → Bool} (order : IsStrictOrder below) (lower : (x y : K) → below x y ≡ true → is_le (cmp x y) ≡ true) (xs : List K) (ascending : IsAscending below xs) where
    in_order : (i j : ℕ) (x y : K) → i ≤ j → slice_get xs i ≡ Some x → slice_get xs j ≡ Some y → is_le (cmp x y) ≡ true
    in_order i j x y le at_i at_j = elim (cases_eq i j) [
      | inl same ↦ ap is_le (subst (λ z. cmp x z ≡ Equal) (same_Some x y (sym at_i ∙ ap (slice_get xs) same ∙ at_j)) (tied_itself total x))
      | inr apart ↦ lower x y (ascends order xs ascending i j x y (omega arith) at_i at_j)
    ]

    -- so each value is framed by the first and the last
    framed_at : (f : K → Value) (l : Literal) (m : K) → ((k : K) → against (f k) l ≡ Some (cmp k m)) → (id : ℕ) (k : K) → slice_get xs id ≡ Some k →
        Framed (standing_by (against_if (slice_get (map f xs) 0) l) (against_if (slice_get (map f xs) (length xs - 1)) l)) (against (f k) l)
    framed_at f l m same id k at =
        let inside : id < length xs = slice_get_within xs id k at in
        let first : slice_get xs 0 ≡ Some (get_or xs 0 k) = slice_get-get_or xs 0 k (omega arith) in
        let last : slice_get xs (length xs - 1) ≡ Some (get_or xs (length xs - 1) k) = slice_get-get_or xs (length xs - 1) k (omega arith) in
        subst (λ a. Framed (standing_by a (against_if (slice_get (map f xs) (length xs - 1)) l)) (against (f k) l)) (sym (stands 0 _ first))
        (subst (λ b. Framed (standing_by (Some (cmp (get_or xs 0 k) m)) b) (against (f k) l)) (sym (stands (length xs - 1) _ last))
        (cmp k m, same k, rises _ k m (in_order 0 id _ k (omega arith) first at), rises k _ m (in_order id (length xs - 1) k _ (omega arith) at last)))
      where
        stands : (i : ℕ) (x : K) → slice_get xs i ≡ Some x → against_if (slice_get (map f xs) i) l ≡ Some (cmp x m)
        stands i x e = ap (λ o. against_if o l) (slice_get-map f xs i ∙ ap (option_map f) e) ∙ same x

    pub framed_by : (f : K → Value) (l : Literal) (m : K) → ((k : K) → against (f k) l ≡ Some (cmp k m)) → (id : ℕ) → id < length xs →
        Framed (standing_by (against_if (slice_get (map f xs) 0) l) (against_if (slice_get (map f xs) (length xs - 1)) l)) (against (item_at (map f xs) id) l)
    framed_by f l m same id inside = by xs refl
      where
        by : (ys : List K) → xs ≡ ys → Framed (standing_by (against_if (slice_get (map f xs) 0) l) (against_if (slice_get (map f xs) (length xs - 1)) l)) (against (item_at (map f xs) id) l)
        by [] e = absurd (omega (arith, inside, ap length e))
        by (y ∷ ys) e =
            let at : slice_get xs id ≡ Some (get_or xs id y) = slice_get-get_or xs id y inside in
            subst (λ v. Framed (standing_by (against_if (slice_get (map f xs) 0) l) (against_if (slice_get (map f xs) (length xs - 1)) l)) (against v l)) (sym (mapped_at f xs id (value.Bool false) (get_or xs id y) at)) (framed_at f l m same id (get_or xs id y) at)

-- a literal of another kind frames nothing
unframed : {K : Type 0} (f : K → Value) (l : Literal) → ((k : K) → against (f k) l ≡ None) → (xs : List K) (g o : Option Ordering) → Framed (standing_by (against_if (slice_get (map f xs) 0) l) g) o
unframed f l none [] g o = tt
unframed f l none (x ∷ xs) g o = subst (λ a. Framed (standing_by a g) o) (sym (none x)) tt

lt_le : (o : Ordering) → is_lt o ≡ true → is_le o ≡ true
lt_le Less e = refl
lt_le Equal e = refl
lt_le Greater e = e

int_lower : (x y : ℤ) → int_lt x y ≡ true → is_le (int_cmp x y) ≡ true
int_lower x y e = ap (λ b. is_le (cond b Less (cond (int_lt y x) Greater Equal))) e

text_lower : (x y : List ℕ) → text_below x y ≡ true → is_le (slice_cmp nat_cmp x y) ≡ true
text_lower x y e = lt_le _ e

truth_lower : (x y : Bool) → bool_below x y ≡ true → is_le (bool_cmp x y) ≡ true
truth_lower true true e = refl
truth_lower true false e = e
truth_lower false true e = refl
truth_lower false false e = refl

-- each value of a dictionary is framed by its least and its greatest
pub framed_in : (d : Dictionary) → IsDictionary d → (id : ℕ) → id < count_in d → (l : Literal) → Framed (standing_in d l) (against (item_at (values_in d) id) l)
framed_in (Int zs) is id h (literal.Int m) = framed_by int_cmp_total int_order int_lower zs is.1 value.Int (literal.Int m) m (λ k. refl) id h
framed_in (Int zs) is id h (literal.Text m) = unframed value.Int (literal.Text m) (λ k. refl) zs _ _
framed_in (Int zs) is id h (literal.Bool m) = unframed value.Int (literal.Bool m) (λ k. refl) zs _ _
framed_in (Long zs) is id h (literal.Int m) = framed_by int_cmp_total int_order int_lower zs is.1 value.Long (literal.Int m) m (λ k. refl) id h
framed_in (Long zs) is id h (literal.Text m) = unframed value.Long (literal.Text m) (λ k. refl) zs _ _
framed_in (Long zs) is id h (literal.Bool m) = unframed value.Long (literal.Bool m) (λ k. refl) zs _ _
framed_in (Text ts) is id h (literal.Int m) = unframed value.Text (literal.Int m) (λ k. refl) ts _ _
framed_in (Text ts) is id h (literal.Text m) = framed_by nat_list_cmp_total text_order text_lower ts is.1 value.Text (literal.Text m) m (λ k. refl) id h
framed_in (Text ts) is id h (literal.Bool m) = unframed value.Text (literal.Bool m) (λ k. refl) ts _ _
framed_in (Truth bs) is id h (literal.Int m) = unframed value.Bool (literal.Int m) (λ k. refl) bs _ _
framed_in (Truth bs) is id h (literal.Text m) = unframed value.Bool (literal.Text m) (λ k. refl) bs _ _
framed_in (Truth bs) is id h (literal.Bool m) = framed_by bool_cmp_total bool_order truth_lower bs is.1 value.Bool (literal.Bool m) m (λ k. refl) id h
framed_in (Time zs) is id h (literal.Int m) = framed_by int_cmp_total int_order int_lower zs is.1 value.Time (literal.Int m) m (λ k. refl) id h
framed_in (Time zs) is id h (literal.Text m) = unframed value.Time (literal.Text m) (λ k. refl) zs _ _
framed_in (Time zs) is id h (literal.Bool m) = unframed value.Time (literal.Bool m) (λ k. refl) zs _ _

number_between : (z : ℤ) (low high : Literal) → accepted comparison.AtLeast (number_against z low) ≡ true → accepted comparison.AtMost (number_against z high) ≡ true → is_above low high ≡ false
number_between z (literal.Int a) (literal.Int b) p q = ends_meet int_cmp_total z a b p q
number_between z (literal.Int a) (literal.Text b) p q = refl
number_between z (literal.Int a) (literal.Bool b) p q = refl
number_between z (literal.Text a) high p q = absurd (false≢true p)
number_between z (literal.Bool a) high p q = absurd (false≢true p)

text_between : (t : List ℕ) (low high : Literal) → accepted comparison.AtLeast (text_against t low) ≡ true → accepted comparison.AtMost (text_against t high) ≡ true → is_above low high ≡ false
text_between t (literal.Text a) (literal.Text b) p q = ends_meet nat_list_cmp_total t a b p q
text_between t (literal.Text a) (literal.Int b) p q = refl
text_between t (literal.Text a) (literal.Bool b) p q = refl
text_between t (literal.Int a) high p q = absurd (false≢true p)
text_between t (literal.Bool a) high p q = absurd (false≢true p)

truth_between : (t : Bool) (low high : Literal) → accepted comparison.AtLeast (truth_against t low) ≡ true → accepted comparison.AtMost (truth_against t high) ≡ true → is_above low high ≡ false
truth_between t (literal.Bool a) (literal.Bool b) p q = ends_meet bool_cmp_total t a b p q
truth_between t (literal.Bool a) (literal.Int b) p q = refl
truth_between t (literal.Bool a) (literal.Text b) p q = refl
truth_between t (literal.Int a) high p q = absurd (false≢true p)
truth_between t (literal.Text a) high p q = absurd (false≢true p)

-- where a value lies between two literals, the low one is not above the high one
pub not_above : (v : Value) (low high : Literal) → compares comparison.AtLeast v low ≡ true → compares comparison.AtMost v high ≡ true → is_above low high ≡ false
not_above (value.Int z) low high p q = number_between z low high p q
not_above (value.Long z) low high p q = number_between z low high p q
not_above (value.Text t) low high p q = text_between t low high p q
not_above (value.Bool t) low high p q = truth_between t low high p q
not_above (value.Time z) low high p q = number_between z low high p q
