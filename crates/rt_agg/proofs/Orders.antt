-- The orders of values, cells and results are total, and keys that tie are the same.
use Rattle.std.proofs.Common.{◌≡◌, ℕ, ℤ, pos, Bool, true, false, List, [], ◌∷◌, refl, sym, ap, ◌∙◌, subst, true≢false}
use Rattle.std.proofs.lemmas.Cmp.{nat_cmp_total, int_cmp_total, nat_list_cmp_total, on_total, then_total, back_total, lists_total, int_ranked, upto}
use Rattle.std.proofs.lemmas.Map.Text.{is_eq-slice_cmp}
use Rattle.std.specs.Cmp.{IsTotalOrder, IsStrictWeakOrder, bool_cmp_total}
use Rattle.std.specs.Cmp.Lexicographic.{slice_cmp, bytes_decides}
use Rattle.std.specs.declared.cmp.Ordering.{Ordering}
use Rattle.std.specs.declared.cmp.Ordering.TheVariants.{Less, Equal, Greater}
use Rattle.std.specs.Ordering.{is_eq, is_gt, is_lt, ordering_reverse, ordering_then, nat_cmp, int_cmp, bool_cmp, on, then_cmp}
use Rattle.rt_schema.specs.declared.value.Value.{Value}
use Rattle.rt_schema.specs.declared.value.Value.TheVariants.{Int, Long, Text, Bool as Truth, Time}
use Rattle.rt_model.specs.declared.answer.Cell.{Cell}
use Rattle.rt_model.specs.declared.answer.Cell.TheVariants as cell
use Rattle.rt_model.specs.declared.query_parts.OrderKey.{OrderKey}
use Rattle.rt_model.specs.Aggregate.{Result, cell_cmp, directed_cmp, first_cell, later_cells, order_cmp, result_cmp}
use Rattle.rt_model.specs.Values.{rank, number_of, text_of, truth_of, value_cmp, key_cmp}

-- an order that answers as another does
pub total_same : {K : Type 0} {R S : K → K → Ordering} → ((x y : K) → R x y ≡ S x y) → IsTotalOrder S → IsTotalOrder R
total_same {K} {R} {S} same o = subst IsTotalOrder (λ i x y. sym (same x y) i) o

last : (o : Ordering) → ordering_then o Equal ≡ o
last Less = refl
last Equal = refl
last Greater = refl

abbrev by_parts : Value → Value → Ordering
by_parts = then_cmp (on rank nat_cmp) (then_cmp (on number_of int_cmp) (then_cmp (on text_of (slice_cmp nat_cmp)) (on truth_of bool_cmp)))

value_by_parts : (v w : Value) → value_cmp v w ≡ by_parts v w
value_by_parts (Int a) (Int b) = sym (last (int_cmp a b))
value_by_parts (Int a) (Long b) = refl
value_by_parts (Int a) (Text b) = refl
value_by_parts (Int a) (Truth b) = refl
value_by_parts (Int a) (Time b) = refl
value_by_parts (Long a) (Int b) = refl
value_by_parts (Long a) (Long b) = sym (last (int_cmp a b))
value_by_parts (Long a) (Text b) = refl
value_by_parts (Long a) (Truth b) = refl
value_by_parts (Long a) (Time b) = refl
value_by_parts (Text a) (Int b) = refl
value_by_parts (Text a) (Long b) = refl
value_by_parts (Text a) (Text b) = sym (last (slice_cmp nat_cmp a b))
value_by_parts (Text a) (Truth b) = refl
value_by_parts (Text a) (Time b) = refl
value_by_parts (Truth a) (Int b) = refl
value_by_parts (Truth a) (Long b) = refl
value_by_parts (Truth a) (Text b) = refl
value_by_parts (Truth a) (Truth b) = refl
value_by_parts (Truth a) (Time b) = refl
value_by_parts (Time a) (Int b) = refl
value_by_parts (Time a) (Long b) = refl
value_by_parts (Time a) (Text b) = refl
value_by_parts (Time a) (Truth b) = refl
value_by_parts (Time a) (Time b) = sym (last (int_cmp a b))

pub value_total : IsTotalOrder value_cmp
value_total = total_same value_by_parts (then_total (on_total rank nat_cmp_total) (then_total (on_total number_of int_cmp_total) (then_total (on_total text_of nat_list_cmp_total) (on_total truth_of bool_cmp_total))))

pub key_total : IsTotalOrder key_cmp
key_total = lists_total value_total

abbrev cell_rank : Cell → ℕ
cell_rank cell.Null = 0
cell_rank (cell.Whole n) = 1
cell_rank (cell.Value v) = 2

abbrev whole_in : Cell → ℤ
whole_in cell.Null = pos 0
whole_in (cell.Whole n) = n
whole_in (cell.Value v) = pos 0

abbrev shown_in : Cell → Value
shown_in cell.Null = Truth false
shown_in (cell.Whole n) = Truth false
shown_in (cell.Value v) = v

abbrev cell_parts : Cell → Cell → Ordering
cell_parts = then_cmp (on cell_rank nat_cmp) (then_cmp (on whole_in int_cmp) (on shown_in value_cmp))

cell_by_parts : (c d : Cell) → cell_cmp c d ≡ cell_parts c d
cell_by_parts cell.Null cell.Null = refl
cell_by_parts cell.Null (cell.Whole n) = refl
cell_by_parts cell.Null (cell.Value w) = refl
cell_by_parts (cell.Whole m) cell.Null = refl
cell_by_parts (cell.Whole m) (cell.Whole n) = sym (last (int_cmp m n))
cell_by_parts (cell.Whole m) (cell.Value w) = refl
cell_by_parts (cell.Value v) cell.Null = refl
cell_by_parts (cell.Value v) (cell.Whole n) = refl
cell_by_parts (cell.Value v) (cell.Value w) = refl

pub cell_total : IsTotalOrder cell_cmp
cell_total = total_same cell_by_parts (then_total (on_total cell_rank nat_cmp_total) (then_total (on_total whole_in int_cmp_total) (on_total shown_in value_total)))

directed_total : (descending : Bool) → IsTotalOrder (directed_cmp descending)
directed_total true = total_same (λ c d. refl) (back_total cell_total)
directed_total false = total_same (λ c d. refl) cell_total

pub order_total : (order : List OrderKey) → IsTotalOrder (order_cmp order)
order_total [] = record { antisymm = λ x y. refl; trans = λ x y z p q. p; congr = λ x y z p. refl }
order_total (k ∷ ks) =
    total_same (λ cs ds. refl)
    (then_total (on_total first_cell (directed_total k.descending)) (on_total later_cells (order_total ks)))

pub result_total : (order : List OrderKey) → IsTotalOrder (result_cmp order)
result_total order =
    total_same (λ r s. refl)
    (then_total (on_total (λ r. r.order) (order_total order)) (on_total (λ r. r.key) key_total))

-- ---- ties

both_level : (o p : Ordering) → ordering_then o p ≡ Equal → (o ≡ Equal) × (p ≡ Equal)
both_level Less p e = absurd (true≢false (sym (ap is_eq e)))
both_level Equal p e = (refl, e)
both_level Greater p e = absurd (true≢false (sym (ap is_eq e)))

unlike : {X : Type 0} (o : Ordering) → is_eq o ≡ false → o ≡ Equal → X
unlike o f e = absurd (true≢false (sym (ap is_eq e) ∙ f))

same_bool : (a b : Bool) → bool_cmp a b ≡ Equal → a ≡ b
same_bool true true e = refl
same_bool true false e = unlike Greater refl e
same_bool false true e = unlike Less refl e
same_bool false false e = refl

same_text : (s t : List ℕ) → slice_cmp nat_cmp s t ≡ Equal → s ≡ t
same_text s t e = (bytes_decides s t).0 (sym (is_eq-slice_cmp s t) ∙ ap is_eq e)

pub value_same : (v w : Value) → value_cmp v w ≡ Equal → v ≡ w
value_same (Int a) (Int b) e = ap Int (int_ranked a b Equal (sym e))
value_same (Int a) (Long b) e = unlike Less refl e
value_same (Int a) (Text b) e = unlike Less refl e
value_same (Int a) (Truth b) e = unlike Less refl e
value_same (Int a) (Time b) e = unlike Less refl e
value_same (Long a) (Int b) e = unlike Greater refl e
value_same (Long a) (Long b) e = ap Long (int_ranked a b Equal (sym e))
value_same (Long a) (Text b) e = unlike Less refl e
value_same (Long a) (Truth b) e = unlike Less refl e
value_same (Long a) (Time b) e = unlike Less refl e
value_same (Text a) (Int b) e = unlike Greater refl e
value_same (Text a) (Long b) e = unlike Greater refl e
value_same (Text a) (Text b) e = ap Text (same_text a b e)
value_same (Text a) (Truth b) e = unlike Less refl e
value_same (Text a) (Time b) e = unlike Less refl e
value_same (Truth a) (Int b) e = unlike Greater refl e
value_same (Truth a) (Long b) e = unlike Greater refl e
value_same (Truth a) (Text b) e = unlike Greater refl e
value_same (Truth a) (Truth b) e = ap Truth (same_bool a b e)
value_same (Truth a) (Time b) e = unlike Less refl e
value_same (Time a) (Int b) e = unlike Greater refl e
value_same (Time a) (Long b) e = unlike Greater refl e
value_same (Time a) (Text b) e = unlike Greater refl e
value_same (Time a) (Truth b) e = unlike Greater refl e
value_same (Time a) (Time b) e = ap Time (int_ranked a b Equal (sym e))

-- keys that tie are the same key
pub key_same : (k l : List Value) → key_cmp k l ≡ Equal → k ≡ l
key_same [] [] e = refl
key_same [] (w ∷ l) e = unlike Less refl e
key_same (v ∷ k) [] e = unlike Greater refl e
key_same (v ∷ k) (w ∷ l) e =
    let both = both_level (value_cmp v w) (key_cmp k l) e in
    λ i. value_same v w both.0 i ∷ key_same k l both.1 i

pub result_key_same : (order : List OrderKey) (r s : Result) → result_cmp order r s ≡ Equal → r.key ≡ s.key
result_key_same order r s e = key_same r.key s.key (both_level (order_cmp order r.order s.order) (key_cmp r.key s.key) e).1

-- ---- what a sort asks for

turned_lt : (o : Ordering) → is_lt o ≡ is_gt (ordering_reverse o)
turned_lt Less = refl
turned_lt Equal = refl
turned_lt Greater = refl

lt_not_gt : (o : Ordering) → is_lt o ≡ true → is_gt o ≡ false
lt_not_gt Less e = refl
lt_not_gt Equal e = refl
lt_not_gt Greater e = absurd (true≢false (sym e))

pub weak_total : {K : Type 0} {R : K → K → Ordering} → IsTotalOrder R → IsStrictWeakOrder (λ x y. is_lt (R x y))
weak_total {K} {R} o =
    record {
      one_way = λ x y e. back y x ∙ lt_not_gt (R x y) e;
      chain = λ x y z e f. back x z ∙ upto o z y x (sym (back y z) ∙ f) (sym (back x y) ∙ e);
    }
  where
    back : (x y : K) → is_lt (R x y) ≡ is_gt (R y x)
    back x y = turned_lt (R x y) ∙ ap is_gt (sym (o.antisymm y x))
