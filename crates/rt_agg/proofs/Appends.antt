-- What is known of two lists of rows, one after the other.
use Rattle.std.proofs.Common.{◌≡◌, ℕ, ◌+◌, ◌<◌, ◌+ℤ◌, Bool, true, false, List, [], ◌∷◌, ◌++◌, length, map, Option, Some, None, refl, sym, ap, ◌∙◌, true≢false, length-append}
use Rattle.std.specs.Prelude.{nat_lt, is_some, unwrap_or, IsSome, option_and_then, option_map, if◌then◌else◌, slice_get}
use Rattle.std.proofs.lemmas.Option.{unwrap_or-slice_get}
use Rattle.std.proofs.lemmas.Bool.{lt-ltb}
use Rattle.std.proofs.Math.IntN.{+ℤ_assoc, +ℤ_idl, +ℤ_idr}
use Rattle.std.specs.List.{AllByRecursion}
use Rattle.std.proofs.lemmas.Cmp.{upto}
use Rattle.std.specs.declared.cmp.Ordering.{Ordering}
use Rattle.std.specs.declared.cmp.Ordering.TheVariants.{Less, Equal, Greater}
use Rattle.std.specs.Ordering.{is_gt, ordering_reverse}
use Rattle.rt_schema.specs.declared.row.Row.{Row}
use Rattle.rt_schema.specs.declared.value.Value.{Value}
use Rattle.rt_schema.specs.declared.value.Value.TheVariants.{Int, Long, Text, Bool as Truth, Time}
use Rattle.rt_model.specs.declared.query_parts.Aggregate.TheVariants as kind
use Rattle.rt_model.specs.declared.query_parts.ColumnAt.{ColumnAt}
use Rattle.rt_model.specs.declared.query_parts.Item.{Item}
use Rattle.rt_model.specs.declared.query_parts.Item.TheVariants as item
use Rattle.rt_model.specs.Aggregate.{sum_of, least_of, greatest_of, lesser, greater}
use Rattle.rt_model.specs.Match.{value_in}
use Rattle.rt_model.specs.Values.{number_of, value_cmp}
use Rattle.rt_agg.specs.Accumulator.{Count, Sum, Min, Max}
use Rattle.rt_agg.specs.declared.scalar.Scalar.{Scalar}
use Rattle.rt_agg.specs.declared.scalar.Scalar.TheVariants as scalar
use Rattle.rt_agg.specs.Accumulators.{known_of, least_with, greatest_with, merged, all_merged, with_row, with_scalar}
use Rattle.rt_agg.specs.Grouped.{FitsItem}
use Rattle.rt_agg.specs.Reading.{scalar_of, scalar_at, value_from}
use Rattle.rt_agg.specs.Summed.{Summed}
use Rattle.rt_agg.specs.Totals.{joined, counted}
use Rattle.rt_agg.proofs.Orders.{value_total}

-- ---- sums

pub sum_append : (column : ColumnAt) (rs ss : List Row) → sum_of column (rs ++ ss) ≡ sum_of column rs +ℤ sum_of column ss
sum_append column [] ss = sym (+ℤ_idl (sum_of column ss))
sum_append column (r ∷ rs) ss =
    ap (λ z. number_of (value_in r column) +ℤ z) (sum_append column rs ss)
    ∙ sym (+ℤ_assoc (number_of (value_in r column)) (sum_of column rs) (sum_of column ss))

yes_below : (m n : ℕ) → m < n → nat_lt m n ≡ true
yes_below m n lt = lt-ltb m n lt

-- ---- the least and the greatest of scalars

abbrev above : Scalar → Scalar → Bool
above s t = is_gt (value_cmp (value_from s) (value_from t))

module _ {X : Type 0} (gt : X → X → Bool)
    (chain : (a b c : X) → gt a b ≡ true → gt b c ≡ true → gt a c ≡ true)
    (level : (a b c : X) → gt a b ≡ false → gt b c ≡ false → gt a c ≡ false) where
  abbrev pick : X → X → X
  pick a b = if gt a b then b else a

  picked : (a b c : X) (p q r : Bool) → gt a b ≡ p → gt b c ≡ q → gt a c ≡ r → pick (pick a b) c ≡ pick a (pick b c)
  picked a b c true true r e f g =
      let h = chain a b c e f in
      (λ j. pick (if e j then b else a) c) ∙ (λ j. if f j then c else b) ∙ sym ((λ j. pick a (if f j then c else b)) ∙ (λ j. if h j then c else a))
  picked a b c true false r e f g =
      (λ j. pick (if e j then b else a) c) ∙ (λ j. if f j then c else b) ∙ sym ((λ j. pick a (if f j then c else b)) ∙ (λ j. if e j then b else a))
  picked a b c false true r e f g =
      (λ j. pick (if e j then b else a) c) ∙ sym (λ j. pick a (if f j then c else b))
  picked a b c false false r e f g =
      let h = level a b c e f in
      (λ j. pick (if e j then b else a) c) ∙ (λ j. if h j then c else a) ∙ sym ((λ j. pick a (if f j then c else b)) ∙ (λ j. if e j then b else a))

  pub pick_assoc : (a b c : X) → pick (pick a b) c ≡ pick a (pick b c)
  pick_assoc a b c = picked a b c (gt a b) (gt b c) (gt a c) refl refl refl

  abbrev pick_if : Option X → Option X → Option X
  pick_if None t = t
  pick_if (Some s) None = Some s
  pick_if (Some s) (Some t) = if gt s t then Some t else Some s

  some_if : (b : Bool) (x y : X) → (if b then Some y else Some x) ≡ Some (if b then y else x)
  some_if true x y = refl
  some_if false x y = refl

  pub pick_if_assoc : (a b c : Option X) → pick_if (pick_if a b) c ≡ pick_if a (pick_if b c)
  pick_if_assoc None b c = refl
  pick_if_assoc (Some a) None c = refl
  pick_if_assoc (Some a) (Some b) None =
      (λ j. pick_if (some_if (gt a b) a b j) None) ∙ sym (some_if (gt a b) a b)
  pick_if_assoc (Some a) (Some b) (Some c) =
      (λ j. pick_if (some_if (gt a b) a b j) (Some c)) ∙ some_if (gt (pick a b) c) (pick a b) c ∙ ap Some (pick_assoc a b c)
      ∙ sym ((λ j. pick_if (Some a) (some_if (gt b c) b c j)) ∙ some_if (gt a (pick b c)) a (pick b c))

gt_greater : (o : Ordering) → is_gt o ≡ true → o ≡ Greater
gt_greater Less e = absurd (true≢false (sym e))
gt_greater Equal e = absurd (true≢false (sym e))
gt_greater Greater e = refl

above_chain : (a b c : Scalar) → above a b ≡ true → above b c ≡ true → above a c ≡ true
above_chain a b c e f =
    let va = value_from a in
    let vb = value_from b in
    let vc = value_from c in
    let cb : value_cmp vc vb ≡ Less = value_total.antisymm vc vb ∙ ap ordering_reverse (gt_greater (value_cmp vb vc) f) in
    let ba : value_cmp vb va ≡ Less = value_total.antisymm vb va ∙ ap ordering_reverse (gt_greater (value_cmp va vb) e) in
    ap is_gt (value_total.antisymm va vc ∙ ap ordering_reverse (value_total.trans vc vb va cb ba))

above_level : (a b c : Scalar) → above a b ≡ false → above b c ≡ false → above a c ≡ false
above_level a b c e f = upto value_total (value_from a) (value_from b) (value_from c) e f

abbrev below : Scalar → Scalar → Bool
below s t = above t s

below_chain : (a b c : Scalar) → below a b ≡ true → below b c ≡ true → below a c ≡ true
below_chain a b c e f = above_chain c b a f e

below_level : (a b c : Scalar) → below a b ≡ false → below b c ≡ false → below a c ≡ false
below_level a b c e f = above_level c b a f e

least_is : (a b : Option Scalar) → least_with a b ≡ pick_if above above_chain above_level a b
least_is None b = refl
least_is (Some a) None = refl
least_is (Some a) (Some b) = refl

greatest_is : (a b : Option Scalar) → greatest_with a b ≡ pick_if below below_chain below_level a b
greatest_is None b = refl
greatest_is (Some a) None = refl
greatest_is (Some a) (Some b) = refl

least_assoc : (a b c : Option Scalar) → least_with (least_with a b) c ≡ least_with a (least_with b c)
least_assoc a b c =
    let pick = pick_if above above_chain above_level in
    (λ j. least_with (least_is a b j) c) ∙ least_is (pick a b) c ∙ pick_if_assoc above above_chain above_level a b c
    ∙ sym ((λ j. least_with a (least_is b c j)) ∙ least_is a (pick b c))

greatest_assoc : (a b c : Option Scalar) → greatest_with (greatest_with a b) c ≡ greatest_with a (greatest_with b c)
greatest_assoc a b c =
    let pick = pick_if below below_chain below_level in
    (λ j. greatest_with (greatest_is a b j) c) ∙ greatest_is (pick a b) c ∙ pick_if_assoc below below_chain below_level a b c
    ∙ sym ((λ j. greatest_with a (greatest_is b c j)) ∙ greatest_is a (pick b c))

-- ---- scalars of rows

abbrev shown : Option Scalar → Value
shown None = Truth false
shown (Some s) = value_from s

from_scalar : (v : Value) (s : Scalar) → scalar_of v ≡ Some s → v ≡ value_from s
from_scalar (Int n) s h = ap shown h
from_scalar (Long n) s h = ap shown h
from_scalar (Text t) s h = absurd (true≢false (sym (ap is_some h)))
from_scalar (Truth t) s h = absurd (true≢false (sym (ap is_some h)))
from_scalar (Time n) s h = ap shown h

from_read : (o : Option Value) (s : Scalar) (d : Value) → option_and_then scalar_of o ≡ Some s → unwrap_or o d ≡ value_from s
from_read None s d h = absurd (true≢false (sym (ap is_some h)))
from_read (Some v) s d h = from_scalar v s h

-- the value of a column in a row in which a scalar is read
pub value_read : (row : Row) (column : ColumnAt) (s : Scalar) → scalar_at row column.place ≡ Some s → value_in row column ≡ value_from s
value_read row column s h =
    sym (unwrap_or-slice_get row.values column.place (Truth false)) ∙ from_read (slice_get row.values column.place) s (Truth false) h

to_scalar : (s : Scalar) → scalar_of (value_from s) ≡ Some s
to_scalar (scalar.Int n) = refl
to_scalar (scalar.Long n) = refl
to_scalar (scalar.Time n) = refl

pub back_to : (t : Option Scalar) → option_and_then scalar_of (option_map value_from t) ≡ t
back_to None = refl
back_to (Some s) = to_scalar s

abbrev pub Reads : ColumnAt → Row → Type 0
Reads column row = IsSome (scalar_at row column.place)

abbrev pub least_scalar : ColumnAt → List Row → Option Scalar
least_scalar column [] = None
least_scalar column (r ∷ rs) = least_with (scalar_at r column.place) (least_scalar column rs)

abbrev pub greatest_scalar : ColumnAt → List Row → Option Scalar
greatest_scalar column [] = None
greatest_scalar column (r ∷ rs) = greatest_with (scalar_at r column.place) (greatest_scalar column rs)

either_value : (b : Bool) (s t : Scalar) → Some (if b then value_from t else value_from s) ≡ option_map value_from (if b then Some t else Some s)
either_value true s t = refl
either_value false s t = refl

lesser_scalar : (s : Scalar) (t : Option Scalar) → Some (lesser (value_from s) (option_map value_from t)) ≡ option_map value_from (least_with (Some s) t)
lesser_scalar s None = refl
lesser_scalar s (Some t) = either_value (above s t) s t

greater_scalar : (s : Scalar) (t : Option Scalar) → Some (greater (value_from s) (option_map value_from t)) ≡ option_map value_from (greatest_with (Some s) t)
greater_scalar s None = refl
greater_scalar s (Some t) = either_value (below s t) s t

some_is : {X : Type 0} (o : Option X) → IsSome o → (x : X) × (o ≡ Some x)
some_is None h = absurd (true≢false (sym h))
some_is (Some x) h = (x, refl)

pub least_read : (column : ColumnAt) (rows : List Row) → AllByRecursion (Reads column) rows → least_of column rows ≡ option_map value_from (least_scalar column rows)
least_read column [] all = refl
least_read column (r ∷ rs) all =
    let s = some_is (scalar_at r column.place) all.0 in
    (λ j. Some (lesser (value_read r column s.0 s.1 j) (least_read column rs all.1 j)))
    ∙ lesser_scalar s.0 (least_scalar column rs)
    ∙ (λ j. option_map value_from (least_with (sym s.1 j) (least_scalar column rs)))

pub greatest_read : (column : ColumnAt) (rows : List Row) → AllByRecursion (Reads column) rows → greatest_of column rows ≡ option_map value_from (greatest_scalar column rows)
greatest_read column [] all = refl
greatest_read column (r ∷ rs) all =
    let s = some_is (scalar_at r column.place) all.0 in
    (λ j. Some (greater (value_read r column s.0 s.1 j) (greatest_read column rs all.1 j)))
    ∙ greater_scalar s.0 (greatest_scalar column rs)
    ∙ (λ j. option_map value_from (greatest_with (sym s.1 j) (greatest_scalar column rs)))

pub least_known : (column : ColumnAt) (rows : List Row) → AllByRecursion (Reads column) rows → option_and_then scalar_of (least_of column rows) ≡ least_scalar column rows
least_known column rows all = ap (option_and_then scalar_of) (least_read column rows all) ∙ back_to (least_scalar column rows)

pub greatest_known : (column : ColumnAt) (rows : List Row) → AllByRecursion (Reads column) rows → option_and_then scalar_of (greatest_of column rows) ≡ greatest_scalar column rows
greatest_known column rows all = ap (option_and_then scalar_of) (greatest_read column rows all) ∙ back_to (greatest_scalar column rows)

least_append : (column : ColumnAt) (rs ss : List Row) → least_scalar column (rs ++ ss) ≡ least_with (least_scalar column rs) (least_scalar column ss)
least_append column [] ss = refl
least_append column (r ∷ rs) ss =
    ap (least_with (scalar_at r column.place)) (least_append column rs ss)
    ∙ sym (least_assoc (scalar_at r column.place) (least_scalar column rs) (least_scalar column ss))

greatest_append : (column : ColumnAt) (rs ss : List Row) → greatest_scalar column (rs ++ ss) ≡ greatest_with (greatest_scalar column rs) (greatest_scalar column ss)
greatest_append column [] ss = refl
greatest_append column (r ∷ rs) ss =
    ap (greatest_with (scalar_at r column.place)) (greatest_append column rs ss)
    ∙ sym (greatest_assoc (scalar_at r column.place) (greatest_scalar column rs) (greatest_scalar column ss))

pub both_fit : {X : Type 0} (P : X → Type 0) (xs ys : List X) → AllByRecursion P xs → AllByRecursion P ys → AllByRecursion P (xs ++ ys)
both_fit P [] ys a b = b
both_fit P (x ∷ xs) ys a b = (a.0, both_fit P xs ys a.1 b)

-- ---- what is known of one item

count_append : (rs ss : List Row) → length rs + length ss < 9223372036854775808 → length (rs ++ ss) ≡ counted (length rs) (length ss)
count_append rs ss few =
    length-append rs ss ∙ sym (ap (λ b. if b then length rs + length ss else length rs) (yes_below (length rs + length ss) 9223372036854775808 few))

abbrev summed : ColumnAt → List Row → Summed
summed column rows = record { rows = length rows; sum = sum_of column rows }

total_append : (column : ColumnAt) (rs ss : List Row) → length rs + length ss < 9223372036854775808 → summed column (rs ++ ss) ≡ joined (summed column rs) (summed column ss)
total_append column rs ss few =
    (λ j. record { rows = length-append rs ss j; sum = sum_append column rs ss j })
    ∙ sym (ap (λ b. if b then record { rows = length rs + length ss; sum = sum_of column rs +ℤ sum_of column ss } else summed column rs) (yes_below (length rs + length ss) 9223372036854775808 few))

pub item_append : (columns : List ColumnAt) (key : List Value) (rs ss : List Row) (i : Item)
    → AllByRecursion (λ r. FitsItem r i) rs → AllByRecursion (λ r. FitsItem r i) ss → length rs + length ss < 9223372036854775808
    → known_of columns key (rs ++ ss) i ≡ merged (known_of columns key rs i) (known_of columns key ss i)
item_append columns key rs ss (item.Column column) f g few = refl
item_append columns key rs ss (item.Aggregate kind.Count) f g few = ap Count (count_append rs ss few)
item_append columns key rs ss (item.Aggregate (kind.Sum column)) f g few = ap (Sum column.place) (total_append column rs ss few)
item_append columns key rs ss (item.Aggregate (kind.Min column)) f g few =
    ap (Min column.place)
    (least_known column (rs ++ ss) (both_fit (Reads column) rs ss f g) ∙ least_append column rs ss
    ∙ sym (λ j. least_with (least_known column rs f j) (least_known column ss g j)))
item_append columns key rs ss (item.Aggregate (kind.Max column)) f g few =
    ap (Max column.place)
    (greatest_known column (rs ++ ss) (both_fit (Reads column) rs ss f g) ∙ greatest_append column rs ss
    ∙ sym (λ j. greatest_with (greatest_known column rs f j) (greatest_known column ss g j)))

-- ---- what is known of all items

pub heads : (i : Item) (is : List Item) (rows : List Row) → AllByRecursion (λ r. AllByRecursion (FitsItem r) (i ∷ is)) rows → AllByRecursion (λ r. FitsItem r i) rows × AllByRecursion (λ r. AllByRecursion (FitsItem r) is) rows
heads i is [] all = (tt, tt)
heads i is (r ∷ rs) all =
    let rest = heads i is rs all.1 in
    ((all.0.0, rest.0), (all.0.1, rest.1))

pub items_append : (columns : List ColumnAt) (key : List Value) (rs ss : List Row) (is : List Item)
    → AllByRecursion (λ r. AllByRecursion (FitsItem r) is) rs → AllByRecursion (λ r. AllByRecursion (FitsItem r) is) ss → length rs + length ss < 9223372036854775808
    → map (known_of columns key (rs ++ ss)) is ≡ all_merged (map (known_of columns key rs) is) (map (known_of columns key ss) is)
items_append columns key rs ss [] f g few = refl
items_append columns key rs ss (i ∷ is) f g few =
    let f' = heads i is rs f in
    let g' = heads i is ss g in
    λ j. item_append columns key rs ss i f'.0 g'.0 few j ∷ items_append columns key rs ss is f'.1 g'.1 few j

-- one more row
row_merged : (columns : List ColumnAt) (key : List Value) (rs : List Row) (row : Row) (i : Item) → FitsItem row i
    → with_row row (known_of columns key rs i) ≡ merged (known_of columns key rs i) (known_of columns key (row ∷ []) i)
row_merged columns key rs row (item.Column column) f = refl
row_merged columns key rs row (item.Aggregate kind.Count) f = refl
row_merged columns key rs row (item.Aggregate (kind.Sum column)) f =
    let s = some_is (scalar_at row column.place) f in
    let t = summed column rs in
    let number : number_of (value_from s.0) ≡ sum_of column (row ∷ []) =
    ap number_of (sym (value_read row column s.0 s.1)) ∙ sym (+ℤ_idr (number_of (value_in row column))) in
    ap (Sum column.place)
    ((λ j. with_scalar (s.1 j) t) ∙ (λ j. joined t (record { rows = 1; sum = number j })))
row_merged columns key rs row (item.Aggregate (kind.Min column)) f =
    ap (Min column.place)
    (ap (least_with (option_and_then scalar_of (least_of column rs))) (one_least (scalar_at row column.place) f ∙ sym (least_known column (row ∷ []) (f, tt))))
  where
    one_least : (o : Option Scalar) → IsSome o → o ≡ least_with o None
    one_least None h = refl
    one_least (Some s) h = refl
row_merged columns key rs row (item.Aggregate (kind.Max column)) f =
    ap (Max column.place)
    (ap (greatest_with (option_and_then scalar_of (greatest_of column rs))) (one_greatest (scalar_at row column.place) f ∙ sym (greatest_known column (row ∷ []) (f, tt))))
  where
    one_greatest : (o : Option Scalar) → IsSome o → o ≡ greatest_with o None
    one_greatest None h = refl
    one_greatest (Some s) h = refl

pub all_with_row : (columns : List ColumnAt) (key : List Value) (rs : List Row) (row : Row) (is : List Item) → AllByRecursion (FitsItem row) is
    → map (with_row row) (map (known_of columns key rs) is) ≡ all_merged (map (known_of columns key rs) is) (map (known_of columns key (row ∷ [])) is)
all_with_row columns key rs row [] f = refl
all_with_row columns key rs row (i ∷ is) f = λ j. row_merged columns key rs row i f.0 j ∷ all_with_row columns key rs row is f.1 j
