-- The results of all groups, sorted, are the ordered results of the rows.
use Rattle.std.proofs.Common.{◌≡◌, Bool, true, false, ◌||◌, ◌⊎◌, inl, inr, List, [], ◌∷◌, refl, sym, ap, ◌∙◌, subst, true≢false}
use Rattle.std.specs.Prelude.{if◌then◌else◌}
use Rattle.std.specs.List.{AllByRecursion, list_any}
use Rattle.std.specs.declared.cmp.Ordering.{Ordering}
use Rattle.std.specs.declared.cmp.Ordering.TheVariants.{Less, Equal, Greater}
use Rattle.std.specs.Ordering.{is_eq, is_gt, match_ordering, ordering_reverse}
use Rattle.rt_schema.specs.declared.row.Row.{Row}
use Rattle.rt_schema.specs.declared.value.Value.{Value}
use Rattle.rt_model.specs.declared.query_parts.ColumnAt.{ColumnAt}
use Rattle.rt_model.specs.declared.query_parts.OrderKey.{OrderKey}
use Rattle.rt_model.specs.Aggregate.{Result, with_key, keys_in, keys_of as row_keys, key_of, has_key, result_cmp, placed, ordered}
use Rattle.rt_model.specs.Values.{key_cmp}
use Rattle.rt_agg.specs.Grouped.{same_key, makes_group}
use Rattle.rt_agg.proofs.Holding.{keys_equiv, same_is}
use Rattle.rt_agg.proofs.Orders.{key_total, key_same, result_total}
use Rattle.rt_agg.proofs.Sorting.{Has, Ascends, Apart, all_map}

-- ---- the keys of rows

module _ (P : List Value → Type 0) where
  all_with_key : (key : List Value) (ks : List (List Value)) → P key → AllByRecursion P ks → AllByRecursion P (with_key key ks)
  all_with_key key [] p all = (p, tt)
  all_with_key key (k ∷ ks) p all = by (key_cmp key k) (all_with_key key ks p all.1)
    where
      by : (o : Ordering) → AllByRecursion P (with_key key ks) → AllByRecursion P (match_ordering o (key ∷ (k ∷ ks)) (k ∷ ks) (k ∷ with_key key ks))
      by Less rest = (p, all)
      by Equal rest = all
      by Greater rest = (all.0, rest)

with_key_ascends : (key : List Value) (ks : List (List Value)) → Ascends key_cmp ks → Ascends key_cmp (with_key key ks)
with_key_ascends key [] a = (tt, tt)
with_key_ascends key (k ∷ ks) a = by (key_cmp key k) refl (with_key_ascends key ks a.1)
  where
    by : (o : Ordering) → key_cmp key k ≡ o → Ascends key_cmp (with_key key ks) → Ascends key_cmp (match_ordering o (key ∷ (k ∷ ks)) (k ∷ ks) (k ∷ with_key key ks))
    by Less e rest = ((e, all_map (λ l. key_cmp k l ≡ Less) (λ l. key_cmp key l ≡ Less) (λ l f. key_total.trans key k l e f) ks a.0), a)
    by Equal e rest = a
    by Greater e rest = (all_with_key (λ l. key_cmp k l ≡ Less) key ks (key_total.antisymm k key ∙ ap ordering_reverse e) a.0, rest)

keys_in_ascend : (columns : List ColumnAt) (rows : List Row) → Ascends key_cmp (keys_in columns rows)
keys_in_ascend columns [] = tt
keys_in_ascend columns (r ∷ rs) = with_key_ascends (key_of columns r) (keys_in columns rs) (keys_in_ascend columns rs)

pub row_keys_ascend : (columns : List ColumnAt) (rows : List Row) → Ascends key_cmp (row_keys columns rows)
row_keys_ascend [] rows = (tt, tt)
row_keys_ascend (c ∷ cs) rows = keys_in_ascend (c ∷ cs) rows

-- a key is put in, and the others stay
has_put : (key : List Value) (ks : List (List Value)) → Has (with_key key ks) key
has_put key [] = inl refl
has_put key (k ∷ ks) = by (key_cmp key k) refl (has_put key ks)
  where
    by : (o : Ordering) → key_cmp key k ≡ o → Has (with_key key ks) key → Has (match_ordering o (key ∷ (k ∷ ks)) (k ∷ ks) (k ∷ with_key key ks)) key
    by Less e rest = inl refl
    by Equal e rest = inl (sym (key_same key k e))
    by Greater e rest = inr rest

has_kept : (key : List Value) (ks : List (List Value)) (z : List Value) → Has ks z → Has (with_key key ks) z
has_kept key [] z h = absurd h
has_kept key (k ∷ ks) z h = by (key_cmp key k) h (has_kept key ks z)
  where
    by : (o : Ordering) → (k ≡ z) ⊎ Has ks z → (Has ks z → Has (with_key key ks) z) → Has (match_ordering o (key ∷ (k ∷ ks)) (k ∷ ks) (k ∷ with_key key ks)) z
    by Less g rest = inr g
    by Equal g rest = g
    by Greater (inl e) rest = inl e
    by Greater (inr g) rest = inr (rest g)

from_with_key : (key : List Value) (ks : List (List Value)) (z : List Value) → Has (with_key key ks) z → (key ≡ z) ⊎ Has ks z
from_with_key key [] z (inl e) = inl e
from_with_key key [] z (inr h) = absurd h
from_with_key key (k ∷ ks) z h = by (key_cmp key k) h (from_with_key key ks z)
  where
    by : (o : Ordering) → Has (match_ordering o (key ∷ (k ∷ ks)) (k ∷ ks) (k ∷ with_key key ks)) z → (Has (with_key key ks) z → (key ≡ z) ⊎ Has ks z) → (key ≡ z) ⊎ ((k ≡ z) ⊎ Has ks z)
    by Less (inl e) rest = inl e
    by Less (inr g) rest = inr g
    by Equal g rest = inr g
    by Greater (inl e) rest = inr (inl e)
    by Greater (inr g) rest = later (rest g)
      where
        later : (key ≡ z) ⊎ Has ks z → (key ≡ z) ⊎ ((k ≡ z) ⊎ Has ks z)
        later (inl e) = inl e
        later (inr h) = inr (inr h)

has_from_rows : (columns : List ColumnAt) (rows : List Row) (key : List Value) → list_any (has_key columns key) rows ≡ true → Has (keys_in columns rows) key
has_from_rows columns [] key e = absurd (true≢false (sym e))
has_from_rows columns (r ∷ rs) key e = by (same_key (key_of columns r) key) refl e (has_from_rows columns rs key)
  where
    by : (b : Bool) → same_key (key_of columns r) key ≡ b → (b || list_any (has_key columns key) rs) ≡ true → (list_any (has_key columns key) rs ≡ true → Has (keys_in columns rs) key) → Has (with_key (key_of columns r) (keys_in columns rs)) key
    by true s h rest = subst (λ k. Has (with_key (key_of columns r) (keys_in columns rs)) k) (same_is (key_of columns r) key s) (has_put (key_of columns r) (keys_in columns rs))
    by false s h rest = has_kept (key_of columns r) (keys_in columns rs) key (rest h)

rows_from_has : (columns : List ColumnAt) (rows : List Row) (key : List Value) → Has (keys_in columns rows) key → list_any (has_key columns key) rows ≡ true
rows_from_has columns [] key h = absurd h
rows_from_has columns (r ∷ rs) key h = by (from_with_key (key_of columns r) (keys_in columns rs) key h) (rows_from_has columns rs key)
  where
    or_true : (a b : Bool) → b ≡ true → (a || b) ≡ true
    or_true true b e = refl
    or_true false b e = e

    by : (key_of columns r ≡ key) ⊎ Has (keys_in columns rs) key → (Has (keys_in columns rs) key → list_any (has_key columns key) rs ≡ true) → (same_key (key_of columns r) key || list_any (has_key columns key) rs) ≡ true
    by (inl e) rest = ap (λ b. b || list_any (has_key columns key) rs) (ap (same_key (key_of columns r)) (sym e) ∙ keys_equiv.refl (key_of columns r))
    by (inr g) rest = or_true (same_key (key_of columns r) key) (list_any (has_key columns key) rs) (rest g)

-- the keys of the rows are those of which the rows make a group
pub row_keys_has : (columns : List ColumnAt) (rows : List Row) (key : List Value) → makes_group columns rows key ≡ true → Has (row_keys columns rows) key
row_keys_has [] rows key e = inl (sym (same_is key [] e))
row_keys_has (c ∷ cs) rows key e = has_from_rows (c ∷ cs) rows key e

pub row_keys_makes : (columns : List ColumnAt) (rows : List Row) (key : List Value) → Has (row_keys columns rows) key → makes_group columns rows key ≡ true
row_keys_makes [] rows key (inl e) = ap (λ k. same_key k []) (sym e) ∙ keys_equiv.refl []
row_keys_makes [] rows key (inr h) = absurd h
row_keys_makes (c ∷ cs) rows key h = rows_from_has (c ∷ cs) rows key h

-- ---- ordered results

module _ (order : List OrderKey) where
  abbrev cmp : Result → Result → Ordering
  cmp = result_cmp order

  all_placed : (P : Result → Type 0) (r : Result) (ss : List Result) → P r → AllByRecursion P ss → AllByRecursion P (placed order r ss)
  all_placed P r [] p all = (p, tt)
  all_placed P r (s ∷ ss) p all = by (is_gt (cmp r s)) (all_placed P r ss p all.1)
    where
      by : (b : Bool) → AllByRecursion P (placed order r ss) → AllByRecursion P (if b then s ∷ placed order r ss else r ∷ (s ∷ ss))
      by true rest = (all.0, rest)
      by false rest = (p, all)

  pub all_ordered : (P : Result → Type 0) (rs : List Result) → AllByRecursion P rs → AllByRecursion P (ordered order rs)
  all_ordered P [] all = tt
  all_ordered P (r ∷ rs) all = all_placed P r (ordered order rs) all.0 (all_ordered P rs all.1)

  greater_back : (r s : Result) (o : Ordering) → cmp r s ≡ o → is_gt o ≡ true → cmp s r ≡ Less
  greater_back r s Greater e g = (result_total order).antisymm s r ∙ ap ordering_reverse e
  greater_back r s Less e g = absurd (true≢false (sym g))
  greater_back r s Equal e g = absurd (true≢false (sym g))

  not_greater : (o : Ordering) → is_gt o ≡ false → is_eq o ≡ false → o ≡ Less
  not_greater Less g e = refl
  not_greater Equal g e = absurd (true≢false e)
  not_greater Greater g e = absurd (true≢false g)

  placed_ascends : (r : Result) (ss : List Result) → AllByRecursion (λ s. is_eq (cmp r s) ≡ false) ss → Ascends cmp ss → Ascends cmp (placed order r ss)
  placed_ascends r [] apart a = (tt, tt)
  placed_ascends r (s ∷ ss) apart a = by (is_gt (cmp r s)) refl (placed_ascends r ss apart.1 a.1)
    where
      by : (b : Bool) → is_gt (cmp r s) ≡ b → Ascends cmp (placed order r ss) → Ascends cmp (if b then s ∷ placed order r ss else r ∷ (s ∷ ss))
      by true g rest = (all_placed (λ t. cmp s t ≡ Less) r ss (greater_back r s (cmp r s) refl g) a.0, rest)
      by false g rest =
          let less = not_greater (cmp r s) g apart.0 in
          ((less, all_map (λ t. cmp s t ≡ Less) (λ t. cmp r t ≡ Less) (λ t f. (result_total order).trans r s t less f) ss a.0), a)

  pub ordered_ascends : (rs : List Result) → Apart cmp (result_total order) rs → Ascends cmp (ordered order rs)
  ordered_ascends [] a = tt
  ordered_ascends (r ∷ rs) a =
      placed_ascends r (ordered order rs) (all_ordered (λ s. is_eq (cmp r s) ≡ false) rs a.0) (ordered_ascends rs a.1)

  has_placed : (r : Result) (ss : List Result) (z : Result) → Has (placed order r ss) z → (r ≡ z) ⊎ Has ss z
  has_placed r [] z (inl e) = inl e
  has_placed r [] z (inr h) = absurd h
  has_placed r (s ∷ ss) z h = by (is_gt (cmp r s)) h (has_placed r ss z)
    where
      later : (r ≡ z) ⊎ Has ss z → (r ≡ z) ⊎ ((s ≡ z) ⊎ Has ss z)
      later (inl e) = inl e
      later (inr g) = inr (inr g)

      by : (b : Bool) → Has (if b then s ∷ placed order r ss else r ∷ (s ∷ ss)) z → (Has (placed order r ss) z → (r ≡ z) ⊎ Has ss z) → (r ≡ z) ⊎ ((s ≡ z) ⊎ Has ss z)
      by true (inl e) rest = inr (inl e)
      by true (inr g) rest = later (rest g)
      by false (inl e) rest = inl e
      by false (inr g) rest = inr g

  placed_has : (r : Result) (ss : List Result) (z : Result) → (r ≡ z) ⊎ Has ss z → Has (placed order r ss) z
  placed_has r [] z h = h
  placed_has r (s ∷ ss) z h = by (is_gt (cmp r s)) h (placed_has r ss z)
    where
      by : (b : Bool) → (r ≡ z) ⊎ ((s ≡ z) ⊎ Has ss z) → ((r ≡ z) ⊎ Has ss z → Has (placed order r ss) z) → Has (if b then s ∷ placed order r ss else r ∷ (s ∷ ss)) z
      by true (inl e) rest = inr (rest (inl e))
      by true (inr (inl e)) rest = inl e
      by true (inr (inr g)) rest = inr (rest (inr g))
      by false h rest = h

  pub has_ordered : (rs : List Result) (z : Result) → Has (ordered order rs) z → Has rs z
  has_ordered [] z h = h
  has_ordered (r ∷ rs) z h = by (has_placed r (ordered order rs) z h) (has_ordered rs z)
    where
      by : (r ≡ z) ⊎ Has (ordered order rs) z → (Has (ordered order rs) z → Has rs z) → (r ≡ z) ⊎ Has rs z
      by (inl e) rest = inl e
      by (inr g) rest = inr (rest g)

  pub ordered_has : (rs : List Result) (z : Result) → Has rs z → Has (ordered order rs) z
  ordered_has [] z h = h
  ordered_has (r ∷ rs) z (inl e) = placed_has r (ordered order rs) z (inl e)
  ordered_has (r ∷ rs) z (inr h) = placed_has r (ordered order rs) z (inr (ordered_has rs z h))
