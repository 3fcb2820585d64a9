-- One step of a walk over two lists, and its end.
use Rattle.std.proofs.Common.{◌≡◌, ℕ, zero, suc, ◌+◌, ◌<◌, ◌≤◌, true, false, List, [], ◌∷◌, ◌++◌, length, take, drop, get_or, slice_get, slice_set, Some, refl, sym, ap, ◌∙◌, subst, arith}
use Rattle.std.specs.Prelude.{◌==◌, if◌then◌else◌, slice_index_or}
use Rattle.std.proofs.lemmas.Option.{get_or_from_slice_get, slice_get_within}
use Rattle.std.specs.declared.cmp.Ordering.{Ordering}
use Rattle.std.specs.declared.cmp.Ordering.TheVariants.{Less, Equal, Greater}
use Rattle.std.specs.Ordering.{ordering_then}
use Rattle.rt_schema.specs.declared.value.Value.{Value}
use Rattle.rt_schema.specs.declared.value.Value.TheVariants.{Bool as Truth}
use Rattle.rt_model.specs.declared.answer.Cell.{Cell}
use Rattle.rt_model.specs.declared.answer.Cell.TheVariants as cell
use Rattle.rt_model.specs.declared.query_parts.ColumnAt.{ColumnAt}
use Rattle.rt_model.specs.declared.query_parts.OrderKey.{OrderKey}
use Rattle.rt_model.specs.Aggregate.{value_of_key, first_cell, later_cells, order_cmp, directed_cmp}
use Rattle.rt_model.specs.Values.{value_cmp, key_cmp}
use Rattle.rt_agg.specs.GroupTable.{all_merged_in}
use Rattle.rt_agg.specs.ResultHolder.{merged_in}
use Rattle.rt_agg.specs.declared.result_holder.ResultHolder.{ResultHolder}

drop_end : {X : Type 0} (xs : List X) (i : ℕ) → length xs ≤ i → drop i xs ≡ []
drop_end [] zero le = refl
drop_end [] (suc i) le = refl
drop_end (x ∷ xs) zero le = absurd (omega arith)
drop_end (x ∷ xs) (suc i) le = drop_end xs i (omega (arith, le))

drop_here : {X : Type 0} (xs : List X) (i : ℕ) (d : X) → i < length xs → drop i xs ≡ get_or xs i d ∷ drop (suc i) xs
drop_here [] i d lt = absurd (omega arith)
drop_here (x ∷ xs) zero d lt = refl
drop_here (x ∷ xs) (suc i) d lt = drop_here xs i d (omega (arith, lt))

drop_none : (i : ℕ) → drop {A = ResultHolder} i [] ≡ []
drop_none zero = refl
drop_none (suc i) = refl

one_more : (i : ℕ) → suc i ≡ i + 1
one_more i = omega arith

-- ---- cells by the keys of ORDER BY

first_at : (cs : List Cell) (i : ℕ) → first_cell (drop i cs) ≡ slice_index_or cs i cell.Null
first_at [] zero = refl
first_at [] (suc i) = refl
first_at (c ∷ cs) zero = refl
first_at (c ∷ cs) (suc i) = first_at cs i

later_at : (cs : List Cell) (i : ℕ) → later_cells (drop i cs) ≡ drop (suc i) cs
later_at [] zero = refl
later_at [] (suc i) = refl
later_at (c ∷ cs) zero = refl
later_at (c ∷ cs) (suc i) = later_at cs i

pub order_here : (order : List OrderKey) (one other : List Cell) (i : ℕ) (k : OrderKey) → i < length order → k ≡ get_or order i k
    → order_cmp (drop i order) (drop i one) (drop i other)
    ≡ ordering_then (directed_cmp k.descending (slice_index_or one i cell.Null) (slice_index_or other i cell.Null)) (order_cmp (drop (suc i) order) (drop (suc i) one) (drop (suc i) other))
order_here order one other i k lt at =
    (λ j. order_cmp ((drop_here order i k lt ∙ ap (λ x. x ∷ drop (suc i) order) (sym at)) j) (drop i one) (drop i other))
    ∙ (λ j. ordering_then (directed_cmp k.descending (first_at one i j) (first_at other i j)) (order_cmp (drop (suc i) order) (later_at one i j) (later_at other i j)))

pub order_next : (order : List OrderKey) (one other : List Cell) (i : ℕ) (k : OrderKey) → i < length order → k ≡ get_or order i k
    → directed_cmp k.descending (slice_index_or one i cell.Null) (slice_index_or other i cell.Null) ≡ Equal
    → order_cmp (drop i order) (drop i one) (drop i other) ≡ order_cmp order one other
    → order_cmp (drop (i + 1) order) (drop (i + 1) one) (drop (i + 1) other) ≡ order_cmp order one other
order_next order one other i k lt at level before =
    let here = order_here order one other i k lt at in
    let rest = order_cmp (drop (suc i) order) (drop (suc i) one) (drop (suc i) other) in
    let tied : order_cmp (drop i order) (drop i one) (drop i other) ≡ rest = here ∙ ap (λ o. ordering_then o rest) level in
    subst (λ n. order_cmp (drop n order) (drop n one) (drop n other) ≡ order_cmp order one other) (one_more i) (sym tied ∙ before)

drop_at : {X : Type 0} (xs : List X) (i : ℕ) (x : X) → slice_get xs i ≡ Some x → drop i xs ≡ x ∷ drop (suc i) xs
drop_at xs i x at = drop_here xs i x (slice_get_within xs i x at) ∙ ap (λ y. y ∷ drop (suc i) xs) (get_or_from_slice_get xs i x x at)

-- ---- keys

key_here : (one other : List Value) (i : ℕ) (v w : Value) → slice_get one i ≡ Some v → slice_get other i ≡ Some w
    → key_cmp (drop i one) (drop i other) ≡ ordering_then (value_cmp v w) (key_cmp (drop (suc i) one) (drop (suc i) other))
key_here one other i v w at found = λ j. key_cmp (drop_at one i v at j) (drop_at other i w found j)

pub key_next : (one other : List Value) (i : ℕ) (v w : Value) → slice_get one i ≡ Some v → slice_get other i ≡ Some w → value_cmp v w ≡ Equal
    → key_cmp (drop i one) (drop i other) ≡ key_cmp one other → key_cmp (drop (i + 1) one) (drop (i + 1) other) ≡ key_cmp one other
key_next one other i v w at found level before =
    let rest = key_cmp (drop (suc i) one) (drop (suc i) other) in
    subst (λ n. key_cmp (drop n one) (drop n other) ≡ key_cmp one other) (one_more i)
    (sym (key_here one other i v w at found ∙ ap (λ o. ordering_then o rest) level) ∙ before)

pub key_past : (one other : List Value) (i : ℕ) → i < length one → length other ≤ i → key_cmp (drop i one) (drop i other) ≡ Greater
key_past one other i lt le = λ j. key_cmp (drop_here one i (Truth false) lt j) (drop_end other i le j)

-- the first values that differ decide
pub key_apart : (one other : List Value) (i : ℕ) (v w : Value) (o : Ordering) → slice_get one i ≡ Some v → slice_get other i ≡ Some w → o ≡ value_cmp v w → (o ≡ Equal → ⊥)
    → key_cmp (drop i one) (drop i other) ≡ key_cmp one other → o ≡ key_cmp one other
key_apart one other i v w o at found is unlike before =
    let rest = key_cmp (drop (suc i) one) (drop (suc i) other) in
    sym (first_counts o rest unlike) ∙ ap (λ p. ordering_then p rest) is ∙ sym (key_here one other i v w at found) ∙ before
  where
    first_counts : (o p : Ordering) → (o ≡ Equal → ⊥) → ordering_then o p ≡ o
    first_counts Less p unlike = refl
    first_counts Equal p unlike = absurd (unlike refl)
    first_counts Greater p unlike = refl

pub key_short : (one other : List Value) (i : ℕ) → length one ≤ i → i < length other → key_cmp (drop i one) (drop i other) ≡ Less
key_short one other i le lt = λ j. key_cmp (drop_end one i le j) (drop_here other i (Truth false) lt j)

-- ---- the value of a column in a key

value_here : (columns : List ColumnAt) (key : List Value) (i : ℕ) (c : ColumnAt) (v : Value) (column : ColumnAt) → i < length columns → c ≡ get_or columns i c → drop i key ≡ v ∷ drop (suc i) key
    → value_of_key (drop i columns) (drop i key) column ≡ value_of_key (c ∷ drop (suc i) columns) (v ∷ drop (suc i) key) column
value_here columns key i c v column lt at found =
    λ j. value_of_key ((drop_here columns i c lt ∙ ap (λ x. x ∷ drop (suc i) columns) (sym at)) j) (found j) column

-- the column at a place is the one that is asked for
pub value_found : (columns : List ColumnAt) (key : List Value) (i : ℕ) (c : ColumnAt) (v : Value) (column : ColumnAt) → i < length columns → c ≡ get_or columns i c → slice_get key i ≡ Some v
    → (c.place == column.place) ≡ true → value_of_key (drop i columns) (drop i key) column ≡ value_of_key columns key column → v ≡ value_of_key columns key column
value_found columns key i c v column lt at found same before =
    let rest = value_of_key (drop (suc i) columns) (drop (suc i) key) column in
    sym (value_here columns key i c v column lt at (drop_at key i v found) ∙ ap (λ b. if b then v else rest) same) ∙ before

-- it is another
pub value_next : (columns : List ColumnAt) (key : List Value) (i : ℕ) (c column : ColumnAt) → i < length columns → c ≡ get_or columns i c → i < length key
    → (c.place == column.place) ≡ false → value_of_key (drop i columns) (drop i key) column ≡ value_of_key columns key column
    → value_of_key (drop (i + 1) columns) (drop (i + 1) key) column ≡ value_of_key columns key column
value_next columns key i c column lt at less other before =
    let v = get_or key i (Truth false) in
    let rest = value_of_key (drop (suc i) columns) (drop (suc i) key) column in
    subst (λ n. value_of_key (drop n columns) (drop n key) column ≡ value_of_key columns key column) (one_more i)
    (sym (value_here columns key i c v column lt at (drop_here key i (Truth false) less) ∙ ap (λ b. if b then v else rest) other) ∙ before)

-- ---- holders merged with others

module _ (group from : ℕ) where
  pub merged_here : (all others : List ResultHolder) (i : ℕ) (a b : ResultHolder) → slice_get all i ≡ Some a → slice_get others i ≡ Some b
      → take (suc i) (slice_set all i (merged_in group from a b)) ++ all_merged_in group from (drop (suc i) (slice_set all i (merged_in group from a b))) (drop (suc i) others)
      ≡ take i all ++ all_merged_in group from (drop i all) (drop i others)
  merged_here [] others i a b p q = absurd (omega (arith, slice_get_within {A = ResultHolder} [] i a p))
  merged_here (x ∷ all) [] i a b p q = absurd (omega (arith, slice_get_within {A = ResultHolder} [] i b q))
  merged_here (x ∷ all) (y ∷ others) zero a b p q =
      λ j. merged_in group from (sym (get_or_from_slice_get (x ∷ all) 0 a a p) j) (sym (get_or_from_slice_get (y ∷ others) 0 b b q) j) ∷ all_merged_in group from all others
  merged_here (x ∷ all) (y ∷ others) (suc i) a b p q = ap (λ t. x ∷ t) (merged_here all others i a b p q)

  pub merged_past : (all others : List ResultHolder) (i : ℕ) → length all ≤ i → take (suc i) all ++ all_merged_in group from (drop (suc i) all) (drop (suc i) others) ≡ take i all ++ all_merged_in group from (drop i all) (drop i others)
  merged_past [] others zero le = refl
  merged_past [] others (suc i) le = refl
  merged_past (x ∷ all) others zero le = absurd (omega arith)
  merged_past (x ∷ all) [] (suc i) le =
      (λ j. x ∷ (take (suc i) all ++ all_merged_in group from (drop (suc i) all) (sym (drop_none (suc i)) j))) ∙ ap (λ t. x ∷ t) (merged_past all [] i (omega (arith, le))) ∙ (λ j. x ∷ (take i all ++ all_merged_in group from (drop i all) (drop_none i j)))
  merged_past (x ∷ all) (y ∷ others) (suc i) le = ap (λ t. x ∷ t) (merged_past all others i (omega (arith, le)))

  pub merged_end : (all others : List ResultHolder) (i : ℕ) → length others ≤ i → take i all ++ all_merged_in group from (drop i all) (drop i others) ≡ all
  merged_end [] others zero le = refl
  merged_end [] others (suc i) le = refl
  merged_end (x ∷ all) [] zero le = refl
  merged_end (x ∷ all) (y ∷ others) zero le = absurd (omega arith)
  merged_end (x ∷ all) [] (suc i) le =
      (λ j. x ∷ (take i all ++ all_merged_in group from (drop i all) (sym (drop_none i) j))) ∙ ap (λ t. x ∷ t) (merged_end all [] i (omega arith))
  merged_end (x ∷ all) (y ∷ others) (suc i) le = ap (λ t. x ∷ t) (merged_end all others i (omega (arith, le)))

  -- the step and the end of the loop, where `all` is what there was before a step, and `now` what is there after it
  pub merged_next : (all others goal : List ResultHolder) (i : ℕ) (a b : ResultHolder) → slice_get all i ≡ Some a → slice_get others i ≡ Some b
      → take i all ++ all_merged_in group from (drop i all) (drop i others) ≡ goal
      → take (i + 1) (slice_set all i (merged_in group from a b)) ++ all_merged_in group from (drop (i + 1) (slice_set all i (merged_in group from a b))) (drop (i + 1) others) ≡ goal
  merged_next all others goal i a b p q before =
      let now = slice_set all i (merged_in group from a b) in
      subst (λ n. take n now ++ all_merged_in group from (drop n now) (drop n others) ≡ goal) (one_more i) (merged_here all others i a b p q ∙ before)

  pub merged_skip : (all others goal : List ResultHolder) (i : ℕ) → length all ≤ i
      → take i all ++ all_merged_in group from (drop i all) (drop i others) ≡ goal
      → take (i + 1) all ++ all_merged_in group from (drop (i + 1) all) (drop (i + 1) others) ≡ goal
  merged_skip all others goal i le before =
      subst (λ n. take n all ++ all_merged_in group from (drop n all) (drop n others) ≡ goal) (one_more i) (merged_past all others i le ∙ before)
