-- The values of the columns of a file.
use Rattle.std.proofs.Common.{◌≡◌, ℕ, zero, suc, ◌<◌, ◌≤◌, Bool, false, not, List, [], ◌∷◌, length, map, replicate, slice_get, Option, Some, None, refl, ap, sym, ◌∙◌, inl, inr, arith, All}
use Rattle.std.specs.Prelude.{◌||◌, ◌&&◌}
use Rattle.std.specs.declared.cmp.Ordering.{Ordering}
use Rattle.std.proofs.Math.ListN.{get_or-map}
use Rattle.std.proofs.lemmas.Bool.{cases_lt}
use Rattle.std.proofs.lemmas.List.{length-map, get_or_default}
use Rattle.std.proofs.lemmas.List.Elements.{All-head, All-tail}
use Rattle.rt_dict.specs.Order.{IsStrictOrder, bool_order, int_order, text_order}
use Rattle.rt_dict.specs.Values.{IsAscending}
use Rattle.rt_dict.proofs.Ascending.{same_id}
use Rattle.rt_schema.specs.declared.value.Value.{Value}
use Rattle.rt_schema.specs.declared.value.Value.TheVariants as value
use Rattle.rt_agg.specs.Reading.{scalar_of}
use Rattle.rt_model.specs.declared.query_parts.Comparison.TheVariants.{Equal, AtMost, AtLeast}
use Rattle.rt_model.specs.declared.query_parts.Literal.{Literal}
use Rattle.rt_model.specs.Match.{accepted, is_one_of}
use Rattle.rt_model.specs.Values.{against}
use Rattle.rt_segment.specs.declared.dictionary.Dictionary.{Dictionary}
use Rattle.rt_segment.specs.declared.dictionary.Dictionary.TheVariants.{Int, Long, Text, Bool as Truth, Time}
use Rattle.rt_segment.specs.Column.{IsDictionary, count_in, values_in}
use Rattle.rt_seek.specs.declared.column_test.ColumnTest.{ColumnTest}
use Rattle.rt_seek.specs.declared.column_test.ColumnTest.TheVariants.{Compare, Between, OneOf, NoneOf}
use Rattle.rt_seek.specs.ColumnTest.{passes_test}
use Rattle.rt_seek.specs.Keys.{key_passes, equals_one}
use Rattle.rt_seek.specs.RowSets.{truth_at}
use Rattle.rt_seek.specs.Table.{item_at}
use Rattle.rt_seek.proofs.Sets.{map_agree, map_map}
use Rattle.rt_seek.proofs.Keys.{mapped_at}

-- a test on values is one on keys, where they stand to literals alike
module _ {K : Type 0} (f : K → Value) (ag : K → Literal → Option Ordering) (same : (z : K) (l : Literal) → ag z l ≡ against (f z) l) where
  one_alike : (z : K) (ls : List Literal) → equals_one ag z ls ≡ is_one_of (f z) ls
  one_alike z [] = refl
  one_alike z (l ∷ ls) = ap (λ o. accepted Equal o || equals_one ag z ls) (same z l) ∙ ap (λ b. accepted Equal (against (f z) l) || b) (one_alike z ls)

  pub passes_alike : (test : ColumnTest) (z : K) → key_passes ag test z ≡ passes_test test (f z)
  passes_alike (Compare comparison l) z = ap (accepted comparison) (same z l.now)
  passes_alike (Between low high) z = ap (λ o. accepted AtLeast o && accepted AtMost (ag z high.now)) (same z low.now) ∙ ap (λ o. accepted AtLeast (against (f z) low.now) && accepted AtMost o) (same z high.now)
  passes_alike (OneOf ls) z = one_alike z ls.now
  passes_alike (NoneOf ls) z = ap not (one_alike z ls.now)

  pub truths_alike : (test : ColumnTest) (zs : List K) → map (key_passes ag test) zs ≡ map (passes_test test) (map f zs)
  truths_alike test zs = map_agree (key_passes ag test) (λ z. passes_test test (f z)) (passes_alike test) zs ∙ sym (map_map (passes_test test) f zs)

pub count_is : (d : Dictionary) → length (values_in d) ≡ count_in d
count_is (Int zs) = length-map zs value.Int
count_is (Long zs) = length-map zs value.Long
count_is (Text zs) = length-map zs value.Text
count_is (Truth zs) = length-map zs value.Bool
count_is (Time zs) = length-map zs value.Time

map_agree_all : {X Y : Type 0} (P : X → Type 0) (f g : X → Y) → ((x : X) → P x → f x ≡ g x) → (xs : List X) → All P xs → map f xs ≡ map g xs
map_agree_all P f g same [] all = refl
map_agree_all P f g same (x ∷ xs) all = ap (λ y. y ∷ map f xs) (same x (All-head P x xs all)) ∙ ap (λ ys. g x ∷ ys) (map_agree_all P f g same xs (All-tail P x xs all))

-- the rows whose ids pass are those whose values pass
pub by_truths : (t : Value → Bool) (vals : List Value) (ids : List ℕ) (truths : List Bool) → truths ≡ map t vals → All (λ id. id < length vals) ids →
    map (truth_at truths) ids ≡ map t (map (λ id. item_at vals id) ids)
by_truths t vals ids truths e known =
    ap (λ ts. map (truth_at ts) ids) e
    ∙ map_agree_all (λ id. id < length vals) (truth_at (map t vals)) (λ id. t (item_at vals id)) (λ id h.
    get_or_default (map t vals) id false (t (value.Bool false)) (omega (arith, h, length-map vals t)) ∙ get_or-map t vals id (value.Bool false)) ids known
    ∙ sym (map_map t (λ id. item_at vals id) ids)

pub map_replicate : {X Y : Type 0} (f : X → Y) (n : ℕ) (x : X) → map f (replicate n x) ≡ replicate n (f x)
map_replicate f zero x = refl
map_replicate f (suc n) x = ap (λ ys. f x ∷ ys) (map_replicate f n x)

-- values of a kind that has no whole numbers
pub no_scalar : {K : Type 0} (f : K → Value) → ((x : K) → scalar_of (f x) ≡ None) → (xs : List K) (id : ℕ) → None ≡ scalar_of (item_at (map f xs) id)
no_scalar f none [] id = refl
no_scalar f none (x ∷ xs) zero = sym (none x)
no_scalar f none (x ∷ xs) (suc id) = no_scalar f none xs id

pub value_is : {K : Type 0} (f : K → Value) (xs : List K) (id : ℕ) (x : K) → slice_get xs id ≡ Some x → f x ≡ item_at (map f xs) id
value_is f xs id x at = sym (mapped_at f xs id (value.Bool false) x at)

-- ---- the least id of a value

item_there : {K : Type 0} (xs : List K) (i : ℕ) → i < length xs → (x : K) × (slice_get xs i ≡ Some x)
item_there [] i within = absurd (omega (arith, within))
item_there (x ∷ xs) zero within = (x, refl)
item_there (x ∷ xs) (suc i) within = item_there xs i (omega (arith, within))

module _ {K : Type 0} {below : K → K → Bool} (order : IsStrictOrder below) (wrap : K → Value) (apart : (x y : K) → wrap x ≡ wrap y → x ≡ y) where
  least_of : (vs : List K) → IsAscending below vs → (id : ℕ) → id < length vs → (other : ℕ) → item_at (map wrap vs) other ≡ item_at (map wrap vs) id → id ≤ other
  least_of vs up id within other same = elim (cases_lt other (length vs)) [
    | inl inside ↦ (
        let one = item_there vs id within in
        let two = item_there vs other inside in
        let alike : two.0 ≡ one.0 = apart two.0 one.0 (sym (mapped_at wrap vs other (value.Bool false) two.0 two.1) ∙ same ∙ mapped_at wrap vs id (value.Bool false) one.0 one.1) in
        omega (arith, same_id order vs up id other one.0 one.1 (two.1 ∙ ap Some alike)))
    | inr past ↦ omega (arith, within, past)
  ]

-- a dictionary has each value once
pub least_held : (d : Dictionary) → IsDictionary d → (id : ℕ) → id < count_in d → (other : ℕ) → item_at (values_in d) other ≡ item_at (values_in d) id → id ≤ other
least_held (Int zs) made = least_of int_order value.Int (λ x y e. cc) zs made.1
least_held (Long zs) made = least_of int_order value.Long (λ x y e. cc) zs made.1
least_held (Text ts) made = least_of text_order value.Text (λ x y e. cc) ts made.1
least_held (Truth bs) made = least_of bool_order value.Bool (λ x y e. cc) bs made.1
least_held (Time zs) made = least_of int_order value.Time (λ x y e. cc) zs made.1
