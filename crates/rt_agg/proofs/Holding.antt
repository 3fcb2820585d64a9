-- What groups hold after one more row, and after other groups were merged into them.
use Rattle.std.proofs.Common.{◌≡◌, ℕ, zero, suc, ◌+◌, ◌<◌, ◌≤◌, Bool, true, false, cond, ◌||◌, List, [], ◌∷◌, ◌++◌, length, map, filter, Option, Some, None, refl, sym, ap, ◌∙◌, true≢false, arith, length-append, slice_get}
use Rattle.std.specs.Prelude.{if◌then◌else◌, is_some, unwrap_or, option_map}
use Rattle.std.proofs.lemmas.Map.Views.{lookup-from_Contains}
use Rattle.rt_lists.proofs.Lists.{contains_found}
use Rattle.std.proofs.lemmas.List.Folds.{list_any-append}
use Rattle.std.proofs.lemmas.List.Elements.{filter-append}
use Rattle.std.proofs.lemmas.Option.{slice_get_within, slice_get-map}
use Rattle.std.proofs.lemmas.Cmp.{eq_by_cmp_equiv}
use Rattle.std.specs.Cmp.{IsEquivalence, Equal-is}
use Rattle.std.specs.List.{AllByRecursion, IsDistinct, list_any}
use Rattle.std.specs.Map.{lookup, keys_of}
use Rattle.rt_schema.specs.declared.row.Row.{Row}
use Rattle.rt_schema.specs.declared.value.Value.{Value}
use Rattle.rt_model.specs.declared.query.Query.{Query}
use Rattle.rt_model.specs.declared.query_parts.ColumnAt.{ColumnAt}
use Rattle.rt_model.specs.declared.query_parts.Item.{Item}
use Rattle.rt_model.specs.declared.query_parts.OrderKey.{OrderKey}
use Rattle.rt_model.specs.Aggregate.{has_key, group_of}
use Rattle.rt_model.specs.Values.{key_cmp}
use Rattle.rt_agg.specs.Accumulator.{Accumulator}
use Rattle.rt_agg.specs.Accumulators.{known_of, all_known_of, all_merged, ordering_items}
use Rattle.rt_agg.specs.Grouped.{Grouped, same_key, keys_in_order, known_at, makes_group, known_if, FitsItem, Fits, Holds, first_known, Merges}
use Rattle.rt_agg.specs.Merging.{started_at, merged_at}
use Rattle.rt_agg.proofs.Appends.{both_fit, items_append}
use Rattle.rt_agg.proofs.Orders.{key_total, key_same}

-- ---- keys

pub keys_equiv : IsEquivalence same_key
keys_equiv = eq_by_cmp_equiv key_total

pub same_is : (k l : List Value) → same_key k l ≡ true → k ≡ l
same_is k l e = key_same k l ((Equal-is (key_cmp k l)).0 e)

-- ---- rows of a group

pub no_rows : {X : Type 0} (test : X → Bool) (xs : List X) → list_any test xs ≡ false → filter test xs ≡ []
no_rows test [] h = refl
no_rows test (x ∷ xs) h = by (test x) h (no_rows test xs)
  where
    by : (b : Bool) → (b || list_any test xs) ≡ false → (list_any test xs ≡ false → filter test xs ≡ []) → cond b (x ∷ filter test xs) (filter test xs) ≡ []
    by true h rest = absurd (true≢false h)
    by false h rest = rest h

pub fit_filter : {X : Type 0} (P : X → Type 0) (test : X → Bool) (xs : List X) → AllByRecursion P xs → AllByRecursion P (filter test xs)
fit_filter P test [] all = tt
fit_filter P test (x ∷ xs) all = by (test x) (fit_filter P test xs all.1)
  where
    by : (b : Bool) → AllByRecursion P (filter test xs) → AllByRecursion P (cond b (x ∷ filter test xs) (filter test xs))
    by true rest = (all.0, rest)
    by false rest = rest

pub few_filter : {X : Type 0} (test : X → Bool) (xs : List X) → length (filter test xs) ≤ length xs
few_filter test [] = omega arith
few_filter test (x ∷ xs) = by (test x) (few_filter test xs)
  where
    by : (b : Bool) → length (filter test xs) ≤ length xs → length (cond b (x ∷ filter test xs) (filter test xs)) ≤ length (x ∷ xs)
    by true le = omega (arith, le)
    by false le = omega (arith, le)

append_none : {X : Type 0} (xs ys : List X) → ys ≡ [] → xs ++ ys ≡ xs
append_none [] ys e = e
append_none (x ∷ xs) ys e = ap (λ t. x ∷ t) (append_none xs ys e)

-- ---- what is known of the rows of both

abbrev pub both : Option (List Accumulator) → Option (List Accumulator) → Option (List Accumulator)
both None b = b
both (Some a) None = Some a
both (Some a) (Some b) = Some (all_merged a b)

both_none : (a : Option (List Accumulator)) → both a None ≡ a
both_none None = refl
both_none (Some a) = refl

abbrev Facts : List Item → List Row → Type 0
Facts is rows = AllByRecursion (λ r. AllByRecursion (FitsItem r) is) rows

-- what is known at a key of some rows, for these columns and items
abbrev known_in : List ColumnAt → List Item → List Row → List Value → Option (List Accumulator)
known_in columns is rows key =
    if makes_group columns rows key then Some (map (known_of columns key (group_of columns key rows)) is) else None

in_cases : (p q : Bool) (x a b : List Accumulator)
    → (p ≡ true → q ≡ true → x ≡ all_merged a b) → (p ≡ true → q ≡ false → x ≡ a) → (p ≡ false → q ≡ true → x ≡ b)
    → (if p || q then Some x else None) ≡ both (if p then Some a else None) (if q then Some b else None)
in_cases true true x a b f g h = ap Some (f refl refl)
in_cases true false x a b f g h = ap Some (g refl refl)
in_cases false true x a b f g h = ap Some (h refl refl)
in_cases false false x a b f g h = refl

in_one_case : (p : Bool) (x a b : List Accumulator) → x ≡ all_merged a b → (if p then Some x else None) ≡ both (if p then Some a else None) (if p then Some b else None)
in_one_case true x a b f = ap Some f
in_one_case false x a b f = refl

module _ (is : List Item) (rs ss : List Row) (f : Facts is rs) (g : Facts is ss) (few : length rs + length ss < 9223372036854775808) (key : List Value) where
  groups_append : (columns : List ColumnAt)
      → map (known_of columns key (group_of columns key (rs ++ ss))) is ≡ all_merged (map (known_of columns key (group_of columns key rs)) is) (map (known_of columns key (group_of columns key ss)) is)
  groups_append columns =
      let test = has_key columns key in
      (λ j. map (known_of columns key (filter-append test rs ss j)) is)
      ∙ items_append columns key (filter test rs) (filter test ss) is (fit_filter (λ r. AllByRecursion (FitsItem r) is) test rs f) (fit_filter (λ r. AllByRecursion (FitsItem r) is) test ss g)
      (omega (arith, few, few_filter test rs, few_filter test ss))

  known_append : (columns : List ColumnAt) → known_in columns is (rs ++ ss) key ≡ both (known_in columns is rs key) (known_in columns is ss key)
  known_append [] = in_one_case (same_key key []) _ _ _ (groups_append [])
  known_append (c ∷ cs) =
      let test = has_key (c ∷ cs) key in
      let known : List Row → List Accumulator = λ rows. map (known_of (c ∷ cs) key rows) is in
      (λ j. if list_any-append test rs ss j then Some (known (filter test (rs ++ ss))) else None)
      ∙ in_cases (list_any test rs) (list_any test ss) (known (filter test (rs ++ ss))) (known (filter test rs)) (known (filter test ss))
      (λ p q. groups_append (c ∷ cs))
      (λ p q. ap known (filter-append test rs ss ∙ append_none (filter test rs) (filter test ss) (no_rows test ss q)))
      (λ p q. ap known (filter-append test rs ss ∙ ap (λ t. t ++ filter test ss) (no_rows test rs p)))

abbrev pub slots : Query → List Item
slots query = query.items ++ ordering_items query.order

pub holds_both : (query : Query) (rs ss : List Row) (g new : Grouped) → Holds query rs g → AllByRecursion (Fits query) ss
    → length rs + length ss < 9223372036854775808
    → new.columns ≡ g.columns → new.items ≡ g.items → new.order ≡ g.order → new.limit ≡ g.limit → IsDistinct same_key (keys_in_order new)
    → ((key : List Value) → known_at new key ≡ both (known_at g key) (known_if query ss key))
    → Holds query (rs ++ ss) new
holds_both query rs ss g new h fits few columns items order limit apart known =
    record {
      columns = columns ∙ h.columns;
      items = items ∙ h.items;
      order = order ∙ h.order;
      limit = limit ∙ h.limit;
      apart = apart;
      known = λ key.
          known key ∙ ap (λ a. both a (known_if query ss key)) (h.known key)
          ∙ sym (known_append (slots query) rs ss h.fits fits few key query.groups);
      fits = both_fit (Fits query) rs ss h.fits fits;
      few = omega (arith, few, length-append rs ss);
    }

pub holds_merged : (query : Query) (rs ss : List Row) (g other new : Grouped) → Holds query rs g → Holds query ss other
    → length rs + length ss < 9223372036854775808
    → new.columns ≡ g.columns → new.items ≡ g.items → new.order ≡ g.order → new.limit ≡ g.limit → IsDistinct same_key (keys_in_order new)
    → ((key : List Value) → known_at new key ≡ both (known_at g key) (known_at other key))
    → Holds query (rs ++ ss) new
holds_merged query rs ss g other new h o few columns items order limit apart known =
    holds_both query rs ss g new h o.fits few columns items order limit apart
    (λ key. known key ∙ ap (both (known_at g key)) (o.known key))

-- ---- entries

pub lookup_last : {K X : Type 0} (test : K → Bool) (es : List (K × X)) (k : K) (v : X) → test k ≡ false → lookup test (es ++ (k, v) ∷ []) ≡ lookup test es
lookup_last test [] k v f = ap (λ b. cond b (Some v) None) f
lookup_last test (e ∷ es) k v f = ap (cond (test e.0) (Some e.1)) (lookup_last test es k v f)

pub lookup_new : {K X : Type 0} (test : K → Bool) (es : List (K × X)) (k : K) (v : X) → test k ≡ true → lookup test es ≡ None → lookup test (es ++ (k, v) ∷ []) ≡ Some v
lookup_new test [] k v t none = ap (λ b. cond b (Some v) None) t
lookup_new test (e ∷ es) k v t none = by (test e.0) none (lookup_new test es k v t)
  where
    by : (b : Bool) → cond b (Some e.1) (lookup test es) ≡ None → (lookup test es ≡ None → lookup test (es ++ (k, v) ∷ []) ≡ Some v) → cond b (Some e.1) (lookup test (es ++ (k, v) ∷ [])) ≡ Some v
    by true h rest = absurd (true≢false (ap is_some h))
    by false h rest = rest h

abbrev Entries : Type 0
Entries = List (List Value × List Accumulator)

abbrev known_or : Option (List Accumulator) → List Accumulator
known_or None = []
known_or (Some k) = k

pub from_if : (b : Bool) (x known : List Accumulator) → Some known ≡ (if b then Some x else None) → known ≡ x
from_if true x known e = ap known_or e
from_if false x known e = absurd (true≢false (ap is_some e))

-- ---- before the first row

pub holds_none : (query : Query) (g : Grouped) → g.columns ≡ query.groups → g.items ≡ query.items → g.order ≡ query.order → g.limit ≡ query.limit
    → ((key : List Value) → known_at g key ≡ known_if query [] key) → IsDistinct same_key (keys_in_order g) → Holds query [] g
holds_none query g columns items order limit known apart =
    record { columns = columns; items = items; order = order; limit = limit; apart = apart; known = known; fits = tt; few = omega arith }

-- ---- keys and their entries

pub keys_last : (es : Entries) (k : List Value) (v : List Accumulator) → keys_of (es ++ (k, v) ∷ []) ≡ keys_of es ++ k ∷ []
keys_last [] k v = refl
keys_last (e ∷ es) k v = ap (λ ks. e.0 ∷ ks) (keys_last es k v)

pub key_last : (es : Entries) (k : List Value) (v : List Accumulator) → slice_get (keys_of (es ++ (k, v) ∷ [])) (length es) ≡ Some k
key_last [] k v = refl
key_last (e ∷ es) k v = key_last es k v

pub key_at_entry : (es : Entries) (i : ℕ) (k : List Value) (v : List Accumulator) → slice_get es i ≡ Some (k, v) → slice_get (keys_of es) i ≡ Some k
key_at_entry es i k v at = slice_get-map (λ e. e.0) es i ∙ ap (option_map (λ e. e.0)) at

pub entry_of_key : (es : Entries) (i : ℕ) (k : List Value) → slice_get (keys_of es) i ≡ Some k → (v : List Accumulator) × (slice_get es i ≡ Some (k, v))
entry_of_key [] i k at = absurd (omega (arith, slice_get_within {A = List Value} [] i k at))
entry_of_key (e ∷ es) zero k at = (e.1, ap (λ o. Some (unwrap_or o k, e.1)) at)
entry_of_key (e ∷ es) (suc i) k at = entry_of_key es i k at

pub known_of_entry : (es : Entries) (i : ℕ) (k : List Value) (v : List Accumulator) → IsDistinct same_key (keys_of es) → slice_get es i ≡ Some (k, v) → lookup (same_key k) es ≡ Some v
known_of_entry es i k v apart at = lookup-from_Contains keys_equiv k v es apart (contains_found es i (k, v) at)

-- ---- before the first row, by whether there is a column

pub first_none : (columns : List ColumnAt) (items : List Item) (order : List OrderKey) (key : List Value) (es : Entries) → columns ≡ [] → es ≡ ([], all_known_of columns items order [] []) ∷ []
    → lookup (same_key key) es ≡ first_known columns items order key
first_none [] items order key es none is = ap (lookup (same_key key)) is ∙ by (same_key key []) refl
  where
    by : (b : Bool) → same_key key [] ≡ b → cond b (Some (all_known_of [] items order [] [])) None ≡ (if b then Some (all_known_of [] items order key []) else None)
    by true e = ap (λ k. Some (all_known_of [] items order k [])) (sym (same_is key [] e))
    by false e = refl
first_none (c ∷ cs) items order key es none is = absurd (true≢false (ap is_cons none))
  where
    is_cons : List ColumnAt → Bool
    is_cons [] = false
    is_cons (d ∷ ds) = true

-- what is known after a merge, where the groups that only the others had were started first
pub merges_from : (g other new : Grouped) → new.columns ≡ g.columns → new.items ≡ g.items → new.order ≡ g.order → new.limit ≡ g.limit → IsDistinct same_key (keys_in_order new)
    → ((q : List Value) → known_at new q ≡ merged_at (started_at (all_known_of g.columns g.items g.order q []) (known_at g q) (is_some (known_at other q))) (known_at other q))
    → Merges g other new
merges_from g other new columns items order limit apart known query rows others h o few =
    holds_merged query rows others g other new h o few columns items order limit apart
    (λ q. known q ∙ by q (known_at g q) (known_at other q) (o.known q))
  where
    fresh_is : (q : List Value) (b : List Accumulator) → Some b ≡ known_if query others q → all_merged (all_known_of g.columns g.items g.order q []) b ≡ b
    fresh_is q b e =
        let group = group_of query.groups q others in
        let known_group = map (known_of query.groups q group) (slots query) in
        let is = from_if (makes_group query.groups others q) known_group b e in
        (λ j. all_merged (all_known_of (h.columns j) (h.items j) (h.order j) q []) (is j))
        ∙ sym (items_append query.groups q [] group (slots query) tt (fit_filter (Fits query) (has_key query.groups q) others o.fits) (omega (arith, few, few_filter (has_key query.groups q) others)))
        ∙ sym is

    by : (q : List Value) (a b : Option (List Accumulator)) → b ≡ known_if query others q → merged_at (started_at (all_known_of g.columns g.items g.order q []) a (is_some b)) b ≡ both a b
    by q None None e = refl
    by q None (Some b) e = ap Some (fresh_is q b e)
    by q (Some a) None e = refl
    by q (Some a) (Some b) e = refl
