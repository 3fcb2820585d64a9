-- Groups that come of the marked groups of others hold the rows that their query takes.
use Rattle.std.proofs.Common.{◌≡◌, ℕ, zero, suc, Bool, true, false, cond, ◌&&◌, ◌||◌, List, [], ◌∷◌, ◌++◌, length, map, filter, Some, None, refl, sym, ap, ◌∙◌, subst, true≢false, arith, slice_get}
use Rattle.std.specs.Prelude.{if◌then◌else◌, is_some, option_map}
use Rattle.std.specs.List.{AllByRecursion, list_any}
use Rattle.std.specs.Map.{lookup, keys_of}
use Rattle.std.proofs.lemmas.List.Elements.{All-contains, All-from_recursion}
use Rattle.std.proofs.lemmas.Option.{same_Some, slice_get-map}
use Rattle.rt_schema.specs.declared.row.Row.{Row}
use Rattle.rt_schema.specs.declared.value.Value.{Value}
use Rattle.rt_model.specs.declared.query.Query.{Query}
use Rattle.rt_model.specs.declared.query_parts.Aggregate.{Aggregate}
use Rattle.rt_model.specs.declared.query_parts.Aggregate.TheVariants as kind
use Rattle.rt_model.specs.declared.query_parts.ColumnAt.{ColumnAt}
use Rattle.rt_model.specs.declared.query_parts.Item.{Item}
use Rattle.rt_model.specs.declared.query_parts.Item.TheVariants as item
use Rattle.rt_model.specs.Aggregate.{group_of, has_key, key_of}
use Rattle.rt_model.specs.Match.{passes}
use Rattle.rt_agg.specs.Accumulator.{Accumulator}
use Rattle.rt_agg.specs.Accumulators.{known_of, ordering_items}
use Rattle.rt_agg.specs.Grouped.{Fits, FitsItem, Grouped, Holds, keys_in_order, known_at, known_if, makes_group, same_key}
use Rattle.rt_agg.specs.Picking.{AreAllTold, AreOf, AreTold, IsAmong, IsTold, Picks, all_items, kept}
use Rattle.rt_agg.proofs.Holding.{few_filter, fit_filter, from_if, keys_equiv, known_of_entry, same_is, slots}
use Rattle.rt_agg.proofs.Kept.{keys_long}

abbrev Entries : Type 0
Entries = List (List Value × List Accumulator)

-- ---- what is true of each

weaker : {X : Type 0} (P Q : X → Type 0) → ((x : X) → P x → Q x) → (xs : List X) → AllByRecursion P xs → AllByRecursion Q xs
weaker P Q f [] all = tt
weaker P Q f (x ∷ xs) all = (f x all.0, weaker P Q f xs all.1)

both_all : {X : Type 0} (P Q R : X → Type 0) → ((x : X) → P x → Q x → R x) → (xs : List X) → AllByRecursion P xs → AllByRecursion Q xs → AllByRecursion R xs
both_all P Q R f [] all more = tt
both_all P Q R f (x ∷ xs) all more = (f x all.0 more.0, both_all P Q R f xs all.1 more.1)

each_at : {X : Type 0} (P : X → Type 0) (xs : List X) → ((i : ℕ) (x : X) → slice_get xs i ≡ Some x → P x) → AllByRecursion P xs
each_at P [] each = tt
each_at P (x ∷ xs) each = (each 0 x refl, each_at P xs (λ i. each (suc i)))

same_filter : {X : Type 0} (p q : X → Bool) (xs : List X) → AllByRecursion (λ x. p x ≡ q x) xs → filter p xs ≡ filter q xs
same_filter p q [] all = refl
same_filter p q (x ∷ xs) all = λ j. cond (all.0 j) (x ∷ same_filter p q xs all.1 j) (same_filter p q xs all.1 j)

none_filter : {X : Type 0} (p : X → Bool) (xs : List X) → AllByRecursion (λ x. p x ≡ false) xs → filter p xs ≡ []
none_filter p [] all = refl
none_filter p (x ∷ xs) all = (λ j. cond (all.0 j) (x ∷ filter p xs) (filter p xs)) ∙ none_filter p xs all.1

and_true : (b : Bool) → (b && true) ≡ b
and_true true = refl
and_true false = refl

and_false : (b : Bool) → (b && false) ≡ false
and_false true = refl
and_false false = refl

or_false : (b : Bool) → (b || false) ≡ b
or_false true = refl
or_false false = refl

or_true : (b c : Bool) → c ≡ true → (b || c) ≡ true
or_true true c h = refl
or_true false c h = h

-- ---- keys that are kept

module _ (test : List Value → Bool) where
  kept_passes : (es : Entries) → kept (map test (keys_of es)) es ≡ filter (λ e. test e.0) es
  kept_passes [] = refl
  kept_passes (e ∷ es) = ap (λ t. if test e.0 then e ∷ t else t) (kept_passes es)

  kept_keys : (ks : List (List Value)) → kept (map test ks) ks ≡ filter test ks
  kept_keys [] = refl
  kept_keys (k ∷ ks) = ap (λ t. if test k then k ∷ t else t) (kept_keys ks)

  keys_pass : (es : Entries) → keys_of (filter (λ e. test e.0) es) ≡ filter test (keys_of es)
  keys_pass [] = refl
  keys_pass (e ∷ es) = by (test e.0) (keys_pass es)
    where
      by : (b : Bool) → keys_of (filter (λ e. test e.0) es) ≡ filter test (keys_of es)
          → keys_of (cond b (e ∷ filter (λ e. test e.0) es) (filter (λ e. test e.0) es)) ≡ cond b (e.0 ∷ filter test (keys_of es)) (filter test (keys_of es))
      by true rest = ap (λ t. e.0 ∷ t) rest
      by false rest = rest

  any_kept : (q : List Value) (ks : List (List Value)) → list_any (same_key q) (filter test ks) ≡ (test q && list_any (same_key q) ks)
  any_kept q [] = sym (and_false (test q))
  any_kept q (k ∷ ks) = by (test k) (same_key q k) refl refl (any_kept q ks)
    where
      by : (a b : Bool) → test k ≡ a → same_key q k ≡ b → list_any (same_key q) (filter test ks) ≡ (test q && list_any (same_key q) ks)
          → list_any (same_key q) (cond a (k ∷ filter test ks) (filter test ks)) ≡ (test q && (b || list_any (same_key q) ks))
      by true true t e rest =
          let passes : test q ≡ true = ap test (same_is q k e) ∙ t in
          ap (λ x. x || list_any (same_key q) (filter test ks)) e ∙ sym (ap (λ x. x && true) passes)
      by true false t e rest = ap (λ x. x || list_any (same_key q) (filter test ks)) e ∙ rest
      by false true t e rest =
          let fails : test q ≡ false = ap test (same_is q k e) ∙ t in
          rest ∙ ap (λ x. x && list_any (same_key q) ks) fails ∙ sym (ap (λ x. x && true) fails)
      by false false t e rest = rest

  -- ---- rows of which the keys tell

  module _ (p : Row → Bool) (gs : List ColumnAt) where
    abbrev Says : Row → Type 0
    Says row = p row ≡ test (key_of gs row)

    any_taken : (q : List Value) (rows : List Row) → AllByRecursion Says rows → list_any (has_key gs q) (filter p rows) ≡ (test q && list_any (has_key gs q) rows)
    any_taken q [] says = sym (and_false (test q))
    any_taken q (r ∷ rows) says = by (p r) (has_key gs q r) refl refl (any_taken q rows says.1)
      where
        by : (a b : Bool) → p r ≡ a → has_key gs q r ≡ b → list_any (has_key gs q) (filter p rows) ≡ (test q && list_any (has_key gs q) rows)
            → list_any (has_key gs q) (cond a (r ∷ filter p rows) (filter p rows)) ≡ (test q && (b || list_any (has_key gs q) rows))
        by true true t e rest =
            let passes : test q ≡ true = ap test (sym (same_is (key_of gs r) q e)) ∙ sym says.0 ∙ t in
            ap (λ x. x || list_any (has_key gs q) (filter p rows)) e ∙ sym (ap (λ x. x && true) passes)
        by true false t e rest = ap (λ x. x || list_any (has_key gs q) (filter p rows)) e ∙ rest
        by false true t e rest =
            let fails : test q ≡ false = ap test (sym (same_is (key_of gs r) q e)) ∙ sym says.0 ∙ t in
            rest ∙ ap (λ x. x && list_any (has_key gs q) rows) fails ∙ sym (ap (λ x. x && true) fails)
        by false false t e rest = rest

    same_group : (q : List Value) → test q ≡ true → (rows : List Row) → AllByRecursion Says rows → filter (has_key gs q) (filter p rows) ≡ filter (has_key gs q) rows
    same_group q passed [] says = refl
    same_group q passed (r ∷ rows) says = by (p r) (has_key gs q r) refl refl (same_group q passed rows says.1)
      where
        by : (a b : Bool) → p r ≡ a → has_key gs q r ≡ b → filter (has_key gs q) (filter p rows) ≡ filter (has_key gs q) rows
            → filter (has_key gs q) (cond a (r ∷ filter p rows) (filter p rows)) ≡ cond b (r ∷ filter (has_key gs q) rows) (filter (has_key gs q) rows)
        by true b t e rest = λ j. cond (e j) (r ∷ rest j) (rest j)
        by false true t e rest = absurd (true≢false (sym (says.0 ∙ ap test (same_is (key_of gs r) q e) ∙ passed) ∙ t))
        by false false t e rest = rest

-- ---- each row has a group

own_any : (gs : List ColumnAt) (rows : List Row) → AllByRecursion (λ r. list_any (has_key gs (key_of gs r)) rows ≡ true) rows
own_any gs [] = tt
own_any gs (r ∷ rows) = (
  ap (λ b. b || list_any (has_key gs (key_of gs r)) rows) (keys_equiv.refl (key_of gs r)),
  weaker (λ x. list_any (has_key gs (key_of gs x)) rows ≡ true) (λ x. list_any (has_key gs (key_of gs x)) (r ∷ rows) ≡ true)
      (λ x h. or_true (has_key gs (key_of gs x) r) (list_any (has_key gs (key_of gs x)) rows) h) rows (own_any gs rows),
)

own_made : (gs : List ColumnAt) (rows : List Row) → AllByRecursion (λ r. makes_group gs rows (key_of gs r) ≡ true) rows
own_made [] rows = each_at (λ r. makes_group [] rows (key_of [] r) ≡ true) rows (λ i r at. keys_equiv.refl [])
own_made (c ∷ cs) rows = own_any (c ∷ cs) rows

any_lookup : (test : List Value → Bool) (es : Entries) → list_any test (keys_of es) ≡ is_some (lookup test es)
any_lookup test [] = refl
any_lookup test (e ∷ es) = by (test e.0) (any_lookup test es)
  where
    by : (b : Bool) → list_any test (keys_of es) ≡ is_some (lookup test es) → (b || list_any test (keys_of es)) ≡ is_some (cond b (Some e.1) (lookup test es))
    by true rest = refl
    by false rest = rest

some_if : (b : Bool) (x : List Accumulator) → is_some (if b then Some x else None) ≡ b
some_if true x = refl
some_if false x = refl

module _ (over : Query) (rows : List Row) (other : Grouped) (held : Holds over rows other) where
  some_made : (q : List Value) → list_any (same_key q) (keys_in_order other) ≡ makes_group over.groups rows q
  some_made q =
      any_lookup (same_key q) other.groups ∙ ap is_some (held.known q)
      ∙ some_if (makes_group over.groups rows q) (map (known_of over.groups q (group_of over.groups q rows)) (slots over))

  own_there : AllByRecursion (λ r. list_any (same_key (key_of over.groups r)) (keys_in_order other) ≡ true) rows
  own_there =
      weaker (λ r. makes_group over.groups rows (key_of over.groups r) ≡ true) (λ r. list_any (same_key (key_of over.groups r)) (keys_in_order other) ≡ true)
      (λ r made. some_made (key_of over.groups r) ∙ made) rows (own_made over.groups rows)

  abbrev Knows : List Value × List Accumulator → Type 0
  Knows e = e.1 ≡ map (known_of over.groups e.0 (group_of over.groups e.0 rows)) (slots over)

  all_know : AllByRecursion Knows other.groups
  all_know = each_at Knows other.groups (λ i e at.
      from_if (makes_group over.groups rows e.0) (map (known_of over.groups e.0 (group_of over.groups e.0 rows)) (slots over)) e.1
      (sym (known_of_entry other.groups i e.0 e.1 held.apart at) ∙ held.known e.0))

  -- the marked groups know their rows
  marked_know : (test : List Value → Bool) (marks : List Bool) → marks ≡ map test (keys_in_order other) → AllByRecursion Knows (kept marks other.groups)
  marked_know test marks is =
      subst (AllByRecursion Knows) (sym (ap (λ ms. kept ms other.groups) is ∙ kept_passes test other.groups)) (fit_filter Knows (λ e. test e.0) other.groups all_know)

-- ---- what is told

module _ (others columns : List ColumnAt) (k key : List Value) (rows : List Row) (items : List Item) (known : List Accumulator) (is : known ≡ map (known_of others k rows) items) where
  -- what is known for an aggregate doesn't depend on the key
  any_key : (a : Aggregate) → known_of others k rows (item.Aggregate a) ≡ known_of columns key rows (item.Aggregate a)
  any_key kind.Count = refl
  any_key (kind.Sum column) = refl
  any_key (kind.Min column) = refl
  any_key (kind.Max column) = refl

  told_one : (i : Item) (w : Accumulator) → IsTold columns key items known i w → w ≡ known_of columns key rows i
  told_one (item.Column column) w told = told
  told_one (item.Aggregate a) w told =
      same_Some w (known_of others k rows (item.Aggregate a))
      (sym told.2 ∙ ap (λ ks. slice_get ks told.0) is ∙ slice_get-map (known_of others k rows) items told.0 ∙ ap (option_map (known_of others k rows)) told.1)
      ∙ any_key a

  told_all : (wanted : List Item) (ws : List Accumulator) → AreTold columns key items known wanted ws → ws ≡ map (known_of columns key rows) wanted
  told_all [] [] told = refl
  told_all [] (w ∷ ws) told = absurd told
  told_all (i ∷ wanted) [] told = absurd told
  told_all (i ∷ wanted) (w ∷ ws) told = λ j. told_one i w told.0 j ∷ told_all wanted ws told.1 j

-- ---- what rows fit

module _ (items : List Item) (row : Row) (fits : AllByRecursion (FitsItem row) items) where
  among_fits : (i : Item) → IsAmong items i → FitsItem row i
  among_fits (item.Column column) there = tt
  among_fits (item.Aggregate a) there = All-contains (FitsItem row) items (item.Aggregate a) (All-from_recursion (FitsItem row) items fits) there

all_fit : (query : Query) (items : List Item) (rows : List Row) → AllByRecursion (IsAmong items) (slots query) → AllByRecursion (λ r. AllByRecursion (FitsItem r) items) rows → AllByRecursion (Fits query) rows
all_fit query items rows among fits =
    weaker (λ r. AllByRecursion (FitsItem r) items) (Fits query) (λ r fit. weaker (IsAmong items) (FitsItem r) (among_fits items r fit) (slots query) among) rows fits

-- ---- entries by their keys

abbrev first_or : List Value → List (List Value) → List Value
first_or d [] = d
first_or d (k ∷ ks) = k

abbrev rest_of : List (List Value) → List (List Value)
rest_of [] = []
rest_of (k ∷ ks) = ks

module _ (known : List Value → List Accumulator) where
  abbrev Each : Entries → Entries → Type 0
  Each es fs = (i : ℕ) (key : List Value) (w : List Accumulator) (k : List Value) (v : List Accumulator) → slice_get es i ≡ Some (key, w) → slice_get fs i ≡ Some (k, v) → key ≡ k → w ≡ known key

  entries_are : (es fs : Entries) → keys_of es ≡ keys_of fs → Each es fs → es ≡ map (λ k. (k, known k)) (keys_of fs)
  entries_are [] [] same each = refl
  entries_are [] (b ∷ fs) same each = absurd (omega (arith, ap length same))
  entries_are (a ∷ es) [] same each = absurd (omega (arith, ap length same))
  entries_are (a ∷ es) (b ∷ fs) same each =
      let key : a.0 ≡ b.0 = ap (first_or b.0) same in
      λ j. (key j, (each 0 a.0 a.1 b.0 b.1 refl refl key ∙ ap known key) j) ∷ entries_are es fs (ap rest_of same) (λ i. each (suc i)) j

  lookup_known : (q : List Value) (ks : List (List Value)) → lookup (same_key q) (map (λ k. (k, known k)) ks) ≡ (if list_any (same_key q) ks then Some (known q) else None)
  lookup_known q [] = refl
  lookup_known q (k ∷ ks) = by (same_key q k) refl (lookup_known q ks)
    where
      by : (b : Bool) → same_key q k ≡ b → lookup (same_key q) (map (λ k. (k, known k)) ks) ≡ (if list_any (same_key q) ks then Some (known q) else None)
          → cond b (Some (known k)) (lookup (same_key q) (map (λ k. (k, known k)) ks)) ≡ (if b || list_any (same_key q) ks then Some (known q) else None)
      by true e rest = ap (λ x. Some (known x)) (sym (same_is q k e))
      by false e rest = rest

-- ---- the groups of the same columns

made_any : (gs : List ColumnAt) → (gs ≡ [] → ⊥) → (rows : List Row) (q : List Value) → makes_group gs rows q ≡ list_any (has_key gs q) rows
made_any [] some rows q = absurd (some refl)
made_any (c ∷ cs) some rows q = refl

known_at_index : {X : Type 0} (P : X → Type 0) (xs : List X) (i : ℕ) (x : X) → AllByRecursion P xs → slice_get xs i ≡ Some x → P x
known_at_index P [] i x all at = absurd (true≢false (sym (ap is_some at)))
known_at_index P (y ∷ xs) zero x all at = subst P (same_Some y x at) all.0
known_at_index P (y ∷ xs) (suc i) x all at = known_at_index P xs i x all.1 at

-- the items that others hold are those of any query whose rows they hold
slots_same : (over : Query) (rows : List Row) (other : Grouped) → Holds over rows other → all_items other ≡ slots over
slots_same over rows other held = λ j. held.items j ++ ordering_items (held.order j)

module _ (query : Query) (marks : List Bool) (other new : Grouped) (of : AreOf query new) (among : AllByRecursion (IsAmong (all_items other)) (slots query)) (told : AreAllTold query marks other new) where
  module _ (over : Query) (rows : List Row) (test : List Value → Bool) (held : Holds over rows other) (is : marks ≡ map test (keys_in_order other)) (says : AllByRecursion (λ row. passes query.filter row ≡ test (key_of over.groups row)) rows) where
    abbrev p : Row → Bool
    p = passes query.filter

    all_taken_fit : AllByRecursion (Fits query) (filter p rows)
    all_taken_fit =
        fit_filter (Fits query) p rows
        (all_fit query (all_items other) rows among (subst (λ (is : List Item). AllByRecursion (λ r. AllByRecursion (FitsItem r) is) rows) (sym (slots_same over rows other held)) held.fits))

    -- what is told of a marked group with a key
    told_group : (i : ℕ) (key : List Value) (w : List Accumulator) (k : List Value) (v : List Accumulator) → slice_get new.groups i ≡ Some (key, w) → slice_get (kept marks other.groups) i ≡ Some (k, v)
        → w ≡ map (known_of query.groups key (group_of over.groups k rows)) (slots query)
    told_group i key w k v at there =
        told_all over.groups query.groups k key (group_of over.groups k rows) (all_items other) v
        (known_at_index (Knows over rows other held) (kept marks other.groups) i (k, v) (marked_know over rows other held test marks is) there
        ∙ ap (map (known_of over.groups k (group_of over.groups k rows))) (sym (slots_same over rows other held)))
        (slots query) w (told i key w k v at there)

    module _ (alike : query.groups ≡ other.columns) (some : query.groups ≡ [] → ⊥) (keys : keys_in_order new ≡ kept marks (keys_in_order other)) where
      gs_same : over.groups ≡ query.groups
      gs_same = sym (alike ∙ held.columns)

      abbrev known_in : List Row → List Value → List Accumulator
      known_in rs key = map (known_of query.groups key (group_of query.groups key rs)) (slots query)

      new_entries : new.groups ≡ map (λ k. (k, known_in rows k)) (filter test (keys_in_order other))
      new_entries =
          let passed = ap (λ ms. kept ms other.groups) is ∙ kept_passes test other.groups in
          let shown : keys_of (kept marks other.groups) ≡ filter test (keys_in_order other) = ap (λ (es : Entries). keys_of es) passed ∙ keys_pass test other.groups in
          let same : keys_in_order new ≡ keys_of (kept marks other.groups) = keys ∙ ap (λ ms. kept ms (keys_in_order other)) is ∙ kept_keys test (keys_in_order other) ∙ sym shown in
          entries_are (known_in rows) new.groups (kept marks other.groups) same
          (λ i key w k v at there alike_key. told_group i key w k v at there
          ∙ (λ j. map (known_of query.groups key (group_of (gs_same j) (sym alike_key j) rows)) (slots query)))
          ∙ ap (map (λ k. (k, known_in rows k))) shown

      says_so : AllByRecursion (λ row. p row ≡ test (key_of query.groups row)) rows
      says_so = subst (λ (gs : List ColumnAt). AllByRecursion (λ row. p row ≡ test (key_of gs row)) rows) gs_same says

      alike_known : (q : List Value) → known_at new q ≡ known_if query (filter p rows) q
      alike_known q =
          let any = list_any (has_key query.groups q) rows in
          let there : list_any (same_key q) (filter test (keys_in_order other)) ≡ (test q && any) =
          any_kept test q (keys_in_order other) ∙ ap (λ b. test q && b) (some_made over rows other held q ∙ (λ j. makes_group (gs_same j) rows q) ∙ made_any query.groups some rows q) in
          let made : makes_group query.groups (filter p rows) q ≡ (test q && any) =
          made_any query.groups some (filter p rows) q ∙ any_taken test p query.groups q rows says_so in
          ap (lookup (same_key q)) new_entries ∙ lookup_known (known_in rows) q (filter test (keys_in_order other))
          ∙ (λ j. if there j then Some (known_in rows q) else None)
          ∙ by (test q) any refl
          ∙ sym (λ j. if made j then Some (known_in (filter p rows) q) else None)
        where
          by : (t any : Bool) → test q ≡ t → (if t && any then Some (known_in rows q) else None) ≡ (if t && any then Some (known_in (filter p rows) q) else None)
          by true any e =
              ap (λ rs. if true && any then Some (map (known_of query.groups q rs) (slots query)) else None) (sym (same_group test p query.groups q e rows says_so))
          by false any e = refl

      alike_holds : Holds query (filter p rows) new
      alike_holds = record {
        columns = of.columns;
        items = of.items;
        order = of.order;
        limit = of.limit;
        apart = of.apart;
        known = alike_known;
        fits = all_taken_fit;
        few = omega (arith, held.few, few_filter p rows);
      }

    -- ---- one group of all rows

    module _ (b : List Value × List Accumulator) (one : kept marks other.groups ≡ b ∷ []) where
      passed_is : filter test (keys_in_order other) ≡ b.0 ∷ []
      passed_is =
          sym (keys_pass test other.groups) ∙ ap (λ (es : Entries). keys_of es) (sym (kept_passes test other.groups) ∙ ap (λ ms. kept ms other.groups) (sym is) ∙ one)

      tells : (r : Row) → p r ≡ test (key_of over.groups r) → list_any (same_key (key_of over.groups r)) (keys_in_order other) ≡ true → p r ≡ has_key over.groups b.0 r
      tells r said there =
          let q = key_of over.groups r in
          said ∙ sym (and_true (test q)) ∙ ap (λ x. test q && x) (sym there) ∙ sym (any_kept test q (keys_in_order other)) ∙ ap (list_any (same_key q)) passed_is ∙ or_false (same_key q b.0)

      taken_is : filter p rows ≡ group_of over.groups b.0 rows
      taken_is =
          same_filter p (has_key over.groups b.0) rows
          (both_all (λ r. p r ≡ test (key_of over.groups r)) (λ r. list_any (same_key (key_of over.groups r)) (keys_in_order other) ≡ true) (λ r. p r ≡ has_key over.groups b.0 r) tells rows says (own_there over rows other held))

      module _ (none : query.groups ≡ []) (a : List Value × List Accumulator) (whole : new.groups ≡ a ∷ []) (key : a.0 ≡ []) where
        whole_known : a.1 ≡ map (known_of [] [] (filter p rows)) (slots query)
        whole_known =
            told_group 0 a.0 a.1 b.0 b.1 (ap (λ (es : Entries). slice_get es 0) whole) (ap (λ (es : Entries). slice_get es 0) one)
            ∙ (λ j. map (known_of (none j) (key j) (sym taken_is j)) (slots query))

        all_pass : (rs : List Row) → filter (has_key [] []) rs ≡ rs
        all_pass [] = refl
        all_pass (r ∷ rs) = (λ j. cond (keys_equiv.refl [] j) (r ∷ filter (has_key [] []) rs) (filter (has_key [] []) rs)) ∙ ap (λ t. r ∷ t) (all_pass rs)

        whole_at : (q : List Value) → known_at new q ≡ known_if query (filter p rows) q
        whole_at q =
            ap (lookup (same_key q)) whole
            ∙ (λ j. cond (same_key q (key j)) (Some (whole_known j)) None)
            ∙ by (same_key q []) refl
            ∙ (λ j. if makes_group (sym none j) (filter p rows) q then Some (map (known_of (sym none j) q (group_of (sym none j) q (filter p rows))) (slots query)) else None)
          where
            by : (b : Bool) → same_key q [] ≡ b
                → cond b (Some (map (known_of [] [] (filter p rows)) (slots query))) None ≡ (if b then Some (map (known_of [] q (group_of [] q (filter p rows))) (slots query)) else None)
            by true e =
                let empty : q ≡ [] = same_is q [] e in
                ap (λ rs. Some (map (known_of [] [] rs) (slots query))) (sym (all_pass (filter p rows)))
                ∙ (λ j. Some (map (known_of [] (sym empty j) (group_of [] (sym empty j) (filter p rows))) (slots query)))
            by false e = refl

        whole_holds : Holds query (filter p rows) new
        whole_holds = record {
          columns = of.columns;
          items = of.items;
          order = of.order;
          limit = of.limit;
          apart = of.apart;
          known = whole_at;
          fits = all_taken_fit;
          few = omega (arith, held.few, few_filter p rows);
        }

-- of the groups of the same columns
pub picks_alike : (query : Query) (marks : List Bool) (other new : Grouped) → AreOf query new → AllByRecursion (IsAmong (all_items other)) (slots query) → AreAllTold query marks other new
    → query.groups ≡ other.columns → (query.groups ≡ [] → ⊥) → keys_in_order new ≡ kept marks (keys_in_order other)
    → Picks query marks other new
picks_alike query marks other new of among told alike some keys over rows test held is says =
    alike_holds query marks other new of among told over rows test held is says alike some keys

single : {X : Type 0} (xs : List X) → length xs ≡ 1 → (x : X) × (xs ≡ x ∷ [])
single [] h = absurd (omega (arith, h))
single (x ∷ []) h = (x, refl)
single (x ∷ (y ∷ xs)) h = absurd (omega (arith, h))

-- of one group, where there is no GROUP BY
pub picks_whole : (query : Query) (marks : List Bool) (other new : Grouped) → AreOf query new → AllByRecursion (IsAmong (all_items other)) (slots query) → AreAllTold query marks other new
    → query.groups ≡ [] → length (kept marks other.groups) ≡ 1 → keys_in_order new ≡ [] ∷ []
    → Picks query marks other new
picks_whole query marks other new of among told none one keys over rows test held is says =
    let b = single (kept marks other.groups) one in
    let a = single new.groups (sym (keys_long new.groups) ∙ ap length keys) in
    whole_holds query marks other new of among told over rows test held is says b.0 b.1 none a.0 a.1
    (ap (first_or (a.0).0) (ap (λ (es : Entries). keys_of es) (sym a.1) ∙ keys))

-- of no group, where there is no GROUP BY
pub picks_none : (query : Query) (marks : List Bool) (other new : Grouped) → length (kept marks (keys_in_order other)) ≡ 0 → Holds query [] new → Picks query marks other new
picks_none query marks other new none first over rows test held is says =
    let keys = keys_in_order other in
    let passed : filter test keys ≡ [] = sym (ap (λ ms. kept ms keys) is ∙ kept_keys test keys) ∙ empty (kept marks keys) none in
    let all = both_all (λ r. passes query.filter r ≡ test (key_of over.groups r)) (λ r. list_any (same_key (key_of over.groups r)) keys ≡ true) (λ r. passes query.filter r ≡ false)
    (λ r said there. said ∙ sym (and_true (test (key_of over.groups r))) ∙ ap (λ x. test (key_of over.groups r) && x) (sym there)
    ∙ sym (any_kept test (key_of over.groups r) keys) ∙ ap (list_any (same_key (key_of over.groups r))) passed)
    rows says (own_there over rows other held) in
    subst (λ (rs : List Row). Holds query rs new) (sym (none_filter (passes query.filter) rows all)) first
  where
    empty : (ks : List (List Value)) → length ks ≡ 0 → ks ≡ []
    empty [] h = refl
    empty (k ∷ ks) h = absurd (omega (arith, h))
