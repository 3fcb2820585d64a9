-- A query of a text fits the schema that the text was read by.
use Rattle.std.proofs.Common.{◌≡◌, ◌≢◌, ℕ, suc, ◌≤◌, ◌<◌, Bool, true, false, ◌||◌, ◌⊎◌, inl, inr, List, [], ◌∷◌, ◌++◌, length, map, nat_lt, nat_le, Option, Some, None, Result, Ok, Err, IfOk, if◌then◌else◌, refl, ap, sym, ◌∙◌, subst, true≢false, arith, Contains, get_or, slice_get}
use Rattle.std.specs.List.{AllByRecursion}
use Rattle.std.specs.Option.{is_none}
use Rattle.std.specs.Str.{bytes_eq}
use Rattle.std.proofs.lemmas.Bool.{and_parts, or_parts, ltb-true, leb-true}
use Rattle.std.proofs.lemmas.List.Elements.{All-from_recursion, All-map}
use Rattle.std.proofs.lemmas.Option.{slice_get_cases}
use Rattle.std.proofs.lemmas.Slice.Eq.{bytes_eq-Decides}
use Rattle.rt_schema.specs.declared.column.Column.{Column}
use Rattle.rt_schema.specs.declared.column.Kind.{Kind}
use Rattle.rt_schema.specs.declared.schema.Schema.{Schema}
use Rattle.rt_model.specs.Checked as checked
use Rattle.rt_model.specs.Tree.{Tree}
use Rattle.rt_model.specs.declared.query.Query.{Query}
use Rattle.rt_model.specs.declared.query_parts.Aggregate.{Aggregate as Function}
use Rattle.rt_model.specs.declared.query_parts.Aggregate.TheVariants.{Count, Sum, Min, Max}
use Rattle.rt_model.specs.declared.query_parts.ColumnAt.{ColumnAt}
use Rattle.rt_model.specs.declared.query_parts.Item.{Item}
use Rattle.rt_model.specs.declared.query_parts.Item.TheVariants as item
use Rattle.rt_model.specs.declared.query_parts.Literal.{Literal}
use Rattle.rt_tokens.specs.Literals.{rows, or_none}
use Rattle.rt_tokens.specs.Tokens.{tokens_of}
use Rattle.rt_tokens.specs.declared.lexeme.Lexeme.TheVariants.{Word, Name}
use Rattle.rt_tokens.specs.declared.lexeme.Word.TheVariants as word
use Rattle.rt_tokens.specs.declared.token.Token.{Token}
use Rattle.rt_grammar.specs.Columns.{place_of, column_at}
use Rattle.rt_grammar.specs.Grammar as grammar
use Rattle.rt_grammar.specs.Grammar.{tok, Repeats, no_more, comma, IsLiteral, number, minus, quoted, truth, untruth, IsList, list, IsTest, between, one_of, none_of, IsTerm, negated, enclosed, test as tested_name, IsCondition, condition, MoreTerms, no_term, and, IsPredicate, predicate, MoreConditions, no_condition, or, IsItem, column, count, sum, min, max, IsKey, key, IsName, name, IsWhere, unfiltered, filtered, IsGroups, grouped, IsOrder, unordered, ordered, IsLimit, unlimited, limited, IsQuery, query, or_else}
use Rattle.rt_grammar.specs.Whole.{query_with}
use Rattle.rt_grammar.specs.Run.{Answers}
use Rattle.rt_grammar.specs.declared.parts.ItemAt.{ItemAt}
use Rattle.rt_grammar.specs.declared.parts.GroupAt.{GroupAt}
use Rattle.rt_grammar.specs.declared.parts.KeyAt.{KeyAt}
use Rattle.rt_grammar.specs.declared.parts.Parts.{Parts}
use Rattle.rt_grammar.specs.declared.sql_refused.SqlRefused.{SqlRefused}
use Rattle.rt_sql.specs.Checks.{are_known}
use Rattle.rt_sql.specs.Kinds.{is_kind, is_typed_item, are_typed_items, is_typed_filter, is_typed_query}
use Rattle.rt_sql.specs.Parsing.{query_of}
use Rattle.rt_sql.specs.Queries.{IsTextOf}
use Rattle.rt_sql.specs.Rules.{is_grouped, is_aggregate, has_aggregate, may_stand, ungrouped, repeated, same_aggregate, same_item, is_selected, is_group, stray, first_of, breach}
use Rattle.rt_sql.specs.declared.before.Before.TheVariants.{Other}
use Rattle.rt_sql.proofs.Texts.{answered_text, none_broken}

-- Columns by their names

-- a column stands at the place of its name
abbrev IsPlaced : Schema → ColumnAt → Type 0
IsPlaced s c = c ≡ column_at s c.name

same_column : (s : Schema) (a b : ColumnAt) → IsPlaced s a → IsPlaced s b → bytes_eq a.name b.name ≡ true → a ≡ b
same_column s a b at bt e = at ∙ ap (column_at s) ((bytes_eq-Decides a.name b.name).0 e) ∙ sym bt

-- what stands at the place of a name has that name
named_if : (n : List ℕ) (x c : Column) (o : Option Column) (b : Bool) → b ≡ bytes_eq n x.name → (o ≡ Some c → n ≡ c.name) → (if b then Some x else o) ≡ Some c → n ≡ c.name
named_if n x c o true same later e = let found : x ≡ c = cc in (bytes_eq-Decides n x.name).0 (sym same) ∙ ap (λ (y : Column). y.name) found
named_if n x c o false same later e = later e

there : (x : Column) (cs : List Column) (k : ℕ) (b : Bool) → slice_get (x ∷ cs) (if b then 0 else suc k) ≡ (if b then Some x else slice_get cs k)
there x cs k true = refl
there x cs k false = refl

named_there : (n : List ℕ) (cs : List Column) (c : Column) → slice_get cs (place_of n cs) ≡ Some c → n ≡ c.name
named_there n [] c e = cc
named_there n (x ∷ cs) c e =
    named_if n x c (slice_get cs (place_of n cs)) (bytes_eq n x.name) refl (λ f. named_there n cs c f)
    (sym (there x cs (place_of n cs) (bytes_eq n x.name)) ∙ e)

-- Filters

no_fault : (o : Option checked.Fault) → is_none o ≡ true → o ≡ None
no_fault None e = refl
no_fault (Some fault) e = absurd (true≢false (sym e))

filter_fits : (s : Schema) (f : Option Tree) → is_typed_filter s f ≡ true → checked.IsFilter s f
filter_fits s None e = tt
filter_fits s (Some t) e = no_fault (checked.fault_of s t) e

-- Which names are known behind what has been read

abbrev Known : Schema → List Token → Type 0
Known s ts = are_known s Other ts ≡ true

literal_known : (s : Schema) {ts rest : List Token} {l : Literal} → IsLiteral ts rest l → Known s ts → Known s rest
literal_known s (number b n rest) h = h
literal_known s (minus b c n rest) h = h
literal_known s (quoted b t rest) h = h
literal_known s (truth b rest) h = h
literal_known s (untruth b rest) h = h

literals_known : (s : Schema) {ts rest : List Token} {ls : List Literal} → Repeats Literal IsLiteral ts rest ls → Known s ts → Known s rest
literals_known s (no_more rest) h = h
literals_known s (comma b is more) h = literals_known s more (literal_known s is h)

list_known : (s : Schema) {ts rest : List Token} {ls : List Literal} → IsList ts rest ls → Known s ts → Known s rest
list_known s (list b c is more) h = literals_known s more (literal_known s is h)

test_known : (s : Schema) (c : ColumnAt) {ts rest : List Token} {t : Tree} → IsTest c ts rest t → Known s ts → Known s rest
test_known s c (grammar.compares b _ o is) h = literal_known s is h
test_known s c (between b d _ low high) h = literal_known s high (literal_known s low h)
test_known s c (one_of b _ is) h = list_known s is h
test_known s c (none_of b d _ is) h = list_known s is h

-- the name at the front stands in the schema
name_known : (s : Schema) (b : ℕ) (n : List ℕ) (ts : List Token) → Known s (tok b (Name n) ∷ ts) → (nat_lt (place_of n s.columns) (length s.columns) ≡ true) × Known s ts
name_known s b n ts h = and_parts (nat_lt (place_of n s.columns) (length s.columns)) (are_known s Other ts) h

mutual
  term_known : (s : Schema) {room : ℕ} {ts rest : List Token} {t : Tree} → IsTerm s room ts rest t → Known s ts → Known s rest
  term_known s (negated b is) h = term_known s is h
  term_known s (enclosed b c is) h = predicate_known s is h
  term_known s (tested_name b _ room n {ts = ts} is) h = test_known s (column_at s n) is (name_known s b n ts h).1

  terms_known : (s : Schema) {room : ℕ} {ts rest : List Token} {more : List Tree} → MoreTerms s room ts rest more → Known s ts → Known s rest
  terms_known s (no_term _ room rest) h = h
  terms_known s (and b is terms) h = terms_known s terms (term_known s is h)

  condition_known : (s : Schema) {room : ℕ} {ts rest : List Token} {t : Tree} → IsCondition s room ts rest t → Known s ts → Known s rest
  condition_known s (condition is terms) h = terms_known s terms (term_known s is h)

  predicate_known : (s : Schema) {room : ℕ} {ts rest : List Token} {t : Tree} → IsPredicate s room ts rest t → Known s ts → Known s rest
  predicate_known s (predicate is conditions) h = conditions_known s conditions (condition_known s is h)

  conditions_known : (s : Schema) {room : ℕ} {ts rest : List Token} {more : List Tree} → MoreConditions s room ts rest more → Known s ts → Known s rest
  conditions_known s (no_condition _ room rest) h = h
  conditions_known s (or b is conditions) h = conditions_known s conditions (condition_known s is h)

where_known : (s : Schema) {room : ℕ} {ts rest : List Token} {f : Option Tree} → IsWhere s room ts rest f → Known s ts → Known s rest
where_known s (unfiltered _ room rest) h = h
where_known s (filtered b is) h = predicate_known s is h

item_known : (s : Schema) {ts rest : List Token} {i : ItemAt} → IsItem s ts rest i → Known s ts → Known s rest
item_known s (column b _ n rest) h = (name_known s b n rest h).1
item_known s (count b c d e _ rest) h = h
item_known s (sum b c d e _ n rest) h = (name_known s d n (tok e (Word word.Close) ∷ rest) h).1
item_known s (min b c d e _ n rest) h = (name_known s d n (tok e (Word word.Close) ∷ rest) h).1
item_known s (max b c d e _ n rest) h = (name_known s d n (tok e (Word word.Close) ∷ rest) h).1

items_known : (s : Schema) {ts rest : List Token} {is : List ItemAt} → Repeats ItemAt (IsItem s) ts rest is → Known s ts → Known s rest
items_known s (no_more rest) h = h
items_known s (comma b is more) h = items_known s more (item_known s is h)

-- Names of GROUP BY

-- the schema's column of a name
abbrev IsGroup : Schema → GroupAt → Type 0
IsGroup s g = IsPlaced s g.column × (nat_lt (place_of g.column.name s.columns) (length s.columns) ≡ true)

group_known : (s : Schema) {ts rest : List Token} {g : GroupAt} → IsName s ts rest g → Known s ts → IsGroup s g × Known s rest
group_known s (name b _ n rest) h = let both = name_known s b n rest h in ((refl, both.0), both.1)

more_groups_known : (s : Schema) {ts rest : List Token} {gs : List GroupAt} → Repeats GroupAt (IsName s) ts rest gs → Known s ts → AllByRecursion (IsGroup s) gs
more_groups_known s (no_more rest) h = tt
more_groups_known s (comma b is more) h = let first = group_known s is h in (first.0, more_groups_known s more first.1)

groups_known : (s : Schema) {ts rest : List Token} {gs : List GroupAt} → IsGroups s ts rest gs → Known s ts → AllByRecursion (IsGroup s) gs
groups_known s (grammar.ungrouped _ rest) h = tt
groups_known s (grouped b c is more) h = let first = group_known s is h in (first.0, more_groups_known s more first.1)

-- a name that is known stands at its place
known_there : (n : List ℕ) (cs : List Column) → nat_lt (place_of n cs) (length cs) ≡ true → (c : Column) × (slice_get cs (place_of n cs) ≡ Some c) × (n ≡ c.name)
known_there n cs h = by (slice_get_cases cs (place_of n cs)).1
  where
    by : ((x : Column) × (place_of n cs < length cs) × (slice_get cs (place_of n cs) ≡ Some x) × (get_or cs (place_of n cs) x ≡ x)) ⊎ ((length cs ≤ place_of n cs) × (slice_get cs (place_of n cs) ≡ None)) → (c : Column) × (slice_get cs (place_of n cs) ≡ Some c) × (n ≡ c.name)
    by (inl (x, lt, at, same)) = (x, at, named_there n cs x at)
    by (inr (past, at)) = let lt = ltb-true (place_of n cs) (length cs) h in absurd (omega (arith, lt, past))

any_column : (s : Schema) (k : Option Kind) (c : Column) → k ≡ Some c.kind → checked.IfColumn checked.any_kind k
any_column s None c e = absurd cc
any_column s (Some k) c e = refl

group_kind : (s : Schema) (g : ColumnAt) (c : Column) → IsPlaced s g → slice_get s.columns (place_of g.name s.columns) ≡ Some c → g.name ≡ c.name → checked.kind_at s g ≡ Some c.kind
group_kind s g c at is named =
    ap (checked.kind_if g.name) (ap (λ (d : ColumnAt). slice_get s.columns d.place) at ∙ is)
    ∙ ap (λ b. if b then Some c.kind else None) ((bytes_eq-Decides c.name g.name).1 (sym named))

group_fits : (s : Schema) (g : GroupAt) → IsGroup s g → checked.IsColumn s checked.any_kind g.column
group_fits s g (at, known) =
    let found = known_there g.column.name s.columns known in
    any_column s (checked.kind_at s g.column) found.0 (group_kind s g.column found.0 at found.1 found.2)

-- What stands in GROUP BY, and among the items

contains_first : {X : Type 0} (x : X) (xs : List X) → Contains (x ∷ xs) x
contains_first x xs = (0, omega arith, refl)

contains_later : {X : Type 0} (x : X) (xs : List X) (y : X) → Contains xs y → Contains (x ∷ xs) y
contains_later x xs y (k, lt, at) = (suc k, omega (arith, lt), at)

contains_if : {X : Type 0} (x : X) (xs : List X) (y : X) (b c : Bool) → (b ≡ true → y ≡ x) → (c ≡ true → Contains xs y) → (b || c) ≡ true → Contains (x ∷ xs) y
contains_if x xs y true c first later e = subst (λ z. Contains (x ∷ xs) z) (sym (first refl)) (contains_first x xs)
contains_if x xs y false c first later e = contains_later x xs y (later e)

grouped_there : (s : Schema) (c : ColumnAt) (gs : List GroupAt) → IsPlaced s c → AllByRecursion (IsGroup s) gs → is_grouped c.name gs ≡ true → Contains (map (λ g. g.column) gs) c
grouped_there s c [] at all e = absurd (true≢false (sym e))
grouped_there s c (g ∷ gs) at (first, rest) e =
    contains_if g.column (map (λ g. g.column) gs) c (bytes_eq c.name g.column.name) (is_grouped c.name gs)
    (λ h. same_column s c g.column at first.0 h) (λ h. grouped_there s c gs at rest h) e

abbrev HasPlace : Schema → Item → Type 0
HasPlace s (item.Column c) = IsPlaced s c
HasPlace s (item.Aggregate Count) = Unit {0}
HasPlace s (item.Aggregate (Sum c)) = IsPlaced s c
HasPlace s (item.Aggregate (Min c)) = IsPlaced s c
HasPlace s (item.Aggregate (Max c)) = IsPlaced s c

abbrev IsFound : Schema → ItemAt → Type 0
IsFound s found = HasPlace s found.item

item_placed : (s : Schema) {ts rest : List Token} {i : ItemAt} → IsItem s ts rest i → IsFound s i
item_placed s (column b _ n rest) = refl
item_placed s (count b c d e _ rest) = tt
item_placed s (sum b c d e _ n rest) = refl
item_placed s (min b c d e _ n rest) = refl
item_placed s (max b c d e _ n rest) = refl

items_placed : (s : Schema) {ts rest : List Token} {is : List ItemAt} → Repeats ItemAt (IsItem s) ts rest is → AllByRecursion (IsFound s) is
items_placed s (no_more rest) = tt
items_placed s (comma b is more) = (item_placed s is, items_placed s more)

aggregates_same : (s : Schema) (a b : Function) → HasPlace s (item.Aggregate a) → HasPlace s (item.Aggregate b) → same_aggregate a b ≡ true → a ≡ b
aggregates_same s Count Count at bt e = refl
aggregates_same s (Sum a) (Sum b) at bt e = ap (λ c. Sum c) (same_column s a b at bt e)
aggregates_same s (Min a) (Min b) at bt e = ap (λ c. Min c) (same_column s a b at bt e)
aggregates_same s (Max a) (Max b) at bt e = ap (λ c. Max c) (same_column s a b at bt e)
aggregates_same s Count (Sum b) at bt e = absurd (true≢false (sym e))
aggregates_same s Count (Min b) at bt e = absurd (true≢false (sym e))
aggregates_same s Count (Max b) at bt e = absurd (true≢false (sym e))
aggregates_same s (Sum a) Count at bt e = absurd (true≢false (sym e))
aggregates_same s (Sum a) (Min b) at bt e = absurd (true≢false (sym e))
aggregates_same s (Sum a) (Max b) at bt e = absurd (true≢false (sym e))
aggregates_same s (Min a) Count at bt e = absurd (true≢false (sym e))
aggregates_same s (Min a) (Sum b) at bt e = absurd (true≢false (sym e))
aggregates_same s (Min a) (Max b) at bt e = absurd (true≢false (sym e))
aggregates_same s (Max a) Count at bt e = absurd (true≢false (sym e))
aggregates_same s (Max a) (Sum b) at bt e = absurd (true≢false (sym e))
aggregates_same s (Max a) (Min b) at bt e = absurd (true≢false (sym e))

items_same : (s : Schema) (a b : Item) → HasPlace s a → HasPlace s b → same_item a b ≡ true → a ≡ b
items_same s (item.Column a) (item.Column b) at bt e = ap (λ c. item.Column c) (same_column s a b at bt e)
items_same s (item.Aggregate a) (item.Aggregate b) at bt e = ap (λ c. item.Aggregate c) (aggregates_same s a b at bt e)
items_same s (item.Column a) (item.Aggregate b) at bt e = absurd (true≢false (sym e))
items_same s (item.Aggregate a) (item.Column b) at bt e = absurd (true≢false (sym e))

selected_there : (s : Schema) (i : Item) (is : List ItemAt) → HasPlace s i → AllByRecursion (IsFound s) is → is_selected i is ≡ true → Contains (map (λ f. f.item) is) i
selected_there s i [] at all e = absurd (true≢false (sym e))
selected_there s i (f ∷ is) at (first, rest) e =
    contains_if f.item (map (λ f. f.item) is) i (same_item i f.item) (is_selected i is)
    (λ h. items_same s i f.item at first h) (λ h. selected_there s i is at rest h) e

-- A query without a breach

if_none : (b : Bool) (x : Option ℕ) (n : ℕ) → (if b then x else Some n) ≡ None → (b ≡ true) × (x ≡ None)
if_none true x n e = (refl, e)
if_none false x n e = cc

unless_none : (b : Bool) (x : Option ℕ) (n : ℕ) → (if b then Some n else x) ≡ None → (b ≡ false) × (x ≡ None)
unless_none true x n e = cc
unless_none false x n e = (refl, e)

both_none : (x y : Option ℕ) → first_of x y ≡ None → (x ≡ None) × (y ≡ None)
both_none None y e = (refl, e)
both_none (Some n) y e = cc

-- items

kind_fits : (f : Kind → Bool) (k : Option Kind) → is_kind f k ≡ true → checked.IfColumn f k
kind_fits f None e = absurd (true≢false (sym e))
kind_fits f (Some k) e = e

item_fits : (s : Schema) (gs : List GroupAt) (i : Item) → AllByRecursion (IsGroup s) gs → HasPlace s i → may_stand gs i ≡ true → is_typed_item s i ≡ true → checked.IsItem s (map (λ g. g.column) gs) i
item_fits s gs (item.Column c) all at stands typed = grouped_there s c gs at all stands
item_fits s gs (item.Aggregate Count) all at stands typed = tt
item_fits s gs (item.Aggregate (Sum c)) all at stands typed = kind_fits checked.has_sum (checked.kind_at s c) typed
item_fits s gs (item.Aggregate (Min c)) all at stands typed = kind_fits checked.has_extremes (checked.kind_at s c) typed
item_fits s gs (item.Aggregate (Max c)) all at stands typed = kind_fits checked.has_extremes (checked.kind_at s c) typed

items_fit : (s : Schema) (gs : List GroupAt) (is : List ItemAt) → AllByRecursion (IsGroup s) gs → AllByRecursion (IsFound s) is → ungrouped gs is ≡ None → are_typed_items s is ≡ true → AllByRecursion (λ (f : ItemAt). checked.IsItem s (map (λ g. g.column) gs) f.item) is
items_fit s gs [] all found e typed = tt
items_fit s gs (f ∷ is) all (first, rest) e typed =
    let stands = if_none (may_stand gs f.item) (ungrouped gs is) f.byte e in
    let both = and_parts (is_typed_item s f.item) (are_typed_items s is) typed in
    (item_fits s gs f.item all first stands.0 both.0, items_fit s gs is all rest stands.1 both.1)

same_aggregates : (is : List ItemAt) → has_aggregate is ≡ checked.has_aggregate (map (λ f. f.item) is)
same_aggregates [] = refl
same_aggregates (f ∷ is) = by f.item ∙ ap (λ b. checked.is_aggregate f.item || b) (same_aggregates is)
  where
    by : (i : Item) → (is_aggregate i || has_aggregate is) ≡ (checked.is_aggregate i || has_aggregate is)
    by (item.Column c) = refl
    by (item.Aggregate a) = refl

-- order keys

key_placed : (s : Schema) {ts rest : List Token} {k : KeyAt} → IsKey s ts rest k → HasPlace s k.key.item
key_placed s (key is down) = item_placed s is

keys_placed : (s : Schema) {ts rest : List Token} {ks : List KeyAt} → Repeats KeyAt (IsKey s) ts rest ks → AllByRecursion (λ (k : KeyAt). HasPlace s k.key.item) ks
keys_placed s (no_more rest) = tt
keys_placed s (comma b is more) = (key_placed s is, keys_placed s more)

order_placed : (s : Schema) {ts rest : List Token} {ks : List KeyAt} → IsOrder s ts rest ks → AllByRecursion (λ (k : KeyAt). HasPlace s k.key.item) ks
order_placed s (unordered _ rest) = tt
order_placed s (ordered b c is more) = (key_placed s is, keys_placed s more)

group_there : (s : Schema) (gs : List GroupAt) (i : Item) → AllByRecursion (IsGroup s) gs → HasPlace s i → is_group i gs ≡ true → checked.IsGroupItem (map (λ g. g.column) gs) i
group_there s gs (item.Column c) all at e = grouped_there s c gs at all e
group_there s gs (item.Aggregate a) all at e = absurd (true≢false (sym e))

either_true : (a b : Bool) → (a || b) ≡ true → (a ≡ true) ⊎ (b ≡ true)
either_true true b e = inl refl
either_true false b e = inr e

abbrev Stands : List ItemAt → List GroupAt → Item → Type 0
Stands is gs i = Contains (map (λ f. f.item) is) i ⊎ checked.IsGroupItem (map (λ g. g.column) gs) i

key_fits : (s : Schema) (is : List ItemAt) (gs : List GroupAt) (i : Item) → AllByRecursion (IsFound s) is → AllByRecursion (IsGroup s) gs → HasPlace s i → (is_selected i is ≡ true) ⊎ (is_group i gs ≡ true) → Stands is gs i
key_fits s is gs i found all at (inl e) = inl (selected_there s i is at found e)
key_fits s is gs i found all at (inr e) = inr (group_there s gs i all at e)

keys_fit : (s : Schema) (is : List ItemAt) (gs : List GroupAt) (ks : List KeyAt) → AllByRecursion (IsFound s) is → AllByRecursion (IsGroup s) gs →
    AllByRecursion (λ (k : KeyAt). HasPlace s k.key.item) ks → stray is gs ks ≡ None → AllByRecursion (λ (k : KeyAt). Stands is gs k.key.item) ks
keys_fit s is gs [] found all placed e = tt
keys_fit s is gs (k ∷ ks) found all (first, rest) e =
    let stands = if_none (is_selected k.key.item is || is_group k.key.item gs) (stray is gs ks) k.byte e in
    (key_fits s is gs k.key.item found all first (either_true (is_selected k.key.item is) (is_group k.key.item gs) stands.0), keys_fit s is gs ks found all rest stands.1)

-- names of GROUP BY apart

not_before : (n : List ℕ) (xs : List GroupAt) (g : GroupAt) → is_grouped n (xs ++ g ∷ []) ≡ false → (is_grouped n xs ≡ false) × (bytes_eq n g.column.name ≡ false)
not_before n [] g e = (refl, (or_parts (bytes_eq n g.column.name) false e).0)
not_before n (x ∷ xs) g e =
    let parts = or_parts (bytes_eq n x.column.name) (is_grouped n (xs ++ g ∷ [])) e in
    let rest = not_before n xs g parts.1 in
    (ap (λ b. b || is_grouped n xs) parts.0 ∙ rest.0, rest.1)

weaker : {X : Type 0} (P Q : X → Type 0) → ((x : X) → P x → Q x) → (xs : List X) → AllByRecursion P xs → AllByRecursion Q xs
weaker P Q f [] all = tt
weaker P Q f (x ∷ xs) (first, rest) = (f x first, weaker P Q f xs rest)

unrepeated : (before gs : List GroupAt) → repeated before gs ≡ None → AllByRecursion (λ (g : GroupAt). is_grouped g.column.name before ≡ false) gs
unrepeated before [] e = tt
unrepeated before (g ∷ gs) e =
    let new = unless_none (is_grouped g.column.name before) (repeated (before ++ g ∷ []) gs) g.byte e in
    (new.0, weaker (λ (h : GroupAt). is_grouped h.column.name (before ++ g ∷ []) ≡ false) (λ (h : GroupAt). is_grouped h.column.name before ≡ false) (λ h f. (not_before h.column.name before g f).0) gs (unrepeated (before ++ g ∷ []) gs new.1))

-- columns at one place have one name
names_at : (s : Schema) (a b : GroupAt) → IsGroup s a → IsGroup s b → a.column.place ≡ b.column.place → a.column.name ≡ b.column.name
names_at s a b (at, known) (bt, known2) e =
    let found = known_there a.column.name s.columns known in
    let places : place_of a.column.name s.columns ≡ place_of b.column.name s.columns = sym (ap (λ (d : ColumnAt). d.place) at) ∙ e ∙ ap (λ (d : ColumnAt). d.place) bt in
    found.2 ∙ sym (named_there b.column.name s.columns found.0 (ap (slice_get s.columns) (sym places) ∙ found.1))

places_apart : (s : Schema) (before : List GroupAt) (g : GroupAt) (gs : List GroupAt) → IsGroup s g → AllByRecursion (IsGroup s) gs →
    AllByRecursion (λ (h : GroupAt). is_grouped h.column.name (before ++ g ∷ []) ≡ false) gs → AllByRecursion (λ (h : GroupAt). h.column.place ≢ g.column.place) gs
places_apart s before g [] is all new = tt
places_apart s before g (h ∷ gs) is (first, rest) (new, later) = (
  (λ e. true≢false (sym ((bytes_eq-Decides h.column.name g.column.name).1 (names_at s h g first is e)) ∙ (not_before h.column.name before g new).1)),
  places_apart s before g gs is rest later,
)

groups_apart : (s : Schema) (before gs : List GroupAt) → AllByRecursion (IsGroup s) gs → repeated before gs ≡ None → checked.AreApart (map (λ g. g.column) gs)
groups_apart s before [] all e = tt
groups_apart s before (g ∷ gs) (first, rest) e =
    let new = unless_none (is_grouped g.column.name before) (repeated (before ++ g ∷ []) gs) g.byte e in (
      All-map (λ (d : ColumnAt). d.place ≢ g.column.place) (λ (h : GroupAt). h.column) gs
          (All-from_recursion (λ (h : GroupAt). h.column.place ≢ g.column.place) gs (places_apart s before g gs first rest (unrepeated (before ++ g ∷ []) gs new.1))),
      groups_apart s (before ++ g ∷ []) gs rest new.1,
    )

-- LIMIT

rows_few : (n : Option ℕ) → or_none (rows n) ≤ 1000000
rows_few None = omega arith
rows_few (Some n) = by (nat_le n 1000000) refl
  where
    by : (b : Bool) → b ≡ nat_le n 1000000 → or_none (if b then Some n else None) ≤ 1000000
    by true e = leb-true n 1000000 (sym e)
    by false e = omega arith

limit_few : {ts rest : List Token} {l : Option ℕ} → IsLimit ts rest l → or_else 10 l ≤ 1000000
limit_few (unlimited rest) = omega arith
limit_few (limited b c n rest) = rows_few n

-- A query

abbrev parts_of : ItemAt → List ItemAt → List ℕ → Option Tree → List GroupAt → List KeyAt → Option ℕ → Parts
parts_of x xs table filter groups keys limit = record { items = x ∷ xs; table = table; filter = filter; groups = groups; order = keys; limit = or_else 10 limit }

query_fits : (s : Schema) (ts : List Token) (p : Parts) → IsQuery s 64 ts p → Known s ts → breach p ≡ None → is_typed_query s p ≡ true → checked.IsQuery s (query_with p)
query_fits s ts _ (query b f n table {w = w} {x = x} {xs = xs} {filter = filter} {groups = groups} {keys = keys} {limit = limit} is items filtering grouping ordering limiting e) known none typed =
    let from : Known s w = items_known s items (item_known s is known) in
    let all = groups_known s grouping (where_known s filtering from) in
    let found : AllByRecursion (IsFound s) (x ∷ xs) = (item_placed s is, items_placed s items) in
    let types = and_parts (are_typed_items s (x ∷ xs)) (is_typed_filter s filter) typed in
    let has = if_none (has_aggregate (x ∷ xs)) _ x.byte none in
    let first = both_none (ungrouped groups (x ∷ xs)) _ has.1 in
    let later = both_none (repeated [] groups) (stray (x ∷ xs) groups keys) first.1 in
    record {
      aggregate = sym (same_aggregates (x ∷ xs)) ∙ has.0;
      items = All-map (checked.IsItem s (map (λ g. g.column) groups)) (λ (f : ItemAt). f.item) (x ∷ xs)
          (All-from_recursion (λ (f : ItemAt). checked.IsItem s (map (λ g. g.column) groups) f.item) (x ∷ xs) (items_fit s groups (x ∷ xs) all found first.0 types.0));
      filter = filter_fits s filter types.1;
      groups = All-map (checked.IsColumn s checked.any_kind) (λ (g : GroupAt). g.column) groups
          (All-from_recursion (λ (g : GroupAt). checked.IsColumn s checked.any_kind g.column) groups
          (weaker (IsGroup s) (λ (g : GroupAt). checked.IsColumn s checked.any_kind g.column) (λ g h. group_fits s g h) groups all));
      apart = groups_apart s [] groups all later.0;
      order = All-map (checked.IsOrderKey (query_with (parts_of x xs table filter groups keys limit))) (λ (k : KeyAt). k.key) keys
          (All-from_recursion (λ (k : KeyAt). Stands (x ∷ xs) groups k.key.item) keys (keys_fit s (x ∷ xs) groups keys found all (order_placed s ordering) later.1));
      limit = limit_few limiting;
    }

-- a query of a text is one over the schema
pub text_fits : (s : Schema) (t x : List ℕ) (q : Query) → IsTextOf s t x q → checked.IsQuery s q
text_fits s t x q (p, few, is, of_table, same) = subst (checked.IsQuery s) (sym same) (query_fits s (tokens_of x) p is of_table.known (none_broken p of_table.rules) of_table.typed)

-- what is answered is a query over the schema
pub answered_fits : (s : Schema) (t x : List ℕ) (r : Result Query SqlRefused) → Answers (query_of s t x) r → IfOk r (checked.IsQuery s)
answered_fits s t x (Ok q) e = text_fits s t x q (answered_text s t x (Ok q) e)
answered_fits s t x (Err refused) e = tt
