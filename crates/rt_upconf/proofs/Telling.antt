-- What is answered holds of the settings.
use Rattle.std.proofs.Common.{◌≡◌, ◌≤◌, ℕ, inl, inr, ◌&&◌, List, [], ◌∷◌, length, map, Bool, true, false, true≢false, is_some, codes, Option, Some, None, option_map, option_and_then, Result, Ok, Err, if◌then◌else◌, refl, ap, sym, ◌∙◌, subst, arith}
use Rattle.std.proofs.lemmas.Slice.Eq.{bytes_eq-Decides}
use Rattle.std.specs.Str.{bytes_eq}
use Rattle.serde_json.specs.Data.{Data, null, boolean, number, string, array, object, Items, Members}
use Rattle.serde_json.specs.Find.{get, as_str}
use Rattle.rt_lists.specs.Members.{Has}
use Rattle.rt_schema.specs.Json.{map_all, items_of, if_object, text_at, is_given}
use Rattle.rt_schema.specs.TableText.{inside, texts_at}
use Rattle.rt_schema.specs.declared.column.Column.{Column}
use Rattle.rt_schema.specs.declared.column.Kind.{Kind}
use Rattle.rt_schema.specs.declared.column.Kind.TheVariants.{Int, Long, Text, Bool as Truth, Time}
use Rattle.rt_schema.specs.declared.schema.Schema.{Schema}
use Rattle.rt_upconf.specs.declared.upsert_config.UpsertConfig.{UpsertConfig}
use Rattle.rt_upconf.specs.declared.upsert_refused.UpsertRefused.{UpsertRefused}
use Rattle.rt_upconf.specs.declared.upsert_refused.UpsertRefused.TheVariants.{NotObject, Mode, NoKeys, Comparison, NoColumn, WrongType, Memory}
use Rattle.rt_upconf.specs.Told.{IsAbsent, IsObject, IsString, AreStrings, config_at, mode_at, IsFull, AreKeys, columns_at, single_at, time_at, HasNoneListed, Compares, IsColumn, HasKeys, IsTold}
use Rattle.rt_upconf.specs.Upsert.{Answers, where_given, column_at, are_columns, is_comparable, if_some, fallback_of, comparison_from, config_of, config_with, full_of, by_mode, configured, time_of, upsert_at, object_of, upsert_of}

either : {A : Type 0} (P : A → Type 0) (t : Bool) (x y : A) → (t ≡ true → P x) → (t ≡ false → P y) → P (if t then x else y)
either P true x y h k = h refl
either P false x y h k = k refl

never : {A : Type 0} (t : Bool) → t ≡ true → t ≡ false → A
never t h k = absurd (true≢false (sym h ∙ k))

some_none : {X : Type 0} {x : X} → Some x ≡ None → ⊥
some_none e = cc

bytes_same : (xs ys : List ℕ) → bytes_eq xs ys ≡ true → xs ≡ ys
bytes_same xs ys h = grind (arith, bytes_eq-Decides xs ys)

same_bytes : (xs ys : List ℕ) → bytes_eq xs ys ≡ false → xs ≡ ys → ⊥
same_bytes xs ys h e = grind (arith, bytes_eq-Decides xs ys)

-- Strings and arrays of strings

data FoundText (found : Option Data) : Option (List ℕ) → Type 0 where
  text : (name : List ℕ) → IsString found name → FoundText found (Some name)
  no_text : ((name : List ℕ) → IsString found name → ⊥) → FoundText found None

found_text : (found : Option Data) → FoundText found (option_and_then as_str found)
found_text None = no_text (λ name e. (cc))
found_text (Some null) = no_text (λ name e. (cc))
found_text (Some (boolean b)) = no_text (λ name e. (cc))
found_text (Some (number n)) = no_text (λ name e. (cc))
found_text (Some (string s)) = text s refl
found_text (Some (array ds)) = no_text (λ name e. (cc))
found_text (Some (object ms)) = no_text (λ name e. (cc))

data FoundStrings (xs : List Data) : Option (List (List ℕ)) → Type 0 where
  strings : (names : List (List ℕ)) → xs ≡ map string names → FoundStrings xs (Some names)
  no_strings : ((names : List (List ℕ)) → xs ≡ map string names → ⊥) → FoundStrings xs None

-- the first item is no string
other_first : (d : Data) (xs : List Data) → ((name : List ℕ) → d ≡ string name → ⊥) → (names : List (List ℕ)) → d ∷ xs ≡ map string names → ⊥
other_first d xs h [] e = cc
other_first d xs h (name ∷ names) e = h name (cc)

string_first : (s : List ℕ) (xs : List Data) (found : Option (List (List ℕ))) → FoundStrings xs found → FoundStrings (string s ∷ xs) (option_map (λ names. s ∷ names) found)
string_first s xs found (strings names e) = strings (s ∷ names) (ap (λ ds. string s ∷ ds) e)
string_first s xs found (no_strings h) = no_strings (none s xs h)
  where
    none : (s : List ℕ) (xs : List Data) → ((names : List (List ℕ)) → xs ≡ map string names → ⊥) → (names : List (List ℕ)) → string s ∷ xs ≡ map string names → ⊥
    none s xs h [] e = cc
    none s xs h (name ∷ names) e = h names (cc)

found_strings : (xs : List Data) → FoundStrings xs (map_all as_str xs)
found_strings [] = strings [] refl
found_strings (null ∷ xs) = no_strings (other_first null xs (λ name e. (cc)))
found_strings (boolean b ∷ xs) = no_strings (other_first (boolean b) xs (λ name e. (cc)))
found_strings (number n ∷ xs) = no_strings (other_first (number n) xs (λ name e. (cc)))
found_strings (string s ∷ xs) = string_first s xs (map_all as_str xs) (found_strings xs)
found_strings (array ds ∷ xs) = no_strings (other_first (array ds) xs (λ name e. (cc)))
found_strings (object ms ∷ xs) = no_strings (other_first (object ms) xs (λ name e. (cc)))

-- what an array of strings that may be absent says
data FoundTexts (found : Option Data) : Option (List (List ℕ)) → Type 0 where
  absent : IsAbsent found → FoundTexts found (Some [])
  texts : (names : List (List ℕ)) → AreStrings found names → FoundTexts found (Some names)
  no_texts : (IsAbsent found → ⊥) → ((names : List (List ℕ)) → AreStrings found names → ⊥) → FoundTexts found None

not_absent : (d : Data) → (d ≡ null → ⊥) → IsAbsent (Some d) → ⊥
not_absent d h (inl e) = some_none e
not_absent d h (inr e) = h (cc)

no_array : (d : Data) → ((ds : Items) → d ≡ array ds → ⊥) → (names : List (List ℕ)) → AreStrings (Some d) names → ⊥
no_array d h names (ds, e, is) = h ds (cc)

array_texts : (ds : Items) (found : Option (List (List ℕ))) → FoundStrings (items_of ds) found → FoundTexts (Some (array ds)) found
array_texts ds found (strings names e) = texts names (ds, refl, e)
array_texts ds found (no_strings h) = no_texts (not_absent (array ds) (λ e. (cc))) (none ds h)
  where
    none : (ds : Items) → ((names : List (List ℕ)) → items_of ds ≡ map string names → ⊥) → (names : List (List ℕ)) → AreStrings (Some (array ds)) names → ⊥
    none ds h names (es, e, is) = let same : ds ≡ es = cc in h names (ap items_of same ∙ is)

found_texts : (found : Option Data) → FoundTexts found (texts_at found)
found_texts None = absent (inl refl)
found_texts (Some null) = absent (inr refl)
found_texts (Some (boolean b)) = no_texts (not_absent (boolean b) (λ e. (cc))) (no_array (boolean b) (λ ds e. (cc)))
found_texts (Some (number n)) = no_texts (not_absent (number n) (λ e. (cc))) (no_array (number n) (λ ds e. (cc)))
found_texts (Some (string s)) = no_texts (not_absent (string s) (λ e. (cc))) (no_array (string s) (λ ds e. (cc)))
found_texts (Some (array ds)) = array_texts ds (map_all as_str (items_of ds)) (found_strings (items_of ds))
found_texts (Some (object ms)) = no_texts (not_absent (object ms) (λ e. (cc))) (no_array (object ms) (λ ds e. (cc)))

-- whether a value is there
data Given (found : Option Data) : Bool → Type 0 where
  given : (IsAbsent found → ⊥) → Given found true
  not_given : IsAbsent found → Given found false

is_there : (found : Option Data) → Given found (is_given found)
is_there None = not_given (inl refl)
is_there (Some null) = not_given (inr refl)
is_there (Some (boolean b)) = given (not_absent (boolean b) (λ e. (cc)))
is_there (Some (number n)) = given (not_absent (number n) (λ e. (cc)))
is_there (Some (string s)) = given (not_absent (string s) (λ e. (cc)))
is_there (Some (array ds)) = given (not_absent (array ds) (λ e. (cc)))
is_there (Some (object ms)) = given (not_absent (object ms) (λ e. (cc)))

-- a value that is an object
data FoundObject (found : Option Data) : Option Data → Type 0 where
  an_object : (ms : Members) → found ≡ Some (object ms) → FoundObject found (Some (object ms))
  no_object : (IsObject found → ⊥) → FoundObject found None

not_object : (found : Option Data) → ((ms : Members) → found ≡ Some (object ms) → ⊥) → IsObject found → ⊥
not_object found h (ms, e) = h ms e

found_object : (found : Option Data) → FoundObject found (option_and_then if_object found)
found_object None = no_object (not_object None (λ ms e. (cc)))
found_object (Some null) = no_object (not_object (Some null) (λ ms e. (cc)))
found_object (Some (boolean b)) = no_object (not_object (Some (boolean b)) (λ ms e. (cc)))
found_object (Some (number n)) = no_object (not_object (Some (number n)) (λ ms e. (cc)))
found_object (Some (string s)) = no_object (not_object (Some (string s)) (λ ms e. (cc)))
found_object (Some (array ds)) = no_object (not_object (Some (array ds)) (λ ms e. (cc)))
found_object (Some (object ms)) = an_object ms refl

-- Columns

data FoundColumn (columns : List Column) (name : List ℕ) : Option Column → Type 0 where
  a_column : (column : Column) → Has columns column → column.name ≡ name → FoundColumn columns name (Some column)
  no_column : (IsColumn columns name → ⊥) → FoundColumn columns name None

later_column : (first : Column) (columns : List Column) (name : List ℕ) (found : Option Column) → (name ≡ first.name → ⊥) → FoundColumn columns name found → FoundColumn (first ∷ columns) name found
later_column first columns name found other (a_column column has e) = a_column column (inr has) e
later_column first columns name found other (no_column h) = no_column (none first columns name other h)
  where
    none : (first : Column) (columns : List Column) (name : List ℕ) → (name ≡ first.name → ⊥) → (IsColumn columns name → ⊥) → IsColumn (first ∷ columns) name → ⊥
    none first columns name other h (column, inl e, same) = other (sym same ∙ ap (λ c. c.name) (sym e))
    none first columns name other h (column, inr has, same) = h (column, has, same)

found_column : (columns : List Column) (name : List ℕ) → FoundColumn columns name (column_at name columns)
found_column [] name = no_column (none name)
  where
    none : (name : List ℕ) → IsColumn [] name → ⊥
    none name (column, has, e) = has
found_column (first ∷ columns) name =
    either (FoundColumn (first ∷ columns) name) (bytes_eq name first.name) (Some first) (column_at name columns)
    (λ e. a_column first (inl refl) (sym (bytes_same name first.name e)))
    (λ e. later_column first columns name (column_at name columns) (same_bytes name first.name e) (found_column columns name))

data FoundColumns (columns : List Column) (names : List (List ℕ)) : Bool → Type 0 where
  all_columns : ((name : List ℕ) → Has names name → IsColumn columns name) → FoundColumns columns names true
  not_all : (name : List ℕ) → Has names name → (IsColumn columns name → ⊥) → FoundColumns columns names false

more_columns : (columns : List Column) (name : List ℕ) (names : List (List ℕ)) (found : Option Column) (all : Bool) → FoundColumn columns name found → FoundColumns columns names all
    → FoundColumns columns (name ∷ names) (is_some found && all)
more_columns columns name names found all (no_column h) more = not_all name (inl refl) h
more_columns columns name names found all (a_column column has e) (not_all other has_other h) = not_all other (inr has_other) h
more_columns columns name names found all (a_column column has e) (all_columns h) = all_columns (each columns column name names has e h)
  where
    each : (columns : List Column) (column : Column) (name : List ℕ) (names : List (List ℕ)) → Has columns column → column.name ≡ name → ((other : List ℕ) → Has names other → IsColumn columns other)
        → (other : List ℕ) → Has (name ∷ names) other → IsColumn columns other
    each columns column name names has e h other (inl same) = (column, has, e ∙ same)
    each columns column name names has e h other (inr more) = h other more

found_columns : (columns : List Column) (names : List (List ℕ)) → FoundColumns columns names (are_columns columns names)
found_columns columns [] = all_columns (λ name has. absurd has)
found_columns columns (name ∷ names) = more_columns columns name names (column_at name columns) (are_columns columns names) (found_column columns name) (found_columns columns names)

-- The settings

-- an object of mode FULL, with keys
record Keyed (columns : List Column) (keyed table : Option Data) (keys : List (List ℕ)) : Type 0 where
  pub has : HasKeys keyed table keys
  pub all : (key : List ℕ) → Has keys key → IsColumn columns key

-- a settings' answer by the kind of its comparison column
by_kind : (columns : List Column) (keyed table : Option Data) (keys : List (List ℕ)) (name : List ℕ) (column : Column) (kind : Kind) → column.kind ≡ kind → Keyed columns keyed table keys → Compares table name
    → Has columns column → column.name ≡ name → IsTold columns keyed table (if is_comparable kind then Ok (Some (record { keys = keys; compare = name })) else Err WrongType)
by_kind columns keyed table keys name column Int is k named has e = (k.has, k.all, named, (column, has, e, inl is))
by_kind columns keyed table keys name column Long is k named has e = (k.has, k.all, named, (column, has, e, inr (inl is)))
by_kind columns keyed table keys name column Text is k named has e = (keys, k.has, k.all, (name, named, (column, has, e, inl is)))
by_kind columns keyed table keys name column Truth is k named has e = (keys, k.has, k.all, (name, named, (column, has, e, inr is)))
by_kind columns keyed table keys name column Time is k named has e = (k.has, k.all, named, (column, has, e, inr (inr is)))

by_column : (columns : List Column) (keyed table : Option Data) (keys : List (List ℕ)) (name : List ℕ) (found : Option Column) → FoundColumn columns name found → Keyed columns keyed table keys → Compares table name
    → IsTold columns keyed table (config_of keys name found)
by_column columns keyed table keys name found (no_column h) k named = (keys, k.has, inr (name, named, inr h))
by_column columns keyed table keys name found (a_column column has e) k named = by_kind columns keyed table keys name column column.kind refl k named has e

by_keys : (columns : List Column) (keyed table : Option Data) (keys : List (List ℕ)) (name : List ℕ) (all : Bool) → FoundColumns columns keys all → HasKeys keyed table keys → Compares table name
    → IsTold columns keyed table (if all then config_of keys name (column_at name columns) else Err NoColumn)
by_keys columns keyed table keys name all (not_all key has h) k named = (keys, k, inr (name, named, inl (key, has, h)))
by_keys columns keyed table keys name all (all_columns h) k named = by_column columns keyed table keys name (column_at name columns) (found_column columns name) (record { has = k; all = h }) named

named_told : (columns : List Column) (keyed table : Option Data) (keys : List (List ℕ)) (name : List ℕ) → HasKeys keyed table keys → Compares table name
    → IsTold columns keyed table (config_with columns keys (Some name))
named_told columns keyed table keys name k named = by_keys columns keyed table keys name (are_columns columns keys) (found_columns columns keys) k named

-- nothing is listed, so that the single column or the time column counts
by_time : (columns : List Column) (keyed table : Option Data) (keys : List (List ℕ)) (time : Option (List ℕ)) → FoundText (time_at table) time → HasKeys keyed table keys → HasNoneListed table → IsAbsent (single_at table)
    → IsTold columns keyed table (config_with columns keys time)
by_time columns keyed table keys time (text name e) k none single = named_told columns keyed table keys name k (inr (inr (none, single, e)))
by_time columns keyed table keys time (no_text h) k none single = (keys, k, inl (none, single, h))

by_single : (columns : List Column) (keyed table : Option Data) (keys : List (List ℕ)) (named : Option (List ℕ)) → FoundText (single_at table) named → HasKeys keyed table keys → HasNoneListed table → (IsAbsent (single_at table) → ⊥)
    → IsTold columns keyed table (where_given Comparison (option_map Some named) (config_with columns keys))
by_single columns keyed table keys named (text name e) k none there = named_told columns keyed table keys name k (inr (inl (none, e)))
by_single columns keyed table keys named (no_text h) k none there = (keys, k, inr (none, there, h))

by_given : (columns : List Column) (keyed table : Option Data) (keys : List (List ℕ)) (there : Bool) → Given (single_at table) there → HasKeys keyed table keys → HasNoneListed table
    → IsTold columns keyed table (where_given Comparison (if there then option_map Some (option_and_then as_str (single_at table)) else Some (time_of table)) (config_with columns keys))
by_given columns keyed table keys there (given h) k none = by_single columns keyed table keys (option_and_then as_str (single_at table)) (found_text (single_at table)) k none h
by_given columns keyed table keys there (not_given h) k none = by_time columns keyed table keys (time_of table) (found_text (time_at table)) k none h

none_told : (columns : List Column) (keyed table : Option Data) (keys : List (List ℕ)) → HasKeys keyed table keys → HasNoneListed table
    → IsTold columns keyed table (where_given Comparison (fallback_of (single_at table) (time_of table)) (config_with columns keys))
none_told columns keyed table keys k none = by_given columns keyed table keys (is_given (single_at table)) (is_there (single_at table)) k none

-- an array of two or more strings is none of at most one
two_listed : (found : Option Data) (first second : List ℕ) (more : List (List ℕ)) → AreStrings found (first ∷ second ∷ more) → (names : List (List ℕ)) → length names ≤ 1 → AreStrings found names → ⊥
two_listed found first second more (ds, e, is) [] few (es, f, are) =
    let same : ds ≡ es = cc in
    let both : string first ∷ string second ∷ map string more ≡ [] = sym is ∙ ap items_of same ∙ are in
    cc
two_listed found first second more (ds, e, is) (name ∷ []) few (es, f, are) =
    let same : ds ≡ es = cc in
    let both : string first ∷ string second ∷ map string more ≡ string name ∷ [] = sym is ∙ ap items_of same ∙ are in
    cc
two_listed found first second more h (name ∷ other ∷ names) few h2 = absurd (omega (arith, few))

listed_there : (found : Option Data) (names : List (List ℕ)) → AreStrings found names → IsAbsent found → ⊥
listed_there found names (ds, e, is) (inl f) = cc
listed_there found names (ds, e, is) (inr f) = cc

by_listed : (columns : List Column) (keyed table : Option Data) (keys names : List (List ℕ)) → AreStrings (columns_at table) names → HasKeys keyed table keys
    → IsTold columns keyed table (where_given Comparison (comparison_from (single_at table) (time_of table) names) (config_with columns keys))
by_listed columns keyed table keys [] h k = none_told columns keyed table keys k (inr h)
by_listed columns keyed table keys (name ∷ []) h k = named_told columns keyed table keys name k (inl h)
by_listed columns keyed table keys (name ∷ other ∷ names) h k =
    (keys, k, inl (listed_there (columns_at table) (name ∷ other ∷ names) h, two_listed (columns_at table) name other names h))

by_texts : (columns : List Column) (keyed table : Option Data) (keys : List (List ℕ)) (found : Option (List (List ℕ))) → FoundTexts (columns_at table) found → HasKeys keyed table keys
    → IsTold columns keyed table (where_given Comparison (option_and_then (comparison_from (single_at table) (time_of table)) found) (config_with columns keys))
by_texts columns keyed table keys found (absent h) k = none_told columns keyed table keys k (inl h)
by_texts columns keyed table keys found (texts names h) k = by_listed columns keyed table keys names h k
by_texts columns keyed table keys found (no_texts there h) k = (keys, k, inl (there, λ names few. h names))

no_keys : (keyed : Option Data) → IsAbsent (inside (codes "primaryKeyColumns") keyed) → (keys : List (List ℕ)) → AreKeys keyed keys → ⊥
no_keys keyed h keys k = listed_there (inside (codes "primaryKeyColumns") keyed) keys k.strings h

strings_same : (found : Option Data) (keys : List (List ℕ)) → AreStrings found [] → AreStrings found keys → 1 ≤ length keys → ⊥
strings_same found [] h k some = absurd (omega (arith, some))
strings_same found (key ∷ keys) (ds, e, is) (es, f, are) some =
    let same : ds ≡ es = cc in
    let both : [] ≡ string key ∷ map string keys = sym is ∙ ap items_of same ∙ are in
    cc

by_key_texts : (columns : List Column) (keyed table : Option Data) (found : Option (List (List ℕ))) → FoundTexts (inside (codes "primaryKeyColumns") keyed) found → IsFull table
    → IsTold columns keyed table (where_given NoKeys (option_and_then if_some found)
    (λ keys. where_given Comparison (option_and_then (comparison_from (single_at table) (time_of table)) (texts_at (columns_at table))) (config_with columns keys)))
by_key_texts columns keyed table found (absent h) full = (full, no_keys keyed h)
by_key_texts columns keyed table found (no_texts there h) full = (full, λ keys k. h keys k.strings)
by_key_texts columns keyed table found (texts [] h) full = (full, λ keys k. strings_same (inside (codes "primaryKeyColumns") keyed) keys h k.strings k.some)
by_key_texts columns keyed table found (texts (key ∷ keys) h) full =
    by_texts columns keyed table (key ∷ keys) (texts_at (columns_at table)) (found_texts (columns_at table)) (full, record { some = omega arith; strings = h })

-- what an object of settings has at a key
at_key : (table : Option Data) (config : Data) (key : List ℕ) → config_at table ≡ Some config → inside key (config_at table) ≡ get key config
at_key table config key e = ap (inside key) e

full_told : (columns : List Column) (keyed table : Option Data) (config : Data) → config_at table ≡ Some config → IsFull table → IsTold columns keyed table (full_of columns keyed (time_of table) config)
full_told columns keyed table config e full =
    subst (λ (found : Option Data). IsTold columns keyed table (where_given NoKeys (option_and_then if_some (texts_at (inside (codes "primaryKeyColumns") keyed)))
    (λ keys. where_given Comparison (option_and_then (comparison_from found (time_of table)) (texts_at (get (codes "comparisonColumns") config))) (config_with columns keys))))
    (at_key table config (codes "comparisonColumn") e)
    (subst (λ (found : Option Data). IsTold columns keyed table (where_given NoKeys (option_and_then if_some (texts_at (inside (codes "primaryKeyColumns") keyed)))
    (λ keys. where_given Comparison (option_and_then (comparison_from (single_at table) (time_of table)) (texts_at found)) (config_with columns keys))))
    (at_key table config (codes "comparisonColumns") e)
    (by_key_texts columns keyed table (texts_at (inside (codes "primaryKeyColumns") keyed)) (found_texts (inside (codes "primaryKeyColumns") keyed)) full))

by_mode_text : (columns : List Column) (keyed table : Option Data) (config : Data) (ms : Members) (found : Option (List ℕ)) → config_at table ≡ Some config → config ≡ object ms → FoundText (mode_at table) found
    → IsTold columns keyed table (where_given Mode found (λ mode. by_mode mode (full_of columns keyed (time_of table) config)))
by_mode_text columns keyed table config ms found e o (no_text h) = ((ms, e ∙ ap Some o), h (codes "FULL"), h (codes "NONE"))
by_mode_text columns keyed table config ms found e o (text mode is) =
    let object_at : IsObject (config_at table) = (ms, e ∙ ap Some o) in
    let full = full_of columns keyed (time_of table) config in
    either (IsTold columns keyed table) (bytes_eq mode (codes "NONE")) (Ok None) (if bytes_eq mode (codes "FULL") then full else Err Mode)
    (λ f. inr (object_at, is ∙ ap (λ text. Some (string text)) (bytes_same mode (codes "NONE") f)))
    (λ f. either (IsTold columns keyed table) (bytes_eq mode (codes "FULL")) full (Err Mode)
    (λ g. full_told columns keyed table config e (record { object = object_at; mode = is ∙ ap (λ text. Some (string text)) (bytes_same mode (codes "FULL") g) }))
    (λ g. (object_at, (λ other. same_bytes mode (codes "FULL") g (string_same (sym is ∙ other))), (λ other. same_bytes mode (codes "NONE") f (string_same (sym is ∙ other))))))
  where
    string_same : {xs ys : List ℕ} → Some (string xs) ≡ Some (string ys) → xs ≡ ys
    string_same e = cc

by_object : (columns : List Column) (keyed table found : Option Data) → FoundObject (config_at table) found → (IsAbsent (config_at table) → ⊥)
    → IsTold columns keyed table (where_given NotObject found (configured columns keyed (time_of table)))
by_object columns keyed table found (no_object h) there = (there, h)
by_object columns keyed table found (an_object ms e) there =
    by_mode_text columns keyed table (object ms) ms (text_at (codes "mode") (object ms)) e refl
    (subst (λ (found : Option Data). FoundText (mode_at table) (option_and_then as_str found)) (at_key table (object ms) (codes "mode") e) (found_text (mode_at table)))

by_settings : (columns : List Column) (keyed table : Option Data) (there : Bool) → Given (config_at table) there
    → IsTold columns keyed table (if there then where_given NotObject (option_and_then if_object (config_at table)) (configured columns keyed (time_of table)) else Ok None)
by_settings columns keyed table there (given h) = by_object columns keyed table (option_and_then if_object (config_at table)) (found_object (config_at table)) h
by_settings columns keyed table there (not_given h) = inl h

told : (columns : List Column) (keyed table : Option Data) → IsTold columns keyed table (upsert_at columns keyed table)
told columns keyed table = by_settings columns keyed table (is_given (config_at table)) (is_there (config_at table))

answered : (columns : List Column) (keyed table : Option Data) (wanted result : Result (Option UpsertConfig) UpsertRefused) → IsTold columns keyed table wanted → Answers wanted result → IsTold columns keyed table result
answered columns keyed table wanted (Ok found) h a = subst (IsTold columns keyed table) (sym a) h
answered columns keyed table wanted (Err NotObject) h a = subst (IsTold columns keyed table) (sym a) h
answered columns keyed table wanted (Err Mode) h a = subst (IsTold columns keyed table) (sym a) h
answered columns keyed table wanted (Err NoKeys) h a = subst (IsTold columns keyed table) (sym a) h
answered columns keyed table wanted (Err Comparison) h a = subst (IsTold columns keyed table) (sym a) h
answered columns keyed table wanted (Err NoColumn) h a = subst (IsTold columns keyed table) (sym a) h
answered columns keyed table wanted (Err WrongType) h a = subst (IsTold columns keyed table) (sym a) h
answered columns keyed table wanted (Err Memory) h a = tt

pub answered_is_told : (schema : Schema) (schema_text table_text : List ℕ) (result : Result (Option UpsertConfig) UpsertRefused) → Answers (upsert_of schema schema_text table_text) result
    → IsTold schema.columns (object_of schema_text) (object_of table_text) result
answered_is_told schema schema_text table_text result a =
    answered schema.columns (object_of schema_text) (object_of table_text) (upsert_of schema schema_text table_text) result (told schema.columns (object_of schema_text) (object_of table_text)) a
