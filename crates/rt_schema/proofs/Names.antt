-- Names that come once, and the set of those that came.
use Rattle.std.proofs.Common.{◌≡◌, ℕ, ◌+◌, ◌<◌, List, [], ◌∷◌, ◌++◌, length, get_or, take, drop, Bool, true, false, not, ◌||◌, bytes_eq, Bor, Ordering, Less, Equal, Greater, is_eq, nat_cmp, refl, sym, ap, ◌∙◌}
use Rattle.std.proofs.lemmas.List.{take_more, take-append-drop, map-append}
use Rattle.std.proofs.lemmas.Bool.{not-true, not-false}
use Rattle.std.proofs.lemmas.Map.Text.{is_eq-slice_cmp}
use Rattle.std.proofs.lemmas.Slice.Eq.{bytes_eq-Decides}
use Rattle.std.specs.BTreeSet.{insert_key}
use Rattle.std.specs.Cmp.Lexicographic.{slice_cmp}
use Rattle.std.specs.List.{list_any}
use Rattle.std.specs.Ordering.{match_ordering}
use Rattle.rt_lists.proofs.Distinct.{is_among_push, are_distinct_push, not_distinct}
use Rattle.rt_schema.proofs.Lists.{drop_next}
use Rattle.rt_schema.specs.Schema.{names_of, is_among, are_distinct}
use Rattle.rt_schema.specs.declared.column.Column.{Column}

or_comm : (a b : Bool) → (a || b) ≡ (b || a)
or_comm true true = refl
or_comm true false = refl
or_comm false true = refl
or_comm false false = refl

or_twice : (b c : Bool) → (b || c) ≡ (b || (b || c))
or_twice true c = refl
or_twice false c = refl

or_swap : (a b c : Bool) → (a || (b || c)) ≡ (b || (a || c))
or_swap true true c = refl
or_swap true false c = refl
or_swap false b c = refl

-- the names before a column's place, and with its own
names_more : (columns : List Column) (i : ℕ) (column : Column) → i < length columns → column ≡ get_or columns i column → names_of (take (i + 1) columns) ≡ names_of (take i columns) ++ column.name ∷ []
names_more columns i column within is = ap names_of (take_more columns i column within ∙ ap (λ c. take i columns ++ c ∷ []) (sym is)) ∙ map-append (λ c. c.name) (take i columns) (column ∷ [])

names_split : (columns : List Column) (i : ℕ) (column : Column) → i < length columns → column ≡ get_or columns i column → names_of columns ≡ names_of (take i columns) ++ column.name ∷ names_of (drop (i + 1) columns)
names_split columns i column within is =
    ap names_of (sym (take-append-drop i columns) ∙ ap (λ cs. take i columns ++ cs) (drop_next columns i column within is)) ∙ map-append (λ c. c.name) (take i columns) (column ∷ drop (i + 1) columns)

-- the names that came, as the keys of an ordered set
abbrev pub has_key : List (Bor (List ℕ)) → List ℕ → Bool
has_key keys q = list_any (λ key. is_eq (slice_cmp nat_cmp q key.now)) keys

abbrev pub key_cmp : Bor (List ℕ) → Bor (List ℕ) → Ordering
key_cmp x y = slice_cmp nat_cmp x.now y.now

has_key-insert_at : (o : Ordering) (x : Bor (List ℕ)) (xs : List (Bor (List ℕ))) (k : Bor (List ℕ)) (q : List ℕ) → key_cmp k x ≡ o
    → has_key (insert_key key_cmp xs k) q ≡ (bytes_eq q k.now || has_key xs q)
    → has_key (match_ordering o (k ∷ x ∷ xs) (x ∷ xs) (x ∷ insert_key key_cmp xs k)) q ≡ (bytes_eq q k.now || has_key (x ∷ xs) q)
has_key-insert_at Less x xs k q is later = ap (λ b. b || has_key (x ∷ xs) q) (is_eq-slice_cmp q k.now)
has_key-insert_at Equal x xs k q is later =
    let same : k.now ≡ x.now = (bytes_eq-Decides k.now x.now).0 (sym (is_eq-slice_cmp k.now x.now) ∙ ap is_eq is) in
    let test : is_eq (slice_cmp nat_cmp q x.now) ≡ bytes_eq q k.now = is_eq-slice_cmp q x.now ∙ ap (bytes_eq q) (sym same) in
    ap (λ b. b || has_key xs q) test ∙ or_twice (bytes_eq q k.now) (has_key xs q) ∙ sym (ap (λ b. bytes_eq q k.now || (b || has_key xs q)) test)
has_key-insert_at Greater x xs k q is later = ap (λ b. is_eq (slice_cmp nat_cmp q x.now) || b) later ∙ or_swap (is_eq (slice_cmp nat_cmp q x.now)) (bytes_eq q k.now) (has_key xs q)

pub has_key-insert_key : (keys : List (Bor (List ℕ))) (k : Bor (List ℕ)) (q : List ℕ) → has_key (insert_key key_cmp keys k) q ≡ (bytes_eq q k.now || has_key keys q)
has_key-insert_key [] k q = ap (λ b. b || false) (is_eq-slice_cmp q k.now)
has_key-insert_key (x ∷ xs) k q = has_key-insert_at _ x xs k q refl (has_key-insert_key xs k q)

-- a name that came before
pub repeated : (columns : List Column) (i : ℕ) (column : Column) (k : Bor (List ℕ)) (keys : List (Bor (List ℕ))) → i < length columns → column ≡ get_or columns i column → k.now ≡ column.name
    → ((q : List ℕ) → has_key keys q ≡ is_among q (names_of (take i columns))) → not (has_key keys k.now) ≡ false → false ≡ are_distinct (names_of columns)
repeated columns i column k keys within is named came again =
    let among : is_among column.name (names_of (take i columns)) ≡ true = ap (λ q. is_among q (names_of (take i columns))) (sym named) ∙ sym (came k.now) ∙ not-false _ again in
    sym (ap are_distinct (names_split columns i column within is) ∙ not_distinct (names_of (take i columns)) column.name (names_of (drop (i + 1) columns)) among)

-- a name that didn't
pub came_more : (columns : List Column) (i : ℕ) (column : Column) (k : Bor (List ℕ)) (keys : List (Bor (List ℕ))) (q : List ℕ) → i < length columns → column ≡ get_or columns i column → k.now ≡ column.name
    → has_key keys q ≡ is_among q (names_of (take i columns)) → has_key (insert_key key_cmp keys k) q ≡ is_among q (names_of (take (i + 1) columns))
came_more columns i column k keys q within is named came =
    has_key-insert_key keys k q ∙ or_comm (bytes_eq q k.now) (has_key keys q) ∙ ap (λ b. b || bytes_eq q k.now) came ∙ ap (λ n. is_among q (names_of (take i columns)) || bytes_eq q n) named
    ∙ sym (ap (is_among q) (names_more columns i column within is) ∙ is_among_push q (names_of (take i columns)) column.name)

pub distinct_more : (columns : List Column) (i : ℕ) (column : Column) (k : Bor (List ℕ)) (keys : List (Bor (List ℕ))) → i < length columns → column ≡ get_or columns i column → k.now ≡ column.name
    → ((q : List ℕ) → has_key keys q ≡ is_among q (names_of (take i columns))) → not (has_key keys k.now) ≡ true → are_distinct (names_of (take i columns)) ≡ true
    → are_distinct (names_of (take (i + 1) columns)) ≡ true
distinct_more columns i column k keys within is named came new distinct =
    let apart : is_among column.name (names_of (take i columns)) ≡ false = ap (λ q. is_among q (names_of (take i columns))) (sym named) ∙ sym (came k.now) ∙ not-true _ new in
    ap are_distinct (names_more columns i column within is) ∙ are_distinct_push (names_of (take i columns)) column.name distinct apart
