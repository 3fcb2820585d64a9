-- Flat messages: members go into the places of their columns, and what was found there makes the row.
use Rattle.std.proofs.Common.{◌≡◌, ℕ, zero, suc, ◌+◌, ◌-◌, ◌<◌, ◌≤◌, List, [], ◌∷◌, ◌++◌, length, get_or, drop, take, slice_get, slice_set, Option, Some, None, option_map, option_and_then, true, false, not, bytes_eq, true≢false, append_assoc, refl, sym, ap, ap₂, ◌∙◌, arith}
use Rattle.std.specs.Prelude.{IfSome}
use Rattle.std.proofs.lemmas.Bool.{and_parts, not-true, or_left, or_parts, or_right}
use Rattle.std.proofs.lemmas.List.{drop-set-lt, length-map, map-append, map-set, take_all}
use Rattle.std.proofs.lemmas.Option.{none-some, same_Some, slice_get-map, slice_get_read, slice_get_within}
use Rattle.std.proofs.lemmas.Slice.Eq.{bytes_eq-Decides}
use Rattle.json.specs.Token.{Token}
use Rattle.json.specs.Json as json
use Rattle.json.specs.Json.{Parse, parse_map, read_key, members, value, if_last}
use Rattle.json.specs.Lex.{tokens}
use Rattle.json.proofs.Grammar.{members_end, members_more, read_key-shorter, value_is, value-begin_object}
use Rattle.serde_json.specs.Data.{Data, object, Members, no_members, put}
use Rattle.serde_json.specs.Find.{get_member}
use Rattle.serde_json.specs.Read.{of_json, of_members, converted, read}
use Rattle.serde_json.specs.View.{view}
use Rattle.serde_json.specs.declared.value.Value.{Value as Json}
use Rattle.serde_json.proofs.Views.{get_member-put, get_member-put_other}
use Rattle.rt_schema.specs.Schema.{is_among, names_of, are_distinct}
use Rattle.rt_schema.specs.Value.{cell_of}
use Rattle.rt_schema.specs.Row.{cells_of, row_in}
use Rattle.rt_schema.specs.Flat.{scalar_of, found_in, data_of, IsPlaceOf, Puts, cells_from, IsRead}
use Rattle.rt_schema.specs.declared.column.Column.{Column}
use Rattle.rt_schema.specs.declared.row.Row.{Row}
use Rattle.rt_schema.specs.declared.value.Value.{Value as Cell}
use Rattle.rt_schema.proofs.Lists.{drop_next}

-- ---- the columns' places

same_bytes : (xs ys : List ℕ) → xs ≡ ys → bytes_eq xs ys ≡ true
same_bytes xs ys e = (bytes_eq-Decides xs ys).1 e

pub apart_bytes : (xs ys : List ℕ) → bytes_eq xs ys ≡ false → ys ≡ xs → ⊥
apart_bytes xs ys e same = true≢false (sym (same_bytes xs ys (sym same)) ∙ e)

-- a member of another name changes no place
found_other : (columns : List Column) (name : List ℕ) (d : Data) (ms : Members) → is_among name (names_of columns) ≡ false → found_in columns (put name d ms) ≡ found_in columns ms
found_other [] name d ms e = refl
found_other (column ∷ columns) name d ms e =
    let parts = or_parts (bytes_eq name column.name) (is_among name (names_of columns)) e in
    ap₂ (λ x xs. x ∷ xs) (get_member-put_other column.name name d ms (apart_bytes name column.name parts.0)) (found_other columns name d ms parts.1)

among_at : (name : List ℕ) (names : List (List ℕ)) (i : ℕ) → slice_get names i ≡ Some name → is_among name names ≡ true
among_at name [] i is = absurd (none-some name is)
among_at name (other ∷ names) zero is = or_left (bytes_eq name other) (is_among name names) (same_bytes name other (sym (same_Some other name is)))
among_at name (other ∷ names) (suc i) is = or_right (bytes_eq name other) (is_among name names) (among_at name names i is)

pub none_later : (column : Column) (columns : List Column) → are_distinct (names_of (column ∷ columns)) ≡ true → is_among column.name (names_of columns) ≡ false
none_later column columns e = not-true _ (and_parts (not (is_among column.name (names_of columns))) (are_distinct (names_of columns)) e).0

pub distinct_later : (column : Column) (columns : List Column) → are_distinct (names_of (column ∷ columns)) ≡ true → are_distinct (names_of columns) ≡ true
distinct_later column columns e = (and_parts (not (is_among column.name (names_of columns))) (are_distinct (names_of columns)) e).1

-- a member of a column's name changes that column's place
found_here : (columns : List Column) (i : ℕ) (name : List ℕ) (d : Data) (ms : Members) → are_distinct (names_of columns) ≡ true → slice_get (names_of columns) i ≡ Some name
    → found_in columns (put name d ms) ≡ slice_set (found_in columns ms) i (Some d)
found_here [] i name d ms distinct is = absurd (none-some name is)
found_here (column ∷ columns) zero name d ms distinct is =
    let same : column.name ≡ name = same_Some column.name name is in
    let apart : is_among name (names_of columns) ≡ false = ap (λ n. is_among n (names_of columns)) (sym same) ∙ none_later column columns distinct in
    ap₂ (λ x xs. x ∷ xs) (ap (λ n. get_member n (put name d ms)) same ∙ get_member-put name d ms) (found_other columns name d ms apart)
found_here (column ∷ columns) (suc i) name d ms distinct is =
    let other = λ (same : column.name ≡ name). true≢false (sym (among_at name (names_of columns) i is) ∙ ap (λ n. is_among n (names_of columns)) (sym same) ∙ none_later column columns distinct) in
    ap₂ (λ x xs. x ∷ xs) (get_member-put_other column.name name d ms other) (found_here columns i name d ms (distinct_later column columns distinct) is)

-- what was put is what an object has with one member more
pub put_more : (columns : List Column) (name : List ℕ) (place : Option ℕ) (scalar : Option Data) (old new : List (Option Data)) (ms : Members) → are_distinct (names_of columns) ≡ true
    → IsPlaceOf columns name place → Puts place scalar old new → old ≡ found_in columns ms → (d : Data) × (scalar ≡ Some d) × (new ≡ found_in columns (put name d ms))
put_more columns name None None old new ms distinct is puts was = absurd puts
put_more columns name (Some i) None old new ms distinct is puts was = absurd puts
put_more columns name None (Some d) old new ms distinct is puts was = (d, refl, puts ∙ was ∙ sym (found_other columns name d ms is))
put_more columns name (Some i) (Some d) old new ms distinct is puts was = (d, refl, puts ∙ ap (λ xs. slice_set xs i (Some d)) was ∙ sym (found_here columns i name d ms distinct is))

-- there is a place for each column
pub found_length : (columns : List Column) (found : List (Option Json)) (ms : Members) → data_of found ≡ found_in columns ms → length found ≡ length columns
found_length columns found ms was = sym (length-map found (option_map view)) ∙ ap length was ∙ length-map columns (λ column. get_member column.name ms)

blank_next : (columns : List Column) (i : ℕ) → i < length columns → found_in (take (suc i) columns) no_members ≡ found_in (take i columns) no_members ++ None ∷ []
blank_next [] i within = absurd (omega arith)
blank_next (column ∷ columns) zero within = refl
blank_next (column ∷ columns) (suc i) within = ap (λ xs. None ∷ xs) (blank_next columns i (omega arith))

-- one place more has nothing in it
pub blank_more : (columns : List Column) (old new : List (Option Json)) (i : ℕ) → i < length columns → new ≡ old ++ None ∷ [] → data_of old ≡ found_in (take i columns) no_members
    → data_of new ≡ found_in (take (i + 1) columns) no_members
blank_more columns old new i within is was =
    let next : suc i ≡ i + 1 = omega arith in
    ap data_of is ∙ map-append (option_map view) old (None ∷ []) ∙ ap (λ xs. xs ++ None ∷ []) was ∙ sym (blank_next columns i within) ∙ ap (λ n. found_in (take n columns) no_members) next

pub blank_all : (columns : List Column) (found : List (Option Json)) (n : ℕ) → length columns ≤ n → data_of found ≡ found_in (take n columns) no_members → data_of found ≡ found_in columns no_members
blank_all columns found n all was = was ∙ ap (λ cs. found_in cs no_members) (take_all n columns all)

-- a place of a column is one of what was found
pub place_within : (columns : List Column) (name : List ℕ) (place : Option ℕ) (found : List (Option Json)) (ms : Members) → IsPlaceOf columns name place → data_of found ≡ found_in columns ms
    → IfSome place (λ i. i < length found)
place_within columns name None found ms is was = tt
place_within columns name (Some i) found ms is was =
    let same : length found ≡ length columns = found_length columns found ms was in
    let within : i < length (names_of columns) = slice_get_within (names_of columns) i name is in
    omega (arith, length-map columns (λ column. column.name))

-- a column that has the name is at its place
pub named_at : (columns : List Column) (i : ℕ) (column : Column) (name : List ℕ) → slice_get columns i ≡ Some column → bytes_eq name column.name ≡ true → slice_get (names_of columns) i ≡ Some name
named_at columns i column name found same = slice_get-map (λ c. c.name) columns i ∙ ap (option_map (λ c. c.name)) found ∙ ap Some (sym ((bytes_eq-Decides name column.name).0 same))

pub named_here : (columns : List Column) (i : ℕ) (column : Column) (name : List ℕ) → i < length columns → column ≡ get_or columns i column → bytes_eq name column.name ≡ true
    → slice_get (names_of columns) i ≡ Some name
named_here columns i column name within is same = named_at columns i column name (slice_get_read columns (length columns) i column refl within is) same

-- ---- one member

-- the value of a token that is a value by itself
pub scalar_read : (depth : ℕ) (t : Token) (d : Data) (r : List Token) → scalar_of t ≡ Some d → (j : json.Json) × (value depth (t ∷ r) ≡ Some (j, r)) × (of_json j ≡ Some d)
scalar_read depth Token.begin_object d r e = absurd (none-some d e)
scalar_read depth Token.end_object d r e = absurd (none-some d e)
scalar_read depth Token.begin_array d r e = absurd (none-some d e)
scalar_read depth Token.end_array d r e = absurd (none-some d e)
scalar_read depth (Token.key s) d r e = absurd (none-some d e)
scalar_read depth (Token.string s) d r e = (json.string s, value_is depth (Token.string s ∷ r), e)
scalar_read depth (Token.number s) d r e = (json.number s, value_is depth (Token.number s ∷ r), e)
scalar_read depth (Token.boolean b) d r e = (json.boolean b, value_is depth (Token.boolean b ∷ r), e)
scalar_read depth Token.null d r e = (json.null, value_is depth (Token.null ∷ r), e)
scalar_read depth Token.bad d r e = absurd (none-some d e)

with_member : (k : List ℕ) (j : json.Json) (d : Data) (old : Members) → of_json j ≡ Some d → (o : Option (json.Members × List Token))
    → converted (λ js. of_members js old) (parse_map (json.member k j) o) ≡ converted (λ js. of_members js (put k d old)) o
with_member k j d old e None = refl
with_member k j d old e (Some p) = rw e

-- one member read: what it is stands behind those before it
pub member_read : (p : Parse json.Json) (old : Members) (n : ℕ) (k : List ℕ) (ts s r : List Token) (j : json.Json) (d : Data) → 0 < n → read_key ts ≡ Some (Some k, s) → p s ≡ Some (j, r) → of_json j ≡ Some d
    → converted (λ js. of_members js old) (members p n ts) ≡ converted (λ js. of_members js (put k d old)) (members p (n - 1) r)
member_read p old n k ts s r j d some key reads is = ap (converted (λ js. of_members js old)) (members_more p n k ts s r j some key reads) ∙ with_member k j d old is _

-- no member is left
pub members_over : (p : Parse json.Json) (old : Members) (n : ℕ) (ts r : List Token) → length ts ≤ n → read_key ts ≡ Some (None, r) → converted (λ js. of_members js old) (members p n ts) ≡ Some (old, r)
members_over p old n ts r enough e = ap (converted (λ js. of_members js old)) (members_end p n ts r enough e)

-- ---- the whole text

last_by : (js : json.Members) (r : List Token) (o : Option Members) (ms : Members) → of_members js no_members ≡ o → option_map {U = Members × List Token} (λ x. (x, r)) o ≡ Some (ms, [])
    → option_and_then of_json (if_last (json.object js) r) ≡ Some (object ms)
last_by js r None ms is e = absurd (none-some _ e)
last_by js r (Some found) ms is e =
    let same = same_Some (found, r) (ms, []) e in
    ap (λ rest. option_and_then of_json (if_last (json.object js) rest)) (ap (λ p. p.1) same) ∙ ap (option_map object) is ∙ ap (λ m. Some (object m)) (ap (λ p. p.0) same)

last_of : (o : Option (json.Members × List Token)) (ms : Members) → converted (λ js. of_members js no_members) o ≡ Some (ms, [])
    → option_and_then of_json (option_and_then (λ p. if_last p.0 p.1) (parse_map json.object o)) ≡ Some (object ms)
last_of None ms e = absurd (none-some _ e)
last_of (Some (js, r)) ms e = last_by js r (of_members js no_members) ms refl e

-- an object with nothing behind it is what the text is
pub flat_read : (text : List ℕ) (ts : List Token) (ms : Members) → tokens text ≡ Token.begin_object ∷ ts → converted (λ js. of_members js no_members) (members (value 126) (length ts) ts) ≡ Some (ms, [])
    → read text ≡ Some (object ms)
flat_read text ts ms starts e =
    let opened : value 127 (tokens text) ≡ parse_map json.object (members (value 126) (length ts) ts) = ap (value 127) starts ∙ value-begin_object 127 ts (omega arith) in
    ap (λ o. option_and_then of_json (option_and_then (λ p. if_last p.0 p.1) o)) opened ∙ last_of (members (value 126) (length ts) ts) ms e

-- ---- the row

-- the values of what was found in an object are those of the object
pub cells_found : (columns : List Column) (ms : Members) → cells_from columns (found_in columns ms) ≡ cells_of columns ms
cells_found [] ms = refl
cells_found (column ∷ columns) ms = ap (λ rest. option_and_then (λ v. option_map (λ vs. v ∷ vs) rest) (cell_of column (get_member column.name ms))) (cells_found columns ms)

-- a value that is put at its place
pub puts_at : (place : Option ℕ) (i : ℕ) (o : Option Json) (j : Json) (scalar : Option Data) (found : List (Option Json)) → place ≡ Some i → o ≡ Some j → option_map view o ≡ scalar
    → Puts place scalar (data_of found) (data_of (slice_set found i (Some j)))
puts_at place i o j scalar found at is e =
    let value : scalar ≡ Some (view j) = sym e ∙ ap (option_map view) is in
    rw (at, value) (map-set (option_map view) found i (Some j))

abbrev next_cells : List Column → List (Option Json) → Option Cell → Option (List Cell)
next_cells columns found o = option_and_then (λ v. option_map (λ vs. v ∷ vs) (cells_from columns (data_of found))) o

behind : (v : Cell) (values : List Cell) (rest : Option (List Cell)) → option_map (λ later. values ++ later) (option_map (λ vs. v ∷ vs) rest) ≡ option_map (λ later. (values ++ v ∷ []) ++ later) rest
behind v values None = refl
behind v values (Some vs) = ap Some (sym (append_assoc values (v ∷ []) vs))

cells_next : (columns : List Column) (found : List (Option Json)) (i : ℕ) (column : Column) (json : Option Json) (o : Option Cell) → length found ≡ length columns → i < length columns
    → column ≡ get_or columns i column → json ≡ get_or found i json → o ≡ cell_of column (option_map view json)
    → cells_from (drop i columns) (data_of (drop i found)) ≡ next_cells (drop (i + 1) columns) (drop (i + 1) found) o
cells_next columns found i column json o same within is has gives =
    let room : i < length found = omega arith in
    ap₂ (λ cs xs. cells_from cs (data_of xs)) (drop_next columns i column within is) (drop_next found i json room has) ∙ ap (next_cells (drop (i + 1) columns) (drop (i + 1) found)) (sym gives)

-- one column more has its value, which is taken out
pub row_more : (columns : List Column) (found : List (Option Json)) (i : ℕ) (column : Column) (json new : Option Json) (v : Cell) (values : List Cell) (before : Option (List Cell))
    → length found ≡ length columns → i < length columns → column ≡ get_or columns i column → json ≡ get_or found i json → Some v ≡ cell_of column (option_map view json)
    → before ≡ option_map (λ vs. values ++ vs) (cells_from (drop i columns) (data_of (drop i found)))
    → before ≡ option_map (λ vs. (values ++ v ∷ []) ++ vs) (cells_from (drop (i + 1) columns) (data_of (drop (i + 1) (slice_set found i new))))
row_more columns found i column json new v values before same within is has gives was =
    let below : i < i + 1 = omega arith in
    was ∙ ap (option_map (λ vs. values ++ vs)) (cells_next columns found i column json (Some v) same within is has gives) ∙ behind v values (cells_from (drop (i + 1) columns) (data_of (drop (i + 1) found)))
    ∙ ap (λ xs. option_map (λ vs. (values ++ v ∷ []) ++ vs) (cells_from (drop (i + 1) columns) (data_of xs))) (sym (drop-set-lt (i + 1) found i new below))

-- a column that gets no value leaves no row
pub row_none : (columns : List Column) (found : List (Option Json)) (i : ℕ) (column : Column) (json : Option Json) (values : List Cell) (before : Option (List Cell))
    → length found ≡ length columns → i < length columns → column ≡ get_or columns i column → json ≡ get_or found i json → None ≡ cell_of column (option_map view json)
    → before ≡ option_map (λ vs. values ++ vs) (cells_from (drop i columns) (data_of (drop i found))) → before ≡ None
row_none columns found i column json values before same within is has gives was = was ∙ ap (option_map (λ vs. values ++ vs)) (cells_next columns found i column json None same within is has gives)

some_row : (row x : Option Row) → row ≡ x → IfSome row (λ r. x ≡ Some r)
some_row None x e = tt
some_row (Some r) x e = sym e

-- the row of what was found in a whole text is the text's row
pub flat_row : (columns : List Column) (text : List ℕ) (ts after : List Token) (found : List (Option Json)) (row : Option Row) → tokens text ≡ Token.begin_object ∷ ts → IsRead columns ts after found
    → after ≡ [] → row ≡ option_map (λ vs. record { values = vs }) (cells_from columns (data_of found)) → IfSome row (λ r. option_and_then (row_in columns) (read text) ≡ Some r)
flat_row columns text ts after found row starts reads ends is =
    let ms = reads.0 in
    let whole = flat_read text ts ms starts (reads.1 ∙ ap (λ r. Some (ms, r)) ends) in
    let cells : cells_from columns (data_of found) ≡ cells_of columns ms = ap (cells_from columns) reads.2 ∙ cells_found columns ms in
    some_row row (option_and_then (row_in columns) (read text)) (is ∙ ap (option_map (λ vs. record { values = vs })) cells ∙ sym (ap (option_and_then (row_in columns)) whole))

-- ---- the loop

-- one member more was read and put
pub member_more : (columns : List Column) (before : Option (Members × List Token)) (n : ℕ) (ms : Members) (ts s r : List Token) (t : Token) (name : List ℕ) (place : Option ℕ) (old new : List (Option Json))
    → are_distinct (names_of columns) ≡ true → length ts ≤ n → read_key ts ≡ Some (Some name, s) → s ≡ t ∷ r → IsPlaceOf columns name place → Puts place (scalar_of t) (data_of old) (data_of new)
    → before ≡ converted (λ js. of_members js ms) (members (value 126) n ts) → data_of old ≡ found_in columns ms
    → (m : ℕ) × (later : Members) × (length r ≤ m) × (before ≡ converted (λ js. of_members js later) (members (value 126) m r)) × (data_of new ≡ found_in columns later)
member_more columns before n ms ts s r t name place old new distinct enough key first is puts was has =
    let more = put_more columns name place (scalar_of t) (data_of old) (data_of new) ms distinct is puts has in
    let token = scalar_read 126 t more.0 r more.1 in
    let less : length s < length ts = read_key-shorter ts (Some name) s key in
    let longer : length s ≡ suc (length r) = ap length first in
    let fewer : length r ≤ n - 1 = omega arith in
    let some : 0 < n = omega arith in
    (n - 1, put name more.0 ms, fewer, was ∙ member_read (value 126) ms n name ts s r token.0 more.0 some key (ap (value 126) first ∙ token.1) token.2, more.2)

-- the object ends
pub all_read : (columns : List Column) (initial ts r : List Token) (n : ℕ) (ms : Members) (found : List (Option Json)) → length ts ≤ n → read_key ts ≡ Some (None, r)
    → converted (λ js. of_members js no_members) (members (value 126) (length initial) initial) ≡ converted (λ js. of_members js ms) (members (value 126) n ts) → data_of found ≡ found_in columns ms
    → IsRead columns initial r found
all_read columns initial ts r n ms found enough key was has = (ms, was ∙ members_over (value 126) ms n ts r enough key, has)
