-- A text of a row is no longer than the row's message, or than the text of a missing value.
use Rattle.std.proofs.Common.{ℕ, ◌≤◌, max, Bool, true, false, cond, List, [], ◌∷◌, length, Option, Some, None, option_map, option_and_then, All, arith}
use Rattle.std.specs.Prelude.{IfSome}
use Rattle.std.specs.Cmp.Lexicographic.{slice_cmp}
use Rattle.std.specs.Ordering.{match_ordering}
use Rattle.std.specs.Str.{is_utf8}
use Rattle.std.proofs.Common.{Ordering, Less, Equal, Greater, nat_cmp}
use Rattle.std.proofs.lemmas.List.Elements.{All-nil, All-cons}
use Rattle.json.specs.Json as json
use Rattle.json.specs.Lex.{tokens}
use Rattle.serde_json.specs.Data.{Data, null, boolean, number, string, array, object, Members, no_members, member, put}
use Rattle.serde_json.specs.Find.{get_member, as_str, as_i64, as_number, as_bool}
use Rattle.serde_json.specs.Read.{max_depth, number_of, of_json, of_items, of_members, read}
use Rattle.rt_schema.proofs.JsonTexts.{AreShortMembers, HasShort, IsShortJson, json_short}
use Rattle.rt_schema.specs.Row.{AreTextsWithin, IsTextWithin, cells_of, row_in, row_of}
use Rattle.rt_schema.specs.Value.{cell_of, in_32_bits, missing_of, value_of}
use Rattle.rt_schema.specs.declared.column.Column.{Column}
use Rattle.rt_schema.specs.declared.column.Kind.{Kind}
use Rattle.rt_schema.specs.declared.column.Kind.TheVariants.{Int, Long, Text, Bool as Truth, Time}
use Rattle.rt_schema.specs.declared.column.Role.{Role}
use Rattle.rt_schema.specs.declared.column.Role.TheVariants.{Dimension, Metric, Moment}
use Rattle.rt_schema.specs.declared.schema.Schema.{Schema}
use Rattle.rt_schema.specs.declared.value.Value.{Value}

-- a value that is no text longer than this
abbrev IsShortData : ℕ → Data → Type 0
IsShortData n null = Unit {0}
IsShortData n (boolean b) = Unit {0}
IsShortData n (number m) = Unit {0}
IsShortData n (string s) = length s ≤ n
IsShortData n (array ds) = Unit {0}
IsShortData n (object ms) = Unit {0}

abbrev AreShortData : ℕ → Members → Type 0
AreShortData n no_members = Unit {0}
AreShortData n (member k d ms) = IsShortData n d × AreShortData n ms

abbrev HasShortData : ℕ → Data → Type 0
HasShortData n null = Unit {0}
HasShortData n (boolean b) = Unit {0}
HasShortData n (number m) = Unit {0}
HasShortData n (string s) = Unit {0}
HasShortData n (array ds) = Unit {0}
HasShortData n (object ms) = AreShortData n ms

map_any : {A B : Type 0} (P : B → Type 0) (f : A → B) (o : Option A) → ((x : A) → P (f x)) → IfSome (option_map f o) P
map_any P f None h = tt
map_any P f (Some x) h = h x

value_short : (n : ℕ) (j : json.Json) → IsShortJson n j → IfSome (of_json j) (IsShortData n)
value_short n json.null h = tt
value_short n (json.boolean b) h = tt
value_short n (json.number s) h = map_any (IsShortData n) number (number_of s) (λ m. tt)
value_short n (json.string s) h = h
value_short n (json.array js) h = map_any (IsShortData n) array (of_items js) (λ ds. tt)
value_short n (json.object ms) h = map_any (IsShortData n) object (of_members ms no_members) (λ ms. tt)

ordered_short : (n : ℕ) (o : Ordering) (x y z : Members) → AreShortData n x → AreShortData n y → AreShortData n z → AreShortData n (match_ordering o x y z)
ordered_short n Less x y z a b c = a
ordered_short n Equal x y z a b c = b
ordered_short n Greater x y z a b c = c

put_short : (n : ℕ) (k : List ℕ) (d : Data) (ms : Members) → IsShortData n d → AreShortData n ms → AreShortData n (put k d ms)
put_short n k d no_members h r = (h, tt)
put_short n k d (member l e ms) h r = ordered_short n (slice_cmp nat_cmp k l) _ _ _ (h, r) (h, r.1) (r.0, put_short n k d ms h r.1)

abbrev AreFound : ℕ → Option Members → Type 0
AreFound n o = IfSome o (AreShortData n)

then_members : (n : ℕ) (o : Option Data) (f : Data → Option Members) → IfSome o (IsShortData n) → ((d : Data) → IsShortData n d → AreFound n (f d)) → AreFound n (option_and_then f o)
then_members n None f h k = tt
then_members n (Some d) f h k = k d h

members_short : (n : ℕ) (ms : json.Members) (found : Members) → AreShortMembers n ms → AreShortData n found → AreFound n (of_members ms found)
members_short n json.no_members found h r = r
members_short n (json.member k j ms) found h r =
    then_members n (of_json j) (λ d. of_members ms (put k d found)) (value_short n j h.0) (λ d s. members_short n ms (put k d found) h.1 (put_short n k d found s r))

object_short : (n : ℕ) (o : Option Members) → AreFound n o → IfSome (option_map object o) (HasShortData n)
object_short n None h = tt
object_short n (Some ms) h = h

data_short : (n : ℕ) (j : json.Json) → HasShort n j → IfSome (of_json j) (HasShortData n)
data_short n json.null h = tt
data_short n (json.boolean b) h = tt
data_short n (json.number s) h = map_any (HasShortData n) number (number_of s) (λ m. tt)
data_short n (json.string s) h = tt
data_short n (json.array js) h = map_any (HasShortData n) array (of_items js) (λ ds. tt)
data_short n (json.object ms) h = object_short n (of_members ms no_members) (members_short n ms no_members h tt)

then_data : (n : ℕ) (o : Option json.Json) → IfSome o (HasShort n) → IfSome (option_and_then of_json o) (HasShortData n)
then_data n None h = tt
then_data n (Some j) h = data_short n j h

read_short : (text : List ℕ) → IfSome (read text) (HasShortData (length text))
read_short text = then_data (length text) (option_and_then (λ p. json.if_last p.0 p.1) (json.value max_depth (tokens text))) (json_short max_depth text)

found_by : (n : ℕ) (o : Ordering) (x y z : Option Data) → IfSome x (IsShortData n) → IfSome y (IsShortData n) → IfSome z (IsShortData n) → IfSome (match_ordering o x y z) (IsShortData n)
found_by n Less x y z a b c = a
found_by n Equal x y z a b c = b
found_by n Greater x y z a b c = c

member_short : (n : ℕ) (k : List ℕ) (ms : Members) → AreShortData n ms → IfSome (get_member k ms) (IsShortData n)
member_short n k no_members h = tt
member_short n k (member l e ms) h = found_by n (slice_cmp nat_cmp k l) (get_member k ms) (Some e) (get_member k ms) (member_short n k ms h.1) h.0 (member_short n k ms h.1)

-- the most bytes of a text in a row of a message
abbrev most_of : ℕ → ℕ
most_of n = max 4 n

text_short : (n : ℕ) (d : Data) → IsShortData n d → IfSome (option_map Value.Text (as_str d)) (IsTextWithin (most_of n))
text_short n null h = tt
text_short n (boolean b) h = tt
text_short n (number m) h = tt
text_short n (string s) h = omega (arith, h)
text_short n (array ds) h = tt
text_short n (object ms) h = tt

kind_short : (n : ℕ) (kind : Kind) (d : Data) → IsShortData n d → IfSome (value_of kind d) (IsTextWithin (most_of n))
kind_short n Int d h = map_any (IsTextWithin (most_of n)) Value.Int (option_and_then in_32_bits (option_and_then as_i64 (as_number d))) (λ z. tt)
kind_short n Long d h = map_any (IsTextWithin (most_of n)) Value.Long (option_and_then as_i64 (as_number d)) (λ z. tt)
kind_short n Text d h = text_short n d h
kind_short n Truth d h = map_any (IsTextWithin (most_of n)) Value.Bool (as_bool d) (λ b. tt)
kind_short n Time d h = map_any (IsTextWithin (most_of n)) Value.Time (option_and_then as_i64 (as_number d)) (λ z. tt)

missing_short : (n : ℕ) (kind : Kind) (role : Role) → IsTextWithin (most_of n) (missing_of kind role)
missing_short n Int Dimension = tt
missing_short n Int Metric = tt
missing_short n Int Moment = tt
missing_short n Long Dimension = tt
missing_short n Long Metric = tt
missing_short n Long Moment = tt
missing_short n Text role = omega arith
missing_short n Truth role = tt
missing_short n Time role = tt

cell_short : (n : ℕ) (column : Column) (found : Option Data) → IfSome found (IsShortData n) → IfSome (cell_of column found) (IsTextWithin (most_of n))
cell_short n column None h = missing_short n column.kind column.role
cell_short n column (Some null) h = missing_short n column.kind column.role
cell_short n column (Some (boolean b)) h = kind_short n column.kind (boolean b) tt
cell_short n column (Some (number m)) h = kind_short n column.kind (number m) tt
cell_short n column (Some (string s)) h = kind_short n column.kind (string s) h
cell_short n column (Some (array ds)) h = kind_short n column.kind (array ds) tt
cell_short n column (Some (object ms)) h = kind_short n column.kind (object ms) tt

abbrev AreCells : ℕ → Option (List Value) → Type 0
AreCells n o = IfSome o (All (IsTextWithin (most_of n)))

cells_more : (n : ℕ) (o : Option Value) (rest : Option (List Value)) → IfSome o (IsTextWithin (most_of n)) → AreCells n rest → AreCells n (option_and_then (λ v. option_map (λ vs. v ∷ vs) rest) o)
cells_more n None rest h k = tt
cells_more n (Some v) None h k = tt
cells_more n (Some v) (Some vs) h k = All-cons (IsTextWithin (most_of n)) v vs h k

cells_short : (n : ℕ) (columns : List Column) (ms : Members) → AreShortData n ms → AreCells n (cells_of columns ms)
cells_short n [] ms h = All-nil (IsTextWithin (most_of n))
cells_short n (column ∷ columns) ms h =
    cells_more n (cell_of column (get_member column.name ms)) (cells_of columns ms) (cell_short n column (get_member column.name ms) (member_short n column.name ms h)) (cells_short n columns ms h)

row_from : (n : ℕ) (o : Option (List Value)) → AreCells n o → IfSome (option_map (λ vs. record { values = vs }) o) (AreTextsWithin (most_of n))
row_from n None h = tt
row_from n (Some vs) h = h

row_short : (n : ℕ) (columns : List Column) (d : Data) → HasShortData n d → IfSome (row_in columns d) (AreTextsWithin (most_of n))
row_short n columns null h = tt
row_short n columns (boolean b) h = tt
row_short n columns (number m) h = tt
row_short n columns (string s) h = tt
row_short n columns (array ds) h = tt
row_short n columns (object ms) h = row_from n (cells_of columns ms) (cells_short n columns ms h)

row_of_data : (n : ℕ) (schema : Schema) (b : Bool) (o : Option Data) → IfSome o (HasShortData n) → IfSome (cond b (option_and_then (row_in schema.columns) o) None) (AreTextsWithin (most_of n))
row_of_data n schema false o h = tt
row_of_data n schema true None h = tt
row_of_data n schema true (Some d) h = row_short n schema.columns d h

-- the texts of a message's row
pub row_of_short : (schema : Schema) (message : List ℕ) → IfSome (row_of schema message) (AreTextsWithin (max 4 (length message)))
row_of_short schema message = row_of_data (length message) schema (is_utf8 message) (read message) (read_short message)
