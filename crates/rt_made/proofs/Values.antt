-- The values of a message's row are as their types hold them.
use Rattle.std.proofs.Common.{◌≤◌, ◌&&◌, ℕ, ℤ, pos, negsuc, true, List, [], ◌∷◌, length, Option, Some, None, option_map, option_and_then, All, IsUtf8, codes, arith, refl}
use Rattle.std.specs.Prelude.{FitsSigned, IfSome, int_le, max, nat_le, nat_lt}
use Rattle.std.specs.Int.{w32, w64}
use Rattle.std.specs.Str.{is_utf8}
use Rattle.std.proofs.lemmas.Bool.{and_parts, leb-true, ltb-true}
use Rattle.std.proofs.lemmas.List.Elements.{All-nil, All-cons}
use Rattle.std.proofs.lemmas.Str.{IsUtf8-from_is_utf8}
use Rattle.json.proofs.Printed.Utf8.{IsUtf8-are_ascii}
use Rattle.serde_json.specs.Data.{Num, unsigned, negative, float, Data, null, boolean, number, string, array, object, Members}
use Rattle.serde_json.specs.Find.{as_bool, as_i64, as_number, as_str, get_member}
use Rattle.serde_json.specs.Read.{read}
use Rattle.rt_schema.proofs.RowTexts.{row_of_short}
use Rattle.rt_schema.specs.Row.{AreTextsWithin, IsTextWithin, cells_of, row_in, row_of}
use Rattle.rt_schema.specs.Value.{cell_of, in_32_bits, missing_of, value_of}
use Rattle.rt_schema.specs.declared.column.Column.{Column}
use Rattle.rt_schema.specs.declared.column.Kind.{Kind}
use Rattle.rt_schema.specs.declared.column.Role.{Role}
use Rattle.rt_schema.specs.declared.column.Role.TheVariants.{Dimension, Metric, Moment}
use Rattle.rt_schema.specs.declared.row.Row.{Row}
use Rattle.rt_schema.specs.declared.schema.Schema.{Schema}
use Rattle.rt_schema.specs.declared.value.Value.{Value}
use Rattle.rt_schema.specs.declared.value.Value.TheVariants.{Int, Long, Text, Bool as Truth, Time}
use Rattle.rt_made.proofs.Contents.{if_so}
use Rattle.rt_made.proofs.Jsons.{HasDatas, IsData, IsNum, Whatever, any, map_some, member_data, read_texts, str_utf8, then_some}
use Rattle.rt_safety.specs.Possible.{IsOfTypes}

-- a value but for the length of its text
abbrev IsSound : Value → Type 0
IsSound (Int z) = FitsSigned w32 z
IsSound (Long z) = FitsSigned w64 z
IsSound (Text s) = IsUtf8 s
IsSound (Truth b) = Unit {0}
IsSound (Time z) = FitsSigned w64 z

long_fits : (n : Num) → IsNum n → IfSome (as_i64 n) (FitsSigned w64)
long_fits (unsigned n) h = if_so (λ o. IfSome o (FitsSigned w64)) (nat_lt n 9223372036854775808) _ _ (λ e. record { sfits = ltb-true n 9223372036854775808 e }) (λ _. tt)
long_fits (negative z) h = h
long_fits (float x) h = tt

int_fits : (z : ℤ) → IfSome (in_32_bits z) (FitsSigned w32)
int_fits (pos n) =
    if_so (λ o. IfSome o (FitsSigned w32)) (int_le (negsuc 2147483647) (pos n) && int_le (pos n) (pos 2147483647)) _ _
    (λ e. let small = leb-true n 2147483647 e in record { sfits = omega arith }) (λ _. tt)
int_fits (negsuc n) =
    if_so (λ o. IfSome o (FitsSigned w32)) (int_le (negsuc 2147483647) (negsuc n) && int_le (negsuc n) (pos 2147483647)) _ _
    (λ e. let small = leb-true n 2147483647 (and_parts (nat_le n 2147483647) true e).0 in record { sfits = omega arith }) (λ _. tt)

number_is : (d : Data) → IsData d → IfSome (as_number d) IsNum
number_is null h = tt
number_is (boolean b) h = tt
number_is (number n) h = h
number_is (string s) h = tt
number_is (array ds) h = tt
number_is (object ms) h = tt

long_of : (d : Data) → IsData d → IfSome (option_and_then as_i64 (as_number d)) (FitsSigned w64)
long_of d h = then_some IsNum (FitsSigned w64) as_i64 (as_number d) long_fits (number_is d h)

value_sound : (k : Kind) (d : Data) → IsData d → IfSome (value_of k d) IsSound
value_sound Kind.Int d h =
    map_some (FitsSigned w32) IsSound Int (option_and_then in_32_bits (option_and_then as_i64 (as_number d))) (λ z f. f)
    (then_some (FitsSigned w64) (FitsSigned w32) in_32_bits (option_and_then as_i64 (as_number d)) (λ z _. int_fits z) (long_of d h))
value_sound Kind.Long d h = map_some (FitsSigned w64) IsSound Long (option_and_then as_i64 (as_number d)) (λ z f. f) (long_of d h)
value_sound Kind.Text d h = map_some IsUtf8 IsSound Text (as_str d) (λ s u. u) (str_utf8 d h)
value_sound Kind.Bool d h = map_some Whatever IsSound Truth (as_bool d) (λ b _. tt) (any (as_bool d))
value_sound Kind.Time d h = map_some (FitsSigned w64) IsSound Time (option_and_then as_i64 (as_number d)) (λ z f. f) (long_of d h)

missing_sound : (k : Kind) (role : Role) → IsSound (missing_of k role)
missing_sound Kind.Int Metric = record { sfits = omega arith }
missing_sound Kind.Int Dimension = record { sfits = omega arith }
missing_sound Kind.Int Moment = record { sfits = omega arith }
missing_sound Kind.Long Metric = record { sfits = omega arith }
missing_sound Kind.Long Dimension = record { sfits = omega arith }
missing_sound Kind.Long Moment = record { sfits = omega arith }
missing_sound Kind.Text role = IsUtf8-are_ascii (codes "null") refl
missing_sound Kind.Bool role = tt
missing_sound Kind.Time role = record { sfits = omega arith }

cell_sound : (column : Column) (found : Option Data) → IfSome found IsData → IfSome (cell_of column found) IsSound
cell_sound column None h = missing_sound column.kind column.role
cell_sound column (Some null) h = missing_sound column.kind column.role
cell_sound column (Some (boolean b)) h = value_sound column.kind (boolean b) h
cell_sound column (Some (number n)) h = value_sound column.kind (number n) h
cell_sound column (Some (string s)) h = value_sound column.kind (string s) h
cell_sound column (Some (array ds)) h = value_sound column.kind (array ds) h
cell_sound column (Some (object ms)) h = value_sound column.kind (object ms) h

abbrev AreSound : Row → Type 0
AreSound row = All IsSound row.values

cells_sound : (columns : List Column) (ms : Members) → HasDatas ms → IfSome (cells_of columns ms) (All IsSound)
cells_sound [] ms h = All-nil IsSound
cells_sound (column ∷ columns) ms h =
    then_some IsSound (All IsSound) (λ v. option_map (λ vs. v ∷ vs) (cells_of columns ms)) (cell_of column (get_member column.name ms))
    (λ v is. map_some (All IsSound) (All IsSound) (λ vs. v ∷ vs) (cells_of columns ms) (λ vs are. All-cons IsSound v vs is are) (cells_sound columns ms h))
    (cell_sound column (get_member column.name ms) (member_data column.name ms h))

row_sound : (columns : List Column) (d : Data) → IsData d → IfSome (row_in columns d) AreSound
row_sound columns null h = tt
row_sound columns (boolean b) h = tt
row_sound columns (number n) h = tt
row_sound columns (string s) h = tt
row_sound columns (array ds) h = tt
row_sound columns (object ms) h = map_some (All IsSound) AreSound (λ vs. record { values = vs }) (cells_of columns ms) (λ vs are. are) (cells_sound columns ms h)

message_sound : (schema : Schema) (message : List ℕ) → IfSome (row_of schema message) AreSound
message_sound schema message =
    if_so (λ o. IfSome o AreSound) (is_utf8 message) (option_and_then (row_in schema.columns) (read message)) None
    (λ e. then_some IsData AreSound (row_in schema.columns) (read message) (row_sound schema.columns) (read_texts message (IsUtf8-from_is_utf8 message e))) (λ _. tt)

both_types : (n : ℕ) → n ≤ 65536 → (v : Value) → IsSound v → IsTextWithin (max 4 n) v → IsOfTypes v
both_types n le (Int z) h k = h
both_types n le (Long z) h k = h
both_types n le (Text s) h k = (h, omega (arith, k, le))
both_types n le (Truth b) h k = tt
both_types n le (Time z) h k = h

both_rows : (n : ℕ) → n ≤ 65536 → (o : Option Row) → IfSome o AreSound → IfSome o (AreTextsWithin (max 4 n)) → IfSome o (λ row. All IsOfTypes row.values)
both_rows n le None h k = tt
both_rows n le (Some row) h k = λ i d within. both_types n le _ (h i d within) (k i d within)

-- the row of a message that isn't longer than messages are
pub row_typed : (schema : Schema) (message : List ℕ) → length message ≤ 65536 → IfSome (row_of schema message) (λ row. All IsOfTypes row.values)
row_typed schema message le = both_rows (length message) le (row_of schema message) (message_sound schema message) (row_of_short schema message)
