-- Laws of rows and of the rows of a range.
use Rattle.std.proofs.Common.{◌≡◌, ◌≤◌, ℕ, ◌+◌, ◌-◌, List, [], ◌∷◌, ◌++◌, length, map, take, drop, Option, Some, None, option_map, option_and_then, Bool, true, false, cond, IfSome, length-drop, arith, refl, ap, ◌∙◌}
use Rattle.std.specs.Prelude.{filter_map}
use Rattle.std.proofs.Math.Seq.{take-add}
use Rattle.std.proofs.lemmas.List.{drop-drop, drop-append-le, take-append-le}
use Rattle.std.specs.Str.{is_utf8}
use Rattle.std.proofs.lemmas.List.Elements.{filter_map-append}
use Rattle.serde_json.specs.Data.{Data, null, boolean, number, string, array, object, Members}
use Rattle.serde_json.specs.Find.{get_member, as_i64, as_number, as_str, as_bool}
use Rattle.serde_json.specs.Read.{read}
use Rattle.rt_schema.specs.Value.{kind_of, missing_of, in_32_bits, value_of, cell_of}
use Rattle.rt_schema.specs.Row.{cells_of, row_in, row_of, IsRowOf, rows_in}
use Rattle.rt_schema.specs.declared.column.Column.{Column}
use Rattle.rt_schema.specs.declared.column.Kind.{Kind}
use Rattle.rt_schema.specs.declared.column.Kind.TheVariants.{Int, Long, Text, Bool as Truth, Time}
use Rattle.rt_schema.specs.declared.column.Role.{Role}
use Rattle.rt_schema.specs.declared.column.Role.TheVariants.{Dimension, Metric, Moment}
use Rattle.rt_schema.specs.declared.schema.Schema.{Schema}
use Rattle.rt_schema.specs.declared.value.Value.{Value}

-- a value that is there is of this kind
abbrev IsOf : Kind → Option Value → Type 0
IsOf kind None = Unit {0}
IsOf kind (Some v) = kind_of v ≡ kind

of_map : {A : Type 0} (f : A → Value) (kind : Kind) (o : Option A) → ((a : A) → kind_of (f a) ≡ kind) → IsOf kind (option_map f o)
of_map f kind None h = tt
of_map f kind (Some a) h = h a

value_kind : (kind : Kind) (d : Data) → IsOf kind (value_of kind d)
value_kind Int d = of_map Value.Int Int (option_and_then in_32_bits (option_and_then as_i64 (as_number d))) (λ _. refl)
value_kind Long d = of_map Value.Long Long (option_and_then as_i64 (as_number d)) (λ _. refl)
value_kind Text d = of_map Value.Text Text (as_str d) (λ _. refl)
value_kind Truth d = of_map Value.Bool Truth (as_bool d) (λ _. refl)
value_kind Time d = of_map Value.Time Time (option_and_then as_i64 (as_number d)) (λ _. refl)

missing_kind : (kind : Kind) (role : Role) → kind_of (missing_of kind role) ≡ kind
missing_kind Int Dimension = refl
missing_kind Int Metric = refl
missing_kind Int Moment = refl
missing_kind Long Dimension = refl
missing_kind Long Metric = refl
missing_kind Long Moment = refl
missing_kind Text role = refl
missing_kind Truth role = refl
missing_kind Time role = refl

cell_kind : (column : Column) (found : Option Data) → IsOf column.kind (cell_of column found)
cell_kind column None = missing_kind column.kind column.role
cell_kind column (Some null) = missing_kind column.kind column.role
cell_kind column (Some (boolean b)) = value_kind column.kind (boolean b)
cell_kind column (Some (number n)) = value_kind column.kind (number n)
cell_kind column (Some (string s)) = value_kind column.kind (string s)
cell_kind column (Some (array ds)) = value_kind column.kind (array ds)
cell_kind column (Some (object ms)) = value_kind column.kind (object ms)

abbrev HasKinds : List Column → Option (List Value) → Type 0
HasKinds columns o = IfSome o (λ vs. map kind_of vs ≡ map (λ column. column.kind) columns)

kinds_more : (column : Column) (columns : List Column) (o : Option Value) (rest : Option (List Value)) → IsOf column.kind o → HasKinds columns rest
    → HasKinds (column ∷ columns) (option_and_then (λ v. option_map (λ vs. v ∷ vs) rest) o)
kinds_more column columns None rest h k = tt
kinds_more column columns (Some v) None h k = tt
kinds_more column columns (Some v) (Some vs) h k = ap (λ kind. kind ∷ map kind_of vs) h ∙ ap (λ kinds. column.kind ∷ kinds) k

cells_kinds : (columns : List Column) (ms : Members) → HasKinds columns (cells_of columns ms)
cells_kinds [] ms = refl
cells_kinds (column ∷ columns) ms = kinds_more column columns (cell_of column (get_member column.name ms)) (cells_of columns ms) (cell_kind column (get_member column.name ms)) (cells_kinds columns ms)

row_from_cells : (schema : Schema) (o : Option (List Value)) → HasKinds schema.columns o → IfSome (option_map (λ vs. record { values = vs }) o) (IsRowOf schema)
row_from_cells schema None h = tt
row_from_cells schema (Some vs) h = h

row_in_kinds : (schema : Schema) (d : Data) → IfSome (row_in schema.columns d) (IsRowOf schema)
row_in_kinds schema null = tt
row_in_kinds schema (boolean b) = tt
row_in_kinds schema (number n) = tt
row_in_kinds schema (string s) = tt
row_in_kinds schema (array ds) = tt
row_in_kinds schema (object ms) = row_from_cells schema (cells_of schema.columns ms) (cells_kinds schema.columns ms)

row_of_read : (schema : Schema) (b : Bool) (o : Option Data) → IfSome (cond b (option_and_then (row_in schema.columns) o) None) (IsRowOf schema)
row_of_read schema false o = tt
row_of_read schema true None = tt
row_of_read schema true (Some d) = row_in_kinds schema d

-- the row of a message is a row of the schema
pub row_of_kinds : (schema : Schema) (message : List ℕ) → IfSome (row_of schema message) (IsRowOf schema)
row_of_kinds schema message = row_of_read schema (is_utf8 message) (read message)

-- two ranges that meet have the rows of both
pub rows_in_meets : (schema : Schema) (messages : List (List ℕ)) (start middle end : ℕ) → start ≤ middle → middle ≤ end
    → rows_in schema messages start end ≡ rows_in schema messages start middle ++ rows_in schema messages middle end
rows_in_meets schema messages start middle end first second =
    let size : end - start ≡ (middle - start) + (end - middle) = omega arith in
    let place : start + (middle - start) ≡ middle = omega arith in
    let rest : drop (middle - start) (drop start messages) ≡ drop middle messages = drop-drop (middle - start) start messages ∙ ap (λ n. drop n messages) place in
    let split : take (end - start) (drop start messages) ≡ take (middle - start) (drop start messages) ++ take (end - middle) (drop middle messages) =
    ap (λ n. take n (drop start messages)) size ∙ take-add (middle - start) (end - middle) (drop start messages) ∙ ap (λ xs. take (middle - start) (drop start messages) ++ take (end - middle) xs) rest in
    ap (filter_map (row_of schema)) split ∙ filter_map-append (row_of schema) (take (middle - start) (drop start messages)) (take (end - middle) (drop middle messages))

-- messages that come later change no row of a range that was there
pub rows_in_grows : (schema : Schema) (messages more : List (List ℕ)) (start end : ℕ) → start ≤ end → end ≤ length messages
    → rows_in schema (messages ++ more) start end ≡ rows_in schema messages start end
rows_in_grows schema messages more start end order within =
    let room : end - start ≤ length (drop start messages) = omega (arith, length-drop start messages) in
    let below : start ≤ length messages = omega arith in
    ap (λ xs. filter_map (row_of schema) (take (end - start) xs)) (drop-append-le start messages more below) ∙ ap (filter_map (row_of schema)) (take-append-le (end - start) (drop start messages) more room)
