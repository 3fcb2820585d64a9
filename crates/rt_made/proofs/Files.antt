-- The rows of a push have a file.
use Rattle.std.proofs.Common.{◌≡◌, ◌+◌, ℕ, suc, ℤ, pos, Bool, true, false, List, [], ◌∷◌, length, map, Option, Some, None, option_and_then, option_map, refl, sym, ap, ◌∙◌, slice_get, arith}
use Rattle.std.specs.Prelude.{slice_index_or, unwrap_or}
use Rattle.std.specs.List.{AllByRecursion, list_all, range_with_len}
use Rattle.std.proofs.lemmas.Bool.{and_from}
use Rattle.std.proofs.lemmas.Option.{cond_some, get_or_from_slice_get, none-some, slice_get-map}
use Rattle.std.proofs.lemmas.Slice.Eq.{bytes_eq-Decides}
use Rattle.serde_json.specs.Data.{Data}
use Rattle.rt_hybrid.proofs.FileRows.{rows_are_as}
use Rattle.rt_hybrid.proofs.ObjectRows.{is_good, row_at, rows_form}
use Rattle.rt_hybrid.proofs.ValueKinds.{row_is}
use Rattle.rt_hybrid.specs.Batch.{columns_kept, columns_pushed, items_pushed, rows_in, rows_pushed}
use Rattle.rt_hybrid.specs.Cells.{value_in}
use Rattle.rt_hybrid.specs.Files.{IsFileOf, IsPlain}
use Rattle.rt_schema.specs.Schema.{IsSchema}
use Rattle.rt_schema.specs.Value.{kind_of}
use Rattle.rt_schema.specs.declared.column.Column.{Column}
use Rattle.rt_schema.specs.declared.column.Kind.{Kind}
use Rattle.rt_schema.specs.declared.row.Row.{Row}
use Rattle.rt_schema.specs.declared.schema.Schema.{Schema}
use Rattle.rt_schema.specs.declared.value.Value.{Value}
use Rattle.rt_schema.specs.declared.value.Value.TheVariants as value
use Rattle.rt_segment.specs.Column.{SealedColumn, kind_in, values_in, values_of}
use Rattle.rt_segment.specs.Segment.{SealedSegment, are_columns, cell_in, kind_eq, row_in, rows_of}
use Rattle.rt_segment.specs.declared.dictionary.Dictionary.{Dictionary}
use Rattle.rt_segment.specs.declared.dictionary.Dictionary.TheVariants as dictionary

-- ---- the values of a kind

abbrev number_of : Value → ℤ
number_of (value.Int z) = z
number_of (value.Long z) = z
number_of (value.Text s) = pos 0
number_of (value.Bool b) = pos 0
number_of (value.Time z) = z

abbrev text_of : Value → List ℕ
text_of (value.Int z) = []
text_of (value.Long z) = []
text_of (value.Text s) = s
text_of (value.Bool b) = []
text_of (value.Time z) = []

abbrev truth_of : Value → Bool
truth_of (value.Int z) = false
truth_of (value.Long z) = false
truth_of (value.Text s) = false
truth_of (value.Bool b) = b
truth_of (value.Time z) = false

-- the values of rows, one by one
abbrev dictionary_of : Kind → List Value → Dictionary
dictionary_of Kind.Int vs = dictionary.Int (map number_of vs)
dictionary_of Kind.Long vs = dictionary.Long (map number_of vs)
dictionary_of Kind.Text vs = dictionary.Text (map text_of vs)
dictionary_of Kind.Bool vs = dictionary.Bool (map truth_of vs)
dictionary_of Kind.Time vs = dictionary.Time (map number_of vs)

abbrev AreOf : Kind → List Value → Type 0
AreOf k vs = AllByRecursion (λ v. kind_of v ≡ k) vs

back : {K : Type 0} (f : K → Value) (g : Value → K) (k : Kind) → ((v : Value) → kind_of v ≡ k → f (g v) ≡ v) → (vs : List Value) → AreOf k vs → map f (map g vs) ≡ vs
back f g k h [] are = refl
back f g k h (v ∷ vs) are = let first = h v are.0 in let rest = back f g k h vs are.1 in (λ j. first j ∷ rest j)

int_back : (v : Value) → kind_of v ≡ Kind.Int → value.Int (number_of v) ≡ v
int_back (value.Int z) e = refl
int_back v e = absurd (cc)

long_back : (v : Value) → kind_of v ≡ Kind.Long → value.Long (number_of v) ≡ v
long_back (value.Long z) e = refl
long_back v e = absurd (cc)

text_back : (v : Value) → kind_of v ≡ Kind.Text → value.Text (text_of v) ≡ v
text_back (value.Text s) e = refl
text_back v e = absurd (cc)

truth_back : (v : Value) → kind_of v ≡ Kind.Bool → value.Bool (truth_of v) ≡ v
truth_back (value.Bool b) e = refl
truth_back v e = absurd (cc)

time_back : (v : Value) → kind_of v ≡ Kind.Time → value.Time (number_of v) ≡ v
time_back (value.Time z) e = refl
time_back v e = absurd (cc)

values_back : (k : Kind) (vs : List Value) → AreOf k vs → values_in (dictionary_of k vs) ≡ vs
values_back Kind.Int vs are = back value.Int number_of Kind.Int int_back vs are
values_back Kind.Long vs are = back value.Long number_of Kind.Long long_back vs are
values_back Kind.Text vs are = back value.Text text_of Kind.Text text_back vs are
values_back Kind.Bool vs are = back value.Bool truth_of Kind.Bool truth_back vs are
values_back Kind.Time vs are = back value.Time number_of Kind.Time time_back vs are

kind_kept : (k : Kind) (vs : List Value) → kind_eq (kind_in (dictionary_of k vs)) k ≡ true
kind_kept Kind.Int vs = refl
kind_kept Kind.Long vs = refl
kind_kept Kind.Text vs = refl
kind_kept Kind.Bool vs = refl
kind_kept Kind.Time vs = refl

-- ---- the columns

abbrev given_to : Column → List Data → List Value
given_to c items = map (λ d. value_in d c) items

abbrev stored : List Data → Column → SealedColumn
stored items c =
    record { name = c.name; dictionary = dictionary_of c.kind (given_to c items); ids = range_with_len 0 (length items); indexed = false }

first_of : (k l : Kind) (ks ls : List Kind) → k ∷ ks ≡ l ∷ ls → k ≡ l
first_of k l ks ls e = cc

value_kind : (c : Column) (d : Data) → kind_of (value_in d c) ≡ c.kind
value_kind c d = first_of (kind_of (value_in d c)) c.kind [] [] (row_is (record { name = []; columns = c ∷ [] }) d)

given_kind : (c : Column) (items : List Data) → AreOf c.kind (given_to c items)
given_kind c [] = tt
given_kind c (d ∷ items) = (value_kind c d, given_kind c items)

-- what is given to each number in a range is given to each item
ranged : {X Y : Type 0} (F : ℕ → Y) (f : X → Y) (xs : List X) (from : ℕ) → ((k : ℕ) (x : X) → slice_get xs k ≡ Some x → F (from + k) ≡ f x)
    → map F (range_with_len from (length xs)) ≡ map f xs
ranged F f [] from h = refl
ranged F f (x ∷ xs) from h =
    let here : from ≡ from + 0 = omega arith in
    let first : F from ≡ f x = ap F here ∙ h 0 x refl in
    let rest = ranged F f xs (from + 1) (λ k y at. let there : from + 1 + k ≡ from + suc k = omega arith in ap F there ∙ h (suc k) y at) in
    (λ j. first j ∷ rest j)

item_of : (g : Data → Value) (items : List Data) (k : ℕ) (d : Data) → slice_get items k ≡ Some d → slice_index_or (map g items) (0 + k) (value.Bool false) ≡ g d
item_of g items k d at =
    let zero : 0 + k ≡ k = omega arith in
    ap (λ n. slice_index_or (map g items) n (value.Bool false)) zero
    ∙ get_or_from_slice_get (map g items) k (g d) (value.Bool false) (slice_get-map g items k ∙ ap (option_map g) at)

stored_values : (items : List Data) (c : Column) → values_of (stored items c) ≡ given_to c items
stored_values items c =
    ap (λ ws. map (λ id. slice_index_or ws id (value.Bool false)) (range_with_len 0 (length items))) (values_back c.kind (given_to c items) (given_kind c items))
    ∙ ranged (λ id. slice_index_or (given_to c items) id (value.Bool false)) (λ d. value_in d c) items 0 (λ k d at. item_of (λ x. value_in x c) items k d at)

stored_cell : (items : List Data) (k : ℕ) (d : Data) → slice_get items k ≡ Some d → (c : Column) → cell_in (0 + k) (stored items c) ≡ value_in d c
stored_cell items k d at c = ap (λ vs. slice_index_or vs (0 + k) (value.Bool false)) (stored_values items c) ∙ item_of (λ x. value_in x c) items k d at

stored_cells : (items : List Data) (k : ℕ) (d : Data) → slice_get items k ≡ Some d → (cs : List Column) → map (cell_in (0 + k)) (map (stored items) cs) ≡ map (value_in d) cs
stored_cells items k d at [] = refl
stored_cells items k d at (c ∷ cs) = let first = stored_cell items k d at c in let rest = stored_cells items k d at cs in (λ j. first j ∷ rest j)

stored_are : (items : List Data) (cs : List Column) → are_columns (map (stored items) cs) cs ≡ true
stored_are items [] = refl
stored_are items (c ∷ cs) =
    and_from _ _ (and_from _ _ ((bytes_eq-Decides c.name c.name).1 refl) (kind_kept c.kind (given_to c items))) (stored_are items cs)

stored_plain : (items : List Data) (cs : List Column) → AllByRecursion IsPlain (map (stored items) cs)
stored_plain items [] = tt
stored_plain items (c ∷ cs) = (refl, stored_plain items cs)

-- ---- the file

abbrev file_of : Schema → ℕ → List Data → List Row → SealedSegment
file_of schema number items rows =
    record {
      format = 2;
      partition = record { 0 = 0 };
      sequence = record { 0 = number };
      range = record { start = record { 0 = 0 }; end = record { 0 = length rows } };
      rows = length items;
      columns = map (stored items) (columns_kept schema.columns items);
    }

items_file : (schema : Schema) (number : ℕ) (items : List Data) (rows : List Row) → IsSchema schema → rows_in schema.columns items ≡ Some rows
    → IsFileOf schema number (columns_kept schema.columns items) rows (file_of schema number items rows)
items_file schema number items rows is e =
    let kept = columns_kept schema.columns items in
    let file = file_of schema number items rows in
    let of : rows_of file ≡ map (row_at kept) items =
    ranged (row_in file.columns) (row_at kept) items 0 (λ k d at. ap (λ vs. made vs) (stored_cells items k d at kept)) in
    let own = cond_some (list_all (is_good schema.columns) items) (map (row_at schema.columns) items) rows (sym (rows_form schema.columns items) ∙ e) in
    record {
      format = refl;
      partition = refl;
      sequence = refl;
      range = refl;
      columns = stored_are items kept;
      plain = stored_plain items kept;
      rows = rows_are_as schema is items file (stored_are items kept) of ∙ own.1;
    }
  where
    made : List Value → Row
    made vs = record { values = vs }

pub push_filed : (schema : Schema) (number : ℕ) (text : List ℕ) (rows : List Row) → IsSchema schema → rows_pushed schema text ≡ Some rows
    → (file : SealedSegment) × IsFileOf schema number (columns_pushed schema text) rows file
push_filed schema number text rows is e = by (items_pushed text) e
  where
    by : (o : Option (List Data)) → option_and_then (rows_in schema.columns) o ≡ Some rows
        → (file : SealedSegment) × IsFileOf schema number (columns_kept schema.columns (unwrap_or o [])) rows file
    by None h = absurd (none-some rows h)
    by (Some items) h = (file_of schema number items rows, items_file schema number items rows is h)
