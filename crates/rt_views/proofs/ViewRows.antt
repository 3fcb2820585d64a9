-- The rows of what was found.
use Rattle.std.proofs.Common.{◌≡◌, ℕ, zero, suc, ◌+◌, ◌<◌, ◌≤◌, Bool, true, false, cond, List, [], ◌∷◌, ◌++◌, length, map, take, get_or, Option, Some, All, refl, sym, ap, ◌∙◌, append_assoc, length-append, arith}
use Rattle.std.specs.List.{list_all}
use Rattle.std.proofs.lemmas.Bool.{and_parts, false≢true}
use Rattle.std.proofs.lemmas.List.{append-nil, take_more}
use Rattle.rt_entry.specs.declared.served_rows.ServedRows.{ServedRows}
use Rattle.rt_schema.specs.Row.{IsRowOf}
use Rattle.rt_schema.specs.Value.{kind_of}
use Rattle.rt_schema.specs.declared.column.Column.{Column}
use Rattle.rt_schema.specs.declared.column.Kind.{Kind}
use Rattle.rt_schema.specs.declared.column.Kind.TheVariants as kinds
use Rattle.rt_schema.specs.declared.row.Row.{Row}
use Rattle.rt_schema.specs.declared.schema.Schema.{Schema}
use Rattle.rt_schema.specs.declared.value.Value.{Value}
use Rattle.rt_segment.specs.Segment.{kind_eq}
use Rattle.rt_views.specs.Views.{are_of, is_row_of, rows_found, rows_if, rows_viewed}
use Rattle.rt_views.specs.declared.found.Found.{Found}
use Rattle.rt_views.specs.declared.view.View.{View}

-- ---- rows of the schema

kind_is : (a b : Kind) → kind_eq a b ≡ true → a ≡ b
kind_is kinds.Int kinds.Int e = refl
kind_is kinds.Int kinds.Long e = absurd (false≢true e)
kind_is kinds.Int kinds.Text e = absurd (false≢true e)
kind_is kinds.Int kinds.Bool e = absurd (false≢true e)
kind_is kinds.Int kinds.Time e = absurd (false≢true e)
kind_is kinds.Long kinds.Int e = absurd (false≢true e)
kind_is kinds.Long kinds.Long e = refl
kind_is kinds.Long kinds.Text e = absurd (false≢true e)
kind_is kinds.Long kinds.Bool e = absurd (false≢true e)
kind_is kinds.Long kinds.Time e = absurd (false≢true e)
kind_is kinds.Text kinds.Int e = absurd (false≢true e)
kind_is kinds.Text kinds.Long e = absurd (false≢true e)
kind_is kinds.Text kinds.Text e = refl
kind_is kinds.Text kinds.Bool e = absurd (false≢true e)
kind_is kinds.Text kinds.Time e = absurd (false≢true e)
kind_is kinds.Bool kinds.Int e = absurd (false≢true e)
kind_is kinds.Bool kinds.Long e = absurd (false≢true e)
kind_is kinds.Bool kinds.Text e = absurd (false≢true e)
kind_is kinds.Bool kinds.Bool e = refl
kind_is kinds.Bool kinds.Time e = absurd (false≢true e)
kind_is kinds.Time kinds.Int e = absurd (false≢true e)
kind_is kinds.Time kinds.Long e = absurd (false≢true e)
kind_is kinds.Time kinds.Text e = absurd (false≢true e)
kind_is kinds.Time kinds.Bool e = absurd (false≢true e)
kind_is kinds.Time kinds.Time e = refl

kinds_are : (values : List Value) (columns : List Column) → are_of values columns ≡ true → map kind_of values ≡ map (λ (c : Column). c.kind) columns
kinds_are [] [] e = refl
kinds_are [] (c ∷ columns) e = absurd (false≢true e)
kinds_are (v ∷ values) [] e = absurd (false≢true e)
kinds_are (v ∷ values) (c ∷ columns) e =
    let parts = and_parts (kind_eq (kind_of v) c.kind) (are_of values columns) e in
    let first : kind_of v ≡ c.kind = kind_is (kind_of v) c.kind parts.0 in
    let rest : map kind_of values ≡ map (λ (d : Column). d.kind) columns = kinds_are values columns parts.1 in
    (λ j. first j ∷ rest j)

pub no_values : (values : List Value) (columns : List Column) → length values < 1 → 0 < length columns → false ≡ are_of values columns
no_values [] [] short long = absurd (omega (arith, long))
no_values [] (c ∷ columns) short long = refl
no_values (v ∷ values) columns short long = absurd (omega (arith, short))

pub no_columns : (values : List Value) (columns : List Column) → 0 < length values → length columns < 1 → false ≡ are_of values columns
no_columns [] columns long short = absurd (omega (arith, long))
no_columns (v ∷ values) [] long short = refl
no_columns (v ∷ values) (c ∷ columns) long short = absurd (omega (arith, short))

pub rows_are : (schema : Schema) (rows : List Row) → list_all (is_row_of schema) rows ≡ true → All (IsRowOf schema) rows
rows_are schema [] e k d h = absurd (omega (arith, h))
rows_are schema (row ∷ rows) e zero d h = kinds_are row.values schema.columns (and_parts (is_row_of schema row) (list_all (is_row_of schema) rows) e).0
rows_are schema (row ∷ rows) e (suc k) d h = rows_are schema rows (and_parts (is_row_of schema row) (list_all (is_row_of schema) rows) e).1 k d (omega (arith, h))

pub if_all : (schema : Schema) (rows : Option ServedRows) (served : ServedRows) → rows ≡ Some served → list_all (is_row_of schema) served.rows ≡ true → served.rows ≡ rows_if schema rows
if_all schema rows served is all = sym (ap (rows_if schema) is ∙ ap (λ b. cond b served.rows []) all)

pub if_not : (schema : Schema) (rows : Option ServedRows) (served : ServedRows) → rows ≡ Some served → list_all (is_row_of schema) served.rows ≡ false → [] ≡ rows_if schema rows
if_not schema rows served is not = sym (ap (rows_if schema) is ∙ ap (λ b. cond b served.rows []) not)

-- ---- how many there are

pub if_short : (schema : Schema) (served : ServedRows) → length (rows_if schema (Some served)) ≤ length served.rows
if_short schema served = by (list_all (is_row_of schema) served.rows)
  where
    by : (b : Bool) → length (cond b served.rows []) ≤ length served.rows
    by true = omega arith
    by false = omega arith

-- ---- one more

found_push : (schema : Schema) (fs : List Found) (f : Found) → rows_found schema (fs ++ f ∷ []) ≡ rows_found schema fs ++ rows_if schema f.rows
found_push schema [] f = append-nil (rows_if schema f.rows)
found_push schema (g ∷ fs) f = ap (λ (r : List Row). rows_if schema g.rows ++ r) (found_push schema fs f) ∙ sym (append_assoc (rows_if schema g.rows) (rows_found schema fs) (rows_if schema f.rows))

pub found_more : (schema : Schema) (fs : List Found) (i : ℕ) (f : Found) → i < length fs → f ≡ get_or fs i f → rows_found schema (take (i + 1) fs) ≡ rows_found schema (take i fs) ++ rows_if schema f.rows
found_more schema fs i f within is =
    ap (rows_found schema) (take_more fs i f within ∙ ap (λ (g : Found). take i fs ++ g ∷ []) (sym is)) ∙ found_push schema (take i fs) f

viewed_push : (schema : Schema) (vs : List View) (v : View) → rows_viewed schema (vs ++ v ∷ []) ≡ rows_viewed schema vs ++ rows_found schema v.found
viewed_push schema [] v = append-nil (rows_found schema v.found)
viewed_push schema (u ∷ vs) v =
    ap (λ (r : List Row). rows_found schema u.found ++ r) (viewed_push schema vs v) ∙ sym (append_assoc (rows_found schema u.found) (rows_viewed schema vs) (rows_found schema v.found))

pub viewed_more : (schema : Schema) (vs : List View) (i : ℕ) (v : View) → i < length vs → v ≡ get_or vs i v → rows_viewed schema (take (i + 1) vs) ≡ rows_viewed schema (take i vs) ++ rows_found schema v.found
viewed_more schema vs i v within is =
    ap (rows_viewed schema) (take_more vs i v within ∙ ap (λ (u : View). take i vs ++ u ∷ []) (sym is)) ∙ viewed_push schema (take i vs) v

-- what one view has is no more than what all have
pub one_viewed : (schema : Schema) (vs : List View) (i : ℕ) (v : View) → i < length vs → v ≡ get_or vs i v → length (rows_found schema v.found) ≤ length (rows_viewed schema vs)
one_viewed schema [] i v within is = absurd (omega (arith, within))
one_viewed schema (u ∷ vs) zero v within is =
    omega (arith, ap (λ (w : View). length (rows_found schema w.found)) is, length-append (rows_found schema u.found) (rows_viewed schema vs))
one_viewed schema (u ∷ vs) (suc i) v within is =
    omega (arith, one_viewed schema vs i v (omega (arith, within)) is, length-append (rows_found schema u.found) (rows_viewed schema vs))
