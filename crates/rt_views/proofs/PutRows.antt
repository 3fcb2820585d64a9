-- Rows put at their places: how many are held, and what stays.
use Rattle.std.proofs.Common.{◌≡◌, ℕ, ◌+◌, ◌<◌, ◌≤◌, Bool, true, false, not, cond, List, [], ◌∷◌, ◌++◌, length, filter, take, drop, get_or, Ordering, Less, Equal, Greater, refl, sym, ap, ◌∙◌, append_assoc, length-append, arith}
use Rattle.std.specs.Ordering.{match_ordering}
use Rattle.std.proofs.lemmas.List.{append-nil, length-map, take_more}
use Rattle.rt_base.specs.declared.numbers.Sequence.{Sequence}
use Rattle.rt_broker.proofs.Gaining.{drop_end}
use Rattle.rt_schema.proofs.Lists.{drop_next}
use Rattle.rt_schema.specs.declared.row.Row.{Row}
use Rattle.rt_schema.specs.declared.schema.Schema.{Schema}
use Rattle.rt_upconf.specs.declared.upsert_config.UpsertConfig.{UpsertConfig}
use Rattle.rt_upsert.specs.Latest.{is_hidden, latest_of, rows_in, start_of}
use Rattle.rt_upsert.specs.Placed.{Placed, PlacedRows, is_held, place_cmp, put_in, with_row}
use Rattle.rt_upsert.specs.declared.place.Place.{Place}
use Rattle.rt_views.specs.Placing.{latest_found, latest_viewed, put_all, put_at, put_from}
use Rattle.rt_views.specs.Views.{rows_found, rows_if, rows_viewed}
use Rattle.rt_views.specs.declared.found.Found.{Found}
use Rattle.rt_views.specs.declared.view.View.{View}

-- ---- one row

one_in : (x : Placed) (xs : List Placed) → length (put_in x xs) ≤ length xs + 1
one_in x [] = omega arith
one_in x (y ∷ ys) = by (place_cmp x.place y.place) (one_in x ys)
  where
    by : (o : Ordering) → length (put_in x ys) ≤ length ys + 1
        → length (match_ordering o (x ∷ (y ∷ ys)) (record { place = y.place; row = x.row } ∷ ys) (y ∷ put_in x ys)) ≤ length (y ∷ ys) + 1
    by Less h = omega (arith, h)
    by Equal h = omega (arith, h)
    by Greater h = omega (arith, h)

pub at_few : (held : PlacedRows) (place : Place) (row : Row) → length (put_at held place row).rows ≤ length held.rows + 1
at_few held place row = by (is_held place held.rows)
  where
    by : (b : Bool) → length (cond b held (with_row held place row)).rows ≤ length held.rows + 1
    by true = omega arith
    by false = one_in (record { place = place; row = row }) held.rows

pub at_kinds : (held : PlacedRows) (place : Place) (row : Row) → (put_at held place row).kinds ≡ held.kinds
at_kinds held place row = by (is_held place held.rows)
  where
    by : (b : Bool) → (cond b held (with_row held place row)).kinds ≡ held.kinds
    by true = refl
    by false = refl

-- ---- the rows of a piece

pub from_few : (s : Sequence) (n : ℕ) (held : PlacedRows) (rows : List Row) → length (put_from s n held rows).rows ≤ length held.rows + length rows
from_few s n held [] = omega arith
from_few s n held (row ∷ rows) =
    let place : Place = record { sequence = s; row = n } in
    omega (arith, from_few s (n + 1) (put_at held place row) rows, at_few held place row)

pub from_kinds : (s : Sequence) (n : ℕ) (held : PlacedRows) (rows : List Row) → (put_from s n held rows).kinds ≡ held.kinds
from_kinds s n held [] = refl
from_kinds s n held (row ∷ rows) = from_kinds s (n + 1) (put_at held (record { sequence = s; row = n }) row) rows ∙ at_kinds held (record { sequence = s; row = n }) row

-- ---- the rows of all pieces

pub all_few : (schema : Schema) (held : PlacedRows) (fs : List Found) → length (put_all schema held fs).rows ≤ length held.rows + length (rows_found schema fs)
all_few schema held [] = omega arith
all_few schema held (f ∷ fs) =
    let next : PlacedRows = put_from f.piece.sequence 0 held (rows_if schema f.rows) in
    omega (arith, all_few schema next fs, from_few f.piece.sequence 0 held (rows_if schema f.rows), length-append (rows_if schema f.rows) (rows_found schema fs))

pub all_kinds : (schema : Schema) (held : PlacedRows) (fs : List Found) → (put_all schema held fs).kinds ≡ held.kinds
all_kinds schema held [] = refl
all_kinds schema held (f ∷ fs) =
    all_kinds schema (put_from f.piece.sequence 0 held (rows_if schema f.rows)) fs ∙ from_kinds f.piece.sequence 0 held (rows_if schema f.rows)

-- ---- the latest ones

filter_few : {X : Type 0} (p : X → Bool) (xs : List X) → length (filter p xs) ≤ length xs
filter_few p [] = omega arith
filter_few p (x ∷ xs) = by (p x) (filter_few p xs)
  where
    by : (b : Bool) → length (filter p xs) ≤ length xs → length (cond b (x ∷ filter p xs) (filter p xs)) ≤ length (x ∷ xs)
    by true h = omega (arith, h)
    by false h = omega (arith, h)

latest_few : (held : PlacedRows) → length (rows_in (latest_of held)) ≤ length held.rows
latest_few held = omega (arith, length-map (latest_of held) (λ (x : Placed). x.row), filter_few (λ (x : Placed). not (is_hidden held x)) held.rows)

pub found_few : (schema : Schema) (config : UpsertConfig) (fs : List Found) → length (latest_found schema config fs) ≤ length (rows_found schema fs)
found_few schema config fs = omega (arith, latest_few (put_all schema (start_of schema config) fs), all_few schema (start_of schema config) fs)

pub viewed_few : (schema : Schema) (config : UpsertConfig) (vs : List View) → length (latest_viewed schema config vs) ≤ length (rows_viewed schema vs)
viewed_few schema config [] = omega arith
viewed_few schema config (v ∷ vs) =
    omega (
      arith,
      found_few schema config v.found,
      viewed_few schema config vs,
      length-append (latest_found schema config v.found) (latest_viewed schema config vs),
      length-append (rows_found schema v.found) (rows_viewed schema vs),
    )

-- ---- one view more

latest_push : (schema : Schema) (config : UpsertConfig) (vs : List View) (v : View) → latest_viewed schema config (vs ++ v ∷ []) ≡ latest_viewed schema config vs ++ latest_found schema config v.found
latest_push schema config [] v = append-nil (latest_found schema config v.found)
latest_push schema config (u ∷ vs) v =
    ap (λ (r : List Row). latest_found schema config u.found ++ r) (latest_push schema config vs v)
    ∙ sym (append_assoc (latest_found schema config u.found) (latest_viewed schema config vs) (latest_found schema config v.found))

pub latest_more : (schema : Schema) (config : UpsertConfig) (vs : List View) (i : ℕ) (v : View) → i < length vs → v ≡ get_or vs i v
    → latest_viewed schema config (take (i + 1) vs) ≡ latest_viewed schema config (take i vs) ++ latest_found schema config v.found
latest_more schema config vs i v within is =
    ap (latest_viewed schema config) (take_more vs i v within ∙ ap (λ (u : View). take i vs ++ u ∷ []) (sym is)) ∙ latest_push schema config (take i vs) v

-- ---- one step of a walk

pub from_step : (s : Sequence) (n : ℕ) (held : PlacedRows) (rows : List Row) (i : ℕ) (row : Row) → i < length rows → row ≡ get_or rows i row
    → put_from s (n + 1) (put_at held (record { sequence = s; row = n }) row) (drop (i + 1) rows) ≡ put_from s n held (drop i rows)
from_step s n held rows i row within is = sym (ap (put_from s n held) (drop_next rows i row within is))

pub rows_left : (rows : List Row) (i : ℕ) (row : Row) → i < length rows → row ≡ get_or rows i row → length (drop i rows) ≡ length (drop (i + 1) rows) + 1
rows_left rows i row within is = omega (arith, ap length (drop_next rows i row within is))

pub all_step : (schema : Schema) (held : PlacedRows) (fs : List Found) (i : ℕ) (f : Found) → i < length fs → f ≡ get_or fs i f
    → put_all schema (put_from f.piece.sequence 0 held (rows_if schema f.rows)) (drop (i + 1) fs) ≡ put_all schema held (drop i fs)
all_step schema held fs i f within is = sym (ap (put_all schema held) (drop_next fs i f within is))

pub found_left : (schema : Schema) (fs : List Found) (i : ℕ) (f : Found) → i < length fs → f ≡ get_or fs i f
    → length (rows_found schema (drop i fs)) ≡ length (rows_if schema f.rows) + length (rows_found schema (drop (i + 1) fs))
found_left schema fs i f within is =
    ap (λ (gs : List Found). length (rows_found schema gs)) (drop_next fs i f within is) ∙ length-append (rows_if schema f.rows) (rows_found schema (drop (i + 1) fs))

-- ---- the end of a walk

pub from_put : (s : Sequence) (n : ℕ) (held : PlacedRows) (rows : List Row) (i : ℕ) → length rows ≤ i → held ≡ put_from s n held (drop i rows)
from_put s n held rows i past = sym (ap (put_from s n held) (drop_end rows i past))

pub all_put : (schema : Schema) (held : PlacedRows) (fs : List Found) (i : ℕ) → length fs ≤ i → held ≡ put_all schema held (drop i fs)
all_put schema held fs i past = sym (ap (put_all schema held) (drop_end fs i past))
