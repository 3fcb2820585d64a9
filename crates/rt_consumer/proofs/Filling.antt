-- Filling rows message by message, and taking them back.
use Rattle.std.proofs.Common.{◌≡◌, ◌+◌, ◌<◌, ◌≤◌, ℕ, Bool, true, false, cond, nat_lt, List, [], ◌∷◌, ◌++◌, length, drop, filter, All, Option, Some, None, slice_get, refl, ap, sym, ◌∙◌, arith}
use Rattle.std.proofs.lemmas.Bool.{cond-true, cond-false, lt-ltb, ltb-true}
use Rattle.std.proofs.lemmas.List.{drop_more}
use Rattle.std.proofs.lemmas.Option.{get_or_from_slice_get, slice_get_within}
use Rattle.std.proofs.lemmas.List.Elements.{All-head, All-tail}
use Rattle.rt_base.specs.declared.numbers.Offset.{Offset}
use Rattle.rt_schema.specs.declared.row.Row.{Row}
use Rattle.rt_schema.specs.declared.schema.Schema.{Schema}
use Rattle.rt_schema.specs.Row.{row_of}
use Rattle.rt_mutable.specs.Consuming.{Consuming, Placed, IsConsuming, IsBetween, after_message, is_before}
use Rattle.rt_consumer.specs.Batch.{filled, without}

pub filled_more : (schema : Schema) (limit : ℕ) (rows : Consuming) (m : List ℕ) (ms : List (List ℕ)) → length rows.rows < limit
    → filled schema limit rows (m ∷ ms) ≡ filled schema limit (after_message rows (row_of schema m)) ms
filled_more schema limit rows m ms lt = cond-true _ _ _ (lt-ltb _ _ lt)

not_below : (a b : ℕ) (t : Bool) → nat_lt a b ≡ t → b ≤ a → t ≡ false
not_below a b true e le = absurd (omega (arith, ltb-true a b e, le))
not_below a b false e le = refl

pub filled_full : (schema : Schema) (limit : ℕ) (rows : Consuming) (ms : List (List ℕ)) → limit ≤ length rows.rows → filled schema limit rows ms ≡ rows
filled_full schema limit rows [] le = refl
filled_full schema limit rows (m ∷ ms) le = cond-false _ _ _ (not_below (length rows.rows) limit _ refl le)

filter_push : (end : Offset) (ps : List Placed) (p : Placed) → end.0 ≤ p.offset.0 → filter (is_before end) (ps ++ p ∷ []) ≡ filter (is_before end) ps
filter_push end [] p le = cond-false _ _ _ (not_below p.offset.0 end.0 _ refl le)
filter_push end (q ∷ ps) p le = ap (λ rest. cond (is_before end q) (q ∷ rest) rest) (filter_push end ps p le)

-- a message more is taken back
pub one_back : (end : Offset) (rows : Consuming) (row : Option Row) → end.0 ≤ rows.end.0 → without end (after_message rows row) ≡ without end rows
one_back end rows None le = refl
one_back end rows (Some row) le =
    ap (λ ps. record rows { rows = ps; end = end }) (filter_push end rows.rows (record { offset = rows.end; row = row }) le)

filter_all : (start end : Offset) (ps : List Placed) → All (IsBetween start end) ps → filter (is_before end) ps ≡ ps
filter_all start end [] h = refl
filter_all start end (p ∷ ps) h =
    cond-true _ _ _ (lt-ltb _ _ (All-head (IsBetween start end) p ps h).1) ∙ ap (λ rest. p ∷ rest) (filter_all start end ps (All-tail (IsBetween start end) p ps h))

-- no row is behind the end
pub all_back : (rows : Consuming) → IsConsuming rows → without rows.end rows ≡ rows
all_back rows h = ap (λ ps. record rows { rows = ps }) (filter_all rows.start rows.end rows.rows h.between)

-- a message more is filled
pub filled_step : (schema : Schema) (limit : ℕ) (rows new : Consuming) (ms : List (List ℕ)) (i : ℕ) (m : List ℕ) → slice_get ms i ≡ Some m
    → length rows.rows < limit → new ≡ after_message rows (row_of schema m) → filled schema limit new (drop (i + 1) ms) ≡ filled schema limit rows (drop i ms)
filled_step schema limit rows new ms i m is lt e =
    let rest = drop (i + 1) ms in
    let here : drop i ms ≡ m ∷ rest =
    drop_more ms i m (slice_get_within ms i m is) ∙ ap (λ x. x ∷ rest) (get_or_from_slice_get ms i m m is) in
    ap (λ r. filled schema limit r rest) e
    ∙ sym (filled_more schema limit rows m rest lt)
    ∙ sym (ap (filled schema limit rows) here)

-- the message with which the limit is reached
pub filled_stop : (schema : Schema) (limit : ℕ) (rows new whole : Consuming) (ms : List (List ℕ)) (i : ℕ) (m : List ℕ) → slice_get ms i ≡ Some m
    → length rows.rows < limit → new ≡ after_message rows (row_of schema m) → limit ≤ length new.rows → filled schema limit rows (drop i ms) ≡ whole → new ≡ whole
filled_stop schema limit rows new whole ms i m is lt e le left =
    sym (filled_full schema limit new (drop (i + 1) ms) le) ∙ filled_step schema limit rows new ms i m is lt e ∙ left
