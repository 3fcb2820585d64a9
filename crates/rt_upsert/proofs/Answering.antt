-- The rows that an answer holds, one entry more at a time.
use Rattle.std.proofs.Common.{◌≡◌, ◌+◌, ◌<◌, ◌≤◌, Bool, true, false, cond, not, ◌&&◌, List, [], ◌∷◌, ◌++◌, length, map, filter, refl, sym, ap, ◌∙◌, subst, arith}
use Rattle.std.proofs.lemmas.List.{length-map}
use Rattle.rt_schema.specs.declared.column.Kind.{Kind}
use Rattle.rt_schema.specs.declared.row.Row.{Row}
use Rattle.rt_schema.specs.Value.{kind_of}
use Rattle.rt_model.specs.declared.query.Query.{Query}
use Rattle.rt_model.specs.Aggregate.{taken}
use Rattle.rt_model.specs.Match.{passes}
use Rattle.rt_agg.specs.Grouped.{Grouped, Fits, Holds}
use Rattle.rt_agg.proofs.Fitting.{rows_fit}
use Rattle.rt_upsert.specs.declared.held.Held.{Held}
use Rattle.rt_upsert.specs.declared.place.Place.{Place}
use Rattle.rt_upsert.specs.Answer.{AddsIf}
use Rattle.rt_upsert.specs.Index.{placed}
use Rattle.rt_upsert.specs.Latest.{is_hidden, rows_in}
use Rattle.rt_upsert.specs.Placed.{Placed, PlacedRows, IsQueryOver}
use Rattle.rt_upsert.proofs.Changing.{Entries}

abbrev pub is_shown : PlacedRows → Placed → Bool
is_shown held x = not (is_hidden held x)

-- of some entries, the rows that are not hidden and that the query takes
abbrev pub answered : PlacedRows → Query → Entries → List Row
answered held query es = taken query (rows_in (filter (is_shown held) (map placed es)))

one_more : (held : PlacedRows) (query : Query) (e : Place × Held) (es : Entries)
    → answered held query (e ∷ es) ≡ cond (is_shown held (placed e)) (cond (passes query.filter e.1.row) (e.1.row ∷ answered held query es) (answered held query es)) (answered held query es)
one_more held query e es = by (is_shown held (placed e))
  where
    by : (b : Bool) → taken query (rows_in (cond b (placed e ∷ filter (is_shown held) (map placed es)) (filter (is_shown held) (map placed es))))
        ≡ cond b (cond (passes query.filter e.1.row) (e.1.row ∷ answered held query es) (answered held query es)) (answered held query es)
    by true = refl
    by false = refl

-- one entry more at the end
pub answered_more : (held : PlacedRows) (query : Query) (es : Entries) (e : Place × Held) (b : Bool) → b ≡ is_shown held (placed e)
    → answered held query (es ++ e ∷ []) ≡ cond (b && passes query.filter e.1.row) (answered held query es ++ e.1.row ∷ []) (answered held query es)
answered_more held query [] e b is = one_more held query e [] ∙ ap (λ c. cond c (cond (passes query.filter e.1.row) (e.1.row ∷ []) []) []) (sym is) ∙ by b (passes query.filter e.1.row)
  where
    by : (c d : Bool) → cond c (cond d (e.1.row ∷ []) []) [] ≡ cond (c && d) (e.1.row ∷ []) []
    by true d = refl
    by false d = refl
answered_more held query (f ∷ es) e b is =
    one_more held query f (es ++ e ∷ []) ∙ ap (λ xs. cond (is_shown held (placed f)) (cond (passes query.filter f.1.row) (f.1.row ∷ xs) xs) xs) (answered_more held query es e b is)
    ∙ by (answered held query es) (is_shown held (placed f)) (passes query.filter f.1.row) (b && passes query.filter e.1.row)
    ∙ ap (λ xs. cond (b && passes query.filter e.1.row) (xs ++ e.1.row ∷ []) xs) (sym (one_more held query f es))
  where
    by : (rest : List Row) (s t c : Bool) → cond s (cond t (f.1.row ∷ cond c (rest ++ e.1.row ∷ []) rest) (cond c (rest ++ e.1.row ∷ []) rest)) (cond c (rest ++ e.1.row ∷ []) rest)
        ≡ cond c (cond s (cond t (f.1.row ∷ rest) rest) rest ++ e.1.row ∷ []) (cond s (cond t (f.1.row ∷ rest) rest) rest)
    by rest true true true = refl
    by rest true true false = refl
    by rest true false true = refl
    by rest true false false = refl
    by rest false t true = refl
    by rest false t false = refl

filter_short : {X : Type 0} (p : X → Bool) (xs : List X) → length (filter p xs) ≤ length xs
filter_short p [] = omega arith
filter_short p (x ∷ xs) = by (filter_short p xs) (p x)
  where
    by : length (filter p xs) ≤ length xs → (b : Bool) → length (cond b (x ∷ filter p xs) (filter p xs)) ≤ length (x ∷ xs)
    by rest true = omega (arith, rest)
    by rest false = omega (arith, rest)

pub answered_short : (held : PlacedRows) (query : Query) (es : Entries) → length (answered held query es) ≤ length es
answered_short held query es =
    let shown : List Placed = filter (is_shown held) (map placed es) in
    omega (arith, filter_short (passes query.filter) (rows_in shown), length-map shown (λ (x : Placed). x.row), filter_short (is_shown held) (map placed es), length-map es placed)

-- a held row fits each query over its columns' kinds
pub held_fits : (kinds : List Kind) (query : Query) (row : Row) → IsQueryOver kinds query → map kind_of row.values ≡ kinds → Fits query row
held_fits kinds query row over of = rows_fit over.0 row (of ∙ over.1) query over.2

-- one row more was added where it counts
pub holds_more : (held : PlacedRows) (query : Query) (es : Entries) (e : Place × Held) (b : Bool) (g new : Grouped) → b ≡ is_shown held (placed e) → Fits query e.1.row → length es + 1 < 9223372036854775808
    → Holds query (answered held query es) g → AddsIf b query e.1.row g new → Holds query (answered held query (es ++ e ∷ [])) new
holds_more held query es e b g new is fits few holds adds =
    let short = answered_short held query es in
    subst (λ (rows : List Row). Holds query rows new) (sym (answered_more held query es e b is)) (adds (answered held query es) holds fits (omega (arith, short, few)))
