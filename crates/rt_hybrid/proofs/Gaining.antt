-- Groups that take more rows.
use Rattle.std.proofs.Common.{◌≡◌, ◌+◌, ◌<◌, Bool, true, false, cond, ◌&&◌, List, [], ◌∷◌, ◌++◌, length, filter, take, get_or, ℕ, All, refl, sym, ap, subst, ◌∙◌, append_assoc, length-append, arith}
use Rattle.std.proofs.lemmas.List.{append-nil, take_more}
use Rattle.std.proofs.lemmas.List.Elements.{filter-append, All-head, All-tail}
use Rattle.rt_schema.specs.declared.row.Row.{Row}
use Rattle.rt_schema.specs.declared.schema.Schema.{Schema}
use Rattle.rt_model.specs.declared.query.Query.{Query}
use Rattle.rt_model.specs.Aggregate.{taken}
use Rattle.rt_model.specs.Match.{passes}
use Rattle.rt_segment.specs.Segment.{SealedSegment}
use Rattle.rt_scan.specs.Filled.{rows_as}
use Rattle.rt_agg.specs.Grouped.{Adds, Fits, Grouped, Holds, Merges}
use Rattle.rt_hybrid.specs.Adding.{AddsRows}
use Rattle.rt_hybrid.specs.Table.{rows_of_files}
use Rattle.rt_hybrid.proofs.Pushed.{files_more}

pub adds_none : (query : Query) (g : Grouped) → AddsRows query [] g g
adds_none query g rows h few = subst (λ rs. Holds query rs g) (sym (append-nil rows)) h

pub adds_then : (query : Query) (xs ys : List Row) (a b c : Grouped) → AddsRows query xs a b → AddsRows query ys b c → AddsRows query (xs ++ ys) a c
adds_then query xs ys a b c first second rows h few =
    let size = length-append xs ys in
    let more = length-append rows xs in
    subst (λ rs. Holds query rs c) (append_assoc rows xs ys)
    (second (rows ++ xs) (first rows h (omega (arith, few, size))) (omega (arith, few, size, more)))

pub adds_same : (query : Query) (xs ys : List Row) (a b : Grouped) → xs ≡ ys → AddsRows query xs a b → AddsRows query ys a b
adds_same query xs ys a b e h = subst (λ rs. AddsRows query rs a b) e h

pub merged_adds : (query : Query) (more : List Row) (a b c : Grouped) → Merges a b c → Holds query more b → AddsRows query more a c
merged_adds query more a b c merges holds rows h few = merges query rows more h holds few

pub row_adds : (query : Query) (row : Row) (a b : Grouped) → Fits query row → Adds row a b → AddsRows query (row ∷ []) a b
row_adds query row a b fits adds rows h few = adds query rows h fits few

-- one file more
pub file_taken : (query : Query) (schema : Schema) (files : List SealedSegment) (i : ℕ) (file : SealedSegment) → i < length files → file ≡ get_or files i file
    → taken query (rows_of_files schema (take i files)) ++ taken query (rows_as schema file) ≡ taken query (rows_of_files schema (take (i + 1) files))
file_taken query schema files i file within is =
    sym (filter-append (passes query.filter) (rows_of_files schema (take i files)) (rows_as schema file))
    ∙ ap (taken query) (sym (files_more schema (take i files) file))
    ∙ ap (λ fs. taken query (rows_of_files schema fs)) (ap (λ (f : SealedSegment). take i files ++ f ∷ []) is ∙ sym (take_more files i file within))

-- one row more
pub row_taken : (query : Query) (p : Row → Bool) (rows : List Row) (i : ℕ) (row : Row) → i < length rows → row ≡ get_or rows i row
    → taken query (filter p (take i rows)) ++ taken query (filter p (row ∷ [])) ≡ taken query (filter p (take (i + 1) rows))
row_taken query p rows i row within is =
    sym (filter-append (passes query.filter) (filter p (take i rows)) (filter p (row ∷ [])))
    ∙ ap (taken query) (sym (filter-append p (take i rows) (row ∷ [])))
    ∙ ap (λ rs. taken query (filter p rs)) (ap (λ (r : Row). take i rows ++ r ∷ []) is ∙ sym (take_more rows i row within))

-- no row of a list passes
pub none_taken : (query : Query) (rows : List Row) → All (λ (row : Row). passes query.filter row ≡ false) rows → taken query rows ≡ []
none_taken query [] all = refl
none_taken query (row ∷ rows) all =
    ap (λ b. cond b (row ∷ taken query rows) (taken query rows)) (All-head (λ (r : Row). passes query.filter r ≡ false) row rows all)
    ∙ none_taken query rows (All-tail (λ (r : Row). passes query.filter r ≡ false) row rows all)

pub one_counts : (query : Query) (p : Row → Bool) (row : Row) (b c : Bool) → p row ≡ b → passes query.filter row ≡ c → taken query (filter p (row ∷ [])) ≡ cond (b && c) (row ∷ []) []
one_counts query p row true c e f = ap (λ x. taken query (cond x (row ∷ []) [])) e ∙ ap (λ x. cond x (row ∷ []) []) f
one_counts query p row false c e f = ap (λ x. taken query (cond x (row ∷ []) [])) e

-- ---- one row

by_test : (query : Query) (p : Row → Bool) (row : Row) (b : Bool) → (p row && passes query.filter row) ≡ b → taken query (filter p (row ∷ [])) ≡ cond b (row ∷ []) []
by_test query p row b e = one_counts query p row (p row) (passes query.filter row) refl refl ∙ ap (λ x. cond x (row ∷ []) []) e

-- one that counts
pub counted : (query : Query) (p : Row → Bool) (row : Row) (a b : Grouped) → Fits query row → Adds row a b → (p row && passes query.filter row) ≡ true → AddsRows query (taken query (filter p (row ∷ []))) a b
counted query p row a b fits adds e = adds_same query (row ∷ []) (taken query (filter p (row ∷ []))) a b (sym (by_test query p row true e)) (row_adds query row a b fits adds)

-- one that doesn't
pub uncounted : (query : Query) (p : Row → Bool) (row : Row) (a : Grouped) → (p row && passes query.filter row) ≡ false → AddsRows query (taken query (filter p (row ∷ []))) a a
uncounted query p row a e = adds_same query [] (taken query (filter p (row ∷ []))) a a (sym (by_test query p row false e)) (adds_none query a)
