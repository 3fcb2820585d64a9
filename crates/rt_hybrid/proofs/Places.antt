-- The place of the time column, as far as a walk over the columns has come.
use Rattle.std.proofs.Common.{◌≡◌, ℕ, zero, suc, ◌+◌, ◌<◌, ◌≤◌, Bool, true, false, cond, List, [], ◌∷◌, length, drop, get_or, Option, Some, None, option_map, refl, sym, ap, ◌∙◌, arith}
use Rattle.rt_schema.specs.declared.column.Column.{Column}
use Rattle.rt_schema.proofs.Lists.{drop_next}
use Rattle.rt_hybrid.specs.Table.{is_time_column, place_of}

abbrev from_place : ℕ → Option ℕ → Option ℕ
from_place place o = option_map (λ later. place + later) o

walked : (name : List ℕ) (columns : List Column) (i : ℕ) (column : Column) (place : ℕ) (b : Bool) → i < length columns → column ≡ get_or columns i column → is_time_column name column ≡ b
    → place_of name columns ≡ from_place place (place_of name (drop i columns))
    → place_of name columns ≡ from_place place (cond b (Some 0) (option_map suc (place_of name (drop (i + 1) columns))))
walked name columns i column place b within is test e =
    e ∙ ap (λ (cs : List Column). from_place place (place_of name cs)) (drop_next columns i column within is)
    ∙ ap (λ c. from_place place (cond c (Some 0) (option_map suc (place_of name (drop (i + 1) columns))))) test

pub place_here : (name : List ℕ) (columns : List Column) (i : ℕ) (column : Column) (place : ℕ) → i < length columns → column ≡ get_or columns i column → is_time_column name column ≡ true
    → place_of name columns ≡ from_place place (place_of name (drop i columns)) → Some place ≡ place_of name columns
place_here name columns i column place within is test e =
    let same : place ≡ place + 0 = omega arith in
    ap Some same ∙ sym (walked name columns i column place true within is test e)

later_place : (place : ℕ) (o : Option ℕ) → from_place place (option_map suc o) ≡ from_place (place + 1) o
later_place place None = refl
later_place place (Some n) = let same : place + suc n ≡ (place + 1) + n = omega arith in ap Some same

pub place_more : (name : List ℕ) (columns : List Column) (i : ℕ) (column : Column) (place : ℕ) → i < length columns → column ≡ get_or columns i column → is_time_column name column ≡ false
    → place_of name columns ≡ from_place place (place_of name (drop i columns)) → place_of name columns ≡ from_place (place + 1) (place_of name (drop (i + 1) columns))
place_more name columns i column place within is test e =
    walked name columns i column place false within is test e ∙ later_place place (place_of name (drop (i + 1) columns))

drop_end : (columns : List Column) (i : ℕ) → length columns ≤ i → drop i columns ≡ []
drop_end [] zero h = refl
drop_end [] (suc i) h = refl
drop_end (c ∷ columns) zero h = absurd (omega (arith, h))
drop_end (c ∷ columns) (suc i) h = drop_end columns i (omega (arith, h))

pub place_nowhere : (name : List ℕ) (columns : List Column) (i : ℕ) (place : ℕ) → length columns ≤ i → place_of name columns ≡ from_place place (place_of name (drop i columns)) → None ≡ place_of name columns
place_nowhere name columns i place h e = sym (e ∙ ap (λ (cs : List Column). from_place place (place_of name cs)) (drop_end columns i h))
