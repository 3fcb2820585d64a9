-- A consuming segment that is made over a schema has its columns.
use Rattle.std.proofs.Common.{◌≡◌, ℕ, List, [], ◌∷◌, map, All, IsTrue, refl, ap}
use Rattle.rt_lists.specs.Names.{is_among}
use Rattle.rt_schema.specs.declared.column.Column.{Column}
use Rattle.rt_mutable.specs.Column.{Shape}
use Rattle.rt_mutable.specs.Consuming.{shape_of}

pub names_kept : (indexed : List (List ℕ)) (columns : List Column) →
    map (λ (shape : Shape). shape.name) (map (shape_of indexed) columns) ≡ map (λ (column : Column). column.name) columns
names_kept indexed [] = refl
names_kept indexed (c ∷ columns) = ap (λ names. c.name ∷ names) (names_kept indexed columns)

pub kinds_kept : (indexed : List (List ℕ)) (columns : List Column) →
    map (λ (shape : Shape). shape.kind) (map (shape_of indexed) columns) ≡ map (λ (column : Column). column.kind) columns
kinds_kept indexed [] = refl
kinds_kept indexed (c ∷ columns) = ap (λ kinds. c.kind ∷ kinds) (kinds_kept indexed columns)

-- names of a schema's columns are names of a segment's, where these are the same
pub among_columns : (names given wanted : List (List ℕ)) → wanted ≡ given →
    All (λ name. IsTrue (is_among name given)) names → All (λ name. IsTrue (is_among name wanted)) names
among_columns names given wanted same known = rw same known
