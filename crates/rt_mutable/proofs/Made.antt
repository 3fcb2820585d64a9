-- A segment that holds no row yet.
use Rattle.std.proofs.Common.{◌≡◌, ℕ, ◌&&◌, true, List, [], ◌∷◌, length, map, All, refl, sym, ap, subst, ◌∙◌, arith, nat_le, leb-true}
use Rattle.std.specs.List.{AllByRecursion}
use Rattle.std.proofs.lemmas.Bool.{and_parts}
use Rattle.std.proofs.lemmas.List.{length-map}
use Rattle.std.proofs.lemmas.List.Elements.{All-nil, All-from_recursion}
use Rattle.rt_base.specs.declared.numbers.Offset.{Offset}
use Rattle.rt_schema.specs.declared.column.Column.{Column}
use Rattle.rt_schema.specs.declared.schema.Schema.{Schema}
use Rattle.rt_schema.specs.Schema.{IsSchema, are_named, are_distinct, names_of}
use Rattle.rt_mutable.specs.Consuming.{IsConsuming, IsNamed, IsBetween, IsShort, FitsColumns, shape_of, empty_segment}
use Rattle.rt_mutable.specs.Columns.{HoldRows, AreFull, segment_of, empty_column}

shapes_of : (indexed : List (List ℕ)) (columns : List Column) → map (λ column. column.shape) (map (empty_column indexed) columns) ≡ map (shape_of indexed) columns
shapes_of indexed [] = refl
shapes_of indexed (c ∷ columns) = ap (λ shapes. shape_of indexed c ∷ shapes) (shapes_of indexed columns)

names_kept : (indexed : List (List ℕ)) (columns : List Column) → map (λ shape. shape.name) (map (shape_of indexed) columns) ≡ names_of columns
names_kept indexed [] = refl
names_kept indexed (c ∷ columns) = ap (λ names. c.name ∷ names) (names_kept indexed columns)

named_by_recursion : (indexed : List (List ℕ)) (columns : List Column) → are_named columns ≡ true → AllByRecursion IsNamed (map (shape_of indexed) columns)
named_by_recursion indexed [] h = tt
named_by_recursion indexed (c ∷ columns) h =
    let both = and_parts (nat_le 1 (length c.name) && nat_le (length c.name) 128) (are_named columns) h in
    let first = and_parts (nat_le 1 (length c.name)) (nat_le (length c.name) 128) both.0 in
    ((leb-true 1 (length c.name) first.0, leb-true (length c.name) 128 first.1), named_by_recursion indexed columns both.1)

none_full : (indexed : List (List ℕ)) (columns : List Column) → AreFull 0 (map (empty_column indexed) columns)
none_full indexed [] = tt
none_full indexed (c ∷ columns) = (refl, none_full indexed columns)

empty_right : (schema : Schema) (start : Offset) (indexed : List (List ℕ)) → IsSchema schema → IsConsuming (empty_segment schema.columns start indexed)
empty_right schema start indexed s = record {
  few = (omega (arith, length-map schema.columns (shape_of indexed), s.few.0), omega (arith, length-map schema.columns (shape_of indexed), s.few.1));
  named = All-from_recursion IsNamed (map (shape_of indexed) schema.columns) (named_by_recursion indexed schema.columns s.named);
  distinct = ap are_distinct (names_kept indexed schema.columns) ∙ s.distinct;
  limited = omega arith;
  fit = All-nil (λ placed. FitsColumns (map (shape_of indexed) schema.columns) placed.row);
  short = All-nil (λ placed. All IsShort placed.row.values);
  between = All-nil (IsBetween start start);
  ascending = λ i j d lt within. absurd (omega (arith, within));
  ordered = omega arith;
}

pub empty_is : (columns : List Column) (start : Offset) (indexed : List (List ℕ)) → segment_of start start [] (map (empty_column indexed) columns) ≡ empty_segment columns start indexed
empty_is columns start indexed = (λ j. record { columns = shapes_of indexed columns j; start = start; rows = []; end = start })

pub empty_held : (schema : Schema) (start : Offset) (indexed : List (List ℕ)) → IsSchema schema → HoldRows start start [] (map (empty_column indexed) schema.columns)
empty_held schema start indexed s = record {
  full = none_full indexed schema.columns;
  right = subst IsConsuming (sym (empty_is schema.columns start indexed)) (empty_right schema start indexed s);
}
