-- A message more of a consuming segment.
use Rattle.std.proofs.Common.{◌≡◌, ◌<◌, List, [], ◌∷◌, ◌++◌, length, map, take, drop, append-nil, All, Some, refl, sym, ap, subst, ◌∙◌, arith}
use Rattle.std.proofs.lemmas.List.{length_push, length-map, drop_all, take_all}
use Rattle.std.proofs.lemmas.List.Elements.{All-push, All-weaker, All-get_or}
use Rattle.std.proofs.lemmas.List.Quantifiers.{all_pairs_push}
use Rattle.rt_base.specs.declared.numbers.Offset.{Offset}
use Rattle.rt_schema.specs.declared.row.Row.{Row}
use Rattle.rt_schema.specs.Value.{kind_of}
use Rattle.rt_mutable.specs.Column.{Filled}
use Rattle.rt_mutable.specs.Consuming.{Placed, Consuming, IsConsuming, IsBetween, IsShort, FitsColumns, after_message, next}
use Rattle.rt_mutable.specs.Columns.{HoldRows, AreFull, segment_of, with_values}
use Rattle.rt_mutable.proofs.Rows.{rows_more, full_more, shapes_kept, length_rows}

between_more : (start end : Offset) (rows : List Placed) → All (IsBetween start end) rows → All (IsBetween start (next end)) rows
between_more start end rows h = All-weaker (IsBetween start end) (IsBetween start (next end)) (λ placed b. (b.0, omega (arith, b.1))) rows h

pub consuming_row : (s : Consuming) (row : Row) → IsConsuming s → length s.rows < 1000000 → FitsColumns s.columns row → All IsShort row.values → IsConsuming (after_message s (Some row))
consuming_row s row h room fits short =
    let placed : Placed = record { offset = s.end; row = row } in
    record {
      few = h.few;
      named = h.named;
      distinct = h.distinct;
      limited = omega (arith, length_push s.rows placed);
      fit = All-push (λ p. FitsColumns s.columns p.row) s.rows placed h.fit fits;
      short = All-push (λ p. All IsShort p.row.values) s.rows placed h.short short;
      between = All-push (IsBetween s.start (next s.end)) s.rows placed (between_more s.start s.end s.rows h.between) (h.ordered, omega arith);
      ascending = all_pairs_push (λ a b. a.offset.0 < b.offset.0) s.rows placed h.ascending
          (λ k d lt. (All-get_or (IsBetween s.start s.end) s.rows k d lt h.between).1);
      ordered = omega (arith, h.ordered);
    }

same_length : (columns : List Filled) (row : Row) → FitsColumns (map (λ column. column.shape) columns) row → length columns ≡ length row.values
same_length columns row fits = omega (
  arith,
  ap length fits,
  length-map row.values kind_of,
  length-map (map (λ column. column.shape) columns) (λ shape. shape.kind),
  length-map columns (λ column. column.shape),
)

-- what the columns hold is the segment after the message
pub segment_row : (start end : Offset) (offsets : List Offset) (columns : List Filled) (row : Row) → AreFull (length offsets) columns → FitsColumns (map (λ column. column.shape) columns) row → segment_of start (next end) (offsets ++ end ∷ []) (with_values columns row.values) ≡ after_message (segment_of start end offsets columns) (Some row)
segment_row start end offsets columns row full fits =
    let rows = rows_more 0 (length offsets) columns offsets row.values end full (same_length columns row fits) (omega arith) in
    (λ j. record { columns = shapes_kept columns row.values j; start = start; rows = rows j; end = next end })

pub hold_row : (start end : Offset) (offsets : List Offset) (columns : List Filled) (row : Row) → HoldRows start end offsets columns → length offsets < 1000000 → FitsColumns (map (λ column. column.shape) columns) row → All IsShort row.values → HoldRows start (next end) (offsets ++ end ∷ []) (with_values columns row.values)
hold_row start end offsets columns row h room fits short =
    record {
      full = subst (λ n. AreFull n (with_values columns row.values)) (sym (length_push offsets end)) (full_more (length offsets) columns row.values h.full (same_length columns row fits));
      right = subst IsConsuming (sym (segment_row start end offsets columns row h.full fits))
          (consuming_row (segment_of start end offsets columns) row h.right (omega (arith, length_rows 0 columns offsets)) fits short);
    }

-- the kinds of the columns
pub kinds_of : (columns : List Filled) → map (λ shape. shape.kind) (map (λ column. column.shape) columns) ≡ map (λ column. column.shape.kind) columns
kinds_of [] = refl
kinds_of (c ∷ columns) = ap (λ kinds. c.shape.kind ∷ kinds) (kinds_of columns)

-- columns that were lent whole come back whole
pub back_whole : (columns now : List Filled) → length now ≡ length columns → take (length columns) (now ++ drop (length now) columns) ≡ now
back_whole columns now same =
    ap (λ rest. take (length columns) (now ++ rest)) (drop_all (length now) columns (omega (arith, same)))
    ∙ ap (take (length columns)) (append-nil now)
    ∙ take_all (length columns) now (omega (arith, same))
