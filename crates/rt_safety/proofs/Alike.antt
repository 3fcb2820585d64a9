-- What the same groups hold is answered alike, however their rows are put together.
use Rattle.std.proofs.Common.{◌≡◌, ◌+◌, Bool, true, false, ◌||◌, List, [], ◌∷◌, ◌++◌, length, map, take, Option, Some, None, refl, sym, ap, ◌∙◌, arith, length-append}
use Rattle.std.specs.Prelude.{if◌then◌else◌, is_some}
use Rattle.std.proofs.lemmas.List.Folds.{list_any-append}
use Rattle.rt_agg.specs.Grouped.{Grouped, Holds, known_at, makes_group}
use Rattle.rt_agg.specs.Ranking.{result_at}
use Rattle.rt_agg.specs.Accumulator.{Accumulator}
use Rattle.rt_agg.specs.declared.served.Served.{Served}
use Rattle.rt_agg.proofs.Holding.{both, holds_merged}
use Rattle.rt_agg.proofs.Results.{finishes_first}
use Rattle.rt_base.specs.declared.numbers.Partition.{Partition}
use Rattle.rt_broker.specs.Answering.{AreFew, AreHeld, rows_held, RowsOf}
use Rattle.rt_model.specs.Aggregate.{has_key, ordered, result_rows}
use Rattle.rt_model.specs.declared.answer.ResultRow.{ResultRow}
use Rattle.rt_model.specs.declared.query.Query.{Query}
use Rattle.rt_model.specs.declared.query_parts.ColumnAt.{ColumnAt}
use Rattle.rt_safety.proofs.Grouping.{Key, grouped, grouped_apart, grouped_known, groups_of_none}
use Rattle.rt_schema.specs.declared.row.Row.{Row}

-- ---- groups of what two groups hold

both_make : (columns : List ColumnAt) (a b : List Row) (key : Key) → makes_group columns (a ++ b) key ≡ (makes_group columns a key || makes_group columns b key)
both_make [] a b key = twice (makes_group [] a key)
  where
    twice : (m : Bool) → m ≡ (m || m)
    twice true = refl
    twice false = refl
both_make (c ∷ cs) a b key = list_any-append (has_key (c ∷ cs) key) a b

made : (b : Bool) (x : List Accumulator) → is_some (if b then Some x else None) ≡ b
made true x = refl
made false x = refl

abbrev known_or : Option (List Accumulator) → List Accumulator
known_or None = []
known_or (Some x) = x

either : (a b : Option (List Accumulator)) → (if is_some a || is_some b then Some (known_or (both a b)) else None) ≡ both a b
either None None = refl
either None (Some y) = refl
either (Some x) None = refl
either (Some x) (Some y) = refl

module _ (query : Query) where
  -- groups make a group of a key that their rows make one of
  held_makes : (rows : List Row) (g : Grouped) → Holds query rows g → (key : Key) → is_some (known_at g key) ≡ makes_group query.groups rows key
  held_makes rows g h key = ap is_some (h.known key) ∙ made (makes_group query.groups rows key) _

  abbrev merged : List Row → Grouped → Grouped → Grouped
  merged rows g other = grouped query rows (λ key. known_or (both (known_at g key) (known_at other key)))

  merged_known : (a b : List Row) (g other : Grouped) → Holds query a g → Holds query b other → (key : Key)
      → known_at (merged (a ++ b) g other) key ≡ both (known_at g key) (known_at other key)
  merged_known a b g other h k key =
      let known = both (known_at g key) (known_at other key) in
      grouped_known query (a ++ b) (λ q. known_or (both (known_at g q) (known_at other q))) key
      ∙ (λ j. if both_make query.groups a b key j then Some (known_or known) else None)
      ∙ sym (λ j. if held_makes a g h key j || held_makes b other k key j then Some (known_or known) else None)
      ∙ either (known_at g key) (known_at other key)

  -- ---- groups that hold the one and the other

  record HoldBoth (a b : List Row) : Type 0 where
    groups : Grouped
    one : Holds query a groups
    other : Holds query b groups

  both_hold : (a b : List Row) (g : Grouped) → Holds query a g → Holds query b g → (c d : List Row) → HoldBoth c d → AreFew (a ++ c) → AreFew (b ++ d) → HoldBoth (a ++ c) (b ++ d)
  both_hold a b g h k c d rest few also =
      let new = merged (a ++ c) g rest.groups in
      let apart = grouped_apart query (a ++ c) (λ key. known_or (both (known_at g key) (known_at rest.groups key))) in
      let known = merged_known a c g rest.groups h rest.one in
      record {
        groups = new;
        one = holds_merged query a c g rest.groups new h rest.one (omega (arith, few, length-append a c)) (sym h.columns) (sym h.items) (sym h.order) (sym h.limit) apart known;
        other = holds_merged query b d g rest.groups new k rest.other (omega (arith, also, length-append b d)) (sym k.columns) (sym k.items) (sym k.order) (sym k.limit) apart known;
      }

  all_hold : (rows others : RowsOf) (ss : List (Partition × Served)) → AreHeld query rows ss → AreHeld query others ss → AreFew (rows_held rows ss) → AreFew (rows_held others ss)
      → HoldBoth (rows_held rows ss) (rows_held others ss)
  all_hold rows others [] h k few also = let none = groups_of_none query in record { groups = none.0; one = none.1; other = none.1 }
  all_hold rows others (s ∷ ss) h k few also =
      both_hold (rows s) (others s) s.1.groups h.0 k.0 (rows_held rows ss) (rows_held others ss)
      (all_hold rows others ss h.1 k.1 (omega (arith, few, length-append (rows s) (rows_held rows ss))) (omega (arith, also, length-append (others s) (rows_held others ss))))
      few also

  pub alike_answered : (rows others : RowsOf) (ss : List (Partition × Served)) → AreHeld query rows ss → AreHeld query others ss → AreFew (rows_held rows ss) → AreFew (rows_held others ss)
      → result_rows query (rows_held rows ss) ≡ result_rows query (rows_held others ss)
  alike_answered rows others ss h k few also =
      let held = all_hold rows others ss h k few also in
      let g = held.groups in
      let result : List ResultRow = map (λ r. r.row) (take g.limit (ordered g.order (map (result_at (length g.items)) g.groups))) in
      let finishes = finishes_first g result refl query in
      sym (finishes (rows_held rows ss) held.one) ∙ finishes (rows_held others ss) held.other
