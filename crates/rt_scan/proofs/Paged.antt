-- Rows that are listed on a page before they are added.
use Rattle.std.proofs.Common.{◌≡◌, ℕ, ◌+◌, ◌<◌, List, [], ◌∷◌, ◌++◌, length, Some, slice_get, sym, ap, subst, ◌∙◌, arith, length-append}
use Rattle.std.specs.List.{AllByRecursion}
use Rattle.std.proofs.lemmas.List.{append_assoc, append-nil, map-append}
use Rattle.rt_schema.specs.declared.row.Row.{Row}
use Rattle.rt_model.specs.Aggregate.{key_of}
use Rattle.rt_model.specs.declared.query.Query.{Query}
use Rattle.rt_agg.specs.declared.placed_row.PlacedRow.{PlacedRow}
use Rattle.rt_agg.specs.Grouped.{AddsPage, Awaits, AwaitsOne, Fits, Grouped, Holds, IsPlaced, keys_in_order}
use Rattle.rt_agg.specs.Paging.{rows_on}
use Rattle.rt_agg.proofs.Appends.{both_fit}
use Rattle.rt_agg.proofs.Awaiting.{awaits_none}
use Rattle.rt_scan.specs.Grouping.{HoldsOrAwaits, KeysStay}

module _ (query : Query) (row_of : ℕ → Row) where
  placed_still : (old new : Grouped) → KeysStay old new → (page : List PlacedRow) → AllByRecursion (IsPlaced query.groups row_of old) page → AllByRecursion (IsPlaced query.groups row_of new) page
  placed_still old new stay [] placed = tt
  placed_still old new stay (p ∷ page) placed = (stay p.group (key_of query.groups (row_of p.row)) placed.0, placed_still old new stay page placed.1)

  -- before the first row
  pub none_listed : (g : Grouped) → Holds query [] g → HoldsOrAwaits query row_of [] [] g
  none_listed g holds = record { before = []; waits = awaits_none query [] g holds; all = append-nil []; placed = tt }

  module _ (rows : List Row) (page : List PlacedRow) (old new : Grouped) (listed : HoldsOrAwaits query row_of rows page old) where
    -- one more row is listed
    pub one_listed : (placed : PlacedRow) (now : List PlacedRow) → AwaitsOne (key_of query.groups (row_of placed.row)) old new → KeysStay old new
        → slice_get (keys_in_order new) placed.group ≡ Some (key_of query.groups (row_of placed.row)) → Fits query (row_of placed.row)
        → length rows + 1 < 9223372036854775808 → now ≡ page ++ placed ∷ [] → HoldsOrAwaits query row_of (rows ++ row_of placed.row ∷ []) now new
    one_listed placed now awaits stay at fits few pushed =
        let row = row_of placed.row in
        let front : rows_on row_of now ≡ rows_on row_of page ++ row ∷ [] = ap (rows_on row_of) pushed ∙ map-append (λ (p : PlacedRow). row_of p.row) page (placed ∷ []) in
        record {
          before = listed.before;
          waits = subst (λ rs. Awaits query listed.before rs new) (sym front)
              (awaits query listed.before (rows_on row_of page) row listed.waits (λ j. key_of query.groups row) fits
              (omega (arith, few, ap length listed.all, length-append listed.before (rows_on row_of page))));
          all = ap (λ rs. listed.before ++ rs) front ∙ sym (append_assoc listed.before (rows_on row_of page) (row ∷ [])) ∙ ap (λ rs. rs ++ row ∷ []) listed.all;
          placed = subst (AllByRecursion (IsPlaced query.groups row_of new)) (sym pushed)
              (both_fit (IsPlaced query.groups row_of new) page (placed ∷ []) (placed_still old new stay page listed.placed) (at, tt));
        }

    -- the page is added
    pub page_held : AddsPage row_of page old new → Holds query rows new
    page_held adds = subst (λ rs. Holds query rs new) listed.all (adds query listed.before listed.waits listed.placed)

    pub page_turned : AddsPage row_of page old new → HoldsOrAwaits query row_of rows [] new
    page_turned adds = record { before = rows; waits = awaits_none query rows new (page_held adds); all = append-nil rows; placed = tt }
