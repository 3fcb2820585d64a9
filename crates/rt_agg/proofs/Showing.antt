-- What a table shows of a group.
use Rattle.std.proofs.Common.{◌≡◌, ℕ, List, [], ◌∷◌, drop, map, take, Some, refl, sym, ap, ◌∙◌, slice_get}
use Rattle.std.proofs.lemmas.List.{drop-map, take-map}
use Rattle.std.proofs.lemmas.Option.{get_or_from_slice_get}
use Rattle.std.specs.Map.{keys_of}
use Rattle.rt_schema.specs.declared.value.Value.{Value}
use Rattle.rt_model.specs.declared.query_parts.ColumnAt.{ColumnAt}
use Rattle.rt_model.specs.Aggregate.{Result}
use Rattle.rt_agg.specs.Accumulators.{cell_in}
use Rattle.rt_agg.specs.GroupTable.{Tabled, entries_from}
use Rattle.rt_agg.specs.Ranking.{ranked_at, result_at}
use Rattle.rt_agg.specs.ResultHolder.{cell_held, held_of}
use Rattle.rt_agg.specs.declared.result_holder.ResultHolder.{ResultHolder}
use Rattle.rt_agg.proofs.Entries.{entry_of, keys_are, known_by}
use Rattle.rt_agg.proofs.Tabling.{table_of}

module _ (columns : List ColumnAt) (width i : ℕ) (k : List Value) where
  cells_held : (hs : List ResultHolder) → map cell_in (map (held_of columns k i) hs) ≡ map (cell_held columns k i) hs
  cells_held [] = refl
  cells_held (h ∷ hs) = ap (λ t. cell_held columns k i h ∷ t) (cells_held hs)

  -- what holders give of a group
  abbrev pub given_by : List ResultHolder → Result
  given_by hs =
      record {
        key = k;
        order = map (cell_held columns k i) (drop width hs);
        row = record { cells = map (cell_held columns k i) (take width hs) };
      }

  held_result : (hs : List ResultHolder) → result_at width (k, known_by columns hs i k) ≡ given_by hs
  held_result hs =
      λ j. record {
        key = k;
        order = (ap (map cell_in) (drop-map (held_of columns k i) width hs) ∙ cells_held (drop width hs)) j;
        row = record { cells = (ap (map cell_in) (take-map (held_of columns k i) width hs) ∙ cells_held (take width hs)) j };
      }

  pub ranked_by : (hs : List ResultHolder) (ks : List (List Value)) (t : Tabled) → table_of columns hs ks ≡ t → slice_get (keys_of t.entries) i ≡ Some k → ranked_at width t.entries i ≡ given_by hs
  ranked_by hs ks t is at =
      let here : slice_get ks i ≡ Some k =
      ap (λ (ls : List (List Value)). slice_get ls i) (sym (keys_are columns hs 0 ks)) ∙ ap (λ (s : Tabled). slice_get (keys_of s.entries) i) is ∙ at in
      ap (λ (s : Tabled). ranked_at width s.entries i) (sym is)
      ∙ ap (result_at width) (get_or_from_slice_get (entries_from columns hs 0 ks) i (k, known_by columns hs i k) ([], []) (entry_of columns hs i ks k here))
      ∙ held_result hs
