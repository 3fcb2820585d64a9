-- What was found, its ranges merged one by one in order, is merged.
use Rattle.std.proofs.Common.{◌≡◌, ◌≤◌, ℕ, List, [], drop, length, map, sym, ap, ◌∙◌}
use Rattle.rt_base.specs.declared.range.Range.{Range}
use Rattle.rt_model.specs.RightAnswer.{merged, served_ranges}
use Rattle.rt_broker.specs.Merging.{pushed_all}
use Rattle.rt_broker.proofs.Gaining.{drop_end}
use Rattle.rt_broker.proofs.Merging.{merged_in_order}
use Rattle.rt_views.specs.Views.{asked_of}
use Rattle.rt_views.specs.declared.found.Found.{Found}

-- what was merged once all pieces were looked at
pub merged_end : (found : List Found) (i : ℕ) (ranges : List Range) → length found ≤ i
    → pushed_all ranges (served_ranges (map asked_of (drop i found))) ≡ pushed_all [] (served_ranges (map asked_of found))
    → ranges ≡ merged (served_ranges (map asked_of found))
merged_end found i ranges past all =
    sym (ap (λ (xs : List Found). pushed_all ranges (served_ranges (map asked_of xs))) (drop_end found i past))
    ∙ all ∙ merged_in_order (served_ranges (map asked_of found))
