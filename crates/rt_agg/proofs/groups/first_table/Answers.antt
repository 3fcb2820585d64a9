use Rattle.std.proofs.Common.{sym, subst}
use Rattle.std.specs.List.{IsDistinct}
use Rattle.std.specs.Map.{keys_of}
use Rattle.rt_agg.specs.Grouped.{same_key}
use Rattle.rt_agg.proofs.Apart.{Entries, none_apart}
use Rattle.rt_agg.proofs.groups.first_table.Goals as goal

pub returns-else-is_empty-clause-apart : goal.returns-else-is_empty-clause-apart
returns-else-is_empty-clause-apart c =
    subst (λ (es : Entries). IsDistinct same_key (keys_of es)) (sym c.in_ok-table.ensures.none) none_apart
