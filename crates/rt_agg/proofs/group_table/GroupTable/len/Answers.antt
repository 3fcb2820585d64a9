use Rattle.std.proofs.Common.{◌∙◌, ap, length, sym, subst}
use Rattle.std.specs.List.{IsDistinct}
use Rattle.std.specs.Map.{keys_of}
use Rattle.rt_agg.specs.Grouped.{same_key}
use Rattle.rt_agg.specs.GroupTable.{Tabled}
use Rattle.rt_agg.proofs.Entries.{entries_long, keys_are}
use Rattle.rt_agg.proofs.group_table.GroupTable.len.Goals as goal

pub returns-clause-len : goal.returns-clause-len
returns-clause-len c =
    let held = c.self.inside in
    c.len.ensures.len ∙ sym (entries_long held.columns held.holders 0 held.keys) ∙ ap (λ (s : Tabled). length s.entries) c.self.view_is

pub returns-clause-apart : goal.returns-clause-apart
returns-clause-apart c =
    let held = c.self.inside in
    subst (λ (s : Tabled). IsDistinct same_key (keys_of s.entries)) c.self.view_is
    (subst (IsDistinct same_key) (sym (keys_are held.columns held.holders 0 held.keys)) c.self.invariant.apart)
