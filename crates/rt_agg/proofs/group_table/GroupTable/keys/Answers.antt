use Rattle.std.proofs.Common.{◌∙◌, ap, sym}
use Rattle.std.specs.Map.{keys_of}
use Rattle.rt_agg.specs.GroupTable.{Tabled}
use Rattle.rt_agg.proofs.Entries.{keys_are}
use Rattle.rt_agg.proofs.group_table.GroupTable.keys.Goals as goal

pub returns : goal.returns
returns c =
    let held = c.self.inside in
    sym (keys_are held.columns held.holders 0 held.keys) ∙ ap (λ (s : Tabled). keys_of s.entries) c.self.view_is
