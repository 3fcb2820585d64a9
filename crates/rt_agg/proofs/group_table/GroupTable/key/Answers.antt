use Rattle.std.proofs.Common.{◌∙◌, List, arith, ap, length, slice_get, sym}
use Rattle.std.specs.Map.{keys_of}
use Rattle.rt_schema.specs.declared.value.Value.{Value}
use Rattle.rt_agg.specs.GroupTable.{Tabled}
use Rattle.rt_agg.proofs.Entries.{entries_long, keys_are}
use Rattle.rt_agg.proofs.group_table.GroupTable.key.Goals as goal

pub get-requires : goal.get-requires
get-requires c =
    let held = c.self.inside in
    omega (arith, entries_long held.columns held.holders 0 held.keys, ap (λ (s : Tabled). length s.entries) c.self.view_is, c.requires)

pub returns : goal.returns
returns c =
    let held = c.self.inside in
    ap (λ (s : Tabled). slice_get (keys_of s.entries) c.args.group) (sym c.self.view_is)
    ∙ ap (λ (ks : List (List Value)). slice_get ks c.args.group) (keys_are held.columns held.holders 0 held.keys) ∙ c.get.ensures
