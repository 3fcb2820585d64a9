use Rattle.std.proofs.Common.{◌≡◌, ◌++◌, option_map, drop}
use Rattle.serde_json.specs.Find.{as_str}
use Rattle.serde_json.specs.View.{view}
use Rattle.rt_schema.specs.Json.{map_all}
use Rattle.rt_upconf.proofs.object.texts_of.Given as goal

abbrev pub invariant-loop-item : goal.invariant-loop-item
invariant-loop-item l = map_all (λ item. as_str (view item)) l.items ≡ option_map (λ later. l.texts ++ later) (map_all (λ item. as_str (view item)) (drop l.item-index l.items))
