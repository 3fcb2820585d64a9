use Rattle.std.proofs.Common.{◌≡◌, ◌++◌, option_map, drop}
use Rattle.serde_json.specs.View.{view}
use Rattle.rt_schema.specs.Json.{map_all}
use Rattle.rt_schema.specs.Field.{field_of}
use Rattle.rt_schema.proofs.field_reader.add_fields.Given as goal

abbrev pub invariant-loop-item : goal.invariant-loop-item
invariant-loop-item l = option_map (λ later. l.fn.fields ++ later) (map_all (λ item. field_of l.role (view item)) l.items) ≡ option_map (λ later. l.fields ++ later) (map_all (λ item. field_of l.role (view item)) (drop l.item-index l.items))
