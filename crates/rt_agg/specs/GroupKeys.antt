-- The keys of groups, as they are kept.
use Rattle.std.specs.Prelude.{List}
use Rattle.rt_schema.specs.declared.value.Value.{Value}
use Rattle.rt_agg.specs.declared.group_keys.Kept.{Kept}
use Rattle.rt_agg.specs.declared.group_keys.Kept.TheVariants.{Indexed, Listed}

abbrev pub keys_in : Kept → List (List Value)
keys_in (Listed keys) = keys
keys_in (Indexed keys) = keys.keys
