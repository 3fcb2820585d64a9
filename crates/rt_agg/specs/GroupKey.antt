-- The key of a group, as it is kept.
use Rattle.std.specs.Prelude.{Bool, List, [], ◌∷◌}
use Rattle.std.specs.Cmp.{IsEquivalence}
use Rattle.std.specs.Cmp.Lexicographic.{lists_equiv, pointwise}
use Rattle.rt_schema.specs.declared.value.Value.{Value}
use Rattle.rt_schema.specs.declared.value.Value.TheVariants as value
use Rattle.rt_schema.specs.contracts.value.ValueEq.TheImpl.Laws.{laws-law}
use Rattle.rt_schema.specs.contracts.value.ValuePartialEq.TheImpl as impl
use Rattle.rt_agg.specs.declared.group_key.Inside.{Inside}
use Rattle.rt_agg.specs.declared.group_key.Inside.TheVariants.{One, Several, Short}

abbrev pub values_in : Inside → List Value
values_in (Short text) = value.Text text.bytes ∷ []
values_in (One value) = value ∷ []
values_in (Several values) = values

-- whether two values are equal
abbrev pub same_value : Value → Value → Bool
same_value = impl.eq-value.it

-- keys are equal where their values are
pub keys_equal : IsEquivalence (pointwise same_value)
keys_equal = lists_equiv laws-law
