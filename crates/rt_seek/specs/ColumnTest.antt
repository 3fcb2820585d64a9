-- Which values pass a test on a column.
use Rattle.std.specs.Prelude.{Bool, not}
use Rattle.rt_schema.specs.declared.value.Value.{Value}
use Rattle.rt_model.specs.Match.{compares, lies_between, is_one_of}
use Rattle.rt_seek.specs.declared.column_test.ColumnTest.{ColumnTest}
use Rattle.rt_seek.specs.declared.column_test.ColumnTest.TheVariants.{Compare, Between, OneOf, NoneOf}

abbrev pub passes_test : ColumnTest → Value → Bool
passes_test (Compare comparison l) v = compares comparison v l.now
passes_test (Between low high) v = lies_between v low.now high.now
passes_test (OneOf ls) v = is_one_of v ls.now
passes_test (NoneOf ls) v = not (is_one_of v ls.now)
