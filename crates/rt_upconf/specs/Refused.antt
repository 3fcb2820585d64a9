-- The numbers by which refusals of upsert settings are reported.
use Rattle.std.specs.Prelude.{ℕ, Option, Some, None}
use Rattle.rt_upconf.specs.declared.upsert_refused.UpsertRefused.{UpsertRefused}
use Rattle.rt_upconf.specs.declared.upsert_refused.UpsertRefused.TheVariants.{NotObject, Mode, NoKeys, Comparison, NoColumn, WrongType, Memory}

abbrev pub number_of : UpsertRefused → Option ℕ
number_of NotObject = Some 1
number_of Mode = Some 2
number_of NoKeys = Some 3
number_of Comparison = Some 4
number_of NoColumn = Some 5
number_of WrongType = Some 6
number_of Memory = None
