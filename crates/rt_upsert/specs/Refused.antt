-- The numbers by which refusals of rows are reported.
use Rattle.std.specs.Prelude.{ℕ, Option, Some, None}
use Rattle.rt_upsert.specs.declared.add_refused.AddRefused.{AddRefused}
use Rattle.rt_upsert.specs.declared.add_refused.AddRefused.TheVariants.{Taken, Memory}

abbrev pub number_of : AddRefused → Option ℕ
number_of (Taken place) = Some 1
number_of Memory = None
