-- The numbers by which refusals of hybrid tables are reported.
use Rattle.std.specs.Prelude.{ℕ, Option, Some, None}
use Rattle.rt_hybrid.specs.declared.hybrid_refused.HybridRefused.{HybridRefused}
use Rattle.rt_hybrid.specs.declared.hybrid_refused.HybridRefused.TheVariants.{NoTime, NotRows, Memory}

abbrev pub number_of : HybridRefused → Option ℕ
number_of NoTime = Some 1
number_of NotRows = Some 2
number_of Memory = None
