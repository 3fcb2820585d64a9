-- An answer that tells more than that memory ran out.
use Rattle.std.specs.Prelude.{Result, Ok, Err}
use Rattle.rt_entry.specs.declared.refused.ServerRefused.{ServerRefused}
use Rattle.rt_entry.specs.declared.refused.ServerRefused.TheVariants.{NotDue, StoreFault, BadFile, Memory}

abbrev pub IsNamed : {X : Type 0} → Result X ServerRefused → Type 0
IsNamed (Ok x) = Unit {0}
IsNamed (Err NotDue) = Unit {0}
IsNamed (Err StoreFault) = Unit {0}
IsNamed (Err (BadFile wanted found)) = Unit {0}
IsNamed (Err Memory) = ⊥
