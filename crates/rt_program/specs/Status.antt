-- The status with which a program ends.
use Rattle.std.specs.Prelude.{ℕ, Result, Ok, Err}
use Rattle.rt_lines.specs.Fault.{status_of}
use Rattle.rt_lines.specs.declared.play_fault.PlayFault.{PlayFault}

-- 0, or that of the fault
abbrev pub status_by : {T : Type 0} → Result T PlayFault → ℕ
status_by (Ok ended) = 0
status_by (Err fault) = status_of fault
