use Rattle.std.specs.Prelude.{ℕ, List, ◌++◌, codes, decimal}
use Rattle.rt_base.specs.Which.{name_of}
use Rattle.rt_lines.specs.declared.line_reason.LineReason.{LineReason}
use Rattle.rt_lines.specs.declared.line_reason.LineReason.TheVariants.{BadLine, Schema, Table, Query, NoSuchMessage, NoSuchNode, NodeDown, NothingToDo, Upsert}
use Rattle.rt_lines.specs.declared.play_fault.PlayFault.{PlayFault}
use Rattle.rt_lines.specs.declared.play_fault.PlayFault.TheVariants.{Usage, Refused, ReadFault, WriteFault, Memory, Limit}

-- a reason as a refusal prints it
abbrev pub reason_text : LineReason → List ℕ
reason_text BadLine = codes "BadLine"
reason_text (Schema number) = codes "schema " ++ decimal number
reason_text (Table number) = codes "table " ++ decimal number
reason_text (Query number) = codes "query " ++ decimal number
reason_text NoSuchMessage = codes "NoSuchMessage"
reason_text NoSuchNode = codes "NoSuchNode"
reason_text NodeDown = codes "NodeDown"
reason_text NothingToDo = codes "NothingToDo"
reason_text (Upsert number) = codes "upsert " ++ decimal number

-- a refusal, by its line's number and its reason
abbrev pub refused_text : ℕ → List ℕ → List ℕ
refused_text line reason = codes "line " ++ (decimal line ++ (codes ": " ++ reason))

-- the line that a fault prints on standard error, of a program with this usage
abbrev pub fault_text : List ℕ → PlayFault → List ℕ
fault_text usage Usage = usage
fault_text usage (Refused line reason) = refused_text line (reason_text reason)
fault_text usage ReadFault = codes "read failed"
fault_text usage WriteFault = codes "write failed"
fault_text usage Memory = codes "out of memory"
fault_text usage (Limit which) = codes "limit: " ++ name_of which

-- the status with which a program ends at a fault
abbrev pub status_of : PlayFault → ℕ
status_of Usage = 2
status_of (Refused line reason) = 3
status_of ReadFault = 4
status_of WriteFault = 5
status_of Memory = 6
status_of (Limit which) = 7
