use Rattle.std.proofs.Common.{take}
use Rattle.rt_schema.specs.Plain.{ArePlain}
use Rattle.rt_schema.proofs.plain_reader.read_columns.Given as goal

-- the members of the columns so far have their values
abbrev pub invariant-loop-place : goal.invariant-loop-place
invariant-loop-place l = ArePlain (take l.place l.columns) l.text l.values l.rest
