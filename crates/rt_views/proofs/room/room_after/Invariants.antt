use Rattle.std.proofs.Common.{◌+◌, ◌≤◌, length, take}
use Rattle.rt_schema.specs.declared.schema.Schema.{Schema}
use Rattle.rt_views.specs.Views.{rows_found}
use Rattle.rt_views.proofs.room.room_after.Given as goal

abbrev pub invariant-loop-piece : goal.invariant-loop-piece
invariant-loop-piece l = (schema : Schema) → length (rows_found schema (take l.piece-index l.found)) + l.left ≤ l.room
