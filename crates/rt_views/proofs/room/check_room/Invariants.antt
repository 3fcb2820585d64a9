use Rattle.std.proofs.Common.{◌+◌, ◌≤◌, length, take}
use Rattle.rt_schema.specs.declared.schema.Schema.{Schema}
use Rattle.rt_views.specs.Views.{rows_viewed}
use Rattle.rt_views.proofs.room.check_room.Given as goal

abbrev pub invariant-loop-view : goal.invariant-loop-view
invariant-loop-view l = (schema : Schema) → length (rows_viewed schema (take l.view-index l.views)) + l.room ≤ 4611686018427387904
