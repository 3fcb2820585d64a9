use Rattle.std.proofs.Common.{◌≡◌, ◌<◌, ℕ, length, take, false, slice_index_or}
use Rattle.rt_segment.specs.Reading.{has_id}
use Rattle.rt_segment.proofs.ids_reader.mark.Given as goal

abbrev pub invariant-loop-id : goal.invariant-loop-id
invariant-loop-id l = (id : ℕ) → id < length l.used → slice_index_or l.used id false ≡ has_id id (take l.id-index l.ids)
