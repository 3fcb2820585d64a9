use Rattle.std.proofs.Common.{◌≡◌, map}
use Rattle.std.specs.Prelude.{◌&&◌, nat_lt}
use Rattle.rt_seek.specs.RowSets.{truth_at}
use Rattle.rt_seek.proofs.file_column.rows_by_postings.Given as goal

-- the rows whose ids pass and come before this one
abbrev pub invariant-loop-id : goal.invariant-loop-id
invariant-loop-id l = l.set ≡ map (λ id. nat_lt id l.id && truth_at l.truths id) l.column.ids
