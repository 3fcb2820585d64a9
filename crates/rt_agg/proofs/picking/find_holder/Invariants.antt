use Rattle.rt_agg.proofs.Untold.{AreOthers}
use Rattle.rt_agg.proofs.picking.find_holder.Given as goal

-- no holder so far is for the item
abbrev pub invariant-loop-place : goal.invariant-loop-place
invariant-loop-place l = AreOthers l.holders l.item l.places l.place-index
