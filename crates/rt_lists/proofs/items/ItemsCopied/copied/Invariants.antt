use Rattle.std.proofs.Common.{◌≡◌, take}
use Rattle.rt_lists.proofs.items.ItemsCopied.copied.Given as goal

-- the copies are equal to the items so far
abbrev pub invariant-loop-item : goal.invariant-loop-item
invariant-loop-item g l = l.copies.items ≡ take l.item-index l.item-items
