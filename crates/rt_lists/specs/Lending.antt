-- What a list lends of itself: one item, or all of them.
use Rattle.std.specs.Prelude.{ℕ, List, ◌++◌, length, take, drop, slice_set}
use Rattle.std.specs.Borrow.{Lends, MutBor, Fml, Array}
use Rattle.rt_lists.specs.contracts.items.Items.{the_row}
use denote.RattleType.{RattleType}

module _ (T : RattleType) where
  -- the item at a place, which is written back there
  abbrev pub LendsItem : MutBor (List T.Denot) → ℕ → MutBor T.Denot → Fml
  LendsItem s i r = Lends (the_row T) T s r (slice_set s.now i)

  -- all items, of which as many as there were are written back
  abbrev pub LendsAll : MutBor (List T.Denot) → MutBor (List T.Denot) → Fml
  LendsAll s r =
      Lends (the_row T) (Array T 0) s r (λ w. take (length s.now) (w ++ drop (length w) s.now))
