-- The committed ranges of a partition.
use Rattle.std.specs.Prelude.{◌≡◌, ℕ, zero, suc, ◌-◌, ◌<◌, List, [], ◌∷◌, ◌++◌, Option, Some, None}
use Rattle.std.specs.List.{filter_map, flat_map, range_with_len}
use Rattle.rt_base.specs.declared.numbers.Partition.{Partition}
use Rattle.rt_base.specs.declared.numbers.Offset.{Offset}
use Rattle.rt_base.specs.declared.range.Range.{Range}
use Rattle.rt_model.specs.declared.node.Node.{Node}
use Rattle.rt_model.specs.declared.node.Node.TheVariants as node
use Rattle.rt_model.specs.declared.node.Seen.{Seen}
use Rattle.rt_model.specs.declared.status.Status.{Status}
use Rattle.rt_model.specs.declared.status.Status.TheVariants.{InProgress, Done, Abandoned}
use Rattle.rt_model.specs.Metadata.{life_of, sequences_of, metadata_of}
use Rattle.rt_model.specs.Chain.{start_in, deletions_of}

-- the range of a Done segment
abbrev pub range_by : Offset → Status → Option Range
range_by start InProgress = None
range_by start (Done commit) = Some (record { start = start; end = commit.end })
range_by start Abandoned = None

abbrev pub done_range : Node → Option Range
done_range (node.Meta m) = range_by m.start m.status
done_range (node.Ideal i) = None
done_range node.Boot = None
done_range node.Gone = None

-- the ranges of the Done writes among some writes
abbrev pub done_ranges_in : List Seen → List Range
done_ranges_in ws = filter_map (λ w. done_range w.node) ws

-- the ranges of all Done writes of the segments below a sequence, by sequence
abbrev pub done_ranges_below : List Seen → Partition → ℕ → List Range
done_ranges_below h p zero = []
done_ranges_below h p (suc s) = done_ranges_below h p s ++ done_ranges_in (life_of h p s)

-- the ranges of all Done writes of a partition, by sequence
abbrev pub done_ranges_of : List Seen → Partition → List Range
done_ranges_of h p = done_ranges_below h p (sequences_of h p)

-- the committed ranges of a partition: those of its present Done nodes, by sequence
abbrev pub committed_of : List Seen → Partition → List Range
committed_of h p = filter_map (λ l. range_by l.seen.meta.start l.seen.meta.status) (metadata_of h p)

-- the mark of a partition: the start of its lowest node that was not deleted
abbrev pub mark_of : List Seen → Partition → ℕ
mark_of h p = start_in (life_of h p (deletions_of h p))

-- ranges tile the offsets from one up to another: each has an offset and starts where the one before ended
abbrev pub Tiles : ℕ → List Range → ℕ → Type 0
Tiles from [] to = to ≡ from
Tiles from (r ∷ rs) to = (r.start.0 ≡ from) × (from < r.end.0) × Tiles r.end.0 rs to

-- the offsets of some ranges, in order
abbrev pub offsets_of : List Range → List ℕ
offsets_of rs = flat_map (λ r. range_with_len r.start.0 (r.end.0 - r.start.0)) rs

-- all Done ranges of a partition tile the offsets from 0 up to `end`; the committed ranges are the suffix
-- from the mark on
pub record IsTiledTo (h : List Seen) (p : Partition) (end : ℕ) : Type 0 where
  pub retired : List Range
  pub all : Tiles 0 (done_ranges_of h p) end
  pub suffix : done_ranges_of h p ≡ retired ++ committed_of h p
  pub below_mark : Tiles 0 retired (mark_of h p)
  pub from_mark : Tiles (mark_of h p) (committed_of h p) end

abbrev pub IsTiled : List Seen → Partition → Type 0
IsTiled h p = (end : ℕ) × IsTiledTo h p end
