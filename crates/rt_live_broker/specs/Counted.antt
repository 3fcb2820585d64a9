-- One message more of a partition.
use Rattle.std.specs.Prelude.{◌+◌, List, slice_index_or, slice_set}
use Rattle.rt_base.specs.declared.numbers.Offset.{Offset}
use Rattle.rt_base.specs.declared.numbers.Partition.{Partition}
use Rattle.rt_live_names.specs.Whole.{no_offset}

-- the lengths of partitions, of which this one is longer by one
abbrev pub counted : List Offset → Partition → List Offset
counted lengths p = slice_set lengths p.0 (record { 0 = (slice_index_or lengths p.0 no_offset).0 + 1 })
