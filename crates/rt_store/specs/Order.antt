-- The order of keys.
use Rattle.std.specs.Prelude.{◌+◌, ◌==◌, ◌≤◌, if◌then◌else◌, Option, Some, None}
use Rattle.std.specs.declared.cmp.Ordering.{Ordering}
use Rattle.rt_base.specs.declared.numbers.Partition.{Partition}
use Rattle.rt_base.specs.declared.numbers.Sequence.{Sequence}
use Rattle.rt_model.specs.declared.node.Key.{Key}
use Rattle.rt_model.specs.declared.node.Key.TheVariants.{Meta, Ideal, Boot}
use Rattle.rt_model.specs.contracts.node.KeyOrd.TheImpl as key_ord

-- metadata first, by partition and sequence, then the ideal state, then boot nodes
abbrev pub key_cmp : Key → Key → Ordering
key_cmp = (key_ord.ghosts).cmp

-- the key after all metadata nodes of a partition
abbrev pub past_nodes : Partition → Key
past_nodes p = if p.0 == 4294967295 then Ideal else Meta (record { 0 = p.0 + 1 }) (record { 0 = 0 })

-- the partition of a key is one that there can be
abbrev pub IsSmall : Key → Type 0
IsSmall (Meta p s) = p.0 ≤ 4294967295
IsSmall Ideal = Unit {0}
IsSmall (Boot i) = Unit {0}

-- the sequence of a key of metadata
abbrev pub sequence_in : Key → Option Sequence
sequence_in (Meta p s) = Some s
sequence_in Ideal = None
sequence_in (Boot i) = None
