-- What a retirement of a partition decides.
use Rattle.std.specs.Prelude.{ℕ, Bool, true, false, ◌||◌, not, nat_lt, if◌then◌else◌, List, Option, Some, None}
use Rattle.rt_base.specs.declared.numbers.Moment.{Moment}
use Rattle.rt_base.specs.declared.numbers.Partition.{Partition}
use Rattle.rt_base.specs.declared.numbers.Sequence.{Sequence}
use Rattle.rt_model.specs.declared.ideal_state.IdealEntry.{IdealEntry}
use Rattle.rt_model.specs.declared.node.Listed.{Listed}
use Rattle.rt_model.specs.declared.seg_meta.SegMeta.{SegMeta}
use Rattle.rt_model.specs.declared.status.Status.{Status}
use Rattle.rt_model.specs.declared.status.Status.TheVariants.{InProgress, Done, Abandoned}
use Rattle.rt_model.specs.Ideal.{has_entry, next_sequence}
use Rattle.rt_model.specs.Moments.{later}
use Rattle.rt_repair.specs.declared.retiring.Retiring.{Retiring}
use Rattle.rt_repair.specs.declared.retiring.Retiring.TheVariants.{Nothing, Remove, Delete}
use Rattle.rt_repair.specs.ReadNode.{lowest_listed}

abbrev pub is_ended : Status → Bool
is_ended InProgress = false
is_ended (Done commit) = true
is_ended Abandoned = true

-- of the lowest node, which isn't the last: nothing while it is in progress or young; it is deleted where it has no
-- entries, and leaves the ideal state where the next segment has entries
abbrev pub retire_node : Partition → Sequence → SegMeta → List IdealEntry → Moment → ℕ → Retiring
retire_node p s meta es now keep =
    if not (is_ended meta.status) || nat_lt now.0 (later meta.written keep).0 then Nothing else
    (if not (has_entry es p s) then Delete s else
    (if has_entry es p (next_sequence s) then Remove s else Nothing))

abbrev pub retire_by : Partition → List IdealEntry → Moment → ℕ → Option Listed → Retiring
retire_by p es now keep None = Nothing
retire_by p es now keep (Some l) = retire_node p l.sequence l.seen.meta es now keep

-- over the partition's metadata, the entries of the ideal state, the moment, and how long a segment is kept
abbrev pub retire : List Listed → Partition → List IdealEntry → Moment → ℕ → Retiring
retire nodes p es now keep = retire_by p es now keep (lowest_listed nodes)
