-- What the steps of a job change of the ideal state.
use Rattle.std.specs.Prelude.{ℕ, Bool, true, false, ◌+◌, ◌&&◌, ◌||◌, not, List, length, if◌then◌else◌}
use Rattle.std.specs.List.{list_all, list_any}
use Rattle.rt_base.specs.declared.numbers.Instance.{Instance}
use Rattle.rt_base.specs.declared.numbers.Partition.{Partition}
use Rattle.rt_base.specs.declared.numbers.Sequence.{Sequence}
use Rattle.rt_model.specs.declared.ideal_state.IdealEntry.{IdealEntry}
use Rattle.rt_model.specs.declared.ideal_state.Mode.{Mode}
use Rattle.rt_model.specs.declared.ideal_state.Mode.TheVariants.{Consuming, Online, Offline}
use Rattle.rt_model.specs.Ideal.{next_sequence, is_of, is_of_instance, has_entry}

abbrev pub is_online : Mode → Bool
is_online Consuming = false
is_online Online = true
is_online Offline = false

abbrev pub is_consuming : Mode → Bool
is_consuming Consuming = true
is_consuming Online = false
is_consuming Offline = false

-- each entry of the segment is ONLINE
abbrev pub are_online : List IdealEntry → Partition → Sequence → Bool
are_online es p s = list_all (λ e. not (is_of p s e) || is_online e.mode) es

-- a commit changes something: the segment has an entry, and one that isn't ONLINE or none of the next segment
abbrev pub commit_changes : List IdealEntry → Partition → Sequence → Bool
commit_changes es p s = has_entry es p s && not (are_online es p s && has_entry es p (next_sequence s))

-- a stop changes something: the instance has a CONSUMING entry of the segment
abbrev pub offline_changes : List IdealEntry → Partition → Sequence → Instance → Bool
offline_changes es p s i = list_any (λ e. is_of_instance p s i e && is_consuming e.mode) es

-- the number of entries after a commit whose next segment goes to so many instances
abbrev pub committed_count : List IdealEntry → Partition → Sequence → ℕ → ℕ
committed_count es p s replicas =
    if has_entry es p s && not (has_entry es p (next_sequence s)) then length es + replicas else length es
