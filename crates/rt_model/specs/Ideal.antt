-- The steps of an ideal state, over the list of its entries.
use Rattle.std.specs.Prelude.{ℕ, Bool, false, List, [], ◌∷◌, ◌+◌, ◌-◌, ◌==◌, ◌&&◌, ◌||◌, not, nat_lt, if◌then◌else◌, Option, Some, None, map}
use Rattle.std.specs.List.{filter}
use Rattle.rt_base.specs.declared.numbers.Partition.{Partition}
use Rattle.rt_base.specs.declared.numbers.Sequence.{Sequence}
use Rattle.rt_base.specs.declared.numbers.Instance.{Instance}
use Rattle.rt_model.specs.declared.ideal_state.IdealEntry.{IdealEntry}
use Rattle.rt_model.specs.declared.ideal_state.Mode.{Mode}
use Rattle.rt_model.specs.declared.ideal_state.Mode.TheVariants.{Consuming, Online, Offline}

-- the sequence after this one
abbrev pub next_sequence : Sequence → Sequence
next_sequence s = record { 0 = s.0 + 1 }

-- whether an entry is one of this segment
abbrev pub is_of : Partition → Sequence → IdealEntry → Bool
is_of p s e = (e.partition.0 == p.0) && (e.sequence.0 == s.0)

-- whether an entry is this instance's of this segment
abbrev pub is_of_instance : Partition → Sequence → Instance → IdealEntry → Bool
is_of_instance p s i e = is_of p s e && (e.instance.0 == i.0)

-- whether the segment has an entry
abbrev pub has_entry : List IdealEntry → Partition → Sequence → Bool
has_entry [] p s = false
has_entry (e ∷ es) p s = is_of p s e || has_entry es p s

-- whether the partition has an entry
abbrev pub has_partition : List IdealEntry → Partition → Bool
has_partition [] p = false
has_partition (e ∷ es) p = (e.partition.0 == p.0) || has_partition es p

-- the mode in which the instance has the segment, if it has it
abbrev pub mode_of : List IdealEntry → Partition → Sequence → Instance → Option Mode
mode_of [] p s i = None
mode_of (e ∷ es) p s i = if is_of_instance p s i e then Some e.mode else mode_of es p s i

-- the order of entries: by partition, then sequence, then instance
abbrev pub is_before : IdealEntry → IdealEntry → Bool
is_before a b =
    if a.partition.0 == b.partition.0
    then (if a.sequence.0 == b.sequence.0
    then nat_lt a.instance.0 b.instance.0
    else nat_lt a.sequence.0 b.sequence.0)
    else nat_lt a.partition.0 b.partition.0

-- the entries with one more, in its place
abbrev pub with_entry : IdealEntry → List IdealEntry → List IdealEntry
with_entry x [] = x ∷ []
with_entry x (e ∷ es) = if is_before x e then x ∷ e ∷ es else e ∷ with_entry x es

-- an instance's CONSUMING entry of a segment
abbrev pub consuming : Partition → Sequence → Instance → IdealEntry
consuming p s i = record { partition = p; sequence = s; instance = i; mode = Consuming }

-- the entries with the segment CONSUMING on each of these instances too
abbrev pub with_consuming :
    List IdealEntry → Partition → Sequence → List Instance → List IdealEntry
with_consuming es p s [] = es
with_consuming es p s (i ∷ is) = with_entry (consuming p s i) (with_consuming es p s is)

-- an entry after its segment is committed
abbrev pub turned_online : Partition → Sequence → IdealEntry → IdealEntry
turned_online p s e = if is_of p s e then record e { mode = Online } else e

-- the segment is committed: its entries are ONLINE, and the next segment, where it has none yet,
-- is CONSUMING on the instances `next`. Where the segment has no entry nothing changes
abbrev pub commit_step_of :
    List IdealEntry → Partition → Sequence → List Instance → List IdealEntry
commit_step_of es p s next =
    if has_entry es p s
    then (if has_entry es p (next_sequence s)
    then map (turned_online p s) es
    else with_consuming (map (turned_online p s) es) p (next_sequence s) next)
    else es

-- whether the entries of the partition go on with this sequence: the one before it has an entry, or
-- it is the first sequence and the partition has none
abbrev pub goes_on : List IdealEntry → Partition → ℕ → Bool
goes_on es p s =
    if s == 0 then not (has_partition es p) else has_entry es p (record { 0 = s - 1 })

-- the segment becomes CONSUMING on these instances, where it has no entry and comes next
abbrev pub add_consuming_of :
    List IdealEntry → Partition → Sequence → List Instance → List IdealEntry
add_consuming_of es p s instances =
    if has_entry es p s
    then es
    else (if goes_on es p s.0 then with_consuming es p s instances else es)

abbrev pub offline_mode : Mode → Mode
offline_mode Consuming = Offline
offline_mode Online = Online
offline_mode Offline = Offline

-- an entry after its instance stopped: one that was CONSUMING is OFFLINE
abbrev pub turned_offline : Partition → Sequence → Instance → IdealEntry → IdealEntry
turned_offline p s i e =
    if is_of_instance p s i e then record e { mode = offline_mode e.mode } else e

-- the instance stopped consuming the segment
abbrev pub set_offline_of :
    List IdealEntry → Partition → Sequence → Instance → List IdealEntry
set_offline_of es p s i = map (turned_offline p s i) es

-- the segment has no entry any more
abbrev pub remove_segment_of : List IdealEntry → Partition → Sequence → List IdealEntry
remove_segment_of es p s = filter (λ e. not (is_of p s e)) es
