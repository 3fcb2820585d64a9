-- The segments of an ideal state, each with its entries.
use Rattle.std.specs.Prelude.{◌<◌, ◌==◌, ◌&&◌, ◌||◌, not, Bool, true, false, List, [], ◌∷◌, filter, if◌then◌else◌}
use Rattle.rt_base.specs.declared.numbers.Instance.{Instance}
use Rattle.rt_model.specs.declared.ideal_state.IdealEntry.{IdealEntry}
use Rattle.rt_model.specs.declared.ideal_state.Mode.{Mode}
use Rattle.rt_model.specs.declared.ideal_state.Mode.TheVariants.{Consuming, Online, Offline}
use Rattle.rt_model.specs.Ideal.{is_of}

-- the entries of one segment
abbrev pub Segment : Type 0
Segment = List IdealEntry

-- two entries are of one segment
abbrev pub is_beside : IdealEntry → IdealEntry → Bool
is_beside e f = is_of e.partition e.sequence f

-- one entry more before the segments: in the first of them, where it is that segment's
abbrev pub with_front : IdealEntry → List Segment → List Segment
with_front e [] = (e ∷ []) ∷ []
with_front e ([] ∷ segments) = (e ∷ []) ∷ segments
with_front e ((f ∷ fs) ∷ segments) = if is_beside e f then (e ∷ (f ∷ fs)) ∷ segments else (e ∷ []) ∷ ((f ∷ fs) ∷ segments)

-- the segments, in the order of their entries
abbrev pub segments_of : List IdealEntry → List Segment
segments_of [] = []
segments_of (e ∷ es) = with_front e (segments_of es)

abbrev pub is_online : Mode → Bool
is_online Consuming = false
is_online Online = true
is_online Offline = false

abbrev pub are_online : Segment → Bool
are_online [] = true
are_online (e ∷ es) = is_online e.mode && are_online es

-- an instance has the segment
abbrev pub has_instance : Segment → Instance → Bool
has_instance [] i = false
has_instance (e ∷ es) i = (e.instance.0 == i.0) || has_instance es i

-- an entry's instance is below those of all of these
abbrev pub IsBelow : IdealEntry → Segment → Type 0
IsBelow e [] = Unit {0}
IsBelow e (f ∷ fs) = (e.instance.0 < f.instance.0) × IsBelow e fs

-- the instances of a segment ascend, so none comes twice
abbrev pub AreAscending : Segment → Type 0
AreAscending [] = Unit {0}
AreAscending (e ∷ es) = IsBelow e es × AreAscending es

-- the instances of two segments are the same, in their order
abbrev pub same_instances : Segment → Segment → Bool
same_instances [] [] = true
same_instances [] (f ∷ fs) = false
same_instances (e ∷ es) [] = false
same_instances (e ∷ es) (f ∷ fs) = (e.instance.0 == f.instance.0) && same_instances es fs

-- a segment is moved where all its entries are ONLINE and its instances differ in the target
abbrev pub is_moved : Segment → Segment → Bool
is_moved now goal = are_online now && not (same_instances now goal)

-- those of a segment that another state has too
abbrev pub kept_in : Segment → Segment → Segment
kept_in old new = filter (λ e. has_instance new e.instance) old
