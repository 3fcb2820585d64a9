-- Whether the targets that were seen are those of a new ideal state.
use Rattle.std.specs.Prelude.{Bool, true, false, ◌&&◌, List, [], ◌∷◌, ◌==◌, if◌then◌else◌}
use Rattle.rt_base.specs.declared.numbers.Instance.{Instance}
use Rattle.rt_model.specs.declared.ideal_state.IdealEntry.{IdealEntry}
use Rattle.rt_model.specs.declared.ideal_state.Mode.{Mode}
use Rattle.rt_model.specs.declared.ideal_state.Mode.TheVariants.{Consuming, Online, Offline}
use Rattle.rt_server.specs.Table.{Segment}

abbrev pub same_mode : Mode → Mode → Bool
same_mode Consuming Consuming = true
same_mode Consuming Online = false
same_mode Consuming Offline = false
same_mode Online Consuming = false
same_mode Online Online = true
same_mode Online Offline = false
same_mode Offline Consuming = false
same_mode Offline Online = false
same_mode Offline Offline = true

-- whether an entry asks a mode of a segment
abbrev pub is_asked : IdealEntry → Segment → Mode → Bool
is_asked e s mode = (e.partition.0 == s.0.0) && ((e.sequence.0 == s.1.0) && same_mode e.mode mode)

-- whether an entry asks what the first of some targets is
abbrev pub is_first : IdealEntry → List (Segment × Mode) → Bool
is_first e [] = false
is_first e (t ∷ ts) = is_asked e t.0 t.1

abbrev pub after_first : List (Segment × Mode) → List (Segment × Mode)
after_first [] = []
after_first (t ∷ ts) = ts

-- the same for an entry of an instance; one of another instance asks nothing
abbrev pub keeps : Instance → IdealEntry → List (Segment × Mode) → Bool
keeps i e ts = if e.instance.0 == i.0 then is_first e ts else true

abbrev pub after : Instance → IdealEntry → List (Segment × Mode) → List (Segment × Mode)
after i e ts = if e.instance.0 == i.0 then after_first ts else ts

-- whether an instance's entries, in order, are just these targets
abbrev pub are_seen : Instance → List IdealEntry → List (Segment × Mode) → Bool
are_seen i [] [] = true
are_seen i [] (t ∷ ts) = false
are_seen i (e ∷ es) ts = if keeps i e ts then are_seen i es (after i e ts) else false
