-- What a step sets: the mode of an instance.
use Rattle.std.specs.Prelude.{◌==◌, if◌then◌else◌, List, [], ◌∷◌, Option, Some, None}
use Rattle.rt_base.specs.declared.numbers.Instance.{Instance}
use Rattle.rt_model.specs.declared.ideal_state.Mode.{Mode}
use Rattle.rt_model.specs.declared.ideal_state.Mode.TheVariants.{Consuming}

-- the mode of an instance in a segment that consumes on these instances, and has no other entry
abbrev pub consuming_on : List Instance → Instance → Option Mode
consuming_on [] i = None
consuming_on (j ∷ js) i = if j.0 == i.0 then Some Consuming else consuming_on js i
