-- What a step leaves alone.
use Rattle.std.specs.Prelude.{Bool, ◌||◌, not, List}
use Rattle.std.specs.List.{filter}
use Rattle.rt_base.specs.declared.numbers.Partition.{Partition}
use Rattle.rt_base.specs.declared.numbers.Sequence.{Sequence}
use Rattle.rt_model.specs.declared.ideal_state.IdealEntry.{IdealEntry}
use Rattle.rt_model.specs.Ideal.{next_sequence, is_of}

-- the entries that aren't named, in their order
abbrev pub others : (IdealEntry → Bool) → List IdealEntry → List IdealEntry
others named es = filter (λ e. not (named e)) es

-- an entry of a segment, or of the one after it
abbrev pub is_of_two : Partition → Sequence → IdealEntry → Bool
is_of_two p s e = is_of p s e || is_of p (next_sequence s) e
