use Rattle.std.proofs.Common.{◌≡◌, ℕ, ◌+◌, ◌<◌, ◌≤◌, List, ◌++◌, length, take, Option, Some, None, refl, ap, sym, ◌∙◌, arith, append_assoc}
use Rattle.std.proofs.lemmas.List.{append-nil, length-append, length-take-le}
use Rattle.rt_base.specs.Sink.{SinkMeaning}
use Rattle.rt_base.specs.Source.{SourceMeaning, Came, IsEnd, put_back}
use Rattle.rt_base.specs.declared.limits.TheConstants.{MOST_INPUT}
use Rattle.rt_lines.specs.Reading.{IsTooLong, ReadsInput, Takes, input_limit}

put_back_more : (left : Option (List ℕ)) (a b : List ℕ) → put_back a (put_back b left) ≡ put_back (a ++ b) left
put_back_more None a b = refl
put_back_more (Some rest) a b = ap Some (sym (append_assoc a b rest))

-- what was read, and a piece more
pub takes_more : (from mid to : SourceMeaning) (input piece : List ℕ) (count : ℕ) → from.left ≡ put_back input mid.left → from.faults ≤ mid.faults → Came mid to piece count →
    length input + count ≤ MOST_INPUT + 1 → Takes from to (input ++ take count piece)
takes_more from mid to input piece count left counts came few = record {
  left = left ∙ ap (put_back input) came.left ∙ put_back_more to.left input (take count piece);
  few = omega (arith, length-append input (take count piece), length-take-le count piece came.fits, few);
  counts = omega (arith, counts, came.counts);
}

-- what a source told begins with what was read of it
read_front : (left : Option (List ℕ)) (input told : List ℕ) → Some told ≡ put_back input left → length input ≤ length told
read_front None input told e = cc
read_front (Some rest) input told e = let same : told ≡ input ++ rest = cc in omega (arith, ap length same, length-append input rest)

-- and is what was read, where that was all
all_read : (left : Option (List ℕ)) (input told : List ℕ) → Some told ≡ put_back input left → IsEnd left → input ≡ told
all_read None input told e end = cc
all_read (Some rest) input told e end = let same : told ≡ input ++ rest = cc in sym (same ∙ ap (λ r. input ++ r) end ∙ append-nil input)

-- the whole input was read
pub told_input : (from to : SourceMeaning) (input told : List ℕ) → from.left ≡ Some told → ReadsInput from to input → input ≡ told
told_input from to input told is reads = all_read to.left input told (sym is ∙ reads.taken.left) reads.ended

-- a source of which too much was read told more than is taken
pub too_long : (from to : SourceMeaning) (old new : SinkMeaning) (told : List ℕ) → from.left ≡ Some told → IsTooLong from to old new
    → input_limit < length told
too_long from to old new told is long = omega (arith, long.long, read_front to.left long.input told (sym is ∙ long.taken.left))
