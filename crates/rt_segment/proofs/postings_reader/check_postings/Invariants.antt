use Rattle.std.proofs.Common.{◌≡◌, ◌∷◌, drop, length}
use Rattle.std.specs.List.{flat_map}
use Rattle.rt_segment.specs.Reading.{numbers_at}
use Rattle.rt_segment.proofs.postings_reader.check_postings.Given as goal

abbrev pub invariant-loop-id : goal.invariant-loop-id
invariant-loop-id l = numbers_at (flat_map (λ rows. length rows ∷ rows) (drop l.id l.postings)) l.cursor ≡ numbers_at (flat_map (λ rows. length rows ∷ rows) l.postings) l.initial.cursor
