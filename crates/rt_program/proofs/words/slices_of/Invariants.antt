use Rattle.std.proofs.Common.{◌≡◌, take}
use Rattle.std.specs.Prelude.{map, string_bytes}
use Rattle.rt_program.proofs.words.slices_of.Given as goal

-- the slices are those of the first texts
abbrev pub invariant-loop-text : goal.invariant-loop-text
invariant-loop-text l = map (λ s. s.now) l.slices.items ≡ map string_bytes (take l.text-index l.texts)
