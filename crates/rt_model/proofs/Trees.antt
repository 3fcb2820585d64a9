-- The parts of a tree have fewer nodes than the tree.
use Rattle.std.specs.Prelude.{◌≡◌, ℕ, zero, suc, ◌<◌, ◌≤◌, List, [], ◌∷◌, length, get_or}
use Rattle.std.proofs.Common.{arith, ap}
use Rattle.rt_model.specs.Tree.{Tree, And, Or, trees, nodes, list_nodes}

pub part_within : (ts : List Tree) (i : ℕ) (t : Tree) → t ≡ get_or ts i t → i < length ts → nodes t ≤ list_nodes (trees ts)
part_within [] i t e h = absurd (omega (arith, h))
part_within (u ∷ us) zero t e h = omega (arith, ap nodes e)
part_within (u ∷ us) (suc i) t e h = omega (arith, part_within us i t e (omega (arith, h)))

-- the same of a conjunction, in the words of a loop over its parts
pub and_falls : (p : Tree) (ts : List Tree) (i : ℕ) (t : Tree) → And (trees ts) ≡ p → t ≡ get_or ts i t → i < length ts → nodes t < nodes p
and_falls p ts i t is e h = omega (arith, ap nodes is, part_within ts i t e h)

pub or_falls : (p : Tree) (ts : List Tree) (i : ℕ) (t : Tree) → Or (trees ts) ≡ p → t ≡ get_or ts i t → i < length ts → nodes t < nodes p
or_falls p ts i t is e h = omega (arith, ap nodes is, part_within ts i t e h)
