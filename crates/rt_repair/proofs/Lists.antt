-- The last and the lowest of the listed nodes.
use Rattle.std.proofs.Common.{◌≡◌, suc, ◌-◌, List, [], ◌∷◌, ◌++◌, length, Option, Some, None, refl, ◌∙◌, ap, arith, slice_get}
use Rattle.std.specs.Prelude.{unwrap_or}
use Rattle.rt_base.specs.declared.numbers.Partition.{Partition}
use Rattle.rt_model.specs.declared.node.Listed.{Listed}
use Rattle.rt_model.specs.Repair.{last_listed}
use Rattle.rt_repair.specs.ReadNode.{read_by, listed_again, last_node, lowest_listed, lowest_node}

pub last_of_pushed : (nodes : List Listed) (l : Listed) → last_listed (nodes ++ l ∷ []) ≡ Some l
last_of_pushed [] l = refl
last_of_pushed (m ∷ nodes) l = ap (λ o. Some (unwrap_or o m)) (last_of_pushed nodes l)

pub last_is : (nodes : List Listed) → last_listed nodes ≡ slice_get nodes (length nodes - 1)
last_is [] = refl
last_is (l ∷ []) = refl
last_is (l ∷ m ∷ ls) =
    let next : suc (length (m ∷ ls) - 1) ≡ length (l ∷ m ∷ ls) - 1 = omega arith in
    last_is (m ∷ ls) ∙ ap (slice_get (l ∷ m ∷ ls)) next

-- what is kept of a node is the node
again : (p : Partition) (o : Option Listed) → listed_again (read_by p o) ≡ o
again p None = refl
again p (Some l) = refl

pub last_again : (p : Partition) (nodes : List Listed) → listed_again (last_node p nodes) ≡ last_listed nodes
last_again p nodes = again p (last_listed nodes)

pub lowest_again : (p : Partition) (nodes : List Listed) → listed_again (lowest_node p nodes) ≡ lowest_listed nodes
lowest_again p nodes = again p (lowest_listed nodes)
