-- The end of the last Done node, sought from the highest sequence down.
use Rattle.std.proofs.Common.{◌≡◌, ℕ, suc, List, [], ◌∷◌, ◌++◌, Option, Some, None, option_to_list, refl, ap, ◌∙◌}
use Rattle.std.specs.Prelude.{unwrap_or}
use Rattle.rt_base.specs.declared.numbers.Partition.{Partition}
use Rattle.rt_base.specs.declared.numbers.Offset.{Offset}
use Rattle.rt_model.specs.declared.node.Listed.{Listed}
use Rattle.rt_model.specs.declared.node.Node.{Node}
use Rattle.rt_model.specs.declared.node.Node.TheVariants as node
use Rattle.rt_model.specs.declared.node.Seen.{Seen}
use Rattle.rt_model.specs.declared.status.Status.{Status}
use Rattle.rt_model.specs.declared.status.Status.TheVariants.{InProgress, Done, Abandoned}
use Rattle.rt_model.specs.History.{value_of}
use Rattle.rt_model.specs.Metadata.{listed_by, listed_in, metadata_below, node_key}
use Rattle.rt_world.specs.Ends.{done_by, done_end, done_in}
use Rattle.rt_world.specs.Reading.{end_after, last_end}

-- the end after the nodes below a sequence
abbrev pub end_below : List Seen → Partition → ℕ → Offset
end_below h p n = last_end (record { 0 = 0 }) (metadata_below h p n)

last_end-append : (end : Offset) (xs ys : List Listed) → last_end end (xs ++ ys) ≡ last_end (last_end end xs) ys
last_end-append end [] ys = refl
last_end-append end (x ∷ xs) ys = last_end-append (end_after end x.seen.meta.status) xs ys

after_status : (end : Offset) (s : Status) → end_after end s ≡ unwrap_or (done_end s) end
after_status end InProgress = refl
after_status end (Done commit) = refl
after_status end Abandoned = refl

after_node : (end : Offset) (s version : ℕ) (n : Node) → last_end end (option_to_list (listed_by s version n)) ≡ unwrap_or (done_by n) end
after_node end s version (node.Meta m) = after_status end m.status
after_node end s version (node.Ideal i) = refl
after_node end s version node.Boot = refl
after_node end s version node.Gone = refl

after_value : (end : Offset) (s : ℕ) (o : Option Seen) → last_end end (option_to_list (listed_in s o)) ≡ unwrap_or (done_in o) end
after_value end s None = refl
after_value end s (Some w) = after_node end s w.version w.node

-- one node more
one_more : (h : List Seen) (p : Partition) (s : ℕ) → end_below h p (suc s) ≡ unwrap_or (done_in (value_of h (node_key p s))) (end_below h p s)
one_more h p s =
    last_end-append (record { 0 = 0 }) (metadata_below h p s) (option_to_list (listed_in s (value_of h (node_key p s))))
    ∙ after_value (end_below h p s) s (value_of h (node_key p s))

-- a Done node is the last, where those above it are none
pub done_last : (h : List Seen) (p : Partition) (s : ℕ) (end : Offset) → done_in (value_of h (node_key p s)) ≡ Some end → end_below h p (suc s) ≡ end
done_last h p s end e = one_more h p s ∙ ap (λ (o : Option Offset). unwrap_or o (end_below h p s)) e

-- and one that isn't tells nothing
pub done_before : (h : List Seen) (p : Partition) (s : ℕ) → done_in (value_of h (node_key p s)) ≡ None → end_below h p (suc s) ≡ end_below h p s
done_before h p s e = one_more h p s ∙ ap (λ (o : Option Offset). unwrap_or o (end_below h p s)) e
