-- What is true of the metadata nodes of a partition.
use Rattle.std.specs.Prelude.{◌≡◌, ℕ, length, ◌+◌, ◌<◌, ◌≤◌, Bool, true, false, ◌==◌, ◌&&◌, ◌↔◌, List, [], ◌∷◌, IsSome}
use Rattle.std.specs.List.{count_by}
use Rattle.rt_base.specs.declared.numbers.Partition.{Partition}
use Rattle.rt_model.specs.declared.node.Key.{Key}
use Rattle.rt_model.specs.declared.node.Key.TheVariants as key
use Rattle.rt_model.specs.declared.node.Node.{Node}
use Rattle.rt_model.specs.declared.node.Node.TheVariants as node
use Rattle.rt_model.specs.declared.node.Seen.{Seen}
use Rattle.rt_lists.specs.Members.{Has}
use Rattle.rt_model.specs.History.{value_of}
use Rattle.rt_model.specs.Metadata.{node_key, life_of, sequences_of, IsOpen, IsDone, Ends, Follows, IsEndFrom}

-- the life of a node, from all its writes: it is created in progress, it ends once, with its name and its
-- start, and then it is deleted; no other write comes
abbrev pub IsLife : List Seen → Type 0
IsLife [] = Unit {0}
IsLife (c ∷ []) = IsOpen c.node
IsLife (c ∷ e ∷ []) = IsOpen c.node × Ends c.node e.node
IsLife (c ∷ e ∷ g ∷ []) = IsOpen c.node × Ends c.node e.node × (g.node ≡ node.Gone)
IsLife (c ∷ e ∷ g ∷ w ∷ ws) = ⊥

abbrev pub start_by : Node → ℕ
start_by (node.Meta m) = m.start.0
start_by (node.Ideal i) = 0
start_by node.Boot = 0
start_by node.Gone = 0

-- the offset from which a node was created
abbrev pub start_in : List Seen → ℕ
start_in [] = 0
start_in (c ∷ ws) = start_by c.node

-- a life is not begun before the one below it has ended, and follows its end
abbrev pub IsLinked : List Seen → List Seen → Type 0
IsLinked ws [] = Unit {0}
IsLinked [] (d ∷ ds) = ⊥
IsLinked (c ∷ []) (d ∷ ds) = ⊥
IsLinked (c ∷ e ∷ ws) (d ∷ ds) = Follows e.node d.node

-- the lives below `count` have begun, and those below `lowest` are over
pub record IsOrdered (life : ℕ → List Seen) (lowest count : ℕ) : Type 0 where
  pub lives : (s : ℕ) → IsLife (life s)
  pub linked : (s : ℕ) → IsLinked (life s) (life (s + 1))
  pub begun : (s : ℕ) → s < count → 0 < length (life s)
  pub ahead : (s : ℕ) → count ≤ s → life s ≡ []
  pub over : (s : ℕ) → s < lowest → length (life s) ≡ 3
  pub present : (s : ℕ) → lowest ≤ s → length (life s) < 3
  pub some : lowest < count
  pub zero_start : start_in (life 0) ≡ 0

abbrev pub IsPresent : List Seen → Partition → ℕ → Type 0
IsPresent h p s = IsSome (value_of h (node_key p s))

-- the creation of a segment's node
pub record IsCreation (h : List Seen) (p : Partition) (s : ℕ) (w : Seen) : Type 0 where
  pub has : Has h w
  pub is_of : w.key ≡ node_key p s
  pub starts : IsOpen w.node

-- a committed end starts before it ends
abbrev pub IsPastStart : Node → Type 0
IsPastStart (node.Meta m) = IsEndFrom m.start m.status
IsPastStart (node.Ideal i) = ⊥
IsPastStart node.Boot = ⊥
IsPastStart node.Gone = ⊥

-- the chain of a partition: of `count` segments that were created, those from `lowest` on are present
pub record IsChainOf (h : List Seen) (p : Partition) (lowest count : ℕ) : Type 0 where
  pub some : lowest < count
  pub present : (s : ℕ) → IsPresent h p s ↔ ((lowest ≤ s) × (s < count))
  pub created : (s : ℕ) → s < count → (w : Seen) × IsCreation h p s w
  pub uncreated : (s : ℕ) (w : Seen) → count ≤ s → Has h w → w.key ≡ node_key p s → ⊥
  pub once : (s : ℕ) (v w : Seen) → IsCreation h p s v → IsCreation h p s w → v ≡ w
  pub from_zero : (w : Seen) → IsCreation h p 0 w → start_by w.node ≡ 0
  -- the next segment starts where this one ended, or where this one started if it was abandoned
  pub next :
      (s : ℕ) (w : Seen) → IsCreation h p (s + 1) w
      → (v : Seen) × Has h v × (v.key ≡ node_key p s) × Follows v.node w.node
  pub past_start :
      (s : ℕ) (w : Seen) → Has h w → w.key ≡ node_key p s → IsDone w.node → IsPastStart w.node

abbrev pub IsChain : List Seen → Partition → Type 0
IsChain h p = (lowest : ℕ) × (count : ℕ) × IsChainOf h p lowest count

abbrev pub is_gone : Node → Bool
is_gone node.Gone = true
is_gone (node.Meta m) = false
is_gone (node.Ideal i) = false
is_gone node.Boot = false

abbrev pub is_node_of : Partition → Key → Bool
is_node_of p (key.Meta q s) = q.0 == p.0
is_node_of p key.Ideal = false
is_node_of p (key.Boot i) = false

-- the number of the partition's nodes that were deleted
abbrev pub deletions_of : List Seen → Partition → ℕ
deletions_of h p = count_by (λ w. is_node_of p w.key && is_gone w.node) h

-- the nodes of a partition are in order: as many as were deleted are over, and as many as there are sequences
-- have begun
abbrev pub InOrder : List Seen → Partition → Type 0
InOrder h p = IsOrdered (life_of h p) (deletions_of h p) (sequences_of h p)
