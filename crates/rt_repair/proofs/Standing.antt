-- What stands of a partition after one write more.
use Rattle.std.proofs.Common.{◌≡◌, ℕ, zero, suc, ◌+◌, ◌<◌, ◌≤◌, inl, List, [], ◌∷◌, ◌++◌, Some, refl, sym, ◌∙◌, ap, arith}
use Rattle.std.specs.Prelude.{option_to_list}
use Rattle.rt_base.specs.declared.numbers.Moment.{Moment}
use Rattle.rt_base.specs.declared.numbers.Partition.{Partition}
use Rattle.rt_lists.specs.Members.{Has}
use Rattle.rt_model.specs.declared.node.Key.{Key}
use Rattle.rt_model.specs.declared.node.Key.TheVariants as key
use Rattle.rt_model.specs.declared.node.Listed.{Listed}
use Rattle.rt_model.specs.declared.node.Node.TheVariants as node
use Rattle.rt_model.specs.declared.node.Seen.{Seen}
use Rattle.rt_model.specs.declared.seg_meta.SegMeta.{SegMeta}
use Rattle.rt_model.specs.Entries.{entries_by, entries_in, entries_of}
use Rattle.rt_model.specs.History.{writes_of, value_by, value_in, value_of, next_version, IsVersioned}
use Rattle.rt_model.specs.Metadata.{node_key, listed_by, listed_in, listed_write, metadata_below, metadata_of, sequences_of}
use Rattle.rt_model.proofs.Histories.{last_of-place, last_write-more, last_write-other, value_of-last, writes_of-Has}
use Rattle.rt_model.proofs.Partitions.{node_key-sequence, past_other, past_same, sequences_of-more}
use Rattle.rt_repair.specs.Converging.{abandoned_node, abandoned_last}

-- ---- values

value_other : (h : List Seen) (w : Seen) (k : Key) → (w.key ≡ k → ⊥) → value_of (h ++ w ∷ []) k ≡ value_of h k
value_other h w k other = ap value_in (last_write-other h w k other)

value_more : (h : List Seen) (w : Seen) (k : Key) → w.key ≡ k → value_of (h ++ w ∷ []) k ≡ value_by w.node w
value_more h w k same = ap value_in (last_write-more h w k same)

-- a key that was never written
pub unwritten : (h : List Seen) (k : Key) → ((w : Seen) → Has h w → w.key ≡ k → ⊥) → writes_of h k ≡ []
unwritten h k never = by_writes (writes_of h k) (λ w has. never w (writes_of-Has h w k has).0 (writes_of-Has h w k has).1)
  where
    by_writes : (ws : List Seen) → ((w : Seen) → Has ws w → ⊥) → ws ≡ []
    by_writes [] none = refl
    by_writes (w ∷ ws) none = absurd (none w (inl refl))

-- ---- the list

below_same : (h g : List Seen) (p : Partition) (n : ℕ) → ((t : ℕ) → t < n → value_of g (node_key p t) ≡ value_of h (node_key p t))
    → metadata_below g p n ≡ metadata_below h p n
below_same h g p zero same = refl
below_same h g p (suc n) same =
    ap (λ xs. xs ++ option_to_list (listed_in n (value_of g (node_key p n)))) (below_same h g p n (λ t lt. same t (omega (arith, lt))))
    ∙ ap (λ o. metadata_below h p n ++ option_to_list (listed_in n o)) (same n (omega arith))

abbrev listed_at : ℕ → ℕ → SegMeta → Listed
listed_at q version m = record { sequence = record { 0 = q }; seen = record { version = version; meta = m } }

-- the last sequence is written: the list below it stays
pub listed_last : (h : List Seen) (w : Seen) (p : Partition) (q : ℕ) (m : SegMeta) → w.key ≡ node_key p q → w.node ≡ node.Meta m
    → sequences_of h p ≤ suc q → metadata_of (h ++ w ∷ []) p ≡ metadata_below h p q ++ listed_at q w.version m ∷ []
listed_last h w p q m is meta few =
    let g = h ++ w ∷ [] in
    let past = past_same p w.key q is in
    let count : sequences_of g p ≡ suc q = omega (arith, sequences_of-more h w p, past.0, few) in
    let value : value_of g (node_key p q) ≡ Some w = value_more h w (node_key p q) is ∙ ap (λ n. value_by n w) meta in
    ap (metadata_below g p) count
    ∙ ap (λ xs. xs ++ option_to_list (listed_in q (value_of g (node_key p q))))
    (below_same h g p q (λ t lt. value_other h w (node_key p t) (λ same. omega (arith, lt, node_key-sequence p q t (sym is ∙ same)))))
    ∙ ap (λ o. metadata_below h p q ++ option_to_list (listed_in q o)) value
    ∙ ap (λ n. metadata_below h p q ++ option_to_list (listed_by q w.version n)) meta

-- no node of the partition is written: the list stays
pub listed_other : (h : List Seen) (w : Seen) (p : Partition) → ((t : ℕ) → w.key ≡ node_key p t → ⊥)
    → metadata_of (h ++ w ∷ []) p ≡ metadata_of h p
listed_other h w p other =
    let g = h ++ w ∷ [] in
    let count : sequences_of g p ≡ sequences_of h p = omega (arith, sequences_of-more h w p, (past_other p w.key other).0) in
    ap (metadata_below g p) count
    ∙ below_same h g p (sequences_of h p) (λ t lt. value_other h w (node_key p t) (other t))

-- the list ends with the node of the last sequence
pub list_ends : (h : List Seen) (p : Partition) (l : Listed) → sequences_of h p ≡ suc l.sequence.0
    → value_of h (node_key p l.sequence.0) ≡ Some (listed_write p l) → metadata_of h p ≡ metadata_below h p l.sequence.0 ++ l ∷ []
list_ends h p l count value =
    ap (metadata_below h p) count
    ∙ ap (λ o. metadata_below h p l.sequence.0 ++ option_to_list (listed_in l.sequence.0 o)) value

pub given_up_last : (now : Moment) (xs : List Listed) (l : Listed) → abandoned_last now (xs ++ l ∷ []) ≡ xs ++ abandoned_node now l ∷ []
given_up_last now [] l = refl
given_up_last now (k ∷ []) l = refl
given_up_last now (k ∷ j ∷ xs) l = ap (λ ys. k ∷ ys) (given_up_last now (j ∷ xs) l)

-- the next version of a node is one past its value's
pub next_of_value : (h : List Seen) (k : Key) (w : Seen) → IsVersioned h → value_of h k ≡ Some w → next_version h k ≡ w.version + 1
next_of_value h k w versions value =
    let end = last_of-place (writes_of h k) w (value_of-last h k w value).0 in
    omega (arith, end.1, versions k end.0 w end.2)

-- ---- the entries

pub entries_other : (h : List Seen) (w : Seen) → (w.key ≡ key.Ideal → ⊥) → entries_of (h ++ w ∷ []) ≡ entries_of h
entries_other h w other = ap entries_in (last_write-other h w key.Ideal other)

pub entries_written : (h : List Seen) (w : Seen) → w.key ≡ key.Ideal → entries_of (h ++ w ∷ []) ≡ entries_by w.node
entries_written h w is = ap entries_in (last_write-more h w key.Ideal is)
