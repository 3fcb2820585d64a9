-- The lives of a partition's nodes are kept in order by each lawful write.
use Rattle.std.proofs.Common.{◌≡◌, ℕ, ◌+◌, ◌<◌, ◌≤◌, max, Bool, true, false, cond, ◌==◌, ◌&&◌, ◌⊎◌, inl, inr, List, [], ◌∷◌, ◌++◌, length, Some, None, refl, sym, ◌∙◌, ap, subst, arith}
use Rattle.std.proofs.lemmas.Bool.{eqb-true, eq-eqb, both_ways, cond-true, cond-false, cases_lt, cases_order, and_right, and_from}
use Rattle.std.proofs.lemmas.List.Sums.{sum_by-append}
use Rattle.std.proofs.Math.Path.{fun_ext}
use Rattle.rt_base.specs.declared.numbers.Partition.{Partition}
use Rattle.rt_model.specs.declared.node.Key.{Key}
use Rattle.rt_model.specs.declared.node.Key.TheVariants as key
use Rattle.rt_model.specs.declared.node.Node.{Node}
use Rattle.rt_model.specs.declared.node.Node.TheVariants as node
use Rattle.rt_model.specs.declared.node.Seen.{Seen}
use Rattle.rt_lists.specs.Members.{Has}
use Rattle.rt_model.specs.History.{writes_of, last_of, last_write, IsVersioned, value_of, Stands}
use Rattle.rt_model.specs.Metadata.{node_key, life_of, past_key, sequences_of, IsOpen, IsFinal, Ends, Follows, IsDeleted, IsCreated, HasNode}
pub use Rattle.rt_model.specs.Chain.{InOrder}
use Rattle.rt_model.specs.Chain.{IsLife, is_gone, is_node_of, deletions_of}
use Rattle.rt_model.specs.Lawful.{Write, create, set, delete, create_after, bump, IsLawful, IsLawfulCreate, IsAfter, Sets, Retires, TakesEffect, written_by, write_of}
use Rattle.rt_lists.proofs.Members.{Has-length, Has-append_left}
use Rattle.rt_model.proofs.Histories.{Has-writes_of, writes_of-more, writes_of-other, Stands-last, same_partition}
use Rattle.rt_model.proofs.Lives.{IsOrdered, Adds, IsOrdered-creates, IsOrdered-ends, IsOrdered-deletes, Ends-from_open, Ends-final, Follows-final, Follows-open, gone_not_open, gone_not_final, life_open, life_final, life_absent, length_same}

pub IsOrdered-same :
    (old new : ℕ → List Seen) (m n m' n' : ℕ)
    → ((t : ℕ) → new t ≡ old t) → m' ≡ m → n' ≡ n → IsOrdered old m n → IsOrdered new m' n'
IsOrdered-same old new m n m' n' lives lowest count o =
    let P : (ℕ → List Seen) → Type 0 = λ f. IsOrdered f m n in
    let Q : ℕ → Type 0 = λ x. IsOrdered new x n in
    let R : ℕ → Type 0 = λ x. IsOrdered new m' x in
    subst R (sym count) (subst Q (sym lowest) (subst P (sym (fun_ext lives)) o))

-- ---- the counts after one write more

pub sequences_of-more :
    (h : List Seen) (w : Seen) (p : Partition)
    → sequences_of (h ++ w ∷ []) p ≡ max (sequences_of h p) (past_key p w.key)
sequences_of-more [] w p = omega arith
sequences_of-more (v ∷ h) w p = omega (arith, sequences_of-more h w p)

abbrev pub deletes : Partition → Seen → Bool
deletes p w = is_node_of p w.key && is_gone w.node

pub deletions_of-more :
    (h : List Seen) (w : Seen) (p : Partition)
    → deletions_of (h ++ w ∷ []) p ≡ deletions_of h p + cond (deletes p w) 1 0
deletions_of-more h w p =
    sum_by-append (λ v. cond (deletes p v) 1 0) h (w ∷ [])
    ∙ omega arith

-- a key of no node of the partition
pub past_other :
    (p : Partition) (k : Key) → ((t : ℕ) → k ≡ node_key p t → ⊥)
    → (past_key p k ≡ 0) × (is_node_of p k ≡ false)
past_other p (key.Meta q s) ne = by_test (q.0 == p.0) refl
  where
    by_test : (b : Bool) → (q.0 == p.0) ≡ b → (cond (q.0 == p.0) (s.0 + 1) 0 ≡ 0) × ((q.0 == p.0) ≡ false)
    by_test true e =
        let same : q ≡ p = same_partition q p (eqb-true q.0 p.0 e) in
        absurd (ne s.0 (ap (λ (x : Partition). key.Meta x s) same))
    by_test false e = (cond-false (q.0 == p.0) (s.0 + 1) 0 e, e)
past_other p key.Ideal ne = (refl, refl)
past_other p (key.Boot i) ne = (refl, refl)

pub past_same :
    (p : Partition) (k : Key) (t : ℕ) → k ≡ node_key p t
    → (past_key p k ≡ t + 1) × (is_node_of p k ≡ true)
past_same p k t e =
    let P : Key → Type 0 = λ x. (past_key p x ≡ t + 1) × (is_node_of p x ≡ true) in
    let test : (p.0 == p.0) ≡ true = eq-eqb p.0 p.0 refl in
    subst P (sym e) (cond-true (p.0 == p.0) (t + 1) 0 test, test)

-- ---- one write more

-- a write of another key changes nothing of the partition
pub InOrder-other :
    (h : List Seen) (p : Partition) (w : Seen) → ((t : ℕ) → w.key ≡ node_key p t → ⊥)
    → InOrder h p → InOrder (h ++ w ∷ []) p
InOrder-other h p w ne o =
    let other = past_other p w.key ne in
    IsOrdered-same
    (life_of h p)
    (life_of (h ++ w ∷ []) p)
    (deletions_of h p)
    (sequences_of h p)
    (deletions_of (h ++ w ∷ []) p)
    (sequences_of (h ++ w ∷ []) p)
    (λ t. writes_of-other h w (node_key p t) (ne t))
    (deletions_of-more h w p
    ∙ ap (λ (b : Bool). deletions_of h p + cond (b && is_gone w.node) 1 0) other.1
    ∙ omega arith)
    (sequences_of-more h w p ∙ omega (arith, other.0))
    o

abbrev pub sequence_by : Key → ℕ
sequence_by (key.Meta p s) = s.0
sequence_by key.Ideal = 0
sequence_by (key.Boot i) = 0

abbrev pub partition_by : ℕ → Key → ℕ
partition_by other (key.Meta p s) = p.0
partition_by other key.Ideal = other
partition_by other (key.Boot i) = other

pub node_key-sequence : (p : Partition) (s t : ℕ) → node_key p s ≡ node_key p t → s ≡ t
node_key-sequence p s t e = ap sequence_by e

Adds-write :
    (h : List Seen) (p : Partition) (w : Seen) (s : ℕ) → w.key ≡ node_key p s
    → Adds (life_of h p) (life_of (h ++ w ∷ []) p) s w
Adds-write h p w s e =
    record {
      here = writes_of-more h w (node_key p s) e;
      others = λ t ne.
          writes_of-other h w (node_key p t) (λ q. ne (node_key-sequence p t s (sym q ∙ e)));
    }

-- a life of which no write was seen by one who has seen the first
no_first :
    (h : List Seen) (k : Key) (w : Seen) → Has h w → w.key ≡ k → writes_of h k ≡ [] → ⊥
no_first h k w has same empty =
    let P : List Seen → Type 0 = λ ws. Has ws w in
    subst P empty (Has-writes_of h w k has same)

-- the last write of a segment's node, as its life has it
last_of_life :
    (h : List Seen) (p : Partition) (s : ℕ) (from : Seen) → IsVersioned h → Has h from → Stands h from
    → from.key ≡ node_key p s → last_of (life_of h p s) ≡ Some from
last_of_life h p s from versions has stands same =
    let last = Stands-last h from versions has stands in
    let P : Key → Type 0 = λ k. last_write h k ≡ Some from in
    subst P same last.0

pub begun_within :
    (life : ℕ → List Seen) (m n s : ℕ) → IsOrdered life m n → 0 < length (life s) → s < n
begun_within life m n s o begun = at_case (cases_lt s n)
  where
    at_case : (s < n) ⊎ (n ≤ s) → s < n
    at_case (inl lt) = lt
    at_case (inr le) = absurd (omega (arith, length_same (life s) [] (o.ahead s le)))

open_not_gone : (n : Node) → IsOpen n → is_gone n ≡ false
open_not_gone (node.Meta m) o = refl
open_not_gone _ o = absurd o

final_not_gone : (n : Node) → IsFinal n → is_gone n ≡ false
final_not_gone (node.Meta m) o = refl
final_not_gone _ o = absurd o

pub deletions_of-kept :
    (h : List Seen) (w : Seen) (p : Partition) → is_gone w.node ≡ false
    → deletions_of (h ++ w ∷ []) p ≡ deletions_of h p
deletions_of-kept h w p e =
    deletions_of-more h w p
    ∙ ap (λ (b : Bool). deletions_of h p + cond b 1 0) (and_right (is_node_of p w.key) (is_gone w.node) e)
    ∙ omega arith

deletions_of-gone :
    (h : List Seen) (w : Seen) (p : Partition) → is_node_of p w.key ≡ true → w.node ≡ node.Gone
    → deletions_of (h ++ w ∷ []) p ≡ deletions_of h p + 1
deletions_of-gone h w p same gone =
    deletions_of-more h w p
    ∙ ap
    (λ (b : Bool). deletions_of h p + cond b 1 0)
    (and_from (is_node_of p w.key) (is_gone w.node) same (ap is_gone gone))

InOrder-by :
    (h : List Seen) (p : Partition) (w : Seen) (m n : ℕ)
    → deletions_of (h ++ w ∷ []) p ≡ m → sequences_of (h ++ w ∷ []) p ≡ n
    → IsOrdered (life_of (h ++ w ∷ []) p) m n → InOrder (h ++ w ∷ []) p
InOrder-by h p w m n lowest count o =
    IsOrdered-same
    (life_of (h ++ w ∷ []) p)
    (life_of (h ++ w ∷ []) p)
    m
    n
    (deletions_of (h ++ w ∷ []) p)
    (sequences_of (h ++ w ∷ []) p)
    (λ t. refl)
    lowest
    count
    o

-- a segment in progress ends
InOrder-ends :
    (h : List Seen) (p : Partition) (s : ℕ) (from w : Seen)
    → IsVersioned h → InOrder h p → Has h from → Stands h from → from.key ≡ node_key p s
    → w.key ≡ node_key p s → Ends from.node w.node
    → InOrder (h ++ w ∷ []) p
InOrder-ends h p s from w versions o has stands from_key w_key ends =
    let last = last_of_life h p s from versions has stands from_key in
    let alone = life_open (life_of h p s) from (o.lives s) last (Ends-from_open from.node w.node ends) in
    let past = past_same p w.key s w_key in
    let within : s < sequences_of h p =
    begun_within
    (life_of h p) (deletions_of h p) (sequences_of h p) s o
    (omega (arith, length_same (life_of h p s) (from ∷ []) alone)) in
    InOrder-by h p w (deletions_of h p) (sequences_of h p)
    (deletions_of-kept h w p (final_not_gone w.node (Ends-final from.node w.node ends)))
    (sequences_of-more h w p ∙ omega (arith, past.0, within))
    (IsOrdered-ends
    (life_of h p) (life_of (h ++ w ∷ []) p) (deletions_of h p) (sequences_of h p) s w from
    o (Adds-write h p w s w_key) alone ends)

pub gone_in_life :
    (ws : List Seen) (w : Seen) → IsLife ws → Has ws w → w.node ≡ node.Gone → length ws ≡ 3
gone_in_life [] w l a g = absurd a
gone_in_life (c ∷ []) w l (inl a) g = absurd (gone_not_open c.node (ap (λ (x : Seen). x.node) a ∙ g) l)
gone_in_life (c ∷ []) w l (inr a) g = absurd a
gone_in_life (c ∷ d ∷ []) w l (inl a) g = absurd (gone_not_open c.node (ap (λ (x : Seen). x.node) a ∙ g) l.0)
gone_in_life (c ∷ d ∷ []) w l (inr (inl a)) g =
    absurd (gone_not_final d.node (ap (λ (x : Seen). x.node) a ∙ g) (Ends-final c.node d.node l.1))
gone_in_life (c ∷ d ∷ []) w l (inr (inr a)) g = absurd a
gone_in_life (c ∷ d ∷ e ∷ []) w l a g = refl
gone_in_life (c ∷ d ∷ e ∷ v ∷ ws) w l a g = absurd l

-- a segment that was deleted has lived to the end
pub deleted_over :
    (h : List Seen) (p : Partition) (t : ℕ) → InOrder h p → IsDeleted h p t → length (life_of h p t) ≡ 3
deleted_over h p t o d =
    gone_in_life (life_of h p t) d.0 (o.lives t) (Has-writes_of h d.0 (node_key p t) d.1 d.2) d.3

-- a segment that is not over, with all below it deleted, is the lowest
lowest_is :
    (h : List Seen) (p : Partition) (s : ℕ) → InOrder h p → length (life_of h p s) ≡ 2
    → ((t : ℕ) → t < s → IsDeleted h p t) → s ≡ deletions_of h p
lowest_is h p s o two below = at_case (cases_order s (deletions_of h p))
  where
    at_case :
        (s ≡ deletions_of h p) ⊎ ((s < deletions_of h p) ⊎ (deletions_of h p < s))
        → s ≡ deletions_of h p
    at_case (inl e) = e
    at_case (inr (inl lt)) = absurd (omega (arith, o.over s lt, two))
    at_case (inr (inr lt)) =
        absurd (omega (
          arith,
          o.present (deletions_of h p) (omega arith),
          deleted_over h p (deletions_of h p) o (below (deletions_of h p) lt),
        ))

-- the lowest segment, which has ended, is deleted
InOrder-deletes :
    (h : List Seen) (p : Partition) (s : ℕ) (from w : Seen)
    → IsVersioned h → InOrder h p → Has h from → Stands h from → from.key ≡ node_key p s
    → w.key ≡ node_key p s → w.node ≡ node.Gone → IsFinal from.node
    → IsCreated h p (s + 1) → ((t : ℕ) → t < s → IsDeleted h p t)
    → InOrder (h ++ w ∷ []) p
InOrder-deletes h p s from w versions o has stands from_key w_key gone final next below =
    let last = last_of_life h p s from versions has stands from_key in
    let lived = life_final (life_of h p s) from (o.lives s) last final in
    let two : length (life_of h p s) ≡ 2 = length_same (life_of h p s) (lived.0 ∷ from ∷ []) lived.1 in
    let past = past_same p w.key s w_key in
    let next_begun : s + 1 < sequences_of h p =
    begun_within (life_of h p) (deletions_of h p) (sequences_of h p) (s + 1) o
    (Has-length (life_of h p (s + 1)) next.0 (Has-writes_of h next.0 (node_key p (s + 1)) next.1 next.2)) in
    let lowest : s ≡ deletions_of h p = lowest_is h p s o two below in
    let P : ℕ → Type 0 = λ m. IsOrdered (life_of (h ++ w ∷ []) p) (m + 1) (sequences_of h p) in
    InOrder-by h p w (deletions_of h p + 1) (sequences_of h p)
    (deletions_of-gone h w p past.1 gone)
    (sequences_of-more h w p ∙ omega (arith, past.0, next_begun))
    (IsOrdered-deletes
    (life_of h p) (life_of (h ++ w ∷ []) p) (deletions_of h p) (sequences_of h p) w lived.0 from
    o
    (let A : ℕ → Type 0 = λ m. Adds (life_of h p) (life_of (h ++ w ∷ []) p) m w in
    subst A lowest (Adds-write h p w s w_key))
    (ap (life_of h p) (sym lowest) ∙ lived.1)
    gone
    (omega arith))

-- after a segment that is not over, an absent one was not created yet
count_is :
    (h : List Seen) (p : Partition) (s : ℕ) → InOrder h p → length (life_of h p s) ≡ 2
    → s < sequences_of h p → value_of h (node_key p (s + 1)) ≡ None → sequences_of h p ≡ s + 1
count_is h p s o two begun absent = at_case (life_absent (life_of h p (s + 1)) (o.lives (s + 1)) absent)
  where
    not_over : length (life_of h p (s + 1)) ≡ 3 → s + 1 < deletions_of h p → ⊥
    not_over three lt = omega (arith, o.over s (omega arith), two)

    by_count : life_of h p (s + 1) ≡ [] → (s + 1 < sequences_of h p) ⊎ (sequences_of h p ≤ s + 1) → sequences_of h p ≡ s + 1
    by_count empty (inl lt) = absurd (omega (arith, o.begun (s + 1) lt, length_same (life_of h p (s + 1)) [] empty))
    by_count empty (inr le) = omega arith

    by_lowest :
        length (life_of h p (s + 1)) ≡ 3 → (s + 1 < deletions_of h p) ⊎ (deletions_of h p ≤ s + 1)
        → sequences_of h p ≡ s + 1
    by_lowest three (inl lt) = absurd (not_over three lt)
    by_lowest three (inr le) = absurd (omega (arith, o.present (s + 1) le, three))

    at_case :
        (life_of h p (s + 1) ≡ []) ⊎ (length (life_of h p (s + 1)) ≡ 3) → sequences_of h p ≡ s + 1
    at_case (inl empty) = by_count empty (cases_lt (s + 1) (sequences_of h p))
    at_case (inr three) = by_lowest three (cases_lt (s + 1) (deletions_of h p))

-- the segment after one that has ended is created
InOrder-creates :
    (h : List Seen) (p : Partition) (s : ℕ) (prior w : Seen)
    → IsVersioned h → InOrder h p → Has h prior → Stands h prior → prior.key ≡ node_key p s
    → w.key ≡ node_key p (s + 1) → value_of h (node_key p (s + 1)) ≡ None → Follows prior.node w.node
    → InOrder (h ++ w ∷ []) p
InOrder-creates h p s prior w versions o has stands prior_key w_key absent follows =
    let last = last_of_life h p s prior versions has stands prior_key in
    let lived = life_final (life_of h p s) prior (o.lives s) last (Follows-final prior.node w.node follows) in
    let two : length (life_of h p s) ≡ 2 = length_same (life_of h p s) (lived.0 ∷ prior ∷ []) lived.1 in
    let past = past_same p w.key (s + 1) w_key in
    let begun : s < sequences_of h p =
    begun_within (life_of h p) (deletions_of h p) (sequences_of h p) s o (omega arith) in
    let count : sequences_of h p ≡ s + 1 = count_is h p s o two begun absent in
    let new = sequences_of-more h w p in
    InOrder-by h p w (deletions_of h p) (s + 1 + 1)
    (deletions_of-kept h w p (open_not_gone w.node (Follows-open prior.node w.node follows)))
    (new ∙ omega (arith, past.0, count))
    (IsOrdered-creates
    (life_of h p) (life_of (h ++ w ∷ []) p) (deletions_of h p) s w lived.0 prior
    (let P : ℕ → Type 0 = λ n. IsOrdered (life_of h p) (deletions_of h p) n in subst P count o)
    (Adds-write h p w (s + 1) w_key)
    lived.1
    follows)

-- ---- one lawful write more

-- a key is that of a node of the partition, or of none
pub by_partition :
    (p : Partition) (k : Key) (P : Type 0)
    → ((t : ℕ) → k ≡ node_key p t → P) → (((t : ℕ) → k ≡ node_key p t → ⊥) → P) → P
by_partition p (key.Meta q s) P own other = by_test (q.0 == p.0) refl
  where
    by_test : (b : Bool) → (q.0 == p.0) ≡ b → P
    by_test true e =
        own s.0 (ap (λ (x : Partition). key.Meta x s) (same_partition q p (eqb-true q.0 p.0 e)))
    by_test false e = other (λ t same. both_ways _ e (eq-eqb q.0 p.0 (ap (partition_by q.0) same)))
by_partition p key.Ideal P own other = other (λ t same. cc)
by_partition p (key.Boot i) P own other = other (λ t same. cc)

pub HasNode-more :
    (h more : List Seen) (p : Partition) (s : ℕ) (P : Node → Type 0) → HasNode h p s P → HasNode (h ++ more) p s P
HasNode-more h more p s P (w, has, of, shows) = (w, Has-append_left h more w has, of, shows)

after_key :
    (j : Key) (p : Partition) (t : ℕ) → IsAfter j (node_key p t)
    → (s : ℕ) × (j ≡ node_key p s) × (t ≡ s + 1)
after_key (key.Meta q s) p t a = (s.0, ap (λ (x : Partition). key.Meta x s) (sym a.0), a.1)
after_key key.Ideal p t a = absurd a
after_key (key.Boot i) p t a = absurd a

-- a first segment's node that was seen
abbrev pub HasFirst : List Seen → Partition → Type 0
HasFirst seen p = (w : Seen) × Has seen w × (w.key ≡ node_key p 0)

pub InOrder-call :
    (seen unseen : List Seen) (p : Partition) → HasFirst seen p
    → IsVersioned (seen ++ unseen) → InOrder (seen ++ unseen) p
    → (call : Write) → IsLawful seen call → TakesEffect (seen ++ unseen) call
    → InOrder ((seen ++ unseen) ++ written_by (seen ++ unseen) call ∷ []) p
InOrder-call seen unseen p first versions o (create k n) lawful effect =
    let h = seen ++ unseen in
    let w = write_of h k n in
    by_partition p k (InOrder (h ++ w ∷ []) p)
    (λ t same.
    let P : Key → Type 0 = λ x. IsLawfulCreate seen x n in
    let at_p = subst P same lawful in
    let zero_key : first.0.key ≡ node_key p t = first.2 ∙ ap (node_key p) (sym at_p.0) in
    absurd (no_first seen (node_key p t) first.0 first.1 zero_key at_p.2))
    (λ ne. InOrder-other h p w ne o)
InOrder-call seen unseen p first versions o (set from n) lawful effect =
    let h = seen ++ unseen in
    let w = write_of h from.key n in
    by_partition p from.key (InOrder (h ++ w ∷ []) p)
    (λ t same.
    let P : Key → Type 0 = λ x. Sets seen x from.node n in
    InOrder-ends h p t from w versions o
    (Has-append_left seen unseen from lawful.0) effect same same (subst P same lawful.1))
    (λ ne. InOrder-other h p w ne o)
InOrder-call seen unseen p first versions o (delete from) lawful effect =
    let h = seen ++ unseen in
    let w = write_of h from.key node.Gone in
    by_partition p from.key (InOrder (h ++ w ∷ []) p)
    (λ t same.
    let P : Key → Type 0 = λ x. Retires seen x from.node in
    let at_p = subst P same lawful.1 in
    InOrder-deletes h p t from w versions o
    (Has-append_left seen unseen from lawful.0) effect same same refl
    at_p.0
    (HasNode-more seen unseen p (t + 1) IsOpen at_p.1)
    (λ u lt. HasNode-more seen unseen p u (λ n. n ≡ node.Gone) (at_p.2 u lt)))
    (λ ne. InOrder-other h p w ne o)
InOrder-call seen unseen p first versions o (create_after k n prior) lawful effect =
    let h = seen ++ unseen in
    let w = write_of h k n in
    by_partition p k (InOrder (h ++ w ∷ []) p)
    (λ t same.
    let P : Key → Type 0 = λ x. IsAfter prior.key x in
    let after = after_key prior.key p t (subst P same lawful.1) in
    let at_next : k ≡ node_key p (after.0 + 1) = same ∙ ap (node_key p) after.2 in
    let Q : Key → Type 0 = λ x. value_of h x ≡ None in
    InOrder-creates h p after.0 prior w versions o
    (Has-append_left seen unseen prior lawful.0) effect.0 after.1 at_next
    (subst Q at_next effect.1)
    lawful.2)
    (λ ne. InOrder-other h p w ne o)
InOrder-call seen unseen p first versions o (bump i) lawful effect =
    let h = seen ++ unseen in
    InOrder-other h p (write_of h (key.Boot i) node.Boot) (λ t same. cc) o
