-- The metadata list of a partition: one run of sequences, and of each the value of its key.
use Rattle.std.proofs.Common.{◌≡◌, ℕ, zero, suc, ◌+◌, ◌-◌, ◌<◌, ◌≤◌, ◌⊎◌, inl, inr, List, [], ◌∷◌, ◌++◌, map, length, Option, Some, None, refl, sym, ◌∙◌, ap, subst, arith}
use Rattle.std.specs.Prelude.{option_to_list}
use Rattle.std.specs.List.{range_with_len}
use Rattle.std.proofs.lemmas.Bool.{cases_lt}
use Rattle.std.proofs.lemmas.List.{append-nil, map-append}
use Rattle.rt_base.specs.declared.numbers.Partition.{Partition}
use Rattle.rt_lists.specs.Members.{Has}
use Rattle.rt_lists.proofs.Members.{Has-append_cases}
use Rattle.rt_model.specs.declared.node.Key.{Key}
use Rattle.rt_model.specs.declared.node.Listed.{Listed}
use Rattle.rt_model.specs.declared.node.Node.{Node}
use Rattle.rt_model.specs.declared.node.Node.TheVariants as node
use Rattle.rt_model.specs.declared.node.Seen.{Seen}
use Rattle.rt_model.specs.declared.seg_meta.SegMeta.{SegMeta}
use Rattle.rt_model.specs.Chain.{IsLife, InOrder, deletions_of}
use Rattle.rt_model.specs.History.{last_of, value_by, value_in, value_of}
use Rattle.rt_model.specs.Laws.{IsListing, HasListings}
use Rattle.rt_model.specs.Metadata.{node_key, life_of, listed_by, listed_in, listed_write, metadata_below, metadata_of, sequences_of, IsOpen, IsFinal, IsDeleted}
use Rattle.rt_model.specs.Lawful.{IsLawfulHistory}
use Rattle.rt_model.specs.Starting.{Starting}
use Rattle.rt_model.proofs.Histories.{value_of-last, writes_of-Has}
use Rattle.rt_model.proofs.Kept.{last_write-Has, lawful_kept}
use Rattle.rt_model.proofs.Lawful.{over_deleted}
use Rattle.rt_model.proofs.Lives.{Ends-final}

-- ---- a node that is present is listed

abbrev IsListed : ℕ → Option Seen → Type 0
IsListed s o = (l : Listed) × (listed_in s o ≡ Some l) × (l.sequence.0 ≡ s)

meta_listed : (s : ℕ) (m : SegMeta) (w : Seen) → w.node ≡ node.Meta m → IsListed s (Some w)
meta_listed s m w e = (
  record { sequence = record { 0 = s }; seen = record { version = w.version; meta = m } },
  ap (listed_by s w.version) e,
  refl,
)

open_listed : (s : ℕ) (n : Node) (w : Seen) → w.node ≡ n → IsOpen n → IsListed s (value_by n w)
open_listed s (node.Meta m) w e o = meta_listed s m w e
open_listed s _ w e o = absurd o

final_listed : (s : ℕ) (n : Node) (w : Seen) → w.node ≡ n → IsFinal n → IsListed s (value_by n w)
final_listed s (node.Meta m) w e f = meta_listed s m w e
final_listed s _ w e f = absurd f

life_listed : (s : ℕ) (ws : List Seen) → IsLife ws → 0 < length ws → length ws < 3 → IsListed s (value_in (last_of ws))
life_listed s [] l some few = absurd (omega arith)
life_listed s (c ∷ []) l some few = open_listed s c.node c refl l
life_listed s (c ∷ e ∷ []) l some few = final_listed s e.node e refl (Ends-final c.node e.node l.1)
life_listed s (c ∷ e ∷ g ∷ []) l some few = absurd (omega arith)
life_listed s (c ∷ e ∷ g ∷ w ∷ ws) l some few = absurd l

-- one that was deleted isn't
over_unlisted : (s : ℕ) (ws : List Seen) → IsLife ws → length ws ≡ 3 → listed_in s (value_in (last_of ws)) ≡ None
over_unlisted s [] l e = absurd (omega arith)
over_unlisted s (c ∷ []) l e = absurd (omega arith)
over_unlisted s (c ∷ d ∷ []) l e = absurd (omega arith)
over_unlisted s (c ∷ d ∷ g ∷ []) l e =
    let P : Node → Type 0 = λ n. listed_in s (value_by n g) ≡ None in subst P (sym l.2) refl
over_unlisted s (c ∷ d ∷ g ∷ w ∷ ws) l e = absurd l

-- ---- one run

range_more : (a n : ℕ) → range_with_len a (suc n) ≡ range_with_len a n ++ (a + n) ∷ []
range_more a zero = let e : a ≡ a + 0 = omega arith in ap (λ x. x ∷ []) e
range_more a (suc n) =
    let e : (a + 1) + n ≡ a + suc n = omega arith in
    ap (λ (xs : List ℕ). a ∷ xs) (range_more (a + 1) n)
    ∙ ap (λ x. a ∷ (range_with_len (a + 1) n ++ x ∷ [])) e

abbrev numbers : List Listed → List ℕ
numbers ls = map (λ l. l.sequence.0) ls

numbers_more :
    (ls : List Listed) (o : Option Listed) (l : Listed) → o ≡ Some l
    → numbers (ls ++ option_to_list o) ≡ numbers ls ++ l.sequence.0 ∷ []
numbers_more ls o l e = ap (λ x. numbers (ls ++ option_to_list x)) e ∙ map-append (λ l. l.sequence.0) ls (l ∷ [])

numbers_same :
    (ls : List Listed) (o : Option Listed) → o ≡ None → numbers (ls ++ option_to_list o) ≡ numbers ls
numbers_same ls o e = ap (λ x. numbers (ls ++ option_to_list x)) e ∙ ap numbers (append-nil ls)

run_below :
    (h : List Seen) (p : Partition) (k : ℕ) → InOrder h p → k ≤ sequences_of h p
    → numbers (metadata_below h p k) ≡ range_with_len (deletions_of h p) (k - deletions_of h p)
run_below h p zero o le =
    let none : 0 ≡ 0 - deletions_of h p = omega arith in ap (range_with_len (deletions_of h p)) none
run_below h p (suc k) o le = at_case (cases_lt k (deletions_of h p)) (run_below h p k o (omega arith))
  where
    at_case :
        (k < deletions_of h p) ⊎ (deletions_of h p ≤ k)
        → numbers (metadata_below h p k) ≡ range_with_len (deletions_of h p) (k - deletions_of h p)
        → numbers (metadata_below h p k ++ option_to_list (listed_in k (value_of h (node_key p k))))
        ≡ range_with_len (deletions_of h p) (suc k - deletions_of h p)
    at_case (inl lt) before =
        let same : k - deletions_of h p ≡ suc k - deletions_of h p = omega arith in
        numbers_same (metadata_below h p k) (listed_in k (value_of h (node_key p k)))
        (over_unlisted k (life_of h p k) (o.lives k) (o.over k lt))
        ∙ before
        ∙ ap (range_with_len (deletions_of h p)) same
    at_case (inr low) before =
        let l = life_listed k (life_of h p k) (o.lives k) (o.begun k (omega arith)) (o.present k low) in
        let at : l.0.sequence.0 ≡ deletions_of h p + (k - deletions_of h p) = omega (arith, l.2) in
        let next : suc (k - deletions_of h p) ≡ suc k - deletions_of h p = omega arith in
        numbers_more (metadata_below h p k) (listed_in k (value_of h (node_key p k))) l.0 l.1
        ∙ ap (λ (xs : List ℕ). xs ++ l.0.sequence.0 ∷ []) before
        ∙ ap (λ x. range_with_len (deletions_of h p) (k - deletions_of h p) ++ x ∷ []) at
        ∙ sym (range_more (deletions_of h p) (k - deletions_of h p))
        ∙ ap (range_with_len (deletions_of h p)) next

-- ---- the listed values

listed_by_node :
    (s version : ℕ) (n : Node) (l : Listed) → Has (option_to_list (listed_by s version n)) l
    → (l.sequence.0 ≡ s) × (l.seen.version ≡ version) × (n ≡ node.Meta l.seen.meta)
listed_by_node s version (node.Meta m) l (inl e) = (
  ap (λ (x : Listed). x.sequence.0) (sym e),
  ap (λ (x : Listed). x.seen.version) (sym e),
  ap (λ (x : Listed). node.Meta x.seen.meta) e,
)
listed_by_node s version (node.Meta m) l (inr h) = absurd h
listed_by_node s version (node.Ideal i) l h = absurd h
listed_by_node s version node.Boot l h = absurd h
listed_by_node s version node.Gone l h = absurd h

-- a write from its parts
abbrev made : Key → ℕ → Node → Seen
made k version n = record { key = k; version = version; node = n }

same_write : (v w : Seen) → v.key ≡ w.key → v.version ≡ w.version → v.node ≡ w.node → v ≡ w
same_write v w a b c =
    ap (λ k. made k v.version v.node) a ∙ ap (λ n. made w.key n v.node) b ∙ ap (λ m. made w.key w.version m) c

listed_value_at :
    (h : List Seen) (p : Partition) (s : ℕ) (o : Option Seen) (l : Listed) → value_of h (node_key p s) ≡ o
    → Has (option_to_list (listed_in s o)) l → value_of h (node_key p l.sequence.0) ≡ Some (listed_write p l)
listed_value_at h p s None l e has = absurd has
listed_value_at h p s (Some w) l e has =
    let parts = listed_by_node s w.version w.node l has in
    let last = last_write-Has h (node_key p s) w (value_of-last h (node_key p s) w e).0 in
    let at : w.key ≡ node_key p l.sequence.0 = last.1 ∙ ap (node_key p) (sym parts.0) in
    let same : w ≡ listed_write p l = same_write w (listed_write p l) at (sym parts.1) parts.2 in
    ap (λ t. value_of h (node_key p t)) parts.0 ∙ e ∙ ap Some same

listed_below :
    (h : List Seen) (p : Partition) (n : ℕ) (l : Listed) → Has (metadata_below h p n) l
    → value_of h (node_key p l.sequence.0) ≡ Some (listed_write p l)
listed_below h p zero l has = absurd has
listed_below h p (suc n) l has =
    by_cases (Has-append_cases (metadata_below h p n) (option_to_list (listed_in n (value_of h (node_key p n)))) l has) (listed_below h p n l)
  where
    by_cases :
        Has (metadata_below h p n) l ⊎ Has (option_to_list (listed_in n (value_of h (node_key p n)))) l
        → (Has (metadata_below h p n) l → value_of h (node_key p l.sequence.0) ≡ Some (listed_write p l))
        → value_of h (node_key p l.sequence.0) ≡ Some (listed_write p l)
    by_cases (inl before) further = further before
    by_cases (inr here) further = listed_value_at h p n (value_of h (node_key p n)) l refl here

-- what is listed is the value of its key
pub listed_value :
    (h : List Seen) (p : Partition) (l : Listed) → Has (metadata_of h p) l
    → value_of h (node_key p l.sequence.0) ≡ Some (listed_write p l)
listed_value h p l has = listed_below h p (sequences_of h p) l has

-- what is listed is a write of the history
pub listed_has : (h : List Seen) (p : Partition) (l : Listed) → Has (metadata_of h p) l → Has h (listed_write p l)
listed_has h p l has =
    (last_write-Has h (node_key p l.sequence.0) (listed_write p l)
    (value_of-last h (node_key p l.sequence.0) (listed_write p l) (listed_value h p l has)).0).0

pub below_deleted : (h : List Seen) (p : Partition) (t : ℕ) → InOrder h p → t < deletions_of h p → IsDeleted h p t
below_deleted h p t o lt =
    let g = over_deleted (life_of h p t) (o.lives t) (o.over t lt) in
    let has = writes_of-Has h g.0 (node_key p t) g.1 in
    (g.0, has.0, has.1, g.2)

pub InOrder-listing : (h : List Seen) (p : Partition) → InOrder h p → IsListing h p
InOrder-listing h p o =
    record {
      run = run_below h p (sequences_of h p) o (omega arith);
      values = λ l has. listed_value h p l has;
      below = λ t lt. below_deleted h p t o lt;
    }

pub has_listings : (s : Starting) (h : List Seen) → IsLawfulHistory s h → HasListings s h
has_listings s h l p lt = InOrder-listing h p ((lawful_kept s h l).order p lt)
