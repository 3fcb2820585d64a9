-- Facts on histories: keys, the writes of a key, the last write, versions.
use Rattle.std.proofs.Common.{◌≡◌, ℕ, zero, suc, ◌+◌, Bool, true, false, cond, ◌==◌, ◌⊎◌, inl, inr, List, [], ◌∷◌, ◌++◌, length, Option, Some, None, refl, sym, ◌∙◌, ap, subst, arith, unwrap_or, slice_get}
use Rattle.std.proofs.lemmas.Bool.{eqb-true, eq-eqb, and_parts, and_from, cond_both, cond-true, cond-false, false_from_ne_true, both_ways}
use Rattle.std.proofs.lemmas.List.{append-nil}
use Rattle.std.proofs.lemmas.List.Elements.{filter-append}
use Rattle.std.proofs.lemmas.Option.{same_Some, none-some}
use Rattle.rt_base.specs.declared.numbers.Partition.{Partition}
use Rattle.rt_base.specs.declared.numbers.Sequence.{Sequence}
use Rattle.rt_base.specs.declared.numbers.Instance.{Instance}
use Rattle.rt_model.specs.declared.node.Key.{Key}
use Rattle.rt_model.specs.declared.node.Key.TheVariants as key
use Rattle.rt_model.specs.declared.node.Node.{Node}
use Rattle.rt_model.specs.declared.node.Node.TheVariants as node
use Rattle.rt_model.specs.declared.node.Seen.{Seen}
use Rattle.rt_lists.specs.Members.{Has}
use Rattle.rt_lists.proofs.Members.{Has-place}
use Rattle.rt_model.specs.History.{same_key, writes_of, last_of, last_write, next_version, IsVersioned, value_by, value_in, value_of, HasVersion, Stands}

-- ---- keys

pub same_partition : (p q : Partition) → p.0 ≡ q.0 → p ≡ q
same_partition p q e = let f : ℕ → Partition = λ n. record { 0 = n } in ap f e

pub same_sequence : (p q : Sequence) → p.0 ≡ q.0 → p ≡ q
same_sequence p q e = let f : ℕ → Sequence = λ n. record { 0 = n } in ap f e

pub same_instance : (p q : Instance) → p.0 ≡ q.0 → p ≡ q
same_instance p q e = let f : ℕ → Instance = λ n. record { 0 = n } in ap f e

pub same_key-true : (j k : Key) → same_key j k ≡ true → j ≡ k
same_key-true (key.Meta p s) (key.Meta q t) e =
    let both = and_parts (p.0 == q.0) (s.0 == t.0) e in
    let same_p : p ≡ q = same_partition p q (eqb-true p.0 q.0 both.0) in
    let same_s : s ≡ t = same_sequence s t (eqb-true s.0 t.0 both.1) in
    cc
same_key-true (key.Meta p s) key.Ideal e = cc
same_key-true (key.Meta p s) (key.Boot i) e = cc
same_key-true key.Ideal (key.Meta p s) e = cc
same_key-true key.Ideal key.Ideal e = refl
same_key-true key.Ideal (key.Boot i) e = cc
same_key-true (key.Boot i) (key.Meta p s) e = cc
same_key-true (key.Boot i) key.Ideal e = cc
same_key-true (key.Boot i) (key.Boot j) e = ap key.Boot (same_instance i j (eqb-true i.0 j.0 e))

pub same_key-refl : (k : Key) → same_key k k ≡ true
same_key-refl (key.Meta p s) =
    and_from (p.0 == p.0) (s.0 == s.0) (eq-eqb p.0 p.0 refl) (eq-eqb s.0 s.0 refl)
same_key-refl key.Ideal = refl
same_key-refl (key.Boot i) = eq-eqb i.0 i.0 refl

pub same_key-equal : (j k : Key) → j ≡ k → same_key j k ≡ true
same_key-equal j k e = let P : Key → Type 0 = λ x. same_key j x ≡ true in subst P e (same_key-refl j)

pub same_key-other : (j k : Key) → (j ≡ k → ⊥) → same_key j k ≡ false
same_key-other j k ne = false_from_ne_true (same_key j k) (λ e. ne (same_key-true j k e))

-- ---- the writes of a key

pub writes_of-more :
    (h : List Seen) (w : Seen) (k : Key) → w.key ≡ k → writes_of (h ++ w ∷ []) k ≡ writes_of h k ++ w ∷ []
writes_of-more h w k e =
    filter-append (λ v. same_key v.key k) h (w ∷ [])
    ∙ ap (λ ws. writes_of h k ++ ws) (cond-true (same_key w.key k) (w ∷ []) [] (same_key-equal w.key k e))

pub writes_of-other :
    (h : List Seen) (w : Seen) (k : Key) → (w.key ≡ k → ⊥) → writes_of (h ++ w ∷ []) k ≡ writes_of h k
writes_of-other h w k ne =
    filter-append (λ v. same_key v.key k) h (w ∷ [])
    ∙ ap (λ ws. writes_of h k ++ ws) (cond-false (same_key w.key k) (w ∷ []) [] (same_key-other w.key k ne))
    ∙ append-nil (writes_of h k)

pub writes_of-append :
    (g h : List Seen) (k : Key) → writes_of (g ++ h) k ≡ writes_of g k ++ writes_of h k
writes_of-append g h k = filter-append (λ v. same_key v.key k) g h

-- a write is among those of its key
pub Has-writes_of : (h : List Seen) (w : Seen) (k : Key) → Has h w → w.key ≡ k → Has (writes_of h k) w
Has-writes_of [] w k a e = absurd a
Has-writes_of (v ∷ h) w k (inl a) e =
    let same : same_key v.key k ≡ true = same_key-equal v.key k (ap (λ (x : Seen). x.key) a ∙ e) in
    let P : List Seen → Type 0 = λ ws. Has ws w in
    subst P (sym (cond-true (same_key v.key k) (v ∷ writes_of h k) (writes_of h k) same)) (inl a)
Has-writes_of (v ∷ h) w k (inr a) e =
    let P : List Seen → Type 0 = λ ws. Has ws w in
    let further : Has (writes_of h k) w = Has-writes_of h w k a e in
    cond_both (same_key v.key k) (v ∷ writes_of h k) (writes_of h k) P (λ _. inr further) (λ _. further)

kept_or_not :
    (h : List Seen) (v w : Seen) (k : Key) (b : Bool) → same_key v.key k ≡ b
    → (Has (writes_of h k) w → Has h w × (w.key ≡ k))
    → Has (cond b (v ∷ writes_of h k) (writes_of h k)) w → Has (v ∷ h) w × (w.key ≡ k)
kept_or_not h v w k false e further a = let r = further a in (inr r.0, r.1)
kept_or_not h v w k true e further (inl a) =
    (inl a, ap (λ (x : Seen). x.key) (sym a) ∙ same_key-true v.key k e)
kept_or_not h v w k true e further (inr a) = let r = further a in (inr r.0, r.1)

pub writes_of-Has : (h : List Seen) (w : Seen) (k : Key) → Has (writes_of h k) w → Has h w × (w.key ≡ k)
writes_of-Has [] w k a = absurd a
writes_of-Has (v ∷ h) w k a = kept_or_not h v w k (same_key v.key k) refl (writes_of-Has h w k) a

-- ---- the last write

pub last_of-more : (ws : List Seen) (w : Seen) → last_of (ws ++ w ∷ []) ≡ Some w
last_of-more [] w = refl
last_of-more (v ∷ ws) w = ap (λ o. Some (unwrap_or o v)) (last_of-more ws w)

pub last_write-more :
    (h : List Seen) (w : Seen) (k : Key) → w.key ≡ k → last_write (h ++ w ∷ []) k ≡ Some w
last_write-more h w k e = ap last_of (writes_of-more h w k e) ∙ last_of-more (writes_of h k) w

pub last_write-other :
    (h : List Seen) (w : Seen) (k : Key) → (w.key ≡ k → ⊥) → last_write (h ++ w ∷ []) k ≡ last_write h k
last_write-other h w k ne = ap last_of (writes_of-other h w k ne)

-- the last stands at the last place
pub last_of-place :
    (ws : List Seen) (w : Seen) → last_of ws ≡ Some w
    → (n : ℕ) × (length ws ≡ n + 1) × (slice_get ws n ≡ Some w)
last_of-place [] w e = absurd (none-some w e)
last_of-place (v ∷ []) w e = (0, refl, e)
last_of-place (v ∷ u ∷ ws) w e =
    let r = last_of-place (u ∷ ws) w (e) in
    (suc r.0, omega (arith, r.1), r.2)

-- ---- versions

-- the versions of some writes of one key are 0, 1, 2 and so on
abbrev pub AreVersioned : List Seen → Type 0
AreVersioned ws = (i : ℕ) (w : Seen) → slice_get ws i ≡ Some w → w.version ≡ i

-- a write that has the version of the last one is the last one
pub found_last :
    (ws : List Seen) (w l : Seen) → AreVersioned ws → Has ws w → last_of ws ≡ Some l
    → l.version ≡ w.version → w ≡ l
found_last ws w l versions has last same =
    let at = Has-place ws w has in
    let end = last_of-place ws l last in
    let w_at : w.version ≡ at.0 = versions at.0 w at.1 in
    let l_at : l.version ≡ end.0 = versions end.0 l end.2 in
    let places : at.0 ≡ end.0 = sym w_at ∙ sym same ∙ l_at in
    let P : ℕ → Type 0 = λ n. slice_get ws n ≡ Some w in
    same_Some w l (sym (subst P places at.1) ∙ end.2)

slice_get-more :
    (ws : List Seen) (w v : Seen) (i : ℕ) → slice_get (ws ++ w ∷ []) i ≡ Some v
    → (slice_get ws i ≡ Some v) ⊎ ((i ≡ length ws) × (w ≡ v))
slice_get-more [] w v zero e = inr (refl, same_Some w v e)
slice_get-more [] w v (suc i) e = absurd (none-some v e)
slice_get-more (u ∷ ws) w v zero e = inl e
slice_get-more (u ∷ ws) w v (suc i) e = one_on (slice_get-more ws w v i e)
  where
    one_on :
        (slice_get ws i ≡ Some v) ⊎ ((i ≡ length ws) × (w ≡ v))
        → (slice_get ws i ≡ Some v) ⊎ ((suc i ≡ suc (length ws)) × (w ≡ v))
    one_on (inl e) = inl e
    one_on (inr e) = inr (ap suc e.0, e.1)

AreVersioned-more :
    (ws : List Seen) (w : Seen) → AreVersioned ws → w.version ≡ length ws → AreVersioned (ws ++ w ∷ [])
AreVersioned-more ws w versions next i v e = at_either (slice_get-more ws w v i e)
  where
    at_either : (slice_get ws i ≡ Some v) ⊎ ((i ≡ length ws) × (w ≡ v)) → v.version ≡ i
    at_either (inl e) = versions i v e
    at_either (inr e) = ap (λ (x : Seen). x.version) (sym e.1) ∙ next ∙ sym e.0

AreVersioned-same : (vs ws : List Seen) → vs ≡ ws → AreVersioned vs → AreVersioned ws
AreVersioned-same vs ws e h = let P : List Seen → Type 0 = AreVersioned in subst P e h

pub IsVersioned-more :
    (h : List Seen) (w : Seen) → IsVersioned h → w.version ≡ next_version h w.key → IsVersioned (h ++ w ∷ [])
IsVersioned-more h w versions next k = by_key (same_key w.key k) refl
  where
    by_key : (b : Bool) → same_key w.key k ≡ b → AreVersioned (writes_of (h ++ w ∷ []) k)
    by_key true e =
        let same : w.key ≡ k = same_key-true w.key k e in
        AreVersioned-same
        (writes_of h k ++ w ∷ [])
        (writes_of (h ++ w ∷ []) k)
        (sym (writes_of-more h w k same))
        (AreVersioned-more (writes_of h k) w (versions k) (next ∙ ap (λ j. length (writes_of h j)) same))
    by_key false e =
        AreVersioned-same
        (writes_of h k)
        (writes_of (h ++ w ∷ []) k)
        (sym (writes_of-other h w k (λ same. both_ways _ e (same_key-equal w.key k same))))
        (versions k)

-- ---- values

value_by-last : (n : Node) (l : Seen) (v : Seen) → value_by n l ≡ Some v → (l ≡ v) × (n ≡ node.Gone → ⊥)
value_by-last (node.Meta m) l v e = (same_Some l v e, λ g. cc)
value_by-last (node.Ideal i) l v e = (same_Some l v e, λ g. cc)
value_by-last node.Boot l v e = (same_Some l v e, λ g. cc)
value_by-last node.Gone l v e = absurd (none-some v e)

value_in-last :
    (o : Option Seen) (v : Seen) → value_in o ≡ Some v → (o ≡ Some v) × (v.node ≡ node.Gone → ⊥)
value_in-last None v e = absurd (none-some v e)
value_in-last (Some l) v e =
    let r = value_by-last l.node l v e in
    (ap Some r.0, λ g. r.1 (ap (λ (x : Seen). x.node) r.0 ∙ g))

-- a value is the last write, and no deletion
pub value_of-last :
    (h : List Seen) (k : Key) (v : Seen) → value_of h k ≡ Some v
    → (last_write h k ≡ Some v) × (v.node ≡ node.Gone → ⊥)
value_of-last h k v e = value_in-last (last_write h k) v e

-- the write that was read and still stands is the last one
pub Stands-last :
    (h : List Seen) (from : Seen) → IsVersioned h → Has h from → Stands h from
    → (last_write h from.key ≡ Some from) × (from.node ≡ node.Gone → ⊥)
Stands-last h from versions has stands = by_value (value_of h from.key) refl stands
  where
    by_value :
        (o : Option Seen) → value_of h from.key ≡ o → HasVersion from.version o
        → (last_write h from.key ≡ Some from) × (from.node ≡ node.Gone → ⊥)
    by_value None e stands = absurd stands
    by_value (Some v) e stands =
        let last = value_of-last h from.key v e in
        let same : from ≡ v =
        found_last
        (writes_of h from.key)
        from
        v
        (versions from.key)
        (Has-writes_of h from from.key has refl)
        last.0
        stands in
        (last.0 ∙ ap Some (sym same), λ g. last.1 (ap (λ (x : Seen). x.node) (sym same) ∙ g))
