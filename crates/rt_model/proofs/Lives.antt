-- The lives of a partition's nodes, as a function of the sequence: how they are linked, and what one write
-- more keeps of it.
use Rattle.std.proofs.Common.{◌≡◌, ℕ, ◌+◌, ◌<◌, ◌⊎◌, inl, inr, List, [], ◌∷◌, ◌++◌, length, Some, None, refl, sym, ◌∙◌, ap, subst, arith}
use Rattle.std.proofs.lemmas.Bool.{cases_eq}
use Rattle.std.proofs.lemmas.Option.{same_Some, none-some}
use Rattle.rt_base.specs.declared.numbers.Offset.{Offset}
use Rattle.rt_model.specs.declared.node.Node.{Node}
use Rattle.rt_model.specs.declared.node.Node.TheVariants as node
use Rattle.rt_model.specs.declared.node.Seen.{Seen}
use Rattle.rt_model.specs.declared.status.Status.{Status}
use Rattle.rt_model.specs.declared.status.Status.TheVariants.{InProgress, Done, Abandoned}
use Rattle.rt_model.specs.History.{last_of, value_by, value_in}
use Rattle.rt_model.specs.Metadata.{IsInProgress, IsOpen, IsDoneStatus, IsDone, IsFinalStatus, IsFinal, IsEndFrom, Ends, StartsAfter, Follows}
pub use Rattle.rt_model.specs.Chain.{IsLinked, IsOrdered}
use Rattle.rt_model.specs.Chain.{IsLife, start_in}

-- ---- nodes

IsEndFrom-open : (start : Offset) (s : Status) → IsEndFrom start s → IsInProgress s → ⊥
IsEndFrom-open start InProgress e o = e
IsEndFrom-open start (Done c) e o = o
IsEndFrom-open start Abandoned e o = o

pub Ends-open : (a b : Node) → Ends a b → IsOpen b → ⊥
Ends-open (node.Meta a) (node.Meta b) e o = IsEndFrom-open b.start b.status e.3 o
Ends-open _ _ e o = absurd e

IsFinalStatus-open : (s : Status) → IsFinalStatus s → IsInProgress s → ⊥
IsFinalStatus-open InProgress e o = e
IsFinalStatus-open (Done c) e o = o
IsFinalStatus-open Abandoned e o = o

pub IsFinal-open : (n : Node) → IsFinal n → IsOpen n → ⊥
IsFinal-open (node.Meta a) e o = IsFinalStatus-open a.status e o
IsFinal-open _ e o = absurd e

IsDoneStatus-open : (s : Status) → IsInProgress s → IsDoneStatus s → ⊥
IsDoneStatus-open InProgress o d = d
IsDoneStatus-open (Done c) o d = o
IsDoneStatus-open Abandoned o d = o

pub open_undone : (n : Node) → IsOpen n → IsDone n → ⊥
open_undone (node.Meta a) o d = IsDoneStatus-open a.status o d
open_undone _ o d = absurd o

StartsAfter-final : (s : Status) (a b : Offset) → StartsAfter s a b → IsFinalStatus s
StartsAfter-final InProgress a b e = e
StartsAfter-final (Done c) a b e = tt
StartsAfter-final Abandoned a b e = tt

pub Follows-final : (a b : Node) → Follows a b → IsFinal a
Follows-final (node.Meta a) (node.Meta b) e = StartsAfter-final a.status a.start b.start e.1
Follows-final _ _ e = absurd e

pub Follows-open : (a b : Node) → Follows a b → IsOpen b
Follows-open (node.Meta a) (node.Meta b) e = e.0
Follows-open _ _ e = absurd e

pub Ends-from_open : (a b : Node) → Ends a b → IsOpen a
Ends-from_open (node.Meta a) (node.Meta b) e = e.0
Ends-from_open _ _ e = absurd e

IsEndFrom-final : (start : Offset) (s : Status) → IsEndFrom start s → IsFinalStatus s
IsEndFrom-final start InProgress e = e
IsEndFrom-final start (Done c) e = tt
IsEndFrom-final start Abandoned e = tt

pub Ends-final : (a b : Node) → Ends a b → IsFinal b
Ends-final (node.Meta a) (node.Meta b) e = IsEndFrom-final b.start b.status e.3
Ends-final _ _ e = absurd e

pub gone_not_open : (n : Node) → n ≡ node.Gone → IsOpen n → ⊥
gone_not_open n e o = let P : Node → Type 0 = IsOpen in subst P e o

pub gone_not_final : (n : Node) → n ≡ node.Gone → IsFinal n → ⊥
gone_not_final n e o = let P : Node → Type 0 = IsFinal in subst P e o

open_shows : (n : Node) (w : Seen) → IsOpen n → value_by n w ≡ None → ⊥
open_shows (node.Meta m) w o e = none-some w (sym e)
open_shows _ w o e = absurd o

final_shows : (n : Node) (w : Seen) → IsFinal n → value_by n w ≡ None → ⊥
final_shows (node.Meta m) w o e = none-some w (sym e)
final_shows _ w o e = absurd o

-- ---- one life

node_same : (P : Node → Type 0) (v w : Seen) → v ≡ w → P w.node → P v.node
node_same P v w e h = subst P (ap (λ (x : Seen). x.node) (sym e)) h

-- a node in progress that was written last is all of its life
pub life_open : (ws : List Seen) (w : Seen) → IsLife ws → last_of ws ≡ Some w → IsOpen w.node → ws ≡ w ∷ []
life_open [] w l e o = absurd (none-some w e)
life_open (c ∷ []) w l e o = ap (λ (x : Seen). x ∷ []) (same_Some c w e)
life_open (c ∷ d ∷ []) w l e o =
    absurd (Ends-open c.node d.node l.1 (node_same IsOpen d w (same_Some d w e) o))
life_open (c ∷ d ∷ g ∷ []) w l e o =
    absurd (gone_not_open g.node l.2 (node_same IsOpen g w (same_Some g w e) o))
life_open (c ∷ d ∷ g ∷ v ∷ ws) w l e o = absurd l

-- an ended node that was written last was written second
pub life_final :
    (ws : List Seen) (w : Seen) → IsLife ws → last_of ws ≡ Some w → IsFinal w.node
    → (c : Seen) × (ws ≡ c ∷ w ∷ []) × IsOpen c.node × Ends c.node w.node
life_final [] w l e o = absurd (none-some w e)
life_final (c ∷ []) w l e o =
    absurd (IsFinal-open c.node (node_same IsFinal c w (same_Some c w e) o) l)
life_final (c ∷ d ∷ []) w l e o =
    let same : d ≡ w = same_Some d w e in
    let P : Seen → Type 0 = λ x. Ends c.node x.node in
    (c, ap (λ (x : Seen). c ∷ x ∷ []) same, l.0, subst P same l.1)
life_final (c ∷ d ∷ g ∷ []) w l e o =
    absurd (gone_not_final g.node l.2 (node_same IsFinal g w (same_Some g w e) o))
life_final (c ∷ d ∷ g ∷ v ∷ ws) w l e o = absurd l

-- a node that is absent was not created yet, or its life is over
pub life_absent :
    (ws : List Seen) → IsLife ws → value_in (last_of ws) ≡ None → (ws ≡ []) ⊎ (length ws ≡ 3)
life_absent [] l e = inl refl
life_absent (c ∷ []) l e = absurd (open_shows c.node c l e)
life_absent (c ∷ d ∷ []) l e = absurd (final_shows d.node d (Ends-final c.node d.node l.1) e)
life_absent (c ∷ d ∷ g ∷ []) l e = inr refl
life_absent (c ∷ d ∷ g ∷ v ∷ ws) l e = absurd l

-- ---- all lives of a partition

-- one write more, at a sequence
pub record Adds (old new : ℕ → List Seen) (s : ℕ) (w : Seen) : Type 0 where
  pub here : new s ≡ old s ++ w ∷ []
  pub others : (t : ℕ) → (t ≡ s → ⊥) → new t ≡ old t

pub either : (s n : ℕ) (P : Type 0) → (s ≡ n → P) → ((s ≡ n → ⊥) → P) → P
either s n P same other = at_case (cases_eq s n)
  where
    at_case : (s ≡ n) ⊎ (s ≡ n → ⊥) → P
    at_case (inl e) = same e
    at_case (inr e) = other e

pub IsLife-same : (vs ws : List Seen) → vs ≡ ws → IsLife ws → IsLife vs
IsLife-same vs ws e l = let P : List Seen → Type 0 = IsLife in subst P (sym e) l

pub IsLinked-same : (a b c d : List Seen) → a ≡ b → c ≡ d → IsLinked b d → IsLinked a c
IsLinked-same a b c d e f l =
    let P : List Seen → Type 0 = λ x. IsLinked x d in
    let Q : List Seen → Type 0 = λ x. IsLinked a x in
    subst Q (sym f) (subst P (sym e) l)

pub linked_to_none : (ws : List Seen) → IsLinked ws []
linked_to_none [] = tt
linked_to_none (c ∷ ws) = tt

-- after a life that has not ended none has begun
pub linked_open : (c : Seen) (ds : List Seen) → IsLinked (c ∷ []) ds → ds ≡ []
linked_open c [] l = refl
linked_open c (d ∷ ds) l = absurd l

-- what a life is linked to depends on its beginning alone
linked_tail : (ws : List Seen) (d : Seen) (ds es : List Seen) → IsLinked ws (d ∷ ds) → IsLinked ws (d ∷ es)
linked_tail [] d ds es l = l
linked_tail (c ∷ []) d ds es l = l
linked_tail (c ∷ e ∷ ws) d ds es l = l

linked_more : (c e : Seen) (vs ws ds : List Seen) → IsLinked (c ∷ e ∷ vs) ds → IsLinked (c ∷ e ∷ ws) ds
linked_more c e vs ws [] l = tt
linked_more c e vs ws (d ∷ ds) l = l

pub length_same : (vs ws : List Seen) → vs ≡ ws → length vs ≡ length ws
length_same vs ws e = ap (λ (x : List Seen). length x) e

-- the next segment is created
pub IsOrdered-creates :
    (old new : ℕ → List Seen) (m k : ℕ) (w c e : Seen)
    → IsOrdered old m (k + 1) → Adds old new (k + 1) w → old k ≡ c ∷ e ∷ [] → Follows e.node w.node
    → IsOrdered new m (k + 1 + 1)
IsOrdered-creates old new m k w c e o a before follows =
    let empty : old (k + 1) ≡ [] = o.ahead (k + 1) (omega arith) in
    let here : new (k + 1) ≡ w ∷ [] = a.here ∙ ap (λ (x : List Seen). x ++ w ∷ []) empty in
    record {
      lives = λ s.
          either s (k + 1) (IsLife (new s))
          (λ same. IsLife-same (new s) (w ∷ []) (ap new same ∙ here) (Follows-open e.node w.node follows))
          (λ other. IsLife-same (new s) (old s) (a.others s other) (o.lives s));
      linked = λ s.
          either s (k + 1) (IsLinked (new s) (new (s + 1)))
          (λ same.
          let next : new (s + 1) ≡ [] = a.others (s + 1) (λ q. absurd (omega arith)) ∙ o.ahead (s + 1) (omega arith) in
          IsLinked-same (new s) (new s) (new (s + 1)) [] refl next (linked_to_none (new s)))
          (λ other.
          either (s + 1) (k + 1) (IsLinked (new s) (new (s + 1)))
          (λ same.
          let at_k : s ≡ k = omega arith in
          IsLinked-same
          (new s) (c ∷ e ∷ []) (new (s + 1)) (w ∷ [])
          (a.others s other ∙ ap old at_k ∙ before)
          (ap new same ∙ here)
          follows)
          (λ next_other.
          IsLinked-same
          (new s) (old s) (new (s + 1)) (old (s + 1))
          (a.others s other) (a.others (s + 1) next_other) (o.linked s)));
      begun = λ s lt.
          either s (k + 1) (0 < length (new s))
          (λ same. omega (arith, length_same (new s) (w ∷ []) (ap new same ∙ here)))
          (λ other. omega (arith, o.begun s (omega arith), length_same (new s) (old s) (a.others s other)));
      ahead = λ s le. a.others s (λ q. absurd (omega arith)) ∙ o.ahead s (omega arith);
      over = λ s lt.
          let some : m < k + 1 = o.some in
          length_same (new s) (old s) (a.others s (λ q. absurd (omega arith))) ∙ o.over s lt;
      present = λ s le.
          either s (k + 1) (length (new s) < 3)
          (λ same. omega (arith, length_same (new s) (w ∷ []) (ap new same ∙ here)))
          (λ other. omega (arith, o.present s le, length_same (new s) (old s) (a.others s other)));
      some = omega (arith, o.some);
      zero_start = ap start_in (a.others 0 (λ q. absurd (omega arith))) ∙ o.zero_start;
    }

-- a segment in progress ends
pub IsOrdered-ends :
    (old new : ℕ → List Seen) (m n s : ℕ) (w c : Seen)
    → IsOrdered old m n → Adds old new s w → old s ≡ c ∷ [] → Ends c.node w.node
    → IsOrdered new m n
IsOrdered-ends old new m n s w c o a before ends =
    let here : new s ≡ c ∷ w ∷ [] = a.here ∙ ap (λ (x : List Seen). x ++ w ∷ []) before in
    let after : old (s + 1) ≡ [] =
    linked_open c (old (s + 1)) (IsLinked-same (c ∷ []) (old s) (old (s + 1)) (old (s + 1)) (sym before) refl (o.linked s)) in
    let short : length (old s) ≡ 1 = length_same (old s) (c ∷ []) before in
    record {
      lives = λ t.
          either t s (IsLife (new t))
          (λ same. IsLife-same (new t) (c ∷ w ∷ []) (ap new same ∙ here) (Ends-from_open c.node w.node ends, ends))
          (λ other. IsLife-same (new t) (old t) (a.others t other) (o.lives t));
      linked = λ t.
          either t s (IsLinked (new t) (new (t + 1)))
          (λ same.
          let next : new (t + 1) ≡ [] =
          a.others (t + 1) (λ q. absurd (omega arith)) ∙ ap (λ (x : ℕ). old (x + 1)) same ∙ after in
          IsLinked-same (new t) (new t) (new (t + 1)) [] refl next (linked_to_none (new t)))
          (λ other.
          either (t + 1) s (IsLinked (new t) (new (t + 1)))
          (λ same.
          IsLinked-same
          (new t) (old t) (new (t + 1)) (c ∷ w ∷ [])
          (a.others t other)
          (ap new same ∙ here)
          (linked_tail (old t) c [] (w ∷ [])
          (IsLinked-same (old t) (old t) (c ∷ []) (old (t + 1)) refl (sym (ap old same ∙ before)) (o.linked t))))
          (λ next_other.
          IsLinked-same
          (new t) (old t) (new (t + 1)) (old (t + 1))
          (a.others t other) (a.others (t + 1) next_other) (o.linked t)));
      begun = λ t lt.
          either t s (0 < length (new t))
          (λ same. omega (arith, length_same (new t) (c ∷ w ∷ []) (ap new same ∙ here)))
          (λ other. omega (arith, o.begun t lt, length_same (new t) (old t) (a.others t other)));
      ahead = λ t le.
          let empty : old t ≡ [] = o.ahead t le in
          a.others t (λ q. absurd (omega (arith, short, length_same (old t) [] empty, ap (λ (x : ℕ). length (old x)) q))) ∙ empty;
      over = λ t lt.
          let three : length (old t) ≡ 3 = o.over t lt in
          length_same (new t) (old t) (a.others t (λ q. absurd (omega (arith, short, three, ap (λ (x : ℕ). length (old x)) q)))) ∙ three;
      present = λ t le.
          either t s (length (new t) < 3)
          (λ same. omega (arith, length_same (new t) (c ∷ w ∷ []) (ap new same ∙ here)))
          (λ other. omega (arith, o.present t le, length_same (new t) (old t) (a.others t other)));
      some = o.some;
      zero_start =
          either 0 s (start_in (new 0) ≡ 0)
          (λ same.
          ap start_in (ap new same ∙ here)
          ∙ sym (ap start_in (ap old same ∙ before))
          ∙ o.zero_start)
          (λ other. ap start_in (a.others 0 other) ∙ o.zero_start);
    }

-- the lowest segment is deleted
pub IsOrdered-deletes :
    (old new : ℕ → List Seen) (m n : ℕ) (w c e : Seen)
    → IsOrdered old m n → Adds old new m w → old m ≡ c ∷ e ∷ [] → w.node ≡ node.Gone → m + 1 < n
    → IsOrdered new (m + 1) n
IsOrdered-deletes old new m n w c e o a before gone room =
    let here : new m ≡ c ∷ e ∷ w ∷ [] = a.here ∙ ap (λ (x : List Seen). x ++ w ∷ []) before in
    let life : IsLife (c ∷ e ∷ []) = IsLife-same (c ∷ e ∷ []) (old m) (sym before) (o.lives m) in
    record {
      lives = λ t.
          either t m (IsLife (new t))
          (λ same. IsLife-same (new t) (c ∷ e ∷ w ∷ []) (ap new same ∙ here) (life.0, life.1, gone))
          (λ other. IsLife-same (new t) (old t) (a.others t other) (o.lives t));
      linked = λ t.
          either t m (IsLinked (new t) (new (t + 1)))
          (λ same.
          IsLinked-same
          (new t) (c ∷ e ∷ w ∷ []) (new (t + 1)) (old (t + 1))
          (ap new same ∙ here)
          (a.others (t + 1) (λ q. absurd (omega arith)))
          (linked_more c e [] (w ∷ []) (old (t + 1))
          (IsLinked-same (c ∷ e ∷ []) (old t) (old (t + 1)) (old (t + 1)) (sym (ap old same ∙ before)) refl (o.linked t))))
          (λ other.
          either (t + 1) m (IsLinked (new t) (new (t + 1)))
          (λ same.
          IsLinked-same
          (new t) (old t) (new (t + 1)) (c ∷ e ∷ w ∷ [])
          (a.others t other)
          (ap new same ∙ here)
          (linked_tail (old t) c (e ∷ []) (e ∷ w ∷ [])
          (IsLinked-same (old t) (old t) (c ∷ e ∷ []) (old (t + 1)) refl (sym (ap old same ∙ before)) (o.linked t))))
          (λ next_other.
          IsLinked-same
          (new t) (old t) (new (t + 1)) (old (t + 1))
          (a.others t other) (a.others (t + 1) next_other) (o.linked t)));
      begun = λ t lt.
          either t m (0 < length (new t))
          (λ same. omega (arith, length_same (new t) (c ∷ e ∷ w ∷ []) (ap new same ∙ here)))
          (λ other. omega (arith, o.begun t lt, length_same (new t) (old t) (a.others t other)));
      ahead = λ t le. a.others t (λ q. absurd (omega arith)) ∙ o.ahead t le;
      over = λ t lt.
          either t m (length (new t) ≡ 3)
          (λ same. length_same (new t) (c ∷ e ∷ w ∷ []) (ap new same ∙ here))
          (λ other. length_same (new t) (old t) (a.others t other) ∙ o.over t (omega arith));
      present = λ t le.
          omega (arith, o.present t (omega arith), length_same (new t) (old t) (a.others t (λ q. absurd (omega arith))));
      some = room;
      zero_start =
          either 0 m (start_in (new 0) ≡ 0)
          (λ same.
          ap start_in (ap new same ∙ here)
          ∙ sym (ap start_in (ap old same ∙ before))
          ∙ o.zero_start)
          (λ other. ap start_in (a.others 0 other) ∙ o.zero_start);
    }
