-- Nodes that live in order form a chain.
use Rattle.std.proofs.Common.{◌≡◌, ℕ, ◌+◌, ◌<◌, ◌≤◌, true, false, ◌⊎◌, inl, inr, List, [], ◌∷◌, length, Option, Some, None, is_some, refl, sym, ◌∙◌, ap, subst, arith}
use Rattle.std.proofs.lemmas.Bool.{both_ways, cases_lt}
use Rattle.std.proofs.lemmas.Option.{same_Some, none-some}
use Rattle.rt_base.specs.declared.numbers.Partition.{Partition}
use Rattle.rt_model.specs.declared.node.Node.{Node}
use Rattle.rt_model.specs.declared.node.Node.TheVariants as node
use Rattle.rt_model.specs.declared.node.Seen.{Seen}
use Rattle.rt_model.specs.declared.status.Status.{Status}
use Rattle.rt_model.specs.declared.status.Status.TheVariants.{InProgress, Done, Abandoned}
use Rattle.rt_lists.specs.Members.{Has}
use Rattle.rt_model.specs.History.{last_of, value_by, value_in, value_of}
use Rattle.rt_model.specs.Metadata.{node_key, life_of, sequences_of, IsOpen, IsDone, IsDoneStatus, IsFinal, IsFinalStatus, Ends, Follows}
use Rattle.rt_model.specs.Chain.{IsLife, start_by, start_in, IsPresent, IsCreation, IsPastStart, IsChainOf, deletions_of}
use Rattle.rt_model.proofs.Histories.{Has-writes_of, writes_of-Has}
use Rattle.rt_model.proofs.Lives.{IsLinked, IsFinal-open, Ends-open, Ends-final, gone_not_open, gone_not_final, length_same}
use Rattle.rt_lists.proofs.Members.{Has-length}
use Rattle.rt_model.proofs.Partitions.{InOrder}

-- ---- what a life shows

open_some : (n : Node) (w : Seen) → IsOpen n → is_some (value_by n w) ≡ true
open_some (node.Meta m) w o = refl
open_some _ w o = absurd o

final_some : (n : Node) (w : Seen) → IsFinal n → is_some (value_by n w) ≡ true
final_some (node.Meta m) w o = refl
final_some _ w o = absurd o

gone_none : (n : Node) (w : Seen) → n ≡ node.Gone → is_some (value_by n w) ≡ false
gone_none n w e = let P : Node → Type 0 = λ x. is_some (value_by x w) ≡ false in subst P (sym e) refl

life_shows :
    (ws : List Seen) → IsLife ws → 0 < length ws → length ws < 3 → is_some (value_in (last_of ws)) ≡ true
life_shows [] l some few = absurd (omega arith)
life_shows (c ∷ []) l some few = open_some c.node c l
life_shows (c ∷ e ∷ []) l some few = final_some e.node e (Ends-final c.node e.node l.1)
life_shows (c ∷ e ∷ g ∷ []) l some few = absurd (omega arith)
life_shows (c ∷ e ∷ g ∷ w ∷ ws) l some few = absurd l

life_hides : (ws : List Seen) → IsLife ws → (ws ≡ []) ⊎ (length ws ≡ 3) → is_some (value_in (last_of ws)) ≡ false
life_hides ws l (inl e) = ap (λ (x : List Seen). is_some (value_in (last_of x))) e
life_hides [] l (inr e) = refl
life_hides (c ∷ []) l (inr e) = absurd (omega arith)
life_hides (c ∷ e ∷ []) l (inr h) = absurd (omega arith)
life_hides (c ∷ e ∷ g ∷ []) l (inr h) = gone_none g.node g l.2
life_hides (c ∷ e ∷ g ∷ w ∷ ws) l (inr h) = absurd l

-- the first of some writes
abbrev pub first_of : List Seen → Option Seen
first_of [] = None
first_of (w ∷ ws) = Some w

-- a node in progress is the first of its life
pub open_first : (ws : List Seen) (w : Seen) → IsLife ws → Has ws w → IsOpen w.node → first_of ws ≡ Some w
open_first [] w l a o = absurd a
open_first (c ∷ ws) w l (inl e) o = ap Some e
open_first (c ∷ []) w l (inr a) o = absurd a
open_first (c ∷ e ∷ []) w l (inr (inl a)) o =
    absurd (Ends-open c.node e.node l.1 (open_by w e a o))
  where
    open_by : (w e : Seen) → e ≡ w → IsOpen w.node → IsOpen e.node
    open_by w e same o = let P : Seen → Type 0 = λ x. IsOpen x.node in subst P (sym same) o
open_first (c ∷ e ∷ []) w l (inr (inr a)) o = absurd a
open_first (c ∷ e ∷ g ∷ []) w l (inr (inl a)) o =
    absurd (Ends-open c.node e.node l.1 (open_by w e a o))
  where
    open_by : (w e : Seen) → e ≡ w → IsOpen w.node → IsOpen e.node
    open_by w e same o = let P : Seen → Type 0 = λ x. IsOpen x.node in subst P (sym same) o
open_first (c ∷ e ∷ g ∷ []) w l (inr (inr (inl a))) o =
    absurd (gone_not_open w.node (ap (λ (x : Seen). x.node) (sym a) ∙ l.2) o)
open_first (c ∷ e ∷ g ∷ []) w l (inr (inr (inr a))) o = absurd a
open_first (c ∷ e ∷ g ∷ v ∷ ws) w l (inr a) o = absurd l

-- an ended node is the second of its life, which it ends
pub record IsEndOf (ws : List Seen) (w : Seen) : Type 0 where
  pub created : Seen
  pub rest : List Seen
  pub lives : ws ≡ created ∷ w ∷ rest
  pub ends : Ends created.node w.node

final_not_first : (c w : Seen) → c ≡ w → IsOpen c.node → IsFinal w.node → ⊥
final_not_first c w e o f = let P : Seen → Type 0 = λ x. IsFinal x.node in IsFinal-open c.node (subst P (sym e) f) o

final_second_at : (c e w : Seen) (ws : List Seen) → e ≡ w → Ends c.node e.node → IsEndOf (c ∷ e ∷ ws) w
final_second_at c e w ws same ends =
    let P : Seen → Type 0 = λ x. IsEndOf (c ∷ e ∷ ws) x in
    subst P same (record { created = c; rest = ws; lives = refl; ends = ends })

pub final_second : (ws : List Seen) (w : Seen) → IsLife ws → Has ws w → IsFinal w.node → IsEndOf ws w
final_second [] w l a f = absurd a
final_second (c ∷ []) w l (inl a) f = absurd (final_not_first c w a l f)
final_second (c ∷ []) w l (inr a) f = absurd a
final_second (c ∷ e ∷ []) w l (inl a) f = absurd (final_not_first c w a l.0 f)
final_second (c ∷ e ∷ []) w l (inr (inl a)) f = final_second_at c e w [] a l.1
final_second (c ∷ e ∷ []) w l (inr (inr a)) f = absurd a
final_second (c ∷ e ∷ g ∷ []) w l (inl a) f = absurd (final_not_first c w a l.0 f)
final_second (c ∷ e ∷ g ∷ []) w l (inr (inl a)) f = final_second_at c e w (g ∷ []) a l.1
final_second (c ∷ e ∷ g ∷ []) w l (inr (inr (inl a))) f =
    absurd (gone_not_final w.node (ap (λ (x : Seen). x.node) (sym a) ∙ l.2) f)
final_second (c ∷ e ∷ g ∷ []) w l (inr (inr (inr a))) f = absurd a
final_second (c ∷ e ∷ g ∷ v ∷ ws) w l a f = absurd l

-- the life of a created node begins with its creation
begins : (ws : List Seen) → IsLife ws → 0 < length ws → (c : Seen) × (first_of ws ≡ Some c) × Has ws c × IsOpen c.node
begins [] l some = absurd (omega arith)
begins (c ∷ []) l some = (c, refl, inl refl, l)
begins (c ∷ e ∷ []) l some = (c, refl, inl refl, l.0)
begins (c ∷ e ∷ g ∷ []) l some = (c, refl, inl refl, l.0)
begins (c ∷ e ∷ g ∷ w ∷ ws) l some = absurd l

-- what a created node follows
linked_first :
    (ws ds : List Seen) (d : Seen) → IsLinked ws ds → first_of ds ≡ Some d
    → (e : Seen) × Has ws e × Follows e.node d.node
linked_first ws [] d l e = absurd (none-some d e)
linked_first [] (x ∷ ds) d l e = absurd l
linked_first (c ∷ []) (x ∷ ds) d l e = absurd l
linked_first (c ∷ b ∷ ws) (x ∷ ds) d l e =
    let P : Seen → Type 0 = λ y. Follows b.node y.node in (b, inr (inl refl), subst P (same_Some x d e) l)

IsDoneStatus-final : (s : Status) → IsDoneStatus s → IsFinalStatus s
IsDoneStatus-final InProgress d = d
IsDoneStatus-final (Done c) d = tt
IsDoneStatus-final Abandoned d = tt

pub IsDone-final : (n : Node) → IsDone n → IsFinal n
IsDone-final (node.Meta m) d = IsDoneStatus-final m.status d
IsDone-final _ d = absurd d

Ends-past : (a b : Node) → Ends a b → IsPastStart b
Ends-past (node.Meta a) (node.Meta b) e = e.3
Ends-past _ _ e = absurd e

start_of_first : (ws : List Seen) (w : Seen) → first_of ws ≡ Some w → start_in ws ≡ start_by w.node
start_of_first [] w e = absurd (none-some w e)
start_of_first (c ∷ ws) w e = ap (λ (x : Seen). start_by x.node) (same_Some c w e)

-- ---- the chain

abbrev creation_first : (h : List Seen) (p : Partition) → InOrder h p → (s : ℕ) (w : Seen) → IsCreation h p s w
    → first_of (life_of h p s) ≡ Some w
creation_first h p o s w c = open_first (life_of h p s) w (o.lives s) (Has-writes_of h w (node_key p s) c.has c.is_of) c.starts

present_at :
    (h : List Seen) (p : Partition) (s : ℕ) → InOrder h p → deletions_of h p ≤ s → s < sequences_of h p → IsPresent h p s
present_at h p s o low high = life_shows (life_of h p s) (o.lives s) (o.begun s high) (o.present s low)

at_present :
    (h : List Seen) (p : Partition) (s : ℕ) → InOrder h p → IsPresent h p s
    → (deletions_of h p ≤ s) × (s < sequences_of h p)
at_present h p s o here = (low (cases_lt s (deletions_of h p)), high (cases_lt s (sequences_of h p)))
  where
    hidden : (life_of h p s ≡ []) ⊎ (length (life_of h p s) ≡ 3) → ⊥
    hidden over = both_ways (is_some (value_of h (node_key p s))) (life_hides (life_of h p s) (o.lives s) over) here

    low : (s < deletions_of h p) ⊎ (deletions_of h p ≤ s) → deletions_of h p ≤ s
    low (inl lt) = absurd (hidden (inr (o.over s lt)))
    low (inr le) = le

    high : (s < sequences_of h p) ⊎ (sequences_of h p ≤ s) → s < sequences_of h p
    high (inl lt) = lt
    high (inr le) = absurd (hidden (inl (o.ahead s le)))

pub InOrder-chain :
    (h : List Seen) (p : Partition) → InOrder h p → IsChainOf h p (deletions_of h p) (sequences_of h p)
InOrder-chain h p o =
    record {
      some = o.some;
      present = λ s. (at_present h p s o, λ place. present_at h p s o place.0 place.1);
      created = λ s lt.
          let r = begins (life_of h p s) (o.lives s) (o.begun s lt) in
          let has = writes_of-Has h r.0 (node_key p s) r.2 in
          (r.0, record { has = has.0; is_of = has.1; starts = r.3 });
      uncreated = λ s w le has of.
          absurd (omega (
            arith,
            Has-length (life_of h p s) w (Has-writes_of h w (node_key p s) has of),
            length_same (life_of h p s) [] (o.ahead s le),
          ));
      once = λ s v w a b. same_Some v w (sym (creation_first h p o s v a) ∙ creation_first h p o s w b);
      from_zero = λ w c.
          sym (start_of_first (life_of h p 0) w (creation_first h p o 0 w c)) ∙ o.zero_start;
      next = λ s w c.
          let r = linked_first (life_of h p s) (life_of h p (s + 1)) w (o.linked s) (creation_first h p o (s + 1) w c) in
          let has = writes_of-Has h r.0 (node_key p s) r.1 in
          (r.0, has.0, has.1, r.2);
      past_start = λ s w has of done.
          let e = final_second (life_of h p s) w (o.lives s) (Has-writes_of h w (node_key p s) has of) (IsDone-final w.node done) in
          Ends-past e.created.node w.node e.ends;
    }
