-- A committed segment lies below the mark of its partition where its node is gone, and above it where a node is there that isn't behind it.
use Rattle.std.proofs.Common.{◌≡◌, ◌<◌, ◌≤◌, ◌+◌, ◌-◌, ◌⊎◌, inl, inr, ℕ, zero, suc, List, [], ◌∷◌, length, Option, Some, None, refl, sym, ◌∙◌, ap, subst, arith}
use Rattle.std.proofs.lemmas.Bool.{cases_lt, false≢true}
use Rattle.std.proofs.lemmas.Option.{none-some, same_Some}
use Rattle.std.specs.Prelude.{IsSome}
use Rattle.rt_base.specs.declared.numbers.Offset.{Offset}
use Rattle.rt_base.specs.declared.numbers.Partition.{Partition}
use Rattle.rt_base.specs.declared.range.Range.{Range}
use Rattle.rt_lists.specs.Members.{Has}
use Rattle.rt_model.proofs.Histories.{Has-writes_of}
use Rattle.rt_model.proofs.Lawful.{has_chains, nodes_are_in_order}
use Rattle.rt_model.proofs.Listings.{has_listings}
use Rattle.rt_model.proofs.Partitions.{deleted_over}
use Rattle.rt_model.specs.Chain.{InOrder, IsLife, IsLinked, deletions_of, start_by, start_in}
use Rattle.rt_model.specs.History.{value_of}
use Rattle.rt_model.specs.Lawful.{IsLawfulHistory}
use Rattle.rt_model.specs.Metadata.{Ends, Follows, IsDeleted, IsInProgress, IsOpen, IsEndFrom, StartsAfter, life_of, node_key, sequences_of}
use Rattle.rt_model.specs.Starting.{Starting}
use Rattle.rt_model.specs.Tiled.{done_range, mark_of, range_by}
use Rattle.rt_model.specs.declared.node.Node.{Node}
use Rattle.rt_model.specs.declared.node.Node.TheVariants as node
use Rattle.rt_model.specs.declared.node.Seen.{Seen}
use Rattle.rt_model.specs.declared.status.Status.{Status}
use Rattle.rt_model.specs.declared.status.Status.TheVariants.{Abandoned, Done, InProgress}

-- ---- the range of a node

-- it starts where the node does
status_starts : (start : Offset) (s : Status) (r : Range) → range_by start s ≡ Some r → r.start ≡ start
status_starts start InProgress r e = absurd (none-some r e)
status_starts start (Done commit) r e = sym (ap (λ (x : Range). x.start) (same_Some (record { start = start; end = commit.end }) r e))
status_starts start Abandoned r e = absurd (none-some r e)

-- and the next node where it ends
status_ends : (start : Offset) (s : Status) (r : Range) (next : Offset) → range_by start s ≡ Some r → StartsAfter s start next → r.end ≡ next
status_ends start InProgress r next e after = absurd (none-some r e)
status_ends start (Done commit) r next e after = sym (ap (λ (x : Range). x.end) (same_Some (record { start = start; end = commit.end }) r e)) ∙ sym after
status_ends start Abandoned r next e after = absurd (none-some r e)

-- a segment that ends has the start with which it was created
ends_start : (c e : Node) (r : Range) → Ends c e → done_range e ≡ Some r → r.start.0 ≡ start_by c
ends_start (node.Meta a) (node.Meta b) r ends is = ap (λ (x : Offset). x.0) (status_starts b.start b.status r is ∙ ends.2)
ends_start (node.Meta a) _ r ends is = absurd ends
ends_start _ _ r ends is = absurd ends

follows_end : (e d : Node) (r : Range) → Follows e d → done_range e ≡ Some r → r.end.0 ≡ start_by d
follows_end (node.Meta a) (node.Meta b) r follows is = ap (λ (x : Offset). x.0) (status_ends a.start a.status r b.start is follows.1)
follows_end (node.Meta a) _ r follows is = absurd follows
follows_end _ _ r follows is = absurd follows

status_rises : (start : Offset) (s : Status) (next : Offset) → IsEndFrom start s → StartsAfter s start next → start.0 ≤ next.0
status_rises start InProgress next ends after = absurd ends
status_rises start (Done commit) next ends after = omega (arith, ends, ap (λ (x : Offset). x.0) after)
status_rises start Abandoned next ends after = omega (arith, ap (λ (x : Offset). x.0) after)

start_rises : (c e d : Node) → Ends c e → Follows e d → start_by c ≤ start_by d
start_rises (node.Meta a) (node.Meta b) (node.Meta x) ends follows =
    omega (arith, ap (λ (y : Offset). y.0) ends.2, status_rises b.start b.status x.start ends.3 follows.1)
start_rises (node.Meta a) (node.Meta b) _ ends follows = absurd follows
start_rises (node.Meta a) _ d ends follows = absurd ends
start_rises _ _ d ends follows = absurd ends

open_status : (start : Offset) (s : Status) (r : Range) → IsInProgress s → range_by start s ≡ Some r → ⊥
open_status start InProgress r o is = none-some r is
open_status start (Done commit) r o is = o
open_status start Abandoned r o is = o

-- a node in progress has none
open_range : (n : Node) (r : Range) → IsOpen n → done_range n ≡ Some r → ⊥
open_range (node.Meta m) r o is = open_status m.start m.status r o is
open_range _ r o is = o

gone_range : (n : Node) (r : Range) → n ≡ node.Gone → done_range n ≡ Some r → ⊥
gone_range n r gone is = none-some r (sym (ap done_range gone) ∙ is)

-- ---- a life

-- the range of a life has its start, and the next life starts at its end
record IsRangeOfLife (ws : List Seen) (r : Range) : Type 0 where
  start : r.start.0 ≡ start_in ws
  end : (ds : List Seen) → IsLinked ws ds → 0 < length ds → r.end.0 ≤ start_in ds

ended_range : (c e : Seen) (rest : List Seen) (r : Range) → Ends c.node e.node → done_range e.node ≡ Some r → IsRangeOfLife (c ∷ e ∷ rest) r
ended_range c e rest r ends is = record { start = ends_start c.node e.node r ends is; end = λ ds link some. by_next ds link some }
  where
    by_next : (ds : List Seen) → IsLinked (c ∷ e ∷ rest) ds → 0 < length ds → r.end.0 ≤ start_in ds
    by_next [] link some = absurd (omega (arith, some))
    by_next (d ∷ ds) link some = omega (arith, follows_end e.node d.node r link is)

life_range : (ws : List Seen) (w : Seen) (r : Range) → IsLife ws → Has ws w → done_range w.node ≡ Some r → IsRangeOfLife ws r
life_range [] w r life has is = absurd has
life_range (c ∷ []) w r life (inl same) is = absurd (open_range c.node r life (ap (λ (x : Seen). done_range x.node) same ∙ is))
life_range (c ∷ []) w r life (inr has) is = absurd has
life_range (c ∷ e ∷ []) w r life (inl same) is = absurd (open_range c.node r life.0 (ap (λ (x : Seen). done_range x.node) same ∙ is))
life_range (c ∷ e ∷ []) w r life (inr (inl same)) is = ended_range c e [] r life.1 (ap (λ (x : Seen). done_range x.node) same ∙ is)
life_range (c ∷ e ∷ []) w r life (inr (inr has)) is = absurd has
life_range (c ∷ e ∷ g ∷ []) w r life (inl same) is = absurd (open_range c.node r life.0 (ap (λ (x : Seen). done_range x.node) same ∙ is))
life_range (c ∷ e ∷ g ∷ []) w r life (inr (inl same)) is = ended_range c e (g ∷ []) r life.1 (ap (λ (x : Seen). done_range x.node) same ∙ is)
life_range (c ∷ e ∷ g ∷ []) w r life (inr (inr (inl same))) is = absurd (gone_range g.node r life.2 (ap (λ (x : Seen). done_range x.node) same ∙ is))
life_range (c ∷ e ∷ g ∷ []) w r life (inr (inr (inr has))) is = absurd has
life_range (c ∷ e ∷ g ∷ x ∷ ws) w r life has is = absurd life

-- the next life starts no lower
life_rises : (ws ds : List Seen) → IsLife ws → IsLinked ws ds → 0 < length ds → start_in ws ≤ start_in ds
life_rises ws [] life link some = absurd (omega (arith, some))
life_rises [] (d ∷ ds) life link some = absurd link
life_rises (c ∷ []) (d ∷ ds) life link some = absurd link
life_rises (c ∷ e ∷ []) (d ∷ ds) life link some = start_rises c.node e.node d.node life.1 link
life_rises (c ∷ e ∷ g ∷ []) (d ∷ ds) life link some = start_rises c.node e.node d.node life.1 link
life_rises (c ∷ e ∷ g ∷ x ∷ ws) (d ∷ ds) life link some = absurd life

-- ---- a partition

module _ (h : List Seen) (p : Partition) (o : InOrder h p) where
  abbrev start_at : ℕ → ℕ
  start_at n = start_in (life_of h p n)

  starts_rise : (k d : ℕ) → k + d < sequences_of h p → start_at k ≤ start_at (k + d)
  starts_rise k zero lt = let same : k ≡ k + 0 = omega arith in subst (λ n. start_at k ≤ start_at n) same (omega arith)
  starts_rise k (suc d) lt =
      let next : (k + d) + 1 ≡ k + suc d = omega arith in
      let rise = starts_rise k d (omega (arith, lt)) in
      let step = life_rises (life_of h p (k + d)) (life_of h p ((k + d) + 1)) (o.lives (k + d)) (o.linked (k + d)) (o.begun ((k + d) + 1) (omega (arith, lt))) in
      subst (λ n. start_at k ≤ start_at n) next (omega (arith, rise, step))

  starts_up : (k n : ℕ) → k ≤ n → n < sequences_of h p → start_at k ≤ start_at n
  starts_up k n le lt =
      let same : k + (n - k) ≡ n = omega (arith, le) in subst (λ m. start_at k ≤ start_at m) same (starts_rise k (n - k) (omega (arith, same, lt)))

  abbrev its_range : (q : ℕ) (w : Seen) (r : Range) → Has h w → w.key ≡ node_key p q → done_range w.node ≡ Some r → IsRangeOfLife (life_of h p q) r
  its_range q w r has of is = life_range (life_of h p q) w r (o.lives q) (Has-writes_of h w (node_key p q) has of) is

  below_mark : (q : ℕ) (w : Seen) (r : Range) → q < deletions_of h p → Has h w → w.key ≡ node_key p q → done_range w.node ≡ Some r → r.end.0 ≤ mark_of h p
  below_mark q w r low has of is =
      let ends = (its_range q w r has of is).end (life_of h p (q + 1)) (o.linked q) (o.begun (q + 1) (omega (arith, low, o.some))) in
      omega (arith, ends, starts_up (q + 1) (deletions_of h p) (omega (arith, low)) o.some)

  above_mark : (q : ℕ) (w : Seen) (r : Range) → deletions_of h p ≤ q → q < sequences_of h p → Has h w → w.key ≡ node_key p q → done_range w.node ≡ Some r
      → mark_of h p ≤ r.start.0
  above_mark q w r high lt has of is = omega (arith, (its_range q w r has of is).start, starts_up (deletions_of h p) q high lt)

-- ---- a lawful history

module _ (s : Starting) (h : List Seen) (p : Partition) (lawful : IsLawfulHistory s h) (within : p.0 < s.partitions) where
  -- a segment that was written comes before the count of all
  written_below : (q : ℕ) (w : Seen) → Has h w → w.key ≡ node_key p q → q < sequences_of h p
  written_below q w has of = by_place (cases_lt q (sequences_of h p))
    where
      by_place : (q < sequences_of h p) ⊎ (sequences_of h p ≤ q) → q < sequences_of h p
      by_place (inl lt) = lt
      by_place (inr le) = absurd ((has_chains s h lawful p within).uncreated q w le has of)

  -- one that has no value any more is one of those that were deleted
  gone_low : (q : ℕ) (w : Seen) → value_of h (node_key p q) ≡ None → Has h w → w.key ≡ node_key p q → q < deletions_of h p
  gone_low q w none has of = by_place (cases_lt q (deletions_of h p))
    where
      by_place : (q < deletions_of h p) ⊎ (deletions_of h p ≤ q) → q < deletions_of h p
      by_place (inl low) = low
      by_place (inr high) = absurd (false≢true (subst IsSome none (((has_chains s h lawful p within).present q).1 (high, written_below q w has of))))

  pub gone_deleted : (q : ℕ) (w : Seen) → value_of h (node_key p q) ≡ None → Has h w → w.key ≡ node_key p q → IsDeleted h p q
  gone_deleted q w none has of = (has_listings s h lawful p within).below q (gone_low q w none has of)

  -- and what was deleted has none
  pub deleted_gone : (q : ℕ) → IsDeleted h p q → value_of h (node_key p q) ≡ None
  deleted_gone q deleted = by_value (value_of h (node_key p q)) refl
    where
      by_value : (o : Option Seen) → value_of h (node_key p q) ≡ o → value_of h (node_key p q) ≡ None
      by_value None e = e
      by_value (Some seen) e =
          let order = nodes_are_in_order s h lawful p within in
          let high = (((has_chains s h lawful p within).present q).0 (subst IsSome (sym e) refl)).0 in
          absurd (omega (arith, order.present q high, deleted_over h p q order deleted))

  -- a committed segment whose node is gone lies below the mark
  pub gone_below : (q : ℕ) (w : Seen) (r : Range) → value_of h (node_key p q) ≡ None → Has h w → w.key ≡ node_key p q → done_range w.node ≡ Some r → r.end.0 ≤ mark_of h p
  gone_below q w r none has of is = below_mark h p (nodes_are_in_order s h lawful p within) q w r (gone_low q w none has of) has of is

  -- a committed segment at a node that is there, or behind it, lies above the mark
  pub there_above : (q n : ℕ) (seen w : Seen) (r : Range) → value_of h (node_key p q) ≡ Some seen → q ≤ n → Has h w → w.key ≡ node_key p n → done_range w.node ≡ Some r
      → mark_of h p ≤ r.start.0
  there_above q n seen w r there le has of is =
      let high = (((has_chains s h lawful p within).present q).0 (subst IsSome (sym there) refl)).0 in
      above_mark h p (nodes_are_in_order s h lawful p within) n w r (omega (arith, high, le)) (written_below n w has of) has of is
