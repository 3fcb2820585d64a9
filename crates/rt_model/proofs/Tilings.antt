-- The ranges of nodes that live in order tile the offsets.
use Rattle.std.proofs.Common.{◌≡◌, ℕ, zero, suc, ◌+◌, ◌-◌, ◌<◌, ◌≤◌, cond, ◌⊎◌, inl, inr, List, [], ◌∷◌, ◌++◌, length, Option, Some, None, refl, sym, ◌∙◌, ap, subst, arith, option_to_list, filter_map}
use Rattle.std.specs.List.{range_with_len, cons_option}
use Rattle.std.proofs.lemmas.Bool.{cases_lt}
use Rattle.std.proofs.lemmas.List.{append-nil, append_assoc}
use Rattle.std.proofs.lemmas.List.Elements.{filter_map-append}
use Rattle.std.proofs.lemmas.List.Sums.{sum_by-append}
use Rattle.rt_base.specs.declared.numbers.Partition.{Partition}
use Rattle.rt_base.specs.declared.numbers.Offset.{Offset}
use Rattle.rt_base.specs.declared.range.Range.{Range}
use Rattle.rt_model.specs.declared.node.Node.{Node}
use Rattle.rt_model.specs.declared.node.Node.TheVariants as node
use Rattle.rt_model.specs.declared.node.Seen.{Seen}
use Rattle.rt_model.specs.declared.node.Listed.{Listed}
use Rattle.rt_model.specs.declared.status.Status.{Status}
use Rattle.rt_model.specs.declared.status.Status.TheVariants.{InProgress, Done, Abandoned}
use Rattle.rt_model.specs.History.{last_of, value_by, value_in, value_of}
use Rattle.rt_model.specs.Metadata.{node_key, life_of, sequences_of, listed_by, listed_in, metadata_below, IsInProgress, IsOpen, IsEndFrom, Ends, StartsAfter, Follows}
use Rattle.rt_model.specs.Chain.{IsLife, start_by, start_in, deletions_of}
use Rattle.rt_model.specs.Tiled.{range_by, done_range, done_ranges_in, done_ranges_below, done_ranges_of, committed_of, mark_of, Tiles, offsets_of, IsTiledTo}
use Rattle.rt_model.proofs.Histories.{writes_of-append}
use Rattle.rt_model.proofs.Lives.{IsLinked}
use Rattle.rt_model.proofs.Partitions.{InOrder, deletes}

-- ---- tiles

Tiles-append :
    (a b c : ℕ) (xs ys : List Range) → Tiles a xs b → Tiles b ys c → Tiles a (xs ++ ys) c
Tiles-append a b c [] ys t u = let P : ℕ → Type 0 = λ x. Tiles x ys c in subst P t u
Tiles-append a b c (r ∷ xs) ys t u = (t.0, t.1, Tiles-append r.end.0 b c xs ys t.2 u)

-- what is left of tiles after a front of them
Tiles-suffix :
    (a b c : ℕ) (xs ys : List Range) → Tiles a (xs ++ ys) c → Tiles a xs b → Tiles b ys c
Tiles-suffix a b c [] ys t u = let P : ℕ → Type 0 = λ x. Tiles x ys c in subst P (sym u) t
Tiles-suffix a b c (r ∷ xs) ys t u = Tiles-suffix r.end.0 b c xs ys t.2 u.2

pub Tiles-le : (a b : ℕ) (xs : List Range) → Tiles a xs b → a ≤ b
Tiles-le a b [] t = omega arith
Tiles-le a b (r ∷ xs) t = let le = Tiles-le r.end.0 b xs t.2 in omega (arith, t.1)

Tiles-same : (a b : ℕ) (xs ys : List Range) → xs ≡ ys → Tiles a ys b → Tiles a xs b
Tiles-same a b xs ys e t = let P : List Range → Type 0 = λ x. Tiles a x b in subst P (sym e) t

-- ---- one life

in_progress_none : (start : Offset) (s : Status) → IsInProgress s → range_by start s ≡ None
in_progress_none start InProgress o = refl
in_progress_none start (Done c) o = absurd o
in_progress_none start Abandoned o = absurd o

open_none : (n : Node) → IsOpen n → done_range n ≡ None
open_none (node.Meta m) o = in_progress_none m.start m.status o
open_none _ o = absurd o

alone : (o : Option Range) → cons_option o [] ≡ option_to_list o
alone None = refl
alone (Some r) = refl

gone_range : (n : Node) → n ≡ node.Gone → done_range n ≡ None
gone_range n e = ap done_range e

-- the ranges of a life that has ended are that of its end
life_ranges :
    (c e : Seen) (ws : List Seen) → IsLife (c ∷ e ∷ ws)
    → done_ranges_in (c ∷ e ∷ ws) ≡ option_to_list (done_range e.node)
life_ranges c e [] l =
    ap (λ (o : Option Range). cons_option o (cons_option (done_range e.node) [])) (open_none c.node l.0)
    ∙ alone (done_range e.node)
life_ranges c e (g ∷ []) l =
    ap
    (λ (o : Option Range). cons_option o (cons_option (done_range e.node) (cons_option (done_range g.node) [])))
    (open_none c.node l.0)
    ∙ ap
    (λ (o : Option Range). cons_option (done_range e.node) (cons_option o []))
    (gone_range g.node l.2)
    ∙ alone (done_range e.node)
life_ranges c e (g ∷ v ∷ ws) l = absurd l

ends_of : (c e : Seen) (ws : List Seen) → IsLife (c ∷ e ∷ ws) → Ends c.node e.node
ends_of c e [] l = l.1
ends_of c e (g ∷ []) l = l.1
ends_of c e (g ∷ v ∷ ws) l = absurd l

status_tiles :
    (s : Status) (start first next : Offset) → start ≡ first → IsEndFrom start s → StartsAfter s start next
    → Tiles first.0 (option_to_list (range_by start s)) next.0
status_tiles InProgress start first next same e f = absurd e
status_tiles (Done c) start first next same e f =
    let at_start : start.0 ≡ first.0 = ap (λ (x : Offset). x.0) same in
    (at_start, omega arith, ap (λ (x : Offset). x.0) f)
status_tiles Abandoned start first next same e f = ap (λ (x : Offset). x.0) (f ∙ same)

node_tiles :
    (c e d : Node) → Ends c e → Follows e d → Tiles (start_by c) (option_to_list (done_range e)) (start_by d)
node_tiles (node.Meta c) (node.Meta e) (node.Meta d) ends follows =
    status_tiles e.status e.start c.start d.start ends.2 ends.3 follows.1
node_tiles (node.Meta c) (node.Meta e) _ ends follows = absurd follows
node_tiles _ _ _ ends follows = absurd ends

-- the ranges of a life tile the offsets up to the start of the next one
segment_tiles :
    (ws ds : List Seen) → IsLife ws → IsLinked ws ds → 0 < length ds
    → Tiles (start_in ws) (done_ranges_in ws) (start_in ds)
segment_tiles ws [] l k some = absurd (omega arith)
segment_tiles [] (d ∷ ds) l k some = absurd k
segment_tiles (c ∷ []) (d ∷ ds) l k some = absurd k
segment_tiles (c ∷ e ∷ ws) (d ∷ ds) l k some =
    Tiles-same (start_by c.node) (start_by d.node) (done_ranges_in (c ∷ e ∷ ws)) (option_to_list (done_range e.node))
    (life_ranges c e ws l)
    (node_tiles c.node e.node d.node (ends_of c e ws l) k)

status_end :
    (s : Status) (start first : Offset) → start ≡ first → IsEndFrom start s
    → (end : ℕ) × Tiles first.0 (option_to_list (range_by start s)) end
status_end InProgress start first same e = absurd e
status_end (Done c) start first same e =
    let at_start : start.0 ≡ first.0 = ap (λ (x : Offset). x.0) same in
    (c.end.0, (at_start, omega arith, refl))
status_end Abandoned start first same e = (first.0, refl)

node_end : (c e : Node) → Ends c e → (end : ℕ) × Tiles (start_by c) (option_to_list (done_range e)) end
node_end (node.Meta c) (node.Meta e) ends = status_end e.status e.start c.start ends.2 ends.3
node_end _ _ ends = absurd ends

-- the ranges of a life tile the offsets up to some end
last_tiles : (ws : List Seen) → IsLife ws → (end : ℕ) × Tiles (start_in ws) (done_ranges_in ws) end
last_tiles [] l = (0, refl)
last_tiles (c ∷ []) l = (
  start_by c.node,
  Tiles-same (start_by c.node) (start_by c.node) (done_ranges_in (c ∷ [])) []
      (ap (λ (o : Option Range). cons_option o []) (open_none c.node l)) refl,
)
last_tiles (c ∷ e ∷ ws) l =
    let r = node_end c.node e.node (ends_of c e ws l) in (
      r.0,
      Tiles-same (start_by c.node) r.0 (done_ranges_in (c ∷ e ∷ ws)) (option_to_list (done_range e.node))
          (life_ranges c e ws l) r.1,
    )

-- ---- what is present of one life

abbrev listed_range : Listed → Option Range
listed_range l = range_by l.seen.meta.start l.seen.meta.status

listed_by_range :
    (s v : ℕ) (n : Node) → filter_map listed_range (option_to_list (listed_by s v n)) ≡ option_to_list (done_range n)
listed_by_range s v (node.Meta m) = alone (range_by m.start m.status)
listed_by_range s v (node.Ideal i) = refl
listed_by_range s v node.Boot = refl
listed_by_range s v node.Gone = refl

pub open_value : (n : Node) (w : Seen) → IsOpen n → value_by n w ≡ Some w
open_value (node.Meta m) w o = refl
open_value _ w o = absurd o

pub ends_value : (c n : Node) (w : Seen) → Ends c n → value_by n w ≡ Some w
ends_value (node.Meta c) (node.Meta m) w o = refl
ends_value (node.Meta c) _ w o = absurd o
ends_value _ _ w o = absurd o

gone_value : (n : Node) (w : Seen) → n ≡ node.Gone → value_by n w ≡ None
gone_value n w e = ap (λ (x : Node). value_by x w) e

abbrev present_ranges : ℕ → Option Seen → List Range
present_ranges s o = filter_map listed_range (option_to_list (listed_in s o))

-- a present life shows its ranges
shows_ranges :
    (s : ℕ) (ws : List Seen) → IsLife ws → length ws < 3
    → present_ranges s (value_in (last_of ws)) ≡ done_ranges_in ws
shows_ranges s [] l few = refl
shows_ranges s (c ∷ []) l few =
    ap (present_ranges s) (open_value c.node c l)
    ∙ listed_by_range s c.version c.node
    ∙ sym (alone (done_range c.node))
shows_ranges s (c ∷ e ∷ []) l few =
    ap (present_ranges s) (ends_value c.node e.node e l.1)
    ∙ listed_by_range s e.version e.node
    ∙ sym (life_ranges c e [] l)
shows_ranges s (c ∷ e ∷ g ∷ []) l few = absurd (omega arith)
shows_ranges s (c ∷ e ∷ g ∷ w ∷ ws) l few = absurd l

-- a life that is over shows none
hides_ranges :
    (s : ℕ) (ws : List Seen) → IsLife ws → length ws ≡ 3 → present_ranges s (value_in (last_of ws)) ≡ []
hides_ranges s [] l few = refl
hides_ranges s (c ∷ []) l few = absurd (omega arith)
hides_ranges s (c ∷ e ∷ []) l few = absurd (omega arith)
hides_ranges s (c ∷ e ∷ g ∷ []) l few = ap (present_ranges s) (gone_value g.node g l.2)
hides_ranges s (c ∷ e ∷ g ∷ w ∷ ws) l few = absurd l

-- ---- all lives

abbrev shown_below : List Seen → Partition → ℕ → List Range
shown_below h p k = filter_map listed_range (metadata_below h p k)

shown_next :
    (h : List Seen) (p : Partition) (k : ℕ)
    → shown_below h p (suc k) ≡ shown_below h p k ++ present_ranges k (value_of h (node_key p k))
shown_next h p k =
    filter_map-append listed_range (metadata_below h p k) (option_to_list (listed_in k (value_of h (node_key p k))))

-- below the mark nothing is shown
shown_none :
    (h : List Seen) (p : Partition) → InOrder h p → (k : ℕ) → k ≤ deletions_of h p → shown_below h p k ≡ []
shown_none h p o zero le = refl
shown_none h p o (suc k) le =
    shown_next h p k
    ∙ ap (λ (x : List Range). x ++ present_ranges k (value_of h (node_key p k))) (shown_none h p o k (omega arith))
    ∙ hides_ranges k (life_of h p k) (o.lives k) (o.over k (omega arith))

shown_rest_at :
    (h : List Seen) (p : Partition) → InOrder h p → (k : ℕ)
    → (deletions_of h p ≤ k → done_ranges_below h p k ≡ done_ranges_below h p (deletions_of h p) ++ shown_below h p k)
    → (k < deletions_of h p) ⊎ (deletions_of h p ≤ k) → deletions_of h p ≤ suc k
    → done_ranges_below h p (suc k) ≡ done_ranges_below h p (deletions_of h p) ++ shown_below h p (suc k)
shown_rest_at h p o k further (inl lt) le =
    let at_mark : deletions_of h p ≡ suc k = omega arith in
    sym (
    ap (λ (x : List Range). done_ranges_below h p (deletions_of h p) ++ x) (shown_none h p o (suc k) (omega arith))
    ∙ append-nil (done_ranges_below h p (deletions_of h p))
    ∙ ap (done_ranges_below h p) at_mark)
shown_rest_at h p o k further (inr low) le =
    ap (λ (x : List Range). x ++ done_ranges_in (life_of h p k)) (further low)
    ∙ append_assoc
    (done_ranges_below h p (deletions_of h p)) (shown_below h p k) (done_ranges_in (life_of h p k))
    ∙ sym (
    ap
    (λ (x : List Range). done_ranges_below h p (deletions_of h p) ++ x)
    (shown_next h p k
    ∙ ap
    (λ (x : List Range). shown_below h p k ++ x)
    (shows_ranges k (life_of h p k) (o.lives k) (o.present k low))))

-- from the mark on all is shown
shown_rest :
    (h : List Seen) (p : Partition) → InOrder h p → (k : ℕ) → deletions_of h p ≤ k
    → done_ranges_below h p k ≡ done_ranges_below h p (deletions_of h p) ++ shown_below h p k
shown_rest h p o zero le =
    let none : deletions_of h p ≡ 0 = omega arith in
    sym (ap (λ (x : ℕ). done_ranges_below h p x ++ []) none)
shown_rest h p o (suc k) le = shown_rest_at h p o k (shown_rest h p o k) (cases_lt k (deletions_of h p)) le

-- the ranges below a created segment tile the offsets up to its start
ranges_below :
    (h : List Seen) (p : Partition) → InOrder h p → (k : ℕ) → k < sequences_of h p
    → Tiles 0 (done_ranges_below h p k) (start_in (life_of h p k))
ranges_below h p o zero lt = o.zero_start
ranges_below h p o (suc k) lt =
    let next : k + 1 ≡ suc k = omega arith in
    let P : ℕ → Type 0 = λ n. Tiles (start_in (life_of h p k)) (done_ranges_in (life_of h p k)) (start_in (life_of h p n)) in
    Tiles-append 0 (start_in (life_of h p k)) (start_in (life_of h p (suc k)))
    (done_ranges_below h p k) (done_ranges_in (life_of h p k))
    (ranges_below h p o k (omega arith))
    (subst P next
    (segment_tiles (life_of h p k) (life_of h p (k + 1)) (o.lives k) (o.linked k) (o.begun (k + 1) (omega arith))))

all_ranges :
    (h : List Seen) (p : Partition) → InOrder h p → (n : ℕ) → sequences_of h p ≡ n
    → (end : ℕ) × Tiles 0 (done_ranges_below h p n) end
all_ranges h p o zero e = absurd (omega (arith, o.some))
all_ranges h p o (suc k) e =
    let last = last_tiles (life_of h p k) (o.lives k) in (
      last.0,
      Tiles-append 0 (start_in (life_of h p k)) last.0
          (done_ranges_below h p k) (done_ranges_in (life_of h p k))
          (ranges_below h p o k (omega arith)) last.1,
    )

pub InOrder-tiled : (h : List Seen) (p : Partition) → InOrder h p → (end : ℕ) × IsTiledTo h p end
InOrder-tiled h p o =
    let low : deletions_of h p < sequences_of h p = o.some in
    let all = all_ranges h p o (sequences_of h p) refl in
    let split : done_ranges_of h p ≡ done_ranges_below h p (deletions_of h p) ++ committed_of h p =
    shown_rest h p o (sequences_of h p) (omega arith) in
    let below = ranges_below h p o (deletions_of h p) low in (
      all.0,
      record {
        retired = done_ranges_below h p (deletions_of h p);
        all = all.1;
        suffix = split;
        below_mark = below;
        from_mark =
            Tiles-suffix 0 (mark_of h p) all.0 (done_ranges_below h p (deletions_of h p)) (committed_of h p)
            (Tiles-same 0 all.0
            (done_ranges_below h p (deletions_of h p) ++ committed_of h p) (done_ranges_of h p) (sym split) all.1)
            below;
      },
    )

-- ---- the mark

-- starts do not fall along the chain
starts_rise :
    (h : List Seen) (p : Partition) → InOrder h p → (k d : ℕ) → k + d < sequences_of h p
    → start_in (life_of h p k) ≤ start_in (life_of h p (k + d))
starts_rise h p o k zero lt =
    let same : k ≡ k + 0 = omega arith in
    let P : ℕ → Type 0 = λ n. start_in (life_of h p k) ≤ start_in (life_of h p n) in
    subst P same (omega arith)
starts_rise h p o k (suc d) lt =
    let next : (k + d) + 1 ≡ k + suc d = omega arith in
    let P : ℕ → Type 0 = λ n. start_in (life_of h p k) ≤ start_in (life_of h p n) in
    let rise = starts_rise h p o k d (omega arith) in
    let step =
    Tiles-le (start_in (life_of h p (k + d))) (start_in (life_of h p ((k + d) + 1))) (done_ranges_in (life_of h p (k + d)))
    (segment_tiles (life_of h p (k + d)) (life_of h p ((k + d) + 1)) (o.lives (k + d)) (o.linked (k + d))
    (o.begun ((k + d) + 1) (omega arith))) in
    subst P next (omega (arith, rise, step))

start_kept : (ws vs : List Seen) → 0 < length ws → start_in (ws ++ vs) ≡ start_in ws
start_kept [] vs some = absurd (omega arith)
start_kept (c ∷ ws) vs some = refl

deletions_of-append :
    (g h : List Seen) (p : Partition) → deletions_of (g ++ h) p ≡ deletions_of g p + deletions_of h p
deletions_of-append g h p = sum_by-append (λ v. cond (deletes p v) 1 0) g h

-- the mark does not fall when writes are added
pub mark_rises :
    (h more : List Seen) (p : Partition) → InOrder h p → InOrder (h ++ more) p → mark_of h p ≤ mark_of (h ++ more) p
mark_rises h more p o new =
    let m = deletions_of h p in
    let d = deletions_of more p in
    let count : deletions_of (h ++ more) p ≡ m + d = deletions_of-append h more p in
    let kept : start_in (life_of (h ++ more) p m) ≡ start_in (life_of h p m) =
    ap start_in (writes_of-append h more (node_key p m))
    ∙ start_kept (life_of h p m) (life_of more p m) (o.begun m o.some) in
    let rise = starts_rise (h ++ more) p new m d (omega (arith, new.some, count)) in
    let P : ℕ → Type 0 = λ n. start_in (life_of h p m) ≤ start_in (life_of (h ++ more) p n) in
    subst P (sym count) (omega (arith, kept, rise))

-- ---- the offsets

range_append :
    (a n m : ℕ) → range_with_len a n ++ range_with_len (a + n) m ≡ range_with_len a (n + m)
range_append a zero m =
    let e : a + 0 ≡ a = omega arith in
    let f : 0 + m ≡ m = omega arith in
    ap (λ x. range_with_len x m) e ∙ ap (range_with_len a) (sym f)
range_append a (suc n) m =
    let e : a + suc n ≡ (a + 1) + n = omega arith in
    let f : suc n + m ≡ suc (n + m) = omega arith in
    ap (λ x. a ∷ (range_with_len (a + 1) n ++ range_with_len x m)) e
    ∙ ap (λ (xs : List ℕ). a ∷ xs) (range_append (a + 1) n m)
    ∙ ap (range_with_len a) (sym f)

-- tiles have each offset from their start to their end, in order
pub Tiles-offsets :
    (a b : ℕ) (rs : List Range) → Tiles a rs b → offsets_of rs ≡ range_with_len a (b - a)
Tiles-offsets a b [] t =
    let none : b - a ≡ 0 = omega arith in ap (range_with_len a) (sym none)
Tiles-offsets a b (r ∷ rs) t =
    let le = Tiles-le r.end.0 b rs t.2 in
    let start = t.0 in
    let some = t.1 in
    let next : a + (r.end.0 - a) ≡ r.end.0 = omega arith in
    let whole : (r.end.0 - a) + (b - r.end.0) ≡ b - a = omega arith in
    ap (λ x. range_with_len x (r.end.0 - x) ++ offsets_of rs) start
    ∙ ap (λ (xs : List ℕ). range_with_len a (r.end.0 - a) ++ xs) (Tiles-offsets r.end.0 b rs t.2)
    ∙ ap (λ x. range_with_len a (r.end.0 - a) ++ range_with_len x (b - r.end.0)) (sym next)
    ∙ range_append a (r.end.0 - a) (b - r.end.0)
    ∙ ap (range_with_len a) whole
