-- The pieces of a plan come in order, since the nodes of a metadata list do.
use Rattle.std.proofs.Common.{◌≡◌, inl, inr, ℕ, zero, suc, ◌+◌, ◌<◌, ◌≤◌, List, [], ◌∷◌, ◌++◌, length, Option, Some, None, refl, sym, ap, subst, arith, option_to_list}
use Rattle.std.specs.List.{AllByRecursion}
use Rattle.rt_base.specs.declared.numbers.Offset.{Offset}
use Rattle.rt_base.specs.declared.numbers.Partition.{Partition}
use Rattle.rt_lists.specs.Members.{Has}
use Rattle.rt_model.specs.declared.node.Listed.{Listed}
use Rattle.rt_model.specs.declared.node.Node.{Node}
use Rattle.rt_model.specs.declared.node.Node.TheVariants as node
use Rattle.rt_model.specs.declared.node.Seen.{Seen}
use Rattle.rt_model.specs.declared.piece.Piece.{Piece}
use Rattle.rt_model.specs.declared.status.Status.{Status}
use Rattle.rt_model.specs.declared.status.Status.TheVariants.{InProgress, Done, Abandoned}
use Rattle.rt_model.specs.Chain.{InOrder, IsLife, IsLinked, start_by, start_in}
use Rattle.rt_model.specs.History.{last_of, value_by, value_in, value_of}
use Rattle.rt_model.specs.Metadata.{Ends, Follows, IsEndFrom, IsInProgress, IsOpen, StartsAfter, life_of, listed_by, listed_in, metadata_below, metadata_of, node_key, sequences_of}
use Rattle.rt_model.specs.Plan.{plan_of, planned}

-- ---- pieces

abbrev pub ordered_after : Option Offset → ℕ → List Piece → (ℕ → Type 0) → Type 0
ordered_after None start ps rest = ps ≡ []
ordered_after (Some end) start ps rest = (start ≤ end.0) × rest end.0

-- each begins where the one before it ended, or later, and one without an end is the last
abbrev pub AreOrdered : ℕ → List Piece → Type 0
AreOrdered from [] = Unit {0}
AreOrdered from (p ∷ ps) = (from ≤ p.start.0) × ordered_after p.end p.start.0 ps (λ to. AreOrdered to ps)

ordered_from : (m n : ℕ) (ps : List Piece) → m ≤ n → AreOrdered n ps → AreOrdered m ps
ordered_from m n [] le o = tt
ordered_from m n (p ∷ ps) le o = (omega (arith, le, o.0), o.1)

-- ---- nodes

abbrev rising_after : Status → ℕ → (ℕ → Type 0) → Type 0
rising_after InProgress start rest = Unit {0}
rising_after (Done commit) start rest = (start ≤ commit.end.0) × rest commit.end.0
rising_after Abandoned start rest = rest start

-- each begins where the one before it ended, or later, up to the first one in progress
abbrev AreRising : ℕ → List Listed → Type 0
AreRising from [] = Unit {0}
AreRising from (l ∷ ls) = (from ≤ l.seen.meta.start.0) × rising_after l.seen.meta.status l.seen.meta.start.0 (λ to. AreRising to ls)

rising_from : (m n : ℕ) (ls : List Listed) → m ≤ n → AreRising n ls → AreRising m ls
rising_from m n [] le r = tt
rising_from m n (l ∷ ls) le r = (omega (arith, le, r.0), r.1)

abbrev reach_after : Status → ℕ → (ℕ → Type 0) → Type 0
reach_after InProgress start rest = ⊥
reach_after (Done commit) start rest = (start ≤ commit.end.0) × rest commit.end.0
reach_after Abandoned start rest = rest start

-- so do nodes that have all ended, up to an offset
abbrev Reach : ℕ → List Listed → ℕ → Type 0
Reach from [] to = from ≤ to
Reach from (l ∷ ls) to = (from ≤ l.seen.meta.start.0) × reach_after l.seen.meta.status l.seen.meta.start.0 (λ m. Reach m ls to)

reach_from : (m n : ℕ) (ls : List Listed) (to : ℕ) → m ≤ n → Reach n ls to → Reach m ls to
reach_from m n [] to le r = omega (arith, le, r)
reach_from m n (l ∷ ls) to le r = (omega (arith, le, r.0), r.1)

reach_append : (a b c : ℕ) (xs ys : List Listed) → Reach a xs b → Reach b ys c → Reach a (xs ++ ys) c
reach_append a b c [] ys r t = reach_from a b ys c r t
reach_append a b c (x ∷ xs) ys r t = (r.0, by_status x.seen.meta.status r.1 (λ m k. reach_append m b c xs ys k t))
  where
    by_status : (s : Status) → reach_after s x.seen.meta.start.0 (λ m. Reach m xs b) → ((m : ℕ) → Reach m xs b → Reach m (xs ++ ys) c)
        → reach_after s x.seen.meta.start.0 (λ m. Reach m (xs ++ ys) c)
    by_status InProgress k further = absurd k
    by_status (Done commit) k further = (k.0, further commit.end.0 k.1)
    by_status Abandoned k further = further x.seen.meta.start.0 k

reach_rising : (a b : ℕ) (xs ys : List Listed) → Reach a xs b → AreRising b ys → AreRising a (xs ++ ys)
reach_rising a b [] ys r t = rising_from a b ys r t
reach_rising a b (x ∷ xs) ys r t = (r.0, by_status x.seen.meta.status r.1 (λ m k. reach_rising m b xs ys k t))
  where
    by_status : (s : Status) → reach_after s x.seen.meta.start.0 (λ m. Reach m xs b) → ((m : ℕ) → Reach m xs b → AreRising m (xs ++ ys))
        → rising_after s x.seen.meta.start.0 (λ m. AreRising m (xs ++ ys))
    by_status InProgress k further = absurd k
    by_status (Done commit) k further = (k.0, further commit.end.0 k.1)
    by_status Abandoned k further = further x.seen.meta.start.0 k

-- ---- one life

ends_value : (c n : Node) (w : Seen) → Ends c n → value_by n w ≡ Some w
ends_value (node.Meta c) (node.Meta m) w o = refl
ends_value (node.Meta c) _ w o = absurd o
ends_value _ _ w o = absurd o

open_value : (n : Node) (w : Seen) → IsOpen n → value_by n w ≡ Some w
open_value (node.Meta m) w o = refl
open_value _ w o = absurd o

gone_value : (n : Node) (w : Seen) → n ≡ node.Gone → value_by n w ≡ None
gone_value n w e = ap (λ (x : Node). value_by x w) e

status_reach : (st : Status) (start first next : Offset) → start ≡ first → IsEndFrom start st → StartsAfter st start next
    → (first.0 ≤ start.0) × reach_after st start.0 (λ m. m ≤ next.0)
status_reach InProgress start first next same e f = absurd e
status_reach (Done c) start first next same e f =
    (omega (arith, ap (λ (x : Offset). x.0) same), (omega (arith, e), omega (arith, ap (λ (x : Offset). x.0) f)))
status_reach Abandoned start first next same e f =
    (omega (arith, ap (λ (x : Offset). x.0) same), omega (arith, ap (λ (x : Offset). x.0) f))

node_reach : (s v : ℕ) (c e d : Node) → Ends c e → Follows e d → Reach (start_by c) (option_to_list (listed_by s v e)) (start_by d)
node_reach s v (node.Meta c) (node.Meta e) (node.Meta d) ends follows =
    status_reach e.status e.start c.start d.start ends.2 ends.3 follows.1
node_reach s v (node.Meta c) (node.Meta e) _ ends follows = absurd follows
node_reach s v _ _ _ ends follows = absurd ends

reach_le : (a b : ℕ) (ls : List Listed) → Reach a ls b → a ≤ b
reach_le a b [] r = r
reach_le a b (l ∷ ls) r = by_status l.seen.meta.status r.0 r.1 (λ m k. reach_le m b ls k)
  where
    by_status : (s : Status) → a ≤ l.seen.meta.start.0 → reach_after s l.seen.meta.start.0 (λ m. Reach m ls b) → ((m : ℕ) → Reach m ls b → m ≤ b) → a ≤ b
    by_status InProgress le k further = absurd k
    by_status (Done commit) le k further = omega (arith, le, k.0, further commit.end.0 k.1)
    by_status Abandoned le k further = omega (arith, le, further l.seen.meta.start.0 k)

-- what a life shows before the next one begins
life_reach : (s : ℕ) (ws ds : List Seen) → IsLife ws → IsLinked ws ds → 0 < length ds
    → Reach (start_in ws) (option_to_list (listed_in s (value_in (last_of ws)))) (start_in ds)
life_reach s ws [] l k some = absurd (omega (arith, some))
life_reach s [] (d ∷ ds) l k some = absurd k
life_reach s (c ∷ []) (d ∷ ds) l k some = absurd k
life_reach s (c ∷ e ∷ []) (d ∷ ds) l k some =
    let P : Option Seen → Type 0 = λ o. Reach (start_by c.node) (option_to_list (listed_in s o)) (start_by d.node) in
    subst P (sym (ends_value c.node e.node e l.1)) (node_reach s e.version c.node e.node d.node l.1 k)
life_reach s (c ∷ e ∷ g ∷ []) (d ∷ ds) l k some =
    let P : Option Seen → Type 0 = λ o. Reach (start_by c.node) (option_to_list (listed_in s o)) (start_by d.node) in
    subst P (sym (gone_value g.node g l.2))
    (reach_le (start_by c.node) (start_by d.node) (option_to_list (listed_by s 0 e.node)) (node_reach s 0 c.node e.node d.node l.1 k))
life_reach s (c ∷ e ∷ g ∷ w ∷ ws) (d ∷ ds) l k some = absurd l

open_rising : (s v : ℕ) (n : Node) → IsOpen n → AreRising (start_by n) (option_to_list (listed_by s v n))
open_rising s v (node.Meta m) o = (omega arith, by_status m.status o)
  where
    by_status : (st : Status) → IsInProgress st → rising_after st m.start.0 (λ to. AreRising to [])
    by_status InProgress o = tt
    by_status (Done commit) o = absurd o
    by_status Abandoned o = absurd o
open_rising s v (node.Ideal i) o = absurd o
open_rising s v node.Boot o = absurd o
open_rising s v node.Gone o = absurd o

status_rising : (st : Status) (start first : Offset) → start ≡ first → IsEndFrom start st
    → (first.0 ≤ start.0) × rising_after st start.0 (λ to. AreRising to [])
status_rising InProgress start first same e = absurd e
status_rising (Done c) start first same e = (omega (arith, ap (λ (x : Offset). x.0) same), (omega (arith, e), tt))
status_rising Abandoned start first same e = (omega (arith, ap (λ (x : Offset). x.0) same), tt)

ended_rising : (s v : ℕ) (c e : Node) → Ends c e → AreRising (start_by c) (option_to_list (listed_by s v e))
ended_rising s v (node.Meta c) (node.Meta e) ends = status_rising e.status e.start c.start ends.2 ends.3
ended_rising s v (node.Meta c) _ ends = absurd ends
ended_rising s v _ _ ends = absurd ends

-- what the last life shows
last_rising : (s : ℕ) (ws : List Seen) → IsLife ws → AreRising (start_in ws) (option_to_list (listed_in s (value_in (last_of ws))))
last_rising s [] l = tt
last_rising s (c ∷ []) l =
    let P : Option Seen → Type 0 = λ o. AreRising (start_by c.node) (option_to_list (listed_in s o)) in
    subst P (sym (open_value c.node c l)) (open_rising s c.version c.node l)
last_rising s (c ∷ e ∷ []) l =
    let P : Option Seen → Type 0 = λ o. AreRising (start_by c.node) (option_to_list (listed_in s o)) in
    subst P (sym (ends_value c.node e.node e l.1)) (ended_rising s e.version c.node e.node l.1)
last_rising s (c ∷ e ∷ g ∷ []) l =
    let P : Option Seen → Type 0 = λ o. AreRising (start_by c.node) (option_to_list (listed_in s o)) in
    subst P (sym (gone_value g.node g l.2)) tt
last_rising s (c ∷ e ∷ g ∷ w ∷ ws) l = absurd l

-- ---- all lives

below_reach : (h : List Seen) (p : Partition) → InOrder h p → (k : ℕ) → k < sequences_of h p → Reach 0 (metadata_below h p k) (start_in (life_of h p k))
below_reach h p o zero lt = omega arith
below_reach h p o (suc k) lt =
    let next : k + 1 ≡ suc k = omega arith in
    let shown = option_to_list (listed_in k (value_of h (node_key p k))) in
    let P : ℕ → Type 0 = λ n. Reach (start_in (life_of h p k)) shown (start_in (life_of h p n)) in
    reach_append 0 (start_in (life_of h p k)) (start_in (life_of h p (suc k))) (metadata_below h p k) shown
    (below_reach h p o k (omega (arith, lt)))
    (subst P next (life_reach k (life_of h p k) (life_of h p (k + 1)) (o.lives k) (o.linked k) (o.begun (k + 1) (omega (arith, lt)))))

all_rising : (h : List Seen) (p : Partition) → InOrder h p → (n : ℕ) → sequences_of h p ≡ n → AreRising 0 (metadata_below h p n)
all_rising h p o zero e = tt
all_rising h p o (suc k) e =
    reach_rising 0 (start_in (life_of h p k)) (metadata_below h p k) (option_to_list (listed_in k (value_of h (node_key p k))))
    (below_reach h p o k (omega (arith, e))) (last_rising k (life_of h p k) (o.lives k))

-- ---- the plan

plan_at : (p : Partition) (from : ℕ) (l : Listed) (ls : List Listed) (s : Status) → from ≤ l.seen.meta.start.0
    → rising_after s l.seen.meta.start.0 (λ to. AreRising to ls) → ((to : ℕ) → AreRising to ls → AreOrdered to (plan_of p ls))
    → AreOrdered from (planned p l s (plan_of p ls))
plan_at p from l ls InProgress le k further = (le, refl)
plan_at p from l ls (Done commit) le k further = (le, (k.0, further commit.end.0 k.1))
plan_at p from l ls Abandoned le k further = ordered_from from l.seen.meta.start.0 (plan_of p ls) le (further l.seen.meta.start.0 k)

plan_rising : (p : Partition) (ls : List Listed) (from : ℕ) → AreRising from ls → AreOrdered from (plan_of p ls)
plan_rising p [] from r = tt
plan_rising p (l ∷ ls) from r = plan_at p from l ls l.seen.meta.status r.0 r.1 (λ to k. plan_rising p ls to k)

pub plan_ordered : (h : List Seen) (p : Partition) → InOrder h p → AreOrdered 0 (plan_of p (metadata_of h p))
plan_ordered h p o = plan_rising p (metadata_of h p) 0 (all_rising h p o (sequences_of h p) refl)

-- ---- and all its pieces are of the partition

pub each_of : {X : Type 0} (P : X → Type 0) (xs : List X) (x : X) → AllByRecursion P xs → Has xs x → P x
each_of P [] x all h = absurd h
each_of P (y ∷ xs) x all (inl same) = subst P same all.0
each_of P (y ∷ xs) x all (inr later) = each_of P xs x all.1 later

abbrev pub AreOf : Partition → List Piece → Type 0
AreOf p qs = AllByRecursion (λ q. q.partition ≡ p) qs

pub one_of : (p : Partition) (ps : List Piece) (piece : Piece) → AreOf p ps → Has ps piece → piece.partition ≡ p
one_of p ps piece of has = each_of (λ q. q.partition ≡ p) ps piece of has

of_at : (p : Partition) (l : Listed) (s : Status) (ps : List Piece) → AreOf p ps → AreOf p (planned p l s ps)
of_at p l InProgress ps k = (refl, tt)
of_at p l (Done commit) ps k = (refl, k)
of_at p l Abandoned ps k = k

pub plan_is_of : (p : Partition) (ls : List Listed) → AreOf p (plan_of p ls)
plan_is_of p [] = tt
plan_is_of p (l ∷ ls) = of_at p l l.seen.meta.status (plan_of p ls) (plan_is_of p ls)
