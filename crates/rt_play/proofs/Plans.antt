-- The plan of a partition goes without a gap from its mark on, through every committed range.
use Rattle.std.proofs.Common.{◌≡◌, ◌<◌, ◌≤◌, ◌+◌, ◌⊎◌, inl, inr, ℕ, zero, suc, List, [], ◌∷◌, ◌++◌, length, filter_map, option_to_list, Option, Some, None, refl, sym, ◌∙◌, ap, subst, arith}
use Rattle.std.specs.List.{cons_option}
use Rattle.std.proofs.lemmas.Bool.{cases_lt}
use Rattle.rt_base.specs.declared.numbers.Offset.{Offset}
use Rattle.rt_base.specs.declared.numbers.Partition.{Partition}
use Rattle.rt_base.specs.declared.range.Range.{Range}
use Rattle.rt_lists.specs.Members.{Has}
use Rattle.rt_model.proofs.Tilings.{ends_value, open_value}
use Rattle.rt_model.specs.Chain.{InOrder, IsLife, IsLinked, deletions_of, start_by, start_in}
use Rattle.rt_model.specs.History.{last_of, value_by, value_in, value_of}
use Rattle.rt_model.specs.Metadata.{Ends, Follows, IsEndFrom, IsInProgress, IsOpen, StartsAfter, life_of, listed_by, listed_in, metadata_below, metadata_of, node_key, sequences_of}
use Rattle.rt_model.specs.Plan.{piece_of, plan_of, planned}
use Rattle.rt_model.specs.Tiled.{committed_of, mark_of, range_by}
use Rattle.rt_model.specs.declared.node.Listed.{Listed}
use Rattle.rt_model.specs.declared.node.Node.{Node}
use Rattle.rt_model.specs.declared.node.Node.TheVariants as node
use Rattle.rt_model.specs.declared.node.Seen.{Seen}
use Rattle.rt_model.specs.declared.piece.Piece.{Piece}
use Rattle.rt_model.specs.declared.status.Status.{Status}
use Rattle.rt_model.specs.declared.status.Status.TheVariants.{InProgress, Done, Abandoned}

-- ---- metadata lists

-- a segment that ended leads on from where it started
abbrev LeadBy : Status → ℕ → (ℕ → Type 0) → Type 0
LeadBy InProgress from rest = ⊥
LeadBy (Done c) from rest = (from < c.end.0) × rest c.end.0
LeadBy Abandoned from rest = rest from

-- segments that ended lead from one offset to another
abbrev Lead : ℕ → List Listed → ℕ → Type 0
Lead from [] to = to ≡ from
Lead from (l ∷ ls) to = (l.seen.meta.start.0 ≡ from) × LeadBy l.seen.meta.status from (λ x. Lead x ls to)

abbrev ChainBy : Status → ℕ → Type 0 → (ℕ → Type 0) → Type 0
ChainBy InProgress from last rest = last
ChainBy (Done c) from last rest = (from < c.end.0) × rest c.end.0
ChainBy Abandoned from last rest = rest from

-- each segment starts where the one before it ended, and one in progress is the last
abbrev Chain : ℕ → List Listed → Type 0
Chain from [] = Unit {0}
Chain from (l ∷ ls) = (l.seen.meta.start.0 ≡ from) × ChainBy l.seen.meta.status from (ls ≡ []) (λ x. Chain x ls)

lead_then : (a b c : ℕ) (xs ys : List Listed) → Lead a xs b → Lead b ys c → Lead a (xs ++ ys) c
lead_then a b c [] ys t u = subst (λ (x : ℕ). Lead x ys c) t u
lead_then a b c (l ∷ xs) ys (start, t) u = (start, by_status l.seen.meta.status (λ x h. lead_then x b c xs ys h u) t)
  where
    by_status : (s : Status) → ((x : ℕ) → Lead x xs b → Lead x (xs ++ ys) c) → LeadBy s a (λ x. Lead x xs b) → LeadBy s a (λ x. Lead x (xs ++ ys) c)
    by_status InProgress further h = absurd h
    by_status (Done d) further (lt, h) = (lt, further d.end.0 h)
    by_status Abandoned further h = further a h

lead_chain : (a b : ℕ) (xs ys : List Listed) → Lead a xs b → Chain b ys → Chain a (xs ++ ys)
lead_chain a b [] ys t u = subst (λ (x : ℕ). Chain x ys) t u
lead_chain a b (l ∷ xs) ys (start, t) u = (start, by_status l.seen.meta.status (λ x h. lead_chain x b xs ys h u) t)
  where
    by_status : (s : Status) → ((x : ℕ) → Lead x xs b → Chain x (xs ++ ys)) → LeadBy s a (λ x. Lead x xs b)
        → ChainBy s a (xs ++ ys ≡ []) (λ x. Chain x (xs ++ ys))
    by_status InProgress further h = absurd h
    by_status (Done d) further (lt, h) = (lt, further d.end.0 h)
    by_status Abandoned further h = further a h

-- ---- what is listed of one life

status_leads : (s : Status) (start first next : Offset) → start ≡ first → IsEndFrom start s → StartsAfter s start next → LeadBy s first.0 (λ x. next.0 ≡ x)
status_leads InProgress start first next same e f = absurd e
status_leads (Done c) start first next same e f = (omega (arith, e, ap (λ (x : Offset). x.0) same), ap (λ (x : Offset). x.0) f)
status_leads Abandoned start first next same e f = ap (λ (x : Offset). x.0) (f ∙ same)

ended_leads : (k v : ℕ) (c e d : Node) → Ends c e → Follows e d → Lead (start_by c) (option_to_list (listed_by k v e)) (start_by d)
ended_leads k v (node.Meta c) (node.Meta e) (node.Meta d) ends follows =
    (ap (λ (x : Offset). x.0) ends.2, status_leads e.status e.start c.start d.start ends.2 ends.3 follows.1)
ended_leads k v (node.Meta c) (node.Meta e) _ ends follows = absurd follows
ended_leads k v _ _ _ ends follows = absurd ends

abbrev shown : ℕ → Option Seen → List Listed
shown k o = option_to_list (listed_in k o)

-- a life that has ended, and isn't over, leads to the start of the next one
life_leads : (k : ℕ) (ws ds : List Seen) → IsLife ws → IsLinked ws ds → 0 < length ds → length ws < 3
    → Lead (start_in ws) (shown k (value_in (last_of ws))) (start_in ds)
life_leads k ws [] l link some few = absurd (omega (arith, some))
life_leads k [] (d ∷ ds) l link some few = absurd link
life_leads k (c ∷ []) (d ∷ ds) l link some few = absurd link
life_leads k (c ∷ e ∷ []) (d ∷ ds) l link some few =
    subst (λ (o : Option Seen). Lead (start_by c.node) (shown k o) (start_by d.node)) (sym (ends_value c.node e.node e l.1))
    (ended_leads k e.version c.node e.node d.node l.1 link)
life_leads k (c ∷ e ∷ g ∷ []) (d ∷ ds) l link some few = absurd (omega (arith, few))
life_leads k (c ∷ e ∷ g ∷ w ∷ ws) (d ∷ ds) l link some few = absurd l

open_chain : (k v : ℕ) (n : Node) → IsOpen n → Chain (start_by n) (option_to_list (listed_by k v n))
open_chain k v (node.Meta m) o = (refl, by_status m.status o)
  where
    by_status : (s : Status) → IsInProgress s → ChainBy s m.start.0 (let none : List Listed = [] in none ≡ none) (λ x. Chain x [])
    by_status InProgress h = refl
    by_status (Done c) h = absurd h
    by_status Abandoned h = absurd h
open_chain k v _ o = absurd o

end_chain : (k v : ℕ) (c e : Node) → Ends c e → Chain (start_by c) (option_to_list (listed_by k v e))
end_chain k v (node.Meta c) (node.Meta e) ends = (ap (λ (x : Offset). x.0) ends.2, by_status e.status e.start c.start ends.2 ends.3)
  where
    by_status : (s : Status) (start first : Offset) → start ≡ first → IsEndFrom start s
        → ChainBy s first.0 (let none : List Listed = [] in none ≡ none) (λ x. Chain x [])
    by_status InProgress start first same h = absurd h
    by_status (Done d) start first same h = (omega (arith, h, ap (λ (x : Offset). x.0) same), tt)
    by_status Abandoned start first same h = tt
end_chain k v (node.Meta c) _ ends = absurd ends
end_chain k v _ _ ends = absurd ends

last_chain : (k : ℕ) (ws : List Seen) → IsLife ws → length ws < 3 → Chain (start_in ws) (shown k (value_in (last_of ws)))
last_chain k [] l few = tt
last_chain k (c ∷ []) l few =
    subst (λ (o : Option Seen). Chain (start_by c.node) (shown k o)) (sym (open_value c.node c l)) (open_chain k c.version c.node l)
last_chain k (c ∷ e ∷ []) l few =
    subst (λ (o : Option Seen). Chain (start_by c.node) (shown k o)) (sym (ends_value c.node e.node e l.1)) (end_chain k e.version c.node e.node l.1)
last_chain k (c ∷ e ∷ g ∷ []) l few = absurd (omega (arith, few))
last_chain k (c ∷ e ∷ g ∷ w ∷ ws) l few = absurd l

-- nothing is listed of one that is over
over_shows : (k : ℕ) (ws : List Seen) → IsLife ws → length ws ≡ 3 → shown k (value_in (last_of ws)) ≡ []
over_shows k [] l e = refl
over_shows k (c ∷ []) l e = absurd (omega (arith, e))
over_shows k (c ∷ d ∷ []) l e = absurd (omega (arith, e))
over_shows k (c ∷ d ∷ g ∷ []) l e = subst (λ (n : Node). shown k (value_by n g) ≡ []) (sym l.2) refl
over_shows k (c ∷ d ∷ g ∷ w ∷ ws) l e = absurd l

-- ---- the list of a partition

module _ (h : List Seen) (p : Partition) (o : InOrder h p) where
  none_below : (k : ℕ) → k ≤ deletions_of h p → metadata_below h p k ≡ []
  none_below zero le = refl
  none_below (suc k) le =
      ap (λ (xs : List Listed). xs ++ shown k (value_of h (node_key p k))) (none_below k (omega (arith, le)))
      ∙ over_shows k (life_of h p k) (o.lives k) (o.over k (omega (arith, le)))

  abbrev LeadsTo : ℕ → Type 0
  LeadsTo k = Lead (mark_of h p) (metadata_below h p k) (start_in (life_of h p k))

  -- no segment is listed below the lowest
  at_mark : (k : ℕ) → k ≡ deletions_of h p → LeadsTo k
  at_mark k e =
      subst (λ (ls : List Listed). Lead (mark_of h p) ls (start_in (life_of h p k))) (sym (none_below k (omega (arith, e))))
      (ap (λ n. start_in (life_of h p n)) e)

  leads_below : (k : ℕ) → deletions_of h p ≤ k → k < sequences_of h p → LeadsTo k
  leads_below zero le lt = at_mark zero (omega (arith, le))
  leads_below (suc k) le lt = by_place (cases_lt k (deletions_of h p)) (λ low. leads_below k low (omega (arith, lt)))
    where
      by_place : (k < deletions_of h p) ⊎ (deletions_of h p ≤ k) → (deletions_of h p ≤ k → LeadsTo k) → LeadsTo (suc k)
      by_place (inl under) further = at_mark (suc k) (omega (arith, under, le))
      by_place (inr low) further =
          let next : k + 1 ≡ suc k = omega arith in
          lead_then (mark_of h p) (start_in (life_of h p k)) (start_in (life_of h p (suc k))) (metadata_below h p k) (shown k (value_of h (node_key p k)))
          (further low)
          (subst (λ n. Lead (start_in (life_of h p k)) (shown k (value_of h (node_key p k))) (start_in (life_of h p n))) next
          (life_leads k (life_of h p k) (life_of h p (k + 1)) (o.lives k) (o.linked k) (o.begun (k + 1) (omega (arith, lt))) (o.present k low)))

  chain_to : (n : ℕ) → sequences_of h p ≡ n → Chain (mark_of h p) (metadata_below h p n)
  chain_to zero e = absurd (omega (arith, o.some, e))
  chain_to (suc k) e =
      lead_chain (mark_of h p) (start_in (life_of h p k)) (metadata_below h p k) (shown k (value_of h (node_key p k)))
      (leads_below k (omega (arith, o.some, e)) (omega (arith, e)))
      (last_chain k (life_of h p k) (o.lives k) (o.present k (omega (arith, o.some, e))))

  listed_chain : Chain (mark_of h p) (metadata_of h p)
  listed_chain = chain_to (sequences_of h p) refl

-- ---- the plan

abbrev pub PieceBy : Option Offset → ℕ → Type 0 → (ℕ → Type 0) → Type 0
PieceBy None from last rest = last
PieceBy (Some end) from last rest = (from < end.0) × rest end.0

-- each piece starts where the one before it ends, and one without an end is the last
abbrev pub Pieces : ℕ → List Piece → Type 0
Pieces from [] = Unit {0}
Pieces from (x ∷ xs) = (x.start.0 ≡ from) × PieceBy x.end from (xs ≡ []) (λ y. Pieces y xs)

-- a piece has exactly this range
abbrev pub IsOf : Range → Piece → Type 0
IsOf r x = (x.start ≡ r.start) × (x.end ≡ Some r.end)

chain_pieces : (p : Partition) (from : ℕ) (ls : List Listed) → Chain from ls → Pieces from (plan_of p ls)
chain_pieces p from [] c = tt
chain_pieces p from (l ∷ ls) (start, c) = by_status l.seen.meta.status (λ x h. chain_pieces p x ls h) c
  where
    by_status : (s : Status) → ((x : ℕ) → Chain x ls → Pieces x (plan_of p ls)) → ChainBy s from (ls ≡ []) (λ x. Chain x ls)
        → Pieces from (planned p l s (plan_of p ls))
    by_status InProgress further last = (start, refl)
    by_status (Done d) further (lt, rest) = (start, (lt, further d.end.0 rest))
    by_status Abandoned further rest = further from rest

abbrev range_of : Listed → Option Range
range_of l = range_by l.seen.meta.start l.seen.meta.status

abbrev HasPiece : Partition → List Listed → Range → Type 0
HasPiece p ls r = (x : Piece) × Has (plan_of p ls) x × IsOf r x

abbrev some_offset : Offset → Option Offset
some_offset x = Some x

-- each committed range has its piece
chain_range : (p : Partition) (from : ℕ) (ls : List Listed) (r : Range) → Chain from ls → Has (filter_map range_of ls) r → HasPiece p ls r
chain_range p from [] r c has = absurd has
chain_range p from (l ∷ ls) r (start, c) has = by_status l.seen.meta.status (λ x h k. chain_range p x ls r h k) c has
  where
    by_status : (s : Status) → ((x : ℕ) → Chain x ls → Has (filter_map range_of ls) r → HasPiece p ls r) → ChainBy s from (ls ≡ []) (λ x. Chain x ls)
        → Has (cons_option (range_by l.seen.meta.start s) (filter_map range_of ls)) r
        → (x : Piece) × Has (planned p l s (plan_of p ls)) x × IsOf r x
    by_status InProgress further last has = absurd (subst (λ (xs : List Listed). Has (filter_map range_of xs) r) last has)
    by_status (Done d) further (lt, rest) (inl same) =
        (piece_of p l (Some d.end), inl refl, (ap (λ (x : Range). x.start) same, ap (λ (x : Range). some_offset x.end) same))
    by_status (Done d) further (lt, rest) (inr has) = let x = further d.end.0 rest has in (x.0, inr x.1, x.2)
    by_status Abandoned further rest has = further from rest has

pub plan_pieces : (h : List Seen) (p : Partition) → InOrder h p → Pieces (mark_of h p) (plan_of p (metadata_of h p))
plan_pieces h p o = chain_pieces p (mark_of h p) (metadata_of h p) (listed_chain h p o)

pub plan_ranges : (h : List Seen) (p : Partition) (r : Range) → InOrder h p → Has (committed_of h p) r
    → (x : Piece) × Has (plan_of p (metadata_of h p)) x × IsOf r x
plan_ranges h p r o has = chain_range p (mark_of h p) (metadata_of h p) r (listed_chain h p o) has

-- each piece is that of a node that is listed
abbrev IsListed : List Listed → Piece → Type 0
IsListed ls x = (l : Listed) × Has ls l × (l.sequence ≡ x.sequence)

pub piece_listed : (p : Partition) (ls : List Listed) (x : Piece) → Has (plan_of p ls) x → IsListed ls x
piece_listed p [] x has = absurd has
piece_listed p (l ∷ ls) x has = by_status l.seen.meta.status has (λ k. let n = piece_listed p ls x k in (n.0, inr n.1, n.2))
  where
    by_status : (s : Status) → Has (planned p l s (plan_of p ls)) x → (Has (plan_of p ls) x → IsListed (l ∷ ls) x) → IsListed (l ∷ ls) x
    by_status InProgress (inl same) further = (l, inl refl, ap (λ (y : Piece). y.sequence) same)
    by_status InProgress (inr none) further = absurd none
    by_status (Done d) (inl same) further = (l, inl refl, ap (λ (y : Piece). y.sequence) same)
    by_status (Done d) (inr k) further = further k
    by_status Abandoned k further = further k
