-- Over a plan's pieces each row has its own place, so none is left out.
use Rattle.std.proofs.Common.{◌≡◌, ◌<◌, ◌≤◌, ◌+◌, ◌⊎◌, inl, inr, ◌||◌, ℕ, zero, suc, Bool, false, cond, List, [], ◌∷◌, ◌++◌, map, option_to_list, Option, Some, None, Ordering, Less, Equal, Greater, nat_cmp, refl, sym, ◌∙◌, ap, subst, arith, append_assoc, append-nil}
use Rattle.std.specs.Ordering.{is_eq, match_ordering, ordering_then}
use Rattle.std.proofs.lemmas.Cmp.{ranked}
use Rattle.rt_base.specs.declared.numbers.Partition.{Partition}
use Rattle.rt_base.specs.declared.numbers.Sequence.{Sequence}
use Rattle.rt_model.specs.Metadata.{listed_by, listed_in, metadata_below, metadata_of, node_key, sequences_of}
use Rattle.rt_model.specs.History.{value_of}
use Rattle.rt_model.specs.Plan.{plan_of, planned}
use Rattle.rt_model.specs.RightAnswer.{AskedPiece}
use Rattle.rt_model.specs.declared.node.Listed.{Listed}
use Rattle.rt_model.specs.declared.node.Node.{Node}
use Rattle.rt_model.specs.declared.node.Node.TheVariants as node
use Rattle.rt_model.specs.declared.node.Seen.{Seen}
use Rattle.rt_model.specs.declared.piece.Piece.{Piece}
use Rattle.rt_model.specs.declared.status.Status.{Status}
use Rattle.rt_model.specs.declared.status.Status.TheVariants.{InProgress, Done, Abandoned}
use Rattle.rt_play.specs.Laid.{laid, laid_from}
use Rattle.rt_schema.specs.declared.row.Row.{Row}
use Rattle.rt_schema.specs.declared.schema.Schema.{Schema}
use Rattle.rt_upconf.specs.declared.upsert_config.UpsertConfig.{UpsertConfig}
use Rattle.rt_upsert.specs.Latest.{start_of}
use Rattle.rt_upsert.specs.Placed.{Placed, PlacedRows, is_held, place_cmp, put_in, with_row}
use Rattle.rt_upsert.specs.declared.place.Place.{Place}
use Rattle.rt_views.specs.Placing.{put_at, put_from}
use Rattle.rt_views.specs.Streamed.{put_streamed, streamed}

-- ---- numbers in order

greater_is : (a b : ℕ) → b < a → nat_cmp a b ≡ Greater
greater_is a b lt = by_order (nat_cmp a b) refl
  where
    by_order : (c : Ordering) → nat_cmp a b ≡ c → nat_cmp a b ≡ Greater
    by_order Less e = let less : a < b = ranked a b Less (sym e) in absurd (omega (arith, lt, less))
    by_order Equal e = let same : a ≡ b = ranked a b Equal (sym e) in absurd (omega (arith, lt, same))
    by_order Greater e = e

equal_is : (a b : ℕ) → a ≡ b → nat_cmp a b ≡ Equal
equal_is a b same = by_order (nat_cmp a b) refl
  where
    by_order : (c : Ordering) → nat_cmp a b ≡ c → nat_cmp a b ≡ Equal
    by_order Less e = let less : a < b = ranked a b Less (sym e) in absurd (omega (arith, same, less))
    by_order Equal e = e
    by_order Greater e = let more : b < a = ranked a b Greater (sym e) in absurd (omega (arith, same, more))

-- ---- rows that come before a place

abbrev IsBefore : ℕ → ℕ → Placed → Type 0
IsBefore s n x = (x.place.sequence.0 < s) ⊎ ((x.place.sequence.0 ≡ s) × (x.place.row < n))

abbrev AreBefore : ℕ → ℕ → List Placed → Type 0
AreBefore s n [] = Unit {0}
AreBefore s n (x ∷ xs) = IsBefore s n x × AreBefore s n xs

before_later : (s n t m : ℕ) → (s < t) ⊎ ((s ≡ t) × (n ≤ m)) → (xs : List Placed) → AreBefore s n xs → AreBefore t m xs
before_later s n t m le [] h = tt
before_later s n t m le (x ∷ xs) (first, rest) = (by_cases le first, before_later s n t m le xs rest)
  where
    by_cases : (s < t) ⊎ ((s ≡ t) × (n ≤ m)) → IsBefore s n x → IsBefore t m x
    by_cases (inl lt) (inl less) = inl (omega (arith, lt, less))
    by_cases (inl lt) (inr (same, less)) = inl (omega (arith, lt, same))
    by_cases (inr (e, le)) (inl less) = inl (omega (arith, e, less))
    by_cases (inr (e, le)) (inr (same, less)) = inr (omega (arith, e, same), omega (arith, le, less))

before_append : (s n : ℕ) (xs ys : List Placed) → AreBefore s n xs → AreBefore s n ys → AreBefore s n (xs ++ ys)
before_append s n [] ys h k = k
before_append s n (x ∷ xs) ys (first, rest) k = (first, before_append s n xs ys rest k)

abbrev at_place : Sequence → ℕ → Place
at_place s n = record { sequence = s; row = n }

place_greater : (s : Sequence) (n : ℕ) (x : Placed) → IsBefore s.0 n x → place_cmp (at_place s n) x.place ≡ Greater
place_greater s n x (inl less) = ap (λ c. ordering_then c (nat_cmp n x.place.row)) (greater_is s.0 x.place.sequence.0 less)
place_greater s n x (inr (same, less)) =
    ap (λ c. ordering_then c (nat_cmp n x.place.row)) (equal_is s.0 x.place.sequence.0 (sym same)) ∙ greater_is n x.place.row less

-- so none of them is there
none_held : (s : Sequence) (n : ℕ) (xs : List Placed) → AreBefore s.0 n xs → is_held (at_place s n) xs ≡ false
none_held s n [] h = refl
none_held s n (x ∷ xs) (first, rest) = ap (λ c. is_eq c || is_held (at_place s n) xs) (place_greater s n x first) ∙ none_held s n xs rest

-- and a row that is put there comes last
comes_last : (s : Sequence) (n : ℕ) (row : Row) (xs : List Placed) → AreBefore s.0 n xs
    → put_in (record { place = at_place s n; row = row }) xs ≡ xs ++ record { place = at_place s n; row = row } ∷ []
comes_last s n row [] h = refl
comes_last s n row (x ∷ xs) (first, rest) =
    let new : Placed = record { place = at_place s n; row = row } in
    ap (λ c. match_ordering c (new ∷ (x ∷ xs)) (record { place = x.place; row = row } ∷ xs) (x ∷ put_in new xs)) (place_greater s n x first)
    ∙ ap (λ ys. x ∷ ys) (comes_last s n row xs rest)

put_last : (s : Sequence) (n : ℕ) (row : Row) (held : PlacedRows) → AreBefore s.0 n held.rows
    → (put_at held (at_place s n) row).rows ≡ held.rows ++ record { place = at_place s n; row = row } ∷ []
put_last s n row held before =
    ap (λ (b : Bool). (cond b held (with_row held (at_place s n) row)).rows) (none_held s n held.rows before) ∙ comes_last s n row held.rows before

from_last : (s : Sequence) (n : ℕ) (held : PlacedRows) (rows : List Row) → AreBefore s.0 n held.rows
    → (put_from s n held rows).rows ≡ held.rows ++ laid_from s n rows
from_last s n held [] before = sym (append-nil held.rows)
from_last s n held (row ∷ rows) before =
    let x : Placed = record { place = at_place s n; row = row } in
    let one = put_last s n row held before in
    let more : AreBefore s.0 (n + 1) (held.rows ++ x ∷ []) =
    before_append s.0 (n + 1) held.rows (x ∷ []) (before_later s.0 n s.0 (n + 1) (inr (refl, omega arith)) held.rows before) (inr (refl, omega arith), tt) in
    from_last s (n + 1) (put_at held (at_place s n) row) rows (subst (AreBefore s.0 (n + 1)) (sym one) more)
    ∙ ap (λ xs. xs ++ laid_from s (n + 1) rows) one
    ∙ append_assoc held.rows (x ∷ []) (laid_from s (n + 1) rows)

-- ---- the rows of a segment come before the next one's

laid_before : (s : Sequence) (n bound : ℕ) (rows : List Row) → s.0 < bound → AreBefore bound 0 (laid_from s n rows)
laid_before s n bound [] lt = tt
laid_before s n bound (row ∷ rows) lt = (inl lt, laid_before s (n + 1) bound rows lt)

-- ---- pieces whose sequences ascend

abbrev Ascend : ℕ → List Piece → Type 0
Ascend from [] = Unit {0}
Ascend from (piece ∷ rest) = (from ≤ piece.sequence.0) × Ascend (piece.sequence.0 + 1) rest

streamed_last : (schema : Schema) (messages : List (List ℕ)) (from : ℕ) (held : PlacedRows) (pieces : List AskedPiece)
    → Ascend from (map (λ a. a.piece) pieces) → AreBefore from 0 held.rows
    → (put_streamed schema messages held pieces).rows ≡ held.rows ++ laid schema messages pieces
streamed_last schema messages from held [] ascend before = sym (append-nil held.rows)
streamed_last schema messages from held (a ∷ rest) (le, ascend) before =
    let s = a.piece.sequence in
    let rows = streamed schema messages a.served in
    let here : AreBefore s.0 0 held.rows = before_later from 0 s.0 0 (at_least from s.0 le) held.rows before in
    let one = from_last s 0 held rows here in
    let more : AreBefore (s.0 + 1) 0 (held.rows ++ laid_from s 0 rows) =
    before_append (s.0 + 1) 0 held.rows (laid_from s 0 rows) (before_later s.0 0 (s.0 + 1) 0 (inl (omega arith)) held.rows here)
    (laid_before s 0 (s.0 + 1) rows (omega arith)) in
    streamed_last schema messages (s.0 + 1) (put_from s 0 held rows) rest ascend (subst (AreBefore (s.0 + 1) 0) (sym one) more)
    ∙ ap (λ xs. xs ++ laid schema messages rest) one
    ∙ append_assoc held.rows (laid_from s 0 rows) (laid schema messages rest)
  where
    at_least : (m n : ℕ) → m ≤ n → (m < n) ⊎ ((m ≡ n) × (0 ≤ 0))
    at_least zero zero h = inr (refl, omega arith)
    at_least zero (suc n) h = inl (omega arith)
    at_least (suc m) zero h = absurd (omega (arith, h))
    at_least (suc m) (suc n) h = by_below (at_least m n (omega (arith, h)))
      where
        by_below : (m < n) ⊎ ((m ≡ n) × (0 ≤ 0)) → (suc m < suc n) ⊎ ((suc m ≡ suc n) × (0 ≤ 0))
        by_below (inl lt) = inl (omega (arith, lt))
        by_below (inr (e, le)) = inr (ap suc e, le)

-- ---- a plan's do

abbrev NodesAscend : ℕ → List Listed → Type 0
NodesAscend from [] = Unit {0}
NodesAscend from (l ∷ ls) = (from ≤ l.sequence.0) × NodesAscend (l.sequence.0 + 1) ls

abbrev EndBelow : ℕ → List Listed → Type 0
EndBelow n [] = Unit {0}
EndBelow n (l ∷ ls) = (l.sequence.0 < n) × EndBelow n ls

abbrev IsAt : ℕ → Option Listed → Type 0
IsAt n None = Unit {0}
IsAt n (Some l) = l.sequence.0 ≡ n

listed_at : (n : ℕ) (o : Option Seen) → IsAt n (listed_in n o)
listed_at n None = tt
listed_at n (Some w) = by_node w.node
  where
    by_node : (x : Node) → IsAt n (listed_by n w.version x)
    by_node (node.Meta m) = refl
    by_node (node.Ideal i) = tt
    by_node node.Boot = tt
    by_node node.Gone = tt

more_ascend : (from n : ℕ) (ls : List Listed) (o : Option Listed) → from ≤ n → NodesAscend from ls → EndBelow n ls → IsAt n o
    → NodesAscend from (ls ++ option_to_list o)
more_ascend from n [] None le a b at = tt
more_ascend from n [] (Some l) le a b at = (omega (arith, le, at), tt)
more_ascend from n (x ∷ ls) o le a b at = (a.0, more_ascend (x.sequence.0 + 1) n ls o (omega (arith, b.0)) a.1 b.1 at)

more_below : (n : ℕ) (ls : List Listed) (o : Option Listed) → EndBelow n ls → IsAt n o → EndBelow (suc n) (ls ++ option_to_list o)
more_below n [] None b at = tt
more_below n [] (Some l) b at = (omega (arith, at), tt)
more_below n (x ∷ ls) o b at = (omega (arith, b.0), more_below n ls o b.1 at)

below_ascend : (h : List Seen) (p : Partition) (n : ℕ) → NodesAscend 0 (metadata_below h p n) × EndBelow n (metadata_below h p n)
below_ascend h p zero = (tt, tt)
below_ascend h p (suc n) =
    let further = below_ascend h p n in
    let o = listed_in n (value_of h (node_key p n)) in
    let at = listed_at n (value_of h (node_key p n)) in
    (more_ascend 0 n (metadata_below h p n) o (omega arith) further.0 further.1 at, more_below n (metadata_below h p n) o further.1 at)

ascend_from : (m n : ℕ) (pieces : List Piece) → m ≤ n → Ascend n pieces → Ascend m pieces
ascend_from m n [] le a = tt
ascend_from m n (piece ∷ rest) le a = (omega (arith, le, a.0), a.1)

plan_ascends : (p : Partition) (from : ℕ) (ls : List Listed) → NodesAscend from ls → Ascend from (plan_of p ls)
plan_ascends p from [] a = tt
plan_ascends p from (l ∷ ls) a = by_status l.seen.meta.status (plan_ascends p (l.sequence.0 + 1) ls a.1)
  where
    by_status : (s : Status) → Ascend (l.sequence.0 + 1) (plan_of p ls) → Ascend from (planned p l s (plan_of p ls))
    by_status InProgress further = (a.0, tt)
    by_status (Done commit) further = (a.0, further)
    by_status Abandoned further = ascend_from from (l.sequence.0 + 1) (plan_of p ls) (omega (arith, a.0)) further

pub all_laid : (schema : Schema) (config : UpsertConfig) (messages : List (List ℕ)) (h : List Seen) (p : Partition) (pieces : List AskedPiece)
    → map (λ a. a.piece) pieces ≡ plan_of p (metadata_of h p)
    → (put_streamed schema messages (start_of schema config) pieces).rows ≡ laid schema messages pieces
all_laid schema config messages h p pieces e =
    streamed_last schema messages 0 (start_of schema config) pieces
    (subst (Ascend 0) (sym e) (plan_ascends p 0 (metadata_of h p) (below_ascend h p (sequences_of h p)).0)) tt
