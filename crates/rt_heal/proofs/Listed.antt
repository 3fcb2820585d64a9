-- The listed nodes of a partition are linked: each but the last has ended, and the next one begins where it did.
use Rattle.std.proofs.Common.{◌≡◌, ℕ, zero, suc, ◌+◌, ◌-◌, ◌<◌, ◌⊎◌, inl, inr, List, [], ◌∷◌, Option, Some, refl, sym, ◌∙◌, ap, subst, arith, filter_map, map}
use Rattle.std.specs.List.{cons_option, range_with_len}
use Rattle.std.specs.Prelude.{IsSome}
use Rattle.std.proofs.lemmas.Option.{none-some, same_Some}
use Rattle.rt_base.specs.declared.numbers.Offset.{Offset}
use Rattle.rt_base.specs.declared.numbers.Partition.{Partition}
use Rattle.rt_base.specs.declared.range.Range.{Range}
use Rattle.rt_lists.specs.Members.{Has}
use Rattle.rt_model.specs.declared.node.Listed.{Listed}
use Rattle.rt_model.specs.declared.node.Node.{Node}
use Rattle.rt_model.specs.declared.node.Node.TheVariants as node
use Rattle.rt_model.specs.declared.node.Seen.{Seen}
use Rattle.rt_model.specs.declared.seg_meta.SegMeta.{SegMeta}
use Rattle.rt_model.specs.declared.status.Status.{Status}
use Rattle.rt_model.specs.declared.status.Status.TheVariants.{InProgress, Done, Abandoned}
use Rattle.rt_model.specs.Chain.{deletions_of, start_by, start_in, IsCreation, IsPresent}
use Rattle.rt_model.specs.History.{last_write}
use Rattle.rt_model.specs.Lawful.{IsLawfulHistory}
use Rattle.rt_model.specs.Laws.{IsEnding, IsGoneLast}
use Rattle.rt_model.specs.Metadata.{life_of, listed_write, metadata_of, node_key, sequences_of, Ends, Follows, IsDoneStatus, IsEndFrom, IsFinalStatus, IsInProgress, StartsAfter}
use Rattle.rt_model.specs.Repair.{last_listed}
use Rattle.rt_model.specs.Starting.{Starting}
use Rattle.rt_model.specs.Tiled.{committed_of, mark_of, range_by, Tiles}
use Rattle.rt_model.proofs.Chains.{first_of, open_first}
use Rattle.rt_model.proofs.Histories.{Has-writes_of, value_of-last}
use Rattle.rt_model.proofs.Lawful.{has_chains, has_endings, has_lives}
use Rattle.rt_model.proofs.Listings.{has_listings, listed_has}
use Rattle.rt_model.proofs.Lives.{Follows-final}

-- ---- nodes

abbrev pub StartsAt : Offset → Node → Type 0
StartsAt x (node.Meta m) = m.start ≡ x
StartsAt x (node.Ideal i) = ⊥
StartsAt x node.Boot = ⊥
StartsAt x node.Gone = ⊥

ends_start : (c : Node) (m : SegMeta) → Ends c (node.Meta m) → StartsAt m.start c
ends_start (node.Meta a) m e = sym e.2
ends_start _ m e = absurd e

pub start_is : (x : Offset) (n : Node) → StartsAt x n → start_by n ≡ x.0
start_is x (node.Meta m) e = ap (λ (o : Offset). o.0) e
start_is x (node.Ideal i) e = absurd e
start_is x node.Boot e = absurd e
start_is x node.Gone e = absurd e

starts_after : (a : SegMeta) (n : Node) (x : Offset) → Follows (node.Meta a) n → StartsAt x n → StartsAfter a.status a.start x
starts_after a (node.Meta b) x f e = subst (StartsAfter a.status a.start) e f.1
starts_after a (node.Ideal i) x f e = absurd f
starts_after a node.Boot x f e = absurd f
starts_after a node.Gone x f e = absurd f

meta_there : (m : SegMeta) → node.Meta m ≡ node.Gone → ⊥
meta_there m e = cc

start_first : (ws : List Seen) (c : Seen) → first_of ws ≡ Some c → start_in ws ≡ start_by c.node
start_first [] c e = absurd (none-some c e)
start_first (w ∷ ws) c e = ap (λ (v : Seen). start_by v.node) (same_Some w c e)

-- ---- a listed node

-- it has ended past its start, and the next one begins where it left off
abbrev pub IsLink : Listed → Listed → Type 0
IsLink l m = StartsAfter l.seen.meta.status l.seen.meta.start m.seen.meta.start × IsEndFrom l.seen.meta.start l.seen.meta.status

module _ (s : Starting) (h : List Seen) (p : Partition) (lawful : IsLawfulHistory s h) (within : p.0 < s.partitions) where
  -- the write that it is ends the segment
  ending : (l : Listed) → Has (metadata_of h p) l → IsFinalStatus l.seen.meta.status → IsEnding h p l.sequence.0 (listed_write p l)
  ending l has final = record { has = listed_has h p l has; is_of = refl; final = final }

  last_is : (l : Listed) → Has (metadata_of h p) l → last_write h (node_key p l.sequence.0) ≡ Some (listed_write p l)
  last_is l has = (value_of-last h (node_key p l.sequence.0) (listed_write p l) ((has_listings s h lawful p within).values l has)).0

  -- which it is alone
  pub ended_once : (l : Listed) (w : Seen) → Has (metadata_of h p) l → IsEnding h p l.sequence.0 w → w ≡ listed_write p l
  ended_once l w has e = by_last (last_is l has) ((has_endings s h lawful p l.sequence.0 within).stays w e)
    where
      by_last : last_write h (node_key p l.sequence.0) ≡ Some (listed_write p l)
          → (last_write h (node_key p l.sequence.0) ≡ Some w) ⊎ IsGoneLast h p l.sequence.0 → w ≡ listed_write p l
      by_last last (inl there) = same_Some w (listed_write p l) (sym there ∙ last)
      by_last last (inr (g, there, gone)) =
          absurd (meta_there l.seen.meta (sym (ap (λ (v : Seen). v.node) (same_Some g (listed_write p l) (sym there ∙ last))) ∙ gone))

  -- it has the start with which it was created
  pub created_start : (l : Listed) (c : Seen) → Has (metadata_of h p) l → IsCreation h p l.sequence.0 c → StartsAt l.seen.meta.start c.node
  created_start l c has made = by_status l.seen.meta.status refl
    where
      by_end : IsFinalStatus l.seen.meta.status → StartsAt l.seen.meta.start c.node
      by_end final =
          ends_start c.node l.seen.meta ((has_endings s h lawful p l.sequence.0 within).keeps c (listed_write p l) made (ending l has final))

      by_status : (st : Status) → l.seen.meta.status ≡ st → StartsAt l.seen.meta.start c.node
      by_status InProgress e =
          let own : IsCreation h p l.sequence.0 (listed_write p l) =
          record { has = listed_has h p l has; is_of = refl; starts = subst IsInProgress (sym e) tt } in
          let same = (has_chains s h lawful p within).once l.sequence.0 c (listed_write p l) made own in
          let S : Seen → Type 0 = λ v. StartsAt l.seen.meta.start v.node in
          subst S (sym same) refl
      by_status (Done commit) e = by_end (subst IsFinalStatus (sym e) tt)
      by_status Abandoned e = by_end (subst IsFinalStatus (sym e) tt)

  pub was_created : (l : Listed) → Has (metadata_of h p) l → (c : Seen) × IsCreation h p l.sequence.0 c
  was_created l has =
      let chain = has_chains s h lawful p within in
      let value = (has_listings s h lawful p within).values l has in
      let there : IsPresent h p l.sequence.0 = let P : Option Seen → Type 0 = λ o. IsSome o in subst P (sym value) refl in
      chain.created l.sequence.0 ((chain.present l.sequence.0).0 there).1

  pub follows : (l m : Listed) → Has (metadata_of h p) l → Has (metadata_of h p) m → m.sequence.0 ≡ l.sequence.0 + 1
      → StartsAfter l.seen.meta.status l.seen.meta.start m.seen.meta.start
  follows l m has next e =
      let made = was_created m next in
      let C : ℕ → Type 0 = λ t. IsCreation h p t made.0 in
      let before = (has_chains s h lawful p within).next l.sequence.0 made.0 (subst C e made.1) in
      let ends : IsEnding h p l.sequence.0 before.0 =
      record { has = before.1; is_of = before.2; final = Follows-final before.0.node made.0.node before.3 } in
      let F : Seen → Type 0 = λ v. Follows v.node made.0.node in
      starts_after l.seen.meta made.0.node m.seen.meta.start (subst F (ended_once l before.0 has ends) before.3) (created_start m made.0 next made.1)

  linked : (l m : Listed) → Has (metadata_of h p) l → Has (metadata_of h p) m → m.sequence.0 ≡ l.sequence.0 + 1 → IsLink l m
  linked l m has next e = (follows l m has next e, by_status l.seen.meta.status refl (follows l m has next e))
    where
      by_status : (st : Status) → l.seen.meta.status ≡ st → StartsAfter l.seen.meta.status l.seen.meta.start m.seen.meta.start
          → IsEndFrom l.seen.meta.start l.seen.meta.status
      by_status InProgress is f = absurd (subst (λ (t : Status). StartsAfter t l.seen.meta.start m.seen.meta.start) is f)
      by_status (Done commit) is f =
          (has_chains s h lawful p within).past_start l.sequence.0 (listed_write p l) (listed_has h p l has) refl (subst IsDoneStatus (sym is) tt)
      by_status Abandoned is f = subst (IsEndFrom l.seen.meta.start) (sym is) tt

  -- the lowest one begins at the mark
  lowest_start : (l : Listed) → Has (metadata_of h p) l → l.sequence.0 ≡ deletions_of h p → mark_of h p ≡ l.seen.meta.start.0
  lowest_start l has e =
      let made = was_created l has in
      let life = life_of h p l.sequence.0 in
      let first = open_first life made.0 (has_lives s h lawful p l.sequence.0 within)
      (Has-writes_of h made.0 (node_key p l.sequence.0) made.1.has made.1.is_of) made.1.starts in
      ap (λ (t : ℕ). start_in (life_of h p t)) (sym e) ∙ start_first life made.0 first
      ∙ start_is l.seen.meta.start made.0.node (created_start l made.0 has made.1)

-- ---- a list of nodes

abbrev pub AreLinked : List Listed → Type 0
AreLinked [] = Unit {0}
AreLinked (l ∷ []) = Unit {0}
AreLinked (l ∷ m ∷ ls) = IsLink l m × AreLinked (m ∷ ls)

abbrev number : Listed → ℕ
number l = l.sequence.0

heads : (x y : ℕ) (xs ys : List ℕ) → x ∷ xs ≡ y ∷ ys → (x ≡ y) × (xs ≡ ys)
heads x y xs ys e = (cc, cc)

linked_by : (ls : List Listed) (a n : ℕ) → map number ls ≡ range_with_len a n
    → ((l m : Listed) → Has ls l → Has ls m → m.sequence.0 ≡ l.sequence.0 + 1 → IsLink l m) → AreLinked ls
linked_by [] a n run each = tt
linked_by (l ∷ []) a n run each = tt
linked_by (l ∷ m ∷ ls) a zero run each = absurd (cc)
linked_by (l ∷ m ∷ ls) a (suc zero) run each = absurd (cc)
linked_by (l ∷ m ∷ ls) a (suc (suc n)) run each =
    let one = heads l.sequence.0 a (map number (m ∷ ls)) (range_with_len (a + 1) (suc n)) run in
    let two = heads m.sequence.0 (a + 1) (map number ls) (range_with_len ((a + 1) + 1) n) one.1 in (
      each l m (inl refl) (inr (inl refl)) (omega (arith, one.0, two.0)),
      linked_by (m ∷ ls) (a + 1) (suc n) one.1 (λ x y hx hy. each x y (inr hx) (inr hy)),
    )

-- ---- they tile

abbrev range_of : Listed → Option Range
range_of l = range_by l.seen.meta.start l.seen.meta.status

tiles_more : (st : Status) (start next : Offset) (rest : List Range) (to : ℕ) → StartsAfter st start next → IsEndFrom start st
    → Tiles next.0 rest to → Tiles start.0 (cons_option (range_by start st) rest) to
tiles_more InProgress start next rest to f e t = absurd f
tiles_more (Done c) start next rest to f e t = (refl, e, subst (λ (x : Offset). Tiles x.0 rest to) f t)
tiles_more Abandoned start next rest to f e t = subst (λ (x : Offset). Tiles x.0 rest to) f t

tiles_none : (st : Status) (start : Offset) → IsInProgress st → Tiles start.0 (cons_option (range_by start st) []) start.0
tiles_none InProgress start o = refl
tiles_none (Done c) start o = absurd o
tiles_none Abandoned start o = absurd o

linked_tiles : (l : Listed) (ls : List Listed) (x : Listed) → AreLinked (l ∷ ls) → last_listed (l ∷ ls) ≡ Some x → IsInProgress x.seen.meta.status
    → Tiles l.seen.meta.start.0 (filter_map range_of (l ∷ ls)) x.seen.meta.start.0
linked_tiles l [] x k e o =
    let T : Listed → Type 0 = λ y. Tiles y.seen.meta.start.0 (filter_map range_of (y ∷ [])) x.seen.meta.start.0 in
    subst T (sym (same_Some l x e)) (tiles_none x.seen.meta.status x.seen.meta.start o)
linked_tiles l (m ∷ ls) x k e o =
    tiles_more l.seen.meta.status l.seen.meta.start m.seen.meta.start (filter_map range_of (m ∷ ls)) x.seen.meta.start.0 k.0.0 k.0.1
    (linked_tiles m ls x k.1 e o)

-- ---- of a partition

first_number : (l : Listed) (ls : List Listed) (a n : ℕ) → map number (l ∷ ls) ≡ range_with_len a n → l.sequence.0 ≡ a
first_number l ls a zero e = absurd (cc)
first_number l ls a (suc n) e = (heads l.sequence.0 a (map number ls) (range_with_len (a + 1) n) e).0

module _ (s : Starting) (h : List Seen) (p : Partition) (lawful : IsLawfulHistory s h) (within : p.0 < s.partitions) where
  pub are_linked : AreLinked (metadata_of h p)
  are_linked =
      linked_by (metadata_of h p) (deletions_of h p) (sequences_of h p - deletions_of h p) (has_listings s h lawful p within).run
      (linked s h p lawful within)

  run : map number (metadata_of h p) ≡ range_with_len (deletions_of h p) (sequences_of h p - deletions_of h p)
  run = (has_listings s h lawful p within).run

  -- the first one begins at the mark
  pub first_start : (l : Listed) (ls : List Listed) → metadata_of h p ≡ l ∷ ls → mark_of h p ≡ l.seen.meta.start.0
  first_start l ls e =
      let M : List Listed → Type 0 = λ ms. Has ms l in
      let at = first_number l ls (deletions_of h p) (sequences_of h p - deletions_of h p) (sym (ap (map number) e) ∙ run) in
      lowest_start s h p lawful within l (subst M (sym e) (inl refl)) at

  -- the committed ranges tile the offsets from the mark up to the start of the last segment, where that is in progress
  pub tiled_to_last : (x : Listed) → last_listed (metadata_of h p) ≡ Some x → IsInProgress x.seen.meta.status
      → Tiles (mark_of h p) (committed_of h p) x.seen.meta.start.0
  tiled_to_last x last o = by_list (metadata_of h p) refl
    where
      by_list : (ls : List Listed) → metadata_of h p ≡ ls → Tiles (mark_of h p) (committed_of h p) x.seen.meta.start.0
      by_list [] e = absurd (none-some x (sym (ap last_listed e) ∙ last))
      by_list (l ∷ ls) e =
          let mark = first_start l ls e in
          let L : List Listed → Type 0 = λ ms. Tiles (mark_of h p) (filter_map range_of ms) x.seen.meta.start.0 in
          let T : ℕ → Type 0 = λ t. Tiles t (filter_map range_of (l ∷ ls)) x.seen.meta.start.0 in
          subst L (sym e) (subst T (sym mark) (linked_tiles l ls x (subst AreLinked e are_linked) (sym (ap last_listed e) ∙ last) o))
