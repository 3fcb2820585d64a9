-- An answer of a `query` line names the whole of each committed segment or nothing of it, and nothing below a partition's mark; and where it
-- misses nothing of a partition all of it from the mark on.
use Rattle.std.proofs.Common.{◌≡◌, ◌<◌, ◌≤◌, ◌⊎◌, inl, inr, ℕ, List, map, Option, Some, None, refl, sym, ◌∙◌, ap, subst}
use Rattle.rt_base.specs.declared.numbers.Partition.{Partition}
use Rattle.rt_base.specs.declared.numbers.Sequence.{Sequence}
use Rattle.rt_base.specs.declared.range.Range.{Range}
use Rattle.rt_lists.specs.Members.{Has}
use Rattle.rt_model.proofs.Lawful.{nodes_are_in_order}
use Rattle.rt_model.proofs.Listings.{has_listings}
use Rattle.rt_model.specs.History.{value_of}
use Rattle.rt_model.specs.Metadata.{listed_write, metadata_of, node_key}
use Rattle.rt_model.specs.Plan.{plan_of}
use Rattle.rt_model.specs.RightAnswer.{AskedPiece, merged, pieces_of, served_ranges}
use Rattle.rt_model.specs.Tiled.{committed_of, mark_of}
use Rattle.rt_model.specs.declared.answer.Answer.{Answer}
use Rattle.rt_model.specs.declared.piece.Piece.{Piece}
use Rattle.rt_play.proofs.Covered.{AreFit, named_above, names_above, names_pieces, names_whole}
use Rattle.rt_play.proofs.Misses.{missed_piece}
use Rattle.rt_play.proofs.Noted.{Holds, WasCommitted, stands_from}
use Rattle.rt_play.proofs.Plans.{IsOf, Pieces, piece_listed, plan_pieces, plan_ranges}
use Rattle.rt_play.proofs.QueryLines.{IsFound, PartFound, part_found}
use Rattle.rt_play.proofs.Ranged.{range_stands}
use Rattle.rt_play.specs.Ledger.{GoesThrough, MissesNothing, NamesSo, Notes, Ranges, Segment, StandFrom}
use Rattle.rt_play.specs.Named.{Each, Spares, ranges_at}
use Rattle.rt_state.specs.IsSafeWorld.{IsSafeWorld}
use Rattle.rt_state.specs.declared.state.State.{State}
use Rattle.rt_store.specs.Contents.{starting_of}

module _ (ranges : Ranges) (w v : State) (notes : Notes) (answer : Answer) (safe : IsSafeWorld w) (k : Holds ranges w notes) (found : IsFound w v answer) where
  abbrev range_of : Segment → Range
  range_of s = ranges s.partition s.sequence

  abbrev Committed : Segment → Type 0
  Committed s = Has (committed_of w.store.writes s.partition) (range_of s)

  stands : (s : Segment) → WasCommitted ranges w s → Committed s ⊎ ((range_of s).end.0 ≤ mark_of w.store.writes s.partition)
  stands s c = range_stands (starting_of w.setup) w.store.writes safe.safe.past.lawful s.partition s.sequence c.write (range_of s) c.within c.has c.of c.done

  -- the plan of a partition, with what was served of it
  pieces_from : (p : Partition) (xs : List AskedPiece) → p.0 < w.setup.partitions → map (λ a. a.piece) xs ≡ plan_of p (metadata_of w.store.writes p)
      → Pieces (mark_of w.store.writes p) (map (λ a. a.piece) xs)
  pieces_from p xs within plan =
      subst (Pieces (mark_of w.store.writes p)) (sym plan)
      (plan_pieces w.store.writes p (nodes_are_in_order (starting_of w.setup) w.store.writes safe.safe.past.lawful p within))

  abbrev HasIts : List AskedPiece → Range → Type 0
  HasIts xs r = (x : Piece) × Has (map (λ a. a.piece) xs) x × IsOf r x

  its_piece : (p : Partition) (xs : List AskedPiece) (r : Range) → p.0 < w.setup.partitions → map (λ a. a.piece) xs ≡ plan_of p (metadata_of w.store.writes p)
      → Has (committed_of w.store.writes p) r → HasIts xs r
  its_piece p xs r within plan has =
      let x = plan_ranges w.store.writes p r (nodes_are_in_order (starting_of w.setup) w.store.writes safe.safe.past.lawful p within) has in
      (x.0, subst (λ (ps : List Piece). Has ps x.0) (sym plan) x.1, x.2)

  -- ---- a segment

  spared : (s : Segment) → Has notes.committed s → Each (Spares (range_of s)) (ranges_at s.partition answer.ranges)
  spared s has =
      let c = k.committed s has in
      let part = part_found w v answer s.partition c.within found in
      by_pieces c part part.pieces refl
    where
      by_place : (xs : List AskedPiece) → (c : WasCommitted ranges w s) → map (λ a. a.piece) xs ≡ plan_of s.partition (metadata_of w.store.writes s.partition)
          → AreFit xs → Committed s ⊎ ((range_of s).end.0 ≤ mark_of w.store.writes s.partition) → Each (Spares (range_of s)) (merged (served_ranges xs))
      by_place xs c plan fit (inl committed) =
          let x = its_piece s.partition xs (range_of s) c.within plan committed in
          names_pieces (mark_of w.store.writes s.partition) xs (range_of s) x.0 (pieces_from s.partition xs c.within plan) fit x.1 x.2
      by_place xs c plan fit (inr below) =
          names_above (mark_of w.store.writes s.partition) xs (range_of s) (pieces_from s.partition xs c.within plan) fit below

      by_pieces : WasCommitted ranges w s → (part : PartFound w s.partition answer) → (o : Option (List AskedPiece)) → part.pieces ≡ o
          → Each (Spares (range_of s)) (ranges_at s.partition answer.ranges)
      by_pieces c part None e =
          subst (Each (Spares (range_of s))) (sym (part.named ∙ ap (λ (o : Option (List AskedPiece)). merged (served_ranges (pieces_of o))) e)) tt
      by_pieces c part (Some xs) e =
          let plan = part.plan xs e in
          subst (Each (Spares (range_of s))) (sym (part.named ∙ ap (λ (o : Option (List AskedPiece)). merged (served_ranges (pieces_of o))) e))
          (by_place xs c plan.0 plan.1 (stands s c))

  -- ---- a partition

  through : (p : Partition) → p.0 < w.setup.partitions → MissesNothing answer p → GoesThrough ranges (mark_of w.store.writes) notes p (ranges_at p answer.ranges)
  through p within misses = let part = part_found w v answer p within found in by_pieces part part.pieces refl
    where
      by_pieces : (part : PartFound w p answer) → (o : Option (List AskedPiece)) → part.pieces ≡ o
          → GoesThrough ranges (mark_of w.store.writes) notes p (ranges_at p answer.ranges)
      by_pieces part None e = absurd (misses None (part.lost e))
      by_pieces part (Some xs) e =
          let plan = part.plan xs e in
          let whole = names_whole (mark_of w.store.writes p) xs (pieces_from p xs within plan.0) plan.1 (part.whole xs e misses) in
          record {
            to = whole.to;
            up = whole.up;
            one = part.named ∙ ap (λ (o : Option (List AskedPiece)). merged (served_ranges (pieces_of o))) e ∙ whole.named;
            all = λ s has at. by_place s at (stands s (k.committed s has)) (λ r has. its_piece p xs r within plan.0 has) whole.covers;
          }
        where
          by_place : (s : Segment) → s.partition ≡ p → Committed s ⊎ ((range_of s).end.0 ≤ mark_of w.store.writes s.partition)
              → ((r : Range) → Has (committed_of w.store.writes p) r → HasIts xs r) → {to : ℕ}
              → ((r : Range) (x : Piece) → Has (map (λ a. a.piece) xs) x → IsOf r x → (mark_of w.store.writes p ≤ r.start.0) × (r.end.0 ≤ to))
              → ((range_of s).end.0 ≤ mark_of w.store.writes p) ⊎ ((mark_of w.store.writes p ≤ (range_of s).start.0) × ((range_of s).end.0 ≤ to))
          by_place s at (inr below) has covers = inl (subst (λ (q : Partition). (range_of s).end.0 ≤ mark_of w.store.writes q) at below)
          by_place s at (inl committed) has covers =
              let x = has (range_of s) (subst (λ (q : Partition). Has (committed_of w.store.writes q) (range_of s)) at committed) in
              inr (covers (range_of s) x.0 x.1 x.2)

  -- nothing below the mark is named
  above : (p : Partition) → p.0 < w.setup.partitions → Each (λ r. mark_of w.store.writes p ≤ r.start.0) (ranges_at p answer.ranges)
  above p within = let part = part_found w v answer p within found in by_pieces part part.pieces refl
    where
      by_pieces : (part : PartFound w p answer) → (o : Option (List AskedPiece)) → part.pieces ≡ o
          → Each (λ r. mark_of w.store.writes p ≤ r.start.0) (ranges_at p answer.ranges)
      by_pieces part o e =
          subst (Each (λ r. mark_of w.store.writes p ≤ r.start.0)) (sym (part.named ∙ ap (λ (o : Option (List AskedPiece)). merged (served_ranges (pieces_of o))) e))
          (by_plan o (part.plan) e)
        where
          by_plan : (o : Option (List AskedPiece)) → ((xs : List AskedPiece) → part.pieces ≡ Some xs → (map (λ a. a.piece) xs ≡ plan_of p (metadata_of w.store.writes p)) × AreFit xs)
              → part.pieces ≡ o → Each (λ r. mark_of w.store.writes p ≤ r.start.0) (merged (served_ranges (pieces_of o)))
          by_plan None plan e = tt
          by_plan (Some xs) plan e = let its = plan xs e in named_above (mark_of w.store.writes p) xs (pieces_from p xs within its.0) its.1

  -- what is missing is there
  missed : (p : Partition) (q : Sequence) → Has answer.missing (p, Some q) → StandFrom ranges (mark_of w.store.writes) notes p q
  missed p q has s committed same le =
      let m = missed_piece w v answer found p q has in
      let l = piece_listed p (metadata_of w.store.writes p) m.piece m.planned in
      let within = subst (λ (x : Partition). x.0 < w.setup.partitions) same (k.committed s committed).within in
      let there = (has_listings (starting_of w.setup) w.store.writes safe.safe.past.lawful p within).values l.0 l.1 in
      let sequence : l.0.sequence ≡ q = l.2 ∙ m.sequence in
      stands_from ranges w notes p q (listed_write p l.0) safe k
      (subst (λ (x : Sequence). value_of w.store.writes (node_key p x.0) ≡ Some (listed_write p l.0)) sequence there) s committed same le

pub names_so : (ranges : Ranges) (w v : State) (notes : Notes) (answer : Answer) → IsSafeWorld w → Holds ranges w notes → IsFound w v answer
    → NamesSo w.setup ranges (mark_of w.store.writes) notes answer
names_so ranges w v notes answer safe k found = record {
  whole = λ s has. spared ranges w v notes answer safe k found s has;
  above = λ p within. above ranges w v notes answer safe k found p within;
  missed = λ p q has. missed ranges w v notes answer safe k found p q has;
  through = λ p within misses. through ranges w v notes answer safe k found p within misses;
}
