-- The numbers of an answer that is given in a safe world fit words of 64 bits.
use Rattle.std.proofs.Common.{◌≡◌, ◌<◌, ◌≤◌, inl, inr, ℕ, List, [], ◌∷◌, length, Option, Some, None, refl, sym, ap, subst, arith, ⊎_elim}
use Rattle.std.specs.Prelude.{IfSome}
use Rattle.std.proofs.lemmas.Bool.{cases_lt}
use Rattle.std.proofs.lemmas.List.{get_or_past}
use Rattle.std.proofs.lemmas.Option.{slice_get_within}
use Rattle.rt_base.specs.declared.numbers.Partition.{Partition}
use Rattle.rt_base.specs.declared.numbers.Sequence.{Sequence}
use Rattle.rt_base.specs.declared.range.Range.{Range}
use Rattle.rt_broker.specs.Answering.{IsMissing}
use Rattle.rt_broker.specs.Asking.{plan_in, route_at}
use Rattle.rt_broker.specs.declared.piece_asked.PieceAsked.{PieceAsked}
use Rattle.rt_broker.specs.declared.route.Route.{Route}
use Rattle.rt_broker.specs.declared.route.Route.TheVariants.{Failed, Planned, Untried}
use Rattle.rt_lists.proofs.Members.{Has-front, map-Has}
use Rattle.rt_lists.specs.Members.{Has}
use Rattle.rt_model.proofs.Listings.{listed_has}
use Rattle.rt_model.specs.Metadata.{listed_write, metadata_of}
use Rattle.rt_model.specs.declared.answer.Answer.{Answer}
use Rattle.rt_model.specs.declared.piece.Piece.{Piece}
use Rattle.rt_play.proofs.AllHave.{each_all}
use Rattle.rt_play.proofs.NamedRanges.{AreProduced, named_produced}
use Rattle.rt_play.proofs.Plans.{piece_listed}
use Rattle.rt_play.specs.AnswerTexts.{AreWords, IsWord}
use Rattle.rt_safety.proofs.Answering.{few_at}
use Rattle.rt_safety.specs.IsAnswered.{IsAnswered}
use Rattle.rt_state.proofs.Bounds.{few_writes}
use Rattle.rt_state.proofs.Sequences.{number_within}
use Rattle.rt_state.specs.IsSafeWorld.{IsSafeWorld}
use Rattle.rt_state.specs.declared.state.State.{State}
use Rattle.rt_store.specs.Contents.{starting_of}
use Rattle.rt_stream.specs.Log.{messages_of}

-- ---- an answer

module _ (w : State) (number : ℕ) (answer : Answer) (is : IsAnswered w number answer) where
  -- its ranges are in order, within what was produced
  pub answer_produced : AreProduced w.log 0 0 answer.ranges
  answer_produced = subst (λ rs. AreProduced w.log 0 0 rs) (sym is.right.ranges) (named_produced w.log _ (length w.log) is.right.partitions is.right.served)

  module _ (safe : IsSafeWorld w) where
    few_partitions : (p : Partition) → p.0 < w.setup.partitions → IsWord p.0
    few_partitions p lt = omega (arith, lt, safe.safe.setup.few_partitions)

    -- a partition with a message is one of the cluster
    in_cluster : (p : Partition) → 0 < length (messages_of w.log p) → p.0 < w.setup.partitions
    in_cluster p some = ⊎_elim (λ lt. omega (arith, lt, safe.safe.past.partitions)) (λ past. absurd (none past)) (cases_lt p.0 (length w.log))
      where
        none : length w.log ≤ p.0 → ⊥
        none past = omega (arith, some, ap (λ (ms : List (List ℕ)). length ms) (get_or_past w.log p.0 [] past))

    range_words : (from at : ℕ) (rs : List (Partition × Range)) (r : Partition × Range) → AreProduced w.log from at rs → Has rs r
        → IsWord r.0.0 × IsWord r.1.start.0 × IsWord r.1.end.0
    range_words from at [] r k has = absurd has
    range_words from at (x ∷ rs) r (place, some, within, rest) (inl same) =
        subst (λ (y : Partition × Range). IsWord y.0.0 × IsWord y.1.start.0 × IsWord y.1.end.0) same (
          few_partitions x.0 (in_cluster x.0 (omega (arith, some, within))),
          omega (arith, some, within, few_at w x.0 safe),
          omega (arith, within, few_at w x.0 safe),
        )
    range_words from at (x ∷ rs) r (place, some, within, rest) (inr has) = range_words x.0.0 x.1.end.0 rs r rest has

    routed : (p : Partition) (route : Route) → route_at is.asked p ≡ Some route → IsWord p.0
    routed p route at = few_partitions p (omega (arith, slice_get_within is.asked.routes p.0 route at, is.over.partitions))

    -- a piece of a plan is that of a segment that was written
    piece_word : (p : Partition) (xs : List PieceAsked) (x : PieceAsked) → route_at is.asked p ≡ Some (Planned xs) → Has xs x → IsWord x.piece.sequence.0
    piece_word p xs x at has =
        let plan = is.over.routes p (Planned xs) at in
        let planned = subst (λ (ps : List Piece). Has ps x.piece) plan.plan (map-Has (λ (y : PieceAsked). y.piece) xs x has) in
        let listed = piece_listed p (metadata_of plan.seen p) x.piece planned in
        let write = listed_write p listed.0 in
        let there = Has-front plan.seen w.store.writes write plan.front (listed_has plan.seen p listed.0 listed.1) in
        let within : p.0 < w.setup.partitions = omega (arith, slice_get_within is.asked.routes p.0 (Planned xs) at, is.over.partitions) in
        let lt = number_within (starting_of w.setup) w.store.writes p listed.0.sequence.0 write safe.safe.past.lawful within there refl in
        omega (arith, lt, few_writes w safe, ap (λ (s : Sequence). s.0) listed.2)

    missing_words : (p : Partition) (s : Option Sequence) → IsMissing is.asked p s → IsWord p.0 × IfSome s (λ q. IsWord q.0)
    missing_words p None failed = (routed p Failed failed, tt)
    missing_words p (Some s) refused = by_route (route_at is.asked p) refl refused.planned
      where
        by_route : (o : Option Route) → route_at is.asked p ≡ o → Has (plan_in o) refused.asked → IsWord p.0 × IsWord s.0
        by_route None at has = absurd has
        by_route (Some Untried) at has = absurd has
        by_route (Some Failed) at has = absurd has
        by_route (Some (Planned xs)) at has =
            (routed p (Planned xs) at, subst (λ (t : Sequence). IsWord t.0) refused.sequence (piece_word p xs refused.asked at has))

    pub answer_words : AreWords answer
    answer_words = record {
      ranges =
          each_all (λ (r : Partition × Range). IsWord r.0.0 × IsWord r.1.start.0 × IsWord r.1.end.0) answer.ranges
          (λ r has. range_words 0 0 answer.ranges r answer_produced has);
      missing =
          each_all (λ (m : Partition × Option Sequence). IsWord m.0.0 × IfSome m.1 (λ q. IsWord q.0)) answer.missing
          (λ m has. missing_words m.0 m.1 (is.missing m.0 m.1 has));
    }
