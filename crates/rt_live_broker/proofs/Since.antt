-- What an asking keeps beside what its broker's own crate says of it: since when its plans are, that no routing failed, and its query.
use Rattle.std.proofs.Common.{◌≡◌, ℕ, ◌⊎◌, inl, inr, List, map, Option, Some, None, Result, Ok, Err, refl, sym, ap, subst, ◌∙◌, slice_get}
use Rattle.std.specs.Prelude.{option_map}
use Rattle.rt_base.specs.declared.numbers.Instance.{Instance}
use Rattle.rt_base.specs.declared.numbers.Partition.{Partition}
use Rattle.rt_base.specs.declared.numbers.Sequence.{Sequence}
use Rattle.rt_base.proofs.Planned.{without_fault}
use Rattle.rt_broker.specs.Asking.{Asking, asking, asked_for, unasked, with_answer, with_route, plan_at, plan_in, route_at}
use Rattle.rt_broker.specs.Noting.{Notes}
use Rattle.rt_broker.specs.Routing.{Routes}
use Rattle.rt_broker.specs.declared.piece_asked.PieceAnswer.{PieceAnswer}
use Rattle.rt_broker.specs.declared.piece_asked.PieceAsked.{PieceAsked}
use Rattle.rt_broker.specs.declared.piece_got.PieceGot.{PieceGot}
use Rattle.rt_broker.specs.declared.refused.BrokerRefused.{BrokerRefused}
use Rattle.rt_broker.specs.declared.refused.BrokerRefused.TheVariants.{NotDue, StoreFault, Memory}
use Rattle.rt_broker.specs.declared.route.Route.{Route}
use Rattle.rt_broker.specs.declared.route.Route.TheVariants.{Untried, Failed, Planned}
use Rattle.rt_broker.proofs.Lasting.{got_of_replicate, got_of_set}
use Rattle.rt_broker.proofs.Plans.{pieces_of_unasked, pieces_stay}
use Rattle.rt_lists.specs.Members.{IsFront}
use Rattle.rt_lists.proofs.Members.{front_then}
use Rattle.rt_live_broker.specs.Replayed.{NoneFailed}
use Rattle.rt_live_names.specs.BrokerPart.{ArePlansSince, IsPlanSince}
use Rattle.rt_model.specs.Metadata.{metadata_of}
use Rattle.rt_model.specs.Plan.{plan_of}
use Rattle.rt_model.specs.declared.node.Listed.{Listed}
use Rattle.rt_model.specs.declared.node.Seen.{Seen}
use Rattle.rt_model.specs.declared.piece.Piece.{Piece}
use Rattle.rt_model.specs.declared.query.Query.{Query}
use Rattle.rt_model.specs.declared.setup.Setup.{Setup}
use Rattle.rt_store.specs.Answers.{listing}
use Rattle.rt_store.specs.Calls.{Lists}
use Rattle.rt_store.specs.Meaning.{Meaning}
use Rattle.rt_store.specs.declared.refused.StoreRefused.TheVariants as store
use Rattle.rt_store.proofs.Seeing.{same_ok}

-- ---- an asking begins

pub since_begins : (began h : List Seen) (text : Query) (setup : Setup) → ArePlansSince began h (asking text setup)
since_begins began h text setup = λ p xs at. let same : Untried ≡ Planned xs = got_of_replicate setup.partitions p.0 Untried (Planned xs) at in absurd (cc)

pub none_begins : (text : Query) (setup : Setup) → NoneFailed (asking text setup)
none_begins text setup = λ p at. let same : Untried ≡ Failed = got_of_replicate setup.partitions p.0 Untried Failed at in absurd (cc)

-- ---- more is seen

pub since_grows : (began h k : List Seen) (a : Asking) → IsFront h k → ArePlansSince began h a → ArePlansSince began k a
since_grows began h k a more s =
    λ p xs at.
    let was : IsPlanSince began h p xs = s p xs at in
    record { seen = was.seen; since = was.since; front = front_then was.seen h k was.front more; plan = was.plan }

-- ---- one partition is set

abbrev numbered : ℕ → Partition
numbered n = record { 0 = n }

abbrev plan : List PieceAsked → Route
plan xs = Planned xs

since_with : (began h : List Seen) (a : Asking) (p : Partition) (xs : List PieceAsked) → IsPlanSince began h p xs → ArePlansSince began h a
    → ArePlansSince began h (with_route a p (Planned xs))
since_with began h a p xs new s = λ q ys at. by_place q ys (got_of_set a.routes p.0 q.0 (Planned xs) (Planned ys) at)
  where
    by_place : (q : Partition) (ys : List PieceAsked) → ((q.0 ≡ p.0) × (plan ys ≡ plan xs)) ⊎ (slice_get a.routes q.0 ≡ Some (Planned ys))
        → IsPlanSince began h q ys
    by_place q ys (inl same) =
        let here : p ≡ q = ap (λ (n : ℕ). numbered n) (sym same.0) in
        let plans : plan ys ≡ plan xs = same.1 in
        let these : xs ≡ ys = cc in
        subst (λ (zs : List PieceAsked). IsPlanSince began h q zs) these (subst (λ (t : Partition). IsPlanSince began h t xs) here new)
    by_place q ys (inr there) = s q ys there

none_with : (a : Asking) (p : Partition) (xs : List PieceAsked) → NoneFailed a → NoneFailed (with_route a p (Planned xs))
none_with a p xs none = λ q at. by_place q (got_of_set a.routes p.0 q.0 (Planned xs) Failed at)
  where
    by_place : (q : Partition) → ((q.0 ≡ p.0) × (Failed ≡ plan xs)) ⊎ (slice_get a.routes q.0 ≡ Some Failed) → ⊥
    by_place q (inl same) = let plans : Failed ≡ plan xs = same.1 in absurd (cc)
    by_place q (inr there) = none q there

-- ---- a route

planned_since : (began h : List Seen) (old new : Meaning) (p : Partition) (nodes : List Listed) → IsFront began old.seen → IsFront new.seen h
    → Lists old new p (Ok nodes) → IsPlanSince began h p (map unasked (plan_of p nodes))
planned_since began h old new p nodes since front c =
    let told = without_fault store.Failed c.fault (listing p c.base) (Ok nodes) c.base c.base new.seen (λ e. cc) c.goes.answered c.goes.seen in
    let same : nodes ≡ metadata_of c.base p = same_ok nodes (metadata_of c.base p) told.0 in
    record {
      seen = c.base;
      since = front_then began old.seen c.base since c.sees.grows;
      front = subst (λ (k : List Seen). IsFront k h) told.1 front;
      plan = sym (pieces_of_unasked (plan_of p nodes)) ∙ ap (plan_of p) same;
    }

pub since_routed : (began h : List Seen) (old new : Meaning) (a b : Asking) (p : Partition) (result : Result ℕ BrokerRefused) → Routes old new a p b result
    → (result ≡ Err StoreFault → ⊥) → IsFront began old.seen → IsFront new.seen h → ArePlansSince began h a → ArePlansSince began h b
since_routed began h old new a b p (Ok count) r met since front s =
    subst (λ c. ArePlansSince began h c) (sym r.1.noted)
    (since_with began h a p (map unasked (plan_of p r.1.nodes)) (planned_since began h old new p r.1.nodes since front r.1.listed) s)
since_routed began h old new a b p (Err NotDue) r met since front s = subst (λ c. ArePlansSince began h c) (sym r.1) s
since_routed began h old new a b p (Err StoreFault) r met since front s = absurd (met refl)
since_routed began h old new a b p (Err Memory) r met since front s = subst (λ c. ArePlansSince began h c) (sym r.1) s

pub none_routed : (old new : Meaning) (a b : Asking) (p : Partition) (result : Result ℕ BrokerRefused) → Routes old new a p b result
    → (result ≡ Err StoreFault → ⊥) → NoneFailed a → NoneFailed b
none_routed old new a b p (Ok count) r met none = subst NoneFailed (sym r.1.noted) (none_with a p (map unasked (plan_of p r.1.nodes)) none)
none_routed old new a b p (Err NotDue) r met none = subst NoneFailed (sym r.1) none
none_routed old new a b p (Err StoreFault) r met none = absurd (met refl)
none_routed old new a b p (Err Memory) r met none = subst NoneFailed (sym r.1) none

pub query_routed : (old new : Meaning) (a b : Asking) (p : Partition) (result : Result ℕ BrokerRefused) → Routes old new a p b result → b.query ≡ a.query
query_routed old new a b p (Ok count) r = ap (λ (c : Asking). c.query) r.1.noted
query_routed old new a b p (Err NotDue) r = ap (λ (c : Asking). c.query) r.1
query_routed old new a b p (Err StoreFault) r = ap (λ (c : Asking). c.query) r.2
query_routed old new a b p (Err Memory) r = ap (λ (c : Asking). c.query) r.1

-- ---- a note

abbrev answer_of : Instance → PieceGot → PieceAnswer
answer_of from what = record { from = from; got = what }

plan_noted : (began h : List Seen) (p : Partition) (s : Sequence) (y : PieceAnswer) (piece : Piece) (o : Option Route)
    → ((xs : List PieceAsked) → o ≡ Some (Planned xs) → IsPlanSince began h p xs) → option_map (λ x. x.piece) (asked_for s (plan_in o)) ≡ Some piece
    → IsPlanSince began h p (with_answer s y (plan_in o))
plan_noted began h p s y piece None k e = absurd (cc)
plan_noted began h p s y piece (Some Untried) k e = absurd (cc)
plan_noted began h p s y piece (Some Failed) k e = absurd (cc)
plan_noted began h p s y piece (Some (Planned xs)) k e =
    let was : IsPlanSince began h p xs = k xs refl in
    record { seen = was.seen; since = was.since; front = was.front; plan = pieces_stay s y xs ∙ was.plan }

pub since_noted : (began h : List Seen) (a b : Asking) (piece : Piece) (from : Instance) (what : PieceGot) (result : Result (Unit {0}) BrokerRefused)
    → Notes a piece from what b result → ArePlansSince began h a → ArePlansSince began h b
since_noted began h a b piece from what (Ok done) r s =
    let y = answer_of from what in
    subst (λ c. ArePlansSince began h c) (sym r.1)
    (since_with began h a piece.partition (with_answer piece.sequence y (plan_at a piece.partition))
    (plan_noted began h piece.partition piece.sequence y piece (route_at a piece.partition) (λ xs at. s piece.partition xs at) r.0.0) s)
since_noted began h a b piece from what (Err NotDue) r s = subst (λ c. ArePlansSince began h c) (sym r.1) s
since_noted began h a b piece from what (Err StoreFault) r s = absurd r
since_noted began h a b piece from what (Err Memory) r s = subst (λ c. ArePlansSince began h c) (sym r.1) s

pub none_noted : (a b : Asking) (piece : Piece) (from : Instance) (what : PieceGot) (result : Result (Unit {0}) BrokerRefused)
    → Notes a piece from what b result → NoneFailed a → NoneFailed b
none_noted a b piece from what (Ok done) r none =
    subst NoneFailed (sym r.1) (none_with a piece.partition (with_answer piece.sequence (answer_of from what) (plan_at a piece.partition)) none)
none_noted a b piece from what (Err NotDue) r none = subst NoneFailed (sym r.1) none
none_noted a b piece from what (Err StoreFault) r none = absurd r
none_noted a b piece from what (Err Memory) r none = subst NoneFailed (sym r.1) none

pub query_noted : (a b : Asking) (piece : Piece) (from : Instance) (what : PieceGot) (result : Result (Unit {0}) BrokerRefused)
    → Notes a piece from what b result → b.query ≡ a.query
query_noted a b piece from what (Ok done) r = ap (λ (c : Asking). c.query) r.1
query_noted a b piece from what (Err NotDue) r = ap (λ (c : Asking). c.query) r.1
query_noted a b piece from what (Err StoreFault) r = absurd r
query_noted a b piece from what (Err Memory) r = ap (λ (c : Asking). c.query) r.1
