-- Why an answer misses something.
use Rattle.std.proofs.Common.{◌≡◌, ℕ, suc, ◌+◌, ◌==◌, ◌||◌, Bool, true, false, ◌⊎◌, inl, inr, List, [], ◌∷◌, map, Option, Some, None, refl, sym, ap, subst, arith, slice_get}
use Rattle.std.specs.Prelude.{option_map, is_some, Result, Ok, Err, IfOk}
use Rattle.std.specs.List.{list_all}
use Rattle.std.proofs.lemmas.Bool.{and_parts, or_cases, eqb-true, both_ways}
use Rattle.rt_base.specs.declared.numbers.Instance.{Instance}
use Rattle.rt_base.specs.declared.numbers.Partition.{Partition}
use Rattle.rt_base.specs.declared.numbers.Sequence.{Sequence}
use Rattle.rt_agg.specs.declared.served.Served.{Served}
use Rattle.rt_lists.specs.Members.{Has}
use Rattle.rt_lists.proofs.Members.{Has-append_cases}
use Rattle.rt_model.specs.declared.answer.Answer.{Answer}
use Rattle.rt_model.specs.RightAnswer.{missing_of, missing_in, missing_if, unserved}
use Rattle.rt_broker.specs.declared.piece_asked.PieceAnswer.{PieceAnswer}
use Rattle.rt_broker.specs.declared.piece_asked.PieceAsked.{PieceAsked}
use Rattle.rt_broker.specs.declared.piece_got.PieceGot.{PieceGot}
use Rattle.rt_broker.specs.declared.piece_got.PieceGot.TheVariants as got
use Rattle.rt_broker.specs.declared.refused.BrokerRefused.{BrokerRefused}
use Rattle.rt_broker.specs.declared.route.Route.{Route}
use Rattle.rt_broker.specs.declared.route.Route.TheVariants.{Untried, Failed, Planned}
use Rattle.rt_broker.specs.Answering.{AnswersDue, asked_piece, pieces_in, routed_from, routed_of, IsRefusal, RefusedBy, IsMissing}
use Rattle.rt_broker.specs.Asking.{Asking, served_by, served_in, first_served, was_asked, is_settled, is_route_settled, are_settled, is_answer_due, assigned_at, plan_in, route_at}

-- ---- a piece that every assigned server was asked for

all_have : {X : Type 0} (f : X → Bool) (xs : List X) (x : X) → list_all f xs ≡ true → Has xs x → f x ≡ true
all_have f [] x e h = absurd h
all_have f (y ∷ ys) x e (inl same) = subst (λ z. f z ≡ true) same (and_parts (f y) (list_all f ys) e).0
all_have f (y ∷ ys) x e (inr h) = all_have f ys x (and_parts (f y) (list_all f ys) e).1 h

nothing_first : (o later : Option Served) → first_served o later ≡ None → (o ≡ None) × (later ≡ None)
nothing_first None later e = (refl, e)
nothing_first (Some served) later e = absurd (cc)

refusal : (what : PieceGot) → served_by what ≡ None → IsRefusal what
refusal (got.Served served) e = absurd (cc)
refusal got.NotServed e = tt
refusal got.Down e = tt

abbrev instance : ℕ → Instance
instance n = record { 0 = n }

refused_by : (ys : List PieceAnswer) (i : Instance) → served_in ys ≡ None → was_asked ys i ≡ true → RefusedBy ys i
refused_by [] i none asked = absurd (both_ways false refl asked)
refused_by (y ∷ ys) i none asked =
    by_cases (or_cases (y.from.0 == i.0) (was_asked ys i) asked)
    (refused_by ys i (nothing_first (served_by y.got) (served_in ys) none).1)
  where
    parts : (served_by y.got ≡ None) × (served_in ys ≡ None)
    parts = nothing_first (served_by y.got) (served_in ys) none

    behind : RefusedBy ys i → RefusedBy (y ∷ ys) i
    behind r = (r.0, inr r.1, r.2, r.3)

    by_cases : ((y.from.0 == i.0) ≡ true) ⊎ (was_asked ys i ≡ true) → (was_asked ys i ≡ true → RefusedBy ys i) → RefusedBy (y ∷ ys) i
    by_cases (inl same) later = (y, inl refl, ap (λ (n : ℕ). instance n) (eqb-true y.from.0 i.0 same), refusal y.got parts.0)
    by_cases (inr further) later = behind (later further)

-- ---- what is missing of a partition

-- why something is missing, by what came of its partition
abbrev MissingIn : List Instance → Route → Option Sequence → Type 0
MissingIn assigned Untried s = ⊥
MissingIn assigned Failed s = s ≡ None
MissingIn assigned (Planned xs) None = ⊥
MissingIn assigned (Planned xs) (Some s) =
    (x : PieceAsked) × Has xs x × (x.piece.sequence ≡ s) × ((i : Instance) → Has assigned i → RefusedBy x.answers i)

missing_later : (assigned : List Instance) (x : PieceAsked) (xs : List PieceAsked) (s : Option Sequence)
    → MissingIn assigned (Planned xs) s → MissingIn assigned (Planned (x ∷ xs)) s
missing_later assigned x xs None m = absurd m
missing_later assigned x xs (Some s) m = (m.0, inr m.1, m.2, m.3)

pair_parts : (p q : Partition) (s t : Option Sequence) → ◌≡◌ {A = Partition × Option Sequence} (p, s) (q, t) → (q ≡ p) × (s ≡ t)
pair_parts p q s t e = (sym (ap (λ (x : Partition × Option Sequence). x.0) e), ap (λ (x : Partition × Option Sequence). x.1) e)

all_asked : (o : Option Served) (b : Bool) → o ≡ None → (is_some o || b) ≡ true → b ≡ true
all_asked None b e h = h
all_asked (Some served) b e h = absurd (cc)

missing_pieces : (assigned : List Instance) (p : Partition) (xs : List PieceAsked) (q : Partition) (s : Option Sequence)
    → list_all (is_settled assigned) xs ≡ true → Has (unserved p (map asked_piece xs)) (q, s)
    → (q ≡ p) × MissingIn assigned (Planned xs) s
missing_pieces assigned p [] q s settled h = absurd h
missing_pieces assigned p (x ∷ xs) q s settled h =
    by_place (Has-append_cases (missing_if p x.piece (option_map (λ served. served.range) (served_in x.answers))) (unserved p (map asked_piece xs)) (q, s) h)
    (missing_pieces assigned p xs q s (and_parts (is_settled assigned x) (list_all (is_settled assigned) xs) settled).1)
  where
    parts : (is_settled assigned x ≡ true) × (list_all (is_settled assigned) xs ≡ true)
    parts = and_parts (is_settled assigned x) (list_all (is_settled assigned) xs) settled

    first : (o : Option Served) → served_in x.answers ≡ o
        → Has (missing_if p x.piece (option_map (λ served. served.range) o)) (q, s)
        → (q ≡ p) × MissingIn assigned (Planned (x ∷ xs)) s
    first None none (inl same) =
        let both = pair_parts p q (Some x.piece.sequence) s same in
        let asked = all_asked (served_in x.answers) (list_all (was_asked x.answers) assigned) none parts.0 in (
          both.0,
          subst (λ t. MissingIn assigned (Planned (x ∷ xs)) t) both.1
              (x, inl refl, refl, λ i there. refused_by x.answers i none (all_have (was_asked x.answers) assigned i asked there)),
        )
    first None none (inr further) = absurd further
    first (Some served) some further = absurd further

    by_place : Has (missing_if p x.piece (option_map (λ served. served.range) (served_in x.answers))) (q, s) ⊎ Has (unserved p (map asked_piece xs)) (q, s)
        → (Has (unserved p (map asked_piece xs)) (q, s) → (q ≡ p) × MissingIn assigned (Planned xs) s)
        → (q ≡ p) × MissingIn assigned (Planned (x ∷ xs)) s
    by_place (inl here) further = first (served_in x.answers) refl here
    by_place (inr there) further =
        let rest = further there in
        (rest.0, missing_later assigned x xs s rest.1)

missing_route : (assigned : List Instance) (p : Partition) (route : Route) (q : Partition) (s : Option Sequence)
    → is_route_settled assigned route ≡ true → Has (missing_in p (pieces_in route)) (q, s)
    → (q ≡ p) × MissingIn assigned route s
missing_route assigned p Untried q s settled h = absurd (both_ways false refl settled)
missing_route assigned p Failed q s settled (inl same) =
    let both = pair_parts p q None s same in (both.0, sym both.1)
missing_route assigned p Failed q s settled (inr h) = absurd h
missing_route assigned p (Planned xs) q s settled h = missing_pieces assigned p xs q s settled h

-- ---- what is missing of all partitions

abbrev numbered : ℕ → Partition
numbered n = record { 0 = n }

record Found (a : Asking) (n : ℕ) (routes : List Route) (q : Partition) (s : Option Sequence) : Type 0 where
  place : ℕ
  route : Route
  at : slice_get routes place ≡ Some route
  number : q.0 ≡ n + place
  missing : MissingIn (assigned_at a q) route s

found : (a : Asking) (n : ℕ) (routes : List Route) (q : Partition) (s : Option Sequence)
    → are_settled a n routes ≡ true → Has (missing_of (routed_from n routes)) (q, s) → Found a n routes q s
found a n [] q s settled h = absurd h
found a n (route ∷ routes) q s settled h =
    by_place (Has-append_cases (missing_in (numbered n) (pieces_in route)) (missing_of (routed_from (n + 1) routes)) (q, s) h)
    (found a (n + 1) routes q s (and_parts (is_route_settled (assigned_at a (numbered n)) route) (are_settled a (n + 1) routes) settled).1)
  where
    parts : (is_route_settled (assigned_at a (numbered n)) route ≡ true) × (are_settled a (n + 1) routes ≡ true)
    parts = and_parts (is_route_settled (assigned_at a (numbered n)) route) (are_settled a (n + 1) routes) settled

    by_place : Has (missing_in (numbered n) (pieces_in route)) (q, s) ⊎ Has (missing_of (routed_from (n + 1) routes)) (q, s)
        → (Has (missing_of (routed_from (n + 1) routes)) (q, s) → Found a (n + 1) routes q s) → Found a n (route ∷ routes) q s
    by_place (inl here) further =
        let m = missing_route (assigned_at a (numbered n)) (numbered n) route q s parts.0 here in
        let number : q.0 ≡ n = ap (λ (r : Partition). r.0) m.0 in
        record {
          place = 0;
          route = route;
          at = refl;
          number = omega (arith, number);
          missing = subst (λ r. MissingIn (assigned_at a r) route s) (sym m.0) m.1;
        }
    by_place (inr there) further =
        let f = further there in
        record { place = suc f.place; route = f.route; at = f.at; number = omega (arith, f.number); missing = f.missing }

missing_at : (a : Asking) (p : Partition) (route : Route) (s : Option Sequence) → route_at a p ≡ Some route
    → MissingIn (assigned_at a p) route s → IsMissing a p s
missing_at a p Untried s at m = absurd m
missing_at a p Failed s at m = subst (λ t. IsMissing a p t) (sym m) at
missing_at a p (Planned xs) None at m = absurd m
missing_at a p (Planned xs) (Some s) at m =
    record {
      asked = m.0;
      planned = subst (λ ys. Has ys m.0) (sym (ap plan_in at)) m.1;
      sequence = m.2;
      refused = m.3;
    }

-- what an answer that is due misses has its cause
missing_caused : (a : Asking) (p : Partition) (s : Option Sequence) → is_answer_due a ≡ true
    → Has (missing_of (routed_of a)) (p, s) → IsMissing a p s
missing_caused a p s due h =
    let f = found a 0 a.routes p s due h in
    let place : f.place ≡ p.0 = omega (arith, f.number) in
    missing_at a p f.route s (subst (λ i. slice_get a.routes i ≡ Some f.route) place f.at) f.missing

pub answer_caused : (a : Asking) (result : Result Answer BrokerRefused) → AnswersDue a result → IfOk result (λ answer. answer.missing ≡ missing_of (routed_of a))
    → IfOk result (λ answer. (p : Partition) (s : Option Sequence) → Has answer.missing (p, s) → IsMissing a p s)
answer_caused a (Ok answer) due missing =
    λ p s has. missing_caused a p s due (subst (λ (ms : List (Partition × Option Sequence)). Has ms (p, s)) missing has)
answer_caused a (Err e) due missing = tt
