-- What the events of queries need, and find in a safe world.
use Rattle.std.proofs.Common.{◌≡◌, ◌<◌, ◌&&◌, ℕ, Bool, true, false, not, map, option_map, ◌==◌, if◌then◌else◌, length, slice_get, Option, Some, None, Ok, List, [], ◌∷◌, refl, sym, ap, subst, ◌∙◌, arith}
use Rattle.std.proofs.lemmas.Bool.{eqb-true, ltb-true}
use Rattle.std.proofs.lemmas.Option.{slice_get_within}
use Rattle.rt_base.specs.declared.numbers.Instance.{Instance}
use Rattle.rt_base.specs.declared.numbers.Partition.{Partition}
use Rattle.rt_base.specs.declared.numbers.Sequence.{Sequence}
use Rattle.rt_broker.specs.Asking.{Asking, asked_at, asked_for, assigned_at, is_answer_due, is_due_of, is_piece_due, is_tried, piece_at, plan_at, plan_in, route_at}
use Rattle.rt_broker.specs.IsAsked.{IsAsked, IsRightGot}
use Rattle.rt_broker.specs.Noting.{FitsPiece, IsNoteDue}
use Rattle.rt_broker.specs.declared.piece_asked.PieceAsked.{PieceAsked}
use Rattle.rt_broker.specs.declared.piece_got.PieceGot.{PieceGot}
use Rattle.rt_broker.specs.declared.piece_got.PieceGot.TheVariants as got
use Rattle.rt_broker.specs.declared.route.Route.{Route}
use Rattle.rt_broker.specs.declared.route.Route.TheVariants.{Untried, Failed, Planned}
use Rattle.rt_broker.proofs.Rising.{AreOf, plan_is_of}
use Rattle.rt_model.specs.Checked.{IsQuery}
use Rattle.rt_model.specs.Metadata.{metadata_of}
use Rattle.rt_model.specs.declared.piece.Piece.{Piece}
use Rattle.rt_model.specs.declared.query.Query.{Query}
use Rattle.rt_model.specs.declared.setup.Setup.{Setup}
use Rattle.rt_past.specs.Past.{Past}
use Rattle.rt_state.proofs.Pieces.{given_right, open_closed, piece_order}
use Rattle.rt_events.specs.declared.refusal.Refusal.TheVariants.{NoSuchNode, NothingToDo}
use Rattle.rt_model.specs.Setup.{IsSetup}
use Rattle.rt_state.proofs.Dues.{Spends, both, priced_spends}
use Rattle.rt_state.proofs.Possible.{only_passed}
use Rattle.rt_state.specs.Finding.{has_partition, has_server, query_at, query_in}
use Rattle.rt_state.specs.IsSafe.{IsQueryAsked, past_of}
use Rattle.rt_state.specs.IsSafeWorld.{IsSafeWorld}
use Rattle.rt_state.specs.Queries.{AsksRightly, GivesPiece, answer_by, answer_due, ask_due, piece_by, piece_due, route_by, route_due}
use Rattle.rt_state.specs.Room.{no_cost, priced, query_cost}
use Rattle.rt_state.specs.declared.cost.Cost.{Cost}
use Rattle.rt_state.specs.declared.state.State.{State}

pub ask_needs : (w : State) (cost : Cost) → IsSafeWorld w → ask_due w ≡ Ok cost → IsSetup w.setup × (length w.queries < 4294967296) × Spends w cost
ask_needs w cost s h = (s.safe.setup, omega (arith, s.few.asked, s.few.events), priced_spends w query_cost cost h)

-- ---- a query that is there

query_found : (o : Option (Option Asking)) (a : Asking) → query_in o ≡ Some a → o ≡ Some (Some a)
query_found None a h = absurd (cc)
query_found (Some None) a h = absurd (cc)
query_found (Some (Some b)) a h = cc

pub record IsThere (w : State) (q : ℕ) (a : Asking) : Type 0 where
  pub stands : slice_get w.queries q ≡ Some (Some a)
  pub within : q < length w.queries
  pub asked : IsQueryAsked w.setup (past_of w) a

query_there : (w : State) (q : ℕ) (a : Asking) → IsSafeWorld w → query_at w q ≡ Some a → IsThere w q a
query_there w q a s h =
    let stands = query_found (slice_get w.queries q) a h in
    record {
      stands = stands;
      within = slice_get_within w.queries q (Some a) stands;
      asked = s.safe.queries q (Some a) stands;
    }

-- whatever stands at the place is that query
pub is_that : (w : State) (q : ℕ) (a : Asking) (o : Option Asking) → slice_get w.queries q ≡ Some (Some a) → slice_get w.queries q ≡ Some o → o ≡ Some a
is_that w q a o stands found = same o a (sym found ∙ stands)
  where
    same : (o : Option Asking) (a : Asking) → Some o ≡ Some (Some a) → o ≡ Some a
    same o a e = cc

-- ---- route

route_some : (w : State) (p : Partition) (o : Option Asking) (cost : Cost) → route_by w p o ≡ Ok cost
    → (a : Asking) × (o ≡ Some a) × (not (is_tried a p) ≡ true) × (priced w no_cost ≡ Ok cost)
route_some w p None cost h = absurd (cc)
route_some w p (Some a) cost h =
    let t = only_passed (not (is_tried a p)) NothingToDo (priced w no_cost) cost h in (a, refl, t.0, t.1)

is_false : (b : Bool) → not b ≡ true → b ≡ false
is_false true h = absurd (cc)
is_false false h = refl

pub route_needs : (w : State) (q : ℕ) (p : Partition) (cost : Cost) → IsSafeWorld w → route_due w q p ≡ Ok cost
    → (q < length w.queries)
    × ((o : Option Asking) → slice_get w.queries q ≡ Some o → (a : Asking) × (o ≡ Some a) × (p.0 < length a.routes) × (is_tried a p ≡ false))
    × Spends w cost
route_needs w q p cost s h =
    let there = only_passed (has_partition w p) NoSuchNode (route_by w p (query_at w q)) cost h in
    let due = route_some w p (query_at w q) cost there.1 in
    let k = query_there w q due.0 s due.1 in (
      k.within,
      λ o found. (
        due.0,
        is_that w q due.0 o k.stands found,
        omega (arith, ltb-true p.0 w.setup.partitions there.0, k.asked.over.partitions),
        is_false (is_tried due.0 p) due.2,
      ),
      priced_spends w no_cost cost due.3,
    )

-- ---- answer

answer_some : (w : State) (o : Option Asking) (cost : Cost) → answer_by w o ≡ Ok cost
    → (a : Asking) × (o ≡ Some a) × (is_answer_due a ≡ true) × (priced w no_cost ≡ Ok cost)
answer_some w None cost h = absurd (cc)
answer_some w (Some a) cost h =
    let t = only_passed (is_answer_due a) NothingToDo (priced w no_cost) cost h in (a, refl, t.0, t.1)

pub answer_needs : (w : State) (q : ℕ) (cost : Cost) → IsSafeWorld w → answer_due w q ≡ Ok cost
    → ((a : Asking) × (query_at w q ≡ Some a) × (is_answer_due a ≡ true)) × (q < length w.queries) × Spends w cost
answer_needs w q cost s h =
    let due = answer_some w (query_at w q) cost h in
    let k = query_there w q due.0 s due.1 in
    ((due.0, due.1, due.2), k.within, priced_spends w no_cost cost due.3)

-- ---- a query that is there is counted

pub still_open : (w : State) (q : ℕ) (a : Asking) → IsSafeWorld w → query_at w q ≡ Some a → 0 < w.counts.unanswered
still_open w q a s h =
    let k = query_there w q a s h in
    omega (arith, s.few.unanswered, open_closed w.queries q a k.stands)

-- ---- piece

some_of : (o : Option PieceAsked) (piece : Piece) → option_map (λ x. x.piece) o ≡ Some piece → (x : PieceAsked) × (o ≡ Some x) × (x.piece ≡ piece)
some_of None piece e = absurd (cc)
some_of (Some x) piece e = (x, refl, cc)

-- what is found of a segment is a piece of the partition and the segment
found_of : (p : Partition) (xs : List PieceAsked) (s : Sequence) (y : PieceAsked) → AreOf p (map (λ x. x.piece) xs) → asked_for s xs ≡ Some y
    → (y.piece.partition ≡ p) × (y.piece.sequence.0 ≡ s.0)
found_of p [] s y o e = absurd (cc)
found_of p (x ∷ xs) s y o e = by_test (x.piece.sequence.0 == s.0) refl (λ f. found_of p xs s y o.1 f) e
  where
    by_test : (b : Bool) → (x.piece.sequence.0 == s.0) ≡ b → (asked_for s xs ≡ Some y → (y.piece.partition ≡ p) × (y.piece.sequence.0 ≡ s.0))
        → (if b then Some x else asked_for s xs) ≡ Some y → (y.piece.partition ≡ p) × (y.piece.sequence.0 ≡ s.0)
    by_test true t further f =
        let same : x ≡ y = cc in
        (ap (λ (z : PieceAsked). z.piece.partition) (sym same) ∙ o.0, ap (λ (z : PieceAsked). z.piece.sequence.0) (sym same) ∙ eqb-true x.piece.sequence.0 s.0 t)
    by_test false t further f = further f

-- the pieces of a partition's plan are of the partition
planned_of : (setup : Setup) (past : Past) (a : Asking) (p : Partition) → IsAsked setup past a → AreOf p (map (λ x. x.piece) (plan_at a p))
planned_of setup past a p k = by_route (route_at a p) refl
  where
    by_route : (o : Option Route) → route_at a p ≡ o → AreOf p (map (λ x. x.piece) (plan_in o))
    by_route None at = tt
    by_route (Some Untried) at = tt
    by_route (Some Failed) at = tt
    by_route (Some (Planned xs)) at =
        let plan = k.routes p (Planned xs) at in
        subst (AreOf p) (sym plan.plan) (plan_is_of p (metadata_of plan.seen p))

abbrev sequence_at : ℕ → Sequence
sequence_at n = record { 0 = n }

-- so a piece that was found is that of its own partition and segment
own_piece : (w : State) (a : Asking) (p : Partition) (s : Sequence) (i : Instance) (piece : Piece) → IsAsked w.setup (past_of w) a
    → piece_at a p s ≡ Some piece → is_piece_due a p s i ≡ true → IsNoteDue a piece i
own_piece w a p s i piece k found due =
    let y = some_of (asked_at a p s) piece found in
    let of = found_of p (plan_at a p) s y.0 (planned_of w.setup (past_of w) a p k) y.1 in
    let partition : piece.partition ≡ p = ap (λ (z : Piece). z.partition) (sym y.2) ∙ of.0 in
    let sequence : piece.sequence ≡ s = ap (λ (z : Piece). z.sequence) (sym y.2) ∙ ap sequence_at of.1 in (
      subst (λ x. piece_at a x piece.sequence ≡ Some piece) (sym partition) (subst (λ x. piece_at a p x ≡ Some piece) (sym sequence) found),
      subst (λ x. is_piece_due a x piece.sequence i ≡ true) (sym partition) (subst (λ x. is_piece_due a p x i ≡ true) (sym sequence) due),
    )

piece_some : (w : State) (p : Partition) (s : Sequence) (i : Instance) (o : Option Asking) (cost : Cost) → piece_by w p s i o ≡ Ok cost
    → (a : Asking) × (o ≡ Some a) × (is_piece_due a p s i ≡ true) × (priced w no_cost ≡ Ok cost)
piece_some w p s i None cost h = absurd (cc)
piece_some w p s i (Some a) cost h =
    let t = only_passed (is_piece_due a p s i) NothingToDo (priced w no_cost) cost h in (a, refl, t.0, t.1)

due_piece : (a : Asking) (p : Partition) (s : Sequence) (i : Instance) → is_piece_due a p s i ≡ true → (piece : Piece) × (piece_at a p s ≡ Some piece)
due_piece a p s i h = by_asked (asked_at a p s) refl h
  where
    by_asked : (o : Option PieceAsked) → asked_at a p s ≡ o → is_due_of (assigned_at a p) o i ≡ true → (piece : Piece) × (piece_at a p s ≡ Some piece)
    by_asked None at due = absurd (cc)
    by_asked (Some x) at due = (x.piece, ap (λ o. option_map (λ z. z.piece) o) at)

fits_by : (setup : Setup) (past : Past) (query : Query) (piece : Piece) (what : PieceGot) → IsRightGot setup past query piece what → FitsPiece piece what
fits_by setup past query piece (got.Served served) k = k.range
fits_by setup past query piece got.NotServed k = tt
fits_by setup past query piece got.Down k = tt

the_asking : (a b : Asking) → Some a ≡ Some b → a ≡ b
the_asking a b e = cc

the_piece : (a b : Piece) → Some a ≡ Some b → a ≡ b
the_piece a b e = cc

-- what is needed of a piece that a server is asked for
pub record NeedsPiece (w : State) (q : ℕ) (p : Partition) (s : Sequence) (i : Instance) : Type 0 where
  pub server : i.0 < length w.servers
  pub within : q < length w.queries
  pub asks : AsksRightly w q p s i
  pub stands : (o : Option Asking) → slice_get w.queries q ≡ Some o → (a : Asking) × (o ≡ Some a)
  pub fits : (piece : Piece) (what : PieceGot) → GivesPiece w q p s i piece what → FitsPiece piece what
  pub due : (a : Asking) (piece : Piece) (what : PieceGot) → slice_get w.queries q ≡ Some (Some a) → GivesPiece w q p s i piece what → IsNoteDue a piece i

pub piece_needs : (w : State) (q : ℕ) (p : Partition) (s : Sequence) (i : Instance) (cost : Cost) → IsSafeWorld w → piece_due w q p s i ≡ Ok cost
    → NeedsPiece w q p s i × Spends w cost
piece_needs w q p s i cost safe h =
    let there = only_passed (has_server w i && has_partition w p) NoSuchNode (piece_by w p s i (query_at w q)) cost h in
    let has = both (has_server w i) (has_partition w p) there.0 in
    let due = piece_some w p s i (query_at w q) cost there.1 in
    let a = due.0 in
    let k = query_there w q a safe due.1 in
    let found = due_piece a p s i due.2 in (
      record {
        server = ltb-true i.0 (length w.servers) has.0;
        within = k.within;
        asks =
            record {
              asked = a;
              piece = found.0;
              there = due.1;
              planned = found.1;
              ordered = piece_order w.setup (past_of w) a p s found.0 safe.safe.past k.asked.over found.1;
              read = λ n stands. subst (λ (x : Setup). IsQuery x.schema a.query) (sym (safe.safe.servers i.0 n stands).over.of_setup) k.asked.query;
            };
        stands = λ o at. (a, is_that w q a o k.stands at);
        fits = λ piece what g.
            let right = query_there w q g.asked safe g.there in
            let order = piece_order w.setup (past_of w) g.asked p s piece safe.safe.past right.asked.over g.planned in
            fits_by w.setup (past_of w) g.asked.query piece what
            (given_right w.setup (past_of w) g.node piece g.asked.query what (safe.safe.servers i.0 g.node g.stands).over order g.gives);
        due = λ b piece what at g.
            let same : a ≡ b = the_asking a b (sym (is_that w q a (Some b) k.stands at)) in
            let by : g.asked ≡ a = the_asking g.asked a (sym g.there ∙ due.1) in
            let planned = subst (λ x. piece_at x p s ≡ Some piece) by g.planned in
            subst (λ x. IsNoteDue x piece i) same (own_piece w a p s i piece k.asked.over planned due.2);
      },
      priced_spends w no_cost cost due.3,
    )
