-- A query whose partitions are routed by the present plans, and for which servers give what they have.
use Rattle.std.proofs.Common.{◌≡◌, ℕ, zero, suc, ◌+◌, ◌<◌, ◌≤◌, ◌⊎◌, inl, inr, Bool, true, false, cond, List, [], ◌∷◌, ◌++◌, Option, Some, None, Result, Ok, Err, refl, sym, ◌∙◌, ap, subst, arith, map, length, slice_get, length-set}
use Rattle.std.specs.Prelude.{◌==◌, option_map, replicate, slice_set}
use Rattle.std.proofs.lemmas.Bool.{cases_eq, cases_lt, cond-false, cond-true}
use Rattle.std.proofs.lemmas.List.{length-replicate}
use Rattle.std.proofs.lemmas.Option.{none-some, same_Some}
use Rattle.rt_base.specs.Faults.{answer_under, fault_of}
use Rattle.rt_base.specs.declared.numbers.Instance.{Instance}
use Rattle.rt_base.specs.declared.numbers.Partition.{Partition}
use Rattle.rt_base.specs.declared.numbers.Sequence.{Sequence}
use Rattle.rt_broker.specs.Asking.{Asking, answered, asked_for, asking, piece_at, plan_in, route_at, unasked, with_answer, with_route}
use Rattle.rt_broker.specs.Routing.{Routes}
use Rattle.rt_broker.specs.declared.piece_asked.PieceAnswer.{PieceAnswer}
use Rattle.rt_broker.specs.declared.piece_asked.PieceAsked.{PieceAsked}
use Rattle.rt_broker.specs.declared.refused.BrokerRefused.{BrokerRefused}
use Rattle.rt_broker.specs.declared.refused.BrokerRefused.TheVariants as broker
use Rattle.rt_broker.specs.declared.route.Route.{Route}
use Rattle.rt_broker.specs.declared.route.Route.TheVariants.{Untried, Failed, Planned}
use Rattle.rt_broker.proofs.Lasting.{got_of_set}
use Rattle.rt_events.specs.declared.event.Event.TheVariants as event
use Rattle.rt_events.specs.declared.outcome.Outcome.{Outcome}
use Rattle.rt_events.specs.declared.outcome.Outcome.TheVariants as told
use Rattle.rt_lists.specs.Members.{Has}
use Rattle.rt_lists.proofs.Members.{Has-push_cases, slice_get-push}
use Rattle.rt_model.specs.Metadata.{metadata_of}
use Rattle.rt_model.specs.Plan.{plan_of}
use Rattle.rt_model.specs.Checked.{IsQuery}
use Rattle.rt_model.specs.declared.node.Listed.{Listed}
use Rattle.rt_model.specs.declared.node.Seen.{Seen}
use Rattle.rt_model.specs.declared.piece.Piece.{Piece}
use Rattle.rt_model.specs.declared.query.Query.{Query}
use Rattle.rt_model.proofs.Histories.{same_partition}
use Rattle.rt_nodes.specs.Queries.{Gives, routed_by}
use Rattle.rt_nodes.specs.declared.server_node.ServerNode.{ServerNode}
use Rattle.rt_state.specs.Finding.{query_at, query_in}
use Rattle.rt_state.specs.IsSafeWorld.{IsSafeWorld}
use Rattle.rt_state.specs.Queries.{PiecesAt, PiecesOf, RoutesAt, with_query}
use Rattle.rt_state.specs.Room.{counted}
use Rattle.rt_state.specs.declared.state.State.{State}
use Rattle.rt_store.specs.Answers.{listing}
use Rattle.rt_store.specs.Calls.{IsExact, answer_on}
use Rattle.rt_store.specs.Meaning.{Told}
use Rattle.rt_store.specs.Memory.{means}
use Rattle.rt_store.specs.declared.refused.StoreRefused.{StoreRefused}
use Rattle.rt_store.specs.declared.refused.StoreRefused.TheVariants as store
use Rattle.rt_store.proofs.Seeing.{told_exact}
use Rattle.rt_store.proofs.Told.{read_same}
use Rattle.rt_world.proofs.SafeSteps.{steps_keep}
use Rattle.rt_world.specs.Step.{Steps}
use Rattle.rt_heal.specs.Answered.{IsAskedNow, IsGivenNow, IsRoutedNow}
use Rattle.rt_safety.proofs.JobsOn.{own_slot}
use Rattle.rt_heal.proofs.Seeing.{plan_met}

-- ---- a world that differs in its queries alone

pub record IsSame (w u : State) : Type 0 where
  pub safe : IsSafeWorld u
  pub log : u.log ≡ w.log
  pub servers : u.servers ≡ w.servers
  pub setup : u.setup ≡ w.setup
  pub writes : u.store.writes ≡ w.store.writes
  pub unplanned : u.store.faults.plan ≡ []

-- the query of this number was asked so far
pub record IsUnder (w u : State) (query : Query) (q below : ℕ) : Type 0 where
  pub same : IsSame w u
  pub asked : Asking
  pub of_query : asked.query ≡ query
  pub there : slice_get u.queries q ≡ Some (Some asked)
  pub now : IsAskedNow w asked below

-- ---- places of a list

other_slot : {X : Type 0} (xs : List X) (i j : ℕ) (new : X) → (j ≡ i → ⊥) → slice_get (slice_set xs i new) j ≡ slice_get xs j
other_slot [] i j new apart = refl
other_slot (z ∷ xs) zero zero new apart = absurd (apart refl)
other_slot (z ∷ xs) zero (suc j) new apart = refl
other_slot (z ∷ xs) (suc i) zero new apart = refl
other_slot (z ∷ xs) (suc i) (suc j) new apart = other_slot xs i j new (λ e. apart (ap suc e))

-- ---- a partition is routed

abbrev planned_as : List PieceAsked → Option Route
planned_as xs = Some (Planned xs)

same_plan : (xs ys : List PieceAsked) → planned_as xs ≡ planned_as ys → xs ≡ ys
same_plan xs ys e = cc

plan_not : (route : Route) (xs : List PieceAsked) → route ≡ Untried → Some route ≡ planned_as xs → ⊥
plan_not route xs is e = untried_not xs (sym is ∙ same_Some route (Planned xs) e)
  where
    untried_not : (xs : List PieceAsked) → Untried ≡ Planned xs → ⊥
    untried_not xs e = cc

unasked_pieces : (ps : List Piece) → map (λ (x : PieceAsked). x.piece) (map unasked ps) ≡ ps
unasked_pieces [] = refl
unasked_pieces (p ∷ ps) = ap (λ (qs : List Piece). p ∷ qs) (unasked_pieces ps)

unasked_answers : (ps : List Piece) (x : PieceAsked) → Has (map unasked ps) x → x.answers ≡ []
unasked_answers [] x has = absurd has
unasked_answers (p ∷ ps) x (inl same) = ap (λ (z : PieceAsked). z.answers) (sym same)
unasked_answers (p ∷ ps) x (inr has) = unasked_answers ps x has

no_answer : (x : PieceAsked) (y : PieceAnswer) → x.answers ≡ [] → Has x.answers y → ⊥
no_answer x y none has = subst (λ (ys : List PieceAnswer). Has ys y) none has

module _ (w : State) (a : Asking) (p : Partition) (xs : List PieceAsked) where
  -- a route is put in its place
  route_put : (route : Route) → route_at a p ≡ Some route → route_at (with_route a p (Planned xs)) p ≡ Some (Planned xs)
  route_put route there = own_slot a.routes p.0 route (Planned xs) there

  route_other : (o : Partition) → (o.0 ≡ p.0 → ⊥) → route_at (with_route a p (Planned xs)) o ≡ route_at a o
  route_other o apart = other_slot a.routes p.0 o.0 (Planned xs) apart

  -- what was noted of the others stays, and of this partition it is that of the new pieces
  put_given : (route : Route) → route_at a p ≡ Some route → (below : ℕ) → IsAskedNow w a below
      → ((x : PieceAsked) (y : PieceAnswer) → Has xs x → Has x.answers y → IsGivenNow w a x y)
      → (o : Partition) (zs : List PieceAsked) (x : PieceAsked) (y : PieceAnswer) → route_at (with_route a p (Planned xs)) o ≡ Some (Planned zs)
      → Has zs x → Has x.answers y → IsGivenNow w a x y
  put_given route there below now new o zs x y at has answer = by_place (got_of_set a.routes p.0 o.0 (Planned xs) (Planned zs) at)
    where
      by_place : ((o.0 ≡ p.0) × (Planned zs ≡ Planned xs)) ⊎ (slice_get a.routes o.0 ≡ Some (Planned zs)) → IsGivenNow w a x y
      by_place (inl same) =
          new x y (subst (λ (ls : List PieceAsked). Has ls x) (same_plan zs xs (ap (λ (r : Route). Some r) same.1)) has) answer
      by_place (inr old) = now.given o zs x y old has answer

-- the query is the same whatever its routes are
given_as : (w : State) (a b : Asking) (x : PieceAsked) (y : PieceAnswer) → b.query ≡ a.query → IsGivenNow w a x y → IsGivenNow w b x y
given_as w a b x y same k =
    record { node = k.node; there = k.there; gives = subst (λ (q : Query). Gives k.node x.piece q y.got) (sym same) k.gives }

-- it is routed by its present plan
routed_more : (w : State) (a : Asking) (k : ℕ) (route : Route) → route_at a (record { 0 = k }) ≡ Some route → IsAskedNow w a k
    → IsAskedNow w (with_route a (record { 0 = k }) (Planned (map unasked (plan_of (record { 0 = k }) (metadata_of w.store.writes (record { 0 = k })))))) (k + 1)
routed_more w a k route there now =
    let p : Partition = record { 0 = k } in
    let ps = plan_of p (metadata_of w.store.writes p) in
    let b = with_route a p (Planned (map unasked ps)) in
    record {
      servers = now.servers;
      replication = now.replication;
      partitions = length-set a.routes k (Planned (map unasked ps)) ∙ now.partitions;
      routed = λ o below. by_place o below (cases_lt o.0 k);
      given = λ o zs x y at has answer.
          given_as w a b x y refl (put_given w a p (map unasked ps) route there k now
          (λ z v had got. absurd (no_answer z v (unasked_answers ps z had) got)) o zs x y at has answer);
    }
  where
    by_place : (o : Partition) → o.0 < k + 1 → (o.0 < k) ⊎ (k ≤ o.0)
        → IsRoutedNow w (with_route a (record { 0 = k }) (Planned (map unasked (plan_of (record { 0 = k }) (metadata_of w.store.writes (record { 0 = k })))))) o
    by_place o below (inl lt) =
        let old = now.routed o lt in
        let ps = plan_of (record { 0 = k }) (metadata_of w.store.writes (record { 0 = k })) in
        record {
          pieces = old.pieces;
          routed = route_other w a (record { 0 = k }) (map unasked ps) o (λ e. omega (arith, lt, e)) ∙ old.routed;
          plan = old.plan;
        }
    by_place o below (inr le) =
        let is : k ≡ o.0 = omega (arith, below, le) in
        let R : Partition → Type 0 = λ x. IsRoutedNow w (with_route a (record { 0 = k }) (Planned (map unasked (plan_of (record { 0 = k }) (metadata_of w.store.writes (record { 0 = k })))))) x in
        let ps = plan_of (record { 0 = k }) (metadata_of w.store.writes (record { 0 = k })) in
        let here : R (record { 0 = k }) = record {
          pieces = map unasked ps;
          routed = route_put w a (record { 0 = k }) (map unasked ps) route there;
          plan = unasked_pieces ps;
        } in
        subst R (same_partition (record { 0 = k }) o is) here

-- ---- a piece is asked for

-- the first piece of a segment has an answer more
answer_put : (s : Sequence) (y : PieceAnswer) (xs : List PieceAsked) → map (λ (x : PieceAsked). x.piece) (with_answer s y xs) ≡ map (λ (x : PieceAsked). x.piece) xs
answer_put s y [] = refl
answer_put s y (x ∷ xs) = by_test (x.piece.sequence.0 == s.0) (answer_put s y xs)
  where
    by_test : (b : Bool) → map (λ (z : PieceAsked). z.piece) (with_answer s y xs) ≡ map (λ (z : PieceAsked). z.piece) xs
        → map (λ (z : PieceAsked). z.piece) (cond b (answered x y ∷ xs) (x ∷ with_answer s y xs)) ≡ map (λ (z : PieceAsked). z.piece) (x ∷ xs)
    by_test true same = refl
    by_test false same = ap (λ (ps : List Piece). x.piece ∷ ps) same

-- a piece that had the answer before, or the segment's first one, which has it now
abbrev WasNoted : Sequence → PieceAnswer → List PieceAsked → PieceAsked → PieceAnswer → Type 0
WasNoted s y xs z v =
    ((x : PieceAsked) × Has xs x × (x.piece ≡ z.piece) × Has x.answers v)
    ⊎ ((x : PieceAsked) × (asked_for s xs ≡ Some x) × (x.piece ≡ z.piece) × (y ≡ v))

abbrev some_piece : PieceAsked → Option PieceAsked
some_piece x = Some x

was_noted : (s : Sequence) (y : PieceAnswer) (xs : List PieceAsked) (z : PieceAsked) (v : PieceAnswer) → Has (with_answer s y xs) z → Has z.answers v
    → WasNoted s y xs z v
was_noted s y [] z v has answer = absurd has
was_noted s y (x ∷ xs) z v has answer = by_test (x.piece.sequence.0 == s.0) refl has (λ h. was_noted s y xs z v h answer)
  where
    by_new : (x.piece.sequence.0 == s.0) ≡ true → answered x y ≡ z → Has x.answers v ⊎ (y ≡ v) → WasNoted s y (x ∷ xs) z v
    by_new is same (inl old) = inl (x, inl refl, ap (λ (u : PieceAsked). u.piece) same, old)
    by_new is same (inr new) =
        inr (x, cond-true (x.piece.sequence.0 == s.0) (some_piece x) (asked_for s xs) is, ap (λ (u : PieceAsked). u.piece) same, new)

    by_later : (x.piece.sequence.0 == s.0) ≡ false → WasNoted s y xs z v → WasNoted s y (x ∷ xs) z v
    by_later is (inl (u, there, same, old)) = inl (u, inr there, same, old)
    by_later is (inr (u, found, same, new)) =
        inr (u, cond-false (x.piece.sequence.0 == s.0) (some_piece x) (asked_for s xs) is ∙ found, same, new)

    by_test : (b : Bool) → (x.piece.sequence.0 == s.0) ≡ b → Has (cond b (answered x y ∷ xs) (x ∷ with_answer s y xs)) z
        → (Has (with_answer s y xs) z → WasNoted s y xs z v) → WasNoted s y (x ∷ xs) z v
    by_test true is (inl same) further =
        by_new is same (Has-push_cases x.answers y v (subst (λ (u : PieceAsked). Has u.answers v) (sym same) answer))
    by_test true is (inr there) further = inl (z, inr there, refl, answer)
    by_test false is (inl same) further =
        inl (x, inl refl, ap (λ (u : PieceAsked). u.piece) same, subst (λ (u : PieceAsked). Has u.answers v) (sym same) answer)
    by_test false is (inr there) further = by_later is (further there)

abbrev the_piece : Piece → Option Piece
the_piece x = Some x

no_piece : (piece : Piece) → None ≡ the_piece piece → ⊥
no_piece piece e = cc

module _ (w : State) (a : Asking) (k : ℕ) (piece : Piece) (y : PieceAnswer) (n : ServerNode) (now : IsAskedNow w a k)
    (there : slice_get w.servers y.from.0 ≡ Some n) (gives : Gives n piece a.query y.got) where
  abbrev Noted : List PieceAsked → Asking
  Noted xs = with_route a piece.partition (Planned (with_answer piece.sequence y xs))

  noted_now : (xs : List PieceAsked) → route_at a piece.partition ≡ Some (Planned xs)
      → option_map (λ (x : PieceAsked). x.piece) (asked_for piece.sequence xs) ≡ Some piece → IsAskedNow w (Noted xs) k
  noted_now xs routed due =
      record {
        servers = now.servers;
        replication = now.replication;
        partitions = length-set a.routes piece.partition.0 (Planned (with_answer piece.sequence y xs)) ∙ now.partitions;
        routed = λ o below. by_place o below (cases_eq o.0 piece.partition.0);
        given = λ o zs x v at has answer.
            given_as w a (Noted xs) x v refl
            (put_given w a piece.partition (with_answer piece.sequence y xs) (Planned xs) routed k now
            (λ z u had got. by_noted z u (was_noted piece.sequence y xs z u had got)) o zs x v at has answer);
      }
    where
      by_noted : (z : PieceAsked) (u : PieceAnswer) → WasNoted piece.sequence y xs z u → IsGivenNow w a z u
      by_noted z u (inl (x, has, same, old)) =
          let g = now.given piece.partition xs x u routed has old in
          record { node = g.node; there = g.there; gives = subst (λ (p : Piece). Gives g.node p a.query u.got) same g.gives }
      by_noted z u (inr (x, found, same, is)) =
          let at : x.piece ≡ piece = same_Some x.piece piece (sym (ap (option_map (λ (v : PieceAsked). v.piece)) found) ∙ due) in
          let G : PieceAnswer → Type 0 = λ v. IsGivenNow w a z v in
          let here : G y = record { node = n; there = there; gives = subst (λ (p : Piece). Gives n p a.query y.got) (sym at ∙ same) gives } in
          subst G is here

      by_place : (o : Partition) → o.0 < k → (o.0 ≡ piece.partition.0) ⊎ (o.0 ≡ piece.partition.0 → ⊥) → IsRoutedNow w (Noted xs) o
      by_place o below (inl e) =
          let same = same_partition piece.partition o (sym e) in
          let old = now.routed o below in
          let P : Partition → Type 0 = λ x. IsRoutedNow w (Noted xs) x in
          let pieces : old.pieces ≡ xs =
          same_plan old.pieces xs (sym old.routed ∙ ap (route_at a) (sym same) ∙ routed) in
          let here : IsRoutedNow w (Noted xs) piece.partition = record {
            pieces = with_answer piece.sequence y xs;
            routed = route_put w a piece.partition (with_answer piece.sequence y xs) (Planned xs) routed;
            plan =
                answer_put piece.sequence y xs ∙ ap (map (λ (x : PieceAsked). x.piece)) (sym pieces) ∙ old.plan
                ∙ ap (λ (x : Partition). plan_of x (metadata_of w.store.writes x)) (sym same);
          } in
          subst P same here
      by_place o below (inr apart) =
          let old = now.routed o below in
          record {
            pieces = old.pieces;
            routed = route_other w a piece.partition (with_answer piece.sequence y xs) o apart ∙ old.routed;
            plan = old.plan;
          }

  noted_by : (o : Option Route) → route_at a piece.partition ≡ o
      → option_map (λ (x : PieceAsked). x.piece) (asked_for piece.sequence (plan_in o)) ≡ Some piece → IsAskedNow w (Noted (plan_in o)) k
  noted_by None e due = absurd (no_piece piece due)
  noted_by (Some Untried) e due = absurd (no_piece piece due)
  noted_by (Some Failed) e due = absurd (no_piece piece due)
  noted_by (Some (Planned xs)) e due = noted_now xs e due

-- ---- events

abbrev lists : List Listed → Result (List Listed) StoreRefused
lists ls = Ok ls

abbrev fails : StoreRefused → Result (List Listed) StoreRefused
fails e = Err e

lists_not : (ls : List Listed) (e : StoreRefused) → lists ls ≡ fails e → ⊥
lists_not ls e h = cc

same_lists : (xs ys : List Listed) → lists xs ≡ lists ys → xs ≡ ys
same_lists xs ys h = cc

failed_memory : fails store.Failed ≡ fails store.Memory → ⊥
failed_memory h = cc

list_told : (t : Told) (p : Partition) → t.faults.plan ≡ [] → answer_on t (listing p) ≡ lists (metadata_of t.writes p)
list_told t p none = ap (λ (ps : List Bool). answer_under store.Failed (fault_of ps) (listing p t.writes)) none

-- what a list leaves, where no fault is planned
record HasListed (t u : Told) (p : Partition) (ls : List Listed) : Type 0 where
  nodes : ls ≡ metadata_of t.writes p
  writes : u.writes ≡ t.writes
  unplanned : u.faults.plan ≡ []

listed_so : (t u : Told) (p : Partition) (ls : List Listed) → t.faults.plan ≡ [] → IsExact t u (listing p) (λ base. base) (Ok ls) → HasListed t u p ls
listed_so t u p ls none (inl ran_out) = absurd (lists_not ls store.Memory ran_out.0)
listed_so t u p ls none (inr came) =
    record {
      nodes = same_lists ls (metadata_of t.writes p) (came.0 ∙ list_told t p none);
      writes = ap (λ (x : Told). x.writes) came.1 ∙ read_same t;
      unplanned = ap (λ (x : Told). x.faults.plan) came.1 ∙ plan_met t.faults none;
    }

never_fails : (t u : Told) (p : Partition) → t.faults.plan ≡ [] → IsExact t u (listing p) (λ base. base) (Err store.Failed) → ⊥
never_fails t u p none (inl ran_out) = failed_memory ran_out.0
never_fails t u p none (inr came) = lists_not (metadata_of t.writes p) store.Failed (sym (came.0 ∙ list_told t p none))

route_at_place : {X : Type 0} (xs : List X) (k : ℕ) → k < length xs → (x : X) × (slice_get xs k ≡ Some x)
route_at_place [] k lt = absurd (omega (arith, lt))
route_at_place (x ∷ xs) zero lt = (x, refl)
route_at_place (x ∷ xs) (suc k) lt = route_at_place xs k (omega (arith, lt))

module _ (w u : State) (query : Query) (q k : ℕ) (under : IsUnder w u query q k) where
  query_is : query_at u q ≡ Some under.asked
  query_is = ap query_in under.there

  -- the broker's note of a partition that it routes
  route_noted : (within : k < w.setup.partitions) (new : Asking) (t : Told) (answer : Result ℕ BrokerRefused) (outcome : Outcome)
      → Routes (means u.store) (means t) under.asked (record { 0 = k }) new answer → routed_by answer ≡ Some outcome
      → IsAskedNow w new (k + 1) × (t.writes ≡ w.store.writes) × (t.faults.plan ≡ []) × (new.query ≡ query)
  route_noted within new t (Ok count) outcome r e =
      let by = r.1 in
      let exact = told_exact u.store t (listing (record { 0 = k })) (λ base. base) (Ok by.nodes) by.listed in
      let had = listed_so u.store t (record { 0 = k }) by.nodes under.same.unplanned exact in
      let route = route_at_place under.asked.routes k (omega (arith, within, under.now.partitions)) in
      let nodes : by.nodes ≡ metadata_of w.store.writes (record { 0 = k }) =
      had.nodes ∙ ap (λ (g : List Seen). metadata_of g (record { 0 = k })) under.same.writes in
      let more = routed_more w under.asked k route.0 route.1 under.now in
      let put : new ≡ with_route under.asked (record { 0 = k }) (Planned (map unasked (plan_of (record { 0 = k }) (metadata_of w.store.writes (record { 0 = k }))))) =
      by.noted ∙ ap (λ (ls : List Listed). with_route under.asked (record { 0 = k }) (Planned (map unasked (plan_of (record { 0 = k }) ls)))) nodes in (
        subst (λ (a : Asking). IsAskedNow w a (k + 1)) (sym put) more,
        had.writes ∙ under.same.writes,
        had.unplanned,
        ap (λ (a : Asking). a.query) put ∙ under.of_query,
      )
  route_noted within new t (Err broker.NotDue) outcome r e = absurd (none-some outcome e)
  route_noted within new t (Err broker.StoreFault) outcome r e =
      absurd (never_fails u.store t (record { 0 = k }) under.same.unplanned
      (told_exact u.store t (listing (record { 0 = k })) (λ base. base) (Err store.Failed) r.1))
  route_noted within new t (Err broker.Memory) outcome r e = absurd (none-some outcome e)

  pub route_step : (v : State) (outcome : Outcome) → k < w.setup.partitions → Steps u (event.Route q (record { 0 = k })) v (Ok outcome) → IsUnder w v query q (k + 1)
  route_step v outcome within (cost, due, h) =
      let g = subst (λ (o : Option Asking). RoutesAt o u q (record { 0 = k }) cost (v, outcome)) query_is h in
      let noted = route_noted within g.0 g.1 g.2 outcome g.3 g.4 in
      let z = counted (record u { queries = slice_set u.queries q (Some g.0); store = g.1 }) cost in
      let now : IsUnder w z query q (k + 1) = record {
        same = record {
          safe = subst IsSafeWorld g.5 (steps_keep u (event.Route q (record { 0 = k })) v (Ok outcome) (λ e. cc) tt under.same.safe (cost, due, h));
          log = under.same.log;
          servers = under.same.servers;
          setup = under.same.setup;
          writes = noted.1;
          unplanned = noted.2;
        };
        asked = g.0;
        of_query = noted.3;
        there = own_slot u.queries q (Some under.asked) (Some g.0) under.there;
        now = noted.0;
      } in
      subst (λ (x : State). IsUnder w x query q (k + 1)) (sym g.5) now

  -- a server's answer is noted
  pub piece_step : (v : State) (p : Partition) (s : Sequence) (i : Instance) (outcome : Outcome) → Steps u (event.Piece q p s i) v (Ok outcome) → IsUnder w v query q k
  piece_step v p s i outcome (cost, due, h) =
      let g = subst (λ (o : Option Asking). PiecesAt o u q p s i cost (v, outcome)) query_is h in
      by_parts (piece_at under.asked p s) (slice_get u.servers i.0) refl g
    where
      safe : IsSafeWorld v
      safe = steps_keep u (event.Piece q p s i) v (Ok outcome) (λ e. cc) tt under.same.safe (cost, due, h)

      by_parts : (o : Option Piece) (m : Option ServerNode) → slice_get u.servers i.0 ≡ m → PiecesOf o m under.asked u q i cost (v, outcome) → IsUnder w v query q k
      by_parts None m e g = absurd g
      by_parts (Some piece) None e g = absurd g
      by_parts (Some piece) (Some n) e g =
          let y : PieceAnswer = record { from = i; got = g.1 } in
          let due = g.3.0 in
          let at : slice_get w.servers i.0 ≡ Some n = ap (λ (xs : List ServerNode). slice_get xs i.0) (sym under.same.servers) ∙ e in
          let now = noted_by w under.asked k piece y n under.now at g.2 (route_at under.asked piece.partition) refl due.0 in
          let z = counted (with_query u q (Some g.0)) cost in
          let is : v ≡ z = ap (λ (x : State × Outcome). x.0) g.4 in
          let next : IsUnder w z query q k = record {
            same = record {
              safe = subst IsSafeWorld is safe;
              log = under.same.log;
              servers = under.same.servers;
              setup = under.same.setup;
              writes = under.same.writes;
              unplanned = under.same.unplanned;
            };
            asked = g.0;
            of_query = ap (λ (a : Asking). a.query) g.3.1 ∙ under.of_query;
            there = own_slot u.queries q (Some under.asked) (Some g.0) under.there;
            now = subst (λ (a : Asking). IsAskedNow w a k) (sym g.3.1) now;
          } in
          subst (λ (x : State). IsUnder w x query q k) (sym is) next

-- a query is asked
unrouted : (n : ℕ) (j : ℕ) (xs : List PieceAsked) → slice_get (replicate n Untried) j ≡ Some (Planned xs) → ⊥
unrouted zero j xs e = none-some (Planned xs) e
unrouted (suc n) zero xs e = plan_not Untried xs refl e
unrouted (suc n) (suc j) xs e = unrouted n j xs e

pub ask_step : (w v : State) (query : Query) (outcome : Outcome) → IsSafeWorld w → IsQuery w.setup.schema query → w.store.faults.plan ≡ [] → Steps w (event.Ask query) v (Ok outcome)
    → (outcome ≡ told.Asked (length w.queries)) × IsUnder w v query (length w.queries) 0
ask_step w v query outcome s fits unplanned (cost, due, h) =
    let z = counted (record w { queries = w.queries ++ Some (asking query w.setup) ∷ [] }) cost in
    let is : v ≡ z = ap (λ (x : State × Outcome). x.0) h in
    let safe = steps_keep w (event.Ask query) v (Ok outcome) (λ e. cc) fits s (cost, due, h) in
    let now : IsUnder w z query (length w.queries) 0 = record {
      same = record { safe = subst IsSafeWorld is safe; log = refl; servers = refl; setup = refl; writes = refl; unplanned = unplanned };
      asked = asking query w.setup;
      of_query = refl;
      there = slice_get-push w.queries (Some (asking query w.setup));
      now = record {
        servers = refl;
        replication = refl;
        partitions = length-replicate w.setup.partitions Untried;
        routed = λ p below. absurd (omega (arith, below));
        given = λ p xs x y at has answer. absurd (unrouted w.setup.partitions p.0 xs at);
      };
    } in (
      ap (λ (x : State × Outcome). x.1) h,
      subst (λ (x : State). IsUnder w x query (length w.queries) 0) (sym is) now,
    )
