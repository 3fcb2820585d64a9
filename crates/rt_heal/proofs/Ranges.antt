-- The answer to a query that is asked of a world at rest names all offsets of each partition from the mark on.
use Rattle.std.proofs.Common.{◌≡◌, ℕ, suc, ◌+◌, ◌<◌, ◌≤◌, ◌⊎◌, inl, inr, Bool, true, false, cond, List, [], ◌∷◌, ◌++◌, Option, Some, None, Ok, refl, sym, ◌∙◌, ap, subst, arith, map, length, slice_get, option_to_list}
use Rattle.std.specs.Prelude.{◌==◌, option_map, unwrap_or}
use Rattle.std.proofs.lemmas.Bool.{cases_Bool, cases_lt, cond-false, cond-true, eq-eqb, eqb-false, eqb-true, ne_eqb}
use Rattle.std.proofs.lemmas.Option.{none-some, same_Some}
use Rattle.rt_base.specs.declared.numbers.Offset.{Offset}
use Rattle.rt_base.specs.declared.numbers.Partition.{Partition}
use Rattle.rt_base.specs.declared.range.Range.{Range}
use Rattle.rt_broker.specs.Answering.{asked_piece, pieces_in, routed_from}
use Rattle.rt_broker.specs.Asking.{Asking, first_served, route_at, served_by, served_in}
use Rattle.rt_broker.specs.declared.piece_asked.PieceAnswer.{PieceAnswer}
use Rattle.rt_broker.specs.declared.piece_asked.PieceAsked.{PieceAsked}
use Rattle.rt_broker.specs.declared.piece_got.PieceGot.{PieceGot}
use Rattle.rt_broker.specs.declared.piece_got.PieceGot.TheVariants as got
use Rattle.rt_broker.specs.declared.route.Route.{Route}
use Rattle.rt_broker.specs.declared.route.Route.TheVariants.{Untried, Failed, Planned}
use Rattle.rt_agg.specs.declared.served.Served.{Served}
use Rattle.rt_lists.specs.Members.{Has}
use Rattle.rt_model.specs.Metadata.{metadata_of, IsInProgress, StartsAfter}
use Rattle.rt_model.specs.Plan.{piece_of, plan_of, planned}
use Rattle.rt_model.specs.Repair.{last_listed}
use Rattle.rt_model.specs.RightAnswer.{joined, merged, missing_if, missing_in, missing_of, named_in, named_ranges, served_ranges, unserved}
use Rattle.rt_model.specs.declared.answer.Answer.{Answer}
use Rattle.rt_model.specs.declared.node.Listed.{Listed}
use Rattle.rt_model.specs.declared.piece.Piece.{Piece}
use Rattle.rt_model.specs.declared.status.Status.{Status}
use Rattle.rt_model.specs.declared.status.Status.TheVariants.{InProgress, Done, Abandoned}
use Rattle.rt_past.specs.Files.{range_to}
use Rattle.rt_lists.proofs.Members.{map-Has}
use Rattle.rt_entry.specs.declared.served_rows.ServedRows.{ServedRows}
use Rattle.rt_model.specs.Tiled.{mark_of}
use Rattle.rt_model.specs.declared.commit.Commit.{Commit}
use Rattle.rt_nodes.specs.Queries.{Gives, GivesIf}
use Rattle.rt_nodes.specs.declared.server_node.ServerNode.{ServerNode}
use Rattle.rt_server.specs.Serving.{serve}
use Rattle.rt_server.proofs.LastingServes.{serves_right}
use Rattle.rt_state.specs.IsSafe.{past_of}
use Rattle.rt_state.specs.IsSafeWorld.{IsSafeWorld}
use Rattle.rt_state.specs.Queries.{IsAnswerOf}
use Rattle.rt_state.specs.declared.state.State.{State}
use Rattle.rt_store.specs.Contents.{starting_of}
use Rattle.rt_stream.specs.Log.{end_of, messages_of}
use Rattle.rt_heal.specs.Answered.{IsAskedNow, whole_from, whole_in}
use Rattle.rt_heal.specs.AtRest.{IsAtRest}
use Rattle.rt_heal.specs.Mended.{GoesOn}
use Rattle.rt_heal.proofs.Listed.{AreLinked, are_linked, first_start}
use Rattle.rt_heal.proofs.Missing.{same_planned}
use Rattle.rt_heal.proofs.Planned.{IsPieceOf, plan_made}
use Rattle.rt_heal.proofs.Served.{going_served, past_start}

-- ---- ranges one behind the other

abbrev pub AreRun : Offset → List Range → Offset → Type 0
AreRun from [] to = from ≡ to
AreRun from (r ∷ rs) to = (r.start ≡ from) × (from.0 ≤ r.end.0) × AreRun r.end rs to

run_rises : (from to : Offset) (rs : List Range) → AreRun from rs to → from.0 ≤ to.0
run_rises from to [] e = omega (arith, ap (λ (x : Offset). x.0) e)
run_rises from to (r ∷ rs) k = let rest = run_rises r.end to rs k.2 in omega (arith, k.1, rest)

abbrev one_range : Offset → Offset → List Range
one_range a b = range_to a b ∷ []

offset_is : (a b : Offset) → a.0 ≡ b.0 → a ≡ b
offset_is a b e = let f : ℕ → Offset = λ n. record { 0 = n } in ap f e

empty_merged : (a b : Offset) → a.0 ≡ b.0 → merged (one_range a b) ≡ []
empty_merged a b e = cond-true (a.0 == b.0) [] (one_range a b) (eq-eqb a.0 b.0 e)

some_merged : (a b : Offset) → a.0 < b.0 → merged (one_range a b) ≡ one_range a b
some_merged a b lt = cond-false (a.0 == b.0) [] (one_range a b) (ne_eqb a.0 b.0 (λ e. omega (arith, e, lt)))

below : (a b : ℕ) → a ≤ b → (a ≡ b → ⊥) → a < b
below a b le apart = by_place (cases_lt a b)
  where
    by_place : (a < b) ⊎ (b ≤ a) → a < b
    by_place (inl lt) = lt
    by_place (inr other) = absurd (apart (omega (arith, le, other)))

-- they are merged to one range, or to none where there is no offset
pub run_merged : (from to : Offset) (rs : List Range) → AreRun from rs to → merged rs ≡ merged (one_range from to)
run_merged from to [] e = sym (empty_merged from to (ap (λ (x : Offset). x.0) e))
run_merged from to (r ∷ rs) k = by_first (cases_Bool (r.start.0 == r.end.0)) (run_merged r.end to rs k.2)
  where
    by_rest : r.start.0 < r.end.0 → (r.end.0 ≡ to.0) ⊎ (r.end.0 < to.0) → merged rs ≡ merged (one_range r.end to) → joined r (merged rs) ≡ merged (one_range from to)
    by_rest lt (inl e) rest =
        let last : r.end ≡ to = offset_is r.end to e in
        let whole : r ≡ range_to from to = ap (λ (x : Offset). range_to x r.end) k.0 ∙ ap (range_to from) last in
        ap (joined r) (rest ∙ empty_merged r.end to e) ∙ ap (λ (x : Range). x ∷ []) whole
        ∙ sym (some_merged from to (omega (arith, lt, e, ap (λ (x : Offset). x.0) k.0)))
    by_rest lt (inr more) rest =
        ap (joined r) (rest ∙ some_merged r.end to more)
        ∙ cond-true (r.end.0 == r.end.0) (one_range r.start to) (r ∷ one_range r.end to) (eq-eqb r.end.0 r.end.0 refl)
        ∙ ap (λ (x : Offset). one_range x to) k.0
        ∙ sym (some_merged from to (omega (arith, lt, more, ap (λ (x : Offset). x.0) k.0)))

    by_end : (r.end.0 < to.0) ⊎ (to.0 ≤ r.end.0) → (r.end.0 ≡ to.0) ⊎ (r.end.0 < to.0)
    by_end (inl lt) = inr lt
    by_end (inr le) = let rises = run_rises r.end to rs k.2 in inl (omega (arith, le, rises))

    by_first : ((r.start.0 == r.end.0) ≡ true) ⊎ ((r.start.0 == r.end.0) ≡ false) → merged rs ≡ merged (one_range r.end to)
        → cond (r.start.0 == r.end.0) (merged rs) (joined r (merged rs)) ≡ merged (one_range from to)
    by_first (inl e) rest =
        let same : r.end ≡ from = offset_is r.end r.start (sym (eqb-true r.start.0 r.end.0 e)) ∙ k.0 in
        cond-true (r.start.0 == r.end.0) (merged rs) (joined r (merged rs)) e ∙ rest ∙ ap (λ (x : Offset). merged (one_range x to)) same
    by_first (inr e) rest =
        let apart = eqb-false r.start.0 r.end.0 e in
        let lt : r.start.0 < r.end.0 = below r.start.0 r.end.0 (omega (arith, k.1, ap (λ (x : Offset). x.0) k.0)) apart in
        cond-false (r.start.0 == r.end.0) (merged rs) (joined r (merged rs)) e ∙ by_rest lt (by_end (cases_lt r.end.0 to.0)) rest

-- ---- what was served of a piece

-- what a server gave for a piece is all of it
abbrev IsAll : Offset → PieceAsked → Type 0
IsAll end x = (y : PieceAnswer) (served : Served) → Has x.answers y → y.got ≡ got.Served served
    → (served.range ≡ range_to x.piece.start (unwrap_or x.piece.end end)) × (x.piece.start.0 ≤ (unwrap_or x.piece.end end).0)

abbrev some_served : Served → Option Served
some_served s = Some s

served_got : (what : PieceGot) (served : Served) → served_by what ≡ Some served → what ≡ got.Served served
served_got (got.Served s) served e = ap (λ (x : Served). got.Served x) (same_Some s served e)
served_got got.NotServed served e = absurd (none-some served e)
served_got got.Down served e = absurd (none-some served e)

served_from : (ys : List PieceAnswer) (served : Served) → served_in ys ≡ Some served → (y : PieceAnswer) × Has ys y × (y.got ≡ got.Served served)
served_from [] served e = absurd (none-some served e)
served_from (y ∷ ys) served e = by_first (served_by y.got) refl e (served_from ys served)
  where
    by_first : (o : Option Served) → served_by y.got ≡ o → first_served o (served_in ys) ≡ Some served
        → (served_in ys ≡ Some served → (z : PieceAnswer) × Has ys z × (z.got ≡ got.Served served))
        → (z : PieceAnswer) × Has (y ∷ ys) z × (z.got ≡ got.Served served)
    by_first (Some s) is e further = (y, inl refl, served_got y.got served (is ∙ e))
    by_first None is e further = let f = further e in (f.0, inr f.1, f.2)

no_more : {X : Type 0} (x : X) (xs : List X) → x ∷ xs ≡ [] → ⊥
no_more x xs e = cc

-- ---- the pieces of a plan

module _ (p : Partition) (end : Offset) where
  -- the first piece is served whole where none is unserved
  record IsServedFirst (x : PieceAsked) (xs : List PieceAsked) : Type 0 where
    ranges : served_ranges (map asked_piece (x ∷ xs)) ≡ range_to x.piece.start (unwrap_or x.piece.end end) ∷ served_ranges (map asked_piece xs)
    order : x.piece.start.0 ≤ (unwrap_or x.piece.end end).0
    rest : unserved p (map asked_piece xs) ≡ []

  first_served_whole : (x : PieceAsked) (xs : List PieceAsked) → IsAll end x → unserved p (map asked_piece (x ∷ xs)) ≡ [] → IsServedFirst x xs
  first_served_whole x xs all none = by_served (served_in x.answers) refl none
    where
      by_served : (o : Option Served) → served_in x.answers ≡ o
          → missing_if p x.piece (option_map (λ (s : Served). s.range) o) ++ unserved p (map asked_piece xs) ≡ [] → IsServedFirst x xs
      by_served None e none = absurd (no_more (p, Some x.piece.sequence) (unserved p (map asked_piece xs)) none)
      by_served (Some s) e none =
          let y = served_from x.answers s e in
          let k = all y.0 s y.1 y.2 in
          record {
            ranges =
                ap (λ (o : Option Served). option_to_list (option_map (λ (z : Served). z.range) o) ++ served_ranges (map asked_piece xs)) e
                ∙ ap (λ (r : Range). r ∷ served_ranges (map asked_piece xs)) k.0;
            order = k.1;
            rest = none;
          }

  pieces_are : (x : PieceAsked) (xs : List PieceAsked) (q : Piece) (qs : List Piece) → map (λ (z : PieceAsked). z.piece) (x ∷ xs) ≡ q ∷ qs
      → (x.piece ≡ q) × (map (λ (z : PieceAsked). z.piece) xs ≡ qs)
  pieces_are x xs q qs e = (cc, cc)

  abbrev AllOf : List PieceAsked → Type 0
  AllOf xs = (x : PieceAsked) → Has xs x → IsAll end x

  going_run : (l : Listed) (ps : List Piece) (xs : List PieceAsked) (st : Status) → IsInProgress st
      → map (λ (x : PieceAsked). x.piece) xs ≡ planned p l st ps → AllOf xs → unserved p (map asked_piece xs) ≡ []
      → AreRun l.seen.meta.start (served_ranges (map asked_piece xs)) end
  going_run l ps [] InProgress going plan all none = absurd (no_more (piece_of p l None) [] (sym plan))
  going_run l ps (x ∷ []) InProgress going plan all none =
      let f = first_served_whole x [] (all x (inl refl)) none in
      let at = (pieces_are x [] (piece_of p l None) [] plan).0 in
      let R : Piece → Type 0 = λ z. AreRun l.seen.meta.start (range_to z.start (unwrap_or z.end end) ∷ []) end in
      let here : R (piece_of p l None) = (refl, subst (λ (z : Piece). z.start.0 ≤ (unwrap_or z.end end).0) at f.order, refl) in
      subst (λ (rs : List Range). AreRun l.seen.meta.start rs end) (sym f.ranges) (subst R (sym at) here)
  going_run l ps (x ∷ y ∷ xs) InProgress going plan all none =
      absurd (no_more y.piece (map (λ (z : PieceAsked). z.piece) xs) (pieces_are x (y ∷ xs) (piece_of p l None) [] plan).1)
  going_run l ps xs (Done commit) going plan all none = absurd going
  going_run l ps xs Abandoned going plan all none = absurd going

  next_run : (l m : Listed) (ps : List Piece) (xs : List PieceAsked) (st : Status) → StartsAfter st l.seen.meta.start m.seen.meta.start
      → map (λ (x : PieceAsked). x.piece) xs ≡ planned p l st ps → AllOf xs → unserved p (map asked_piece xs) ≡ []
      → ((ys : List PieceAsked) → map (λ (x : PieceAsked). x.piece) ys ≡ ps → AllOf ys → unserved p (map asked_piece ys) ≡ []
      → AreRun m.seen.meta.start (served_ranges (map asked_piece ys)) end)
      → AreRun l.seen.meta.start (served_ranges (map asked_piece xs)) end
  next_run l m ps xs InProgress follows plan all none further = absurd follows
  next_run l m ps xs Abandoned follows plan all none further =
      subst (λ (o : Offset). AreRun o (served_ranges (map asked_piece xs)) end) follows (further xs plan all none)
  next_run l m ps [] (Done commit) follows plan all none further = absurd (no_more (piece_of p l (Some commit.end)) ps (sym plan))
  next_run l m ps (x ∷ xs) (Done commit) follows plan all none further =
      let f = first_served_whole x xs (all x (inl refl)) none in
      let q = piece_of p l (Some commit.end) in
      let at = pieces_are x xs q ps plan in
      let rest = further xs at.1 (λ z has. all z (inr has)) f.rest in
      let R : Piece → Type 0 = λ z. AreRun l.seen.meta.start (range_to z.start (unwrap_or z.end end) ∷ served_ranges (map asked_piece xs)) end in
      let here : R q = (
        refl,
        subst (λ (z : Piece). z.start.0 ≤ (unwrap_or z.end end).0) at.0 f.order,
        subst (λ (o : Offset). AreRun o (served_ranges (map asked_piece xs)) end) follows rest,
      ) in
      subst (λ (rs : List Range). AreRun l.seen.meta.start rs end) (sym f.ranges) (subst R (sym at.0) here)

  -- the ranges run from the first node's start up to the end
  pub plan_run : (l : Listed) (ls : List Listed) (last : Listed) (xs : List PieceAsked) → AreLinked (l ∷ ls) → last_listed (l ∷ ls) ≡ Some last
      → IsInProgress last.seen.meta.status → map (λ (x : PieceAsked). x.piece) xs ≡ plan_of p (l ∷ ls) → AllOf xs → unserved p (map asked_piece xs) ≡ []
      → AreRun l.seen.meta.start (served_ranges (map asked_piece xs)) end
  plan_run l [] last xs k is going plan all none =
      going_run l [] xs l.seen.meta.status (subst (λ (z : Listed). IsInProgress z.seen.meta.status) (sym (same_Some l last is)) going) plan all none
  plan_run l (m ∷ ms) last xs k is going plan all none =
      next_run l m (plan_of p (m ∷ ms)) xs l.seen.meta.status k.0.0 plan all none
      (λ ys plan all none. plan_run m ms last ys k.1 is going plan all none)

-- ---- a world at rest

nothing_of : {X : Type 0} (xs ys : List X) → xs ++ ys ≡ [] → (xs ≡ []) × (ys ≡ [])
nothing_of [] ys e = (refl, e)
nothing_of (x ∷ xs) ys e = absurd (no_more x (xs ++ ys) e)

module _ (w : State) (s : IsSafeWorld w) (rest : IsAtRest w) (goes : (p : Partition) → p.0 < w.setup.partitions → GoesOn w.store.writes p)
    (a : Asking) (now : IsAskedNow w a w.setup.partitions) where
  abbrev end_at : Partition → Offset
  end_at p = end_of (messages_of w.log p)

  module _ (p : Partition) (within : p.0 < w.setup.partitions) where
    abbrev IsWhole : ServerNode → Piece → Type 0
    IsWhole n q =
        (x : ServedRows) → serve n.server.table q ≡ Ok x
        → (x.range ≡ range_to q.start (unwrap_or q.end (end_at p))) × (q.start.0 ≤ (unwrap_or q.end (end_at p)).0)

    -- what a server at rest gives of a piece of the plan is all of it
    all_given : (n : ServerNode) (i : ℕ) → slice_get w.servers i ≡ Some n → (piece : Piece) → Has (plan_of p (metadata_of w.store.writes p)) piece
        → (rows : ServedRows) → serve n.server.table piece ≡ Ok rows
        → (rows.range ≡ range_to piece.start (unwrap_or piece.end (end_at p))) × (piece.start.0 ≤ (unwrap_or piece.end (end_at p)).0)
    all_given n i there piece has rows gives = by_kind k.node k.has k.so
      where
        k : IsPieceOf p (metadata_of w.store.writes p) piece
        k = plan_made p (metadata_of w.store.writes p) piece has

        committed : (l : Listed) (commit : Commit) → Has (metadata_of w.store.writes p) l → l.seen.meta.status ≡ Done commit
            → IsWhole n (piece_of p l (Some commit.end))
        committed l commit has status x gives =
            let lt = past_start w.setup (past_of w) w.moment p l s.safe.past within has commit status in
            let r = serves_right w.setup (past_of w) n.server (s.safe.servers i n there).over (piece_of p l (Some commit.end)) x (omega (arith, lt)) gives in
            (ap (λ (o : Offset). range_to o x.range.end) r.start ∙ ap (range_to l.seen.meta.start) r.end, omega (arith, lt))

        consuming : (l : Listed) → Has (metadata_of w.store.writes p) l → IsInProgress l.seen.meta.status → IsWhole n (piece_of p l None)
        consuming l has going x gives =
            let all = going_served w.setup (past_of w) w.moment p l s.safe.past within has n.server (s.safe.servers i n there).over (rest i n there).rests
            s.safe.setup going x gives in
            let r = serves_right w.setup (past_of w) n.server (s.safe.servers i n there).over (piece_of p l None) x tt gives in
            (all, subst (λ (z : Range). z.start.0 ≤ z.end.0) all r.ordered)

        by_kind : (l : Listed) → Has (metadata_of w.store.writes p) l
            → ((commit : Commit) × (l.seen.meta.status ≡ Done commit) × (piece_of p l (Some commit.end) ≡ piece))
            ⊎ (IsInProgress l.seen.meta.status × (piece_of p l None ≡ piece))
            → (rows.range ≡ range_to piece.start (unwrap_or piece.end (end_at p))) × (piece.start.0 ≤ (unwrap_or piece.end (end_at p)).0)
        by_kind l has (inl (commit, status, is)) = subst (IsWhole n) is (committed l commit has status) rows gives
        by_kind l has (inr (going, is)) = subst (IsWhole n) is (consuming l has going) rows gives

    all_of : (xs : List PieceAsked) → route_at a p ≡ Some (Planned xs) → map (λ (x : PieceAsked). x.piece) xs ≡ plan_of p (metadata_of w.store.writes p)
        → AllOf p (end_at p) xs
    all_of xs routed plan x has y served answer is =
        let g = now.given p xs x y routed has answer in
        let planned = subst (λ (qs : List Piece). Has qs x.piece) plan (map-Has (λ (z : PieceAsked). z.piece) xs x has) in
        let up = (rest y.from.0 g.node g.there).up in
        let gave = subst (λ (b : Bool). GivesIf b g.node x.piece a.query (got.Served served)) up (subst (Gives g.node x.piece a.query) is g.gives) in
        let all = all_given g.node y.from.0 g.there x.piece planned gave.0 gave.1 in
        (gave.2 ∙ all.0, all.1)

    -- what is named of the partition is all of it
    partition_named : (xs : List PieceAsked) → route_at a p ≡ Some (Planned xs) → map (λ (x : PieceAsked). x.piece) xs ≡ plan_of p (metadata_of w.store.writes p)
        → unserved p (map asked_piece xs) ≡ [] → named_in (record { partition = p; pieces = Some (map asked_piece xs) }) ≡ whole_in w p
    partition_named xs routed plan none = by_list (metadata_of w.store.writes p) refl plan
      where
        all : AllOf p (end_at p) xs
        all = all_of xs routed plan

        linked : AreLinked (metadata_of w.store.writes p)
        linked = are_linked (starting_of w.setup) w.store.writes p s.safe.past.lawful within

        by_list : (ls : List Listed) → metadata_of w.store.writes p ≡ ls → map (λ (x : PieceAsked). x.piece) xs ≡ plan_of p ls
            → named_in (record { partition = p; pieces = Some (map asked_piece xs) }) ≡ whole_in w p
        by_list [] e plan = absurd (none-some (goes p within).last (sym (ap last_listed e) ∙ (goes p within).is_last))
        by_list (l ∷ ls) e plan =
            let run = plan_run p (end_at p) l ls (goes p within).last xs (subst AreLinked e linked)
            (sym (ap last_listed e) ∙ (goes p within).is_last) (goes p within).consumes plan all none in
            let mark : mark_of w.store.writes p ≡ l.seen.meta.start.0 =
            first_start (starting_of w.setup) w.store.writes p s.safe.past.lawful within l ls e in
            let start : l.seen.meta.start ≡ record { 0 = mark_of w.store.writes p } = offset_is l.seen.meta.start (record { 0 = mark_of w.store.writes p }) (sym mark) in
            ap (map (λ (r : Range). (p, r)))
            (run_merged l.seen.meta.start (end_at p) (served_ranges (map asked_piece xs)) run ∙ ap (λ (o : Offset). merged (one_range o (end_at p))) start)

  routes_named : (k : ℕ) (routes : List Route) → ((j : ℕ) (route : Route) → slice_get routes j ≡ Some route → slice_get a.routes (k + j) ≡ Some route)
      → k + length routes ≤ w.setup.partitions → missing_of (routed_from k routes) ≡ []
      → named_ranges (routed_from k routes) ≡ whole_from w k (length routes)
  routes_named k [] at le none = refl
  routes_named k (route ∷ routes) at le none = by_route route refl none (routes_named (k + 1) routes later (omega (arith, le)))
    where
      later : (j : ℕ) (r : Route) → slice_get routes j ≡ Some r → slice_get a.routes ((k + 1) + j) ≡ Some r
      later j r e = let same : k + suc j ≡ (k + 1) + j = omega arith in ap (slice_get a.routes) (sym same) ∙ at (suc j) r e

      here : (r : Route) → route ≡ r → route_at a (record { 0 = k }) ≡ Some r
      here r e = let same : k + 0 ≡ k = omega arith in ap (slice_get a.routes) (sym same) ∙ at 0 route refl ∙ ap (λ (x : Route). Some x) e

      by_route : (r : Route) → route ≡ r → missing_in (record { 0 = k }) (pieces_in r) ++ missing_of (routed_from (k + 1) routes) ≡ []
          → (missing_of (routed_from (k + 1) routes) ≡ [] → named_ranges (routed_from (k + 1) routes) ≡ whole_from w (k + 1) (length routes))
          → named_in (record { partition = record { 0 = k }; pieces = pieces_in r }) ++ named_ranges (routed_from (k + 1) routes) ≡ whole_from w k (suc (length routes))
      by_route Untried e none further = absurd (no_more (record { 0 = k }, None) (missing_of (routed_from (k + 1) routes)) none)
      by_route Failed e none further = absurd (no_more (record { 0 = k }, None) (missing_of (routed_from (k + 1) routes)) none)
      by_route (Planned xs) e none further =
          let parts = nothing_of (unserved (record { 0 = k }) (map asked_piece xs)) (missing_of (routed_from (k + 1) routes)) none in
          let within : k < w.setup.partitions = omega (arith, le) in
          let routed = now.routed (record { 0 = k }) within in
          let same : routed.pieces ≡ xs = same_planned routed.pieces xs (sym routed.routed ∙ here (Planned xs) e) in
          let plan = ap (map (λ (x : PieceAsked). x.piece)) (sym same) ∙ routed.plan in
          ap (λ (rs : List (Partition × Range)). rs ++ named_ranges (routed_from (k + 1) routes)) (partition_named (record { 0 = k }) within xs (here (Planned xs) e) plan parts.0)
          ∙ ap (λ (rs : List (Partition × Range)). whole_in w (record { 0 = k }) ++ rs) (further parts.1)

  -- all ranges that are named are all offsets from the marks on
  pub names_all : (answer : Answer) → IsAnswerOf a answer → answer.missing ≡ [] → answer.ranges ≡ whole_from w 0 w.setup.partitions
  names_all answer is none =
      is.ranges
      ∙ routes_named 0 a.routes (λ j route e. let same : 0 + j ≡ j = omega arith in ap (slice_get a.routes) same ∙ e) (omega (arith, now.partitions)) (sym is.missing ∙ none)
      ∙ ap (whole_from w 0) now.partitions
