-- Each partition of an answered query was planned, and the plan has every commit that the store had shown before.
use Rattle.std.proofs.Common.{◌≡◌, ◌+◌, ◌≤◌, ◌<◌, ◌⊎◌, ℕ, zero, suc, inl, inr, List, [], ◌∷◌, ◌++◌, length, drop, get_or, map, Option, Some, None, option_to_list, refl, sym, ap, ◌∙◌, subst, arith, slice_get}
use Rattle.std.proofs.lemmas.Bool.{cases_lt}
use Rattle.std.proofs.lemmas.Option.{none-some, same_Some}
use Rattle.rt_base.specs.declared.numbers.Partition.{Partition}
use Rattle.rt_base.specs.declared.numbers.Sequence.{Sequence}
use Rattle.rt_broker.specs.Answering.{pieces_in, routed_from, routed_of}
use Rattle.rt_broker.specs.Asking.{Asking, route_at}
use Rattle.rt_broker.specs.declared.piece_asked.PieceAsked.{PieceAsked}
use Rattle.rt_broker.specs.declared.route.Route.{Route}
use Rattle.rt_broker.specs.declared.route.Route.TheVariants.{Untried, Failed, Planned}
use Rattle.rt_lists.specs.Members.{Has, IsFront}
use Rattle.rt_lists.proofs.Members.{Has-append_left, Has-append_right, Has-front, Has-same}
use Rattle.rt_live_names.specs.BrokerPart.{IsPlanSince}
use Rattle.rt_model.specs.Chain.{InOrder, IsLife, IsLinked}
use Rattle.rt_model.specs.History.{last_of, last_write, value_by, value_in, value_of}
use Rattle.rt_model.specs.Lawful.{IsLawfulHistory}
use Rattle.rt_model.specs.Laws.{Begins, IsGoneLast}
use Rattle.rt_model.specs.Metadata.{IsDeleted, IsDone, IsDoneStatus, IsFinal, IsFinalStatus, life_of, listed_by, listed_in, listed_write, metadata_below, metadata_of, node_key, sequences_of}
use Rattle.rt_model.specs.Plan.{piece_of, plan_of, planned}
use Rattle.rt_model.specs.RightAnswer.{AskedPiece, missing_in, missing_of}
use Rattle.rt_model.specs.Starting.{Starting, starting_contents}
use Rattle.rt_model.specs.declared.commit.Commit.{Commit}
use Rattle.rt_model.specs.declared.node.Listed.{Listed}
use Rattle.rt_model.specs.declared.node.Node.{Node}
use Rattle.rt_model.specs.declared.node.Node.TheVariants as node
use Rattle.rt_model.specs.declared.node.Seen.{Seen}
use Rattle.rt_model.specs.declared.piece.Piece.{Piece}
use Rattle.rt_model.specs.declared.status.Status.{Status}
use Rattle.rt_model.specs.declared.status.Status.TheVariants.{InProgress, Done, Abandoned}
use Rattle.rt_model.proofs.Kept.{last_write-Has}
use Rattle.rt_model.proofs.Lawful.{has_endings, nodes_are_in_order, prefix_is_lawful}
use Rattle.rt_model.proofs.Listings.{listed_has}
use Rattle.rt_model.proofs.Lives.{Ends-final}
use Rattle.rt_model.proofs.Starts.{start_undone}
use Rattle.rt_past.proofs.Growth.{node_grows}
use Rattle.rt_live_end.specs.Right.{HasEveryCommit}
use Rattle.rt_live_end.proofs.Members.{some_at}
use Rattle.rt_live_end.proofs.Tiling.{counted}

-- ---- which partitions an answer misses whole

abbrev missing_whole : ℕ → Partition × Option Sequence
missing_whole n = (record { 0 = n }, None)

route_missing : (n i : ℕ) (routes : List Route) (route : Route) → slice_get routes i ≡ Some route → pieces_in route ≡ None
    → Has (missing_of (routed_from n routes)) (missing_whole (n + i))
route_missing n i [] route at none = absurd (none-some route at)
route_missing n zero (r ∷ routes) route at none =
    let here : n ≡ n + 0 = omega arith in
    let missing : pieces_in r ≡ None = ap pieces_in (same_Some r route at) ∙ none in
    Has-append_left (missing_in (record { 0 = n }) (pieces_in r)) (missing_of (routed_from (n + 1) routes)) (missing_whole (n + 0))
    (subst (λ (o : Option (List AskedPiece)). Has (missing_in (record { 0 = n }) o) (missing_whole (n + 0))) (sym missing) (inl (ap missing_whole here)))
route_missing n (suc i) (r ∷ routes) route at none =
    let there : (n + 1) + i ≡ n + suc i = omega arith in
    Has-append_right (missing_in (record { 0 = n }) (pieces_in r)) (missing_of (routed_from (n + 1) routes)) (missing_whole (n + suc i))
    (subst (λ (m : ℕ). Has (missing_of (routed_from (n + 1) routes)) (missing_whole m)) there (route_missing (n + 1) i routes route at none))

-- where no partition is missing whole each was planned
pub was_planned : (a : Asking) (p : Partition) → p.0 < length a.routes → (Has (missing_of (routed_of a)) (p, None) → ⊥) → (xs : List PieceAsked) × (route_at a p ≡ Some (Planned xs))
was_planned a p inside whole = let r = some_at a.routes p.0 inside in by_route r.0 r.1
  where
    missing : (route : Route) → slice_get a.routes p.0 ≡ Some route → pieces_in route ≡ None → Has (missing_of (routed_of a)) (p, None)
    missing route at none =
        let first : 0 + p.0 ≡ p.0 = omega arith in
        subst (λ (m : ℕ). Has (missing_of (routed_of a)) (missing_whole m)) first (route_missing 0 p.0 a.routes route at none)

    by_route : (route : Route) → slice_get a.routes p.0 ≡ Some route → (xs : List PieceAsked) × (route_at a p ≡ Some (Planned xs))
    by_route Untried at = absurd (whole (missing Untried at refl))
    by_route Failed at = absurd (whole (missing Failed at refl))
    by_route (Planned xs) at = (xs, at)

-- ---- plans

-- all of them have ended
abbrev AreEnded : List Listed → Type 0
AreEnded [] = Unit {0}
AreEnded (l ∷ ls) = IsFinalStatus l.seen.meta.status × AreEnded ls

ended_append : (xs ys : List Listed) → AreEnded xs → AreEnded ys → AreEnded (xs ++ ys)
ended_append [] ys x y = y
ended_append (l ∷ xs) ys x y = (x.0, ended_append xs ys x.1 y)

-- a plan goes on behind a node that has ended
plan_more : (p : Partition) (x : Listed) (t : Status) (rest : List Piece) (piece : Piece) → IsFinalStatus t → Has rest piece → Has (planned p x t rest) piece
plan_more p x InProgress rest piece final has = absurd final
plan_more p x (Done commit) rest piece final has = inr has
plan_more p x Abandoned rest piece final has = has

plan_here : (p : Partition) (x l : Listed) (commit : Commit) (rest : List Piece) → x ≡ l → l.seen.meta.status ≡ Done commit
    → Has (planned p x x.seen.meta.status rest) (piece_of p l (Some commit.end))
plan_here p x l commit rest same is =
    subst (λ (t : Status). Has (planned p x t rest) (piece_of p l (Some commit.end)))
    (sym (ap (λ (y : Listed). y.seen.meta.status) same ∙ is))
    (inl (ap (λ (y : Listed). piece_of p y (Some commit.end)) same))

-- a plan has a piece of each commit that only nodes which have ended come before
plan_has : (p : Partition) (xs : List Listed) (o : Option Listed) (l : Listed) (commit : Commit) → AreEnded xs → Has (xs ++ option_to_list o) l
    → l.seen.meta.status ≡ Done commit → Has (plan_of p (xs ++ option_to_list o)) (piece_of p l (Some commit.end))
plan_has p [] None l commit ended has is = absurd has
plan_has p [] (Some x) l commit ended (inl same) is = plan_here p x l commit [] same is
plan_has p [] (Some x) l commit ended (inr none) is = absurd none
plan_has p (x ∷ xs) o l commit ended (inl same) is = plan_here p x l commit (plan_of p (xs ++ option_to_list o)) same is
plan_has p (x ∷ xs) o l commit ended (inr has) is =
    plan_more p x x.seen.meta.status (plan_of p (xs ++ option_to_list o)) (piece_of p l (Some commit.end)) ended.0 (plan_has p xs o l commit ended.1 has is)

-- ---- only the last node is in progress

final_value : (n : Node) (w : Seen) → IsFinal n → value_by n w ≡ Some w
final_value (node.Meta m) w final = refl
final_value (node.Ideal i) w final = absurd final
final_value node.Boot w final = absurd final
final_value node.Gone w final = absurd final

listed_ended : (s version : ℕ) (n : Node) → IsFinal n → AreEnded (option_to_list (listed_by s version n))
listed_ended s version (node.Meta m) final = (final, tt)
listed_ended s version (node.Ideal i) final = tt
listed_ended s version node.Boot final = tt
listed_ended s version node.Gone final = tt

abbrev listing : ℕ → Option Seen → List Listed
listing s o = option_to_list (listed_in s o)

life_ended : (s : ℕ) (ws ds : List Seen) → IsLife ws → IsLinked ws ds → 0 < length ds → AreEnded (listing s (value_in (last_of ws)))
life_ended s ws [] life linked some = absurd (omega (arith, some))
life_ended s [] (d ∷ ds) life linked some = absurd linked
life_ended s (c ∷ []) (d ∷ ds) life linked some = absurd linked
life_ended s (c ∷ e ∷ []) (d ∷ ds) life linked some =
    let final = Ends-final c.node e.node life.1 in
    subst (λ (o : Option Seen). AreEnded (listing s o)) (sym (final_value e.node e final)) (listed_ended s e.version e.node final)
life_ended s (c ∷ e ∷ g ∷ []) (d ∷ ds) life linked some =
    subst (λ (n : Node). AreEnded (listing s (value_by n g))) (sym life.2) tt
life_ended s (c ∷ e ∷ g ∷ w ∷ ws) (d ∷ ds) life linked some = absurd life

ended_below : (h : List Seen) (p : Partition) (n : ℕ) → InOrder h p → n < sequences_of h p → AreEnded (metadata_below h p n)
ended_below h p zero o lt = tt
ended_below h p (suc n) o lt =
    ended_append (metadata_below h p n) (listing n (value_of h (node_key p n))) (ended_below h p n o (omega (arith, lt)))
    (life_ended n (life_of h p n) (life_of h p (n + 1)) (o.lives n) (o.linked n) (o.begun (n + 1) (omega (arith, lt))))

plan_of_order : (h : List Seen) (p : Partition) (l : Listed) (commit : Commit) (count : ℕ) → InOrder h p → count ≤ sequences_of h p → Has (metadata_below h p count) l
    → l.seen.meta.status ≡ Done commit → Has (plan_of p (metadata_below h p count)) (piece_of p l (Some commit.end))
plan_of_order h p l commit zero o le has is = absurd has
plan_of_order h p l commit (suc n) o le has is =
    plan_has p (metadata_below h p n) (listed_in n (value_of h (node_key p n))) l commit (ended_below h p n o (omega (arith, le))) has is

-- ---- what is listed

listed_there : (h : List Seen) (p : Partition) (l : Listed) (count : ℕ) → value_of h (node_key p l.sequence.0) ≡ Some (listed_write p l) → l.sequence.0 < count
    → Has (metadata_below h p count) l
listed_there h p l zero is lt = absurd (omega (arith, lt))
listed_there h p l (suc n) is lt = by_place (cases_lt l.sequence.0 n) (listed_there h p l n is)
  where
    here : l.sequence.0 ≡ n → Has (listing n (value_of h (node_key p n))) l
    here same =
        subst (λ (m : ℕ). Has (listing m (value_of h (node_key p m))) l) same
        (subst (λ (o : Option Seen). Has (listing l.sequence.0 o) l) (sym is) (inl refl))

    by_place : (l.sequence.0 < n) ⊎ (n ≤ l.sequence.0) → (l.sequence.0 < n → Has (metadata_below h p n) l) → Has (metadata_below h p (suc n)) l
    by_place (inl lower) further = Has-append_left (metadata_below h p n) (listing n (value_of h (node_key p n))) l (further lower)
    by_place (inr last) further =
        Has-append_right (metadata_below h p n) (listing n (value_of h (node_key p n))) l (here (omega (arith, lt, last)))

-- ---- two fronts of one history

both_front : {X : Type 0} (a b h : List X) → IsFront a h → IsFront b h → IsFront a b ⊎ IsFront b a
both_front [] b h f g = inl (b, refl)
both_front (x ∷ a) [] h f g = inr (x ∷ a, refl)
both_front {X} (x ∷ a) (y ∷ b) h f g =
    by_rest (both_front a b (drop 1 h) (f.0, ap (λ (l : List X). drop 1 l) f.1) (g.0, ap (λ (l : List X). drop 1 l) g.1))
  where
    same : x ≡ y
    same = ap (λ (l : List X). get_or l 0 x) (sym f.1 ∙ g.1)

    by_rest : IsFront a b ⊎ IsFront b a → IsFront (x ∷ a) (y ∷ b) ⊎ IsFront (y ∷ b) (x ∷ a)
    by_rest (inl r) = inl (r.0, ap (λ (z : X). z ∷ b) (sym same) ∙ ap (λ (l : List X). x ∷ l) r.1)
    by_rest (inr r) = inr (r.0, ap (λ (z : X). z ∷ a) same ∙ ap (λ (l : List X). y ∷ l) r.1)

module _ (s : Starting) (history : List Seen) (lawful : IsLawfulHistory s history) (begins : Begins s history) (p : Partition) (inside : p.0 < s.partitions) where
  -- a front that has a commit has the starting contents
  front_begins : (h : List Seen) (w : Seen) → IsFront h history → Has h w → IsDone w.node → Begins s h
  front_begins h w front has done = by_front (both_front (starting_contents s) h history begins front)
    where
      by_front : IsFront (starting_contents s) h ⊎ IsFront h (starting_contents s) → Begins s h
      by_front (inl later) = later
      by_front (inr earlier) = absurd (start_undone s w (Has-front h (starting_contents s) w earlier has) done)

  pub has_every_commit : (began : List Seen) (xs : List PieceAsked) → IsPlanSince began history p xs → HasEveryCommit began history p xs
  has_every_commit began xs plan l commit has is =
      by_end ((has_endings s plan.seen seen_lawful p l.sequence.0 inside).stays w (record { has = in_seen; is_of = refl; final = subst IsFinalStatus (sym is) tt }))
    where
      w : Seen
      w = listed_write p l

      in_seen : Has plan.seen w
      in_seen = Has-front began plan.seen w plan.since (listed_has began p l has)

      seen_lawful : IsLawfulHistory s plan.seen
      seen_lawful =
          prefix_is_lawful s plan.seen plan.front.0 (front_begins plan.seen w plan.front in_seen (subst IsDoneStatus (sym is) tt))
          (subst (IsLawfulHistory s) plan.front.1 lawful)

      stands : value_of plan.seen (node_key p l.sequence.0) ≡ Some w → Has (plan_of p (metadata_of plan.seen p)) (piece_of p l (Some commit.end))
      stands value =
          plan_of_order plan.seen p l commit (sequences_of plan.seen p) (nodes_are_in_order s plan.seen seen_lawful p inside) (omega arith)
          (listed_there plan.seen p l (sequences_of plan.seen p) value (counted plan.seen p w l.sequence.0 in_seen refl)) is

      by_end : (last_write plan.seen (node_key p l.sequence.0) ≡ Some w) ⊎ IsGoneLast plan.seen p l.sequence.0
          → Has (map (λ (x : PieceAsked). x.piece) xs) (piece_of p l (Some commit.end)) ⊎ IsDeleted history p l.sequence.0
      by_end (inl last) = inl (Has-same (plan_of p (metadata_of plan.seen p)) (map (λ (x : PieceAsked). x.piece) xs) (piece_of p l (Some commit.end)) (sym plan.plan) (stands (ap value_in last)))
      by_end (inr gone) =
          let g = last_write-Has plan.seen (node_key p l.sequence.0) gone.0 gone.1 in
          inr (node_grows plan.seen history p l.sequence.0 (λ (n : Node). n ≡ node.Gone) plan.front (gone.0, g.0, g.1, gone.2))
