-- What the answer of a `query` line misses, each of the partition's servers refuses in the world of the line; and what a view misses none of
-- them gives.
use Rattle.std.proofs.Common.{◌≡◌, ◌⊎◌, inl, inr, ℕ, Bool, true, false, List, [], ◌∷◌, map, Option, Some, None, Ok, Err, refl, sym, ◌∙◌, ap, subst, slice_get, ⊎_elim}
use Rattle.std.specs.Prelude.{option_and_then, option_map, unwrap_or}
use Rattle.std.proofs.lemmas.Option.{none-some, same_Some}
use Rattle.rt_assign.specs.Placement.{replicas_of}
use Rattle.rt_base.specs.declared.numbers.Instance.{Instance}
use Rattle.rt_base.specs.declared.numbers.Offset.{Offset}
use Rattle.rt_base.specs.declared.numbers.Partition.{Partition}
use Rattle.rt_base.specs.declared.numbers.Sequence.{Sequence}
use Rattle.rt_broker.proofs.Rising.{each_of}
use Rattle.rt_broker.specs.Answering.{IsRefusal, IsRefused, RefusedBy}
use Rattle.rt_broker.specs.Asking.{plan_in, route_at}
use Rattle.rt_broker.specs.IsAsked.{AreKnownAnswers}
use Rattle.rt_broker.specs.declared.piece_asked.PieceAsked.{PieceAsked}
use Rattle.rt_broker.specs.declared.piece_got.PieceGot.{PieceGot}
use Rattle.rt_broker.specs.declared.piece_got.PieceGot.TheVariants as got
use Rattle.rt_broker.specs.declared.route.Route.{Route}
use Rattle.rt_broker.specs.declared.route.Route.TheVariants.{Failed, Planned, Untried}
use Rattle.rt_entry.specs.declared.refused.ServeRefused.TheVariants.{NotServed}
use Rattle.rt_entry.specs.declared.served_rows.ServedRows.{ServedRows}
use Rattle.rt_events.specs.Fits.{Fits}
use Rattle.rt_events.specs.declared.event.Event.TheVariants as event
use Rattle.rt_lists.proofs.Members.{map-Has}
use Rattle.rt_lists.specs.Members.{Has}
use Rattle.rt_macros.specs.Doing.{Reached}
use Rattle.rt_macros.specs.Querying.{QueryTold}
use Rattle.rt_model.specs.declared.answer.Answer.{Answer}
use Rattle.rt_model.specs.declared.piece.Piece.{Piece}
use Rattle.rt_model.specs.declared.query.Query.{Query}
use Rattle.rt_model.specs.declared.setup.Setup.{Setup}
use Rattle.rt_nodes.specs.Queries.{Gives, GivesIf, piece_outcome}
use Rattle.rt_nodes.specs.declared.server_node.ServerNode.{ServerNode}
use Rattle.rt_play.proofs.Gathered.{GivesIn, IsRouteOf}
use Rattle.rt_play.proofs.QueryLines.{IsFound, query_answer}
use Rattle.rt_play.specs.Causes.{RefusesBy}
use Rattle.rt_play.specs.Missed.{IsMissedIn, MissesSo, RefusesIn}
use Rattle.rt_server.specs.Serving.{serve}
use Rattle.rt_state.specs.IsSafeWorld.{IsSafeWorld}
use Rattle.rt_state.specs.declared.state.State.{State}
use Rattle.rt_views.specs.Plans.{assigned_to, first_of, or_else, pieces_now, rows_from}
use Rattle.rt_views.specs.Views.{all_from, found_each, found_whole, unfound}
use Rattle.rt_views.specs.declared.found.Found.{Found}

-- ---- an answer

-- what a server gave for a piece is a refusal, and is told as one
pub told_refusal : (n : ServerNode) (piece : Piece) (query : Query) (what : PieceGot) (up : Bool) → n.up ≡ up → GivesIf up n piece query what → IsRefusal what
    → RefusesBy (piece_outcome what) n piece
told_refusal n piece query what false e gives refusal = inl (ap piece_outcome gives, e)
told_refusal n piece query (got.Served served) true e gives refusal = absurd refusal
told_refusal n piece query got.NotServed true e gives refusal = inr (refl, gives)
told_refusal n piece query got.Down true e gives refusal = absurd gives

gave_none : (n : ServerNode) (piece : Piece) (query : Query) (what : PieceGot) → Gives n piece query what → IsRefusal what
    → (n.up ≡ false) ⊎ ((reached : Option Offset) × (serve n.server.table piece ≡ Err (NotServed reached)))
gave_none n piece query what gives refusal = ⊎_elim (λ down. inl down.1) (λ none. inr none.1) (told_refusal n piece query what n.up refl gives refusal)

refuses : (w : State) (query : Query) (x : PieceAsked) (i : Instance) → AreKnownAnswers (GivesIn w query) x.piece x.answers → RefusedBy x.answers i → RefusesIn w i x.piece
refuses w query x i given (y, has, from, refusal) =
    let g = each_of (GivesIn w query x.piece) x.answers y given has in
    record {
      node = g.node;
      there = subst (λ (j : Instance). slice_get w.servers j.0 ≡ Some g.node) from g.there;
      why = gave_none g.node x.piece query y.got g.gives refusal;
    }

module _ (w v : State) (answer : Answer) (f : IsFound w v answer) (p : Partition) (s : Sequence) where
  planned_route : (o : Option Route) → route_at f.answered.asked p ≡ o → IsRefused f.answered.asked p s
      → ((x : PieceAsked) → Has (plan_in o) x → x.piece.sequence ≡ s → ((i : Instance) → Has (replicas_of p w.setup.table.replication w.setup.servers) i → RefusedBy x.answers i)
      → IsMissedIn w p s) → IsMissedIn w p s
  planned_route o at r further =
      further r.asked (subst (λ (x : Option Route). Has (plan_in x) r.asked) at r.planned) r.sequence
      (λ i has.
      r.refused i
      (subst (λ (is : List Instance). Has is i)
      (sym (f.answered.assigned p ∙ ap (λ (t : Setup). replicas_of p t.table.replication t.servers) f.setup)) has))

  missed_by : (o : Option Route) → ((route : Route) → o ≡ Some route → IsRouteOf w f.answered.asked.query p route) → (x : PieceAsked) → Has (plan_in o) x
      → x.piece.sequence ≡ s → ((i : Instance) → Has (replicas_of p w.setup.table.replication w.setup.servers) i → RefusedBy x.answers i) → IsMissedIn w p s
  missed_by None of x has e refused = absurd has
  missed_by (Some Untried) of x has e refused = absurd has
  missed_by (Some Failed) of x has e refused = absurd has
  missed_by (Some (Planned xs)) of x has e refused =
      let plan = of (Planned xs) refl in
      record {
        piece = x.piece;
        planned = subst (λ (ps : List Piece). Has ps x.piece) plan.plan (map-Has (λ (y : PieceAsked). y.piece) xs x has);
        sequence = e;
        refused = λ i is.
            refuses w f.answered.asked.query x i
            (each_of (λ (y : PieceAsked). AreKnownAnswers (GivesIn w f.answered.asked.query) y.piece y.answers) xs x plan.given has) (refused i is);
      }

  pub missed_piece : Has answer.missing (p, Some s) → IsMissedIn w p s
  missed_piece has =
      planned_route (route_at f.answered.asked p) refl (f.answered.missing p (Some s) has)
      (missed_by (route_at f.answered.asked p) (f.gathers.routes f.answered.asked f.answered.there p))

pub query_misses : (query : Query) (w : State) (v : Reached) (text : List ℕ) → IsSafeWorld w → Fits w.setup.schema (event.Ask query) → QueryTold query w v (Ok text)
    → MissesSo w text
query_misses query w v text safe fits h =
    let a = query_answer query w v text safe fits h in
    record { answer = a.answer; told = a.told; missed = λ p s has. missed_piece w v.world a.answer a.found p s has }

-- ---- a view

none_else : {X : Type 0} (a b : Option X) → or_else a b ≡ None → (a ≡ None) × (b ≡ None)
none_else None b e = (refl, e)
none_else (Some x) b e = absurd (none-some x (sym e))

first_none : {X : Type 0} (f : Instance → Option X) (is : List Instance) (i : Instance) → first_of f is ≡ None → Has is i → f i ≡ None
first_none f [] i e has = absurd has
first_none f (j ∷ is) i e (inl same) = ap f (sym same) ∙ (none_else (f j) (first_of f is) e).0
first_none f (j ∷ is) i e (inr has) = first_none f is i (none_else (f j) (first_of f is) e).1 has

-- a piece that the view of single pieces misses none of the partition's servers gives
pub each_misses : (w : State) (p : Partition) (piece : Piece) (i : Instance) → (found_each w p piece).rows ≡ None → Has (assigned_to w p) i → rows_from w piece i ≡ None
each_misses w p piece i e has = first_none (rows_from w piece) (assigned_to w p) i e has

-- the first of several that has something
some_first : {X : Type 0} (f : Instance → Option X) (is : List Instance) (x : X) → first_of f is ≡ Some x → (j : Instance) × (f j ≡ Some x)
some_first f [] x e = absurd (none-some x e)
some_first f (j ∷ is) x e = by_own (f j) refl e (λ g. some_first f is x g)
  where
    by_own : (o : Option _) → f j ≡ o → or_else o (first_of f is) ≡ Some x → (first_of f is ≡ Some x → (k : Instance) × (f k ≡ Some x)) → (k : Instance) × (f k ≡ Some x)
    by_own None at g further = further g
    by_own (Some y) at g further = (j, at ∙ g)

abbrev found_so : Piece → Option ServedRows → Option Found
found_so piece o = option_map (λ rows. record { piece = piece; rows = Some rows }) o

abbrev joined_so : Option Found → Option (List Found) → Option (List Found)
joined_so o rest = option_and_then (λ y. option_map (λ ys. y ∷ ys) rest) o

-- what one server gives of all pieces has rows of each
all_have : (w : State) (i : Instance) (pieces : List Piece) (fs : List Found) (g : Found) → all_from w pieces i ≡ Some fs → Has fs g → g.rows ≡ None → ⊥
all_have w i [] fs g e has none = absurd (subst (λ (gs : List Found). Has gs g) (sym (same_Some [] fs e)) has)
all_have w i (x ∷ xs) fs g e has none = by_piece (rows_from w x i) (all_from w xs i) refl e (λ gs f k. all_have w i xs gs g f k none)
  where
    by_piece : (o : Option ServedRows) (rest : Option (List Found)) → all_from w xs i ≡ rest → joined_so (found_so x o) rest ≡ Some fs
        → ((gs : List Found) → all_from w xs i ≡ Some gs → Has gs g → ⊥) → ⊥
    by_piece None rest at f further = none-some fs f
    by_piece (Some rows) None at f further = none-some fs f
    by_piece (Some rows) (Some gs) at f further = by_place (subst (λ (hs : List Found). Has hs g) (sym (same_Some (record { piece = x; rows = Some rows } ∷ gs) fs f)) has)
      where
        by_place : Has (record { piece = x; rows = Some rows } ∷ gs) g → ⊥
        by_place (inl same) = none-some rows (sym none ∙ ap (λ (h : Found). h.rows) (sym same))
        by_place (inr k) = further gs at k

-- a server that doesn't give all pieces lacks one
lacks_one : (w : State) (i : Instance) (pieces : List Piece) → all_from w pieces i ≡ None → (x : Piece) × Has pieces x × (rows_from w x i ≡ None)
lacks_one w i [] e = absurd (none-some [] (sym e))
lacks_one w i (x ∷ xs) e = by_piece (rows_from w x i) refl (all_from w xs i) refl e (λ f. lacks_one w i xs f)
  where
    by_piece : (o : Option ServedRows) → rows_from w x i ≡ o → (rest : Option (List Found)) → all_from w xs i ≡ rest → joined_so (found_so x o) rest ≡ None
        → (all_from w xs i ≡ None → (y : Piece) × Has xs y × (rows_from w y i ≡ None)) → (y : Piece) × Has (x ∷ xs) y × (rows_from w y i ≡ None)
    by_piece None at rest behind f further = (x, inl refl, at)
    by_piece (Some rows) at None behind f further = let y = further behind in (y.0, inr y.1, y.2)
    by_piece (Some rows) at (Some gs) behind f further = absurd (none-some (record { piece = x; rows = Some rows } ∷ gs) (sym f))

-- where the view of whole partitions misses a piece, each of the partition's servers lacks one
pub whole_misses : (w : State) (p : Partition) (f : Found) (i : Instance) → Has (found_whole w p) f → f.rows ≡ None → Has (assigned_to w p) i
    → (x : Piece) × Has (pieces_now w p) x × (rows_from w x i ≡ None)
whole_misses w p f i has none is = by_first (first_of (all_from w (pieces_now w p)) (assigned_to w p)) refl has
  where
    by_first : (o : Option (List Found)) → first_of (all_from w (pieces_now w p)) (assigned_to w p) ≡ o → Has (unwrap_or o (map unfound (pieces_now w p))) f
        → (x : Piece) × Has (pieces_now w p) x × (rows_from w x i ≡ None)
    by_first None e k = lacks_one w i (pieces_now w p) (first_none (all_from w (pieces_now w p)) (assigned_to w p) i e is)
    by_first (Some fs) e k =
        let j = some_first (all_from w (pieces_now w p)) (assigned_to w p) fs e in
        absurd (all_have w j.0 (pieces_now w p) fs f j.1 k none)
