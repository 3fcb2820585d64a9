-- A piece that a server is asked for: its groups lie as they may, and all else that comes of it is one.
use Rattle.std.proofs.Common.{◌≡◌, ℕ, Bool, true, false, Option, Some, None, Result, Ok, Err, refl, sym, ◌∙◌, ap, subst, slice_get}
use Rattle.std.proofs.lemmas.List.{map-set}
use Rattle.rt_base.specs.declared.numbers.Instance.{Instance}
use Rattle.rt_base.specs.declared.numbers.Partition.{Partition}
use Rattle.rt_base.specs.declared.numbers.Sequence.{Sequence}
use Rattle.rt_base.specs.declared.range.Range.{Range}
use Rattle.rt_broker.specs.Asking.{Asking, piece_at}
use Rattle.rt_broker.specs.Noting.{noted}
use Rattle.rt_broker.specs.declared.piece_got.PieceGot.{PieceGot}
use Rattle.rt_broker.specs.declared.piece_got.PieceGot.TheVariants as got
use Rattle.rt_entry.specs.declared.refused.ServeRefused.{ServeRefused}
use Rattle.rt_entry.specs.declared.served_rows.ServedRows.{ServedRows}
use Rattle.rt_model.specs.declared.piece.Piece.{Piece}
use Rattle.rt_model.specs.declared.query.Query.{Query}
use Rattle.rt_server.specs.Serving.{serve}
use Rattle.rt_state.specs.Applying.{Next}
use Rattle.rt_state.specs.Finding.{query_at}
use Rattle.rt_state.specs.Queries.{Gives, GivesIf, GivesUp, Pieces, PiecesAt, PiecesOf, piece_outcome, with_query}
use Rattle.rt_state.specs.Room.{counted}
use Rattle.rt_state.specs.declared.cost.Cost.{Cost}
use Rattle.rt_nodes.specs.declared.server_node.ServerNode.{ServerNode}
use Rattle.rt_state.specs.declared.state.State.{State}
use Rattle.rt_exact.specs.Shown.{asking_shown, got_shown, no_groups, query_shown, shown}
use Rattle.rt_exact.proofs.Dues.{query_at_shown}
use Rattle.rt_exact.proofs.Ones.{IsOne}
use Rattle.rt_exact.proofs.Queries.{noted_shown, piece_at_shown}
use Rattle.rt_exact.proofs.Showing.{Commutes, next_shown}

-- ---- what a server gives, but for its groups

abbrev served_over : Range → PieceGot
served_over range = got.Served (record { range = range; groups = no_groups })

abbrev got_by : Result ServedRows ServeRefused → PieceGot
got_by (Ok rows) = served_over rows.range
got_by (Err refused) = got.NotServed

abbrev got_if : Bool → ServerNode → Piece → PieceGot
got_if true n piece = got_by (serve n.server.table piece)
got_if false n piece = got.Down

abbrev got_of : ServerNode → Piece → PieceGot
got_of n piece = got_if n.up n piece

up_shown : (n : ServerNode) (piece : Piece) (query : Query) (what : PieceGot) → GivesUp n piece query what → got_shown what ≡ got_by (serve n.server.table piece)
up_shown n piece query (got.Served served) (rows, is, range, holds) =
    ap (λ (r : Range). served_over r) range ∙ sym (ap (λ r. got_by r) is)
up_shown n piece query got.NotServed (reached, is) = sym (ap (λ r. got_by r) is)
up_shown n piece query got.Down h = absurd h

gives_shown : (n : ServerNode) (piece : Piece) (query : Query) (what : PieceGot) → Gives n piece query what → got_shown what ≡ got_of n piece
gives_shown n piece query what h = by_up n.up h
  where
    by_up : (b : Bool) → GivesIf b n piece query what → got_shown what ≡ got_if b n piece
    by_up true g = up_shown n piece query what g
    by_up false g = ap (λ x. got_shown x) g

outcome_shown : (what : PieceGot) → piece_outcome what ≡ piece_outcome (got_shown what)
outcome_shown (got.Served served) = refl
outcome_shown got.NotServed = refl
outcome_shown got.Down = refl

-- ---- what is shown of the step

abbrev after_piece : State → ℕ → Asking → Piece → Instance → PieceGot → Cost → Next
after_piece w q a piece i what cost = (counted (with_query w q (Some (noted a piece i what))) cost, piece_outcome what)

abbrev ShowsOf : Option Piece → Option ServerNode → Asking → State → ℕ → Instance → Cost → Next → Type 0
ShowsOf None n a w q i cost x = ⊥
ShowsOf (Some piece) None a w q i cost x = ⊥
ShowsOf (Some piece) (Some n) a w q i cost x = x ≡ after_piece w q a piece i (got_of n piece) cost

abbrev ShowsAt : Option Asking → State → ℕ → Partition → Sequence → Instance → Cost → Next → Type 0
ShowsAt None w q p s i cost x = ⊥
ShowsAt (Some a) w q p s i cost x = ShowsOf (piece_at a p s) (slice_get w.servers i.0) a w q i cost x

abbrev pub PieceShows : State → ℕ → Partition → Sequence → Instance → Cost → Next → Type 0
PieceShows w q p s i cost x = ShowsAt (query_at w q) w q p s i cost x

pub piece_shows_one : (w : State) (q : ℕ) (p : Partition) (s : Sequence) (i : Instance) → IsOne (PieceShows w q p s i)
piece_shows_one w q p s i cost x y h k = by_query (query_at w q) h k
  where
    by_parts : (a : Asking) (o : Option Piece) (n : Option ServerNode) → ShowsOf o n a w q i cost x → ShowsOf o n a w q i cost y → x ≡ y
    by_parts a None n h k = absurd h
    by_parts a (Some piece) None h k = absurd h
    by_parts a (Some piece) (Some n) h k = h ∙ sym k

    by_query : (o : Option Asking) → ShowsAt o w q p s i cost x → ShowsAt o w q p s i cost y → x ≡ y
    by_query None h k = absurd h
    by_query (Some a) h k = by_parts a (piece_at a p s) (slice_get w.servers i.0) h k

after_shown : (w : State) (q : ℕ) (a : Asking) (piece : Piece) (i : Instance) (what given : PieceGot) (cost : Cost) → got_shown what ≡ given
    → next_shown (after_piece w q a piece i what cost) ≡ after_piece (shown w) q (asking_shown a) piece i given cost
after_shown w q a piece i what given cost same =
    let queries = map-set query_shown w.queries q (Some (noted a piece i what)) in
    let at : PieceGot → Next = λ g. after_piece (shown w) q (asking_shown a) piece i g cost in
    (λ t. (counted (record w { queries = queries t }) cost, outcome_shown what t))
    ∙ ap (λ b. (counted (with_query (shown w) q (Some b)) cost, piece_outcome (got_shown what))) (noted_shown a piece i what)
    ∙ ap at same

pub pieces_shown : (w : State) (q : ℕ) (p : Partition) (s : Sequence) (i : Instance) → Commutes (Pieces w q p s i) (PieceShows (shown w) q p s i)
pieces_shown w q p s i cost x h = by_query (query_at w q) refl h
  where
    by_parts : (a : Asking) (o : Option Piece) (n : Option ServerNode) → PiecesOf o n a w q i cost x → ShowsOf o n (asking_shown a) (shown w) q i cost (next_shown x)
    by_parts a None n h = absurd h
    by_parts a (Some piece) None h = absurd h
    by_parts a (Some piece) (Some n) (new, what, gives, notes, is) =
        let noted_so : x ≡ after_piece w q a piece i what cost = is ∙ ap (λ b. (counted (with_query w q (Some b)) cost, piece_outcome what)) notes.1 in
        ap (λ z. next_shown z) noted_so ∙ after_shown w q a piece i what (got_of n piece) cost (gives_shown n piece a.query what gives)

    by_query : (o : Option Asking) → query_at w q ≡ o → PiecesAt o w q p s i cost x → PieceShows (shown w) q p s i cost (next_shown x)
    by_query None at h = absurd h
    by_query (Some a) at h =
        subst (λ o. ShowsAt o (shown w) q p s i cost (next_shown x)) (sym (query_at_shown w q ∙ ap (λ o. query_shown o) at))
        (subst (λ o. ShowsOf o (slice_get w.servers i.0) (asking_shown a) (shown w) q i cost (next_shown x)) (sym (piece_at_shown a p s))
        (by_parts a (piece_at a p s) (slice_get w.servers i.0) h))
