-- A piece of a plan, what is given for it, and how many queries are open.
use Rattle.std.proofs.Common.{◌≡◌, ℕ, ◌+◌, ◌<◌, ◌≤◌, ◌==◌, Bool, true, false, cond, List, [], ◌∷◌, Option, Some, None, refl, sym, ◌∙◌, ap, subst, slice_get, length, arith}
use Rattle.std.specs.Prelude.{slice_set, is_some, IfSome, map, option_map}
use Rattle.std.proofs.lemmas.Option.{none-some, same_Some, slice_get_within}
use Rattle.rt_agg.specs.declared.served.Served.{Served}
use Rattle.rt_agg.specs.Grouped.{Holds}
use Rattle.rt_base.specs.declared.numbers.Offset.{Offset}
use Rattle.rt_base.specs.declared.numbers.Partition.{Partition}
use Rattle.rt_base.specs.declared.numbers.Sequence.{Sequence}
use Rattle.rt_base.specs.declared.range.Range.{Range}
use Rattle.rt_broker.specs.declared.piece_asked.PieceAsked.{PieceAsked}
use Rattle.rt_broker.specs.declared.piece_got.PieceGot.{PieceGot}
use Rattle.rt_broker.specs.declared.piece_got.PieceGot.TheVariants as got
use Rattle.rt_broker.specs.declared.route.Route.{Route}
use Rattle.rt_broker.specs.declared.route.Route.TheVariants.{Untried, Failed, Planned}
use Rattle.rt_broker.specs.Asking.{Asking, asked_for, piece_at, plan_in, route_at}
use Rattle.rt_broker.specs.IsAsked.{IsAsked, IsPlan, IsRightGot, IsRightNoted, Knows}
use Rattle.rt_broker.specs.Noting.{IsEnd}
use Rattle.rt_broker.proofs.Rising.{ordered_after, AreOrdered, plan_ordered}
use Rattle.rt_controller.proofs.Paired.{count_set}
use Rattle.rt_model.specs.declared.piece.Piece.{Piece}
use Rattle.rt_model.specs.declared.query.Query.{Query}
use Rattle.rt_model.specs.declared.setup.Setup.{Setup}
use Rattle.rt_model.specs.Aggregate.{taken}
use Rattle.rt_model.specs.Lawful.{IsLawfulHistory}
use Rattle.rt_model.proofs.Lawful.{nodes_are_in_order, prefix_is_lawful}
use Rattle.rt_past.specs.IsPast.{IsPast}
use Rattle.rt_past.specs.Past.{Past}
use Rattle.rt_schema.specs.Row.{rows_between}
use Rattle.rt_schema.specs.declared.row.Row.{Row}
use Rattle.rt_server.specs.Lasting.{IsServerOver}
use Rattle.rt_server.proofs.LastingServes.{serves_right}
use Rattle.rt_store.specs.Contents.{starting_of}
use Rattle.rt_stream.specs.Log.{messages_of}
use Rattle.rt_state.specs.IsSafeWorld.{open_in}
use Rattle.rt_state.specs.Queries.{GivesUp, GivesIf, Gives}
use Rattle.rt_nodes.specs.declared.server_node.ServerNode.{ServerNode}

-- one that is open is closed
pub open_closed : (qs : List (Option Asking)) (q : ℕ) (a : Asking) → slice_get qs q ≡ Some (Some a) → open_in (slice_set qs q None) + 1 ≡ open_in qs
open_closed qs q a e = omega (arith, count_set is_some qs q (Some a) None e)

none_left : (xs : List PieceAsked) (s : Sequence) (piece : Piece) → map (λ x. x.piece) xs ≡ [] → option_map (λ x. x.piece) (asked_for s xs) ≡ Some piece → ⊥
none_left [] s piece e f = none-some piece f
none_left (x ∷ xs) s piece e f = absurd (cc)

-- a piece of a plan begins before it ends
abbrev HasOrder : Piece → Type 0
HasOrder piece = IfSome piece.end (λ end. piece.start.0 ≤ end.0)

ordered_piece : (from : ℕ) (xs : List PieceAsked) (s : Sequence) (piece : Piece) → AreOrdered from (map (λ x. x.piece) xs)
    → option_map (λ x. x.piece) (asked_for s xs) ≡ Some piece → HasOrder piece
ordered_piece from [] s piece o e = absurd (none-some piece e)
ordered_piece from (x ∷ xs) s piece o e =
    by_test (x.piece.sequence.0 == s.0) (λ to k f. ordered_piece to xs s piece k f) e
  where
    first : (end : Option Offset) → x.piece.end ≡ end → ordered_after end x.piece.start.0 (map (λ y. y.piece) xs) (λ to. AreOrdered to (map (λ y. y.piece) xs))
        → IfSome end (λ e. x.piece.start.0 ≤ e.0)
    first None at k = tt
    first (Some end) at k = k.0

    rest : (end : Option Offset) → ((to : ℕ) → AreOrdered to (map (λ y. y.piece) xs) → option_map (λ y. y.piece) (asked_for s xs) ≡ Some piece → HasOrder piece)
        → ordered_after end x.piece.start.0 (map (λ y. y.piece) xs) (λ to. AreOrdered to (map (λ y. y.piece) xs))
        → option_map (λ y. y.piece) (asked_for s xs) ≡ Some piece → HasOrder piece
    rest None further k f = absurd (none_left xs s piece k f)
    rest (Some end) further k f = further end.0 k.1 f

    by_test : (b : Bool) → ((to : ℕ) → AreOrdered to (map (λ y. y.piece) xs) → option_map (λ y. y.piece) (asked_for s xs) ≡ Some piece → HasOrder piece)
        → option_map (λ y. y.piece) (cond b (Some x) (asked_for s xs)) ≡ Some piece → HasOrder piece
    by_test true further f = subst HasOrder (same_Some x.piece piece f) (first x.piece.end refl o.1)
    by_test false further f = rest x.piece.end further o.1 f

planned_order : (setup : Setup) (past : Past) (knows : Knows) (p : Partition) (xs : List PieceAsked) (s : Sequence) (piece : Piece) → IsPast setup past → p.0 < setup.partitions
    → IsPlan setup past knows p xs → option_map (λ x. x.piece) (asked_for s xs) ≡ Some piece → IfSome piece.end (λ end. piece.start.0 ≤ end.0)
planned_order setup past knows p xs s piece k within plan e =
    let st = starting_of setup in
    let lawful = prefix_is_lawful st plan.seen plan.front.0 plan.begins (subst (IsLawfulHistory st) plan.front.1 k.lawful) in
    ordered_piece 0 xs s piece (subst (AreOrdered 0) (sym plan.plan) (plan_ordered plan.seen p (nodes_are_in_order st plan.seen lawful p within))) e

-- a piece that was planned begins before it ends
pub piece_order : (setup : Setup) (past : Past) (a : Asking) (p : Partition) (s : Sequence) (piece : Piece) → IsPast setup past → IsAsked setup past a
    → piece_at a p s ≡ Some piece → IfSome piece.end (λ end. piece.start.0 ≤ end.0)
piece_order setup past a p s piece k asked e = by_route (route_at a p) refl e
  where
    by_route : (o : Option Route) → route_at a p ≡ o → option_map (λ x. x.piece) (asked_for s (plan_in o)) ≡ Some piece → IfSome piece.end (λ end. piece.start.0 ≤ end.0)
    by_route None at f = absurd (none-some piece f)
    by_route (Some Untried) at f = absurd (none-some piece f)
    by_route (Some Failed) at f = absurd (none-some piece f)
    by_route (Some (Planned xs)) at f =
        planned_order setup past (IsRightNoted setup past a.query) p xs s piece k
        (omega (arith, slice_get_within a.routes p.0 (Planned xs) at, asked.partitions)) (asked.routes p (Planned xs) at) f

end_is : (o : Option Offset) (range : Range) → IfSome o (λ end. range.end ≡ end) → IsEnd o range.end
end_is None range k = tt
end_is (Some end) range k = k

-- what a server gives is right
pub given_right : (setup : Setup) (past : Past) (n : ServerNode) (piece : Piece) (query : Query) (what : PieceGot) → IsServerOver setup past n.server
    → IfSome piece.end (λ end. piece.start.0 ≤ end.0) → Gives n piece query what → IsRightGot setup past query piece what
given_right setup past n piece query what k order h = by_up n.up h
  where
    served_is : (served : Served) → GivesUp n piece query (got.Served served) → IsRightGot setup past query piece (got.Served served)
    served_is served (rows, wanted, range, holds) =
        let r = serves_right setup past n.server k piece rows order wanted in
        let P : Range → Type 0 = λ x. Holds query (taken query (rows_between setup.schema past.log piece.partition.0 x.start.0 x.end.0)) served.groups in
        let Q : List Row → Type 0 = λ x. Holds query (taken query x) served.groups in
        record {
          range =
              record {
                start = ap (λ (x : Range). x.start) range ∙ r.start;
                end = subst (λ (x : Range). IsEnd piece.end x.end) (sym range) (end_is piece.end rows.range r.end);
                order = subst (λ (x : Range). x.start.0 ≤ x.end.0) (sym range) r.ordered;
              };
          within = subst (λ (x : Range). x.end.0 ≤ length (messages_of past.log piece.partition)) (sym range) r.within;
          rows = subst P (sym range) (subst Q r.rows holds);
        }

    by_what : (x : PieceGot) → GivesUp n piece query x → IsRightGot setup past query piece x
    by_what (got.Served served) g = served_is served g
    by_what got.NotServed g = tt
    by_what got.Down g = tt

    by_up : (b : Bool) → GivesIf b n piece query what → IsRightGot setup past query piece what
    by_up true g = by_what what g
    by_up false e = subst (IsRightGot setup past query piece) (sym e) tt
