-- A piece that was found is one of a plan.
use Rattle.std.proofs.Common.{◌≡◌, ℕ, ◌<◌, List, length, Option, Some, None, refl, sym, ap, ◌∙◌, slice_get, slice_set}
use Rattle.std.specs.Prelude.{option_map}
use Rattle.std.proofs.lemmas.Option.{slice_get_within}
use Rattle.rt_base.specs.declared.numbers.Partition.{Partition}
use Rattle.rt_base.specs.declared.numbers.Sequence.{Sequence}
use Rattle.rt_model.specs.declared.piece.Piece.{Piece}
use Rattle.rt_broker.specs.declared.piece_asked.PieceAnswer.{PieceAnswer}
use Rattle.rt_broker.specs.declared.route.Route.{Route}
use Rattle.rt_broker.specs.declared.route.Route.TheVariants.{Untried, Failed, Planned}
use Rattle.rt_broker.specs.Asking.{Asking, asked_for, piece_at, plan_at, plan_in, route_at, route_noted, with_answer, with_route}

within_of : (routes : List Route) (i : ℕ) (s : Sequence) (piece : Piece) (o : Option Route) → slice_get routes i ≡ o
    → option_map (λ x. x.piece) (asked_for s (plan_in o)) ≡ Some piece → i < length routes
within_of routes i s piece None at e = absurd (cc)
within_of routes i s piece (Some route) at e = slice_get_within routes i route at

pub piece_within : (a : Asking) (p : Partition) (s : Sequence) (piece : Piece) → piece_at a p s ≡ Some piece → p.0 < length a.routes
piece_within a p s piece e = within_of a.routes p.0 s piece (route_at a p) refl e

noted_in : (s : Sequence) (piece : Piece) (answer : PieceAnswer) (route : Route)
    → option_map (λ x. x.piece) (asked_for s (plan_in (Some route))) ≡ Some piece
    → route_noted s answer route ≡ Planned (with_answer s answer (plan_in (Some route)))
noted_in s piece answer Untried e = absurd (cc)
noted_in s piece answer Failed e = absurd (cc)
noted_in s piece answer (Planned xs) e = refl

pub noted_route : (a : Asking) (p : Partition) (s : Sequence) (piece : Piece) (answer : PieceAnswer) (route : Route)
    → piece_at a p s ≡ Some piece → route_at a p ≡ Some route
    → slice_set a.routes p.0 (route_noted s answer route) ≡ (with_route a p (Planned (with_answer s answer (plan_at a p)))).routes
noted_route a p s piece answer route e at =
    let found = ap (λ o. option_map (λ x. x.piece) (asked_for s (plan_in o))) (sym at) ∙ e in
    ap (λ r. slice_set a.routes p.0 r)
    (noted_in s piece answer route found ∙ ap (λ o. Planned (with_answer s answer (plan_in o))) (sym at))
