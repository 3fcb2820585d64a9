-- When an event can happen, and what it costs, is what it is by what the world shows.
use Rattle.std.proofs.Common.{◌≡◌, ℕ, ◌&&◌, not, Option, Some, None, option_map, refl, sym, ◌∙◌, ap, slice_get}
use Rattle.std.proofs.lemmas.Option.{slice_get-map}
use Rattle.rt_base.specs.declared.numbers.Instance.{Instance}
use Rattle.rt_base.specs.declared.numbers.Partition.{Partition}
use Rattle.rt_base.specs.declared.numbers.Sequence.{Sequence}
use Rattle.rt_broker.specs.Asking.{Asking}
use Rattle.rt_events.specs.declared.event.Event.{Event}
use Rattle.rt_events.specs.declared.event.Event.TheVariants as event
use Rattle.rt_events.specs.declared.refusal.Refusal.TheVariants.{NoSuchNode, NothingToDo}
use Rattle.rt_state.specs.Finding.{has_partition, has_server, query_at, query_in}
use Rattle.rt_state.specs.Queries.{answer_by, answer_due, piece_by, piece_due, route_by, route_due}
use Rattle.rt_state.specs.Room.{dropped, no_cost, only_if, priced}
use Rattle.rt_world.specs.Step.{due_at, due_of}
use Rattle.rt_state.specs.declared.state.State.{State}
use Rattle.rt_exact.specs.Shown.{query_shown, shown}
use Rattle.rt_exact.proofs.Queries.{answer_due_shown, piece_due_shown, tried_shown}

query_in_shown : (o : Option (Option Asking)) → query_in (option_map query_shown o) ≡ query_shown (query_in o)
query_in_shown None = refl
query_in_shown (Some asked) = refl

pub query_at_shown : (w : State) (q : ℕ) → query_at (shown w) q ≡ query_shown (query_at w q)
query_at_shown w q = ap (λ o. query_in o) (slice_get-map query_shown w.queries q) ∙ query_in_shown (slice_get w.queries q)

-- ---- the events of queries

route_by_shown : (w : State) (p : Partition) (o : Option Asking) → route_by w p (query_shown o) ≡ route_by w p o
route_by_shown w p None = refl
route_by_shown w p (Some a) = ap (λ b. only_if (not b) NothingToDo (priced w no_cost)) (tried_shown a p)

route_due_shown : (w : State) (q : ℕ) (p : Partition) → route_due (shown w) q p ≡ route_due w q p
route_due_shown w q p =
    ap (λ due. only_if (has_partition w p) NoSuchNode due) (ap (λ o. route_by w p o) (query_at_shown w q) ∙ route_by_shown w p (query_at w q))

piece_by_shown : (w : State) (p : Partition) (s : Sequence) (i : Instance) (o : Option Asking) → piece_by w p s i (query_shown o) ≡ piece_by w p s i o
piece_by_shown w p s i None = refl
piece_by_shown w p s i (Some a) = ap (λ b. only_if b NothingToDo (priced w no_cost)) (piece_due_shown a p s i)

piece_due_at : (w : State) (q : ℕ) (p : Partition) (s : Sequence) (i : Instance) → piece_due (shown w) q p s i ≡ piece_due w q p s i
piece_due_at w q p s i =
    ap (λ due. only_if (has_server w i && has_partition w p) NoSuchNode due)
    (ap (λ o. piece_by w p s i o) (query_at_shown w q) ∙ piece_by_shown w p s i (query_at w q))

answer_by_shown : (w : State) (o : Option Asking) → answer_by w (query_shown o) ≡ answer_by w o
answer_by_shown w None = refl
answer_by_shown w (Some a) = ap (λ b. only_if b NothingToDo (priced w no_cost)) (answer_due_shown a)

answer_due_at : (w : State) (q : ℕ) → answer_due (shown w) q ≡ answer_due w q
answer_due_at w q = ap (λ o. answer_by w o) (query_at_shown w q) ∙ answer_by_shown w (query_at w q)

-- ---- any event

pub due_at_shown : (w : State) (e : Event) → due_at (shown w) e ≡ due_at w e
due_at_shown w (event.Route q p) = route_due_shown w q p
due_at_shown w (event.Piece q p s i) = piece_due_at w q p s i
due_at_shown w (event.Answer q) = answer_due_at w q
due_at_shown w e = refl

pub due_alike : (w v : State) (e : Event) → shown w ≡ shown v → due_of w e ≡ due_of v e
due_alike w v e same = ap (λ due. dropped due) (sym (due_at_shown w e) ∙ ap (λ u. due_at u e) same ∙ due_at_shown v e)
