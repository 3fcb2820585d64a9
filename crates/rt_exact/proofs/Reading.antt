-- What is read of a world is what it is by what the world shows.
use Rattle.std.proofs.Common.{◌≡◌, ℕ, zero, suc, List, [], ◌∷◌, map, Option, Some, None, refl, sym, ◌∙◌, ap, slice_get}
use Rattle.std.proofs.lemmas.Option.{none-some}
use Rattle.rt_base.specs.declared.numbers.Partition.{Partition}
use Rattle.rt_broker.specs.Asking.{Asking}
use Rattle.rt_state.specs.Finding.{query_at, query_in}
use Rattle.rt_world.specs.Reading.{copy_in, due_transits_of, end_in, events_left_in, held_in, ideal_in, is_ready_at, leader_in, length_of, next_at, pieces_by, pieces_of, replicas_seen, rows_of_node, stage_at, up_in, wanted_in}
use Rattle.rt_state.specs.declared.state.State.{State}
use Rattle.rt_exact.specs.Reads.{ReadAlike}
use Rattle.rt_exact.specs.Shown.{asking_shown, query_shown, shown}
use Rattle.rt_exact.proofs.Dues.{query_at_shown}
use Rattle.rt_exact.proofs.Queries.{pieces_at_shown}

pieces_by_shown : (o : Option Asking) (p : Partition) → pieces_by (query_shown o) p ≡ pieces_by o p
pieces_by_shown None p = refl
pieces_by_shown (Some a) p = pieces_at_shown a p

pieces_shown : (w : State) (q : ℕ) (p : Partition) → pieces_of (shown w) q p ≡ pieces_of w q p
pieces_shown w q p = ap (λ o. pieces_by o p) (query_at_shown w q) ∙ pieces_by_shown (query_at w q) p

pub read_alike : (w v : State) → shown w ≡ shown v → ReadAlike w v
read_alike w v same =
    record {
      up = λ node. ap (λ u. up_in u node) same;
      leader = ap (λ u. leader_in u) same;
      lengths = λ p. ap (λ u. length_of u p) same;
      ends = λ p. ap (λ u. end_in u p) same;
      ready = λ i p q. ap (λ u. is_ready_at u i p q) same;
      next = λ i p q. ap (λ u. next_at u i p q) same;
      stages = λ i p q. ap (λ u. stage_at u i p q) same;
      transits = λ i. ap (λ u. due_transits_of u i) same;
      wanted = λ i. ap (λ u. wanted_in u i) same;
      held = λ i. ap (λ u. held_in u i) same;
      pieces = λ q p. sym (pieces_shown w q p) ∙ ap (λ u. pieces_of u q p) same ∙ pieces_shown v q p;
      rows = λ i piece rows h. h ∙ ap (λ (u : State). rows_of_node (slice_get u.servers i.0) piece) same;
      replicas = ap (λ u. replicas_seen u) same;
      copies = λ i p q. ap (λ u. copy_in u i p q) same;
      ideal = ap (λ u. ideal_in u) same;
      events_left = ap (λ u. events_left_in u) same;
    }

-- ---- without an open query a world is all that it shows

none_shown : (qs : List (Option Asking)) → ((q : ℕ) → query_in (slice_get qs q) ≡ None) → map query_shown qs ≡ qs
none_shown [] none = refl
none_shown (o ∷ qs) none =
    let first : o ≡ None = none zero in
    let others = none_shown qs (λ q. none (suc q)) in
    (λ t. query_shown (first t) ∷ others t) ∙ (λ t. sym first t ∷ qs)

shown_whole : (w : State) → ((q : ℕ) → query_at w q ≡ None) → shown w ≡ w
shown_whole w none = λ t. record w { queries = none_shown w.queries none t }

unasked_shown : (o : Option Asking) → query_shown o ≡ None → o ≡ None
unasked_shown None e = refl
unasked_shown (Some a) e = absurd (none-some (asking_shown a) (sym e))

none_alike : (w v : State) → shown w ≡ shown v → ((q : ℕ) → query_at w q ≡ None) → (q : ℕ) → query_at v q ≡ None
none_alike w v same none q =
    unasked_shown (query_at v q)
    (sym (query_at_shown v q) ∙ sym (ap (λ u. query_at u q) same) ∙ query_at_shown w q ∙ ap (λ o. query_shown o) (none q))

pub one_without_queries : (w v : State) → shown w ≡ shown v → ((q : ℕ) → query_at w q ≡ None) → w ≡ v
one_without_queries w v same none = sym (shown_whole w none) ∙ same ∙ shown_whole v (none_alike w v same none)
