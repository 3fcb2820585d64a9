-- How a world goes on where one of its queries was routed, asked or answered.
use Rattle.std.proofs.Common.{◌≡◌, ℕ, slice_get, slice_set, Option, Some, None, Ok, refl, sym, ap, subst, ◌∙◌}
use Rattle.rt_base.specs.declared.numbers.Instance.{Instance}
use Rattle.rt_base.specs.declared.numbers.Partition.{Partition}
use Rattle.rt_base.specs.declared.numbers.Sequence.{Sequence}
use Rattle.rt_broker.specs.Asking.{Asking}
use Rattle.rt_broker.specs.Noting.{Notes}
use Rattle.rt_broker.specs.declared.piece_got.PieceGot.{PieceGot}
use Rattle.rt_events.specs.declared.outcome.Outcome.{Outcome}
use Rattle.rt_events.specs.declared.outcome.Outcome.TheVariants as told
use Rattle.rt_model.specs.declared.answer.Answer.{Answer}
use Rattle.rt_model.specs.declared.piece.Piece.{Piece}
use Rattle.rt_store.specs.Meaning.{Told}
use Rattle.rt_state.specs.Applying.{Next}
use Rattle.rt_state.specs.Finding.{query_at, query_in}
use Rattle.rt_state.specs.Queries.{Answers, AnswersAt, GivesPiece, IsAnswerOf, Pieces, PiecesAt, PiecesOf, QueryRoutes, Routes, RoutesAt, closed, piece_outcome, with_query}
use Rattle.rt_state.specs.Room.{counted, spent, with_query_closed}
use Rattle.rt_state.specs.declared.cost.Cost.{Cost}
use Rattle.rt_state.specs.declared.counts.Counts.{Counts}
use Rattle.rt_state.specs.declared.state.State.{State}

pub query_stands : (w : State) (q : ℕ) (a : Asking) → slice_get w.queries q ≡ Some (Some a) → query_at w q ≡ Some a
query_stands w q a h = ap query_in h

pub query_routed : (w : State) (q : ℕ) (p : Partition) (cost : Cost) (a new : Asking) (store : Told) (outcome : Outcome)
    → slice_get w.queries q ≡ Some (Some a) → QueryRoutes p w.store store a new outcome
    → Routes w q p cost (counted (record w { queries = slice_set w.queries q (Some new); store = store }) cost, outcome)
query_routed w q p cost a new store outcome found h =
    subst (λ o. RoutesAt o w q p cost (counted (record w { queries = slice_set w.queries q (Some new); store = store }) cost, outcome))
    (sym (query_stands w q a found)) (new, store, h.0, h.1, h.2, refl)

the_query : (a b : Asking) → Some a ≡ Some b → a ≡ b
the_query a b e = cc

pub piece_noted : (w : State) (q : ℕ) (p : Partition) (s : Sequence) (i : Instance) (cost : Cost) (a new : Asking) (piece : Piece) (what : PieceGot)
    → slice_get w.queries q ≡ Some (Some a) → GivesPiece w q p s i piece what → Notes a piece i what new (Ok tt)
    → (outcome : Outcome) (counts : Counts) → outcome ≡ piece_outcome what → counts ≡ spent w.counts cost
    → Pieces w q p s i cost (record w { queries = slice_set w.queries q (Some new); counts = counts }, outcome)
piece_noted w q p s i cost a new piece what found g notes outcome counts tells spends =
    let next : Next = (counted (with_query w q (Some new)) cost, piece_outcome what) in
    let same : g.asked ≡ a = the_query g.asked a (sym g.there ∙ query_stands w q a found) in
    let noted = subst (λ b. Notes b piece i what new (Ok tt)) (sym same) notes in
    let by : Counts → Outcome → Type 0 = λ k o. Pieces w q p s i cost (record w { queries = slice_set w.queries q (Some new); counts = k }, o) in
    subst (by counts) (sym tells) (subst (λ k. by k (piece_outcome what)) (sym spends)
    (subst (λ o. PiecesAt o w q p s i cost next) (sym g.there)
    (subst (λ o. PiecesOf o (slice_get w.servers i.0) g.asked w q i cost next) (sym g.planned)
    (subst (λ o. PiecesOf (Some piece) o g.asked w q i cost next) (sym g.stands) (new, what, g.gives, noted, refl)))))

pub query_answered : (w : State) (q : ℕ) (cost : Cost) (a : Asking) (answer : Answer) (left : Option Asking) (closing counts : Counts)
    → query_at w q ≡ Some a → IsAnswerOf a answer → left ≡ None → closing ≡ with_query_closed w.counts → counts ≡ spent closing cost
    → Answers w q cost (record w { queries = slice_set w.queries q left; counts = counts }, told.Answered answer)
query_answered w q cost a answer left closing counts found h none closes spends =
    let by : Option Asking → Counts → Type 0 = λ o k. Answers w q cost (record w { queries = slice_set w.queries q o; counts = k }, told.Answered answer) in
    subst (λ o. by o counts) (sym none)
    (subst (by None) (sym (spends ∙ ap (λ (k : Counts). spent k cost) closes))
    (subst (λ o. AnswersAt o w q cost (closed w q cost, told.Answered answer)) (sym found) (answer, h, refl)))
