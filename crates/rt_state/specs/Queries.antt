-- The broker's queries, piece by piece.
use Rattle.std.specs.Prelude.{◌≡◌, ◌++◌, ◌∷◌, [], ◌&&◌, false, not, ℕ, length, slice_get, slice_set, Option, Some, None, Result, Ok, ◌≤◌, IfSome}
use Rattle.rt_base.specs.declared.numbers.Instance.{Instance}
use Rattle.rt_base.specs.declared.numbers.Partition.{Partition}
use Rattle.rt_base.specs.declared.numbers.Sequence.{Sequence}
use Rattle.rt_broker.specs.Answering.{routed_of, RowsOf, AreHeld, AreFew, rows_held, served_of, IsMissing}
use Rattle.rt_broker.specs.Asking.{Asking, asking, is_tried, is_piece_due, is_answer_due, piece_at}
use Rattle.rt_broker.specs.Noting.{Notes}
use Rattle.rt_broker.specs.Routing.{Routes as broker_routes}
use Rattle.rt_broker.specs.declared.piece_got.PieceGot.{PieceGot}
use Rattle.rt_broker.specs.declared.refused.BrokerRefused.{BrokerRefused}
use Rattle.rt_lists.specs.Members.{Has}
use Rattle.rt_model.specs.Checked.{IsQuery}
use Rattle.rt_model.specs.Aggregate.{result_rows}
use Rattle.rt_model.specs.RightAnswer.{named_ranges, missing_of}
use Rattle.rt_model.specs.declared.answer.Answer.{Answer}
use Rattle.rt_model.specs.declared.piece.Piece.{Piece}
use Rattle.rt_model.specs.declared.query.Query.{Query}
use Rattle.rt_store.specs.Meaning.{Told}
use Rattle.rt_store.specs.Memory.{means}
use Rattle.rt_state.specs.Applying.{Next}
use Rattle.rt_state.specs.Finding.{has_partition, has_server, query_at}
use Rattle.rt_state.specs.Room.{Due, no_cost, query_cost, priced, with_query_closed, counted}
use Rattle.rt_state.specs.Tests.{Tests, met}
use Rattle.rt_state.specs.Tests as test
use Rattle.rt_state.specs.declared.cost.Cost.{Cost}
use Rattle.rt_nodes.specs.declared.server_node.ServerNode.{ServerNode}
use Rattle.rt_state.specs.declared.state.State.{State}
use Rattle.rt_events.specs.declared.outcome.Outcome.TheVariants as told
pub use Rattle.rt_nodes.specs.Queries.{routed_by, QueryRoutes, GivesUp, GivesIf, Gives, piece_outcome}

abbrev pub with_query : State → ℕ → Option Asking → State
with_query w q asked = record w { queries = slice_set w.queries q asked }

-- ---- ask

abbrev pub ask_due : State → Due
ask_due w = priced w query_cost

abbrev pub asked : State → Query → Cost → Next
asked w query cost =
    (counted (record w { queries = w.queries ++ Some (asking query w.setup) ∷ [] }) cost, told.Asked (length w.queries))

-- ---- route

abbrev pub untried_tests : Partition → Option Asking → Tests
untried_tests p None = test.known false test.none
untried_tests p (Some a) = test.due (not (is_tried a p)) test.none

abbrev pub route_by : State → Partition → Option Asking → Due
route_by w p o = met (untried_tests p o) (priced w no_cost)

abbrev pub route_tests : State → ℕ → Partition → Tests
route_tests w q p = test.there (has_partition w p) (untried_tests p (query_at w q))

abbrev pub route_due : State → ℕ → Partition → Due
route_due w q p = met (route_tests w q p) (priced w no_cost)

abbrev pub RoutesAt : Option Asking → State → ℕ → Partition → Cost → Next → Type 0
RoutesAt None w q p cost x = ⊥
RoutesAt (Some a) w q p cost x =
    (new : Asking) × (store : Told) × (answer : Result ℕ BrokerRefused)
    × broker_routes (means w.store) (means store) a p new answer × (routed_by answer ≡ Some x.1)
    × (x.0 ≡ counted (record w { queries = slice_set w.queries q (Some new); store = store }) cost)

abbrev pub Routes : State → ℕ → Partition → Cost → Next → Type 0
Routes w q p cost x = RoutesAt (query_at w q) w q p cost x

-- ---- piece

abbrev pub unasked_tests : Partition → Sequence → Instance → Option Asking → Tests
unasked_tests p s i None = test.known false test.none
unasked_tests p s i (Some a) = test.due (is_piece_due a p s i) test.none

abbrev pub piece_by : State → Partition → Sequence → Instance → Option Asking → Due
piece_by w p s i o = met (unasked_tests p s i o) (priced w no_cost)

abbrev pub piece_tests : State → ℕ → Partition → Sequence → Instance → Tests
piece_tests w q p s i = test.there (has_server w i && has_partition w p) (unasked_tests p s i (query_at w q))

abbrev pub piece_due : State → ℕ → Partition → Sequence → Instance → Due
piece_due w q p s i = met (piece_tests w q p s i) (priced w no_cost)

abbrev pub PiecesOf : Option Piece → Option ServerNode → Asking → State → ℕ → Instance → Cost → Next → Type 0
PiecesOf None n a w q i cost x = ⊥
PiecesOf (Some piece) None a w q i cost x = ⊥
PiecesOf (Some piece) (Some n) a w q i cost x =
    (new : Asking) × (what : PieceGot) × Gives n piece a.query what × Notes a piece i what new (Ok tt)
    × (x ≡ (counted (with_query w q (Some new)) cost, piece_outcome what))

abbrev pub PiecesAt : Option Asking → State → ℕ → Partition → Sequence → Instance → Cost → Next → Type 0
PiecesAt None w q p s i cost x = ⊥
PiecesAt (Some a) w q p s i cost x = PiecesOf (piece_at a p s) (slice_get w.servers i.0) a w q i cost x

abbrev pub Pieces : State → ℕ → Partition → Sequence → Instance → Cost → Next → Type 0
Pieces w q p s i cost x = PiecesAt (query_at w q) w q p s i cost x

-- ---- answer

abbrev pub answer_tests : Option Asking → Tests
answer_tests None = test.known false test.none
answer_tests (Some a) = test.due (is_answer_due a) test.none

abbrev pub answer_by : State → Option Asking → Due
answer_by w o = met (answer_tests o) (priced w no_cost)

abbrev pub answer_due : State → ℕ → Due
answer_due w q = answer_by w (query_at w q)

-- the answer over what was noted of a query
pub record IsAnswerOf (a : Asking) (answer : Answer) : Type 0 where
  pub ranges : answer.ranges ≡ named_ranges (routed_of a)
  pub missing : answer.missing ≡ missing_of (routed_of a)
  pub rows :
      (rows : RowsOf) → AreHeld a.query rows (served_of a) → AreFew (rows_held rows (served_of a))
      → answer.rows ≡ result_rows a.query (rows_held rows (served_of a))
  pub causes : (p : Partition) (s : Option Sequence) → Has answer.missing (p, s) → IsMissing a p s

-- a query that was answered is no more there
abbrev pub closed : State → ℕ → Cost → State
closed w q cost = counted (record w { queries = slice_set w.queries q None; counts = with_query_closed w.counts }) cost

abbrev pub AnswersAt : Option Asking → State → ℕ → Cost → Next → Type 0
AnswersAt None w q cost x = ⊥
AnswersAt (Some a) w q cost x =
    (answer : Answer) × IsAnswerOf a answer × (x ≡ (closed w q cost, told.Answered answer))

abbrev pub Answers : State → ℕ → Cost → Next → Type 0
Answers w q cost x = AnswersAt (query_at w q) w q cost x

-- ---- in steps

-- the query has the piece, and the server that is asked can read both
pub record AsksRightly (w : State) (q : ℕ) (p : Partition) (s : Sequence) (i : Instance) : Type 0 where
  pub asked : Asking
  pub piece : Piece
  pub there : query_at w q ≡ Some asked
  pub planned : piece_at asked p s ≡ Some piece
  pub ordered : IfSome piece.end (λ end. piece.start.0 ≤ end.0)
  pub read : (n : ServerNode) → slice_get w.servers i.0 ≡ Some n → IsQuery n.server.setup.schema asked.query

-- the piece of the query's plan, and what the server gives for it
pub record GivesPiece (w : State) (q : ℕ) (p : Partition) (s : Sequence) (i : Instance) (piece : Piece) (what : PieceGot) : Type 0 where
  pub asked : Asking
  pub node : ServerNode
  pub there : query_at w q ≡ Some asked
  pub stands : slice_get w.servers i.0 ≡ Some node
  pub planned : piece_at asked p s ≡ Some piece
  pub gives : Gives node piece asked.query what
