-- What an answer is made of: what came of each partition, and the rows that the served groups hold.
use Rattle.std.specs.Prelude.{◌≡◌, ◌<◌, ◌+◌, ℕ, true, false, All, List, [], ◌∷◌, ◌++◌, length, map, Option, Some, None, option_map, Result, Ok, Err}
use Rattle.rt_base.specs.declared.numbers.Instance.{Instance}
use Rattle.rt_base.specs.declared.numbers.Partition.{Partition}
use Rattle.rt_base.specs.declared.numbers.Sequence.{Sequence}
use Rattle.rt_lists.specs.Members.{Has}
use Rattle.rt_schema.specs.declared.row.Row.{Row}
use Rattle.rt_schema.specs.declared.schema.Schema.{Schema}
use Rattle.rt_schema.specs.Row.{rows_between}
use Rattle.rt_model.specs.declared.answer.Answer.{Answer}
use Rattle.rt_model.specs.declared.query.Query.{Query}
use Rattle.rt_model.specs.Aggregate.{taken}
use Rattle.rt_model.specs.RightAnswer.{AskedPiece, Routed, IsServed}
use Rattle.rt_agg.specs.declared.served.Served.{Served}
use Rattle.rt_agg.specs.Grouped.{Grouped, Holds}
use Rattle.rt_broker.specs.declared.piece_asked.PieceAnswer.{PieceAnswer}
use Rattle.rt_broker.specs.declared.piece_asked.PieceAsked.{PieceAsked}
use Rattle.rt_broker.specs.declared.piece_got.PieceGot.{PieceGot}
use Rattle.rt_broker.specs.declared.piece_got.PieceGot.TheVariants as got
use Rattle.rt_broker.specs.declared.refused.BrokerRefused.{BrokerRefused}
use Rattle.rt_broker.specs.declared.refused.BrokerRefused.TheVariants.{NotDue, StoreFault, Memory}
use Rattle.rt_broker.specs.declared.route.Route.{Route}
use Rattle.rt_broker.specs.declared.route.Route.TheVariants.{Untried, Failed, Planned}
use Rattle.rt_broker.specs.Asking.{Asking, served_in, plan_at, route_at, assigned_at, is_answer_due}

-- an answer is given exactly where it is due
abbrev pub AnswersDue : Asking → Result Answer BrokerRefused → Type 0
AnswersDue a (Ok answer) = is_answer_due a ≡ true
AnswersDue a (Err NotDue) = is_answer_due a ≡ false
AnswersDue a (Err StoreFault) = ⊥
AnswersDue a (Err Memory) = is_answer_due a ≡ true

-- ---- what came of each partition

abbrev pub asked_piece : PieceAsked → AskedPiece
asked_piece x = record { piece = x.piece; served = option_map (λ served. served.range) (served_in x.answers) }

abbrev pub pieces_in : Route → Option (List AskedPiece)
pieces_in Untried = None
pieces_in Failed = None
pieces_in (Planned xs) = Some (map asked_piece xs)

abbrev pub routed_from : ℕ → List Route → List Routed
routed_from p [] = []
routed_from p (route ∷ routes) =
    record { partition = record { 0 = p }; pieces = pieces_in route } ∷ routed_from (p + 1) routes

abbrev pub routed_of : Asking → List Routed
routed_of a = routed_from 0 a.routes

-- ---- what was served

abbrev pub under : Partition → Option Served → List (Partition × Served)
under p None = []
under p (Some served) = (p, served) ∷ []

abbrev pub served_pieces : Partition → List PieceAsked → List (Partition × Served)
served_pieces p [] = []
served_pieces p (x ∷ xs) = under p (served_in x.answers) ++ served_pieces p xs

abbrev pub served_route : Partition → Route → List (Partition × Served)
served_route p Untried = []
served_route p Failed = []
served_route p (Planned xs) = served_pieces p xs

abbrev pub served_from : ℕ → List Route → List (Partition × Served)
served_from p [] = []
served_from p (route ∷ routes) = served_route (record { 0 = p }) route ++ served_from (p + 1) routes

-- what was served, by partition and piece
abbrev pub served_of : Asking → List (Partition × Served)
served_of a = served_from 0 a.routes

-- ---- the rows of what was served, where each has its rows by this function

abbrev pub RowsOf : Type 0
RowsOf = Partition × Served → List Row

abbrev pub rows_held : RowsOf → List (Partition × Served) → List Row
rows_held rows [] = []
rows_held rows (s ∷ ss) = rows s ++ rows_held rows ss

-- the groups of each hold its rows
abbrev pub AreHeld : Query → RowsOf → List (Partition × Served) → Type 0
AreHeld query rows [] = Unit {0}
AreHeld query rows (s ∷ ss) = Holds query (rows s) s.1.groups × AreHeld query rows ss

-- how many rows groups can count
abbrev pub AreFew : List Row → Type 0
AreFew rows = length rows < 9223372036854775808

-- of groups that hold some rows of a query came those that hold these too
abbrev pub Gains : List (Partition × Served) → Grouped → Grouped → Type 0
Gains ss old new =
    (query : Query) (before : List Row) (rows : RowsOf)
    → Holds query before old
    → AreHeld query rows ss
    → AreFew (before ++ rows_held rows ss)
    → Holds query (before ++ rows_held rows ss) new

-- the rows of a range of a log that a query takes
abbrev pub rows_in_log : Schema → List (List (List ℕ)) → Query → RowsOf
rows_in_log schema log query s =
    taken query (rows_between schema log s.0.0 s.1.range.start.0 s.1.range.end.0)

-- what was served are ranges of a log, in order, and their groups are those of the query over the rows of these ranges
pub record AreServed (schema : Schema) (log : List (List (List ℕ))) (a : Asking) : Type 0 where
  pub partitions : length log ≡ length a.routes
  pub served : All (IsServed log) (routed_of a)
  pub held : AreHeld a.query (rows_in_log schema log a.query) (served_of a)
  pub few : AreFew (rows_held (rows_in_log schema log a.query) (served_of a))

-- ---- what is missing

-- a server that was asked answered that it doesn't serve the piece, or was down
abbrev pub IsRefusal : PieceGot → Type 0
IsRefusal (got.Served served) = ⊥
IsRefusal got.NotServed = Unit {0}
IsRefusal got.Down = Unit {0}

abbrev pub RefusedBy : List PieceAnswer → Instance → Type 0
RefusedBy ys i = (y : PieceAnswer) × Has ys y × (y.from ≡ i) × IsRefusal y.got

-- the plan has the piece, and each assigned server was asked for it and refused it
pub record IsRefused (a : Asking) (p : Partition) (s : Sequence) : Type 0 where
  pub asked : PieceAsked
  pub planned : Has (plan_at a p) asked
  pub sequence : asked.piece.sequence ≡ s
  pub refused : (i : Instance) → Has (assigned_at a p) i → RefusedBy asked.answers i

-- why a partition, or a piece of it, is missing
abbrev pub IsMissing : Asking → Partition → Option Sequence → Type 0
IsMissing a p None = route_at a p ≡ Some Failed
IsMissing a p (Some s) = IsRefused a p s
