-- What a query has asked so far, and what is still to be asked.
use Rattle.std.specs.Prelude.{◌+◌, ℕ, ◌==◌, ◌&&◌, ◌||◌, not, Bool, true, false, List, [], ◌∷◌, ◌++◌, map, Option, Some, None, option_map, is_some, if◌then◌else◌, slice_get, slice_set, replicate}
use Rattle.std.specs.List.{list_any, list_all}
use Rattle.rt_base.specs.declared.numbers.Instance.{Instance}
use Rattle.rt_base.specs.declared.numbers.Partition.{Partition}
use Rattle.rt_base.specs.declared.numbers.Sequence.{Sequence}
use Rattle.rt_agg.specs.declared.served.Served.{Served}
use Rattle.rt_assign.specs.Placement.{replicas_of}
use Rattle.rt_model.specs.declared.piece.Piece.{Piece}
use Rattle.rt_model.specs.declared.query.Query.{Query}
use Rattle.rt_model.specs.declared.setup.Setup.{Setup}
use Rattle.rt_broker.specs.declared.piece_asked.PieceAnswer.{PieceAnswer}
use Rattle.rt_broker.specs.declared.piece_asked.PieceAsked.{PieceAsked}
use Rattle.rt_broker.specs.declared.piece_got.PieceGot.{PieceGot}
use Rattle.rt_broker.specs.declared.piece_got.PieceGot.TheVariants as got
use Rattle.rt_broker.specs.declared.route.Route.{Route}
use Rattle.rt_broker.specs.declared.route.Route.TheVariants.{Untried, Failed, Planned}

-- the query, the servers and how many of them hold each segment, and what came of each partition
pub record Asking : Type 0 where
  pub query : Query
  pub servers : ℕ
  pub replication : ℕ
  pub routes : List Route

-- a query of which nothing was asked yet
abbrev pub asking : Query → Setup → Asking
asking query setup =
    record {
      query = query;
      servers = setup.servers;
      replication = setup.table.replication;
      routes = replicate setup.partitions Untried;
    }

-- ---- the plan of a partition

abbrev pub unasked : Piece → PieceAsked
unasked piece = record { piece = piece; answers = [] }

abbrev pub route_at : Asking → Partition → Option Route
route_at a p = slice_get a.routes p.0

abbrev pub with_route : Asking → Partition → Route → Asking
with_route a p route = record a { routes = slice_set a.routes p.0 route }

abbrev pub is_tried_in : Option Route → Bool
is_tried_in None = false
is_tried_in (Some Untried) = false
is_tried_in (Some Failed) = true
is_tried_in (Some (Planned xs)) = true

-- the partition's metadata was listed, or the store failed to
abbrev pub is_tried : Asking → Partition → Bool
is_tried a p = is_tried_in (route_at a p)

abbrev pub plan_in : Option Route → List PieceAsked
plan_in None = []
plan_in (Some Untried) = []
plan_in (Some Failed) = []
plan_in (Some (Planned xs)) = xs

-- the pieces of a partition's plan with what came of them; none where it isn't routed
abbrev pub plan_at : Asking → Partition → List PieceAsked
plan_at a p = plan_in (route_at a p)

abbrev pub pieces_at : Asking → Partition → List Piece
pieces_at a p = map (λ x. x.piece) (plan_at a p)

-- the piece of a segment
abbrev pub asked_for : Sequence → List PieceAsked → Option PieceAsked
asked_for s [] = None
asked_for s (x ∷ xs) = if x.piece.sequence.0 == s.0 then Some x else asked_for s xs

-- the place of the first piece of a segment, in pieces that are counted from `n` on
abbrev pub place_from : ℕ → Sequence → List PieceAsked → Option ℕ
place_from n s [] = None
place_from n s (x ∷ xs) = if x.piece.sequence.0 == s.0 then Some n else place_from (n + 1) s xs

abbrev pub asked_at : Asking → Partition → Sequence → Option PieceAsked
asked_at a p s = asked_for s (plan_at a p)

abbrev pub piece_at : Asking → Partition → Sequence → Option Piece
piece_at a p s = option_map (λ x. x.piece) (asked_at a p s)

-- ---- what came of a piece

abbrev pub served_by : PieceGot → Option Served
served_by (got.Served served) = Some served
served_by got.NotServed = None
served_by got.Down = None

abbrev pub first_served : Option Served → Option Served → Option Served
first_served None later = later
first_served (Some served) later = Some served

-- what the first server gave that served the piece
abbrev pub served_in : List PieceAnswer → Option Served
served_in [] = None
served_in (y ∷ ys) = first_served (served_by y.got) (served_in ys)

abbrev pub was_asked : List PieceAnswer → Instance → Bool
was_asked [] i = false
was_asked (y ∷ ys) i = (y.from.0 == i.0) || was_asked ys i

abbrev pub answered : PieceAsked → PieceAnswer → PieceAsked
answered x answer = record x { answers = x.answers ++ answer ∷ [] }

-- the plan with one more answer for the piece of a segment
abbrev pub with_answer : Sequence → PieceAnswer → List PieceAsked → List PieceAsked
with_answer s answer [] = []
with_answer s answer (x ∷ xs) =
    if x.piece.sequence.0 == s.0 then answered x answer ∷ xs else x ∷ with_answer s answer xs

abbrev pub route_noted : Sequence → PieceAnswer → Route → Route
route_noted s answer Untried = Untried
route_noted s answer Failed = Failed
route_noted s answer (Planned xs) = Planned (with_answer s answer xs)

-- ---- what is due

-- the servers that hold the partition's segments
abbrev pub assigned_at : Asking → Partition → List Instance
assigned_at a p = replicas_of p a.replication a.servers

abbrev pub is_one_of : List Instance → Instance → Bool
is_one_of instances i = list_any (λ j. j.0 == i.0) instances

-- the piece isn't served yet, and the server is assigned and wasn't asked for it
abbrev pub is_due_of : List Instance → Option PieceAsked → Instance → Bool
is_due_of assigned None i = false
is_due_of assigned (Some x) i =
    not (is_some (served_in x.answers)) && is_one_of assigned i && not (was_asked x.answers i)

-- a server is to be asked for the piece of a segment: the plan has it, and the above
abbrev pub is_piece_due : Asking → Partition → Sequence → Instance → Bool
is_piece_due a p s i = is_due_of (assigned_at a p) (asked_at a p s) i

-- the piece is served, or every assigned server was asked for it
abbrev pub is_settled : List Instance → PieceAsked → Bool
is_settled assigned x = is_some (served_in x.answers) || list_all (was_asked x.answers) assigned

abbrev pub is_route_settled : List Instance → Route → Bool
is_route_settled assigned Untried = false
is_route_settled assigned Failed = true
is_route_settled assigned (Planned xs) = list_all (is_settled assigned) xs

-- the partitions from this one on
abbrev pub are_settled : Asking → ℕ → List Route → Bool
are_settled a p [] = true
are_settled a p (route ∷ routes) =
    is_route_settled (assigned_at a (record { 0 = p })) route && are_settled a (p + 1) routes

-- every partition was tried, and of every piece all is asked that is to be asked
abbrev pub is_answer_due : Asking → Bool
is_answer_due a = are_settled a 0 a.routes
