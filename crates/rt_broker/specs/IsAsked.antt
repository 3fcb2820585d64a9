-- What lasts of a query, over a past: each plan is that of a metadata list of the store, and something is known of each
-- answer that was noted. Mostly that it is right: what was served of a piece are the groups of the stream's rows of its range.
use Rattle.std.specs.Prelude.{◌≡◌, ◌≤◌, ◌+◌, ℕ, List, [], ◌∷◌, length, map, slice_get, Some}
use Rattle.std.specs.List.{AllByRecursion}
use Rattle.rt_base.specs.declared.numbers.Partition.{Partition}
use Rattle.rt_lists.specs.Members.{IsFront}
use Rattle.rt_schema.specs.Row.{rows_between}
use Rattle.rt_model.specs.declared.node.Seen.{Seen}
use Rattle.rt_model.specs.declared.piece.Piece.{Piece}
use Rattle.rt_model.specs.declared.query.Query.{Query}
use Rattle.rt_model.specs.declared.setup.Setup.{Setup}
use Rattle.rt_model.specs.Aggregate.{taken}
use Rattle.rt_model.specs.Laws.{Begins}
use Rattle.rt_model.specs.Metadata.{metadata_of}
use Rattle.rt_model.specs.Plan.{plan_of}
use Rattle.rt_stream.specs.Log.{Log, messages_of}
use Rattle.rt_store.specs.Contents.{starting_of}
use Rattle.rt_agg.specs.declared.served.Served.{Served}
use Rattle.rt_agg.specs.Grouped.{Holds}
use Rattle.rt_past.specs.Past.{Past}
use Rattle.rt_broker.specs.declared.piece_asked.PieceAnswer.{PieceAnswer}
use Rattle.rt_broker.specs.declared.piece_asked.PieceAsked.{PieceAsked}
use Rattle.rt_broker.specs.declared.piece_got.PieceGot.{PieceGot}
use Rattle.rt_broker.specs.declared.piece_got.PieceGot.TheVariants as got
use Rattle.rt_broker.specs.declared.route.Route.{Route}
use Rattle.rt_broker.specs.declared.route.Route.TheVariants.{Untried, Failed, Planned}
use Rattle.rt_broker.specs.Asking.{Asking}
use Rattle.rt_broker.specs.Noting.{IsRangeOf}

-- the range is the piece's, within the log, and the groups hold the rows of it that the query takes
pub record IsRightServed (setup : Setup) (past : Past) (query : Query) (piece : Piece) (served : Served) : Type 0 where
  pub range : IsRangeOf piece served.range
  pub within : served.range.end.0 ≤ length (messages_of past.log piece.partition)
  pub rows :
      Holds query
      (taken query (rows_between setup.schema past.log piece.partition.0 served.range.start.0 served.range.end.0))
      served.groups

abbrev pub IsRightGot : Setup → Past → Query → Piece → PieceGot → Type 0
IsRightGot setup past query piece (got.Served served) = IsRightServed setup past query piece served
IsRightGot setup past query piece got.NotServed = Unit {0}
IsRightGot setup past query piece got.Down = Unit {0}

-- what is known of an answer that was noted for a piece
abbrev pub Knows : Type 1
Knows = Piece → PieceAnswer → Type 0

-- so it is of every server that was asked for a piece
abbrev pub AreKnownAnswers : Knows → Piece → List PieceAnswer → Type 0
AreKnownAnswers knows piece ys = AllByRecursion (knows piece) ys

-- and of every piece
abbrev pub AreKnownPieces : Knows → List PieceAsked → Type 0
AreKnownPieces knows xs = AllByRecursion (λ x. AreKnownAnswers knows x.piece x.answers) xs

-- the plan of the metadata list that a front of the history has
pub record IsPlan (setup : Setup) (past : Past) (knows : Knows) (p : Partition) (xs : List PieceAsked) : Type 0 where
  pub seen : List Seen
  pub begins : Begins (starting_of setup) seen
  pub front : IsFront seen past.history
  pub plan : map (λ x. x.piece) xs ≡ plan_of p (metadata_of seen p)
  pub known : AreKnownPieces knows xs

abbrev pub IsRoute : Setup → Past → Knows → Partition → Route → Type 0
IsRoute setup past knows p Untried = Unit {0}
IsRoute setup past knows p Failed = Unit {0}
IsRoute setup past knows p (Planned xs) = IsPlan setup past knows p xs

-- an asking over a past, where this is known of all that was noted
pub record IsAskedKnowing (setup : Setup) (past : Past) (knows : Knows) (a : Asking) : Type 0 where
  pub servers : a.servers ≡ setup.servers
  pub replication : a.replication ≡ setup.table.replication
  pub partitions : length a.routes ≡ setup.partitions
  pub routes : (p : Partition) (route : Route) → slice_get a.routes p.0 ≡ Some route → IsRoute setup past knows p route

-- what was noted is right over the past
abbrev pub IsRightNoted : Setup → Past → Query → Piece → PieceAnswer → Type 0
IsRightNoted setup past query piece y = IsRightGot setup past query piece y.got

abbrev pub IsAsked : Setup → Past → Asking → Type 0
IsAsked setup past a = IsAskedKnowing setup past (IsRightNoted setup past a.query) a

-- how many messages a log has
abbrev pub messages_in : Log → ℕ
messages_in [] = 0
messages_in (messages ∷ log) = length messages + messages_in log
