-- What a server of a running cluster can say by itself: of what its fronts have seen, what it asked, what it took and what it gave.
use Rattle.std.specs.Prelude.{◌≡◌, ℕ, List, [], All, Some, slice_get}
use Rattle.rt_broker.specs.declared.piece_given.PieceGiven.{PieceGiven}
use Rattle.rt_broker.specs.declared.piece_got.PieceGot.{PieceGot}
use Rattle.rt_broker.specs.declared.piece_got.PieceGot.TheVariants as got
use Rattle.rt_model.specs.declared.piece.Piece.{Piece}
use Rattle.rt_model.specs.declared.query.Query.{Query}
use Rattle.rt_model.specs.declared.reply.Reply.{Reply}
use Rattle.rt_model.specs.declared.request.Request.{Request}
use Rattle.rt_past.specs.Past.{Past}
use Rattle.rt_past.specs.View.{IsView}
use Rattle.rt_replica.specs.Own.{IsOwnRequest}
use Rattle.rt_server.specs.Given.{IsGivenRight}
use Rattle.rt_server.specs.Own.{IsOwnServer}
use Rattle.rt_server.specs.Table.{ServerState}
use Rattle.rt_live_names.specs.Fronts.{Fronts, AreOfCaller, own_files, own_messages, own_writes, server_caller, viewed}
use Rattle.rt_live_names.specs.Names.{Names}
use Rattle.rt_live_names.specs.Quiet.{AreUndone}

pub record ServerPart : Type 0 where
  pub number : ℕ
  pub fronts : Fronts
  pub server : ServerState
  -- what it asked and what it took, each in its order
  pub requests : List Request
  pub replies : List Reply
  -- what it was asked by the broker, and gave
  pub given : List PieceGiven

abbrev pub server_view : Names → ServerPart → Past
server_view n a = viewed n.setup a.fronts a.requests a.replies

-- the groups that it served are right by what it has itself seen
abbrev pub IsGotRight : Names → Past → Query → Piece → PieceGot → Type 0
IsGotRight n view query piece (got.Served served) = IsGivenRight n.setup view query piece served
IsGotRight n view query piece got.NotServed = Unit {0}
IsGotRight n view query piece got.Down = Unit {0}

-- it was asked by a query of the cluster, and what it gave is right
pub record IsGivenOver (n : Names) (view : Past) (g : PieceGiven) : Type 0 where
  pub query : Query
  pub asked : slice_get n.queries g.query ≡ Some query
  pub right : IsGotRight n view query g.piece g.got

pub record IsServerPart (n : Names) (a : ServerPart) : Type 0 where
  pub caller : AreOfCaller (server_caller a.number) a.fronts
  pub instance : a.server.numbers.instance.0 ≡ a.number
  pub view : IsView n.setup (server_view n a)
  pub own : IsOwnServer n.setup (server_view n a) a.server
  pub asks : All (IsOwnRequest n.setup (server_view n a)) a.requests
  pub gives : All (IsGivenOver n (server_view n a)) a.given
  -- it commits nothing, puts nothing and appends nothing
  pub undone : AreUndone (own_writes a.fronts)
  pub puts : own_files a.fronts ≡ []
  pub appends : own_messages a.fronts ≡ []
