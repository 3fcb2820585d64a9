-- What the broker and the servers do for a query.
use Rattle.std.specs.Prelude.{◌≡◌, ℕ, Bool, true, false, Option, Some, None, Result, Ok, Err}
use Rattle.rt_base.specs.declared.numbers.Offset.{Offset}
use Rattle.rt_base.specs.declared.numbers.Partition.{Partition}
use Rattle.rt_broker.specs.Asking.{Asking}
use Rattle.rt_broker.specs.Routing.{Routes as broker_routes}
use Rattle.rt_broker.specs.declared.piece_got.PieceGot.{PieceGot}
use Rattle.rt_broker.specs.declared.refused.BrokerRefused.{BrokerRefused}
use Rattle.rt_events.specs.declared.outcome.Outcome.{Outcome}
use Rattle.rt_model.specs.declared.piece.Piece.{Piece}
use Rattle.rt_model.specs.declared.query.Query.{Query}
use Rattle.rt_server.specs.Serving.{serve}
use Rattle.rt_entry.specs.Serving.{AnswersGroups}
use Rattle.rt_store.specs.Meaning.{Told}
use Rattle.rt_store.specs.Memory.{means}
use Rattle.rt_nodes.specs.declared.server_node.ServerNode.{ServerNode}
use Rattle.rt_events.specs.declared.outcome.Outcome.TheVariants as told
use Rattle.rt_entry.specs.declared.refused.ServeRefused.TheVariants as serving
use Rattle.rt_broker.specs.declared.refused.BrokerRefused.TheVariants as broker
use Rattle.rt_broker.specs.declared.piece_got.PieceGot.TheVariants as got

abbrev pub routed_by : Result ℕ BrokerRefused → Option Outcome
routed_by (Ok pieces) = Some (told.Routed pieces)
routed_by (Err broker.NotDue) = None
routed_by (Err broker.StoreFault) = Some told.Failed
routed_by (Err broker.Memory) = None

-- what a server that is up gives for a piece
abbrev pub GivesUp : ServerNode → Piece → Query → PieceGot → Type 0
GivesUp n piece query (got.Served served) = AnswersGroups query (serve n.server.table piece) (Ok served)
GivesUp n piece query got.NotServed =
    (reached : Option Offset) × (serve n.server.table piece ≡ Err (serving.NotServed reached))
GivesUp n piece query got.Down = ⊥

abbrev pub GivesIf : Bool → ServerNode → Piece → Query → PieceGot → Type 0
GivesIf false n piece query what = what ≡ got.Down
GivesIf true n piece query what = GivesUp n piece query what

abbrev pub Gives : ServerNode → Piece → Query → PieceGot → Type 0
Gives n piece query what = GivesIf n.up n piece query what

abbrev pub piece_outcome : PieceGot → Outcome
piece_outcome (got.Served served) = told.Served served.range
piece_outcome got.NotServed = told.NotServed
piece_outcome got.Down = told.NodeDown

abbrev pub QueryRoutes : Partition → Told → Told → Asking → Asking → Outcome → Type 0
QueryRoutes p before after old new outcome =
    (answer : Result ℕ BrokerRefused) × broker_routes (means before) (means after) old p new answer × (routed_by answer ≡ Some outcome)
