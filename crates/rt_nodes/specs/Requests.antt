-- What a replica asks of the controller.
use Rattle.std.specs.Prelude.{◌≡◌, ℕ, Bool, Ok}
use Rattle.rt_base.specs.declared.numbers.Partition.{Partition}
use Rattle.rt_base.specs.declared.numbers.Sequence.{Sequence}
use Rattle.rt_model.specs.declared.request.Request.{Request}
use Rattle.rt_consumer.specs.Consumer.{extends_in}
use Rattle.rt_consumer.specs.Requests.{asks_now}
use Rattle.rt_consumer.specs.declared.consumer.Consumer.{Consumer}
use Rattle.rt_server.specs.Calls.{Asks, AsksFor}
use Rattle.rt_nodes.specs.declared.server_node.ServerNode.{ServerNode}

-- whether a replica has something to ask
abbrev pub asks_due : Consumer → Bool
asks_due r = asks_now r.phase

-- a server's step that makes a request
abbrev pub AskStep : Type 1
AskStep = ServerNode → ServerNode → Request → Type 0

abbrev pub NodeAsks : Partition → Sequence → AskStep
NodeAsks p q old new request =
    Asks old.server.numbers new.server.numbers old.server.table new.server.table p q (Ok request)
    × (new.server.setup ≡ old.server.setup) × (new.up ≡ old.up)

abbrev pub extends_now : Consumer → Bool
extends_now r = extends_in r.phase

abbrev pub NodeAsksFor : Partition → Sequence → ℕ → AskStep
NodeAsksFor p q millis old new request =
    AsksFor old.server.numbers new.server.numbers millis old.server.table new.server.table p q (Ok request)
    × (new.server.setup ≡ old.server.setup) × (new.up ≡ old.up)
