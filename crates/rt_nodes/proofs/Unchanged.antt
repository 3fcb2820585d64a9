-- A refused call leaves a server whole as it was, and one that ran out of memory nothing in a store.
use Rattle.std.proofs.Common.{◌≡◌, ℕ, Option, Some, None, Result, Ok, Err, ap, ◌∙◌}
use Rattle.rt_base.specs.declared.numbers.Moment.{Moment}
use Rattle.rt_base.specs.declared.numbers.Partition.{Partition}
use Rattle.rt_base.specs.declared.numbers.Sequence.{Sequence}
use Rattle.rt_broker.proofs.Telling.{ran_out_now}
use Rattle.rt_broker.specs.Asking.{Asking}
use Rattle.rt_broker.specs.Routing.{Routes}
use Rattle.rt_broker.specs.declared.refused.BrokerRefused.TheVariants as broker
use Rattle.rt_consumer.specs.Requests.{Extends, Requests}
use Rattle.rt_consumer.specs.declared.consumer.Consumer.{Consumer}
use Rattle.rt_consumer.specs.declared.refused.ReplicaRefused.{ReplicaRefused}
use Rattle.rt_consumer.specs.declared.refused.ReplicaRefused.TheVariants as replica
use Rattle.rt_deep.specs.Meaning as deep
use Rattle.rt_entry.specs.Calls.{ReplicaCall, answered_as}
use Rattle.rt_entry.specs.declared.refused.ServerRefused.{ServerRefused}
use Rattle.rt_entry.specs.declared.refused.ServerRefused.TheVariants.{Memory}
use Rattle.rt_model.specs.declared.request.Request.{Request}
use Rattle.rt_nodes.proofs.Standing.{not_refused, refuse}
use Rattle.rt_nodes.proofs.Taking.{table_alone}
use Rattle.rt_repair.proofs.Telling.{out_alone}
use Rattle.rt_schema.specs.declared.schema.Schema.{Schema}
use Rattle.rt_server.proofs.Unchanged.{asks_for_stay, asks_stay, downloads_stay, forces_stay, restarts_stay, seals_stay, stops_stay, takes_stay}
use Rattle.rt_server.specs.Calls.{Asks, AsksFor, Forces, InTable, Restarts, Seals, Stops, Takes, ThroughAt}
use Rattle.rt_server.specs.Download.{Downloads}
use Rattle.rt_server.specs.Table.{Segments, ServerState, replica_of, with_table}
use Rattle.rt_store.specs.Meaning.{Told}
use Rattle.rt_store.specs.Memory.{means}
use Rattle.rt_stream.specs.Feed.{FeedMeaning}

-- ---- memory ran out before a write, or in its call

pub restarts_whole : (t u : Told) (old new : ServerState) (e : ServerRefused) → Restarts (means t) (means u) old new (Err e) → e ≡ Memory
    → (new ≡ old) × (u ≡ t)
restarts_whole t u old new e h out = let stays = restarts_stay (means t) (means u) old new e h in (stays.0, out_alone t u (stays.1 out))

pub routes_out : (t u : Told) (a b : Asking) (p : Partition) → Routes (means t) (means u) a p b (Err broker.Memory) → (b ≡ a) × (u ≡ t)
routes_out t u a b p h = let out = ran_out_now t u a b p h in (out.asked, out.store)

-- ---- a call that changes the table alone

module _ (old new : ServerState) (p : Partition) (q : Sequence) (e : ServerRefused) where
  whole : InTable old new → new.table ≡ old.table → new ≡ old
  whole others same = table_alone old new others ∙ ap (λ (t : Segments). with_table old t) same

  pub takes_whole : (before after : FeedMeaning) (max : ℕ) (now : Moment) → Takes before after old.table new.table p q max now (Err e) → InTable old new → new ≡ old
  takes_whole before after max now h others = whole others (takes_stay before after old.table new.table p q max now e h)

  pub forces_whole : Forces old.table new.table p q (Err e) → InTable old new → new ≡ old
  forces_whole h others = whole others (forces_stay old.table new.table p q e h)

  pub stops_whole : Stops old.table new.table p q (Err e) → InTable old new → new ≡ old
  stops_whole h others = whole others (stops_stay old.table new.table p q e h)

  pub seals_whole : Seals old.table new.table p q (Err e) → InTable old new → new ≡ old
  seals_whole h others = whole others (seals_stay old.table new.table p q e h)

  pub downloads_whole : (before after : deep.Meaning) (schema : Schema) → Downloads before after schema old.table new.table p q (Err e) → InTable old new → new ≡ old
  downloads_whole before after schema h others = whole others (downloads_stay before after schema old.table new.table p q e h)

  -- ---- a request, which draws no number where it is refused

  undrawn : (call : ReplicaCall Request) (o : Option Consumer)
      → ((r next : Consumer) (x : ReplicaRefused) → call r next (Err x) → new.numbers ≡ old.numbers)
      → ThroughAt o (new.numbers ≡ old.numbers) call old.table new.table p q (Err e) → new.numbers ≡ old.numbers
  undrawn call None draws h = h.0
  undrawn call (Some r) draws h = by_answer h.1 h.2 h.3
    where
      by_answer : (a : Result Request ReplicaRefused) → call r h.0 a → refuse Request e ≡ answered_as a → new.numbers ≡ old.numbers
      by_answer (Ok x) k is = absurd (not_refused Request e x is)
      by_answer (Err x) k is = draws r h.0 x k

  requests_undrawn : (r next : Consumer) (x : ReplicaRefused) → Requests r next old.numbers new.numbers (Err x) → new.numbers ≡ old.numbers
  requests_undrawn r next replica.NotDue h = h.2
  requests_undrawn r next replica.Memory h = h.2

  extends_undrawn : (millis : ℕ) (r next : Consumer) (x : ReplicaRefused) → Extends r next old.numbers new.numbers millis (Err x) → new.numbers ≡ old.numbers
  extends_undrawn millis r next replica.NotDue h = h.2
  extends_undrawn millis r next replica.Memory h = absurd h

  pub asks_whole : Asks old.numbers new.numbers old.table new.table p q (Err e) → new.setup ≡ old.setup → new ≡ old
  asks_whole h setup =
      whole (setup, undrawn (λ r next answer. Requests r next old.numbers new.numbers answer) (replica_of old.table p q) requests_undrawn h)
      (asks_stay old.numbers new.numbers old.table new.table p q e h)

  pub asks_for_whole : (millis : ℕ) → AsksFor old.numbers new.numbers millis old.table new.table p q (Err e) → new.setup ≡ old.setup → new ≡ old
  asks_for_whole millis h setup =
      whole (setup, undrawn (λ r next answer. Extends r next old.numbers new.numbers millis answer) (replica_of old.table p q) (extends_undrawn millis) h)
      (asks_for_stay old.numbers new.numbers millis old.table new.table p q e h)
