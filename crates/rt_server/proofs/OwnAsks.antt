-- What a server asks is its own, and what is its own is kept as that is sent.
use Rattle.std.proofs.Common.{◌≡◌, ℕ, Option, Some, None, Ok, refl, sym, ap, subst, ◌∙◌}
use Rattle.rt_base.specs.declared.numbers.Partition.{Partition}
use Rattle.rt_base.specs.declared.numbers.Sequence.{Sequence}
use Rattle.rt_model.specs.declared.request.Request.{Request}
use Rattle.rt_model.specs.declared.request.RequestNumber.{RequestNumber}
use Rattle.rt_model.specs.declared.setup.Setup.{Setup}
use Rattle.rt_msgs.specs.Numbered.{number_at}
use Rattle.rt_past.specs.Past.{Past, with_request}
use Rattle.rt_past.specs.View.{Within}
use Rattle.rt_past.proofs.Growth.{within_grows}
use Rattle.rt_consumer.specs.declared.consumer.Consumer.{Consumer}
use Rattle.rt_consumer.specs.declared.waited.Waited.{Waited}
use Rattle.rt_consumer.specs.declared.waited.Waited.TheVariants.{Step, Extend}
use Rattle.rt_consumer.specs.Consumer.{extends_in}
use Rattle.rt_consumer.specs.Requests.{Extends, Requests, request_with}
use Rattle.rt_replica.specs.Own.{IsOwnReplica, IsOwnRequest}
use Rattle.rt_replica.proofs.Asking.{step_asked}
use Rattle.rt_replica.proofs.KeepsOwn.{extend_own, request_own, waits_own}
use Rattle.rt_entry.specs.declared.entry.Entry.TheVariants.{Replica}
use Rattle.rt_entry.specs.declared.refused.ServerRefused.TheVariants.{NotDue}
use Rattle.rt_server.specs.Calls.{Asks, AsksFor, ThroughAt}
use Rattle.rt_server.specs.Kept.{IsServer}
use Rattle.rt_server.specs.Own.{HasOwnAsked, IsOwnEntry, IsOwnServer}
use Rattle.rt_server.specs.Table.{Segment, Segments, ServerState, put_back, replica_of, segment_of, with_table}
use Rattle.rt_server.proofs.Kept.{asks_for_keep, asks_keep}
use Rattle.rt_server.proofs.LastingAsks.{AsksThis, answered, answered_ok, given, more_is, next_of, no_answer, request_grows, server_of}
use Rattle.rt_server.proofs.OwnGrows.{own_server_grows}
use Rattle.rt_server.proofs.OwnPuts.{put_own, replica_own}

request_within : (view : Past) (q : Request) → Within view (with_request view q)
request_within view q = within_grows view (with_request view q) (request_grows view q)

module _ (setup : Setup) (view : Past) (old : ServerState) (k : IsOwnServer setup view old) where
  abbrev the_number : RequestNumber
  the_number = number_at old.numbers old.numbers.made

  -- a server that made a number more
  counted_own : (later : Past) (t : Segments) → IsOwnServer setup later (with_table old t) → IsOwnServer setup later (server_of old.setup (next_of old.numbers) t)
  counted_own later t s = record { of_setup = s.of_setup; kept = s.kept; incarnation = s.incarnation; targets = s.targets; entries = s.entries }

  asked_own : (p : Partition) (q : Sequence) (new : ServerState) (w : Waited) (r next : Consumer) (request : Request) → replica_of old.table p q ≡ Some r
      → AsksThis the_number w r next old.numbers new.numbers request → IsOwnRequest setup view request → new.table ≡ put_back old.table p q (Replica next)
      → new.setup ≡ old.setup → IsServer old.setup new.table → HasOwnAsked setup view old new p q request
  asked_own p q new w r next request found asks own put of kept =
      let later = with_request view request in
      let held = replica_own setup view old k p q r found in
      let s = own_server_grows setup view later (request_within view request) old k in
      let n = old.numbers in
      let waiting : IsOwnReplica setup later n.instance n.incarnation (record r { waited = Some w }) =
      subst (λ x. IsOwnReplica setup (with_request view x) n.instance n.incarnation (record r { waited = Some w })) (sym asks.asked)
      (waits_own setup view n.instance n.incarnation r the_number request.kind w held.2 refl refl asks.numbered asks.due
      (request_within view (request_with r the_number request.kind))) in
      let entry : IsOwnEntry setup later n.instance n.incarnation (p, q) (Replica next) =
      (ap segment_of asks.waits ∙ held.0, subst (IsOwnReplica setup later n.instance n.incarnation) (sym asks.waits) waiting) in
      let table = put_back old.table p q (Replica next) in
      let now = counted_own later table (put_own setup later old s p q (Replica next) (subst (IsServer old.setup) put kept) entry) in
      let same : server_of old.setup (next_of old.numbers) table ≡ new =
      ap (λ x. server_of x (next_of old.numbers) table) (sym of) ∙ ap (λ x. server_of new.setup x table) (sym asks.numbers) ∙ ap (λ x. server_of new.setup new.numbers x) (sym put) in
      record {
        asked = own;
        number = ap (λ (x : Request). x.number) asks.asked;
        segment = (
          ap (λ (x : Request). x.partition) asks.asked ∙ ap (λ (x : Segment). x.0) held.0,
          ap (λ (x : Request). x.sequence) asks.asked ∙ ap (λ (x : Segment). x.1) held.0,
        );
        numbers = asks.numbers;
        server = subst (IsOwnServer setup later) same now;
      }

module _ (setup : Setup) (view : Past) (old new : ServerState) (p : Partition) (q : Sequence) (request : Request) (k : IsOwnServer setup view old)
    (of : new.setup ≡ old.setup) where
  abbrev number : RequestNumber
  number = number_at old.numbers old.numbers.made

  asks_at : (o : Option Consumer) → replica_of old.table p q ≡ o
      → ThroughAt o (new.numbers ≡ old.numbers) (λ r next answer. Requests r next old.numbers new.numbers answer) old.table new.table p q (answered request)
      → IsServer old.setup new.table → HasOwnAsked setup view old new p q request
  asks_at None found h kept = absurd (no_answer NotDue request h.1)
  asks_at (Some r) found h kept =
      let c : Requests r h.0 old.numbers new.numbers (given request) =
      subst (Requests r h.0 old.numbers new.numbers) (answered_ok h.1 request h.3) h.2 in
      let is = replica_own setup view old k p q r found in
      let own = request_own setup view old.numbers.instance old.numbers.incarnation r is.1 is.2 number refl refl request.kind c.0 in
      asked_own setup view old k p q new (Step number) r h.0 request found
      (record { numbered = refl; asked = c.1; waits = c.2; due = step_asked r.name r.phase number request.kind c.0; numbers = c.3 })
      (subst (IsOwnRequest setup view) (sym c.1) own) h.4 of kept

  asks_for_at : (millis : ℕ) (o : Option Consumer) → replica_of old.table p q ≡ o
      → ThroughAt o (new.numbers ≡ old.numbers) (λ r next answer. Extends r next old.numbers new.numbers millis answer) old.table new.table p q (answered request)
      → IsServer old.setup new.table → HasOwnAsked setup view old new p q request
  asks_for_at millis None found h kept = absurd (no_answer NotDue request h.1)
  asks_for_at millis (Some r) found h kept =
      let c : Extends r h.0 old.numbers new.numbers millis (given request) =
      subst (Extends r h.0 old.numbers new.numbers millis) (answered_ok h.1 request h.3) h.2 in
      let is = replica_own setup view old k p q r found in
      let more = more_is (extends_in r.phase) millis request.kind c.0 in
      let own = extend_own setup view old.numbers.instance old.numbers.incarnation r is.1 is.2 number refl refl millis more.0 in
      asked_own setup view old k p q new (Extend number) r h.0 request found
      (record { numbered = refl; asked = c.1; waits = c.2; due = (millis, sym more.1); numbers = c.3 })
      (subst (IsOwnRequest setup view) (ap (request_with r number) more.1 ∙ sym c.1) own) h.4 of kept

  pub asks_own : Asks old.numbers new.numbers old.table new.table p q (Ok request) → HasOwnAsked setup view old new p q request
  asks_own h = asks_at (replica_of old.table p q) refl h (asks_keep old.setup old.numbers new.numbers old.table new.table p q (answered request) h k.kept)

  pub asks_for_own : (millis : ℕ) → AsksFor old.numbers new.numbers millis old.table new.table p q (Ok request) → HasOwnAsked setup view old new p q request
  asks_for_own millis h =
      asks_for_at millis (replica_of old.table p q) refl h
      (asks_for_keep old.setup old.numbers new.numbers millis old.table new.table p q (answered request) h k.kept)
