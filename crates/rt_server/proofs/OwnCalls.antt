-- Each call of a server keeps what is its own, over a view that has what the call left.
use Rattle.std.proofs.Common.{◌≡◌, ◌+◌, inl, inr, ℕ, Bool, List, [], Option, Some, None, Result, refl, sym, ap, subst, ◌∙◌, arith}
use Rattle.rt_base.specs.declared.numbers.Moment.{Moment}
use Rattle.rt_base.specs.declared.numbers.Partition.{Partition}
use Rattle.rt_base.specs.declared.numbers.Sequence.{Sequence}
use Rattle.rt_lists.specs.Members.{Has}
use Rattle.rt_stream.specs.Feed.{FeedMeaning}
use Rattle.rt_model.specs.declared.node.Key.TheVariants as key
use Rattle.rt_model.specs.declared.node.Seen.{Seen}
use Rattle.rt_model.specs.declared.reply.Reply.{Reply}
use Rattle.rt_model.specs.declared.sent.Sent.TheVariants as sent
use Rattle.rt_model.specs.declared.setup.Setup.{Setup}
use Rattle.rt_model.specs.Entries.{entries_by}
use Rattle.rt_model.specs.History.{next_version}
use Rattle.rt_store.specs.Calls.{Bumps, Reads}
use Rattle.rt_store.specs.Meaning.{Meaning}
use Rattle.rt_store.proofs.Seeing.{read_seen}
use Rattle.rt_past.specs.Past.{Past}
use Rattle.rt_past.specs.Segments.{IsIncarnation}
use Rattle.rt_consumer.specs.declared.consumer.Consumer.{Consumer}
use Rattle.rt_consumer.specs.Batch.{Consumes}
use Rattle.rt_consumer.specs.Replies.{replied}
use Rattle.rt_consumer.specs.Requests.{Builds, Does, forced, stopped}
use Rattle.rt_entry.specs.declared.entry.Entry.TheVariants.{Replica}
use Rattle.rt_entry.specs.declared.refused.ServerRefused.{ServerRefused}
use Rattle.rt_server.specs.Calls.{Forces, InTable, Restarts, Seals, SeesIdeal, Stops, Takes, answered_by, crashed, in_incarnation, replied_at, replied_in, restarted_in, seen_in, targets_of, with_targets}
use Rattle.rt_server.specs.Kept.{IsServer}
use Rattle.rt_server.specs.Lasting.{IsEmpty}
use Rattle.rt_server.specs.Own.{IsOwnServer}
use Rattle.rt_server.specs.Table.{Segments, ServerState, replica_of, with_table}
use Rattle.rt_server.proofs.Kept.{crashed_is, forces_keep, replies_keep, seals_keep, stops_keep, takes_keep, targets_are}
use Rattle.rt_server.proofs.LastingEntries.{in_table}
use Rattle.rt_server.proofs.OwnPuts.{put_own, replica_own, through_own}
use Rattle.rt_server.proofs.OwnReplicas.{builds_own, consumes_own, forces_own, replies_own, stops_own}
use Rattle.rt_server.proofs.OwnTransits.{KeepsOwn}
use Rattle.rt_server.proofs.SameSegment.{builds_segment, consumes_segment, does_segment, replies_segment}
use Rattle.rt_server.proofs.Stepped.{answered_ok, bumped, came, come, comes_keep, saw}

-- ---- the replicas' calls

module _ (setup : Setup) (view : Past) (old new : ServerState) (p : Partition) (q : Sequence) (only : InTable old new) (k : IsOwnServer setup view old) where
  here : IsOwnServer setup view (with_table old new.table) → IsOwnServer setup view new
  here own = subst (IsOwnServer setup view) (in_table old new only) own

  pub takes_own : (before after : FeedMeaning) (max : ℕ) (now : Moment) (result : Result (Unit {0}) ServerRefused)
      → view.log ≡ after.seen → Takes before after old.table new.table p q max now result → IsOwnServer setup view new
  takes_own before after max now result e h =
      here (through_own setup view old k (after ≡ before) (λ r next answer. Consumes before after r next max now answer) new.table p q result
      (replica_of old.table p q) refl
      (λ r next answer is own c. (
        consumes_segment before after r next max now answer c ∙ own.0,
        consumes_own setup view old.numbers.instance old.numbers.incarnation r own.1 before after next max now answer e c,
      ))
      h (takes_keep old.setup before after old.table new.table p q max now result h k.kept))

  pub forces_kept : (result : Result (Unit {0}) ServerRefused) → Forces old.table new.table p q result → IsOwnServer setup view new
  forces_kept result h =
      here (through_own setup view old k (Unit {0}) (λ r next answer. Does (forced r.phase) r next answer) new.table p q result
      (replica_of old.table p q) refl
      (λ r next answer is own c. (
        does_segment (forced r.phase) r next answer c ∙ own.0,
        forces_own setup view old.numbers.instance old.numbers.incarnation r own.1 next answer c,
      ))
      h (forces_keep old.setup old.table new.table p q result h k.kept))

  pub stops_kept : (result : Result (Unit {0}) ServerRefused) → Stops old.table new.table p q result → IsOwnServer setup view new
  stops_kept result h =
      here (through_own setup view old k (Unit {0}) (λ r next answer. Does (stopped r.phase) r next answer) new.table p q result
      (replica_of old.table p q) refl
      (λ r next answer is own c. (
        does_segment (stopped r.phase) r next answer c ∙ own.0,
        stops_own setup view old.numbers.instance old.numbers.incarnation r own.1 next answer c,
      ))
      h (stops_keep old.setup old.table new.table p q result h k.kept))

  pub seals_kept : (result : Result (Unit {0}) ServerRefused) → Seals old.table new.table p q result → IsOwnServer setup view new
  seals_kept result h =
      here (through_own setup view old k (Unit {0}) (λ r next answer. Builds r next answer) new.table p q result
      (replica_of old.table p q) refl
      (λ r next answer is own c. (
        builds_segment r next answer c ∙ own.0,
        builds_own setup view old.numbers.instance old.numbers.incarnation r own.1 next answer c,
      ))
      h (seals_keep old.setup old.table new.table p q result h k.kept))

-- ---- an answer to a request

abbrev second : Bool × Segments → Segments
second x = x.1

replied_own : (setup : Setup) (view : Past) (s : ServerState) (reply : Reply) (o : Option Consumer) → IsOwnServer setup view s → Has view.sent (sent.Reply reply)
    → replica_of s.table reply.partition reply.sequence ≡ o → IsServer s.setup (replied_at o s.table reply).1
    → IsOwnServer setup view (with_table s (replied_at o s.table reply).1)
replied_own setup view s reply None k taken found kept = k
replied_own setup view s reply (Some r) k taken found kept =
    let held = replica_own setup view s k reply.partition reply.sequence r found in
    let next = replies_own setup view s.numbers.instance s.numbers.incarnation r held.2 reply held.1 taken held.0 in
    put_own setup view s k reply.partition reply.sequence (Replica (replied r reply)) kept (replies_segment r reply ∙ held.0, next)

pub replies_kept : (setup : Setup) (view : Past) (old new : ServerState) (reply : Reply) (result : Bool) → InTable old new → IsOwnServer setup view old
    → Has view.sent (sent.Reply reply) → (result, new.table) ≡ replied_in old.table reply → IsOwnServer setup view new
replies_kept setup view old new reply result only k taken h =
    let is : new.table ≡ (replied_in old.table reply).1 = ap second h in
    let kept : IsServer old.setup new.table = replies_keep old.setup old.table new.table reply result h k.kept in
    let own = replied_own setup view old reply (replica_of old.table reply.partition reply.sequence) k taken refl (subst (IsServer old.setup) is kept) in
    subst (IsOwnServer setup view) (in_table old new only) (subst (λ t. IsOwnServer setup view (with_table old t)) (sym is) own)

-- ---- the ideal state is seen

pub sees_own : (setup : Setup) (view : Past) (before after : Meaning) (old new : ServerState) (result : Result ℕ ServerRefused)
    → view.history ≡ after.seen → IsOwnServer setup view old → SeesIdeal before after old new result → KeepsOwn setup view old new
sees_own setup view before after old new result e k h =
    comes_keep (KeepsOwn setup view old) old new (seen_in old (answered_by h.0)) result (k, refl)
    (λ version step. seen version (saw old new (answered_by h.0) version step)) h.2
  where
    seen : (version : ℕ) → (seen : Seen) × (answered_by h.0 ≡ come Seen seen) × (new ≡ with_targets old (targets_of old.numbers.instance (entries_by seen.node)))
        → KeepsOwn setup view old new
    seen version (w, answered, is) =
        let there = read_seen before after key.Ideal w (subst (Reads before after key.Ideal) (answered_ok Seen h.0 w answered) h.1) in
        let targets = targets_of old.numbers.instance (entries_by w.node) in
        let own : IsOwnServer setup view (with_targets old targets) = record {
          of_setup = k.of_setup;
          kept = targets_are old.setup old.table old.numbers.instance (entries_by w.node) k.kept;
          incarnation = k.incarnation;
          targets = inr (w, record { has = subst (λ (h : List Seen). Has h w) (sym e) there.0; is_ideal = there.1 }, refl);
          entries = k.entries;
        } in
        subst (KeepsOwn setup view old) (sym is) (own, refl)

-- ---- a crash, and a restart after it

abbrev blank : Segments
blank = record { targets = []; entries = [] }

empty_own : (setup : Setup) (view : Past) (s : ServerState) → s.setup ≡ setup → IsServer s.setup blank
    → IsIncarnation view.history s.numbers.instance s.numbers.incarnation → IsOwnServer setup view (with_table s blank)
empty_own setup view s of_setup kept incarnation = record {
  of_setup = of_setup;
  kept = kept;
  incarnation = incarnation;
  targets = inl refl;
  entries = λ x has. absurd has;
}

pub crashed_own : (setup : Setup) (view : Past) (s : ServerState) → IsOwnServer setup view s → IsOwnServer setup view (crashed s)
crashed_own setup view s k = empty_own setup view s k.of_setup (crashed_is s.setup s.table k.kept) k.incarnation

pub restarts_own : (setup : Setup) (view : Past) (before after : Meaning) (old new : ServerState) (result : Result ℕ ServerRefused)
    → view.history ≡ after.seen → IsEmpty old → IsOwnServer setup view old → Restarts before after old new result → IsOwnServer setup view new
restarts_own setup view before after old new result e empty k h =
    comes_keep (IsOwnServer setup view) old new (restarted_in old (answered_by h.0)) result k
    (λ version step. anew (came old new (answered_by h.0) version step)) h.2
  where
    anew : {version : ℕ} → (v : ℕ) × (answered_by h.0 ≡ come ℕ v) × (v ≡ version) × (new ≡ in_incarnation old v) → IsOwnServer setup view new
    anew (v, answered, same, is) =
        let bump_is = bumped before after old.numbers.instance v (subst (Bumps before after old.numbers.instance) (answered_ok ℕ h.0 v answered) h.1) in
        let count : next_version view.history (key.Boot old.numbers.instance) ≡ v + 1 = ap (λ (x : List Seen). next_version x (key.Boot old.numbers.instance)) e ∙ bump_is in
        subst (IsOwnServer setup view) (sym is)
        (subst (λ t. IsOwnServer setup view (with_table (in_incarnation old v) t)) (sym empty)
        (empty_own setup view (in_incarnation old v) k.of_setup (crashed_is old.setup old.table k.kept) (omega (arith, count))))
