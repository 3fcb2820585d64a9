-- Each call of a server keeps what lasts of it, over a right past that has what the call left: what lasts is its own, the call keeps that, and over a right
-- past what is its own is all that lasts.
use Rattle.std.proofs.Common.{◌≡◌, ◌<◌, ◌≤◌, ◌^◌, ℕ, Bool, [], ◌∷◌, length, Result, Ok, refl, sym, ap, subst, arith}
use Rattle.std.proofs.lemmas.List.{length-append}
use Rattle.rt_base.specs.declared.numbers.Instance.{Instance}
use Rattle.rt_base.specs.declared.numbers.Moment.{Moment}
use Rattle.rt_base.specs.declared.numbers.Partition.{Partition}
use Rattle.rt_base.specs.declared.numbers.Sequence.{Sequence}
use Rattle.rt_lists.specs.Members.{Has}
use Rattle.rt_deep.specs.Meaning.{Meaning as DeepMeaning}
use Rattle.rt_stream.specs.Feed.{FeedMeaning}
use Rattle.rt_model.specs.declared.replica_state.ReplicaState.{ReplicaState}
use Rattle.rt_model.specs.declared.reply.Reply.{Reply}
use Rattle.rt_model.specs.declared.request.Request.{Request}
use Rattle.rt_model.specs.declared.request.RequestNumber.{RequestNumber}
use Rattle.rt_model.specs.declared.sent.Sent.TheVariants as sent
use Rattle.rt_model.specs.declared.setup.Setup.{Setup}
use Rattle.rt_msgs.specs.Numbered.{Numbered}
use Rattle.rt_store.specs.Meaning.{Meaning}
use Rattle.rt_past.specs.Past.{Past, with_request}
use Rattle.rt_past.specs.IsPast.{IsPast}
use Rattle.rt_past.specs.Requests.{AreDrawn, IsRequest}
use Rattle.rt_past.specs.Segments.{IsIncarnation}
use Rattle.rt_past.proofs.Sound.{past_sound}
use Rattle.rt_replica.proofs.ReadBack.{request_back}
use Rattle.rt_entry.specs.declared.refused.ServerRefused.{ServerRefused}
use Rattle.rt_server.specs.Calls.{Asks, AsksFor, Forces, InTable, Restarts, Seals, SeesIdeal, Stops, Takes, Transits, answered_by, crashed, replied_in, restarted_in}
use Rattle.rt_server.specs.Download.{Downloads}
use Rattle.rt_server.specs.Lasting.{HasAsked, IsEmpty, IsServerOver}
use Rattle.rt_server.specs.Own.{HasOwnAsked, IsOwnServer}
use Rattle.rt_server.specs.Table.{ServerState}
use Rattle.rt_server.proofs.LastingEntries.{Keeps}
use Rattle.rt_server.proofs.LastingNeeds.{request_sends}
use Rattle.rt_server.proofs.LastingTargets.{target_place}
use Rattle.rt_server.proofs.OwnAsks.{asks_for_own, asks_own}
use Rattle.rt_server.proofs.OwnCalls.{crashed_own, forces_kept, replies_kept, restarts_own, seals_kept, sees_own, stops_kept, takes_own}
use Rattle.rt_server.proofs.OwnDownloads.{downloads_own}
use Rattle.rt_server.proofs.OwnTransits.{KeepsOwn, transits_own}
use Rattle.rt_server.proofs.ReadBack.{server_back, server_forget}
use Rattle.rt_server.proofs.Stepped.{came, comes_keep}

module _ (setup : Setup) (past : Past) (right : IsPast setup past) (old : ServerState) (k : IsServerOver setup past old) where
  own : IsOwnServer setup past old
  own = server_forget setup past old k

  -- no number was made
  lasts : (new : ServerState) → new.numbers ≡ old.numbers → IsOwnServer setup past new → IsServerOver setup past new
  lasts new same now =
      server_back setup past right new now
      (subst (λ (n : Numbered). n.instance.0 < setup.servers) (sym same) k.exists)
      (subst (λ (n : Numbered). n.made ≤ length past.sent) (sym same) k.counted)

  keeps : (new : ServerState) → KeepsOwn setup past old new → Keeps setup past old new
  keeps new kept = (lasts new kept.1 kept.0, kept.1)

  -- ---- a server's own calls

  -- the same instance, which has made no more numbers
  abbrev NoMore : ServerState → Type 0
  NoMore s = (s.numbers.instance ≡ old.numbers.instance) × (s.numbers.made ≤ old.numbers.made)

  module _ (before after : Meaning) (new : ServerState) (shown : past.history ≡ after.seen) where
    pub sees_keep : (result : Result ℕ ServerRefused) → SeesIdeal before after old new result → Keeps setup past old new
    sees_keep result h = keeps new (sees_own setup past before after old new result shown own h)

    pub transits_keep : (p : Partition) (q : Sequence) (now : Moment) (result : Result ReplicaState ServerRefused) → Transits before after old new p q now result
        → Keeps setup past old new
    transits_keep p q now result h =
        keeps new
        (transits_own setup past before after old new p q now result shown (past_sound setup past right).view
        (λ mode target. (target_place setup past old p q mode right k target).partition) own h)

    -- a later incarnation has made no number
    pub restarts_over : (result : Result ℕ ServerRefused) → IsEmpty old → Restarts before after old new result → IsServerOver setup past new
    restarts_over result empty h =
        let numbers = comes_keep NoMore old new (restarted_in old (answered_by h.0)) result (refl, omega arith)
        (λ version step. subst NoMore (sym (came old new (answered_by h.0) version step).3) (refl, omega arith)) h.2 in
        server_back setup past right new (restarts_own setup past before after old new result shown empty own h)
        (subst (λ (i : Instance). i.0 < setup.servers) (sym numbers.0) k.exists) (omega (arith, numbers.1, k.counted))

  pub downloads_over : (before after : DeepMeaning) (new : ServerState) (p : Partition) (q : Sequence) → past.files ≡ after.seen → (result : Result ℕ ServerRefused)
      → Downloads before after old.setup.schema old.table new.table p q result → InTable old new → IsServerOver setup past new
  downloads_over before after new p q shown result h only =
      lasts new only.1 (downloads_own setup past before after old new p q shown own result h only)

  pub crashed_over : IsServerOver setup past (crashed old)
  crashed_over = lasts (crashed old) refl (crashed_own setup past old own)

  -- ---- its replicas' calls

  module _ (new : ServerState) (only : InTable old new) where
    pub replies_over : (reply : Reply) (result : Bool) → Has past.sent (sent.Reply reply) → (result, new.table) ≡ replied_in old.table reply → IsServerOver setup past new
    replies_over reply result was_sent h = lasts new only.1 (replies_kept setup past old new reply result only own was_sent h)

    module _ (p : Partition) (q : Sequence) (result : Result (Unit {0}) ServerRefused) where
      pub takes_over : (before after : FeedMeaning) (max : ℕ) (now : Moment) → past.log ≡ after.seen → Takes before after old.table new.table p q max now result
          → IsServerOver setup past new
      takes_over before after max now shown h = lasts new only.1 (takes_own setup past old new p q only own before after max now result shown h)

      pub forces_over : Forces old.table new.table p q result → IsServerOver setup past new
      forces_over h = lasts new only.1 (forces_kept setup past old new p q only own result h)

      pub stops_over : Stops old.table new.table p q result → IsServerOver setup past new
      stops_over h = lasts new only.1 (stops_kept setup past old new p q only own result h)

      pub seals_over : Seals old.table new.table p q result → IsServerOver setup past new
      seals_over h = lasts new only.1 (seals_kept setup past old new p q only own result h)

  -- ---- what it asks

  module _ (new : ServerState) (p : Partition) (q : Sequence) (request : Request) (drawn : AreDrawn past.sent old.numbers) (small : old.numbers.made < 2 ^ 63)
      (of : new.setup ≡ old.setup) where
    asked_right : HasOwnAsked setup past old new p q request → IsRequest setup past request
    asked_right asked =
        request_back setup past right request asked.asked
        (subst (λ (n : RequestNumber). IsIncarnation past.history n.instance n.incarnation) (sym asked.number) k.incarnation)
        (omega (arith, small, ap (λ (n : RequestNumber). n.count) asked.number))

    asked_over : HasOwnAsked setup past old new p q request → HasAsked setup past old new p q request
    asked_over asked = record {
      right = asked_right asked;
      number = asked.number;
      segment = asked.segment;
      numbers = asked.numbers;
      server =
          server_back setup (with_request past request) (request_sends setup past request old.numbers right drawn (asked_right asked) asked.number).1 new asked.server
          (subst (λ (n : Numbered). n.instance.0 < setup.servers) (sym asked.numbers) k.exists)
          (omega (arith, ap (λ (n : Numbered). n.made) asked.numbers, k.counted, length-append past.sent (sent.Request request ∷ [])));
    }

    pub asks_over : Asks old.numbers new.numbers old.table new.table p q (Ok request) → HasAsked setup past old new p q request
    asks_over h = asked_over (asks_own setup past old new p q request own of h)

    pub asks_for_over : (millis : ℕ) → AsksFor old.numbers new.numbers millis old.table new.table p q (Ok request) → HasAsked setup past old new p q request
    asks_for_over millis h = asked_over (asks_for_own setup past old new p q request own of millis h)
