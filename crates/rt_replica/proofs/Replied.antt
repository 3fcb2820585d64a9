-- What a replica has of its own is kept by an answer that its server took, of whatever past.
use Rattle.std.proofs.Common.{◌≡◌, ℕ, Bool, true, false, cond, inr, List, Option, Some, None, refl, sym, subst}
use Rattle.rt_base.specs.declared.numbers.Instance.{Instance}
use Rattle.rt_base.specs.declared.numbers.Offset.{Offset}
use Rattle.rt_lists.specs.Members.{Has}
use Rattle.rt_model.specs.Messages.{same_number}
use Rattle.rt_model.proofs.Messages.{same_number_true}
use Rattle.rt_model.specs.declared.reply.Reply.{Reply}
use Rattle.rt_model.specs.declared.reply.ReplyStatus.{ReplyStatus}
use Rattle.rt_model.specs.declared.reply.ReplyStatus.TheVariants.{Hold, CatchUp, Keep, Discard, Commit, NotLeader, CommitContinue, UploadSuccess, CommitSuccess, Processed, Failed}
use Rattle.rt_model.specs.declared.request.RequestKind.{RequestKind}
use Rattle.rt_model.specs.declared.request.RequestKind.TheVariants as kind
use Rattle.rt_model.specs.declared.request.RequestNumber.{RequestNumber}
use Rattle.rt_model.specs.declared.seg_meta.SeenMeta.{SeenMeta}
use Rattle.rt_model.specs.declared.sent.Sent.TheVariants as sent
use Rattle.rt_model.specs.declared.setup.Setup.{Setup}
use Rattle.rt_msgs.specs.Numbered.{upload_path}
use Rattle.rt_mutable.specs.Consuming.{Consuming}
use Rattle.rt_segment.specs.Segment.{SealedSegment}
use Rattle.rt_segment.specs.Spelling.{file_of}
use Rattle.rt_past.specs.Past.{Past}
use Rattle.rt_past.specs.View.{Carries}
use Rattle.rt_consumer.specs.declared.phase.Phase.{Phase}
use Rattle.rt_consumer.specs.declared.phase.Phase.TheVariants as phase
use Rattle.rt_consumer.specs.declared.replies.Turn.{Turn}
use Rattle.rt_consumer.specs.declared.replies.Turn.TheVariants.{Stays, Goes}
use Rattle.rt_consumer.specs.declared.stage.Stage.{Stage}
use Rattle.rt_consumer.specs.declared.stage.Stage.TheVariants.{InitialConsuming, CatchingUp, Holding, ConsumingToOnline, Retaining, Building, Starting, Uploading, Ending}
use Rattle.rt_consumer.specs.declared.waited.Waited.{Waited}
use Rattle.rt_consumer.specs.declared.waited.Waited.TheVariants.{Step, Extend}
use Rattle.rt_consumer.specs.declared.consumer.Consumer.{Consumer}
use Rattle.rt_consumer.specs.Consumer.{IsConsumer, cur_in, number_of}
use Rattle.rt_consumer.specs.Requests.{kind_at}
use Rattle.rt_consumer.specs.Replies.{turned, turn_by, replied_to, replied}
use Rattle.rt_replica.specs.HeldSoFar.{IsHeldSoFar}
use Rattle.rt_replica.specs.Lasting.{IsAskedIn, WasAsked, WaitsFor}
use Rattle.rt_replica.specs.Own.{WasTold, IsUp, IsOwnReplica}
use Rattle.rt_replica.proofs.Answered.{MayBear, ToldAfter, UpAt, UpIn, same_kind, some_kind, turn_told, waits_on}
use Rattle.rt_replica.proofs.HoldingSoFar.{replied_held}

module _ (setup : Setup) (view : Past) (i : Instance) (incarnation : ℕ) (r : Consumer) (k : IsOwnReplica setup view i incarnation r)
    (reply : Reply) (taken : Has view.sent (sent.Reply reply)) (of : (reply.partition ≡ r.partition) × (reply.sequence ≡ r.sequence)) where
  abbrev Was : SeenMeta → Type 0
  Was = WasTold view r.partition r.sequence

  abbrev Up : Offset → SealedSegment → List ℕ → Type 0
  Up = IsUp setup view i incarnation r.partition r.sequence r.start

  abbrev After : Turn → Type 0
  After t = ToldAfter Was Up r.phase t

  -- what the answer to an upload tells is that it was answered
  up_at : (rows : Consuming) (stage : Stage) (asks : RequestKind) → WasAsked view i incarnation r.partition r.sequence rows.end reply.number asks
      → (number : RequestNumber) → kind_at r.name number stage ≡ some_kind asks → (path : List ℕ) → reply.status ≡ UploadSuccess path → UpAt Up rows.end stage path
  up_at rows (Uploading reason built) asks asked number is path e =
      let own = upload_path r.name number in
      inr (record {
        reply = reply;
        taken = taken;
        status = e;
        own = own;
        asked = subst (WasAsked view i incarnation r.partition r.sequence rows.end reply.number) (sym (same_kind (kind.Upload own (file_of built)) asks is)) asked;
      })
  up_at rows InitialConsuming asks asked number is path e = tt
  up_at rows (CatchingUp target reason) asks asked number is path e = tt
  up_at rows (Holding reason) asks asked number is path e = tt
  up_at rows (ConsumingToOnline end done) asks asked number is path e = tt
  up_at rows (Retaining done) asks asked number is path e = tt
  up_at rows (Building reason) asks asked number is path e = tt
  up_at rows (Starting reason built) asks asked number is path e = tt
  up_at rows (Ending reason built old) asks asked number is path e = tt

  up_in : (ph : Phase) (w : Waited) (asks : RequestKind) → WasAsked view i incarnation r.partition r.sequence (cur_in ph) reply.number asks
      → IsAskedIn r.name ph w asks → (path : List ℕ) → reply.status ≡ UploadSuccess path → UpIn Up ph w path
  up_in (phase.Unsealed o) (Step number) asks asked is path e = up_at o.rows o.stage asks asked number is path e
  up_in (phase.Unsealed o) (Extend number) asks asked is path e = tt
  up_in (phase.Retained kept) w asks asked is path e = tt
  up_in (phase.Committed kept) w asks asked is path e = tt
  up_in (phase.Discarded d) w asks asked is path e = tt

  bears : (At : List ℕ → Type 0) (status : ReplyStatus) → reply.status ≡ status → ((path : List ℕ) → reply.status ≡ UploadSuccess path → At path) → MayBear Was At status
  bears At (Keep seen) e up = inr (record { reply = reply; taken = taken; segment = of; carries = subst (λ z. Carries z seen) (sym e) refl })
  bears At (CommitSuccess seen) e up = inr (record { reply = reply; taken = taken; segment = of; carries = subst (λ z. Carries z seen) (sym e) refl })
  bears At (UploadSuccess path) e up = up path e
  bears At Hold e up = tt
  bears At (CatchUp o) e up = tt
  bears At Discard e up = tt
  bears At (Commit o) e up = tt
  bears At NotLeader e up = tt
  bears At CommitContinue e up = tt
  bears At Processed e up = tt
  bears At (Failed cause) e up = tt

  turned_own : (t : Turn) → After t → IsHeldSoFar view.log (turned r t) → IsOwnReplica setup view i incarnation (turned r t)
  turned_own (Stays ph) told held = record {
    settings = k.settings;
    partition = k.partition;
    placed = k.placed;
    begun = k.begun;
    named = k.named;
    held = held;
    told = told.0;
    waited = waits_on view i incarnation r.partition r.sequence r.name r.phase ph r.waited told.1 k.waited;
  }
  turned_own (Goes ph) told held = record {
    settings = k.settings;
    partition = k.partition;
    placed = k.placed;
    begun = k.begun;
    named = k.named;
    held = held;
    told = told;
    waited = tt;
  }

  turned_if : (b : Bool) (t : Turn) → (b ≡ true → After t) → IsHeldSoFar view.log (cond b (turned r t) r) → IsOwnReplica setup view i incarnation (cond b (turned r t) r)
  turned_if true t told held = turned_own t (told refl) held
  turned_if false t told held = k

  replied_to_own : (w : Option Waited) → WaitsFor view i incarnation r.partition r.sequence r.name r.phase w → IsHeldSoFar view.log (replied_to r w reply) → IsOwnReplica setup view i incarnation (replied_to r w reply)
  replied_to_own None waits held = k
  replied_to_own (Some w) waits held =
      turned_if (same_number (number_of w) reply.number) (turn_by r.phase w reply.status)
      (λ same.
      let asked = subst (λ n. WasAsked view i incarnation r.partition r.sequence (cur_in r.phase) n waits.0) (same_number_true (number_of w) reply.number same) waits.1 in
      turn_told Was Up r.phase w reply.status (bears (UpIn Up r.phase w) reply.status refl (up_in r.phase w waits.0 asked waits.2)) k.told)
      held

  pub replied_own : IsConsumer r → IsOwnReplica setup view i incarnation (replied r reply)
  replied_own c = replied_to_own r.waited k.waited (replied_held r reply view.log c k.held)
