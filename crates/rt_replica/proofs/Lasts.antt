-- What lasts of a replica is true of each past that has all of the one it was true of.
use Rattle.std.proofs.Common.{ℕ, List, Option, Some, None}
use Rattle.rt_base.specs.declared.numbers.Instance.{Instance}
use Rattle.rt_base.specs.declared.numbers.Offset.{Offset}
use Rattle.rt_base.specs.declared.numbers.Partition.{Partition}
use Rattle.rt_base.specs.declared.numbers.Sequence.{Sequence}
use Rattle.rt_model.specs.declared.request.RequestKind.{RequestKind}
use Rattle.rt_model.specs.declared.request.RequestNumber.{RequestNumber}
use Rattle.rt_model.specs.declared.sent.Sent.TheVariants as sent
use Rattle.rt_model.specs.declared.setup.Setup.{Setup}
use Rattle.rt_segment.specs.Segment.{SealedSegment}
use Rattle.rt_segment.specs.Spelling.{file_of}
use Rattle.rt_past.specs.Past.{Past, Grows}
use Rattle.rt_past.specs.Segments.{WasDone}
use Rattle.rt_past.specs.View.{Within}
use Rattle.rt_past.proofs.Growth.{begun_as_grows, begun_grows, done_grows, entry_grows, right_file_within, stands_grows, within_grows}
use Rattle.rt_consumer.specs.declared.phase.Phase.{Phase}
use Rattle.rt_consumer.specs.declared.waited.Waited.{Waited}
use Rattle.rt_consumer.specs.declared.consumer.Consumer.{Consumer}
use Rattle.rt_replica.specs.Lasting.{HasUploaded, WasAsked, WaitsFor, IsReplica}
use Rattle.rt_replica.proofs.Holding.{held_grows}
use Rattle.rt_replica.proofs.Told.{told_in_each}

module _ (setup : Setup) (a b : Past) (g : Within a b) (i : Instance) (incarnation : ℕ) (p : Partition) (s : Sequence) where
  pub asked_within : (x : Offset) (number : RequestNumber) (asks : RequestKind) → WasAsked a i incarnation p s x number asks
      → WasAsked b i incarnation p s x number asks
  asked_within x number asks w = record {
    own = w.own;
    request = w.request;
    was_sent = g.sent (sent.Request w.request) w.was_sent;
    numbered = w.numbered;
    segment = w.segment;
    offset = w.offset;
    kind = w.kind;
  }

  pub uploaded_within : (start x : Offset) (built : SealedSegment) (path : List ℕ) → HasUploaded setup a i incarnation p s start x built path
      → HasUploaded setup b i incarnation p s start x built path
  uploaded_within start x built path u = record {
    stands = stands_grows a.files b.files path (file_of built) g.files u.stands;
    right = right_file_within setup a b p s start x (file_of built) g u.right;
    number = u.number;
    asked = asked_within x u.number _ u.asked;
  }

  pub waits_within : (name : List ℕ) (ph : Phase) (waited : Option Waited) → WaitsFor a i incarnation p s name ph waited
      → WaitsFor b i incarnation p s name ph waited
  waits_within name ph None w = tt
  waits_within name ph (Some waited) w = (w.0, asked_within _ _ w.0 w.1, w.2)

pub replica_within : (setup : Setup) (a b : Past) (i : Instance) (incarnation : ℕ) (r : Consumer) → Within a b
    → IsReplica setup a i incarnation r → IsReplica setup b i incarnation r
replica_within setup a b i incarnation r g k =
    let p = r.partition in
    let s = r.sequence in
    record {
      settings = k.settings;
      partition = k.partition;
      assigned = k.assigned;
      entered = entry_grows a.history b.history p s g.history k.entered;
      begun = begun_grows a.history b.history p s r.start g.history k.begun;
      named = begun_as_grows a.history b.history p s r.name g.history k.named;
      held = held_grows a.log b.log r g.log k.held;
      told =
          told_in_each (WasDone a.history p s) (WasDone b.history p s) (HasUploaded setup a i incarnation p s r.start)
          (HasUploaded setup b i incarnation p s r.start) (λ done was. done_grows a.history b.history p s done g.history was)
          (uploaded_within setup a b g i incarnation p s r.start) r.phase k.told;
      waited = waits_within setup a b g i incarnation p s r.name r.phase r.waited k.waited;
    }

pub replica_grows : (setup : Setup) (a b : Past) (i : Instance) (incarnation : ℕ) (r : Consumer) → Grows a b
    → IsReplica setup a i incarnation r → IsReplica setup b i incarnation r
replica_grows setup a b i incarnation r g = replica_within setup a b i incarnation r (within_grows a b g)
