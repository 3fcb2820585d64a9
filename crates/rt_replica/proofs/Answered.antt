-- What an answer makes of what a replica was told, and of what it waits for.
use Rattle.std.proofs.Common.{◌≡◌, ◌<◌, ◌==◌, ℕ, Bool, true, false, cond, nat_lt, List, Option, Some, None, refl, sym, ap, subst, ◌∙◌}
use Rattle.rt_base.specs.declared.numbers.Instance.{Instance}
use Rattle.rt_base.specs.declared.numbers.Offset.{Offset}
use Rattle.rt_base.specs.declared.numbers.Partition.{Partition}
use Rattle.rt_base.specs.declared.numbers.Sequence.{Sequence}
use Rattle.rt_mutable.specs.Consuming.{Consuming}
use Rattle.rt_segment.specs.Segment.{SealedSegment}
use Rattle.rt_segment.specs.Spelling.{file_of}
use Rattle.rt_model.specs.declared.node.Seen.{Seen}
use Rattle.rt_model.specs.declared.reply.ReplyStatus.{ReplyStatus}
use Rattle.rt_model.specs.declared.reply.ReplyStatus.TheVariants.{Hold, CatchUp, Keep, Discard, Commit, NotLeader, CommitContinue, UploadSuccess, CommitSuccess, Processed, Failed}
use Rattle.rt_model.specs.declared.request.Reason.{Reason}
use Rattle.rt_model.specs.declared.request.RequestKind.{RequestKind}
use Rattle.rt_model.specs.declared.request.RequestKind.TheVariants as kind
use Rattle.rt_model.specs.declared.request.RequestNumber.{RequestNumber}
use Rattle.rt_model.specs.declared.seg_meta.SeenMeta.{SeenMeta}
use Rattle.rt_model.specs.declared.setup.Setup.{Setup}
use Rattle.rt_model.specs.Chain.{start_by}
use Rattle.rt_store.specs.Contents.{starting_of}
use Rattle.rt_model.proofs.Lawful.{has_chains}
use Rattle.rt_past.specs.Past.{Past}
use Rattle.rt_past.specs.Files.{IsRightFile, Stands}
use Rattle.rt_past.specs.IsPast.{IsPast}
use Rattle.rt_past.specs.Replies.{IsStatus}
use Rattle.rt_past.specs.Requests.{IsKind}
use Rattle.rt_past.specs.Segments.{IsBegun}
use Rattle.rt_consumer.specs.declared.phase.Discarded.{Discarded}
use Rattle.rt_consumer.specs.declared.phase.Phase.{Phase}
use Rattle.rt_consumer.specs.declared.phase.Phase.TheVariants as phase
use Rattle.rt_consumer.specs.declared.replies.Turn.{Turn}
use Rattle.rt_consumer.specs.declared.replies.Turn.TheVariants.{Stays, Goes}
use Rattle.rt_consumer.specs.declared.stage.Stage.{Stage}
use Rattle.rt_consumer.specs.declared.stage.Stage.TheVariants.{InitialConsuming, CatchingUp, Holding, ConsumingToOnline, Retaining, Building, Starting, Uploading, Ending}
use Rattle.rt_consumer.specs.declared.waited.Waited.{Waited}
use Rattle.rt_consumer.specs.declared.waited.Waited.TheVariants.{Step, Extend}
use Rattle.rt_consumer.specs.Consumer.{at, cur_in, ends_at, number_of}
use Rattle.rt_consumer.specs.Replies.{consumed, continued, uploaded, ended, answered_at, answered, extended_at, extended, is_processed, turn_by}
use Rattle.rt_replica.specs.Lasting.{HasUploaded, IsAskedIn, ToldAt, ToldIn, WaitsFor, WasAsked}

-- what an answer may carry: a commit that was written, and the path of an upload
abbrev pub MayBear : (SeenMeta → Type 0) → (List ℕ → Type 0) → ReplyStatus → Type 0
MayBear Was At (Keep seen) = Was seen
MayBear Was At (CommitSuccess seen) = Was seen
MayBear Was At (UploadSuccess path) = At path
MayBear Was At Hold = Unit {0}
MayBear Was At (CatchUp t) = Unit {0}
MayBear Was At Discard = Unit {0}
MayBear Was At (Commit o) = Unit {0}
MayBear Was At NotLeader = Unit {0}
MayBear Was At CommitContinue = Unit {0}
MayBear Was At Processed = Unit {0}
MayBear Was At (Failed cause) = Unit {0}

-- what a path tells that answers the request of a stage: the built file is there, if that was uploaded
abbrev pub UpAt : (Offset → SealedSegment → List ℕ → Type 0) → Offset → Stage → List ℕ → Type 0
UpAt Up x (Uploading reason built) path = Up x built path
UpAt Up x InitialConsuming path = Unit {0}
UpAt Up x (CatchingUp target reason) path = Unit {0}
UpAt Up x (Holding reason) path = Unit {0}
UpAt Up x (ConsumingToOnline end done) path = Unit {0}
UpAt Up x (Retaining done) path = Unit {0}
UpAt Up x (Building reason) path = Unit {0}
UpAt Up x (Starting reason built) path = Unit {0}
UpAt Up x (Ending reason built old) path = Unit {0}

abbrev pub UpIn : (Offset → SealedSegment → List ℕ → Type 0) → Phase → Waited → List ℕ → Type 0
UpIn Up (phase.Unsealed o) (Step number) path = UpAt Up o.rows.end o.stage path
UpIn Up (phase.Unsealed o) (Extend number) path = Unit {0}
UpIn Up (phase.Retained kept) w path = Unit {0}
UpIn Up (phase.Committed kept) w path = Unit {0}
UpIn Up (phase.Discarded d) w path = Unit {0}

-- a segment is begun from one offset
pub one_start : (setup : Setup) (past : Past) (p : Partition) (s : Sequence) (a b : Offset) → IsPast setup past → p.0 < setup.partitions
    → IsBegun past.history p s a → IsBegun past.history p s b → a ≡ b
one_start setup past p s a b k within (v, hv, ov, sv) (w, hw, ow, sw) =
    let chain = has_chains (starting_of setup) past.history k.lawful p within in
    let same : v ≡ w = chain.once s.0 v w (record { has = hv; is_of = ov; starts = sv.0 }) (record { has = hw; is_of = ow; starts = sw.0 }) in
    ap (λ n. record { 0 = n }) (sym sv.1 ∙ ap (λ (z : Seen). start_by z.node) same ∙ sw.1)

upload_paths : (path other bytes others : List ℕ) → kind.Upload path bytes ≡ kind.Upload other others → path ≡ other
upload_paths path other bytes others e = cc

upload_bytes : (path other bytes others : List ℕ) → kind.Upload path bytes ≡ kind.Upload other others → bytes ≡ others
upload_bytes path other bytes others e = cc

abbrev pub some_kind : RequestKind → Option RequestKind
some_kind k = Some k

pub same_kind : (k l : RequestKind) → some_kind k ≡ some_kind l → k ≡ l
same_kind k l e = cc

-- over a right past the answer to an upload of the segment tells that the file stands at the path that it carries
module _ (setup : Setup) (past : Past) (k : IsPast setup past) (i : Instance) (incarnation : ℕ) (p : Partition) (s : Sequence) (start : Offset)
    (within : p.0 < setup.partitions) (begun : IsBegun past.history p s start) where
  pub uploaded_at : (x : Offset) (number : RequestNumber) (built : SealedSegment) (own path : List ℕ)
      (asked : WasAsked past i incarnation p s x number (kind.Upload own (file_of built)))
      → IsStatus past asked.request (UploadSuccess path) → HasUploaded setup past i incarnation p s start x built path
  uploaded_at x number built own path asked (bytes, uploads, stands) =
      let q = asked.request in
      let r = k.requests q asked.was_sent in
      let both : kind.Upload path bytes ≡ kind.Upload own (file_of built) = sym uploads ∙ asked.kind in
      let of_file : bytes ≡ file_of built = upload_bytes path own bytes (file_of built) both in
      let right : IsKind setup past q r.start (kind.Upload path bytes) = subst (IsKind setup past q r.start) uploads r.kind in
      let begun_here : IsBegun past.history p s r.start =
      subst (λ z. IsBegun past.history p z r.start) asked.segment.1 (subst (λ z. IsBegun past.history z q.sequence r.start) asked.segment.0 r.begun) in
      let same : r.start ≡ start = one_start setup past p s r.start start k within begun_here begun in
      record {
        stands = subst (λ z. Stands past.files path z) of_file stands;
        right =
            subst (λ z. IsRightFile setup past p s start x z) of_file
            (subst (λ z. IsRightFile setup past p s z x bytes) same
            (subst (λ z. IsRightFile setup past p s r.start z bytes) asked.offset
            (subst (λ z. IsRightFile setup past p z r.start q.offset bytes) asked.segment.1
            (subst (λ z. IsRightFile setup past z q.sequence r.start q.offset bytes) asked.segment.0 right.1))));
        number = number;
        asked =
            subst (WasAsked past i incarnation p s x number)
            (ap (λ z. kind.Upload z (file_of built)) (sym (upload_paths path own bytes (file_of built) both))) asked;
      }

either : (T : Turn → Type 0) (b : Bool) (x y : Turn) → T x → T y → T (cond b x y)
either T true x y h k = h
either T false x y h k = k

-- a phase in which a replica waits as in another
abbrev pub WaitsAs : Phase → Phase → Type 0
WaitsAs old new = (cur_in new ≡ cur_in old) × ((name : List ℕ) (w : Waited) (asks : RequestKind) → IsAskedIn name old w asks → IsAskedIn name new w asks)

same_waits : (ph : Phase) → WaitsAs ph ph
same_waits ph = (refl, λ name w asks h. h)

discarded_asked : (d e : Discarded) (name : List ℕ) (w : Waited) (asks : RequestKind) → IsAskedIn name (phase.Discarded d) w asks → IsAskedIn name (phase.Discarded e) w asks
discarded_asked d e name (Step number) asks h = h
discarded_asked d e name (Extend number) asks h = h

-- what is waited for is waited for in the phase that a turn leaves
pub waits_on : (past : Past) (i : Instance) (incarnation : ℕ) (p : Partition) (s : Sequence) (name : List ℕ) (old new : Phase) (w : Option Waited) → WaitsAs old new
    → WaitsFor past i incarnation p s name old w → WaitsFor past i incarnation p s name new w
waits_on past i incarnation p s name old new None same waits = tt
waits_on past i incarnation p s name old new (Some w) same waits =
    (waits.0, subst (λ x. WasAsked past i incarnation p s x (number_of w) waits.0) (sym same.0) waits.1, same.1 name w waits.0 waits.2)

module _ (Was : SeenMeta → Type 0) (Up : Offset → SealedSegment → List ℕ → Type 0) where
  -- what is told after a turn of a replica in a phase
  abbrev pub ToldAfter : Phase → Turn → Type 0
  ToldAfter old (Stays ph) = ToldIn Was Up ph × WaitsAs old ph
  ToldAfter old (Goes ph) = ToldIn Was Up ph

  consumed_told : (rows : Consuming) (reason : Reason) (At : List ℕ → Type 0) (status : ReplyStatus) → MayBear Was At status → ToldAfter (at rows (Holding reason)) (consumed rows reason status)
  consumed_told rows reason At (CatchUp t) c = either (ToldAfter (at rows (Holding reason))) (nat_lt rows.end.0 t.0) _ _ tt (tt, same_waits (at rows (Holding reason)))
  consumed_told rows reason At (Commit o) c = either (ToldAfter (at rows (Holding reason))) (o.0 == rows.end.0) _ _ tt (tt, same_waits (at rows (Holding reason)))
  consumed_told rows reason At (Keep seen) c = either (ToldAfter (at rows (Holding reason))) (ends_at rows.end seen) _ _ c (tt, same_waits (at rows (Holding reason)))
  consumed_told rows reason At Discard c = tt
  consumed_told rows reason At Hold c = (tt, same_waits (at rows (Holding reason)))
  consumed_told rows reason At NotLeader c = (tt, same_waits (at rows (Holding reason)))
  consumed_told rows reason At CommitContinue c = (tt, same_waits (at rows (Holding reason)))
  consumed_told rows reason At (UploadSuccess path) c = (tt, same_waits (at rows (Holding reason)))
  consumed_told rows reason At (CommitSuccess seen) c = (tt, same_waits (at rows (Holding reason)))
  consumed_told rows reason At Processed c = (tt, same_waits (at rows (Holding reason)))
  consumed_told rows reason At (Failed cause) c = (tt, same_waits (at rows (Holding reason)))

  module _ (rows : Consuming) (stage : Stage) (reason : Reason) where
    abbrev After : Turn → Type 0
    After t = ToldAfter (at rows stage) t

    abbrev Carries : (List ℕ → Type 0) → ReplyStatus → Type 0
    Carries At status = MayBear Was At status

    continued_told : (built : SealedSegment) (At : List ℕ → Type 0) (status : ReplyStatus) → Carries At status → After (continued rows reason built status)
    continued_told built At (Keep seen) c = either After (ends_at rows.end seen) _ _ c tt
    continued_told built At (CatchUp t) c = tt
    continued_told built At (Commit o) c = tt
    continued_told built At Discard c = tt
    continued_told built At Hold c = tt
    continued_told built At NotLeader c = tt
    continued_told built At CommitContinue c = tt
    continued_told built At (UploadSuccess path) c = tt
    continued_told built At (CommitSuccess seen) c = tt
    continued_told built At Processed c = tt
    continued_told built At (Failed cause) c = tt

    uploaded_told : (built : SealedSegment) (status : ReplyStatus) → Carries (Up rows.end built) status → After (uploaded rows reason built status)
    uploaded_told built (UploadSuccess path) c = c
    uploaded_told built (Keep seen) c = tt
    uploaded_told built (CatchUp t) c = tt
    uploaded_told built (Commit o) c = tt
    uploaded_told built Discard c = tt
    uploaded_told built Hold c = tt
    uploaded_told built NotLeader c = tt
    uploaded_told built CommitContinue c = tt
    uploaded_told built (CommitSuccess seen) c = tt
    uploaded_told built Processed c = tt
    uploaded_told built (Failed cause) c = tt

    ended_told : (built : SealedSegment) (At : List ℕ → Type 0) (status : ReplyStatus) → Carries At status → After (ended rows reason built status)
    ended_told built At (Keep seen) c = either After (ends_at rows.end seen) _ _ c tt
    ended_told built At (CommitSuccess seen) c = either After (ends_at rows.end seen) _ _ c tt
    ended_told built At (CatchUp t) c = tt
    ended_told built At (Commit o) c = tt
    ended_told built At Discard c = tt
    ended_told built At Hold c = tt
    ended_told built At NotLeader c = tt
    ended_told built At CommitContinue c = tt
    ended_told built At (UploadSuccess path) c = tt
    ended_told built At Processed c = tt
    ended_told built At (Failed cause) c = tt

  answered_at_told : (rows : Consuming) (stage : Stage) (status : ReplyStatus) → MayBear Was (UpAt Up rows.end stage) status
      → ToldAt Was Up rows.end stage → ToldAfter (at rows stage) (answered_at rows stage status)
  answered_at_told rows (Holding reason) status c t = consumed_told rows reason (UpAt Up rows.end (Holding reason)) status c
  answered_at_told rows (Starting reason built) status c t =
      continued_told rows (Starting reason built) reason built (UpAt Up rows.end (Starting reason built)) status c
  answered_at_told rows (Uploading reason built) status c t = uploaded_told rows (Uploading reason built) reason built status c
  answered_at_told rows (Ending reason built path) status c t =
      ended_told rows (Ending reason built path) reason built (UpAt Up rows.end (Ending reason built path)) status c
  answered_at_told rows InitialConsuming status c t = (tt, same_waits (at rows InitialConsuming))
  answered_at_told rows (CatchingUp target reason) status c t = (tt, same_waits (at rows (CatchingUp target reason)))
  answered_at_told rows (ConsumingToOnline end done) status c t = (t, same_waits (at rows (ConsumingToOnline end done)))
  answered_at_told rows (Retaining done) status c t = (t, same_waits (at rows (Retaining done)))
  answered_at_told rows (Building reason) status c t = (tt, same_waits (at rows (Building reason)))

  extended_at_told : (rows : Consuming) (stage : Stage) (b : Bool) → ToldAt Was Up rows.end stage → ToldAfter (at rows stage) (extended_at rows stage b)
  extended_at_told rows (Building reason) b t = either (ToldAfter (at rows (Building reason))) b _ _ (tt, same_waits (at rows (Building reason))) tt
  extended_at_told rows (Starting reason built) b t = either (ToldAfter (at rows (Starting reason built))) b _ _ (tt, same_waits (at rows (Starting reason built))) tt
  extended_at_told rows (Holding reason) b t = (tt, same_waits (at rows (Holding reason)))
  extended_at_told rows InitialConsuming b t = (tt, same_waits (at rows InitialConsuming))
  extended_at_told rows (CatchingUp target reason) b t = (tt, same_waits (at rows (CatchingUp target reason)))
  extended_at_told rows (ConsumingToOnline end done) b t = (t, same_waits (at rows (ConsumingToOnline end done)))
  extended_at_told rows (Retaining done) b t = (t, same_waits (at rows (Retaining done)))
  extended_at_told rows (Uploading reason built) b t = (tt, same_waits (at rows (Uploading reason built)))
  extended_at_told rows (Ending reason built path) b t = (t, same_waits (at rows (Ending reason built path)))

  answered_told : (ph : Phase) (number : RequestNumber) (status : ReplyStatus) → MayBear Was (UpIn Up ph (Step number)) status → ToldIn Was Up ph
      → ToldAfter ph (answered ph status)
  answered_told (phase.Unsealed o) number status c t = answered_at_told o.rows o.stage status c t
  answered_told (phase.Retained kept) number status c t = (t, same_waits (phase.Retained kept))
  answered_told (phase.Committed kept) number status c t = (t, same_waits (phase.Committed kept))
  answered_told (phase.Discarded d) number status c t =
      either (ToldAfter (phase.Discarded d)) (is_processed status) _ _
      (tt, (refl, discarded_asked d (record d { stopped = false }))) (tt, same_waits (phase.Discarded d))

  extended_told : (ph : Phase) (status : ReplyStatus) → ToldIn Was Up ph → ToldAfter ph (extended ph status)
  extended_told (phase.Unsealed o) status t = extended_at_told o.rows o.stage (is_processed status) t
  extended_told (phase.Retained kept) status t = (t, same_waits (phase.Retained kept))
  extended_told (phase.Committed kept) status t = (t, same_waits (phase.Committed kept))
  extended_told (phase.Discarded d) status t = (tt, same_waits (phase.Discarded d))

  pub turn_told : (ph : Phase) (w : Waited) (status : ReplyStatus) → MayBear Was (UpIn Up ph w) status → ToldIn Was Up ph
      → ToldAfter ph (turn_by ph w status)
  turn_told ph (Step number) status c t = answered_told ph number status c t
  turn_told ph (Extend number) status c t = extended_told ph status t
