-- A step of a replica, and an answer that doesn't put it off, leave less ahead of it.
use Rattle.std.proofs.Common.{◌≡◌, ◌⊎◌, inl, inr, ℕ, ◌<◌, ◌==◌, Bool, true, false, cond, nat_lt, List, length, Option, Some, None, Ok, refl, sym, ap, subst, arith}
use Rattle.std.specs.Prelude.{nat_le, option_map}
use Rattle.std.proofs.lemmas.Bool.{cond_both, eq-eqb, false≢true, leb-true, lt-ltb}
use Rattle.std.proofs.lemmas.Option.{none-some, same_Some}
use Rattle.rt_base.specs.declared.numbers.Moment.{Moment}
use Rattle.rt_base.specs.declared.numbers.Offset.{Offset}
use Rattle.rt_consumer.specs.Batch.{after_batch, asked_at, asked_in, consumed, filled, is_timed_out, messages_from, row_limit, taken_in}
use Rattle.rt_consumer.specs.Consumer.{at, cur_in, ends_at, IsPhase, IsStage}
use Rattle.rt_consumer.specs.Replies.{answered, answered_at, consumed as consumed_by, continued, ended, keeps, turned, uploaded}
use Rattle.rt_consumer.specs.Requests.{builds_at, builds_in, filed, filed_at, kind_at, kind_in, Builds}
use Rattle.rt_consumer.specs.declared.consumer.Consumer.{Consumer}
use Rattle.rt_consumer.specs.declared.phase.Discarded.{Discarded}
use Rattle.rt_consumer.specs.declared.phase.Phase.{Phase}
use Rattle.rt_consumer.specs.declared.phase.Phase.TheVariants as phase
use Rattle.rt_consumer.specs.declared.replies.Turn.{Turn}
use Rattle.rt_consumer.specs.declared.replies.Turn.TheVariants.{Stays, Goes}
use Rattle.rt_consumer.specs.declared.stage.Stage.{Stage}
use Rattle.rt_consumer.specs.declared.stage.Stage.TheVariants.{InitialConsuming, CatchingUp, Holding, ConsumingToOnline, Retaining, Building, Starting, Uploading, Ending}
use Rattle.rt_model.specs.declared.reply.ReplyStatus.{ReplyStatus}
use Rattle.rt_model.specs.declared.reply.ReplyStatus.TheVariants as status
use Rattle.rt_model.specs.declared.request.Reason.{Reason}
use Rattle.rt_model.specs.declared.request.Reason.TheVariants.{RowLimit, TimeLimit}
use Rattle.rt_model.specs.declared.request.RequestKind.{RequestKind}
use Rattle.rt_model.specs.declared.request.RequestKind.TheVariants as kind
use Rattle.rt_model.specs.declared.request.RequestNumber.{RequestNumber}
use Rattle.rt_model.specs.declared.seg_meta.SeenMeta.{SeenMeta}
use Rattle.rt_msgs.specs.Numbered.{upload_path}
use Rattle.rt_mutable.specs.Consuming.{Consuming}
use Rattle.rt_segment.specs.Segment.{SealedSegment}
use Rattle.rt_segment.specs.Spelling.{file_of}
use Rattle.rt_stream.specs.Log.{messages_of, Log}
use Rattle.rt_heal.specs.Left.{left_at, left_in, left_of, CanFollowAt, CanFollowIn}
use Rattle.rt_heal.specs.Reachable.{IsReachable}
use Rattle.rt_heal.proofs.Less.{filled_least}
use Rattle.rt_calm.specs.Ahead.{ahead_at, ahead_in, ahead_of, stop_ahead}
use Rattle.rt_calm.specs.Off.{IsPutOff}
use Rattle.rt_calm.proofs.Fitting.{Fits}

-- ---- an answer

-- a turn leaves less ahead than so much
abbrev Falls : ℕ → ℕ → Turn → Type 0
Falls size before (Stays ph) = ahead_in ph size < before
Falls size before (Goes ph) = ahead_in ph size < before

module _ (size : ℕ) (rows : Consuming) where
  abbrev here : Stage → ℕ
  here stage = ahead_at stage rows.end.0 size

  -- the test of a turn is met
  held : (before : ℕ) (b : Bool) (x y : Turn) → b ≡ true → Falls size before x → Falls size before (cond b x y)
  held before true x y e falls = falls
  held before false x y e falls = absurd (false≢true e)

  abbrev OffOrFalls : Stage → ReplyStatus → Turn → Type 0
  OffOrFalls stage s t = IsPutOff s ⊎ Falls size (here stage) t

  consumed_falls : (reason : Reason) (k : RequestKind) (s : ReplyStatus) → k ≡ kind.Consumed reason → Fits rows.end k s
      → OffOrFalls (Holding reason) s (consumed_by rows reason s)
  consumed_falls reason k s e fits = by_status s (subst (λ (x : RequestKind). Fits rows.end x s) e fits)
    where
      by_status : (s : ReplyStatus) → Fits rows.end (kind.Consumed reason) s → OffOrFalls (Holding reason) s (consumed_by rows reason s)
      by_status (status.CatchUp t) h =
          inr (held (here (Holding reason)) (nat_lt rows.end.0 t.0) (Goes (at rows (CatchingUp t reason))) (Stays (at rows (Holding reason)))
          (lt-ltb rows.end.0 t.0 h) (omega arith))
      by_status (status.Commit o) h =
          inr (held (here (Holding reason)) (o.0 == rows.end.0) (Goes (at rows (Building reason))) (Stays (at rows (Holding reason)))
          (eq-eqb o.0 rows.end.0 (ap (λ (x : Offset). x.0) h)) (omega arith))
      by_status (status.Keep seen) h =
          inr (held (here (Holding reason)) (ends_at rows.end seen) (Goes (at rows (Retaining seen))) (Stays (at rows (Holding reason))) h (omega arith))
      by_status status.Discard h = inr (omega arith)
      by_status status.Hold h = inl tt
      by_status status.NotLeader h = inl tt
      by_status (status.Failed cause) h = inl tt
      by_status status.CommitContinue h = absurd h
      by_status (status.UploadSuccess path) h = absurd h
      by_status (status.CommitSuccess seen) h = absurd h
      by_status status.Processed h = absurd h

  keeps_falls : (before : ℕ) (reason : Reason) (seen : SeenMeta) → ends_at rows.end seen ≡ true → here (Retaining seen) < before
      → Falls size before (keeps rows reason seen)
  keeps_falls before reason seen e lt =
      held before (ends_at rows.end seen) (Goes (at rows (Retaining seen))) (Goes (at rows (Holding reason))) e lt

  started_falls : (reason : Reason) (built : SealedSegment) (s : ReplyStatus) → Fits rows.end kind.CommitStart s
      → OffOrFalls (Starting reason built) s (continued rows reason built s)
  started_falls reason built status.CommitContinue h = inr (omega arith)
  started_falls reason built (status.Keep seen) h = inr (keeps_falls (here (Starting reason built)) reason seen h (omega arith))
  started_falls reason built status.Discard h = inr (omega arith)
  started_falls reason built status.Hold h = inl tt
  started_falls reason built status.NotLeader h = inl tt
  started_falls reason built (status.Failed cause) h = inl tt
  started_falls reason built (status.CatchUp t) h = absurd h
  started_falls reason built (status.Commit o) h = absurd h
  started_falls reason built (status.UploadSuccess path) h = absurd h
  started_falls reason built (status.CommitSuccess seen) h = absurd h
  started_falls reason built status.Processed h = absurd h

  uploaded_falls : (reason : Reason) (built : SealedSegment) (path bytes : List ℕ) (s : ReplyStatus) → Fits rows.end (kind.Upload path bytes) s
      → OffOrFalls (Uploading reason built) s (uploaded rows reason built s)
  uploaded_falls reason built path bytes (status.UploadSuccess shown) h = inr (omega arith)
  uploaded_falls reason built path bytes status.Hold h = inl tt
  uploaded_falls reason built path bytes status.NotLeader h = inl tt
  uploaded_falls reason built path bytes (status.Failed cause) h = inl tt
  uploaded_falls reason built path bytes status.CommitContinue h = absurd h
  uploaded_falls reason built path bytes (status.Keep seen) h = absurd h
  uploaded_falls reason built path bytes status.Discard h = absurd h
  uploaded_falls reason built path bytes (status.CatchUp t) h = absurd h
  uploaded_falls reason built path bytes (status.Commit o) h = absurd h
  uploaded_falls reason built path bytes (status.CommitSuccess seen) h = absurd h
  uploaded_falls reason built path bytes status.Processed h = absurd h

  ended_falls : (reason : Reason) (built : SealedSegment) (path : List ℕ) (s : ReplyStatus) → Fits rows.end (kind.CommitEnd path) s
      → OffOrFalls (Ending reason built path) s (ended rows reason built s)
  ended_falls reason built path (status.CommitSuccess seen) h =
      inr (held (here (Ending reason built path)) (ends_at rows.end seen) (Goes (phase.Committed (record { file = built; done = seen })))
      (Goes (at rows (Holding reason))) h (omega arith))
  ended_falls reason built path (status.Keep seen) h = inr (keeps_falls (here (Ending reason built path)) reason seen h (omega arith))
  ended_falls reason built path status.Discard h = inr (omega arith)
  ended_falls reason built path status.Hold h = inl tt
  ended_falls reason built path status.NotLeader h = inl tt
  ended_falls reason built path (status.Failed cause) h = inl tt
  ended_falls reason built path status.CommitContinue h = absurd h
  ended_falls reason built path (status.CatchUp t) h = absurd h
  ended_falls reason built path (status.Commit o) h = absurd h
  ended_falls reason built path (status.UploadSuccess shown) h = absurd h
  ended_falls reason built path status.Processed h = absurd h

  abbrev some_kind : RequestKind → Option RequestKind
  some_kind k = Some k

  stage_falls : (name : List ℕ) (number : RequestNumber) (stage : Stage) (k : RequestKind) (s : ReplyStatus) → kind_at name number stage ≡ some_kind k
      → Fits rows.end k s → OffOrFalls stage s (answered_at rows stage s)
  stage_falls name number (Holding reason) k s asks fits = consumed_falls reason k s (sym (same_Some (kind.Consumed reason) k asks)) fits
  stage_falls name number (Starting reason built) k s asks fits =
      started_falls reason built s (subst (λ (x : RequestKind). Fits rows.end x s) (sym (same_Some kind.CommitStart k asks)) fits)
  stage_falls name number (Uploading reason built) k s asks fits =
      uploaded_falls reason built (upload_path name number) (file_of built) s
      (subst (λ (x : RequestKind). Fits rows.end x s) (sym (same_Some (kind.Upload (upload_path name number) (file_of built)) k asks)) fits)
  stage_falls name number (Ending reason built path) k s asks fits =
      ended_falls reason built path s (subst (λ (x : RequestKind). Fits rows.end x s) (sym (same_Some (kind.CommitEnd path) k asks)) fits)
  stage_falls name number InitialConsuming k s asks fits = absurd (none-some k asks)
  stage_falls name number (CatchingUp target reason) k s asks fits = absurd (none-some k asks)
  stage_falls name number (ConsumingToOnline end done) k s asks fits = absurd (none-some k asks)
  stage_falls name number (Retaining done) k s asks fits = absurd (none-some k asks)
  stage_falls name number (Building reason) k s asks fits = absurd (none-some k asks)

-- a stop that is processed
stopped_falls : (size : ℕ) (d : Discarded) (x : Offset) (s : ReplyStatus) → d.stopped ≡ true → Fits x kind.Stopped s
    → IsPutOff s ⊎ Falls size (stop_ahead d.stopped) (answered (phase.Discarded d) s)
stopped_falls size d x status.Processed was fits = inr (subst (λ (b : Bool). 0 < stop_ahead b) (sym was) (omega arith))
stopped_falls size d x status.Hold was fits = inl tt
stopped_falls size d x status.NotLeader was fits = inl tt
stopped_falls size d x (status.Failed cause) was fits = inl tt
stopped_falls size d x status.CommitContinue was fits = absurd fits
stopped_falls size d x (status.Keep seen) was fits = absurd fits
stopped_falls size d x status.Discard was fits = absurd fits
stopped_falls size d x (status.CatchUp t) was fits = absurd fits
stopped_falls size d x (status.Commit o) was fits = absurd fits
stopped_falls size d x (status.UploadSuccess path) was fits = absurd fits
stopped_falls size d x (status.CommitSuccess seen) was fits = absurd fits

-- an answer that fits what the replica asked
phase_falls : (size : ℕ) (name : List ℕ) (number : RequestNumber) (ph : Phase) (k : RequestKind) (s : ReplyStatus) → kind_in name number ph ≡ Some k
    → Fits (cur_in ph) k s → IsPutOff s ⊎ Falls size (ahead_in ph size) (answered ph s)
phase_falls size name number (phase.Unsealed o) k s asks fits = stage_falls size o.rows name number o.stage k s asks fits
phase_falls size name number (phase.Discarded d) k s asks fits = by_stop d.stopped refl asks
  where
    by_stop : (b : Bool) → d.stopped ≡ b → cond b (Some kind.Stopped) None ≡ Some k
        → IsPutOff s ⊎ Falls size (stop_ahead d.stopped) (answered (phase.Discarded d) s)
    by_stop true was e =
        stopped_falls size d d.cur s was (subst (λ (x : RequestKind). Fits d.cur x s) (sym (same_Some kind.Stopped k e)) fits)
    by_stop false was e = absurd (none-some k e)
phase_falls size name number (phase.Retained kept) k s asks fits = absurd (none-some k asks)
phase_falls size name number (phase.Committed kept) k s asks fits = absurd (none-some k asks)

-- a replica turned so
turned_falls : (size before : ℕ) (r : Consumer) (t : Turn) → Falls size before t → ahead_in (turned r t).phase size < before
turned_falls size before r (Stays ph) falls = falls
turned_falls size before r (Goes ph) falls = falls

turned_partition : (r : Consumer) (t : Turn) → (turned r t).partition ≡ r.partition
turned_partition r (Stays ph) = refl
turned_partition r (Goes ph) = refl

-- an answer puts it off, or leaves less ahead of it
pub answer_falls : (log : Log) (r : Consumer) (number : RequestNumber) (k : RequestKind) (s : ReplyStatus) → kind_in r.name number r.phase ≡ Some k
    → Fits (cur_in r.phase) k s → IsPutOff s ⊎ (ahead_of log (turned r (answered r.phase s)) < ahead_of log r)
answer_falls log r number k s asks fits = by_way (phase_falls (length (messages_of log r.partition)) r.name number r.phase k s asks fits)
  where
    t : Turn
    t = answered r.phase s

    size : ℕ
    size = length (messages_of log r.partition)

    by_way : IsPutOff s ⊎ Falls size (ahead_in r.phase size) t → IsPutOff s ⊎ (ahead_of log (turned r t) < ahead_of log r)
    by_way (inl off) = inl off
    by_way (inr falls) =
        inr (subst (λ p. ahead_in (turned r t).phase (length (messages_of log p)) < ahead_of log r) (sym (turned_partition r t))
        (turned_falls size (ahead_in r.phase size) r t falls))

-- ---- a build

filed_falls : (rows : Consuming) (stage : Stage) (file : SealedSegment) (size : ℕ) → builds_at stage ≡ true
    → ahead_in (filed_at rows stage file) size < ahead_at stage rows.end.0 size
filed_falls rows (Retaining done) file size builds = omega arith
filed_falls rows (Building reason) file size builds = omega arith
filed_falls rows InitialConsuming file size builds = absurd (false≢true builds)
filed_falls rows (CatchingUp target reason) file size builds = absurd (false≢true builds)
filed_falls rows (Holding reason) file size builds = absurd (false≢true builds)
filed_falls rows (ConsumingToOnline end done) file size builds = absurd (false≢true builds)
filed_falls rows (Starting reason built) file size builds = absurd (false≢true builds)
filed_falls rows (Uploading reason built) file size builds = absurd (false≢true builds)
filed_falls rows (Ending reason built path) file size builds = absurd (false≢true builds)

built_falls : (ph : Phase) (file : SealedSegment) (size : ℕ) → builds_in ph ≡ true → ahead_in (filed ph file) size < ahead_in ph size
built_falls (phase.Unsealed o) file size builds = filed_falls o.rows o.stage file size builds
built_falls (phase.Retained kept) file size builds = absurd (false≢true builds)
built_falls (phase.Committed kept) file size builds = absurd (false≢true builds)
built_falls (phase.Discarded d) file size builds = absurd (false≢true builds)

pub build_falls : (r new : Consumer) (log : Log) → Builds r new (Ok tt) → ahead_of log new < ahead_of log r
build_falls r new log (builds, (file, seals, is)) =
    subst (λ (x : Consumer). ahead_of log x < ahead_of log r) (sym is) (built_falls r.phase file (length (messages_of log r.partition)) builds)

-- ---- a batch

module _ (r : Consumer) (log : Log) (now : Moment) (max : ℕ) where
  abbrev all : List (List ℕ)
  all = messages_of log r.partition

  abbrev count : ℕ
  count = length all

  abbrev Reaches : Offset → Type 0
  Reaches = IsReachable r.settings.schema all r.start

  abbrev filled_by : Consuming → Stage → ℕ → Consuming
  filled_by rows stage n = filled r.settings.schema (row_limit r.settings stage) rows (messages_from log r.partition rows.end n)

  -- what is less by the messages and steps that are left is less ahead
  batch_falls_at : (rows : Consuming) (stage : Stage) (n : ℕ) → asked_at stage rows.end max ≡ Some n → IsStage r.settings r.partition r.sequence rows stage
      → CanFollowAt Reaches stage
      → (let new = filled_by rows stage n in
      left_at (after_batch r.settings r.started now new stage) new.end.0 count < left_at stage rows.end.0 count
      → ahead_at (after_batch r.settings r.started now new stage) new.end.0 count < ahead_at stage rows.end.0 count)
  batch_falls_at rows InitialConsuming n asks is follows =
      let new = filled_by rows InitialConsuming n in
      let least = filled_least r.settings.schema r.settings.rows rows (messages_from log r.partition rows.end n) in
      cond_both (nat_le r.settings.rows (length new.rows)) (Holding RowLimit)
      (cond (is_timed_out r.settings.millis r.started now new.start new.end) (Holding TimeLimit) InitialConsuming)
      (λ (st : Stage). left_at st new.end.0 count < left_at InitialConsuming rows.end.0 count → ahead_at st new.end.0 count < ahead_at InitialConsuming rows.end.0 count)
      (λ full lt. omega (arith, least))
      (λ few.
      cond_both (is_timed_out r.settings.millis r.started now new.start new.end) (Holding TimeLimit) InitialConsuming
      (λ (st : Stage). left_at st new.end.0 count < left_at InitialConsuming rows.end.0 count → ahead_at st new.end.0 count < ahead_at InitialConsuming rows.end.0 count)
      (λ late lt. omega (arith, least)) (λ early lt. omega (arith, lt)))
  batch_falls_at rows (CatchingUp target reason) n asks is follows =
      let new = filled_by rows (CatchingUp target reason) n in
      cond_both (nat_le target.0 new.end.0) (Holding reason) (CatchingUp target reason)
      (λ (st : Stage). left_at st new.end.0 count < left_at (CatchingUp target reason) rows.end.0 count
      → ahead_at st new.end.0 count < ahead_at (CatchingUp target reason) rows.end.0 count)
      (λ there lt. omega (arith, is.1, follows.within, leb-true target.0 new.end.0 there))
      (λ ahead lt. omega (arith, is.1, follows.within, lt))
  batch_falls_at rows (ConsumingToOnline end done) n asks is follows =
      let new = filled_by rows (ConsumingToOnline end done) n in
      cond_both (nat_le end.0 new.end.0) (Retaining done) (ConsumingToOnline end done)
      (λ (st : Stage). left_at st new.end.0 count < left_at (ConsumingToOnline end done) rows.end.0 count
      → ahead_at st new.end.0 count < ahead_at (ConsumingToOnline end done) rows.end.0 count)
      (λ there lt. omega (arith, is.0, follows.within, leb-true end.0 new.end.0 there))
      (λ ahead lt. omega (arith, is.0, follows.within, lt))
  batch_falls_at rows (Holding reason) n asks is follows = absurd (none-some n asks)
  batch_falls_at rows (Retaining done) n asks is follows = absurd (none-some n asks)
  batch_falls_at rows (Building reason) n asks is follows = absurd (none-some n asks)
  batch_falls_at rows (Starting reason built) n asks is follows = absurd (none-some n asks)
  batch_falls_at rows (Uploading reason built) n asks is follows = absurd (none-some n asks)
  batch_falls_at rows (Ending reason built path) n asks is follows = absurd (none-some n asks)

  batch_falls_in : (ph : Phase) (n : ℕ) → asked_in ph max ≡ Some n → IsPhase r.settings r.partition r.sequence r.start ph → CanFollowIn Reaches ph
      → left_in (taken_in r ph now (messages_from log r.partition (cur_in ph) n)).phase count < left_in ph count
      → ahead_in (taken_in r ph now (messages_from log r.partition (cur_in ph) n)).phase count < ahead_in ph count
  batch_falls_in (phase.Unsealed o) n asks is follows lt = batch_falls_at o.rows o.stage n asks is.1 follows lt
  batch_falls_in (phase.Retained kept) n asks is follows lt = absurd (none-some n asks)
  batch_falls_in (phase.Committed kept) n asks is follows lt = absurd (none-some n asks)
  batch_falls_in (phase.Discarded d) n asks is follows lt = absurd (none-some n asks)

  taken_partition : (ph : Phase) (ms : List (List ℕ)) → (taken_in r ph now ms).partition ≡ r.partition
  taken_partition (phase.Unsealed o) ms = refl
  taken_partition (phase.Retained kept) ms = refl
  taken_partition (phase.Committed kept) ms = refl
  taken_partition (phase.Discarded d) ms = refl

  pub batch_falls : (new : Consumer) → IsPhase r.settings r.partition r.sequence r.start r.phase → CanFollowIn Reaches r.phase → consumed r max now log ≡ Some new
      → left_of log new < left_of log r → ahead_of log new < ahead_of log r
  batch_falls new is follows e less = by_count (asked_in r.phase max) refl e
    where
      by_count : (o : Option ℕ) → asked_in r.phase max ≡ o
          → option_map (λ n. taken_in r r.phase now (messages_from log r.partition (cur_in r.phase) n)) o ≡ Some new → ahead_of log new < ahead_of log r
      by_count None asks h = absurd (none-some new h)
      by_count (Some n) asks h =
          let next = taken_in r r.phase now (messages_from log r.partition (cur_in r.phase) n) in
          let same : next ≡ new = same_Some next new h in
          let here : next.partition ≡ r.partition = taken_partition r.phase (messages_from log r.partition (cur_in r.phase) n) in
          subst (λ (x : Consumer). ahead_of log x < ahead_of log r) same
          (subst (λ p. ahead_in next.phase (length (messages_of log p)) < ahead_of log r) (sym here)
          (batch_falls_in r.phase n asks is follows
          (subst (λ p. left_in next.phase (length (messages_of log p)) < left_of log r) here
          (subst (λ (x : Consumer). left_of log x < left_of log r) (sym same) less))))
