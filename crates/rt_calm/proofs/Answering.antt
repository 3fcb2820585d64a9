-- What an answer leaves of what lies ahead of a replica, and may lie ahead again: less, unless it is told HOLD or NOT_LEADER.
use Rattle.std.proofs.Common.{◌≡◌, ◌⊎◌, inl, inr, ℕ, ◌+◌, ◌<◌, ◌≤◌, ◌==◌, ◌&&◌, not, nat_lt, Bool, true, false, cond, List, Option, Some, None, length, refl, sym, ◌∙◌, ap, subst, arith}
use Rattle.std.proofs.lemmas.Bool.{and_from, eq-eqb}
use Rattle.std.proofs.lemmas.Option.{none-some, same_Some}
use Rattle.rt_base.specs.declared.numbers.Instance.{Instance}
use Rattle.rt_base.specs.declared.numbers.Offset.{Offset}
use Rattle.rt_base.specs.declared.numbers.Partition.{Partition}
use Rattle.rt_base.specs.declared.numbers.Sequence.{Sequence}
use Rattle.rt_consumer.specs.Consumer.{at, cur_in, ends_at}
use Rattle.rt_consumer.specs.Replies.{answered, answered_at, is_processed, turned}
use Rattle.rt_consumer.specs.Requests.{kind_at, kind_in}
use Rattle.rt_consumer.specs.declared.consumer.Consumer.{Consumer}
use Rattle.rt_consumer.specs.declared.phase.Discarded.{Discarded}
use Rattle.rt_consumer.specs.declared.phase.Phase.{Phase}
use Rattle.rt_consumer.specs.declared.phase.Phase.TheVariants as phase
use Rattle.rt_consumer.specs.declared.replies.Turn.{Turn}
use Rattle.rt_consumer.specs.declared.replies.Turn.TheVariants.{Goes, Stays}
use Rattle.rt_consumer.specs.declared.stage.Stage.{Stage}
use Rattle.rt_consumer.specs.declared.stage.Stage.TheVariants.{Building, CatchingUp, ConsumingToOnline, Ending, Holding, InitialConsuming, Retaining, Starting, Uploading}
use Rattle.rt_fsm.proofs.Table.{by_test}
use Rattle.rt_model.specs.Completion.{Completion}
use Rattle.rt_model.specs.declared.machine_state.MachineState.{MachineState}
use Rattle.rt_model.specs.declared.machine_state.MachineState.TheVariants as machine
use Rattle.rt_model.specs.declared.node.Seen.{Seen}
use Rattle.rt_model.specs.declared.reply.FailCause.{FailCause}
use Rattle.rt_model.specs.declared.reply.ReplyStatus.{ReplyStatus}
use Rattle.rt_model.specs.declared.reply.ReplyStatus.TheVariants as status
use Rattle.rt_model.specs.declared.request.Reason.{Reason}
use Rattle.rt_model.specs.declared.request.Request.{Request}
use Rattle.rt_model.specs.declared.request.RequestKind.{RequestKind}
use Rattle.rt_model.specs.declared.request.RequestKind.TheVariants as kind
use Rattle.rt_model.specs.declared.request.RequestNumber.{RequestNumber}
use Rattle.rt_msgs.specs.Numbered.{upload_path}
use Rattle.rt_mutable.specs.Consuming.{Consuming}
use Rattle.rt_segment.specs.Segment.{SealedSegment}
use Rattle.rt_segment.specs.Spelling.{file_of}
use Rattle.rt_stream.specs.Log.{messages_of, Log}
use Rattle.rt_calm.specs.Again.{awaits, commits_at, spent_again, steps_if, stray_again, waits_at}
use Rattle.rt_calm.specs.Ahead.{ahead_in, ahead_of}
use Rattle.rt_calm.specs.Off.{IsPutOff}
use Rattle.rt_calm.proofs.Delivered.{IsLeft, IsMissed, IsSpentOut, StatusTells}
use Rattle.rt_calm.proofs.Fitting.{Fits}
use Rattle.rt_calm.proofs.Standing.{answer_falls}

abbrev pub phase_of : Turn → Phase
phase_of (Stays ph) = ph
phase_of (Goes ph) = ph

turned_phase : (r : Consumer) (t : Turn) → (turned r t).phase ≡ phase_of t
turned_phase r (Stays ph) = refl
turned_phase r (Goes ph) = refl

turned_ahead : (log : Log) (r : Consumer) (t : Turn) → ahead_of log (turned r t) ≡ ahead_in (phase_of t) (length (messages_of log r.partition))
turned_ahead log r (Stays ph) = refl
turned_ahead log r (Goes ph) = refl

-- HOLD and NOT_LEADER
abbrev pub IsWaiting : ReplyStatus → Type 0
IsWaiting s = (s ≡ status.Hold) ⊎ (s ≡ status.NotLeader)

-- a machine that is left so waits for its committer at this stage
pub left_awaits : (s : MachineState) (i : Instance) (x : Offset) (n : Option Completion) (stage : Stage) → IsLeft s i x n → waits_at stage s ≡ true
    → awaits n i.0 stage x ≡ true
left_awaits s i x n stage k waits =
    ap (λ (m : Option Completion). awaits m i.0 stage x) k.is
    ∙ and_from (waits_at stage k.machine.state) ((k.machine.winner.0 == i.0) && (k.machine.offset.0 == x.0)) (ap (waits_at stage) k.state ∙ waits)
    (and_from (k.machine.winner.0 == i.0) (k.machine.offset.0 == x.0) (eq-eqb k.machine.winner.0 i.0 (ap (λ (j : Instance). j.0) k.winner))
    (eq-eqb k.machine.offset.0 x.0 (ap (λ (o : Offset). o.0) k.offset)))

module _ (h : List Seen) (request : Request) (m n : Option Completion) (rows : Consuming) (at_end : request.offset ≡ rows.end) where
  abbrev i : Instance
  i = request.number.instance

  -- a committer for which the machine waits
  awaited_stray : (stage : Stage) → awaits n i.0 stage rows.end ≡ true → stray_again n i.0 (at rows stage) ≡ 0
  awaited_stray stage e = by_commits (commits_at stage) (ap not e)
    where
      by_commits : (b : Bool) → not (awaits n i.0 stage rows.end) ≡ false → steps_if (b && not (awaits n i.0 stage rows.end)) ≡ 0
      by_commits true f = ap steps_if f
      by_commits false f = refl

  -- no more strays than before
  abbrev Strays : Stage → Turn → Type 0
  Strays stage t = stray_again n i.0 (phase_of t) ≤ stray_again m i.0 (at rows stage)

  none_strays : (stage : Stage) (t : Turn) → stray_again n i.0 (phase_of t) ≡ 0 → Strays stage t
  none_strays stage t e = omega (arith, e)

  -- the one turn or the other, neither of which strays
  either_strays : (stage : Stage) (b : Bool) (x y : Turn) → stray_again n i.0 (phase_of x) ≡ 0 → stray_again n i.0 (phase_of y) ≡ 0 → Strays stage (cond b x y)
  either_strays stage b x y e f = by_test (Strays stage) b x y (λ first. none_strays stage x e) (λ other. none_strays stage y f)

  abbrev Tells : ReplyStatus → Type 0
  Tells s = StatusTells h request m n s

  -- the answer to each stage's request, but FAILED
  consumed_strays : (reason : Reason) (s : ReplyStatus) → Fits rows.end (kind.Consumed reason) s → Tells s → Strays (Holding reason) (answered_at rows (Holding reason) s)
  consumed_strays reason (status.Commit x) fits tells =
      either_strays (Holding reason) (x.0 == rows.end.0) (Goes (at rows (Building reason))) (Stays (at rows (Holding reason)))
      (awaited_stray (Building reason)
      (subst (λ (o : Offset). awaits n i.0 (Building reason) o ≡ true) fits (left_awaits machine.CommitterNotified i x n (Building reason) tells refl)))
      refl
  consumed_strays reason (status.CatchUp t) fits tells =
      either_strays (Holding reason) (nat_lt rows.end.0 t.0) (Goes (at rows (CatchingUp t reason))) (Stays (at rows (Holding reason))) refl refl
  consumed_strays reason (status.Keep seen) fits tells =
      either_strays (Holding reason) (ends_at rows.end seen) (Goes (at rows (Retaining seen))) (Stays (at rows (Holding reason))) refl refl
  consumed_strays reason status.Discard fits tells = omega arith
  consumed_strays reason status.Hold fits tells = omega arith
  consumed_strays reason status.NotLeader fits tells = omega arith
  consumed_strays reason (status.Failed cause) fits tells = omega arith
  consumed_strays reason status.CommitContinue fits tells = absurd fits
  consumed_strays reason (status.UploadSuccess path) fits tells = absurd fits
  consumed_strays reason (status.CommitSuccess seen) fits tells = absurd fits
  consumed_strays reason status.Processed fits tells = absurd fits

  started_strays : (reason : Reason) (built : SealedSegment) (s : ReplyStatus) → Fits rows.end kind.CommitStart s → Tells s
      → Strays (Starting reason built) (answered_at rows (Starting reason built) s)
  started_strays reason built status.CommitContinue fits tells =
      none_strays (Starting reason built) (Goes (at rows (Uploading reason built)))
      (awaited_stray (Uploading reason built)
      (subst (λ (o : Offset). awaits n i.0 (Uploading reason built) o ≡ true) at_end
      (left_awaits machine.CommitterUploading i request.offset n (Uploading reason built) tells refl)))
  started_strays reason built (status.Keep seen) fits tells =
      either_strays (Starting reason built) (ends_at rows.end seen) (Goes (at rows (Retaining seen))) (Goes (at rows (Holding reason))) refl refl
  started_strays reason built status.Discard fits tells = omega arith
  started_strays reason built status.Hold fits tells = omega arith
  started_strays reason built status.NotLeader fits tells = omega arith
  started_strays reason built (status.Failed cause) fits tells = omega arith
  started_strays reason built (status.Commit x) fits tells = absurd fits
  started_strays reason built (status.CatchUp t) fits tells = absurd fits
  started_strays reason built (status.UploadSuccess path) fits tells = absurd fits
  started_strays reason built (status.CommitSuccess seen) fits tells = absurd fits
  started_strays reason built status.Processed fits tells = absurd fits

  -- the machine waits for both alike
  uploaded_alike : (k : Option Completion) (reason : Reason) (built : SealedSegment) (shown : List ℕ)
      → stray_again k i.0 (at rows (Ending reason built shown)) ≡ stray_again k i.0 (at rows (Uploading reason built))
  uploaded_alike None reason built shown = refl
  uploaded_alike (Some c) reason built shown = refl

  uploaded_strays : (reason : Reason) (built : SealedSegment) (path bytes : List ℕ) (s : ReplyStatus) → Fits rows.end (kind.Upload path bytes) s → Tells s
      → Strays (Uploading reason built) (answered_at rows (Uploading reason built) s)
  uploaded_strays reason built path bytes (status.UploadSuccess shown) fits tells =
      omega (
        arith,
        ap (λ (k : Option Completion). stray_again k i.0 (at rows (Ending reason built shown))) tells,
        uploaded_alike m reason built shown,
      )
  uploaded_strays reason built path bytes status.Hold fits tells = omega arith
  uploaded_strays reason built path bytes status.NotLeader fits tells = omega arith
  uploaded_strays reason built path bytes (status.Failed cause) fits tells = omega arith
  uploaded_strays reason built path bytes (status.Keep seen) fits tells = absurd fits
  uploaded_strays reason built path bytes status.Discard fits tells = absurd fits
  uploaded_strays reason built path bytes status.CommitContinue fits tells = absurd fits
  uploaded_strays reason built path bytes (status.Commit x) fits tells = absurd fits
  uploaded_strays reason built path bytes (status.CatchUp t) fits tells = absurd fits
  uploaded_strays reason built path bytes (status.CommitSuccess seen) fits tells = absurd fits
  uploaded_strays reason built path bytes status.Processed fits tells = absurd fits

  ended_strays : (reason : Reason) (built : SealedSegment) (path shown : List ℕ) (s : ReplyStatus) → Fits rows.end (kind.CommitEnd path) s → Tells s
      → Strays (Ending reason built shown) (answered_at rows (Ending reason built shown) s)
  ended_strays reason built path shown (status.CommitSuccess seen) fits tells =
      either_strays (Ending reason built shown) (ends_at rows.end seen) (Goes (phase.Committed (record { file = built; done = seen })))
      (Goes (at rows (Holding reason))) refl refl
  ended_strays reason built path shown (status.Keep seen) fits tells =
      either_strays (Ending reason built shown) (ends_at rows.end seen) (Goes (at rows (Retaining seen))) (Goes (at rows (Holding reason))) refl refl
  ended_strays reason built path shown status.Discard fits tells = omega arith
  ended_strays reason built path shown status.Hold fits tells = omega arith
  ended_strays reason built path shown status.NotLeader fits tells = omega arith
  ended_strays reason built path shown (status.Failed cause) fits tells = omega arith
  ended_strays reason built path shown status.CommitContinue fits tells = absurd fits
  ended_strays reason built path shown (status.Commit x) fits tells = absurd fits
  ended_strays reason built path shown (status.CatchUp t) fits tells = absurd fits
  ended_strays reason built path shown (status.UploadSuccess at_path) fits tells = absurd fits
  ended_strays reason built path shown status.Processed fits tells = absurd fits

  -- ---- FAILED

  abbrev p : Partition
  p = request.partition

  abbrev q : Sequence
  q = request.sequence

  gone_spent : n ≡ None → spent_again h p q n ≡ 0
  gone_spent none = ap (spent_again h p q) none

  abbrev Missed : Type 0
  Missed = IsSpentOut h p q m n ⊎ IsMissed request.kind request.offset i m

  module _ (size : ℕ) (less : spent_again h p q n ≤ spent_again h p q m) where
    abbrev LessAt : Stage → Turn → Type 0
    LessAt stage t =
        ahead_in (phase_of t) size + (spent_again h p q n + stray_again n i.0 (phase_of t))
        < ahead_in (at rows stage) size + (spent_again h p q m + stray_again m i.0 (at rows stage))

    -- a machine for which the sender was no committer
    never_missed : (k : RequestKind) → request.kind ≡ k → (IsMissed k request.offset i m → ⊥) → IsMissed request.kind request.offset i m → ⊥
    never_missed k is none missed = none (subst (λ (x : RequestKind). IsMissed x request.offset i m) is missed)

    failed_holding : (reason : Reason) → request.kind ≡ kind.Consumed reason → Missed → LessAt (Holding reason) (Stays (at rows (Holding reason)))
    failed_holding reason is (inl out) = omega (arith, out.0, gone_spent out.1)
    failed_holding reason is (inr missed) = absurd (never_missed (kind.Consumed reason) is (λ none. none) missed)

    failed_starting : (reason : Reason) (built : SealedSegment) → request.kind ≡ kind.CommitStart → Missed
        → LessAt (Starting reason built) (Goes (at rows (Holding reason)))
    failed_starting reason built is (inl out) = omega (arith, out.0, gone_spent out.1)
    failed_starting reason built is (inr missed) =
        let never = (subst (λ (x : RequestKind). IsMissed x request.offset i m) is missed) reason built in
        let at_rows = subst (λ (o : Offset). awaits m i.0 (Starting reason built) o ≡ false) at_end never in
        omega (arith, less, ap (λ (b : Bool). steps_if (not b)) at_rows)

    failed_uploading : (reason : Reason) (built : SealedSegment) (path bytes : List ℕ) → request.kind ≡ kind.Upload path bytes → Missed
        → LessAt (Uploading reason built) (Goes (at rows (Holding reason)))
    failed_uploading reason built path bytes is (inl out) = omega (arith, out.0, gone_spent out.1)
    failed_uploading reason built path bytes is (inr missed) = absurd (never_missed (kind.Upload path bytes) is (λ none. none) missed)

    failed_ending : (reason : Reason) (built : SealedSegment) (path shown : List ℕ) → request.kind ≡ kind.CommitEnd path → Missed
        → LessAt (Ending reason built shown) (Goes (at rows (Holding reason)))
    failed_ending reason built path shown is (inl out) = omega (arith, out.0, gone_spent out.1)
    failed_ending reason built path shown is (inr missed) =
        let never = (subst (λ (x : RequestKind). IsMissed x request.offset i m) is missed) reason built shown in
        let at_rows = subst (λ (o : Offset). awaits m i.0 (Ending reason built shown) o ≡ false) at_end never in
        omega (arith, less, ap (λ (b : Bool). steps_if (not b)) at_rows)

    abbrev some_kind : RequestKind → Option RequestKind
    some_kind k = Some k

    failed_stage : (name : List ℕ) (number : RequestNumber) (stage : Stage) (cause : FailCause) → kind_at name number stage ≡ some_kind request.kind → Missed
        → LessAt stage (answered_at rows stage (status.Failed cause))
    failed_stage name number (Holding reason) cause asks missed = failed_holding reason (sym (same_Some (kind.Consumed reason) request.kind asks)) missed
    failed_stage name number (Starting reason built) cause asks missed = failed_starting reason built (sym (same_Some kind.CommitStart request.kind asks)) missed
    failed_stage name number (Uploading reason built) cause asks missed = failed_uploading reason built (upload_path name number) (file_of built)
        (sym (same_Some (kind.Upload (upload_path name number) (file_of built)) request.kind asks)) missed
    failed_stage name number (Ending reason built path) cause asks missed = failed_ending reason built path path (sym (same_Some (kind.CommitEnd path) request.kind asks)) missed
    failed_stage name number InitialConsuming cause asks missed = absurd (none-some request.kind asks)
    failed_stage name number (CatchingUp target reason) cause asks missed = absurd (none-some request.kind asks)
    failed_stage name number (ConsumingToOnline end done) cause asks missed = absurd (none-some request.kind asks)
    failed_stage name number (Retaining done) cause asks missed = absurd (none-some request.kind asks)
    failed_stage name number (Building reason) cause asks missed = absurd (none-some request.kind asks)

  stage_strays : (name : List ℕ) (number : RequestNumber) (stage : Stage) (s : ReplyStatus) → kind_at name number stage ≡ Some request.kind
      → Fits rows.end request.kind s → Tells s → Strays stage (answered_at rows stage s)
  stage_strays name number (Holding reason) s asks fits tells =
      consumed_strays reason s (subst (λ (k : RequestKind). Fits rows.end k s) (sym (same_Some (kind.Consumed reason) request.kind asks)) fits) tells
  stage_strays name number (Starting reason built) s asks fits tells =
      started_strays reason built s (subst (λ (k : RequestKind). Fits rows.end k s) (sym (same_Some kind.CommitStart request.kind asks)) fits) tells
  stage_strays name number (Uploading reason built) s asks fits tells =
      uploaded_strays reason built (upload_path name number) (file_of built) s
      (subst (λ (k : RequestKind). Fits rows.end k s) (sym (same_Some (kind.Upload (upload_path name number) (file_of built)) request.kind asks)) fits) tells
  stage_strays name number (Ending reason built path) s asks fits tells =
      ended_strays reason built path path s (subst (λ (k : RequestKind). Fits rows.end k s) (sym (same_Some (kind.CommitEnd path) request.kind asks)) fits) tells
  stage_strays name number InitialConsuming s asks fits tells = absurd (none-some request.kind asks)
  stage_strays name number (CatchingUp target reason) s asks fits tells = absurd (none-some request.kind asks)
  stage_strays name number (ConsumingToOnline end done) s asks fits tells = absurd (none-some request.kind asks)
  stage_strays name number (Retaining done) s asks fits tells = absurd (none-some request.kind asks)
  stage_strays name number (Building reason) s asks fits tells = absurd (none-some request.kind asks)

-- ---- a replica

module _ (h : List Seen) (request : Request) (m n : Option Completion) (less : spent_again h request.partition request.sequence n ≤ spent_again h request.partition request.sequence m) where
  abbrev who : ℕ
  who = request.number.instance.0

  abbrev again : Option Completion → Phase → ℕ
  again k ph = spent_again h request.partition request.sequence k + stray_again k who ph

  phase_strays : (name : List ℕ) (number : RequestNumber) (ph : Phase) (s : ReplyStatus) → kind_in name number ph ≡ Some request.kind
      → request.offset ≡ cur_in ph → Fits (cur_in ph) request.kind s → StatusTells h request m n s
      → stray_again n who (phase_of (answered ph s)) ≤ stray_again m who ph
  phase_strays name number (phase.Unsealed o) s asks at_end fits tells =
      stage_strays h request m n o.rows at_end name number o.stage s asks fits tells
  phase_strays name number (phase.Discarded d) s asks at_end fits tells = by_processed (is_processed s)
    where
      by_processed : (b : Bool)
          → stray_again n who (phase_of (cond b (Stays (phase.Discarded (record d { stopped = false }))) (Stays (phase.Discarded d)))) ≤ stray_again m who (phase.Discarded d)
      by_processed true = omega arith
      by_processed false = omega arith
  phase_strays name number (phase.Retained kept) s asks at_end fits tells = absurd (none-some request.kind asks)
  phase_strays name number (phase.Committed kept) s asks at_end fits tells = absurd (none-some request.kind asks)

  stop_asks : (d : Discarded) (b : Bool) → cond b (Some kind.Stopped) None ≡ Some request.kind → request.kind ≡ kind.Stopped
  stop_asks d true e = sym (same_Some kind.Stopped request.kind e)
  stop_asks d false e = absurd (none-some request.kind e)

  phase_failed : (size : ℕ) (name : List ℕ) (number : RequestNumber) (ph : Phase) (cause : FailCause) → kind_in name number ph ≡ Some request.kind
      → request.offset ≡ cur_in ph → StatusTells h request m n (status.Failed cause)
      → ahead_in (phase_of (answered ph (status.Failed cause))) size + again n (phase_of (answered ph (status.Failed cause))) < ahead_in ph size + again m ph
  phase_failed size name number (phase.Unsealed o) cause asks at_end tells =
      failed_stage h request m n o.rows at_end size less name number o.stage cause asks tells
  phase_failed size name number (phase.Discarded d) cause asks at_end (inl out) =
      omega (arith, out.0, ap (spent_again h request.partition request.sequence) out.1)
  phase_failed size name number (phase.Discarded d) cause asks at_end (inr missed) =
      absurd (subst (λ (k : RequestKind). IsMissed k request.offset request.number.instance m) (stop_asks d d.stopped asks) missed)
  phase_failed size name number (phase.Retained kept) cause asks at_end tells = absurd (none-some request.kind asks)
  phase_failed size name number (phase.Committed kept) cause asks at_end tells = absurd (none-some request.kind asks)

  module _ (log : Log) (r : Consumer) (number : RequestNumber) (asks : kind_in r.name number r.phase ≡ Some request.kind) (at_end : request.offset ≡ cur_in r.phase) where
    abbrev AgainLess : ReplyStatus → Type 0
    AgainLess s =
        ahead_of log (turned r (answered r.phase s)) + again n (turned r (answered r.phase s)).phase < ahead_of log r + again m r.phase

    -- an answer that doesn't put it off
    other_less : (s : ReplyStatus) → Fits (cur_in r.phase) request.kind s → StatusTells h request m n s → (IsPutOff s → ⊥) → AgainLess s
    other_less s fits tells on = by_way (answer_falls log r number request.kind s asks fits)
      where
        by_way : IsPutOff s ⊎ (ahead_of log (turned r (answered r.phase s)) < ahead_of log r) → AgainLess s
        by_way (inl off) = absurd (on off)
        by_way (inr falls) =
            omega (
              arith,
              falls,
              less,
              phase_strays r.name number r.phase s asks at_end fits tells,
              ap (stray_again n who) (turned_phase r (answered r.phase s)),
            )

    failed_less : (cause : FailCause) → StatusTells h request m n (status.Failed cause) → AgainLess (status.Failed cause)
    failed_less cause tells =
        let t : Turn = answered r.phase (status.Failed cause) in
        let size : ℕ = length (messages_of log r.partition) in
        omega (
          arith,
          phase_failed size r.name number r.phase cause asks at_end tells,
          ap (stray_again n who) (turned_phase r t),
          turned_ahead log r t,
        )

    pub answer_again : (s : ReplyStatus) → Fits (cur_in r.phase) request.kind s → StatusTells h request m n s → IsWaiting s ⊎ AgainLess s
    answer_again status.Hold fits tells = inl (inl refl)
    answer_again status.NotLeader fits tells = inl (inr refl)
    answer_again (status.Failed cause) fits tells = inr (failed_less cause tells)
    answer_again (status.CatchUp x) fits tells = inr (other_less (status.CatchUp x) fits tells (λ off. off))
    answer_again (status.Commit x) fits tells = inr (other_less (status.Commit x) fits tells (λ off. off))
    answer_again (status.Keep seen) fits tells = inr (other_less (status.Keep seen) fits tells (λ off. off))
    answer_again status.Discard fits tells = inr (other_less status.Discard fits tells (λ off. off))
    answer_again status.CommitContinue fits tells = inr (other_less status.CommitContinue fits tells (λ off. off))
    answer_again (status.UploadSuccess path) fits tells = inr (other_less (status.UploadSuccess path) fits tells (λ off. off))
    answer_again (status.CommitSuccess seen) fits tells = inr (other_less (status.CommitSuccess seen) fits tells (λ off. off))
    answer_again status.Processed fits tells = inr (other_less status.Processed fits tells (λ off. off))
