-- What stays true of a replica's phase as it takes a step: it can come to where it is, and to a target that it catches up to, and it has
-- dropped its rows where it was told to.
use Rattle.std.proofs.Common.{◌≡◌, ℕ, Bool, true, false, cond, List, length, Option, Some, None, option_map, refl, subst}
use Rattle.std.specs.Prelude.{◌==◌, nat_le, nat_lt}
use Rattle.std.proofs.lemmas.Bool.{true≢false}
use Rattle.std.proofs.lemmas.Option.{none-some, same_Some}
use Rattle.rt_base.specs.declared.numbers.Moment.{Moment}
use Rattle.rt_base.specs.declared.numbers.Offset.{Offset}
use Rattle.rt_consumer.specs.Batch.{after_batch, asked_at, asked_in, filled, is_timed_out, row_limit, taken_in}
use Rattle.rt_consumer.specs.Consumer.{at, ends_at}
use Rattle.rt_consumer.specs.Replies.{answered, answered_at, consumed, continued, ended, extended, extended_at, is_processed, keeps, turned, uploaded}
use Rattle.rt_consumer.specs.Requests.{filed, filed_at, forced, forced_at, learned, stopped, stopped_at, stops_at}
use Rattle.rt_consumer.specs.declared.consumer.Consumer.{Consumer}
use Rattle.rt_consumer.specs.declared.phase.Discarded.{Discarded}
use Rattle.rt_consumer.specs.declared.phase.Phase.{Phase}
use Rattle.rt_consumer.specs.declared.phase.Phase.TheVariants as phase
use Rattle.rt_consumer.specs.declared.replies.Turn.{Turn}
use Rattle.rt_consumer.specs.declared.replies.Turn.TheVariants.{Stays, Goes}
use Rattle.rt_consumer.specs.declared.settings.Settings.{Settings}
use Rattle.rt_consumer.specs.declared.stage.Stage.{Stage}
use Rattle.rt_consumer.specs.declared.unsealed.Unsealed.{Unsealed}
use Rattle.rt_consumer.specs.declared.stage.Stage.TheVariants.{InitialConsuming, CatchingUp, Holding, ConsumingToOnline, Retaining, Building, Starting, Uploading, Ending}
use Rattle.rt_model.specs.declared.reply.ReplyStatus.{ReplyStatus}
use Rattle.rt_model.specs.declared.reply.ReplyStatus.TheVariants as status
use Rattle.rt_model.specs.declared.request.Reason.{Reason}
use Rattle.rt_model.specs.declared.request.Reason.TheVariants.{Force, RowLimit, TimeLimit}
use Rattle.rt_model.specs.declared.seg_meta.SeenMeta.{SeenMeta}
use Rattle.rt_mutable.specs.Consuming.{Consuming}
use Rattle.rt_segment.specs.Segment.{SealedSegment}
use Rattle.rt_heal.specs.Dropped.{GoesWith, IsDropped}

-- a target is so
abbrev pub StageSo : (Offset → Type 0) → Stage → Type 0
StageSo W (CatchingUp target reason) = W target
StageSo W InitialConsuming = Unit {0}
StageSo W (Holding reason) = Unit {0}
StageSo W (ConsumingToOnline end done) = Unit {0}
StageSo W (Retaining done) = Unit {0}
StageSo W (Building reason) = Unit {0}
StageSo W (Starting reason built) = Unit {0}
StageSo W (Uploading reason built) = Unit {0}
StageSo W (Ending reason built path) = Unit {0}

-- and so is the offset of the next message; and the rows are dropped for good only where this holds
abbrev pub PhaseSo : (Offset → Type 0) → Type 0 → Phase → Type 0
PhaseSo W O (phase.Unsealed o) = W o.rows.end × StageSo W o.stage
PhaseSo W O (phase.Retained kept) = Unit {0}
PhaseSo W O (phase.Committed kept) = Unit {0}
PhaseSo W O (phase.Discarded d) = W d.cur × (d.stopped ≡ false → O)

pub phase_out : (W : Offset → Type 0) (O : Type 0) (ph : Phase) → PhaseSo W O ph → IsDropped ph → O
phase_out W O (phase.Unsealed o) so dropped = absurd dropped
phase_out W O (phase.Retained kept) so dropped = absurd dropped
phase_out W O (phase.Committed kept) so dropped = absurd dropped
phase_out W O (phase.Discarded d) so dropped = so.1 dropped

stage_weaker : (W V : Offset → Type 0) (stage : Stage) → ((x : Offset) → W x → V x) → StageSo W stage → StageSo V stage
stage_weaker W V (CatchingUp target reason) f so = f target so
stage_weaker W V InitialConsuming f so = tt
stage_weaker W V (Holding reason) f so = tt
stage_weaker W V (ConsumingToOnline end done) f so = tt
stage_weaker W V (Retaining done) f so = tt
stage_weaker W V (Building reason) f so = tt
stage_weaker W V (Starting reason built) f so = tt
stage_weaker W V (Uploading reason built) f so = tt
stage_weaker W V (Ending reason built path) f so = tt

pub phase_weaker : (W : Offset → Type 0) (O : Type 0) (V : Offset → Type 0) (Q : Type 0) (ph : Phase) → ((x : Offset) → W x → V x) → (O → Q) → PhaseSo W O ph
    → PhaseSo V Q ph
phase_weaker W O V Q (phase.Unsealed o) f g so = (f o.rows.end so.0, stage_weaker W V o.stage f so.1)
phase_weaker W O V Q (phase.Retained kept) f g so = tt
phase_weaker W O V Q (phase.Committed kept) f g so = tt
phase_weaker W O V Q (phase.Discarded d) f g so = (f d.cur so.0, λ e. g (so.1 e))

processed_is : (s : ReplyStatus) → is_processed s ≡ true → s ≡ status.Processed
processed_is status.Processed e = refl
processed_is status.Discard e = absurd (cc)
processed_is status.Hold e = absurd (cc)
processed_is (status.CatchUp t) e = absurd (cc)
processed_is (status.Commit x) e = absurd (cc)
processed_is (status.Keep seen) e = absurd (cc)
processed_is status.NotLeader e = absurd (cc)
processed_is status.CommitContinue e = absurd (cc)
processed_is (status.UploadSuccess path) e = absurd (cc)
processed_is (status.CommitSuccess seen) e = absurd (cc)
processed_is (status.Failed cause) e = absurd (cc)

either : {X : Type 0} (P : X → Type 0) (b : Bool) (x y : X) → P x → P y → P (cond b x y)
either P true x y h k = h
either P false x y h k = k

module _ (W : Offset → Type 0) (O : Type 0) where
  abbrev So : Phase → Type 0
  So ph = PhaseSo W O ph

  -- ---- steps of its own

  pub forced_so : (ph n : Phase) → forced ph ≡ Some n → So ph → So n
  forced_so (phase.Unsealed o) n e so = by_stage o.stage e
    where
      by_test : (b : Bool) → cond b (Some (at o.rows (Holding Force))) None ≡ Some n → So n
      by_test true is = subst So (same_Some (at o.rows (Holding Force)) n is) (so.0, tt)
      by_test false is = absurd (none-some n is)

      by_stage : (stage : Stage) → forced_at o.rows stage ≡ Some n → So n
      by_stage InitialConsuming is = by_test (nat_lt o.rows.start.0 o.rows.end.0) is
      by_stage (CatchingUp target reason) is = absurd (none-some n is)
      by_stage (Holding reason) is = absurd (none-some n is)
      by_stage (ConsumingToOnline end done) is = absurd (none-some n is)
      by_stage (Retaining done) is = absurd (none-some n is)
      by_stage (Building reason) is = absurd (none-some n is)
      by_stage (Starting reason built) is = absurd (none-some n is)
      by_stage (Uploading reason built) is = absurd (none-some n is)
      by_stage (Ending reason built path) is = absurd (none-some n is)
  forced_so (phase.Retained kept) n e so = absurd (none-some n e)
  forced_so (phase.Committed kept) n e so = absurd (none-some n e)
  forced_so (phase.Discarded d) n e so = absurd (none-some n e)

  -- a stop isn't processed yet
  pub stopped_so : (ph n : Phase) → stopped ph ≡ Some n → So ph → So n
  stopped_so (phase.Unsealed o) n e so = by_test (stops_at o.stage) e
    where
      by_test : (b : Bool) → cond b (Some (stopped_at o.rows.end)) None ≡ Some n → So n
      by_test true is = subst So (same_Some (stopped_at o.rows.end) n is) (so.0, λ f. absurd (true≢false f))
      by_test false is = absurd (none-some n is)
  stopped_so (phase.Retained kept) n e so = absurd (none-some n e)
  stopped_so (phase.Committed kept) n e so = absurd (none-some n e)
  stopped_so (phase.Discarded d) n e so = absurd (none-some n e)

  pub filed_so : (ph : Phase) (file : SealedSegment) → So ph → So (filed ph file)
  filed_so (phase.Unsealed o) file so = by_stage o.stage so.1
    where
      by_stage : (stage : Stage) → StageSo W stage → So (filed_at o.rows stage file)
      by_stage (CatchingUp target reason) h = (so.0, h)
      by_stage (Retaining done) h = tt
      by_stage InitialConsuming h = (so.0, tt)
      by_stage (Holding reason) h = (so.0, tt)
      by_stage (ConsumingToOnline end done) h = (so.0, tt)
      by_stage (Building reason) h = (so.0, tt)
      by_stage (Starting reason built) h = (so.0, tt)
      by_stage (Uploading reason built) h = (so.0, tt)
      by_stage (Ending reason built path) h = (so.0, tt)
  filed_so (phase.Retained kept) file so = so
  filed_so (phase.Committed kept) file so = so
  filed_so (phase.Discarded d) file so = so

  -- a batch is taken
  batch_so : (settings : Settings) (began now : Moment) (rows : Consuming) (stage : Stage) → StageSo W stage → StageSo W (after_batch settings began now rows stage)
  batch_so settings began now rows InitialConsuming h =
      either (StageSo W) (nat_le settings.rows (length rows.rows)) (Holding RowLimit) _ tt
      (either (StageSo W) (is_timed_out settings.millis began now rows.start rows.end) (Holding TimeLimit) InitialConsuming tt tt)
  batch_so settings began now rows (CatchingUp target reason) h =
      either (StageSo W) (nat_le target.0 rows.end.0) (Holding reason) (CatchingUp target reason) tt h
  batch_so settings began now rows (ConsumingToOnline end done) h =
      either (StageSo W) (nat_le end.0 rows.end.0) (Retaining done) (ConsumingToOnline end done) tt tt
  batch_so settings began now rows (Holding reason) h = tt
  batch_so settings began now rows (Retaining done) h = tt
  batch_so settings began now rows (Building reason) h = tt
  batch_so settings began now rows (Starting reason built) h = tt
  batch_so settings began now rows (Uploading reason built) h = tt
  batch_so settings began now rows (Ending reason built path) h = tt

  -- one that leads to where a replica can come
  abbrev Fills : Consumer → Phase → (ℕ → List (List ℕ)) → Type 0
  Fills r ph messages =
      (o : Unsealed) (count : ℕ) → ph ≡ phase.Unsealed o → W o.rows.end
      → W (filled r.settings.schema (row_limit r.settings o.stage) o.rows (messages count)).end

  pub taken_so : (r next : Consumer) (ph : Phase) (max : ℕ) (now : Moment) (messages : ℕ → List (List ℕ)) → Fills r ph messages
      → option_map (λ count. taken_in r ph now (messages count)) (asked_in ph max) ≡ Some next → So ph → So next.phase
  taken_so r next (phase.Unsealed o) max now messages fills e so = by_count (asked_at o.stage o.rows.end max) e
    where
      by_count : (n : Option ℕ) → option_map (λ count. taken_in r (phase.Unsealed o) now (messages count)) n ≡ Some next → So next.phase
      by_count None is = absurd (none-some next is)
      by_count (Some count) is =
          subst (λ (x : Consumer). So x.phase) (same_Some (taken_in r (phase.Unsealed o) now (messages count)) next is) (
            fills o count refl so.0,
            batch_so r.settings r.started now (filled r.settings.schema (row_limit r.settings o.stage) o.rows (messages count)) o.stage so.1,
          )
  taken_so r next (phase.Retained kept) max now messages fills e so = absurd (none-some next e)
  taken_so r next (phase.Committed kept) max now messages fills e so = absurd (none-some next e)
  taken_so r next (phase.Discarded d) max now messages fills e so = absurd (none-some next e)

  pub learned_so : (r : Consumer) (ph : Phase) (done : SeenMeta) (end : Offset) → So r.phase → So ph → So (learned r ph done end).phase
  learned_so r (phase.Unsealed o) done end so own =
      either So (nat_lt o.rows.end.0 end.0) (at o.rows (ConsumingToOnline end done)) (at o.rows (Retaining done)) (own.0, tt) (own.0, tt)
  learned_so r (phase.Retained kept) done end so own = so
  learned_so r (phase.Committed kept) done end so own = so
  learned_so r (phase.Discarded d) done end so own = so

  -- ---- answers

  abbrev pub TurnSo : Turn → Type 0
  TurnSo (Stays ph) = So ph
  TurnSo (Goes ph) = So ph

  pub turned_so : (r : Consumer) (t : Turn) → TurnSo t → So (turned r t).phase
  turned_so r (Stays ph) h = h
  turned_so r (Goes ph) h = h

  module _ (P : Type 0) (rows : Consuming) (here : W rows.end) where
    abbrev Told : ReplyStatus → Type 0
    Told s = GoesWith W O P s

    consumed_so : (reason : Reason) (s : ReplyStatus) → Told s → TurnSo (consumed rows reason s)
    consumed_so reason (status.CatchUp t) h = either TurnSo (nat_lt rows.end.0 t.0) _ _ (here, h) (here, tt)
    consumed_so reason (status.Commit x) h = either TurnSo (x.0 == rows.end.0) _ _ (here, tt) (here, tt)
    consumed_so reason (status.Keep seen) h = either TurnSo (ends_at rows.end seen) _ _ (here, tt) (here, tt)
    consumed_so reason status.Discard h = (here, λ e. h)
    consumed_so reason status.Hold h = (here, tt)
    consumed_so reason status.NotLeader h = (here, tt)
    consumed_so reason status.CommitContinue h = (here, tt)
    consumed_so reason (status.UploadSuccess path) h = (here, tt)
    consumed_so reason (status.CommitSuccess seen) h = (here, tt)
    consumed_so reason status.Processed h = (here, tt)
    consumed_so reason (status.Failed cause) h = (here, tt)

    keeps_so : (reason : Reason) (seen : SeenMeta) → TurnSo (keeps rows reason seen)
    keeps_so reason seen = either TurnSo (ends_at rows.end seen) _ _ (here, tt) (here, tt)

    continued_so : (reason : Reason) (built : SealedSegment) (s : ReplyStatus) → Told s → TurnSo (continued rows reason built s)
    continued_so reason built (status.Keep seen) h = keeps_so reason seen
    continued_so reason built status.Discard h = (here, λ e. h)
    continued_so reason built (status.CatchUp t) h = (here, tt)
    continued_so reason built (status.Commit x) h = (here, tt)
    continued_so reason built status.Hold h = (here, tt)
    continued_so reason built status.NotLeader h = (here, tt)
    continued_so reason built status.CommitContinue h = (here, tt)
    continued_so reason built (status.UploadSuccess path) h = (here, tt)
    continued_so reason built (status.CommitSuccess seen) h = (here, tt)
    continued_so reason built status.Processed h = (here, tt)
    continued_so reason built (status.Failed cause) h = (here, tt)

    uploaded_so : (reason : Reason) (built : SealedSegment) (s : ReplyStatus) → TurnSo (uploaded rows reason built s)
    uploaded_so reason built (status.Keep seen) = (here, tt)
    uploaded_so reason built status.Discard = (here, tt)
    uploaded_so reason built (status.CatchUp t) = (here, tt)
    uploaded_so reason built (status.Commit x) = (here, tt)
    uploaded_so reason built status.Hold = (here, tt)
    uploaded_so reason built status.NotLeader = (here, tt)
    uploaded_so reason built status.CommitContinue = (here, tt)
    uploaded_so reason built (status.UploadSuccess path) = (here, tt)
    uploaded_so reason built (status.CommitSuccess seen) = (here, tt)
    uploaded_so reason built status.Processed = (here, tt)
    uploaded_so reason built (status.Failed cause) = (here, tt)

    ended_so : (reason : Reason) (built : SealedSegment) (s : ReplyStatus) → Told s → TurnSo (ended rows reason built s)
    ended_so reason built (status.Keep seen) h = keeps_so reason seen
    ended_so reason built status.Discard h = (here, λ e. h)
    ended_so reason built (status.CommitSuccess seen) h = either TurnSo (ends_at rows.end seen) _ _ tt (here, tt)
    ended_so reason built (status.CatchUp t) h = (here, tt)
    ended_so reason built (status.Commit x) h = (here, tt)
    ended_so reason built status.Hold h = (here, tt)
    ended_so reason built status.NotLeader h = (here, tt)
    ended_so reason built status.CommitContinue h = (here, tt)
    ended_so reason built (status.UploadSuccess path) h = (here, tt)
    ended_so reason built status.Processed h = (here, tt)
    ended_so reason built (status.Failed cause) h = (here, tt)

    stage_so : (stage : Stage) (s : ReplyStatus) → Told s → StageSo W stage → TurnSo (answered_at rows stage s)
    stage_so (Holding reason) s h so = consumed_so reason s h
    stage_so (Starting reason built) s h so = continued_so reason built s h
    stage_so (Uploading reason built) s h so = uploaded_so reason built s
    stage_so (Ending reason built path) s h so = ended_so reason built s h
    stage_so InitialConsuming s h so = (here, tt)
    stage_so (CatchingUp target reason) s h so = (here, so)
    stage_so (ConsumingToOnline end done) s h so = (here, tt)
    stage_so (Retaining done) s h so = (here, tt)
    stage_so (Building reason) s h so = (here, tt)

    more_so : (stage : Stage) (b : Bool) → StageSo W stage → TurnSo (extended_at rows stage b)
    more_so (Building reason) b so = either TurnSo b _ _ (here, tt) (here, tt)
    more_so (Starting reason built) b so = either TurnSo b _ _ (here, tt) (here, tt)
    more_so (CatchingUp target reason) b so = (here, so)
    more_so InitialConsuming b so = (here, tt)
    more_so (Holding reason) b so = (here, tt)
    more_so (ConsumingToOnline end done) b so = (here, tt)
    more_so (Retaining done) b so = (here, tt)
    more_so (Uploading reason built) b so = (here, tt)
    more_so (Ending reason built path) b so = (here, tt)

  -- an answer to the request of a phase; one to a stop lets drop what the stop did
  pub answered_so : (P : Type 0) (ph : Phase) (s : ReplyStatus) → GoesWith W O P s → ((d : Discarded) → ph ≡ phase.Discarded d → P → O) → So ph → TurnSo (answered ph s)
  answered_so P (phase.Unsealed o) s h stops so = stage_so P o.rows so.0 o.stage s h so.1
  answered_so P (phase.Retained kept) s h stops so = tt
  answered_so P (phase.Committed kept) s h stops so = tt
  answered_so P (phase.Discarded d) s h stops so = by_test (is_processed s) refl
    where
      by_test : (b : Bool) → is_processed s ≡ b → TurnSo (cond b (Stays (phase.Discarded (record d { stopped = false }))) (Stays (phase.Discarded d)))
      by_test true is = (so.0, λ e. stops d refl (subst (GoesWith W O P) (processed_is s is) h))
      by_test false is = so

  -- one to a request for more time
  pub extended_so : (ph : Phase) (s : ReplyStatus) → So ph → TurnSo (extended ph s)
  extended_so (phase.Unsealed o) s so = more_so O o.rows so.0 o.stage (is_processed s) so.1
  extended_so (phase.Discarded d) s so = so
  extended_so (phase.Retained kept) s so = tt
  extended_so (phase.Committed kept) s so = tt
