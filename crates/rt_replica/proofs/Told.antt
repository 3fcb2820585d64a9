-- What a replica was told stays told as it steps, whatever tells it.
use Rattle.std.proofs.Common.{◌≡◌, ℕ, Bool, true, false, cond, nat_le, nat_lt, List, length, Option, Some, None, option_map, refl, sym, subst}
use Rattle.rt_base.specs.declared.numbers.Moment.{Moment}
use Rattle.rt_base.specs.declared.numbers.Offset.{Offset}
use Rattle.rt_mutable.specs.Consuming.{Consuming}
use Rattle.rt_segment.specs.Segment.{SealedSegment}
use Rattle.rt_stream.specs.Log.{Log}
use Rattle.rt_model.specs.declared.request.Reason.TheVariants.{Force}
use Rattle.rt_model.specs.declared.seg_meta.SeenMeta.{SeenMeta}
use Rattle.rt_consumer.specs.declared.phase.Phase.{Phase}
use Rattle.rt_consumer.specs.declared.phase.Phase.TheVariants as phase
use Rattle.rt_consumer.specs.declared.settings.Settings.{Settings}
use Rattle.rt_consumer.specs.declared.stage.Stage.{Stage}
use Rattle.rt_consumer.specs.declared.stage.Stage.TheVariants.{InitialConsuming, CatchingUp, Holding, ConsumingToOnline, Retaining, Building, Starting, Uploading, Ending}
use Rattle.rt_consumer.specs.declared.consumer.Consumer.{Consumer}
use Rattle.rt_consumer.specs.Batch.{after_batch, asked_at, asked_in, consumed, filled, is_timed_out, messages_from, row_limit, taken, taken_at, taken_in}
use Rattle.rt_consumer.specs.Consumer.{at, cur}
use Rattle.rt_consumer.specs.Requests.{filed, filed_at, forced, forced_at, learned, learned_at, stopped, stopped_at, stops_at}
use Rattle.rt_replica.specs.Lasting.{ToldAt, ToldIn}

-- what is told by one kind of facts is told by another that follows from it
module _ (Was Was2 : SeenMeta → Type 0) (Up Up2 : Offset → SealedSegment → List ℕ → Type 0) (was : (done : SeenMeta) → Was done → Was2 done) (up : (x : Offset) (built : SealedSegment) (path : List ℕ) → Up x built path → Up2 x built path) where
  told_at_each : (x : Offset) (stage : Stage) → ToldAt Was Up x stage → ToldAt Was2 Up2 x stage
  told_at_each x (ConsumingToOnline end done) t = was done t
  told_at_each x (Retaining done) t = was done t
  told_at_each x (Ending reason built path) t = up x built path t
  told_at_each x InitialConsuming t = tt
  told_at_each x (CatchingUp target reason) t = tt
  told_at_each x (Holding reason) t = tt
  told_at_each x (Building reason) t = tt
  told_at_each x (Starting reason built) t = tt
  told_at_each x (Uploading reason built) t = tt

  pub told_in_each : (ph : Phase) → ToldIn Was Up ph → ToldIn Was2 Up2 ph
  told_in_each (phase.Unsealed o) t = told_at_each o.rows.end o.stage t
  told_in_each (phase.Retained kept) t = was kept.done t
  told_in_each (phase.Committed kept) t = was kept.done t
  told_in_each (phase.Discarded d) t = tt

stage_either : (P : Stage → Type 0) (b : Bool) (x y : Stage) → P x → P y → P (cond b x y)
stage_either P true x y h k = h
stage_either P false x y h k = k

phase_either : (P : Phase → Type 0) (b : Bool) (x y : Phase) → P x → P y → P (cond b x y)
phase_either P true x y h k = h
phase_either P false x y h k = k

abbrev a_count : ℕ → Option ℕ
a_count n = Some n

none_some : (n : ℕ) → None ≡ a_count n → ⊥
none_some n e = cc

abbrev a_phase : Phase → Option Phase
a_phase p = Some p

no_phase : (p : Phase) → None ≡ a_phase p → ⊥
no_phase p e = cc

same_phase : (p n : Phase) → a_phase p ≡ a_phase n → p ≡ n
same_phase p n e = cc

module _ (Was : SeenMeta → Type 0) (Up : Offset → SealedSegment → List ℕ → Type 0) where
  abbrev Told : Offset → Stage → Type 0
  Told x stage = ToldAt Was Up x stage

  batch_told : (settings : Settings) (began now : Moment) (rows : Consuming) (old : Offset) (stage : Stage) (max count : ℕ) → asked_at stage old max ≡ Some count
      → Told old stage → Told rows.end (after_batch settings began now rows stage)
  batch_told settings began now rows old InitialConsuming max count e t =
      stage_either (Told rows.end) (nat_le settings.rows (length rows.rows)) _ _ tt
      (stage_either (Told rows.end) (is_timed_out settings.millis began now rows.start rows.end) _ _ tt tt)
  batch_told settings began now rows old (CatchingUp target reason) max count e t = stage_either (Told rows.end) (nat_le target.0 rows.end.0) _ _ tt tt
  batch_told settings began now rows old (ConsumingToOnline end done) max count e t = stage_either (Told rows.end) (nat_le end.0 rows.end.0) _ _ t t
  batch_told settings began now rows old (Holding reason) max count e t = tt
  batch_told settings began now rows old (Retaining done) max count e t = t
  batch_told settings began now rows old (Building reason) max count e t = tt
  batch_told settings began now rows old (Starting reason built) max count e t = tt
  batch_told settings began now rows old (Uploading reason built) max count e t = tt
  batch_told settings began now rows old (Ending reason built path) max count e t = absurd (none_some count e)

  filed_at_told : (rows : Consuming) (stage : Stage) (file : SealedSegment) → Told rows.end stage → ToldIn Was Up (filed_at rows stage file)
  filed_at_told rows (Retaining done) file t = t
  filed_at_told rows (Building reason) file t = tt
  filed_at_told rows InitialConsuming file t = tt
  filed_at_told rows (CatchingUp target reason) file t = tt
  filed_at_told rows (Holding reason) file t = tt
  filed_at_told rows (ConsumingToOnline end done) file t = t
  filed_at_told rows (Starting reason built) file t = tt
  filed_at_told rows (Uploading reason built) file t = tt
  filed_at_told rows (Ending reason built path) file t = t

  filed_told : (ph : Phase) (file : SealedSegment) → ToldIn Was Up ph → ToldIn Was Up (filed ph file)
  filed_told (phase.Unsealed o) file t = filed_at_told o.rows o.stage file t
  filed_told (phase.Retained kept) file t = t
  filed_told (phase.Committed kept) file t = t
  filed_told (phase.Discarded d) file t = t

  learned_at_told : (rows : Consuming) (done : SeenMeta) (end : Offset) → Was done → ToldIn Was Up (learned_at rows done end)
  learned_at_told rows done end w = phase_either (ToldIn Was Up) (nat_lt rows.end.0 end.0) _ _ w w

  forced_by_told : (rows : Consuming) (n : Phase) (b : Bool) → cond b (a_phase (at rows (Holding Force))) None ≡ a_phase n → ToldIn Was Up n
  forced_by_told rows n true e = subst (ToldIn Was Up) (same_phase (at rows (Holding Force)) n e) tt
  forced_by_told rows n false e = absurd (no_phase n e)

  forced_at_told : (rows : Consuming) (stage : Stage) (n : Phase) → forced_at rows stage ≡ a_phase n → ToldIn Was Up n
  forced_at_told rows InitialConsuming n e = forced_by_told rows n (nat_lt rows.start.0 rows.end.0) e
  forced_at_told rows (CatchingUp target reason) n e = absurd (no_phase n e)
  forced_at_told rows (Holding reason) n e = absurd (no_phase n e)
  forced_at_told rows (ConsumingToOnline end done) n e = absurd (no_phase n e)
  forced_at_told rows (Retaining done) n e = absurd (no_phase n e)
  forced_at_told rows (Building reason) n e = absurd (no_phase n e)
  forced_at_told rows (Starting reason built) n e = absurd (no_phase n e)
  forced_at_told rows (Uploading reason built) n e = absurd (no_phase n e)
  forced_at_told rows (Ending reason built path) n e = absurd (no_phase n e)

  forced_told : (ph n : Phase) → forced ph ≡ a_phase n → ToldIn Was Up n
  forced_told (phase.Unsealed o) n e = forced_at_told o.rows o.stage n e
  forced_told (phase.Retained kept) n e = absurd (no_phase n e)
  forced_told (phase.Committed kept) n e = absurd (no_phase n e)
  forced_told (phase.Discarded d) n e = absurd (no_phase n e)

  stopped_by_told : (x : Offset) (n : Phase) (b : Bool) → cond b (a_phase (stopped_at x)) None ≡ a_phase n → ToldIn Was Up n
  stopped_by_told x n true e = subst (ToldIn Was Up) (same_phase (stopped_at x) n e) tt
  stopped_by_told x n false e = absurd (no_phase n e)

  stopped_told : (ph n : Phase) → stopped ph ≡ a_phase n → ToldIn Was Up n
  stopped_told (phase.Unsealed o) n e = stopped_by_told o.rows.end n (stops_at o.stage) e
  stopped_told (phase.Retained kept) n e = absurd (no_phase n e)
  stopped_told (phase.Committed kept) n e = absurd (no_phase n e)
  stopped_told (phase.Discarded d) n e = absurd (no_phase n e)

abbrev a_consumer : Consumer → Option Consumer
a_consumer r = Some r

no_consumer : (r : Consumer) → None ≡ a_consumer r → ⊥
no_consumer r e = cc

same_consumer : (r n : Consumer) → a_consumer r ≡ a_consumer n → r ≡ n
same_consumer r n e = cc

-- a step that keeps what is held and told, and waits for nothing, keeps P
module _ (Was : SeenMeta → Type 0) (Up : Offset → SealedSegment → List ℕ → Type 0) (r : Consumer) (Held P : Consumer → Type 0) (k : P r) (told : ToldIn Was Up r.phase)
    (moved : (ph : Phase) → Held (record r { phase = ph; waited = None }) → ToldIn Was Up ph → P (record r { phase = ph; waited = None })) where
  taken_in_moves : (ph : Phase) (max count : ℕ) (now : Moment) (messages : List (List ℕ)) → asked_in ph max ≡ Some count
      → ToldIn Was Up ph → Held (taken_in r ph now messages) → P (taken_in r ph now messages)
  taken_in_moves (phase.Unsealed o) max count now messages e t held =
      let rows = filled r.settings.schema (row_limit r.settings o.stage) o.rows messages in
      moved (phase.Unsealed (taken_at r.settings r.started now o messages)) held
      (batch_told Was Up r.settings r.started now rows o.rows.end o.stage max count e t)
  taken_in_moves (phase.Retained kept) max count now messages e t held = k
  taken_in_moves (phase.Committed kept) max count now messages e t held = k
  taken_in_moves (phase.Discarded d) max count now messages e t held = k

  consumed_by : (log : Log) (max : ℕ) (now : Moment) (new : Consumer) (o : Option ℕ) → asked_in r.phase max ≡ o
      → option_map (λ count. taken r now (messages_from log r.partition (cur r) count)) o ≡ a_consumer new → Held new → P new
  consumed_by log max now new None asked e held = absurd (no_consumer new e)
  consumed_by log max now new (Some count) asked e held =
      let messages = messages_from log r.partition (cur r) count in
      let same = same_consumer (taken r now messages) new e in
      subst P same (taken_in_moves r.phase max count now messages asked told (subst Held (sym same) held))

  pub consumed_moves : (log : Log) (max : ℕ) (now : Moment) (new : Consumer) → consumed r max now log ≡ Some new → Held new → P new
  consumed_moves log max now new e held = consumed_by log max now new (asked_in r.phase max) refl e held

  pub forced_moves : (n : Phase) → forced r.phase ≡ Some n → Held (record r { phase = n; waited = None }) → P (record r { phase = n; waited = None })
  forced_moves n e held = moved n held (forced_told Was Up r.phase n e)

  pub stopped_moves : (n : Phase) → stopped r.phase ≡ Some n → Held (record r { phase = n; waited = None }) → P (record r { phase = n; waited = None })
  stopped_moves n e held = moved n held (stopped_told Was Up r.phase n e)

  pub built_moves : (file : SealedSegment) → Held (record r { phase = filed r.phase file; waited = None }) → P (record r { phase = filed r.phase file; waited = None })
  built_moves file held = moved (filed r.phase file) held (filed_told Was Up r.phase file told)

  learned_in_moves : (ph : Phase) (done : SeenMeta) (end : Offset) → Was done → Held (learned r ph done end) → P (learned r ph done end)
  learned_in_moves (phase.Unsealed o) done end w held = moved _ held (learned_at_told Was Up o.rows done end w)
  learned_in_moves (phase.Retained kept) done end w held = k
  learned_in_moves (phase.Committed kept) done end w held = k
  learned_in_moves (phase.Discarded d) done end w held = k

  pub learned_moves : (done : SeenMeta) (end : Offset) → Was done → Held (learned r r.phase done end) → P (learned r r.phase done end)
  learned_moves done end w held = learned_in_moves r.phase done end w held
