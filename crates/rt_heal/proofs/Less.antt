-- A batch that is due and a build leave less to do for a replica.
use Rattle.std.proofs.Common.{◌≡◌, ℕ, zero, suc, ◌+◌, ◌-◌, ◌<◌, ◌≤◌, ◌⊎◌, inl, inr, true, false, ◌&&◌, ◌||◌, cond, nat_lt, List, [], ◌∷◌, Option, Some, None, Ok, length, take, drop, min, refl, sym, ◌∙◌, ap, subst, arith}
use Rattle.std.specs.Prelude.{nat_le, option_map}
use Rattle.std.proofs.lemmas.Bool.{and_from, and_parts, cases_lt, cond_both, false≢true, le-leb, lt-ltb, ltb-true, or_cases, true≢false}
use Rattle.std.proofs.lemmas.Option.{none-some, same_Some}
use Rattle.rt_base.specs.declared.limits.TheConstants.{MOST_ROWS}
use Rattle.rt_base.specs.declared.numbers.Moment.{Moment}
use Rattle.rt_base.specs.declared.numbers.Offset.{Offset}
use Rattle.rt_consumer.specs.Batch.{after_batch, asked_at, asked_in, consumed, filled, is_timed_out, messages_from, row_limit, taken_in}
use Rattle.rt_consumer.specs.Consumer.{at, cur_in, state_at, state_of, AreRows, IsConsumer, IsPhase, IsStage}
use Rattle.rt_consumer.specs.Next.{takes_in}
use Rattle.rt_consumer.specs.Requests.{builds_at, builds_in, filed, filed_at, is_below_target, is_below_target_at, is_ready, Builds}
use Rattle.rt_consumer.specs.declared.consumer.Consumer.{Consumer}
use Rattle.rt_consumer.specs.declared.phase.Phase.{Phase}
use Rattle.rt_consumer.specs.declared.phase.Phase.TheVariants as phase
use Rattle.rt_consumer.specs.declared.stage.Stage.{Stage}
use Rattle.rt_consumer.specs.declared.stage.Stage.TheVariants.{InitialConsuming, CatchingUp, Holding, ConsumingToOnline, Retaining, Building, Starting, Uploading, Ending}
use Rattle.rt_entry.specs.Transition.{is_open}
use Rattle.rt_consumer.proofs.Filling.{filled_full, filled_more}
use Rattle.rt_model.specs.declared.request.Reason.TheVariants.{RowLimit, TimeLimit}
use Rattle.rt_mutable.specs.Consuming.{after_message, Consuming}
use Rattle.rt_replica.specs.Held.{HoldsIn, HoldsRows, IsHeld}
use Rattle.rt_schema.specs.Row.{row_of}
use Rattle.rt_schema.specs.declared.row.Row.{Row}
use Rattle.rt_schema.specs.declared.schema.Schema.{Schema}
use Rattle.rt_segment.specs.Segment.{SealedSegment}
use Rattle.rt_stream.specs.Log.{end_of, messages_of, Log}
use Rattle.rt_heal.specs.Reachable.{IsReachable}
use Rattle.rt_heal.proofs.Reaching.{held_rows, message_end, rows_least}
use Rattle.rt_heal.specs.Left.{left_at, left_in, left_of, CanFollow, CanFollowAt, CanFollowIn}

-- ---- messages

-- some are taken where there are some
taken_some : (ms : List (List ℕ)) (x count : ℕ) → 0 < count → x < length ms → 0 < length (take count (drop x ms))
taken_some [] x count some lt = absurd (omega (arith, lt))
taken_some (m ∷ ms) zero zero some lt = absurd (omega (arith, some))
taken_some (m ∷ ms) zero (suc count) some lt = omega arith
taken_some (m ∷ ms) (suc x) count some lt = taken_some ms x count some (omega (arith, lt))

-- a batch goes no way back
pub filled_least : (schema : Schema) (limit : ℕ) (rows : Consuming) (ms : List (List ℕ)) → rows.end.0 ≤ (filled schema limit rows ms).end.0
filled_least schema limit rows [] = omega arith
filled_least schema limit rows (m ∷ ms) =
    cond_both (nat_lt (length rows.rows) limit) (filled schema limit (after_message rows (row_of schema m)) ms) rows
    (λ (x : Consuming). rows.end.0 ≤ x.end.0)
    (λ b. omega (arith, filled_least schema limit (after_message rows (row_of schema m)) ms, message_end rows (row_of schema m)))
    (λ b. omega arith)

-- and goes on, where there are messages and room for rows
filled_some : (schema : Schema) (limit : ℕ) (rows : Consuming) (ms : List (List ℕ)) → length rows.rows < limit → 0 < length ms
    → rows.end.0 < (filled schema limit rows ms).end.0
filled_some schema limit rows [] room some = absurd (omega (arith, some))
filled_some schema limit rows (m ∷ ms) room some =
    subst (λ (x : Consuming). rows.end.0 < x.end.0) (sym (filled_more schema limit rows m ms room))
    (omega (arith, filled_least schema limit (after_message rows (row_of schema m)) ms, message_end rows (row_of schema m)))

message_start : (rows : Consuming) (row : Option Row) → (after_message rows row).start ≡ rows.start
message_start rows None = refl
message_start rows (Some row) = refl

filled_start : (schema : Schema) (limit : ℕ) (rows : Consuming) (ms : List (List ℕ)) → (filled schema limit rows ms).start ≡ rows.start
filled_start schema limit rows [] = refl
filled_start schema limit rows (m ∷ ms) =
    cond_both (nat_lt (length rows.rows) limit) (filled schema limit (after_message rows (row_of schema m)) ms) rows
    (λ (x : Consuming). x.start ≡ rows.start)
    (λ b. filled_start schema limit (after_message rows (row_of schema m)) ms ∙ message_start rows (row_of schema m))
    (λ b. refl)

-- ---- a batch

module _ (r : Consumer) (log : Log) (now : Moment) (max : ℕ) (some : 0 < max) where
  abbrev all : List (List ℕ)
  all = messages_of log r.partition

  abbrev size : ℕ
  size = length all

  abbrev Reaches : Offset → Type 0
  Reaches = IsReachable r.settings.schema all r.start

  abbrev batch : ℕ → Offset → List (List ℕ)
  batch count x = messages_from log r.partition x count

  -- the rows behind a batch of so many messages
  abbrev filled_by : Consuming → Stage → ℕ → Consuming
  filled_by rows stage count = filled r.settings.schema (row_limit r.settings stage) rows (batch count rows.end)

  -- what is left behind it
  abbrev behind : Consuming → Stage → ℕ → ℕ
  behind rows stage count =
      left_at (after_batch r.settings r.started now (filled_by rows stage count) stage) (filled_by rows stage count).end.0 size

  -- one that has taken too few rows, too early, has taken a message
  initial_less : (rows : Consuming) → rows.start ≡ r.start
      → ((nat_lt rows.end.0 size && true) || is_timed_out r.settings.millis r.started now r.start rows.end) ≡ true
      → behind rows InitialConsuming max < left_at InitialConsuming rows.end.0 size
  initial_less rows first ready =
      cond_both (nat_le r.settings.rows (length new.rows)) (Holding RowLimit)
      (cond (is_timed_out r.settings.millis r.started now new.start new.end) (Holding TimeLimit) InitialConsuming) Less
      (λ full. omega arith)
      (λ few.
      cond_both (is_timed_out r.settings.millis r.started now new.start new.end) (Holding TimeLimit) InitialConsuming Less (λ late. omega arith)
      (λ early. goes_on few early))
    where
      new : Consuming
      new = filled_by rows InitialConsuming max

      Less : Stage → Type 0
      Less stage = left_at stage new.end.0 size < (size - rows.end.0) + 1

      goes_on : nat_le r.settings.rows (length new.rows) ≡ false → is_timed_out r.settings.millis r.started now new.start new.end ≡ false
          → (size - new.end.0) + 1 < (size - rows.end.0) + 1
      goes_on few early = by_ready (or_cases (nat_lt rows.end.0 size && true) (is_timed_out r.settings.millis r.started now r.start rows.end) ready)
        where
          by_room : rows.end.0 < size → (length rows.rows < r.settings.rows) ⊎ (r.settings.rows ≤ length rows.rows)
              → (size - new.end.0) + 1 < (size - rows.end.0) + 1
          by_room below (inl room) =
              omega (
                arith,
                below,
                filled_some r.settings.schema r.settings.rows rows (batch max rows.end) room (taken_some all rows.end.0 max some below),
              )
          by_room below (inr full) =
              let same : new ≡ rows = filled_full r.settings.schema r.settings.rows rows (batch max rows.end) full in
              absurd (false≢true (sym few ∙ ap (λ (x : Consuming). nat_le r.settings.rows (length x.rows)) same ∙ le-leb r.settings.rows (length rows.rows) full))

          by_ready : ((nat_lt rows.end.0 size && true) ≡ true) ⊎ (is_timed_out r.settings.millis r.started now r.start rows.end ≡ true)
              → (size - new.end.0) + 1 < (size - rows.end.0) + 1
          by_ready (inl below) =
              let lt = ltb-true rows.end.0 size (and_parts (nat_lt rows.end.0 size) true below).0 in
              by_room lt (cases_lt (length rows.rows) r.settings.rows)
          by_ready (inr late) =
              let parts = and_parts (nat_le r.settings.millis (now.0 - r.started.0)) (nat_lt r.start.0 rows.end.0) late in
              let start : new.start ≡ r.start = filled_start r.settings.schema r.settings.rows rows (batch max rows.end) ∙ first in
              let past : r.start.0 < new.end.0 =
              omega (arith, ltb-true r.start.0 rows.end.0 parts.1, filled_least r.settings.schema r.settings.rows rows (batch max rows.end)) in
              absurd (false≢true
              (sym early ∙ ap (λ (x : Offset). is_timed_out r.settings.millis r.started now x new.end) start
              ∙ and_from (nat_le r.settings.millis (now.0 - r.started.0)) (nat_lt r.start.0 new.end.0) parts.0 (lt-ltb r.start.0 new.end.0 past)))

  -- one that is sent to a target takes a message
  target_some : (rows : Consuming) (target : Offset) → HoldsRows r.settings.schema all r.start rows → rows.end.0 < target.0 → Reaches target
      → rows.end.0 < (filled r.settings.schema MOST_ROWS rows (batch (min max (target.0 - rows.end.0)) rows.end)).end.0
  target_some rows target h ahead k =
      let few = rows_least r.settings.schema all r.start.0 rows.end.0 (target.0 - 1) (omega (arith, ahead)) in
      filled_some r.settings.schema MOST_ROWS rows (batch (min max (target.0 - rows.end.0)) rows.end)
      (omega (arith, held_rows r.settings.schema all r.start rows h, few, k.room))
      (taken_some all rows.end.0 (min max (target.0 - rows.end.0)) (omega (arith, some, ahead)) (omega (arith, ahead, k.within)))

  stage_less : (rows : Consuming) (stage : Stage) (new : Consumer) → AreRows r.settings r.start rows → HoldsRows r.settings.schema all r.start rows
      → IsStage r.settings r.partition r.sequence rows stage
      → takes_in (state_at stage) ≡ true
      → ((nat_lt rows.end.0 size && is_below_target_at rows.end stage) || is_timed_out r.settings.millis r.started now r.start rows.end) ≡ true
      → CanFollowAt Reaches stage → option_map (λ count. taken_in r (at rows stage) now (batch count rows.end)) (asked_at stage rows.end max) ≡ Some new
      → left_in new.phase size < left_at stage rows.end.0 size
  stage_less rows InitialConsuming new k h is takes ready follows e =
      subst (λ (x : Consumer). left_in x.phase size < (size - rows.end.0) + 1) (same_Some _ new e) (initial_less rows k.first ready)
  stage_less rows (CatchingUp target reason) new k h is takes ready follows e =
      let on = filled_by rows (CatchingUp target reason) (min max (target.0 - rows.end.0)) in
      let further = target_some rows target h is.1 follows in
      subst (λ (x : Consumer). left_in x.phase size < target.0 - rows.end.0) (same_Some _ new e)
      (cond_both (nat_le target.0 on.end.0) (Holding reason) (CatchingUp target reason)
      (λ (stage : Stage). left_at stage on.end.0 size < target.0 - rows.end.0) (λ there. omega (arith, is.1)) (λ ahead. omega (arith, is.1, further)))
  stage_less rows (ConsumingToOnline end done) new k h is takes ready follows e =
      let on = filled_by rows (ConsumingToOnline end done) (min max (end.0 - rows.end.0)) in
      let further = target_some rows end h is.0 follows in
      subst (λ (x : Consumer). left_in x.phase size < (end.0 - rows.end.0) + 1) (same_Some _ new e)
      (cond_both (nat_le end.0 on.end.0) (Retaining done) (ConsumingToOnline end done)
      (λ (stage : Stage). left_at stage on.end.0 size < (end.0 - rows.end.0) + 1) (λ there. omega (arith, is.0)) (λ ahead. omega (arith, is.0, further)))
  stage_less rows (Holding reason) new k h is takes ready follows e = absurd (false≢true takes)
  stage_less rows (Retaining done) new k h is takes ready follows e = absurd (false≢true takes)
  stage_less rows (Building reason) new k h is takes ready follows e = absurd (false≢true takes)
  stage_less rows (Starting reason built) new k h is takes ready follows e = absurd (false≢true takes)
  stage_less rows (Uploading reason built) new k h is takes ready follows e = absurd (false≢true takes)
  stage_less rows (Ending reason built path) new k h is takes ready follows e = absurd (false≢true takes)

  phase_less : (ph : Phase) (new : Consumer) → IsPhase r.settings r.partition r.sequence r.start ph → HoldsIn r.settings.schema all r.start ph
      → takes_in (state_of ph) ≡ true
      → ((nat_lt (cur_in ph).0 size && is_below_target ph) || is_timed_out r.settings.millis r.started now r.start (cur_in ph)) ≡ true
      → CanFollowIn Reaches ph → option_map (λ count. taken_in r ph now (batch count (cur_in ph))) (asked_in ph max) ≡ Some new
      → left_in new.phase size < left_in ph size
  phase_less (phase.Unsealed o) new k h takes ready follows e = stage_less o.rows o.stage new k.0 h k.1 takes ready follows e
  phase_less (phase.Retained kept) new k h takes ready follows e = absurd (false≢true takes)
  phase_less (phase.Committed kept) new k h takes ready follows e = absurd (false≢true takes)
  phase_less (phase.Discarded d) new k h takes ready follows e = absurd (false≢true takes)

-- the replica stays one of its partition
taken_partition : (r : Consumer) (ph : Phase) (now : Moment) (ms : List (List ℕ)) → (taken_in r ph now ms).partition ≡ r.partition
taken_partition r (phase.Unsealed o) now ms = refl
taken_partition r (phase.Retained kept) now ms = refl
taken_partition r (phase.Committed kept) now ms = refl
taken_partition r (phase.Discarded d) now ms = refl

consumed_partition : (r : Consumer) (now : Moment) (log : Log) (o : Option ℕ) (new : Consumer)
    → option_map (λ count. taken_in r r.phase now (messages_from log r.partition (cur_in r.phase) count)) o ≡ Some new → new.partition ≡ r.partition
consumed_partition r now log None new e = absurd (none-some new e)
consumed_partition r now log (Some count) new e =
    ap (λ (x : Consumer). x.partition) (sym (same_Some _ new e)) ∙ taken_partition r r.phase now (messages_from log r.partition (cur_in r.phase) count)

pub batch_less : (r new : Consumer) (log : Log) (now : Moment) (max : ℕ) → 0 < max → IsConsumer r → IsHeld log r → takes_in (state_of r.phase) ≡ true
    → is_ready r (end_of (messages_of log r.partition)) now ≡ true → CanFollow log r → consumed r max now log ≡ Some new → left_of log new < left_of log r
batch_less r new log now max some k held takes ready follows e =
    let same = consumed_partition r now log (asked_in r.phase max) new e in
    subst (λ p. left_in new.phase (length (messages_of log p)) < left_of log r) (sym same)
    (phase_less r log now max some r.phase new k.phase held takes ready follows e)

-- ---- targets stay

follows_at : (r : Consumer) (began now : Moment) (rows : Consuming) (stage : Stage) (R : Offset → Type 0) → CanFollowAt R stage
    → CanFollowAt R (after_batch r.settings began now rows stage)
follows_at r began now rows InitialConsuming R k =
    cond_both (nat_le r.settings.rows (length rows.rows)) (Holding RowLimit)
    (cond (is_timed_out r.settings.millis began now rows.start rows.end) (Holding TimeLimit) InitialConsuming) (λ st. CanFollowAt R st) (λ b. tt)
    (λ b.
    cond_both (is_timed_out r.settings.millis began now rows.start rows.end) (Holding TimeLimit) InitialConsuming (λ st. CanFollowAt R st) (λ c. tt) (λ c. tt))
follows_at r began now rows (CatchingUp target reason) R k =
    cond_both (nat_le target.0 rows.end.0) (Holding reason) (CatchingUp target reason) (λ st. CanFollowAt R st) (λ b. tt) (λ b. k)
follows_at r began now rows (ConsumingToOnline end done) R k =
    cond_both (nat_le end.0 rows.end.0) (Retaining done) (ConsumingToOnline end done) (λ st. CanFollowAt R st) (λ b. tt) (λ b. k)
follows_at r began now rows (Holding reason) R k = tt
follows_at r began now rows (Retaining done) R k = tt
follows_at r began now rows (Building reason) R k = tt
follows_at r began now rows (Starting reason built) R k = tt
follows_at r began now rows (Uploading reason built) R k = tt
follows_at r began now rows (Ending reason built path) R k = tt

follows_in : (r : Consumer) (ph : Phase) (now : Moment) (log : Log) (ms : List (List ℕ)) → r.phase ≡ ph → CanFollow log r → CanFollow log (taken_in r ph now ms)
follows_in r (phase.Unsealed o) now log ms is k =
    follows_at r r.started now (filled r.settings.schema (row_limit r.settings o.stage) o.rows ms) o.stage
    (IsReachable r.settings.schema (messages_of log r.partition) r.start)
    (subst (λ (x : Phase). CanFollowIn (IsReachable r.settings.schema (messages_of log r.partition) r.start) x) is k)
follows_in r (phase.Retained kept) now log ms is k = k
follows_in r (phase.Committed kept) now log ms is k = k
follows_in r (phase.Discarded d) now log ms is k = k

pub batch_follows : (r new : Consumer) (log : Log) (now : Moment) (max : ℕ) → CanFollow log r → consumed r max now log ≡ Some new → CanFollow log new
batch_follows r new log now max k e = by_count (asked_in r.phase max) e
  where
    by_count : (o : Option ℕ) → option_map (λ count. taken_in r r.phase now (messages_from log r.partition (cur_in r.phase) count)) o ≡ Some new → CanFollow log new
    by_count None h = absurd (none-some new h)
    by_count (Some count) h =
        subst (CanFollow log) (same_Some _ new h) (follows_in r r.phase now log (messages_from log r.partition (cur_in r.phase) count) refl k)

-- a replica that isn't told of a commit stays so
batch_shut_at : (r : Consumer) (began now : Moment) (rows : Consuming) (stage : Stage) → is_open (state_at stage) ≡ false
    → is_open (state_at (after_batch r.settings began now rows stage)) ≡ false
batch_shut_at r began now rows (ConsumingToOnline end done) shut =
    cond_both (nat_le end.0 rows.end.0) (Retaining done) (ConsumingToOnline end done) (λ st. is_open (state_at st) ≡ false) (λ b. refl) (λ b. refl)
batch_shut_at r began now rows InitialConsuming shut = absurd (true≢false shut)
batch_shut_at r began now rows (CatchingUp target reason) shut = absurd (true≢false shut)
batch_shut_at r began now rows (Holding reason) shut = shut
batch_shut_at r began now rows (Retaining done) shut = shut
batch_shut_at r began now rows (Building reason) shut = shut
batch_shut_at r began now rows (Starting reason built) shut = shut
batch_shut_at r began now rows (Uploading reason built) shut = shut
batch_shut_at r began now rows (Ending reason built path) shut = shut

batch_shut_in : (r : Consumer) (ph : Phase) (now : Moment) (ms : List (List ℕ)) → is_open (state_of r.phase) ≡ false → is_open (state_of ph) ≡ false
    → is_open (state_of (taken_in r ph now ms).phase) ≡ false
batch_shut_in r (phase.Unsealed o) now ms own shut =
    batch_shut_at r r.started now (filled r.settings.schema (row_limit r.settings o.stage) o.rows ms) o.stage shut
batch_shut_in r (phase.Retained kept) now ms own shut = own
batch_shut_in r (phase.Committed kept) now ms own shut = own
batch_shut_in r (phase.Discarded d) now ms own shut = own

pub batch_shut : (r new : Consumer) (log : Log) (now : Moment) (max : ℕ) → consumed r max now log ≡ Some new → is_open (state_of r.phase) ≡ false
    → is_open (state_of new.phase) ≡ false
batch_shut r new log now max e shut = by_count (asked_in r.phase max) e
  where
    by_count : (o : Option ℕ) → option_map (λ count. taken_in r r.phase now (messages_from log r.partition (cur_in r.phase) count)) o ≡ Some new
        → is_open (state_of new.phase) ≡ false
    by_count None h = absurd (none-some new h)
    by_count (Some count) h =
        subst (λ (x : Consumer). is_open (state_of x.phase) ≡ false) (same_Some _ new h)
        (batch_shut_in r r.phase now (messages_from log r.partition (cur_in r.phase) count) shut shut)

-- ---- a build

build_at : (rows : Consuming) (stage : Stage) (file : SealedSegment) (count : ℕ) → builds_at stage ≡ true
    → left_in (filed_at rows stage file) count < left_at stage rows.end.0 count
build_at rows (Retaining done) file count builds = omega arith
build_at rows (Building reason) file count builds = omega arith
build_at rows InitialConsuming file count builds = absurd (false≢true builds)
build_at rows (CatchingUp target reason) file count builds = absurd (false≢true builds)
build_at rows (Holding reason) file count builds = absurd (false≢true builds)
build_at rows (ConsumingToOnline end done) file count builds = absurd (false≢true builds)
build_at rows (Starting reason built) file count builds = absurd (false≢true builds)
build_at rows (Uploading reason built) file count builds = absurd (false≢true builds)
build_at rows (Ending reason built path) file count builds = absurd (false≢true builds)

build_in : (ph : Phase) (file : SealedSegment) (count : ℕ) → builds_in ph ≡ true → left_in (filed ph file) count < left_in ph count
build_in (phase.Unsealed o) file count builds = build_at o.rows o.stage file count builds
build_in (phase.Retained kept) file count builds = absurd (false≢true builds)
build_in (phase.Committed kept) file count builds = absurd (false≢true builds)
build_in (phase.Discarded d) file count builds = absurd (false≢true builds)

pub build_less : (r new : Consumer) (log : Log) → Builds r new (Ok tt) → left_of log new < left_of log r
build_less r new log (builds, (file, seals, is)) =
    subst (λ (x : Consumer). left_of log x < left_of log r) (sym is) (build_in r.phase file (length (messages_of log r.partition)) builds)

built_at : (rows : Consuming) (stage : Stage) (file : SealedSegment) (R : Offset → Type 0) → builds_at stage ≡ true → CanFollowIn R (filed_at rows stage file)
built_at rows (Retaining done) file R builds = tt
built_at rows (Building reason) file R builds = tt
built_at rows InitialConsuming file R builds = absurd (false≢true builds)
built_at rows (CatchingUp target reason) file R builds = absurd (false≢true builds)
built_at rows (Holding reason) file R builds = absurd (false≢true builds)
built_at rows (ConsumingToOnline end done) file R builds = absurd (false≢true builds)
built_at rows (Starting reason built) file R builds = absurd (false≢true builds)
built_at rows (Uploading reason built) file R builds = absurd (false≢true builds)
built_at rows (Ending reason built path) file R builds = absurd (false≢true builds)

built_in : (ph : Phase) (file : SealedSegment) (R : Offset → Type 0) → builds_in ph ≡ true → CanFollowIn R (filed ph file)
built_in (phase.Unsealed o) file R builds = built_at o.rows o.stage file R builds
built_in (phase.Retained kept) file R builds = tt
built_in (phase.Committed kept) file R builds = tt
built_in (phase.Discarded d) file R builds = tt

pub build_follows : (r new : Consumer) (log : Log) → Builds r new (Ok tt) → CanFollow log new
build_follows r new log (builds, (file, seals, is)) =
    subst (CanFollow log) (sym is) (built_in r.phase file (IsReachable r.settings.schema (messages_of log r.partition) r.start) builds)

built_shut_at : (rows : Consuming) (stage : Stage) (file : SealedSegment) → builds_at stage ≡ true → is_open (state_at stage) ≡ false
    → is_open (state_of (filed_at rows stage file)) ≡ false
built_shut_at rows (Retaining done) file builds shut = refl
built_shut_at rows (Building reason) file builds shut = absurd (true≢false shut)
built_shut_at rows InitialConsuming file builds shut = absurd (false≢true builds)
built_shut_at rows (CatchingUp target reason) file builds shut = absurd (false≢true builds)
built_shut_at rows (Holding reason) file builds shut = absurd (false≢true builds)
built_shut_at rows (ConsumingToOnline end done) file builds shut = absurd (false≢true builds)
built_shut_at rows (Starting reason built) file builds shut = absurd (false≢true builds)
built_shut_at rows (Uploading reason built) file builds shut = absurd (false≢true builds)
built_shut_at rows (Ending reason built path) file builds shut = absurd (false≢true builds)

built_shut_in : (ph : Phase) (file : SealedSegment) → builds_in ph ≡ true → is_open (state_of ph) ≡ false → is_open (state_of (filed ph file)) ≡ false
built_shut_in (phase.Unsealed o) file builds shut = built_shut_at o.rows o.stage file builds shut
built_shut_in (phase.Retained kept) file builds shut = shut
built_shut_in (phase.Committed kept) file builds shut = shut
built_shut_in (phase.Discarded d) file builds shut = shut

pub build_shut : (r new : Consumer) → Builds r new (Ok tt) → is_open (state_of r.phase) ≡ false → is_open (state_of new.phase) ≡ false
build_shut r new (builds, (file, seals, is)) shut =
    subst (λ (x : Consumer). is_open (state_of x.phase) ≡ false) (sym is) (built_shut_in r.phase file builds shut)
