-- What is held so far of a log stays held.
use Rattle.std.proofs.Common.{◌≡◌, ◌+◌, ◌-◌, ◌≤◌, ℕ, Bool, true, false, cond, nat_lt, ◌==◌, List, ◌++◌, length, map, take, drop, filter, Option, Some, None, option_map, ap, sym, subst, ◌∙◌, arith}
use Rattle.std.specs.List.{filter_map}
use Rattle.std.proofs.lemmas.List.{length-append, length-take, length-drop, take-take}
use Rattle.rt_base.specs.declared.numbers.Moment.{Moment}
use Rattle.rt_base.specs.declared.numbers.Offset.{Offset}
use Rattle.rt_base.specs.declared.numbers.Partition.{Partition}
use Rattle.rt_base.specs.declared.numbers.Sequence.{Sequence}
use Rattle.rt_schema.specs.declared.schema.Schema.{Schema}
use Rattle.rt_schema.specs.Row.{row_of, rows_in}
use Rattle.rt_mutable.specs.Consuming.{Consuming, is_before}
use Rattle.rt_segment.specs.Segment.{SealedSegment}
use Rattle.rt_stream.specs.Feed.{Grows}
use Rattle.rt_stream.specs.Log.{Log, messages_of}
use Rattle.rt_model.specs.Messages.{same_number}
use Rattle.rt_model.specs.declared.reply.Reply.{Reply}
use Rattle.rt_model.specs.declared.reply.ReplyStatus.{ReplyStatus}
use Rattle.rt_model.specs.declared.reply.ReplyStatus.TheVariants.{Hold, CatchUp, Keep, Discard, Commit, NotLeader, CommitContinue, UploadSuccess, CommitSuccess, Processed, Failed}
use Rattle.rt_model.specs.declared.request.Reason.{Reason}
use Rattle.rt_model.specs.declared.seg_meta.SeenMeta.{SeenMeta}
use Rattle.rt_consumer.specs.declared.phase.Phase.{Phase}
use Rattle.rt_consumer.specs.declared.phase.Phase.TheVariants as phase
use Rattle.rt_consumer.specs.declared.replies.Turn.{Turn}
use Rattle.rt_consumer.specs.declared.replies.Turn.TheVariants.{Stays, Goes}
use Rattle.rt_consumer.specs.declared.settings.Settings.{Settings}
use Rattle.rt_consumer.specs.declared.stage.Stage.{Stage}
use Rattle.rt_consumer.specs.declared.stage.Stage.TheVariants.{InitialConsuming, CatchingUp, Holding, ConsumingToOnline, Retaining, Building, Starting, Uploading, Ending}
use Rattle.rt_consumer.specs.declared.waited.Waited.{Waited}
use Rattle.rt_consumer.specs.declared.waited.Waited.TheVariants.{Step, Extend}
use Rattle.rt_consumer.specs.declared.consumer.Consumer.{Consumer}
use Rattle.rt_consumer.specs.Consumer.{IsConsumer, IsPhase, IsStage, IsBuilt, cur, cur_in, ends_at, number_of}
use Rattle.rt_consumer.specs.Batch.{asked_in, filled, row_limit, messages_from, taken, taken_in, consumed as consuming}
use Rattle.rt_consumer.specs.Replies.{consumed, continued, uploaded, ended, answered_at, answered, extended_at, extended, is_processed, turned, turn_by, replied_to, replied}
use Rattle.rt_consumer.specs.Requests.{filed_at, filed, IsSealedOf, learned_at, learned}
use Rattle.rt_replica.specs.Held.{messages_between, placed_from}
use Rattle.rt_replica.specs.HeldSoFar.{IsHeldSoFar, HoldsInSoFar, HoldsSoFar, HoldsFileSoFar}
use Rattle.rt_replica.proofs.Places.{between_append, length_between, between_more, placed_append, rows_placed, all_before, filled_takes}

rows_grow : (schema : Schema) (ms more : List (List ℕ)) (start : Offset) (rows : Consuming) → HoldsSoFar schema ms start rows → HoldsSoFar schema (ms ++ more) start rows
rows_grow schema ms more start rows h = record {
  ordered = h.ordered;
  within = omega (arith, h.within, length-append ms more);
  all = h.all ∙ ap (placed_from schema start.0) (sym (between_more ms more start.0 rows.end.0 h.ordered h.within));
}

file_grows : (schema : Schema) (ms more : List (List ℕ)) (start : Offset) (file : SealedSegment) → HoldsFileSoFar schema ms start file → HoldsFileSoFar schema (ms ++ more) start file
file_grows schema ms more start file h = record {
  ordered = h.ordered;
  within = omega (arith, h.within, length-append ms more);
  rows = h.rows ∙ ap (filter_map (row_of schema)) (sym (between_more ms more start.0 file.range.end.0 h.ordered h.within));
}

phase_grows : (schema : Schema) (ms more : List (List ℕ)) (start : Offset) (p : Phase) → HoldsInSoFar schema ms start p → HoldsInSoFar schema (ms ++ more) start p
phase_grows schema ms more start (phase.Unsealed o) h = rows_grow schema ms more start o.rows h
phase_grows schema ms more start (phase.Retained kept) h = file_grows schema ms more start kept.file h
phase_grows schema ms more start (phase.Committed kept) h = file_grows schema ms more start kept.file h
phase_grows schema ms more start (phase.Discarded d) h = (h.0, omega (arith, h.1, length-append ms more))

pub held_grows : (old new : Log) (r : Consumer) → Grows old new → IsHeldSoFar old r → IsHeldSoFar new r
held_grows old new r g h =
    let more = g.messages r.partition in
    subst (λ ms. HoldsInSoFar r.settings.schema ms r.start r.phase) (sym more.1)
    (phase_grows r.settings.schema (messages_of old r.partition) more.0 r.start r.phase h)

-- a batch from `cur` on
rows_taken : (schema : Schema) (limit count : ℕ) (ms : List (List ℕ)) (start : Offset) (rows : Consuming) → HoldsSoFar schema ms start rows
    → HoldsSoFar schema ms start (filled schema limit rows (take count (drop rows.end.0 ms)))
rows_taken schema limit count ms start rows h =
    let there = take count (drop rows.end.0 ms) in
    let t = filled_takes schema limit rows there in
    let new = filled schema limit rows there in
    let fits : t.count ≤ count = omega (arith, t.most, length-take count (drop rows.end.0 ms)) in
    let size : rows.end.0 + t.count ≤ start.0 + (length ms - start.0) = omega (arith, h.ordered, h.within, t.most, length-take count (drop rows.end.0 ms), length-drop rows.end.0 ms) in
    let batch : take t.count there ≡ messages_between ms rows.end.0 new.end.0 =
    take-take t.count count (drop rows.end.0 ms) fits ∙ ap (λ n. take n (drop rows.end.0 ms)) (omega (arith, t.end)) in
    let before = messages_between ms start.0 rows.end.0 in
    let at : start.0 + length before ≡ rows.end.0 = omega (arith, h.ordered, length_between ms start.0 rows.end.0 h.ordered h.within) in
    record {
      ordered = omega (arith, h.ordered, t.end);
      within = omega (arith, t.end, size);
      all = t.placed
          ∙ ap (λ ps. ps ++ placed_from schema rows.end.0 (take t.count there)) h.all
          ∙ ap (λ ns. placed_from schema start.0 before ++ placed_from schema rows.end.0 ns) batch
          ∙ ap (λ n. placed_from schema start.0 before ++ placed_from schema n (messages_between ms rows.end.0 new.end.0)) (sym at)
          ∙ sym (placed_append schema start.0 before (messages_between ms rows.end.0 new.end.0))
          ∙ ap (placed_from schema start.0) (sym (between_append ms start.0 rows.end.0 new.end.0 h.ordered (omega (arith, t.end))));
    }

taken_in_held : (r : Consumer) (p : Phase) (log : Log) (count : ℕ) (now : Moment) → HoldsInSoFar r.settings.schema (messages_of log r.partition) r.start p → IsHeldSoFar log r
    → IsHeldSoFar log (taken_in r p now (take count (drop (cur_in p).0 (messages_of log r.partition))))
taken_in_held r (phase.Unsealed o) log count now h k = rows_taken r.settings.schema (row_limit r.settings o.stage) count (messages_of log r.partition) r.start o.rows h
taken_in_held r (phase.Retained kept) log count now h k = k
taken_in_held r (phase.Committed kept) log count now h k = k
taken_in_held r (phase.Discarded d) log count now h k = k

pub taken_held : (r : Consumer) (log : Log) (count : ℕ) (now : Moment) → IsHeldSoFar log r → IsHeldSoFar log (taken r now (messages_from log r.partition (cur r) count))
taken_held r log count now h = taken_in_held r r.phase log count now h h

-- the file of the rows that are held
pub file_held : (settings : Settings) (p : Partition) (q : Sequence) (ms : List (List ℕ)) (start : Offset) (rows : Consuming) (file : SealedSegment)
    → IsBuilt settings p q rows file → HoldsSoFar settings.schema ms start rows → HoldsFileSoFar settings.schema ms start file
file_held settings p q ms start rows file b h =
    let end : file.range.end ≡ rows.end = ap (λ r. r.end) b.seals.range in
    let before = messages_between ms start.0 rows.end.0 in
    let all : filter (is_before rows.end) rows.rows ≡ rows.rows =
    ap (filter (is_before rows.end)) h.all
    ∙ all_before rows.end settings.schema start.0 before (omega (arith, h.ordered, length_between ms start.0 rows.end.0 h.ordered h.within))
    ∙ sym h.all in
    record {
      ordered = omega (arith, h.ordered, ap (λ x. x.0) end);
      within = omega (arith, h.within, ap (λ x. x.0) end);
      rows = b.seals.rows ∙ ap (map (λ placed. placed.row)) (all ∙ h.all) ∙ rows_placed settings.schema start.0 before
          ∙ ap (λ n. rows_in settings.schema ms start.0 n) (ap (λ x. x.0) (sym end));
    }

-- ---- answers

turn_both : (T : Turn → Type 0) (b : Bool) (x y : Turn) → T x → T y → T (cond b x y)
turn_both T true x y p q = p
turn_both T false x y p q = q

module _ (settings : Settings) (p : Partition) (q : Sequence) (ms : List (List ℕ)) (start : Offset) where
  -- what is held after a turn
  abbrev pub HoldsAfter : Turn → Type 0
  HoldsAfter (Stays ph) = HoldsInSoFar settings.schema ms start ph
  HoldsAfter (Goes ph) = HoldsInSoFar settings.schema ms start ph

  module _ (rows : Consuming) (h : HoldsSoFar settings.schema ms start rows) where
    consumed_held : (reason : Reason) (status : ReplyStatus) → HoldsAfter (consumed rows reason status)
    consumed_held reason (CatchUp t) = turn_both HoldsAfter (nat_lt rows.end.0 t.0) _ _ h h
    consumed_held reason (Commit x) = turn_both HoldsAfter (x.0 == rows.end.0) _ _ h h
    consumed_held reason (Keep seen) = turn_both HoldsAfter (ends_at rows.end seen) _ _ h h
    consumed_held reason Discard = (h.ordered, h.within)
    consumed_held reason Hold = h
    consumed_held reason NotLeader = h
    consumed_held reason CommitContinue = h
    consumed_held reason (UploadSuccess path) = h
    consumed_held reason (CommitSuccess seen) = h
    consumed_held reason Processed = h
    consumed_held reason (Failed cause) = h

    continued_held : (reason : Reason) (built : SealedSegment) (status : ReplyStatus) → HoldsAfter (continued rows reason built status)
    continued_held reason built (CatchUp t) = h
    continued_held reason built (Commit x) = h
    continued_held reason built (Keep seen) = turn_both HoldsAfter (ends_at rows.end seen) _ _ h h
    continued_held reason built Discard = (h.ordered, h.within)
    continued_held reason built Hold = h
    continued_held reason built NotLeader = h
    continued_held reason built CommitContinue = h
    continued_held reason built (UploadSuccess path) = h
    continued_held reason built (CommitSuccess seen) = h
    continued_held reason built Processed = h
    continued_held reason built (Failed cause) = h

    uploaded_held : (reason : Reason) (built : SealedSegment) (status : ReplyStatus) → HoldsAfter (uploaded rows reason built status)
    uploaded_held reason built (CatchUp t) = h
    uploaded_held reason built (Commit x) = h
    uploaded_held reason built (Keep seen) = h
    uploaded_held reason built Discard = h
    uploaded_held reason built Hold = h
    uploaded_held reason built NotLeader = h
    uploaded_held reason built CommitContinue = h
    uploaded_held reason built (UploadSuccess path) = h
    uploaded_held reason built (CommitSuccess seen) = h
    uploaded_held reason built Processed = h
    uploaded_held reason built (Failed cause) = h

    ended_held : (reason : Reason) (built : SealedSegment) (status : ReplyStatus) → IsBuilt settings p q rows built → HoldsAfter (ended rows reason built status)
    ended_held reason built (CatchUp t) b = h
    ended_held reason built (Commit x) b = h
    ended_held reason built (Keep seen) b = turn_both HoldsAfter (ends_at rows.end seen) _ _ h h
    ended_held reason built Discard b = (h.ordered, h.within)
    ended_held reason built Hold b = h
    ended_held reason built NotLeader b = h
    ended_held reason built CommitContinue b = h
    ended_held reason built (UploadSuccess path) b = h
    ended_held reason built (CommitSuccess seen) b = turn_both HoldsAfter (ends_at rows.end seen) _ _ (file_held settings p q ms start rows built b h) h
    ended_held reason built Processed b = h
    ended_held reason built (Failed cause) b = h

  answered_at_held : (rows : Consuming) (s : Stage) (status : ReplyStatus) → HoldsSoFar settings.schema ms start rows → IsStage settings p q rows s → HoldsAfter (answered_at rows s status)
  answered_at_held rows (Holding reason) status h k = consumed_held rows h reason status
  answered_at_held rows (Starting reason built) status h k = continued_held rows h reason built status
  answered_at_held rows (Uploading reason built) status h k = uploaded_held rows h reason built status
  answered_at_held rows (Ending reason built path) status h k = ended_held rows h reason built status k.1
  answered_at_held rows InitialConsuming status h k = h
  answered_at_held rows (CatchingUp target reason) status h k = h
  answered_at_held rows (ConsumingToOnline end done) status h k = h
  answered_at_held rows (Retaining done) status h k = h
  answered_at_held rows (Building reason) status h k = h

  extended_at_held : (rows : Consuming) (s : Stage) (b : Bool) → HoldsSoFar settings.schema ms start rows → HoldsAfter (extended_at rows s b)
  extended_at_held rows (Building reason) b h = turn_both HoldsAfter b _ _ h h
  extended_at_held rows (Starting reason built) b h = turn_both HoldsAfter b _ _ h h
  extended_at_held rows (Holding reason) b h = h
  extended_at_held rows InitialConsuming b h = h
  extended_at_held rows (CatchingUp target reason) b h = h
  extended_at_held rows (ConsumingToOnline end done) b h = h
  extended_at_held rows (Retaining done) b h = h
  extended_at_held rows (Uploading reason built) b h = h
  extended_at_held rows (Ending reason built path) b h = h

  answered_held : (ph : Phase) (status : ReplyStatus) → IsPhase settings p q start ph → HoldsInSoFar settings.schema ms start ph → HoldsAfter (answered ph status)
  answered_held (phase.Unsealed o) status k h = answered_at_held o.rows o.stage status h k.1
  answered_held (phase.Retained kept) status k h = h
  answered_held (phase.Committed kept) status k h = h
  answered_held (phase.Discarded d) status k h = turn_both HoldsAfter (is_processed status) _ _ h h

  extended_held : (ph : Phase) (status : ReplyStatus) → HoldsInSoFar settings.schema ms start ph → HoldsAfter (extended ph status)
  extended_held (phase.Unsealed o) status h = extended_at_held o.rows o.stage (is_processed status) h
  extended_held (phase.Retained kept) status h = h
  extended_held (phase.Committed kept) status h = h
  extended_held (phase.Discarded d) status h = h

  turn_held : (ph : Phase) (w : Waited) (status : ReplyStatus) → IsPhase settings p q start ph → HoldsInSoFar settings.schema ms start ph → HoldsAfter (turn_by ph w status)
  turn_held ph (Step n) status k h = answered_held ph status k h
  turn_held ph (Extend n) status k h = extended_held ph status h

turned_held : (r : Consumer) (log : Log) (t : Turn) → HoldsAfter r.settings r.partition r.sequence (messages_of log r.partition) r.start t → IsHeldSoFar log (turned r t)
turned_held r log (Stays ph) h = h
turned_held r log (Goes ph) h = h

either_held : (log : Log) (b : Bool) (x y : Consumer) → IsHeldSoFar log x → IsHeldSoFar log y → IsHeldSoFar log (cond b x y)
either_held log true x y h k = h
either_held log false x y h k = k

replied_to_held : (r : Consumer) (w : Option Waited) (reply : Reply) (log : Log) → IsConsumer r → IsHeldSoFar log r → IsHeldSoFar log (replied_to r w reply)
replied_to_held r None reply log c h = h
replied_to_held r (Some w) reply log c h =
    either_held log (same_number (number_of w) reply.number) (turned r (turn_by r.phase w reply.status)) r
    (turned_held r log (turn_by r.phase w reply.status)
    (turn_held r.settings r.partition r.sequence (messages_of log r.partition) r.start r.phase w reply.status c.phase h)) h

pub replied_held : (r : Consumer) (reply : Reply) (log : Log) → IsConsumer r → IsHeldSoFar log r → IsHeldSoFar log (replied r reply)
replied_held r reply log c h = replied_to_held r r.waited reply log c h

-- ---- a file

filed_at_held : (settings : Settings) (p : Partition) (q : Sequence) (ms : List (List ℕ)) (start : Offset) (rows : Consuming) (s : Stage) (file : SealedSegment)
    → IsBuilt settings p q rows file → HoldsSoFar settings.schema ms start rows → HoldsInSoFar settings.schema ms start (filed_at rows s file)
filed_at_held settings p q ms start rows (Retaining done) file b h = file_held settings p q ms start rows file b h
filed_at_held settings p q ms start rows (Building reason) file b h = h
filed_at_held settings p q ms start rows InitialConsuming file b h = h
filed_at_held settings p q ms start rows (CatchingUp target reason) file b h = h
filed_at_held settings p q ms start rows (Holding reason) file b h = h
filed_at_held settings p q ms start rows (ConsumingToOnline end done) file b h = h
filed_at_held settings p q ms start rows (Starting reason built) file b h = h
filed_at_held settings p q ms start rows (Uploading reason built) file b h = h
filed_at_held settings p q ms start rows (Ending reason built path) file b h = h

filed_held : (r : Consumer) (p : Phase) (file : SealedSegment) (log : Log) → IsSealedOf r p file → HoldsInSoFar r.settings.schema (messages_of log r.partition) r.start p
    → HoldsInSoFar r.settings.schema (messages_of log r.partition) r.start (filed p file)
filed_held r (phase.Unsealed o) file log b h = filed_at_held r.settings r.partition r.sequence (messages_of log r.partition) r.start o.rows o.stage file b h
filed_held r (phase.Retained kept) file log b h = h
filed_held r (phase.Committed kept) file log b h = h
filed_held r (phase.Discarded d) file log b h = h

pub built_held : (r : Consumer) (file : SealedSegment) (log : Log) → IsSealedOf r r.phase file → IsHeldSoFar log r → IsHeldSoFar log (record r { phase = filed r.phase file; waited = None })
built_held r file log b h = filed_held r r.phase file log b h

-- ---- the metadata of a commit

phase_both : (T : Phase → Type 0) (b : Bool) (x y : Phase) → T x → T y → T (cond b x y)
phase_both T true x y p q = p
phase_both T false x y p q = q

learned_at_held : (schema : Schema) (ms : List (List ℕ)) (start : Offset) (rows : Consuming) (done : SeenMeta) (end : Offset) → HoldsSoFar schema ms start rows → HoldsInSoFar schema ms start (learned_at rows done end)
learned_at_held schema ms start rows done end h =
    let T : Phase → Type 0 = HoldsInSoFar schema ms start in
    phase_both T (nat_lt rows.end.0 end.0) _ _ h h

learned_in_held : (r : Consumer) (p : Phase) (done : SeenMeta) (end : Offset) (log : Log) → HoldsInSoFar r.settings.schema (messages_of log r.partition) r.start p → IsHeldSoFar log r → IsHeldSoFar log (learned r p done end)
learned_in_held r (phase.Unsealed o) done end log h k = learned_at_held r.settings.schema (messages_of log r.partition) r.start o.rows done end h
learned_in_held r (phase.Discarded d) done end log h k = k
learned_in_held r (phase.Retained kept) done end log h k = k
learned_in_held r (phase.Committed kept) done end log h k = k

pub learned_held : (r : Consumer) (done : SeenMeta) (end : Offset) (log : Log) → IsHeldSoFar log r → IsHeldSoFar log (learned r r.phase done end)
learned_held r done end log h = learned_in_held r r.phase done end log h h

-- ---- a batch, from a log

abbrev the : Consumer → Option Consumer
the new = Some new

no_such : (new : Consumer) → None ≡ the new → ⊥
no_such new e = cc

same_consumer : (x new : Consumer) → the x ≡ the new → x ≡ new
same_consumer x new e = cc

pub some_kept : (P : Log → Consumer → Type 0) (log : Log) (o : Option ℕ) (f : ℕ → Consumer) (new : Consumer) → ((count : ℕ) → P log (f count)) → option_map f o ≡ Some new → P log new
some_kept P log None f new h e = absurd (no_such new e)
some_kept P log (Some count) f new h e = subst (P log) (same_consumer (f count) new e) (h count)

pub batch_held : (r : Consumer) (max : ℕ) (now : Moment) (log : Log) (new : Consumer) → IsHeldSoFar log r → consuming r max now log ≡ Some new → IsHeldSoFar log new
batch_held r max now log new h e = some_kept IsHeldSoFar log (asked_in r.phase max) (λ count. taken r now (messages_from log r.partition (cur r) count)) new (λ count. taken_held r log count now h) e
