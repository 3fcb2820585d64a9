-- What the calls of a server need, from what lasts of it over a right past.
use Rattle.std.proofs.Common.{◌≡◌, ◌<◌, ◌≤◌, ◌^◌, ℕ, List, length, Result, Ok, Err, sym, subst, arith}
use Rattle.rt_base.specs.declared.numbers.Instance.{Instance}
use Rattle.rt_base.specs.declared.numbers.Offset.{Offset}
use Rattle.rt_base.specs.declared.numbers.Partition.{Partition}
use Rattle.rt_base.specs.declared.numbers.Sequence.{Sequence}
use Rattle.rt_schema.specs.declared.schema.Schema.{Schema}
use Rattle.rt_stream.specs.Log.{messages_of}
use Rattle.rt_model.specs.declared.node.Seen.{Seen}
use Rattle.rt_model.specs.declared.request.Request.{Request}
use Rattle.rt_model.specs.declared.sent.Sent.{Sent}
use Rattle.rt_model.specs.declared.setup.Setup.{Setup}
use Rattle.rt_model.specs.Lawful.{IsLawfulHistory, bump}
use Rattle.rt_store.specs.declared.refused.StoreRefused.{StoreRefused}
use Rattle.rt_store.specs.Answers.{after_call}
use Rattle.rt_store.specs.Calls.{Bumps, told_on}
use Rattle.rt_store.specs.Contents.{starting_of}
use Rattle.rt_store.specs.Meaning.{Meaning, Told}
use Rattle.rt_store.proofs.Told.{answered_took, leaves_on}
use Rattle.rt_msgs.specs.Numbered.{Numbered, number_at}
use Rattle.rt_past.specs.Past.{Past, Grows, with_history, with_request}
use Rattle.rt_past.specs.IsPast.{IsPast}
use Rattle.rt_past.specs.Requests.{AreDrawn, IsFresh, IsRequest}
use Rattle.rt_past.specs.Segments.{IsBegun, IsIncarnation}
use Rattle.rt_past.proofs.Growth.{incarnation_grows}
use Rattle.rt_past.proofs.Numbers.{drawn_anew, drawn_next, next_is_fresh}
use Rattle.rt_past.proofs.Ways.{past_called, past_requests}
use Rattle.rt_consumer.specs.declared.phase.Phase.{Phase}
use Rattle.rt_consumer.specs.declared.phase.Phase.TheVariants as phase
use Rattle.rt_consumer.specs.Consumer.{cur_in}
use Rattle.rt_replica.specs.Held.{HoldsIn}
use Rattle.rt_entry.specs.declared.refused.ServerRefused.{ServerRefused}
use Rattle.rt_entry.specs.declared.refused.ServerRefused.TheVariants.{NotDue, StoreFault, BadFile, Memory}
use Rattle.rt_entry.specs.Calls.{Comes}
use Rattle.rt_server.specs.Calls.{Restarts, answered_by, restarted_in}
use Rattle.rt_server.specs.Lasting.{HasAsked, IsServerOver}
use Rattle.rt_server.specs.Logs.{HasMessages}
use Rattle.rt_server.specs.Past.{HasHistory, StartsWithItsNode}
use Rattle.rt_server.specs.Table.{ServerState, segment_of}
use Rattle.rt_server.proofs.LastingEntries.{at_segment, replica_held, segment}
use Rattle.rt_server.proofs.Stepped.{answered_ok, came}

-- a replica is within the log
held_within : (schema : Schema) (ms : List (List ℕ)) (start : Offset) (ph : Phase) → HoldsIn schema ms start ph → (cur_in ph).0 ≤ length ms
held_within schema ms start (phase.Unsealed o) h = h.within
held_within schema ms start (phase.Retained kept) h = h.within
held_within schema ms start (phase.Committed kept) h = h.within
held_within schema ms start (phase.Discarded d) h = h.1

module _ (setup : Setup) (past : Past) (s : ServerState) (right : IsPast setup past) (k : IsServerOver setup past s) where
  -- the store's history is lawful
  pub history_needed : (m : Meaning) → past.history ≡ m.seen → HasHistory s m
  history_needed m shown =
      subst (λ (x : Setup). IsLawfulHistory (starting_of x) m.seen) (sym k.of_setup)
      (subst (λ (h : List Seen). IsLawfulHistory (starting_of setup) h) shown right.lawful)

  -- a replica starts where its node was created
  pub start_needed : (m : Meaning) (p : Partition) (q : Sequence) → past.history ≡ m.seen → StartsWithItsNode s m p q
  start_needed m p q shown r found =
      let held = replica_held setup past s k p q r found in
      let at = at_segment (λ a b. (a.0 < setup.partitions) × IsBegun past.history a b r.start) (segment_of r) (segment p q) held.0 (held.2.partition, held.2.begun) in
      (subst (λ (x : Setup). p.0 < x.partitions) (sym k.of_setup) at.0, subst (λ (h : List Seen). IsBegun h p q r.start) shown at.1)

  -- the stream has all that a replica took
  pub messages_needed : (p : Partition) (q : Sequence) → HasMessages past.log s.table p q
  messages_needed p q r found =
      let held = replica_held setup past s k p q r found in
      (omega (arith, held.2.partition, right.partitions), held_within r.settings.schema (messages_of past.log r.partition) r.start r.phase held.2.held)

-- numbers don't run out before messages do
pub numbers_needed : (setup : Setup) (past : Past) (s : ServerState) → IsServerOver setup past s → length past.sent < 2 ^ 63 → s.numbers.made < 2 ^ 63
numbers_needed setup past s k few = omega (arith, few, k.counted)

-- ---- numbers

-- a right request with the next number may be sent
pub request_sends : (setup : Setup) (past : Past) (request : Request) (numbers : Numbered) → IsPast setup past → AreDrawn past.sent numbers → IsRequest setup past request
    → request.number ≡ number_at numbers numbers.made → Grows past (with_request past request) × IsPast setup (with_request past request)
request_sends setup past request numbers right drawn asks is =
    past_requests setup past request asks (subst (IsFresh past.sent) (sym is) (next_is_fresh past.sent numbers drawn)) right

-- so may what was asked, and all numbers stay drawn
pub asked_grows : (setup : Setup) (past : Past) (old new : ServerState) (p : Partition) (q : Sequence) (request : Request) → IsPast setup past
    → AreDrawn past.sent old.numbers → HasAsked setup past old new p q request
    → Grows past (with_request past request) × IsPast setup (with_request past request) × AreDrawn (with_request past request).sent new.numbers
asked_grows setup past old new p q request right drawn asked =
    let grown = request_sends setup past request old.numbers right drawn asked.right asked.number in
    (grown.0, grown.1, subst (AreDrawn (with_request past request).sent) (sym asked.numbers) (drawn_next past.sent old.numbers request drawn asked.number))

-- a restart begins a later incarnation, so that all numbers stay drawn
module _ (setup : Setup) (past : Past) (before after : Meaning) (old new : ServerState) (ms : List Sent) (k : IsServerOver setup past old)
    (shown : past.history ≡ before.seen) (drawn : AreDrawn ms old.numbers) where
  later : (version : ℕ) → Bumps before after old.numbers.instance (Ok version) → old.numbers.incarnation < version
  later version c =
      let took = answered_took (λ w. w.version) before after (bump old.numbers.instance) version c in
      let lived : IsIncarnation c.base old.numbers.instance old.numbers.incarnation =
      incarnation_grows before.seen c.base old.numbers.instance old.numbers.incarnation c.sees.grows
      (subst (λ (h : List Seen). IsIncarnation h old.numbers.instance old.numbers.incarnation) shown k.incarnation) in
      omega (arith, lived, took.2)

  by_answer : (result : Result ℕ ServerRefused) (answer : Result ℕ StoreRefused) → Bumps before after old.numbers.instance answer
      → Comes (restarted_in old (answered_by answer)) old new result → AreDrawn ms new.numbers
  by_answer (Ok version) answer c step =
      let m = came old new (answered_by answer) version step in
      let bumps : Bumps before after old.numbers.instance (Ok m.0) = subst (Bumps before after old.numbers.instance) (answered_ok ℕ answer m.0 m.1) c in
      subst (λ (x : ServerState). AreDrawn ms x.numbers) (sym m.3) (drawn_anew ms old.numbers m.0 drawn (later m.0 bumps))
  by_answer (Err NotDue) answer c step = subst (λ (x : ServerState). AreDrawn ms x.numbers) (sym step.1) drawn
  by_answer (Err StoreFault) answer c step = subst (λ (x : ServerState). AreDrawn ms x.numbers) (sym step.1) drawn
  by_answer (Err (BadFile wanted found)) answer c step = subst (λ (x : ServerState). AreDrawn ms x.numbers) (sym step.1) drawn
  by_answer (Err Memory) answer c step = subst (λ (x : ServerState). AreDrawn ms x.numbers) (sym step.1) drawn

  pub restarts_drawn : (result : Result ℕ ServerRefused) → Restarts before after old new result → AreDrawn ms new.numbers
  restarts_drawn result h = by_answer result h.0 h.1 h.2

-- ---- the boot node

-- the write of a restart is lawful and right, whatever fault it meets
pub bump_grows : (setup : Setup) (past : Past) (t : Told) (i : Instance) → IsPast setup (with_history past t.writes)
    → Grows (with_history past t.writes) (with_history past (told_on t (after_call (bump i))).writes)
    × IsPast setup (with_history past (told_on t (after_call (bump i))).writes)
bump_grows setup past t i right = past_called setup (with_history past t.writes) (bump i) (told_on t (after_call (bump i))).writes (leaves_on t (bump i)) tt tt right
