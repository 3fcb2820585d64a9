-- A server's calls over stores and a stream that tell everything: the past goes on rightly, and what lasts of the server is
-- kept.
use Rattle.std.proofs.Common.{◌≡◌, ◌<◌, ◌^◌, inl, inr, ℕ, Bool, true, false, List, length, Option, Some, None, Result, Ok, Err, refl, sym, ap, subst, ◌∙◌}
use Rattle.rt_base.specs.declared.fault.Fault.{Fault}
use Rattle.rt_base.specs.declared.fault.Fault.TheVariants as fault
use Rattle.rt_base.specs.declared.header.Header.{Header}
use Rattle.rt_base.specs.declared.numbers.Instance.{Instance}
use Rattle.rt_base.specs.declared.numbers.Moment.{Moment}
use Rattle.rt_base.specs.declared.numbers.Partition.{Partition}
use Rattle.rt_base.specs.declared.numbers.Sequence.{Sequence}
use Rattle.rt_base.specs.Faults.{fault_of, left_under}
use Rattle.rt_lists.specs.Members.{Has}
use Rattle.rt_schema.specs.declared.schema.Schema.{Schema}
use Rattle.rt_stream.specs.Feed.{FeedMeaning, log_meaning}
use Rattle.rt_stream.specs.Log.{Log}
use Rattle.rt_model.specs.declared.commit.Commit.{Commit}
use Rattle.rt_model.specs.declared.ideal_state.Mode.{Mode}
use Rattle.rt_model.specs.declared.node.Key.{Key}
use Rattle.rt_model.specs.declared.node.Key.TheVariants as key
use Rattle.rt_model.specs.declared.node.Seen.{Seen}
use Rattle.rt_model.specs.declared.replica_state.ReplicaState.{ReplicaState}
use Rattle.rt_model.specs.declared.reply.Reply.{Reply}
use Rattle.rt_model.specs.declared.request.Request.{Request}
use Rattle.rt_model.specs.declared.sent.Sent.TheVariants as sent
use Rattle.rt_model.specs.declared.setup.Setup.{Setup}
use Rattle.rt_model.specs.Lawful.{bump}
use Rattle.rt_msgs.specs.Numbered.{Numbered}
use Rattle.rt_store.specs.declared.refused.StoreRefused.{StoreRefused}
use Rattle.rt_store.specs.Answers.{Leaves, after_call, answer_of, reading}
use Rattle.rt_store.specs.Calls.{Bumps, IsExact, Reads}
use Rattle.rt_store.specs.Meaning.{Meaning, Told}
use Rattle.rt_store.specs.Memory.{means}
use Rattle.rt_store.proofs.Seeing.{told_exact}
use Rattle.rt_store.proofs.Told.{leaves_on, read_same}
use Rattle.rt_deep.specs.declared.deep_put.DeepPut.{DeepPut}
use Rattle.rt_deep.specs.declared.refused.DeepRefused.{DeepRefused}
use Rattle.rt_deep.specs.Answers.{getting}
use Rattle.rt_deep.specs.Calls.{Gets, IsExact as IsDeepExact}
use Rattle.rt_deep.specs.Meaning.{Meaning as DeepMeaning, Told as DeepTold}
use Rattle.rt_deep.specs.Memory.{means as deep_means}
use Rattle.rt_deep.proofs.Seeing.{told_exact as deep_exact}
use Rattle.rt_past.specs.Past.{Past, with_files, with_history, with_log}
use Rattle.rt_past.specs.IsPast.{IsPast}
use Rattle.rt_past.specs.Requests.{AreDrawn}
use Rattle.rt_past.proofs.Growth.{grows_same}
use Rattle.rt_past.proofs.Ways.{past_called}
use Rattle.rt_consumer.specs.declared.consumer.Consumer.{Consumer}
use Rattle.rt_consumer.specs.declared.refused.ReplicaRefused.{ReplicaRefused}
use Rattle.rt_consumer.specs.declared.refused.ReplicaRefused.TheVariants as replica
use Rattle.rt_consumer.specs.Batch.{Consumes}
use Rattle.rt_entry.specs.declared.entry.CommittedSegment.{CommittedSegment}
use Rattle.rt_entry.specs.declared.refused.ServerRefused.{ServerRefused}
use Rattle.rt_entry.specs.declared.refused.ServerRefused.TheVariants.{BadFile}
use Rattle.rt_entry.specs.Download.{LoadsOf}
use Rattle.rt_entry.specs.Entry.{wanted_by}
use Rattle.rt_server.specs.Calls.{Asks, AsksFor, Forces, InTable, Restarts, Seals, SeesIdeal, Stops, Takes, ThroughAt, Transits, TransitsIf, TransitsTo, answered_by, crashed, replied_in, restarted_in}
use Rattle.rt_server.specs.Download.{Downloads, DownloadsAt, committed_at}
use Rattle.rt_server.specs.Lasting.{HasAsked, IsEmpty, IsServerOver, SendsRight, StepsRight}
use Rattle.rt_server.specs.Table.{Segments, ServerState, entry_of, replica_of, target_of, with_table}
use Rattle.rt_server.specs.Transition.{transit_due}
use Rattle.rt_server.proofs.LastingCalls.{asks_for_over, asks_over, crashed_over, downloads_over, forces_over, replies_over, restarts_over, seals_over, sees_keep, stops_over, takes_over, transits_keep}
use Rattle.rt_server.proofs.LastingDownloads.{downloads_never_bad}
use Rattle.rt_server.proofs.LastingEntries.{Keeps}
use Rattle.rt_server.proofs.LastingGrows.{server_grows}
use Rattle.rt_server.proofs.LastingNeeds.{asked_grows, numbers_needed, restarts_drawn}
use Rattle.rt_server.proofs.Stepped.{came, comes_keep}

-- ---- a past that stays

stays : (setup : Setup) (past : Past) (old new : ServerState) → IsPast setup past → Keeps setup past old new → StepsRight setup past past old new
stays setup past old new right k =
    record {
      grows = grows_same past;
      right = right;
      same = ap (λ (n : Numbered). n.instance) k.1;
      drawn = λ ms drawn. subst (AreDrawn ms) (sym k.1) drawn;
      server = k.0;
    }

-- ---- the store

-- a read writes nothing
told_read : (t u : Told) (k : Key) (answer : Result Seen StoreRefused) → Reads (means t) (means u) k answer → u.writes ≡ t.writes
told_read t u k answer c = by (told_exact t u (reading k) (λ base. base) answer c)
  where
    by : IsExact t u (reading k) (λ base. base) answer → u.writes ≡ t.writes
    by (inl none) = ap (λ (x : Told). x.writes) none.1
    by (inr read) = ap (λ (x : Told). x.writes) read.1 ∙ read_same t

after_read : (setup : Setup) (past : Past) (old new : ServerState) (h : List Seen) → past.history ≡ h → StepsRight setup past past old new
    → StepsRight setup past (with_history past h) old new
after_read setup past old new h e k = subst (λ (x : List Seen). StepsRight setup past (with_history past x) old new) e k

pub sees_right : (setup : Setup) (past : Past) (t u : Told) (old new : ServerState) (result : Result ℕ ServerRefused) → IsPast setup past → IsServerOver setup past old
    → past.history ≡ t.writes → SeesIdeal (means t) (means u) old new result → StepsRight setup past (with_history past u.writes) old new
sees_right setup past t u old new result right k told h =
    let shown : past.history ≡ u.writes = told ∙ sym (told_read t u key.Ideal h.0 h.1) in
    after_read setup past old new u.writes shown (stays setup past old new right (sees_keep setup past right old k (means t) (means u) new shown result h))

module _ (t u : Told) (old new : ServerState) (p : Partition) (q : Sequence) (now : Moment) (result : Result ReplicaState ServerRefused) where
  same_writes : means u ≡ means t → u.writes ≡ t.writes
  same_writes e = ap (λ (m : Meaning). m.seen) e

  to_writes : (o : Option Mode) → TransitsTo o (means t) (means u) old new p q now result → u.writes ≡ t.writes
  to_writes None h = same_writes h.0
  to_writes (Some mode) h = told_read t u (key.Meta p q) h.0 h.1

  if_writes : (b : Bool) → TransitsIf b (means t) (means u) old new p q now result → u.writes ≡ t.writes
  if_writes true h = to_writes (target_of old.table p q) h
  if_writes false h = same_writes h.0

pub transits_right : (setup : Setup) (past : Past) (t u : Told) (old new : ServerState) (p : Partition) (q : Sequence) (now : Moment) (result : Result ReplicaState ServerRefused)
    → IsPast setup past → IsServerOver setup past old → past.history ≡ t.writes → Transits (means t) (means u) old new p q now result
    → StepsRight setup past (with_history past u.writes) old new
transits_right setup past t u old new p q now result right k told h =
    let shown : past.history ≡ u.writes = told ∙ sym (if_writes t u old new p q now result (transit_due old.table p q) h) in
    after_read setup past old new u.writes shown
    (stays setup past old new right (transits_keep setup past right old k (means t) (means u) new shown p q now result h))

-- a bump that may have met a fault
bumped_leaves : (t u : Told) (i : Instance) (answer : Result ℕ StoreRefused) → Bumps (means t) (means u) i answer → Leaves (bump i) t.writes u.writes
bumped_leaves t u i answer c = by (told_exact t u (answer_of (λ w. w.version) (bump i)) (after_call (bump i)) answer c)
  where
    by : IsExact t u (answer_of (λ w. w.version) (bump i)) (after_call (bump i)) answer → Leaves (bump i) t.writes u.writes
    by (inl none) = inl (ap (λ (x : Told). x.writes) none.1)
    by (inr wrote) = subst (λ (x : Told). Leaves (bump i) t.writes x.writes) (sym wrote.1) (leaves_on t (bump i))

pub restarts_right : (setup : Setup) (past : Past) (t u : Told) (old new : ServerState) (result : Result ℕ ServerRefused) → IsPast setup past → IsServerOver setup past old
    → past.history ≡ t.writes → IsEmpty old → Restarts (means t) (means u) old new result → StepsRight setup past (with_history past u.writes) old new
restarts_right setup past t u old new result right k told empty h =
    let i = old.numbers.instance in
    let leaves : Leaves (bump i) past.history u.writes = subst (λ (x : List Seen). Leaves (bump i) x u.writes) (sym told) (bumped_leaves t u i h.0 h.1) in
    let grown = past_called setup past (bump i) u.writes leaves tt tt right in
    record {
      grows = grown.0;
      right = grown.1;
      same =
          comes_keep (λ s. s.numbers.instance ≡ i) old new (restarted_in old (answered_by h.0)) result refl
          (λ version step. ap (λ (s : ServerState). s.numbers.instance) (came old new (answered_by h.0) version step).3) h.2;
      drawn = λ ms drawn. restarts_drawn setup past (means t) (means u) old new ms k told drawn result h;
      server =
          restarts_over setup (with_history past u.writes) grown.1 old (server_grows setup past (with_history past u.writes) old grown.0 k)
          (means t) (means u) new refl result empty h;
    }

pub crashes_right : (setup : Setup) (past : Past) (s : ServerState) → IsPast setup past → IsServerOver setup past s → StepsRight setup past past s (crashed s) × IsEmpty (crashed s)
crashes_right setup past s right k = (stays setup past s (crashed s) right (crashed_over setup past right s k, refl), refl)

-- ---- the deep store

left_same : {X : Type 0} (f : Fault) (x : X) → left_under f x x ≡ x
left_same fault.Nothing x = refl
left_same fault.Lost x = refl
left_same fault.Kept x = refl

told_get : (d e : DeepTold) (path : List ℕ) (answer : Result (List ℕ) DeepRefused) → Gets (deep_means d) (deep_means e) path answer → e.files ≡ d.files
told_get d e path answer c = by (deep_exact d e (getting path) (λ base. base) answer c)
  where
    by : IsDeepExact d e (getting path) (λ base. base) answer → e.files ≡ d.files
    by (inl none) = ap (λ (x : DeepTold). x.files) none.1
    by (inr got) = ap (λ (x : DeepTold). x.files) got.1 ∙ left_same (fault_of d.faults.plan) d.files

module _ (d e : DeepTold) (schema : Schema) (p : Partition) (q : Sequence) (result : Result ℕ ServerRefused) where
  same_files : deep_means e ≡ deep_means d → e.files ≡ d.files
  same_files h = ap (λ (m : DeepMeaning). m.seen) h

  loads_files : (o : Option Commit) (c next : CommittedSegment) → LoadsOf o (deep_means d) (deep_means e) schema p q c next result → e.files ≡ d.files
  loads_files None c next h = same_files h.0
  loads_files (Some commit) c next h = told_get d e commit.path h.0 h.1

  downloads_files : (o : Option CommittedSegment) (old new : Segments) → DownloadsAt o (deep_means d) (deep_means e) schema old new p q result → e.files ≡ d.files
  downloads_files None old new h = same_files h.0
  downloads_files (Some c) old new h = loads_files (wanted_by c.file c.done.meta.status) c h.0 h.1

pub downloads_right : (setup : Setup) (past : Past) (d e : DeepTold) (old new : ServerState) (p : Partition) (q : Sequence) (result : Result ℕ ServerRefused)
    → IsPast setup past → IsServerOver setup past old → past.files ≡ d.files
    → Downloads (deep_means d) (deep_means e) old.setup.schema old.table new.table p q result → InTable old new
    → StepsRight setup past (with_files past e.files) old new
downloads_right setup past d e old new p q result right k told h only =
    let shown : past.files ≡ e.files = told ∙ sym (downloads_files d e old.setup.schema p q result (committed_at (entry_of old.table p q)) old.table new.table h) in
    subst (λ (x : List DeepPut). StepsRight setup past (with_files past x) old new) shown
    (stays setup past old new right (downloads_over setup past right old k (deep_means d) (deep_means e) new p q shown result h only, only.1))

-- a download finds the file that its segment's commit names
pub download_finds : (setup : Setup) (past : Past) (d e : DeepTold) (s : ServerState) (t : Segments) (p : Partition) (q : Sequence) (wanted : Header) (found : Option Header)
    → IsPast setup past → IsServerOver setup past s → past.files ≡ d.files
    → Downloads (deep_means d) (deep_means e) s.setup.schema s.table t p q (Err (BadFile wanted found)) → ⊥
download_finds setup past d e s t p q wanted found right k told h =
    let shown : past.files ≡ e.files =
    told ∙ sym (downloads_files d e s.setup.schema p q (Err (BadFile wanted found)) (committed_at (entry_of s.table p q)) s.table t h) in
    downloads_never_bad setup past (deep_means d) (deep_means e) s (with_table s t) p q shown right k wanted found h

-- ---- the stream

module _ (a b : Log) (max : ℕ) (now : Moment) where
  same_messages : log_meaning b ≡ log_meaning a → b ≡ a
  same_messages e = ap (λ (m : FeedMeaning). m.seen) e

  consumed_log : (r next : Consumer) (answer : Result (Unit {0}) ReplicaRefused) → Consumes (log_meaning a) (log_meaning b) r next max now answer → b ≡ a
  consumed_log r next (Ok u) c = c.0.sees.1
  consumed_log r next (Err replica.NotDue) c = same_messages c.2
  consumed_log r next (Err replica.Memory) c = c.2.sees.1

  taken_log : (old new : Segments) (p : Partition) (q : Sequence) (result : Result (Unit {0}) ServerRefused) (o : Option Consumer)
      → ThroughAt o (log_meaning b ≡ log_meaning a) (λ r next answer. Consumes (log_meaning a) (log_meaning b) r next max now answer) old new p q result → b ≡ a
  taken_log old new p q result None h = same_messages h.0
  taken_log old new p q result (Some r) h = consumed_log r h.0 h.1 h.2

pub takes_right : (setup : Setup) (past : Past) (a b : Log) (old new : ServerState) (p : Partition) (q : Sequence) (max : ℕ) (now : Moment) (result : Result (Unit {0}) ServerRefused)
    → IsPast setup past → IsServerOver setup past old → past.log ≡ a → Takes (log_meaning a) (log_meaning b) old.table new.table p q max now result → InTable old new
    → StepsRight setup past (with_log past b) old new
takes_right setup past a b old new p q max now result right k told h only =
    let shown : past.log ≡ b = told ∙ sym (taken_log a b max now old.table new.table p q result (replica_of old.table p q) h) in
    subst (λ (x : Log). StepsRight setup past (with_log past x) old new) shown
    (stays setup past old new right (takes_over setup past right old k new only p q result (log_meaning a) (log_meaning b) max now shown h, only.1))

-- ---- a replica's own calls

module _ (setup : Setup) (past : Past) (old new : ServerState) (right : IsPast setup past) (k : IsServerOver setup past old) (only : InTable old new) where
  pub forces_right : (p : Partition) (q : Sequence) (result : Result (Unit {0}) ServerRefused) → Forces old.table new.table p q result → StepsRight setup past past old new
  forces_right p q result h = stays setup past old new right (forces_over setup past right old k new only p q result h, only.1)

  pub stops_right : (p : Partition) (q : Sequence) (result : Result (Unit {0}) ServerRefused) → Stops old.table new.table p q result → StepsRight setup past past old new
  stops_right p q result h = stays setup past old new right (stops_over setup past right old k new only p q result h, only.1)

  pub seals_right : (p : Partition) (q : Sequence) (result : Result (Unit {0}) ServerRefused) → Seals old.table new.table p q result → StepsRight setup past past old new
  seals_right p q result h = stays setup past old new right (seals_over setup past right old k new only p q result h, only.1)

  pub replies_right : (reply : Reply) (result : Bool) → Has past.sent (sent.Reply reply) → (result, new.table) ≡ replied_in old.table reply → StepsRight setup past past old new
  replies_right reply result y h = stays setup past old new right (replies_over setup past right old k new only reply result y h, only.1)

-- ---- requests

module _ (setup : Setup) (past : Past) (old new : ServerState) (p : Partition) (q : Sequence) (request : Request) (right : IsPast setup past) (k : IsServerOver setup past old)
    (drawn : AreDrawn past.sent old.numbers) (few : length past.sent < 2 ^ 63) (of : new.setup ≡ old.setup) where
  sends : HasAsked setup past old new p q request → SendsRight setup past old new p q request
  sends asked =
      let grown = asked_grows setup past old new p q request right drawn asked in
      record { asked = asked; grows = grown.0; right = grown.1; same = ap (λ (n : Numbered). n.instance) asked.numbers; drawn = grown.2 }

  pub asks_right : Asks old.numbers new.numbers old.table new.table p q (Ok request) → SendsRight setup past old new p q request
  asks_right h = sends (asks_over setup past right old k new p q request drawn (numbers_needed setup past old k few) of h)

  pub asks_for_right : (millis : ℕ) → AsksFor old.numbers new.numbers millis old.table new.table p q (Ok request) → SendsRight setup past old new p q request
  asks_for_right millis h = sends (asks_for_over setup past right old k new p q request drawn (numbers_needed setup past old k few) of millis h)
