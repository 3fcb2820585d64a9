-- A server that looks at a store, at a file or at the stream leaves what these hold.
use Rattle.std.proofs.Common.{◌≡◌, inl, inr, ℕ, Bool, true, false, List, Option, Some, None, Result, Ok, Err, ap, ◌∙◌}
use Rattle.std.proofs.lemmas.Option.{same_Some}
use Rattle.rt_base.specs.declared.numbers.Moment.{Moment}
use Rattle.rt_base.specs.declared.numbers.Partition.{Partition}
use Rattle.rt_base.specs.declared.numbers.Sequence.{Sequence}
use Rattle.rt_consumer.specs.Batch.{Consumes}
use Rattle.rt_consumer.specs.declared.consumer.Consumer.{Consumer}
use Rattle.rt_consumer.specs.declared.refused.ReplicaRefused.{ReplicaRefused}
use Rattle.rt_consumer.specs.declared.refused.ReplicaRefused.TheVariants as replica
use Rattle.rt_deep.proofs.Seeing.{told_exact as deep_exact}
use Rattle.rt_deep.proofs.Told.{get_same}
use Rattle.rt_deep.specs.Answers.{getting}
use Rattle.rt_deep.specs.Calls.{Gets, IsExact as IsExactGet}
use Rattle.rt_deep.specs.Meaning.{Meaning as DeepMeaning, Told as ToldDeep}
use Rattle.rt_deep.specs.Memory.{means as deep_means}
use Rattle.rt_deep.specs.declared.refused.DeepRefused.{DeepRefused}
use Rattle.rt_entry.specs.Download.{LoadsOf}
use Rattle.rt_entry.specs.Entry.{wanted_by}
use Rattle.rt_entry.specs.declared.entry.CommittedSegment.{CommittedSegment}
use Rattle.rt_entry.specs.declared.refused.ServerRefused.{ServerRefused}
use Rattle.rt_model.specs.declared.commit.Commit.{Commit}
use Rattle.rt_model.specs.declared.ideal_state.Mode.{Mode}
use Rattle.rt_model.specs.declared.node.Seen.{Seen}
use Rattle.rt_model.specs.declared.replica_state.ReplicaState.{ReplicaState}
use Rattle.rt_nodes.specs.Refused.{OnlyGot, OnlyRead}
use Rattle.rt_schema.specs.declared.schema.Schema.{Schema}
use Rattle.rt_server.specs.Calls.{SeesIdeal, Takes, ThroughAt, Transits, TransitsIf, TransitsTo}
use Rattle.rt_server.specs.Download.{Downloads, DownloadsAt, committed_at}
use Rattle.rt_server.specs.Table.{Segments, ServerState, entry_of, replica_of, target_of}
use Rattle.rt_server.specs.Transition.{transit_due}
use Rattle.rt_store.proofs.Seeing.{told_exact}
use Rattle.rt_store.proofs.Told.{read_same}
use Rattle.rt_store.specs.Calls.{Calls, IsExact}
use Rattle.rt_store.specs.Meaning.{Meaning, Told}
use Rattle.rt_store.specs.Memory.{means}
use Rattle.rt_store.specs.declared.refused.StoreRefused.{StoreRefused}
use Rattle.rt_stream.specs.Feed.{FeedMeaning, log_meaning}
use Rattle.rt_stream.specs.Log.{Log}

-- ---- a look at a node of the store, and at a file

pub store_same : (t u : Told) → means u ≡ means t → u ≡ t
store_same t u e = same_Some u t (ap (λ (m : Meaning). m.told) e)

read_by : {X : Type 0} (t u : Told) (answer : List Seen → Result X StoreRefused) (result : Result X StoreRefused)
    → IsExact t u answer (λ base. base) result → OnlyRead t u
read_by t u answer result (inl ran_out) = inl ran_out.1
read_by t u answer result (inr came) = inr came.1

pub reads_look : {X : Type 0} (t u : Told) (answer : List Seen → Result X StoreRefused) (result : Result X StoreRefused)
    → Calls (means t) (means u) answer (λ base. base) result → OnlyRead t u
reads_look t u answer result c = read_by t u answer result (told_exact t u answer (λ base. base) result c)

pub unwritten : (t u : Told) → OnlyRead t u → u.writes ≡ t.writes
unwritten t u (inl same) = ap (λ (x : Told). x.writes) same
unwritten t u (inr met) = ap (λ (x : Told). x.writes) met ∙ read_same t

got_by : (t u : ToldDeep) (path : List ℕ) (answer : Result (List ℕ) DeepRefused) → IsExactGet t u (getting path) (λ base. base) answer → OnlyGot t u
got_by t u path answer (inl ran_out) = inl ran_out.1
got_by t u path answer (inr came) = inr came.1

gets_look : (t u : ToldDeep) (path : List ℕ) (answer : Result (List ℕ) DeepRefused) → Gets (deep_means t) (deep_means u) path answer → OnlyGot t u
gets_look t u path answer c = got_by t u path answer (deep_exact t u (getting path) (λ base. base) answer c)

pub unput : (t u : ToldDeep) → OnlyGot t u → u.files ≡ t.files
unput t u (inl same) = ap (λ (x : ToldDeep). x.files) same
unput t u (inr met) = ap (λ (x : ToldDeep). x.files) met ∙ get_same t

-- ---- a server sees the ideal state

pub sees_looks : (t u : Told) (old new : ServerState) (result : Result ℕ ServerRefused) → SeesIdeal (means t) (means u) old new result → OnlyRead t u
sees_looks t u old new result h = reads_look t u _ h.0 h.1

-- ---- a transition

module _ (t u : Told) (old new : ServerState) (p : Partition) (q : Sequence) (now : Moment) (result : Result ReplicaState ServerRefused) where
  to_looks : (o : Option Mode) → TransitsTo o (means t) (means u) old new p q now result → OnlyRead t u
  to_looks None h = inl (store_same t u h.0)
  to_looks (Some mode) h = reads_look t u _ h.0 h.1

  if_looks : (b : Bool) → TransitsIf b (means t) (means u) old new p q now result → OnlyRead t u
  if_looks true h = to_looks (target_of old.table p q) h
  if_looks false h = inl (store_same t u h.0)

  pub transits_looks : Transits (means t) (means u) old new p q now result → OnlyRead t u
  transits_looks h = if_looks (transit_due old.table p q) h

-- ---- a download

deep_same : (t u : ToldDeep) → deep_means u ≡ deep_means t → u ≡ t
deep_same t u e = same_Some u t (ap (λ (m : DeepMeaning). m.told) e)

module _ (t u : ToldDeep) (schema : Schema) (old new : Segments) (p : Partition) (q : Sequence) (result : Result ℕ ServerRefused) where
  of_looks : (c next : CommittedSegment) (o : Option Commit) → LoadsOf o (deep_means t) (deep_means u) schema p q c next result → OnlyGot t u
  of_looks c next None h = inl (deep_same t u h.0)
  of_looks c next (Some commit) h = gets_look t u commit.path h.0 h.1

  at_looks : (o : Option CommittedSegment) → DownloadsAt o (deep_means t) (deep_means u) schema old new p q result → OnlyGot t u
  at_looks None h = inl (deep_same t u h.0)
  at_looks (Some c) h = of_looks c h.0 (wanted_by c.file c.done.meta.status) h.1

  pub downloads_looks : Downloads (deep_means t) (deep_means u) schema old new p q result → OnlyGot t u
  downloads_looks h = at_looks (committed_at (entry_of old p q)) h

-- ---- consuming

module _ (l m : Log) (old new : Segments) (p : Partition) (q : Sequence) (max : ℕ) (now : Moment) where
  log_same : log_meaning m ≡ log_meaning l → m ≡ l
  log_same e = ap (λ (f : FeedMeaning). f.seen) e

  consumes_look : (r next : Consumer) (answer : Result (Unit {0}) ReplicaRefused) → Consumes (log_meaning l) (log_meaning m) r next max now answer → m ≡ l
  consumes_look r next (Ok u) h = h.0.sees.1
  consumes_look r next (Err replica.NotDue) h = log_same h.2
  consumes_look r next (Err replica.Memory) h = h.2.sees.1

  through_look : (result : Result (Unit {0}) ServerRefused) (o : Option Consumer)
      → ThroughAt o (log_meaning m ≡ log_meaning l) (λ r next answer. Consumes (log_meaning l) (log_meaning m) r next max now answer) old new p q result → m ≡ l
  through_look result None h = log_same h.0
  through_look result (Some r) h = consumes_look r h.0 h.1 h.2

  pub takes_looks : (result : Result (Unit {0}) ServerRefused) → Takes (log_meaning l) (log_meaning m) old new p q max now result → m ≡ l
  takes_looks result h = through_look result (replica_of old p q) h
