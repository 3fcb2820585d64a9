-- What a call of a server shows its caller of the store, the deep store and the stream, and what of it is the caller's own.
use Rattle.std.proofs.Common.{◌≡◌, ◌∙◌, ◌⊎◌, inl, inr, ap, sym, subst, refl, ℕ, Bool, true, false, List, [], ◌∷◌, ◌++◌, append-nil, Option, Some, None, Result, Ok, Err}
use Rattle.std.proofs.lemmas.List.Elements.{All-cons, All-nil}
use Rattle.rt_base.proofs.Planned.{left_cases}
use Rattle.rt_base.specs.declared.fault.Fault.{Fault}
use Rattle.rt_base.specs.declared.numbers.Instance.{Instance}
use Rattle.rt_base.specs.declared.numbers.Moment.{Moment}
use Rattle.rt_base.specs.declared.numbers.Partition.{Partition}
use Rattle.rt_base.specs.declared.numbers.Sequence.{Sequence}
use Rattle.rt_consumer.specs.Batch.{Consumes}
use Rattle.rt_consumer.specs.declared.consumer.Consumer.{Consumer}
use Rattle.rt_consumer.specs.declared.refused.ReplicaRefused.{ReplicaRefused}
use Rattle.rt_consumer.specs.declared.refused.ReplicaRefused.TheVariants as replica
use Rattle.rt_deep.specs.Answers as deep_answers
use Rattle.rt_deep.specs.Calls as deep_calls
use Rattle.rt_deep.specs.Files.{AreOnce}
use Rattle.rt_deep.specs.Meaning.{Meaning as DeepMeaning, Own as DeepOwn}
use Rattle.rt_deep.specs.declared.deep_put.DeepPut.{DeepPut}
use Rattle.rt_deep.specs.declared.refused.DeepRefused.{DeepRefused}
use Rattle.rt_deep.specs.declared.refused.DeepRefused.TheVariants as deep
use Rattle.rt_deep.proofs.Owning as deep_owning
use Rattle.rt_deep.proofs.Seeing.{get_grows, get_once}
use Rattle.rt_entry.specs.Download.{LoadsOf}
use Rattle.rt_entry.specs.Entry.{wanted_by}
use Rattle.rt_entry.specs.declared.entry.CommittedSegment.{CommittedSegment}
use Rattle.rt_entry.specs.declared.refused.ServerRefused.{ServerRefused}
use Rattle.rt_front.specs.Histories.{Known}
use Rattle.rt_ground.specs.StoreCalls.{own_by, seen_by, shared_meaning}
use Rattle.rt_ground.specs.DeepCalls as deep_ground
use Rattle.rt_ground.specs.StreamCalls as stream_ground
use Rattle.rt_ground.specs.declared.appended.Appended.{Appended}
use Rattle.rt_lists.specs.Members.{IsFront}
use Rattle.rt_lists.proofs.Members.{front_same}
use Rattle.rt_live_names.specs.Quiet.{AreUndone}
use Rattle.rt_live_names.specs.Showed.{DeepShowsMore, ShowsMore, StreamShowsMore, deep_shown_by, shown_by, stream_shown_by}
use Rattle.rt_model.specs.Lawful.{bump, written_by}
use Rattle.rt_model.specs.Metadata.{IsDone}
use Rattle.rt_model.specs.Starting.{Starting}
use Rattle.rt_model.specs.declared.commit.Commit.{Commit}
use Rattle.rt_model.specs.declared.ideal_state.Mode.{Mode}
use Rattle.rt_model.specs.declared.node.Key.{Key}
use Rattle.rt_model.specs.declared.node.Key.TheVariants as key
use Rattle.rt_model.specs.declared.node.Seen.{Seen}
use Rattle.rt_model.specs.declared.replica_state.ReplicaState.{ReplicaState}
use Rattle.rt_schema.specs.declared.schema.Schema.{Schema}
use Rattle.rt_server.specs.Calls.{SeesIdeal, Takes, ThroughAt, Transits, TransitsIf, TransitsTo}
use Rattle.rt_server.specs.Download.{Downloads, DownloadsAt, committed_at}
use Rattle.rt_server.specs.Table.{Segments, ServerState, entry_of, replica_of, target_of}
use Rattle.rt_server.specs.Transition.{transit_due}
use Rattle.rt_store.specs.Answers.{after_call, answer_of, reading, Leaves}
use Rattle.rt_store.specs.Calls.{Bumps, Gains, Goes, GoesBy, Reads}
use Rattle.rt_store.specs.Meaning.{Meaning, Own}
use Rattle.rt_store.specs.declared.refused.StoreRefused.{StoreRefused}
use Rattle.rt_store.specs.declared.refused.StoreRefused.TheVariants.{NoNode, Exists, VersionChanged, Failed, Memory}
use Rattle.rt_store.proofs.Owning.{gains_nothing, gains_one, with_own}
use Rattle.rt_store.proofs.Seeing.{wrote_by}
use Rattle.rt_stream.specs.Feed.{FeedMeaning, FeedOwn, Grows}
use Rattle.rt_stream.proofs.Growth.{log_same}

-- ---- the store

one_case : (now base : List Seen) → (now ≡ base) ⊎ (now ≡ base) → now ≡ base
one_case now base (inl e) = e
one_case now base (inr e) = e

same_base : {X : Type 0} (old new : Meaning) (fault : Fault) (base : List Seen) (answer result : Result X StoreRefused) → Goes old new fault base base answer result → new.own ≡ old.own
same_base old new fault base answer result g = gains_nothing old.own new.own base new.seen g.own (one_case new.seen base (left_cases fault base base new.seen g.seen))

same_by : {X : Type 0} (old new : Meaning) (fault : Fault) (base : List Seen) (answer result : Result X StoreRefused) → GoesBy old new fault base base answer result → new.own ≡ old.own
same_by old new fault base answer (Ok x) g = same_base old new fault base answer (Ok x) g
same_by old new fault base answer (Err NoNode) g = same_base old new fault base answer (Err NoNode) g
same_by old new fault base answer (Err (Exists found)) g = same_base old new fault base answer (Err (Exists found)) g
same_by old new fault base answer (Err (VersionChanged expected found)) g = same_base old new fault base answer (Err (VersionChanged expected found)) g
same_by old new fault base answer (Err Failed) g = same_base old new fault base answer (Err Failed) g
same_by old new fault base answer (Err Memory) g = g.own

-- a read adds nothing to its caller's own
read_own : (old new : Meaning) (k : Key) (result : Result Seen StoreRefused) → Reads old new k result → new.own ≡ old.own
read_own old new k result c = same_by old new c.fault c.base (reading k c.base) result c.goes

abbrev some_own : Own → Option Own
some_own o = Some o

same_own : (a b : Own) → some_own a ≡ some_own b → a ≡ b
same_own a b e = cc

module _ (s : Starting) (old new : Known Seen) (front : IsFront (seen_by s old) (seen_by s new)) where
  -- a caller that has seen more, of which nothing is its own
  pub shows_read : own_by new ≡ own_by old → ShowsMore (shown_by s old) (shown_by s new)
  shows_read e = record {
    seen = front;
    numbers = ap (λ (o : Own). o.numbers) e;
    writes = ([], ap (λ (o : Own). o.writes) e ∙ sym (append-nil (own_by old).writes));
  }

  -- and of which this is its own
  pub shows_written : (more : List Seen) → some_own (own_by new) ≡ with_own (own_by old) more → ShowsMore (shown_by s old) (shown_by s new)
  shows_written more e =
      let is = same_own (own_by new) (record { numbers = (own_by old).numbers; writes = (own_by old).writes ++ more }) e in
      record {
        seen = front;
        numbers = ap (λ (o : Own). o.numbers) is;
        writes = (more, ap (λ (o : Own). o.writes) is);
      }

module _ (s : Starting) (old new : Known Seen) (a b : ServerState) where
  pub sees_same : (result : Result ℕ ServerRefused) → SeesIdeal (shared_meaning s old) (shared_meaning s new) a b result → own_by new ≡ own_by old
  sees_same result h = same_own (own_by new) (own_by old) (read_own (shared_meaning s old) (shared_meaning s new) key.Ideal h.0 h.1)

  module _ (p : Partition) (q : Sequence) (now : Moment) (result : Result ReplicaState ServerRefused) where
    to_same : (target : Option Mode) → TransitsTo target (shared_meaning s old) (shared_meaning s new) a b p q now result → (shared_meaning s new).own ≡ (shared_meaning s old).own
    to_same None h = ap (λ (m : Meaning). m.own) h.0
    to_same (Some mode) h = read_own (shared_meaning s old) (shared_meaning s new) (key.Meta p q) h.0 h.1

    if_same : (due : Bool) → TransitsIf due (shared_meaning s old) (shared_meaning s new) a b p q now result → (shared_meaning s new).own ≡ (shared_meaning s old).own
    if_same true h = to_same (target_of a.table p q) h
    if_same false h = ap (λ (m : Meaning). m.own) h.0

    pub transits_same : Transits (shared_meaning s old) (shared_meaning s new) a b p q now result → own_by new ≡ own_by old
    transits_same h = same_own (own_by new) (own_by old) (if_same (transit_due a.table p q) h)

-- ---- a boot node is written

-- the caller's own grows by what commits nothing
pub record OwnUndone (old new : Meaning) (o : Own) : Type 0 where
  pub more : List Seen
  pub undone : AreUndone more
  pub own : new.own ≡ with_own o more

abbrev boots : List Seen → Instance → Seen
boots h i = written_by h (bump i)

not_done : (h : List Seen) (i : Instance) → IsDone (boots h i).node → ⊥
not_done h i done = done

nothing_more : (old new : Meaning) (o : Own) → old.own ≡ some_own o → new.own ≡ old.own → OwnUndone old new o
nothing_more old new o is e = record {
  more = [];
  undone = All-nil (λ w. IsDone w.node → ⊥);
  own = e ∙ is ∙ ap (λ (ws : List Seen). some_own (record { numbers = o.numbers; writes = ws })) (sym (append-nil o.writes));
}

module _ (old new : Meaning) (o : Own) (is : old.own ≡ some_own o) (i : Instance) (base : List Seen) where
  one_more : new.own ≡ with_own o (boots base i ∷ []) → OwnUndone old new o
  one_more own = record {
    more = boots base i ∷ [];
    undone = All-cons (λ w. IsDone w.node → ⊥) (boots base i) [] (not_done base i) (All-nil (λ w. IsDone w.node → ⊥));
    own = own;
  }

  by_leaves : (fault : Fault) (answer result : Result ℕ StoreRefused) → Goes old new fault base (after_call (bump i) base) answer result → Leaves (bump i) base new.seen → OwnUndone old new o
  by_leaves fault answer result g (inl same) = nothing_more old new o is (gains_nothing old.own new.own base new.seen g.own same)
  by_leaves fault answer result g (inr wrote) =
      one_more (gains_one o new.own base new.seen (boots base i) (subst (λ (x : Option Own). Gains x new.own base new.seen) is g.own) wrote.1)

  bumps_goes : (fault : Fault) (answer result : Result ℕ StoreRefused) → Goes old new fault base (after_call (bump i) base) answer result → OwnUndone old new o
  bumps_goes fault answer result g = by_leaves fault answer result g (wrote_by (bump i) base new.seen (left_cases fault base (after_call (bump i) base) new.seen g.seen))

  bumps_by : (fault : Fault) (answer result : Result ℕ StoreRefused) → GoesBy old new fault base (after_call (bump i) base) answer result → OwnUndone old new o
  bumps_by fault answer (Ok x) g = bumps_goes fault answer (Ok x) g
  bumps_by fault answer (Err NoNode) g = bumps_goes fault answer (Err NoNode) g
  bumps_by fault answer (Err (Exists found)) g = bumps_goes fault answer (Err (Exists found)) g
  bumps_by fault answer (Err (VersionChanged expected found)) g = bumps_goes fault answer (Err (VersionChanged expected found)) g
  bumps_by fault answer (Err Failed) g = bumps_goes fault answer (Err Failed) g
  bumps_by fault answer (Err Memory) g = nothing_more old new o is g.own

pub bumps_undone : (s : Starting) (old new : Known Seen) (i : Instance) (result : Result ℕ StoreRefused) → Bumps (shared_meaning s old) (shared_meaning s new) i result
    → OwnUndone (shared_meaning s old) (shared_meaning s new) (own_by old)
bumps_undone s old new i result c =
    bumps_by (shared_meaning s old) (shared_meaning s new) (own_by old) refl i c.base c.fault (answer_of (λ w. w.version) (bump i) c.base) result c.goes

-- ---- the deep store

-- a caller that has seen more files, none of which is its own
pub record DeepKeeps (old new : DeepMeaning) : Type 0 where
  pub grows : IsFront old.seen new.seen
  pub once : AreOnce old.seen → AreOnce new.seen
  pub own : new.own ≡ old.own

deep_same : (old new : DeepMeaning) → new ≡ old → DeepKeeps old new
deep_same old new e = record {
  grows = subst (λ (m : DeepMeaning). IsFront old.seen m.seen) (sym e) (front_same old.seen);
  once = λ once. subst (λ (m : DeepMeaning). AreOnce m.seen) (sym e) once;
  own = ap (λ (m : DeepMeaning). m.own) e;
}

one_file : (now base : List DeepPut) → (now ≡ base) ⊎ (now ≡ base) → now ≡ base
one_file now base (inl e) = e
one_file now base (inr e) = e

get_goes : (old new : DeepMeaning) (fault : Fault) (base : List DeepPut) (answer result : Result (List ℕ) DeepRefused) → deep_calls.Goes old new fault base base answer result → new.own ≡ old.own
get_goes old new fault base answer result g = deep_owning.gains_nothing old.own new.own base new.seen g.own (one_file new.seen base (left_cases fault base base new.seen g.seen))

get_by : (old new : DeepMeaning) (fault : Fault) (base : List DeepPut) (answer result : Result (List ℕ) DeepRefused) → deep_calls.GoesBy old new fault base base answer result → new.own ≡ old.own
get_by old new fault base answer (Ok x) g = get_goes old new fault base answer (Ok x) g
get_by old new fault base answer (Err deep.Absent) g = get_goes old new fault base answer (Err deep.Absent) g
get_by old new fault base answer (Err (deep.OtherBytes kept offered)) g = get_goes old new fault base answer (Err (deep.OtherBytes kept offered)) g
get_by old new fault base answer (Err deep.Failed) g = get_goes old new fault base answer (Err deep.Failed) g
get_by old new fault base answer (Err deep.Memory) g = g.own

get_keeps : (old new : DeepMeaning) (path : List ℕ) (result : Result (List ℕ) DeepRefused) → deep_calls.Gets old new path result → DeepKeeps old new
get_keeps old new path result c = record {
  grows = get_grows old new path result c;
  once = λ once. get_once old new path result c;
  own = get_by old new c.fault c.base (deep_answers.getting path c.base) result c.goes;
}

module _ (old new : DeepMeaning) (schema : Schema) (a b : Segments) (p : Partition) (q : Sequence) (result : Result ℕ ServerRefused) where
  loads_keep : (o : Option Commit) (c next : CommittedSegment) → LoadsOf o old new schema p q c next result → DeepKeeps old new
  loads_keep None c next h = deep_same old new h.0
  loads_keep (Some commit) c next h = get_keeps old new commit.path h.0 h.1

  at_keeps : (o : Option CommittedSegment) → DownloadsAt o old new schema a b p q result → DeepKeeps old new
  at_keeps None h = deep_same old new h.0
  at_keeps (Some c) h = loads_keep (wanted_by c.file c.done.meta.status) c h.0 h.1

  pub downloads_keep : Downloads old new schema a b p q result → DeepKeeps old new
  downloads_keep h = at_keeps (committed_at (entry_of a p q)) h

abbrev some_files : DeepOwn → Option DeepOwn
some_files o = Some o

same_files : (a b : DeepOwn) → some_files a ≡ some_files b → a ≡ b
same_files a b e = cc

pub deep_own_same : (old new : Known DeepPut) → DeepKeeps (deep_ground.shared_meaning old) (deep_ground.shared_meaning new) → deep_ground.own_by new ≡ deep_ground.own_by old
deep_own_same old new k = same_files (deep_ground.own_by new) (deep_ground.own_by old) k.own

pub shows_files : (old new : Known DeepPut) → DeepKeeps (deep_ground.shared_meaning old) (deep_ground.shared_meaning new) → DeepShowsMore (deep_shown_by old) (deep_shown_by new)
shows_files old new k =
    let e = deep_own_same old new k in
    record {
      seen = k.grows;
      numbers = ap (λ (o : DeepOwn). o.numbers) e;
      files = ([], ap (λ (o : DeepOwn). o.files) e ∙ sym (append-nil (deep_ground.own_by old).files));
    }

-- ---- the stream

-- a caller that has seen more messages, none of which is its own
pub record FeedKeeps (old new : FeedMeaning) : Type 0 where
  pub grows : Grows old.seen new.seen
  pub own : new.own ≡ old.own

feed_same : (old new : FeedMeaning) → new ≡ old → FeedKeeps old new
feed_same old new e = record {
  grows = subst (λ (m : FeedMeaning). Grows old.seen m.seen) (sym e) (log_same old.seen);
  own = ap (λ (m : FeedMeaning). m.own) e;
}

consumes_keep : (old new : FeedMeaning) (r next : Consumer) (max : ℕ) (now : Moment) (answer : Result (Unit {0}) ReplicaRefused) → Consumes old new r next max now answer → FeedKeeps old new
consumes_keep old new r next max now (Ok u) h = record { grows = h.0.grows; own = h.0.own }
consumes_keep old new r next max now (Err replica.NotDue) h = feed_same old new h.2
consumes_keep old new r next max now (Err replica.Memory) h = record { grows = h.2.grows; own = h.2.own }

takes_at : (o : Option Consumer) (old new : FeedMeaning) (a b : Segments) (p : Partition) (q : Sequence) (max : ℕ) (now : Moment) (result : Result (Unit {0}) ServerRefused)
    → ThroughAt o (new ≡ old) (λ r next answer. Consumes old new r next max now answer) a b p q result → FeedKeeps old new
takes_at None old new a b p q max now result h = feed_same old new h.0
takes_at (Some r) old new a b p q max now result h = consumes_keep old new r h.0 max now h.1 h.2

pub takes_keep : (old new : FeedMeaning) (a b : Segments) (p : Partition) (q : Sequence) (max : ℕ) (now : Moment) (result : Result (Unit {0}) ServerRefused)
    → Takes old new a b p q max now result → FeedKeeps old new
takes_keep old new a b p q max now result h = takes_at (replica_of a p q) old new a b p q max now result h

abbrev some_messages : FeedOwn → Option FeedOwn
some_messages o = Some o

same_messages : (a b : FeedOwn) → some_messages a ≡ some_messages b → a ≡ b
same_messages a b e = cc

pub shows_messages : (n : ℕ) (old new : Known Appended) → FeedKeeps (stream_ground.shared_meaning n old) (stream_ground.shared_meaning n new)
    → StreamShowsMore (stream_shown_by n old) (stream_shown_by n new)
shows_messages n old new k = record { seen = k.grows; own = same_messages (stream_ground.own_by new) (stream_ground.own_by old) k.own }
