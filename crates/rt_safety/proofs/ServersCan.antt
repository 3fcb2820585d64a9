-- A server's step that is due can be made, over a store and a deep store that tell everything.
use Rattle.std.proofs.Common.{◌≡◌, ◌+◌, ◌&&◌, ℕ, Bool, true, false, cond, List, Option, Some, None, Result, Ok, Err, refl, sym, ◌∙◌, ap, subst, is_some, nat_lt, option_map, ◌||◌}
use Rattle.std.proofs.lemmas.Option.{none-some}
use Rattle.rt_base.specs.declared.header.Header.{Header}
use Rattle.rt_base.specs.declared.numbers.Moment.{Moment}
use Rattle.rt_base.specs.declared.numbers.Partition.{Partition}
use Rattle.rt_base.specs.declared.numbers.Sequence.{Sequence}
use Rattle.rt_consumer.specs.Batch.{asked_at, asked_in, Consumes}
use Rattle.rt_consumer.specs.Consumer.{state_at, state_of}
use Rattle.rt_consumer.specs.Next.{takes_in}
use Rattle.rt_consumer.specs.Requests.{asks_now, Does, Extends, forced, is_due, kind_in, Requests, stopped, stops_at}
use Rattle.rt_consumer.specs.declared.consumer.Consumer.{Consumer}
use Rattle.rt_consumer.specs.declared.phase.Phase.{Phase}
use Rattle.rt_consumer.specs.declared.phase.Phase.TheVariants as phase
use Rattle.rt_consumer.specs.declared.stage.Stage.{Stage}
use Rattle.rt_consumer.specs.declared.stage.Stage.TheVariants.{InitialConsuming, CatchingUp, Holding, ConsumingToOnline, Retaining, Building, Starting, Uploading, Ending}
use Rattle.rt_deep.specs.Answers.{getting}
use Rattle.rt_deep.specs.Calls as of_deep
use Rattle.rt_deep.specs.Files.{AreOnce}
use Rattle.rt_deep.specs.Meaning.{Told as ToldDeep}
use Rattle.rt_deep.specs.Memory.{means as deep_means}
use Rattle.rt_deep.specs.declared.refused.DeepRefused.{DeepRefused}
use Rattle.rt_deep.specs.declared.refused.DeepRefused.TheVariants as deep
use Rattle.rt_entry.specs.Calls.{Comes, ReplicaCall, Step}
use Rattle.rt_entry.specs.declared.refused.ServerRefused.{ServerRefused}
use Rattle.rt_entry.specs.declared.refused.ServerRefused.TheVariants.{NotDue, StoreFault, BadFile, Memory}
use Rattle.rt_events.specs.declared.outcome.Outcome.{Outcome}
use Rattle.rt_model.specs.Lawful.{bump}
use Rattle.rt_model.specs.declared.ideal_state.Mode.{Mode}
use Rattle.rt_model.specs.declared.node.Key.TheVariants as key
use Rattle.rt_model.specs.declared.node.Seen.{Seen}
use Rattle.rt_model.specs.declared.replica_state.ReplicaState.{ReplicaState}
use Rattle.rt_model.specs.declared.request.Request.{Request}
use Rattle.rt_nodes.proofs.Standing.{put_stands}
use Rattle.rt_nodes.specs.Lives.{is_answered, NodeRestarts, up_in_incarnation}
use Rattle.rt_nodes.specs.Refused.{outcome_by}
use Rattle.rt_nodes.specs.Replicas.{builds_now, built_in, consumed_in, forces_now, NodeBuilds, NodeConsumes, NodeForces, NodeStops, passes, standing_in, stops_in, stops_now, takes_now}
use Rattle.rt_nodes.specs.Requests.{asks_due, extends_now, NodeAsks, NodeAsksFor}
use Rattle.rt_nodes.specs.Servers.{FindsItsFile, NodeLoads, NodeMoves, NodeSees}
use Rattle.rt_nodes.specs.declared.server_node.ServerNode.{ServerNode}
use Rattle.rt_base.specs.declared.numbers.Offset.{Offset}
use Rattle.rt_consumer.specs.Batch.{messages_from, taken}
use Rattle.rt_consumer.specs.Consumer.{asks_at, cur}
use Rattle.rt_consumer.specs.Requests.{Builds, filed, IsSealedOf, kind_at, request_with, rows_in}
use Rattle.rt_consumer.specs.declared.waited.Waited.TheVariants as waited
use Rattle.rt_entry.specs.Download.{checked, got, header_by, is_right, loaded_by, LoadsOf}
use Rattle.rt_entry.specs.Entry.{wanted_by}
use Rattle.rt_entry.specs.declared.entry.CommittedSegment.{CommittedSegment}
use Rattle.rt_entry.specs.declared.entry.Entry.{Entry}
use Rattle.rt_entry.specs.declared.entry.Entry.TheVariants.{Replica, Committed}
use Rattle.rt_entry.specs.Transition.{metadata_in}
use Rattle.rt_events.specs.declared.outcome.Outcome.TheVariants as told
use Rattle.rt_model.specs.declared.commit.Commit.{Commit}
use Rattle.rt_model.specs.declared.replica_state.ReplicaState.TheVariants as state
use Rattle.rt_model.specs.declared.request.RequestKind.{RequestKind}
use Rattle.rt_model.specs.declared.request.RequestKind.TheVariants as kind
use Rattle.rt_model.specs.declared.request.RequestNumber.{RequestNumber}
use Rattle.rt_model.specs.declared.seg_meta.SeenMeta.{SeenMeta}
use Rattle.rt_msgs.specs.Numbered.{number_at}
use Rattle.rt_schema.specs.declared.schema.Schema.{Schema}
use Rattle.rt_segment.specs.Reading.{read_file}
use Rattle.rt_segment.specs.Segment.{SealedSegment}
use Rattle.rt_segment.specs.declared.segment_refused.SegmentRefused.{SegmentRefused}
use Rattle.rt_server.specs.Calls.{WroteNothing}
use Rattle.rt_server.specs.Download.{committed_at, Downloads, DownloadsAt}
use Rattle.rt_server.specs.Table.{entry_of, wants_at}
use Rattle.rt_store.specs.Meaning.{Meaning}
use Rattle.rt_stream.proofs.Growth.{log_same}
use Rattle.rt_safety.proofs.Given.{get_given, given_calls, given_deep_calls, Gives, IsGivenDeep, IsGiven, read_given, write_given}
use Rattle.rt_server.specs.Calls.{answered_by, restarted_in, seen_in, stepped_by, Through, ThroughAt, TransitsIf, TransitsTo}
use Rattle.rt_server.specs.Table.{put_back, replica_of, Segments, ServerState, target_of}
use Rattle.rt_server.specs.Transition.{moved_if, transit_due, transited}
use Rattle.rt_store.specs.Answers.{after_call, answer_of, reading}
use Rattle.rt_store.specs.Calls.{answer_on, told_on}
use Rattle.rt_store.specs.Meaning.{Told}
use Rattle.rt_store.specs.Memory.{means}
use Rattle.rt_store.specs.declared.refused.StoreRefused.{StoreRefused}
use Rattle.rt_store.specs.declared.refused.StoreRefused.TheVariants as store
use Rattle.rt_stream.specs.Feed.{log_meaning}
use Rattle.rt_stream.specs.Log.{Log}

-- ---- what a step comes to, where it is fine

-- it is answered, or a store's fault was met
abbrev Fine : {X : Type 0} → Result X ServerRefused → Type 0
Fine (Ok x) = Unit {0}
Fine (Err StoreFault) = Unit {0}
Fine (Err refused) = ⊥

comes : {S X : Type 0} (step : Step S X) (old : S) → Fine step → (new : S) × (result : Result X ServerRefused) × Comes step old new result × Fine result
comes (Ok x) old fine = (x.1, Ok x.0, refl, tt)
comes (Err StoreFault) old fine = (old, Err StoreFault, (refl, refl), tt)
comes (Err NotDue) old fine = absurd fine
comes (Err (BadFile wanted found)) old fine = absurd fine
comes (Err Memory) old fine = absurd fine

fine_outcome : {X : Type 0} (tell : X → Outcome) (result : Result X ServerRefused) → Fine result → Gives (outcome_by tell result)
fine_outcome tell (Ok x) fine = (_, refl)
fine_outcome tell (Err StoreFault) fine = (_, refl)
fine_outcome tell (Err NotDue) fine = absurd fine
fine_outcome tell (Err (BadFile wanted found)) fine = absurd fine
fine_outcome tell (Err Memory) fine = absurd fine

answered_fine : {X : Type 0} (a : Result X StoreRefused) → IsGiven a → Fine (answered_by a)
answered_fine (Ok x) g = tt
answered_fine (Err store.Memory) g = absurd (none-some tt g)
answered_fine (Err refused) g = tt

-- ---- with a call of the store

seen_fine : (s : ServerState) (m : Result Seen ServerRefused) → Fine m → Fine (seen_in s m)
seen_fine s (Ok seen) fine = fine
seen_fine s (Err e) fine = fine

pub sees_can : (t : Told) (n : ServerNode) → (new : ServerNode) × (u : Told) × (o : Outcome) × NodeSees t u n new o
sees_can t n =
    let answer = answer_on t (reading key.Ideal) in
    let given = read_given t key.Ideal in
    let c = comes (seen_in n.server (answered_by answer)) n.server (seen_fine n.server (answered_by answer) (answered_fine answer given)) in
    let o = fine_outcome told.SawIdeal c.1 c.3 in
    (record n { server = c.0 }, told_on t (λ base. base), o.0, (c.1, (answer, given_calls t (reading key.Ideal) (λ base. base) given, c.2), o.1, refl))

restarted_fine : (s : ServerState) (m : Result ℕ ServerRefused) → Fine m → Fine (restarted_in s m)
restarted_fine s (Ok version) fine = fine
restarted_fine s (Err e) fine = fine

wrote_fine : (before after : Meaning) (result : Result ℕ ServerRefused) → Fine result → WroteNothing before after result
wrote_fine before after (Ok x) fine = tt
wrote_fine before after (Err StoreFault) fine = tt
wrote_fine before after (Err NotDue) fine = absurd fine
wrote_fine before after (Err (BadFile wanted found)) fine = absurd fine
wrote_fine before after (Err Memory) fine = absurd fine

pub restarts_can : (t : Told) (n : ServerNode) → (new : ServerNode) × (u : Told) × (o : Outcome) × NodeRestarts t u n new o
restarts_can t n =
    let call = bump n.server.numbers.instance in
    let answer = answer_on t (answer_of (λ w. w.version) call) in
    let given = write_given t (λ w. w.version) call in
    let after = told_on t (after_call call) in
    let c = comes (restarted_in n.server (answered_by answer)) n.server (restarted_fine n.server (answered_by answer) (answered_fine answer given)) in
    let o = fine_outcome up_in_incarnation c.1 c.3 in (
      record { server = c.0; up = is_answered c.1 || n.up },
      after,
      o.0,
      (
        c.1,
        (answer, given_calls t (answer_of (λ w. w.version) call) (after_call call) given, c.2, wrote_fine (means t) (means after) c.1 c.3),
        o.1,
        refl,
      ),
    )

metadata_fine : (a : Result Seen StoreRefused) → IsGiven a → Fine (metadata_in a)
metadata_fine (Ok seen) g = tt
metadata_fine (Err store.Memory) g = absurd (none-some tt g)
metadata_fine (Err refused) g = tt

module _ (t : Told) (n : ServerNode) (p : Partition) (q : Sequence) (now : Moment) where
  moved_fine : (mode : Mode) (m : Result (Option SeenMeta) ServerRefused) → Fine m → Fine (stepped_by n.server (moved_if n.server.setup n.server.table p q now mode m))
  moved_fine mode (Ok seen) fine = tt
  moved_fine mode (Err e) fine = fine

  to_can : (o : Option Mode) → (new : ServerState) × (u : Told) × (result : Result ReplicaState ServerRefused)
      × TransitsTo o (means t) (means u) n.server new p q now result × Fine result
  to_can None = (_, t, Ok state.Discarded, (refl, refl, refl), tt)
  to_can (Some mode) =
      let answer = answer_on t (reading (key.Meta p q)) in
      let given = read_given t (key.Meta p q) in
      let step = stepped_by n.server (transited n.server.setup n.server.table p q now mode answer) in
      let c = comes step n.server (moved_fine mode (metadata_in answer) (metadata_fine answer given)) in
      (c.0, told_on t (λ base. base), c.1, (answer, given_calls t (reading (key.Meta p q)) (λ base. base) given, c.2), c.3)

  pub moves_can : transit_due n.server.table p q ≡ true → (new : ServerNode) × (u : Told) × (o : Outcome) × NodeMoves p q now t u n new o
  moves_can due =
      let c = to_can (target_of n.server.table p q) in
      let o = fine_outcome told.Stands c.2 c.4 in (
        record n { server = c.0 },
        c.1,
        o.0,
        (c.2, subst (λ b. TransitsIf b (means t) (means c.1) n.server c.0 p q now c.2) (sym due) c.3, o.1, refl),
      )

-- ---- with a call of the deep store

-- it is answered, or met a fault or another file than the wanted one
abbrev Sound : {X : Type 0} → Result X ServerRefused → Type 0
Sound (Ok x) = Unit {0}
Sound (Err StoreFault) = Unit {0}
Sound (Err (BadFile wanted found)) = Unit {0}
Sound (Err NotDue) = ⊥
Sound (Err Memory) = ⊥

comes_sound : {S X : Type 0} (step : Step S X) (old : S) → Sound step → (new : S) × (result : Result X ServerRefused) × Comes step old new result × Sound result
comes_sound (Ok x) old sound = (x.1, Ok x.0, refl, tt)
comes_sound (Err StoreFault) old sound = (old, Err StoreFault, (refl, refl), tt)
comes_sound (Err (BadFile wanted found)) old sound = (old, Err (BadFile wanted found), (refl, refl), tt)
comes_sound (Err NotDue) old sound = absurd sound
comes_sound (Err Memory) old sound = absurd sound

right_sound : (schema : Schema) (wanted : Header) (file : SealedSegment) (b : Bool) → is_right schema wanted file ≡ b → Sound (checked schema wanted (Ok file))
right_sound schema wanted file true e = rw e tt
right_sound schema wanted file false e = rw e tt

checked_sound : (schema : Schema) (wanted : Header) (r : Result SealedSegment SegmentRefused) → Sound (checked schema wanted r)
checked_sound schema wanted (Ok file) = right_sound schema wanted file (is_right schema wanted file) refl
checked_sound schema wanted (Err e) = tt

got_sound : (schema : Schema) (wanted : Header) (r : Result (List ℕ) DeepRefused) → IsGivenDeep r → Sound (got schema wanted r)
got_sound schema wanted (Ok bytes) g = checked_sound schema wanted (read_file bytes)
got_sound schema wanted (Err deep.Memory) g = absurd (none-some tt g)
got_sound schema wanted (Err refused) g = tt

loaded_sound : (c : CommittedSegment) (g : Result SealedSegment ServerRefused) → Sound g → Sound (loaded_by c g)
loaded_sound c (Ok file) sound = tt
loaded_sound c (Err e) sound = sound

-- no other file than the wanted one is met
not_bad : (result : Result ℕ ServerRefused) → Sound result → ((wanted : Header) (found : Option Header) → result ≡ Err (BadFile wanted found) → ⊥) → Fine result
not_bad (Ok x) sound right = tt
not_bad (Err StoreFault) sound right = tt
not_bad (Err (BadFile wanted found)) sound right = right wanted found refl
not_bad (Err NotDue) sound right = sound
not_bad (Err Memory) sound right = sound

module _ (d : ToldDeep) (once : AreOnce d.files) (schema : Schema) (p : Partition) (q : Sequence) where
  of_can : (c : CommittedSegment) (o : Option Commit) → is_some o ≡ true
      → (next : CommittedSegment) × (e : ToldDeep) × (result : Result ℕ ServerRefused) × LoadsOf o (deep_means d) (deep_means e) schema p q c next result × Sound result
  of_can c None wants = absurd (cc)
  of_can c (Some commit) wants =
      let answer = of_deep.answer_on d (getting commit.path) in
      let given = get_given d commit.path in
      let g = got schema (header_by p q c.done commit) answer in
      let k = comes_sound (loaded_by c g) c (loaded_sound c g (got_sound schema (header_by p q c.done commit) answer given)) in
      (k.0, of_deep.told_on d (λ base. base), k.1, (answer, given_deep_calls d once (getting commit.path) (λ base. base) given, k.2), k.3)

  at_can : (t : Segments) (o : Option Entry) → wants_at o ≡ true
      → (new : Segments) × (e : ToldDeep) × (result : Result ℕ ServerRefused) × DownloadsAt (committed_at o) (deep_means d) (deep_means e) schema t new p q result × Sound result
  at_can t None wants = absurd (cc)
  at_can t (Some (Replica r)) wants = absurd (cc)
  at_can t (Some (Committed c)) wants =
      let k = of_can c (wanted_by c.file c.done.meta.status) wants in (put_back t p q (Committed k.0), k.1, k.2, (k.0, k.3, refl), k.4)

pub loads_can : (d : ToldDeep) (n : ServerNode) (p : Partition) (q : Sequence) → AreOnce d.files → wants_at (entry_of n.server.table p q) ≡ true → FindsItsFile d n.server p q
    → (new : ServerNode) × (e : ToldDeep) × (o : Outcome) × NodeLoads p q d e n new o
loads_can d n p q once wants finds =
    let c = at_can d once n.server.setup.schema p q n.server.table (entry_of n.server.table p q) wants in
    let D : Result ℕ ServerRefused → Type 0 = λ r. Downloads (deep_means d) (deep_means c.1) n.server.setup.schema n.server.table c.0 p q r in
    let fine = not_bad c.2 c.4 (λ wanted found e. finds c.1 c.0 wanted found (subst D e c.3)) in
    let o = fine_outcome told.Loaded c.2 fine in
    (record n { server = record n.server { table = c.0 } }, c.1, o.0, (c.2, c.3, (refl, refl), o.1, refl))

-- ---- through its replica

-- a replica that passes a test
replica_there : (test : Consumer → Bool) (o : Option Consumer) → passes test o ≡ true → (r : Consumer) × (o ≡ Some r) × (test r ≡ true)
replica_there test None e = absurd (cc)
replica_there test (Some r) e = (r, refl, e)

through : {X : Type 0} (quiet : Type 0) (call : ReplicaCall X) (t : Segments) (p : Partition) (q : Sequence) (r next : Consumer) (x : X) → replica_of t p q ≡ Some r
    → call r next (Ok x) → Through quiet call t (put_back t p q (Replica next)) p q (Ok x)
through quiet call t p q r next x found c =
    subst (λ o. ThroughAt o quiet call t (put_back t p q (Replica next)) p q (Ok x)) (sym found) (next, Ok x, c, refl, refl)

-- the server with the replica put back
abbrev with_replica : ServerNode → Partition → Sequence → Consumer → ServerNode
with_replica n p q next = record n { server = record n.server { table = put_back n.server.table p q (Replica next) } }

told_of : (n : ServerNode) (p : Partition) (q : Sequence) (r next : Consumer) (tell : Option Consumer → Option Outcome) (o : Outcome) → replica_of n.server.table p q ≡ Some r
    → tell (Some next) ≡ Some o → tell (replica_of (with_replica n p q next).server.table p q) ≡ Some o
told_of n p q r next tell o found tells = ap tell (put_stands n.server.table p q r next found) ∙ tells

due_gives : (o : Option Phase) → is_due o ≡ true → Gives o
due_gives None e = absurd (cc)
due_gives (Some x) e = (x, refl)

abbrev moved_to : Consumer → Phase → Consumer
moved_to r ph = record r { phase = ph; waited = None }

stop_stage : (s : Stage) (x : Phase) → stops_in (state_at s) ≡ true → Gives (cond (stops_at s) (Some x) None)
stop_stage InitialConsuming x e = (x, refl)
stop_stage (CatchingUp target reason) x e = (x, refl)
stop_stage (Holding reason) x e = (x, refl)
stop_stage (ConsumingToOnline end done) x e = (x, refl)
stop_stage (Retaining done) x e = absurd (cc)
stop_stage (Building reason) x e = (x, refl)
stop_stage (Starting reason built) x e = (x, refl)
stop_stage (Uploading reason built) x e = (x, refl)
stop_stage (Ending reason built path) x e = (x, refl)

stop_phase : (ph : Phase) → stops_in (state_of ph) ≡ true → Gives (stopped ph)
stop_phase (phase.Unsealed o) e = stop_stage o.stage _ e
stop_phase (phase.Retained kept) e = absurd (cc)
stop_phase (phase.Committed kept) e = absurd (cc)
stop_phase (phase.Discarded d) e = absurd (cc)

asked_stage : (s : Stage) (x : Offset) (max : ℕ) → takes_in (state_at s) ≡ true → Gives (asked_at s x max)
asked_stage InitialConsuming x max e = (_, refl)
asked_stage (CatchingUp target reason) x max e = (_, refl)
asked_stage (ConsumingToOnline end done) x max e = (_, refl)
asked_stage (Holding reason) x max e = absurd (cc)
asked_stage (Retaining done) x max e = absurd (cc)
asked_stage (Building reason) x max e = absurd (cc)
asked_stage (Starting reason built) x max e = absurd (cc)
asked_stage (Uploading reason built) x max e = absurd (cc)
asked_stage (Ending reason built path) x max e = absurd (cc)

asked_phase : (ph : Phase) (max : ℕ) → takes_in (state_of ph) ≡ true → Gives (asked_in ph max)
asked_phase (phase.Unsealed o) max e = asked_stage o.stage o.rows.end max e
asked_phase (phase.Retained kept) max e = absurd (cc)
asked_phase (phase.Committed kept) max e = absurd (cc)
asked_phase (phase.Discarded d) max e = absurd (cc)

kind_stage : (name : List ℕ) (number : RequestNumber) (s : Stage) → asks_at s ≡ true → Gives (kind_at name number s)
kind_stage name number (Holding reason) e = (_, refl)
kind_stage name number (Starting reason built) e = (_, refl)
kind_stage name number (Uploading reason built) e = (_, refl)
kind_stage name number (Ending reason built path) e = (_, refl)
kind_stage name number InitialConsuming e = absurd (cc)
kind_stage name number (CatchingUp target reason) e = absurd (cc)
kind_stage name number (ConsumingToOnline end done) e = absurd (cc)
kind_stage name number (Retaining done) e = absurd (cc)
kind_stage name number (Building reason) e = absurd (cc)

stopped_kind : (b : Bool) → b ≡ true → Gives (cond b (Some kind.Stopped) None)
stopped_kind true e = (_, refl)
stopped_kind false e = absurd (cc)

kind_phase : (name : List ℕ) (number : RequestNumber) (ph : Phase) → asks_now ph ≡ true → Gives (kind_in name number ph)
kind_phase name number (phase.Unsealed o) e = kind_stage name number o.stage e
kind_phase name number (phase.Discarded d) e = stopped_kind d.stopped e
kind_phase name number (phase.Retained kept) e = absurd (cc)
kind_phase name number (phase.Committed kept) e = absurd (cc)

both_first : (a b : Bool) → (a && b) ≡ true → a ≡ true
both_first true b e = refl
both_first false b e = absurd (cc)

module _ (n : ServerNode) (p : Partition) (q : Sequence) where
  pub forces_can : passes forces_now (replica_of n.server.table p q) ≡ true → (new : ServerNode) × (o : Outcome) × NodeForces p q n new o
  forces_can due =
      let r = replica_there forces_now (replica_of n.server.table p q) due in
      let ph = due_gives (forced r.0.phase) r.2 in
      let next = moved_to r.0 ph.0 in (
        with_replica n p q next,
        told.Stands (state_of ph.0),
        (
          through (Unit {0}) (λ r next answer. Does (forced r.phase) r next answer) n.server.table p q r.0 next tt r.1 (ph.1, refl),
          (refl, refl),
          refl,
          told_of n p q r.0 next standing_in (told.Stands (state_of ph.0)) r.1 refl,
        ),
      )

  pub stops_can : passes stops_now (replica_of n.server.table p q) ≡ true → (new : ServerNode) × (o : Outcome) × NodeStops p q n new o
  stops_can due =
      let r = replica_there stops_now (replica_of n.server.table p q) due in
      let ph = stop_phase r.0.phase r.2 in
      let next = moved_to r.0 ph.0 in (
        with_replica n p q next,
        told.Stands (state_of ph.0),
        (
          through (Unit {0}) (λ r next answer. Does (stopped r.phase) r next answer) n.server.table p q r.0 next tt r.1 (ph.1, refl),
          (refl, refl),
          refl,
          told_of n p q r.0 next standing_in (told.Stands (state_of ph.0)) r.1 refl,
        ),
      )

  pub consumes_can : (log : Log) (max : ℕ) (now : Moment) → passes (takes_now max) (replica_of n.server.table p q) ≡ true
      → (new : ServerNode) × (l : Log) × (o : Outcome) × NodeConsumes p q max now log l n new o
  consumes_can log max now due =
      let r = replica_there (takes_now max) (replica_of n.server.table p q) due in
      let count = asked_phase r.0.phase max (both_first (takes_in (state_of r.0.phase)) (nat_lt 0 max) r.2) in
      let next = taken r.0 now (messages_from log r.0.partition (cur r.0) count.0) in
      let o = told.Consumed (cur next) (rows_in next.phase) (state_of next.phase) in (
        with_replica n p q next,
        log,
        o,
        (
          through (log_meaning log ≡ log_meaning log) (λ r next answer. Consumes (log_meaning log) (log_meaning log) r next max now answer) n.server.table p q r.0 next tt r.1 (
            record { sees = (refl, refl); grows = log_same log; own = refl },
            ap (λ o. option_map (λ c. taken r.0 now (messages_from log r.0.partition (cur r.0) c)) o) count.1,
          ),
          (refl, refl),
          refl,
          told_of n p q r.0 next consumed_in o r.1 refl,
        ),
      )

  pub builds_can : ((r : Consumer) → replica_of n.server.table p q ≡ Some r → builds_now r ≡ true → (file : SealedSegment) × IsSealedOf r r.phase file)
      → passes builds_now (replica_of n.server.table p q) ≡ true → (new : ServerNode) × (o : Outcome) × NodeBuilds p q n new o
  builds_can seals due =
      let r = replica_there builds_now (replica_of n.server.table p q) due in
      let file = seals r.0 r.1 r.2 in
      let next = moved_to r.0 (filed r.0.phase file.0) in
      let o = told.Built (rows_in next.phase) (state_of next.phase) in (
        with_replica n p q next,
        o,
        (
          through (Unit {0}) (λ r next answer. Builds r next answer) n.server.table p q r.0 next tt r.1 (r.2, (file.0, file.1, refl)),
          (refl, refl),
          refl,
          told_of n p q r.0 next built_in o r.1 refl,
        ),
      )

  -- the server with the replica put back, and a number drawn
  abbrev with_drawn : Consumer → ServerNode
  with_drawn next =
      record n {
        server =
            record n.server {
              table = put_back n.server.table p q (Replica next);
              numbers = record n.server.numbers { made = n.server.numbers.made + 1 };
            };
      }

  pub asks_can : passes asks_due (replica_of n.server.table p q) ≡ true → (new : ServerNode) × (request : Request) × NodeAsks p q n new request
  asks_can due =
      let r = replica_there asks_due (replica_of n.server.table p q) due in
      let drawn = n.server.numbers in
      let number = number_at drawn drawn.made in
      let k = kind_phase r.0.name number r.0.phase r.2 in
      let next : Consumer = record r.0 { waited = Some (waited.Step number) } in (
        with_drawn next,
        request_with r.0 number k.0,
        (
          through ((record drawn { made = drawn.made + 1 }) ≡ drawn) (λ r next answer. Requests r next drawn (record drawn { made = drawn.made + 1 }) answer) n.server.table p q
              r.0 next (request_with r.0 number k.0) r.1 (k.1, refl, refl, refl),
          refl,
          refl,
        ),
      )

  pub asks_for_can : (millis : ℕ) → passes extends_now (replica_of n.server.table p q) ≡ true
      → (new : ServerNode) × (request : Request) × NodeAsksFor p q millis n new request
  asks_for_can millis due =
      let r = replica_there extends_now (replica_of n.server.table p q) due in
      let drawn = n.server.numbers in
      let number = number_at drawn drawn.made in
      let next : Consumer = record r.0 { waited = Some (waited.Extend number) } in
      let some : RequestKind → Option RequestKind = λ k. Some k in (
        with_drawn next,
        request_with r.0 number (kind.Extend millis),
        (
          through ((record drawn { made = drawn.made + 1 }) ≡ drawn) (λ r next answer. Extends r next drawn (record drawn { made = drawn.made + 1 }) millis answer) n.server.table
              p q r.0 next (request_with r.0 number (kind.Extend millis)) r.1
              (ap (λ b. cond b (some (kind.Extend millis)) None) r.2, refl, refl, refl),
          refl,
          refl,
        ),
      )
