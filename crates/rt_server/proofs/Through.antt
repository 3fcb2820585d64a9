-- A call of a replica goes through its server's table.
use Rattle.std.proofs.Common.{◌≡◌, ℕ, Bool, false, List, Option, Some, None, Result, Ok, Err, refl, sym, ap, subst, ◌∙◌}
use Rattle.std.specs.Prelude.{OnOk}
use Rattle.std.specs.BTreeMap.{insert_entry}
use Rattle.std.specs.Map.{lookup, set_value}
use Rattle.std.proofs.lemmas.Map.Steps.{set_value_same}
use Rattle.rt_base.specs.declared.numbers.Moment.{Moment}
use Rattle.rt_base.specs.declared.numbers.Offset.{Offset}
use Rattle.rt_base.specs.declared.numbers.Partition.{Partition}
use Rattle.rt_base.specs.declared.numbers.Sequence.{Sequence}
use Rattle.rt_model.specs.declared.ideal_state.Mode.{Mode}
use Rattle.rt_model.specs.declared.ideal_state.Mode.TheVariants.{Consuming}
use Rattle.rt_model.specs.declared.replica_state.ReplicaState.{ReplicaState}
use Rattle.rt_model.specs.declared.seg_meta.SeenMeta.{SeenMeta}
use Rattle.rt_model.specs.declared.reply.Reply.{Reply}
use Rattle.rt_model.specs.declared.request.Request.{Request}
use Rattle.rt_msgs.specs.Numbered.{Numbered}
use Rattle.rt_stream.specs.Feed.{FeedMeaning}
use Rattle.rt_consumer.specs.declared.consumer.Consumer.{Consumer}
use Rattle.rt_consumer.specs.Batch.{Consumes}
use Rattle.rt_consumer.specs.Requests.{Builds, Does, Extends, Requests, forced, stopped}
use Rattle.rt_entry.specs.declared.entry.Entry.{Entry}
use Rattle.rt_entry.specs.declared.entry.Entry.TheVariants.{Replica, Committed}
use Rattle.rt_entry.specs.declared.refused.ServerRefused.{ServerRefused}
use Rattle.rt_entry.specs.declared.refused.ServerRefused.TheVariants.{NotDue}
use Rattle.rt_server.specs.Logs.{HasMessages}
use Rattle.rt_entry.specs.Entry.{state_in}
use Rattle.rt_entry.specs.Transition.{told}
use Rattle.rt_entry.specs.Calls.{TakesFrom, EntryCall, ReplicaCall, entry_replied}
use Rattle.rt_stream.specs.Log.{Log}
use Rattle.rt_server.specs.Fresh.{first_sequence, put_first}
use Rattle.rt_server.specs.Transition.{Moved, committed}
use Rattle.rt_server.specs.Table.{segment_cmp, with_entry, Segment, Segments, ServerState, entry_of, is_segment, put_back, replica_at}
use Rattle.rt_server.specs.Calls.{Through, ThroughAt, Forces, Stops, Seals, Takes, Asks, AsksFor, replied_at, replied_in}

abbrev put_in : Segments → List ((Partition × Sequence) × Entry) → Segments
put_in t entries = record t { entries = entries }

abbrev segments : List (Segment × Mode) → List (Segment × Entry) → Segments
segments targets entries = record { targets = targets; entries = entries }

-- an entry that is put into the map is put into the table
pub entry_over : (old : Segments) (targets : List (Segment × Mode)) (entries next : List (Segment × Entry)) (p : Partition) (q : Sequence) (e : Entry)
    → segments targets entries ≡ old → next ≡ insert_entry segment_cmp entries (p, q) e → segments targets next ≡ with_entry old p q e
entry_over old targets entries next p q e is put = ap (segments targets) put ∙ ap (λ t. with_entry t p q e) is

-- a target and then a replica are those of a first segment
pub first_over : (old new : Segments) (targets more : List (Segment × Mode)) (entries : List (Segment × Entry)) (p : Partition) (r : Consumer)
    → segments targets entries ≡ old → more ≡ insert_entry segment_cmp targets (p, first_sequence) Consuming
    → new ≡ with_entry (segments more entries) p first_sequence (Replica r) → new ≡ put_first p r old
first_over old new targets more entries p r is added put =
    put ∙ ap (λ t. with_entry (segments t entries) p first_sequence (Replica r)) added ∙ ap (put_first p r) is

pub when_ok : {X E : Type 0} (result : Result X E) (P Q : Type 0) → (P → Q) → OnOk result P → OnOk result Q
when_ok (Ok x) P Q f h = f h
when_ok (Err e) P Q f h = h

-- what the map of entries has, the table has
pub found_in : (old : Segments) (targets : List (Segment × Mode)) (entries : List (Segment × Entry)) (p : Partition) (q : Sequence) (o : Option Entry)
    → segments targets entries ≡ old → lookup (is_segment p q) entries ≡ o → entry_of old p q ≡ o
found_in old targets entries p q o is found = ap (λ t. entry_of t p q) (sym is) ∙ found

-- and what is put back there, is put back in the table
pub put_over : (old : Segments) (targets : List (Segment × Mode)) (entries next : List (Segment × Entry)) (p : Partition) (q : Sequence) (y : Entry)
    → segments targets entries ≡ old → next ≡ set_value (is_segment p q) entries y → segments targets next ≡ put_back old p q y
put_over old targets entries next p q y is put = ap (segments targets) put ∙ ap (λ t. put_back t p q y) is

-- an entry that is as it was
pub put_same : (t : Segments) (p : Partition) (q : Sequence) (x : Entry) → entry_of t p q ≡ Some x → put_back t p q x ≡ t
put_same t p q x found = ap (put_in t) (set_value_same (is_segment p q) t.entries x found)

through : {X : Type 0} (quiet : Type 0) (call : ReplicaCall X) (old new : Segments) (p : Partition) (q : Sequence) (x y : Entry) (result : Result X ServerRefused)
    → entry_of old p q ≡ Some x → EntryCall quiet call x y result → new ≡ put_back old p q y → Through quiet call old new p q result
through quiet call old new p q (Replica r) y result found h put =
    subst (λ o. ThroughAt o quiet call old new p q result) (sym (ap replica_at found))
    (h.0, h.1, h.2, h.3, put ∙ ap (put_back old p q) h.4)
through quiet call old new p q (Committed c) y result found h put =
    subst (λ o. ThroughAt o quiet call old new p q result) (sym (ap replica_at found))
    (h.0, h.1, put ∙ ap (put_back old p q) h.2 ∙ put_same old p q (Committed c) found)

through_none : {X : Type 0} (quiet : Type 0) (call : ReplicaCall X) (old : Segments) (p : Partition) (q : Sequence) (result : Result X ServerRefused)
    → entry_of old p q ≡ None → quiet → result ≡ Err NotDue → Through quiet call old old p q result
through_none quiet call old p q result found q0 told =
    subst (λ o. ThroughAt o quiet call old old p q result) (sym (ap replica_at found)) (q0, told, refl)

abbrev not_due : (X : Type 0) → Result X ServerRefused
not_due X = Err NotDue

pub takes : (before after : FeedMeaning) (max : ℕ) (now : Moment) (old new : Segments) (p : Partition) (q : Sequence) (x y : Entry) (result : Result (Unit {0}) ServerRefused)
    → entry_of old p q ≡ Some x → EntryCall (after ≡ before) (λ r next answer. Consumes before after r next max now answer) x y result → new ≡ put_back old p q y → Takes before after old new p q max now result
takes before after max now old new p q x y result found h put = through (after ≡ before) (λ r next answer. Consumes before after r next max now answer) old new p q x y result found h put

pub takes_none : (m : FeedMeaning) (max : ℕ) (now : Moment) (old : Segments) (p : Partition) (q : Sequence) → entry_of old p q ≡ None → Takes m m old old p q max now (not_due (Unit {0}))
takes_none m max now old p q found = through_none (m ≡ m) (λ r next answer. Consumes m m r next max now answer) old p q (not_due (Unit {0})) found refl refl

pub forces : (old new : Segments) (p : Partition) (q : Sequence) (x y : Entry) (result : Result (Unit {0}) ServerRefused)
    → entry_of old p q ≡ Some x → EntryCall (Unit {0}) (λ r next answer. Does (forced r.phase) r next answer) x y result → new ≡ put_back old p q y → Forces old new p q result
forces old new p q x y result found h put = through (Unit {0}) (λ r next answer. Does (forced r.phase) r next answer) old new p q x y result found h put

pub forces_none : (old : Segments) (p : Partition) (q : Sequence) → entry_of old p q ≡ None → Forces old old p q (not_due (Unit {0}))
forces_none old p q found = through_none (Unit {0}) (λ r next answer. Does (forced r.phase) r next answer) old p q (not_due (Unit {0})) found tt refl

pub stops : (old new : Segments) (p : Partition) (q : Sequence) (x y : Entry) (result : Result (Unit {0}) ServerRefused)
    → entry_of old p q ≡ Some x → EntryCall (Unit {0}) (λ r next answer. Does (stopped r.phase) r next answer) x y result → new ≡ put_back old p q y → Stops old new p q result
stops old new p q x y result found h put = through (Unit {0}) (λ r next answer. Does (stopped r.phase) r next answer) old new p q x y result found h put

pub stops_none : (old : Segments) (p : Partition) (q : Sequence) → entry_of old p q ≡ None → Stops old old p q (not_due (Unit {0}))
stops_none old p q found = through_none (Unit {0}) (λ r next answer. Does (stopped r.phase) r next answer) old p q (not_due (Unit {0})) found tt refl

pub seals : (old new : Segments) (p : Partition) (q : Sequence) (x y : Entry) (result : Result (Unit {0}) ServerRefused)
    → entry_of old p q ≡ Some x → EntryCall (Unit {0}) (λ r next answer. Builds r next answer) x y result → new ≡ put_back old p q y → Seals old new p q result
seals old new p q x y result found h put = through (Unit {0}) (λ r next answer. Builds r next answer) old new p q x y result found h put

pub seals_none : (old : Segments) (p : Partition) (q : Sequence) → entry_of old p q ≡ None → Seals old old p q (not_due (Unit {0}))
seals_none old p q found = through_none (Unit {0}) (λ r next answer. Builds r next answer) old p q (not_due (Unit {0})) found tt refl

pub asks : (before after : Numbered) (old new : Segments) (p : Partition) (q : Sequence) (x y : Entry) (result : Result (Request) ServerRefused)
    → entry_of old p q ≡ Some x → EntryCall (after ≡ before) (λ r next answer. Requests r next before after answer) x y result → new ≡ put_back old p q y → Asks before after old new p q result
asks before after old new p q x y result found h put = through (after ≡ before) (λ r next answer. Requests r next before after answer) old new p q x y result found h put

pub asks_none : (n : Numbered) (old : Segments) (p : Partition) (q : Sequence) → entry_of old p q ≡ None → Asks n n old old p q (not_due (Request))
asks_none n old p q found = through_none (n ≡ n) (λ r next answer. Requests r next n n answer) old p q (not_due (Request)) found refl refl

pub asks_for : (before after : Numbered) (millis : ℕ) (old new : Segments) (p : Partition) (q : Sequence) (x y : Entry) (result : Result (Request) ServerRefused)
    → entry_of old p q ≡ Some x → EntryCall (after ≡ before) (λ r next answer. Extends r next before after millis answer) x y result → new ≡ put_back old p q y → AsksFor before after millis old new p q result
asks_for before after millis old new p q x y result found h put = through (after ≡ before) (λ r next answer. Extends r next before after millis answer) old new p q x y result found h put

pub asks_for_none : (n : Numbered) (millis : ℕ) (old : Segments) (p : Partition) (q : Sequence) → entry_of old p q ≡ None → AsksFor n n millis old old p q (not_due (Request))
asks_for_none n millis old p q found = through_none (n ≡ n) (λ r next answer. Extends r next n n millis answer) old p q (not_due (Request)) found refl refl

-- ---- answers

replied_by : (old : Segments) (reply : Reply) (x : Entry) → entry_of old reply.partition reply.sequence ≡ Some x
    → ((entry_replied x reply).0, put_back old reply.partition reply.sequence (entry_replied x reply).1) ≡ replied_in old reply
replied_by old reply (Replica r) found = sym (ap (λ o. replied_at o old reply) (ap replica_at found))
replied_by old reply (Committed c) found =
    ap (came false) (put_same old reply.partition reply.sequence (Committed c) found) ∙ sym (ap (λ o. replied_at o old reply) (ap replica_at found))
  where
    came : Bool → Segments → Bool × Segments
    came b t = (b, t)

pub replies : (old new : Segments) (reply : Reply) (x y : Entry) (result : Bool) → entry_of old reply.partition reply.sequence ≡ Some x
    → (result, y) ≡ entry_replied x reply → new ≡ put_back old reply.partition reply.sequence y → (result, new) ≡ replied_in old reply
replies old new reply x y result found does put =
    ap (λ t. (result, t)) put
    ∙ ap (λ (z : Bool × Entry). (z.0, put_back old reply.partition reply.sequence z.1)) does
    ∙ replied_by old reply x found

pub replies_none : (old : Segments) (reply : Reply) → entry_of old reply.partition reply.sequence ≡ None → (false, old) ≡ replied_in old reply
replies_none old reply found = sym (ap (λ o. replied_at o old reply) (ap replica_at found))

-- ---- what the replica's call needs

pub takes_from : (log : Log) (t : Segments) (p : Partition) (q : Sequence) (x : Entry) → HasMessages log t p q → entry_of t p q ≡ Some x → TakesFrom log x
takes_from log t p q (Replica r) has found = has r (ap replica_at found)
takes_from log t p q (Committed c) has found = tt

-- of the server whose fields these are
pub messages_in : (log : Log) (s t : ServerState) (p : Partition) (q : Sequence) → s ≡ t → HasMessages log t.table p q → HasMessages log s.table p q
messages_in log s t p q is has = subst (λ (u : ServerState). HasMessages log u.table p q) (sym is) has

-- ---- a commit

abbrev moved : ReplicaState → Segments → Moved
moved state t = (state, t)

pub commits : (old new : Segments) (p : Partition) (q : Sequence) (done : SeenMeta) (end : Offset) (x y : Entry) (state : ReplicaState) → entry_of old p q ≡ Some x
    → state ≡ state_in (told x done end) → y ≡ told x done end → new ≡ put_back old p q y → moved state new ≡ committed old p q done end (entry_of old p q)
commits old new p q done end x y state found is becomes put =
    ap (λ z. moved z new) is ∙ ap (moved (state_in (told x done end))) (put ∙ ap (put_back old p q) becomes)
    ∙ sym (ap (committed old p q done end) found)
