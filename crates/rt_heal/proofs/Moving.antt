-- A transition that was made isn't due any more, where the server has seen the present ideal state and no fault of the store is planned.
use Rattle.std.proofs.Common.{◌≡◌, ◌<◌, ◌⊎◌, inl, inr, Bool, true, false, ◌&&◌, cond, List, [], ◌∷◌, Option, Some, None, Result, Ok, Err, refl, sym, ◌∙◌, ap, subst, slice_get}
use Rattle.std.specs.Map.{keys_of, lookup, remove_entry, set_value}
use Rattle.std.specs.Prelude.{nat_le, nat_lt}
use Rattle.std.proofs.lemmas.Bool.{true≢false}
use Rattle.std.proofs.lemmas.Option.{none-some, same_Some}
use Rattle.rt_base.specs.Faults.{answer_under, fault_of}
use Rattle.rt_base.specs.declared.numbers.Instance.{Instance}
use Rattle.rt_base.specs.declared.numbers.Moment.{Moment}
use Rattle.rt_base.specs.declared.numbers.Offset.{Offset}
use Rattle.rt_base.specs.declared.numbers.Partition.{Partition}
use Rattle.rt_base.specs.declared.numbers.Sequence.{Sequence}
use Rattle.rt_consumer.specs.Consumer.{at, cur, started_of, state_of}
use Rattle.rt_consumer.specs.Requests.{learned, learns_in}
use Rattle.rt_consumer.specs.declared.phase.Phase.{Phase}
use Rattle.rt_consumer.specs.declared.phase.Phase.TheVariants as phase
use Rattle.rt_consumer.specs.declared.unsealed.Unsealed.{Unsealed}
use Rattle.rt_consumer.specs.declared.stage.Stage.TheVariants.{ConsumingToOnline, Retaining}
use Rattle.rt_entry.specs.Calls.{Comes}
use Rattle.rt_entry.specs.Entry.{wanting}
use Rattle.rt_entry.specs.Transition.{is_due, is_open, is_open_entry, metadata_in, told}
use Rattle.rt_entry.specs.declared.entry.Entry.{Entry}
use Rattle.rt_entry.specs.declared.entry.Entry.TheVariants.{Replica, Committed}
use Rattle.rt_entry.specs.declared.refused.ServerRefused.{ServerRefused}
use Rattle.rt_entry.specs.declared.refused.ServerRefused.TheVariants as refused
use Rattle.rt_events.specs.declared.event.Event.TheVariants.{Transit}
use Rattle.rt_events.specs.declared.outcome.Outcome.{Outcome}
use Rattle.rt_events.specs.declared.outcome.Outcome.TheVariants as outcome
use Rattle.rt_lists.specs.Members.{Has}
use Rattle.rt_model.specs.Entries.{entries_of}
use Rattle.rt_model.specs.History.{value_of}
use Rattle.rt_model.specs.Ideal.{mode_of}
use Rattle.rt_model.specs.Metadata.{listed_write, metadata_of, IsDoneStatus, IsInProgress}
use Rattle.rt_model.specs.Setup.{IsSetup}
use Rattle.rt_model.specs.declared.ideal_state.IdealEntry.{IdealEntry}
use Rattle.rt_model.specs.declared.ideal_state.Mode.{Mode}
use Rattle.rt_model.specs.declared.ideal_state.Mode.TheVariants as mode
use Rattle.rt_model.specs.declared.node.Key.TheVariants as key
use Rattle.rt_model.specs.declared.node.Listed.{Listed}
use Rattle.rt_model.specs.declared.node.Seen.{Seen}
use Rattle.rt_model.specs.declared.replica_state.ReplicaState.{ReplicaState}
use Rattle.rt_model.specs.declared.seg_meta.SeenMeta.{SeenMeta}
use Rattle.rt_model.specs.declared.setup.Setup.{Setup}
use Rattle.rt_model.specs.declared.status.Status.{Status}
use Rattle.rt_model.specs.declared.status.Status.TheVariants.{InProgress, Done, Abandoned}
use Rattle.rt_model.proofs.Listings.{has_listings}
use Rattle.rt_nodes.specs.Refused.{outcome_by}
use Rattle.rt_nodes.specs.Servers.{NodeMoves}
use Rattle.rt_nodes.specs.declared.server_node.ServerNode.{ServerNode}
use Rattle.rt_safety.proofs.JobsOn.{own_slot}
use Rattle.rt_safety.proofs.Later.{runs_are_safe}
use Rattle.rt_safety.specs.Runs.{Runs, Turn}
use Rattle.rt_server.proofs.Listed.{lookup_put, targets_tell}
use Rattle.rt_server.proofs.Merge.{first_below, it_is, itself, later_ascend, lookup_below, Ascending, Below}
use Rattle.rt_server.proofs.Stepped.{stepped}
use Rattle.rt_server.specs.Calls.{stepped_by, targets_of, TransitsIf, TransitsTo}
use Rattle.rt_server.specs.Table.{entry_of, is_segment, put_back, target_of, with_entry, without, Segment, Segments, ServerState}
use Rattle.rt_server.specs.Transition.{committed, moved_by, moved_if, moved_to, opened, transit_due, transited, transition}
use Rattle.rt_state.specs.IsSafe.{past_of}
use Rattle.rt_state.specs.IsSafeWorld.{IsSafeWorld}
use Rattle.rt_state.specs.Nodes.{ServerCallsAt}
use Rattle.rt_state.specs.declared.state.State.{State}
use Rattle.rt_store.specs.Answers.{found_in, reading}
use Rattle.rt_store.specs.Calls.{IsExact, Reads}
use Rattle.rt_store.specs.Contents.{starting_of}
use Rattle.rt_store.specs.Meaning.{Told}
use Rattle.rt_store.specs.Memory.{means}
use Rattle.rt_store.specs.declared.refused.StoreRefused.{StoreRefused}
use Rattle.rt_store.specs.declared.refused.StoreRefused.TheVariants as store
use Rattle.rt_store.proofs.Seeing.{told_exact}
use Rattle.rt_world.specs.Step.{Steps}
use Rattle.rt_heal.specs.GivenUp.{IsConsumable}
use Rattle.rt_heal.proofs.Asked.{mode_asked, online_listed, present_right}
use Rattle.rt_heal.proofs.GivenUp.{consumable}

-- ---- look-ups of a segment

pub found_set : (test : Segment → Bool) (es : List (Segment × Entry)) (old new : Entry) → lookup test es ≡ Some old → lookup test (set_value test es new) ≡ Some new
found_set test [] old new found = absurd (none-some old found)
found_set test (e ∷ es) old new found = by_test (test e.0) refl found (found_set test es old new)
  where
    by_test : (b : Bool) → test e.0 ≡ b → cond b (Some e.1) (lookup test es) ≡ Some old → (lookup test es ≡ Some old → lookup test (set_value test es new) ≡ Some new)
        → lookup test (cond b ((e.0, new) ∷ es) (e ∷ set_value test es new)) ≡ Some new
    by_test true is there further = ap (λ c. cond c (Some new) (lookup test es)) is
    by_test false is there further = ap (λ c. cond c (Some e.1) (lookup test (set_value test es new))) is ∙ further there

gone_found : (s : Segment) (es : List (Segment × Entry)) → Ascending (keys_of es) → lookup (is_segment s.0 s.1) (remove_entry (is_segment s.0 s.1) es) ≡ None
gone_found s [] up = refl
gone_found s (e ∷ es) up = by_test (is_segment s.0 s.1 e.0) refl (gone_found s es (later_ascend e.0 (keys_of es) up))
  where
    by_test : (b : Bool) → is_segment s.0 s.1 e.0 ≡ b → lookup (is_segment s.0 s.1) (remove_entry (is_segment s.0 s.1) es) ≡ None
        → lookup (is_segment s.0 s.1) (cond b es (e ∷ remove_entry (is_segment s.0 s.1) es)) ≡ None
    by_test true is further =
        lookup_below es s (subst (λ (x : Segment). Below x (keys_of es)) (sym (it_is s e.0 is)) (first_below e.0 (keys_of es) up))
    by_test false is further =
        ap (λ c. cond c (Some e.1) (lookup (is_segment s.0 s.1) (remove_entry (is_segment s.0 s.1) es))) is ∙ further

-- ---- a transition

-- what a commit makes of an entry isn't left any more
pub told_shut : (e : Entry) (done : SeenMeta) (end : Offset) → is_open_entry (told e done end) ≡ false
told_shut (Replica r) done end = by_phase r.phase (learns_in r.phase && nat_le (cur r).0 end.0) refl
  where
    unlearned : (b c : Bool) → c ≡ true → (false && b) ≡ c → ⊥
    unlearned b c is e = true≢false (sym is ∙ sym e)

    by_rows : (o : Unsealed) (b : Bool) → is_open (state_of (cond b (at o.rows (ConsumingToOnline end done)) (at o.rows (Retaining done)))) ≡ false
    by_rows o true = refl
    by_rows o false = refl

    by_phase : (ph : Phase) (b : Bool) → learns_in ph && nat_le (cur r).0 end.0 ≡ b
        → is_open_entry (cond b (Replica (learned r ph done end)) (wanting done)) ≡ false
    by_phase ph false e = refl
    by_phase (phase.Unsealed o) true e = by_rows o (nat_lt o.rows.end.0 end.0)
    by_phase (phase.Retained kept) true e = absurd (unlearned (nat_le (cur r).0 end.0) true refl e)
    by_phase (phase.Committed kept) true e = absurd (unlearned (nat_le (cur r).0 end.0) true refl e)
    by_phase (phase.Discarded d) true e = absurd (unlearned (nat_le (cur r).0 end.0) true refl e)
told_shut (Committed c) done end = refl

-- what a segment's metadata has to be for its mode
abbrev CanMove : Mode → Option SeenMeta → Type 0
CanMove mode.Offline seen = Unit {0}
CanMove mode.Consuming None = ⊥
CanMove mode.Consuming (Some m) = IsInProgress m.meta.status ⊎ IsDoneStatus m.meta.status
CanMove mode.Online None = ⊥
CanMove mode.Online (Some m) = IsDoneStatus m.meta.status

module _ (setup : Setup) (t : Segments) (p : Partition) (q : Sequence) (now : Moment) (up : Ascending (keys_of t.entries)) where
  without_none : entry_of (without t p q) p q ≡ None
  without_none = gone_found (p, q) t.entries up

  with_some : (e : Entry) → entry_of (with_entry t p q e) p q ≡ Some e
  with_some e = lookup_put t.entries (p, q) (p, q) e ∙ ap (λ b. cond b (Some e) (entry_of t p q)) (itself (p, q))

  back_some : (old new : Entry) → entry_of t p q ≡ Some old → entry_of (put_back t p q new) p q ≡ Some new
  back_some old new found = found_set (is_segment p q) t.entries old new found

  -- whatever it is, an entry that is to be consumed isn't moved
  consuming_shut : (seen : SeenMeta) (st : Status) → IsInProgress st ⊎ IsDoneStatus st → is_due (Some mode.Consuming) (entry_of (moved_by setup t p q now seen st).1 p q) ≡ false
  consuming_shut seen InProgress goes = by_entry (entry_of t p q) refl
    where
      by_entry : (o : Option Entry) → entry_of t p q ≡ o → is_due (Some mode.Consuming) (entry_of (opened setup t p q now seen o).1 p q) ≡ false
      by_entry None found = ap (is_due (Some mode.Consuming)) (with_some (Replica (started_of setup p q seen.meta now)))
      by_entry (Some e) found = ap (is_due (Some mode.Consuming)) found
  consuming_shut seen (Done commit) goes = by_entry (entry_of t p q) refl
    where
      by_entry : (o : Option Entry) → entry_of t p q ≡ o → is_due (Some mode.Consuming) (entry_of (committed t p q seen commit.end o).1 p q) ≡ false
      by_entry None found = ap (is_due (Some mode.Consuming)) (with_some (wanting seen))
      by_entry (Some e) found = ap (is_due (Some mode.Consuming)) (back_some e (told e seen commit.end) found)
  consuming_shut seen Abandoned goes = absurd (neither goes)
    where
      neither : ⊥ ⊎ ⊥ → ⊥
      neither (inl n) = n
      neither (inr n) = n

  online_shut : (seen : SeenMeta) (st : Status) → IsDoneStatus st → is_due (Some mode.Online) (entry_of (moved_by setup t p q now seen st).1 p q) ≡ false
  online_shut seen InProgress done = absurd done
  online_shut seen (Done commit) done = by_entry (entry_of t p q) refl
    where
      by_entry : (o : Option Entry) → entry_of t p q ≡ o → is_due (Some mode.Online) (entry_of (committed t p q seen commit.end o).1 p q) ≡ false
      by_entry None found = ap (is_due (Some mode.Online)) (with_some (wanting seen))
      by_entry (Some e) found = ap (is_due (Some mode.Online)) (back_some e (told e seen commit.end) found) ∙ told_shut e seen commit.end
  online_shut seen Abandoned done = absurd done

  moved_shut : (m : Mode) (seen : Option SeenMeta) → CanMove m seen → is_due (Some m) (entry_of (transition setup t p q now m seen).1 p q) ≡ false
  moved_shut mode.Offline seen can = ap (is_due (Some mode.Offline)) without_none
  moved_shut mode.Consuming None can = absurd can
  moved_shut mode.Consuming (Some seen) can = consuming_shut seen seen.meta.status can
  moved_shut mode.Online None can = absurd can
  moved_shut mode.Online (Some seen) can = online_shut seen seen.meta.status can

  -- the targets stay
  abbrev pub KeepsTargets : Segments → Type 0
  KeepsTargets u = u.targets ≡ t.targets

  status_targets : (seen : SeenMeta) (st : Status) → KeepsTargets (moved_by setup t p q now seen st).1
  status_targets seen InProgress = by_entry (entry_of t p q)
    where
      by_entry : (o : Option Entry) → KeepsTargets (opened setup t p q now seen o).1
      by_entry None = refl
      by_entry (Some e) = refl
  status_targets seen (Done commit) = by_entry (entry_of t p q)
    where
      by_entry : (o : Option Entry) → KeepsTargets (committed t p q seen commit.end o).1
      by_entry None = refl
      by_entry (Some e) = refl
  status_targets seen Abandoned = refl

  to_targets : (seen : Option SeenMeta) → KeepsTargets (moved_to setup t p q now seen).1
  to_targets None = refl
  to_targets (Some seen) = status_targets seen seen.meta.status

  pub moved_targets : (m : Mode) (seen : Option SeenMeta) → KeepsTargets (transition setup t p q now m seen).1
  moved_targets mode.Offline seen = refl
  moved_targets mode.Consuming seen = to_targets seen
  moved_targets mode.Online seen = to_targets seen

  transition_shut : (m : Mode) (seen : Option SeenMeta) → target_of t p q ≡ Some m → CanMove m seen → transit_due (transition setup t p q now m seen).1 p q ≡ false
  transition_shut m seen target can =
      let same : target_of (transition setup t p q now m seen).1 p q ≡ Some m = ap (lookup (is_segment p q)) (moved_targets m seen) ∙ target in
      ap (λ o. is_due o (entry_of (transition setup t p q now m seen).1 p q)) same ∙ moved_shut m seen can

-- ---- what was read

abbrev okay : Option SeenMeta → Result (Option SeenMeta) ServerRefused
okay o = Ok o

abbrev fails : ServerRefused → Result (Option SeenMeta) ServerRefused
fails e = Err e

same_okay : (a b : Option SeenMeta) → okay a ≡ okay b → a ≡ b
same_okay a b e = cc

not_okay : (a : Option SeenMeta) (r : ServerRefused) → okay a ≡ fails r → ⊥
not_okay a r e = cc

abbrev refuses : ServerRefused → Result (ReplicaState × ServerState) ServerRefused
refuses e = Err e

same_refused : (a b : ServerRefused) → refuses a ≡ refuses b → a ≡ b
same_refused a b e = cc

abbrev moved_on : ReplicaState × ServerState → Result (ReplicaState × ServerState) ServerRefused
moved_on x = Ok x

done_apart : (x : ReplicaState × ServerState) (e : ServerRefused) → moved_on x ≡ refuses e → ⊥
done_apart x e h = cc

memory_apart : fails refused.Memory ≡ fails refused.StoreFault → ⊥
memory_apart e = cc

module _ (w : State) (u : Told) (p : Partition) (q : Sequence) (answer : Result Seen StoreRefused) (unplanned : w.store.faults.plan ≡ [])
    (reads : Reads (means w.store) (means u) (key.Meta p q) answer) where
  -- memory ran out, or it is what the history has
  read_so : (answer ≡ Err store.Memory) ⊎ (answer ≡ found_in (value_of w.store.writes (key.Meta p q)))
  read_so = by_exact (told_exact w.store u (reading (key.Meta p q)) (λ base. base) answer reads)
    where
      by_exact : IsExact w.store u (reading (key.Meta p q)) (λ base. base) answer
          → (answer ≡ Err store.Memory) ⊎ (answer ≡ found_in (value_of w.store.writes (key.Meta p q)))
      by_exact (inl (ran_out, same)) = inl ran_out
      by_exact (inr (is, left)) =
          inr (is ∙ ap (λ (ps : List Bool). answer_under store.Failed (fault_of ps) (reading (key.Meta p q) w.store.writes)) unplanned)

  -- no fault is answered
  fault_not : metadata_in answer ≡ fails refused.StoreFault → ⊥
  fault_not e = by_way read_so
    where
      by_value : (o : Option Seen) → metadata_in (found_in o) ≡ fails refused.StoreFault → ⊥
      by_value None f = not_okay None refused.StoreFault f
      by_value (Some v) f = not_okay _ refused.StoreFault f

      by_way : (answer ≡ Err store.Memory) ⊎ (answer ≡ found_in (value_of w.store.writes (key.Meta p q))) → ⊥
      by_way (inl ran_out) = memory_apart (ap metadata_in (sym ran_out) ∙ e)
      by_way (inr is) = by_value (value_of w.store.writes (key.Meta p q)) (ap metadata_in (sym is) ∙ e)

  -- a listed segment's metadata is what is listed
  seen_listed : (l : Listed) (seen : Option SeenMeta) → value_of w.store.writes (key.Meta p q) ≡ Some (listed_write p l) → metadata_in answer ≡ okay seen
      → seen ≡ Some l.seen
  seen_listed l seen value e = by_way read_so
    where
      by_way : (answer ≡ Err store.Memory) ⊎ (answer ≡ found_in (value_of w.store.writes (key.Meta p q))) → seen ≡ Some l.seen
      by_way (inl ran_out) = absurd (not_okay seen refused.Memory (sym e ∙ ap metadata_in ran_out))
      by_way (inr is) = same_okay seen (Some l.seen) (sym e ∙ ap metadata_in is ∙ ap (λ (o : Option Seen). metadata_in (found_in o)) value)

-- ---- a world

module _ (w : State) (s : IsSafeWorld w) (i : Instance) (n : ServerNode) (there : slice_get w.servers i.0 ≡ Some n) (unplanned : w.store.faults.plan ≡ [])
    (seen_it : n.server.table.targets ≡ targets_of n.server.numbers.instance (entries_of w.store.writes))
    (consumes : (e : IdealEntry) → Has (entries_of w.store.writes) e → e.mode ≡ mode.Consuming → IsConsumable w.store.writes e.partition e.sequence)
    (p : Partition) (q : Sequence) where
  abbrev t : Segments
  t = n.server.table

  abbrev j : Instance
  j = n.server.numbers.instance

  up : Ascending (keys_of t.entries)
  up = (s.safe.servers i.0 n there).over.kept.ascending

  -- a target is what the ideal state asks
  asked_mode : (m : Mode) → target_of t p q ≡ Some m → mode_of (entries_of w.store.writes) p q j ≡ Some m
  asked_mode m target = sym (ap (lookup (is_segment p q)) seen_it ∙ targets_tell j (entries_of w.store.writes) p q) ∙ target

  within : (m : Mode) → target_of t p q ≡ Some m → p.0 < w.setup.partitions
  within m target =
      let a = mode_asked (entries_of w.store.writes) p q j m (asked_mode m target) in
      subst (λ (x : Partition). x.0 < w.setup.partitions) a.partition (present_right w.setup (past_of w) s.safe.past a.entry a.there).0

  value_listed : p.0 < w.setup.partitions → (l : Listed) → Has (metadata_of w.store.writes p) l → l.sequence ≡ q
      → value_of w.store.writes (key.Meta p q) ≡ Some (listed_write p l)
  value_listed inside l has is =
      ap (λ (x : Sequence). value_of w.store.writes (key.Meta p x)) (sym is)
      ∙ (has_listings (starting_of w.setup) w.store.writes s.safe.past.lawful p inside).values l has

  module _ (u : Told) (answer : Result Seen StoreRefused) (reads : Reads (means w.store) (means u) (key.Meta p q) answer) (seen : Option SeenMeta)
      (tells : metadata_in answer ≡ okay seen) where
    consuming_can : mode_of (entries_of w.store.writes) p q j ≡ Some mode.Consuming → p.0 < w.setup.partitions → CanMove mode.Consuming seen
    consuming_can asked inside =
        let a = mode_asked (entries_of w.store.writes) p q j mode.Consuming asked in
        let k = subst (λ (x : Sequence). IsConsumable w.store.writes p x) a.sequence
        (subst (λ (x : Partition). IsConsumable w.store.writes x a.entry.sequence) a.partition (consumes a.entry a.there a.mode)) in
        subst (CanMove mode.Consuming)
        (sym (seen_listed w u p q answer unplanned reads k.listed seen (value_listed inside k.listed k.has k.is) tells)) k.goes

    online_can : mode_of (entries_of w.store.writes) p q j ≡ Some mode.Online → p.0 < w.setup.partitions → CanMove mode.Online seen
    online_can asked inside =
        let k = online_listed w.setup (past_of w) s.safe.past p q inside j asked in
        subst (CanMove mode.Online)
        (sym (seen_listed w u p q answer unplanned reads k.listed seen (value_listed inside k.listed k.has k.is) tells)) k.done

    can_move : (m : Mode) → target_of t p q ≡ Some m → CanMove m seen
    can_move mode.Offline target = tt
    can_move mode.Consuming target = consuming_can (asked_mode mode.Consuming target) (within mode.Consuming target)
    can_move mode.Online target = online_can (asked_mode mode.Online target) (within mode.Online target)

  -- ---- what it comes to

  abbrev pub Shut : ServerState → Type 0
  Shut x = transit_due x.table p q ≡ false

  module _ (u : Told) (new : ServerState) (o : Outcome) where
    result_shut : (m : Mode) → target_of t p q ≡ Some m → (answer : Result Seen StoreRefused) → Reads (means w.store) (means u) (key.Meta p q) answer
        → (result : Result ReplicaState ServerRefused) → Comes (stepped_by n.server (transited n.server.setup t p q w.moment m answer)) n.server new result
        → outcome_by outcome.Stands result ≡ Some o → Shut new
    result_shut m target answer reads (Ok x) comes told_it =
        let k = stepped n.server new p q w.moment m (metadata_in answer) x comes in
        subst Shut (sym k.2) (transition_shut n.server.setup t p q w.moment up m k.0 target (can_move u answer reads k.0 k.1 m target))
    result_shut m target answer reads (Err refused.StoreFault) comes told_it = absurd (by_read (metadata_in answer) refl comes.0)
      where
        by_read : (r : Result (Option SeenMeta) ServerRefused) → metadata_in answer ≡ r
            → stepped_by n.server (moved_if n.server.setup t p q w.moment m r) ≡ refuses refused.StoreFault → ⊥
        by_read (Ok seen) e f = done_apart _ refused.StoreFault f
        by_read (Err r) e f = fault_not w u p q answer unplanned reads (e ∙ ap (λ (x : ServerRefused). fails x) (same_refused r refused.StoreFault f))
    result_shut m target answer reads (Err refused.NotDue) comes told_it = absurd (none-some o told_it)
    result_shut m target answer reads (Err (refused.BadFile wanted found)) comes told_it = absurd (none-some o told_it)
    result_shut m target answer reads (Err refused.Memory) comes told_it = absurd (none-some o told_it)

    target_shut : (target : Option Mode) → target_of t p q ≡ target → (result : Result ReplicaState ServerRefused)
        → TransitsTo target (means w.store) (means u) n.server new p q w.moment result → outcome_by outcome.Stands result ≡ Some o → Shut new
    target_shut None is result h told_it =
        subst Shut (sym h.2)
        (ap (λ m. is_due m (entry_of (without t p q) p q)) is ∙ ap (is_due None) (without_none n.server.setup t p q w.moment up))
    target_shut (Some m) is result (answer, reads, comes) told_it = result_shut m is answer reads result comes told_it

    due_shut : (b : Bool) → transit_due t p q ≡ b → (result : Result ReplicaState ServerRefused)
        → TransitsIf b (means w.store) (means u) n.server new p q w.moment result → outcome_by outcome.Stands result ≡ Some o → Shut new
    due_shut true is result h told_it = target_shut (target_of t p q) refl result h told_it
    due_shut false is result h told_it = subst Shut (sym h.2) is

  pub event_shut : (y : State) (o : Outcome) → Steps w (Transit i p q) y (Ok o) → (m : ServerNode) → slice_get y.servers i.0 ≡ Some m → Shut m.server
  event_shut y o (cost, due, h) m here =
      let k = subst (λ (x : Option ServerNode). ServerCallsAt x w i (NodeMoves p q w.moment) cost (y, o)) there h in
      let now : slice_get y.servers i.0 ≡ Some k.0 = ap (λ (x : State). slice_get x.servers i.0) k.3 ∙ own_slot w.servers i.0 n k.0 there in
      subst (λ (x : ServerNode). Shut x.server) (same_Some k.0 m (sym now ∙ here))
      (due_shut k.1 k.0.server o (transit_due t p q) refl k.2.0 k.2.1 k.2.2)

pub moves_once : (setup : Setup) (turns : List Turn) (w y : State) (i : Instance) (n m : ServerNode) (p : Partition) (q : Sequence) (o : Outcome) → IsSetup setup
    → Runs setup turns w → w.store.faults.plan ≡ [] → slice_get w.servers i.0 ≡ Some n
    → n.server.table.targets ≡ targets_of n.server.numbers.instance (entries_of w.store.writes) → Steps w (Transit i p q) y (Ok o)
    → slice_get y.servers i.0 ≡ Some m → transit_due m.server.table p q ≡ false
moves_once setup turns w y i n m p q o is run unplanned there seen step here =
    event_shut w (runs_are_safe setup turns w is run) i n there unplanned seen (λ e has consumes. consumable setup turns w e is run has consumes) p q y o step m here
