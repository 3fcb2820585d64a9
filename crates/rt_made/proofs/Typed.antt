-- In each world of a run a replica's rows are as their types hold them.
use Rattle.std.proofs.Common.{◌≡◌, ◌≤◌, ◌<◌, ◌+◌, ◌-◌, ◌^◌, ◌⊎◌, inl, inr, ℕ, zero, suc, List, [], ◌∷◌, ◌++◌, length, map, take, drop, replicate, Option, Some, None, Ok, All, IsUtf8, refl, sym, subst, ap, arith, slice_get}
use Rattle.std.specs.Prelude.{IfSome, slice_index_or}
use Rattle.std.specs.List.{AllByRecursion}
use Rattle.std.proofs.lemmas.List.{get_or_past}
use Rattle.std.proofs.lemmas.List.Elements.{All-from_recursion}
use Rattle.std.proofs.lemmas.Option.{get_or_from_slice_get, none-some, same_Some, slice_get_cases}
use Rattle.rt_base.specs.declared.numbers.Instance.{Instance}
use Rattle.rt_base.specs.declared.numbers.Partition.{Partition}
use Rattle.rt_base.specs.declared.numbers.Sequence.{Sequence}
use Rattle.rt_consumer.specs.Consumer.{IsPhase}
use Rattle.rt_consumer.specs.declared.consumer.Consumer.{Consumer}
use Rattle.rt_consumer.specs.declared.settings.Settings.{Settings}
use Rattle.rt_consumer.specs.declared.phase.Phase.{Phase}
use Rattle.rt_consumer.specs.declared.phase.Phase.TheVariants as phase
use Rattle.rt_events.specs.declared.event.Event.{Event}
use Rattle.rt_events.specs.declared.event.Event.TheVariants as event
use Rattle.rt_events.specs.declared.outcome.Outcome.{Outcome}
use Rattle.rt_events.specs.declared.refusal.Refusal.TheVariants.{NoSuchNode}
use Rattle.rt_model.specs.Setup.{IsSetup}
use Rattle.rt_model.specs.declared.setup.Setup.{Setup}
use Rattle.rt_mutable.specs.Column.{Shape}
use Rattle.rt_mutable.specs.Consuming.{Placed, shape_of}
use Rattle.rt_nodes.specs.declared.server_node.ServerNode.{ServerNode}
use Rattle.rt_replica.specs.Held.{HoldsIn, messages_between, placed_from, placed_row}
use Rattle.rt_safety.proofs.Can.{due_happens}
use Rattle.rt_safety.proofs.Produced.{run_appends}
use Rattle.rt_safety.proofs.Runs.{leads_add, leads_safe}
use Rattle.rt_safety.specs.Possible.{HoldsTypes, IsOfTypes, IsTyped}
use Rattle.rt_safety.specs.Produced.{log_after}
use Rattle.rt_safety.specs.Runs.{Leads, Runs, Turn, TurnsTo, happens, passes}
use Rattle.rt_schema.specs.Row.{row_of}
use Rattle.rt_schema.specs.declared.column.Column.{Column}
use Rattle.rt_schema.specs.declared.row.Row.{Row}
use Rattle.rt_schema.specs.declared.schema.Schema.{Schema}
use Rattle.rt_server.proofs.EachEntry.{found_each}
use Rattle.rt_server.proofs.Kept.{replica_found}
use Rattle.rt_server.proofs.LastingEntries.{replica_held}
use Rattle.rt_server.specs.Table.{entry_of, replica_of}
use Rattle.rt_entry.specs.declared.entry.Entry.TheVariants.{Replica}
use Rattle.rt_state.proofs.Bounds.{contents_length}
use Rattle.rt_state.proofs.Possible.{only_passed, priced_room}
use Rattle.rt_state.specs.Finding.{has_partition, replica_in}
use Rattle.rt_state.specs.IsSafe.{past_of}
use Rattle.rt_state.specs.IsSafeWorld.{IsSafeWorld}
use Rattle.rt_state.specs.Places.{AreAt}
use Rattle.rt_state.specs.Room.{message_cost, priced}
use Rattle.rt_state.specs.Start.{start}
use Rattle.rt_state.specs.declared.state.State.{State}
use Rattle.rt_store.specs.Contents.{starting_of}
use Rattle.rt_stream.specs.Log.{Log, messages_of}
use Rattle.rt_world.proofs.Places.{at_set}
use Rattle.rt_world.proofs.StartSafe.{start_safe}
use Rattle.rt_world.specs.Step.{Steps, due_of}
use Rattle.rt_made.proofs.Few.{HasFew}
use Rattle.rt_made.proofs.Sequences.{begun_few}
use Rattle.rt_made.proofs.Servers.{IsFewEntry}
use Rattle.rt_made.proofs.Values.{row_typed}
use Rattle.rt_made.proofs.Worlds.{HaveFewRows, start_few, steps_few}
use Rattle.rt_made.specs.Named.{HasTextNames}

-- ---- messages

abbrev AreShort : List (List ℕ) → Type 0
AreShort ms = AllByRecursion (λ (m : List ℕ). length m ≤ 65536) ms

abbrev IsShortAt : ℕ → List (List ℕ) → Type 0
IsShortAt p ms = AreShort ms

abbrev IsShortLog : Log → Type 0
IsShortLog log = AreAt IsShortAt log

short_push : (ms : List (List ℕ)) (m : List ℕ) → AreShort ms → length m ≤ 65536 → AreShort (ms ++ m ∷ [])
short_push [] m h le = (le, tt)
short_push (x ∷ ms) m h le = (h.0, short_push ms m h.1 le)

short_take : (n : ℕ) (ms : List (List ℕ)) → AreShort ms → AreShort (take n ms)
short_take zero ms h = tt
short_take (suc n) [] h = tt
short_take (suc n) (m ∷ ms) h = (h.0, short_take n ms h.1)

short_drop : (n : ℕ) (ms : List (List ℕ)) → AreShort ms → AreShort (drop n ms)
short_drop zero ms h = h
short_drop (suc n) [] h = tt
short_drop (suc n) (m ∷ ms) h = short_drop n ms h.1

short_of : (log : Log) (p : Partition) → IsShortLog log → AreShort (messages_of log p)
short_of log p h = by (slice_get_cases log p.0).1
  where
    by : ((ms : List (List ℕ)) × (p.0 < length log) × (slice_get log p.0 ≡ Some ms) × (slice_index_or log p.0 ms ≡ ms)) ⊎ ((length log ≤ p.0) × (slice_get log p.0 ≡ None))
        → AreShort (messages_of log p)
    by (inl (ms, within, at, same)) = subst AreShort (sym (get_or_from_slice_get log p.0 ms [] at)) (h p.0 ms at)
    by (inr (past, none)) = subst AreShort (sym (get_or_past log p.0 [] past)) tt

-- a message that is produced is no longer than messages are
turn_short : (w : State) (turn : Turn) (v : State) → TurnsTo w turn v → IsShortLog w.log → IsShortLog v.log
turn_short w turn v t h = subst IsShortLog (sym (run_appends w (turn ∷ []) v (v, t, refl))) (by turn t)
  where
    by : (turn : Turn) → TurnsTo w turn v → IsShortLog (log_after w.log turn)
    by (happens (event.Produce p message) o) (fits, (cost, due, is)) =
        let room = priced_room w (message_cost (length message)) cost (only_passed (has_partition w p) NoSuchNode (priced w (message_cost (length message))) cost due).1 in
        at_set IsShortAt w.log p.0 (messages_of w.log p ++ message ∷ []) (short_push (messages_of w.log p) message (short_of w.log p h) (omega (arith, room.1.message))) h
    by (happens e o) t = h
    by passes t = h

-- ---- turns

-- what a replica's rows are bounded by
pub record IsBounded (w : State) : Type 0 where
  pub safe : IsSafeWorld w
  pub few : HaveFewRows w
  pub short : IsShortLog w.log

turn_bounded : (w : State) (turn : Turn) (v : State) → IsBounded w → TurnsTo w turn v → IsBounded v
turn_bounded w turn v b t = record { safe = leads_safe w (turn ∷ []) v b.safe (v, t, refl); few = by turn t; short = turn_short w turn v t b.short }
  where
    by : (turn : Turn) → TurnsTo w turn v → HaveFewRows v
    by (happens e o) (fits, steps) = steps_few w b.safe b.few e v o steps
    by passes (cost, due, is) = subst HaveFewRows (sym is) b.few

leads_bounded : (w : State) (turns : List Turn) (v : State) → IsBounded w → Leads w turns v → IsBounded v
leads_bounded w [] v b same = subst IsBounded (sym same) b
leads_bounded w (turn ∷ turns) v b (next, t, rest) = leads_bounded next turns v (turn_bounded w turn next b t) rest

start_short : (partitions : ℕ) → IsShortLog (replicate partitions [])
start_short zero p ms at = absurd (none-some ms at)
start_short (suc n) zero ms at = subst AreShort (same_Some [] ms at) tt
start_short (suc n) (suc p) ms at = start_short n p ms at

run_bounded : (setup : Setup) (turns : List Turn) (w : State) → IsSetup setup → Runs setup turns w → IsBounded w
run_bounded setup turns w is run =
    leads_bounded (start setup) turns w (record { safe = start_safe setup is; few = start_few setup; short = start_short setup.partitions }) run

-- ---- rows

abbrev IsTypedRow : Placed → Type 0
IsTypedRow placed = All IsOfTypes placed.row.values

placed_typed : (schema : Schema) (offset : ℕ) (ms : List (List ℕ)) → AreShort ms → AllByRecursion IsTypedRow (placed_from schema offset ms)
placed_typed schema offset [] h = tt
placed_typed schema offset (m ∷ ms) h = by (row_of schema m) (row_typed schema m h.0) (placed_typed schema (offset + 1) ms h.1)
  where
    by : (o : Option Row) → IfSome o (λ row. All IsOfTypes row.values) → AllByRecursion IsTypedRow (placed_from schema (offset + 1) ms)
        → AllByRecursion IsTypedRow (placed_row offset o ++ placed_from schema (offset + 1) ms)
    by None row rest = rest
    by (Some row) typed rest = (typed, rest)

shapes_named : (indexed : List (List ℕ)) (columns : List Column) → AllByRecursion (λ (column : Column). IsUtf8 column.name) columns
    → AllByRecursion (λ (shape : Shape). IsUtf8 shape.name) (map (shape_of indexed) columns)
shapes_named indexed [] h = tt
shapes_named indexed (c ∷ columns) h = (h.0, shapes_named indexed columns h.1)

phase_typed : (r : Consumer) (ph : Phase) (ms : List (List ℕ)) → AreShort ms → HasTextNames r.settings.schema → HasFew ph → IsPhase r.settings r.partition r.sequence r.start ph
    → HoldsIn r.settings.schema ms r.start ph → HoldsTypes ph
phase_typed r (phase.Unsealed o) ms short named few is held =
    let typed = placed_typed r.settings.schema r.start.0 (messages_between ms r.start.0 o.rows.end.0)
    (short_take (o.rows.end.0 - r.start.0) (drop r.start.0 ms) (short_drop r.start.0 ms short)) in
    record {
      few = few;
      values = subst (All IsTypedRow) (sym held.all) (All-from_recursion IsTypedRow (placed_from r.settings.schema r.start.0 (messages_between ms r.start.0 o.rows.end.0)) typed);
      names =
          subst (All (λ (shape : Shape). IsUtf8 shape.name)) (sym is.0.columns)
          (All-from_recursion (λ (shape : Shape). IsUtf8 shape.name) (map (shape_of r.settings.indexed) r.settings.schema.columns)
          (shapes_named r.settings.indexed r.settings.schema.columns named));
    }
phase_typed r (phase.Retained kept) ms short named few is held = tt
phase_typed r (phase.Committed kept) ms short named few is held = tt
phase_typed r (phase.Discarded d) ms short named few is held = tt

replica_typed : (w : State) (i : Instance) (n : ServerNode) (p : Partition) (q : Sequence) (r : Consumer) → IsBounded w → HasTextNames w.setup.schema → slice_get w.servers i.0 ≡ Some n
    → replica_of n.server.table p q ≡ Some r → (r.sequence.0 < 2 ^ 32) × HoldsTypes r.phase
replica_typed w i n p q r b named at found =
    let k = replica_held w.setup (past_of w) n.server (b.safe.safe.servers i.0 n at).over p q r found in
    let begun = begun_few (starting_of w.setup) w.store.writes r.partition r.sequence r.start b.safe.safe.past.lawful k.2.partition k.2.begun in
    let few = found_each IsFewEntry n.server.table.entries p q (Replica r) (b.few i.0 n at) (replica_found (entry_of n.server.table p q) r found) in
    let schema : HasTextNames r.settings.schema = subst HasTextNames (ap (λ (s : Settings). s.schema) (sym k.2.settings)) named in (
      omega (
        arith,
        begun,
        b.safe.few.written,
        b.safe.few.events,
        contents_length (starting_of w.setup),
        b.safe.safe.setup.few_servers,
        b.safe.safe.setup.few_partitions,
      ),
      phase_typed r r.phase (messages_of w.log r.partition) (short_of w.log r.partition b.short) schema few k.1.phase k.2.held,
    )

bounded_typed : (w : State) (e : Event) → IsBounded w → HasTextNames w.setup.schema → IsTyped w e
bounded_typed w (event.Build i p q) b named = λ r found. by r (slice_get w.servers i.0) refl found
  where
    by : (r : Consumer) (o : Option ServerNode) → slice_get w.servers i.0 ≡ o → replica_in o p q ≡ Some r → (r.sequence.0 < 2 ^ 32) × HoldsTypes r.phase
    by r None at found = absurd (none-some r found)
    by r (Some n) at found = replica_typed w i n p q r b named at found
bounded_typed w e b named = tt

pub run_typed : (setup : Setup) (turns : List Turn) (w : State) (e : Event) → IsSetup setup → HasTextNames setup.schema → Runs setup turns w
    → IsTyped w e
run_typed setup turns w e is named run =
    let same : w.setup ≡ setup = (leads_add (start setup) turns w (start_safe setup is) run).goes.setup in
    bounded_typed w e (run_bounded setup turns w is run) (subst (λ (s : Setup). HasTextNames s.schema) (sym same) named)

pub run_goes_on : (setup : Setup) (turns : List Turn) (w : State) (e : Event) → IsSetup setup → HasTextNames setup.schema → Runs setup turns w → due_of w e ≡ Ok tt
    → (y : State) × (outcome : Outcome) × Steps w e y (Ok outcome)
run_goes_on setup turns w e is named run due =
    due_happens w e (leads_safe (start setup) turns w (start_safe setup is) run) (run_typed setup turns w e is named run) due
