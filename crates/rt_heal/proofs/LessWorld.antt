-- A batch that is due and a build leave less to do in a world.
use Rattle.std.proofs.Common.{◌≡◌, ℕ, zero, suc, ◌+◌, ◌<◌, ◌⊎◌, inl, inr, Bool, true, false, cond, nat_lt, List, [], ◌∷◌, Option, Some, None, Result, Ok, Err, refl, sym, ◌∙◌, ap, subst, arith, slice_get}
use Rattle.std.specs.Map.{lookup, set_value}
use Rattle.std.specs.Prelude.{option_map, slice_set}
use Rattle.std.proofs.lemmas.Bool.{and_parts, true≢false}
use Rattle.std.proofs.lemmas.Option.{none-some, same_Some}
use Rattle.rt_base.specs.declared.numbers.Instance.{Instance}
use Rattle.rt_base.specs.declared.numbers.Moment.{Moment}
use Rattle.rt_base.specs.declared.numbers.Offset.{Offset}
use Rattle.rt_base.specs.declared.numbers.Partition.{Partition}
use Rattle.rt_base.specs.declared.numbers.Sequence.{Sequence}
use Rattle.rt_broker.proofs.Lasting.{got_of_set}
use Rattle.rt_consumer.specs.Batch.{asked_at, asked_in, consumed, messages_from, taken, Consumes}
use Rattle.rt_consumer.specs.Consumer.{cur, state_at, state_of, IsConsumer}
use Rattle.rt_consumer.specs.Next.{takes_in}
use Rattle.rt_consumer.specs.Requests.{is_ready, Builds}
use Rattle.rt_consumer.specs.declared.consumer.Consumer.{Consumer}
use Rattle.rt_consumer.specs.declared.phase.Phase.{Phase}
use Rattle.rt_consumer.specs.declared.phase.Phase.TheVariants as phase
use Rattle.rt_consumer.specs.declared.refused.ReplicaRefused.{ReplicaRefused}
use Rattle.rt_consumer.specs.declared.stage.Stage.{Stage}
use Rattle.rt_consumer.specs.declared.stage.Stage.TheVariants.{InitialConsuming, CatchingUp, Holding, ConsumingToOnline, Retaining, Building, Starting, Uploading, Ending}
use Rattle.rt_entry.specs.Calls.{answered_as}
use Rattle.rt_entry.specs.declared.entry.Entry.{Entry}
use Rattle.rt_entry.specs.declared.entry.Entry.TheVariants.{Replica}
use Rattle.rt_entry.specs.declared.refused.ServerRefused.{ServerRefused}
use Rattle.rt_entry.specs.Transition.{is_due, is_open}
use Rattle.rt_events.specs.declared.event.Event.TheVariants as event
use Rattle.rt_events.specs.declared.outcome.Outcome.{Outcome}
use Rattle.rt_lists.specs.Members.{Has}
use Rattle.rt_model.specs.Entries.{entries_of}
use Rattle.rt_model.specs.declared.ideal_state.Mode.{Mode}
use Rattle.rt_model.specs.declared.ideal_state.Mode.TheVariants.{Consuming, Online, Offline}
use Rattle.rt_msgs.specs.Numbered.{Numbered}
use Rattle.rt_nodes.proofs.Looks.{takes_looks}
use Rattle.rt_nodes.specs.Replicas.{NodeBuilds, NodeConsumes}
use Rattle.rt_nodes.specs.declared.server_node.ServerNode.{ServerNode}
use Rattle.rt_server.specs.Calls.{targets_of, ThroughAt}
use Rattle.rt_server.specs.Table.{entry_of, is_segment, put_back, replica_of, target_of, wants_at, Segment, Segments}
use Rattle.rt_server.specs.Transition.{transit_due}
use Rattle.rt_server.proofs.EachEntry.{found_each, put_each}
use Rattle.rt_server.proofs.Kept.{replica_found}
use Rattle.rt_server.proofs.LastingEntries.{replica_held}
use Rattle.rt_state.specs.Finding.{replica_at, replica_in}
use Rattle.rt_state.specs.IsSafe.{past_of}
use Rattle.rt_state.specs.IsSafeWorld.{IsSafeWorld}
use Rattle.rt_state.specs.Nodes.{ServerDoesAt, ServerFetchesAt}
use Rattle.rt_state.specs.declared.state.State.{State}
use Rattle.rt_store.specs.Meaning.{Told}
use Rattle.rt_stream.specs.Feed.{log_meaning}
use Rattle.rt_stream.specs.Log.{end_of, messages_of, Log}
use Rattle.rt_world.specs.Reading.{is_ready_at, is_ready_by}
use Rattle.rt_world.specs.Step.{Steps}
use Rattle.rt_heal.specs.AtRest.{AreUp}
use Rattle.rt_heal.specs.Calm.{AreAllCalm, IsCalm}
use Rattle.rt_heal.specs.Left.{left_entries, left_entry, left_in_world, left_of, left_server, left_servers, CanAllFollow, CanFollow, CanFollowEntry}
use Rattle.rt_heal.proofs.Less.{batch_follows, batch_less, batch_shut, build_follows, build_less, build_shut}

-- ---- a table, and servers

-- the sums before and after an entry is put
left_put : (log : Log) (test : Segment → Bool) (es : List (Segment × Entry)) (old new : Entry) → lookup test es ≡ Some old
    → left_entries log (set_value test es new) + left_entry log old ≡ left_entries log es + left_entry log new
left_put log test [] old new found = absurd (none-some old found)
left_put log test (e ∷ es) old new found = by_test (test e.0) found (left_put log test es old new)
  where
    by_test : (b : Bool) → cond b (Some e.1) (lookup test es) ≡ Some old
        → (lookup test es ≡ Some old → left_entries log (set_value test es new) + left_entry log old ≡ left_entries log es + left_entry log new)
        → left_entries log (cond b ((e.0, new) ∷ es) (e ∷ set_value test es new)) + left_entry log old ≡ (left_entry log e.1 + left_entries log es) + left_entry log new
    by_test true here further = omega (arith, ap (left_entry log) (same_Some e.1 old here))
    by_test false there further = omega (arith, further there)

table_less : (log : Log) (t : Segments) (p : Partition) (q : Sequence) (r next : Consumer) → replica_of t p q ≡ Some r → left_of log next < left_of log r
    → left_entries log (put_back t p q (Replica next)).entries < left_entries log t.entries
table_less log t p q r next found less =
    omega (arith, less, left_put log (is_segment p q) t.entries (Replica r) (Replica next) (replica_found (entry_of t p q) r found))

servers_less : (log : Log) (ns : List ServerNode) (i : ℕ) (old new : ServerNode) → slice_get ns i ≡ Some old → left_server log new < left_server log old
    → left_servers log (slice_set ns i new) < left_servers log ns
servers_less log [] i old new there less = absurd (none-some old there)
servers_less log (n ∷ ns) zero old new there less = omega (arith, less, ap (left_server log) (same_Some n old there))
servers_less log (n ∷ ns) (suc i) old new there less = omega (arith, servers_less log ns i old new there less)

-- ---- a replica's call at its server

-- the replica that made a call
record HasCalled (call : Consumer → Consumer → Result (Unit {0}) ReplicaRefused → Type 0) (old new : Segments) (p : Partition) (q : Sequence) : Type 0 where
  replica : Consumer
  next : Consumer
  answer : Unit {0}
  found : replica_of old p q ≡ Some replica
  called : call replica next (Ok answer)
  put : new ≡ put_back old p q (Replica next)

abbrev came : Result (Unit {0}) ServerRefused
came = Ok tt

not_came : (e : ServerRefused) → came ≡ Err e → ⊥
not_came e is = cc

called_by : (quiet : Type 0) (call : Consumer → Consumer → Result (Unit {0}) ReplicaRefused → Type 0) (old new : Segments) (p : Partition) (q : Sequence)
    (o : Option Consumer) → replica_of old p q ≡ o → ThroughAt o quiet call old new p q came → HasCalled call old new p q
called_by quiet call old new p q None found (still, told, same) = absurd (not_came _ told)
called_by quiet call old new p q (Some r) found (next, answer, does, told, put) = by_answer answer does told
  where
    by_answer : (a : Result (Unit {0}) ReplicaRefused) → call r next a → came ≡ answered_as a → HasCalled call old new p q
    by_answer (Ok u) does told = record { replica = r; next = next; answer = u; found = found; called = does; put = put }
    by_answer (Err e) does told = absurd (not_came _ told)

-- one that consumed takes messages
asked_takes_at : (stage : Stage) (x : Offset) (max count : ℕ) → asked_at stage x max ≡ Some count → takes_in (state_at stage) ≡ true
asked_takes_at InitialConsuming x max count e = refl
asked_takes_at (CatchingUp target reason) x max count e = refl
asked_takes_at (ConsumingToOnline end done) x max count e = refl
asked_takes_at (Holding reason) x max count e = absurd (none-some count e)
asked_takes_at (Retaining done) x max count e = absurd (none-some count e)
asked_takes_at (Building reason) x max count e = absurd (none-some count e)
asked_takes_at (Starting reason built) x max count e = absurd (none-some count e)
asked_takes_at (Uploading reason built) x max count e = absurd (none-some count e)
asked_takes_at (Ending reason built path) x max count e = absurd (none-some count e)

asked_takes : (ph : Phase) (max count : ℕ) → asked_in ph max ≡ Some count → takes_in (state_of ph) ≡ true
asked_takes (phase.Unsealed o) max count e = asked_takes_at o.stage o.rows.end max count e
asked_takes (phase.Retained kept) max count e = absurd (none-some count e)
asked_takes (phase.Committed kept) max count e = absurd (none-some count e)
asked_takes (phase.Discarded d) max count e = absurd (none-some count e)

consumed_takes : (r new : Consumer) (max : ℕ) (now : Moment) (log : Log) → consumed r max now log ≡ Some new → takes_in (state_of r.phase) ≡ true
consumed_takes r new max now log e = by_count (asked_in r.phase max) refl e
  where
    by_count : (o : Option ℕ) → asked_in r.phase max ≡ o → option_map (λ count. taken r now (messages_from log r.partition (cur r) count)) o ≡ Some new
        → takes_in (state_of r.phase) ≡ true
    by_count None is h = absurd (none-some new h)
    by_count (Some count) is h = asked_takes r.phase max count is

-- ---- events

abbrev some_entry : Entry → Option Entry
some_entry e = Some e

-- a replica's entry was put back, which isn't told of a commit where it wasn't to be before
pub record IsPut (w y : State) (i : ℕ) (n new : ServerNode) (p : Partition) (q : Sequence) (r next : Consumer) : Type 0 where
  pub there : slice_get w.servers i ≡ Some n
  pub found : replica_of n.server.table p q ≡ Some r
  pub table : new.server.table ≡ put_back n.server.table p q (Replica next)
  pub instance : new.server.numbers.instance ≡ n.server.numbers.instance
  pub up : new.up ≡ n.up
  pub servers : y.servers ≡ slice_set w.servers i new
  pub log : y.log ≡ w.log
  pub shut : is_open (state_of r.phase) ≡ false → is_open (state_of next.phase) ≡ false

-- less is left in a world; all servers stay up, and each replica that is sent to a target still can come to it; where all servers were
-- calm, they are
pub record LeavesLess (w y : State) : Type 0 where
  pub setup : y.setup ≡ w.setup
  pub controllers : y.controllers ≡ w.controllers
  pub store : y.store ≡ w.store
  pub log : y.log ≡ w.log
  pub less : left_in_world y < left_in_world w
  pub follow : CanAllFollow w → CanAllFollow y
  pub up : AreUp w → AreUp y
  pub calm : AreAllCalm w → AreAllCalm y

-- what another look-up finds when an entry is put: what it found, or the new one in place of the old one
pub lookup_put : (f g : Segment → Bool) (es : List (Segment × Entry)) (old new : Entry) → lookup f es ≡ Some old
    → (lookup g (set_value f es new) ≡ lookup g es) ⊎ ((lookup g (set_value f es new) ≡ Some new) × (lookup g es ≡ Some old))
lookup_put f g [] old new found = absurd (none-some old found)
lookup_put f g (e ∷ es) old new found = by_test (f e.0) found (lookup_put f g es old new)
  where
    Finds : Option Entry → Option Entry → Type 0
    Finds now before = (now ≡ before) ⊎ ((now ≡ Some new) × (before ≡ Some old))

    here_by : (c : Bool) → some_entry e.1 ≡ Some old → Finds (cond c (Some new) (lookup g es)) (cond c (Some e.1) (lookup g es))
    here_by true is = inr (refl, is)
    here_by false is = inl refl

    there_by : (c : Bool) → Finds (lookup g (set_value f es new)) (lookup g es)
        → Finds (cond c (Some e.1) (lookup g (set_value f es new))) (cond c (Some e.1) (lookup g es))
    there_by true further = inl refl
    there_by false further = further

    by_test : (b : Bool) → cond b (Some e.1) (lookup f es) ≡ Some old → (lookup f es ≡ Some old → Finds (lookup g (set_value f es new)) (lookup g es))
        → Finds (lookup g (cond b ((e.0, new) ∷ es) (e ∷ set_value f es new))) (lookup g (e ∷ es))
    by_test true is further = here_by (g e.0) is
    by_test false is further = there_by (g e.0) (further is)

-- where no transition of a segment was due, none is when its replica went on
due_kept : (o : Option Mode) (r next : Consumer) → (is_open (state_of r.phase) ≡ false → is_open (state_of next.phase) ≡ false)
    → is_due o (some_entry (Replica r)) ≡ false → is_due o (some_entry (Replica next)) ≡ false
due_kept None r next shut none = absurd (true≢false none)
due_kept (Some Consuming) r next shut none = refl
due_kept (Some Online) r next shut none = shut none
due_kept (Some Offline) r next shut none = absurd (true≢false none)

module _ (w y : State) (i : ℕ) (n new : ServerNode) (p : Partition) (q : Sequence) (r next : Consumer) (k : IsPut w y i n new p q r next) where
  abbrev t : Segments
  t = n.server.table

  there_entry : entry_of t p q ≡ Some (Replica r)
  there_entry = replica_found (entry_of t p q) r k.found

  put_less : left_of w.log next < left_of w.log r → left_in_world y < left_in_world w
  put_less less =
      let table : left_server w.log new < left_server w.log n =
      subst (λ (u : Segments). left_entries w.log u.entries < left_server w.log n) (sym k.table) (table_less w.log t p q r next k.found less) in
      subst (λ (l : Log). left_servers l y.servers < left_in_world w) (sym k.log)
      (subst (λ (ns : List ServerNode). left_servers w.log ns < left_in_world w) (sym k.servers)
      (servers_less w.log w.servers i n new k.there table))

  -- another server, or this one with its table put back
  put_cases : (j : ℕ) (m : ServerNode) → slice_get y.servers j ≡ Some m → ((j ≡ i) × (m ≡ new)) ⊎ (slice_get w.servers j ≡ Some m)
  put_cases j m at = got_of_set w.servers i j new m (ap (λ (ns : List ServerNode). slice_get ns j) (sym k.servers) ∙ at)

  put_follow : CanFollow w.log next → CanAllFollow w → CanAllFollow y
  put_follow follow all j m at x has = subst (λ (l : Log). CanFollowEntry l x.1) (sym k.log) (by_place (put_cases j m at))
    where
      by_place : ((j ≡ i) × (m ≡ new)) ⊎ (slice_get w.servers j ≡ Some m) → CanFollowEntry w.log x.1
      by_place (inl (here, is)) =
          put_each (λ s e. CanFollowEntry w.log e) t.entries p q (Replica next) (all i n k.there) follow x
          (subst (λ (u : Segments). Has u.entries x) k.table (subst (λ (z : ServerNode). Has z.server.table.entries x) is has))
      by_place (inr old) = all j m old x has

  pub put_up : AreUp w → AreUp y
  put_up up j m at = by_place (put_cases j m at)
    where
      by_place : ((j ≡ i) × (m ≡ new)) ⊎ (slice_get w.servers j ≡ Some m) → m.up ≡ true
      by_place (inl (here, is)) = ap (λ (z : ServerNode). z.up) is ∙ k.up ∙ up i n k.there
      by_place (inr old) = up j m old

  calm_new : IsCalm w.store.writes n → IsCalm w.store.writes new
  calm_new c =
      record {
        seen =
            ap (λ (u : Segments). u.targets) k.table ∙ c.seen
            ∙ ap (λ (z : Instance). targets_of z (entries_of w.store.writes)) (sym k.instance);
        moved = λ o s. subst (λ (u : Segments). transit_due u o s ≡ false) (sym k.table) (by_due o s (found o s));
        loaded = λ o s. subst (λ (u : Segments). wants_at (entry_of u o s) ≡ false) (sym k.table) (by_wants o s (found o s));
      }
    where
      now : Segments
      now = put_back t p q (Replica next)

      Found : Partition → Sequence → Type 0
      Found o s = (entry_of now o s ≡ entry_of t o s) ⊎ ((entry_of now o s ≡ Some (Replica next)) × (entry_of t o s ≡ Some (Replica r)))

      found : (o : Partition) (s : Sequence) → Found o s
      found o s = lookup_put (is_segment p q) (is_segment o s) t.entries (Replica r) (Replica next) there_entry

      by_due : (o : Partition) (s : Sequence) → Found o s → transit_due now o s ≡ false
      by_due o s (inl same) = ap (is_due (target_of t o s)) same ∙ c.moved o s
      by_due o s (inr (is, was)) =
          ap (is_due (target_of t o s)) is
          ∙ due_kept (target_of t o s) r next k.shut (ap (is_due (target_of t o s)) (sym was) ∙ c.moved o s)

      by_wants : (o : Partition) (s : Sequence) → Found o s → wants_at (entry_of now o s) ≡ false
      by_wants o s (inl same) = ap wants_at same ∙ c.loaded o s
      by_wants o s (inr (is, was)) = ap wants_at is

  pub put_calm : y.store ≡ w.store → AreAllCalm w → AreAllCalm y
  put_calm same all j m at = subst (λ (u : Told). IsCalm u.writes m) (sym same) (by_place (put_cases j m at))
    where
      by_place : ((j ≡ i) × (m ≡ new)) ⊎ (slice_get w.servers j ≡ Some m) → IsCalm w.store.writes m
      by_place (inl (here, is)) = subst (IsCalm w.store.writes) (sym is) (calm_new (all i n k.there))
      by_place (inr old) = all j m old

  put_leaves : left_of w.log next < left_of w.log r → CanFollow w.log next → y.setup ≡ w.setup → y.controllers ≡ w.controllers → y.store ≡ w.store
      → LeavesLess w y
  put_leaves less follow setup controllers store =
      record {
        setup = setup;
        controllers = controllers;
        store = store;
        log = k.log;
        less = put_less less;
        follow = put_follow follow;
        up = put_up;
        calm = put_calm store;
      }

-- a replica that took a step of its own at its server, and could follow its target
pub record HasMade (call : Consumer → Consumer → Type 0) (w y : State) (i : Instance) (p : Partition) (q : Sequence) : Type 0 where
  pub node : ServerNode
  pub new : ServerNode
  pub replica : Consumer
  pub next : Consumer
  pub there : slice_get w.servers i.0 ≡ Some node
  pub found : replica_of node.server.table p q ≡ Some replica
  pub table : new.server.table ≡ put_back node.server.table p q (Replica next)
  pub numbers : new.server.numbers ≡ node.server.numbers
  pub up : new.up ≡ node.up
  pub servers : y.servers ≡ slice_set w.servers i.0 new
  pub log : y.log ≡ w.log
  pub setup : y.setup ≡ w.setup
  pub controllers : y.controllers ≡ w.controllers
  pub store : y.store ≡ w.store
  pub is : IsConsumer replica
  pub follows : CanFollow w.log replica
  pub made : call replica next

module _ (w y : State) (i : Instance) (p : Partition) (q : Sequence) (o : Outcome) (s : IsSafeWorld w) (all : CanAllFollow w) where
  -- the replica is one of the segment's partition, and can follow
  own_partition : (n : ServerNode) (r : Consumer) → slice_get w.servers i.0 ≡ Some n → replica_of n.server.table p q ≡ Some r → r.partition ≡ p
  own_partition n r there found =
      ap (λ (x : Segment). x.0) (replica_held w.setup (past_of w) n.server (s.safe.servers i.0 n there).over p q r found).0

  own_follows : (n : ServerNode) (r : Consumer) → slice_get w.servers i.0 ≡ Some n → replica_of n.server.table p q ≡ Some r → CanFollow w.log r
  own_follows n r there found =
      found_each (λ s e. CanFollowEntry w.log e) n.server.table.entries p q (Replica r) (all i.0 n there)
      (replica_found (entry_of n.server.table p q) r found)

  -- it consumes, and has less left
  pub consumes_made : (max : ℕ) → 0 < max → is_ready_at w i p q ≡ true → Steps w (event.Consume i p q max) y (Ok o)
      → HasMade (λ r next. (consumed r max w.moment w.log ≡ Some next) × (left_of w.log next < left_of w.log r)) w y i p q
  consumes_made max some ready (cost, due, h) = by_node (slice_get w.servers i.0) refl h
    where
      by_node : (node : Option ServerNode) → slice_get w.servers i.0 ≡ node → ServerFetchesAt node w i (NodeConsumes p q max w.moment) cost (y, o)
          → HasMade (λ r next. (consumed r max w.moment w.log ≡ Some next) × (left_of w.log next < left_of w.log r)) w y i p q
      by_node None there h = absurd h
      by_node (Some n) there (new, log, step, is) =
          let same : log ≡ w.log = takes_looks w.log log n.server.table new.server.table p q max w.moment (Ok tt) step.0 in
          let c = called_by (log_meaning log ≡ log_meaning w.log) (λ r next answer. Consumes (log_meaning w.log) (log_meaning log) r next max w.moment answer)
          n.server.table new.server.table p q (replica_of n.server.table p q) refl step.0 in
          let r = c.replica in
          let own = own_partition n r there c.found in
          let over = replica_held w.setup (past_of w) n.server (s.safe.servers i.0 n there).over p q r c.found in
          let takes : consumed r max w.moment w.log ≡ Some c.next = subst (λ (l : Log). consumed r max w.moment l ≡ Some c.next) same c.called.1 in
          let found : replica_at w i p q ≡ Some r = ap (λ (x : Option ServerNode). replica_in x p q) there ∙ c.found in
          let ready_now : is_ready r (end_of (messages_of w.log r.partition)) w.moment ≡ true =
          ap (λ (x : Partition). is_ready r (end_of (messages_of w.log x)) w.moment) own
          ∙ ap (is_ready_by w p) (sym found)
          ∙ (and_parts (nat_lt p.0 w.setup.partitions) (is_ready_by w p (replica_at w i p q)) ready).1 in
          let follows = own_follows n r there c.found in
          record {
            node = n;
            new = new;
            replica = r;
            next = c.next;
            there = there;
            found = c.found;
            table = c.put;
            numbers = step.1.1;
            up = step.2;
            servers = ap (λ (x : State). x.servers) is;
            log = ap (λ (x : State). x.log) is ∙ same;
            setup = ap (λ (x : State). x.setup) is;
            controllers = ap (λ (x : State). x.controllers) is;
            store = ap (λ (x : State). x.store) is;
            is = over.1;
            follows = follows;
            made = (
              takes,
              batch_less r c.next w.log w.moment max some over.1 over.2.held (consumed_takes r c.next max w.moment w.log takes) ready_now follows takes,
            );
          }

  pub consumes_less : (max : ℕ) → 0 < max → is_ready_at w i p q ≡ true → Steps w (event.Consume i p q max) y (Ok o) → LeavesLess w y
  consumes_less max some ready steps =
      let m = consumes_made max some ready steps in
      put_leaves w y i.0 m.node m.new p q m.replica m.next
      (record {
        there = m.there;
        found = m.found;
        table = m.table;
        instance = ap (λ (z : Numbered). z.instance) m.numbers;
        up = m.up;
        servers = m.servers;
        log = m.log;
        shut = batch_shut m.replica m.next w.log w.moment max m.made.0;
      }) m.made.1 (batch_follows m.replica m.next w.log w.moment max m.follows m.made.0) m.setup m.controllers m.store

  -- it builds
  pub builds_made : Steps w (event.Build i p q) y (Ok o) → HasMade (λ r next. Builds r next (Ok tt)) w y i p q
  builds_made (cost, due, h) = by_node (slice_get w.servers i.0) refl h
    where
      by_node : (node : Option ServerNode) → slice_get w.servers i.0 ≡ node → ServerDoesAt node w i (NodeBuilds p q) cost (y, o)
          → HasMade (λ r next. Builds r next (Ok tt)) w y i p q
      by_node None there h = absurd h
      by_node (Some n) there (new, step, is) =
          let c = called_by (Unit {0}) (λ r next answer. Builds r next answer) n.server.table new.server.table p q (replica_of n.server.table p q) refl step.0 in
          record {
            node = n;
            new = new;
            replica = c.replica;
            next = c.next;
            there = there;
            found = c.found;
            table = c.put;
            numbers = step.1.1;
            up = step.2;
            servers = ap (λ (x : State). x.servers) is;
            log = ap (λ (x : State). x.log) is;
            setup = ap (λ (x : State). x.setup) is;
            controllers = ap (λ (x : State). x.controllers) is;
            store = ap (λ (x : State). x.store) is;
            is = (replica_held w.setup (past_of w) n.server (s.safe.servers i.0 n there).over p q c.replica c.found).1;
            follows = own_follows n c.replica there c.found;
            made = c.called;
          }

  pub builds_less : Steps w (event.Build i p q) y (Ok o) → LeavesLess w y
  builds_less steps =
      let m = builds_made steps in
      put_leaves w y i.0 m.node m.new p q m.replica m.next
      (record {
        there = m.there;
        found = m.found;
        table = m.table;
        instance = ap (λ (z : Numbered). z.instance) m.numbers;
        up = m.up;
        servers = m.servers;
        log = m.log;
        shut = build_shut m.replica m.next m.made;
      }) (build_less m.replica m.next w.log m.made) (build_follows m.replica m.next w.log m.made) m.setup m.controllers m.store
