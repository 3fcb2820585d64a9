-- Each turn counts once, what a request uploads is counted with it, and the entries that are written with their write.
use Rattle.std.proofs.Common.{◌≡◌, ◌⊎◌, inl, inr, ℕ, zero, suc, ◌+◌, ◌*◌, Bool, true, false, cond, List, [], ◌∷◌, ◌++◌, length, Option, Some, None, Ok, refl, sym, ◌∙◌, ap, subst, slice_get, nat_lt, arith, length-append}
use Rattle.std.proofs.lemmas.Bool.{lt-ltb, ltb-true, true≢false}
use Rattle.std.proofs.lemmas.List.FromFn.{length-map-range_with_len}
use Rattle.rt_base.specs.declared.numbers.ControllerId.{ControllerId}
use Rattle.rt_base.specs.declared.numbers.Instance.{Instance}
use Rattle.rt_base.specs.declared.numbers.Partition.{Partition}
use Rattle.rt_model.specs.Lawful.{bump}
use Rattle.rt_model.specs.declared.node.Seen.{Seen}
use Rattle.rt_model.specs.declared.sent.Sent.{Sent}
use Rattle.rt_safety.proofs.Setting.{Sets}
use Rattle.rt_safety.specs.Counted.{entries_in, entries_of, IsCounted, upload_of, uploads_in}
use Rattle.rt_state.specs.Room.{with_set}
use Rattle.rt_state.specs.declared.cost.Cost.{Cost}
use Rattle.rt_state.specs.declared.counts.Counts.{Counts}
use Rattle.rt_assign.specs.Placement.{replica_of, replicas_of}
use Rattle.rt_commit.proofs.Counting.{consuming_counted}
use Rattle.rt_commit.specs.Told.{store_after}
use Rattle.rt_controller.proofs.Telling.{told_request, told_work}
use Rattle.rt_controller.specs.Answers.{Handling}
use Rattle.rt_controller.specs.Controller.{Controlling}
use Rattle.rt_controller.specs.Requests.{call_of, has_machine, has_none, not_assigned, not_leading, past_last, turn_of, uploads}
use Rattle.rt_controller.specs.Requests.{Turn as Rule}
use Rattle.rt_controller.specs.Working.{sets_next, work_call, Working}
use Rattle.rt_controller.specs.declared.handled.Handled.{Handled}
use Rattle.rt_controller.specs.declared.handled.Handled.TheVariants as handled
use Rattle.rt_deep.specs.Meaning.{Told as ToldDeep}
use Rattle.rt_events.specs.declared.event.Event.{Event}
use Rattle.rt_events.specs.declared.event.Event.TheVariants as event
use Rattle.rt_events.specs.declared.outcome.Outcome.{Outcome}
use Rattle.rt_model.specs.Starting.{Starting, starting_boot, starting_boots, starting_contents, starting_entries, starting_ideal, starting_meta, starting_metas}
use Rattle.rt_model.specs.declared.job_step.JobStep.{JobStep}
use Rattle.rt_model.specs.declared.reply.Reply.{Reply}
use Rattle.rt_model.specs.declared.request.Request.{Request}
use Rattle.rt_model.specs.declared.sent.Sent.TheVariants as sent
use Rattle.rt_model.specs.declared.setup.Setup.{Setup}
use Rattle.rt_nodes.specs.declared.controller_node.ControllerNode.{ControllerNode}
use Rattle.rt_nodes.specs.declared.upkeep.Upkeep.{Upkeep}
use Rattle.rt_repair.proofs.Telling.{told_repair, told_retire}
use Rattle.rt_repair.specs.RepairSteps as of_repair
use Rattle.rt_repair.specs.Repairing as repairs
use Rattle.rt_repair.specs.Repairing.{Repairing}
use Rattle.rt_repair.specs.RetireSteps as of_retire
use Rattle.rt_repair.specs.Retirement as retirements
use Rattle.rt_repair.specs.Retirement.{Retirement}
use Rattle.rt_repair.specs.Told.{repair_at, retire_at}
use Rattle.rt_safety.proofs.Setting.{count_of, job_sets, leaves_sets, repair_sets, retire_sets}
use Rattle.rt_safety.proofs.Spares.{Spares, spares}
use Rattle.rt_safety.proofs.Ways.{cost_is, is_free, IsFree, Leaving, leaving}
use Rattle.rt_safety.specs.Counted.{bytes_of}
use Rattle.rt_safety.specs.Runs.{happens, Leads, passes, Runs, Turn, TurnsTo}
use Rattle.rt_state.proofs.Possible.{priced_room}
use Rattle.rt_state.specs.Applying.{Next}
use Rattle.rt_state.specs.Finding.{request_at}
use Rattle.rt_state.specs.Jobs.{JobSteps, JobStepsAt, noted_set, sets_in, sets_of_job, stepped_by}
use Rattle.rt_state.specs.Messages.{after_step, Delivers, DeliversAt, handed}
use Rattle.rt_state.specs.Nodes.{ControllerDoes, ControllerDoesAt}
use Rattle.rt_nodes.specs.declared.chore.Chore.{Chore}
use Rattle.rt_nodes.specs.declared.chore.Chore.TheVariants.{Repair, Retire}
use Rattle.rt_state.specs.Repairs.{after_upkeep, begun, Keeps, KeepsAt, retiring, upkeep_at, UpkeepSteps}
use Rattle.rt_state.specs.Room.{no_cost}
use Rattle.rt_state.specs.Start.{entries_at_first, start}
use Rattle.rt_state.specs.declared.state.State.{State}
use Rattle.rt_store.proofs.Told.{read_same}
use Rattle.rt_store.specs.Answers.{Leaves}
use Rattle.rt_store.specs.Contents.{starting_of}
use Rattle.rt_store.specs.Meaning.{Told}
use Rattle.rt_world.proofs.KeepsJobs.{set_counted}
use Rattle.rt_world.specs.Step.{due_at, set_by, set_by_repair, set_by_retirement, way_of}
use Rattle.rt_world.specs.Way.{Goes, Way}
use Rattle.rt_world.specs.Way as way

-- ---- one more

uploads_more : (ms : List Sent) (m : Sent) → uploads_in (ms ++ m ∷ []) ≡ uploads_in ms + upload_of m
uploads_more [] m = omega arith
uploads_more (n ∷ ms) m = omega (arith, uploads_more ms m)

entries_more : (vs : List Seen) (v : Seen) → entries_in (vs ++ v ∷ []) ≡ entries_in vs + entries_of v.node
entries_more [] v = omega arith
entries_more (w ∷ vs) v = omega (arith, entries_more vs v)

-- what was set is counted where the history has grown
set_adds : (k : Counts) (cost : Cost) (h now : List Seen) → Sets cost.stored h now
    → (with_set k cost (length h) (length now)).stored + entries_in h ≡ k.stored + entries_in now
set_adds k cost h now (inl same) = subst (λ (vs : List Seen). (with_set k cost (length h) (length vs)).stored + entries_in h ≡ k.stored + entries_in vs) (sym same) (by_test (nat_lt (length h) (length h)) refl)
  where
    by_test : (b : Bool) → nat_lt (length h) (length h) ≡ b → (cond b (record k { stored = k.stored + cost.stored }) k).stored + entries_in h ≡ k.stored + entries_in h
    by_test true e = absurd (omega (arith, ltb-true (length h) (length h) e))
    by_test false e = refl
set_adds k cost h now (inr (v, more, entries)) =
    subst (λ (vs : List Seen). (with_set k cost (length h) (length vs)).stored + entries_in h ≡ k.stored + entries_in vs) (sym more) (by_test (nat_lt (length h) (length (h ++ v ∷ []))) refl)
  where
    by_test : (b : Bool) → nat_lt (length h) (length (h ++ v ∷ [])) ≡ b
        → (cond b (record k { stored = k.stored + cost.stored }) k).stored + entries_in h ≡ k.stored + entries_in (h ++ v ∷ [])
    by_test true e = omega (arith, entries_more h v, entries)
    by_test false e = absurd (true≢false (sym (lt-ltb (length h) (length (h ++ v ∷ [])) (omega (arith, length-append h (v ∷ [])))) ∙ e))

-- ---- one turn

-- it counts, and what is uploaded and written is counted with it
record Counting (w new : State) : Type 0 where
  events : new.counts.events ≡ w.counts.events + 1
  uploads : new.counts.uploads + uploads_in w.sent ≡ w.counts.uploads + uploads_in new.sent
  stored : new.counts.stored + entries_in w.store.writes ≡ w.counts.stored + entries_in new.store.writes

-- no entries are written
none_set : (h now : List Seen) → Sets 0 h now → entries_in now ≡ entries_in h
none_set h now (inl same) = ap entries_in same
none_set h now (inr (v, more, entries)) = ap entries_in more ∙ omega (arith, entries_more h v, entries)

spares_count : (w : State) (cost : Cost) (new : State) → Spares w cost new → Counting w new
spares_count w cost new k = record { events = k.counts.events; uploads = by_sent k.sent; stored = by_written k.written }
  where
    by_sent : ((new.sent ≡ w.sent) × (cost.uploads ≡ 0)) ⊎ ((q : Request) × (new.sent ≡ w.sent ++ sent.Request q ∷ []) × (bytes_of q.kind ≡ cost.uploads))
        → new.counts.uploads + uploads_in w.sent ≡ w.counts.uploads + uploads_in new.sent
    by_sent (inl (same, free)) = omega (arith, k.counts.uploads, free, ap uploads_in same)
    by_sent (inr (q, more, bytes)) = omega (arith, k.counts.uploads, bytes, ap uploads_in more, uploads_more w.sent (sent.Request q))

    by_written : (new.store.writes ≡ w.store.writes) ⊎ ((j : Instance) × Leaves (bump j) w.store.writes new.store.writes)
        → new.counts.stored + entries_in w.store.writes ≡ w.counts.stored + entries_in new.store.writes
    by_written (inl same) = omega (arith, k.counts.stored, ap entries_in same)
    by_written (inr (j, leaves)) =
        omega (arith, k.counts.stored, none_set w.store.writes new.store.writes (leaves_sets 0 (bump j) w.store.writes new.store.writes refl leaves))

-- ---- controllers

module _ (w : State) (c : ControllerId) (cost : Cost) (x : Next) where
  turns_count : (does : ControllerNode → ControllerNode) (told : Outcome) → cost.uploads ≡ 0 → ControllerDoes w c does told cost x → Counting w x.0
  turns_count does told free h = by_node (slice_get w.controllers c.0) h
    where
      by_node : (n : Option ControllerNode) → ControllerDoesAt n w c does told cost x → Counting w x.0
      by_node None h = absurd h
      by_node (Some n) is = subst (λ (y : Next). Counting w y.0) (sym is) (record { events = refl; uploads = omega (arith, free); stored = refl })

  -- a request writes nothing
  rule_same : (r : Request) (rule : Rule) → (store_after w.store (call_of r rule)).writes ≡ w.store.writes
  rule_same r not_leading = refl
  rule_same r (uploads path bytes) = refl
  rule_same r not_assigned = refl
  rule_same r past_last = refl
  rule_same r (has_machine place what) = refl
  rule_same r (has_none what) = read_same w.store

  handed_count : (n : ControllerNode) (new : Controlling) (store : Told) (deep : ToldDeep) (what : Handled) → cost.uploads ≡ 0 → store.writes ≡ w.store.writes
      → Counting w (handed (after_step w c n new store deep) cost what).0
  handed_count n new store deep (handled.Reply r) free same =
      record { events = refl; uploads = omega (arith, free, uploads_more w.sent (sent.Reply r)); stored = omega (arith, ap entries_in same) }
  handed_count n new store deep (handled.Job j) free same =
      record { events = refl; uploads = omega (arith, free); stored = omega (arith, ap entries_in same) }

  handles_count : (m : ℕ) → cost.uploads ≡ 0 → Delivers w m c cost x → Counting w x.0
  handles_count m free h = by_found (request_at w m) (slice_get w.controllers c.0) h
    where
      by_found : (o : Option Request) (n : Option ControllerNode) → DeliversAt o n w c cost x → Counting w x.0
      by_found None n h = absurd h
      by_found (Some q) None h = absurd h
      by_found (Some q) (Some n) (new, what, store, deep, handles, is) =
          let y : Handling = record { controller = new; handled = what } in
          let left = told_request w.store store w.deep deep n.controller q w.moment y handles in
          let same : store.writes ≡ w.store.writes = ap (λ (t : Told). t.writes) left.store ∙ rule_same q (turn_of n.controller q) in
          subst (λ (z : Next). Counting w z.0) (sym is) (handed_count n new store deep what free same)

  stepped_count : (n : ControllerNode) (new : Controlling) (store : Told) (deep : ToldDeep) (step : JobStep) (o : Option Reply) → cost.uploads ≡ 0
      → Sets cost.stored w.store.writes store.writes
      → Counting w (stepped_by (noted_set (after_step w c n new store deep) cost (length w.store.writes)) cost step o).0
  stepped_count n new store deep step None free set =
      let k = set_counted w.counts cost (length w.store.writes) (length store.writes) in
      record { events = omega (arith, k.events); uploads = omega (arith, free, k.uploads); stored = set_adds w.counts cost w.store.writes store.writes set }
  stepped_count n new store deep step (Some r) free set =
      let k = set_counted w.counts cost (length w.store.writes) (length store.writes) in
      record {
        events = omega (arith, k.events);
        uploads = omega (arith, free, k.uploads, uploads_more w.sent (sent.Reply r));
        stored = set_adds w.counts cost w.store.writes store.writes set;
      }

  works_count : (j : ℕ) → cost.uploads ≡ 0 → count_of (sets_of_job w c j) ≡ cost.stored → JobSteps w c j cost x → Counting w x.0
  works_count j free price h = by_node (slice_get w.controllers c.0) refl h
    where
      by_node : (n : Option ControllerNode) → slice_get w.controllers c.0 ≡ n → JobStepsAt n w c j cost x → Counting w x.0
      by_node None at h = absurd h
      by_node (Some n) at (new, step, store, deep, works, is) =
          let y : Working = record { controller = new; step = step } in
          let left = told_work w.store store w.deep deep n.controller j w.moment y works in
          let own : count_of (sets_next n.controller j) ≡ cost.stored = ap (λ o. count_of (sets_in o j)) (sym at) ∙ price in
          subst (λ (z : Next). Counting w z.0) (sym is)
          (stepped_count n new store deep step step.reply free
          (subst (λ (t : Told). Sets cost.stored w.store.writes t.writes) (sym left.store)
          (subst (λ k. Sets k w.store.writes (store_after w.store (work_call n.controller j w.moment)).writes) own (job_sets w.store n.controller j w.moment))))

  upkeep_count : (p : Partition) (n : ControllerNode) (new : Upkeep) (store : Told) → cost.uploads ≡ 0 → Sets cost.stored w.store.writes store.writes
      → Counting w (after_upkeep w c p n new store cost)
  upkeep_count p n new store free set =
      let k = set_counted w.counts cost (length w.store.writes) (length store.writes) in
      record { events = omega (arith, k.events); uploads = omega (arith, free, k.uploads); stored = set_adds w.counts cost w.store.writes store.writes set }

  begun_sets : (p : Partition) (o : Option Repairing) → let r = begun w.setup p o in count_of (repairs.set_at r w.moment r.stage) ≡ count_of (set_by_repair o w.moment)
  begun_sets p None = refl
  begun_sets p (Some r) = refl

  retiring_sets : (p : Partition) (o : Option Retirement)
      → let r = retiring w.setup p o in count_of (retirements.set_at r w.moment r.stage) ≡ count_of (set_by_retirement o w.moment)
  retiring_sets p None = refl
  retiring_sets p (Some r) = refl

  chore_sets : (p : Partition) (chore : Chore) (old new : Upkeep) (store : Told) (outcome : Outcome) → UpkeepSteps chore w.setup p w.moment w.store store old new outcome
      → Sets (count_of (set_by chore (Some old) w.moment)) w.store.writes store.writes
  chore_sets p Repair old new store outcome (did, (after, steps, put), tells) =
      let r = begun w.setup p old.repair in
      let y : of_repair.Stepped = record { repair = after; step = did } in
      let left = told_repair w.store store r w.moment y steps in
      subst (λ (t : Told). Sets (count_of (set_by Repair (Some old) w.moment)) w.store.writes t.writes) (sym left.0)
      (subst (λ k. Sets k w.store.writes (repair_at w.store r w.moment r.stage).told.writes) (begun_sets p old.repair) (repair_sets w.store r w.moment r.stage))
  chore_sets p Retire old new store outcome (did, (after, steps, put), tells) =
      let r = retiring w.setup p old.retirement in
      let y : of_retire.Stepped = record { retire = after; step = did } in
      let left = told_retire w.store store r w.moment y steps in
      subst (λ (t : Told). Sets (count_of (set_by Retire (Some old) w.moment)) w.store.writes t.writes) (sym left.0)
      (subst (λ k. Sets k w.store.writes (retire_at w.store r w.moment r.stage).told.writes) (retiring_sets p old.retirement) (retire_sets w.store r w.moment r.stage))

  chore_count : (p : Partition) (chore : Chore) → cost.uploads ≡ 0 → count_of (set_by chore (upkeep_at w c p) w.moment) ≡ cost.stored → Keeps w c p chore cost x → Counting w x.0
  chore_count p chore free price h = by_found (slice_get w.controllers c.0) (upkeep_at w c p) refl h
    where
      by_found : (o : Option ControllerNode) (u : Option Upkeep) → upkeep_at w c p ≡ u → KeepsAt o u w c p chore cost x → Counting w x.0
      by_found None u at h = absurd h
      by_found (Some n) None at h = absurd h
      by_found (Some n) (Some old) at (new, store, steps, is) =
          let own = ap (λ o. count_of (set_by chore o w.moment)) (sym at) ∙ price in
          subst (Counting w) (sym is)
          (upkeep_count p n new store free (subst (λ k. Sets k w.store.writes store.writes) own (chore_sets p chore old new store x.1 steps)))

-- ---- any way

-- the entries that a controller's step sets are those that it costs
abbrev Prices : State → Cost → Way → Type 0
Prices w cost (way.works c j) = count_of (sets_of_job w c j) ≡ cost.stored
Prices w cost (way.keeps c p chore) = count_of (set_by chore (upkeep_at w c p) w.moment) ≡ cost.stored
Prices w cost other = Unit {0}

prices : (w : State) (e : Event) (cost : Cost) → due_at w e ≡ Ok cost → Prices w cost (way_of w e)
prices w (event.Job c j) cost due = ap (λ (k : Cost). k.stored) (cost_is w (event.Job c j) cost due)
prices w (event.Repair c p) cost due = ap (λ (k : Cost). k.stored) (cost_is w (event.Repair c p) cost due)
prices w (event.Retain c p) cost due = ap (λ (k : Cost). k.stored) (cost_is w (event.Retain c p) cost due)
prices w e cost due = tt

goes_count : (w : State) (y : Way) (cost : Cost) (x : Next) → IsFree cost y → Prices w cost y → Leaving w cost y → Goes w y cost x → Counting w x.0
goes_count w (way.turns c does told) cost x free price left h = turns_count w c cost x does told free h
goes_count w (way.handles m c) cost x free price left h = handles_count w c cost x m free h
goes_count w (way.works c j) cost x free price left h = works_count w c cost x j free price h
goes_count w (way.keeps c p chore) cost x free price left h = chore_count w c cost x p chore free price h
goes_count w y cost x free price left h = spares_count w cost x.0 (spares w cost x y tt free left h)

turn_counts : (w : State) (turn : Turn) (new : State) → TurnsTo w turn new → Counting w new
turn_counts w (happens e o) new (fits, (cost, due, h)) = goes_count w (way_of w e) cost (new, o) (is_free w e cost due) (prices w e cost due) (leaving w e cost due) h
turn_counts w passes new (cost, due, is) =
    let free = ap (λ (k : Cost). k.uploads) (sym (priced_room w no_cost cost due).0) in
    subst (Counting w) (sym is) (record { events = refl; uploads = omega (arith, free); stored = refl })

-- ---- a run

record Counted (w : State) (turns : List Turn) (new : State) : Type 0 where
  events : new.counts.events ≡ w.counts.events + length turns
  uploads : new.counts.uploads + uploads_in w.sent ≡ w.counts.uploads + uploads_in new.sent
  stored : new.counts.stored + entries_in w.store.writes ≡ w.counts.stored + entries_in new.store.writes

leads_count : (from : State) (turns : List Turn) (to : State) → Leads from turns to → Counted from turns to
leads_count from [] to e = subst (Counted from []) (sym e) (record { events = omega arith; uploads = refl; stored = refl })
leads_count from (turn ∷ turns) to (next, t, rest) =
    let one = turn_counts from turn next t in
    let more = leads_count next turns to rest in
    record {
      events = omega (arith, one.events, more.events);
      uploads = omega (arith, one.uploads, more.uploads);
      stored = omega (arith, one.stored, more.stored);
    }

-- ---- the first world

boots_entries : (n : ℕ) → entries_in (starting_boots n) ≡ 0
boots_entries zero = refl
boots_entries (suc i) = omega (arith, entries_more (starting_boots i) (starting_boot i), boots_entries i)

metas_entries : (s : Starting) (n : ℕ) → entries_in (starting_metas s n) ≡ 0
metas_entries s zero = refl
metas_entries s (suc p) = omega (arith, entries_more (starting_metas s p) (starting_meta s p), metas_entries s p)

entries_append : (vs ws : List Seen) → entries_in (vs ++ ws) ≡ entries_in vs + entries_in ws
entries_append [] ws = omega arith
entries_append (v ∷ vs) ws = omega (arith, entries_append vs ws)

-- each partition has its replicas
first_entries : (setup : Setup) (n : ℕ) → length (starting_entries (starting_of setup) n) ≡ n * setup.table.replication
first_entries setup zero = omega arith
first_entries setup (suc p) =
    let place : Partition = record { 0 = p } in
    let is = replicas_of place setup.table.replication setup.servers in
    let many : length is ≡ setup.table.replication = length-map-range_with_len (replica_of place setup.table.replication setup.servers) 0 setup.table.replication in
    omega (arith, consuming_counted (starting_entries (starting_of setup) p) place (record { 0 = 0 }) is, many, first_entries setup p)

start_entries : (setup : Setup) → entries_in (starting_contents (starting_of setup)) ≡ entries_at_first setup
start_entries setup =
    let s = starting_of setup in
    omega (
      arith,
      entries_append (starting_boots s.servers ++ starting_metas s s.partitions) (starting_ideal s ∷ []),
      entries_append (starting_boots s.servers) (starting_metas s s.partitions),
      boots_entries s.servers,
      metas_entries s s.partitions,
      first_entries setup setup.partitions,
    )

pub runs_count : (setup : Setup) (turns : List Turn) (w : State) → Runs setup turns w → IsCounted w turns
runs_count setup turns w r =
    let k = leads_count (start setup) turns w r in
    record {
      events = omega (arith, k.events);
      uploads = omega (arith, k.uploads);
      stored = omega (arith, k.stored, start_entries setup);
    }
