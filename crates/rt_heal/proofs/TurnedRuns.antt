-- What each turn of a run writes, and that in each of its worlds committed segments are turned.
use Rattle.std.proofs.Common.{◌≡◌, ℕ, ◌<◌, ◌⊎◌, inl, inr, List, [], ◌∷◌, Option, Some, None, refl, sym, ◌∙◌, ap, subst, slice_get, length}
use Rattle.std.specs.Prelude.{IfSome}
use Rattle.rt_base.specs.declared.numbers.ControllerId.{ControllerId}
use Rattle.rt_base.specs.declared.numbers.Instance.{Instance}
use Rattle.rt_base.specs.declared.numbers.Partition.{Partition}
use Rattle.rt_commit.specs.Calls.{Call, calls_nothing, puts, gets, reads, sets, creates}
use Rattle.rt_commit.specs.Lasting.{IsJobOver}
use Rattle.rt_commit.specs.Told.{store_after}
use Rattle.rt_commit.specs.declared.job.Job.{Job}
use Rattle.rt_controller.specs.Answers.{Handling}
use Rattle.rt_controller.specs.Controller.{Controlling}
use Rattle.rt_controller.specs.Lasting.{IsControllerOver}
use Rattle.rt_controller.specs.Requests.{Turn as Rule, not_leading, uploads, not_assigned, past_last, has_machine, has_none, call_of, handle_call, turn_of}
use Rattle.rt_controller.specs.Working.{Working, job_place, work_call, work_call_at, work_call_on}
use Rattle.rt_controller.specs.declared.handled.Handled.{Handled}
use Rattle.rt_controller.specs.declared.handled.Handled.TheVariants as handled
use Rattle.rt_controller.proofs.Telling.{told_request, told_work}
use Rattle.rt_events.specs.declared.outcome.Outcome.{Outcome}
use Rattle.rt_lists.proofs.Lists.{All-found}
use Rattle.rt_model.specs.Lawful.{bump, set, create_after, Write, IsLawfulHistory}
use Rattle.rt_model.specs.Setup.{IsSetup}
use Rattle.rt_model.specs.declared.job_step.JobStep.{JobStep}
use Rattle.rt_model.specs.declared.node.Seen.{Seen}
use Rattle.rt_model.specs.declared.reply.Reply.{Reply}
use Rattle.rt_model.specs.declared.request.Request.{Request}
use Rattle.rt_model.specs.declared.setup.Setup.{Setup}
use Rattle.rt_model.proofs.Starts.{start_undone}
use Rattle.rt_nodes.specs.Repairs.{begun, retiring, UpkeepSteps}
use Rattle.rt_nodes.specs.declared.chore.Chore.{Chore}
use Rattle.rt_nodes.specs.declared.chore.Chore.TheVariants.{Repair, Retire}
use Rattle.rt_nodes.specs.declared.controller_node.ControllerNode.{ControllerNode}
use Rattle.rt_nodes.specs.declared.upkeep.Upkeep.{Upkeep}
use Rattle.rt_repair.specs.IsRepair.{Remembers}
use Rattle.rt_repair.specs.IsRetire as retires
use Rattle.rt_repair.specs.Lasting.{IsRepairOver, IsRetireOver}
use Rattle.rt_repair.specs.RepairSteps as of_repair
use Rattle.rt_repair.specs.RetireSteps as of_retire
use Rattle.rt_repair.specs.Repairing.{Repairing}
use Rattle.rt_repair.specs.Retirement.{Retirement}
use Rattle.rt_repair.specs.Setting.{repair_write, retire_write, writes_after}
use Rattle.rt_repair.proofs.Setting.{repair_leaves, retire_leaves}
use Rattle.rt_repair.proofs.Telling.{told_repair, told_retire}
use Rattle.rt_safety.proofs.Later.{runs_are_safe}
use Rattle.rt_safety.proofs.Runs.{leads_add, leads_safe}
use Rattle.rt_safety.proofs.Spares.{Spares, spares}
use Rattle.rt_safety.proofs.Ways.{is_free, IsFree, Leaving, leaving}
use Rattle.rt_safety.specs.Runs.{Turn, happens, passes, TurnsTo, Leads, Runs}
use Rattle.rt_state.specs.Applying.{Next}
use Rattle.rt_state.specs.Finding.{request_at}
use Rattle.rt_state.specs.IsSafe.{past_of}
use Rattle.rt_state.specs.IsSafeWorld.{IsSafeWorld}
use Rattle.rt_state.specs.Jobs.{JobSteps, JobStepsAt, noted_set, stepped_by}
use Rattle.rt_state.specs.Messages.{Delivers, DeliversAt, after_step, handed}
use Rattle.rt_state.specs.Nodes.{ControllerDoes, ControllerDoesAt}
use Rattle.rt_state.specs.Repairs.{Keeps, KeepsAt, after_upkeep, upkeep_at}
use Rattle.rt_state.specs.Start.{start}
use Rattle.rt_state.specs.declared.cost.Cost.{Cost}
use Rattle.rt_state.specs.declared.state.State.{State}
use Rattle.rt_store.specs.Answers.{after_call, Leaves}
use Rattle.rt_store.specs.Calls.{told_on}
use Rattle.rt_store.specs.Contents.{starting_of}
use Rattle.rt_store.specs.Meaning.{Told}
use Rattle.rt_store.proofs.Told.{leaves_on, read_same}
use Rattle.rt_world.proofs.KeepsRepairs.{upkeep_there}
use Rattle.rt_world.specs.Step.{way_of}
use Rattle.rt_world.specs.Way.{Goes, Way}
use Rattle.rt_world.specs.Way as way
use Rattle.rt_heal.specs.Turned.{IsTurned}
use Rattle.rt_heal.proofs.Turning.{leaves_turned, Turns, TurnsSome, TurnedNow}
use Rattle.rt_heal.proofs.Writers.{CallTurns, repair_turns, retire_turns, stage_turns}

-- ---- a turn writes nothing, or by a call that keeps what the walks say

abbrev pub WroteSo : State → List Seen → Type 0
WroteSo w writes =
    (writes ≡ w.store.writes) ⊎ ((call : Write) × Leaves call w.store.writes writes × Turns (starting_of w.setup) w.store.writes call)

module _ (w : State) where
  left_by : (call : Write) (writes now : List Seen) → writes ≡ now → Leaves call w.store.writes now → Turns (starting_of w.setup) w.store.writes call
      → WroteSo w writes
  left_by call writes now same leaves turns = inr (call, subst (Leaves call w.store.writes) (sym same) leaves, turns)

  write_by : (o : Option Write) (writes : List Seen) → writes ≡ writes_after w.store o → TurnsSome (starting_of w.setup) w.store.writes o → WroteSo w writes
  write_by None writes same turns = inl same
  write_by (Some call) writes same turns = left_by call writes (told_on w.store (after_call call)).writes same (leaves_on w.store call) turns

  call_by : (call : Call) (writes : List Seen) → writes ≡ (store_after w.store call).writes → CallTurns (starting_of w.setup) w.store.writes call → WroteSo w writes
  call_by calls_nothing writes same turns = inl same
  call_by (puts path bytes) writes same turns = inl same
  call_by (gets path) writes same turns = inl same
  call_by (reads k) writes same turns = inl (same ∙ read_same w.store)
  call_by (sets from n) writes same turns = left_by (set from n) writes _ same (leaves_on w.store (set from n)) turns
  call_by (creates k n prior) writes same turns = left_by (create_after k n prior) writes _ same (leaves_on w.store (create_after k n prior)) turns

  spares_by : (cost : Cost) (new : State) → Spares w cost new → WroteSo w new.store.writes
  spares_by cost new left = by_written left.written
    where
      by_written : (new.store.writes ≡ w.store.writes) ⊎ ((j : Instance) × Leaves (bump j) w.store.writes new.store.writes) → WroteSo w new.store.writes
      by_written (inl same) = inl same
      by_written (inr (j, leaves)) = inr (bump j, leaves, tt)

-- ---- controllers

-- what a request calls writes nothing
request_turns : (w : State) (r : Request) (rule : Rule) → CallTurns (starting_of w.setup) w.store.writes (call_of r rule)
request_turns w r not_leading = tt
request_turns w r (uploads path bytes) = tt
request_turns w r not_assigned = tt
request_turns w r past_last = tt
request_turns w r (has_machine place what) = tt
request_turns w r (has_none what) = tt

handed_writes : (w : State) (cost : Cost) (what : Handled) → (handed w cost what).0.store.writes ≡ w.store.writes
handed_writes w cost (handled.Reply r) = refl
handed_writes w cost (handled.Job j) = refl

pub stepped_writes : (w : State) (cost : Cost) (step : JobStep) (o : Option Reply) → (stepped_by w cost step o).0.store.writes ≡ w.store.writes
stepped_writes w cost step None = refl
stepped_writes w cost step (Some r) = refl

job_turns : (w : State) (c : Controlling) → IsSafeWorld w → IsControllerOver w.setup (past_of w) c → (o : Option ℕ)
    → CallTurns (starting_of w.setup) w.store.writes (work_call_on c w.moment o)
job_turns w c s k None = tt
job_turns w c s k (Some place) = by_job (slice_get c.jobs place) refl
  where
    by_job : (o : Option Job) → slice_get c.jobs place ≡ o → CallTurns (starting_of w.setup) w.store.writes (work_call_at c w.moment o)
    by_job None at = tt
    by_job (Some j) at =
        stage_turns (starting_of w.setup) w.store.writes s.safe.past.lawful c.assigned j.asked w.moment j.stage
        (All-found (IsJobOver w.setup (past_of w)) c.jobs place j k.jobs at).job.at

module _ (w : State) (x : Next) (s : IsSafeWorld w) where
  abbrev Wrote : Type 0
  Wrote = WroteSo w x.0.store.writes

  controller_writes : (c : ControllerId) (does : ControllerNode → ControllerNode) (o : Outcome) (cost : Cost) → ControllerDoes w c does o cost x
      → Wrote
  controller_writes c does o cost h = by_node (slice_get w.controllers c.0) h
    where
      by_node : (n : Option ControllerNode) → ControllerDoesAt n w c does o cost x → Wrote
      by_node None h = absurd h
      by_node (Some n) is =
          inl (ap (λ (z : Next). z.0.store.writes) is)

  deliver_writes : (m : ℕ) (c : ControllerId) (cost : Cost) → Delivers w m c cost x → Wrote
  deliver_writes m c cost h = by_found (request_at w m) (slice_get w.controllers c.0) h
    where
      by_found : (o : Option Request) (n : Option ControllerNode) → DeliversAt o n w c cost x → Wrote
      by_found None n h = absurd h
      by_found (Some q) None h = absurd h
      by_found (Some q) (Some n) (new, what, store, deep, handles, is) =
          let y : Handling = record { controller = new; handled = what } in
          let left = told_request w.store store w.deep deep n.controller q w.moment y handles in
          let call = handle_call n.controller q in
          call_by w call x.0.store.writes
          (ap (λ (z : Next). z.0.store.writes) is ∙ handed_writes (after_step w c n new store deep) cost what ∙ ap (λ (t : Told). t.writes) left.store)
          (request_turns w q (turn_of n.controller q))

  job_writes : (c : ControllerId) (j : ℕ) (cost : Cost) → JobSteps w c j cost x → Wrote
  job_writes c j cost h = by_node (slice_get w.controllers c.0) refl h
    where
      by_node : (n : Option ControllerNode) → slice_get w.controllers c.0 ≡ n → JobStepsAt n w c j cost x → Wrote
      by_node None there h = absurd h
      by_node (Some n) there (new, step, store, deep, works, is) =
          let y : Working = record { controller = new; step = step } in
          let left = told_work w.store store w.deep deep n.controller j w.moment y works in
          let z = noted_set (after_step w c n new store deep) cost (length w.store.writes) in
          call_by w (work_call n.controller j w.moment) x.0.store.writes
          (ap (λ (v : Next). v.0.store.writes) is ∙ stepped_writes z cost step step.reply ∙ ap (λ (t : Told). t.writes) left.store)
          (job_turns w n.controller s (s.safe.controllers c.0 n there).over (job_place n.controller.jobs j))

  -- ---- what a controller does for a partition

  repair_remembered : (p : Partition) → p.0 < w.setup.partitions → (o : Option Repairing) → IfSome o (IsRepairOver w.setup (past_of w))
      → ((begun w.setup p o).partition.0 < w.setup.partitions)
      × Remembers (starting_of w.setup) w.store.writes (begun w.setup p o).partition (begun w.setup p o).stage
  repair_remembered p within None k = (within, tt)
  repair_remembered p within (Some r) k = (k.within, k.remembers)

  retire_remembered : (p : Partition) → (o : Option Retirement) → IfSome o (IsRetireOver w.setup (past_of w))
      → retires.Remembers (starting_of w.setup) w.store.writes (retiring w.setup p o).partition (retiring w.setup p o).stage
  retire_remembered p None k = tt
  retire_remembered p (Some r) k = k.remembers

  chore_writes : (c : ControllerId) (p : Partition) (chore : Chore) (cost : Cost) → p.0 < w.setup.partitions → Keeps w c p chore cost x → Wrote
  chore_writes c p chore cost within h = by_found (slice_get w.controllers c.0) refl (upkeep_at w c p) refl h
    where
      by_chore : (n : ControllerNode) (old new : Upkeep) → slice_get w.controllers c.0 ≡ Some n → upkeep_at w c p ≡ Some old → (store : Told) (chore : Chore)
          → UpkeepSteps chore w.setup p w.moment w.store store old new x.1 → x.0 ≡ after_upkeep w c p n new store cost → Wrote
      by_chore n old new there at store Repair (did, (after_it, steps, put), told) is =
          let r = begun w.setup p old.repair in
          let y : of_repair.Stepped = record { repair = after_it; step = did } in
          let left = told_repair w.store store r w.moment y steps in
          let k = repair_remembered p within old.repair (upkeep_there w c p n old s.safe there at).repair in
          write_by w (repair_write r w.moment) x.0.store.writes
          (ap (λ (z : State). z.store.writes) is ∙ ap (λ (t : Told). t.writes) left.0 ∙ repair_leaves w.store r w.moment)
          (repair_turns (starting_of w.setup) w.store.writes r w.moment r.stage s.safe.past.lawful k.0 k.1)
      by_chore n old new there at store Retire (did, (after_it, steps, put), told) is =
          let r = retiring w.setup p old.retirement in
          let y : of_retire.Stepped = record { retire = after_it; step = did } in
          let left = told_retire w.store store r w.moment y steps in
          let k = retire_remembered p old.retirement (upkeep_there w c p n old s.safe there at).retirement in
          write_by w (retire_write r w.moment) x.0.store.writes
          (ap (λ (z : State). z.store.writes) is ∙ ap (λ (t : Told). t.writes) left.0 ∙ retire_leaves w.store r w.moment)
          (retire_turns (starting_of w.setup) w.store.writes r w.moment r.stage k)

      by_found : (o : Option ControllerNode) → slice_get w.controllers c.0 ≡ o → (u : Option Upkeep) → upkeep_at w c p ≡ u → KeepsAt o u w c p chore cost x → Wrote
      by_found None there u at h = absurd h
      by_found (Some n) there None at h = absurd h
      by_found (Some n) there (Some old) at (new, store, steps, is) = by_chore n old new there at store chore steps is

  -- ---- an event

  goes_writes : (y : Way) (cost : Cost) → IsFree cost y → Leaving w cost y → Goes w y cost x → Wrote
  goes_writes (way.turns c does told) cost free left h = controller_writes c does told cost h
  goes_writes (way.handles m c) cost free left h = deliver_writes m c cost h
  goes_writes (way.works c j) cost free left h = job_writes c j cost h
  goes_writes (way.keeps c p chore) cost free left h = chore_writes c p chore cost left.0 h
  goes_writes y cost free left h = spares_by w cost x.0 (spares w cost x y tt free left h)

-- ---- a run

pub turn_writes : (w : State) (turn : Turn) (new : State) → IsSafeWorld w → TurnsTo w turn new → WroteSo w new.store.writes
turn_writes w (happens e o) new s (fits, (cost, due, h)) = goes_writes w (new, o) s (way_of w e) cost (is_free w e cost due) (leaving w e cost due) h
turn_writes w passes new s (cost, due, is) = inl (ap (λ (z : State). z.store.writes) is)

turn_turned : (w : State) (turn : Turn) (new : State) → IsSafeWorld w → IsSafeWorld new → new.setup ≡ w.setup → IsTurned w → TurnsTo w turn new → IsTurned new
turn_turned w turn new s after setup turned t =
    subst (λ (x : Setup). TurnedNow (starting_of x) new.store.writes) (sym setup) (by_writes (turn_writes w turn new s t))
  where
    by_writes : WroteSo w new.store.writes → TurnedNow (starting_of w.setup) new.store.writes
    by_writes (inl same) = subst (TurnedNow (starting_of w.setup)) (sym same) turned
    by_writes (inr (call, leaves, turns)) =
        leaves_turned (starting_of w.setup) w.store.writes s.safe.past.lawful turned new.store.writes call
        (subst (λ (x : Setup). IsLawfulHistory (starting_of x) new.store.writes) setup after.safe.past.lawful) leaves turns

pub leads_turned : (from : State) (turns : List Turn) (to : State) → IsSafeWorld from → IsTurned from → Leads from turns to → IsTurned to
leads_turned from [] to s turned e = subst IsTurned (sym e) turned
leads_turned from (turn ∷ turns) to s turned (next, t, rest) =
    let one : Leads from (turn ∷ []) next = (next, t, refl) in
    let after = leads_safe from (turn ∷ []) next s one in
    leads_turned next turns to after (turn_turned from turn next s after (leads_add from (turn ∷ []) next s one).goes.setup turned t) rest

-- nothing is committed in a fresh cluster
start_turned : (setup : Setup) → IsTurned (start setup)
start_turned setup p q e next (within, (w, has, is, done)) has_e at_p at_q = absurd (start_undone (starting_of setup) w has done)

pub runs_turned : (setup : Setup) (turns : List Turn) (w : State) → IsSetup setup → Runs setup turns w → IsTurned w
runs_turned setup turns w is run = leads_turned (start setup) turns w (runs_are_safe setup [] (start setup) is refl) (start_turned setup) run
