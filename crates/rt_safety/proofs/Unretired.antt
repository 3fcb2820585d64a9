-- Without a retention no turn of a run retires anything.
use Rattle.std.proofs.Common.{◌≡◌, ℕ, zero, suc, ◌⊎◌, inl, inr, Bool, true, false, cond, List, [], ◌∷◌, Option, Some, None, Result, Ok, refl, sym, ◌∙◌, ap, subst, slice_get, length}
use Rattle.std.specs.Prelude.{IsNone, IsSome, slice_set}
use Rattle.std.proofs.lemmas.Option.{none-some, same_Some}
use Rattle.rt_base.specs.declared.numbers.ControllerId.{ControllerId}
use Rattle.rt_base.specs.declared.numbers.Instance.{Instance}
use Rattle.rt_base.specs.declared.numbers.Moment.{Moment}
use Rattle.rt_base.specs.declared.numbers.Offset.{Offset}
use Rattle.rt_base.specs.declared.numbers.Partition.{Partition}
use Rattle.rt_base.specs.declared.numbers.Sequence.{Sequence}
use Rattle.rt_commit.specs.Assignment.{Assigned}
use Rattle.rt_commit.specs.Calls.{Call, calls_nothing, puts, gets, reads, sets, creates}
use Rattle.rt_controller.specs.Answers.{Handling}
use Rattle.rt_controller.specs.Requests.{Turn as Rule, not_leading, uploads, not_assigned, past_last, has_machine, has_none, call_of, handle_call, turn_of}
use Rattle.rt_controller.specs.Working.{Working, job_place, work_call, work_call_at, work_call_on}
use Rattle.rt_controller.specs.Controller.{Controlling}
use Rattle.rt_commit.specs.Job.{call_at}
use Rattle.rt_commit.specs.Told.{store_after}
use Rattle.rt_controller.specs.declared.handled.Handled.{Handled}
use Rattle.rt_controller.specs.declared.handled.Handled.TheVariants as handled
use Rattle.rt_commit.specs.declared.job.Job.{Job}
use Rattle.rt_commit.specs.declared.job.JobStage.{JobStage}
use Rattle.rt_commit.specs.declared.job.JobStage.TheVariants as stage
use Rattle.rt_controller.proofs.Telling.{told_request, told_work}
use Rattle.rt_deep.specs.Meaning.{Told as ToldDeep}
use Rattle.rt_events.specs.declared.event.Event.{Event}
use Rattle.rt_events.specs.declared.outcome.Outcome.{Outcome}
use Rattle.rt_lists.specs.Members.{Has}
use Rattle.rt_lists.proofs.Members.{Has-push_cases}
use Rattle.rt_model.proofs.Starts.{start_there}
use Rattle.rt_model.specs.Entries.{entries_by}
use Rattle.rt_model.specs.Ideal.{goes_on}
use Rattle.rt_model.specs.Lawful.{Write, create, set, delete, create_after, bump, written_by}
use Rattle.rt_model.specs.declared.asked.Asked.{Asked}
use Rattle.rt_model.specs.declared.decision.Decision.{Decision}
use Rattle.rt_model.specs.declared.decision.Decision.TheVariants as decision
use Rattle.rt_model.specs.declared.job_step.JobStep.{JobStep}
use Rattle.rt_model.specs.declared.node.Node.{Node}
use Rattle.rt_model.specs.declared.node.Node.TheVariants as node
use Rattle.rt_model.specs.declared.node.Seen.{Seen}
use Rattle.rt_model.specs.declared.reply.Reply.{Reply}
use Rattle.rt_model.specs.declared.request.Request.{Request}
use Rattle.rt_model.specs.declared.setup.Setup.{Setup}
use Rattle.rt_repair.specs.RepairSteps as of_repair
use Rattle.rt_repair.specs.Repairing.{Repairing, added_entries, abandon_by, abandon_write, create_write, decision_at, ideal_write}
use Rattle.rt_repair.specs.Told.{repair_at, repair_done, repair_set}
use Rattle.rt_repair.specs.declared.read_node.ReadNode.{ReadNode}
use Rattle.rt_repair.specs.declared.repair.RepairStage.{RepairStage}
use Rattle.rt_repair.specs.declared.repair.RepairStage.TheVariants as repair
use Rattle.rt_repair.specs.declared.repair_step.RepairStep.{RepairStep}
use Rattle.rt_repair.proofs.Telling.{told_repair}
use Rattle.rt_store.specs.Answers.{Leaves, after_call}
use Rattle.rt_store.specs.Calls.{told_on}
use Rattle.rt_store.specs.Contents.{starting_of}
use Rattle.rt_store.specs.Meaning.{Told}
use Rattle.rt_store.specs.declared.refused.StoreRefused.{StoreRefused}
use Rattle.rt_store.proofs.Told.{leaves_on, read_same}
use Rattle.rt_state.specs.Applying.{Next}
use Rattle.rt_state.specs.Finding.{request_at}
use Rattle.rt_state.specs.Jobs.{JobSteps, JobStepsAt, noted_set, stepped_by}
use Rattle.rt_state.specs.Messages.{Delivers, DeliversAt, after_step, handed}
use Rattle.rt_state.specs.Nodes.{ControllerDoes, ControllerDoesAt, with_controller}
use Rattle.rt_state.specs.Places.{AreAt}
use Rattle.rt_nodes.specs.declared.chore.Chore.{Chore}
use Rattle.rt_nodes.specs.declared.chore.Chore.TheVariants.{Repair, Retire}
use Rattle.rt_state.specs.Repairs.{Keeps, KeepsAt, after_upkeep, begun, upkeep_at, upkeep_in, UpkeepSteps}
use Rattle.rt_world.proofs.KeepsRepairs.{Begins}
use Rattle.rt_state.specs.Room.{counted}
use Rattle.rt_state.specs.Start.{fresh_controller, fresh_controllers, fresh_upkeep, start}
use Rattle.rt_world.specs.Step.{Steps, way_of}
use Rattle.rt_world.specs.Way.{Goes, Way}
use Rattle.rt_world.specs.Way as way
use Rattle.rt_safety.proofs.Spares.{Spares, spares}
use Rattle.rt_safety.proofs.Ways.{BeginsRightly, is_free, IsFree, Leaving, leaving}
use Rattle.rt_nodes.specs.declared.controller_node.ControllerNode.{ControllerNode}
use Rattle.rt_state.specs.declared.cost.Cost.{Cost}
use Rattle.rt_state.specs.declared.state.State.{State}
use Rattle.rt_nodes.specs.declared.upkeep.Upkeep.{Upkeep}
use Rattle.rt_world.proofs.Places.{at_none, at_push, at_set}
use Rattle.rt_safety.specs.Runs.{Turn, happens, passes, TurnsTo, Leads}
use Rattle.rt_safety.specs.Unretired.{IsUnretired, KeepsAll, RetiresNone}

-- ---- writes that are no deletions

abbrev pub NoneGone : List Seen → Type 0
NoneGone h = (v : Seen) → Has h v → v.node ≡ node.Gone → ⊥

none_same : (h k : List Seen) → k ≡ h → NoneGone h → NoneGone k
none_same h k e n = subst NoneGone (sym e) n

abbrev IsThere : Node → Type 0
IsThere n = n ≡ node.Gone → ⊥

-- the call writes no deletion
abbrev DeletesNone : Write → Type 0
DeletesNone (create k n) = IsThere n
DeletesNone (set from n) = IsThere n
DeletesNone (delete from) = ⊥
DeletesNone (create_after k n prior) = IsThere n
DeletesNone (bump i) = Unit {0}

writes_there : (call : Write) (h : List Seen) → DeletesNone call → IsThere (written_by h call).node
writes_there (create k n) h d = d
writes_there (set from n) h d = d
writes_there (delete from) h d = absurd d
writes_there (create_after k n prior) h d = d
writes_there (bump i) h d = λ e. cc

wrote_none : (call : Write) (h k : List Seen) → DeletesNone call → Leaves call h k → NoneGone h → NoneGone k
wrote_none call h k d (inl same) n = none_same h k same n
wrote_none call h k d (inr (free, more)) n = λ v has gone. by_last v gone (Has-push_cases h (written_by h call) v (subst (λ ws. Has ws v) more has))
  where
    by_last : (v : Seen) → v.node ≡ node.Gone → Has h v ⊎ (written_by h call ≡ v) → ⊥
    by_last v gone (inl has) = n v has gone
    by_last v gone (inr is) = writes_there call h d (ap (λ (w : Seen). w.node) is ∙ gone)

called_none : (t : Told) (call : Write) → DeletesNone call → NoneGone t.writes → NoneGone (told_on t (after_call call)).writes
called_none t call d n = wrote_none call t.writes (told_on t (after_call call)).writes d (leaves_on t call) n

read_none : (t : Told) → NoneGone t.writes → NoneGone (told_on t (λ base. base)).writes
read_none t n = none_same t.writes (told_on t (λ base. base)).writes (read_same t) n

-- ---- the calls of a controller

abbrev CallsNone : Call → Type 0
CallsNone calls_nothing = Unit {0}
CallsNone (puts path bytes) = Unit {0}
CallsNone (gets path) = Unit {0}
CallsNone (reads k) = Unit {0}
CallsNone (sets from n) = IsThere n
CallsNone (creates k n prior) = IsThere n

store_none : (t : Told) (call : Call) → CallsNone call → NoneGone t.writes → NoneGone (store_after t call).writes
store_none t calls_nothing d n = n
store_none t (puts path bytes) d n = n
store_none t (gets path) d n = n
store_none t (reads k) d n = read_none t n
store_none t (sets from m) d n = called_none t (set from m) d n
store_none t (creates k m prior) d n = called_none t (create_after k m prior) d n

request_none : (r : Request) (rule : Rule) → CallsNone (call_of r rule)
request_none r not_leading = tt
request_none r (uploads path bytes) = tt
request_none r not_assigned = tt
request_none r past_last = tt
request_none r (has_machine place what) = tt
request_none r (has_none what) = tt

stage_none : (a : Assigned) (q : Asked) (now : Moment) (s : JobStage) → CallsNone (call_at a q now s)
stage_none a q now (stage.Check from end path) = tt
stage_none a q now (stage.Done from commit) = λ e. cc
stage_none a q now (stage.Next done) = λ e. cc
stage_none a q now (stage.IdealRead w found) = tt
stage_none a q now (stage.IdealSet w found ideal) = λ e. cc
stage_none a q now stage.Ended = tt

slot_none : (c : Controlling) (now : Moment) (o : Option Job) → CallsNone (work_call_at c now o)
slot_none c now None = tt
slot_none c now (Some j) = stage_none c.assigned j.asked now j.stage

place_none : (c : Controlling) (now : Moment) (o : Option ℕ) → CallsNone (work_call_on c now o)
place_none c now None = tt
place_none c now (Some place) = slot_none c now (slice_get c.jobs place)

-- ---- the calls of a repair

abbrev SetsNone : Option Write → Type 0
SetsNone None = Unit {0}
SetsNone (Some call) = DeletesNone call

set_none : (t : Told) (r : Repairing) (tell : Result ℕ StoreRefused → Option RepairStep) (call : Option Write) → SetsNone call → NoneGone t.writes
    → NoneGone (repair_set t r tell call).told.writes
set_none t r tell None d n = n
set_none t r tell (Some call) d n = called_none t call d n

create_none : (r : Repairing) (now : Moment) (s : Sequence) (start : Offset) (last : Option ReadNode) → DeletesNone (create_write r now s start last)
create_none r now s start None = λ e. cc
create_none r now s start (Some last) = λ e. cc

ideal_none : (r : Repairing) (s : Sequence) (follows : Bool) (ideal : Seen) → SetsNone (ideal_write r s follows ideal)
ideal_none r s follows ideal =
    by_test (goes_on (entries_by ideal.node) r.partition s.0) (set ideal (node.Ideal (record { entries = added_entries r s follows (entries_by ideal.node) }))) (λ e. cc)
  where
    by_test : (b : Bool) (call : Write) → DeletesNone call → SetsNone (cond b (Some call) None)
    by_test true call d = d
    by_test false call d = tt

abandon_none_by : (now : Moment) (from : Seen) (n : Node) → SetsNone (abandon_by now from n)
abandon_none_by now from (node.Meta meta) = λ e. cc
abandon_none_by now from (node.Ideal i) = tt
abandon_none_by now from node.Boot = tt
abandon_none_by now from node.Gone = tt

abandon_none : (now : Moment) (last : Option ReadNode) → SetsNone (abandon_write now last)
abandon_none now None = tt
abandon_none now (Some last) = abandon_none_by now last.seen last.seen.node

done_none : (t : Told) (r : Repairing) (now : Moment) (last : Option ReadNode) (follows : Bool) (ideal : Seen) (d : Decision) → NoneGone t.writes
    → NoneGone (repair_done t r now last follows ideal d).told.writes
done_none t r now last follows ideal decision.Nothing n = n
done_none t r now last follows ideal (decision.Create s start) n = called_none t (create_write r now s start last) (create_none r now s start last) n
done_none t r now last follows ideal (decision.AddToIdeal s) n = set_none t r of_repair.ideal_set (ideal_write r s follows ideal) (ideal_none r s follows ideal) n
done_none t r now last follows ideal (decision.Abandon s) n = set_none t r (of_repair.abandoned s) (abandon_write now last) (abandon_none now last) n

repair_none : (t : Told) (r : Repairing) (now : Moment) (s : RepairStage) → NoneGone t.writes → NoneGone (repair_at t r now s).told.writes
repair_none t r now repair.Listing n = read_none t n
repair_none t r now (repair.Reading last follows) n = read_none t n
repair_none t r now (repair.Writing last follows ideal) n = done_none t r now last follows ideal (decision_at r now last ideal) n
repair_none t r now repair.Ended n = n

-- ---- a world goes on

-- the setup stays, the controllers retire nothing, and nothing is deleted
on : (w new : State) → IsUnretired w → new.setup ≡ w.setup → AreAt RetiresNone new.controllers → NoneGone new.store.writes → IsUnretired new
on w new k setup controllers all = record { retention = ap (λ (s : Setup). s.retention) setup ∙ k.retention; controllers = controllers; all = all }

-- no controller takes a step
spares_stay : (w : State) (cost : Cost) (new : State) → IsUnretired w → Spares w cost new → IsUnretired new
spares_stay w cost new k left = on w new k left.setup (subst (AreAt RetiresNone) (sym left.controllers) k.controllers) (by_written left.written)
  where
    by_written : (new.store.writes ≡ w.store.writes) ⊎ ((j : Instance) × Leaves (bump j) w.store.writes new.store.writes) → NoneGone new.store.writes
    by_written (inl same) = none_same w.store.writes new.store.writes same k.all
    by_written (inr (j, leaves)) = wrote_none (bump j) w.store.writes new.store.writes tt leaves k.all

-- ---- controllers

-- a controller is put back with what was under way
controller_put : (w : State) (c : ControllerId) (n new : ControllerNode) → IsUnretired w → slice_get w.controllers c.0 ≡ Some n → new.upkeep ≡ n.upkeep
    → AreAt RetiresNone (slice_set w.controllers c.0 new)
controller_put w c n new k there same =
    at_set RetiresNone w.controllers c.0 new (subst (AreAt KeepsAll) (sym same) (k.controllers c.0 n there)) k.controllers

controller_stays : (w : State) (c : ControllerId) (does : ControllerNode → ControllerNode) (o : Outcome) (cost : Cost) (x : Next) → IsUnretired w
    → ((n : ControllerNode) → (does n).upkeep ≡ n.upkeep) → ControllerDoes w c does o cost x → IsUnretired x.0
controller_stays w c does o cost x k same h = by_node (slice_get w.controllers c.0) refl h
  where
    by_node : (n : Option ControllerNode) → slice_get w.controllers c.0 ≡ n → ControllerDoesAt n w c does o cost x → IsUnretired x.0
    by_node None there h = absurd h
    by_node (Some n) there is =
        subst (λ (z : Next). IsUnretired z.0) (sym is)
        (on w (counted (with_controller w c (does n)) cost) k refl (controller_put w c n (does n) k there (same n)) k.all)

handed_stays : (w : State) (c : ControllerId) (n : ControllerNode) (new : Controlling) (store : Told) (deep : ToldDeep) (cost : Cost) (what : Handled) → IsUnretired w
    → AreAt RetiresNone (slice_set w.controllers c.0 (record n { controller = new })) → NoneGone store.writes
    → IsUnretired (handed (after_step w c n new store deep) cost what).0
handed_stays w c n new store deep cost (handled.Reply r) k cs none = on w (handed (after_step w c n new store deep) cost (handled.Reply r)).0 k refl cs none
handed_stays w c n new store deep cost (handled.Job j) k cs none = on w (handed (after_step w c n new store deep) cost (handled.Job j)).0 k refl cs none

deliver_stays : (w : State) (m : ℕ) (c : ControllerId) (cost : Cost) (x : Next) → IsUnretired w → Delivers w m c cost x → IsUnretired x.0
deliver_stays w m c cost x k h = by_found (request_at w m) (slice_get w.controllers c.0) refl h
  where
    by_found : (o : Option Request) (n : Option ControllerNode) → slice_get w.controllers c.0 ≡ n → DeliversAt o n w c cost x → IsUnretired x.0
    by_found None n there h = absurd h
    by_found (Some q) None there h = absurd h
    by_found (Some q) (Some n) there (new, what, store, deep, handles, is) =
        let y : Handling = record { controller = new; handled = what } in
        let left = told_request w.store store w.deep deep n.controller q w.moment y handles in
        subst (λ (z : Next). IsUnretired z.0) (sym is)
        (handed_stays w c n new store deep cost what k (controller_put w c n (record n { controller = new }) k there refl)
        (subst (λ (t : Told). NoneGone t.writes) (sym left.store)
        (store_none w.store (handle_call n.controller q) (request_none q (turn_of n.controller q)) k.all)))

stepped_stays : (w : State) (c : ControllerId) (n : ControllerNode) (new : Controlling) (store : Told) (deep : ToldDeep) (cost : Cost) (step : JobStep) (o : Option Reply)
    → IsUnretired w → AreAt RetiresNone (slice_set w.controllers c.0 (record n { controller = new })) → NoneGone store.writes
    → IsUnretired (stepped_by (noted_set (after_step w c n new store deep) cost (length w.store.writes)) cost step o).0
stepped_stays w c n new store deep cost step None k cs none =
    on w (stepped_by (noted_set (after_step w c n new store deep) cost (length w.store.writes)) cost step None).0 k refl cs none
stepped_stays w c n new store deep cost step (Some r) k cs none =
    on w (stepped_by (noted_set (after_step w c n new store deep) cost (length w.store.writes)) cost step (Some r)).0 k refl cs none

job_stays : (w : State) (c : ControllerId) (j : ℕ) (cost : Cost) (x : Next) → IsUnretired w → JobSteps w c j cost x → IsUnretired x.0
job_stays w c j cost x k h = by_node (slice_get w.controllers c.0) refl h
  where
    by_node : (n : Option ControllerNode) → slice_get w.controllers c.0 ≡ n → JobStepsAt n w c j cost x → IsUnretired x.0
    by_node None there h = absurd h
    by_node (Some n) there (new, step, store, deep, works, is) =
        let y : Working = record { controller = new; step = step } in
        let left = told_work w.store store w.deep deep n.controller j w.moment y works in
        subst (λ (z : Next). IsUnretired z.0) (sym is)
        (stepped_stays w c n new store deep cost step step.reply k (controller_put w c n (record n { controller = new }) k there refl)
        (subst (λ (t : Told). NoneGone t.writes) (sym left.store)
        (store_none w.store (work_call n.controller j w.moment) (place_none n.controller w.moment (job_place n.controller.jobs j)) k.all)))

-- ---- repairs and retirements

-- what is under way for the partition, at the controller that is there
own_upkeep : (w : State) (c : ControllerId) (p : Partition) (n : ControllerNode) (u : Upkeep) → IsUnretired w → slice_get w.controllers c.0 ≡ Some n
    → upkeep_at w c p ≡ Some u → u.retirement ≡ None
own_upkeep w c p n u k there at = k.controllers c.0 n there p.0 u (ap (λ o. upkeep_in o p) (sym there) ∙ at)

no_retention : (o : Option ℕ) → o ≡ None → IsSome o → ⊥
no_retention None none kept = absurd (cc)
no_retention (Some keep) none kept = none-some keep (sym none)

-- a repair leaves what is retired, and no retirement begins, so that none goes on
chore_leaves_all : (w : State) (p : Partition) (chore : Chore) (old new : Upkeep) (store : Told) (o : Outcome) → IsUnretired w → old.retirement ≡ None → Begins chore w old
    → UpkeepSteps chore w.setup p w.moment w.store store old new o → (new.retirement ≡ None) × NoneGone store.writes
chore_leaves_all w p Repair old new store o k none begins (did, (after, steps, put), tells) =
    let r = begun w.setup p old.repair in
    let y : of_repair.Stepped = record { repair = after; step = did } in
    let left = told_repair w.store store r w.moment y steps in
    (ap (λ (u : Upkeep). u.retirement) put ∙ none, subst (λ (t : Told). NoneGone t.writes) (sym left.0) (repair_none w.store r w.moment r.stage k.all))
chore_leaves_all w p Retire old new store o k none begins steps =
    absurd (no_retention w.setup.retention k.retention (begins (subst IsNone (sym none) refl)))

chore_stays : (w : State) (c : ControllerId) (p : Partition) (chore : Chore) (cost : Cost) (x : Next) → IsUnretired w → BeginsRightly chore w c p → Keeps w c p chore cost x
    → IsUnretired x.0
chore_stays w c p chore cost x k begins h = by_found (slice_get w.controllers c.0) refl (upkeep_at w c p) refl h
  where
    by_found : (o : Option ControllerNode) → slice_get w.controllers c.0 ≡ o → (u : Option Upkeep) → upkeep_at w c p ≡ u → KeepsAt o u w c p chore cost x → IsUnretired x.0
    by_found None there u at h = absurd h
    by_found (Some n) there None at h = absurd h
    by_found (Some n) there (Some old) at (new, store, steps, is) =
        let left = chore_leaves_all w p chore old new store x.1 k (own_upkeep w c p n old k there at) (begins old at) steps in
        subst IsUnretired (sym is)
        (on w (after_upkeep w c p n new store cost) k refl
        (at_set RetiresNone w.controllers c.0 (record n { upkeep = slice_set n.upkeep p.0 new })
        (at_set KeepsAll n.upkeep p.0 new left.0 (k.controllers c.0 n there)) k.controllers)
        left.1)

-- ---- an event

goes_stay : (w : State) (y : Way) (cost : Cost) (x : Next) → IsUnretired w → IsFree cost y → Leaving w cost y → Goes w y cost x → IsUnretired x.0
goes_stay w (way.turns c does told) cost x k free left h = controller_stays w c does told cost x k left h
goes_stay w (way.handles m c) cost x k free left h = deliver_stays w m c cost x k h
goes_stay w (way.works c j) cost x k free left h = job_stays w c j cost x k h
goes_stay w (way.keeps c p chore) cost x k free left h = chore_stays w c p chore cost x k left.1 h
goes_stay w y cost x k free left h = spares_stay w cost x.0 k (spares w cost x y tt free left h)

steps_stay : (w : State) (e : Event) (new : State) (o : Outcome) → IsUnretired w → Steps w e new (Ok o) → IsUnretired new
steps_stay w e new o k (cost, due, h) = goes_stay w (way_of w e) cost (new, o) k (is_free w e cost due) (leaving w e cost due) h

-- ---- a run

turn_stays : (w : State) (turn : Turn) (new : State) → IsUnretired w → TurnsTo w turn new → IsUnretired new
turn_stays w (happens e o) new k (fits, steps) = steps_stay w e new o k steps
turn_stays w passes new k (cost, due, is) = subst IsUnretired (sym is) (on w (counted w cost) k refl k.controllers k.all)

pub leads_stay : (from : State) (turns : List Turn) (to : State) → IsUnretired from → Leads from turns to → IsUnretired to
leads_stay from [] to k e = subst IsUnretired (sym e) k
leads_stay from (turn ∷ turns) to k (next, t, rest) = leads_stay next turns to (turn_stays from turn next k t) rest

upkeep_start : (n : ℕ) → AreAt KeepsAll (fresh_upkeep n)
upkeep_start zero i x e = absurd (none-some x e)
upkeep_start (suc n) zero x e = subst (KeepsAll 0) (same_Some _ x e) refl
upkeep_start (suc n) (suc i) x e = upkeep_start n i x e

controllers_start : (setup : Setup) (n : ℕ) → AreAt RetiresNone (fresh_controllers setup n)
controllers_start setup zero = at_none RetiresNone
controllers_start setup (suc c) =
    at_push RetiresNone (fresh_controllers setup c) (fresh_controller setup c) (upkeep_start setup.partitions) (controllers_start setup c)

pub start_unretired : (setup : Setup) → setup.retention ≡ None → IsUnretired (start setup)
start_unretired setup none =
    record { retention = none; controllers = controllers_start setup setup.controllers; all = λ v has gone. start_there (starting_of setup) v has gone }
