-- In each world of a run no segment's node was written later than now: what writes one writes it with its own moment.
use Rattle.std.proofs.Common.{◌≡◌, ◌⊎◌, inl, inr, ℕ, zero, suc, ◌≤◌, Bool, List, [], ◌∷◌, ◌++◌, Option, Some, None, Ok, refl, sym, ◌∙◌, ap, subst, arith, length, slice_get}
use Rattle.std.proofs.lemmas.Bool.{cond_both}
use Rattle.rt_base.specs.declared.numbers.ControllerId.{ControllerId}
use Rattle.rt_base.specs.declared.numbers.Instance.{Instance}
use Rattle.rt_base.specs.declared.numbers.Moment.{Moment}
use Rattle.rt_base.specs.declared.numbers.Partition.{Partition}
use Rattle.rt_base.specs.declared.numbers.Sequence.{Sequence}
use Rattle.rt_base.specs.declared.numbers.Offset.{Offset}
use Rattle.rt_commit.specs.Assignment.{Assigned}
use Rattle.rt_commit.specs.Calls.{calls_nothing, creates, gets, puts, reads, sets, Call}
use Rattle.rt_commit.specs.Job.{call_at}
use Rattle.rt_commit.specs.Told.{store_after}
use Rattle.rt_commit.specs.declared.job.Job.{Job}
use Rattle.rt_commit.specs.declared.job.JobStage.{JobStage}
use Rattle.rt_commit.specs.declared.job.JobStage.TheVariants as stage
use Rattle.rt_controller.proofs.Telling.{told_request, told_work}
use Rattle.rt_controller.specs.Answers.{Handling}
use Rattle.rt_controller.specs.Controller.{Controlling}
use Rattle.rt_controller.specs.Requests.{call_of, handle_call, has_machine, has_none, not_assigned, not_leading, past_last, turn_of, uploads, Turn as Rule}
use Rattle.rt_controller.specs.Working.{job_place, work_call, work_call_at, work_call_on, Working}
use Rattle.rt_controller.specs.declared.handled.Handled.{Handled}
use Rattle.rt_controller.specs.declared.handled.Handled.TheVariants as handled
use Rattle.rt_events.specs.declared.event.Event.{Event}
use Rattle.rt_events.specs.declared.outcome.Outcome.{Outcome}
use Rattle.rt_lists.proofs.Members.{Has-append_cases, Has-push_cases}
use Rattle.rt_lists.specs.Members.{Has}
use Rattle.rt_model.specs.Entries.{entries_by}
use Rattle.rt_model.specs.Ideal.{goes_on}
use Rattle.rt_model.specs.Lawful.{bump, create, create_after, delete, set, written_by, Write}
use Rattle.rt_model.specs.Starting.{starting_boot, starting_boots, starting_contents, starting_ideal, starting_meta, starting_metas, Starting}
use Rattle.rt_model.specs.declared.asked.Asked.{Asked}
use Rattle.rt_model.specs.declared.decision.Decision.{Decision}
use Rattle.rt_model.specs.declared.decision.Decision.TheVariants as decision
use Rattle.rt_model.specs.declared.job_step.JobStep.{JobStep}
use Rattle.rt_model.specs.declared.node.Node.{Node}
use Rattle.rt_model.specs.declared.node.Node.TheVariants as node
use Rattle.rt_model.specs.declared.node.Seen.{Seen}
use Rattle.rt_model.specs.declared.reply.Reply.{Reply}
use Rattle.rt_model.specs.declared.request.Request.{Request}
use Rattle.rt_model.specs.declared.seg_meta.SegMeta.{SegMeta}
use Rattle.rt_model.specs.declared.setup.Setup.{Setup}
use Rattle.rt_nodes.specs.Repairs.{begun, retiring, UpkeepSteps}
use Rattle.rt_nodes.specs.declared.chore.Chore.{Chore}
use Rattle.rt_nodes.specs.declared.chore.Chore.TheVariants.{Repair, Retire}
use Rattle.rt_nodes.specs.declared.controller_node.ControllerNode.{ControllerNode}
use Rattle.rt_nodes.specs.declared.upkeep.Upkeep.{Upkeep}
use Rattle.rt_repair.proofs.Setting.{repair_leaves, retire_leaves}
use Rattle.rt_repair.proofs.Telling.{told_repair, told_retire}
use Rattle.rt_repair.specs.RepairSteps as of_repair
use Rattle.rt_repair.specs.Repairing.{abandon_by, abandon_write, added_entries, create_write, decision_at, Repairing}
use Rattle.rt_repair.specs.RetireSteps as of_retire
use Rattle.rt_repair.specs.Retirement.{delete_write, retiring_at, Retirement}
use Rattle.rt_repair.specs.Setting.{repair_write, repair_write_at, repair_write_by, retire_write, retire_write_at, retire_write_by, writes_after}
use Rattle.rt_repair.specs.declared.read_node.ReadNode.{ReadNode}
use Rattle.rt_repair.specs.declared.repair.RepairStage.{RepairStage}
use Rattle.rt_repair.specs.declared.repair.RepairStage.TheVariants as repair
use Rattle.rt_repair.specs.declared.retirement.RetireStage.{RetireStage}
use Rattle.rt_repair.specs.declared.retirement.RetireStage.TheVariants as retirement
use Rattle.rt_repair.specs.declared.retiring.Retiring.{Retiring}
use Rattle.rt_repair.specs.declared.retiring.Retiring.TheVariants as retiring_variants
use Rattle.rt_safety.proofs.Spares.{spares, Spares}
use Rattle.rt_safety.proofs.Ways.{is_free, leaving, IsFree, Leaving}
use Rattle.rt_safety.specs.Runs.{happens, passes, Leads, Runs, Turn, TurnsTo}
use Rattle.rt_state.specs.Applying.{Next}
use Rattle.rt_state.specs.Finding.{request_at}
use Rattle.rt_state.specs.Jobs.{noted_set, stepped_by, JobSteps, JobStepsAt}
use Rattle.rt_state.specs.Messages.{after_step, handed, Delivers, DeliversAt}
use Rattle.rt_state.specs.Nodes.{ControllerDoes, ControllerDoesAt}
use Rattle.rt_state.specs.Repairs.{after_upkeep, upkeep_at, Keeps, KeepsAt}
use Rattle.rt_state.specs.Start.{start}
use Rattle.rt_state.specs.declared.cost.Cost.{Cost}
use Rattle.rt_state.specs.declared.state.State.{State}
use Rattle.rt_store.proofs.Told.{leaves_on, read_same}
use Rattle.rt_store.specs.Answers.{after_call, Leaves}
use Rattle.rt_store.specs.Calls.{told_on}
use Rattle.rt_store.specs.Contents.{starting_of}
use Rattle.rt_store.specs.Meaning.{Told}
use Rattle.rt_world.specs.Step.{way_of, Steps}
use Rattle.rt_world.specs.Way.{Goes, Way}
use Rattle.rt_world.specs.Way as way
use Rattle.rt_heal.proofs.TurnedRuns.{stepped_writes}
use Rattle.rt_recovery.specs.Mending.{IsWrittenBefore}

-- ---- what is written with a moment that is no later

abbrev IsBefore : Moment → Node → Type 0
IsBefore now n = (m : SegMeta) → n ≡ node.Meta m → m.written.0 ≤ now.0

abbrev AreBefore : Moment → List Seen → Type 0
AreBefore now h = (v : Seen) (m : SegMeta) → Has h v → v.node ≡ node.Meta m → m.written.0 ≤ now.0

same_meta : (a b : SegMeta) → node.Meta a ≡ node.Meta b → a ≡ b
same_meta a b e = cc

-- it has this very moment
own_before : (now : Moment) (a : SegMeta) → a.written ≡ now → IsBefore now (node.Meta a)
own_before now a is m e = omega (arith, ap (λ (x : SegMeta). x.written.0) (same_meta a m e), ap (λ (x : Moment). x.0) is)

abbrev WriteIsBefore : Moment → Write → Type 0
WriteIsBefore now (create k n) = IsBefore now n
WriteIsBefore now (set from n) = IsBefore now n
WriteIsBefore now (delete from) = Unit {0}
WriteIsBefore now (create_after k n prior) = IsBefore now n
WriteIsBefore now (bump i) = Unit {0}

written_before : (now : Moment) (h : List Seen) (call : Write) → WriteIsBefore now call → IsBefore now (written_by h call).node
written_before now h (create k n) k2 = k2
written_before now h (set from n) k = k
written_before now h (delete from) k = λ m e. absurd (cc)
written_before now h (create_after k n prior) k2 = k2
written_before now h (bump i) k = λ m e. absurd (cc)

-- nothing is written, or by such a call
abbrev HasWritten : Moment → List Seen → List Seen → Type 0
HasWritten now h g = (g ≡ h) ⊎ ((call : Write) × Leaves call h g × WriteIsBefore now call)

before_then : (now : Moment) (h g : List Seen) → HasWritten now h g → AreBefore now h → AreBefore now g
before_then now h g (inl same) all = subst (AreBefore now) (sym same) all
before_then now h g (inr (call, inl same, k)) all = subst (AreBefore now) (sym same) all
before_then now h g (inr (call, inr (free, more), k)) all =
    subst (AreBefore now) (sym more) (λ v m has is. by_place v m is (Has-push_cases h (written_by h call) v has))
  where
    by_place : (v : Seen) (m : SegMeta) → v.node ≡ node.Meta m → Has h v ⊎ (written_by h call ≡ v) → m.written.0 ≤ now.0
    by_place v m is (inl there) = all v m there is
    by_place v m is (inr same) = written_before now h call k m (ap (λ (x : Seen). x.node) same ∙ is)

module _ (t : Told) (now : Moment) where
  left_by : (call : Write) (writes at : List Seen) → writes ≡ at → Leaves call t.writes at → WriteIsBefore now call → HasWritten now t.writes writes
  left_by call writes at same leaves k = inr (call, subst (Leaves call t.writes) (sym same) leaves, k)

  abbrev SomeIsBefore : Option Write → Type 0
  SomeIsBefore None = Unit {0}
  SomeIsBefore (Some call) = WriteIsBefore now call

  write_by : (o : Option Write) (writes : List Seen) → writes ≡ writes_after t o → SomeIsBefore o → HasWritten now t.writes writes
  write_by None writes same k = inl same
  write_by (Some call) writes same k = left_by call writes (told_on t (after_call call)).writes same (leaves_on t call) k

  abbrev CallIsBefore : Call → Type 0
  CallIsBefore calls_nothing = Unit {0}
  CallIsBefore (puts path bytes) = Unit {0}
  CallIsBefore (gets path) = Unit {0}
  CallIsBefore (reads k) = Unit {0}
  CallIsBefore (sets from n) = IsBefore now n
  CallIsBefore (creates k n prior) = IsBefore now n

  call_by : (call : Call) (writes : List Seen) → writes ≡ (store_after t call).writes → CallIsBefore call → HasWritten now t.writes writes
  call_by calls_nothing writes same k = inl same
  call_by (puts path bytes) writes same k = inl same
  call_by (gets path) writes same k = inl same
  call_by (reads j) writes same k = inl (same ∙ read_same t)
  call_by (sets from n) writes same k = left_by (set from n) writes _ same (leaves_on t (set from n)) k
  call_by (creates j n prior) writes same k = left_by (create_after j n prior) writes _ same (leaves_on t (create_after j n prior)) k

  -- ---- jobs and requests

  stage_before : (a : Assigned) (q : Asked) (at : JobStage) → CallIsBefore (call_at a q now at)
  stage_before a q (stage.Check from end path) = tt
  stage_before a q (stage.Done from commit) = own_before now _ refl
  stage_before a q (stage.Next done) = own_before now _ refl
  stage_before a q (stage.IdealRead w found) = tt
  stage_before a q (stage.IdealSet w found ideal) = λ m e. absurd (cc)
  stage_before a q stage.Ended = tt

  job_before : (c : Controlling) (o : Option ℕ) → CallIsBefore (work_call_on c now o)
  job_before c None = tt
  job_before c (Some place) = by_job (slice_get c.jobs place)
    where
      by_job : (o : Option Job) → CallIsBefore (work_call_at c now o)
      by_job None = tt
      by_job (Some j) = stage_before c.assigned j.asked j.stage

  request_before : (r : Request) (rule : Rule) → CallIsBefore (call_of r rule)
  request_before r not_leading = tt
  request_before r (uploads path bytes) = tt
  request_before r not_assigned = tt
  request_before r past_last = tt
  request_before r (has_machine place what) = tt
  request_before r (has_none what) = tt

  -- ---- repairs and retirements

  creates_before : (r : Repairing) (s : Sequence) (start : Offset) (last : Option ReadNode) → WriteIsBefore now (create_write r now s start last)
  creates_before r s start None = own_before now _ refl
  creates_before r s start (Some l) = own_before now _ refl

  abandons_by : (from : Seen) (n : Node) → SomeIsBefore (abandon_by now from n)
  abandons_by from (node.Meta m) = own_before now _ refl
  abandons_by from (node.Ideal i) = tt
  abandons_by from node.Boot = tt
  abandons_by from node.Gone = tt

  abandons_before : (last : Option ReadNode) → SomeIsBefore (abandon_write now last)
  abandons_before None = tt
  abandons_before (Some l) = abandons_by l.seen l.seen.node

  decided_before : (r : Repairing) (last : Option ReadNode) (follows : Bool) (ideal : Seen) (d : Decision) → SomeIsBefore (repair_write_by r now last follows ideal d)
  decided_before r last follows ideal decision.Nothing = tt
  decided_before r last follows ideal (decision.Create s start) = creates_before r s start last
  decided_before r last follows ideal (decision.AddToIdeal s) =
      cond_both (goes_on (entries_by ideal.node) r.partition s.0)
      (Some (set ideal (node.Ideal (record { entries = added_entries r s follows (entries_by ideal.node) })))) None SomeIsBefore (λ b. λ m e. absurd (cc)) (λ b. tt)
  decided_before r last follows ideal (decision.Abandon s) = abandons_before last

  repair_before : (r : Repairing) (at : RepairStage) → SomeIsBefore (repair_write_at r now at)
  repair_before r repair.Listing = tt
  repair_before r (repair.Reading last follows) = tt
  repair_before r (repair.Writing last follows ideal) = decided_before r last follows ideal (decision_at r now last ideal)
  repair_before r repair.Ended = tt

  deletes_before : (lowest : Option ReadNode) → SomeIsBefore (delete_write lowest)
  deletes_before None = tt
  deletes_before (Some l) = tt

  retired_before : (r : Retirement) (lowest : Option ReadNode) (ideal : Seen) (d : Retiring) → SomeIsBefore (retire_write_by r lowest ideal d)
  retired_before r lowest ideal retiring_variants.Nothing = tt
  retired_before r lowest ideal (retiring_variants.Remove s) = λ m e. absurd (cc)
  retired_before r lowest ideal (retiring_variants.Delete s) = deletes_before lowest

  retire_before : (r : Retirement) (at : RetireStage) → SomeIsBefore (retire_write_at r now at)
  retire_before r retirement.Listing = tt
  retire_before r (retirement.Reading lowest) = tt
  retire_before r (retirement.Writing lowest ideal) = retired_before r lowest ideal (retiring_at r now lowest ideal)
  retire_before r retirement.Ended = tt

-- ---- the clock never goes back

-- an event goes on in time, and writes so
pub record GoesOn (w v : State) : Type 0 where
  pub moment : w.moment.0 ≤ v.moment.0
  pub wrote : HasWritten w.moment w.store.writes v.store.writes

module _ (w : State) (x : Next) where
  same_moment : x.0.moment ≡ w.moment → w.moment.0 ≤ x.0.moment.0
  same_moment e = omega (arith, ap (λ (m : Moment). m.0) e)

  handed_moment : (z : State) (cost : Cost) (what : Handled) → x ≡ handed z cost what → (x.0.moment ≡ z.moment) × (x.0.store.writes ≡ z.store.writes)
  handed_moment z cost (handled.Reply y) is = (ap (λ (n : Next). n.0.moment) is, ap (λ (n : Next). n.0.store.writes) is)
  handed_moment z cost (handled.Job j) is = (ap (λ (n : Next). n.0.moment) is, ap (λ (n : Next). n.0.store.writes) is)

  stepped_moment : (z : State) (cost : Cost) (step : JobStep) (o : Option Reply) → x ≡ stepped_by z cost step o → x.0.moment ≡ z.moment
  stepped_moment z cost step None is = ap (λ (n : Next). n.0.moment) is
  stepped_moment z cost step (Some y) is = ap (λ (n : Next). n.0.moment) is

  spared : (cost : Cost) → Spares w cost x.0 → GoesOn w x.0
  spared cost k = record { moment = k.moment; wrote = by_written k.written }
    where
      by_written : (x.0.store.writes ≡ w.store.writes) ⊎ ((j : Instance) × Leaves (bump j) w.store.writes x.0.store.writes) → HasWritten w.moment w.store.writes x.0.store.writes
      by_written (inl same) = inl same
      by_written (inr (j, leaves)) = inr (bump j, leaves, tt)

  turns_on : (c : ControllerId) (does : ControllerNode → ControllerNode) (o : Outcome) (cost : Cost) → ControllerDoes w c does o cost x → GoesOn w x.0
  turns_on c does o cost h = by_node (slice_get w.controllers c.0) h
    where
      by_node : (n : Option ControllerNode) → ControllerDoesAt n w c does o cost x → GoesOn w x.0
      by_node None h = absurd h
      by_node (Some n) is =
          record { moment = same_moment (ap (λ (z : Next). z.0.moment) is); wrote = inl (ap (λ (z : Next). z.0.store.writes) is) }

  handles_on : (m : ℕ) (c : ControllerId) (cost : Cost) → Delivers w m c cost x → GoesOn w x.0
  handles_on m c cost h = by_found (request_at w m) (slice_get w.controllers c.0) h
    where
      by_found : (o : Option Request) (n : Option ControllerNode) → DeliversAt o n w c cost x → GoesOn w x.0
      by_found None n h = absurd h
      by_found (Some q) None h = absurd h
      by_found (Some q) (Some n) (new, what, store, deep, handles, is) =
          let y : Handling = record { controller = new; handled = what } in
          let left = told_request w.store store w.deep deep n.controller q w.moment y handles in
          let same = handed_moment (after_step w c n new store deep) cost what is in
          record {
            moment = same_moment same.0;
            wrote =
                call_by w.store w.moment (handle_call n.controller q) x.0.store.writes (same.1 ∙ ap (λ (t : Told). t.writes) left.store)
                (request_before w.store w.moment q (turn_of n.controller q));
          }

  works_on : (c : ControllerId) (j : ℕ) (cost : Cost) → JobSteps w c j cost x → GoesOn w x.0
  works_on c j cost h = by_node (slice_get w.controllers c.0) h
    where
      by_node : (n : Option ControllerNode) → JobStepsAt n w c j cost x → GoesOn w x.0
      by_node None h = absurd h
      by_node (Some n) (new, step, store, deep, works, is) =
          let y : Working = record { controller = new; step = step } in
          let left = told_work w.store store w.deep deep n.controller j w.moment y works in
          let z = noted_set (after_step w c n new store deep) cost (length w.store.writes) in
          record {
            moment = same_moment (stepped_moment z cost step step.reply is);
            wrote =
                call_by w.store w.moment (work_call n.controller j w.moment) x.0.store.writes
                (ap (λ (v : Next). v.0.store.writes) is ∙ stepped_writes z cost step step.reply ∙ ap (λ (t : Told). t.writes) left.store)
                (job_before w.store w.moment n.controller (job_place n.controller.jobs j));
          }

  keeps_on : (c : ControllerId) (p : Partition) (chore : Chore) (cost : Cost) → Keeps w c p chore cost x → GoesOn w x.0
  keeps_on c p chore cost h = by_found (slice_get w.controllers c.0) (upkeep_at w c p) h
    where
      by_chore : (n : ControllerNode) (old new : Upkeep) (store : Told) (chore : Chore) → UpkeepSteps chore w.setup p w.moment w.store store old new x.1
          → x.0 ≡ after_upkeep w c p n new store cost → GoesOn w x.0
      by_chore n old new store Repair (did, (after_it, steps, put), tells) is =
          let r = begun w.setup p old.repair in
          let y : of_repair.Stepped = record { repair = after_it; step = did } in
          let left = told_repair w.store store r w.moment y steps in
          record {
            moment = same_moment (ap (λ (z : State). z.moment) is);
            wrote =
                write_by w.store w.moment (repair_write r w.moment) x.0.store.writes
                (ap (λ (z : State). z.store.writes) is ∙ ap (λ (t : Told). t.writes) left.0 ∙ repair_leaves w.store r w.moment)
                (repair_before w.store w.moment r r.stage);
          }
      by_chore n old new store Retire (did, (after_it, steps, put), tells) is =
          let r = retiring w.setup p old.retirement in
          let y : of_retire.Stepped = record { retire = after_it; step = did } in
          let left = told_retire w.store store r w.moment y steps in
          record {
            moment = same_moment (ap (λ (z : State). z.moment) is);
            wrote =
                write_by w.store w.moment (retire_write r w.moment) x.0.store.writes
                (ap (λ (z : State). z.store.writes) is ∙ ap (λ (t : Told). t.writes) left.0 ∙ retire_leaves w.store r w.moment)
                (retire_before w.store w.moment r r.stage);
          }

      by_found : (o : Option ControllerNode) (u : Option Upkeep) → KeepsAt o u w c p chore cost x → GoesOn w x.0
      by_found None u h = absurd h
      by_found (Some n) None h = absurd h
      by_found (Some n) (Some old) (new, store, steps, is) = by_chore n old new store chore steps is

  -- ---- an event

  goes_so : (y : Way) (cost : Cost) → IsFree cost y → Leaving w cost y → Goes w y cost x → GoesOn w x.0
  goes_so (way.turns c does told) cost free left h = turns_on c does told cost h
  goes_so (way.handles m c) cost free left h = handles_on m c cost h
  goes_so (way.works c j) cost free left h = works_on c j cost h
  goes_so (way.keeps c p chore) cost free left h = keeps_on c p chore cost h
  goes_so y cost free left h = spared cost (spares w cost x y tt free left h)

pub event_goes_on : (w : State) (e : Event) (new : State) (o : Outcome) → Steps w e new (Ok o) → GoesOn w new
event_goes_on w e new o (cost, due, h) = goes_so w (new, o) (way_of w e) cost (is_free w e cost due) (leaving w e cost due) h

-- ---- a run

later_before : (h : List Seen) (now then : Moment) → now.0 ≤ then.0 → AreBefore now h → AreBefore then h
later_before h now then on all v m has is = let own = all v m has is in omega (arith, own, on)

turn_before : (w : State) (turn : Turn) (new : State) → IsWrittenBefore w → TurnsTo w turn new → IsWrittenBefore new
turn_before w (happens e o) new all (fits, steps) =
    let k = event_goes_on w e new o steps in
    later_before new.store.writes w.moment new.moment k.moment (before_then w.moment w.store.writes new.store.writes k.wrote all)
turn_before w passes new all (cost, due, is) = subst IsWrittenBefore (sym is) all

pub leads_before : (from : State) (turns : List Turn) (to : State) → IsWrittenBefore from → Leads from turns to → IsWrittenBefore to
leads_before from [] to all same = subst IsWrittenBefore (sym same) all
leads_before from (turn ∷ turns) to all (next, t, rest) = leads_before next turns to (turn_before from turn next all t) rest

-- the first segments are written at the start
boots_before : (now : Moment) (n : ℕ) → AreBefore now (starting_boots n)
boots_before now zero v m has is = absurd has
boots_before now (suc i) v m has is = by_place (Has-push_cases (starting_boots i) (starting_boot i) v has) (boots_before now i)
  where
    by_place : Has (starting_boots i) v ⊎ (starting_boot i ≡ v) → AreBefore now (starting_boots i) → m.written.0 ≤ now.0
    by_place (inl there) all = all v m there is
    by_place (inr same) all = absurd (no_meta (ap (λ (x : Seen). x.node) same ∙ is))
      where
        no_meta : node.Boot ≡ node.Meta m → ⊥
        no_meta e = cc

metas_before : (s : Starting) (n : ℕ) → AreBefore s.moment (starting_metas s n)
metas_before s zero v m has is = absurd has
metas_before s (suc p) v m has is = by_place (Has-push_cases (starting_metas s p) (starting_meta s p) v has) (metas_before s p)
  where
    by_place : Has (starting_metas s p) v ⊎ (starting_meta s p ≡ v) → AreBefore s.moment (starting_metas s p) → m.written.0 ≤ s.moment.0
    by_place (inl there) all = all v m there is
    by_place (inr same) all = own_before s.moment _ refl m (ap (λ (x : Seen). x.node) same ∙ is)

start_before : (s : Starting) → AreBefore s.moment (starting_contents s)
start_before s v m has is = by_last (Has-push_cases (starting_boots s.servers ++ starting_metas s s.partitions) (starting_ideal s) v has)
  where
    by_first : Has (starting_boots s.servers) v ⊎ Has (starting_metas s s.partitions) v → m.written.0 ≤ s.moment.0
    by_first (inl there) = boots_before s.moment s.servers v m there is
    by_first (inr there) = metas_before s s.partitions v m there is

    by_last : Has (starting_boots s.servers ++ starting_metas s s.partitions) v ⊎ (starting_ideal s ≡ v) → m.written.0 ≤ s.moment.0
    by_last (inl there) = by_first (Has-append_cases (starting_boots s.servers) (starting_metas s s.partitions) v there)
    by_last (inr same) = absurd (no_meta (ap (λ (x : Seen). x.node) same ∙ is))
      where
        no_meta : (starting_ideal s).node ≡ node.Meta m → ⊥
        no_meta e = cc

pub runs_before : (setup : Setup) (turns : List Turn) (w : State) → Runs setup turns w → IsWrittenBefore w
runs_before setup turns w run = leads_before (start setup) turns w (start_before (starting_of setup)) run
