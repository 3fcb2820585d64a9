-- What the events of the clock, the stream, lives, controllers and queries need, and find in a safe world.
use Rattle.std.proofs.Common.{◌≡◌, ◌+◌, ◌<◌, ◌≤◌, ◌^◌, ◌&&◌, ℕ, true, List, length, slice_get, Option, Some, None, Ok, refl, sym, ap, subst, ◌∙◌, arith, is_some, IsNone, IsSome, IfSome, unwrap_or}
use Rattle.std.proofs.lemmas.Bool.{ltb-true}
use Rattle.std.proofs.lemmas.Option.{slice_get_within}
use Rattle.rt_nodes.specs.declared.server_node.ServerNode.{ServerNode}
use Rattle.rt_base.specs.declared.limits.TheConstants.{LONGEST_MESSAGE, LAST_MOMENT}
use Rattle.rt_base.specs.declared.numbers.ControllerId.{ControllerId}
use Rattle.rt_base.specs.declared.numbers.Instance.{Instance}
use Rattle.rt_base.specs.declared.numbers.Partition.{Partition}
use Rattle.rt_events.specs.declared.refusal.Refusal.TheVariants.{NoSuchNode, NoSuchMessage, NodeDown, NothingToDo}
use Rattle.rt_model.specs.Starting.{Starting}
use Rattle.rt_store.specs.Contents.{starting_of}
use Rattle.rt_controller.specs.IsController.{IsController}
use Rattle.rt_controller.proofs.Lasts.{ready_over}
use Rattle.rt_repair.specs.Repairing.{Repairing, beginning as repair_beginning}
use Rattle.rt_repair.specs.Retirement.{Retirement, beginning as retire_beginning}
use Rattle.rt_repair.proofs.Growing.{repair_begins_over, retire_begins_over, repair_ready, retire_ready}
use Rattle.rt_state.proofs.Dues.{Spends, both, controller_there, met_spends, priced_spends}
use Rattle.rt_state.proofs.Possible.{only_passed, priced_room, then_passed}
use Rattle.rt_state.specs.Clock.{tick_due, lead_due}
use Rattle.rt_state.specs.Finding.{find_controller, has_controller, has_partition, has_server, is_server_up, is_up, partition_tests, request_at, reply_at}
use Rattle.rt_state.specs.IsSafe.{IsControllerAt, IsUpkeepAt, past_of}
use Rattle.rt_state.specs.IsSafeWorld.{IsSafeWorld}
use Rattle.rt_state.specs.Jobs.{has_job, job_due, job_tests, sets_of_job, job_told, job_told_by, stepped, stepped_by}
use Rattle.rt_state.specs.Shows.{show_meta_due}
use Rattle.rt_model.specs.Setup.{IsSetup}
use Rattle.rt_model.specs.declared.job_step.JobStep.{JobStep}
use Rattle.rt_model.specs.declared.reply.Reply.{Reply}
use Rattle.rt_repair.specs.Lasting.{IsRepairOver, IsRetireOver}
use Rattle.rt_repair.specs.Repairing.{IsUnended as repair_unended}
use Rattle.rt_repair.specs.Retirement.{IsUnended as retire_unended}
use Rattle.rt_state.specs.Lives.{crash_server_due, crash_server_tests, restart_controller_due, restart_controller_tests, restart_server_due, restart_server_tests}
use Rattle.rt_state.specs.Messages.{deliver_due, deliver_tests, reply_by, reply_due}
use Rattle.rt_nodes.specs.declared.chore.Chore.{Chore}
use Rattle.rt_nodes.specs.declared.chore.Chore.TheVariants.{Repair, Retire}
use Rattle.rt_state.specs.Repairs.{IsReadyFor, IsReadyRepair, IsReadyRetirement, begun, believes_at, chore_by, chore_due, chore_tests, find_upkeep, retain_by, retirement_in, retiring, set_by, upkeep_at, upkeep_in}
use Rattle.rt_state.specs.Room.{counted, message_cost, no_cost, priced, set_cost, time_cost}
use Rattle.rt_state.specs.Stream.{produce_due}
use Rattle.rt_nodes.specs.declared.controller_node.ControllerNode.{ControllerNode}
use Rattle.rt_state.specs.declared.cost.Cost.{Cost}
use Rattle.rt_state.specs.declared.state.State.{State}
use Rattle.rt_nodes.specs.declared.upkeep.Upkeep.{Upkeep}

-- ---- the clock and the stream

pub tick_needs : (w : State) (millis : ℕ) (cost : Cost) → tick_due w millis ≡ Ok cost → (w.moment.0 + millis < 2 ^ 64) × Spends w cost
tick_needs w millis cost h =
    (omega (arith, (priced_room w (time_cost millis) cost h).1.moment), priced_spends w (time_cost millis) cost h)

pub lead_needs : (w : State) (c : ControllerId) (cost : Cost) → lead_due w c ≡ Ok cost → (c.0 < length w.controllers) × Spends w cost
lead_needs w c cost h =
    let found = then_passed (find_controller w c) (priced w no_cost) cost h in
    ((controller_there w c found.0).controller, priced_spends w no_cost cost found.1)

pub produce_needs : (w : State) (p : Partition) (message : List ℕ) (cost : Cost) → IsSafeWorld w → produce_due w p message ≡ Ok cost
    → (p.0 < length w.log) × (length message ≤ LONGEST_MESSAGE) × Spends w cost
produce_needs w p message cost s h =
    let there = only_passed (has_partition w p) NoSuchNode (priced w (message_cost (length message))) cost h in (
      omega (arith, ltb-true p.0 w.setup.partitions there.0, s.safe.past.partitions),
      (priced_room w (message_cost (length message)) cost there.1).1.message,
      priced_spends w (message_cost (length message)) cost there.1,
    )

-- ---- lives

pub crash_server_needs : (w : State) (i : Instance) (cost : Cost) → crash_server_due w i ≡ Ok cost → (i.0 < length w.servers) × Spends w cost
crash_server_needs w i cost h =
    (ltb-true _ _ (only_passed (has_server w i) NoSuchNode _ cost h).0, met_spends w (crash_server_tests w i) no_cost cost h)

pub restart_server_needs : (w : State) (i : Instance) (cost : Cost) → restart_server_due w i ≡ Ok cost → (i.0 < length w.servers) × Spends w cost
restart_server_needs w i cost h =
    (ltb-true _ _ (only_passed (has_server w i) NoSuchNode _ cost h).0, met_spends w (restart_server_tests w i) no_cost cost h)

pub restart_controller_needs : (w : State) (c : ControllerId) (cost : Cost) → restart_controller_due w c ≡ Ok cost
    → (c.0 < length w.controllers) × Spends w cost
restart_controller_needs w c cost h =
    (ltb-true _ _ (only_passed (has_controller w c) NoSuchNode _ cost h).0, met_spends w (restart_controller_tests w c) no_cost cost h)

-- ---- messages and jobs

node_at : (w : State) (c : ControllerId) (n : ControllerNode) → IsSafeWorld w → slice_get w.controllers c.0 ≡ Some n
    → IsControllerAt w.setup (past_of w) c.0 n
node_at w c n s found = s.safe.controllers c.0 n found

pub deliver_needs : (w : State) (m : ℕ) (c : ControllerId) (cost : Cost) → IsSafeWorld w → deliver_due w m c ≡ Ok cost
    → (is_some (request_at w m) ≡ true) × (c.0 < length w.controllers)
    × ((n : ControllerNode) → slice_get w.controllers c.0 ≡ Some n → n.controller.started < 2 ^ 63) × Spends w cost
deliver_needs w m c cost s h =
    let there = only_passed (has_controller w c) NoSuchNode _ cost h in (
      (only_passed (is_some (request_at w m)) NoSuchMessage _ cost there.1).0,
      ltb-true _ _ there.0,
      λ n found. omega (arith, s.few.started c.0 n found, s.few.events),
      met_spends w (deliver_tests w m c) no_cost cost h,
    )

pub job_needs : (w : State) (c : ControllerId) (j : ℕ) (cost : Cost) → IsSafeWorld w → job_due w c j ≡ Ok cost
    → (has_job w c j ≡ true) × (c.0 < length w.controllers) × (w.moment.0 ≤ LAST_MOMENT)
    × ((n : ControllerNode) → slice_get w.controllers c.0 ≡ Some n → (s : Starting) × IsController s w.store.writes n.controller)
    × Spends w cost
job_needs w c j cost s h =
    let there = only_passed (has_controller w c) NoSuchNode _ cost h in (
      (only_passed (has_job w c j) NoSuchMessage _ cost there.1).0,
      ltb-true _ _ there.0,
      s.few.moment,
      λ n found. (starting_of w.setup, ready_over w.setup (past_of w) n.controller s.safe.setup s.safe.past (node_at w c n s found).over),
      met_spends w (job_tests w c j) (set_cost (sets_of_job w c j)) cost h,
    )

-- ---- repairs

pub record IsUpkeepThere (w : State) (c : ControllerId) (p : Partition) : Type 0 where
  pub controller : c.0 < length w.controllers
  pub partition : p.0 < w.setup.partitions

upkeep_there : (w : State) (c : ControllerId) (p : Partition) → find_upkeep w c p ≡ Ok tt → IsUpkeepThere w c p
upkeep_there w c p h =
    let a = only_passed (has_controller w c && has_partition w p) NoSuchNode _ tt h in
    let has = both (has_controller w c) (has_partition w p) a.0 in
    record { controller = ltb-true _ _ has.0; partition = ltb-true _ _ has.1 }

begun_ready : (w : State) (p : Partition) (u : Upkeep) (r : Option Repairing) → IsSafeWorld w → p.0 < w.setup.partitions
    → u.repair ≡ r → IsUpkeepAt w.setup (past_of w) p.0 u → IsReadyRepair w.store.writes (begun w.setup p r)
begun_ready w p u None s within e k = (
  tt,
  (
    starting_of w.setup,
    repair_ready w.setup (past_of w) (repair_beginning p w.setup) s.safe.setup s.safe.past
        (repair_begins_over w.setup (past_of w) p within),
  ),
)
begun_ready w p u (Some r) s within e k = (
  subst (λ o. IfSome o (λ x. repair_unended x.stage)) e k.repair_goes,
  (
    starting_of w.setup,
    repair_ready w.setup (past_of w) r s.safe.setup s.safe.past
        (subst (λ o. IfSome o (IsRepairOver w.setup (past_of w))) e k.repair),
  ),
)

-- a retirement begins with the retention, where one is set
pub retention_kept : (o : Option ℕ) → IsSome o → Some (unwrap_or o 0) ≡ o
retention_kept None set = absurd (cc)
retention_kept (Some keep) set = refl

retiring_ready : (w : State) (p : Partition) (u : Upkeep) (r : Option Retirement) → IsSafeWorld w → p.0 < w.setup.partitions
    → (IsNone r → IsSome w.setup.retention) → u.retirement ≡ r → IsUpkeepAt w.setup (past_of w) p.0 u
    → IsReadyRetirement w.store.writes (retiring w.setup p r)
retiring_ready w p u None s within set e k = (
  tt,
  (
    starting_of w.setup,
    retire_ready w.setup (past_of w) (retire_beginning p (unwrap_or w.setup.retention 0)) s.safe.setup s.safe.past
        (retire_begins_over w.setup (past_of w) p (unwrap_or w.setup.retention 0) within (retention_kept w.setup.retention (set refl))),
  ),
)
retiring_ready w p u (Some r) s within set e k = (
  subst (λ o. IfSome o (λ x. retire_unended x.stage)) e k.retirement_goes,
  (
    starting_of w.setup,
    retire_ready w.setup (past_of w) r s.safe.setup s.safe.past
        (subst (λ o. IfSome o (IsRetireOver w.setup (past_of w))) e k.retirement),
  ),
)

-- a retirement begins only where a retention is set
pub retain_keeps : (w : State) (c : ControllerId) (r : Option Retirement) (cost : Cost) → retain_by w c r ≡ Ok cost → IsNone r → IsSome w.setup.retention
retain_keeps w c None cost h none =
    let test = only_passed (is_some w.setup.retention && believes_at w c) NothingToDo (priced w no_cost) cost h in
    (both (is_some w.setup.retention) (believes_at w c) test.0).0
retain_keeps w c (Some r) cost h none = absurd (cc)

retirement_there : (w : State) (c : ControllerId) (p : Partition) (n : ControllerNode) (u : Upkeep)
    → slice_get w.controllers c.0 ≡ Some n → slice_get n.upkeep p.0 ≡ Some u → retirement_in (upkeep_at w c p) ≡ u.retirement
retirement_there w c p n u found stands = ap (λ o. retirement_in (upkeep_in o p)) found ∙ ap (λ o. retirement_in o) stands

chore_ready : (w : State) (c : ControllerId) (p : Partition) (n : ControllerNode) (u : Upkeep) (chore : Chore) (cost : Cost) → IsSafeWorld w → p.0 < w.setup.partitions
    → slice_get w.controllers c.0 ≡ Some n → slice_get n.upkeep p.0 ≡ Some u → IsUpkeepAt w.setup (past_of w) p.0 u
    → chore_by chore w c (upkeep_at w c p) ≡ Ok cost → IsReadyFor chore w.setup w.store.writes p u
chore_ready w c p n u Repair cost s within found stands k due = begun_ready w p u u.repair s within refl k
chore_ready w c p n u Retire cost s within found stands k due =
    let set : IsNone u.retirement → IsSome w.setup.retention =
    λ none. retain_keeps w c (retirement_in (upkeep_at w c p)) cost due
    (subst (λ o. IsNone o) (sym (retirement_there w c p n u found stands)) none)
    in (set, retiring_ready w p u u.retirement s within set refl k)

pub chore_needs : (w : State) (c : ControllerId) (p : Partition) (chore : Chore) (cost : Cost) → IsSafeWorld w → chore_due w c p chore ≡ Ok cost
    → (c.0 < length w.controllers) × IsSetup w.setup × (p.0 < w.setup.partitions) × (w.moment.0 ≤ LAST_MOMENT)
    × ((n : ControllerNode) → slice_get w.controllers c.0 ≡ Some n → (p.0 < length n.upkeep)
    × ((u : Upkeep) → slice_get n.upkeep p.0 ≡ Some u → IsReadyFor chore w.setup w.store.writes p u))
    × Spends w cost
chore_needs w c p chore cost s h =
    let found = then_passed (find_upkeep w c p) (chore_by chore w c (upkeep_at w c p)) cost h in
    let there = upkeep_there w c p found.0 in (
      there.controller,
      s.safe.setup,
      there.partition,
      s.few.moment,
      λ n at.
          let node = node_at w c n s at in (
            omega (arith, there.partition, node.partitions),
            λ u stands. chore_ready w c p n u chore cost s there.partition at stands (node.upkeep p.0 u stands) found.1,
          ),
      met_spends w (chore_tests w c p chore) (set_cost (set_by chore (upkeep_at w c p) w.moment)) cost h,
    )

-- ---- what a job's step tells

stepped_told_by : (w : State) (cost : Cost) (step : JobStep) (r : Option Reply)
    → stepped_by w cost step r ≡ (counted (job_told_by w step r).0 cost, (job_told_by w step r).1)
stepped_told_by w cost step None = refl
stepped_told_by w cost step (Some r) = refl

pub stepped_told : (w : State) (cost : Cost) (step : JobStep) → stepped w cost step ≡ (counted (job_told w step).0 cost, (job_told w step).1)
stepped_told w cost step = stepped_told_by w cost step step.reply

-- ---- shows

pub show_needs : (w : State) (p : Partition) (cost : Cost) → show_meta_due w p ≡ Ok cost → Spends w cost
show_needs w p cost h = met_spends w (partition_tests w p) no_cost cost h

-- ---- replies

reply_some : (w : State) (o : Option Reply) (cost : Cost) → reply_by w o ≡ Ok cost
    → (r : Reply) × (o ≡ Some r) × (is_server_up w r.number.instance ≡ true) × (priced w no_cost ≡ Ok cost)
reply_some w None cost h = absurd (cc)
reply_some w (Some r) cost h =
    let t = only_passed (is_server_up w r.number.instance) NodeDown (priced w no_cost) cost h in (r, refl, t.0, t.1)

up_within : (ns : List ServerNode) (i : ℕ) (o : Option ServerNode) → slice_get ns i ≡ o → is_up o ≡ true → i < length ns
up_within ns i None e h = absurd (cc)
up_within ns i (Some n) e h = slice_get_within ns i n e

pub reply_needs : (w : State) (m : ℕ) (cost : Cost) → reply_due w m ≡ Ok cost
    → (r : Reply) × (reply_at w m ≡ Some r) × (r.number.instance.0 < length w.servers) × Spends w cost
reply_needs w m cost h =
    let due = reply_some w (reply_at w m) cost h in
    (due.0, due.1, up_within w.servers due.0.number.instance.0 (slice_get w.servers due.0.number.instance.0) refl due.2, priced_spends w no_cost cost due.3)
