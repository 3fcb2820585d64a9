-- A step of a chore keeps a world safe.
use Rattle.std.proofs.Common.{◌≡◌, ℕ, ◌+◌, ◌<◌, ◌≤◌, Bool, true, false, cond, Ok, Err, Option, Some, None, refl, sym, ◌∙◌, ap, subst, slice_get, length, arith, ◌&&◌}
use Rattle.std.specs.Prelude.{slice_set, IfSome, IsNone, IsSome}
use Rattle.std.proofs.lemmas.Bool.{ltb-true, and_parts, true≢false}
use Rattle.std.proofs.lemmas.List.{length-set}
use Rattle.std.proofs.lemmas.Option.{none-some, same_Some}
use Rattle.rt_base.specs.declared.numbers.ControllerId.{ControllerId}
use Rattle.rt_base.specs.declared.numbers.Moment.{Moment}
use Rattle.rt_base.specs.declared.numbers.Partition.{Partition}
use Rattle.rt_events.specs.declared.refusal.Refusal.TheVariants.{NoSuchNode}
use Rattle.rt_model.specs.declared.setup.Setup.{Setup}
use Rattle.rt_past.specs.IsPast.{IsPast, GrowsRight}
use Rattle.rt_past.specs.Past.{Past, Grows, with_history}
use Rattle.rt_repair.specs.declared.repair.RepairStage.{RepairStage}
use Rattle.rt_repair.specs.declared.repair.RepairStage.TheVariants as repair
use Rattle.rt_repair.specs.declared.repair_step.RepairStep.{RepairStep}
use Rattle.rt_repair.specs.declared.retirement.RetireStage.{RetireStage}
use Rattle.rt_repair.specs.declared.retirement.RetireStage.TheVariants as retirement
use Rattle.rt_repair.specs.declared.retiring.RetireStep.{RetireStep}
use Rattle.rt_repair.specs.Lasting.{IsRepairOver, IsRetireOver}
use Rattle.rt_repair.specs.RepairSteps as of_repair
use Rattle.rt_repair.specs.RetireSteps as of_retire
use Rattle.rt_repair.specs.Repairing.{Repairing, is_ended, IsUnended as IsUnendedRepair}
use Rattle.rt_repair.specs.Retirement.{Retirement, is_ended as retire_is_ended, IsUnended as IsUnendedRetirement}
use Rattle.rt_repair.proofs.Growing.{repair_lasts, retire_lasts, repair_begins_over, retire_begins_over}
use Rattle.rt_repair.proofs.RightRepair.{repair_past, repair_kept}
use Rattle.rt_repair.proofs.RightRetire.{retire_past, retire_kept}
use Rattle.rt_repair.proofs.Telling.{told_repair, told_retire}
use Rattle.rt_store.specs.Meaning.{Meaning, Told}
use Rattle.rt_store.specs.Memory.{means}
use Rattle.rt_store.specs.declared.refused.StoreRefused.{StoreRefused}
use Rattle.rt_store.specs.declared.refused.StoreRefused.TheVariants.{NoNode, Exists, VersionChanged, Failed, Memory}
use Rattle.rt_state.specs.Applying.{Next}
use Rattle.rt_state.specs.Finding.{has_controller, has_partition}
use Rattle.rt_state.specs.IsSafe.{IsUpkeepAt, IsSafe, past_of}
use Rattle.rt_state.specs.IsSafeWorld.{IsSafeWorld}
use Rattle.rt_state.proofs.NeedsNodes.{retain_keeps as retention_needed, retention_kept}
use Rattle.rt_nodes.specs.declared.chore.Chore.{Chore}
use Rattle.rt_nodes.specs.declared.chore.Chore.TheVariants.{Repair, Retire}
use Rattle.rt_events.specs.declared.outcome.Outcome.{Outcome}
use Rattle.rt_state.specs.Repairs.{upkeep_in, upkeep_at, find_upkeep, after_upkeep, begun, going_on, UpkeepRepairs, UpkeepSteps, retain_by, retirement_in, retiring, retiring_on, UpkeepRetires, chore_by, chore_due, KeepsAt, Keeps}
use Rattle.rt_state.specs.Room.{set_cost, priced}
use Rattle.rt_nodes.specs.declared.controller_node.ControllerNode.{ControllerNode}
use Rattle.rt_state.specs.declared.cost.Cost.{Cost}
use Rattle.rt_state.specs.declared.state.State.{State}
use Rattle.rt_nodes.specs.declared.upkeep.Upkeep.{Upkeep}
use Rattle.rt_world.proofs.Few.{few_after, one_started}
use Rattle.rt_world.proofs.KeepsJobs.{set_counted}
use Rattle.rt_world.proofs.Places.{at_set}
use Rattle.rt_state.proofs.Possible.{came, only_passed, then_passed, HasRoom, priced_room}
use Rattle.rt_world.proofs.Sets.{drawn_same, safe_grows, controller_set}
use Rattle.rt_world.proofs.Topics.{if_some, controller_at_grows}
use Rattle.rt_world.proofs.WritesOnce.{repair_few, retire_few}
use Rattle.rt_world.specs.Step.{set_by}

-- ---- what is under way is put back

-- what a step leaves: all that there is has grown to a right past, by one write at most, and what is under way is right there
pub record UpkeepWrites (w : State) (p : Partition) (new : Upkeep) (store : Told) : Type 0 where
  pub grows : Grows (past_of w) (with_history (past_of w) store.writes)
  pub right : IsPast w.setup (with_history (past_of w) store.writes)
  pub few : length store.writes ≤ length w.store.writes + 1
  pub upkeep : IsUpkeepAt w.setup (with_history (past_of w) store.writes) p.0 new

upkeep_put : (w : State) (c : ControllerId) (p : Partition) (n : ControllerNode) (new : Upkeep) (store : Told) (sets : Option ℕ) (cost : Cost) → IsSafeWorld w
    → slice_get w.controllers c.0 ≡ Some n → priced w (set_cost sets) ≡ Ok cost → UpkeepWrites w p new store → IsSafeWorld (after_upkeep w c p n new store cost)
upkeep_put w c p n new store sets cost s there possible k =
    let a = past_of w in
    let b = with_history a store.writes in
    let room = priced_room w (set_cost sets) cost possible in
    let on = controller_at_grows w.setup a b k.grows c.0 n (s.safe.controllers c.0 n there) in
    let f = s.few in
    let set = set_counted w.counts cost (length w.store.writes) (length store.writes) in
    record {
      safe =
          controller_set w.setup b w.servers w.controllers w.queries c.0 (record n { upkeep = slice_set n.upkeep p.0 new })
          (safe_grows w.setup a b w.servers w.controllers w.queries s.safe k.grows k.right (drawn_same a b w.servers refl s.safe.drawn))
          (record {
            over = on.over;
            placed = on.placed;
            partitions = length-set n.upkeep p.0 new ∙ on.partitions;
            upkeep = at_set (IsUpkeepAt w.setup b) n.upkeep p.0 new k.upkeep on.upkeep;
          });
      few =
          few_after w (after_upkeep w c p n new store cost) cost (subst (HasRoom w) room.0 room.1)
          (record {
            setup = refl;
            events = omega (arith, set.events);
            written = k.few;
            sent = omega arith;
            appended = omega arith;
            asked = omega arith;
            started = one_started w c.0 (record n { upkeep = slice_set n.upkeep p.0 new }) f (omega (arith, f.started c.0 n there));
            unanswered = omega (arith, set.unanswered, f.unanswered, ap (λ (x : Cost). x.queries) room.0);
            few_unanswered = omega (arith, set.unanswered);
            uploads = omega (arith, set.uploads);
            stored = set.stored;
            moment = omega arith;
          })
          f;
    }

-- the partition is one of the setup
pub found_within : (w : State) (c : ControllerId) (p : Partition) → find_upkeep w c p ≡ came tt → p.0 < w.setup.partitions
found_within w c p e =
    let both = only_passed (has_controller w c && has_partition w p) NoSuchNode _ tt e in
    ltb-true p.0 w.setup.partitions (and_parts (has_controller w c) (has_partition w p) both.0).1

-- what is under way for the partition
pub upkeep_there : (w : State) (c : ControllerId) (p : Partition) (n : ControllerNode) (old : Upkeep) → IsSafe w → slice_get w.controllers c.0 ≡ Some n
    → upkeep_at w c p ≡ Some old → IsUpkeepAt w.setup (past_of w) p.0 old
upkeep_there w c p n old s there e = (s.controllers c.0 n there).upkeep p.0 old (ap (λ o. upkeep_in o p) (sym there) ∙ e)

-- ---- a repair

begun_over : (setup : Setup) (past : Past) (p : Partition) (o : Option Repairing) → p.0 < setup.partitions → IfSome o (IsRepairOver setup past)
    → IsRepairOver setup past (begun setup p o)
begun_over setup past p None within k = repair_begins_over setup past p within
begun_over setup past p (Some r) within k = k

going_over : (setup : Setup) (past : Past) (r : Repairing) → IsRepairOver setup past r → IfSome (going_on r) (IsRepairOver setup past)
going_over setup past r k = by_test (is_ended r.stage)
  where
    by_test : (b : Bool) → IfSome (cond b None (Some r)) (IsRepairOver setup past)
    by_test true = tt
    by_test false = k

unended : (stage : RepairStage) → is_ended stage ≡ false → IsUnendedRepair stage
unended repair.Listing e = tt
unended (repair.Reading last follows) e = tt
unended (repair.Writing last follows ideal) e = tt
unended repair.Ended e = absurd (true≢false e)

going_unended : (r : Repairing) → IfSome (going_on r) (λ x. IsUnendedRepair x.stage)
going_unended r = by_test (is_ended r.stage) refl
  where
    by_test : (b : Bool) → is_ended r.stage ≡ b → IfSome (cond b None (Some r)) (λ x. IsUnendedRepair x.stage)
    by_test true e = tt
    by_test false e = unended r.stage e

-- it goes on with its partition
begun_its : (setup : Setup) (p : Partition) (o : Option Repairing) → IfSome o (λ r. r.partition.0 ≡ p.0) → (begun setup p o).partition.0 ≡ p.0
begun_its setup p None k = refl
begun_its setup p (Some r) k = k

going_its : (p : ℕ) (r : Repairing) → r.partition.0 ≡ p → IfSome (going_on r) (λ x. x.partition.0 ≡ p)
going_its p r k = by_test (is_ended r.stage)
  where
    by_test : (b : Bool) → IfSome (cond b None (Some r)) (λ x. x.partition.0 ≡ p)
    by_test true = tt
    by_test false = k

fails_its : (r : Repairing) (refused : StoreRefused) (x : of_repair.Stepped) → of_repair.fails r refused ≡ Some x → x.repair.partition ≡ r.partition
fails_its r NoNode x e = ap (λ (y : of_repair.Stepped). y.repair.partition) (sym (same_Some _ x e))
fails_its r (Exists found) x e = ap (λ (y : of_repair.Stepped). y.repair.partition) (sym (same_Some _ x e))
fails_its r (VersionChanged expected found) x e = ap (λ (y : of_repair.Stepped). y.repair.partition) (sym (same_Some _ x e))
fails_its r Failed x e = ap (λ (y : of_repair.Stepped). y.repair.partition) (sym (same_Some _ x e))
fails_its r Memory x e = absurd (none-some x e)

repair_its : (old new : Meaning) (r : Repairing) (now : Moment) (x : of_repair.Stepped) (stage : RepairStage) → of_repair.StepsAt old new r now x stage
    → x.repair.partition ≡ r.partition
repair_its old new r now x repair.Listing (Ok nodes, lists, e) = ap (λ (y : of_repair.Stepped). y.repair.partition) (sym (same_Some _ x e))
repair_its old new r now x repair.Listing (Err refused, lists, e) = fails_its r refused x e
repair_its old new r now x (repair.Reading last follows) (Ok ideal, reads, e) = ap (λ (y : of_repair.Stepped). y.repair.partition) (sym (same_Some _ x e))
repair_its old new r now x (repair.Reading last follows) (Err refused, reads, e) = fails_its r refused x e
repair_its old new r now x (repair.Writing last follows ideal) (goes, does) = ap (λ (y : Repairing). y.partition) goes
repair_its old new r now x repair.Ended none = absurd none

pub repair_writes : (w : State) (p : Partition) (old new : Upkeep) (store : Told) (did : RepairStep) → IsSafe w → p.0 < w.setup.partitions
    → IsUpkeepAt w.setup (past_of w) p.0 old → UpkeepRepairs w.setup p w.moment w.store store old new did → UpkeepWrites w p new store
repair_writes w p old new store did s within k (after, steps, is) =
    let a = past_of w in
    let r = begun w.setup p old.repair in
    let over = begun_over w.setup a p old.repair within k.repair in
    let x : of_repair.Stepped = record { repair = after; step = did } in
    let left = told_repair w.store store r w.moment x steps in
    let grown = repair_past w.setup a w.store r w.moment s.setup s.past over in
    let kept = repair_kept w.setup a w.store r w.moment x s.setup s.past over left.1 in
    let G : Told → Type 0 = λ u. GrowsRight w.setup a (with_history a u.writes) in
    let K : Told → Type 0 = λ u. IsRepairOver w.setup (with_history a u.writes) after in
    let F : Told → Type 0 = λ u. length u.writes ≤ length w.store.writes + 1 in
    let grows = subst G (sym left.0) grown in
    record {
      grows = grows.grows;
      right = grows.right;
      few = subst F (sym left.0) (repair_few w.store r w.moment r.stage);
      upkeep =
          subst (IsUpkeepAt w.setup (with_history a store.writes) p.0) (sym is)
          (record {
            repair = going_over w.setup (with_history a store.writes) after (subst K (sym left.0) kept);
            repair_goes = going_unended after;
            repairs_its =
                going_its p.0 after
                (ap (λ (y : Partition). y.0) (repair_its (means w.store) (means store) r w.moment x r.stage steps) ∙ begun_its w.setup p old.repair k.repairs_its);
            retirement =
                if_some (IsRetireOver w.setup a) (IsRetireOver w.setup (with_history a store.writes))
                (λ t. retire_lasts w.setup a (with_history a store.writes) t grows.grows) old.retirement k.retirement;
            retirement_goes = k.retirement_goes;
            retires_its = k.retires_its;
          });
    }

-- ---- a retirement

retiring_over : (setup : Setup) (past : Past) (p : Partition) (o : Option Retirement) → p.0 < setup.partitions → (IsNone o → IsSome setup.retention)
    → IfSome o (IsRetireOver setup past) → IsRetireOver setup past (retiring setup p o)
retiring_over setup past p None within set k = retire_begins_over setup past p _ within (retention_kept setup.retention (set refl))
retiring_over setup past p (Some r) within set k = k

retiring_on_over : (setup : Setup) (past : Past) (r : Retirement) → IsRetireOver setup past r → IfSome (retiring_on r) (IsRetireOver setup past)
retiring_on_over setup past r k = by_test (retire_is_ended r.stage)
  where
    by_test : (b : Bool) → IfSome (cond b None (Some r)) (IsRetireOver setup past)
    by_test true = tt
    by_test false = k

unended_retirement : (stage : RetireStage) → retire_is_ended stage ≡ false → IsUnendedRetirement stage
unended_retirement retirement.Listing e = tt
unended_retirement (retirement.Reading lowest) e = tt
unended_retirement (retirement.Writing lowest ideal) e = tt
unended_retirement retirement.Ended e = absurd (true≢false e)

retiring_unended : (r : Retirement) → IfSome (retiring_on r) (λ x. IsUnendedRetirement x.stage)
retiring_unended r = by_test (retire_is_ended r.stage) refl
  where
    by_test : (b : Bool) → retire_is_ended r.stage ≡ b → IfSome (cond b None (Some r)) (λ x. IsUnendedRetirement x.stage)
    by_test true e = tt
    by_test false e = unended_retirement r.stage e

-- a retirement that begins has a retention that is set
pub retention_set : (w : State) (c : ControllerId) (p : Partition) (old : Upkeep) (cost : Cost) → upkeep_at w c p ≡ Some old
    → retain_by w c (retirement_in (upkeep_at w c p)) ≡ Ok cost → IsNone old.retirement → IsSome w.setup.retention
retention_set w c p old cost at due none =
    retention_needed w c (retirement_in (upkeep_at w c p)) cost due
    (subst (λ o. IsNone (retirement_in o)) (sym at) none)

-- it goes on with its partition
pub retiring_its : (setup : Setup) (p : Partition) (o : Option Retirement) → IfSome o (λ r. r.partition.0 ≡ p.0) → (retiring setup p o).partition.0 ≡ p.0
retiring_its setup p None k = refl
retiring_its setup p (Some r) k = k

retiring_on_its : (p : ℕ) (r : Retirement) → r.partition.0 ≡ p → IfSome (retiring_on r) (λ x. x.partition.0 ≡ p)
retiring_on_its p r k = by_test (retire_is_ended r.stage)
  where
    by_test : (b : Bool) → IfSome (cond b None (Some r)) (λ x. x.partition.0 ≡ p)
    by_test true = tt
    by_test false = k

retire_fails_its : (r : Retirement) (refused : StoreRefused) (x : of_retire.Stepped) → of_retire.fails r refused ≡ Some x → x.retire.partition ≡ r.partition
retire_fails_its r NoNode x e = ap (λ (y : of_retire.Stepped). y.retire.partition) (sym (same_Some _ x e))
retire_fails_its r (Exists found) x e = ap (λ (y : of_retire.Stepped). y.retire.partition) (sym (same_Some _ x e))
retire_fails_its r (VersionChanged expected found) x e = ap (λ (y : of_retire.Stepped). y.retire.partition) (sym (same_Some _ x e))
retire_fails_its r Failed x e = ap (λ (y : of_retire.Stepped). y.retire.partition) (sym (same_Some _ x e))
retire_fails_its r Memory x e = absurd (none-some x e)

retire_its : (old new : Meaning) (r : Retirement) (now : Moment) (x : of_retire.Stepped) (stage : RetireStage) → of_retire.StepsAt old new r now x stage
    → x.retire.partition ≡ r.partition
retire_its old new r now x retirement.Listing (Ok nodes, lists, e) = ap (λ (y : of_retire.Stepped). y.retire.partition) (sym (same_Some _ x e))
retire_its old new r now x retirement.Listing (Err refused, lists, e) = retire_fails_its r refused x e
retire_its old new r now x (retirement.Reading lowest) (Ok ideal, reads, e) = ap (λ (y : of_retire.Stepped). y.retire.partition) (sym (same_Some _ x e))
retire_its old new r now x (retirement.Reading lowest) (Err refused, reads, e) = retire_fails_its r refused x e
retire_its old new r now x (retirement.Writing lowest ideal) (goes, does) = ap (λ (y : Retirement). y.partition) goes
retire_its old new r now x retirement.Ended none = absurd none

pub retire_writes : (w : State) (p : Partition) (old new : Upkeep) (store : Told) (did : RetireStep) → IsSafe w → p.0 < w.setup.partitions
    → (IsNone old.retirement → IsSome w.setup.retention) → IsUpkeepAt w.setup (past_of w) p.0 old → UpkeepRetires w.setup p w.moment w.store store old new did → UpkeepWrites w p new store
retire_writes w p old new store did s within set k (after, steps, is) =
    let a = past_of w in
    let r = retiring w.setup p old.retirement in
    let over = retiring_over w.setup a p old.retirement within set k.retirement in
    let x : of_retire.Stepped = record { retire = after; step = did } in
    let left = told_retire w.store store r w.moment x steps in
    let grown = retire_past w.setup a w.store r w.moment s.setup s.past over in
    let kept = retire_kept w.setup a w.store r w.moment x s.setup s.past over left.1 in
    let G : Told → Type 0 = λ u. GrowsRight w.setup a (with_history a u.writes) in
    let K : Told → Type 0 = λ u. IsRetireOver w.setup (with_history a u.writes) after in
    let F : Told → Type 0 = λ u. length u.writes ≤ length w.store.writes + 1 in
    let grows = subst G (sym left.0) grown in
    record {
      grows = grows.grows;
      right = grows.right;
      few = subst F (sym left.0) (retire_few w.store r w.moment r.stage);
      upkeep =
          subst (IsUpkeepAt w.setup (with_history a store.writes) p.0) (sym is)
          (record {
            repair =
                if_some (IsRepairOver w.setup a) (IsRepairOver w.setup (with_history a store.writes))
                (λ t. repair_lasts w.setup a (with_history a store.writes) t grows.grows) old.repair k.repair;
            repair_goes = k.repair_goes;
            repairs_its = k.repairs_its;
            retirement = retiring_on_over w.setup (with_history a store.writes) after (subst K (sym left.0) kept);
            retirement_goes = retiring_unended after;
            retires_its =
                retiring_on_its p.0 after
                (ap (λ (y : Partition). y.0) (retire_its (means w.store) (means store) r w.moment x r.stage steps) ∙ retiring_its w.setup p old.retirement k.retires_its);
          });
    }

-- ---- any chore

-- a retirement that begins has a retention that is set
abbrev pub Begins : Chore → State → Upkeep → Type 0
Begins Repair w old = Unit {0}
Begins Retire w old = IsNone old.retirement → IsSome w.setup.retention

pub chore_begins : (w : State) (c : ControllerId) (p : Partition) (chore : Chore) (old : Upkeep) (cost : Cost) → upkeep_at w c p ≡ Some old
    → chore_by chore w c (upkeep_at w c p) ≡ Ok cost → Begins chore w old
chore_begins w c p Repair old cost at due = tt
chore_begins w c p Retire old cost at due = retention_set w c p old cost at due

pub chore_writes : (w : State) (p : Partition) (chore : Chore) (old new : Upkeep) (store : Told) (outcome : Outcome) → IsSafe w → p.0 < w.setup.partitions
    → Begins chore w old → IsUpkeepAt w.setup (past_of w) p.0 old → UpkeepSteps chore w.setup p w.moment w.store store old new outcome → UpkeepWrites w p new store
chore_writes w p Repair old new store outcome s within begins k (did, steps, told) = repair_writes w p old new store did s within k steps
chore_writes w p Retire old new store outcome s within begins k (did, steps, told) = retire_writes w p old new store did s within begins k steps

pub chore_keeps : (w : State) (c : ControllerId) (p : Partition) (chore : Chore) (cost : Cost) (x : Next) → IsSafeWorld w → chore_due w c p chore ≡ Ok cost
    → priced w (set_cost (set_by chore (upkeep_at w c p) w.moment)) ≡ Ok cost → Keeps w c p chore cost x → IsSafeWorld x.0
chore_keeps w c p chore cost x s possible room h = by_found (slice_get w.controllers c.0) refl (upkeep_at w c p) refl h
  where
    by_found : (o : Option ControllerNode) → slice_get w.controllers c.0 ≡ o → (u : Option Upkeep) → upkeep_at w c p ≡ u → KeepsAt o u w c p chore cost x → IsSafeWorld x.0
    by_found None there u at h = absurd h
    by_found (Some n) there None at h = absurd h
    by_found (Some n) there (Some old) at (new, store, steps, is) =
        let due = then_passed (find_upkeep w c p) (chore_by chore w c (upkeep_at w c p)) cost possible in
        subst IsSafeWorld (sym is)
        (upkeep_put w c p n new store (set_by chore (upkeep_at w c p) w.moment) cost s there room
        (chore_writes w p chore old new store x.1 s.safe (found_within w c p due.0) (chore_begins w c p chore old cost at due.1)
        (upkeep_there w c p n old s.safe there at) steps))
