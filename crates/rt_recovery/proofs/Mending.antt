-- Repairs of each partition, one after the other, leave none that needs one.
use Rattle.std.proofs.Common.{◌≡◌, ◌⊎◌, inl, inr, ℕ, zero, suc, ◌+◌, ◌<◌, ◌≤◌, Bool, true, false, cond, not, nat_lt, List, [], ◌∷◌, ◌++◌, Option, Some, None, Ok, refl, sym, ◌∙◌, ap, subst, arith, slice_get}
use Rattle.std.specs.Prelude.{slice_set, IfSome}
use Rattle.std.proofs.lemmas.Bool.{cases_lt, cond-false, cond_both, le-ltb}
use Rattle.std.proofs.lemmas.Option.{same_Some}
use Rattle.rt_base.specs.declared.limits.TheConstants.{LAST_NUMBER}
use Rattle.rt_base.specs.declared.numbers.ControllerId.{ControllerId}
use Rattle.rt_base.specs.declared.numbers.Moment.{Moment}
use Rattle.rt_base.specs.declared.numbers.Partition.{Partition}
use Rattle.rt_base.specs.declared.numbers.Sequence.{Sequence}
use Rattle.rt_broker.proofs.Lasting.{got_of_set}
use Rattle.rt_controller.specs.Controller.{Controlling}
use Rattle.rt_events.specs.declared.event.Event.TheVariants as event
use Rattle.rt_events.specs.declared.outcome.Outcome.{Outcome}
use Rattle.rt_events.specs.declared.outcome.Outcome.TheVariants as told
use Rattle.rt_lists.proofs.Members.{Has-push_cases}
use Rattle.rt_lists.specs.Members.{Has}
use Rattle.rt_macros.specs.Doing.{Happens, Passed, Reached}
use Rattle.rt_model.proofs.Histories.{same_partition}
use Rattle.rt_model.proofs.Lawful.{has_ideal_state}
use Rattle.rt_model.proofs.Listings.{listed_has}
use Rattle.rt_model.specs.Entries.{entries_by, entries_of}
use Rattle.rt_model.specs.Ideal.{has_entry}
use Rattle.rt_model.specs.Metadata.{metadata_of, IsInProgress}
use Rattle.rt_model.specs.Moments.{later}
use Rattle.rt_model.specs.Repair.{are_offline, decide_by, decide_last, last_listed}
use Rattle.rt_model.specs.Setup.{IsSetup}
use Rattle.rt_model.specs.declared.decision.Decision.TheVariants.{Abandon, AddToIdeal, Nothing}
use Rattle.rt_model.specs.declared.ideal_state.IdealEntry.{IdealEntry}
use Rattle.rt_model.specs.declared.node.Key.TheVariants as key
use Rattle.rt_model.specs.declared.node.Listed.{Listed}
use Rattle.rt_model.specs.declared.node.Node.TheVariants as node
use Rattle.rt_model.specs.declared.node.Seen.{Seen}
use Rattle.rt_model.specs.declared.seg_meta.SegMeta.{SegMeta}
use Rattle.rt_model.specs.declared.setup.Setup.{Setup}
use Rattle.rt_model.specs.declared.status.Status.{Status}
use Rattle.rt_model.specs.declared.status.Status.TheVariants.{Abandoned, Done, InProgress}
use Rattle.rt_nodes.specs.Repairs.{begun, going_on}
use Rattle.rt_nodes.specs.declared.chore.Chore.TheVariants.{Repair}
use Rattle.rt_nodes.specs.declared.controller_node.ControllerNode.{ControllerNode}
use Rattle.rt_nodes.specs.declared.server_node.ServerNode.{ServerNode}
use Rattle.rt_nodes.specs.declared.upkeep.Upkeep.{Upkeep}
use Rattle.rt_past.specs.Past.{Past}
use Rattle.rt_repair.proofs.Alone.{past_settles, repairs_alone}
use Rattle.rt_repair.proofs.LastSegment.{last_listed_has}
use Rattle.rt_repair.proofs.Standing.{entries_other, entries_written, listed_other}
use Rattle.rt_repair.proofs.Telling.{told_repair}
use Rattle.rt_repair.specs.Alone.{run_alone, stepped_on, then_stepped, FindsNothing, HasWritten as HasWrittenAlone, IsOverOf, SettlesAlone}
use Rattle.rt_repair.specs.Converging.{decided, standing_of, writes}
use Rattle.rt_repair.specs.IsRepair.{Remembers}
use Rattle.rt_repair.specs.Lasting.{IsRepairOver}
use Rattle.rt_repair.specs.ReadNode.{last_follows, last_node}
use Rattle.rt_repair.specs.RepairSteps.{Stepped}
use Rattle.rt_repair.specs.Repairing.{beginning, goes, IsUnended, Repairing}
use Rattle.rt_repair.specs.Told.{repair_stepped, IsLeft, Left}
use Rattle.rt_repair.specs.declared.read_node.ReadNode.{ReadNode}
use Rattle.rt_repair.specs.declared.repair.RepairStage.{RepairStage}
use Rattle.rt_repair.specs.declared.repair.RepairStage.TheVariants as stage
use Rattle.rt_repair.specs.declared.repair_step.RepairStep.TheVariants as step
use Rattle.rt_safety.proofs.JobsOn.{own_slot}
use Rattle.rt_safety.proofs.Later.{runs_are_safe}
use Rattle.rt_safety.proofs.Runs.{leads_safe}
use Rattle.rt_safety.specs.Runs.{happens, Leads, Runs, Turn}
use Rattle.rt_state.proofs.Bounds.{few_sequences}
use Rattle.rt_state.proofs.Possible.{then_passed}
use Rattle.rt_state.specs.Clock.{ticked}
use Rattle.rt_state.specs.IsSafe.{past_of}
use Rattle.rt_state.specs.IsSafeWorld.{IsSafeWorld}
use Rattle.rt_state.specs.Repairs.{after_upkeep, chore_by, find_upkeep, upkeep_at, upkeep_in, KeepsAt}
use Rattle.rt_state.specs.declared.cost.Cost.{Cost}
use Rattle.rt_state.specs.declared.state.State.{State}
use Rattle.rt_store.specs.Contents.{starting_of}
use Rattle.rt_store.specs.Meaning.{Told}
use Rattle.rt_world.proofs.KeepsRepairs.{found_within, upkeep_there}
use Rattle.rt_world.specs.Step.{Steps}
use Rattle.rt_heal.proofs.Quiet.{then_parts}
use Rattle.rt_heal.specs.Mended.{NeedsNoRepair}
use Rattle.rt_calm.proofs.Keeping.{leads_then as turns_then, servers_up}
use Rattle.rt_calm.proofs.Leading.{leads_put, leads_still, leads_then, KeepsLeads}
use Rattle.rt_recovery.specs.Mending.{goes_further, goes_on_by, Goes, HasMended, IsWrittenBefore, Mends, MendTurn, RepairsIn, RepairTurn, RepairTurns}
use Rattle.rt_recovery.proofs.Apart.{SameAt}
use Rattle.rt_recovery.proofs.Stepping.{lists, reads, repair_writes_for, stepped_to, unplanned_at, writing_ends, HasWritten, WritesFor}
use Rattle.rt_recovery.proofs.Turns.{from_leads, passed, HasPassed}
use Rattle.rt_recovery.proofs.Written.{runs_before}

-- ---- what stands of a partition

-- its nodes and its entries are as they were
pub record IsSameOf (o : Partition) (h g : List Seen) : Type 0 where
  pub listed : metadata_of g o ≡ metadata_of h o
  pub entries : (s : Sequence) → SameAt o s (entries_of h) (entries_of g)

pub same_of : (o : Partition) (h g : List Seen) → g ≡ h → IsSameOf o h g
same_of o h g same = subst (IsSameOf o h) (sym same) (record { listed = refl; entries = λ s. record { has = refl; off = refl } })

pub same_of_then : (o : Partition) (h g f : List Seen) → IsSameOf o h g → IsSameOf o g f → IsSameOf o h f
same_of_then o h g f a b =
    record {
      listed = b.listed ∙ a.listed;
      entries = λ s. record { has = (b.entries s).has ∙ (a.entries s).has; off = (b.entries s).off ∙ (a.entries s).off };
    }

-- its last segment is as it was, with its entries
pub record IsSameLast (o : Partition) (h g : List Seen) : Type 0 where
  pub last : last_listed (metadata_of g o) ≡ last_listed (metadata_of h o)
  pub entries : (l : Listed) → last_listed (metadata_of h o) ≡ Some l → SameAt o l.sequence (entries_of h) (entries_of g)

pub same_last : (o : Partition) (h g : List Seen) → IsSameOf o h g → IsSameLast o h g
same_last o h g same = record { last = ap last_listed same.listed; entries = λ l last. same.entries l.sequence }

same_place : (p o : Partition) (a b : Sequence) → key.Meta p a ≡ key.Meta o b → p ≡ o
same_place p o a b e = cc

not_ideal : (p : Partition) (a : Sequence) → key.Meta p a ≡ key.Ideal → ⊥
not_ideal p a e = cc

-- so it is of each partition but the one that is repaired
others_written : (p : Partition) (now : Moment) (h g : List Seen) → HasWritten p now h g → (o : Partition) → (o.0 ≡ p.0 → ⊥) → IsSameOf o h g
others_written p now h g (inl same) o other = same_of o h g same
others_written p now h g (inr (w, more, inl n)) o other =
    subst (IsSameOf o h) (sym more)
    (record {
      listed =
          listed_other h w o
          (λ t e. other (ap (λ (q : Partition). q.0) (sym (same_place p o n.number (record { 0 = t }) (sym n.at ∙ e)))));
      entries = λ s.
          let same = entries_other h w (λ e. not_ideal p n.number (sym n.at ∙ e)) in
          record { has = ap (λ (es : List IdealEntry). has_entry es o s) same; off = ap (λ (es : List IdealEntry). are_offline es o s) same };
    })
others_written p now h g (inr (w, more, inr i)) o other =
    subst (IsSameOf o h) (sym more)
    (record {
      listed = listed_other h w o (λ t e. not_ideal o (record { 0 = t }) (sym e ∙ i.at));
      entries = λ s.
          let own : entries_of (h ++ w ∷ []) ≡ i.state.entries = entries_written h w i.at ∙ ap entries_by i.is in
          subst (SameAt o s (entries_of h)) (sym own) (i.apart o other s);
    })

-- no node was written later
abbrev AreWrittenBefore : List Seen → Moment → Type 0
AreWrittenBefore h now = (v : Seen) (m : SegMeta) → Has h v → v.node ≡ node.Meta m → m.written.0 ≤ now.0

same_meta : (a b : SegMeta) → node.Meta a ≡ node.Meta b → a ≡ b
same_meta a b e = cc

before_written : (p : Partition) (now : Moment) (h g : List Seen) → HasWritten p now h g → AreWrittenBefore h now → AreWrittenBefore g now
before_written p now h g (inl same) all = subst (λ (f : List Seen). AreWrittenBefore f now) (sym same) all
before_written p now h g (inr (w, more, writes)) all =
    subst (λ (f : List Seen). AreWrittenBefore f now) (sym more) (λ v m has is. by_place v m is (Has-push_cases h w v has) writes)
  where
    by_place : (v : Seen) (m : SegMeta) → v.node ≡ node.Meta m → Has h v ⊎ (w ≡ v) → WritesFor p now h w → m.written.0 ≤ now.0
    by_place v m is (inl there) writes = all v m there is
    by_place v m is (inr same) (inl n) =
        let own : n.meta ≡ m = same_meta n.meta m (sym n.is ∙ ap (λ (x : Seen). x.node) same ∙ is) in
        omega (arith, ap (λ (x : SegMeta). x.written.0) own, ap (λ (x : Moment). x.0) n.written)
    by_place v m is (inr same) (inr i) = absurd (no_meta (sym i.is ∙ ap (λ (x : Seen). x.node) same ∙ is))
      where
        no_meta : node.Ideal i.state ≡ node.Meta m → ⊥
        no_meta e = cc

-- ---- what events leave

-- no controller has a machine
abbrev pub HaveNone : List ControllerNode → Type 0
HaveNone cs = (j : ℕ) (n : ControllerNode) → slice_get cs j ≡ Some n → n.controller.machines ≡ []

-- another one that has as few is put in its place
pub put_none : (w y : State) (c : ControllerId) (n m : ControllerNode) → m.controller ≡ n.controller → slice_get w.controllers c.0 ≡ Some n
    → y.controllers ≡ slice_set w.controllers c.0 m → HaveNone w.controllers → HaveNone y.controllers
put_none w y c n m same there put all j x at =
    by_place (got_of_set w.controllers c.0 j m x (ap (λ (cs : List ControllerNode). slice_get cs j) (sym put) ∙ at))
  where
    by_place : ((j ≡ c.0) × (x ≡ m)) ⊎ (slice_get w.controllers j ≡ Some x) → x.controller.machines ≡ []
    by_place (inl here) =
        ap (λ (z : ControllerNode). z.controller.machines) here.1 ∙ ap (λ (z : Controlling). z.machines) same ∙ all c.0 n there
    by_place (inr other) = all j x other

-- turns lead on, and all but what is written and what is under way for partitions is as it was
pub record GoesMending (w v : State) : Type 0 where
  pub safe : IsSafeWorld v
  pub led : (turns : List Turn) × Leads w turns v
  pub servers : v.servers ≡ w.servers
  pub leads : KeepsLeads w v
  pub none : HaveNone w.controllers → HaveNone v.controllers
  pub unplanned : w.store.faults.plan ≡ [] → v.store.faults.plan ≡ []
  pub setup : v.setup ≡ w.setup
  pub log : v.log ≡ w.log
  pub deep : v.deep ≡ w.deep
  pub moment : w.moment.0 ≤ v.moment.0
  pub before : IsWrittenBefore w → IsWrittenBefore v

pub mending_still : (w : State) → IsSafeWorld w → GoesMending w w
mending_still w safe =
    record {
      safe = safe;
      led = ([], refl);
      servers = refl;
      leads = leads_still w w refl;
      none = λ none. none;
      unplanned = λ none. none;
      setup = refl;
      log = refl;
      deep = refl;
      moment = omega arith;
      before = λ before. before;
    }

pub mending_then : (w m v : State) → GoesMending w m → GoesMending m v → GoesMending w v
mending_then w m v x y =
    record {
      safe = y.safe;
      led = (x.led.0 ++ y.led.0, turns_then w m v x.led.0 y.led.0 x.led.1 y.led.1);
      servers = y.servers ∙ x.servers;
      leads = leads_then w m v x.leads y.leads;
      none = λ none. y.none (x.none none);
      unplanned = λ none. y.unplanned (x.unplanned none);
      setup = y.setup ∙ x.setup;
      log = y.log ∙ x.log;
      deep = y.deep ∙ x.deep;
      moment = omega (arith, x.moment, y.moment);
      before = λ before. y.before (x.before before);
    }

-- so do the events of one partition, which leave all others
record MendsOn (p : Partition) (w v : State) : Type 0 where
  goes : GoesMending w v
  others : (o : Partition) → (o.0 ≡ p.0 → ⊥) → IsSameOf o w.store.writes v.store.writes

on_then : (p : Partition) (w m v : State) → MendsOn p w m → MendsOn p m v → MendsOn p w v
on_then p w m v x y =
    record {
      goes = mending_then w m v x.goes y.goes;
      others = λ o other. same_of_then o w.store.writes m.store.writes v.store.writes (x.others o other) (y.others o other);
    }

-- ---- the clock

record HasTicked (w y : State) (millis : ℕ) : Type 0 where
  store : y.store ≡ w.store
  controllers : y.controllers ≡ w.controllers
  moment : y.moment.0 ≡ w.moment.0 + millis
  goes : GoesMending w y

ticks : (w y : State) (millis : ℕ) → IsSafeWorld w → HasPassed (event.Tick millis) w y → HasTicked w y millis
ticks w y millis safe h = by_steps h.outcome h.steps
  where
    by_steps : (o : Outcome) → Steps w (event.Tick millis) y (Ok o) → HasTicked w y millis
    by_steps o (cost, due, is) =
        let next : State = (ticked w millis cost).0 in
        let world : y ≡ next = ap (λ (x : State × Outcome). x.0) is in
        let store : y.store ≡ w.store = ap (λ (x : State). x.store) world in
        let moment : y.moment.0 ≡ w.moment.0 + millis = ap (λ (x : State). x.moment.0) world in
        record {
          store = store;
          controllers = ap (λ (x : State). x.controllers) world;
          moment = moment;
          goes = record {
            safe = leads_safe w (happens (event.Tick millis) o ∷ []) y safe (y, (tt, (cost, due, is)), refl);
            led = (happens (event.Tick millis) o ∷ [], (y, (tt, (cost, due, is)), refl));
            servers = ap (λ (x : State). x.servers) world;
            leads = leads_still w y (ap (λ (x : State). x.controllers) world);
            none = λ none. subst HaveNone (sym (ap (λ (x : State). x.controllers) world)) none;
            unplanned = λ none. ap (λ (t : Told). t.faults.plan) store ∙ none;
            setup = ap (λ (x : State). x.setup) world;
            log = ap (λ (x : State). x.log) world;
            deep = ap (λ (x : State). x.deep) world;
            moment = omega (arith, moment);
            before = λ before v m has written.
                let early = before v m (subst (λ (t : Told). Has t.writes v) store has) written in omega (arith, early, moment);
          };
        }

tick_on : (p : Partition) (w y : State) (millis : ℕ) → HasTicked w y millis → MendsOn p w y
tick_on p w y millis k = record { goes = k.goes; others = λ o other. same_of o w.store.writes y.store.writes (ap (λ (t : Told). t.writes) k.store) }

-- ---- a step of a repair

-- this repair steps next
record IsUnder (c : ControllerId) (p : Partition) (w : State) (r : Repairing) : Type 0 where
  up : Upkeep
  at : upkeep_at w c p ≡ Some up
  is : begun w.setup p up.repair ≡ r

-- it is of the partition, remembers what was there, and hasn't ended
record IsReady (setup : Setup) (past : Past) (p : Partition) (r : Repairing) : Type 0 where
  its : r.partition ≡ p
  remembers : Remembers (starting_of setup) past.history r.partition r.stage
  unended : IsUnended r.stage

begins_ready : (setup : Setup) (past : Past) (p : Partition) (o : Option Repairing) → IfSome o (IsRepairOver setup past) → IfSome o (λ r. r.partition.0 ≡ p.0)
    → IfSome o (λ r. IsUnended r.stage) → IsReady setup past p (begun setup p o)
begins_ready setup past p None over its unended = record { its = refl; remembers = tt; unended = tt }
begins_ready setup past p (Some r) over its unended =
    record { its = same_partition r.partition p its; remembers = over.remembers; unended = unended }

record HasStepped (c : ControllerId) (p : Partition) (w y : State) (o : Outcome) (r : Repairing) : Type 0 where
  stepped : Stepped
  left : y.store ≡ (repair_stepped w.store r w.moment).told
  gave : (repair_stepped w.store r w.moment).stepped ≡ Some stepped
  tells : o ≡ told.Repaired stepped.step
  up : Upkeep
  at : upkeep_at y c p ≡ Some up
  goes_on : up.repair ≡ going_on stepped.repair
  on : MendsOn p w y
  moment : y.moment ≡ w.moment

module _ (c : ControllerId) (p : Partition) where
  -- what is under way at the controller
  ready_at : (w : State) (n : ControllerNode) (old : Upkeep) → IsSafeWorld w → slice_get w.controllers c.0 ≡ Some n → upkeep_at w c p ≡ Some old
      → IsReady w.setup (past_of w) p (begun w.setup p old.repair)
  ready_at w n old safe there at =
      let k = upkeep_there w c p n old safe.safe there at in
      begins_ready w.setup (past_of w) p old.repair k.repair k.repairs_its k.repair_goes

  -- that there is a repair that steps next
  record IsSteppable (w : State) : Type 0 where
    repair : Repairing
    under : IsUnder c p w repair
    unended : IsUnended repair.stage
    within : p.0 < w.setup.partitions

  steppable : (w y : State) (o : Outcome) → IsSafeWorld w → Steps w (event.Repair c p) y (Ok o) → IsSteppable w
  steppable w y o safe (cost, due, h) = by_found (slice_get w.controllers c.0) refl (upkeep_at w c p) refl h
    where
      within : p.0 < w.setup.partitions
      within = found_within w c p (then_passed (find_upkeep w c p) (chore_by Repair w c (upkeep_at w c p)) cost due).0

      by_found : (n : Option ControllerNode) → slice_get w.controllers c.0 ≡ n → (u : Option Upkeep) → upkeep_at w c p ≡ u
          → KeepsAt n u w c p Repair cost (y, o) → IsSteppable w
      by_found None there u at h = absurd h
      by_found (Some n) there None at h = absurd h
      by_found (Some n) there (Some old) at h =
          record {
            repair = begun w.setup p old.repair;
            under = record { up = old; at = at; is = refl };
            unended = (ready_at w n old safe there at).unended;
            within = within;
          }

  module _ (w y : State) (o : Outcome) (r : Repairing) (safe : IsSafeWorld w) (unplanned : w.store.faults.plan ≡ []) (k : IsUnder c p w r)
      (steps : Steps w (event.Repair c p) y (Ok o)) where
    stepped_by : (n : ControllerNode) (old new : Upkeep) (store : Told) (x : Stepped) (cost : Cost) → slice_get w.controllers c.0 ≡ Some n
        → upkeep_at w c p ≡ Some old → IsLeft store x (repair_stepped w.store r w.moment) → new ≡ record old { repair = going_on x.repair }
        → o ≡ told.Repaired x.step → y ≡ after_upkeep w c p n new store cost → IsReady w.setup (past_of w) p r
        → HasStepped c p w y o r
    stepped_by n old new store x cost there at left put tells is ready =
        let m : ControllerNode = record n { upkeep = slice_set n.upkeep p.0 new } in
        let controllers : y.controllers ≡ slice_set w.controllers c.0 m = ap (λ (z : State). z.controllers) is in
        let own : y.store ≡ (repair_stepped w.store r w.moment).told = ap (λ (z : State). z.store) is ∙ left.0 in
        let moment : y.moment ≡ w.moment = ap (λ (z : State). z.moment) is in
        let written : HasWritten p w.moment w.store.writes y.store.writes =
        subst (λ (q : Partition). HasWritten q w.moment w.store.writes y.store.writes) ready.its
        (subst (λ (t : Told). HasWritten r.partition w.moment w.store.writes t.writes) (sym own)
        (repair_writes_for (starting_of w.setup) w.store r w.moment safe.safe.past.lawful ready.remembers)) in
        record {
          stepped = x;
          left = own;
          gave = left.1;
          tells = tells;
          up = new;
          at =
              ap (λ (cs : List ControllerNode). upkeep_in (slice_get cs c.0) p) controllers
              ∙ ap (λ (z : Option ControllerNode). upkeep_in z p) (own_slot w.controllers c.0 n m there)
              ∙ own_slot n.upkeep p.0 old new (ap (λ (z : Option ControllerNode). upkeep_in z p) (sym there) ∙ at);
          goes_on = ap (λ (u : Upkeep). u.repair) put;
          on = record {
            goes = record {
              safe = leads_safe w (happens (event.Repair c p) o ∷ []) y safe (y, (tt, steps), refl);
              led = (happens (event.Repair c p) o ∷ [], (y, (tt, steps), refl));
              servers = ap (λ (z : State). z.servers) is;
              leads = leads_put w y c n m there controllers refl refl;
              none = put_none w y c n m refl there controllers;
              unplanned = λ none. ap (λ (t : Told). t.faults.plan) own ∙ unplanned_at w.store r w.moment r.stage none;
              setup = ap (λ (z : State). z.setup) is;
              log = ap (λ (z : State). z.log) is;
              deep = ap (λ (z : State). z.deep) is;
              moment = omega (arith, ap (λ (z : Moment). z.0) moment);
              before = λ before.
                  subst (λ (now : Moment). AreWrittenBefore y.store.writes now) (sym moment)
                  (before_written p w.moment w.store.writes y.store.writes written before);
            };
            others = others_written p w.moment w.store.writes y.store.writes written;
          };
          moment = moment;
        }

    steps_so : HasStepped c p w y o r
    steps_so = by_steps steps
      where
        by_found : (cost : Cost) (n : Option ControllerNode) → slice_get w.controllers c.0 ≡ n → (u : Option Upkeep) → upkeep_at w c p ≡ u
            → KeepsAt n u w c p Repair cost (y, o) → HasStepped c p w y o r
        by_found cost None there u at h = absurd h
        by_found cost (Some n) there None at h = absurd h
        by_found cost (Some n) there (Some old) at (new, store, (did, (after, steps, put), tells), is) =
            let x : Stepped = record { repair = after; step = did } in
            let same : old ≡ k.up = same_Some old k.up (sym at ∙ k.at) in
            let own : begun w.setup p old.repair ≡ r = ap (λ (u : Upkeep). begun w.setup p u.repair) same ∙ k.is in
            let left = told_repair w.store store (begun w.setup p old.repair) w.moment x steps in
            stepped_by n old new store x cost there at
            (subst (λ (z : Repairing). IsLeft store x (repair_stepped w.store z w.moment)) own left) put tells is
            (subst (IsReady w.setup (past_of w) p) own (ready_at w n old safe there at))

        by_steps : Steps w (event.Repair c p) y (Ok o) → HasStepped c p w y o r
        by_steps (cost, due, h) = by_found cost (slice_get w.controllers c.0) refl (upkeep_at w c p) refl h

  -- ---- a repair up to its end

  -- nothing is under way
  record IsFree (w : State) : Type 0 where
    up : Upkeep
    at : upkeep_at w c p ≡ Some up
    none : up.repair ≡ None

  -- it has come to its end, and left this of the store
  record HasRun (w v : State) (t : Told) : Type 0 where
    on : MendsOn p w v
    moment : v.moment ≡ w.moment
    store : v.store ≡ t
    free : IsFree v

  -- the first step, and further ones
  run_then : (w y v : State) (t u : Told) (o : Outcome) (r : Repairing) → HasStepped c p w y o r → HasRun y v t → t ≡ u → HasRun w v u
  run_then w y v t u o r s x same =
      record { on = on_then p w y v s.on x.on; moment = x.moment ∙ s.moment; store = x.store ∙ same; free = x.free }

  module _ (w : State) (v : Reached) (told : Unit {0}) (r : Repairing) (safe : IsSafeWorld w) (none : w.store.faults.plan ≡ []) (k : IsUnder c p w r) where
    writing_runs : (n : ℕ) (last : Option ReadNode) (follows : Bool) (ideal : Seen) → r.stage ≡ stage.Writing last follows ideal
        → RepairsIn c p (suc n) w v (Ok told) → HasRun w v.world (repair_stepped w.store r w.moment).told
    writing_runs n last follows ideal at h =
        let t = then_parts (Happens (event.Repair c p)) (λ outcome. Goes (goes_on_by outcome) (RepairsIn c p n)) w v told h in
        let y = t.between.world in
        let s = steps_so w y t.told r safe none k t.came.by.0 in
        let e = writing_ends w.store r w.moment last follows ideal s.stepped at s.gave in
        let off : goes_on_by t.told ≡ false = ap goes_on_by s.tells ∙ e.tells in
        let stays = subst (λ (b : Bool). Goes b (RepairsIn c p n) y t.last (Ok told)) off t.further in
        subst (λ (x : State). HasRun w x (repair_stepped w.store r w.moment).told)
        (sym (ap (λ (z : Reached). z.world) t.whole ∙ ap (λ (z : Reached). z.world) stays.0))
        (record {
          on = s.on;
          moment = s.moment;
          store = s.left;
          free = record { up = s.up; at = s.at; none = s.goes_on ∙ ap going_on e.ended };
        })

  module _ (w : State) (v : Reached) (told : Unit {0}) (r : Repairing) (safe : IsSafeWorld w) (none : w.store.faults.plan ≡ []) (k : IsUnder c p w r) where
    reading_runs : (n : ℕ) (last : Option ReadNode) (follows : Bool) → r.stage ≡ stage.Reading last follows
        → RepairsIn c p (suc (suc n)) w v (Ok told) → HasRun w v.world (then_stepped (repair_stepped w.store r w.moment) w.moment).told
    reading_runs n last follows at h =
        let t = then_parts (Happens (event.Repair c p)) (λ outcome. Goes (goes_on_by outcome) (RepairsIn c p (suc n))) w v told h in
        let y = t.between.world in
        let s = steps_so w y t.told r safe none k t.came.by.0 in
        let ideal = has_ideal_state (starting_of w.setup) w.store.writes safe.safe.past.lawful in
        let next = goes r (stage.Writing last follows ideal.0) in
        let e = reads w.store r w.moment last follows ideal.0 at none ideal.2 in
        let is : s.stepped ≡ stepped_to r (stage.Writing last follows ideal.0) step.IdealRead = same_Some _ _ (sym s.gave ∙ e) in
        let on : goes_on_by t.told ≡ true = ap goes_on_by s.tells ∙ ap (λ (x : Stepped). goes_further x.step) is in
        let further = subst (λ (b : Bool). Goes b (RepairsIn c p (suc n)) y t.last (Ok told)) on t.further in
        let under : IsUnder c p y next =
        record { up = s.up; at = s.at; is = ap (begun y.setup p) (s.goes_on ∙ ap (λ (x : Stepped). going_on x.repair) is) } in
        let rest = writing_runs y t.last told next s.on.goes.safe (s.on.goes.unplanned none) under n last follows ideal.0 refl further in
        let first = (repair_stepped w.store r w.moment).told in
        let same : (repair_stepped y.store next y.moment).told ≡ (then_stepped (repair_stepped w.store r w.moment) w.moment).told =
        ap (λ (u : Told). (repair_stepped u next y.moment).told) s.left
        ∙ ap (λ (now : Moment). (repair_stepped first next now).told) s.moment
        ∙ sym (ap (λ (x : Option Stepped). (stepped_on first w.moment x).told) e) in
        subst (λ (x : State). HasRun w x (then_stepped (repair_stepped w.store r w.moment) w.moment).told)
        (sym (ap (λ (z : Reached). z.world) t.whole))
        (run_then w y t.last.world _ _ t.told r s rest same)

  module _ (w : State) (v : Reached) (told : Unit {0}) (r : Repairing) (safe : IsSafeWorld w) (none : w.store.faults.plan ≡ []) (k : IsUnder c p w r) where
    listing_runs : (n : ℕ) → r.stage ≡ stage.Listing → RepairsIn c p (suc (suc (suc n))) w v (Ok told)
        → HasRun w v.world (run_alone w.store r w.moment w.moment w.moment).told
    listing_runs n at h =
        let t = then_parts (Happens (event.Repair c p)) (λ outcome. Goes (goes_on_by outcome) (RepairsIn c p (suc (suc n)))) w v told h in
        let y = t.between.world in
        let s = steps_so w y t.told r safe none k t.came.by.0 in
        let last = last_node r.partition (metadata_of w.store.writes r.partition) in
        let follows = last_follows (metadata_of w.store.writes r.partition) in
        let next = goes r (stage.Reading last follows) in
        let e = lists w.store r w.moment at none in
        let is : s.stepped ≡ stepped_to r (stage.Reading last follows) step.Listed = same_Some _ _ (sym s.gave ∙ e) in
        let on : goes_on_by t.told ≡ true = ap goes_on_by s.tells ∙ ap (λ (x : Stepped). goes_further x.step) is in
        let further = subst (λ (b : Bool). Goes b (RepairsIn c p (suc (suc n))) y t.last (Ok told)) on t.further in
        let under : IsUnder c p y next =
        record { up = s.up; at = s.at; is = ap (begun y.setup p) (s.goes_on ∙ ap (λ (x : Stepped). going_on x.repair) is) } in
        let rest = reading_runs y t.last told next s.on.goes.safe (s.on.goes.unplanned none) under n last follows refl further in
        let first = (repair_stepped w.store r w.moment).told in
        let same : (then_stepped (repair_stepped y.store next y.moment) y.moment).told ≡ (run_alone w.store r w.moment w.moment w.moment).told =
        ap (λ (u : Told). (then_stepped (repair_stepped u next y.moment) y.moment).told) s.left
        ∙ ap (λ (now : Moment). (then_stepped (repair_stepped first next now) now).told) s.moment
        ∙ sym (ap (λ (x : Option Stepped). (then_stepped (stepped_on first w.moment x) w.moment).told) e) in
        subst (λ (x : State). HasRun w x (run_alone w.store r w.moment w.moment w.moment).told)
        (sym (ap (λ (z : Reached). z.world) t.whole))
        (run_then w y t.last.world _ _ t.told r s rest same)

  -- wherever it stands
  record HasCome (w v : State) : Type 0 where
    on : MendsOn p w v
    free : IsFree v

  comes_by : (w v : State) (t : Told) → HasRun w v t → HasCome w v
  comes_by w v t x = record { on = x.on; free = x.free }

  any_runs : (w : State) (v : Reached) (told : Unit {0}) → IsSafeWorld w → w.store.faults.plan ≡ [] → RepairsIn c p 3 w v (Ok told)
      → HasCome w v.world × (p.0 < w.setup.partitions)
  any_runs w v told safe none h =
      let t = then_parts (Happens (event.Repair c p)) (λ outcome. Goes (goes_on_by outcome) (RepairsIn c p 2)) w v told h in
      let k = steppable w t.between.world t.told safe t.came.by.0 in
      (by_stage k.repair k.under k.repair.stage refl k.unended, k.within)
    where
      by_stage : (r : Repairing) → IsUnder c p w r → (at : RepairStage) → r.stage ≡ at → IsUnended at → HasCome w v.world
      by_stage r k stage.Listing at unended = comes_by w v.world _ (listing_runs w v told r safe none k 0 at h)
      by_stage r k (stage.Reading last follows) at unended = comes_by w v.world _ (reading_runs w v told r safe none k 1 last follows at h)
      by_stage r k (stage.Writing last follows ideal) at unended =
          comes_by w v.world _ (writing_runs w v told r safe none k 2 last follows ideal at h)
      by_stage r k stage.Ended at unended = absurd unended

  -- ---- a turn

  -- from where nothing is under way a repair runs alone, at a moment at which the grace of the last segment is over
  record HasRunAlone (w v : State) : Type 0 where
    on : MendsOn p w v
    free : IsFree v
    alone : v.store ≡ (run_alone w.store (beginning p w.setup) v.moment v.moment v.moment).told
    over : IsOverOf (beginning p w.setup) v.moment (standing_of w.store.writes p)

  over_by : (w : State) (now : Moment) → IsSafeWorld w → p.0 < w.setup.partitions → IsWrittenBefore w → w.moment.0 + w.setup.grace ≤ now.0
      → IsOverOf (beginning p w.setup) now (standing_of w.store.writes p)
  over_by w now safe within before past l last =
      let found = last_listed_has (starting_of w.setup) w.store.writes p safe.safe.past.lawful within in
      let same : found.0 ≡ l = same_Some found.0 l (sym found.1 ∙ last) in
      let has = subst (λ (x : Listed). Has (metadata_of w.store.writes p) x) same found.2 in
      omega (arith, before _ l.seen.meta (listed_has w.store.writes p l has) refl, past)

  turn_alone : (w : State) (v : Reached) (told : Unit {0}) → IsSafeWorld w → w.store.faults.plan ≡ [] → IsWrittenBefore w → p.0 < w.setup.partitions
      → IsFree w → RepairTurn c p w v (Ok told) → HasRunAlone w v.world
  turn_alone w v told safe none before within free h =
      let t = then_parts (Passed (event.Tick w.setup.grace)) (λ passed. RepairsIn c p 3) w v told h in
      let u = t.between.world in
      let k = ticks w u w.setup.grace safe (passed (event.Tick w.setup.grace) w t.between t.told t.came) in
      let under : IsUnder c p u (beginning p w.setup) = record {
        up = free.up;
        at = ap (λ (cs : List ControllerNode). upkeep_in (slice_get cs c.0) p) k.controllers ∙ free.at;
        is = ap (λ (s : Setup). begun s p free.up.repair) k.goes.setup ∙ ap (begun w.setup p) free.none;
      } in
      let x = listing_runs u t.last told (beginning p w.setup) k.goes.safe (k.goes.unplanned none) under 0 refl t.further in
      let last = t.last.world in
      let run : Told → Moment → Told = λ s now. (run_alone s (beginning p w.setup) now now now).told in
      let whole : HasRunAlone w last = record {
        on = on_then p w u last (tick_on p w u w.setup.grace k) x.on;
        free = x.free;
        alone = x.store ∙ ap (λ (s : Told). run s u.moment) k.store ∙ ap (run w.store) (sym x.moment);
        over = over_by w last.moment safe within before (omega (arith, k.moment, ap (λ (m : Moment). m.0) x.moment));
      } in
      subst (HasRunAlone w) (sym (ap (λ (z : Reached). z.world) t.whole)) whole

  -- and from anywhere what is under way ends
  turn_any : (w : State) (v : Reached) (told : Unit {0}) → IsSafeWorld w → w.store.faults.plan ≡ [] → RepairTurn c p w v (Ok told)
      → HasCome w v.world × (p.0 < w.setup.partitions)
  turn_any w v told safe none h =
      let t = then_parts (Passed (event.Tick w.setup.grace)) (λ passed. RepairsIn c p 3) w v told h in
      let u = t.between.world in
      let k = ticks w u w.setup.grace safe (passed (event.Tick w.setup.grace) w t.between t.told t.came) in
      let x = any_runs u t.last told k.goes.safe (k.goes.unplanned none) t.further in
      subst (λ (y : State). HasCome w y × (p.0 < w.setup.partitions)) (sym (ap (λ (z : Reached). z.world) t.whole)) (
        record { on = on_then p w u t.last.world (tick_on p w u w.setup.grace k) x.0.on; free = x.0.free },
        subst (λ (s : Setup). p.0 < s.partitions) k.goes.setup x.1,
      )

  -- ---- what stands still

  -- nothing is decided of the last segment, whenever that is
  record IsStill (h : List Seen) : Type 0 where
    last : Listed
    is_last : last_listed (metadata_of h p) ≡ Some last
    consumes : IsInProgress last.seen.meta.status
    entered : has_entry (entries_of h) p last.sequence ≡ true
    online : are_offline (entries_of h) p last.sequence ≡ false

  still_decides : (setup : Setup) (h : List Seen) (now : Moment) → IsStill h → decided (beginning p setup) now (standing_of h p) ≡ Nothing
  still_decides setup h now k =
      let es = entries_of h in
      let l = k.last in
      let by = decide_by p l.sequence es l.seen.meta l.seen.meta.status in
      let early = nat_lt now.0 (later l.seen.meta.written setup.grace).0 in
      ap (decide_last p es now setup.grace) k.is_last
      ∙ cond_both (not (nat_lt l.sequence.0 LAST_NUMBER)) Nothing (cond early Nothing by) (λ d. d ≡ Nothing) (λ b. refl)
      (λ b. cond_both early Nothing by (λ d. d ≡ Nothing) (λ b. refl) (λ b. by_status l.seen.meta.status k.consumes))
    where
      by_status : (st : Status) → IsInProgress st → decide_by p k.last.sequence (entries_of h) k.last.seen.meta st ≡ Nothing
      by_status InProgress consumes =
          ap (λ (b : Bool). cond (not b) (AddToIdeal k.last.sequence) (cond (are_offline (entries_of h) p k.last.sequence) (Abandon k.last.sequence) Nothing)) k.entered
          ∙ ap (λ (b : Bool). cond b (Abandon k.last.sequence) Nothing) k.online
      by_status (Done commit) consumes = absurd consumes
      by_status Abandoned consumes = absurd consumes

  still_needs : (setup : Setup) (h : List Seen) (now : Moment) → IsStill h → IsOverOf (beginning p setup) now (standing_of h p) → NeedsNoRepair setup h now p
  still_needs setup h now k over = record { over = over; nothing = still_decides setup h now k }

  -- repairs that run alone from here on settle after at most so many that write
  abbrev Settles : ℕ → State → Type 0
  Settles n w = IsStill w.store.writes ⊎ SettlesAlone (beginning p w.setup) n w.store

  -- a repair wrote nothing, and nothing is needed
  record HasSettled (w v : State) : Type 0 where
    still : IsStill v.store.writes
    needs : NeedsNoRepair v.setup v.store.writes v.moment p

  settled_by : (w v : State) → HasRunAlone w v → v.store.writes ≡ w.store.writes → IsStill w.store.writes → HasSettled w v
  settled_by w v x same k =
      let still = subst IsStill (sym same) k in
      let over : IsOverOf (beginning p v.setup) v.moment (standing_of v.store.writes p) =
      subst (λ (s : Setup). IsOverOf (beginning p s) v.moment (standing_of v.store.writes p)) (sym x.on.goes.setup)
      (subst (λ (h : List Seen). IsOverOf (beginning p w.setup) v.moment (standing_of h p)) (sym same) x.over) in
      record { still = still; needs = still_needs v.setup v.store.writes v.moment still over }

  found_still : (w : State) (now : Moment) (left : Left Stepped) → FindsNothing w.store (beginning p w.setup) now left → IsStill w.store.writes
  found_still w now left k =
      record { last = k.listed; is_last = k.is_last; consumes = k.settled.consumes; entered = k.settled.entered; online = k.settled.online }

  module _ (w v : State) (safe : IsSafeWorld w) (none : w.store.faults.plan ≡ []) (within : p.0 < w.setup.partitions) (x : HasRunAlone w v) where
    abbrev own : Repairing
    own = beginning p w.setup

    abbrev run : Left Stepped
    run = run_alone w.store (beginning p w.setup) v.moment v.moment v.moment

    still_stays : IsStill w.store.writes → HasSettled w v
    still_stays k =
        let done = repairs_alone (starting_of w.setup) w.store p w.setup v.moment v.moment v.moment safe.safe.setup safe.safe.past.lawful within none in
        let nothing = still_decides w.setup w.store.writes v.moment k in
        let unwritten = subst (HasWrittenAlone w.store.writes run.told.writes done.last.step) (ap (writes own (standing_of w.store.writes p)) nothing) done.written in
        settled_by w v x (ap (λ (t : Told). t.writes) x.alone ∙ unwritten.0) k

    found_stays : FindsNothing w.store own v.moment run → HasSettled w v
    found_stays k = settled_by w v x (ap (λ (t : Told). t.writes) x.alone ∙ k.unwritten) (found_still w v.moment run k)

    last_settles : Settles 0 w → HasSettled w v
    last_settles (inl k) = still_stays k
    last_settles (inr settles) = found_stays (settles v.moment v.moment v.moment x.over)

    goes_settling : (n : ℕ) → Settles (suc n) w → Settles n v
    goes_settling n (inl k) = inl (still_stays k).still
    goes_settling n (inr settles) = by_either (settles v.moment v.moment v.moment x.over)
      where
        by_either : FindsNothing w.store own v.moment run ⊎ (((s : Seen) × (run.told.writes ≡ w.store.writes ++ s ∷ [])) × SettlesAlone own n run.told) → Settles n v
        by_either (inl k) = inl (found_stays k).still
        by_either (inr (wrote, rest)) =
            inr (subst (λ (s : Setup). SettlesAlone (beginning p s) n v.store) (sym x.on.goes.setup) (subst (SettlesAlone own n) (sym x.alone) rest))

  -- ---- several turns

  -- the partition needs no repair any more
  record HasMendedOne (w v : State) : Type 0 where
    on : MendsOn p w v
    needs : NeedsNoRepair v.setup v.store.writes v.moment p

  turns_mend : (n : ℕ) (w : State) (v : Reached) (told : Unit {0}) → IsSafeWorld w → w.store.faults.plan ≡ [] → IsWrittenBefore w → p.0 < w.setup.partitions
      → IsFree w → Settles n w → RepairTurns c p (suc n) w v (Ok told) → HasMendedOne w v.world
  turns_mend zero w v told safe none before within free settles h =
      let t = then_parts (RepairTurn c p) (λ done. RepairTurns c p 0) w v told h in
      let y = t.between.world in
      let x = turn_alone w t.between t.told safe none before within free t.came in
      subst (HasMendedOne w) (sym (ap (λ (z : Reached). z.world) t.whole ∙ ap (λ (z : Reached). z.world) t.further.0))
      (record { on = x.on; needs = (last_settles w y safe none within x settles).needs })
  turns_mend (suc n) w v told safe none before within free settles h =
      let t = then_parts (RepairTurn c p) (λ done. RepairTurns c p (suc n)) w v told h in
      let y = t.between.world in
      let x = turn_alone w t.between t.told safe none before within free t.came in
      let g = x.on.goes in
      let rest = turns_mend n y t.last told g.safe (g.unplanned none) (g.before before)
      (subst (λ (s : Setup). p.0 < s.partitions) (sym g.setup) within) x.free (goes_settling w y safe none within x n settles) t.further in
      subst (HasMendedOne w) (sym (ap (λ (z : Reached). z.world) t.whole))
      (record { on = on_then p w y t.last.world x.on rest.on; needs = rest.needs })

  mends_one : (w : State) (v : Reached) (told : Unit {0}) → IsSafeWorld w → w.store.faults.plan ≡ [] → IsWrittenBefore w
      → RepairTurns c p 5 w v (Ok told) → HasMendedOne w v.world
  mends_one w v told safe none before h =
      let t = then_parts (RepairTurn c p) (λ done. RepairTurns c p 4) w v told h in
      let y = t.between.world in
      let x = turn_any w t.between t.told safe none t.came in
      let g = x.0.on.goes in
      let within : p.0 < y.setup.partitions = subst (λ (s : Setup). p.0 < s.partitions) (sym g.setup) x.1 in
      let settles = past_settles y.setup (past_of y) y.store p g.safe.safe.setup g.safe.safe.past within (few_sequences y p g.safe within) (g.unplanned none) in
      let rest = turns_mend 3 y t.last told g.safe (g.unplanned none) (g.before before) within x.0.free (inr settles) t.further in
      subst (HasMendedOne w) (sym (ap (λ (z : Reached). z.world) t.whole))
      (record { on = on_then p w y t.last.world x.0.on rest.on; needs = rest.needs })

-- ---- what another partition keeps

module _ (setup : Setup) (o : Partition) (h g : List Seen) (same : IsSameLast o h g) (now then : Moment) (on : now.0 ≤ then.0) where
  over_kept : IsOverOf (beginning o setup) now (standing_of h o) → IsOverOf (beginning o setup) then (standing_of g o)
  over_kept over l last = omega (arith, over l (sym same.last ∙ last), on)

  -- what is decided of the same last segment
  decides_same : (x : Option Listed) → last_listed (metadata_of h o) ≡ x → ((l : Listed) → x ≡ Some l → (later l.seen.meta.written setup.grace).0 ≤ now.0)
      → decide_last o (entries_of h) now setup.grace x ≡ Nothing → decide_last o (entries_of g) then setup.grace x ≡ Nothing
  decides_same None last over e = e
  decides_same (Some l) last over e = by_number (not (nat_lt l.sequence.0 LAST_NUMBER)) e
    where
      by_status : (st : Status) → decide_by o l.sequence (entries_of h) l.seen.meta st ≡ Nothing → decide_by o l.sequence (entries_of g) l.seen.meta st ≡ Nothing
      by_status InProgress e =
          ap (λ (b : Bool). cond (not b) (AddToIdeal l.sequence) (cond (are_offline (entries_of g) o l.sequence) (Abandon l.sequence) Nothing)) (same.entries l last).has
          ∙ ap (λ (b : Bool). cond (not (has_entry (entries_of h) o l.sequence)) (AddToIdeal l.sequence) (cond b (Abandon l.sequence) Nothing)) (same.entries l last).off
          ∙ e
      by_status (Done commit) e = e
      by_status Abandoned e = e

      by_number : (a : Bool)
          → cond a Nothing (cond (nat_lt now.0 (later l.seen.meta.written setup.grace).0) Nothing (decide_by o l.sequence (entries_of h) l.seen.meta l.seen.meta.status)) ≡ Nothing
          → cond a Nothing (cond (nat_lt then.0 (later l.seen.meta.written setup.grace).0) Nothing (decide_by o l.sequence (entries_of g) l.seen.meta l.seen.meta.status)) ≡ Nothing
      by_number true e = refl
      by_number false e =
          let past = le-ltb now.0 (later l.seen.meta.written setup.grace).0 (over l refl) in
          let own : decide_by o l.sequence (entries_of h) l.seen.meta l.seen.meta.status ≡ Nothing =
          sym (cond-false (nat_lt now.0 (later l.seen.meta.written setup.grace).0) Nothing (decide_by o l.sequence (entries_of h) l.seen.meta l.seen.meta.status) past) ∙ e in
          cond_both (nat_lt then.0 (later l.seen.meta.written setup.grace).0) Nothing (decide_by o l.sequence (entries_of g) l.seen.meta l.seen.meta.status) (λ d. d ≡ Nothing)
          (λ b. refl) (λ b. by_status l.seen.meta.status own)

  pub needs_kept : NeedsNoRepair setup h now o → NeedsNoRepair setup g then o
  needs_kept k =
      record {
        over = over_kept k.over;
        nothing =
            ap (decide_last o (entries_of g) then setup.grace) same.last
            ∙ decides_same (last_listed (metadata_of h o)) refl k.over k.nothing;
      }

-- ---- all partitions

-- those below a number need no repair
record MendedTo (from : State) (i : ℕ) (u : State) : Type 0 where
  goes : GoesMending from u
  needs : (p : Partition) → p.0 < i → NeedsNoRepair u.setup u.store.writes u.moment p

module _ (c : ControllerId) (from : State) (none : from.store.faults.plan ≡ []) (before : IsWrittenBefore from) where
  mends_more : (i : ℕ) (done told : Unit {0}) (w : State) (v : Reached) → MendedTo from i w → MendTurn c i done w v (Ok told) → MendedTo from (i + 1) v.world
  mends_more i done told w v k h =
      let y = v.world in
      let x = mends_one c (record { 0 = i }) w v told k.goes.safe (k.goes.unplanned none) (k.goes.before before) h in
      record { goes = mending_then from w y k.goes x.on.goes; needs = λ q below. kept_or_own w y i k x q (cases_lt q.0 i) below }
    where
      kept_or_own : (w y : State) (i : ℕ) → MendedTo from i w → HasMendedOne c (record { 0 = i }) w y → (q : Partition) → (q.0 < i) ⊎ (i ≤ q.0)
          → q.0 < i + 1 → NeedsNoRepair y.setup y.store.writes y.moment q
      kept_or_own w y i k x q (inl lt) below =
          subst (λ (s : Setup). NeedsNoRepair s y.store.writes y.moment q) (sym x.on.goes.setup)
          (needs_kept w.setup q w.store.writes y.store.writes
          (same_last q w.store.writes y.store.writes (x.on.others q (λ e. omega (arith, lt, e)))) w.moment y.moment x.on.goes.moment (k.needs q lt))
      kept_or_own w y i k x q (inr past) below =
          let same : i ≡ q.0 = omega (arith, past, below) in
          subst (NeedsNoRepair y.setup y.store.writes y.moment) (same_partition (record { 0 = i }) q same) x.needs

  mends_all : (v : Reached) (told : Unit {0}) → IsSafeWorld from → Mends c from v (Ok told) → HasMended from v.world × ((more : List Turn) × Leads from more v.world)
  mends_all v told safe h =
      let first : MendedTo from 0 from = record { goes = mending_still from safe; needs = λ q below. absurd (omega (arith, below)) } in
      let k = from_leads (MendTurn c) (MendedTo from) mends_more 0 from.setup.partitions tt told from v first h in
      let g = k.goes in (
        record {
          needs = λ p within. k.needs p (omega (arith, within, ap (λ (s : Setup). s.partitions) g.setup));
          fresh = λ f. record {
            servers = λ i n at. f.servers i n (ap (λ (ns : List ServerNode). slice_get ns i) (sym g.servers) ∙ at);
            controllers = g.none f.controllers;
          };
          up = servers_up from v.world g.servers;
          leading = g.leads.leading;
          leader = g.leads.leader;
          unplanned = g.unplanned none;
          setup = g.setup;
          log = g.log;
          deep = g.deep;
          before = g.before before;
        },
        g.led,
      )

-- from any world of a run on
pub mended : (setup : Setup) (turns : List Turn) (w : State) (v : Reached) (c : ControllerId) → IsSetup setup → Runs setup turns w
    → w.store.faults.plan ≡ [] → Mends c w v (Ok tt) → HasMended w v.world × ((more : List Turn) × Leads w more v.world)
mended setup turns w v c is run none h = mends_all c w none (runs_before setup turns w run) v tt (runs_are_safe setup turns w is run) h
