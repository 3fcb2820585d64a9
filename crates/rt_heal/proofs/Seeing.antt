-- What comes of a server that sees the ideal state, where no fault of the store is planned.
use Rattle.std.specs.List.{position}
use Rattle.std.proofs.Common.{◌≡◌, ℕ, inl, inr, Bool, List, [], ◌∷◌, ◌++◌, Option, Some, Result, Ok, Err, refl, sym, ◌∙◌, ap, subst, slice_get}
use Rattle.std.specs.Prelude.{slice_set}
use Rattle.std.proofs.lemmas.Option.{none-some}
use Rattle.rt_base.specs.Faults.{Planned, answer_under, fault_of, met_by, met_fault}
use Rattle.rt_base.specs.declared.numbers.Instance.{Instance}
use Rattle.rt_entry.specs.Calls.{Comes}
use Rattle.rt_entry.specs.declared.refused.ServerRefused.{ServerRefused}
use Rattle.rt_entry.specs.declared.refused.ServerRefused.TheVariants as refused
use Rattle.rt_events.specs.declared.event.Event.TheVariants.{See}
use Rattle.rt_events.specs.declared.outcome.Outcome.{Outcome}
use Rattle.rt_events.specs.declared.outcome.Outcome.TheVariants as told
use Rattle.rt_model.specs.Entries.{entries_by, entries_in, entries_of}
use Rattle.rt_model.specs.History.{value_of}
use Rattle.rt_model.specs.declared.ideal_state.IdealEntry.{IdealEntry}
use Rattle.rt_model.specs.declared.node.Key.TheVariants as key
use Rattle.rt_model.specs.declared.node.Seen.{Seen}
use Rattle.rt_model.proofs.Histories.{value_of-last}
use Rattle.rt_model.proofs.Lawful.{has_ideal_state}
use Rattle.rt_nodes.specs.Refused.{outcome_by}
use Rattle.rt_nodes.specs.Servers.{NodeSees}
use Rattle.rt_nodes.specs.declared.controller_node.ControllerNode.{ControllerNode}
use Rattle.rt_nodes.specs.declared.server_node.ServerNode.{ServerNode}
use Rattle.rt_safety.specs.Runs.{happens, Leads, Turn, TurnsTo}
use Rattle.rt_server.specs.Calls.{targets_of, seen_by, with_targets}
use Rattle.rt_server.specs.Table.{ServerState}
use Rattle.rt_state.specs.IsSafeWorld.{IsSafeWorld}
use Rattle.rt_state.specs.Nodes.{ServerCallsAt}
use Rattle.rt_state.specs.Places.{AreAt}
use Rattle.rt_state.specs.Room.{counted}
use Rattle.rt_state.specs.declared.cost.Cost.{Cost}
use Rattle.rt_state.specs.declared.state.State.{State}
use Rattle.rt_store.specs.Answers.{found_in, reading}
use Rattle.rt_store.specs.Calls.{IsExact}
use Rattle.rt_store.specs.Contents.{starting_of}
use Rattle.rt_store.specs.Meaning.{Told}
use Rattle.rt_store.specs.declared.refused.StoreRefused.{StoreRefused}
use Rattle.rt_store.specs.declared.refused.StoreRefused.TheVariants as store
use Rattle.rt_store.proofs.Seeing.{told_exact}
use Rattle.rt_store.proofs.Told.{read_same}
use Rattle.rt_world.specs.Reading.{either, leader_in, leads, stands, then_at}
use Rattle.rt_world.specs.Step.{Steps}
use Rattle.rt_world.proofs.Places.{at_set}
use Rattle.rt_world.proofs.SafeSteps.{steps_keep}
use Rattle.rt_heal.specs.AtRest.{IsUp}

-- a world that was reached from another one. The setup, the controllers and all that was written are as they were there, all servers
-- are up, and no fault of the store is planned
pub record IsHealthy (from w : State) : Type 0 where
  pub safe : IsSafeWorld w
  pub same : w.setup ≡ from.setup
  pub log : w.log ≡ from.log
  pub written : w.store.writes ≡ from.store.writes
  pub up : AreAt IsUp w.servers
  pub unplanned : w.store.faults.plan ≡ []
  pub controllers : w.controllers ≡ from.controllers
  pub reached : (turns : List Turn) × Leads from turns w

-- by a turn more
pub leads_more : (from : State) (turns : List Turn) (w y : State) (t : Turn) → Leads from turns w → TurnsTo w t y → Leads from (turns ++ t ∷ []) y
leads_more from [] w y t same turn = (y, subst (λ (x : State). TurnsTo x t y) same turn, refl)
leads_more from (u ∷ us) w y t (next, first, rest) turn = (next, first, leads_more next us w y t rest turn)

-- who is asked is told by the controllers alone
pub same_leader : (v w : State) → v.controllers ≡ w.controllers → leader_in v ≡ leader_in w
same_leader v w same = ap (λ (cs : List ControllerNode). then_at (either (position leads cs) (position stands cs))) same

-- what it saw
pub record HasSeen (w : State) (i : Instance) (n : ServerNode) (y : State) : Type 0 where
  pub new : ServerNode
  pub store : Told
  pub cost : Cost
  pub is : y ≡ counted (record w { servers = slice_set w.servers i.0 new; store = store }) cost
  pub writes : store.writes ≡ w.store.writes
  pub unplanned : store.faults.plan ≡ []
  pub up : new.up ≡ n.up
  pub server : new.server ≡ with_targets n.server (targets_of n.server.numbers.instance (entries_of w.store.writes))

pub plan_met : (f : Planned) → f.plan ≡ [] → (met_fault f).plan ≡ []
plan_met f e = ap (λ (ps : List Bool). (met_by (fault_of ps) f).plan) e ∙ e

abbrev came : {X : Type 0} → X → Result X ServerRefused
came x = Ok x

abbrev refused_by : {X : Type 0} → ServerRefused → Result X ServerRefused
refused_by e = Err e

came_not : {X : Type 0} (x : X) (e : ServerRefused) → came x ≡ refused_by e → ⊥
came_not x e h = cc

same_came : {X : Type 0} (x y : X) → came x ≡ came y → x ≡ y
same_came x y h = cc

abbrev found : Seen → Result Seen StoreRefused
found w = Ok w

-- the answer, where no fault is planned
read_so : (w : State) (s : ServerState) (new : ServerState) (w0 : Seen) (a : Result Seen StoreRefused) (r : Result ℕ ServerRefused) (outcome : Outcome)
    → a ≡ found w0 → Comes (seen_by s a) s new r → outcome_by told.SawIdeal r ≡ Some outcome
    → new ≡ with_targets s (targets_of s.numbers.instance (entries_by w0.node))
read_so w s new w0 a r outcome is comes told_it = by_answer r (subst (λ (x : Result Seen StoreRefused). Comes (seen_by s x) s new r) is comes) told_it
  where
    by_answer : (r : Result ℕ ServerRefused) → Comes (seen_by s (found w0)) s new r → outcome_by told.SawIdeal r ≡ Some outcome
        → new ≡ with_targets s (targets_of s.numbers.instance (entries_by w0.node))
    by_answer (Ok version) c t = sym (ap (λ (x : ℕ × ServerState). x.1) (same_came (w0.version, with_targets s (targets_of s.numbers.instance (entries_by w0.node))) (version, new) c))
    by_answer (Err refused.NotDue) c t = absurd (none-some outcome t)
    by_answer (Err refused.StoreFault) c t = absurd (came_not (w0.version, with_targets s (targets_of s.numbers.instance (entries_by w0.node))) refused.StoreFault c.0)
    by_answer (Err (refused.BadFile wanted other)) c t = absurd (none-some outcome t)
    by_answer (Err refused.Memory) c t = absurd (none-some outcome t)

abbrev stepped : ServerRefused → Result (ℕ × ServerState) ServerRefused
stepped e = Err e

fault_not : stepped refused.Memory ≡ stepped refused.StoreFault → ⊥
fault_not h = cc

-- want of memory has no outcome
memory_not : (s new : ServerState) (r : Result ℕ ServerRefused) (outcome : Outcome) → Comes (seen_by s (Err store.Memory)) s new r
    → outcome_by told.SawIdeal r ≡ Some outcome → ⊥
memory_not s new (Ok version) outcome c t = came_not (version, new) refused.Memory (sym c)
memory_not s new (Err refused.NotDue) outcome c t = none-some outcome t
memory_not s new (Err refused.StoreFault) outcome c t = fault_not c.0
memory_not s new (Err (refused.BadFile wanted other)) outcome c t = none-some outcome t
memory_not s new (Err refused.Memory) outcome c t = none-some outcome t

pub see_told : (from w : State) (i : Instance) (n : ServerNode) (y : State) (outcome : Outcome) → IsHealthy from w → slice_get w.servers i.0 ≡ Some n
    → Steps w (See i) y (Ok outcome) → HasSeen w i n y
see_told from w i n y outcome k there (cost, due, h) =
    let g = subst (λ (o : Option ServerNode). ServerCallsAt o w i NodeSees cost (y, outcome)) there h in
    let ideal = has_ideal_state (starting_of w.setup) w.store.writes k.safe.safe.past.lawful in
    let entries : entries_of w.store.writes ≡ entries_by ideal.0.node = ap entries_in (value_of-last w.store.writes key.Ideal ideal.0 ideal.2).0 in
    let exact = told_exact w.store g.1 (reading key.Ideal) (λ base. base) g.2.1.0 g.2.1.1 in
    by_exact g.0 g.1 g.2.0 g.2.1.0 g.3 ideal.0 ideal.2 entries g.2.1.2 g.2.2 g.2.3 exact
  where
    by_exact : (new : ServerNode) (u : Told) (r : Result ℕ ServerRefused) (a : Result Seen StoreRefused)
        → y ≡ counted (record w { servers = slice_set w.servers i.0 new; store = u }) cost
        → (w0 : Seen) → value_of w.store.writes key.Ideal ≡ Some w0 → entries_of w.store.writes ≡ entries_by w0.node
        → Comes (seen_by n.server a) n.server new.server r → outcome_by told.SawIdeal r ≡ Some outcome → new.up ≡ n.up
        → IsExact w.store u (reading key.Ideal) (λ base. base) a → HasSeen w i n y
    by_exact new u r a is w0 value entries comes told_it up (inl (ran_out, same)) =
        absurd (memory_not n.server new.server r outcome (subst (λ (x : Result Seen StoreRefused). Comes (seen_by n.server x) n.server new.server r) ran_out comes) told_it)
    by_exact new u r a is w0 value entries comes told_it up (inr (answer, left)) =
        let at : a ≡ found w0 =
        answer ∙ ap (λ (ps : List Bool). answer_under store.Failed (fault_of ps) (reading key.Ideal w.store.writes)) k.unplanned ∙ ap found_in value in
        record {
          new = new;
          store = u;
          cost = cost;
          is = is;
          writes = ap (λ (x : Told). x.writes) left ∙ read_same w.store;
          unplanned = ap (λ (x : Told). x.faults.plan) left ∙ plan_met w.store.faults k.unplanned;
          up = up;
          server =
              read_so w n.server new.server w0 a r outcome at comes told_it
              ∙ ap (λ (es : List IdealEntry). with_targets n.server (targets_of n.server.numbers.instance es)) (sym entries);
        }

pub see_healthy : (from w : State) (i : Instance) (n : ServerNode) (y : State) (outcome : Outcome) → IsHealthy from w → slice_get w.servers i.0 ≡ Some n
    → Steps w (See i) y (Ok outcome) → HasSeen w i n y → IsHealthy from y
see_healthy from w i n y outcome k there step s =
    let safe = steps_keep w (See i) y (Ok outcome) (λ h. cc) tt k.safe step in
    let z = counted (record w { servers = slice_set w.servers i.0 s.new; store = s.store }) s.cost in
    let healthy : IsHealthy from z = record {
      safe = subst IsSafeWorld s.is safe;
      same = k.same;
      log = k.log;
      written = s.writes ∙ k.written;
      up = at_set IsUp w.servers i.0 s.new (s.up ∙ k.up i.0 n there) k.up;
      unplanned = s.unplanned;
      controllers = k.controllers;
      reached =
          subst (λ (x : State). (turns : List Turn) × Leads from turns x) s.is
          (k.reached.0 ++ happens (See i) outcome ∷ [], leads_more from k.reached.0 w y (happens (See i) outcome) k.reached.1 (tt, step));
    } in
    subst (IsHealthy from) (sym s.is) healthy
