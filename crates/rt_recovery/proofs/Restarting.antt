-- Nodes that crash and restart are fresh, and all else but the servers' incarnations is as it was.
use Rattle.std.specs.List.{position, position_or_len}
use Rattle.std.proofs.Common.{◌≡◌, ◌⊎◌, inl, inr, ℕ, suc, ◌+◌, ◌<◌, ◌≤◌, Bool, true, false, cond, not, List, [], ◌∷◌, ◌++◌, Option, Some, None, Result, Ok, Err, refl, sym, ◌∙◌, ap, subst, arith, length, nat_lt, slice_get}
use Rattle.std.specs.Prelude.{◌||◌, slice_set}
use Rattle.std.proofs.lemmas.Bool.{and_from, cases_lt, lt-ltb, not-true}
use Rattle.std.proofs.lemmas.Option.{none-some, same_Some, slice_get_within}
use Rattle.rt_base.specs.Faults.{answer_under, fault_of, left_under}
use Rattle.rt_base.specs.declared.numbers.ControllerId.{ControllerId}
use Rattle.rt_base.specs.declared.numbers.Instance.{Instance}
use Rattle.rt_base.specs.declared.numbers.Partition.{Partition}
use Rattle.rt_broker.proofs.Lasting.{got_of_set}
use Rattle.rt_entry.specs.Calls.{Comes}
use Rattle.rt_entry.specs.declared.refused.ServerRefused.{ServerRefused}
use Rattle.rt_entry.specs.declared.refused.ServerRefused.TheVariants as refused
use Rattle.rt_events.specs.Fits.{Fits as IsFitting}
use Rattle.rt_events.specs.declared.event.Event.{Event}
use Rattle.rt_events.specs.declared.event.Event.TheVariants as event
use Rattle.rt_events.specs.declared.outcome.Outcome.{Outcome}
use Rattle.rt_events.specs.declared.outcome.Outcome.TheVariants as told
use Rattle.rt_events.specs.declared.refusal.Refusal.TheVariants.{NoSuchNode, NothingToDo}
use Rattle.rt_macros.specs.Doing.{Choose, Gives, Passed, Reached}
use Rattle.rt_model.specs.Entries.{entries_of}
use Rattle.rt_model.specs.Lawful.{bump, written_by}
use Rattle.rt_model.specs.Metadata.{metadata_of}
use Rattle.rt_model.specs.Setup.{IsSetup}
use Rattle.rt_model.specs.declared.node.Seen.{Seen}
use Rattle.rt_model.specs.declared.setup.Setup.{Setup}
use Rattle.rt_nodes.specs.Reading.{leads, stands}
use Rattle.rt_nodes.specs.Refused.{outcome_by}
use Rattle.rt_nodes.specs.declared.controller_node.ControllerNode.{ControllerNode}
use Rattle.rt_nodes.specs.declared.server_node.ServerNode.{ServerNode}
use Rattle.rt_repair.proofs.Standing.{entries_other, listed_other}
use Rattle.rt_safety.proofs.JobsOn.{own_slot}
use Rattle.rt_safety.proofs.Later.{runs_are_safe}
use Rattle.rt_safety.proofs.Runs.{leads_safe}
use Rattle.rt_safety.specs.Runs.{happens, Leads, Runs, Turn}
use Rattle.rt_server.specs.Calls.{in_incarnation, restarted_by, restarted_in}
use Rattle.rt_server.specs.Lasting.{IsEmpty}
use Rattle.rt_server.specs.Table.{Segments, ServerState}
use Rattle.rt_state.proofs.Possible.{only_passed}
use Rattle.rt_state.specs.Clock.{node_believing}
use Rattle.rt_state.specs.Finding.{has_controller, has_server, is_controller_up, is_server_up, is_up}
use Rattle.rt_state.specs.IsSafeWorld.{IsSafeWorld}
use Rattle.rt_state.specs.Lives.{controller_crashed, controller_restarted, is_answered, up_in_incarnation, NodeCrashes, NodeRestarts}
use Rattle.rt_state.specs.Nodes.{with_controller, with_server, ControllerDoes, ControllerDoesAt, ServerCallsAt, ServerDoesAt}
use Rattle.rt_state.specs.Room.{counted, no_cost, only_if, priced}
use Rattle.rt_state.specs.Start.{start}
use Rattle.rt_state.specs.declared.cost.Cost.{Cost}
use Rattle.rt_state.specs.declared.state.State.{State}
use Rattle.rt_store.proofs.Seeing.{told_exact}
use Rattle.rt_store.specs.Answers.{after_call, answer_of}
use Rattle.rt_store.specs.Calls.{IsExact}
use Rattle.rt_store.specs.Meaning.{Told}
use Rattle.rt_store.specs.declared.refused.StoreRefused.{StoreRefused}
use Rattle.rt_store.specs.declared.refused.StoreRefused.TheVariants as store
use Rattle.rt_world.specs.Reading.{either, then_at}
use Rattle.rt_world.specs.Step.{Steps}
use Rattle.rt_heal.proofs.Quiet.{then_parts}
use Rattle.rt_heal.proofs.Seeing.{leads_more, plan_met}
use Rattle.rt_calm.proofs.Keeping.{leads_then}
use Rattle.rt_recovery.specs.Fresh.{IsFreshServer}
use Rattle.rt_recovery.specs.Restarting.{ControllerAnew, ControllerCrash, ControllersAnew, IsStartedAnew, NodesAnew, ServerAnew, ServerCrash, ServersAnew, StartsAnew}
use Rattle.rt_recovery.proofs.Forgetting.{runs_forget, AllForgot}
use Rattle.rt_recovery.proofs.Turns.{from_leads, passed, HasPassed}

-- ---- what is left

-- all but the nodes, and but the incarnations among what was written, is as it was
record LeavesRest (u y : State) : Type 0 where
  setup : y.setup ≡ u.setup
  log : y.log ≡ u.log
  moment : y.moment ≡ u.moment
  deep : y.deep ≡ u.deep
  unplanned : u.store.faults.plan ≡ [] → y.store.faults.plan ≡ []
  entries : entries_of y.store.writes ≡ entries_of u.store.writes
  metadata : (p : Partition) → metadata_of y.store.writes p ≡ metadata_of u.store.writes p

rest_then : (u m y : State) → LeavesRest u m → LeavesRest m y → LeavesRest u y
rest_then u m y a b =
    record {
      setup = b.setup ∙ a.setup;
      log = b.log ∙ a.log;
      moment = b.moment ∙ a.moment;
      deep = b.deep ∙ a.deep;
      unplanned = λ none. b.unplanned (a.unplanned none);
      entries = b.entries ∙ a.entries;
      metadata = λ p. b.metadata p ∙ a.metadata p;
    }

-- the same writes
rest_of : (u y : State) → y.setup ≡ u.setup → y.log ≡ u.log → y.moment ≡ u.moment → y.deep ≡ u.deep → y.store ≡ u.store → LeavesRest u y
rest_of u y setup log moment deep same =
    record {
      setup = setup;
      log = log;
      moment = moment;
      deep = deep;
      unplanned = λ none. ap (λ (t : Told). t.faults.plan) same ∙ none;
      entries = ap (λ (t : Told). entries_of t.writes) same;
      metadata = λ p. ap (λ (t : Told). metadata_of t.writes p) same;
    }

-- turns lead to a safe world, and leave the rest
record GoesAnew (from u : State) : Type 0 where
  safe : IsSafeWorld u
  led : (turns : List Turn) × Leads from turns u
  rest : LeavesRest from u

still_anew : (w : State) → IsSafeWorld w → GoesAnew w w
still_anew w safe = record { safe = safe; led = ([], refl); rest = rest_of w w refl refl refl refl refl }

step_anew : (from u y : State) (e : Event) (o : Outcome) → GoesAnew from u → IsFitting u.setup.schema e → Steps u e y (Ok o) → LeavesRest u y → GoesAnew from y
step_anew from u y e o k fits steps rest =
    record {
      safe = leads_safe u (happens e o ∷ []) y k.safe (y, (fits, steps), refl);
      led = (k.led.0 ++ happens e o ∷ [], leads_more from k.led.0 u y (happens e o) k.led.1 (fits, steps));
      rest = rest_then from u y k.rest rest;
    }

-- ---- lists

-- each item below a place has this
abbrev Below : {X : Type 0} → (X → Type 0) → ℕ → List X → Type 0
Below {X} P i xs = (j : ℕ) (x : X) → slice_get xs j ≡ Some x → j < i → P x

below_put : {X : Type 0} (P : X → Type 0) (xs : List X) (i : ℕ) (new : X) → Below P i xs → Below P i (slice_set xs i new)
below_put {X} P xs i new below j x at less = by_place (got_of_set xs i j new x at)
  where
    by_place : ((j ≡ i) × (x ≡ new)) ⊎ (slice_get xs j ≡ Some x) → P x
    by_place (inl same) = absurd (omega (arith, less, same.0))
    by_place (inr there) = below j x there less

below_more : {X : Type 0} (P : X → Type 0) (xs : List X) (i : ℕ) (old new : X) → slice_get xs i ≡ Some old → P new → Below P i xs
    → Below P (i + 1) (slice_set xs i new)
below_more {X} P xs i old new there own below j x at less = by_place (cases_lt j i)
  where
    by_place : (j < i) ⊎ (i ≤ j) → P x
    by_place (inl lt) = below_put P xs i new below j x at lt
    by_place (inr past) =
        let same : j ≡ i = omega (arith, less, past) in
        let here : slice_get (slice_set xs i new) i ≡ Some x = subst (λ n. slice_get (slice_set xs i new) n ≡ Some x) same at in
        subst P (same_Some new x (sym (own_slot xs i old new there) ∙ here)) own

-- ---- the events of servers

-- another server is put in its place
record PutsServer (u y : State) (i : ℕ) : Type 0 where
  old : ServerNode
  new : ServerNode
  there : slice_get u.servers i ≡ Some old
  servers : y.servers ≡ slice_set u.servers i new
  rest : LeavesRest u y

server_crashes : (u y : State) (i : Instance) → HasPassed (event.CrashServer i) u y → PutsServer u y i.0
server_crashes u y i h = by_steps h.outcome h.steps
  where
    by_node : (n : Option ServerNode) → slice_get u.servers i.0 ≡ n → (o : Outcome) (cost : Cost) → ServerDoesAt n u i NodeCrashes cost (y, o)
        → PutsServer u y i.0
    by_node None at o cost h = absurd h
    by_node (Some n) at o cost (new, step, is) =
        record {
          old = n;
          new = new;
          there = at;
          servers = ap (λ (x : State). x.servers) is;
          rest = subst (LeavesRest u) (sym is) (rest_of u (counted (with_server u i new) cost) refl refl refl refl refl);
        }

    by_steps : (o : Outcome) → Steps u (event.CrashServer i) y (Ok o) → PutsServer u y i.0
    by_steps o (cost, due, h) = by_node (slice_get u.servers i.0) refl o cost h

abbrev refused_so : {X : Type 0} → ServerRefused → Result X ServerRefused
refused_so e = Err e

abbrev answered_so : {X : Type 0} → X → Result X ServerRefused
answered_so x = Ok x

answered_not : {X : Type 0} (x : X) (e : ServerRefused) → answered_so x ≡ refused_so e → ⊥
answered_not x e h = cc

fault_not : {X : Type 0} → refused_so {X = X} refused.Memory ≡ refused_so refused.StoreFault → ⊥
fault_not h = cc

same_step : (x y : ℕ × ServerState) → answered_so x ≡ answered_so y → x ≡ y
same_step x y h = cc

-- want of memory has no outcome
memory_not : (s new : ServerState) (r : Result ℕ ServerRefused) (o : Outcome) → Comes (restarted_in s (Err refused.Memory)) s new r
    → outcome_by up_in_incarnation r ≡ Some o → ⊥
memory_not s new (Ok version) o c t = answered_not (version, new) refused.Memory (sym c)
memory_not s new (Err refused.NotDue) o c t = none-some o t
memory_not s new (Err refused.StoreFault) o c t = fault_not c.0
memory_not s new (Err (refused.BadFile wanted found)) o c t = none-some o t
memory_not s new (Err refused.Memory) o c t = none-some o t

-- where the bump was answered the server is up, with the table that it had
record HasRestarted (old new : ServerNode) : Type 0 where
  up : new.up ≡ true
  table : new.server.table ≡ old.server.table

or_true : (b : Bool) → (true || b) ≡ true
or_true true = refl
or_true false = refl

restarted_so : (old new : ServerNode) (version : ℕ) (r : Result ℕ ServerRefused) (o : Outcome)
    → Comes (restarted_in old.server (Ok version)) old.server new.server r → outcome_by up_in_incarnation r ≡ Some o
    → new.up ≡ (is_answered r || old.up) → HasRestarted old new
restarted_so old new version (Ok v) o c t up =
    record {
      up = up ∙ or_true old.up;
      table =
          ap (λ (x : ℕ × ServerState). x.1.table)
          (same_step (v, new.server) (version, in_incarnation old.server version) (sym c));
    }
restarted_so old new version (Err refused.NotDue) o c t up = absurd (none-some o t)
restarted_so old new version (Err refused.StoreFault) o c t up =
    absurd (answered_not (version, in_incarnation old.server version) refused.StoreFault c.0)
restarted_so old new version (Err (refused.BadFile wanted found)) o c t up = absurd (none-some o t)
restarted_so old new version (Err refused.Memory) o c t up = absurd (none-some o t)

-- a server that restarts is fresh
record PutsFresh (u y : State) (i : ℕ) : Type 0 where
  puts : PutsServer u y i
  fresh : IsFreshServer puts.new

module _ (u y : State) (i : Instance) (safe : IsSafeWorld u) (none : u.store.faults.plan ≡ []) where
  -- what is written is the server's incarnation
  bumped_rest : (j : Instance) (t : Told) (new : ServerNode) (cost : Cost) → t.writes ≡ u.store.writes ++ written_by u.store.writes (bump j) ∷ []
      → t.faults.plan ≡ [] → LeavesRest u (counted (record u { servers = slice_set u.servers i.0 new; store = t }) cost)
  bumped_rest j t new cost writes plan =
      let w = written_by u.store.writes (bump j) in
      record {
        setup = refl;
        log = refl;
        moment = refl;
        deep = refl;
        unplanned = λ before. plan;
        entries = ap (λ (h : List Seen). entries_of h) writes ∙ entries_other u.store.writes w (λ e. cc);
        metadata = λ p. ap (λ (h : List Seen). metadata_of h p) writes ∙ listed_other u.store.writes w p (λ q e. cc);
      }

  by_exact : (old new : ServerNode) (t : Told) (a : Result ℕ StoreRefused) (r : Result ℕ ServerRefused) (o : Outcome) (cost : Cost)
      → slice_get u.servers i.0 ≡ Some old → old.up ≡ false
      → y ≡ counted (record u { servers = slice_set u.servers i.0 new; store = t }) cost
      → Comes (restarted_by old.server a) old.server new.server r → outcome_by up_in_incarnation r ≡ Some o
      → new.up ≡ (is_answered r || old.up)
      → IsExact u.store t (answer_of (λ w. w.version) (bump old.server.numbers.instance)) (after_call (bump old.server.numbers.instance)) a
      → PutsFresh u y i.0
  by_exact old new t a r o cost there down is comes tells up (inl (out, same)) =
      absurd (memory_not old.server new.server r o (subst (λ (x : Result ℕ StoreRefused). Comes (restarted_by old.server x) old.server new.server r) out comes) tells)
  by_exact old new t a r o cost there down is comes tells up (inr (answer, left)) =
      let j = old.server.numbers.instance in
      let h = u.store.writes in
      let version : ℕ = (written_by h (bump j)).version in
      let at : a ≡ Ok version =
      answer ∙ ap (λ (ps : List Bool). answer_under store.Failed (fault_of ps) (answer_of (λ w. w.version) (bump j) h)) none in
      let writes : t.writes ≡ h ++ written_by h (bump j) ∷ [] =
      ap (λ (x : Told). x.writes) left ∙ ap (λ (ps : List Bool). left_under (fault_of ps) h (after_call (bump j) h)) none in
      let plan : t.faults.plan ≡ [] = ap (λ (x : Told). x.faults.plan) left ∙ plan_met u.store.faults none in
      let anew = restarted_so old new version r o
      (subst (λ (x : Result ℕ StoreRefused). Comes (restarted_by old.server x) old.server new.server r) at comes) tells up in
      let empty : IsEmpty old.server = (safe.safe.servers i.0 old there).down down in
      record {
        puts = record {
          old = old;
          new = new;
          there = there;
          servers = ap (λ (x : State). x.servers) is;
          rest = subst (LeavesRest u) (sym is) (bumped_rest j t new cost writes plan);
        };
        fresh = record {
          up = anew.up;
          empty = ap (λ (x : Segments). x.entries) (anew.table ∙ empty);
        };
      }

  server_restarts : HasPassed (event.RestartServer i) u y → PutsFresh u y i.0
  server_restarts h = by_steps h.outcome h.steps
    where
      by_node : (n : Option ServerNode) → slice_get u.servers i.0 ≡ n → is_server_up u i ≡ false → (o : Outcome) (cost : Cost)
          → ServerCallsAt n u i NodeRestarts cost (y, o) → PutsFresh u y i.0
      by_node None at down o cost h = absurd h
      by_node (Some n) at down o cost (new, t, (r, (a, bumps, comes, wrote), tells, up), is) =
          by_exact n new t a r o cost at (ap is_up (sym at) ∙ down) is comes tells up
          (told_exact u.store t (answer_of (λ w. w.version) (bump n.server.numbers.instance)) (after_call (bump n.server.numbers.instance)) a bumps)

      by_steps : (o : Outcome) → Steps u (event.RestartServer i) y (Ok o) → PutsFresh u y i.0
      by_steps o (cost, due, h) =
          let there = only_passed (has_server u i) NoSuchNode (only_if (not (is_server_up u i)) NothingToDo (priced u no_cost)) cost due in
          let down = only_passed (not (is_server_up u i)) NothingToDo (priced u no_cost) cost there.1 in
          by_node (slice_get u.servers i.0) refl (not-true (is_server_up u i) down.0) o cost h

-- ---- the turns of servers

-- servers below a number are fresh
record ServersTo (from : State) (i : ℕ) (u : State) : Type 0 where
  on : GoesAnew from u
  unplanned : u.store.faults.plan ≡ []
  fresh : Below IsFreshServer i u.servers

server_crash_leads : (from : State) (i : ℕ) (w : State) (v : Reached) (told : Unit {0}) → ServersTo from i w → ServerCrash i w v (Ok told)
    → ServersTo from i v.world
server_crash_leads from i w v told k h = by_up (is_server_up w (record { 0 = i })) h
  where
    by_up : (b : Bool) → Choose b (Passed (event.CrashServer (record { 0 = i })) w) (Gives tt w) v (Ok told) → ServersTo from i v.world
    by_up true g =
        let p = passed (event.CrashServer (record { 0 = i })) w v told g in
        let c = server_crashes w v.world (record { 0 = i }) p in
        record {
          on = step_anew from w v.world (event.CrashServer (record { 0 = i })) p.outcome k.on tt p.steps c.rest;
          unplanned = c.rest.unplanned k.unplanned;
          fresh = subst (Below IsFreshServer i) (sym c.servers) (below_put IsFreshServer w.servers i c.new k.fresh);
        }
    by_up false g = subst (ServersTo from i) (sym (ap (λ (z : Reached). z.world) g.0)) k

server_anew_leads : (from : State) (i : ℕ) (done told : Unit {0}) (w : State) (v : Reached) → ServersTo from i w → ServerAnew i done w v (Ok told)
    → ServersTo from (i + 1) v.world
server_anew_leads from i done told w v k h =
    let at : Instance = record { 0 = i } in
    let t = then_parts (ServerCrash i) (λ down. Passed (event.RestartServer at)) w v told h in
    let u = t.between.world in
    let y = t.last.world in
    let c = server_crash_leads from i w t.between t.told k t.came in
    let p = passed (event.RestartServer at) u t.last told t.further in
    let r = server_restarts u y at c.on.safe c.unplanned p in
    subst (ServersTo from (i + 1)) (sym (ap (λ (z : Reached). z.world) t.whole))
    (record {
      on = step_anew from u y (event.RestartServer at) p.outcome c.on tt p.steps r.puts.rest;
      unplanned = r.puts.rest.unplanned c.unplanned;
      fresh =
          subst (Below IsFreshServer (i + 1)) (sym r.puts.servers)
          (below_more IsFreshServer u.servers i r.puts.old r.puts.new r.puts.there r.fresh c.fresh);
    })

-- all of them
record ServersFresh (from u : State) : Type 0 where
  on : GoesAnew from u
  unplanned : u.store.faults.plan ≡ []
  fresh : (i : ℕ) (n : ServerNode) → slice_get u.servers i ≡ Some n → IsFreshServer n

servers_anew : (w : State) (v : Reached) (told : Unit {0}) → IsSafeWorld w → w.store.faults.plan ≡ [] → ServersAnew w v (Ok told) → ServersFresh w v.world
servers_anew w v told safe none h =
    let first : ServersTo w 0 w = record { on = still_anew w safe; unplanned = none; fresh = λ j n at less. absurd (omega (arith, less)) } in
    let k = from_leads ServerAnew (ServersTo w) (server_anew_leads w) 0 w.setup.servers tt told w v first h in
    record {
      on = k.on;
      unplanned = k.unplanned;
      fresh =
          λ i n at. k.fresh i n at
          (omega (arith, slice_get_within v.world.servers i n at, k.on.safe.safe.all_servers, ap (λ (s : Setup). s.servers) k.on.rest.setup));
    }

-- ---- the events of controllers

-- a controller's own step
record PutsController (u y : State) (c : ℕ) (does : ControllerNode → ControllerNode) : Type 0 where
  old : ControllerNode
  there : slice_get u.controllers c ≡ Some old
  controllers : y.controllers ≡ slice_set u.controllers c (does old)
  servers : y.servers ≡ u.servers
  rest : LeavesRest u y

controller_steps : (u y : State) (c : ControllerId) (does : ControllerNode → ControllerNode) (o tells : Outcome) (cost : Cost)
    → ControllerDoes u c does tells cost (y, o) → PutsController u y c.0 does
controller_steps u y c does o tells cost h = by_node (slice_get u.controllers c.0) refl h
  where
    by_node : (n : Option ControllerNode) → slice_get u.controllers c.0 ≡ n → ControllerDoesAt n u c does tells cost (y, o) → PutsController u y c.0 does
    by_node None at h = absurd h
    by_node (Some n) at is =
        let world : y ≡ counted (with_controller u c (does n)) cost = ap (λ (x : State × Outcome). x.0) is in
        record {
          old = n;
          there = at;
          controllers = ap (λ (x : State). x.controllers) world;
          servers = ap (λ (x : State). x.servers) world;
          rest = subst (LeavesRest u) (sym world) (rest_of u (counted (with_controller u c (does n)) cost) refl refl refl refl refl);
        }

controller_crashes : (u y : State) (c : ControllerId) → HasPassed (event.CrashController c) u y → PutsController u y c.0 controller_crashed
controller_crashes u y c h = by_steps h.outcome h.steps
  where
    by_steps : (o : Outcome) → Steps u (event.CrashController c) y (Ok o) → PutsController u y c.0 controller_crashed
    by_steps o (cost, due, h) = controller_steps u y c controller_crashed o told.Down cost h

controller_restarts : (u y : State) (c : ControllerId) → HasPassed (event.RestartController c) u y → PutsController u y c.0 controller_restarted
controller_restarts u y c h = by_steps h.outcome h.steps
  where
    by_steps : (o : Outcome) → Steps u (event.RestartController c) y (Ok o) → PutsController u y c.0 controller_restarted
    by_steps o (cost, due, h) = controller_steps u y c controller_restarted o (told.Up None) cost h

controller_leads : (u y : State) (c : ControllerId) → HasPassed (event.Lead c true) u y → PutsController u y c.0 (node_believing true)
controller_leads u y c h = by_steps h.outcome h.steps
  where
    by_steps : (o : Outcome) → Steps u (event.Lead c true) y (Ok o) → PutsController u y c.0 (node_believing true)
    by_steps o (cost, due, h) = controller_steps u y c (node_believing true) o told.Noted cost h

-- one that restarts was down
controller_was_down : (u y : State) (c : ControllerId) → HasPassed (event.RestartController c) u y → is_controller_up u c ≡ false
controller_was_down u y c h = by_steps h.outcome h.steps
  where
    by_steps : (o : Outcome) → Steps u (event.RestartController c) y (Ok o) → is_controller_up u c ≡ false
    by_steps o (cost, due, h) =
        let there = only_passed (has_controller u c) NoSuchNode (only_if (not (is_controller_up u c)) NothingToDo (priced u no_cost)) cost due in
        not-true (is_controller_up u c) (only_passed (not (is_controller_up u c)) NothingToDo (priced u no_cost) cost there.1).0

-- ---- the turns of controllers

-- a controller that is up and has no machine
record IsFreshController (n : ControllerNode) : Type 0 where
  up : n.up ≡ true
  empty : n.controller.machines ≡ []

module _ (setup : Setup) (turns : List Turn) (from : State) (run : Runs setup turns from) where
  forgotten : (u : State) → GoesAnew from u → AllForgot u.controllers
  forgotten u k = runs_forget setup (turns ++ k.led.0) u (leads_then (start setup) from u turns k.led.0 run k.led.1)

  -- controllers below a number are fresh, and all servers
  record ControllersTo (i : ℕ) (u : State) : Type 0 where
    servers : ServersFresh from u
    fresh : Below IsFreshController i u.controllers

  servers_same : (u y : State) (e : Event) (o : Outcome) → ServersFresh from u → IsFitting u.setup.schema e → Steps u e y (Ok o) → y.servers ≡ u.servers
      → LeavesRest u y → ServersFresh from y
  servers_same u y e o k fits steps servers rest =
      record {
        on = step_anew from u y e o k.on fits steps rest;
        unplanned = rest.unplanned k.unplanned;
        fresh = λ i n at. k.fresh i n (ap (λ (ns : List ServerNode). slice_get ns i) (sym servers) ∙ at);
      }

  controller_crash_leads : (i : ℕ) (w : State) (v : Reached) (told : Unit {0}) → ControllersTo i w → ControllerCrash i w v (Ok told) → ControllersTo i v.world
  controller_crash_leads i w v told k h = by_up (is_controller_up w (record { 0 = i })) h
    where
      by_up : (b : Bool) → Choose b (Passed (event.CrashController (record { 0 = i })) w) (Gives tt w) v (Ok told) → ControllersTo i v.world
      by_up true g =
          let at : ControllerId = record { 0 = i } in
          let p = passed (event.CrashController at) w v told g in
          let c = controller_crashes w v.world at p in
          record {
            servers = servers_same w v.world (event.CrashController at) p.outcome k.servers tt p.steps c.servers c.rest;
            fresh =
                subst (Below IsFreshController i) (sym c.controllers)
                (below_put IsFreshController w.controllers i (controller_crashed c.old) k.fresh);
          }
      by_up false g = subst (ControllersTo i) (sym (ap (λ (z : Reached). z.world) g.0)) k

  controller_anew_leads : (i : ℕ) (done told : Unit {0}) (w : State) (v : Reached) → ControllersTo i w → ControllerAnew i done w v (Ok told)
      → ControllersTo (i + 1) v.world
  controller_anew_leads i done told w v k h =
      let at : ControllerId = record { 0 = i } in
      let t = then_parts (ControllerCrash i) (λ down. Passed (event.RestartController at)) w v told h in
      let u = t.between.world in
      let y = t.last.world in
      let c = controller_crash_leads i w t.between t.told k t.came in
      let p = passed (event.RestartController at) u t.last told t.further in
      let r = controller_restarts u y at p in
      let down : r.old.up ≡ false = own_up u at r.old r.there ∙ controller_was_down u y at p in
      subst (ControllersTo (i + 1)) (sym (ap (λ (z : Reached). z.world) t.whole))
      (record {
        servers = servers_same u y (event.RestartController at) p.outcome c.servers tt p.steps r.servers r.rest;
        fresh =
            subst (Below IsFreshController (i + 1)) (sym r.controllers)
            (below_more IsFreshController u.controllers i r.old (controller_restarted r.old) r.there
            (record { up = refl; empty = forgotten u c.servers.on i r.old r.there down }) c.fresh);
      })
    where
      own_up : (u : State) (c : ControllerId) (n : ControllerNode) → slice_get u.controllers c.0 ≡ Some n → n.up ≡ is_controller_up u c
      own_up u c n there = ap up_of (sym there)
        where
          up_of : Option ControllerNode → Bool
          up_of None = false
          up_of (Some m) = m.up

  -- all of them
  record AllFresh (u : State) : Type 0 where
    servers : ServersFresh from u
    fresh : (c : ℕ) (n : ControllerNode) → slice_get u.controllers c ≡ Some n → IsFreshController n

  nodes_anew : (v : Reached) (told : Unit {0}) → IsSafeWorld from → from.store.faults.plan ≡ [] → NodesAnew from v (Ok told) → AllFresh v.world
  nodes_anew v told safe none h =
      let t = then_parts ServersAnew (λ done. ControllersAnew) from v told h in
      let u = t.between.world in
      let s = servers_anew from t.between t.told safe none t.came in
      let first : ControllersTo 0 u = record { servers = s; fresh = λ j n at less. absurd (omega (arith, less)) } in
      let k = from_leads ControllerAnew ControllersTo controller_anew_leads 0 u.setup.controllers tt told u t.last first t.further in
      subst AllFresh (sym (ap (λ (z : Reached). z.world) t.whole))
      (record {
        servers = k.servers;
        fresh =
            λ c n at. k.fresh c n at
            (omega (
              arith,
              slice_get_within t.last.world.controllers c n at,
              k.servers.on.safe.safe.all_controllers,
              ap (λ (s : Setup). s.controllers) k.servers.on.rest.setup,
              ap (λ (s : Setup). s.controllers) s.on.rest.setup,
            ));
      })

  -- ---- the first controller leads

  -- the first place, where it passes
  first_leads : (n : ControllerNode) (ns : List ControllerNode) → leads n ≡ true
      → then_at (either (position leads (n ∷ ns)) (position stands (n ∷ ns))) ≡ Some (record { 0 = 0 })
  first_leads n ns own =
      ap
      (λ (b : Bool).
      then_at (either (cond (nat_lt (cond (not b) (1 + position_or_len leads ns) 0) (length (n ∷ ns))) (Some (cond (not b) (1 + position_or_len leads ns) 0)) None)
      (position stands (n ∷ ns))))
      own
      ∙ ap (λ (b : Bool). then_at (either (cond b (Some 0) None) (position stands (n ∷ ns)))) (lt-ltb 0 (suc (length ns)) (omega arith))

  put_first : (ns : List ControllerNode) (old new : ControllerNode) → slice_get ns 0 ≡ Some old → leads new ≡ true
      → then_at (either (position leads (slice_set ns 0 new)) (position stands (slice_set ns 0 new))) ≡ Some (record { 0 = 0 })
  put_first [] old new there own = absurd (none-some old there)
  put_first (n ∷ ns) old new there own = first_leads new ns own

  abbrev first_place : ControllerId
  first_place = record { 0 = 0 }

  starts_anew : (v : Reached) (told : Unit {0}) → IsSafeWorld from → from.store.faults.plan ≡ [] → StartsAnew from v (Ok told)
      → IsStartedAnew from v.world × ((more : List Turn) × Leads from more v.world)
  starts_anew v told safe none h =
      let at = first_place in
      let t = then_parts NodesAnew (λ done. Passed (event.Lead at true)) from v told h in
      let u = t.between.world in
      let y = t.last.world in
      let k = nodes_anew t.between t.told safe none t.came in
      let p = passed (event.Lead at true) u t.last told t.further in
      let l = controller_leads u y at p in
      let s = servers_same u y (event.Lead at true) p.outcome k.servers tt p.steps l.servers l.rest in
      let own = k.fresh 0 l.old l.there in
      let new = node_believing true l.old in
      let at_first : slice_get y.controllers 0 ≡ Some new =
      ap (λ (cs : List ControllerNode). slice_get cs 0) l.controllers ∙ own_slot u.controllers 0 l.old new l.there in
      subst (λ (x : State). IsStartedAnew from x × ((more : List Turn) × Leads from more x)) (sym (ap (λ (z : Reached). z.world) t.whole)) (
        record {
          fresh = record { servers = s.fresh; controllers = λ c n there. (all_fresh u y l.old new own k.fresh l.controllers c n there).empty };
          up = λ i n there. (s.fresh i n there).up;
          leading = record { place = 0; node = new; there = at_first; up = own.up; leads = refl };
          leader =
              ap (λ (cs : List ControllerNode). then_at (either (position leads cs) (position stands cs))) l.controllers
              ∙ put_first u.controllers l.old new l.there (and_from new.up new.controller.leads own.up refl);
          unplanned = s.unplanned;
          setup = s.on.rest.setup;
          log = s.on.rest.log;
          moment = s.on.rest.moment;
          deep = s.on.rest.deep;
          entries = s.on.rest.entries;
          metadata = s.on.rest.metadata;
        },
        s.on.led,
      )
    where
      all_fresh : (u y : State) (old new : ControllerNode) → IsFreshController old
          → ((c : ℕ) (n : ControllerNode) → slice_get u.controllers c ≡ Some n → IsFreshController n)
          → y.controllers ≡ slice_set u.controllers 0 (node_believing true old)
          → (c : ℕ) (n : ControllerNode) → slice_get y.controllers c ≡ Some n → IsFreshController n
      all_fresh u y old new own all put c n there =
          by_place (got_of_set u.controllers 0 c (node_believing true old) n (ap (λ (cs : List ControllerNode). slice_get cs c) (sym put) ∙ there))
        where
          by_place : ((c ≡ 0) × (n ≡ node_believing true old)) ⊎ (slice_get u.controllers c ≡ Some n) → IsFreshController n
          by_place (inl same) = subst IsFreshController (sym same.1) (record { up = own.up; empty = own.empty })
          by_place (inr other) = all c n other

-- from any world of a run on
pub started_anew : (setup : Setup) (turns : List Turn) (w : State) (v : Reached) → IsSetup setup → Runs setup turns w → w.store.faults.plan ≡ []
    → StartsAnew w v (Ok tt) → IsStartedAnew w v.world × ((more : List Turn) × Leads w more v.world)
started_anew setup turns w v is run none h = starts_anew setup turns w run v tt (runs_are_safe setup turns w is run) none h
