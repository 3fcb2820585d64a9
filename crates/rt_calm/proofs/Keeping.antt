-- What turns leave as they go on: the log, a history that has grown, who leads, and a steady world where nothing was written.
use Rattle.std.proofs.Common.{◌≡◌, List, [], ◌∷◌, ◌++◌, length, Ok, refl, sym, ◌∙◌, ap, subst, arith, slice_get}
use Rattle.std.proofs.lemmas.List.{append-nil, length-append}
use Rattle.rt_commit.specs.Calls.{calls_nothing, creates, gets, puts, reads, sets, Call}
use Rattle.rt_commit.specs.Told.{deep_after, store_after, ToldDeep}
use Rattle.rt_events.specs.Fits.{Fits as IsFitting}
use Rattle.rt_events.specs.declared.event.Event.{Event}
use Rattle.rt_events.specs.declared.outcome.Outcome.{Outcome}
use Rattle.rt_lists.specs.Members.{IsFront}
use Rattle.rt_lists.proofs.Members.{front_same, front_then}
use Rattle.rt_model.specs.declared.node.Seen.{Seen}
use Rattle.rt_nodes.specs.declared.server_node.ServerNode.{ServerNode}
use Rattle.rt_safety.specs.Runs.{happens, Leads, Turn}
use Rattle.rt_safety.proofs.Runs.{leads_add, leads_safe}
use Rattle.rt_state.specs.IsSafeWorld.{IsSafeWorld}
use Rattle.rt_state.specs.declared.state.State.{State}
use Rattle.rt_store.specs.Meaning.{Told}
use Rattle.rt_world.specs.Step.{Steps}
use Rattle.rt_heal.specs.AtRest.{AreUp}
use Rattle.rt_heal.specs.Calm.{AreAllCalm, IsCalm}
use Rattle.rt_heal.specs.Left.{CanAllFollow}
use Rattle.rt_heal.proofs.Dropped.{leads_told, IsToldRightly}
use Rattle.rt_heal.proofs.Following.{all_follow}
use Rattle.rt_heal.proofs.LessRounds.{IsSteady}
use Rattle.rt_heal.proofs.Seeing.{plan_met}
use Rattle.rt_calm.proofs.Leading.{leads_still, leads_then as keeps_leading, KeepsLeads}

-- ---- worlds of a run

-- a safe world in which all that was told is right
pub record IsGoing (u : State) : Type 0 where
  pub safe : IsSafeWorld u
  pub told : IsToldRightly u

pub can_follow : (w : State) → IsGoing w → CanAllFollow w
can_follow w k = λ i n there. all_follow w k.safe k.told i n there

module _ (u v : State) (e : Event) (o : Outcome) (k : IsGoing u) (fits : IsFitting u.setup.schema e) (steps : Steps u e v (Ok o)) where
  abbrev leads : Leads u (happens e o ∷ []) v
  leads = (v, (fits, steps), refl)

  pub goes_on : IsGoing v
  goes_on = record { safe = leads_safe u (happens e o ∷ []) v k.safe leads; told = leads_told u (happens e o ∷ []) v k.safe k.told leads }

  pub step_grows : IsFront u.store.writes v.store.writes
  step_grows = (leads_add u (happens e o ∷ []) v k.safe leads).goes.past.history

-- ---- histories

none_of : {X : Type 0} (xs : List X) → length xs ≡ 0 → xs ≡ []
none_of [] e = refl
none_of (x ∷ xs) e = absurd (omega (arith, e))

-- what lies between two that are the same is the same
pub middle_same : {X : Type 0} (a b c : List X) → IsFront a b → IsFront b c → c ≡ a → b ≡ a
middle_same a b c f g same =
    f.1 ∙ ap (λ more. a ++ more) (none_of f.0 none) ∙ append-nil a
  where
    none : length f.0 ≡ 0
    none =
        let first = ap (λ xs. length xs) f.1 ∙ length-append a f.0 in
        let second = ap (λ xs. length xs) g.1 ∙ length-append b g.0 in
        omega (arith, first, second, ap (λ xs. length xs) same)

-- no call plans a fault of the store
pub unplanned_after : (t : Told) (call : Call) → t.faults.plan ≡ [] → (store_after t call).faults.plan ≡ []
unplanned_after t calls_nothing e = e
unplanned_after t (puts path bytes) e = e
unplanned_after t (gets path) e = e
unplanned_after t (reads k) e = plan_met t.faults e
unplanned_after t (sets from n) e = plan_met t.faults e
unplanned_after t (creates k n prior) e = plan_met t.faults e

-- ---- what is kept

pub record KeepsOn (w v : State) : Type 0 where
  pub going : IsGoing v
  pub log : v.log ≡ w.log
  pub grows : IsFront w.store.writes v.store.writes
  pub setup : v.setup ≡ w.setup
  pub leads : KeepsLeads w v
  pub led : (turns : List Turn) × Leads w turns v
  pub up : AreUp w → AreUp v
  pub unplanned : w.store.faults.plan ≡ [] → v.store.faults.plan ≡ []
  pub fetches : w.deep.faults.plan ≡ [] → v.deep.faults.plan ≡ []
  pub steady : v.store.writes ≡ w.store.writes → IsSteady w → IsSteady v

pub keeps_still : (w : State) → IsGoing w → KeepsOn w w
keeps_still w k =
    record {
      going = k;
      log = refl;
      grows = front_same w.store.writes;
      setup = refl;
      leads = leads_still w w refl;
      led = ([], refl);
      up = λ up. up;
      unplanned = λ none. none;
      fetches = λ none. none;
      steady = λ same steady. steady;
    }

-- turns behind others
pub leads_then : (from m to : State) (xs ys : List Turn) → Leads from xs m → Leads m ys to → Leads from (xs ++ ys) to
leads_then from m to [] ys same l = subst (λ (x : State). Leads x ys to) same l
leads_then from m to (x ∷ xs) ys (next, turn, rest) l = (next, turn, leads_then next m to xs ys rest l)

pub keeps_then : (w m v : State) → KeepsOn w m → KeepsOn m v → KeepsOn w v
keeps_then w m v x y =
    record {
      going = y.going;
      log = y.log ∙ x.log;
      grows = front_then w.store.writes m.store.writes v.store.writes x.grows y.grows;
      setup = y.setup ∙ x.setup;
      leads = keeps_leading w m v x.leads y.leads;
      led = (x.led.0 ++ y.led.0, leads_then w m v x.led.0 y.led.0 x.led.1 y.led.1);
      up = λ up. y.up (x.up up);
      unplanned = λ none. y.unplanned (x.unplanned none);
      fetches = λ none. y.fetches (x.fetches none);
      steady = λ same steady. kept same steady;
    }
  where
    kept : v.store.writes ≡ w.store.writes → IsSteady w → IsSteady v
    kept same steady =
        let first = middle_same w.store.writes m.store.writes v.store.writes x.grows y.grows same in
        y.steady (same ∙ sym first) (x.steady first steady)

-- a step that leaves the servers up and calm
pub step_keeps : (u v : State) (e : Event) (o : Outcome) → IsGoing u → IsFitting u.setup.schema e → Steps u e v (Ok o) → v.log ≡ u.log
    → KeepsLeads u v → (u.store.faults.plan ≡ [] → v.store.faults.plan ≡ []) → (u.deep.faults.plan ≡ [] → v.deep.faults.plan ≡ []) → (AreUp u → AreUp v)
    → (v.store.writes ≡ u.store.writes → AreAllCalm u → AreAllCalm v) → KeepsOn u v
step_keeps u v e o k fits steps log leads plan fetches up calm =
    let going = goes_on u v e o k fits steps in
    record {
      going = going;
      log = log;
      grows = step_grows u v e o k fits steps;
      setup = (leads_add u (happens e o ∷ []) v k.safe (v, (fits, steps), refl)).goes.setup;
      leads = leads;
      led = (happens e o ∷ [], (v, (fits, steps), refl));
      up = up;
      unplanned = plan;
      fetches = fetches;
      steady = λ same s. record {
        safe = going.safe;
        unplanned = plan s.unplanned;
        up = up s.up;
        calm = calm same s.calm;
        follow = can_follow v going;
      };
    }

pub servers_up : (u v : State) → v.servers ≡ u.servers → AreUp u → AreUp v
servers_up u v servers up i n there = up i n (ap (λ (ns : List ServerNode). slice_get ns i) (sym servers) ∙ there)

-- no call plans a fault of the deep store
pub fetches_after : (d : ToldDeep) (call : Call) → d.faults.plan ≡ [] → (deep_after d call).faults.plan ≡ []
fetches_after d calls_nothing e = e
fetches_after d (puts path bytes) e = plan_met d.faults e
fetches_after d (gets path) e = plan_met d.faults e
fetches_after d (reads k) e = e
fetches_after d (sets from n) e = e
fetches_after d (creates k n prior) e = e

-- servers that are the same stay calm over the same history
pub calm_still : (u v : State) → v.servers ≡ u.servers → v.store.writes ≡ u.store.writes → AreAllCalm u → AreAllCalm v
calm_still u v servers writes calm i n there =
    subst (λ (h : List Seen). IsCalm h n) (sym writes) (calm i n (ap (λ (ns : List ServerNode). slice_get ns i) (sym servers) ∙ there))
