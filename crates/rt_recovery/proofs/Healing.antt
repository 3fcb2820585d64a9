-- Every cluster heals: a fresh start, repairs and retirements lead to a world from which `settle` comes to rest, and a query is answered whole.
use Rattle.std.proofs.Common.{◌≡◌, ◌++◌, ◌*◌, ◌<◌, ◌≤◌, ℕ, Bool, false, true, List, [], Ok, ap, subst, ◌∙◌}
use Rattle.rt_macros.specs.Doing.{Reached}
use Rattle.rt_macros.specs.Querying.{Queries}
use Rattle.rt_model.specs.Checked.{IsQuery}
use Rattle.rt_model.specs.Setup.{IsSetup}
use Rattle.rt_model.specs.declared.answer.Answer.{Answer}
use Rattle.rt_model.specs.declared.query.Query.{Query}
use Rattle.rt_model.specs.declared.setup.Setup.{Setup}
use Rattle.rt_safety.specs.Runs.{Leads, Runs, Turn}
use Rattle.rt_safety.proofs.Later.{runs_are_safe}
use Rattle.rt_state.specs.Start.{start}
use Rattle.rt_state.specs.declared.state.State.{State}
use Rattle.rt_heal.specs.Answered.{IsAnsweredWhole}
use Rattle.rt_heal.specs.AtRest.{IsAtRest}
use Rattle.rt_calm.specs.Again.{IsLeading}
use Rattle.rt_calm.proofs.Keeping.{leads_then}
use Rattle.rt_recovery.specs.Fresh.{IsFresh}
use Rattle.rt_recovery.specs.GoingOn.{AllGoOn}
use Rattle.rt_recovery.specs.Healing.{first_controller, rounds_after, Heals}
use Rattle.rt_recovery.specs.Mending.{HasMended}
use Rattle.rt_recovery.specs.Often.{SettlesOften}
use Rattle.rt_recovery.specs.Restarting.{IsStartedAnew}
use Rattle.rt_recovery.specs.Retiring.{retirements_enough, HasRetired, Retires}
use Rattle.rt_recovery.proofs.Coming.{retirements_always_come}
use Rattle.rt_recovery.proofs.GoingOn.{mended_goes_on}
use Rattle.rt_recovery.proofs.Mending.{mended}
use Rattle.rt_recovery.proofs.Restarting.{started_anew}
use Rattle.rt_recovery.proofs.Retiring.{retired}
use Rattle.rt_recovery.proofs.Settled.{often_leaves, settles_often, HasSettled}
use Rattle.rt_recovery.proofs.Whole.{settled_rests, settled_whole}

module _ (setup : Setup) (turns : List Turn) (retirements lines rounds : ℕ) (w : State) (u : Reached) (settled : Bool) (is : IsSetup setup) (run : Runs setup turns w)
    (unplanned : w.store.faults.plan ≡ []) (fetches : w.deep.faults.plan ≡ []) (millis : 1 ≤ setup.table.millis) (many : retirements_enough < retirements)
    (h : Heals retirements lines rounds w u settled) where
  -- ---- a fresh start

  abbrev b : State
  b = h.anew.world

  anew : IsStartedAnew w b × ((more : List Turn) × Leads w more b)
  anew = started_anew setup turns w h.anew is run unplanned h.starts

  abbrev b_turns : List Turn
  b_turns = turns ++ anew.1.0

  b_run : Runs setup b_turns b
  b_run = leads_then (start setup) w b turns anew.1.0 run anew.1.1

  -- ---- repairs

  abbrev m : State
  m = h.mended.world

  mend : HasMended b m × ((more : List Turn) × Leads b more m)
  mend = mended setup b_turns b h.mended first_controller is b_run anew.0.unplanned h.mends

  abbrev m_turns : List Turn
  m_turns = b_turns ++ mend.1.0

  m_run : Runs setup m_turns m
  m_run = leads_then (start setup) b m b_turns mend.1.0 b_run mend.1.1

  -- ---- retirements

  abbrev r : State
  r = h.retired.world

  all_retired : h.nothing ≡ true
  all_retired = retirements_always_come setup m_turns m h.retired first_controller retirements h.nothing is m_run mend.0.unplanned many h.retires

  retire : HasRetired m r × ((more : List Turn) × Leads m more r)
  retire =
      retired setup m_turns m h.retired first_controller retirements is m_run mend.0.unplanned
      (subst (λ (b : Bool). Retires first_controller retirements m h.retired (Ok b)) all_retired h.retires)

  abbrev r_turns : List Turn
  r_turns = m_turns ++ retire.1.0

  r_run : Runs setup r_turns r
  r_run = leads_then (start setup) m r m_turns retire.1.0 m_run retire.1.1

  r_fresh : IsFresh r
  r_fresh = retire.0.fresh (mend.0.fresh anew.0.fresh)

  r_leading : IsLeading r
  r_leading = retire.0.leading (mend.0.leading anew.0.leading)

  r_fetches : r.deep.faults.plan ≡ []
  r_fetches = ap (λ d. d.faults.plan) (retire.0.deep ∙ mend.0.deep ∙ anew.0.deep) ∙ fetches

  r_goes_on : AllGoOn r
  r_goes_on = mended_goes_on r (runs_are_safe setup r_turns r is r_run) (retire.0.needs mend.0.needs) retire.0.none

  -- ---- rounds

  module _ (few : rounds_after h < lines * rounds) where
    pub heals_settled : settled ≡ true
    heals_settled =
        settles_often setup r_turns false rounds lines r u settled is r_run r_fresh retire.0.unplanned r_fetches r_leading millis few h.settles

    comes : HasSettled setup false r u.world
    comes =
        often_leaves setup r_turns false rounds lines r u is r_run r_fresh retire.0.unplanned r_fetches r_leading millis
        (subst (λ (s : Bool). SettlesOften false rounds lines r u (Ok s)) heals_settled h.settles)

    pub heals_rests : IsAtRest u.world
    heals_rests = settled_rests setup r u.world is comes

    pub heals_whole : (query : Query) (v : Reached) (answer : Answer) → IsQuery u.world.setup.schema query → Queries query u.world v (Ok answer)
        → IsAnsweredWhole u.world query answer
    heals_whole = settled_whole setup r u.world is comes r_goes_on
