-- What was started anew is answered whole once it has settled, where all partitions went on.
use Rattle.std.proofs.Common.{◌≡◌, ◌*◌, ◌<◌, ◌≤◌, ℕ, Bool, false, List, [], Ok, sym, subst}
use Rattle.rt_macros.specs.Doing.{Reached}
use Rattle.rt_macros.specs.Settling.{Settles}
use Rattle.rt_model.specs.Setup.{IsSetup}
use Rattle.rt_model.specs.declared.setup.Setup.{Setup}
use Rattle.rt_safety.specs.Runs.{Runs, Turn}
use Rattle.rt_safety.proofs.Later.{runs_are_safe}
use Rattle.rt_state.specs.declared.state.State.{State}
use Rattle.rt_heal.specs.AtRest.{IsAtRest}
use Rattle.rt_heal.proofs.Dropped.{dropped_out, runs_told}
use Rattle.rt_heal.proofs.Online.{are_online}
use Rattle.rt_heal.proofs.Quiet.{round_quiet}
use Rattle.rt_heal.proofs.TurnedRuns.{runs_turned}
use Rattle.rt_heal.proofs.Undropped.{none_dropped}
use Rattle.rt_heal.proofs.Whole.{answered_whole}
use Rattle.rt_calm.specs.Again.{IsLeading}
use Rattle.rt_calm.specs.Spent.{rounds_in_all}
use Rattle.rt_calm.proofs.Leading.{leader_there}
use Rattle.rt_recovery.specs.Fresh.{IsFresh}
use Rattle.rt_recovery.specs.GoingOn.{AllGoOn}
use Rattle.rt_recovery.specs.Often.{SettlesOften}
use Rattle.rt_recovery.specs.Whole.{AnswersWhole, ComesToRest}
use Rattle.rt_recovery.proofs.Settled.{fresh_leaves, often_leaves, settles_from_fresh, settles_often, HasSettled}

-- so it is of a world of a run that is at rest, where all partitions go on
pub rest_whole : (setup : Setup) (turns : List Turn) (w : State) → IsSetup setup → Runs setup turns w → IsAtRest w → w.store.faults.plan ≡ [] → AllGoOn w
    → AnswersWhole w
rest_whole setup turns w is run rest unplanned on =
    let safe = runs_are_safe setup turns w is run in
    answered_whole w safe rest unplanned (λ p within. (on p within).0)
    (λ p within. are_online w p safe (runs_turned setup turns w is run) within (on p within).0 (on p within).1)
    (none_dropped w safe rest (dropped_out w (runs_told setup turns w is run)))

-- and of what `settle` comes to
module _ (setup : Setup) (w u : State) (is : IsSetup setup) (x : HasSettled setup false w u) where
  pub settled_rests : IsAtRest u
  settled_rests =
      subst IsAtRest (sym x.end)
      (round_quiet x.before x.last x.stands.going.safe x.stands.up x.stands.unplanned (leader_there x.before x.stands.leading x.stands.going.safe) x.quiet)

  pub settled_whole : AllGoOn w → AnswersWhole u
  settled_whole on = rest_whole setup x.run.0 u is x.run.1 settled_rests x.recovering.unplanned (x.goes_on on)

  settled_comes : ComesToRest w u
  settled_comes = record { rests = settled_rests; goes_on = x.goes_on; answers = settled_whole }

module _ (setup : Setup) (turns : List Turn) (rounds : ℕ) (w : State) (u : Reached) (settled : Bool) (is : IsSetup setup) (run : Runs setup turns w) (fresh : IsFresh w)
    (unplanned : w.store.faults.plan ≡ []) (fetches : w.deep.faults.plan ≡ []) (leading : IsLeading w) (millis : 1 ≤ setup.table.millis) where
  -- after one `settle`
  pub once_rests : rounds_in_all w.setup w.log w.store.writes < rounds → Settles false rounds w u (Ok settled) → ComesToRest w u.world
  once_rests few h =
      let quiet = settles_from_fresh setup turns false rounds w u settled is run fresh unplanned fetches leading millis few h in
      settled_comes setup w u.world is
      (fresh_leaves setup turns false rounds w u is run fresh unplanned fetches leading millis (subst (λ (b : Bool). Settles false rounds w u (Ok b)) quiet h))

  -- after several
  pub often_rests : (times : ℕ) → rounds_in_all w.setup w.log w.store.writes < times * rounds → SettlesOften false rounds times w u (Ok settled)
      → ComesToRest w u.world
  often_rests times few h =
      let quiet = settles_often setup turns false rounds times w u settled is run fresh unplanned fetches leading millis few h in
      settled_comes setup w u.world is
      (often_leaves setup turns false rounds times w u is run fresh unplanned fetches leading millis
      (subst (λ (b : Bool). SettlesOften false rounds times w u (Ok b)) quiet h))
