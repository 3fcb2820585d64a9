-- What a plan comes to.
use Rattle.std.proofs.Common.{◌≡◌, ℕ, List, Option, Some, Result, Ok, Err, sym, ap, ◌∙◌}
use Rattle.rt_model.specs.declared.ideal_state.IdealEntry.{IdealEntry}
use Rattle.rt_model.specs.declared.ideal_state.IdealState.{IdealState}
use Rattle.rt_rebalance.specs.Planned.{Plans, planned}
use Rattle.rt_rebalance.specs.Refused.{number_of}
use Rattle.rt_rebalance.specs.Rehearsed.{entries_in}
use Rattle.rt_rebalance.specs.Target.{target_of}
use Rattle.rt_rebalance.specs.declared.rebalance_refused.RebalanceRefused.{RebalanceRefused}
use Rattle.rt_rebalance.specs.declared.rebalance_refused.RebalanceRefused.TheVariants as refused
use Rattle.rt_world.specs.Reading.{ideal_in}
use Rattle.rt_state.specs.declared.state.State.{State}
use Rattle.rt_dryrun.specs.Rehearsing.{Going, PlansBy, entries_now, goal_of, going_on, moves_of, plan_in, planned_as, started}

abbrev Answer : Type 0
Answer = Result (List IdealState) RebalanceRefused

-- what was asked for a plan is what the world has
pub record IsAsked (w : State) (servers : ℕ) (now goal : List IdealEntry) : Type 0 where
  pub here : entries_now w ≡ now
  pub there : goal_of w servers ≡ goal

pub asked : (w : State) (servers : ℕ) (current : IdealState) (goal : List IdealEntry) → ideal_in w ≡ Some current
    → goal ≡ target_of w.setup.table.replication servers current.entries → IsAsked w servers current.entries goal
asked w servers current goal is e =
    let here : entries_now w ≡ current.entries = ap entries_in is in
    record { here = here; there = ap (target_of w.setup.table.replication servers) here ∙ sym e }

the_plan : (w : State) (servers keep : ℕ) (now goal : List IdealEntry) (answer : Answer) → IsAsked w servers now goal → planned keep now goal ≡ answer
    → plan_in w servers keep ≡ answer
the_plan w servers keep now goal answer a e = ap (λ xs. planned keep xs (goal_of w servers)) a.here ∙ ap (planned keep now) a.there ∙ e

the_moves : (w : State) (servers : ℕ) (now goal : List IdealEntry) → IsAsked w servers now goal → moves_of (entries_now w) (goal_of w servers) ≡ moves_of now goal
the_moves w servers now goal a = ap (λ xs. moves_of xs (goal_of w servers)) a.here ∙ ap (moves_of now) a.there

-- there is a plan
pub plan_made : (w : State) (servers keep : ℕ) (now goal : List IdealEntry) (states : List IdealState) (old : Option Going) → IsAsked w servers now goal
    → Plans (planned keep now goal) (Ok states)
    → PlansBy w servers keep old (Some (started servers states)) (Ok (planned_as (moves_of now goal) (Ok states)))
plan_made w servers keep now goal states old a e =
    let plan : plan_in w servers keep ≡ Ok states = the_plan w servers keep now goal (Ok states) a (sym e) in (
      sym (ap (λ n. planned_as n (plan_in w servers keep)) (the_moves w servers now goal a) ∙ ap (planned_as (moves_of now goal)) plan),
      sym (ap (going_on servers old) plan),
    )

-- there is none
refused_so : (wanted : Answer) (e : RebalanceRefused) (n : ℕ) → Plans wanted (Err e) → number_of e ≡ Some n → wanted ≡ Err e
refused_so wanted (refused.Replicas p s) n h is = sym h
refused_so wanted (refused.Keep p s) n h is = sym h
refused_so wanted (refused.NotLoaded p s i) n h is = sym h
refused_so wanted refused.Ended n h is = sym h
refused_so wanted refused.Memory n h is = absurd (cc)
