-- What is planned from a safe world is a plan.
use Rattle.std.proofs.Common.{◌≡◌, ℕ, ◌≤◌, true, List, Some, Ok, nat_le, refl, sym, ap, subst, ◌∙◌}
use Rattle.std.proofs.lemmas.Bool.{and_parts, leb-true}
use Rattle.rt_base.specs.declared.limits.TheConstants.{MOST_SERVERS}
use Rattle.rt_model.specs.Entries.{IsIdealWrite, entries_by}
use Rattle.rt_model.specs.Order.{IsAscending}
use Rattle.rt_model.specs.declared.ideal_state.IdealState.{IdealState}
use Rattle.rt_model.specs.declared.node.Key.TheVariants as key
use Rattle.rt_model.proofs.Histories.{value_of-last}
use Rattle.rt_model.proofs.IdealStates.{all_ascend}
use Rattle.rt_model.proofs.Kept.{present_is}
use Rattle.rt_model.proofs.Lawful.{has_ideal_state}
use Rattle.rt_store.specs.Contents.{starting_of}
use Rattle.rt_store.proofs.Assigned.{setup_assigned}
use Rattle.rt_rebalance.specs.Available.{AreStatesOnce}
use Rattle.rt_rebalance.specs.Plan.{IsRebalancePlan}
use Rattle.rt_rebalance.specs.Rehearsed.{Call, IsAvailable, after, entries_in, start_of}
use Rattle.rt_rebalance.specs.Target.{IsTarget}
use Rattle.rt_rebalance.proofs.Once.{plan_once}
use Rattle.rt_rebalance.proofs.Placing.{is_target}
use Rattle.rt_rebalance.proofs.Plans.{plans_are}
use Rattle.rt_rebalance.proofs.Rehearsals.{enough_available}
use Rattle.rt_state.specs.IsSafeWorld.{IsSafeWorld}
use Rattle.rt_world.specs.Reading.{ideal_by, ideal_in, ideal_seen}
use Rattle.rt_state.specs.declared.state.State.{State}
use Rattle.rt_dryrun.specs.Rehearsing.{entries_now, goal_of, is_fit, plan_in}

-- the entries of a world's ideal state ascend
pub now_ascends : (w : State) → IsSafeWorld w → IsAscending (entries_now w)
now_ascends w s =
    let k = has_ideal_state (starting_of w.setup) w.store.writes s.safe.past.lawful in
    let here : ideal_in w ≡ Some k.1 = ap ideal_seen k.2 ∙ ap ideal_by k.3 in
    let write : IsIdealWrite w.store.writes k.0 = present_is w.store.writes k.0 (value_of-last w.store.writes key.Ideal k.0 k.2).0 in
    let ascends : IsAscending (entries_by k.0.node) =
    all_ascend (starting_of w.setup) w.store.writes (setup_assigned w.setup s.safe.setup) s.safe.past.lawful k.0 write in
    subst IsAscending (ap entries_by k.3 ∙ sym (ap entries_in here)) ascends

fit_enough : (w : State) (servers : ℕ) → is_fit w servers ≡ true → w.setup.table.replication ≤ servers
fit_enough w servers e =
    leb-true w.setup.table.replication servers (and_parts (nat_le w.setup.table.replication servers) (nat_le servers MOST_SERVERS) e).0

pub safe_plan : (w : State) (servers keep : ℕ) (states : List IdealState) → IsSafeWorld w → is_fit w servers ≡ true → plan_in w servers keep ≡ Ok states
    → IsRebalancePlan keep (entries_now w) (goal_of w servers) states
safe_plan w servers keep states s fit planned =
    let target : IsTarget (entries_now w) (goal_of w servers) =
    is_target w.setup.table.replication servers s.safe.setup.some_replicas (fit_enough w servers fit) (entries_now w) (goal_of w servers) refl (now_ascends w s) in
    plans_are keep (entries_now w) (goal_of w servers) (Ok states) (sym planned) target

pub safe_once : (w : State) (servers keep : ℕ) (states : List IdealState) → IsSafeWorld w → is_fit w servers ≡ true → plan_in w servers keep ≡ Ok states
    → AreStatesOnce states
safe_once w servers keep states s fit planned =
    plan_once keep (entries_now w) (goal_of w servers) states (now_ascends w s) (safe_plan w servers keep states s fit planned)

pub safe_rehearsal : (w : State) (servers keep : ℕ) (states : List IdealState) (calls : List Call) → IsSafeWorld w → is_fit w servers ≡ true
    → plan_in w servers keep ≡ Ok states → IsAvailable keep (entries_now w) (goal_of w servers) (after calls (start_of states))
safe_rehearsal w servers keep states calls s fit planned =
    enough_available keep (entries_now w) (goal_of w servers) states calls (safe_plan w servers keep states s fit planned)
