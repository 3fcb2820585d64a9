-- A cluster is started anew: each server and each controller crashes, where it is up, and restarts; then the first controller leads.
use Rattle.std.specs.Prelude.{◌≡◌, ℕ, true, [], Some}
use Rattle.rt_base.specs.declared.gate.NodeId.TheVariants.{Controller, Server}
use Rattle.rt_base.specs.declared.numbers.Partition.{Partition}
use Rattle.rt_events.specs.declared.event.Event.TheVariants.{CrashController, CrashServer, Lead, RestartController, RestartServer}
use Rattle.rt_macros.specs.Doing.{Act, Choose, EachFrom, Gives, Passed, Then}
use Rattle.rt_model.specs.Entries.{entries_of}
use Rattle.rt_model.specs.Metadata.{metadata_of}
use Rattle.rt_state.specs.declared.state.State.{State}
use Rattle.rt_world.specs.Reading.{leader_in, up_in}
use Rattle.rt_heal.specs.AtRest.{AreUp}
use Rattle.rt_calm.specs.Again.{IsLeading}
use Rattle.rt_recovery.specs.Fresh.{IsFresh}

-- ---- the lines

-- `crash sK`, where that server is up
abbrev pub ServerCrash : ℕ → Act (Unit {0})
ServerCrash at w = Choose (up_in w (Server (record { 0 = at }))) (Passed (CrashServer (record { 0 = at })) w) (Gives tt w)

-- and then `restart sK`
abbrev pub ServerAnew : ℕ → Unit {0} → Act (Unit {0})
ServerAnew at done w = Then (ServerCrash at) (λ down. Passed (RestartServer (record { 0 = at }))) w

abbrev pub ServersAnew : Act (Unit {0})
ServersAnew w = EachFrom ServerAnew 0 w.setup.servers tt w

-- the same with `cK`
abbrev pub ControllerCrash : ℕ → Act (Unit {0})
ControllerCrash at w =
    Choose (up_in w (Controller (record { 0 = at }))) (Passed (CrashController (record { 0 = at })) w) (Gives tt w)

abbrev pub ControllerAnew : ℕ → Unit {0} → Act (Unit {0})
ControllerAnew at done w = Then (ControllerCrash at) (λ down. Passed (RestartController (record { 0 = at }))) w

abbrev pub ControllersAnew : Act (Unit {0})
ControllersAnew w = EachFrom ControllerAnew 0 w.setup.controllers tt w

abbrev pub NodesAnew : Act (Unit {0})
NodesAnew w = Then ServersAnew (λ done. ControllersAnew) w

-- all of them, and `lead c0 on`
abbrev pub StartsAnew : Act (Unit {0})
StartsAnew w = Then NodesAnew (λ done. Passed (Lead (record { 0 = 0 }) true)) w

-- ---- what comes of them

-- the cluster is fresh, all nodes are up, and the first controller is the one that is asked, and leads. What was produced and put is as it
-- was, at the same moment, and of what was written all but the nodes of the servers' incarnations
pub record IsStartedAnew (w v : State) : Type 0 where
  pub fresh : IsFresh v
  pub up : AreUp v
  pub leading : IsLeading v
  pub leader : leader_in v ≡ Some (record { 0 = 0 })
  pub unplanned : v.store.faults.plan ≡ []
  pub setup : v.setup ≡ w.setup
  pub log : v.log ≡ w.log
  pub moment : v.moment ≡ w.moment
  pub deep : v.deep ≡ w.deep
  pub entries : entries_of v.store.writes ≡ entries_of w.store.writes
  pub metadata : (p : Partition) → metadata_of v.store.writes p ≡ metadata_of w.store.writes p
