-- Crashes and restarts.
use Rattle.std.specs.Prelude.{not, None}
use Rattle.rt_base.specs.declared.numbers.ControllerId.{ControllerId}
use Rattle.rt_base.specs.declared.numbers.Instance.{Instance}
use Rattle.rt_state.specs.Applying.{Next}
use Rattle.rt_state.specs.Finding.{has_server, has_controller, is_server_up, is_controller_up, controller_tests}
use Rattle.rt_state.specs.Nodes.{ServerDoes, ServerCalls, ControllerDoes}
use Rattle.rt_state.specs.Room.{Due, no_cost, priced}
use Rattle.rt_state.specs.Tests.{Tests, met}
use Rattle.rt_state.specs.Tests as test
use Rattle.rt_state.specs.declared.cost.Cost.{Cost}
use Rattle.rt_state.specs.declared.state.State.{State}
use Rattle.rt_events.specs.declared.outcome.Outcome.TheVariants as told
pub use Rattle.rt_nodes.specs.Lives.{node_crashed, NodeCrashes, controller_crashed, up_in_incarnation, is_answered, NodeRestarts, controller_restarted}

-- ---- crash

abbrev pub crash_server_tests : State → Instance → Tests
crash_server_tests w i = test.there (has_server w i) (test.up (is_server_up w i) test.none)

abbrev pub crash_server_due : State → Instance → Due
crash_server_due w i = met (crash_server_tests w i) (priced w no_cost)

abbrev pub ServerCrashes : State → Instance → Cost → Next → Type 0
ServerCrashes w i cost x = ServerDoes w i NodeCrashes cost x

abbrev pub crash_controller_tests : State → ControllerId → Tests
crash_controller_tests w c = test.behind (controller_tests w c) test.none

abbrev pub crash_controller_due : State → ControllerId → Due
crash_controller_due w c = met (crash_controller_tests w c) (priced w no_cost)

abbrev pub ControllerCrashes : State → ControllerId → Cost → Next → Type 0
ControllerCrashes w c cost x = ControllerDoes w c controller_crashed told.Down cost x

-- ---- restart

abbrev pub restart_server_tests : State → Instance → Tests
restart_server_tests w i = test.there (has_server w i) (test.due (not (is_server_up w i)) test.none)

abbrev pub restart_server_due : State → Instance → Due
restart_server_due w i = met (restart_server_tests w i) (priced w no_cost)

abbrev pub ServerRestarts : State → Instance → Cost → Next → Type 0
ServerRestarts w i cost x = ServerCalls w i NodeRestarts cost x

abbrev pub restart_controller_tests : State → ControllerId → Tests
restart_controller_tests w c = test.there (has_controller w c) (test.due (not (is_controller_up w c)) test.none)

abbrev pub restart_controller_due : State → ControllerId → Due
restart_controller_due w c = met (restart_controller_tests w c) (priced w no_cost)

abbrev pub ControllerRestarts : State → ControllerId → Cost → Next → Type 0
ControllerRestarts w c cost x = ControllerDoes w c controller_restarted (told.Up None) cost x
