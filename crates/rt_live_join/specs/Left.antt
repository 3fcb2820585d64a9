-- What each node of a cluster has left, once it has ended.
use Rattle.std.specs.Prelude.{◌≡◌, ℕ, Bool, true, false, List, [], length, map, Option, Some, slice_get}
use Rattle.rt_ground.specs.declared.caller.Caller.{Caller}
use Rattle.rt_link.specs.Ends.{Sending, Taking}
use Rattle.rt_live_controller.specs.Acting.{ControllerActs}
use Rattle.rt_live_controller.specs.ControllerSeat.{IsControllerEnded}
use Rattle.rt_live_names.specs.Fronts.{Fronts, fronts}
use Rattle.rt_live_names.specs.Names.{Names}
use Rattle.rt_live_output.specs.declared.journal.Heard.{Heard}
use Rattle.rt_live_server.specs.Seat.{HasEnded, SeatNow}
use Rattle.rt_model.specs.Starting.{Starting}

-- each item is as its place asks
abbrev pub AreEach : {X : Type 0} → (ℕ → X → Type 0) → List X → Type 0
AreEach {X = X} Is items = (k : ℕ) (x : X) → slice_get items k ≡ Some x → Is k x

abbrev pub fronts_by : {R J : Type 0} → Caller R J → Fronts
fronts_by caller = fronts caller.store caller.deep caller.stream

-- the server of this number: all that it had can still be said of it, and it has a post to each controller
pub record IsServerLeft (n : Names) (s : Starting) (k : ℕ) (a : SeatNow) : Type 0 where
  pub number : a.acting.number ≡ k
  pub ended : HasEnded n s a
  pub posts : length a.posts ≡ n.setup.controllers

pub record ControllerLeft : Type 0 where
  pub acts : ControllerActs
  pub inbox : Taking
  pub posts : List Sending
  -- what its journal shows, where it kept one
  pub heard : Option (List Heard)

-- the controller of this number: all that it had can still be said of it, and it has a post to each server
pub record IsControllerLeft (n : Names) (k : ℕ) (a : ControllerLeft) : Type 0 where
  pub number : a.acts.number ≡ k
  pub ended : IsControllerEnded n a.acts a.inbox a.posts a.heard
  pub posts : length a.posts ≡ n.setup.servers

-- what the journals of all controllers show, where they are shown
abbrev pub IsShown : Bool → List (Option (List Heard)) → List (List Heard) → Type 0
IsShown true heard all = map Some all ≡ heard
IsShown false heard all = all ≡ []
