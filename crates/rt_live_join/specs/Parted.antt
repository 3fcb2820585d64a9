-- What nodes that post had, taken apart: their callers, their links, and what only nodes of their kind have.
use Rattle.std.specs.Prelude.{◌≡◌, ℕ, List, [], ◌∷◌, ◌++◌, length, map, Option}
use Rattle.rt_broker.specs.declared.piece_given.PieceGiven.{PieceGiven}
use Rattle.rt_front.specs.Histories.{History}
use Rattle.rt_ground.specs.declared.caller.Caller.{Caller}
use Rattle.rt_link.specs.Ends.{Sending, Taking}
use Rattle.rt_live_controller.specs.ControllerSeat.{acts_in}
use Rattle.rt_live_controller.specs.declared.controller_ended.ControllerEnded.{ControllerEnded}
use Rattle.rt_live_links.specs.Rows.{inboxes_of, posts_of}
use Rattle.rt_live_links.specs.declared.node_links.NodeLinks.{NodeLinks}
use Rattle.rt_live_names.specs.Fronts.{Fronts}
use Rattle.rt_live_names.specs.Names.{Names}
use Rattle.rt_live_output.specs.declared.journal.Heard.{Heard}
use Rattle.rt_live_server.specs.Seat.{SeatNow, acting_now, seat_now}
use Rattle.rt_live_server.specs.declared.ended.ServerEnded.{ServerEnded}
use Rattle.rt_model.specs.Starting.{Starting}
use Rattle.rt_live_join.specs.Left.{AreEach, ControllerLeft, IsControllerLeft, IsServerLeft, fronts_by}
use Rattle.rt_live_join.specs.declared.parts.Parts.{Parts}

-- ---- one node

abbrev pub server_left : {R J : Type 0} → ServerEnded R J → SeatNow
server_left a =
    seat_now (acting_now a.number a.server a.up (fronts_by a.caller) a.diary) a.inbox a.posts.items a.pieces

abbrev pub links_of_server : {R J : Type 0} → ServerEnded R J → NodeLinks
links_of_server a = record { inbox = a.inbox; posts = a.posts }

abbrev pub controller_left : {R J : Type 0} → ControllerEnded R J → ControllerLeft
controller_left a = record {
  acts = acts_in a.number a.controller (fronts_by a.caller) a.diary;
  inbox = a.inbox;
  posts = a.posts.items;
  heard = a.heard;
}

abbrev pub links_of_controller : {R J : Type 0} → ControllerEnded R J → NodeLinks
links_of_controller a = record { inbox = a.inbox; posts = a.posts }

-- what is taken of a node
pub record Had (X : Type 0) : Type 0 where
  pub fronts : Fronts
  pub inbox : Taking
  pub posts : List Sending
  pub own : X

abbrev pub server_had : SeatNow → Had (History PieceGiven)
server_had a = record { fronts = a.acting.fronts; inbox = a.inbox; posts = a.posts; own = a.pieces }

abbrev pub controller_had : ControllerLeft → Had (Option (List Heard))
controller_had a = record { fronts = a.acts.fronts; inbox = a.inbox; posts = a.posts; own = a.heard }

-- ---- the nodes of one kind, in their order

-- these are their links
pub record AreLinksOf {X N : Type 0} (had : N → Had X) (nodes : List N) (links : List NodeLinks) : Type 0 where
  pub inboxes : inboxes_of links ≡ map (λ a. (had a).inbox) nodes
  pub posts : posts_of links ≡ map (λ a. (had a).posts) nodes

-- and these are all that was taken of them
pub record ArePartsOf {R J X N : Type 0} (had : N → Had X) (nodes : List N) (parts : Parts R J X) : Type 0 where
  pub callers : map fronts_by parts.callers.items ≡ map (λ a. (had a).fronts) nodes
  pub links : AreLinksOf had nodes parts.links.items
  pub own : parts.own.items ≡ map (λ a. (had a).own) nodes

-- they were taken of so many nodes, of which each is as its number asks
pub record AreLeft {R J X N : Type 0} (Is : ℕ → N → Type 0) (had : N → Had X) (count : ℕ) (parts : Parts R J X)
    : Type 0 where
  pub nodes : List N
  pub many : length nodes ≡ count
  pub each : AreEach Is nodes
  pub are : ArePartsOf had nodes parts

abbrev pub AreServersLeft : {R J : Type 0} → Names → Starting → Parts R J (History PieceGiven) → Type 0
AreServersLeft n s parts = AreLeft (IsServerLeft n s) server_had n.setup.servers parts

abbrev pub AreControllersLeft : {R J : Type 0} → Names → Parts R J (Option (List Heard)) → Type 0
AreControllersLeft n parts = AreLeft (IsControllerLeft n) controller_had n.setup.controllers parts

-- ---- one more

pub record HasNone {R J X : Type 0} (parts : Parts R J X) : Type 0 where
  pub callers : parts.callers.items ≡ []
  pub links : parts.links.items ≡ []
  pub own : parts.own.items ≡ []

pub record AddsNode {R J X : Type 0} (old new : Parts R J X) (caller : Caller R J) (link : NodeLinks) (one : X)
    : Type 0 where
  pub callers : new.callers.items ≡ old.callers.items ++ caller ∷ []
  pub links : new.links.items ≡ old.links.items ++ link ∷ []
  pub own : new.own.items ≡ old.own.items ++ one ∷ []
