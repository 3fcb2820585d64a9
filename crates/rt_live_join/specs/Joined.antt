-- What stands once the nodes of a cluster have ended and were joined: what each left, and that all together have ended.
use Rattle.std.specs.Prelude.{◌≡◌, ◌≤◌, ℕ, Bool, true, false, List, [], length, map, All, Some, slice_get}
use Rattle.rt_broker.specs.declared.piece_given.PieceGiven.{PieceGiven}
use Rattle.rt_front.specs.Histories.{Known}
use Rattle.rt_link.specs.Delivery.{TookOfSenders, of}
use Rattle.rt_link.specs.Ends.{Sending, Taking}
use Rattle.rt_lists.specs.Members.{IsFront}
use Rattle.rt_live_broker.specs.Acting.{IsEndedBroker}
use Rattle.rt_live_controller.specs.Acting.{part_of as controller_part}
use Rattle.rt_live_controller.specs.Did.{lines_of}
use Rattle.rt_live_controller.specs.Repairing.{IsMending, RepairerActs}
use Rattle.rt_live_end.specs.Ended.{Ended, IsEnded}
use Rattle.rt_live_end.specs.Meeting.{HasFirst}
use Rattle.rt_live_names.specs.Fronts.{Fronts, callers_of}
use Rattle.rt_live_names.specs.Names.{Names}
use Rattle.rt_live_output.specs.declared.journal.Heard.{Heard}
use Rattle.rt_live_output.specs.declared.journal.Queue.{Queue}
use Rattle.rt_live_server.specs.Acting.{part_of as server_part}
use Rattle.rt_live_server.specs.Seat.{SeatNow}
use Rattle.rt_model.specs.Starting.{Starting}
use Rattle.rt_model.specs.declared.answer.Answer.{Answer}
use Rattle.rt_live_join.specs.Left.{AreEach, ControllerLeft, IsControllerLeft, IsServerLeft, fronts_by}
use Rattle.rt_live_join.specs.declared.joined.Joined.{Joined}

-- ---- what a journal shows

-- of each controller the requests that it handled, where a journal is shown
abbrev pub IsHeard : Bool → List ControllerLeft → List (List Heard) → Type 0
IsHeard true controllers heard = heard ≡ map (λ (a : ControllerLeft). lines_of a.acts.did) controllers
IsHeard false controllers heard = heard ≡ []

-- the queue from a sender to a receiver: what was taken of it is a beginning of what it accepted
pub record IsQueue (senders : List (List Sending)) (receivers : List Taking) (from to : ℕ) (counts : Queue)
    : Type 0 where
  pub posts : List Sending
  pub post : Sending
  pub inbox : Taking
  pub sends : slice_get senders from ≡ Some posts
  pub sent : slice_get posts to ≡ Some post
  pub receives : slice_get receivers to ≡ Some inbox
  pub begins : IsFront (of from inbox.taken) post.accepted
  pub accepted : counts.accepted ≡ length post.accepted
  pub taken : counts.taken ≡ length (of from inbox.taken)
  pub no_more : counts.taken ≤ counts.accepted

-- of each sender a queue to each receiver, and no receiver took of anyone else
pub record AreQueues (senders : List (List Sending)) (receivers : List Taking) (counts : List (List Queue))
    : Type 0 where
  pub rows : length counts ≡ length senders
  pub each_row : All (λ row. length row ≡ length receivers) counts
  pub each :
      (from to : ℕ) (row : List Queue) (counted : Queue) → slice_get counts from ≡ Some row
      → slice_get row to ≡ Some counted → IsQueue senders receivers from to counted
  pub none_else : All (λ inbox. TookOfSenders (length senders) inbox.taken) receivers

-- ---- all of it

-- what the nodes have come to: what the one caller knows that met all of theirs, and what of it can be shown
pub record JoinedNow : Type 0 where
  pub met : Fronts
  pub heard : List (List Heard)
  pub to_controllers : List (List Queue)
  pub to_servers : List (List Queue)
  pub mids : List Answer
  pub answers : List Answer

abbrev pub joined_now : {R J : Type 0} → Joined R J → JoinedNow
joined_now joined = record {
  met = fronts_by joined.caller;
  heard = joined.heard;
  to_controllers = joined.to_controllers;
  to_servers = joined.to_servers;
  mids = joined.mids;
  answers = joined.answers;
}

pub record HasJoined (n : Names) (s : Starting) (journal : Bool) (joined : JoinedNow) : Type 0 where
  -- what each server and each controller left, by its number, with the replay of all that it did
  pub servers : List SeatNow
  pub each_server : AreEach (IsServerLeft n s) servers
  pub controllers : List ControllerLeft
  pub each_controller : AreEach (IsControllerLeft n) controllers
  -- and so the repairer
  pub repairer : RepairerActs
  pub mends : IsMending n repairer
  -- all nodes have ended, and these are among them
  pub ended : Ended
  pub is : IsEnded n ended
  pub of_servers : ended.servers ≡ map (λ (a : SeatNow). server_part a.acting) servers
  pub of_controllers : ended.controllers ≡ map (λ (a : ControllerLeft). controller_part a.acts) controllers
  pub of_repairer : ended.repairer ≡ repairer.fronts
  -- the broker's answers, as they came about by what it did
  pub asks : Fronts
  pub fed : List (Known PieceGiven)
  pub broker : IsEndedBroker n asks fed joined.mids joined.answers
  pub of_broker : ended.broker ≡ broker.part
  -- the caller knows of all of them, and has all their numbers
  pub met : ended.met ≡ joined.met
  pub numbers : HasFirst (callers_of n.setup) ended.met
  pub heard : IsHeard journal controllers joined.heard
  pub to_controllers :
      AreQueues (map (λ (a : SeatNow). a.posts) servers) (map (λ (a : ControllerLeft). a.inbox) controllers)
      joined.to_controllers
  pub to_servers :
      AreQueues (map (λ (a : ControllerLeft). a.posts) controllers) (map (λ (a : SeatNow). a.inbox) servers)
      joined.to_servers
