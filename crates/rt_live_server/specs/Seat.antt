-- A server's seat: the server that acts, its inbox, its posts, and the history of what it gave the broker.
use Rattle.std.specs.Prelude.{◌≡◌, ℕ, Bool, List, [], map, Option}
use Rattle.rt_broker.specs.declared.piece_given.PieceGiven.{PieceGiven}
use Rattle.rt_front.specs.Histories.{History}
use Rattle.rt_ground.specs.Histories.{whats}
use Rattle.rt_link.specs.Ends.{Sending, Taking}
use Rattle.rt_link.specs.declared.envelope.Envelope.TheVariants.{Asks}
use Rattle.rt_live_names.specs.Fronts.{Fronts, controller_line, server_line}
use Rattle.rt_live_names.specs.Names.{Names}
use Rattle.rt_live_names.specs.Sending.{ArePosts, PostsNow}
use Rattle.rt_model.specs.Starting.{Starting}
use Rattle.rt_server.specs.Table.{ServerState}
use Rattle.rt_live_server.specs.Acting.{ActingNow, IsActing}
use Rattle.rt_live_server.specs.Did.{envelopes_of, given_of, requests_of}
use Rattle.rt_live_server.specs.declared.did.ServerDid.{ServerDid}

pub record SeatNow : Type 0 where
  pub acting : ActingNow
  pub inbox : Taking
  pub posts : List Sending
  pub pieces : History PieceGiven

pub record IsSeat (n : Names) (a : SeatNow) : Type 0 where
  pub line : a.inbox.line ≡ n.lines (server_line a.acting.number)
  pub made : a.inbox.made ≡ n.setup.controllers
  pub gathered : a.inbox.gathered ≡ []
  -- what the inbox took, in order, is what the diary has
  pub took : map (λ x. x.envelope) a.inbox.taken ≡ envelopes_of a.acting.did
  -- what the posts accepted is among the requests that it made
  pub posted : ArePosts n a.acting.number (controller_line n.setup) (map Asks (requests_of a.acting.did)) a.posts
  pub asked : a.pieces.chronicle ≡ n.asked a.acting.number
  -- what the broker is told that it gave is what it gave, in order
  pub gave : whats a.pieces.log ≡ given_of a.acting.did

-- a seat that takes its turns: with which of its messages are lost or come twice, the controller that it asks, and the turn in
-- which it crashes
pub record Seated : Type 0 where
  pub acting : ActingNow
  pub inbox : Taking
  pub posts : PostsNow
  pub pieces : History PieceGiven
  pub controller : ℕ
  pub crash : Option ℕ

-- ---- a seat whose server has ended

abbrev pub acting_now : ℕ → ServerState → Bool → Fronts → List ServerDid → ActingNow
acting_now number server up f did = record { number = number; server = server; up = up; fronts = f; did = did }

abbrev pub seat_now : ActingNow → Taking → List Sending → History PieceGiven → SeatNow
seat_now acting inbox posts pieces = record { acting = acting; inbox = inbox; posts = posts; pieces = pieces }

-- all that it had can still be said of it
pub record HasEnded (n : Names) (s : Starting) (a : SeatNow) : Type 0 where
  pub acting : IsActing n s a.acting
  pub seat : IsSeat n a
