-- A server that acts in a running cluster: what it is, what its caller's fronts have seen, and all that it did.
use Rattle.std.specs.Prelude.{◌≡◌, ℕ, Bool, false, List, [], ◌∷◌, ◌++◌, ◌<◌, ◌≤◌, length, Some, Result, Ok, Err}
use Rattle.std.specs.declared.alloc.AllocError.{AllocError}
use Rattle.rt_base.specs.declared.numbers.Offset.{Offset}
use Rattle.rt_base.specs.declared.numbers.Partition.{Partition}
use Rattle.rt_base.specs.declared.numbers.Sequence.{Sequence}
use Rattle.rt_consumer.specs.Consumer.{cur}
use Rattle.rt_consumer.specs.declared.consumer.Consumer.{Consumer}
use Rattle.rt_broker.specs.declared.piece_given.PieceGiven.{PieceGiven}
use Rattle.rt_entry.specs.declared.refused.ServerRefused.{ServerRefused}
use Rattle.rt_link.specs.declared.envelope.Envelope.{Envelope}
use Rattle.rt_live_names.specs.Fronts.{Fronts}
use Rattle.rt_live_names.specs.Names.{Names}
use Rattle.rt_live_names.specs.Replays.{Replays}
use Rattle.rt_live_names.specs.ServerPart.{IsServerPart, ServerPart}
use Rattle.rt_model.specs.Starting.{Starting}
use Rattle.rt_model.specs.declared.piece.Piece.{Piece}
use Rattle.rt_model.specs.declared.request.Request.{Request}
use Rattle.rt_server.specs.Lasting.{IsEmpty}
use Rattle.rt_server.specs.Table.{ServerState, replica_of}
use Rattle.rt_store.specs.Contents.{starting_of}
use Rattle.rt_stream.specs.Log.{Log, end_of, messages_of}
use Rattle.rt_live_server.specs.Did.{envelopes_of, given_of, replies_of, requests_of}
use Rattle.rt_live_server.specs.Steps.{ServerNow, ServerStep, first_now, seen_so_far, sights}
use Rattle.rt_live_server.specs.declared.did.ServerDid.{ServerDid}

pub record ActingNow : Type 0 where
  -- its number among the servers
  pub number : ℕ
  pub server : ServerState
  pub up : Bool
  pub fronts : Fronts
  pub did : List ServerDid

-- what it can say by itself
abbrev pub part_of : ActingNow → ServerPart
part_of a = record {
  number = a.number;
  fronts = a.fronts;
  server = a.server;
  requests = requests_of a.did;
  replies = replies_of a.did;
  given = given_of a.did;
}

-- what its diary replays to: all that its fronts show, and all own writes, are those of the diary
abbrev pub now_of : Starting → ActingNow → ServerNow
now_of s a = record { server = a.server; up = a.up; seen = seen_so_far s a.fronts }

pub record IsActing (n : Names) (s : Starting) (a : ActingNow) : Type 0 where
  pub starting : starting_of n.setup ≡ s
  pub part : IsServerPart n (part_of a)
  pub replays : Replays (ServerStep n s (sights s a.fronts)) (first_now n.setup a.number) a.did (now_of s a)
  -- one that is down has nothing
  pub down : a.up ≡ false → IsEmpty a.server

-- ---- what one thing more that it does adds to its lists

-- these envelopes are taken, these requests made and these pieces given
pub record Adds (old new : ActingNow) (taken : List Envelope) (made : List Request) (told : List PieceGiven)
    : Type 0 where
  pub number : new.number ≡ old.number
  pub envelopes : envelopes_of new.did ≡ envelopes_of old.did ++ taken
  pub requests : requests_of new.did ≡ requests_of old.did ++ made
  pub given : given_of new.did ≡ given_of old.did ++ told

-- nothing is taken, made or given
abbrev pub Quietly : ActingNow → ActingNow → Type 0
Quietly old new = Adds old new [] [] []

-- a request that is made
abbrev pub AddsRequest : ActingNow → ActingNow → Result Request ServerRefused → Type 0
AddsRequest old new (Ok request) = Adds old new [] (request ∷ []) []
AddsRequest old new (Err e) = Quietly old new

-- what was given of a piece in an asking of a query, unless memory ran out
abbrev pub AddsGiven : ActingNow → ActingNow → ℕ → ℕ → Piece → Result PieceGiven AllocError → Type 0
AddsGiven old new query asking piece (Ok given) =
    Adds old new [] [] (given ∷ []) × (given.query ≡ query) × (given.asking ≡ asking) × (given.piece ≡ piece)
AddsGiven old new query asking piece (Err e) = Quietly old new

-- it looked at the stream at most, and stays what it was
pub record Looks (old new : ActingNow) : Type 0 where
  pub adds : Quietly old new
  pub server : new.server ≡ old.server
  pub up : new.up ≡ old.up

-- the segment's replica, where there is one, took no message from an offset on
abbrev pub HasTakenTo : ServerState → Partition → Sequence → Offset → Type 0
HasTakenTo server p q size = (r : Consumer) → replica_of server.table p q ≡ Some r → (cur r).0 ≤ size.0

-- a partition's length, where the log has it
abbrev pub IsLengthOf : Log → Partition → Offset → Type 0
IsLengthOf log p size = (p.0 < length log) × (size ≡ end_of (messages_of log p))
