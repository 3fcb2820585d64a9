-- What a server did, by kind and in its order.
use Rattle.std.specs.Prelude.{List, [], ◌∷◌, ◌++◌, Ok, Err}
use Rattle.rt_broker.specs.declared.piece_given.PieceGiven.{PieceGiven}
use Rattle.rt_link.specs.declared.envelope.Envelope.{Envelope}
use Rattle.rt_link.specs.declared.envelope.Envelope.TheVariants.{Replies}
use Rattle.rt_model.specs.declared.reply.Reply.{Reply}
use Rattle.rt_model.specs.declared.request.Request.{Request}
use Rattle.rt_live_server.specs.declared.did.ServerDid.{ServerDid}
use Rattle.rt_live_server.specs.declared.did.ServerDid.TheVariants.{
  Took,
  Passed,
  Saw,
  Moved,
  Loaded,
  Measured,
  Consumed,
  Forced,
  Built,
  Asked,
  Gave,
  Crashed,
  Restarted,
}

module _ {D X : Type 0} where
  -- what each of some things gives, one after the other
  abbrev pub gathered : (D → List X) → List D → List X
  gathered f [] = []
  gathered f (d ∷ ds) = f d ++ gathered f ds

-- the envelope that was taken
abbrev pub envelopes_in : ServerDid → List Envelope
envelopes_in (Took reply) = Replies reply ∷ []
envelopes_in (Passed envelope) = envelope ∷ []
envelopes_in (Saw told result) = []
envelopes_in (Moved p q now told result) = []
envelopes_in (Loaded p q told result) = []
envelopes_in (Measured p told result) = []
envelopes_in (Consumed p q max now told result) = []
envelopes_in (Forced p q result) = []
envelopes_in (Built p q result) = []
envelopes_in (Asked p q result) = []
envelopes_in (Gave given) = []
envelopes_in Crashed = []
envelopes_in (Restarted told result) = []

-- the reply that was taken for a replica
abbrev pub replies_in : ServerDid → List Reply
replies_in (Took reply) = reply ∷ []
replies_in (Passed envelope) = []
replies_in (Saw told result) = []
replies_in (Moved p q now told result) = []
replies_in (Loaded p q told result) = []
replies_in (Measured p told result) = []
replies_in (Consumed p q max now told result) = []
replies_in (Forced p q result) = []
replies_in (Built p q result) = []
replies_in (Asked p q result) = []
replies_in (Gave given) = []
replies_in Crashed = []
replies_in (Restarted told result) = []

-- the request that was made
abbrev pub requests_in : ServerDid → List Request
requests_in (Took reply) = []
requests_in (Passed envelope) = []
requests_in (Saw told result) = []
requests_in (Moved p q now told result) = []
requests_in (Loaded p q told result) = []
requests_in (Measured p told result) = []
requests_in (Consumed p q max now told result) = []
requests_in (Forced p q result) = []
requests_in (Built p q result) = []
requests_in (Asked p q (Ok request)) = request ∷ []
requests_in (Asked p q (Err e)) = []
requests_in (Gave given) = []
requests_in Crashed = []
requests_in (Restarted told result) = []

-- what was given of a piece
abbrev pub given_in : ServerDid → List PieceGiven
given_in (Took reply) = []
given_in (Passed envelope) = []
given_in (Saw told result) = []
given_in (Moved p q now told result) = []
given_in (Loaded p q told result) = []
given_in (Measured p told result) = []
given_in (Consumed p q max now told result) = []
given_in (Forced p q result) = []
given_in (Built p q result) = []
given_in (Asked p q result) = []
given_in (Gave given) = given ∷ []
given_in Crashed = []
given_in (Restarted told result) = []

-- ---- of all that was done

abbrev pub envelopes_of : List ServerDid → List Envelope
envelopes_of did = gathered envelopes_in did

abbrev pub replies_of : List ServerDid → List Reply
replies_of did = gathered replies_in did

abbrev pub requests_of : List ServerDid → List Request
requests_of did = gathered requests_in did

abbrev pub given_of : List ServerDid → List PieceGiven
given_of did = gathered given_in did
