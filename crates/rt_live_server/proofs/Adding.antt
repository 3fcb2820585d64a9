-- What one thing more that a server does adds to its lists.
use Rattle.std.proofs.Common.{◌≡◌, ◌∙◌, List, [], ◌∷◌, ◌++◌, append-nil, ap, refl, sym}
use Rattle.rt_broker.specs.declared.piece_given.PieceGiven.{PieceGiven}
use Rattle.rt_link.specs.declared.envelope.Envelope.{Envelope}
use Rattle.rt_model.specs.declared.request.Request.{Request}
use Rattle.rt_live_server.specs.Acting.{ActingNow, Adds, Looks, Quietly}
use Rattle.rt_live_server.specs.Did.{envelopes_in, envelopes_of, given_in, given_of, requests_in, requests_of}
use Rattle.rt_live_server.specs.declared.did.ServerDid.{ServerDid}
use Rattle.rt_live_server.proofs.Gathering.{gathered_then}

-- one thing more
pub adds : (old new : ActingNow) (d : ServerDid) → new.number ≡ old.number → new.did ≡ old.did ++ d ∷ [] → Adds old new (envelopes_in d) (requests_in d) (given_in d)
adds old new d number did = record {
  number = number;
  envelopes = gathered_then envelopes_in old.did new.did d did;
  requests = gathered_then requests_in old.did new.did d did;
  given = gathered_then given_in old.did new.did d did;
}

nothing_added : {X : Type 0} (mid old more : List X) → mid ≡ old ++ [] → mid ++ more ≡ old ++ more
nothing_added {X} mid old more e = ap (λ (xs : List X). xs ++ more) (e ∙ append-nil old)

-- after what added nothing
pub adds_then : (old mid new : ActingNow) (taken : List Envelope) (made : List Request) (told : List PieceGiven) → Quietly old mid → Adds mid new taken made told → Adds old new taken made told
adds_then old mid new taken made told quiet more = record {
  number = more.number ∙ quiet.number;
  envelopes = more.envelopes ∙ nothing_added (envelopes_of mid.did) (envelopes_of old.did) taken quiet.envelopes;
  requests = more.requests ∙ nothing_added (requests_of mid.did) (requests_of old.did) made quiet.requests;
  given = more.given ∙ nothing_added (given_of mid.did) (given_of old.did) told quiet.given;
}

-- nothing at all
pub looks_same : (a : ActingNow) → Looks a a
looks_same a = record {
  adds = record {
    number = refl;
    envelopes = sym (append-nil (envelopes_of a.did));
    requests = sym (append-nil (requests_of a.did));
    given = sym (append-nil (given_of a.did));
  };
  server = refl;
  up = refl;
}
