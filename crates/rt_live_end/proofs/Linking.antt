-- What was accepted of a node as an envelope it sent.
use Rattle.std.proofs.Common.{◌≡◌, List, map, subst}
use Rattle.rt_link.specs.declared.envelope.Envelope.TheVariants as envelope
use Rattle.rt_lists.specs.Members.{Has}
use Rattle.rt_lists.proofs.Members.{Has-map}
use Rattle.rt_model.specs.declared.reply.Reply.{Reply}
use Rattle.rt_model.specs.declared.request.Request.{Request}

one_request : (q r : Request) → envelope.Asks q ≡ envelope.Asks r → q ≡ r
one_request q r e = cc

one_reply : (q r : Reply) → envelope.Replies q ≡ envelope.Replies r → q ≡ r
one_reply q r e = cc

pub request_sent : (qs : List Request) (q : Request) → Has (map envelope.Asks qs) (envelope.Asks q) → Has qs q
request_sent qs q has = let x = Has-map envelope.Asks qs (envelope.Asks q) has in subst (Has qs) (one_request x.0 q x.2) x.1

pub reply_sent : (rs : List Reply) (r : Reply) → Has (map envelope.Replies rs) (envelope.Replies r) → Has rs r
reply_sent rs r has = let x = Has-map envelope.Replies rs (envelope.Replies r) has in subst (Has rs) (one_reply x.0 r x.2) x.1
