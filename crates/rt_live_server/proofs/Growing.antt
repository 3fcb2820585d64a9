-- What a server can say by itself stays so when its fronts have seen more and it did one thing more.
use Rattle.std.proofs.Common.{◌≡◌, ◌⊎◌, inl, inr, sym, subst, List, [], ◌∷◌, append-nil, map}
use Rattle.rt_broker.specs.declared.piece_given.PieceGiven.{PieceGiven}
use Rattle.rt_broker.specs.declared.piece_got.PieceGot.{PieceGot}
use Rattle.rt_broker.specs.declared.piece_got.PieceGot.TheVariants as got
use Rattle.rt_ground.specs.StoreCalls.{seen_by}
use Rattle.rt_ground.specs.StreamCalls as stream_ground
use Rattle.rt_lists.specs.Members.{Has, IsFront}
use Rattle.rt_lists.proofs.Members.{Has-append_cases, Has-append_left, Has-append_right, Has-front, Has-map, map-Has}
use Rattle.rt_live_names.specs.Fronts.{Fronts, messages, viewed}
use Rattle.rt_live_names.specs.Names.{Names}
use Rattle.rt_live_names.specs.ServerPart.{IsGivenOver, IsGotRight}
use Rattle.rt_model.specs.Starting.{Starting}
use Rattle.rt_model.specs.declared.piece.Piece.{Piece}
use Rattle.rt_model.specs.declared.query.Query.{Query}
use Rattle.rt_model.specs.declared.reply.Reply.{Reply}
use Rattle.rt_model.specs.declared.request.Request.{Request}
use Rattle.rt_model.specs.declared.sent.Sent.{Sent}
use Rattle.rt_model.specs.declared.sent.Sent.TheVariants as sent
use Rattle.rt_past.specs.Past.{Past, with_request}
use Rattle.rt_past.specs.View.{Within}
use Rattle.rt_server.proofs.OwnGrows.{given_grows}
use Rattle.rt_store.specs.Contents.{starting_of}
use Rattle.rt_stream.specs.Feed.{Grows}
use Rattle.rt_stream.proofs.Growth.{log_same}
use Rattle.rt_live_server.specs.Steps.{sights}
use Rattle.rt_live_server.proofs.Stepping.{SightsMore}

-- ---- messages

has_mapped : {X Y : Type 0} (f : X → Y) (xs ys : List X) (y : Y) → IsFront xs ys → Has (map f xs) y → Has (map f ys) y
has_mapped {Y = Y} f xs ys y front h =
    let x = Has-map f xs y h in
    subst (λ (z : Y). Has (map f ys) z) x.2 (map-Has f ys x.0 (Has-front xs ys x.0 front x.1))

pub messages_more : (requests later : List Request) (replies more : List Reply) → IsFront requests later → IsFront replies more → (m : Sent)
    → Has (messages requests replies) m → Has (messages later more) m
messages_more requests later replies more asked took m h = by_cases (Has-append_cases (map sent.Request requests) (map sent.Reply replies) m h)
  where
    by_cases : Has (map sent.Request requests) m ⊎ Has (map sent.Reply replies) m → Has (messages later more) m
    by_cases (inl a) = Has-append_left (map sent.Request later) (map sent.Reply more) m (has_mapped sent.Request requests later m asked a)
    by_cases (inr b) = Has-append_right (map sent.Request later) (map sent.Reply more) m (has_mapped sent.Reply replies more m took b)

pub reply_sent : (requests : List Request) (replies : List Reply) (reply : Reply) → Has replies reply → Has (messages requests replies) (sent.Reply reply)
reply_sent requests replies reply h = Has-append_right (map sent.Request requests) (map sent.Reply replies) (sent.Reply reply) (map-Has sent.Reply replies reply h)

pub request_sent : (requests : List Request) (replies : List Reply) (request : Request) → Has requests request → Has (messages requests replies) (sent.Request request)
request_sent requests replies request h = Has-append_left (map sent.Request requests) (map sent.Reply replies) (sent.Request request) (map-Has sent.Request requests request h)

-- a view that has a request already lies within itself with the request once more the other way round
pub asked_within : (view : Past) (request : Request) → Has view.sent (sent.Request request) → Within (with_request view request) view
asked_within view request has = record {
  log = log_same view.log;
  history = ([], sym (append-nil view.history));
  files = ([], sym (append-nil view.files));
  sent = λ m h. by_cases m (Has-append_cases view.sent (sent.Request request ∷ []) m h);
}
  where
    by_cases : (m : Sent) → Has view.sent m ⊎ Has (sent.Request request ∷ []) m → Has view.sent m
    by_cases m (inl h) = h
    by_cases m (inr (inl e)) = subst (λ (z : Sent). Has view.sent z) e has
    by_cases m (inr (inr h)) = absurd h

-- ---- the view

pub view_within : (n : Names) (s : Starting) (old new : Fronts) (requests later : List Request) (replies more : List Reply) → starting_of n.setup ≡ s
    → SightsMore (sights s old) (sights s new) → IsFront requests later → IsFront replies more
    → Within (viewed n.setup old requests replies) (viewed n.setup new later more)
view_within n s old new requests later replies more is sees asked took = record {
  log = subst (λ (x : Starting). Grows (stream_ground.seen_by x.partitions old.stream) (stream_ground.seen_by x.partitions new.stream)) (sym is) sees.stream.seen;
  history = subst (λ (x : Starting). IsFront (seen_by x old.store) (seen_by x new.store)) (sym is) sees.store.seen;
  files = sees.deep.seen;
  sent = messages_more requests later replies more asked took;
}

-- ---- what was given

got_within : (n : Names) (a b : Past) (within : Within a b) (query : Query) (piece : Piece) (g : PieceGot) → IsGotRight n a query piece g → IsGotRight n b query piece g
got_within n a b within query piece (got.Served served) k = given_grows n.setup a b within query piece served k
got_within n a b within query piece got.NotServed k = tt
got_within n a b within query piece got.Down k = tt

pub given_within : (n : Names) (a b : Past) (within : Within a b) (g : PieceGiven) → IsGivenOver n a g → IsGivenOver n b g
given_within n a b within g k = record { query = k.query; asked = k.asked; right = got_within n a b within k.query g.piece g.got k.right }
