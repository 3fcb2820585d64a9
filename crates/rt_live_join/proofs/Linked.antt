-- What a server took a controller answered, and what a controller took a server asked.
use Rattle.std.proofs.Common.{◌≡◌, ◌⊎◌, inl, inr, ℕ, List, [], ◌∷◌, ◌++◌, map, Some, sym, ap, ◌∙◌}
use Rattle.std.proofs.Common.{subst, slice_get}
use Rattle.rt_link.specs.Ends.{Sending, Taking}
use Rattle.rt_link.specs.declared.envelope.Envelope.{Envelope}
use Rattle.rt_link.specs.declared.envelope.Envelope.TheVariants.{Asks, Replies}
use Rattle.rt_link.specs.declared.rule.Sent.{Sent}
use Rattle.rt_lists.specs.Members.{Has}
use Rattle.rt_lists.proofs.Members.{Has-append_cases, Has-append_left, Has-append_right, map-Has, place-Has}
use Rattle.rt_live_controller.specs.Acting.{part_of as controller_part}
use Rattle.rt_live_end.specs.Ended.{AreLinked, Ended}
use Rattle.rt_live_end.proofs.Linking.{reply_sent, request_sent}
use Rattle.rt_live_links.specs.Gathered.{AreGathered, WasAccepted, envelopes}
use Rattle.rt_live_links.specs.declared.node_links.NodeLinks.{NodeLinks}
use Rattle.rt_live_names.specs.ControllerPart.{ControllerPart}
use Rattle.rt_live_names.specs.Names.{Names}
use Rattle.rt_live_names.specs.ServerPart.{ServerPart}
use Rattle.rt_live_server.specs.Acting.{part_of as server_part}
use Rattle.rt_live_server.specs.Did.{envelopes_in, envelopes_of, replies_in, replies_of}
use Rattle.rt_live_server.specs.Seat.{SeatNow}
use Rattle.rt_live_server.specs.declared.did.ServerDid.{ServerDid}
use Rattle.rt_live_server.specs.declared.did.ServerDid.TheVariants.{Took, Passed, Saw, Moved, Loaded, Measured, Consumed, Forced}
use Rattle.rt_live_server.specs.declared.did.ServerDid.TheVariants.{Built, Asked, Gave, Crashed, Restarted}
use Rattle.rt_model.specs.Starting.{Starting}
use Rattle.rt_model.specs.declared.reply.Reply.{Reply}
use Rattle.rt_model.specs.declared.request.Request.{Request}
use Rattle.rt_live_join.specs.Left.{AreEach, ControllerLeft, IsControllerLeft, IsServerLeft}
use Rattle.rt_live_join.specs.Parted.{AreLinksOf, Had, controller_had, server_had}
use Rattle.rt_live_join.proofs.Parting.{links_at, poster_at}
use Rattle.rt_live_join.proofs.Places.{placed}
use Rattle.rt_live_join.proofs.Taken.{gathered_at}

-- ---- a reply that a server took came in an envelope

reply_in : (d : ServerDid) (r : Reply) → Has (replies_in d) r → Has (envelopes_in d) (Replies r)
reply_in (Took reply) r (inl e) = inl (ap Replies e)
reply_in (Took reply) r (inr h) = absurd h
reply_in (Passed envelope) r h = absurd h
reply_in (Saw told result) r h = absurd h
reply_in (Moved p q now told result) r h = absurd h
reply_in (Loaded p q told result) r h = absurd h
reply_in (Measured p told result) r h = absurd h
reply_in (Consumed p q max now told result) r h = absurd h
reply_in (Forced p q result) r h = absurd h
reply_in (Built p q result) r h = absurd h
reply_in (Asked p q result) r h = absurd h
reply_in (Gave given) r h = absurd h
reply_in Crashed r h = absurd h
reply_in (Restarted told result) r h = absurd h

reply_of : (did : List ServerDid) (r : Reply) → Has (replies_of did) r → Has (envelopes_of did) (Replies r)
reply_of [] r h = absurd h
reply_of (d ∷ did) r h = either (Has-append_cases (replies_in d) (replies_of did) r h) (reply_of did r)
  where
    either : Has (replies_in d) r ⊎ Has (replies_of did) r
        → (Has (replies_of did) r → Has (envelopes_of did) (Replies r))
        → Has (envelopes_in d ++ envelopes_of did) (Replies r)
    either (inl a) further = Has-append_left (envelopes_in d) (envelopes_of did) (Replies r) (reply_in d r a)
    either (inr a) further = Has-append_right (envelopes_in d) (envelopes_of did) (Replies r) (further a)

-- ---- an envelope that was taken was accepted: of whose node, and by which post

taken_by : (senders receivers : List NodeLinks) (inboxes : List Taking) → AreGathered senders receivers inboxes
    → (k : ℕ) (receiver : NodeLinks) → slice_get receivers k ≡ Some receiver → (e : Envelope) (inbox : Taking)
    → inbox ≡ receiver.inbox → Has (envelopes inbox.taken) e → WasAccepted senders k e
taken_by senders receivers inboxes gathered k receiver at e inbox same has =
    let got = gathered_at senders receivers inboxes gathered k receiver at in
    let taken : inbox.taken ≡ got.inbox.taken = ap (λ (i : Taking). i.taken) same ∙ sym got.same in
    got.is.accepted e (subst (λ (t : List Sent). Has (envelopes t) e) taken has)

record AcceptedOf {X N : Type 0} (had : N → Had X) (nodes : List N) (k : ℕ) (e : Envelope) : Type 0 where
  pub number : ℕ
  pub sender : N
  pub post : Sending
  pub at : slice_get nodes number ≡ Some sender
  pub posts : slice_get (had sender).posts k ≡ Some post
  pub accepted : Has post.accepted e

accepted_of : {X Y M N : Type 0} (had : N → Had X) (nodes : List N) (senders : List NodeLinks)
    (others_had : M → Had Y) (others : List M) (receivers : List NodeLinks) (inboxes : List Taking)
    → AreLinksOf had nodes senders → AreLinksOf others_had others receivers → AreGathered senders receivers inboxes
    → (k : ℕ) (b : M) → slice_get others k ≡ Some b → (e : Envelope)
    → Has (envelopes (others_had b).inbox.taken) e → AcceptedOf had nodes k e
accepted_of had nodes senders others_had others receivers inboxes are others_are gathered k b at e has =
    let l = links_at others_had others receivers others_are k b at in
    let was = taken_by senders receivers inboxes gathered k l.0 l.1 e (others_had b).inbox l.2 has in
    let a = poster_at had nodes senders are was.number was.sender was.stands in
    record {
      number = was.number;
      sender = a.0;
      post = was.post;
      at = a.1;
      posts = ap (λ (ps : List Sending). slice_get ps k) (sym a.2) ∙ was.posts;
      accepted = was.accepted;
    }

-- ---- both ways

module _ (n : Names) (s : Starting) (servers : List SeatNow) (controllers : List ControllerLeft)
    (each_server : AreEach (IsServerLeft n s) servers) (each_controller : AreEach (IsControllerLeft n) controllers)
    (links_there links_back : List NodeLinks) (of_servers : AreLinksOf server_had servers links_there)
    (of_controllers : AreLinksOf controller_had controllers links_back) (took_servers took_controllers : List Taking)
    (back : AreGathered links_back links_there took_servers)
    (there : AreGathered links_there links_back took_controllers) where
  abbrev server_parts : List ServerPart
  server_parts = map (λ (a : SeatNow). server_part a.acting) servers

  abbrev controller_parts : List ControllerPart
  controller_parts = map (λ (a : ControllerLeft). controller_part a.acts) controllers

  reply_linked : (k : ℕ) (a : SeatNow) (r : Reply) → slice_get servers k ≡ Some a → Has (replies_of a.acting.did) r
      → (c : ControllerPart) × Has controller_parts c × Has c.replies r
  reply_linked k a r at has =
      let is = each_server k a at in
      let taken : Has (envelopes a.inbox.taken) (Replies r) =
      subst (λ (es : List Envelope). Has es (Replies r)) (sym is.ended.seat.took) (reply_of a.acting.did r has) in
      let was = accepted_of controller_had controllers links_back server_had servers links_there took_servers
      of_controllers of_servers back k a at (Replies r) taken in
      let of_controller = each_controller was.number was.sender was.at in (
        controller_part was.sender.acts,
        map-Has (λ (b : ControllerLeft). controller_part b.acts) controllers was.sender
            (place-Has controllers was.number was.sender was.at),
        reply_sent _ r (of_controller.ended.posted.accepted k was.post (Replies r) was.posts was.accepted),
      )

  request_linked : (k : ℕ) (c : ControllerLeft) (q : Request) → slice_get controllers k ≡ Some c
      → Has (controller_part c.acts).requests q → (a : ServerPart) × Has server_parts a × Has a.requests q
  request_linked k c q at has =
      let is = each_controller k c at in
      let was = accepted_of server_had servers links_there controller_had controllers links_back took_controllers
      of_servers of_controllers there k c at (Asks q) (is.ended.asked q has) in
      let of_server = each_server was.number was.sender was.at in (
        server_part was.sender.acting,
        map-Has (λ (b : SeatNow). server_part b.acting) servers was.sender
            (place-Has servers was.number was.sender was.at),
        request_sent _ q (of_server.ended.seat.posted.accepted k was.post (Asks q) was.posts was.accepted),
      )

  pub linked : (e : Ended) → e.servers ≡ server_parts → e.controllers ≡ controller_parts → AreLinked e
  linked e are_servers are_controllers = record {
    replies = λ a r has took.
        let x = placed (λ (b : SeatNow). server_part b.acting) servers a
        (subst (λ (ps : List ServerPart). Has ps a) are_servers has) in
        subst (λ (cs : List ControllerPart). (c : ControllerPart) × Has cs c × Has c.replies r) (sym are_controllers)
        (reply_linked x.0 x.1 r x.2 (subst (λ (b : ServerPart). Has b.replies r) x.3 took));
    requests = λ c q has took.
        let x = placed (λ (b : ControllerLeft). controller_part b.acts) controllers c
        (subst (λ (cs : List ControllerPart). Has cs c) are_controllers has) in
        subst (λ (ps : List ServerPart). (a : ServerPart) × Has ps a × Has a.requests q) (sym are_servers)
        (request_linked x.0 x.1 q x.2 (subst (λ (b : ControllerPart). Has b.requests q) x.3 took));
  }
