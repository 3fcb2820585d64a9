-- A seat stays one as its server does one thing more.
use Rattle.std.proofs.Common.{◌≡◌, ◌∙◌, ℕ, List, [], ◌∷◌, ◌++◌, append-nil, map, ap, refl, sym, subst}
use Rattle.std.proofs.lemmas.List.{map-append}
use Rattle.rt_link.specs.Delivery.{sent}
use Rattle.rt_link.specs.Ends.{Sending}
use Rattle.rt_link.specs.declared.envelope.Envelope.{Envelope}
use Rattle.rt_link.specs.declared.envelope.Envelope.TheVariants.{Asks}
use Rattle.rt_live_names.specs.Fronts.{controller_line, server_line}
use Rattle.rt_live_names.specs.Names.{Names}
use Rattle.rt_live_names.specs.Sending.{ArePosts, PostsNow, Sends}
use Rattle.rt_live_names.proofs.Posting.{sends_keeps}
use Rattle.rt_model.specs.declared.request.Request.{Request}
use Rattle.rt_live_server.specs.Acting.{ActingNow, Adds, Quietly}
use Rattle.rt_live_server.specs.Did.{envelopes_of, given_of, requests_of}
use Rattle.rt_live_server.specs.Seat.{IsSeat, SeatNow}

same_list : {X : Type 0} (old new more : List X) → new ≡ old ++ more → more ≡ [] → new ≡ old
same_list old new more e none = e ∙ ap (λ xs. old ++ xs) none ∙ append-nil old

module _ (n : Names) (old new : SeatNow) (k : IsSeat n old) (number : new.acting.number ≡ old.acting.number) where
  line_kept : new.inbox.line ≡ old.inbox.line → new.inbox.line ≡ n.lines (server_line new.acting.number)
  line_kept same = same ∙ k.line ∙ ap (λ i. n.lines (server_line i)) (sym number)

  asked_kept : new.pieces.chronicle ≡ old.pieces.chronicle → new.pieces.chronicle ≡ n.asked new.acting.number
  asked_kept same = same ∙ k.asked ∙ ap (λ i. n.asked i) (sym number)

  -- the same posts, of a server that made no request more
  posts_kept : new.posts ≡ old.posts → requests_of new.acting.did ≡ requests_of old.acting.did
      → ArePosts n new.acting.number (controller_line n.setup) (map Asks (requests_of new.acting.did)) new.posts
  posts_kept same none =
      subst (λ i. ArePosts n i (controller_line n.setup) (map Asks (requests_of new.acting.did)) new.posts) (sym number)
      (subst (λ (rs : List Request). ArePosts n old.acting.number (controller_line n.setup) (map Asks rs) new.posts) (sym none)
      (subst (λ (ps : List Sending). ArePosts n old.acting.number (controller_line n.setup) (map Asks (requests_of old.acting.did)) ps) (sym same) k.posted))

abbrev pub with_acting : SeatNow → ActingNow → SeatNow
with_acting a acting = record a { acting = acting }

module _ (n : Names) (a : SeatNow) (k : IsSeat n a) (acting : ActingNow) where
  -- nothing is taken, made or given
  pub seat_quiet : Quietly a.acting acting → IsSeat n (with_acting a acting)
  seat_quiet adds =
      let new = with_acting a acting in
      record {
        line = line_kept n a new k adds.number refl;
        made = k.made;
        gathered = k.gathered;
        took = k.took ∙ sym (same_list (envelopes_of a.acting.did) (envelopes_of acting.did) [] adds.envelopes refl);
        posted = posts_kept n a new k adds.number refl (same_list (requests_of a.acting.did) (requests_of acting.did) [] adds.requests refl);
        asked = asked_kept n a new k adds.number refl;
        gave = k.gave ∙ sym (same_list (given_of a.acting.did) (given_of acting.did) [] adds.given refl);
      }

  -- a request is made and sent
  pub seat_asks : (old new : PostsNow) (to : ℕ) (request : Request) → old.posts ≡ a.posts → Sends old new to (Asks request) → Adds a.acting acting [] (request ∷ []) []
      → IsSeat n (record a { acting = acting; posts = new.posts })
  seat_asks old new to request at sends adds =
      let later : SeatNow = record a { acting = acting; posts = new.posts } in
      let requests = map Asks (requests_of a.acting.did) in
      let before : ArePosts n a.acting.number (controller_line n.setup) requests old.posts =
      subst (λ (ps : List Sending). ArePosts n a.acting.number (controller_line n.setup) requests ps) (sym at) k.posted in
      let after = sends_keeps n a.acting.number (controller_line n.setup) requests old new to (Asks request) before sends in
      let all : map Asks (requests_of acting.did) ≡ requests ++ Asks request ∷ [] =
      ap (λ (rs : List Request). map Asks rs) adds.requests ∙ map-append Asks (requests_of a.acting.did) (request ∷ []) in
      record {
        line = line_kept n a later k adds.number refl;
        made = k.made;
        gathered = k.gathered;
        took = k.took ∙ sym (same_list (envelopes_of a.acting.did) (envelopes_of acting.did) [] adds.envelopes refl);
        posted =
            subst (λ i. ArePosts n i (controller_line n.setup) (map Asks (requests_of acting.did)) new.posts) (sym adds.number)
            (subst (λ (es : List Envelope). ArePosts n a.acting.number (controller_line n.setup) es new.posts) (sym all) after);
        asked = asked_kept n a later k adds.number refl;
        gave = k.gave ∙ sym (same_list (given_of a.acting.did) (given_of acting.did) [] adds.given refl);
      }
