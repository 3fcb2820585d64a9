-- A controller's node goes on: what it took, posted and keeps in its journal is what it did.
use Rattle.std.proofs.Common.{◌≡◌, ◌⊎◌, inl, inr, ℕ, List, [], ◌∷◌, ◌++◌, append-nil, Option, Some, None, refl, sym, ◌∙◌, ap, subst}
use Rattle.std.specs.Prelude.{IfSome, map}
use Rattle.std.proofs.lemmas.List.{map-append}
use Rattle.rt_link.specs.Delivery.{sent}
use Rattle.rt_link.specs.Ends.{Sending, Taking, taking}
use Rattle.rt_link.specs.declared.envelope.Envelope.{Envelope}
use Rattle.rt_link.specs.declared.envelope.Envelope.TheVariants.{Asks, Replies}
use Rattle.rt_link.specs.declared.rule.Sent.{Sent}
use Rattle.rt_lists.specs.Members.{Has}
use Rattle.rt_lists.proofs.Members.{Has-append_cases, Has-append_left, Has-append_right, Has-map, map-Has}
use Rattle.rt_live_names.specs.Fronts.{controller_line, server_line}
use Rattle.rt_live_names.specs.Names.{Names}
use Rattle.rt_live_names.specs.Sending.{ArePosts, PostsNow}
use Rattle.rt_live_names.proofs.Posting.{posts_more, sends_keeps}
use Rattle.rt_live_output.specs.declared.journal.Heard.{Heard as Line}
use Rattle.rt_model.specs.declared.reply.Reply.{Reply}
use Rattle.rt_model.specs.declared.request.Request.{Request}
use Rattle.rt_live_controller.specs.Acting.{ControllerActs, IsActing}
use Rattle.rt_live_controller.specs.ControllerSeat.{Answers, AreItsPosts, ControllerSeatNow, IsControllerEnded, IsControllerSeat, IsInbox, IsJournal, IsShown, Journals, taken_in}
use Rattle.rt_live_controller.specs.Did.{all_in, ended_in, envelopes_in, envelopes_of, heard_in, line_from, lines_of, listed, replies_in, replies_of, reply_in, requests_in, requests_of}
use Rattle.rt_live_controller.specs.declared.controller_did.ControllerDid.{ControllerDid}
use Rattle.rt_live_controller.specs.declared.controller_did.ControllerDid.TheVariants.{Believed, Heard, Passed, Worked}
use Rattle.rt_live_controller.specs.declared.heard_journal.EndedJob.{EndedJob}
use Rattle.rt_live_controller.specs.declared.heard_journal.HeardJournal.{HeardJournal}
use Rattle.rt_live_controller.specs.declared.heard_request.HeardRequest.{HeardRequest}
use Rattle.rt_live_controller.proofs.Listed.{all_in_more}

-- ---- one thing more

more_in : {X : Type 0} (f : ControllerDid → List X) (a b : List ControllerDid) (d : ControllerDid) → b ≡ a ++ d ∷ [] → all_in f b ≡ all_in f a ++ f d
more_in f a b d e = ap (all_in f) e ∙ all_in_more f a d

-- the journal has it too, or is lost
journal_goes : (a b : List ControllerDid) (d : ControllerDid) (j k : Option HeardJournal) → b ≡ a ++ d ∷ [] → Journals d j k → IfSome j (IsJournal a)
    → IfSome k (IsJournal b)
journal_goes a b d None k e notes is = subst (λ (x : Option HeardJournal). IfSome x (IsJournal b)) (sym notes) tt
journal_goes a b d (Some j) None e notes is = tt
journal_goes a b d (Some j) (Some k) e notes is = record {
  heard = notes.0 ∙ ap (λ (xs : List HeardRequest). xs ++ heard_in d) is.heard ∙ sym (more_in heard_in a b d e);
  ended = notes.1 ∙ ap (λ (xs : List EndedJob). xs ++ ended_in d) is.ended ∙ sym (more_in ended_in a b d e);
}

-- what it answered then has all that it had answered
answered_more : (a b : List ControllerDid) (d : ControllerDid) → b ≡ a ++ d ∷ [] → (e : Envelope) → Has (map Replies (replies_of a)) e → Has (map Replies (replies_of b)) e
answered_more a b d same e h =
    let found = Has-map Replies (replies_of a) e h in
    subst (Has (map Replies (replies_of b))) found.2
    (map-Has Replies (replies_of b) found.0
    (subst (λ (rs : List Reply). Has rs found.0) (sym (more_in replies_in a b d same)) (Has-append_left (replies_of a) (replies_in d) found.0 found.1)))

pub has_answered : (a b : List ControllerDid) (d : ControllerDid) → b ≡ a ++ d ∷ [] → (reply : Reply) → reply_in d ≡ Some reply → Has (replies_of b) reply
has_answered a b d same reply is =
    let one : Has (replies_in d) reply = subst (λ (o : Option Reply). Has (listed o) reply) (sym is) (inl refl) in
    subst (λ (rs : List Reply). Has rs reply) (sym (more_in replies_in a b d same)) (Has-append_right (replies_of a) (replies_in d) reply one)

abbrev seat : ControllerActs → Taking → PostsNow → Option HeardJournal → ControllerSeatNow
seat acts inbox posts journal = record { acts = acts; inbox = inbox; posts = posts; journal = journal }

module _ (n : Names) (a b : ControllerActs) (d : ControllerDid) (posts : PostsNow) (j k : Option HeardJournal) (same : b.number ≡ a.number) (did : b.did ≡ a.did ++ d ∷ [])
    (notes : Journals d j k) where
  goes : (old new : Taking) → IsInbox n a.number new → taken_in new ≡ taken_in old ++ envelopes_in d → IsControllerSeat n (seat a old posts j)
      → IsControllerSeat n (seat b new posts k)
  goes old new inbox took is = record {
    inbox = subst (λ (m : ℕ). IsInbox n m new) (sym same) inbox;
    took = took ∙ ap (λ (es : List Envelope). es ++ envelopes_in d) is.took ∙ sym (more_in envelopes_in a.did b.did d did);
    posted = subst (λ (m : ℕ). ArePosts n m server_line (map Replies (replies_of b.did)) posts.posts) (sym same)
        (posts_more n a.number server_line (map Replies (replies_of a.did)) (map Replies (replies_of b.did)) posts.posts (answered_more a.did b.did d did) is.posted);
    journal = journal_goes a.did b.did d j k did notes is.journal;
  }

  -- without an envelope
  pub works_on : (inbox : Taking) → envelopes_in d ≡ [] → IsControllerSeat n (seat a inbox posts j) → IsControllerSeat n (seat b inbox posts k)
  works_on inbox none is =
      goes inbox inbox is.inbox
      (sym (append-nil (taken_in inbox)) ∙ ap (λ (es : List Envelope). taken_in inbox ++ es) (sym none)) is

  -- with the envelope that it took
  pub takes_on : (old new : Taking) (p : ℕ) (e : Envelope) → new ≡ record old { taken = old.taken ++ sent p e ∷ [] } → envelopes_in d ≡ e ∷ []
      → IsControllerSeat n (seat a old posts j) → IsControllerSeat n (seat b new posts k)
  takes_on old new p e is one was =
      let line = n.lines (controller_line n.setup a.number) in
      let taken : new.taken ≡ old.taken ++ sent p e ∷ [] = ap (λ (x : Taking). x.taken) is in
      goes old new
      (is ∙ ap (λ (x : Taking). record x { taken = old.taken ++ sent p e ∷ [] }) was.inbox ∙ ap (λ (xs : List Sent). taking line 1024 n.setup.servers xs []) (sym taken))
      (ap (map (λ (x : Sent). x.envelope)) taken ∙ map-append (λ (x : Sent). x.envelope) old.taken (sent p e ∷ [])
      ∙ ap (λ (es : List Envelope). taken_in old ++ es) (sym one))
      was

-- ---- what it answers is posted

among : (sent : List Envelope) (e x : Envelope) → Has sent e → Has (sent ++ e ∷ []) x → Has sent x
among sent e x there h = either (Has-append_cases sent (e ∷ []) x h)
  where
    either : Has sent x ⊎ Has (e ∷ []) x → Has sent x
    either (inl was) = was
    either (inr (inl same)) = subst (Has sent) same there
    either (inr (inr none)) = absurd none

answers : (n : Names) (a : ControllerActs) (old new : PostsNow) (o : Option Reply) → Answers old new o → ((r : Reply) → o ≡ Some r → Has (replies_of a.did) r)
    → AreItsPosts n a old.posts → AreItsPosts n a new.posts
answers n a old new None same there are = subst (λ (x : PostsNow). AreItsPosts n a x.posts) (sym same) are
answers n a old new (Some reply) sends there are =
    let all = map Replies (replies_of a.did) in
    posts_more n a.number server_line (all ++ Replies reply ∷ []) all new.posts
    (λ x. among all (Replies reply) x (map-Has Replies (replies_of a.did) reply (there reply refl)))
    (sends_keeps n a.number server_line all old new reply.number.instance.0 (Replies reply) are sends)

pub posts_on : (n : Names) (a : ControllerActs) (inbox : Taking) (old new : PostsNow) (j : Option HeardJournal) (o : Option Reply) → Answers old new o
    → ((r : Reply) → o ≡ Some r → Has (replies_of a.did) r) → IsControllerSeat n (seat a inbox old j) → IsControllerSeat n (seat a inbox new j)
posts_on n a inbox old new j o sends there is =
    record { inbox = is.inbox; took = is.took; posted = answers n a old new o sends there is.posted; journal = is.journal }

-- ---- when it has ended

asked_in : (d : ControllerDid) (r : Request) → Has (requests_in d) r → Has (envelopes_in d) (Asks r)
asked_in Believed r h = absurd h
asked_in (Heard request now result told deep_told) r (inl same) = inl (ap Asks same)
asked_in (Heard request now result told deep_told) r (inr none) = absurd none
asked_in (Passed envelope) r h = absurd h
asked_in (Worked job now result told deep_told) r h = absurd h

asked_either : (d : ControllerDid) (did : List ControllerDid) (r : Request) → (Has (requests_of did) r → Has (envelopes_of did) (Asks r))
    → Has (requests_in d) r ⊎ Has (requests_of did) r → Has (envelopes_of (d ∷ did)) (Asks r)
asked_either d did r later (inl here) = Has-append_left (envelopes_in d) (envelopes_of did) (Asks r) (asked_in d r here)
asked_either d did r later (inr h) = Has-append_right (envelopes_in d) (envelopes_of did) (Asks r) (later h)

asked_of : (did : List ControllerDid) (r : Request) → Has (requests_of did) r → Has (envelopes_of did) (Asks r)
asked_of [] r h = absurd h
asked_of (d ∷ did) r h = asked_either d did r (asked_of did r) (Has-append_cases (requests_in d) (requests_of did) r h)

shown : (did : List ControllerDid) (j : Option HeardJournal) (lines : Option (List Line)) → IsShown j lines → IfSome j (IsJournal did)
    → IfSome lines (λ (ls : List Line). ls ≡ lines_of did)
shown did None lines none is = subst (λ (x : Option (List Line)). IfSome x (λ (ls : List Line). ls ≡ lines_of did)) (sym none) tt
shown did (Some j) None k is = tt
shown did (Some j) (Some lines) k is =
    k ∙ ap (λ (ended : List EndedJob). map (line_from ended) j.heard.items) is.ended
    ∙ ap (map (line_from (all_in ended_in did))) is.heard

ends : (n : Names) (a : ControllerActs) (inbox : Taking) (posts : PostsNow) (j : Option HeardJournal) (lines : Option (List Line))
    → IsActing n a → IsControllerSeat n (seat a inbox posts j) → IsShown j lines → IsControllerEnded n a inbox posts.posts lines
ends n a inbox posts j lines acts is shows = record {
  acts = acts;
  inbox = is.inbox;
  took = is.took;
  asked = λ r h. subst (λ (es : List Envelope). Has es (Asks r)) (sym is.took) (asked_of a.did r h);
  posted = is.posted;
  heard = shown a.did j lines shows is.journal;
}

-- from its parts
pub ends_so : (n : Names) (a b : ControllerActs) (inbox : Taking) (posts : PostsNow) (left : List Sending) (j : Option HeardJournal) (lines : Option (List Line))
    → a ≡ b → left ≡ posts.posts → IsActing n a → IsControllerSeat n (seat b inbox posts j) → IsShown j lines → IsControllerEnded n a inbox left lines
ends_so n a b inbox posts left j lines same posted acts is shows =
    subst (λ (ps : List Sending). IsControllerEnded n a inbox ps lines) (sym posted)
    (ends n a inbox posts j lines acts (subst (λ (x : ControllerActs). IsControllerSeat n (seat x inbox posts j)) (sym same) is) shows)
