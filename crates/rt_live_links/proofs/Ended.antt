-- The inboxes of ended nodes, when they gathered the posts of all senders.
use Rattle.std.proofs.Common.{◌≡◌, ℕ, zero, suc, ◌<◌, List, [], ◌∷◌, ◌++◌, length, map, sym, ap, subst, ◌∙◌, arith}
use Rattle.std.proofs.Common.{Option, Some, None, slice_get}
use Rattle.std.specs.List.{All, fold}
use Rattle.std.proofs.lemmas.List.{append_assoc, append-nil, length-map}
use Rattle.std.proofs.lemmas.List.Elements.{All-map, All-same}
use Rattle.std.proofs.lemmas.Option.{none-some, same_Some, slice_get_within}
use Rattle.rt_lists.specs.Members.{Has, IsFront}
use Rattle.rt_lists.proofs.Lists.{All-found}
use Rattle.rt_lists.proofs.Members.{Has-front, Has-map}
use Rattle.rt_link.specs.Delivery.{of}
use Rattle.rt_link.specs.Ends.{Sending, Taking}
use Rattle.rt_link.specs.declared.envelope.Envelope.{Envelope}
use Rattle.rt_link.specs.declared.rule.Account.{Account}
use Rattle.rt_link.specs.declared.rule.Sent.{Sent}
use Rattle.rt_live_links.specs.Gathered.{account_of, AreEnds, AreGathered, gathering, IsEnd, IsGathered, posts_to}
use Rattle.rt_live_links.specs.Gathered.{TookRightly}
use Rattle.rt_live_links.specs.Rows.{column, inboxes_of, onto_all, posts_of, with_found}
use Rattle.rt_live_links.specs.declared.node_links.NodeLinks.{NodeLinks}
use Rattle.rt_live_links.proofs.Places.{alike, all_found, column_more, got_all, length-onto_all, mapped, stands}
use Rattle.rt_live_links.proofs.Places.{unmapped}
use Rattle.rt_live_links.proofs.Taken.{by_a_sender, of_its_sender}

-- posts that are gathered one after the other
in_turn : (inbox : Taking) (posts : List Sending)
    → fold gathering inbox posts ≡ record inbox { gathered = inbox.gathered ++ map account_of posts }
in_turn inbox [] = ap (λ (l : List Account). record inbox { gathered = l }) (sym (append-nil inbox.gathered))
in_turn inbox (post ∷ posts) =
    in_turn (gathering inbox post) posts
    ∙ ap (λ (l : List Account). record inbox { gathered = l })
    (append_assoc inbox.gathered (account_of post ∷ []) (map account_of posts))

-- the posts of an ended node are of the links of their receivers
lines_of_end : (others : List NodeLinks) (number : ℕ) (node : NodeLinks) → IsEnd others number node
    → map (λ post. post.line) node.posts.items ≡ map (λ inbox. inbox.line) (inboxes_of others)
lines_of_end others number node end =
    alike (λ (post : Sending). post.line) (λ (inbox : Taking). inbox.line) node.posts.items (inboxes_of others)
    (end.posts ∙ sym (length-map others (λ other. other.inbox)))
    (λ place post inbox at there.
    let other = unmapped (λ (o : NodeLinks). o.inbox) others place inbox there in
    (end.to place post other.0 at other.1).0 ∙ ap (λ (i : Taking). i.line) (sym other.2))

pub rows_fit : (others nodes : List NodeLinks) (rows : List (List Sending)) (inboxes : List Taking)
    → AreEnds others nodes → rows ≡ posts_of nodes → inboxes ≡ inboxes_of others
    → All (λ row. map (λ post. post.line) row ≡ map (λ inbox. inbox.line) inboxes) rows
rows_fit others nodes rows inboxes ends are theirs =
    let P : List Sending → Type 0 = λ row. map (λ post. post.line) row ≡ map (λ inbox. inbox.line) inboxes in
    All-same P rows (posts_of nodes) are
    (All-map P (λ node. node.posts.items) nodes
    (all_found (λ node. P node.posts.items) nodes
    (λ number node at. lines_of_end others number node (ends.each number node at)
    ∙ ap (λ l. map (λ (i : Taking). i.line) l) (sym theirs))))

-- what stands somewhere behind one that may have been found
past_found : {X : Type 0} (o : Option X) (xs : List X) (k : ℕ) (x : X) → slice_get xs k ≡ Some x
    → (j : ℕ) × (slice_get (with_found o xs) j ≡ Some x)
past_found None xs k x at = (k, at)
past_found (Some y) xs k x at = (suc k, at)

-- what stands at a place of one row is in the column of that place
in_column : {X : Type 0} (rows : List (List X)) (number place : ℕ) (row : List X) (x : X)
    → slice_get rows number ≡ Some row → slice_get row place ≡ Some x
    → (k : ℕ) × (slice_get (column place rows) k ≡ Some x)
in_column [] number place row x at there = absurd (none-some row at)
in_column {X = X} (first ∷ rows) zero place row x at there = (
  0,
  ap (λ (l : List X). slice_get l 0)
      (column_more place first rows x (ap (λ (r : List X). slice_get r place) (same_Some first row at) ∙ there)),
)
in_column (first ∷ rows) (suc number) place row x at there =
    let rest = in_column rows number place row x at there in
    past_found (slice_get first place) (column place rows) rest.0 x rest.1

-- an inbox that has the accounts of the posts to it
gathers : (senders receivers : List NodeLinks) (number : ℕ) (old new : Taking) → AreEnds receivers senders
    → number < length receivers → old.made ≡ length senders
    → new ≡ record old { gathered = map account_of (posts_to number senders) } → TookRightly new
    → IsGathered senders number old new
gathers senders receivers number old new ends lt made accounts rightly =
    let fronts : (k : ℕ) (sender : NodeLinks) (post : Sending) → slice_get senders k ≡ Some sender
    → slice_get sender.posts.items number ≡ Some post
    → IsFront (of k new.taken) post.accepted = λ k sender post at there.
    let other = stands receivers number lt in
    let place = in_column (posts_of senders) k number sender.posts.items post
    (mapped (λ node. node.posts.items) senders k sender at) there in
    let named : post.from ≡ k = ((ends.each k sender at).to number post other.0 there other.1).1 in
    let front : IsFront (of post.from new.taken) post.accepted =
    All-found (λ (a : Account). IsFront (of a.from new.taken) a.accepted) new.gathered place.0
    (account_of post) rightly.order
    (ap (λ (i : Taking). slice_get i.gathered place.0) accounts
    ∙ mapped account_of (posts_to number senders) place.0 post place.1) in
    subst (λ (p : ℕ). IsFront (of p new.taken) post.accepted) named front in
    record {
      accounts = accounts;
      order = rightly.order;
      of_senders = rightly.of_senders;
      fronts = fronts;
      accepted = λ e has.
          let x = Has-map (λ (sent : Sent). sent.envelope) new.taken e has in
          let known = by_a_sender new.made new.taken x.0 rightly.of_senders x.1 in
          let counted : new.made ≡ length senders = ap (λ (i : Taking). i.made) accounts ∙ made in
          let sender = stands senders x.0.sender (omega (arith, known, counted)) in
          let post = stands sender.0.posts.items number
          (omega (arith, lt, (ends.each x.0.sender sender.0 sender.1).posts)) in
          record {
            number = x.0.sender;
            sender = sender.0;
            post = post.0;
            stands = sender.1;
            posts = post.1;
            accepted = subst (λ (y : Envelope). Has post.0.accepted y) x.2
                (Has-front (of x.0.sender new.taken) post.0.accepted x.0.envelope
                (fronts x.0.sender sender.0 post.0 sender.1 post.1) (of_its_sender new.taken x.0 x.1));
          };
    }

-- the inboxes of all receivers, after the posts of all senders went to them
pub gathered : (senders receivers : List NodeLinks) (inboxes : List Taking) (rows : List (List Sending))
    → AreEnds receivers senders → AreEnds senders receivers → rows ≡ posts_of senders
    → inboxes ≡ onto_all gathering (inboxes_of receivers) rows → All TookRightly inboxes
    → AreGathered senders receivers inboxes
gathered senders receivers inboxes rows ends theirs are after rightly =
    let long : All (λ row. length row ≡ length (inboxes_of receivers)) rows =
    All-same (λ (row : List Sending). length row ≡ length (inboxes_of receivers)) rows (posts_of senders) are
    (All-map (λ (row : List Sending). length row ≡ length (inboxes_of receivers)) (λ node. node.posts.items) senders
    (all_found (λ node. length node.posts.items ≡ length (inboxes_of receivers)) senders
    (λ k node at. (ends.each k node at).posts ∙ sym (length-map receivers (λ other. other.inbox))))) in
    record {
      count = ap length after ∙ length-onto_all gathering (inboxes_of receivers) rows
          ∙ length-map receivers (λ node. node.inbox);
      each = λ number receiver inbox at there.
          let got = got_all gathering (inboxes_of receivers) rows number inbox long
          (ap (λ l. slice_get l number) (sym after) ∙ there) in
          let was : got.old ≡ receiver.inbox = same_Some got.old receiver.inbox
          (sym got.was ∙ mapped (λ node. node.inbox) receivers number receiver at) in
          let end = theirs.each number receiver at in
          let having : List Account → Taking = λ l. record receiver.inbox { gathered = l } in
          let accounts : inbox ≡ record receiver.inbox { gathered = map account_of (posts_to number senders) } =
          got.is
          ∙ ap (λ i. fold gathering i (column number rows)) was
          ∙ in_turn receiver.inbox (column number rows)
          ∙ ap (λ (l : List Account). having (l ++ map account_of (column number rows))) end.gathered
          ∙ ap (λ (l : List (List Sending)). having (map account_of (column number l))) are in
          gathers senders receivers number receiver.inbox inbox ends
          (slice_get_within receivers number receiver at) end.made accounts
          (All-found TookRightly inboxes number inbox rightly there);
    }
