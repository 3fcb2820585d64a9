-- The posts that are dealt out are those of each node to all others.
use Rattle.std.proofs.Common.{◌≡◌, ℕ, ◌<◌, List, [], ◌∷◌, ◌++◌, length, map, refl, sym, ap, subst, ◌∙◌, arith, Some}
use Rattle.std.proofs.Common.{slice_get}
use Rattle.std.specs.List.{All, fold}
use Rattle.std.proofs.lemmas.List.{append_assoc, append-nil, length-map}
use Rattle.std.proofs.lemmas.List.Elements.{All-map, All-same}
use Rattle.std.proofs.lemmas.List.FromFn.{get_or-map-range_with_len, length-map-range_with_len}
use Rattle.std.proofs.lemmas.Option.{slice_get-get_or, slice_get_within}
use Rattle.rt_lists.proofs.Lists.{All-found}
use Rattle.rt_link.specs.Ends.{Sending, Taking, sending, taking}
use Rattle.rt_live_links.specs.Linked.{AreLinked, IsBare, row_to}
use Rattle.rt_live_links.specs.Rows.{column, inboxes_of, onto_all, posts_of, with_last}
use Rattle.rt_live_links.specs.declared.node_links.NodeLinks.{NodeLinks}
use Rattle.rt_live_links.proofs.Places.{column_more, got_all, mapped, unmapped}

-- posts that are added one after the other stand behind those that were there
pub in_turn : (posts more : List Sending) → fold with_last posts more ≡ posts ++ more
in_turn posts [] = sym (append-nil posts)
in_turn posts (post ∷ more) = in_turn (posts ++ post ∷ []) more ∙ append_assoc posts (post ∷ []) more

-- the post of a sender in a row
in_row : (capacity senders k : ℕ) (inbox : Taking) → k < senders
    → slice_get (row_to capacity senders inbox) k ≡ Some (sending inbox.line capacity k [])
in_row capacity senders k inbox lt =
    let post : ℕ → Sending = λ n. sending inbox.line capacity n [] in
    slice_get-get_or (row_to capacity senders inbox) k (post k)
    (omega (arith, lt, length-map-range_with_len post 0 senders))
    ∙ ap Some (get_or-map-range_with_len post 0 senders k k (post k) lt (omega arith))

-- its posts in all rows
in_rows : (capacity senders k : ℕ) (nodes : List NodeLinks) → k < senders
    → column k (map (λ node. row_to capacity senders node.inbox) nodes)
    ≡ map (λ node. sending node.inbox.line capacity k []) nodes
in_rows capacity senders k [] lt = refl
in_rows capacity senders k (node ∷ nodes) lt =
    column_more k (row_to capacity senders node.inbox) (map (λ n. row_to capacity senders n.inbox) nodes)
    (sending node.inbox.line capacity k []) (in_row capacity senders k node.inbox lt)
    ∙ ap (λ l. sending node.inbox.line capacity k [] ∷ l) (in_rows capacity senders k nodes lt)

-- each row has a post of each sender
pub rows_fit : (capacity senders : ℕ) (nodes : List NodeLinks) (rows : List (List Sending)) (n : ℕ)
    → rows ≡ map (λ node. row_to capacity senders node.inbox) nodes → senders ≡ n
    → All (λ row. length row ≡ n) rows
rows_fit capacity senders nodes rows n are is =
    All-same (λ (row : List Sending). length row ≡ n) rows (map (λ node. row_to capacity senders node.inbox) nodes) are
    (All-map (λ (row : List Sending). length row ≡ n) (λ node. row_to capacity senders node.inbox) nodes
    (λ k d lt. length-map-range_with_len (λ number. sending _ capacity number []) 0 senders ∙ is))

-- the images of the inboxes
through : {Z : Type 0} (f : Taking → Z) (nodes : List NodeLinks)
    → map (λ node. f node.inbox) nodes ≡ map f (inboxes_of nodes)
through f [] = refl
through f (node ∷ nodes) = ap (λ l. f node.inbox ∷ l) (through f nodes)

-- nodes that got the posts of all rows, where these are those to the others
pub linked : (capacity count others : ℕ) (old new others_old others_new : List NodeLinks) (rows : List (List Sending))
    → length old ≡ count → length others_old ≡ others
    → All (IsBare capacity others) old → inboxes_of new ≡ inboxes_of old
    → posts_of new ≡ onto_all with_last (posts_of old) rows
    → rows ≡ map (λ node. row_to capacity count node.inbox) others_old → inboxes_of others_new ≡ inboxes_of others_old
    → AreLinked capacity others_new new
linked capacity count others old new others_old others_new rows counted met bare inboxes posts are theirs =
    let many : length others_new ≡ others =
    sym (length-map others_new (λ node. node.inbox))
    ∙ ap length theirs
    ∙ length-map others_old (λ node. node.inbox)
    ∙ met in
    record {
      each = λ number node at.
          let inbox = unmapped (λ n. n.inbox) old number node.inbox
          (ap (λ l. slice_get l number) (sym inboxes) ∙ mapped (λ n. n.inbox) new number node at) in
          let dealt = got_all with_last (posts_of old) rows number node.posts.items
          (rows_fit capacity count others_old rows (length (posts_of old)) are
          (sym counted ∙ sym (length-map old (λ n. n.posts.items))))
          (ap (λ l. slice_get l number) (sym posts) ∙ mapped (λ n. n.posts.items) new number node at) in
          let had = unmapped (λ n. n.posts.items) old number dealt.old dealt.was in
          let first = All-found (IsBare capacity others) old number inbox.0 bare inbox.1 in
          let second = All-found (IsBare capacity others) old number had.0 bare had.1 in
          let post : Taking → Sending = λ i. sending i.line capacity number [] in
          record {
            inbox = subst (λ (i : Taking). i ≡ taking i.line capacity (length others_new) [] []) (sym inbox.2)
                (first.inbox ∙ ap (λ n. taking inbox.0.inbox.line capacity n [] []) (sym many));
            posts = dealt.is
                ∙ ap (λ l. fold with_last l (column number rows)) (had.2 ∙ second.posts)
                ∙ in_turn [] (column number rows)
                ∙ ap (λ l. column number l) are
                ∙ in_rows capacity count number others_old
                (omega (arith, counted, slice_get_within old number had.0 had.1))
                ∙ through post others_old
                ∙ ap (λ l. map post l) (sym theirs)
                ∙ sym (through post others_new);
          };
    }
