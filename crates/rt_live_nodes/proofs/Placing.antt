-- What the nodes of a cluster are given as it is founded.
use Rattle.std.proofs.Common.{◌≡◌, ◌∙◌, ℕ, zero, suc, ◌+◌, ◌<◌, ◌⊎◌, inl, inr, List, [], ◌∷◌, ◌++◌, length, map}
use Rattle.std.proofs.Common.{Some, ap, sym, subst, arith, slice_get}
use Rattle.std.specs.List.{range_with_len}
use Rattle.std.proofs.lemmas.List.{length-append}
use Rattle.std.proofs.lemmas.Option.{same_Some, none-some}
use Rattle.atomic_table.specs.Seated.{TableId}
use Rattle.rt_broker.specs.declared.piece_given.PieceGiven.{PieceGiven}
use Rattle.rt_front.specs.Histories.{Known}
use Rattle.rt_ground.proofs.Entries.{pushed_cases}
use Rattle.rt_live_broker.specs.Feeds.{AreFeeds}
use Rattle.rt_link.specs.Ends.{Sending, sending, taking}
use Rattle.rt_link.specs.declared.envelope.Envelope.{Envelope}
use Rattle.rt_lists.specs.Members.{Has}
use Rattle.rt_live_links.specs.Linked.{AreLinked, IsNewPost, lines_of}
use Rattle.rt_live_links.specs.declared.all_links.Links.{Links}
use Rattle.rt_live_links.proofs.Lines.{controller_line as found_controller, controllers_post, server_line, servers_post}
use Rattle.rt_live_links.specs.declared.node_links.NodeLinks.{NodeLinks}
use Rattle.rt_live_input.specs.declared.input.Input.{Input}
use Rattle.rt_live_names.specs.Fronts.{controller_line, server_line as server_line_of}
use Rattle.rt_live_names.specs.Names.{Names}
use Rattle.rt_live_nodes.specs.Founding.{AreFrom, IsAsked, IsControllerPlace, IsServerPlace, inbox_size, name_at}
use Rattle.rt_live_nodes.specs.Founding.{names_of}

-- ---- one after the other

module _ {X : Type 0} (Is : ℕ → X → Type 0) where
  pub first_is : (n : ℕ) (all rest : List X) (x : X) → AreFrom Is n all → all ≡ x ∷ rest → Is n x
  first_is n all rest x are e =
      subst (λ (k : ℕ). Is k x) (omega arith) (are 0 x (ap (λ (xs : List X). slice_get xs 0) e))

  pub rest_are : (n : ℕ) (all rest : List X) (x : X) → AreFrom Is n all → all ≡ x ∷ rest → AreFrom Is (n + 1) rest
  rest_are n all rest x are e k y found =
      subst (λ (m : ℕ). Is m y) (omega arith)
      (are (suc k) y (ap (λ (xs : List X). slice_get xs (suc k)) e ∙ found))

  -- where the number that comes next is written in another way
  pub rest_at : (n m : ℕ) (all rest : List X) (x : X) → m ≡ n + 1 → AreFrom Is n all → all ≡ x ∷ rest
      → AreFrom Is m rest
  rest_at n m all rest x next are e = subst (λ (k : ℕ). AreFrom Is k rest) (sym next) (rest_are n all rest x are e)

  pub at_number : (n m : ℕ) (items : List X) → m ≡ n → AreFrom Is n items → AreFrom Is m items
  at_number n m items same are = subst (λ (k : ℕ). AreFrom Is k items) (sym same) are

  pub same_items : (n : ℕ) (old new : List X) → new ≡ old → AreFrom Is n old → AreFrom Is n new
  same_items n old new same are = subst (λ (xs : List X). AreFrom Is n xs) (sym same) are

pub pushed_length : {X : Type 0} (old new : List X) (x : X) (k : ℕ) → new ≡ old ++ x ∷ [] → length old ≡ k
    → length new ≡ k + 1
pushed_length old new x k more count =
    ap length more ∙ length-append old (x ∷ []) ∙ ap (λ (n : ℕ). n + 1) count

-- items that are made of their numbers
pub made_from : {X : Type 0} (f : ℕ → X) (first count : ℕ)
    → AreFrom (λ k x. x ≡ f k) first (map f (range_with_len first count))
made_from f first zero k x found = absurd (none-some x found)
made_from f first (suc count) zero x found = sym (same_Some (f first) x found) ∙ ap f (omega arith)
made_from f first (suc count) (suc k) x found = made_from f (first + 1) count k x found ∙ ap f (omega arith)

-- ---- names by place

pub name_found : (names : List TableId) (k : ℕ) (name : TableId) → slice_get names k ≡ Some name
    → name_at names k ≡ name
name_found [] k name found = absurd (none-some name found)
name_found (x ∷ xs) zero name found = same_Some x name found
name_found (x ∷ xs) (suc k) name found = name_found xs k name found

pub asked_are : (input : Input) (links : Links) (asked : List TableId)
    → AreFrom (IsAsked (names_of input links asked)) 0 asked
asked_are input links asked k name found =
    subst (λ (i : ℕ). name ≡ name_at asked i) (omega arith) (sym (name_found asked k name found))

-- ---- feeds

pub no_feeds : (n : Names) (fed : List (Known PieceGiven)) → fed ≡ [] → AreFeeds n fed
no_feeds n fed none i front found =
    absurd (none-some front (ap (λ (xs : List (Known PieceGiven)). slice_get xs i) (sym none) ∙ found))

pub feeds_more : (n : Names) (old new : List (Known PieceGiven)) (k : ℕ) (feed : Known PieceGiven) → AreFeeds n old
    → length old ≡ k → feed.chronicle ≡ n.asked k → new ≡ old ++ feed ∷ []
    → AreFeeds n new
feeds_more n old new k feed are count named more i front found =
    pushed (pushed_cases old feed i front (ap (λ (xs : List (Known PieceGiven)). slice_get xs i) (sym more) ∙ found))
  where
    pushed : ((slice_get old i ≡ Some front) × (i < length old)) ⊎ ((i ≡ length old) × (feed ≡ front))
        → front.chronicle ≡ n.asked i
    pushed (inl before) = are i front before.0
    pushed (inr last) =
        ap (λ (f : Known PieceGiven). f.chronicle) (sym last.1) ∙ named ∙ ap n.asked (sym (last.0 ∙ count))

-- ---- the places of servers and controllers

module _ (input : Input) (links : Links) (asked : List TableId)
    (servers : length links.servers.items ≡ input.setup.servers)
    (controllers : length links.controllers.items ≡ input.setup.controllers) where
  abbrev names : Names
  names = names_of input links asked

  nothing_sent : (post : Sending) (capacity from : ℕ) (x : Envelope) → post ≡ sending post.line capacity from []
      → Has post.accepted x → Has {X = Envelope} [] x
  nothing_sent post capacity from x is h = subst (λ (p : Sending). Has p.accepted x) is h

  server_post_named : (k place : ℕ) (node : NodeLinks) (post : Sending)
      → AreLinked inbox_size links.controllers.items links.servers.items
      → slice_get links.servers.items k ≡ Some node → slice_get node.posts.items place ≡ Some post
      → (post.line ≡ names.lines (controller_line input.setup place)) × (post.from ≡ k)
  server_post_named k place node post linked found there =
      let at : ℕ = length links.servers.items + place in
      let new : IsNewPost (lines_of links) inbox_size at k post =
      servers_post links inbox_size k place node post linked found there in (
        sym (name_found (lines_of links) at post.line new.stands)
            ∙ ap (λ (i : ℕ). name_at (lines_of links) (i + place)) servers,
        ap (λ (p : Sending). p.from) new.is,
      )

  server_place : AreLinked inbox_size links.controllers.items links.servers.items → (k : ℕ) (node : NodeLinks)
      → slice_get links.servers.items k ≡ Some node → IsServerPlace names k node
  server_place linked k node found = record {
    inbox = (linked.each k node found).inbox
        ∙ ap (λ (line : TableId). taking line inbox_size (length links.controllers.items) [] [])
        (sym (name_found (lines_of links) k node.inbox.line (server_line links k node found)))
        ∙ ap (λ (count : ℕ). taking (names.lines (server_line_of k)) inbox_size count [] []) controllers;
    posts = record {
      named = λ place post there. server_post_named k place node post linked found there;
      accepted = λ place post x there h. nothing_sent post inbox_size k x
          (servers_post links inbox_size k place node post linked found there).is h;
    };
  }

  pub servers_placed : AreLinked inbox_size links.controllers.items links.servers.items
      → AreFrom (IsServerPlace names) 0 links.servers.items
  servers_placed linked k node found =
      subst (λ (i : ℕ). IsServerPlace names i node) (omega arith) (server_place linked k node found)

  controller_place : AreLinked inbox_size links.servers.items links.controllers.items → (k : ℕ) (node : NodeLinks)
      → slice_get links.controllers.items k ≡ Some node → IsControllerPlace names k node
  controller_place linked k node found = record {
    inbox = (linked.each k node found).inbox
        ∙ ap (λ (line : TableId). taking line inbox_size (length links.servers.items) [] [])
        (sym (name_found (lines_of links) (length links.servers.items + k) node.inbox.line
        (found_controller links k node found)))
        ∙ ap (λ (count : ℕ). taking (name_at (lines_of links) (count + k)) inbox_size count [] []) servers;
    posts = record {
      named = λ place post there.
          let new : IsNewPost (lines_of links) inbox_size place k post =
          controllers_post links inbox_size k place node post linked found there in (
            sym (name_found (lines_of links) place post.line new.stands),
            ap (λ (p : Sending). p.from) new.is,
          );
      accepted = λ place post x there h. nothing_sent post inbox_size k x
          (controllers_post links inbox_size k place node post linked found there).is h;
    };
  }

  pub controllers_placed : AreLinked inbox_size links.servers.items links.controllers.items
      → AreFrom (IsControllerPlace names) 0 links.controllers.items
  controllers_placed linked k node found =
      subst (λ (i : ℕ). IsControllerPlace names i node) (omega arith) (controller_place linked k node found)
