-- Rows of posts, of which each post goes to the node at its place.
use Rattle.std.specs.Prelude.{ℕ, List, [], ◌∷◌, ◌++◌, map, slice_get, Option, Some, None}
use Rattle.rt_link.specs.Ends.{Sending, Taking}
use Rattle.rt_live_links.specs.declared.node_links.NodeLinks.{NodeLinks}

abbrev pub inboxes_of : List NodeLinks → List Taking
inboxes_of nodes = map (λ node. node.inbox) nodes

abbrev pub posts_of : List NodeLinks → List (List Sending)
posts_of nodes = map (λ node. node.posts.items) nodes

-- each of the first list as it is after it got the one at its place in the second
abbrev pub onto : {X Y : Type 0} → (X → Y → X) → List X → List Y → List X
onto f xs [] = xs
onto f [] (y ∷ ys) = []
onto f (x ∷ xs) (y ∷ ys) = f x y ∷ onto f xs ys

-- and after they got those of all rows, of one row after the other
abbrev pub onto_all : {X Y : Type 0} → (X → Y → X) → List X → List (List Y) → List X
onto_all f xs [] = xs
onto_all f xs (row ∷ rows) = onto_all f (onto f xs row) rows

abbrev pub with_last : List Sending → Sending → List Sending
with_last posts post = posts ++ post ∷ []

abbrev pub with_found : {X : Type 0} → Option X → List X → List X
with_found None xs = xs
with_found (Some x) xs = x ∷ xs

-- what stands at this place of each row, in the order of the rows
abbrev pub column : {X : Type 0} → ℕ → List (List X) → List X
column place [] = []
column place (row ∷ rows) = with_found (slice_get row place) (column place rows)
