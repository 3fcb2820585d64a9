-- How often a post accepts an envelope.
use Rattle.std.proofs.Common.{◌≡◌, ℕ, zero, suc, ◌+◌, ◌≤◌, ◌⊎◌, inl, inr, List, [], ◌∷◌, ◌++◌, Option, Some, None, ap, refl, sym, subst, ◌∙◌, arith, append_assoc}
use Rattle.std.specs.Prelude.{replicate, slice_get, slice_set}
use Rattle.std.proofs.lemmas.List.{append-nil, replicate-append-replicate}
use Rattle.rt_link.specs.Ends.{Sending}
use Rattle.rt_link.specs.declared.envelope.Envelope.{Envelope}
use Rattle.rt_broker.proofs.Lasting.{got_of_set}
use Rattle.rt_lists.specs.Members.{Has}
use Rattle.rt_lists.proofs.Members.{Has-append_cases, Has-append_left, Has-push}
use Rattle.rt_live_names.specs.Names.{Names}
use Rattle.rt_live_names.specs.Sending.{Accepts, ArePosts, PostedAt, PostsNow, Sends, accepting, times}

-- an envelope that is lost
pub accepts_none : (old new : Sending) (most : ℕ) (e : Envelope) → new ≡ old → Accepts old new most e
accepts_none old new most e same =
    (0, omega arith, same ∙ ap (λ (xs : List Envelope). record old { accepted = xs }) (sym (append-nil old.accepted)))

-- an envelope that is accepted
pub accepts_one : (old new : Sending) (e : Envelope) → new ≡ record old { accepted = old.accepted ++ e ∷ [] } → Accepts old new 1 e
accepts_one old new e more = (1, omega arith, more)

-- an envelope and a copy of it
pub accepts_both : (a b c : Sending) (e : Envelope) → Accepts a b 1 e → Accepts b c 1 e → Accepts a c 2 e
accepts_both a b c e first second =
    let few : first.0 ≤ 1 = first.1 in
    let little : second.0 ≤ 1 = second.1 in
    let joined : (a.accepted ++ replicate first.0 e) ++ replicate second.0 e ≡ a.accepted ++ replicate (first.0 + second.0) e =
    append_assoc a.accepted (replicate first.0 e) (replicate second.0 e)
    ∙ ap (λ (xs : List Envelope). a.accepted ++ xs) (replicate-append-replicate first.0 second.0 e) in (
      first.0 + second.0,
      omega (arith, few, little),
      second.2 ∙ ap (λ (p : Sending). accepting p second.0 e) first.2 ∙ ap (λ (xs : List Envelope). record a { accepted = xs }) joined,
    )

-- a post was found
pub posted_some : (old new : List Sending) (to most : ℕ) (e : Envelope) (before after : Sending) → slice_get old to ≡ Some before → Accepts before after most e → new ≡ slice_set old to after
    → PostedAt old new to most e (slice_get old to)
posted_some old new to most e before after at accepts is =
    let found : PostedAt old new to most e (Some before) = (after, accepts, is) in
    subst (λ (o : Option Sending). PostedAt old new to most e o) (sym at) found

-- no post was found
pub posted_none : (old new : List Sending) (to most : ℕ) (e : Envelope) → slice_get old to ≡ None → new ≡ old → PostedAt old new to most e (slice_get old to)
posted_none old new to most e at same =
    let found : PostedAt old new to most e None = same in
    subst (λ (o : Option Sending). PostedAt old new to most e o) (sym at) found

-- ---- all posts of a node

of_copies : (m : ℕ) (e x : Envelope) → Has (replicate m e) x → e ≡ x
of_copies zero e x h = absurd h
of_copies (suc m) e x (inl same) = same
of_copies (suc m) e x (inr h) = of_copies m e x h

with_copies : (sent : List Envelope) (accepted : List Envelope) (m : ℕ) (e x : Envelope) → (Has accepted x → Has sent x) → Has accepted x ⊎ Has (replicate m e) x → Has (sent ++ e ∷ []) x
with_copies sent accepted m e x all (inl h) = Has-append_left sent (e ∷ []) x (all h)
with_copies sent accepted m e x all (inr h) = subst (λ (y : Envelope). Has (sent ++ e ∷ []) y) (of_copies m e x h) (Has-push sent e)

module _ (n : Names) (from : ℕ) (line : ℕ → ℕ) where
  abbrev Named : ℕ → Sending → Type 0
  Named k p = (p.line ≡ n.lines (line k)) × (p.from ≡ from)

  named_in : (old : List Sending) (to k m : ℕ) (e : Envelope) (post after p : Sending) → Named to post → after ≡ accepting post m e → ((k ≡ to) × (p ≡ after)) ⊎ (slice_get old k ≡ Some p)
      → (slice_get old k ≡ Some p → Named k p) → Named k p
  named_in old to k m e post after p there is (inl at) others =
      let same : p ≡ accepting post m e = at.1 ∙ is in (
        ap (λ (x : Sending). x.line) same ∙ there.0 ∙ ap (λ (i : ℕ). n.lines (line i)) (sym at.0),
        ap (λ (x : Sending). x.from) same ∙ there.1,
      )
  named_in old to k m e post after p there is (inr at) others = others at

  accepted_in : (sent : List Envelope) (old : List Sending) (to k m : ℕ) (e x : Envelope) (post after p : Sending) → (Has post.accepted x → Has sent x) → after ≡ accepting post m e
      → ((k ≡ to) × (p ≡ after)) ⊎ (slice_get old k ≡ Some p) → (slice_get old k ≡ Some p → Has p.accepted x → Has sent x) → Has p.accepted x → Has (sent ++ e ∷ []) x
  accepted_in sent old to k m e x post after p there is (inl at) others h =
      with_copies sent post.accepted m e x there
      (Has-append_cases post.accepted (replicate m e) x (subst (λ (y : Sending). Has y.accepted x) (at.1 ∙ is) h))
  accepted_in sent old to k m e x post after p there is (inr at) others h = Has-append_left sent (e ∷ []) x (others at h)

  posted_keeps : (sent : List Envelope) (old new : List Sending) (to most : ℕ) (e : Envelope) (o : Option Sending) → slice_get old to ≡ o → PostedAt old new to most e o
      → ArePosts n from line sent old → ArePosts n from line (sent ++ e ∷ []) new
  posted_keeps sent old new to most e None at same are = record {
    named = λ k p found. are.named k p (subst (λ (ps : List Sending). slice_get ps k ≡ Some p) same found);
    accepted = λ k p x found h. Has-append_left sent (e ∷ []) x (are.accepted k p x (subst (λ (ps : List Sending). slice_get ps k ≡ Some p) same found) h);
  }
  posted_keeps sent old new to most e (Some post) at (after, accepts, is) are =
      let found_in : (k : ℕ) (p : Sending) → slice_get new k ≡ Some p → ((k ≡ to) × (p ≡ after)) ⊎ (slice_get old k ≡ Some p) =
      λ k p found. got_of_set old to k after p (subst (λ (ps : List Sending). slice_get ps k ≡ Some p) is found) in
      record {
        named = λ k p found. named_in old to k accepts.0 e post after p (are.named to post at) accepts.2 (found_in k p found) (are.named k p);
        accepted = λ k p x found h.
            accepted_in sent old to k accepts.0 e x post after p (are.accepted to post x at) accepts.2 (found_in k p found) (are.accepted k p x) h;
      }

  pub sends_keeps : (sent : List Envelope) (old new : PostsNow) (to : ℕ) (e : Envelope) → ArePosts n from line sent old.posts → Sends old new to e
      → ArePosts n from line (sent ++ e ∷ []) new.posts
  sends_keeps sent old new to e are h =
      posted_keeps sent old.posts new.posts to (times old.drop old.repeat (old.made + 1)) e (slice_get old.posts to) refl h.posted are

  pub posts_more : (sent more : List Envelope) (posts : List Sending) → ((e : Envelope) → Has sent e → Has more e) → ArePosts n from line sent posts → ArePosts n from line more posts
  posts_more sent more posts all are = record { named = are.named; accepted = λ k p e found h. all e (are.accepted k p e found h) }
