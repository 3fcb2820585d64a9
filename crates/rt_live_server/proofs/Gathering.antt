-- What a list of things gives, with one thing more.
use Rattle.std.proofs.Common.{◌≡◌, ◌∙◌, List, [], ◌∷◌, ◌++◌, append-nil, append_assoc, ap, sym}
use Rattle.rt_lists.specs.Members.{IsFront}
use Rattle.rt_live_server.specs.Did.{gathered}

module _ {D X : Type 0} where
  pub gathered_more : (f : D → List X) (ds : List D) (d : D) → gathered f (ds ++ d ∷ []) ≡ gathered f ds ++ f d
  gathered_more f [] d = append-nil (f d)
  gathered_more f (x ∷ xs) d = ap (λ (ys : List X). f x ++ ys) (gathered_more f xs d) ∙ sym (append_assoc (f x) (gathered f xs) (f d))

  module _ (f : D → List X) (old new : List D) (d : D) (more : new ≡ old ++ d ∷ []) where
    pub gathered_then : gathered f new ≡ gathered f old ++ f d
    gathered_then = ap (λ (ds : List D). gathered f ds) more ∙ gathered_more f old d

    pub gathered_none : f d ≡ [] → gathered f new ≡ gathered f old
    gathered_none none = gathered_then ∙ ap (λ (xs : List X). gathered f old ++ xs) none ∙ append-nil (gathered f old)

    pub gathered_front : IsFront (gathered f old) (gathered f new)
    gathered_front = (f d, gathered_then)
