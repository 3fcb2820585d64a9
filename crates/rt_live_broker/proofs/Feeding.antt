-- What the fronts of the servers' histories show, as one of them shows more.
use Rattle.std.proofs.Common.{◌≡◌, ℕ, zero, suc, ◌⊎◌, inl, inr, List, [], ◌∷◌, Option, Some, refl, sym, ap, subst, ◌∙◌, slice_get, slice_set}
use Rattle.rt_broker.specs.IsAskedBy.{GivesMore}
use Rattle.rt_broker.specs.declared.piece_given.PieceGiven.{PieceGiven}
use Rattle.rt_broker.proofs.Lasting.{got_of_set}
use Rattle.rt_front.specs.Histories.{Known}
use Rattle.rt_ground.specs.Histories.{whats}
use Rattle.rt_lists.specs.Members.{Has, IsFront}
use Rattle.rt_lists.proofs.Members.{Has-front}
use Rattle.rt_live_broker.specs.Feeds.{AreFeeds}
use Rattle.rt_live_names.specs.BrokerPart.{given_by, given_in}
use Rattle.rt_live_names.specs.Names.{Names}

given_set : (fed : List (Known PieceGiven)) (i j : ℕ) (before after : Known PieceGiven) → slice_get fed i ≡ Some before → IsFront (whats before.seen) (whats after.seen)
    → (g : PieceGiven) → Has (given_in (slice_get fed j)) g → Has (given_in (slice_get (slice_set fed i after) j)) g
given_set [] i j before after at more g has = has
given_set (x ∷ xs) zero zero before after at more g has =
    let same : x ≡ before = cc in
    Has-front (whats before.seen) (whats after.seen) g more (subst (λ (k : Known PieceGiven). Has (whats k.seen) g) same has)
given_set (x ∷ xs) zero (suc j) before after at more g has = has
given_set (x ∷ xs) (suc i) zero before after at more g has = has
given_set (x ∷ xs) (suc i) (suc j) before after at more g has = given_set xs i j before after at more g has

pub gives_more : (fed : List (Known PieceGiven)) (i : ℕ) (before after : Known PieceGiven) → slice_get fed i ≡ Some before → IsFront (whats before.seen) (whats after.seen)
    → GivesMore (given_by fed) (given_by (slice_set fed i after))
gives_more fed i before after at more = λ j g has. given_set fed i j before after at more g has

set_at : (fed : List (Known PieceGiven)) (i : ℕ) (before after : Known PieceGiven) → slice_get fed i ≡ Some before → slice_get (slice_set fed i after) i ≡ Some after
set_at [] i before after at = absurd (cc)
set_at (x ∷ xs) zero before after at = refl
set_at (x ∷ xs) (suc i) before after at = set_at xs i before after at

pub gave : (fed : List (Known PieceGiven)) (i : ℕ) (before after : Known PieceGiven) (g : PieceGiven) → slice_get fed i ≡ Some before → Has (whats after.seen) g
    → Has (given_by (slice_set fed i after) i) g
gave fed i before after g at has = subst (λ (o : Option (Known PieceGiven)). Has (given_in o) g) (sym (set_at fed i before after at)) has

pub feeds_set : (n : Names) (fed : List (Known PieceGiven)) (i : ℕ) (before after : Known PieceGiven) → AreFeeds n fed → slice_get fed i ≡ Some before
    → after.chronicle ≡ before.chronicle → AreFeeds n (slice_set fed i after)
feeds_set n fed i before after feeds at same = λ j front there. by_place j front (got_of_set fed i j after front there)
  where
    by_place : (j : ℕ) (front : Known PieceGiven) → ((j ≡ i) × (front ≡ after)) ⊎ (slice_get fed j ≡ Some front) → front.chronicle ≡ n.asked j
    by_place j front (inl here) =
        ap (λ (k : Known PieceGiven). k.chronicle) here.1 ∙ same ∙ feeds i before at ∙ ap (λ (k : ℕ). n.asked k) (sym here.0)
    by_place j front (inr there) = feeds j front there
