-- The broker's fronts beside the histories of the servers.
use Rattle.std.proofs.Common.{◌≡◌, ℕ, zero, suc, List, [], ◌∷◌, Some, refl, sym, ◌∙◌, subst, slice_get}
use Rattle.std.proofs.lemmas.Option.{none-some, same_Some}
use Rattle.atomic_table.specs.Seated.{TableId}
use Rattle.rt_broker.specs.declared.piece_given.PieceGiven.{PieceGiven}
use Rattle.rt_front.specs.Histories.{History, Known}
use Rattle.rt_lists.specs.Members.{IsFront}
use Rattle.rt_live_join.specs.Feeding.{AreOfOneHistory, WereGiven}

-- histories and fronts of the same names
pub one_by : (names : ℕ → TableId) (pieces : List (History PieceGiven)) (feeds : List (Known PieceGiven))
    → ((k : ℕ) (p : History PieceGiven) → slice_get pieces k ≡ Some p → p.chronicle ≡ names k)
    → ((k : ℕ) (f : Known PieceGiven) → slice_get feeds k ≡ Some f → f.chronicle ≡ names k)
    → AreOfOneHistory pieces feeds
one_by names pieces [] of_pieces of_feeds = tt
one_by names [] (f ∷ fs) of_pieces of_feeds = tt
one_by names (p ∷ ps) (f ∷ fs) of_pieces of_feeds = (
  of_feeds 0 f refl ∙ sym (of_pieces 0 p refl),
  one_by (λ k. names (suc k)) ps fs (λ k. of_pieces (suc k)) (λ k. of_feeds (suc k)),
)

-- what the front at a place showed was given
pub given_at : (pieces : List (History PieceGiven)) (feeds : List (Known PieceGiven)) → WereGiven pieces feeds
    → (k : ℕ) (f : Known PieceGiven) → slice_get feeds k ≡ Some f
    → (p : History PieceGiven) × (slice_get pieces k ≡ Some p) × IsFront f.seen p.log
given_at pieces [] given k f at = absurd (none-some f at)
given_at [] (g ∷ gs) given k f at = absurd given
given_at (p ∷ ps) (g ∷ gs) given zero f at =
    (p, refl, subst (λ (x : Known PieceGiven). IsFront x.seen p.log) (same_Some g f at) given.0)
given_at (p ∷ ps) (g ∷ gs) given (suc k) f at = given_at ps gs given.1 k f at
