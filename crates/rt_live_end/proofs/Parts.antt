-- The parts of the nodes, one after the other; and what the broker was told of what each server gave.
use Rattle.std.proofs.Common.{◌≡◌, ◌<◌, ◌⊎◌, ℕ, inl, inr, List, [], ◌∷◌, ◌++◌, length, Option, Some, None, refl, sym, ap, ◌∙◌, subst, slice_get}
use Rattle.rt_broker.specs.IsAskedBy.{GivesMore}
use Rattle.rt_broker.specs.declared.piece_given.PieceGiven.{PieceGiven}
use Rattle.rt_front.specs.Histories.{Known}
use Rattle.rt_ground.specs.Histories.{whats}
use Rattle.rt_ground.proofs.Entries.{pushed_cases}
use Rattle.rt_lists.specs.Members.{Has, IsFront}
use Rattle.rt_lists.proofs.Members.{Has-front}
use Rattle.rt_live_names.specs.BrokerPart.{given_by, given_in}
use Rattle.rt_live_names.specs.ControllerPart.{ControllerPart, IsControllerPart}
use Rattle.rt_live_names.specs.Names.{Names}
use Rattle.rt_live_names.specs.ServerPart.{IsServerPart, ServerPart}
use Rattle.rt_live_end.specs.Ended.{AreControllerParts, AreServerParts, gave_by, gave_in}

parts_more : {A : Type 0} (number : A → ℕ) (P : A → Type 0) (parts : List A) (a : A) → ((k : ℕ) (b : A) → slice_get parts k ≡ Some b → (number b ≡ k) × P b)
    → number a ≡ length parts → P a → (k : ℕ) (b : A) → slice_get (parts ++ a ∷ []) k ≡ Some b → (number b ≡ k) × P b
parts_more {A} number P parts a each is part k b at = by_place (pushed_cases parts a k b at)
  where
    by_place : ((slice_get parts k ≡ Some b) × (k < length parts)) ⊎ ((k ≡ length parts) × (a ≡ b)) → (number b ≡ k) × P b
    by_place (inl earlier) = each k b earlier.0
    by_place (inr last) = (ap number (sym last.1) ∙ is ∙ sym last.0, subst P last.1 part)

pub servers_more : (n : Names) (servers : List ServerPart) (a : ServerPart) → AreServerParts n servers → a.number ≡ length servers → IsServerPart n a
    → AreServerParts n (servers ++ a ∷ [])
servers_more n servers a each is part = parts_more (λ (b : ServerPart). b.number) (IsServerPart n) servers a each is part

pub controllers_more : (n : Names) (controllers : List ControllerPart) (a : ControllerPart) → AreControllerParts n controllers → a.number ≡ length controllers
    → IsControllerPart n a → AreControllerParts n (controllers ++ a ∷ [])
controllers_more n controllers a each is part = parts_more (λ (b : ControllerPart). b.number) (IsControllerPart n) controllers a each is part

-- ---- what was given

pub gave_more : (fed : List (Known PieceGiven)) (servers : List ServerPart)
    → ((k : ℕ) (f : Known PieceGiven) → slice_get fed k ≡ Some f → (a : ServerPart) × (slice_get servers k ≡ Some a) × IsFront (whats f.seen) a.given)
    → GivesMore (given_by fed) (gave_by servers)
gave_more fed servers each k g has = by_front (slice_get fed k) (each k) has
  where
    by_front : (o : Option (Known PieceGiven))
        → ((f : Known PieceGiven) → o ≡ Some f → (a : ServerPart) × (slice_get servers k ≡ Some a) × IsFront (whats f.seen) a.given)
        → Has (given_in o) g → Has (gave_by servers k) g
    by_front None there none = absurd none
    by_front (Some f) there in_it =
        let a = there f refl in
        subst (λ (o : Option ServerPart). Has (gave_in o) g) (sym a.1) (Has-front (whats f.seen) a.0.given g a.2 in_it)
