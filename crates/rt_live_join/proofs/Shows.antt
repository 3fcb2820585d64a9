-- What the journals of the controllers show is what these did.
use Rattle.std.proofs.Common.{◌≡◌, ℕ, suc, Bool, true, false, List, [], ◌∷◌, length, map, Option, Some, refl, sym}
use Rattle.std.proofs.Common.{ap, ◌∙◌, subst, arith, slice_get}
use Rattle.std.specs.Prelude.{IfSome}
use Rattle.std.proofs.lemmas.Option.{same_Some}
use Rattle.rt_live_controller.specs.Did.{lines_of}
use Rattle.rt_live_names.specs.Names.{Names}
use Rattle.rt_live_output.specs.declared.journal.Heard.{Heard}
use Rattle.rt_live_join.specs.Joined.{IsHeard}
use Rattle.rt_live_join.specs.Left.{AreEach, ControllerLeft, IsControllerLeft, IsShown}

abbrev rest_of : {X : Type 0} → List X → List X
rest_of [] = []
rest_of (x ∷ xs) = xs

abbrev ShowsIt : ControllerLeft → Type 0
ShowsIt c = IfSome c.heard (λ lines. lines ≡ lines_of c.acts.did)

shows : (heard : List (List Heard)) (controllers : List ControllerLeft)
    → map Some heard ≡ map (λ (c : ControllerLeft). c.heard) controllers
    → ((k : ℕ) (c : ControllerLeft) → slice_get controllers k ≡ Some c → ShowsIt c)
    → heard ≡ map (λ (c : ControllerLeft). lines_of c.acts.did) controllers
shows [] [] same each = refl
shows [] (c ∷ controllers) same each = absurd (omega (arith, ap length same))
shows (lines ∷ heard) [] same each = absurd (omega (arith, ap length same))
shows (lines ∷ heard) (c ∷ controllers) same each =
    let first : Some lines ≡ c.heard =
    same_Some (Some lines) c.heard (ap (λ (l : List (Option (List Heard))). slice_get l 0) same) in
    let is : lines ≡ lines_of c.acts.did =
    subst (λ (o : Option (List Heard)). IfSome o (λ (l : List Heard). l ≡ lines_of c.acts.did)) (sym first)
    (each 0 c refl) in
    let further = shows heard controllers (ap rest_of same) (λ k d at. each (suc k) d at) in
    ap (λ (l : List Heard). l ∷ heard) is ∙ ap (λ (ls : List (List Heard)). lines_of c.acts.did ∷ ls) further

pub heard_shown : (n : Names) (journal : Bool) (controllers : List ControllerLeft) (kept : List (Option (List Heard)))
    (heard : List (List Heard)) → AreEach (IsControllerLeft n) controllers
    → kept ≡ map (λ (c : ControllerLeft). c.heard) controllers → IsShown journal kept heard
    → IsHeard journal controllers heard
heard_shown n true controllers kept heard each are shown =
    shows heard controllers (shown ∙ are) (λ k c at. (each k c at).ended.heard)
heard_shown n false controllers kept heard each are shown = shown
