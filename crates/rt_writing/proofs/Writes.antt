use Rattle.std.proofs.Common.{◌≡◌, ℕ, ◌+◌, List, ◌++◌, take, drop, Option, Some, None, refl, ap, sym, ◌∙◌, append_assoc, take-add}
use Rattle.rt_base.specs.Sink.{added}

pub added_more : (start : Option (List ℕ)) (a b : List ℕ) → added (added start a) b ≡ added start (a ++ b)
added_more None a b = refl
added_more (Some bytes) a b = ap Some (append_assoc bytes a b)

take_further : (piece : List ℕ) (done count : ℕ) → take (done + count) piece ≡ take done piece ++ take count (drop done piece)
take_further piece done count = take-add done count piece

-- a piece of which so much was written, and then more
pub put_more : (start now new : Option (List ℕ)) (piece : List ℕ) (done count : ℕ) → now ≡ added start (take done piece) →
    new ≡ added now (take count (drop done piece)) → new ≡ added start (take (done + count) piece)
put_more start now new piece done count so then_so =
    then_so ∙ ap (λ x. added x (take count (drop done piece))) so ∙ added_more start _ _ ∙ ap (added start) (sym (take_further piece done count))
