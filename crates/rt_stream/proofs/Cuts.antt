-- How the messages of a page lie in its bytes.
use Rattle.std.proofs.Common.{
  ◌≡◌,
  ℕ,
  zero,
  suc,
  ◌+◌,
  ◌-◌,
  ◌<◌,
  ◌≤◌,
  List,
  [],
  ◌∷◌,
  ◌++◌,
  length,
  take,
  drop,
  get_or,
  Some,
  slice_get,
  refl,
  ap,
  ◌∙◌,
  arith,
  length-drop,
}
use Rattle.std.proofs.lemmas.List.{take-append-le, drop-append-le, take_all}
use Rattle.std.proofs.Math.Seq.{drop-append_seam}
use Rattle.rt_stream.specs.Pages.{cut, AreEnds}

pub length_cut : (start : ℕ) (ends bytes : List ℕ) → length (cut start ends bytes) ≡ length ends
length_cut start [] bytes = refl
length_cut start (end ∷ ends) bytes = ap suc (length_cut end ends bytes)

-- no message begins behind the last byte
pub ends_within : (start : ℕ) (ends : List ℕ) (size : ℕ) → AreEnds start ends size → start ≤ size
ends_within start [] size h = omega (arith, h)
ends_within start (end ∷ ends) size h = omega (arith, h.0, ends_within end ends size h.2)

-- a message more ends where the bytes end
pub AreEnds-push : (start : ℕ) (ends : List ℕ) (size more : ℕ) → AreEnds start ends size
    → more ≤ 65536
    → AreEnds start (ends ++ (size + more) ∷ []) (size + more)
AreEnds-push start [] size more h short = (omega (arith, h), omega (arith, h), refl)
AreEnds-push start (end ∷ ends) size more h short =
    (h.0, h.1, AreEnds-push end ends size more h.2 short)

-- and is cut out after the others
pub cut-push : (start : ℕ) (ends bytes message : List ℕ) → AreEnds start ends (length bytes)
    → cut start (ends ++ (length bytes + length message) ∷ []) (bytes ++ message)
    ≡ cut start ends bytes ++ message ∷ []
cut-push start [] bytes message h =
    let here : drop start (bytes ++ message) ≡ message =
    ap (λ s. drop s (bytes ++ message)) h ∙ drop-append_seam bytes message in
    let whole : take ((length bytes + length message) - start) message ≡ message =
    take_all _ message (omega (arith, h)) in
    rw (here, whole) refl
cut-push start (end ∷ ends) bytes message h =
    let within : end ≤ length bytes = ends_within end ends (length bytes) h.2 in
    let front : drop start (bytes ++ message) ≡ drop start bytes ++ message =
    drop-append-le start bytes message (omega (arith, h.0)) in
    let piece : take (end - start) (drop start bytes ++ message)
    ≡ take (end - start) (drop start bytes) =
    take-append-le (end - start) (drop start bytes) message
    (omega (arith, length-drop start bytes)) in
    let rest = cut-push end ends bytes message h.2 in
    rw (front, piece, rest) refl

-- a message lies between the end of the one before it and its own end
pub cut-get : (start : ℕ) (ends bytes : List ℕ) (place : ℕ) → place < length ends
    → slice_get (cut start ends bytes) place ≡ Some
    (take (get_or ends place 0 - get_or (start ∷ ends) place 0)
    (drop (get_or (start ∷ ends) place 0) bytes))
cut-get start [] bytes place h = absurd (omega (arith, h))
cut-get start (end ∷ ends) bytes zero h = refl
cut-get start (end ∷ ends) bytes (suc place) h = cut-get end ends bytes place (omega (arith, h))

-- and those places are in order, not too far from one another, and within the bytes
pub AreEnds-get : (start : ℕ) (ends : List ℕ) (size place : ℕ) → AreEnds start ends size
    → place < length ends
    → (get_or (start ∷ ends) place 0 ≤ get_or ends place 0)
    × (get_or ends place 0 ≤ get_or (start ∷ ends) place 0 + 65536)
    × (get_or ends place 0 ≤ size)
AreEnds-get start [] size place h within = absurd (omega (arith, within))
AreEnds-get start (end ∷ ends) size zero h within = (h.0, h.1, ends_within end ends size h.2)
AreEnds-get start (end ∷ ends) size (suc place) h within =
    AreEnds-get end ends size place h.2 (omega (arith, within))
