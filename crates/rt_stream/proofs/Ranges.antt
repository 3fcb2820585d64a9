-- How a range of a page's messages lies behind other messages.
use Rattle.std.proofs.Common.{◌≡◌, ℕ, zero, suc, ◌+◌, ◌-◌, ◌<◌, ◌≤◌, List, [], ◌∷◌, ◌++◌, length, take, drop, get_or, refl, sym, ap, ◌∙◌, arith, length-drop, subst}
use Rattle.std.proofs.lemmas.List.{take-append-le, drop-append-le, drop-drop, drop-take, take-take}
use Rattle.std.proofs.Math.Seq.{drop-append_seam}
use Rattle.rt_stream.specs.Pages.{cut, shifted, AreEnds}
use Rattle.rt_stream.proofs.Cuts.{ends_within, length_cut}

-- the first messages
AreEnds-take : (start : ℕ) (ends : List ℕ) (size n : ℕ) → AreEnds start ends size → n ≤ length ends
    → AreEnds start (take n ends) (get_or (start ∷ ends) n 0)
AreEnds-take start ends size zero h le = refl
AreEnds-take start [] size (suc n) h le = absurd (omega (arith, le))
AreEnds-take start (end ∷ ends) size (suc n) h le =
    (h.0, h.1, AreEnds-take end ends size n h.2 (omega (arith, le)))

-- the messages from a place on
AreEnds-drop : (start : ℕ) (ends : List ℕ) (size n : ℕ) → AreEnds start ends size → n ≤ length ends
    → AreEnds (get_or (start ∷ ends) n 0) (drop n ends) size
AreEnds-drop start ends size zero h le = h
AreEnds-drop start [] size (suc n) h le = absurd (omega (arith, le))
AreEnds-drop start (end ∷ ends) size (suc n) h le =
    AreEnds-drop end ends size n h.2 (omega (arith, le))

-- and those between two places
pub AreEnds-range : (start : ℕ) (ends : List ℕ) (size from to : ℕ) → AreEnds start ends size
    → from ≤ to → to ≤ length ends
    → AreEnds (get_or (start ∷ ends) from 0)
    (take (to - from) (drop from ends))
    (get_or (start ∷ ends) to 0)
AreEnds-range start ends size zero to h order le = let all : to - zero ≡ to = omega arith in
    rw all (AreEnds-take start ends size to h le)
AreEnds-range start ends size (suc from) zero h order le = absurd (omega (arith, order))
AreEnds-range start [] size (suc from) (suc to) h order le = absurd (omega (arith, le))
AreEnds-range start (end ∷ ends) size (suc from) (suc to) h order le =
    let same : suc to - suc from ≡ to - from = omega arith in
    rw same (AreEnds-range end ends size from to h.2 (omega (arith, order)) (omega (arith, le)))

-- where they begin and end
pub range_within : (ends : List ℕ) (size from to : ℕ) → AreEnds 0 ends size → from ≤ to
    → to ≤ length ends
    → (get_or (0 ∷ ends) from 0 ≤ get_or (0 ∷ ends) to 0) × (get_or (0 ∷ ends) to 0 ≤ size)
range_within ends size from to h order le = (
  ends_within _ _ _ (AreEnds-range 0 ends size from to h order le),
  ends_within _ _ _ (AreEnds-drop 0 ends size to h le),
)

-- a place of a page is one of its ends
pub place_within : (ends bytes : List ℕ) (page : List (List ℕ)) (to : ℕ) → cut 0 ends bytes ≡ page
    → to ≤ length page → to ≤ length ends
place_within ends bytes page to view le =
    omega (arith, le, length_cut 0 ends bytes, ap (λ m. length m) view)

-- where the messages between two places of a page begin and end
pub span_within : (ends bytes : List ℕ) (page : List (List ℕ)) (from to start end : ℕ)
    → AreEnds 0 ends (length bytes) → cut 0 ends bytes ≡ page → from ≤ to → to ≤ length page
    → start ≡ get_or (0 ∷ ends) from 0 → end ≡ get_or (0 ∷ ends) to 0
    → (start ≤ end) × (end ≤ length bytes)
span_within ends bytes page from to start end h view order le begins ends_at =
    rw (begins, ends_at) (range_within ends (length bytes) from to h order
    (place_within ends bytes page to view le))

-- each end lies between the first start and the last end
pub end_within : (start : ℕ) (ends : List ℕ) (size place d : ℕ) → AreEnds start ends size
    → place < length ends
    → (start ≤ get_or ends place d) × (get_or ends place d ≤ size)
end_within start [] size place d h within = absurd (omega (arith, within))
end_within start (end ∷ ends) size zero d h within = (h.0, ends_within end ends size h.2)
end_within start (end ∷ ends) size (suc place) d h within =
    let rest = end_within end ends size place d h.2 (omega (arith, within)) in
    (omega (arith, h.0, rest.0), rest.1)

AreEnds-append : (start : ℕ) (ends : List ℕ) (mid : ℕ) (more : List ℕ) (size : ℕ)
    → AreEnds start ends mid → AreEnds mid more size
    → AreEnds start (ends ++ more) size
AreEnds-append start [] mid more size h g = rw h g
AreEnds-append start (end ∷ ends) mid more size h g =
    (h.0, h.1, AreEnds-append end ends mid more size h.2 g)

AreEnds-shift : (first base start : ℕ) (ends : List ℕ) (size : ℕ) → first ≤ start
    → AreEnds start ends size
    → AreEnds ((start - first) + base) (shifted first base ends) ((size - first) + base)
AreEnds-shift first base start [] size le h = ap (λ n. (n - first) + base) h
AreEnds-shift first base start (end ∷ ends) size le h = (
  omega (arith, h.0),
  omega (arith, h.1),
  AreEnds-shift first base end ends size (omega (arith, h.0)) h.2,
)

-- the ends of the messages between two places, put behind others
pub AreEnds-more : (ends : List ℕ) (base : ℕ) (others : List ℕ) (size from to : ℕ) → AreEnds 0 ends base
    → AreEnds 0 others size → from ≤ to → to ≤ length others
    → AreEnds 0
    (ends ++ shifted (get_or (0 ∷ others) from 0) base (take (to - from) (drop from others)))
    (base + (get_or (0 ∷ others) to 0 - get_or (0 ∷ others) from 0))
AreEnds-more ends base others size from to h g order le =
    let first = get_or (0 ∷ others) from 0 in
    let last = get_or (0 ∷ others) to 0 in
    let range = take (to - from) (drop from others) in
    let begins : (first - first) + base ≡ base = omega arith in
    let finish : (last - first) + base ≡ base + (last - first) = omega arith in
    let there : AreEnds ((first - first) + base) (shifted first base range) ((last - first) + base) =
    AreEnds-shift first base first range last (omega arith)
    (AreEnds-range 0 others size from to g order le) in
    AreEnds-append 0 ends base (shifted first base range) (base + (last - first)) h
    (subst (λ n. AreEnds n (shifted first base range) (base + (last - first))) begins
    (subst (λ n. AreEnds ((first - first) + base) (shifted first base range) n) finish there))

cut-take : (start : ℕ) (ends bytes : List ℕ) (n : ℕ)
    → take n (cut start ends bytes) ≡ cut start (take n ends) bytes
cut-take start ends bytes zero = refl
cut-take start [] bytes (suc n) = refl
cut-take start (end ∷ ends) bytes (suc n) =
    ap (λ m. take (end - start) (drop start bytes) ∷ m) (cut-take end ends bytes n)

cut-drop : (start : ℕ) (ends bytes : List ℕ) (n : ℕ)
    → drop n (cut start ends bytes) ≡ cut (get_or (start ∷ ends) n 0) (drop n ends) bytes
cut-drop start ends bytes zero = refl
cut-drop start [] bytes (suc n) = refl
cut-drop start (end ∷ ends) bytes (suc n) = cut-drop end ends bytes n

-- messages behind others are cut out after them
cut-append : (start : ℕ) (ends more bytes tail : List ℕ) → AreEnds start ends (length bytes)
    → cut start (ends ++ more) (bytes ++ tail)
    ≡ cut start ends bytes ++ cut (length bytes) more (bytes ++ tail)
cut-append start [] more bytes tail h = ap (λ s. cut s more (bytes ++ tail)) h
cut-append start (end ∷ ends) more bytes tail h =
    let within : end ≤ length bytes = ends_within end ends (length bytes) h.2 in
    let front : drop start (bytes ++ tail) ≡ drop start bytes ++ tail =
    drop-append-le start bytes tail (omega (arith, h.0)) in
    let piece : take (end - start) (drop start bytes ++ tail)
    ≡ take (end - start) (drop start bytes) =
    take-append-le (end - start) (drop start bytes) tail
    (omega (arith, length-drop start bytes)) in
    let rest = cut-append end ends more bytes tail h.2 in
    rw (front, piece, rest) refl

-- the bytes of a message whose page stands from a place on behind other bytes
piece_shifted : (first start end size : ℕ) (bytes page : List ℕ) → first ≤ start → start ≤ end
    → end ≤ size
    → take (((end - first) + length bytes) - ((start - first) + length bytes))
    (drop ((start - first) + length bytes) (bytes ++ take (size - first) (drop first page)))
    ≡ take (end - start) (drop start page)
piece_shifted first start end size bytes page le order within =
    let rest = drop first page in
    let tail = take (size - first) rest in
    let count : ((end - first) + length bytes) - ((start - first) + length bytes) ≡ end - start =
    omega arith in
    let place : (start - first) + length bytes ≡ length bytes + (start - first) = omega arith in
    let behind : drop (length bytes + (start - first)) (bytes ++ tail) ≡ drop (start - first) tail =
    sym (drop-drop (start - first) (length bytes) (bytes ++ tail))
    ∙ ap (λ m. drop (start - first) m) (drop-append_seam bytes tail) in
    let split : size - first ≡ (start - first) + (size - start) = omega arith in
    let inner : drop (start - first) tail ≡ take (size - start) (drop (start - first) rest) =
    ap (λ n. drop (start - first) (take n rest)) split
    ∙ drop-take (start - first) (size - start) rest in
    let back : first + (start - first) ≡ start = omega arith in
    let there : drop (start - first) rest ≡ drop start page =
    drop-drop (start - first) first page ∙ ap (λ n. drop n page) back in
    ap (λ n. take n (drop ((start - first) + length bytes) (bytes ++ tail))) count
    ∙ ap (λ n. take (end - start) (drop n (bytes ++ tail))) place
    ∙ ap (λ m. take (end - start) m) (behind ∙ inner)
    ∙ ap (λ m. take (end - start) (take (size - start) m)) there
    ∙ take-take (end - start) (size - start) (drop start page) (omega arith)

cut-shift : (first start : ℕ) (ends : List ℕ) (size : ℕ) (bytes page : List ℕ) → first ≤ start
    → AreEnds start ends size
    → cut ((start - first) + length bytes)
    (shifted first (length bytes) ends)
    (bytes ++ take (size - first) (drop first page))
    ≡ cut start ends page
cut-shift first start [] size bytes page le h = refl
cut-shift first start (end ∷ ends) size bytes page le h =
    let within : end ≤ size = ends_within end ends size h.2 in
    rw (
      piece_shifted first start end size bytes page le h.0 within,
      cut-shift first end ends size bytes page (omega (arith, h.0)) h.2,
    ) refl

-- the messages between two places, put behind others, are cut out after them
pub cut-range : (ends bytes others page : List ℕ) (from to : ℕ) → AreEnds 0 ends (length bytes)
    → AreEnds 0 others (length page) → from ≤ to → to ≤ length others
    → cut 0
    (ends ++ shifted (get_or (0 ∷ others) from 0)
    (length bytes)
    (take (to - from) (drop from others)))
    (bytes ++ take (get_or (0 ∷ others) to 0 - get_or (0 ∷ others) from 0)
    (drop (get_or (0 ∷ others) from 0) page))
    ≡ cut 0 ends bytes ++ take (to - from) (drop from (cut 0 others page))
cut-range ends bytes others page from to h g order le =
    let first = get_or (0 ∷ others) from 0 in
    let last = get_or (0 ∷ others) to 0 in
    let range = take (to - from) (drop from others) in
    let tail = take (last - first) (drop first page) in
    let begins : (first - first) + length bytes ≡ length bytes = omega arith in
    let moved : cut ((first - first) + length bytes) (shifted first (length bytes) range) (bytes ++ tail)
    ≡ cut first range page =
    cut-shift first first range last bytes page (omega arith)
    (AreEnds-range 0 others (length page) from to g order le) in
    let range_cut : take (to - from) (drop from (cut 0 others page)) ≡ cut first range page =
    ap (λ m. take (to - from) m) (cut-drop 0 others page from)
    ∙ cut-take first (drop from others) page (to - from) in
    cut-append 0 ends (shifted first (length bytes) range) bytes tail h
    ∙ ap (λ m. cut 0 ends bytes ++ m)
    (ap (λ n. cut n (shifted first (length bytes) range) (bytes ++ tail)) (sym begins) ∙ moved
    ∙ sym range_cut)
