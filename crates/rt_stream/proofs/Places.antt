-- Where the messages of a log lie in its pages.
use Rattle.std.proofs.Common.{
  ◌≡◌,
  ℕ,
  zero,
  suc,
  ◌+◌,
  ◌-◌,
  ◌*◌,
  ◌/◌,
  ◌%◌,
  ◌<◌,
  ◌≤◌,
  List,
  [],
  ◌∷◌,
  ◌++◌,
  length,
  Some,
  None,
  slice_get,
  refl,
  sym,
  ap,
  ◌∙◌,
  arith,
  length-append,
  append-nil,
  append_assoc,
  take,
  drop,
  length-drop,
}
use Rattle.std.specs.List.{flat_map}
use Rattle.std.proofs.lemmas.List.{take_all, take-take, take-append-le, drop-append-le, drop-drop}
use Rattle.std.proofs.Math.Seq.{drop-append_seam, take-add}
use Rattle.rt_stream.specs.Pages.{AreFull}

abbrev Messages : Type 0
Messages = List (List ℕ)

drop_right : (xs ys : Messages) (i : ℕ) → drop (length xs + i) (xs ++ ys) ≡ drop i ys
drop_right xs ys i = sym (drop-drop i (length xs) (xs ++ ys))
    ∙ ap (λ m. drop i m) (drop-append_seam xs ys)

-- nothing stands past the end
get_none : (pages : List Messages) (i : ℕ) → slice_get pages i ≡ None → length pages ≤ i
get_none [] i h = omega arith
get_none (page ∷ pages) zero h = cc
get_none (page ∷ pages) (suc i) h = omega (arith, get_none pages i h)

pub length-pages : (pages : List Messages) → AreFull pages → length (flat_map (λ page. page) pages)
    ≡ 256 * length pages
length-pages [] h = omega arith
length-pages (page ∷ pages) h = omega (
  arith,
  length-append page (flat_map (λ page. page) pages),
  h.0,
  length-pages pages h.1,
)

pub AreFull-push : (pages : List Messages) (page : Messages) → AreFull pages → length page ≡ 256
    → AreFull (pages ++ page ∷ [])
AreFull-push [] page h e = (e, tt)
AreFull-push (first ∷ pages) page h e = (h.0, AreFull-push pages page h.1 e)

pub AreFull-get : (pages : List Messages) (i : ℕ) (page : Messages) → AreFull pages
    → slice_get pages i ≡ Some page → length page ≡ 256
AreFull-get [] i page h e = cc
AreFull-get (first ∷ pages) zero page h e = let same : first ≡ page = cc in rw (← same) h.0
AreFull-get (first ∷ pages) (suc i) page h e = AreFull-get pages i page h.1 e

-- from a place in a full page on
rest_full : (pages : List Messages) (last : Messages) (i j : ℕ) (page : Messages) → AreFull pages
    → slice_get pages i ≡ Some page → j < 256
    → drop j page
    ≡ take (256 - j) (drop (256 * i + j) (flat_map (λ page. page) pages ++ last))
rest_full [] last i j page h e within = cc
rest_full (first ∷ pages) last zero j page h e within =
    let same : first ≡ page = cc in
    let here : 256 * zero + j ≡ j = omega arith in
    let size : length first ≡ 256 = h.0 in
    let rest = flat_map (λ page. page) pages ++ last in
    let split : drop j (first ++ rest) ≡ drop j first ++ rest =
    drop-append-le j first rest (omega arith) in
    let left : length (drop j first) ≡ 256 - j = omega (arith, length-drop j first) in
    let front : take (256 - j) (drop j first ++ rest) ≡ drop j first =
    take-append-le (256 - j) (drop j first) rest (omega (arith, left))
    ∙ take_all (256 - j) (drop j first) (omega (arith, left)) in
    rw (here, append_assoc first (flat_map (λ page. page) pages) last, split, front)
    (ap (λ m. drop j m) (sym same))
rest_full (first ∷ pages) last (suc i) j page h e within =
    let size : length first ≡ 256 = h.0 in
    let there : 256 * suc i + j ≡ length first + (256 * i + j) = omega arith in
    let rest = flat_map (λ page. page) pages in
    rw (there, append_assoc first rest last, drop_right first (rest ++ last) (256 * i + j))
    (rest_full pages last i j page h.1 e within)

-- from a place in the last page on
rest_last : (pages : List Messages) (last : Messages) (j : ℕ) → AreFull pages
    → drop j last
    ≡ take (length last - j)
    (drop (256 * length pages + j) (flat_map (λ page. page) pages ++ last))
rest_last pages last j h =
    rw (← length-pages pages h, drop_right (flat_map (λ page. page) pages) last j)
    (sym (take_all (length last - j) (drop j last) (omega (arith, length-drop j last))))

-- from an offset of a full page on
pub full_rest : (pages : List Messages) (last : Messages) (offset : ℕ) (page : Messages)
    → AreFull pages → slice_get pages (offset / 256) ≡ Some page
    → (offset % 256 < length page) × (drop (offset % 256) page
    ≡ take (length page - offset % 256)
    (drop offset (flat_map (λ page. page) pages ++ last)))
full_rest pages last offset page h e =
    let size : length page ≡ 256 = AreFull-get pages (offset / 256) page h e in
    let parts : 256 * (offset / 256) + offset % 256 ≡ offset = omega arith in
    let within : offset % 256 < 256 = omega arith in
    let all = flat_map (λ page. page) pages ++ last in (
      omega arith,
      rest_full pages last (offset / 256) (offset % 256) page h e within
          ∙ ap (λ k. take (256 - offset % 256) (drop k all)) parts
          ∙ ap (λ n. take (n - offset % 256) (drop offset all)) (sym size),
    )

-- from an offset past the full pages on
pub last_rest : (pages : List Messages) (last : Messages) (offset : ℕ) → AreFull pages
    → length last ≤ 256 → slice_get pages (offset / 256) ≡ None
    → offset < length (flat_map (λ page. page) pages ++ last)
    → (offset % 256 < length last) × (drop (offset % 256) last
    ≡ take (length last - offset % 256)
    (drop offset (flat_map (λ page. page) pages ++ last)))
last_rest pages last offset h size e within =
    let past = get_none pages (offset / 256) e in
    let all = length-append (flat_map (λ page. page) pages) last in
    let full = length-pages pages h in
    let parts : 256 * length pages + offset % 256 ≡ offset = omega arith in (
      omega arith,
      rest_last pages last (offset % 256) h
          ∙ ap (λ k. take (length last - offset % 256)
          (drop k (flat_map (λ page. page) pages ++ last))) parts,
    )

get_drop : (xs : Messages) (i : ℕ) → slice_get (drop i xs) 0 ≡ slice_get xs i
get_drop xs zero = refl
get_drop [] (suc i) = refl
get_drop (x ∷ xs) (suc i) = get_drop xs i

get_take : (xs : Messages) (n : ℕ) → 0 < n → slice_get (take n xs) 0 ≡ slice_get xs 0
get_take xs zero h = absurd (omega (arith, h))
get_take [] (suc n) h = refl
get_take (x ∷ xs) (suc n) h = refl

-- the first message from there on
pub get_rest : (xs page : Messages) (offset place : ℕ) → place < length page
    → drop place page ≡ take (length page - place) (drop offset xs)
    → slice_get xs offset ≡ slice_get page place
get_rest xs page offset place within rest = sym (get_drop xs offset)
    ∙ sym (get_take (drop offset xs) (length page - place) (omega arith))
    ∙ ap (λ m. slice_get m 0) (sym rest) ∙ get_drop page place

-- a slice goes on with the messages of a page from there on
pub slice_more : (xs page : Messages) (from offset place count : ℕ) → from ≤ offset
    → drop place page ≡ take (length page - place) (drop offset xs)
    → place + count ≤ length page
    → take ((offset + count) - from) (drop from xs)
    ≡ take (offset - from) (drop from xs) ++ take ((place + count) - place) (drop place page)
slice_more xs page from offset place count order rest within =
    let parts : (offset + count) - from ≡ (offset - from) + count = omega arith in
    let number : (place + count) - place ≡ count = omega arith in
    let there : drop (offset - from) (drop from xs) ≡ drop offset xs =
    drop-drop (offset - from) from xs
    ∙ ap (λ k. drop k xs) (let e : from + (offset - from) ≡ offset = omega arith in e) in
    let next : take count (drop place page) ≡ take count (drop offset xs) =
    ap (λ m. take count m) rest
    ∙ take-take count (length page - place) (drop offset xs) (omega arith) in
    rw (parts, number, next) (take-add (offset - from) count (drop from xs)
    ∙ ap (λ m. take (offset - from) (drop from xs) ++ take count m) there)
