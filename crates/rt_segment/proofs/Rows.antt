-- Values and postings, one after another.
use Rattle.std.proofs.Common.{◌≡◌, ℕ, ◌+◌, ◌^◌, ◌<◌, ◌≤◌, List, [], ◌∷◌, ◌++◌, Option, Some, None, length, get_or, slice_get, take, drop, Result, Ok, Err, refl, sym, ap, ◌∙◌, subst, arith}
use Rattle.std.specs.Prelude.{IfSome}
use Rattle.std.specs.List.{All, flat_map}
use Rattle.std.proofs.lemmas.List.{take_all, take_more, drop_more, drop_all, flat_map_more}
use Rattle.std.proofs.lemmas.List.Elements.{All-more}
use Rattle.std.proofs.lemmas.List.Concat.{flat_map-append}
use Rattle.std.proofs.lemmas.List.FromFn.{length-map-range_with_len, get_or-map-range_with_len}
use Rattle.std.proofs.lemmas.Option.{slice_get_within, get_or_from_slice_get}
use Rattle.rt_postings.specs.Postings.{postings_of, rows_of}
use Rattle.rt_segment.specs.declared.segment_refused.SegmentRefused.{SegmentRefused}
use Rattle.rt_segment.specs.Cursor.{Cursor, Read, ◌>>=◌, Refuses}
use Rattle.rt_segment.specs.Reading.{this_number, numbers_at}
use Rattle.rt_segment.proofs.Loops.{refused}

pub fits_more : {X : Type 0} (P : X → Type 0) (xs : List X) (i : ℕ) (x : X) → slice_get xs i ≡ Some x → All P (take i xs) → P x → All P (take (i + 1) xs)
fits_more P xs i x at all p = All-more P xs i x (slice_get_within xs i x at) all (subst P (sym (get_or_from_slice_get xs i x x at)) p)

pub fits_all : {X : Type 0} (P : X → Type 0) (xs : List X) (i : ℕ) → length xs ≤ i → All P (take i xs) → All P xs
fits_all P xs i le all = subst (All P) (take_all i xs le) all

-- one item more is written
pub written_more : {X : Type 0} (f : X → List ℕ) (front out new : List ℕ) (xs : List X) (i : ℕ) (x : X) → slice_get xs i ≡ Some x → out ≡ front ++ flat_map f (take i xs) → new ≡ out ++ f x → new ≡ front ++ flat_map f (take (i + 1) xs)
written_more f front out new xs i x at so_far one =
    let taken : take (i + 1) xs ≡ take i xs ++ x ∷ [] = take_more xs i x (slice_get_within xs i x at) ∙ ap (λ y. take i xs ++ y ∷ []) (get_or_from_slice_get xs i x x at) in
    one ∙ ap (λ o. o ++ f x) so_far ∙ flat_map_more f front (take i xs) x ∙ ap (λ ys. front ++ flat_map f ys) (sym taken)

-- lists of lists, written one after another
pub nested : {X Y : Type 0} (f : Y → List ℕ) (g : X → List Y) (xs : List X) → flat_map f (flat_map g xs) ≡ flat_map (λ x. flat_map f (g x)) xs
nested f g [] = refl
nested f g (x ∷ xs) = flat_map-append f (g x) (flat_map g xs) ∙ ap (λ t. flat_map f (g x) ++ t) (nested f g xs)

-- ---- postings

pub length_postings : (ids : List ℕ) (n : ℕ) → length (postings_of ids n) ≡ n
length_postings ids n = length-map-range_with_len (rows_of ids) 0 n

abbrev some_of : {X : Type 0} → X → Option X
some_of x = Some x

some_same : {X : Type 0} (x y : X) → some_of x ≡ some_of y → x ≡ y
some_same x y e = cc

pub docs_at : (ids : List ℕ) (n id : ℕ) (rows : List ℕ) → id < n → slice_get (postings_of ids n) id ≡ Some rows → rows ≡ rows_of ids id
docs_at ids n id rows lt at =
    sym (get_or_from_slice_get (postings_of ids n) id rows rows at) ∙ get_or-map-range_with_len (rows_of ids) 0 n id id rows lt (omega arith)

-- a row's rows are no more than all
pub postings_few : (ids : List ℕ) (n : ℕ) (lists : List (List ℕ)) → ((id : ℕ) → length (rows_of ids id) ≤ length ids) → length ids < 2 ^ 32 → lists ≡ postings_of ids n → All (λ rows. length rows < 2 ^ 32) lists
postings_few ids n lists few small e k d l =
    let there : k < n = omega (arith, l, ap length e, length_postings ids n) in
    let at : get_or lists k d ≡ rows_of ids k = ap (λ ls. get_or ls k d) e ∙ get_or-map-range_with_len (rows_of ids) 0 n k k d there (omega arith) in
    subst (λ rows. length rows < 2 ^ 32) (sym at) (omega (arith, few k, small))

-- what an option has, where it has something
pub at_some : {X : Type 0} (o : Option X) (x y : X) → o ≡ Some x → IfSome o (λ z. z ≡ y) → x ≡ y
at_some None x y e h = absurd cc
at_some (Some z) x y e h = some_same x z (sym e) ∙ h

-- ---- numbers that are wanted

abbrev pub numbered : List ℕ → List ℕ
numbered rows = length rows ∷ rows

bind_then : {A B C : Type 0} (r : Result A SegmentRefused) (f : A → Result C SegmentRefused) (g : A → Result B SegmentRefused) (h : B → Result C SegmentRefused) → ((x : A) → f x ≡ (g x >>= h)) → (r >>= f) ≡ ((r >>= g) >>= h)
bind_then (Ok x) f g h e = e x
bind_then (Err e) f g h told = refl

pub numbers_then : (xs ys : List ℕ) (c : Cursor) → numbers_at (xs ++ ys) c ≡ (numbers_at xs c >>= λ x. numbers_at ys x.1)
unfolding numbers_at
numbers_then [] ys c = refl
numbers_then (x ∷ xs) ys c = bind_then (this_number x c) (λ this. numbers_at (xs ++ ys) this.1) (λ this. numbers_at xs this.1) (λ x. numbers_at ys x.1) (λ this. numbers_then xs ys this.1)

module _ (rows : List ℕ) (i : ℕ) (c : Cursor) (all : Read (Unit {0})) where
  pub row_taken : (d : Cursor) → i < length rows → this_number (get_or rows i 0) c ≡ Ok (tt, d) → numbers_at (drop i rows) c ≡ all → numbers_at (drop (i + 1) rows) d ≡ all
  unfolding numbers_at
  row_taken d lt h so_far =
      let one : numbers_at (drop i rows) c ≡ numbers_at (drop (i + 1) rows) d = ap (λ ns. numbers_at ns c) (drop_more rows i 0 lt) ∙ rw h refl in
      sym one ∙ so_far

  pub row_refused : (e : SegmentRefused) → i < length rows → Refuses e (this_number (get_or rows i 0) c) → numbers_at (drop i rows) c ≡ all → Refuses e all
  unfolding numbers_at
  row_refused e lt h so_far = refused e (this_number (get_or rows i 0) c) all h (λ f told.
      let one : numbers_at (drop i rows) c ≡ Err f = ap (λ ns. numbers_at ns c) (drop_more rows i 0 lt) ∙ rw told refl in
      sym so_far ∙ one)

  pub rows_done : length rows ≤ i → numbers_at (drop i rows) c ≡ all → all ≡ Ok (tt, c)
  unfolding numbers_at
  rows_done le so_far = sym so_far ∙ ap (λ ns. numbers_at ns c) (drop_all i rows le)

module _ (lists : List (List ℕ)) (i : ℕ) (rows : List ℕ) (at : slice_get lists i ≡ Some rows) (c : Cursor) (all : Read (Unit {0})) (so_far : numbers_at (flat_map numbered (drop i lists)) c ≡ all) where
  here : numbers_at (flat_map numbered (drop i lists)) c ≡ (numbers_at (numbered rows) c >>= λ x. numbers_at (flat_map numbered (drop (i + 1) lists)) x.1)
  here = let first : drop i lists ≡ rows ∷ drop (i + 1) lists = drop_more lists i rows (slice_get_within lists i rows at) ∙ ap (λ x. x ∷ drop (i + 1) lists) (get_or_from_slice_get lists i rows rows at) in
      ap (λ ls. numbers_at (flat_map numbered ls) c) first ∙ numbers_then (numbered rows) (flat_map numbered (drop (i + 1) lists)) c

  pub docs_taken : (d : Cursor) → numbers_at (numbered rows) c ≡ Ok (tt, d) → numbers_at (flat_map numbered (drop (i + 1) lists)) d ≡ all
  docs_taken d h = sym (ap (λ r. r >>= λ x. numbers_at (flat_map numbered (drop (i + 1) lists)) x.1) h) ∙ sym here ∙ so_far

  pub docs_refused : (e : SegmentRefused) → Refuses e (numbers_at (numbered rows) c) → Refuses e all
  docs_refused e h = refused e (numbers_at (numbered rows) c) all h (λ f told.
      sym so_far ∙ here ∙ ap (λ r. r >>= λ x. numbers_at (flat_map numbered (drop (i + 1) lists)) x.1) told)

pub docs_done : (lists : List (List ℕ)) (i : ℕ) (c : Cursor) (all : Read (Unit {0})) → length lists ≤ i → numbers_at (flat_map numbered (drop i lists)) c ≡ all → all ≡ Ok (tt, c)
unfolding numbers_at
docs_done lists i c all le so_far = sym so_far ∙ ap (λ ls. numbers_at (flat_map numbered ls) c) (drop_all i lists le)
