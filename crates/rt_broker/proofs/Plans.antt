-- The pieces of a plan, by their places and by their segments.
use Rattle.std.proofs.Common.{◌≡◌, ℕ, zero, suc, ◌+◌, ◌<◌, ◌==◌, Bool, true, false, List, [], ◌∷◌, length, map, Some, None, refl, sym, ap, subst, ◌∙◌, arith, slice_get, slice_set, if◌then◌else◌}
use Rattle.rt_base.specs.declared.numbers.Sequence.{Sequence}
use Rattle.rt_model.specs.declared.piece.Piece.{Piece}
use Rattle.rt_broker.specs.declared.piece_asked.PieceAnswer.{PieceAnswer}
use Rattle.rt_broker.specs.declared.piece_asked.PieceAsked.{PieceAsked}
use Rattle.rt_broker.specs.Asking.{unasked, place_from, asked_for, answered, with_answer}

pub pieces_of_unasked : (ps : List Piece) → ps ≡ map (λ x. x.piece) (map unasked ps)
pieces_of_unasked [] = refl
pieces_of_unasked (p ∷ ps) = ap (λ qs. p ∷ qs) (pieces_of_unasked ps)

-- the place that was found, and what stands there
record Placed (n : ℕ) (s : Sequence) (xs : List PieceAsked) (i : ℕ) : Type 0 where
  place : ℕ
  counted : i ≡ n + place
  within : place < length xs
  there : slice_get xs place ≡ asked_for s xs
  noted : (answer : PieceAnswer) (y : PieceAsked) → slice_get xs place ≡ Some y
      → slice_set xs place (answered y answer) ≡ with_answer s answer xs

placed : (n : ℕ) (s : Sequence) (xs : List PieceAsked) (i : ℕ) → place_from n s xs ≡ Some i → Placed n s xs i
placed n s [] i e = absurd (cc)
placed n s (x ∷ xs) i e = by_test (x.piece.sequence.0 == s.0) refl e (placed (n + 1) s xs i)
  where
    by_test :
        (b : Bool) → (x.piece.sequence.0 == s.0) ≡ b → (if b then Some n else place_from (n + 1) s xs) ≡ Some i
        → (place_from (n + 1) s xs ≡ Some i → Placed (n + 1) s xs i) → Placed n s (x ∷ xs) i
    by_test true t f further =
        let same : n ≡ i = cc in
        record {
          place = 0;
          counted = omega (arith, same);
          within = omega arith;
          there = ap (λ c. if c then Some x else asked_for s xs) (sym t);
          noted = λ answer y g.
              let here : x ≡ y = cc in
              ap (λ z. answered z answer ∷ xs) (sym here)
              ∙ ap (λ c. if c then answered x answer ∷ xs else x ∷ with_answer s answer xs) (sym t);
        }
    by_test false t f further =
        let rest = further f in
        record {
          place = suc rest.place;
          counted = omega (arith, rest.counted);
          within = omega (arith, rest.within);
          there = rest.there ∙ ap (λ c. if c then Some x else asked_for s xs) (sym t);
          noted = λ answer y g.
              ap (λ zs. x ∷ zs) (rest.noted answer y g)
              ∙ ap (λ c. if c then answered x answer ∷ xs else x ∷ with_answer s answer xs) (sym t);
        }

pub asked_at : (s : Sequence) (xs : List PieceAsked) (i : ℕ) → place_from 0 s xs ≡ Some i → slice_get xs i ≡ asked_for s xs
asked_at s xs i e =
    let p = placed 0 s xs i e in
    let same : p.place ≡ i = omega (arith, p.counted) in
    subst (λ k. slice_get xs k ≡ asked_for s xs) same p.there

pub asked_nowhere : (n : ℕ) (s : Sequence) (xs : List PieceAsked) → place_from n s xs ≡ None → asked_for s xs ≡ None
asked_nowhere n s [] e = refl
asked_nowhere n s (x ∷ xs) e = by_test (x.piece.sequence.0 == s.0) e (asked_nowhere (n + 1) s xs)
  where
    by_test :
        (b : Bool) → (if b then Some n else place_from (n + 1) s xs) ≡ None → (place_from (n + 1) s xs ≡ None → asked_for s xs ≡ None)
        → (if b then Some x else asked_for s xs) ≡ None
    by_test true f further = absurd (cc)
    by_test false f further = further f

-- an answer is noted at the place of its piece
pub answer_at :
    (s : Sequence) (answer : PieceAnswer) (xs : List PieceAsked) (i : ℕ) (y : PieceAsked) → place_from 0 s xs ≡ Some i
    → slice_get xs i ≡ Some y → slice_set xs i (answered y answer) ≡ with_answer s answer xs
answer_at s answer xs i y e at =
    let p = placed 0 s xs i e in
    let same : p.place ≡ i = omega (arith, p.counted) in
    subst (λ k. slice_get xs k ≡ Some y → slice_set xs k (answered y answer) ≡ with_answer s answer xs) same (p.noted answer y) at

-- a place is within the plan
pub place_within : (s : Sequence) (xs : List PieceAsked) (i : ℕ) → place_from 0 s xs ≡ Some i → i < length xs
place_within s xs i e =
    let p = placed 0 s xs i e in
    omega (arith, p.counted, p.within)

pub answer_nowhere :
    (s : Sequence) (answer : PieceAnswer) (xs : List PieceAsked) → asked_for s xs ≡ None → with_answer s answer xs ≡ xs
answer_nowhere s answer [] e = refl
answer_nowhere s answer (x ∷ xs) e = by_test (x.piece.sequence.0 == s.0) e (answer_nowhere s answer xs)
  where
    by_test :
        (b : Bool) → (if b then Some x else asked_for s xs) ≡ None → (asked_for s xs ≡ None → with_answer s answer xs ≡ xs)
        → (if b then answered x answer ∷ xs else x ∷ with_answer s answer xs) ≡ x ∷ xs
    by_test true f further = absurd (cc)
    by_test false f further = ap (λ zs. x ∷ zs) (further f)

pub answer_missing :
    (n : ℕ) (s : Sequence) (answer : PieceAnswer) (xs : List PieceAsked) → place_from n s xs ≡ None → with_answer s answer xs ≡ xs
answer_missing n s answer xs e = answer_nowhere s answer xs (asked_nowhere n s xs e)

pub pieces_stay :
    (s : Sequence) (answer : PieceAnswer) (xs : List PieceAsked)
    → map (λ x. x.piece) (with_answer s answer xs) ≡ map (λ x. x.piece) xs
pieces_stay s answer [] = refl
pieces_stay s answer (x ∷ xs) = by_test (x.piece.sequence.0 == s.0) (pieces_stay s answer xs)
  where
    by_test :
        (b : Bool) → map (λ z. z.piece) (with_answer s answer xs) ≡ map (λ z. z.piece) xs → map (λ z. z.piece) (if b then answered x answer ∷ xs else x ∷ with_answer s answer xs) ≡ map (λ z. z.piece) (x ∷ xs)
    by_test true rest = refl
    by_test false rest = ap (λ ps. x.piece ∷ ps) rest

-- a piece keeps its place, whatever came of it
pub pieces_set :
    (xs : List PieceAsked) (i : ℕ) (y : PieceAsked) (answers : List PieceAnswer) → slice_get xs i ≡ Some y
    → map (λ x. x.piece) (slice_set xs i (record { piece = y.piece; answers = answers })) ≡ map (λ x. x.piece) xs
pieces_set [] i y answers e = refl
pieces_set (x ∷ xs) zero y answers e = let same : x ≡ y = cc in ap (λ z. z.piece ∷ map (λ w. w.piece) xs) (sym same)
pieces_set (x ∷ xs) (suc i) y answers e = ap (λ ps. x.piece ∷ ps) (pieces_set xs i y answers e)
