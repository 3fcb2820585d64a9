use Rattle.std.proofs.Common.{◌≡◌, ℕ, ◌+◌, ◌<◌, ◌≤◌, Bool, true, false, List, [], ◌∷◌, length, take, drop, map, refl, ap, arith, add-one}
use Rattle.std.specs.Prelude.{◌==◌, if◌then◌else◌}
use Rattle.std.specs.Str.Lines.{strip_carriage_return}
use Rattle.std.proofs.lemmas.List.{length-map}
use Rattle.rt_lines.specs.Lines.{parts_of, with_front, length_of_line, lines_of, numbered, is_skipped}

-- the parts of a text that isn't empty: its first line, and the parts behind that line's newline
abbrev IsCut : List ℕ → ℕ → List (List ℕ) → Type 0
IsCut bs n parts = parts ≡ take n bs ∷ parts_of (drop 1 (drop n bs))

cut_one : (test : Bool) (b : ℕ) → IsCut (b ∷ []) (if test then 0 else 1) (if test then [] ∷ [] else (b ∷ []) ∷ [])
cut_one true b = refl
cut_one false b = refl

cut_more : (test : Bool) (b : ℕ) (bs : List ℕ) (n : ℕ) → IsCut bs n (parts_of bs) → IsCut (b ∷ bs) (if test then 0 else n + 1) (if test then [] ∷ parts_of bs else with_front b (parts_of bs))
cut_more true b bs n rest = refl
cut_more false b bs n rest = rw (add-one, rest) refl

parts_cut : (b : ℕ) (bs : List ℕ) → IsCut (b ∷ bs) (length_of_line (b ∷ bs)) (parts_of (b ∷ bs))
parts_cut b [] = cut_one (b == 10) b
parts_cut b (c ∷ cs) = cut_more (b == 10) b (c ∷ cs) (length_of_line (c ∷ cs)) (parts_cut c cs)

pub lines_of_first : (bs : List ℕ) → 0 < length bs → lines_of bs ≡ strip_carriage_return (take (length_of_line bs) bs) ∷ lines_of (drop 1 (drop (length_of_line bs) bs))
lines_of_first [] h = absurd (omega arith)
lines_of_first (b ∷ bs) h = ap (map strip_carriage_return) (parts_cut b bs)

few_fronts : (test : Bool) (b : ℕ) (bs : List ℕ) (parts : List (List ℕ)) → length parts ≤ length bs → length (if test then [] ∷ parts else with_front b parts) ≤ length bs + 1
few_fronts true b bs parts h = omega arith
few_fronts false b bs [] h = omega arith
few_fronts false b bs (line ∷ lines) h = omega arith

few_parts : (bs : List ℕ) → length (parts_of bs) ≤ length bs
few_parts [] = omega arith
few_parts (b ∷ bs) = omega (arith, few_fronts (b == 10) b bs (parts_of bs) (few_parts bs))

few_more : (test : Bool) (line : ℕ × List ℕ) (lines : List (ℕ × List ℕ)) (n : ℕ) → length lines ≤ n → length (if test then lines else line ∷ lines) ≤ n + 1
few_more true line lines n h = omega arith
few_more false line lines n h = omega arith

few_numbered : (lines : List (List ℕ)) (number : ℕ) → length (numbered number lines) ≤ length lines
few_numbered [] number = omega arith
few_numbered (line ∷ lines) number = omega (arith, few_more (is_skipped line) (number, line) (numbered (number + 1) lines) (length lines) (few_numbered lines (number + 1)))

-- a text has at most as many lines as bytes
pub few_lines : (number : ℕ) (rest : List ℕ) → length (numbered number (lines_of rest)) ≤ length rest
few_lines number rest = omega (arith, few_numbered (lines_of rest) number, length-map (parts_of rest) strip_carriage_return, few_parts rest)
