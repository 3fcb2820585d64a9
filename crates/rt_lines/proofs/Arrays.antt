use Rattle.std.proofs.Common.{◌≡◌, ℕ, suc, ◌+◌, ◌<◌, List, [], ◌∷◌, ◌++◌, length, take, get_or, map, refl, ap, sym, ◌∙◌, arith, append_assoc}
use Rattle.std.specs.List.{join_with_byte}
use Rattle.std.proofs.lemmas.Bool.Decides.{nat_tests}
use Rattle.std.proofs.lemmas.List.{map_more, length-map, length-take-le}
use Rattle.rt_lines.specs.Answer.{comma_before}

comma_after : (n : ℕ) → comma_before (suc n) ≡ 44 ∷ []
comma_after n = grind (arith, nat_tests)

-- pieces with commas between them, and one more at the end
joined_more : (pieces : List (List ℕ)) (piece : List ℕ) → join_with_byte 44 (pieces ++ piece ∷ []) ≡ join_with_byte 44 pieces ++ (comma_before (length pieces) ++ piece)
joined_more [] piece = refl
joined_more (x ∷ []) piece = refl
joined_more (x ∷ y ∷ more) piece = rw (joined_more (y ∷ more) piece, comma_after (length more), comma_after (suc (length more))) (sym (append_assoc x (44 ∷ join_with_byte 44 (y ∷ more)) _))

pub written_more : {X : Type 0} (f : X → List ℕ) (xs : List X) (i : ℕ) (d x : X) (start now mid after : List ℕ) → i < length xs → x ≡ get_or xs i d →
    now ≡ start ++ join_with_byte 44 (map f (take i xs)) → mid ≡ now ++ comma_before i → after ≡ mid ++ f x → after ≡ start ++ join_with_byte 44 (map f (take (i + 1) xs))
written_more f xs i d x start now mid after h is so comma item =
    let count : length (map f (take i xs)) ≡ i = length-map (take i xs) f ∙ length-take-le i xs (omega arith) in
    let more : map f (take (i + 1) xs) ≡ map f (take i xs) ++ f x ∷ [] = map_more f xs i d h ∙ ap (λ y. map f (take i xs) ++ f y ∷ []) (sym is) in
    let joined : join_with_byte 44 (map f (take i xs) ++ f x ∷ []) ≡ join_with_byte 44 (map f (take i xs)) ++ (comma_before i ++ f x) =
    joined_more (map f (take i xs)) (f x) ∙ ap (λ n. join_with_byte 44 (map f (take i xs)) ++ (comma_before n ++ f x)) count in
    rw (item, comma, so, more, joined) (simp append_assoc)

-- three fields and what follows them
pub three_fields : (s s1 s2 s3 s4 a b c d : List ℕ) → s1 ≡ s ++ a → s2 ≡ s1 ++ b → s3 ≡ s2 ++ c → s4 ≡ s3 ++ d → s4 ≡ s ++ (a ++ (b ++ (c ++ d)))
three_fields s s1 s2 s3 s4 a b c d e1 e2 e3 e4 = rw (e4, e3, e2, e1) (simp append_assoc)

pub two_parts : (s s1 s2 a b : List ℕ) → s1 ≡ s ++ a → s2 ≡ s1 ++ b → s2 ≡ s ++ (a ++ b)
two_parts s s1 s2 a b e1 e2 = rw (e2, e1) (append_assoc s a b)
