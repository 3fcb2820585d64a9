-- A JSON text tells of which bytes it was written.
use Rattle.std.proofs.Common.{◌≡◌, ◌<◌, ℕ, ◌+◌, ◌-◌, ◌*◌, ◌/◌, ◌%◌, Bool, true, false, cond, eqb, ltb, List, [], ◌∷◌, ◌++◌, flat_map, refl, sym, ◌∙◌, ap, subst, arith, append_assoc}
use Rattle.std.specs.Prelude.{codes}
use Rattle.std.specs.Fmt.{digit_glyph}
use Rattle.std.proofs.lemmas.Bool.{eqb-true, le-ltb, lt-ltb, ltb-true}
use Rattle.rt_lines.specs.Answer.{control_text, escaped, json_text}
use Rattle.rt_play.proofs.ToldNumbers.{heads, tails}

-- ---- a byte is read back

-- a byte, and what stands behind it
abbrev Read : Type 0
Read = ℕ × List ℕ

abbrev nibble : ℕ → ℕ
nibble g = cond (ltb g 58) (g - 48) (g - 87)

abbrev control : List ℕ → Read
control (a ∷ b ∷ h ∷ l ∷ rest) = (nibble h * 16 + nibble l, rest)
control other = (0, [])

abbrev escape : List ℕ → Read
escape [] = (0, [])
escape (c ∷ cs) =
    cond (eqb c 34) (34, cs)
    (cond (eqb c 92) (92, cs)
    (cond (eqb c 98) (8, cs)
    (cond (eqb c 116) (9, cs) (cond (eqb c 110) (10, cs) (cond (eqb c 102) (12, cs) (cond (eqb c 114) (13, cs) (control cs)))))))

abbrev read_byte : List ℕ → Read
read_byte [] = (0, [])
read_byte (c ∷ cs) = cond (eqb c 92) (escape cs) (c, cs)

-- how a byte is escaped, by what it is
abbrev shape : (quote backslash back tab line feed carriage low : Bool) → ℕ → List ℕ
shape quote backslash back tab line feed carriage low b =
    cond quote (codes "\\\"")
    (cond backslash (codes "\\\\")
    (cond back (codes "\\b")
    (cond tab (codes "\\t")
    (cond line (codes "\\n") (cond feed (codes "\\f") (cond carriage (codes "\\r") (cond low (control_text b) (b ∷ []))))))))

nibble_glyph : (d : ℕ) → d < 16 → nibble (digit_glyph false d) ≡ d
nibble_glyph d small = by_test (ltb d 10) refl
  where
    by_test : (b : Bool) → ltb d 10 ≡ b → nibble (cond b (48 + d) (87 + d)) ≡ d
    by_test true e =
        let low = ltb-true d 10 e in
        ap (λ (b : Bool). cond b ((48 + d) - 48) ((48 + d) - 87)) (lt-ltb (48 + d) 58 (omega (arith, low))) ∙ omega arith
    by_test false e = ap (λ (b : Bool). cond b ((87 + d) - 48) ((87 + d) - 87)) (le-ltb (87 + d) 58 (omega arith)) ∙ omega arith

shape_read : (quote backslash back tab line feed carriage low : Bool) (b : ℕ) (xs : List ℕ) → eqb b 34 ≡ quote → eqb b 92 ≡ backslash → eqb b 8 ≡ back
    → eqb b 9 ≡ tab → eqb b 10 ≡ line → eqb b 12 ≡ feed → eqb b 13 ≡ carriage → ltb b 32 ≡ low
    → read_byte (shape quote backslash back tab line feed carriage low b ++ xs) ≡ (b, xs)
shape_read true backslash back tab line feed carriage low b xs is h i j k l m n = let pair : ℕ → Read = λ x. (x, xs) in ap pair (sym (eqb-true b 34 is))
shape_read false true back tab line feed carriage low b xs h is i j k l m n = let pair : ℕ → Read = λ x. (x, xs) in ap pair (sym (eqb-true b 92 is))
shape_read false false true tab line feed carriage low b xs h i is j k l m n = let pair : ℕ → Read = λ x. (x, xs) in ap pair (sym (eqb-true b 8 is))
shape_read false false false true line feed carriage low b xs h i j is k l m n = let pair : ℕ → Read = λ x. (x, xs) in ap pair (sym (eqb-true b 9 is))
shape_read false false false false true feed carriage low b xs h i j k is l m n = let pair : ℕ → Read = λ x. (x, xs) in ap pair (sym (eqb-true b 10 is))
shape_read false false false false false true carriage low b xs h i j k l is m n = let pair : ℕ → Read = λ x. (x, xs) in ap pair (sym (eqb-true b 12 is))
shape_read false false false false false false true low b xs h i j k l m is n = let pair : ℕ → Read = λ x. (x, xs) in ap pair (sym (eqb-true b 13 is))
shape_read false false false false false false false true b xs h i j k l m n is =
    let pair : ℕ → Read = λ x. (x, xs) in
    let small = ltb-true b 32 is in
    ap pair
    (ap (λ x. x * 16 + nibble (digit_glyph false (b % 16))) (nibble_glyph (b / 16) (omega (arith, small)))
    ∙ ap (λ y. b / 16 * 16 + y) (nibble_glyph (b % 16) (omega arith))
    ∙ omega arith)
shape_read false false false false false false false false b xs h plain j k l m n is = ap (λ (t : Bool). cond t (escape xs) (b, xs)) plain

byte_read : (b : ℕ) (xs : List ℕ) → read_byte (escaped b ++ xs) ≡ (b, xs)
byte_read b xs =
    shape_read (eqb b 34) (eqb b 92) (eqb b 8) (eqb b 9) (eqb b 10) (eqb b 12) (eqb b 13) (ltb b 32) b xs refl refl refl refl refl refl refl refl

-- ---- bytes are told

same_byte : (b c : ℕ) (xs ys : List ℕ) → escaped b ++ xs ≡ escaped c ++ ys → (b ≡ c) × (xs ≡ ys)
same_byte b c xs ys e =
    let f = sym (byte_read b xs) ∙ ap read_byte e ∙ byte_read c ys in
    (ap (λ (r : Read). r.0) f, ap (λ (r : Read). r.1) f)

-- no byte is written as the quote that ends a text
no_quote : (b : ℕ) (xs ys : List ℕ) → escaped b ++ xs ≡ 34 ∷ ys → ⊥
no_quote b xs ys e =
    let is : b ≡ 34 = ap (λ (r : Read). r.0) (sym (byte_read b xs) ∙ ap read_byte e) in
    omega (arith, heads 92 34 (34 ∷ xs) ys (subst (λ (n : ℕ). escaped n ++ xs ≡ 34 ∷ ys) is e))

same_bytes : (bs cs xs ys : List ℕ) → flat_map escaped bs ++ 34 ∷ xs ≡ flat_map escaped cs ++ 34 ∷ ys → (bs ≡ cs) × (xs ≡ ys)
same_bytes [] [] xs ys e = (refl, tails 34 34 xs ys e)
same_bytes [] (c ∷ cs) xs ys e =
    absurd (no_quote c (flat_map escaped cs ++ 34 ∷ ys) xs (sym (e ∙ append_assoc (escaped c) (flat_map escaped cs) (34 ∷ ys))))
same_bytes (b ∷ bs) [] xs ys e =
    absurd (no_quote b (flat_map escaped bs ++ 34 ∷ xs) ys (sym (append_assoc (escaped b) (flat_map escaped bs) (34 ∷ xs)) ∙ e))
same_bytes (b ∷ bs) (c ∷ cs) xs ys e =
    let one = same_byte b c (flat_map escaped bs ++ 34 ∷ xs) (flat_map escaped cs ++ 34 ∷ ys)
    (sym (append_assoc (escaped b) (flat_map escaped bs) (34 ∷ xs)) ∙ e ∙ append_assoc (escaped c) (flat_map escaped cs) (34 ∷ ys)) in
    let rest = same_bytes bs cs xs ys one.1 in
    (ap (λ x. x ∷ bs) one.0 ∙ ap (λ zs. c ∷ zs) rest.0, rest.1)

json_onto : (bs xs : List ℕ) → json_text bs ++ xs ≡ 34 ∷ (flat_map escaped bs ++ 34 ∷ xs)
json_onto bs xs = ap (λ t. 34 ∷ t) (append_assoc (flat_map escaped bs) (34 ∷ []) xs)

pub same_json : (bs cs xs ys : List ℕ) → json_text bs ++ xs ≡ json_text cs ++ ys → (bs ≡ cs) × (xs ≡ ys)
same_json bs cs xs ys e =
    same_bytes bs cs xs ys (tails 34 34 (flat_map escaped bs ++ 34 ∷ xs) (flat_map escaped cs ++ 34 ∷ ys) (sym (json_onto bs xs) ∙ e ∙ json_onto cs ys))
