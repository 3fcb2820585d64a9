-- A field that is read is spelled so, and what is spelled so is read.
use Rattle.std.proofs.Common.{◌≡◌, ℕ, ◌+◌, ◌^◌, ◌<◌, ◌≤◌, Bool, true, false, cond, eqb, ltb, List, [], ◌∷◌, ◌++◌, length, get_or, take, drop, Result, Ok, Err, refl, sym, ap, subst, ◌∙◌, append_assoc, arith, inl, inr}
use Rattle.std.specs.Prelude.{FitsSigned}
use Rattle.std.specs.Int.{Width, w16, w32, w64, byte_len, from_be_bytes, to_be_bytes, cast_signed, cast_unsigned}
use Rattle.std.specs.Str.{IsUtf8, is_utf8}
use Rattle.std.proofs.lemmas.Bool.{cases_lt, cases_Bool, ltb-false, le-ltb, eqb-true}
use Rattle.std.proofs.Math.Facts.{sfits_to_z, Fits-of_z, Fits-of_lt}
use Rattle.std.proofs.lemmas.Int.{to_z-of_z, of_z-to_z}
use Rattle.std.proofs.lemmas.List.{take_at, drop_at, take-append-drop, length-append, length-take, get_or-drop, get_or-take, get_or_past}
use Rattle.std.proofs.lemmas.Nat.{be_bytes_2, be_bytes_4, be_bytes_8, from_be_bytes-to_be_bytes_2, from_be_bytes-to_be_bytes_4, from_be_bytes-to_be_bytes_8}
use Rattle.std.proofs.lemmas.Str.{IsUtf8-from_is_utf8, is_utf8-from_IsUtf8}
use Rattle.rt_segment.specs.declared.segment_refused.SegmentRefused.{SegmentRefused}
use Rattle.rt_segment.specs.declared.segment_refused.SegmentRefused.TheVariants.{Truncated, Limit, NotCanonical}
use Rattle.rt_segment.specs.Cursor.{Cursor, Read, ◌>>=◌, breach, bytes_at, number_at, byte_in}
use Rattle.rt_segment.specs.Reading.{int_at, long_at, bool_at, text_at}
use Rattle.rt_segment.specs.Spelling.{word, int_bytes, long_bytes, bool_bytes, text_bytes}

abbrev pub IsBytes : List ℕ → Type 0
IsBytes bytes = (i : ℕ) → get_or bytes i 0 < 256

IsBytes-drop : (n : ℕ) (bytes : List ℕ) → IsBytes bytes → IsBytes (drop n bytes)
IsBytes-drop n bytes h i = rw get_or-drop (h (n + i))

IsBytes-take : (n : ℕ) (bytes : List ℕ) → IsBytes bytes → IsBytes (take n bytes)
IsBytes-take n bytes h i =
    elim (cases_lt i n) [
      | inl lt ↦ rw (get_or-take n bytes i 0 lt) (h i)
      | inr le ↦ rw (get_or_past (take n bytes) i 0 (omega (arith, length-take n bytes))) (omega arith)
    ]

-- the value of a step that did not fail
pub bind_ok : {A B : Type 0} (r : Result A SegmentRefused) (f : A → Result B SegmentRefused) (y : B) → (r >>= f) ≡ Ok y → (x : A) × (r ≡ Ok x) × (f x ≡ Ok y)
bind_ok (Ok x) f y e = (x, refl, e)
bind_ok (Err d) f y e = absurd cc

-- a test that did not fail, on either side
pub guard_ok : {A : Type 0} (b : Bool) (d : SegmentRefused) (r : Result A SegmentRefused) (y : A) → cond b (Err d) r ≡ Ok y → (b ≡ false) × (r ≡ Ok y)
guard_ok true d r y e = absurd cc
guard_ok false d r y e = (refl, e)

pub test_ok : {A : Type 0} (b : Bool) (d : SegmentRefused) (r : Result A SegmentRefused) (y : A) → cond b r (Err d) ≡ Ok y → (b ≡ true) × (r ≡ Ok y)
test_ok true d r y e = (refl, e)
test_ok false d r y e = absurd cc

abbrev pub done : {A : Type 0} → A → Result A SegmentRefused
done x = Ok x

pub ok_is : {A : Type 0} (x y : A) → done x ≡ done y → x ≡ y
ok_is x y e = cc

-- what reading took from the front
pub record Takes (c : Cursor) (text : List ℕ) (d : Cursor) : Type 0 where
  pub parts : c.left ≡ text ++ d.left
  pub place : d.place ≡ c.place + length text
  pub rest : IsBytes d.left

pub takes_then : (a : Cursor) (x : List ℕ) (b : Cursor) (y : List ℕ) (c : Cursor) → Takes a x b → Takes b y c → Takes a (x ++ y) c
takes_then a x b y c p q = record {
  parts = p.parts ∙ ap (λ (t : List ℕ). x ++ t) q.parts ∙ sym (append_assoc x y c.left);
  place = omega (arith, p.place, q.place, length-append x y);
  rest = q.rest;
}

pub takes_none : (c : Cursor) → IsBytes c.left → Takes c [] c
takes_none c fits = record { parts = refl; place = omega arith; rest = fits }

-- what reading gives of a text, and where it goes on
pub record Reads {X : Type 0} (c : Cursor) (text rest : List ℕ) (r : Read X) (x : X) : Type 0 where
  pub end : Cursor
  pub is : r ≡ Ok (x, end)
  pub left : end.left ≡ rest
  pub place : end.place ≡ c.place + length text

-- a reader of the values that fit, and how they are spelled
pub record IsField {X : Type 0} (at : Cursor → Read X) (text : X → List ℕ) (fits : X → Type 0) : Type 0 where
  pub takes : (c : Cursor) (x : X) (d : Cursor) → IsBytes c.left → at c ≡ Ok (x, d) → Takes c (text x) d × fits x
  pub again : (c : Cursor) (x : X) (rest : List ℕ) → fits x → c.left ≡ text x ++ rest → Reads c (text x) rest (at c) x

-- ---- bytes

pub bytes_take : (n : ℕ) (c : Cursor) (x : List ℕ) (d : Cursor) → IsBytes c.left → bytes_at n c ≡ Ok (x, d) → Takes c x d × (length x ≡ n) × IsBytes x
bytes_take n c x d fits e =
    let g = guard_ok (ltb (length c.left) n) Truncated (Ok (take n c.left, record { place = c.place + n; left = drop n c.left })) (x, d) e in
    let long : n ≤ length c.left = ltb-false _ _ g.0 in
    let len : length (take n c.left) ≡ n = omega (arith, length-take n c.left) in
    let made : List ℕ × Cursor = (take n c.left, record { place = c.place + n; left = drop n c.left }) in
    subst (λ (y : List ℕ × Cursor). Takes c y.0 y.1 × (length y.0 ≡ n) × IsBytes y.0) (ok_is made (x, d) g.1)
    (record { parts = sym (take-append-drop n c.left); place = omega (arith, len); rest = IsBytes-drop n c.left fits }, len, IsBytes-take n c.left fits)

pub bytes_again : (n : ℕ) (c : Cursor) (x rest : List ℕ) → length x ≡ n → c.left ≡ x ++ rest → Reads c x rest (bytes_at n c) x
bytes_again n c x rest len e =
    let long : ltb (length c.left) n ≡ false = le-ltb _ _ (omega (arith, ap length e, length-append x rest)) in
    let front : take n c.left ≡ x = ap (take n) e ∙ take_at x rest n len in
    let back : drop n c.left ≡ rest = ap (drop n) e ∙ drop_at x rest n len in
    record {
      end = record { place = c.place + n; left = drop n c.left };
      is = rw (long, front) refl;
      left = back;
      place = omega (arith, len);
    }

-- ---- numbers

pub record IsWide (w : Width) (limit : ℕ) : Type 0 where
  pub len : (n : ℕ) → length (to_be_bytes w n) ≡ byte_len w
  pub back : (bytes : List ℕ) → length bytes ≡ byte_len w → IsBytes bytes → to_be_bytes w (from_be_bytes w bytes) ≡ bytes
  pub same : (n : ℕ) → n < limit → from_be_bytes w (to_be_bytes w n) ≡ n
  pub below : (bytes : List ℕ) → IsBytes bytes → from_be_bytes w bytes < limit

pub wide16 : IsWide w16 (2 ^ 16)
wide16 = record {
  len = λ n. refl;
  back = λ bytes len fits. be_bytes_2 bytes _ len fits refl;
  same = λ n lt. from_be_bytes-to_be_bytes_2 n lt;
  below = λ bytes fits. omega (arith, fits 0, fits 1);
}

pub wide32 : IsWide w32 (2 ^ 32)
wide32 = record {
  len = λ n. refl;
  back = λ bytes len fits. be_bytes_4 bytes _ len fits refl;
  same = λ n lt. from_be_bytes-to_be_bytes_4 n lt;
  below = λ bytes fits. omega (arith, fits 0, fits 1, fits 2, fits 3);
}

pub wide64 : IsWide w64 (2 ^ 64)
wide64 = record {
  len = λ n. refl;
  back = λ bytes len fits. be_bytes_8 bytes _ len fits refl;
  same = λ n lt. from_be_bytes-to_be_bytes_8 n lt;
  below = λ bytes fits. omega (arith, fits 0, fits 1, fits 2, fits 3, fits 4, fits 5, fits 6, fits 7);
}

number_takes : (w : Width) (limit : ℕ) → IsWide w limit → (c : Cursor) (n : ℕ) (d : Cursor) → IsBytes c.left → number_at w c ≡ Ok (n, d) → Takes c (to_be_bytes w n) d × (n < limit)
number_takes w limit wide c n d fits e =
    let b = bind_ok (bytes_at (byte_len w) c) (λ b. Ok (from_be_bytes w b.0, b.1)) (n, d) e in
    let t = bytes_take (byte_len w) c b.0.0 b.0.1 fits b.1 in
    let made : ℕ × Cursor = (from_be_bytes w b.0.0, b.0.1) in
    subst (λ (y : ℕ × Cursor). Takes c (to_be_bytes w y.0) y.1 × (y.0 < limit)) (ok_is made (n, d) b.2)
    (subst (λ (text : List ℕ). Takes c text b.0.1) (sym (wide.back b.0.0 t.1 t.2)) t.0, wide.below b.0.0 t.2)

number_again : (w : Width) (limit : ℕ) → IsWide w limit → (c : Cursor) (n : ℕ) (rest : List ℕ) → n < limit → c.left ≡ to_be_bytes w n ++ rest → Reads c (to_be_bytes w n) rest (number_at w c) n
number_again w limit wide c n rest lt e =
    let b = bytes_again (byte_len w) c (to_be_bytes w n) rest (wide.len n) e in
    let same : from_be_bytes w (to_be_bytes w n) ≡ n = wide.same n lt in
    record { end = b.end; is = ap (λ (r : Read (List ℕ)). r >>= λ b. Ok (from_be_bytes w b.0, b.1)) b.is ∙ ap (λ (m : ℕ). done (m, b.end)) same; left = b.left; place = b.place }

pub number_field : (w : Width) (limit : ℕ) → IsWide w limit → IsField (number_at w) (to_be_bytes w) (λ n. n < limit)
number_field w limit wide = record { takes = number_takes w limit wide; again = number_again w limit wide }

pub field16 : IsField (number_at w16) (to_be_bytes w16) (λ n. n < 2 ^ 16)
field16 = number_field w16 (2 ^ 16) wide16

pub field32 : IsField (number_at w32) word (λ n. n < 2 ^ 32)
field32 = number_field w32 (2 ^ 32) wide32

pub field64 : IsField (number_at w64) (to_be_bytes w64) (λ n. n < 2 ^ 64)
field64 = number_field w64 (2 ^ 64) wide64

-- a number that is turned into another value
pub turned : {X Y : Type 0} (at : Cursor → Read X) (text : X → List ℕ) (fits : X → Type 0) (f : X → Y) (g : Y → X) (good : Y → Type 0) → IsField at text fits
    → ((x : X) → fits x → (g (f x) ≡ x) × good (f x)) → ((y : Y) → good y → (f (g y) ≡ y) × fits (g y))
    → IsField (λ c. at c >>= λ x. Ok (f x.0, x.1)) (λ y. text (g y)) good
turned at text fits f g good field there back = record {
  takes = λ c y d bytes e.
      let b = bind_ok (at c) (λ x. Ok (f x.0, x.1)) (y, d) e in
      let t = field.takes c b.0.0 b.0.1 bytes b.1 in
      let turn = there b.0.0 t.1 in
      subst (λ (z : _ × Cursor). Takes c (text (g z.0)) z.1 × good z.0) (ok_is (f b.0.0, b.0.1) (y, d) b.2) (subst (λ x. Takes c (text x) b.0.1) (sym turn.0) t.0, turn.1);
  again = λ c y rest is_good e.
      let turn = back y is_good in
      let r = field.again c (g y) rest turn.1 e in
      record { end = r.end; is = ap (λ r. r >>= λ x. Ok (f x.0, x.1)) r.is ∙ ap (λ z. done (z, r.end)) turn.0; left = r.left; place = r.place };
}

-- ---- values

abbrev pub IsText : List ℕ → Type 0
IsText t = IsUtf8 t × (length t ≤ 65536)

byte_take : (c : Cursor) (b : ℕ) (d : Cursor) → IsBytes c.left → byte_in c ≡ Ok (b, d) → Takes c (b ∷ []) d
byte_take c b d fits e =
    let r = bind_ok (bytes_at 1 c) (λ x. Ok (get_or x.0 0 0, x.1)) (b, d) e in
    let t = bytes_take 1 c r.0.0 r.0.1 fits r.1 in
    let made : ℕ × Cursor = (get_or r.0.0 0 0, r.0.1) in
    subst (λ (y : ℕ × Cursor). Takes c (y.0 ∷ []) y.1) (ok_is made (b, d) r.2) (subst (λ (text : List ℕ). Takes c text r.0.1) (single r.0.0 t.1) t.0)
  where
    single : (x : List ℕ) → length x ≡ 1 → x ≡ get_or x 0 0 ∷ []
    single [] l = absurd (omega (arith, l))
    single (y ∷ []) l = refl
    single (y ∷ z ∷ zs) l = absurd (omega (arith, l))

pub byte_again : (c : Cursor) (b : ℕ) (rest : List ℕ) → c.left ≡ (b ∷ []) ++ rest → Reads c (b ∷ []) rest (byte_in c) b
byte_again c b rest e =
    let r = bytes_again 1 c (b ∷ []) rest refl e in
    record { end = r.end; is = ap (λ (r : Read (List ℕ)). r >>= λ x. Ok (get_or x.0 0 0, x.1)) r.is; left = r.left; place = r.place }

pub byte_taken : (c : Cursor) (b : ℕ) (d : Cursor) → IsBytes c.left → byte_in c ≡ Ok (b, d) → Takes c (b ∷ []) d
byte_taken c b d fits e = byte_take c b d fits e

bool_takes : (c : Cursor) (x : Bool) (d : Cursor) → IsBytes c.left → bool_at c ≡ Ok (x, d) → Takes c (bool_bytes x) d × Unit {0}
unfolding bool_at
bool_takes c x d fits e =
    let b = bind_ok (byte_in c) (λ b. cond (eqb b.0 0) (Ok (false, b.1)) (cond (eqb b.0 1) (Ok (true, b.1)) (breach c))) (x, d) e in
    let t = byte_take c b.0.0 b.0.1 fits b.1 in
    elim (cases_Bool (eqb b.0.0 0)) [
      | inl zero_is ↦
          let made : Bool × Cursor = (false, b.0.1) in
          let same : done made ≡ done (x, d) = sym (ap (λ t. cond t (done made) (cond (eqb b.0.0 1) (Ok (true, b.0.1)) (breach c))) zero_is) ∙ b.2 in
          (subst (λ (y : Bool × Cursor). Takes c (bool_bytes y.0) y.1) (ok_is made (x, d) same) (subst (λ (n : ℕ). Takes c (n ∷ []) b.0.1) (eqb-true b.0.0 0 zero_is) t), tt)
      | inr other ↦
          let inner : cond (eqb b.0.0 1) (done (true, b.0.1)) (breach c) ≡ done (x, d) = sym (ap (λ t. cond t (done (false, b.0.1)) (cond (eqb b.0.0 1) (Ok (true, b.0.1)) (breach c))) other) ∙ b.2 in
          let g = test_ok (eqb b.0.0 1) (NotCanonical c.place) (done (true, b.0.1)) (x, d) inner in
          let made : Bool × Cursor = (true, b.0.1) in
          (subst (λ (y : Bool × Cursor). Takes c (bool_bytes y.0) y.1) (ok_is made (x, d) g.1) (subst (λ (n : ℕ). Takes c (n ∷ []) b.0.1) (eqb-true b.0.0 1 g.0) t), tt)
    ]

bool_again : (c : Cursor) (x : Bool) (rest : List ℕ) → Unit {0} → c.left ≡ bool_bytes x ++ rest → Reads c (bool_bytes x) rest (bool_at c) x
unfolding bool_at
bool_again c true rest u e = let r = byte_again c 1 rest e in record { end = r.end; is = rw r.is refl; left = r.left; place = r.place }
bool_again c false rest u e = let r = byte_again c 0 rest e in record { end = r.end; is = rw r.is refl; left = r.left; place = r.place }

pub bool_field : IsField bool_at bool_bytes (λ b. Unit {0})
bool_field = record { takes = bool_takes; again = bool_again }

text_takes : (c : Cursor) (x : List ℕ) (d : Cursor) → IsBytes c.left → text_at c ≡ Ok (x, d) → Takes c (text_bytes x) d × IsText x
unfolding text_at
text_takes c x d fits e =
    let n = bind_ok (number_at w32 c) (λ n. cond (ltb 65536 n.0) (Err Limit) (bytes_at n.0 n.1 >>= λ b. cond (is_utf8 b.0) (Ok b) (breach c))) (x, d) e in
    let t = field32.takes c n.0.0 n.0.1 fits n.1 in
    let few = guard_ok (ltb 65536 n.0.0) Limit (bytes_at n.0.0 n.0.1 >>= λ b. cond (is_utf8 b.0) (Ok b) (breach c)) (x, d) n.2 in
    let b = bind_ok (bytes_at n.0.0 n.0.1) (λ b. cond (is_utf8 b.0) (Ok b) (breach c)) (x, d) few.1 in
    let s = bytes_take n.0.0 n.0.1 b.0.0 b.0.1 t.0.rest b.1 in
    let g = test_ok (is_utf8 b.0.0) (NotCanonical c.place) (done b.0) (x, d) b.2 in
    let both = takes_then c (word n.0.0) n.0.1 b.0.0 b.0.1 t.0 s.0 in
    let whole : Takes c (text_bytes b.0.0) b.0.1 = subst (λ (k : ℕ). Takes c (word k ++ b.0.0) b.0.1) (sym s.1) both in
    let small : n.0.0 ≤ 65536 = ltb-false _ _ few.0 in
    subst (λ (p : List ℕ × Cursor). Takes c (text_bytes p.0) p.1 × IsText p.0) (ok_is b.0 (x, d) g.1) (whole, (IsUtf8-from_is_utf8 b.0.0 g.0, omega (arith, s.1, small)))

text_again : (c : Cursor) (x rest : List ℕ) → IsText x → c.left ≡ text_bytes x ++ rest → Reads c (text_bytes x) rest (text_at c) x
unfolding text_at
text_again c x rest good e =
    let n = field32.again c (length x) (x ++ rest) (omega (arith, good.1)) (e ∙ append_assoc (word (length x)) x rest) in
    let b = bytes_again (length x) n.end x rest refl n.left in
    let few : ltb 65536 (length x) ≡ false = le-ltb _ _ good.1 in
    let valid : is_utf8 x ≡ true = is_utf8-from_IsUtf8 x good.0 in
    record {
      end = b.end;
      is = ap (λ r. r >>= λ n. cond (ltb 65536 n.0) (Err Limit) (bytes_at n.0 n.1 >>= λ b. cond (is_utf8 b.0) (Ok b) (breach c))) n.is
          ∙ ap (λ t. cond t (Err Limit) (bytes_at (length x) n.end >>= λ b. cond (is_utf8 b.0) (Ok b) (breach c))) few
          ∙ ap (λ r. r >>= λ b. cond (is_utf8 b.0) (Ok b) (breach c)) b.is
          ∙ ap (λ t. cond t (Ok (x, b.end)) (breach c)) valid;
      left = b.left;
      place = omega (arith, b.place, n.place, length-append (word (length x)) x);
    }

pub text_field : IsField text_at text_bytes IsText
text_field = record { takes = text_takes; again = text_again }

pub int_field : IsField int_at int_bytes (FitsSigned w32)
int_field = turned (number_at w32) word (λ n. n < 2 ^ 32) (cast_signed w32) (cast_unsigned w32) (FitsSigned w32) field32
    (λ n lt. (of_z-to_z w32 n lt, sfits_to_z (Fits-of_lt lt))) (λ z good. (to_z-of_z w32 z good, (Fits-of_z good).fits))

pub long_field : IsField long_at long_bytes (FitsSigned w64)
long_field = turned (number_at w64) (to_be_bytes w64) (λ n. n < 2 ^ 64) (cast_signed w64) (cast_unsigned w64) (FitsSigned w64) field64
    (λ n lt. (of_z-to_z w64 n lt, sfits_to_z (Fits-of_lt lt))) (λ z good. (to_z-of_z w64 z good, (Fits-of_z good).fits))
