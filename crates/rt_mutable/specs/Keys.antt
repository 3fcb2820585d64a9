-- Keys that compare as equal are one.
use Rattle.std.specs.Prelude.{◌≡◌, ℕ, ℤ, List, Bool, true, false, IsTrue, refl}
use Rattle.std.specs.Ordering.{int_eq}
use Rattle.std.specs.Str.{bytes_eq}
use Rattle.std.proofs.lemmas.Bool.{false≢true}
use Rattle.std.proofs.lemmas.Bool.Decides.{Decides-int_eq}
use Rattle.std.specs.Cmp.Lexicographic.{bytes_decides}
use mathlib.Core.Bool.{beq}

pub exact_ints : (x y : ℤ) → IsTrue (int_eq x y) → x ≡ y
exact_ints x y h = (Decides-int_eq x y).0 h

pub exact_bools : (x y : Bool) → IsTrue (beq x y) → x ≡ y
exact_bools true true h = refl
exact_bools true false h = absurd (false≢true h)
exact_bools false true h = absurd (false≢true h)
exact_bools false false h = refl

pub exact_texts : (x y : List ℕ) → IsTrue (bytes_eq x y) → x ≡ y
exact_texts x y h = (bytes_decides x y).0 h
