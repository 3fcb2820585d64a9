-- Two values are the same one exactly where the test says so.
use Rattle.std.proofs.Common.{◌≡◌, Bool, true, false, Decides, refl, ap}
use Rattle.std.specs.Cmp.{IsEquivalence, decided}
use Rattle.std.specs.Ordering.{int_eq}
use Rattle.std.specs.Str.{bytes_eq}
use Rattle.std.specs.Cmp.Lexicographic.{bytes_decides}
use Rattle.std.proofs.lemmas.Bool.{false≢true}
use Rattle.std.proofs.lemmas.Bool.Decides.{Decides-int_eq, Decides-like}
use mathlib.Core.Bool.{beq}
use Rattle.rt_schema.specs.declared.value.Value.{Value}
use Rattle.rt_schema.specs.declared.value.Value.TheVariants.{Int, Long, Text, Bool as Truth, Time}
use Rattle.rt_mutable.specs.Keys.{exact_bools}
use Rattle.rt_mutable.specs.Column.{same_value}

beq_itself : (x y : Bool) → x ≡ y → beq x y ≡ true
beq_itself x y e = subst_to x y e (itself x)
  where
    itself : (x : Bool) → beq x x ≡ true
    itself true = refl
    itself false = refl

    subst_to : (x y : Bool) → x ≡ y → beq x x ≡ true → beq x y ≡ true
    subst_to x y e h = rw (← e) h

decides : (a b : Value) → Decides (same_value a b) (a ≡ b)
decides (Int x) (Int y) = Decides-like (int_eq x y) (λ e. ap Int e) (λ e. cc) (Decides-int_eq x y)
decides (Long x) (Long y) = Decides-like (int_eq x y) (λ e. ap Long e) (λ e. cc) (Decides-int_eq x y)
decides (Text x) (Text y) = Decides-like (bytes_eq x y) (λ e. ap Text e) (λ e. cc) (bytes_decides x y)
decides (Truth x) (Truth y) = Decides-like (beq x y) (λ e. ap Truth e) (λ e. cc) (exact_bools x y, beq_itself x y)
decides (Time x) (Time y) = Decides-like (int_eq x y) (λ e. ap Time e) (λ e. cc) (Decides-int_eq x y)
decides a b = (λ e. absurd (false≢true e), λ e. cc)

pub same_laws : IsEquivalence same_value
same_laws = decided same_value decides

pub same_exact : (a b : Value) → same_value a b ≡ true → a ≡ b
same_exact a b = (decides a b).0
