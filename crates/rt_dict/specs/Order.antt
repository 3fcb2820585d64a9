-- The order of keys.
use Rattle.std.specs.Prelude.{◌≡◌, ℕ, List, Bool, true, false, not, ◌&&◌, int_lt, refl}
use Rattle.std.specs.declared.cmp.Ordering.{Ordering}
use Rattle.std.specs.declared.cmp.Ordering.TheVariants.{Less, Equal, Greater}
use Rattle.std.specs.Ordering.{is_lt, nat_cmp, ordering_reverse}
use Rattle.std.specs.Cmp.Lexicographic.{slice_cmp}
use Rattle.std.proofs.Common.{arith, ap}
use Rattle.std.proofs.lemmas.Cmp.{nat_list_cmp_total, tied_itself}
use Rattle.std.proofs.lemmas.Map.Lookups.{exact_bytes}
use Rattle.std.proofs.lemmas.Bool.{false≢true, true≢false}
use Rattle.std.proofs.lemmas.Int.{ints}

-- The test ranks any two different keys one way.
pub record IsStrictOrder {K : Type 0} (below : K → K → Bool) : Type 0 where
  pub irreflexive : (x : K) → below x x ≡ false
  pub transitive : (x y z : K) → below x y ≡ true → below y z ≡ true → below x z ≡ true
  pub total : (x y : K) → below x y ≡ false → below y x ≡ false → x ≡ y

-- false before true
abbrev pub bool_below : Bool → Bool → Bool
bool_below x y = not x && y

-- texts by their bytes: at the first place where they differ, or the shorter of two that begin alike
abbrev pub text_below : List ℕ → List ℕ → Bool
text_below x y = is_lt (slice_cmp nat_cmp x y)

-- numbers go by value
pub int_order : IsStrictOrder int_lt
int_order = record {
  irreflexive = λ x. grind (arith, ints);
  transitive = λ x y z p q. grind (arith, ints);
  total = λ x y p q. grind (arith, ints);
}

bool_transitive : (x y z : Bool) → bool_below x y ≡ true → bool_below y z ≡ true → bool_below x z ≡ true
bool_transitive true y z p q = p
bool_transitive false true z p q = absurd (false≢true q)
bool_transitive false false z p q = q

bool_total : (x y : Bool) → bool_below x y ≡ false → bool_below y x ≡ false → x ≡ y
bool_total true true p q = refl
bool_total true false p q = absurd (true≢false q)
bool_total false true p q = absurd (true≢false p)
bool_total false false p q = refl

pub bool_order : IsStrictOrder bool_below
bool_order = record {
  irreflexive = elim [ true ↦ refl | false ↦ refl ];
  transitive = bool_transitive;
  total = bool_total;
}

-- only `Less` counts as less
less : (r : Ordering) → is_lt r ≡ true → r ≡ Less
less Less e = refl
less Equal e = absurd (false≢true e)
less Greater e = absurd (false≢true e)

-- what is less neither way is equal
tie : (r s : Ordering) → r ≡ ordering_reverse s → is_lt r ≡ false → is_lt s ≡ false → r ≡ Equal
tie Less s back p q = absurd (true≢false p)
tie Equal s back p q = refl
tie Greater Less back p q = absurd (true≢false q)
tie Greater Equal back p q = back
tie Greater Greater back p q = absurd (false≢true (ap is_lt back))

pub text_order : IsStrictOrder text_below
text_order = record {
  irreflexive = λ x. ap is_lt (tied_itself nat_list_cmp_total x);
  transitive = λ x y z p q. ap is_lt (nat_list_cmp_total.trans x y z (less _ p) (less _ q));
  total = λ x y p q. exact_bytes x y (tie _ _ (nat_list_cmp_total.antisymm x y) p q);
}
