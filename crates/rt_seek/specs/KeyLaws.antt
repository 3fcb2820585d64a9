-- Keys stand to a literal as they do to its key.
use Rattle.std.specs.Prelude.{◌≡◌, ℕ, ℤ, int_lt, int_le, ◌&&◌, pos, negsuc, cond, Bool, true, false, List, Some, refl}
use Rattle.std.specs.declared.cmp.Ordering.{Ordering}
use Rattle.std.specs.declared.cmp.Ordering.TheVariants.{Less, Equal, Greater}
use Rattle.std.specs.Ordering.{is_lt, is_gt, nat_cmp, int_cmp, bool_cmp, ordering_reverse}
use Rattle.std.specs.Cmp.Lexicographic.{slice_cmp}
use Rattle.std.proofs.Common.{ap, sym, subst}
use Rattle.std.proofs.lemmas.Cmp.{nat_list_cmp_total}
use Rattle.std.proofs.lemmas.Option.{none-some, same_Some, cond_some}
use Rattle.rt_dict.specs.Order.{bool_below, text_below, int_order}
use Rattle.rt_dict.proofs.Ascending.{below_one_way}
use Rattle.rt_schema.specs.Value.{in_32_bits}
use Rattle.rt_model.specs.declared.query_parts.Literal.{Literal}
use Rattle.rt_model.specs.declared.query_parts.Literal.TheVariants as literal
use Rattle.rt_model.specs.Values.{number_against, text_against, truth_against}
use Rattle.rt_seek.specs.Keys.{StandsTo, int_of, long_of, text_of, truth_of}

-- an answer that is made of two tests which don't hold at once
less_of : (a b : Bool) → is_lt (cond a Less (cond b Greater Equal)) ≡ a
less_of true b = refl
less_of false true = refl
less_of false false = refl

greater_of : (a b : Bool) → (a ≡ true → b ≡ false) → is_gt (cond a Less (cond b Greater Equal)) ≡ b
greater_of true b apart = sym (apart refl)
greater_of false true apart = refl
greater_of false false apart = refl

number_stands : (v k : ℤ) → StandsTo int_lt v k (Some (int_cmp v k))
number_stands v k = (less_of (int_lt v k) (int_lt k v), greater_of (int_lt v k) (int_lt k v) (below_one_way int_order v k))

pub long_stands : (l : Literal) (key : ℤ) → long_of l ≡ Some key → (v : ℤ) → StandsTo int_lt v key (number_against v l)
long_stands (literal.Int l) key e v = subst (λ k. StandsTo int_lt v k (Some (int_cmp v l))) (same_Some _ _ e) (number_stands v l)
long_stands (literal.Text l) key e v = absurd (none-some _ e)
long_stands (literal.Bool l) key e v = absurd (none-some _ e)

in_32_bits_same : (l key : ℤ) → in_32_bits l ≡ Some key → l ≡ key
in_32_bits_same l key e = (cond_some (int_le (negsuc 2147483647) l && int_le l (pos 2147483647)) l key e).1

pub int_stands : (l : Literal) (key : ℤ) → int_of l ≡ Some key → (v : ℤ) → StandsTo int_lt v key (number_against v l)
int_stands (literal.Int l) key e v = subst (λ k. StandsTo int_lt v k (Some (int_cmp v l))) (in_32_bits_same l key e) (number_stands v l)
int_stands (literal.Text l) key e v = absurd (none-some _ e)
int_stands (literal.Bool l) key e v = absurd (none-some _ e)

reversed : (o p : Ordering) → p ≡ ordering_reverse o → is_gt o ≡ is_lt p
reversed Less p e = ap is_lt (sym e)
reversed Equal p e = ap is_lt (sym e)
reversed Greater p e = ap is_lt (sym e)

pub text_stands : (l : Literal) (key : List ℕ) → text_of l ≡ Some key → (v : List ℕ) → StandsTo text_below v key (text_against v l)
text_stands (literal.Text l) key e v = subst (λ k. StandsTo text_below v k (Some (slice_cmp nat_cmp v l))) (same_Some _ _ e) (refl, reversed _ _ (nat_list_cmp_total.antisymm l v))
text_stands (literal.Int l) key e v = absurd (none-some _ e)
text_stands (literal.Bool l) key e v = absurd (none-some _ e)

truths_stand : (v k : Bool) → StandsTo bool_below v k (Some (bool_cmp v k))
truths_stand true true = (refl, refl)
truths_stand true false = (refl, refl)
truths_stand false true = (refl, refl)
truths_stand false false = (refl, refl)

pub truth_stands : (l : Literal) (key : Bool) → truth_of l ≡ Some key → (v : Bool) → StandsTo bool_below v key (truth_against v l)
truth_stands (literal.Bool l) key e v = subst (λ k. StandsTo bool_below v k (Some (bool_cmp v l))) (same_Some _ _ e) (truths_stand v l)
truth_stands (literal.Int l) key e v = absurd (none-some _ e)
truth_stands (literal.Text l) key e v = absurd (none-some _ e)
