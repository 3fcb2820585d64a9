use Rattle.std.proofs.Common.{◌≡◌, ℕ, List, Some, refl, ap, ◌∙◌}
use Rattle.std.specs.Ordering.{is_lt, is_some_and, nat_cmp}
use Rattle.std.specs.Cmp.Lexicographic.{slice_partial_cmp, lists_agrees}
use Rattle.rt_dict.specs.Order.{text_below}
use Rattle.rt_dict.proofs.key.TextKey.below.Goals as goal

-- `<` of two lists of bytes
bytes_below : (xs ys : List ℕ) → is_some_and is_lt (slice_partial_cmp (λ x y. Some (nat_cmp x y)) xs ys) ≡ text_below xs ys
bytes_below xs ys = ap (is_some_and is_lt) (lists_agrees {R = nat_cmp} (λ x y. refl) xs ys)

pub returns : goal.returns
returns c = c.lt.ensures ∙ bytes_below c.as_bytes.result.now c.as_bytes-2.result.now ∙ ap (λ xs. text_below xs c.as_bytes-2.result.now) c.as_bytes.ensures ∙ ap (text_below c.args.self.now) c.as_bytes-2.ensures
