-- Ranges that are merged one by one, in order, are merged.
use Rattle.std.proofs.Common.{◌≡◌, ◌≤◌, ◌==◌, ℕ, Bool, true, false, List, [], ◌∷◌, ◌++◌, drop, length, map, refl, sym, ap, ◌∙◌, append_assoc, append-nil, if◌then◌else◌}
use Rattle.rt_base.specs.declared.range.Range.{Range}
use Rattle.rt_model.specs.RightAnswer.{joined, merged, served_ranges}
use Rattle.rt_broker.specs.declared.piece_asked.PieceAsked.{PieceAsked}
use Rattle.rt_broker.specs.Answering.{asked_piece}
use Rattle.rt_broker.specs.Merging.{both, behind, pushed, pushed_all}
use Rattle.rt_broker.proofs.Gaining.{drop_end}

-- what is behind the last one stands behind all
pub behind_last : (first : List Range) (last r : Range) → behind r (first ++ last ∷ []) ≡ first ++ both last r
behind_last [] last r = refl
behind_last (i ∷ []) last r = refl
behind_last (i ∷ j ∷ is) last r = ap (λ zs. i ∷ zs) (behind_last (j ∷ is) last r)

abbrev from_to : Range → Range → Range
from_to a b = record { start = a.start; end = b.end }

abbrev join : Bool → Range → Range → List Range → List Range
join b x s ss = if b then from_to x s ∷ ss else x ∷ (s ∷ ss)

abbrev meet : Bool → Range → Range → List Range
meet b s r = if b then from_to s r ∷ [] else s ∷ (r ∷ [])

joined_both : (x s r : Range) (b c : Bool) → (s.end.0 == r.start.0) ≡ b → (x.end.0 == s.start.0) ≡ c
    → joined x (meet b s r) ≡ behind r (join c x s [])
joined_both x s r true true e f =
    ap (λ t. join t x (from_to s r) []) f ∙ sym (ap (λ t. meet t (from_to x s) r) e)
joined_both x s r true false e f =
    ap (λ t. join t x (from_to s r) []) f ∙ sym (ap (λ t. x ∷ meet t s r) e)
joined_both x s r false true e f =
    ap (λ t. join t x s (r ∷ [])) f ∙ sym (ap (λ t. meet t (from_to x s) r) e)
joined_both x s r false false e f =
    ap (λ t. join t x s (r ∷ [])) f ∙ sym (ap (λ t. x ∷ meet t s r) e)

-- what comes last meets what was joined
joined_behind : (x r : Range) (ys : List Range) → joined x (behind r ys) ≡ behind r (joined x ys)
joined_behind x r [] = refl
joined_behind x r (s ∷ []) = joined_both x s r (s.end.0 == r.start.0) (x.end.0 == s.start.0) refl refl
joined_behind x r (s ∷ t ∷ ts) = by_test (x.end.0 == s.start.0)
  where
    by_test : (b : Bool) → join b x s (behind r (t ∷ ts)) ≡ behind r (join b x s (t ∷ ts))
    by_test true = refl
    by_test false = refl

abbrev added : Bool → Range → List Range → List Range
added b x ys = if b then ys else joined x ys

abbrev push : Bool → Range → List Range → List Range
push b r ys = if b then ys else behind r ys

added_pushed : (b c : Bool) (x r : Range) (ys : List Range) → added c x (push b r ys) ≡ push b r (added c x ys)
added_pushed true c x r ys = refl
added_pushed false true x r ys = refl
added_pushed false false x r ys = joined_behind x r ys

merged_more : (rs : List Range) (r : Range) → merged (rs ++ r ∷ []) ≡ pushed r (merged rs)
merged_more [] r = by_test (r.start.0 == r.end.0)
  where
    by_test : (b : Bool) → added b r [] ≡ push b r []
    by_test true = refl
    by_test false = refl
merged_more (x ∷ rs) r =
    ap (added (x.start.0 == x.end.0) x) (merged_more rs r)
    ∙ added_pushed (r.start.0 == r.end.0) (x.start.0 == x.end.0) x r (merged rs)

pushed_merged : (done rest : List Range) → pushed_all (merged done) rest ≡ merged (done ++ rest)
pushed_merged done [] = ap merged (sym (append-nil done))
pushed_merged done (r ∷ rest) =
    ap (λ ys. pushed_all ys rest) (sym (merged_more done r))
    ∙ pushed_merged (done ++ r ∷ []) rest
    ∙ ap merged (append_assoc done (r ∷ []) rest)

pub merged_in_order : (rs : List Range) → pushed_all [] rs ≡ merged rs
merged_in_order rs = pushed_merged [] rs

-- what was merged once all pieces were looked at
pub merged_end : (asked : List PieceAsked) (i : ℕ) (ranges : List Range) → length asked ≤ i
    → pushed_all ranges (served_ranges (map asked_piece (drop i asked))) ≡ pushed_all [] (served_ranges (map asked_piece asked))
    → ranges ≡ merged (served_ranges (map asked_piece asked))
merged_end asked i ranges past all =
    sym (ap (λ (xs : List PieceAsked). pushed_all ranges (served_ranges (map asked_piece xs))) (drop_end asked i past))
    ∙ all ∙ merged_in_order (served_ranges (map asked_piece asked))
