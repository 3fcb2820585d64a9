-- A tree as a list that gives it back, by which a proof tells trees apart: each node stands behind its parts.
use Rattle.std.specs.Prelude.{◌≡◌, ◌⊎◌, refl, ℕ, zero, suc, Bool, true, false, List, [], ◌∷◌}
use Rattle.std.proofs.Common.{ap, ◌∙◌}
use Rattle.std.specs.Coded.{Coded, code_by, coded×, coded⊎, coded_list, coded_ℕ, coded_bool}
use mathlib.Core.Logic.{inl, inr}
use Rattle.rt_model.specs.declared.query_parts.ColumnAt.{ColumnAt}
use Rattle.rt_model.specs.declared.query_parts.Comparison.{Comparison}
use Rattle.rt_model.specs.declared.query_parts.Literal.{Literal}
use Rattle.rt_model.specs.contracts.query_parts.ColumnAt.{the_row as column_row}
use Rattle.rt_model.specs.contracts.query_parts.Comparison.{the_row as comparison_row}
use Rattle.rt_model.specs.contracts.query_parts.Literal.{the_row as literal_row}
use Rattle.rt_model.specs.Tree.{Tree, Trees, Compare, Between, OneOf, NoneOf, Not, And, Or, End, Then}

abbrev pub Test : Type 0
Test = (Comparison × Literal) ⊎ ((Literal × Literal) ⊎ (Bool × List Literal))

-- a test, or 0 for Not, 1 for And, 2 for Or, 3 for the end of a list of trees, 4 for one tree more before a list
abbrev pub Mark : Type 0
Mark = ℕ ⊎ (ColumnAt × Test)

abbrev mutual
  pub marks : Tree → List Mark → List Mark
  marks (Compare c o l) ms = inr (c, inl (o, l)) ∷ ms
  marks (Between c l h) ms = inr (c, inr (inl (l, h))) ∷ ms
  marks (OneOf c ls) ms = inr (c, inr (inr (true, ls))) ∷ ms
  marks (NoneOf c ls) ms = inr (c, inr (inr (false, ls))) ∷ ms
  marks (Not t) ms = marks t (inl 0 ∷ ms)
  marks (And ts) ms = list_marks ts (inl 1 ∷ ms)
  marks (Or ts) ms = list_marks ts (inl 2 ∷ ms)

  pub list_marks : Trees → List Mark → List Mark
  list_marks End ms = inl 3 ∷ ms
  list_marks (Then t ts) ms = marks t (list_marks ts (inl 4 ∷ ms))

abbrev leaf : ColumnAt → Test → Tree
leaf c (inl (o, l)) = Compare c o l
leaf c (inr (inl (l, h))) = Between c l h
leaf c (inr (inr (true, ls))) = OneOf c ls
leaf c (inr (inr (false, ls))) = NoneOf c ls

abbrev one : Tree → Trees
one t = Then t End

abbrev first : Trees → Tree
first End = And End
first (Then t ts) = t

abbrev before : List Trees → List Trees
before [] = []
before (ts ∷ []) = []
before (ts ∷ (us ∷ s)) = Then (first us) ts ∷ s

abbrev around : (Trees → Trees) → List Trees → List Trees
around f [] = []
around f (ts ∷ s) = f ts ∷ s

abbrev joined : ℕ → List Trees → List Trees
joined zero s = around (λ ts. one (Not (first ts))) s
joined (suc zero) s = around (λ ts. one (And ts)) s
joined (suc (suc zero)) s = around (λ ts. one (Or ts)) s
joined (suc (suc (suc zero))) s = End ∷ s
joined (suc (suc (suc (suc n)))) s = before s

abbrev pub built : List Mark → List Trees → List Trees
built [] s = s
built (inl n ∷ ms) s = built ms (joined n s)
built (inr (c, test) ∷ ms) s = built ms (one (leaf c test) ∷ s)

abbrev pub top : List Trees → Tree
top [] = And End
top (ts ∷ s) = first ts

mutual
  marks-built : (t : Tree) (ms : List Mark) (s : List Trees) → built (marks t ms) s ≡ built ms (one t ∷ s)
  marks-built (Compare c o l) ms s = refl
  marks-built (Between c l h) ms s = refl
  marks-built (OneOf c ls) ms s = refl
  marks-built (NoneOf c ls) ms s = refl
  marks-built (Not t) ms s = marks-built t (inl 0 ∷ ms) s
  marks-built (And ts) ms s = list_marks-built ts (inl 1 ∷ ms) s
  marks-built (Or ts) ms s = list_marks-built ts (inl 2 ∷ ms) s

  list_marks-built : (ts : Trees) (ms : List Mark) (s : List Trees) → built (list_marks ts ms) s ≡ built ms (ts ∷ s)
  list_marks-built End ms s = refl
  list_marks-built (Then t ts) ms s =
      marks-built t (list_marks ts (inl 4 ∷ ms)) s ∙ list_marks-built ts (inl 4 ∷ ms) (one t ∷ s)

pub tree_back : (t : Tree) → top (built (marks t []) []) ≡ t
tree_back t = ap top (marks-built t [] [])

abbrev pub test_code : Coded Test
test_code =
    coded⊎ (coded× comparison_row.coded literal_row.coded)
    (coded⊎ (coded× literal_row.coded literal_row.coded) (coded× coded_bool (coded_list literal_row.coded)))

abbrev pub tree_code : Coded Tree
tree_code =
    code_by (List Mark) (coded_list (coded⊎ coded_ℕ (coded× column_row.coded test_code))) (λ t. marks t []) (λ ms. top (built ms [])) tree_back
