-- What a predicate means: a tree of tests on the columns of a row.
use Rattle.std.specs.Prelude.{ℕ, ◌+◌, List, [], ◌∷◌}
use Rattle.rt_model.specs.declared.query_parts.ColumnAt.{ColumnAt}
use Rattle.rt_model.specs.declared.query_parts.Comparison.{Comparison}
use Rattle.rt_model.specs.declared.query_parts.Literal.{Literal}

mutual
  pub data Tree : Type 0 where
    Compare : ColumnAt → Comparison → Literal → Tree
    Between : ColumnAt → Literal → Literal → Tree
    OneOf : ColumnAt → List Literal → Tree
    NoneOf : ColumnAt → List Literal → Tree
    Not : Tree → Tree
    And : Trees → Tree
    Or : Trees → Tree

  -- trees, one after another
  pub data Trees : Type 0 where
    End : Trees
    Then : Tree → Trees → Trees

-- a list of trees
abbrev pub trees : List Tree → Trees
trees [] = End
trees (t ∷ ts) = Then t (trees ts)

-- how many nodes there are
abbrev mutual
  pub nodes : Tree → ℕ
  nodes (Compare c o l) = 1
  nodes (Between c l h) = 1
  nodes (OneOf c ls) = 1
  nodes (NoneOf c ls) = 1
  nodes (Not t) = nodes t + 1
  nodes (And ts) = list_nodes ts + 1
  nodes (Or ts) = list_nodes ts + 1

  pub list_nodes : Trees → ℕ
  list_nodes End = 0
  list_nodes (Then t ts) = nodes t + list_nodes ts
