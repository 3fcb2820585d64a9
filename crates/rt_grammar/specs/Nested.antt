-- Predicates that are being read, one within another.
use Rattle.std.specs.Prelude.{ℕ, zero, suc, ◌-◌, List, [], ◌∷◌, ◌++◌}
use Rattle.rt_model.specs.Tree.{Tree, Not, And, Or, trees, End}
use Rattle.rt_grammar.specs.declared.nesting.Level.{Level}
use Rattle.rt_grammar.specs.declared.nesting.Enclosing.{Enclosing}
use Rattle.rt_grammar.specs.declared.nesting.Nesting.{Nesting}

-- AND of terms; one term is itself
abbrev pub all_of : List Tree → Tree
all_of [] = And End
all_of (t ∷ []) = t
all_of (t ∷ u ∷ ts) = And (trees (t ∷ u ∷ ts))

-- OR of conditions; one is itself
abbrev pub any_of : List Tree → Tree
any_of [] = Or End
any_of (t ∷ []) = t
any_of (t ∷ u ∷ ts) = Or (trees (t ∷ u ∷ ts))

-- a term behind so many NOTs
abbrev pub under : ℕ → Tree → Tree
under zero t = t
under (suc nots) t = under nots (Not t)

abbrev pub new_level : ℕ → Level
new_level room = record { room = room; conditions = []; terms = [] }

abbrev pub with_term : Level → ℕ → Tree → Level
with_term level nots t = record level { terms = level.terms ++ under nots t ∷ [] }

-- OR ends a condition
abbrev pub with_condition : Level → Level
with_condition level = record level { conditions = level.conditions ++ all_of level.terms ∷ []; terms = [] }

-- what has been read at a level is a predicate
abbrev pub predicate_of : Level → Tree
predicate_of level = any_of (level.conditions ++ all_of level.terms ∷ [])

abbrev pub start : Nesting
start = record { level = new_level 64; outer = [] }

-- a parenthesis opens behind so many NOTs
abbrev pub inside : Nesting → ℕ → Nesting
inside nesting nots = record { level = new_level (nesting.level.room - nots - 1); outer = record { level = nesting.level; nots = nots } ∷ nesting.outer }

-- a parenthesis closes
abbrev pub outside : Level → Enclosing → List Enclosing → Nesting
outside level enclosing outer = record { level = with_term enclosing.level enclosing.nots (predicate_of level); outer = outer }
