-- Where a query of the grammar breaks a further rule of syntax.
use Rattle.std.specs.Prelude.{◌≡◌, ◌≤◌, ℕ, true, false, List, ◌∷◌, ◌++◌}
use Rattle.rt_lists.specs.Members.{Has}
use Rattle.rt_grammar.specs.declared.parts.ItemAt.{ItemAt}
use Rattle.rt_grammar.specs.declared.parts.GroupAt.{GroupAt}
use Rattle.rt_grammar.specs.declared.parts.KeyAt.{KeyAt}
use Rattle.rt_grammar.specs.declared.parts.Parts.{Parts}
use Rattle.rt_sql.specs.Rules.{has_aggregate, may_stand, is_grouped, is_selected, is_group}

-- a rule is broken by what begins at this byte
pub data IsBreach (parts : Parts) : ℕ → Type 0 where
  -- no item is an aggregate: the first item breaks the rule
  no_aggregate : (first : ItemAt) (items : List ItemAt) → parts.items ≡ first ∷ items → has_aggregate parts.items ≡ false → IsBreach parts first.byte
  -- a name among the items that doesn't stand in GROUP BY
  ungrouped : (found : ItemAt) → Has parts.items found → may_stand parts.groups found.item ≡ false → IsBreach parts found.byte
  -- a name of GROUP BY that has come before
  repeated : (before : List GroupAt) (found : GroupAt) (groups : List GroupAt) → parts.groups ≡ before ++ found ∷ groups → is_grouped found.column.name before ≡ true → IsBreach parts found.byte
  -- a key that neither stands among the items nor is a name of GROUP BY
  stray : (found : KeyAt) → Has parts.order found → is_selected found.key.item parts.items ≡ false → is_group found.key.item parts.groups ≡ false → IsBreach parts found.byte

-- the breach of the least byte is there
abbrev pub IsFirstBreach : Parts → ℕ → Type 0
IsFirstBreach parts byte = IsBreach parts byte × ((other : ℕ) → IsBreach parts other → byte ≤ other)
