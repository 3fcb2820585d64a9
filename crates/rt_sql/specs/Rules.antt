-- The rules of syntax beyond the grammar, each at the first byte of what breaks it.
use Rattle.std.specs.Prelude.{ℕ, ◌||◌, Bool, true, false, List, [], ◌∷◌, ◌++◌, Option, Some, None, if◌then◌else◌}
use Rattle.std.specs.Str.{bytes_eq}
use Rattle.rt_model.specs.declared.query_parts.Aggregate.{Aggregate as Function}
use Rattle.rt_model.specs.declared.query_parts.Aggregate.TheVariants.{Count, Sum, Min, Max}
use Rattle.rt_model.specs.declared.query_parts.Item.{Item}
use Rattle.rt_model.specs.declared.query_parts.Item.TheVariants.{Column, Aggregate}
use Rattle.rt_grammar.specs.declared.parts.ItemAt.{ItemAt}
use Rattle.rt_grammar.specs.declared.parts.GroupAt.{GroupAt}
use Rattle.rt_grammar.specs.declared.parts.KeyAt.{KeyAt}
use Rattle.rt_grammar.specs.declared.parts.Parts.{Parts}

abbrev pub is_grouped : List ℕ → List GroupAt → Bool
is_grouped name [] = false
is_grouped name (group ∷ groups) = bytes_eq name group.column.name || is_grouped name groups

abbrev pub is_aggregate : Item → Bool
is_aggregate (Column column) = false
is_aggregate (Aggregate aggregate) = true

abbrev pub has_aggregate : List ItemAt → Bool
has_aggregate [] = false
has_aggregate (found ∷ items) = is_aggregate found.item || has_aggregate items

-- each name among the items stands in GROUP BY
abbrev pub may_stand : List GroupAt → Item → Bool
may_stand groups (Column column) = is_grouped column.name groups
may_stand groups (Aggregate aggregate) = true

abbrev pub ungrouped : List GroupAt → List ItemAt → Option ℕ
ungrouped groups [] = None
ungrouped groups (found ∷ items) = if may_stand groups found.item then ungrouped groups items else Some found.byte

-- no name comes twice in GROUP BY
abbrev pub repeated : List GroupAt → List GroupAt → Option ℕ
repeated before [] = None
repeated before (group ∷ groups) = if is_grouped group.column.name before then Some group.byte else repeated (before ++ group ∷ []) groups

abbrev pub same_aggregate : Function → Function → Bool
same_aggregate Count Count = true
same_aggregate (Sum a) (Sum b) = bytes_eq a.name b.name
same_aggregate (Min a) (Min b) = bytes_eq a.name b.name
same_aggregate (Max a) (Max b) = bytes_eq a.name b.name
same_aggregate a b = false

abbrev pub same_item : Item → Item → Bool
same_item (Column a) (Column b) = bytes_eq a.name b.name
same_item (Aggregate a) (Aggregate b) = same_aggregate a b
same_item a b = false

abbrev pub is_selected : Item → List ItemAt → Bool
is_selected item [] = false
is_selected item (found ∷ items) = same_item item found.item || is_selected item items

abbrev pub is_group : Item → List GroupAt → Bool
is_group (Column column) groups = is_grouped column.name groups
is_group (Aggregate aggregate) groups = false

-- each key stands among the items, or is a name of GROUP BY
abbrev pub stray : List ItemAt → List GroupAt → List KeyAt → Option ℕ
stray items groups [] = None
stray items groups (found ∷ keys) = if is_selected found.key.item items || is_group found.key.item groups then stray items groups keys else Some found.byte

abbrev pub first_byte : List ItemAt → Option ℕ
first_byte [] = None
first_byte (found ∷ items) = Some found.byte

abbrev pub first_of : Option ℕ → Option ℕ → Option ℕ
first_of (Some byte) later = Some byte
first_of None later = later

-- at least one item is an aggregate; items stand before names of GROUP BY in the text, and these before keys
abbrev pub breach : Parts → Option ℕ
breach parts =
    if has_aggregate parts.items
    then first_of (ungrouped parts.groups parts.items) (first_of (repeated [] parts.groups) (stray parts.items parts.groups parts.order))
    else first_byte parts.items
