-- Which columns a query may use so, by their kinds.
use Rattle.std.specs.Prelude.{◌&&◌, Bool, true, false, List, [], ◌∷◌, Option, Some, None}
use Rattle.std.specs.Option.{is_none}
use Rattle.rt_schema.specs.declared.column.Kind.{Kind}
use Rattle.rt_schema.specs.declared.schema.Schema.{Schema}
use Rattle.rt_model.specs.Checked.{fault_of, has_extremes, has_sum, kind_at}
use Rattle.rt_model.specs.Tree.{Tree}
use Rattle.rt_model.specs.declared.query_parts.Aggregate.TheVariants as aggregate
use Rattle.rt_model.specs.declared.query_parts.Item.{Item}
use Rattle.rt_model.specs.declared.query_parts.Item.TheVariants as item
use Rattle.rt_grammar.specs.declared.parts.ItemAt.{ItemAt}
use Rattle.rt_grammar.specs.declared.parts.Parts.{Parts}

-- there is a column, and its kind passes a test
abbrev pub is_kind : (Kind → Bool) → Option Kind → Bool
is_kind f None = false
is_kind f (Some kind) = f kind

-- SUM is of INT and LONG, MIN and MAX are of INT, LONG and TIMESTAMP
abbrev pub is_typed_item : Schema → Item → Bool
is_typed_item schema (item.Column column) = true
is_typed_item schema (item.Aggregate aggregate.Count) = true
is_typed_item schema (item.Aggregate (aggregate.Sum column)) = is_kind has_sum (kind_at schema column)
is_typed_item schema (item.Aggregate (aggregate.Min column)) = is_kind has_extremes (kind_at schema column)
is_typed_item schema (item.Aggregate (aggregate.Max column)) = is_kind has_extremes (kind_at schema column)

abbrev pub are_typed_items : Schema → List ItemAt → Bool
are_typed_items schema [] = true
are_typed_items schema (found ∷ items) = is_typed_item schema found.item && are_typed_items schema items

-- a filter has no fault
abbrev pub is_typed_filter : Schema → Option Tree → Bool
is_typed_filter schema None = true
is_typed_filter schema (Some t) = is_none (fault_of schema t)

-- keys stand among the items, or are names
abbrev pub is_typed_query : Schema → Parts → Bool
is_typed_query schema parts = are_typed_items schema parts.items && is_typed_filter schema parts.filter
