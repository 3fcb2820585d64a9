-- How a query is read, token by token.
use Rattle.std.specs.Prelude.{ℕ, ◌+◌, Bool, true, false, List, [], ◌∷◌, ◌++◌, nat_lt, Some, Result, Ok, Err, if◌then◌else◌}
use Rattle.rt_schema.specs.declared.schema.Schema.{Schema}
use Rattle.rt_model.specs.declared.query_parts.Aggregate.TheVariants as aggregate
use Rattle.rt_model.specs.declared.query_parts.Item.TheVariants as item
use Rattle.rt_tokens.specs.Literals.{rows, or_none}
use Rattle.rt_tokens.specs.declared.lexeme.Lexeme.{Lexeme}
use Rattle.rt_tokens.specs.declared.lexeme.Lexeme.TheVariants.{Word, Name, Number}
use Rattle.rt_tokens.specs.declared.lexeme.Word.TheVariants as word
use Rattle.rt_tokens.specs.declared.token.Token.{Token}
use Rattle.rt_grammar.specs.Columns.{column_at}
use Rattle.rt_grammar.specs.Nested.{start, inside, outside, with_term, with_condition, predicate_of}
use Rattle.rt_grammar.specs.Testing.{tested}
use Rattle.rt_grammar.specs.declared.call.Call.{Call}
use Rattle.rt_grammar.specs.declared.call.Call.TheVariants as call
use Rattle.rt_grammar.specs.declared.call.Function.{Function}
use Rattle.rt_grammar.specs.declared.call.Function.TheVariants.{Count, Sum, Min, Max}
use Rattle.rt_grammar.specs.declared.nesting.Level.{Level}
use Rattle.rt_grammar.specs.declared.nesting.Enclosing.{Enclosing}
use Rattle.rt_grammar.specs.declared.nesting.Nesting.{Nesting}
use Rattle.rt_grammar.specs.declared.parts.ItemAt.{ItemAt}
use Rattle.rt_grammar.specs.declared.parts.Parts.{Parts}
use Rattle.rt_grammar.specs.declared.state.Side.{Side}
use Rattle.rt_grammar.specs.declared.state.Side.TheVariants as side
use Rattle.rt_grammar.specs.declared.state.Stage.{Stage}
use Rattle.rt_grammar.specs.declared.state.Stage.TheVariants as stage
use Rattle.rt_grammar.specs.declared.state.State.{State}
use Rattle.rt_grammar.specs.declared.stop.Stop.{Stop}
use Rattle.rt_grammar.specs.declared.stop.Stop.TheVariants.{Stuck, Deep}
use Rattle.rt_grammar.specs.declared.test.Test.TheVariants as test
use Rattle.rt_grammar.specs.declared.test.Tested.{Tested}
use Rattle.rt_grammar.specs.declared.test.Tested.TheVariants.{More, Whole}

abbrev pub at : Stage → Parts → State
at stage parts = record { stage = stage; parts = parts }

abbrev pub go : Stage → Parts → Result State Stop
go stage parts = Ok (at stage parts)

abbrev pub select : Lexeme → Parts → Result State Stop
select (Word word.Select) parts = go (stage.Wanted side.Select) parts
select other parts = Err Stuck

-- an item or a key has been read
abbrev pub with_item : Side → ItemAt → Parts → State
with_item side.Select found parts = at stage.AfterItem (record parts { items = parts.items ++ found ∷ [] })
with_item side.Order found parts = at (stage.AfterKey found) parts

abbrev pub wanted : Schema → Side → ℕ → Lexeme → Parts → Result State Stop
wanted schema side byte (Name name) parts = Ok (with_item side (record { byte = byte; item = item.Column (column_at schema name) }) parts)
wanted schema side byte (Word word.Count) parts = go (stage.Call side (call.Open byte Count)) parts
wanted schema side byte (Word word.Sum) parts = go (stage.Call side (call.Open byte Sum)) parts
wanted schema side byte (Word word.Min) parts = go (stage.Call side (call.Open byte Min)) parts
wanted schema side byte (Word word.Max) parts = go (stage.Call side (call.Open byte Max)) parts
wanted schema side byte other parts = Err Stuck

abbrev pub argument : Schema → ℕ → Function → Lexeme → Result ItemAt Stop
argument schema byte Count (Word word.Star) = Ok (record { byte = byte; item = item.Aggregate aggregate.Count })
argument schema byte Sum (Name name) = Ok (record { byte = byte; item = item.Aggregate (aggregate.Sum (column_at schema name)) })
argument schema byte Min (Name name) = Ok (record { byte = byte; item = item.Aggregate (aggregate.Min (column_at schema name)) })
argument schema byte Max (Name name) = Ok (record { byte = byte; item = item.Aggregate (aggregate.Max (column_at schema name)) })
argument schema byte function other = Err Stuck

-- the call's last parenthesis comes
abbrev pub closing : Side → Parts → Result ItemAt Stop → Result State Stop
closing side parts (Ok found) = go (stage.Call side (call.Close found)) parts
closing side parts (Err stop) = Err stop

abbrev pub called : Schema → Side → Call → Lexeme → Parts → Result State Stop
called schema side (call.Open byte function) (Word word.Open) parts = go (stage.Call side (call.Argument byte function)) parts
called schema side (call.Argument byte function) lexeme parts = closing side parts (argument schema byte function lexeme)
called schema side (call.Close found) (Word word.Close) parts = Ok (with_item side found parts)
called schema side other lexeme parts = Err Stuck

abbrev pub after_item : Lexeme → Parts → Result State Stop
after_item (Word word.Comma) parts = go (stage.Wanted side.Select) parts
after_item (Word word.From) parts = go stage.Table parts
after_item other parts = Err Stuck

abbrev pub table : Lexeme → Parts → Result State Stop
table (Name name) parts = go stage.AfterTable (record parts { table = name })
table other parts = Err Stuck

-- what may still come, from the last part on
abbrev pub after_limit : Lexeme → Parts → Result State Stop
after_limit (Word word.Semicolon) parts = go stage.End parts
after_limit other parts = Err Stuck

abbrev pub after_order : Lexeme → Parts → Result State Stop
after_order (Word word.Limit) parts = go stage.Limit parts
after_order other parts = after_limit other parts

abbrev pub after_groups : Lexeme → Parts → Result State Stop
after_groups (Word word.Order) parts = go stage.OrderBy parts
after_groups other parts = after_order other parts

abbrev pub after_filter : Lexeme → Parts → Result State Stop
after_filter (Word word.Group) parts = go stage.GroupBy parts
after_filter other parts = after_groups other parts

abbrev pub after_table : Lexeme → Parts → Result State Stop
after_table (Word word.Where) parts = go (stage.Term start 0) parts
after_table other parts = after_filter other parts

-- a parenthesis or a NOT, where there is room for it
abbrev pub deeper : Nesting → ℕ → Stage → Parts → Result State Stop
deeper nesting nots next parts = if nat_lt nots nesting.level.room then go next parts else Err Deep

abbrev pub term : Schema → Nesting → ℕ → Lexeme → Parts → Result State Stop
term schema nesting nots (Word word.Not) parts = deeper nesting nots (stage.Term nesting (nots + 1)) parts
term schema nesting nots (Word word.Open) parts = deeper nesting nots (stage.Term (inside nesting nots) 0) parts
term schema nesting nots (Name name) parts = go (stage.Test nesting nots (test.Operator (column_at schema name))) parts
term schema nesting nots other parts = Err Stuck

abbrev pub after_test : Nesting → ℕ → Parts → Result Tested Stop → Result State Stop
after_test nesting nots parts (Ok (More more)) = go (stage.Test nesting nots more) parts
after_test nesting nots parts (Ok (Whole tree)) = go (stage.AfterTerm (record nesting { level = with_term nesting.level nots tree })) parts
after_test nesting nots parts (Err stop) = Err stop

-- neither AND nor OR
abbrev pub after_predicate : Level → List Enclosing → Lexeme → Parts → Result State Stop
after_predicate level [] other parts = after_filter other (record parts { filter = Some (predicate_of level) })
after_predicate level (enclosing ∷ outer) (Word word.Close) parts = go (stage.AfterTerm (outside level enclosing outer)) parts
after_predicate level (enclosing ∷ outer) other parts = Err Stuck

abbrev pub after_term : Nesting → Lexeme → Parts → Result State Stop
after_term nesting (Word word.And) parts = go (stage.Term nesting 0) parts
after_term nesting (Word word.Or) parts = go (stage.Term (record nesting { level = with_condition nesting.level }) 0) parts
after_term nesting other parts = after_predicate nesting.level nesting.outer other parts

abbrev pub group_by : Lexeme → Parts → Result State Stop
group_by (Word word.By) parts = go stage.Group parts
group_by other parts = Err Stuck

abbrev pub group : Schema → ℕ → Lexeme → Parts → Result State Stop
group schema byte (Name name) parts = go stage.AfterGroup (record parts { groups = parts.groups ++ record { byte = byte; column = column_at schema name } ∷ [] })
group schema byte other parts = Err Stuck

abbrev pub after_group : Lexeme → Parts → Result State Stop
after_group (Word word.Comma) parts = go stage.Group parts
after_group other parts = after_groups other parts

abbrev pub order_by : Lexeme → Parts → Result State Stop
order_by (Word word.By) parts = go (stage.Wanted side.Order) parts
order_by other parts = Err Stuck

abbrev pub with_key : ItemAt → Bool → Parts → Parts
with_key found descending parts = record parts { order = parts.order ++ record { byte = found.byte; key = record { item = found.item; descending = descending } } ∷ [] }

abbrev pub after_direction : Lexeme → Parts → Result State Stop
after_direction (Word word.Comma) parts = go (stage.Wanted side.Order) parts
after_direction other parts = after_order other parts

abbrev pub after_key : ItemAt → Lexeme → Parts → Result State Stop
after_key found (Word word.Ascending) parts = go stage.AfterDirection (with_key found false parts)
after_key found (Word word.Descending) parts = go stage.AfterDirection (with_key found true parts)
after_key found other parts = after_direction other (with_key found false parts)

abbrev pub limit : Lexeme → Parts → Result State Stop
limit (Number n) parts = go stage.AfterLimit (record parts { limit = or_none (rows n) })
limit other parts = Err Stuck

-- a query after one more token
abbrev pub step_at : Schema → Stage → ℕ → Lexeme → Parts → Result State Stop
step_at schema stage.Select byte lexeme parts = select lexeme parts
step_at schema (stage.Wanted side) byte lexeme parts = wanted schema side byte lexeme parts
step_at schema (stage.Call side call) byte lexeme parts = called schema side call lexeme parts
step_at schema stage.AfterItem byte lexeme parts = after_item lexeme parts
step_at schema stage.Table byte lexeme parts = table lexeme parts
step_at schema stage.AfterTable byte lexeme parts = after_table lexeme parts
step_at schema (stage.Term nesting nots) byte lexeme parts = term schema nesting nots lexeme parts
step_at schema (stage.Test nesting nots test) byte lexeme parts = after_test nesting nots parts (tested test lexeme)
step_at schema (stage.AfterTerm nesting) byte lexeme parts = after_term nesting lexeme parts
step_at schema stage.GroupBy byte lexeme parts = group_by lexeme parts
step_at schema stage.Group byte lexeme parts = group schema byte lexeme parts
step_at schema stage.AfterGroup byte lexeme parts = after_group lexeme parts
step_at schema stage.OrderBy byte lexeme parts = order_by lexeme parts
step_at schema (stage.AfterKey found) byte lexeme parts = after_key found lexeme parts
step_at schema stage.AfterDirection byte lexeme parts = after_direction lexeme parts
step_at schema stage.Limit byte lexeme parts = limit lexeme parts
step_at schema stage.AfterLimit byte lexeme parts = after_limit lexeme parts
step_at schema stage.End byte lexeme parts = Err Stuck

abbrev pub step : Schema → State → Token → Result State Stop
step schema state token = step_at schema state.stage token.byte token.lexeme state.parts
