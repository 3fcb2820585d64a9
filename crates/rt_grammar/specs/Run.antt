-- How all tokens of a text are read.
use Rattle.std.specs.Prelude.{◌≡◌, ℕ, List, [], ◌∷◌, Option, Some, None, Result, Ok, Err, false}
use Rattle.rt_schema.specs.declared.schema.Schema.{Schema}
use Rattle.rt_tokens.specs.declared.token.Token.{Token}
use Rattle.rt_grammar.specs.Nested.{predicate_of}
use Rattle.rt_grammar.specs.Steps.{at, step, with_key}
use Rattle.rt_grammar.specs.declared.nesting.Nesting.{Nesting}
use Rattle.rt_grammar.specs.declared.nesting.Enclosing.{Enclosing}
use Rattle.rt_grammar.specs.declared.parts.Parts.{Parts}
use Rattle.rt_grammar.specs.declared.sql_refused.SqlRefused.{SqlRefused}
use Rattle.rt_grammar.specs.declared.sql_refused.SqlRefused.TheVariants.{Syntax, NoTable, NoColumn, WrongType, Limit, Memory}
use Rattle.rt_grammar.specs.declared.state.Stage.{Stage}
use Rattle.rt_grammar.specs.declared.state.Stage.TheVariants as stage
use Rattle.rt_grammar.specs.declared.state.State.{State}
use Rattle.rt_grammar.specs.declared.stop.Stop.{Stop}
use Rattle.rt_grammar.specs.declared.stop.Stop.TheVariants as stop

-- the answer is this one, unless memory ran out
abbrev pub Answers : {T : Type 0} → Result T SqlRefused → Result T SqlRefused → Type 0
Answers wanted (Ok x) = Ok x ≡ wanted
Answers wanted (Err (Syntax byte)) = Err (Syntax byte) ≡ wanted
Answers wanted (Err NoTable) = Err NoTable ≡ wanted
Answers wanted (Err NoColumn) = Err NoColumn ≡ wanted
Answers wanted (Err WrongType) = Err WrongType ≡ wanted
Answers wanted (Err Limit) = Err Limit ≡ wanted
Answers wanted (Err Memory) = Unit {0}

-- so is the answer of a step
abbrev pub Gives : {T : Type 0} → Result T Stop → Result T Stop → Type 0
Gives wanted (Ok x) = Ok x ≡ wanted
Gives wanted (Err stop.Stuck) = Err stop.Stuck ≡ wanted
Gives wanted (Err stop.Deep) = Err stop.Deep ≡ wanted
Gives wanted (Err stop.Memory) = Unit {0}

-- nothing read yet; LIMIT is 10 if absent
abbrev pub nothing : State
nothing = at stage.Select (record { items = []; table = []; filter = None; groups = []; order = []; limit = 10 })

abbrev pub predicate_ends : Nesting → Parts → List Enclosing → Option Parts
predicate_ends nesting parts [] = Some (record parts { filter = Some (predicate_of nesting.level) })
predicate_ends nesting parts (enclosing ∷ outer) = None

-- the parts of the query, where it may end here
abbrev pub ended : Stage → Parts → Option Parts
ended stage.AfterTable parts = Some parts
ended (stage.AfterTerm nesting) parts = predicate_ends nesting parts nesting.outer
ended stage.AfterGroup parts = Some parts
ended (stage.AfterKey found) parts = Some (with_key found false parts)
ended stage.AfterDirection parts = Some parts
ended stage.AfterLimit parts = Some parts
ended stage.End parts = Some parts
ended other parts = None

abbrev pub or_syntax : ℕ → Option Parts → Result Parts SqlRefused
or_syntax byte (Some parts) = Ok parts
or_syntax byte None = Err (Syntax byte)

abbrev pub refused : ℕ → Stop → SqlRefused
refused byte stop.Stuck = Syntax byte
refused byte stop.Deep = Limit
refused byte stop.Memory = Memory

abbrev pub then_read : ℕ → Result State Stop → (State → Result Parts SqlRefused) → Result Parts SqlRefused
then_read byte (Ok state) more = more state
then_read byte (Err stop) more = Err (refused byte stop)

-- the parts of a query whose tokens go on so, in a text of so many bytes
abbrev pub run : Schema → ℕ → State → List Token → Result Parts SqlRefused
run schema size state [] = or_syntax size (ended state.stage state.parts)
run schema size state (token ∷ tokens) = then_read token.byte (step schema state token) (λ next. run schema size next tokens)
