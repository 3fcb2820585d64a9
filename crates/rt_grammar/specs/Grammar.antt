-- The grammar of queries. Each relation reads a front of the tokens, and says what it means and which tokens follow it.
use Rattle.std.specs.Prelude.{ℕ, suc, Bool, true, false, List, [], ◌∷◌, Option, Some, None}
use Rattle.rt_schema.specs.declared.schema.Schema.{Schema}
use Rattle.rt_model.specs.Tree.{Tree, Compare, Between, OneOf, NoneOf, Not}
use Rattle.rt_model.specs.declared.query_parts.Aggregate.TheVariants as aggregate
use Rattle.rt_model.specs.declared.query_parts.ColumnAt.{ColumnAt}
use Rattle.rt_model.specs.declared.query_parts.Comparison.{Comparison as Operator}
use Rattle.rt_model.specs.declared.query_parts.Item.TheVariants as item
use Rattle.rt_model.specs.declared.query_parts.Literal.{Literal}
use Rattle.rt_model.specs.declared.query_parts.Literal.TheVariants as value
use Rattle.rt_tokens.specs.Literals.{whole, or_zero, rows, or_none}
use Rattle.rt_tokens.specs.declared.lexeme.Lexeme.{Lexeme}
use Rattle.rt_tokens.specs.declared.lexeme.Lexeme.TheVariants.{Word, Name, Number, Text, Comparison}
use Rattle.rt_tokens.specs.declared.lexeme.Word.TheVariants as word
use Rattle.rt_tokens.specs.declared.token.Token.{Token}
use Rattle.rt_grammar.specs.Columns.{column_at}
use Rattle.rt_grammar.specs.Nested.{all_of, any_of}
use Rattle.rt_grammar.specs.declared.parts.ItemAt.{ItemAt}
use Rattle.rt_grammar.specs.declared.parts.GroupAt.{GroupAt}
use Rattle.rt_grammar.specs.declared.parts.KeyAt.{KeyAt}
use Rattle.rt_grammar.specs.declared.parts.Parts.{Parts}

-- a token that begins at a byte
abbrev pub tok : ℕ → Lexeme → Token
tok byte lexeme = record { byte = byte; lexeme = lexeme }

-- { "," x }
pub data Repeats (X : Type 0) (P : List Token → List Token → X → Type 0) : List Token → List Token → List X → Type 0 where
  no_more : (rest : List Token) → Repeats X P rest rest []
  comma : (b : ℕ) {ts m rest : List Token} {x : X} {xs : List X} →
      P ts m x → Repeats X P m rest xs → Repeats X P (tok b (Word word.Comma) ∷ ts) rest (x ∷ xs)

-- lit = ["-"] digits | "'" text "'" | "true" | "false"
pub data IsLiteral : List Token → List Token → Literal → Type 0 where
  number : (b : ℕ) (n : Option ℕ) (rest : List Token) → IsLiteral (tok b (Number n) ∷ rest) rest (value.Int (or_zero (whole false n)))
  minus : (b c : ℕ) (n : Option ℕ) (rest : List Token) → IsLiteral (tok b (Word word.Minus) ∷ tok c (Number n) ∷ rest) rest (value.Int (or_zero (whole true n)))
  quoted : (b : ℕ) (t : List ℕ) (rest : List Token) → IsLiteral (tok b (Text t) ∷ rest) rest (value.Text t)
  truth : (b : ℕ) (rest : List Token) → IsLiteral (tok b (Word word.True) ∷ rest) rest (value.Bool true)
  untruth : (b : ℕ) (rest : List Token) → IsLiteral (tok b (Word word.False) ∷ rest) rest (value.Bool false)

-- "(" lit { "," lit } ")"
pub data IsList : List Token → List Token → List Literal → Type 0 where
  list : (b c : ℕ) {ts m rest : List Token} {l : Literal} {ls : List Literal} →
      IsLiteral ts m l → Repeats Literal IsLiteral m (tok c (Word word.Close) ∷ rest) ls → IsList (tok b (Word word.Open) ∷ ts) rest (l ∷ ls)

-- what follows a column's name: op lit | "BETWEEN" lit "AND" lit | ["NOT"] "IN" list
pub data IsTest : ColumnAt → List Token → List Token → Tree → Type 0 where
  compares : (b : ℕ) (column : ColumnAt) (o : Operator) {ts rest : List Token} {l : Literal} →
      IsLiteral ts rest l → IsTest column (tok b (Comparison o) ∷ ts) rest (Compare column o l)
  between : (b c : ℕ) (column : ColumnAt) {ts m rest : List Token} {low high : Literal} →
      IsLiteral ts (tok c (Word word.And) ∷ m) low → IsLiteral m rest high → IsTest column (tok b (Word word.Between) ∷ ts) rest (Between column low high)
  one_of : (b : ℕ) (column : ColumnAt) {ts rest : List Token} {ls : List Literal} →
      IsList ts rest ls → IsTest column (tok b (Word word.In) ∷ ts) rest (OneOf column ls)
  none_of : (b c : ℕ) (column : ColumnAt) {ts rest : List Token} {ls : List Literal} →
      IsList ts rest ls → IsTest column (tok b (Word word.Not) ∷ tok c (Word word.In) ∷ ts) rest (NoneOf column ls)

-- Predicates, within which at most so many parentheses and NOTs are open at one place.
mutual
  -- term = "NOT" term | "(" pred ")" | name test
  pub data IsTerm : Schema → ℕ → List Token → List Token → Tree → Type 0 where
    negated : (b : ℕ) {schema : Schema} {room : ℕ} {ts rest : List Token} {t : Tree} →
        IsTerm schema room ts rest t → IsTerm schema (suc room) (tok b (Word word.Not) ∷ ts) rest (Not t)
    enclosed : (b c : ℕ) {schema : Schema} {room : ℕ} {ts rest : List Token} {t : Tree} →
        IsPredicate schema room ts (tok c (Word word.Close) ∷ rest) t → IsTerm schema (suc room) (tok b (Word word.Open) ∷ ts) rest t
    test : (b : ℕ) (schema : Schema) (room : ℕ) (name : List ℕ) {ts rest : List Token} {t : Tree} →
        IsTest (column_at schema name) ts rest t → IsTerm schema room (tok b (Name name) ∷ ts) rest t

  -- conj = term { "AND" term }
  pub data IsCondition : Schema → ℕ → List Token → List Token → Tree → Type 0 where
    condition : {schema : Schema} {room : ℕ} {ts m rest : List Token} {t : Tree} {more : List Tree} →
        IsTerm schema room ts m t → MoreTerms schema room m rest more → IsCondition schema room ts rest (all_of (t ∷ more))

  pub data MoreTerms : Schema → ℕ → List Token → List Token → List Tree → Type 0 where
    no_term : (schema : Schema) (room : ℕ) (rest : List Token) → MoreTerms schema room rest rest []
    and : (b : ℕ) {schema : Schema} {room : ℕ} {ts m rest : List Token} {t : Tree} {more : List Tree} →
        IsTerm schema room ts m t → MoreTerms schema room m rest more → MoreTerms schema room (tok b (Word word.And) ∷ ts) rest (t ∷ more)

  -- pred = conj { "OR" conj }
  pub data IsPredicate : Schema → ℕ → List Token → List Token → Tree → Type 0 where
    predicate : {schema : Schema} {room : ℕ} {ts m rest : List Token} {t : Tree} {more : List Tree} →
        IsCondition schema room ts m t → MoreConditions schema room m rest more → IsPredicate schema room ts rest (any_of (t ∷ more))

  pub data MoreConditions : Schema → ℕ → List Token → List Token → List Tree → Type 0 where
    no_condition : (schema : Schema) (room : ℕ) (rest : List Token) → MoreConditions schema room rest rest []
    or : (b : ℕ) {schema : Schema} {room : ℕ} {ts m rest : List Token} {t : Tree} {more : List Tree} →
        IsCondition schema room ts m t → MoreConditions schema room m rest more → MoreConditions schema room (tok b (Word word.Or) ∷ ts) rest (t ∷ more)

-- item = name | "COUNT" "(" "*" ")" | ("SUM" | "MIN" | "MAX") "(" name ")"
pub data IsItem : Schema → List Token → List Token → ItemAt → Type 0 where
  column : (b : ℕ) (schema : Schema) (name : List ℕ) (rest : List Token) →
      IsItem schema (tok b (Name name) ∷ rest) rest (record { byte = b; item = item.Column (column_at schema name) })
  count : (b c d e : ℕ) (schema : Schema) (rest : List Token) →
      IsItem schema (tok b (Word word.Count) ∷ tok c (Word word.Open) ∷ tok d (Word word.Star) ∷ tok e (Word word.Close) ∷ rest) rest
      (record { byte = b; item = item.Aggregate aggregate.Count })
  sum : (b c d e : ℕ) (schema : Schema) (name : List ℕ) (rest : List Token) →
      IsItem schema (tok b (Word word.Sum) ∷ tok c (Word word.Open) ∷ tok d (Name name) ∷ tok e (Word word.Close) ∷ rest) rest
      (record { byte = b; item = item.Aggregate (aggregate.Sum (column_at schema name)) })
  min : (b c d e : ℕ) (schema : Schema) (name : List ℕ) (rest : List Token) →
      IsItem schema (tok b (Word word.Min) ∷ tok c (Word word.Open) ∷ tok d (Name name) ∷ tok e (Word word.Close) ∷ rest) rest
      (record { byte = b; item = item.Aggregate (aggregate.Min (column_at schema name)) })
  max : (b c d e : ℕ) (schema : Schema) (name : List ℕ) (rest : List Token) →
      IsItem schema (tok b (Word word.Max) ∷ tok c (Word word.Open) ∷ tok d (Name name) ∷ tok e (Word word.Close) ∷ rest) rest
      (record { byte = b; item = item.Aggregate (aggregate.Max (column_at schema name)) })

-- [ "ASC" | "DESC" ]
pub data IsDirection : List Token → List Token → Bool → Type 0 where
  unsaid : (rest : List Token) → IsDirection rest rest false
  ascending : (b : ℕ) (rest : List Token) → IsDirection (tok b (Word word.Ascending) ∷ rest) rest false
  descending : (b : ℕ) (rest : List Token) → IsDirection (tok b (Word word.Descending) ∷ rest) rest true

-- key = item [ "ASC" | "DESC" ]
pub data IsKey : Schema → List Token → List Token → KeyAt → Type 0 where
  key : {schema : Schema} {ts m rest : List Token} {found : ItemAt} {down : Bool} →
      IsItem schema ts m found → IsDirection m rest down →
      IsKey schema ts rest (record { byte = found.byte; key = record { item = found.item; descending = down } })

pub data IsName : Schema → List Token → List Token → GroupAt → Type 0 where
  name : (b : ℕ) (schema : Schema) (n : List ℕ) (rest : List Token) →
      IsName schema (tok b (Name n) ∷ rest) rest (record { byte = b; column = column_at schema n })

-- [ "WHERE" pred ]
pub data IsWhere : Schema → ℕ → List Token → List Token → Option Tree → Type 0 where
  unfiltered : (schema : Schema) (room : ℕ) (rest : List Token) → IsWhere schema room rest rest None
  filtered : (b : ℕ) {schema : Schema} {room : ℕ} {ts rest : List Token} {t : Tree} →
      IsPredicate schema room ts rest t → IsWhere schema room (tok b (Word word.Where) ∷ ts) rest (Some t)

-- [ "GROUP" "BY" name { "," name } ]
pub data IsGroups : Schema → List Token → List Token → List GroupAt → Type 0 where
  ungrouped : (schema : Schema) (rest : List Token) → IsGroups schema rest rest []
  grouped : (b c : ℕ) {schema : Schema} {ts m rest : List Token} {g : GroupAt} {gs : List GroupAt} →
      IsName schema ts m g → Repeats GroupAt (IsName schema) m rest gs → IsGroups schema (tok b (Word word.Group) ∷ tok c (Word word.By) ∷ ts) rest (g ∷ gs)

-- [ "ORDER" "BY" key { "," key } ]
pub data IsOrder : Schema → List Token → List Token → List KeyAt → Type 0 where
  unordered : (schema : Schema) (rest : List Token) → IsOrder schema rest rest []
  ordered : (b c : ℕ) {schema : Schema} {ts m rest : List Token} {k : KeyAt} {ks : List KeyAt} →
      IsKey schema ts m k → Repeats KeyAt (IsKey schema) m rest ks → IsOrder schema (tok b (Word word.Order) ∷ tok c (Word word.By) ∷ ts) rest (k ∷ ks)

-- [ "LIMIT" digits ]
pub data IsLimit : List Token → List Token → Option ℕ → Type 0 where
  unlimited : (rest : List Token) → IsLimit rest rest None
  limited : (b c : ℕ) (n : Option ℕ) (rest : List Token) → IsLimit (tok b (Word word.Limit) ∷ tok c (Number n) ∷ rest) rest (Some (or_none (rows n)))

-- [ ";" ]
pub data IsEnd : List Token → Type 0 where
  bare : IsEnd []
  semicolon : (b : ℕ) → IsEnd (tok b (Word word.Semicolon) ∷ [])

abbrev pub or_else : ℕ → Option ℕ → ℕ
or_else default None = default
or_else default (Some n) = n

-- "SELECT" item { "," item } "FROM" name [ "WHERE" pred ] [ "GROUP" "BY" .. ] [ "ORDER" "BY" .. ] [ "LIMIT" digits ] [ ";" ]
-- LIMIT is 10 if absent.
pub data IsQuery : Schema → ℕ → List Token → Parts → Type 0 where
  query : (s f n : ℕ) (table : List ℕ) {schema : Schema} {room : ℕ} {i m w g o l e : List Token} {x : ItemAt} {xs : List ItemAt}
      {filter : Option Tree} {groups : List GroupAt} {keys : List KeyAt} {limit : Option ℕ} →
      IsItem schema i m x → Repeats ItemAt (IsItem schema) m (tok f (Word word.From) ∷ tok n (Name table) ∷ w) xs →
      IsWhere schema room w g filter → IsGroups schema g o groups → IsOrder schema o l keys → IsLimit l e limit → IsEnd e →
      IsQuery schema room (tok s (Word word.Select) ∷ i)
      (record { items = x ∷ xs; table = table; filter = filter; groups = groups; order = keys; limit = or_else 10 limit })
