-- What completes a query that has been read so far, by the grammar.
use Rattle.std.proofs.Common.{ℕ, ◌+◌, ◌-◌, Bool, List, [], ◌∷◌, ◌++◌, Option, Some, None}
use Rattle.rt_schema.specs.declared.schema.Schema.{Schema}
use Rattle.rt_model.specs.Tree.{Tree, Compare, Between}
use Rattle.rt_model.specs.declared.query_parts.ColumnAt.{ColumnAt}
use Rattle.rt_model.specs.declared.query_parts.Literal.{Literal}
use Rattle.rt_tokens.specs.declared.lexeme.Lexeme.TheVariants.{Word, Name}
use Rattle.rt_tokens.specs.declared.lexeme.Word.{Word as Fixed}
use Rattle.rt_tokens.specs.declared.lexeme.Word.TheVariants as word
use Rattle.rt_tokens.specs.declared.token.Token.{Token}
use Rattle.rt_grammar.specs.Nested.{all_of, any_of, with_term}
use Rattle.rt_grammar.specs.Testing.{among}
use Rattle.rt_grammar.specs.Steps.{with_key}
use Rattle.rt_grammar.specs.Grammar.{tok, Repeats, IsLiteral, IsList, IsTest, IsTerm, MoreTerms, MoreConditions, IsItem, IsDirection, IsKey, IsName, IsWhere, IsGroups, IsOrder, IsLimit, IsEnd, or_else}
use Rattle.rt_grammar.specs.declared.call.Call.{Call}
use Rattle.rt_grammar.specs.declared.call.Call.TheVariants as call
use Rattle.rt_grammar.specs.declared.call.Function.{Function}
use Rattle.rt_grammar.specs.declared.call.Function.TheVariants as function
use Rattle.rt_grammar.specs.declared.nesting.Level.{Level}
use Rattle.rt_grammar.specs.declared.nesting.Enclosing.{Enclosing}
use Rattle.rt_grammar.specs.declared.nesting.Nesting.{Nesting}
use Rattle.rt_grammar.specs.declared.parts.ItemAt.{ItemAt}
use Rattle.rt_grammar.specs.declared.parts.GroupAt.{GroupAt}
use Rattle.rt_grammar.specs.declared.parts.KeyAt.{KeyAt}
use Rattle.rt_grammar.specs.declared.parts.Parts.{Parts}
use Rattle.rt_grammar.specs.declared.state.Side.{Side}
use Rattle.rt_grammar.specs.declared.state.Side.TheVariants as side
use Rattle.rt_grammar.specs.declared.state.Stage.{Stage}
use Rattle.rt_grammar.specs.declared.state.Stage.TheVariants as stage
use Rattle.rt_grammar.specs.declared.test.Test.{Test}
use Rattle.rt_grammar.specs.declared.test.Test.TheVariants as test
use Rattle.rt_grammar.specs.declared.test.Asked.{Asked}
use Rattle.rt_grammar.specs.declared.test.Asked.TheVariants as asked

-- something is read, and what it means and what follows it satisfy k
pub data Then (X : Type 0) (P : List Token → List Token → X → Type 0) (K : List Token → X → Type 0) : List Token → Type 0 where
  reads : {ts m : List Token} {x : X} → P ts m x → K m x → Then X P K ts

-- the rest of a list of literals
pub data ListThen (K : List Token → Tree → Type 0) (column : ColumnAt) (none : Bool) : List Literal → List Token → Type 0 where
  list_then : (b : ℕ) {ts m : List Token} {more : List Literal} (ls : List Literal) →
      Repeats Literal IsLiteral ts (tok b (Word word.Close) ∷ m) more → K m (among column none (ls ++ more)) → ListThen K column none ls ts

pub data UpperThen (K : List Token → Tree → Type 0) (column : ColumnAt) (low : Literal) : List Token → Type 0 where
  upper_then : (b : ℕ) {ts m : List Token} {high : Literal} → IsLiteral ts m high → K m (Between column low high) → UpperThen K column low (tok b (Word word.And) ∷ ts)

abbrev pub AskedThen : (List Token → Tree → Type 0) → Asked → List Token → Literal → Type 0
AskedThen K (asked.Compare column o) m l = K m (Compare column o l)
AskedThen K (asked.Lower column) m l = UpperThen K column l m
AskedThen K (asked.Upper column low) m l = K m (Between column low l)
AskedThen K (asked.Among column none ls) m l = ListThen K column none (ls ++ l ∷ []) m

abbrev pub TestThen : (List Token → Tree → Type 0) → Test → List Token → Type 0
TestThen K (test.Operator column) ts = Then Tree (IsTest column) K ts
TestThen K (test.AfterNot column) ts = (b : ℕ) → Then Tree (IsTest column) K (tok b (Word word.Not) ∷ ts)
TestThen K (test.List column none) ts = Then (List Literal) IsList (λ m ls. K m (among column none ls)) ts
TestThen K (test.Literal asked) ts = Then Literal IsLiteral (AskedThen K asked) ts
TestThen K (test.Digits asked) ts = (b : ℕ) → Then Literal IsLiteral (AskedThen K asked) (tok b (Word word.Minus) ∷ ts)
TestThen K (test.Upper column low) ts = UpperThen K column low ts
TestThen K (test.AfterLiteral column none ls) ts = ListThen K column none ls ts

-- the rest of a query, from its last part on
pub data EndThen : Parts → List Token → Parts → Type 0 where
  end_then : (p : Parts) {ts : List Token} → IsEnd ts → EndThen p ts p

pub data LimitThen : Parts → List Token → Parts → Type 0 where
  limit_then : (p : Parts) {ts m : List Token} {l : Option ℕ} → IsLimit ts m l → IsEnd m → LimitThen p ts (record p { limit = or_else p.limit l })

pub data OrderThen : Schema → Parts → List Token → Parts → Type 0 where
  order_then : {s : Schema} (p : Parts) {ts m : List Token} {ks : List KeyAt} {q : Parts} →
      IsOrder s ts m ks → LimitThen (record p { order = p.order ++ ks }) m q → OrderThen s p ts q

pub data KeysThen : Schema → Parts → List Token → Parts → Type 0 where
  keys_then : {s : Schema} (p : Parts) {ts m : List Token} {ks : List KeyAt} {q : Parts} →
      Repeats KeyAt (IsKey s) ts m ks → LimitThen (record p { order = p.order ++ ks }) m q → KeysThen s p ts q

pub data DirectionThen : Schema → ItemAt → Parts → List Token → Parts → Type 0 where
  direction_then : {s : Schema} (i : ItemAt) (p : Parts) {ts m : List Token} {down : Bool} {q : Parts} →
      IsDirection ts m down → KeysThen s (with_key i down p) m q → DirectionThen s i p ts q

pub data GroupsThen : Schema → Parts → List Token → Parts → Type 0 where
  groups_then : {s : Schema} (p : Parts) {ts m : List Token} {gs : List GroupAt} {q : Parts} →
      IsGroups s ts m gs → OrderThen s (record p { groups = p.groups ++ gs }) m q → GroupsThen s p ts q

pub data NamesThen : Schema → Parts → List Token → Parts → Type 0 where
  names_then : {s : Schema} (p : Parts) {ts m : List Token} {gs : List GroupAt} {q : Parts} →
      Repeats GroupAt (IsName s) ts m gs → OrderThen s (record p { groups = p.groups ++ gs }) m q → NamesThen s p ts q

abbrev pub or_filter : Option Tree → Option Tree → Option Tree
or_filter default None = default
or_filter default (Some t) = Some t

-- predicates nest at most d deep
pub data WhereThen : ℕ → Schema → Parts → List Token → Parts → Type 0 where
  where_then : {d : ℕ} {s : Schema} (p : Parts) {ts m : List Token} {f : Option Tree} {q : Parts} →
      IsWhere s d ts m f → GroupsThen s (record p { filter = or_filter p.filter f }) m q → WhereThen d s p ts q

pub data TableThen : ℕ → Schema → Parts → List Token → Parts → Type 0 where
  table_then : {d : ℕ} {s : Schema} (p : Parts) (b : ℕ) (name : List ℕ) {m : List Token} {q : Parts} →
      WhereThen d s (record p { table = name }) m q → TableThen d s p (tok b (Name name) ∷ m) q

pub data ItemsThen : ℕ → Schema → Parts → List Token → Parts → Type 0 where
  items_then : {d : ℕ} {s : Schema} (p : Parts) (b : ℕ) {ts m : List Token} {is : List ItemAt} {q : Parts} →
      Repeats ItemAt (IsItem s) ts (tok b (Word word.From) ∷ m) is → TableThen d s (record p { items = p.items ++ is }) m q → ItemsThen d s p ts q

-- what is read at a level, with more terms and conditions
abbrev pub whole : Level → List Tree → List Tree → Tree
whole level more conditions = any_of (level.conditions ++ all_of (level.terms ++ more) ∷ conditions)

-- the rest of a predicate, behind a term
pub data TermsThen : Schema → Parts → Level → List Enclosing → List Token → Parts → Type 0 where
  outermost : {s : Schema} (p : Parts) (level : Level) {ts m n : List Token} {more conditions : List Tree} {q : Parts} →
      MoreTerms s level.room ts m more → MoreConditions s level.room m n conditions →
      GroupsThen s (record p { filter = Some (whole level more conditions) }) n q → TermsThen s p level [] ts q
  within : {s : Schema} (p : Parts) (level : Level) (e : Enclosing) (b : ℕ) {outer : List Enclosing} {ts m n : List Token} {more conditions : List Tree} {q : Parts} →
      MoreTerms s level.room ts m more → MoreConditions s level.room m (tok b (Word word.Close) ∷ n) conditions →
      TermsThen s p (with_term e.level e.nots (whole level more conditions)) outer n q → TermsThen s p level (e ∷ outer) ts q

-- the rest of a predicate, from a term on
pub data TermThen : Schema → Parts → Nesting → ℕ → List Token → Parts → Type 0 where
  term_then : {s : Schema} (p : Parts) (n : Nesting) (nots : ℕ) {ts m : List Token} {t : Tree} {q : Parts} →
      IsTerm s (n.level.room - nots) ts m t → TermsThen s p (with_term n.level nots t) n.outer m q → TermThen s p n nots ts q

abbrev pub word_of : Function → Fixed
word_of function.Count = word.Count
word_of function.Sum = word.Sum
word_of function.Min = word.Min
word_of function.Max = word.Max

abbrev pub ItemThen : ℕ → Schema → Side → Parts → Parts → List Token → ItemAt → Type 0
ItemThen d s side.Select p q m i = ItemsThen d s (record p { items = p.items ++ i ∷ [] }) m q
ItemThen d s side.Order p q m i = DirectionThen s i p m q

pub data CloseThen (K : List Token → ItemAt → Type 0) (found : ItemAt) : List Token → Type 0 where
  close_then : (b : ℕ) {m : List Token} → K m found → CloseThen K found (tok b (Word word.Close) ∷ m)

abbrev pub CallThen : Schema → (List Token → ItemAt → Type 0) → Call → List Token → Type 0
CallThen s K (call.Open byte f) ts = Then ItemAt (IsItem s) K (tok byte (Word (word_of f)) ∷ ts)
CallThen s K (call.Argument byte f) ts = (b : ℕ) → Then ItemAt (IsItem s) K (tok byte (Word (word_of f)) ∷ tok b (Word word.Open) ∷ ts)
CallThen s K (call.Close found) ts = CloseThen K found ts

pub data SelectThen : ℕ → Schema → Parts → List Token → Parts → Type 0 where
  select_then : {d : ℕ} {s : Schema} (p : Parts) (b : ℕ) {ts : List Token} {q : Parts} →
      Then ItemAt (IsItem s) (ItemThen d s side.Select p q) ts → SelectThen d s p (tok b (Word word.Select) ∷ ts) q

pub data NoneThen : Parts → List Token → Parts → Type 0 where
  none_then : (p : Parts) → NoneThen p [] p

-- the same with room for k more parentheses and NOTs
abbrev pub roomier : ℕ → Level → Level
roomier k level = record level { room = level.room + k }

abbrev pub all_roomier : ℕ → List Enclosing → List Enclosing
all_roomier k [] = []
all_roomier k (e ∷ outer) = record { level = roomier k e.level; nots = e.nots } ∷ all_roomier k outer

abbrev pub wider : ℕ → Nesting → Nesting
wider k n = record { level = roomier k n.level; outer = all_roomier k n.outer }

-- by what comes next, where k more parentheses and NOTs may be open
abbrev pub Completes : ℕ → Schema → Stage → Parts → List Token → Parts → Type 0
Completes k s stage.Select p ts q = SelectThen (64 + k) s p ts q
Completes k s (stage.Wanted side) p ts q = Then ItemAt (IsItem s) (ItemThen (64 + k) s side p q) ts
Completes k s (stage.Call side call) p ts q = CallThen s (ItemThen (64 + k) s side p q) call ts
Completes k s stage.AfterItem p ts q = ItemsThen (64 + k) s p ts q
Completes k s stage.Table p ts q = TableThen (64 + k) s p ts q
Completes k s stage.AfterTable p ts q = WhereThen (64 + k) s p ts q
Completes k s (stage.Term n nots) p ts q = TermThen s p (wider k n) nots ts q
Completes k s (stage.Test n nots test) p ts q = TestThen (λ m t. TermsThen s p (with_term (roomier k n.level) nots t) (all_roomier k n.outer) m q) test ts
Completes k s (stage.AfterTerm n) p ts q = TermsThen s p (roomier k n.level) (all_roomier k n.outer) ts q
Completes k s stage.GroupBy p ts q = (b : ℕ) → GroupsThen s p (tok b (Word word.Group) ∷ ts) q
Completes k s stage.Group p ts q = Then GroupAt (IsName s) (λ m g. NamesThen s (record p { groups = p.groups ++ g ∷ [] }) m q) ts
Completes k s stage.AfterGroup p ts q = NamesThen s p ts q
Completes k s stage.OrderBy p ts q = (b : ℕ) → OrderThen s p (tok b (Word word.Order) ∷ ts) q
Completes k s (stage.AfterKey i) p ts q = DirectionThen s i p ts q
Completes k s stage.AfterDirection p ts q = KeysThen s p ts q
Completes k s stage.Limit p ts q = (b : ℕ) → LimitThen p (tok b (Word word.Limit) ∷ ts) q
Completes k s stage.AfterLimit p ts q = EndThen p ts q
Completes k s stage.End p ts q = NoneThen p ts q
