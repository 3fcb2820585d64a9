-- Tokens are refused for their depth only where a query begins with them that nests deeper.
use Rattle.std.proofs.Common.{◌≡◌, ℕ, ◌+◌, false, List, [], ◌∷◌, ◌++◌, Option, Some, None, Result, Ok, Err, refl, ap, sym, ◌∙◌, subst, arith}
use Rattle.rt_schema.specs.declared.schema.Schema.{Schema}
use Rattle.rt_tokens.specs.declared.lexeme.Lexeme.{Lexeme}
use Rattle.rt_tokens.specs.declared.lexeme.Lexeme.TheVariants.{Word, Name, Number, Text, Comparison}
use Rattle.rt_tokens.specs.declared.lexeme.Word.TheVariants as word
use Rattle.rt_tokens.specs.declared.token.Token.{Token}
use Rattle.rt_grammar.specs.Nested.{inside}
use Rattle.rt_grammar.specs.Testing.{tested}
use Rattle.rt_grammar.specs.Steps.{at, step, step_at, select, wanted, argument, closing, called, after_item, table, after_limit, after_order, after_groups, after_filter, after_table, term, after_test, after_predicate, after_term, group_by, group, after_group, order_by, with_key, after_direction, after_key, limit}
use Rattle.rt_grammar.specs.Run.{nothing, ended, or_syntax, then_read, run}
use Rattle.rt_grammar.specs.Grammar.{tok}
use Rattle.rt_grammar.specs.Faults.{NestsDeeper}
use Rattle.rt_grammar.specs.declared.call.Call.{Call}
use Rattle.rt_grammar.specs.declared.call.Call.TheVariants as call
use Rattle.rt_grammar.specs.declared.call.Function.{Function}
use Rattle.rt_grammar.specs.declared.call.Function.TheVariants as function
use Rattle.rt_grammar.specs.declared.nesting.Level.{Level}
use Rattle.rt_grammar.specs.declared.nesting.Enclosing.{Enclosing}
use Rattle.rt_grammar.specs.declared.nesting.Nesting.{Nesting}
use Rattle.rt_grammar.specs.declared.parts.ItemAt.{ItemAt}
use Rattle.rt_grammar.specs.declared.parts.Parts.{Parts}
use Rattle.rt_grammar.specs.declared.sql_refused.SqlRefused.{SqlRefused}
use Rattle.rt_grammar.specs.declared.sql_refused.SqlRefused.TheVariants.{Limit}
use Rattle.rt_grammar.specs.declared.state.Side.{Side}
use Rattle.rt_grammar.specs.declared.state.Stage.{Stage}
use Rattle.rt_grammar.specs.declared.state.Stage.TheVariants as stage
use Rattle.rt_grammar.specs.declared.state.State.{State}
use Rattle.rt_grammar.specs.declared.stop.Stop.{Stop}
use Rattle.rt_grammar.specs.declared.stop.Stop.TheVariants as stop
use Rattle.rt_grammar.specs.declared.test.Test.{Test}
use Rattle.rt_grammar.specs.declared.test.Test.TheVariants as test
use Rattle.rt_grammar.specs.declared.test.Tested.{Tested}
use Rattle.rt_grammar.specs.declared.test.Tested.TheVariants.{More, Whole}
use Rattle.rt_grammar.proofs.Completing.{TermThen, roomier, all_roomier, wider, Completes}
use Rattle.rt_grammar.proofs.Sound.{Next, not_back, open_back, step_back, completes, query_of_select}
use Rattle.rt_grammar.proofs.Forward.{complete}
use Rattle.rt_grammar.proofs.Viable.{finishes}

-- a step that isn't refused for its depth
abbrev IsCalm : {X : Type 0} → Result X Stop → Type 0
IsCalm (Ok x) = Unit {0}
IsCalm (Err stop.Stuck) = Unit {0}
IsCalm (Err stop.Deep) = ⊥
IsCalm (Err stop.Memory) = Unit {0}

-- Only a parenthesis or a NOT in the place of a term is refused so.

select_calm : (l : Lexeme) (p : Parts) → IsCalm (select l p)
select_calm (Word word.Select) p = tt
select_calm other p = tt

wanted_calm : (s : Schema) (side : Side) (b : ℕ) (l : Lexeme) (p : Parts) → IsCalm (wanted s side b l p)
wanted_calm s side b (Name n) p = tt
wanted_calm s side b (Word word.Count) p = tt
wanted_calm s side b (Word word.Sum) p = tt
wanted_calm s side b (Word word.Min) p = tt
wanted_calm s side b (Word word.Max) p = tt
wanted_calm s side b other p = tt

argument_calm : (s : Schema) (side : Side) (p : Parts) (b : ℕ) (f : Function) (l : Lexeme) → IsCalm (closing side p (argument s b f l))
argument_calm s side p b function.Count (Word word.Star) = tt
argument_calm s side p b function.Sum (Name n) = tt
argument_calm s side p b function.Min (Name n) = tt
argument_calm s side p b function.Max (Name n) = tt
argument_calm s side p b f other = tt

called_calm : (s : Schema) (side : Side) (c : Call) (l : Lexeme) (p : Parts) → IsCalm (called s side c l p)
called_calm s side (call.Open b f) (Word word.Open) p = tt
called_calm s side (call.Argument b f) l p = argument_calm s side p b f l
called_calm s side (call.Close found) (Word word.Close) p = tt
called_calm s side other l p = tt

after_item_calm : (l : Lexeme) (p : Parts) → IsCalm (after_item l p)
after_item_calm (Word word.Comma) p = tt
after_item_calm (Word word.From) p = tt
after_item_calm other p = tt

table_calm : (l : Lexeme) (p : Parts) → IsCalm (table l p)
table_calm (Name n) p = tt
table_calm other p = tt

after_limit_calm : (l : Lexeme) (p : Parts) → IsCalm (after_limit l p)
after_limit_calm (Word word.Semicolon) p = tt
after_limit_calm other p = tt

after_order_calm : (l : Lexeme) (p : Parts) → IsCalm (after_order l p)
after_order_calm (Word word.Limit) p = tt
after_order_calm other p = after_limit_calm other p

after_groups_calm : (l : Lexeme) (p : Parts) → IsCalm (after_groups l p)
after_groups_calm (Word word.Order) p = tt
after_groups_calm other p = after_order_calm other p

after_filter_calm : (l : Lexeme) (p : Parts) → IsCalm (after_filter l p)
after_filter_calm (Word word.Group) p = tt
after_filter_calm other p = after_groups_calm other p

after_table_calm : (l : Lexeme) (p : Parts) → IsCalm (after_table l p)
after_table_calm (Word word.Where) p = tt
after_table_calm other p = after_filter_calm other p

operator_calm : (s : Schema) (t : Test) (l : Lexeme) → IsCalm (tested t l)
operator_calm s (test.Operator c) (Comparison o) = tt
operator_calm s (test.Operator c) (Word word.Between) = tt
operator_calm s (test.Operator c) (Word word.In) = tt
operator_calm s (test.Operator c) (Word word.Not) = tt
operator_calm s (test.Operator c) other = tt
operator_calm s (test.AfterNot c) (Word word.In) = tt
operator_calm s (test.AfterNot c) other = tt
operator_calm s (test.List c n) (Word word.Open) = tt
operator_calm s (test.List c n) other = tt
operator_calm s (test.Literal a) (Word word.Minus) = tt
operator_calm s (test.Literal a) (Word word.True) = tt
operator_calm s (test.Literal a) (Word word.False) = tt
operator_calm s (test.Literal a) (Number n) = tt
operator_calm s (test.Literal a) (Text t) = tt
operator_calm s (test.Literal a) other = tt
operator_calm s (test.Digits a) (Number n) = tt
operator_calm s (test.Digits a) other = tt
operator_calm s (test.Upper c low) (Word word.And) = tt
operator_calm s (test.Upper c low) other = tt
operator_calm s (test.AfterLiteral c n ls) (Word word.Comma) = tt
operator_calm s (test.AfterLiteral c n ls) (Word word.Close) = tt
operator_calm s (test.AfterLiteral c n ls) other = tt

after_test_calm : (n : Nesting) (nots : ℕ) (p : Parts) (r : Result Tested Stop) → IsCalm r → IsCalm (after_test n nots p r)
after_test_calm n nots p (Ok (More t)) calm = tt
after_test_calm n nots p (Ok (Whole tree)) calm = tt
after_test_calm n nots p (Err stop.Stuck) calm = tt
after_test_calm n nots p (Err stop.Deep) calm = calm
after_test_calm n nots p (Err stop.Memory) calm = tt

after_predicate_calm : (level : Level) (outer : List Enclosing) (l : Lexeme) (p : Parts) → IsCalm (after_predicate level outer l p)
after_predicate_calm level [] l p = after_filter_calm l (record p { filter = Some _ })
after_predicate_calm level (e ∷ outer) (Word word.Close) p = tt
after_predicate_calm level (e ∷ outer) other p = tt

after_term_calm : (n : Nesting) (l : Lexeme) (p : Parts) → IsCalm (after_term n l p)
after_term_calm n (Word word.And) p = tt
after_term_calm n (Word word.Or) p = tt
after_term_calm n other p = after_predicate_calm n.level n.outer other p

group_by_calm : (l : Lexeme) (p : Parts) → IsCalm (group_by l p)
group_by_calm (Word word.By) p = tt
group_by_calm other p = tt

group_calm : (s : Schema) (b : ℕ) (l : Lexeme) (p : Parts) → IsCalm (group s b l p)
group_calm s b (Name n) p = tt
group_calm s b other p = tt

after_group_calm : (l : Lexeme) (p : Parts) → IsCalm (after_group l p)
after_group_calm (Word word.Comma) p = tt
after_group_calm other p = after_groups_calm other p

order_by_calm : (l : Lexeme) (p : Parts) → IsCalm (order_by l p)
order_by_calm (Word word.By) p = tt
order_by_calm other p = tt

after_direction_calm : (l : Lexeme) (p : Parts) → IsCalm (after_direction l p)
after_direction_calm (Word word.Comma) p = tt
after_direction_calm other p = after_order_calm other p

after_key_calm : (i : ItemAt) (l : Lexeme) (p : Parts) → IsCalm (after_key i l p)
after_key_calm i (Word word.Ascending) p = tt
after_key_calm i (Word word.Descending) p = tt
after_key_calm i other p = after_direction_calm other (with_key i false p)

limit_calm : (l : Lexeme) (p : Parts) → IsCalm (limit l p)
limit_calm (Number n) p = tt
limit_calm other p = tt

no_calm : {X A : Type 0} (r : Result X Stop) → r ≡ Err stop.Deep → IsCalm r → A
no_calm (Ok x) e calm = cc
no_calm (Err stop.Stuck) e calm = cc
no_calm (Err stop.Deep) e calm = absurd calm
no_calm (Err stop.Memory) e calm = cc

-- some tokens complete a query from a term on
none_more : (room : ℕ) → room + 0 ≡ room
none_more room = omega arith

same_level : (level : Level) → roomier 0 level ≡ level
same_level level = ap (λ room. record level { room = room }) (none_more level.room)

all_same : (es : List Enclosing) → all_roomier 0 es ≡ es
all_same [] = refl
all_same (e ∷ es) = (λ j. record { level = same_level e.level j; nots = e.nots } ∷ all_same es j)

same_nesting : (n : Nesting) → wider 0 n ≡ n
same_nesting n = (λ j. record { level = same_level n.level j; outer = all_same n.outer j })

free : (s : Schema) (p : Parts) (n : Nesting) (nots : ℕ) → (ts : List Token) × (q : Parts) × TermThen s p n nots ts q
free s p n nots =
    let f = finishes s 0 (stage.Term n nots) p in
    (f.0, f.1, subst (λ m. TermThen s p m nots f.0 f.1) (same_nesting n) (completes 0 s 0 f.1 f.0 (at (stage.Term n nots) p) f.2))

-- with more room the step is none that is refused
abbrev Deepens : Schema → Stage → Parts → ℕ → Lexeme → Type 0
Deepens s stage p b l = (extra : ℕ) × (ts : List Token) × (q : Parts) × Completes extra s stage p (tok b l ∷ ts) q

term_deepens : (s : Schema) (n : Nesting) (nots b : ℕ) (l : Lexeme) (p : Parts) → term s n nots l p ≡ Err stop.Deep → Deepens s (stage.Term n nots) p b l
term_deepens s n nots b (Word word.Not) p e =
    let extra = nots + 1 in
    let f = free s p (wider extra n) (nots + 1) in
    (extra, f.0, f.1, not_back s (wider extra n) nots p f.1 b f.0 (omega arith) f.2)
term_deepens s n nots b (Word word.Open) p e =
    let extra = nots + 1 in
    let f = free s p (inside (wider extra n) nots) 0 in
    (extra, f.0, f.1, open_back s (wider extra n) nots p f.1 b f.0 (omega arith) f.2)
term_deepens s n nots b (Name x) p e = cc
term_deepens s n nots b other p e = cc

step_deepens : (s : Schema) (stage : Stage) (b : ℕ) (l : Lexeme) (p : Parts) → step_at s stage b l p ≡ Err stop.Deep → Deepens s stage p b l
step_deepens s stage.Select b l p e = no_calm _ e (select_calm l p)
step_deepens s (stage.Wanted side) b l p e = no_calm _ e (wanted_calm s side b l p)
step_deepens s (stage.Call side c) b l p e = no_calm _ e (called_calm s side c l p)
step_deepens s stage.AfterItem b l p e = no_calm _ e (after_item_calm l p)
step_deepens s stage.Table b l p e = no_calm _ e (table_calm l p)
step_deepens s stage.AfterTable b l p e = no_calm _ e (after_table_calm l p)
step_deepens s (stage.Term n nots) b l p e = term_deepens s n nots b l p e
step_deepens s (stage.Test n nots t) b l p e = no_calm _ e (after_test_calm n nots p (tested t l) (operator_calm s t l))
step_deepens s (stage.AfterTerm n) b l p e = no_calm _ e (after_term_calm n l p)
step_deepens s stage.GroupBy b l p e = no_calm _ e (group_by_calm l p)
step_deepens s stage.Group b l p e = no_calm _ e (group_calm s b l p)
step_deepens s stage.AfterGroup b l p e = no_calm _ e (after_group_calm l p)
step_deepens s stage.OrderBy b l p e = no_calm _ e (order_by_calm l p)
step_deepens s (stage.AfterKey i) b l p e = no_calm _ e (after_key_calm i l p)
step_deepens s stage.AfterDirection b l p e = no_calm _ e (after_direction_calm l p)
step_deepens s stage.Limit b l p e = no_calm _ e (limit_calm l p)
step_deepens s stage.AfterLimit b l p e = no_calm _ e (after_limit_calm l p)
step_deepens s stage.End b l p e = cc

-- the front that is refused for its depth, with what would complete it, were there more room
record Refused (s : Schema) (z : ℕ) (state : State) (ts : List Token) : Type 0 where
  front : List Token
  behind : List Token
  same : ts ≡ front ++ behind
  stops : (rest : List Token) → run s z state (front ++ rest) ≡ Err Limit
  extra : ℕ
  rest : List Token
  parts : Parts
  would : Completes extra s state.stage state.parts (front ++ rest) parts

abbrev read_on : Schema → ℕ → Token → List Token → Result State Stop → Result Parts SqlRefused
read_on s z t ts r = then_read t.byte r (λ next. run s z next ts)

one_more : (s : Schema) (z : ℕ) (state next : State) (t : Token) (ts : List Token) → step s state t ≡ Ok next → Refused s z next ts → Refused s z state (t ∷ ts)
one_more s z state next t ts is f = record {
  front = t ∷ f.front;
  behind = f.behind;
  same = ap (λ xs. t ∷ xs) f.same;
  stops = λ rest. ap (read_on s z t (f.front ++ rest)) is ∙ f.stops rest;
  extra = f.extra;
  rest = f.rest;
  parts = f.parts;
  would = step_back f.extra s state.stage state.parts f.parts t.byte t.lexeme (f.front ++ f.rest) (subst (λ r. Next f.extra s r (f.front ++ f.rest) f.parts) (sym is) f.would);
}

the_last : (s : Schema) (z : ℕ) (state : State) (t : Token) (ts : List Token) → step s state t ≡ Err stop.Deep → Refused s z state (t ∷ ts)
the_last s z state t ts is =
    let d = step_deepens s state.stage t.byte t.lexeme state.parts is in
    record {
      front = t ∷ [];
      behind = ts;
      same = refl;
      stops = λ rest. ap (read_on s z t rest) is;
      extra = d.0;
      rest = d.1;
      parts = d.2;
      would = d.3;
    }

end_limit : {A : Type 0} (z : ℕ) (found : Option Parts) → or_syntax z found ≡ Err Limit → A
end_limit z (Some p) e = cc
end_limit z None e = cc

by_step : (s : Schema) (z : ℕ) (state : State) (t : Token) (ts : List Token) (r : Result State Stop) → step s state t ≡ r → read_on s z t ts r ≡ Err Limit →
    ((next : State) → run s z next ts ≡ Err Limit → Refused s z next ts) → Refused s z state (t ∷ ts)
by_step s z state t ts (Ok next) is e ih = one_more s z state next t ts is (ih next e)
by_step s z state t ts (Err stop.Stuck) is e ih = cc
by_step s z state t ts (Err stop.Deep) is e ih = the_last s z state t ts is
by_step s z state t ts (Err stop.Memory) is e ih = cc

refused_front : (s : Schema) (z : ℕ) (state : State) (ts : List Token) → run s z state ts ≡ Err Limit → Refused s z state ts
refused_front s z state [] e = end_limit z (ended state.stage state.parts) e
refused_front s z state (t ∷ ts) e = by_step s z state t ts (step s state t) refl e (λ next e2. refused_front s z next ts e2)

no_limit : (r : Result Parts SqlRefused) (q : Parts) → r ≡ Err Limit → r ≡ Ok q → ⊥
no_limit r q e f = let g : Err Limit ≡ Ok q = sym e ∙ f in cc

-- tokens that are refused for their depth nest too deep
pub deep_nests : (s : Schema) (z : ℕ) (ts : List Token) → run s z nothing ts ≡ Err Limit → NestsDeeper s ts
deep_nests s z ts e =
    let f = refused_front s z nothing ts e in (
      f.front,
      f.behind,
      64 + f.extra,
      f.same,
      (f.rest, f.parts, query_of_select (64 + f.extra) s (f.front ++ f.rest) f.parts f.would),
      λ begins. no_limit (run s z nothing (f.front ++ begins.0)) begins.1 (f.stops begins.0) (complete s z 64 (f.front ++ begins.0) begins.1 begins.2 (omega arith)),
    )
