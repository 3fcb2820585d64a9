-- What the grammar derives is read: each part leads from where it begins to where it ends.
use Rattle.std.proofs.Common.{◌≡◌, ℕ, ◌+◌, ◌-◌, ◌<◌, ◌≤◌, Bool, true, false, List, [], ◌∷◌, ◌++◌, Option, Some, None, Result, Ok, Err, if◌then◌else◌, refl, ap, sym, ◌∙◌, subst, append_assoc, add-one, arith}
use Rattle.std.proofs.lemmas.Bool.{lt-ltb}
use Rattle.std.proofs.lemmas.List.{append-nil}
use Rattle.rt_schema.specs.declared.schema.Schema.{Schema}
use Rattle.rt_model.specs.Tree.{Tree}
use Rattle.rt_model.specs.declared.query_parts.ColumnAt.{ColumnAt}
use Rattle.rt_model.specs.declared.query_parts.Literal.{Literal}
use Rattle.rt_tokens.specs.Literals.{rows, or_none}
use Rattle.rt_tokens.specs.declared.lexeme.Lexeme.{Lexeme}
use Rattle.rt_tokens.specs.declared.lexeme.Lexeme.TheVariants.{Word}
use Rattle.rt_tokens.specs.declared.lexeme.Word.TheVariants as word
use Rattle.rt_tokens.specs.declared.token.Token.{Token}
use Rattle.rt_grammar.specs.Columns.{column_at}
use Rattle.rt_grammar.specs.Nested.{all_of, any_of, with_term, predicate_of, new_level, inside}
use Rattle.rt_grammar.specs.Testing.{among, with_literal}
use Rattle.rt_grammar.specs.Steps.{at, with_item, table, after_limit, after_order, after_groups, after_filter, after_table, deeper, after_test, after_group, with_key, after_direction, limit}
use Rattle.rt_grammar.specs.Run.{nothing, then_read, run}
use Rattle.rt_grammar.specs.Grammar.{tok, Repeats, no_more, comma, IsLiteral, number, minus, quoted, truth, untruth, IsList, list, IsTest, compares, between, one_of, none_of, IsTerm, negated, enclosed, test as tested_name, IsCondition, condition, MoreTerms, no_term, and, IsPredicate, predicate, MoreConditions, no_condition, or, IsItem, column, count, sum, min, max, IsDirection, unsaid, ascending, descending, IsKey, key, IsName, name, IsWhere, unfiltered, filtered, IsGroups, ungrouped, grouped, IsOrder, unordered, ordered, IsLimit, unlimited, limited, IsEnd, bare, semicolon, IsQuery, query, or_else}
use Rattle.rt_grammar.specs.declared.nesting.Level.{Level}
use Rattle.rt_grammar.specs.declared.nesting.Enclosing.{Enclosing}
use Rattle.rt_grammar.specs.declared.nesting.Nesting.{Nesting}
use Rattle.rt_grammar.specs.declared.parts.ItemAt.{ItemAt}
use Rattle.rt_grammar.specs.declared.parts.GroupAt.{GroupAt}
use Rattle.rt_grammar.specs.declared.parts.KeyAt.{KeyAt}
use Rattle.rt_grammar.specs.declared.parts.Parts.{Parts}
use Rattle.rt_grammar.specs.declared.sql_refused.SqlRefused.{SqlRefused}
use Rattle.rt_grammar.specs.declared.state.Side.{Side}
use Rattle.rt_grammar.specs.declared.state.Side.TheVariants as side
use Rattle.rt_grammar.specs.declared.state.Stage.{Stage}
use Rattle.rt_grammar.specs.declared.state.Stage.TheVariants as stage
use Rattle.rt_grammar.specs.declared.state.State.{State}
use Rattle.rt_grammar.specs.declared.stop.Stop.{Stop}
use Rattle.rt_grammar.specs.declared.stop.Stop.TheVariants as stop
use Rattle.rt_grammar.specs.declared.test.Test.TheVariants as test
use Rattle.rt_grammar.specs.declared.test.Asked.{Asked}
use Rattle.rt_grammar.specs.declared.test.Asked.TheVariants as asked
use Rattle.rt_grammar.specs.declared.test.Tested.{Tested}
use Rattle.rt_grammar.specs.declared.test.Tested.TheVariants.{More, Whole}

abbrev pub run_at : Schema → ℕ → Stage → Parts → List Token → Result Parts SqlRefused
run_at s z stage p ts = run s z (at stage p) ts

-- Tests

abbrev test_at : Schema → ℕ → Nesting → ℕ → Parts → Tested → List Token → Result Parts SqlRefused
test_at s z n nots p (More t) ts = run_at s z (stage.Test n nots t) p ts
test_at s z n nots p (Whole tree) ts = run_at s z (stage.AfterTerm (record n { level = with_term n.level nots tree })) p ts

after_test_runs : (s : Schema) (z : ℕ) (n : Nesting) (nots : ℕ) (p : Parts) (b : ℕ) (r : Tested) (ts : List Token) → then_read b (after_test n nots p (Ok r)) (λ next. run s z next ts) ≡ test_at s z n nots p r ts
after_test_runs s z n nots p b (More t) ts = refl
after_test_runs s z n nots p b (Whole tree) ts = refl

literal_runs : (s : Schema) (z : ℕ) (n : Nesting) (nots : ℕ) (p : Parts) (a : Asked) {ts rest : List Token} {l : Literal} → IsLiteral ts rest l → run_at s z (stage.Test n nots (test.Literal a)) p ts ≡ test_at s z n nots p (with_literal a l) rest
literal_runs s z n nots p a (number b m rest) = after_test_runs s z n nots p b _ rest
literal_runs s z n nots p a (minus b c m rest) = after_test_runs s z n nots p c _ rest
literal_runs s z n nots p a (quoted b t rest) = after_test_runs s z n nots p b _ rest
literal_runs s z n nots p a (truth b rest) = after_test_runs s z n nots p b _ rest
literal_runs s z n nots p a (untruth b rest) = after_test_runs s z n nots p b _ rest

literals_run : (s : Schema) (z : ℕ) (n : Nesting) (nots : ℕ) (p : Parts) (c : ColumnAt) (none : Bool) (xs : List Literal) {ts rest : List Token} {ls : List Literal} → Repeats Literal IsLiteral ts rest ls →
    run_at s z (stage.Test n nots (test.AfterLiteral c none xs)) p ts ≡ run_at s z (stage.Test n nots (test.AfterLiteral c none (xs ++ ls))) p rest
literals_run s z n nots p c none xs (no_more rest) = ap (λ ys. run_at s z (stage.Test n nots (test.AfterLiteral c none ys)) p rest) (sym (append-nil xs))
literals_run s z n nots p c none xs (comma b {rest = rest} {x = l} {xs = ls} is more) =
    literal_runs s z n nots p (asked.Among c none xs) is ∙ literals_run s z n nots p c none (xs ++ l ∷ []) more
    ∙ ap (λ ys. run_at s z (stage.Test n nots (test.AfterLiteral c none ys)) p rest) (append_assoc xs (l ∷ []) ls)

list_runs : (s : Schema) (z : ℕ) (n : Nesting) (nots : ℕ) (p : Parts) (c : ColumnAt) (none : Bool) {ts rest : List Token} {ls : List Literal} → IsList ts rest ls → run_at s z (stage.Test n nots (test.List c none)) p ts ≡ test_at s z n nots p (Whole (among c none ls)) rest
list_runs s z n nots p c none (list b d {l = l} is more) = literal_runs s z n nots p (asked.Among c none []) is ∙ literals_run s z n nots p c none (l ∷ []) more

pub test_runs : (s : Schema) (z : ℕ) (n : Nesting) (nots : ℕ) (p : Parts) {c : ColumnAt} {ts rest : List Token} {t : Tree} → IsTest c ts rest t → run_at s z (stage.Test n nots (test.Operator c)) p ts ≡ test_at s z n nots p (Whole t) rest
test_runs s z n nots p (compares b c o is) = literal_runs s z n nots p (asked.Compare c o) is
test_runs s z n nots p (between b d c {low = low} is high) = literal_runs s z n nots p (asked.Lower c) is ∙ literal_runs s z n nots p (asked.Upper c low) high
test_runs s z n nots p (one_of b c is) = list_runs s z n nots p c false is
test_runs s z n nots p (none_of b d c is) = list_runs s z n nots p c true is

-- Predicates

deeper_runs : (s : Schema) (z : ℕ) (n : Nesting) (nots : ℕ) (p : Parts) (next : Stage) (b : ℕ) (ts : List Token) → nots < n.level.room → then_read b (deeper n nots next p) (λ state. run s z state ts) ≡ run_at s z next p ts
deeper_runs s z n nots p next b ts h = ap (λ fits. then_read b (if fits then Ok (at next p) else Err stop.Deep) (λ state. run s z state ts)) (lt-ltb nots n.level.room h)

abbrev pub after : Level → List Enclosing → Stage
after level outer = stage.AfterTerm (record { level = level; outer = outer })

mutual
  term_runs : (s : Schema) (z : ℕ) (p : Parts) (n : Nesting) (nots : ℕ) {room : ℕ} {ts rest : List Token} {t : Tree} → IsTerm s room ts rest t → nots + room ≤ n.level.room →
      run_at s z (stage.Term n nots) p ts ≡ run_at s z (after (with_term n.level nots t) n.outer) p rest
  term_runs s z p n nots (negated b {ts = ts} {rest = rest} {t = t} is) h =
      deeper_runs s z n nots p (stage.Term n (nots + 1)) b ts (omega (arith, h)) ∙ term_runs s z p n (nots + 1) is (omega (arith, h))
      ∙ ap (λ k. run_at s z (after (with_term n.level k t) n.outer) p rest) (add-one nots)
  term_runs s z p n nots (enclosed b c {ts = ts} {rest = rest} {t = t} is) h =
      deeper_runs s z n nots p (stage.Term (inside n nots) 0) b ts (omega (arith, h))
      ∙ predicate_runs s z p (n.level.room - nots - 1) (record { level = n.level; nots = nots } ∷ n.outer) (run_at s z (after (with_term n.level nots t) n.outer) p rest) is (omega (arith, h))
      (λ level e. ap (λ w. run_at s z (after (with_term n.level nots w) n.outer) p rest) e)
  term_runs s z p n nots (tested_name b _ room n2 is) h = test_runs s z n nots p is

  terms_run : (s : Schema) (z : ℕ) (p : Parts) (level : Level) (outer : List Enclosing) {room : ℕ} {ts rest : List Token} {more : List Tree} → MoreTerms s room ts rest more → room ≤ level.room →
      run_at s z (after level outer) p ts ≡ run_at s z (after (record level { terms = level.terms ++ more }) outer) p rest
  terms_run s z p level outer (no_term _ room rest) h = ap (λ xs. run_at s z (after (record level { terms = xs }) outer) p rest) (sym (append-nil level.terms))
  terms_run s z p level outer (and b {rest = rest} {t = t} {more = more} is terms) h =
      term_runs s z p (record { level = level; outer = outer }) 0 is (omega (arith, h)) ∙ terms_run s z p (with_term level 0 t) outer terms h
      ∙ ap (λ xs. run_at s z (after (record level { terms = xs }) outer) p rest) (append_assoc level.terms (t ∷ []) more)

  condition_runs : (s : Schema) (z : ℕ) (p : Parts) (r : ℕ) (cs : List Tree) (outer : List Enclosing) (R : Result Parts SqlRefused) {room : ℕ} {ts rest : List Token} {t : Tree} → IsCondition s room ts rest t → room ≤ r →
      ((terms : List Tree) → all_of terms ≡ t → run_at s z (after (record { room = r; conditions = cs; terms = terms }) outer) p rest ≡ R) →
      run_at s z (stage.Term (record { level = record { room = r; conditions = cs; terms = [] }; outer = outer }) 0) p ts ≡ R
  condition_runs s z p r cs outer R (condition {t = t} {more = more} is terms) h k =
      term_runs s z p (record { level = record { room = r; conditions = cs; terms = [] }; outer = outer }) 0 is (omega (arith, h))
      ∙ terms_run s z p (record { room = r; conditions = cs; terms = t ∷ [] }) outer terms h ∙ k (t ∷ more) refl

  conditions_run : (s : Schema) (z : ℕ) (p : Parts) (r : ℕ) (cs us : List Tree) (outer : List Enclosing) (R : Result Parts SqlRefused) {room : ℕ} {ts rest : List Token} {more : List Tree} → MoreConditions s room ts rest more → room ≤ r →
      ((level : Level) → predicate_of level ≡ any_of (cs ++ all_of us ∷ more) → run_at s z (after level outer) p rest ≡ R) →
      run_at s z (after (record { room = r; conditions = cs; terms = us }) outer) p ts ≡ R
  conditions_run s z p r cs us outer R (no_condition _ room rest) h k = k (record { room = r; conditions = cs; terms = us }) refl
  conditions_run s z p r cs us outer R (or b {t = t} {more = more} is conditions) h k =
      condition_runs s z p r (cs ++ all_of us ∷ []) outer R is h (λ terms e.
      conditions_run s z p r (cs ++ all_of us ∷ []) terms outer R conditions h (λ level e2.
      k level (e2 ∙ ap any_of (append_assoc cs (all_of us ∷ []) (all_of terms ∷ more) ∙ ap (λ x. cs ++ all_of us ∷ x ∷ more) e))))

  predicate_runs : (s : Schema) (z : ℕ) (p : Parts) (r : ℕ) (outer : List Enclosing) (R : Result Parts SqlRefused) {room : ℕ} {ts rest : List Token} {t : Tree} → IsPredicate s room ts rest t → room ≤ r →
      ((level : Level) → predicate_of level ≡ t → run_at s z (after level outer) p rest ≡ R) →
      run_at s z (stage.Term (record { level = new_level r; outer = outer }) 0) p ts ≡ R
  predicate_runs s z p r outer R (predicate {t = t} {more = more} is conditions) h k =
      condition_runs s z p r [] outer R is h (λ terms e.
      conditions_run s z p r [] terms outer R conditions h (λ level e2. k level (e2 ∙ ap (λ x. any_of (x ∷ more)) e)))

-- The other parts, from the last on

abbrev pub go_on : (Lexeme → Parts → Result State Stop) → Schema → ℕ → Parts → List Token → Result Parts SqlRefused
go_on f s z p [] = Ok p
go_on f s z p (t ∷ ts) = then_read t.byte (f t.lexeme p) (λ next. run s z next ts)

end_runs : (s : Schema) (z : ℕ) (p : Parts) {ts : List Token} → IsEnd ts → go_on after_limit s z p ts ≡ Ok p
end_runs s z p bare = refl
end_runs s z p (semicolon b) = refl

from_limit : (s : Schema) (z : ℕ) (p : Parts) (ts : List Token) → run_at s z stage.AfterLimit p ts ≡ go_on after_limit s z p ts
from_limit s z p [] = refl
from_limit s z p (t ∷ ts) = refl

-- where something may come that isn't there
wider_order : (s : Schema) (z : ℕ) (p q : Parts) (b : ℕ) (l : Lexeme) (ts : List Token) → go_on after_limit s z p (tok b l ∷ ts) ≡ Ok q → go_on after_order s z p (tok b l ∷ ts) ≡ Ok q
wider_order s z p q b (Word word.Limit) ts e = cc
wider_order s z p q b other ts e = e

no_limit : (s : Schema) (z : ℕ) (p q : Parts) (ts : List Token) → go_on after_limit s z p ts ≡ Ok q → go_on after_order s z p ts ≡ Ok q
no_limit s z p q [] e = e
no_limit s z p q (t ∷ ts) e = wider_order s z p q t.byte t.lexeme ts e

pub limit_runs : (s : Schema) (z : ℕ) (p : Parts) {ts m : List Token} {l : Option ℕ} → IsLimit ts m l → IsEnd m → go_on after_order s z p ts ≡ Ok (record p { limit = or_else p.limit l })
limit_runs s z p (unlimited rest) e = no_limit s z p p rest (end_runs s z p e)
limit_runs s z p (limited b c n rest) e = from_limit s z (record p { limit = or_none (rows n) }) rest ∙ end_runs s z (record p { limit = or_none (rows n) }) e

pub item_runs : (s : Schema) (z : ℕ) (side : Side) (p : Parts) {ts rest : List Token} {i : ItemAt} → IsItem s ts rest i → run_at s z (stage.Wanted side) p ts ≡ run s z (with_item side i p) rest
item_runs s z side p (column b _ n rest) = refl
item_runs s z side p (count b c d e _ rest) = refl
item_runs s z side p (sum b c d e _ n rest) = refl
item_runs s z side p (min b c d e _ n rest) = refl
item_runs s z side p (max b c d e _ n rest) = refl

from_direction : (s : Schema) (z : ℕ) (p : Parts) (ts : List Token) → run_at s z stage.AfterDirection p ts ≡ go_on after_direction s z p ts
from_direction s z p [] = refl
from_direction s z p (t ∷ ts) = refl

wider_key : (s : Schema) (z : ℕ) (i : ItemAt) (p q : Parts) (b : ℕ) (l : Lexeme) (ts : List Token) → go_on after_direction s z (with_key i false p) (tok b l ∷ ts) ≡ Ok q → run_at s z (stage.AfterKey i) p (tok b l ∷ ts) ≡ Ok q
wider_key s z i p q b (Word word.Ascending) ts e = cc
wider_key s z i p q b (Word word.Descending) ts e = cc
wider_key s z i p q b other ts e = e

no_direction : (s : Schema) (z : ℕ) (i : ItemAt) (p q : Parts) (ts : List Token) → go_on after_direction s z (with_key i false p) ts ≡ Ok q → run_at s z (stage.AfterKey i) p ts ≡ Ok q
no_direction s z i p q [] e = e
no_direction s z i p q (t ∷ ts) e = wider_key s z i p q t.byte t.lexeme ts e

direction_runs : (s : Schema) (z : ℕ) (i : ItemAt) (p q : Parts) {ts m : List Token} {down : Bool} → IsDirection ts m down → go_on after_direction s z (with_key i down p) m ≡ Ok q → run_at s z (stage.AfterKey i) p ts ≡ Ok q
direction_runs s z i p q (unsaid rest) e = no_direction s z i p q rest e
direction_runs s z i p q (ascending b rest) e = from_direction s z (with_key i false p) rest ∙ e
direction_runs s z i p q (descending b rest) e = from_direction s z (with_key i true p) rest ∙ e

key_runs : (s : Schema) (z : ℕ) (p q : Parts) {ts m : List Token} {k : KeyAt} → IsKey s ts m k → go_on after_direction s z (record p { order = p.order ++ k ∷ [] }) m ≡ Ok q → run_at s z (stage.Wanted side.Order) p ts ≡ Ok q
key_runs s z p q (key {found = i} is d) e = item_runs s z side.Order p is ∙ direction_runs s z i p q d e

wider_direction : (s : Schema) (z : ℕ) (p q : Parts) (b : ℕ) (l : Lexeme) (ts : List Token) → go_on after_order s z p (tok b l ∷ ts) ≡ Ok q → go_on after_direction s z p (tok b l ∷ ts) ≡ Ok q
wider_direction s z p q b (Word word.Comma) ts e = cc
wider_direction s z p q b other ts e = e

no_key : (s : Schema) (z : ℕ) (p q : Parts) (ts : List Token) → go_on after_order s z p ts ≡ Ok q → go_on after_direction s z p ts ≡ Ok q
no_key s z p q [] e = e
no_key s z p q (t ∷ ts) e = wider_direction s z p q t.byte t.lexeme ts e

keys_run : (s : Schema) (z : ℕ) (p q : Parts) {ts m : List Token} {ks : List KeyAt} → Repeats KeyAt (IsKey s) ts m ks → go_on after_order s z (record p { order = p.order ++ ks }) m ≡ Ok q → go_on after_direction s z p ts ≡ Ok q
keys_run s z p q (no_more rest) e = no_key s z p q rest (subst (λ xs. go_on after_order s z (record p { order = xs }) rest ≡ Ok q) (append-nil p.order) e)
keys_run s z p q (comma b {rest = rest} {x = k} {xs = ks} is more) e =
    key_runs s z p q is (keys_run s z (record p { order = p.order ++ k ∷ [] }) q more (subst (λ xs. go_on after_order s z (record p { order = xs }) rest ≡ Ok q) (sym (append_assoc p.order (k ∷ []) ks)) e))

wider_groups : (s : Schema) (z : ℕ) (p q : Parts) (b : ℕ) (l : Lexeme) (ts : List Token) → go_on after_order s z p (tok b l ∷ ts) ≡ Ok q → go_on after_groups s z p (tok b l ∷ ts) ≡ Ok q
wider_groups s z p q b (Word word.Order) ts e = cc
wider_groups s z p q b other ts e = e

no_order : (s : Schema) (z : ℕ) (p q : Parts) (ts : List Token) → go_on after_order s z p ts ≡ Ok q → go_on after_groups s z p ts ≡ Ok q
no_order s z p q [] e = e
no_order s z p q (t ∷ ts) e = wider_groups s z p q t.byte t.lexeme ts e

pub order_runs : (s : Schema) (z : ℕ) (p q : Parts) {ts m : List Token} {ks : List KeyAt} → IsOrder s ts m ks → go_on after_order s z (record p { order = p.order ++ ks }) m ≡ Ok q → go_on after_groups s z p ts ≡ Ok q
order_runs s z p q (unordered _ rest) e = no_order s z p q rest (subst (λ xs. go_on after_order s z (record p { order = xs }) rest ≡ Ok q) (append-nil p.order) e)
order_runs s z p q (ordered b c {rest = rest} {k = k} {ks = ks} is more) e =
    key_runs s z p q is (keys_run s z (record p { order = p.order ++ k ∷ [] }) q more (subst (λ xs. go_on after_order s z (record p { order = xs }) rest ≡ Ok q) (sym (append_assoc p.order (k ∷ []) ks)) e))

from_group : (s : Schema) (z : ℕ) (p : Parts) (ts : List Token) → run_at s z stage.AfterGroup p ts ≡ go_on after_group s z p ts
from_group s z p [] = refl
from_group s z p (t ∷ ts) = refl

wider_group : (s : Schema) (z : ℕ) (p q : Parts) (b : ℕ) (l : Lexeme) (ts : List Token) → go_on after_groups s z p (tok b l ∷ ts) ≡ Ok q → go_on after_group s z p (tok b l ∷ ts) ≡ Ok q
wider_group s z p q b (Word word.Comma) ts e = cc
wider_group s z p q b other ts e = e

no_name : (s : Schema) (z : ℕ) (p q : Parts) (ts : List Token) → go_on after_groups s z p ts ≡ Ok q → go_on after_group s z p ts ≡ Ok q
no_name s z p q [] e = e
no_name s z p q (t ∷ ts) e = wider_group s z p q t.byte t.lexeme ts e

name_runs : (s : Schema) (z : ℕ) (p q : Parts) {ts m : List Token} {g : GroupAt} → IsName s ts m g → go_on after_group s z (record p { groups = p.groups ++ g ∷ [] }) m ≡ Ok q → run_at s z stage.Group p ts ≡ Ok q
name_runs s z p q (name b _ n rest) e = from_group s z (record p { groups = p.groups ++ record { byte = b; column = column_at s n } ∷ [] }) rest ∙ e

names_run : (s : Schema) (z : ℕ) (p q : Parts) {ts m : List Token} {gs : List GroupAt} → Repeats GroupAt (IsName s) ts m gs → go_on after_groups s z (record p { groups = p.groups ++ gs }) m ≡ Ok q → go_on after_group s z p ts ≡ Ok q
names_run s z p q (no_more rest) e = no_name s z p q rest (subst (λ xs. go_on after_groups s z (record p { groups = xs }) rest ≡ Ok q) (append-nil p.groups) e)
names_run s z p q (comma b {rest = rest} {x = g} {xs = gs} is more) e =
    name_runs s z p q is (names_run s z (record p { groups = p.groups ++ g ∷ [] }) q more (subst (λ xs. go_on after_groups s z (record p { groups = xs }) rest ≡ Ok q) (sym (append_assoc p.groups (g ∷ []) gs)) e))

wider_filter : (s : Schema) (z : ℕ) (p q : Parts) (b : ℕ) (l : Lexeme) (ts : List Token) → go_on after_groups s z p (tok b l ∷ ts) ≡ Ok q → go_on after_filter s z p (tok b l ∷ ts) ≡ Ok q
wider_filter s z p q b (Word word.Group) ts e = cc
wider_filter s z p q b other ts e = e

no_groups : (s : Schema) (z : ℕ) (p q : Parts) (ts : List Token) → go_on after_groups s z p ts ≡ Ok q → go_on after_filter s z p ts ≡ Ok q
no_groups s z p q [] e = e
no_groups s z p q (t ∷ ts) e = wider_filter s z p q t.byte t.lexeme ts e

pub groups_run : (s : Schema) (z : ℕ) (p q : Parts) {ts m : List Token} {gs : List GroupAt} → IsGroups s ts m gs → go_on after_groups s z (record p { groups = p.groups ++ gs }) m ≡ Ok q → go_on after_filter s z p ts ≡ Ok q
groups_run s z p q (ungrouped _ rest) e = no_groups s z p q rest (subst (λ xs. go_on after_groups s z (record p { groups = xs }) rest ≡ Ok q) (append-nil p.groups) e)
groups_run s z p q (grouped b c {rest = rest} {g = g} {gs = gs} is more) e =
    name_runs s z p q is (names_run s z (record p { groups = p.groups ++ g ∷ [] }) q more (subst (λ xs. go_on after_groups s z (record p { groups = xs }) rest ≡ Ok q) (sym (append_assoc p.groups (g ∷ []) gs)) e))

wider_term : (s : Schema) (z : ℕ) (level : Level) (p q : Parts) (b : ℕ) (l : Lexeme) (ts : List Token) → go_on after_filter s z (record p { filter = Some (predicate_of level) }) (tok b l ∷ ts) ≡ Ok q → run_at s z (after level []) p (tok b l ∷ ts) ≡ Ok q
wider_term s z level p q b (Word word.And) ts e = cc
wider_term s z level p q b (Word word.Or) ts e = cc
wider_term s z level p q b other ts e = e

pub after_runs : (s : Schema) (z : ℕ) (level : Level) (p q : Parts) (ts : List Token) → go_on after_filter s z (record p { filter = Some (predicate_of level) }) ts ≡ Ok q → run_at s z (after level []) p ts ≡ Ok q
after_runs s z level p q [] e = e
after_runs s z level p q (t ∷ ts) e = wider_term s z level p q t.byte t.lexeme ts e

pub from_table : (s : Schema) (z : ℕ) (p : Parts) (ts : List Token) → run_at s z stage.AfterTable p ts ≡ go_on after_table s z p ts
from_table s z p [] = refl
from_table s z p (t ∷ ts) = refl

wider_table : (s : Schema) (z : ℕ) (p q : Parts) (b : ℕ) (l : Lexeme) (ts : List Token) → go_on after_filter s z p (tok b l ∷ ts) ≡ Ok q → go_on after_table s z p (tok b l ∷ ts) ≡ Ok q
wider_table s z p q b (Word word.Where) ts e = cc
wider_table s z p q b other ts e = e

pub no_where : (s : Schema) (z : ℕ) (p q : Parts) (ts : List Token) → go_on after_filter s z p ts ≡ Ok q → go_on after_table s z p ts ≡ Ok q
no_where s z p q [] e = e
no_where s z p q (t ∷ ts) e = wider_table s z p q t.byte t.lexeme ts e

abbrev pub with_filter : Parts → Option Tree → Parts
with_filter p None = p
with_filter p (Some t) = record p { filter = Some t }

where_runs : (s : Schema) (z : ℕ) (p q : Parts) {room : ℕ} {ts m : List Token} {f : Option Tree} → IsWhere s room ts m f → room ≤ 64 → go_on after_filter s z (with_filter p f) m ≡ Ok q → go_on after_table s z p ts ≡ Ok q
where_runs s z p q (unfiltered _ room rest) h e = no_where s z p q rest e
where_runs s z p q (filtered b {rest = rest} is) h e =
    predicate_runs s z p 64 [] (Ok q) is h (λ level e2. after_runs s z level p q rest (subst (λ w. go_on after_filter s z (record p { filter = Some w }) rest ≡ Ok q) (sym e2) e))

pub items_run : (s : Schema) (z : ℕ) (p : Parts) {ts rest : List Token} {is : List ItemAt} → Repeats ItemAt (IsItem s) ts rest is → run_at s z stage.AfterItem p ts ≡ run_at s z stage.AfterItem (record p { items = p.items ++ is }) rest
items_run s z p (no_more rest) = ap (λ xs. run_at s z stage.AfterItem (record p { items = xs }) rest) (sym (append-nil p.items))
items_run s z p (comma b {rest = rest} {x = i} {xs = is} found more) =
    item_runs s z side.Select p found ∙ items_run s z (record p { items = p.items ++ i ∷ [] }) more
    ∙ ap (λ xs. run_at s z stage.AfterItem (record p { items = xs }) rest) (append_assoc p.items (i ∷ []) is)

abbrev pub parts_from : List ItemAt → List ℕ → Parts
parts_from items table = record { items = items; table = table; filter = None; groups = []; order = []; limit = 10 }

-- a query is read
pub complete : (s : Schema) (z room : ℕ) (ts : List Token) (q : Parts) → IsQuery s room ts q → room ≤ 64 → run s z nothing ts ≡ Ok q
complete s z room ts q (query b f n table {w = w} {x = x} {xs = xs} {filter = None} is items filtering groups order limit e) h =
    item_runs s z side.Select nothing.parts is ∙ items_run s z (record nothing.parts { items = x ∷ [] }) items
    ∙ from_table s z (parts_from (x ∷ xs) table) w
    ∙ where_runs s z (parts_from (x ∷ xs) table) _ filtering h (groups_run s z _ _ groups (order_runs s z _ _ order (limit_runs s z _ limit e)))
complete s z room ts q (query b f n table {w = w} {x = x} {xs = xs} {filter = Some t} is items filtering groups order limit e) h =
    item_runs s z side.Select nothing.parts is ∙ items_run s z (record nothing.parts { items = x ∷ [] }) items
    ∙ from_table s z (parts_from (x ∷ xs) table) w
    ∙ where_runs s z (parts_from (x ∷ xs) table) _ filtering h (groups_run s z _ _ groups (order_runs s z _ _ order (limit_runs s z _ limit e)))
