-- What is read as a query is derived by the grammar: each step leads from what completes the query after it to what completes it before.
use Rattle.std.proofs.Common.{◌≡◌, ℕ, suc, ◌+◌, ◌-◌, ◌<◌, Bool, true, false, List, [], ◌∷◌, ◌++◌, nat_lt, Option, Some, None, Result, Ok, Err, if◌then◌else◌, refl, ap, sym, ◌∙◌, subst, append_assoc, add-one, arith}
use Rattle.std.proofs.lemmas.Bool.{ltb-true}
use Rattle.std.proofs.lemmas.List.{append-nil}
use Rattle.rt_schema.specs.declared.schema.Schema.{Schema}
use Rattle.rt_model.specs.Tree.{Tree, Not}
use Rattle.rt_model.specs.declared.query_parts.ColumnAt.{ColumnAt}
use Rattle.rt_model.specs.declared.query_parts.Literal.{Literal}
use Rattle.rt_tokens.specs.declared.lexeme.Lexeme.{Lexeme}
use Rattle.rt_tokens.specs.declared.lexeme.Lexeme.TheVariants.{Word, Name, Number, Text, Comparison}
use Rattle.rt_tokens.specs.declared.lexeme.Word.TheVariants as word
use Rattle.rt_tokens.specs.declared.token.Token.{Token}
use Rattle.rt_grammar.specs.Columns.{column_at}
use Rattle.rt_grammar.specs.Nested.{all_of, any_of, with_term, with_condition, predicate_of, new_level, inside}
use Rattle.rt_grammar.specs.Testing.{among, with_literal, operator, after_not, list as list_step, literal, digits, upper, after_literal, tested}
use Rattle.rt_grammar.specs.Steps.{at, step, step_at, select, with_item, wanted, argument, closing, called, after_item, table, after_limit, after_order, after_groups, after_filter, after_table, deeper, term, after_test, after_predicate, after_term, group_by, group, after_group, order_by, with_key, after_direction, after_key, limit}
use Rattle.rt_grammar.specs.Run.{nothing, ended, predicate_ends, or_syntax, then_read, run}
use Rattle.rt_grammar.specs.Grammar.{tok, no_more, comma, IsLiteral, number, minus, quoted, truth, untruth, IsList, list, IsTest, compares, between, one_of, none_of, IsTerm, negated, enclosed, test as tested_name, condition, no_term, and, predicate, no_condition, or, IsItem, column, count, sum, min, max, IsDirection, unsaid, ascending, descending, key, IsName, name, unfiltered, filtered, ungrouped, grouped, unordered, ordered, unlimited, limited, bare, semicolon, IsQuery, query}
use Rattle.rt_grammar.specs.declared.call.Call.{Call}
use Rattle.rt_grammar.specs.declared.call.Call.TheVariants as call
use Rattle.rt_grammar.specs.declared.call.Function.{Function}
use Rattle.rt_grammar.specs.declared.call.Function.TheVariants as function
use Rattle.rt_grammar.specs.declared.nesting.Level.{Level}
use Rattle.rt_grammar.specs.declared.nesting.Enclosing.{Enclosing}
use Rattle.rt_grammar.specs.declared.nesting.Nesting.{Nesting}
use Rattle.rt_grammar.specs.declared.parts.ItemAt.{ItemAt}
use Rattle.rt_grammar.specs.declared.parts.GroupAt.{GroupAt}
use Rattle.rt_grammar.specs.declared.parts.Parts.{Parts}
use Rattle.rt_grammar.specs.declared.sql_refused.SqlRefused.{SqlRefused}
use Rattle.rt_grammar.specs.declared.state.Side.{Side}
use Rattle.rt_grammar.specs.declared.state.Side.TheVariants as side
use Rattle.rt_grammar.specs.declared.state.Stage.{Stage}
use Rattle.rt_grammar.specs.declared.state.Stage.TheVariants as stage
use Rattle.rt_grammar.specs.declared.state.State.{State}
use Rattle.rt_grammar.specs.declared.stop.Stop.{Stop}
use Rattle.rt_grammar.specs.declared.stop.Stop.TheVariants as stop
use Rattle.rt_grammar.specs.declared.test.Test.{Test}
use Rattle.rt_grammar.specs.declared.test.Test.TheVariants as test
use Rattle.rt_grammar.specs.declared.test.Asked.{Asked}
use Rattle.rt_grammar.specs.declared.test.Asked.TheVariants as asked
use Rattle.rt_grammar.specs.declared.test.Tested.{Tested}
use Rattle.rt_grammar.specs.declared.test.Tested.TheVariants.{More, Whole}
use Rattle.rt_grammar.proofs.Completing.{Then, reads, ListThen, list_then, UpperThen, upper_then, AskedThen, TestThen, EndThen, end_then, LimitThen, limit_then, OrderThen, order_then, KeysThen, keys_then, DirectionThen, direction_then, GroupsThen, groups_then, NamesThen, names_then, WhereThen, where_then, TableThen, table_then, ItemsThen, items_then, whole, TermsThen, outermost, within, TermThen, term_then, word_of, ItemThen, close_then, CallThen, SelectThen, select_then, NoneThen, none_then, roomier, all_roomier, wider, Completes}

-- Tests

abbrev TestNext : (List Token → Tree → Type 0) → Result Tested Stop → List Token → Type 0
TestNext K (Ok (More t)) ts = TestThen K t ts
TestNext K (Ok (Whole tree)) ts = K ts tree
TestNext K (Err stop) ts = ⊥

operator_back : (K : List Token → Tree → Type 0) (c : ColumnAt) (b : ℕ) (l : Lexeme) (ts : List Token) → TestNext K (operator c l) ts → Then Tree (IsTest c) K (tok b l ∷ ts)
operator_back K c b (Comparison o) ts (reads l k) = reads (compares b c o l) k
operator_back K c b (Word word.Between) ts (reads l (upper_then d h k)) = reads (between b d c l h) k
operator_back K c b (Word word.In) ts (reads ls k) = reads (one_of b c ls) k
operator_back K c b (Word word.Not) ts h = h b
operator_back K c b other ts h = absurd h

after_not_back : (K : List Token → Tree → Type 0) (c : ColumnAt) (b : ℕ) (l : Lexeme) (ts : List Token) → TestNext K (after_not c l) ts → (a : ℕ) → Then Tree (IsTest c) K (tok a (Word word.Not) ∷ tok b l ∷ ts)
after_not_back K c b (Word word.In) ts (reads ls k) a = reads (none_of a b c ls) k
after_not_back K c b other ts h a = absurd h

list_back : (K : List Token → Tree → Type 0) (c : ColumnAt) (n : Bool) (b : ℕ) (l : Lexeme) (ts : List Token) → TestNext K (list_step c n l) ts → Then (List Literal) IsList (λ m ls. K m (among c n ls)) (tok b l ∷ ts)
list_back K c n b (Word word.Open) ts (reads l (list_then d ls more k)) = reads (list b d l more) k
list_back K c n b other ts h = absurd h

with_literal_back : (K : List Token → Tree → Type 0) (a : Asked) (l : Literal) (ts : List Token) → TestNext K (Ok (with_literal a l)) ts → AskedThen K a ts l
with_literal_back K (asked.Compare c o) l ts h = h
with_literal_back K (asked.Lower c) l ts h = h
with_literal_back K (asked.Upper c low) l ts h = h
with_literal_back K (asked.Among c n ls) l ts h = h

literal_back : (K : List Token → Tree → Type 0) (a : Asked) (b : ℕ) (l : Lexeme) (ts : List Token) → TestNext K (literal a l) ts → Then Literal IsLiteral (AskedThen K a) (tok b l ∷ ts)
literal_back K a b (Word word.Minus) ts h = h b
literal_back K a b (Word word.True) ts h = reads (truth b ts) (with_literal_back K a _ ts h)
literal_back K a b (Word word.False) ts h = reads (untruth b ts) (with_literal_back K a _ ts h)
literal_back K a b (Number n) ts h = reads (number b n ts) (with_literal_back K a _ ts h)
literal_back K a b (Text t) ts h = reads (quoted b t ts) (with_literal_back K a _ ts h)
literal_back K a b other ts h = absurd h

digits_back : (K : List Token → Tree → Type 0) (a : Asked) (b : ℕ) (l : Lexeme) (ts : List Token) → TestNext K (digits a l) ts → (c : ℕ) → Then Literal IsLiteral (AskedThen K a) (tok c (Word word.Minus) ∷ tok b l ∷ ts)
digits_back K a b (Number n) ts h c = reads (minus c b n ts) (with_literal_back K a _ ts h)
digits_back K a b other ts h c = absurd h

upper_back : (K : List Token → Tree → Type 0) (c : ColumnAt) (low : Literal) (b : ℕ) (l : Lexeme) (ts : List Token) → TestNext K (upper c low l) ts → UpperThen K c low (tok b l ∷ ts)
upper_back K c low b (Word word.And) ts (reads l k) = upper_then b l k
upper_back K c low b other ts h = absurd h

one_literal_more : (K : List Token → Tree → Type 0) (c : ColumnAt) (n : Bool) (ls : List Literal) (l : Literal) (b : ℕ) {ts m : List Token} → IsLiteral ts m l → ListThen K c n (ls ++ l ∷ []) m → ListThen K c n ls (tok b (Word word.Comma) ∷ ts)
one_literal_more K c n ls l b is (list_then d {m = rest} {more = more} _ repeats k) =
    list_then d ls (comma b is repeats) (subst (λ xs. K rest (among c n xs)) (append_assoc ls (l ∷ []) more) k)

after_literal_back : (K : List Token → Tree → Type 0) (c : ColumnAt) (n : Bool) (ls : List Literal) (b : ℕ) (l : Lexeme) (ts : List Token) → TestNext K (after_literal c n ls l) ts → ListThen K c n ls (tok b l ∷ ts)
after_literal_back K c n ls b (Word word.Comma) ts (reads {x = l} is k) = one_literal_more K c n ls l b is k
after_literal_back K c n ls b (Word word.Close) ts h = list_then b ls (no_more _) (subst (λ xs. K ts (among c n xs)) (sym (append-nil ls)) h)
after_literal_back K c n ls b other ts h = absurd h

tested_back : (K : List Token → Tree → Type 0) (t : Test) (b : ℕ) (l : Lexeme) (ts : List Token) → TestNext K (tested t l) ts → TestThen K t (tok b l ∷ ts)
tested_back K (test.Operator c) b l ts h = operator_back K c b l ts h
tested_back K (test.AfterNot c) b l ts h = after_not_back K c b l ts h
tested_back K (test.List c n) b l ts h = list_back K c n b l ts h
tested_back K (test.Literal a) b l ts h = literal_back K a b l ts h
tested_back K (test.Digits a) b l ts h = digits_back K a b l ts h
tested_back K (test.Upper c low) b l ts h = upper_back K c low b l ts h
tested_back K (test.AfterLiteral c n ls) b l ts h = after_literal_back K c n ls b l ts h

-- The other parts

abbrev pub Next : ℕ → Schema → Result State Stop → List Token → Parts → Type 0
Next extra s (Ok state) ts q = Completes extra s state.stage state.parts ts q
Next extra s (Err stop) ts q = ⊥

end_back : (extra : ℕ) (s : Schema) (p q : Parts) (b : ℕ) (l : Lexeme) (ts : List Token) → Next extra s (after_limit l p) ts q → EndThen p (tok b l ∷ ts) q
end_back extra s p q b (Word word.Semicolon) ts (none_then _) = end_then p (semicolon b)
end_back extra s p q b other ts h = absurd h

no_limit : (p q : Parts) (ts : List Token) → EndThen p ts q → LimitThen p ts q
no_limit p q ts (end_then _ e) = limit_then p (unlimited ts) e

limit_back : (extra : ℕ) (s : Schema) (p q : Parts) (b : ℕ) (l : Lexeme) (ts : List Token) → Next extra s (after_order l p) ts q → LimitThen p (tok b l ∷ ts) q
limit_back extra s p q b (Word word.Limit) ts h = h b
limit_back extra s p q b other ts h = no_limit p q (tok b other ∷ ts) (end_back extra s p q b other ts h)

no_order : (s : Schema) (p q : Parts) (ts : List Token) → LimitThen p ts q → OrderThen s p ts q
no_order s p q ts h = order_then p (unordered s ts) (subst (λ ks. LimitThen (record p { order = ks }) ts q) (sym (append-nil p.order)) h)

order_back : (extra : ℕ) (s : Schema) (p q : Parts) (b : ℕ) (l : Lexeme) (ts : List Token) → Next extra s (after_groups l p) ts q → OrderThen s p (tok b l ∷ ts) q
order_back extra s p q b (Word word.Order) ts h = h b
order_back extra s p q b other ts h = no_order s p q (tok b other ∷ ts) (limit_back extra s p q b other ts h)

no_groups : (s : Schema) (p q : Parts) (ts : List Token) → OrderThen s p ts q → GroupsThen s p ts q
no_groups s p q ts h = groups_then p (ungrouped s ts) (subst (λ gs. OrderThen s (record p { groups = gs }) ts q) (sym (append-nil p.groups)) h)

groups_back : (extra : ℕ) (s : Schema) (p q : Parts) (b : ℕ) (l : Lexeme) (ts : List Token) → Next extra s (after_filter l p) ts q → GroupsThen s p (tok b l ∷ ts) q
groups_back extra s p q b (Word word.Group) ts h = h b
groups_back extra s p q b other ts h = no_groups s p q (tok b other ∷ ts) (order_back extra s p q b other ts h)

no_where : (extra : ℕ) (s : Schema) (p q : Parts) (ts : List Token) → GroupsThen s p ts q → WhereThen (64 + extra) s p ts q
no_where extra s p q ts h = where_then p (unfiltered s (64 + extra) ts) h

term_at : (s : Schema) (room : ℕ) (ts m : List Token) (t : Tree) → IsTerm s (room - 0) ts m t → IsTerm s room ts m t
term_at s room ts m t is = let same : room - 0 ≡ room = omega arith in subst (λ r. IsTerm s r ts m t) same is

-- a predicate that is read at the outermost level
outermost_predicate : (extra : ℕ) (s : Schema) (p q : Parts) (b : ℕ) (ts : List Token) → TermThen s p (record { level = new_level (64 + extra); outer = [] }) 0 ts q → WhereThen (64 + extra) s p (tok b (Word word.Where) ∷ ts) q
outermost_predicate extra s p q b ts (term_then _ _ _ {m = m} {t = t} is (outermost _ _ terms conditions h)) =
    where_then p (filtered b (predicate (condition (term_at s (64 + extra) ts m t is) terms) conditions)) h

where_back : (extra : ℕ) (s : Schema) (p q : Parts) (b : ℕ) (l : Lexeme) (ts : List Token) → Next extra s (after_table l p) ts q → WhereThen (64 + extra) s p (tok b l ∷ ts) q
where_back extra s p q b (Word word.Where) ts h = outermost_predicate extra s p q b ts h
where_back extra s p q b other ts h = no_where extra s p q (tok b other ∷ ts) (groups_back extra s p q b other ts h)

-- Terms

deeper_case : (extra : ℕ) (s : Schema) (n : Nesting) (nots : ℕ) (next : Stage) (p q : Parts) (ts : List Token) (b : Bool) → nat_lt nots n.level.room ≡ b →
    Next extra s (if b then Ok (at next p) else Err stop.Deep) ts q → (nots < n.level.room) × Completes extra s next p ts q
deeper_case extra s n nots next p q ts true e h = (ltb-true nots n.level.room e, h)
deeper_case extra s n nots next p q ts false e h = absurd h

deeper_back : (extra : ℕ) (s : Schema) (n : Nesting) (nots : ℕ) (next : Stage) (p q : Parts) (ts : List Token) → Next extra s (deeper n nots next p) ts q → (nots < n.level.room) × Completes extra s next p ts q
deeper_back extra s n nots next p q ts h = deeper_case extra s n nots next p q ts (nat_lt nots n.level.room) refl h

pub not_back : (s : Schema) (n : Nesting) (nots : ℕ) (p q : Parts) (b : ℕ) (ts : List Token) → nots < n.level.room → TermThen s p n (nots + 1) ts q → TermThen s p n nots (tok b (Word word.Not) ∷ ts) q
not_back s n nots p q b ts lt (term_then _ _ _ {m = m} {t = t} is k) =
    let room : suc (n.level.room - (nots + 1)) ≡ n.level.room - nots = omega (arith, lt) in
    term_then p n nots (subst (λ r. IsTerm s r (tok b (Word word.Not) ∷ ts) m (Not t)) room (negated b is)) (subst (λ k. TermsThen s p (with_term n.level k t) n.outer m q) (add-one nots) k)

pub open_back : (s : Schema) (n : Nesting) (nots : ℕ) (p q : Parts) (b : ℕ) (ts : List Token) → nots < n.level.room → TermThen s p (inside n nots) 0 ts q → TermThen s p n nots (tok b (Word word.Open) ∷ ts) q
open_back s n nots p q b ts lt (term_then _ _ _ {m = m} {t = t} is (within _ _ _ c {n = rest} {more = more} {conditions = others} terms conditions k)) =
    let same : n.level.room - nots - 1 - 0 ≡ n.level.room - nots - 1 = omega arith in
    let room : suc (n.level.room - nots - 1) ≡ n.level.room - nots = omega (arith, lt) in
    let inner : IsTerm s (n.level.room - nots - 1) ts m t = subst (λ r. IsTerm s r ts m t) same is in
    term_then p n nots (subst (λ r. IsTerm s r (tok b (Word word.Open) ∷ ts) rest (any_of (all_of (t ∷ more) ∷ others))) room (enclosed b c (predicate (condition inner terms) conditions))) k

name_back : (s : Schema) (n : Nesting) (nots : ℕ) (p q : Parts) (b : ℕ) (x : List ℕ) (ts : List Token) →
    Then Tree (IsTest (column_at s x)) (λ m t. TermsThen s p (with_term n.level nots t) n.outer m q) ts → TermThen s p n nots (tok b (Name x) ∷ ts) q
name_back s n nots p q b x ts (reads is k) = term_then p n nots (tested_name b s (n.level.room - nots) x is) k

-- behind a parenthesis there is as much more room as before it
wider_inside : (extra : ℕ) (s : Schema) (n : Nesting) (nots : ℕ) (p q : Parts) (ts : List Token) → nots < n.level.room → TermThen s p (wider extra (inside n nots)) 0 ts q → TermThen s p (inside (wider extra n) nots) 0 ts q
wider_inside extra s n nots p q ts lt h =
    let same : n.level.room - nots - 1 + extra ≡ n.level.room + extra - nots - 1 = omega (arith, lt) in
    subst (λ r. TermThen s p (record { level = new_level r; outer = record { level = roomier extra n.level; nots = nots } ∷ all_roomier extra n.outer }) 0 ts q) same h

term_back : (extra : ℕ) (s : Schema) (n : Nesting) (nots : ℕ) (p q : Parts) (b : ℕ) (l : Lexeme) (ts : List Token) → Next extra s (term s n nots l p) ts q → TermThen s p (wider extra n) nots (tok b l ∷ ts) q
term_back extra s n nots p q b (Word word.Not) ts h = let d = deeper_back extra s n nots (stage.Term n (nots + 1)) p q ts h in not_back s (wider extra n) nots p q b ts (omega (arith, d.0)) d.1
term_back extra s n nots p q b (Word word.Open) ts h = let d = deeper_back extra s n nots (stage.Term (inside n nots) 0) p q ts h in
    open_back s (wider extra n) nots p q b ts (omega (arith, d.0)) (wider_inside extra s n nots p q ts d.0 d.1)
term_back extra s n nots p q b (Name x) ts h = name_back s (wider extra n) nots p q b x ts h
term_back extra s n nots p q b other ts h = absurd h

after_test_back : (extra : ℕ) (s : Schema) (n : Nesting) (nots : ℕ) (p q : Parts) (r : Result Tested Stop) (ts : List Token) → Next extra s (after_test n nots p r) ts q → TestNext (λ m t. TermsThen s p (with_term (roomier extra n.level) nots t) (all_roomier extra n.outer) m q) r ts
after_test_back extra s n nots p q (Ok (More t)) ts h = h
after_test_back extra s n nots p q (Ok (Whole tree)) ts h = h
after_test_back extra s n nots p q (Err stop) ts h = h

-- one more term at a level
and_back : (s : Schema) (p q : Parts) (level : Level) (outer : List Enclosing) (t : Tree) (b : ℕ) (ts m : List Token) → IsTerm s level.room ts m t → TermsThen s p (with_term level 0 t) outer m q → TermsThen s p level outer (tok b (Word word.And) ∷ ts) q
and_back s p q level outer t b ts m is (outermost _ _ {n = rest} {more = more} {conditions = others} terms conditions h) =
    outermost p level (and b is terms) conditions
    (subst (λ xs. GroupsThen s (record p { filter = Some (any_of (level.conditions ++ all_of xs ∷ others)) }) rest q) (append_assoc level.terms (t ∷ []) more) h)
and_back s p q level outer t b ts m is (within _ _ e c {outer = enclosing} {n = rest} {more = more} {conditions = others} terms conditions h) =
    within p level e c (and b is terms) conditions
    (subst (λ xs. TermsThen s p (with_term e.level e.nots (any_of (level.conditions ++ all_of xs ∷ others))) enclosing rest q) (append_assoc level.terms (t ∷ []) more) h)

-- a condition ends, and one more begins
or_whole : (level : Level) (t : Tree) (more others : List Tree) → whole (with_term (with_condition level) 0 t) more others ≡ whole level [] (all_of (t ∷ more) ∷ others)
or_whole level t more others =
    ap any_of (append_assoc level.conditions (all_of level.terms ∷ []) (all_of (t ∷ more) ∷ others)
    ∙ ap (λ xs. level.conditions ++ all_of xs ∷ all_of (t ∷ more) ∷ others) (sym (append-nil level.terms)))

or_back : (s : Schema) (p q : Parts) (level : Level) (outer : List Enclosing) (t : Tree) (b : ℕ) (ts m : List Token) → IsTerm s level.room ts m t → TermsThen s p (with_term (with_condition level) 0 t) outer m q → TermsThen s p level outer (tok b (Word word.Or) ∷ ts) q
or_back s p q level outer t b ts m is (outermost _ _ {n = rest} {more = more} {conditions = others} terms conditions h) =
    outermost p level (no_term s level.room _) (or b (condition is terms) conditions)
    (subst (λ w. GroupsThen s (record p { filter = Some w }) rest q) (or_whole level t more others) h)
or_back s p q level outer t b ts m is (within _ _ e c {outer = enclosing} {n = rest} {more = more} {conditions = others} terms conditions h) =
    within p level e c (no_term s level.room _) (or b (condition is terms) conditions)
    (subst (λ w. TermsThen s p (with_term e.level e.nots w) enclosing rest q) (or_whole level t more others) h)

and_term : (s : Schema) (p q : Parts) (n : Nesting) (b : ℕ) (ts : List Token) → TermThen s p n 0 ts q → TermsThen s p n.level n.outer (tok b (Word word.And) ∷ ts) q
and_term s p q n b ts (term_then _ _ _ {m = m} {t = t} is k) = and_back s p q n.level n.outer t b ts m (term_at s n.level.room ts m t is) k

or_term : (s : Schema) (p q : Parts) (level : Level) (outer : List Enclosing) (b : ℕ) (ts : List Token) → TermThen s p (record { level = with_condition level; outer = outer }) 0 ts q → TermsThen s p level outer (tok b (Word word.Or) ∷ ts) q
or_term s p q level outer b ts (term_then _ _ _ {m = m} {t = t} is k) = or_back s p q level outer t b ts m (term_at s level.room ts m t is) k

ends_whole : (level : Level) → predicate_of level ≡ whole level [] []
ends_whole level = ap (λ xs. any_of (level.conditions ++ all_of xs ∷ [])) (sym (append-nil level.terms))

outermost_ends : (s : Schema) (p q : Parts) (level : Level) (ts : List Token) → GroupsThen s (record p { filter = Some (predicate_of level) }) ts q → TermsThen s p level [] ts q
outermost_ends s p q level ts h = outermost p level (no_term s level.room ts) (no_condition s level.room ts) (subst (λ w. GroupsThen s (record p { filter = Some w }) ts q) (ends_whole level) h)

after_predicate_back : (extra : ℕ) (s : Schema) (level : Level) (outer : List Enclosing) (p q : Parts) (b : ℕ) (l : Lexeme) (ts : List Token) → Next extra s (after_predicate level outer l p) ts q → TermsThen s p (roomier extra level) (all_roomier extra outer) (tok b l ∷ ts) q
after_predicate_back extra s level [] p q b l ts h = outermost_ends s p q (roomier extra level) (tok b l ∷ ts) (groups_back extra s (record p { filter = Some (predicate_of level) }) q b l ts h)
after_predicate_back extra s level (e ∷ outer) p q b (Word word.Close) ts h =
    within p (roomier extra level) (record { level = roomier extra e.level; nots = e.nots }) b (no_term s (level.room + extra) _) (no_condition s (level.room + extra) _)
    (subst (λ w. TermsThen s p (with_term (roomier extra e.level) e.nots w) (all_roomier extra outer) ts q) (ends_whole (roomier extra level)) h)
after_predicate_back extra s level (e ∷ outer) p q b other ts h = absurd h

after_term_back : (extra : ℕ) (s : Schema) (n : Nesting) (p q : Parts) (b : ℕ) (l : Lexeme) (ts : List Token) → Next extra s (after_term n l p) ts q → TermsThen s p (roomier extra n.level) (all_roomier extra n.outer) (tok b l ∷ ts) q
after_term_back extra s n p q b (Word word.And) ts h = and_term s p q (wider extra n) b ts h
after_term_back extra s n p q b (Word word.Or) ts h = or_term s p q (roomier extra n.level) (all_roomier extra n.outer) b ts h
after_term_back extra s n p q b other ts h = after_predicate_back extra s n.level n.outer p q b other ts h

-- Items, names and keys

with_item_back : (extra : ℕ) (s : Schema) (side : Side) (i : ItemAt) (p q : Parts) (ts : List Token) → Next extra s (Ok (with_item side i p)) ts q → ItemThen (64 + extra) s side p q ts i
with_item_back extra s side.Select i p q ts h = h
with_item_back extra s side.Order i p q ts h = h

wanted_back : (extra : ℕ) (s : Schema) (side : Side) (p q : Parts) (b : ℕ) (l : Lexeme) (ts : List Token) → Next extra s (wanted s side b l p) ts q → Then ItemAt (IsItem s) (ItemThen (64 + extra) s side p q) (tok b l ∷ ts)
wanted_back extra s side p q b (Name n) ts h = reads (column b s n ts) (with_item_back extra s side _ p q ts h)
wanted_back extra s side p q b (Word word.Count) ts h = h
wanted_back extra s side p q b (Word word.Sum) ts h = h
wanted_back extra s side p q b (Word word.Min) ts h = h
wanted_back extra s side p q b (Word word.Max) ts h = h
wanted_back extra s side p q b other ts h = absurd h

argument_back : (extra : ℕ) (s : Schema) (side : Side) (p q : Parts) (byte : ℕ) (f : Function) (b : ℕ) (l : Lexeme) (ts : List Token) → Next extra s (closing side p (argument s byte f l)) ts q →
    (a : ℕ) → Then ItemAt (IsItem s) (ItemThen (64 + extra) s side p q) (tok byte (Word (word_of f)) ∷ tok a (Word word.Open) ∷ tok b l ∷ ts)
argument_back extra s side p q byte function.Count b (Word word.Star) ts (close_then c k) a = reads (count byte a b c s _) k
argument_back extra s side p q byte function.Sum b (Name n) ts (close_then c k) a = reads (sum byte a b c s n _) k
argument_back extra s side p q byte function.Min b (Name n) ts (close_then c k) a = reads (min byte a b c s n _) k
argument_back extra s side p q byte function.Max b (Name n) ts (close_then c k) a = reads (max byte a b c s n _) k
argument_back extra s side p q byte f b other ts h a = absurd h

called_back : (extra : ℕ) (s : Schema) (side : Side) (p q : Parts) (call : Call) (b : ℕ) (l : Lexeme) (ts : List Token) → Next extra s (called s side call l p) ts q → CallThen s (ItemThen (64 + extra) s side p q) call (tok b l ∷ ts)
called_back extra s side p q (call.Open byte f) b (Word word.Open) ts h = h b
called_back extra s side p q (call.Argument byte f) b l ts h = argument_back extra s side p q byte f b l ts h
called_back extra s side p q (call.Close found) b (Word word.Close) ts h = close_then b (with_item_back extra s side found p q ts h)
called_back extra s side p q other b l ts h = absurd h

one_item_more : (extra : ℕ) (s : Schema) (p q : Parts) (i : ItemAt) (b : ℕ) (ts m : List Token) → IsItem s ts m i → ItemsThen (64 + extra) s (record p { items = p.items ++ i ∷ [] }) m q → ItemsThen (64 + extra) s p (tok b (Word word.Comma) ∷ ts) q
one_item_more extra s p q i b ts m is (items_then _ f {m = rest} {is = more} repeats k) =
    items_then p f (comma b is repeats) (subst (λ xs. TableThen (64 + extra) s (record p { items = xs }) rest q) (append_assoc p.items (i ∷ []) more) k)

after_item_back : (extra : ℕ) (s : Schema) (p q : Parts) (b : ℕ) (l : Lexeme) (ts : List Token) → Next extra s (after_item l p) ts q → ItemsThen (64 + extra) s p (tok b l ∷ ts) q
after_item_back extra s p q b (Word word.Comma) ts (reads {m = m} {x = i} is k) = one_item_more extra s p q i b ts m is k
after_item_back extra s p q b (Word word.From) ts h = items_then p b (no_more _) (subst (λ xs. TableThen (64 + extra) s (record p { items = xs }) ts q) (sym (append-nil p.items)) h)
after_item_back extra s p q b other ts h = absurd h

table_back : (extra : ℕ) (s : Schema) (p q : Parts) (b : ℕ) (l : Lexeme) (ts : List Token) → Next extra s (table l p) ts q → TableThen (64 + extra) s p (tok b l ∷ ts) q
table_back extra s p q b (Name n) ts h = table_then p b n h
table_back extra s p q b other ts h = absurd h

first_name : (s : Schema) (p q : Parts) (g : GroupAt) (a b : ℕ) (ts m : List Token) → IsName s ts m g → NamesThen s (record p { groups = p.groups ++ g ∷ [] }) m q → GroupsThen s p (tok a (Word word.Group) ∷ tok b (Word word.By) ∷ ts) q
first_name s p q g a b ts m is (names_then _ {m = rest} {gs = more} repeats k) =
    groups_then p (grouped a b is repeats) (subst (λ xs. OrderThen s (record p { groups = xs }) rest q) (append_assoc p.groups (g ∷ []) more) k)

group_by_back : (extra : ℕ) (s : Schema) (p q : Parts) (b : ℕ) (l : Lexeme) (ts : List Token) → Next extra s (group_by l p) ts q → (a : ℕ) → GroupsThen s p (tok a (Word word.Group) ∷ tok b l ∷ ts) q
group_by_back extra s p q b (Word word.By) ts (reads {m = m} {x = g} is k) a = first_name s p q g a b ts m is k
group_by_back extra s p q b other ts h a = absurd h

group_back : (extra : ℕ) (s : Schema) (p q : Parts) (b : ℕ) (l : Lexeme) (ts : List Token) → Next extra s (group s b l p) ts q → Then GroupAt (IsName s) (λ m g. NamesThen s (record p { groups = p.groups ++ g ∷ [] }) m q) (tok b l ∷ ts)
group_back extra s p q b (Name n) ts h = reads (name b s n ts) h
group_back extra s p q b other ts h = absurd h

one_name_more : (s : Schema) (p q : Parts) (g : GroupAt) (b : ℕ) (ts m : List Token) → IsName s ts m g → NamesThen s (record p { groups = p.groups ++ g ∷ [] }) m q → NamesThen s p (tok b (Word word.Comma) ∷ ts) q
one_name_more s p q g b ts m is (names_then _ {m = rest} {gs = more} repeats k) =
    names_then p (comma b is repeats) (subst (λ xs. OrderThen s (record p { groups = xs }) rest q) (append_assoc p.groups (g ∷ []) more) k)

names_end : (s : Schema) (p q : Parts) (ts : List Token) → OrderThen s p ts q → NamesThen s p ts q
names_end s p q ts h = names_then p (no_more ts) (subst (λ xs. OrderThen s (record p { groups = xs }) ts q) (sym (append-nil p.groups)) h)

after_group_back : (extra : ℕ) (s : Schema) (p q : Parts) (b : ℕ) (l : Lexeme) (ts : List Token) → Next extra s (after_group l p) ts q → NamesThen s p (tok b l ∷ ts) q
after_group_back extra s p q b (Word word.Comma) ts (reads {m = m} {x = g} is k) = one_name_more s p q g b ts m is k
after_group_back extra s p q b other ts h = names_end s p q (tok b other ∷ ts) (order_back extra s p q b other ts h)

first_key : (s : Schema) (p q : Parts) (i : ItemAt) (down : Bool) (a b : ℕ) (ts m n : List Token) → IsItem s ts m i → IsDirection m n down → KeysThen s (with_key i down p) n q → OrderThen s p (tok a (Word word.Order) ∷ tok b (Word word.By) ∷ ts) q
first_key s p q i down a b ts m n is d (keys_then _ {m = rest} {ks = more} repeats k) =
    order_then p (ordered a b (key is d) repeats) (subst (λ xs. LimitThen (record p { order = xs }) rest q) (append_assoc p.order (record { byte = i.byte; key = record { item = i.item; descending = down } } ∷ []) more) k)

order_by_back : (extra : ℕ) (s : Schema) (p q : Parts) (b : ℕ) (l : Lexeme) (ts : List Token) → Next extra s (order_by l p) ts q → (a : ℕ) → OrderThen s p (tok a (Word word.Order) ∷ tok b l ∷ ts) q
order_by_back extra s p q b (Word word.By) ts (reads {m = m} {x = i} is (direction_then _ _ {m = n} {down = down} d k)) a = first_key s p q i down a b ts m n is d k
order_by_back extra s p q b other ts h a = absurd h

one_key_more : (s : Schema) (p q : Parts) (i : ItemAt) (down : Bool) (b : ℕ) (ts m n : List Token) → IsItem s ts m i → IsDirection m n down → KeysThen s (with_key i down p) n q → KeysThen s p (tok b (Word word.Comma) ∷ ts) q
one_key_more s p q i down b ts m n is d (keys_then _ {m = rest} {ks = more} repeats k) =
    keys_then p (comma b (key is d) repeats) (subst (λ xs. LimitThen (record p { order = xs }) rest q) (append_assoc p.order (record { byte = i.byte; key = record { item = i.item; descending = down } } ∷ []) more) k)

keys_end : (s : Schema) (p q : Parts) (ts : List Token) → LimitThen p ts q → KeysThen s p ts q
keys_end s p q ts h = keys_then p (no_more ts) (subst (λ xs. LimitThen (record p { order = xs }) ts q) (sym (append-nil p.order)) h)

after_direction_back : (extra : ℕ) (s : Schema) (p q : Parts) (b : ℕ) (l : Lexeme) (ts : List Token) → Next extra s (after_direction l p) ts q → KeysThen s p (tok b l ∷ ts) q
after_direction_back extra s p q b (Word word.Comma) ts (reads {m = m} {x = i} is (direction_then _ _ {m = n} {down = down} d k)) = one_key_more s p q i down b ts m n is d k
after_direction_back extra s p q b other ts h = keys_end s p q (tok b other ∷ ts) (limit_back extra s p q b other ts h)

after_key_back : (extra : ℕ) (s : Schema) (i : ItemAt) (p q : Parts) (b : ℕ) (l : Lexeme) (ts : List Token) → Next extra s (after_key i l p) ts q → DirectionThen s i p (tok b l ∷ ts) q
after_key_back extra s i p q b (Word word.Ascending) ts h = direction_then i p (ascending b ts) h
after_key_back extra s i p q b (Word word.Descending) ts h = direction_then i p (descending b ts) h
after_key_back extra s i p q b other ts h = direction_then i p (unsaid _) (after_direction_back extra s (with_key i false p) q b other ts h)

row_limit_back : (extra : ℕ) (s : Schema) (p q : Parts) (b : ℕ) (l : Lexeme) (ts : List Token) → Next extra s (limit l p) ts q → (a : ℕ) → LimitThen p (tok a (Word word.Limit) ∷ tok b l ∷ ts) q
row_limit_back extra s p q b (Number n) ts (end_then _ e) a = limit_then p (limited a b n ts) e
row_limit_back extra s p q b other ts h a = absurd h

select_back : (extra : ℕ) (s : Schema) (p q : Parts) (b : ℕ) (l : Lexeme) (ts : List Token) → Next extra s (select l p) ts q → SelectThen (64 + extra) s p (tok b l ∷ ts) q
select_back extra s p q b (Word word.Select) ts h = select_then p b h
select_back extra s p q b other ts h = absurd h

pub step_back : (extra : ℕ) (s : Schema) (stage : Stage) (p q : Parts) (b : ℕ) (l : Lexeme) (ts : List Token) → Next extra s (step_at s stage b l p) ts q → Completes extra s stage p (tok b l ∷ ts) q
step_back extra s stage.Select p q b l ts h = select_back extra s p q b l ts h
step_back extra s (stage.Wanted side) p q b l ts h = wanted_back extra s side p q b l ts h
step_back extra s (stage.Call side call) p q b l ts h = called_back extra s side p q call b l ts h
step_back extra s stage.AfterItem p q b l ts h = after_item_back extra s p q b l ts h
step_back extra s stage.Table p q b l ts h = table_back extra s p q b l ts h
step_back extra s stage.AfterTable p q b l ts h = where_back extra s p q b l ts h
step_back extra s (stage.Term n nots) p q b l ts h = term_back extra s n nots p q b l ts h
step_back extra s (stage.Test n nots t) p q b l ts h = tested_back (λ m t. TermsThen s p (with_term (roomier extra n.level) nots t) (all_roomier extra n.outer) m q) t b l ts (after_test_back extra s n nots p q (tested t l) ts h)
step_back extra s (stage.AfterTerm n) p q b l ts h = after_term_back extra s n p q b l ts h
step_back extra s stage.GroupBy p q b l ts h = group_by_back extra s p q b l ts h
step_back extra s stage.Group p q b l ts h = group_back extra s p q b l ts h
step_back extra s stage.AfterGroup p q b l ts h = after_group_back extra s p q b l ts h
step_back extra s stage.OrderBy p q b l ts h = order_by_back extra s p q b l ts h
step_back extra s (stage.AfterKey i) p q b l ts h = after_key_back extra s i p q b l ts h
step_back extra s stage.AfterDirection p q b l ts h = after_direction_back extra s p q b l ts h
step_back extra s stage.Limit p q b l ts h = row_limit_back extra s p q b l ts h
step_back extra s stage.AfterLimit p q b l ts h = end_back extra s p q b l ts h
step_back extra s stage.End p q b l ts h = absurd h

-- The end of the tokens

bare_limit : (p : Parts) → LimitThen p [] p
bare_limit p = no_limit p p [] (end_then p bare)

bare_order : (s : Schema) (p : Parts) → OrderThen s p [] p
bare_order s p = no_order s p p [] (bare_limit p)

bare_groups : (s : Schema) (p : Parts) → GroupsThen s p [] p
bare_groups s p = no_groups s p p [] (bare_order s p)

same_parts : {p q : Parts} → Some p ≡ Some q → p ≡ q
same_parts e = cc

predicate_ends_back : (extra : ℕ) (s : Schema) (n : Nesting) (outer : List Enclosing) (p q : Parts) → predicate_ends n p outer ≡ Some q → TermsThen s p (roomier extra n.level) (all_roomier extra outer) [] q
predicate_ends_back extra s n [] p q e = subst (TermsThen s p (roomier extra n.level) [] []) (same_parts e) (outermost_ends s p _ (roomier extra n.level) [] (bare_groups s (record p { filter = Some (predicate_of n.level) })))
predicate_ends_back extra s n (enclosing ∷ outer) p q e = cc

ended_back : (extra : ℕ) (s : Schema) (stage : Stage) (p q : Parts) → ended stage p ≡ Some q → Completes extra s stage p [] q
ended_back extra s stage.AfterTable p q e = subst (WhereThen (64 + extra) s p []) (same_parts e) (no_where extra s p p [] (bare_groups s p))
ended_back extra s (stage.AfterTerm n) p q e = predicate_ends_back extra s n n.outer p q e
ended_back extra s stage.AfterGroup p q e = subst (NamesThen s p []) (same_parts e) (names_end s p p [] (bare_order s p))
ended_back extra s (stage.AfterKey i) p q e = subst (DirectionThen s i p []) (same_parts e) (direction_then i p (unsaid []) (keys_end s (with_key i false p) _ [] (bare_limit (with_key i false p))))
ended_back extra s stage.AfterDirection p q e = subst (KeysThen s p []) (same_parts e) (keys_end s p p [] (bare_limit p))
ended_back extra s stage.AfterLimit p q e = subst (EndThen p []) (same_parts e) (end_then p bare)
ended_back extra s stage.End p q e = subst (NoneThen p []) (same_parts e) (none_then p)
ended_back extra s other p q e = cc

syntax_back : (size : ℕ) (found : Option Parts) (q : Parts) → or_syntax size found ≡ Ok q → found ≡ Some q
syntax_back size (Some p) q e = cc
syntax_back size None q e = cc

read_back : (extra : ℕ) (s : Schema) (byte : ℕ) (r : Result State Stop) (more : State → Result Parts SqlRefused) (ts : List Token) (q : Parts) →
    ((state : State) → more state ≡ Ok q → Completes extra s state.stage state.parts ts q) → then_read byte r more ≡ Ok q → Next extra s r ts q
read_back extra s byte (Ok state) more ts q ih e = ih state e
read_back extra s byte (Err stop) more ts q ih e = cc

-- what is read is what completes
pub completes : (extra : ℕ) (s : Schema) (size : ℕ) (q : Parts) (ts : List Token) (state : State) → run s size state ts ≡ Ok q → Completes extra s state.stage state.parts ts q
completes extra s size q [] state e = ended_back extra s state.stage state.parts q (syntax_back size (ended state.stage state.parts) q e)
completes extra s size q (t ∷ ts) state e =
    step_back extra s state.stage state.parts q t.byte t.lexeme ts (read_back extra s t.byte (step s state t) (λ next. run s size next ts) ts q (λ next. completes extra s size q ts next) e)

query_of_items : (d : ℕ) (s : Schema) (b : ℕ) (i m : List Token) (x : ItemAt) (q : Parts) → IsItem s i m x → ItemsThen d s (record nothing.parts { items = x ∷ [] }) m q → IsQuery s d (tok b (Word word.Select) ∷ i) q
query_of_items d s b i m x q is (items_then _ f repeats (table_then _ n table (where_then _ {f = None} w (groups_then _ g (order_then _ o (limit_then _ l e)))))) = query b f n table is repeats w g o l e
query_of_items d s b i m x q is (items_then _ f repeats (table_then _ n table (where_then _ {f = Some t} w (groups_then _ g (order_then _ o (limit_then _ l e)))))) = query b f n table is repeats w g o l e

pub query_of_select : (d : ℕ) (s : Schema) (ts : List Token) (q : Parts) → SelectThen d s nothing.parts ts q → IsQuery s d ts q
query_of_select d s ts q (select_then _ b (reads is k)) = query_of_items d s b _ _ _ q is k

-- what is read is a query
pub sound : (s : Schema) (size : ℕ) (ts : List Token) (q : Parts) → run s size nothing ts ≡ Ok q → IsQuery s 64 ts q
sound s size ts q e = query_of_select 64 s ts q (completes 0 s size q ts nothing e)
