-- Whatever has been read of a query can be completed, and where a token is not read no query goes on with it.
use Rattle.std.proofs.Common.{◌≡◌, ℕ, true, ◌⊎◌, List, [], ◌∷◌, ◌++◌, Option, Some, None, Result, Ok, Err, refl, ap, sym, ◌∙◌, subst, append_assoc, inl, inr}
use Rattle.std.proofs.lemmas.List.{append-nil}
use Rattle.rt_schema.specs.declared.schema.Schema.{Schema}
use Rattle.rt_model.specs.Tree.{Tree}
use Rattle.rt_tokens.specs.declared.lexeme.Lexeme.TheVariants.{Word, Name, Number}
use Rattle.rt_tokens.specs.declared.lexeme.Word.{Word as Fixed}
use Rattle.rt_tokens.specs.declared.lexeme.Word.TheVariants as word
use Rattle.rt_tokens.specs.declared.token.Token.{Token}
use Rattle.rt_grammar.specs.Columns.{column_at}
use Rattle.rt_grammar.specs.Nested.{with_term, predicate_of}
use Rattle.rt_grammar.specs.Steps.{at, step}
use Rattle.rt_grammar.specs.Run.{nothing, ended, or_syntax, refused, then_read, run}
use Rattle.rt_grammar.specs.Grammar.{tok, IsQuery}
use Rattle.rt_grammar.specs.declared.call.Call.{Call}
use Rattle.rt_grammar.specs.declared.call.Call.TheVariants as call
use Rattle.rt_grammar.specs.declared.call.Function.{Function}
use Rattle.rt_grammar.specs.declared.call.Function.TheVariants as function
use Rattle.rt_grammar.specs.declared.nesting.Level.{Level}
use Rattle.rt_grammar.specs.declared.nesting.Enclosing.{Enclosing}
use Rattle.rt_grammar.specs.declared.nesting.Nesting.{Nesting}
use Rattle.rt_grammar.specs.declared.parts.ItemAt.{ItemAt}
use Rattle.rt_grammar.specs.declared.parts.Parts.{Parts}
use Rattle.rt_grammar.specs.declared.sql_refused.SqlRefused.{SqlRefused}
use Rattle.rt_grammar.specs.declared.sql_refused.SqlRefused.TheVariants.{Syntax, Limit}
use Rattle.rt_grammar.specs.declared.state.Side.{Side}
use Rattle.rt_grammar.specs.declared.state.Side.TheVariants as side
use Rattle.rt_grammar.specs.declared.state.Stage.{Stage}
use Rattle.rt_grammar.specs.declared.state.Stage.TheVariants as stage
use Rattle.rt_grammar.specs.declared.state.State.{State}
use Rattle.rt_grammar.specs.declared.stop.Stop.{Stop}
use Rattle.rt_grammar.specs.declared.stop.Stop.TheVariants as stop
use Rattle.rt_grammar.specs.declared.test.Test.{Test}
use Rattle.rt_grammar.specs.declared.test.Test.TheVariants as test
use Rattle.rt_grammar.specs.declared.test.Asked.{Asked}
use Rattle.rt_grammar.specs.declared.test.Asked.TheVariants as asked
use Rattle.rt_grammar.specs.Faults.{Begins, BeginsWithin, NestsDeeper, IsFault, at_the_end, at_a_token}
use Rattle.rt_grammar.proofs.Sound.{sound}
use Rattle.rt_grammar.proofs.Deeper.{OrDeep, complete_or_deep}

-- some tokens complete the query
abbrev Finish : Schema → ℕ → Stage → Parts → Type 0
Finish s z stage p = (ts : List Token) × (q : Parts) × (run s z (at stage p) ts ≡ Ok q)

abbrev word_token : Fixed → Token
word_token w = tok 0 (Word w)

abbrev naught : Token
naught = tok 0 (Number (Some 0))

abbrev some_name : Token
some_name = tok 0 (Name [])

after_finishes : (s : Schema) (z : ℕ) (p : Parts) (outer : List Enclosing) (level : Level) → Finish s z (stage.AfterTerm (record { level = level; outer = outer })) p
after_finishes s z p [] level = ([], record p { filter = Some (predicate_of level) }, refl)
after_finishes s z p (e ∷ outer) level =
    let f = after_finishes s z p outer (with_term e.level e.nots (predicate_of level)) in (word_token word.Close ∷ f.0, f.1, f.2)

whole_finishes : (s : Schema) (z : ℕ) (n : Nesting) (nots : ℕ) (p : Parts) (t : Tree) → Finish s z (stage.AfterTerm (record n { level = with_term n.level nots t })) p
whole_finishes s z n nots p t = after_finishes s z p n.outer (with_term n.level nots t)

literal_finishes : (s : Schema) (z : ℕ) (n : Nesting) (nots : ℕ) (p : Parts) (a : Asked) → Finish s z (stage.Test n nots (test.Literal a)) p
literal_finishes s z n nots p (asked.Compare c o) = let f = whole_finishes s z n nots p _ in (naught ∷ f.0, f.1, f.2)
literal_finishes s z n nots p (asked.Lower c) = let f = whole_finishes s z n nots p _ in (naught ∷ word_token word.And ∷ naught ∷ f.0, f.1, f.2)
literal_finishes s z n nots p (asked.Upper c low) = let f = whole_finishes s z n nots p _ in (naught ∷ f.0, f.1, f.2)
literal_finishes s z n nots p (asked.Among c none ls) = let f = whole_finishes s z n nots p _ in (naught ∷ word_token word.Close ∷ f.0, f.1, f.2)

digits_finishes : (s : Schema) (z : ℕ) (n : Nesting) (nots : ℕ) (p : Parts) (a : Asked) → Finish s z (stage.Test n nots (test.Digits a)) p
digits_finishes s z n nots p (asked.Compare c o) = let f = whole_finishes s z n nots p _ in (naught ∷ f.0, f.1, f.2)
digits_finishes s z n nots p (asked.Lower c) = let f = whole_finishes s z n nots p _ in (naught ∷ word_token word.And ∷ naught ∷ f.0, f.1, f.2)
digits_finishes s z n nots p (asked.Upper c low) = let f = whole_finishes s z n nots p _ in (naught ∷ f.0, f.1, f.2)
digits_finishes s z n nots p (asked.Among c none ls) = let f = whole_finishes s z n nots p _ in (naught ∷ word_token word.Close ∷ f.0, f.1, f.2)

test_finishes : (s : Schema) (z : ℕ) (n : Nesting) (nots : ℕ) (p : Parts) (t : Test) → Finish s z (stage.Test n nots t) p
test_finishes s z n nots p (test.Operator c) = let f = literal_finishes s z n nots p (asked.Lower c) in (word_token word.Between ∷ f.0, f.1, f.2)
test_finishes s z n nots p (test.AfterNot c) = let f = literal_finishes s z n nots p (asked.Among c true []) in (word_token word.In ∷ word_token word.Open ∷ f.0, f.1, f.2)
test_finishes s z n nots p (test.List c none) = let f = literal_finishes s z n nots p (asked.Among c none []) in (word_token word.Open ∷ f.0, f.1, f.2)
test_finishes s z n nots p (test.Literal a) = literal_finishes s z n nots p a
test_finishes s z n nots p (test.Digits a) = digits_finishes s z n nots p a
test_finishes s z n nots p (test.Upper c low) = let f = literal_finishes s z n nots p (asked.Upper c low) in (word_token word.And ∷ f.0, f.1, f.2)
test_finishes s z n nots p (test.AfterLiteral c none ls) = let f = whole_finishes s z n nots p _ in (word_token word.Close ∷ f.0, f.1, f.2)

wanted_finishes : (s : Schema) (z : ℕ) (side : Side) (p : Parts) → Finish s z (stage.Wanted side) p
wanted_finishes s z side.Select p = (some_name ∷ word_token word.From ∷ some_name ∷ [], _, refl)
wanted_finishes s z side.Order p = (some_name ∷ [], _, refl)

close_finishes : (s : Schema) (z : ℕ) (side : Side) (i : ItemAt) (p : Parts) → Finish s z (stage.Call side (call.Close i)) p
close_finishes s z side.Select i p = (word_token word.Close ∷ word_token word.From ∷ some_name ∷ [], _, refl)
close_finishes s z side.Order i p = (word_token word.Close ∷ [], _, refl)

argument_finishes : (s : Schema) (z : ℕ) (side : Side) (byte : ℕ) (f : Function) (p : Parts) → Finish s z (stage.Call side (call.Argument byte f)) p
argument_finishes s z side byte function.Count p = let f = close_finishes s z side _ p in (word_token word.Star ∷ f.0, f.1, f.2)
argument_finishes s z side byte function.Sum p = let f = close_finishes s z side _ p in (some_name ∷ f.0, f.1, f.2)
argument_finishes s z side byte function.Min p = let f = close_finishes s z side _ p in (some_name ∷ f.0, f.1, f.2)
argument_finishes s z side byte function.Max p = let f = close_finishes s z side _ p in (some_name ∷ f.0, f.1, f.2)

call_finishes : (s : Schema) (z : ℕ) (side : Side) (c : Call) (p : Parts) → Finish s z (stage.Call side c) p
call_finishes s z side (call.Open byte f) p = let f = argument_finishes s z side byte f p in (word_token word.Open ∷ f.0, f.1, f.2)
call_finishes s z side (call.Argument byte f) p = argument_finishes s z side byte f p
call_finishes s z side (call.Close i) p = close_finishes s z side i p

pub finishes : (s : Schema) (z : ℕ) (stage : Stage) (p : Parts) → Finish s z stage p
finishes s z stage.Select p = let f = wanted_finishes s z side.Select p in (word_token word.Select ∷ f.0, f.1, f.2)
finishes s z (stage.Wanted side) p = wanted_finishes s z side p
finishes s z (stage.Call side call) p = call_finishes s z side call p
finishes s z stage.AfterItem p = (word_token word.From ∷ some_name ∷ [], _, refl)
finishes s z stage.Table p = (some_name ∷ [], _, refl)
finishes s z stage.AfterTable p = ([], p, refl)
finishes s z (stage.Term n nots) p = let f = test_finishes s z n nots p (test.Operator (column_at s [])) in (some_name ∷ f.0, f.1, f.2)
finishes s z (stage.Test n nots t) p = test_finishes s z n nots p t
finishes s z (stage.AfterTerm n) p = after_finishes s z p n.outer n.level
finishes s z stage.GroupBy p = (word_token word.By ∷ some_name ∷ [], _, refl)
finishes s z stage.Group p = (some_name ∷ [], _, refl)
finishes s z stage.AfterGroup p = ([], p, refl)
finishes s z stage.OrderBy p = let f = wanted_finishes s z side.Order p in (word_token word.By ∷ f.0, f.1, f.2)
finishes s z (stage.AfterKey i) p = ([], _, refl)
finishes s z stage.AfterDirection p = ([], p, refl)
finishes s z stage.Limit p = (naught ∷ [], _, refl)
finishes s z stage.AfterLimit p = ([], p, refl)
finishes s z stage.End p = ([], p, refl)

-- tokens that lead from a state to another
abbrev Leads : Schema → ℕ → List Token → State → Type 0
Leads s z before state = (rest : List Token) → run s z nothing (before ++ rest) ≡ run s z state rest

begins : (s : Schema) (z : ℕ) (before : List Token) (state : State) → Leads s z before state → Begins s before
begins s z before state leads =
    let f = finishes s z state.stage state.parts in (f.0, f.1, sound s z (before ++ f.0) f.1 (leads f.0 ∙ f.2))

read_or_not : {A : Type 0} (r : Result Parts SqlRefused) (byte : ℕ) (q : Parts) → r ≡ Err (Syntax byte) → (r ≡ Ok q) ⊎ (r ≡ Err Limit) → A
read_or_not r byte q e (inl f) = let g : Err (Syntax byte) ≡ Ok q = sym e ∙ f in cc
read_or_not r byte q e (inr f) = let g : Err (Syntax byte) ≡ Err Limit = sym e ∙ f in cc

no_query : (s : Schema) (z : ℕ) (before : List Token) (state : State) (t : Token) → Leads s z before state → step s state t ≡ Err stop.Stuck → (depth : ℕ) → BeginsWithin depth s (before ++ t ∷ []) → ⊥
no_query s z before state t leads stuck depth (rest, q, is) =
    let here : run s z state (t ∷ rest) ≡ Err (Syntax t.byte) = ap (λ r. then_read t.byte r (λ next. run s z next rest)) stuck in
    read_or_not (run s z nothing ((before ++ t ∷ []) ++ rest)) t.byte q (ap (run s z nothing) (append_assoc before (t ∷ []) rest) ∙ leads (t ∷ rest) ∙ here) (complete_or_deep s z depth _ q is)

end_fault : (s : Schema) (z byte : ℕ) (before : List Token) (state : State) (found : Option Parts) → found ≡ ended state.stage state.parts → Leads s z before state → or_syntax z found ≡ Err (Syntax byte) → IsFault s z (before ++ []) byte
end_fault s z byte before state (Some p) is leads e = cc
end_fault s z byte before state None is leads e =
    let here : run s z state [] ≡ Err (Syntax z) = ap (or_syntax z) (sym is) in
    let same : z ≡ byte = cc in
    let whole : before ++ [] ≡ before = append-nil before in
    subst (λ b. IsFault s z (before ++ []) b) same
    (subst (λ ts. IsFault s z ts z) (sym whole) (at_the_end before (begins s z before state leads)
    (λ depth q is. read_or_not (run s z nothing before) z q (sym (ap (run s z nothing) whole) ∙ leads [] ∙ here) (complete_or_deep s z depth before q is))))

token_fault : (s : Schema) (z byte : ℕ) (before : List Token) (state : State) (t : Token) (ts : List Token) (r : Result State Stop) → r ≡ step s state t → Leads s z before state →
    ((next : State) → step s state t ≡ Ok next → run s z next ts ≡ Err (Syntax byte) → IsFault s z (before ++ t ∷ ts) byte) →
    then_read t.byte r (λ next. run s z next ts) ≡ Err (Syntax byte) → IsFault s z (before ++ t ∷ ts) byte
token_fault s z byte before state t ts (Ok next) is leads ih e = ih next (sym is) e
token_fault s z byte before state t ts (Err stop.Stuck) is leads ih e =
    let same : t.byte ≡ byte = cc in
    subst (λ b. IsFault s z (before ++ t ∷ ts) b) same (at_a_token before t ts (begins s z before state leads) (no_query s z before state t leads (sym is)))
token_fault s z byte before state t ts (Err stop.Deep) is leads ih e = cc
token_fault s z byte before state t ts (Err stop.Memory) is leads ih e = cc

further : (s : Schema) (z : ℕ) (before : List Token) (state next : State) (t : Token) → Leads s z before state → step s state t ≡ Ok next → Leads s z (before ++ t ∷ []) next
further s z before state next t leads is rest =
    ap (run s z nothing) (append_assoc before (t ∷ []) rest) ∙ leads (t ∷ rest) ∙ ap (λ r. then_read t.byte r (λ n. run s z n rest)) is

fault_from : (s : Schema) (z byte : ℕ) (before : List Token) (state : State) (ts : List Token) → Leads s z before state → run s z state ts ≡ Err (Syntax byte) → IsFault s z (before ++ ts) byte
fault_from s z byte before state [] leads e = end_fault s z byte before state (ended state.stage state.parts) refl leads e
fault_from s z byte before state (t ∷ ts) leads e =
    token_fault s z byte before state t ts (step s state t) refl leads
    (λ next is e2. subst (λ xs. IsFault s z xs byte) (append_assoc before (t ∷ []) ts) (fault_from s z byte (before ++ t ∷ []) next ts (further s z before state next t leads is) e2)) e

-- a fault of syntax is the first token that no query has in its place
pub first_fault : (s : Schema) (z byte : ℕ) (ts : List Token) → run s z nothing ts ≡ Err (Syntax byte) → IsFault s z ts byte
first_fault s z byte ts e = fault_from s z byte [] nothing ts (λ rest. refl) e

-- Whatever follows them, tokens lead to a state or are refused.

data Fate (s : Schema) (z : ℕ) (state : State) (ts : List Token) : Type 0 where
  leads_to : (next : State) → ((rest : List Token) → run s z state (ts ++ rest) ≡ run s z next rest) → Fate s z state ts
  stops_by : (bad : SqlRefused) → ((rest : List Token) → run s z state (ts ++ rest) ≡ Err bad) → Fate s z state ts

abbrev read_on : Schema → ℕ → Token → List Token → Result State Stop → Result Parts SqlRefused
read_on s z t ts r = then_read t.byte r (λ next. run s z next ts)

fate : (s : Schema) (z : ℕ) (state : State) (ts : List Token) → Fate s z state ts
fate s z state [] = leads_to state (λ rest. refl)
fate s z state (t ∷ ts) = by (step s state t) refl (λ next. fate s z next ts)
  where
    further_on : (next : State) → step s state t ≡ Ok next → Fate s z next ts → Fate s z state (t ∷ ts)
    further_on next is (leads_to end leads) = leads_to end (λ rest. ap (read_on s z t (ts ++ rest)) is ∙ leads rest)
    further_on next is (stops_by bad stops) = stops_by bad (λ rest. ap (read_on s z t (ts ++ rest)) is ∙ stops rest)

    by : (r : Result State Stop) → step s state t ≡ r → ((next : State) → Fate s z next ts) → Fate s z state (t ∷ ts)
    by (Ok next) is later = further_on next is (later next)
    by (Err bad) is later = stops_by (refused t.byte bad) (λ rest. ap (read_on s z t (ts ++ rest)) is)

deep_front : (s : Schema) (z depth : ℕ) (front behind rest : List Token) (q : Parts) → (Begins s front → ⊥) → IsQuery s depth (front ++ rest) q → Fate s z nothing front →
    OrDeep (run s z nothing (front ++ rest)) (Ok q) → run s z nothing (front ++ behind) ≡ Err Limit
deep_front s z depth front behind rest q none is (leads_to end leads) e = absurd (none (begins s z front end leads))
deep_front s z depth front behind rest q none is (stops_by bad stops) (inl e) = let g : Err bad ≡ Ok q = sym (stops rest) ∙ e in cc
deep_front s z depth front behind rest q none is (stops_by bad stops) (inr e) = stops behind ∙ sym (stops rest) ∙ e

-- tokens that nest too deep are refused for it
pub refused_deep : (s : Schema) (z : ℕ) (ts : List Token) → NestsDeeper s ts → run s z nothing ts ≡ Err Limit
refused_deep s z ts (front, behind, depth, same, (rest, q, is), none) =
    ap (run s z nothing) same ∙ deep_front s z depth front behind rest q none is (fate s z nothing front) (complete_or_deep s z depth (front ++ rest) q is)
