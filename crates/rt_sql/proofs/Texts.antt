-- The answer to a text, in the words of the grammar.
use Rattle.std.proofs.Common.{◌≡◌, ℕ, Bool, true, false, List, ◌∷◌, length, nat_le, Option, Some, None, Result, Ok, Err, IfOk, if◌then◌else◌, refl, ap, sym, ◌∙◌, subst, arith}
use Rattle.std.proofs.lemmas.Bool.{leb-true, leb-false, le-leb}
use Rattle.rt_schema.specs.declared.schema.Schema.{Schema}
use Rattle.rt_model.specs.declared.query.Query.{Query}
use Rattle.rt_tokens.specs.Tokens.{tokens_of}
use Rattle.rt_tokens.specs.declared.token.Token.{Token}
use Rattle.rt_tokens.proofs.Rising.{text_rises}
use Rattle.rt_grammar.specs.Faults.{NestsDeeper}
use Rattle.rt_grammar.specs.Grammar.{IsQuery, query}
use Rattle.rt_grammar.specs.Whole.{query_with}
use Rattle.rt_grammar.specs.Run.{Answers, nothing, run}
use Rattle.rt_grammar.specs.declared.parts.ItemAt.{ItemAt}
use Rattle.rt_grammar.specs.declared.parts.Parts.{Parts}
use Rattle.rt_grammar.specs.declared.sql_refused.SqlRefused.{SqlRefused}
use Rattle.rt_grammar.specs.declared.sql_refused.SqlRefused.TheVariants.{Syntax, NoTable, NoColumn, WrongType, Limit, Memory}
use Rattle.rt_grammar.proofs.Sound.{sound}
use Rattle.rt_grammar.proofs.Forward.{complete}
use Rattle.rt_grammar.proofs.Viable.{first_fault, refused_deep}
use Rattle.rt_grammar.proofs.Deepest.{deep_nests}
use Rattle.rt_sql.specs.Breaches.{IsBreach}
use Rattle.rt_sql.specs.Checks.{are_known, are_within}
use Rattle.rt_sql.specs.Kinds.{is_typed_query}
use Rattle.rt_sql.specs.Parsing.{is_table, checked, query_from, query_of}
use Rattle.rt_sql.specs.Queries.{IsOfTable, IsTextOf, IsMisspelt, by_grammar, by_rule, IsReadAs, IfMisspelt, IsLimited, PassesLimit, by_length, by_depth, by_number, IfLimited}
use Rattle.rt_sql.specs.Rules.{breach}
use Rattle.rt_sql.specs.declared.before.Before.TheVariants.{Other}
use Rattle.rt_sql.proofs.Breaches.{breach_found, first_breach, no_breach}
use Rattle.rt_sql.proofs.Rising.{query_rises}

if_ok : {A : Type 0} (b : Bool) (x : Result A SqlRefused) (e : SqlRefused) (q : A) → (if b then x else Err e) ≡ Ok q → (b ≡ true) × (x ≡ Ok q)
if_ok true x e q h = (refl, h)
if_ok false x e q h = cc

if_true : {A : Type 0} (b : Bool) (x y : A) → b ≡ true → (if b then x else y) ≡ x
if_true b x y h = ap (λ c. if c then x else y) h

-- a query has an item
some_item : {s : Schema} {room : ℕ} {ts : List Token} {p : Parts} → IsQuery s room ts p → (x : ItemAt) × (xs : List ItemAt) × (p.items ≡ x ∷ xs)
some_item (query b f n table {x = x} {xs = xs} is items filtering grouping ordering limiting e) = (x, xs, refl)

rules_hold : {s : Schema} {room : ℕ} {ts : List Token} (p : Parts) → IsQuery s room ts p → breach p ≡ None → (byte : ℕ) → IsBreach p byte → ⊥
rules_hold p is e = let some = some_item is in no_breach p some.0 some.1 some.2 e

-- a query that breaks no rule has no breach
pub none_broken : (p : Parts) → ((byte : ℕ) → IsBreach p byte → ⊥) → breach p ≡ None
none_broken p rules = by (breach p) refl
  where
    by : (o : Option ℕ) → breach p ≡ o → breach p ≡ None
    by None e = e
    by (Some byte) e = absurd (rules byte (breach_found p byte e))

checked_ok : (s : Schema) (t : List ℕ) (ts : List Token) (b : Option ℕ) (p : Parts) (q : Query) → IsQuery s 64 ts p → b ≡ breach p → checked s t ts b p ≡ Ok q → IsOfTable s t ts p × (q ≡ query_with p)
checked_ok s t ts (Some byte) p q read is e = cc
checked_ok s t ts None p q read is e =
    let a = if_ok (is_table p.table t) _ NoTable q e in
    let b = if_ok (are_known s Other ts) _ NoColumn q a.1 in
    let c = if_ok (is_typed_query s p) _ WrongType q b.1 in
    let d = if_ok (are_within Other ts) _ Limit q c.1 in
    let f : Ok (query_with p) ≡ Ok q = d.1 in
    (record { rules = rules_hold p read (sym is); named = a.0; known = b.0; typed = c.0; within = d.0 }, cc)

checked_again : (s : Schema) (t : List ℕ) (ts : List Token) (p : Parts) → IsOfTable s t ts p → checked s t ts (breach p) p ≡ Ok (query_with p)
checked_again s t ts p h =
    ap (λ b. checked s t ts b p) (none_broken p h.rules)
    ∙ if_true (is_table p.table t) _ (Err NoTable) h.named
    ∙ if_true (are_known s Other ts) _ (Err NoColumn) h.known
    ∙ if_true (is_typed_query s p) _ (Err WrongType) h.typed
    ∙ if_true (are_within Other ts) _ (Err Limit) h.within

from_ok : (s : Schema) (t : List ℕ) (ts : List Token) (r : Result Parts SqlRefused) (q : Query) → query_from s t ts r ≡ Ok q → (p : Parts) × (r ≡ Ok p) × (checked s t ts (breach p) p ≡ Ok q)
from_ok s t ts (Ok p) q e = (p, refl, e)
from_ok s t ts (Err refused) q e = cc

text_of : (s : Schema) (t x : List ℕ) (q : Query) → query_of s t x ≡ Ok q → IsTextOf s t x q
text_of s t x q e =
    let a = if_ok (nat_le (length x) 65536) _ Limit q e in
    let b = from_ok s t (tokens_of x) (run s (length x) nothing (tokens_of x)) q a.1 in
    let read = sound s (length x) (tokens_of x) b.0 b.1 in
    let c = checked_ok s t (tokens_of x) (breach b.0) b.0 q read refl b.2 in
    (b.0, leb-true (length x) 65536 a.0, read, c.0, c.1)

query_again : (s : Schema) (t x : List ℕ) (q : Query) → IsTextOf s t x q → query_of s t x ≡ Ok q
query_again s t x q (p, few, is, of_table, same) =
    if_true (nat_le (length x) 65536) _ (Err Limit) (le-leb (length x) 65536 few)
    ∙ ap (query_from s t (tokens_of x)) (complete s (length x) 64 (tokens_of x) p is (omega arith))
    ∙ checked_again s t (tokens_of x) p of_table
    ∙ ap (λ y. Ok y) (sym same)

-- what is answered is a query of the text
pub answered_text : (s : Schema) (t x : List ℕ) (r : Result Query SqlRefused) → Answers (query_of s t x) r → IfOk r (IsTextOf s t x)
answered_text s t x (Ok q) e = text_of s t x q (sym e)
answered_text s t x (Err refused) e = tt

-- a query of the text is what is answered
pub text_answered : (s : Schema) (t x : List ℕ) (r : Result Query SqlRefused) → Answers (query_of s t x) r → (q : Query) → IsTextOf s t x q → IsReadAs q r
text_answered s t x (Ok found) e q is = let g : Ok found ≡ Ok q = e ∙ query_again s t x q is in cc
text_answered s t x (Err Memory) e q is = tt
text_answered s t x (Err (Syntax byte)) e q is = let g : Err (Syntax byte) ≡ Ok q = e ∙ query_again s t x q is in cc
text_answered s t x (Err NoTable) e q is = let g : Err NoTable ≡ Ok q = e ∙ query_again s t x q is in cc
text_answered s t x (Err NoColumn) e q is = let g : Err NoColumn ≡ Ok q = e ∙ query_again s t x q is in cc
text_answered s t x (Err WrongType) e q is = let g : Err WrongType ≡ Ok q = e ∙ query_again s t x q is in cc
text_answered s t x (Err Limit) e q is = let g : Err Limit ≡ Ok q = e ∙ query_again s t x q is in cc

if_syntax : {A : Type 0} (b : Bool) (x : Result A SqlRefused) (e : SqlRefused) (n : ℕ) → (e ≡ Syntax n → ⊥) → (if b then x else Err e) ≡ Err (Syntax n) → x ≡ Err (Syntax n)
if_syntax true x e n never h = h
if_syntax false x e n never h = let same : e ≡ Syntax n = cc in absurd (never same)

checked_syntax : (s : Schema) (t : List ℕ) (ts : List Token) (b : Option ℕ) (p : Parts) (n : ℕ) → checked s t ts b p ≡ Err (Syntax n) → b ≡ Some n
checked_syntax s t ts (Some byte) p n e = cc
checked_syntax s t ts None p n e =
    let a = if_syntax (is_table p.table t) _ NoTable n (λ h. cc) e in
    let b = if_syntax (are_known s Other ts) _ NoColumn n (λ h. cc) a in
    let c = if_syntax (is_typed_query s p) _ WrongType n (λ h. cc) b in
    let d : Ok (query_with p) ≡ Err (Syntax n) = if_syntax (are_within Other ts) _ Limit n (λ h. cc) c in
    cc

abbrev refused_parts : SqlRefused → Result Parts SqlRefused
refused_parts refused = Err refused

from_syntax : (s : Schema) (t x : List ℕ) (r : Result Parts SqlRefused) (n : ℕ) → r ≡ run s (length x) nothing (tokens_of x) → query_from s t (tokens_of x) r ≡ Err (Syntax n) → IsMisspelt s x n
from_syntax s t x (Ok p) n is e =
    let read = sound s (length x) (tokens_of x) p (sym is) in
    by_rule p read (first_breach p n (query_rises 0 read (text_rises x)) (checked_syntax s t (tokens_of x) (breach p) p n e))
from_syntax s t x (Err refused) n is e =
    let same : refused ≡ Syntax n = cc in
    by_grammar (first_fault s (length x) n (tokens_of x) (sym is ∙ ap refused_parts same))

syntax_of : (s : Schema) (t x : List ℕ) (n : ℕ) → query_of s t x ≡ Err (Syntax n) → IsMisspelt s x n
syntax_of s t x n e = from_syntax s t x (run s (length x) nothing (tokens_of x)) n refl (if_syntax (nat_le (length x) 65536) _ Limit n (λ h. cc) e)

-- a refusal by syntax names the byte where it begins
pub answered_syntax : (s : Schema) (t x : List ℕ) (r : Result Query SqlRefused) → Answers (query_of s t x) r → IfMisspelt s x r
answered_syntax s t x (Err (Syntax n)) e = syntax_of s t x n (sym e)
answered_syntax s t x other e = tt

same_if : {A : Type 0} (b : Bool) (x e : A) → x ≡ e → (if b then x else e) ≡ e
same_if true x e h = h
same_if false x e h = refl

deep_of : (s : Schema) (t x : List ℕ) → NestsDeeper s (tokens_of x) → query_of s t x ≡ Err Limit
deep_of s t x nests = same_if (nat_le (length x) 65536) _ (Err Limit) (ap (query_from s t (tokens_of x)) (refused_deep s (length x) (tokens_of x) nests))

limited : (r : Result Query SqlRefused) → Answers (Err Limit) r → IsLimited r
limited (Ok q) e = cc
limited (Err Limit) e = tt
limited (Err Memory) e = tt
limited (Err (Syntax n)) e = cc
limited (Err NoTable) e = cc
limited (Err NoColumn) e = cc
limited (Err WrongType) e = cc

-- a text that nests too deep is refused for it
pub answered_deep : (s : Schema) (t x : List ℕ) (r : Result Query SqlRefused) → Answers (query_of s t x) r → NestsDeeper s (tokens_of x) → IsLimited r
answered_deep s t x r e nests = limited r (subst (λ wanted. Answers wanted r) (deep_of s t x nests) e)

if_limit : {A : Type 0} (b : Bool) (x : Result A SqlRefused) (e : SqlRefused) → (e ≡ Limit → ⊥) → (if b then x else Err e) ≡ Err Limit → x ≡ Err Limit
if_limit true x e never h = h
if_limit false x e never h = let same : e ≡ Limit = cc in absurd (never same)

else_limit : {A : Type 0} (b : Bool) (q : A) → (if b then Ok q else Err Limit) ≡ Err Limit → b ≡ false
else_limit true q h = cc
else_limit false q h = refl

checked_limit : (s : Schema) (t : List ℕ) (ts : List Token) (b : Option ℕ) (p : Parts) → checked s t ts b p ≡ Err Limit → are_within Other ts ≡ false
checked_limit s t ts (Some byte) p e = cc
checked_limit s t ts None p e =
    let a = if_limit (is_table p.table t) _ NoTable (λ h. cc) e in
    let b = if_limit (are_known s Other ts) _ NoColumn (λ h. cc) a in
    let c = if_limit (is_typed_query s p) _ WrongType (λ h. cc) b in
    else_limit (are_within Other ts) (query_with p) c

from_limit : (s : Schema) (t x : List ℕ) (r : Result Parts SqlRefused) → r ≡ run s (length x) nothing (tokens_of x) → query_from s t (tokens_of x) r ≡ Err Limit → PassesLimit s x
from_limit s t x (Ok p) is e = by_number p (sound s (length x) (tokens_of x) p (sym is)) (checked_limit s t (tokens_of x) (breach p) p e)
from_limit s t x (Err refused) is e =
    let same : refused ≡ Limit = cc in
    by_depth (deep_nests s (length x) (tokens_of x) (sym is ∙ ap refused_parts same))

limit_by : (s : Schema) (t x : List ℕ) (b : Bool) → nat_le (length x) 65536 ≡ b →
    (if b then query_from s t (tokens_of x) (run s (length x) nothing (tokens_of x)) else Err Limit) ≡ Err Limit → PassesLimit s x
limit_by s t x true is e = from_limit s t x (run s (length x) nothing (tokens_of x)) refl e
limit_by s t x false is e = by_length (leb-false (length x) 65536 is)

-- a text is refused as one that passes a limit for its length, its depth or a number
pub answered_limit : (s : Schema) (t x : List ℕ) (r : Result Query SqlRefused) → Answers (query_of s t x) r → IfLimited s x r
answered_limit s t x (Err Limit) e = limit_by s t x (nat_le (length x) 65536) refl (sym e)
answered_limit s t x other e = tt
