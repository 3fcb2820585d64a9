-- What the grammar derives is read, or is refused where it nests too deep.
use Rattle.std.proofs.Common.{◌≡◌, ℕ, ◌+◌, ◌-◌, Bool, true, false, ◌⊎◌, List, [], ◌∷◌, ◌++◌, nat_lt, Option, Some, None, Result, Ok, Err, if◌then◌else◌, refl, ap, sym, ◌∙◌, subst, append_assoc, add-one, inl, inr}
use Rattle.std.proofs.lemmas.List.{append-nil}
use Rattle.rt_schema.specs.declared.schema.Schema.{Schema}
use Rattle.rt_model.specs.Tree.{Tree}
use Rattle.rt_tokens.specs.declared.token.Token.{Token}
use Rattle.rt_grammar.specs.Nested.{all_of, any_of, with_term, predicate_of, new_level, inside}
use Rattle.rt_grammar.specs.Steps.{at, after_filter, after_table, deeper}
use Rattle.rt_grammar.specs.Run.{nothing, then_read, run}
use Rattle.rt_grammar.specs.Grammar.{IsTerm, negated, enclosed, test as tested_name, IsCondition, condition, MoreTerms, no_term, and, IsPredicate, predicate, MoreConditions, no_condition, or, IsWhere, unfiltered, filtered, IsQuery, query}
use Rattle.rt_grammar.specs.declared.nesting.Level.{Level}
use Rattle.rt_grammar.specs.declared.nesting.Enclosing.{Enclosing}
use Rattle.rt_grammar.specs.declared.nesting.Nesting.{Nesting}
use Rattle.rt_grammar.specs.declared.parts.Parts.{Parts}
use Rattle.rt_grammar.specs.declared.sql_refused.SqlRefused.{SqlRefused}
use Rattle.rt_grammar.specs.declared.sql_refused.SqlRefused.TheVariants.{Limit}
use Rattle.rt_grammar.specs.declared.state.Side.TheVariants as side
use Rattle.rt_grammar.specs.declared.state.Stage.{Stage}
use Rattle.rt_grammar.specs.declared.state.Stage.TheVariants as stage
use Rattle.rt_grammar.specs.declared.stop.Stop.TheVariants as stop
use Rattle.rt_grammar.proofs.Forward.{run_at, after, go_on, with_filter, parts_from, test_runs, item_runs, items_run, from_table, groups_run, order_runs, limit_runs, no_where, after_runs}

-- the reading ends so, or by depth
abbrev pub OrDeep : Result Parts SqlRefused → Result Parts SqlRefused → Type 0
OrDeep r wanted = (r ≡ wanted) ⊎ (r ≡ Err Limit)

along : (r u wanted : Result Parts SqlRefused) → r ≡ u → OrDeep u wanted → OrDeep r wanted
along r u wanted e k = subst (λ x. OrDeep x wanted) (sym e) k

deeper_reads : (s : Schema) (z : ℕ) (n : Nesting) (nots : ℕ) (p : Parts) (next : Stage) (b : ℕ) (ts : List Token) (R : Result Parts SqlRefused) → OrDeep (run_at s z next p ts) R →
    OrDeep (then_read b (deeper n nots next p) (λ state. run s z state ts)) R
deeper_reads s z n nots p next b ts R k = by (nat_lt nots n.level.room)
  where
    by : (fits : Bool) → OrDeep (then_read b (if fits then Ok (at next p) else Err stop.Deep) (λ state. run s z state ts)) R
    by true = k
    by false = inr refl

mutual
  term_reads : (s : Schema) (z : ℕ) (p : Parts) (n : Nesting) (nots : ℕ) (R : Result Parts SqlRefused) {room : ℕ} {ts rest : List Token} {t : Tree} → IsTerm s room ts rest t →
      OrDeep (run_at s z (after (with_term n.level nots t) n.outer) p rest) R → OrDeep (run_at s z (stage.Term n nots) p ts) R
  term_reads s z p n nots R (negated b {ts = ts} {rest = rest} {t = t} is) k =
      deeper_reads s z n nots p (stage.Term n (nots + 1)) b ts R
      (term_reads s z p n (nots + 1) R is (subst (λ m. OrDeep (run_at s z (after (with_term n.level m t) n.outer) p rest) R) (sym (add-one nots)) k))
  term_reads s z p n nots R (enclosed b c {ts = ts} {rest = rest} {t = t} is) k =
      deeper_reads s z n nots p (stage.Term (inside n nots) 0) b ts R
      (predicate_reads s z p (n.level.room - nots - 1) (record { level = n.level; nots = nots } ∷ n.outer) R is
      (λ level e. subst (λ w. OrDeep (run_at s z (after (with_term n.level nots w) n.outer) p rest) R) (sym e) k))
  term_reads s z p n nots R (tested_name b _ room n2 {rest = rest} is) k = along _ _ R (test_runs s z n nots p is) k

  terms_read : (s : Schema) (z : ℕ) (p : Parts) (level : Level) (outer : List Enclosing) (R : Result Parts SqlRefused) {room : ℕ} {ts rest : List Token} {more : List Tree} → MoreTerms s room ts rest more →
      OrDeep (run_at s z (after (record level { terms = level.terms ++ more }) outer) p rest) R → OrDeep (run_at s z (after level outer) p ts) R
  terms_read s z p level outer R (no_term _ room rest) k =
      subst (λ xs. OrDeep (run_at s z (after (record level { terms = xs }) outer) p rest) R) (append-nil level.terms) k
  terms_read s z p level outer R (and b {rest = rest} {t = t} {more = more} is terms) k =
      term_reads s z p (record { level = level; outer = outer }) 0 R is
      (terms_read s z p (with_term level 0 t) outer R terms
      (subst (λ xs. OrDeep (run_at s z (after (record level { terms = xs }) outer) p rest) R) (sym (append_assoc level.terms (t ∷ []) more)) k))

  condition_reads : (s : Schema) (z : ℕ) (p : Parts) (r : ℕ) (cs : List Tree) (outer : List Enclosing) (R : Result Parts SqlRefused) {room : ℕ} {ts rest : List Token} {t : Tree} → IsCondition s room ts rest t →
      ((terms : List Tree) → all_of terms ≡ t → OrDeep (run_at s z (after (record { room = r; conditions = cs; terms = terms }) outer) p rest) R) →
      OrDeep (run_at s z (stage.Term (record { level = record { room = r; conditions = cs; terms = [] }; outer = outer }) 0) p ts) R
  condition_reads s z p r cs outer R (condition {t = t} {more = more} is terms) k =
      term_reads s z p (record { level = record { room = r; conditions = cs; terms = [] }; outer = outer }) 0 R is
      (terms_read s z p (record { room = r; conditions = cs; terms = t ∷ [] }) outer R terms (k (t ∷ more) refl))

  conditions_read : (s : Schema) (z : ℕ) (p : Parts) (r : ℕ) (cs us : List Tree) (outer : List Enclosing) (R : Result Parts SqlRefused) {room : ℕ} {ts rest : List Token} {more : List Tree} → MoreConditions s room ts rest more →
      ((level : Level) → predicate_of level ≡ any_of (cs ++ all_of us ∷ more) → OrDeep (run_at s z (after level outer) p rest) R) →
      OrDeep (run_at s z (after (record { room = r; conditions = cs; terms = us }) outer) p ts) R
  conditions_read s z p r cs us outer R (no_condition _ room rest) k = k (record { room = r; conditions = cs; terms = us }) refl
  conditions_read s z p r cs us outer R (or b {t = t} {more = more} is conditions) k =
      condition_reads s z p r (cs ++ all_of us ∷ []) outer R is (λ terms e.
      conditions_read s z p r (cs ++ all_of us ∷ []) terms outer R conditions (λ level e2.
      k level (e2 ∙ ap any_of (append_assoc cs (all_of us ∷ []) (all_of terms ∷ more) ∙ ap (λ x. cs ++ all_of us ∷ x ∷ more) e))))

  predicate_reads : (s : Schema) (z : ℕ) (p : Parts) (r : ℕ) (outer : List Enclosing) (R : Result Parts SqlRefused) {room : ℕ} {ts rest : List Token} {t : Tree} → IsPredicate s room ts rest t →
      ((level : Level) → predicate_of level ≡ t → OrDeep (run_at s z (after level outer) p rest) R) →
      OrDeep (run_at s z (stage.Term (record { level = new_level r; outer = outer }) 0) p ts) R
  predicate_reads s z p r outer R (predicate {t = t} {more = more} is conditions) k =
      condition_reads s z p r [] outer R is (λ terms e.
      conditions_read s z p r [] terms outer R conditions (λ level e2. k level (e2 ∙ ap (λ x. any_of (x ∷ more)) e)))

where_reads : (s : Schema) (z : ℕ) (p q : Parts) {room : ℕ} {ts m : List Token} {f : Option Tree} → IsWhere s room ts m f → go_on after_filter s z (with_filter p f) m ≡ Ok q → OrDeep (go_on after_table s z p ts) (Ok q)
where_reads s z p q (unfiltered _ room rest) e = inl (no_where s z p q rest e)
where_reads s z p q (filtered b {rest = rest} is) e =
    predicate_reads s z p 64 [] (Ok q) is (λ level e2. inl (after_runs s z level p q rest (subst (λ w. go_on after_filter s z (record p { filter = Some w }) rest ≡ Ok q) (sym e2) e)))

-- a query is read, or nests too deep
pub complete_or_deep : (s : Schema) (z room : ℕ) (ts : List Token) (q : Parts) → IsQuery s room ts q → OrDeep (run s z nothing ts) (Ok q)
complete_or_deep s z room ts q (query b f n table {w = w} {x = x} {xs = xs} {filter = None} is items filtering groups order limit e) =
    along _ _ _ (item_runs s z side.Select nothing.parts is ∙ items_run s z (record nothing.parts { items = x ∷ [] }) items ∙ from_table s z (parts_from (x ∷ xs) table) w)
    (where_reads s z (parts_from (x ∷ xs) table) _ filtering (groups_run s z _ _ groups (order_runs s z _ _ order (limit_runs s z _ limit e))))
complete_or_deep s z room ts q (query b f n table {w = w} {x = x} {xs = xs} {filter = Some t} is items filtering groups order limit e) =
    along _ _ _ (item_runs s z side.Select nothing.parts is ∙ items_run s z (record nothing.parts { items = x ∷ [] }) items ∙ from_table s z (parts_from (x ∷ xs) table) w)
    (where_reads s z (parts_from (x ∷ xs) table) _ filtering (groups_run s z _ _ groups (order_runs s z _ _ order (limit_runs s z _ limit e))))
