-- The names of GROUP BY that came, as the keys of an ordered set.
use Rattle.std.proofs.Common.{◌≡◌, ℕ, ◌+◌, ◌<◌, List, [], ◌∷◌, ◌++◌, length, get_or, take, drop, Bool, true, false, not, ◌||◌, bytes_eq, Bor, Option, Some, if◌then◌else◌, refl, sym, ap, ◌∙◌}
use Rattle.std.proofs.lemmas.Bool.{not-true, not-false}
use Rattle.std.proofs.lemmas.List.{take_more}
use Rattle.std.specs.BTreeSet.{insert_key}
use Rattle.rt_schema.proofs.Lists.{drop_next}
use Rattle.rt_schema.proofs.Names.{has_key, has_key-insert_key, key_cmp}
use Rattle.rt_grammar.specs.declared.parts.GroupAt.{GroupAt}
use Rattle.rt_sql.specs.Rules.{is_grouped, repeated}

or_false : (b : Bool) → (b || false) ≡ (false || b)
or_false true = refl
or_false false = refl

or_comm : (a b : Bool) → (a || b) ≡ (b || a)
or_comm true true = refl
or_comm true false = refl
or_comm false true = refl
or_comm false false = refl

or_assoc : (a b c : Bool) → (a || (b || c)) ≡ ((a || b) || c)
or_assoc true b c = refl
or_assoc false b c = refl

-- one name more
is_grouped_push : (q : List ℕ) (gs : List GroupAt) (g : GroupAt) → is_grouped q (gs ++ g ∷ []) ≡ (is_grouped q gs || bytes_eq q g.column.name)
is_grouped_push q [] g = or_false (bytes_eq q g.column.name)
is_grouped_push q (h ∷ gs) g =
    ap (λ b. bytes_eq q h.column.name || b) (is_grouped_push q gs g) ∙ or_assoc (bytes_eq q h.column.name) (is_grouped q gs) (bytes_eq q g.column.name)

module _ (groups : List GroupAt) (i : ℕ) (g : GroupAt) (within : i < length groups) (is : g ≡ get_or groups i g) where
  groups_more : take (i + 1) groups ≡ take i groups ++ g ∷ []
  groups_more = take_more groups i g within ∙ ap (λ x. take i groups ++ x ∷ []) (sym is)

  -- what is found first by one name more
  abbrev found_by : Bool → Option ℕ
  found_by came = if came then Some g.byte else repeated (take i groups ++ g ∷ []) (drop (i + 1) groups)

  by_name : repeated (take i groups) (drop i groups) ≡ found_by (is_grouped g.column.name (take i groups))
  by_name = ap (repeated (take i groups)) (drop_next groups i g within is)

  module _ (k : Bor (List ℕ)) (named : k.now ≡ g.column.name) (keys : List (Bor (List ℕ))) (came : (q : List ℕ) → has_key keys q ≡ is_grouped q (take i groups)) where
    pub came_more : (q : List ℕ) → has_key (insert_key key_cmp keys k) q ≡ is_grouped q (take (i + 1) groups)
    came_more q =
        has_key-insert_key keys k q ∙ or_comm (bytes_eq q k.now) (has_key keys q) ∙ ap (λ b. b || bytes_eq q k.now) (came q) ∙ ap (λ n. is_grouped q (take i groups) || bytes_eq q n) named
        ∙ sym (ap (is_grouped q) groups_more ∙ is_grouped_push q (take i groups) g)

    among : (b : Bool) → has_key keys k.now ≡ b → is_grouped g.column.name (take i groups) ≡ b
    among b h = ap (λ q. is_grouped q (take i groups)) (sym named) ∙ sym (came k.now) ∙ h

    -- a name that came before
    pub came_again : not (has_key keys k.now) ≡ false → repeated (take i groups) (drop i groups) ≡ repeated [] groups → Some g.byte ≡ repeated [] groups
    came_again h first = sym (sym first ∙ by_name ∙ ap found_by (among true (not-false _ h)))

    -- a name that didn't
    pub first_later : not (has_key keys k.now) ≡ true → repeated (take i groups) (drop i groups) ≡ repeated [] groups → repeated (take (i + 1) groups) (drop (i + 1) groups) ≡ repeated [] groups
    first_later h first = ap (λ gs. repeated gs (drop (i + 1) groups)) groups_more ∙ sym (by_name ∙ ap found_by (among false (not-true _ h))) ∙ first
