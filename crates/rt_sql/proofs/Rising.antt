-- The bytes of the parts that are read from ascending tokens ascend.
use Rattle.std.proofs.Common.{ℕ, ◌≤◌, Bool, List, [], ◌∷◌, ◌++◌, map, Option, arith}
use Rattle.rt_schema.specs.declared.schema.Schema.{Schema}
use Rattle.rt_model.specs.Tree.{Tree}
use Rattle.rt_model.specs.declared.query_parts.ColumnAt.{ColumnAt}
use Rattle.rt_model.specs.declared.query_parts.Literal.{Literal}
use Rattle.rt_tokens.specs.declared.lexeme.Lexeme.TheVariants.{Word, Name, Number}
use Rattle.rt_tokens.specs.declared.lexeme.Word.TheVariants as word
use Rattle.rt_tokens.specs.declared.token.Token.{Token}
use Rattle.rt_tokens.proofs.Rising.{Rises, lower, behind}
use Rattle.rt_grammar.specs.Grammar as grammar
use Rattle.rt_grammar.specs.Grammar.{tok, Repeats, no_more, comma, IsLiteral, number, minus, quoted, truth, untruth, IsList, list, IsTest, compares, between, one_of, none_of, IsTerm, negated, enclosed, test as tested_name, IsCondition, condition, MoreTerms, no_term, and, IsPredicate, predicate, MoreConditions, no_condition, or, IsItem, column, count, sum, min, max, IsDirection, unsaid, ascending, descending, IsKey, key, IsName, name, IsWhere, unfiltered, filtered, IsGroups, grouped, IsOrder, unordered, ordered, IsQuery, query}
use Rattle.rt_grammar.specs.declared.parts.ItemAt.{ItemAt}
use Rattle.rt_grammar.specs.declared.parts.GroupAt.{GroupAt}
use Rattle.rt_grammar.specs.declared.parts.KeyAt.{KeyAt}
use Rattle.rt_grammar.specs.declared.parts.Parts.{Parts}

-- numbers that ascend from one on
abbrev pub Rising : ℕ → List ℕ → Type 0
Rising n [] = Unit {0}
Rising n (b ∷ bs) = (n ≤ b) × Rising b bs

-- What follows a part

literal_rises : (n : ℕ) {ts rest : List Token} {l : Literal} → IsLiteral ts rest l → Rises n ts → Rises n rest
literal_rises n (number b m rest) h = behind n b rest h
literal_rises n (minus b c m rest) h = behind n c rest (behind n b (tok c (Number m) ∷ rest) h)
literal_rises n (quoted b t rest) h = behind n b rest h
literal_rises n (truth b rest) h = behind n b rest h
literal_rises n (untruth b rest) h = behind n b rest h

literals_rise : (n : ℕ) {ts rest : List Token} {ls : List Literal} → Repeats Literal IsLiteral ts rest ls → Rises n ts → Rises n rest
literals_rise n (no_more rest) h = h
literals_rise n (comma b {ts = ts} is more) h = literals_rise n more (literal_rises n is (behind n b ts h))

list_rises : (n : ℕ) {ts rest : List Token} {ls : List Literal} → IsList ts rest ls → Rises n ts → Rises n rest
list_rises n (list b c {ts = ts} {rest = rest} is more) h = behind n c rest (literals_rise n more (literal_rises n is (behind n b ts h)))

test_rises : (n : ℕ) {c : ColumnAt} {ts rest : List Token} {t : Tree} → IsTest c ts rest t → Rises n ts → Rises n rest
test_rises n (compares b _ o {ts = ts} is) h = literal_rises n is (behind n b ts h)
test_rises n (between b c _ {ts = ts} {m = m} low high) h = literal_rises n high (behind n c m (literal_rises n low (behind n b ts h)))
test_rises n (one_of b _ {ts = ts} is) h = list_rises n is (behind n b ts h)
test_rises n (none_of b c _ {ts = ts} is) h = list_rises n is (behind n c ts (behind n b (tok c (Word word.In) ∷ ts) h))

mutual
  term_rises : (n : ℕ) {s : Schema} {room : ℕ} {ts rest : List Token} {t : Tree} → IsTerm s room ts rest t → Rises n ts → Rises n rest
  term_rises n (negated b {ts = ts} is) h = term_rises n is (behind n b ts h)
  term_rises n (enclosed b c {ts = ts} {rest = rest} is) h = behind n c rest (predicate_rises n is (behind n b ts h))
  term_rises n (tested_name b _ room x {ts = ts} is) h = test_rises n is (behind n b ts h)

  terms_rise : (n : ℕ) {s : Schema} {room : ℕ} {ts rest : List Token} {more : List Tree} → MoreTerms s room ts rest more → Rises n ts → Rises n rest
  terms_rise n (no_term _ room rest) h = h
  terms_rise n (and b {ts = ts} is terms) h = terms_rise n terms (term_rises n is (behind n b ts h))

  condition_rises : (n : ℕ) {s : Schema} {room : ℕ} {ts rest : List Token} {t : Tree} → IsCondition s room ts rest t → Rises n ts → Rises n rest
  condition_rises n (condition is terms) h = terms_rise n terms (term_rises n is h)

  predicate_rises : (n : ℕ) {s : Schema} {room : ℕ} {ts rest : List Token} {t : Tree} → IsPredicate s room ts rest t → Rises n ts → Rises n rest
  predicate_rises n (predicate is conditions) h = conditions_rise n conditions (condition_rises n is h)

  conditions_rise : (n : ℕ) {s : Schema} {room : ℕ} {ts rest : List Token} {more : List Tree} → MoreConditions s room ts rest more → Rises n ts → Rises n rest
  conditions_rise n (no_condition _ room rest) h = h
  conditions_rise n (or b {ts = ts} is conditions) h = conditions_rise n conditions (condition_rises n is (behind n b ts h))

where_rises : (n : ℕ) {s : Schema} {room : ℕ} {ts rest : List Token} {f : Option Tree} → IsWhere s room ts rest f → Rises n ts → Rises n rest
where_rises n (unfiltered _ room rest) h = h
where_rises n (filtered b {ts = ts} is) h = predicate_rises n is (behind n b ts h)

-- A part's own byte, and what follows it

abbrev pub item_byte : ItemAt → ℕ
item_byte i = i.byte

abbrev pub group_byte : GroupAt → ℕ
group_byte g = g.byte

abbrev pub key_byte : KeyAt → ℕ
key_byte k = k.byte

behind_call : (n c d e : ℕ) (ts : List Token) → (n ≤ c) × ((c ≤ d) × ((d ≤ e) × Rises e ts)) → Rises n ts
behind_call n c d e ts (nc, (cd, (de, h))) = lower n e ts (omega (arith, nc, cd, de)) h

item_rises : (n : ℕ) {s : Schema} {ts rest : List Token} {i : ItemAt} → IsItem s ts rest i → Rises n ts → (n ≤ i.byte) × Rises i.byte rest
item_rises n (column b _ x rest) (first, later) = (first, later)
item_rises n (count b c d e _ rest) (first, later) = (first, behind_call b c d e rest later)
item_rises n (sum b c d e _ x rest) (first, later) = (first, behind_call b c d e rest later)
item_rises n (min b c d e _ x rest) (first, later) = (first, behind_call b c d e rest later)
item_rises n (max b c d e _ x rest) (first, later) = (first, behind_call b c d e rest later)

items_rise : {s : Schema} (n : ℕ) {ts rest : List Token} {is : List ItemAt} → Repeats ItemAt (IsItem s) ts rest is → Rises n ts →
    (more : List ℕ) → ((m : ℕ) → Rises m rest → Rising m more) → Rising n (map item_byte is ++ more)
items_rise n (no_more rest) h more k = k n h
items_rise n (comma b {ts = ts} {x = i} is others) h more k = let first = item_rises n is (behind n b ts h) in (first.0, items_rise i.byte others first.1 more k)

name_rises : (n : ℕ) {s : Schema} {ts rest : List Token} {g : GroupAt} → IsName s ts rest g → Rises n ts → (n ≤ g.byte) × Rises g.byte rest
name_rises n (name b _ x rest) (first, later) = (first, later)

names_rise : {s : Schema} (n : ℕ) {ts rest : List Token} {gs : List GroupAt} → Repeats GroupAt (IsName s) ts rest gs → Rises n ts →
    (more : List ℕ) → ((m : ℕ) → Rises m rest → Rising m more) → Rising n (map group_byte gs ++ more)
names_rise n (no_more rest) h more k = k n h
names_rise n (comma b {ts = ts} {x = g} is others) h more k = let first = name_rises n is (behind n b ts h) in (first.0, names_rise g.byte others first.1 more k)

groups_rise : (n : ℕ) {s : Schema} {ts rest : List Token} {gs : List GroupAt} → IsGroups s ts rest gs → Rises n ts →
    (more : List ℕ) → ((m : ℕ) → Rises m rest → Rising m more) → Rising n (map group_byte gs ++ more)
groups_rise n (grammar.ungrouped _ rest) h more k = k n h
groups_rise n (grouped b c {ts = ts} {g = g} is others) h more k =
    let first = name_rises n is (behind n c ts (behind n b (tok c (Word word.By) ∷ ts) h)) in (first.0, names_rise g.byte others first.1 more k)

direction_rises : (n : ℕ) {ts rest : List Token} {down : Bool} → IsDirection ts rest down → Rises n ts → Rises n rest
direction_rises n (unsaid rest) h = h
direction_rises n (ascending b rest) h = behind n b rest h
direction_rises n (descending b rest) h = behind n b rest h

key_rises : (n : ℕ) {s : Schema} {ts rest : List Token} {k : KeyAt} → IsKey s ts rest k → Rises n ts → (n ≤ k.byte) × Rises k.byte rest
key_rises n (key {found = i} is d) h = let first = item_rises n is h in (first.0, direction_rises i.byte d first.1)

keys_rise : {s : Schema} (n : ℕ) {ts rest : List Token} {ks : List KeyAt} → Repeats KeyAt (IsKey s) ts rest ks → Rises n ts → Rising n (map key_byte ks)
keys_rise n (no_more rest) h = tt
keys_rise n (comma b {ts = ts} {x = k} is others) h = let first = key_rises n is (behind n b ts h) in (first.0, keys_rise k.byte others first.1)

order_rises : (n : ℕ) {s : Schema} {ts rest : List Token} {ks : List KeyAt} → IsOrder s ts rest ks → Rises n ts → Rising n (map key_byte ks)
order_rises n (unordered _ rest) h = tt
order_rises n (ordered b c {ts = ts} {k = k} is others) h =
    let first = key_rises n is (behind n c ts (behind n b (tok c (Word word.By) ∷ ts) h)) in (first.0, keys_rise k.byte others first.1)

-- the bytes of all parts
abbrev pub bytes_of : Parts → List ℕ
bytes_of p = map item_byte p.items ++ (map group_byte p.groups ++ map key_byte p.order)

pub query_rises : (n : ℕ) {s : Schema} {room : ℕ} {ts : List Token} {p : Parts} → IsQuery s room ts p → Rises n ts → Rising n (bytes_of p)
query_rises n (query b f m table {i = i} {w = w} {x = x} {groups = groups} {keys = keys} is items filtering grouping ordering limiting e) h =
    let first = item_rises n is (behind n b i h) in (
      first.0,
      items_rise x.byte items first.1 (map group_byte groups ++ map key_byte keys) (λ m1 h1.
          groups_rise m1 grouping (where_rises m1 filtering (behind m1 m w (behind m1 f (tok m (Name table) ∷ w) h1))) (map key_byte keys) (λ m2 h2. order_rises m2 ordering h2)),
    )
