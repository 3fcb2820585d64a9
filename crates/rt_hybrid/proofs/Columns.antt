-- The columns that are kept: they are columns of the schema, and a schema of their own.
use Rattle.std.proofs.Common.{◌≡◌, ℕ, ◌≤◌, Bool, true, false, cond, not, ◌&&◌, List, [], ◌∷◌, length, filter, bytes_eq, inl, inr, refl, sym, ap, ◌∙◌, arith}
use Rattle.std.specs.Prelude.{nat_le}
use Rattle.std.specs.List.{list_all}
use Rattle.std.proofs.lemmas.Bool.{and_parts, and_from, or_parts, or_from, or_left, or_right, not-true, not_from_false, false≢true}
use Rattle.std.proofs.lemmas.Slice.Eq.{bytes_eq-Decides}
use Rattle.serde_json.specs.Data.{Data}
use Rattle.rt_base.specs.declared.limits.TheConstants.{LONGEST_NAME, MOST_COLUMNS}
use Rattle.rt_lists.specs.Members.{Has}
use Rattle.rt_lists.proofs.Members.{Has-filter, filter-Has}
use Rattle.rt_schema.specs.Schema.{is_among, are_distinct, names_of, are_named, are_taken, is_taken, IsSchema}
use Rattle.rt_schema.specs.declared.column.Column.{Column}
use Rattle.rt_schema.specs.declared.schema.Schema.{Schema}
use Rattle.rt_hybrid.specs.Batch.{columns_kept, is_named, or_first}

-- ---- which columns they are

or_first_has : (columns kept : List Column) (c : Column) → Has kept c → Has (or_first columns kept) c
or_first_has columns [] c h = absurd h
or_first_has columns (k ∷ kept) c h = h

-- a column that some object has is kept
pub kept_has : (columns : List Column) (items : List Data) (c : Column) → Has columns c → is_named items c ≡ true → Has (columns_kept columns items) c
kept_has columns items c h named = or_first_has columns (filter (is_named items) columns) c (filter-Has (is_named items) columns c h named)

or_first_sub : (columns kept : List Column) → ((k : Column) → Has kept k → Has columns k) → (k : Column) → Has (or_first columns kept) k → Has columns k
or_first_sub columns (x ∷ kept) h k at = h k at
or_first_sub [] [] h k at = absurd at
or_first_sub (c ∷ columns) [] h k (inl e) = inl e
or_first_sub (c ∷ columns) [] h k (inr at) = absurd at

-- a column that is kept is one of all
pub kept_sub : (columns : List Column) (items : List Data) (k : Column) → Has (columns_kept columns items) k → Has columns k
kept_sub columns items k h = or_first_sub columns (filter (is_named items) columns) (λ x at. (Has-filter (is_named items) columns x at).0) k h

-- ---- names

among : (columns : List Column) (a : Column) (name : List ℕ) → Has columns a → name ≡ a.name → is_among name (names_of columns) ≡ true
among [] a name h e = absurd h
among (c ∷ columns) a name (inl same) e = or_left _ _ ((bytes_eq-Decides name c.name).1 (e ∙ ap (λ (x : Column). x.name) (sym same)))
among (c ∷ columns) a name (inr h) e = or_right _ _ (among columns a name h e)

pub apart : (c : Column) (columns : List Column) (a : Column) → are_distinct (names_of (c ∷ columns)) ≡ true → Has columns a → c.name ≡ a.name → ⊥
apart c columns a distinct h e =
    false≢true (sym (not-true (is_among c.name (names_of columns)) (and_parts (not (is_among c.name (names_of columns))) (are_distinct (names_of columns)) distinct).0) ∙ among columns a c.name h e)

pub later_distinct : (c : Column) (columns : List Column) → are_distinct (names_of (c ∷ columns)) ≡ true → are_distinct (names_of columns) ≡ true
later_distinct c columns distinct = (and_parts (not (is_among c.name (names_of columns))) (are_distinct (names_of columns)) distinct).1

-- of distinct names, columns of one name are one column
pub same_column : (columns : List Column) → are_distinct (names_of columns) ≡ true → (a b : Column) → Has columns a → Has columns b → a.name ≡ b.name → a ≡ b
same_column [] distinct a b h g e = absurd h
same_column (c ∷ columns) distinct a b (inl p) (inl q) e = sym p ∙ q
same_column (c ∷ columns) distinct a b (inl p) (inr g) e = absurd (apart c columns b distinct g (ap (λ (x : Column). x.name) p ∙ e))
same_column (c ∷ columns) distinct a b (inr h) (inl q) e = absurd (apart c columns a distinct h (ap (λ (x : Column). x.name) q ∙ sym e))
same_column (c ∷ columns) distinct a b (inr h) (inr g) e = same_column columns (later_distinct c columns distinct) a b h g e

-- ---- a schema of the kept columns

abbrev is_named_well : Column → Bool
is_named_well c = nat_le 1 (length c.name) && nat_le (length c.name) LONGEST_NAME

module _ (q : Column → Bool) where
  among_at : (c : Column) (kept columns : List Column) (name : List ℕ) (b : Bool) → (bytes_eq name c.name ≡ false) × (is_among name (names_of columns) ≡ false) → is_among name (names_of kept) ≡ false
      → is_among name (names_of (cond b (c ∷ kept) kept)) ≡ false
  among_at c kept columns name true parts rest = or_from _ _ parts.0 rest
  among_at c kept columns name false parts rest = rest

  among_less : (columns : List Column) (name : List ℕ) → is_among name (names_of columns) ≡ false → is_among name (names_of (filter q columns)) ≡ false
  among_less [] name e = refl
  among_less (c ∷ columns) name e =
      let parts = or_parts (bytes_eq name c.name) (is_among name (names_of columns)) e in
      among_at c (filter q columns) columns name (q c) parts (among_less columns name parts.1)

  distinct_at : (c : Column) (kept : List Column) (b : Bool) → is_among c.name (names_of kept) ≡ false → are_distinct (names_of kept) ≡ true → are_distinct (names_of (cond b (c ∷ kept) kept)) ≡ true
  distinct_at c kept true new rest = and_from _ _ (not_from_false _ new) rest
  distinct_at c kept false new rest = rest

  distinct_less : (columns : List Column) → are_distinct (names_of columns) ≡ true → are_distinct (names_of (filter q columns)) ≡ true
  distinct_less [] e = refl
  distinct_less (c ∷ columns) e =
      let parts = and_parts (not (is_among c.name (names_of columns))) (are_distinct (names_of columns)) e in
      distinct_at c (filter q columns) (q c) (among_less columns c.name (not-true _ parts.0)) (distinct_less columns parts.1)

  -- what is asked of each column is asked of those that are left
  all_less : (p : Column → Bool) (columns : List Column) → list_all p columns ≡ true → list_all p (filter q columns) ≡ true
  all_less p [] e = refl
  all_less p (c ∷ columns) e =
      let parts = and_parts (p c) (list_all p columns) e in
      by (q c) parts.0 (all_less p columns parts.1)
    where
      by : (b : Bool) → p c ≡ true → list_all p (filter q columns) ≡ true → list_all p (cond b (c ∷ filter q columns) (filter q columns)) ≡ true
      by true first rest = and_from _ _ first rest
      by false first rest = rest

  no_more : (columns : List Column) → length (filter q columns) ≤ length columns
  no_more [] = omega arith
  no_more (c ∷ columns) = by (q c) (no_more columns)
    where
      by : (b : Bool) → length (filter q columns) ≤ length columns → length (cond b (c ∷ filter q columns) (filter q columns)) ≤ length (c ∷ columns)
      by true h = omega (arith, h)
      by false h = omega (arith, h)

-- what a schema asks of each column
named_all : (columns : List Column) → are_named columns ≡ list_all is_named_well columns
named_all [] = refl
named_all (c ∷ columns) = ap (λ b. (nat_le 1 (length c.name) && nat_le (length c.name) LONGEST_NAME) && b) (named_all columns)

abbrev is_taken_well : Column → Bool
is_taken_well c = is_taken c.kind c.role

taken_all : (columns : List Column) → are_taken columns ≡ list_all is_taken_well columns
taken_all [] = refl
taken_all (c ∷ columns) = ap (λ b. is_taken c.kind c.role && b) (taken_all columns)

-- what a schema asks of its columns
record AreOf (columns : List Column) : Type 0 where
  few : (1 ≤ length columns) × (length columns ≤ MOST_COLUMNS)
  named : list_all is_named_well columns ≡ true
  distinct : are_distinct (names_of columns) ≡ true
  taken : list_all is_taken_well columns ≡ true

first_of : (columns kept : List Column) → AreOf columns → length kept ≤ length columns → list_all is_named_well kept ≡ true → are_distinct (names_of kept) ≡ true → list_all is_taken_well kept ≡ true
    → AreOf (or_first columns kept)
first_of columns (k ∷ kept) is less named distinct taken = record {
  few = (omega arith, omega (arith, is.few.1, less));
  named = named;
  distinct = distinct;
  taken = taken;
}
first_of [] [] is less named distinct taken = is
first_of (c ∷ columns) [] is less named distinct taken = record {
  few = (omega arith, omega (arith, is.few.1));
  named = and_from _ _ (and_parts (is_named_well c) (list_all is_named_well columns) is.named).0 refl;
  distinct = refl;
  taken = and_from _ _ (and_parts (is_taken_well c) (list_all is_taken_well columns) is.taken).0 refl;
}

kept_are : (columns : List Column) (items : List Data) → AreOf columns → AreOf (columns_kept columns items)
kept_are columns items is =
    first_of columns (filter (is_named items) columns) is (no_more (is_named items) columns) (all_less (is_named items) is_named_well columns is.named)
    (distinct_less (is_named items) columns is.distinct) (all_less (is_named items) is_taken_well columns is.taken)

-- the kept columns of a schema are a schema's
pub kept_schema : (schema : Schema) (items : List Data) (name : List ℕ) → IsSchema schema → IsSchema (record { name = name; columns = columns_kept schema.columns items })
kept_schema schema items name is =
    let kept = kept_are schema.columns items (record { few = is.few; named = sym (named_all schema.columns) ∙ is.named; distinct = is.distinct; taken = sym (taken_all schema.columns) ∙ is.taken }) in
    record {
      few = kept.few;
      named = named_all (columns_kept schema.columns items) ∙ kept.named;
      distinct = kept.distinct;
      taken = taken_all (columns_kept schema.columns items) ∙ kept.taken;
    }

pub kept_distinct : (schema : Schema) (items : List Data) → IsSchema schema → are_distinct (names_of (columns_kept schema.columns items)) ≡ true
kept_distinct schema items is = (kept_schema schema items [] is).distinct
