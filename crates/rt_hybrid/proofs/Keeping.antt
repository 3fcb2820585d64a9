-- A column is kept exactly where some object has it.
use Rattle.std.proofs.Common.{◌≡◌, Bool, true, false, true≢false, cond, List, [], ◌∷◌, inl, inr, filter, take, is_some, Option, Some, None, refl, sym, ap, ◌∙◌, subst}
use Rattle.serde_json.specs.Data.{Data}
use Rattle.serde_json.specs.Find.{get}
use Rattle.rt_lists.specs.Members.{Has}
use Rattle.rt_lists.proofs.Members.{Has-filter, filter-Has}
use Rattle.rt_schema.specs.declared.column.Column.{Column}
use Rattle.rt_hybrid.specs.Batch.{columns_kept, is_named, or_first}
use Rattle.rt_hybrid.specs.Kept.{IsNamed, IsPart, AreKept}
use Rattle.rt_hybrid.proofs.Lists.{any_at, none_at}

some_value : (found : Option Data) → is_some found ≡ true → (value : Data) × (found ≡ Some value)
some_value None h = absurd (true≢false (sym h))
some_value (Some value) h = (value, refl)

named_so : (items : List Data) (c : Column) → is_named items c ≡ true → IsNamed items c
named_so items c h =
    let at = any_at (λ (item : Data). is_some (get c.name item)) items h in
    (at.0, at.1, some_value (get c.name at.0) at.2)

so_named : (items : List Data) (c : Column) → IsNamed items c → is_named items c ≡ true
so_named items c (item, has, (value, is)) = by (is_named items c) refl
  where
    by : (b : Bool) → is_named items c ≡ b → is_named items c ≡ true
    by true e = e
    by false e = absurd (true≢false (ap is_some (sym is) ∙ none_at (λ (d : Data). is_some (get c.name d)) items item e has))

part_more : (kept : List Column) (c : Column) (columns : List Column) → IsPart kept columns → IsPart kept (c ∷ columns)
part_more [] c columns h = tt
part_more (k ∷ kept) c columns h = inr h

filter_part : (f : Column → Bool) (columns : List Column) → IsPart (filter f columns) columns
filter_part f [] = tt
filter_part f (c ∷ columns) = by (f c) (filter_part f columns)
  where
    by : (b : Bool) → IsPart (filter f columns) columns → IsPart (cond b (c ∷ filter f columns) (filter f columns)) (c ∷ columns)
    by true rest = inl (refl, rest)
    by false rest = part_more (filter f columns) c columns rest

first_part : (columns : List Column) → IsPart (take 1 columns) columns
first_part [] = tt
first_part (c ∷ columns) = inl (refl, tt)

kept_by : (columns : List Column) (items : List Data) (found : List Column) → filter (is_named items) columns ≡ found → AreKept columns items (or_first columns found)
kept_by columns items [] e =
    let none : (c : Column) → Has columns c → IsNamed items c → ⊥ =
    λ c has named. subst (λ (cs : List Column). Has cs c) e (filter-Has (is_named items) columns c has (so_named items c named)) in
    record {
      part = first_part columns;
      named = λ some column has. absurd (none some.0 some.1 some.2);
      all = λ column has named. absurd (none column has named);
      first = λ no. refl;
    }
kept_by columns items (k ∷ found) e = record {
  part = subst (λ (cs : List Column). IsPart cs columns) e (filter_part (is_named items) columns);
  named = λ some column has. named_so items column (from column has).1;
  all = λ column has named. subst (λ (cs : List Column). Has cs column) e (filter-Has (is_named items) columns column has (so_named items column named));
  first = λ no. absurd (no (k, (from k (inl refl)).0, named_so items k (from k (inl refl)).1));
}
  where
    from : (c : Column) → Has (k ∷ found) c → Has columns c × (is_named items c ≡ true)
    from c has = Has-filter (is_named items) columns c (subst (λ (cs : List Column). Has cs c) (sym e) has)

pub are_kept : (columns : List Column) (items : List Data) → AreKept columns items (columns_kept columns items)
are_kept columns items = kept_by columns items (filter (is_named items) columns) refl
