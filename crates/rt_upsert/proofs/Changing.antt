-- The held rows as a list, after a row was put in or taken out.
use Rattle.std.proofs.Common.{◌≡◌, ℕ, ◌+◌, ◌<◌, Bool, true, false, cond, not, ◌||◌, List, [], ◌∷◌, length, map, filter, Some, true≢false, Ordering, Less, Equal, Greater, refl, sym, ap, ◌∙◌, arith}
use Rattle.std.specs.Prelude.{is_some}
use Rattle.std.specs.Map.{lookup, remove_entry}
use Rattle.std.specs.BTreeMap.{insert_entry, is_at}
use Rattle.rt_schema.specs.declared.column.Kind.{Kind}
use Rattle.std.specs.Ordering.{is_eq, match_ordering}
use Rattle.rt_base.specs.declared.numbers.Sequence.{Sequence}
use Rattle.rt_schema.specs.declared.row.Row.{Row}
use Rattle.rt_upsert.specs.declared.held.Held.{Held}
use Rattle.rt_upsert.specs.declared.place.Place.{Place}
use Rattle.rt_upsert.specs.Changes.{without, without_row}
use Rattle.rt_upsert.specs.Index.{placed}
use Rattle.rt_upsert.specs.Placed.{Placed, PlacedRows, place_cmp, is_held, put_in, with_row, is_out, stays}
use Rattle.rt_upsert.proofs.Orders.{place_same}

abbrev pub Entries : Type 0
Entries = List (Place × Held)

pub held_is : (place : Place) (es : Entries) → is_held place (map placed es) ≡ is_some (lookup (is_at (place_cmp place)) es)
held_is place [] = refl
held_is place (e ∷ es) = by (is_eq (place_cmp place e.0)) (held_is place es)
  where
    by : (b : Bool) → is_held place (map placed es) ≡ is_some (lookup (is_at (place_cmp place)) es) → (b || is_held place (map placed es)) ≡ is_some (cond b (Some e.1) (lookup (is_at (place_cmp place)) es))
    by true rest = refl
    by false rest = rest

pub put_is : (place : Place) (held : Held) (es : Entries) → map placed (insert_entry place_cmp es place held) ≡ put_in (record { place = place; row = held.row }) (map placed es)
put_is place held [] = refl
put_is place held (e ∷ es) = by (place_cmp place e.0) (put_is place held es)
  where
    by : (o : Ordering) → map placed (insert_entry place_cmp es place held) ≡ put_in (record { place = place; row = held.row }) (map placed es)
        → map placed (match_ordering o ((place, held) ∷ (e ∷ es)) ((e.0, held) ∷ es) (e ∷ insert_entry place_cmp es place held))
        ≡ match_ordering o (record { place = place; row = held.row } ∷ map placed (e ∷ es)) (record { place = e.0; row = held.row } ∷ map placed es) (placed e ∷ put_in (record { place = place; row = held.row }) (map placed es))
    by Less rest = refl
    by Equal rest = refl
    by Greater rest = ap (λ xs. placed e ∷ xs) rest

pub take_is : (place : Place) (es : Entries) → map placed (remove_entry (is_at (place_cmp place)) es) ≡ without place (map placed es)
take_is place [] = refl
take_is place (e ∷ es) = by (is_eq (place_cmp place e.0)) (take_is place es)
  where
    by : (b : Bool) → map placed (remove_entry (is_at (place_cmp place)) es) ≡ without place (map placed es)
        → map placed (cond b es (e ∷ remove_entry (is_at (place_cmp place)) es)) ≡ cond b (map placed es) (placed e ∷ without place (map placed es))
    by true rest = refl
    by false rest = ap (λ xs. placed e ∷ xs) rest

-- the rows that a table of these parts shows
abbrev pub shown : List Kind → List ℕ → ℕ → Entries → PlacedRows
shown kinds keys compare es = record { kinds = kinds; keys = keys; compare = compare; rows = map placed es }

module _ (kinds : List Kind) (keys : List ℕ) (compare : ℕ) (old new : Entries) where
  pub shown_put : (place : Place) (held : Held) → new ≡ insert_entry place_cmp old place held → shown kinds keys compare new ≡ with_row (shown kinds keys compare old) place held.row
  shown_put place held e =
      ap (shown kinds keys compare) e ∙ ap (λ (rows : List Placed). record (shown kinds keys compare old) { rows = rows }) (put_is place held old)

  pub shown_take : (place : Place) → new ≡ remove_entry (is_at (place_cmp place)) old → shown kinds keys compare new ≡ without_row place (shown kinds keys compare old)
  shown_take place e =
      ap (shown kinds keys compare) e ∙ ap (λ (rows : List Placed). record (shown kinds keys compare old) { rows = rows }) (take_is place old)

-- ---- rows of a sequence, taken out one by one

module _ (sequence : Sequence) (from : ℕ) (place : Place) (out : (row : Row) → is_out sequence from (record { place = place; row = row }) ≡ true) where
  gone : (x : Placed) → is_eq (place_cmp place x.place) ≡ true → is_out sequence from x ≡ true
  gone x e = ap (λ p. is_out sequence from (record { place = p; row = x.row })) (sym (place_same place x.place e)) ∙ out x.row

  pub stays_without : (xs : List Placed) → filter (stays sequence from) (without place xs) ≡ filter (stays sequence from) xs
  stays_without [] = refl
  stays_without (x ∷ xs) = by (stays_without xs) (is_eq (place_cmp place x.place)) refl
    where
      by : filter (stays sequence from) (without place xs) ≡ filter (stays sequence from) xs → (b : Bool) → is_eq (place_cmp place x.place) ≡ b → filter (stays sequence from) (cond b xs (x ∷ without place xs)) ≡ filter (stays sequence from) (x ∷ xs)
      by rest true e = sym (ap (λ t. cond (not t) (x ∷ filter (stays sequence from) xs) (filter (stays sequence from) xs)) (gone x e))
      by rest false e = ap (λ ys. cond (stays sequence from x) (x ∷ ys) ys) rest

  pub out_without : (xs : List Placed) → is_held place xs ≡ true → length (filter (is_out sequence from) (without place xs)) + 1 ≡ length (filter (is_out sequence from) xs)
  out_without [] h = absurd (true≢false (sym h))
  out_without (x ∷ xs) h = by (out_without xs) (is_eq (place_cmp place x.place)) refl h
    where
      more : (t : Bool) → length (filter (is_out sequence from) (without place xs)) + 1 ≡ length (filter (is_out sequence from) xs)
          → length (cond t (x ∷ filter (is_out sequence from) (without place xs)) (filter (is_out sequence from) (without place xs))) + 1
          ≡ length (cond t (x ∷ filter (is_out sequence from) xs) (filter (is_out sequence from) xs))
      more true e = omega (arith, e)
      more false e = e

      by : (is_held place xs ≡ true → length (filter (is_out sequence from) (without place xs)) + 1 ≡ length (filter (is_out sequence from) xs))
          → (b : Bool) → is_eq (place_cmp place x.place) ≡ b → (b || is_held place xs) ≡ true
          → length (filter (is_out sequence from) (cond b xs (x ∷ without place xs))) + 1 ≡ length (filter (is_out sequence from) (x ∷ xs))
      by rest true e g =
          let one : length (filter (is_out sequence from) xs) + 1 ≡ length (x ∷ filter (is_out sequence from) xs) = omega arith in
          one ∙ sym (ap (λ t. length (cond t (x ∷ filter (is_out sequence from) xs) (filter (is_out sequence from) xs))) (gone x e))
      by rest false e g = more (is_out sequence from x) (rest g)

pub shorter : (place : Place) (xs : List Placed) → is_held place xs ≡ true → length (without place xs) < length xs
shorter place [] h = absurd (true≢false (sym h))
shorter place (x ∷ xs) h = by (shorter place xs) (is_eq (place_cmp place x.place)) h
  where
    by : (is_held place xs ≡ true → length (without place xs) < length xs) → (b : Bool) → (b || is_held place xs) ≡ true → length (cond b xs (x ∷ without place xs)) < length (x ∷ xs)
    by rest true g = omega arith
    by rest false g = omega (arith, rest g)

-- where no row is out, each stays
pub none_out : (sequence : Sequence) (from : ℕ) (xs : List Placed) → filter (is_out sequence from) xs ≡ [] → filter (stays sequence from) xs ≡ xs
none_out sequence from [] h = refl
none_out sequence from (x ∷ xs) h = by (none_out sequence from xs) (is_out sequence from x) h
  where
    by : (filter (is_out sequence from) xs ≡ [] → filter (stays sequence from) xs ≡ xs) → (b : Bool) → cond b (x ∷ filter (is_out sequence from) xs) (filter (is_out sequence from) xs) ≡ [] → cond (not b) (x ∷ filter (stays sequence from) xs) (filter (stays sequence from) xs) ≡ x ∷ xs
    by rest true g = absurd (cc)
    by rest false g = ap (λ ys. x ∷ ys) (rest g)
