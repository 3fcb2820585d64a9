-- What callers rely on, over the definitions alone.
use Rattle.std.proofs.Common.{◌≡◌, ◌==◌, nat_le, arith, Bool, true, false, cond, not, ◌&&◌, ◌||◌, List, [], ◌∷◌, ◌⊎◌, inl, inr, filter, true≢false, Ordering, Less, Equal, Greater, refl, sym, ap, ◌∙◌, subst}
use Rattle.std.specs.List.{list_any}
use Rattle.std.specs.Cmp.{IsTotalOrder}
use Rattle.std.specs.Ordering.{is_eq, is_lt, match_ordering, ordering_then, ordering_reverse, int_cmp}
use Rattle.std.proofs.lemmas.Bool.{and_from, not-true, or_from, eq-eqb, le-leb, false_from_ne_true}
use Rattle.std.proofs.lemmas.Cmp.{int_cmp_total, on_total, then_total, tied_itself}
use Rattle.rt_lists.specs.Members.{Has}
use Rattle.rt_lists.proofs.Members.{Has-filter, filter-Has}
use Rattle.rt_schema.specs.declared.row.Row.{Row}
use Rattle.rt_upsert.specs.declared.place.Place.{Place}
use Rattle.rt_upsert.specs.Changes.{left}
use Rattle.rt_upsert.specs.Latest.{key_of, compare_of, same_key, is_before, hides, is_hidden}
use Rattle.rt_upsert.specs.Laws.{SharesKey, IsLatestRow}
use Rattle.rt_upsert.specs.Placed.{Placed, PlacedRows, place_cmp, put_in, with_row, is_out, stays}
use Rattle.rt_upsert.proofs.Counting.{place_total}
use Rattle.rt_upsert.proofs.Keys.{key_is, key_same}
use Rattle.rt_upsert.proofs.Orders.{less_is, place_same, then_second}

-- ---- what is added last and taken out

is_own : (place : Place) (row : Row) → is_out place.sequence place.row (record { place = place; row = row }) ≡ true
is_own place row = and_from (place.sequence.0 == place.sequence.0) (nat_le place.row place.row) (eq-eqb place.sequence.0 place.sequence.0 refl) (le-leb place.row place.row (omega arith))

module _ (place : Place) (row : Row) where
  abbrev it : Placed
  it = record { place = place; row = row }

  abbrev out : Placed → Bool
  out = is_out place.sequence place.row

  abbrev stay : Placed → Bool
  stay = stays place.sequence place.row

  goes : (ys : List Placed) → filter stay (it ∷ ys) ≡ filter stay ys
  goes ys = ap (λ b. cond (not b) (it ∷ filter stay ys) (filter stay ys)) (is_own place row)

  all_stay : (ys : List Placed) → filter out ys ≡ [] → filter stay ys ≡ ys
  all_stay [] none = refl
  all_stay (y ∷ ys) none = by (all_stay ys) (out y) none
    where
      by : (filter out ys ≡ [] → filter stay ys ≡ ys) → (b : Bool) → cond b (y ∷ filter out ys) (filter out ys) ≡ [] → cond (not b) (y ∷ filter stay ys) (filter stay ys) ≡ y ∷ ys
      by rest true g = absurd (cc)
      by rest false g = ap (λ zs. y ∷ zs) (rest g)

  put_and_gone : (ys : List Placed) → filter out ys ≡ [] → filter stay (put_in it ys) ≡ ys
  put_and_gone [] none = goes []
  put_and_gone (y ∷ ys) none = by (put_and_gone ys) (place_cmp place y.place) refl
    where
      not_out : (b : Bool) → cond b (y ∷ filter out ys) (filter out ys) ≡ [] → b ≡ false
      not_out true g = absurd (cc)
      not_out false g = refl

      rest_out : (b : Bool) → cond b (y ∷ filter out ys) (filter out ys) ≡ [] → filter out ys ≡ []
      rest_out true g = absurd (cc)
      rest_out false g = g

      by : (filter out ys ≡ [] → filter stay (put_in it ys) ≡ ys) → (o : Ordering) → place_cmp place y.place ≡ o → filter stay (match_ordering o (it ∷ (y ∷ ys)) (record { place = y.place; row = row } ∷ ys) (y ∷ put_in it ys)) ≡ y ∷ ys
      by rest Less e = goes (y ∷ ys) ∙ all_stay (y ∷ ys) none
      by rest Equal e =
          let here : place ≡ y.place = place_same place y.place (ap is_eq e) in
          absurd (true≢false (sym (is_own place y.row) ∙ ap (λ p. out (record { place = p; row = y.row })) here ∙ not_out (out y) none))
      by rest Greater e = ap (λ b. cond (not b) (y ∷ filter stay (put_in it ys)) (filter stay (put_in it ys))) (not_out (out y) none) ∙ ap (λ zs. y ∷ zs) (rest (rest_out (out y) none))

pub added_and_taken_out : (held : PlacedRows) (place : Place) (row : Row) → filter (is_out place.sequence place.row) held.rows ≡ [] → left place.sequence place.row (with_row held place row) ≡ held
added_and_taken_out held place row none = ap (λ (rows : List Placed). record held { rows = rows }) (put_and_gone place row held.rows none)

-- ---- the latest row of a key

module _ (held : PlacedRows) where
  abbrev cmp : Placed → Placed → Ordering
  cmp x y = ordering_then (int_cmp (compare_of held.compare x.row) (compare_of held.compare y.row)) (place_cmp x.place y.place)

  total : IsTotalOrder cmp
  total = then_total (on_total (λ (x : Placed). compare_of held.compare x.row) int_cmp_total) (on_total (λ (x : Placed). x.place) place_total)

  -- a latest row is held, and hidden by none
  kept_of : (x : Placed) → IsLatestRow held x → Has held.rows x × (is_hidden held x ≡ false)
  kept_of x h = let found = Has-filter (λ y. not (is_hidden held y)) held.rows x h in (found.0, not-true (is_hidden held x) found.1)

  none_of : (test : Placed → Bool) (xs : List Placed) (x : Placed) → list_any test xs ≡ false → Has xs x → test x ≡ false
  none_of test [] x e h = absurd h
  none_of test (y ∷ ys) x e h = by (none_of test ys x) (test y) refl e h
    where
      by : (list_any test ys ≡ false → Has ys x → test x ≡ false) → (b : Bool) → test y ≡ b → (b || list_any test ys) ≡ false → (y ≡ x) ⊎ Has ys x → test x ≡ false
      by rest true t g k = absurd (true≢false g)
      by rest false t g (inl is) = subst (λ z. test z ≡ false) is t
      by rest false t g (inr k) = rest g k

  so_apart : (a b : Bool) → a ≡ true → (a && b) ≡ false → b ≡ false
  so_apart true b e h = h
  so_apart false b e h = absurd (true≢false (sym e))

  not_before : (x y : Placed) → IsLatestRow held x → Has held.rows y → SharesKey held y x → is_lt (cmp x y) ≡ false
  not_before x y h k same = so_apart (same_key (key_of held.keys y.row) (key_of held.keys x.row)) (is_before held.compare x y) same (none_of (λ z. hides held z x) held.rows y (kept_of x h).1 k)

  turned : (o : Ordering) → is_lt o ≡ false → is_lt (ordering_reverse o) ≡ false → o ≡ Equal
  turned Less a b = absurd (true≢false a)
  turned Equal a b = refl
  turned Greater a b = absurd (true≢false b)

  pub one_latest : (x y : Placed) → IsLatestRow held x → IsLatestRow held y → SharesKey held x y → x.place ≡ y.place
  one_latest x y h k same =
      let back : SharesKey held y x = key_same (key_of held.keys y.row) (key_of held.keys x.row) (sym (key_is (key_of held.keys x.row) (key_of held.keys y.row) same)) in
      let tie : cmp x y ≡ Equal =
      turned (cmp x y) (not_before x y h (kept_of y k).0 back) (ap is_lt (sym (total.antisymm y x)) ∙ not_before y x k (kept_of x h).0 same) in
      place_same x.place y.place (ap is_eq (then_second (int_cmp (compare_of held.compare x.row) (compare_of held.compare y.row)) (place_cmp x.place y.place) tie))

  -- ---- each key has one

  less_on : (x y z : Placed) → is_lt (cmp x y) ≡ true → is_lt (cmp x z) ≡ false → is_lt (cmp y z) ≡ false
  less_on x y z less not = false_from_ne_true (is_lt (cmp y z)) (λ more. true≢false (sym (ap is_lt (total.trans x y z (less_is (cmp x y) less) (less_is (cmp y z) more))) ∙ not))

  shares_on : (x y z : Placed) → SharesKey held x y → SharesKey held y z → SharesKey held x z
  shares_on x y z one two =
      key_same (key_of held.keys x.row) (key_of held.keys z.row) (key_is (key_of held.keys x.row) (key_of held.keys y.row) one ∙ key_is (key_of held.keys y.row) (key_of held.keys z.row) two)

  -- of the key of x nothing in the list is later than y, nor is x
  record IsBest (zs : List Placed) (x y : Placed) : Type 0 where
    there : (x ≡ y) ⊎ Has zs y
    shares : SharesKey held y x
    first : is_lt (cmp y x) ≡ false
    others : (z : Placed) → Has zs z → SharesKey held z x → is_lt (cmp y z) ≡ false

  best : (zs : List Placed) (x : Placed) → (y : Placed) × IsBest zs x y
  best [] x = (
    x,
    record {
      there = inl refl;
      shares = key_same (key_of held.keys x.row) (key_of held.keys x.row) refl;
      first = ap is_lt (tied_itself total x);
      others = λ z h same. absurd h;
    },
  )
  best (z ∷ zs) x = let rest = best zs x in by rest.0 rest.1 (same_key (key_of held.keys z.row) (key_of held.keys x.row)) (is_lt (cmp rest.0 z)) refl refl
    where
      further : (y : Placed) → (x ≡ y) ⊎ Has zs y → (x ≡ y) ⊎ ((z ≡ y) ⊎ Has zs y)
      further y (inl is) = inl is
      further y (inr h) = inr (inr h)

      by : (y : Placed) → IsBest zs x y → (s l : Bool) → same_key (key_of held.keys z.row) (key_of held.keys x.row) ≡ s → is_lt (cmp y z) ≡ l → (w : Placed) × IsBest (z ∷ zs) x w
      by y b false l s less =
          (y, record { there = further y b.there; shares = b.shares; first = b.first; others = over })
        where
          over : (w : Placed) → (z ≡ w) ⊎ Has zs w → SharesKey held w x → is_lt (cmp y w) ≡ false
          over w (inl is) same = absurd (true≢false (sym (subst (λ v. SharesKey held v x) (sym is) same) ∙ s))
          over w (inr h) same = b.others w h same
      by y b true false s less =
          (y, record { there = further y b.there; shares = b.shares; first = b.first; others = over })
        where
          over : (w : Placed) → (z ≡ w) ⊎ Has zs w → SharesKey held w x → is_lt (cmp y w) ≡ false
          over w (inl is) same = subst (λ v. is_lt (cmp y v) ≡ false) is less
          over w (inr h) same = b.others w h same
      by y b true true s less =
          (z, record { there = inr (inl refl); shares = s; first = less_on y z x less b.first; others = over })
        where
          over : (w : Placed) → (z ≡ w) ⊎ Has zs w → SharesKey held w x → is_lt (cmp z w) ≡ false
          over w (inl is) same = subst (λ v. is_lt (cmp z v) ≡ false) is (ap is_lt (tied_itself total z))
          over w (inr h) same = less_on y z w less (b.others w h same)

  any_none : (test : Placed → Bool) (xs : List Placed) → ((z : Placed) → Has xs z → test z ≡ false) → list_any test xs ≡ false
  any_none test [] h = refl
  any_none test (x ∷ xs) h = or_from (test x) (list_any test xs) (h x (inl refl)) (any_none test xs (λ z k. h z (inr k)))

  pub some_latest : (x : Placed) → Has held.rows x → (y : Placed) × IsLatestRow held y × SharesKey held y x
  some_latest x h = let b = best held.rows x in (b.0, filter-Has (λ z. not (is_hidden held z)) held.rows b.0 (among b.0 b.1.there) (ap not (unhidden b.0 b.1)), b.1.shares)
    where
      among : (y : Placed) → (x ≡ y) ⊎ Has held.rows y → Has held.rows y
      among y (inl is) = subst (Has held.rows) is h
      among y (inr k) = k

      unhidden : (y : Placed) → IsBest held.rows x y → is_hidden held y ≡ false
      unhidden y b = any_none (λ z. hides held z y) held.rows (λ z k. by z k (same_key (key_of held.keys z.row) (key_of held.keys y.row)) refl)
        where
          by : (z : Placed) → Has held.rows z → (s : Bool) → same_key (key_of held.keys z.row) (key_of held.keys y.row) ≡ s → (s && is_before held.compare y z) ≡ false
          by z k true s = b.others z k (shares_on z y x s b.shares)
          by z k false s = refl
