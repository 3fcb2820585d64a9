-- A row is hidden exactly where a greater rank of its key is there.
use Rattle.std.proofs.Common.{◌≡◌, ℕ, ◌<◌, Bool, true, false, cond, not, ◌&&◌, ◌||◌, List, [], ◌∷◌, map, filter, Option, Some, None, IfSome, true≢false, Less, nat_cmp, refl, sym, ap, ◌∙◌, subst, slice_get}
use Rattle.std.specs.Prelude.{is_some}
use Rattle.std.specs.List.{AllByRecursion, list_any}
use Rattle.std.specs.Map.{lookup}
use Rattle.std.specs.BTreeMap.{BTreeMap, get, is_at, IsOrdered}
use Rattle.std.specs.BTreeSet.{BTreeSet, contains}
use Rattle.std.specs.Ordering.{is_eq, is_lt, ordering_then, int_cmp}
use Rattle.std.proofs.lemmas.Bool.{and_from}
use Rattle.std.proofs.lemmas.Option.{same_Some}
use Rattle.rt_schema.specs.declared.column.Kind.{Kind}
use Rattle.rt_schema.specs.declared.value.Value.{Value}
use Rattle.rt_upsert.specs.declared.held.Held.{Held}
use Rattle.rt_upsert.specs.declared.place.Place.{Place}
use Rattle.rt_upsert.specs.declared.rank.Rank.{Rank}
use Rattle.rt_upsert.specs.Index.{rank_cmp, rank_of, is_rank_of, placed, IsHeld, IsIndexed}
use Rattle.rt_upsert.specs.Latest.{key_of, compare_of, same_key, is_before, hides, is_hidden, latest_of}
use Rattle.rt_upsert.specs.Placed.{Placed, PlacedRows, place_cmp, is_held}
use Rattle.rt_upsert.specs.Ranked.{HasLater, IsLast, TellsLast}
use Rattle.rt_upsert.proofs.Changing.{Entries, shown}
use Rattle.rt_upsert.proofs.Counting.{IsFound, all_found}
use Rattle.rt_upsert.proofs.Keys.{key_is, key_same, number_is}
use Rattle.rt_upsert.proofs.Orders.{less_is, then_equal, nat_self, place_same, rank_self, rank_key, rank_compare}

first_part : (a b : Bool) → (a && b) ≡ true → a ≡ true
first_part true b h = refl
first_part false b h = h

second_part : (a b : Bool) → (a && b) ≡ true → b ≡ true
second_part true b h = h
second_part false b h = absurd (true≢false (sym h))

module _ (kinds : List Kind) (keys : List ℕ) (compare : ℕ) (numbers : List (List Value)) (rows : BTreeMap Place Held) (ranks : BTreeSet Rank)
    (k : IsIndexed kinds keys compare numbers rows ranks) where
  pub is_held_at : (place : Place) (held : Held) → get place_cmp rows place ≡ Some held → IsHeld kinds keys numbers place held
  is_held_at place held at = subst (λ o. IfSome o (IsHeld kinds keys numbers place)) at (k.held place)

  small_at : (place : Place) (o : Option Held) → IfSome o (IsHeld kinds keys numbers place) → IfSome o (λ held. place.row < 4294967295)
  small_at place None h = tt
  small_at place (Some held) h = h.row

  -- each row's number is below the greatest
  pub small_row : (place : Place) → IfSome (get place_cmp rows place) (λ held. place.row < 4294967295)
  small_row place = small_at place (get place_cmp rows place) (k.held place)

  -- rows of one key have one number
  same_number : (place other : Place) (held more : Held) → get place_cmp rows place ≡ Some held → get place_cmp rows other ≡ Some more
      → same_key (key_of keys more.row) (key_of keys held.row) ≡ true → more.key ≡ held.key
  same_number place other held more at there same =
      let one = is_held_at place held at in
      let two = is_held_at other more there in
      let numbers_same : two.number ≡ one.number = sym (key_is (key_of keys more.row) two.number two.key) ∙ key_is (key_of keys more.row) (key_of keys held.row) same ∙ key_is (key_of keys held.row) one.number one.key in
      number_is numbers more.key held.key one.number k.apart (two.stands ∙ ap Some numbers_same) one.stands

  -- rows of one number have one key
  one_key : (place other : Place) (held more : Held) → get place_cmp rows place ≡ Some held → get place_cmp rows other ≡ Some more → more.key ≡ held.key
      → same_key (key_of keys more.row) (key_of keys held.row) ≡ true
  one_key place other held more at there same =
      let one = is_held_at place held at in
      let two = is_held_at other more there in
      let numbers_same : two.number ≡ one.number = same_Some two.number one.number (sym two.stands ∙ ap (slice_get numbers) same ∙ one.stands) in
      key_same (key_of keys more.row) (key_of keys held.row)
      (key_is (key_of keys more.row) two.number two.key ∙ numbers_same ∙ sym (key_is (key_of keys held.row) one.number one.key))

  own_rank : (place : Place) (held : Held) → get place_cmp rows place ≡ Some held → contains rank_cmp ranks (rank_of compare place held) ≡ true
  own_rank place held at =
      k.ranked (rank_of compare place held) ∙ ap (λ o. is_rank_of compare o (rank_of compare place held)) at ∙ ap is_eq (rank_self (rank_of compare place held))

  module _ (place : Place) (held : Held) (at : get place_cmp rows place ≡ Some held) where
    abbrev own : Rank
    own = rank_of compare place held

    abbrev hiding : Placed → Bool
    hiding y = hides (shown kinds keys compare rows.entries) y (placed (place, held))

    -- where no greater rank of the key is there, no row hides this one
    none_hides : IsLast ranks own → (es : Entries) → AllByRecursion (IsFound rows) es → list_any hiding (map placed es) ≡ false
    none_hides last [] h = refl
    none_hides last (e ∷ es) h = by (none_hides last es h.1) (hiding (placed e)) refl
      where
        clash : hiding (placed e) ≡ true → ⊥
        clash hid =
            let number : e.1.key ≡ held.key =
            same_number place e.0 held e.1 at h.0 (first_part (same_key (key_of keys e.1.row) (key_of keys held.row)) (is_before compare (placed (place, held)) (placed e)) hid) in
            let before = less_is (ordering_then (int_cmp (compare_of compare held.row) (compare_of compare e.1.row)) (place_cmp place e.0)) (second_part (same_key (key_of keys e.1.row) (key_of keys held.row)) (is_before compare (placed (place, held)) (placed e)) hid) in
            let above : rank_cmp own (rank_of compare e.0 e.1) ≡ Less =
            then_equal (nat_cmp held.key e.1.key) (ordering_then (int_cmp (compare_of compare held.row) (compare_of compare e.1.row)) (place_cmp place e.0)) (ap (nat_cmp held.key) number ∙ nat_self held.key) ∙ before in
            true≢false (sym (own_rank e.0 e.1 h.0) ∙ last (rank_of compare e.0 e.1) number above)

        by : list_any hiding (map placed es) ≡ false → (b : Bool) → hiding (placed e) ≡ b → (b || list_any hiding (map placed es)) ≡ false
        by rest true hid = absurd (clash hid)
        by rest false hid = rest

    found_hides : (q : Place) (more : Held) (es : Entries) → lookup (is_at (place_cmp q)) es ≡ Some more → hiding (record { place = q; row = more.row }) ≡ true → list_any hiding (map placed es) ≡ true
    found_hides q more [] there hid = absurd (true≢false (sym (ap is_some there)))
    found_hides q more (e ∷ es) there hid = by (λ here. found_hides q more es here hid) (is_eq (place_cmp q e.0)) refl there
      where
        seen : (b c : Bool) → b ≡ true → (b || c) ≡ true
        seen true c h = refl
        seen false c h = absurd (true≢false (sym h))

        past : (b c : Bool) → c ≡ true → (b || c) ≡ true
        past true c h = refl
        past false c h = h

        by : (lookup (is_at (place_cmp q)) es ≡ Some more → list_any hiding (map placed es) ≡ true)
            → (b : Bool) → is_eq (place_cmp q e.0) ≡ b → cond b (Some e.1) (lookup (is_at (place_cmp q)) es) ≡ Some more → (hiding (placed e) || list_any hiding (map placed es)) ≡ true
        by rest true tie here =
            let is : placed e ≡ record { place = q; row = more.row } = λ i. record { place = sym (place_same q e.0 tie) i; row = (same_Some e.1 more here i).row } in
            seen (hiding (placed e)) (list_any hiding (map placed es)) (ap hiding is ∙ hid)
        by rest false tie here = past (hiding (placed e)) (list_any hiding (map placed es)) (rest here)

    -- a greater rank of the key is that of a row that hides this one
    later_hides : HasLater ranks own → list_any hiding (map placed rows.entries) ≡ true
    later_hides h = by (get place_cmp rows h.later.place) refl (sym (k.ranked h.later) ∙ h.there)
      where
        by : (o : Option Held) → get place_cmp rows h.later.place ≡ o → is_rank_of compare o h.later ≡ true → list_any hiding (map placed rows.entries) ≡ true
        by None there is = absurd (true≢false (sym is))
        by (Some more) there is =
            let theirs : Rank = rank_of compare h.later.place more in
            let number : more.key ≡ held.key = rank_key theirs h.later is ∙ h.key in
            let value : compare_of compare more.row ≡ h.later.compare = rank_compare theirs h.later is in
            let above : ordering_then (int_cmp (compare_of compare held.row) h.later.compare) (place_cmp place h.later.place) ≡ Less =
            sym (then_equal (nat_cmp held.key h.later.key) (ordering_then (int_cmp (compare_of compare held.row) h.later.compare) (place_cmp place h.later.place)) (ap (nat_cmp held.key) h.key ∙ nat_self held.key)) ∙ h.above in
            let before : is_before compare (placed (place, held)) (record { place = h.later.place; row = more.row }) ≡ true =
            ap (λ n. is_lt (ordering_then (int_cmp (compare_of compare held.row) n) (place_cmp place h.later.place))) value ∙ ap is_lt above in
            found_hides h.later.place more rows.entries there
            (and_from (same_key (key_of keys more.row) (key_of keys held.row)) (is_before compare (placed (place, held)) (record { place = h.later.place; row = more.row })) (one_key place h.later.place held more at there number) before)

    -- what the ranks say of a row is whether it is hidden
    pub latest_is : (b : Bool) → TellsLast ranks own b → b ≡ not (is_hidden (shown kinds keys compare rows.entries) (placed (place, held)))
    latest_is true last = ap not (sym (none_hides last rows.entries (all_found rows k.ordered)))
    latest_is false later = ap not (sym (later_hides later))

-- ---- a row at a place, among those that pass a test

module _ (test : Placed → Bool) (rows : BTreeMap Place Held) (place : Place) where
  found_at : (held : Held) (b : Bool) → get place_cmp rows place ≡ Some held → test (placed (place, held)) ≡ b → (es : Entries) → AllByRecursion (IsFound rows) es
      → is_held place (filter test (map placed es)) ≡ (b && is_some (lookup (is_at (place_cmp place)) es))
  found_at held true at t [] h = refl
  found_at held false at t [] h = refl
  found_at held b at t (e ∷ es) h = by (found_at held b at t es h.1) (is_eq (place_cmp place e.0)) refl
    where
      is_it : is_eq (place_cmp place e.0) ≡ true → test (placed e) ≡ b
      is_it tie =
          let here : place ≡ e.0 = place_same place e.0 tie in
          let one : e.1 ≡ held = same_Some e.1 held (sym h.0 ∙ ap (get place_cmp rows) (sym here) ∙ at) in
          (λ i. test (record { place = sym here i; row = (one i).row })) ∙ t

      with_test : is_held place (filter test (map placed es)) ≡ (b && is_some (lookup (is_at (place_cmp place)) es)) → (c : Bool) → c ≡ b → is_eq (place_cmp place e.0) ≡ true → is_held place (cond c (placed e ∷ filter test (map placed es)) (filter test (map placed es))) ≡ (b && true)
      with_test rest true g tie = ap (λ d. d || is_held place (filter test (map placed es))) tie ∙ ap (λ d. d && true) g
      with_test rest false g tie = rest ∙ ap (λ d. d && is_some (lookup (is_at (place_cmp place)) es)) (sym g) ∙ ap (λ d. d && true) g

      past : is_held place (filter test (map placed es)) ≡ (b && is_some (lookup (is_at (place_cmp place)) es)) → (c : Bool) → is_eq (place_cmp place e.0) ≡ false → is_held place (cond c (placed e ∷ filter test (map placed es)) (filter test (map placed es))) ≡ (b && is_some (lookup (is_at (place_cmp place)) es))
      past rest true tie = ap (λ d. d || is_held place (filter test (map placed es))) tie ∙ rest
      past rest false tie = rest

      by : is_held place (filter test (map placed es)) ≡ (b && is_some (lookup (is_at (place_cmp place)) es)) → (c : Bool) → is_eq (place_cmp place e.0) ≡ c → is_held place (filter test (placed e ∷ map placed es)) ≡ (b && is_some (cond c (Some e.1) (lookup (is_at (place_cmp place)) es)))
      by rest true tie = with_test rest (test (placed e)) (is_it tie) tie
      by rest false tie = past rest (test (placed e)) tie

  -- none is there that passes where none is there at all
  none_at : (es : Entries) → lookup (is_at (place_cmp place)) es ≡ None → is_held place (filter test (map placed es)) ≡ false
  none_at [] e = refl
  none_at (x ∷ es) e = by (none_at es) (is_eq (place_cmp place x.0)) refl e
    where
      past : (c : Bool) → is_eq (place_cmp place x.0) ≡ false → is_held place (filter test (map placed es)) ≡ false → is_held place (cond c (placed x ∷ filter test (map placed es)) (filter test (map placed es))) ≡ false
      past true tie rest = ap (λ d. d || is_held place (filter test (map placed es))) tie ∙ rest
      past false tie rest = rest

      by : (lookup (is_at (place_cmp place)) es ≡ None → is_held place (filter test (map placed es)) ≡ false) → (c : Bool) → is_eq (place_cmp place x.0) ≡ c → cond c (Some x.1) (lookup (is_at (place_cmp place)) es) ≡ None → is_held place (filter test (placed x ∷ map placed es)) ≡ false
      by rest true tie g = absurd (true≢false (ap is_some g))
      by rest false tie g = past (test (placed x)) tie (rest g)

  pub passing : (held : Held) (b : Bool) → IsOrdered place_cmp rows → get place_cmp rows place ≡ Some held → b ≡ test (placed (place, held)) → b ≡ is_held place (filter test (map placed rows.entries))
  passing held b o at t = sym (found_at held b at (sym t) rows.entries (all_found rows o) ∙ ap (λ c. b && is_some c) at ∙ and_so b)
    where
      and_so : (c : Bool) → (c && true) ≡ c
      and_so true = refl
      and_so false = refl

  pub none_passing : get place_cmp rows place ≡ None → false ≡ is_held place (filter test (map placed rows.entries))
  none_passing e = sym (none_at rows.entries e)

-- ---- what a table shows of a place

module _ (kinds : List Kind) (keys : List ℕ) (compare : ℕ) (numbers : List (List Value)) (rows : BTreeMap Place Held) (ranks : BTreeSet Rank)
    (k : IsIndexed kinds keys compare numbers rows ranks) (held : PlacedRows) (is : shown kinds keys compare rows.entries ≡ held) (place : Place) where
  module _ (row : Held) (at : get place_cmp rows place ≡ Some row) (b : Bool) (tells : TellsLast ranks (rank_of compare place row) b) where
    pub latest_in : b ≡ not (is_hidden held (placed (place, row)))
    latest_in = latest_is kinds keys compare numbers rows ranks k place row at b tells ∙ ap (λ (h : PlacedRows). not (is_hidden h (placed (place, row)))) is

    pub shows_latest : b ≡ is_held place (latest_of held)
    shows_latest =
        passing (λ x. not (is_hidden (shown kinds keys compare rows.entries) x)) rows place row b k.ordered at (latest_is kinds keys compare numbers rows ranks k place row at b tells)
        ∙ ap (λ (h : PlacedRows). is_held place (latest_of h)) is

  pub shows_none : get place_cmp rows place ≡ None → false ≡ is_held place (latest_of held)
  shows_none none =
      none_passing (λ x. not (is_hidden (shown kinds keys compare rows.entries) x)) rows place none ∙ ap (λ (h : PlacedRows). is_held place (latest_of h)) is
