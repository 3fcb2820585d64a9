-- Groups that are found by ids.
use Rattle.std.proofs.Common.{Contains, ◌≡◌, ℕ, zero, suc, ◌+◌, ◌<◌, ◌≤◌, Bool, true, false, cond, List, [], ◌∷◌, ◌++◌, length, map, take, get_or, slice_get, Option, None, Some, refl, ap, sym, subst, ◌∙◌, inl, inr, arith}
use Rattle.std.specs.Prelude.{is_some, if◌then◌else◌}
use Rattle.std.specs.Map.{lookup, keys_of}
use Rattle.std.proofs.lemmas.Bool.{true≢false}
use Rattle.std.proofs.lemmas.List.{length-map, length-take-le, get_or_past, take_more, map-append, length_push}
use Rattle.std.proofs.lemmas.Option.{slice_get_past, slice_get_within}
use Rattle.rt_schema.specs.declared.value.Value.{Value}
use Rattle.rt_schema.specs.declared.value.Value.TheVariants.{Bool as Truth}
use Rattle.rt_model.specs.declared.query_parts.ColumnAt.{ColumnAt}
use Rattle.rt_model.specs.Aggregate.{group_of, key_of}
use Rattle.rt_model.specs.Match.{value_in}
use Rattle.rt_model.specs.declared.query.Query.{Query}
use Rattle.rt_agg.specs.Accumulator.{Accumulator}
use Rattle.rt_agg.specs.Accumulators.{all_known_of}
use Rattle.rt_agg.specs.Grouped.{Grouped, Holds, keys_in_order, known_if, same_key}
use Rattle.rt_agg.proofs.Apart.{absent, stays_before}
use Rattle.rt_agg.proofs.Holding.{keys_equiv, same_is}
use Rattle.rt_scan.specs.GroupIds.{Met}
use Rattle.rt_scan.specs.Grouping.{value_by, value_with, key_by, AreLeast, IsLeast, KeysStay, Leads}
use Rattle.rt_scan.specs.IndexById.{IsAt, Notes}
use Rattle.rt_scan.proofs.Noted.{met_of}
use Rattle.std.proofs.lemmas.List.Elements.{Contains-append_left, Contains-push, Contains-push_cases}
use Rattle.rt_seek.specs.Table.{cell_at, row_at}

abbrev Keys : Type 0
Keys = List (List Value)

pub more_stay : (old new : Grouped) (key : List Value) → keys_in_order new ≡ keys_in_order old ++ key ∷ [] → KeysStay old new
more_stay old new key more i q at = ap (λ (ks : Keys). slice_get ks i) more ∙ stays_before (keys_in_order old) key i q at

-- before the first row there is no group, where a column groups the rows
no_group : (query : Query) (groups : Grouped) (k : List Value) → 0 < length query.groups → Holds query [] groups → Contains (keys_in_order groups) k → ⊥
no_group query groups k some holds there = absent groups.groups k (holds.known k ∙ none query.groups some) there
  where
    none : (by : List ColumnAt) → 0 < length by → known_if (record query { groups = by }) [] k ≡ None
    none [] lt = absurd (omega arith)
    none (c ∷ cs) lt = refl

abbrev Entries : Type 0
Entries = List (List Value × List Accumulator)

-- where none does, there is one
only_group : (query : Query) (groups : Grouped) → Holds query [] groups → length query.groups ≡ 0 → slice_get (keys_in_order groups) 0 ≡ Some []
only_group query groups holds none = by groups.groups query.groups none (λ k. holds.known k)
  where
    if_true : (b : Bool) (x : List Accumulator) → b ≡ true → is_some (if b then Some x else None) ≡ true
    if_true b x e = ap (λ c. is_some (if c then Some x else None)) e

    true_if : (b : Bool) (x : List Accumulator) → is_some (if b then Some x else None) ≡ true → b ≡ true
    true_if true x e = refl
    true_if false x e = e

    head : (x : List Value × List Accumulator) (es : Entries) → is_some (lookup (same_key x.0) (x ∷ es)) ≡ true
    head x es = ap (λ b. is_some (cond b (Some x.1) (lookup (same_key x.0) es))) (keys_equiv.refl x.0)

    by : (es : Entries) (cs : List ColumnAt) → length cs ≡ 0 → ((k : List Value) → lookup (same_key k) es ≡ known_if (record query { groups = cs }) [] k) → slice_get (keys_of es) 0 ≡ Some []
    by [] [] e known = absurd (true≢false (sym (ap is_some (known []) ∙ if_true (same_key [] []) (all_known_of [] query.items query.order [] (group_of [] [] [])) (keys_equiv.refl []))))
    by (x ∷ es) [] e known = ap Some (same_is x.0 [] (true_if (same_key x.0 []) (all_known_of [] query.items query.order x.0 (group_of [] x.0 [])) (ap is_some (sym (known x.0)) ∙ head x es)))
    by es (c ∷ cs) e known = absurd (omega (arith, e))

pub two_or_more : (n : ℕ) → (n ≡ 0 → ⊥) → (n ≡ 1 → ⊥) → 2 ≤ n
two_or_more zero some several = absurd (some refl)
two_or_more (suc zero) some several = absurd (several refl)
two_or_more (suc (suc n)) some several = omega arith

module _ {C : Type 0} (values : C → List Value) (value_of : C → ℕ → Value) (columns : List C) where
  -- a column that isn't there
  pub lacking : (column : ColumnAt) (row id : ℕ) → length columns ≤ column.place → value_by value_of columns column id ≡ value_in (row_at values columns row) column
  lacking column row id past =
      ap (λ o. value_with value_of o id) (slice_get_past columns column.place past)
      ∙ sym (get_or_past (map (cell_at values row) columns) column.place (Truth false) (omega (arith, past, length-map columns (cell_at values row))))

  key_push : (by : List ColumnAt) (ids : List ℕ) (c : ColumnAt) (id : ℕ) → length ids ≡ length by → key_by value_of columns (by ++ c ∷ []) (ids ++ id ∷ []) ≡ key_by value_of columns by ids ++ value_by value_of columns c id ∷ []
  key_push [] [] c id e = refl
  key_push [] (i ∷ ids) c id e = absurd (omega (arith, e))
  key_push (b ∷ by) [] c id e = absurd (omega (arith, e))
  key_push (b ∷ by) (i ∷ ids) c id e = ap (λ vs. value_by value_of columns b i ∷ vs) (key_push by ids c id (omega (arith, e)))

  -- the key of the only group, where no column groups the rows
  pub whole_key : (by : List ColumnAt) (row : ℕ) → length by ≡ 0 → key_by value_of columns by [] ≡ key_of by (row_at values columns row)
  whole_key [] row none = refl
  whole_key (c ∷ cs) row none = absurd (omega (arith, none))

  -- ---- the least ids

  pub lacking_least : (column : ColumnAt) → length columns ≤ column.place → IsLeast value_of columns column 0
  lacking_least column past other same = omega arith

  pub held_least : (column : ColumnAt) (c : C) (id : ℕ) → slice_get columns column.place ≡ Some c
      → ((other : ℕ) → value_of c other ≡ value_of c id → id ≤ other) → IsLeast value_of columns column id
  held_least column c id at least other same =
      least other (ap (λ o. value_with value_of o other) (sym at) ∙ same ∙ ap (λ o. value_with value_of o id) at)

  least_push : (by : List ColumnAt) (ids : List ℕ) (c : ColumnAt) (id : ℕ) → AreLeast value_of columns by ids → IsLeast value_of columns c id → AreLeast value_of columns (by ++ c ∷ []) (ids ++ id ∷ [])
  least_push [] [] c id are is = (is, tt)
  least_push [] (i ∷ ids) c id are is = absurd are
  least_push (b ∷ by) [] c id are is = absurd are
  least_push (b ∷ by) (i ∷ ids) c id are is = (are.0, least_push by ids c id are.1 is)

  one_least : (c : ColumnAt) (i j : ℕ) → IsLeast value_of columns c i → IsLeast value_of columns c j → value_by value_of columns c i ≡ value_by value_of columns c j → i ≡ j
  one_least c i j p q e =
      let up : i ≤ j = p j (sym e) in
      let down : j ≤ i = q i e in
      omega arith

  -- the least ids that stand for a key are the only ones
  same_least : (by : List ColumnAt) (ids js : List ℕ) → AreLeast value_of columns by ids → AreLeast value_of columns by js → key_by value_of columns by ids ≡ key_by value_of columns by js → ids ≡ js
  same_least [] [] [] p q e = refl
  same_least [] [] (j ∷ js) p q e = absurd q
  same_least [] (i ∷ ids) js p q e = absurd p
  same_least (c ∷ cs) [] js p q e = absurd p
  same_least (c ∷ cs) (i ∷ ids) [] p q e = absurd q
  same_least (c ∷ cs) (i ∷ ids) (j ∷ js) p q e =
      let first : value_by value_of columns c i ≡ value_by value_of columns c j = cc in
      let others : key_by value_of columns cs ids ≡ key_by value_of columns cs js = cc in
      λ k. one_least c i j p.0 q.0 first k ∷ same_least cs ids js p.1 q.1 others k

  module _ (by : List ColumnAt) (i : ℕ) (c : ColumnAt) (row id : ℕ) (ids new : List ℕ) (h : i < length by) (here : c ≡ get_or by i c) (pushed : new ≡ ids ++ id ∷ []) where
    pub ids_count : length ids ≡ i → length new ≡ i + 1
    ids_count e = ap length pushed ∙ omega (arith, length_push ids id, e)

    pub ids_more : value_by value_of columns c id ≡ value_in (row_at values columns row) c → length ids ≡ i → key_by value_of columns (take i by) ids ≡ key_of (take i by) (row_at values columns row) →
        key_by value_of columns (take (i + 1) by) new ≡ key_of (take (i + 1) by) (row_at values columns row)
    ids_more is count before =
        let front : take (i + 1) by ≡ take i by ++ c ∷ [] = take_more by i c h ∙ ap (λ d. take i by ++ d ∷ []) (sym here) in
        ap (λ bs. key_by value_of columns bs new) front ∙ ap (key_by value_of columns (take i by ++ c ∷ [])) pushed
        ∙ key_push (take i by) ids c id (count ∙ sym (length-take-le i by (omega (arith, h))))
        ∙ ap (λ vs. vs ++ value_by value_of columns c id ∷ []) before
        ∙ ap (λ v. key_of (take i by) (row_at values columns row) ++ v ∷ []) is
        ∙ sym (map-append (value_in (row_at values columns row)) (take i by) (c ∷ []))
        ∙ ap (λ bs. key_of bs (row_at values columns row)) (sym front)

    pub least_more : IsLeast value_of columns c id → AreLeast value_of columns (take i by) ids → AreLeast value_of columns (take (i + 1) by) new
    least_more is before =
        let front : take (i + 1) by ≡ take i by ++ c ∷ [] = take_more by i c h ∙ ap (λ d. take i by ++ d ∷ []) (sym here) in
        subst (λ (bs : List ColumnAt). AreLeast value_of columns bs new) (sym front)
        (subst (λ (js : List ℕ). AreLeast value_of columns (take i by ++ c ∷ []) js) (sym pushed) (least_push (take i by) ids c id before is))

  -- ---- what leads on

  module _ (by : List ColumnAt) (old new : Grouped) (met after : Met) (led : Leads value_of columns by old met) (key : List Value) (more : keys_in_order new ≡ keys_in_order old ++ key ∷ [])
      (index : ℕ) (found : slice_get (keys_in_order new) index ≡ Some key) where
    stay : KeysStay old new
    stay = more_stay old new key more

    -- after a new group whose ids are noted
    pub leads_more : (ids : List ℕ) → 2 ≤ length by → key_by value_of columns by ids ≡ key → AreLeast value_of columns by ids → after ≡ met_of (met.by_ids ++ (ids, index) ∷ []) met.by_id → Leads value_of columns by new after
    leads_more ids many is least last = record {
      by_ids = λ entry at. elim (Contains-push_cases met.by_ids (ids, index) entry (subst (λ (m : Met). Contains m.by_ids entry) last at)) [
        | inl before ↦ stay entry.1 (key_by value_of columns by entry.0) (led.by_ids entry before)
        | inr this ↦ ap (λ e. slice_get (keys_in_order new) e.1) (sym this) ∙ found ∙ ap Some (sym is) ∙ ap (λ e. Some (key_by value_of columns by e.0)) this
      ];
      by_id = λ id at h. stay at (key_by value_of columns by (id ∷ [])) (led.by_id id at (subst (λ (m : Met). IsAt m.by_id id at) last h));
      whole = λ none. absurd (omega (arith, none, many));
      one = λ single. absurd (omega (arith, single, many));
      several = λ _ js js_least there missed. elim (Contains-push_cases (keys_in_order old) key (key_by value_of columns by js) (subst (λ (ks : Keys). Contains ks (key_by value_of columns by js)) more there)) [
        | inl before ↦ led.several many js js_least before (λ at noted. missed at (subst (λ (m : Met). Contains m.by_ids (js, at)) (sym last) (Contains-append_left met.by_ids ((ids, index) ∷ []) (js, at) noted)))
        | inr this ↦ (
            let same : ids ≡ js = same_least by ids js least js_least (is ∙ this) in
            missed index (subst (λ (m : Met). Contains m.by_ids (js, index)) (sym last) (subst (λ (ls : List ℕ). Contains (met.by_ids ++ (ids, index) ∷ []) (ls, index)) same (Contains-push met.by_ids (ids, index)))))
      ];
    }

    -- and after one of which one id is noted
    pub leads_one : (id : ℕ) → length by ≡ 1 → key_by value_of columns by (id ∷ []) ≡ key → AreLeast value_of columns by (id ∷ []) → Notes met.by_id id index after.by_id → after.by_ids ≡ met.by_ids → Leads value_of columns by new after
    leads_one id single is least notes same = record {
      by_ids = λ entry at. stay entry.1 (key_by value_of columns by entry.0) (led.by_ids entry (subst (λ (es : List (List ℕ × ℕ)). Contains es entry) same at));
      by_id = λ i at h. elim (notes.most i at h) [
        | inl before ↦ stay at (key_by value_of columns by (i ∷ [])) (led.by_id i at before)
        | inr this ↦ ap (slice_get (keys_in_order new)) this.1 ∙ found ∙ ap Some (sym is) ∙ ap (λ k. Some (key_by value_of columns by (k ∷ []))) (sym this.0)
      ];
      whole = λ none. absurd (omega (arith, none, single));
      one = λ _ j j_least there free. elim (Contains-push_cases (keys_in_order old) key (key_by value_of columns by (j ∷ [])) (subst (λ (ks : Keys). Contains ks (key_by value_of columns by (j ∷ []))) more there)) [
        | inl before ↦ led.one single j j_least before (λ at noted. free at (notes.kept j at noted (λ (e : j ≡ id). free index (subst (λ n. IsAt after.by_id n index) (sym e) notes.here))))
        | inr this ↦ (
            let alike : ◌≡◌ {A = List ℕ} (id ∷ []) (j ∷ []) = same_least by (id ∷ []) (j ∷ []) least j_least (is ∙ this) in
            let same_id : id ≡ j = cc in
            free index (subst (λ n. IsAt after.by_id n index) same_id notes.here))
      ];
      several = λ many. absurd (omega (arith, many, single));
    }

  pub leads_still : (by : List ColumnAt) (old new : Grouped) (met : Met) → Leads value_of columns by old met → keys_in_order new ≡ keys_in_order old → Leads value_of columns by new met
  leads_still by old new met led same = record {
    by_ids = λ entry at. ap (λ ks. slice_get ks entry.1) same ∙ led.by_ids entry at;
    by_id = λ id at h. ap (λ ks. slice_get ks at) same ∙ led.by_id id at h;
    whole = λ none. ap (λ ks. slice_get ks 0) same ∙ led.whole none;
    one = λ single id least there. led.one single id least (subst (λ (ks : Keys). Contains ks (key_by value_of columns by (id ∷ []))) same there);
    several = λ many ids least there. led.several many ids least (subst (λ (ks : Keys). Contains ks (key_by value_of columns by ids)) same there);
  }

  -- where nothing is asked for, the key is empty
  key_of_none : (cs : List ColumnAt) → length cs ≡ 0 → key_by value_of columns cs [] ≡ []
  key_of_none [] e = refl
  key_of_none (c ∷ cs) e = refl

  -- nothing was met yet
  pub leads_none : (query : Query) (groups : Grouped) (met : Met) → Holds query [] groups → met ≡ met_of [] [] → Leads value_of columns query.groups groups met
  leads_none query groups met holds none = record {
    by_ids = λ entry at. absurd (omega (arith, (subst (λ (m : Met). Contains m.by_ids entry) none at).1));
    by_id = λ id at h. absurd (omega (arith, slice_get_within {A = Option ℕ} [] id (Some at) (subst (λ (m : Met). IsAt m.by_id id at) none h)));
    whole = λ none_asked. only_group query groups holds none_asked ∙ ap Some (sym (key_of_none query.groups none_asked));
    one = λ single id least there free. no_group query groups (key_by value_of columns query.groups (id ∷ [])) (omega (arith, single)) holds there;
    several = λ many ids least there missed. no_group query groups (key_by value_of columns query.groups ids) (omega (arith, many)) holds there;
  }
