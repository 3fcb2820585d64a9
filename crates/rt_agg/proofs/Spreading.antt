-- Steps of holders that several items share.
use Rattle.std.proofs.Common.{◌≡◌, ℕ, zero, suc, ◌<◌, List, [], ◌∷◌, ◌++◌, ◌+◌, length, map, take, drop, get_or, slice_get, Some, refl, sym, ap, ◌∙◌, subst, inl, inr, arith}
use Rattle.std.specs.Prelude.{◌⊎◌, slice_index_or, unwrap_or}
use Rattle.std.specs.List.{AllByRecursion}
use Rattle.std.proofs.lemmas.Bool.{cases_order}
use Rattle.std.proofs.lemmas.List.{drop-map, length-append, length-map, same_lists, take-map}
use Rattle.std.proofs.lemmas.Option.{get_or_from_slice_get, slice_get-get_or, slice_get_within}
use Rattle.std.proofs.Math.ListN.{get_or-map}
use Rattle.rt_schema.specs.declared.value.Value.{Value}
use Rattle.rt_model.specs.declared.query_parts.ColumnAt.{ColumnAt}
use Rattle.rt_model.specs.declared.query_parts.Item.{Item}
use Rattle.rt_agg.specs.GroupTable.{MayStart, StartsSome, all_merged_in}
use Rattle.rt_agg.specs.ResultHolder.{HasStarted, cell_held, item_of, merged_in}
use Rattle.rt_agg.specs.Sharing.{AreFirsts, AreHeld, IsFirst, IsHeld, IsIdle, IsShared, cells_at, idle, items_at, spread}
use Rattle.rt_agg.specs.declared.result_holder.ResultHolder.{ResultHolder}
use Rattle.rt_agg.specs.declared.result_holder.ResultHolder.TheVariants.{Key, Counts, Sums, Least, Greatest}

-- ---- places

one_first : (items : List Item) (i p q : ℕ) → IsFirst items i p → IsFirst items i q → p ≡ q
one_first items i p q a b = elim (cases_order p q) [
  | inl same ↦ same
  | inr apart ↦ elim apart [
    | inl less ↦ absurd (b.first p less a.same)
    | inr more ↦ absurd (a.first q more b.same)
  ]
]

-- the places are told by the items
pub one_places : (items : List Item) (ps qs : List ℕ) → AreFirsts items ps → AreFirsts items qs → ps ≡ qs
one_places items ps qs a b = same_lists ps qs (a.long ∙ sym b.long) (λ k d within.
    one_first items k (get_or ps k d) (get_or qs k d)
    (a.each k (get_or ps k d) (slice_get-get_or ps k d within))
    (b.each k (get_or qs k d) (slice_get-get_or qs k d (omega (arith, within, a.long, b.long)))))

-- the first place of an item is the first place of the item there
pub first_own : (items : List Item) (ps : List ℕ) (i p : ℕ) → AreFirsts items ps → slice_get ps i ≡ Some p → slice_get ps p ≡ Some p
first_own items ps i p a at =
    let here = a.each i p at in
    let inside : p < length ps = omega (arith, here.within, slice_get_within ps i p at) in
    let q = get_or ps p 0 in
    let found : slice_get ps p ≡ Some q = slice_get-get_or ps p 0 inside in
    let there = a.each p q found in
    let same : q ≡ p = elim (cases_order q p) [
      | inl same ↦ same
      | inr apart ↦ elim apart [
        | inl less ↦ absurd (here.first q less (there.same ∙ here.same))
        | inr more ↦ absurd (omega (arith, more, there.within))
      ]
    ] in
    found ∙ ap Some same

-- ---- what is shown

pub items_shown : (places : List ℕ) (held : List ResultHolder) → map item_of (spread places held) ≡ items_at places (map item_of held)
items_shown [] held = refl
items_shown (p ∷ places) held = λ j. sym (get_or-map item_of held p idle) j ∷ items_shown places held j

-- a step that changes no idle one is one of each that is shown
pub spread_map : (f : ResultHolder → ResultHolder) → f idle ≡ idle → (places : List ℕ) (held : List ResultHolder) → spread places (map f held) ≡ map f (spread places held)
spread_map f still [] held = refl
spread_map f still (p ∷ places) held =
    λ j. (ap (get_or (map f held) p) (sym still) ∙ get_or-map f held p idle) j ∷ spread_map f still places held j

module _ (group from : ℕ) where
  merged_idle : (h : ResultHolder) → merged_in group from h idle ≡ h
  merged_idle (Key column) = refl
  merged_idle (Counts counts) = refl
  merged_idle (Sums column totals) = refl
  merged_idle (Least column scalars) = refl
  merged_idle (Greatest column scalars) = refl

  merged_place : (hs os : List ResultHolder) (p : ℕ) → get_or (all_merged_in group from hs os) p idle ≡ merged_in group from (get_or hs p idle) (get_or os p idle)
  merged_place [] os p = refl
  merged_place (h ∷ hs) [] p = sym (merged_idle (get_or (h ∷ hs) p idle))
  merged_place (h ∷ hs) (o ∷ os) zero = refl
  merged_place (h ∷ hs) (o ∷ os) (suc p) = merged_place hs os p

  pub spread_merged : (places : List ℕ) (hs os : List ResultHolder) → spread places (all_merged_in group from hs os) ≡ all_merged_in group from (spread places hs) (spread places os)
  spread_merged [] hs os = refl
  spread_merged (p ∷ places) hs os = λ j. merged_place hs os p j ∷ spread_merged places hs os j

module _ (group : ℕ) where
  some_at : (hs ns : List ResultHolder) (p : ℕ) → StartsSome group hs ns → MayStart group (get_or hs p idle) (get_or ns p idle)
  some_at [] [] p s = inl refl
  some_at [] (n ∷ ns) p s = absurd s
  some_at (h ∷ hs) [] p s = absurd s
  some_at (h ∷ hs) (n ∷ ns) zero s = s.0
  some_at (h ∷ hs) (n ∷ ns) (suc p) s = some_at hs ns p s.1

  pub spread_some : (places : List ℕ) (hs ns : List ResultHolder) → StartsSome group hs ns → StartsSome group (spread places hs) (spread places ns)
  spread_some [] hs ns s = tt
  spread_some (p ∷ places) hs ns s = (some_at hs ns p s, spread_some places hs ns s)

-- ---- the places of the same items

pub same_places : (ps qs : List ℕ) (hs os : List ResultHolder) → IsShared ps (map item_of hs) → IsShared qs (map item_of os) → map item_of (spread ps hs) ≡ map item_of (spread qs os) → ps ≡ qs
same_places ps qs hs os shared beside alike =
    let items : items_at qs (map item_of os) ≡ items_at ps (map item_of hs) = sym (items_shown qs os) ∙ sym alike ∙ items_shown ps hs in
    one_places (items_at ps (map item_of hs)) ps qs shared.firsts (subst (λ xs. AreFirsts xs qs) items beside.firsts)

-- ---- the cells of a group

module _ (columns : List ColumnAt) (key : List Value) (group : ℕ) (held : List ResultHolder) where
  cells_spread : (places : List ℕ) → cells_at columns key group held places ≡ map (cell_held columns key group) (spread places held)
  cells_spread [] = refl
  cells_spread (p ∷ places) = ap (λ t. cell_held columns key group (slice_index_or held p idle) ∷ t) (cells_spread places)

  pub cells_first : (width : ℕ) (places : List ℕ) → cells_at columns key group held (take width places) ≡ map (cell_held columns key group) (take width (spread places held))
  cells_first width places =
      cells_spread (take width places) ∙ ap (map (cell_held columns key group)) (sym (take-map (λ p. slice_index_or held p idle) width places))

  pub cells_later : (width : ℕ) (places : List ℕ) → cells_at columns key group held (drop width places) ≡ map (cell_held columns key group) (drop width (spread places held))
  cells_later width places =
      cells_spread (drop width places) ∙ ap (map (cell_held columns key group)) (sym (drop-map (λ p. slice_index_or held p idle) width places))

  -- the same, where they are read through other lists
  pub cells_before : (width : ℕ) (places now : List ℕ) (shown : List ResultHolder) → now ≡ take width places → spread places held ≡ shown
      → cells_at columns key group held now ≡ map (cell_held columns key group) (take width shown)
  cells_before width places now shown first is =
      ap (cells_at columns key group held) first ∙ cells_first width places ∙ ap (λ hs. map (cell_held columns key group) (take width hs)) is

  pub cells_behind : (width : ℕ) (places now : List ℕ) (shown : List ResultHolder) → now ≡ drop width places → spread places held ≡ shown
      → cells_at columns key group held now ≡ map (cell_held columns key group) (drop width shown)
  cells_behind width places now shown later is =
      ap (cells_at columns key group held) later ∙ cells_later width places ∙ ap (λ hs. map (cell_held columns key group) (drop width hs)) is

-- ---- groups that were started

idle_started : (n : ℕ) (h : ResultHolder) → IsIdle (item_of h) → HasStarted n h
idle_started n (Key column) still = tt
idle_started n (Counts counts) still = absurd still
idle_started n (Sums column totals) still = absurd still
idle_started n (Least column scalars) still = absurd still
idle_started n (Greatest column scalars) still = absurd still

started_at : (n : ℕ) (held : List ResultHolder) (places : List ℕ) (k i : ℕ) (h : ResultHolder) → AllByRecursion (HasStarted n) (spread places held)
    → slice_get places k ≡ Some i → slice_get held i ≡ Some h → HasStarted n h
started_at n held [] k i h s own at = absurd (omega (arith, slice_get_within {A = ℕ} [] k i own))
started_at n held (p ∷ places) zero i h s own at =
    let place : p ≡ i = ap (λ o. unwrap_or o i) own in
    subst (HasStarted n) (ap (λ q. get_or held q idle) place ∙ get_or_from_slice_get held i h idle at) s.0
started_at n held (p ∷ places) (suc k) i h s own at = started_at n held places k i h s.1 own at

-- all that are held have started a group, where those that are shown have
pub held_started : (n : ℕ) (places : List ℕ) (held : List ResultHolder) → IsShared places (map item_of held) → AllByRecursion (HasStarted n) (spread places held) → AllByRecursion (HasStarted n) held
held_started n places held shared s = by held (λ i h at. elim (shared.others i (item_of h) (item_at held i h at)) [
  | inl own ↦ started_at n held places i i h s own at
  | inr still ↦ idle_started n h still
])
  where
    item_at : (hs : List ResultHolder) (i : ℕ) (h : ResultHolder) → slice_get hs i ≡ Some h → slice_get (map item_of hs) i ≡ Some (item_of h)
    item_at [] i h at = absurd (omega (arith, slice_get_within {A = ResultHolder} [] i h at))
    item_at (g ∷ gs) zero h at = ap (λ o. Some (item_of (unwrap_or o h))) at
    item_at (g ∷ gs) (suc i) h at = item_at gs i h at

    by : (gs : List ResultHolder) → ((i : ℕ) (h : ResultHolder) → slice_get gs i ≡ Some h → HasStarted n h) → AllByRecursion (HasStarted n) gs
    by [] each = tt
    by (g ∷ gs) each = (each 0 g refl, by gs (λ i. each (suc i)))

-- ---- how places are found

module _ {X : Type 0} where
  pub some_one : {x y : X} → Some x ≡ Some y → x ≡ y
  some_one {x = x} e = ap (λ o. unwrap_or o x) e

  -- none before the next place is the same
  pub none_sooner : (items : List X) (i place : ℕ) → ((j : ℕ) → j < place → slice_get items j ≡ slice_get items i → ⊥) → (slice_get items place ≡ slice_get items i → ⊥)
      → (j : ℕ) → j < place + 1 → slice_get items j ≡ slice_get items i → ⊥
  none_sooner items i place before here j lt same = elim (cases_order j place) [
    | inl is ↦ here (subst (λ k. slice_get items k ≡ slice_get items i) is same)
    | inr apart ↦ elim apart [
      | inl less ↦ before j less same
      | inr more ↦ absurd (omega (arith, lt, more))
    ]
  ]

-- ---- how they are made

module _ {X : Type 0} where
  last_got : (xs : List X) (x y : X) (i : ℕ) → slice_get (xs ++ x ∷ []) i ≡ Some y → (slice_get xs i ≡ Some y) ⊎ ((i ≡ length xs) × (x ≡ y))
  last_got [] x y zero at = inr (refl, ap (λ o. unwrap_or o y) at)
  last_got [] x y (suc i) at = absurd (omega (arith, slice_get_within {A = X} [] i y at))
  last_got (z ∷ xs) x y zero at = inl at
  last_got (z ∷ xs) x y (suc i) at = elim (last_got xs x y i at) [
    | inl before ↦ inl before
    | inr last ↦ inr (ap suc last.0, last.1)
  ]

-- the first place of one item more
pub record FirstsTo (items : List Item) (places : List ℕ) (count : ℕ) : Type 0 where
  pub long : length places ≡ count
  pub each : (i place : ℕ) → slice_get places i ≡ Some place → IsFirst items i place

pub firsts_more : (items : List Item) (places now : List ℕ) (count place : ℕ) → length places ≡ count → ((i p : ℕ) → slice_get places i ≡ Some p → IsFirst items i p)
    → IsFirst items count place → now ≡ places ++ place ∷ [] → FirstsTo items now (count + 1)
firsts_more items places now count place long each here is = record {
  long = ap length is ∙ omega (arith, length-append places (place ∷ []), long);
  each = λ i p at. elim (last_got places place p i (ap (λ (ps : List ℕ). slice_get ps i) (sym is) ∙ at)) [
    | inl before ↦ each i p before
    | inr last ↦ subst (IsFirst items i) last.1 (subst (λ k. IsFirst items k place) (sym (last.0 ∙ long)) here)
  ];
}

pub items_more : (held : List ResultHolder) (h : ResultHolder) → map item_of (held ++ h ∷ []) ≡ map item_of held ++ item_of h ∷ []
items_more [] h = refl
items_more (g ∷ held) h = ap (λ t. item_of g ∷ t) (items_more held h)

-- one item more is held
pub held_more : (items : List Item) (places : List ℕ) (count : ℕ) (held : List Item) (x : Item) → AreHeld items places count held → IsHeld items places count x → AreHeld items places (count + 1) (held ++ x ∷ [])
held_more items places count held x all here = record {
  long = omega (arith, length-append held (x ∷ []), all.long);
  each = λ i y at. elim (last_got held x y i at) [
    | inl before ↦ all.each i y before
    | inr last ↦ subst (λ z. IsHeld items places i z) last.1 (subst (λ k. IsHeld items places k x) (sym (last.0 ∙ all.long)) here)
  ];
}

-- what is shown are the items
pub held_items : (items : List Item) (places : List ℕ) (held : List Item) → AreFirsts items places → AreHeld items places (length items) held → items_at places held ≡ items
held_items items places held firsts all =
    same_lists (items_at places held) items (length-map places (λ p. slice_index_or held p (item_of idle)) ∙ firsts.long) (λ k d within. here k d (omega (arith, within, length-map places (λ p. slice_index_or held p (item_of idle)))))
  where
    read : (ps : List ℕ) (k p : ℕ) → slice_get ps k ≡ Some p → slice_get (items_at ps held) k ≡ Some (get_or held p (item_of idle))
    read [] k p at = absurd (omega (arith, slice_get_within {A = ℕ} [] k p at))
    read (q ∷ ps) zero p at = ap (λ o. Some (get_or held (unwrap_or o p) (item_of idle))) at
    read (q ∷ ps) (suc k) p at = read ps k p at

    here : (k : ℕ) (d : Item) → k < length places → get_or (items_at places held) k d ≡ get_or items k d
    here k d within =
        let p = get_or places k 0 in
        let at : slice_get places k ≡ Some p = slice_get-get_or places k 0 within in
        let first = firsts.each k p at in
        let inside : p < length held = omega (arith, first.within, within, firsts.long, all.long) in
        let x = get_or held p (item_of idle) in
        let own : slice_get items p ≡ Some x = (all.each p x (slice_get-get_or held p (item_of idle) inside)).own (first_own items places k p firsts at) in
        get_or_from_slice_get (items_at places held) k x d (read places k p at) ∙ sym (get_or_from_slice_get items k x d (sym first.same ∙ own))

pub held_shared : (items : List Item) (places : List ℕ) (held : List Item) → AreFirsts items places → AreHeld items places (length items) held → IsShared places held
held_shared items places held firsts all = record {
  within = λ k d inside. omega (arith, (firsts.each k (get_or places k d) (slice_get-get_or places k d inside)).within, inside, firsts.long, all.long);
  firsts = subst (λ xs. AreFirsts xs places) (sym (held_items items places held firsts all)) firsts;
  others = λ i x at. (all.each i x at).other;
}
