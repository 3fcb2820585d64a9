-- There is a sealed file of rows that a file can hold.
use Rattle.std.proofs.Common.{◌≡◌, ℕ, zero, suc, ℤ, ◌+◌, ◌<◌, ◌≤◌, Bool, true, false, cond, ◌⊎◌, inl, inr, ◌-◌, List, [], ◌∷◌, ◌++◌, drop, filter, length, map, ◌^◌, Option, None, Some, All, Contains, IsTrue, refl, sym, ap, ◌∙◌, subst, slice_get, get_or, arith, take_all}
use Rattle.std.specs.Prelude.{FitsSigned, IfSome}
use Rattle.std.specs.List.{AllByRecursion}
use Rattle.std.specs.Int.{w32, w64}
use Rattle.std.specs.Str.{IsUtf8}
use Rattle.std.proofs.lemmas.List.{length-drop, length-map, length-take}
use Rattle.std.proofs.lemmas.List.Elements.{All-from_recursion, recursion_from_All}
use Rattle.std.proofs.lemmas.List.Kept.{AllPairs-cons}
use Rattle.rt_base.specs.declared.numbers.Partition.{Partition}
use Rattle.rt_base.specs.declared.numbers.Sequence.{Sequence}
use Rattle.rt_build.proofs.Sealable.{are_new, columns_fit, length_sealed, names_sealed, rows_sealed, shapes_sealed}
use Rattle.rt_build.proofs.Standing.{known_standing, short_standing, used_standing, values_standing}
use Rattle.rt_build.specs.Renumbered.{AreSorted}
use Rattle.rt_build.specs.Sealing.{AreColumnsSealed, filled_from}
use Rattle.rt_consumer.proofs.Rows.{built_past, columns_sealed, row_fits}
use Rattle.rt_consumer.specs.Consumer.{AreSettings, HaveColumns, IsBuilt, IsPhase}
use Rattle.rt_consumer.specs.Requests.{builds_in, IsSealedOf}
use Rattle.rt_consumer.specs.declared.consumer.Consumer.{Consumer}
use Rattle.rt_consumer.specs.declared.phase.Phase.TheVariants as phase
use Rattle.rt_consumer.specs.declared.phase.Phase.{Phase}
use Rattle.rt_consumer.specs.declared.settings.Settings.{Settings}
use Rattle.rt_dict.specs.Order.{bool_order, int_order, IsStrictOrder, text_order}
use Rattle.rt_dict.specs.Values.{IsAscending}
use Rattle.rt_lists.specs.Members.{Has}
use Rattle.rt_mutable.proofs.Made.{empty_held, empty_is}
use Rattle.rt_mutable.specs.Column.{Shape}
use Rattle.rt_mutable.specs.Consuming.{Consuming, empty_segment, FitsColumns, is_before, IsConsuming, IsNamed, IsShort, Placed, value_at, values_at}
use Rattle.rt_nodes.specs.declared.server_node.ServerNode.{ServerNode}
use Rattle.rt_replica.proofs.Places.{all_before}
use Rattle.rt_replica.specs.Held.{HoldsIn, messages_between, placed_from, placed_row}
use Rattle.rt_safety.proofs.Answering.{few_at}
use Rattle.rt_safety.specs.Possible.{AreOfTypes, HoldsTypes, IsOfTypes}
use Rattle.rt_schema.proofs.Rows.{row_of_kinds}
use Rattle.rt_schema.specs.Row.{IsRowOf, row_of}
use Rattle.rt_schema.specs.Schema.{are_distinct, is_among}
use Rattle.rt_schema.specs.Value.{kind_of}
use Rattle.rt_schema.specs.declared.column.Kind.{Kind}
use Rattle.rt_schema.specs.declared.row.Row.{Row}
use Rattle.rt_schema.specs.declared.value.Value.TheVariants as value
use Rattle.rt_schema.specs.declared.value.Value.{Value}
use Rattle.rt_segment.specs.Column.{AreShort, AreValues, count_in, IsColumn, IsDictionary, kind_in, SealedColumn, values_in}
use Rattle.rt_segment.specs.Segment.{SealedSegment}
use Rattle.rt_segment.specs.declared.dictionary.Dictionary.TheVariants.{Int, Long, Text, Bool as Truth, Time}
use Rattle.rt_segment.specs.declared.dictionary.Dictionary.{Dictionary}
use Rattle.rt_server.proofs.LastingEntries.{replica_held}
use Rattle.rt_server.specs.Table.{replica_of}
use Rattle.rt_state.specs.IsSafe.{past_of}
use Rattle.rt_state.specs.IsSafeWorld.{IsSafeWorld}
use Rattle.rt_state.specs.declared.state.State.{State}
use Rattle.rt_stream.specs.Log.{messages_of}

-- ---- the distinct values of a list, ascending

module _ {K : Type 0} {below : K → K → Bool} (order : IsStrictOrder below) where
  abbrev put : K → List K → List K
  put x [] = x ∷ []
  put x (y ∷ ys) = cond (below x y) (x ∷ (y ∷ ys)) (y ∷ cond (below y x) (put x ys) ys)

  abbrev sorted : List K → List K
  sorted [] = []
  sorted (x ∷ xs) = put x (sorted xs)

  abbrev Ascends : List K → Type 0
  Ascends [] = Unit {0}
  Ascends (y ∷ ys) = AllByRecursion (λ z. below y z ≡ true) ys × Ascends ys

  all_put : (P : K → Type 0) (x : K) (ys : List K) → P x → AllByRecursion P ys → AllByRecursion P (put x ys)
  all_put P x [] p all = (p, tt)
  all_put P x (y ∷ ys) p all = by (below x y) (below y x) (all_put P x ys p all.1)
    where
      by : (a b : Bool) → AllByRecursion P (put x ys) → AllByRecursion P (cond a (x ∷ (y ∷ ys)) (y ∷ cond b (put x ys) ys))
      by true b rest = (p, all)
      by false true rest = (all.0, rest)
      by false false rest = all

  above : (x y : K) (ys : List K) → below x y ≡ true → AllByRecursion (λ z. below y z ≡ true) ys → AllByRecursion (λ z. below x z ≡ true) ys
  above x y [] e all = tt
  above x y (z ∷ ys) e all = (order.transitive x y z e all.0, above x y ys e all.1)

  put_ascends : (x : K) (ys : List K) → Ascends ys → Ascends (put x ys)
  put_ascends x [] up = (tt, tt)
  put_ascends x (y ∷ ys) up = by (below x y) (below y x) refl refl (put_ascends x ys up.1)
    where
      by : (a b : Bool) → below x y ≡ a → below y x ≡ b → Ascends (put x ys) → Ascends (cond a (x ∷ (y ∷ ys)) (y ∷ cond b (put x ys) ys))
      by true b e f rest = ((e, above x y ys e up.0), up)
      by false true e f rest = (all_put (λ z. below y z ≡ true) x ys f up.0, rest)
      by false false e f rest = up

  sorted_ascends : (xs : List K) → Ascends (sorted xs)
  sorted_ascends [] = tt
  sorted_ascends (x ∷ xs) = put_ascends x (sorted xs) (sorted_ascends xs)

  ascending : (ys : List K) → Ascends ys → IsAscending below ys
  ascending [] up = λ i j d lt within. absurd (omega (arith, within))
  ascending (y ∷ ys) up = AllPairs-cons (λ x z. IsTrue (below x z)) y ys (All-from_recursion (λ z. below y z ≡ true) ys up.0) (ascending ys up.1)

  sorted_all : (P : K → Type 0) (xs : List K) → AllByRecursion P xs → AllByRecursion P (sorted xs)
  sorted_all P [] all = tt
  sorted_all P (x ∷ xs) all = all_put P x (sorted xs) all.0 (sorted_all P xs all.1)

  put_few : (x : K) (ys : List K) → length (put x ys) ≤ length ys + 1
  put_few x [] = omega arith
  put_few x (y ∷ ys) = by (below x y) (below y x) (put_few x ys)
    where
      by : (a b : Bool) → length (put x ys) ≤ length ys + 1 → length (cond a (x ∷ (y ∷ ys)) (y ∷ cond b (put x ys) ys)) ≤ length (y ∷ ys) + 1
      by true b le = omega arith
      by false true le = omega (arith, le)
      by false false le = omega arith

  sorted_few : (xs : List K) → length (sorted xs) ≤ length xs
  sorted_few [] = omega arith
  sorted_few (x ∷ xs) = omega (arith, put_few x (sorted xs), sorted_few xs)

  has_put : (x z : K) (ys : List K) → (x ≡ z) ⊎ Has ys z → Has (put x ys) z
  has_put x z [] h = h
  has_put x z (y ∷ ys) h = by (below x y) (below y x) refl refl h (has_put x z ys)
    where
      by : (a b : Bool) → below x y ≡ a → below y x ≡ b → (x ≡ z) ⊎ Has (y ∷ ys) z → ((x ≡ z) ⊎ Has ys z → Has (put x ys) z)
          → Has (cond a (x ∷ (y ∷ ys)) (y ∷ cond b (put x ys) ys)) z
      by true b e f h rest = h
      by false true e f (inl g) rest = inr (rest (inl g))
      by false true e f (inr (inl g)) rest = inl g
      by false true e f (inr (inr g)) rest = inr (rest (inr g))
      by false false e f (inl g) rest = inl (sym (order.total x y e f) ∙ g)
      by false false e f (inr g) rest = g

  put_has : (x z : K) (ys : List K) → Has (put x ys) z → (x ≡ z) ⊎ Has ys z
  put_has x z [] h = h
  put_has x z (y ∷ ys) h = by (below x y) (below y x) h (put_has x z ys)
    where
      later : (x ≡ z) ⊎ Has ys z → (x ≡ z) ⊎ Has (y ∷ ys) z
      later (inl g) = inl g
      later (inr g) = inr (inr g)

      by : (a b : Bool) → Has (cond a (x ∷ (y ∷ ys)) (y ∷ cond b (put x ys) ys)) z → (Has (put x ys) z → (x ≡ z) ⊎ Has ys z) → (x ≡ z) ⊎ Has (y ∷ ys) z
      by true b h rest = h
      by false true (inl g) rest = inr (inl g)
      by false true (inr g) rest = later (rest g)
      by false false h rest = inr h

  has_sorted : (xs : List K) (z : K) → Has xs z → Has (sorted xs) z
  has_sorted (x ∷ xs) z (inl e) = has_put x z (sorted xs) (inl e)
  has_sorted (x ∷ xs) z (inr h) = has_put x z (sorted xs) (inr (has_sorted xs z h))
  has_sorted [] z h = absurd h

  sorted_has : (xs : List K) (z : K) → Has (sorted xs) z → Has xs z
  sorted_has [] z h = absurd h
  sorted_has (x ∷ xs) z h = by (put_has x z (sorted xs) h) (λ g. sorted_has xs z g)
    where
      by : (x ≡ z) ⊎ Has (sorted xs) z → (Has (sorted xs) z → Has xs z) → Has (x ∷ xs) z
      by (inl e) rest = inl e
      by (inr g) rest = inr (rest g)

  contained : (xs : List K) (z : K) → Has xs z → Contains xs z
  contained [] z h = absurd h
  contained (x ∷ xs) z (inl e) = (0, omega arith, e)
  contained (x ∷ xs) z (inr h) = let c = contained xs z h in (suc c.0, omega (arith, c.1), c.2)

  has_at : (xs : List K) (i : ℕ) (z : K) → i < length xs → get_or xs i z ≡ z → Has xs z
  has_at [] i z lt e = absurd (omega (arith, lt))
  has_at (x ∷ xs) zero z lt e = inl e
  has_at (x ∷ xs) (suc i) z lt e = inr (has_at xs i z (omega (arith, lt)) e)

  place_of : (xs : List K) (z : K) → Has xs z → (i : ℕ) × (slice_get xs i ≡ Some z)
  place_of [] z h = absurd h
  place_of (x ∷ xs) z (inl e) = (0, ap (λ y. Some y) e)
  place_of (x ∷ xs) z (inr h) = let p = place_of xs z h in (suc p.0, p.1)

  ids_in : (dictionary vs : List K) → ((v : K) → Has vs v → Has dictionary v) → (ids : List ℕ) × (map (slice_get dictionary) ids ≡ map Some vs)
  ids_in dictionary [] f = ([], refl)
  ids_in dictionary (v ∷ vs) f =
      let p = place_of dictionary v (f v (inl refl)) in
      let rest = ids_in dictionary vs (λ u h. f u (inr h)) in
      (p.0 ∷ rest.0, λ j. p.1 j ∷ rest.1 j)

  pub are_sorted : (vs : List K) → (ids : List ℕ) × AreSorted below vs (sorted vs) ids
  are_sorted vs =
      let ids = ids_in (sorted vs) vs (λ v h. has_sorted vs v h) in (
        ids.0,
        record {
          distinct =
              record {
                ascending = ascending (sorted vs) (sorted_ascends vs);
                each_stands = λ v at. contained (sorted vs) v (has_sorted vs v (has_at vs at.0 v at.1 at.2));
                none_else = λ v at. contained vs v (sorted_has vs v (has_at (sorted vs) at.0 v at.1 at.2));
              };
          identified = ids.1;
        },
      )

-- ---- values of one kind

-- a dictionary of some values, and the id of each
record Stand (k : Kind) (vs : List Value) : Type 0 where
  dictionary : Dictionary
  ids : List ℕ
  kind : kind_in dictionary ≡ k
  values : map (λ id. get_or (values_in dictionary) id (value.Bool false)) ids ≡ vs
  right : IsDictionary dictionary
  known : All (λ id. id < count_in dictionary) ids
  used : (id : ℕ) → id < count_in dictionary → Contains ids id

-- what each value of a kind is made of
typed : {K : Type 0} (f : K → Value) (fits : K → Type 0) (k : Kind) → ((v : Value) → kind_of v ≡ k → IsOfTypes v → (z : K) × (f z ≡ v) × fits z)
    → (vs : List Value) → AllByRecursion (λ v. kind_of v ≡ k) vs → AllByRecursion IsOfTypes vs → (zs : List K) × (map f zs ≡ vs) × AllByRecursion fits zs
typed f fits k read [] kinds held = ([], refl, tt)
typed f fits k read (v ∷ vs) kinds held =
    let z = read v kinds.0 held.0 in
    let rest = typed f fits k read vs kinds.1 held.1 in
    (z.0 ∷ rest.0, λ j. z.1 j ∷ rest.1 j, (z.2, rest.2))

read_int : (v : Value) → kind_of v ≡ Kind.Int → IsOfTypes v → (z : ℤ) × (value.Int z ≡ v) × FitsSigned w32 z
read_int (value.Int z) e h = (z, refl, h)
read_int v e h = absurd (cc)

read_long : (v : Value) → kind_of v ≡ Kind.Long → IsOfTypes v → (z : ℤ) × (value.Long z ≡ v) × FitsSigned w64 z
read_long (value.Long z) e h = (z, refl, h)
read_long v e h = absurd (cc)

read_text : (v : Value) → kind_of v ≡ Kind.Text → IsOfTypes v → (s : List ℕ) × (value.Text s ≡ v) × IsUtf8 s
read_text (value.Text s) e h = (s, refl, h.0)
read_text v e h = absurd (cc)

read_truth : (v : Value) → kind_of v ≡ Kind.Bool → IsOfTypes v → (b : Bool) × (value.Bool b ≡ v) × Unit {0}
read_truth (value.Bool b) e h = (b, refl, tt)
read_truth v e h = absurd (cc)

read_time : (v : Value) → kind_of v ≡ Kind.Time → IsOfTypes v → (z : ℤ) × (value.Time z ≡ v) × FitsSigned w64 z
read_time (value.Time z) e h = (z, refl, h)
read_time v e h = absurd (cc)

-- the sorted values of a list, as a dictionary has them
record Dictates {K : Type 0} (f : K → Value) (below : K → K → Bool) (fits : K → Type 0) (dictionary : List K) (vs : List Value) : Type 0 where
  ids : List ℕ
  values : map (λ id. get_or (map f dictionary) id (value.Bool false)) ids ≡ vs
  right : AreValues below fits dictionary
  known : All (λ id. id < length dictionary) ids
  used : (id : ℕ) → id < length dictionary → Contains ids id

dictates : {K : Type 0} {below : K → K → Bool} (order : IsStrictOrder below) (f : K → Value) (fits : K → Type 0) (zs : List K) (vs : List Value)
    → map f zs ≡ vs → AllByRecursion fits zs → length vs ≤ 1000000 → Dictates f below fits (sorted order zs) vs
dictates order f fits zs vs are all few =
    let s = are_sorted order zs in
    record {
      ids = s.0;
      values = values_standing f (sorted order zs) s.0 zs s.1.identified ∙ are;
      right = (omega (arith, sorted_few order zs, few, ap length are, length-map zs f), s.1.distinct.ascending, All-from_recursion fits (sorted order zs) (sorted_all order fits zs all));
      known = known_standing f (sorted order zs) s.0 zs s.1.identified;
      used = used_standing order zs (sorted order zs) s.0 s.1;
    }

stands : (k : Kind) (vs : List Value) → AllByRecursion (λ v. kind_of v ≡ k) vs → AllByRecursion IsOfTypes vs → length vs ≤ 1000000 → Stand k vs
stands Kind.Int vs kinds held few =
    let t = typed value.Int (FitsSigned w32) Kind.Int read_int vs kinds held in
    let d = dictates int_order value.Int (FitsSigned w32) t.0 vs t.1 t.2 few in
    record { dictionary = Int (sorted int_order t.0); ids = d.ids; kind = refl; values = d.values; right = d.right; known = d.known; used = d.used }
stands Kind.Long vs kinds held few =
    let t = typed value.Long (FitsSigned w64) Kind.Long read_long vs kinds held in
    let d = dictates int_order value.Long (FitsSigned w64) t.0 vs t.1 t.2 few in
    record { dictionary = Long (sorted int_order t.0); ids = d.ids; kind = refl; values = d.values; right = d.right; known = d.known; used = d.used }
stands Kind.Text vs kinds held few =
    let t = typed value.Text IsUtf8 Kind.Text read_text vs kinds held in
    let d = dictates text_order value.Text IsUtf8 t.0 vs t.1 t.2 few in
    record { dictionary = Text (sorted text_order t.0); ids = d.ids; kind = refl; values = d.values; right = d.right; known = d.known; used = d.used }
stands Kind.Bool vs kinds held few =
    let t = typed value.Bool (λ b. Unit {0}) Kind.Bool read_truth vs kinds held in
    let d = dictates bool_order value.Bool (λ b. Unit {0}) t.0 vs t.1 t.2 few in
    record { dictionary = Truth (sorted bool_order t.0); ids = d.ids; kind = refl; values = d.values; right = d.right; known = d.known; used = d.used }
stands Kind.Time vs kinds held few =
    let t = typed value.Time (FitsSigned w64) Kind.Time read_time vs kinds held in
    let d = dictates int_order value.Time (FitsSigned w64) t.0 vs t.1 t.2 few in
    record { dictionary = Time (sorted int_order t.0); ids = d.ids; kind = refl; values = d.values; right = d.right; known = d.known; used = d.used }

-- ---- columns

-- what is true of the values of the columns from a place on
record AreColumnValues (placed : List Placed) (place : ℕ) (shapes : List Shape) : Type 0 where
  kinds : (k : ℕ) (shape : Shape) → slice_get shapes k ≡ Some shape → AllByRecursion (λ v. kind_of v ≡ shape.kind) (values_at (place + k) placed)
  held : (k : ℕ) → AllByRecursion IsOfTypes (values_at k placed)
  named : AllByRecursion (λ (shape : Shape). IsUtf8 shape.name) shapes
  few : length placed ≤ 1000000

short_types : (vs : List Value) → AllByRecursion IsOfTypes vs → AllByRecursion IsShort vs
short_types [] all = tt
short_types (v ∷ vs) all = (by v all.0, short_types vs all.1)
  where
    by : (v : Value) → IsOfTypes v → IsShort v
    by (value.Int z) h = tt
    by (value.Long z) h = tt
    by (value.Text s) h = h.1
    by (value.Bool b) h = tt
    by (value.Time z) h = tt

-- sealed columns of all rows
record Columns (indexed : List (List ℕ)) (placed : List Placed) (place : ℕ) (shapes : List Shape) : Type 0 where
  sealed : List SealedColumn
  are : AreColumnsSealed (length placed) indexed (filled_from place placed shapes) sealed
  short : AllByRecursion (λ (column : SealedColumn). AreShort column.dictionary) sealed
  right : AllByRecursion IsColumn sealed

columns_of : (indexed : List (List ℕ)) (placed : List Placed) (place : ℕ) (shapes : List Shape) → AreColumnValues placed place shapes → Columns indexed placed place shapes
columns_of indexed placed place [] h = record { sealed = []; are = tt; short = tt; right = tt }
columns_of indexed placed place (shape ∷ shapes) h =
    let vs = values_at place placed in
    let here : place + 0 ≡ place = omega arith in
    let size : length vs ≡ length placed = length-map placed (λ (p : Placed). value_at place p.row) in
    let s = stands shape.kind vs (subst (λ n. AllByRecursion (λ v. kind_of v ≡ shape.kind) (values_at n placed)) here (h.kinds 0 shape refl)) (h.held place) (omega (arith, size, h.few)) in
    let counted : length s.ids ≡ length vs = sym (length-map s.ids (λ id. get_or (values_in s.dictionary) id (value.Bool false))) ∙ ap length s.values in
    let column : SealedColumn = record { name = shape.name; dictionary = s.dictionary; ids = s.ids; indexed = is_among shape.name indexed } in
    let rest = columns_of indexed placed (place + 1) shapes
    (record {
      kinds = λ k other at. let next : place + suc k ≡ (place + 1) + k = omega arith in
          subst (λ n. AllByRecursion (λ v. kind_of v ≡ other.kind) (values_at n placed)) next (h.kinds (suc k) other at);
      held = h.held;
      named = h.named.1;
      few = h.few;
    }) in
    record {
      sealed = column ∷ rest.sealed;
      are = (record { name = refl; kind = s.kind; flag = refl; values = s.values ∙ sym (take_all (length placed) vs (omega (arith, size))) }, rest.are);
      short = (
        short_standing s.dictionary s.ids s.used (subst (All IsShort) (sym s.values) (All-from_recursion IsShort vs (short_types vs (h.held place)))),
        rest.short,
      );
      right = (
        record { dictionary = s.right; name = h.named.0; rows = omega (arith, counted, size, h.few); known = s.known; used = s.used },
        rest.right,
      );
    }

-- ---- a file

cell_kind : (vs : List Value) (shapes : List Shape) (k : ℕ) (shape : Shape) → map kind_of vs ≡ map (λ s. s.kind) shapes → slice_get shapes k ≡ Some shape
    → kind_of (get_or vs k (value.Bool false)) ≡ shape.kind
cell_kind vs [] k shape e at = absurd (cc)
cell_kind [] (s ∷ shapes) k shape e at = absurd (cc)
cell_kind (v ∷ vs) (s ∷ shapes) zero shape e at = cc
cell_kind (v ∷ vs) (s ∷ shapes) (suc k) shape e at =
    let rest : map kind_of vs ≡ map (λ s. s.kind) shapes = cc in cell_kind vs shapes k shape rest at

column_kinds : (shapes : List Shape) (placed : List Placed) (k : ℕ) (shape : Shape) → AllByRecursion (λ p. FitsColumns shapes p.row) placed → slice_get shapes k ≡ Some shape
    → AllByRecursion (λ v. kind_of v ≡ shape.kind) (values_at k placed)
column_kinds shapes [] k shape all at = tt
column_kinds shapes (p ∷ placed) k shape all at = (cell_kind p.row.values shapes k shape all.0 at, column_kinds shapes placed k shape all.1 at)

cell_types : (vs : List Value) (k : ℕ) → AllByRecursion IsOfTypes vs → IsOfTypes (get_or vs k (value.Bool false))
cell_types [] k all = tt
cell_types (v ∷ vs) zero all = all.0
cell_types (v ∷ vs) (suc k) all = cell_types vs k all.1

column_types : (placed : List Placed) (k : ℕ) → AllByRecursion (λ p. All IsOfTypes p.row.values) placed → AllByRecursion IsOfTypes (values_at k placed)
column_types [] k all = tt
column_types (p ∷ placed) k all = (cell_types p.row.values k (recursion_from_All IsOfTypes p.row.values all.0), column_types placed k all.1)

-- what is true of the rows that a replica seals
pub record CanSeal (settings : Settings) (p : Partition) (q : Sequence) (rows : Consuming) : Type 0 where
  pub right : AreSettings settings
  pub columns : HaveColumns settings rows
  pub past : rows.start.0 < rows.end.0
  pub room : rows.start.0 + length rows.rows ≤ rows.end.0
  pub fit : All (λ placed. FitsColumns rows.columns placed.row) rows.rows
  pub before : filter (is_before rows.end) rows.rows ≡ rows.rows
  pub types : AreOfTypes rows
  pub partition : p.0 < 2 ^ 32
  pub sequence : q.0 < 2 ^ 32
  pub end : rows.end.0 < 2 ^ 64

pub sealed_file : (settings : Settings) (p : Partition) (q : Sequence) (rows : Consuming) → CanSeal settings p q rows → (file : SealedSegment) × IsBuilt settings p q rows file
sealed_file settings p q rows h =
    let placed = rows.rows in
    let n = length placed in
    let empty : IsConsuming (empty_segment settings.schema.columns rows.start settings.indexed) =
    subst IsConsuming (empty_is settings.schema.columns rows.start settings.indexed) (empty_held settings.schema rows.start settings.indexed h.right.schema).right in
    let shapes = rows.columns in
    let few = subst (λ (ss : List Shape). (1 ≤ length ss) × (length ss ≤ 256)) (sym h.columns) empty.few in
    let named = subst (λ (ss : List Shape). All IsNamed ss) (sym h.columns) empty.named in
    let distinct = subst (λ (ss : List Shape). are_distinct (map (λ s. s.name) ss) ≡ true) (sym h.columns) empty.distinct in
    let fits = recursion_from_All (λ (p : Placed). FitsColumns shapes p.row) placed h.fit in
    let types = recursion_from_All (λ (p : Placed). All IsOfTypes p.row.values) placed h.types.values in
    let c = columns_of settings.indexed placed 0 shapes
    (record {
      kinds = λ k shape at. let here : 0 + k ≡ k = omega arith in
          subst (λ m. AllByRecursion (λ v. kind_of v ≡ shape.kind) (values_at m placed)) (sym here) (column_kinds shapes placed k shape fits at);
      held = λ k. column_types placed k types;
      named = recursion_from_All (λ (shape : Shape). IsUtf8 shape.name) shapes h.types.names;
      few = h.types.few;
    }) in
    let marks = shapes_sealed n settings.indexed placed 0 shapes c.sealed c.are in
    let count = length_sealed n settings.indexed placed 0 shapes c.sealed c.are in
    let short = All-from_recursion (λ (column : SealedColumn). AreShort column.dictionary) c.sealed c.short in (
      record {
        format = settings.format;
        partition = p;
        sequence = q;
        range = record { start = rows.start; end = rows.end };
        rows = n;
        columns = c.sealed;
      },
      record {
        whole =
            record {
              sealable =
                  record {
                    format = h.right.format;
                    range = h.past;
                    rows = (omega (arith, h.room), h.types.few);
                    few = (omega (arith, count, few.0), omega (arith, count, few.1));
                    columns = columns_fit n settings.indexed placed shapes c.sealed (omega arith) named short c.are;
                    distinct = are_new c.sealed (map (λ (shape : Shape). shape.name) shapes) (names_sealed n settings.indexed placed 0 shapes c.sealed c.are) distinct;
                  };
              columns = All-from_recursion IsColumn c.sealed c.right;
              partition = h.partition;
              sequence = h.sequence;
              end = h.end;
            };
        seals =
            record {
              format = refl;
              partition = refl;
              sequence = refl;
              range = refl;
              columns = marks;
              rows =
                  rows_sealed n settings.indexed placed shapes c.sealed (omega arith) h.fit c.are
                  ∙ ap (map (λ (p : Placed). p.row)) (take_all n placed (omega arith) ∙ sym h.before);
            };
        columns = columns_sealed settings settings.indexed rows c.sealed h.columns marks;
      },
    )

-- ---- in a safe world

-- the rows of messages fit the columns
placed_fit : (settings : Settings) (rows : Consuming) (offset : ℕ) (ms : List (List ℕ)) → HaveColumns settings rows
    → AllByRecursion (λ p. FitsColumns rows.columns p.row) (placed_from settings.schema offset ms)
placed_fit settings rows offset [] have = tt
placed_fit settings rows offset (m ∷ ms) have = by (row_of settings.schema m) (row_of_kinds settings.schema m) (placed_fit settings rows (offset + 1) ms have)
  where
    by : (o : Option Row) → IfSome o (IsRowOf settings.schema) → AllByRecursion (λ p. FitsColumns rows.columns p.row) (placed_from settings.schema (offset + 1) ms)
        → AllByRecursion (λ p. FitsColumns rows.columns p.row) (placed_row offset o ++ placed_from settings.schema (offset + 1) ms)
    by None of rest = rest
    by (Some row) of rest = (row_fits settings rows row have of, rest)

phase_sealed : (w : State) (r : Consumer) (ph : Phase) → IsSafeWorld w → AreSettings r.settings → r.partition.0 < w.setup.partitions
    → IsPhase r.settings r.partition r.sequence r.start ph → HoldsIn r.settings.schema (messages_of w.log r.partition) r.start ph
    → builds_in ph ≡ true → r.sequence.0 < 2 ^ 32 → HoldsTypes ph → (file : SealedSegment) × IsSealedOf r ph file
phase_sealed w r (phase.Unsealed o) s right within is held builds number types =
    let rows = o.rows in
    let ms = messages_of w.log r.partition in
    let range = messages_between ms r.start.0 rows.end.0 in
    let reach : r.start.0 + length range ≤ rows.end.0 =
    omega (arith, held.ordered, length-take (rows.end.0 - r.start.0) (drop r.start.0 ms), length-drop r.start.0 ms) in
    sealed_file r.settings r.partition r.sequence rows
    (record {
      right = right;
      columns = is.0.columns;
      past = built_past r.settings r.partition r.sequence rows o.stage builds is.1;
      room = is.0.few;
      fit = subst (All (λ p. FitsColumns rows.columns p.row)) (sym held.all)
          (All-from_recursion (λ p. FitsColumns rows.columns p.row) (placed_from r.settings.schema r.start.0 range) (placed_fit r.settings rows r.start.0 range is.0.columns));
      before = subst (λ ps. filter (is_before rows.end) ps ≡ ps) (sym held.all) (all_before rows.end r.settings.schema r.start.0 range reach);
      types = types;
      partition = omega (arith, within, s.safe.setup.few_partitions);
      sequence = number;
      end = omega (arith, held.within, few_at w r.partition s);
    })
phase_sealed w r (phase.Retained kept) s right within is held builds number types = absurd (cc)
phase_sealed w r (phase.Committed kept) s right within is held builds number types = absurd (cc)
phase_sealed w r (phase.Discarded d) s right within is held builds number types = absurd (cc)

-- a replica that is to seal its rows has a file of them
pub seals_can : (w : State) (i : ℕ) (n : ServerNode) (p : Partition) (q : Sequence) (r : Consumer) → IsSafeWorld w → slice_get w.servers i ≡ Some n
    → replica_of n.server.table p q ≡ Some r → builds_in r.phase ≡ true → (r.sequence.0 < 2 ^ 32) × HoldsTypes r.phase → (file : SealedSegment) × IsSealedOf r r.phase file
seals_can w i n p q r s stands found builds typed =
    let k = replica_held w.setup (past_of w) n.server (s.safe.servers i n stands).over p q r found in
    phase_sealed w r r.phase s k.1.settings k.2.partition k.1.phase k.2.held builds typed.0 typed.1
