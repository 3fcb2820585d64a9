-- Tables of holders that were picked.
use Rattle.std.proofs.Common.{◌≡◌, ℕ, suc, ◌<◌, ◌≤◌, Bool, List, [], ◌∷◌, length, map, Some, None, refl, sym, ap, ◌∙◌, subst, inl, inr, arith, slice_get, All}
use Rattle.std.specs.Prelude.{option_map}
use Rattle.std.specs.List.{AllByRecursion, Contains}
use Rattle.std.proofs.lemmas.List.Elements.{All-contains, All-from_recursion}
use Rattle.std.proofs.lemmas.Option.{slice_get-get_or, slice_get-map, slice_get_within}
use Rattle.rt_lists.proofs.Lists.{contains_found}
use Rattle.rt_schema.specs.declared.value.Value.{Value}
use Rattle.rt_model.specs.declared.query_parts.ColumnAt.{ColumnAt}
use Rattle.rt_agg.specs.Accumulator.{Accumulator, Count, Sum, Min, Max}
use Rattle.rt_agg.specs.GroupTable.{entries_from}
use Rattle.rt_agg.specs.Picking.{AreTold, IsAmong, IsPicked, IsTold, PicksGroups, kept, picked_in}
use Rattle.rt_agg.specs.ResultHolder.{HasStarted, held_of, item_of, no_rows}
use Rattle.rt_agg.specs.Sharing.{IsIdle, idle, spread}
use Rattle.rt_agg.specs.declared.result_holder.ResultHolder.{ResultHolder}
use Rattle.rt_agg.specs.declared.result_holder.ResultHolder.TheVariants.{Key, Counts, Sums, Least, Greatest}
use Rattle.rt_agg.proofs.Entries.{entries_long, known_by}
use Rattle.rt_agg.proofs.Kept.{get_kept, kept_at, kept_long, place_of}
use Rattle.rt_agg.proofs.Tabling.{known_at_entry, table_of}

-- what is true of all that are held is true of all that are shown
pub spread_all : (P : ResultHolder → Type 0) (held : List ResultHolder) (places : List ℕ) → All (λ p. p < length held) places → AllByRecursion P held → AllByRecursion P (spread places held)
spread_all P held [] within all = tt
spread_all P held (p ∷ places) within all = (
  All-from_recursion P held all p idle (within 0 p (omega arith)),
  spread_all P held places (λ i d lt. within (suc i) d (omega (arith, lt))) all,
)

module _ (os : List ResultHolder) (marks : List Bool) where
  -- ---- groups that were started

  module _ (oks : List (List Value)) where
    idle_started : (h : ResultHolder) → IsIdle (item_of h) → HasStarted (length (kept marks oks)) h
    idle_started (Key column) still = tt
    idle_started (Counts counts) still = absurd still
    idle_started (Sums column totals) still = absurd still
    idle_started (Least column scalars) still = absurd still
    idle_started (Greatest column scalars) still = absurd still

    picked_started : (o : ResultHolder) → HasStarted (length oks) o → HasStarted (length (kept marks oks)) (picked_in marks o)
    picked_started (Key column) s = tt
    picked_started (Counts counts) s = kept_long marks oks counts s
    picked_started (Sums column totals) s = kept_long marks oks totals s
    picked_started (Least column scalars) s = kept_long marks oks scalars s
    picked_started (Greatest column scalars) s = kept_long marks oks scalars s

    one_started : (h : ResultHolder) → AllByRecursion (HasStarted (length oks)) os → IsPicked os marks h → HasStarted (length (kept marks oks)) h
    one_started h s (inl still) = idle_started h still
    one_started h s (inr picked) =
        subst (HasStarted (length (kept marks oks))) (sym picked.2)
        (picked_started picked.0 (All-contains (HasStarted (length oks)) os picked.0 (All-from_recursion (HasStarted (length oks)) os s) picked.1))

    pub all_started : (hs : List ResultHolder) → AllByRecursion (HasStarted (length oks)) os → AllByRecursion (IsPicked os marks) hs → AllByRecursion (HasStarted (length (kept marks oks))) hs
    all_started [] s picked = tt
    all_started (h ∷ hs) s picked = (one_started h s picked.0, all_started hs s picked.1)

  -- ---- items

  abbrev found : (o : ResultHolder) (there : Contains os o) → slice_get os there.0 ≡ Some o
  found o there = slice_get-get_or os there.0 o there.1 ∙ ap Some there.2

  item_found : (o : ResultHolder) (there : Contains os o) → slice_get (map item_of os) there.0 ≡ Some (item_of o)
  item_found o there = slice_get-map item_of os there.0 ∙ ap (option_map item_of) (found o there)

  item_there : (o : ResultHolder) → Contains os o → Contains (map item_of os) (item_of o)
  item_there o there = contains_found (map item_of os) there.0 (item_of o) (item_found o there)

  idle_among : (h : ResultHolder) → IsIdle (item_of h) → IsAmong (map item_of os) (item_of h)
  idle_among (Key column) still = tt
  idle_among (Counts counts) still = absurd still
  idle_among (Sums column totals) still = absurd still
  idle_among (Least column scalars) still = absurd still
  idle_among (Greatest column scalars) still = absurd still

  picked_among : (o : ResultHolder) → Contains os o → IsAmong (map item_of os) (item_of (picked_in marks o))
  picked_among (Key column) there = tt
  picked_among (Counts counts) there = item_there (Counts counts) there
  picked_among (Sums column totals) there = item_there (Sums column totals) there
  picked_among (Least column scalars) there = item_there (Least column scalars) there
  picked_among (Greatest column scalars) there = item_there (Greatest column scalars) there

  one_among : (h : ResultHolder) → IsPicked os marks h → IsAmong (map item_of os) (item_of h)
  one_among h (inl still) = idle_among h still
  one_among h (inr picked) = subst (λ (g : ResultHolder). IsAmong (map item_of os) (item_of g)) (sym picked.2) (picked_among picked.0 picked.1)

  pub all_among : (hs : List ResultHolder) → AllByRecursion (IsPicked os marks) hs → AllByRecursion (IsAmong (map item_of os)) (map item_of hs)
  all_among [] picked = tt
  all_among (h ∷ hs) picked = (one_among h picked.0, all_among hs picked.1)

  -- ---- what is known of a group

  module _ (oks : List (List Value)) (started : AllByRecursion (HasStarted (length oks)) os) (others columns : List ColumnAt) (k key : List Value) (i : ℕ) (lt : i < length (kept marks oks)) where
    abbrev n : ℕ
    n = place_of marks i

    abbrev Told : ResultHolder → Type 0
    Told h = IsTold columns key (map item_of os) (map (held_of others k n) os) (item_of h) (held_of columns key i h)

    idle_told : (h : ResultHolder) → IsIdle (item_of h) → Told h
    idle_told (Key column) still = refl
    idle_told (Counts counts) still = absurd still
    idle_told (Sums column totals) still = absurd still
    idle_told (Least column scalars) still = absurd still
    idle_told (Greatest column scalars) still = absurd still

    known_found : (o : ResultHolder) (there : Contains os o) → slice_get (map (held_of others k n) os) there.0 ≡ Some (held_of others k n o)
    known_found o there = slice_get-map (held_of others k n) os there.0 ∙ ap (option_map (held_of others k n)) (found o there)

    within : {X : Type 0} (xs : List X) → length oks ≤ length xs → i < length (kept marks xs)
    within xs le = omega (arith, lt, kept_long marks oks xs le)

    picked_told : (o : ResultHolder) → Contains os o → HasStarted (length oks) o → Told (picked_in marks o)
    picked_told (Key column) there s = refl
    picked_told (Counts counts) there s = (
      there.0,
      item_found (Counts counts) there,
      known_found (Counts counts) there ∙ ap (λ x. Some (Count x)) (get_kept marks counts i 0 (within counts s)),
    )
    picked_told (Sums column totals) there s = (
      there.0,
      item_found (Sums column totals) there,
      known_found (Sums column totals) there ∙ ap (λ x. Some (Sum column.place x)) (get_kept marks totals i no_rows (within totals s)),
    )
    picked_told (Least column scalars) there s = (
      there.0,
      item_found (Least column scalars) there,
      known_found (Least column scalars) there ∙ ap (λ x. Some (Min column.place x)) (get_kept marks scalars i None (within scalars s)),
    )
    picked_told (Greatest column scalars) there s = (
      there.0,
      item_found (Greatest column scalars) there,
      known_found (Greatest column scalars) there ∙ ap (λ x. Some (Max column.place x)) (get_kept marks scalars i None (within scalars s)),
    )

    one_told : (h : ResultHolder) → IsPicked os marks h → Told h
    one_told h (inl still) = idle_told h still
    one_told h (inr picked) =
        subst Told (sym picked.2)
        (picked_told picked.0 picked.1 (All-contains (HasStarted (length oks)) os picked.0 (All-from_recursion (HasStarted (length oks)) os started) picked.1))

    all_told : (hs : List ResultHolder) → AllByRecursion (IsPicked os marks) hs → AreTold columns key (map item_of os) (map (held_of others k n) os) (map item_of hs) (map (held_of columns key i) hs)
    all_told [] picked = tt
    all_told (h ∷ hs) picked = (one_told h picked.0, all_told hs picked.1)

  -- each group of a table is told by the marked one of the other
  pub picks_groups : (others columns : List ColumnAt) (hs : List ResultHolder) (oks ks : List (List Value)) → AllByRecursion (HasStarted (length oks)) os → AllByRecursion (IsPicked os marks) hs
      → PicksGroups marks (table_of others os oks) (table_of columns hs ks)
  picks_groups others columns hs oks ks started picked i key wanted k known at there =
      let es = entries_from others os 0 oks in
      let inside : i < length (kept marks oks) =
      omega (arith, slice_get_within (kept marks es) i (k, known) there, kept_long marks es oks (omega (arith, entries_long others os 0 oks))) in
      let before = known_at_entry others os oks (place_of marks i) k known (kept_at marks es i (k, known) there) in
      let here = known_at_entry columns hs ks i key wanted at in
      subst (AreTold columns key (map item_of os) known (map item_of hs)) here
      (subst (λ (v : List Accumulator). AreTold columns key (map item_of os) v (map item_of hs) (known_by columns hs i key)) before
      (all_told oks started others columns k key i inside hs picked))
