-- A row added: the index stays right, and the rows are the stated ones.
use Rattle.std.proofs.Common.{◌≡◌, ◌<◌, ℕ, Bool, true, false, cond, not, List, [], ◌∷◌, ◌++◌, map, Option, Some, None, true≢false, refl, sym, ap, ◌∙◌, slice_get}
use Rattle.std.specs.Prelude.{is_some}
use Rattle.std.specs.List.{IsDistinct, list_any}
use Rattle.std.specs.Map.{lookup}
use Rattle.std.specs.BTreeMap.{get, insert_entry, is_at}
use Rattle.std.specs.BTreeSet.{BTreeSet, contains}
use Rattle.std.specs.Ordering.{is_eq}
use Rattle.std.proofs.lemmas.Bool.{not-true, not-false}
use Rattle.rt_schema.specs.declared.column.Kind.{Kind}
use Rattle.rt_schema.specs.declared.row.Row.{Row}
use Rattle.rt_schema.specs.declared.value.Value.{Value}
use Rattle.rt_schema.specs.Value.{kind_of}
use Rattle.rt_upsert.specs.declared.held.Held.{Held}
use Rattle.rt_upsert.specs.declared.place.Place.{Place}
use Rattle.rt_upsert.specs.declared.rank.Rank.{Rank}
use Rattle.rt_upsert.specs.declared.ranked_rows.RankedRows.{RankedRows}
use Rattle.rt_upsert.specs.Index.{rank_cmp, IsIndexed}
use Rattle.rt_upsert.specs.Latest.{key_of, compare_of, same_key}
use Rattle.rt_upsert.specs.Placed.{PlacedRows, place_cmp, is_held, with_row}
use Rattle.rt_upsert.specs.Ranked.{Puts, TakesBack}
use Rattle.rt_upsert.proofs.Changing.{Entries, shown, held_is, shown_put}
use Rattle.rt_upsert.proofs.Indexing.{put, numbered}
use Rattle.rt_upsert.proofs.Orders.{rank_same}

none_is : {X : Type 0} (o : Option X) → is_some o ≡ false → o ≡ None
none_is None e = refl
none_is (Some x) e = absurd (true≢false e)

pub added : (kinds : List Kind) (keys : List ℕ) (compare : ℕ) (numbers more : List (List Value)) (old new : RankedRows) (rank : Rank) (row copy : Row) (key : List Value)
    → IsIndexed kinds keys compare numbers old.rows old.ranks
    → more ≡ cond (list_any (same_key key) numbers) numbers (numbers ++ key ∷ [])
    → IsDistinct same_key more
    → (k : List Value) × (slice_get more rank.key ≡ Some k) × (same_key key k ≡ true)
    → is_some (get place_cmp old.rows rank.place) ≡ false
    → copy ≡ row → key ≡ key_of keys row → rank.compare ≡ compare_of compare row
    → map kind_of row.values ≡ kinds → rank.place.row < 4294967295
    → Puts old new rank copy
    → IsIndexed kinds keys compare more new.rows new.ranks
added kinds keys compare numbers more old new rank row copy key k is apart stored free same at value of small p =
    put kinds keys compare more old new (numbered kinds keys compare numbers more key old.rows old.ranks k is apart) rank copy p (none_is (get place_cmp old.rows rank.place) free)
    (record {
      kinds = ap (λ (r : Row). map kind_of r.values) same ∙ of;
      row = small;
      number = stored.0;
      stands = stored.1;
      key = ap (λ (l : List Value). same_key l stored.0) (ap (key_of keys) same ∙ sym at) ∙ stored.2;
    })
    (value ∙ ap (compare_of compare) (sym same))

-- a rank that was put in and taken back leaves what was there
pub put_back : (old mid new : BTreeSet Rank) (rank : Rank) (is_new : Bool) → is_new ≡ not (contains rank_cmp old rank)
    → ((r : Rank) → contains rank_cmp mid r ≡ cond (is_eq (rank_cmp rank r)) true (contains rank_cmp old r))
    → TakesBack mid new rank is_new → (r : Rank) → contains rank_cmp new r ≡ contains rank_cmp old r
put_back old mid new rank is_new is put back r = by is_new is back (is_eq (rank_cmp rank r)) refl
  where
    here : is_eq (rank_cmp rank r) ≡ true → contains rank_cmp old rank ≡ contains rank_cmp old r
    here tie = ap (contains rank_cmp old) (rank_same rank r tie)

    by : (b : Bool) → b ≡ not (contains rank_cmp old rank) → TakesBack mid new rank b → (c : Bool) → is_eq (rank_cmp rank r) ≡ c → contains rank_cmp new r ≡ contains rank_cmp old r
    by true e k true tie = k r ∙ ap (λ d. cond d false (contains rank_cmp mid r)) tie ∙ sym (not-true (contains rank_cmp old rank) (sym e)) ∙ here tie
    by true e k false tie = k r ∙ ap (λ d. cond d false (contains rank_cmp mid r)) tie ∙ put r ∙ ap (λ d. cond d true (contains rank_cmp old r)) tie
    by false e k true tie = k r ∙ put r ∙ ap (λ d. cond d true (contains rank_cmp old r)) tie ∙ sym (not-false (contains rank_cmp old rank) (sym e)) ∙ here tie
    by false e k false tie = k r ∙ put r ∙ ap (λ d. cond d true (contains rank_cmp old r)) tie

module _ (kinds : List Kind) (keys : List ℕ) (compare : ℕ) (old : PlacedRows) (es : Entries) (is : shown kinds keys compare es ≡ old) (place : Place) where
  pub holds_is : (b : Bool) → b ≡ is_some (lookup (is_at (place_cmp place)) es) → b ≡ is_held place old.rows
  holds_is b e = e ∙ sym (held_is place es) ∙ ap (λ (h : PlacedRows). is_held place h.rows) is

  pub free_of : is_held place old.rows ≡ false → is_some (lookup (is_at (place_cmp place)) es) ≡ false
  free_of e = sym (held_is place es) ∙ ap (λ (h : PlacedRows). is_held place h.rows) is ∙ e

  pub shown_more : (fs : Entries) (held : Held) (row : Row) → fs ≡ insert_entry place_cmp es place held → held.row ≡ row → shown kinds keys compare fs ≡ with_row old place row
  shown_more fs held row put_in same = shown_put kinds keys compare es fs place held put_in ∙ (λ i. with_row (is i) place (same i))
