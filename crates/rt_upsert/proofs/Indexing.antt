-- The ranks stay those of the held rows when a row is put in or taken out, or a key gets its number.
use Rattle.std.proofs.Common.{◌≡◌, ℕ, Bool, true, false, cond, List, [], ◌∷◌, ◌++◌, Option, Some, None, IfSome, refl, sym, ap, ◌∙◌, subst, slice_get}
use Rattle.std.specs.List.{IsDistinct, list_any}
use Rattle.std.specs.Ordering.{is_eq}
use Rattle.std.specs.BTreeMap.{BTreeMap, get, is_at}
use Rattle.std.specs.List.Sorted.{IsStrictlySortedBy}
use Rattle.std.specs.Map.{lookup, keys_of}
use Rattle.std.specs.BTreeSet.{BTreeSet, contains}
use Rattle.rt_lists.proofs.Members.{slice_get-append}
use Rattle.rt_schema.specs.declared.column.Kind.{Kind}
use Rattle.rt_schema.specs.declared.row.Row.{Row}
use Rattle.rt_schema.specs.declared.value.Value.{Value}
use Rattle.rt_upsert.specs.declared.held.Held.{Held}
use Rattle.rt_upsert.specs.declared.place.Place.{Place}
use Rattle.rt_upsert.specs.declared.rank.Rank.{Rank}
use Rattle.rt_upsert.specs.declared.ranked_rows.RankedRows.{RankedRows}
use Rattle.rt_upsert.specs.Index.{rank_cmp, rank_of, is_rank_of, IsHeld, IsIndexed}
use Rattle.rt_upsert.specs.Latest.{compare_of, same_key}
use Rattle.rt_upsert.specs.Placed.{place_cmp}
use Rattle.rt_upsert.specs.Ranked.{IsBlank, IsSame, Puts, Takes, Unranks, held_as}
use Rattle.rt_upsert.proofs.Orders.{place_same, ranks_apart}

abbrev Entries : Type 0
Entries = List (Place × Held)

module _ (kinds : List Kind) (keys : List ℕ) (compare : ℕ) (numbers : List (List Value)) where
  pub blank : (r : RankedRows) → IsDistinct same_key numbers → IsBlank r → IsIndexed kinds keys compare numbers r.rows r.ranks
  blank r apart h =
      record {
        ordered = h.1;
        apart = apart;
        held = λ place. subst (λ o. IfSome o (IsHeld kinds keys numbers place)) (sym (h.2 place)) tt;
        ranked = λ rank. h.3 rank ∙ ap (λ o. is_rank_of compare o rank) (sym (h.2 rank.place));
      }

  pub same : (old new : RankedRows) → IsIndexed kinds keys compare numbers old.rows old.ranks → IsSame old new → IsIndexed kinds keys compare numbers new.rows new.ranks
  same old new k s =
      record {
        ordered = subst (λ (es : Entries). IsStrictlySortedBy place_cmp (keys_of es)) (sym s.rows) k.ordered;
        apart = k.apart;
        held = λ place. subst (λ (es : Entries). IfSome (lookup (is_at (place_cmp place)) es) (IsHeld kinds keys numbers place)) (sym s.rows) (k.held place);
        ranked = λ rank. s.ranks rank ∙ k.ranked rank ∙ ap (λ (es : Entries). is_rank_of compare (lookup (is_at (place_cmp rank.place)) es) rank) (sym s.rows);
      }

  module _ (old new : RankedRows) (k : IsIndexed kinds keys compare numbers old.rows old.ranks) where
    module _ (rank : Rank) (row : Row) (p : Puts old new rank row) (none : get place_cmp old.rows rank.place ≡ None) (right : IsHeld kinds keys numbers rank.place (held_as rank row))
        (value : rank.compare ≡ compare_of compare row) where
      put_held : (place : Place) (b : Bool) → is_eq (place_cmp rank.place place) ≡ b → IfSome (cond b (Some (held_as rank row)) (get place_cmp old.rows place)) (IsHeld kinds keys numbers place)
      put_held place true e = subst (λ q. IsHeld kinds keys numbers q (held_as rank row)) (place_same rank.place place e) right
      put_held place false e = k.held place

      own_rank : (r : Rank) → rank.place ≡ r.place → rank_of compare r.place (held_as rank row) ≡ rank
      own_rank r e = λ i. record { key = rank.key; compare = sym value i; place = sym e i }

      put_ranked : (r : Rank) (b : Bool) → is_eq (place_cmp rank.place r.place) ≡ b
          → cond (is_eq (rank_cmp rank r)) true (contains rank_cmp old.ranks r) ≡ is_rank_of compare (cond b (Some (held_as rank row)) (get place_cmp old.rows r.place)) r
      put_ranked r true e =
          let here : rank.place ≡ r.place = place_same rank.place r.place e in
          let absent : contains rank_cmp old.ranks r ≡ false = k.ranked r ∙ ap (λ o. is_rank_of compare o r) (ap (get place_cmp old.rows) (sym here) ∙ none) in
          ap (cond (is_eq (rank_cmp rank r)) true) absent ∙ plain (is_eq (rank_cmp rank r)) ∙ ap (λ q. is_eq (rank_cmp q r)) (sym (own_rank r here))
        where
          plain : (b : Bool) → cond b true false ≡ b
          plain true = refl
          plain false = refl
      put_ranked r false e = ap (λ b. cond b true (contains rank_cmp old.ranks r)) (ranks_apart rank r e) ∙ k.ranked r

      pub put : IsIndexed kinds keys compare numbers new.rows new.ranks
      put =
          record {
            ordered = p.ordered;
            apart = k.apart;
            held = λ place. subst (λ o. IfSome o (IsHeld kinds keys numbers place)) (sym (p.found place)) (put_held place (is_eq (place_cmp rank.place place)) refl);
            ranked = λ r. p.ranks r ∙ put_ranked r (is_eq (place_cmp rank.place r.place)) refl ∙ ap (λ o. is_rank_of compare o r) (sym (p.found r.place));
          }

    module _ (place : Place) (t : Takes old new compare place) where
      take_held : (q : Place) (b : Bool) → IfSome (cond b None (get place_cmp old.rows q)) (IsHeld kinds keys numbers q)
      take_held q true = tt
      take_held q false = k.held q

      gone : (r : Rank) (b : Bool) (held : Held) → is_eq (place_cmp place r.place) ≡ b → get place_cmp old.rows place ≡ Some held
          → cond (is_eq (rank_cmp (rank_of compare place held) r)) false (contains rank_cmp old.ranks r) ≡ is_rank_of compare (cond b None (get place_cmp old.rows r.place)) r
      gone r true held e at =
          let here : place ≡ r.place = place_same place r.place e in
          ap (cond (is_eq (rank_cmp (rank_of compare place held) r)) false)
          (k.ranked r ∙ ap (λ q. is_rank_of compare (get place_cmp old.rows q) r) (sym here) ∙ ap (λ o. is_rank_of compare o r) at
          ∙ ap (λ q. is_eq (rank_cmp (rank_of compare q held) r)) (sym here))
          ∙ none_left (is_eq (rank_cmp (rank_of compare place held) r))
        where
          none_left : (c : Bool) → cond c false c ≡ false
          none_left true = refl
          none_left false = refl
      gone r false held e at = ap (λ b. cond b false (contains rank_cmp old.ranks r)) (ranks_apart (rank_of compare place held) r e) ∙ k.ranked r

      not_there : (r : Rank) (b : Bool) → is_eq (place_cmp place r.place) ≡ b → get place_cmp old.rows place ≡ None
          → contains rank_cmp old.ranks r ≡ is_rank_of compare (cond b None (get place_cmp old.rows r.place)) r
      not_there r true e at = k.ranked r ∙ ap (λ o. is_rank_of compare o r) (ap (get place_cmp old.rows) (sym (place_same place r.place e)) ∙ at)
      not_there r false e at = k.ranked r

      take_ranked : (r : Rank) (o : Option Held) → get place_cmp old.rows place ≡ o → Unranks old.ranks new.ranks compare place o
          → contains rank_cmp new.ranks r ≡ is_rank_of compare (cond (is_eq (place_cmp place r.place)) None (get place_cmp old.rows r.place)) r
      take_ranked r None at u = u r ∙ not_there r (is_eq (place_cmp place r.place)) refl at
      take_ranked r (Some held) at u = u r ∙ gone r (is_eq (place_cmp place r.place)) held refl at

      pub take : IsIndexed kinds keys compare numbers new.rows new.ranks
      take =
          record {
            ordered = t.ordered;
            apart = k.apart;
            held = λ q. subst (λ o. IfSome o (IsHeld kinds keys numbers q)) (sym (t.found q)) (take_held q (is_eq (place_cmp place q)));
            ranked = λ r. take_ranked r (get place_cmp old.rows place) refl t.ranks ∙ ap (λ o. is_rank_of compare o r) (sym (t.found r.place));
          }

-- ---- a key gets its number

stays_at : (numbers : List (List Value)) (key : List Value) (i : ℕ) (k : List Value) (b : Bool) → slice_get numbers i ≡ Some k → slice_get (cond b numbers (numbers ++ key ∷ [])) i ≡ Some k
stays_at numbers key i k true e = e
stays_at numbers key i k false e = slice_get-append numbers (key ∷ []) i k e

pub numbered : (kinds : List Kind) (keys : List ℕ) (compare : ℕ) (numbers more : List (List Value)) (key : List Value) (rows : BTreeMap Place Held) (ranks : BTreeSet Rank)
    → IsIndexed kinds keys compare numbers rows ranks → more ≡ cond (list_any (same_key key) numbers) numbers (numbers ++ key ∷ []) → IsDistinct same_key more
    → IsIndexed kinds keys compare more rows ranks
numbered kinds keys compare numbers more key rows ranks k is apart =
    record { ordered = k.ordered; apart = apart; held = λ place. kept place (get place_cmp rows place) (k.held place); ranked = k.ranked }
  where
    kept : (place : Place) (o : Option Held) → IfSome o (IsHeld kinds keys numbers place) → IfSome o (IsHeld kinds keys more place)
    kept place None h = tt
    kept place (Some held) h =
        record {
          kinds = h.kinds;
          row = h.row;
          number = h.number;
          stands = ap (λ ns. slice_get ns held.key) is ∙ stays_at numbers key held.key h.number (list_any (same_key key) numbers) h.stands;
          key = h.key;
        }
