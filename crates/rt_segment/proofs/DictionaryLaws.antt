-- A dictionary that is read is spelled so, and what is spelled so is read.
use Rattle.std.proofs.Common.{◌≡◌, ℕ, zero, suc, ◌-◌, ◌^◌, ◌<◌, ◌≤◌, Bool, true, false, cond, List, [], ◌∷◌, ◌++◌, length, slice_get, Option, Some, None, Ok, refl, sym, ap, subst, ◌∙◌, append_assoc, arith}
use Rattle.std.specs.Prelude.{not, ◌&&◌, int_lt, FitsSigned}
use Rattle.std.specs.Int.{w32, w64}
use Rattle.std.specs.List.{All, AllByRecursion, flat_map}
use Rattle.std.specs.Str.{IsUtf8}
use Rattle.std.proofs.lemmas.Bool.{false≢true}
use Rattle.std.proofs.lemmas.List.{length-append, append-nil}
use Rattle.std.proofs.lemmas.List.Elements.{All-from_recursion, recursion_from_All, All-weaker}
use Rattle.std.proofs.lemmas.Option.{slice_get_within, get_or_from_slice_get}
use Rattle.rt_dict.specs.Order.{IsStrictOrder, bool_below, text_below, int_order, bool_order, text_order}
use Rattle.rt_dict.specs.Values.{IsAscending, is_past}
use Rattle.rt_schema.specs.declared.column.Kind.{Kind}
use Rattle.rt_schema.specs.declared.column.Kind.TheVariants as kinds
use Rattle.rt_segment.specs.declared.dictionary.Dictionary.{Dictionary}
use Rattle.rt_segment.specs.declared.dictionary.Dictionary.TheVariants.{Int, Long, Text, Bool as Truth, Time}
use Rattle.rt_segment.specs.declared.segment_refused.SegmentRefused.TheVariants.{NotCanonical}
use Rattle.rt_segment.specs.Cursor.{Cursor, Read, ◌>>=◌, breach}
use Rattle.rt_segment.specs.Column.{IsDictionary, AreShort, count_in, kind_in}
use Rattle.rt_segment.specs.Reading.{values_at, again_at, extremes_at, dictionary_of, dictionary_at, int_at, long_at, bool_at, text_at}
use Rattle.rt_segment.specs.Spelling.{spelled_if, extremes_spelled, values_spelled, dictionary_bytes, int_bytes, long_bytes, bool_bytes, text_bytes}
use Rattle.rt_segment.proofs.Fields.{IsBytes, bind_ok, test_ok, done, ok_is, Takes, takes_then, takes_none, Reads, IsField, IsText, bool_field, int_field, long_field, text_field}

module _ {K : Type 0} {below : K → K → Bool} (order : IsStrictOrder below) where
  -- each value is past the one before
  abbrev pub Rise : Option K → List K → Type 0
  Rise last [] = Unit {0}
  Rise last (v ∷ vs) = (is_past below last v ≡ true) × Rise (Some v) vs

  rise_above : (x : K) (vs : List K) → Rise (Some x) vs → AllByRecursion (λ v. below x v ≡ true) vs
  rise_above x [] up = tt
  rise_above x (v ∷ vs) up = (up.0, chain vs (rise_above v vs up.1))
    where
      chain : (ws : List K) → AllByRecursion (λ w. below v w ≡ true) ws → AllByRecursion (λ w. below x w ≡ true) ws
      chain [] all = tt
      chain (w ∷ ws) all = (order.transitive x v w up.0 all.0, chain ws all.1)

  ascending_cons : (x : K) (vs : List K) → All (λ v. below x v ≡ true) vs → IsAscending below vs → IsAscending below (x ∷ vs)
  ascending_cons x vs first up zero zero d lt in_range = absurd (omega arith)
  ascending_cons x vs first up zero (suc j) d lt in_range = first j d (omega (arith, in_range))
  ascending_cons x vs first up (suc i) zero d lt in_range = absurd (omega arith)
  ascending_cons x vs first up (suc i) (suc j) d lt in_range = up i j d (omega arith) (omega (arith, in_range))

  pub ascends : (last : Option K) (vs : List K) → Rise last vs → IsAscending below vs
  ascends last [] up = λ i j d lt in_range. absurd (omega (arith, in_range))
  ascends last (v ∷ vs) up = ascending_cons v vs (All-from_recursion (λ w. below v w ≡ true) vs (rise_above v vs up.1)) (ascends (Some v) vs up.1)

  pub rises : (last : Option K) (vs : List K) → IsAscending below vs → ((v : K) → slice_get vs 0 ≡ Some v → is_past below last v ≡ true) → Rise last vs
  rises last [] up first = tt
  rises last (v ∷ vs) up first = (
    first v refl,
    rises (Some v) vs (λ i j d lt in_range. up (suc i) (suc j) d (omega arith) (omega (arith, in_range))) (λ w at.
        let there = slice_get_within vs 0 w at in
        subst (λ z. below v z ≡ true) (get_or_from_slice_get vs 0 w w at) (up 0 1 w (omega arith) (omega (arith, there)))),
  )

  module _ (at : Cursor → Read K) (text : K → List ℕ) (fits : K → Type 0) (field : IsField at text fits) where
    values_take : (n : ℕ) (last : Option K) (c : Cursor) (vs : List K) (d : Cursor) → IsBytes c.left → values_at below at n last c ≡ Ok (vs, d) → Takes c (flat_map text vs) d × (length vs ≡ n) × AllByRecursion fits vs × Rise last vs
    unfolding values_at
    values_take zero last c vs d bytes e =
        subst (λ (y : List K × Cursor). Takes c (flat_map text y.0) y.1 × (length y.0 ≡ 0) × AllByRecursion fits y.0 × Rise last y.0) (ok_is ([], c) (vs, d) e) (takes_none c bytes, refl, tt, tt)
    values_take (suc n) last c vs d bytes e =
        let v = bind_ok (at c) (λ v. cond (is_past below last v.0) (values_at below at n (Some v.0) v.1 >>= λ vs. Ok (v.0 ∷ vs.0, vs.1)) (breach c)) (vs, d) e in
        let t = field.takes c v.0.0 v.0.1 bytes v.1 in
        let g = test_ok (is_past below last v.0.0) (NotCanonical c.place) (values_at below at n (Some v.0.0) v.0.1 >>= λ vs. Ok (v.0.0 ∷ vs.0, vs.1)) (vs, d) v.2 in
        let r = bind_ok (values_at below at n (Some v.0.0) v.0.1) (λ vs. Ok (v.0.0 ∷ vs.0, vs.1)) (vs, d) g.1 in
        let s = values_take n (Some v.0.0) v.0.1 r.0.0 r.0.1 t.0.rest r.1 in
        let both = takes_then c (text v.0.0) v.0.1 (flat_map text r.0.0) r.0.1 t.0 s.0 in
        let made : List K × Cursor = (v.0.0 ∷ r.0.0, r.0.1) in
        subst (λ (y : List K × Cursor). Takes c (flat_map text y.0) y.1 × (length y.0 ≡ suc n) × AllByRecursion fits y.0 × Rise last y.0) (ok_is made (vs, d) r.2)
        (both, ap suc s.1, (t.1, s.2), (g.0, s.3))

    values_again : (vs : List K) (last : Option K) (c : Cursor) (rest : List ℕ) → AllByRecursion fits vs → Rise last vs → c.left ≡ flat_map text vs ++ rest → Reads c (flat_map text vs) rest (values_at below at (length vs) last c) vs
    unfolding values_at
    values_again [] last c rest all up e = record { end = c; is = refl; left = e; place = omega arith }
    values_again (v ∷ vs) last c rest all up e =
        let r = field.again c v (flat_map text vs ++ rest) all.0 (e ∙ append_assoc (text v) (flat_map text vs) rest) in
        let s = values_again vs (Some v) r.end rest all.1 up.1 r.left in
        record {
          end = s.end;
          is = ap (λ z. z >>= λ w. cond (is_past below last w.0) (values_at below at (length vs) (Some w.0) w.1 >>= λ ws. Ok (w.0 ∷ ws.0, ws.1)) (breach c)) r.is
              ∙ ap (λ b. cond b (values_at below at (length vs) (Some v) r.end >>= λ ws. Ok (v ∷ ws.0, ws.1)) (breach c)) up.0
              ∙ ap (λ z. z >>= λ ws. Ok (v ∷ ws.0, ws.1)) s.is;
          left = s.left;
          place = omega (arith, r.place, s.place, length-append (text v) (flat_map text vs));
        }

    both_false : (a b : Bool) → (not a && not b) ≡ true → (a ≡ false) × (b ≡ false)
    both_false false false e = (refl, refl)
    both_false false true e = absurd (false≢true e)
    both_false true b e = absurd (false≢true e)

    again_takes : (o : Option K) (c d : Cursor) → IsBytes c.left → again_at below at o c ≡ Ok (tt, d) → Takes c (spelled_if text o) d
    unfolding again_at
    again_takes None c d bytes e = subst (λ (y : Unit {0} × Cursor). Takes c [] y.1) (ok_is (tt, c) (tt, d) e) (takes_none c bytes)
    again_takes (Some v) c d bytes e =
        let w = bind_ok (at c) (λ w. cond (not (below v w.0) && not (below w.0 v)) (Ok (tt, w.1)) (breach c)) (tt, d) e in
        let t = field.takes c w.0.0 w.0.1 bytes w.1 in
        let g = test_ok (not (below v w.0.0) && not (below w.0.0 v)) (NotCanonical c.place) (done (tt, w.0.1)) (tt, d) w.2 in
        let two = both_false (below v w.0.0) (below w.0.0 v) g.0 in
        let same : v ≡ w.0.0 = order.total v w.0.0 two.0 two.1 in
        let made : Unit {0} × Cursor = (tt, w.0.1) in
        subst (λ (y : Unit {0} × Cursor). Takes c (text v) y.1) (ok_is made (tt, d) g.1) (subst (λ k. Takes c (text k) w.0.1) (sym same) t.0)

    abbrev FitsIf : Option K → Type 0
    FitsIf None = Unit {0}
    FitsIf (Some v) = fits v

    again_reads : (o : Option K) (c : Cursor) (rest : List ℕ) → FitsIf o → c.left ≡ spelled_if text o ++ rest → Reads c (spelled_if text o) rest (again_at below at o c) tt
    unfolding again_at
    again_reads None c rest good e = record { end = c; is = refl; left = e; place = omega arith }
    again_reads (Some v) c rest good e =
        let r = field.again c v rest good e in
        let equal : (not (below v v) && not (below v v)) ≡ true = ap (λ b. not b && not b) (order.irreflexive v) in
        record {
          end = r.end;
          is = ap (λ z. z >>= λ w. cond (not (below v w.0) && not (below w.0 v)) (Ok (tt, w.1)) (breach c)) r.is ∙ ap (λ b. cond b (Ok (tt, r.end)) (breach c)) equal;
          left = r.left;
          place = r.place;
        }

    fits_if : (vs : List K) → All fits vs → (i : ℕ) (o : Option K) → slice_get vs i ≡ o → FitsIf o
    fits_if vs all i None e = tt
    fits_if vs all i (Some v) e = subst fits (get_or_from_slice_get vs i v v e) (all i v (slice_get_within vs i v e))

    extremes_take : (vs : List K) (c d : Cursor) → IsBytes c.left → extremes_at below at vs c ≡ Ok (tt, d) → Takes c (extremes_spelled text vs) d
    unfolding extremes_at
    extremes_take vs c d bytes e =
        let a = bind_ok (again_at below at (slice_get vs 0) c) (λ least. again_at below at (slice_get vs (length vs - 1)) least.1) (tt, d) e in
        let t = again_takes (slice_get vs 0) c a.0.1 bytes a.1 in
        takes_then c (spelled_if text (slice_get vs 0)) a.0.1 (spelled_if text (slice_get vs (length vs - 1))) d t (again_takes (slice_get vs (length vs - 1)) a.0.1 d t.rest a.2)

    extremes_again : (vs : List K) (c : Cursor) (rest : List ℕ) → All fits vs → c.left ≡ extremes_spelled text vs ++ rest → Reads c (extremes_spelled text vs) rest (extremes_at below at vs c) tt
    unfolding extremes_at
    extremes_again vs c rest all e =
        let x = spelled_if text (slice_get vs 0) in
        let y = spelled_if text (slice_get vs (length vs - 1)) in
        let r = again_reads (slice_get vs 0) c (y ++ rest) (fits_if vs all 0 (slice_get vs 0) refl) (e ∙ append_assoc x y rest) in
        let s = again_reads (slice_get vs (length vs - 1)) r.end rest (fits_if vs all (length vs - 1) (slice_get vs (length vs - 1)) refl) r.left in
        record { end = s.end; is = ap (λ z. z >>= λ least. again_at below at (slice_get vs (length vs - 1)) least.1) r.is ∙ s.is; left = s.left; place = omega (arith, r.place, s.place, length-append x y) }

    pub dictionary_takes : (extremes : Bool) (n : ℕ) (c : Cursor) (vs : List K) (d : Cursor) → IsBytes c.left → dictionary_of below at extremes n c ≡ Ok (vs, d) → Takes c (values_spelled text extremes vs) d × (length vs ≡ n) × All fits vs × IsAscending below vs
    unfolding dictionary_of
    dictionary_takes true n c vs d bytes e =
        let a = bind_ok (values_at below at n None c) (λ vs. extremes_at below at vs.0 vs.1 >>= λ ends. Ok (vs.0, ends.1)) (vs, d) e in
        let t = values_take n None c a.0.0 a.0.1 bytes a.1 in
        let b = bind_ok (extremes_at below at a.0.0 a.0.1) (λ ends. Ok (a.0.0, ends.1)) (vs, d) a.2 in
        let s = extremes_take a.0.0 a.0.1 b.0.1 t.0.rest b.1 in
        let made : List K × Cursor = (a.0.0, b.0.1) in
        subst (λ (y : List K × Cursor). Takes c (values_spelled text true y.0) y.1 × (length y.0 ≡ n) × All fits y.0 × IsAscending below y.0) (ok_is made (vs, d) b.2)
        (takes_then c (flat_map text a.0.0) a.0.1 (extremes_spelled text a.0.0) b.0.1 t.0 s, t.1, All-from_recursion fits a.0.0 t.2, ascends None a.0.0 t.3)
    dictionary_takes false n c vs d bytes e =
        let a = bind_ok (values_at below at n None c) (λ vs. done vs) (vs, d) e in
        let t = values_take n None c a.0.0 a.0.1 bytes a.1 in
        subst (λ (y : List K × Cursor). Takes c (values_spelled text false y.0) y.1 × (length y.0 ≡ n) × All fits y.0 × IsAscending below y.0) (ok_is a.0 (vs, d) a.2)
        (subst (λ x. Takes c x a.0.1) (sym (append-nil (flat_map text a.0.0))) t.0, t.1, All-from_recursion fits a.0.0 t.2, ascends None a.0.0 t.3)

    pub dictionary_again : (extremes : Bool) (vs : List K) (c : Cursor) (rest : List ℕ) → All fits vs → IsAscending below vs → c.left ≡ values_spelled text extremes vs ++ rest → Reads c (values_spelled text extremes vs) rest (dictionary_of below at extremes (length vs) c) vs
    unfolding dictionary_of
    dictionary_again true vs c rest all up e =
        let x = flat_map text vs in
        let y = extremes_spelled text vs in
        let r = values_again vs None c (y ++ rest) (recursion_from_All fits vs all) (rises None vs up (λ v at. refl)) (e ∙ append_assoc x y rest) in
        let s = extremes_again vs r.end rest all r.left in
        record {
          end = s.end;
          is = ap (λ z. z >>= λ vs. extremes_at below at vs.0 vs.1 >>= λ ends. Ok (vs.0, ends.1)) r.is ∙ ap (λ z. z >>= λ ends. Ok (vs, ends.1)) s.is;
          left = s.left;
          place = omega (arith, r.place, s.place, length-append x y);
        }
    dictionary_again false vs c rest all up e =
        let x = flat_map text vs in
        let r = values_again vs None c rest (recursion_from_All fits vs all) (rises None vs up (λ v at. refl)) (e ∙ ap (λ t. t ++ rest) (append-nil x)) in
        record { end = r.end; is = ap (λ z. z >>= λ vs. done vs) r.is; left = r.left; place = omega (arith, r.place, ap length (append-nil x)) }

-- ---- by kind

pub short_texts : (ts : List (List ℕ)) → All IsText ts → All IsUtf8 ts × All (λ t. length t ≤ 65536) ts
short_texts ts all = (All-weaker IsText IsUtf8 (λ t h. h.0) ts all, All-weaker IsText (λ t. length t ≤ 65536) (λ t h. h.1) ts all)

texts : (ts : List (List ℕ)) → All IsUtf8 ts → All (λ t. length t ≤ 65536) ts → All IsText ts
texts ts valid few k d l = (valid k d l, few k d l)

-- what is read as the dictionary of a kind
pub record Read_as (of : Kind) (n : ℕ) (dictionary : Dictionary) : Type 0 where
  pub kind : kind_in dictionary ≡ of
  pub count : count_in dictionary ≡ n
  pub right : IsDictionary dictionary
  pub short : AreShort dictionary

module _ (extremes : Bool) where
  pub dictionary_take : (kind : Kind) (n : ℕ) → n < 2 ^ 32 → (c : Cursor) (x : Dictionary) (d : Cursor) → IsBytes c.left → dictionary_at kind extremes n c ≡ Ok (x, d) → Takes c (dictionary_bytes extremes x) d × Read_as kind n x
  unfolding dictionary_at
  dictionary_take kinds.Int n few c x d bytes e =
      let a = bind_ok (dictionary_of int_lt int_at extremes n c) (λ vs. done (Int vs.0, vs.1)) (x, d) e in
      let t = dictionary_takes int_order int_at int_bytes (FitsSigned w32) int_field extremes n c a.0.0 a.0.1 bytes a.1 in
      let made : Dictionary × Cursor = (Int a.0.0, a.0.1) in
      subst (λ (y : Dictionary × Cursor). Takes c (dictionary_bytes extremes y.0) y.1 × Read_as kinds.Int n y.0) (ok_is made (x, d) a.2)
      (t.0, record { kind = refl; count = t.1; right = (omega (arith, t.1, few), t.3, t.2); short = tt })
  dictionary_take kinds.Long n few c x d bytes e =
      let a = bind_ok (dictionary_of int_lt long_at extremes n c) (λ vs. done (Long vs.0, vs.1)) (x, d) e in
      let t = dictionary_takes int_order long_at long_bytes (FitsSigned w64) long_field extremes n c a.0.0 a.0.1 bytes a.1 in
      let made : Dictionary × Cursor = (Long a.0.0, a.0.1) in
      subst (λ (y : Dictionary × Cursor). Takes c (dictionary_bytes extremes y.0) y.1 × Read_as kinds.Long n y.0) (ok_is made (x, d) a.2)
      (t.0, record { kind = refl; count = t.1; right = (omega (arith, t.1, few), t.3, t.2); short = tt })
  dictionary_take kinds.Time n few c x d bytes e =
      let a = bind_ok (dictionary_of int_lt long_at extremes n c) (λ vs. done (Time vs.0, vs.1)) (x, d) e in
      let t = dictionary_takes int_order long_at long_bytes (FitsSigned w64) long_field extremes n c a.0.0 a.0.1 bytes a.1 in
      let made : Dictionary × Cursor = (Time a.0.0, a.0.1) in
      subst (λ (y : Dictionary × Cursor). Takes c (dictionary_bytes extremes y.0) y.1 × Read_as kinds.Time n y.0) (ok_is made (x, d) a.2)
      (t.0, record { kind = refl; count = t.1; right = (omega (arith, t.1, few), t.3, t.2); short = tt })
  dictionary_take kinds.Bool n few c x d bytes e =
      let a = bind_ok (dictionary_of bool_below bool_at extremes n c) (λ vs. done (Truth vs.0, vs.1)) (x, d) e in
      let t = dictionary_takes bool_order bool_at bool_bytes (λ b. Unit {0}) bool_field extremes n c a.0.0 a.0.1 bytes a.1 in
      let made : Dictionary × Cursor = (Truth a.0.0, a.0.1) in
      subst (λ (y : Dictionary × Cursor). Takes c (dictionary_bytes extremes y.0) y.1 × Read_as kinds.Bool n y.0) (ok_is made (x, d) a.2)
      (t.0, record { kind = refl; count = t.1; right = (omega (arith, t.1, few), t.3, t.2); short = tt })
  dictionary_take kinds.Text n few c x d bytes e =
      let a = bind_ok (dictionary_of text_below text_at extremes n c) (λ vs. done (Text vs.0, vs.1)) (x, d) e in
      let t = dictionary_takes text_order text_at text_bytes IsText text_field extremes n c a.0.0 a.0.1 bytes a.1 in
      let parts = short_texts a.0.0 t.2 in
      let made : Dictionary × Cursor = (Text a.0.0, a.0.1) in
      subst (λ (y : Dictionary × Cursor). Takes c (dictionary_bytes extremes y.0) y.1 × Read_as kinds.Text n y.0) (ok_is made (x, d) a.2)
      (t.0, record { kind = refl; count = t.1; right = (omega (arith, t.1, few), t.3, parts.0); short = parts.1 })

  pub dictionary_reads : (x : Dictionary) (c : Cursor) (rest : List ℕ) → IsDictionary x → AreShort x → c.left ≡ dictionary_bytes extremes x ++ rest → Reads c (dictionary_bytes extremes x) rest (dictionary_at (kind_in x) extremes (count_in x) c) x
  unfolding dictionary_at
  dictionary_reads (Int zs) c rest good short e =
      let r = dictionary_again int_order int_at int_bytes (FitsSigned w32) int_field extremes zs c rest good.2 good.1 e in
      record { end = r.end; is = ap (λ z. z >>= λ vs. done (Int vs.0, vs.1)) r.is; left = r.left; place = r.place }
  dictionary_reads (Long zs) c rest good short e =
      let r = dictionary_again int_order long_at long_bytes (FitsSigned w64) long_field extremes zs c rest good.2 good.1 e in
      record { end = r.end; is = ap (λ z. z >>= λ vs. done (Long vs.0, vs.1)) r.is; left = r.left; place = r.place }
  dictionary_reads (Time zs) c rest good short e =
      let r = dictionary_again int_order long_at long_bytes (FitsSigned w64) long_field extremes zs c rest good.2 good.1 e in
      record { end = r.end; is = ap (λ z. z >>= λ vs. done (Time vs.0, vs.1)) r.is; left = r.left; place = r.place }
  dictionary_reads (Truth bs) c rest good short e =
      let r = dictionary_again bool_order bool_at bool_bytes (λ b. Unit {0}) bool_field extremes bs c rest good.2 good.1 e in
      record { end = r.end; is = ap (λ z. z >>= λ vs. done (Truth vs.0, vs.1)) r.is; left = r.left; place = r.place }
  dictionary_reads (Text ts) c rest good short e =
      let r = dictionary_again text_order text_at text_bytes IsText text_field extremes ts c rest (texts ts good.2 short) good.1 e in
      record { end = r.end; is = ap (λ z. z >>= λ vs. done (Text vs.0, vs.1)) r.is; left = r.left; place = r.place }
