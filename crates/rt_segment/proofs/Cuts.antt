-- Bytes behind those that were read change nothing of what was read, and a breach lies before the end of the bytes.
use Rattle.std.proofs.Common.{◌≡◌, ℕ, zero, suc, ◌+◌, ◌-◌, ◌*◌, ◌/◌, ◌<◌, ◌≤◌, Bool, true, false, cond, eqb, ltb, List, [], ◌∷◌, ◌++◌, length, get_or, take, drop, slice_get, Option, Some, None, Result, Ok, Err, refl, sym, ap, subst, ◌∙◌, arith, inl, inr}
use Rattle.std.specs.Prelude.{codes, not, ◌&&◌, ◌⊎◌, int_lt}
use Rattle.std.specs.Int.{Width, w16, w32, w64, byte_len, from_be_bytes, cast_signed}
use Rattle.std.specs.Str.{bytes_eq, is_utf8}
use Rattle.std.proofs.lemmas.Bool.{cases_Bool, ltb-false, ltb-true, lt-ltb, le-ltb, eq-eqb, true≢false}
use Rattle.std.proofs.lemmas.List.{take-append-le, drop-append-le, take-append-drop, drop_all, length-append, length-drop, length-take, length-take-le}
use Rattle.std.proofs.lemmas.Nat.{mul-le}
use Rattle.std.proofs.lemmas.Option.{none-some, same_Some}
use Rattle.sha2.specs.Sha256.{sha256}
use Rattle.sha2.proofs.Facts256.{length-sha256}
use Rattle.rt_dict.specs.Order.{bool_below, text_below}
use Rattle.rt_dict.specs.Values.{is_past}
use Rattle.rt_pack.specs.Bits.{all_bits, numbers_of}
use Rattle.rt_pack.specs.Packed.{bytes_for, unpacked, spare_bits}
use Rattle.rt_pack.specs.Width.{width_of}
use Rattle.rt_pack.proofs.Laws.{length_unpacked}
use Rattle.rt_base.specs.declared.range.Range.{Range}
use Rattle.rt_schema.specs.Schema.{is_among}
use Rattle.rt_schema.specs.declared.column.Kind.{Kind}
use Rattle.rt_schema.specs.declared.column.Kind.TheVariants as kinds
use Rattle.rt_segment.specs.declared.dictionary.Dictionary.{Dictionary}
use Rattle.rt_segment.specs.declared.dictionary.Dictionary.TheVariants.{Int, Long, Text, Bool as Truth, Time}
use Rattle.rt_segment.specs.declared.segment_refused.SegmentRefused.{SegmentRefused}
use Rattle.rt_segment.specs.declared.segment_refused.SegmentRefused.TheVariants.{Truncated, Magic, NotCanonical, Digest, Limit, Memory}
use Rattle.rt_segment.specs.Cursor.{Cursor, Read, ◌>>=◌, breach, bytes_at, number_at, byte_in}
use Rattle.rt_segment.specs.Segment.{SealedSegment, IsSealed}
use Rattle.rt_segment.specs.Spelling.{posting_numbers, has_extremes, body_of, file_of}
use Rattle.rt_segment.specs.Reading.{format_of, format_at, range_at, rows_at, column_count_at, int_at, long_at, bool_at, text_at, values_at, again_at, extremes_at, dictionary_of, dictionary_at, first_past, are_clear, checked_ids, ids_in, ids_at, first_unused, has_id, without, name_at, kind_at, cardinality_at, this_number, numbers_at, postings_at, column_at, columns_at, body_at, read_file}
use Rattle.rt_segment.proofs.Fields.{bind_ok, guard_ok, test_ok, done, ok_is, Reads}
use Rattle.rt_segment.proofs.Ids.{past_within}
use Rattle.rt_segment.proofs.ColumnLaws.{not_zero}
use Rattle.rt_segment.proofs.FileLaws.{body_again}

-- the bytes that are left, and more behind them
abbrev pub longer : List ℕ → Cursor → Cursor
longer more c = record { place = c.place; left = c.left ++ more }

abbrev pub end_of : Cursor → ℕ
end_of c = c.place + length c.left

-- a fault that is the same for longer bytes, unless it is that bytes are lacking; a breach lies before the end
abbrev pub IsLasting : {Y : Type 0} → ℕ → SegmentRefused → Result Y SegmentRefused → Type 0
IsLasting end Truncated long = Unit {0}
IsLasting end Magic long = long ≡ Err Magic
IsLasting end (NotCanonical byte) long = (long ≡ Err (NotCanonical byte)) × (byte < end)
IsLasting end Digest long = long ≡ Err Digest
IsLasting end Limit long = long ≡ Err Limit
IsLasting end Memory long = long ≡ Err Memory

-- what is read is the same for longer bytes; reading went on at least to some place
abbrev pub Lasts : {X : Type 0} → ℕ → ℕ → List ℕ → Read X → Read X → Type 0
Lasts least end more (Ok x) long = (long ≡ Ok (x.0, longer more x.1)) × (least ≤ x.1.place) × (end_of x.1 ≡ end)
Lasts least end more (Err e) long = IsLasting end e long

-- a reader that takes at least so many bytes
abbrev pub IsLastingReader : {X : Type 0} → ℕ → (Cursor → Read X) → Type 0
IsLastingReader n at = (c : Cursor) (more : List ℕ) → Lasts (c.place + n) (end_of c) more (at c) (at (longer more c))

abbrev fault : {Y : Type 0} → SegmentRefused → Result Y SegmentRefused
fault e = Err e

lasting_then : {A B : Type 0} (end : ℕ) (e : SegmentRefused) (long : Result A SegmentRefused) (f : A → Result B SegmentRefused) → IsLasting end e long → IsLasting end e (long >>= f)
lasting_then end Truncated long f h = tt
lasting_then end Magic long f h = ap (λ l. l >>= f) h
lasting_then end (NotCanonical byte) long f h = (ap (λ l. l >>= f) h.0, h.1)
lasting_then end Digest long f h = ap (λ l. l >>= f) h
lasting_then end Limit long f h = ap (λ l. l >>= f) h
lasting_then end Memory long f h = ap (λ l. l >>= f) h

module _ (end : ℕ) (more : List ℕ) where
  -- one field, and then the rest
  lasts_both : {A B : Type 0} (least least' : ℕ) (r long : Read A) (f g : A × Cursor → Read B) → Lasts least end more r long
      → ((x : A) (d : Cursor) → r ≡ Ok (x, d) → least ≤ d.place → end_of d ≡ end → Lasts least' end more (f (x, d)) (g (x, longer more d)))
      → Lasts least' end more (r >>= f) (long >>= g)
  lasts_both least least' (Ok x) long f g h rest = subst (λ l. Lasts least' end more (f x) (l >>= g)) (sym h.0) (rest x.0 x.1 refl h.1 h.2)
  lasts_both least least' (Err e) long f g h rest = lasting_then end e long g h

  lasts_then : {A B : Type 0} (least least' : ℕ) (r long : Read A) (f : A × Cursor → Read B) → Lasts least end more r long
      → ((x : A) (d : Cursor) → r ≡ Ok (x, d) → least ≤ d.place → end_of d ≡ end → Lasts least' end more (f (x, d)) (f (x, longer more d)))
      → Lasts least' end more (r >>= f) (long >>= f)
  lasts_then least least' r long f h rest = lasts_both least least' r long f f h rest

  lasts_ok : {A : Type 0} (least : ℕ) (x : A) (d : Cursor) → least ≤ d.place → end_of d ≡ end → Lasts least end more (Ok (x, d)) (Ok (x, longer more d))
  lasts_ok least x d le e = (refl, le, e)

  lasts_breach : {A : Type 0} (least : ℕ) (c : Cursor) → c.place < end → Lasts {X = A} least end more (breach c) (breach c)
  lasts_breach least c lt = (refl, lt)

  lasts_if : {A : Type 0} (least : ℕ) (b : Bool) (r long s far : Read A) → Lasts least end more r long → Lasts least end more s far → Lasts least end more (cond b r s) (cond b long far)
  lasts_if least true r long s far h g = h
  lasts_if least false r long s far h g = g

  -- at least fewer bytes
  lasts_fewer : {A : Type 0} (least least' : ℕ) (r long : Read A) → least' ≤ least → Lasts least end more r long → Lasts least' end more r long
  lasts_fewer least least' (Ok x) long le h = (h.0, omega (arith, le, h.1), h.2)
  lasts_fewer least least' (Err e) long le h = h

-- the same at a cursor where reading went on
moved : {A : Type 0} (n least end : ℕ) (more : List ℕ) (at : Cursor → Read A) → IsLastingReader n at → (d : Cursor) → end_of d ≡ end → least ≤ d.place + n → Lasts least end more (at d) (at (longer more d))
moved n least end more at lasts d e le = lasts_fewer end more (d.place + n) least (at d) (at (longer more d)) le (subst (λ k. Lasts (d.place + n) k more (at d) (at (longer more d))) e (lasts d more))

-- ---- bytes and numbers

pub bytes_last : (n : ℕ) → IsLastingReader n (bytes_at n)
bytes_last n c more = elim (cases_Bool (ltb (length c.left) n)) [
  | inl short ↦ subst (λ b. Lasts (c.place + n) (end_of c) more (cond b (Err Truncated) (Ok (take n c.left, record { place = c.place + n; left = drop n c.left }))) (bytes_at n (longer more c))) (sym short) tt
  | inr enough ↦
      let le : n ≤ length c.left = ltb-false _ _ enough in
      let long : bytes_at n (longer more c) ≡ Ok (take n c.left, longer more (record { place = c.place + n; left = drop n c.left })) = still le in
      subst (λ b. Lasts (c.place + n) (end_of c) more (cond b (Err Truncated) (Ok (take n c.left, record { place = c.place + n; left = drop n c.left }))) (bytes_at n (longer more c))) (sym enough)
      (long, omega arith, omega (arith, length-drop n c.left, le))
]
  where
    still : n ≤ length c.left → bytes_at n (longer more c) ≡ Ok (take n c.left, longer more (record { place = c.place + n; left = drop n c.left }))
    still le = elim (cases_Bool (ltb (length (c.left ++ more)) n)) [
      | inl short ↦ absurd (omega (arith, le, ltb-true _ _ short, length-append c.left more))
      | inr enough ↦ rw enough (λ j. Ok (take-append-le n c.left more le j, record { place = c.place + n; left = drop-append-le n c.left more le j }))
    ]

number_last : (w : Width) → IsLastingReader (byte_len w) (number_at w)
number_last w c more =
    lasts_then (end_of c) more (c.place + byte_len w) (c.place + byte_len w) (bytes_at (byte_len w) c) (bytes_at (byte_len w) (longer more c)) (λ b. Ok (from_be_bytes w b.0, b.1)) (bytes_last (byte_len w) c more)
    (λ x d is le e. lasts_ok (end_of c) more (c.place + byte_len w) (from_be_bytes w x) d le e)

byte_last : IsLastingReader 1 byte_in
byte_last c more =
    lasts_then (end_of c) more (c.place + 1) (c.place + 1) (bytes_at 1 c) (bytes_at 1 (longer more c)) (λ b. Ok (get_or b.0 0 0, b.1)) (bytes_last 1 c more)
    (λ x d is le e. lasts_ok (end_of c) more (c.place + 1) (get_or x 0 0) d le e)

-- ---- values

int_last : IsLastingReader 1 int_at
int_last c more =
    lasts_then (end_of c) more (c.place + 4) (c.place + 1) (number_at w32 c) (number_at w32 (longer more c)) (λ n. Ok (cast_signed w32 n.0, n.1)) (number_last w32 c more)
    (λ x d is le e. lasts_ok (end_of c) more (c.place + 1) (cast_signed w32 x) d (omega (arith, le)) e)

long_last : IsLastingReader 1 long_at
long_last c more =
    lasts_then (end_of c) more (c.place + 8) (c.place + 1) (number_at w64 c) (number_at w64 (longer more c)) (λ n. Ok (cast_signed w64 n.0, n.1)) (number_last w64 c more)
    (λ x d is le e. lasts_ok (end_of c) more (c.place + 1) (cast_signed w64 x) d (omega (arith, le)) e)

bool_last : IsLastingReader 1 bool_at
unfolding bool_at
bool_last c more =
    lasts_then (end_of c) more (c.place + 1) (c.place + 1) (byte_in c) (byte_in (longer more c)) (λ b. cond (eqb b.0 0) (Ok (false, b.1)) (cond (eqb b.0 1) (Ok (true, b.1)) (breach c))) (byte_last c more)
    (λ x d is le e.
    lasts_if (end_of c) more (c.place + 1) (eqb x 0) _ _ _ _ (lasts_ok (end_of c) more (c.place + 1) false d le e)
    (lasts_if (end_of c) more (c.place + 1) (eqb x 1) _ _ _ _ (lasts_ok (end_of c) more (c.place + 1) true d le e) (lasts_breach (end_of c) more (c.place + 1) c (omega (arith, le, e)))))

text_last : IsLastingReader 1 text_at
unfolding text_at
text_last c more =
    let end = end_of c in
    let least = c.place + 1 in
    lasts_then end more (c.place + 4) least (number_at w32 c) (number_at w32 (longer more c)) (λ n. cond (ltb 65536 n.0) (Err Limit) (bytes_at n.0 n.1 >>= λ b. cond (is_utf8 b.0) (Ok b) (breach c))) (number_last w32 c more)
    (λ n d is le e. lasts_if end more least (ltb 65536 n) _ _ _ _ refl
    (lasts_then end more (d.place + n) least (bytes_at n d) (bytes_at n (longer more d)) (λ b. cond (is_utf8 b.0) (Ok b) (breach c)) (moved n (d.place + n) end more (bytes_at n) (bytes_last n) d e (omega arith))
    (λ b f is' le' e'. lasts_if end more least (is_utf8 b) _ _ _ _ (lasts_ok end more least b f (omega (arith, le, le')) e') (lasts_breach end more least c (omega (arith, le, e))))))

module _ {K : Type 0} (below : K → K → Bool) (at : Cursor → Read K) (lasts : IsLastingReader 1 at) where
  values_last : (n : ℕ) (last : Option K) → IsLastingReader n (values_at below at n last)
  unfolding values_at
  values_last zero last c more = lasts_ok (end_of c) more (c.place + 0) [] c (omega arith) refl
  values_last (suc n) last c more =
      let end = end_of c in
      let least = c.place + suc n in
      lasts_then end more (c.place + 1) least (at c) (at (longer more c)) (λ v. cond (is_past below last v.0) (values_at below at n (Some v.0) v.1 >>= λ vs. Ok (v.0 ∷ vs.0, vs.1)) (breach c)) (lasts c more)
      (λ v d is le e. lasts_if end more least (is_past below last v) _ _ _ _
      (lasts_then end more (d.place + n) least (values_at below at n (Some v) d) (values_at below at n (Some v) (longer more d)) (λ vs. Ok (v ∷ vs.0, vs.1)) (moved n (d.place + n) end more (values_at below at n (Some v)) (values_last n (Some v)) d e (omega arith))
      (λ vs f is' le' e'. lasts_ok end more least (v ∷ vs) f (omega (arith, le, le')) e'))
      (lasts_breach end more least c (omega (arith, le, e))))

  again_last : (o : Option K) → IsLastingReader 0 (again_at below at o)
  unfolding again_at
  again_last None c more = lasts_ok (end_of c) more (c.place + 0) tt c (omega arith) refl
  again_last (Some v) c more =
      let end = end_of c in
      let least = c.place + 0 in
      lasts_then end more (c.place + 1) least (at c) (at (longer more c)) (λ w. cond (not (below v w.0) && not (below w.0 v)) (Ok (tt, w.1)) (breach c)) (lasts c more)
      (λ w d is le e. lasts_if end more least (not (below v w) && not (below w v)) _ _ _ _ (lasts_ok end more least tt d (omega (arith, le)) e) (lasts_breach end more least c (omega (arith, le, e))))

  extremes_last : (vs : List K) → IsLastingReader 0 (extremes_at below at vs)
  unfolding extremes_at
  extremes_last vs c more =
      let end = end_of c in
      lasts_then end more (c.place + 0) (c.place + 0) (again_at below at (slice_get vs 0) c) (again_at below at (slice_get vs 0) (longer more c)) (λ least. again_at below at (slice_get vs (length vs - 1)) least.1) (again_last (slice_get vs 0) c more)
      (λ x d is le e. moved 0 (c.place + 0) end more (again_at below at (slice_get vs (length vs - 1))) (again_last (slice_get vs (length vs - 1))) d e (omega (arith, le)))

  of_last : (extremes : Bool) (n : ℕ) → IsLastingReader n (dictionary_of below at extremes n)
  unfolding dictionary_of
  of_last true n c more =
      let end = end_of c in
      let least = c.place + n in
      lasts_then end more least least (values_at below at n None c) (values_at below at n None (longer more c)) (λ vs. extremes_at below at vs.0 vs.1 >>= λ ends. Ok (vs.0, ends.1)) (values_last n None c more)
      (λ vs d is le e. lasts_then end more (d.place + 0) least (extremes_at below at vs d) (extremes_at below at vs (longer more d)) (λ ends. Ok (vs, ends.1)) (moved 0 (d.place + 0) end more (extremes_at below at vs) (extremes_last vs) d e (omega arith))
      (λ x f is' le' e'. lasts_ok end more least vs f (omega (arith, le, le')) e'))
  of_last false n c more =
      lasts_then (end_of c) more (c.place + n) (c.place + n) (values_at below at n None c) (values_at below at n None (longer more c)) (λ vs. Ok vs) (values_last n None c more)
      (λ vs d is le e. lasts_ok (end_of c) more (c.place + n) vs d le e)

dictionary_last : (kind : Kind) (extremes : Bool) (n : ℕ) → IsLastingReader n (dictionary_at kind extremes n)
unfolding dictionary_at
dictionary_last kinds.Int extremes n c more = lasts_then (end_of c) more (c.place + n) (c.place + n) _ _ (λ vs. Ok (Int vs.0, vs.1)) (of_last int_lt int_at int_last extremes n c more) (λ vs d is le e. lasts_ok (end_of c) more (c.place + n) (Int vs) d le e)
dictionary_last kinds.Long extremes n c more = lasts_then (end_of c) more (c.place + n) (c.place + n) _ _ (λ vs. Ok (Long vs.0, vs.1)) (of_last int_lt long_at long_last extremes n c more) (λ vs d is le e. lasts_ok (end_of c) more (c.place + n) (Long vs) d le e)
dictionary_last kinds.Text extremes n c more = lasts_then (end_of c) more (c.place + n) (c.place + n) _ _ (λ vs. Ok (Text vs.0, vs.1)) (of_last text_below text_at text_last extremes n c more) (λ vs d is le e. lasts_ok (end_of c) more (c.place + n) (Text vs) d le e)
dictionary_last kinds.Bool extremes n c more = lasts_then (end_of c) more (c.place + n) (c.place + n) _ _ (λ vs. Ok (Truth vs.0, vs.1)) (of_last bool_below bool_at bool_last extremes n c more) (λ vs d is le e. lasts_ok (end_of c) more (c.place + n) (Truth vs) d le e)
dictionary_last kinds.Time extremes n c more = lasts_then (end_of c) more (c.place + n) (c.place + n) _ _ (λ vs. Ok (Time vs.0, vs.1)) (of_last int_lt long_at long_last extremes n c more) (λ vs d is le e. lasts_ok (end_of c) more (c.place + n) (Time vs) d le e)

-- ---- a value fewer ends earlier

abbrev place_in : {X : Type 0} → Read X → ℕ
place_in (Ok x) = x.1.place
place_in (Err e) = 0

-- what is read, and where reading goes on, which is before a place
pub record IsBefore {X : Type 0} (r : Read X) (place : ℕ) : Type 0 where
  pub value : X
  pub at : Cursor
  pub is : r ≡ Ok (value, at)
  pub early : at.place < place

went_on : {X : Type 0} (n : ℕ) (at : Cursor → Read X) → IsLastingReader n at → (c : Cursor) (x : X) (d : Cursor) → at c ≡ Ok (x, d) → c.place + n ≤ d.place
went_on n at lasts c x d e = (subst (λ r. Lasts (c.place + n) (end_of c) [] r (at (longer [] c))) e (lasts c [])).1

module _ {K : Type 0} (below : K → K → Bool) (at : Cursor → Read K) (lasts : IsLastingReader 1 at) where
  fewer_values : (id n : ℕ) → id < n → (last : Option K) (c : Cursor) (vs : List K) (d : Cursor) → values_at below at n last c ≡ Ok (vs, d) → IsBefore (values_at below at id last c) d.place
  unfolding values_at
  fewer_values id zero lt last c vs d e = absurd (omega arith)
  fewer_values zero (suc n) lt last c vs d e =
      record { value = []; at = c; is = refl; early = omega (arith, went_on (suc n) (values_at below at (suc n) last) (values_last below at lasts (suc n) last) c vs d e) }
  fewer_values (suc id) (suc n) lt last c vs d e =
      let less : id < n = omega (arith, lt) in
      let rest = λ (v : K × Cursor). values_at below at n (Some v.0) v.1 >>= λ ws. done (v.0 ∷ ws.0, ws.1) in
      let v = bind_ok (at c) (λ v. cond (is_past below last v.0) (rest v) (breach c)) (vs, d) e in
      let g = test_ok (is_past below last v.0.0) (NotCanonical c.place) (rest v.0) (vs, d) v.2 in
      let r = bind_ok (values_at below at n (Some v.0.0) v.0.1) (λ ws. done (v.0.0 ∷ ws.0, ws.1)) (vs, d) g.1 in
      let f = fewer_values id n less (Some v.0.0) v.0.1 r.0.0 r.0.1 r.1 in
      let same : r.0.1.place ≡ d.place = ap place_in r.2 in
      record {
        value = v.0.0 ∷ f.value;
        at = f.at;
        is = ap (λ z. z >>= λ w. cond (is_past below last w.0) (values_at below at id (Some w.0) w.1 >>= λ ws. Ok (w.0 ∷ ws.0, ws.1)) (breach c)) v.1
            ∙ ap (λ b. cond b (values_at below at id (Some v.0.0) v.0.1 >>= λ ws. Ok (v.0.0 ∷ ws.0, ws.1)) (breach c)) g.0
            ∙ ap (λ z. z >>= λ ws. Ok (v.0.0 ∷ ws.0, ws.1)) f.is;
        early = omega (arith, f.early, same);
      }

  fewer_of : (extremes : Bool) (id n : ℕ) → id < n → (c : Cursor) (vs : List K) (d : Cursor) → dictionary_of below at extremes n c ≡ Ok (vs, d) → IsBefore (dictionary_of below at false id c) d.place
  unfolding dictionary_of
  fewer_of true id n lt c vs d e =
      let a = bind_ok (values_at below at n None c) (λ vs. extremes_at below at vs.0 vs.1 >>= λ ends. done (vs.0, ends.1)) (vs, d) e in
      let b = bind_ok (extremes_at below at a.0.0 a.0.1) (λ ends. done (a.0.0, ends.1)) (vs, d) a.2 in
      let f = fewer_values id n lt None c a.0.0 a.0.1 a.1 in
      let on : a.0.1.place + 0 ≤ b.0.1.place = went_on 0 (extremes_at below at a.0.0) (extremes_last below at lasts a.0.0) a.0.1 b.0.0 b.0.1 b.1 in
      let same : b.0.1.place ≡ d.place = ap place_in b.2 in
      record { value = f.value; at = f.at; is = ap (λ z. z >>= λ vs. Ok vs) f.is; early = omega (arith, f.early, on, same) }
  fewer_of false id n lt c vs d e =
      let a = bind_ok (values_at below at n None c) (λ vs. done vs) (vs, d) e in
      let f = fewer_values id n lt None c a.0.0 a.0.1 a.1 in
      let same : a.0.1.place ≡ d.place = ap place_in a.2 in
      record { value = f.value; at = f.at; is = ap (λ z. z >>= λ vs. Ok vs) f.is; early = omega (arith, f.early, same) }

module _ (extremes : Bool) (id n : ℕ) (lt : id < n) (c : Cursor) where
  fewer : (kind : Kind) (x : Dictionary) (d : Cursor) → dictionary_at kind extremes n c ≡ Ok (x, d) → IsBefore (dictionary_at kind false id c) d.place
  unfolding dictionary_at
  fewer kinds.Int x d e =
      let a = bind_ok (dictionary_of int_lt int_at extremes n c) (λ vs. done (Int vs.0, vs.1)) (x, d) e in
      let f = fewer_of int_lt int_at int_last extremes id n lt c a.0.0 a.0.1 a.1 in
      record { value = Int f.value; at = f.at; is = ap (λ z. z >>= λ vs. Ok (Int vs.0, vs.1)) f.is; early = omega (arith, f.early, ap place_in a.2) }
  fewer kinds.Long x d e =
      let a = bind_ok (dictionary_of int_lt long_at extremes n c) (λ vs. done (Long vs.0, vs.1)) (x, d) e in
      let f = fewer_of int_lt long_at long_last extremes id n lt c a.0.0 a.0.1 a.1 in
      record { value = Long f.value; at = f.at; is = ap (λ z. z >>= λ vs. Ok (Long vs.0, vs.1)) f.is; early = omega (arith, f.early, ap place_in a.2) }
  fewer kinds.Text x d e =
      let a = bind_ok (dictionary_of text_below text_at extremes n c) (λ vs. done (Text vs.0, vs.1)) (x, d) e in
      let f = fewer_of text_below text_at text_last extremes id n lt c a.0.0 a.0.1 a.1 in
      record { value = Text f.value; at = f.at; is = ap (λ z. z >>= λ vs. Ok (Text vs.0, vs.1)) f.is; early = omega (arith, f.early, ap place_in a.2) }
  fewer kinds.Bool x d e =
      let a = bind_ok (dictionary_of bool_below bool_at extremes n c) (λ vs. done (Truth vs.0, vs.1)) (x, d) e in
      let f = fewer_of bool_below bool_at bool_last extremes id n lt c a.0.0 a.0.1 a.1 in
      record { value = Truth f.value; at = f.at; is = ap (λ z. z >>= λ vs. Ok (Truth vs.0, vs.1)) f.is; early = omega (arith, f.early, ap place_in a.2) }
  fewer kinds.Time x d e =
      let a = bind_ok (dictionary_of int_lt long_at extremes n c) (λ vs. done (Time vs.0, vs.1)) (x, d) e in
      let f = fewer_of int_lt long_at long_last extremes id n lt c a.0.0 a.0.1 a.1 in
      record { value = Time f.value; at = f.at; is = ap (λ z. z >>= λ vs. Ok (Time vs.0, vs.1)) f.is; early = omega (arith, f.early, ap place_in a.2) }

-- ---- ids

-- an answer that doesn't depend on what stands behind
abbrev IsWithin : {Y : Type 0} → ℕ → Result Y SegmentRefused → Type 0
IsWithin end (Ok x) = Unit {0}
IsWithin end (Err e) = IsLasting {Y = Unit {0}} end e (Err e)

lasting_itself : (B : Type 0) (end : ℕ) (e : SegmentRefused) → IsLasting {Y = Unit {0}} end e (Err e) → IsLasting {Y = B} end e (Err e)
lasting_itself B end Truncated h = tt
lasting_itself B end Magic h = refl
lasting_itself B end (NotCanonical byte) h = (refl, h.1)
lasting_itself B end Digest h = refl
lasting_itself B end Limit h = refl
lasting_itself B end Memory h = refl

within_if : {A : Type 0} (end : ℕ) (b : Bool) (r s : Result A SegmentRefused) → (b ≡ true → IsWithin end r) → (b ≡ false → IsWithin end s) → IsWithin end (cond b r s)
within_if end true r s h g = h refl
within_if end false r s h g = g refl

same_then : {A B : Type 0} (least end : ℕ) (more : List ℕ) (r : Result A SegmentRefused) (f g : A → Read B) → IsWithin end r → ((x : A) → Lasts least end more (f x) (g x)) → Lasts least end more (r >>= f) (r >>= g)
same_then least end more (Ok x) f g h lasts = lasts x
same_then {A} {B} least end more (Err e) f g h lasts = lasting_itself (B × Cursor) end e h

bytes_length : (n : ℕ) (c : Cursor) (x : List ℕ) (d : Cursor) → bytes_at n c ≡ Ok (x, d) → length x ≡ n
bytes_length n c x d e =
    let g = guard_ok (ltb (length c.left) n) Truncated (done (take n c.left, record { place = c.place + n; left = drop n c.left })) (x, d) e in
    let made : List ℕ × Cursor = (take n c.left, record { place = c.place + n; left = drop n c.left }) in
    ap (λ (y : List ℕ × Cursor). length y.0) (sym (ok_is made (x, d) g.1)) ∙ length-take-le n c.left (ltb-false _ _ g.0)

zeros : (cardinality rows row : ℕ) (bits : List ℕ) → 0 < cardinality → first_past cardinality row (numbers_of 0 rows bits) ≡ None
zeros cardinality zero row bits some = refl
zeros cardinality (suc rows) row bits some = ap (λ b. cond b (first_past cardinality (row + 1) (numbers_of 0 rows bits)) (Some row)) (lt-ltb 0 cardinality some) ∙ zeros cardinality rows (row + 1) bits some

no_past : {X : Type 0} (o : Option ℕ) (row : ℕ) → o ≡ None → o ≡ Some row → X
no_past o row n s = absurd (none-some row (sym n ∙ s))

-- ids that are past the cardinality take bits
takes_bits : (width cardinality rows : ℕ) (bytes : List ℕ) (row : ℕ) → 0 < cardinality → first_past cardinality 0 (unpacked width rows bytes) ≡ Some row → 1 ≤ width
takes_bits zero cardinality rows bytes row some e = no_past (first_past cardinality 0 (unpacked 0 rows bytes)) row (zeros cardinality rows 0 (all_bits 8 bytes) some) e
takes_bits (suc width) cardinality rows bytes row some e = omega arith

eighths : (a b : ℕ) → a + 1 ≤ b → a / 8 < (b + 7) / 8
eighths a b le = omega (arith, le)

bit_before : (width row rows : ℕ) → 1 ≤ width → row < rows → row * width / 8 < (rows * width + 7) / 8
bit_before width row rows some lt = eighths (row * width) (rows * width) (omega (arith, mul-le (row + 1) width rows width (omega arith) (omega arith), some))

ids_within : (width cardinality rows place end : ℕ) (bytes : List ℕ) → (0 < rows → 0 < cardinality) → length bytes ≡ bytes_for width rows → place + length bytes ≤ end → IsWithin end (ids_in width cardinality rows place bytes)
ids_within width cardinality rows place end bytes some size le = by (first_past cardinality 0 (unpacked width rows bytes)) refl
  where
    not_clear : (bs : List ℕ) → are_clear (spare_bits width rows bs) ≡ false → 1 ≤ length bs
    not_clear [] e = absurd (true≢false (sym (ap are_clear (drop_all (rows * width) [] (omega arith))) ∙ e))
    not_clear (b ∷ bs) e = omega arith

    by : (o : Option ℕ) → first_past cardinality 0 (unpacked width rows bytes) ≡ o → IsWithin end (checked_ids width rows place bytes o (unpacked width rows bytes))
    by (Some row) e =
        let there : row < rows = omega (arith, past_within cardinality 0 (unpacked width rows bytes) row e, length_unpacked width rows bytes) in
        (refl, omega (arith, bit_before width row rows (takes_bits width cardinality rows bytes row (some (omega (arith, there))) e) there, size, le))
    by None e = within_if end (are_clear (spare_bits width rows bytes)) (Ok (unpacked width rows bytes)) (Err (NotCanonical (place + length bytes - 1))) (λ _. tt) (λ set. (refl, omega (arith, not_clear bytes set, le)))

ids_last : (rows cardinality : ℕ) → (0 < rows → 0 < cardinality) → IsLastingReader 0 (ids_at rows cardinality)
unfolding ids_at
ids_last rows cardinality some c more =
    let end = end_of c in
    let width = width_of cardinality in
    let n = bytes_for width rows in
    lasts_then end more (c.place + n) (c.place + 0) (bytes_at n c) (bytes_at n (longer more c)) (λ bytes. ids_in width cardinality rows c.place bytes.0 >>= λ ids. Ok (ids, bytes.1)) (bytes_last n c more)
    (λ x d is le e.
    let size = bytes_length n c x d is in
    same_then (c.place + 0) end more (ids_in width cardinality rows c.place x) (λ ids. Ok (ids, d)) (λ ids. Ok (ids, longer more d)) (ids_within width cardinality rows c.place end x some size (omega (arith, size, le, e)))
    (λ ids. lasts_ok end more (c.place + 0) ids d (omega (arith, le)) e))

-- ---- a column

name_last : (before : List (List ℕ)) → IsLastingReader 0 (name_at before)
unfolding name_at
name_last before c more =
    let end = end_of c in
    let least = c.place + 0 in
    let ends = λ (b : List ℕ × Cursor). cond (is_utf8 b.0 && not (is_among b.0 before)) (Ok b) (breach c) in
    lasts_then end more (c.place + 2) least (number_at w16 c) (number_at w16 (longer more c)) (λ n. cond (ltb 128 n.0) (Err Limit) (cond (eqb n.0 0) (breach c) (bytes_at n.0 n.1 >>= ends))) (number_last w16 c more)
    (λ n d is le e. lasts_if end more least (ltb 128 n) _ _ _ _ refl
    (lasts_if end more least (eqb n 0) _ _ _ _ (lasts_breach end more least c (omega (arith, le, e)))
    (lasts_then end more (d.place + n) least (bytes_at n d) (bytes_at n (longer more d)) ends (moved n (d.place + n) end more (bytes_at n) (bytes_last n) d e (omega arith))
    (λ b f is' le' e'. lasts_if end more least (is_utf8 b && not (is_among b before)) _ _ _ _ (lasts_ok end more least b f (omega (arith, le, le')) e') (lasts_breach end more least c (omega (arith, le, e)))))))

kind_last : IsLastingReader 0 kind_at
unfolding kind_at
kind_last c more =
    let end = end_of c in
    let least = c.place + 0 in
    lasts_then end more (c.place + 1) least (byte_in c) (byte_in (longer more c))
    (λ b. cond (eqb b.0 1) (Ok (kinds.Int, b.1)) (cond (eqb b.0 2) (Ok (kinds.Long, b.1)) (cond (eqb b.0 3) (Ok (kinds.Text, b.1)) (cond (eqb b.0 4) (Ok (kinds.Bool, b.1)) (cond (eqb b.0 5) (Ok (kinds.Time, b.1)) (breach c)))))) (byte_last c more)
    (λ b d is le e.
    let ok = λ (k : Kind). lasts_ok end more least k d (omega (arith, le)) e in
    lasts_if end more least (eqb b 1) _ _ _ _ (ok kinds.Int) (lasts_if end more least (eqb b 2) _ _ _ _ (ok kinds.Long) (lasts_if end more least (eqb b 3) _ _ _ _ (ok kinds.Text)
    (lasts_if end more least (eqb b 4) _ _ _ _ (ok kinds.Bool) (lasts_if end more least (eqb b 5) _ _ _ _ (ok kinds.Time) (lasts_breach end more least c (omega (arith, le, e))))))))

cardinality_last : (rows : ℕ) → IsLastingReader 0 (cardinality_at rows)
unfolding cardinality_at
cardinality_last rows c more =
    let end = end_of c in
    lasts_then end more (c.place + 4) (c.place + 0) (number_at w32 c) (number_at w32 (longer more c)) (λ n. cond (eqb n.0 0 && ltb 0 rows) (breach c) (Ok n)) (number_last w32 c more)
    (λ n d is le e. lasts_if end more (c.place + 0) (eqb n 0 && ltb 0 rows) _ _ _ _ (lasts_breach end more (c.place + 0) c (omega (arith, le, e))) (lasts_ok end more (c.place + 0) n d (omega (arith, le)) e))

-- a file with rows has values
some_values : (rows : ℕ) (c : Cursor) (n : ℕ) (d : Cursor) → cardinality_at rows c ≡ Ok (n, d) → 0 < rows → 0 < n
unfolding cardinality_at
some_values rows c n d e some =
    let a = bind_ok (number_at w32 c) (λ m. cond (eqb m.0 0 && ltb 0 rows) (breach c) (done m)) (n, d) e in
    let g = guard_ok (eqb a.0.0 0 && ltb 0 rows) (NotCanonical c.place) (done a.0) (n, d) a.2 in
    subst (λ (y : ℕ × Cursor). 0 < y.0) (ok_is a.0 (n, d) g.1) (not_zero a.0.0 (left_false (eqb a.0.0 0) (ltb 0 rows) g.0 (lt-ltb 0 rows some)))
  where
    left_false : (a b : Bool) → (a && b) ≡ false → b ≡ true → a ≡ false
    left_false true b e t = absurd (true≢false (sym t ∙ e))
    left_false false b e t = refl

this_last : (n : ℕ) → IsLastingReader 0 (this_number n)
this_last n c more =
    let end = end_of c in
    lasts_then end more (c.place + 4) (c.place + 0) (number_at w32 c) (number_at w32 (longer more c)) (λ m. cond (eqb m.0 n) (Ok (tt, m.1)) (breach c)) (number_last w32 c more)
    (λ m d is le e. lasts_if end more (c.place + 0) (eqb m n) _ _ _ _ (lasts_ok end more (c.place + 0) tt d (omega (arith, le)) e) (lasts_breach end more (c.place + 0) c (omega (arith, le, e))))

numbers_last : (ns : List ℕ) → IsLastingReader 0 (numbers_at ns)
unfolding numbers_at
numbers_last [] c more = lasts_ok (end_of c) more (c.place + 0) tt c (omega arith) refl
numbers_last (n ∷ ns) c more =
    let end = end_of c in
    lasts_then end more (c.place + 0) (c.place + 0) (this_number n c) (this_number n (longer more c)) (λ this. numbers_at ns this.1) (this_last n c more)
    (λ x d is le e. moved 0 (c.place + 0) end more (numbers_at ns) (numbers_last ns) d e (omega (arith, le)))

postings_last : (indexed : Bool) (ids : List ℕ) (cardinality : ℕ) → IsLastingReader 0 (postings_at indexed ids cardinality)
unfolding postings_at
postings_last true ids cardinality c more = numbers_last (posting_numbers ids cardinality) c more
postings_last false ids cardinality c more = lasts_ok (end_of c) more (c.place + 0) tt c (omega arith) refl

-- an unused value lies before the ids
abbrev Stays : ℕ → Result (Unit {0}) SegmentRefused → Result (Unit {0}) SegmentRefused → Type 0
Stays end (Ok u) long = long ≡ Ok tt
Stays end (Err e) long = IsLasting end e long

stays_then : {B : Type 0} (least end : ℕ) (more : List ℕ) (r long : Result (Unit {0}) SegmentRefused) (f g : Unit {0} → Read B) → Stays end r long → Lasts least end more (f tt) (g tt) → Lasts least end more (r >>= f) (long >>= g)
stays_then least end more (Ok tt) long f g h lasts = subst (λ l. Lasts least end more (f tt) (l >>= g)) (sym h) lasts
stays_then least end more (Err e) long f g h lasts = lasting_then end e long g h

without_stays : (end : ℕ) (more : List ℕ) (o : Option ℕ) (kind : Kind) (c : Cursor) → ((id : ℕ) → o ≡ Some id → IsBefore (dictionary_at kind false id c) end) → Stays end (without o kind c) (without o kind (longer more c))
without_stays end more None kind c before = refl
without_stays end more (Some id) kind c before =
    let b = before id refl in
    let long = (subst (λ r. Lasts (c.place + id) (end_of c) more r (dictionary_at kind false id (longer more c))) b.is (dictionary_last kind false id c more)).0 in
    subst (λ r. Stays end r (without (Some id) kind (longer more c))) (sym (ap (λ z. z >>= λ x. breach x.1) b.is)) (ap (λ z. z >>= λ x. breach x.1) long, b.early)

unused_below : (count from : ℕ) (ids : List ℕ) (id : ℕ) → first_unused count from ids ≡ Some id → id < from + count
unused_below zero from ids id e = absurd (none-some id e)
unused_below (suc more) from ids id e = elim (cases_Bool (has_id from ids)) [
  | inl used ↦ omega (arith, unused_below more (from + 1) ids id (sym (ap (λ b. cond b (first_unused more (from + 1) ids) (Some from)) used) ∙ e))
  | inr unused ↦ omega (arith, same_Some from id (sym (ap (λ b. cond b (first_unused more (from + 1) ids) (Some from)) unused) ∙ e))
]

module _ (format rows : ℕ) where
  column_last : (before : List (List ℕ)) → IsLastingReader 0 (column_at format rows before)
  unfolding column_at
  column_last before c more =
      let end = end_of c in
      let least = c.place + 0 in
      lasts_then end more least least (name_at before c) (name_at before (longer more c)) _ (name_last before c more) (λ name c1 is1 le1 e1.
      lasts_then end more least least (kind_at c1) (kind_at (longer more c1)) _ (moved 0 least end more kind_at kind_last c1 e1 (omega (arith, le1))) (λ kind c2 is2 le2 e2.
      lasts_then end more least least (bool_at c2) (bool_at (longer more c2)) _ (moved 1 least end more bool_at bool_last c2 e2 (omega (arith, le2))) (λ indexed c3 is3 le3 e3.
      lasts_then end more least least (cardinality_at rows c3) (cardinality_at rows (longer more c3)) _ (moved 0 least end more (cardinality_at rows) (cardinality_last rows) c3 e3 (omega (arith, le3))) (λ card c4 is4 le4 e4.
      lasts_both end more least least (dictionary_at kind (has_extremes format rows) card c4) (dictionary_at kind (has_extremes format rows) card (longer more c4)) _ _ (moved card least end more (dictionary_at kind (has_extremes format rows) card) (dictionary_last kind (has_extremes format rows) card) c4 e4 (omega (arith, le4))) (λ dict c5 is5 le5 e5.
      lasts_both end more least least (ids_at rows card c5) (ids_at rows card (longer more c5)) _ _ (moved 0 least end more (ids_at rows card) (ids_last rows card (some_values rows c3 card c4 is4)) c5 e5 (omega (arith, le5))) (λ ids c6 is6 le6 e6.
      stays_then least end more (without (first_unused card 0 ids) kind c4) (without (first_unused card 0 ids) kind (longer more c4)) _ _ (without_stays end more (first_unused card 0 ids) kind c4 (λ id unused. early kind card c4 dict c5 is5 e5 id (unused_below card 0 ids id unused)))
      (lasts_then end more least least (postings_at indexed ids card c6) (postings_at indexed ids card (longer more c6)) _ (moved 0 least end more (postings_at indexed ids card) (postings_last indexed ids card) c6 e6 (omega (arith, le6))) (λ u c7 is7 le7 e7.
      lasts_ok end more least (record { name = name; dictionary = dict; ids = ids; indexed = indexed }) c7 le7 e7))))))))
    where
      early : (kind : Kind) (card : ℕ) (c4 : Cursor) (dict : Dictionary) (c5 : Cursor) → dictionary_at kind (has_extremes format rows) card c4 ≡ Ok (dict, c5) → end_of c5 ≡ end_of c → (id : ℕ) → id < 0 + card → IsBefore (dictionary_at kind false id c4) (end_of c)
      early kind card c4 dict c5 is5 e5 id lt =
          let b = fewer (has_extremes format rows) id card (omega (arith, lt)) c4 kind dict c5 is5 in
          record { value = b.value; at = b.at; is = b.is; early = omega (arith, b.early, e5) }

  columns_last : (n : ℕ) (before : List (List ℕ)) → IsLastingReader 0 (columns_at format rows n before)
  unfolding columns_at
  columns_last zero before c more = lasts_ok (end_of c) more (c.place + 0) [] c (omega arith) refl
  columns_last (suc n) before c more =
      let end = end_of c in
      let least = c.place + 0 in
      lasts_then end more least least (column_at format rows before c) (column_at format rows before (longer more c)) (λ first. columns_at format rows n (before ++ first.0.name ∷ []) first.1 >>= λ others. Ok (first.0 ∷ others.0, others.1)) (column_last before c more) (λ x d is le e.
      lasts_then end more least least (columns_at format rows n (before ++ x.name ∷ []) d) (columns_at format rows n (before ++ x.name ∷ []) (longer more d)) (λ others. Ok (x ∷ others.0, others.1)) (moved 0 least end more (columns_at format rows n (before ++ x.name ∷ [])) (columns_last n (before ++ x.name ∷ [])) d e (omega (arith, le))) (λ xs f is' le' e'.
      lasts_ok end more least (x ∷ xs) f le' e'))

-- ---- the header and the body

format_last : IsLastingReader 0 format_at
unfolding format_at
format_last c more =
    let end = end_of c in
    let least = c.place + 0 in
    lasts_then end more (c.place + 8) least (bytes_at 8 c) (bytes_at 8 (longer more c)) (λ m. format_of m.0 >>= λ format. Ok (format, m.1)) (bytes_last 8 c more) (λ m d is le e.
    same_then least end more (format_of m) (λ format. Ok (format, d)) (λ format. Ok (format, longer more d))
    (within_if end (bytes_eq m (codes "PNRTSEG1")) (Ok 1) (cond (bytes_eq m (codes "PNRTSEG2")) (Ok 2) (Err Magic)) (λ _. tt) (λ _. within_if end (bytes_eq m (codes "PNRTSEG2")) (Ok 2) (Err Magic) (λ _. tt) (λ _. refl)))
    (λ format. lasts_ok end more least format d (omega (arith, le)) e))

range_last : IsLastingReader 0 range_at
unfolding range_at
range_last c more =
    let end = end_of c in
    let least = c.place + 0 in
    lasts_then end more (c.place + 8) least (number_at w64 c) (number_at w64 (longer more c)) _ (number_last w64 c more) (λ start d is le e.
    lasts_then end more (d.place + 8) least (number_at w64 d) (number_at w64 (longer more d)) _ (moved 8 (d.place + 8) end more (number_at w64) (number_last w64) d e (omega arith)) (λ stop f is' le' e'.
    lasts_if end more least (ltb start stop) _ _ _ _ (lasts_ok end more least (record { start = record { 0 = start }; end = record { 0 = stop } }) f (omega (arith, le, le')) e') (lasts_breach end more least d (omega (arith, le', e')))))

rows_last : (range : Range) → IsLastingReader 0 (rows_at range)
unfolding rows_at
rows_last range c more =
    let end = end_of c in
    let least = c.place + 0 in
    lasts_then end more (c.place + 4) least (number_at w32 c) (number_at w32 (longer more c)) _ (number_last w32 c more) (λ n d is le e.
    lasts_if end more least (ltb 1000000 n) _ _ _ _ refl (lasts_if end more least (ltb (range.end.0 - range.start.0) n) _ _ _ _ (lasts_breach end more least c (omega (arith, le, e))) (lasts_ok end more least n d (omega (arith, le)) e)))

count_last : IsLastingReader 0 column_count_at
unfolding column_count_at
count_last c more =
    let end = end_of c in
    let least = c.place + 0 in
    lasts_then end more (c.place + 2) least (number_at w16 c) (number_at w16 (longer more c)) _ (number_last w16 c more) (λ n d is le e.
    lasts_if end more least (ltb 256 n) _ _ _ _ refl (lasts_if end more least (eqb n 0) _ _ _ _ (lasts_breach end more least c (omega (arith, le, e))) (lasts_ok end more least n d (omega (arith, le)) e)))

pub body_last : IsLastingReader 0 body_at
unfolding body_at
body_last c more =
    let end = end_of c in
    let least = c.place + 0 in
    lasts_then end more least least (format_at c) (format_at (longer more c)) _ (format_last c more) (λ format c1 is1 le1 e1.
    lasts_then end more least least (number_at w32 c1) (number_at w32 (longer more c1)) _ (moved 4 least end more (number_at w32) (number_last w32) c1 e1 (omega (arith, le1))) (λ partition c2 is2 le2 e2.
    lasts_then end more least least (number_at w32 c2) (number_at w32 (longer more c2)) _ (moved 4 least end more (number_at w32) (number_last w32) c2 e2 (omega (arith, le2))) (λ sequence c3 is3 le3 e3.
    lasts_then end more least least (range_at c3) (range_at (longer more c3)) _ (moved 0 least end more range_at range_last c3 e3 (omega (arith, le3))) (λ range c4 is4 le4 e4.
    lasts_then end more least least (rows_at range c4) (rows_at range (longer more c4)) _ (moved 0 least end more (rows_at range) (rows_last range) c4 e4 (omega (arith, le4))) (λ rows c5 is5 le5 e5.
    lasts_then end more least least (column_count_at c5) (column_count_at (longer more c5)) _ (moved 0 least end more column_count_at count_last c5 e5 (omega (arith, le5))) (λ count c6 is6 le6 e6.
    lasts_then end more least least (columns_at format rows count [] c6) (columns_at format rows count [] (longer more c6)) _ (moved 0 least end more (columns_at format rows count []) (columns_last format rows count []) c6 e6 (omega (arith, le6))) (λ columns c7 is7 le7 e7.
    lasts_ok end more least (record { format = format; partition = record { 0 = partition }; sequence = record { 0 = sequence }; range = range; rows = rows; columns = columns }) c7 le7 e7)))))))

-- ---- the file

abbrev begin : List ℕ → Cursor
begin bytes = record { place = 0; left = bytes }

abbrev read_body : SealedSegment → Cursor → Read SealedSegment
read_body x d = Ok (x, d)

not_read : (x : SealedSegment) (e : SegmentRefused) (d : Cursor) → read_body x d ≡ Err e → ⊥
not_read x e d h = absurd cc

-- a file that is cut lacks bytes
module _ (x : SealedSegment) (good : IsSealed x) (front rest : List ℕ) (whole : front ++ rest ≡ file_of x) (some : 0 < length rest) where
  whole_body : Reads (begin (front ++ rest)) (body_of x) (sha256 (body_of x)) (body_at (begin (front ++ rest))) x
  whole_body = body_again (begin (front ++ rest)) x (sha256 (body_of x)) good whole

  lacking : (b : Read SealedSegment) → body_at (begin front) ≡ b → Lasts 0 (end_of (begin front)) rest b (body_at (begin (front ++ rest))) → read_file front ≡ Err Truncated
  unfolding read_file
  lacking (Ok (y, d)) e h =
      let same : read_body y (longer rest d) ≡ read_body x whole_body.end = sym h.0 ∙ whole_body.is in
      let left : d.left ++ rest ≡ sha256 (body_of x) = ap left_in same ∙ whole_body.left in
      let short : ltb (length d.left) 32 ≡ true = lt-ltb _ _ (omega (arith, ap length left, length-append d.left rest, length-sha256 (body_of x), some)) in
      rw (e, short) refl
    where
      left_in : Read SealedSegment → List ℕ
      left_in (Ok z) = z.1.left
      left_in (Err f) = []
  lacking (Err Truncated) e h = rw e refl
  lacking (Err Magic) e h = absurd (not_read x Magic whole_body.end (sym whole_body.is ∙ h))
  lacking (Err (NotCanonical byte)) e h = absurd (not_read x (NotCanonical byte) whole_body.end (sym whole_body.is ∙ h.0))
  lacking (Err Digest) e h = absurd (not_read x Digest whole_body.end (sym whole_body.is ∙ h))
  lacking (Err Limit) e h = absurd (not_read x Limit whole_body.end (sym whole_body.is ∙ h))
  lacking (Err Memory) e h = absurd (not_read x Memory whole_body.end (sym whole_body.is ∙ h))

  cut : read_file front ≡ Err Truncated
  cut = lacking (body_at (begin front)) refl (body_last (begin front) rest)

pub cut_file : (x : SealedSegment) → IsSealed x → (front rest : List ℕ) → front ++ rest ≡ file_of x → 0 < length rest → read_file front ≡ Err Truncated
cut_file x good front rest whole some = cut x good front rest whole some

-- ---- before a breach

abbrev refused : SegmentRefused → Result SealedSegment SegmentRefused
refused e = Err e

-- the digest, and what stands behind it
abbrev ends : SealedSegment → List ℕ → Cursor → Result SealedSegment SegmentRefused
ends y bytes c = bytes_at 32 c >>= λ digest. cond (bytes_eq digest.0 (sha256 (take c.place bytes))) (cond (eqb (length digest.1.left) 0) (Ok y) (breach digest.1)) (Err Digest)

one_way : (y : SealedSegment) (p q : ℕ) (b z : Bool) → cond b (cond z (Ok y) (refused (NotCanonical q))) (refused Digest) ≡ refused (NotCanonical p) → (b ≡ true) × (z ≡ false) × (q ≡ p)
one_way y p q true true e = absurd cc
one_way y p q true false e = (refl, refl, cc)
one_way y p q false z e = absurd cc

lacks : (p : ℕ) → refused Truncated ≡ refused (NotCanonical p) → ⊥
lacks p e = absurd cc

no_magic : (p : ℕ) → refused Magic ≡ refused (NotCanonical p) → ⊥
no_magic p e = absurd cc

no_digest : (p : ℕ) → refused Digest ≡ refused (NotCanonical p) → ⊥
no_digest p e = absurd cc

no_limit : (p : ℕ) → refused Limit ≡ refused (NotCanonical p) → ⊥
no_limit p e = absurd cc

no_memory : (p : ℕ) → refused Memory ≡ refused (NotCanonical p) → ⊥
no_memory p e = absurd cc

byte_is : (q p : ℕ) → refused (NotCanonical q) ≡ refused (NotCanonical p) → q ≡ p
byte_is q p e = cc

-- bytes stand behind the right digest
record IsLong (bytes : List ℕ) (c : Cursor) (p : ℕ) : Type 0 where
  right : bytes_eq (take 32 c.left) (sha256 (take c.place bytes)) ≡ true
  behind : 32 < length c.left
  at : c.place + 32 ≡ p

is_long : (y : SealedSegment) (bytes : List ℕ) (c : Cursor) (p : ℕ) → ends y bytes c ≡ refused (NotCanonical p) → IsLong bytes c p
is_long y bytes c p e = elim (cases_Bool (ltb (length c.left) 32)) [
  | inl short ↦ let told : ends y bytes c ≡ refused Truncated = rw short refl in absurd (lacks p (sym told ∙ e))
  | inr enough ↦
      let told : ends y bytes c ≡ cond (bytes_eq (take 32 c.left) (sha256 (take c.place bytes))) (cond (eqb (length (drop 32 c.left)) 0) (Ok y) (refused (NotCanonical (c.place + 32)))) (refused Digest) = rw enough refl in
      let h = one_way y p (c.place + 32) (bytes_eq (take 32 c.left) (sha256 (take c.place bytes))) (eqb (length (drop 32 c.left)) 0) (sym told ∙ e) in
      let some : 1 ≤ length (drop 32 c.left) = not_zero (length (drop 32 c.left)) h.1 in
      record { right = h.0; behind = omega (arith, some, length-drop 32 c.left, ltb-false _ _ enough); at = h.2 }
]

-- with nothing behind the right digest it is a file
is_file : (y : SealedSegment) (bytes : List ℕ) (c : Cursor) → length c.left ≡ 32 → bytes_eq (take 32 c.left) (sha256 (take c.place bytes)) ≡ true → ends y bytes c ≡ Ok y
is_file y bytes c size right =
    let enough : ltb (length c.left) 32 ≡ false = le-ltb _ _ (omega (arith, size)) in
    let nothing : eqb (length (drop 32 c.left)) 0 ≡ true = eq-eqb _ _ (omega (arith, length-drop 32 c.left, size)) in
    rw (enough, right, nothing) refl

abbrev IsFileOrShort : List ℕ → Type 0
IsFileOrShort bytes = (read_file bytes ≡ Err Truncated) ⊎ ((segment : SealedSegment) × (read_file bytes ≡ Ok segment))

module _ (front rest : List ℕ) (p : ℕ) (few : length front ≤ p) (most : 0 < length rest → length front ≡ p) (told : read_file (front ++ rest) ≡ refused (NotCanonical p)) where
  fault_is : (f : SegmentRefused) → body_at (begin (front ++ rest)) ≡ Err f → refused f ≡ refused (NotCanonical p)
  unfolding read_file
  fault_is f e = sym (ap (λ z. z >>= λ body. ends body.0 (front ++ rest) body.1) e) ∙ told

  whole_is : (y : SealedSegment) (d : Cursor) → body_at (begin (front ++ rest)) ≡ read_body y d → ends y (front ++ rest) d ≡ refused (NotCanonical p)
  unfolding read_file
  whole_is y d e = sym (ap (λ z. z >>= λ body. ends body.0 (front ++ rest) body.1) e) ∙ told

  before : (b : Read SealedSegment) → body_at (begin front) ≡ b → Lasts 0 (end_of (begin front)) rest b (body_at (begin (front ++ rest))) → IsFileOrShort front
  unfolding read_file
  before (Ok (y, d)) e h =
      let long = is_long y (front ++ rest) (longer rest d) p (whole_is y (longer rest d) h.0) in
      let reached : d.place + length d.left ≡ length front = omega (arith, h.2) in
      let size : length d.left ≡ 32 = exactly d.place (length d.left) (length rest) refl reached (subst (λ n. 32 < n) (length-append d.left rest) long.behind) long.at in
      let text : take 32 d.left ≡ take 32 (d.left ++ rest) = sym (take-append-le 32 d.left rest (omega (arith, size))) in
      let body : take d.place front ≡ take d.place (front ++ rest) = sym (take-append-le d.place front rest (omega (arith, reached))) in
      let right : bytes_eq (take 32 d.left) (sha256 (take d.place front)) ≡ true = ap (λ t. bytes_eq t (sha256 (take d.place front))) text ∙ ap (λ t. bytes_eq (take 32 (d.left ++ rest)) (sha256 t)) body ∙ long.right in
      inr (y, ap (λ z. z >>= λ body. ends body.0 front body.1) e ∙ is_file y front d size right)
    where
      exactly : (place left behind : ℕ) → behind ≡ length rest → place + left ≡ length front → 32 < left + behind → place + 32 ≡ p → left ≡ 32
      exactly place left zero none reached long at = absurd (omega (arith, few, reached, long, at))
      exactly place left (suc more) some reached long at = omega (arith, reached, at, most (omega (arith, some)))
  before (Err Truncated) e h = inl (rw e refl)
  before (Err Magic) e h = absurd (no_magic p (fault_is Magic h))
  before (Err (NotCanonical byte)) e h = absurd (omega (arith, few, h.1, byte_is byte p (fault_is (NotCanonical byte) h.0)))
  before (Err Digest) e h = absurd (no_digest p (fault_is Digest h))
  before (Err Limit) e h = absurd (no_limit p (fault_is Limit h))
  before (Err Memory) e h = absurd (no_memory p (fault_is Memory h))

module _ (bytes : List ℕ) (p : ℕ) (told : read_file bytes ≡ refused (NotCanonical p)) where
  fault_in : (f : SegmentRefused) → body_at (begin bytes) ≡ Err f → refused f ≡ refused (NotCanonical p)
  unfolding read_file
  fault_in f e = sym (ap (λ z. z >>= λ body. ends body.0 bytes body.1) e) ∙ told

  file_in : (y : SealedSegment) (d : Cursor) → body_at (begin bytes) ≡ read_body y d → ends y bytes d ≡ refused (NotCanonical p)
  unfolding read_file
  file_in y d e = sym (ap (λ z. z >>= λ body. ends body.0 bytes body.1) e) ∙ told

  within : (b : Read SealedSegment) → body_at (begin bytes) ≡ b → Lasts 0 (end_of (begin bytes)) [] b (body_at (longer [] (begin bytes))) → p < length bytes
  within (Ok (y, d)) e h = let long = is_long y bytes d p (file_in y d e) in omega (arith, h.2, long.behind, long.at)
  within (Err Truncated) e h = absurd (lacks p (fault_in Truncated e))
  within (Err Magic) e h = absurd (no_magic p (fault_in Magic e))
  within (Err (NotCanonical byte)) e h = omega (arith, h.1, byte_is byte p (fault_in (NotCanonical byte) e))
  within (Err Digest) e h = absurd (no_digest p (fault_in Digest e))
  within (Err Limit) e h = absurd (no_limit p (fault_in Limit e))
  within (Err Memory) e h = absurd (no_memory p (fault_in Memory e))

pub breach_within : (bytes : List ℕ) (p : ℕ) → read_file bytes ≡ Err (NotCanonical p) → p < length bytes
breach_within bytes p told = within bytes p told (body_at (begin bytes)) refl (body_last (begin bytes) [])

pub before_breach : (bytes : List ℕ) (p : ℕ) → read_file bytes ≡ Err (NotCanonical p) → IsFileOrShort (take p bytes)
before_breach bytes p e =
    before (take p bytes) (drop p bytes) p (omega (arith, length-take p bytes)) (λ some. omega (arith, length-take p bytes, length-drop p bytes, some)) (ap read_file (take-append-drop p bytes) ∙ e)
    (body_at (begin (take p bytes))) refl (body_last (begin (take p bytes)) (drop p bytes))
