-- A column that is read is spelled so, and what is spelled so is read.
use Rattle.std.proofs.Common.{◌≡◌, ℕ, zero, suc, ◌+◌, ◌-◌, ◌^◌, ◌<◌, ◌≤◌, Bool, true, false, cond, eqb, ltb, List, [], ◌∷◌, ◌++◌, length, get_or, map, filter, Option, Some, None, Result, Ok, Err, refl, sym, ap, subst, ◌∙◌, append_assoc, arith, inl, inr, ⊎_elim}
use Rattle.std.specs.Prelude.{not, ◌&&◌, ◌||◌, ◌⊎◌, ◌==◌}
use Rattle.std.specs.Int.{w16, w32, to_be_bytes}
use Rattle.std.specs.List.{All, AllByRecursion, Contains, flat_map, range_with_len}
use Rattle.std.specs.Str.{IsUtf8, is_utf8}
use Rattle.std.proofs.lemmas.Bool.{cases_Bool, false≢true, true≢false, ltb-false, le-ltb, lt-ltb, eqb-true, eq-eqb, ne_eqb}
use Rattle.std.proofs.lemmas.List.{length-append}
use Rattle.std.proofs.lemmas.List.Elements.{All-head, All-tail, All-cons, All-weaker, All-from_get_or}
use Rattle.std.proofs.lemmas.Str.{IsUtf8-from_is_utf8, is_utf8-from_IsUtf8}
use Rattle.rt_pack.specs.Packed.{bytes_for, packed, unpacked, spare_bits}
use Rattle.rt_pack.specs.Width.{width_of}
use Rattle.rt_pack.proofs.BitLists.{AllFit}
use Rattle.rt_pack.proofs.LeastWidth.{width_of_is}
use Rattle.rt_pack.proofs.Laws.{packed_unpacked, unpacked_packed, packed_spare, length_packed, length_unpacked}
use Rattle.rt_postings.specs.Postings.{rows_of}
use Rattle.rt_schema.specs.Schema.{is_among}
use Rattle.rt_schema.specs.declared.column.Kind.{Kind}
use Rattle.rt_schema.specs.declared.column.Kind.TheVariants as kinds
use Rattle.rt_segment.specs.declared.dictionary.Dictionary.{Dictionary}
use Rattle.rt_segment.specs.declared.dictionary.Dictionary.TheVariants.{Int, Long, Text, Bool as Truth, Time}
use Rattle.rt_segment.specs.declared.segment_refused.SegmentRefused.{SegmentRefused}
use Rattle.rt_segment.specs.declared.segment_refused.SegmentRefused.TheVariants.{NotCanonical, Limit}
use Rattle.rt_segment.specs.Cursor.{Cursor, Read, ◌>>=◌, breach, bytes_at, number_at, byte_in}
use Rattle.rt_segment.specs.Column.{SealedColumn, count_in, kind_in, IsColumn, IsDictionary}
use Rattle.rt_segment.specs.Segment.{IsColumnOf}
use Rattle.rt_segment.specs.Reading.{name_at, kind_at, bool_at, cardinality_at, dictionary_at, ids_at, ids_in, checked_ids, first_past, are_clear, first_unused, without, has_id, this_number, numbers_at, postings_at, column_at}
use Rattle.rt_segment.specs.Spelling.{word, bool_bytes, kind_byte, column_head, packed_ids, dictionary_bytes, posting_numbers, postings_bytes, has_extremes, column_bytes}
use Rattle.rt_segment.proofs.Fields.{IsBytes, bind_ok, guard_ok, test_ok, done, ok_is, Takes, takes_then, takes_none, Reads, bytes_take, bytes_again, field16, field32, bool_field, byte_taken, byte_again}
use Rattle.rt_segment.proofs.DictionaryLaws.{dictionary_take, dictionary_reads}
use Rattle.rt_segment.proofs.Ids.{none_past, all_used}

-- ---- the name

abbrev pub name_bytes : List ℕ → List ℕ
name_bytes n = to_be_bytes w16 (length n) ++ n

pub record IsName (before : List (List ℕ)) (name : List ℕ) : Type 0 where
  pub valid : IsUtf8 name
  pub sized : (1 ≤ length name) × (length name ≤ 128)
  pub new : is_among name before ≡ false

both_true : (a b : Bool) → (a && not b) ≡ true → (a ≡ true) × (b ≡ false)
both_true true false e = (refl, refl)
both_true true true e = absurd (false≢true e)
both_true false b e = absurd (false≢true e)

pub not_zero : (n : ℕ) → eqb n 0 ≡ false → 1 ≤ n
not_zero zero e = absurd (true≢false e)
not_zero (suc n) e = omega arith

name_takes : (before : List (List ℕ)) (c : Cursor) (x : List ℕ) (d : Cursor) → IsBytes c.left → name_at before c ≡ Ok (x, d) → Takes c (name_bytes x) d × IsName before x
unfolding name_at
name_takes before c x d bytes e =
    let good = λ (b : List ℕ × Cursor). cond (is_utf8 b.0 && not (is_among b.0 before)) (done b) (breach c) in
    let n = bind_ok (number_at w16 c) (λ n. cond (ltb 128 n.0) (Err Limit) (cond (eqb n.0 0) (breach c) (bytes_at n.0 n.1 >>= good))) (x, d) e in
    let t = field16.takes c n.0.0 n.0.1 bytes n.1 in
    let few = guard_ok (ltb 128 n.0.0) Limit (cond (eqb n.0.0 0) (breach c) (bytes_at n.0.0 n.0.1 >>= good)) (x, d) n.2 in
    let some = guard_ok (eqb n.0.0 0) (NotCanonical c.place) (bytes_at n.0.0 n.0.1 >>= good) (x, d) few.1 in
    let b = bind_ok (bytes_at n.0.0 n.0.1) good (x, d) some.1 in
    let s = bytes_take n.0.0 n.0.1 b.0.0 b.0.1 t.0.rest b.1 in
    let g = test_ok (is_utf8 b.0.0 && not (is_among b.0.0 before)) (NotCanonical c.place) (done b.0) (x, d) b.2 in
    let two = both_true (is_utf8 b.0.0) (is_among b.0.0 before) g.0 in
    let both = takes_then c (to_be_bytes w16 n.0.0) n.0.1 b.0.0 b.0.1 t.0 s.0 in
    let whole : Takes c (name_bytes b.0.0) b.0.1 = subst (λ (k : ℕ). Takes c (to_be_bytes w16 k ++ b.0.0) b.0.1) (sym s.1) both in
    let most : n.0.0 ≤ 128 = ltb-false _ _ few.0 in
    subst (λ (p : List ℕ × Cursor). Takes c (name_bytes p.0) p.1 × IsName before p.0) (ok_is b.0 (x, d) g.1)
    (whole, record { valid = IsUtf8-from_is_utf8 b.0.0 two.0; sized = (omega (arith, s.1, not_zero n.0.0 some.0), omega (arith, s.1, most)); new = two.1 })

name_again : (before : List (List ℕ)) (c : Cursor) (x rest : List ℕ) → IsName before x → c.left ≡ name_bytes x ++ rest → Reads c (name_bytes x) rest (name_at before c) x
unfolding name_at
name_again before c x rest good e =
    let ends = λ (b : List ℕ × Cursor). cond (is_utf8 b.0 && not (is_among b.0 before)) (done b) (breach c) in
    let n = field16.again c (length x) (x ++ rest) (omega (arith, good.sized.1)) (e ∙ append_assoc (to_be_bytes w16 (length x)) x rest) in
    let b = bytes_again (length x) n.end x rest refl n.left in
    let few : ltb 128 (length x) ≡ false = le-ltb _ _ good.sized.1 in
    let some : eqb (length x) 0 ≡ false = ne_eqb (length x) 0 (λ z. omega (arith, z, good.sized.0)) in
    let valid : (is_utf8 x && not (is_among x before)) ≡ true = ap (λ t. t && not (is_among x before)) (is_utf8-from_IsUtf8 x good.valid) ∙ ap not good.new in
    record {
      end = b.end;
      is = ap (λ r. r >>= λ n. cond (ltb 128 n.0) (Err Limit) (cond (eqb n.0 0) (breach c) (bytes_at n.0 n.1 >>= ends))) n.is
          ∙ ap (λ t. cond t (Err Limit) (cond (eqb (length x) 0) (breach c) (bytes_at (length x) n.end >>= ends))) few
          ∙ ap (λ t. cond t (breach c) (bytes_at (length x) n.end >>= ends)) some
          ∙ ap (λ r. r >>= ends) b.is
          ∙ ap (λ t. cond t (done (x, b.end)) (breach c)) valid;
      left = b.left;
      place = omega (arith, b.place, n.place, length-append (to_be_bytes w16 (length x)) x);
    }

-- ---- the kind

abbrev kind_read : Kind → Cursor → Read Kind
kind_read k d = Ok (k, d)

either_way : (b m : ℕ) (k : Kind) (d : Cursor) (r : Read Kind) (x : Kind) (f : Cursor) → cond (eqb b m) (kind_read k d) r ≡ kind_read x f → ((b ≡ m) × (kind_read k d ≡ kind_read x f)) ⊎ (r ≡ kind_read x f)
either_way b m k d r x f e = elim (cases_Bool (eqb b m)) [
  | inl same ↦ inl (eqb-true b m same, sym (ap (λ t. cond t (kind_read k d) r) same) ∙ e)
  | inr apart ↦ inr (sym (ap (λ t. cond t (kind_read k d) r) apart) ∙ e)
]

kind_takes : (c : Cursor) (x : Kind) (d : Cursor) → IsBytes c.left → kind_at c ≡ Ok (x, d) → Takes c (kind_byte x ∷ []) d
unfolding kind_at
kind_takes c x d bytes e =
    let five = λ (b : ℕ × Cursor). cond (eqb b.0 5) (kind_read kinds.Time b.1) (breach c) in
    let four = λ (b : ℕ × Cursor). cond (eqb b.0 4) (kind_read kinds.Bool b.1) (five b) in
    let three = λ (b : ℕ × Cursor). cond (eqb b.0 3) (kind_read kinds.Text b.1) (four b) in
    let two = λ (b : ℕ × Cursor). cond (eqb b.0 2) (kind_read kinds.Long b.1) (three b) in
    let b = bind_ok (byte_in c) (λ b. cond (eqb b.0 1) (kind_read kinds.Int b.1) (two b)) (x, d) e in
    let t = byte_taken c b.0.0 b.0.1 bytes b.1 in
    let so : (k : Kind) → b.0.0 ≡ kind_byte k → kind_read k b.0.1 ≡ kind_read x d → Takes c (kind_byte x ∷ []) d =
    λ k same told. subst (λ (y : Kind × Cursor). Takes c (kind_byte y.0 ∷ []) y.1) (ok_is (k, b.0.1) (x, d) told) (subst (λ (n : ℕ). Takes c (n ∷ []) b.0.1) same t) in
    ⊎_elim (λ h. so kinds.Int h.0 h.1) (λ e2.
    ⊎_elim (λ h. so kinds.Long h.0 h.1) (λ e3.
    ⊎_elim (λ h. so kinds.Text h.0 h.1) (λ e4.
    ⊎_elim (λ h. so kinds.Bool h.0 h.1) (λ e5.
    let g = test_ok (eqb b.0.0 5) (NotCanonical c.place) (kind_read kinds.Time b.0.1) (x, d) e5 in so kinds.Time (eqb-true b.0.0 5 g.0) g.1)
    (either_way b.0.0 4 kinds.Bool b.0.1 (five b.0) x d e4))
    (either_way b.0.0 3 kinds.Text b.0.1 (four b.0) x d e3))
    (either_way b.0.0 2 kinds.Long b.0.1 (three b.0) x d e2))
    (either_way b.0.0 1 kinds.Int b.0.1 (two b.0) x d b.2)

kind_again : (c : Cursor) (x : Kind) (rest : List ℕ) → c.left ≡ (kind_byte x ∷ []) ++ rest → Reads c (kind_byte x ∷ []) rest (kind_at c) x
unfolding kind_at
kind_again c kinds.Int rest e = let r = byte_again c 1 rest e in record { end = r.end; is = rw r.is refl; left = r.left; place = r.place }
kind_again c kinds.Long rest e = let r = byte_again c 2 rest e in record { end = r.end; is = rw r.is refl; left = r.left; place = r.place }
kind_again c kinds.Text rest e = let r = byte_again c 3 rest e in record { end = r.end; is = rw r.is refl; left = r.left; place = r.place }
kind_again c kinds.Bool rest e = let r = byte_again c 4 rest e in record { end = r.end; is = rw r.is refl; left = r.left; place = r.place }
kind_again c kinds.Time rest e = let r = byte_again c 5 rest e in record { end = r.end; is = rw r.is refl; left = r.left; place = r.place }

-- ---- the cardinality

cardinality_takes : (rows : ℕ) (c : Cursor) (n : ℕ) (d : Cursor) → IsBytes c.left → cardinality_at rows c ≡ Ok (n, d) → Takes c (word n) d × (n < 2 ^ 32)
unfolding cardinality_at
cardinality_takes rows c n d bytes e =
    let a = bind_ok (number_at w32 c) (λ m. cond (eqb m.0 0 && ltb 0 rows) (breach c) (done m)) (n, d) e in
    let g = guard_ok (eqb a.0.0 0 && ltb 0 rows) (NotCanonical c.place) (done a.0) (n, d) a.2 in
    subst (λ (p : ℕ × Cursor). Takes c (word p.0) p.1 × (p.0 < 2 ^ 32)) (ok_is a.0 (n, d) g.1) (field32.takes c a.0.0 a.0.1 bytes a.1)

and_false : (a b : Bool) → (a ≡ true → b ≡ false) → (a && b) ≡ false
and_false true b h = h refl
and_false false b h = refl

cardinality_again : (rows : ℕ) (c : Cursor) (n : ℕ) (rest : List ℕ) → n < 2 ^ 32 → (0 < rows → 0 < n) → c.left ≡ word n ++ rest → Reads c (word n) rest (cardinality_at rows c) n
unfolding cardinality_at
cardinality_again rows c n rest few some e =
    let r = field32.again c n rest few e in
    let good : (eqb n 0 && ltb 0 rows) ≡ false = and_false (eqb n 0) (ltb 0 rows) (λ z. le-ltb 0 rows (least n rows some (eqb-true n 0 z))) in
    record { end = r.end; is = ap (λ z. z >>= λ m. cond (eqb m.0 0 && ltb 0 rows) (breach c) (done m)) r.is ∙ ap (λ t. cond t (breach c) (done (n, r.end))) good; left = r.left; place = r.place }
  where
    least : (n rows : ℕ) → (0 < rows → 0 < n) → n ≡ 0 → rows ≤ 0
    least n zero some z = omega arith
    least n (suc rows) some z = absurd (omega (arith, some (omega arith), z))

-- ---- the ids

all_clear : (bits : List ℕ) → are_clear bits ≡ true → All (λ bit. bit ≡ 0) bits
all_clear [] e = λ k d l. absurd (omega (arith, l))
all_clear (bit ∷ bits) e = elim (cases_Bool (eqb bit 0)) [
  | inl zero_is ↦ All-cons (λ b. b ≡ 0) bit bits (eqb-true bit 0 zero_is) (all_clear bits (sym (ap (λ t. t && are_clear bits) zero_is) ∙ e))
  | inr set_is ↦ absurd (false≢true (sym (ap (λ t. t && are_clear bits) set_is) ∙ e))
]

clear_all : (bits : List ℕ) → All (λ bit. bit ≡ 0) bits → are_clear bits ≡ true
clear_all [] all = refl
clear_all (bit ∷ bits) all = ap (λ t. t && are_clear bits) (eq-eqb bit 0 (All-head (λ b. b ≡ 0) bit bits all)) ∙ clear_all bits (All-tail (λ b. b ≡ 0) bit bits all)

past_none : (cardinality row : ℕ) (ids : List ℕ) → All (λ id. id < cardinality) ids → first_past cardinality row ids ≡ None
past_none cardinality row [] all = refl
past_none cardinality row (id ∷ ids) all =
    ap (λ t. cond t (first_past cardinality (row + 1) ids) (Some row)) (lt-ltb id cardinality (All-head (λ i. i < cardinality) id ids all))
    ∙ past_none cardinality (row + 1) ids (All-tail (λ i. i < cardinality) id ids all)

pub record AreIds (rows cardinality : ℕ) (ids : List ℕ) : Type 0 where
  pub count : length ids ≡ rows
  pub known : All (λ id. id < cardinality) ids

bytes_fit : (bytes : List ℕ) → IsBytes bytes → AllFit 8 bytes
bytes_fit bytes fits = All-from_get_or (λ n. n < 2 ^ 8) bytes 0 (λ i l. fits i)

checked : (width rows cardinality place : ℕ) (bytes : List ℕ) (o : Option ℕ) (ids : List ℕ) → IsBytes bytes → length bytes ≡ bytes_for width rows → first_past cardinality 0 (unpacked width rows bytes) ≡ o
    → checked_ids width rows place bytes o (unpacked width rows bytes) ≡ done ids → (packed width ids ≡ bytes) × AreIds rows cardinality ids
checked width rows cardinality place bytes (Some row) ids fits len first e = absurd cc
checked width rows cardinality place bytes None ids fits len first e =
    let u = unpacked width rows bytes in
    let g = test_ok (are_clear (spare_bits width rows bytes)) (NotCanonical (place + length bytes - 1)) (done u) ids e in
    subst (λ x. (packed width x ≡ bytes) × AreIds rows cardinality x) (ok_is u ids g.1)
    (packed_unpacked width rows bytes (bytes_fit bytes fits) len (all_clear (spare_bits width rows bytes) g.0), record { count = length_unpacked width rows bytes; known = none_past cardinality 0 u first })

ids_take : (rows cardinality : ℕ) (c : Cursor) (x : List ℕ) (d : Cursor) → IsBytes c.left → ids_at rows cardinality c ≡ Ok (x, d) → Takes c (packed (width_of cardinality) x) d × AreIds rows cardinality x
unfolding ids_at
ids_take rows cardinality c x d bytes e =
    let width = width_of cardinality in
    let b = bind_ok (bytes_at (bytes_for width rows) c) (λ bytes. ids_in width cardinality rows c.place bytes.0 >>= λ ids. done (ids, bytes.1)) (x, d) e in
    let s = bytes_take (bytes_for width rows) c b.0.0 b.0.1 bytes b.1 in
    let i = bind_ok (ids_in width cardinality rows c.place b.0.0) (λ ids. done (ids, b.0.1)) (x, d) b.2 in
    let h = checked width rows cardinality c.place b.0.0 (first_past cardinality 0 (unpacked width rows b.0.0)) i.0 s.2 s.1 refl i.1 in
    let made : List ℕ × Cursor = (i.0, b.0.1) in
    subst (λ (p : List ℕ × Cursor). Takes c (packed width p.0) p.1 × AreIds rows cardinality p.0) (ok_is made (x, d) i.2) (subst (λ text. Takes c text b.0.1) (sym h.0) s.0, h.1)

ids_read : (cardinality : ℕ) (c : Cursor) (x rest : List ℕ) → cardinality < 2 ^ 32 → All (λ id. id < cardinality) x → c.left ≡ packed (width_of cardinality) x ++ rest
    → Reads c (packed (width_of cardinality) x) rest (ids_at (length x) cardinality c) x
unfolding ids_at
ids_read cardinality c x rest few known e =
    let width = width_of cardinality in
    let text = packed width x in
    let least = width_of_is cardinality few in
    let fit : AllFit width x = All-weaker (λ id. id < cardinality) (λ id. id < 2 ^ width) (λ id l. omega (arith, l, least.enough)) x known in
    let back : unpacked width (length x) text ≡ x = unpacked_packed width x fit in
    let first : first_past cardinality 0 (unpacked width (length x) text) ≡ None = ap (first_past cardinality 0) back ∙ past_none cardinality 0 x known in
    let clear : are_clear (spare_bits width (length x) text) ≡ true = clear_all (spare_bits width (length x) text) (packed_spare width x) in
    let r = bytes_again (bytes_for width (length x)) c text rest (length_packed width x) e in
    record {
      end = r.end;
      is = ap (λ z. z >>= λ bytes. ids_in width cardinality (length x) c.place bytes.0 >>= λ ids. done (ids, bytes.1)) r.is
          ∙ ap (λ o. checked_ids width (length x) c.place text o (unpacked width (length x) text) >>= λ ids. done (ids, r.end)) first
          ∙ ap (λ t. cond t (done (unpacked width (length x) text)) (Err (NotCanonical (c.place + length text - 1))) >>= λ ids. done (ids, r.end)) clear
          ∙ ap (λ ids. done (ids, r.end)) back;
      left = r.left;
      place = r.place;
    }

-- ---- unused values

abbrev no_unit : Cursor → Result (Unit {0}) SegmentRefused
no_unit c = breach c

no_breach : (c : Cursor) → no_unit c ≡ done tt → ⊥
no_breach c e = cc

used_only : (o : Option ℕ) (kind : Kind) (c : Cursor) → without o kind c ≡ done tt → o ≡ None
used_only None kind c e = refl
used_only (Some id) kind c e =
    let h = bind_ok (dictionary_at kind false id c) (λ before. no_unit before.1) tt e in
    absurd (no_breach h.0.1 h.2)

stands_has : (id : ℕ) (ids : List ℕ) → Contains ids id → has_id id ids ≡ true
stands_has id [] at = absurd (omega (arith, at.1))
stands_has id (x ∷ ids) (zero, in_range, same) = ap (λ b. b || has_id id ids) (eq-eqb x id same)
stands_has id (x ∷ ids) (suc k, in_range, same) = ap (λ b. (x == id) || b) (stands_has id ids (k, omega (arith, in_range), same)) ∙ or_end (x == id)
  where
    or_end : (b : Bool) → (b || true) ≡ true
    or_end true = refl
    or_end false = refl

unused_none : (count from : ℕ) (ids : List ℕ) → ((id : ℕ) → from ≤ id → id < from + count → Contains ids id) → first_unused count from ids ≡ None
unused_none zero from ids used = refl
unused_none (suc more) from ids used =
    ap (λ b. cond b (first_unused more (from + 1) ids) (Some from)) (stands_has from ids (used from (omega arith) (omega arith)))
    ∙ unused_none more (from + 1) ids (λ id low high. used id (omega arith) (omega arith))

-- ---- numbers that are wanted

this_takes : (n : ℕ) (c d : Cursor) → IsBytes c.left → this_number n c ≡ Ok (tt, d) → Takes c (word n) d
this_takes n c d bytes e =
    let a = bind_ok (number_at w32 c) (λ m. cond (eqb m.0 n) (done (tt, m.1)) (breach c)) (tt, d) e in
    let t = field32.takes c a.0.0 a.0.1 bytes a.1 in
    let g = test_ok (eqb a.0.0 n) (NotCanonical c.place) (done (tt, a.0.1)) (tt, d) a.2 in
    let made : Unit {0} × Cursor = (tt, a.0.1) in
    subst (λ (p : Unit {0} × Cursor). Takes c (word n) p.1) (ok_is made (tt, d) g.1) (subst (λ k. Takes c (word k) a.0.1) (eqb-true a.0.0 n g.0) t.0)

this_again : (n : ℕ) (c : Cursor) (rest : List ℕ) → n < 2 ^ 32 → c.left ≡ word n ++ rest → Reads c (word n) rest (this_number n c) tt
this_again n c rest few e =
    let r = field32.again c n rest few e in
    record { end = r.end; is = ap (λ z. z >>= λ m. cond (eqb m.0 n) (done (tt, m.1)) (breach c)) r.is ∙ ap (λ t. cond t (done (tt, r.end)) (breach c)) (eq-eqb n n refl); left = r.left; place = r.place }

numbers_take : (ns : List ℕ) (c d : Cursor) → IsBytes c.left → numbers_at ns c ≡ Ok (tt, d) → Takes c (flat_map word ns) d
unfolding numbers_at
numbers_take [] c d bytes e = subst (λ (p : Unit {0} × Cursor). Takes c [] p.1) (ok_is (tt, c) (tt, d) e) (takes_none c bytes)
numbers_take (n ∷ ns) c d bytes e =
    let a = bind_ok (this_number n c) (λ this. numbers_at ns this.1) (tt, d) e in
    let t = this_takes n c a.0.1 bytes a.1 in
    takes_then c (word n) a.0.1 (flat_map word ns) d t (numbers_take ns a.0.1 d t.rest a.2)

numbers_again : (ns : List ℕ) (c : Cursor) (rest : List ℕ) → AllByRecursion (λ n. n < 2 ^ 32) ns → c.left ≡ flat_map word ns ++ rest → Reads c (flat_map word ns) rest (numbers_at ns c) tt
unfolding numbers_at
numbers_again [] c rest all e = record { end = c; is = refl; left = e; place = omega arith }
numbers_again (n ∷ ns) c rest all e =
    let r = this_again n c (flat_map word ns ++ rest) all.0 (e ∙ append_assoc (word n) (flat_map word ns) rest) in
    let s = numbers_again ns r.end rest all.1 r.left in
    record { end = s.end; is = ap (λ z. z >>= λ this. numbers_at ns this.1) r.is ∙ s.is; left = s.left; place = omega (arith, r.place, s.place, length-append (word n) (flat_map word ns)) }

-- rows of postings are few, and below the row count
length_kept : (test : ℕ → Bool) (xs : List ℕ) → length (filter test xs) ≤ length xs
length_kept test [] = omega arith
length_kept test (x ∷ xs) = elim (cases_Bool (test x)) [
  | inl told ↦ omega (arith, ap (λ b. length (cond b (x ∷ filter test xs) (filter test xs))) told, length_kept test xs)
  | inr not_so ↦ omega (arith, ap (λ b. length (cond b (x ∷ filter test xs) (filter test xs))) not_so, length_kept test xs)
]

kept_below : (most : ℕ) (test : ℕ → Bool) (xs : List ℕ) → AllByRecursion (λ x. x < most) xs → AllByRecursion (λ x. x < most) (filter test xs)
kept_below most test [] all = tt
kept_below most test (x ∷ xs) all = elim (cases_Bool (test x)) [
  | inl told ↦ subst (λ b. AllByRecursion (λ y. y < most) (cond b (x ∷ filter test xs) (filter test xs))) (sym told) (all.0, kept_below most test xs all.1)
  | inr not_so ↦ subst (λ b. AllByRecursion (λ y. y < most) (cond b (x ∷ filter test xs) (filter test xs))) (sym not_so) (kept_below most test xs all.1)
]

range_below : (most from n : ℕ) → from + n ≤ most → AllByRecursion (λ x. x < most) (range_with_len from n)
range_below most from zero le = tt
range_below most from (suc n) le = (omega (arith, le), range_below most (from + 1) n (omega (arith, le)))

length_range : (from n : ℕ) → length (range_with_len from n) ≡ n
length_range from zero = refl
length_range from (suc n) = ap suc (length_range (from + 1) n)

join_below : (most : ℕ) (xs ys : List ℕ) → AllByRecursion (λ x. x < most) xs → AllByRecursion (λ x. x < most) ys → AllByRecursion (λ x. x < most) (xs ++ ys)
join_below most [] ys all others = others
join_below most (x ∷ xs) ys all others = (all.0, join_below most xs ys all.1 others)

wider : (most : ℕ) (xs : List ℕ) → most ≤ 2 ^ 32 → AllByRecursion (λ x. x < most) xs → AllByRecursion (λ x. x < 2 ^ 32) xs
wider most [] le all = tt
wider most (x ∷ xs) le all = (omega (arith, le, all.0), wider most xs le all.1)

pub rows_few : (ids : List ℕ) (id : ℕ) → length (rows_of ids id) ≤ length ids
rows_few ids id = omega (arith, length_kept (λ r. get_or ids r 0 == id) (range_with_len 0 (length ids)), length_range 0 (length ids))

rows_fit : (ids : List ℕ) (id : ℕ) → length ids < 2 ^ 32 → AllByRecursion (λ n. n < 2 ^ 32) (length (rows_of ids id) ∷ rows_of ids id)
rows_fit ids id few =
    (omega (arith, rows_few ids id, few), wider (length ids) (rows_of ids id) (omega (arith, few)) (kept_below (length ids) (λ r. get_or ids r 0 == id) (range_with_len 0 (length ids)) (range_below (length ids) 0 (length ids) (omega arith))))

all_rows_fit : (ids : List ℕ) (from n : ℕ) → length ids < 2 ^ 32 → AllByRecursion (λ n. n < 2 ^ 32) (flat_map (λ rows. length rows ∷ rows) (map (rows_of ids) (range_with_len from n)))
all_rows_fit ids from zero few = tt
all_rows_fit ids from (suc n) few = join_below (2 ^ 32) (length (rows_of ids from) ∷ rows_of ids from) (flat_map (λ rows. length rows ∷ rows) (map (rows_of ids) (range_with_len (from + 1) n))) (rows_fit ids from few) (all_rows_fit ids (from + 1) n few)

postings_take : (indexed : Bool) (ids : List ℕ) (cardinality : ℕ) (c d : Cursor) → IsBytes c.left → postings_at indexed ids cardinality c ≡ Ok (tt, d) → Takes c (postings_bytes indexed ids cardinality) d
unfolding postings_at
postings_take true ids cardinality c d bytes e = numbers_take (posting_numbers ids cardinality) c d bytes e
postings_take false ids cardinality c d bytes e = subst (λ (p : Unit {0} × Cursor). Takes c [] p.1) (ok_is (tt, c) (tt, d) e) (takes_none c bytes)

postings_again : (indexed : Bool) (ids : List ℕ) (cardinality : ℕ) (c : Cursor) (rest : List ℕ) → length ids < 2 ^ 32 → c.left ≡ postings_bytes indexed ids cardinality ++ rest → Reads c (postings_bytes indexed ids cardinality) rest (postings_at indexed ids cardinality c) tt
unfolding postings_at
postings_again true ids cardinality c rest few e = numbers_again (posting_numbers ids cardinality) c rest (all_rows_fit ids 0 cardinality few) e
postings_again false ids cardinality c rest few e = record { end = c; is = refl; left = e; place = omega arith }

-- ---- the column

regrouped : (h a b p rest : List ℕ) → (h ++ (a ++ (b ++ p))) ++ rest ≡ h ++ (a ++ (b ++ (p ++ rest)))
regrouped h a b p rest =
    append_assoc h (a ++ (b ++ p)) rest ∙ ap (λ t. h ++ t) (append_assoc a (b ++ p) rest ∙ ap (λ t. a ++ t) (append_assoc b p rest))

head_regrouped : (w n : List ℕ) (k : ℕ) (b c rest : List ℕ) → (w ++ (n ++ (k ∷ (b ++ c)))) ++ rest ≡ (w ++ n) ++ ((k ∷ []) ++ (b ++ (c ++ rest)))
head_regrouped w n k b c rest =
    append_assoc w (n ++ (k ∷ (b ++ c))) rest ∙ ap (λ t. w ++ t) (append_assoc n (k ∷ (b ++ c)) rest ∙ ap (λ t. n ++ (k ∷ t)) (append_assoc b c rest))
    ∙ sym (append_assoc w n ((k ∷ []) ++ (b ++ (c ++ rest))))

head_joined : (w n : List ℕ) (k : ℕ) (b c : List ℕ) → (w ++ n) ++ ((k ∷ []) ++ (b ++ c)) ≡ w ++ (n ++ (k ∷ (b ++ c)))
head_joined w n k b c = append_assoc w n ((k ∷ []) ++ (b ++ c))

pub record IsColumnAt (rows : ℕ) (before : List (List ℕ)) (x : SealedColumn) : Type 0 where
  pub right : IsColumn x
  pub counted : IsColumnOf rows x
  pub new : is_among x.name before ≡ false

few_values : (x : SealedColumn) → IsDictionary x.dictionary → count_in x.dictionary < 2 ^ 32
few_values x good = few_in x.dictionary good
  where
    few_in : (d : Dictionary) → IsDictionary d → count_in d < 2 ^ 32
    few_in (Int zs) h = h.0
    few_in (Long zs) h = h.0
    few_in (Text ts) h = h.0
    few_in (Truth bs) h = h.0
    few_in (Time zs) h = h.0

some_id : (ids : List ℕ) (count : ℕ) → All (λ id. id < count) ids → 0 < length ids → 0 < count
some_id ids count known some = omega (arith, known 0 0 some)

-- the lengths of the fields, one after another
lengths : (w n : List ℕ) (k : ℕ) (b c d i p : List ℕ) → length ((w ++ (n ++ (k ∷ (b ++ c)))) ++ (d ++ (i ++ p))) ≡ length (w ++ n) + 1 + length b + length c + length d + length i + length p
lengths w n k b c d i p =
    omega (arith, length-append (w ++ (n ++ (k ∷ (b ++ c)))) (d ++ (i ++ p)), length-append w (n ++ (k ∷ (b ++ c))), length-append n (k ∷ (b ++ c)), length-append b c, length-append d (i ++ p), length-append i p, length-append w n)

module _ (format rows : ℕ) (before : List (List ℕ)) where
  pub column_take : rows < 2 ^ 32 → (c : Cursor) (x : SealedColumn) (d : Cursor) → IsBytes c.left → column_at format rows before c ≡ Ok (x, d) → Takes c (column_bytes format x) d × IsColumnAt rows before x
  unfolding column_at
  column_take few c x d bytes e =
      let name = bind_ok (name_at before c) _ (x, d) e in
      let kind = bind_ok (kind_at name.0.1) _ (x, d) name.2 in
      let flag = bind_ok (bool_at kind.0.1) _ (x, d) kind.2 in
      let card = bind_ok (cardinality_at rows flag.0.1) _ (x, d) flag.2 in
      let dict = bind_ok (dictionary_at kind.0.0 (has_extremes format rows) card.0.0 card.0.1) _ (x, d) card.2 in
      let ids = bind_ok (ids_at rows card.0.0 dict.0.1) _ (x, d) dict.2 in
      let used = bind_ok (without (first_unused card.0.0 0 ids.0.0) kind.0.0 card.0.1) _ (x, d) ids.2 in
      let post = bind_ok (postings_at flag.0.0 ids.0.0 card.0.0 ids.0.1) _ (x, d) used.2 in
      let t0 = name_takes before c name.0.0 name.0.1 bytes name.1 in
      let t1 = kind_takes name.0.1 kind.0.0 kind.0.1 t0.0.rest kind.1 in
      let t2 = bool_field.takes kind.0.1 flag.0.0 flag.0.1 t1.rest flag.1 in
      let t3 = cardinality_takes rows flag.0.1 card.0.0 card.0.1 t2.0.rest card.1 in
      let t4 = dictionary_take (has_extremes format rows) kind.0.0 card.0.0 t3.1 card.0.1 dict.0.0 dict.0.1 t3.0.rest dict.1 in
      let t5 = ids_take rows card.0.0 dict.0.1 ids.0.0 ids.0.1 t4.0.rest ids.1 in
      let t6 = postings_take flag.0.0 ids.0.0 card.0.0 ids.0.1 post.0.1 t5.0.rest post.1 in
      let none : first_unused card.0.0 0 ids.0.0 ≡ None = used_only (first_unused card.0.0 0 ids.0.0) kind.0.0 card.0.1 used.1 in
      let column : SealedColumn = record { name = name.0.0; dictionary = dict.0.0; ids = ids.0.0; indexed = flag.0.0 } in
      let head : Takes c (column_head column) card.0.1 =
      subst (λ text. Takes c text card.0.1) (head_joined (to_be_bytes w16 (length name.0.0)) name.0.0 (kind_byte (kind_in dict.0.0)) (bool_bytes flag.0.0) (word (count_in dict.0.0)))
      (subst (λ k. Takes c (name_bytes name.0.0 ++ ((kind_byte k ∷ []) ++ (bool_bytes flag.0.0 ++ word (count_in dict.0.0)))) card.0.1) (sym t4.1.kind)
      (subst (λ n. Takes c (name_bytes name.0.0 ++ ((kind_byte kind.0.0 ∷ []) ++ (bool_bytes flag.0.0 ++ word n))) card.0.1) (sym t4.1.count)
      (takes_then c (name_bytes name.0.0) name.0.1 _ card.0.1 t0.0 (takes_then name.0.1 (kind_byte kind.0.0 ∷ []) kind.0.1 _ card.0.1 t1 (takes_then kind.0.1 (bool_bytes flag.0.0) flag.0.1 (word card.0.0) card.0.1 t2.0 t3.0))))) in
      let tail : Takes card.0.1 (dictionary_bytes (has_extremes format (length ids.0.0)) dict.0.0 ++ (packed_ids column ++ postings_bytes flag.0.0 ids.0.0 (count_in dict.0.0))) post.0.1 =
      subst (λ n. Takes card.0.1 (dictionary_bytes (has_extremes format (length ids.0.0)) dict.0.0 ++ (packed (width_of n) ids.0.0 ++ postings_bytes flag.0.0 ids.0.0 n)) post.0.1) (sym t4.1.count)
      (subst (λ r. Takes card.0.1 (dictionary_bytes (has_extremes format r) dict.0.0 ++ (packed (width_of card.0.0) ids.0.0 ++ postings_bytes flag.0.0 ids.0.0 card.0.0)) post.0.1) (sym t5.1.count)
      (takes_then card.0.1 (dictionary_bytes (has_extremes format rows) dict.0.0) dict.0.1 _ post.0.1 t4.0 (takes_then dict.0.1 (packed (width_of card.0.0) ids.0.0) ids.0.1 (postings_bytes flag.0.0 ids.0.0 card.0.0) post.0.1 t5.0 t6))) in
      let made : SealedColumn × Cursor = (column, post.0.1) in
      subst (λ (y : SealedColumn × Cursor). Takes c (column_bytes format y.0) y.1 × IsColumnAt rows before y.0) (ok_is made (x, d) post.2) (
        takes_then c (column_head column) card.0.1 _ post.0.1 head tail,
        record {
          right = record {
            dictionary = t4.1.right;
            name = t0.1.valid;
            rows = subst (λ n. n < 2 ^ 32) (sym t5.1.count) few;
            known = subst (λ n. All (λ id. id < n) ids.0.0) (sym t4.1.count) t5.1.known;
            used = λ id lt. all_used card.0.0 ids.0.0 none id (subst (λ n. id < n) t4.1.count lt);
          };
          counted = record { named = t0.1.sized; short = t4.1.short; rows = t5.1.count };
          new = t0.1.new;
        },
      )

  pub column_again : (c : Cursor) (x : SealedColumn) (rest : List ℕ) → IsColumnAt rows before x → c.left ≡ column_bytes format x ++ rest → Reads c (column_bytes format x) rest (column_at format rows before c) x
  unfolding column_at
  column_again c x rest good e =
      let count = count_in x.dictionary in
      let counted : length x.ids ≡ rows = good.counted.rows in
      let extremes = has_extremes format (length x.ids) in
      let post_bytes = postings_bytes x.indexed x.ids count in
      let ids_bytes = packed_ids x in
      let dict_bytes = dictionary_bytes extremes x.dictionary in
      let tail = dict_bytes ++ (ids_bytes ++ (post_bytes ++ rest)) in
      let r0 = name_again before c x.name ((kind_byte (kind_in x.dictionary) ∷ []) ++ (bool_bytes x.indexed ++ (word count ++ tail))) (record { valid = good.right.name; sized = good.counted.named; new = good.new })
      (e ∙ regrouped (column_head x) dict_bytes ids_bytes post_bytes rest ∙ head_regrouped (to_be_bytes w16 (length x.name)) x.name (kind_byte (kind_in x.dictionary)) (bool_bytes x.indexed) (word count) tail) in
      let r1 = kind_again r0.end (kind_in x.dictionary) (bool_bytes x.indexed ++ (word count ++ tail)) r0.left in
      let r2 = bool_field.again r1.end x.indexed (word count ++ tail) tt r1.left in
      let r3 = cardinality_again rows r2.end count tail (few_values x good.right.dictionary) (λ some. omega (arith, some_id x.ids count good.right.known (omega (arith, some, counted)))) r2.left in
      let r4 = dictionary_reads extremes x.dictionary r3.end (ids_bytes ++ (post_bytes ++ rest)) good.right.dictionary good.counted.short r3.left in
      let r5 = ids_read count r4.end x.ids (post_bytes ++ rest) (few_values x good.right.dictionary) good.right.known r4.left in
      let r6 = postings_again x.indexed x.ids count r5.end rest good.right.rows r5.left in
      let none : first_unused count 0 x.ids ≡ None = unused_none count 0 x.ids (λ id low high. good.right.used id (omega (arith, high))) in
      let r4' : dictionary_at (kind_in x.dictionary) (has_extremes format rows) count r3.end ≡ done (x.dictionary, r4.end) = ap (λ n. dictionary_at (kind_in x.dictionary) (has_extremes format n) count r3.end) (sym counted) ∙ r4.is in
      let r5' : ids_at rows count r4.end ≡ done (x.ids, r5.end) = ap (λ n. ids_at n count r4.end) (sym counted) ∙ r5.is in
      record {
        end = r6.end;
        is = rw (r0.is, r1.is, r2.is, r3.is, r4', r5', none, r6.is) refl;
        left = r6.left;
        place = omega (arith, r0.place, r1.place, r2.place, r3.place, r4.place, r5.place, r6.place, lengths (to_be_bytes w16 (length x.name)) x.name (kind_byte (kind_in x.dictionary)) (bool_bytes x.indexed) (word count) dict_bytes ids_bytes post_bytes);
      }
