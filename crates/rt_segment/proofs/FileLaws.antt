-- A file that is read is spelled so, and what is spelled so is read.
use Rattle.std.proofs.Common.{◌≡◌, ℕ, zero, suc, ◌+◌, ◌-◌, ◌^◌, ◌<◌, ◌≤◌, true, false, cond, eqb, ltb, List, [], ◌∷◌, ◌++◌, length, take, Result, Ok, Err, refl, sym, ap, subst, ◌∙◌, append_assoc, arith, inl, inr, ⊎_elim}
use Rattle.std.specs.Prelude.{◌⊎◌, codes, IfOk}
use Rattle.std.specs.Int.{w16, w32, w64, to_be_bytes}
use Rattle.std.specs.List.{All, flat_map}
use Rattle.std.specs.Str.{bytes_eq}
use Rattle.std.proofs.lemmas.Bool.{cases_Bool, ltb-false, le-ltb, lt-ltb, ltb-true, eqb-true, eq-eqb, ne_eqb}
use Rattle.std.proofs.lemmas.List.{length-append, append-nil, take_at, nil_from_length}
use Rattle.std.proofs.lemmas.List.Elements.{All-cons, All-head, All-tail, All-nil}
use Rattle.std.proofs.lemmas.Slice.Eq.{bytes_eq-Decides}
use Rattle.sha2.specs.Sha256.{sha256}
use Rattle.sha2.proofs.Facts256.{length-sha256}
use Rattle.rt_base.specs.declared.range.Range.{Range}
use Rattle.rt_segment.specs.declared.segment_refused.SegmentRefused.{SegmentRefused}
use Rattle.rt_segment.specs.declared.segment_refused.SegmentRefused.TheVariants.{NotCanonical, Limit, Magic, Digest}
use Rattle.rt_segment.specs.Cursor.{Cursor, Answers, ◌>>=◌, breach, bytes_at, number_at}
use Rattle.rt_segment.specs.Column.{SealedColumn, IsColumn}
use Rattle.rt_segment.specs.Segment.{SealedSegment, IsColumnOf, AreNew, IsSealed}
use Rattle.rt_segment.specs.Reading.{format_of, format_at, range_at, rows_at, column_count_at, column_at, columns_at, body_at, read_file}
use Rattle.rt_segment.specs.Spelling.{word, magic, column_bytes, body_of, file_of}
use Rattle.rt_segment.proofs.Fields.{IsBytes, bind_ok, guard_ok, test_ok, done, ok_is, Takes, takes_then, takes_none, Reads, bytes_take, bytes_again, field16, field32, field64}
use Rattle.rt_segment.proofs.ColumnLaws.{not_zero, column_take, column_again}

-- ---- columns

pub record AreColumnsAt (rows : ℕ) (before : List (List ℕ)) (columns : List SealedColumn) : Type 0 where
  pub right : All IsColumn columns
  pub counted : All (IsColumnOf rows) columns
  pub new : AreNew before columns

module _ (format rows : ℕ) where
  columns_take : rows < 2 ^ 32 → (n : ℕ) (before : List (List ℕ)) (c : Cursor) (xs : List SealedColumn) (d : Cursor) → IsBytes c.left → columns_at format rows n before c ≡ Ok (xs, d)
      → Takes c (flat_map (column_bytes format) xs) d × (length xs ≡ n) × AreColumnsAt rows before xs
  unfolding columns_at
  columns_take few zero before c xs d bytes e =
      subst (λ (y : List SealedColumn × Cursor). Takes c (flat_map (column_bytes format) y.0) y.1 × (length y.0 ≡ 0) × AreColumnsAt rows before y.0) (ok_is ([], c) (xs, d) e)
      (takes_none c bytes, refl, record { right = All-nil IsColumn; counted = All-nil (IsColumnOf rows); new = tt })
  columns_take few (suc n) before c xs d bytes e =
      let a = bind_ok (column_at format rows before c) (λ first. columns_at format rows n (before ++ first.0.name ∷ []) first.1 >>= λ others. done (first.0 ∷ others.0, others.1)) (xs, d) e in
      let t = column_take format rows before few c a.0.0 a.0.1 bytes a.1 in
      let b = bind_ok (columns_at format rows n (before ++ a.0.0.name ∷ []) a.0.1) (λ others. done (a.0.0 ∷ others.0, others.1)) (xs, d) a.2 in
      let s = columns_take few n (before ++ a.0.0.name ∷ []) a.0.1 b.0.0 b.0.1 t.0.rest b.1 in
      let made : List SealedColumn × Cursor = (a.0.0 ∷ b.0.0, b.0.1) in
      subst (λ (y : List SealedColumn × Cursor). Takes c (flat_map (column_bytes format) y.0) y.1 × (length y.0 ≡ suc n) × AreColumnsAt rows before y.0) (ok_is made (xs, d) b.2) (
        takes_then c (column_bytes format a.0.0) a.0.1 (flat_map (column_bytes format) b.0.0) b.0.1 t.0 s.0,
        ap suc s.1,
        record {
          right = All-cons IsColumn a.0.0 b.0.0 t.1.right s.2.right;
          counted = All-cons (IsColumnOf rows) a.0.0 b.0.0 t.1.counted s.2.counted;
          new = (t.1.new, s.2.new);
        },
      )

  columns_again : (xs : List SealedColumn) (before : List (List ℕ)) (c : Cursor) (rest : List ℕ) → AreColumnsAt rows before xs → c.left ≡ flat_map (column_bytes format) xs ++ rest
      → Reads c (flat_map (column_bytes format) xs) rest (columns_at format rows (length xs) before c) xs
  unfolding columns_at
  columns_again [] before c rest good e = record { end = c; is = refl; left = e; place = omega arith }
  columns_again (x ∷ xs) before c rest good e =
      let text = column_bytes format x in
      let others = flat_map (column_bytes format) xs in
      let r = column_again format rows before c x (others ++ rest) (record { right = All-head IsColumn x xs good.right; counted = All-head (IsColumnOf rows) x xs good.counted; new = good.new.0 }) (e ∙ append_assoc text others rest) in
      let s = columns_again xs (before ++ x.name ∷ []) r.end rest (record { right = All-tail IsColumn x xs good.right; counted = All-tail (IsColumnOf rows) x xs good.counted; new = good.new.1 }) r.left in
      record {
        end = s.end;
        is = ap (λ z. z >>= λ first. columns_at format rows (length xs) (before ++ first.0.name ∷ []) first.1 >>= λ others. done (first.0 ∷ others.0, others.1)) r.is ∙ ap (λ z. z >>= λ others. done (x ∷ others.0, others.1)) s.is;
        left = s.left;
        place = omega (arith, r.place, s.place, length-append text others);
      }

-- ---- the header

same_bytes : (xs ys : List ℕ) → bytes_eq xs ys ≡ true → xs ≡ ys
same_bytes xs ys e = (bytes_eq-Decides xs ys).0 e

equal_bytes : (xs : List ℕ) → bytes_eq xs xs ≡ true
equal_bytes xs = (bytes_eq-Decides xs xs).1 refl

abbrev IsFormat : ℕ → Type 0
IsFormat format = (format ≡ 1) ⊎ (format ≡ 2)

format_is : (bytes : List ℕ) (format : ℕ) → format_of bytes ≡ done format → (bytes ≡ magic format) × IsFormat format
format_is bytes format e = elim (cases_Bool (bytes_eq bytes (codes "PNRTSEG1"))) [
  | inl one ↦
      let told : done 1 ≡ done format = sym (ap (λ b. cond b (done 1) (cond (bytes_eq bytes (codes "PNRTSEG2")) (done 2) (Err Magic))) one) ∙ e in
      subst (λ n. (bytes ≡ magic n) × IsFormat n) (ok_is 1 format told) (same_bytes bytes (codes "PNRTSEG1") one, inl refl)
  | inr other ↦
      let rest : cond (bytes_eq bytes (codes "PNRTSEG2")) (done 2) (Err Magic) ≡ done format = sym (ap (λ b. cond b (done 1) (cond (bytes_eq bytes (codes "PNRTSEG2")) (done 2) (Err Magic))) other) ∙ e in
      let g = test_ok (bytes_eq bytes (codes "PNRTSEG2")) Magic (done 2) format rest in
      subst (λ n. (bytes ≡ magic n) × IsFormat n) (ok_is 2 format g.1) (same_bytes bytes (codes "PNRTSEG2") g.0, inr refl)
]

format_take : (c : Cursor) (x : ℕ) (d : Cursor) → IsBytes c.left → format_at c ≡ Ok (x, d) → Takes c (magic x) d × IsFormat x
unfolding format_at
format_take c x d bytes e =
    let b = bind_ok (bytes_at 8 c) (λ m. format_of m.0 >>= λ format. done (format, m.1)) (x, d) e in
    let s = bytes_take 8 c b.0.0 b.0.1 bytes b.1 in
    let f = bind_ok (format_of b.0.0) (λ format. done (format, b.0.1)) (x, d) b.2 in
    let h = format_is b.0.0 f.0 f.1 in
    let made : ℕ × Cursor = (f.0, b.0.1) in
    subst (λ (p : ℕ × Cursor). Takes c (magic p.0) p.1 × IsFormat p.0) (ok_is made (x, d) f.2) (subst (λ text. Takes c text b.0.1) h.0 s.0, h.1)

format_told : (x : ℕ) → IsFormat x → format_of (magic x) ≡ done x
format_told x good = ⊎_elim (λ one. subst (λ n. format_of (magic n) ≡ done n) (sym one) refl) (λ two. subst (λ n. format_of (magic n) ≡ done n) (sym two) refl) good

magic_length : (x : ℕ) → IsFormat x → length (magic x) ≡ 8
magic_length x good = ⊎_elim (λ one. subst (λ n. length (magic n) ≡ 8) (sym one) refl) (λ two. subst (λ n. length (magic n) ≡ 8) (sym two) refl) good

format_again : (c : Cursor) (x : ℕ) (rest : List ℕ) → IsFormat x → c.left ≡ magic x ++ rest → Reads c (magic x) rest (format_at c) x
unfolding format_at
format_again c x rest good e =
    let r = bytes_again 8 c (magic x) rest (magic_length x good) e in
    record { end = r.end; is = ap (λ z. z >>= λ m. format_of m.0 >>= λ format. done (format, m.1)) r.is ∙ ap (λ z. z >>= λ format. done (format, r.end)) (format_told x good); left = r.left; place = r.place }

abbrev range_bytes : Range → List ℕ
range_bytes range = to_be_bytes w64 range.start.0 ++ to_be_bytes w64 range.end.0

abbrev IsRange : Range → Type 0
IsRange range = (range.start.0 < range.end.0) × (range.end.0 < 2 ^ 64)

range_take : (c : Cursor) (x : Range) (d : Cursor) → IsBytes c.left → range_at c ≡ Ok (x, d) → Takes c (range_bytes x) d × IsRange x
unfolding range_at
range_take c x d bytes e =
    let a = bind_ok (number_at w64 c) _ (x, d) e in
    let t = field64.takes c a.0.0 a.0.1 bytes a.1 in
    let b = bind_ok (number_at w64 a.0.1) _ (x, d) a.2 in
    let s = field64.takes a.0.1 b.0.0 b.0.1 t.0.rest b.1 in
    let made : Range × Cursor = (record { start = record { 0 = a.0.0 }; end = record { 0 = b.0.0 } }, b.0.1) in
    let g = test_ok (ltb a.0.0 b.0.0) (NotCanonical a.0.1.place) (done made) (x, d) b.2 in
    subst (λ (y : Range × Cursor). Takes c (range_bytes y.0) y.1 × IsRange y.0) (ok_is made (x, d) g.1)
    (takes_then c (to_be_bytes w64 a.0.0) a.0.1 (to_be_bytes w64 b.0.0) b.0.1 t.0 s.0, (ltb-true _ _ g.0, s.1))

range_again : (c : Cursor) (x : Range) (rest : List ℕ) → IsRange x → c.left ≡ range_bytes x ++ rest → Reads c (range_bytes x) rest (range_at c) x
unfolding range_at
range_again c x rest good e =
    let first = to_be_bytes w64 x.start.0 in
    let second = to_be_bytes w64 x.end.0 in
    let r = field64.again c x.start.0 (second ++ rest) (omega (arith, good.0, good.1)) (e ∙ append_assoc first second rest) in
    let s = field64.again r.end x.end.0 rest good.1 r.left in
    let ordered : ltb x.start.0 x.end.0 ≡ true = lt-ltb _ _ good.0 in
    record { end = s.end; is = rw (r.is, s.is, ordered) refl; left = s.left; place = omega (arith, r.place, s.place, length-append first second) }

abbrev AreRows : Range → ℕ → Type 0
AreRows range n = (n ≤ range.end.0 - range.start.0) × (n ≤ 1000000)

rows_take : (range : Range) (c : Cursor) (n : ℕ) (d : Cursor) → IsBytes c.left → rows_at range c ≡ Ok (n, d) → Takes c (word n) d × AreRows range n
unfolding rows_at
rows_take range c n d bytes e =
    let a = bind_ok (number_at w32 c) _ (n, d) e in
    let few = guard_ok (ltb 1000000 a.0.0) Limit (cond (ltb (range.end.0 - range.start.0) a.0.0) (breach c) (done a.0)) (n, d) a.2 in
    let inside = guard_ok (ltb (range.end.0 - range.start.0) a.0.0) (NotCanonical c.place) (done a.0) (n, d) few.1 in
    subst (λ (p : ℕ × Cursor). Takes c (word p.0) p.1 × AreRows range p.0) (ok_is a.0 (n, d) inside.1) ((field32.takes c a.0.0 a.0.1 bytes a.1).0, (ltb-false _ _ inside.0, ltb-false _ _ few.0))

rows_again : (range : Range) (c : Cursor) (n : ℕ) (rest : List ℕ) → AreRows range n → c.left ≡ word n ++ rest → Reads c (word n) rest (rows_at range c) n
unfolding rows_at
rows_again range c n rest good e =
    let r = field32.again c n rest (omega (arith, good.1)) e in
    let few : ltb 1000000 n ≡ false = le-ltb _ _ good.1 in
    let inside : ltb (range.end.0 - range.start.0) n ≡ false = le-ltb _ _ good.0 in
    record { end = r.end; is = rw (r.is, few, inside) refl; left = r.left; place = r.place }

rows_small : (n : ℕ) → n ≤ 1000000 → n < 2 ^ 32
rows_small n le = omega (arith, le)

abbrev IsCount : ℕ → Type 0
IsCount n = (1 ≤ n) × (n ≤ 256)

count_take : (c : Cursor) (n : ℕ) (d : Cursor) → IsBytes c.left → column_count_at c ≡ Ok (n, d) → Takes c (to_be_bytes w16 n) d × IsCount n
unfolding column_count_at
count_take c n d bytes e =
    let a = bind_ok (number_at w16 c) _ (n, d) e in
    let few = guard_ok (ltb 256 a.0.0) Limit (cond (eqb a.0.0 0) (breach c) (done a.0)) (n, d) a.2 in
    let some = guard_ok (eqb a.0.0 0) (NotCanonical c.place) (done a.0) (n, d) few.1 in
    subst (λ (p : ℕ × Cursor). Takes c (to_be_bytes w16 p.0) p.1 × IsCount p.0) (ok_is a.0 (n, d) some.1) ((field16.takes c a.0.0 a.0.1 bytes a.1).0, (not_zero a.0.0 some.0, ltb-false _ _ few.0))

count_again : (c : Cursor) (n : ℕ) (rest : List ℕ) → IsCount n → c.left ≡ to_be_bytes w16 n ++ rest → Reads c (to_be_bytes w16 n) rest (column_count_at c) n
unfolding column_count_at
count_again c n rest good e =
    let r = field16.again c n rest (omega (arith, good.1)) e in
    let few : ltb 256 n ≡ false = le-ltb _ _ good.1 in
    let some : eqb n 0 ≡ false = ne_eqb n 0 (λ z. omega (arith, z, good.0)) in
    record { end = r.end; is = rw (r.is, few, some) refl; left = r.left; place = r.place }

-- ---- the body

-- the fields of a body, joined and apart
joined : (m p s a b r n cs : List ℕ) → (m ++ (p ++ (s ++ ((a ++ b) ++ (r ++ n))))) ++ cs ≡ (m ++ (p ++ (s ++ (a ++ (b ++ (r ++ n)))))) ++ cs
joined m p s a b r n cs = ap (λ t. (m ++ (p ++ (s ++ t))) ++ cs) (append_assoc a b (r ++ n))

apart : (m p s a b r n cs rest : List ℕ) → ((m ++ (p ++ (s ++ (a ++ (b ++ (r ++ n)))))) ++ cs) ++ rest ≡ m ++ (p ++ (s ++ ((a ++ b) ++ (r ++ (n ++ (cs ++ rest))))))
apart m p s a b r n cs rest = simp append_assoc refl

pub body_take : (c : Cursor) (x : SealedSegment) (d : Cursor) → IsBytes c.left → body_at c ≡ Ok (x, d) → Takes c (body_of x) d × IsSealed x
unfolding body_at
body_take c x d bytes e =
    let format = bind_ok (format_at c) _ (x, d) e in
    let partition = bind_ok (number_at w32 format.0.1) _ (x, d) format.2 in
    let sequence = bind_ok (number_at w32 partition.0.1) _ (x, d) partition.2 in
    let range = bind_ok (range_at sequence.0.1) _ (x, d) sequence.2 in
    let rows = bind_ok (rows_at range.0.0 range.0.1) _ (x, d) range.2 in
    let count = bind_ok (column_count_at rows.0.1) _ (x, d) rows.2 in
    let columns = bind_ok (columns_at format.0.0 rows.0.0 count.0.0 [] count.0.1) _ (x, d) count.2 in
    let t0 = format_take c format.0.0 format.0.1 bytes format.1 in
    let t1 = field32.takes format.0.1 partition.0.0 partition.0.1 t0.0.rest partition.1 in
    let t2 = field32.takes partition.0.1 sequence.0.0 sequence.0.1 t1.0.rest sequence.1 in
    let t3 = range_take sequence.0.1 range.0.0 range.0.1 t2.0.rest range.1 in
    let t4 = rows_take range.0.0 range.0.1 rows.0.0 rows.0.1 t3.0.rest rows.1 in
    let t5 = count_take rows.0.1 count.0.0 count.0.1 t4.0.rest count.1 in
    let t6 = columns_take format.0.0 rows.0.0 (rows_small rows.0.0 t4.1.1) count.0.0 [] count.0.1 columns.0.0 columns.0.1 t5.0.rest columns.1 in
    let segment : SealedSegment = record { format = format.0.0; partition = record { 0 = partition.0.0 }; sequence = record { 0 = sequence.0.0 }; range = range.0.0; rows = rows.0.0; columns = columns.0.0 } in
    let made : SealedSegment × Cursor = (segment, columns.0.1) in
    let head : Takes c (magic format.0.0 ++ (word partition.0.0 ++ (word sequence.0.0 ++ (range_bytes range.0.0 ++ (word rows.0.0 ++ to_be_bytes w16 (length columns.0.0)))))) count.0.1 =
    subst (λ n. Takes c (magic format.0.0 ++ (word partition.0.0 ++ (word sequence.0.0 ++ (range_bytes range.0.0 ++ (word rows.0.0 ++ to_be_bytes w16 n))))) count.0.1) (sym t6.1)
    (takes_then c (magic format.0.0) format.0.1 _ count.0.1 t0.0
    (takes_then format.0.1 (word partition.0.0) partition.0.1 _ count.0.1 t1.0
    (takes_then partition.0.1 (word sequence.0.0) sequence.0.1 _ count.0.1 t2.0
    (takes_then sequence.0.1 (range_bytes range.0.0) range.0.1 _ count.0.1 t3.0
    (takes_then range.0.1 (word rows.0.0) rows.0.1 (to_be_bytes w16 count.0.0) count.0.1 t4.0 t5.0))))) in
    let whole = takes_then c _ count.0.1 (flat_map (column_bytes format.0.0) columns.0.0) columns.0.1 head t6.0 in
    subst (λ (y : SealedSegment × Cursor). Takes c (body_of y.0) y.1 × IsSealed y.0) (ok_is made (x, d) columns.2) (
      subst (λ text. Takes c text columns.0.1) (joined (magic format.0.0) (word partition.0.0) (word sequence.0.0) (to_be_bytes w64 range.0.0.start.0) (to_be_bytes w64 range.0.0.end.0) (word rows.0.0) (to_be_bytes w16 (length columns.0.0)) (flat_map (column_bytes format.0.0) columns.0.0)) whole,
      record {
        sealable = record {
          format = t0.1;
          range = t3.1.0;
          rows = t4.1;
          few = (subst (λ n. 1 ≤ n) (sym t6.1) t5.1.0, subst (λ n. n ≤ 256) (sym t6.1) t5.1.1);
          columns = t6.2.counted;
          distinct = t6.2.new;
        };
        columns = t6.2.right;
        partition = t1.1;
        sequence = t2.1;
        end = t3.1.1;
      },
    )

lengths : (m p s a b r n cs : List ℕ) → length ((m ++ (p ++ (s ++ (a ++ (b ++ (r ++ n)))))) ++ cs) ≡ length m + length p + length s + length (a ++ b) + length r + length n + length cs
lengths m p s a b r n cs =
    omega (arith, length-append (m ++ (p ++ (s ++ (a ++ (b ++ (r ++ n)))))) cs, length-append m (p ++ (s ++ (a ++ (b ++ (r ++ n))))), length-append p (s ++ (a ++ (b ++ (r ++ n)))), length-append s (a ++ (b ++ (r ++ n))), length-append a (b ++ (r ++ n)), length-append b (r ++ n), length-append r n, length-append a b)

pub body_again : (c : Cursor) (x : SealedSegment) (rest : List ℕ) → IsSealed x → c.left ≡ body_of x ++ rest → Reads c (body_of x) rest (body_at c) x
unfolding body_at
body_again c x rest good e =
    let s = good.sealable in
    let m = magic x.format in
    let p = word x.partition.0 in
    let q = word x.sequence.0 in
    let a = to_be_bytes w64 x.range.start.0 in
    let b = to_be_bytes w64 x.range.end.0 in
    let r = word x.rows in
    let n = to_be_bytes w16 (length x.columns) in
    let cs = flat_map (column_bytes x.format) x.columns in
    let r0 = format_again c x.format (p ++ (q ++ ((a ++ b) ++ (r ++ (n ++ (cs ++ rest)))))) s.format (e ∙ apart m p q a b r n cs rest) in
    let r1 = field32.again r0.end x.partition.0 (q ++ ((a ++ b) ++ (r ++ (n ++ (cs ++ rest))))) good.partition r0.left in
    let r2 = field32.again r1.end x.sequence.0 ((a ++ b) ++ (r ++ (n ++ (cs ++ rest)))) good.sequence r1.left in
    let r3 = range_again r2.end x.range (r ++ (n ++ (cs ++ rest))) (s.range, good.end) r2.left in
    let r4 = rows_again x.range r3.end x.rows (n ++ (cs ++ rest)) s.rows r3.left in
    let r5 = count_again r4.end (length x.columns) (cs ++ rest) s.few r4.left in
    let r6 = columns_again x.format x.rows x.columns [] r5.end rest (record { right = good.columns; counted = s.columns; new = s.distinct }) r5.left in
    record {
      end = r6.end;
      is = rw (r0.is, r1.is, r2.is, r3.is, r4.is, r5.is, r6.is) refl;
      left = r6.left;
      place = omega (arith, r0.place, r1.place, r2.place, r3.place, r4.place, r5.place, r6.place, lengths m p q a b r n cs);
    }

-- ---- the file

pub read_spelled : (bytes : List ℕ) (x : SealedSegment) → IsBytes bytes → read_file bytes ≡ Ok x → IsSealed x × (bytes ≡ file_of x)
unfolding read_file
read_spelled bytes x fits e =
    let body = bind_ok (body_at (record { place = 0; left = bytes })) _ x e in
    let t = body_take (record { place = 0; left = bytes }) body.0.0 body.0.1 fits body.1 in
    let digest = bind_ok (bytes_at 32 body.0.1) _ x body.2 in
    let s = bytes_take 32 body.0.1 digest.0.0 digest.0.1 t.0.rest digest.1 in
    let right = test_ok (bytes_eq digest.0.0 (sha256 (take body.0.1.place bytes))) Digest (cond (eqb (length digest.0.1.left) 0) (done body.0.0) (breach digest.0.1)) x digest.2 in
    let end = test_ok (eqb (length digest.0.1.left) 0) (NotCanonical digest.0.1.place) (done body.0.0) x right.1 in
    let nothing : digest.0.1.left ≡ [] = nil_from_length digest.0.1.left (eqb-true _ _ end.0) in
    let front : take body.0.1.place bytes ≡ body_of body.0.0 = ap (take body.0.1.place) t.0.parts ∙ take_at (body_of body.0.0) body.0.1.left body.0.1.place (omega (arith, t.0.place)) in
    let sum : digest.0.0 ≡ sha256 (body_of body.0.0) = same_bytes digest.0.0 (sha256 (take body.0.1.place bytes)) right.0 ∙ ap sha256 front in
    let whole : bytes ≡ file_of body.0.0 = t.0.parts ∙ ap (λ z. body_of body.0.0 ++ z) (s.0.parts ∙ ap (λ z. digest.0.0 ++ z) nothing ∙ append-nil digest.0.0 ∙ sum) in
    subst (λ y. IsSealed y × (bytes ≡ file_of y)) (ok_is body.0.0 x end.1) (t.1, whole)

pub spelled_read : (x : SealedSegment) → IsSealed x → read_file (file_of x) ≡ Ok x
unfolding read_file
spelled_read x good =
    let bytes = file_of x in
    let sum = sha256 (body_of x) in
    let r = body_again (record { place = 0; left = bytes }) x sum good refl in
    let d = bytes_again 32 r.end sum [] (length-sha256 (body_of x)) (r.left ∙ sym (append-nil sum)) in
    let front : take r.end.place bytes ≡ body_of x = take_at (body_of x) sum r.end.place (omega (arith, r.place)) in
    let right : bytes_eq sum (sha256 (take r.end.place bytes)) ≡ true = ap (λ z. bytes_eq sum (sha256 z)) front ∙ equal_bytes sum in
    let end : eqb (length d.end.left) 0 ≡ true = eq-eqb _ _ (ap length d.left) in
    rw (r.is, d.is, right, end) refl

-- ---- an answer that is what is read

pub answer_spelled : (bytes : List ℕ) (r : Result SealedSegment SegmentRefused) → IsBytes bytes → Answers (λ x. x) r (read_file bytes) → IfOk r (λ x. bytes ≡ file_of x)
answer_spelled bytes (Ok x) fits told = (read_spelled bytes x fits told).1
answer_spelled bytes (Err e) fits told = tt

pub answer_only : (bytes : List ℕ) (r : Result SealedSegment SegmentRefused) → Answers (λ x. x) r (read_file bytes) → (x : SealedSegment) → IsSealed x → bytes ≡ file_of x → Answers (λ y. y) r (Ok x)
answer_only bytes r told x good same = subst (λ z. Answers (λ y. y) r z) (ap read_file same ∙ spelled_read x good) told

-- a body that was read stands in front
pub record Body_read (bytes : List ℕ) (x : SealedSegment) (end : ℕ) : Type 0 where
  pub right : IsSealed x
  pub front : take end bytes ≡ body_of x
  pub long : end ≤ length bytes

pub body_read : (bytes : List ℕ) (x : SealedSegment) (d : Cursor) → IsBytes bytes → body_at (record { place = 0; left = bytes }) ≡ Ok (x, d) → Body_read bytes x d.place
body_read bytes x d fits e =
    let t = body_take (record { place = 0; left = bytes }) x d fits e in
    let size : d.place ≡ length (body_of x) = omega (arith, t.0.place) in
    record {
      right = t.1;
      front = ap (take d.place) t.0.parts ∙ take_at (body_of x) d.left d.place (sym size);
      long = omega (arith, size, ap length t.0.parts, length-append (body_of x) d.left);
    }
