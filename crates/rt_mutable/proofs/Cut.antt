-- The first rows of a segment.
use Rattle.std.proofs.Common.{◌≡◌, ℕ, Bool, cond, zero, suc, ◌+◌, ◌-◌, ◌<◌, ◌≤◌, true, false, nat_lt, List, [], ◌∷◌, length, map, take, filter, All, AllPairs, refl, sym, ap, subst, ◌∙◌, arith, length-take}
use Rattle.std.specs.List.Sorted.{IsPartitionPoint}
use Rattle.std.proofs.lemmas.List.{get_or-take, take-take, take_all, length-take-le}
use Rattle.std.proofs.lemmas.List.Elements.{All-nil, All-cons, All-take}
use Rattle.std.proofs.lemmas.Bool.{ltb-true}
use Rattle.rt_base.specs.declared.numbers.Offset.{Offset}
use Rattle.rt_schema.specs.declared.value.Value.TheVariants as value
use Rattle.rt_mutable.specs.Column.{Filled}
use Rattle.rt_mutable.specs.Consuming.{Placed, Consuming, IsConsuming, IsBetween, IsShort, FitsColumns, is_before}
use Rattle.rt_mutable.specs.Columns.{HoldRows, AreFull, segment_of, rows_from, cell_at, cut}
use Rattle.rt_mutable.proofs.Rows.{offsets_of}
use Rattle.rt_mutable.proofs.Below.{first_rows}

-- the last row taken back is behind the first ones
pub cut_again : (n : ℕ) (c d : Filled) → n < length c.values → d ≡ record c { values = take (length c.values - 1) c.values } → cut n d ≡ cut n c
cut_again n c d lt e =
    ap (cut n) e ∙ ap (λ vs. record c { values = vs }) (take-take n (length c.values - 1) c.values (omega (arith, lt)))

pub cut_whole : (n : ℕ) (c : Filled) → length c.values ≤ n → cut n c ≡ c
cut_whole n c le = ap (λ vs. record c { values = vs }) (take_all n c.values le)

cells_cut : (k n : ℕ) (columns : List Filled) → k < n → map (cell_at k) (map (cut n) columns) ≡ map (cell_at k) columns
cells_cut k n [] lt = refl
cells_cut k n (c ∷ columns) lt =
    (λ j. get_or-take n c.values k (value.Bool false) lt j ∷ cells_cut k n columns lt j)

rows_cut : (k n m : ℕ) (columns : List Filled) (offsets : List Offset) → m ≡ k + n → rows_from k (map (cut m) columns) (take n offsets) ≡ take n (rows_from k columns offsets)
rows_cut k zero m columns offsets e = refl
rows_cut k (suc n) m columns [] e = refl
rows_cut k (suc n) m columns (offset ∷ offsets) e =
    (λ j. record { offset = offset; row = record { values = cells_cut k m columns (omega (arith, e)) j } }
    ∷ rows_cut (k + 1) n m columns offsets (omega (arith, e)) j)

shapes_cut : (n : ℕ) (columns : List Filled) → map (λ column. column.shape) (map (cut n) columns) ≡ map (λ column. column.shape) columns
shapes_cut n [] = refl
shapes_cut n (c ∷ columns) = ap (λ shapes. c.shape ∷ shapes) (shapes_cut n columns)

full_cut : (n count : ℕ) (columns : List Filled) → n ≤ count → AreFull count columns → AreFull n (map (cut n) columns)
full_cut n count [] le full = tt
full_cut n count (c ∷ columns) le full =
    (length-take-le n c.values (omega (arith, le, full.0)), full_cut n count columns le full.1)

earlier_at : (end : Offset) (p : Placed) (ps : List Placed) (b : Bool) → is_before end p ≡ b → All (λ q. q.offset.0 < end.0) ps → All (λ q. q.offset.0 < end.0) (cond b (p ∷ ps) ps)
earlier_at end p ps true e h = All-cons (λ q. q.offset.0 < end.0) p ps (ltb-true _ _ e) h
earlier_at end p ps false e h = h

earlier : (end : Offset) (ps : List Placed) → All (λ q. q.offset.0 < end.0) (filter (is_before end) ps)
earlier end [] = All-nil (λ q. q.offset.0 < end.0)
earlier end (p ∷ ps) = earlier_at end p (filter (is_before end) ps) (is_before end p) refl (earlier end ps)

ascending_cut : (n : ℕ) (ps : List Placed) → AllPairs (λ a b. a.offset.0 < b.offset.0) ps → AllPairs (λ a b. a.offset.0 < b.offset.0) (take n ps)
ascending_cut n ps h i j d lt within =
    let below : j < n = omega (arith, within, length-take n ps) in
    let inside : j < length ps = omega (arith, within, length-take n ps) in
    omega (arith, h i j d lt inside, ap (λ p. p.offset.0) (get_or-take n ps i d (omega (arith, lt, below))), ap (λ p. p.offset.0) (get_or-take n ps j d below))

consuming_cut : (s : Consuming) (n : ℕ) (end : Offset) → IsConsuming s → s.start.0 ≤ end.0 → filter (is_before end) s.rows ≡ take n s.rows → IsConsuming (record s { rows = take n s.rows; end = end })
consuming_cut s n end h after same =
    let below : All (λ q. q.offset.0 < end.0) (take n s.rows) = subst (λ ps. All (λ (q : Placed). q.offset.0 < end.0) ps) same (earlier end s.rows) in
    let old : All (IsBetween s.start s.end) (take n s.rows) = All-take (IsBetween s.start s.end) n s.rows h.between in
    record {
      few = h.few;
      named = h.named;
      distinct = h.distinct;
      limited = omega (arith, h.limited, length-take n s.rows);
      fit = All-take (λ p. FitsColumns s.columns p.row) n s.rows h.fit;
      short = All-take (λ p. All IsShort p.row.values) n s.rows h.short;
      between = λ k d lt. ((old k d lt).0, below k d lt);
      ascending = ascending_cut n s.rows h.ascending;
      ordered = after;
    }

module _ (start end : Offset) (offsets : List Offset) (columns : List Filled) (n : ℕ) (to : Offset)
    (h : HoldRows start end offsets columns) (le : n ≤ length offsets)
    (split : IsPartitionPoint (λ held. nat_lt held.0 to.0 ≡ true) (λ held. nat_lt held.0 to.0 ≡ false) offsets n) where
  first : filter (is_before to) (rows_from 0 columns offsets) ≡ take n (rows_from 0 columns offsets)
  first = first_rows (rows_from 0 columns offsets) offsets (offsets_of 0 columns offsets) to n le split

  segment_taken : segment_of start to (take n offsets) (map (cut n) columns) ≡ record (segment_of start end offsets columns) { rows = take n (rows_from 0 columns offsets); end = to }
  segment_taken =
      (λ j. record { columns = shapes_cut n columns j; start = start; rows = rows_cut 0 n n columns offsets (omega arith) j; end = to })

  pub segment_cut : segment_of start to (take n offsets) (map (cut n) columns) ≡ record (segment_of start end offsets columns) { rows = filter (is_before to) (rows_from 0 columns offsets); end = to }
  segment_cut = segment_taken ∙ ap (λ rows. record (segment_of start end offsets columns) { rows = rows; end = to }) (sym first)

  pub hold_cut : start.0 ≤ to.0 → HoldRows start to (take n offsets) (map (cut n) columns)
  hold_cut after = record {
    full = subst (λ m. AreFull m (map (cut n) columns)) (sym (length-take-le n offsets le)) (full_cut n (length offsets) columns le h.full);
    right = subst IsConsuming (sym segment_taken) (consuming_cut (segment_of start end offsets columns) n to h.right after first);
  }
