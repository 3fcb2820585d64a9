-- What an answer names of a partition, beside the plan of the partition: each committed range whole or not at all; and where no piece of the
-- plan is missing, all from the mark on.
use Rattle.std.proofs.Common.{◌≡◌, ◌<◌, ◌≤◌, ◌==◌, inl, inr, ℕ, Bool, true, false, cond, List, [], ◌∷◌, ◌++◌, map, option_to_list, Option, Some, None, refl, sym, ◌∙◌, ap, subst, arith}
use Rattle.std.specs.Prelude.{IfSome}
use Rattle.std.proofs.lemmas.Bool.{eq-eqb, eqb-false, eqb-true, ne_eqb}
use Rattle.std.proofs.lemmas.Option.{same_Some}
use Rattle.rt_base.specs.declared.numbers.Offset.{Offset}
use Rattle.rt_base.specs.declared.range.Range.{Range}
use Rattle.rt_broker.specs.Noting.{IsEnd, IsRangeOf}
use Rattle.rt_lists.specs.Members.{Has}
use Rattle.rt_model.specs.RightAnswer.{AskedPiece, joined, merged, served_ranges}
use Rattle.rt_model.specs.declared.piece.Piece.{Piece}
use Rattle.rt_play.proofs.Plans.{IsOf, PieceBy, Pieces}
use Rattle.rt_play.specs.Named.{Each, Spares, span}

each_weaker : (P Q : Range → Type 0) (rs : List Range) → ((r : Range) → P r → Q r) → Each P rs → Each Q rs
each_weaker P Q [] f h = tt
each_weaker P Q (r ∷ rs) f (first, rest) = (f r first, each_weaker P Q rs f rest)

-- ---- merged ranges

-- a range that isn't turned round, and spares this one
abbrev Good : Range → Range → Type 0
Good k r = (r.start.0 ≤ r.end.0) × Spares k r

-- so does what two make that touch
touching : (k r s : Range) → r.end.0 ≡ s.start.0 → Good k r → Good k s → Good k (record { start = r.start; end = s.end })
touching k r s e (le, a) (more, b) = (omega (arith, le, more, e), by_places a b)
  where
    by_places : Spares k r → Spares k s → Spares k (record { start = r.start; end = s.end })
    by_places (inr (inl behind)) any = inr (inl behind)
    by_places any (inl before) = inl before
    by_places (inl before) (inr (inl behind)) = inr (inr (omega (arith, before, le), omega (arith, behind, more)))
    by_places (inl before) (inr (inr (first, last))) = inr (inr (omega (arith, before, le), last))
    by_places (inr (inr (first, last))) (inr (inl behind)) = inr (inr (first, omega (arith, last, e, more)))
    by_places (inr (inr (first, last))) (inr (inr whole)) = inr (inr (first, whole.1))

-- what is true of each range, and of what two make that touch, is true of each that is merged
module _ (P : Range → Type 0) (touch : (r s : Range) → r.end.0 ≡ s.start.0 → P r → P s → P (record { start = r.start; end = s.end })) where
  joined_each : (r : Range) (rs : List Range) → P r → Each P rs → Each P (joined r rs)
  joined_each r [] own rest = (own, tt)
  joined_each r (s ∷ rest) own (first, others) = by_test (r.end.0 == s.start.0) refl
    where
      by_test : (b : Bool) → (r.end.0 == s.start.0) ≡ b → Each P (cond b (record { start = r.start; end = s.end } ∷ rest) (r ∷ (s ∷ rest)))
      by_test true e = (touch r s (eqb-true r.end.0 s.start.0 e) own first, others)
      by_test false e = (own, (first, others))

  merged_each : (rs : List Range) → Each P rs → Each P (merged rs)
  merged_each [] h = tt
  merged_each (r ∷ rest) (own, others) = by_test (r.start.0 == r.end.0) (merged_each rest others)
    where
      by_test : (b : Bool) → Each P (merged rest) → Each P (cond b (merged rest) (joined r (merged rest)))
      by_test true further = further
      by_test false further = joined_each r (merged rest) own further

-- ---- what was served of a plan

-- each piece that was served, was so over its own range
abbrev pub AreFit : List AskedPiece → Type 0
AreFit [] = Unit {0}
AreFit (a ∷ rest) = IfSome a.served (IsRangeOf a.piece) × AreFit rest

abbrev pieces : List AskedPiece → List Piece
pieces xs = map (λ a. a.piece) xs

none_left : (xs : List AskedPiece) → pieces xs ≡ [] → xs ≡ []
none_left [] e = refl
none_left (a ∷ xs) e = absurd (cc)

-- a piece that has an end has others behind it, which start there
next_pieces : (from : ℕ) (a : AskedPiece) (rest : List AskedPiece) → Pieces from (pieces (a ∷ rest)) → (end : Offset) → a.piece.end ≡ Some end
    → (from < end.0) × Pieces end.0 (pieces rest)
next_pieces from a rest ps end e = subst (λ (o : Option Offset). PieceBy o from (pieces rest ≡ []) (λ y. Pieces y (pieces rest))) e ps.1

last_piece : (from : ℕ) (a : AskedPiece) (rest : List AskedPiece) → Pieces from (pieces (a ∷ rest)) → a.piece.end ≡ None → rest ≡ []
last_piece from a rest ps e =
    none_left rest (subst (λ (o : Option Offset). PieceBy o from (pieces rest ≡ []) (λ y. Pieces y (pieces rest))) e ps.1)

-- served ranges start from there on
abbrev Rises : ℕ → Range → Type 0
Rises from s = (from ≤ s.start.0) × (s.start.0 ≤ s.end.0)

rises : (from : ℕ) (xs : List AskedPiece) → Pieces from (pieces xs) → AreFit xs → Each (Rises from) (served_ranges xs)
rises from [] ps fit = tt
rises from (a ∷ rest) ps (fits, others) = by_served a.served fits (by_end a.piece.end refl (λ x more. rises x rest more others))
  where
    by_end : (o : Option Offset) → a.piece.end ≡ o → ((x : ℕ) → Pieces x (pieces rest) → Each (Rises x) (served_ranges rest)) → Each (Rises from) (served_ranges rest)
    by_end None e further = subst (λ (xs : List AskedPiece). Each (Rises from) (served_ranges xs)) (sym (last_piece from a rest ps e)) tt
    by_end (Some end) e further =
        let next = next_pieces from a rest ps end e in
        each_weaker (Rises end.0) (Rises from) (served_ranges rest) (λ r h. (omega (arith, next.0, h.0), h.1)) (further end.0 next.1)

    by_served : (o : Option Range) → IfSome o (IsRangeOf a.piece) → Each (Rises from) (served_ranges rest)
        → Each (Rises from) (option_to_list o ++ served_ranges rest)
    by_served None fits further = further
    by_served (Some s) fits further = ((omega (arith, ps.0, ap (λ (x : Offset). x.0) fits.start), fits.order), further)

pieces_rise : (from : ℕ) (xs : List AskedPiece) (x : Piece) → Pieces from (pieces xs) → Has (pieces xs) x → from ≤ x.start.0
pieces_rise from [] x ps has = absurd has
pieces_rise from (a ∷ rest) x ps (inl same) = omega (arith, ps.0, ap (λ (y : Piece). y.start.0) same)
pieces_rise from (a ∷ rest) x ps (inr has) = by_end a.piece.end refl (λ y more. pieces_rise y rest x more has)
  where
    by_end : (o : Option Offset) → a.piece.end ≡ o → ((y : ℕ) → Pieces y (pieces rest) → y ≤ x.start.0) → from ≤ x.start.0
    by_end None e further = absurd (subst (λ (xs : List AskedPiece). Has (pieces xs) x) (last_piece from a rest ps e) has)
    by_end (Some end) e further = let next = next_pieces from a rest ps end e in omega (arith, next.0, further end.0 next.1)

-- ---- a range of the plan

-- a range that is below the plan
pub below_good : (from : ℕ) (xs : List AskedPiece) (k : Range) → Pieces from (pieces xs) → AreFit xs → k.end.0 ≤ from → Each (Good k) (served_ranges xs)
below_good from xs k ps fit le =
    each_weaker (Rises from) (Good k) (served_ranges xs) (λ s h. (h.1, inr (inl (omega (arith, le, h.0))))) (rises from xs ps fit)

-- one that is a piece of it
piece_good : (from : ℕ) (xs : List AskedPiece) (k : Range) (x : Piece) → Pieces from (pieces xs) → AreFit xs → Has (pieces xs) x → IsOf k x
    → Each (Good k) (served_ranges xs)
piece_good from [] k x ps fit has of = absurd has
piece_good from (a ∷ rest) k x ps (fits, others) (inl same) of =
    let start : a.piece.start ≡ k.start = ap (λ (y : Piece). y.start) same ∙ of.0 in
    let end : a.piece.end ≡ Some k.end = ap (λ (y : Piece). y.end) same ∙ of.1 in
    let next = next_pieces from a rest ps k.end end in
    by_served a.served start end fits (below_good k.end.0 rest k next.1 others (omega arith))
  where
    by_served : (o : Option Range) → a.piece.start ≡ k.start → a.piece.end ≡ Some k.end → IfSome o (IsRangeOf a.piece)
        → Each (Good k) (served_ranges rest) → Each (Good k) (option_to_list o ++ served_ranges rest)
    by_served None start end fits further = further
    by_served (Some s) start end fits further =
        let first = ap (λ (y : Offset). y.0) (fits.start ∙ start) in
        let last = ap (λ (y : Offset). y.0) (subst (λ (o : Option Offset). IsEnd o s.end) end fits.end) in
        ((fits.order, inr (inr (omega (arith, first), omega (arith, last)))), further)
piece_good from (a ∷ rest) k x ps (fits, others) (inr has) of = by_end a.piece.end refl (λ y more. piece_good y rest k x more others has of)
  where
    by_served : (end : Offset) (o : Option Range) → a.piece.end ≡ Some end → end.0 ≤ k.start.0 → IfSome o (IsRangeOf a.piece)
        → Each (Good k) (served_ranges rest) → Each (Good k) (option_to_list o ++ served_ranges rest)
    by_served end None e le fits further = further
    by_served end (Some s) e le fits further =
        let last = ap (λ (y : Offset). y.0) (subst (λ (o : Option Offset). IsEnd o s.end) e fits.end) in
        ((fits.order, inl (omega (arith, last, le))), further)

    by_end : (o : Option Offset) → a.piece.end ≡ o → ((y : ℕ) → Pieces y (pieces rest) → Each (Good k) (served_ranges rest))
        → Each (Good k) (option_to_list a.served ++ served_ranges rest)
    by_end None e further = absurd (subst (λ (xs : List AskedPiece). Has (pieces xs) x) (last_piece from a rest ps e) has)
    by_end (Some end) e further =
        let next = next_pieces from a rest ps end e in
        let le = pieces_rise end.0 rest x next.1 has in
        by_served end a.served e (omega (arith, le, ap (λ (y : Offset). y.0) of.0)) fits (further end.0 next.1)

spared : (k : Range) (rs : List Range) → Each (Good k) rs → Each (Spares k) (merged rs)
spared k rs h = each_weaker (Good k) (Spares k) (merged rs) (λ r g. g.1) (merged_each (Good k) (touching k) rs h)

-- what is named of a plan spares each range of the plan, and each below it
pub names_pieces : (from : ℕ) (xs : List AskedPiece) (k : Range) (x : Piece) → Pieces from (pieces xs) → AreFit xs → Has (pieces xs) x → IsOf k x
    → Each (Spares k) (merged (served_ranges xs))
names_pieces from xs k x ps fit has of = spared k (served_ranges xs) (piece_good from xs k x ps fit has of)

pub names_above : (from : ℕ) (xs : List AskedPiece) (k : Range) → Pieces from (pieces xs) → AreFit xs → k.end.0 ≤ from
    → Each (Spares k) (merged (served_ranges xs))
names_above from xs k ps fit le = spared k (served_ranges xs) (below_good from xs k ps fit le)

-- nothing is named below the plan
pub named_above : (from : ℕ) (xs : List AskedPiece) → Pieces from (pieces xs) → AreFit xs → Each (λ r. from ≤ r.start.0) (merged (served_ranges xs))
named_above from xs ps fit =
    merged_each (λ r. from ≤ r.start.0) (λ r s e own other. own) (served_ranges xs)
    (each_weaker (Rises from) (λ r. from ≤ r.start.0) (served_ranges xs) (λ r h. h.0) (rises from xs ps fit))

-- ---- a plan of which nothing is missing

-- each piece was served
abbrev pub AllServed : List AskedPiece → Type 0
AllServed [] = Unit {0}
AllServed (a ∷ rest) = (a.served ≡ None → ⊥) × AllServed rest

-- ranges go without a gap from one offset to another
abbrev Touch : ℕ → List Range → ℕ → Type 0
Touch from [] to = to ≡ from
Touch from (s ∷ rs) to = (s.start.0 ≡ from) × (s.start.0 ≤ s.end.0) × Touch s.end.0 rs to

touch_le : (from : ℕ) (rs : List Range) (to : ℕ) → Touch from rs to → from ≤ to
touch_le from [] to t = omega (arith, t)
touch_le from (s ∷ rs) to (start, le, rest) = omega (arith, start, le, touch_le s.end.0 rs to rest)

-- such ranges are named as one
module _ (s : Range) (to : ℕ) (some : s.start.0 < s.end.0) (le : s.end.0 ≤ to) where
  whole : span s.start.0 to ≡ record { start = s.start; end = record { 0 = to } } ∷ []
  whole = ap (λ b. cond b [] (record { start = s.start; end = record { 0 = to } } ∷ [])) (ne_eqb s.start.0 to (λ e. omega (arith, e, some, le)))

  joined_span : joined s (span s.end.0 to) ≡ span s.start.0 to
  joined_span = by_test (s.end.0 == to) refl
    where
      by_test : (b : Bool) → (s.end.0 == to) ≡ b → joined s (cond b [] (record { start = record { 0 = s.end.0 }; end = record { 0 = to } } ∷ [])) ≡ span s.start.0 to
      by_test true e =
          let last : s.end.0 ≡ to = eqb-true s.end.0 to e in
          let one : ℕ → List Range = λ n. record { start = s.start; end = record { 0 = n } } ∷ [] in
          ap one last ∙ sym whole
      by_test false e =
          ap (λ b. cond b (record { start = s.start; end = record { 0 = to } } ∷ []) (s ∷ (record { start = record { 0 = s.end.0 }; end = record { 0 = to } } ∷ [])))
          (eq-eqb s.end.0 s.end.0 refl)
          ∙ sym whole

named_span : (from : ℕ) (rs : List Range) (to : ℕ) → Touch from rs to → merged rs ≡ span from to
named_span from [] to t = sym (ap (λ b. cond b [] (record { start = record { 0 = from }; end = record { 0 = to } } ∷ [])) (eq-eqb from to (sym t)))
named_span from (s ∷ rs) to (start, le, rest) = by_test (s.start.0 == s.end.0) refl (named_span s.end.0 rs to rest)
  where
    by_test : (b : Bool) → (s.start.0 == s.end.0) ≡ b → merged rs ≡ span s.end.0 to → cond b (merged rs) (joined s (merged rs)) ≡ span from to
    by_test true e further = further ∙ ap (λ n. span n to) (sym (eqb-true s.start.0 s.end.0 e) ∙ start)
    by_test false e further =
        let some : s.start.0 < s.end.0 = omega (arith, le, eqb-false s.start.0 s.end.0 e) in
        ap (joined s) further ∙ joined_span s to some (touch_le s.end.0 rs to rest) ∙ ap (λ n. span n to) start

-- all of it was served, up to an offset
record IsWhole (from : ℕ) (xs : List AskedPiece) : Type 0 where
  to : ℕ
  touch : Touch from (served_ranges xs) to
  covers : (k : Range) (x : Piece) → Has (pieces xs) x → IsOf k x → (from ≤ k.start.0) × (k.end.0 ≤ to)

-- the last piece, which has no end, was served up to this offset
whole_last : (from : ℕ) (a : AskedPiece) (rest : List AskedPiece) (s : Range) → Pieces from (pieces (a ∷ rest)) → a.served ≡ Some s → IsRangeOf a.piece s
    → a.piece.end ≡ None → IsWhole from (a ∷ rest)
whole_last from a rest s ps at fits e =
    let last = last_piece from a rest ps e in
    record {
      to = s.end.0;
      touch =
          subst (λ (o : Option Range). Touch from (option_to_list o ++ served_ranges rest) s.end.0) (sym at)
          (subst (λ (xs : List AskedPiece). Touch from (s ∷ served_ranges xs) s.end.0) (sym last)
          (ap (λ (x : Offset). x.0) fits.start ∙ ps.0, fits.order, refl));
      covers = λ k x has of. absurd (no_end k x last has of);
    }
  where
    open_end : (k : Range) → (let none : Option Offset = None in none ≡ Some k.end) → ⊥
    open_end k f = cc

    no_end : (k : Range) (x : Piece) → rest ≡ [] → Has (pieces (a ∷ rest)) x → IsOf k x → ⊥
    no_end k x last (inl same) of = open_end k (sym e ∙ ap (λ (y : Piece). y.end) same ∙ of.1)
    no_end k x last (inr has) of = subst (λ (xs : List AskedPiece). Has (pieces xs) x) last has

-- one that has an end was served up to it, and then the others
whole_more : (from : ℕ) (a : AskedPiece) (rest : List AskedPiece) (s : Range) (end : Offset) → Pieces from (pieces (a ∷ rest)) → a.served ≡ Some s
    → IsRangeOf a.piece s → a.piece.end ≡ Some end → IsWhole end.0 rest → IsWhole from (a ∷ rest)
whole_more from a rest s end ps at fits e further =
    let last : s.end.0 ≡ end.0 = ap (λ (y : Offset). y.0) (subst (λ (o : Option Offset). IsEnd o s.end) e fits.end) in
    record {
      to = further.to;
      touch =
          subst (λ (o : Option Range). Touch from (option_to_list o ++ served_ranges rest) further.to) (sym at)
          (ap (λ (x : Offset). x.0) fits.start ∙ ps.0, fits.order, subst (λ n. Touch n (served_ranges rest) further.to) (sym last) further.touch);
      covers = λ k x has of. by_place k x has of (next_pieces from a rest ps end e).0 (touch_le end.0 (served_ranges rest) further.to further.touch);
    }
  where
    by_place : (k : Range) (x : Piece) → Has (pieces (a ∷ rest)) x → IsOf k x → from < end.0 → end.0 ≤ further.to → (from ≤ k.start.0) × (k.end.0 ≤ further.to)
    by_place k x (inl same) of lt le =
        let first : a.piece.start.0 ≡ k.start.0 = ap (λ (y : Piece). y.start.0) same ∙ ap (λ (y : Offset). y.0) of.0 in
        let last : end.0 ≡ k.end.0 = ap (λ (y : Offset). y.0) (same_Some end k.end (sym e ∙ ap (λ (y : Piece). y.end) same ∙ of.1)) in
        (omega (arith, ps.0, first), omega (arith, last, le))
    by_place k x (inr has) of lt le = let c = further.covers k x has of in (omega (arith, lt, c.0), c.1)

is_whole : (from : ℕ) (xs : List AskedPiece) → Pieces from (pieces xs) → AreFit xs → AllServed xs → IsWhole from xs
is_whole from [] ps fit all = record { to = from; touch = refl; covers = λ k x has. absurd has }
is_whole from (a ∷ rest) ps (fits, others) (served, all) = by_served a.served refl fits (λ x more. is_whole x rest more others all)
  where
    by_end : (s : Range) → a.served ≡ Some s → IsRangeOf a.piece s → ((x : ℕ) → Pieces x (pieces rest) → IsWhole x rest)
        → (o : Option Offset) → a.piece.end ≡ o → IsWhole from (a ∷ rest)
    by_end s at fits further None e = whole_last from a rest s ps at fits e
    by_end s at fits further (Some end) e = whole_more from a rest s end ps at fits e (further end.0 (next_pieces from a rest ps end e).1)

    by_served : (o : Option Range) → a.served ≡ o → IfSome o (IsRangeOf a.piece) → ((x : ℕ) → Pieces x (pieces rest) → IsWhole x rest) → IsWhole from (a ∷ rest)
    by_served None at fits further = absurd (served at)
    by_served (Some s) at fits further = by_end s at fits further a.piece.end refl

-- it is named as one range, and has each range of the plan
pub record NamesWhole (from : ℕ) (xs : List AskedPiece) : Type 0 where
  pub to : ℕ
  pub up : from ≤ to
  pub named : merged (served_ranges xs) ≡ span from to
  pub covers : (k : Range) (x : Piece) → Has (pieces xs) x → IsOf k x → (from ≤ k.start.0) × (k.end.0 ≤ to)

pub names_whole : (from : ℕ) (xs : List AskedPiece) → Pieces from (pieces xs) → AreFit xs → AllServed xs → NamesWhole from xs
names_whole from xs ps fit all =
    let w = is_whole from xs ps fit all in
    record {
      to = w.to;
      up = touch_le from (served_ranges xs) w.to w.touch;
      named = named_span from (served_ranges xs) w.to w.touch;
      covers = w.covers;
    }
