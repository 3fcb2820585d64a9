-- Entries fall into segments, and the entries of segments one behind the other fall into these segments again.
use Rattle.std.proofs.Common.{◌≡◌, suc, ◌<◌, Bool, true, false, cond, ◌&&◌, ◌==◌, List, [], ◌∷◌, ◌++◌, length, take, drop, get_or, refl, sym, ap, ◌∙◌, subst, arith}
use Rattle.std.specs.List.{AllByRecursion}
use Rattle.std.proofs.lemmas.Bool.{eqb-true, eq-eqb, and_parts, and_from}
use Rattle.rt_model.specs.declared.ideal_state.IdealEntry.{IdealEntry}
use Rattle.rt_rebalance.specs.Runs.{run_of}
use Rattle.rt_rebalance.specs.Segments.{Segment, is_beside, with_front, segments_of}

-- ---- being of one segment

pub beside_self : (e : IdealEntry) → is_beside e e ≡ true
beside_self e = and_from (e.partition.0 == e.partition.0) (e.sequence.0 == e.sequence.0) (eq-eqb e.partition.0 e.partition.0 refl) (eq-eqb e.sequence.0 e.sequence.0 refl)

pub beside_numbers : (e f : IdealEntry) → is_beside e f ≡ true → (f.partition.0 ≡ e.partition.0) × (f.sequence.0 ≡ e.sequence.0)
beside_numbers e f h =
    let both = and_parts (f.partition.0 == e.partition.0) (f.sequence.0 == e.sequence.0) h in
    (eqb-true f.partition.0 e.partition.0 both.0, eqb-true f.sequence.0 e.sequence.0 both.1)

pub numbers_beside : (e f : IdealEntry) → f.partition.0 ≡ e.partition.0 → f.sequence.0 ≡ e.sequence.0 → is_beside e f ≡ true
numbers_beside e f p s = and_from (f.partition.0 == e.partition.0) (f.sequence.0 == e.sequence.0) (eq-eqb f.partition.0 e.partition.0 p) (eq-eqb f.sequence.0 e.sequence.0 s)

pub beside_on : (e f g : IdealEntry) → is_beside e f ≡ true → is_beside f g ≡ true → is_beside e g ≡ true
beside_on e f g h k =
    let one = beside_numbers e f h in
    let two = beside_numbers f g k in
    numbers_beside e g (two.0 ∙ one.0) (two.1 ∙ one.1)

pub beside_back : (e f : IdealEntry) → is_beside e f ≡ true → is_beside f e ≡ true
beside_back e f h = let one = beside_numbers e f h in numbers_beside f e (sym one.0) (sym one.1)

-- what is beside one of two that are beside each other is beside the other
pub beside_same : (e f g : IdealEntry) → is_beside e f ≡ true → is_beside e g ≡ is_beside f g
beside_same e f g h =
    let one = beside_numbers e f h in
    λ i. (g.partition.0 == sym one.0 i) && (g.sequence.0 == sym one.1 i)

pub beside_right : (e f g : IdealEntry) → is_beside f g ≡ true → is_beside e g ≡ is_beside e f
beside_right e f g h = let one = beside_numbers f g h in λ i. (one.0 i == e.partition.0) && (one.1 i == e.sequence.0)

-- ---- the first segment

record Fronted (g : IdealEntry) (segments : List Segment) : Type 0 where
  rest : List IdealEntry
  later : List Segment
  is : segments ≡ (g ∷ rest) ∷ later

fronted : (g : IdealEntry) (segments : List Segment) → Fronted g (with_front g segments)
fronted g [] = record { rest = []; later = []; is = refl }
fronted g ([] ∷ ss) = record { rest = []; later = ss; is = refl }
fronted g ((f ∷ fs) ∷ ss) = by (is_beside g f)
  where
    by : (b : Bool) → Fronted g (cond b ((g ∷ (f ∷ fs)) ∷ ss) ((g ∷ []) ∷ ((f ∷ fs) ∷ ss)))
    by true = record { rest = f ∷ fs; later = ss; is = refl }
    by false = record { rest = []; later = (f ∷ fs) ∷ ss; is = refl }

-- an entry before one of another segment
apart_front : (f g : IdealEntry) (segments : List Segment) → Fronted g segments → is_beside f g ≡ false → with_front f segments ≡ (f ∷ []) ∷ segments
apart_front f g segments k apart =
    ap (with_front f) k.is ∙ ap (λ b. cond b ((f ∷ (g ∷ k.rest)) ∷ k.later) ((f ∷ []) ∷ ((g ∷ k.rest) ∷ k.later))) apart ∙ ap (λ ss. (f ∷ []) ∷ ss) (sym k.is)

run_from : (e f : IdealEntry) (fs : List IdealEntry) → is_beside e f ≡ true
    → segments_of (f ∷ fs) ≡ (f ∷ take (run_of e fs) fs) ∷ segments_of (drop (run_of e fs) fs)
run_from e f [] h = refl
run_from e f (g ∷ gs) h = by (run_from e g gs) (is_beside e g) refl
  where
    by : (is_beside e g ≡ true → segments_of (g ∷ gs) ≡ (g ∷ take (run_of e gs) gs) ∷ segments_of (drop (run_of e gs) gs))
        → (b : Bool) → is_beside e g ≡ b
        → with_front f (segments_of (g ∷ gs)) ≡ (f ∷ take (cond b (suc (run_of e gs)) 0) (g ∷ gs)) ∷ segments_of (drop (cond b (suc (run_of e gs)) 0) (g ∷ gs))
    by rest true k =
        ap (with_front f) (rest k)
        ∙ ap (λ b. cond b ((f ∷ (g ∷ take (run_of e gs) gs)) ∷ segments_of (drop (run_of e gs) gs)) ((f ∷ []) ∷ ((g ∷ take (run_of e gs) gs) ∷ segments_of (drop (run_of e gs) gs))))
        (beside_on f e g (beside_back e f h) k)
    by rest false k = apart_front f g (segments_of (g ∷ gs)) (fronted g (segments_of gs)) (sym (beside_same e f g h) ∙ k)

-- the entries of the first segment, and the others
pub run_parts : (es : List IdealEntry) (d : IdealEntry) → 0 < length es
    → segments_of es ≡ take (run_of (get_or es 0 d) es) es ∷ segments_of (drop (run_of (get_or es 0 d) es) es)
run_parts [] d h = absurd (omega (arith, h))
run_parts (e ∷ es) d h =
    run_from e e es (beside_self e)
    ∙ ap (λ b. take (cond b (suc (run_of e es)) 0) (e ∷ es) ∷ segments_of (drop (cond b (suc (run_of e es)) 0) (e ∷ es))) (sym (beside_self e))

pub run_some : (es : List IdealEntry) (d : IdealEntry) → 0 < length es → 0 < run_of (get_or es 0 d) es
run_some [] d h = absurd (omega (arith, h))
run_some (e ∷ es) d h = subst (λ b. 0 < cond b (suc (run_of e es)) 0) (sym (beside_self e)) (omega arith)

-- ---- segments one behind the other

abbrev pub flat : List Segment → List IdealEntry
flat [] = []
flat (segment ∷ segments) = segment ++ flat segments

abbrev pub IsRun : IdealEntry → Segment → Type 0
IsRun e es = AllByRecursion (λ f. is_beside e f ≡ true) es

abbrev pub IsApart : IdealEntry → List Segment → Type 0
IsApart e [] = Unit {0}
IsApart e ([] ∷ segments) = ⊥
IsApart e ((f ∷ fs) ∷ segments) = is_beside e f ≡ false

-- each list is the entries of one segment, and the next list is of another
abbrev pub AreParted : List Segment → Type 0
AreParted [] = Unit {0}
AreParted ([] ∷ segments) = ⊥
AreParted ((e ∷ es) ∷ segments) = IsRun e es × IsApart e segments × AreParted segments

apart_same : (e f : IdealEntry) (segments : List Segment) → is_beside e f ≡ true → IsApart f segments → IsApart e segments
apart_same e f [] h k = tt
apart_same e f ([] ∷ ss) h k = k
apart_same e f ((g ∷ gs) ∷ ss) h k = beside_same e f g h ∙ k

pub run_same : (e f : IdealEntry) (es : Segment) → is_beside e f ≡ true → IsRun f es → IsRun e es
run_same e f [] h k = tt
run_same e f (g ∷ gs) h k = (beside_on e f g h k.0, run_same e f gs h k.1)

front_parted : (e : IdealEntry) (segments : List Segment) → AreParted segments → AreParted (with_front e segments)
front_parted e [] k = (tt, tt, tt)
front_parted e ([] ∷ ss) k = absurd k
front_parted e ((f ∷ fs) ∷ ss) k = by (is_beside e f) refl
  where
    by : (b : Bool) → is_beside e f ≡ b → AreParted (cond b ((e ∷ (f ∷ fs)) ∷ ss) ((e ∷ []) ∷ ((f ∷ fs) ∷ ss)))
    by true h = ((h, run_same e f fs h k.0), apart_same e f ss h k.1, k.2)
    by false h = (tt, h, k)

pub segments_parted : (es : List IdealEntry) → AreParted (segments_of es)
segments_parted [] = tt
segments_parted (e ∷ es) = front_parted e (segments_of es) (segments_parted es)

flat_front : (e : IdealEntry) (segments : List Segment) → flat (with_front e segments) ≡ e ∷ flat segments
flat_front e [] = refl
flat_front e ([] ∷ ss) = refl
flat_front e ((f ∷ fs) ∷ ss) = by (is_beside e f)
  where
    by : (b : Bool) → flat (cond b ((e ∷ (f ∷ fs)) ∷ ss) ((e ∷ []) ∷ ((f ∷ fs) ∷ ss))) ≡ e ∷ flat ((f ∷ fs) ∷ ss)
    by true = refl
    by false = refl

pub flat_segments : (es : List IdealEntry) → flat (segments_of es) ≡ es
flat_segments [] = refl
flat_segments (e ∷ es) = flat_front e (segments_of es) ∙ ap (λ fs. e ∷ fs) (flat_segments es)

run_back : (e : IdealEntry) (es : Segment) (segments : List Segment) → IsRun e es → IsApart e segments → segments_of (flat segments) ≡ segments
    → segments_of ((e ∷ es) ++ flat segments) ≡ (e ∷ es) ∷ segments
run_back e [] segments run apart is = ap (with_front e) is ∙ by segments apart
  where
    by : (ss : List Segment) → IsApart e ss → with_front e ss ≡ (e ∷ []) ∷ ss
    by [] k = refl
    by ([] ∷ ss) k = absurd k
    by ((f ∷ fs) ∷ ss) k = ap (λ b. cond b ((e ∷ (f ∷ fs)) ∷ ss) ((e ∷ []) ∷ ((f ∷ fs) ∷ ss))) k
run_back e (f ∷ fs) segments run apart is =
    ap (with_front e) (run_back f fs segments (run_same f e fs (beside_back e f run.0) run.1) (apart_same f e segments (beside_back e f run.0) apart) is)
    ∙ ap (λ b. cond b ((e ∷ (f ∷ fs)) ∷ segments) ((e ∷ []) ∷ ((f ∷ fs) ∷ segments))) run.0

pub segments_flat : (segments : List Segment) → AreParted segments → segments_of (flat segments) ≡ segments
segments_flat [] k = refl
segments_flat ([] ∷ ss) k = absurd k
segments_flat ((e ∷ es) ∷ ss) k = run_back e es ss k.0 k.1 (segments_flat ss k.2)
