-- What groups hold once the groups of what was served are merged into them.
use Rattle.std.proofs.Common.{◌≡◌, ◌≤◌, ◌<◌, ℕ, zero, suc, ◌+◌, List, [], ◌∷◌, ◌++◌, length, drop, get_or, refl, sym, ap, subst, ◌∙◌, arith, append_assoc, append-nil, length-append}
use Rattle.rt_base.specs.declared.numbers.Partition.{Partition}
use Rattle.rt_model.specs.declared.answer.ResultRow.{ResultRow}
use Rattle.rt_model.specs.declared.query.Query.{Query}
use Rattle.rt_model.specs.Aggregate.{result_rows}
use Rattle.rt_agg.specs.declared.served.Served.{Served}
use Rattle.rt_agg.specs.Grouped.{Grouped, Holds, Merges, Finishes}
use Rattle.rt_broker.specs.declared.piece_asked.PieceAsked.{PieceAsked}
use Rattle.rt_broker.specs.declared.route.Route.{Route}
use Rattle.rt_broker.specs.Answering.{AreFew, AreHeld, Gains, RowsOf, rows_held, served_from, served_pieces, served_route, under}
use Rattle.rt_broker.specs.Asking.{served_in}

pub rows_held_append : (rows : RowsOf) (ss ts : List (Partition × Served)) → rows_held rows (ss ++ ts) ≡ rows_held rows ss ++ rows_held rows ts
rows_held_append rows [] ts = refl
rows_held_append rows (s ∷ ss) ts =
    ap (λ more. rows s ++ more) (rows_held_append rows ss ts) ∙ sym (append_assoc (rows s) (rows_held rows ss) (rows_held rows ts))

pub held_parts : (query : Query) (rows : RowsOf) (ss ts : List (Partition × Served)) → AreHeld query rows (ss ++ ts) → AreHeld query rows ss × AreHeld query rows ts
held_parts query rows [] ts h = (tt, h)
held_parts query rows (s ∷ ss) ts h = let rest = held_parts query rows ss ts h.1 in ((h.0, rest.0), rest.1)

pub gained_none : (g : Grouped) → Gains [] g g
gained_none g = λ query before rows holds held few. subst (λ all. Holds query all g) (sym (append-nil before)) holds

pub gained_then : (ss ts : List (Partition × Served)) (g h k : Grouped) → Gains ss g h → Gains ts h k → Gains (ss ++ ts) g k
gained_then ss ts g h k first second = λ query before rows holds held few.
    let parts = held_parts query rows ss ts held in
    let all : before ++ rows_held rows (ss ++ ts) ≡ (before ++ rows_held rows ss) ++ rows_held rows ts =
    ap (λ more. before ++ more) (rows_held_append rows ss ts) ∙ sym (append_assoc before (rows_held rows ss) (rows_held rows ts)) in
    let size = ap length all ∙ length-append (before ++ rows_held rows ss) (rows_held rows ts) in
    subst (λ rs. Holds query rs k) (sym all)
    (second query (before ++ rows_held rows ss) rows
    (first query before rows holds parts.0 (omega (arith, size, few)))
    parts.1 (subst AreFew all few))

pub gained_one : (p : Partition) (s : Served) (g k : Grouped) → Merges g s.groups k → Gains ((p, s) ∷ []) g k
gained_one p s g k merges = λ query before rows holds held few.
    let all : rows (p, s) ++ [] ≡ rows (p, s) = append-nil (rows (p, s)) in
    let size = length-append before (rows (p, s)) in
    let fewer : AreFew (before ++ rows (p, s)) = subst (λ rs. AreFew (before ++ rs)) all few in
    subst (λ rs. Holds query (before ++ rs) k) (sym all)
    (merges query before (rows (p, s)) holds held.0 (omega (arith, size, fewer)))

pub rows_finished : (query : Query) (ss : List (Partition × Served)) (g h : Grouped) (result : List ResultRow)
    → Holds query [] g → Gains ss g h → Finishes h result
    → (rows : RowsOf) → AreHeld query rows ss → AreFew (rows_held rows ss)
    → result ≡ result_rows query (rows_held rows ss)
rows_finished query ss g h result holds gains finishes rows held few =
    finishes query (rows_held rows ss) (gains query [] rows holds held few)

-- ---- one after the other

drop_here : {X : Type 0} (xs : List X) (i : ℕ) (x : X) → i < length xs → x ≡ get_or xs i x → drop i xs ≡ x ∷ drop (suc i) xs
drop_here [] i x lt at = absurd (omega (arith, lt))
drop_here (y ∷ ys) zero x lt at = ap (λ z. z ∷ ys) (sym at)
drop_here (y ∷ ys) (suc i) x lt at = drop_here ys i x (omega (arith, lt)) at

pub drop_end : {X : Type 0} (xs : List X) (i : ℕ) → length xs ≤ i → drop i xs ≡ []
drop_end [] zero le = refl
drop_end [] (suc i) le = refl
drop_end (x ∷ xs) zero le = absurd (omega (arith, le))
drop_end (x ∷ xs) (suc i) le = drop_end xs i (omega (arith, le))

one_more : (i : ℕ) → suc i ≡ i + 1
one_more i = omega arith

drop_next : {X : Type 0} (xs : List X) (i : ℕ) (x : X) → i < length xs → x ≡ get_or xs i x → drop i xs ≡ x ∷ drop (i + 1) xs
drop_next xs i x lt at = drop_here xs i x lt at ∙ ap (λ n. x ∷ drop n xs) (one_more i)

pub gain_next : (routes : List Route) (i : ℕ) (route : Route) (start g h : Grouped) → i < length routes → route ≡ get_or routes i route
    → ((p : Partition) → Gains (served_route p route) g h)
    → ((k : Grouped) → Gains (served_from i (drop i routes)) g k → Gains (served_from 0 routes) start k)
    → (k : Grouped) → Gains (served_from (i + 1) (drop (i + 1) routes)) h k → Gains (served_from 0 routes) start k
gain_next routes i route start g h lt at one all = λ k rest.
    let p : Partition = record { 0 = i } in
    all k (subst (λ rs. Gains (served_from i rs) g k) (sym (drop_next routes i route lt at))
    (gained_then (served_route p route) (served_from (i + 1) (drop (i + 1) routes)) g h k (one p) rest))

pub gain_end : (routes : List Route) (i : ℕ) (start g : Grouped) → length routes ≤ i
    → ((k : Grouped) → Gains (served_from i (drop i routes)) g k → Gains (served_from 0 routes) start k)
    → Gains (served_from 0 routes) start g
gain_end routes i start g past all = all g (subst (λ rs. Gains (served_from i rs) g g) (sym (drop_end routes i past)) (gained_none g))

pub gain_next_piece : (xs : List PieceAsked) (i : ℕ) (x : PieceAsked) (start g h : Grouped) → i < length xs → x ≡ get_or xs i x
    → ((p : Partition) → Gains (under p (served_in x.answers)) g h)
    → ((p : Partition) (k : Grouped) → Gains (served_pieces p (drop i xs)) g k → Gains (served_pieces p xs) start k)
    → (p : Partition) (k : Grouped) → Gains (served_pieces p (drop (i + 1) xs)) h k → Gains (served_pieces p xs) start k
gain_next_piece xs i x start g h lt at one all = λ p k rest.
    all p k (subst (λ ys. Gains (served_pieces p ys) g k) (sym (drop_next xs i x lt at))
    (gained_then (under p (served_in x.answers)) (served_pieces p (drop (i + 1) xs)) g h k (one p) rest))

pub gain_end_pieces : (xs : List PieceAsked) (i : ℕ) (start g : Grouped) → length xs ≤ i
    → ((p : Partition) (k : Grouped) → Gains (served_pieces p (drop i xs)) g k → Gains (served_pieces p xs) start k)
    → (p : Partition) → Gains (served_pieces p xs) start g
gain_end_pieces xs i start g past all = λ p.
    all p g (subst (λ ys. Gains (served_pieces p ys) g g) (sym (drop_end xs i past)) (gained_none g))
