-- An answer is right where what was served are ranges of a log in order, held by its groups.
use Rattle.std.proofs.Common.{◌≡◌, ◌≤◌, ℕ, ◌+◌, ◌-◌, ◌==◌, Bool, true, false, List, [], ◌∷◌, ◌++◌, length, map, take, drop, Option, Some, None, refl, sym, ap, ◌∙◌, arith, append_assoc, get_or, if◌then◌else◌}
use Rattle.std.specs.Prelude.{option_map, option_to_list, All, filter_map, Result, Ok, Err, IfOk}
use Rattle.std.specs.List.{range_with_len}
use Rattle.std.proofs.lemmas.Bool.{eqb-true}
use Rattle.std.proofs.lemmas.List.Elements.{All-head, All-tail, filter-append}
use Rattle.rt_base.specs.declared.numbers.Partition.{Partition}
use Rattle.rt_base.specs.declared.range.Range.{Range}
use Rattle.rt_schema.specs.declared.row.Row.{Row}
use Rattle.rt_schema.specs.declared.schema.Schema.{Schema}
use Rattle.rt_schema.specs.Row.{row_of, rows_between}
use Rattle.rt_schema.proofs.Rows.{rows_in_meets}
use Rattle.rt_model.specs.declared.answer.Answer.{Answer}
use Rattle.rt_model.specs.declared.query.Query.{Query}
use Rattle.rt_model.specs.Aggregate.{taken, result_rows}
use Rattle.rt_model.specs.Match.{passes}
use Rattle.rt_model.specs.RightAnswer.{Routed, AreInOrder, IsServed, IsRightAnswer, joined, merged, missing_of, named_in, named_ranges, pieces_of, rows_of, served_ranges}
use Rattle.rt_agg.specs.declared.served.Served.{Served}
use Rattle.rt_broker.specs.declared.piece_asked.PieceAsked.{PieceAsked}
use Rattle.rt_broker.specs.declared.refused.BrokerRefused.{BrokerRefused}
use Rattle.rt_broker.specs.declared.route.Route.{Route}
use Rattle.rt_broker.specs.declared.route.Route.TheVariants.{Untried, Failed, Planned}
use Rattle.rt_broker.specs.Answering.{AreFew, AreHeld, AreServed, RowsOf, asked_piece, pieces_in, routed_from, routed_of, rows_held, rows_in_log, served_from, served_of, served_pieces, served_route, under}
use Rattle.rt_broker.specs.Asking.{Asking, served_in}
use Rattle.rt_broker.proofs.Gaining.{rows_held_append}

abbrev Log : Type 0
Log = List (List (List ℕ))

abbrev pub rows_at : Schema → Log → Partition → Range → List Row
rows_at schema log p r = rows_between schema log p.0 r.start.0 r.end.0

-- the rows of a partition's ranges, one after the other
abbrev pub rows_all : Schema → Log → Partition → List Range → List Row
rows_all schema log p [] = []
rows_all schema log p (r ∷ rs) = rows_at schema log p r ++ rows_all schema log p rs

rows_none : (schema : Schema) (log : Log) (p a b : ℕ) → a ≡ b → rows_between schema log p a b ≡ []
rows_none schema log p a b e =
    let none : b - a ≡ 0 = omega (arith, e) in
    ap (λ n. filter_map (row_of schema) (take n (drop a (get_or log p [])))) none

-- ---- merged ranges have the same rows

pub order_from : (m n : ℕ) (rs : List Range) → m ≤ n → AreInOrder n rs → AreInOrder m rs
order_from m n [] h o = tt
order_from m n (r ∷ rs) h o = (omega (arith, h, o.0), o.1, o.2)

order_joined : (from : ℕ) (r : Range) (ss : List Range) → from ≤ r.start.0 → r.start.0 ≤ r.end.0 → AreInOrder r.end.0 ss → AreInOrder from (joined r ss)
order_joined from r [] a b o = (a, b, tt)
order_joined from r (s ∷ ss) a b o = by_test (r.end.0 == s.start.0)
  where
    by_test : (t : Bool) → AreInOrder from (if t then record { start = r.start; end = s.end } ∷ ss else r ∷ (s ∷ ss))
    by_test true = (a, omega (arith, b, o.0, o.1), o.2)
    by_test false = (a, b, o)

order_merged : (from : ℕ) (rs : List Range) → AreInOrder from rs → AreInOrder from (merged rs)
order_merged from [] o = tt
order_merged from (r ∷ rs) o = by_test (r.start.0 == r.end.0) (order_merged r.end.0 rs o.2)
  where
    by_test : (t : Bool) → AreInOrder r.end.0 (merged rs) → AreInOrder from (if t then merged rs else joined r (merged rs))
    by_test true later = order_from from r.end.0 (merged rs) (omega (arith, o.0, o.1)) later
    by_test false later = order_joined from r (merged rs) o.0 o.1 later

rows_joined : (schema : Schema) (log : Log) (p : Partition) (r : Range) (ss : List Range) → r.start.0 ≤ r.end.0 → AreInOrder r.end.0 ss
    → rows_all schema log p (joined r ss) ≡ rows_at schema log p r ++ rows_all schema log p ss
rows_joined schema log p r [] b o = refl
rows_joined schema log p r (s ∷ ss) b o = by_test (r.end.0 == s.start.0) refl
  where
    by_test : (t : Bool) → (r.end.0 == s.start.0) ≡ t
        → rows_all schema log p (if t then record { start = r.start; end = s.end } ∷ ss else r ∷ (s ∷ ss))
        ≡ rows_at schema log p r ++ (rows_at schema log p s ++ rows_all schema log p ss)
    by_test true e =
        let meets : r.end.0 ≡ s.start.0 = eqb-true r.end.0 s.start.0 e in
        let both = rows_in_meets schema (get_or log p.0 []) r.start.0 r.end.0 s.end.0 b (omega (arith, o.0, o.1)) in
        ap (λ rows. rows ++ rows_all schema log p ss)
        (both ∙ ap (λ n. rows_at schema log p r ++ rows_between schema log p.0 n s.end.0) meets)
        ∙ append_assoc (rows_at schema log p r) (rows_at schema log p s) (rows_all schema log p ss)
    by_test false e = refl

pub rows_merged : (schema : Schema) (log : Log) (p : Partition) (from : ℕ) (rs : List Range) → AreInOrder from rs
    → rows_all schema log p (merged rs) ≡ rows_all schema log p rs
rows_merged schema log p from [] o = refl
rows_merged schema log p from (r ∷ rs) o = by_test (r.start.0 == r.end.0) refl (rows_merged schema log p r.end.0 rs o.2)
  where
    by_test : (t : Bool) → (r.start.0 == r.end.0) ≡ t → rows_all schema log p (merged rs) ≡ rows_all schema log p rs
        → rows_all schema log p (if t then merged rs else joined r (merged rs)) ≡ rows_at schema log p r ++ rows_all schema log p rs
    by_test true e rest =
        let none = rows_none schema log p.0 r.start.0 r.end.0 (eqb-true r.start.0 r.end.0 e) in
        rest ∙ sym (ap (λ rows. rows ++ rows_all schema log p rs) none)
    by_test false e rest =
        rows_joined schema log p r (merged rs) o.1 (order_merged r.end.0 rs o.2)
        ∙ ap (λ rows. rows_at schema log p r ++ rows) rest

pub rows_named : (schema : Schema) (log : Log) (p : Partition) (rs : List Range) → rows_of schema log (map (λ r. (p, r)) rs) ≡ rows_all schema log p rs
rows_named schema log p [] = refl
rows_named schema log p (r ∷ rs) = ap (λ rows. rows_at schema log p r ++ rows) (rows_named schema log p rs)

pub rows_of_append : (schema : Schema) (log : Log) (rs ss : List (Partition × Range)) → rows_of schema log (rs ++ ss) ≡ rows_of schema log rs ++ rows_of schema log ss
rows_of_append schema log [] ss = refl
rows_of_append schema log (r ∷ rs) ss =
    ap (λ rows. rows_between schema log r.0.0 r.1.start.0 r.1.end.0 ++ rows) (rows_of_append schema log rs ss)
    ∙ sym (append_assoc (rows_between schema log r.0.0 r.1.start.0 r.1.end.0) (rows_of schema log rs) (rows_of schema log ss))

-- ---- what was served has the rows of its ranges

taken_append : (query : Query) (xs ys : List Row) → taken query (xs ++ ys) ≡ taken query xs ++ taken query ys
taken_append query xs ys = filter-append (passes query.filter) xs ys

held_pieces : (schema : Schema) (log : Log) (query : Query) (p : Partition) (xs : List PieceAsked)
    → rows_held (rows_in_log schema log query) (served_pieces p xs) ≡ taken query (rows_all schema log p (served_ranges (map asked_piece xs)))
held_pieces schema log query p [] = refl
held_pieces schema log query p (x ∷ xs) = by_served (served_in x.answers) (held_pieces schema log query p xs)
  where
    by_served : (o : Option Served)
        → rows_held (rows_in_log schema log query) (served_pieces p xs) ≡ taken query (rows_all schema log p (served_ranges (map asked_piece xs)))
        → rows_held (rows_in_log schema log query) (under p o ++ served_pieces p xs)
        ≡ taken query (rows_all schema log p (option_to_list (option_map (λ served. served.range) o) ++ served_ranges (map asked_piece xs)))
    by_served None rest = rest
    by_served (Some s) rest =
        ap (λ more. taken query (rows_at schema log p s.range) ++ more) rest
        ∙ sym (taken_append query (rows_at schema log p s.range) (rows_all schema log p (served_ranges (map asked_piece xs))))

held_route : (schema : Schema) (log : Log) (query : Query) (p : Partition) (route : Route)
    → AreInOrder 0 (served_ranges (pieces_of (pieces_in route)))
    → rows_held (rows_in_log schema log query) (served_route p route)
    ≡ taken query (rows_of schema log (named_in (record { partition = p; pieces = pieces_in route })))
held_route schema log query p Untried o = refl
held_route schema log query p Failed o = refl
held_route schema log query p (Planned xs) o =
    held_pieces schema log query p xs
    ∙ ap (taken query)
    (sym (rows_named schema log p (merged (served_ranges (map asked_piece xs))) ∙ rows_merged schema log p 0 (served_ranges (map asked_piece xs)) o))

abbrev numbered : ℕ → Partition
numbered n = record { 0 = n }

held_from : (schema : Schema) (log : Log) (query : Query) (n : ℕ) (routes : List Route) → All (IsServed log) (routed_from n routes)
    → rows_held (rows_in_log schema log query) (served_from n routes) ≡ taken query (rows_of schema log (named_ranges (routed_from n routes)))
held_from schema log query n [] all = refl
held_from schema log query n (route ∷ routes) all =
    let p : Partition = numbered n in
    let first : Routed = record { partition = p; pieces = pieces_in route } in
    let here = All-head (IsServed log) first (routed_from (n + 1) routes) all in
    let rest = held_from schema log query (n + 1) routes (All-tail (IsServed log) first (routed_from (n + 1) routes) all) in
    rows_held_append (rows_in_log schema log query) (served_route p route) (served_from (n + 1) routes)
    ∙ ap (λ more. rows_held (rows_in_log schema log query) (served_route p route) ++ more) rest
    ∙ ap (λ more. more ++ taken query (rows_of schema log (named_ranges (routed_from (n + 1) routes)))) (held_route schema log query p route here.in_order)
    ∙ sym (taken_append query (rows_of schema log (named_in first)) (rows_of schema log (named_ranges (routed_from (n + 1) routes))))
    ∙ ap (taken query) (sym (rows_of_append schema log (named_in first) (named_ranges (routed_from (n + 1) routes))))

numbers : (n : ℕ) (routes : List Route) → map (λ r. r.partition.0) (routed_from n routes) ≡ range_with_len n (length routes)
numbers n [] = refl
numbers n (route ∷ routes) = ap (λ ns. n ∷ ns) (numbers (n + 1) routes)

right_answer : (a : Asking) (answer : Answer) → answer.ranges ≡ named_ranges (routed_of a) → answer.missing ≡ missing_of (routed_of a)
    → ((rows : RowsOf) → AreHeld a.query rows (served_of a) → AreFew (rows_held rows (served_of a)) → answer.rows ≡ result_rows a.query (rows_held rows (served_of a)))
    → (schema : Schema) (log : Log) → AreServed schema log a → IsRightAnswer schema log a.query (routed_of a) answer
right_answer a answer ranges missing rows schema log k =
    record {
      partitions = numbers 0 a.routes ∙ ap (range_with_len 0) (sym k.partitions);
      served = k.served;
      ranges = ranges;
      missing = missing;
      rows =
          rows (rows_in_log schema log a.query) k.held k.few
          ∙ ap (result_rows a.query)
          (held_from schema log a.query 0 a.routes k.served ∙ ap (λ rs. taken a.query (rows_of schema log rs)) (sym ranges));
    }

pub answer_right : (a : Asking) (result : Result Answer BrokerRefused) → IfOk result (λ answer. answer.ranges ≡ named_ranges (routed_of a))
    → IfOk result (λ answer. answer.missing ≡ missing_of (routed_of a))
    → IfOk result (λ answer. (rows : RowsOf) → AreHeld a.query rows (served_of a) → AreFew (rows_held rows (served_of a)) → answer.rows ≡ result_rows a.query (rows_held rows (served_of a)))
    → IfOk result (λ answer. (schema : Schema) (log : Log) → AreServed schema log a → IsRightAnswer schema log a.query (routed_of a) answer)
answer_right a (Ok answer) ranges missing rows = right_answer a answer ranges missing rows
answer_right a (Err e) ranges missing rows = tt
