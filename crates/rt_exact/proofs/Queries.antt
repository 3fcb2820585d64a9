-- What a query shows is what it shows of its parts: no test and no plan looks at groups.
use Rattle.std.proofs.Common.{◌≡◌, ◌+◌, ℕ, zero, suc, Bool, true, false, ◌==◌, ◌&&◌, ◌||◌, not, if◌then◌else◌, List, [], ◌∷◌, ◌++◌, map, Option, Some, None, option_map, is_some, refl, sym, ◌∙◌, ap, replicate}
use Rattle.std.specs.List.{list_all}
use Rattle.std.proofs.lemmas.List.{append_assoc, map-append, map-set}
use Rattle.std.proofs.lemmas.Option.{slice_get-map}
use Rattle.rt_agg.specs.declared.served.Served.{Served}
use Rattle.rt_base.specs.declared.numbers.Instance.{Instance}
use Rattle.rt_base.specs.declared.numbers.Partition.{Partition}
use Rattle.rt_base.specs.declared.numbers.Sequence.{Sequence}
use Rattle.rt_broker.specs.Answering.{RowsOf, asked_piece, pieces_in, routed_from, routed_of, rows_held, rows_in_log, served_from, served_of, served_pieces, served_route, under}
use Rattle.rt_broker.specs.Asking.{Asking, answered, are_settled, asked_at, asked_for, asking, assigned_at, first_served, is_answer_due, is_due_of, is_one_of, is_piece_due, is_route_settled, is_settled, is_tried, is_tried_in, piece_at, pieces_at, plan_at, plan_in, route_at, served_by, served_in, unasked, was_asked, with_answer, with_route}
use Rattle.rt_broker.specs.Noting.{noted}
use Rattle.rt_broker.specs.declared.piece_asked.PieceAnswer.{PieceAnswer}
use Rattle.rt_broker.specs.declared.piece_asked.PieceAsked.{PieceAsked}
use Rattle.rt_broker.specs.declared.piece_got.PieceGot.{PieceGot}
use Rattle.rt_broker.specs.declared.piece_got.PieceGot.TheVariants as got
use Rattle.rt_broker.specs.declared.route.Route.{Route}
use Rattle.rt_broker.specs.declared.route.Route.TheVariants.{Untried, Failed, Planned}
use Rattle.rt_model.specs.declared.piece.Piece.{Piece}
use Rattle.rt_model.specs.declared.query.Query.{Query}
use Rattle.rt_model.specs.declared.setup.Setup.{Setup}
use Rattle.rt_model.specs.RightAnswer.{AskedPiece, Routed}
use Rattle.rt_schema.specs.declared.schema.Schema.{Schema}
use Rattle.rt_exact.specs.Shown.{answer_shown, asking_shown, got_shown, piece_shown, route_shown, served_shown}

-- ---- what came of a piece

served_by_shown : (what : PieceGot) → served_by (got_shown what) ≡ option_map served_shown (served_by what)
served_by_shown (got.Served served) = refl
served_by_shown got.NotServed = refl
served_by_shown got.Down = refl

first_shown : (x y : Option Served) → first_served (option_map served_shown x) (option_map served_shown y) ≡ option_map served_shown (first_served x y)
first_shown None y = refl
first_shown (Some served) y = refl

served_in_shown : (ys : List PieceAnswer) → served_in (map answer_shown ys) ≡ option_map served_shown (served_in ys)
served_in_shown [] = refl
served_in_shown (y ∷ ys) =
    ap (λ o. first_served o (served_in (map answer_shown ys))) (served_by_shown y.got)
    ∙ ap (λ o. first_served (option_map served_shown (served_by y.got)) o) (served_in_shown ys)
    ∙ first_shown (served_by y.got) (served_in ys)

is_some_shown : (o : Option Served) → is_some (option_map served_shown o) ≡ is_some o
is_some_shown None = refl
is_some_shown (Some served) = refl

is_served_shown : (ys : List PieceAnswer) → is_some (served_in (map answer_shown ys)) ≡ is_some (served_in ys)
is_served_shown ys = ap (λ (o : Option Served). is_some o) (served_in_shown ys) ∙ is_some_shown (served_in ys)

was_asked_shown : (ys : List PieceAnswer) (i : Instance) → was_asked (map answer_shown ys) i ≡ was_asked ys i
was_asked_shown [] i = refl
was_asked_shown (y ∷ ys) i = ap (λ b. (y.from.0 == i.0) || b) (was_asked_shown ys i)

-- ---- a plan

choice : {A B : Type 0} (f : A → B) (b : Bool) (x y : A) → f (if b then x else y) ≡ (if b then f x else f y)
choice f true x y = refl
choice f false x y = refl

asked_for_shown : (s : Sequence) (xs : List PieceAsked) → asked_for s (map piece_shown xs) ≡ option_map piece_shown (asked_for s xs)
asked_for_shown s [] = refl
asked_for_shown s (x ∷ xs) = by_test (x.piece.sequence.0 == s.0) (asked_for_shown s xs)
  where
    by_test : (b : Bool) → asked_for s (map piece_shown xs) ≡ option_map piece_shown (asked_for s xs)
        → (if b then Some (piece_shown x) else asked_for s (map piece_shown xs)) ≡ option_map piece_shown (if b then Some x else asked_for s xs)
    by_test true e = refl
    by_test false e = e

with_answer_shown : (s : Sequence) (y : PieceAnswer) (xs : List PieceAsked)
    → map piece_shown (with_answer s y xs) ≡ with_answer s (answer_shown y) (map piece_shown xs)
with_answer_shown s y [] = refl
with_answer_shown s y (x ∷ xs) = by_test (x.piece.sequence.0 == s.0) (with_answer_shown s y xs)
  where
    by_test : (b : Bool) → map piece_shown (with_answer s y xs) ≡ with_answer s (answer_shown y) (map piece_shown xs)
        → map piece_shown (if b then answered x y ∷ xs else x ∷ with_answer s y xs)
        ≡ (if b then answered (piece_shown x) (answer_shown y) ∷ map piece_shown xs else piece_shown x ∷ with_answer s (answer_shown y) (map piece_shown xs))
    by_test true e =
        let at : List PieceAnswer → List PieceAsked = λ ys. record x { answers = ys } ∷ map piece_shown xs in
        ap at (map-append answer_shown x.answers (y ∷ []))
    by_test false e = ap (λ zs. piece_shown x ∷ zs) e

unasked_shown : (ps : List Piece) → map piece_shown (map unasked ps) ≡ map unasked ps
unasked_shown [] = refl
unasked_shown (p ∷ ps) = ap (λ xs. unasked p ∷ xs) (unasked_shown ps)

pieces_shown : (xs : List PieceAsked) → map (λ (x : PieceAsked). x.piece) (map piece_shown xs) ≡ map (λ (x : PieceAsked). x.piece) xs
pieces_shown [] = refl
pieces_shown (x ∷ xs) = ap (λ ps. x.piece ∷ ps) (pieces_shown xs)

-- ---- a route

plan_in_shown : (o : Option Route) → plan_in (option_map route_shown o) ≡ map piece_shown (plan_in o)
plan_in_shown None = refl
plan_in_shown (Some Untried) = refl
plan_in_shown (Some Failed) = refl
plan_in_shown (Some (Planned xs)) = refl

tried_in_shown : (o : Option Route) → is_tried_in (option_map route_shown o) ≡ is_tried_in o
tried_in_shown None = refl
tried_in_shown (Some Untried) = refl
tried_in_shown (Some Failed) = refl
tried_in_shown (Some (Planned xs)) = refl

module _ (a : Asking) (p : Partition) where
  route_at_shown : route_at (asking_shown a) p ≡ option_map route_shown (route_at a p)
  route_at_shown = slice_get-map route_shown a.routes p.0

  pub tried_shown : is_tried (asking_shown a) p ≡ is_tried a p
  tried_shown = ap (λ o. is_tried_in o) route_at_shown ∙ tried_in_shown (route_at a p)

  pub plan_shown : plan_at (asking_shown a) p ≡ map piece_shown (plan_at a p)
  plan_shown = ap (λ o. plan_in o) route_at_shown ∙ plan_in_shown (route_at a p)

  pub pieces_at_shown : pieces_at (asking_shown a) p ≡ pieces_at a p
  pieces_at_shown = ap (λ xs. map (λ (x : PieceAsked). x.piece) xs) plan_shown ∙ pieces_shown (plan_at a p)

  pub with_route_shown : (route : Route) → asking_shown (with_route a p route) ≡ with_route (asking_shown a) p (route_shown route)
  with_route_shown route =
      let at : List Route → Asking = λ rs. record a { routes = rs } in
      ap at (map-set route_shown a.routes p.0 route)

  pub asked_at_shown : (s : Sequence) → asked_at (asking_shown a) p s ≡ option_map piece_shown (asked_at a p s)
  asked_at_shown s = ap (λ xs. asked_for s xs) plan_shown ∙ asked_for_shown s (plan_at a p)

piece_in_shown : (o : Option PieceAsked) → option_map (λ (x : PieceAsked). x.piece) (option_map piece_shown o) ≡ option_map (λ (x : PieceAsked). x.piece) o
piece_in_shown None = refl
piece_in_shown (Some x) = refl

pub piece_at_shown : (a : Asking) (p : Partition) (s : Sequence) → piece_at (asking_shown a) p s ≡ piece_at a p s
piece_at_shown a p s = ap (λ o. option_map (λ (x : PieceAsked). x.piece) o) (asked_at_shown a p s) ∙ piece_in_shown (asked_at a p s)

pub noted_shown : (a : Asking) (piece : Piece) (i : Instance) (what : PieceGot)
    → asking_shown (noted a piece i what) ≡ noted (asking_shown a) piece i (got_shown what)
noted_shown a piece i what =
    let y : PieceAnswer = record { from = i; got = what } in
    with_route_shown a piece.partition (Planned (with_answer piece.sequence y (plan_at a piece.partition)))
    ∙ ap (λ xs. with_route (asking_shown a) piece.partition (Planned xs))
    (with_answer_shown piece.sequence y (plan_at a piece.partition)
    ∙ ap (λ xs. with_answer piece.sequence (answer_shown y) xs) (sym (plan_shown a piece.partition)))

pub routed_shown : (a : Asking) (p : Partition) (ps : List Piece)
    → asking_shown (with_route a p (Planned (map unasked ps))) ≡ with_route (asking_shown a) p (Planned (map unasked ps))
routed_shown a p ps =
    with_route_shown a p (Planned (map unasked ps)) ∙ ap (λ xs. with_route (asking_shown a) p (Planned xs)) (unasked_shown ps)

-- ---- what is due

due_of_shown : (assigned : List Instance) (o : Option PieceAsked) (i : Instance) → is_due_of assigned (option_map piece_shown o) i ≡ is_due_of assigned o i
due_of_shown assigned None i = refl
due_of_shown assigned (Some x) i =
    ap (λ b. not b && is_one_of assigned i && not (was_asked (map answer_shown x.answers) i)) (is_served_shown x.answers)
    ∙ ap (λ b. not (is_some (served_in x.answers)) && is_one_of assigned i && not b) (was_asked_shown x.answers i)

pub piece_due_shown : (a : Asking) (p : Partition) (s : Sequence) (i : Instance) → is_piece_due (asking_shown a) p s i ≡ is_piece_due a p s i
piece_due_shown a p s i = ap (λ o. is_due_of (assigned_at a p) o i) (asked_at_shown a p s) ∙ due_of_shown (assigned_at a p) (asked_at a p s) i

all_asked_shown : (ys : List PieceAnswer) (is : List Instance) → list_all (was_asked (map answer_shown ys)) is ≡ list_all (was_asked ys) is
all_asked_shown ys is = ap (λ (f : Instance → Bool). list_all f is) (λ t i. was_asked_shown ys i t)

settled_shown : (assigned : List Instance) (x : PieceAsked) → is_settled assigned (piece_shown x) ≡ is_settled assigned x
settled_shown assigned x =
    ap (λ b. b || list_all (was_asked (map answer_shown x.answers)) assigned) (is_served_shown x.answers)
    ∙ ap (λ b. is_some (served_in x.answers) || b) (all_asked_shown x.answers assigned)

all_settled_shown : (assigned : List Instance) (xs : List PieceAsked) → list_all (is_settled assigned) (map piece_shown xs) ≡ list_all (is_settled assigned) xs
all_settled_shown assigned [] = refl
all_settled_shown assigned (x ∷ xs) =
    ap (λ b. b && list_all (is_settled assigned) (map piece_shown xs)) (settled_shown assigned x)
    ∙ ap (λ b. is_settled assigned x && b) (all_settled_shown assigned xs)

route_settled_shown : (assigned : List Instance) (r : Route) → is_route_settled assigned (route_shown r) ≡ is_route_settled assigned r
route_settled_shown assigned Untried = refl
route_settled_shown assigned Failed = refl
route_settled_shown assigned (Planned xs) = all_settled_shown assigned xs

are_settled_shown : (a : Asking) (n : ℕ) (rs : List Route) → are_settled (asking_shown a) n (map route_shown rs) ≡ are_settled a n rs
are_settled_shown a n [] = refl
are_settled_shown a n (r ∷ rs) =
    let assigned = assigned_at a (record { 0 = n }) in
    ap (λ b. b && are_settled (asking_shown a) (n + 1) (map route_shown rs)) (route_settled_shown assigned r)
    ∙ ap (λ b. is_route_settled assigned r && b) (are_settled_shown a (n + 1) rs)

pub answer_due_shown : (a : Asking) → is_answer_due (asking_shown a) ≡ is_answer_due a
answer_due_shown a = are_settled_shown a 0 a.routes

-- ---- a query before its first event

untried_shown : (n : ℕ) → map route_shown (replicate n Untried) ≡ replicate n Untried
untried_shown zero = refl
untried_shown (suc n) = ap (λ rs. Untried ∷ rs) (untried_shown n)

pub asking_is_shown : (query : Query) (setup : Setup) → asking_shown (asking query setup) ≡ asking query setup
asking_is_shown query setup =
    let at : List Route → Asking = λ rs. record { query = query; servers = setup.servers; replication = setup.table.replication; routes = rs } in
    ap at (untried_shown setup.partitions)

-- ---- what an answer is made of

ranges_shown : (o : Option Served) → option_map (λ (served : Served). served.range) (option_map served_shown o) ≡ option_map (λ (served : Served). served.range) o
ranges_shown None = refl
ranges_shown (Some served) = refl

asked_piece_shown : (x : PieceAsked) → asked_piece (piece_shown x) ≡ asked_piece x
asked_piece_shown x = λ t.
    record {
      piece = x.piece;
      served = (ap (λ o. option_map (λ (served : Served). served.range) o) (served_in_shown x.answers) ∙ ranges_shown (served_in x.answers)) t;
    }

asked_pieces_shown : (xs : List PieceAsked) → map asked_piece (map piece_shown xs) ≡ map asked_piece xs
asked_pieces_shown [] = refl
asked_pieces_shown (x ∷ xs) =
    ap (λ y. y ∷ map asked_piece (map piece_shown xs)) (asked_piece_shown x) ∙ ap (λ ys. asked_piece x ∷ ys) (asked_pieces_shown xs)

pieces_in_shown : (r : Route) → pieces_in (route_shown r) ≡ pieces_in r
pieces_in_shown Untried = refl
pieces_in_shown Failed = refl
pieces_in_shown (Planned xs) = ap (λ (ys : List AskedPiece). Some ys) (asked_pieces_shown xs)

routed_from_shown : (n : ℕ) (rs : List Route) → routed_from n (map route_shown rs) ≡ routed_from n rs
routed_from_shown n [] = refl
routed_from_shown n (r ∷ rs) =
    let at : Option (List AskedPiece) → Routed = λ o. record { partition = record { 0 = n }; pieces = o } in
    ap (λ o. at o ∷ routed_from (n + 1) (map route_shown rs)) (pieces_in_shown r)
    ∙ ap (λ xs. at (pieces_in r) ∷ xs) (routed_from_shown (n + 1) rs)

pub routed_of_shown : (a : Asking) → routed_of (asking_shown a) ≡ routed_of a
routed_of_shown a = routed_from_shown 0 a.routes

-- ---- the rows of what was served

abbrev pub OfRange : RowsOf → Type 0
OfRange rows = (p : Partition) (served : Served) → rows (p, served_shown served) ≡ rows (p, served)

pub of_range : (schema : Schema) (log : List (List (List ℕ))) (query : Query) → OfRange (rows_in_log schema log query)
of_range schema log query p served = refl

module _ (rows : RowsOf) (same : OfRange rows) where
  under_shown : (p : Partition) (o : Option Served) (more rest : List (Partition × Served)) → rows_held rows more ≡ rows_held rows rest
      → rows_held rows (under p (option_map served_shown o) ++ more) ≡ rows_held rows (under p o ++ rest)
  under_shown p None more rest e = e
  under_shown p (Some served) more rest e =
      ap (λ xs. xs ++ rows_held rows more) (same p served) ∙ ap (λ xs. rows (p, served) ++ xs) e

  pieces_rows : (p : Partition) (xs : List PieceAsked) (more rest : List (Partition × Served)) → rows_held rows more ≡ rows_held rows rest
      → rows_held rows (served_pieces p (map piece_shown xs) ++ more) ≡ rows_held rows (served_pieces p xs ++ rest)
  pieces_rows p [] more rest e = e
  pieces_rows p (x ∷ xs) more rest e =
      let before = under p (served_in (map answer_shown x.answers)) in
      let o = served_in x.answers in
      ap (λ ss. rows_held rows ss) (append_assoc before (served_pieces p (map piece_shown xs)) more)
      ∙ ap (λ q. rows_held rows (under p q ++ (served_pieces p (map piece_shown xs) ++ more))) (served_in_shown x.answers)
      ∙ under_shown p o (served_pieces p (map piece_shown xs) ++ more) (served_pieces p xs ++ rest) (pieces_rows p xs more rest e)
      ∙ ap (λ ss. rows_held rows ss) (sym (append_assoc (under p o) (served_pieces p xs) rest))

  route_rows : (p : Partition) (r : Route) (more rest : List (Partition × Served)) → rows_held rows more ≡ rows_held rows rest
      → rows_held rows (served_route p (route_shown r) ++ more) ≡ rows_held rows (served_route p r ++ rest)
  route_rows p Untried more rest e = e
  route_rows p Failed more rest e = e
  route_rows p (Planned xs) more rest e = pieces_rows p xs more rest e

  from_rows : (n : ℕ) (rs : List Route) → rows_held rows (served_from n (map route_shown rs)) ≡ rows_held rows (served_from n rs)
  from_rows n [] = refl
  from_rows n (r ∷ rs) = route_rows (record { 0 = n }) r (served_from (n + 1) (map route_shown rs)) (served_from (n + 1) rs) (from_rows (n + 1) rs)

  pub rows_shown : (a : Asking) → rows_held rows (served_of (asking_shown a)) ≡ rows_held rows (served_of a)
  rows_shown a = from_rows 0 a.routes
