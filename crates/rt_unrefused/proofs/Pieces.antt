-- The pieces of a plan, of which one after the other is asked for, at one replica after the other.
use Rattle.std.proofs.Common.{◌≡◌, ◌+◌, ◌<◌, ◌≤◌, ◌⊎◌, ◌==◌, ◌&&◌, ◌||◌, inl, inr, ℕ, zero, suc, Bool, true, false, cond, List, [], ◌∷◌, ◌++◌, map, Option, Some, None, get_or, refl, sym, ◌∙◌, ap, subst, arith}
use Rattle.std.specs.List.{list_all, range_with_len}
use Rattle.std.proofs.lemmas.Bool.{cases_lt, eq-eqb, ne_eqb}
use Rattle.std.proofs.lemmas.List.FromFn.{get_or-map-range_with_len}
use Rattle.std.proofs.lemmas.Option.{none-some}
use Rattle.rt_agg.specs.declared.served.Served.{Served}
use Rattle.rt_assign.proofs.Ring.{replicas_placed}
use Rattle.rt_assign.specs.Placement.{replica_of, replicas_of}
use Rattle.rt_base.specs.declared.numbers.Instance.{Instance}
use Rattle.rt_base.specs.declared.numbers.Partition.{Partition}
use Rattle.rt_broker.specs.Asking.{answered, asked_for, first_served, is_one_of, is_settled, served_by, served_in, unasked, was_asked, with_answer}
use Rattle.rt_broker.specs.declared.piece_asked.PieceAnswer.{PieceAnswer}
use Rattle.rt_broker.specs.declared.piece_asked.PieceAsked.{PieceAsked}
use Rattle.rt_model.specs.Plan.{plan_of, planned}
use Rattle.rt_model.specs.declared.node.Listed.{Listed}
use Rattle.rt_model.specs.declared.piece.Piece.{Piece}
use Rattle.rt_model.specs.declared.status.Status.{Status}
use Rattle.rt_model.specs.declared.status.Status.TheVariants.{Abandoned, Done, InProgress}

-- ---- a plan

-- pieces of a partition, whose sequences rise from this number on
abbrev pub Rise : Partition → ℕ → List Piece → Type 0
Rise p n [] = Unit {0}
Rise p n (x ∷ xs) = (n ≤ x.sequence.0) × (x.partition ≡ p) × Rise p (x.sequence.0 + 1) xs

pub rise_from : (p : Partition) (m n : ℕ) (xs : List Piece) → m ≤ n → Rise p n xs → Rise p m xs
rise_from p m n [] le k = tt
rise_from p m n (x ∷ xs) le k = (omega (arith, le, k.0), k.1, k.2)

abbrev number : Listed → ℕ
number l = l.sequence.0

numbers : (x y : ℕ) (xs ys : List ℕ) → x ∷ xs ≡ y ∷ ys → (x ≡ y) × (xs ≡ ys)
numbers x y xs ys e = (cc, cc)

pub plan_rises : (p : Partition) (ls : List Listed) (a n : ℕ) → map number ls ≡ range_with_len a n → Rise p a (plan_of p ls)
plan_rises p [] a n run = tt
plan_rises p (l ∷ ls) a zero run = absurd (cc)
plan_rises p (l ∷ ls) a (suc n) run = by_status l.seen.meta.status (plan_rises p ls (a + 1) n both.1)
  where
    both : (l.sequence.0 ≡ a) × (map number ls ≡ range_with_len (a + 1) n)
    both = numbers l.sequence.0 a (map number ls) (range_with_len (a + 1) n) run

    by_status : (s : Status) → Rise p (a + 1) (plan_of p ls) → Rise p a (planned p l s (plan_of p ls))
    by_status InProgress k = (omega (arith, both.0), refl, tt)
    by_status (Done commit) k =
        let same : a + 1 ≡ l.sequence.0 + 1 = omega (arith, both.0) in
        (omega (arith, both.0), refl, subst (λ (m : ℕ). Rise p m (plan_of p ls)) same k)
    by_status Abandoned k = rise_from p a (a + 1) (plan_of p ls) (omega arith) k

abbrev pub pieces_in : List PieceAsked → List Piece
pieces_in xs = map (λ x. x.piece) xs

-- of none was asked yet
abbrev pub AreFresh : List PieceAsked → Type 0
AreFresh [] = Unit {0}
AreFresh (x ∷ xs) = (x.answers ≡ []) × AreFresh xs

pub unasked_fresh : (ps : List Piece) → AreFresh (map unasked ps)
unasked_fresh [] = tt
unasked_fresh (p ∷ ps) = (refl, unasked_fresh ps)

-- ---- the pieces that are left

-- all are settled before these, of which none was asked yet
abbrev pub IsLeft : List Instance → List Piece → List PieceAsked → Type 0
IsLeft assigned rest [] = rest ≡ []
IsLeft assigned rest (x ∷ xs) =
    ((is_settled assigned x ≡ true) × IsLeft assigned rest xs) ⊎ ((rest ≡ pieces_in (x ∷ xs)) × AreFresh (x ∷ xs))

pub all_left : (assigned : List Instance) (xs : List PieceAsked) → AreFresh xs → IsLeft assigned (pieces_in xs) xs
all_left assigned [] k = refl
all_left assigned (x ∷ xs) k = inr (refl, k)

pub none_left : (assigned : List Instance) (xs : List PieceAsked) → IsLeft assigned [] xs → list_all (is_settled assigned) xs ≡ true
none_left assigned [] k = refl
none_left assigned (x ∷ xs) (inl (is, k)) = ap (λ b. b && list_all (is_settled assigned) xs) is ∙ none_left assigned xs k
none_left assigned (x ∷ xs) (inr (e, f)) = absurd (cc)

abbrev pub asked_so : Piece → List PieceAnswer → PieceAsked
asked_so y answers = record { piece = y; answers = answers }

-- this piece is asked for, with these answers so far; all before it are settled, and behind it are these
abbrev pub IsAsking : List Instance → Piece → List PieceAnswer → List Piece → List PieceAsked → Type 0
IsAsking assigned y answers rest [] = ⊥
IsAsking assigned y answers rest (x ∷ xs) =
    ((is_settled assigned x ≡ true) × (x.piece.sequence.0 < y.sequence.0) × IsAsking assigned y answers rest xs)
    ⊎ ((x ≡ asked_so y answers) × (rest ≡ pieces_in xs) × AreFresh xs)

module _ (assigned : List Instance) (y : Piece) (rest : List Piece) where
  pub left_above : (p : Partition) (n : ℕ) (xs : List PieceAsked) → Rise p n (pieces_in xs) → IsLeft assigned (y ∷ rest) xs → (n ≤ y.sequence.0) × (y.partition ≡ p)
  left_above p n [] k l = absurd (cc)
  left_above p n (x ∷ xs) k (inl (is, l)) =
      let f = left_above p (x.piece.sequence.0 + 1) xs k.2 l in (omega (arith, k.0, f.0), f.1)
  left_above p n (x ∷ xs) k (inr (e, f)) =
      let same : y ≡ x.piece = cc in (subst (λ (z : Piece). n ≤ z.sequence.0) (sym same) k.0, ap (λ (z : Piece). z.partition) same ∙ k.1)

  pub begins : (p : Partition) (n : ℕ) (xs : List PieceAsked) → Rise p n (pieces_in xs) → IsLeft assigned (y ∷ rest) xs → IsAsking assigned y [] rest xs
  begins p n [] k l = absurd (cc)
  begins p n (x ∷ xs) k (inl (is, l)) =
      inl (is, omega (arith, (left_above p (x.piece.sequence.0 + 1) xs k.2 l).0), begins p (x.piece.sequence.0 + 1) xs k.2 l)
  begins p n (x ∷ xs) k (inr (e, f)) =
      let same : y ≡ x.piece = cc in
      let others : rest ≡ pieces_in xs = cc in
      inr (ap (asked_so x.piece) f.0 ∙ ap (λ (z : Piece). asked_so z []) (sym same), others, f.1)

  abbrev some_asked : PieceAsked → Option PieceAsked
  some_asked x = Some x

  apart : (x : PieceAsked) → x.piece.sequence.0 < y.sequence.0 → (x.piece.sequence.0 == y.sequence.0) ≡ false
  apart x lt = ne_eqb x.piece.sequence.0 y.sequence.0 (λ same. absurd (omega (arith, lt, same)))

  here : (answers : List PieceAnswer) (x : PieceAsked) → x ≡ asked_so y answers → (x.piece.sequence.0 == y.sequence.0) ≡ true
  here answers x e = ap (λ (z : PieceAsked). z.piece.sequence.0 == y.sequence.0) e ∙ eq-eqb y.sequence.0 y.sequence.0 refl

  pub found_asked : (answers : List PieceAnswer) (xs : List PieceAsked) → IsAsking assigned y answers rest xs → asked_for y.sequence xs ≡ Some (asked_so y answers)
  found_asked answers [] k = absurd k
  found_asked answers (x ∷ xs) (inl (is, lt, k)) =
      ap (λ b. cond b (some_asked x) (asked_for y.sequence xs)) (apart x lt) ∙ found_asked answers xs k
  found_asked answers (x ∷ xs) (inr (e, same, f)) =
      ap (λ b. cond b (some_asked x) (asked_for y.sequence xs)) (here answers x e) ∙ ap some_asked e

  pub asks_on : (answers : List PieceAnswer) (a : PieceAnswer) (xs : List PieceAsked) → IsAsking assigned y answers rest xs
      → IsAsking assigned y (answers ++ a ∷ []) rest (with_answer y.sequence a xs)
  asks_on answers a [] k = absurd k
  asks_on answers a (x ∷ xs) (inl (is, lt, k)) =
      subst (λ b. IsAsking assigned y (answers ++ a ∷ []) rest (cond b (answered x a ∷ xs) (x ∷ with_answer y.sequence a xs))) (sym (apart x lt))
      (inl (is, lt, asks_on answers a xs k))
  asks_on answers a (x ∷ xs) (inr (e, same, f)) =
      subst (λ b. IsAsking assigned y (answers ++ a ∷ []) rest (cond b (answered x a ∷ xs) (x ∷ with_answer y.sequence a xs))) (sym (here answers x e))
      (inr (ap (λ (z : PieceAsked). answered z a) e, same, f))

  pub asked_ends : (answers : List PieceAnswer) (xs : List PieceAsked) → IsAsking assigned y answers rest xs → is_settled assigned (asked_so y answers) ≡ true
      → IsLeft assigned rest xs
  asked_ends answers [] k settled = absurd k
  asked_ends answers (x ∷ xs) (inl (is, lt, k)) settled = inl (is, asked_ends answers xs k settled)
  asked_ends answers (x ∷ xs) (inr (e, same, f)) settled =
      inl (ap (is_settled assigned) e ∙ settled, subst (λ (z : List Piece). IsLeft assigned z xs) (sym same) (all_left assigned xs f))

-- ---- the replicas of a piece

or_false : (b : Bool) → (b || false) ≡ b
or_false true = refl
or_false false = refl

or_true : (b : Bool) → (b || true) ≡ true
or_true true = refl
or_true false = refl

or_behind : (a b c : Bool) → (a || (b || c)) ≡ ((a || b) || c)
or_behind true b c = refl
or_behind false b c = refl

asked_more : (ys : List PieceAnswer) (y : PieceAnswer) (i : Instance) → was_asked (ys ++ y ∷ []) i ≡ (was_asked ys i || (y.from.0 == i.0))
asked_more [] y i = or_false (y.from.0 == i.0)
asked_more (z ∷ ys) y i =
    ap (λ b. (z.from.0 == i.0) || b) (asked_more ys y i) ∙ or_behind (z.from.0 == i.0) (was_asked ys i) (y.from.0 == i.0)

first_none : (o : Option Served) → first_served o None ≡ o
first_none None = refl
first_none (Some served) = refl

pub served_more : (ys : List PieceAnswer) (y : PieceAnswer) → served_in ys ≡ None → served_in (ys ++ y ∷ []) ≡ served_by y.got
served_more [] y none = first_none (served_by y.got)
served_more (z ∷ ys) y none = by_first (served_by z.got) none (served_more ys y)
  where
    some_served : Served → Option Served
    some_served s = Some s

    by_first : (o : Option Served) → first_served o (served_in ys) ≡ None → (served_in ys ≡ None → served_in (ys ++ y ∷ []) ≡ served_by y.got)
        → first_served o (served_in (ys ++ y ∷ [])) ≡ served_by y.got
    by_first None e further = further e
    by_first (Some s) e further = absurd (none-some s (sym e))

module _ (p : Partition) (replication servers : ℕ) where
  abbrev replica : ℕ → Instance
  replica k = replica_of p replication servers k

  -- the first ones were asked, and no others
  pub record AskedUpTo (k : ℕ) (answers : List PieceAnswer) : Type 0 where
    pub asked : (j : ℕ) → j < k → was_asked answers (replica j) ≡ true
    pub others : (j : ℕ) → k ≤ j → j < replication → was_asked answers (replica j) ≡ false

  pub none_asked : AskedUpTo 0 []
  none_asked = record { asked = λ j lt. absurd (omega (arith, lt)); others = λ j le lt. refl }

  all_of : (f : Instance → Bool) (a n : ℕ) → ((j : ℕ) → a ≤ j → j < a + n → f (replica j) ≡ true) → list_all f (map (replica_of p replication servers) (range_with_len a n)) ≡ true
  all_of f a zero k = refl
  all_of f a (suc n) k =
      ap (λ b. b && list_all f (map (replica_of p replication servers) (range_with_len (a + 1) n))) (k a (omega arith) (omega arith))
      ∙ all_of f (a + 1) n (λ j le lt. k j (omega (arith, le)) (omega (arith, lt)))

  pub all_asked : (answers : List PieceAnswer) → AskedUpTo replication answers → list_all (was_asked answers) (replicas_of p replication servers) ≡ true
  all_asked answers u = all_of (was_asked answers) 0 replication (λ j le lt. u.asked j (omega (arith, lt)))

  one_of : (k a n : ℕ) → a ≤ k → k < a + n → is_one_of (map (replica_of p replication servers) (range_with_len a n)) (replica k) ≡ true
  one_of k a zero le lt = absurd (omega (arith, le, lt))
  one_of k a (suc n) le lt = by_place (cases_lt a k) (λ less. one_of k (a + 1) n (omega (arith, less)) (omega (arith, lt)))
    where
      by_place : (a < k) ⊎ (k ≤ a) → (a < k → is_one_of (map (replica_of p replication servers) (range_with_len (a + 1) n)) (replica k) ≡ true)
          → (((replica a).0 == (replica k).0) || is_one_of (map (replica_of p replication servers) (range_with_len (a + 1) n)) (replica k)) ≡ true
      by_place (inl less) further =
          ap (λ b. ((replica a).0 == (replica k).0) || b) (further less) ∙ or_true ((replica a).0 == (replica k).0)
      by_place (inr ge) further =
          let same : a ≡ k = omega (arith, le, ge) in
          ap (λ b. b || is_one_of (map (replica_of p replication servers) (range_with_len (a + 1) n)) (replica k))
          (ap (λ (m : ℕ). (replica m).0 == (replica k).0) same ∙ eq-eqb (replica k).0 (replica k).0 refl)

  pub is_assigned : (k : ℕ) → k < replication → is_one_of (replicas_of p replication servers) (replica k) ≡ true
  is_assigned k lt = one_of k 0 replication (omega arith) (omega (arith, lt))

module _ (p : Partition) (replication servers : ℕ) (some : 1 ≤ replication) (enough : replication ≤ servers) where
  abbrev the_replica : ℕ → Instance
  the_replica k = replica_of p replication servers k

  at_place : (j : ℕ) (d : Instance) → j < replication → get_or (replicas_of p replication servers) j d ≡ the_replica j
  at_place j d lt = get_or-map-range_with_len (replica_of p replication servers) 0 replication j j d lt (omega arith)

  numbered : (m n : ℕ) → m ≡ n → (let one : ℕ → Instance = λ x. record { 0 = x } in one m ≡ one n)
  numbered m n e = let one : ℕ → Instance = λ x. record { 0 = x } in ap one e

  differs : (k j : ℕ) → k < j → j < replication → ((the_replica k).0 == (the_replica j).0) ≡ false
  differs k j less lt =
      let placed = replicas_placed p replication servers some enough in
      let d = the_replica 0 in
      ne_eqb (the_replica k).0 (the_replica j).0
      (λ same.
      placed.differ k j d less (omega (arith, placed.count, lt))
      (at_place k d (omega (arith, less, lt)) ∙ numbered (the_replica k).0 (the_replica j).0 same ∙ sym (at_place j d lt)))

  pub one_asked : (k : ℕ) (answers : List PieceAnswer) (y : PieceAnswer) → y.from ≡ the_replica k → AskedUpTo p replication servers k answers → AskedUpTo p replication servers (k + 1) (answers ++ y ∷ [])
  one_asked k answers y from u = record {
    asked = λ j lt. asked_more answers y (the_replica j) ∙ by_place j lt (cases_lt j k);
    others = λ j le lt.
        asked_more answers y (the_replica j)
        ∙ ap (λ b. b || (y.from.0 == (the_replica j).0)) (u.others j (omega (arith, le)) lt)
        ∙ ap (λ (i : Instance). i.0 == (the_replica j).0) from
        ∙ differs k j (omega (arith, le)) lt;
  }
    where
      by_place : (j : ℕ) → j < k + 1 → (j < k) ⊎ (k ≤ j) → (was_asked answers (the_replica j) || (y.from.0 == (the_replica j).0)) ≡ true
      by_place j lt (inl less) = ap (λ b. b || (y.from.0 == (the_replica j).0)) (u.asked j less)
      by_place j lt (inr le) =
          let same : k ≡ j = omega (arith, lt, le) in
          ap (λ b. was_asked answers (the_replica j) || b)
          (ap (λ (i : Instance). i.0 == (the_replica j).0) from ∙ ap (λ (n : ℕ). (the_replica n).0 == (the_replica j).0) same ∙ eq-eqb (the_replica j).0 (the_replica j).0 refl)
          ∙ or_true (was_asked answers (the_replica j))
