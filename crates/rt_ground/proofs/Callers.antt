-- The callers with which a ground is founded, one after the other.
use Rattle.std.proofs.Common.{◌≡◌, ℕ, suc, ◌+◌, ◌-◌, ◌<◌, List, [], ◌∷◌, ◌++◌, length, map, drop, get_or, sym, ap, ◌∙◌, subst, arith}
use Rattle.std.specs.List.{range_with_len}
use Rattle.std.proofs.lemmas.List.FromFn.{map-range_with_len_more}
use Rattle.atomic_table.specs.Seated.{TableId}
use Rattle.rt_model.specs.declared.node.Seen.{Seen}
use Rattle.rt_deep.specs.declared.deep_put.DeepPut.{DeepPut}
use Rattle.rt_front.specs.Histories.{Known}
use Rattle.rt_ground.specs.declared.blanks.Blanks.{Blanks}
use Rattle.rt_ground.specs.declared.appended.Appended.{Appended}
use Rattle.rt_ground.specs.declared.caller.Caller.{Caller}
use Rattle.rt_ground.specs.Callers.{new_front, fronts_from, new_caller}

pub all_left : {T : Type 0} (name : TableId) (n : ℕ) (fronts : List (Known T)) → fronts ≡ fronts_from name 0 n → fronts ≡ fronts_from name 0 (n - 0)
all_left {T} name n fronts e =
    let same : n ≡ n - 0 = omega arith in
    e ∙ ap (fronts_from {T = T} name 0) same

next_front : {T : Type 0} (name : TableId) (k n : ℕ) → k < n → fronts_from {T = T} name k (n - k) ≡ new_front name k ∷ fronts_from name (k + 1) (n - (k + 1))
next_front {T} name k n lt =
    let more : n - k ≡ suc (n - (k + 1)) = omega (arith, lt) in
    ap (fronts_from {T = T} name k) more

pub some_left : {T : Type 0} (name : TableId) (k n : ℕ) (fronts : List (Known T)) → k < n → fronts ≡ fronts_from name k (n - k) → 0 < length fronts
some_left name k n fronts lt left = subst (λ l. 0 < length l) (sym (left ∙ next_front name k n lt)) (omega arith)

-- the first of the fronts that are left, and those that are left then
pub record Took {T : Type 0} (name : TableId) (k n : ℕ) (x : Known T) (rest : List (Known T)) : Type 0 where
  pub front : x ≡ new_front name k
  pub left : rest ≡ fronts_from name (k + 1) (n - (k + 1))

pub took : {T : Type 0} (name : TableId) (k n : ℕ) (old rest : List (Known T)) (x : Known T) → k < n → old ≡ fronts_from name k (n - k) → old ≡ x ∷ rest → Took name k n x rest
took name k n old rest x lt left taken =
    let both = sym taken ∙ left ∙ next_front name k n lt in
    record { front = ap (λ l. get_or l 0 x) both; left = ap (λ l. drop 1 l) both }

pub took_name : {T : Type 0} (name : TableId) (k n : ℕ) (x : Known T) (rest : List (Known T)) → Took name k n x rest → x.chronicle ≡ name
took_name {T} name k n x rest t = ap (λ (f : Known T). f.chronicle) t.front

-- a caller of three such fronts
abbrev pub caller_of : {R J : Type 0} → Known Seen → Known DeepPut → Known Appended → Caller R J
caller_of store deep stream = record { store = store; deep = deep; stream = stream }

-- a caller more
pub callers_more : {R J : Type 0} (names : Blanks) (k : ℕ) (before after : List (Caller R J)) (x : Caller R J) (store : Known Seen) (deep : Known DeepPut) (stream : Known Appended)
    → store ≡ new_front names.store k → deep ≡ new_front names.deep k → stream ≡ new_front names.stream k → x ≡ caller_of store deep stream → after ≡ before ++ x ∷ []
    → before ≡ map (new_caller names) (range_with_len 0 k) → after ≡ map (new_caller names) (range_with_len 0 (k + 1))
callers_more {R} {J} names k before after x store deep stream e f g made pushed so_far =
    let is : x ≡ new_caller {R = R} {J = J} names k =
    made
    ∙ ap (λ s. caller_of {R = R} {J = J} s deep stream) e
    ∙ ap (λ d. caller_of {R = R} {J = J} (new_front names.store k) d stream) f
    ∙ ap (λ m. caller_of {R = R} {J = J} (new_front names.store k) (new_front names.deep k) m) g in
    pushed
    ∙ ap (λ l. l ++ x ∷ []) so_far
    ∙ ap (λ y. map (new_caller {R = R} {J = J} names) (range_with_len 0 k) ++ y ∷ []) is
    ∙ sym (map-range_with_len_more (new_caller {R = R} {J = J} names) 0 k k (omega arith))

pub all_made : {R J : Type 0} (names : Blanks) (k n : ℕ) (callers : List (Caller R J)) → k ≡ n → callers ≡ map (new_caller names) (range_with_len 0 k) → callers ≡ map (new_caller names) (range_with_len 0 n)
all_made {R} {J} names k n callers all so_far = so_far ∙ ap (λ m. map (new_caller {R = R} {J = J} names) (range_with_len 0 m)) all
