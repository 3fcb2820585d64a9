-- A caller that takes in others knows of each of them, and has the numbers of all.
use Rattle.std.proofs.Common.{◌≡◌, ℕ, suc, ◌+◌, List, [], ◌∷◌, ◌++◌, append-nil, append_assoc, length, map, Some, refl}
use Rattle.std.proofs.Common.{◌∙◌, ap, sym, subst, arith, slice_get}
use Rattle.std.proofs.lemmas.List.{map-append}
use Rattle.std.specs.Prelude.{All}
use Rattle.std.proofs.lemmas.List.Elements.{All-same}
use Rattle.rt_ground.specs.declared.caller.Caller.{Caller}
use Rattle.rt_live_end.specs.Meeting.{HasFirst, HasMet, MeetsOne}
use Rattle.rt_live_end.proofs.Meeting.{first_more, met_more}
use Rattle.rt_live_names.specs.Fronts.{AreOfCaller, Fronts}
use Rattle.rt_live_join.specs.Left.{fronts_by}
use Rattle.rt_live_join.specs.Meeting.{AreOfCallersFrom, MeetsAll}
use Rattle.rt_live_join.specs.Putting.{others_of}

-- it takes in one, and then those that are left
pub meets_further : {R J : Type 0} (caller met other : Caller R J) (left rest : List (Caller R J))
    → left ≡ other ∷ rest → MeetsOne (fronts_by caller) (fronts_by other) (fronts_by met) → (new : Fronts)
    → MeetsAll (fronts_by met) (map fronts_by rest) new → MeetsAll (fronts_by caller) (map fronts_by left) new
meets_further {R} {J} caller met other left rest steps one new further =
    subst (λ (l : List (Caller R J)). MeetsAll (fronts_by caller) (map fronts_by l) new) (sym steps)
    (fronts_by met, one, further)

-- after some it takes in others
meets_then : (a b c : Fronts) (xs ys : List Fronts) → MeetsAll a xs b → MeetsAll b ys c → MeetsAll a (xs ++ ys) c
meets_then a b c [] ys same meets = subst (λ (f : Fronts). MeetsAll f ys c) same meets
meets_then a b c (x ∷ xs) ys first meets = (first.0, first.1, meets_then first.0 b c xs ys first.2 meets)

-- all callers but the producer's
pub others_met : {R J : Type 0} (a b c d e : Caller R J) (servers controllers : List (Caller R J))
    (repairer broker : Caller R J) → MeetsAll (fronts_by a) (map fronts_by servers) (fronts_by b)
    → MeetsAll (fronts_by b) (map fronts_by controllers) (fronts_by c)
    → MeetsOne (fronts_by c) (fronts_by repairer) (fronts_by d)
    → MeetsOne (fronts_by d) (fronts_by broker) (fronts_by e)
    → MeetsAll (fronts_by a) (map fronts_by (others_of servers controllers repairer broker)) (fronts_by e)
others_met {R} {J} a b c d e servers controllers repairer broker first second third fourth =
    let last : List Fronts = fronts_by repairer ∷ fronts_by broker ∷ [] in
    let same : map fronts_by (others_of servers controllers repairer broker)
    ≡ (map fronts_by servers ++ map fronts_by controllers) ++ last =
    map-append fronts_by (servers ++ controllers) (repairer ∷ broker ∷ [])
    ∙ ap (λ (fs : List Fronts). fs ++ last) (map-append fronts_by servers controllers) in
    subst (λ (fs : List Fronts). MeetsAll (fronts_by a) fs (fronts_by e)) (sym same)
    (meets_then (fronts_by a) (fronts_by c) (fronts_by e) (map fronts_by servers ++ map fronts_by controllers) last
    (meets_then (fronts_by a) (fronts_by b) (fronts_by c) (map fronts_by servers) (map fronts_by controllers) first
    second)
    (fronts_by d, third, (fronts_by e, fourth, refl)))

pub met_all : (old new : Fronts) (parts others : List Fronts) → MeetsAll old others new → All (HasMet old) parts
    → All (HasMet new) (parts ++ others)
met_all old new parts [] same all =
    All-same (HasMet new) (parts ++ []) parts (append-nil parts)
    (subst (λ (f : Fronts). All (HasMet f) parts) (sym same) all)
met_all old new parts (other ∷ others) meets all =
    All-same (HasMet new) (parts ++ other ∷ others) ((parts ++ other ∷ []) ++ others)
    (sym (append_assoc parts (other ∷ []) others))
    (met_all meets.0 new (parts ++ other ∷ []) others meets.2 (met_more old other meets.0 parts meets.1 all))

pub numbers_all : (count : ℕ) (old new : Fronts) (others : List Fronts) → MeetsAll old others new → HasFirst count old
    → AreOfCallersFrom count others → HasFirst (count + length others) new
numbers_all count old new [] same first are =
    subst (λ (f : Fronts). HasFirst (count + 0) f) (sym same) (subst (λ m. HasFirst m old) (omega arith) first)
numbers_all count old new (other ∷ others) meets first are =
    let total : (count + 1) + length others ≡ count + length (other ∷ others) = omega arith in
    subst (λ m. HasFirst m new) total
    (numbers_all (count + 1) meets.0 new others meets.2 (first_more count old other meets.0 meets.1 first are.0) are.1)

-- ---- the numbers of these callers

pub callers_from : (first : ℕ) (fs : List Fronts)
    → ((k : ℕ) (f : Fronts) → slice_get fs k ≡ Some f → AreOfCaller (first + k) f) → AreOfCallersFrom first fs
callers_from first [] each = tt
callers_from first (f ∷ fs) each =
    let here : first + 0 ≡ first = omega arith in (
      subst (λ m. AreOfCaller m f) here (each 0 f refl),
      callers_from (first + 1) fs
          (λ k g at.
          let next : first + suc k ≡ (first + 1) + k = omega arith in
          subst (λ m. AreOfCaller m g) next (each (suc k) g at)),
    )

pub callers_then : (first : ℕ) (xs ys : List Fronts) → AreOfCallersFrom first xs
    → AreOfCallersFrom (first + length xs) ys → AreOfCallersFrom first (xs ++ ys)
callers_then first [] ys are more =
    let here : first + 0 ≡ first = omega arith in subst (λ m. AreOfCallersFrom m ys) here more
callers_then first (x ∷ xs) ys are more =
    let next : first + length (x ∷ xs) ≡ (first + 1) + length xs = omega arith in
    (are.0, callers_then (first + 1) xs ys are.1 (subst (λ m. AreOfCallersFrom m ys) next more))
