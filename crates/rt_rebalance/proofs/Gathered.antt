-- The replicas of entries, one entry after the other.
use Rattle.std.proofs.Common.{◌≡◌, ℕ, Bool, true, false, cond, ◌&&◌, ◌||◌, ◌==◌, List, [], ◌∷◌, ◌++◌, length, get_or, take, ◌+◌, ◌<◌, Ordering, Less, Equal, Greater, is_eq, nat_cmp, refl, sym, ap, ◌∙◌, arith}
use Rattle.std.proofs.lemmas.Bool.Decides.{nat_tests}
use Rattle.std.proofs.lemmas.List.{take_more}
use Rattle.std.proofs.lemmas.List.Folds.{list_any-append}
use Rattle.std.specs.BTreeMap.{is_at}
use Rattle.std.specs.List.{list_any}
use Rattle.std.specs.Ordering.{ordering_then}
use Rattle.rt_base.specs.declared.numbers.Partition.{Partition}
use Rattle.rt_base.specs.declared.numbers.Sequence.{Sequence}
use Rattle.rt_base.specs.declared.numbers.Instance.{Instance}
use Rattle.rt_model.specs.declared.ideal_state.IdealEntry.{IdealEntry}
use Rattle.rt_model.specs.Ideal.{is_of_instance}
use Rattle.rt_rebalance.specs.Replicas.{AreReplicas, Replica, is_among, replica_cmp}

same_number : (a b : ℕ) → is_eq (nat_cmp a b) ≡ (a == b)
same_number a b = grind (arith, nat_tests)

all_equal : (a b c : Ordering) → is_eq (ordering_then (ordering_then a b) c) ≡ ((is_eq a && is_eq b) && is_eq c)
all_equal Less b c = refl
all_equal Equal Less c = refl
all_equal Equal Equal c = refl
all_equal Equal Greater c = refl
all_equal Greater b c = refl

-- whether a replica is an entry's
abbrev is_its : IdealEntry → Replica → Bool
is_its e = is_at (replica_cmp (e.partition, e.sequence, e.instance))

same_place : (e : IdealEntry) (p : Partition) (s : Sequence) (i : Instance) → is_its e (p, s, i) ≡ is_of_instance p s i e
same_place e p s i =
    all_equal (nat_cmp e.partition.0 p.0) (nat_cmp e.sequence.0 s.0) (nat_cmp e.instance.0 i.0)
    ∙ ap (λ b. (b && is_eq (nat_cmp e.sequence.0 s.0)) && is_eq (nat_cmp e.instance.0 i.0)) (same_number e.partition.0 p.0)
    ∙ ap (λ b. ((e.partition.0 == p.0) && b) && is_eq (nat_cmp e.instance.0 i.0)) (same_number e.sequence.0 s.0)
    ∙ ap (λ b. ((e.partition.0 == p.0) && (e.sequence.0 == s.0)) && b) (same_number e.instance.0 i.0)

either : (a b : Bool) → cond a true b ≡ (b || (a || false))
either true true = refl
either true false = refl
either false true = refl
either false false = refl

-- an entry's replica was put beside others
abbrev Puts : List Replica → List Replica → IdealEntry → Type 0
Puts old new e = (q : Replica) → list_any (is_at (replica_cmp q)) new ≡ cond (is_its e q) true (list_any (is_at (replica_cmp q)) old)

one_behind : (old new : List Replica) (es : List IdealEntry) (e : IdealEntry) → Puts old new e → AreReplicas old es → AreReplicas new (es ++ e ∷ [])
one_behind old new es e puts are = λ p s i.
    puts (p, s, i)
    ∙ ap (λ b. cond b true (is_among old p s i)) (same_place e p s i)
    ∙ ap (λ b. cond (is_of_instance p s i e) true b) (are p s i)
    ∙ either (is_of_instance p s i e) (list_any (is_of_instance p s i) es)
    ∙ sym (list_any-append (is_of_instance p s i) es (e ∷ []))

-- the replica of the next entry is put beside those of the entries before it
pub one_more : (old new : List Replica) (es : List IdealEntry) (j : ℕ) (d : IdealEntry) → j < length es → Puts old new (get_or es j d)
    → AreReplicas old (take j es) → AreReplicas new (take (j + 1) es)
one_more old new es j d within puts are = λ p s i.
    one_behind old new (take j es) (get_or es j d) puts are p s i
    ∙ ap (list_any (is_of_instance p s i)) (sym (take_more es j d within))
