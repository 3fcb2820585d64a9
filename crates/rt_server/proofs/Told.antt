-- A call over a store that tells everything comes to one thing, and a fault is met where one is told.
use Rattle.std.proofs.Common.{◌≡◌, ℕ, inl, inr, List, Option, Some, Result, Ok, Err, refl, ap, subst, ◌∙◌}
use Rattle.rt_base.specs.declared.header.Header.{Header}
use Rattle.rt_base.specs.declared.numbers.Moment.{Moment}
use Rattle.rt_base.specs.declared.numbers.Partition.{Partition}
use Rattle.rt_base.specs.declared.numbers.Sequence.{Sequence}
use Rattle.rt_model.specs.declared.ideal_state.Mode.{Mode}
use Rattle.rt_model.specs.declared.node.Key.TheVariants as key
use Rattle.rt_model.specs.declared.node.Seen.{Seen}
use Rattle.rt_model.specs.declared.replica_state.ReplicaState.{ReplicaState}
use Rattle.rt_model.specs.Lawful.{bump}
use Rattle.rt_store.specs.declared.refused.StoreRefused.{StoreRefused}
use Rattle.rt_store.specs.declared.refused.StoreRefused.TheVariants as store
use Rattle.rt_store.specs.Answers.{answer_of, after_call, reading}
use Rattle.rt_store.specs.Calls.{IsExact, answer_on, told_on}
use Rattle.rt_store.specs.Meaning.{Told}
use Rattle.rt_store.specs.Memory.{means}
use Rattle.rt_store.proofs.Seeing.{told_exact}
use Rattle.rt_entry.specs.declared.refused.ServerRefused.{ServerRefused}
use Rattle.rt_entry.specs.declared.refused.ServerRefused.TheVariants.{NotDue, StoreFault, BadFile, Memory}
use Rattle.rt_entry.specs.Calls.{Comes, Step}
use Rattle.rt_server.specs.Calls.{Restarts, SeesIdeal, TransitsTo, restarted_by, seen_by, stepped_by}
use Rattle.rt_server.specs.Named.{IsNamed}
use Rattle.rt_server.specs.Table.{ServerState}
use Rattle.rt_server.specs.Transition.{transited}

abbrev out_of_memory : {S X : Type 0} → Step S X
out_of_memory = Err Memory

abbrev refuse : (Y : Type 0) → ServerRefused → Result Y ServerRefused
refuse Y e = Err e

no_due : (Y : Type 0) → refuse Y Memory ≡ refuse Y NotDue → ⊥
no_due Y e = cc

no_fault : (Y : Type 0) → refuse Y Memory ≡ refuse Y StoreFault → ⊥
no_fault Y e = cc

no_bad : (Y : Type 0) (wanted : Header) (found : Option Header) → refuse Y Memory ≡ refuse Y (BadFile wanted found) → ⊥
no_bad Y wanted found e = cc

abbrev come : (Y : Type 0) → Y → Result Y ServerRefused
come Y y = Ok y

no_ok : (Y : Type 0) (y : Y) → refuse Y Memory ≡ come Y y → ⊥
no_ok Y y e = cc

-- want of memory leaves no other answer
not_named : {S X : Type 0} (old new : S) (result : Result X ServerRefused) → Comes out_of_memory old new result → IsNamed result → ⊥
not_named {S} {X} old new (Ok x) h n = no_ok (X × S) (x, new) h
not_named {S} {X} old new (Err NotDue) h n = no_due (X × S) h.0
not_named {S} {X} old new (Err StoreFault) h n = no_fault (X × S) h.0
not_named {S} {X} old new (Err (BadFile wanted found)) h n = no_bad (X × S) wanted found h.0
not_named {S} {X} old new (Err Memory) h n = n

exact_comes : {S X Y : Type 0} (t u : Told) (answer : List Seen → Result Y StoreRefused) (after : List Seen → List Seen) (given : Result Y StoreRefused)
    (step : Result Y StoreRefused → Step S X) (old new : S) (result : Result X ServerRefused)
    → step (Err store.Memory) ≡ out_of_memory → IsExact t u answer after given → Comes (step given) old new result → IsNamed result
    → (u ≡ told_on t after) × Comes (step (answer_on t answer)) old new result
exact_comes t u answer after given step old new result none (inl e) h n =
    absurd (not_named old new result (subst (λ s. Comes s old new result) (ap step e.0 ∙ none) h) n)
exact_comes t u answer after given step old new result none (inr e) h n =
    (e.1, subst (λ g. Comes (step g) old new result) e.0 h)

pub sees_exact : (t u : Told) (old new : ServerState) (result : Result ℕ ServerRefused) → SeesIdeal (means t) (means u) old new result → IsNamed result
    → (u ≡ told_on t (λ base. base)) × Comes (seen_by old (answer_on t (reading key.Ideal))) old new result
sees_exact t u old new result h n =
    exact_comes t u (reading key.Ideal) (λ base. base) h.0 (seen_by old) old new result refl
    (told_exact t u (reading key.Ideal) (λ base. base) h.0 h.1) h.2 n

pub transits_exact : (t u : Told) (old new : ServerState) (p : Partition) (q : Sequence) (mode : Mode) (now : Moment) (result : Result ReplicaState ServerRefused)
    → TransitsTo (Some mode) (means t) (means u) old new p q now result → IsNamed result
    → (u ≡ told_on t (λ base. base))
    × Comes (stepped_by old (transited old.setup old.table p q now mode (answer_on t (reading (key.Meta p q))))) old new result
transits_exact t u old new p q mode now result h n =
    exact_comes t u (reading (key.Meta p q)) (λ base. base) h.0 (λ answer. stepped_by old (transited old.setup old.table p q now mode answer)) old new result refl
    (told_exact t u (reading (key.Meta p q)) (λ base. base) h.0 h.1) h.2 n

pub restarts_exact : (t u : Told) (old new : ServerState) (result : Result ℕ ServerRefused) → Restarts (means t) (means u) old new result → IsNamed result
    → (u ≡ told_on t (after_call (bump old.numbers.instance)))
    × Comes (restarted_by old (answer_on t (answer_of (λ w. w.version) (bump old.numbers.instance)))) old new result
restarts_exact t u old new result h n =
    exact_comes t u (answer_of (λ w. w.version) (bump old.numbers.instance)) (after_call (bump old.numbers.instance)) h.0 (restarted_by old) old new result refl
    (told_exact t u (answer_of (λ w. w.version) (bump old.numbers.instance)) (after_call (bump old.numbers.instance)) h.0 h.1) h.2 n
