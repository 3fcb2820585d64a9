-- What a call of a store that tells everything gives is one that the store could give.
use Rattle.std.proofs.Common.{◌≡◌, Option, Some, None, Result, Ok, Err, List, refl, sym, ◌∙◌, arith}
use Rattle.std.proofs.lemmas.Option.{none-some}
use Rattle.rt_base.specs.declared.fault.Fault.{Fault}
use Rattle.rt_base.specs.declared.fault.Fault.TheVariants as fault
use Rattle.rt_base.specs.Faults.{Planned, fault_of, met_by, Counts}
use Rattle.rt_lists.proofs.Members.{front_same}
use Rattle.rt_model.specs.declared.node.Seen.{Seen}
use Rattle.rt_store.specs.declared.refused.StoreRefused.{StoreRefused}
use Rattle.rt_store.specs.declared.refused.StoreRefused.TheVariants.{NoNode, Exists, VersionChanged, Failed, Memory}
use Rattle.rt_store.specs.Calls.{Calls, GoesBy, answer_on, told_on}
use Rattle.rt_store.specs.Meaning.{Told}
use Rattle.rt_store.specs.Memory.{means}

-- the answer wasn't want of memory
abbrev IsNamed : {X : Type 0} → Result X StoreRefused → Type 0
IsNamed (Ok x) = Unit {0}
IsNamed (Err NoNode) = Unit {0}
IsNamed (Err (Exists found)) = Unit {0}
IsNamed (Err (VersionChanged expected found)) = Unit {0}
IsNamed (Err Failed) = Unit {0}
IsNamed (Err Memory) = ⊥

named : {X Y : Type 0} (tell : Result X StoreRefused → Option Y) (answer : Result X StoreRefused) (y : Y) → tell (Err Memory) ≡ None
    → tell answer ≡ Some y → IsNamed answer
named tell (Ok x) y none e = tt
named tell (Err NoNode) y none e = tt
named tell (Err (Exists found)) y none e = tt
named tell (Err (VersionChanged expected found)) y none e = tt
named tell (Err Failed) y none e = tt
named tell (Err Memory) y none e = absurd (none-some y (sym none ∙ e))

pub counted : (p : Planned) (f : Fault) → Counts p.met (met_by f p).met f
counted p fault.Nothing = omega arith
counted p fault.Lost = omega arith
counted p fault.Kept = omega arith

goes_told : {X : Type 0} (t : Told) (answer : List Seen → Result X StoreRefused) (after : List Seen → List Seen) (result : Result X StoreRefused)
    → result ≡ answer_on t answer → IsNamed result
    → GoesBy (means t) (means (told_on t after)) (fault_of t.faults.plan) t.writes (after t.writes) (answer t.writes) result
goes_told t answer after (Ok x) e n =
    record { meets = (refl, refl); counts = counted t.faults (fault_of t.faults.plan); answered = e; seen = refl; own = refl }
goes_told t answer after (Err NoNode) e n =
    record { meets = (refl, refl); counts = counted t.faults (fault_of t.faults.plan); answered = e; seen = refl; own = refl }
goes_told t answer after (Err (Exists found)) e n =
    record { meets = (refl, refl); counts = counted t.faults (fault_of t.faults.plan); answered = e; seen = refl; own = refl }
goes_told t answer after (Err (VersionChanged expected found)) e n =
    record { meets = (refl, refl); counts = counted t.faults (fault_of t.faults.plan); answered = e; seen = refl; own = refl }
goes_told t answer after (Err Failed) e n =
    record { meets = (refl, refl); counts = counted t.faults (fault_of t.faults.plan); answered = e; seen = refl; own = refl }
goes_told t answer after (Err Memory) e n = absurd n

pub calls_told : {X Y : Type 0} (t : Told) (answer : List Seen → Result X StoreRefused) (after : List Seen → List Seen)
    (tell : Result X StoreRefused → Option Y) (y : Y) → tell (Err Memory) ≡ None → tell (answer_on t answer) ≡ Some y
    → Calls (means t) (means (told_on t after)) answer after (answer_on t answer)
calls_told t answer after tell y none e =
    record {
      fault = fault_of t.faults.plan;
      base = t.writes;
      sees = record { grows = front_same t.writes; all = refl; lawful = λ s l. l };
      goes = goes_told t answer after (answer_on t answer) refl (named tell (answer_on t answer) y none e);
    }
