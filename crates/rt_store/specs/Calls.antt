-- What each call promises, by what a store means before it and after it.
use Rattle.std.specs.Prelude.{◌≡◌, ℕ, List, ◌++◌, ◌⊎◌, Option, Some, None, Result, Ok, Err, ⊤}
use Rattle.rt_base.specs.declared.fault.Fault.{Fault}
use Rattle.rt_base.specs.Faults.{fault_of, met_fault, Counts, answer_under, left_under}
use Rattle.rt_base.specs.declared.numbers.Partition.{Partition}
use Rattle.rt_base.specs.declared.numbers.Instance.{Instance}
use Rattle.rt_lists.specs.Members.{IsFront}
use Rattle.rt_model.specs.declared.node.Key.{Key}
use Rattle.rt_model.specs.declared.node.Node.{Node}
use Rattle.rt_model.specs.declared.node.Seen.{Seen}
use Rattle.rt_model.specs.declared.node.Listed.{Listed}
use Rattle.rt_model.specs.Starting.{Starting}
use Rattle.rt_model.specs.Lawful.{Write, create, set, delete, create_after, bump, IsLawful, IsLawfulHistory}
use Rattle.rt_store.specs.declared.refused.StoreRefused.{StoreRefused}
use Rattle.rt_store.specs.declared.refused.StoreRefused.TheVariants.{NoNode, Exists, VersionChanged, Failed, Memory}
use Rattle.rt_store.specs.Meaning.{Told, Own, Meaning}
use Rattle.rt_store.specs.Answers.{reading, listing, answer_of, after_call}

-- what is told after a call that left these writes
abbrev pub told_after : Told → List Seen → Told
told_after t writes = record { writes = writes; faults = met_fault t.faults }

-- the call met this fault and left these writes, as far as that is told
abbrev pub Meets : Option Told → Option Told → Fault → List Seen → Type 0
Meets None new fault writes = new ≡ None
Meets (Some t) new fault writes = (fault ≡ fault_of t.faults.plan) × (new ≡ Some (told_after t writes))

-- all writes, where they are told
abbrev pub AreAll : Option Told → List Seen → Type 0
AreAll None base = ⊤
AreAll (Some t) base = base ≡ t.writes

-- the writes on which a call stands: they begin with what its caller has seen, they are all where these are
-- told, and they are a lawful history where what its caller has seen is one
pub record Sees (old : Meaning) (base : List Seen) : Type 0 where
  pub grows : IsFront old.seen base
  pub all : AreAll old.told base
  pub lawful : (s : Starting) → IsLawfulHistory s old.seen → IsLawfulHistory s base

-- what a call leaves behind that on which it stands is its caller's own
abbrev pub Gains : Option Own → Option Own → List Seen → List Seen → Type 0
Gains None new base after = new ≡ None
Gains (Some o) new base after =
    (more : List Seen) × (after ≡ base ++ more) × (new ≡ Some (record { numbers = o.numbers; writes = o.writes ++ more }))

-- a call that met a fault, or none, and that would give this answer and leave these writes without it
pub record Goes {X : Type 0} (old new : Meaning) (fault : Fault) (base after : List Seen) (answer result : Result X StoreRefused) : Type 0 where
  pub meets : Meets old.told new.told fault new.seen
  pub counts : Counts old.faults new.faults fault
  pub answered : result ≡ answer_under Failed fault answer
  pub seen : new.seen ≡ left_under fault base after
  pub own : Gains old.own new.own base new.seen

-- a call that ran out of memory: nothing is written, and no fault is met
pub record Stays (old new : Meaning) (base : List Seen) : Type 0 where
  pub told : new.told ≡ old.told
  pub faults : new.faults ≡ old.faults
  pub seen : new.seen ≡ base
  pub own : new.own ≡ old.own

abbrev pub GoesBy : {X : Type 0} → Meaning → Meaning → Fault → List Seen → List Seen → Result X StoreRefused → Result X StoreRefused → Type 0
GoesBy old new fault base after answer (Err Memory) = Stays old new base
GoesBy old new fault base after answer (Err NoNode) = Goes old new fault base after answer (Err NoNode)
GoesBy old new fault base after answer (Err (Exists found)) = Goes old new fault base after answer (Err (Exists found))
GoesBy old new fault base after answer (Err (VersionChanged expected found)) = Goes old new fault base after answer (Err (VersionChanged expected found))
GoesBy old new fault base after answer (Err Failed) = Goes old new fault base after answer (Err Failed)
GoesBy old new fault base after answer (Ok x) = Goes old new fault base after answer (Ok x)

-- a call: over the writes on which it stands it gives this answer and leaves these writes, but for a fault and
-- for want of memory
pub record Calls {X : Type 0} (old new : Meaning) (answer : List Seen → Result X StoreRefused) (after : List Seen → List Seen) (result : Result X StoreRefused) : Type 0 where
  pub fault : Fault
  pub base : List Seen
  pub sees : Sees old base
  pub goes : GoesBy old new fault base (after base) (answer base) result

-- what a call answers over a store that tells everything, and what that tells after it
abbrev pub answer_on : {X : Type 0} → Told → (List Seen → Result X StoreRefused) → Result X StoreRefused
answer_on t answer = answer_under Failed (fault_of t.faults.plan) (answer t.writes)

abbrev pub told_on : Told → (List Seen → List Seen) → Told
told_on t after = told_after t (left_under (fault_of t.faults.plan) t.writes (after t.writes))

-- the call has that one answer and leaves that, but that memory may run out, and then all is as before
abbrev pub IsExact :
    {X : Type 0} → Told → Told → (List Seen → Result X StoreRefused) → (List Seen → List Seen) → Result X StoreRefused → Type 0
IsExact t new answer after result =
    ((result ≡ Err Memory) × (new ≡ t)) ⊎ ((result ≡ answer_on t answer) × (new ≡ told_on t after))

abbrev pub Reads : Meaning → Meaning → Key → Result Seen StoreRefused → Type 0
Reads old new k result = Calls old new (reading k) (λ base. base) result

abbrev pub Lists : Meaning → Meaning → Partition → Result (List Listed) StoreRefused → Type 0
Lists old new p result = Calls old new (listing p) (λ base. base) result

-- a write call that answers nothing but that it was carried out
abbrev pub Writes : Meaning → Meaning → Write → Result (Unit {0}) StoreRefused → Type 0
Writes old new call result = Calls old new (answer_of (λ w. tt) call) (after_call call) result

-- a write call that answers the version of what it wrote
abbrev pub WritesVersion : Meaning → Meaning → Write → Result ℕ StoreRefused → Type 0
WritesVersion old new call result = Calls old new (answer_of (λ w. w.version) call) (after_call call) result

abbrev pub Creates : Meaning → Meaning → Key → Node → Result (Unit {0}) StoreRefused → Type 0
Creates old new k n result = Writes old new (create k n) result

abbrev pub SetsFrom : Meaning → Meaning → Seen → Node → Result ℕ StoreRefused → Type 0
SetsFrom old new from n result = WritesVersion old new (set from n) result

abbrev pub Deletes : Meaning → Meaning → Seen → Result (Unit {0}) StoreRefused → Type 0
Deletes old new from result = Writes old new (delete from) result

abbrev pub CreatesAfter : Meaning → Meaning → Key → Node → Seen → Result (Unit {0}) StoreRefused → Type 0
CreatesAfter old new k n prior result = Writes old new (create_after k n prior) result

abbrev pub Bumps : Meaning → Meaning → Instance → Result ℕ StoreRefused → Type 0
Bumps old new i result = WritesVersion old new (bump i) result

-- the call is lawful over what its caller has seen
abbrev pub MayCreate : Meaning → Key → Node → Type 0
MayCreate m k n = IsLawful m.seen (create k n)

abbrev pub MaySet : Meaning → Seen → Node → Type 0
MaySet m from n = IsLawful m.seen (set from n)

abbrev pub MayDelete : Meaning → Seen → Type 0
MayDelete m from = IsLawful m.seen (delete from)

abbrev pub MayCreateAfter : Meaning → Key → Node → Seen → Type 0
MayCreateAfter m k n prior = IsLawful m.seen (create_after k n prior)
