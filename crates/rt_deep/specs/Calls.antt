-- What each call promises, by what a deep store means before it and after it.
use Rattle.std.specs.Prelude.{◌≡◌, ℕ, List, ◌++◌, ◌⊎◌, Option, Some, None, Result, Ok, Err, ⊤}
use Rattle.rt_base.specs.declared.fault.Fault.{Fault}
use Rattle.rt_base.specs.Faults.{fault_of, met_fault, Counts, answer_under, left_under}
use Rattle.rt_lists.specs.Members.{IsFront}
use Rattle.rt_deep.specs.declared.deep_put.DeepPut.{DeepPut}
use Rattle.rt_deep.specs.declared.refused.DeepRefused.{DeepRefused}
use Rattle.rt_deep.specs.declared.refused.DeepRefused.TheVariants.{Absent, OtherBytes, Failed, Memory}
use Rattle.rt_deep.specs.Meaning.{Told, Own, Meaning}
use Rattle.rt_deep.specs.Files.{AreOnce}
use Rattle.rt_deep.specs.Answers.{getting, putting, after_put}

-- what is told after a call that left these files
abbrev pub told_after : Told → List DeepPut → Told
told_after t files = record { files = files; faults = met_fault t.faults }

-- the call met this fault and left these files, as far as that is told
abbrev pub Meets : Option Told → Option Told → Fault → List DeepPut → Type 0
Meets None new fault files = new ≡ None
Meets (Some t) new fault files = (fault ≡ fault_of t.faults.plan) × (new ≡ Some (told_after t files))

-- all files, where they are told
abbrev pub AreAll : Option Told → List DeepPut → Type 0
AreAll None base = ⊤
AreAll (Some t) base = base ≡ t.files

-- the files on which a call stands: they begin with what its caller has seen, they are all where these are told,
-- and no path has two of them
pub record Sees (old : Meaning) (base : List DeepPut) : Type 0 where
  pub grows : IsFront old.seen base
  pub all : AreAll old.told base
  pub once : AreOnce base

-- what a call leaves behind that on which it stands is its caller's own
abbrev pub Gains : Option Own → Option Own → List DeepPut → List DeepPut → Type 0
Gains None new base after = new ≡ None
Gains (Some o) new base after =
    (more : List DeepPut) × (after ≡ base ++ more) × (new ≡ Some (record { numbers = o.numbers; files = o.files ++ more }))

-- a call that met a fault, or none, and that would give this answer and leave these files without it
pub record Goes {X : Type 0} (old new : Meaning) (fault : Fault) (base after : List DeepPut) (answer result : Result X DeepRefused) : Type 0 where
  pub meets : Meets old.told new.told fault new.seen
  pub counts : Counts old.faults new.faults fault
  pub answered : result ≡ answer_under Failed fault answer
  pub seen : new.seen ≡ left_under fault base after
  pub own : Gains old.own new.own base new.seen

-- a call that ran out of memory: nothing is put, and no fault is met
pub record Stays (old new : Meaning) (base : List DeepPut) : Type 0 where
  pub told : new.told ≡ old.told
  pub faults : new.faults ≡ old.faults
  pub seen : new.seen ≡ base
  pub own : new.own ≡ old.own

abbrev pub GoesBy : {X : Type 0} → Meaning → Meaning → Fault → List DeepPut → List DeepPut → Result X DeepRefused → Result X DeepRefused → Type 0
GoesBy old new fault base after answer (Err Memory) = Stays old new base
GoesBy old new fault base after answer (Err Absent) = Goes old new fault base after answer (Err Absent)
GoesBy old new fault base after answer (Err (OtherBytes kept offered)) = Goes old new fault base after answer (Err (OtherBytes kept offered))
GoesBy old new fault base after answer (Err Failed) = Goes old new fault base after answer (Err Failed)
GoesBy old new fault base after answer (Ok x) = Goes old new fault base after answer (Ok x)

-- a call: over the files on which it stands it gives this answer and leaves these files, but for a fault and for
-- want of memory
pub record Calls {X : Type 0} (old new : Meaning) (answer : List DeepPut → Result X DeepRefused) (after : List DeepPut → List DeepPut) (result : Result X DeepRefused) : Type 0 where
  pub fault : Fault
  pub base : List DeepPut
  pub sees : Sees old base
  pub goes : GoesBy old new fault base (after base) (answer base) result

-- what a call answers over a deep store that tells everything, and what that tells after it
abbrev pub answer_on : {X : Type 0} → Told → (List DeepPut → Result X DeepRefused) → Result X DeepRefused
answer_on t answer = answer_under Failed (fault_of t.faults.plan) (answer t.files)

abbrev pub told_on : Told → (List DeepPut → List DeepPut) → Told
told_on t after = told_after t (left_under (fault_of t.faults.plan) t.files (after t.files))

-- the call has that one answer and leaves that, but that memory may run out, and then all is as before
abbrev pub IsExact :
    {X : Type 0} → Told → Told → (List DeepPut → Result X DeepRefused) → (List DeepPut → List DeepPut) → Result X DeepRefused → Type 0
IsExact t new answer after result =
    ((result ≡ Err Memory) × (new ≡ t)) ⊎ ((result ≡ answer_on t answer) × (new ≡ told_on t after))

abbrev pub Gets : Meaning → Meaning → List ℕ → Result (List ℕ) DeepRefused → Type 0
Gets old new path result = Calls old new (getting path) (λ base. base) result

-- a put by the file that it offers
abbrev pub PutsFile : Meaning → Meaning → DeepPut → Result (Unit {0}) DeepRefused → Type 0
PutsFile old new put result = Calls old new (putting put) (after_put put) result

abbrev pub Puts : Meaning → Meaning → List ℕ → List ℕ → Result (Unit {0}) DeepRefused → Type 0
Puts old new path bytes result = PutsFile old new (record { path = path; bytes = bytes }) result
