-- What calls leave and answer over a deep store that tells everything.
use Rattle.std.proofs.Common.{◌≡◌, ℕ, ◌<◌, List, Option, Some, None, unwrap_or, Result, Ok, Err, Bool, true, false, cond, bytes_eq, refl, sym, ap, ◌∙◌}
use Rattle.rt_base.specs.declared.fault.Fault.{Fault}
use Rattle.rt_base.specs.declared.fault.Fault.TheVariants as fault
use Rattle.rt_base.specs.Faults.{fault_of, answer_under, left_under}
use Rattle.rt_base.proofs.Planned.{left_cases, without_fault, fault_rose}
use Rattle.rt_lists.specs.Members.{IsFront}
use Rattle.rt_lists.proofs.Members.{front_same}
use Rattle.rt_deep.specs.declared.deep_put.DeepPut.{DeepPut}
use Rattle.rt_deep.specs.declared.refused.DeepRefused.{DeepRefused}
use Rattle.rt_deep.specs.declared.refused.DeepRefused.TheVariants.{Absent, OtherBytes, Failed, Memory}
use Rattle.rt_deep.specs.Meaning.{Told, Meaning}
use Rattle.rt_deep.specs.Memory.{means}
use Rattle.rt_deep.specs.Files.{file_of, AreOnce}
use Rattle.rt_deep.specs.Answers.{found_in, getting, compared, compared_in, putting, after_beside, after_put, Leaves}
use Rattle.rt_deep.specs.Calls.{Goes, Gets, PutsFile, answer_on, told_on}
use Rattle.rt_deep.proofs.Seeing.{put_by, put_grows, put_once, found_file, found_none, put_found, made, done, other_bytes}

-- ---- what is left

pub leaves_on : (t : Told) (put : DeepPut) → Leaves put t.files (told_on t (after_put put)).files
leaves_on t put =
    put_by put t.files (told_on t (after_put put)).files
    (left_cases (fault_of t.faults.plan) t.files (after_put put t.files) (told_on t (after_put put)).files refl)

pub grows_on : (t : Told) (put : DeepPut) → IsFront t.files (told_on t (after_put put)).files
grows_on t put = put_grows put t.files t.files (told_on t (after_put put)).files (front_same t.files) (leaves_on t put)

pub once_on : (t : Told) (put : DeepPut) → AreOnce t.files → AreOnce (told_on t (after_put put)).files
once_on t put once = put_once put t.files (told_on t (after_put put)).files once (leaves_on t put)

kept : {X : Type 0} (f : Fault) (x : X) → left_under f x x ≡ x
kept fault.Nothing x = refl
kept fault.Lost x = refl
kept fault.Kept x = refl

-- a get puts nothing
pub get_same : (t : Told) → (told_on t (λ base. base)).files ≡ t.files
get_same t = kept (fault_of t.faults.plan) t.files

-- ---- what is answered

answered : {X Y : Type 0} (f : Fault) (answer result : Result X DeepRefused) (base after : Y)
    → (result ≡ Err Failed → ⊥) → answer_under Failed f answer ≡ result → (result ≡ answer) × (left_under f base after ≡ after)
answered f answer result base after other e = without_fault Failed f answer result base after (left_under f base after) other (sym e) refl

-- a file that was got stands
pub get_on : (t : Told) (path bytes : List ℕ) → answer_on t (getting path) ≡ Ok bytes
    → file_of t.files path ≡ Some (record { path = path; bytes = bytes })
unfolding made
get_on t path bytes e =
    let told = answered (fault_of t.faults.plan) (getting path t.files) (Ok bytes) t.files t.files (λ f. cc) e in
    found_file t.files path bytes (file_of t.files path) refl told.0

-- where a get finds nothing, nothing stands
pub absent_on : (t : Told) (path : List ℕ) → answer_on t (getting path) ≡ Err Absent → file_of t.files path ≡ None
absent_on t path e =
    let told = answered (fault_of t.faults.plan) (getting path t.files) (Err Absent) t.files t.files (λ f. cc) e in
    found_none t.files path (file_of t.files path) refl told.0

-- a file that was put stands
pub put_on : (t : Told) (put : DeepPut) (x : Unit {0}) → answer_on t (putting put) ≡ Ok x
    → file_of (told_on t (after_put put)).files put.path ≡ Some put
put_on t put x e =
    let told = answered (fault_of t.faults.plan) (putting put t.files) (Ok x) t.files (after_put put t.files) (λ f. cc) e in
    ap (λ (files : List DeepPut). file_of files put.path) told.1
    ∙ put_found t.files put (file_of t.files put.path) refl told.0

-- ---- faults and refusals

abbrev failed : {X : Type 0} → Result X DeepRefused
failed = Err Failed

no_fault_found : (o : Option DeepPut) → found_in o ≡ failed → ⊥
no_fault_found None e = cc
no_fault_found (Some file) e = cc

no_fault_by : (b : Bool) (stands offered : List ℕ) → cond b done (other_bytes stands offered) ≡ failed → ⊥
no_fault_by true stands offered f = cc
no_fault_by false stands offered f = cc

no_fault_compared : (stands offered : List ℕ) → compared stands offered ≡ failed → ⊥
no_fault_compared stands offered e = no_fault_by (bytes_eq stands offered) stands offered e

no_fault_put : (files : List DeepPut) (put : DeepPut) → putting put files ≡ failed → ⊥
no_fault_put files put e = by_file (file_of files put.path) e
  where
    by_file : (o : Option DeepPut) → unwrap_or (compared_in o put.bytes) done ≡ failed → ⊥
    by_file None f = cc
    by_file (Some file) f = no_fault_compared file.bytes put.bytes f

pub get_rose : (old new : Meaning) (path : List ℕ) → Gets old new path failed → old.faults < new.faults
get_rose old new path c =
    fault_rose Failed old.faults new.faults c.fault (getting path c.base) failed (no_fault_found (file_of c.base path))
    c.goes.answered c.goes.counts refl

pub put_rose : (old new : Meaning) (put : DeepPut) → PutsFile old new put failed → old.faults < new.faults
put_rose old new put c =
    fault_rose Failed old.faults new.faults c.fault (putting put c.base) failed (no_fault_put c.base put)
    c.goes.answered c.goes.counts refl

abbrev refused_as : DeepRefused → Result (Unit {0}) DeepRefused
refused_as e = Err e

nothing_by : (o : Option DeepPut) (put : DeepPut) (e : DeepRefused) (files : List DeepPut)
    → refused_as e ≡ unwrap_or (compared_in o put.bytes) (Ok tt) → after_beside o files put ≡ files
nothing_by None put e files is = absurd (cc)
nothing_by (Some file) put e files is = refl

goes_nothing : (old new : Meaning) (put : DeepPut) (e : DeepRefused) (f : Fault) (base : List DeepPut) → (e ≡ Failed → ⊥)
    → Goes old new f base (after_put put base) (putting put base) (refused_as e) → new.seen ≡ base
goes_nothing old new put e f base other g =
    let told = without_fault Failed f (putting put base) (refused_as e) base (after_put put base) new.seen
    (λ is. other (cc)) g.answered g.seen in
    told.1 ∙ nothing_by (file_of base put.path) put e base told.0

-- a put that is refused, and not by a fault, leaves what it found
pub refused_nothing : (old new : Meaning) (put : DeepPut) (e : DeepRefused) (c : PutsFile old new put (refused_as e))
    → (e ≡ Failed → ⊥) → new.seen ≡ c.base
refused_nothing old new put Memory c other = c.goes.seen
refused_nothing old new put Failed c other = absurd (other refl)
refused_nothing old new put Absent c other = goes_nothing old new put Absent c.fault c.base other c.goes
refused_nothing old new put (OtherBytes k o) c other = goes_nothing old new put (OtherBytes k o) c.fault c.base other c.goes

-- and so the files of a deep store that tells everything
pub refused_nothing_told : (t new : Told) (put : DeepPut) (e : DeepRefused) → PutsFile (means t) (means new) put (refused_as e)
    → (e ≡ Failed → ⊥) → new.files ≡ t.files
refused_nothing_told t new put e c other = refused_nothing (means t) (means new) put e c other ∙ c.sees.all
