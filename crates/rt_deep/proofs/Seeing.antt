-- What follows from the clause of any call, for whoever calls a deep store.
use Rattle.std.proofs.Common.{◌≡◌, ℕ, ◌⊎◌, inl, inr, List, [], ◌∷◌, ◌++◌, Option, Some, None, unwrap_or, Result, Ok, Err, Bool, true, false, cond, bytes_eq, refl, sym, ◌∙◌, ap, subst, append_assoc}
use Rattle.sha2.specs.Sha256.{sha256}
use Rattle.std.proofs.lemmas.Slice.Eq.{bytes_eq-Decides}
use Rattle.rt_lists.specs.Members.{IsFront}
use Rattle.rt_deep.specs.declared.deep_put.DeepPut.{DeepPut}
use Rattle.rt_deep.specs.declared.refused.DeepRefused.{DeepRefused}
use Rattle.rt_deep.specs.declared.refused.DeepRefused.TheVariants.{Absent, OtherBytes, Failed, Memory}
use Rattle.rt_deep.specs.Meaning.{Told, Meaning}
use Rattle.rt_deep.specs.Memory.{means}
use Rattle.rt_deep.specs.Files.{file_of, AreOnce}
use Rattle.rt_deep.specs.Answers.{found_in, getting, compared_in, putting, after_beside, after_put, Leaves}
use Rattle.rt_base.specs.declared.fault.Fault.{Fault}
use Rattle.rt_base.specs.Faults.{fault_of, answer_under, left_under}
use Rattle.rt_base.proofs.Planned.{left_cases, without_fault}
use Rattle.rt_deep.specs.Calls.{Goes, GoesBy, Calls, Gets, Puts, PutsFile, told_after, answer_on, told_on, IsExact}
use Rattle.rt_deep.proofs.Files.{file_of-put, once_more}

-- ---- the files after a call

-- either nothing was put, or what the call puts
seen_after : {X : Type 0} (old new : Meaning) (fault : Fault) (base after : List DeepPut) (answer result : Result X DeepRefused)
    → GoesBy old new fault base after answer result → (new.seen ≡ base) ⊎ (new.seen ≡ after)
seen_after old new fault base after answer (Ok x) g = left_cases fault base after new.seen g.seen
seen_after old new fault base after answer (Err Absent) g = left_cases fault base after new.seen g.seen
seen_after old new fault base after answer (Err (OtherBytes kept offered)) g = left_cases fault base after new.seen g.seen
seen_after old new fault base after answer (Err Failed) g = left_cases fault base after new.seen g.seen
seen_after old new fault base after answer (Err Memory) g = inl g.seen

put_beside : (o : Option DeepPut) (put : DeepPut) (base now : List DeepPut) → file_of base put.path ≡ o → now ≡ after_beside o base put → Leaves put base now
put_beside None put base now free e = inr (free, e)
put_beside (Some file) put base now there e = inl e

pub put_by : (put : DeepPut) (base now : List DeepPut) → (now ≡ base) ⊎ (now ≡ after_put put base) → Leaves put base now
put_by put base now (inl e) = inl e
put_by put base now (inr e) = put_beside (file_of base put.path) put base now refl e

call_put : (old new : Meaning) (put : DeepPut) (result : Result (Unit {0}) DeepRefused) (c : PutsFile old new put result) → Leaves put c.base new.seen
call_put old new put result c = put_by put c.base new.seen (seen_after old new c.fault c.base (after_put put c.base) (putting put c.base) result c.goes)

got : (base now : List DeepPut) → (now ≡ base) ⊎ (now ≡ base) → now ≡ base
got base now (inl e) = e
got base now (inr e) = e

call_got : (old new : Meaning) (path : List ℕ) (result : Result (List ℕ) DeepRefused) (c : Gets old new path result) → new.seen ≡ c.base
call_got old new path result c = got c.base new.seen (seen_after old new c.fault c.base c.base (getting path c.base) result c.goes)

-- ---- what was seen stays seen

pub put_grows : (put : DeepPut) (old base now : List DeepPut) → IsFront old base → Leaves put base now → IsFront old now
put_grows put old base now g (inl e) = (g.0, e ∙ g.1)
put_grows put old base now g (inr w) =
    (g.0 ++ put ∷ [], w.1 ∙ ap (λ (b : List DeepPut). b ++ put ∷ []) g.1 ∙ append_assoc old g.0 (put ∷ []))

pub get_grows : (old new : Meaning) (path : List ℕ) (result : Result (List ℕ) DeepRefused) → Gets old new path result → IsFront old.seen new.seen
get_grows old new path result c = (c.sees.grows.0, call_got old new path result c ∙ c.sees.grows.1)

pub puts_grow : (old new : Meaning) (path bytes : List ℕ) (result : Result (Unit {0}) DeepRefused) → Puts old new path bytes result → IsFront old.seen new.seen
puts_grow old new path bytes result c =
    let put : DeepPut = record { path = path; bytes = bytes } in
    put_grows put old.seen c.base new.seen c.sees.grows (call_put old new put result c)

-- ---- a path has one file

pub put_once : (put : DeepPut) (base now : List DeepPut) → AreOnce base → Leaves put base now → AreOnce now
put_once put base now once (inl e) = subst AreOnce (sym e) once
put_once put base now once (inr w) = subst AreOnce (sym w.1) (once_more base put once w.0)

pub get_once : (old new : Meaning) (path : List ℕ) (result : Result (List ℕ) DeepRefused) → Gets old new path result → AreOnce new.seen
get_once old new path result c = subst AreOnce (sym (call_got old new path result c)) c.sees.once

pub puts_once : (old new : Meaning) (path bytes : List ℕ) (result : Result (Unit {0}) DeepRefused) → Puts old new path bytes result → AreOnce new.seen
puts_once old new path bytes result c =
    let put : DeepPut = record { path = path; bytes = bytes } in
    put_once put c.base new.seen c.sees.once (call_put old new put result c)

-- ---- what an answer shows

-- a file from its parts
unfoldable pub made : List ℕ → List ℕ → DeepPut
made path bytes = record { path = path; bytes = bytes }

first_or_later : (b : Bool) (first file : DeepPut) (files : List DeepPut) (path : List ℕ) → bytes_eq first.path path ≡ b → (file_of files path ≡ Some file → file.path ≡ path)
    → cond b (Some first) (file_of files path) ≡ Some file → file.path ≡ path
first_or_later true first file files path same later e =
    let is : first ≡ file = cc in
    ap (λ (x : DeepPut). x.path) (sym is) ∙ (bytes_eq-Decides first.path path).0 same
first_or_later false first file files path other later e = later e

stands_under : (files : List DeepPut) (path : List ℕ) (file : DeepPut) → file_of files path ≡ Some file → file.path ≡ path
stands_under [] path file e = absurd (cc)
stands_under (first ∷ files) path file e =
    first_or_later (bytes_eq first.path path) first file files path refl (stands_under files path file) e

same_file : (file : DeepPut) (path bytes : List ℕ) → file.path ≡ path → file.bytes ≡ bytes → file ≡ made path bytes
unfolding made
same_file file path bytes p b = ap (λ x. made x file.bytes) p ∙ ap (made path) b

pub found_file : (files : List DeepPut) (path bytes : List ℕ) (o : Option DeepPut) → file_of files path ≡ o → Ok bytes ≡ found_in o → file_of files path ≡ Some (made path bytes)
found_file files path bytes None is e = absurd (cc)
found_file files path bytes (Some file) is e =
    let same : file.bytes ≡ bytes = cc in
    is ∙ ap Some (same_file file path bytes (stands_under files path file is) same)

pub found_none : (files : List DeepPut) (path : List ℕ) (o : Option DeepPut) → file_of files path ≡ o → Err Absent ≡ found_in o → file_of files path ≡ None
found_none files path None is e = is
found_none files path (Some file) is e = absurd (cc)

pub get_seen : (old new : Meaning) (path bytes : List ℕ) → Gets old new path (Ok bytes) → file_of new.seen path ≡ Some (record { path = path; bytes = bytes })
unfolding made
get_seen old new path bytes c =
    let told = without_fault Failed c.fault (getting path c.base) (Ok bytes) c.base c.base new.seen (λ e. cc) c.goes.answered c.goes.seen in
    ap (λ (files : List DeepPut). file_of files path) told.1 ∙ found_file c.base path bytes (file_of c.base path) refl told.0

pub absent_seen : (old new : Meaning) (path : List ℕ) → Gets old new path (Err Absent) → file_of new.seen path ≡ None
absent_seen old new path c =
    let told = without_fault Failed c.fault (getting path c.base) (Err Absent) c.base c.base new.seen (λ e. cc) c.goes.answered c.goes.seen in
    ap (λ (files : List DeepPut). file_of files path) told.1 ∙ found_none c.base path (file_of c.base path) refl told.0

abbrev pub done : Result (Unit {0}) DeepRefused
done = Ok tt

abbrev pub other_bytes : List ℕ → List ℕ → Result (Unit {0}) DeepRefused
other_bytes kept offered = Err (OtherBytes (sha256 kept) (sha256 offered))

same_bytes : (kept offered : List ℕ) (b : Bool) → bytes_eq kept offered ≡ b → done ≡ cond b done (other_bytes kept offered) → kept ≡ offered
same_bytes kept offered true same e = (bytes_eq-Decides kept offered).0 same
same_bytes kept offered false other e = absurd (cc)

pub put_found : (base : List DeepPut) (put : DeepPut) (o : Option DeepPut) → file_of base put.path ≡ o → done ≡ unwrap_or (compared_in o put.bytes) done
    → file_of (after_beside o base put) put.path ≡ Some put
unfolding made
put_found base put None free e = file_of-put base put free
put_found base put (Some file) is e =
    let same : file.bytes ≡ put.bytes = same_bytes file.bytes put.bytes (bytes_eq file.bytes put.bytes) refl e in
    is ∙ ap Some (same_file file put.path put.bytes (stands_under base put.path file is) same)

pub put_seen : (old new : Meaning) (path bytes : List ℕ) → Puts old new path bytes (Ok tt) → file_of new.seen path ≡ Some (record { path = path; bytes = bytes })
put_seen old new path bytes c =
    let put : DeepPut = record { path = path; bytes = bytes } in
    let told = without_fault Failed c.fault (putting put c.base) (Ok tt) c.base (after_put put c.base) new.seen (λ e. cc) c.goes.answered c.goes.seen in
    ap (λ (files : List DeepPut). file_of files path) told.1 ∙ put_found c.base put (file_of c.base path) refl told.0

-- ---- a deep store that tells everything

abbrev total : Told → Option Told
total t = Some t

same_told : (t new : Told) → total new ≡ total t → new ≡ t
same_told t new e = cc

goes_exact : {X : Type 0} (t new : Told) (fault : Fault) (base : List DeepPut) (answer : List DeepPut → Result X DeepRefused) (after : List DeepPut → List DeepPut) (result : Result X DeepRefused)
    → base ≡ t.files → Goes (means t) (means new) fault base (after base) (answer base) result
    → (result ≡ answer_on t answer) × (new ≡ told_on t after)
goes_exact t new fault base answer after result all g =
    let told : new ≡ told_after t new.files = same_told (told_after t new.files) new g.meets.1 in (
      g.answered ∙ ap (λ f. answer_under Failed f (answer base)) g.meets.0 ∙ ap (λ h. answer_under Failed (fault_of t.faults.plan) (answer h)) all,
      told ∙ ap (told_after t) (g.seen ∙ ap (λ f. left_under f base (after base)) g.meets.0 ∙ ap (λ h. left_under (fault_of t.faults.plan) h (after h)) all),
    )

pub told_exact : {X : Type 0} (t new : Told) (answer : List DeepPut → Result X DeepRefused) (after : List DeepPut → List DeepPut) (result : Result X DeepRefused)
    → Calls (means t) (means new) answer after result → IsExact t new answer after result
told_exact t new answer after (Ok x) c = inr (goes_exact t new c.fault c.base answer after (Ok x) c.sees.all c.goes)
told_exact t new answer after (Err Absent) c = inr (goes_exact t new c.fault c.base answer after (Err Absent) c.sees.all c.goes)
told_exact t new answer after (Err (OtherBytes kept offered)) c =
    inr (goes_exact t new c.fault c.base answer after (Err (OtherBytes kept offered)) c.sees.all c.goes)
told_exact t new answer after (Err Failed) c = inr (goes_exact t new c.fault c.base answer after (Err Failed) c.sees.all c.goes)
told_exact t new answer after (Err Memory) c = inl (refl, same_told t new c.goes.told)
