-- What the calls of the deep store behind its lock do, and what shared ones promise.
use Rattle.std.proofs.Common.{◌≡◌, ℕ, Bool, true, false, List, [], ◌∷◌, append-nil, length, slice_get, if◌then◌else◌, Option, Some, None, unwrap_or, Result, Ok, Err, refl, sym, ap, ◌∙◌, ⊎_elim, subst, arith}
use Rattle.std.specs.Str.{bytes_eq}
use Rattle.rt_lists.specs.Members.{IsFront}
use Rattle.rt_lists.proofs.Members.{slice_get-push}
use Rattle.rt_base.specs.declared.fault.Fault.TheVariants.{Nothing}
use Rattle.rt_deep.specs.declared.deep_put.DeepPut.{DeepPut}
use Rattle.rt_deep.specs.declared.refused.DeepRefused.{DeepRefused}
use Rattle.rt_deep.specs.declared.refused.DeepRefused.TheVariants.{Absent, OtherBytes, Failed, Memory}
use Rattle.rt_deep.specs.Meaning.{Told, Own}
use Rattle.rt_deep.specs.Memory.{means}
use Rattle.rt_deep.specs.Files.{file_of, AreOnce}
use Rattle.rt_deep.specs.Answers.{getting, compared_in, putting, after_beside, after_put}
use Rattle.rt_deep.specs.Calls.{Sees, Gains, PutsFile, Gets}
use Rattle.rt_deep.proofs.Seeing.{told_exact}
use Rattle.rt_front.specs.declared.entry.Entry.{Entry}
use Rattle.rt_front.specs.Histories.{Known, mine}
use Rattle.rt_ground.specs.Histories.{whats, next_entry, Notes, Tells, SeesMore}
use Rattle.rt_ground.specs.DeepCalls.{own_by, shared_meaning, held, NotesAt, SettledBy, AddsBeside, PutsOnce, IsAnswer, GetsFrom}
use Rattle.rt_ground.proofs.Entries.{forth, back, whats_append, whats_front}

-- ---- behind the lock

pub record PutDone (put : DeepPut) (old new : List (Entry DeepPut)) (t : Told) (before after : Known DeepPut) (answer : Result (Unit {0}) DeepRefused) : Type 0 where
  pub holds : t ≡ held new
  pub puts : PutsOnce put old new before after answer

abbrev told_of : List DeepPut → Told
told_of files = record { files = files; faults = record { plan = []; met = 0 } }

abbrev okay : Result (Unit {0}) DeepRefused
okay = Ok tt

-- what a put answers where a file stands that has the same bytes, or others, of these digests
abbrev if_same : Bool → List ℕ → List ℕ → Result (Unit {0}) DeepRefused
if_same b kept offered = if b then Ok tt else Err (OtherBytes kept offered)

abbrev refusing : DeepRefused → Result (Unit {0}) DeepRefused
refusing e = Err e

not_okay : (e : DeepRefused) (a b : Result (Unit {0}) DeepRefused) → a ≡ okay → b ≡ refusing e → a ≡ b → ⊥
not_okay e a b f g h = cc

abbrev out_of_memory : Result (Unit {0}) DeepRefused
out_of_memory = Err Memory

past_end : (files : List DeepPut) → slice_get files (length files) ≡ None
past_end [] = refl
past_end (file ∷ files) = past_end files

module _ (put : DeepPut) (old new : List (Entry DeepPut)) (before after : Known DeepPut) where
  abbrev Done : List DeepPut → Result (Unit {0}) DeepRefused → Type 0
  Done files answer = PutDone put old new (told_of files) before after answer

  abbrev Settled : List DeepPut → Result (Unit {0}) DeepRefused → Type 0
  Settled files answer = SettledBy files (length (whats old)) old new before after answer

  by_bytes : (b : Bool) (file : DeepPut) (kept offered : List ℕ) → file_of (whats old) put.path ≡ Some file → unwrap_or (compared_in (Some file) put.bytes) okay ≡ if_same b kept offered → AreOnce (whats old)
      → Settled (whats old) (if_same b kept offered) → Done (whats old) (if_same b kept offered)
  by_bytes true file kept offered stands same once s =
      let t : (new ≡ old) × Tells old before after = subst (λ o. NotesAt o old new before after) (past_end (whats old)) s in
      record {
        holds = ap held (sym t.0);
        puts = record {
          answer = ap (λ o. unwrap_or (compared_in o put.bytes) okay) stands ∙ same;
          adds = subst (λ o. AddsBeside o old new before after put) (sym stands) t;
          once = once;
        };
      }
  by_bytes false file kept offered stands same once s =
      record {
        holds = ap held (sym s.0);
        puts = record {
          same = s.0;
          cause = ap (λ o. unwrap_or (compared_in o put.bytes) okay) stands ∙ same;
          told = s.1;
          once = once;
        };
      }

  by_file : (o : Option DeepPut) → file_of (whats old) put.path ≡ o → AreOnce (whats old)
      → Settled (after_beside o (whats old) put) (unwrap_or (compared_in o put.bytes) okay)
      → Done (after_beside o (whats old) put) (unwrap_or (compared_in o put.bytes) okay)
  by_file None stands once s =
      let noted : Notes old new before after put = subst (λ o. NotesAt o old new before after) (slice_get-push (whats old) put) s in
      record {
        holds = ap told_of (sym (whats_append old (next_entry before put ∷ [])) ∙ ap whats (sym noted.log));
        puts = record {
          answer = ap (λ o. unwrap_or (compared_in o put.bytes) okay) stands;
          adds = subst (λ o. AddsBeside o old new before after put) (sym stands) noted;
          once = once;
        };
      }
  by_file (Some file) stands once s = by_bytes (bytes_eq file.bytes put.bytes) file _ _ stands refl once s

  no_memory : (t : Told) → t ≡ held old → AreOnce (whats old) → Settled (whats old) out_of_memory → PutDone put old new t before after out_of_memory
  no_memory t e once s = record { holds = e ∙ ap held (sym s.0); puts = record { same = s.0; told = s.1; once = once } }

  pub put_done : (t : Told) (count : ℕ) (r_old r_new : List (Entry DeepPut)) (answer : Result (Unit {0}) DeepRefused) → count ≡ length (whats old) → r_old ≡ old → r_new ≡ new
      → PutsFile (means (held old)) (means t) put answer → SettledBy t.files count r_old r_new before after answer → PutDone put old new t before after answer
  put_done t count r_old r_new answer e f g calls s =
      let base : List DeepPut = whats old in
      let once : AreOnce base = subst AreOnce calls.sees.all calls.sees.once in
      let here : SettledBy t.files (length base) old new before after answer =
      subst (λ l. SettledBy t.files (length base) old l before after answer) g
      (subst (λ l. SettledBy t.files (length base) l r_new before after answer) f
      (subst (λ n. SettledBy t.files n r_old r_new before after answer) e s)) in
      let P : Told → Result (Unit {0}) DeepRefused → Type 0 = λ y z. PutDone put old new y before after z in
      let S : Told → Result (Unit {0}) DeepRefused → Type 0 = λ y z. Settled y.files z in
      let there : Told = told_of (after_put put base) in
      ⊎_elim
      (λ (x : (answer ≡ out_of_memory) × (t ≡ held old)).
      back P t (held old) answer out_of_memory x.1 x.0
      (no_memory (held old) refl once (forth S t (held old) answer out_of_memory x.1 x.0 here)))
      (λ (x : (answer ≡ putting put base) × (t ≡ there)).
      back P t there answer (putting put base) x.1 x.0
      (by_file (file_of base put.path) refl once (forth S t there answer (putting put base) x.1 x.0 here)))
      (told_exact (held old) t (putting put) (after_put put) answer calls)

is_answer : (wanted result : Result (List ℕ) DeepRefused) → result ≡ wanted → IsAnswer wanted result
is_answer wanted (Ok x) e = sym e
is_answer wanted (Err Absent) e = sym e
is_answer wanted (Err (OtherBytes kept offered)) e = sym e
is_answer wanted (Err Failed) e = sym e
is_answer wanted (Err Memory) e = tt

pub record GetDone (path : List ℕ) (log : List (Entry DeepPut)) (t : Told) (before after : Known DeepPut) (result : Result (List ℕ) DeepRefused) : Type 0 where
  pub holds : t ≡ held log
  pub gets : GetsFrom path log log before after result

pub get_done : (path : List ℕ) (log : List (Entry DeepPut)) (t : Told) (before after : Known DeepPut) (result : Result (List ℕ) DeepRefused)
    → Gets (means (held log)) (means t) path result → Tells log before after → GetDone path log t before after result
get_done path log t before after result calls told =
    let wanted : Result (List ℕ) DeepRefused = getting path (whats log) in
    let given : (t ≡ held log) × IsAnswer wanted result =
    ⊎_elim (λ (x : (result ≡ Err Memory) × (t ≡ held log)). (x.1, subst (IsAnswer wanted) (sym x.0) tt))
    (λ (x : (result ≡ wanted) × (t ≡ held log)). (x.1, is_answer wanted result x.0))
    (told_exact (held log) t (getting path) (λ base. base) result calls) in
    record {
      holds = given.0;
      gets = record { same = refl; told = told; answered = given.1; once = subst AreOnce calls.sees.all calls.sees.once };
    }

-- no path has two files, where nothing was added
pub once_still : (old new : List (Entry DeepPut)) → new ≡ old → AreOnce (whats old) → AreOnce (whats new)
once_still old new same once = subst (λ (l : List (Entry DeepPut)). AreOnce (whats l)) (sym same) once

-- ---- as the contracts see it

pub record DeepClosed (log : List (Entry DeepPut)) (t : Told) (Says : Type 0) : Type 0 where
  pub holds : t ≡ held log
  pub says : Says

pub put_closed : (put : DeepPut) (v old r_old r_new : List (Entry DeepPut)) (t0 t : Told) (files : List DeepPut) (count : ℕ) (before after : Known DeepPut) (answer result : Result (Unit {0}) DeepRefused)
    → old ≡ v → t0 ≡ held old → r_old ≡ old → count ≡ length t0.files → PutsFile (means t0) (means t) put answer → files ≡ t.files → SettledBy files count r_old r_new before after answer → result ≡ answer
    → DeepClosed r_new t (PutsOnce put v r_new before after result)
put_closed put v old r_old r_new t0 t files count before after answer result view holds same counted calls these settled given =
    let done : PutDone put old r_new t before after answer =
    put_done put old r_new before after t count r_old r_new answer (counted ∙ ap (λ (x : Told). length x.files) holds) same refl
    (subst (λ (x : Told). PutsFile (means x) (means t) put answer) holds calls)
    (subst (λ fs. SettledBy fs count r_old r_new before after answer) these settled) in
    record {
      holds = done.holds;
      says = subst (λ (x : List (Entry DeepPut)). PutsOnce put x r_new before after result) view
          (subst (λ y. PutsOnce put old r_new before after y) (sym given) done.puts);
    }

pub get_closed : (path : List ℕ) (v old new : List (Entry DeepPut)) (t0 t : Told) (before after : Known DeepPut) (result : Result (List ℕ) DeepRefused)
    → old ≡ v → t0 ≡ held old → new ≡ old → Gets (means t0) (means t) path result → Tells old before after → DeepClosed new t (GetsFrom path v new before after result)
get_closed path v old new t0 t before after result view holds same calls told =
    let done : GetDone path old t before after result = get_done path old t before after result (subst (λ (x : Told). Gets (means x) (means t) path result) holds calls) told in
    record {
      holds = done.holds ∙ ap held (sym same);
      says = subst (λ (x : List (Entry DeepPut)). GetsFrom path x new before after result) view
          (subst (λ (l : List (Entry DeepPut)). GetsFrom path old l before after result) (sym same) done.gets);
    }

-- ---- shared

sees : (before : Known DeepPut) (log : List (Entry DeepPut)) → IsFront before.seen log → AreOnce (whats log) → Sees (shared_meaning before) (whats log)
sees before log begins once = record { grows = whats_front before.seen log begins; all = tt; once = once }

-- ---- what is the caller's own

abbrev some_own : List ℕ → List DeepPut → Option Own
some_own numbers files = Some (record { numbers = numbers; files = files })

own_told : (log : List (Entry DeepPut)) (before after : Known DeepPut) → Tells log before after → some_own after.numbers (whats (mine after.numbers after.seen)) ≡ some_own before.numbers (whats (mine before.numbers before.seen))
own_told log before after t =
    ap (λ n. some_own n (whats (mine after.numbers after.seen))) (ap (λ (k : Known DeepPut). k.numbers) t.front)
    ∙ ap (λ es. some_own before.numbers (whats es)) t.mine

-- a call that added nothing adds nothing of the caller's own
own_kept : (log : List (Entry DeepPut)) (before after : Known DeepPut) (base : List DeepPut) → Tells log before after → whats after.seen ≡ base
    → Gains (Some (own_by before)) (Some (own_by after)) base (whats after.seen)
own_kept log before after base t seen = (
  [],
  seen ∙ sym (append-nil base),
  own_told log before after t ∙ ap (some_own before.numbers) (sym (append-nil (whats (mine before.numbers before.seen)))),
)

-- a file that was noted is the caller's own
own_noted : (old new : List (Entry DeepPut)) (before after : Known DeepPut) (w : DeepPut) → Notes old new before after w
    → Gains (Some (own_by before)) (Some (own_by after)) (whats old) (whats after.seen)
own_noted old new before after w n = (
  w ∷ [],
  ap (λ (k : Known DeepPut). whats k.seen) n.front ∙ ap whats n.log ∙ whats_append old (next_entry before w ∷ []),
  ap (λ m. some_own m (whats (mine after.numbers after.seen))) (ap (λ (k : Known DeepPut). k.numbers) n.front)
      ∙ ap (λ es. some_own before.numbers (whats es)) n.mine
      ∙ ap (some_own before.numbers) (whats_append (mine before.numbers before.seen) (next_entry before w ∷ [])),
)

module _ (put : DeepPut) (before after : Known DeepPut) where
  abbrev Shared : Result (Unit {0}) DeepRefused → Type 0
  Shared result = PutsFile (shared_meaning before) (shared_meaning after) put result

  beside : (o : Option DeepPut) (old new : List (Entry DeepPut)) → AddsBeside o old new before after put → IsFront before.seen old × (whats after.seen ≡ after_beside o (whats old) put)
  beside None old new n = (
    n.begins,
    ap (λ (k : Known DeepPut). whats k.seen) n.front ∙ ap whats n.log ∙ whats_append old (next_entry before put ∷ []),
  )
  beside (Some file) old new t = (t.1.begins, ap (λ (k : Known DeepPut). whats k.seen) t.1.front)

  own_beside : (o : Option DeepPut) (old new : List (Entry DeepPut)) → AddsBeside o old new before after put → Gains (Some (own_by before)) (Some (own_by after)) (whats old) (whats after.seen)
  own_beside None old new n = own_noted old new before after put n
  own_beside (Some file) old new t = own_kept old before after (whats old) t.1 (ap (λ (k : Known DeepPut). whats k.seen) t.1.front)

  -- a refused put changes nothing
  unchanged : (o : Option DeepPut) (old : List (Entry DeepPut)) (e : DeepRefused) → unwrap_or (compared_in o put.bytes) okay ≡ Err e → after_beside o (whats old) put ≡ whats old
  unchanged None old e same = absurd (not_okay e okay (refusing e) refl refl same)
  unchanged (Some file) old e same = refl

  still : (old : List (Entry DeepPut)) → Tells old before after → after_beside (file_of (whats old) put.path) (whats old) put ≡ whats old → whats after.seen ≡ after_put put (whats old)
  still old told same = ap (λ (k : Known DeepPut). whats k.seen) told.front ∙ sym same

  pub shared_put : (old new : List (Entry DeepPut)) (result : Result (Unit {0}) DeepRefused) → PutsOnce put old new before after result → Shared result
  shared_put old new (Ok x) w =
      let b = beside (file_of (whats old) put.path) old new w.adds in
      record { fault = Nothing; base = whats old; sees = sees before old b.0 w.once; goes = record { meets = refl; counts = omega arith; answered = sym w.answer; seen = b.1; own = own_beside (file_of (whats old) put.path) old new w.adds } }
  shared_put old new (Err Memory) w =
      record { fault = Nothing; base = whats old; sees = sees before old w.told.begins w.once; goes = record { told = refl; faults = refl; seen = ap (λ (k : Known DeepPut). whats k.seen) w.told.front; own = own_told old before after w.told } }
  shared_put old new (Err Absent) w =
      record { fault = Nothing; base = whats old; sees = sees before old w.told.begins w.once; goes = record { meets = refl; counts = omega arith; answered = sym w.cause; seen = still old w.told (unchanged (file_of (whats old) put.path) old Absent w.cause); own = own_kept old before after (whats old) w.told (ap (λ (k : Known DeepPut). whats k.seen) w.told.front) } }
  shared_put old new (Err (OtherBytes kept offered)) w =
      record { fault = Nothing; base = whats old; sees = sees before old w.told.begins w.once; goes = record { meets = refl; counts = omega arith; answered = sym w.cause; seen = still old w.told (unchanged (file_of (whats old) put.path) old (OtherBytes kept offered) w.cause); own = own_kept old before after (whats old) w.told (ap (λ (k : Known DeepPut). whats k.seen) w.told.front) } }
  shared_put old new (Err Failed) w =
      record { fault = Nothing; base = whats old; sees = sees before old w.told.begins w.once; goes = record { meets = refl; counts = omega arith; answered = sym w.cause; seen = still old w.told (unchanged (file_of (whats old) put.path) old Failed w.cause); own = own_kept old before after (whats old) w.told (ap (λ (k : Known DeepPut). whats k.seen) w.told.front) } }

  told_only : (log : List (Entry DeepPut)) → Tells log before after → SeesMore before after
  told_only log told = record { log = log; told = told }

got : (path : List ℕ) (before after : Known DeepPut) (old : List (Entry DeepPut)) (r : Result (List ℕ) DeepRefused) → Tells old before after → Sees (shared_meaning before) (whats old) → whats after.seen ≡ whats old → IsAnswer (getting path (whats old)) r → Gets (shared_meaning before) (shared_meaning after) path r
got path before after old (Err Memory) t s seen a = record { fault = Nothing; base = whats old; sees = s; goes = record { told = refl; faults = refl; seen = seen; own = own_told old before after t } }
got path before after old (Ok x) t s seen a = record { fault = Nothing; base = whats old; sees = s; goes = record { meets = refl; counts = omega arith; answered = sym a; seen = seen; own = own_kept old before after (whats old) t seen } }
got path before after old (Err Absent) t s seen a = record { fault = Nothing; base = whats old; sees = s; goes = record { meets = refl; counts = omega arith; answered = sym a; seen = seen; own = own_kept old before after (whats old) t seen } }
got path before after old (Err (OtherBytes kept offered)) t s seen a = record { fault = Nothing; base = whats old; sees = s; goes = record { meets = refl; counts = omega arith; answered = sym a; seen = seen; own = own_kept old before after (whats old) t seen } }
got path before after old (Err Failed) t s seen a = record { fault = Nothing; base = whats old; sees = s; goes = record { meets = refl; counts = omega arith; answered = sym a; seen = seen; own = own_kept old before after (whats old) t seen } }

pub shared_get : (path : List ℕ) (before after : Known DeepPut) (old new : List (Entry DeepPut)) (result : Result (List ℕ) DeepRefused) → GetsFrom path old new before after result
    → Gets (shared_meaning before) (shared_meaning after) path result
shared_get path before after old new result w =
    got path before after old result w.told (sees before old w.told.begins w.once) (ap (λ (k : Known DeepPut). whats k.seen) w.told.front) w.answered
